use Rattle.std.proofs.Common.{◌∙◌, arith}
use Rattle.slots.proofs.Count.{count_block, counted_all}
use Rattle.slots.proofs.marks.count_valid.Goals as goal

pub loop-block-preserved : goal.loop-block-preserved
loop-block-preserved c = let i = c.loop-block.invariant in
    let s = c.in-Some.ensures.steps in
    let k = count_block _ _ _ s.1.0 (c.from-n.ensures ∙ c.count_block.ensures) in
    (s.0 ∙ i.0, omega (arith, k.0, i.1), omega (arith, k.1, i.2))

pub returns : goal.returns
returns c = counted_all _ _ c.in-None.ensures.steps.1.0 c.loop-block.invariant.2
