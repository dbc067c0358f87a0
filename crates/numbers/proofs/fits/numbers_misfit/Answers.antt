use mathlib.Core.Path.{sym, ◌∙◌}
use mathlib.Core.Logic.{inl, inr}
use Rattle.std.specs.Iterator.Adapters.{zip_first, zip_second}
use Rattle.std.specs.Slice.Iter.{chunks_rest}
use Rattle.numbers.proofs.Tests.{blocks_more, blocks_fail, blocks_done}
use Rattle.numbers.proofs.fits.numbers_misfit.Goals as goal

pub returns : goal.returns
returns c = blocks_done c.loop-some_marks.invariant (elim c.in-None.ensures.steps [ inl h ↦ inl h.1.1.0 | inr h ↦ inr h.1.1.0 ]) c.requires

pub loop-some_marks-preserved : goal.loop-some_marks-preserved
loop-some_marks-preserved c =
    blocks_more c.loop-some_marks.invariant c.in-Some.some_marks.now c.in-Some.some_numbers.now (chunks_rest (zip_first c.next.new.self)) (chunks_rest (zip_second c.next.new.self))
    (sym c.if-block_misfits.false ∙ c.block_misfits.ensures) c.in-Some.ensures.steps.0 c.in-Some.ensures.steps.1

pub returns-then-block_misfits : goal.returns-then-block_misfits
returns-then-block_misfits c =
    blocks_fail c.loop-some_marks.invariant c.in-Some.some_marks.now c.in-Some.some_numbers.now (chunks_rest (zip_first c.next.new.self)) (chunks_rest (zip_second c.next.new.self))
    (sym c.if-block_misfits.true ∙ c.block_misfits.ensures) c.in-Some.ensures.steps.0 c.in-Some.ensures.steps.1 c.requires
