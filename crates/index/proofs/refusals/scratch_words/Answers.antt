use mathlib.Core.Path.{ap, ◌∙◌}
use native.Mathlib.Omega.{arith}
use Rattle.std.specs.Prelude.{Ok}
use Rattle.slots.specs.Scratch.{size_answer}
use Rattle.index.proofs.Decide.{words_refused, words_given, sized}
use Rattle.index.proofs.refusals.scratch_words.Goals as goal

pub returns-then-sizes_bad : goal.returns-then-sizes_bad
returns-then-sizes_bad c = words_refused _ _ _ c.sizes_bad.ensures c.if-sizes_bad.true

pub overflow_cast-result : goal.overflow_cast-result
unfolding size_answer
overflow_cast-result c = let r = sized _ _ _ c.sizes_bad.ensures c.if-sizes_bad.false in omega (arith, r, c.size_answer.ensures)

pub returns : goal.returns
returns c alpha = ap Ok c.size_answer.ensures ∙ words_given _ _ _ c.sizes_bad.ensures c.if-sizes_bad.false alpha
