-- What is left to read from here is left to read from the start.
use Rattle.std.proofs.Common.{Option, drop}
use denote.Ref.{Bor}
use Rattle.std.specs.Prelude.{List, ℕ}
use Rattle.text.specs.Inner.Text.{ReadsAll}
use Rattle.text.proofs.Numbers.expect_all.Given as goal

abbrev pub invariant-loop-answer : goal.invariant-loop-answer
invariant-loop-answer l = (end : Option (Bor (List ℕ))) → ReadsAll l.self.rest end (drop l.answer-index l.answers) → ReadsAll l.fn.self.rest end l.answers
