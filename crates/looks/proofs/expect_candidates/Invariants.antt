-- What is left to read from here is left to read from the start.
use Rattle.std.proofs.Common.{Option}
use denote.Ref.{Bor}
use Rattle.std.specs.Prelude.{List, ℕ}
use Rattle.looks.specs.Inner.Readings.{CandidatesRead}
use Rattle.looks.proofs.expect_candidates.Given as goal

abbrev pub invariant-loop-slot : goal.invariant-loop-slot
invariant-loop-slot l = (end : Option (Bor (List ℕ))) → CandidatesRead l.line.rest end l.slot-iterator.a.a.rest.now l.slot-iterator.a.b.rest.now l.slot-iterator.b.rest.now → CandidatesRead l.fn.line.rest end l.slots l.dists l.figures
