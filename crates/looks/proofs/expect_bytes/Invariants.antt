-- What is left to read from here is left to read from the start.
use Rattle.std.proofs.Common.{Option, drop}
use denote.Ref.{Bor}
use Rattle.std.specs.Prelude.{List, ℕ}
use Rattle.text.specs.Inner.Text.{ReadsAll}
use Rattle.looks.proofs.expect_bytes.Given as goal

abbrev pub invariant-loop-byte : goal.invariant-loop-byte
invariant-loop-byte l = (end : Option (Bor (List ℕ))) → ReadsAll l.line.rest end (drop l.byte-index l.got) → ReadsAll l.initial.line.rest end l.got
