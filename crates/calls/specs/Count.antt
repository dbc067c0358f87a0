-- The live count as document 01 has it: the number given, plus all inserted, less all emptied (docs/DECISIONS.md, D-42). Assumes nothing.
use Rattle.std.specs.Prelude.{ℕ, ◌+◌, ◌/◌, cond, List, [], ◌∷◌, ◌≡◌, length}
use Rattle.std.proofs.Math.Option.{Option, none, some}
use Rattle.slots.specs.Sizes.{limits}
use Rattle.slots.specs.View.{View, emptied}
use Rattle.calls.specs.Calls.{Making, Operation, create, read, read_vector, search, insert, delete, enable, status, assess, guarded_delete, Lent, Call}
use Rattle.calls.specs.Refusals.{first_of, making_tests}
use Rattle.calls.specs.State.{State, Kind, shown, made}
use Rattle.calls.specs.Step.{report_of, named, refusal, step}

-- how many were given or inserted, and how many emptied, since the index was last made
pub record Tally : Type 0 where
  pub came : ℕ
  pub left : ℕ

-- after a call that is carried out; w is what the call sees
unfoldable pub tally_performed : Tally → State View → Operation → Tally
tally_performed t w (create m) = record { came = m.count; left = 0 }
tally_performed t w (read r) = t
tally_performed t w (read_vector s) = t
tally_performed t w (search a) = t
tally_performed t w (insert a) = record { came = t.came + length a.bytes / w.graph.sizes.dim; left = t.left }
tally_performed t w (delete a) = record { came = t.came; left = t.left + length (emptied w.graph (named w a)) }
tally_performed t w (enable config) = t
tally_performed t w status = t
tally_performed t w (assess a) = t
tally_performed t w (guarded_delete a) =
    cond (report_of w (named w a)).admitted (record { came = t.came; left = t.left + length (emptied w.graph (named w a)) }) t

unfoldable pub tally_settled : Tally → State View → Call → Option ℕ → Tally
tally_settled t w c (some n) = t
tally_settled t w c none = tally_performed t w c.operation

module _ {B : Type 0} (K : Kind B) where
  unfoldable pub tally_after : Tally → State B → Call → Tally
  tally_after t w c = tally_settled t (shown K w) c (refusal K w c)

  -- the live count is right before a list of calls, and after each
  abbrev pub Counted : Tally → State B → List Call → Type 0
  Counted t w [] = w.live + t.left ≡ t.came
  Counted t w (c ∷ cs) = (w.live + t.left ≡ t.came) × Counted (tally_after t w c) (step K w c).0 cs

  -- the claim: it is so from an accepted making on
  abbrev pub LiveCount : Type 0
  LiveCount = (lent : Lent) (m : Making) (cs : List Call) → first_of (making_tests limits lent.slices m) ≡ none → Counted (record { came = m.count; left = 0 }) (made K m) cs
