-- Demand 3 over runs of the code: each run meets what its contract says, whatever the scratch held before and holds after. Assumes nothing.
use Rattle.std.specs.Prelude.{ℕ, List, [], ◌∷◌, map, ◌≡◌, length}
use Rattle.std.proofs.Math.Option.{Option, none, some}
use Rattle.slots.specs.Sizes.{Slices, slices, Lengths, lengths_of, limits}
use Rattle.slots.specs.View.{View}
use Rattle.slots.specs.Store.{Store, store_view}
use Rattle.calls.specs.Calls.{Making, Operation, create, Lent, Call, Answer}
use Rattle.calls.specs.Outputs.{Outputs, room_of, written}
use Rattle.calls.specs.Refusals.{first_of, making_tests}
use Rattle.calls.specs.State.{State, Value, made, stored, plain}
use Rattle.calls.specs.Step.{step, refusal}
use Rattle.calls.specs.History.{Seen, compared, trace, Within}

-- one run of a public function: what it was given and lent, what outputs and scratch held, and what it left and answered
pub record Run : Type 0 where
  pub operation : Operation
  pub before : State Store
  pub after : State Store
  pub answer : Answer
  pub outputs_before : Outputs
  pub outputs_after : Outputs
  pub scratch_before : List ℕ
  pub scratch_after : List ℕ

-- an index's nine slices, and its value
unfoldable pub slices_of : State Store → Slices
slices_of w =
    let a = w.graph.arrays in
    slices a.vectors a.targets a.edges a.versions a.marks w.pool w.numbers w.summary w.weights

unfoldable pub value_of : State Store → Value
value_of w = record { sizes = (store_view w.graph).sizes; entry = w.graph.entry; live = w.live; guard = w.guard }

-- the lengths of what is lent
abbrev pub lent_of : Slices → Outputs → List ℕ → Lent
lent_of s o scratch = record { slices = lengths_of s; room = room_of o; scratch = length scratch }

abbrev pub slices_lent : Run → Lengths
slices_lent r = lengths_of (slices_of r.before)

unfoldable pub call_of : Run → Call
call_of r = record { lent = lent_of (slices_of r.before) r.outputs_before r.scratch_before; operation = r.operation }

-- a run is given the index as the last one left it, or it makes one anew. It is lent the very slices that the last one left, or slices of which at least
-- one has another length.
pub data Lends (w : State Store) (r : Run) : Type 0 where
  the_index : r.before ≡ w → Lends w r
  other_slices : value_of r.before ≡ value_of w → (slices_lent r ≡ lengths_of (slices_of w) → ⊥) → Lends w r
  a_new_one : (m : Making) → r.operation ≡ create m → Lends w r

unfoldable pub run_refusal : Run → Option ℕ
run_refusal r = refusal stored r.before (call_of r)

-- the contract of every public function: nothing is said of the scratch but that a call that is turned back leaves it
pub record Meets (r : Run) : Type 0 where
  pub does : (r.after, r.answer) ≡ step stored r.before (call_of r)
  pub writes : r.outputs_after ≡ written r.answer r.outputs_before
  pub keeps : (n : ℕ) → run_refusal r ≡ some n → r.scratch_after ≡ r.scratch_before

-- what the app has after a run: where it was turned back, what it had
unfoldable pub after_run : State Store → Run → Option ℕ → State Store
after_run w r (some n) = w
after_run w r none = r.after

unfoldable pub next : State Store → Run → State Store
next w r = after_run w r (run_refusal r)

-- each run finds what the last one left
abbrev pub Chain : State Store → List Run → Type 0
Chain w [] = Unit {0}
Chain w (r ∷ rs) = Lends w r × Meets r × Chain (next w r) rs

abbrev pub observed : State Store → List Run → List (Seen × Answer)
observed w [] = []
observed w (r ∷ rs) = compared stored (next w r, r.answer) ∷ observed (next w r) rs

-- the claim, whatever stood in the memory before the accepted making with which the runs begin
abbrev pub HistoryOfRuns : Type 0
HistoryOfRuns =
    (w : State Store) (p : State View) (m : Making) (r : Run) (rs : List Run)
    → r.operation ≡ create m
    → first_of (making_tests limits (slices_lent r) m) ≡ none
    → Chain w (r ∷ rs)
    → Within [] (made plain m) (map call_of rs)
    → observed w (r ∷ rs) ≡ trace plain p (map call_of (r ∷ rs))
