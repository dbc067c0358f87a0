-- The vectors of dead slots, over the calls: document 02, E5. Assumes nothing.
use Rattle.std.specs.Prelude.{ℕ, List, [], ◌∷◌, ◌≡◌, length}
use Rattle.std.proofs.Math.Option.{none}
use Rattle.slots.specs.Sizes.{limits}
use Rattle.slots.specs.View.{Alike}
use Rattle.slots.specs.Store.{Store, arrays, with_arrays}
use Rattle.calls.specs.Calls.{Making, Lent, Call, Answer}
use Rattle.calls.specs.Refusals.{first_of, making_tests}
use Rattle.calls.specs.State.{State, Kind, stored, view_of, made}
use Rattle.calls.specs.Step.{step}
use Rattle.calls.specs.Entered.{after}

-- what a list of calls answers, versions too
abbrev pub answers : {B : Type 0} → Kind B → State B → List Call → List Answer
answers K w [] = []
answers K w (c ∷ cs) = let r = step K w c in r.1 ∷ answers K r.0 cs

-- an index with another graph, and a graph with other bytes for vectors
abbrev pub on_graph : {B : Type 0} → State B → B → State B
on_graph w b = record { graph = b; live = w.live; guard = w.guard; pool = w.pool; numbers = w.numbers; summary = w.summary; weights = w.weights }

abbrev pub with_bytes : Store → List ℕ → Store
with_bytes b bytes = let a = b.arrays in with_arrays b (arrays a.measure a.dim a.degree bytes a.targets a.edges a.versions a.marks)

-- w' is w altered only in the vectors of dead slots: all else is equal, in the slices too
pub record Altered (w w' : State Store) : Type 0 where
  pub others : w' ≡ on_graph w (with_bytes w.graph w'.graph.arrays.vectors)
  pub long : length w'.graph.arrays.vectors ≡ length w.graph.arrays.vectors
  pub alike : Alike (view_of stored w) (view_of stored w')

-- what calls make of two indexes is the same: equal answers, and two indexes altered only there again
pub record SameResults (w w' : State Store) (cs : List Call) : Type 0 where
  pub same_answers : answers stored w' cs ≡ answers stored w cs
  pub left : Altered (after stored w cs) (after stored w' cs)

-- so it is of an index that calls have reached, from an accepted making on, and the same index altered. That calls have reached it is needed:
-- docs/DIFFERENCES.md, R-15.
abbrev pub DeadBytes : Type 0
DeadBytes =
    (lent : Lent) (m : Making) (cs : List Call)
    → first_of (making_tests limits lent.slices m) ≡ none
    → let w = after stored (made stored m) cs in
    (w' : State Store) → Altered w w' → (later : List Call) → SameResults w w' later
