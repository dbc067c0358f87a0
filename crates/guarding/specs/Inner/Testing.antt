-- The own tests of the guard's calls, and what their functions leave. Assumes nothing.
use Rattle.std.specs.Prelude.{ℕ, Some, Bool, List, [], ◌∷◌, ◌≡◌, eqb, ltb}
use Rattle.slots.specs.Sizes.{Slices, slices, limits}
use Rattle.slots.specs.Scratch.{size_answer}
use Rattle.slots.specs.View.{View}
use Rattle.slots.specs.Store.{is_valid}
use Rattle.guard.specs.Guard.{Config, pool_of, guard_status}
use Rattle.guard.specs.Guard as Guards
use Rattle.guard.specs.declared.Config as lent
use Rattle.calls.specs.Refusals.{Test, config_over, is_off}
use Rattle.index.specs.declared.Index.{Index}
use Rattle.index.specs.Index.{guard_of}
use Rattle.guarding.specs.declared.Status.{Status}
use Rattle.guarding.specs.Guarding.{status_of}

-- 7, 8, 12 and 13, of which the live count decides the last two (`one_live`)
abbrev pub enable_tests : Index → Config → ℕ → List Test
enable_tests index c scratch =
    (7, config_over limits c) ∷ (8, ltb scratch (size_answer index.capacity)) ∷ (12, eqb index.live 0) ∷ (13, eqb index.live 1) ∷ []

-- 8 and 11
abbrev pub guard_tests : Index → ℕ → List Test
guard_tests index scratch = (8, ltb scratch (size_answer index.capacity)) ∷ (11, is_off (guard_of index.guard)) ∷ []

-- 7, given what it finds, 8 and 11
abbrev pub report_tests : Index → Bool → ℕ → List Test
report_tests index over scratch = (7, over) ∷ guard_tests index scratch

-- an index whose guard is on, with a pool of n landmarks
abbrev pub guarded_index : Index → lent.Config ℕ → ℕ → Index
guarded_index i c n =
    record {
      dim = i.dim;
      capacity = i.capacity;
      degree = i.degree;
      alpha = i.alpha;
      entry = i.entry;
      live = i.live;
      guard = Some (record { config = c; pool = n });
    }

-- the slices with another pool
abbrev pub with_pool : Slices → List ℕ → Slices
with_pool s pool = slices s.vectors s.targets s.edges s.versions s.marks pool s.numbers s.summary s.weights

-- the status of a guard, by the marks
pub record Stood (g : Guards.Guard) (marks pool : List ℕ) (r : Status) : Type 0 where
  pub does : (v : View) → v.live ≡ is_valid marks → status_of r ≡ guard_status v g (pool_of g pool)
