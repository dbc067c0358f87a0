-- The status of the guard: what the code finds is what the definitions say. Assumes nothing.
use Prim.Native.Nat.{ℕ, ◌≤◌}
use mathlib.Core.Bool.{true, false}
use mathlib.Core.Path.{◌≡◌, refl, sym, ap, ◌∙◌}
use mathlib.Core.List.{List, []}
use native.Mathlib.Omega.{arith}
use lib.ListN.{length, take}
use lib.Seq.{length-take-le}
use Rattle.lists.specs.Lists.{filter}
use Rattle.slots.specs.Sizes.{Slices, limits}
use Rattle.slots.specs.Store.{Store, is_valid, store_view, store_ops}
use Rattle.guard.specs.Guard.{pool_of, guard_status}
use Rattle.index.specs.declared.Index.{Index}
use Rattle.index.specs.declared.Guard.{Guard}
use Rattle.std.specs.Prelude.{Option, Some, None, Result, Ok, Err}
use Rattle.index.specs.declared.Refusal.{Refusal}
use Rattle.index.specs.Refusal.{number_of}
use Rattle.calls.specs.Calls.{Call, status, standing, refused_as}
use Rattle.calls.specs.Outputs.{no_outputs, written}
use Rattle.calls.specs.Refusals.{guard_fault, tests}
use Rattle.calls.specs.State.{State, stored, shown}
use Rattle.calls.specs.Step.{perform}
use Rattle.calls.specs.Runs.{lent_of, slices_of, call_of}
use Rattle.index.specs.Index.{guard_of, state_of}
use Rattle.index.specs.Inner.Deciding.{Decided}
use Rattle.index.proofs.Decide.{turned_back, let_through, passed, step_back, step_on}
use Rattle.guarding.specs.declared.Status.{Status}
use Rattle.guarding.specs.Guarding.{standing_as, Stands}
use Rattle.guarding.specs.Inner.Testing.{Stood}
use Rattle.guarding.proofs.Shared.{sound_on}

-- ---- the status of a guard

pub stood_off : (g : Option Guard) (marks pool : List ℕ) {r : Status} → g ≡ None
    → (r.enabled ≡ false) × ((r.pool ≡ 0) × ((r.live ≡ 0) × ((r.count ≡ 0) × (r.beam ≡ 0)))) → Stood (guard_of g) marks pool r
unfolding guard_of guard_status
stood_off g marks pool e q =
    rw e (record { does = λ v h. λ i. record { enabled = q.0 i; pool_size = q.1.0 i; live_landmarks = q.1.1.0 i; landmark_count = q.1.1.1.0 i; beam = q.1.1.1.1 i } })

module _ (g : Option Guard) (marks pool : List ℕ) {s : Guard} (e : g ≡ Some s) (f : guard_fault limits (guard_of g) ≡ false) (l : length pool ≡ limits.pool) where
  pub pool_inside : (s.pool ≤ length pool) × (s.pool ≤ 1024)
  unfolding limits
  pool_inside = let h = (sound_on g e f).pool_most in (omega (arith, h), h)

  pub stood_on : {live : ℕ} → live ≡ length (filter (is_valid marks) (take s.pool pool))
      → Stood (guard_of g) marks pool (record { enabled = true; pool = s.pool; live = live; count = s.config.count; beam = s.config.beam })
  unfolding guard_of guard_status pool_of
  stood_on k =
      let m : length (take s.pool pool) ≡ s.pool = length-take-le s.pool pool pool_inside.0 in
      rw e (record { does = λ v h. rw (h, k, m) })

-- ---- the call

module _ (index : Index) (s : Slices) {A : Type 0} {r : Result A Refusal} (d : Decided index s false [] r) where
  abbrev now : State Store
  now = state_of index s

  abbrev call : Call
  call = record { lent = lent_of s no_outputs []; operation = status }

  pub stands_back : {x : Refusal} → r ≡ Err x → Stands index s (Err x)
  unfolding tests refused_as standing_as written state_of call_of slices_of
  stands_back {x} n =
      record { meets = record { does = sym (step_back now call (number_of x) (turned_back d n)); writes = refl; keeps = λ m e. refl } }

  module _ {u : A} (z : r ≡ Ok u) where
    pub stands_ready : (guard_fault limits (guard_of index.guard) ≡ false) × (length s.pool ≡ limits.pool)
    stands_ready = let p = passed d z in (p.guard_right, p.pool_long)

    pub stands_on : {t : Status} → Stood (guard_of index.guard) s.marks s.pool t → Stands index s (Ok t)
    unfolding tests perform standing_as written stored store_ops store_view shown state_of call_of slices_of
    stands_on {t} f =
        record {
          meets = record {
            does = ap (λ x. (now, standing x)) (f.does (store_view now.graph) refl) ∙ sym (step_on now call (let_through d z));
            writes = refl;
            keeps = λ m e. refl;
          };
        }
