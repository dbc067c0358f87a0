-- The tests of the calls that give a report, and the report where none holds. Assumes nothing.
use Prim.Native.Nat.{ℕ, min, ◌≤◌}
use mathlib.Core.Bool.{Bool, true, false}
use mathlib.Core.Path.{◌≡◌, refl, sym, ap, ◌∙◌, subst}
use mathlib.Core.List.{List, [], ◌∷◌}
use mathlib.Core.Option.{none, some}
use lib.Dec.{ltb}
use lib.ListN.{length, take}
use Rattle.vectors.specs.Weights.{Weighing}
use Rattle.slots.specs.Sizes.{Slices, lengths_of, limits}
use Rattle.slots.specs.Scratch.{size_answer}
use Rattle.admission.specs.Inner.Reports.{Reports, Assessable}
use Rattle.admission.specs.Inner.Reports as Reporting
use Rattle.admission.specs.declared.report.Report.{Report}
use Rattle.index.specs.declared.Index.{Index}
use Rattle.index.specs.declared.Guard.{Guard}
use Rattle.calls.specs.Refusals.{first_of, index_tests, is_off}
use Rattle.calls.specs.State.{stored, shown}
use Rattle.calls.specs.Step.{report_of}
use Rattle.calls.proofs.Tests.{first_none}
use Rattle.index.specs.Index.{guard_of, state_of, arrays_of}
use Rattle.index.specs.Inner.Deciding.{Decided, Passed}
use Rattle.index.proofs.Decide.{decided_before, decided_after, turned_back, let_through, own_none, not_wrong, passed, passed_weighing}
use Rattle.index.specs.declared.Refusal.{Refusal}
use Rattle.index.specs.declared.Refusal.TheVariants as Refused
use Rattle.index.specs.Refusal.{number_of}
use Rattle.std.specs.Option.{ok_or}
use Rattle.std.proofs.lemmas.Result.{IfOk-at_ok}
use Rattle.std.specs.Prelude.{Option as Opt, IfOk, Some, None, Result, Ok, Err}
use Rattle.guarding.specs.Inner.Testing.{guard_tests, report_tests}
use Rattle.index.specs.Refusal.{turned_back as turned}
use Rattle.updating.proofs.Fills.{ok_is}
use Rattle.guarding.proofs.Shared.{assessable, reported}

-- what a report asks of the tests that come before it: the call's part of 3, and 7
pub record Testable (wrong over : Bool) (ids checked lost : List ℕ) : Type 0 where
  pub long : wrong ≡ false → limits.landmarks ≤ min (length checked) (length lost)
  pub few : over ≡ false → length ids ≤ limits.ids

-- a report, or the number of the first test that holds, and then nothing is written
pub record Tested (index : Index) (s : Slices) (wrong over : Bool) (ids checked lost scratch checked' lost' scratch' : List ℕ) (r : Result Report Refusal) : Type 0 where
  pub decided : Decided index s wrong (report_tests index over (length scratch)) r
  pub back : (e : Refusal) → r ≡ Err e → (checked' ≡ checked) × (lost' ≡ lost) × (scratch' ≡ scratch)
  pub on : (v : Report) → r ≡ Ok v → Reports (report_of (shown stored (state_of index s)) ids) checked checked' lost lost' v

-- ---- rows 8 and 11

module _ (index : Index) (scratch : ℕ) {q₈ : Bool} (h : q₈ ≡ ltb scratch (size_answer index.capacity)) where
  abbrev Guards : Result Guard Refusal → Type 0
  Guards k = (turned k ≡ first_of (guard_tests index scratch)) × IfOk k (λ g. index.guard ≡ Some g)

  pub guard_short : q₈ ≡ true → Guards (Err Refused.Scratch)
  guard_short t = (rw (sym h ∙ t) refl, tt)

  -- the guard, or row 11
  pub guard_last : q₈ ≡ false → {k : Result Guard Refusal} → k ≡ ok_or index.guard Refused.GuardOff → Guards k
  unfolding guard_of is_off
  guard_last t e = subst Guards (sym e) (go index.guard refl)
    where
      go : (g : Opt Guard) → index.guard ≡ g → Guards (ok_or g Refused.GuardOff)
      go None q = (rw (sym h ∙ t, q) refl, tt)
      go (Some s) q = (rw (sym h ∙ t, q) refl, q)

-- ---- row 7, after those that calls share

module _ {index : Index} {s : Slices} {wrong : Bool} (over : Bool) (scratch : ℕ) {A : Type 0} {r : Result A Refusal} (d : Decided index s wrong [] r) where
  abbrev Turns : Result Guard Refusal → Type 0
  Turns k = Decided index s wrong (report_tests index over scratch) k

  pub turns_before : {x : Refusal} → r ≡ Err x → Turns (Err x)
  turns_before z = decided_before d _ z

  module _ {u : A} (z : r ≡ Ok u) where
    pub turns_over : over ≡ true → Turns (Err Refused.Limits)
    turns_over t = decided_after d _ _ z (rw t)

    pub turns_guard : over ≡ false → {k : Result Guard Refusal} → turned k ≡ first_of (guard_tests index scratch) → Turns k
    turns_guard f e = decided_after d _ _ z (rw f e)

-- ---- the report

module _ (index : Index) (s : Slices) (wrong over : Bool) (scratch : List ℕ) {A : Type 0} {r : Result A Refusal}
    (d : Decided index s wrong (report_tests index over (length scratch)) r) where
  abbrev short : Bool
  short = ltb (length scratch) (size_answer index.capacity)

  abbrev idle : Bool
  idle = is_off (guard_of index.guard)

  pub number_given : {x : Refusal} → r ≡ Err x → first_of (index_tests limits (lengths_of s) (shown stored (state_of index s)) wrong (report_tests index over (length scratch))) ≡ some (number_of x)
  number_given n = turned_back d n

  pub tested_back : (ids checked lost : List ℕ) {x : Refusal} → r ≡ Err x → Tested index s wrong over ids checked lost scratch checked lost scratch (Err x)
  tested_back ids checked lost n =
      record { decided = record { does = sym (ap turned n) ∙ d.does }; back = λ e h. (refl, refl, refl); on = λ v e. cc }

  module _ {u : A} (z : r ≡ Ok u) where
    pub able : Passed index s
    able = passed d z

    pub none_given : first_of (index_tests limits (lengths_of s) (shown stored (state_of index s)) wrong (report_tests index over (length scratch))) ≡ none
    none_given = let_through d z

    pub lists_right : wrong ≡ false
    lists_right = not_wrong d z

    -- what the call's own tests leave
    pub own : (over ≡ false) × (short ≡ false)
    own =
        let e = first_none 7 over ((8, short) ∷ (11, idle) ∷ []) (own_none d z) in
        (e.0, (first_none 8 short ((11, idle) ∷ []) e.1).0)

-- ---- the report, by the guard that the tests give

module _ (index : Index) (s : Slices) (wrong over : Bool) (scratch : List ℕ) {r : Result Guard Refusal}
    (c : Decided index s wrong (report_tests index over (length scratch)) r × IfOk r (λ g. index.guard ≡ Some g)) {t : Guard} (z : r ≡ Ok t) (ids checked lost : List ℕ) where
  on : index.guard ≡ Some t
  on = IfOk-at_ok (λ g. index.guard ≡ Some g) z c.1

  pub tested_ready : Testable wrong over ids checked lost → Assessable (arrays_of index s) t.config.count t.config.sample t.config.beam s.pool t.pool ids checked lost scratch
      × Weighing s.weights × (length s.weights ≡ index.dim)
  unfolding limits
  tested_ready q =
      let o = own index s wrong over scratch c.0 z in
      let p = able index s wrong over scratch c.0 z in
      (assessable p on ids checked lost scratch (q.few o.0) (q.long (lists_right index s wrong over scratch c.0 z)) o.1, passed_weighing p, p.weights_long)

  pub tested_on : {checked' lost' scratch' : List ℕ} {n : Report}
      → Reporting.Assessed (arrays_of index s) index.entry t.config.count t.config.sample t.config.beam (take t.pool s.pool) ids checked checked' lost lost' n
      → Tested index s wrong over ids checked lost scratch checked' lost' scratch' (Ok n)
  tested_on {checked'} {lost'} {n = n} f =
      record {
        decided = record { does = sym (ap turned z) ∙ c.0.does };
        back = λ m h. cc;
        on = λ v h. subst (λ x. Reports (report_of (shown stored (state_of index s)) ids) checked checked' lost lost' x) (ok_is h) (reported (able index s wrong over scratch c.0 z) on ids f);
      }
