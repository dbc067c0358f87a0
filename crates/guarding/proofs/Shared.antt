-- What the guard's calls share: settings without a fault, room for its work, and the report on a delete. Assumes nothing.
use Prim.Native.Nat.{ℕ, min, ◌≤◌, ◌<◌}
use mathlib.Core.Bool.{false, ◌||◌}
use mathlib.Core.List.{List}
use mathlib.Core.Path.{◌≡◌, refl, sym, ap}
use native.Mathlib.Omega.{arith}
use borrow.Author.Tests.{ltb-false, eqb-false}
use lib.Dec.{eqb, ltb}
use lib.ListN.{length, take}
use Rattle.std.proofs.lemmas.Bool.{or_parts}
use Rattle.slots.specs.Sizes.{Slices, limits}
use Rattle.slots.specs.Scratch.{size_answer}
use Rattle.slots.specs.Store.{store_ops}
use Rattle.guard.specs.Guard.{on, pool_of}
use Rattle.guard.specs.Lent.{config_of}
use Rattle.guard.specs.Guard as Guards
use Rattle.admission.specs.Inner.Pools.{guard_words}
use Rattle.admission.specs.Inner.Reports.{Reports, Assessable, Assessed}
use Rattle.admission.specs.declared.report.Report.{Report}
use Rattle.admission.proofs.Pooling.{share_enough}
use Rattle.calls.specs.Refusals.{guard_fault}
use Rattle.calls.specs.State.{stored, shown}
use Rattle.calls.specs.Step.{report_by, report_of}
use Rattle.index.specs.declared.Index.{Index}
use Rattle.index.specs.declared.Guard.{Guard}
use Rattle.std.specs.Prelude.{Option, Some}
use Rattle.index.specs.Index.{guard_of, state_of, arrays_of}
use Rattle.index.specs.Inner.Deciding.{Passed}
use Rattle.index.proofs.Decide.{passed_rows, passed_marks, passed_bytes}
use Rattle.guarding.specs.Guarding.{numbers_of}

-- ---- settings without a fault

pub record Sound (g : Guard) : Type 0 where
  pub count_most : g.config.count ≤ 64
  pub sample_some : 0 < g.config.sample
  pub beam_most : g.config.beam ≤ 1024
  pub pool_most : g.pool ≤ 1024

sound : (g : Guard) → guard_fault limits (on (config_of g.config) g.pool) ≡ false → Sound g
unfolding guard_fault limits
sound g e =
    let s = g.config in
    let z₁ = eqb s.count 0 in
    let z₂ = eqb s.multiplier 0 in
    let z₃ = eqb s.sample 0 in
    let z₄ = eqb s.beam 0 in
    let o₁ = ltb 64 s.count in
    let o₂ = ltb 16 s.multiplier in
    let o₃ = ltb 65536 s.sample in
    let o₄ = ltb 1024 s.beam in
    let a = or_parts (z₁ || z₂ || z₃ || z₄ || (o₁ || o₂ || o₃ || o₄)) (ltb 1024 g.pool) e in
    let b = or_parts (z₁ || z₂ || z₃ || z₄) (o₁ || o₂ || o₃ || o₄) a.0 in
    let zs = or_parts (z₁ || z₂ || z₃) z₄ b.0 in
    let z = or_parts (z₁ || z₂) z₃ zs.0 in
    let os = or_parts (o₁ || o₂ || o₃) o₄ b.1 in
    let o = or_parts (o₁ || o₂) o₃ os.0 in
    record {
      count_most = ltb-false 64 s.count (or_parts o₁ o₂ o.0).0;
      sample_some = omega (arith, eqb-false s.sample 0 z.1);
      beam_most = ltb-false 1024 s.beam os.1;
      pool_most = ltb-false 1024 g.pool a.1;
    }

pub sound_on : (o : Option Guard) {g : Guard} → o ≡ Some g → guard_fault limits (guard_of o) ≡ false → Sound g
unfolding guard_of
sound_on o {g} e f = sound g (rw e at f)

-- ---- an index that passed

module _ {index : Index} {s : Slices} (able : Passed index s) where
  pub pool_most : 1024 ≤ length s.pool
  unfolding limits
  pool_most = omega (arith, able.pool_long)

  -- the guard's share of a scratch that row 8 lets pass
  pub guard_room : (scratch : List ℕ) → ltb (length scratch) (size_answer index.capacity) ≡ false → guard_words (length s.marks) ≤ length scratch
  guard_room scratch h =
      let m = passed_marks able in
      omega (arith, ltb-false (length scratch) (size_answer index.capacity) h, rw (← m) at (share_enough index.capacity able.capacity_high), ap size_answer m)

  -- ---- the report of a guard that is on

  module _ {t : Guard} (e : index.guard ≡ Some t) (ids : List ℕ) where
    pub assessable : (checked lost scratch : List ℕ) → length ids ≤ 256 → 64 ≤ min (length checked) (length lost)
        → ltb (length scratch) (size_answer index.capacity) ≡ false
        → Assessable (arrays_of index s) t.config.count t.config.sample t.config.beam s.pool t.pool ids checked lost scratch
    assessable checked lost scratch few long room =
        let g = sound_on index.guard e able.guard_right in
        record {
          bytes = passed_bytes able;
          rows = passed_rows able;
          count_most = g.count_most;
          sample_some = g.sample_some;
          beam_most = g.beam_most;
          pool_long = omega (arith, g.pool_most, pool_most);
          ids_few = few;
          checked_long = omega (arith, g.count_most, long);
          lost_long = omega (arith, g.count_most, long);
          room = guard_room scratch room;
        }

    pub reported : {checked checked' lost lost' : List ℕ} {n : Report}
        → Assessed (arrays_of index s) index.entry t.config.count t.config.sample t.config.beam (take t.pool s.pool) ids checked checked' lost lost' n
        → Reports (report_of (shown stored (state_of index s)) ids) checked checked' lost lost' n
    unfolding shown stored store_ops state_of report_by guard_of pool_of
    reported f = rw e (f.does (state_of index s).graph t.config.multiplier refl (sym (passed_marks able)) refl)

pub numbers_are : {report : Guards.Report} {checked checked' lost lost' : List ℕ} {n : Report} → Reports report checked checked' lost lost' n → n ≡ numbers_of report
numbers_are g = λ i. record {
  admitted = g.admits i;
  requested = g.requests i;
  entry = g.enters i;
  checked = g.checks i;
  baseline = g.meets_before i;
  residual = g.meets_after i;
  lost = g.loses i;
  supplemental = g.adds i;
}
