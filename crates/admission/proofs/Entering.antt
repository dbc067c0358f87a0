-- The residual entry: the entry, or the first slot that stays. Assumes nothing.
use Prim.Native.Nat.{ℕ, zero, suc, ◌+◌, ◌-◌, ◌≤◌, ◌<◌}
use mathlib.Core.Bool.{Bool, true, false, not, cond}
use mathlib.Core.Path.{◌≡◌, refl, ap, sym, ◌∙◌}
use mathlib.Core.List.{List, []}
use mathlib.Core.Option.{some}
use mathlib.Core.Option as Math
use Rattle.std.specs.Prelude.{Option, Some, None, MatchOption}
use Rattle.std.proofs.lemmas.Option.{none-some, same_Some}
use native.Mathlib.Numerals.{add-one}
use native.Mathlib.Omega.{arith}
use borrow.Author.Tests.{not-true}
use lib.ListN.{length}
use Rattle.std.proofs.lemmas.Bool.{and_parts}
use Rattle.lists.specs.Lists.{filter, elem, range}
use Rattle.lists.proofs.Ranges.{range_cons, range_none}
use Rattle.slots.specs.View.{live_slots, emptied}
use Rattle.slots.specs.Store.{Store, is_valid, store_view}
use Rattle.slots.proofs.Places.{live_inside}
use Rattle.landmarks.specs.Inner.Samples.{remains}
use Rattle.guard.specs.Guard.{first, residual_entry}
use Rattle.guard.specs.Lent.{entry_of}
use Rattle.guard.proofs.Enabling.{enters}
use Rattle.admission.specs.Inner.Pools.{Entered}
use Rattle.admission.proofs.Seen.{stays_same}

-- `residual_entry` over a test
entry_by : (ℕ → Bool) → ℕ → ℕ → Math.Option ℕ
entry_by p entry n = cond (p entry) (some entry) (first (filter p (range 0 n)))

entry_same : (b : Store) (ids : List ℕ) → entry_by (remains b.arrays.marks ids) b.entry b.capacity ≡ residual_entry (store_view b) (emptied (store_view b) ids)
unfolding entry_by residual_entry store_view
entry_same b ids = ap (λ (p : ℕ → Bool). cond (p b.entry) (some b.entry) (first (filter p (range 0 b.capacity)))) (stays_same b ids)

entered : (marks ids : List ℕ) (entry : ℕ) {r : Option ℕ} → r ≡ entry_of (entry_by (remains marks ids) entry (length marks)) → ((s : ℕ) → r ≡ Some s → remains marks ids s ≡ true)
    → Entered marks ids entry r
entered marks ids entry {r} e f =
    record { does = λ b x y z. e ∙ ap (λ (n : ℕ). entry_of (entry_by (remains marks ids) entry n)) (sym y) ∙ rw (← x, ← z) (ap entry_of (entry_same b ids)); found = f }

found_stays : (p : ℕ → Bool) {s : ℕ} → p s ≡ true → (t : ℕ) → Some s ≡ Some t → p t ≡ true
found_stays p {s} k t e = rw (← same_Some s t e) k

none_found : (p : ℕ → Bool) (t : ℕ) → ◌≡◌ {A = Option ℕ} None (Some t) → p t ≡ true
none_found p t e = absurd (none-some t e)

-- ---- no slot before s stays
pub record Passing (p : ℕ → Bool) (n s : ℕ) : Type 0 where
  pub goes : filter p (range s (n - s)) ≡ filter p (range 0 n)

pub passing_none : (p : ℕ → Bool) (n : ℕ) → Passing p n 0
passing_none p n = let e : n - 0 ≡ n = omega arith in record { goes = rw e }

pub passing_more : {p : ℕ → Bool} {n s : ℕ} → Passing p n s → {t : Bool} → s < n → t ≡ p s → t ≡ false → Passing p n (s + 1)
passing_more {p} {n} {s} f h v e =
    let g : p s ≡ false = sym v ∙ e in
    record { goes = rw (range_cons n s h, g) at f.goes }

passing_up : (p : ℕ → Bool) (n i : ℕ) → i ≤ n → ((k : ℕ) → 0 ≤ k → k < i → p k ≡ false) → Passing p n i
passing_up p n zero h f = passing_none p n
passing_up p n (suc i) h f =
    rw add-one at (passing_more (passing_up p n i (omega (arith, h)) (λ k a b. f k a (omega (arith, b)))) (omega (arith, h)) refl (f i (omega arith) (omega arith)))

-- ---- what is found
module _ (marks ids : List ℕ) (entry : ℕ) {u : Bool} (v : u ≡ remains marks ids entry) where
  pub entry_kept : u ≡ true → Entered marks ids entry (Some entry)
  unfolding entry_by
  entry_kept e = let g : remains marks ids entry ≡ true = sym v ∙ e in entered marks ids entry (rw g) (found_stays (remains marks ids) g)

  module _ (gone : u ≡ false) {s : ℕ} (f : Passing (remains marks ids) (length marks) s) where
    not_kept : remains marks ids entry ≡ false
    not_kept = sym v ∙ gone

    passing_found : {t : Bool} → s < length marks → t ≡ remains marks ids s → t ≡ true → Entered marks ids entry (Some s)
    unfolding entry_by
    passing_found h x e =
        let k : remains marks ids s ≡ true = sym x ∙ e in
        entered marks ids entry (rw (not_kept, ← f.goes, range_cons (length marks) s h, k)) (found_stays (remains marks ids) k)

    passing_done : length marks ≤ s → Entered marks ids entry None
    unfolding entry_by
    passing_done h = entered marks ids entry (rw (not_kept, ← f.goes, range_none (length marks) s h)) (none_found (remains marks ids))

-- the first slot that stays, if any does
module _ (marks ids : List ℕ) (entry : ℕ) {u : Bool} (v : u ≡ remains marks ids entry) (gone : u ≡ false) {n : ℕ} (e : n ≡ length marks) where
  pub first_entered : (r : Option ℕ)
      → MatchOption r ((k : ℕ) → 0 ≤ k → k < n → remains marks ids k ≡ false)
      (λ i. (0 ≤ i) × (i < n) × (remains marks ids i ≡ true) × ((k : ℕ) → 0 ≤ k → k < i → remains marks ids k ≡ false))
      → Entered marks ids entry r
  first_entered None f = passing_done marks ids entry v gone (passing_up (remains marks ids) (length marks) n (omega (arith, e)) f) (omega (arith, e))
  first_entered (Some s) f =
      passing_found marks ids entry v gone (passing_up (remains marks ids) (length marks) s (omega (arith, f.1, e)) f.3) (omega (arith, f.1, e)) refl f.2

-- ---- a slot that stays
module _ (marks out : List ℕ) (s : ℕ) (e : remains marks out s ≡ true) where
  pub remains_live : is_valid marks s ≡ true
  remains_live = (and_parts (is_valid marks s) (not (elem s out)) e).0

  pub remains_inside : s < length marks
  remains_inside = live_inside marks s remains_live

  pub remains_out : elem s out ≡ false
  remains_out = not-true (elem s out) (and_parts (is_valid marks s) (not (elem s out)) e).1

-- ---- what enabling finds: a slot inside
pub record Found (b : Store) (marks : List ℕ) (r : Option ℕ) : Type 0 where
  pub slot : ℕ
  pub is : r ≡ Some slot
  pub does : residual_entry (store_view b) [] ≡ some slot
  pub inside : slot < length marks

pub entered_live : (b : Store) {marks : List ℕ} {entry : ℕ} {r : Option ℕ} → Entered marks [] entry r → b.arrays.marks ≡ marks → b.capacity ≡ length marks → b.entry ≡ entry
    → entry < length marks → 0 < length (live_slots (store_view b)) → Found b marks r
unfolding store_view emptied
entered_live b {marks} {entry} {r} f x y z inside live =
    let e = enters (store_view b) (omega (arith, y, z)) live in
    record { slot = e.slot; is = f.does b x y z ∙ ap entry_of e.is; does = e.is; inside = omega (arith, y, e.inside) }
