-- The slot that carries a number. Assumes nothing.
use Prim.Native.Nat.{ℕ, zero, suc, ◌+◌, ◌<◌}
use mathlib.Core.Bool.{Bool, true, false, not, ◌&&◌, ◌||◌, cond, true≢false}
use mathlib.Core.Path.{◌≡◌, refl, sym, ◌∙◌}
use mathlib.Core.List.{List, [], ◌∷◌}
use native.Mathlib.Omega.{arith}
use borrow.Author.Tests.{eqb-true, eqb-false, eq-eqb, ne_eqb}
use lib.Dec.{eqb}
use lib.ListN.{length, get_or}
use Rattle.std.proofs.lemmas.Bool.{or_right}
use Rattle.lists.specs.Lists.{elem}
use Rattle.slots.specs.Store.{blank}
use Rattle.numbers.specs.Numbers.{number_of, place_of, slot_of, Labelled}
use Rattle.numbers.specs.Inner.Listed.{Listed}

place_none : (m from : ℕ) (l : List ℕ) → ((i : ℕ) → i < length l → get_or l i 0 ≡ m → ⊥) → place_of m from l ≡ blank
place_none m from [] h = refl
place_none m from (x ∷ l) h = rw (ne_eqb m x (λ e. h 0 (omega arith) (sym e))) (place_none m (suc from) l (λ i k. h (suc i) (omega arith)))

place_one : (m from : ℕ) (l : List ℕ) (s : ℕ) → s < length l → get_or l s 0 ≡ m → ((i : ℕ) → i < s → get_or l i 0 ≡ m → ⊥) → place_of m from l ≡ from + s
place_one m from [] s h e d = absurd (omega arith)
place_one m from (x ∷ l) zero h e d = rw (eq-eqb m x (sym e)) (omega arith)
place_one m from (x ∷ l) (suc s) h e d =
    let g : suc from + s ≡ from + suc s = omega arith in
    rw (ne_eqb m x (λ i. d 0 (omega arith) (sym i))) (place_one m (suc from) l s (omega arith) e (λ i k. d (suc i) (omega arith)) ∙ g)

-- the number of one slot alone
pub slot_one : (numbers : List ℕ) (m s : ℕ) → 0 < m → s < length numbers → number_of numbers s ≡ m → ((t : ℕ) → t < length numbers → number_of numbers t ≡ m → t ≡ s) → slot_of numbers m ≡ s
unfolding slot_of
slot_one numbers m s h k e d =
    let z : 0 + s ≡ s = omega arith in
    rw (ne_eqb m 0 (λ i. omega arith)) (place_one m 0 numbers s k e (λ i l g. let y = d i (omega arith) g in omega arith) ∙ z)

-- a number that none has, or 0
pub slot_none : (numbers : List ℕ) (m : ℕ) → (0 < m → (t : ℕ) → t < length numbers → number_of numbers t ≡ m → ⊥) → slot_of numbers m ≡ blank
unfolding slot_of
slot_none numbers m d = go (eqb m 0) refl
  where
    go : (b : Bool) → eqb m 0 ≡ b → cond b blank (place_of m 0 numbers) ≡ blank
    go true e = refl
    go false e = let z = eqb-false m 0 e in place_none m 0 numbers (λ i k. d (omega arith) i k)

-- ---- where the rules hold

module _ {live : ℕ → Bool} {n : ℕ} {numbers summary : List ℕ} (l : Labelled live n numbers summary) (long : length numbers ≡ n) where
  -- a slot with a number is live
  pub number_live : (s : ℕ) → s < n → 0 < number_of numbers s → live s ≡ true
  number_live s h k = go (live s) refl
    where
      go : (b : Bool) → live s ≡ b → live s ≡ true
      go true e = e
      go false e = absurd (omega (arith, l.dead s h e))

  -- the number of a live slot names it
  pub slot_of_live : (s : ℕ) → s < n → live s ≡ true → slot_of numbers (number_of numbers s) ≡ s
  slot_of_live s h e =
      slot_one numbers (number_of numbers s) s (l.above s h e) (omega arith) refl
      (λ t k g. let k' : t < n = omega arith in l.distinct t s k' h (number_live t k' (omega (arith, l.above s h e))) e g)

  -- a number that no live slot has names none
  pub slot_of_none : (m : ℕ) → ((s : ℕ) → s < n → live s ≡ true → number_of numbers s ≡ m → ⊥) → slot_of numbers m ≡ blank
  slot_of_none m d = slot_none numbers m (λ h t k g. let k' : t < n = omega arith in d t k' (number_live t k' (omega arith)) g)

-- ---- a number that some slot holds

pub elem_at : (l : List ℕ) (i : ℕ) → i < length l → elem (get_or l i 0) l ≡ true
elem_at [] i h = absurd (omega arith)
elem_at (x ∷ l) zero h = rw (eq-eqb x x refl)
elem_at (x ∷ l) (suc i) h = or_right (eqb (get_or l i 0) x) _ (elem_at l i (omega arith))

-- the place of an element
pub at_elem : (C : Type 0) (a : ℕ) (l : List ℕ) → elem a l ≡ true → ((i : ℕ) → i < length l → get_or l i 0 ≡ a → C) → C
at_elem C a [] e f = absurd (true≢false (sym e))
at_elem C a (x ∷ l) e f = go (eqb a x) refl e (λ g. at_elem C a l g (λ i h. f (suc i) (omega arith)))
  where
    go : (b : Bool) → eqb a x ≡ b → (b || elem a l) ≡ true → (elem a l ≡ true → C) → C
    go true q g r = f 0 (omega arith) (sym (eqb-true a x q))
    go false q g r = r g

-- ---- a number held, as looking up says it

-- a slot named is no blank
pub held_slot : {numbers summary : List ℕ} {live : ℕ} → Listed numbers summary live → (m : ℕ) → not (eqb (slot_of numbers m) blank) ≡ not (eqb m 0) && elem m numbers
held_slot {numbers} k m = go (eqb m 0) refl (elem m numbers) refl
  where
    go : (z : Bool) → eqb m 0 ≡ z → (e : Bool) → elem m numbers ≡ e → not (eqb (slot_of numbers m) blank) ≡ not z && e
    go true i e j = let y = eqb-true m 0 i in rw (slot_none numbers m (λ h. absurd (omega arith)))
    go false i true j =
        let y = eqb-false m 0 i in
        at_elem (not (eqb (slot_of numbers m) blank) ≡ true) m numbers j
        (λ s h e. rw (slot_one numbers m s (omega arith) h e (λ t w q. k.distinct t s w h (omega arith) (q ∙ sym e)), ne_eqb s blank (λ x. omega (arith, k.few))))
    go false i false j =
        rw (slot_none numbers m (λ h t w e. true≢false (sym (rw e at (elem_at numbers t w)) ∙ j)))
