-- RisingFrom lists of numbers, each once: what `sorted_set` makes is what a sweep over all numbers below a bound finds. Assumes nothing.
use Prim.Native.Nat.{ℕ, zero, suc, ◌+◌, ◌≤◌, ◌<◌}
use mathlib.Core.Bool.{Bool, true, false, cond, not, ◌||◌, or-true}
use mathlib.Core.Path.{◌≡◌, refl, ap, sym, ◌∙◌}
use mathlib.Core.List.{List, [], ◌∷◌}
use native.Mathlib.Omega.{arith}
use borrow.Author.Tests.{eqb-true, eqb-false, eq-eqb, ne_eqb, ltb-true, ltb-false}
use lib.Dec.{eqb, ltb}
use Rattle.lists.specs.Lists.{filter, range, elem, insert_by, sort_by, distinct_by, sorted_set}
use Rattle.lists.proofs.Members.{elem_sort, elem_distinct}

pub elem_set : (a : ℕ) (l : List ℕ) → elem a (sorted_set l) ≡ elem a l
elem_set a l = elem_distinct a (sort_by ltb l) ∙ elem_sort ltb a l

-- ---- rising lists from a on: weakly, and strictly
data Up : ℕ → List ℕ → Type 0 where
  up_none : {a : ℕ} → Up a []
  up_one : {a x : ℕ} {l : List ℕ} → a ≤ x → Up x l → Up a (x ∷ l)

pub data RisingFrom : ℕ → List ℕ → Type 0 where
  rise_none : {a : ℕ} → RisingFrom a []
  rise_one : {a x : ℕ} {l : List ℕ} → a ≤ x → RisingFrom (suc x) l → RisingFrom a (x ∷ l)

up_insert : (a x : ℕ) (l : List ℕ) → a ≤ x → Up a l → Up a (insert_by ltb x l)
up_insert a x [] h u = up_one h up_none
up_insert a x (y ∷ l) h (up_one g u) = go (ltb y x) refl (λ (k : y ≤ x). up_insert y x l k u)
  where
    go : (c : Bool) → ltb y x ≡ c → (y ≤ x → Up y (insert_by ltb x l)) → Up a (cond c (y ∷ insert_by ltb x l) (x ∷ y ∷ l))
    go true e i = up_one g (i (let k : y < x = ltb-true y x e in omega arith))
    go false e i = up_one h (up_one (ltb-false y x e) u)

up_sort : (l : List ℕ) → Up 0 (sort_by ltb l)
up_sort [] = up_none
up_sort (x ∷ l) = up_insert 0 x (sort_by ltb l) (omega arith) (up_sort l)

pub rising_low : (a b : ℕ) (l : List ℕ) → b ≤ a → RisingFrom a l → RisingFrom b l
rising_low a b [] h rise_none = rise_none
rising_low a b (x ∷ l) h (rise_one g u) = let k : b ≤ x = omega arith in rise_one k u

-- the first number of a rising list, and the others
pub rising_rest : {a x : ℕ} {l : List ℕ} → RisingFrom a (x ∷ l) → RisingFrom (suc x) l
rising_rest (rise_one g u) = u

-- what is above x stays
pub rising_above : (x a : ℕ) (l : List ℕ) → x < a → RisingFrom a l → filter (λ y. not (eqb x y)) l ≡ l
rising_above x a [] h rise_none = refl
rising_above x a (y ∷ l) h (rise_one g u) = rw (ne_eqb x y (λ z. omega arith), rising_above x (suc y) l (omega arith) u)

rising_drop : (x : ℕ) (l : List ℕ) → RisingFrom x l → RisingFrom (suc x) (filter (λ y. not (eqb x y)) l)
rising_drop x [] rise_none = rise_none
rising_drop x (y ∷ l) (rise_one g u) = go (eqb x y) refl
  where
    go : (c : Bool) → eqb x y ≡ c → RisingFrom (suc x) (cond (not c) (y ∷ filter (λ y. not (eqb x y)) l) (filter (λ y. not (eqb x y)) l))
    go true e =
        let z : x ≡ y = eqb-true x y e in
        rw (rising_above x (suc y) l (omega arith) u) (rising_low (suc y) (suc x) l (omega arith) u)
    go false e =
        let n : x ≡ y → ⊥ = eqb-false x y e in
        let k : suc x ≤ y = omega arith in
        rw (rising_above x (suc y) l (omega arith) u) (rise_one k u)

up_distinct : (a : ℕ) (l : List ℕ) → Up a l → RisingFrom a (distinct_by (λ x. x) l)
up_distinct a [] up_none = rise_none
up_distinct a (x ∷ l) (up_one h u) = rise_one h (rising_drop x (distinct_by (λ x. x) l) (up_distinct x l u))

pub rising_set : (l : List ℕ) → RisingFrom 0 (sorted_set l)
rising_set l = up_distinct 0 (sort_by ltb l) (up_sort l)

-- a sweep finds a rising list
pub rising_range : (p : ℕ → Bool) (a n : ℕ) → RisingFrom a (filter p (range a n))
rising_range p a zero = rise_none
rising_range p a (suc n) = go (p a) (rising_range p (suc a) n)
  where
    go : (c : Bool) → RisingFrom (suc a) (filter p (range (suc a) n)) → RisingFrom a (cond c (a ∷ filter p (range (suc a) n)) (filter p (range (suc a) n)))
    go true u = let k : a ≤ a = omega arith in rise_one k u
    go false u = rising_low (suc a) a (filter p (range (suc a) n)) (omega arith) u

-- ---- a rising list below a + n is a sweep
not_below : (s a : ℕ) (l : List ℕ) → s < a → RisingFrom a l → elem s l ≡ false
not_below s a [] h rise_none = refl
not_below s a (x ∷ l) h (rise_one g u) = rw (ne_eqb s x (λ z. omega arith)) (not_below s (suc x) l (omega arith) u)

filter_range : (p q : ℕ → Bool) (a n : ℕ) → ((s : ℕ) → a ≤ s → p s ≡ q s) → filter p (range a n) ≡ filter q (range a n)
filter_range p q a zero h = refl
filter_range p q a (suc n) h =
    let r : filter p (range (suc a) n) ≡ filter q (range (suc a) n) = filter_range p q (suc a) n (λ s l. h s (omega arith)) in
    rw (h a (omega arith), r)

filter_none : (a n : ℕ) → filter (λ s. false) (range a n) ≡ []
filter_none a zero = refl
filter_none a (suc n) = filter_none (suc a) n

rising_sweep : (a n : ℕ) (l : List ℕ) → RisingFrom a l → ((s : ℕ) → elem s l ≡ true → s < a + n) → l ≡ filter (λ s. elem s l) (range a n)
rising_sweep a n [] rise_none b = sym (filter_none a n)
rising_sweep a zero (x ∷ l) (rise_one g u) b =
    absurd (let h : x < a + 0 = b x (rw (eq-eqb x x refl)) in omega arith)
rising_sweep a (suc n) (x ∷ l) (rise_one g u) b =
    go (eqb a x) refl
    (λ (k : RisingFrom (suc a) l) (m : (s : ℕ) → elem s l ≡ true → s < suc a + n). rising_sweep (suc a) n l k m)
    (λ (k : RisingFrom (suc a) (x ∷ l)) (m : (s : ℕ) → elem s (x ∷ l) ≡ true → s < suc a + n). rising_sweep (suc a) n (x ∷ l) k m)
  where
    in_rest : (s : ℕ) → elem s l ≡ true → eqb s x || elem s l ≡ true
    in_rest s m = rw m (or-true (eqb s x))

    go : (c : Bool) → eqb a x ≡ c
        → (RisingFrom (suc a) l → ((s : ℕ) → elem s l ≡ true → s < suc a + n) → l ≡ filter (λ s. elem s l) (range (suc a) n))
        → (RisingFrom (suc a) (x ∷ l) → ((s : ℕ) → elem s (x ∷ l) ≡ true → s < suc a + n) → x ∷ l ≡ filter (λ s. elem s (x ∷ l)) (range (suc a) n))
        → x ∷ l ≡ cond (c || elem a l) (a ∷ filter (λ s. elem s (x ∷ l)) (range (suc a) n)) (filter (λ s. elem s (x ∷ l)) (range (suc a) n))
    go true e r q =
        let z : a ≡ x = eqb-true a x e in
        let i : l ≡ filter (λ s. elem s l) (range (suc a) n) =
        r (rising_low (suc x) (suc a) l (omega arith) u) (λ s m. let h : s < a + suc n = b s (in_rest s m) in omega arith) in
        let j : filter (λ s. elem s (x ∷ l)) (range (suc a) n) ≡ filter (λ s. elem s l) (range (suc a) n) =
        filter_range (λ s. elem s (x ∷ l)) (λ s. elem s l) (suc a) n (λ s k. rw (ne_eqb s x (λ y. omega arith))) in
        ap (λ (y : ℕ). y ∷ l) (sym z) ∙ ap (λ (y : List ℕ). a ∷ y) (i ∙ sym j)
    go false e r q =
        let n₀ : a ≡ x → ⊥ = eqb-false a x e in
        let k : suc a ≤ x = omega arith in
        rw (not_below a (suc x) l (omega arith) u) (q (rise_one k u) (λ s m. let h : s < a + suc n = b s m in omega arith))

-- a list made rising and distinct: a sweep over the numbers below c that asks of each whether it is in the list
pub set_sweep : (c : ℕ) (l : List ℕ) → ((s : ℕ) → elem s l ≡ true → s < c) → sorted_set l ≡ filter (λ s. elem s l) (range 0 c)
set_sweep c l h =
    rising_sweep 0 c (sorted_set l) (rising_set l) (λ s m. let k : s < c = h s (sym (elem_set s l) ∙ m) in omega arith)
    ∙ filter_range (λ s. elem s (sorted_set l)) (λ s. elem s l) 0 c (λ s _. elem_set s l)
