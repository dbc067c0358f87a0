-- Two lists without repeats that have the same elements are of one length; so sorting does not change how many different elements there are.
-- Assumes nothing.
use Prim.Native.Nat.{ℕ, suc}
use mathlib.Core.Bool.{Bool, true, false, not, ◌&&◌, ◌||◌, cond, true≢false}
use mathlib.Core.Path.{◌≡◌, refl, ap, sym, ◌∙◌, subst}
use mathlib.Core.List.{List, [], ◌∷◌, map-id}
use borrow.Author.Tests.{eqb-true, eq-eqb}
use lib.Dec.{eqb, ltb}
use lib.ListN.{length}
use Rattle.lists.specs.Lists.{filter, elem, sort_by, distinct_by, sorted_set}
use Rattle.lists.proofs.Members.{elem_sort, elem_distinct}
use Rattle.lists.proofs.Unique.{Unique, unique_filter, unique_distinct, eqb_flip}

abbrev pub self : ℕ → ℕ
self x = x

unique_left : (p : ℕ → Bool) (l : List ℕ) → Unique l → Unique (filter p l)
unique_left p l u = subst Unique (map-id (filter p l)) (unique_filter self p l (subst Unique (sym (map-id l)) u))

unique_firsts : (l : List ℕ) → Unique (distinct_by self l)
unique_firsts l = subst Unique (map-id (distinct_by self l)) (unique_distinct self l)

-- ---- a list without one of its elements
abbrev without : ℕ → List ℕ → List ℕ
without x ys = filter (λ y. not (eqb x y)) ys

without_absent : (x : ℕ) (ys : List ℕ) → elem x ys ≡ false → without x ys ≡ ys
without_absent x [] h = refl
without_absent x (y ∷ ys) h = go (eqb x y) h (without_absent x ys)
  where
    go : (b : Bool) → (b || elem x ys) ≡ false → (elem x ys ≡ false → without x ys ≡ ys) → cond (not b) (y ∷ without x ys) (without x ys) ≡ y ∷ ys
    go true e r = absurd (true≢false e)
    go false e r = ap (λ (l : List ℕ). y ∷ l) (r e)

without_length : (x : ℕ) (ys : List ℕ) → Unique ys → elem x ys ≡ true → length ys ≡ suc (length (without x ys))
without_length x [] u h = absurd (true≢false (sym h))
without_length x (y ∷ ys) u h = go (eqb x y) refl h (without_length x ys u.1) (without_absent x ys)
  where
    go : (b : Bool) → eqb x y ≡ b → (b || elem x ys) ≡ true → (elem x ys ≡ true → length ys ≡ suc (length (without x ys))) → (elem x ys ≡ false → without x ys ≡ ys)
        → suc (length ys) ≡ suc (length (cond (not b) (y ∷ without x ys) (without x ys)))
    go true e k r z = ap suc (ap length (sym (z (rw (eqb-true x y e) u.0))))
    go false e k r z = ap suc (r k)

elem_without : (t x : ℕ) (ys : List ℕ) → elem t (without x ys) ≡ (not (eqb x t) && elem t ys)
elem_without t x [] = both (eqb x t)
  where
    both : (b : Bool) → false ≡ (not b && false)
    both true = refl
    both false = refl
elem_without t x (y ∷ ys) = go (eqb x y) (eqb t y) (eqb x t) refl refl refl (elem_without t x ys)
  where
    go : (a b c : Bool) → eqb x y ≡ a → eqb t y ≡ b → eqb x t ≡ c → elem t (without x ys) ≡ (not (eqb x t) && elem t ys)
        → elem t (cond (not a) (y ∷ without x ys) (without x ys)) ≡ (not c && (b || elem t ys))
    go true true true i j k r = rw k at r
    go true true false i j k r = absurd (true≢false (sym (eq-eqb x t (eqb-true x y i ∙ sym (eqb-true t y j))) ∙ k))
    go true false c i j k r = rw k at r
    go false true true i j k r = absurd (true≢false (sym (eq-eqb x y (eqb-true x t k ∙ eqb-true t y j)) ∙ i))
    go false true false i j k r = rw j
    go false false c i j k r = rw j (rw k at r)

each_one : (x : ℕ) (xs ys : List ℕ) → elem x xs ≡ false → (t : ℕ) → elem t (x ∷ xs) ≡ elem t ys → elem t xs ≡ elem t (without x ys)
each_one x xs ys u t h = go (eqb x t) refl ∙ sym (elem_without t x ys)
  where
    go : (b : Bool) → eqb x t ≡ b → elem t xs ≡ (not (eqb x t) && elem t ys)
    go true i = rw (i, ← eqb-true x t i) u
    go false i = rw i (rw (eqb_flip x t i) at h)

pub one_length : (xs ys : List ℕ) → Unique xs → Unique ys → ((t : ℕ) → elem t xs ≡ elem t ys) → length xs ≡ length ys
one_length [] [] u w h = refl
one_length [] (y ∷ ys) u w h = absurd (true≢false (sym (h y ∙ rw (eq-eqb y y refl))))
one_length (x ∷ xs) ys u w h =
    let e : elem x ys ≡ true = sym (h x) ∙ rw (eq-eqb x x refl) in
    ap suc (one_length xs (without x ys) u.1 (unique_left (λ y. not (eqb x y)) ys w) (λ t. each_one x xs ys u.0 t (h t))) ∙ sym (without_length x ys w e)

pub sorted_many : (xs : List ℕ) → length (sorted_set xs) ≡ length (distinct_by self xs)
sorted_many xs =
    one_length (distinct_by self (sort_by ltb xs)) (distinct_by self xs) (unique_firsts (sort_by ltb xs)) (unique_firsts xs)
    (λ t. elem_distinct t (sort_by ltb xs) ∙ elem_sort ltb t xs ∙ sym (elem_distinct t xs))
