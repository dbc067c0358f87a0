-- What is in a list: inserting, sorting and `distinct_by` keep it, and so does a filter what it leaves in. Assumes nothing.
use Prim.Native.Nat.{ℕ}
use mathlib.Core.Bool.{Bool, true, false, not, ◌||◌, cond, true≢false}
use mathlib.Core.Path.{◌≡◌, refl, ap, sym, ◌∙◌}
use mathlib.Core.List.{List, [], ◌∷◌}
use borrow.Author.Tests.{eqb-true}
use lib.Dec.{eqb, ltb}
use Rattle.lists.specs.Lists.{filter, elem, insert_by, sort_by, distinct_by, sorted_set}
use Rattle.lists.proofs.All.{by_cases}
use Rattle.lists.proofs.Unique.{eqb_flip}

pub or_swap : (a b c : Bool) → (a || (b || c)) ≡ (b || (a || c))
or_swap true true c = refl
or_swap true false c = refl
or_swap false true c = refl
or_swap false false c = refl

pub elem_insert : (before : ℕ → ℕ → Bool) (t x : ℕ) (xs : List ℕ) → elem t (insert_by before x xs) ≡ (eqb t x || elem t xs)
elem_insert before t x [] = refl
elem_insert before t x (y ∷ ys) =
    let rest = elem_insert before t x ys in
    by_cases (λ l. elem t l ≡ (eqb t x || (eqb t y || elem t ys))) (before y x) (λ e. rw rest (or_swap (eqb t y) (eqb t x) (elem t ys))) (λ e. refl)

pub elem_sort : (before : ℕ → ℕ → Bool) (t : ℕ) (xs : List ℕ) → elem t (sort_by before xs) ≡ elem t xs
elem_sort before t [] = refl
elem_sort before t (x ∷ xs) = elem_insert before t x (sort_by before xs) ∙ ap (λ b. eqb t x || b) (elem_sort before t xs)

pub elem_filter : (p : ℕ → Bool) (t : ℕ) → p t ≡ true → (xs : List ℕ) → elem t (filter p xs) ≡ elem t xs
elem_filter p t h [] = refl
elem_filter p t h (x ∷ xs) = go (p x) (eqb t x) refl refl (elem_filter p t h xs)
  where
    go : (b c : Bool) → p x ≡ b → eqb t x ≡ c → elem t (filter p xs) ≡ elem t xs → elem t (cond b (x ∷ filter p xs) (filter p xs)) ≡ (c || elem t xs)
    go true c q e r = rw (e, r)
    go false true q e r = absurd (true≢false (sym h ∙ ap p (eqb-true t x e) ∙ q))
    go false false q e r = r

pub elem_distinct : (t : ℕ) (xs : List ℕ) → elem t (distinct_by (λ x. x) xs) ≡ elem t xs
elem_distinct t [] = refl
elem_distinct t (x ∷ xs) = go (eqb t x) refl (elem_distinct t xs)
  where
    go : (c : Bool) → eqb t x ≡ c → elem t (distinct_by (λ x. x) xs) ≡ elem t xs
        → (c || elem t (filter (λ y. not (eqb x y)) (distinct_by (λ x. x) xs))) ≡ (c || elem t xs)
    go true e r = refl
    go false e r = elem_filter (λ y. not (eqb x y)) t (ap not (eqb_flip t x e)) (distinct_by (λ x. x) xs) ∙ r

-- of those with p, sorted and each once
pub elem_sorted : (p : ℕ → Bool) (t : ℕ) → p t ≡ true → (xs : List ℕ) → elem t (sorted_set (filter p xs)) ≡ elem t xs
elem_sorted p t h xs = elem_distinct t (sort_by ltb (filter p xs)) ∙ elem_sort ltb t (filter p xs) ∙ elem_filter p t h xs
