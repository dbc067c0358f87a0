-- `distinct_by` one element at a time: those whose key is not among the keys met so far, `fresh`. Assumes nothing.
use Prim.Native.Nat.{ℕ}
use mathlib.Core.Path.{◌≡◌, refl, ap, sym, ◌∙◌}
use mathlib.Core.Bool.{Bool, true, false, not, ◌||◌, or_comm}
use mathlib.Core.List.{List, [], ◌∷◌, ◌++◌}
use lib.Dec.{eqb}
use borrow.Author.Tests.{eq-eqb, eqb-true}
use Rattle.lists.specs.Lists.{filter, elem, distinct_by}
use Rattle.lists.proofs.Filter.{filter_or}
use Rattle.lists.proofs.Unique.{keys, keys_snoc, elem_snoc, eqb_flip}

pub filter_same : {A : Type 0} (p q : A → Bool) → ((x : A) → p x ≡ q x) → (l : List A) → filter p l ≡ filter q l
filter_same p q h [] = refl
filter_same p q h (x ∷ l) = rw (h x, filter_same p q h l)

pub eqb_comm : (a b : ℕ) → eqb a b ≡ eqb b a
eqb_comm a b = go (eqb a b) refl
  where
    go : (c : Bool) → eqb a b ≡ c → c ≡ eqb b a
    go true e = sym (eq-eqb b a (sym (eqb-true a b e)))
    go false e = sym (eqb_flip a b e)

module _ {A : Type 0} (key : A → ℕ) where
  -- those whose key none of ks has
  abbrev pub fresh : List A → List A → List A
  fresh ks l = filter (λ y. not (elem (key y) (keys key ks))) l

  module _ (ks : List A) (x : A) where
    others : List A → List A
    others l = filter (λ y. not (eqb (key x) (key y))) l

    both : (l : List A) → fresh ks (others l) ≡ filter (λ y. not (eqb (key x) (key y) || elem (key y) (keys key ks))) l
    unfolding others
    both l = sym (filter_or (λ y. eqb (key x) (key y)) (λ y. elem (key y) (keys key ks)) l)

    pub fresh_first : (l : List A) → elem (key x) (keys key ks) ≡ false → fresh ks (distinct_by key (x ∷ l)) ≡ x ∷ fresh (ks ++ (x ∷ [])) (distinct_by key l)
    unfolding others
    fresh_first l e = rw e (ap (λ (m : List A). x ∷ m) (both (distinct_by key l) ∙ filter_same _ _ same (distinct_by key l)))
      where
        same : (y : A) → not (eqb (key x) (key y) || elem (key y) (keys key ks)) ≡ not (elem (key y) (keys key (ks ++ (x ∷ []))))
        same y =
            rw (keys_snoc key ks x, elem_snoc (key y) (keys key ks) (key x), eqb_comm (key x) (key y))
            (ap not (or_comm (eqb (key y) (key x)) (elem (key y) (keys key ks))))

    pub fresh_again : (l : List A) → elem (key x) (keys key ks) ≡ true → fresh ks (distinct_by key (x ∷ l)) ≡ fresh ks (distinct_by key l)
    unfolding others
    fresh_again l e = rw e (both (distinct_by key l) ∙ filter_same _ _ (λ y. same y (eqb (key x) (key y)) refl) (distinct_by key l))
      where
        same : (y : A) (b : Bool) → eqb (key x) (key y) ≡ b → not (b || elem (key y) (keys key ks)) ≡ not (elem (key y) (keys key ks))
        same y true f = rw (← eqb-true (key x) (key y) f, e)
        same y false f = refl
