-- Lists in which no key stands twice: `distinct_by` makes one, and filters and `take` keep it; `distinct_by` keeps what holds of each element.
-- Assumes nothing.
use Prim.Native.Nat.{ℕ, zero, suc}
use mathlib.Core.Path.{◌≡◌, refl, ap, sym, ◌∙◌}
use mathlib.Core.Bool.{Bool, true, false, not, ◌||◌, cond, true≢false}
use mathlib.Core.List.{List, [], ◌∷◌, ◌++◌, map}
use lib.ListN.{take}
use lib.Dec.{eqb}
use borrow.Author.Tests.{ne_eqb, eqb-false}
use Rattle.lists.specs.Lists.{All, filter, elem, distinct_by}
use Rattle.lists.proofs.All.{by_cases, all_filter}

abbrev pub Unique : List ℕ → Type 0
Unique [] = Unit {0}
Unique (x ∷ xs) = (elem x xs ≡ false) × Unique xs

pub or_false_l : (a b : Bool) → (a || b) ≡ false → a ≡ false
or_false_l false b e = refl
or_false_l true b e = e

pub or_false_r : (a b : Bool) → (a || b) ≡ false → b ≡ false
or_false_r false b e = e
or_false_r true b e = absurd (true≢false e)

pub or-false : (b : Bool) → (b || false) ≡ b
or-false true = refl
or-false false = refl

pub eqb_flip : (a b : ℕ) → eqb a b ≡ false → eqb b a ≡ false
eqb_flip a b e = ne_eqb b a (λ (g : b ≡ a). eqb-false a b e (sym g))

pub elem_snoc : (a : ℕ) (l : List ℕ) (x : ℕ) → elem a (l ++ (x ∷ [])) ≡ (elem a l || eqb a x)
elem_snoc a [] x = or-false (eqb a x)
elem_snoc a (y ∷ l) x = go (eqb a y) (elem_snoc a l x)
  where
    go : (b : Bool) → elem a (l ++ (x ∷ [])) ≡ (elem a l || eqb a x) → (b || elem a (l ++ (x ∷ []))) ≡ (b || elem a l || eqb a x)
    go true e = refl
    go false e = e

pub unique_snoc : (l : List ℕ) (x : ℕ) → Unique l → elem x l ≡ false → Unique (l ++ (x ∷ []))
unique_snoc [] x u e = (refl, tt)
unique_snoc (y ∷ l) x u e =
    (elem_snoc y l x ∙ rw u.0 (eqb_flip x y (or_false_l (eqb x y) (elem x l) e)), unique_snoc l x u.1 (or_false_r (eqb x y) (elem x l) e))

module _ {A : Type 0} (key : A → ℕ) where
  -- the keys of a list
  abbrev pub keys : List A → List ℕ
  keys l = map key l

  pub keys_snoc : (l : List A) (x : A) → keys (l ++ (x ∷ [])) ≡ keys l ++ (key x ∷ [])
  keys_snoc [] x = refl
  keys_snoc (y ∷ l) x = ap (λ (m : List ℕ). key y ∷ m) (keys_snoc l x)

  elem_filter : (a : ℕ) (p : A → Bool) (l : List A) → elem a (keys l) ≡ false → elem a (keys (filter p l)) ≡ false
  elem_filter a p [] e = refl
  elem_filter a p (x ∷ l) e =
      let rest = elem_filter a p l (or_false_r (eqb a (key x)) (elem a (keys l)) e) in
      by_cases (λ (m : List A). elem a (keys m) ≡ false) (p x) (λ g. rw (or_false_l (eqb a (key x)) (elem a (keys l)) e) rest) (λ g. rest)

  pub unique_filter : (p : A → Bool) (l : List A) → Unique (keys l) → Unique (keys (filter p l))
  unique_filter p [] u = tt
  unique_filter p (x ∷ l) u =
      let rest = unique_filter p l u.1 in
      by_cases (λ (m : List A). Unique (keys m)) (p x) (λ e. (elem_filter (key x) p l u.0, rest)) (λ e. rest)

  gone : (x : A) (l : List A) → elem (key x) (keys (filter (λ y. not (eqb (key x) (key y))) l)) ≡ false
  gone x [] = refl
  gone x (y ∷ l) = go (eqb (key x) (key y)) refl (gone x l)
    where
      others : List A
      others = filter (λ z. not (eqb (key x) (key z))) l

      go : (b : Bool) → eqb (key x) (key y) ≡ b → elem (key x) (keys others) ≡ false → elem (key x) (keys (cond (not b) (y ∷ others) others)) ≡ false
      go true e r = r
      go false e r = rw e r

  pub unique_distinct : (l : List A) → Unique (keys (distinct_by key l))
  unique_distinct [] = tt
  unique_distinct (x ∷ l) = (gone x (distinct_by key l), unique_filter (λ y. not (eqb (key x) (key y))) (distinct_by key l) (unique_distinct l))

  pub all_distinct : (P : A → Type 0) (l : List A) → All P l → All P (distinct_by key l)
  all_distinct P [] a = tt
  all_distinct P (x ∷ l) a = (a.0, all_filter P (λ y. not (eqb (key x) (key y))) (distinct_by key l) (all_distinct P l a.1))

  elem_take : (a n : ℕ) (l : List A) → elem a (keys l) ≡ false → elem a (keys (take n l)) ≡ false
  elem_take a zero l e = refl
  elem_take a (suc n) [] e = refl
  elem_take a (suc n) (x ∷ l) e =
      rw (or_false_l (eqb a (key x)) (elem a (keys l)) e) (elem_take a n l (or_false_r (eqb a (key x)) (elem a (keys l)) e))

  pub unique_take : (n : ℕ) (l : List A) → Unique (keys l) → Unique (keys (take n l))
  unique_take zero l u = tt
  unique_take (suc n) [] u = tt
  unique_take (suc n) (x ∷ l) u = (elem_take (key x) n l u.0, unique_take n l u.1)
