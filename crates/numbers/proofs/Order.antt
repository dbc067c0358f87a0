-- Slots by rising number: two lists of the same slots that both rise are one list, and sorting slots with distinct numbers makes one that rises.
-- Assumes nothing.
use Prim.Native.Nat.{ℕ, zero, suc, ◌≤◌, ◌<◌}
use mathlib.Core.Bool.{Bool, true, false, not, ◌||◌, cond, true≢false}
use mathlib.Core.Path.{◌≡◌, refl, ap, sym, ◌∙◌}
use mathlib.Core.List.{List, [], ◌∷◌}
use native.Mathlib.Omega.{arith}
use borrow.Author.Tests.{eqb-true, eqb-false, eq-eqb, ne_eqb, ltb-true, ltb-false, lt-ltb}
use lib.Dec.{eqb, ltb}
use lib.ListN.{length}
use Rattle.std.proofs.lemmas.Bool.{or_right}
use Rattle.lists.specs.Lists.{All, Pairwise, Ordered, filter, range, elem}
use Rattle.lists.proofs.All.{by_cases, all_map, all_sort, all_filter}
use Rattle.lists.proofs.Ordered.{ordered_insert, length_insert}
use Rattle.lists.proofs.Unique.{Unique}
use Rattle.lists.proofs.Filtered.{count_both}
use Rattle.numbers.specs.Numbers.{number_of, by_number}

-- ---- elements of lists

-- what holds of each element holds of one that stands in the list
pub all_elem : (P : ℕ → Type 0) (t : ℕ) (xs : List ℕ) → All P xs → elem t xs ≡ true → P t
all_elem P t [] h e = absurd (true≢false (sym e))
all_elem P t (x ∷ xs) h e = go (eqb t x) refl e (all_elem P t xs h.1)
  where
    go : (b : Bool) → eqb t x ≡ b → (b || elem t xs) ≡ true → (elem t xs ≡ true → P t) → P t
    go true q k r = rw (eqb-true t x q) h.0
    go false q k r = r k

-- and the other way round
pub elem_all : (P : ℕ → Type 0) (xs : List ℕ) → ((t : ℕ) → elem t xs ≡ true → P t) → All P xs
elem_all P [] h = tt
elem_all P (x ∷ xs) h = (h x (rw (eq-eqb x x refl)), elem_all P xs (λ t e. h t (or_right (eqb t x) _ e)))

-- two tests that imply one another
pub same_test : (b c : Bool) → (b ≡ true → c ≡ true) → (c ≡ true → b ≡ true) → b ≡ c
same_test true c f g = sym (f refl)
same_test false true f g = g refl
same_test false false f g = refl

pub elem_filter_in : (p : ℕ → Bool) (t : ℕ) (xs : List ℕ) → elem t (filter p xs) ≡ true → (p t ≡ true) × (elem t xs ≡ true)
elem_filter_in p t [] e = absurd (true≢false (sym e))
elem_filter_in p t (x ∷ xs) e = go (p x) refl e (elem_filter_in p t xs)
  where
    more : (b : Bool) → eqb t x ≡ b → p x ≡ true → (b || elem t (filter p xs)) ≡ true → (elem t (filter p xs) ≡ true → (p t ≡ true) × (elem t xs ≡ true))
        → (p t ≡ true) × ((b || elem t xs) ≡ true)
    more true q k f r = (ap p (eqb-true t x q) ∙ k, refl)
    more false q k f r = r f

    go : (b : Bool) → p x ≡ b → elem t (cond b (x ∷ filter p xs) (filter p xs)) ≡ true → (elem t (filter p xs) ≡ true → (p t ≡ true) × (elem t xs ≡ true))
        → (p t ≡ true) × (elem t (x ∷ xs) ≡ true)
    go true k f r = more (eqb t x) refl k f r
    go false k f r = let z = r f in (z.0, or_right (eqb t x) _ z.1)

-- a filter that leaves as many leaves all
pub filter_full : (p : ℕ → Bool) (xs : List ℕ) → length xs ≤ length (filter p xs) → All (λ x. p x ≡ true) xs
filter_full p xs h = go xs (let k = count_both p xs in let z : length (filter (λ x. not (p x)) xs) ≡ 0 = omega arith in z)
  where
    go : (ys : List ℕ) → length (filter (λ x. not (p x)) ys) ≡ 0 → All (λ x. p x ≡ true) ys
    go [] e = tt
    go (y ∷ ys) e = step (p y) refl e (go ys)
      where
        step : (b : Bool) → p y ≡ b → length (cond (not b) (y ∷ filter (λ x. not (p x)) ys) (filter (λ x. not (p x)) ys)) ≡ 0
            → (length (filter (λ x. not (p x)) ys) ≡ 0 → All (λ x. p x ≡ true) ys) → (p y ≡ true) × All (λ x. p x ≡ true) ys
        step true q k r = (q, r k)
        step false q k r = absurd (omega arith)

-- ---- pairs of elements

pub pairwise_from : {A : Type 0} (P : A → Type 0) (S R : A → A → Type 0) → ((x y : A) → P x → P y → S x y → R x y) → (xs : List A) → All P xs → Pairwise S xs → Pairwise R xs
pairwise_from P S R f [] h k = tt
pairwise_from {A} P S R f (x ∷ xs) h k = (go xs h.1 k.0, pairwise_from P S R f xs h.1 k.1)
  where
    go : (ys : List A) → All P ys → All (S x) ys → All (R x) ys
    go [] a b = tt
    go (y ∷ ys) a b = (f x y h.0 a.0 b.0, go ys a.1 b.1)

pub pairwise_filter : {A : Type 0} (R : A → A → Type 0) (p : A → Bool) (xs : List A) → Pairwise R xs → Pairwise R (filter p xs)
pairwise_filter R p [] h = tt
pairwise_filter R p (x ∷ xs) h =
    let rest = pairwise_filter R p xs h.1 in
    by_cases (Pairwise R) (p x) (λ e. (all_filter (R x) p xs h.0, rest)) (λ e. rest)

range_from : (a b n : ℕ) → a < b → All (λ t. a < t) (range b n)
range_from a b zero h = tt
range_from a b (suc n) h = (h, range_from a (suc b) n (omega arith))

pub range_up : (a n : ℕ) → Pairwise (λ s t. s < t) (range a n)
range_up a zero = tt
range_up a (suc n) = (range_from a (suc a) n (omega arith), range_up (suc a) n)

-- a list in which none equals a later one
pub apart_unique : (xs : List ℕ) → Pairwise (λ s t. s ≡ t → ⊥) xs → Unique xs
apart_unique [] h = tt
apart_unique (x ∷ xs) h = (go xs h.0, apart_unique xs h.1)
  where
    go : (ys : List ℕ) → All (λ t. x ≡ t → ⊥) ys → elem x ys ≡ false
    go [] a = refl
    go (y ∷ ys) a = rw (ne_eqb x y a.0) (go ys a.1)

pub unique_apart : (xs : List ℕ) → Unique xs → Pairwise (λ s t. s ≡ t → ⊥) xs
unique_apart [] u = tt
unique_apart (x ∷ xs) u = (elem_all (λ t. x ≡ t → ⊥) xs (λ t e z. true≢false (sym (rw (← z) at e) ∙ u.0)), unique_apart xs u.1)

-- ---- slots by rising number

module _ (numbers : List ℕ) where
  abbrev pub lower : ℕ → ℕ → Bool
  lower s t = ltb (number_of numbers s) (number_of numbers t)

  abbrev pub Rises : List ℕ → Type 0
  Rises = Ordered lower

  through : (x y z : ℕ) → lower x y ≡ true → lower y z ≡ true → lower x z ≡ true
  through x y z a b =
      lt-ltb (number_of numbers x) (number_of numbers z)
      (omega (arith, ltb-true (number_of numbers x) (number_of numbers y) a, ltb-true (number_of numbers y) (number_of numbers z) b))

  -- sorting slots with distinct numbers
  pub sort_rises : (xs : List ℕ) → Pairwise (λ s t. number_of numbers s ≡ number_of numbers t → ⊥) xs → Rises (by_number numbers xs)
  sort_rises [] h = tt
  sort_rises (x ∷ xs) h =
      ordered_insert lower through x (by_number numbers xs)
      (all_sort (λ y. lower y x ≡ false → lower x y ≡ true) lower xs
      (all_map (λ y. number_of numbers x ≡ number_of numbers y → ⊥) (λ y. lower y x ≡ false → lower x y ≡ true) (λ y k e. go y k e) xs h.0))
      (sort_rises xs h.1)
    where
      go : (y : ℕ) → (number_of numbers x ≡ number_of numbers y → ⊥) → lower y x ≡ false → lower x y ≡ true
      go y k e = let l = ltb-false (number_of numbers y) (number_of numbers x) e in lt-ltb (number_of numbers x) (number_of numbers y) (omega arith)

  pub length_by : (xs : List ℕ) → length (by_number numbers xs) ≡ length xs
  length_by [] = refl
  length_by (x ∷ xs) = length_insert lower x (by_number numbers xs) ∙ ap suc (length_by xs)

  above_first : (x t : ℕ) (xs : List ℕ) → Rises (x ∷ xs) → elem t xs ≡ true → number_of numbers x < number_of numbers t
  above_first x t xs r e = ltb-true (number_of numbers x) (number_of numbers t) (all_elem (λ y. lower x y ≡ true) t xs r.0 e)

  -- no slot stands twice in a list that rises
  first_once : (x : ℕ) (xs : List ℕ) → Rises (x ∷ xs) → elem x xs ≡ false
  first_once x xs r = go (elem x xs) refl
    where
      go : (b : Bool) → elem x xs ≡ b → b ≡ false
      go true e = absurd (omega (arith, above_first x x xs r e))
      go false e = refl

  pub rises_unique : (xs : List ℕ) → Rises xs → Unique xs
  rises_unique [] r = tt
  rises_unique (x ∷ xs) r = (first_once x xs r, rises_unique xs r.1)

  -- one number, one slot
  pub rises_one : (s t : ℕ) (xs : List ℕ) → Rises xs → elem s xs ≡ true → elem t xs ≡ true → number_of numbers s ≡ number_of numbers t → s ≡ t
  rises_one s t [] r e f h = absurd (true≢false (sym e))
  rises_one s t (x ∷ xs) r e f h = go (eqb s x) (eqb t x) refl refl e f (rises_one s t xs r.1)
    where
      go : (b c : Bool) → eqb s x ≡ b → eqb t x ≡ c → (b || elem s xs) ≡ true → (c || elem t xs) ≡ true
          → (elem s xs ≡ true → elem t xs ≡ true → number_of numbers s ≡ number_of numbers t → s ≡ t) → s ≡ t
      go true true i j k l z = eqb-true s x i ∙ sym (eqb-true t x j)
      go true false i j k l z = absurd (let y = eqb-true s x i in let w = ap (number_of numbers) y in omega (arith, above_first x t xs r l))
      go false true i j k l z = absurd (let y = eqb-true t x j in let w = ap (number_of numbers) y in omega (arith, above_first x s xs r k))
      go false false i j k l z = z k l h

  -- two lists of the same slots that both rise
  pub same_order : (xs ys : List ℕ) → Rises xs → Rises ys → ((t : ℕ) → elem t xs ≡ elem t ys) → xs ≡ ys
  same_order [] [] r q h = refl
  same_order [] (y ∷ ys) r q h = absurd (true≢false (sym (h y ∙ rw (eq-eqb y y refl))))
  same_order (x ∷ xs) [] r q h = absurd (true≢false (rw (eq-eqb x x refl) at (h x)))
  same_order (x ∷ xs) (y ∷ ys) r q h =
      let e : x ≡ y = first (eqb x y) refl in
      rw e (ap (λ (l : List ℕ). y ∷ l) (same_order xs ys r.1 q.1 (λ t. rest t e (eqb t x) refl)))
    where
      in_ys : eqb x y ≡ false → elem x ys ≡ true
      in_ys e = sym (rw (eq-eqb x x refl, e) at (h x))

      in_xs : eqb x y ≡ false → elem y xs ≡ true
      in_xs e = rw (eq-eqb y y refl, ne_eqb y x (λ z. eqb-false x y e (sym z))) at (h y)

      first : (b : Bool) → eqb x y ≡ b → x ≡ y
      first true e = eqb-true x y e
      first false e = absurd (omega (arith, above_first x y xs r (in_xs e), above_first y x ys q (in_ys e)))

      rest : (t : ℕ) → x ≡ y → (b : Bool) → eqb t x ≡ b → elem t xs ≡ elem t ys
      rest t e true i = let z = eqb-true t x i in rw z (first_once x xs r ∙ sym (rw e (first_once y ys q)))
      rest t e false i = rw (i, ← e, i) at (h t)
