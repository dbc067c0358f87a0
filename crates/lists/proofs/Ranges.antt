-- The numbers of a range: the first of them and the others, how large they are, how often one stands there, and folds over them. Assumes nothing.
use Prim.Native.Nat.{ℕ, zero, suc, ◌+◌, ◌-◌, ◌≤◌, ◌<◌}
use mathlib.Core.Bool.{Bool, true, false, ◌||◌}
use mathlib.Core.Path.{◌≡◌, refl, ap, ◌∙◌}
use mathlib.Core.List.{List, [], ◌∷◌, ◌++◌}
use native.Mathlib.Decide.{dec_lt}
use native.Mathlib.Numerals.{add-one}
use native.Mathlib.Omega.{arith}
use borrow.Author.Tests.{eq-eqb, ne_eqb}
use lib.Dec.{eqb}
use lib.ListN.{length}
use Rattle.lists.specs.Lists.{All, filter, elem, foldl, times, range}
use Rattle.lists.proofs.All.{all_map, all_filter}

-- those from s up to n
pub range_cons : (n s : ℕ) → s < n → range s (n - s) ≡ s ∷ range (s + 1) (n - (s + 1))
range_cons n s h =
    let e : n - s ≡ suc (n - (s + 1)) = omega arith in
    rw (e, add-one s)

pub range_none : (n s : ℕ) → n ≤ s → range s (n - s) ≡ []
range_none n s h = let e : n - s ≡ 0 = omega arith in rw e

pub range_snoc : (a n : ℕ) → range a n ++ ((a + n) ∷ []) ≡ range a (suc n)
range_snoc a zero = let e : a + 0 ≡ a = omega arith in rw e
range_snoc a (suc n) = let e : a + suc n ≡ suc a + n = omega arith in rw e (ap (λ (l : List ℕ). a ∷ l) (range_snoc (suc a) n))

pub range_below : (a n m : ℕ) → a + n ≤ m → All (λ s. s < m) (range a n)
range_below a zero m h = tt
range_below a (suc n) m h = (omega arith, range_below (suc a) n m (omega arith))

pub length_range : (a n : ℕ) → length (range a n) ≡ n
length_range a zero = refl
length_range a (suc n) = ap suc (length_range (suc a) n)

-- what a filter leaves of the first n numbers
pub filtered_below : (p : ℕ → Bool) (n : ℕ) → All (λ s. s < n) (filter p (range 0 n))
filtered_below p n = all_filter (λ s. s < n) p (range 0 n) (range_below 0 n n (omega arith))

-- each of them stands there
pub range_elem : (a n : ℕ) → All (λ s. elem s (range a n) ≡ true) (range a n)
range_elem a zero = tt
range_elem a (suc n) =
    (rw (eq-eqb a a refl), all_map (λ s. elem s (range (suc a) n) ≡ true) (λ s. elem s (range a (suc n)) ≡ true) (λ s h. more (eqb s a) s h) (range (suc a) n) (range_elem (suc a) n))
  where
    more : (b : Bool) (s : ℕ) → elem s (range (suc a) n) ≡ true → (b || elem s (range (suc a) n)) ≡ true
    more true s h = refl
    more false s h = h

-- and stands there once
pub times_before : (e a n : ℕ) → e < a → times e (range a n) ≡ 0
times_before e a zero h = refl
times_before e a (suc n) h = rw (ne_eqb e a (λ i. omega arith)) (omega (arith, times_before e (suc a) n (omega arith)))

pub times_once : (e a n : ℕ) → a ≤ e → e < a + n → times e (range a n) ≡ 1
times_once e a zero h k = absurd (omega arith)
times_once e a (suc n) h k = go (dec_lt a e) (λ l. times_once e (suc a) n (omega arith) (omega arith))
  where
    go : Dec (a < e) → (a < e → times e (range (suc a) n) ≡ 1) → times e (range a (suc n)) ≡ 1
    go (yes l) r = rw (ne_eqb e a (λ i. omega arith)) (omega (arith, r l))
    go (no l) r = let z : e ≡ a = omega arith in rw (eq-eqb e a z) (omega (arith, times_before e (suc a) n (omega arith)))

-- ---- folds

pub foldl_append : {A B : Type 0} (f : B → A → B) (b : B) (k l : List A) → foldl f b (k ++ l) ≡ foldl f (foldl f b k) l
foldl_append f b [] l = refl
foldl_append f b (x ∷ k) l = foldl_append f (f b x) k l

-- steps that do the same up to a bound
pub foldl_same : {B : Type 0} (f g : B → ℕ → B) (m : ℕ) → ((b : B) (i : ℕ) → i < m → f b i ≡ g b i) → (n a : ℕ) → a + n ≤ m → (b : B) → foldl f b (range a n) ≡ foldl g b (range a n)
foldl_same f g m e zero a h b = refl
foldl_same {B} f g m e (suc n) a h b = foldl_same f g m e n (suc a) (omega arith) (f b a) ∙ ap (λ (c : B). foldl g c (range (suc a) n)) (e b a (omega arith))
