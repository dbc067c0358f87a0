-- The loops of row 6's test: numbers that fit, a summary that rises, and blanks. Assumes nothing.
use Prim.Native.Nat.{ℕ, zero, suc, ◌+◌, ◌≤◌, ◌<◌, min}
use mathlib.Core.Bool.{Bool, true, false, not, ◌&&◌, ◌||◌, true≢false, and-false, and_assoc}
use mathlib.Core.Logic.{◌⊎◌, inl, inr}
use mathlib.Core.Path.{◌≡◌, refl, ap, sym, ◌∙◌}
use mathlib.Core.List.{List, [], ◌∷◌, ◌++◌}
use native.Mathlib.Numerals.{add-one}
use native.Mathlib.Omega.{arith}
use borrow.Author.Tests.{le-ltb}
use lib.Dec.{eqb, ltb}
use lib.ListN.{length, take, drop, get_or, drop_of_length-le, length-append}
use lib.Seq.{drop-cons}
use Rattle.std.specs.List.{list_any}
use Rattle.lists.specs.Lists.{range}
use Rattle.slots.specs.Store.{blank, is_valid}
use Rattle.numbers.specs.Numbers.{number_of, numbers_fit, rising, all_blank, labels_ok}
use Rattle.numbers.specs.Inner.Fits.{fits, all_fit}

-- ---- numbers that fit

-- beside each mark its number: as the rule has it
fits_from : (marks numbers : List ℕ) (s k : ℕ) → s + k ≡ length marks → length numbers ≡ length marks → all_fit (drop s marks) (drop s numbers) ≡ numbers_fit (is_valid marks) numbers (range s k)
unfolding is_valid
fits_from marks numbers s zero e l = let h : length marks ≤ s = omega arith in rw (drop_of_length-le marks h)
fits_from marks numbers s (suc k) e l =
    let h : s < length marks = omega arith in
    let g : s < length numbers = omega arith in
    rw (drop-cons marks s 0 h, drop-cons numbers s 0 g, fits_from marks numbers (suc s) k (omega arith) l)

fits_numbers : (marks numbers : List ℕ) → length numbers ≡ length marks → all_fit marks numbers ≡ numbers_fit (is_valid marks) numbers (range 0 (length marks))
fits_numbers marks numbers l = fits_from marks numbers 0 (length marks) (omega arith) l

-- what is left of a block's marks and numbers, where `bad` says whether one so far does not fit
pub record Fitting (marks numbers : List ℕ) (bad : Bool) (ms ns : List ℕ) : Type 0 where
  pub rest : not bad && all_fit ms ns ≡ all_fit marks numbers

fit_empty : (ms ns : List ℕ) → (ms ≡ []) ⊎ (ns ≡ []) → all_fit ms ns ≡ true
fit_empty ms ns (inl e) = rw e
fit_empty [] ns (inr e) = refl
fit_empty (m ∷ ms) ns (inr e) = rw e

pub fitting_done : {marks numbers ms ns : List ℕ} {bad : Bool} → Fitting marks numbers bad ms ns → (ms ≡ []) ⊎ (ns ≡ []) → bad ≡ not (all_fit marks numbers)
fitting_done {marks} {numbers} {ms} {ns} {bad} k e = go bad (rw (fit_empty ms ns e) at k.rest)
  where
    go : (b : Bool) → not b && true ≡ all_fit marks numbers → b ≡ not (all_fit marks numbers)
    go true e = ap not e
    go false e = ap not e

-- a block and those behind it
fit_split : (xs ys ms ns : List ℕ) → length xs ≡ length ys → all_fit (xs ++ ms) (ys ++ ns) ≡ all_fit xs ys && all_fit ms ns
fit_split [] [] ms ns e = refl
fit_split [] (y ∷ ys) ms ns e = absurd (omega arith)
fit_split (x ∷ xs) [] ms ns e = absurd (omega arith)
fit_split (x ∷ xs) (y ∷ ys) ms ns e = rw (fit_split xs ys ms ns (omega arith)) (sym (and_assoc (fits x y) (all_fit xs ys) (all_fit ms ns)))

-- the blocks that are left, of 128 each
pub record Blocks (marks numbers : List ℕ) (size size' : ℕ) (ms ns : List ℕ) : Type 0 where
  pub first : size ≡ 128
  pub second : size' ≡ 128
  pub long : length ns ≡ length ms
  pub rest : all_fit ms ns ≡ all_fit marks numbers

block_split : {marks numbers ms ns : List ℕ} {size size' : ℕ} → Blocks marks numbers size size' ms ns → (xs ys ms' ns' : List ℕ) → ms ≡ xs ++ ms' → ns ≡ ys ++ ns' → length xs ≡ min size (length ms)
    → length ys ≡ min size' (length ns) → all_fit xs ys && all_fit ms' ns' ≡ all_fit marks numbers
block_split k xs ys ms' ns' f g l m = sym (fit_split xs ys ms' ns' (omega (arith, k.first, k.second, k.long))) ∙ (rw (f, g) at k.rest)

pub blocks_more : {marks numbers ms ns : List ℕ} {size size' size₁ size₁' : ℕ} → Blocks marks numbers size size' ms ns → (xs ys ms' ns' : List ℕ) → false ≡ not (all_fit xs ys)
    → (size₁ ≡ size) × ((ms ≡ xs ++ ms') × (length xs ≡ min size (length ms)) × (0 < length ms)) → (size₁' ≡ size') × ((ns ≡ ys ++ ns') × (length ys ≡ min size' (length ns)) × (0 < length ns))
    → Blocks marks numbers size₁ size₁' ms' ns'
blocks_more {marks} {numbers} k xs ys ms' ns' e f g = record {
  first = f.0 ∙ k.first;
  second = g.0 ∙ k.second;
  long = omega (arith, k.first, k.second, k.long, ap length f.1.0, ap length g.1.0, length-append xs ms', length-append ys ns');
  rest = go (all_fit xs ys) e (block_split k xs ys ms' ns' f.1.0 g.1.0 f.1.1 g.1.1);
}
  where
    go : (b : Bool) → false ≡ not b → b && all_fit ms' ns' ≡ all_fit marks numbers → all_fit ms' ns' ≡ all_fit marks numbers
    go true e h = h
    go false e h = cc

pub blocks_fail : {marks numbers ms ns : List ℕ} {size size' size₁ size₁' : ℕ} → Blocks marks numbers size size' ms ns → (xs ys ms' ns' : List ℕ) → true ≡ not (all_fit xs ys)
    → (size₁ ≡ size) × ((ms ≡ xs ++ ms') × (length xs ≡ min size (length ms)) × (0 < length ms)) → (size₁' ≡ size') × ((ns ≡ ys ++ ns') × (length ys ≡ min size' (length ns)) × (0 < length ns))
    → length numbers ≡ length marks → true ≡ not (numbers_fit (is_valid marks) numbers (range 0 (length marks)))
blocks_fail {marks} {numbers} k xs ys ms' ns' e f g h = go (all_fit xs ys) e (block_split k xs ys ms' ns' f.1.0 g.1.0 f.1.1 g.1.1) ∙ ap not (fits_numbers marks numbers h)
  where
    go : (b : Bool) → true ≡ not b → b && all_fit ms' ns' ≡ all_fit marks numbers → true ≡ not (all_fit marks numbers)
    go true e h = cc
    go false e h = ap not h

pub blocks_done : {marks numbers ms ns : List ℕ} {size size' : ℕ} → Blocks marks numbers size size' ms ns → (length ms ≡ 0) ⊎ (length ns ≡ 0) → length numbers ≡ length marks
    → false ≡ not (numbers_fit (is_valid marks) numbers (range 0 (length marks)))
blocks_done {marks} {numbers} {ms} {ns} k e h = ap not (sym (none ms ns k.long e) ∙ k.rest ∙ fits_numbers marks numbers h)
  where
    none : (ms ns : List ℕ) → length ns ≡ length ms → (length ms ≡ 0) ⊎ (length ns ≡ 0) → all_fit ms ns ≡ true
    none [] ns l h = refl
    none (m ∷ ms) ns l (inl h) = absurd (omega arith)
    none (m ∷ ms) ns l (inr h) = absurd (omega arith)

-- ---- a summary that rises

pub record RisingTo (numbers ss : List ℕ) (low i : ℕ) : Type 0 where
  pub rest : rising (length numbers) numbers low (drop i ss) ≡ rising (length numbers) numbers 0 ss

module _ {numbers ss : List ℕ} {low i m : ℕ} (h : i < length ss) (k : RisingTo numbers ss low i) (e : m ≡ number_of numbers (get_or ss i 0)) where
  next : ltb (get_or ss i 0) (length numbers) && ltb low m && rising (length numbers) numbers m (drop (i + 1) ss) ≡ rising (length numbers) numbers 0 ss
  next = rw (e, add-one i) (rw (drop-cons ss i 0 h) at k.rest)

  pub rising_low : m ≤ low → true ≡ not (rising (length numbers) numbers 0 ss)
  rising_low l = ap not (sym (ap (λ b. b && rising (length numbers) numbers m (drop (i + 1) ss)) (and-false (ltb (get_or ss i 0) (length numbers)))) ∙ (rw (le-ltb low m l) at next))

-- ---- blanks

pub blank_any : (xs : List ℕ) → list_any (λ s. not (eqb s blank)) xs ≡ not (all_blank xs)
blank_any [] = refl
blank_any (x ∷ xs) = go (eqb x blank) (blank_any xs)
  where
    go : (b : Bool) → list_any (λ s. not (eqb s blank)) xs ≡ not (all_blank xs) → not b || list_any (λ s. not (eqb s blank)) xs ≡ not (b && all_blank xs)
    go true e = e
    go false e = refl

-- ---- the three together

module _ (live : ℕ → Bool) (n count : ℕ) (numbers summary : List ℕ) where
  back : {p : Bool} (q : Bool) → p ≡ not q → p ≡ false → q ≡ true
  back true f g = refl
  back false f g = absurd (true≢false (sym f ∙ g))

  forth : {p : Bool} (q : Bool) → p ≡ not q → p ≡ true → q ≡ false
  forth true f g = absurd (true≢false (sym g ∙ f))
  forth false f g = refl

  pub bad_numbers : {a : Bool} → a ≡ not (numbers_fit live numbers (range 0 n)) → a ≡ true → true ≡ not (labels_ok live n count numbers summary)
  unfolding labels_ok
  bad_numbers e f = rw (forth (numbers_fit live numbers (range 0 n)) e f)

  module _ {a : Bool} (e : a ≡ not (numbers_fit live numbers (range 0 n))) (f : a ≡ false) (long : length numbers ≡ n) where
    pub bad_order : {b : Bool} → b ≡ not (rising (length numbers) numbers 0 (take count summary)) → b ≡ true → true ≡ not (labels_ok live n count numbers summary)
    unfolding labels_ok
    bad_order g h = rw (back (numbers_fit live numbers (range 0 n)) e f, ← long, forth (rising (length numbers) numbers 0 (take count summary)) g h)

    pub bad_rest : {b c : Bool} → b ≡ not (rising (length numbers) numbers 0 (take count summary)) → b ≡ false → c ≡ not (all_blank (drop count summary))
        → c ≡ not (labels_ok live n count numbers summary)
    unfolding labels_ok
    bad_rest g h k = rw (back (numbers_fit live numbers (range 0 n)) e f, ← long, back (rising (length numbers) numbers 0 (take count summary)) g h) k
