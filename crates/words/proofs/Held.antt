-- An index in words: what is written is read back, and no NaN passes. Assumes nothing.
use Prim.Native.Nat.{ℕ, ◌%◌, ◌≤◌, ◌<◌}
use mathlib.Core.Bool.{Bool, true, false, not, ◌&&◌, cond}
use mathlib.Core.List.{List, [], ◌∷◌}
use mathlib.Core.Path.{◌≡◌, refl, sym, ap, ◌∙◌, subst}
use Rattle.std.specs.Prelude.{Option, Some, None, is_some}
use Rattle.std.specs.Option.{unwrap_or}
use Rattle.std.specs.Int.{from_bool}
use native.Mathlib.Omega.{arith}
use borrow.Author.Tests.{lt-ltb, le-ltb}
use lib.Dec.{T}
use lib.Ieee.{Float, nan, inf, fin, binary32, of_bits, to_bits, nan_bits, is_nan, fits, le, lt, eq}
use lib.Ieee.Bits.{is_false, of_bits-fits, nan_bits_is, nan_bits_above, of_bits-to_bits}
use Rattle.vectors.specs.Distance.{f32}
use Rattle.candidates.proofs.Floats.{one_bits}
use Rattle.slots.specs.Sizes.{alpha_ok}
use Rattle.index.specs.declared.Index.{Index}
use Rattle.index.specs.Index as Index
use Rattle.index.specs.declared.Guard.{Guard}
use Rattle.words.specs.IndexWords.{alpha_of, guard_of, index_of, guard_words, value_words, words_of}

-- ---- alpha

-- what the code tests of the bits
module _ (n : ℕ) where
  pub bits_nan : 2139095040 < n % 2147483648 → nan_bits binary32 n ≡ true
  bits_nan h = nan_bits_above binary32 n ∙ lt-ltb _ _ h

  pub bits_number : n % 2147483648 ≤ 2139095040 → nan_bits binary32 n ≡ false
  bits_number h = nan_bits_above binary32 n ∙ le-ltb _ _ h

  pub alpha_nan : nan_bits binary32 n ≡ true → of_bits binary32 0 ≡ alpha_of n
  unfolding alpha_of
  alpha_nan e = rw e

  pub alpha_number : nan_bits binary32 n ≡ false → of_bits binary32 n ≡ alpha_of n
  unfolding alpha_of
  alpha_number e = rw e

  pub number_bits : nan_bits binary32 n ≡ false → T (not (nan_bits binary32 n))
  number_bits e = subst (λ b. T (not b)) (sym e) tt

not_below : (x : Float) → le x nan ≡ false
unfolding le lt eq
not_below nan = refl
not_below (inf s) = refl
not_below (fin s m e) = refl

-- an alpha that passes row 2 is a number
pub alpha_right : (a : Float) → alpha_ok a ≡ true → T (not (is_nan a))
unfolding alpha_ok is_nan
alpha_right nan e = absurd (let y : false ≡ true = rw (not_below (f32 1)) at e in let z : ◌≡◌ {A = ℕ} 0 1 = cc in omega arith)
alpha_right (inf s) e = tt
alpha_right (fin s m x) e = tt

zero_bad : alpha_ok (of_bits binary32 0) ≡ false
unfolding alpha_ok
zero_bad = ap (λ x. le x (of_bits binary32 0) && le (of_bits binary32 0) (f32 2)) one_bits ∙ (unfold le lt eq of_bits in refl)

-- a NaN's bits in word 3 do not pass
pub nan_bad : (n : ℕ) → nan_bits binary32 n ≡ true → alpha_ok (alpha_of n) ≡ false
nan_bad n e = ap alpha_ok (sym (alpha_nan n e)) ∙ zero_bad

-- alpha in a word is an f32
pub alpha_fits : (n : ℕ) → T (fits binary32 (alpha_of n))
unfolding alpha_of
alpha_fits n = go (nan_bits binary32 n)
  where
    go : (q : Bool) → T (fits binary32 (cond q (of_bits binary32 0) (of_bits binary32 n)))
    go true = of_bits-fits binary32 0
    go false = of_bits-fits binary32 n

alpha_held : (a : Float) → T (fits binary32 a) → T (not (is_nan a)) → alpha_of (to_bits binary32 a) ≡ a
alpha_held a f h =
    let e = of_bits-to_bits binary32 a f in
    sym (alpha_number _ (nan_bits_is binary32 (to_bits binary32 a) ∙ ap is_nan e ∙ is_false (is_nan a) h)) ∙ e

-- ---- the whole index

guard_held : (a b c d e f : ℕ) (g : Option Guard) → guard_of (a ∷ b ∷ c ∷ d ∷ e ∷ f ∷ guard_words (Index.guard_of g)) ≡ g
unfolding guard_of guard_words Index.guard_of
guard_held a b c d e f None = refl
guard_held a b c d e f (Some s) = refl

-- what the code writes where a guard is off
abbrev no_guard : Guard
no_guard = record { config = record { count = 0; multiplier = 0; sample = 0; beam = 0 }; pool = 0 }

pub words_told : (i : Index) {on : ℕ} {g : Guard} → on ≡ from_bool (is_some i.guard) → g ≡ unwrap_or i.guard no_guard
    → i.dim ∷ i.capacity ∷ i.degree ∷ to_bits binary32 i.alpha ∷ i.entry ∷ i.live ∷ on ∷ g.config.count ∷ g.config.multiplier ∷ g.config.sample ∷ g.config.beam ∷ g.pool ∷ [] ≡ words_of i
unfolding value_words guard_words Index.guard_of
words_told i e f = rw (e, f) (go i.guard)
  where
    go : (g : Option Guard)
        → i.dim ∷ i.capacity ∷ i.degree ∷ to_bits binary32 i.alpha ∷ i.entry ∷ i.live ∷ from_bool (is_some g) ∷ (unwrap_or g no_guard).config.count ∷ (unwrap_or g no_guard).config.multiplier
        ∷ (unwrap_or g no_guard).config.sample ∷ (unwrap_or g no_guard).config.beam ∷ (unwrap_or g no_guard).pool ∷ []
        ≡ i.dim ∷ i.capacity ∷ i.degree ∷ to_bits binary32 i.alpha ∷ i.entry ∷ i.live ∷ guard_words (Index.guard_of g)
    go None = refl
    go (Some s) = refl

-- words hold an index faithfully
pub words_hold : (i : Index) → T (fits binary32 i.alpha) → T (not (is_nan i.alpha)) → index_of (words_of i) ≡ i
unfolding index_of value_words
words_hold i f h = λ j. record {
  dim = i.dim;
  capacity = i.capacity;
  degree = i.degree;
  alpha = alpha_held i.alpha f h j;
  entry = i.entry;
  live = i.live;
  guard = guard_held i.dim i.capacity i.degree (to_bits binary32 i.alpha) i.entry i.live i.guard j;
}

-- an index that a call leaves, whose alpha is the one that it was lent and passed row 2
module _ {alpha : Float} (i : Index) (a : (i.alpha ≡ alpha) × (alpha_ok alpha ≡ true)) where
  pub number_left : T (not (is_nan i.alpha))
  number_left = alpha_right i.alpha (ap alpha_ok a.0 ∙ a.1)

pub held_left : (words : List ℕ) (i : Index) → (i.alpha ≡ (index_of words).alpha) × (alpha_ok (index_of words).alpha ≡ true) → index_of (words_of i) ≡ i
unfolding index_of
held_left words i a = words_hold i (subst (λ x. T (fits binary32 x)) (sym a.0) (alpha_fits _)) (number_left i a)
