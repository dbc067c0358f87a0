-- A list that holds d elements for each slot: what replacing a slot's part does to each part and to the list. Assumes nothing.
use Prim.Native.Nat.{ℕ, zero, suc, ◌+◌, ◌-◌, ◌*◌, ◌≤◌, ◌<◌}
use mathlib.Core.Bool.{Bool, true, false, cond}
use mathlib.Core.Path.{◌≡◌, refl, sym, ap, ◌∙◌}
use mathlib.Core.Logic.{◌≢◌}
use mathlib.Core.List.{List, [], ◌∷◌, ◌++◌, append_assoc}
use native.Mathlib.Decide.{dec_lt}
use native.Mathlib.Omega.{arith}
use native.Mathlib.Nat.{mul-le-mul_right, suc-mul, zero-mul, add-mul}
use borrow.Author.Tests.{eqb-true, eqb-false}
use lib.Dec.{eqb}
use lib.ListN.{length, take, drop, length-append, length-drop, take-append-drop}
use lib.Seq.{take_at, drop_at, take-append-le, drop-append-le, length-take-le, drop-append-add, drop-drop, take-take}
use Rattle.std.proofs.lemmas.List.{drop-take}
use Rattle.lists.specs.Lists.{part, put_part}

-- a slot's part ends before the next slot's begins
pub before_next : (d t s : ℕ) → t < s → t * d + d ≤ s * d
before_next d t s h = omega (arith, mul-le-mul_right d h, suc-mul t d)

-- a slot inside has its part
pub fits_in : (d capacity s n : ℕ) → s < capacity → n ≡ capacity * d → s * d + d ≤ n
fits_in d capacity s n h e = rw e (before_next d s capacity h)

append_left : (d t : ℕ) (p r : List ℕ) → t * d + d ≤ length p → part d t (p ++ r) ≡ part d t p
append_left d t p r h =
    let h₁ : t * d ≤ length p = omega arith in
    let h₂ : d ≤ length (drop (t * d) p) = simp length-drop (omega arith) in
    rw (drop-append-le (t * d) p r h₁, take-append-le d (drop (t * d) p) r h₂)

append_right : (d t n : ℕ) (p r : List ℕ) → t * d ≡ length p + n → part d t (p ++ r) ≡ take d (drop n r)
append_right d t n p r e = rw (e, drop-append-add p r n)

module _ (d s : ℕ) (xs l : List ℕ) (lx : length xs ≡ d) (fits : s * d + d ≤ length l) where
  front : length (take (s * d) l) ≡ s * d
  front = length-take-le (s * d) l (omega arith)

  pub length_put : length (put_part d s xs l) ≡ length l
  length_put = simp (length-append, length-drop, front, lx) (omega arith)

  same : part d s (put_part d s xs l) ≡ xs
  same = rw (drop_at (take (s * d) l) (xs ++ drop (s * d + d) l) (s * d) front, take_at xs (drop (s * d + d) l) d lx)

  below : (t : ℕ) → t < s → part d t (put_part d s xs l) ≡ part d t l
  below t h =
      let k : t * d + d ≤ length (take (s * d) l) = rw front (before_next d t s h) in
      append_left d t (take (s * d) l) (xs ++ drop (s * d + d) l) k
      ∙ sym (append_left d t (take (s * d) l) (drop (s * d) l) k)
      ∙ ap (part d t) (take-append-drop (s * d) l)

  above : (t : ℕ) → s < t → part d t (put_part d s xs l) ≡ part d t l
  above t h =
      let b : s * d + d ≤ t * d = before_next d s t h in
      let n : ℕ = t * d - (s * d + d) in
      let e₁ : t * d ≡ length (take (s * d) l ++ xs) + n = simp (length-append, front, lx) (omega arith) in
      let e₂ : t * d ≡ length (take (s * d + d) l) + n = simp (length-take-le (s * d + d) l fits) (omega arith) in
      ap (part d t) (sym (append_assoc (take (s * d) l) xs (drop (s * d + d) l)))
      ∙ append_right d t n (take (s * d) l ++ xs) (drop (s * d + d) l) e₁
      ∙ sym (append_right d t n (take (s * d + d) l) (drop (s * d + d) l) e₂)
      ∙ ap (part d t) (take-append-drop (s * d + d) l)

  other : (t : ℕ) → t ≢ s → Dec (t < s) → part d t (put_part d s xs l) ≡ part d t l
  other t n (yes h) = below t h
  other t n (no h) = above t (omega arith)

  -- the part of the slot is the new one, every other is as it was
  pub part_put : (t : ℕ) → part d t (put_part d s xs l) ≡ cond (eqb t s) xs (part d t l)
  part_put t = go (eqb t s) refl
    where
      go : (b : Bool) → eqb t s ≡ b → part d t (put_part d s xs l) ≡ cond b xs (part d t l)
      go true e = ap (λ j. part d j (put_part d s xs l)) (eqb-true t s e) ∙ same
      go false e = other t (eqb-false t s e) (dec_lt t s)

-- ---- a list is its parts

later : (d t : ℕ) (l : List ℕ) → part d t (drop d l) ≡ part d (suc t) l
later d t l =
    let e : d + t * d ≡ suc t * d = omega (arith, suc-mul t d) in
    ap (take d) (drop-drop (t * d) d l ∙ ap (λ k. drop k l) e)

pub parts_same : (d n : ℕ) (l l' : List ℕ) → length l ≡ n * d → length l' ≡ n * d → ((t : ℕ) → t < n → part d t l ≡ part d t l') → l ≡ l'
parts_same d zero [] [] e e' h = refl
parts_same d zero [] (x ∷ l') e e' h = absurd (omega (arith, e', zero-mul d))
parts_same d zero (x ∷ l) l' e e' h = absurd (omega (arith, e, zero-mul d))
parts_same d (suc n) l l' e e' h =
    let m : suc n * d ≡ n * d + d = suc-mul n d in
    let first : take d l ≡ take d l' = rw zero-mul at (h 0 (omega arith)) in
    let rest : drop d l ≡ drop d l' =
    parts_same d n (drop d l) (drop d l') (simp length-drop (omega arith)) (simp length-drop (omega arith))
    (λ t k. later d t l ∙ h (suc t) (omega arith) ∙ sym (later d t l')) in
    sym (take-append-drop d l) ∙ rw (first, rest) (take-append-drop d l')

module _ (d n : ℕ) (xs ys l : List ℕ) (lx : length xs ≡ d) (ly : length ys ≡ d) (long : length l ≡ n * d) where
  -- the part that was put last stays
  pub put_again : (s : ℕ) → s < n → put_part d s ys (put_part d s xs l) ≡ put_part d s ys l
  put_again s h =
      let f : s * d + d ≤ length l = fits_in d n s (length l) h long in
      let k : length (put_part d s xs l) ≡ length l = length_put d s xs l lx f in
      let f' : s * d + d ≤ length (put_part d s xs l) = rw k f in
      parts_same d n _ _ (length_put d s ys (put_part d s xs l) ly f' ∙ k ∙ long) (length_put d s ys l ly f ∙ long)
      (λ t _. part_put d s ys (put_part d s xs l) ly f' t ∙ ap (cond (eqb t s) ys) (part_put d s xs l lx f t)
      ∙ go (eqb t s) (part d t l) ∙ sym (part_put d s ys l ly f t))
    where
      go : (b : Bool) (r : List ℕ) → cond b ys (cond b xs r) ≡ cond b ys r
      go true r = refl
      go false r = refl

  -- parts of two slots may be put in either order
  pub put_both : (s t : ℕ) → s < n → t < n → s ≢ t → put_part d t ys (put_part d s xs l) ≡ put_part d s xs (put_part d t ys l)
  put_both s t hs ht other =
      let fs : s * d + d ≤ length l = fits_in d n s (length l) hs long in
      let ft : t * d + d ≤ length l = fits_in d n t (length l) ht long in
      let ks : length (put_part d s xs l) ≡ length l = length_put d s xs l lx fs in
      let kt : length (put_part d t ys l) ≡ length l = length_put d t ys l ly ft in
      let ft' : t * d + d ≤ length (put_part d s xs l) = rw ks ft in
      let fs' : s * d + d ≤ length (put_part d t ys l) = rw kt fs in
      parts_same d n _ _ (length_put d t ys (put_part d s xs l) ly ft' ∙ ks ∙ long) (length_put d s xs (put_part d t ys l) lx fs' ∙ kt ∙ long)
      (λ u _. part_put d t ys (put_part d s xs l) ly ft' u ∙ ap (cond (eqb u t) ys) (part_put d s xs l lx fs u)
      ∙ go (eqb u s) (eqb u t) (part d u l) (λ p q. other (sym (eqb-true u s p) ∙ eqb-true u t q))
      ∙ sym (part_put d s xs (put_part d t ys l) lx fs' u ∙ ap (cond (eqb u s) xs) (part_put d t ys l ly ft u)))
    where
      go : (b c : Bool) (r : List ℕ) → (b ≡ true → c ≡ true → ⊥) → cond c ys (cond b xs r) ≡ cond b xs (cond c ys r)
      go true true r h = absurd (h refl refl)
      go true false r h = refl
      go false true r h = refl
      go false false r h = refl

-- ---- the parts of some slots

-- the part of slot i among those of n slots from one on
pub part_part : (d from n i : ℕ) (l : List ℕ) → i < n → part d i (take (n * d) (drop (from * d) l)) ≡ part d (from + i) l
part_part d from n i l h =
    let k : ℕ = n * d - (i * d + d) in
    let e : n * d ≡ i * d + (d + k) = omega (arith, before_next d i n h) in
    ap (λ (x : ℕ). take d (drop (i * d) (take x (drop (from * d) l)))) e
    ∙ ap (take d) (drop-take (i * d) (d + k) (drop (from * d) l))
    ∙ take-take d (d + k) (drop (i * d) (drop (from * d) l)) (omega arith)
    ∙ ap (take d) (drop-drop (i * d) (from * d) l ∙ ap (λ (x : ℕ). drop x l) (sym (add-mul from i d)))
