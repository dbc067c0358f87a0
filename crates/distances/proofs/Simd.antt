-- Laws of SIMD vectors, lane by lane. Assumes nothing.
use Rattle.std.proofs.Common.{◌≡◌, ℕ, zero, suc, ◌+◌, ◌-◌, ◌*◌, ◌/◌, ◌%◌, ◌<◌, ◌≤◌, Bool, false, cond, ltb, bit_and, Fits, w8}
use Rattle.std.proofs.Common.{List, [], ◌∷◌, ◌++◌, get_or, take, drop, map, length, replicate, refl, sym, subst, ◌∙◌, arith}
use Rattle.std.proofs.lemmas.Simd.{get_or-zip2, length-zip2, get_or-sel_l, length-sel_l, tops_compared, length-chunk, get_or-chunk}
use Rattle.std.proofs.lemmas.Simd.{get_or-replicate, Each1-get_or}
use Rattle.std.proofs.lemmas.Nat.{and_mask}
use native.Mathlib.Nat.{mul-le-mul, mul_assoc}
use Rattle.std.proofs.lemmas.List.{get_or_append_left, get_or-append_right}
use Rattle.std.specs.Simd.Lanes.{zip2, sel_l, top, Each1}
use Rattle.vectors.specs.Weights.{Ones}
use Rattle.distances.specs.Inner.Sums.{HasLanes, Most, Woven, pair_terms, lane_terms, difference}

abbrev pub OfBytes : List ℕ → Type 0
OfBytes v = (k : ℕ) → Fits w8 (get_or v k 0)

-- ---- 16 places of a slice

pub chunk_lanes : (v : List ℕ) (i : ℕ) → i + 16 ≤ length v → HasLanes 16 (take 16 (drop i v)) (λ k. get_or v (i + k) 0)
chunk_lanes v i h = record { long = length-chunk i 16 v h; each = λ k l. get_or-chunk i 16 v k 0 l }

pub ones_lanes : (ws : List ℕ) (i : ℕ) → i + 16 ≤ length ws → Ones ws → HasLanes 16 (replicate 16 1) (λ k. get_or ws (i + k) 0)
ones_lanes ws i h o = record { long = refl; each = λ k l. get_or-replicate {A = ℕ} 16 k 1 0 l ∙ sym (o (i + k) (omega arith)) }

-- ---- differences: of two lanes the larger less the smaller

larger_less : (x y : ℕ) → x < 256 → y < 256 → (cond (ltb x y) y x + (256 - cond (ltb x y) x y)) % 256 ≡ (x - y) + (y - x)
larger_less x y f g = grind arith

abbrev less : ℕ → ℕ → ℕ
less a b = (a + (256 - b)) % 256

abbrev differ : ℕ → ℕ → ℕ
differ x y = (x - y) + (y - x)

lanes_differ : (n : ℕ) (x y : List ℕ) → length x ≡ n → length y ≡ n → ((k : ℕ) → k < n → get_or x k 0 < 256) → ((k : ℕ) → k < n → get_or y k 0 < 256)
    → HasLanes n (zip2 less (sel_l (zip2 ltb x y) y x) (sel_l (zip2 ltb x y) x y)) (λ k. differ (get_or x k 0) (get_or y k 0))
lanes_differ n x y lx ly f g =
    let z : List Bool = zip2 ltb x y in
    let lz : length z ≡ n = length-zip2 ltb x y (omega (arith, lx, ly)) ∙ lx in
    let zx : length z ≡ length x = omega (arith, lz, lx) in
    let zy : length z ≡ length y = omega (arith, lz, ly) in
    let la : length (sel_l z y x) ≡ n = length-sel_l z y x zy zx ∙ lz in
    let lb : length (sel_l z x y) ≡ n = length-sel_l z x y zx zy ∙ lz in
    record {
      long = length-zip2 less _ _ (omega (arith, la, lb)) ∙ la;
      each = λ k h.
          let iz : k < length z = omega (arith, lz) in
          let ix : k < length x = omega (arith, lx) in
          let iy : k < length y = omega (arith, ly) in
          get_or-zip2 less (sel_l z y x) (sel_l z x y) k 0 0 0 (omega (arith, la)) (omega (arith, lb))
          ∙ rw (get_or-sel_l z y x k 0 iz iy ix, get_or-sel_l z x y k 0 iz ix iy, get_or-zip2 ltb x y k 0 0 false ix iy)
          (larger_less (get_or x k 0) (get_or y k 0) (f k h) (g k h));
    }

-- of 16 bytes of two slices
pub slices_differ : (a b : List ℕ) (i : ℕ) → i + 16 ≤ length a → length b ≡ length a → OfBytes a → OfBytes b
    → let x = take 16 (drop i a) in
    let y = take 16 (drop i b) in
    let ms = map (top 7) (zip2 (λ u v. cond (ltb u v) 255 0) x y) in
    HasLanes 16 (zip2 less (sel_l ms y x) (sel_l ms x y)) (λ k. difference a b (i + k))
slices_differ a b i h e f g =
    let x : List ℕ = take 16 (drop i a) in
    let y : List ℕ = take 16 (drop i b) in
    let p = chunk_lanes a i h in
    let q = chunk_lanes b i (omega arith) in
    let r = lanes_differ 16 x y p.long q.long (λ k l. rw (p.each k l) (f (i + k)).fits) (λ k l. rw (q.each k l) (g (i + k)).fits) in
    let s : HasLanes 16 (zip2 less (sel_l (zip2 ltb x y) y x) (sel_l (zip2 ltb x y) x y)) (λ k. difference a b (i + k)) =
    record { long = r.long; each = λ k l. r.each k l ∙ rw (p.each k l, q.each k l) } in
    subst (λ (ms : List Bool). HasLanes 16 (zip2 less (sel_l ms y x) (sel_l ms x y)) (λ k. difference a b (i + k))) (sym (tops_compared w8 ltb x y)) s

-- ---- lanes by their numbers

pub below_4 : (P : ℕ → Type 0) → P 0 → P 1 → P 2 → P 3 → (k : ℕ) → k < 4 → P k
below_4 P a b c d zero h = a
below_4 P a b c d (suc zero) h = b
below_4 P a b c d (suc (suc zero)) h = c
below_4 P a b c d (suc (suc (suc zero))) h = d
below_4 P a b c d (suc (suc (suc (suc k)))) h = absurd (omega arith)

below_8 : (P : ℕ → Type 0) → P 0 → P 1 → P 2 → P 3 → P 4 → P 5 → P 6 → P 7 → (k : ℕ) → k < 8 → P k
below_8 P a b c d e f g h zero l = a
below_8 P a b c d e f g h (suc zero) l = b
below_8 P a b c d e f g h (suc (suc zero)) l = c
below_8 P a b c d e f g h (suc (suc (suc zero))) l = d
below_8 P a b c d e f g h (suc (suc (suc (suc k)))) l = below_4 (λ k. P (suc (suc (suc (suc k))))) e f g h k (omega arith)

-- ---- woven lanes

-- the lanes that `interleave` takes
abbrev taken : List ℕ → List ℕ → List ℕ → List ℕ
taken v w ks = map (λ k. get_or (v ++ w) k 0) ks

module _ (v w : List ℕ) (lv : length v ≡ 16) (lw : length w ≡ 16) where
  first : (k : ℕ) → k < 16 → get_or (v ++ w) k 0 ≡ get_or v k 0
  first k h = get_or_append_left v w 0 k (omega (arith, lv))

  second : (k : ℕ) → get_or (v ++ w) (16 + k) 0 ≡ get_or w k 0
  second k = let e : (16 + k) - 16 ≡ k = omega arith in get_or-append_right v w 16 (16 + k) 0 lv (omega arith) ∙ rw e

  -- where p takes the k-th lane behind from, and then that of w
  takes : (from : ℕ) {p : List ℕ} → from ≤ 8 → ((k : ℕ) → k < 8 → get_or p (2 * k) 0 ≡ get_or (v ++ w) (from + k) 0)
      → ((k : ℕ) → k < 8 → get_or p (2 * k + 1) 0 ≡ get_or (v ++ w) (16 + (from + k)) 0) → Woven v w from p
  takes from b f g = record { even = λ k h. f k h ∙ first (from + k) (omega arith); odd = λ k h. g k h ∙ second (from + k) }

  pub woven_low : Woven v w 0 (taken v w (0 ∷ 16 ∷ 1 ∷ 17 ∷ 2 ∷ 18 ∷ 3 ∷ 19 ∷ 4 ∷ 20 ∷ 5 ∷ 21 ∷ 6 ∷ 22 ∷ 7 ∷ 23 ∷ []))
  woven_low = takes 0 (omega arith) (below_8 _ refl refl refl refl refl refl refl refl) (below_8 _ refl refl refl refl refl refl refl refl)

  pub woven_high : Woven v w 8 (taken v w (8 ∷ 24 ∷ 9 ∷ 25 ∷ 10 ∷ 26 ∷ 11 ∷ 27 ∷ 12 ∷ 28 ∷ 13 ∷ 29 ∷ 14 ∷ 30 ∷ 15 ∷ 31 ∷ []))
  woven_high = takes 8 (omega arith) (below_8 _ refl refl refl refl refl refl refl refl) (below_8 _ refl refl refl refl refl refl refl refl)

-- ---- pairs of lanes

-- additions of 32 bits
abbrev pub plus : ℕ → ℕ → ℕ
plus a b = (a + b) % 4294967296

sums_fit : (p q r s : ℕ) → p ≤ 260100 → q ≤ 260100 → r ≤ 260100 → s ≤ 260100
    → plus (plus (p % 4294967296) (q % 4294967296)) (plus (r % 4294967296) (s % 4294967296)) ≡ (p + q) + (r + s)
sums_fit p q r s a b c d = omega arith

module _ (x d : List ℕ) (lx : length x ≡ 16) (ld : length d ≡ 16) (few : Most 1020 x) (small : Most 255 d) where
  product : (k : ℕ) → k < 16 → get_or (x ++ x) k 0 * get_or (d ++ d) k 0 ≡ get_or x k 0 * get_or d k 0
  product k h = rw (get_or_append_left x x 0 k (omega (arith, lx)), get_or_append_left d d 0 k (omega (arith, ld)))

  bounded : (k : ℕ) → k < 16 → get_or x k 0 * get_or d k 0 ≤ 260100
  bounded k h = mul-le-mul (few k h) (small k h)

  -- a product of 32 bits, as `swizzle` takes its lanes
  abbrev times_32 : ℕ → ℕ
  times_32 k = (get_or (x ++ x) k 0 * get_or (d ++ d) k 0) % 4294967296

  pub lane_paired : (r : ℕ) → r < 4
      → plus (plus (times_32 (2 * r)) (times_32 (2 * r + 1))) (plus (times_32 (2 * (r + 4))) (times_32 (2 * (r + 4) + 1))) ≡ pair_terms x d r
  lane_paired r h =
      let i : 2 * r < 16 = omega arith in
      let j : 2 * r + 1 < 16 = omega arith in
      let k : 2 * (r + 4) < 16 = omega arith in
      let l : 2 * (r + 4) + 1 < 16 = omega arith in
      rw (product (2 * r) i, product (2 * r + 1) j, product (2 * (r + 4)) k, product (2 * (r + 4) + 1) l)
      (sums_fit _ _ _ _ (bounded (2 * r) i) (bounded (2 * r + 1) j) (bounded (2 * (r + 4)) k) (bounded (2 * (r + 4) + 1) l))

-- ---- weights

module _ (w d : List ℕ) (lw : length w ≡ 16) (ld : length d ≡ 16) (few : Most 4 w) (small : Most 255 d) where
  abbrev times : ℕ → ℕ → ℕ
  times a b = (a * b) % 65536

  pub lanes_weighted : HasLanes 16 (zip2 bit_and (zip2 times w d) (replicate 16 32767)) (λ k. get_or w k 0 * get_or d k 0)
  lanes_weighted =
      let l : length (zip2 times w d) ≡ 16 = length-zip2 times w d (omega (arith, lw, ld)) ∙ lw in
      record {
        long = length-zip2 bit_and (zip2 times w d) (replicate 16 32767) l ∙ l;
        each = λ k h.
            let b : get_or w k 0 * get_or d k 0 ≤ 1020 = mul-le-mul (few k h) (small k h) in
            get_or-zip2 bit_and (zip2 times w d) (replicate 16 32767) k 0 0 0 (omega (arith, l)) h
            ∙ rw (get_or-zip2 times w d k 0 0 0 (omega (arith, lw)) (omega (arith, ld)), get_or-replicate {A = ℕ} 16 k 32767 0 h)
            (and_mask ((get_or w k 0 * get_or d k 0) % 65536) 15 ∙ omega (arith, b));
      }

-- ---- blocks

abbrev Bytes : List ℕ → Type 0
Bytes v = (length v ≡ 16) × Each1 (Fits w8) v

bytes_most : (v : List ℕ) → Bytes v → Most 255 v
bytes_most v f k h = let g : get_or v k 0 < 256 = (Each1-get_or (Fits w8) v k 0 (omega (arith, f.0)) f.1).fits in omega (arith, g)

by_parity : {A : Type 0} (r : ℕ) → r < 2 → (r ≡ 0 → A) → (r ≡ 1 → A) → A
by_parity zero h f g = f refl
by_parity (suc zero) h f g = g refl
by_parity (suc (suc r)) h f g = absurd (omega arith)

pub woven_most : (m : ℕ) {from : ℕ} {v w p : List ℕ} → from ≤ 8 → Woven v w from p → Most m v → Most m w → Most m p
woven_most m {from} {v} {w} {p} b woven f g k h =
    let j : ℕ = k / 2 in
    let few : j < 8 = omega arith in
    by_parity (k % 2) (omega arith)
    (λ e. let i : k ≡ 2 * j = omega (arith, e) in rw (i, woven.even j few) (f (from + j) (omega arith)))
    (λ e. let i : k ≡ 2 * j + 1 = omega (arith, e) in rw (i, woven.odd j few) (g (from + j) (omega arith)))

pub woven_bytes : {from : ℕ} (d e : List ℕ) {p : List ℕ} → from ≤ 8 → Woven d e from p → Bytes d → Bytes e → Most 255 p
woven_bytes d e b woven f g = woven_most 255 b woven (bytes_most d f) (bytes_most e g)

-- where the weights are not read, those that one would weave are all 1
woven_ones : {from : ℕ} {v w : List ℕ} → from ≤ 8 → Ones v × Ones w → Bytes v × Bytes w → Woven v w from (replicate 16 1)
woven_ones {from} {v} {w} b o long = record {
  even = λ k h. get_or-replicate {A = ℕ} 16 (2 * k) 1 0 (omega arith) ∙ sym (o.0 (from + k) (omega (arith, long.0.0)));
  odd = λ k h. get_or-replicate {A = ℕ} 16 (2 * k + 1) 1 0 (omega arith) ∙ sym (o.1 (from + k) (omega (arith, long.1.0)));
}

-- each lane of x is the one of s times the one of p
abbrev Scaled : List ℕ → List ℕ → List ℕ → Type 0
Scaled s p x = (k : ℕ) → k < 16 → get_or x k 0 ≡ get_or s k 0 * get_or p k 0

scaled_ones : (p : List ℕ) → Scaled (replicate 16 1) p p
scaled_ones p k h = rw (get_or-replicate {A = ℕ} 16 k 1 0 h) (omega arith)

abbrev weighted_square : List ℕ → List ℕ → ℕ → ℕ
weighted_square w d k = get_or w k 0 * (get_or d k 0 * get_or d k 0)

module _ {d e v w p s : List ℕ} (x : List ℕ) {from : ℕ} (m : Woven d e from p) (n : Woven v w from s) (f : Scaled s p x) where
  even_term : (k j : ℕ) → k < 8 → j ≡ from + k → get_or x (2 * k) 0 * get_or p (2 * k) 0 ≡ weighted_square v d j
  even_term k j h i = rw (i, f (2 * k) (omega arith), n.even k h, m.even k h) (mul_assoc _ _ _)

  odd_term : (k j : ℕ) → k < 8 → j ≡ from + k → get_or x (2 * k + 1) 0 * get_or p (2 * k + 1) 0 ≡ weighted_square w e j
  odd_term k j h i = rw (i, f (2 * k + 1) (omega arith), n.odd k h, m.odd k h) (mul_assoc _ _ _)

  woven_pair : (r j k : ℕ) → r < 4 → j ≡ from + r → k ≡ from + (r + 4)
      → pair_terms x p r ≡ (weighted_square v d j + weighted_square w e j) + (weighted_square v d k + weighted_square w e k)
  woven_pair r j k h a b =
      let l : r < 8 = omega arith in
      let m : r + 4 < 8 = omega arith in
      rw (even_term r j l a, odd_term r j l a, even_term (r + 4) k m b, odd_term (r + 4) k m b)

square_fits : (w d : ℕ) → w ≤ 4 → d ≤ 255 → w * (d * d) ≤ 260100
square_fits w d f g = mul-le-mul f (mul-le-mul g g)

lane_terms_fit : (w d : List ℕ) → Most 4 w → Most 255 d → (r : ℕ) → r < 4 → lane_terms w d r ≤ 1040400
lane_terms_fit w d f g r h =
    let at : (k : ℕ) → k < 16 → weighted_square w d k ≤ 260100 = λ k l. square_fits _ _ (f k l) (g k l) in
    omega (arith, at r (omega arith), at (r + 4) (omega arith), at (r + 8) (omega arith), at (r + 12) (omega arith))

-- two sums of four, which fit, lane by lane
pub lanes_plus : {f g h : ℕ → ℕ} {v w : List ℕ} → HasLanes 4 v f → HasLanes 4 w g → ((r : ℕ) → r < 4 → f r + g r ≡ h r) → ((r : ℕ) → r < 4 → h r < 4294967296)
    → HasLanes 4 (zip2 plus v w) h
lanes_plus {f} {g} {h} {v} {w} p q e b = record {
  long = length-zip2 plus v w (p.long ∙ sym q.long) ∙ p.long;
  each = λ r l.
      get_or-zip2 plus v w r 0 0 0 (omega (arith, p.long)) (omega (arith, q.long)) ∙ rw (p.each r l, q.each r l, e r l) (omega (arith, b r l));
}

block_lanes : {d e v w p q s t : List ℕ} (x y : List ℕ) {f g : List ℕ} → Woven d e 0 p × Woven d e 8 q → Woven v w 0 s × Woven v w 8 t
    → Scaled s p x → Scaled t q y → Most 255 d × Most 255 e → Most 4 v × Most 4 w → HasLanes 4 f (pair_terms x p) → HasLanes 4 g (pair_terms y q)
    → HasLanes 4 (zip2 plus f g) (λ r. lane_terms v d r + lane_terms w e r)
block_lanes {d} {e} {v} {w} {p} {q} {s} {t} x y a b j k small few m n =
    lanes_plus m n
    (λ r h.
    let low = woven_pair x a.0 b.0 j r r (r + 4) h (omega arith) (omega arith) in
    let high = woven_pair y a.1 b.1 k r (r + 8) (r + 12) h (omega arith) (omega arith) in
    rw (low, high) (omega arith))
    (λ r h. omega (arith, lane_terms_fit v d few.0 small.0 r h, lane_terms_fit w e few.1 small.1 r h))

-- what `pairs` and `weighted` ask
pub most_more : (p : List ℕ) → Most 255 p → Most 1020 p × Most 255 p
most_more p f = (λ k h. omega (arith, f k h), f)

pub most_weighted : (s p : List ℕ) {x : List ℕ} → HasLanes 16 x (λ k. get_or s k 0 * get_or p k 0) → Most 4 s → Most 255 p → Most 1020 x × Most 255 p
most_weighted s p h f g = (λ k l. rw (h.each k l) (mul-le-mul (f k l) (g k l)), g)

pub block_ones : (v w : List ℕ) {d e p q f g : List ℕ} → Woven d e 0 p × Woven d e 8 q → Ones v × Ones w → Bytes d × Bytes e → Bytes v × Bytes w
    → Most 4 v × Most 4 w → HasLanes 4 f (pair_terms p p) → HasLanes 4 g (pair_terms q q) → HasLanes 4 (zip2 plus f g) (λ r. lane_terms v d r + lane_terms w e r)
block_ones v w {d} {e} {p} {q} a o small long few m n =
    block_lanes p q a (woven_ones (omega arith) o long, woven_ones (omega arith) o long) (scaled_ones p) (scaled_ones q)
    (bytes_most d small.0, bytes_most e small.1) few m n

pub block_weighted : {d e v w p q s t x y f g : List ℕ} → Woven d e 0 p × Woven d e 8 q → Woven v w 0 s × Woven v w 8 t
    → HasLanes 16 x (λ k. get_or s k 0 * get_or p k 0) → HasLanes 16 y (λ k. get_or t k 0 * get_or q k 0) → Bytes d × Bytes e → Most 4 v × Most 4 w
    → HasLanes 4 f (pair_terms x p) → HasLanes 4 g (pair_terms y q) → HasLanes 4 (zip2 plus f g) (λ r. lane_terms v d r + lane_terms w e r)
block_weighted {d} {e} {v} {w} {p} {q} {s} {t} {x} {y} a b h i small few m n =
    block_lanes x y a b h.each i.each (bytes_most d small.0, bytes_most e small.1) few m n

-- where all differences are 0
pub no_terms : (w : List ℕ) (r : ℕ) → r < 4 → lane_terms w (replicate 16 0) r ≡ 0
no_terms w r h =
    let z : (k : ℕ) → k < 16 → get_or (replicate 16 0) k 0 ≡ 0 = λ k l. get_or-replicate {A = ℕ} 16 k 0 0 l in
    rw (z r (omega arith), z (r + 4) (omega arith), z (r + 8) (omega arith), z (r + 12) (omega arith)) (omega arith)
