-- Laws of the four running sums. Assumes nothing.
use Rattle.std.proofs.Common.{◌≡◌, ℕ, zero, suc, ◌+◌, ◌-◌, ◌*◌, ◌<◌, ◌≤◌, Bool, List, [], ◌∷◌, get_or, drop, length, replicate, refl, sym, ◌∙◌, arith}
use native.Mathlib.Nat.{mul-le-mul}
use native.Mathlib.Decide.{dec_lt}
use native.Mathlib.Numerals.{add-one}
use lib.ListN.{length-drop}
use lib.Seq.{drop-cons}
use Rattle.std.proofs.lemmas.List.{drop-drop}
use Rattle.std.proofs.lemmas.Simd.{fold-sum}
use Rattle.std.specs.Simd.Lanes.{zip2, sum_l, fold_l}
use Rattle.lists.specs.Lists.{sum, All}
use Rattle.vectors.specs.Distance.{squared_difference, distance}
use Rattle.vectors.specs.Space.{Measured}
use Rattle.vectors.proofs.Distances.{sum_step, sum_drop, square_small, weighted_small}
use Rattle.distances.specs.Lanes.{lane_sum, Lanes, FourSums}
use Rattle.distances.specs.Inner.Sums.{Sides, LaneSummed, Summed, HasLanes, difference, term, lane_terms}
use Rattle.distances.proofs.Simd.{OfBytes, below_4, plus, lanes_plus, no_terms}

-- ---- lanes

-- the four sums together are the distance
lanes_join : (ws a b : List ℕ) → (lane_sum 0 ws a b + lane_sum 1 ws a b) + (lane_sum 2 ws a b + lane_sum 3 ws a b) ≡ distance ws a b
unfolding lane_sum distance
lanes_join ws [] b = refl
lanes_join ws (x ∷ a) [] = refl
lanes_join [] (x ∷ a) (y ∷ b) = omega (arith, lanes_join [] a b)
lanes_join (w ∷ ws) (x ∷ a) (y ∷ b) = omega (arith, lanes_join ws a b)

-- a lane without a place sums 0
lane_empty : (r : ℕ) (ws a b : List ℕ) → length a ≤ r → lane_sum r ws a b ≡ 0
unfolding lane_sum
lane_empty r ws [] b h = refl
lane_empty r ws (x ∷ a) [] h = refl
lane_empty zero ws (x ∷ a) (y ∷ b) h = absurd (omega arith)
lane_empty (suc r) ws (x ∷ a) (y ∷ b) h = lane_empty r (drop 1 ws) a b (omega arith)

module _ (ws a b : List ℕ) (lw : length ws ≡ length a) (lb : length b ≡ length a) where
  -- what lane r sums from place i on
  abbrev from : ℕ → ℕ → ℕ
  from r i = lane_sum r (drop i ws) (drop i a) (drop i b)

  lane_past : (r i : ℕ) → length a ≤ i + r → from r i ≡ 0
  lane_past r i h = lane_empty r _ _ _ (simp (length-drop) (omega arith))

  -- the next lane sums from the next place on
  lane_later : (r i j : ℕ) → j ≡ i + 1 → from (suc r) i ≡ from r j
  unfolding lane_sum
  lane_later r i j e = go (dec_lt i (length a))
    where
      go : Dec (i < length a) → from (suc r) i ≡ from r j
      go (yes h) = rw (e, add-one, drop-cons ws i 0 (omega (arith, lw)), drop-cons a i 0 h, drop-cons b i 0 (omega (arith, lb)))
      go (no h) = lane_past (suc r) i (omega arith) ∙ sym (lane_past r j (omega arith))

  lane_head : (i : ℕ) → i < length a → from 0 i ≡ term ws a b i + from 3 (i + 1)
  unfolding lane_sum
  lane_head i h = rw (add-one, drop-cons ws i 0 (omega (arith, lw)), drop-cons a i 0 h, drop-cons b i 0 (omega (arith, lb)))

  -- of the next four places each lane has one, unless the vector ends before it
  lane_step : (r i j : ℕ) → j ≡ i + r → j < length a → from r i ≡ term ws a b j + from r (i + 4)
  lane_step zero i j e h =
      let f : j ≡ i = omega (arith, e) in
      let one = lane_later 2 (i + 1) (i + 2) (omega arith) in
      let two = lane_later 1 (i + 2) (i + 3) (omega arith) in
      let three = lane_later 0 (i + 3) (i + 4) (omega arith) in
      rw f (omega (arith, lane_head i (omega (arith, e)), one, two, three))
  lane_step (suc r) i j e h =
      omega (arith, lane_later r i (i + 1) refl, lane_step r (i + 1) j (omega (arith, e)) h, lane_later r (i + 4) ((i + 1) + 4) (omega arith))

  -- ---- weights behind a place

  sum_later : (i k : ℕ) → sum (drop (i + k) ws) ≤ sum (drop i ws)
  sum_later i k = rw (← drop-drop k i ws) (sum_drop (drop i ws) k)

  weight_behind : (i j k : ℕ) → i ≤ j → j < k → j < length a → get_or ws j 0 + sum (drop k ws) ≤ sum (drop i ws)
  weight_behind i j k p q h =
      let e : j ≡ i + (j - i) = omega arith in
      let f : k ≡ (j + 1) + (k - (j + 1)) = omega arith in
      let u : sum (drop j ws) ≤ sum (drop i ws) = rw e (sum_later i (j - i)) in
      let v : sum (drop k ws) ≤ sum (drop (j + 1) ws) = rw f (sum_later (j + 1) (k - (j + 1))) in
      omega (arith, u, v, sum_step ws j (omega (arith, lw)))

pub four_sums : FourSums
four_sums = record {
  lane_next = λ r ws a b lw lb h. lane_step ws a b lw lb r 0 r (omega arith) h;
  lane_empty = lane_empty;
  lanes_join = lanes_join;
}

-- ---- what one lane sums

lane_none : (ws a b : List ℕ) (r i : ℕ) → LaneSummed ws a b i 0 r 0
lane_none ws a b r i = let e : i + 0 ≡ i = omega arith in record { step = rw e (omega arith); bound = rw e (omega arith) }

-- a sum and the one behind it are one sum
lane_joined : {ws a b : List ℕ} {r i j n m s t : ℕ} (k : ℕ) → LaneSummed ws a b i n r s → LaneSummed ws a b j m r t → j ≡ i + n → k ≡ n + m
    → LaneSummed ws a b i k r (s + t)
lane_joined {ws} {a} {b} {r} {i} {j} {n} {m} k p q f g =
    let e : i + k ≡ (i + n) + m = omega arith in
    let q' : LaneSummed ws a b (i + n) m r _ = rw f at q in
    record { step = rw e (omega (arith, p.step, q'.step)); bound = rw e (omega (arith, p.bound, q'.bound)) }

-- with a sum of weights of 256, each sum fits
lane_fits : {ws a b : List ℕ} {r i n s : ℕ} → sum ws ≤ 256 → LaneSummed ws a b i n r s → s ≤ 16646400
lane_fits {ws} {a} {b} {r} {i} few p = omega (arith, p.bound, sum_drop ws i)

-- ---- what all four sum

pub summed_none : {ws a b : List ℕ} (i : ℕ) → Summed ws a b i 0 (0 ∷ 0 ∷ 0 ∷ 0 ∷ [])
summed_none {ws} {a} {b} i =
    let none = λ (r : ℕ). lane_none ws a b r i in
    record { long = refl; each = below_4 _ (none 0) (none 1) (none 2) (none 3) }

pub summed_join : {ws a b : List ℕ} {i j n m : ℕ} {v w : List ℕ} (k : ℕ) → sum ws ≤ 256 → Summed ws a b i n v → Summed ws a b j m w → j ≡ i + n → k ≡ n + m
    → Summed ws a b i k (zip2 plus v w)
summed_join {ws} {a} {b} {i} {j} {n} {m} {v} {w} k few p q f g =
    let h : HasLanes 4 (zip2 plus v w) (λ r. get_or v r 0 + get_or w r 0) =
    lanes_plus (record { long = p.long; each = λ r l. refl }) (record { long = q.long; each = λ r l. refl }) (λ r l. refl)
    (λ r l. omega (arith, lane_fits few (p.each r l), lane_fits few (q.each r l))) in
    record { long = h.long; each = λ r l. rw (h.each r l) (lane_joined k (p.each r l) (q.each r l) f g) }

module _ {ones : Bool} {ws a b : List ℕ} (sides : Sides ones ws a b) where
  -- those of all places are the lanes'
  pub summed_lanes : {v : List ℕ} → Summed ws a b 0 (length a) v → Lanes ws a b v
  summed_lanes p = record {
    long = p.long;
    each = λ r l. omega (arith, (p.each r l).step, lane_past ws a b sides.weights_long sides.b_long r (0 + length a) (omega arith));
  }

  module _ (fa : OfBytes a) (fb : OfBytes b) where
    term_small : (j : ℕ) → term ws a b j ≤ get_or ws j 0 * 65025
    term_small j = mul-le-mul (omega arith) (square_small (get_or a j 0) (get_or b j 0) (fa j).fits (fb j).fits)

    lane_one : (r i j n : ℕ) → j ≡ i + r → j < length a → r < n
        → lane_sum r (drop (i + 4) ws) (drop (i + 4) a) (drop (i + 4) b) ≡ lane_sum r (drop (i + n) ws) (drop (i + n) a) (drop (i + n) b)
        → LaneSummed ws a b i n r (term ws a b j)
    lane_one r i j n e h l k = record {
      step = omega (arith, lane_step ws a b sides.weights_long sides.b_long r i j e h, k);
      bound = omega (arith, term_small j, weight_behind ws a b sides.weights_long sides.b_long i j (i + n) (omega (arith, e)) (omega (arith, e)) h);
    }

    lane_four : (r i j : ℕ) → r < 4 → j ≡ i + r → i + 4 ≤ length a → LaneSummed ws a b i 4 r (term ws a b j)
    lane_four r i j l e h = lane_one r i j 4 e (omega (arith, e)) l refl

    -- the term of a place, or 0 past the end
    abbrev pub TermOr0 : ℕ → ℕ → Type 0
    TermOr0 j q = (j < length a → q ≡ term ws a b j) × (length a ≤ j → q ≡ 0)

    -- of the last places
    lane_last : (r i s : ℕ) → r < 4 → i < length a → length a ≤ i + 4 → TermOr0 (i + r) s → LaneSummed ws a b i (length a - i) r s
    lane_last r i s l h m t = go (dec_lt (i + r) (length a))
      where
        e : i + (length a - i) ≡ length a
        e = omega arith

        past : (j : ℕ) → length a ≤ j → lane_sum r (drop j ws) (drop j a) (drop j b) ≡ 0
        past j k = lane_past ws a b sides.weights_long sides.b_long r j (omega arith)

        go : Dec (i + r < length a) → LaneSummed ws a b i (length a - i) r s
        go (yes k) = rw (t.0 k) (lane_one r i (i + r) (length a - i) refl k (omega arith) (rw e (past (i + 4) m ∙ sym (past (length a) (omega arith)))))
        go (no k) = rw (t.1 (omega arith)) (record {
          step = rw e (omega (arith, past (length a) (omega arith), lane_past ws a b sides.weights_long sides.b_long r i (omega arith)));
          bound = omega (arith, sum_later ws a b sides.weights_long sides.b_long i (length a - i));
        })

    pub summed_four : (i : ℕ) → i + 4 ≤ length a → {p q r s : ℕ} → p ≡ term ws a b i → q ≡ term ws a b (i + 1) → r ≡ term ws a b (i + 2)
        → s ≡ term ws a b (i + 3) → Summed ws a b i 4 (p ∷ q ∷ r ∷ s ∷ [])
    summed_four i h e f g k =
        let at : (r j : ℕ) → r < 4 → j ≡ i + r → LaneSummed ws a b i 4 r (term ws a b j) = λ r j l e. lane_four r i j l e h in
        record {
          long = refl;
          each = below_4 _ (rw e (at 0 i (omega arith) (omega arith))) (rw f (at 1 (i + 1) (omega arith) refl)) (rw g (at 2 (i + 2) (omega arith) refl))
              (rw k (at 3 (i + 3) (omega arith) refl));
        }

    pub summed_last : (i : ℕ) → i < length a → length a < i + 4 → {p q r : ℕ} → p ≡ term ws a b i → TermOr0 (i + 1) q → TermOr0 (i + 2) r
        → Summed ws a b i (length a - i) (p ∷ q ∷ r ∷ 0 ∷ [])
    summed_last i h m {p} {q} {r} e f g =
        let last : (r s : ℕ) → r < 4 → TermOr0 (i + r) s → LaneSummed ws a b i (length a - i) r s = λ r s l t. lane_last r i s l h (omega arith) t in
        let z : i + 0 ≡ i = omega arith in
        record {
          long = refl;
          each = below_4 _ (last 0 p (omega arith) (rw z (λ k. e, λ k. absurd (omega arith)))) (last 1 q (omega arith) f) (last 2 r (omega arith) g)
              (last 3 0 (omega arith) (λ k. absurd (omega arith), λ k. refl));
        }

    module _ (i : ℕ) (h : i + 16 ≤ length a) {w d : List ℕ}
        (hw : HasLanes 16 w (λ k. get_or ws (i + k) 0)) (hd : HasLanes 16 d (λ k. difference a b (i + k))) where
      square_is_term : (k : ℕ) → k < 16 → get_or w k 0 * (get_or d k 0 * get_or d k 0) ≡ term ws a b (i + k)
      unfolding squared_difference
      square_is_term k l = rw (hw.each k l, hd.each k l)

      lane_sixteen : (r : ℕ) → r < 4 → LaneSummed ws a b i 16 r (lane_terms w d r)
      lane_sixteen r l =
          let at : (n : ℕ) → n < 13 → LaneSummed ws a b (i + n) 4 r (term ws a b (i + (r + n))) =
          λ n m. lane_four r (i + n) (i + (r + n)) l (omega arith) (omega arith) in
          let one = lane_four r i (i + r) l refl (omega arith) in
          let low : LaneSummed ws a b i 8 r _ = lane_joined 8 one (at 4 (omega arith)) refl refl in
          let high : LaneSummed ws a b (i + 8) 8 r _ = lane_joined 8 (at 8 (omega arith)) (at 12 (omega arith)) (omega arith) refl in
          rw (square_is_term r (omega arith), square_is_term (r + 4) (omega arith), square_is_term (r + 8) (omega arith), square_is_term (r + 12) (omega arith))
          (lane_joined 16 low high refl refl)

      pub summed_sixteen : {v : List ℕ} → HasLanes 4 v (λ r. lane_terms w d r + lane_terms w (replicate 16 0) r) → Summed ws a b i 16 v
      summed_sixteen p =
          let z : (n : ℕ) → n + 0 ≡ n = λ n. omega arith in
          record { long = p.long; each = λ r l. rw (p.each r l, no_terms w r l, z (lane_terms w d r)) (lane_sixteen r l) }

    pub summed_thirty_two : (i : ℕ) → i + 32 ≤ length a → {w x d e v : List ℕ} → HasLanes 16 w (λ k. get_or ws (i + k) 0)
        → HasLanes 16 x (λ k. get_or ws ((i + 16) + k) 0) → HasLanes 16 d (λ k. difference a b (i + k)) → HasLanes 16 e (λ k. difference a b ((i + 16) + k))
        → HasLanes 4 v (λ r. lane_terms w d r + lane_terms x e r) → Summed ws a b i 32 v
    summed_thirty_two i h hw hx hd he p = record {
      long = p.long;
      each = λ r l. rw (p.each r l) (lane_joined 32 (lane_sixteen i (omega arith) hw hd r l) (lane_sixteen (i + 16) (omega arith) hx he r l) refl refl);
    }

-- ---- the four sums joined

lanes_total : (ws a b v : List ℕ) → Lanes ws a b v → sum_l v ≡ distance ws a b
lanes_total ws a b (p ∷ q ∷ r ∷ s ∷ []) l =
    omega (arith, l.each 0 (omega arith), l.each 1 (omega arith), l.each 2 (omega arith), l.each 3 (omega arith), lanes_join ws a b)
lanes_total ws a b [] l = absurd (omega (arith, l.long))
lanes_total ws a b (p ∷ []) l = absurd (omega (arith, l.long))
lanes_total ws a b (p ∷ q ∷ []) l = absurd (omega (arith, l.long))
lanes_total ws a b (p ∷ q ∷ r ∷ []) l = absurd (omega (arith, l.long))
lanes_total ws a b (p ∷ q ∷ r ∷ s ∷ t ∷ v) l = absurd (omega (arith, l.long))

all_bytes : (v : List ℕ) → OfBytes v → All (λ x. x < 256) v
all_bytes [] f = tt
all_bytes (x ∷ v) f = ((f 0).fits, all_bytes v (λ k. f (suc k)))

module _ {ones : Bool} {ws a b v : List ℕ} (sides : Sides ones ws a b) (fa : OfBytes a) (fb : OfBytes b) (l : Lanes ws a b v) where
  -- their sum fits 24 bits
  pub joined_fits : sum_l v ≤ 16646400
  joined_fits =
      let small = weighted_small ws a b (omega (arith, sides.weights_long)) (all_bytes a fa) (all_bytes b fb) in
      omega (arith, lanes_total ws a b v l, sides.weighing.few, small)

  -- what `strict_reduce_sum` gives
  pub joined_measured : Measured (distance ws a b) (fold_l (λ s x. s + x) 0 v)
  joined_measured =
      let e : fold_l (λ s x. s + x) 0 v ≡ sum_l v = omega (arith, fold-sum 0 v) in
      rw e (record { equals = lanes_total ws a b v l; bound = joined_fits })
