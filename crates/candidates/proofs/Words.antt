-- Lists of candidates in words: their parts, what a written candidate does to them, and what stays where nothing is written. Assumes nothing.
use Prim.Native.Nat.{ℕ, zero, suc, ◌+◌, ◌-◌, ◌*◌, ◌≤◌, ◌<◌}
use mathlib.Core.Path.{◌≡◌, refl, ap, ◌∙◌, subst}
use mathlib.Core.List.{List, [], ◌∷◌, ◌++◌}
use native.Mathlib.Omega.{arith}
use lib.ListN.{length, take, drop, get_or, set, length-set}
use lib.Seq.{get_or-set_same, get_or-set_other, take_at, drop_at}
use Rattle.lists.specs.Lists.{All, init, last}
use Rattle.lists.proofs.Places.{init_snoc, last_snoc, all_at}
use Rattle.candidates.specs.Candidates.{Candidate}
use Rattle.candidates.specs.Inner.Words.{pair, cand, cands, put, Outside}

-- ---- parts of a list
pub cands_none : (w : List ℕ) (a n : ℕ) → n ≡ 0 → cands w a n ≡ []
unfolding cands
cands_none w a n e = rw e

pub cands_length : (w : List ℕ) (a n : ℕ) → length (cands w a n) ≡ n
unfolding cands
cands_length w a zero = refl
cands_length w a (suc n) = ap suc (cands_length w (a + 2) n)

-- those from k on: the first of them, and the others
pub cands_cons : (w : List ℕ) (a n k : ℕ) → k < n → cands w (a + 2 * k) (n - k) ≡ cand w (a + 2 * k) ∷ cands w (a + 2 * (k + 1)) (n - (k + 1))
unfolding cands
cands_cons w a n k h =
    let e : n - k ≡ suc (n - (k + 1)) = omega arith in
    let g : a + 2 * (k + 1) ≡ a + 2 * k + 2 = omega arith in
    rw (e, g)

-- the first k, and those from k on
pub cands_split : (w : List ℕ) (a n k : ℕ) → k ≤ n → cands w a n ≡ cands w a k ++ cands w (a + 2 * k) (n - k)
unfolding cands
cands_split w a n zero h =
    let e : n - 0 ≡ n = omega arith in
    let g : a + 2 * 0 ≡ a = omega arith in
    rw (e, g)
cands_split w a zero (suc k) h = absurd (omega arith)
cands_split w a (suc n) (suc k) h =
    let l : k ≤ n = omega arith in
    let e : suc n - suc k ≡ n - k = omega arith in
    let g : a + 2 * suc k ≡ a + 2 + 2 * k = omega arith in
    rw (e, g, cands_split w (a + 2) n k l)

pub cands_take : (w : List ℕ) (a n k : ℕ) → k ≤ n → take k (cands w a n) ≡ cands w a k
cands_take w a n k h = rw (cands_split w a n k h) (take_at (cands w a k) (cands w (a + 2 * k) (n - k)) k (cands_length w a k))

pub cands_drop : (w : List ℕ) (a n k : ℕ) → k ≤ n → drop k (cands w a n) ≡ cands w (a + 2 * k) (n - k)
cands_drop w a n k h = rw (cands_split w a n k h) (drop_at (cands w a k) (cands w (a + 2 * k) (n - k)) k (cands_length w a k))

pub cands_snoc : (w : List ℕ) (a n : ℕ) → cands w a (n + 1) ≡ cands w a n ++ (cand w (a + 2 * n) ∷ [])
unfolding cands
cands_snoc w a n =
    let e : n + 1 - n ≡ 1 = omega arith in
    cands_split w a (n + 1) n (omega arith) ∙ rw e

pub cands_append : (w : List ℕ) (a n m : ℕ) → cands w a (n + m) ≡ cands w a n ++ cands w (a + 2 * n) m
cands_append w a n m =
    let e : n + m - n ≡ m = omega arith in
    cands_split w a (n + m) n (omega arith) ∙ rw e

-- all but the last, and the last
pub cands_init : (w : List ℕ) (a n : ℕ) → 0 < n → init (cands w a n) ≡ cands w a (n - 1)
cands_init w a n h = let e : n ≡ n - 1 + 1 = omega arith in ap (λ (m : ℕ). init (cands w a m)) e ∙ rw (cands_snoc w a (n - 1)) (init_snoc (cands w a (n - 1)) (cand w (a + 2 * (n - 1))))

pub cands_last : (w : List ℕ) (a n : ℕ) → 0 < n → (c : Candidate) → last c (cands w a n) ≡ cand w (a + 2 * (n - 1))
cands_last w a n h c = let e : n ≡ n - 1 + 1 = omega arith in ap (λ (m : ℕ). last c (cands w a m)) e ∙ rw (cands_snoc w a (n - 1)) (last_snoc c (cands w a (n - 1)) (cand w (a + 2 * (n - 1))))

pub cands_at : (w : List ℕ) (a n k : ℕ) → k < n → get_or (cands w a n) k (pair 0 0) ≡ cand w (a + 2 * k)
unfolding cands
cands_at w a zero k h = absurd (omega arith)
cands_at w a (suc n) zero h = let e : a + 2 * 0 ≡ a = omega arith in rw e
cands_at w a (suc n) (suc k) h =
    let l : k < n = omega arith in
    let e : a + 2 * suc k ≡ a + 2 + 2 * k = omega arith in
    rw e (cands_at w (a + 2) n k l)

-- what holds of all, and of each
pub cands_each : (P : Candidate → Type 0) (w : List ℕ) (a n : ℕ) → All P (cands w a n) → (k : ℕ) → k < n → P (cand w (a + 2 * k))
cands_each P w a n h k l = subst P (cands_at w a n k l) (all_at (pair 0 0) P (cands w a n) h k (omega (arith, cands_length w a n)))

-- ---- two lists of words
-- the same words at a and at b hold the same candidates
pub cands_moved : (w w' : List ℕ) (a b n : ℕ) → ((j : ℕ) → j < 2 * n → get_or w' (b + j) 0 ≡ get_or w (a + j) 0) → cands w' b n ≡ cands w a n
unfolding cands
cands_moved w w' a b zero h = refl
cands_moved w w' a b (suc n) h =
    let u : b + 0 ≡ b = omega arith in
    let v : a + 0 ≡ a = omega arith in
    let e : get_or w' b 0 ≡ get_or w a 0 = rw (u, v) at (h 0 (omega arith)) in
    rw (e, h 1 (omega arith), cands_moved w w' (a + 2) (b + 2) n (λ j l. further j (h (2 + j) (omega arith))))
  where
    further : (j : ℕ) → get_or w' (b + (2 + j)) 0 ≡ get_or w (a + (2 + j)) 0 → get_or w' (b + 2 + j) 0 ≡ get_or w (a + 2 + j) 0
    further j g =
        let u : b + (2 + j) ≡ b + 2 + j = omega arith in
        let v : a + (2 + j) ≡ a + 2 + j = omega arith in
        rw (u, v) at g

pub cands_agree : (w w' : List ℕ) (a n : ℕ) → ((j : ℕ) → a ≤ j → j < a + 2 * n → get_or w' j 0 ≡ get_or w j 0) → cands w' a n ≡ cands w a n
cands_agree w w' a n h = cands_moved w w' a a n (λ j l. h (a + j) (omega arith) (omega arith))

-- a list that lies elsewhere stays
pub cands_kept : (a k : ℕ) (w w' : List ℕ) → Outside a k w w' → (b n : ℕ) → (a < b + 2 * n → a + k ≤ b) → cands w' b n ≡ cands w b n
cands_kept a k w w' f b n h = cands_agree w w' b n (λ j l m. f j (λ q. omega (arith, h (omega arith))))

pub outside_none : (a k : ℕ) (w : List ℕ) → Outside a k w w
outside_none a k w j h = refl

-- the same of a wider part, and of one change after another
pub outside_wide : (a k b m : ℕ) (w w' : List ℕ) → Outside a k w w' → b ≤ a → a + k ≤ b + m → Outside b m w w'
outside_wide a k b m w w' f l n j h = f j (λ q. omega (arith, h (omega arith)))

pub outside_then : (a k : ℕ) (w w' w'' : List ℕ) → Outside a k w w' → Outside a k w' w'' → Outside a k w w''
outside_then a k w w' w'' f g j h = g j h ∙ f j h

pub outside_set : (a k : ℕ) (w w' : List ℕ) (p x : ℕ) → Outside a k w w' → a ≤ p → p < a + k → Outside a k w (set w' p x)
outside_set a k w w' p x f l m j h = get_or-set_other w' p j x 0 (λ (e : j ≡ p). absurd (omega (arith, h (omega arith)))) ∙ f j h

-- ---- a candidate is written
pub put_length : (w : List ℕ) (p d s : ℕ) → length (put w p d s) ≡ length w
put_length w p d s = simp length-set

pub put_outside : (w : List ℕ) (p d s : ℕ) → Outside p 2 w (put w p d s)
put_outside w p d s =
    outside_set p 2 w (set w p d) (p + 1) s (outside_set p 2 w w p d (outside_none p 2 w) (omega arith) (omega arith)) (omega arith) (omega arith)

pub outside_put : (a k : ℕ) (w w' : List ℕ) (p d s : ℕ) → Outside a k w w' → a ≤ p → p + 2 ≤ a + k → Outside a k w (put w' p d s)
outside_put a k w w' p d s f l m = outside_then a k w w' (put w' p d s) f (outside_wide p 2 a k w' (put w' p d s) (put_outside w' p d s) l m)

pub put_cand : (w : List ℕ) (p d s : ℕ) → p + 1 < length w → cand (put w p d s) p ≡ pair d s
put_cand w p d s h =
    let g : p + 1 < length (set w p d) = simp length-set h in
    rw (
      get_or-set_other (set w p d) (p + 1) p s 0 (λ (e : p ≡ p + 1). absurd (omega arith)),
      get_or-set_same w p d 0 (omega arith),
      get_or-set_same (set w p d) (p + 1) s 0 g,
    )

-- a list elsewhere, and one that grows by the candidate
pub cands_put : (w : List ℕ) (p d s b n : ℕ) → (p < b + 2 * n → p + 2 ≤ b) → cands (put w p d s) b n ≡ cands w b n
cands_put w p d s b n h = cands_kept p 2 w (put w p d s) (put_outside w p d s) b n h

pub cands_push : (w : List ℕ) (d s a n : ℕ) → a + 2 * n + 1 < length w → cands (put w (a + 2 * n) d s) a (n + 1) ≡ cands w a n ++ (pair d s ∷ [])
cands_push w d s a n h =
    cands_snoc (put w (a + 2 * n) d s) a n
    ∙ rw (cands_put w (a + 2 * n) d s a n (λ q. absurd (omega arith)), put_cand w (a + 2 * n) d s h)

-- ---- a list at word 0
pub front_cons : (w : List ℕ) (n k : ℕ) → k < n → cands w (2 * k) (n - k) ≡ cand w (2 * k) ∷ cands w (2 * (k + 1)) (n - (k + 1))
front_cons w n k h =
    let e : 0 + 2 * k ≡ 2 * k = omega arith in
    let g : 0 + 2 * (k + 1) ≡ 2 * (k + 1) = omega arith in
    rw (e, g) at (cands_cons w 0 n k h)

pub front_split : (w : List ℕ) (n k : ℕ) → k ≤ n → cands w 0 n ≡ cands w 0 k ++ cands w (2 * k) (n - k)
front_split w n k h = let e : 0 + 2 * k ≡ 2 * k = omega arith in rw e at (cands_split w 0 n k h)

pub front_drop : (w : List ℕ) (n k : ℕ) → k ≤ n → drop k (cands w 0 n) ≡ cands w (2 * k) (n - k)
front_drop w n k h = let e : 0 + 2 * k ≡ 2 * k = omega arith in rw e at (cands_drop w 0 n k h)

pub front_snoc : (w : List ℕ) (n : ℕ) → cands w 0 (n + 1) ≡ cands w 0 n ++ (cand w (2 * n) ∷ [])
front_snoc w n = let e : 0 + 2 * n ≡ 2 * n = omega arith in rw e at (cands_snoc w 0 n)

pub front_last : (w : List ℕ) (n : ℕ) → 0 < n → (c : Candidate) → last c (cands w 0 n) ≡ cand w (2 * (n - 1))
front_last w n h c = let e : 0 + 2 * (n - 1) ≡ 2 * (n - 1) = omega arith in rw e at (cands_last w 0 n h c)

pub front_at : (w : List ℕ) (n k : ℕ) → k < n → get_or (cands w 0 n) k (pair 0 0) ≡ cand w (2 * k)
front_at w n k h = let e : 0 + 2 * k ≡ 2 * k = omega arith in rw e at (cands_at w 0 n k h)

pub front_each : (P : Candidate → Type 0) (w : List ℕ) (n : ℕ) → All P (cands w 0 n) → (k : ℕ) → k < n → P (cand w (2 * k))
front_each P w n h k l = subst P (front_at w n k l) (all_at (pair 0 0) P (cands w 0 n) h k (omega (arith, cands_length w 0 n)))

pub front_push : (w : List ℕ) (d s n : ℕ) → 2 * n + 1 < length w → cands (put w (2 * n) d s) 0 (n + 1) ≡ cands w 0 n ++ (pair d s ∷ [])
front_push w d s n h = let e : 0 + 2 * n ≡ 2 * n = omega arith in rw e at (cands_push w d s 0 n (omega (arith, h)))
