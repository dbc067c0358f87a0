-- The passes of a selection over candidates, with those taken at the front of words. Assumes nothing.
use Prim.Native.Nat.{ℕ, zero, suc, ◌+◌, ◌-◌, ◌*◌, ◌/◌, ◌≤◌, ◌<◌}
use mathlib.Core.Path.{◌≡◌, refl, ap, sym, ◌∙◌}
use mathlib.Core.Bool.{Bool, true, false, cond}
use mathlib.Core.List.{List, [], ◌∷◌, ◌++◌}
use native.Mathlib.Numerals.{add-one}
use native.Mathlib.Omega.{arith}
use Rattle.std.proofs.lemmas.List.{get_or_default}
use borrow.Author.Tests.{le-leb, lt-leb}
use lib.ListN.{length, get_or}
use lib.Ieee.{Float, binary32, nan, lt, le, of_bits, of_int}
use Rattle.lists.specs.Lists.{foldl, range}
use Rattle.candidates.specs.Candidates.{Candidate}
use Rattle.vectors.specs.Distance.{f32}
use Rattle.candidates.specs.Quotient.{largest}
use Rattle.candidates.specs.Inner.Words.{cand, cands, put}
use Rattle.candidates.proofs.Words.{cands_none, cands_length, front_at, front_push}
use Rattle.prune.specs.Prune.{no_candidate, Selection, thresholds_from, thresholds, raise, select, consider, pass}
use Rattle.prune.specs.Inner.Selecting.{next_threshold, selection, settled, Considered, Selected}
use Rattle.prune.specs.Lent.{SameSelector}
use Rattle.prune.specs.declared.Selector.{Selector}

-- ---- what is gone over
pub same_none : {N : ℕ} (s : Selector N) → SameSelector s s
same_none s = record { alpha = refl; kept = refl; space = refl; factors = refl; count = refl; list = refl; out = refl; room = refl }

pub same_then : {N : ℕ} {s s' s'' : Selector N} → SameSelector s s' → SameSelector s' s'' → SameSelector s s''
same_then f g = record { alpha = g.alpha ∙ f.alpha; kept = g.kept ∙ f.kept; space = g.space ∙ f.space; factors = g.factors ∙ f.factors; count = g.count ∙ f.count; list = g.list ∙ f.list; out = g.out ∙ f.out; room = g.room ∙ f.room }

-- ---- one candidate
module _ (alpha : Float) (d : ℕ → ℕ → ℕ) (t : Float) (i : ℕ) (factors : List Float) (w : List ℕ) (m : ℕ) where
  pub considered_taken : (l : List ℕ) (n : ℕ) {factors' : List Float} {dist id : ℕ} → lt t (get_or factors i nan) ≡ false → i < n → m < length w / 2
      → length factors' ≡ length factors → factors' ≡ settled alpha d (cands l 0 n) i factors → dist ≡ (cand l (2 * i)).dist → id ≡ (cand l (2 * i)).id
      → Considered alpha d (cands l 0 n) t i factors w m factors' (put w (2 * m) dist id) (m + 1)
  considered_taken l n {factors'} {dist} {id} e h o k g u v =
      record {
        does = rw (e, ← g, front_push w dist id m (omega arith), front_at l n i h, u, v);
        more = omega arith;
        sizes = k;
      }

-- ---- thresholds
-- those of the k passes left, the first of them with t
unfoldable pub left : ℕ → Float → Float → List Float
left zero alpha t = []
left (suc k) alpha t = thresholds_from k alpha t

-- those after t
unfoldable pub after : ℕ → Float → Float → List Float
after k alpha t = cond (le alpha t) [] (left k alpha (next_threshold alpha t))

left_first : (k : ℕ) (alpha t : Float) → left (suc k) alpha t ≡ t ∷ after k alpha t
unfolding left after thresholds_from next_threshold
left_first zero alpha t = go (le alpha t)
  where
    go : (b : Bool) → t ∷ [] ≡ t ∷ cond b [] []
    go true = refl
    go false = refl
left_first (suc k) alpha t = refl

-- the code's first threshold
pub first_threshold : of_bits binary32 0x3f80_0000 ≡ f32 1
unfolding f32 of_bits of_int
first_threshold = refl

left_all : (alpha : Float) → left 5 alpha (f32 1) ≡ thresholds alpha
unfolding left thresholds
left_all alpha = refl

module _ (degree : ℕ) (alpha : Float) (d : ℕ → ℕ → ℕ) (c : List Candidate) where
  -- once the degree is reached nothing changes
  module _ (h : Selection) (full : degree ≤ length h.selected) where
    still : (t : Float) (i : ℕ) → consider degree alpha d c t h i ≡ h
    unfolding consider
    still t i = rw (le-leb degree (length h.selected) full)

    scan_full : (t : Float) (i k : ℕ) → foldl (consider degree alpha d c t) h (range i k) ≡ h
    scan_full t i zero = refl
    scan_full t i (suc k) = ap (λ (z : Selection). foldl (consider degree alpha d c t) z (range (suc i) k)) (still t i) ∙ scan_full t (suc i) k

    passes_full : (ts : List Float) → foldl (pass degree alpha d c) h ts ≡ h
    unfolding pass
    passes_full [] = refl
    passes_full (t ∷ ts) = ap (λ (z : Selection). foldl (pass degree alpha d c) z ts) (scan_full t 0 (length c)) ∙ passes_full ts

  one_pass : (t : Float) (h : Selection) (n : ℕ) → n ≡ length c → foldl (consider degree alpha d c t) h (range 0 n) ≡ pass degree alpha d c h t
  unfolding pass
  one_pass t h n e = ap (λ (k : ℕ). foldl (consider degree alpha d c t) h (range 0 k)) e

  -- below the degree
  consider_below : (t : Float) (i : ℕ) (factors : List Float) (l : List Candidate) → length l < degree → i < length factors
      → consider degree alpha d c t (selection factors l) i
      ≡ cond (lt t (get_or factors i nan)) (selection factors l) (selection (settled alpha d c i factors) (l ++ (get_or c i no_candidate ∷ [])))
  unfolding consider select settled raise
  consider_below t i factors l h j = rw (lt-leb degree (length l) h, get_or_default factors i largest nan j)

-- ---- within a pass, from where it began
pub record Scanning (degree : ℕ) (alpha : Float) (d : ℕ → ℕ → ℕ) (c : List Candidate) (n : ℕ) (t : Float) (k : ℕ) (factors₀ : List Float) (w₀ : List ℕ) (m₀ : ℕ) (factors : List Float) (w : List ℕ) (m i : ℕ) : Type 0 where
  pub room : m ≤ degree
  pub sizes : length factors ≡ n
  pub goes : foldl (pass degree alpha d c) (foldl (consider degree alpha d c t) (selection factors (cands w 0 m)) (range i (n - i))) (after (4 - k) alpha t)
      ≡ foldl (pass degree alpha d c) (selection factors₀ (cands w₀ 0 m₀)) (left (5 - k) alpha t)

pub scanning_none : (degree : ℕ) (alpha : Float) (d : ℕ → ℕ → ℕ) (c : List Candidate) (n : ℕ) (t : Float) (k : ℕ) (factors : List Float) (w : List ℕ) (m : ℕ) → n ≡ length c → k < 5 → m ≤ degree → length factors ≡ n
    → Scanning degree alpha d c n t k factors w m factors w m 0
scanning_none degree alpha d c n t k factors w m l h r e =
    let g = selection factors (cands w 0 m) in
    let u : 5 - k ≡ suc (4 - k) = omega arith in
    let z : n - 0 ≡ length c = omega arith in
    record {
      room = r;
      sizes = e;
      goes = ap (λ (s : Selection). foldl (pass degree alpha d c) s (after (4 - k) alpha t)) (one_pass degree alpha d c t g (n - 0) z)
          ∙ sym (ap (foldl (pass degree alpha d c) g) (ap (λ (j : ℕ). left j alpha t) u ∙ left_first (4 - k) alpha t));
    }

module _ {degree : ℕ} {alpha : Float} {d : ℕ → ℕ → ℕ} {c : List Candidate} {n : ℕ} {t : Float} {k : ℕ} {factors₀ : List Float} {w₀ : List ℕ} {m₀ : ℕ} {factors : List Float} {w : List ℕ} {m i : ℕ}
    (f : Scanning degree alpha d c n t k factors₀ w₀ m₀ factors w m i) where
  pub scanning_more : {factors' : List Float} {w' : List ℕ} {r : ℕ} → i < n → (m ≡ degree → ⊥) → Considered alpha d c t i factors w m factors' w' r
      → Scanning degree alpha d c n t k factors₀ w₀ m₀ factors' w' r (i + 1)
  scanning_more {factors'} {w'} {r} h q g =
      let z : n - i ≡ suc (n - (i + 1)) = omega arith in
      let l : length (cands w 0 m) < degree = rw (cands_length w 0 m) (omega arith) in
      let x : consider degree alpha d c t (selection factors (cands w 0 m)) i ≡ selection factors' (cands w' 0 r) =
      consider_below degree alpha d c t i factors (cands w 0 m) l (omega arith) ∙ sym g.does in
      record {
        room = omega arith;
        sizes = g.sizes ∙ f.sizes;
        goes = rw (← x, add-one i) (rw (z, add-one i) at f.goes);
      }

  -- the degree is reached
  pub scanning_full : m ≡ degree → selection factors (cands w 0 m) ≡ foldl (pass degree alpha d c) (selection factors₀ (cands w₀ 0 m₀)) (left (5 - k) alpha t)
  scanning_full e =
      let h = selection factors (cands w 0 m) in
      let l : degree ≤ length (cands w 0 m) = rw (cands_length w 0 m) (omega arith) in
      rw (scan_full degree alpha d c h l t i (n - i), passes_full degree alpha d c h l (after (4 - k) alpha t)) at f.goes

  -- the pass is over, and was the last
  pub scanning_last : n ≤ i → le alpha t ≡ true → selection factors (cands w 0 m) ≡ foldl (pass degree alpha d c) (selection factors₀ (cands w₀ 0 m₀)) (left (5 - k) alpha t)
  unfolding after
  scanning_last h e = let z : n - i ≡ 0 = omega arith in rw (z, e) at f.goes

  -- another follows
  pub scanning_next : (t' : Float) → n ≤ i → le alpha t ≡ false → t' ≡ next_threshold alpha t
      → foldl (pass degree alpha d c) (selection factors (cands w 0 m)) (left (5 - (k + 1)) alpha t')
      ≡ foldl (pass degree alpha d c) (selection factors₀ (cands w₀ 0 m₀)) (left (5 - k) alpha t)
  unfolding after
  scanning_next t' h e g =
      let z : n - i ≡ 0 = omega arith in
      let y : 5 - (k + 1) ≡ 4 - k = omega arith in
      rw (y, g) (rw (z, e) at f.goes)

-- ---- between passes
pub record Passing (degree : ℕ) (alpha : Float) (d : ℕ → ℕ → ℕ) (c : List Candidate) (n : ℕ) (factors₀ : List Float) (factors : List Float) (w : List ℕ) (m : ℕ) (t : Float) (k : ℕ) : Type 0 where
  pub room : m ≤ degree
  pub sizes : length factors ≡ n
  pub goes : foldl (pass degree alpha d c) (selection factors (cands w 0 m)) (left (5 - k) alpha t) ≡ foldl (pass degree alpha d c) (selection factors₀ []) (thresholds alpha)

pub passing_none : (degree : ℕ) (alpha : Float) (d : ℕ → ℕ → ℕ) (c : List Candidate) (n : ℕ) (factors : List Float) (w : List ℕ) (t : Float) → t ≡ f32 1 → length factors ≡ n → Passing degree alpha d c n factors factors w 0 t 0
passing_none degree alpha d c n factors w t u e =
    record { room = omega arith; sizes = e; goes = rw (u, left_all alpha, cands_none w 0 0 refl) }

module _ {degree : ℕ} {alpha : Float} {d : ℕ → ℕ → ℕ} {c : List Candidate} {n : ℕ} {factors₀ : List Float} {factors₁ : List Float} {w₁ : List ℕ} {m₁ : ℕ} {t : Float} {k : ℕ}
    (g : Passing degree alpha d c n factors₀ factors₁ w₁ m₁ t k) where
  selected : {factors : List Float} {w : List ℕ} {m : ℕ} → m ≤ degree
      → selection factors (cands w 0 m) ≡ foldl (pass degree alpha d c) (selection factors₀ []) (thresholds alpha) → Selected degree alpha d factors₀ c m w
  selected r x = record { list = ap (λ (h : Selection). h.selected) x; few = r }

  pub passing_done : 5 ≤ k → Selected degree alpha d factors₀ c m₁ w₁
  unfolding left
  passing_done h = let z : 5 - k ≡ 0 = omega arith in selected {factors = factors₁} g.room (rw z at g.goes)

  module _ {factors : List Float} {w : List ℕ} {m i : ℕ} (f : Scanning degree alpha d c n t k factors₁ w₁ m₁ factors w m i) where
    pub passing_more : {t' : Float} → k < 5 → n ≤ i → le alpha t ≡ false → t' ≡ next_threshold alpha t → Passing degree alpha d c n factors₀ factors w m t' (k + 1)
    passing_more {t'} l h e q = record { room = f.room; sizes = f.sizes; goes = scanning_next f t' h e q ∙ g.goes }

    pub passing_full : m ≡ degree → Selected degree alpha d factors₀ c m w
    passing_full e = selected {factors = factors} f.room (scanning_full f e ∙ g.goes)

    pub passing_last : n ≤ i → le alpha t ≡ true → Selected degree alpha d factors₀ c m w
    passing_last h e = selected {factors = factors} f.room (scanning_last f h e ∙ g.goes)
