-- The passes of a selection by recursion on the list of candidates, as the other proofs take them: `passes_scan`. Assumes nothing.
use Prim.Native.Nat.{ℕ, zero, suc, ◌-◌}
use mathlib.Core.Path.{◌≡◌, refl, ap, ◌∙◌}
use mathlib.Core.Bool.{Bool, true, false, ◌||◌, cond}
use mathlib.Core.List.{List, [], ◌∷◌, ◌++◌}
use native.Mathlib.Nat.{suc-sub-suc, sub-zero}
use native.Mathlib.Omega.{arith}
use lib.ListN.{length, get_or, set, replicate, length-replicate}
use lib.Dec.{eqb, leb}
use lib.Ieee.{Float, lt}
use Rattle.lists.specs.Lists.{elem, range, foldl}
use Rattle.lists.proofs.All.{by_cases}
use Rattle.lists.proofs.Unique.{or-false, or_false_l, or_false_r, elem_snoc, keys_snoc}
use Rattle.candidates.specs.Candidates.{Candidate, ids}
use Rattle.vectors.specs.Distance.{f32}
use Rattle.candidates.specs.Quotient.{largest, fmax, quotient}
use Rattle.prune.specs.Prune.{no_candidate, Selection, raise, select, consider, pass, passes, thresholds}

-- so that the examples are checked first

-- a loop over a range that starts one later
fold_shift : {S R : Type 0} (f : S → ℕ → S) (g : R → ℕ → R) (wrap : R → S) → ((h : R) (j : ℕ) → f (wrap h) (suc j) ≡ wrap (g h j))
    → (k a : ℕ) (h : R) → foldl f (wrap h) (range (suc a) k) ≡ wrap (foldl g h (range a k))
fold_shift f g wrap e zero a h = refl
fold_shift {S} f g wrap e (suc k) a h = ap (λ (s : S). foldl f s (range (suc (suc a)) k)) (e h a) ∙ fold_shift f g wrap e k (suc a) (g h a)

cond_wrap : {S R : Type 0} (wrap : R → S) (b : Bool) (x y : R) → cond b (wrap x) (wrap y) ≡ wrap (cond b x y)
cond_wrap wrap true x y = refl
cond_wrap wrap false x y = refl

-- whether a slot is among those selected, after one more
pub elem_more : (z : ℕ) (S : List Candidate) (x : Candidate) → elem z (ids (S ++ (x ∷ []))) ≡ (elem z (ids S) || eqb z x.id)
elem_more z S x = ap (elem z) (keys_snoc (λ c. c.id) S x) ∙ elem_snoc z (ids S) x.id

pub elem_other : (z : ℕ) (S : List Candidate) (x : Candidate) → eqb z x.id ≡ false → elem z (ids (S ++ (x ∷ []))) ≡ elem z (ids S)
elem_other z S x e = elem_more z S x ∙ rw e (or-false (elem z (ids S)))

-- one more factor in front
abbrev pub onto : Float → Selection → Selection
onto f h = record { factors = f ∷ h.factors; selected = h.selected }

abbrev pub state : List Float → List Candidate → Selection
state factors selected = record { factors = factors; selected = selected }

-- before the first pass
abbrev pub start : List Candidate → Selection
start c = state (replicate (length c) (f32 0)) []

module _ (alpha : Float) (d : ℕ → ℕ → ℕ) where
  -- the factor f of x when s is taken
  abbrev pub raised_to : Candidate → Candidate → Float → Float
  raised_to s x f = cond (lt alpha f) f (fmax f (quotient x.dist (d x.id s.id)))

  -- and those of all of a list
  abbrev pub raised : Candidate → List Candidate → List Float → List Float
  raised s [] fs = fs
  raised s (x ∷ xs) [] = []
  raised s (x ∷ xs) (f ∷ fs) = raised_to s x f ∷ raised s xs fs

  pub raised_length : (s : Candidate) (c : List Candidate) (fs : List Float) → length fs ≡ length c → length (raised s c fs) ≡ length c
  raised_length s [] fs e = e
  raised_length s (x ∷ c) [] e = e
  raised_length s (x ∷ c) (f ∷ fs) e = ap suc (raised_length s c fs (omega arith))

module _ (degree : ℕ) (alpha : Float) (d : ℕ → ℕ → ℕ) where
  -- a pass with the threshold t, from the factors fs and the selected S
  abbrev pub scan : Float → List Candidate → List Float → List Candidate → Selection
  scan t [] fs S = state fs S
  scan t (x ∷ xs) [] S = state [] S
  scan t (x ∷ xs) (f ∷ fs) S =
      cond (leb degree (length S) || lt t f) (onto f (scan t xs fs S)) (onto largest (scan t xs (raised alpha d x xs fs) (S ++ (x ∷ []))))

  raise_shift : (x : Candidate) (c : List Candidate) (s : Candidate) (f : Float) (fs : List Float) (j : ℕ)
      → raise degree alpha d (x ∷ c) s (f ∷ fs) (suc j) ≡ f ∷ raise degree alpha d c s fs j
  unfolding raise
  raise_shift x c s f fs j = cond_wrap (λ (l : List Float). f ∷ l) (lt alpha (get_or fs j largest)) fs _

  raise_first : (x : Candidate) (c : List Candidate) (s : Candidate) (f : Float) (fs : List Float) → raise degree alpha d (x ∷ c) s (f ∷ fs) 0 ≡ raised_to alpha d s x f ∷ fs
  unfolding raise
  raise_first x c s f fs = cond_wrap (λ (g : Float). g ∷ fs) (lt alpha f) f _

  raise_all : (s : Candidate) (c : List Candidate) (fs : List Float) → length fs ≡ length c → foldl (raise degree alpha d c s) fs (range 0 (length c)) ≡ raised alpha d s c fs
  raise_all s [] fs e = refl
  raise_all s (x ∷ c) [] e = absurd (omega arith)
  raise_all s (x ∷ c) (f ∷ fs) e =
      ap (λ (l : List Float). foldl (raise degree alpha d (x ∷ c) s) l (range 1 (length c))) (raise_first x c s f fs)
      ∙ fold_shift (raise degree alpha d (x ∷ c) s) (raise degree alpha d c s) (λ (l : List Float). raised_to alpha d s x f ∷ l) (raise_shift x c s (raised_to alpha d s x f)) (length c) 0 fs
      ∙ ap (λ (l : List Float). raised_to alpha d s x f ∷ l) (raise_all s c fs (omega arith))

  select_shift : (x : Candidate) (c : List Candidate) (f : Float) (h : Selection) (i : ℕ) → select degree alpha d (x ∷ c) (onto f h) (suc i) ≡ onto f (select degree alpha d c h i)
  unfolding select
  select_shift x c f h i =
      let s = get_or c i no_candidate in
      rw (suc-sub-suc (length c) (suc i))
      (ap (λ (l : List Float). state l (h.selected ++ (s ∷ [])))
      (fold_shift (raise degree alpha d (x ∷ c) s) (raise degree alpha d c s) (λ (l : List Float). f ∷ l) (raise_shift x c s f) (length c - suc i) (suc i) (set h.factors i largest)))

  select_first : (x : Candidate) (c : List Candidate) (f : Float) (fs : List Float) (S : List Candidate) → length fs ≡ length c
      → select degree alpha d (x ∷ c) (state (f ∷ fs) S) 0 ≡ onto largest (state (raised alpha d x c fs) (S ++ (x ∷ [])))
  unfolding select
  select_first x c f fs S e =
      rw (suc-sub-suc (length c) 0, sub-zero (length c))
      (ap (λ (l : List Float). state l (S ++ (x ∷ [])))
      (fold_shift (raise degree alpha d (x ∷ c) x) (raise degree alpha d c x) (λ (l : List Float). largest ∷ l) (raise_shift x c x largest) (length c) 0 fs
      ∙ ap (λ (l : List Float). largest ∷ l) (raise_all x c fs e)))

  consider_shift : (t : Float) (x : Candidate) (c : List Candidate) (f : Float) (h : Selection) (i : ℕ) → consider degree alpha d (x ∷ c) t (onto f h) (suc i) ≡ onto f (consider degree alpha d c t h i)
  unfolding consider
  consider_shift t x c f h i =
      rw (select_shift x c f h i) (cond_wrap (onto f) (leb degree (length h.selected) || lt t (get_or h.factors i largest)) h (select degree alpha d c h i))

  consider_scan : (t : Float) (c : List Candidate) (fs : List Float) (S : List Candidate) → length fs ≡ length c
      → foldl (consider degree alpha d c t) (state fs S) (range 0 (length c)) ≡ scan t c fs S
  unfolding consider
  consider_scan t [] fs S e = refl
  consider_scan t (x ∷ c) [] S e = absurd (omega arith)
  consider_scan t (x ∷ c) (f ∷ fs) S e =
      ap (λ (h : Selection). foldl (consider degree alpha d (x ∷ c) t) (cond (leb degree (length S) || lt t f) (state (f ∷ fs) S) h) (range 1 (length c))) (select_first x c f fs S (omega arith))
      ∙ go (leb degree (length S) || lt t f) (consider_scan t c fs S (omega arith)) (consider_scan t c (raised alpha d x c fs) (S ++ (x ∷ [])) (raised_length alpha d x c fs (omega arith)))
    where
      again : (f : Float) (h : Selection) → foldl (consider degree alpha d (x ∷ c) t) (onto f h) (range 1 (length c)) ≡ onto f (foldl (consider degree alpha d c t) h (range 0 (length c)))
      again f h = fold_shift (consider degree alpha d (x ∷ c) t) (consider degree alpha d c t) (onto f) (consider_shift t x c f) (length c) 0 h

      go : (b : Bool) → foldl (consider degree alpha d c t) (state fs S) (range 0 (length c)) ≡ scan t c fs S
          → foldl (consider degree alpha d c t) (state (raised alpha d x c fs) (S ++ (x ∷ []))) (range 0 (length c)) ≡ scan t c (raised alpha d x c fs) (S ++ (x ∷ []))
          → foldl (consider degree alpha d (x ∷ c) t) (cond b (onto f (state fs S)) (onto largest (state (raised alpha d x c fs) (S ++ (x ∷ []))))) (range 1 (length c))
          ≡ cond b (onto f (scan t c fs S)) (onto largest (scan t c (raised alpha d x c fs) (S ++ (x ∷ []))))
      go true r s = again f (state fs S) ∙ ap (onto f) r
      go false r s = again largest (state (raised alpha d x c fs) (S ++ (x ∷ []))) ∙ ap (onto largest) s

  pub scan_length : (t : Float) (c : List Candidate) (fs : List Float) (S : List Candidate) → length fs ≡ length c → length (scan t c fs S).factors ≡ length c
  scan_length t [] fs S e = e
  scan_length t (x ∷ c) [] S e = e
  scan_length t (x ∷ c) (f ∷ fs) S e =
      by_cases (λ (h : Selection). length h.factors ≡ suc (length c)) (leb degree (length S) || lt t f)
      (λ b. ap suc (scan_length t c fs S (omega arith)))
      (λ b. ap suc (scan_length t c (raised alpha d x c fs) (S ++ (x ∷ [])) (raised_length alpha d x c fs (omega arith))))

  -- a slot that is none of the candidates is selected by a pass only where it was before
  pub scan_frame : (z : ℕ) (t : Float) (c : List Candidate) (fs : List Float) (S : List Candidate) → elem z (ids c) ≡ false → elem z (ids (scan t c fs S).selected) ≡ elem z (ids S)
  scan_frame z t [] fs S e = refl
  scan_frame z t (x ∷ c) [] S e = refl
  scan_frame z t (x ∷ c) (f ∷ fs) S e =
      let rest = or_false_r (eqb z x.id) (elem z (ids c)) e in
      by_cases (λ (h : Selection). elem z (ids h.selected) ≡ elem z (ids S)) (leb degree (length S) || lt t f)
      (λ b. scan_frame z t c fs S rest)
      (λ b. scan_frame z t c (raised alpha d x c fs) (S ++ (x ∷ [])) rest ∙ elem_other z S x (or_false_l (eqb z x.id) (elem z (ids c)) e))

  abbrev pub scan_again : List Candidate → Selection → Float → Selection
  scan_again c h t = scan t c h.factors h.selected

  -- one pass after the other
  scans : (c : List Candidate) (ts : List Float) (h : Selection) → length h.factors ≡ length c → foldl (pass degree alpha d c) h ts ≡ foldl (scan_again c) h ts
  unfolding pass
  scans c [] h e = refl
  scans c (t ∷ ts) h e =
      ap (λ (g : Selection). foldl (pass degree alpha d c) g ts) (consider_scan t c h.factors h.selected e)
      ∙ scans c ts (scan_again c h t) (scan_length t c h.factors h.selected e)

  pub passes_scan : (c : List Candidate) → passes degree alpha d c ≡ (foldl (scan_again c) (start c) (thresholds alpha)).selected
  unfolding passes
  passes_scan c = ap (λ (h : Selection). h.selected) (scans c (thresholds alpha) (start c) (length-replicate (length c) (f32 0)))
