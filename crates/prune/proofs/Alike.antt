-- A selection measures pairs of the candidates considered only, and these are live: two distances that are equal on live slots select the same.
-- Assumes nothing.
use Prim.Native.Nat.{ℕ, suc, ◌-◌, ◌<◌}
use mathlib.Core.Bool.{Bool, true, ◌||◌, cond}
use mathlib.Core.Path.{◌≡◌, ap}
use mathlib.Core.List.{List, [], ◌∷◌, ◌++◌}
use native.Mathlib.Omega.{arith}
use lib.ListN.{length, get_or, set}
use lib.Dec.{leb}
use lib.Ieee.{Float, lt}
use Rattle.lists.specs.Lists.{All}
use Rattle.lists.proofs.Ranges.{foldl_same}
use Rattle.lists.proofs.Places.{all_at}
use Rattle.lists.proofs.Equal.{foldl_equal}
use Rattle.lists.proofs.All.{all_of}
use Rattle.candidates.specs.Candidates.{Candidate}
use Rattle.candidates.specs.Quotient.{largest, fmax, quotient}
use Rattle.vectors.specs.Space.{slot_distance}
use Rattle.slots.specs.View.{View, Alike}
use Rattle.slots.proofs.Alike.{by_alike, same_distance}
use Rattle.prune.specs.Prune.{Selection, no_candidate, raise, select, consider, pass, passes, considered, prune_scored, prune, thresholds}
use Rattle.prune.proofs.Chosen.{considered_live}

-- ---- two distances that are equal on the slots with P, as all candidates are

module _ (degree : ℕ) (alpha : Float) (P : ℕ → Type 0) (d d' : ℕ → ℕ → ℕ) (same : (s t : ℕ) → P s → P t → d s t ≡ d' s t) (c : List Candidate)
    (holds : All (λ x. P x.id) c) where
  -- of the candidate at a place
  at_place : (i : ℕ) → i < length c → P (get_or c i no_candidate).id
  at_place = all_at no_candidate (λ x. P x.id) c holds

  raise_equal : (s : Candidate) → P s.id → (factors : List Float) (j : ℕ) → j < length c
      → raise degree alpha d c s factors j ≡ raise degree alpha d' c s factors j
  unfolding raise
  raise_equal s p factors j h =
      let own = get_or c j no_candidate in
      let f = get_or factors j largest in
      ap (λ (n : ℕ). cond (lt alpha f) factors (set factors j (fmax f (quotient own.dist n)))) (same own.id s.id (at_place j h) p)

  select_equal : (h : Selection) (i : ℕ) → i < length c → select degree alpha d c h i ≡ select degree alpha d' c h i
  unfolding select
  select_equal h i k =
      let s = get_or c i no_candidate in
      ap (λ (fs : List Float). record { factors = fs; selected = h.selected ++ (s ∷ []) })
      (foldl_same (raise degree alpha d c s) (raise degree alpha d' c s) (length c) (raise_equal s (at_place i k))
      (length c - suc i) (suc i) (omega (arith, k)) (set h.factors i largest))

  consider_equal : (t : Float) (h : Selection) (i : ℕ) → i < length c → consider degree alpha d c t h i ≡ consider degree alpha d' c t h i
  unfolding consider
  consider_equal t h i k = ap (λ (to : Selection). cond (leb degree (length h.selected) || lt t (get_or h.factors i largest)) h to) (select_equal h i k)

  pass_equal : (h : Selection) (t : Float) → pass degree alpha d c h t ≡ pass degree alpha d' c h t
  unfolding pass
  pass_equal h t = foldl_same (consider degree alpha d c t) (consider degree alpha d' c t) (length c) (consider_equal t) (length c) 0 (omega arith) h

  passes_equal : passes degree alpha d c ≡ passes degree alpha d' c
  unfolding passes
  passes_equal =
      ap (λ (h : Selection). h.selected)
      (foldl_equal (λ t. Unit {0}) (pass degree alpha d c) (pass degree alpha d' c) (λ h t _. pass_equal h t) (thresholds alpha)
      (all_of _ (λ t. tt) (thresholds alpha)) _)

-- ---- equal on live slots

prune_scored_equal : (degree : ℕ) (alpha : Float) (live : ℕ → Bool) (d d' : ℕ → ℕ → ℕ) → ((s t : ℕ) → live s ≡ true → live t ≡ true → d s t ≡ d' s t)
    → (source : ℕ) (cs : List Candidate) → prune_scored degree alpha live d source cs ≡ prune_scored degree alpha live d' source cs
unfolding prune_scored
prune_scored_equal degree alpha live d d' same source cs =
    passes_equal degree alpha (λ s. live s ≡ true) d d' same (considered live source cs) (considered_live live source cs)

pub prune_alike : (v v' : View) → Alike v v' → (source : ℕ) (cs : List Candidate) → prune v source cs ≡ prune v' source cs
prune_alike v v' a source cs =
    by_alike v v' a (λ u. prune v source cs ≡ prune u source cs)
    (λ vector entry same one.
    prune_scored_equal v.sizes.degree v.sizes.alpha v.live (slot_distance v.space) _ (same_distance v vector entry same) source cs)
