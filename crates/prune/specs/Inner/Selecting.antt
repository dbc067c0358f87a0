-- A selection over candidates in lent words, step by step, as the functions of the code leave it. Assumes nothing.
use Rattle.std.specs.Prelude.{ℕ, suc, ◌+◌, ◌-◌, ◌*◌, ◌≤◌, ◌<◌, ◌≡◌, Bool, cond, List, [], ◌∷◌, ◌++◌, length, get_or, set, Float}
use Rattle.std.specs.Float.{binary32, nan}
use Rattle.std.specs.Float.Ieee.{mul, lt}
use Rattle.lists.specs.Lists.{range, foldl}
use Rattle.vectors.specs.Lent.{HasVector}
use Rattle.vectors.specs.declared.Space.{Space}
use Rattle.candidates.specs.Candidates.{Candidate}
use Rattle.candidates.specs.Quotient.{largest, fmax, fmin, quotient}
use Rattle.candidates.specs.Inner.Words.{cand, cands, cands_of, Small}
use Rattle.prune.specs.Prune.{growth, thresholds, no_candidate, Selection, raise, pass, passes, prune_scored}

-- the threshold after t
unfoldable pub next_threshold : Float → Float → Float
next_threshold alpha t = fmin (mul binary32 t (fmin alpha growth)) alpha

-- the factor f of a candidate at the distance own, once a slot at the distance pair from it is taken
unfoldable pub raised_factor : Float → ℕ → ℕ → Float → Float
raised_factor alpha own pair f = cond (lt alpha f) f (fmax f (quotient own pair))

-- the factors once the candidate at i is taken; the degree plays no part
unfoldable pub settled : Float → (ℕ → ℕ → ℕ) → List Candidate → ℕ → List Float → List Float
settled alpha d c i factors = foldl (raise 0 alpha d c (get_or c i no_candidate)) (set factors i largest) (range (suc i) (length c - suc i))

abbrev pub selection : List Float → List Candidate → Selection
selection factors selected = record { factors = factors; selected = selected }

-- ---- what is asked
-- a list of which the first n have slots with vectors and numbers of 16 bits, and distances that an f32 holds exactly
pub record Given (space : Space) (w : List ℕ) (n : ℕ) : Type 0 where
  pub short : space.dim ≤ 256
  pub inside : 2 * n ≤ length w
  pub small : (k : ℕ) → k < n → (cand w (2 * k)).dist ≤ 16777216
  pub stored : (k : ℕ) → k < n → HasVector space (cand w (2 * k)).id
  pub numbered : (k : ℕ) → k < n → (cand w (2 * k)).id < 65536

-- what `prune_scored` asks, as the walk's functions do: bytes for each slot, and a list: a fact of what is lent to one call
pub record Ready (dim : ℕ) (vectors marks w : List ℕ) : Type 0 where
  pub bytes : length vectors ≡ length marks * dim
  pub few : length marks ≤ 65536
  pub short : dim ≤ 256
  pub small : Small (cands_of w)

-- ---- what is left: those taken lie at the front of the words w
-- the candidate at i of c in a pass with the threshold t: of m taken ones there are then r
pub record Considered (alpha : Float) (d : ℕ → ℕ → ℕ) (c : List Candidate) (t : Float) (i : ℕ) (factors : List Float) (w : List ℕ) (m : ℕ) (factors' : List Float) (w' : List ℕ) (r : ℕ) : Type 0 where
  pub does : selection factors' (cands w' 0 r)
      ≡ cond (lt t (get_or factors i nan)) (selection factors (cands w 0 m)) (selection (settled alpha d c i factors) (cands w 0 m ++ (get_or c i no_candidate ∷ [])))
  pub more : r ≤ m + 1
  pub sizes : length factors' ≡ length factors

-- all passes over the candidates c, from the factors on: r are taken
pub record Selected (degree : ℕ) (alpha : Float) (d : ℕ → ℕ → ℕ) (factors : List Float) (c : List Candidate) (r : ℕ) (w : List ℕ) : Type 0 where
  pub list : cands w 0 r ≡ (foldl (pass degree alpha d c) (selection factors []) (thresholds alpha)).selected
  pub few : r ≤ degree

-- the same with all factors 0 before
pub record Picked (degree : ℕ) (alpha : Float) (d : ℕ → ℕ → ℕ) (c : List Candidate) (r : ℕ) (w : List ℕ) : Type 0 where
  pub list : cands w 0 r ≡ passes degree alpha d c
  pub few : r ≤ degree

-- what `prune_scored` leaves: r of the candidates cs are selected
pub record Pruned (degree : ℕ) (alpha : Float) (live : ℕ → Bool) (d : ℕ → ℕ → ℕ) (source : ℕ) (cs : List Candidate) (r : ℕ) (w : List ℕ) : Type 0 where
  pub list : cands w 0 r ≡ prune_scored degree alpha live d source cs
  pub count : r ≡ length (prune_scored degree alpha live d source cs)
  pub few : r ≤ degree
  pub small : Small (cands w 0 r)
