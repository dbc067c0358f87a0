-- Selections, `prune_scored`: document 01, "Selections". Assumes nothing.
use Rattle.std.specs.Prelude.{ℕ, zero, suc, ◌-◌, Bool, not, ◌&&◌, ◌||◌, cond, List, [], ◌∷◌, ◌++◌, length, take, get_or, set, replicate, eqb, leb, Float}
use Rattle.std.specs.Float.{binary32}
use Rattle.std.specs.Float.Ieee.{mul, lt, le, of_bits}
use Rattle.lists.specs.Lists.{filter, range, foldl, sort_by, distinct_by}
use Rattle.candidates.specs.Candidates.{Candidate, nearer}
use Rattle.vectors.specs.Distance.{f32}
use Rattle.candidates.specs.Quotient.{largest, fmax, fmin, quotient}
use Rattle.slots.specs.View.{View}
use Rattle.vectors.specs.Space.{slot_distance}

-- 1.2 as an f32
unfoldable pub growth : Float
growth = of_bits binary32 0x3f99_999a

-- the thresholds of the passes from t on: each is the last one times min(alpha, 1.2), capped at alpha, and k follow at most
unfoldable pub thresholds_from : ℕ → Float → Float → List Float
thresholds_from zero alpha t = t ∷ []
thresholds_from (suc k) alpha t =
    let rest = thresholds_from k alpha (fmin (mul binary32 t (fmin alpha growth)) alpha) in
    t ∷ cond (le alpha t) [] rest

-- five passes at most: `five_passes` shows that alpha is reached by then
unfoldable pub thresholds : Float → List Float
thresholds alpha = thresholds_from 4 alpha (f32 1)

-- the factor of each candidate, and those selected so far
pub record Selection : Type 0 where
  pub factors : List Float
  pub selected : List Candidate

abbrev pub no_candidate : Candidate
no_candidate = record { dist = 0; id = 0 }

-- c are the candidates, d the distance of two slots
module _ (degree : ℕ) (alpha : Float) (d : ℕ → ℕ → ℕ) (c : List Candidate) where
  -- taking s raises the factor at j to at least own distance over distance to s, unless it exceeds alpha already
  unfoldable pub raise : Candidate → List Float → ℕ → List Float
  raise s factors j =
      let own = get_or c j no_candidate in
      let f = get_or factors j largest in
      cond (lt alpha f) factors (set factors j (fmax f (quotient own.dist (d own.id s.id))))

  -- the candidate at i is taken: its own factor becomes the largest, and each later one is raised
  unfoldable pub select : Selection → ℕ → Selection
  select h i =
      let s = get_or c i no_candidate in
      record { factors = foldl (raise s) (set h.factors i largest) (range (suc i) (length c - suc i)); selected = h.selected ++ (s ∷ []) }

  -- the candidate at i in a pass with the threshold t; once the degree is reached nothing changes
  unfoldable pub consider : Float → Selection → ℕ → Selection
  consider t h i = cond (leb degree (length h.selected) || lt t (get_or h.factors i largest)) h (select h i)

  unfoldable pub pass : Selection → Float → Selection
  pass h t = foldl (consider t) h (range 0 (length c))

  unfoldable pub passes : List Candidate
  passes = (foldl pass (record { factors = replicate (length c) (f32 0); selected = [] }) (thresholds alpha)).selected

-- what is selected from: no source, no dead slot, by distance, each slot's first, 750 of them
unfoldable pub considered : (ℕ → Bool) → ℕ → List Candidate → List Candidate
considered live source cs =
    take 750 (distinct_by (λ c. c.id) (sort_by nearer (filter (λ c. not (eqb c.id source) && live c.id) cs)))

-- `prune_scored`, by what it reads of an index: degree, alpha, the live slots and the distance of two
unfoldable pub prune_scored : ℕ → Float → (ℕ → Bool) → (ℕ → ℕ → ℕ) → ℕ → List Candidate → List Candidate
prune_scored degree alpha live d source cs = passes degree alpha d (considered live source cs)

abbrev pub prune : View → ℕ → List Candidate → List Candidate
prune v source cs = prune_scored v.sizes.degree v.sizes.alpha v.live (slot_distance v.space) source cs
