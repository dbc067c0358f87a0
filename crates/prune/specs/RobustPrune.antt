-- RobustPrune, Algorithm 2 of the DiskANN paper (NeurIPS 2019), in the paper's terms; each place where `prune_scored` departs from it is a field
-- of `Rules`, with a line of its own in docs/DIFFERENCES.md.
-- The paper's V is C here, since V is a word of antt. Assumes nothing.
use Rattle.std.specs.Prelude.{ℕ, zero, suc, ◌*◌, Bool, not, cond, List, [], ◌∷◌, ◌++◌, map, length, take, eqb, leb, Float}
use Rattle.std.specs.Float.{binary32}
use Rattle.std.specs.Float.Ieee.{mul, lt, le, of_bits}
use Rattle.lists.specs.Lists.{filter, elem, foldl, range, sort_by, distinct_by, least_from}
use Rattle.vectors.specs.Distance.{f32}
use Rattle.candidates.specs.Candidates.{Candidate, nearer, ids}
use Rattle.candidates.specs.Quotient.{fmin, quotient}

-- T is the type of α
pub record Rules (T : Type 0) : Type 0 where
  -- C, by the node p and the candidates C ∪ N(p) with their distances to p
  pub candidates : ℕ → List Candidate → List Candidate
  -- the values of α for which C is gone through, one after the other
  pub alphas : List T
  -- whether p' leaves C when p* is taken: by α, d(p, p') and d(p*, p')
  pub drops : T → ℕ → ℕ → Bool

-- R is the degree bound, d the distance of two nodes
module _ {T : Type 0} (rules : Rules T) (R : ℕ) (d : ℕ → ℕ → ℕ) where
  -- what stays of C when p* is taken
  unfoldable pub stays : T → Candidate → List Candidate → List Candidate
  stays α p C = filter (λ p'. not (rules.drops α p'.dist (d p'.id p.id))) C

  -- while C is not empty: p* is the nearest of C, the first of equals, and joins N; where N has R nodes, stop; then C is thinned.
  -- p* drops itself, so that as many turns as C has nodes are enough (`choose_enough`).
  unfoldable pub choose : ℕ → T → List Candidate → List Candidate → List Candidate
  choose zero α N C = N
  choose (suc k) α N [] = N
  choose (suc k) α N (c ∷ C) =
      let p = least_from (λ x. x.dist) c C in
      let N₁ = N ++ (p ∷ []) in
      let rest = choose k α N₁ (stays α p (c ∷ C)) in
      cond (leb R (length N₁)) N₁ rest

  -- C as it is found by the next α: those not taken, less what each taken one drops among those that stand after it
  unfoldable pub remaining : T → List Candidate → List Candidate → List Candidate
  remaining α N [] = []
  remaining α N (c ∷ cs) = let rest = remaining α N cs in cond (elem c.id (ids N)) (stays α c rest) (c ∷ rest)

  unfoldable pub run : List Candidate → List Candidate → T → List Candidate
  run C N α = let C₁ = remaining α N C in cond (leb R (length N)) N (choose (length C₁) α N C₁)

  -- RobustPrune(p, C, α, R): the new N(p)
  unfoldable pub robust_prune : ℕ → List Candidate → List Candidate
  robust_prune p C = foldl (run (rules.candidates p C)) [] rules.alphas

-- the candidates as a set without p: of each node the first
abbrev pub set_without : ℕ → List Candidate → List Candidate
set_without p C = distinct_by (λ c. c.id) (filter (λ c. not (eqb c.id p)) C)

-- the paper's rules, for α = m / n: a set without p, one α, and p' leaves where α · d(p*, p') ≤ d(p, p')
unfoldable pub paper : ℕ → ℕ → Rules (ℕ × ℕ)
paper m n = record {
  candidates = set_without;
  alphas = (m, n) ∷ [];
  drops = λ α own pair. leb (α.0 * pair) (α.1 * own);
}

-- 1.2 as an f32
unfoldable pub most_growth : Float
most_growth = of_bits binary32 0x3f99_999a

-- α after k steps: 1 at first, at each step times min(alpha, 1.2), and never above alpha
unfoldable pub grown : Float → ℕ → Float
grown alpha zero = f32 1
grown alpha (suc k) = fmin (mul binary32 (grown alpha k) (fmin alpha most_growth)) alpha

-- the elements of a list up to the first that passes a test
abbrev pub up_to : (Float → Bool) → List Float → List Float
up_to test [] = []
up_to test (t ∷ ts) = let rest = up_to test ts in t ∷ cond (test t) [] rest

-- ours: DIFFERENCES, P-6 to P-8. The 750 nearest of the live candidates; α grows until it reaches alpha, with five values at most.
unfoldable pub amended : (ℕ → Bool) → Float → Rules Float
amended live alpha = record {
  candidates = λ p C. take 750 (set_without p (sort_by nearer (filter (λ c. live c.id) C)));
  alphas = up_to (le alpha) (map (grown alpha) (range 0 5));
  drops = λ t own pair. lt t (quotient own pair);
}
