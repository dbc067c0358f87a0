-- The rules `amended` in the terms of `prune_scored`: their candidates are those `considered`, and their values of α the thresholds. Assumes nothing.
use Prim.Native.Nat.{ℕ, zero, suc}
use mathlib.Core.Path.{◌≡◌, refl, sym, ap, ◌∙◌}
use mathlib.Core.Bool.{Bool, true, false, not, cond}
use mathlib.Core.List.{List, [], ◌∷◌, map}
use lib.ListN.{take}
use lib.Dec.{eqb}
use lib.Ieee.{Float, le}
use Rattle.lists.specs.Lists.{filter, range, sort_by, distinct_by}
use Rattle.lists.proofs.Filter.{filter_and}
use Rattle.lists.proofs.Sorted.{filter_sort}
use Rattle.candidates.specs.Candidates.{Candidate, nearer}
use Rattle.prune.specs.Prune.{growth, thresholds_from, thresholds, considered}
use Rattle.prune.specs.RobustPrune.{most_growth, grown, up_to, amended}

pub candidates_considered : (live : ℕ → Bool) (alpha : Float) (p : ℕ) (C : List Candidate) → (amended live alpha).candidates p C ≡ considered live p C
unfolding amended considered
candidates_considered live alpha p C =
    let other : Candidate → Bool = λ c. not (eqb c.id p) in
    let alive : Candidate → Bool = λ c. live c.id in
    ap (λ (l : List Candidate). take 750 (distinct_by (λ c. c.id) l))
    (filter_sort (λ c. c.dist) other (filter alive C) ∙ ap (sort_by nearer) (sym (filter_and other alive C)))

-- from the k-th value on
grown_from : (alpha : Float) (n k : ℕ) → up_to (le alpha) (map (grown alpha) (range k (suc n))) ≡ thresholds_from n alpha (grown alpha k)
unfolding grown most_growth thresholds_from growth
grown_from alpha zero k = ap (λ (l : List Float). grown alpha k ∷ l) (none (le alpha (grown alpha k)))
  where
    none : (b : Bool) → cond {A = List Float} b [] [] ≡ []
    none true = refl
    none false = refl
grown_from alpha (suc n) k = ap (λ (l : List Float). grown alpha k ∷ cond (le alpha (grown alpha k)) [] l) (grown_from alpha n (suc k))

pub alphas_thresholds : (live : ℕ → Bool) (alpha : Float) → (amended live alpha).alphas ≡ thresholds alpha
unfolding amended thresholds grown
alphas_thresholds live alpha = grown_from alpha 4 0
