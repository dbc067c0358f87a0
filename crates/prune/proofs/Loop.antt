-- RobustPrune's loop: as many turns as C has nodes are enough where each node drops itself, as under the paper's rules and ours; with one α the runs
-- over the values of α vanish, as they do in the paper. Assumes nothing.
use Prim.Native.Nat.{ℕ, zero, suc, ◌*◌, ◌≤◌}
use mathlib.Core.Path.{◌≡◌, refl, sym, ap, ◌∙◌}
use mathlib.Core.Bool.{Bool, true, not, cond}
use mathlib.Core.List.{List, [], ◌∷◌, ◌++◌}
use native.Mathlib.Nat.{mul-zero}
use native.Mathlib.Omega.{arith}
use borrow.Author.Tests.{lt-leb}
use lib.ListN.{length}
use lib.Dec.{eqb, leb, leb-zero}
use lib.Ieee.{Float, lt}
use Rattle.lists.specs.Lists.{filter, foldl, distinct_by, least_from}
use Rattle.lists.proofs.Sorted.{least_left_out}
use Rattle.candidates.specs.Candidates.{Candidate}
use Rattle.candidates.specs.Quotient.{largest, quotient}
use Rattle.prune.specs.RobustPrune.{Rules, stays, choose, remaining, run, robust_prune, paper, amended}

-- so that the examples are checked first

module _ {T : Type 0} (rules : Rules T) (R : ℕ) (d : ℕ → ℕ → ℕ) (α : T) where
  pub choose_none : (k : ℕ) (N : List Candidate) → choose rules R d k α N [] ≡ N
  unfolding choose
  choose_none zero N = refl
  choose_none (suc k) N = refl

  module _ (itself : (c : Candidate) → rules.drops α c.dist (d c.id c.id) ≡ true) where
    turns : (k j : ℕ) (N C : List Candidate) → length C ≤ k → length C ≤ j → choose rules R d k α N C ≡ choose rules R d j α N C
    unfolding choose stays
    turns zero j N [] h g = sym (choose_none j N)
    turns zero j N (c ∷ C) h g = absurd (omega arith)
    turns (suc k) j N [] h g = sym (choose_none j N)
    turns (suc k) zero N (c ∷ C) h g = absurd (omega arith)
    turns (suc k) (suc j) N (c ∷ C) h g =
        let p = least_from (λ x. x.dist) c C in
        let N₁ = N ++ (p ∷ []) in
        let rest = stays rules R d α p (c ∷ C) in
        let fewer : length rest ≤ length C = least_left_out (λ x. x.dist) (λ p'. not (rules.drops α p'.dist (d p'.id p.id))) c C (rw (itself p)) in
        ap (λ (l : List Candidate). cond (leb R (length N₁)) N₁ l) (turns k j N₁ rest (omega arith) (omega arith))

    -- more turns than C has nodes change nothing
    pub choose_enough : (k : ℕ) (N C : List Candidate) → length C ≤ k → choose rules R d k α N C ≡ choose rules R d (length C) α N C
    choose_enough k N C h = turns k (length C) N C h (omega arith)

  -- where nothing is selected yet, nothing has left C
  pub remaining_none : (C : List Candidate) → remaining rules R d α [] C ≡ C
  unfolding remaining
  remaining_none [] = refl
  remaining_none (c ∷ C) = ap (λ (l : List Candidate). c ∷ l) (remaining_none C)

  -- with one α there is one run
  pub one_run : (p : ℕ) (C : List Candidate) → rules.alphas ≡ α ∷ [] → 1 ≤ R
      → robust_prune rules R d p C ≡ choose rules R d (length (rules.candidates p C)) α [] (rules.candidates p C)
  unfolding robust_prune run
  one_run p C e h =
      let C₁ = rules.candidates p C in
      ap (foldl (run rules R d C₁) []) e ∙ rw (lt-leb R 0 h, remaining_none C₁)

module _ (R : ℕ) (d : ℕ → ℕ → ℕ) (own : (s : ℕ) → d s s ≡ 0) where
  pub paper_enough : (m n k : ℕ) (α : ℕ × ℕ) (N C : List Candidate) → length C ≤ k → choose (paper m n) R d k α N C ≡ choose (paper m n) R d (length C) α N C
  unfolding paper
  paper_enough m n k α N C h = choose_enough (paper m n) R d α (λ c. rw (own c.id, mul-zero α.0) (leb-zero (α.1 * c.dist))) k N C h

  pub amended_enough : (live : ℕ → Bool) (alpha t : Float) → lt t largest ≡ true → (k : ℕ) (N C : List Candidate) → length C ≤ k
      → choose (amended live alpha) R d k t N C ≡ choose (amended live alpha) R d (length C) t N C
  unfolding amended quotient
  amended_enough live alpha t e k N C h = choose_enough (amended live alpha) R d t (λ c. rw (own c.id) e) k N C h

-- the paper's algorithm: one loop over C without p
pub paper_prune : (m n R : ℕ) (d : ℕ → ℕ → ℕ) (p : ℕ) (C C' : List Candidate) → 1 ≤ R → C' ≡ distinct_by (λ c. c.id) (filter (λ c. not (eqb c.id p)) C)
    → robust_prune (paper m n) R d p C ≡ choose (paper m n) R d (length C') (m, n) [] C'
unfolding paper
paper_prune m n R d p C C' h e = rw e (one_run (paper m n) R d (m, n) p C refl h)
