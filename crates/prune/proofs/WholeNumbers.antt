-- At alpha 1.0 a selection compares whole numbers: p' leaves where it is nearer to p* than to p, or at no distance from p*. Assumes nothing.
use Prim.Native.Nat.{ℕ, zero, suc, ◌≤◌, ◌<◌}
use mathlib.Core.Path.{◌≡◌, refl, sym, ap, ◌∙◌}
use mathlib.Core.Bool.{Bool, not, ◌||◌, cond}
use mathlib.Core.List.{List, [], ◌∷◌, ◌++◌}
use native.Mathlib.Nat.{le_of_lt}
use lib.ListN.{length}
use lib.Dec.{eqb, ltb, leb}
use lib.Ieee.{Float, le, of_int}
use Rattle.lists.specs.Lists.{All, least_from}
use Rattle.lists.proofs.All.{all_filter}
use Rattle.candidates.specs.Candidates.{Candidate}
use Rattle.vectors.specs.Distance.{f32}
use Rattle.candidates.proofs.Floats.{quotient_above_one}
use Rattle.prune.specs.Prune.{prune_scored}
use Rattle.prune.specs.RobustPrune.{Rules, stays, choose, robust_prune, amended}
use Rattle.prune.proofs.Amended.{candidates_considered, alphas_thresholds}
use Rattle.prune.proofs.Chosen.{all_of_given}
use Rattle.prune.proofs.Loop.{one_run}
use Rattle.prune.proofs.Robust.{prune_scored_robust}
use Rattle.prune.proofs.Thresholds.{one_pass, Accepted}

-- our rules at alpha 1.0, in whole numbers
abbrev pub whole_numbers : (ℕ → Bool) → Rules Float
whole_numbers live = record { candidates = (amended live (f32 1)).candidates; alphas = f32 1 ∷ []; drops = λ t own pair. eqb pair 0 || ltb pair own }

module _ (live : ℕ → Bool) (R : ℕ) (d : ℕ → ℕ → ℕ) (small : (x y : ℕ) → d x y < 16777216) where
  abbrev Near : Candidate → Type 0
  Near c = c.dist < 16777216

  same_stays : (p : Candidate) (C : List Candidate) → All Near C → stays (amended live (f32 1)) R d (f32 1) p C ≡ stays (whole_numbers live) R d (f32 1) p C
  unfolding stays amended
  same_stays p [] a = refl
  same_stays p (c ∷ C) a =
      let b = quotient_above_one c.dist (d c.id p.id) (le_of_lt a.0) (small c.id p.id) in
      rw b (ap (λ (l : List Candidate). cond (not (eqb (d c.id p.id) 0 || ltb (d c.id p.id) c.dist)) (c ∷ l) l) (same_stays p C a.1))

  same_choose : (k : ℕ) (N C : List Candidate) → All Near C → choose (amended live (f32 1)) R d k (f32 1) N C ≡ choose (whole_numbers live) R d k (f32 1) N C
  unfolding choose stays
  same_choose zero N C a = refl
  same_choose (suc k) N [] a = refl
  same_choose (suc k) N (c ∷ C) a =
      let p = least_from (λ x. x.dist) c C in
      let N₁ = N ++ (p ∷ []) in
      let rest = stays (whole_numbers live) R d (f32 1) p (c ∷ C) in
      ap (λ (l : List Candidate). cond (leb R (length N₁)) N₁ (choose (amended live (f32 1)) R d k (f32 1) N₁ l)) (same_stays p (c ∷ C) a)
      ∙ ap (λ (l : List Candidate). cond (leb R (length N₁)) N₁ l) (same_choose k N₁ rest (all_filter Near (λ p'. not (eqb (d p'.id p.id) 0 || ltb (d p'.id p.id) p'.dist)) (c ∷ C) a))

  pub amended_at_one : (p : ℕ) (C : List Candidate) → 1 ≤ R → All Near C → robust_prune (amended live (f32 1)) R d p C ≡ robust_prune (whole_numbers live) R d p C
  amended_at_one p C h a =
      let c = (amended live (f32 1)).candidates p C in
      one_run (amended live (f32 1)) R d (f32 1) p C (alphas_thresholds live (f32 1) ∙ one_pass) h
      ∙ same_choose (length c) [] c (rw (candidates_considered live (f32 1) p C) (all_of_given Near live p C a))
      ∙ sym (one_run (whole_numbers live) R d (f32 1) p C refl h)

  accepted_one : Accepted (f32 1)
  unfolding le f32 of_int
  accepted_one = record { low = tt; high = tt }

  pub prune_scored_at_one : (source : ℕ) (cs : List Candidate) → 1 ≤ R → ((s : ℕ) → d s s ≡ 0) → All Near cs
      → prune_scored R (f32 1) live d source cs ≡ robust_prune (whole_numbers live) R d source cs
  prune_scored_at_one source cs h own a = prune_scored_robust R (f32 1) live d source cs accepted_one own small a ∙ amended_at_one source cs h a
