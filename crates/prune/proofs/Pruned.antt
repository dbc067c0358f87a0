-- After `prune_scored`: what holds of the selected candidates where they lie. Assumes nothing.
use Prim.Native.Nat.{ℕ, ◌*◌, ◌≤◌, ◌<◌}
use mathlib.Core.Path.{◌≡◌, refl, sym, subst}
use mathlib.Core.Bool.{Bool, true, false}
use mathlib.Core.List.{List}
use lib.ListN.{length}
use lib.Dec.{eqb}
use lib.Ieee.{Float}
use Rattle.lists.specs.Lists.{All, In}
use Rattle.lists.proofs.All.{all_map}
use Rattle.lists.proofs.Unique.{Unique}
use Rattle.candidates.specs.Candidates.{Candidate, ids}
use Rattle.candidates.specs.Inner.Words.{cand, cands}
use Rattle.candidates.proofs.Words.{front_each}
use Rattle.slots.specs.Store.{Store, is_valid, vector_of, store_view}
use Rattle.vectors.specs.Space.{slot_distance, space}
use Rattle.slots.proofs.Places.{live_inside}
use Rattle.prune.specs.Prune.{prune_scored, prune}
use Rattle.prune.specs.Inner.Selecting.{Pruned}
use Rattle.prune.proofs.Chosen.{chosen, chosen_live, chosen_not_source, chosen_once, chosen_given}
use Rattle.prune.proofs.Thresholds.{Accepted}

-- for an index: what is selected is what its view says
pub pruned_view : (b : Store) (source : ℕ) (cs : List Candidate)
    → prune_scored b.arrays.degree b.alpha (is_valid b.arrays.marks) (slot_distance (space b.arrays.measure b.arrays.dim b.arrays.vectors)) source cs ≡ prune (store_view b) source cs
unfolding slot_distance space store_view vector_of
pruned_view b source cs = refl

module _ {degree : ℕ} {alpha : Float} {live : ℕ → Bool} {d : ℕ → ℕ → ℕ} {source : ℕ} {cs : List Candidate} {r : ℕ} {w : List ℕ} (f : Pruned degree alpha live d source cs r w) where
  so : (P : List Candidate → Type 0) → P (prune_scored degree alpha live d source cs) → P (cands w 0 r)
  so P h = subst P (sym f.list) h

  -- what holds of every candidate given holds of every one selected
  pub pruned_all : (P : Candidate → Type 0) → All P cs → All P (cands w 0 r)
  pruned_all P h = so (All P) (chosen degree alpha live d source cs P h)

  -- each stands in the list given, slot and distance
  pub pruned_given : All (λ c. In c cs) (cands w 0 r)
  pruned_given = so (All (λ c. In c cs)) (chosen_given degree alpha live d source cs)

  pub pruned_live : All (λ c. live c.id ≡ true) (cands w 0 r)
  pruned_live = so (All (λ c. live c.id ≡ true)) (chosen_live degree alpha live d source cs)

  pub pruned_not_source : All (λ c. eqb c.id source ≡ false) (cands w 0 r)
  pruned_not_source = so (All (λ c. eqb c.id source ≡ false)) (chosen_not_source degree alpha live d source cs)

  -- no slot twice
  pub pruned_once : Accepted alpha → Unique (ids (cands w 0 r))
  pruned_once h = so (λ l. Unique (ids l)) (chosen_once degree alpha live d source cs h)

  pub pruned_small : (k : ℕ) → k < r → (cand w (2 * k)).dist ≤ 16777216
  pruned_small = front_each (λ c. c.dist ≤ 16777216) w r f.small

-- a selected slot is inside
pub pruned_inside : {degree : ℕ} {alpha : Float} (marks : List ℕ) {d : ℕ → ℕ → ℕ} {source : ℕ} {cs : List Candidate} {r : ℕ} {w : List ℕ}
    → Pruned degree alpha (is_valid marks) d source cs r w → All (λ c. c.id < length marks) (cands w 0 r)
pruned_inside marks {r = r} {w = w} f =
    all_map (λ c. is_valid marks c.id ≡ true) (λ c. c.id < length marks) (λ c. live_inside marks c.id) (cands w 0 r) (pruned_live f)
