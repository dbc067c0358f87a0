-- What a changed slice keeps: slices that belong together, and another slot's row as it is worked out. Assumes nothing.
use Prim.Native.Nat.{ℕ, ◌<◌}
use mathlib.Core.Path.{◌≡◌, refl, ap, sym, ◌∙◌, subst}
use mathlib.Core.List.{List}
use lib.ListN.{length}
use lib.Ieee.{Float}
use Rattle.vectors.specs.Space.{slot_distance}
use Rattle.candidates.specs.Candidates.{Candidate, scored}
use Rattle.slots.specs.View.{live_neighbors}
use Rattle.slots.specs.Store.{Arrays, Shaped, Store, vector_of, store_view, store_ops, with_arrays, write_neighbors, arrays}
use Rattle.slots.proofs.Writes.{Whole, after_write, neighbors_kept, store_writes}
use Rattle.prune.specs.Prune.{prune}
use Rattle.slots.proofs.Slices.{same_none, same_then}
use Rattle.row.specs.Lent.{SamePruner}
use Rattle.row.specs.declared.pruner.Pruner.{Pruner}
use Rattle.row.specs.Row.{Together, index_of, live_scored}

-- ---- the slices
pub together_kept : {a : Arrays} {vectors targets edges marks : List ℕ} → length vectors ≡ length a.vectors → length targets ≡ length a.targets → length edges ≡ length a.edges
    → length marks ≡ length a.marks → Together a → Together (arrays a.measure a.dim a.degree vectors targets edges a.versions marks)
together_kept v t e m x =
    record {
      bytes = record { long = v ∙ x.bytes.long ∙ rw m; small = x.bytes.small };
      rows =
          record {
            targets_long = t ∙ x.rows.targets_long ∙ rw m;
            edges_long = e ∙ x.rows.edges_long ∙ rw m;
            versions_long = x.rows.versions_long ∙ sym m;
            few = rw m x.rows.few;
          };
      degree_most = x.degree_most;
    }

pub together_shaped : {a : Arrays} → Together a → Shaped (length a.marks) a
together_shaped x =
    record {
      vectors_long = x.bytes.long;
      targets_long = x.rows.targets_long;
      edges_long = x.rows.edges_long;
      versions_long = x.rows.versions_long;
      marks_long = refl;
    }

-- what writing a row leaves as it is: the sizes of all slices
module _ (alpha : Float) (a a' : Arrays) (s : ℕ) (x : List ℕ) (o : Together a) (e : index_of alpha 0 a' ≡ store_ops.write (index_of alpha 0 a) s x) where
  abbrev b : Store
  b = index_of alpha 0 a

  size_kept : (f : Store → ℕ) → (s < b.capacity → f (with_arrays b (write_neighbors b.arrays s x)) ≡ f b) → f (index_of alpha 0 a') ≡ f b
  size_kept f h = ap f e ∙ after_write (λ d. f d ≡ f b) b s x h refl

  pub together_written : Together a'
  together_written =
      let capacity : length a'.marks ≡ length a.marks = size_kept (λ d. d.capacity) (λ h. refl) in
      let dim : a'.dim ≡ a.dim = size_kept (λ d. d.arrays.dim) (λ h. unfold write_neighbors in refl) in
      let degree : a'.degree ≡ a.degree = size_kept (λ d. d.arrays.degree) (λ h. unfold write_neighbors in refl) in
      let g : Whole (index_of alpha 0 a') = subst Whole (sym e) (store_writes.ok b s x (together_shaped o)) in
      record {
        bytes = record { long = g.vectors_long; small = rw dim o.bytes.small };
        rows =
            record {
              targets_long = g.targets_long;
              edges_long = g.edges_long;
              versions_long = g.versions_long;
              few = rw capacity o.rows.few;
            };
        degree_most = rw degree o.degree_most;
      }

-- the index with other slices, as many marks among them
pub index_with : (alpha : Float) (entry : ℕ) (a a' : Arrays) → length a'.marks ≡ length a.marks → index_of alpha entry a' ≡ with_arrays (index_of alpha entry a) a'
index_with alpha entry a a' e = ap (λ (n : ℕ). record { arrays = a'; capacity = n; alpha = alpha; entry = entry }) e

-- a pruner stays, call after call
pub pruner_none : {n : ℕ} (p : Pruner n) → SamePruner p p
pruner_none p = record { slices = same_none p.rows.now; rows = refl; alpha = refl; marks = refl; kept = refl; space = refl }

pub pruner_then : {n : ℕ} {p p₁ p₂ : Pruner n} → SamePruner p p₁ → SamePruner p₁ p₂ → SamePruner p p₂
pruner_then f g =
    record { slices = same_then f.slices g.slices; rows = g.rows ∙ f.rows; alpha = g.alpha ∙ f.alpha; marks = g.marks ∙ f.marks; kept = g.kept ∙ f.kept; space = g.space ∙ f.space }

-- ---- a row is written: what is read of another slot stays, and so does every selection
distances_kept : (b : Store) (s t : ℕ) (x row : List ℕ)
    → scored (slot_distance (store_view (store_ops.write b s x)).space t) row ≡ scored (slot_distance (store_view b).space t) row
distances_kept b s t x row = after_write (λ d. scored (slot_distance (store_view d).space t) row ≡ scored (slot_distance (store_view b).space t) row) b s x inside refl
  where
    inside : s < b.capacity → scored (slot_distance (store_view (with_arrays b (write_neighbors b.arrays s x))).space t) row ≡ scored (slot_distance (store_view b).space t) row
    inside h = unfold store_view write_neighbors slot_distance vector_of in refl

pub scored_kept : (b : Store) (s t : ℕ) (x : List ℕ) → Whole b → (s ≡ t → ⊥) → live_scored (store_view (store_ops.write b s x)) t ≡ live_scored (store_view b) t
scored_kept b s t x k n =
    distances_kept b s t x (live_neighbors (store_view (store_ops.write b s x)) t)
    ∙ ap (scored (slot_distance (store_view b).space t)) (neighbors_kept b s t x k n)

pub prune_kept : (b : Store) (s t : ℕ) (x : List ℕ) (cs : List Candidate) → prune (store_view (store_ops.write b s x)) t cs ≡ prune (store_view b) t cs
prune_kept b s t x cs = after_write (λ d. prune (store_view d) t cs ≡ prune (store_view b) t cs) b s x inside refl
  where
    inside : s < b.capacity → prune (store_view (with_arrays b (write_neighbors b.arrays s x))) t cs ≡ prune (store_view b) t cs
    inside h = unfold store_view write_neighbors slot_distance vector_of in refl
