-- What stays the same: the lengths of slices that are written, an inserter's slices, a pruner, words below one. Assumes nothing.
use Prim.Native.Nat.{ℕ, ◌≤◌, ◌<◌}
use mathlib.Core.Path.{◌≡◌, refl, sym, ◌∙◌, subst}
use mathlib.Core.List.{List, [], ◌++◌}
use native.Mathlib.Omega.{arith}
use Rattle.std.proofs.lemmas.List.{get_or_append_left, get_or-take, length-take-le, length-append, length-drop}
use lib.ListN.{length, take, drop}
use lib.Ieee.{Float}
use Rattle.slots.specs.Store.{Arrays, Shaped, arrays, write_vector, write_neighbors, filled, store_ops}
use Rattle.slots.specs.Inner.Writing.{Filled}
use Rattle.slots.proofs.Changes.{shaped_marked, shaped_vector}
use Rattle.slots.proofs.Written.{shaped_written}
use Rattle.slots.proofs.Done.{filled_arrays}
use Rattle.slots.proofs.Writes.{Whole, store_writes}
use Rattle.row.specs.Row.{Together, index_of}
use Rattle.row.proofs.Kept.{together_kept, together_shaped}
use Rattle.insertion.specs.declared.inserter.Inserter.{Inserter}
use Rattle.insertion.specs.Inner.Inserting.{SameInserter}
use Rattle.insertion.specs.Inner.Writing.{Below}

-- ---- as long as they were
pub record AsLong (a₀ a : Arrays) : Type 0 where
  pub vectors : length a.vectors ≡ length a₀.vectors
  pub targets : length a.targets ≡ length a₀.targets
  pub edges : length a.edges ≡ length a₀.edges
  pub marks : length a.marks ≡ length a₀.marks

pub together_as : {a₀ : Arrays} {vectors targets edges marks : List ℕ} → AsLong a₀ (arrays a₀.measure a₀.dim a₀.degree vectors targets edges a₀.versions marks) → Together a₀
    → Together (arrays a₀.measure a₀.dim a₀.degree vectors targets edges a₀.versions marks)
together_as f x = together_kept f.vectors f.targets f.edges f.marks x

-- arrays of one shape
shapes_long : {n : ℕ} {a a' : Arrays} → Shaped n a → Shaped n a' → a'.dim ≡ a.dim → a'.degree ≡ a.degree → AsLong a a'
shapes_long {n} f g d e =
    record {
      vectors = g.vectors_long ∙ rw d (sym f.vectors_long);
      targets = g.targets_long ∙ rw e (sym f.targets_long);
      edges = g.edges_long ∙ rw e (sym f.edges_long);
      marks = g.marks_long ∙ sym f.marks_long;
    }

-- after a `write`
pub long_written : {alpha : Float} {entry : ℕ} (a : Arrays) {targets edges : List ℕ} (s : ℕ) (ids : List ℕ) → Together a
    → index_of alpha entry (arrays a.measure a.dim a.degree a.vectors targets edges a.versions a.marks) ≡ store_ops.write (index_of alpha entry a) s ids
    → AsLong a (arrays a.measure a.dim a.degree a.vectors targets edges a.versions a.marks)
long_written {alpha} {entry} a s ids x e =
    shapes_long (together_shaped x) (subst Whole (sym e) (store_writes.ok (index_of alpha entry a) s ids (together_shaped x))) refl refl

-- after a `fill`
pub long_filled : (a : Arrays) {vectors targets edges marks : List ℕ} (s : ℕ) (v : List ℕ) → Together a → length v ≡ a.dim → s < length a.marks
    → Filled a.dim a.degree a.vectors a.targets a.edges a.versions a.marks s v vectors targets edges marks
    → AsLong a (arrays a.measure a.dim a.degree vectors targets edges a.versions marks)
long_filled a s v x l h f =
    let n = length a.marks in
    let g : Shaped n (filled a s v) = shaped_marked n (write_neighbors (write_vector a s v) s []) (shaped_written n (write_vector a s v) (shaped_vector n a (together_shaped x) s h v l) s h []) s 1 in
    shapes_long (together_shaped x) (rw (filled_arrays f a.measure) g) refl refl

-- ---- an inserter
pub inserter_then : {i i' i'' : Inserter} → SameInserter i i' → SameInserter i' i'' → SameInserter i i''
inserter_then f g =
    let s = f.slices in
    let t = g.slices in
    record {
      graph = g.graph ∙ f.graph;
      slices =
          record {
            dim = t.dim ∙ s.dim;
            weights = t.weights ∙ s.weights;
            degree = t.degree ∙ s.degree;
            vectors = t.vectors ∙ s.vectors;
            targets = t.targets ∙ s.targets;
            edges = t.edges ∙ s.edges;
            versions = t.versions ∙ s.versions;
            marks = t.marks ∙ s.marks;
          };
      how = g.how ∙ f.how;
    }

-- as many marks
pub inserter_marks : {i i' : Inserter} → SameInserter i i' → length i'.graph.now.marks.now ≡ length i.graph.now.marks.now
inserter_marks {i} {i'} f = sym i'.together.rows.versions_long ∙ rw f.slices.versions i.together.rows.versions_long

pub below_none : (e : ℕ) (w : List ℕ) → Below e w w
below_none e w = record { size = refl; same = λ j l. refl }

pub below_then : {e : ℕ} {w w' w'' : List ℕ} → Below e w w' → Below e w' w'' → Below e w w''
below_then f g = record { size = g.size ∙ f.size; same = λ j l. g.same j l ∙ f.same j l }

-- what lies behind word m is written
pub below_joined : (w u : List ℕ) (m : ℕ) → m ≤ length w → length u ≡ length (drop m w) → Below m w (take m w ++ u)
below_joined w u m h e =
    let l : length (take m w) ≡ m = length-take-le m w h in
    record {
      size = length-append (take m w) u ∙ omega (arith, l, e, length-drop m w);
      same = λ j k. get_or_append_left (take m w) u 0 j (omega arith) ∙ get_or-take m w j 0 k;
    }

pub below_less : {d e : ℕ} {w w' : List ℕ} → d ≤ e → Below e w w' → Below d w w'
below_less h f = record { size = f.size; same = λ j l. f.same j (omega arith) }
