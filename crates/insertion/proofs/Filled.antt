-- The slots that a batch fills: the lowest free ones are found, and each gets its vector. Assumes nothing.
use Prim.Native.Nat.{ℕ, suc, ◌+◌, ◌-◌, ◌≤◌, ◌<◌}
use mathlib.Core.Bool.{Bool, true, false, not}
use mathlib.Core.Path.{◌≡◌, refl, ap, sym, ◌∙◌}
use mathlib.Core.List.{List, [], ◌∷◌, ◌++◌, append_assoc, append-nil}
use native.Mathlib.Numerals.{add-one}
use native.Mathlib.Omega.{arith}
use lib.ListN.{length, take, drop, get_or, set, length-set, take-append-drop}
use lib.Seq.{length-take-le, take-suc-set, drop-set-lt, drop-drop, take-nil}
use Rattle.lists.specs.Lists.{filter, range, part, put_front}
use Rattle.lists.proofs.Parts.{fits_in}
use Rattle.vectors.specs.Lent.{measure_of}
use Rattle.slots.specs.Store.{Arrays, Store, is_valid, store_ops, arrays}
use Rattle.slots.specs.Inner.Writing.{SlotIn, Filled}
use Rattle.slots.proofs.Places.{shape_fits}
use Rattle.row.specs.Row.{Together, index_of}
use Rattle.insert.specs.Insert.{fill_all}
use Rattle.insertion.specs.declared.inserter.Inserter.{Inserter}
use Rattle.insertion.specs.Inner.Filling.{fillings_from, chunk_of, Fillable}
use Rattle.insertion.specs.Inner.Inserting.{held, index_in, SameInserter, Inserted}
use Rattle.insertion.proofs.Same.{AsLong, together_as, long_filled, inserter_then}

-- ---- free slots
abbrev free : List ℕ → ℕ → Bool
free marks s = not (is_valid marks s)

-- n of the slots before s are noted; the others that are to be follow
pub record Gathering (marks slots₀ : List ℕ) (count : ℕ) (slots : List ℕ) (n s : ℕ) : Type 0 where
  pub most : n ≤ count
  pub bound : s ≤ length marks
  pub goes : take n slots ++ take (count - n) (filter (free marks) (range s (length marks - s))) ≡ take count (filter (free marks) (range 0 (length marks)))
  pub rest : drop n slots ≡ drop n slots₀
  pub size : length slots ≡ length slots₀

pub gathering_none : (marks slots : List ℕ) (count : ℕ) → Gathering marks slots count slots 0 0
gathering_none marks slots count =
    let e : count - 0 ≡ count = omega arith in
    let f : length marks - 0 ≡ length marks = omega arith in
    record { most = omega arith; bound = omega arith; goes = rw (e, f); rest = refl; size = refl }

module _ {marks slots₀ : List ℕ} {count : ℕ} {slots : List ℕ} {n s : ℕ} (f : Gathering marks slots₀ count slots n s) (l : count ≤ length slots₀) where
  pub gathering_room : (n ≡ count → ⊥) → n < length slots
  gathering_room h = omega (arith, f.most, f.size)

  module _ (h : s < length marks) where
    y : s + 1 ≡ suc s
    y = omega arith

    was : take n slots ++ take (count - n) (filter (free marks) (s ∷ range (suc s) (length marks - (s + 1)))) ≡ take count (filter (free marks) (range 0 (length marks)))
    was = let z : length marks - s ≡ suc (length marks - (s + 1)) = omega arith in rw z at f.goes

    pub gathering_live : is_valid marks s ≡ true → Gathering marks slots₀ count slots n (s + 1)
    gathering_live e = record { most = f.most; bound = omega arith; goes = rw y (rw y at (rw e at was)); rest = f.rest; size = f.size }

    pub gathering_free : is_valid marks s ≡ false → (n ≡ count → ⊥) → Gathering marks slots₀ count (set slots n s) (n + 1) (s + 1)
    gathering_free e k =
        let x : count - n ≡ suc (count - (n + 1)) = omega (arith, f.most) in
        let v : take n slots ++ (s ∷ take (count - (n + 1)) (filter (free marks) (range (suc s) (length marks - (s + 1))))) ≡ take count (filter (free marks) (range 0 (length marks))) =
        rw (e, x) at was in
        let t : take (n + 1) (set slots n s) ≡ take n slots ++ (s ∷ []) = rw (add-one n) (take-suc-set slots n s (gathering_room k)) in
        record {
          most = omega (arith, f.most);
          bound = omega arith;
          goes = rw (t, append_assoc, y) (rw y at v);
          rest = drop-set-lt (n + 1) slots n s (omega arith) ∙ sym (drop-drop 1 n slots) ∙ ap (drop 1) f.rest ∙ drop-drop 1 n slots₀;
          size = length-set slots n s ∙ f.size;
        }

  ends : take n slots ≡ take count (filter (free marks) (range 0 (length marks))) → slots ≡ put_front (take count (filter (free marks) (range 0 (length marks)))) slots₀
  ends e =
      let c : length (take n slots) ≡ n = length-take-le n slots (omega (arith, f.most, f.size)) in
      rw (← e, c, ← f.rest) (sym (take-append-drop n slots))

  pub gathering_done : length marks ≤ s → slots ≡ put_front (take count (filter (free marks) (range 0 (length marks)))) slots₀
  gathering_done h =
      let z : length marks - s ≡ 0 = omega arith in
      ends (rw (take-nil (count - n), append-nil) at (rw z at f.goes))

-- ---- one slot
module _ (i : Inserter) {s : ℕ} {v : List ℕ} (h : s < length i.graph.now.marks.now) (l : length v ≡ i.graph.now.dim) where
  pub slot_in : SlotIn i.graph.now.dim i.graph.now.degree i.graph.now.vectors.now i.graph.now.targets.now i.graph.now.edges.now i.graph.now.marks.now s v
  slot_in =
      let x = i.together in
      let r = shape_fits x.rows s h in
      record {
        long = l;
        inside = h;
        vector_in = fits_in i.graph.now.dim (length i.graph.now.marks.now) s (length i.graph.now.vectors.now) h x.bytes.long;
        targets_in = r.0;
        edges_in = r.1;
      }

  module _ {vectors targets edges marks : List ℕ}
      (g : Filled i.graph.now.dim i.graph.now.degree i.graph.now.vectors.now i.graph.now.targets.now i.graph.now.edges.now i.graph.now.versions.now i.graph.now.marks.now s v vectors targets edges marks) where
    pub slot_long : AsLong (held i) (arrays (measure_of i.graph.now.weights) i.graph.now.dim i.graph.now.degree vectors targets edges i.graph.now.versions.now marks)
    slot_long = long_filled (held i) s v i.together l h g

    pub slot_together : Together (arrays (measure_of i.graph.now.weights) i.graph.now.dim i.graph.now.degree vectors targets edges i.graph.now.versions.now marks)
    slot_together = together_as slot_long i.together

    -- the index, once the rows are back in the graph that they were built from
    pub slot_filled : {targets' edges' : List ℕ} → targets' ≡ targets → edges' ≡ edges
        → index_of i.how.alpha i.how.entry (arrays (measure_of i.graph.now.weights) i.graph.now.dim i.graph.now.degree vectors targets' edges' i.graph.now.versions.now marks) ≡ store_ops.fill (index_in i) s v
    slot_filled t e =
        let a : Arrays = arrays (measure_of i.graph.now.weights) i.graph.now.dim i.graph.now.degree vectors targets edges i.graph.now.versions.now marks in
        rw (t, e)
        (ap (λ (n : ℕ). record { arrays = a; capacity = n; alpha = i.how.alpha; entry = i.how.entry }) slot_long.marks
        ∙ (g.does (measure_of i.graph.now.weights)).does (index_in i) refl h)

-- ---- all slots of a chunk
pub record FilledUpTo (bytes slots : List ℕ) (i₀ i : Inserter) (k : ℕ) : Type 0 where
  pub goes : fill_all store_ops (index_in i) (fillings_from i₀.graph.now.dim bytes slots k (length slots - k))
      ≡ fill_all store_ops (index_in i₀) (fillings_from i₀.graph.now.dim bytes slots 0 (length slots))
  pub bound : k ≤ length slots
  pub same : SameInserter i₀ i

module _ {i₀ : Inserter} {bytes slots : List ℕ} (o : Fillable i₀.graph.now.dim (length i₀.graph.now.marks.now) bytes slots) {i : Inserter} {k : ℕ}
    (f : FilledUpTo bytes slots i₀ i k) (h : k < length slots) where
  module _ {s : ℕ} (e : s ≡ get_or slots k 0) {v : List ℕ} (q : v ≡ part i₀.graph.now.dim k bytes) where
    pub filled_more : {i' : Inserter} → Inserted i (store_ops.fill (index_in i) s v) i' → FilledUpTo bytes slots i₀ i' (k + 1)
    unfolding fillings_from
    filled_more g =
        let dim = i₀.graph.now.dim in
        let z : length slots - k ≡ suc (length slots - (k + 1)) = omega arith in
        let y : k + 1 ≡ suc k = omega arith in
        let was = rw z at f.goes in
        let x : store_ops.fill (index_in i) s v ≡ store_ops.fill (index_in i) (get_or slots k 0) (part dim k bytes) = rw (e, q) in
        record {
          goes = ap (λ (b : Store). fill_all store_ops b (fillings_from dim bytes slots (k + 1) (length slots - (k + 1)))) (g.index ∙ x) ∙ rw y (rw y at was);
          bound = omega arith;
          same = inserter_then f.same g.same;
        }

pub filled_done : {bytes slots : List ℕ} {i₀ i : Inserter} {k : ℕ} → FilledUpTo bytes slots i₀ i k → length slots ≤ k
    → Inserted i₀ (fill_all store_ops (index_in i₀) (chunk_of i₀.graph.now.dim bytes slots)) i
unfolding fillings_from
filled_done {slots = slots} {k = k} f h = let z : length slots - k ≡ 0 = omega arith in record { index = rw z at f.goes; same = f.same }
