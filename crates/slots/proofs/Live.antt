-- The live slots: as many as are not free, and what each operation of `Ops` does to their marks, of the stored index and of the plain one; and what it does to
-- the entry, of the stored index. Assumes nothing.
use Rattle.std.proofs.Common.{◌≡◌, ℕ, ◌+◌, ◌<◌, Bool, true, false, cond, ◌&&◌, eqb, ltb, List, [], ◌∷◌, length, sym, refl, ◌∙◌}
use Rattle.std.proofs.Common.{true≢false, arith, length-set, ltb-true, eqb-true}
use Rattle.lists.specs.Lists.{range}
use Rattle.lists.proofs.Filtered.{count_both, count_without}
use Rattle.lists.proofs.Ranges.{length_range, times_once}
use Rattle.slots.specs.View.{View, live_slots, free_slots}
use Rattle.slots.specs.Ops.{Ops, Row, write_rows}
use Rattle.slots.specs.Store.{Arrays, Store, is_valid, store_view, write_neighbors, write_vector}
use Rattle.slots.specs.Store.{set_mark, next_version, filled, finished, with_arrays, at_slot, store_ops}
use Rattle.slots.specs.Plain.{at, plain_ops}
use Rattle.slots.proofs.Changes.{valid_set}
use Rattle.slots.proofs.Places.{live_inside}

-- ---- each slot is live or free

pub live_and_free : (v : View) → length (live_slots v) + length (free_slots v) ≡ v.sizes.capacity
live_and_free v = count_both v.live (range 0 v.sizes.capacity) ∙ length_range 0 v.sizes.capacity

-- a live slot is counted
pub some_live : (v : View) (s : ℕ) → v.live s ≡ true → s < v.sizes.capacity → 0 < length (live_slots v)
some_live v s h i = omega (arith, count_without v.live s h (range 0 v.sizes.capacity), times_once s 0 v.sizes.capacity (omega arith) (omega arith))

pub none_live : (v : View) → ((s : ℕ) → v.live s ≡ true → s < v.sizes.capacity) → length (live_slots v) ≡ 0 → (s : ℕ) → v.live s ≡ true → ⊥
none_live v inside e s h = omega (arith, some_live v s h (inside s h))

-- ---- of any index; `Fit b` says that no slot outside b is live

module _ {B : Type 0} (O : Ops B) (Fit : B → Type 0) where
  -- b' has the sizes of b, and these marks
  pub record Marked (b : B) (marks : ℕ → Bool) (b' : B) : Type 0 where
    pub fits : Fit b'
    pub sizes : (O.view b').sizes ≡ (O.view b).sizes
    pub live : (O.view b').live ≡ marks

  -- a slot that is filled is live, one that is killed is dead; nothing else changes a mark
  pub record Marking : Type 0 where
    pub inside : (b : B) → Fit b → (s : ℕ) → (O.view b).live s ≡ true → s < (O.view b).sizes.capacity
    pub fills : (b : B) → Fit b → (s : ℕ) (vector : List ℕ) → Marked b (at (O.view b).sizes.capacity (O.view b).live s true) (O.fill b s vector)
    pub writes : (b : B) → Fit b → (s : ℕ) (ids : List ℕ) → Marked b (O.view b).live (O.write b s ids)
    pub kills : (b : B) → Fit b → (s : ℕ) → Marked b (at (O.view b).sizes.capacity (O.view b).live s false) (O.kill b s)
    pub enters : (b : B) → Fit b → (e : ℕ) → Marked b (O.view b).live (O.enter b e)
    pub finishes : (b : B) → Fit b → (s : ℕ) → Marked b (O.view b).live (O.finish b s)

module _ {B : Type 0} (O : Ops B) where
  -- the entry is what was entered last: nothing else changes it
  pub record EntryLaws : Type 0 where
    pub fills : (b : B) (s : ℕ) (vector : List ℕ) → (O.view (O.fill b s vector)).entry ≡ (O.view b).entry
    pub writes : (b : B) (s : ℕ) (ids : List ℕ) → (O.view (O.write b s ids)).entry ≡ (O.view b).entry
    pub kills : (b : B) (s : ℕ) → (O.view (O.kill b s)).entry ≡ (O.view b).entry
    pub enters : (b : B) (e : ℕ) → (O.view (O.enter b e)).entry ≡ e
    pub finishes : (b : B) (s : ℕ) → (O.view (O.finish b s)).entry ≡ (O.view b).entry

module _ {B : Type 0} (O : Ops B) (n : EntryLaws O) where
  pub rows_entry : (rows : List Row) (b : B) → (O.view (write_rows O b rows)).entry ≡ (O.view b).entry
  rows_entry [] b = refl
  rows_entry (r ∷ rs) b = rows_entry rs (O.write b r.source r.targets) ∙ n.writes b r.source r.targets

-- ---- the plain index

abbrev pub LiveInside : View → Type 0
LiveInside v = (s : ℕ) → v.live s ≡ true → s < v.sizes.capacity

module _ (v : View) (h : LiveInside v) (s : ℕ) where
  filled_inside : (t : ℕ) → at v.sizes.capacity v.live s true t ≡ true → t < v.sizes.capacity
  filled_inside t = go (ltb s v.sizes.capacity) (eqb t s) refl refl
    where
      go : (q p : Bool) → ltb s v.sizes.capacity ≡ q → eqb t s ≡ p → cond (q && p) true (v.live t) ≡ true → t < v.sizes.capacity
      go true true e f g = rw (eqb-true t s f) (ltb-true s v.sizes.capacity e)
      go true false e f g = h t g
      go false p e f g = h t g

  killed_inside : (t : ℕ) → at v.sizes.capacity v.live s false t ≡ true → t < v.sizes.capacity
  killed_inside t = go (ltb s v.sizes.capacity && eqb t s)
    where
      go : (q : Bool) → cond q false (v.live t) ≡ true → t < v.sizes.capacity
      go true g = absurd (true≢false (sym g))
      go false g = h t g

pub plain_marking : Marking plain_ops LiveInside
unfolding plain_ops
plain_marking = record {
  inside = λ b h. h;
  fills = λ b h s vector. record { fits = filled_inside b h s; sizes = refl; live = refl };
  writes = λ b h s ids. record { fits = h; sizes = refl; live = refl };
  kills = λ b h s. record { fits = killed_inside b h s; sizes = refl; live = refl };
  enters = λ b h e. record { fits = h; sizes = refl; live = refl };
  finishes = λ b h s. record { fits = h; sizes = refl; live = refl };
}

-- ---- the stored index: as many marks as slots

abbrev pub MarksFit : Store → Type 0
MarksFit b = length b.arrays.marks ≡ b.capacity

-- a mark that is set
module _ (b : Store) (h : MarksFit b) (s : ℕ) where
  store_fills : (vector : List ℕ) → Marked store_ops MarksFit b (at b.capacity (is_valid b.arrays.marks) s true) (store_ops.fill b s vector)
  unfolding store_ops store_view set_mark write_neighbors write_vector
  store_fills vector = go (ltb s b.capacity) refl
    where
      go : (q : Bool) → ltb s b.capacity ≡ q
          → Marked store_ops MarksFit b (λ t. cond (q && eqb t s) true (is_valid b.arrays.marks t)) (cond q (with_arrays b (filled b.arrays s vector)) b)
      go true e = record {
        fits = length-set b.arrays.marks s 1 ∙ h;
        sizes = refl;
        live = λ i t. valid_set b.arrays.marks s 1 (rw h (ltb-true s b.capacity e)) t i;
      }
      go false e = record { fits = h; sizes = refl; live = refl }

  store_kills : Marked store_ops MarksFit b (at b.capacity (is_valid b.arrays.marks) s false) (store_ops.kill b s)
  unfolding store_ops store_view set_mark
  store_kills = go (ltb s b.capacity) refl
    where
      go : (q : Bool) → ltb s b.capacity ≡ q
          → Marked store_ops MarksFit b (λ t. cond (q && eqb t s) false (is_valid b.arrays.marks t)) (cond q (with_arrays b (set_mark b.arrays s 0)) b)
      go true e = record {
        fits = length-set b.arrays.marks s 0 ∙ h;
        sizes = refl;
        live = λ i t. valid_set b.arrays.marks s 0 (rw h (ltb-true s b.capacity e)) t i;
      }
      go false e = record { fits = h; sizes = refl; live = refl }

  -- none is set
  store_writes : (ids : List ℕ) → Marked store_ops MarksFit b (is_valid b.arrays.marks) (store_ops.write b s ids)
  unfolding store_ops store_view write_neighbors
  store_writes ids = go (ltb s b.capacity)
    where
      go : (q : Bool) → Marked store_ops MarksFit b (is_valid b.arrays.marks) (cond q (with_arrays b (write_neighbors b.arrays s ids)) b)
      go true = record { fits = h; sizes = refl; live = refl }
      go false = record { fits = h; sizes = refl; live = refl }

  store_finishes : Marked store_ops MarksFit b (is_valid b.arrays.marks) (store_ops.finish b s)
  unfolding store_ops store_view write_neighbors next_version
  store_finishes = go (ltb s b.capacity)
    where
      go : (q : Bool) → Marked store_ops MarksFit b (is_valid b.arrays.marks) (cond q (with_arrays b (finished b.arrays s)) b)
      go true = record { fits = h; sizes = refl; live = refl }
      go false = record { fits = h; sizes = refl; live = refl }

pub store_marking : Marking store_ops MarksFit
unfolding store_ops store_view
store_marking = record {
  inside = λ b h s e. rw (← h) (live_inside b.arrays.marks s e);
  fills = λ b h s vector. store_fills b h s vector;
  writes = λ b h s ids. store_writes b h s ids;
  kills = λ b h s. store_kills b h s;
  enters = λ b h e. record { fits = h; sizes = refl; live = refl };
  finishes = λ b h s. store_finishes b h s;
}

-- a change at a slot leaves the entry
slot_entry : (b : Store) (s : ℕ) (a : Arrays) → (at_slot b s a).entry ≡ b.entry
slot_entry b s a = go (ltb s b.capacity)
  where
    go : (q : Bool) → (cond q (with_arrays b a) b).entry ≡ b.entry
    go true = refl
    go false = refl

pub store_entry_laws : EntryLaws store_ops
unfolding store_ops store_view
store_entry_laws = record {
  fills = λ b s vector. slot_entry b s (filled b.arrays s vector);
  writes = λ b s ids. slot_entry b s (write_neighbors b.arrays s ids);
  kills = λ b s. slot_entry b s (set_mark b.arrays s 0);
  enters = λ b e. refl;
  finishes = λ b s. slot_entry b s (finished b.arrays s);
}
