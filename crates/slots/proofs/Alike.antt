-- Two views that differ only in the vectors of dead slots (`Alike`): the distances of live slots are equal. Assumes nothing.
use Rattle.std.proofs.Common.{◌≡◌, ℕ, ◌<◌, Bool, true, false, cond, eqb, ltb, List, [], ◌∷◌, length, sym, refl, ap, ap₂, ◌∙◌, true≢false, ltb-true}
use mathlib.Core.Path.{subst}
use Rattle.std.specs.Prelude.{slice_set}
use Rattle.lists.specs.Lists.{part, put_part}
use Rattle.vectors.specs.Space.{slot_distance, query_distance}
use Rattle.slots.specs.View.{View, with_vectors, Alike}
use Rattle.slots.specs.Ops.{Ops, Row, write_rows}
use Rattle.slots.specs.Store.{Arrays, arrays, Shaped, Store, is_valid, vector_of, refs_of, store_view}
use Rattle.slots.specs.Store.{write_neighbors, write_vector, set_mark, next_version, filled, finished, with_arrays, at_slot, store_ops}
use Rattle.slots.proofs.Written.{shaped_written}
use Rattle.slots.proofs.Changes.{valid_set, shaped_marked, shaped_stepped, shaped_vector, vector_written}

-- what holds of a view with any vectors and entry that stay where the slots are live
pub by_alike : (v v' : View) → Alike v v' → (P : View → Type 0)
    → ((vector : ℕ → List ℕ) (entry : ℕ) → ((s : ℕ) → v.live s ≡ true → vector s ≡ v.space.vector s) → ((s : ℕ) → v.live s ≡ true → entry ≡ v.entry)
    → P (with_vectors v vector entry))
    → P v'
by_alike v v' a P f = subst P (sym a.others) (f v'.space.vector v'.entry a.vectors a.entry)

module _ (v : View) (vector : ℕ → List ℕ) (entry : ℕ) (same : (s : ℕ) → v.live s ≡ true → vector s ≡ v.space.vector s) where
  abbrev pub other : View
  other = with_vectors v vector entry

  pub same_distance : (s t : ℕ) → v.live s ≡ true → v.live t ≡ true → slot_distance v.space s t ≡ slot_distance other.space s t
  unfolding slot_distance
  same_distance s t h k = ap₂ v.space.measure (sym (same s h)) (sym (same t k))

  pub same_query : (query : List ℕ) (s : ℕ) → v.live s ≡ true → query_distance v.space query s ≡ query_distance other.space query s
  unfolding query_distance
  same_query query s h = ap (v.space.measure query) (sym (same s h))

-- ---- what the operations keep of two indexes

-- `Twin b b'` says that the views of b and b' are alike, and as much more as the operations need to keep it
module _ {B : Type 0} (O : Ops B) (Twin : B → B → Type 0) where
  pub record Twins : Type 0 where
    pub shows : (b b' : B) → Twin b b' → Alike (O.view b) (O.view b')
    pub fills : (b b' : B) → Twin b b' → (O.view b').entry ≡ (O.view b).entry → (s : ℕ) (vector : List ℕ) → length vector ≡ (O.view b).sizes.dim
        → Twin (O.fill b s vector) (O.fill b' s vector)
    pub writes : (b b' : B) → Twin b b' → (s : ℕ) (ids : List ℕ) → Twin (O.write b s ids) (O.write b' s ids)
    pub kills : (b b' : B) → Twin b b' → (s : ℕ) → Twin (O.kill b s) (O.kill b' s)
    pub enters : (b b' : B) → Twin b b' → (e e' : ℕ) → ((s : ℕ) → (O.view b).live s ≡ true → e' ≡ e) → Twin (O.enter b e) (O.enter b' e')
    pub finishes : (b b' : B) → Twin b b' → (s : ℕ) → Twin (O.finish b s) (O.finish b' s)

module _ {B : Type 0} (O : Ops B) (Twin : B → B → Type 0) (t : Twins O Twin) where
  pub twin_rows : (b b' : B) → Twin b b' → (rows : List Row) → Twin (write_rows O b rows) (write_rows O b' rows)
  twin_rows b b' w [] = w
  twin_rows b b' w (r ∷ rows) = twin_rows (O.write b r.source r.targets) (O.write b' r.source r.targets) (t.writes b b' w r.source r.targets) rows

-- ---- the stored index

-- with other vectors and another entry
abbrev pub store_with : Store → List ℕ → ℕ → Store
store_with b vectors entry =
    let a = b.arrays in
    record { arrays = arrays a.measure a.dim a.degree vectors a.targets a.edges a.versions a.marks; capacity = b.capacity; alpha = b.alpha; entry = entry }

pub record StoreTwin (b b' : Store) : Type 0 where
  pub shaped : Shaped b.capacity b.arrays
  pub others : b' ≡ store_with b b'.arrays.vectors b'.entry
  pub long : length b'.arrays.vectors ≡ length b.arrays.vectors
  pub vectors : (s : ℕ) → is_valid b.arrays.marks s ≡ true → part b.arrays.dim s b'.arrays.vectors ≡ part b.arrays.dim s b.arrays.vectors
  pub entry : (s : ℕ) → is_valid b.arrays.marks s ≡ true → b'.entry ≡ b.entry

-- other vectors and another entry for a shaped index, equal where slots are live
record Other (b : Store) (vectors : List ℕ) (entry : ℕ) : Type 0 where
  shaped : Shaped b.capacity b.arrays
  long : length vectors ≡ length b.arrays.vectors
  same : (s : ℕ) → is_valid b.arrays.marks s ≡ true → part b.arrays.dim s vectors ≡ part b.arrays.dim s b.arrays.vectors
  entered : (s : ℕ) → is_valid b.arrays.marks s ≡ true → entry ≡ b.entry

other_twin : (b : Store) (vectors : List ℕ) (entry : ℕ) → Other b vectors entry → StoreTwin b (store_with b vectors entry)
other_twin b vectors entry o = record { shaped = o.shaped; others = refl; long = o.long; vectors = o.same; entry = o.entered }

by_twin : (b b' : Store) → StoreTwin b b' → (P : Store → Type 0)
    → ((vectors : List ℕ) (entry : ℕ) → Other b vectors entry → P (store_with b vectors entry)) → P b'
by_twin b b' t P f = subst P (sym t.others) (f b'.arrays.vectors b'.entry (record { shaped = t.shaped; long = t.long; same = t.vectors; entered = t.entry }))

module _ (b : Store) (vectors : List ℕ) (entry : ℕ) (o : Other b vectors entry) where
  abbrev b' : Store
  b' = store_with b vectors entry

  other_shaped : Shaped b.capacity b'.arrays
  other_shaped = record {
    vectors_long = o.long ∙ o.shaped.vectors_long;
    targets_long = o.shaped.targets_long;
    edges_long = o.shaped.edges_long;
    versions_long = o.shaped.versions_long;
    marks_long = o.shaped.marks_long;
  }

  -- at a slot inside, and at one outside
  twin_slot : (s : ℕ) (a a' : Arrays) → (s < b.capacity → StoreTwin (with_arrays b a) (with_arrays b' a')) → StoreTwin (at_slot b s a) (at_slot b' s a')
  twin_slot s a a' f = go (ltb s b.capacity) refl
    where
      go : (q : Bool) → ltb s b.capacity ≡ q → StoreTwin (cond q (with_arrays b a) b) (cond q (with_arrays b' a') b')
      go true e = f (ltb-true s b.capacity e)
      go false e = other_twin b vectors entry o

  twin_write : (s : ℕ) (ids : List ℕ) → StoreTwin (store_ops.write b s ids) (store_ops.write b' s ids)
  unfolding store_ops write_neighbors
  twin_write s ids =
      twin_slot s (write_neighbors b.arrays s ids) (write_neighbors b'.arrays s ids)
      (λ h. other_twin (with_arrays b (write_neighbors b.arrays s ids)) vectors entry (record {
        shaped = shaped_written b.capacity b.arrays o.shaped s h ids;
        long = o.long;
        same = o.same;
        entered = o.entered;
      }))

  twin_finish : (s : ℕ) → StoreTwin (store_ops.finish b s) (store_ops.finish b' s)
  unfolding store_ops write_neighbors next_version
  twin_finish s =
      twin_slot s (finished b.arrays s) (finished b'.arrays s)
      (λ h. other_twin (with_arrays b (finished b.arrays s)) vectors entry (record {
        shaped = shaped_written b.capacity (next_version b.arrays s) (shaped_stepped b.capacity b.arrays o.shaped s) s h [];
        long = o.long;
        same = o.same;
        entered = o.entered;
      }))

  twin_kill : (s : ℕ) → StoreTwin (store_ops.kill b s) (store_ops.kill b' s)
  unfolding store_ops set_mark
  twin_kill s =
      twin_slot s (set_mark b.arrays s 0) (set_mark b'.arrays s 0)
      (λ h.
      let was : (t : ℕ) → is_valid (slice_set b.arrays.marks s 0) t ≡ true → is_valid b.arrays.marks t ≡ true =
      λ t e. go (eqb t s) (is_valid b.arrays.marks t) (sym (valid_set b.arrays.marks s 0 (rw o.shaped.marks_long h) t) ∙ e) in
      other_twin (with_arrays b (set_mark b.arrays s 0)) vectors entry (record {
        shaped = shaped_marked b.capacity b.arrays o.shaped s 0;
        long = o.long;
        same = λ t e. o.same t (was t e);
        entered = λ t e. o.entered t (was t e);
      }))
    where
      go : (q r : Bool) → cond q false r ≡ true → r ≡ true
      go true r e = absurd (true≢false (sym e))
      go false r e = e

  twin_enter : (e e' : ℕ) → ((s : ℕ) → is_valid b.arrays.marks s ≡ true → e' ≡ e) → StoreTwin (store_ops.enter b e) (store_ops.enter b' e')
  unfolding store_ops
  twin_enter e e' h =
      other_twin (store_ops.enter b e) vectors e' (record { shaped = o.shaped; long = o.long; same = o.same; entered = h })

  -- the vector written is in both, the others are as they were
  filled_same : (s : ℕ) → s < b.capacity → (vector : List ℕ) → length vector ≡ b.arrays.dim → (t : ℕ) → cond (eqb t s) true (is_valid b.arrays.marks t) ≡ true
      → part b.arrays.dim t (put_part b.arrays.dim s vector vectors) ≡ part b.arrays.dim t (put_part b.arrays.dim s vector b.arrays.vectors)
  unfolding vector_of write_vector
  filled_same s h vector l t e =
      vector_written b.capacity b'.arrays other_shaped s h vector l t ∙ go (eqb t s) e ∙ sym (vector_written b.capacity b.arrays o.shaped s h vector l t)
    where
      go : (q : Bool) → cond q true (is_valid b.arrays.marks t) ≡ true
          → cond q vector (part b.arrays.dim t vectors) ≡ cond q vector (part b.arrays.dim t b.arrays.vectors)
      go true e = refl
      go false e = o.same t e

  twin_fill : entry ≡ b.entry → (s : ℕ) (vector : List ℕ) → length vector ≡ b.arrays.dim → StoreTwin (store_ops.fill b s vector) (store_ops.fill b' s vector)
  unfolding store_ops set_mark write_neighbors write_vector
  twin_fill same s vector l =
      twin_slot s (filled b.arrays s vector) (filled b'.arrays s vector)
      (λ h.
      let a = write_vector b.arrays s vector in
      let shaped = shaped_vector b.capacity b.arrays o.shaped s h vector l in
      let shaped' = shaped_vector b.capacity b'.arrays other_shaped s h vector l in
      other_twin (with_arrays b (filled b.arrays s vector)) (put_part b.arrays.dim s vector vectors) entry (record {
        shaped = shaped_marked b.capacity (write_neighbors a s []) (shaped_written b.capacity a shaped s h []) s 1;
        long = shaped'.vectors_long ∙ sym shaped.vectors_long;
        same = λ t e. filled_same s h vector l t (sym (valid_set b.arrays.marks s 1 (rw o.shaped.marks_long h) t) ∙ e);
        entered = λ t e. same;
      }))

  other_alike : Alike (store_view b) (store_view b')
  unfolding store_view vector_of refs_of
  other_alike = record { others = refl; vectors = o.same; entry = o.entered }

pub store_twins : Twins store_ops StoreTwin
unfolding store_ops store_view
store_twins = record {
  shows = λ b b' t. by_twin b b' t (λ x. Alike (store_view b) (store_view x)) (λ vs e o. other_alike b vs e o);
  fills = λ b b' t same s vector l.
      (by_twin b b' t (λ x. x.entry ≡ b.entry → StoreTwin (store_ops.fill b s vector) (store_ops.fill x s vector))
      (λ vs e o same. twin_fill b vs e o same s vector l)) same;
  writes = λ b b' t s ids. by_twin b b' t (λ x. StoreTwin (store_ops.write b s ids) (store_ops.write x s ids)) (λ vs e o. twin_write b vs e o s ids);
  kills = λ b b' t s. by_twin b b' t (λ x. StoreTwin (store_ops.kill b s) (store_ops.kill x s)) (λ vs e o. twin_kill b vs e o s);
  enters = λ b b' t f f' h. by_twin b b' t (λ x. StoreTwin (store_ops.enter b f) (store_ops.enter x f')) (λ vs e o. twin_enter b vs e o f f' h);
  finishes = λ b b' t s. by_twin b b' t (λ x. StoreTwin (store_ops.finish b s) (store_ops.finish x s)) (λ vs e o. twin_finish b vs e o s);
}
