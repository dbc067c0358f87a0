-- Rows written one after the other: of two writes of one row the later one counts, writes of two rows go in either order, and another slot's row stays.
-- Assumes nothing.
use Rattle.std.proofs.Common.{◌≡◌, ℕ, ◌<◌, Bool, true, false, eqb, ltb, List, [], ◌∷◌, map, take, sym, refl, ap, ◌∙◌, true≢false, ltb-true, lt-ltb, eq-eqb, ne_eqb, eqb-true}
use borrow.Author.Tests.{eqb-false}
use Rattle.lists.specs.Lists.{filter, foldl, elem}
use Rattle.slots.specs.Ops.{Row}
use Rattle.slots.specs.View.{live_neighbors}
use Rattle.slots.specs.Plain.{other_than}
use Rattle.slots.specs.Store.{Shaped, Store, blank, is_valid, refs_of, store_view, store_ops, with_arrays, write_neighbors}
use Rattle.slots.proofs.Written.{shaped_written, refs_written, write_again, writes_swap, written_marks}

-- the slots of rows
abbrev pub sources : List Row → List ℕ
sources rs = map (λ r. r.source) rs

-- a store of rows, while Ok
pub record Writes {B : Type 0} (Ok : B → Type 0) (write : B → ℕ → List ℕ → B) : Type 0 where
  pub ok : (b : B) (s : ℕ) (x : List ℕ) → Ok b → Ok (write b s x)
  pub same : (b : B) (s : ℕ) (x y : List ℕ) → Ok b → write (write b s x) s y ≡ write b s y
  pub swap : (b : B) (s t : ℕ) (x y : List ℕ) → Ok b → (s ≡ t → ⊥) → write (write b s x) t y ≡ write (write b t y) s x

-- ---- rows written one after the other
module _ {B : Type 0} (Ok : B → Type 0) (write : B → ℕ → List ℕ → B) (w : Writes Ok write) where
  abbrev pub write_row : B → Row → B
  write_row b r = write b r.source r.targets

  -- a write before the row is written again does not count
  pub absorb : (b : B) (s : ℕ) (x : List ℕ) (rs : List Row) → Ok b → elem s (sources rs) ≡ true → foldl write_row (write b s x) rs ≡ foldl write_row b rs
  absorb b s x [] k e = absurd (true≢false (sym e))
  absorb b s x (r ∷ rs) k e = go (eqb s r.source) refl (λ (i : elem s (sources rs) ≡ true). absorb (write_row b r) s x rs (w.ok b r.source r.targets k) i)
    where
      go : (c : Bool) → eqb s r.source ≡ c → (elem s (sources rs) ≡ true → foldl write_row (write (write_row b r) s x) rs ≡ foldl write_row (write_row b r) rs)
          → foldl write_row (write b s x) (r ∷ rs) ≡ foldl write_row b (r ∷ rs)
      go true q i =
          let z : s ≡ r.source = eqb-true s r.source q in
          ap (λ (b : B). foldl write_row b rs) (rw z (w.same b r.source x r.targets k))
      go false q i = ap (λ (b : B). foldl write_row b rs) (w.swap b s r.source x r.targets k (eqb-false s r.source q)) ∙ i (rw q at e)

-- ---- the stored index, its slices in shape
abbrev pub Whole : Store → Type 0
Whole b = Shaped b.capacity b.arrays

abbrev rewritten : Store → ℕ → List ℕ → Store
rewritten b s x = with_arrays b (write_neighbors b.arrays s x)

write_in : (b : Store) (s : ℕ) (x : List ℕ) → ltb s b.capacity ≡ true → store_ops.write b s x ≡ rewritten b s x
unfolding store_ops
write_in b s x e = rw e

write_out : (b : Store) (s : ℕ) (x : List ℕ) → ltb s b.capacity ≡ false → store_ops.write b s x ≡ b
unfolding store_ops
write_out b s x e = rw e

-- what holds of a row written inside, and of the index as it was, holds after a write
pub after_write : (P : Store → Type 0) (b : Store) (s : ℕ) (x : List ℕ) → (s < b.capacity → P (with_arrays b (write_neighbors b.arrays s x))) → P b → P (store_ops.write b s x)
after_write P b s x f g = go (ltb s b.capacity) refl
  where
    go : (c : Bool) → ltb s b.capacity ≡ c → P (store_ops.write b s x)
    go true e = rw (write_in b s x e) (f (ltb-true s b.capacity e))
    go false e = rw (write_out b s x e) g

write_same : (b : Store) (s : ℕ) (x y : List ℕ) → Whole b → store_ops.write (store_ops.write b s x) s y ≡ store_ops.write b s y
write_same b s x y k = go (ltb s b.capacity) refl
  where
    go : (c : Bool) → ltb s b.capacity ≡ c → store_ops.write (store_ops.write b s x) s y ≡ store_ops.write b s y
    go true e =
        ap (λ (d : Store). store_ops.write d s y) (write_in b s x e) ∙ write_in (rewritten b s x) s y e
        ∙ ap (with_arrays b) (write_again b.capacity b.arrays k s (ltb-true s b.capacity e) x y)
        ∙ sym (write_in b s y e)
    go false e = ap (λ (d : Store). store_ops.write d s y) (write_out b s x e)

write_swap : (b : Store) (s t : ℕ) (x y : List ℕ) → Whole b → (s ≡ t → ⊥) → store_ops.write (store_ops.write b s x) t y ≡ store_ops.write (store_ops.write b t y) s x
write_swap b s t x y k n = go (ltb s b.capacity) refl (ltb t b.capacity) refl
  where
    go : (c : Bool) → ltb s b.capacity ≡ c → (g : Bool) → ltb t b.capacity ≡ g
        → store_ops.write (store_ops.write b s x) t y ≡ store_ops.write (store_ops.write b t y) s x
    go true e true f =
        ap (λ (d : Store). store_ops.write d t y) (write_in b s x e) ∙ write_in (rewritten b s x) t y f
        ∙ ap (with_arrays b) (writes_swap b.capacity b.arrays k s t (ltb-true s b.capacity e) (ltb-true t b.capacity f) n x y)
        ∙ sym (ap (λ (d : Store). store_ops.write d s x) (write_in b t y f) ∙ write_in (rewritten b t y) s x e)
    go true e false f =
        ap (λ (d : Store). store_ops.write d t y) (write_in b s x e) ∙ write_out (rewritten b s x) t y f ∙ sym (write_in b s x e)
        ∙ ap (λ (d : Store). store_ops.write d s x) (sym (write_out b t y f))
    go false e true f =
        ap (λ (d : Store). store_ops.write d t y) (write_out b s x e) ∙ write_in b t y f
        ∙ sym (ap (λ (d : Store). store_ops.write d s x) (write_in b t y f) ∙ write_out (rewritten b t y) s x e)
    go false e false f =
        ap (λ (d : Store). store_ops.write d t y) (write_out b s x e) ∙ write_out b t y f
        ∙ sym (ap (λ (d : Store). store_ops.write d s x) (write_out b t y f) ∙ write_out b s x e)

pub store_writes : Writes Whole store_ops.write
store_writes =
    record {
      ok = λ b s x k. after_write Whole b s x (λ h. shaped_written b.capacity b.arrays k s h x) k;
      same = write_same;
      swap = write_swap;
    }

-- another slot's live row stays
pub neighbors_kept : (b : Store) (s t : ℕ) (x : List ℕ) → Whole b → (s ≡ t → ⊥) → live_neighbors (store_view (store_ops.write b s x)) t ≡ live_neighbors (store_view b) t
neighbors_kept b s t x k n = after_write (λ d. live_neighbors (store_view d) t ≡ live_neighbors (store_view b) t) b s x inside refl
  where
    other : s < b.capacity → refs_of (write_neighbors b.arrays s x) t ≡ refs_of b.arrays t
    other h = refs_written b.capacity b.arrays k s h x t ∙ rw (ne_eqb t s (λ z. n (sym z)))

    inside : s < b.capacity → live_neighbors (store_view (rewritten b s x)) t ≡ live_neighbors (store_view b) t
    inside h = unfold store_view in
        ap (λ (m : List ℕ). filter (is_valid m) (refs_of (write_neighbors b.arrays s x) t)) (written_marks b.arrays s x)
        ∙ ap (filter (is_valid b.arrays.marks)) (other h)

-- a slot's own live row is what was written, as far as it fits, without blanks and dead slots
pub neighbors_written : (b : Store) (s : ℕ) (x : List ℕ) → Whole b → s < b.capacity
    → live_neighbors (store_view (store_ops.write b s x)) s ≡ filter (is_valid b.arrays.marks) (filter (other_than blank) (take b.arrays.degree x))
neighbors_written b s x k h = ap (λ (d : Store). live_neighbors (store_view d) s) (write_in b s x (lt-ltb s b.capacity h)) ∙ inside
  where
    own : refs_of (write_neighbors b.arrays s x) s ≡ filter (other_than blank) (take b.arrays.degree x)
    own = refs_written b.capacity b.arrays k s h x s ∙ rw (eq-eqb s s refl)

    inside : live_neighbors (store_view (rewritten b s x)) s ≡ filter (is_valid b.arrays.marks) (filter (other_than blank) (take b.arrays.degree x))
    inside = unfold store_view in
        ap (λ (m : List ℕ). filter (is_valid m) (refs_of (write_neighbors b.arrays s x) s)) (written_marks b.arrays s x)
        ∙ ap (filter (is_valid b.arrays.marks)) own
