-- What the operations on lent slices do to the arrays, they do to every index that has them. Assumes nothing.
use Rattle.std.proofs.Common.{◌≡◌, ℕ, suc, ◌%◌, List, [], get_or, set, sym, refl, ap, ◌∙◌, arith, lt-ltb}
use Rattle.lists.specs.Lists.{put_part}
use Rattle.vectors.specs.Distance.{f32}
use Rattle.vectors.specs.Space.{Measure}
use Rattle.slots.specs.Store.{Arrays, arrays, Store, write_neighbors, write_vector, set_mark, next_version, filled, finished, with_arrays, at_slot, store_ops}
use Rattle.slots.specs.Inner.Writing.{Done, Filled, Wrote, Killed, Finished}

-- the examples are checked first, so that a wrong definition shows in one of them

module _ (s : ℕ) (g : Arrays → Arrays) {a a' : Arrays} where
  done_by : a' ≡ g a → Done (λ b. at_slot b s (g b.arrays)) s a a'
  done_by e = record { does = λ b q h. rw (lt-ltb s b.capacity h) (ap (with_arrays b) (e ∙ ap g (sym q))) }

  done_arrays : Done (λ b. at_slot b s (g b.arrays)) s a a' → a' ≡ g a
  done_arrays d =
      let b : Store = record { arrays = a; capacity = suc s; alpha = f32 1; entry = 0 } in
      ap (λ (b : Store). b.arrays) (rw (lt-ltb s (suc s) (omega arith)) at (d.does b refl (omega arith)))

-- ---- `write`

module _ {degree : ℕ} {targets edges versions : List ℕ} {s : ℕ} {ids targets' edges' : List ℕ} where
  pub wrote_by : ((measure : Measure) (dim : ℕ) (vectors marks : List ℕ) → arrays measure dim degree vectors targets' edges' versions marks ≡ write_neighbors (arrays measure dim degree vectors targets edges versions marks) s ids)
      → Wrote degree targets edges versions s ids targets' edges'
  unfolding store_ops
  wrote_by e = record { does = λ measure dim vectors marks. done_by s (λ a. write_neighbors a s ids) (e measure dim vectors marks) }

  pub wrote_arrays : Wrote degree targets edges versions s ids targets' edges' → (measure : Measure) (dim : ℕ) (vectors marks : List ℕ)
      → arrays measure dim degree vectors targets' edges' versions marks ≡ write_neighbors (arrays measure dim degree vectors targets edges versions marks) s ids
  unfolding store_ops
  wrote_arrays w measure dim vectors marks = done_arrays s (λ a. write_neighbors a s ids) (w.does measure dim vectors marks)

-- ---- `kill`

module _ {marks : List ℕ} {s : ℕ} {marks' : List ℕ} where
  pub killed_by : marks' ≡ set marks s 0 → Killed marks s marks'
  unfolding store_ops set_mark
  killed_by e = record { does = λ measure dim degree vectors targets edges versions. done_by s (λ a. set_mark a s 0) (ap (arrays measure dim degree vectors targets edges versions) e) }

  pub killed_marks : Killed marks s marks' → marks' ≡ set marks s 0
  unfolding store_ops set_mark
  killed_marks k = ap (λ (a : Arrays). a.marks) (done_arrays s (λ a. set_mark a s 0) (k.does (λ a b. 0) 0 0 [] [] [] []))

-- ---- `fill`: a vector, an empty row and a mark

module _ {dim degree : ℕ} {vectors targets edges versions marks : List ℕ} {s : ℕ} {vector vectors' targets' edges' marks' : List ℕ} where
  pub filled_by : vectors' ≡ put_part dim s vector vectors → Wrote degree targets edges versions s [] targets' edges' → marks' ≡ set marks s 1
      → Filled dim degree vectors targets edges versions marks s vector vectors' targets' edges' marks'
  unfolding store_ops write_vector write_neighbors set_mark
  filled_by v w m = record {
    does = λ measure. done_by s (λ a. filled a s vector)
        ((λ i. arrays measure dim degree (v i) targets' edges' versions (m i)) ∙ ap (λ b. set_mark b s 1) (wrote_arrays w measure dim (put_part dim s vector vectors) marks));
  }

  pub filled_arrays : Filled dim degree vectors targets edges versions marks s vector vectors' targets' edges' marks' → (measure : Measure)
      → arrays measure dim degree vectors' targets' edges' versions marks' ≡ filled (arrays measure dim degree vectors targets edges versions marks) s vector
  unfolding store_ops
  filled_arrays f measure = done_arrays s (λ a. filled a s vector) (f.does measure)

-- ---- `finish`: the next version, and an empty row

module _ {degree : ℕ} {targets edges versions : List ℕ} {s : ℕ} {targets' edges' versions' : List ℕ} where
  pub finished_by : versions' ≡ set versions s (suc (get_or versions s 0) % 65536) → Wrote degree targets edges versions' s [] targets' edges'
      → Finished degree targets edges versions s targets' edges' versions'
  unfolding store_ops next_version
  finished_by e w = record {
    does = λ measure dim vectors marks. done_by s (λ a. finished a s)
        (wrote_arrays w measure dim vectors marks ∙ (λ i. write_neighbors (arrays measure dim degree vectors targets edges (e i) marks) s []));
  }

  pub finished_arrays : Finished degree targets edges versions s targets' edges' versions' → (measure : Measure) (dim : ℕ) (vectors marks : List ℕ)
      → arrays measure dim degree vectors targets' edges' versions' marks ≡ finished (arrays measure dim degree vectors targets edges versions marks) s
  unfolding store_ops
  finished_arrays f measure dim vectors marks = done_arrays s (λ a. finished a s) (f.does measure dim vectors marks)
