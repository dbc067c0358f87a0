-- A mark, a version or a vector that is written: shapes are kept, and what is read then. Assumes nothing.
use Rattle.std.proofs.Common.{◌≡◌, ℕ, ◌+◌, ◌*◌, ◌<◌, ◌≤◌, Bool, true, false, cond, not, eqb, List, length, get_or, set, refl, ap, ◌∙◌, length-set, get_or-set_other, get_or-set_same, eqb-true}
use borrow.Author.Tests.{eqb-false}
use Rattle.lists.proofs.Parts.{fits_in, length_put, part_put}
use Rattle.slots.specs.Store.{Arrays, Shaped, is_valid, vector_of, write_vector, set_mark, next_version}

-- ---- marks

pub valid_set : (marks : List ℕ) (s mark : ℕ) → s < length marks → (t : ℕ) → is_valid (set marks s mark) t ≡ cond (eqb t s) (not (eqb mark 0)) (is_valid marks t)
unfolding is_valid
valid_set marks s mark h t = go (eqb t s) refl
  where
    go : (q : Bool) → eqb t s ≡ q → not (eqb (get_or (set marks s mark) t 0) 0) ≡ cond q (not (eqb mark 0)) (not (eqb (get_or marks t 0) 0))
    go true e = ap (λ k. not (eqb k 0)) (ap (λ j. get_or (set marks s mark) j 0) (eqb-true t s e) ∙ get_or-set_same marks s mark 0 h)
    go false e = ap (λ k. not (eqb k 0)) (get_or-set_other marks s t mark 0 (eqb-false t s e))

module _ (n : ℕ) (a : Arrays) (f : Shaped n a) (s : ℕ) where
  pub shaped_marked : (mark : ℕ) → Shaped n (set_mark a s mark)
  unfolding set_mark
  shaped_marked mark = record {
    vectors_long = f.vectors_long;
    targets_long = f.targets_long;
    edges_long = f.edges_long;
    versions_long = f.versions_long;
    marks_long = length-set a.marks s mark ∙ f.marks_long;
  }

  -- ---- versions

  pub shaped_stepped : Shaped n (next_version a s)
  unfolding next_version
  shaped_stepped = record {
    vectors_long = f.vectors_long;
    targets_long = f.targets_long;
    edges_long = f.edges_long;
    versions_long = length-set a.versions s _ ∙ f.versions_long;
    marks_long = f.marks_long;
  }

-- ---- vectors

module _ (n : ℕ) (a : Arrays) (f : Shaped n a) (s : ℕ) (h : s < n) where
  pub vector_fits : s * a.dim + a.dim ≤ length a.vectors
  vector_fits = fits_in a.dim n s (length a.vectors) h f.vectors_long

  pub shaped_vector : (vector : List ℕ) → length vector ≡ a.dim → Shaped n (write_vector a s vector)
  unfolding write_vector
  shaped_vector vector l = record {
    vectors_long = length_put a.dim s vector a.vectors l vector_fits ∙ f.vectors_long;
    targets_long = f.targets_long;
    edges_long = f.edges_long;
    versions_long = f.versions_long;
    marks_long = f.marks_long;
  }

  pub vector_written : (vector : List ℕ) → length vector ≡ a.dim → (t : ℕ) → vector_of (write_vector a s vector) t ≡ cond (eqb t s) vector (vector_of a t)
  unfolding vector_of write_vector
  vector_written vector l t = part_put a.dim s vector a.vectors l vector_fits t
