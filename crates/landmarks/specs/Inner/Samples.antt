-- The sample that landmarks are chosen from, over tests of slots instead of a view, and what the functions that take it ask and leave. Assumes nothing.
use Rattle.std.specs.Prelude.{ℕ, ◌+◌, ◌*◌, ◌%◌, ◌/◌, max, ◌≤◌, Bool, true, false, not, ◌&&◌, cond, List, [], ◌∷◌, ◌++◌, ◌≡◌, length, eqb, ltb}
use Rattle.lists.specs.Lists.{filter, elem, range}
use Rattle.candidates.specs.Candidates.{scored}
use Rattle.candidates.specs.Inner.Words.{cands}
use Rattle.slots.specs.Store.{blank, is_valid}
use Rattle.landmarks.specs.declared.sample.Free.{Free}

-- slot s is live and none of the ids
abbrev pub remains : List ℕ → List ℕ → ℕ → Bool
remains marks ids s = is_valid marks s && not (elem s ids)

-- slot s stays and is no reference
abbrev pub free : (ℕ → Bool) → List ℕ → ℕ → Bool
free stays references s = stays s && not (elem s references)

-- those that a sample is taken of
abbrev pub free_of : Free → ℕ → Bool
free_of f = free (remains f.marks.now f.ids.now) (f.entry ∷ f.kept.now)

-- slot s is one of a stride, or one of the others
abbrev pub on_stride : ℕ → Bool → ℕ → Bool
on_stride stride others s = cond others (not (eqb (s % stride) 0)) (eqb (s % stride) 0)

abbrev pub sampled : ℕ → Bool → (ℕ → Bool) → ℕ → Bool
sampled stride others free s = on_stride stride others s && free s

abbrev pub stride_of : ℕ → ℕ → ℕ
stride_of capacity sample = max 1 (capacity / sample)

-- `sample` of the guard's definitions
unfoldable pub sample_by : (ℕ → Bool) → ℕ → ℕ → ℕ → List ℕ
sample_by free capacity stride wanted =
    let strided = filter (sampled stride false free) (range 0 capacity) in
    strided ++ cond (ltb (length strided) wanted) (filter (sampled stride true free) (range 0 capacity)) []

-- a sampled slot's distance before there is a reference: greater than any distance
abbrev pub far : ℕ → ℕ
far s = blank

-- words for the sample, whose other slots are taken where fewer than 1,024 are strided
abbrev pub sample_words : ℕ → ℕ
sample_words capacity = 2 * (1024 + capacity)

-- ---- what they leave
-- the r candidates are the slots with p
pub record Sampled (p : ℕ → Bool) (capacity : ℕ) (w w' : List ℕ) (r : ℕ) : Type 0 where
  pub list : cands w' 0 r ≡ scored far (filter p (range 0 capacity))
  pub within : r ≤ capacity
  pub size : length w' ≡ length w

-- the r candidates are the sample
pub record Taken (free : ℕ → Bool) (capacity stride wanted : ℕ) (w w' : List ℕ) (r : ℕ) : Type 0 where
  pub list : cands w' 0 r ≡ scored far (sample_by free capacity stride wanted)
  pub room : 2 * r ≤ length w
  pub size : length w' ≡ length w
