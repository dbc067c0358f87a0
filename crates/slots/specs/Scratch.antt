-- The map of the scratch, in words of 32 bits: every call that takes scratch divides it so. Document 01, row 8. Assumes nothing.
use Rattle.std.specs.Prelude.{ℕ, ◌+◌}

-- `list`, from word 0 on: the walk's list, two words for each candidate
abbrev pub list_words : ℕ
list_words = 2048

-- `marks`: room for one word for each slot; a walk keeps its marks in the first sixteenth
abbrev pub marks_at : ℕ
marks_at = list_words

-- `work`: what insert, delete and the guard keep beside a walk
abbrev pub work_at : ℕ → ℕ
work_at capacity = marks_at + capacity

abbrev pub work_words : ℕ
work_words = 167936

-- the library's own size answer, by the capacity: all three regions
unfoldable pub size_answer : ℕ → ℕ
size_answer capacity = work_at capacity + work_words
