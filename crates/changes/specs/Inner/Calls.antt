-- What lines have of calls that make or change an index.
use denote.Ref.{Bor}
use Rattle.std.specs.Prelude.{List, [], ◌∷◌, Option, Result, ℕ, ◌≤◌, ◌≡◌, length, take}
use Rattle.std.specs.List.{FoldsTo}
use Rattle.index.specs.declared.Index.{Index}
use Rattle.index.specs.declared.Refusal.{Refusal}
use Rattle.updating.specs.declared.Changed.{Changed}
use Rattle.updating.specs.declared.names.Naming.{Naming}
use Rattle.text.specs.Inner.Text.{Reads, ReadsAll, Asks, Ended}
use Rattle.lines.specs.declared.words.Changing.{Changing}
use Rattle.lines.specs.Inner.Answers.{Answered, index_left}
use Rattle.changes.specs.Inner.Deletes.{Asked, Emptied}

-- n and n slots were read next of a line, the first of these
pub record Filled (old new : Option (Bor (List ℕ))) (n : ℕ) (slots : List ℕ) : Type 0 where
  pub counted : Option (Bor (List ℕ))
  pub count : Reads old counted n
  pub room : n ≤ length slots
  pub filled : ReadsAll counted new (take n slots)

-- six numbers were read next of a line and an answer behind them, and the index is the one answered, or the former one
pub record Makes (old new : Option (Bor (List ℕ))) (before after : Index) : Type 0 where
  pub dim : ℕ
  pub capacity : ℕ
  pub degree : ℕ
  pub alpha : ℕ
  pub entry : ℕ
  pub count : ℕ
  pub left : Option (Bor (List ℕ))
  pub given : FoldsTo (λ from value to. Asks from to value) old (dim ∷ capacity ∷ degree ∷ alpha ∷ entry ∷ count ∷ []) left
  pub answer : Result Index Refusal
  pub read : Answered (λ from to index. from ≡ to) left new answer
  pub index : after ≡ index_left (λ index. index) answer before

-- the same of an insert's beam, and an answer with the slots filled
pub record Inserts (old new : Option (Bor (List ℕ))) (before after : Index) : Type 0 where
  pub beam : ℕ
  pub left : Option (Bor (List ℕ))
  pub given : Asks old left beam
  pub answer : Result Changed Refusal
  pub slots : List ℕ
  pub read : Answered (λ from to changed. Filled from to changed.count slots) left new answer
  pub index : after ≡ index_left (λ changed. changed.index) answer before

-- the same of what a delete asks for, and an answer with the stats of the slots emptied
pub record Deletes (old new : Option (Bor (List ℕ))) (before after : Index) : Type 0 where
  pub naming : Naming
  pub beam : ℕ
  pub degree : ℕ
  pub left : Option (Bor (List ℕ))
  pub given : Asked old left naming beam degree
  pub answer : Result Changed Refusal
  pub scratch : List ℕ
  pub read : Answered (λ from to changed. Emptied from to changed.count changed.index.capacity scratch) left new answer
  pub index : after ≡ index_left (λ changed. changed.index) answer before

-- what a line was read to be, to its end, and the index that it leaves
abbrev pub Changes : Changing → Option (Bor (List ℕ)) → Option (Bor (List ℕ)) → Index → Index → Type 0
Changes Changing.Make old new before after = Makes old new before after × Ended new
Changes Changing.Insert old new before after = Inserts old new before after × Ended new
Changes Changing.Delete old new before after = Deletes old new before after × Ended new
