-- The answer to a call, as a line has it.
use denote.Ref.{Bor}
use Rattle.std.specs.Prelude.{List, Option, Result, Ok, Err, MatchResult, ℕ}
use Rattle.index.specs.Refusal.{number_of}
use Rattle.index.specs.declared.Index.{Index}
use Rattle.index.specs.declared.Refusal.{Refusal}
use Rattle.text.specs.Inner.Text.{Reads}

-- an answer was read next of a line: the number of its refusal, or 0 and what follows
abbrev pub Answered : {A : Type 0} → (Option (Bor (List ℕ)) → Option (Bor (List ℕ)) → A → Type 0) → Option (Bor (List ℕ)) → Option (Bor (List ℕ)) → Result A Refusal → Type 0
Answered follows old new answer = MatchResult answer (λ x. (left : Option (Bor (List ℕ))) × Reads old left 0 × follows left new x) (λ refusal. Reads old new (number_of refusal))

-- the index that a call leaves: that of what it answers, or the former one where it is refused
abbrev pub index_left : {A : Type 0} → (A → Index) → Result A Refusal → Index → Index
index_left index_of (Ok x) before = index_of x
index_left index_of (Err refusal) before = before
