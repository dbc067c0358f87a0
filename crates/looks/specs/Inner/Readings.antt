-- What lines have of calls that leave an index as it is.
use denote.Ref.{Bor}
use Rattle.std.specs.Prelude.{List, [], ◌∷◌, Option, Result, MatchResult, ℕ, ◌≡◌, ◌≤◌, take, true, pos, length, Float}
use Rattle.std.specs.List.{FoldsTo}
use Rattle.std.specs.Float.{binary32}
use Rattle.std.specs.Float.Ieee.{eq, of_int}
use Rattle.index.specs.Index.{sizes, words_for}
use Rattle.index.specs.Refusal.{number_of}
use Rattle.index.specs.declared.Refusal.{Refusal}
use Rattle.reading.specs.declared.Value.{Value}
use Rattle.text.specs.Inner.Text.{Reads, ReadsAll, Asks, Ended}
use Rattle.lines.specs.Inner.Answers.{Answered}
use Rattle.lines.specs.Inner.Prepared.{alpha_of}
use Rattle.lines.specs.declared.words.Looking.{Looking}

-- a value was read next of a line; an alpha as one that is equal to it
abbrev pub ValueRead : Option (Bor (List ℕ)) → Option (Bor (List ℕ)) → Value → Type 0
ValueRead old new (Value.Number n) = Reads old new n
ValueRead old new (Value.Alpha a) = (n : ℕ) × Reads old new n × (eq a (alpha_of n) ≡ true)
ValueRead old new (Value.Version v) = Reads old new v

-- an answer was read next of a line: the number of its refusal and any behind it, or 0 and a value
abbrev pub Answers : {A : Type 0} → (Option (Bor (List ℕ)) → Option (Bor (List ℕ)) → A → Type 0) → Option (Bor (List ℕ)) → Option (Bor (List ℕ)) → Result A Refusal → Type 0
Answers follows old new answer = MatchResult answer
    (λ x. (left : Option (Bor (List ℕ))) × Reads old left 0 × follows left new x)
    (λ refusal. (left : Option (Bor (List ℕ))) × (any : ℕ) × Reads old left (number_of refusal) × Reads left new any)

-- the length of a vector and its bytes were read next of a line
abbrev pub VectorRead : Option (Bor (List ℕ)) → Option (Bor (List ℕ)) → List ℕ → Type 0
VectorRead old new bytes = (left : Option (Bor (List ℕ))) × Reads old left (length bytes) × ReadsAll left new bytes

-- three sizes were read next of a line, and how many words of scratch they take
pub record SizeRead (old new : Option (Bor (List ℕ))) : Type 0 where
  pub dim : ℕ
  pub capacity : ℕ
  pub degree : ℕ
  pub left : Option (Bor (List ℕ))
  pub asked : ReadsAll old left (dim ∷ capacity ∷ degree ∷ [])
  pub answer : Result ℕ Refusal
  pub is : (alpha : Float) → answer ≡ words_for (sizes dim capacity degree alpha)
  pub read : Answers (λ from to n. Reads from to n) left new answer

-- what is read, a slot and a place were read next of a line, and an answer behind them
pub record ReadingRead (old new : Option (Bor (List ℕ))) : Type 0 where
  pub what : ℕ
  pub slot : ℕ
  pub place : ℕ
  pub left : Option (Bor (List ℕ))
  pub asked : ReadsAll old left (what ∷ slot ∷ place ∷ [])
  pub answer : Result Value Refusal
  pub read : Answers ValueRead left new answer

-- a slot was read next of a line, and a vector behind it
pub record VectorLine (old new : Option (Bor (List ℕ))) : Type 0 where
  pub slot : ℕ
  pub left : Option (Bor (List ℕ))
  pub asked : Reads old left slot
  pub bytes : List ℕ
  pub read : VectorRead left new bytes

-- the slots, distances and figure numbers of candidates were read next of a line, those of one behind another; a distance as a number that is equal to it
abbrev pub CandidatesRead : Option (Bor (List ℕ)) → Option (Bor (List ℕ)) → List ℕ → List Float → List ℕ → Type 0
CandidatesRead old new [] dists figures = old ≡ new
CandidatesRead old new (slot ∷ slots) [] figures = old ≡ new
CandidatesRead old new (slot ∷ slots) (dist ∷ dists) [] = old ≡ new
CandidatesRead old new (slot ∷ slots) (dist ∷ dists) (figure ∷ figures) = (named : Option (Bor (List ℕ))) × Reads old named slot × (measured : Option (Bor (List ℕ))) × (n : ℕ) × Reads named measured n × (eq dist (of_int binary32 (pos n)) ≡ true) × (left : Option (Bor (List ℕ))) × Reads measured left figure × CandidatesRead left new slots dists figures

-- n and the first n of the candidates found were read next of a line
pub record FoundRead (slots : List ℕ) (dists : List Float) (figures : List ℕ) (old new : Option (Bor (List ℕ))) (n : ℕ) : Type 0 where
  pub counted : Option (Bor (List ℕ))
  pub count : Reads old counted n
  pub room : n ≤ length slots
  pub candidates : CandidatesRead counted new (take n slots) dists figures

-- how many candidates a search gives at most, its beam and its query's length were read next of a line, and behind the query an answer
pub record SearchRead (old new : Option (Bor (List ℕ))) : Type 0 where
  pub k : ℕ
  pub beam : ℕ
  pub count : ℕ
  pub asked : Option (Bor (List ℕ))
  pub given : FoldsTo (λ from value to. Asks from to value) old (k ∷ beam ∷ count ∷ []) asked
  pub left : Option (Bor (List ℕ))
  pub answer : Result ℕ Refusal
  pub slots : List ℕ
  pub dists : List Float
  pub figures : List ℕ
  pub read : Answered (FoundRead slots dists figures) left new answer

-- what a line was read to be, to its end
abbrev pub Looks : Looking → Option (Bor (List ℕ)) → Option (Bor (List ℕ)) → Type 0
Looks Looking.Read old new = ReadingRead old new × Ended new
Looks Looking.Vector old new = VectorLine old new × Ended new
Looks Looking.Search old new = SearchRead old new × Ended new
Looks Looking.Words old new = SizeRead old new × Ended new
