-- Numbers in a line of text, as lists of bytes.
use denote.Ref.{Bor}
use Rattle.std.specs.Prelude.{List, [], Option, MatchOption, IsSomeAnd, ◌≡◌, ℕ, ◌∷◌, ◌++◌, ◌≤◌, slice_index}
use Rattle.std.specs.List.{FoldsTo}
use Rattle.std.specs.Str.Parse.{IsNumeral, digits_value}

-- a byte is a digit
abbrev pub Digit : ℕ → Type 0
Digit byte = (48 ≤ byte) × (byte ≤ 57)

-- a blank and a number stand before the rest of what was left of a line, and this is the number's value
pub record Follows (before rest : List ℕ) (value : ℕ) : Type 0 where
  pub digits : List ℕ
  pub parts : before ≡ 32 ∷ (digits ++ rest)
  pub whole : ¬ Digit (slice_index rest 0)
  pub numeral : IsNumeral 10 digits
  pub is : value ≡ digits_value 10 digits

-- this number was read next of a line, of which that much was left before and after; none is left behind a number that is none
abbrev pub Reads : Option (Bor (List ℕ)) → Option (Bor (List ℕ)) → ℕ → Type 0
Reads old new value = IsSomeAnd old (λ before. IsSomeAnd new (λ rest. Follows before.now rest.now value))

-- these numbers were read next of a line, one behind the other
abbrev pub ReadsAll : Option (Bor (List ℕ)) → Option (Bor (List ℕ)) → List ℕ → Type 0
ReadsAll old new values = FoldsTo (λ before value rest. Reads before rest value) old values new

-- this is what a call is given where a number is read next: 0 where there is none
abbrev pub Asks : Option (Bor (List ℕ)) → Option (Bor (List ℕ)) → ℕ → Type 0
Asks old new value = MatchOption new (value ≡ 0) (λ _. Reads old new value)

-- every number of a line was read
abbrev pub Ended : Option (Bor (List ℕ)) → Type 0
Ended left = IsSomeAnd left (λ rest. rest.now ≡ [])
