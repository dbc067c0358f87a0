-- What is lent of an array.
use Rattle.std.specs.Prelude.{List, ℕ, length, take, min}

-- the start of an array, as far as it is lent
abbrev pub lent_of : {A : Type 0} → ℕ → List A → List A
lent_of lent array = take (min lent (length array)) array
