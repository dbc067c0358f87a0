-- The refusals of the code, by the numbers of document 01's table and document 02's 15 and 16. Assumes nothing.
use Rattle.std.specs.Prelude.{ℕ, Result, Ok, Err}
use Rattle.std.proofs.Math.Option.{Option, none, some}
use Rattle.index.specs.declared.Refusal.{Refusal}
use Rattle.index.specs.declared.Refusal.TheVariants.{Sizes, Alpha, Lengths, Count, Names, Index, Limits, Scratch, Bytes, Full, GuardOff, NoneLive, NoLandmark, Numbers, Weights}

abbrev pub number_of : Refusal → ℕ
number_of Sizes = 1
number_of Alpha = 2
number_of Lengths = 3
number_of Count = 4
number_of Names = 5
number_of Index = 6
number_of Limits = 7
number_of Scratch = 8
number_of Bytes = 9
number_of Full = 10
number_of GuardOff = 11
number_of NoneLive = 12
number_of NoLandmark = 13
number_of Numbers = 15
number_of Weights = 16

-- the number that a call is turned back with; none where it is carried out
abbrev pub turned_back : {A : Type 0} → Result A Refusal → Option ℕ
turned_back (Ok a) = none
turned_back (Err e) = some (number_of e)
