-- What holds of every index that calls have reached. Assumes nothing.
use Rattle.std.specs.Prelude.{List, [], ◌∷◌, ◌≡◌}
use Rattle.std.proofs.Math.Option.{none}
use Rattle.lists.specs.Lists.{All}
use Rattle.slots.specs.Sizes.{limits}
use Rattle.slots.specs.View.{View, Reached}
use Rattle.calls.specs.Calls.{Making, Lent, Call}
use Rattle.calls.specs.Refusals.{first_of, making_tests}
use Rattle.calls.specs.State.{State, Kind, stored, plain, view_of, made}
use Rattle.calls.specs.Step.{step}
use Rattle.calls.specs.History.{Within}

-- what an index shows before a list of calls and after each
abbrev pub views : {B : Type 0} → Kind B → State B → List Call → List View
views K w [] = view_of K w ∷ []
views K w (c ∷ cs) = view_of K w ∷ views K (step K w c).0 cs

-- from an accepted making on, live slots are inside, and references lead to live slots
abbrev pub AlwaysReached : Type 0
AlwaysReached = (lent : Lent) (m : Making) (cs : List Call) → first_of (making_tests limits lent.slices m) ≡ none → Within [] (made plain m) cs
    → All Reached (views stored (made stored m) cs)
