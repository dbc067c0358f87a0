-- Where the entry is after calls: document 02, E5. Assumes nothing.
use Rattle.std.specs.Prelude.{List, [], ◌∷◌, ◌≡◌}
use Rattle.std.proofs.Math.Option.{none}
use Rattle.slots.specs.Sizes.{limits}
use Rattle.slots.specs.View.{EntryLive}
use Rattle.calls.specs.Calls.{Making, Lent, Call}
use Rattle.calls.specs.Refusals.{first_of, making_tests}
use Rattle.calls.specs.State.{State, Kind, stored, view_of, made}
use Rattle.calls.specs.Step.{step}

-- what a list of calls leaves
abbrev pub after : {B : Type 0} → Kind B → State B → List Call → State B
after K w [] = w
after K w (c ∷ cs) = after K (step K w c).0 cs

-- from an accepted making on, where a slot is live the entry is, however often slots were emptied
abbrev pub AlwaysEntryLive : Type 0
AlwaysEntryLive =
    (lent : Lent) (m : Making) (cs : List Call)
    → first_of (making_tests limits lent.slices m) ≡ none
    → EntryLive (view_of stored (after stored (made stored m) cs))
