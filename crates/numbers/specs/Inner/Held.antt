-- Which numbers a call may bring, in two tests: those that slots hold, and those that stand twice in the call's list; and the slot that holds one. Assumes nothing.
use Rattle.std.specs.Prelude.{ℕ, Option, Some, None, Bool, false, not, ◌&&◌, ◌||◌, cond, List, [], ◌∷◌, eqb}
use Rattle.lists.specs.Lists.{elem}
use Rattle.slots.specs.Store.{blank}
use Rattle.numbers.specs.Numbers.{slot_of}

-- one of ns is not 0 and stands in held
abbrev pub any_in : List ℕ → List ℕ → Bool
any_in held [] = false
any_in held (n ∷ ns) = not (eqb n 0) && elem n held || any_in held ns

-- the slot that carries a number, if one does
abbrev pub carrier : List ℕ → ℕ → Option ℕ
carrier numbers n = cond (eqb (slot_of numbers n) blank) None (Some (slot_of numbers n))
