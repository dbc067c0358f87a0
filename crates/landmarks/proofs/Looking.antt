-- Looking for a slot in a list, and the tests of one slot. Assumes nothing.
use Rattle.std.proofs.Common.{◌≡◌, ℕ, Bool, true, not, eqb, List, [], ◌∷◌, refl, sym, ◌∙◌}
use borrow.Author.Tests.{not-true}
use Rattle.std.specs.List.{list_any}
use Rattle.lists.specs.Lists.{elem}
use Rattle.lists.proofs.Firsts.{eqb_comm}
use Rattle.slots.specs.Store.{is_valid}
use Rattle.landmarks.specs.Inner.Samples.{remains, free}

-- the test of the library's `contains`
elem_any : (id : ℕ) (l : List ℕ) → list_any (λ x. eqb x id) l ≡ elem id l
elem_any id [] = refl
elem_any id (x ∷ l) = rw (eqb_comm x id, elem_any id l)

pub stays_live : (marks ids : List ℕ) (id : ℕ) {t r : Bool} → t ≡ is_valid marks id → t ≡ true → r ≡ list_any (λ x. eqb x id) ids → not r ≡ remains marks ids id
stays_live marks ids id v h g = rw (← v, h, g, elem_any id ids)

pub free_other : (p : ℕ → Bool) (entry : ℕ) (l : List ℕ) (id : ℕ) {t v r : Bool} → t ≡ p id → t ≡ true → v ≡ not (eqb id entry) → v ≡ true → r ≡ list_any (λ x. eqb x id) l
    → not r ≡ free p (entry ∷ l) id
free_other p entry l id e h o k g = rw (← e, h, not-true (eqb id entry) (sym o ∙ k), g, elem_any id l)
