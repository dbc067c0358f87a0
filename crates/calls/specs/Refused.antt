-- Demand 1 over definitions: a call is turned back exactly where one of its tests holds, with the number of the first; every other call is carried out.
-- Assumes nothing.
use Rattle.std.specs.Prelude.{ℕ, true, false, List, [], ◌∷◌, map, ◌⊎◌, ◌≡◌}
use Rattle.std.proofs.Math.Option.{some}
use Rattle.lists.specs.Lists.{All, elem, filter}
use Rattle.slots.specs.Sizes.{limits}
use Rattle.slots.specs.Store.{Store}
use Rattle.calls.specs.Calls.{Operation, create, read, read_vector, search, insert, delete, enable, status, assess, guarded_delete, Call, refused, refused_as}
use Rattle.calls.specs.Refusals.{Test, tests}
use Rattle.calls.specs.State.{State, Kind, shown, stored}
use Rattle.calls.specs.Step.{perform, refusal, step}

-- n is the number of the first test that holds
abbrev pub First : ℕ → List Test → Type 0
First n [] = ⊥
First n (t ∷ ts) = ((t.1 ≡ true) × (t.0 ≡ n)) ⊎ ((t.1 ≡ false) × First n ts)

-- the rows of the table, in its order: 15 comes after 10 (document 02, E1), 16 after 3 (E3); a number that is gone is not used again (E2)
unfoldable pub all_rows : List ℕ
all_rows = 1 ∷ 2 ∷ 3 ∷ 16 ∷ 4 ∷ 5 ∷ 6 ∷ 7 ∷ 8 ∷ 9 ∷ 10 ∷ 15 ∷ 11 ∷ 12 ∷ 13 ∷ []

-- those that apply to a call
unfoldable pub rows : Operation → List ℕ
rows (create m) = 1 ∷ 2 ∷ 3 ∷ 16 ∷ 4 ∷ 5 ∷ 15 ∷ []
rows (read r) = 1 ∷ 2 ∷ 3 ∷ 16 ∷ 6 ∷ []
rows (read_vector s) = 1 ∷ 2 ∷ 3 ∷ 16 ∷ 6 ∷ []
rows (search a) = 1 ∷ 2 ∷ 3 ∷ 16 ∷ 6 ∷ 7 ∷ 8 ∷ []
rows (insert a) = 1 ∷ 2 ∷ 3 ∷ 16 ∷ 6 ∷ 7 ∷ 8 ∷ 9 ∷ 10 ∷ 15 ∷ []
rows (delete a) = 1 ∷ 2 ∷ 3 ∷ 16 ∷ 6 ∷ 7 ∷ 8 ∷ []
rows (enable config) = 1 ∷ 2 ∷ 3 ∷ 16 ∷ 6 ∷ 7 ∷ 8 ∷ 12 ∷ 13 ∷ []
rows status = 1 ∷ 2 ∷ 3 ∷ 16 ∷ 6 ∷ []
rows (assess a) = 1 ∷ 2 ∷ 3 ∷ 16 ∷ 6 ∷ 7 ∷ 8 ∷ 11 ∷ []
rows (guarded_delete a) = 1 ∷ 2 ∷ 3 ∷ 16 ∷ 6 ∷ 7 ∷ 8 ∷ 11 ∷ []

module _ {B : Type 0} (K : Kind B) (w : State B) (c : Call) where
  abbrev pub tests_of : List Test
  tests_of = tests limits c.lent (shown K w) c.operation

  pub record Demand1 : Type 0 where
    -- a call of which a test holds leaves the index and gets the number of the first
    pub back : (n : ℕ) → First n tests_of → step K w c ≡ (w, refused_as n c.operation)
    -- every other call is carried out
    pub done : ((n : ℕ) → First n tests_of → ⊥) → step K w c ≡ perform K w c.operation
    -- and no refusal comes of that
    pub only : (n : ℕ) → (step K w c).1 ≡ refused n → First n tests_of
    -- a number that a call gets is one of its rows
    pub listed : (n : ℕ) → refusal K w c ≡ some n → elem n (rows c.operation) ≡ true
    -- the tests are the rows that apply
    pub rows : map (λ t. t.0) tests_of ≡ rows c.operation

-- some call on a stored index is turned back with n
abbrev pub TurnedBack : ℕ → Type 0
TurnedBack n = (w : State Store) × (c : Call) × ((step stored w c).1 ≡ refused n)

-- the table as a whole
pub record TableRows : Type 0 where
  -- the rows of a call are rows of the table, in its order
  pub ordered : (o : Operation) → filter (λ n. elem n (rows o)) all_rows ≡ rows o
  -- and each row of the table turns some call back
  pub needed : All TurnedBack all_rows
