-- What a call of `create` leaves and answers. Assumes nothing.
use Rattle.std.specs.Prelude.{ℕ, List, [], ◌≡◌, Float, Result, Ok, Err}
use Rattle.std.proofs.Math.Option.{none, some}
use Rattle.slots.specs.Sizes.{Slices, lengths_of, limits}
use Rattle.slots.specs.Store.{Store}
use Rattle.index.specs.declared.Index.{Index}
use Rattle.index.specs.declared.Refusal.{Refusal}
use Rattle.index.specs.declared.making.Making as lent
use Rattle.index.specs.Refusal.{number_of}
use Rattle.calls.specs.Calls.{Making, Answer, create, refused, created}
use Rattle.calls.specs.Refusals.{first_of, making_tests}
use Rattle.calls.specs.State.{State, state, stored, made}
use Rattle.calls.specs.Outputs.{no_outputs}
use Rattle.calls.specs.Runs.{value_of, Run}
use Rattle.index.specs.Index.{sizes, state_of}

-- what making is given, one by one
abbrev pub making : ℕ → ℕ → ℕ → Float → ℕ → ℕ → List ℕ → List ℕ → List ℕ → List ℕ → Making
making dim capacity degree alpha entry count bytes rows numbers weights =
    record { sizes = sizes dim capacity degree alpha; count = count; bytes = bytes; rows = rows; entry = entry; numbers = numbers; weights = weights }

-- as the code has it
abbrev pub making_of : lent.Making → Making
making_of m = making m.dim m.capacity m.degree m.alpha m.entry m.count m.bytes.now m.rows.now m.numbers.now m.weights.now

-- the slices as they are lent, and as they are left
module _ (m : Making) (before after : Slices) where
  -- a making that is turned back: its number, and slices as they were
  pub record TurnedBack (n : ℕ) : Type 0 where
    pub number : first_of (making_tests limits (lengths_of before) m) ≡ some n
    pub kept : after ≡ before

  -- one that is carried out: the new index with its slices is what making makes
  pub record CarriedOut (i : Index) : Type 0 where
    pub accepted : first_of (making_tests limits (lengths_of before) m) ≡ none
    pub new : state_of i after ≡ made stored m

  -- what `create` promises: that this is what `step` gives, whatever index the app had before, is `create_meets`
  pub record Creates (r : Result Index Refusal) : Type 0 where
    pub back : (e : Refusal) → r ≡ Err e → TurnedBack (number_of e)
    pub done : (i : Index) → r ≡ Ok i → CarriedOut i

-- ---- a run of `create`, whatever index the app had before

unfoldable pub created_as : Result Index Refusal → Answer
created_as (Err e) = refused (number_of e)
created_as (Ok i) = created

-- the index that the app has: the one that it had, or the new one
unfoldable pub left_by : Result Index Refusal → State Store → Slices → State Store
left_by (Err e) w s = state (value_of w) s
left_by (Ok i) w s = state_of i s

-- `create` takes neither outputs nor scratch
abbrev pub create_run : Making → State Store → Slices → Slices → Result Index Refusal → Run
create_run m w before after r =
    record {
      operation = create m;
      before = state (value_of w) before;
      after = left_by r w after;
      answer = created_as r;
      outputs_before = no_outputs;
      outputs_after = no_outputs;
      scratch_before = [];
      scratch_after = [];
    }
