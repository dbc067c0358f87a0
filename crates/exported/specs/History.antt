-- Demand 3 of the code: whatever exported functions are run on one index, the caller has in hand what the plain index gives, fed the same calls, and a run
-- whose call it turns back leaves all that it is lent. Assumes nothing.
use Rattle.std.specs.Prelude.{ℕ, cond, List, [], ◌∷◌, map, ◌≡◌, eqb}
use Rattle.std.proofs.Math.Option.{none, some}
use Rattle.slots.specs.Sizes.{lengths_of, limits}
use Rattle.slots.specs.View.{View}
use Rattle.calls.specs.Calls.{Making, create, Call, Answer}
use Rattle.calls.specs.Refusals.{first_of, making_tests}
use Rattle.calls.specs.State.{State, stored, plain, made}
use Rattle.calls.specs.Step.{step, refusal}
use Rattle.calls.specs.History.{Seen, seen, Within}
use Rattle.words.specs.IndexWords.{value_words}
use Rattle.exported.specs.Runs.{Memory, Places, places, ExportedRun, Exported}
use Rattle.exported.specs.Performs.{state_in, call_in, put, Untouched}

-- ---- runs on one index

-- `ExportedLends had r has`: what a run may be lent by an app whose index is `had`, and what the app's index is after it
pub data ExportedLends (had : Memory) (r : ExportedRun) : Memory → Type 0 where
  -- the app's index
  own : r.lent ≡ had → ExportedLends had r r.left
  -- its words with slices of which at least one has another length, where r is no making
  other_slices : ((m : Making) → r.operation ≡ create m → ⊥) → r.lent.words ≡ had.words → (lengths_of r.lent.slices ≡ lengths_of had.slices → ⊥)
      → ExportedLends had r (record { words = r.left.words; slices = had.slices })
  -- any memory, to make an index in; where that is turned back the app keeps its own
  any_memory : (m : Making) → r.operation ≡ create m → ExportedLends had r (cond (eqb r.returned 0) r.left had)

-- a run, and the app's index after it
pub record Event : Type 0 where
  pub run : ExportedRun
  pub has : Memory

-- runs of exported functions on one index
abbrev pub ExportedChain : Memory → List Event → Type 0
ExportedChain had [] = Unit {0}
ExportedChain had (e ∷ es) = Exported e.run × ExportedLends had e.run e.has × ExportedChain e.has es

-- ---- what the caller has in hand after a run

pub record Hand : Type 0 where
  pub returned : ℕ
  pub places : Places
  -- the twelve words
  pub words : List ℕ
  -- pool, live slots, their vectors, live targets, figure numbers and the summary
  pub seen : Seen

-- a version is not compared
unfoldable pub hide_version : Places → Places
hide_version o = places o.value o.alpha 0 o.bytes o.guard o.outputs

unfoldable pub in_hand : Event → Hand
in_hand e =
    record {
      returned = e.run.returned;
      places = hide_version e.run.after;
      words = e.has.words;
      seen = seen stored (state_in e.has);
    }

-- ---- the same of the plain index

-- what it is fed: the call, with the lengths of all that is lent, and what stands where the answer is written
pub record Asked : Type 0 where
  pub call : Call
  pub before : Places

abbrev pub asked : Event → Asked
asked e = record { call = call_in e.run; before = e.run.before }

-- the twelve words
unfoldable pub words_in : State View → List ℕ
words_in w = value_words (record { sizes = w.graph.sizes; entry = w.graph.entry; live = w.live; guard = w.guard })

unfoldable pub plain_hand : Asked → State View × Answer → Hand
plain_hand a q = let o = put q.1 a.before in record { returned = o.0; places = hide_version o.1; words = words_in q.0; seen = seen plain q.0 }

unfoldable pub plain_hands : State View → List Asked → List Hand
plain_hands p [] = []
plain_hands p (a ∷ rest) = let q = step plain p a.call in plain_hand a q ∷ plain_hands q.0 rest

-- ---- a run whose call is turned back

abbrev pub RefusedUntouched : State View → List Event → Type 0
RefusedUntouched p [] = Unit {0}
RefusedUntouched p (e ∷ es) =
    let c = (asked e).call in ((n : ℕ) → refusal plain p c ≡ some n → Untouched e.run) × RefusedUntouched (step plain p c).0 es

-- ---- the claim

pub record AsPlain (p : State View) (es : List Event) : Type 0 where
  pub hands : map in_hand es ≡ plain_hands p (map asked es)
  pub refused : RefusedUntouched p es

-- whatever the memory held before the accepted making with which the runs begin, and whatever the scratch holds
abbrev pub ExportedHistory : Type 0
ExportedHistory =
    (had : Memory) (p : State View) (m : Making) (e : Event) (es : List Event)
    → e.run.operation ≡ create m
    → first_of (making_tests limits (lengths_of e.run.lent.slices) m) ≡ none
    → ExportedChain had (e ∷ es)
    → Within [] (made plain m) (map (λ e. (asked e).call) es)
    → AsPlain p (e ∷ es)
