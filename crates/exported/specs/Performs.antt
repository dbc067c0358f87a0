-- What a run of an exported function does, said once for all of them: what `step` gives of the index that it is lent. Assumes nothing.
use Rattle.std.specs.Prelude.{ℕ, cond, List, [], ◌∷◌, ◌⊎◌, ◌≡◌, eqb, length, get_or}
use Rattle.std.proofs.Math.Option.{some}
use Rattle.slots.specs.Store.{Store, or_blank}
use Rattle.repair.specs.Delete.{Stats}
use Rattle.guard.specs.Guard.{Config, config, off, on, Status, Report}
use Rattle.calls.specs.Calls.{Making, Insert, Delete, Operation, create, insert, delete, enable, guarded_delete, Call, Answer, refused, created, number, alpha, version, vector, found, inserted, deleted, standing, assessed, applied, deferred}
use Rattle.calls.specs.Outputs.{written}
use Rattle.calls.specs.State.{State, Value, state, stored}
use Rattle.calls.specs.Step.{step, refusal}
use Rattle.calls.specs.Runs.{value_of, lent_of}
use Rattle.words.specs.IndexWords.{alpha_of, value_words}
use Rattle.words.specs.GuardWords.{flag, status_words}
use Rattle.exported.specs.Runs.{Memory, Places, places, ExportedRun, Exported}

-- what an app holds by value, in the order of include/finder.h
unfoldable pub value_held : List ℕ → Value
value_held w =
    record {
      sizes = record { dim = get_or w 0 0; capacity = get_or w 1 0; degree = get_or w 2 0; alpha = alpha_of (get_or w 3 0) };
      entry = get_or w 4 0;
      live = get_or w 5 0;
      guard = cond (eqb (get_or w 6 0) 0) off (on (config (get_or w 7 0) (get_or w 8 0) (get_or w 9 0) (get_or w 10 0)) (get_or w 11 0));
    }

-- the index that its memory holds
abbrev pub state_in : Memory → State Store
state_in a = state (value_held a.words) a.slices

-- the call that is run: what is asked, with the lengths of all that is lent
abbrev pub call_in : ExportedRun → Call
call_in r = record { lent = lent_of r.lent.slices r.before.outputs r.scratch; operation = r.operation }

-- the numbers of a report, in the order of include/finder.h; no entry is blank
abbrev pub numbers : Report → List ℕ
numbers r =
    flag r.admitted ∷ r.requested ∷ or_blank r.entry ∷ length r.checked ∷ r.baseline ∷ r.residual ∷ length r.lost ∷ r.supplemental ∷ []

-- the number that is returned with an answer, and what then stands where it is written
unfoldable pub put : Answer → Places → ℕ × Places
put (refused n) o = (n, o)
put created o = (0, o)
put (number n) o = (0, places n o.alpha o.version o.bytes o.guard o.outputs)
put (alpha a) o = (0, places o.value a o.version o.bytes o.guard o.outputs)
put (version n) o = (0, places o.value o.alpha n o.bytes o.guard o.outputs)
put (vector l) o = (length l, places o.value o.alpha o.version l o.guard o.outputs)
put (found cs ns) o = (0, places (length cs) o.alpha o.version o.bytes o.guard (written (found cs ns) o.outputs))
put (inserted ss) o = (0, places (length ss) o.alpha o.version o.bytes o.guard (written (inserted ss) o.outputs))
put (deleted ts) o = (0, places (length ts) o.alpha o.version o.bytes o.guard (written (deleted ts) o.outputs))
put (standing s) o = (0, places o.value o.alpha o.version o.bytes (status_words s) o.outputs)
put (assessed r) o = (0, places o.value o.alpha o.version o.bytes (numbers r) (written (assessed r) o.outputs))
put (applied ts r) o = (0, places (length ts) o.alpha o.version o.bytes (numbers r) (written (applied ts r) o.outputs))
put (deferred r) o = (0, places 0 o.alpha o.version o.bytes (numbers r) (written (deferred r) o.outputs))

-- the calls that write the words anew, each with its answer; a delete that is deferred writes none
pub data Rewrites : Operation → Answer → Type 0 where
  by_create : {m : Making} → Rewrites (create m) created
  by_insert : {a : Insert} {ss : List ℕ} → Rewrites (insert a) (inserted ss)
  by_delete : {a : Delete} {ts : List Stats} → Rewrites (delete a) (deleted ts)
  by_enable : {c : Config} {s : Status} → Rewrites (enable c) (standing s)
  by_guarded_delete : {a : Delete} {ts : List Stats} {r : Report} → Rewrites (guarded_delete a) (applied ts r)

-- all that is lent stays: words, slices, scratch, and what stands where an answer is written
pub record Untouched (r : ExportedRun) : Type 0 where
  pub memory : r.left ≡ r.lent
  pub scratch : r.scratch' ≡ r.scratch
  pub places : r.after ≡ r.before

-- a run leaves an index, returns and writes an answer, and leaves the words that it is lent or those that the index left is written as
pub record Gives (r : ExportedRun) (q : State Store × Answer) : Type 0 where
  pub leaves : state_in r.left ≡ q.0
  pub tells : (r.returned, r.after) ≡ put q.1 r.before
  pub words : (Rewrites r.operation q.1 × (r.left.words ≡ value_words (value_of q.0)))
      ⊎ ((Rewrites r.operation q.1 → ⊥) × (r.left.words ≡ r.lent.words))

-- what every exported function does
pub record Performs (r : ExportedRun) : Type 0 where
  pub does : Gives r (step stored (state_in r.lent) (call_in r))
  -- a call that is turned back
  pub refused : (n : ℕ) → refusal stored (state_in r.lent) (call_in r) ≡ some n → Untouched r

abbrev pub ExportedPerforms : Type 0
ExportedPerforms = (r : ExportedRun) → Exported r → Performs r
