-- Demand 3 over lists of calls: every history of the stored index is one of the plain index. Assumes nothing.
use Rattle.std.specs.Prelude.{ℕ, ◌≤◌, cond, List, [], ◌∷◌, ◌++◌, map, ◌≡◌}
use Rattle.std.proofs.Math.Option.{Option, none, some}
use Rattle.lists.specs.Lists.{range, times}
use Rattle.slots.specs.Sizes.{limits}
use Rattle.slots.specs.View.{View, live_neighbors, live_slots, emptied}
use Rattle.slots.specs.Store.{Store}
use Rattle.guard.specs.Guard.{Guard}
use Rattle.calls.specs.Calls.{Making, Operation, create, read, read_vector, search, insert, delete, enable, status, assess, guarded_delete, Lent, Call, Answer, refused, created, number, alpha, version, vector, found, inserted, deleted, standing, assessed, applied, deferred}
use Rattle.calls.specs.Refusals.{first_of, making_tests}
use Rattle.calls.specs.State.{State, Kind, shown, made, stored, plain}
use Rattle.calls.specs.Step.{step, refusal, report_of, named}

-- ---- what is compared after each call

pub record Seen : Type 0 where
  pub entry : ℕ
  pub live : ℕ
  pub guard : Guard
  pub pool : List ℕ
  pub slots : List ℕ
  pub vectors : List (List ℕ)
  pub targets : List (List ℕ)
  pub numbers : List ℕ
  pub summary : List ℕ

-- entry, live count, guard, pool, the live slots and their vectors, the live targets of every slot, the figure number of every slot and the summary
unfoldable pub look : State View → Seen
look w =
    let v = w.graph in
    record {
      entry = v.entry;
      live = w.live;
      guard = w.guard;
      pool = w.pool;
      slots = live_slots v;
      vectors = map v.space.vector (live_slots v);
      targets = map (live_neighbors v) (range 0 v.sizes.capacity);
      numbers = w.numbers;
      summary = w.summary;
    }

abbrev pub seen : {B : Type 0} → Kind B → State B → Seen
seen K w = look (shown K w)

-- ---- how often each slot was emptied

-- the slots emptied since the index was made, after a call that is carried out; `log` has those before it
unfoldable pub log_performed : List ℕ → State View → Operation → List ℕ
log_performed log p (create m) = []
log_performed log p (read r) = log
log_performed log p (read_vector s) = log
log_performed log p (search a) = log
log_performed log p (insert a) = log
log_performed log p (delete a) = emptied p.graph (named p a) ++ log
log_performed log p (enable config) = log
log_performed log p status = log
log_performed log p (assess a) = log
log_performed log p (guarded_delete a) = cond (report_of (shown plain p) (named p a)).admitted (emptied p.graph (named p a) ++ log) log

unfoldable pub log_settled : List ℕ → State View → Call → Option ℕ → List ℕ
log_settled log p c (some n) = log
log_settled log p c none = log_performed log p c.operation

unfoldable pub log_after : List ℕ → State View → Call → List ℕ
log_after log p c = log_settled log p c (refusal plain p c)

-- no slot stands in the log more than 65,535 times
abbrev pub Few : List ℕ → Type 0
Few log = (s : ℕ) → times s log ≤ 65535

-- no slot is emptied more than 65,535 times since the index was last made
abbrev pub Within : List ℕ → State View → List Call → Type 0
Within log p [] = Unit {0}
Within log p (c ∷ cs) = let log' = log_after log p c in Few log' × Within log' (step plain p c).0 cs

-- ---- histories of calls

-- an answer that is a version is not compared
unfoldable pub hide : Answer → Answer
hide (refused n) = refused n
hide created = created
hide (number n) = number n
hide (alpha a) = alpha a
hide (version n) = version 0
hide (vector xs) = vector xs
hide (found cs ns) = found cs ns
hide (inserted ss) = inserted ss
hide (deleted ds) = deleted ds
hide (standing s) = standing s
hide (assessed r) = assessed r
hide (applied ds r) = applied ds r
hide (deferred r) = deferred r

-- what a call leaves and answers
abbrev pub compared : {B : Type 0} → Kind B → State B × Answer → Seen × Answer
compared K r = (seen K r.0, hide r.1)

-- a list of calls, each on what the last one left
abbrev pub trace : {B : Type 0} → Kind B → State B → List Call → List (Seen × Answer)
trace K w [] = []
trace K w (c ∷ cs) = let r = step K w c in compared K r ∷ trace K r.0 cs

-- the claim, whatever stood in the memory before the accepted making with which the list begins
abbrev pub History : Type 0
History =
    (w : State Store) (p : State View) (lent : Lent) (m : Making) (cs : List Call)
    → first_of (making_tests limits lent.slices m) ≡ none
    → Within [] (made plain m) cs
    → let making : Call = record { lent = lent; operation = create m } in trace stored w (making ∷ cs) ≡ trace plain p (making ∷ cs)
