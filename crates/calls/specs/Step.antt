-- One call: its number where it is turned back, else the answer and the index after it. Defined once, for the stored index and for the plain one.
-- Assumes nothing.
use Rattle.std.specs.Prelude.{ℕ, ◌/◌, Bool, true, false, cond, List, [], map, length, take, get_or}
use Rattle.std.proofs.Math.Option.{Option, none, some}
use Rattle.lists.specs.Lists.{range, part}
use Rattle.slots.specs.Sizes.{limits}
use Rattle.slots.specs.View.{View, live_neighbors, free_slots}
use Rattle.slots.specs.Store.{blank}
use Rattle.candidates.specs.Candidates.{ids}
use Rattle.numbers.specs.Numbers.{number_of, slot_of, write_numbers, live_numbers}
use Rattle.walk.specs.Walk.{search_pool}
use Rattle.insert.specs.Insert.{insert_entering}
use Rattle.repair.specs.Delete.{Stats, delete_batch}
use Rattle.guard.specs.Guard.{Guard, off, on, Report, normalized, no_landmarks, guard_status, assess_delete_admission}
use Rattle.calls.specs.Calls.{Reading, read_dim, read_capacity, read_degree, read_alpha, read_entry, read_live, read_mark, read_version, read_number, read_target, Naming, of_slots, of_numbers, Delete, Operation, create, read, read_vector, search, insert, delete, enable, status, assess, guarded_delete, Call, Answer, created, number, alpha, version, vector, found, inserted, deleted, standing, assessed, applied, deferred, refused_as}
use Rattle.calls.specs.State.{State, Kind, view_of, shown, made, with_graph, with_guard}
use Rattle.calls.specs.Refusals.{first_of, new_pool, tests}

-- the whole vectors that bytes hold
abbrev pub vectors_of : ℕ → List ℕ → List (List ℕ)
vectors_of dim bytes = map (λ i. part dim i bytes) (range 0 (length bytes / dim))

-- the report on a delete; where the guard is off, row 11 has turned the call back
unfoldable pub report_by : Guard → View → List ℕ → List ℕ → Report
report_by off v pool ids = no_landmarks false 0
report_by (on c n) v pool ids = assess_delete_admission v c pool ids

abbrev pub report_of : State View → List ℕ → Report
report_of w ids = report_by w.guard w.graph w.pool ids

-- the slots that a delete names
unfoldable pub slots_of : List ℕ → Naming → List ℕ → List ℕ
slots_of numbers of_slots slots = slots
slots_of numbers of_numbers names = map (slot_of numbers) names

abbrev pub named : {B : Type 0} → State B → Delete → List ℕ
named w a = slots_of w.numbers a.naming a.names

module _ {B : Type 0} (K : Kind B) where
  unfoldable pub reading : State B → Reading → Answer
  reading w read_dim = number (view_of K w).sizes.dim
  reading w read_capacity = number (view_of K w).sizes.capacity
  reading w read_degree = number (view_of K w).sizes.degree
  reading w read_alpha = alpha (view_of K w).sizes.alpha
  reading w read_entry = number (view_of K w).entry
  reading w read_live = number w.live
  reading w (read_mark s) = number (cond ((view_of K w).live s) 1 0)
  reading w (read_version s) = version (K.version_of w.graph s)
  reading w (read_number s) = number (number_of w.numbers s)
  reading w (read_target s place) = number (get_or (live_neighbors (view_of K w) s) place blank)

  -- a delete: the graph and the numbers after it, and its stats
  unfoldable pub deletion : State B → Delete → State B × List Stats
  deletion w a =
      let d = delete_batch K.ops a.repair_beam a.repair_degree w.graph (named w a) in
      let v = K.ops.view d.0 in
      (with_graph K w d.0 (live_numbers v.live v.sizes.capacity w.numbers), d.1)

  -- the guarded delete, given its report and whether that admits it
  unfoldable pub guarded : State B → Delete → Report → Bool → State B × Answer
  guarded w a r true = let d = deletion w a in (d.0, applied d.1 r)
  guarded w a r false = (w, deferred r)

  -- a call that is not turned back
  unfoldable pub perform : State B → Operation → State B × Answer
  perform w (create m) = (made K m, created)
  perform w (read r) = (w, reading w r)
  perform w (read_vector s) = (w, vector (cond ((view_of K w).live s) ((view_of K w).space.vector s) []))
  perform w (search a) =
      let cs = take a.k (search_pool (view_of K w) a.query a.beam) in (w, found cs (map (number_of w.numbers) (ids cs)))
  perform w (insert a) =
      let vs = vectors_of (view_of K w).sizes.dim a.bytes in
      let slots = take (length vs) (free_slots (view_of K w)) in
      (with_graph K w (insert_entering K.ops a.beam w.graph vs) (write_numbers slots a.numbers w.numbers), inserted slots)
  perform w (delete a) = let d = deletion w a in (d.0, deleted d.1)
  perform w (enable config) =
      let pool = new_pool (view_of K w) config in
      (with_guard K w (normalized config) pool, standing (guard_status (view_of K w) (on (normalized config) (length pool)) pool))
  perform w status = (w, standing (guard_status (view_of K w) w.guard (shown K w).pool))
  perform w (assess a) = (w, assessed (report_of (shown K w) a.ids))
  perform w (guarded_delete a) = let r = report_of (shown K w) (named w a) in guarded w a r r.admitted

  -- the number that a call gets, if any
  unfoldable pub refusal : State B → Call → Option ℕ
  refusal w c = first_of (tests limits c.lent (shown K w) c.operation)

  unfoldable pub settle : State B → Call → Option ℕ → State B × Answer
  settle w c (some n) = (w, refused_as n c.operation)
  settle w c none = perform w c.operation

  -- one call
  unfoldable pub step : State B → Call → State B × Answer
  step w c = settle w c (refusal w c)
