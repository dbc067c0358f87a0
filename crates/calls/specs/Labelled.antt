-- Figure numbers over the calls: document 02, E1. Assumes nothing.
use Rattle.std.specs.Prelude.{ℕ, ◌≤◌, ◌<◌, true, List, [], map, ◌≡◌, length}
use Rattle.std.proofs.Math.Option.{none}
use Rattle.lists.specs.Lists.{elem}
use Rattle.slots.specs.Sizes.{lengths_of}
use Rattle.slots.specs.View.{live_slots}
use Rattle.slots.specs.Store.{Store}
use Rattle.numbers.specs.Numbers.{number_of, labels_ok, Labelled}
use Rattle.calls.specs.Calls.{Making, read_number, Insert, of_slots, of_numbers, Delete, Operation, create, read, read_vector, search, insert, delete, enable, status, assess, guarded_delete, Lent, Call, Answer, refused, created, number, alpha, version, vector, found, inserted, deleted, standing, assessed, applied, deferred}
use Rattle.calls.specs.State.{State, stored, view_of}
use Rattle.calls.specs.Step.{slots_of, named as named_by, perform, refusal, step}
use Rattle.calls.specs.Runs.{slices_of}

-- the rules hold of an index
abbrev pub Rules : State Store → Type 0
Rules w = let v = view_of stored w in Labelled v.live v.sizes.capacity w.numbers w.summary

-- ---- a delete of numbers is the delete of the slots that carry them

abbrev pub by_slots : State Store → Delete → Delete
by_slots w a = record { names = named_by w a; naming = of_slots; repair_beam = a.repair_beam; repair_degree = a.repair_degree }

-- ---- the base, which knows no numbers

-- all of an index but its numbers
unfoldable pub bare : State Store → State Store
bare w = record { graph = w.graph; live = w.live; guard = w.guard; pool = w.pool; numbers = []; summary = []; weights = w.weights }

-- a call that gives no numbers, and names slots
unfoldable pub bare_call : State Store → Operation → Operation
bare_call w (create m) = create (record { sizes = m.sizes; count = m.count; bytes = m.bytes; rows = m.rows; entry = m.entry; numbers = []; weights = m.weights })
bare_call w (read r) = read r
bare_call w (read_vector s) = read_vector s
bare_call w (search a) = search a
bare_call w (insert a) = insert (record { bytes = a.bytes; numbers = []; beam = a.beam })
bare_call w (delete a) = delete (by_slots w a)
bare_call w (enable config) = enable config
bare_call w status = status
bare_call w (assess a) = assess a
bare_call w (guarded_delete a) = guarded_delete (by_slots w a)

-- an answer without numbers
unfoldable pub bare_answer : Answer → Answer
bare_answer (found cs ns) = found cs []
bare_answer (refused n) = refused n
bare_answer created = created
bare_answer (number n) = number n
bare_answer (alpha a) = alpha a
bare_answer (version n) = version n
bare_answer (vector l) = vector l
bare_answer (inserted ss) = inserted ss
bare_answer (deleted ts) = deleted ts
bare_answer (standing s) = standing s
bare_answer (assessed r) = assessed r
bare_answer (applied ts r) = applied ts r
bare_answer (deferred r) = deferred r

-- ---- the claims, of every stored index, reached by calls or not

-- the lengths that a call is lent are those of the index
abbrev pub LendsOwn : State Store → Call → Type 0
LendsOwn w c = c.lent.slices ≡ lengths_of (slices_of w)

pub record FigureNumbers : Type 0 where
  -- 6's own test of numbers and summary: it passes exactly where the rules hold, of a live count and a summary that pass the rest of 3 and 6
  pub exact : (w : State Store)
      → w.live ≡ length (live_slots (view_of stored w))
      → length w.summary ≡ (view_of stored w).sizes.capacity
      → let ok = labels_ok (view_of stored w).live (view_of stored w).sizes.capacity w.live w.numbers w.summary in (ok ≡ true → Rules w) × (Rules w → ok ≡ true)
  -- after every call that is carried out the rules hold
  pub kept : (w : State Store) (c : Call) → LendsOwn w c → refusal stored w c ≡ none → Rules (step stored w c).0
  -- an insert gives the slots that it answers their numbers, in order, and a slot that stays live keeps its number, whatever the call, but a making
  pub given : (w : State Store) (c : Call) (a : Insert) → c.operation ≡ insert a → LendsOwn w c → refusal stored w c ≡ none → (slots : List ℕ) → (step stored w c).1 ≡ inserted slots
      → map (number_of (step stored w c).0.numbers) slots ≡ a.numbers
  pub stays : (w : State Store) (c : Call) → ((m : Making) → c.operation ≡ create m → ⊥) → LendsOwn w c → refusal stored w c ≡ none
      → (s : ℕ) → s < (view_of stored w).sizes.capacity → (view_of stored w).live s ≡ true → (view_of stored (step stored w c).0).live s ≡ true
      → number_of (step stored w c).0.numbers s ≡ number_of w.numbers s
  -- a delete of numbers names each live slot whose number stands in them, and is the delete of those slots
  pub named : (w : State Store) → Rules w → length w.numbers ≡ (view_of stored w).sizes.capacity → (view_of stored w).sizes.capacity ≤ 65536 → (ns : List ℕ)
      → (s : ℕ) → s < (view_of stored w).sizes.capacity → (view_of stored w).live s ≡ true → elem s (slots_of w.numbers of_numbers ns) ≡ elem (number_of w.numbers s) ns
  pub delete_by_number : (w : State Store) (lent : Lent) (a : Delete)
      → step stored w (record { lent = lent; operation = delete a }) ≡ step stored w (record { lent = lent; operation = delete (by_slots w a) })
  pub guarded_by_number : (w : State Store) (lent : Lent) (a : Delete)
      → step stored w (record { lent = lent; operation = guarded_delete a }) ≡ step stored w (record { lent = lent; operation = guarded_delete (by_slots w a) })
  -- graph, live count, guard and pool after a call, and its answer but for numbers, are those of the base fed with the vectors and the slots
  pub graph_untouched : (w : State Store) (o : Operation) → bare (perform stored w o).0 ≡ bare (perform stored (bare w) (bare_call w o)).0
  pub answers_untouched : (w : State Store) (o : Operation) → ((s : ℕ) → o ≡ read (read_number s) → ⊥)
      → bare_answer (perform stored w o).1 ≡ bare_answer (perform stored (bare w) (bare_call w o)).1
