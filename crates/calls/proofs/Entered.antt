-- Where a slot is live, the entry is: the proof of `AlwaysEntryLive`. Each call keeps it on any index whose operations obey the laws. Assumes nothing.
use Prim.Native.Nat.{ℕ}
use mathlib.Core.Bool.{Bool, true, false, ◌&&◌, ◌||◌}
use mathlib.Core.Option.{Option, none, some}
use mathlib.Core.Path.{◌≡◌, refl, sym, subst}
use mathlib.Core.List.{List, [], ◌∷◌}
use native.Mathlib.Omega.{arith}
use borrow.Author.Tests.{eqb-true, ltb-true}
use lib.Dec.{eqb, ltb}
use Rattle.vectors.specs.Distance.{distance}
use Rattle.slots.specs.Sizes.{limits}
use Rattle.slots.specs.View.{EntryLive}
use Rattle.slots.specs.Store.{store_ops}
use Rattle.slots.specs.Plain.{new_plain}
use Rattle.slots.proofs.New.{agree_new}
use Rattle.slots.proofs.Live.{Marking, EntryLaws, MarksFit, store_marking, store_entry_laws}
use Rattle.insert.proofs.Free.{fits_after_insert}
use Rattle.insert.proofs.Entry.{entered_insert}
use Rattle.repair.proofs.Count.{fits_after_delete}
use Rattle.repair.proofs.Entry.{entered_delete}
use Rattle.guard.specs.Guard.{Report}
use Rattle.calls.specs.Calls.{Making, Delete, Operation, create, read, read_vector, search, insert, delete, enable, status, assess, guarded_delete, Lent, Call}
use Rattle.calls.specs.Refusals.{first_of, making_tests, tests}
use Rattle.calls.specs.State.{State, Kind, stored, plain, view_of, shown, made, with_graph, with_guard}
use Rattle.calls.specs.Step.{vectors_of, report_of, named, deletion, guarded, perform, refusal, settle, step}
use Rattle.calls.specs.Entered.{after, AlwaysEntryLive}
use Rattle.calls.proofs.Tests.{accepted, given_named}

-- no slot outside is live, and where one is live the entry is
pub record Right {B : Type 0} (K : Kind B) (Fit : B → Type 0) (b : B) : Type 0 where
  pub fits : Fit b
  pub entered : EntryLive (K.ops.view b)

module _ {B : Type 0} (K : Kind B) (Fit : B → Type 0) (k : Marking K.ops Fit) (n : EntryLaws K.ops) where
  module _ (new : (lent : Lent) (m : Making) → first_of (making_tests limits lent.slices m) ≡ none → Right K Fit (K.new m)) where
    module _ (w : State B) (h : Right K Fit w.graph) where
      deletes : (a : Delete) → Right K Fit (deletion K w a).0.graph
      unfolding with_graph deletion
      deletes a = record {
        fits = fits_after_delete K.ops Fit k w.graph h.fits a.repair_beam a.repair_degree (named w a);
        entered = entered_delete K.ops Fit k n w.graph h.fits a.repair_beam a.repair_degree (named w a) h.entered;
      }

      guards : (a : Delete) (r : Report) (q : Bool) → Right K Fit (guarded K w a r q).0.graph
      unfolding guarded
      guards a r true = deletes a
      guards a r false = h

      performs : (lent : Lent) (o : Operation) → first_of (tests limits lent (shown K w) o) ≡ none → Right K Fit (perform K w o).0.graph
      unfolding tests perform made with_graph with_guard
      performs lent (create m) r = new lent m r
      performs lent (read q) r = h
      performs lent (read_vector s) r = h
      performs lent (search a) r = h
      performs lent (insert a) r =
          let vs = vectors_of (view_of K w).sizes.dim a.bytes in
          record { fits = fits_after_insert K.ops Fit k w.graph h.fits a.beam vs; entered = entered_insert K.ops Fit n k a.beam w.graph h.fits h.entered vs }
      performs lent (delete a) r = deletes a
      performs lent (enable c) r = h
      performs lent status r = h
      performs lent (assess a) r = h
      performs lent (guarded_delete a) r = let q = report_of (shown K w) (named w a) in guards a q q.admitted

      pub right_after_step : (c : Call) → Right K Fit (step K w c).0.graph
      unfolding step settle refusal
      right_after_step c = go (first_of (tests limits c.lent (shown K w) c.operation)) refl
        where
          go : (q : Option ℕ) → first_of (tests limits c.lent (shown K w) c.operation) ≡ q → Right K Fit (settle K w c q).0.graph
          go (some m) e = h
          go none e = performs c.lent c.operation e

    pub right_after : (w : State B) → Right K Fit w.graph → (cs : List Call) → Right K Fit (after K w cs).graph
    right_after w h [] = h
    right_after w h (c ∷ cs) = right_after (step K w c).0 (right_after_step w h c) cs

-- ---- a new index

plain_made : (lent : Lent) (m : Making) → first_of (making_tests limits lent.slices m) ≡ none → EntryLive (plain.new m)
unfolding plain new_plain
plain_made lent m acc s l = go (ltb m.entry m.count) (eqb m.count 0) refl refl (given_named lent.slices m acc).1
  where
    go : (q z : Bool) → ltb m.entry m.count ≡ q → eqb m.count 0 ≡ z → (q || z && eqb m.entry 0) ≡ true → q ≡ true
    go true z e f t = refl
    go false true e f t = absurd (omega (arith, ltb-true s m.count l, eqb-true m.count 0 f))
    go false false e f t = t

pub stored_right : (lent : Lent) (m : Making) → first_of (making_tests limits lent.slices m) ≡ none → Right stored MarksFit (stored.new m)
unfolding stored plain store_ops
stored_right lent m acc =
    let a = agree_new m.sizes (distance m.weights) m.count m.bytes m.rows m.entry (accepted lent.slices m acc) in
    record { fits = a.sound.shaped.marks_long; entered = subst EntryLive (sym a.same) (plain_made lent m acc) }

pub entered : AlwaysEntryLive
unfolding made stored store_ops
entered lent m cs acc =
    (right_after stored MarksFit store_marking store_entry_laws stored_right (made stored m) (stored_right lent m acc) cs).entered
