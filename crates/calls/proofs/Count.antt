-- The live count: the proof of `LiveCount`, of the stored index and of the plain one. Assumes nothing.
use Prim.Native.Nat.{ℕ, zero, suc, ◌+◌, ◌*◌, ◌/◌, ◌≤◌, ◌<◌}
use mathlib.Core.Bool.{Bool, true, false, not, ◌||◌, cond}
use mathlib.Core.Option.{Option, none, some}
use mathlib.Core.Path.{◌≡◌, refl, ap, ◌∙◌}
use mathlib.Core.List.{List, [], ◌∷◌}
use native.Mathlib.Omega.{arith}
use borrow.Author.Tests.{le-ltb, ltb-true, ltb-false, eqb-true, not-false}
use lib.Dec.{eqb, ltb}
use lib.ListN.{length, length-map}
use Rattle.std.proofs.lemmas.Bool.{or_parts}
use Rattle.lists.specs.Lists.{filter, range}
use Rattle.lists.proofs.Ranges.{length_range}
use Rattle.vectors.specs.Distance.{distance}
use Rattle.slots.specs.Sizes.{Lengths, limits}
use Rattle.slots.specs.View.{View, live_slots, free_slots, emptied}
use Rattle.slots.specs.Store.{store_view, store_ops}
use Rattle.slots.specs.Plain.{plain_ops, new_plain}
use Rattle.slots.proofs.New.{Accepted, agree_new}
use Rattle.slots.proofs.Live.{Marking, MarksFit, store_marking, LiveInside, plain_marking}
use Rattle.insert.proofs.Free.{fits_after_insert, live_after_insert}
use Rattle.repair.proofs.Count.{fits_after_delete, live_after_delete}
use Rattle.numbers.specs.Numbers.{taken}
use Rattle.guard.specs.Guard.{Report}
use Rattle.calls.specs.Calls.{Making, Insert, Delete, create, read, read_vector, search, insert, delete, enable, status, assess, guarded_delete, Operation, Lent, Call}
use Rattle.calls.specs.Refusals.{Test, first_of, making_tests, scratch_short, tests}
use Rattle.calls.specs.State.{State, Kind, stored, plain, view_of, shown, made, with_graph, with_guard}
use Rattle.calls.specs.Step.{vectors_of, report_of, named, deletion, guarded, perform, refusal, settle, step}
use Rattle.calls.specs.Count.{Tally, tally_performed, tally_settled, tally_after, Counted, LiveCount}
use Rattle.calls.proofs.Tests.{first_none, accepted, Finds, index_finds}

-- ---- the live slots of a new index are those given

none_above : (given a n : ℕ) → given ≤ a → length (filter (λ s. ltb s given) (range a n)) ≡ 0
none_above given a zero h = refl
none_above given a (suc n) h = rw (le-ltb a given h) (none_above given (suc a) n (omega arith))

all_below : (given a n : ℕ) → a ≤ given → given ≤ a + n → a + length (filter (λ s. ltb s given) (range a n)) ≡ given
all_below given a zero h k = omega arith
all_below given a (suc n) h k = go (ltb a given) refl (λ l. all_below given (suc a) n l (omega arith))
  where
    rest : List ℕ
    rest = filter (λ s. ltb s given) (range (suc a) n)

    go : (q : Bool) → ltb a given ≡ q → (a < given → suc a + length rest ≡ given) → a + length (cond q (a ∷ rest) rest) ≡ given
    go true e ih = omega (arith, ih (ltb-true a given e))
    go false e ih = omega (arith, none_above given (suc a) n (omega (arith, ltb-false a given e)), ltb-false a given e)

abbrev Good : Making → Type 0
Good m = Accepted m.sizes m.count m.bytes m.rows m.entry

plain_given : (m : Making) → Good m → length (live_slots (plain.new m)) ≡ m.count
unfolding plain new_plain
plain_given m ok = omega (arith, all_below m.count 0 m.sizes.capacity (omega arith) (omega (arith, ok.room)))

pub stored_given : (m : Making) → Good m → length (live_slots (store_view (stored.new m))) ≡ m.count
unfolding stored plain
stored_given m ok = ap (λ v. length (live_slots v)) (agree_new m.sizes (distance m.weights) m.count m.bytes m.rows m.entry ok).same ∙ plain_given m ok

-- ---- what an accepted call finds

-- of an insert: there are free slots enough, and one number a vector, which none carries
pub record Insertable (lent : Lent) (w : State View) (a : Insert) : Type 0 where
  pub finds : Finds lent.slices w (ltb lent.room.slots (length a.bytes / w.graph.sizes.dim) || not (eqb (length a.numbers) (length a.bytes / w.graph.sizes.dim))) []
  pub room : length a.bytes / w.graph.sizes.dim ≤ length (free_slots w.graph)
  pub as_many : length a.numbers ≡ length a.bytes / w.graph.sizes.dim
  pub fresh : taken w.numbers a.numbers ≡ false

pub insert_finds : (lent : Lent) (w : State View) (a : Insert) → first_of (tests limits lent w (insert a)) ≡ none → Insertable lent w a
unfolding tests
insert_finds lent w a r =
    let v = w.graph in
    let count = length a.bytes / v.sizes.dim in
    let full = ltb (length (free_slots v)) count in
    let held = taken w.numbers a.numbers in
    let fifteen : List Test = (15, held) ∷ [] in
    let ten : List Test = (10, full) ∷ fifteen in
    let odd = not (eqb (length a.bytes) (count * v.sizes.dim)) in
    let nine : List Test = (9, odd) ∷ ten in
    let eight : List Test = (8, scratch_short limits lent w) ∷ nine in
    let over = ltb limits.beam a.beam in
    let many = eqb (length a.numbers) count in
    let f = index_finds lent.slices w (ltb lent.room.slots count || not many) ((7, over) ∷ eight) r in
    let t₈ = (first_none 7 over eight f.own).1 in
    let t₉ = (first_none 8 (scratch_short limits lent w) nine t₈).1 in
    let t₁₀ = (first_none 9 odd ten t₉).1 in
    let t₁₅ = first_none 10 full fifteen t₁₀ in
    record {
      finds = record { sized = f.sized; grown = f.grown; long = f.long; not_wrong = f.not_wrong; weighed = f.weighed; live = f.live; labels = f.labels; own = refl };
      room = ltb-false (length (free_slots v)) count t₁₅.0;
      as_many = eqb-true (length a.numbers) count (not-false many (or_parts (ltb lent.room.slots count) (not many) f.not_wrong).1);
      fresh = (first_none 15 held [] t₁₅.1).0;
    }

-- ---- every call

module _ {B : Type 0} (K : Kind B) (Fit : B → Type 0) (k : Marking K.ops Fit)
    (new : (m : Making) → Good m → Fit (K.new m) × (length (live_slots (K.ops.view (K.new m))) ≡ m.count)) where
  -- no slot outside is live, and the live count is right
  record Right (t : Tally) (w : State B) : Type 0 where
    fits : Fit w.graph
    live : w.live + t.left ≡ t.came

  right_made : (lent : Lengths) (m : Making) → first_of (making_tests limits lent m) ≡ none → Right (record { came = m.count; left = 0 }) (made K m)
  unfolding made
  right_made lent m r = let n = new m (accepted lent m r) in record { fits = n.0; live = omega (arith, n.1) }

  module _ (t : Tally) (w : State B) (h : Right t w) where
    deletes : (a : Delete) → w.live ≡ length (live_slots (view_of K w))
        → Right (record { came = t.came; left = t.left + length (emptied (view_of K w) (named w a)) }) (deletion K w a).0
    unfolding with_graph deletion
    deletes a e = record {
      fits = fits_after_delete K.ops Fit k w.graph h.fits a.repair_beam a.repair_degree (named w a);
      live = omega (arith, live_after_delete K.ops Fit k w.graph h.fits a.repair_beam a.repair_degree (named w a), e, h.live);
    }

    guards : (a : Delete) (r : Report) (q : Bool) → w.live ≡ length (live_slots (view_of K w))
        → Right (cond q (record { came = t.came; left = t.left + length (emptied (view_of K w) (named w a)) }) t) (guarded K w a r q).0
    unfolding guarded
    guards a r true e = deletes a e
    guards a r false e = h

    performs : (lent : Lent) (o : Operation) → first_of (tests limits lent (shown K w) o) ≡ none → Right (tally_performed t (shown K w) o) (perform K w o).0
    unfolding tests perform with_graph with_guard shown tally_performed
    performs lent (create m) r = right_made lent.slices m r
    performs lent (read q) r = h
    performs lent (read_vector s) r = h
    performs lent (search a) r = h
    performs lent (insert a) r =
        let f = insert_finds lent (shown K w) a r in
        let vs = vectors_of (view_of K w).sizes.dim a.bytes in
        let n : length vs ≡ length a.bytes / (view_of K w).sizes.dim = simp length-map (length_range 0 (length a.bytes / (view_of K w).sizes.dim)) in
        let few : length vs ≤ length (free_slots (view_of K w)) = rw n f.room in
        record {
          fits = fits_after_insert K.ops Fit k w.graph h.fits a.beam vs;
          live = omega (arith, live_after_insert K.ops Fit k w.graph h.fits a.beam vs few, f.finds.live, n, h.live);
        }
    performs lent (delete a) r = deletes a (index_finds lent.slices (shown K w) _ _ r).live
    performs lent (enable q) r = record { fits = h.fits; live = h.live }
    performs lent status r = h
    performs lent (assess a) r = h
    performs lent (guarded_delete a) r =
        let q = report_of (shown K w) (named w a) in guards a q q.admitted (index_finds lent.slices (shown K w) _ _ r).live

    steps : (c : Call) → Right (tally_after K t w c) (step K w c).0
    unfolding tally_after tally_settled step settle refusal
    steps c = go (first_of (tests limits c.lent (shown K w) c.operation)) refl
      where
        go : (q : Option ℕ) → first_of (tests limits c.lent (shown K w) c.operation) ≡ q → Right (tally_settled t (shown K w) c q) (settle K w c q).0
        go (some n) e = h
        go none e = performs c.lent c.operation e

  along : (t : Tally) (w : State B) → Right t w → (cs : List Call) → Counted K t w cs
  along t w h [] = h.live
  along t w h (c ∷ cs) = (h.live, along (tally_after K t w c) (step K w c).0 (steps t w h c) cs)

  counts : LiveCount K
  counts lent m cs acc = along _ _ (right_made lent.slices m acc) cs

pub stored_count : LiveCount stored
unfolding stored store_ops
stored_count =
    counts stored MarksFit store_marking
    (λ m ok. ((agree_new m.sizes (distance m.weights) m.count m.bytes m.rows m.entry ok).sound.shaped.marks_long, stored_given m ok))

pub plain_count : LiveCount plain
unfolding plain plain_ops new_plain
plain_count = counts plain LiveInside plain_marking (λ m ok. (λ s e. omega (arith, ltb-true s m.count e, ok.room), plain_given m ok))
