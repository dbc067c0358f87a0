-- Delete: what the code decides and writes is what the definitions say. Assumes nothing.
use Prim.Native.Nat.{ℕ, ◌+◌, ◌-◌, ◌≤◌}
use mathlib.Core.Bool.{true, false, ◌||◌}
use mathlib.Core.Path.{◌≡◌, refl, sym, ap, ap₂, ◌∙◌, subst}
use mathlib.Core.List.{List, [], ◌∷◌, map}
use mathlib.Core.Option.{some}
use native.Mathlib.Omega.{arith}
use borrow.Author.Tests.{ltb-false}
use lib.Dec.{ltb}
use lib.Ieee.{Float}
use lib.ListN.{length}
use Rattle.std.proofs.lemmas.Bool.{or_parts}
use Rattle.lists.specs.Lists.{filter, range}
use Rattle.lists.proofs.Filter.{filter_length}
use Rattle.lists.proofs.Ranges.{length_range}
use Rattle.vectors.specs.Weights.{Weighing}
use Rattle.slots.specs.Sizes.{Slices, limits}
use Rattle.slots.specs.Scratch.{size_answer}
use Rattle.slots.specs.View.{live_slots, emptied}
use Rattle.slots.specs.Store.{Arrays, Store, is_valid, store_view, store_ops}
use Rattle.slots.proofs.Live.{live_and_free, MarksFit, store_marking}
use Rattle.row.specs.Row.{index_of}
use Rattle.repair.specs.Delete.{Stats, delete_batch}
use Rattle.repair.proofs.Count.{sizes_after_delete, live_after_delete, none_revived}
use Rattle.numbers.specs.Numbers.{live_numbers, summary_of, Labelled}
use Rattle.numbers.specs.Inner.Listed.{Struck}
use Rattle.deletion.specs.Batch.{stats_at, stats_of, Deletable, BatchDeleted}
use Rattle.deletion.proofs.Batching.{delete_enough, deleted_store}
use Rattle.calls.specs.Calls.{delete, Call, deleted, refused_as}
use Rattle.calls.specs.Refusals.{delete_over, tests}
use Rattle.calls.specs.Outputs.{room_of, written}
use Rattle.calls.specs.State.{State, stored, shown, with_graph}
use Rattle.calls.specs.Step.{slots_of, deletion, refusal, perform}
use Rattle.calls.specs.Runs.{lent_of, slices_of, call_of, run_refusal}
use Rattle.calls.proofs.Tests.{first_none}
use Rattle.index.specs.declared.Index.{Index}
use Rattle.index.specs.Index.{guard_of, state_of, arrays_of}
use Rattle.index.specs.Inner.Deciding.{Decided, Passed}
use Rattle.index.proofs.Decide.{turned_back, let_through, own_none, not_wrong, passed, passed_rows, passed_marks, passed_bytes, passed_weighing, step_back, step_on}
use Rattle.std.specs.Prelude.{Result, Ok, Err}
use Rattle.index.specs.declared.Refusal.{Refusal}
use Rattle.index.specs.Refusal.{number_of}
use Rattle.updating.specs.declared.Changed.{Changed}
use Rattle.updating.proofs.Fills.{ok_is}
use Rattle.updating.specs.Delete.{stats_outputs, deleted_as, index_left, Deletes}
use Rattle.updating.specs.Inner.Emptying.{delete_tests, slot_delete, with_entry, fewer}

-- as many marks are left
pub marks_kept : {alpha : Float} {a a' : Arrays} {entry beam degree entry' n : ℕ} {ids scratch' : List ℕ} → BatchDeleted a alpha entry beam degree ids a' entry' n scratch'
    → length a'.marks ≡ length a.marks
unfolding store_ops store_view
marks_kept {alpha} {a} {entry = entry} {beam} {degree} {ids = ids} b =
    sym (ap (λ (x : Store × List Stats). (store_view x.0).sizes.capacity) b.does)
    ∙ ap (λ z. z.capacity) (sizes_after_delete store_ops MarksFit store_marking (index_of alpha entry a) refl beam degree ids)

-- so there are as many numbers
pub strike_long : {numbers marks : ℕ} (kept : List ℕ) {now : List ℕ} → numbers ≡ marks → length kept ≡ marks → now ≡ kept → numbers ≡ length now
strike_long kept long same e = rw e (long ∙ sym same)

-- ---- the batch of an index that passed

module _ {index : Index} {s : Slices} (able : Passed index s) (ids : List ℕ) (beam degree : ℕ) where
  abbrev given : Store
  given = (state_of index s).graph

  pub delete_able : (scratch : List ℕ) → delete_over limits (slot_delete ids beam degree) ≡ false → ltb (length scratch) (size_answer index.capacity) ≡ false
      → Deletable (arrays_of index s) index.entry beam degree ids scratch
  unfolding limits
  delete_able scratch over short =
      let m = passed_marks able in
      let o = or_parts (ltb 256 beam || ltb 16 degree) (ltb 256 (length ids)) over in
      let p = or_parts (ltb 256 beam) (ltb 16 degree) o.0 in
      record {
        together = record { bytes = passed_bytes able; rows = passed_rows able; degree_most = able.degree_high };
        entry_in = rw m able.entry_inside;
        ids_most = ltb-false 256 (length ids) o.1;
        beam_most = ltb-false 256 beam p.0;
        degree_most = ltb-false 16 degree p.1;
        enough = rw m (omega (arith, delete_enough index.capacity index.degree able.degree_high, ltb-false (length scratch) (size_answer index.capacity) short));
      }

  -- numbers and summary have the room that striking out asks for
  pub strike_able : (length s.numbers ≡ length s.marks) × (index.live ≤ length s.summary)
  unfolding state_of store_view
  strike_able = (
    able.numbers_long ∙ sym (passed_marks able),
    omega (arith, able.summary_long, able.live_right, filter_length (is_valid s.marks) (range 0 index.capacity), length_range 0 index.capacity),
  )

  -- of the slices that it leaves
  module _ (s' : Slices) {scratch' : List ℕ} {entry' n : ℕ} (b : BatchDeleted (arrays_of index s) index.alpha index.entry beam degree ids (arrays_of index s') entry' n scratch')
      (k : Struck s'.marks s.numbers s.summary index.live s'.numbers s'.summary) where
    lm : length s'.marks ≡ length s.marks
    lm = marks_kept b

    abbrev left : Store
    left = record { arrays = arrays_of index s'; capacity = index.capacity; alpha = index.alpha; entry = entry' }

    abbrev stats_left : List Stats
    stats_left = map (stats_of scratch' (stats_at index.capacity)) (range 0 n)

    -- the batch, of the index as the calls have it
    does_delete : delete_batch store_ops beam degree given ids ≡ (left, stats_left)
    unfolding state_of
    does_delete =
        deleted_store given (sym (passed_marks able)) lm b
        ∙ ap (λ (c : ℕ). (left, map (stats_of scratch' (stats_at c)) (range 0 n))) (passed_marks able)

    emptied_are : n ≡ length (emptied (store_view given) ids)
    unfolding state_of
    emptied_are = b.count ∙ ap (λ (c : ℕ). length (emptied (store_view (record { arrays = given.arrays; capacity = c; alpha = index.alpha; entry = index.entry })) ids)) (passed_marks able)

    -- as many fewer are live
    live_before : index.live ≡ length (live_slots (store_view left)) + n
    unfolding store_ops state_of
    live_before =
        let c = live_after_delete store_ops MarksFit store_marking given (passed_marks able) beam degree ids in
        able.live_right ∙ c ∙ ap₂ (λ (g : Store) (m : ℕ). length (live_slots (store_view g)) + m) (ap (λ x. x.0) does_delete) (sym emptied_are)

    pub fewer_fits : (n ≤ index.live) × (n ≤ 65536)
    unfolding state_of store_view
    fewer_fits = let f = live_and_free (store_view given) in (omega (arith, live_before), omega (arith, live_before, able.live_right, able.capacity_high, f))

    live_left : index.live - n ≡ length (live_slots (store_view left))
    live_left = omega (arith, live_before)

    -- the numbers of those that are live still
    so_many : length s'.marks ≡ index.capacity
    so_many = lm ∙ passed_marks able

    numbers_left : s'.numbers ≡ live_numbers (is_valid s'.marks) index.capacity s.numbers
    numbers_left = k.zeroed ∙ ap (λ c. live_numbers (is_valid s'.marks) c s.numbers) so_many

    still_live : (t : ℕ) → is_valid s'.marks t ≡ true → is_valid s.marks t ≡ true
    unfolding store_ops store_view state_of
    still_live t h =
        none_revived store_ops MarksFit store_marking given (passed_marks able) beam degree ids t
        (ap (λ (g : Store). (store_view g).live t) (ap (λ x. x.0) does_delete) ∙ h)

    summary_left : s'.summary ≡ summary_of (is_valid s'.marks) index.capacity (live_numbers (is_valid s'.marks) index.capacity s.numbers)
    unfolding state_of store_view
    summary_left =
        k.listed (is_valid s.marks) (subst (λ c. Labelled (is_valid s.marks) c s.numbers s.summary) (sym so_many) able.labelled)
        (able.live_right ∙ ap (λ c. length (filter (is_valid s.marks) (range 0 c))) (sym so_many)) (λ t h e. still_live t e)
        ∙ ap₂ (λ (c : ℕ) (l : List ℕ). summary_of (is_valid s'.marks) c l) so_many numbers_left

    -- the index that is left, by value and by its slices, and its stats
    pub state_left : {i : Index} → s'.pool ≡ s.pool → s'.weights ≡ s.weights → i ≡ with_entry index entry' (index.live - n)
        → (state_of i s', stats_left) ≡ deletion stored (state_of index s) (slot_delete ids beam degree)
    unfolding deletion slots_of with_graph state_of stored store_ops store_view
    state_left p w e =
        ap (λ (j : Index). (state_of j s', stats_left)) e
        ∙ (λ i. (record { graph = left; live = live_left i; guard = guard_of index.guard; pool = p i; numbers = numbers_left i; summary = summary_left i; weights = w i }, stats_left))
        ∙ ap (λ (d : Store × List Stats). let v = store_view d.0 in (with_graph stored (state_of index s) d.0 (live_numbers v.live v.sizes.capacity s.numbers), d.1)) (sym does_delete)

-- ---- a delete of slots

-- a delete of slots that was checked, with its slices read as s₀
pub record DeleteChecked (index : Index) (s₀ s : Slices) (ids : List ℕ) (beam degree room : ℕ) (scratch : List ℕ) {A : Type 0} (r : Result A Refusal) : Type 0 where
  pub read : s₀ ≡ s
  pub decided : Decided index s₀ (ltb room (length ids)) (delete_tests index (slot_delete ids beam degree) (length scratch)) r

module _ {index : Index} {s₀ s : Slices} {ids : List ℕ} {beam degree room : ℕ} {scratch : List ℕ} {A : Type 0} {r : Result A Refusal} (checked : DeleteChecked index s₀ s ids beam degree room scratch r) where
  abbrev Tests : Slices → ℕ → Type 0
  Tests s room = Decided index s (ltb room (length ids)) (delete_tests index (slot_delete ids beam degree) (length scratch)) r

  d : Tests s room
  d = subst (λ (x : Slices). Tests x room) checked.read checked.decided

  abbrev call : List Stats → Call
  call before = record { lent = lent_of s (stats_outputs before) scratch; operation = delete (slot_delete ids beam degree) }

  -- for a list of that room
  with_list : (before : List Stats) → length before ≡ room → Tests s (length before)
  with_list before e = subst (λ (k : ℕ). Tests s k) (sym e) d

  pub deletes_back : {x : Refusal} → r ≡ Err x → Deletes index s (slot_delete ids beam degree) room scratch s scratch (Err x)
  unfolding tests refused_as deleted_as index_left written state_of stored store_ops store_view shown room_of call_of slices_of
  deletes_back {x} n =
      record {
        stats = [];
        words = λ c e. cc;
        fits = λ c e. cc;
        meets = λ before e. record { does = sym (step_back (state_of index s) (call before) (number_of x) (turned_back (with_list before e) n)); writes = refl; keeps = λ m e. refl };
      }

  module _ {u : A} (z : r ≡ Ok u) where
    pub able : Passed index s
    able = passed d z

    own : (delete_over limits (slot_delete ids beam degree) ≡ false) × (ltb (length scratch) (size_answer index.capacity) ≡ false)
    own =
        let short = ltb (length scratch) (size_answer index.capacity) in
        let e = first_none 7 (delete_over limits (slot_delete ids beam degree)) ((8, short) ∷ []) (own_none d z) in
        (e.0, (first_none 8 short [] e.1).0)

    pub deletes_able : Deletable (arrays_of index s) index.entry beam degree ids scratch
        × Weighing s.weights × (length s.weights ≡ index.dim) × (length s.numbers ≡ length s.marks) × (index.live ≤ length s.summary)
    deletes_able = let k = strike_able able ids beam degree in (delete_able able ids beam degree scratch own.0 own.1, passed_weighing able, able.weights_long, k.0, k.1)

    not_refused : (before : List Stats) → length before ≡ room → (m : ℕ) → refusal stored (state_of index s) (call before) ≡ some m → ⊥
    unfolding refusal tests state_of stored store_ops store_view shown room_of
    not_refused before e m h = let g = sym (let_through (with_list before e) z) ∙ h in let x : ◌≡◌ {A = ℕ} 0 1 = cc in omega arith

    module _ (s' : Slices) {scratch' : List ℕ} {entry' n : ℕ}
        (b : BatchDeleted (arrays_of index s) index.alpha index.entry beam degree ids (arrays_of index s') entry' n scratch')
        (k : Struck s'.marks s.numbers s.summary index.live s'.numbers s'.summary) where
      pub deletes_few : n ≤ index.live
      deletes_few = (fewer_fits able ids beam degree s' b k).0

      pub deletes_on : {c : Changed} → s'.pool ≡ s.pool → s'.weights ≡ s.weights → c ≡ fewer index entry' n
          → Deletes index s (slot_delete ids beam degree) room scratch s' scratch' (Ok c)
      unfolding tests perform deleted_as index_left written state_of stored store_ops store_view shown room_of call_of slices_of run_refusal
      deletes_on {c} p w e =
          let left = state_left able ids beam degree s' b k p w (ap (λ x. x.index) e) in
          record {
            stats = map (stats_of scratch' (stats_at index.capacity)) (range 0 n);
            words = λ k g. ap (λ (x : ℕ). map (stats_of scratch' (stats_at index.capacity)) (range 0 x)) (counted k g);
            fits = λ k g. omega (arith, counted k g, b.few, ltb-false room (length ids) (not_wrong d z));
            meets = λ before l. record {
              does = ap (λ (v : State Store × List Stats). (v.0, deleted v.1)) left ∙ sym (step_on (state_of index s) (call before) (let_through (with_list before l) z));
              writes = refl;
              keeps = λ m g. absurd (not_refused before l m g);
            };
          }
        where
          counted : (k : Changed) → ◌≡◌ {A = Result Changed Refusal} (Ok c) (Ok k) → n ≡ k.count
          counted k g = sym (ap (λ x. x.count) e) ∙ ap (λ x. x.count) (ok_is g)
