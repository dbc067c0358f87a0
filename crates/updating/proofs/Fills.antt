-- Insert: what the code decides and writes is what the definitions say. Assumes nothing.
use Prim.Native.Nat.{ℕ, ◌+◌, ◌-◌, ◌*◌, ◌/◌, ◌≤◌, ◌<◌}
use mathlib.Core.Bool.{Bool, true, false, not, ◌&&◌, ◌||◌, cond}
use mathlib.Core.Path.{◌≡◌, refl, sym, ap, ap₂, ◌∙◌, subst}
use mathlib.Core.List.{List, [], ◌∷◌}
use mathlib.Core.Option.{Option, none, some}
use native.Mathlib.Omega.{arith}
use borrow.Author.Tests.{lt-ltb, le-ltb, ltb-false, eq-eqb, ne_eqb, eqb-true, not-false}
use lib.Dec.{eqb, ltb}
use lib.ListN.{length, take, drop, length-map}
use lib.Seq.{length-take-le, take-append-le, take-length}
use Rattle.std.proofs.lemmas.Bool.{or_parts}
use Rattle.lists.specs.Lists.{filter, range, elem, put_front}
use Rattle.lists.proofs.All.{by_cases}
use Rattle.lists.proofs.Filtered.{count_both}
use Rattle.lists.proofs.Ranges.{length_range}
use Rattle.vectors.specs.Weights.{Weighing}
use Rattle.slots.specs.Sizes.{Slices, limits, alpha_ok}
use Rattle.slots.specs.Scratch.{size_answer}
use Rattle.slots.specs.View.{live_slots, free_slots}
use Rattle.slots.specs.Store.{Store, is_valid, store_view, store_ops}
use Rattle.slots.proofs.Live.{MarksFit, store_marking}
use Rattle.numbers.specs.Numbers.{taken, write_numbers, summary_of}
use Rattle.numbers.specs.Inner.Listed.{Listed, Inserting, Entering}
use Rattle.numbers.proofs.Listing.{inserting_entering}
use Rattle.row.specs.Row.{index_of}
use Rattle.insert.specs.Insert.{insert_batch, first_entry, insert_entering}
use Rattle.insert.proofs.Free.{sizes_after_batch, sizes_after_insert, live_after_insert}
use Rattle.insert.proofs.Entry.{first_is}
use Rattle.insertion.specs.Batch.{Insertable, BatchInserted}
use Rattle.insertion.proofs.Batching.{insert_enough, inserted_store}
use Rattle.calls.specs.Calls.{Insert, insert, Call, inserted, refused_as}
use Rattle.calls.specs.Refusals.{first_of, tests}
use Rattle.calls.specs.Outputs.{Outputs, room_of, written}
use Rattle.calls.specs.State.{State, stored, shown, with_graph}
use Rattle.calls.specs.Step.{vectors_of, refusal, perform}
use Rattle.calls.specs.Runs.{lent_of, slices_of, call_of, run_refusal}
use Rattle.calls.proofs.Tests.{first_none}
use Rattle.calls.proofs.Count.{Insertable as InsertFinds, insert_finds}
use Rattle.calls.proofs.Labelled.{inserting_now, filled_now}
use Rattle.index.specs.declared.Index.{Index}
use Rattle.index.specs.Index.{guard_of, state_of, arrays_of}
use Rattle.index.specs.Inner.Deciding.{Decided, Passed}
use Rattle.index.proofs.Decide.{decided_before, decided_after, turned_back, let_through, own_none, not_wrong, passed, passed_none, passed_rows, passed_marks, passed_bytes, passed_weighing, passed_live, passed_listed, step_back, step_on}
use Rattle.std.specs.Prelude.{Result, Ok, Err}
use Rattle.index.specs.declared.Refusal.{Refusal}
use Rattle.index.specs.declared.Refusal.TheVariants as Refused
use Rattle.index.specs.Refusal.{number_of}
use Rattle.updating.specs.declared.Changed.{Changed}
use Rattle.updating.specs.Insert.{insert_outputs, inserted_as, index_after, Inserts}
use Rattle.updating.specs.Inner.Filling.{insert_wrong, insert_tests, with_first_entry, with_live, Labelable, Relabelled}

pub ok_is : {A E : Type 0} {x y : A} → ◌≡◌ {A = Result A E} (Ok x) (Ok y) → x ≡ y
ok_is e = cc

-- ---- rows 7 to 10, and 15

-- an insert whose index was looked at
pub record Asked (index : Index) (s : Slices) (a : Insert) (slots n : ℕ) (wrong : Bool) {A : Type 0} (r : Result A Refusal) : Type 0 where
  pub count : n ≡ length a.bytes / index.dim
  pub room : wrong ≡ (ltb slots n || not (eqb (length a.numbers) n))
  pub decided : Decided index s wrong [] r

module _ {index : Index} {s : Slices} {a : Insert} {slots : ℕ} (scratch : ℕ) {n : ℕ} {wrong : Bool} {A : Type 0} {r : Result A Refusal} (k : Asked index s a slots n wrong r) where
  abbrev Turns : Result A Refusal → Type 0
  Turns x = Decided index s (insert_wrong index a slots) (insert_tests index s a scratch) x

  right : Decided index s (insert_wrong index a slots) [] r
  right = subst (λ (q : Bool). Decided index s q [] r) (k.room ∙ ap (λ (x : ℕ). ltb slots x || not (eqb (length a.numbers) x)) k.count) k.decided

  pub turns_before : {x : Refusal} → r ≡ Err x → Turns (Err x)
  turns_before z = decided_before right _ z

  module _ {u : A} (z : r ≡ Ok u) where
    holds : Passed index s
    holds = passed k.decided z

    -- the live slots are counted, so the others are free
    free_is : index.live + length (filter (λ t. not (is_valid s.marks t)) (range 0 index.capacity)) ≡ index.capacity
    free_is = omega (arith, passed_live holds, count_both (is_valid s.marks) (range 0 index.capacity), length_range 0 index.capacity)

    pub turns_live : index.live ≤ index.capacity
    turns_live = omega (arith, free_is)

    pub turns_over : 1024 < a.beam → Turns (Err Refused.Limits)
    unfolding limits
    turns_over h = decided_after right _ _ z (rw (lt-ltb 1024 a.beam h))

    module _ (b : a.beam ≤ 1024) {q₈ : Bool} (e₈ : q₈ ≡ ltb scratch (size_answer index.capacity)) where
      pub turns_short : q₈ ≡ true → Turns (Err Refused.Scratch)
      unfolding limits
      turns_short t = decided_after right _ _ z (rw (le-ltb 1024 a.beam b, sym e₈ ∙ t))

      module _ (f₈ : q₈ ≡ false) where
        pub turns_left : (length a.bytes ≡ n * index.dim → ⊥) → Turns (Err Refused.Bytes)
        unfolding limits
        turns_left t =
            decided_after right _ _ z
            (rw (le-ltb 1024 a.beam b, sym e₈ ∙ f₈, ne_eqb (length a.bytes) (length a.bytes / index.dim * index.dim) (λ x. t (x ∙ ap (λ m. m * index.dim) (sym k.count)))))

        module _ (f₉ : length a.bytes ≡ n * index.dim) {q₁₀ : Bool} (e₁₀ : q₁₀ ≡ ltb (index.capacity - index.live) n) where
          whole_is : eqb (length a.bytes) (length a.bytes / index.dim * index.dim) ≡ true
          whole_is = eq-eqb (length a.bytes) (length a.bytes / index.dim * index.dim) (f₉ ∙ ap (λ m. m * index.dim) k.count)

          few : q₁₀ ≡ ltb (length (filter (λ t. not (is_valid s.marks t)) (range 0 index.capacity))) (length a.bytes / index.dim)
          few = e₁₀ ∙ ap₂ ltb (omega (arith, free_is)) k.count

          pub turns_few : q₁₀ ≡ true → Turns (Err Refused.Full)
          unfolding limits
          turns_few t = decided_after right _ _ z (rw (le-ltb 1024 a.beam b, sym e₈ ∙ f₈, whole_is, sym few ∙ t))

          module _ (f₁₀ : q₁₀ ≡ false) where
            -- the numbers can be looked up, and no more are given than there are slots
            pub turns_listed : Listed s.numbers s.summary index.live × (length a.numbers ≤ 65536)
            turns_listed = (
              passed_listed holds,
              omega (
                arith,
                ltb-false (index.capacity - index.live) n (sym e₁₀ ∙ f₁₀),
                holds.capacity_high,
                eqb-true (length a.numbers) n (not-false (eqb (length a.numbers) n) (or_parts (ltb slots n) (not (eqb (length a.numbers) n)) (sym k.room ∙ not_wrong k.decided z)).1),
              ),
            )

            module _ {q₁₅ : Bool} (e₁₅ : q₁₅ ≡ taken s.numbers a.numbers) where
              pub turns_taken : q₁₅ ≡ true → Turns (Err Refused.Numbers)
              unfolding limits
              turns_taken t = decided_after right _ _ z (rw (le-ltb 1024 a.beam b, sym e₈ ∙ f₈, whole_is, sym few ∙ f₁₀, sym e₁₅ ∙ t))

              pub turns_none : {v : A} → q₁₅ ≡ false → Turns (Ok v)
              unfolding limits
              turns_none t = decided_after right _ _ z (rw (le-ltb 1024 a.beam b, sym e₈ ∙ f₈, whole_is, sym few ∙ f₁₀, sym e₁₅ ∙ t))

-- ---- numbers and summary

-- the slots filled can be entered
module _ {numbers summary : List ℕ} {live : ℕ} {slots given : List ℕ} (k : Labelable numbers summary live slots given) {numbers' : List ℕ}
    (e : numbers' ≡ write_numbers (take (length given) slots) given numbers) where
  pub label_entering : Entering numbers' summary live (take (length given) slots)
  label_entering = inserting_entering k.inserting e k.many

-- ---- an insert

-- an insert that was checked, with its slices read as s₀
pub record InsertChecked (index : Index) (s₀ s : Slices) (a : Insert) (slots scratch : List ℕ) {A : Type 0} (r : Result A Refusal) : Type 0 where
  pub read : s₀ ≡ s
  pub decided : Decided index s₀ (insert_wrong index a (length slots)) (insert_tests index s₀ a (length scratch)) r

module _ {index : Index} {s₀ s : Slices} {a : Insert} {slots scratch : List ℕ} {A : Type 0} {r : Result A Refusal} (checked : InsertChecked index s₀ s a slots scratch r) where
  d : Decided index s (insert_wrong index a (length slots)) (insert_tests index s a (length scratch)) r
  d = subst (λ (x : Slices). Decided index x (insert_wrong index a (length slots)) (insert_tests index x a (length scratch)) r) checked.read checked.decided

  abbrev call : Call
  call = record { lent = lent_of s (insert_outputs slots) scratch; operation = insert a }

  abbrev count : ℕ
  count = length a.bytes / index.dim

  abbrev over : Bool
  over = ltb limits.beam a.beam

  abbrev small : Bool
  small = ltb (length scratch) (size_answer index.capacity)

  abbrev odd : Bool
  odd = not (eqb (length a.bytes) (count * index.dim))

  abbrev full : Bool
  full = ltb (length (filter (λ t. not (is_valid s.marks t)) (range 0 index.capacity))) count

  pub inserts_back : {x : Refusal} → r ≡ Err x → Inserts index s a (insert_outputs slots) scratch s (insert_outputs slots) scratch (Err x)
  unfolding tests refused_as inserted_as index_after written state_of stored store_ops store_view shown room_of call_of slices_of
  inserts_back {x} n =
      record {
        filled = [];
        counts = λ c h. cc;
        meets = record { does = sym (step_back (state_of index s) call (number_of x) (turned_back d n)); writes = refl; keeps = λ m e. refl };
      }

  module _ {u : A} (z : r ≡ Ok u) where
    abbrev able : Passed index s
    able = passed d z

    -- none of the call's tests holds
    let_on : first_of (tests limits call.lent (shown stored (state_of index s)) (insert a)) ≡ none
    unfolding tests state_of stored store_ops store_view shown room_of
    let_on = let_through d z

    pub finds : InsertFinds call.lent (shown stored (state_of index s)) a
    finds = insert_finds call.lent (shown stored (state_of index s)) a let_on

    own : (over ≡ false) × (small ≡ false)
    own =
        let e = first_none 7 over ((8, small) ∷ (9, odd) ∷ (10, full) ∷ (15, taken s.numbers a.numbers) ∷ []) (own_none d z) in
        (e.0, (first_none 8 small ((9, odd) ∷ (10, full) ∷ (15, taken s.numbers a.numbers) ∷ []) e.1).0)

    beam_most : a.beam ≤ 1024
    unfolding limits
    beam_most = ltb-false 1024 a.beam own.0

    enough_free : count ≤ length (filter (λ t. not (is_valid s.marks t)) (range 0 index.capacity))
    unfolding shown stored store_ops store_view state_of
    enough_free = finds.room

    -- the entry that the batch begins with
    abbrev first : ℕ
    first = (with_first_entry index (length a.numbers)).entry

    first_inside : first < index.capacity
    first_inside =
        by_cases (λ (e : ℕ). e < index.capacity) (eqb index.live 0 && not (eqb (length a.numbers) 0)) (λ q. able.capacity_low) (λ q. able.entry_inside)

    abbrev graph : Store
    graph = (state_of index s).graph

    abbrev vs : List (List ℕ)
    vs = vectors_of index.dim a.bytes

    all : length vs ≡ count
    all = simp length-map (length_range 0 count)

    -- is the one that an insert sets
    first_set : first ≡ first_entry (store_view graph) (take (length vs) (free_slots (store_view graph)))
    unfolding shown stored store_ops store_view state_of
    first_set =
        ap₂ (λ (live n : ℕ). cond (eqb live 0 && not (eqb n 0)) 0 index.entry) able.live_right (finds.as_many ∙ sym all)
        ∙ sym (first_is (store_view graph) (length vs) (rw all enough_free))

    pub insert_able : Insertable (arrays_of index s) index.alpha first a.beam a.bytes slots scratch
    unfolding store_view
    insert_able =
        let p = able in
        let m = passed_marks p in
        record {
          together = record { bytes = passed_bytes p; rows = passed_rows p; degree_most = p.degree_high };
          dim_least = p.dim_low;
          entry_in = rw m first_inside;
          beam_most = beam_most;
          room_in = ltb-false (length slots) count (or_parts (ltb (length slots) count) (not (eqb (length a.numbers) count)) (not_wrong d z)).0;
          free_in = rw m enough_free;
          enough = rw m (omega (arith, insert_enough index.capacity index.degree p.degree_high, ltb-false (length scratch) (size_answer index.capacity) own.1));
        }

    -- the weights measure
    pub insert_weighed : Weighing s.weights × (length s.weights ≡ index.dim)
    insert_weighed = (passed_weighing able, able.weights_long)

    -- of the slices that the batch leaves
    module _ (s' : Slices) {slots' : List ℕ} {n : ℕ}
        (b : BatchInserted (arrays_of index s) index.alpha first a.beam a.bytes slots (arrays_of index s') slots' n) where
      lm : length s'.marks ≡ length s.marks
      unfolding store_ops store_view
      lm =
          ap (λ (g : Store). (store_view g).sizes.capacity) b.index
          ∙ ap (λ z. z.capacity) (sizes_after_batch store_ops MarksFit store_marking (index_of index.alpha first (arrays_of index s)) refl a.beam _)

      abbrev graph' : Store
      graph' = record { arrays = arrays_of index s'; capacity = index.capacity; alpha = index.alpha; entry = first }

      graph_is : graph' ≡ insert_entering store_ops a.beam graph vs
      unfolding state_of store_ops insert_entering
      graph_is =
          inserted_store (store_ops.enter graph first) (sym (passed_marks able)) lm b
          ∙ ap (λ (e : ℕ). insert_batch store_ops a.beam (store_ops.enter graph e) vs) first_set

      -- as many more are live
      live_is_more : index.live + n ≡ length (live_slots (store_view graph'))
      unfolding store_ops store_view state_of
      live_is_more =
          let few : length vs ≤ length (filter (λ t. not (is_valid s.marks t)) (range 0 index.capacity)) = rw all enough_free in
          let more = live_after_insert store_ops MarksFit store_marking graph (passed_marks able) a.beam vs few in
          let e : index.live + n ≡ length (live_slots (store_view graph)) + length vs = ap₂ (λ (x y : ℕ). x + y) able.live_right (b.count ∙ sym all) in
          e ∙ sym more ∙ ap (λ (g : Store). length (live_slots (store_view g))) (sym graph_is)

      pub more_fits : index.live + n ≤ 65536
      unfolding state_of store_view
      more_fits =
          omega (arith, b.count, enough_free, able.live_right, able.capacity_high, count_both (is_valid s.marks) (range 0 index.capacity), length_range 0 index.capacity)

      abbrev filled : List ℕ
      filled = take (length vs) (filter (λ t. not (is_valid s.marks t)) (range 0 index.capacity))

      slots_are : slots' ≡ put_front filled slots
      unfolding store_view
      slots_are =
          b.numbers
          ∙ ap₂ (λ (k c : ℕ). put_front (take k (filter (λ t. not (is_valid s.marks t)) (range 0 c))) slots) (b.count ∙ sym all) (passed_marks able)

      counted : n ≡ length filled
      counted = b.count ∙ sym all ∙ sym (length-take-le (length vs) _ (rw all enough_free))

      -- as many numbers as slots, which stand at the front
      given_many : length a.numbers ≡ length filled
      unfolding shown stored store_ops store_view state_of
      given_many = finds.as_many ∙ sym b.count ∙ counted

      front_is : take (length a.numbers) slots' ≡ filled
      front_is =
          ap₂ (λ (k : ℕ) (l : List ℕ). take k l) given_many slots_are
          ∙ take-append-le (length filled) filled (drop (length filled) slots) (omega arith)
          ∙ take-length filled

      inserting_is : Inserting (is_valid s.marks) index.capacity s.numbers s.summary filled a.numbers
      unfolding state_of stored store_ops store_view slices_of shown
      inserting_is = inserting_now (state_of index s) call.lent refl a finds

      live_then : (t : ℕ) → t < index.capacity → is_valid s'.marks t ≡ (is_valid s.marks t || elem t filled)
      unfolding state_of stored store_ops store_view slices_of shown
      live_then t h = ap (λ (g : Store). (store_view g).live t) graph_is ∙ filled_now (state_of index s) call.lent refl a finds t h

      many_live : index.live ≡ length (filter (is_valid s.marks) (range 0 index.capacity))
      unfolding state_of store_view
      many_live = able.live_right

      pub insert_labelable : length slots' ≡ length slots → Labelable s.numbers s.summary index.live slots' a.numbers
      insert_labelable ls =
          let c = able.numbers_long in
          record {
            before = is_valid s.marks;
            inserting = subst (λ n. Inserting (is_valid s.marks) n s.numbers s.summary (take (length a.numbers) slots') a.numbers) (sym c)
                (subst (λ l. Inserting (is_valid s.marks) index.capacity s.numbers s.summary l a.numbers) (sym front_is) inserting_is);
            many = many_live ∙ ap (λ n. length (filter (is_valid s.marks) (range 0 n))) (sym c);
            long = omega (arith, given_many, counted, b.count, ls, insert_able.room_in);
          }

      -- of slices with the graph that the batch leaves, and the pool and the weights that there were
      module _ (s₂ : Slices) (left : (arrays_of index s₂ ≡ arrays_of index s') × (s₂.pool ≡ s.pool) × (s₂.weights ≡ s.weights))
          (k : Relabelled s.numbers s.summary index.live slots' a.numbers s₂.numbers s₂.summary) where
        numbers_are : s₂.numbers ≡ write_numbers filled a.numbers s.numbers
        numbers_are = k.numbers_new ∙ ap (λ l. write_numbers l a.numbers s.numbers) front_is

        summary_is : s₂.summary ≡ summary_of (is_valid s'.marks) index.capacity (write_numbers filled a.numbers s.numbers)
        summary_is =
            let c = able.numbers_long in
            k.summary_new (is_valid s.marks) (is_valid s'.marks)
            (subst (λ n. Inserting (is_valid s.marks) n s.numbers s.summary (take (length a.numbers) slots') a.numbers) (sym c)
            (subst (λ l. Inserting (is_valid s.marks) index.capacity s.numbers s.summary l a.numbers) (sym front_is) inserting_is))
            (many_live ∙ ap (λ n. length (filter (is_valid s.marks) (range 0 n))) (sym c))
            (λ t h. live_then t (omega (arith, h, c)) ∙ ap (λ l. is_valid s.marks t || elem t l) (sym front_is))
            ∙ ap₂ (λ (n : ℕ) (l : List ℕ). summary_of (is_valid s'.marks) n l) c numbers_are

        not_refused : (m : ℕ) → refusal stored (state_of index s) call ≡ some m → ⊥
        unfolding refusal
        not_refused m h = let g = sym let_on ∙ h in let x : ◌≡◌ {A = ℕ} 0 1 = cc in omega arith

        pub inserts_on : {scratch' : List ℕ} {i : Index} → i ≡ with_live (with_first_entry index (length a.numbers)) (index.live + n)
            → Inserts index s a (insert_outputs slots) scratch s₂ (insert_outputs slots') scratch' (Ok (record { index = i; count = n }))
        unfolding perform with_graph inserted_as index_after written state_of stored store_ops store_view room_of call_of slices_of run_refusal
        inserts_on {scratch'} {i} e =
            let numbers = write_numbers filled a.numbers s.numbers in
            let after : state_of i s₂ ≡ with_graph stored (state_of index s) (insert_entering store_ops a.beam graph vs) numbers =
            ap (λ (j : Index). state_of j s₂) e
            ∙ (λ i. record {
              graph = record { arrays = left.0 i; capacity = index.capacity; alpha = index.alpha; entry = first };
              live = live_is_more i;
              guard = guard_of index.guard;
              pool = left.1 i;
              weights = left.2 i;
              numbers = numbers_are i;
              summary = summary_is i;
            })
            ∙ ap (λ (g : Store). with_graph stored (state_of index s) g numbers) graph_is in
            record {
              filled = filled;
              counts = λ c q. sym (ap (λ x. x.count) (ok_is q)) ∙ counted;
              meets = record {
                does = ap (λ (w : State Store). (w, inserted filled)) after ∙ sym (step_on (state_of index s) call let_on);
                writes = ap (λ (l : List ℕ). insert_outputs l) slots_are;
                keeps = λ m g. absurd (not_refused m g);
              };
            }

-- ---- the new index's alpha: the one that was accepted

module _ {index : Index} {s : Slices} {a : Insert} {outputs : Outputs} {scratch : List ℕ} {s' : Slices} {outputs' : Outputs} {scratch' : List ℕ} {new : Changed}
    (c : Inserts index s a outputs scratch s' outputs' scratch' (Ok new)) where
  pub inserted_alpha : (new.index.alpha ≡ index.alpha) × (alpha_ok index.alpha ≡ true)
  unfolding tests perform with_graph refused_as inserted_as index_after state_of stored store_ops store_view shown room_of call_of slices_of
  inserted_alpha = go _ refl
    where
      on : State Store
      on = state_of index s

      asked : Call
      asked = record { lent = lent_of s outputs scratch; operation = insert a }

      go : (o : Option ℕ) → first_of (tests limits asked.lent (shown stored on) (insert a)) ≡ o → (new.index.alpha ≡ index.alpha) × (alpha_ok index.alpha ≡ true)
      go (some m) e =
          let b : inserted c.filled ≡ refused_as m (insert a) = ap (λ x. x.1) (c.meets.does ∙ step_back on asked m e) in
          absurd (let z : ◌≡◌ {A = ℕ} 0 1 = cc in omega arith)
      go none e =
          let p = passed_none index s _ _ e in
          let g = on.graph in
          let vs = vectors_of index.dim a.bytes in
          let w : state_of new.index s' ≡ with_graph stored on (insert_entering store_ops a.beam g vs) _ = ap (λ x. x.0) (c.meets.does ∙ step_on on asked e) in
          (ap (λ x. x.graph.alpha) w ∙ ap (λ z. z.alpha) (sizes_after_insert store_ops MarksFit store_marking g (passed_marks p) a.beam vs), p.alpha_right)
