-- Figure numbers over the calls: the proof of `FigureNumbers`. Assumes nothing.
use Prim.Native.Nat.{ℕ, zero, suc, ◌/◌, ◌≤◌, ◌<◌}
use mathlib.Core.Bool.{Bool, true, false, not, ◌||◌, true≢false}
use mathlib.Core.Option.{Option, none, some}
use mathlib.Core.Path.{◌≡◌, refl, sym, ap, ap₂, ◌∙◌, subst}
use mathlib.Core.List.{List, [], ◌∷◌, map}
use native.Mathlib.Omega.{arith}
use borrow.Author.Tests.{eq-eqb, ne_eqb, eqb-true, not-true}
use native.Mathlib.Decide.{dec_lt}
use lib.Dec.{eqb}
use lib.ListN.{length, take, drop, get_or, set, length-map, length-set}
use lib.Seq.{length-take-le, get_or-set_same}
use Rattle.std.proofs.lemmas.Bool.{or_parts}
use Rattle.lists.specs.Lists.{All, Pairwise, filter, range, elem}
use Rattle.lists.proofs.Ranges.{length_range, filtered_below}
use Rattle.lists.proofs.Filtered.{elem_filtered}
use Rattle.lists.proofs.All.{all_map, all_take, filter_test}
use Rattle.lists.proofs.Unique.{Unique}
use Rattle.vectors.specs.Distance.{distance}
use Rattle.slots.specs.Sizes.{Sizes, Lengths, lengths_of, exact, limits}
use Rattle.slots.specs.View.{View, free_slots}
use Rattle.slots.specs.Store.{Store, blank, store_view, store_ops}
use Rattle.slots.specs.Plain.{new_plain}
use Rattle.slots.proofs.Live.{MarksFit, store_marking}
use Rattle.slots.proofs.New.{agree_new}
use Rattle.numbers.specs.Numbers.{number_of, slot_of, write_numbers, live_numbers, summary_of, Labelled}
use Rattle.numbers.specs.Inner.Listed.{Inserting}
use Rattle.numbers.proofs.Order.{all_elem, apart_unique, unique_apart}
use Rattle.numbers.proofs.Named.{slot_none, number_live, slot_of_live, elem_at, at_elem}
use Rattle.numbers.proofs.Writes.{live_numbers_at}
use Rattle.numbers.proofs.Exact.{labelled_exact, exact_labelled, range_in, live_unique}
use Rattle.numbers.proofs.Kept.{write_other, labelled_inserted, labelled_deleted, labelled_made}
use Rattle.insert.specs.Insert.{insert_entering}
use Rattle.insert.proofs.Free.{sizes_after_insert, free_after_insert}
use Rattle.repair.specs.Delete.{delete_batch}
use Rattle.repair.proofs.Count.{sizes_after_delete, none_revived}
use Rattle.guard.specs.Guard.{Report}
use Rattle.calls.specs.Calls.{Making, Reading, read_dim, read_capacity, read_degree, read_alpha, read_entry, read_live, read_mark, read_version, read_number, read_target, Insert, Delete, Naming, of_slots, of_numbers, Operation, create, read, read_vector, search, insert, delete, enable, status, assess, guarded_delete, Lent, Call, Answer, inserted, deleted, applied, refused_as}
use Rattle.calls.specs.Refusals.{Test, first_of, making_tests, tests}
use Rattle.calls.specs.State.{State, stored, plain, shown, made, with_graph, with_guard, view_of}
use Rattle.calls.specs.Step.{vectors_of, report_of, slots_of, named, reading, deletion, guarded, perform, refusal, settle, step}
use Rattle.calls.specs.Runs.{slices_of}
use Rattle.calls.specs.Labelled.{Rules, by_slots, bare, bare_call, bare_answer, FigureNumbers}
use Rattle.calls.proofs.Tests.{passed_lengths, capacity_within, accepted, numbers_given, Finds, index_finds}
use Rattle.calls.proofs.Count.{Insertable, insert_finds}

-- ---- which slots are live after an insert

elem_split : (s k : ℕ) (xs : List ℕ) → elem s xs ≡ (elem s (take k xs) || elem s (drop k xs))
elem_split s zero xs = refl
elem_split s (suc k) [] = refl
elem_split s (suc k) (x ∷ xs) = go (eqb s x) (elem_split s k xs)
  where
    go : (q : Bool) → elem s xs ≡ (elem s (take k xs) || elem s (drop k xs)) → (q || elem s xs) ≡ ((q || elem s (take k xs)) || elem s (drop k xs))
    go true e = refl
    go false e = e

-- of distinct elements none stands in both parts
once : (s k : ℕ) (xs : List ℕ) → Unique xs → elem s (take k xs) ≡ true → elem s (drop k xs) ≡ false
once s zero xs u e = absurd (let z : ◌≡◌ {A = ℕ} 0 1 = cc in omega arith)
once s (suc k) [] u e = refl
once s (suc k) (x ∷ xs) u e = go (eqb s x) refl e (once s k xs u.1)
  where
    go : (q : Bool) → eqb s x ≡ q → (q || elem s (take k xs)) ≡ true → (elem s (take k xs) ≡ true → elem s (drop k xs) ≡ false) → elem s (drop k xs) ≡ false
    go true f h rest = (or_parts (elem s (take k xs)) (elem s (drop k xs)) (sym (elem_split s k xs) ∙ subst (λ y. elem y xs ≡ false) (sym (eqb-true s x f)) u.0)).1
    go false f h rest = rest h

module _ (live live' : ℕ → Bool) (n k : ℕ) (e : filter (λ s. not (live' s)) (range 0 n) ≡ drop k (filter (λ s. not (live s)) (range 0 n))) where
  abbrev free : List ℕ
  free = filter (λ s. not (live s)) (range 0 n)

  filled_live : (s : ℕ) → s < n → live' s ≡ (live s || elem s (take k free))
  filled_live s h =
      go (live s) (live' s) (elem s (take k free)) (elem s (drop k free))
      (sym (elem_filtered (λ t. not (live t)) s (range 0 n) (range_in s n h)) ∙ elem_split s k free)
      (sym (elem_filtered (λ t. not (live' t)) s (range 0 n) (range_in s n h)) ∙ ap (elem s) e)
      (once s k free (live_unique (λ t. not (live t)) n))
    where
      go : (l l' t d : Bool) → not l ≡ (t || d) → not l' ≡ d → (t ≡ true → d ≡ false) → l' ≡ (l || t)
      go l true true d a b c = or_one l
        where
          or_one : (q : Bool) → true ≡ (q || true)
          or_one true = refl
          or_one false = refl
      go l false true d a b c = absurd (let f = b ∙ c refl in let z : ◌≡◌ {A = ℕ} 0 1 = cc in omega arith)
      go true true false d a b c = refl
      go true false false d a b c = absurd (let f = b ∙ sym a in let z : ◌≡◌ {A = ℕ} 0 1 = cc in omega arith)
      go false true false d a b c = absurd (let f = b ∙ sym a in let z : ◌≡◌ {A = ℕ} 0 1 = cc in omega arith)
      go false false false d a b c = refl

pairwise_take : (k : ℕ) (xs : List ℕ) → Pairwise (λ s t. s ≡ t → ⊥) xs → Pairwise (λ s t. s ≡ t → ⊥) (take k xs)
pairwise_take zero xs p = tt
pairwise_take (suc k) [] p = tt
pairwise_take (suc k) (x ∷ xs) p = (all_take (λ t. x ≡ t → ⊥) k xs p.0, pairwise_take k xs p.1)

-- ---- what an accepted call on an index finds

module _ (w : State Store) {slices : Lengths} {wrong : Bool} {rest : List Test} (l : slices ≡ lengths_of (slices_of w)) (f : Finds slices (shown stored w) wrong rest) where
  own_lengths : lengths_of (slices_of w) ≡ exact limits (view_of stored w).sizes
  unfolding shown stored
  own_lengths = sym l ∙ passed_lengths (view_of stored w).sizes slices f.long

  numbers_long : length w.numbers ≡ (view_of stored w).sizes.capacity
  unfolding slices_of
  numbers_long = ap (λ x. x.numbers) own_lengths

  summary_long : length w.summary ≡ (view_of stored w).sizes.capacity
  unfolding slices_of
  summary_long = ap (λ x. x.summary) own_lengths

  marks_fit : MarksFit w.graph
  unfolding slices_of stored store_ops store_view
  marks_fit = ap (λ x. x.marks) own_lengths

  rules_now : Rules w
  unfolding shown stored
  rules_now = labelled_exact _ _ w.live w.numbers w.summary f.live summary_long f.labels

-- ---- a call that is carried out

rules_made : (lent : Lengths) (m : Making) → first_of (making_tests limits lent m) ≡ none → Rules (made stored m)
unfolding made stored store_ops plain new_plain
rules_made lent m acc =
    let ok = accepted lent m acc in
    let given = numbers_given lent m acc in
    subst (λ (u : View). Labelled u.live u.sizes.capacity (made stored m).numbers (summary_of u.live u.sizes.capacity (made stored m).numbers))
    (sym (agree_new m.sizes (distance m.weights) m.count m.bytes m.rows m.entry ok).same)
    (labelled_made m.numbers m.count m.sizes.capacity given.1 given.0 ok.room _ (λ s h. refl))

module _ (w : State Store) (lent : Lent) (l : lent.slices ≡ lengths_of (slices_of w)) where
  rules_deleted : {wrong : Bool} {rest : List Test} (a : Delete) → Finds lent.slices (shown stored w) wrong rest → Rules (deletion stored w a).0
  unfolding deletion with_graph stored store_ops
  rules_deleted a f =
      let d = (delete_batch store_ops a.repair_beam a.repair_degree w.graph (named w a)).0 in
      let fit = marks_fit w l f in
      let same = ap (λ (z : Sizes). z.capacity) (sizes_after_delete store_ops MarksFit store_marking w.graph fit a.repair_beam a.repair_degree (named w a)) in
      let live' = (store_view d).live in
      subst (λ c. Labelled live' c (live_numbers live' c w.numbers) (summary_of live' c (live_numbers live' c w.numbers))) (sym same)
      (labelled_deleted (rules_now w l f) live' (λ s h e. none_revived store_ops MarksFit store_marking w.graph fit a.repair_beam a.repair_degree (named w a) s e))

  rules_guarded : {wrong : Bool} {rest : List Test} (a : Delete) (r : Report) (q : Bool) → Finds lent.slices (shown stored w) wrong rest → Rules (guarded stored w a r q).0
  unfolding guarded
  rules_guarded a r true f = rules_deleted a f
  rules_guarded a r false f = rules_now w l f

  module _ (a : Insert) (i : Insertable lent (shown stored w) a) where
    abbrev shows : View
    shows = store_view w.graph

    abbrev capacity : ℕ
    capacity = shows.sizes.capacity

    abbrev vectors : List (List ℕ)
    vectors = vectors_of shows.sizes.dim a.bytes

    abbrev filled : List ℕ
    filled = take (length vectors) (free_slots shows)

    abbrev after : Store
    after = insert_entering store_ops a.beam w.graph vectors

    many : length vectors ≡ length a.bytes / shows.sizes.dim
    many = simp length-map (length_range 0 (length a.bytes / shows.sizes.dim))

    -- free slots are filled, each with a number that no slot carries
    pub inserting_now : Inserting shows.live capacity w.numbers w.summary filled a.numbers
    unfolding shown stored store_ops limits
    inserting_now =
        let f = i.finds in
        let n = capacity in
        record {
          labelled = rules_now w l f;
          long = numbers_long w l f;
          few = (capacity_within shows.sizes f.sized).1;
          inside = all_take (λ s. s < n) (length vectors) (free_slots shows) (filtered_below (λ s. not (shows.live s)) n);
          dead = all_take (λ s. shows.live s ≡ false) (length vectors) (free_slots shows)
              (all_map (λ s. not (shows.live s) ≡ true) (λ s. shows.live s ≡ false) (λ s e. not-true (shows.live s) e) (free_slots shows) (filter_test (λ s. not (shows.live s)) (range 0 n)));
          apart = pairwise_take (length vectors) (free_slots shows) (unique_apart (free_slots shows) (live_unique (λ s. not (shows.live s)) n));
          as_many = i.as_many ∙ sym many ∙ sym (length-take-le (length vectors) (free_slots shows) (rw many i.room));
          fresh = i.fresh;
        }

    same_capacity : (store_view after).sizes.capacity ≡ capacity
    unfolding store_ops
    same_capacity = ap (λ (z : Sizes). z.capacity) (sizes_after_insert store_ops MarksFit store_marking w.graph (marks_fit w l i.finds) a.beam vectors)

    -- the slots filled are live, and those that were
    pub filled_now : (s : ℕ) → s < capacity → (store_view after).live s ≡ (shows.live s || elem s filled)
    unfolding store_ops
    filled_now =
        filled_live shows.live (store_view after).live capacity (length vectors)
        (subst (λ c. filter (λ s. not ((store_view after).live s)) (range 0 c) ≡ drop (length vectors) (free_slots shows)) same_capacity
        (free_after_insert store_ops MarksFit store_marking w.graph (marks_fit w l i.finds) a.beam vectors))

    rules_inserted : Rules (perform stored w (insert a)).0
    unfolding perform with_graph stored store_ops
    rules_inserted =
        let numbers = (perform stored w (insert a)).0.numbers in
        subst (λ c. Labelled (store_view after).live c numbers (summary_of (store_view after).live c numbers)) (sym same_capacity)
        (labelled_inserted inserting_now (store_view after).live filled_now)

  rules_performed : (o : Operation) → first_of (tests limits lent (shown stored w) o) ≡ none → Rules (perform stored w o).0
  unfolding tests perform with_guard
  rules_performed (create m) r = rules_made lent.slices m r
  rules_performed (read q) r = rules_now w l (index_finds lent.slices (shown stored w) _ _ r)
  rules_performed (read_vector s) r = rules_now w l (index_finds lent.slices (shown stored w) _ _ r)
  rules_performed (search a) r = rules_now w l (index_finds lent.slices (shown stored w) _ _ r)
  rules_performed (insert a) r = rules_inserted a (insert_finds lent (shown stored w) a r)
  rules_performed (delete a) r = rules_deleted a (index_finds lent.slices (shown stored w) _ _ r)
  rules_performed (enable c) r = rules_now w l (index_finds lent.slices (shown stored w) _ _ r)
  rules_performed status r = rules_now w l (index_finds lent.slices (shown stored w) _ _ r)
  rules_performed (assess a) r = rules_now w l (index_finds lent.slices (shown stored w) _ _ r)
  rules_performed (guarded_delete a) r =
      let q = report_of (shown stored w) (named w a) in rules_guarded a q q.admitted (index_finds lent.slices (shown stored w) _ _ r)

rules_kept : (w : State Store) (c : Call) → c.lent.slices ≡ lengths_of (slices_of w) → refusal stored w c ≡ none → Rules (step stored w c).0
unfolding step refusal settle
rules_kept w c l r = subst (λ q. Rules (settle stored w c q).0) (sym r) (rules_performed w c.lent l c.operation r)

-- ---- a delete of numbers

-- another list of as many names, which names the same where the call is not turned back
module _ (w : State Store) (lent : Lent) (a b : Delete) (long : length b.names ≡ length a.names) (beam : b.repair_beam ≡ a.repair_beam) (degree : b.repair_degree ≡ a.repair_degree) where
  pub same_refusal : refusal stored w (record { lent = lent; operation = delete b }) ≡ refusal stored w (record { lent = lent; operation = delete a })
  unfolding refusal tests
  same_refusal = rw (long, beam, degree)

  pub same_guarded_refusal : refusal stored w (record { lent = lent; operation = guarded_delete b }) ≡ refusal stored w (record { lent = lent; operation = guarded_delete a })
  unfolding refusal tests
  same_guarded_refusal = rw (long, beam, degree)

  same_deletion : named w b ≡ named w a → deletion stored w b ≡ deletion stored w a
  unfolding deletion
  same_deletion e = rw (e, beam, degree)

  pub same_delete : (refusal stored w (record { lent = lent; operation = delete a }) ≡ none → named w b ≡ named w a)
      → step stored w (record { lent = lent; operation = delete b }) ≡ step stored w (record { lent = lent; operation = delete a })
  unfolding step settle perform refused_as
  same_delete e = ap (settle stored w (record { lent = lent; operation = delete b })) same_refusal ∙ go (refusal stored w (record { lent = lent; operation = delete a })) e
    where
      go : (q : Option ℕ) → (q ≡ none → named w b ≡ named w a) → settle stored w (record { lent = lent; operation = delete b }) q ≡ settle stored w (record { lent = lent; operation = delete a }) q
      go (some n) h = refl
      go none h = ap (λ d. (d.0, deleted d.1)) (same_deletion (h refl))

  pub same_guarded : (refusal stored w (record { lent = lent; operation = guarded_delete a }) ≡ none → named w b ≡ named w a)
      → step stored w (record { lent = lent; operation = guarded_delete b }) ≡ step stored w (record { lent = lent; operation = guarded_delete a })
  unfolding step settle perform guarded refused_as
  same_guarded e =
      ap (settle stored w (record { lent = lent; operation = guarded_delete b })) same_guarded_refusal ∙ go (refusal stored w (record { lent = lent; operation = guarded_delete a })) e
    where
      reported : (r : Report) (q : Bool) → named w b ≡ named w a → guarded stored w b r q ≡ guarded stored w a r q
      reported r true h = ap (λ d. (d.0, applied d.1 r)) (same_deletion h)
      reported r false h = refl

      go : (q : Option ℕ) → (q ≡ none → named w b ≡ named w a)
          → settle stored w (record { lent = lent; operation = guarded_delete b }) q ≡ settle stored w (record { lent = lent; operation = guarded_delete a }) q
      go (some n) h = refl
      go none h =
          let r = report_of (shown stored w) (named w a) in
          ap (λ ns. let r = report_of (shown stored w) ns in guarded stored w b r r.admitted) (h refl) ∙ reported r r.admitted (h refl)

-- the slots that names name are as many as the names
pub named_many : (numbers : List ℕ) (naming : Naming) (names : List ℕ) → length (slots_of numbers naming names) ≡ length names
unfolding slots_of
named_many numbers of_slots names = refl
named_many numbers of_numbers names = simp length-map

-- ---- the base, which knows no numbers

guarded_bare : (w : State Store) (a : Delete) (r : Report) (q : Bool) → bare (guarded stored w a r q).0 ≡ bare (guarded stored (bare w) (by_slots w a) r q).0
unfolding bare guarded deletion with_graph slots_of
guarded_bare w a r true = refl
guarded_bare w a r false = refl

bare_performed : (w : State Store) (o : Operation) → bare (perform stored w o).0 ≡ bare (perform stored (bare w) (bare_call w o)).0
unfolding bare bare_call perform deletion made with_graph with_guard stored slots_of shown
bare_performed w (create m) = refl
bare_performed w (read r) = refl
bare_performed w (read_vector s) = refl
bare_performed w (search a) = refl
bare_performed w (insert a) = refl
bare_performed w (delete a) = refl
bare_performed w (enable c) = refl
bare_performed w status = refl
bare_performed w (assess a) = refl
bare_performed w (guarded_delete a) = let r = report_of (shown stored w) (named w a) in guarded_bare w a r r.admitted

reading_bare : (w : State Store) (r : Reading) → ((s : ℕ) → read r ≡ read (read_number s) → ⊥) → bare_answer (reading stored w r) ≡ bare_answer (reading stored (bare w) r)
unfolding bare bare_answer reading
reading_bare w read_dim h = refl
reading_bare w read_capacity h = refl
reading_bare w read_degree h = refl
reading_bare w read_alpha h = refl
reading_bare w read_entry h = refl
reading_bare w read_live h = refl
reading_bare w (read_mark s) h = refl
reading_bare w (read_version s) h = refl
reading_bare w (read_number s) h = absurd (h s refl)
reading_bare w (read_target s place) h = refl

guarded_answers : (w : State Store) (a : Delete) (r : Report) (q : Bool) → bare_answer (guarded stored w a r q).1 ≡ bare_answer (guarded stored (bare w) (by_slots w a) r q).1
unfolding bare guarded deletion slots_of
guarded_answers w a r true = refl
guarded_answers w a r false = refl

bare_answers : (w : State Store) (o : Operation) → ((s : ℕ) → o ≡ read (read_number s) → ⊥)
    → bare_answer (perform stored w o).1 ≡ bare_answer (perform stored (bare w) (bare_call w o)).1
unfolding bare bare_call bare_answer perform deletion stored slots_of shown
bare_answers w (create m) h = refl
bare_answers w (read r) h = reading_bare w r h
bare_answers w (read_vector s) h = refl
bare_answers w (search a) h = refl
bare_answers w (insert a) h = refl
bare_answers w (delete a) h = refl
bare_answers w (enable c) h = refl
bare_answers w status h = refl
bare_answers w (assess a) h = refl
bare_answers w (guarded_delete a) h = let r = report_of (shown stored w) (named w a) in guarded_answers w a r r.admitted

-- ---- which slots numbers name

module _ {live : ℕ → Bool} {n : ℕ} {numbers summary : List ℕ} (l : Labelled live n numbers summary) (long : length numbers ≡ n) (few : n ≤ 65536) (s : ℕ) (h : s < n) (e : live s ≡ true) where
  -- another number is no other name of the slot
  other_number : (m : ℕ) → (number_of numbers s ≡ m → ⊥) → s ≡ slot_of numbers m → ⊥
  other_number m d q = go (elem m numbers) refl
    where
      go : (b : Bool) → elem m numbers ≡ b → ⊥
      go false f =
          let z : slot_of numbers m ≡ blank = slot_none numbers m (λ p t k g. true≢false (sym (subst (λ x. elem x numbers ≡ true) g (elem_at numbers t k)) ∙ f)) in
          omega (arith, few, q ∙ z)
      go true f = at_elem ⊥ m numbers f (λ t k g. holds t k g (dec_lt 0 m))
        where
          holds : (t : ℕ) → t < length numbers → get_or numbers t 0 ≡ m → Dec (0 < m) → ⊥
          holds t k g (yes p) =
              let i : t < n = omega arith in
              let c = slot_of_live l long t i (number_live l long t i (omega (arith, g))) in
              let y : s ≡ t = q ∙ sym (ap (slot_of numbers) g) ∙ c in
              d (ap (number_of numbers) y ∙ g)
          holds t k g (no p) = let z : slot_of numbers m ≡ blank = slot_none numbers m (λ i. absurd (p i)) in omega (arith, few, q ∙ z)

  same_name : (m : ℕ) → eqb s (slot_of numbers m) ≡ eqb (number_of numbers s) m
  same_name m = go (eqb (number_of numbers s) m) refl
    where
      go : (b : Bool) → eqb (number_of numbers s) m ≡ b → eqb s (slot_of numbers m) ≡ b
      go true f = eq-eqb s (slot_of numbers m) (sym (ap (slot_of numbers) (sym (eqb-true (number_of numbers s) m f)) ∙ slot_of_live l long s h e))
      go false f = ne_eqb s (slot_of numbers m) (other_number m (λ q. true≢false (sym (eq-eqb (number_of numbers s) m q) ∙ f)))

  named_live : (ns : List ℕ) → elem s (map (slot_of numbers) ns) ≡ elem (number_of numbers s) ns
  named_live [] = refl
  named_live (m ∷ ns) = rw (same_name m, named_live ns)

-- ---- the numbers after a call

-- each slot has the number written for it
write_read : (slots ns numbers : List ℕ) → All (λ s. s < length numbers) slots → Pairwise (λ s t. s ≡ t → ⊥) slots → length ns ≡ length slots
    → map (number_of (write_numbers slots ns numbers)) slots ≡ ns
write_read [] [] numbers h d l = refl
write_read [] (n ∷ ns) numbers h d l = absurd (omega (arith, l))
write_read (s ∷ ss) [] numbers h d l = absurd (omega (arith, l))
write_read (s ∷ ss) (n ∷ ns) numbers h d l =
    let first : number_of (write_numbers ss ns (set numbers s n)) s ≡ n =
    write_other s ss ns (set numbers s n) (apart_unique (s ∷ ss) d).0 ∙ get_or-set_same numbers s n 0 h.0 in
    let k : length (set numbers s n) ≡ length numbers = length-set numbers s n in
    let inside = all_map (λ t. t < length numbers) (λ t. t < length (set numbers s n)) (λ t g. omega arith) ss h.1 in
    ap₂ (λ (x : ℕ) (xs : List ℕ). x ∷ xs) first (write_read ss ns (set numbers s n) inside d.1 (omega (arith, l)))

module _ (w : State Store) (lent : Lent) (l : lent.slices ≡ lengths_of (slices_of w)) where
  numbers_given_now : (a : Insert) → first_of (tests limits lent (shown stored w) (insert a)) ≡ none → (slots : List ℕ) → (perform stored w (insert a)).1 ≡ inserted slots
      → map (number_of (perform stored w (insert a)).0.numbers) slots ≡ a.numbers
  unfolding perform with_graph shown stored store_ops
  numbers_given_now a r slots e =
      let i = insert_finds lent (shown stored w) a r in
      let f = inserting_now w lent l a i in
      let filled = take (length (vectors_of (store_view w.graph).sizes.dim a.bytes)) (free_slots (store_view w.graph)) in
      let q : filled ≡ slots = cc in
      let c = f.long in
      subst (λ ss. map (number_of (write_numbers filled a.numbers w.numbers)) ss ≡ a.numbers) q
      (write_read filled a.numbers w.numbers (all_map (λ s. s < (store_view w.graph).sizes.capacity) (λ s. s < length w.numbers) (λ s g. omega arith) filled f.inside) f.apart f.as_many)

  module _ (s : ℕ) (h : s < (view_of stored w).sizes.capacity) (e : (view_of stored w).live s ≡ true) where
    deleted_stays : {wrong : Bool} {rest : List Test} (a : Delete) → Finds lent.slices (shown stored w) wrong rest → (view_of stored (deletion stored w a).0).live s ≡ true
        → number_of (deletion stored w a).0.numbers s ≡ number_of w.numbers s
    unfolding deletion with_graph stored store_ops
    deleted_stays a f g =
        let d = (delete_batch store_ops a.repair_beam a.repair_degree w.graph (named w a)).0 in
        let same = ap (λ (z : Sizes). z.capacity) (sizes_after_delete store_ops MarksFit store_marking w.graph (marks_fit w l f) a.repair_beam a.repair_degree (named w a)) in
        live_numbers_at (store_view d).live (store_view d).sizes.capacity w.numbers s (omega (arith, same)) ∙ rw g

    guarded_stays : {wrong : Bool} {rest : List Test} (a : Delete) (r : Report) (q : Bool) → Finds lent.slices (shown stored w) wrong rest
        → (view_of stored (guarded stored w a r q).0).live s ≡ true → number_of (guarded stored w a r q).0.numbers s ≡ number_of w.numbers s
    unfolding guarded
    guarded_stays a r true f g = deleted_stays a f g
    guarded_stays a r false f g = refl

    inserted_stays : (a : Insert) → Insertable lent (shown stored w) a → number_of (perform stored w (insert a)).0.numbers s ≡ number_of w.numbers s
    unfolding perform with_graph stored store_ops
    inserted_stays a i =
        let f = inserting_now w lent l a i in
        let filled = take (length (vectors_of (store_view w.graph).sizes.dim a.bytes)) (free_slots (store_view w.graph)) in
        write_other s filled a.numbers w.numbers (go filled f.dead (elem s filled) refl)
      where
        go : (filled : List ℕ) → All (λ t. (store_view w.graph).live t ≡ false) filled → (b : Bool) → elem s filled ≡ b → elem s filled ≡ false
        go l d true q = absurd (true≢false (sym e ∙ all_elem (λ t. (store_view w.graph).live t ≡ false) s l d q))
        go _ d false q = q

    performed_stays : (o : Operation) → ((m : Making) → o ≡ create m → ⊥) → first_of (tests limits lent (shown stored w) o) ≡ none → (view_of stored (perform stored w o).0).live s ≡ true
        → number_of (perform stored w o).0.numbers s ≡ number_of w.numbers s
    unfolding tests perform with_guard
    performed_stays (create m) n r g = absurd (n m refl)
    performed_stays (read q) n r g = refl
    performed_stays (read_vector t) n r g = refl
    performed_stays (search a) n r g = refl
    performed_stays (insert a) n r g = inserted_stays a (insert_finds lent (shown stored w) a r)
    performed_stays (delete a) n r g = deleted_stays a (index_finds lent.slices (shown stored w) _ _ r) g
    performed_stays (enable c) n r g = refl
    performed_stays status n r g = refl
    performed_stays (assess a) n r g = refl
    performed_stays (guarded_delete a) n r g =
        let q = report_of (shown stored w) (named w a) in guarded_stays a q q.admitted (index_finds lent.slices (shown stored w) _ _ r) g

-- a call that is not turned back
carried_out : (w : State Store) (c : Call) → refusal stored w c ≡ none → step stored w c ≡ perform stored w c.operation
unfolding step settle
carried_out w c r = ap (settle stored w c) r

given_kept : (w : State Store) (c : Call) (a : Insert) → c.operation ≡ insert a → c.lent.slices ≡ lengths_of (slices_of w) → refusal stored w c ≡ none
    → (slots : List ℕ) → (step stored w c).1 ≡ inserted slots → map (number_of (step stored w c).0.numbers) slots ≡ a.numbers
unfolding refusal
given_kept w c a q l r slots e =
    let did = carried_out w c r ∙ ap (perform stored w) q in
    subst (λ (x : State Store × Answer). map (number_of x.0.numbers) slots ≡ a.numbers) (sym did)
    (numbers_given_now w c.lent l a (subst (λ o. first_of (tests limits c.lent (shown stored w) o) ≡ none) q r) slots (sym (ap (λ (x : State Store × Answer). x.1) did) ∙ e))

stays_kept : (w : State Store) (c : Call) → ((m : Making) → c.operation ≡ create m → ⊥) → c.lent.slices ≡ lengths_of (slices_of w) → refusal stored w c ≡ none
    → (s : ℕ) → s < (view_of stored w).sizes.capacity → (view_of stored w).live s ≡ true → (view_of stored (step stored w c).0).live s ≡ true
    → number_of (step stored w c).0.numbers s ≡ number_of w.numbers s
unfolding refusal
stays_kept w c n l r s h e g =
    let did = ap (λ (x : State Store × Answer). x.0) (carried_out w c r) in
    subst (λ (x : State Store). number_of x.numbers s ≡ number_of w.numbers s) (sym did)
    (performed_stays w c.lent l s h e c.operation n r (subst (λ (x : State Store). (view_of stored x).live s ≡ true) did g))

pub figure_numbers : FigureNumbers
unfolding slots_of
figure_numbers = record {
  exact = λ w e l. (labelled_exact _ _ w.live w.numbers w.summary e l, exact_labelled _ _ w.live w.numbers w.summary e l);
  kept = rules_kept;
  given = given_kept;
  stays = stays_kept;
  named = λ w l long few ns s h e. named_live l long few s h e ns;
  delete_by_number = λ w lent a. sym (same_delete w lent a (by_slots w a) (named_many w.numbers a.naming a.names) refl refl (λ e. again w a));
  guarded_by_number = λ w lent a. sym (same_guarded w lent a (by_slots w a) (named_many w.numbers a.naming a.names) refl refl (λ e. again w a));
  graph_untouched = bare_performed;
  answers_untouched = bare_answers;
}
  where
    again : (w : State Store) (a : Delete) → named w (by_slots w a) ≡ named w a
    again w a = refl
