-- The summary as sorting, insert and delete leave it. Assumes nothing.
use Prim.Native.Nat.{ℕ, suc, ◌+◌, ◌-◌, ◌≤◌, ◌<◌}
use mathlib.Core.Bool.{Bool, true, false, ◌&&◌, ◌||◌, true≢false}
use mathlib.Core.Path.{◌≡◌, refl, ap, sym, ◌∙◌}
use mathlib.Core.List.{List, [], ◌∷◌, ◌++◌, append-nil}
use native.Mathlib.Omega.{arith}
use borrow.Author.Tests.{eq-eqb, ltb-true, lt-ltb}
use lib.Dec.{eqb, ltb}
use lib.ListN.{length, take, drop, get_or, replicate, take-append-drop, length-append, length-take, drop_of_length-le, get_or-append}
use borrow.Rule.Slice.PartMut.{put_mid}
use Rattle.std.proofs.lemmas.Slice.{put_mid-paste}
use lib.Seq.{paste, take_all, drop-drop, length-take-le, take_at, drop_at, take-paste, drop-paste, length-paste, get_or-take}
use Rattle.std.proofs.lemmas.Bool.{or_right}
use Rattle.std.proofs.lemmas.List.{drop-replicate}
use Rattle.lists.specs.Lists.{All, filter, range, elem, times, insert_by, put_front}
use Rattle.lists.proofs.All.{all_map, all_sort, all_append}
use Rattle.lists.proofs.Alike.{one_length}
use Rattle.lists.proofs.Filter.{filter_and}
use Rattle.lists.proofs.Filtered.{filter_among}
use Rattle.lists.proofs.Members.{elem_sort}
use Rattle.lists.proofs.Places.{all_at, at_all, pairwise_at}
use Rattle.lists.proofs.Ranges.{length_range, range_below}
use Rattle.lists.proofs.Sorted.{filter_sort}
use Rattle.lists.proofs.Taking.{taken_at}
use Rattle.lists.proofs.Unique.{Unique}
use Rattle.slots.specs.Store.{blank, is_valid}
use Rattle.sorting.specs.Inner.Places.{key_at, Placed, Risen, Sorted}
use Rattle.sorting.proofs.ByKey.{Told, sorted_told}
use Rattle.sorting.proofs.Counts.{times_all}
use Rattle.sorting.proofs.Settling.{placed_front, risen_within, risen_front, sorted_front}
use Rattle.numbers.specs.Numbers.{number_of, by_number, write_numbers, live_numbers, summary_of, Labelled}
use Rattle.numbers.specs.Inner.Listed.{Listed, Apart, Summarized, Inserting, Entering, Entered, Packed, Struck}
use Rattle.numbers.proofs.Order.{all_elem, elem_all, same_test, pairwise_from, range_up, unique_apart, apart_unique, lower, Rises, sort_rises, length_by, rises_unique}
use Rattle.numbers.proofs.Exact.{live_of, live_in, in_live, live_all, live_few, live_unique, live_rises, live_listed, range_in, in_range}
use Rattle.numbers.proofs.Named.{number_live}
use Rattle.numbers.proofs.Kept.{summary_long, write_numbers_long, write_other, inserted_distinct}
use Rattle.numbers.proofs.Writes.{live_numbers_at}

-- ---- lists joined

pub elem_append : (t : ℕ) (xs ys : List ℕ) → elem t (xs ++ ys) ≡ (elem t xs || elem t ys)
elem_append t [] ys = refl
elem_append t (x ∷ xs) ys = go (eqb t x) (elem_append t xs ys)
  where
    go : (b : Bool) → elem t (xs ++ ys) ≡ (elem t xs || elem t ys) → (b || elem t (xs ++ ys)) ≡ ((b || elem t xs) || elem t ys)
    go true e = refl
    go false e = e

pub unique_append : (xs ys : List ℕ) → Unique xs → Unique ys → ((t : ℕ) → elem t xs ≡ true → elem t ys ≡ true → ⊥) → Unique (xs ++ ys)
unique_append [] ys u w d = w
unique_append (x ∷ xs) ys u w d =
    (elem_append x xs ys ∙ rw u.0 (go (elem x ys) refl), unique_append xs ys u.1 w (λ t e. d t (or_right (eqb t x) _ e)))
  where
    go : (b : Bool) → elem x ys ≡ b → b ≡ false
    go true e = absurd (d x (rw (eq-eqb x x refl)) e)
    go false e = refl

pub times_elem : (a : ℕ) (xs : List ℕ) → 0 < times a xs → elem a xs ≡ true
times_elem a xs h = times_all (λ s. elem s xs ≡ true) xs (elem_all (λ s. elem s xs ≡ true) xs (λ t e. e)) a h

-- ---- the front of the summary

module _ {live : ℕ → Bool} {n count : ℕ} {numbers summary : List ℕ} (l : Labelled live n numbers summary) (many : count ≡ length (filter live (range 0 n))) where
  size : length (by_number numbers (live_of live n)) ≡ count
  size = length_by numbers (live_of live n) ∙ sym many

  pub front_is : take count summary ≡ by_number numbers (live_of live n)
  unfolding summary_of
  front_is = rw l.listed (take_at (by_number numbers (live_of live n)) (replicate (n - length (live_of live n)) blank) count size)

  pub back_is : drop count summary ≡ replicate (n - count) blank
  unfolding summary_of
  back_is =
      rw (l.listed, drop_at (by_number numbers (live_of live n)) (replicate (n - length (live_of live n)) blank) count size, ← many)

  pub listed_long : length summary ≡ n
  listed_long = ap length l.listed ∙ summary_long live n numbers

  pub count_few : count ≤ n
  count_few = omega (arith, live_few live n)

  pub front_elem : (t : ℕ) → elem t (take count summary) ≡ elem t (live_of live n)
  front_elem t = rw front_is (elem_sort (lower numbers) t (live_of live n))

  pub front_rises : Rises numbers (take count summary)
  front_rises = rw front_is (live_rises live n numbers l.distinct)

  pub front_live : (i : ℕ) → i < count → (get_or summary i 0 < n) × (live (get_or summary i 0) ≡ true)
  front_live i h =
      taken_at (λ s. (s < n) × (live s ≡ true)) summary count i (omega (arith, listed_long, count_few))
      (elem_all (λ s. (s < n) × (live s ≡ true)) (take count summary) (λ t e. in_live live n t (sym (front_elem t) ∙ e))) h

  pub front_up : (i : ℕ) → suc i < count → key_at numbers summary i < key_at numbers summary (suc i)
  front_up i h =
      let w : length (take count summary) ≡ count = length-take-le count summary (omega (arith, listed_long, count_few)) in
      let z = pairwise_at 0 (λ s t. lower numbers s t ≡ true) (take count summary) front_rises i (suc i) (omega arith) (omega arith) in
      ltb-true (key_at numbers summary i) (key_at numbers summary (suc i)) (rw (get_or-take count summary i 0 (omega arith), get_or-take count summary (suc i) 0 h) at z)

  -- what looking numbers up asks for
  pub labelled_listed : length numbers ≡ n → n ≤ 65536 → Listed numbers summary count
  labelled_listed long few = record {
    placed = record { long = omega (arith, listed_long, count_few); inside = λ i h. omega (arith, (front_live i h).0) };
    risen = record { up = λ i h. omega (arith, front_up i h) };
    named = λ s h k. let h' : s < n = omega arith in front_elem s ∙ live_in live n s h' (number_live l long s h' k);
    distinct = λ s t h k a e. let h' : s < n = omega arith in let k' : t < n = omega arith in
        l.distinct s t h' k' (number_live l long s h' a) (number_live l long t k' (omega arith)) e;
    few = omega arith;
  }

-- ---- the summary from any order of the live slots

module _ {numbers order order' : List ℕ} {k : ℕ} (f : Sorted numbers order k order') (live : ℕ → Bool) (n : ℕ)
    (distinct : (s t : ℕ) → s < n → t < n → live s ≡ true → live t ≡ true → number_of numbers s ≡ number_of numbers t → s ≡ t)
    (once : Unique (take k order)) (members : (t : ℕ) → elem t (take k order) ≡ elem t (live_of live n)) (rest : drop k order ≡ replicate (n - k) blank) where
  of_live : (t : ℕ) → elem t (take k order) ≡ true → (t < n) × (live t ≡ true)
  of_live t e = in_live live n t (sym (members t) ∙ e)

  told : Told (number_of numbers) (take k order)
  told a b h j e =
      let p = of_live a (times_elem a (take k order) h) in
      let q = of_live b (times_elem b (take k order) j) in
      distinct a b p.0 q.0 p.1 q.1 e

  front : take k order' ≡ by_number numbers (take k order)
  front = sorted_told f told

  rises : Rises numbers (by_number numbers (take k order))
  rises =
      sort_rises numbers (take k order)
      (pairwise_from (λ s. (s < n) × (live s ≡ true)) (λ s t. s ≡ t → ⊥) (λ s t. number_of numbers s ≡ number_of numbers t → ⊥)
      (λ s t p q d e. d (distinct s t p.0 q.0 p.1 q.1 e)) (take k order)
      (elem_all (λ s. (s < n) × (live s ≡ true)) (take k order) of_live) (unique_apart (take k order) once))

  as_live : by_number numbers (take k order) ≡ by_number numbers (live_of live n)
  as_live = live_listed live n numbers (by_number numbers (take k order)) distinct rises (λ t. elem_sort (lower numbers) t (take k order) ∙ members t)

  pub order_many : length (take k order) ≡ length (live_of live n)
  order_many = one_length (take k order) (live_of live n) once (live_unique live n) members

  -- what sorting leaves is the summary
  pub sorted_summary : order' ≡ summary_of live n numbers
  unfolding summary_of
  sorted_summary =
      let a : k ≤ length order = omega (arith, f.placed.long, f.rearranged.long) in
      let e : k ≡ length (live_of live n) = sym (length-take-le k order a) ∙ order_many in
      sym (take-append-drop k order') ∙ rw (front, as_live, f.rearranged.rest, rest) (ap (λ j. by_number numbers (live_of live n) ++ replicate (n - j) blank) e)

-- ---- making

range_unique : (n : ℕ) → Unique (range 0 n)
range_unique n =
    apart_unique (range 0 n)
    (pairwise_from (λ s. s < n) (λ s t. s < t) (λ s t. s ≡ t → ⊥) (λ s t _ _ l e. omega arith) (range 0 n) (range_below 0 n n (omega arith)) (range_up 0 n))

-- counted up and with blanks behind, they can be sorted
pub summary_placed : (numbers : List ℕ) (count : ℕ) {order : List ℕ} → Apart numbers count → order ≡ range 0 count ++ replicate (length numbers - count) blank → Placed numbers order count
summary_placed numbers count {order} a e = record {
  long = omega (arith, ap length e, length-append (range 0 count) (replicate (length numbers - count) blank), length_range 0 count);
  inside = λ i h. rw (e, get_or-append (range 0 count) (replicate (length numbers - count) blank) 0 i (omega (arith, length_range 0 count)))
      (all_at 0 (λ s. s < length numbers) (range 0 count) (range_below 0 count (length numbers) (omega (arith, a.inside))) i (omega (arith, length_range 0 count)));
}

pub summarized : {numbers order order' : List ℕ} {count : ℕ} → Apart numbers count → Sorted numbers order count order' → order ≡ range 0 count ++ replicate (length numbers - count) blank
    → Summarized numbers count order'
summarized {numbers} {order} {order'} {count} a f e = record {
  listed = λ live w. sorted_summary f live (length numbers)
      (λ s t h k p q. a.distinct s t (below live w s h p) (below live w t k q))
      (rw front (range_unique count)) (λ t. ap (elem t) front ∙ members live w t) back;
}
  where
    front : take count order ≡ range 0 count
    front = rw e (take_at (range 0 count) (replicate (length numbers - count) blank) count (length_range 0 count))

    back : drop count order ≡ replicate (length numbers - count) blank
    back = rw e (drop_at (range 0 count) (replicate (length numbers - count) blank) count (length_range 0 count))

    below : (live : ℕ → Bool) → ((s : ℕ) → s < length numbers → live s ≡ ltb s count) → (s : ℕ) → s < length numbers → live s ≡ true → s < count
    below live w s h p = ltb-true s count (sym (w s h) ∙ p)

    members : (live : ℕ → Bool) → ((s : ℕ) → s < length numbers → live s ≡ ltb s count) → (t : ℕ) → elem t (range 0 count) ≡ elem t (live_of live (length numbers))
    members live w t =
        same_test (elem t (range 0 count)) (elem t (live_of live (length numbers)))
        (λ p. let h = in_range t count p in let k : t < length numbers = omega (arith, a.inside) in live_in live (length numbers) t k (w t k ∙ lt-ltb t count h))
        (λ p. let b = in_live live (length numbers) t p in range_in t count (below live w t b.0 b.1))

-- ---- insert

module _ {live : ℕ → Bool} {n : ℕ} {old summary slots ns : List ℕ} (f : Inserting live n old summary slots ns) {count : ℕ} (many : count ≡ length (filter live (range 0 n))) where
  -- an old slot is none of the new ones
  old_apart : (t : ℕ) → live t ≡ true → elem t slots ≡ false
  old_apart t h = go (elem t slots) refl
    where
      go : (b : Bool) → elem t slots ≡ b → b ≡ false
      go true e = absurd (true≢false (sym h ∙ all_elem (λ s. live s ≡ false) t slots f.dead e))
      go false e = refl

  old_number : (i : ℕ) → i < count → key_at (write_numbers slots ns old) summary i ≡ key_at old summary i
  old_number i h = write_other (get_or summary i 0) slots ns old (old_apart (get_or summary i 0) (front_live f.labelled many i h).1)

  pub joined_once : Unique (take count summary ++ slots)
  joined_once =
      unique_append (take count summary) slots (rises_unique old (take count summary) (front_rises f.labelled many)) (apart_unique slots f.apart)
      (λ t e g. true≢false (sym g ∙ old_apart t (in_live live n t (sym (front_elem f.labelled many t) ∙ e)).1))

  pub joined_members : (after : ℕ → Bool) → ((s : ℕ) → s < n → after s ≡ (live s || elem s slots)) → (t : ℕ) → elem t (take count summary ++ slots) ≡ elem t (live_of after n)
  joined_members after w t =
      elem_append t (take count summary) slots ∙ ap (λ b. b || elem t slots) (front_elem f.labelled many t)
      ∙ same_test (elem t (live_of live n) || elem t slots) (elem t (live_of after n)) (λ e. there (elem t (live_of live n)) refl e)
      (λ e. let b = in_live after n t e in back (live t) refl b.0 (sym (w t b.0) ∙ b.1))
    where
      there : (b : Bool) → elem t (live_of live n) ≡ b → (b || elem t slots) ≡ true → elem t (live_of after n) ≡ true
      there true i e = let b = in_live live n t i in live_in after n t b.0 (w t b.0 ∙ rw b.1)
      there false i e =
          let h = all_elem (λ s. s < n) t slots f.inside e in
          live_in after n t h (w t h ∙ or_right (live t) _ e)

      back : (b : Bool) → live t ≡ b → t < n → (live t || elem t slots) ≡ true → (elem t (live_of live n) || elem t slots) ≡ true
      back true i h e = rw (live_in live n t h i)
      back false i h e = or_right (elem t (live_of live n)) _ (rw i at e)

  joined_few : count + length slots ≤ n
  joined_few =
      let after : ℕ → Bool = λ s. live s || elem s slots in
      let a : length (take count summary ++ slots) ≡ length (live_of after n) = one_length (take count summary ++ slots) (live_of after n) joined_once (live_unique after n) (joined_members after (λ s h. refl)) in
      let b : length (take count summary) ≡ count = length-take-le count summary (omega (arith, listed_long f.labelled many, count_few f.labelled many)) in
      omega (arith, a, b, length-append (take count summary) slots, live_few after n)

-- what `enter` asks for, once the numbers are written
pub inserting_entering : {live : ℕ → Bool} {cap : ℕ} {old summary slots ns numbers : List ℕ} {count : ℕ} → Inserting live cap old summary slots ns → numbers ≡ write_numbers slots ns old
    → count ≡ length (filter live (range 0 cap)) → Entering numbers summary count slots
inserting_entering {live} {cap} {old} {summary} {slots} {ns} {numbers} {count} f e many =
    let l : length numbers ≡ cap = ap length e ∙ write_numbers_long slots ns old ∙ f.long in
    let s : length summary ≡ cap = listed_long f.labelled many in
    record {
      placed = record { long = omega (arith, count_few f.labelled many); inside = λ i k. omega (arith, (front_live f.labelled many i k).0) };
      risen = record {
        up = λ i k. let a : key_at numbers summary i ≡ key_at old summary i = rw e (old_number f many i (omega arith)) in
            let b : key_at numbers summary (suc i) ≡ key_at old summary (suc i) = rw e (old_number f many (suc i) k) in
            omega (arith, a, b, front_up f.labelled many i k);
      };
      inside = all_map (λ s. s < cap) (λ s. s < length numbers) (λ s k. omega arith) slots f.inside;
      room = omega (arith, joined_few f many);
      few = omega (arith, f.few);
    }

-- the order that is sorted: the summary with the new slots behind its front
module _ {numbers summary : List ℕ} {live : ℕ} {slots : List ℕ} (f : Entering numbers summary live slots) where
  abbrev n : ℕ
  n = length slots

  pasted_front : take (live + n) (paste summary live slots n) ≡ take live summary ++ slots
  pasted_front = take-paste summary live slots n (omega (arith, f.room)) (omega arith) ∙ rw (take_all n slots (omega arith))

  front_size : length (take live summary) ≡ live
  front_size = length-take-le live summary (omega (arith, f.room))

  pasted_old : (i : ℕ) → i < live → get_or (paste summary live slots n) i 0 ≡ get_or summary i 0
  pasted_old i h =
      sym (get_or-take (live + n) (paste summary live slots n) i 0 (omega arith)) ∙ rw pasted_front (get_or-append (take live summary) slots 0 i (omega (arith, front_size)))
      ∙ get_or-take live summary i 0 h

  entering_placed : Placed numbers (paste summary live slots n) (live + n)
  entering_placed = record {
    long = omega (arith, f.room, length-paste summary live slots n f.room (omega arith));
    inside = λ i h. taken_at (λ s. s < length numbers) (paste summary live slots n) (live + n) i (omega (arith, f.room, length-paste summary live slots n f.room (omega arith)))
        (rw pasted_front (all_append (λ s. s < length numbers) (take live summary) slots
        (at_front (λ s. s < length numbers) f.placed.inside) f.inside)) h;
  }
    where
      at_front : (P : ℕ → Type 0) → ((i : ℕ) → i < live → P (get_or summary i 0)) → All P (take live summary)
      at_front P h = at_all 0 P (take live summary) (λ i k. let k' : i < live = omega (arith, front_size) in rw (get_or-take live summary i 0 k') (h i k'))

  entering_risen : Risen numbers (paste summary live slots n) live
  entering_risen = record { up = λ i h. let h' : i < live = omega arith in rw (pasted_old i h', pasted_old (suc i) h) (f.risen.up i h) }

  -- what sorting it leaves
  entered : {summary' : List ℕ} → Sorted numbers (paste summary live slots n) (live + n) summary' → Entered numbers summary live slots summary'
  entered {summary'} s = record {
    listed = λ before after old ns g e many w. sorted_summary s after (length numbers)
        (λ a b h k p q z. inserted_distinct g after w a b h k p q (rw (← e) z))
        (rw pasted_front (joined_once g many)) (λ t. ap (elem t) pasted_front ∙ joined_members g many after w t) (rest before old ns g many);
  }
    where
      rest : (before : ℕ → Bool) (old ns : List ℕ) → Inserting before (length numbers) old summary slots ns → live ≡ length (filter before (range 0 (length numbers)))
          → drop (live + n) (paste summary live slots n) ≡ replicate (length numbers - (live + n)) blank
      rest before old ns g many =
          let e : (length numbers - live) - n ≡ length numbers - (live + n) = omega arith in
          drop-paste summary live slots n (omega (arith, f.room)) (omega arith) ∙ sym (drop-drop n live summary)
          ∙ ap (drop n) (back_is g.labelled many) ∙ drop-replicate n (length numbers - live) blank ∙ ap (λ j. replicate j blank) e

  -- the same of an order that equals it
  -- the new slots are pasted behind the live ones
  pub entering_pasted : {part : List ℕ} → part ≡ put_front slots (take (live + n - live) (drop live summary)) → put_mid live (live + n - live) summary part ≡ paste summary live slots n
  entering_pasted {part} e =
      let k : length (take (live + n - live) (drop live summary)) ≤ length slots = simp length-take (omega arith) in
      let w : part ≡ slots = rw (drop_of_length-le (take (live + n - live) (drop live summary)) k, append-nil) at e in
      put_mid-paste live (live + n - live) summary part slots n w (omega arith) refl

  entering_ready : {order : List ℕ} → order ≡ paste summary live slots n → Placed numbers order (live + n) × Risen numbers order live × (live ≤ live + n)
  entering_ready e = (rw e entering_placed, rw e entering_risen, omega arith)

  entered_from : {order summary' : List ℕ} → order ≡ paste summary live slots n → Sorted numbers order (live + n) summary' → Entered numbers summary live slots summary'
  entered_from {order} {summary'} e s = entered (rw e at s)

  -- as it is given to sorting: its first words by themselves
  pub entering_front : {order : List ℕ} → order ≡ paste summary live slots n
      → Placed numbers (take (live + n) order) (length (take (live + n) order)) × Risen numbers (take (live + n) order) live × (live ≤ length (take (live + n) order))
  entering_front e =
      let r = entering_ready e in
      let a = length-take-le (live + n) _ r.0.long in
      (placed_front r.0, risen_within (omega arith) r.1, omega arith)

  pub entered_front : {order part : List ℕ} → order ≡ paste summary live slots n → Sorted numbers (take (live + n) order) (length (take (live + n) order)) part
      → Entered numbers summary live slots (part ++ drop (live + n) order)
  entered_front e s = entered_from e (sorted_front (entering_ready e).0.long s)

-- ---- looking up

-- of the first words by themselves
pub listed_front : {numbers summary : List ℕ} {live : ℕ} → Listed numbers summary live → Listed numbers (take live summary) (length (take live summary))
listed_front {numbers} {summary} {live} k =
    let e : length (take live summary) ≡ live = length-take-le live summary k.placed.long in
    record {
      placed = placed_front k.placed;
      risen = risen_front k.placed.long k.risen;
      named = λ s h j. rw (take_all (length (take live summary)) (take live summary) (omega arith)) (k.named s h j);
      distinct = k.distinct;
      few = k.few;
    }

-- ---- delete

insert_same : (a b : List ℕ) (x : ℕ) (xs : List ℕ) → number_of a x ≡ number_of b x → All (λ s. number_of a s ≡ number_of b s) xs → insert_by (lower a) x xs ≡ insert_by (lower b) x xs
insert_same a b x [] e h = refl
insert_same a b x (y ∷ xs) e h = rw (e, h.0, insert_same a b x xs e h.1)

by_same : (a b : List ℕ) (xs : List ℕ) → All (λ s. number_of a s ≡ number_of b s) xs → by_number a xs ≡ by_number b xs
by_same a b [] h = refl
by_same a b (x ∷ xs) h =
    insert_same a b x (by_number a xs) h.0 (all_sort (λ s. number_of a s ≡ number_of b s) (lower a) xs h.1) ∙ ap (insert_by (lower b) x) (by_same a b xs h.1)

-- the live ones packed, then blanks
pub struck : {marks numbers summary numbers' packed summary' : List ℕ} {live r : ℕ} → live ≤ length summary → numbers' ≡ live_numbers (is_valid marks) (length marks) numbers
    → Packed marks summary live r packed → summary' ≡ take r packed ++ replicate (length packed - r) blank → Struck marks numbers summary live numbers' summary'
unfolding summary_of
struck {marks} {numbers} {summary} {numbers'} {packed} {summary'} {live} {r} room e p q = record { zeroed = e; listed = listed }
  where
    listed : (before : ℕ → Bool) → Labelled before (length marks) numbers summary → live ≡ length (filter before (range 0 (length marks)))
        → ((s : ℕ) → s < length marks → is_valid marks s ≡ true → before s ≡ true) → summary' ≡ summary_of (is_valid marks) (length marks) numbers'
    listed before l many w = q ∙ rw (front, size)
      where
        both : (b c : Bool) → (b ≡ true → c ≡ true) → (b && c) ≡ b
        both true c h = h refl
        both false c h = refl

        slots : filter (is_valid marks) (live_of before (length marks)) ≡ live_of (is_valid marks) (length marks)
        slots =
            sym (filter_and (is_valid marks) before (range 0 (length marks)))
            ∙ filter_among (λ s. is_valid marks s && before s) (is_valid marks) (range 0 (length marks))
            (elem_all (λ s. (is_valid marks s && before s) ≡ is_valid marks s) (range 0 (length marks)) (λ s i. both (is_valid marks s) (before s) (w s (in_range s (length marks) i))))

        front : take r packed ≡ by_number numbers' (live_of (is_valid marks) (length marks))
        front =
            p.front ∙ ap (filter (is_valid marks)) (front_is l many) ∙ filter_sort (number_of numbers) (is_valid marks) (live_of before (length marks)) ∙ ap (by_number numbers) slots
            ∙ by_same numbers numbers' (live_of (is_valid marks) (length marks))
            (all_map (λ s. (s < length marks) × (is_valid marks s ≡ true)) (λ s. number_of numbers s ≡ number_of numbers' s)
            (λ s h. rw e (sym (live_numbers_at (is_valid marks) (length marks) numbers s h.0 ∙ rw h.1))) (live_of (is_valid marks) (length marks)) (live_all (is_valid marks) (length marks)))

        size : length packed - r ≡ length marks - length (live_of (is_valid marks) (length marks))
        size =
            let a : length (take r packed) ≡ r = length-take-le r packed (omega (arith, p.most, p.size)) in
            let b : length (take r packed) ≡ length (live_of (is_valid marks) (length marks)) = ap length front ∙ length_by numbers' (live_of (is_valid marks) (length marks)) in
            let d : length packed ≡ length marks = p.size ∙ listed_long l many in
            omega arith
