-- Making an index: what the code finds is what the table says, and what it leaves is what making makes. Assumes nothing.
use Prim.Native.Nat.{ℕ, ◌-◌, ◌*◌, ◌≤◌}
use mathlib.Core.Bool.{Bool, true, false, not, ◌&&◌, ◌||◌}
use mathlib.Core.Path.{◌≡◌, refl, sym, ap, ◌∙◌, subst}
use mathlib.Core.List.{List, [], ◌∷◌, ◌++◌, append-nil}
use mathlib.Core.Option.{none}
use native.Mathlib.Omega.{arith}
use borrow.Author.Tests.{eqb-true, not-true, not-false}
use lib.ListN.{length, replicate, length-append, length-replicate, drop_of_length-le}
use lib.Dec.{eqb, ltb, leb}
use Rattle.std.specs.List.{list_any}
use Rattle.std.proofs.lemmas.Bool.{and_parts}
use Rattle.lists.specs.Lists.{put_front}
use Rattle.slots.specs.View.{View}
use Rattle.vectors.specs.Distance.{distance}
use Rattle.slots.specs.Store.{blank, arrays, store_view, store_ops}
use Rattle.slots.specs.Plain.{new_plain}
use Rattle.numbers.specs.Numbers.{taken, summary_of}
use Rattle.numbers.specs.Inner.Listed.{Apart, Summarized}
use Rattle.numbers.proofs.Kept.{made_distinct}
use Rattle.slots.specs.Inner.Making.{Room, New}
use Rattle.slots.proofs.New.{Accepted, agree_new}
use Rattle.std.specs.Prelude.{Result, Ok, Err}
use Rattle.index.specs.declared.Refusal.{Refusal}
use Rattle.index.specs.declared.Refusal.TheVariants as Refused
use Rattle.index.specs.Refusal.{turned_back}
use Rattle.slots.specs.Sizes.{Slices, Lengths, lengths_of, limits, sizes_ok, alpha_ok, weights_ok, lengths_ok}
use Rattle.calls.specs.Calls.{Making}
use Rattle.calls.specs.Refusals.{Test, first_of, names_given, entry_given, making_tests}
use Rattle.calls.specs.State.{stored, plain, made}
use Rattle.index.specs.Index.{guard_of, state_of}
use Rattle.guard.specs.Guard.{off}
use Rattle.index.specs.declared.making.Making as lent
use Rattle.index.specs.Create.{making_of, Creates}
use Rattle.index.specs.Inner.Making.{fresh_index, NumberRoom, NewNumbers}
use Rattle.index.specs.Inner.Deciding.{Judged}
use Rattle.index.proofs.Decide.{ltb_leb, ranges, Sized, three_none, three_more}
use Rattle.calls.proofs.Tests.{lengths_made, capacity_within, numbers_given, weights_given, accepted}
use Rattle.calls.proofs.Count.{stored_given}

-- ---- row 5: a word that is neither blank nor a given slot

pub named_any : (count : ℕ) (rows : List ℕ) → list_any (λ t. not (eqb t blank) && leb count t) rows ≡ not (names_given count rows)
named_any count [] = refl
named_any count (t ∷ ts) = rw (ltb_leb t count) (go (eqb t blank) (leb count t) (named_any count ts))
  where
    go : (b l : Bool) → list_any (λ t. not (eqb t blank) && leb count t) ts ≡ not (names_given count ts)
        → (not b && l) || list_any (λ t. not (eqb t blank) && leb count t) ts ≡ not ((b || not l) && names_given count ts)
    go true l e = e
    go false true e = refl
    go false false e = e

-- ---- the tests, one after the other

-- row 3's part of what is given, the tests after row 3, and those after row 16
abbrev given_fits : Making → Bool
given_fits m = eqb (length m.bytes) (m.count * m.sizes.dim) && eqb (length m.rows) (m.count * m.sizes.degree) && eqb (length m.numbers) m.count && eqb (length m.weights) m.sizes.dim

abbrev own : Making → List Test
own m =
    (4, ltb m.sizes.capacity m.count)
    ∷ (5, not (names_given m.count m.rows && entry_given m.count m.entry))
    ∷ (15, taken [] m.numbers)
    ∷ []

abbrev weighed : Making → List Test
weighed m = (16, not (weights_ok limits m.weights)) ∷ own m

module _ (m : Making) (lent : Lengths) {A : Type 0} {r₁ : Result A Refusal} (checked : Sized m.sizes.dim m.sizes.capacity m.sizes.degree m.sizes.alpha lent r₁) where
  pub judged_before : {B : Type 0} {e : Refusal} → r₁ ≡ Err e → Judged m lent {A = B} (Err e)
  unfolding making_tests
  judged_before z =
      let q = lengths_ok limits m.sizes lent in
      let q' = q && eqb (length m.bytes) (m.count * m.sizes.dim) && eqb (length m.rows) (m.count * m.sizes.degree) && eqb (length m.numbers) m.count && eqb (length m.weights) m.sizes.dim in
      record {
        does = three_more (not (sizes_ok limits m.sizes)) (not (alpha_ok m.sizes.alpha)) (not q) (not q') (weighed m) (λ h. rw (not-true q h) refl) (ap turned_back (sym z) ∙ checked);
      }

  module _ {a : A} (z : r₁ ≡ Ok a) where
    passed_three : (not (sizes_ok limits m.sizes) ≡ false) × (not (alpha_ok m.sizes.alpha) ≡ false) × (not (lengths_ok limits m.sizes lent) ≡ false)
    passed_three = three_none (not (sizes_ok limits m.sizes)) (not (alpha_ok m.sizes.alpha)) (not (lengths_ok limits m.sizes lent)) (ap turned_back (sym z) ∙ checked)

    module _ {r₄ : Bool} (given : r₄ ≡ not (given_fits m)) where
      pub judged_given : {B : Type 0} → r₄ ≡ true → Judged m lent {A = B} (Err Refused.Lengths)
      unfolding making_tests
      judged_given t₄ = let p = passed_three in record { does = rw (p.0, p.1, not-false (lengths_ok limits m.sizes lent) p.2, sym given ∙ t₄) }

      module _ (t₄ : r₄ ≡ false) where
        -- there are few weights
        pub judged_few : length m.weights ≤ 256
        judged_few =
            let b = eqb (length m.bytes) (m.count * m.sizes.dim) && eqb (length m.rows) (m.count * m.sizes.degree) && eqb (length m.numbers) m.count in
            let w = eqb (length m.weights) m.sizes.dim in
            let z = ranges m.sizes (not-false (sizes_ok limits m.sizes) passed_three.0) in
            omega (arith, z.dim_high, eqb-true (length m.weights) m.sizes.dim (and_parts b w (not-false (b && w) (sym given ∙ t₄))).1)

        module _ {r₁₆ : Bool} (weighs : r₁₆ ≡ not (weights_ok limits m.weights)) where
          pub judged_weights : {B : Type 0} → r₁₆ ≡ true → Judged m lent {A = B} (Err Refused.Weights)
          unfolding making_tests
          judged_weights t₁₆ = let p = passed_three in record { does = rw (p.0, p.1, not-false (lengths_ok limits m.sizes lent) p.2, sym given ∙ t₄, sym weighs ∙ t₁₆) }

          pub judged_rest : {B : Type 0} {r : Result B Refusal} → r₁₆ ≡ false → turned_back r ≡ first_of (own m) → Judged m lent r
          unfolding making_tests
          judged_rest t₁₆ e = let p = passed_three in record { does = rw (p.0, p.1, not-false (lengths_ok limits m.sizes lent) p.2, sym given ∙ t₄, sym weighs ∙ t₁₆) e }

      -- what the tests of given slots rest on
      pub judged_fits : r₄ ≡ false → (m.sizes.capacity ≤ 65536) × (length m.numbers ≡ m.count)
      judged_fits t₄ =
          let b = eqb (length m.bytes) (m.count * m.sizes.dim) in
          let k = eqb (length m.rows) (m.count * m.sizes.degree) in
          let n = eqb (length m.numbers) m.count in
          let w = eqb (length m.weights) m.sizes.dim in (
            (ranges m.sizes (not-false (sizes_ok limits m.sizes) passed_three.0)).capacity_high,
            eqb-true (length m.numbers) m.count (and_parts (b && k) n (and_parts (b && k && n) w (not-false (b && k && n && w) (sym given ∙ t₄))).0).1,
          )

-- ---- the new index

-- what takes all the room
pub front_whole : (old : List ℕ) {given new : List ℕ} → length old ≡ length given → new ≡ put_front given old → new ≡ given
front_whole old {given} l e = let h : length old ≤ length given = omega arith in e ∙ rw (drop_of_length-le old h) (append-nil given)

-- what is written to numbers and summary
module _ {given numbers summary : List ℕ} (k : NumberRoom given numbers summary) {numbers' : List ℕ} (e : numbers' ≡ given ++ replicate (length numbers - length given) 0) where
  pub labels_apart : Apart numbers' (length given)
  labels_apart = subst (λ l. Apart l (length given)) (sym e) (made_distinct given (length given) (length numbers) k.free refl k.room k.few)

  numbers_same : length numbers' ≡ length numbers
  numbers_same = ap length e ∙ simp (length-append, length-replicate) (omega (arith, k.room))

  pub labels_long : length summary ≡ length numbers'
  labels_long = k.long ∙ sym numbers_same

  pub labels_new : {summary' : List ℕ} → Summarized numbers' (length given) summary' → NewNumbers given (length numbers) numbers' summary'
  labels_new {summary'} z = record {
    numbers_new = e;
    summary_new = λ live h. subst (λ n. summary' ≡ summary_of live n numbers') numbers_same (z.listed live (λ s i. h s));
  }

-- what is written, with the new index by value, is what making makes
made_new : (g : lent.Making) {s : Slices} → let m = making_of g in Accepted m.sizes m.count m.bytes m.rows m.entry
    → New g.dim g.capacity g.degree g.count m.bytes m.rows s.vectors s.targets s.edges s.versions s.marks s.pool
    → length m.numbers ≡ m.count → NewNumbers m.numbers g.capacity s.numbers s.summary → s.weights ≡ m.weights
    → state_of (fresh_index g) s ≡ made stored m
unfolding state_of made stored plain new_plain store_ops store_view guard_of
made_new g {s} ok w many k weights =
    let m = making_of g in
    let same = (agree_new m.sizes (distance m.weights) m.count m.bytes m.rows m.entry ok).same in
    let v = store_view (stored.new m) in
    let numbers : s.numbers ≡ m.numbers ++ replicate (g.capacity - m.count) 0 = subst (λ n. s.numbers ≡ m.numbers ++ replicate (g.capacity - n) 0) many k.numbers_new in
    let live : (t : ℕ) → v.live t ≡ ltb t (length m.numbers) = λ t. ap (λ (u : View). u.live t) same ∙ ap (ltb t) (sym many) in
    let summary : s.summary ≡ summary_of v.live v.sizes.capacity (m.numbers ++ replicate (g.capacity - m.count) 0) =
    subst (λ l. s.summary ≡ summary_of v.live g.capacity l) numbers (k.summary_new v.live live) in
    λ i. record {
      graph = record { arrays = (ap (λ ws. arrays (distance ws) g.dim g.degree s.vectors s.targets s.edges s.versions s.marks) weights ∙ w.does (distance m.weights) g.alpha) i; capacity = g.capacity; alpha = g.alpha; entry = g.entry };
      live = sym (stored_given m ok) i;
      guard = off;
      pool = w.pool_empty i;
      numbers = numbers i;
      summary = summary i;
      weights = weights i;
    }

-- ---- what the answer says

-- the lengths that are judged are those of the slices
module _ {m : Making} (s : Slices) {seen : Slices} {lent : Lengths} {A : Type 0} {r : Result A Refusal} (long : lent ≡ lengths_of seen) (same : seen ≡ s) (j : Judged m lent r) where
  judged_none : {a : A} → r ≡ Ok a → first_of (making_tests limits (lengths_of s) m) ≡ none
  judged_none z = ap (λ n. first_of (making_tests limits n m)) (ap lengths_of (sym same) ∙ sym long) ∙ sym j.does ∙ ap turned_back z

  -- one that is not has the room for what it writes
  pub creates_room : {a : A} → r ≡ Ok a
      → Room m.sizes.dim m.sizes.capacity m.sizes.degree m.count m.bytes m.rows s.vectors s.targets s.edges s.versions s.marks s.pool
  creates_room z =
      let h = judged_none z in
      let ok = accepted _ m h in
      let l = lengths_made _ m h in
      record {
        room = ok.room;
        bytes_long = ok.vectors_long;
        rows_long = ok.rows_long;
        vectors_long = ap (λ x. x.vectors) l;
        targets_long = ap (λ x. x.targets) l;
        edges_long = ap (λ x. x.edges) l;
        versions_long = ap (λ x. x.versions) l;
        marks_long = ap (λ x. x.marks) l;
        pool_long = ap (λ x. x.pool) l;
      }

  -- and as many weights are given as there is room for
  pub creates_weight_room : {a : A} → r ≡ Ok a → length s.weights ≡ length m.weights
  creates_weight_room z = let h = judged_none z in ap (λ x. x.weights) (lengths_made _ m h) ∙ sym (weights_given _ m h).0

  -- nor a number given twice
  pub creates_number_room : {a : A} → r ≡ Ok a → NumberRoom m.numbers s.numbers s.summary
  unfolding limits
  creates_number_room z =
      let h = judged_none z in
      let ok = accepted _ m h in
      let l = lengths_made _ m h in
      let given = numbers_given _ m h in
      let n = ap (λ x. x.numbers) l in
      record {
        room = omega (arith, given.0, ok.room, n);
        long = ap (λ x. x.summary) l ∙ sym n;
        few = omega (arith, (capacity_within m.sizes ok.sizes_right).1, n);
        free = given.1;
      }

-- and what it writes is the new index
pub creates_done : (g : lent.Making) (before after : Slices) {seen : Slices} {n : Lengths} {A : Type 0} {r : Result A Refusal} {a : A} → let m = making_of g in
    n ≡ lengths_of seen → seen ≡ before → Judged m n r → r ≡ Ok a
    → New g.dim g.capacity g.degree g.count m.bytes m.rows after.vectors after.targets after.edges after.versions after.marks after.pool
    → NewNumbers m.numbers (length before.numbers) after.numbers after.summary → after.weights ≡ m.weights
    → Creates m before after (Ok (fresh_index g))
creates_done g before after long same j z w k weights =
    let m = making_of g in
    let h = judged_none before long same j z in
    let n = ap (λ x. x.numbers) (lengths_made _ m h) in
    let new = made_new g (accepted _ m h) w (numbers_given _ m h).0 (subst (λ n. NewNumbers m.numbers n after.numbers after.summary) n k) weights in
    record {
      back = λ n q. cc;
      done = λ i q. let k : i ≡ fresh_index g = cc in record { accepted = h; new = ap (λ k. state_of k after) k ∙ new };
    }
