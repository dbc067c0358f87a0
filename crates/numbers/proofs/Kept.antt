-- The rules hold after making, insert and delete. Assumes nothing.
use Prim.Native.Nat.{ℕ, ◌+◌, ◌-◌, ◌≤◌, ◌<◌}
use mathlib.Core.Bool.{Bool, true, false, ◌||◌, true≢false}
use mathlib.Core.Path.{◌≡◌, refl, ap, sym, ◌∙◌}
use mathlib.Core.List.{List, [], ◌∷◌, ◌++◌}
use native.Mathlib.Decide.{dec_lt}
use native.Mathlib.Omega.{arith}
use borrow.Author.Tests.{eqb-true, eqb-false, eq-eqb, ltb-true, ltb-false}
use lib.Dec.{eqb, ltb}
use lib.ListN.{length, get_or, set, replicate, length-set, length-append, length-replicate, get_or-replicate, get_or-append}
use lib.Seq.{get_or-set_same, get_or-set_other, get_or-append-add}
use Rattle.std.proofs.lemmas.Bool.{or_parts, or_right}
use Rattle.lists.specs.Lists.{All, Pairwise, elem}
use Rattle.lists.proofs.All.{all_map}
use Rattle.lists.proofs.Places.{all_at, pairwise_at}
use Rattle.slots.specs.Store.{blank}
use Rattle.numbers.specs.Numbers.{number_of, by_number, taken, write_numbers, live_numbers, summary_of, Labelled}
use Rattle.numbers.specs.Inner.Listed.{Apart, Inserting}
use Rattle.numbers.proofs.Order.{all_elem, apart_unique, length_by}
use Rattle.numbers.proofs.Exact.{live_of, live_few}
use Rattle.numbers.proofs.Named.{elem_at}
use Rattle.numbers.proofs.Taken.{taken_none}
use Rattle.numbers.proofs.Writes.{live_numbers_at}

-- ---- lengths

-- a summary is as long as there are slots
pub summary_long : (live : ℕ → Bool) (n : ℕ) (numbers : List ℕ) → length (summary_of live n numbers) ≡ n
unfolding summary_of
summary_long live n numbers =
    let f = live_few live n in
    length-append (by_number numbers (live_of live n)) (replicate (n - length (live_of live n)) blank)
    ∙ rw (length_by numbers (live_of live n), length-replicate (n - length (live_of live n)) blank) (omega arith)

-- writing numbers keeps their length
pub write_numbers_long : (slots ns numbers : List ℕ) → length (write_numbers slots ns numbers) ≡ length numbers
write_numbers_long [] ns numbers = refl
write_numbers_long (s ∷ slots) [] numbers = refl
write_numbers_long (s ∷ slots) (m ∷ ns) numbers = write_numbers_long slots ns (set numbers s m) ∙ length-set numbers s m

-- ---- numbers written

-- a slot that is none of them keeps its number
pub write_other : (t : ℕ) (slots ns numbers : List ℕ) → elem t slots ≡ false → number_of (write_numbers slots ns numbers) t ≡ number_of numbers t
write_other t [] ns numbers e = refl
write_other t (s ∷ slots) [] numbers e = refl
write_other t (s ∷ slots) (m ∷ ns) numbers e =
    write_other t slots ns (set numbers s m) (or_parts (eqb t s) (elem t slots) e).1
    ∙ get_or-set_other numbers s t m 0 (eqb-false t s (or_parts (eqb t s) (elem t slots) e).0)

-- the first slot's number
write_first : (s : ℕ) (slots : List ℕ) (m : ℕ) (ns numbers : List ℕ) → s < length numbers → elem s slots ≡ false → number_of (write_numbers (s ∷ slots) (m ∷ ns) numbers) s ≡ m
write_first s slots m ns numbers h e = write_other s slots ns (set numbers s m) e ∙ get_or-set_same numbers s m 0 h

-- each slot gets one of the numbers
pub write_one : (t : ℕ) (slots ns numbers : List ℕ) → All (λ s. s < length numbers) slots → Pairwise (λ s t. s ≡ t → ⊥) slots → length ns ≡ length slots → elem t slots ≡ true
    → elem (number_of (write_numbers slots ns numbers) t) ns ≡ true
write_one t [] ns numbers h d k e = absurd (true≢false (sym e))
write_one t (s ∷ slots) [] numbers h d k e = absurd (omega arith)
write_one t (s ∷ slots) (m ∷ ns) numbers h d k e =
    go (eqb t s) refl e (write_one t slots ns (set numbers s m) (rw (length-set numbers s m) h.1) d.1 (omega arith))
  where
    go : (b : Bool) → eqb t s ≡ b → (b || elem t slots) ≡ true → (elem t slots ≡ true → elem (number_of (write_numbers slots ns (set numbers s m)) t) ns ≡ true)
        → elem (number_of (write_numbers (s ∷ slots) (m ∷ ns) numbers) t) (m ∷ ns) ≡ true
    go true q g r = rw (eqb-true t s q, write_first s slots m ns numbers h.0 (apart_unique (s ∷ slots) d).0, eq-eqb m m refl)
    go false q g r = or_right (eqb (number_of (write_numbers slots ns (set numbers s m)) t) m) _ (r g)

-- and no two the same
pub write_apart : (t u : ℕ) (slots ns numbers : List ℕ) → All (λ s. s < length numbers) slots → Pairwise (λ s t. s ≡ t → ⊥) slots → length ns ≡ length slots → Pairwise (λ a b. a ≡ b → ⊥) ns
    → elem t slots ≡ true → elem u slots ≡ true → number_of (write_numbers slots ns numbers) t ≡ number_of (write_numbers slots ns numbers) u → t ≡ u
write_apart t u [] ns numbers h d k p e f q = absurd (true≢false (sym e))
write_apart t u (s ∷ slots) [] numbers h d k p e f q = absurd (omega arith)
write_apart t u (s ∷ slots) (m ∷ ns) numbers h d k p e f q =
    go (eqb t s) refl (eqb u s) refl e f (λ x y. write_apart t u slots ns (set numbers s m) (rw (length-set numbers s m) h.1) d.1 (omega arith) p.1 x y q)
  where
    inside : All (λ v. v < length (set numbers s m)) slots
    inside = all_map (λ v. v < length numbers) (λ v. v < length (set numbers s m)) (λ v l. omega (arith, length-set numbers s m)) slots h.1

    first : number_of (write_numbers slots ns (set numbers s m)) s ≡ m
    first = write_first s slots m ns numbers h.0 (apart_unique (s ∷ slots) d).0

    other : (v : ℕ) → elem v slots ≡ true → number_of (write_numbers slots ns (set numbers s m)) v ≡ m → ⊥
    other v g z =
        all_elem (λ a. m ≡ a → ⊥) (number_of (write_numbers slots ns (set numbers s m)) v) ns p.0
        (write_one v slots ns (set numbers s m) inside d.1 (omega arith) g) (sym z)

    go : (b : Bool) → eqb t s ≡ b → (c : Bool) → eqb u s ≡ c → (b || elem t slots) ≡ true → (c || elem u slots) ≡ true → (elem t slots ≡ true → elem u slots ≡ true → t ≡ u) → t ≡ u
    go true i true j x y r = eqb-true t s i ∙ sym (eqb-true u s j)
    go true i false j x y r = absurd (other u y (sym q ∙ ap (number_of (write_numbers slots ns (set numbers s m))) (eqb-true t s i) ∙ first))
    go false i true j x y r = absurd (other t x (q ∙ ap (number_of (write_numbers slots ns (set numbers s m))) (eqb-true u s j) ∙ first))
    go false i false j x y r = r x y

-- ---- insert

module _ {live : ℕ → Bool} {n : ℕ} {numbers summary slots ns : List ℕ} (f : Inserting live n numbers summary slots ns) where
  abbrev new_numbers : List ℕ
  new_numbers = write_numbers slots ns numbers

  inside_of : All (λ s. s < length numbers) slots
  inside_of = rw f.long f.inside

  fresh : All (λ m. (0 < m) × (elem m numbers ≡ false)) ns × Pairwise (λ a b. a ≡ b → ⊥) ns
  fresh = taken_none numbers ns f.fresh

  -- the number of a new slot
  new_number : (t : ℕ) → elem t slots ≡ true → (0 < number_of (write_numbers slots ns numbers) t) × (elem (number_of (write_numbers slots ns numbers) t) numbers ≡ false)
  new_number t e =
      all_elem (λ m. (0 < m) × (elem m numbers ≡ false)) (number_of (write_numbers slots ns numbers) t) ns fresh.0
      (write_one t slots ns numbers inside_of f.apart f.as_many e)

  -- no live slot has it
  not_old : (s t : ℕ) → s < n → elem s slots ≡ false → elem t slots ≡ true → number_of (write_numbers slots ns numbers) s ≡ number_of (write_numbers slots ns numbers) t → ⊥
  not_old s t h i j e =
      let a : number_of numbers s ≡ number_of (write_numbers slots ns numbers) t = sym (write_other s slots ns numbers i) ∙ e in
      let b : elem (number_of numbers s) numbers ≡ true = elem_at numbers s (omega (arith, f.long)) in
      true≢false (sym (rw a at b) ∙ (new_number t j).1)

  -- distinct numbers
  pub inserted_distinct : (live' : ℕ → Bool) → ((s : ℕ) → s < n → live' s ≡ (live s || elem s slots))
      → (s t : ℕ) → s < n → t < n → live' s ≡ true → live' t ≡ true → number_of (write_numbers slots ns numbers) s ≡ number_of (write_numbers slots ns numbers) t → s ≡ t
  inserted_distinct live' w s t h k a b e = go (elem s slots) refl (elem t slots) refl
    where
      old : (u : ℕ) → u < n → live' u ≡ true → elem u slots ≡ false → live u ≡ true
      old u i c d = drop_false (live u) (sym (rw d at (w u i)) ∙ c)
        where
          drop_false : (x : Bool) → (x || false) ≡ true → x ≡ true
          drop_false true z = refl
          drop_false false z = z

      go : (x : Bool) → elem s slots ≡ x → (y : Bool) → elem t slots ≡ y → s ≡ t
      go true i true j = write_apart s t slots ns numbers inside_of f.apart f.as_many fresh.1 i j e
      go true i false j = absurd (not_old t s k j i (sym e))
      go false i true j = absurd (not_old s t h i j e)
      go false i false j =
          f.labelled.distinct s t h k (old s h a i) (old t k b j) (sym (write_other s slots ns numbers i) ∙ e ∙ write_other t slots ns numbers j)

  -- the rules after an insert
  pub labelled_inserted : (live' : ℕ → Bool) → ((s : ℕ) → s < n → live' s ≡ (live s || elem s slots))
      → Labelled live' n (write_numbers slots ns numbers) (summary_of live' n (write_numbers slots ns numbers))
  labelled_inserted live' w = record {
    above = λ s h e. above s h (elem s slots) refl (live s) refl (sym (w s h) ∙ e);
    dead = λ s h e. dead s h (elem s slots) refl (live s) refl (sym (w s h) ∙ e);
    distinct = inserted_distinct live' w;
    listed = refl;
  }
    where
      above : (s : ℕ) → s < n → (x : Bool) → elem s slots ≡ x → (y : Bool) → live s ≡ y → (live s || elem s slots) ≡ true → 0 < number_of (write_numbers slots ns numbers) s
      above s h true i y j e = (new_number s i).0
      above s h false i true j e = rw (write_other s slots ns numbers i) (f.labelled.above s h j)
      above s h false i false j e = absurd (true≢false (sym (rw (i, j) at e)))

      dead : (s : ℕ) → s < n → (x : Bool) → elem s slots ≡ x → (y : Bool) → live s ≡ y → (live s || elem s slots) ≡ false → number_of (write_numbers slots ns numbers) s ≡ 0
      dead s h true i y j e = absurd (true≢false (sym (or_right (live s) _ i) ∙ e))
      dead s h false i true j e = absurd (true≢false (rw j at e))
      dead s h false i false j e = write_other s slots ns numbers i ∙ f.labelled.dead s h j

-- ---- delete

-- the rules after a delete
pub labelled_deleted : {live : ℕ → Bool} {n : ℕ} {numbers summary : List ℕ} → Labelled live n numbers summary → (live' : ℕ → Bool) → ((s : ℕ) → s < n → live' s ≡ true → live s ≡ true)
    → Labelled live' n (live_numbers live' n numbers) (summary_of live' n (live_numbers live' n numbers))
labelled_deleted {live} {n} {numbers} l live' w = record {
  above = λ s h e. rw (left s h e) (l.above s h (w s h e));
  dead = λ s h e. live_numbers_at live' n numbers s h ∙ rw e;
  distinct = λ s t h k a b e. l.distinct s t h k (w s h a) (w t k b) (sym (left s h a) ∙ e ∙ left t k b);
  listed = refl;
}
  where
    left : (s : ℕ) → s < n → live' s ≡ true → number_of (live_numbers live' n numbers) s ≡ number_of numbers s
    left s h e = live_numbers_at live' n numbers s h ∙ rw e

-- ---- making

module _ (ns : List ℕ) (g n : ℕ) (fresh : taken [] ns ≡ false) (long : length ns ≡ g) (few : g ≤ n) where
  first_number : (s : ℕ) → s < g → number_of (ns ++ replicate (n - g) 0) s ≡ get_or ns s 0
  first_number s h = get_or-append ns (replicate (n - g) 0) 0 s (omega arith)

  made_numbers_long : length (ns ++ replicate (n - g) 0) ≡ n
  made_numbers_long = length-append ns (replicate (n - g) 0) ∙ rw (length-replicate {A = ℕ} (n - g) 0) (omega arith)

  made_apart : (s t : ℕ) → s < g → t < g → number_of (ns ++ replicate (n - g) 0) s ≡ number_of (ns ++ replicate (n - g) 0) t → s ≡ t
  made_apart s t h k e = go (dec_lt s t) (dec_lt t s)
    where
      q : get_or ns s 0 ≡ get_or ns t 0
      q = sym (first_number s h) ∙ e ∙ first_number t k

      d : Pairwise (λ a b. a ≡ b → ⊥) ns
      d = (taken_none [] ns fresh).1

      go : Dec (s < t) → Dec (t < s) → s ≡ t
      go (yes l) m = absurd (pairwise_at 0 (λ a b. a ≡ b → ⊥) ns d s t l (omega arith) q)
      go (no l) (yes m) = absurd (pairwise_at 0 (λ a b. a ≡ b → ⊥) ns d t s m (omega arith) (sym q))
      go (no l) (no m) = omega arith

  -- the given numbers are distinct
  pub made_distinct : n ≤ 65536 → Apart (ns ++ replicate (n - g) 0) g
  made_distinct h = record { inside = omega (arith, made_numbers_long); few = omega (arith, made_numbers_long); distinct = made_apart }

  -- the rules after making
  pub labelled_made : (live : ℕ → Bool) → ((s : ℕ) → s < n → live s ≡ ltb s g) → Labelled live n (ns ++ replicate (n - g) 0) (summary_of live n (ns ++ replicate (n - g) 0))
  labelled_made live w = record {
    above = λ s h e. rw (first_number s (given s h e)) (all_at 0 (λ m. (0 < m) × (elem m [] ≡ false)) ns (taken_none [] ns fresh).0 s (let k = given s h e in omega arith)).0;
    dead = λ s h e. zero_from s h (ltb-false s g (sym (w s h) ∙ e));
    distinct = λ s t h k a b. made_apart s t (given s h a) (given t k b);
    listed = refl;
  }
    where
      given : (s : ℕ) → s < n → live s ≡ true → s < g
      given s h e = ltb-true s g (sym (w s h) ∙ e)

      zero_from : (s : ℕ) → s < n → g ≤ s → number_of (ns ++ replicate (n - g) 0) s ≡ 0
      zero_from s h k =
          let e : s ≡ length ns + (s - g) = omega arith in
          ap (number_of (ns ++ replicate (n - g) 0)) e ∙ get_or-append-add ns (replicate (n - g) 0) (s - g) 0 ∙ get_or-replicate (n - g) (s - g) 0 0 (omega arith)
