-- The loops that write numbers, one a turn. Assumes nothing.
use Prim.Native.Nat.{ℕ, zero, suc, ◌+◌, ◌≤◌, ◌<◌}
use mathlib.Core.Bool.{Bool, not, cond}
use mathlib.Core.Path.{◌≡◌, ap, sym, ◌∙◌}
use mathlib.Core.List.{List, map, append-nil}
use native.Mathlib.Decide.{dec_lt}
use native.Mathlib.Numerals.{add-one}
use native.Mathlib.Omega.{arith}
use lib.Dec.{eqb}
use lib.ListN.{length, take, drop, get_or, set, length-set, length-map, drop_of_length-le}
use lib.Seq.{take-suc, length-take-le, get_or-set_same, get_or-set_other, ext_get_or}
use Rattle.lists.specs.Lists.{range, put_front}
use Rattle.lists.proofs.Front.{front_map}
use Rattle.lists.proofs.Ranges.{length_range}
use Rattle.slots.specs.Store.{is_valid}
use Rattle.numbers.specs.Numbers.{number_of, write_numbers, live_numbers}

-- ---- a function of each of the first n elements, written to the front of a list

pub record Mapped (f : ℕ → ℕ) (xs : List ℕ) (n : ℕ) (l : List ℕ) (i : ℕ) (l' : List ℕ) : Type 0 where
  pub below : i ≤ n
  pub list : l' ≡ put_front (map f (take i xs)) l
  pub size : length l' ≡ length l

pub mapped_more : (f : ℕ → ℕ) {xs : List ℕ} {n : ℕ} {l : List ℕ} {i : ℕ} {l' : List ℕ} {v : ℕ} → n ≤ length xs → n ≤ length l → i < n → Mapped f xs n l i l' → v ≡ f (get_or xs i 0)
    → Mapped f xs n l (i + 1) (set l' i v)
mapped_more f {xs} {n} {l} {i} {l'} {v} h k j m e =
    let a : i ≤ length xs = omega arith in
    let b : length (take i xs) ≡ i = length-take-le i xs a in
    let d : length (take i xs) < length l = omega arith in
    record {
      below = omega arith;
      list = rw (m.list, e, add-one i, take-suc xs i 0 (omega arith)) (rw b at (front_map f (take i xs) (get_or xs i 0) l d));
      size = length-set l' i v ∙ m.size;
    }

pub mapped_all : (f : ℕ → ℕ) {xs l : List ℕ} {i : ℕ} {l' : List ℕ} → length l ≤ length xs → length l ≤ i → Mapped f xs (length l) l i l' → l' ≡ map f (take (length l) xs)
mapped_all f {xs} {l} {i} {l'} h k m =
    let e : i ≡ length l = omega (arith, m.below) in
    let d : length l ≤ length (map f (take (length l) xs)) = omega (arith, length-map (take (length l) xs) f, length-take-le (length l) xs h) in
    rw (drop_of_length-le l d, append-nil) at (rw e at m.list)

-- ---- numbers written to slots

pub record Written (slots given before : List ℕ) (i : ℕ) (numbers : List ℕ) : Type 0 where
  pub below : i ≤ length given
  pub size : length numbers ≡ length before
  pub rest : write_numbers (drop i (take (length given) slots)) (drop i given) numbers ≡ write_numbers (take (length given) slots) given before

-- ---- 0 for dead slots

pub getD_map_range : (f : ℕ → ℕ) (a n i : ℕ) → i < n → get_or (map f (range a n)) i 0 ≡ f (a + i)
getD_map_range f a zero i h = absurd (omega arith)
getD_map_range f a (suc n) zero h = let e : a + 0 ≡ a = omega arith in rw e
getD_map_range f a (suc n) (suc i) h =
    let e : suc a + i ≡ a + suc i = omega arith in
    getD_map_range f (suc a) n i (omega arith) ∙ ap f e

-- a live slot keeps its number, a dead one holds 0
pub live_numbers_at : (live : ℕ → Bool) (n : ℕ) (numbers : List ℕ) (s : ℕ) → s < n → number_of (live_numbers live n numbers) s ≡ cond (live s) (number_of numbers s) 0
unfolding live_numbers
live_numbers_at live n numbers s h = getD_map_range (λ s. cond (live s) (number_of numbers s) 0) 0 n s h ∙ (let e : 0 + s ≡ s = omega arith in rw e)

-- as many numbers as there are slots
pub live_numbers_long : (live : ℕ → Bool) (n : ℕ) (numbers : List ℕ) → length (live_numbers live n numbers) ≡ n
unfolding live_numbers
live_numbers_long live n numbers = length-map (range 0 n) (λ s. cond (live s) (number_of numbers s) 0) ∙ length_range 0 n

pub record Zeroed (marks before : List ℕ) (s : ℕ) (numbers : List ℕ) : Type 0 where
  pub size : length numbers ≡ length before
  pub done : (t : ℕ) → t < s → number_of numbers t ≡ cond (is_valid marks t) (number_of before t) 0
  pub rest : (t : ℕ) → s ≤ t → number_of numbers t ≡ number_of before t

pub zeroed_more : {marks before : List ℕ} {s : ℕ} {numbers : List ℕ} {v : ℕ} → s < length numbers → Zeroed marks before s numbers → v ≡ cond (not (eqb (get_or marks s 0) 0)) (get_or numbers s 0) 0
    → Zeroed marks before (s + 1) (set numbers s v)
unfolding is_valid
zeroed_more {marks} {before} {s} {numbers} {v} h z e = record {
  size = length-set numbers s v ∙ z.size;
  done = λ t k. go t k (dec_lt t s);
  rest = λ t k. get_or-set_other numbers s t v 0 (λ i. omega arith) ∙ z.rest t (omega arith);
}
  where
    go : (t : ℕ) → t < s + 1 → Dec (t < s) → number_of (set numbers s v) t ≡ cond (is_valid marks t) (number_of before t) 0
    go t k (yes l) = get_or-set_other numbers s t v 0 (λ i. omega arith) ∙ z.done t l
    go t k (no l) =
        let i : t ≡ s = omega arith in
        rw (i, get_or-set_same numbers s v 0 h, e, z.rest s (omega arith))

pub zeroed_done : {marks before : List ℕ} {s : ℕ} {numbers : List ℕ} → length before ≡ length marks → length marks ≤ s → Zeroed marks before s numbers → numbers ≡ live_numbers (is_valid marks) (length marks) before
zeroed_done {marks} {before} {s} {numbers} h k z =
    ext_get_or 0 numbers (live_numbers (is_valid marks) (length marks) before) (z.size ∙ h ∙ sym (live_numbers_long (is_valid marks) (length marks) before))
    (λ i l. z.done i (omega (arith, z.size)) ∙ sym (live_numbers_at (is_valid marks) (length marks) before i (omega (arith, z.size))))
