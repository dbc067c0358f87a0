-- The loops that write the summary, and that look numbers up. Assumes nothing.
use Prim.Native.Nat.{ℕ, ◌+◌, ◌-◌, ◌≤◌, ◌<◌}
use Rattle.std.specs.Prelude.{Option, Some, None, is_some, unwrap_or}
use Rattle.std.specs.Bool.{then_some}
use mathlib.Core.Bool.{Bool, true, false, not, ◌||◌, cond}
use mathlib.Core.Path.{◌≡◌, refl, ap, sym, ◌∙◌}
use mathlib.Core.List.{List, [], ◌∷◌, ◌++◌, append-nil}
use native.Mathlib.Numerals.{add-one}
use native.Mathlib.Omega.{arith}
use borrow.Author.Tests.{ne_eqb, eqb-true, eqb-false}
use borrow.Rule.Slice.PartMut.{mid_of, put_mid, mid_len}
use mir.Val.{bool_byte}
use lib.Dec.{eqb}
use lib.ListN.{length, take, drop, get_or, set, replicate, length-set, length-append, length-drop, drop_of_length-le}
use lib.Seq.{take-suc, take_at, length-take-le, drop-cons, take-set-le, take-suc-set, drop-set-lt, get_or-drop, get_or-take}
use Rattle.std.specs.List.{list_any}
use Rattle.lists.specs.Lists.{filter, range, put_front}
use Rattle.lists.proofs.Front.{front_snoc}
use Rattle.lists.proofs.Ranges.{range_snoc, length_range}
use Rattle.lists.proofs.Filtered.{filter_snoc}
use Rattle.slots.specs.Store.{blank, is_valid}
use Rattle.sorting.specs.Inner.Places.{key_at, Risen, Below}
use Rattle.sorting.proofs.Search.{below_absent}
use Rattle.numbers.specs.Numbers.{number_of, slot_of}
use Rattle.numbers.specs.Inner.Chunks.{Met}
use Rattle.numbers.specs.Inner.Held.{any_in, carrier}
use Rattle.numbers.specs.Inner.Listed.{Listed, Packed}
use Rattle.numbers.proofs.Named.{slot_one, slot_none, at_elem, held_slot}

-- ---- from a on, counted up

pub record Counted (from n : ℕ) (l : List ℕ) (i : ℕ) (l' : List ℕ) : Type 0 where
  pub below : i ≤ n
  pub list : l' ≡ put_front (range from i) l
  pub size : length l' ≡ length l

pub counted_more : {from n : ℕ} {l : List ℕ} {i : ℕ} {l' : List ℕ} → n ≤ length l → i < n → Counted from n l i l' → Counted from n l (i + 1) (set l' i (from + i))
counted_more {from} {n} {l} {i} {l'} h k c =
    let b : length (range from i) ≡ i = length_range from i in
    let d : length (range from i) < length l = omega arith in
    record {
      below = omega arith;
      list = rw (c.list, add-one i) (ap (λ (k : ℕ). set (put_front (range from i) l) k (from + i)) (sym b) ∙ front_snoc (range from i) (from + i) l d
          ∙ ap (λ (r : List ℕ). put_front r l) (range_snoc from i));
      size = length-set l' i (from + i) ∙ c.size;
    }

pub counted_done : {from : ℕ} {l : List ℕ} {i : ℕ} {l' : List ℕ} → length l ≤ i → Counted from (length l) l i l' → l' ≡ range from (length l)
counted_done {from} {l} {i} h c =
    let e : i ≡ length l = omega (arith, c.below) in
    let d : drop (length (range from (length l))) l ≡ [] = drop_of_length-le l (omega (arith, length_range from (length l))) in
    rw e at c.list ∙ rw d (append-nil (range from (length l)))

-- the first n places
pub counted_front : (from n : ℕ) (l : List ℕ) {part : List ℕ} → n ≤ length l → part ≡ range from (length (take n l)) → part ++ drop n l ≡ put_front (range from n) l
counted_front from n l h e =
    let a : length (take n l) ≡ n = length-take-le n l h in
    rw (e, a, length_range from n)

-- blanks from a place on
pub filled_past : (l : List ℕ) (i x : ℕ) {part : List ℕ} → i ≤ length l → part ≡ replicate (length (mid_of i (length l - i) l)) x → put_mid i (length l - i) l part ≡ take i l ++ replicate (length l - i) x
filled_past l i x {part} h e =
    let a : length (mid_of i (length l - i) l) ≡ length l - i = mid_len i (length l) l (omega arith) in
    let b : drop (length l - i) (drop i l) ≡ [] = drop_of_length-le (drop i l) (omega (arith, length-drop i l)) in
    rw (b, e, a, append-nil (replicate (length l - i) x))

-- counted up, then blanks
pub counted_blank : (n m : ℕ) (l : List ℕ) {l₁ part : List ℕ} → length l ≡ m → n ≤ m → l₁ ≡ put_front (range 0 n) l → part ≡ replicate (length (mid_of n (length l₁ - n) l₁)) blank
    → put_mid n (length l₁ - n) l₁ part ≡ range 0 n ++ replicate (m - n) blank
counted_blank n m l {l₁} h k e g =
    let f : take n l₁ ≡ range 0 n = rw e (take_at (range 0 n) (drop (length (range 0 n)) l) n (length_range 0 n)) in
    let w : length l₁ ≡ m = omega (arith, ap length e, length-append (range 0 n) (drop (length (range 0 n)) l), length-drop (length (range 0 n)) l, length_range 0 n) in
    filled_past l₁ n blank (omega arith) g ∙ rw (f, w)

-- ---- the live ones kept

pub record Keeping (marks before : List ℕ) (live n i : ℕ) (summary : List ℕ) : Type 0 where
  pub below : i ≤ live
  pub few : n ≤ i
  pub size : length summary ≡ length before
  pub front : take n summary ≡ filter (is_valid marks) (take i before)
  pub rest : drop i summary ≡ drop i before

pub keeping_none : (marks before : List ℕ) (live : ℕ) → Keeping marks before live 0 0 before
keeping_none marks before live = record { below = omega arith; few = omega arith; size = refl; front = refl; rest = refl }

module _ {marks before : List ℕ} {live n i : ℕ} {summary : List ℕ} (room : live ≤ length before) (h : i < live) (k : Keeping marks before live n i summary) where
  word : get_or summary i 0 ≡ get_or before i 0
  word =
      let e : i + 0 ≡ i = omega arith in
      (rw (get_or-drop i summary 0 0, e) at (ap (λ (l : List ℕ). get_or l 0 0) k.rest)) ∙ (rw e at (get_or-drop i before 0 0))

  after : (s : ℕ) → s ≡ get_or summary i 0 → drop (i + 1) (set summary n s) ≡ drop (i + 1) before
  after s e =
      let f : i < length summary = omega (arith, k.size) in
      let g : i < length before = omega arith in
      drop-set-lt (i + 1) summary n s (omega (arith, k.few))
      ∙ rw (add-one i) (ap tail (sym (drop-cons summary i 0 f) ∙ k.rest ∙ drop-cons before i 0 g))
    where
      tail : List ℕ → List ℕ
      tail [] = []
      tail (x ∷ xs) = xs

  more_front : filter (is_valid marks) (take (i + 1) before) ≡ filter (is_valid marks) (take i before) ++ cond (is_valid marks (get_or before i 0)) (get_or before i 0 ∷ []) []
  more_front = rw (add-one i, take-suc before i 0 (omega arith)) (filter_snoc (is_valid marks) (take i before) (get_or before i 0))

  pub keeping_live : {s : ℕ} → s ≡ get_or summary i 0 → is_valid marks s ≡ true → Keeping marks before live (n + 1) (i + 1) (set summary n s)
  keeping_live {s} e v =
      let w : s ≡ get_or before i 0 = e ∙ word in
      record {
        below = omega arith;
        few = omega (arith, k.few);
        size = length-set summary n s ∙ k.size;
        front = rw (add-one n, take-suc-set summary n s (omega (arith, k.few, k.size)), k.front, more_front, ← w, v);
        rest = after s e;
      }

  pub keeping_dead : {s : ℕ} → s ≡ get_or summary i 0 → is_valid marks s ≡ false → Keeping marks before live n (i + 1) (set summary n s)
  keeping_dead {s} e v =
      let w : s ≡ get_or before i 0 = e ∙ word in
      record {
        below = omega arith;
        few = omega (arith, k.few);
        size = length-set summary n s ∙ k.size;
        front = take-set-le n summary n s (omega arith) ∙ k.front ∙ sym (more_front ∙ rw (← w, v) (append_none (filter (is_valid marks) (take i before))));
        rest = after s e;
      }
    where
      append_none : (l : List ℕ) → l ++ [] ≡ l
      append_none [] = refl
      append_none (x ∷ l) = ap (λ (m : List ℕ). x ∷ m) (append_none l)

pub keeping_more : {marks before : List ℕ} {live n i : ℕ} {summary : List ℕ} {s m : ℕ} → live ≤ length before → i < live → Keeping marks before live n i summary → s ≡ get_or summary i 0
    → (v : Bool) → v ≡ is_valid marks s → m ≡ bool_byte v → Keeping marks before live (n + m) (i + 1) (set summary n s)
keeping_more r h k e true v g = rw g (keeping_live r h k e (sym v))
keeping_more {n = n} r h k e false v g = let z : n + 0 ≡ n = omega arith in rw (g, z) (keeping_dead r h k e (sym v))

pub keeping_done : {marks before : List ℕ} {live n i : ℕ} {summary : List ℕ} → live ≤ i → Keeping marks before live n i summary → Packed marks before live n summary
keeping_done {marks} {before} {live} {n} {i} {summary} h k =
    let e : i ≡ live = omega (arith, k.below) in
    record { most = omega (arith, k.few); size = k.size; front = rw e at k.front }

-- ---- looking up

module _ {keys order : List ℕ} {n key r : ℕ} (u : Risen keys order n) (b : Below keys order n key r) where
  met_none : (r < n → key_at keys order r ≡ key → ⊥) → Met keys order n key None
  met_none d = record { here = λ i e. cc; absent = λ e. below_absent u b d }

  pub met_then : {m : ℕ} {t : Bool} {o : Option ℕ} → r < n → m ≡ key_at keys order r → t ≡ eqb m key → o ≡ then_some t r → Met keys order n key o
  met_then {m} h e f g = rw (g, f) (go (eqb m key) refl)
    where
      go : (t : Bool) → eqb m key ≡ t → Met keys order n key (then_some t r)
      go true q = record { here = λ i z. let w : r ≡ i = cc in rw (← w) (h, sym e ∙ eqb-true m key q); absent = λ z. cc }
      go false q = met_none (λ _ z. eqb-false m key q (e ∙ z))

  pub met_else : {t : Bool} {o : Option ℕ} → n ≤ r → t ≡ false → o ≡ then_some t r → Met keys order n key o
  met_else h f g = rw (g, f) (met_none (λ l. absurd (omega arith)))

pub slot_zero : (numbers : List ℕ) {m : ℕ} → m ≡ 0 → None ≡ carrier numbers m
slot_zero numbers {m} e = rw (slot_none numbers m (λ h. absurd (omega arith)))

module _ {numbers summary : List ℕ} {live : ℕ} (k : Listed numbers summary live) {m : ℕ} where
  pub slot_absent : Met numbers summary live m None → None ≡ carrier numbers m
  slot_absent f = rw (slot_none numbers m (λ p t i e. at_elem ⊥ t (take live summary) (k.named t i (omega arith)) (λ j w q. gone t e j w q)))
    where
      gone : (t : ℕ) → number_of numbers t ≡ m → (j : ℕ) → j < length (take live summary) → get_or (take live summary) j 0 ≡ t → ⊥
      gone t e j w q =
          let j' : j < live = omega (arith, length-take-le live summary k.placed.long) in
          f.absent refl j j' (ap (number_of numbers) (rw (get_or-take live summary j 0 j') at q) ∙ e)

  -- the place is one of the summary
  pub slot_inside : {r : ℕ} → Met numbers summary live m (Some r) → r < length summary
  slot_inside {r} f = omega (arith, (f.here r refl).0, k.placed.long)

  pub slot_met : {r : ℕ} → Met numbers summary live m (Some r) → (m ≡ 0 → ⊥) → Some (get_or summary r 0) ≡ carrier numbers m
  slot_met {r} f z =
      let h : r < live = (f.here r refl).0 in
      let w : get_or summary r 0 < length numbers = k.placed.inside r h in
      let g : key_at numbers summary r ≡ m = (f.here r refl).1 in
      rw (slot_one numbers m (get_or summary r 0) (omega arith) w g (λ t j q. k.distinct t (get_or summary r 0) j w (omega arith) (q ∙ sym g)), ne_eqb (get_or summary r 0) blank (λ q. omega (arith, k.few)))

-- the slot of a carrier, blank where there is none
pub carrier_or : (numbers : List ℕ) (m : ℕ) → unwrap_or (carrier numbers m) blank ≡ slot_of numbers m
carrier_or numbers m = go (eqb (slot_of numbers m) blank) refl
  where
    go : (b : Bool) → eqb (slot_of numbers m) blank ≡ b → unwrap_or (cond b None (Some (slot_of numbers m))) blank ≡ slot_of numbers m
    go true e = sym (eqb-true (slot_of numbers m) blank e)
    go false e = refl

-- ---- any of a list

pub any_carried : {numbers summary : List ℕ} {live : ℕ} → Listed numbers summary live → (given : List ℕ) → list_any (λ m. is_some (carrier numbers m)) given ≡ any_in numbers given
any_carried k [] = refl
any_carried {numbers} k (m ∷ given) = rw (any_carried k given, ← held_slot k m) (go (eqb (slot_of numbers m) blank))
  where
    go : (b : Bool) → is_some (cond b None (Some (slot_of numbers m))) || any_in numbers given ≡ not b || any_in numbers given
    go true = refl
    go false = refl
