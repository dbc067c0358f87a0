-- Numbers that stand twice: what the chunks found give together. Assumes nothing.
use Prim.Native.Nat.{ℕ, zero, suc, ◌+◌, ◌-◌, ◌*◌, ◌≤◌, ◌<◌}
use mathlib.Core.Bool.{Bool, true, false, not, cond, true≢false}
use mathlib.Core.Path.{◌≡◌, refl, ap, sym, ◌∙◌}
use mathlib.Core.List.{List, [], ◌∷◌}
use native.Mathlib.Decide.{ℕ_discrete, dec_lt}
use native.Mathlib.Omega.{arith}
use borrow.Author.Tests.{eqb-true, ltb-true, lt-ltb}
use lib.Dec.{eqb}
use lib.ListN.{length, take, drop, get_or, length-drop}
use lib.Seq.{length-take-le, get_or-take, get_or-drop, take_all}
use Rattle.std.specs.Prelude.{Option, Some, None, is_some}
use Rattle.std.specs.Bool.{MatchBool}
use Rattle.std.specs.Int.{div_ceil}
use Rattle.std.proofs.lemmas.Grind.{div_ceil_times}
use native.Mathlib.Nat.{mul-le-mul_right}
use Rattle.std.specs.List.{HoldsAt, AllWithin}
use Rattle.lists.specs.Lists.{All, elem, times, range}
use Rattle.lists.proofs.All.{all_map}
use Rattle.lists.proofs.Counts.{once_more}
use Rattle.lists.proofs.Places.{all_at, at_all, pairwise_at}
use Rattle.lists.proofs.Ranges.{length_range, times_before, times_once}
use Rattle.lists.proofs.Unique.{Unique}
use Rattle.sorting.specs.Inner.Places.{key_at, Placed, Sorted}
use Rattle.sorting.proofs.ByKey.{at_pairwise}
use Rattle.sorting.proofs.Counts.{times_at, times_all}
use Rattle.sorting.proofs.Search.{risen_at}
use Rattle.numbers.specs.Numbers.{number_of, rising, taken}
use Rattle.numbers.specs.Inner.Chunks.{Met, Chunk, Sifted, Later, Checked}
use Rattle.numbers.proofs.Exact.{rising_all, all_rising}
use Rattle.numbers.proofs.Listing.{times_elem}
use Rattle.numbers.proofs.Named.{at_elem}
use Rattle.numbers.proofs.Order.{unique_apart, lower, Rises}
use Rattle.numbers.proofs.Taken.{taken_none, taken_twice, taken_no}

-- ---- the places of a chunk

range_within : (a n : ℕ) → All (λ s. (a ≤ s) × (s < a + n)) (range a n)
range_within a zero = tt
range_within a (suc n) =
    ((omega arith, omega arith), all_map (λ s. (suc a ≤ s) × (s < suc a + n)) (λ s. (a ≤ s) × (s < a + suc n)) (λ s h. (omega (arith, h.0), omega (arith, h.1))) (range (suc a) n) (range_within (suc a) n))

range_few : (t a n : ℕ) → times t (range a n) ≤ 1
range_few t a zero = omega arith
range_few t a (suc n) = go (eqb t a) refl (range_few t (suc a) n)
  where
    go : (b : Bool) → eqb t a ≡ b → times t (range (suc a) n) ≤ 1 → cond b 1 0 + times t (range (suc a) n) ≤ 1
    go true e r = let z = eqb-true t a e in omega (arith, times_before t (suc a) n (omega arith))
    go false e r = omega arith

few_unique : (xs : List ℕ) → ((t : ℕ) → times t xs ≤ 1) → Unique xs
few_unique [] h = tt
few_unique (x ∷ xs) h = (go (elem x xs) refl, few_unique xs (λ t. omega (arith, h t)))
  where
    go : (b : Bool) → elem x xs ≡ b → b ≡ false
    go true e = at_elem (true ≡ false) x xs e (λ i k q. absurd (omega (arith, h x, once_more x xs, rw q at (times_at xs i k))))
    go false e = refl

module _ (given order₀ : List ℕ) (a n : ℕ) (inside : a + n ≤ length given) (e : order₀ ≡ range a n) where
  front : take n order₀ ≡ range a n
  front = rw e (take_all n (range a n) (omega (arith, length_range a n)))

  -- they can be sorted
  pub chunk_placed : n ≤ length order₀ → Placed given order₀ n
  chunk_placed long = record {
    long = long;
    inside = λ i h. let z = times_all (λ s. (a ≤ s) × (s < a + n)) (range a n) (range_within a n) (get_or order₀ i 0) (counted i h) in omega (arith, z.1);
  }
    where
      counted : (i : ℕ) → i < n → 0 < times (get_or order₀ i 0) (range a n)
      counted i h =
          let k : length (take n order₀) ≡ n = length-take-le n order₀ long in
          rw (get_or-take n order₀ i 0 h, front) at (times_at (take n order₀) i (omega arith))

  -- and sorted they are a chunk
  chunk_sorted : {order : List ℕ} → Sorted given order₀ n order → Chunk given order a n
  chunk_sorted {order} f = record { inside = inside; placed = f.placed; risen = f.risen; within = within; every = every; apart = apart }
    where
      size : length (take n order) ≡ n
      size = length-take-le n order f.placed.long

      same : (t : ℕ) → times t (take n order) ≡ times t (range a n)
      same t = f.rearranged.same t ∙ ap (times t) front

      within : (i : ℕ) → i < n → (a ≤ get_or order i 0) × (get_or order i 0 < a + n)
      within i h =
          let z : 0 < times (get_or order i 0) (take n order) = rw (get_or-take n order i 0 h) at (times_at (take n order) i (omega (arith, size))) in
          times_all (λ s. (a ≤ s) × (s < a + n)) (range a n) (range_within a n) (get_or order i 0) (omega (arith, same (get_or order i 0)))

      every : (p : ℕ) → a ≤ p → p < a + n → elem p (take n order) ≡ true
      every p h k = times_elem p (take n order) (omega (arith, same p, times_once p a n h k))

      apart : (i j : ℕ) → i < j → j < n → get_or order i 0 ≡ get_or order j 0 → ⊥
      apart i j h k q =
          pairwise_at 0 (λ s t. s ≡ t → ⊥) (take n order) (unique_apart (take n order) (few_unique (take n order) (λ t. omega (arith, same t, range_few t a n)))) i j h (omega (arith, size))
          (get_or-take n order i 0 (omega arith) ∙ q ∙ sym (get_or-take n order j 0 k))

  -- of an order that is as long
  pub chunk_made : length order₀ ≡ n → {order : List ℕ} → Sorted given order₀ (length order₀) order → (length order ≡ n) × Chunk given order a n
  chunk_made k f = (f.rearranged.long ∙ k, chunk_sorted (rw k at f))

-- two places with one number
pub chunk_twice : {given order : List ℕ} {a n : ℕ} → Chunk given order a n → (i j : ℕ) → i < j → j < n → key_at given order i ≡ key_at given order j → taken [] given ≡ true
chunk_twice {given} {order} {a} {n} c i j h k e = go (dec_lt (get_or order i 0) (get_or order j 0)) (dec_lt (get_or order j 0) (get_or order i 0))
  where
    wi : get_or order i 0 < length given
    wi = c.placed.inside i (omega arith)

    wj : get_or order j 0 < length given
    wj = c.placed.inside j k

    go : Dec (get_or order i 0 < get_or order j 0) → Dec (get_or order j 0 < get_or order i 0) → taken [] given ≡ true
    go (yes l) m = taken_twice [] given (get_or order i 0) (get_or order j 0) l wj e
    go (no l) (yes m) = taken_twice [] given (get_or order j 0) (get_or order i 0) m wi (sym e)
    go (no l) (no m) = absurd (c.apart i j h k (omega arith))

-- ---- numbers that do not rise

pub sifted : {given order : List ℕ} {a n : ℕ} {r : Bool} → Chunk given order a n → n ≡ length order → r ≡ not (rising (length given) given 0 order) → Sifted given order n r
sifted {given} {order} {a} {n} {r} c m e = go (rising (length given) given 0 order) refl e
  where
    go : (b : Bool) → rising (length given) given 0 order ≡ b → r ≡ not b → Sifted given order n r
    go true f g =
        let u = rising_all (length given) given 0 order f in
        rw g
        (record {
          found = λ z. absurd (true≢false (sym z));
          above = λ _ i h. (all_at 0 (λ s. (s < length given) × (0 < number_of given s)) order u.0 i (omega arith)).1;
          up = λ _ i j h k. ltb-true (key_at given order i) (key_at given order j) (pairwise_at 0 (λ s t. lower given s t ≡ true) order u.1 i j h (omega arith));
        })
    go false f g = rw g (record { found = λ _. some (taken [] given) refl; above = λ z. absurd (true≢false z); up = λ z. absurd (true≢false z) })
      where
        some : (t : Bool) → taken [] given ≡ t → t ≡ true
        some true h = refl
        some false h = absurd (true≢false (sym (all_rising (length given) given 0 order inside rises) ∙ f))
          where
            inside : All (λ s. (s < length given) × (0 < number_of given s)) order
            inside = at_all 0 (λ s. (s < length given) × (0 < number_of given s)) order
                (λ i k. let l = c.placed.inside i (omega arith) in (l, (all_at 0 (λ m. (0 < m) × (elem m [] ≡ false)) given (taken_none [] given h).0 (get_or order i 0) l).0))

            rises : Rises given order
            rises = at_pairwise (λ s t. lower given s t ≡ true) order
                (λ i j l k. let k' : j < n = omega arith in
                lt-ltb (key_at given order i) (key_at given order j) (below i j l k' (ℕ_discrete (key_at given order i) (key_at given order j))))
              where
                below : (i j : ℕ) → i < j → j < n → Dec (key_at given order i ≡ key_at given order j) → key_at given order i < key_at given order j
                below i j l k (yes q) = absurd (true≢false (sym (chunk_twice c i j l k q) ∙ h))
                below i j l k (no q) = omega (arith, risen_at c.risen i j (omega arith) k)

-- ---- later places

module _ (given order : List ℕ) (n : ℕ) where
  abbrev pub Has : ℕ → Type 0
  Has m = (i : ℕ) × (i < n) × (key_at given order i ≡ m)

  abbrev pub Lacks : ℕ → Type 0
  Lacks m = (i : ℕ) → i < n → key_at given order i ≡ m → ⊥

pub has_from_met : (given order : List ℕ) (n m : ℕ) (r : Option ℕ) → Met given order n m r → is_some r ≡ true → Has given order n m
has_from_met given order n m None f e = absurd (true≢false (sym e))
has_from_met given order n m (Some i) f e = let h = f.here i refl in (i, h.0, h.1)

pub lacks_from_met : (given order : List ℕ) (n m : ℕ) (r : Option ℕ) → Met given order n m r → is_some r ≡ false → Lacks given order n m
lacks_from_met given order n m None f e = f.absent refl
lacks_from_met given order n m (Some i) f e = absurd (true≢false e)

pub later : {given order : List ℕ} {a n : ℕ} → Chunk given order a n → (r : Bool)
    → MatchBool r ((k : ℕ) × (k < length (drop (a + n) given)) × HoldsAt (Has given order n) (drop (a + n) given) k) (AllWithin (Lacks given order n) (drop (a + n) given) 0 (length (drop (a + n) given)))
    → Later given order a n r
later {given} {order} {a} {n} c true h = record {
  found = λ _.
      let j : ℕ = a + n + h.0 in
      let l : j < length given = omega (arith, h.1, length-drop (a + n) given) in
      let w : Has given order n (get_or (drop (a + n) given) h.0 0) = h.2 0 in
      taken_twice [] given (get_or order w.0 0) j (omega (arith, (c.within w.0 w.1).1)) l (w.2 ∙ get_or-drop (a + n) given h.0 0);
  none_later = λ z. absurd (true≢false z);
}
later {given} {order} {a} {n} c false h = record {
  found = λ z. absurd (true≢false (sym z));
  none_later = λ _ i j l m k q.
      let e : a + n + (j - (a + n)) ≡ j = omega arith in
      h (j - (a + n)) 0 (omega arith) (omega (arith, length-drop (a + n) given)) i l (q ∙ sym (rw e at (get_or-drop (a + n) given (j - (a + n)) 0)));
}

-- ---- one chunk

pub checked_early : {given order : List ℕ} {a n : ℕ} {r : Bool} → Sifted given order n r → r ≡ true → Checked given a n r
checked_early s e = record { found = s.found; above = λ z. absurd (true≢false (sym e ∙ z)); once = λ z. absurd (true≢false (sym e ∙ z)) }

module _ {given order : List ℕ} {a n : ℕ} {x : Bool} (c : Chunk given order a n) (s : Sifted given order n x) where
  pub checked_late : {r : Bool} → x ≡ false → Later given order a n r → Checked given a n r
  checked_late {r} e l = record {
    found = l.found;
    above = λ z p h k q. place ⊥ p h k (λ i w y. let v = s.above e i w in let u = ap (λ (t : ℕ). get_or given t 0) y in omega arith);
    once = λ z p j h k m w q. place ⊥ p h k (λ i v y. again z p j k m w q i v y (dec_lt j (a + n)));
  }
    where
      place : (C : Type 0) (p : ℕ) → a ≤ p → p < a + n → ((i : ℕ) → i < n → get_or order i 0 ≡ p → C) → C
      place C p h k g =
          at_elem C p (take n order) (c.every p h k)
          (λ i w q. let i' : i < n = omega (arith, length-take-le n order c.placed.long) in g i i' (rw (get_or-take n order i 0 i') at q))

      never : (i j : ℕ) → i < n → j < n → (get_or order i 0 ≡ get_or order j 0 → ⊥) → key_at given order i ≡ key_at given order j → ⊥
      never i j h k d q = go (dec_lt i j) (dec_lt j i)
        where
          go : Dec (i < j) → Dec (j < i) → ⊥
          go (yes m) w = omega (arith, s.up e i j m k)
          go (no m) (yes w) = omega (arith, s.up e j i w h)
          go (no m) (no w) = let y : i ≡ j = omega arith in d (ap (λ (t : ℕ). get_or order t 0) y)

      again : r ≡ false → (p j : ℕ) → p < a + n → p < j → j < length given → get_or given p 0 ≡ get_or given j 0 → (i : ℕ) → i < n → get_or order i 0 ≡ p → Dec (j < a + n) → ⊥
      again z p j k m w q i v y (yes t) =
          place ⊥ j (omega (arith, (c.within i v).0)) t
          (λ i₂ v₂ y₂. never i i₂ v v₂ (λ u. omega arith) (ap (λ (t : ℕ). get_or given t 0) y ∙ q ∙ ap (λ (t : ℕ). get_or given t 0) (sym y₂)))
      again z p j k m w q i v y (no t) = l.none_later z i j v (omega arith) w (ap (λ (t : ℕ). get_or given t 0) y ∙ q)

-- ---- chunk by chunk

-- past the last part there is nothing
pub parts_done : {n size part parts : ℕ} → 0 < size → parts ≡ div_ceil n size → parts ≤ part → n ≤ part * size
parts_done {n} {size} {part} {parts} some e h =
    let y : parts * size ≤ part * size = mul-le-mul_right size h in
    omega (arith, (div_ceil_times n size some).0, rw e at y)

pub record Clear (given : List ℕ) (a : ℕ) : Type 0 where
  pub above : (p : ℕ) → p < a → p < length given → get_or given p 0 ≡ 0 → ⊥
  pub once : (p j : ℕ) → p < a → p < j → j < length given → get_or given p 0 ≡ get_or given j 0 → ⊥

pub clear_done : {given : List ℕ} {a : ℕ} → length given ≤ a → Clear given a → false ≡ taken [] given
clear_done {given} h k =
    sym (taken_no [] given (λ i l. (k.above i (omega arith) l, refl)) (λ i j l w. k.once i j (omega arith) l w))
