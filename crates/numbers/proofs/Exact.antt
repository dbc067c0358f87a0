-- What a summary is: the test of row 6 passes exactly where the rules hold. Assumes nothing.
use Prim.Native.Nat.{ℕ, zero, suc, ◌+◌, ◌-◌, ◌≤◌, ◌<◌}
use mathlib.Core.Bool.{Bool, true, false, not, ◌&&◌, ◌||◌, cond, true≢false}
use mathlib.Core.Path.{◌≡◌, refl, ap, sym, ◌∙◌, subst}
use mathlib.Core.List.{List, [], ◌∷◌, ◌++◌, map-id}
use native.Mathlib.Omega.{arith}
use borrow.Author.Tests.{eqb-true, eqb-false, eq-eqb, ne_eqb, ltb-true, lt-ltb, not-true}
use lib.Dec.{eqb, ltb}
use lib.ListN.{length, take, drop, replicate, length-drop, take-append-drop}
use lib.Seq.{length-take-le, take_at, drop_at}
use Rattle.std.proofs.lemmas.Bool.{and_parts}
use Rattle.lists.specs.Lists.{All, Pairwise, filter, range, elem}
use Rattle.lists.proofs.All.{all_map, all_both, all_sort, filter_test}
use Rattle.lists.proofs.Alike.{one_length}
use Rattle.lists.proofs.Filter.{filter_length}
use Rattle.lists.proofs.Members.{elem_sort, elem_filter}
use Rattle.lists.proofs.Ranges.{length_range, range_below, filtered_below}
use Rattle.lists.proofs.Unique.{Unique, unique_filter}
use Rattle.slots.specs.Store.{blank}
use Rattle.numbers.specs.Numbers.{number_of, by_number, summary_of, number_fits, numbers_fit, rising, all_blank, labels_ok, Labelled}
use Rattle.numbers.proofs.Order.{all_elem, elem_all, same_test, elem_filter_in, filter_full, pairwise_from, pairwise_filter, range_up, apart_unique, Rises, lower, sort_rises, length_by, rises_unique, rises_one, same_order}

-- ---- blanks

pub blank_all : (xs : List ℕ) → all_blank xs ≡ true → xs ≡ replicate (length xs) blank
blank_all [] e = refl
blank_all (x ∷ xs) e =
    let b = and_parts (eqb x blank) (all_blank xs) e in
    rw (← blank_all xs b.1) (ap (λ (y : ℕ). y ∷ xs) (eqb-true x blank b.0))

pub all_blanks : (n : ℕ) → all_blank (replicate n blank) ≡ true
all_blanks zero = refl
all_blanks (suc n) = all_blanks n

-- ---- numbers that fit

pub fits_all : (live : ℕ → Bool) (numbers : List ℕ) (ss : List ℕ) → numbers_fit live numbers ss ≡ true → All (λ s. number_fits live numbers s ≡ true) ss
fits_all live numbers [] e = tt
fits_all live numbers (s ∷ ss) e =
    let b = and_parts (number_fits live numbers s) (numbers_fit live numbers ss) e in
    (b.0, fits_all live numbers ss b.1)

pub all_fits : (live : ℕ → Bool) (numbers : List ℕ) (ss : List ℕ) → All (λ s. number_fits live numbers s ≡ true) ss → numbers_fit live numbers ss ≡ true
all_fits live numbers [] h = refl
all_fits live numbers (s ∷ ss) h = rw h.0 (all_fits live numbers ss h.1)

pub range_in : (s n : ℕ) → s < n → elem s (range 0 n) ≡ true
range_in s n h = go n 0 (omega arith) (omega arith)
  where
    go : (m a : ℕ) → a ≤ s → s < a + m → elem s (range a m) ≡ true
    go zero a l k = absurd (omega arith)
    go (suc m) a l k = step (eqb s a) refl (go m (suc a))
      where
        step : (b : Bool) → eqb s a ≡ b → (suc a ≤ s → s < suc a + m → elem s (range (suc a) m) ≡ true) → (b || elem s (range (suc a) m)) ≡ true
        step true e r = refl
        step false e r = let z = eqb-false s a e in r (omega arith) (omega arith)

pub in_range : (s n : ℕ) → elem s (range 0 n) ≡ true → s < n
in_range s n e = all_elem (λ t. t < n) s (range 0 n) (range_below 0 n n (omega arith)) e

-- ---- lists that rise, as they are tested

module _ (n : ℕ) (numbers : List ℕ) where
  pub rising_all : (low : ℕ) (ss : List ℕ) → rising n numbers low ss ≡ true → All (λ s. (s < n) × (low < number_of numbers s)) ss × Rises numbers ss
  rising_all low [] e = (tt, tt)
  rising_all low (s ∷ ss) e =
      let b = and_parts (ltb s n && ltb low (number_of numbers s)) (rising n numbers (number_of numbers s) ss) e in
      let d = and_parts (ltb s n) (ltb low (number_of numbers s)) b.0 in
      let l : low < number_of numbers s = ltb-true low (number_of numbers s) d.1 in
      let r = rising_all (number_of numbers s) ss b.1 in (
        ((ltb-true s n d.0, l), all_map (λ t. (t < n) × (number_of numbers s < number_of numbers t)) (λ t. (t < n) × (low < number_of numbers t)) (λ t h. (h.0, omega (arith, h.1, l))) ss r.0),
        (all_map (λ t. (t < n) × (number_of numbers s < number_of numbers t)) (λ t. lower numbers s t ≡ true) (λ t h. lt-ltb (number_of numbers s) (number_of numbers t) h.1) ss r.0, r.1),
      )

  pub all_rising : (low : ℕ) (ss : List ℕ) → All (λ s. (s < n) × (low < number_of numbers s)) ss → Rises numbers ss → rising n numbers low ss ≡ true
  all_rising low [] h r = refl
  all_rising low (s ∷ ss) h r =
      rw (lt-ltb s n h.0.0, lt-ltb low (number_of numbers s) h.0.1)
      (all_rising (number_of numbers s) ss
      (all_map (λ t. ((t < n) × (low < number_of numbers t)) × (lower numbers s t ≡ true)) (λ t. (t < n) × (number_of numbers s < number_of numbers t))
      (λ t k. (k.0.0, ltb-true (number_of numbers s) (number_of numbers t) k.1)) ss
      (all_both (λ t. (t < n) × (low < number_of numbers t)) (λ t. lower numbers s t ≡ true) ss h.1 r.0)) r.1)

-- ---- the live slots of n

module _ (live : ℕ → Bool) (n : ℕ) where
  abbrev pub live_of : List ℕ
  live_of = filter live (range 0 n)

  pub live_in : (s : ℕ) → s < n → live s ≡ true → elem s live_of ≡ true
  live_in s h e = elem_filter live s e (range 0 n) ∙ range_in s n h

  pub in_live : (s : ℕ) → elem s live_of ≡ true → (s < n) × (live s ≡ true)
  in_live s e = let b = elem_filter_in live s (range 0 n) e in (in_range s n b.1, b.0)

  pub live_up : Pairwise (λ s t. s < t) live_of
  live_up = pairwise_filter (λ s t. s < t) live (range 0 n) (range_up 0 n)

  pub live_all : All (λ s. (s < n) × (live s ≡ true)) live_of
  live_all = all_both (λ s. s < n) (λ s. live s ≡ true) live_of (filtered_below live n) (filter_test live (range 0 n))

  pub live_few : length live_of ≤ n
  live_few = omega (arith, filter_length live (range 0 n), length_range 0 n)

  pub live_unique : Unique live_of
  live_unique = apart_unique live_of (pairwise_from (λ s. Unit {0}) (λ s t. s < t) (λ s t. s ≡ t → ⊥) (λ s t _ _ h z. omega arith) live_of (all_map (λ s. (s < n) × (live s ≡ true)) (λ s. Unit {0}) (λ s _. tt) live_of live_all) live_up)

  -- by rising number, where numbers are distinct
  pub live_rises : (numbers : List ℕ) → ((s t : ℕ) → s < n → t < n → live s ≡ true → live t ≡ true → number_of numbers s ≡ number_of numbers t → s ≡ t) → Rises numbers (by_number numbers live_of)
  live_rises numbers d =
      sort_rises numbers live_of
      (pairwise_from (λ s. (s < n) × (live s ≡ true)) (λ s t. s < t) (λ s t. number_of numbers s ≡ number_of numbers t → ⊥)
      (λ s t h k l e. let z = d s t h.0 k.0 h.1 k.1 e in omega arith) live_of live_all live_up)

  -- a list of the live slots that rises is theirs by number
  pub live_listed : (numbers ks : List ℕ) → ((s t : ℕ) → s < n → t < n → live s ≡ true → live t ≡ true → number_of numbers s ≡ number_of numbers t → s ≡ t)
      → Rises numbers ks → ((t : ℕ) → elem t ks ≡ elem t live_of) → ks ≡ by_number numbers live_of
  live_listed numbers ks d r h = same_order numbers ks (by_number numbers live_of) r (live_rises numbers d) (λ t. h t ∙ sym (elem_sort (lower numbers) t live_of))

unique_left : (p : ℕ → Bool) (l : List ℕ) → Unique l → Unique (filter p l)
unique_left p l u = subst Unique (map-id (filter p l)) (unique_filter (λ x. x) p l (subst Unique (sym (map-id l)) u))

-- a number fits its slot
fit_live : (b : Bool) (x : ℕ) → cond b (not (eqb x 0)) (eqb x 0) ≡ true → b ≡ true → 0 < x
fit_live true x e h = let z = eqb-false x 0 (not-true (eqb x 0) e) in omega arith
fit_live false x e h = absurd (true≢false (sym h))

fit_dead : (b : Bool) (x : ℕ) → cond b (not (eqb x 0)) (eqb x 0) ≡ true → b ≡ false → x ≡ 0
fit_dead true x e h = absurd (true≢false h)
fit_dead false x e h = eqb-true x 0 e

live_fit : (b : Bool) (x : ℕ) → (b ≡ true → 0 < x) → (b ≡ false → x ≡ 0) → cond b (not (eqb x 0)) (eqb x 0) ≡ true
live_fit true x h k = rw (ne_eqb x 0 (λ z. omega (arith, h refl)))
live_fit false x h k = eq-eqb x 0 (k refl)

-- count distinct live slots inside are all the live ones
all_live : (live : ℕ → Bool) (n : ℕ) (ks : List ℕ) → Unique ks → length ks ≡ length (filter live (range 0 n)) → ((t : ℕ) → elem t ks ≡ true → elem t (live_of live n) ≡ true)
    → (t : ℕ) → elem t ks ≡ elem t (live_of live n)
all_live live n ks u long h t =
    let g : length ks ≡ length (filter (λ t. elem t ks) (live_of live n)) =
    one_length ks (filter (λ t. elem t ks) (live_of live n)) u (unique_left (λ t. elem t ks) (live_of live n) (live_unique live n)) same in
    same_test (elem t ks) (elem t (live_of live n)) (h t) (all_elem (λ t. elem t ks ≡ true) t (live_of live n) (filter_full (λ t. elem t ks) (live_of live n) (omega arith)))
  where
    same : (t : ℕ) → elem t ks ≡ elem t (filter (λ t. elem t ks) (live_of live n))
    same t =
        same_test (elem t ks) (elem t (filter (λ t. elem t ks) (live_of live n))) (λ e. elem_filter (λ t. elem t ks) t e (live_of live n) ∙ h t e)
        (λ e. (elem_filter_in (λ t. elem t ks) t (live_of live n) e).0)

module _ (live : ℕ → Bool) (n count : ℕ) (numbers summary : List ℕ) (many : count ≡ length (filter live (range 0 n))) (long : length summary ≡ n) where
  front_long : length (take count summary) ≡ count
  front_long = length-take-le count summary (omega (arith, live_few live n))

  -- the test passes: the rules hold
  pub labelled_exact : labels_ok live n count numbers summary ≡ true → Labelled live n numbers summary
  unfolding labels_ok summary_of
  labelled_exact e = record {
    above = above;
    dead = dead;
    distinct = distinct;
    listed = sym (take-append-drop count summary) ∙ rw (← front) (ap (λ (l : List ℕ). take count summary ++ l) back);
  }
    where
      one : (numbers_fit live numbers (range 0 n) && rising n numbers 0 (take count summary) ≡ true) × (all_blank (drop count summary) ≡ true)
      one = and_parts (numbers_fit live numbers (range 0 n) && rising n numbers 0 (take count summary)) (all_blank (drop count summary)) e

      two : (numbers_fit live numbers (range 0 n) ≡ true) × (rising n numbers 0 (take count summary) ≡ true)
      two = and_parts (numbers_fit live numbers (range 0 n)) (rising n numbers 0 (take count summary)) one.0

      fit : (s : ℕ) → s < n → number_fits live numbers s ≡ true
      fit s h = all_elem (λ s. number_fits live numbers s ≡ true) s (range 0 n) (fits_all live numbers (range 0 n) two.0) (range_in s n h)

      above : (s : ℕ) → s < n → live s ≡ true → 0 < number_of numbers s
      above s h = fit_live (live s) (number_of numbers s) (fit s h)

      dead : (s : ℕ) → s < n → live s ≡ false → number_of numbers s ≡ 0
      dead s h = fit_dead (live s) (number_of numbers s) (fit s h)

      ks : List ℕ
      ks = take count summary

      rises : All (λ s. (s < n) × (0 < number_of numbers s)) (take count summary) × Rises numbers (take count summary)
      rises = rising_all n numbers 0 (take count summary) two.1

      named : (t : ℕ) → elem t (take count summary) ≡ true → elem t (live_of live n) ≡ true
      named t h = go (live t) refl
        where
          k : (t < n) × (0 < number_of numbers t)
          k = all_elem (λ s. (s < n) × (0 < number_of numbers s)) t (take count summary) rises.0 h

          go : (b : Bool) → live t ≡ b → elem t (live_of live n) ≡ true
          go true q = live_in live n t k.0 q
          go false q = absurd (omega (arith, dead t k.0 q, k.1))

      members : (t : ℕ) → elem t (take count summary) ≡ elem t (live_of live n)
      members = all_live live n (take count summary) (rises_unique numbers (take count summary) rises.1) (front_long ∙ many) named

      distinct : (s t : ℕ) → s < n → t < n → live s ≡ true → live t ≡ true → number_of numbers s ≡ number_of numbers t → s ≡ t
      distinct s t h k a b = rises_one numbers s t (take count summary) rises.1 (members s ∙ live_in live n s h a) (members t ∙ live_in live n t k b)

      front : take count summary ≡ by_number numbers (live_of live n)
      front = live_listed live n numbers (take count summary) distinct rises.1 members

      back : drop count summary ≡ replicate (n - length (live_of live n)) blank
      back =
          let g : length (drop count summary) ≡ n - length (live_of live n) = length-drop count summary ∙ rw (long, many) in
          blank_all (drop count summary) one.1 ∙ ap (λ k. replicate k blank) g

  -- the rules hold: the test passes
  pub exact_labelled : Labelled live n numbers summary → labels_ok live n count numbers summary ≡ true
  unfolding labels_ok summary_of
  exact_labelled l = rw (fits, rises, blanks)
    where
      size : length (by_number numbers (live_of live n)) ≡ count
      size = length_by numbers (live_of live n) ∙ sym many

      fits : numbers_fit live numbers (range 0 n) ≡ true
      fits = all_fits live numbers (range 0 n) (elem_all (λ s. number_fits live numbers s ≡ true) (range 0 n) (λ s e. let h = in_range s n e in live_fit (live s) (number_of numbers s) (l.above s h) (l.dead s h)))

      front : take count summary ≡ by_number numbers (live_of live n)
      front = rw l.listed (take_at (by_number numbers (live_of live n)) (replicate (n - length (live_of live n)) blank) count size)

      rises : rising n numbers 0 (take count summary) ≡ true
      rises =
          rw front (all_rising n numbers 0 (by_number numbers (live_of live n))
          (all_sort (λ s. (s < n) × (0 < number_of numbers s)) (lower numbers) (live_of live n)
          (all_map (λ s. (s < n) × (live s ≡ true)) (λ s. (s < n) × (0 < number_of numbers s)) (λ s h. (h.0, l.above s h.0 h.1)) (live_of live n) (live_all live n)))
          (live_rises live n numbers l.distinct))

      blanks : all_blank (drop count summary) ≡ true
      blanks =
          rw (l.listed, drop_at (by_number numbers (live_of live n)) (replicate (n - length (live_of live n)) blank) count size) (all_blanks (n - length (live_of live n)))
