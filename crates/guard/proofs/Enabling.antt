-- Row 13 of the table: with a live slot, the landmark pool that enabling chooses is empty exactly where one slot is live (docs/DECISIONS.md, D-23).
-- Assumes nothing.
use Prim.Native.Nat.{ℕ, zero, suc, ◌+◌, ◌/◌, ◌%◌, max, ◌≤◌, ◌<◌}
use mathlib.Core.Bool.{Bool, true, false, not, ◌&&◌, cond, and-true, or-false}
use mathlib.Core.Path.{◌≡◌, refl, ap, sym, ◌∙◌}
use mathlib.Core.List.{List, [], ◌∷◌, ◌++◌}
use mathlib.Core.Option.{some}
use native.Mathlib.Omega.{arith}
use borrow.Author.Tests.{ne_eqb, lt-ltb}
use lib.Dec.{eqb, ltb}
use lib.ListN.{length}
use Rattle.lists.specs.Lists.{All, filter, elem, range, least_of}
use Rattle.lists.proofs.All.{all_both, filter_test}
use Rattle.lists.proofs.Filtered.{count_cons, count_without}
use Rattle.lists.proofs.Firsts.{filter_same}
use Rattle.lists.proofs.Ranges.{filtered_below, times_once}
use Rattle.vectors.specs.Space.{slot_distance}
use Rattle.slots.specs.View.{View, live_slots}
use Rattle.guard.specs.Guard.{Config, greatest_from, normalized, stays, eligible, sample, farthest, select_landmarks, residual_entry, landmark_pool}

not_zero : (n : ℕ) → eqb (suc n) 0 ≡ false
not_zero n = ne_eqb (suc n) 0 (λ i. omega arith)

module _ (v : View) where
  abbrev slots : List ℕ
  slots = range 0 v.sizes.capacity

  -- ---- how many are sampled

  -- live, and no reference
  abbrev free : List ℕ → ℕ → Bool
  free rs s = stays v [] s && not (elem s rs)

  fewer : (p : ℕ → Bool) (rs xs : List ℕ) → length (filter (λ s. p s && stays v [] s && not (elem s rs)) xs) ≤ length (filter (free rs) xs)
  fewer p rs [] = omega arith
  fewer p rs (x ∷ xs) =
      omega (arith, count_cons (λ s. p s && stays v [] s && not (elem s rs)) x xs, count_cons (free rs) x xs, fewer p rs xs, step (p x) (stays v [] x) (not (elem x rs)))
    where
      step : (a b c : Bool) → cond (a && b && c) 1 0 ≤ cond (b && c) 1 0
      step true b c = omega arith
      step false b c = omega arith

  -- a sample is empty where nothing can be sampled
  none_sampled : (wanted sample_size : ℕ) (rs : List ℕ) → 0 < wanted → eqb (length (sample v [] wanted sample_size rs)) 0 ≡ eqb (length (filter (free rs) slots)) 0
  unfolding sample
  none_sampled wanted sample_size rs h =
      go (eligible v [] (λ s. eqb (s % max 1 (v.sizes.capacity / sample_size)) 0) rs) (fewer (λ s. eqb (s % max 1 (v.sizes.capacity / sample_size)) 0) rs slots)
    where
      go : (xs : List ℕ) → length xs ≤ length (filter (free rs) slots)
          → eqb (length (xs ++ cond (ltb (length xs) wanted) (eligible v [] (λ s. not (elem s xs)) rs) [])) 0 ≡ eqb (length (filter (free rs) slots)) 0
      go [] k = rw (lt-ltb 0 wanted h)
      go (x ∷ xs) k =
          let z : length (filter (free rs) slots) ≡ 0 → ⊥ = λ i. omega (arith, k) in
          not_zero (length (xs ++ cond (ltb (length (x ∷ xs)) wanted) (eligible v [] (λ s. not (elem s (x ∷ xs))) rs) [])) ∙ sym (ne_eqb (length (filter (free rs) slots)) 0 z)

  -- ---- how many are chosen

  far_none : (n : ℕ) (rs xs : List ℕ) → 0 < n → eqb (length (farthest v [] n rs xs)) 0 ≡ eqb (length xs) 0
  unfolding farthest
  far_none zero rs xs h = absurd (omega arith)
  far_none (suc n) rs [] h = refl
  far_none (suc n) rs (x ∷ xs) h =
      let next = greatest_from (λ s. least_of (slot_distance v.space s) rs) x xs in
      not_zero (length (farthest v [] n (rs ++ (next ∷ [])) (filter (λ y. not (eqb y next)) (x ∷ xs)))) ∙ sym (not_zero (length xs))

  -- live, and not the slot e
  left_of : (e : ℕ) → filter (free (e ∷ [])) slots ≡ filter (λ s. v.live s && not (eqb s e)) slots
  left_of e = filter_same (free (e ∷ [])) (λ s. v.live s && not (eqb s e)) (λ s. rw (and-true (v.live s), or-false (eqb s e))) slots

  module _ (e : ℕ) (live : v.live e ≡ true) (inside : e < v.sizes.capacity) where
    live_count : length (live_slots v) ≡ length (filter (free (e ∷ [])) slots) + 1
    live_count =
        rw (left_of e)
        (omega (arith, count_without v.live e live slots, times_once e 0 v.sizes.capacity (omega arith) (omega arith)))

    chosen_none : (wanted sample_size : ℕ) → 0 < wanted → eqb (length (select_landmarks v [] e wanted sample_size [])) 0 ≡ eqb (length (live_slots v)) 1
    unfolding select_landmarks
    chosen_none wanted sample_size h =
        far_none wanted (e ∷ []) (sample v [] wanted sample_size (e ∷ [])) h
        ∙ none_sampled wanted sample_size (e ∷ []) h
        ∙ rw live_count (one_more (length (filter (free (e ∷ [])) slots)))
      where
        one_more : (n : ℕ) → eqb n 0 ≡ eqb (n + 1) 1
        one_more zero = refl
        one_more (suc n) = not_zero n ∙ sym (ne_eqb (suc n + 1) 1 (λ i. omega arith))

    pub pool_empty : (c : Config) → eqb (length (landmark_pool v (normalized c) e)) 0 ≡ eqb (length (live_slots v)) 1
    unfolding landmark_pool normalized
    pool_empty c = chosen_none _ _ (omega arith)

  -- the residual entry when nothing is to be deleted: a live slot inside
  pub record Enters : Type 0 where
    pub slot : ℕ
    pub is : residual_entry v [] ≡ some slot
    pub live : v.live slot ≡ true
    pub inside : slot < v.sizes.capacity

  pub enters : v.entry < v.sizes.capacity → 0 < length (live_slots v) → Enters
  unfolding residual_entry
  enters h k = go (v.live v.entry) refl (filter (stays v []) slots) refl
    where
      all : filter (stays v []) slots ≡ live_slots v
      all = filter_same (stays v []) v.live (λ s. and-true (v.live s)) slots

      good : All (λ s. (v.live s ≡ true) × (s < v.sizes.capacity)) (live_slots v)
      good = all_both _ _ (live_slots v) (filter_test v.live slots) (filtered_below v.live v.sizes.capacity)

      go : (b : Bool) → v.live v.entry ≡ b → (l : List ℕ) → filter (stays v []) slots ≡ l → Enters
      go true e l g = record { slot = v.entry; is = rw e; live = e; inside = h }
      go false e [] g = absurd (omega (arith, k, ap length (sym all ∙ g)))
      go false e (s ∷ l) g =
          let a = rw (sym all ∙ g) at good in
          record { slot = s; is = rw (e, g); live = a.0.0; inside = a.0.1 }
