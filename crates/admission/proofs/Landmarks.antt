-- The landmarks that are selected by least distances that each sampled slot keeps are those of the definition. Assumes nothing.
use Prim.Native.Nat.{ℕ, zero, suc, ◌%◌, min}
use mathlib.Core.Bool.{Bool, true, false, not, ◌&&◌, ◌||◌, cond, and_assoc, or_comm}
use mathlib.Core.Path.{◌≡◌, refl, ap, sym, ◌∙◌}
use mathlib.Core.List.{List, [], ◌∷◌, ◌++◌}
use native.Mathlib.Omega.{arith}
use borrow.Author.Tests.{eqb-true, le-ltb}
use lib.Dec.{eqb, ltb}
use Rattle.lists.specs.Lists.{filter, elem, range, least_of}
use Rattle.lists.proofs.All.{all_map, all_of}
use Rattle.lists.proofs.Filtered.{filter_among, elem_filtered}
use Rattle.lists.proofs.Firsts.{filter_same}
use Rattle.lists.proofs.Least.{least_with, least_cons, least_snoc, least_again, least_behind}
use Rattle.lists.proofs.Ranges.{range_elem}
use Rattle.lists.proofs.Unique.{elem_snoc}
use Rattle.vectors.specs.Space.{slot_distance}
use Rattle.candidates.specs.Candidates.{Candidate, scored}
use Rattle.candidates.specs.Inner.Words.{pair}
use Rattle.slots.specs.View.{View}
use Rattle.landmarks.specs.Inner.Samples.{free, sampled, stride_of, sample_by}
use Rattle.landmarks.specs.Inner.Choices.{farthest_from, drawn, chosen, landmarks_by}
use Rattle.landmarks.specs.Inner.Choices as Choices
use Rattle.landmarks.proofs.Drawing.{drawn_scored, scored_among}
use Rattle.landmarks.proofs.Choosing.{step_farther}
use Rattle.guard.specs.Guard.{greatest_from, stays, eligible, sample, farthest, select_landmarks}

-- ---- the references
-- the entry, where it is not one of the others, stands behind them
abbrev references : ℕ → List ℕ → List ℕ
references entry existing = cond (elem entry existing) existing (existing ++ (entry ∷ []))

elem_references : (s entry : ℕ) (existing : List ℕ) → elem s (references entry existing) ≡ elem s (entry ∷ existing)
elem_references s entry existing = go (elem entry existing) refl
  where
    one : (b : Bool) → eqb s entry ≡ b → elem entry existing ≡ true → elem s existing ≡ (b || elem s existing)
    one true e h = rw (eqb-true s entry e) h
    one false e h = refl

    go : (b : Bool) → elem entry existing ≡ b → elem s (cond b existing (existing ++ (entry ∷ []))) ≡ (eqb s entry || elem s existing)
    go true h = one (eqb s entry) refl h
    go false h = elem_snoc s existing entry ∙ or_comm (elem s existing) (eqb s entry)

least_references : (m : ℕ → ℕ) (entry : ℕ) (existing : List ℕ) → least_of m (entry ∷ existing) ≡ least_of m (references entry existing)
least_references m entry [] = refl
least_references m entry (r ∷ rs) = least_cons m entry (r ∷ rs) ∙ sym (go (elem entry (r ∷ rs)) refl)
  where
    go : (b : Bool) → elem entry (r ∷ rs) ≡ b → least_of m (cond b (r ∷ rs) (r ∷ (rs ++ (entry ∷ [])))) ≡ least_with m (min (m entry) (m r)) rs
    go true h = least_cons m r rs ∙ least_again m r rs entry h
    go false h = least_cons m r (rs ++ (entry ∷ [])) ∙ least_behind m r rs entry

-- there is one at least
record Some (l : List ℕ) : Type 0 where
  head : ℕ
  tail : List ℕ
  is : l ≡ head ∷ tail

some_references : (entry : ℕ) (existing : List ℕ) → Some (references entry existing)
some_references entry [] = record { head = entry; tail = []; is = refl }
some_references entry (r ∷ rs) = go (elem entry (r ∷ rs))
  where
    go : (b : Bool) → Some (cond b (r ∷ rs) (r ∷ (rs ++ (entry ∷ []))))
    go true = record { head = r; tail = rs; is = refl }
    go false = record { head = r; tail = rs ++ (entry ∷ []); is = refl }

-- ---- the choice
far_from : (near : ℕ → ℕ) (x : ℕ) (xs : List ℕ) → farthest_from (pair (near x) x) (scored near xs) ≡ pair (near (greatest_from near x xs)) (greatest_from near x xs)
far_from near x [] = refl
far_from near x (z ∷ xs) = go (ltb (near z) (near x)) (far_from near x xs) (far_from near z xs)
  where
    go : (b : Bool) → farthest_from (pair (near x) x) (scored near xs) ≡ pair (near (greatest_from near x xs)) (greatest_from near x xs)
        → farthest_from (pair (near z) z) (scored near xs) ≡ pair (near (greatest_from near z xs)) (greatest_from near z xs)
        → farthest_from (cond b (pair (near x) x) (pair (near z) z)) (scored near xs) ≡ pair (near (greatest_from near (cond b x z) xs)) (greatest_from near (cond b x z) xs)
    go true f g = f
    go false f g = g

far_scored : (near : ℕ → ℕ) (x : ℕ) (xs : List ℕ) → Choices.farthest (scored near (x ∷ xs)) ≡ greatest_from near x xs
far_scored near x xs =
    ap (λ (c : Candidate). c.id) (step_farther (pair 0 0) (pair (near x) x) (scored near xs) (le-ltb (near x) 0 (omega arith)) ∙ far_from near x xs)

module _ (v : View) (deleted : List ℕ) where
  abbrev d : ℕ → ℕ → ℕ
  d = slot_distance v.space

  abbrev near : List ℕ → ℕ → ℕ
  near references s = least_of (d s) references

  chosen_farthest : (n r : ℕ) (rs xs : List ℕ) → chosen d n (scored (near (r ∷ rs)) xs) ≡ farthest v deleted n (r ∷ rs) xs
  unfolding chosen farthest
  chosen_farthest zero r rs xs = refl
  chosen_farthest (suc n) r rs [] = refl
  chosen_farthest (suc n) r rs (x ∷ xs) =
      let next = greatest_from (near (r ∷ rs)) x xs in
      let left = filter (λ y. not (eqb y next)) (x ∷ xs) in
      let later : (s : ℕ) → min (near (r ∷ rs) s) (d s next) ≡ near (r ∷ (rs ++ (next ∷ []))) s = λ s.
      ap (λ (k : ℕ). min k (d s next)) (least_cons (d s) r rs) ∙ sym (least_snoc (d s) (d s r) rs next) ∙ sym (least_cons (d s) r (rs ++ (next ∷ []))) in
      ap (λ (y : ℕ). y ∷ chosen d n (drawn d y (scored (near (r ∷ rs)) (x ∷ xs)))) (far_scored (near (r ∷ rs)) x xs)
      ∙ ap (λ (cs : List Candidate). next ∷ chosen d n cs) (drawn_scored d (near (r ∷ rs)) next (x ∷ xs) ∙ scored_among _ _ left (all_of _ later left))
      ∙ ap (λ (l : List ℕ). next ∷ l) (chosen_farthest n r (rs ++ (next ∷ [])) left)

  chosen_from : (n : ℕ) (l xs : List ℕ) → Some l → chosen d n (scored (near l) xs) ≡ farthest v deleted n l xs
  chosen_from n l xs f = rw f.is (chosen_farthest n f.head f.tail xs)

-- ---- the sample
-- what is not in the strided part, and stays, is off the stride
off_stride : (a b c : Bool) → ((not (a && (b && c)) && b) && c) ≡ (not a && (b && c))
off_stride true true true = refl
off_stride true true false = refl
off_stride true false c = refl
off_stride false true true = refl
off_stride false true false = refl
off_stride false false c = refl

module _ (v : View) (deleted : List ℕ) (entry : ℕ) (existing : List ℕ) where
  abbrev slots : List ℕ
  slots = range 0 v.sizes.capacity

  abbrev chooses : ℕ → Bool
  chooses = free (stays v deleted) (entry ∷ existing)

  strided : (k : ℕ) → eligible v deleted (λ s. eqb (s % k) 0) (references entry existing) ≡ filter (sampled k false chooses) slots
  strided k =
      filter_same (λ s. eqb (s % k) 0 && stays v deleted s && not (elem s (references entry existing))) (sampled k false chooses)
      (λ s. ap (λ (b : Bool). eqb (s % k) 0 && stays v deleted s && not b) (elem_references s entry existing) ∙ and_assoc (eqb (s % k) 0) (stays v deleted s) (not (elem s (entry ∷ existing))))
      slots

  between : (k : ℕ) → eligible v deleted (λ s. not (elem s (filter (sampled k false chooses) slots))) (references entry existing) ≡ filter (sampled k true chooses) slots
  between k =
      filter_among (λ s. not (elem s (filter (sampled k false chooses) slots)) && stays v deleted s && not (elem s (references entry existing))) (sampled k true chooses)
      slots (all_map _ _ each slots (range_elem 0 v.sizes.capacity))
    where
      each : (s : ℕ) → elem s slots ≡ true
          → (not (elem s (filter (sampled k false chooses) slots)) && stays v deleted s && not (elem s (references entry existing))) ≡ sampled k true chooses s
      each s h =
          ap (λ (b : Bool). not (elem s (filter (sampled k false chooses) slots)) && stays v deleted s && not b) (elem_references s entry existing)
          ∙ ap (λ (b : Bool). not b && stays v deleted s && not (elem s (entry ∷ existing))) (elem_filtered (sampled k false chooses) s slots h)
          ∙ off_stride (eqb (s % k) 0) (stays v deleted s) (not (elem s (entry ∷ existing)))

  module _ (wanted sample_size : ℕ) where
    pub sample_view : sample_by chooses v.sizes.capacity (stride_of v.sizes.capacity sample_size) wanted ≡ sample v deleted wanted sample_size (references entry existing)
    unfolding sample_by sample
    sample_view = let k = stride_of v.sizes.capacity sample_size in sym (rw (strided k, between k))

    -- `landmarks_by` is `select_landmarks`
    pub landmarks_view : landmarks_by (slot_distance v.space) (stays v deleted) v.sizes.capacity entry wanted sample_size existing
        ≡ select_landmarks v deleted entry wanted sample_size existing
    unfolding landmarks_by select_landmarks
    landmarks_view =
        let taken = sample v deleted wanted sample_size (references entry existing) in
        rw sample_view
        (ap (chosen (slot_distance v.space) wanted) (scored_among _ _ taken (all_of _ (λ s. least_references (slot_distance v.space s) entry existing) taken))
        ∙ chosen_from v deleted wanted (references entry existing) taken (some_references entry existing))
