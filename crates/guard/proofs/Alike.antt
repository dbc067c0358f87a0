-- The guard's pool and its report are the same of two views that differ only in the vectors of dead slots: the slots that are sampled, chosen and looked at are
-- live, and so is the residual entry. So a pool chosen from it is the same too (`residual_alike`, `landmark_pool_alike`). Assumes nothing.
use Prim.Native.Nat.{ℕ, zero, suc, ◌-◌, ◌*◌, ◌/◌, ◌%◌, max}
use mathlib.Core.Bool.{Bool, true, false, not, ◌&&◌, cond, true≢false}
use mathlib.Core.Path.{◌≡◌, refl, sym, ap, ap₂, ◌∙◌}
use mathlib.Core.List.{List, [], ◌∷◌, ◌++◌}
use mathlib.Core.Option.{Option, none, some, some-injective, some-ne-none}
use lib.Dec.{eqb, ltb}
use lib.ListN.{length, take}
use Rattle.std.proofs.lemmas.Bool.{and_parts}
use Rattle.lists.specs.Lists.{All, filter, elem, range, least_of}
use Rattle.lists.proofs.All.{by_cases, all_map, all_append, all_take, all_filter, filter_test}
use Rattle.lists.proofs.Equal.{filter_equal, least_of_equal}
use Rattle.candidates.specs.Candidates.{Candidate, ids}
use Rattle.vectors.specs.Space.{slot_distance, query_distance}
use Rattle.slots.specs.View.{View, live_neighbors, with_vectors, emptied, Alike}
use Rattle.slots.proofs.Alike.{by_alike, same_distance, same_query}
use Rattle.walk.specs.Walk.{graph_search}
use Rattle.walk.proofs.Alike.{graph_search_equal}
use Rattle.guard.specs.Guard.{
  Config,
  Report,
  greatest_from,
  first,
  stays,
  residual_entry,
  eligible,
  sample,
  farthest,
  select_landmarks,
  virtual_search_pool,
  reaches,
  landmark_pool,
  probe,
  assess_slots,
  assess_delete_admission,
}

-- ---- the greatest measure, by two that are equal on the slots with P

module _ (P : ℕ → Type 0) where
  chosen_holds : (x a : ℕ) → P a → P x → (b : Bool) → P (cond b a x)
  chosen_holds x a h k b = by_cases P b (λ e. h) (λ e. k)

  greatest_holds : (m : ℕ → ℕ) (a : ℕ) → P a → (xs : List ℕ) → All P xs → P (greatest_from m a xs)
  greatest_holds m a k [] h = k
  greatest_holds m a k (x ∷ xs) h = greatest_holds m (cond (ltb (m x) (m a)) a x) (chosen_holds x a k h.0 (ltb (m x) (m a))) xs h.1

  greatest_equal : (f g : ℕ → ℕ) → ((s : ℕ) → P s → f s ≡ g s) → (a : ℕ) → P a → (xs : List ℕ) → All P xs → greatest_from f a xs ≡ greatest_from g a xs
  greatest_equal f g e a k [] h = refl
  greatest_equal f g e a k (x ∷ xs) h =
      ap (λ (y : ℕ). greatest_from f y xs) (ap₂ (λ (m n : ℕ). cond (ltb m n) a x) (e x h.0) (e a k))
      ∙ greatest_equal f g e (cond (ltb (g x) (g a)) a x) (chosen_holds x a k h.0 (ltb (g x) (g a))) xs h.1

-- ---- what is live

module _ (v : View) where
  abbrev Live : ℕ → Type 0
  Live s = v.live s ≡ true

module _ (v : View) (deleted : List ℕ) where
  stays_live : (s : ℕ) → stays v deleted s ≡ true → Live v s
  stays_live s h = (and_parts (v.live s) (not (elem s deleted)) h).0

  first_stays : (l : List ℕ) → All (λ s. stays v deleted s ≡ true) l → (e : ℕ) → first l ≡ some e → stays v deleted e ≡ true
  first_stays [] h e i = absurd (some-ne-none e (sym i))
  first_stays (s ∷ l) h e i = rw (← some-injective s e i) h.0

  -- the residual entry stays
  residual_stays : (e : ℕ) → residual_entry v deleted ≡ some e → stays v deleted e ≡ true
  unfolding residual_entry
  residual_stays e = go (stays v deleted v.entry) refl
    where
      all : List ℕ
      all = filter (stays v deleted) (range 0 v.sizes.capacity)

      go : (b : Bool) → stays v deleted v.entry ≡ b → cond b (some v.entry) (first all) ≡ some e → stays v deleted e ≡ true
      go true g i = rw (← some-injective v.entry e i) g
      go false g i = first_stays all (filter_test (stays v deleted) (range 0 v.sizes.capacity)) e i

  eligible_live : (p : ℕ → Bool) (rs : List ℕ) → All (Live v) (eligible v deleted p rs)
  eligible_live p rs =
      all_map _ (Live v) (λ s h. stays_live s (and_parts (p s) (stays v deleted s) (and_parts (p s && stays v deleted s) (not (elem s rs)) h).0).1)
      (eligible v deleted p rs) (filter_test (λ s. p s && stays v deleted s && not (elem s rs)) (range 0 v.sizes.capacity))

  sample_live : (wanted sample_size : ℕ) (rs : List ℕ) → All (Live v) (sample v deleted wanted sample_size rs)
  unfolding sample
  sample_live wanted sample_size rs =
      let strided = eligible v deleted (λ s. eqb (s % max 1 (v.sizes.capacity / sample_size)) 0) rs in
      all_append (Live v) strided _ (eligible_live _ rs)
      (by_cases (All (Live v)) (ltb (length strided) wanted) (λ e. eligible_live (λ s. not (elem s strided)) rs) (λ e. tt))

  farthest_live : (n : ℕ) (rs xs : List ℕ) → All (Live v) xs → All (Live v) (farthest v deleted n rs xs)
  unfolding farthest
  farthest_live zero rs xs h = tt
  farthest_live (suc n) rs [] h = tt
  farthest_live (suc n) rs (x ∷ xs) h =
      let next = greatest_from (λ s. least_of (slot_distance v.space s) rs) x xs in
      (greatest_holds (Live v) _ x h.0 xs h.1, farthest_live n (rs ++ (next ∷ [])) _ (all_filter (Live v) (λ y. not (eqb y next)) (x ∷ xs) h))

  landmarks_live : (entry wanted sample_size : ℕ) (existing : List ℕ) → All (Live v) (select_landmarks v deleted entry wanted sample_size existing)
  unfolding select_landmarks
  landmarks_live entry wanted sample_size existing =
      let rs = cond (elem entry existing) existing (existing ++ (entry ∷ [])) in
      farthest_live wanted rs _ (sample_live wanted sample_size rs)

-- ---- what a report says of the slots looked at

module _ (requested e : ℕ) (kept extra : List ℕ) where
  abbrev checked : List ℕ
  checked = kept ++ extra

  abbrev said : List ℕ → List ℕ → List ℕ → Report
  said baseline lost reached =
      record {
        admitted = ltb 0 (length baseline) && eqb (length lost) 0;
        requested = requested;
        entry = some e;
        checked = checked;
        baseline = length baseline;
        residual = length reached;
        lost = lost;
        supplemental = length extra;
      }

  -- by what reaches them before the delete and after it
  abbrev report : (ℕ → Bool) → (ℕ → Bool) → Report
  report before after = said (filter before checked) (filter (λ l. not (after l)) (filter before checked)) (filter after checked)

  report_equal : (P : ℕ → Type 0) (before before' after after' : ℕ → Bool) → ((s : ℕ) → P s → before s ≡ before' s) → ((s : ℕ) → P s → after s ≡ after' s)
      → All P checked → report before after ≡ report before' after'
  report_equal P before before' after after' p q h =
      let baseline = filter before checked in
      let missed = filter_equal P (λ l. not (after l)) (λ l. not (after' l)) (λ s i. ap not (q s i)) baseline (all_filter P before checked h) in
      ap₂ (said baseline) missed (filter_equal P after after' q checked h)
      ∙ ap (λ (l : List ℕ). said l (filter (λ s. not (after' s)) l) (filter after' checked)) (filter_equal P before before' p checked h)

-- ---- two views

module _ (v : View) (vector : ℕ → List ℕ) (entry : ℕ) (same : (s : ℕ) → v.live s ≡ true → vector s ≡ v.space.vector s)
    (one : (s : ℕ) → v.live s ≡ true → entry ≡ v.entry) where
  abbrev other : View
  other = with_vectors v vector entry

  residual_equal : (deleted : List ℕ) → residual_entry v deleted ≡ residual_entry other deleted
  unfolding residual_entry
  residual_equal deleted = go (stays v deleted v.entry) (stays v deleted entry) refl refl
    where
      next : Option ℕ
      next = first (filter (stays v deleted) (range 0 v.sizes.capacity))

      go : (b b' : Bool) → stays v deleted v.entry ≡ b → stays v deleted entry ≡ b' → cond b (some v.entry) next ≡ cond b' (some entry) next
      go true true e e' = ap some (sym (one v.entry (stays_live v deleted v.entry e)))
      go true false e e' = absurd (true≢false (sym e ∙ sym (ap (stays v deleted) (one v.entry (stays_live v deleted v.entry e))) ∙ e'))
      go false true e e' = absurd (true≢false (sym e' ∙ ap (stays v deleted) (one entry (stays_live v deleted entry e')) ∙ e))
      go false false e e' = refl

  module _ (deleted : List ℕ) where
    -- where nothing is live, nothing is chosen, whatever the references
    farthest_equal : (n : ℕ) (rs xs : List ℕ) → ((s : ℕ) → v.live s ≡ true → All (Live v) rs) → All (Live v) xs
        → farthest v deleted n rs xs ≡ farthest other deleted n rs xs
    unfolding farthest
    farthest_equal zero rs xs h k = refl
    farthest_equal (suc n) rs [] h k = refl
    farthest_equal (suc n) rs (x ∷ xs) h k =
        let near : View → ℕ → ℕ = λ u s. least_of (slot_distance u.space s) rs in
        let next = greatest_from (near v) x xs in
        let step : ℕ → List ℕ = λ y. y ∷ farthest other deleted n (rs ++ (y ∷ [])) (filter (λ z. not (eqb z y)) (x ∷ xs)) in
        let live : v.live next ≡ true = greatest_holds (Live v) (near v) x k.0 xs k.1 in
        ap (λ (l : List ℕ). next ∷ l)
        (farthest_equal n (rs ++ (next ∷ [])) (filter (λ z. not (eqb z next)) (x ∷ xs)) (λ s i. all_append (Live v) rs (next ∷ []) (h s i) (live, tt))
        (all_filter (Live v) (λ z. not (eqb z next)) (x ∷ xs) k))
        ∙ ap step
        (greatest_equal (Live v) (near v) (near other)
        (λ s i. least_of_equal (Live v) _ _ (λ t j. same_distance v vector entry same s t i j) rs (h x k.0)) x k.0 xs k.1)

    select_equal : (e wanted sample_size : ℕ) (existing : List ℕ) → ((s : ℕ) → v.live s ≡ true → v.live e ≡ true) → All (Live v) existing
        → select_landmarks v deleted e wanted sample_size existing ≡ select_landmarks other deleted e wanted sample_size existing
    unfolding select_landmarks sample
    select_equal e wanted sample_size existing h k =
        let rs = cond (elem e existing) existing (existing ++ (e ∷ [])) in
        farthest_equal wanted rs (sample v deleted wanted sample_size rs)
        (λ s i. by_cases (All (Live v)) (elem e existing) (λ _. k) (λ _. all_append (Live v) existing (e ∷ []) k (h s i, tt)))
        (sample_live v deleted wanted sample_size rs)

    -- a trial walk for a live slot
    reaches_equal : (beam e landmark : ℕ) → v.live landmark ≡ true → reaches v deleted beam e landmark ≡ reaches other deleted beam e landmark
    unfolding reaches virtual_search_pool
    reaches_equal beam e landmark h = ap (λ (l : List Candidate). elem landmark (ids l)) (go (stays v deleted e) refl)
      where
        near : ℕ → List ℕ
        near s = filter (λ t. not (elem t deleted)) (live_neighbors v s)

        walk : View → List ℕ → List Candidate
        walk u query = graph_search v.sizes.capacity e beam (query_distance u.space query) near

        go : (b : Bool) → stays v deleted e ≡ b → cond b (walk v (v.space.vector landmark)) [] ≡ cond b (walk other (vector landmark)) []
        go false i = refl
        go true i =
            graph_search_equal (Live v) _ _ (same_query v vector entry same (v.space.vector landmark)) near
            (λ s. all_filter (Live v) _ (live_neighbors v s) (filter_test v.live (v.refs s))) v.sizes.capacity e beam (stays_live v deleted e i)
            ∙ ap (walk other) (sym (same landmark h))

  pool_equal : (c : Config) (e : ℕ) → ((s : ℕ) → v.live s ≡ true → v.live e ≡ true) → landmark_pool v c e ≡ landmark_pool other c e
  unfolding landmark_pool
  pool_equal c e h = select_equal [] e (max c.landmark_count (c.landmark_count * c.multiplier)) c.sample_size [] h tt

  probe_equal : (c : Config) (pool deleted : List ℕ) (e : Option ℕ) → residual_entry v deleted ≡ e → probe v c pool deleted e ≡ probe other c pool deleted e
  unfolding probe
  probe_equal c pool deleted none i = refl
  probe_equal c pool deleted (some e) i =
      let kept = take c.landmark_count (filter (stays v deleted) pool) in
      let wanted = c.landmark_count - length kept in
      let extra = select_landmarks v deleted e wanted c.sample_size kept in
      let live : v.live e ≡ true = stays_live v deleted e (residual_stays v deleted e i) in
      let kept_live : All (Live v) kept =
      all_take (Live v) c.landmark_count _ (all_map _ (Live v) (stays_live v deleted) (filter (stays v deleted) pool) (filter_test (stays v deleted) pool)) in
      report_equal (length deleted) e kept extra (Live v) (reaches v [] c.beam e) (reaches other [] c.beam e) (reaches v deleted c.beam e)
      (reaches other deleted c.beam e) (reaches_equal [] c.beam e) (reaches_equal deleted c.beam e)
      (all_append (Live v) kept extra kept_live (landmarks_live v deleted e wanted c.sample_size kept))
      ∙ ap (λ (l : List ℕ). report (length deleted) e kept l (reaches other [] c.beam e) (reaches other deleted c.beam e))
      (select_equal deleted e wanted c.sample_size kept (λ _ _. live) kept_live)

  assess_equal : (c : Config) (pool ids : List ℕ) → assess_delete_admission v c pool ids ≡ assess_delete_admission other c pool ids
  unfolding assess_delete_admission emptied assess_slots
  assess_equal c pool ids = go (emptied v ids)
    where
      go : (l : List ℕ) → assess_slots v c pool l ≡ assess_slots other c pool l
      go [] = refl
      go (s ∷ ss) = probe_equal c pool (s ∷ ss) (residual_entry v (s ∷ ss)) refl ∙ ap (probe other c pool (s ∷ ss)) (residual_equal (s ∷ ss))

pub residual_alike : (v v' : View) → Alike v v' → (deleted : List ℕ) → residual_entry v deleted ≡ residual_entry v' deleted
residual_alike v v' a deleted =
    by_alike v v' a (λ u. residual_entry v deleted ≡ residual_entry u deleted) (λ vector entry same one. residual_equal v vector entry same one deleted)

pub landmark_pool_alike : (v v' : View) → Alike v v' → (c : Config) (entry : ℕ) → ((s : ℕ) → v.live s ≡ true → v.live entry ≡ true)
    → landmark_pool v c entry ≡ landmark_pool v' c entry
landmark_pool_alike v v' a c e h =
    by_alike v v' a (λ u. landmark_pool v c e ≡ landmark_pool u c e) (λ vector entry same one. pool_equal v vector entry same one c e h)

pub assess_alike : (v v' : View) → Alike v v' → (c : Config) (pool ids : List ℕ) → assess_delete_admission v c pool ids ≡ assess_delete_admission v' c pool ids
assess_alike v v' a c pool ids =
    by_alike v v' a (λ u. assess_delete_admission v c pool ids ≡ assess_delete_admission u c pool ids)
    (λ vector entry same one. assess_equal v vector entry same one c pool ids)
