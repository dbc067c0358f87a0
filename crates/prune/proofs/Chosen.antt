-- What is selected: whatever holds of every candidate given holds of every one selected, so each stands in the list given, slot and distance; each is
-- live and not the source, they are at most as many as the degree, and no slot is selected twice. Assumes nothing.
use Prim.Native.Nat.{ℕ, ◌≤◌}
use mathlib.Core.Path.{◌≡◌, refl, sym, ◌∙◌}
use mathlib.Core.Bool.{Bool, true, false, not, ◌&&◌, ◌||◌, true≢false}
use mathlib.Core.List.{List, [], ◌∷◌, ◌++◌}
use native.Mathlib.Omega.{arith}
use borrow.Author.Tests.{leb-false, not-true}
use lib.ListN.{length, length-append, length-take}
use lib.Seq.{take_all}
use lib.Dec.{eqb, leb}
use lib.Ieee.{Float, lt}
use Rattle.std.proofs.lemmas.Bool.{and_parts}
use Rattle.lists.specs.Lists.{All, In, filter, elem, foldl, sort_by, distinct_by}
use Rattle.lists.proofs.All.{by_cases, all_map, each_in, all_append, all_take, all_filter, all_sort, filter_test}
use Rattle.lists.proofs.Unique.{Unique, all_distinct, unique_snoc, unique_distinct, unique_take, keys_snoc, or_false_l, or_false_r, eqb_flip}
use Rattle.candidates.specs.Candidates.{Candidate, ids, nearer}
use Rattle.candidates.specs.Quotient.{largest}
use Rattle.vectors.specs.Space.{slot_distance}
use Rattle.slots.specs.View.{View}
use Rattle.prune.specs.Prune.{Selection, passes, considered, prune_scored, prune, thresholds}
use Rattle.prune.proofs.Passes.{raised_to, raised, scan, scan_again, scan_frame, start, passes_scan, elem_other}
use Rattle.prune.proofs.Thresholds.{Accepted, Threshold, all_thresholds, threshold_largest, below_largest}

-- ---- what is selected from
-- at most 750 candidates, and all where there are no more
pub considered_most : (live : ℕ → Bool) (source : ℕ) (cs : List Candidate) → length (considered live source cs) ≤ 750
unfolding considered
considered_most live source cs = rw length-take (omega arith)

pub considered_all : (live : ℕ → Bool) (source : ℕ) (cs all : List Candidate) → all ≡ distinct_by (λ c. c.id) (sort_by nearer (filter (λ c. not (eqb c.id source) && live c.id) cs))
    → length all ≤ 750 → considered live source cs ≡ all
unfolding considered
considered_all live source cs all e h = rw (← e) (take_all 750 all h)

module _ (P : Candidate → Type 0) (live : ℕ → Bool) (source : ℕ) (cs : List Candidate) where
  all_considered : All P (filter (λ c. not (eqb c.id source) && live c.id) cs) → All P (considered live source cs)
  unfolding considered
  all_considered a =
      let l = filter (λ c. not (eqb c.id source) && live c.id) cs in
      all_take P 750 (distinct_by (λ c. c.id) (sort_by nearer l)) (all_distinct (λ c. c.id) P (sort_by nearer l) (all_sort P nearer l a))

  pub all_of_given : All P cs → All P (considered live source cs)
  all_of_given a = all_considered (all_filter P (λ c. not (eqb c.id source) && live c.id) cs a)

-- each is live and not the source
pub considered_kept : (live : ℕ → Bool) (source : ℕ) (cs : List Candidate) → All (λ c. not (eqb c.id source) && live c.id ≡ true) (considered live source cs)
considered_kept live source cs =
    all_considered (λ c. not (eqb c.id source) && live c.id ≡ true) live source cs (filter_test (λ c. not (eqb c.id source) && live c.id) cs)

pub considered_live : (live : ℕ → Bool) (source : ℕ) (cs : List Candidate) → All (λ c. live c.id ≡ true) (considered live source cs)
considered_live live source cs = all_map _ _ (λ c e. (and_parts (not (eqb c.id source)) (live c.id) e).1) (considered live source cs) (considered_kept live source cs)

pub considered_unique : (live : ℕ → Bool) (source : ℕ) (cs : List Candidate) → Unique (ids (considered live source cs))
unfolding considered
considered_unique live source cs =
    let l = sort_by nearer (filter (λ c. not (eqb c.id source) && live c.id) cs) in
    unique_take (λ c. c.id) 750 (distinct_by (λ c. c.id) l) (unique_distinct (λ c. c.id) l)

-- ---- the factor of one selected is the largest, above every threshold
Marked : List Candidate → List Candidate → List Float → Type 0
Marked S [] fs = Unit {0}
Marked S (x ∷ xs) [] = Unit {0}
Marked S (x ∷ xs) (f ∷ fs) = (elem x.id (ids S) ≡ true → f ≡ largest) × Marked S xs fs

marked_none : (xs : List Candidate) (fs : List Float) → Marked [] xs fs
unfolding Marked
marked_none [] fs = tt
marked_none (x ∷ xs) [] = tt
marked_none (x ∷ xs) (f ∷ fs) = (λ e. absurd (true≢false (sym e)), marked_none xs fs)

module _ (degree : ℕ) (alpha : Float) (d : ℕ → ℕ → ℕ) where
  module _ (P : Candidate → Type 0) where
    all_scan : (t : Float) (c : List Candidate) (fs : List Float) (S : List Candidate) → All P c → All P S → All P (scan degree alpha d t c fs S).selected
    all_scan t [] fs S a b = b
    all_scan t (x ∷ c) [] S a b = b
    all_scan t (x ∷ c) (f ∷ fs) S a b =
        by_cases (λ (h : Selection). All P h.selected) (leb degree (length S) || lt t f)
        (λ e. all_scan t c fs S a.1 b)
        (λ e. all_scan t c (raised alpha d x c fs) (S ++ (x ∷ [])) a.1 (all_append P S (x ∷ []) b (a.0, tt)))

    all_scans : (c : List Candidate) → All P c → (ts : List Float) (h : Selection) → All P h.selected → All P (foldl (scan_again degree alpha d c) h ts).selected
    all_scans c a [] h b = b
    all_scans c a (t ∷ ts) h b = all_scans c a ts (scan_again degree alpha d c h t) (all_scan t c h.factors h.selected a b)

    all_passes : (c : List Candidate) → All P c → All P (passes degree alpha d c)
    all_passes c a = rw (passes_scan degree alpha d c) (all_scans c a (thresholds alpha) (start c) tt)

  few_scan : (t : Float) (c : List Candidate) (fs : List Float) (S : List Candidate) → length S ≤ degree → length (scan degree alpha d t c fs S).selected ≤ degree
  few_scan t [] fs S h = h
  few_scan t (x ∷ c) [] S h = h
  few_scan t (x ∷ c) (f ∷ fs) S h =
      by_cases (λ (s : Selection). length s.selected ≤ degree) (leb degree (length S) || lt t f)
      (λ e. few_scan t c fs S h)
      (λ e. few_scan t c (raised alpha d x c fs) (S ++ (x ∷ []))
      (rw (length-append S (x ∷ [])) (omega (arith, leb-false degree (length S) (or_false_l (leb degree (length S)) (lt t f) e)))))

  few_scans : (c : List Candidate) (ts : List Float) (h : Selection) → length h.selected ≤ degree → length (foldl (scan_again degree alpha d c) h ts).selected ≤ degree
  few_scans c [] h b = b
  few_scans c (t ∷ ts) h b = few_scans c ts (scan_again degree alpha d c h t) (few_scan t c h.factors h.selected b)

  module _ (top : lt alpha largest ≡ true) where
    raised_marked : (s : Candidate) (S xs : List Candidate) (fs : List Float) → elem s.id (ids xs) ≡ false → Marked S xs fs → Marked (S ++ (s ∷ [])) xs (raised alpha d s xs fs)
    unfolding Marked
    raised_marked s S [] fs e m = tt
    raised_marked s S (x ∷ xs) [] e m = tt
    raised_marked s S (x ∷ xs) (f ∷ fs) e m = (head, raised_marked s S xs fs (or_false_r (eqb s.id x.id) (elem s.id (ids xs)) e) m.1)
      where
        head : elem x.id (ids (S ++ (s ∷ []))) ≡ true → raised_to alpha d s x f ≡ largest
        head g =
            rw (m.0 (sym (elem_other x.id S s (eqb_flip s.id x.id (or_false_l (eqb s.id x.id) (elem s.id (ids xs)) e))) ∙ g), top)

    record Once (S xs : List Candidate) (fs : List Float) : Type 0 where
      unique : Unique (ids S)
      marked : Marked S xs fs

    once_scan : (t : Float) → lt t largest ≡ true → (xs : List Candidate) (fs : List Float) (S : List Candidate) → Unique (ids xs) → Once S xs fs
        → Once (scan degree alpha d t xs fs S).selected xs (scan degree alpha d t xs fs S).factors
    unfolding Marked
    once_scan t l [] fs S u o = o
    once_scan t l (x ∷ xs) [] S u o = o
    once_scan t l (x ∷ xs) (f ∷ fs) S u o =
        by_cases (λ (h : Selection). Once h.selected (x ∷ xs) h.factors) (leb degree (length S) || lt t f)
        (λ e. let r = once_scan t l xs fs S u.1 (record { unique = o.unique; marked = o.marked.1 }) in
        record { unique = r.unique; marked = (λ g. o.marked.0 (sym (scan_frame degree alpha d x.id t xs fs S u.0) ∙ g), r.marked) })
        (λ e. let n = new (elem x.id (ids S)) refl (or_false_r (leb degree (length S)) (lt t f) e) in
        let first : Once (S ++ (x ∷ [])) xs (raised alpha d x xs fs) = record { unique = rw (keys_snoc (λ c. c.id) S x) (unique_snoc (ids S) x.id o.unique n); marked = raised_marked x S xs fs u.0 o.marked.1 } in
        let r = once_scan t l xs (raised alpha d x xs fs) (S ++ (x ∷ [])) u.1 first in
        record { unique = r.unique; marked = (λ g. refl, r.marked) })
      where
        new : (b : Bool) → elem x.id (ids S) ≡ b → lt t f ≡ false → elem x.id (ids S) ≡ false
        new true e g = absurd (true≢false (sym l ∙ (rw (o.marked.0 e) at g)))
        new false e g = e

    once_scans : (c : List Candidate) → Unique (ids c) → (ts : List Float) (h : Selection) → All (λ t. lt t largest ≡ true) ts → Once h.selected c h.factors
        → Unique (ids (foldl (scan_again degree alpha d c) h ts).selected)
    once_scans c u [] h a o = o.unique
    once_scans c u (t ∷ ts) h a o = once_scans c u ts (scan_again degree alpha d c h t) a.1 (once_scan t a.0 c h.factors h.selected u o)

module _ (degree : ℕ) (alpha : Float) (live : ℕ → Bool) (d : ℕ → ℕ → ℕ) (source : ℕ) (cs : List Candidate) where
  -- what holds of every candidate given holds of every one selected
  pub chosen : (P : Candidate → Type 0) → All P cs → All P (prune_scored degree alpha live d source cs)
  unfolding prune_scored
  chosen P a = all_passes degree alpha d P (considered live source cs) (all_of_given P live source cs a)

  -- each one selected stands in the list given, slot and distance
  pub chosen_given : All (λ c. In c cs) (prune_scored degree alpha live d source cs)
  chosen_given = chosen (λ c. In c cs) (each_in cs)

  kept : All (λ c. not (eqb c.id source) && live c.id ≡ true) (prune_scored degree alpha live d source cs)
  unfolding prune_scored
  kept = all_passes degree alpha d (λ c. not (eqb c.id source) && live c.id ≡ true) (considered live source cs) (considered_kept live source cs)

  pub chosen_live : All (λ c. live c.id ≡ true) (prune_scored degree alpha live d source cs)
  chosen_live = all_map _ _ (λ c e. (and_parts (not (eqb c.id source)) (live c.id) e).1) (prune_scored degree alpha live d source cs) kept

  pub chosen_not_source : All (λ c. eqb c.id source ≡ false) (prune_scored degree alpha live d source cs)
  chosen_not_source = all_map _ _ (λ c e. not-true (eqb c.id source) (and_parts (not (eqb c.id source)) (live c.id) e).0) (prune_scored degree alpha live d source cs) kept

  pub chosen_few : length (prune_scored degree alpha live d source cs) ≤ degree
  unfolding prune_scored
  chosen_few =
      let c = considered live source cs in
      rw (passes_scan degree alpha d c) (few_scans degree alpha d c (thresholds alpha) (start c) (omega arith))

  pub chosen_once : Accepted alpha → Unique (ids (prune_scored degree alpha live d source cs))
  unfolding prune_scored
  chosen_once a =
      let c = considered live source cs in
      rw (passes_scan degree alpha d c)
      (once_scans degree alpha d (below_largest alpha a) c (considered_unique live source cs) (thresholds alpha) (start c)
      (all_map (Threshold alpha) (λ t. lt t largest ≡ true) (threshold_largest alpha a) (thresholds alpha) (all_thresholds alpha a))
      (record { unique = tt; marked = marked_none c (start c).factors }))

-- ---- the same of a view

-- the slots selected are live
pub ids_live : (v : View) (source : ℕ) (cs : List Candidate) → All (λ t. v.live t ≡ true) (ids (prune v source cs))
ids_live v source cs = go (prune v source cs) (chosen_live v.sizes.degree v.sizes.alpha v.live (slot_distance v.space) source cs)
  where
    go : (l : List Candidate) → All (λ c. v.live c.id ≡ true) l → All (λ t. v.live t ≡ true) (ids l)
    go [] h = tt
    go (c ∷ l) h = (h.0, go l h.1)
