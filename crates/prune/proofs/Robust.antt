-- `prune_scored_robust`: the selection with factors and thresholds is RobustPrune of the DiskANN paper with the amendments of `amended`.
-- A factor is above a threshold exactly where its candidate is selected or is dropped by a selected one before it. Assumes nothing.
use Prim.Native.Nat.{ℕ, zero, suc, ◌*◌, ◌≤◌, ◌<◌}
use mathlib.Core.Path.{◌≡◌, refl, sym, ap, ◌∙◌}
use mathlib.Core.Bool.{Bool, true, false, not, ◌&&◌, ◌||◌, cond, true≢false}
use mathlib.Core.List.{List, [], ◌∷◌, ◌++◌}
use native.Mathlib.Nat.{le_of_lt}
use native.Mathlib.Omega.{arith}
use borrow.Author.Tests.{leb-false, lt-leb, le-ltb, eq-eqb}
use lib.ListN.{length, replicate}
use lib.Dec.{T, eqb, leb}
use lib.Ieee.{Float, lt, of_int}
use lib.Ieee.Positive.{num, den}
use Rattle.lists.specs.Lists.{All, filter, elem, foldl, sort_by, distinct_by}
use Rattle.lists.proofs.All.{by_cases}
use Rattle.lists.proofs.Filter.{filter_length, filter_every, filter_or}
use Rattle.lists.proofs.Sorted.{First, Sorted, sort_sorted, distinct_sorted, take_sorted, least_first}
use Rattle.lists.proofs.Unique.{Unique, or_false_l, or_false_r, eqb_flip}
use Rattle.candidates.specs.Candidates.{Candidate, ids, nearer}
use Rattle.vectors.specs.Distance.{f32}
use Rattle.candidates.specs.Quotient.{largest, quotient}
use Rattle.candidates.proofs.Plain.{plain, f32_plain, largest_plain, quotient_plain, max_plain, max_above, lt_le_trans, lt_plain}
use Rattle.prune.specs.Prune.{Selection, considered, prune_scored, thresholds}
use Rattle.prune.specs.RobustPrune.{stays, choose, remaining, run, robust_prune, amended}
use Rattle.prune.proofs.Passes.{onto, raised_to, raised, scan, scan_again, scan_frame, start, passes_scan, elem_more, elem_other}
use Rattle.prune.proofs.Thresholds.{Accepted, Threshold, all_thresholds, threshold_plain, threshold_largest, threshold_at_most, alpha_plain}
use Rattle.prune.proofs.Chosen.{all_of_given, considered_unique}
use Rattle.prune.proofs.Amended.{candidates_considered, alphas_thresholds}
use Rattle.prune.proofs.Loop.{choose_none}

or_assoc : (a b c : Bool) → (a || (b || c)) ≡ (a || b || c)
or_assoc true b c = refl
or_assoc false b c = refl

or_comm : (a b : Bool) → (a || b) ≡ (b || a)
or_comm true true = refl
or_comm true false = refl
or_comm false true = refl
or_comm false false = refl

abbrev Small : Candidate → Type 0
Small x = x.dist < 16777216

-- those whose factor is not above t
abbrev open_at : Float → List Candidate → List Float → List Candidate
open_at t [] fs = []
open_at t (x ∷ xs) [] = []
open_at t (x ∷ xs) (f ∷ fs) = cond (lt t f) (open_at t xs fs) (x ∷ open_at t xs fs)

all_open : (Q : Candidate → Type 0) (t : Float) (xs : List Candidate) (fs : List Float) → All Q xs → All Q (open_at t xs fs)
all_open Q t [] fs a = tt
all_open Q t (x ∷ xs) [] a = tt
all_open Q t (x ∷ xs) (f ∷ fs) a =
    let rest = all_open Q t xs fs a.1 in
    by_cases (All Q) (lt t f) (λ e. rest) (λ e. (a.0, rest))

module _ (d : ℕ → ℕ → ℕ) where
  -- whether x leaves when s is taken
  abbrev drops : Float → Candidate → Candidate → Bool
  drops t x s = lt t (quotient x.dist (d x.id s.id))

  -- whether one of a list drops x
  abbrev dropped : Float → Candidate → List Candidate → Bool
  dropped t x [] = false
  dropped t x (p ∷ ps) = drops t x p || dropped t x ps

module _ (alpha : Float) (d : ℕ → ℕ → ℕ) where
  -- the factor f of x, where S are selected and P are those of S that stand before x
  record Factor (S P : List Candidate) (x : Candidate) (f : Float) : Type 0 where
    fine : T (plain f)
    above : (t : Float) → Threshold alpha t → lt t f ≡ (elem x.id (ids S) || dropped d t x P)

  Factors : List Candidate → List Candidate → List Candidate → List Float → Type 0
  Factors S P [] [] = Unit {0}
  Factors S P [] (f ∷ fs) = ⊥
  Factors S P (x ∷ xs) [] = ⊥
  Factors S P (x ∷ xs) (f ∷ fs) = Factor S P x f × Factors S (cond (elem x.id (ids S)) (x ∷ P) P) xs fs

-- the laws, for an alpha from 1.0 to 2.0 and distances below 2 ^ 24
module _ (degree : ℕ) (alpha : Float) (a : Accepted alpha) (live : ℕ → Bool) (d : ℕ → ℕ → ℕ) (small : (x y : ℕ) → d x y < 16777216) where
  above_alpha : (t f : Float) → Threshold alpha t → T (plain f) → lt alpha f ≡ true → lt t f ≡ true
  above_alpha t f h p e = go (lt t f) refl
    where
      go : (b : Bool) → lt t f ≡ b → lt t f ≡ true
      go true g = g
      go false g = absurd (true≢false (sym (lt_le_trans alpha f t (alpha_plain alpha a) p (threshold_plain alpha a t h) e g) ∙ threshold_at_most alpha a t h))

  -- a factor that was raised is above t where it was, or where the one taken drops its candidate
  module _ (s x : Candidate) (f : Float) (m : Small x) (p : T (plain f)) where
    q : Float
    q = quotient x.dist (d x.id s.id)

    q_plain : T (plain q)
    unfolding q
    q_plain = quotient_plain x.dist (d x.id s.id) (le_of_lt m) (le_of_lt (small x.id s.id))

    raised_plain : T (plain (raised_to alpha d s x f))
    unfolding q
    raised_plain = by_cases (λ (z : Float). T (plain z)) (lt alpha f) (λ e. p) (λ e. max_plain f q p q_plain)

    raised_above : (t : Float) → Threshold alpha t → lt t (raised_to alpha d s x f) ≡ (lt t f || drops d t x s)
    unfolding q
    raised_above t h =
        by_cases (λ (z : Float). lt t z ≡ (lt t f || lt t q)) (lt alpha f) (λ e. rw (above_alpha t f h p e)) (λ e. max_above t f q (threshold_plain alpha a t h) p q_plain)

  raised_factors : (s : Candidate) (S P P' xs : List Candidate) (fs : List Float) → ((t : Float) (x : Candidate) → dropped d t x P' ≡ (dropped d t x P || drops d t x s))
      → elem s.id (ids xs) ≡ false → All Small xs → Factors alpha d S P xs fs → Factors alpha d (S ++ (s ∷ [])) P' xs (raised alpha d s xs fs)
  unfolding Factors
  raised_factors s S P P' [] [] r e m g = tt
  raised_factors s S P P' [] (f ∷ fs) r e m g = g
  raised_factors s S P P' (x ∷ xs) [] r e m g = g
  raised_factors s S P P' (x ∷ xs) (f ∷ fs) r e m g =
      (first, rw same (raised_factors s S (cond (elem x.id (ids S)) (x ∷ P) P) (cond (elem x.id (ids S)) (x ∷ P') P') xs fs (more (elem x.id (ids S))) (or_false_r (eqb s.id x.id) (elem s.id (ids xs)) e) m.1 g.1))
    where
      same : elem x.id (ids (S ++ (s ∷ []))) ≡ elem x.id (ids S)
      same = elem_other x.id S s (eqb_flip s.id x.id (or_false_l (eqb s.id x.id) (elem s.id (ids xs)) e))

      first : Factor alpha d (S ++ (s ∷ [])) P' x (raised_to alpha d s x f)
      first = record {
        fine = raised_plain s x f m.0 g.0.fine;
        above = λ t h. raised_above s x f m.0 g.0.fine t h
            ∙ rw (g.0.above t h, same, r t x) (sym (or_assoc (elem x.id (ids S)) (dropped d t x P) (drops d t x s)));
      }

      more : (b : Bool) (t : Float) (y : Candidate) → dropped d t y (cond b (x ∷ P') P') ≡ (dropped d t y (cond b (x ∷ P) P) || drops d t y s)
      more true t y = rw (r t y) (or_assoc (drops d t y x) (dropped d t y P) (drops d t y s))
      more false t y = r t y

  -- after s is taken, those open are those that s does not drop
  open_raised : (t : Float) → Threshold alpha t → (s : Candidate) (S P xs : List Candidate) (fs : List Float) → All Small xs → Factors alpha d S P xs fs
      → open_at t xs (raised alpha d s xs fs) ≡ filter (λ y. not (drops d t y s)) (open_at t xs fs)
  unfolding Factors
  open_raised t h s S P [] [] m g = refl
  open_raised t h s S P [] (f ∷ fs) m g = refl
  open_raised t h s S P (x ∷ xs) [] m g = refl
  open_raised t h s S P (x ∷ xs) (f ∷ fs) m g =
      rw (raised_above s x f m.0 g.0.fine t h)
      (go (lt t f) (drops d t x s) refl (open_raised t h s S (cond (elem x.id (ids S)) (x ∷ P) P) xs fs m.1 g.1))
    where
      O : List Candidate
      O = open_at t xs fs

      O₁ : List Candidate
      O₁ = open_at t xs (raised alpha d s xs fs)

      go : (p q : Bool) → drops d t x s ≡ q → O₁ ≡ filter (λ y. not (drops d t y s)) O → cond (p || q) O₁ (x ∷ O₁) ≡ filter (λ y. not (drops d t y s)) (cond p O (x ∷ O))
      go true q e r = r
      go false true e r = rw e r
      go false false e r = rw e (ap (λ (l : List Candidate). x ∷ l) r)

  -- ---- a pass keeps the factors' meaning
  scan_factors : (t : Float) → Threshold alpha t → (S P xs : List Candidate) (fs : List Float) → Unique (ids xs) → All Small xs → Factors alpha d S P xs fs
      → Factors alpha d (scan degree alpha d t xs fs S).selected P xs (scan degree alpha d t xs fs S).factors
  unfolding Factors
  scan_factors t h S P [] [] u m g = tt
  scan_factors t h S P [] (f ∷ fs) u m g = g
  scan_factors t h S P (x ∷ xs) [] u m g = g
  scan_factors t h S P (x ∷ xs) (f ∷ fs) u m g =
      by_cases (λ (h : Selection). Factors alpha d h.selected P (x ∷ xs) h.factors) (leb degree (length S) || lt t f)
      (λ e. skipped (scan_factors t h S P₁ xs fs u.1 m.1 g.1))
      (λ e. took (scan_factors t h S₁ (x ∷ P) xs fs₁ u.1 m.1
      (raised_factors x S P (x ∷ P) xs fs (λ t' y. or_comm (drops d t' y x) (dropped d t' y P)) u.0 m.1 (rw (new (or_false_r (leb degree (length S)) (lt t f) e)) at g.1))))
    where
      P₁ : List Candidate
      P₁ = cond (elem x.id (ids S)) (x ∷ P) P

      S₁ : List Candidate
      S₁ = S ++ (x ∷ [])

      fs₁ : List Float
      fs₁ = raised alpha d x xs fs

      skip : Selection
      skip = scan degree alpha d t xs fs S

      next : Selection
      next = scan degree alpha d t xs fs₁ S₁

      skipped : Factors alpha d skip.selected P₁ xs skip.factors → Factors alpha d skip.selected P (x ∷ xs) (f ∷ skip.factors)
      skipped r =
          let e = scan_frame degree alpha d x.id t xs fs S u.0 in
          rw e (record { fine = g.0.fine; above = λ t' h'. rw e (g.0.above t' h') }, r)

      new : lt t f ≡ false → elem x.id (ids S) ≡ false
      new e = or_false_l (elem x.id (ids S)) (dropped d t x P) (sym (g.0.above t h) ∙ e)

      taken : elem x.id (ids next.selected) ≡ true
      taken = scan_frame degree alpha d x.id t xs fs₁ S₁ u.0 ∙ elem_more x.id S x ∙ rw (eq-eqb x.id x.id refl) (or_comm (elem x.id (ids S)) true)

      took : Factors alpha d next.selected (x ∷ P) xs next.factors → Factors alpha d next.selected P (x ∷ xs) (largest ∷ next.factors)
      took r = rw taken (record { fine = largest_plain; above = λ t' h'. rw taken (threshold_largest alpha a t' h') }, r)

  -- ---- those open are what RobustPrune finds in C
  open_remaining : (t : Float) → Threshold alpha t → (S P xs : List Candidate) (fs : List Float) → Factors alpha d S P xs fs
      → open_at t xs fs ≡ filter (λ y. not (dropped d t y P)) (remaining (amended live alpha) degree d t S xs)
  unfolding Factors remaining stays amended
  open_remaining t h S P [] [] g = refl
  open_remaining t h S P [] (f ∷ fs) g = absurd g
  open_remaining t h S P (x ∷ xs) [] g = absurd g
  open_remaining t h S P (x ∷ xs) (f ∷ fs) g = rw (g.0.above t h) (go (elem x.id (ids S)) (dropped d t x P) refl (open_remaining t h S (cond (elem x.id (ids S)) (x ∷ P) P) xs fs g.1))
    where
      O : List Candidate
      O = open_at t xs fs

      R : List Candidate
      R = remaining (amended live alpha) degree d t S xs

      go : (p q : Bool) → dropped d t x P ≡ q → O ≡ filter (λ y. not (dropped d t y (cond p (x ∷ P) P))) R
          → cond (p || q) O (x ∷ O) ≡ filter (λ y. not (dropped d t y P)) (cond p (filter (λ y. not (drops d t y x)) R) (x ∷ R))
      go true q e r = r ∙ filter_or (λ y. drops d t y x) (λ y. dropped d t y P) R
      go false true e r = rw e r
      go false false e r = rw e (ap (λ (l : List Candidate). x ∷ l) r)

  -- ---- a pass is the paper's loop over those open
  scan_full : (t : Float) (xs : List Candidate) (fs : List Float) (S : List Candidate) → leb degree (length S) ≡ true → (scan degree alpha d t xs fs S).selected ≡ S
  scan_full t [] fs S e = refl
  scan_full t (x ∷ xs) [] S e = refl
  scan_full t (x ∷ xs) (f ∷ fs) S e = rw e (scan_full t xs fs S e)

  choose_first : (k : ℕ) (t : Float) (N : List Candidate) (x : Candidate) (C : List Candidate) → First (λ y. y.dist) x C → drops d t x x ≡ true
      → choose (amended live alpha) degree d (suc k) t N (x ∷ C)
      ≡ cond (leb degree (length (N ++ (x ∷ [])))) (N ++ (x ∷ [])) (choose (amended live alpha) degree d k t (N ++ (x ∷ [])) (filter (λ y. not (drops d t y x)) C))
  unfolding choose stays amended
  choose_first k t N x C f e =
      ap (λ (p : Candidate). cond (leb degree (length (N ++ (p ∷ [])))) (N ++ (p ∷ [])) (choose (amended live alpha) degree d k t (N ++ (p ∷ [])) (filter (λ y. not (drops d t y p)) (x ∷ C)))) (least_first (λ y. y.dist) x C f)
      ∙ rw e

  module _ (own : (s : ℕ) → d s s ≡ 0) where
    drops_itself : (t : Float) → Threshold alpha t → (x : Candidate) → drops d t x x ≡ true
    unfolding quotient
    drops_itself t h x = rw (own x.id) (threshold_largest alpha a t h)

    scan_choose : (t : Float) → Threshold alpha t → (k : ℕ) (S P xs : List Candidate) (fs : List Float) → Unique (ids xs) → All Small xs → Sorted (λ y. y.dist) xs
        → Factors alpha d S P xs fs → length S < degree → length (open_at t xs fs) ≤ k
        → (scan degree alpha d t xs fs S).selected ≡ choose (amended live alpha) degree d k t S (open_at t xs fs)
    unfolding Factors
    scan_choose t h k S P [] [] u m o g l b = sym (choose_none (amended live alpha) degree d t k S)
    scan_choose t h k S P [] (f ∷ fs) u m o g l b = absurd g
    scan_choose t h k S P (x ∷ xs) [] u m o g l b = absurd g
    scan_choose t h k S P (x ∷ xs) (f ∷ fs) u m o g l b =
        rw (lt-leb degree (length S) l)
        (go k (lt t f) b (λ j. scan_choose t h j S P₁ xs fs u.1 m.1 o.1 g.1 l) (λ j. scan_choose t h j S₁ (x ∷ P₁) xs fs₁ u.1 m.1 o.1 factors₁))
      where
        P₁ : List Candidate
        P₁ = cond (elem x.id (ids S)) (x ∷ P) P

        S₁ : List Candidate
        S₁ = S ++ (x ∷ [])

        fs₁ : List Float
        fs₁ = raised alpha d x xs fs

        O : List Candidate
        O = open_at t xs fs

        O₁ : List Candidate
        O₁ = open_at t xs fs₁

        opened : O₁ ≡ filter (λ y. not (drops d t y x)) O
        opened = open_raised t h x S P₁ xs fs m.1 g.1

        factors₁ : Factors alpha d S₁ (x ∷ P₁) xs fs₁
        factors₁ = raised_factors x S P₁ (x ∷ P₁) xs fs (λ t' y. or_comm (drops d t' y x) (dropped d t' y P₁)) u.0 m.1 g.1

        full : (b : Bool) → leb degree (length S₁) ≡ b → (k : ℕ) → (length S₁ < degree → (scan degree alpha d t xs fs₁ S₁).selected ≡ choose (amended live alpha) degree d k t S₁ O₁)
            → (scan degree alpha d t xs fs₁ S₁).selected ≡ cond b S₁ (choose (amended live alpha) degree d k t S₁ O₁)
        full true e k r = scan_full t xs fs₁ S₁ e
        full false e k r = r (leb-false degree (length S₁) e)

        go : (k : ℕ) (q : Bool) → length (cond q O (x ∷ O)) ≤ k
            → ((j : ℕ) → length O ≤ j → (scan degree alpha d t xs fs S).selected ≡ choose (amended live alpha) degree d j t S O)
            → ((j : ℕ) → length S₁ < degree → length O₁ ≤ j → (scan degree alpha d t xs fs₁ S₁).selected ≡ choose (amended live alpha) degree d j t S₁ O₁)
            → (cond q (onto f (scan degree alpha d t xs fs S)) (onto largest (scan degree alpha d t xs fs₁ S₁))).selected ≡ choose (amended live alpha) degree d k t S (cond q O (x ∷ O))
        go k true b r s = r k b
        go zero false b r s = absurd (omega arith)
        go (suc k) false b r s =
            let fewer : length O₁ ≤ k = rw opened (omega (arith, filter_length (λ y. not (drops d t y x)) O)) in
            full (leb degree (length S₁)) refl k (λ l. s k l fewer)
            ∙ rw opened (sym (choose_first k t S x O (all_open (λ y. x.dist ≤ y.dist) t xs fs o.0) (drops_itself t h x)))

    module _ (c : List Candidate) (u : Unique (ids c)) (m : All Small c) (o : Sorted (λ y. y.dist) c) where
      scan_run : (t : Float) → Threshold alpha t → (S : List Candidate) (fs : List Float) → Factors alpha d S [] c fs → (scan degree alpha d t c fs S).selected ≡ run (amended live alpha) degree d c S t
      unfolding run
      scan_run t h S fs g = go (leb degree (length S)) refl
        where
          left : open_at t c fs ≡ remaining (amended live alpha) degree d t S c
          left = open_remaining t h S [] c fs g ∙ filter_every (remaining (amended live alpha) degree d t S c)

          C₁ : List Candidate
          C₁ = remaining (amended live alpha) degree d t S c

          go : (b : Bool) → leb degree (length S) ≡ b → (scan degree alpha d t c fs S).selected ≡ cond b S (choose (amended live alpha) degree d (length C₁) t S C₁)
          go true e = scan_full t c fs S e
          go false e =
              scan_choose t h (length C₁) S [] c fs u m o g (leb-false degree (length S) e) (rw left (omega arith))
              ∙ rw left

      runs : (ts : List Float) → All (Threshold alpha) ts → (h : Selection) → Factors alpha d h.selected [] c h.factors
          → (foldl (scan_again degree alpha d c) h ts).selected ≡ foldl (run (amended live alpha) degree d c) h.selected ts
      runs [] b h g = refl
      runs (t ∷ ts) b h g =
          runs ts b.1 (scan_again degree alpha d c h t) (scan_factors t b.0 h.selected [] c h.factors u m g)
          ∙ ap (λ (S : List Candidate). foldl (run (amended live alpha) degree d c) S ts) (scan_run t b.0 h.selected h.factors g)

-- ---- the start: every factor is 0.0
above_zero : (alpha t : Float) → Accepted alpha → Threshold alpha t → lt t (f32 0) ≡ false
unfolding f32 of_int
above_zero alpha t a h =
    lt_plain t (f32 0) (threshold_plain alpha a t h) tt
    ∙ le-ltb (num t * den (f32 0)) (num (f32 0) * den t) (omega arith)

start_factors : (alpha : Float) (d : ℕ → ℕ → ℕ) → Accepted alpha → (c : List Candidate) → Factors alpha d [] [] c (replicate (length c) (f32 0))
unfolding Factors
start_factors alpha d a [] = tt
start_factors alpha d a (x ∷ c) = (record { fine = f32_plain 0 (omega arith); above = λ t h. above_zero alpha t a h }, start_factors alpha d a c)

considered_sorted : (live : ℕ → Bool) (source : ℕ) (cs : List Candidate) → Sorted (λ y. y.dist) (considered live source cs)
unfolding considered
considered_sorted live source cs =
    let l = filter (λ c. not (eqb c.id source) && live c.id) cs in
    take_sorted (λ y. y.dist) 750 (distinct_by (λ c. c.id) (sort_by nearer l)) (distinct_sorted (λ y. y.dist) (λ c. c.id) (sort_by nearer l) (sort_sorted (λ y. y.dist) l))

-- prune-scored is RobustPrune with our amendments: alpha from 1.0 to 2.0, all distances below 2 ^ 24, each slot at distance 0 from itself
pub prune_scored_robust : (degree : ℕ) (alpha : Float) (live : ℕ → Bool) (d : ℕ → ℕ → ℕ) (source : ℕ) (cs : List Candidate)
    → Accepted alpha → ((s : ℕ) → d s s ≡ 0) → ((x y : ℕ) → d x y < 16777216) → All (λ c. c.dist < 16777216) cs
    → prune_scored degree alpha live d source cs ≡ robust_prune (amended live alpha) degree d source cs
unfolding prune_scored robust_prune
prune_scored_robust degree alpha live d source cs a own small near =
    let c = considered live source cs in
    passes_scan degree alpha d c
    ∙ runs degree alpha a live d small own c (considered_unique live source cs) (all_of_given (λ x. x.dist < 16777216) live source cs near) (considered_sorted live source cs)
    (thresholds alpha) (all_thresholds alpha a) (start c) (start_factors alpha d a c)
    ∙ ap (foldl (run (amended live alpha) degree d c) []) (sym (alphas_thresholds live alpha))
    ∙ ap (λ (C : List Candidate). foldl (run (amended live alpha) degree d C) [] (amended live alpha).alphas) (sym (candidates_considered live alpha source cs))
