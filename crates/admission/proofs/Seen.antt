-- What the guard sees of the lent slices is what a view of them shows. Assumes nothing.
use Prim.Native.Nat.{ℕ}
use mathlib.Core.Bool.{Bool, true, false, not, ◌&&◌}
use mathlib.Core.Path.{◌≡◌, refl, ap, sym, ◌∙◌, fun_ext}
use mathlib.Core.List.{List, []}
use lib.ListN.{length}
use Rattle.lists.specs.Lists.{filter, elem, part, sorted_set}
use Rattle.lists.proofs.Members.{elem_sorted}
use Rattle.vectors.specs.Space.{query_distance, slot_distance, space}
use Rattle.candidates.specs.Candidates.{Candidate, ids}
use Rattle.slots.specs.View.{View, emptied}
use Rattle.slots.specs.Store.{Arrays, Store, is_valid, vector_of, store_view}
use Rattle.walk.specs.Walk.{graph_search}
use Rattle.walk.proofs.Seen.{walk_view_but, near_but_live}
use Rattle.landmarks.specs.Inner.Samples.{remains}
use Rattle.landmarks.specs.Inner.Choices.{landmarks_by}
use Rattle.guard.specs.Guard.{stays, select_landmarks, virtual_search_pool, reaches}
use Rattle.admission.specs.Inner.Trials.{meets}
use Rattle.admission.proofs.Landmarks.{landmarks_view}

module _ (b : Store) where
  abbrev a : Arrays
  a = b.arrays

  abbrev v : View
  v = store_view b

  -- to be live and none of some ids is to stay when they are deleted
  pub stays_same : (out : List ℕ) → remains a.marks out ≡ stays v (emptied v out)
  unfolding store_view emptied
  stays_same out = fun_ext (λ s. go s (is_valid a.marks s) refl)
    where
      go : (s : ℕ) (t : Bool) → is_valid a.marks s ≡ t
          → (is_valid a.marks s && not (elem s out)) ≡ (is_valid a.marks s && not (elem s (sorted_set (filter (is_valid a.marks) out))))
      go s true e = rw (e, elem_sorted (is_valid a.marks) s e out)
      go s false e = rw e

  distances : slot_distance (space a.measure a.dim a.vectors) ≡ slot_distance v.space
  unfolding slot_distance space store_view vector_of
  distances = refl

  module _ (whole : b.capacity ≡ length a.marks) where
    capacities : length a.marks ≡ v.sizes.capacity
    unfolding store_view
    capacities = sym whole

    pub selects_same : (out : List ℕ) (start sample : ℕ)
        → ◌≡◌ {A = ℕ → List ℕ → List ℕ} (λ wanted existing. landmarks_by (slot_distance (space a.measure a.dim a.vectors)) (remains a.marks out) (length a.marks) start wanted sample existing)
        (λ wanted existing. select_landmarks v (emptied v out) start wanted sample existing)
    selects_same out start sample = fun_ext (λ wanted. fun_ext (λ existing. one wanted existing))
      where
        one : (wanted : ℕ) (existing : List ℕ) → landmarks_by (slot_distance (space a.measure a.dim a.vectors)) (remains a.marks out) (length a.marks) start wanted sample existing
            ≡ select_landmarks v (emptied v out) start wanted sample existing
        one wanted existing =
            ap (λ (p : ℕ → Bool). landmarks_by (slot_distance (space a.measure a.dim a.vectors)) p (length a.marks) start wanted sample existing) (stays_same out)
            ∙ ap (λ (d : ℕ → ℕ → ℕ). landmarks_by d (stays v (emptied v out)) (length a.marks) start wanted sample existing) distances
            ∙ ap (λ (n : ℕ). landmarks_by (slot_distance v.space) (stays v (emptied v out)) n start wanted sample existing) capacities
            ∙ landmarks_view v (emptied v out) start existing wanted sample

    -- ---- a trial walk
    meets_view : (beam start : ℕ) (deleted : List ℕ) → stays v deleted start ≡ true → (l : ℕ) → meets a deleted beam start l ≡ reaches v deleted beam start l
    unfolding meets reaches virtual_search_pool store_view vector_of
    meets_view beam start deleted h l =
        rw (h, ← whole)
        (ap (λ (cs : List Candidate). elem l (ids cs)) (walk_view_but deleted b (vector_of a l) start beam))

    -- the slots left out are those of any list with the same live ones
    meets_named : (beam start : ℕ) (out : List ℕ) (l : ℕ) → meets a out beam start l ≡ meets a (emptied v out) beam start l
    unfolding meets emptied store_view
    meets_named beam start out l =
        ap (λ (near : ℕ → List ℕ). elem l (ids (graph_search (length a.marks) start beam (query_distance (space a.measure a.dim a.vectors) (part a.dim l a.vectors)) near)))
        (fun_ext (λ s. near_but_live a out s))

    pub reaches_same : (beam start : ℕ) (out : List ℕ) → remains a.marks out start ≡ true → meets a out beam start ≡ reaches v (emptied v out) beam start
    reaches_same beam start out h =
        let k : stays v (emptied v out) start ≡ true = ap (λ (p : ℕ → Bool). p start) (sym (stays_same out)) ∙ h in
        fun_ext (λ l. meets_named beam start out l ∙ meets_view beam start (emptied v out) k l)

    pub reaches_all : (beam start : ℕ) → is_valid a.marks start ≡ true → meets a [] beam start ≡ reaches v [] beam start
    unfolding emptied
    reaches_all beam start h = reaches_same beam start [] (rw h)
