-- The walk depends on the distances and the neighbours of the slots inside alone. Assumes nothing.
use Prim.Native.Nat.{ℕ, zero, suc, max, ◌≤◌, ◌<◌}
use mathlib.Core.Bool.{false, cond}
use mathlib.Core.Path.{◌≡◌, refl, ap, ◌∙◌}
use mathlib.Core.List.{List, [], ◌∷◌}
use native.Mathlib.Omega.{arith}
use lib.ListN.{set, replicate}
use Rattle.lists.specs.Lists.{All, foldl}
use Rattle.candidates.specs.Candidates.{Candidate}
use Rattle.walk.specs.Walk.{State, ends, meet, expand, turn, turns, graph_search}
use Rattle.walk.proofs.Ordered.{First, Inside, expanded, unexpanded_first, turn_sound, start_sound}

module _ (capacity : ℕ) {dist dist' : ℕ → ℕ} {near near' : ℕ → List ℕ} (same : (s : ℕ) → s < capacity → dist s ≡ dist' s)
    (rows : (s : ℕ) → s < capacity → near s ≡ near' s) (inside : (s : ℕ) → s < capacity → All (λ t. t < capacity) (near s)) where
  module _ (beam : ℕ) (some : 1 ≤ beam) where
    meet_same : (st : State) (s : ℕ) → s < capacity → meet beam dist near st s ≡ meet beam dist' near' st s
    unfolding meet
    meet_same st s h = rw (same s h)

    meets_same : (ts : List ℕ) (st : State) → All (λ t. t < capacity) ts → foldl (meet beam dist near) st ts ≡ foldl (meet beam dist' near') st ts
    meets_same [] st h = refl
    meets_same (t ∷ ts) st h =
        meets_same ts (meet beam dist near st t) h.1 ∙ ap (λ (x : State). foldl (meet beam dist' near') x ts) (meet_same st t h.0)

    expand_same : (st : State) (c : Candidate) → c.id < capacity → expand beam dist near st c ≡ expand beam dist' near' st c
    unfolding expand
    expand_same st c h =
        meets_same (near c.id) _ (inside c.id h)
        ∙ ap (foldl (meet beam dist' near') (record { list = st.list; marks = set st.marks c.id 2 })) (rows c.id h)

    turn_same : (st : State) (us : List Candidate) → First (λ c. (c.id < capacity) × (expanded st.marks c.id ≡ false)) us
        → turn beam dist near st us ≡ turn beam dist' near' st us
    unfolding turn
    turn_same st [] h = refl
    turn_same st (c ∷ cs) h = ap (cond (ends beam st.list c) st) (expand_same st c h.0)

    pub turns_same : (n : ℕ) (st : State) → Inside capacity beam dist st → turns beam dist near n st ≡ turns beam dist' near' n st
    unfolding turns
    turns_same zero st f = refl
    turns_same (suc n) st f =
        let first = unexpanded_first (λ c. c.id < capacity) st.marks st.list f.found.holds in
        turns_same n _ (turn_sound capacity beam dist near _ (λ s k. k) inside some st _ first f) ∙ ap (turns beam dist' near' n) (turn_same st _ first)

  pub graph_search_same : (start beam : ℕ) → start < capacity → graph_search capacity start beam dist near ≡ graph_search capacity start beam dist' near'
  unfolding graph_search
  graph_search_same start beam h =
      ap (λ (st : State). st.list) (turns_same (max 1 beam) (omega arith) capacity _ (start_sound capacity start (max 1 beam) dist (λ s. s < capacity) h h (omega arith)))
      ∙ ap (λ (d : ℕ). (turns (max 1 beam) dist' near' capacity (record { list = record { dist = d; id = start } ∷ []; marks = set (replicate capacity 0) start 1 })).list) (same start h)
