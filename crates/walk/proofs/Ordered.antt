-- What the walk gives: it is in order, no slot stands in it twice, each slot is inside and has its own distance, and at most beam many are in it.
-- Assumes nothing.
use Prim.Native.Nat.{ℕ, zero, suc, max, ◌≤◌, ◌<◌}
use mathlib.Core.Bool.{Bool, true, false, cond}
use mathlib.Core.Path.{◌≡◌, refl, ap, sym, ◌∙◌}
use mathlib.Core.List.{List, [], ◌∷◌}
use native.Mathlib.Omega.{arith}
use lib.ListN.{length, get_or, set, replicate, length-set, length-replicate}
use lib.Seq.{get_or-set_same, get_or-set_other}
use lib.Dec.{eqb, ltb}
use borrow.Author.Tests.{ltb-true, eqb-true, eqb-false}
use Rattle.lists.specs.Lists.{All, Pairwise, Ordered, insert_by, init}
use Rattle.lists.proofs.All.{by_cases, all_map, all_init, all_insert, filter_test, foldl_keeps}
use Rattle.lists.proofs.Ordered.{length_insert, length_init, pairwise_init, ordered_insert}
use Rattle.candidates.specs.Candidates.{Candidate, before}
use Rattle.slots.specs.View.{View, live_neighbors}
use Rattle.vectors.specs.Space.{query_distance}
use Rattle.walk.specs.Walk.{State, unexpanded, worst, enter, ends, meet, expand, turn, turns, graph_search, search_pool}
-- no name of it is used: the examples are checked first, so that they are the first to refuse a wrong definition
use Rattle.candidates.proofs.Before.{before_before, before_other, before_apart}

-- what holds of a candidate holds of those that are in the list after it enters
pub all_enter : (P : Candidate → Type 0) (beam : ℕ) (list : List Candidate) (c : Candidate) → All P list → P c → All P (enter beam list c)
unfolding enter
all_enter P beam list c h k =
    by_cases (All P) (ltb (length list) beam) (λ e. all_insert P before c list k h)
    (λ e. by_cases (All P) (ltb c.dist (worst list)) (λ f. all_insert P before c (init list) k (all_init P list h)) (λ f. h))

module _ (beam : ℕ) (list : List Candidate) (c : Candidate) where
  pub enter_ordered : All (λ a. a.id ≡ c.id → ⊥) list → Ordered before list → Ordered before (enter beam list c)
  unfolding enter
  enter_ordered n o =
      let d = all_map (λ a. a.id ≡ c.id → ⊥) (λ a. before a c ≡ false → before c a ≡ true) (λ a. before_other a c) list n in
      by_cases (Ordered before) (ltb (length list) beam) (λ e. ordered_insert before before_before c list d o)
      (λ e. by_cases (Ordered before) (ltb c.dist (worst list))
      (λ f. ordered_insert before before_before c (init list) (all_init _ list d) (pairwise_init _ list o)) (λ f. o))

  pub enter_short : 1 ≤ beam → length list ≤ beam → length (enter beam list c) ≤ beam
  unfolding enter
  enter_short o h =
      let room : ltb (length list) beam ≡ true → length (insert_by before c list) ≤ beam =
      λ e. omega (arith, length_insert before c list, ltb-true (length list) beam e) in
      let full : length (insert_by before c (init list)) ≤ beam = omega (arith, length_insert before c (init list), length_init list) in
      by_cases (λ (l : List Candidate). length l ≤ beam) (ltb (length list) beam) room
      (λ e. by_cases (λ (l : List Candidate). length l ≤ beam) (ltb c.dist (worst list)) (λ f. full) (λ f. h))

-- the mark of t when s has been marked
pub mark_set : (marks : List ℕ) (s m t : ℕ) → s < length marks → get_or (set marks s m) t 0 ≡ cond (eqb t s) m (get_or marks t 0)
mark_set marks s m t h =
    by_cases (λ x. get_or (set marks s m) t 0 ≡ x) (eqb t s) (λ e. rw (eqb-true t s e) (get_or-set_same marks s m 0 h))
    (λ e. get_or-set_other marks s t m 0 (eqb-false t s e))

-- whether slot s is expanded
abbrev pub expanded : List ℕ → ℕ → Bool
expanded marks s = eqb (get_or marks s 0) 2

-- what holds of the first, if there is one
abbrev pub First : (Candidate → Type 0) → List Candidate → Type 0
First P [] = Unit {0}
First P (c ∷ cs) = P c

pub unexpanded_first : (P : Candidate → Type 0) (marks : List ℕ) (list : List Candidate) → All P list
    → First (λ c. P c × (expanded marks c.id ≡ false)) (unexpanded marks list)
unfolding unexpanded
unexpanded_first P marks [] h = tt
unexpanded_first P marks (c ∷ cs) h =
    by_cases (First (λ a. P a × (expanded marks a.id ≡ false))) (expanded marks c.id) (λ e. unexpanded_first P marks cs h.1) (λ e. (h.0, e))

-- a list that the walk may give: `holds` is P of each slot
pub record Found (P : ℕ → Type 0) (beam : ℕ) (dist : ℕ → ℕ) (list : List Candidate) : Type 0 where
  pub order : Ordered before list
  pub holds : All (λ c. P c.id) list
  pub dists : All (λ c. c.dist ≡ dist c.id) list
  pub short : length list ≤ beam

-- a state of the walk
pub record Sound (capacity beam : ℕ) (dist : ℕ → ℕ) (P : ℕ → Type 0) (st : State) : Type 0 where
  pub size : length st.marks ≡ capacity
  pub met : All (λ c. get_or st.marks c.id 0 ≡ 0 → ⊥) st.list
  pub found : Found P beam dist st.list

met_marked : (marks : List ℕ) (s m : ℕ) → s < length marks → (m ≡ 0 → ⊥) → (list : List Candidate)
    → All (λ c. get_or marks c.id 0 ≡ 0 → ⊥) list → All (λ c. get_or (set marks s m) c.id 0 ≡ 0 → ⊥) list
met_marked marks s m h n =
    all_map _ _ (λ c k. rw (mark_set marks s m c.id h) (by_cases (λ x. x ≡ 0 → ⊥) (eqb c.id s) (λ e. n) (λ e. k)))

-- a slot that is marked, as expanded too
pub marked_sound : {capacity beam : ℕ} {dist : ℕ → ℕ} {P : ℕ → Type 0} {st : State} (s : ℕ) → s < capacity → Sound capacity beam dist P st
    → Sound capacity beam dist P (record { list = st.list; marks = set st.marks s 2 })
marked_sound {st = st} s h f =
    record {
      size = length-set st.marks s 2 ∙ f.size;
      met = met_marked st.marks s 2 (omega (arith, f.size)) (λ z. omega arith) st.list f.met;
      found = f.found;
    }

module _ (capacity beam : ℕ) (dist : ℕ → ℕ) (neighbors : ℕ → List ℕ) (P : ℕ → Type 0) (inside : (s : ℕ) → P s → s < capacity)
    (near : (s : ℕ) → P s → All P (neighbors s)) (some : 1 ≤ beam) where
  pub meet_sound : (st : State) (s : ℕ) → P s → Sound capacity beam dist P st → Sound capacity beam dist P (meet beam dist neighbors st s)
  unfolding meet
  meet_sound st s p f =
      let k : s < length st.marks = omega (arith, inside s p, f.size) in
      let c : Candidate = record { dist = dist s; id = s } in
      by_cases (Sound capacity beam dist P) (eqb (get_or st.marks s 0) 0) (λ e. record {
        size = length-set st.marks s 1 ∙ f.size;
        met = all_enter _ beam st.list c (met_marked st.marks s 1 k (λ z. omega arith) st.list f.met) (λ z. omega (arith, get_or-set_same st.marks s 1 0 k));
        found = record {
          order = enter_ordered beam st.list c (all_map _ _ (λ a n i. n (rw i (eqb-true _ _ e))) st.list f.met) f.found.order;
          holds = all_enter _ beam st.list c f.found.holds p;
          dists = all_enter _ beam st.list c f.found.dists refl;
          short = enter_short beam st.list c some f.found.short;
        };
      }) (λ e. f)

  pub expand_sound : (st : State) (c : Candidate) → P c.id → Sound capacity beam dist P st → Sound capacity beam dist P (expand beam dist neighbors st c)
  unfolding expand
  expand_sound st c p f =
      foldl_keeps P (Sound capacity beam dist P) (meet beam dist neighbors) meet_sound (neighbors c.id) (near c.id p) _
      (marked_sound c.id (inside c.id p) f)

  pub turn_sound : (st : State) (us : List Candidate) → First (λ c. P c.id × (expanded st.marks c.id ≡ false)) us
      → Sound capacity beam dist P st → Sound capacity beam dist P (turn beam dist neighbors st us)
  unfolding turn
  turn_sound st [] h f = f
  turn_sound st (c ∷ cs) h f = by_cases (Sound capacity beam dist P) (ends beam st.list c) (λ e. f) (λ e. expand_sound st c h.0 f)

  turns_sound : (n : ℕ) (st : State) → Sound capacity beam dist P st → Sound capacity beam dist P (turns beam dist neighbors n st)
  unfolding turns
  turns_sound zero st f = f
  turns_sound (suc n) st f = turns_sound n _ (turn_sound st _ (unexpanded_first _ st.marks st.list f.found.holds) f)

pub start_sound : (capacity start beam : ℕ) (dist : ℕ → ℕ) (P : ℕ → Type 0) → start < capacity → P start → 1 ≤ beam
    → Sound capacity beam dist P (record { list = record { dist = dist start; id = start } ∷ []; marks = set (replicate capacity 0) start 1 })
start_sound capacity start beam dist P h p some =
    let k : start < length {A = ℕ} (replicate capacity 0) = rw length-replicate h in
    record {
      size = length-set (replicate capacity 0) start 1 ∙ length-replicate capacity 0;
      met = ((λ z. omega (arith, get_or-set_same (replicate capacity 0) start 1 0 k)), tt);
      found = record { order = (tt, tt); holds = (p, tt); dists = (refl, tt); short = some };
    }

module _ (capacity start beam : ℕ) (dist : ℕ → ℕ) (neighbors : ℕ → List ℕ) (P : ℕ → Type 0) (inside : (s : ℕ) → P s → s < capacity)
    (near : (s : ℕ) → P s → All P (neighbors s)) (begins : P start) where
  pub graph_search_found : Found P (max 1 beam) dist (graph_search capacity start beam dist neighbors)
  unfolding graph_search
  graph_search_found =
      (turns_sound capacity (max 1 beam) dist neighbors P inside near (omega arith) capacity _
      (start_sound capacity start (max 1 beam) dist P (inside start begins) begins (omega arith))).found

-- with nothing asked of the slots but that they are inside
abbrev pub Inside : ℕ → ℕ → (ℕ → ℕ) → State → Type 0
Inside capacity beam dist st = Sound capacity beam dist (λ s. s < capacity) st

pub graph_search_inside : (capacity start beam : ℕ) (dist : ℕ → ℕ) (neighbors : ℕ → List ℕ) → start < capacity
    → ((s : ℕ) → s < capacity → All (λ t. t < capacity) (neighbors s))
    → Found (λ s. s < capacity) (max 1 beam) dist (graph_search capacity start beam dist neighbors)
graph_search_inside capacity start beam dist neighbors h near = graph_search_found capacity start beam dist neighbors _ (λ s k. k) near h

-- no slot twice
pub found_once : {P : ℕ → Type 0} {beam : ℕ} {dist : ℕ → ℕ} {list : List Candidate} → Found P beam dist list → Pairwise (λ a b. a.id ≡ b.id → ⊥) list
found_once {dist = dist} {list} f = go list f.order f.dists
  where
    ahead : (a : Candidate) → a.dist ≡ dist a.id → (cs : List Candidate) → All (λ c. before a c ≡ true) cs → All (λ c. c.dist ≡ dist c.id) cs
        → All (λ c. a.id ≡ c.id → ⊥) cs
    ahead a d [] o e = tt
    ahead a d (c ∷ cs) o e = ((λ i. before_apart a c o.0 (d ∙ ap dist i ∙ sym e.0) i), ahead a d cs o.1 e.1)

    go : (cs : List Candidate) → Ordered before cs → All (λ c. c.dist ≡ dist c.id) cs → Pairwise (λ a b. a.id ≡ b.id → ⊥) cs
    go [] o e = tt
    go (c ∷ cs) o e = (ahead c e.0 cs o.0 e.1, go cs o.1 e.1)

-- `search_pool` gives live slots
pub search_pool_found : (v : View) (query : List ℕ) (beam : ℕ) → ((s : ℕ) → v.live s ≡ true → s < v.sizes.capacity)
    → Found (λ s. v.live s ≡ true) (max 1 beam) (query_distance v.space query) (search_pool v query beam)
unfolding search_pool
search_pool_found v query beam inside =
    by_cases (Found (λ s. v.live s ≡ true) (max 1 beam) (query_distance v.space query)) (v.live v.entry)
    (graph_search_found v.sizes.capacity v.entry beam (query_distance v.space query) (live_neighbors v) (λ s. v.live s ≡ true) inside
    (λ s h. filter_test v.live (v.refs s)))
    (λ e. record { order = tt; holds = tt; dists = tt; short = omega arith })
