-- The walk is GreedySearch with our amendments, `graph_search_greedy`; and GreedySearch, ours and the paper's, ends within as many turns as there
-- are nodes, `greedy_enough`. Assumes nothing.
use Prim.Native.Nat.{ℕ, zero, suc, max, ◌≤◌, ◌<◌}
use mathlib.Core.Bool.{Bool, true, false, not, ◌||◌, cond, or-true}
use mathlib.Core.Path.{◌≡◌, refl, ap, sym, ◌∙◌, subst}
use mathlib.Core.Logic.{◌⊎◌, inl, inr}
use mathlib.Core.List.{List, [], ◌∷◌}
use native.Mathlib.Omega.{arith}
use lib.ListN.{length, take, get_or, set, replicate, length-replicate, get_or-replicate}
use lib.Dec.{eqb, ltb}
use borrow.Author.Tests.{eqb-true, eq-eqb, ne_eqb, not-true}
use Rattle.lists.specs.Lists.{All, Ordered, filter, elem, foldl, sort_by}
use Rattle.lists.proofs.All.{by_cases, all_map, all_both, all_append, all_take, all_filter, filter_test, all_sort, foldl_keeps}
use Rattle.lists.proofs.Ordered.{sort_ordered}
use Rattle.candidates.specs.Candidates.{Candidate, before, nearer}
use Rattle.slots.specs.View.{View, live_neighbors}
use Rattle.vectors.specs.Space.{query_distance}
use Rattle.walk.specs.Walk.{State, unexpanded, ends, meet, expand, graph_search, search_pool}
use Rattle.walk.specs.Walk as Walk
use Rattle.walk.specs.GreedySearch.{Rules, Search, nearest, join, visit, turn, unvisited, turns, greedy_search, paper, too_far, amended}
use Rattle.candidates.proofs.Before.{before_once}
use Rattle.walk.proofs.Ordered.{First, Inside, expanded, mark_set, unexpanded_first, meet_sound, marked_sound, turn_sound, start_sound}
use Rattle.walk.proofs.Amended.{all_joins, too_far_ends, joins_enter}
use Rattle.walk.proofs.Turns.{enough, undone, undone_most, undone_fewer}

-- ---- the turns of GreedySearch

-- rules that bring in no node: what joins or stays was in the list, or is the neighbour that joins
pub record Keeps (R : Rules) : Type 1 where
  pub joins : (P : Candidate → Type 0) (L : ℕ) (list : List Candidate) (c : Candidate) → All P list → P c → All P (R.joins L list c)
  pub stays : (P : Candidate → Type 0) (L : ℕ) (list : List Candidate) → All P list → All P (R.stays L list)

nearest_all : (P : Candidate → Type 0) (closer : Candidate → Candidate → Bool) (a : Candidate) (cs : List Candidate) → P a → All P cs → P (nearest closer a cs)
nearest_all P closer a [] h k = h
nearest_all P closer a (c ∷ cs) h k = nearest_all P closer (cond (closer c a) c a) cs (by_cases P (closer c a) (λ e. k.0) (λ e. h)) k.1

module _ (R : Rules) (keeps : Keeps R) (n L : ℕ) (d : ℕ → ℕ) (N : ℕ → List ℕ) (near : (s : ℕ) → s < n → All (λ t. t < n) (N s)) where
  abbrev Nodes : Search → Type 0
  Nodes s = All (λ c. c.id < n) s.list

  abbrev left : Search → ℕ
  left s = undone (λ t. elem t s.visited) n

  visit_nodes : (s : Search) (p : Candidate) → p.id < n → Nodes s → Nodes (visit R L d N s p) × ((visit R L d N s p).visited ≡ p.id ∷ s.visited)
  unfolding visit join
  visit_nodes s p h f =
      let met =
      foldl_keeps (λ t. t < n) (λ x. Nodes x × (x.visited ≡ p.id ∷ s.visited)) (join R L d N)
      (λ x t k i. by_cases (λ (y : Search). Nodes y × (y.visited ≡ p.id ∷ s.visited)) (R.considers x.list x.considered t)
      (λ e. (keeps.joins _ L x.list _ i.0 k, i.1)) (λ e. i))
      (N p.id) (near p.id h) (record { list = s.list; visited = p.id ∷ s.visited; considered = s.considered }) (f, refl) in
      (keeps.stays _ L _ met.0, met.1)

  turn_falls : (s : Search) (us : List Candidate) → All (λ c. (c.id < n) × (not (elem c.id s.visited) ≡ true)) us → Nodes s
      → Nodes (turn R L d N s us) × ((turn R L d N s us ≡ s) ⊎ (left (turn R L d N s us) < left s))
  unfolding turn
  turn_falls s [] h f = (f, inl refl)
  turn_falls s (c ∷ cs) h f =
      let p = nearest R.closer c cs in
      let k = nearest_all (λ a. (a.id < n) × (not (elem a.id s.visited) ≡ true)) R.closer c cs h.0 h.1 in
      let v = visit_nodes s p k.0 f in
      by_cases (λ (x : Search). Nodes x × ((x ≡ s) ⊎ (left x < left s))) (R.ends L s.list p) (λ e. (f, inl refl))
      (λ e. (
        v.0,
        inr (rw v.1 (undone_fewer (λ t. elem t s.visited) (λ t. elem t (p.id ∷ s.visited)) (λ t i. rw i (or-true (eqb t p.id)))
            p.id n k.0 (not-true _ k.1) (rw (eq-eqb p.id p.id refl)))),
      ))

  unvisited_open : (s : Search) → Nodes s → All (λ c. (c.id < n) × (not (elem c.id s.visited) ≡ true)) (unvisited R L d N s)
  unfolding unvisited
  unvisited_open s f =
      let out : Candidate → Bool = λ c. not (elem c.id s.visited) in
      all_both _ _ (filter out s.list) (all_filter _ out s.list f) (filter_test out s.list)

  greedy_turns_enough : (m : ℕ) (s : Search) → Nodes s → n ≤ m → turns R L d N m s ≡ turns R L d N n s
  unfolding turns
  greedy_turns_enough m s f h =
      enough (λ x. turn R L d N x (unvisited R L d N x)) (turns R L d N) (λ x. refl) (λ k x. refl) Nodes left
      (λ x g. (turn_falls x _ (unvisited_open x g) g).0) (λ x g. (turn_falls x _ (unvisited_open x g) g).1) n m s f (undone_most _ n) h

-- more turns than nodes change nothing
abbrev pub Enough : Rules → Type 0
Enough R =
    (n s k L : ℕ) (d : ℕ → ℕ) (N : ℕ → List ℕ) → s < n → ((t : ℕ) → t < n → All (λ u. u < n) (N t)) → (m : ℕ) → n ≤ m
    → greedy_search R m s k L d N ≡ greedy_search R n s k L d N

pub greedy_enough : (R : Rules) → Keeps R → Enough R
unfolding greedy_search
greedy_enough R keeps n s k L d N h near m l =
    ap (λ (end : Search). (take k (sort_by R.closer end.list), end.visited))
    (greedy_turns_enough R keeps n (R.size L) d N near m (record { list = record { dist = d s; id = s } ∷ []; visited = []; considered = s ∷ [] }) (h, tt) l)

pub paper_enough : Enough paper
unfolding paper
paper_enough =
    greedy_enough paper
    (record {
      joins = λ P L list c h k. all_append P list (c ∷ []) h (k, tt);
      stays = λ P L list h. by_cases (All P) (ltb L (length list)) (λ e. all_take P L (sort_by nearer list) (all_sort P nearer list h)) (λ e. h);
    })

pub amended_enough : Enough amended
unfolding amended
amended_enough = greedy_enough amended (record { joins = all_joins; stays = λ P L list h. h })

-- ---- the walk and GreedySearch, turn by turn

-- a state of the one and of the other: the same list, and marks that say what is visited and what was considered
record Same (capacity : ℕ) (st : State) (s : Search) : Type 0 where
  list : st.list ≡ s.list
  visited : (t : ℕ) → t < capacity → expanded st.marks t ≡ elem t s.visited
  considered : (t : ℕ) → t < capacity → eqb (get_or st.marks t 0) 0 ≡ not (elem t s.considered)

-- both empty, or the same first, which comes before the others
abbrev Firsts : List Candidate → List Candidate → Type 0
Firsts [] [] = Unit {0}
Firsts [] (v ∷ vs) = ⊥
Firsts (u ∷ us) [] = ⊥
Firsts (u ∷ us) (v ∷ vs) = (u ≡ v) × All (λ c. before v c ≡ true) vs

nearest_first : (a : Candidate) (cs : List Candidate) → All (λ c. before a c ≡ true) cs → nearest before a cs ≡ a
nearest_first a [] h = refl
nearest_first a (c ∷ cs) h = rw (before_once a c h.0) (nearest_first a cs h.1)

unexpanded_unvisited : (capacity : ℕ) (marks visited : List ℕ) → ((t : ℕ) → t < capacity → expanded marks t ≡ elem t visited) → (list : List Candidate)
    → All (λ c. c.id < capacity) list → Ordered before list → Firsts (unexpanded marks list) (filter (λ c. not (elem c.id visited)) list)
unfolding unexpanded
unexpanded_unvisited capacity marks visited same [] h o = tt
unexpanded_unvisited capacity marks visited same (c ∷ cs) h o =
    let e = sym (same c.id h.0) in
    let out : Candidate → Bool = λ a. not (elem a.id visited) in
    by_cases (λ x. Firsts x (filter out (c ∷ cs))) (expanded marks c.id)
    (λ f. rw (e ∙ f) (unexpanded_unvisited capacity marks visited same cs h.1 o.1))
    (λ f. rw (e ∙ f) (refl, all_filter _ out cs o.0))

-- a mark and a list that a slot joins
marks_two : (b : Bool) (m : ℕ) (x : Bool) → eqb m 2 ≡ x → eqb (cond b 2 m) 2 ≡ (b || x)
marks_two true m x e = refl
marks_two false m x e = e

marks_one : (b : Bool) (m : ℕ) (x : Bool) → eqb m 0 ≡ not x → eqb (cond b 1 m) 0 ≡ not (b || x)
marks_one true m x e = refl
marks_one false m x e = e

module _ (capacity beam : ℕ) (dist : ℕ → ℕ) (neighbors : ℕ → List ℕ) (near : (s : ℕ) → s < capacity → All (λ t. t < capacity) (neighbors s)) (some : 1 ≤ beam) where
  meet_same : (st : State) (s : Search) (t : ℕ) → t < capacity → Inside capacity beam dist st → Same capacity st s
      → Same capacity (meet beam dist neighbors st t) (join amended beam dist neighbors s t)
  unfolding meet join amended
  meet_same st s t h f r =
      let k : t < length st.marks = omega (arith, f.size) in
      let c = sym (r.considered t h) in
      let new : Candidate = record { dist = dist t; id = t } in
      by_cases (λ x. Same capacity x (join amended beam dist neighbors s t)) (eqb (get_or st.marks t 0) 0)
      (λ e. rw (c ∙ e) (record {
        list = sym (joins_enter beam st.list new f.found.order (all_map _ _ (λ a n i. n (rw i (eqb-true _ _ e))) st.list f.met) f.found.short)
            ∙ ap (λ l. amended.joins beam l new) r.list;
        visited = λ u l. rw (mark_set st.marks t 1 u k) (by_cases (λ m. eqb m 2 ≡ elem u s.visited) (eqb u t)
            (λ i. rw (ap (λ x. get_or st.marks x 0) (eqb-true u t i) ∙ eqb-true (get_or st.marks t 0) 0 e) at (r.visited u l)) (λ i. r.visited u l));
        considered = λ u l. rw (mark_set st.marks t 1 u k) (marks_one (eqb u t) _ _ (r.considered u l));
      })) (λ e. rw (c ∙ e) r)

  meets_same : (ns : List ℕ) → All (λ t. t < capacity) ns → (st : State) (s : Search) → Inside capacity beam dist st → Same capacity st s
      → Same capacity (foldl (meet beam dist neighbors) st ns) (foldl (join amended beam dist neighbors) s ns)
  meets_same [] h st s f r = r
  meets_same (t ∷ ns) h st s f r =
      meets_same ns h.1 _ _ (meet_sound capacity beam dist neighbors _ (λ s k. k) near some st t h.0 f) (meet_same st s t h.0 f r)

  expand_same : (st : State) (s : Search) (c : Candidate) → c.id < capacity → (get_or st.marks c.id 0 ≡ 0 → ⊥) → Inside capacity beam dist st → Same capacity st s
      → Same capacity (expand beam dist neighbors st c) (visit amended beam dist neighbors s c)
  unfolding expand visit amended
  expand_same st s c h met f r =
      let k : c.id < length st.marks = omega (arith, f.size) in
      meets_same (neighbors c.id) (near c.id h) _ _ (marked_sound c.id h f)
      (record {
        list = r.list;
        visited = λ u l. rw (mark_set st.marks c.id 2 u k) (marks_two (eqb u c.id) _ _ (r.visited u l));
        considered = λ u l. rw (mark_set st.marks c.id 2 u k) (by_cases (λ m. eqb m 0 ≡ not (elem u s.considered)) (eqb u c.id)
            (λ i. sym (ne_eqb (get_or st.marks u 0) 0 (λ z. met (rw (eqb-true u c.id i) at z))) ∙ r.considered u l) (λ i. r.considered u l));
      })

  turn_same : (st : State) (s : Search) (us vs : List Candidate)
      → First (λ c. ((c.id < capacity) × (get_or st.marks c.id 0 ≡ 0 → ⊥)) × (expanded st.marks c.id ≡ false)) us → Firsts us vs → Inside capacity beam dist st
      → Same capacity st s → Same capacity (Walk.turn beam dist neighbors st us) (turn amended beam dist neighbors s vs)
  unfolding Walk.turn turn amended
  turn_same st s [] [] h g f r = r
  turn_same st s [] (v ∷ vs) h g f r = absurd g
  turn_same st s (u ∷ us) [] h g f r = absurd g
  turn_same st s (u ∷ us) (v ∷ vs) h g f r =
      let c : too_far beam s.list u ≡ ends beam st.list u = ap (λ l. too_far beam l u) (sym r.list) ∙ too_far_ends beam st.list u f.found.order in
      rw (nearest_first v vs g.1, ← g.0)
      (by_cases (λ x. Same capacity x (cond (too_far beam s.list u) s (visit amended beam dist neighbors s u))) (ends beam st.list u)
      (λ e. rw (c ∙ e) r) (λ e. rw (c ∙ e) (expand_same st s u h.0.0 h.0.1 f r)))

  turns_same : (n : ℕ) (st : State) (s : Search) → Inside capacity beam dist st → Same capacity st s
      → Same capacity (Walk.turns beam dist neighbors n st) (turns amended beam dist neighbors n s) × Inside capacity beam dist (Walk.turns beam dist neighbors n st)
  unfolding Walk.turns turns unvisited
  turns_same zero st s f r = (r, f)
  turns_same (suc n) st s f r =
      let first = unexpanded_first (λ c. c.id < capacity) st.marks st.list f.found.holds in
      let met = unexpanded_first _ st.marks st.list (all_both _ _ st.list f.found.holds f.met) in
      let both = unexpanded_unvisited capacity st.marks s.visited r.visited st.list f.found.holds f.found.order in
      turns_same n _ _ (turn_sound capacity beam dist neighbors _ (λ s k. k) near some st _ first f)
      (turn_same st s _ _ met (subst (λ l. Firsts (unexpanded st.marks st.list) (filter (λ c. not (elem c.id s.visited)) l)) r.list both) f r)

start_same : (capacity start : ℕ) (c : Candidate) → start < capacity
    → Same capacity (record { list = c ∷ []; marks = set (replicate capacity 0) start 1 }) (record { list = c ∷ []; visited = []; considered = start ∷ [] })
start_same capacity start c h =
    let k : start < length {A = ℕ} (replicate capacity 0) = rw length-replicate h in
    record {
      list = refl;
      visited = λ t l. rw (mark_set (replicate capacity 0) start 1 t k, get_or-replicate {A = ℕ} capacity t 0 0 l) (by_cases (λ m. eqb m 2 ≡ false) (eqb t start) (λ e. refl) (λ e. refl));
      considered = λ t l. rw (mark_set (replicate capacity 0) start 1 t k, get_or-replicate {A = ℕ} capacity t 0 0 l) (marks_one (eqb t start) 0 false refl);
    }

pub graph_search_greedy : (capacity start k beam : ℕ) (dist : ℕ → ℕ) (neighbors : ℕ → List ℕ) → start < capacity
    → ((s : ℕ) → s < capacity → All (λ t. t < capacity) (neighbors s))
    → take k (graph_search capacity start beam dist neighbors) ≡ (greedy_search amended capacity start k beam dist neighbors).0
unfolding graph_search greedy_search amended
graph_search_greedy capacity start k beam dist neighbors h near =
    let end =
    turns_same capacity (max 1 beam) dist neighbors near (omega arith) capacity _ _
    (start_sound capacity start (max 1 beam) dist (λ s. s < capacity) h h (omega arith)) (start_same capacity start _ h) in
    ap (take k) (sym (sort_ordered before before_once _ end.1.found.order)) ∙ ap (λ l. take k (sort_by before l)) end.0.list

-- of a view
module _ (v : View) (inside : (s : ℕ) → v.live s ≡ true → s < v.sizes.capacity) where
  pub search_pool_greedy : (query : List ℕ) (k beam : ℕ) → v.live v.entry ≡ true
      → take k (search_pool v query beam)
      ≡ (greedy_search amended v.sizes.capacity v.entry k beam (query_distance v.space query) (live_neighbors v)).0
  unfolding search_pool
  search_pool_greedy query k beam h =
      rw h
      (graph_search_greedy v.sizes.capacity v.entry k beam (query_distance v.space query) (live_neighbors v) (inside v.entry h)
      (λ s l. all_map _ _ inside (live_neighbors v s) (filter_test v.live (v.refs s))))
