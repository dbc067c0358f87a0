-- A walk reads the distance of its start and of neighbours only: two distances that are equal on these give the same list. So a walk from the entry gives the
-- same of two views that differ only in the vectors of dead slots, and, where no slot is live, in the entry. Assumes nothing.
use Prim.Native.Nat.{ℕ, zero, suc, max}
use mathlib.Core.Bool.{Bool, true, false, cond, true≢false}
use mathlib.Core.Path.{◌≡◌, refl, sym, ap, ◌∙◌}
use mathlib.Core.List.{List, [], ◌∷◌}
use lib.ListN.{get_or, set, replicate}
use lib.Dec.{eqb}
use Rattle.lists.specs.Lists.{All}
use Rattle.lists.proofs.All.{filter_test}
use Rattle.lists.proofs.Equal.{foldl_equal}
use Rattle.candidates.specs.Candidates.{Candidate}
use Rattle.vectors.specs.Space.{query_distance}
use Rattle.slots.specs.View.{View, live_neighbors, with_vectors, Alike}
use Rattle.slots.proofs.Alike.{by_alike, same_query}
use Rattle.walk.specs.Walk.{State, unexpanded, enter, ends, meet, expand, turn, turns, graph_search, search_pool}

-- ---- two distances that are equal on the slots with P, among which all neighbours are

module _ (P : ℕ → Type 0) (d d' : ℕ → ℕ) (same : (s : ℕ) → P s → d s ≡ d' s) (neighbors : ℕ → List ℕ) (near : (s : ℕ) → All P (neighbors s)) where
  module _ (beam : ℕ) where
    meet_equal : (st : State) (s : ℕ) → P s → meet beam d neighbors st s ≡ meet beam d' neighbors st s
    unfolding meet
    meet_equal st s p =
        let met : ℕ → State = λ n. record { list = enter beam st.list (record { dist = n; id = s }); marks = set st.marks s 1 } in
        ap (λ (n : ℕ). cond (eqb (get_or st.marks s 0) 0) (met n) st) (same s p)

    expand_equal : (st : State) (c : Candidate) → expand beam d neighbors st c ≡ expand beam d' neighbors st c
    unfolding expand
    expand_equal st c = foldl_equal P (meet beam d neighbors) (meet beam d' neighbors) meet_equal (neighbors c.id) (near c.id) _

    turn_equal : (st : State) (us : List Candidate) → turn beam d neighbors st us ≡ turn beam d' neighbors st us
    unfolding turn
    turn_equal st [] = refl
    turn_equal st (c ∷ cs) = ap (λ (to : State). cond (ends beam st.list c) st to) (expand_equal st c)

    turns_equal : (n : ℕ) (st : State) → turns beam d neighbors n st ≡ turns beam d' neighbors n st
    unfolding turns
    turns_equal zero st = refl
    turns_equal (suc n) st =
        turns_equal n (turn beam d neighbors st (unexpanded st.marks st.list)) ∙ ap (turns beam d' neighbors n) (turn_equal st (unexpanded st.marks st.list))

  pub graph_search_equal : (capacity start beam : ℕ) → P start → graph_search capacity start beam d neighbors ≡ graph_search capacity start beam d' neighbors
  unfolding graph_search
  graph_search_equal capacity start beam p =
      let from : ℕ → State = λ n. record { list = record { dist = n; id = start } ∷ []; marks = set (replicate capacity 0) start 1 } in
      ap (λ (st : State). st.list)
      (turns_equal (max 1 beam) capacity (from (d start)) ∙ ap (λ (n : ℕ). turns (max 1 beam) d' neighbors capacity (from n)) (same start p))

-- ---- from the entry

-- an entry is live in both views or in neither, and live they are one
pub search_pool_alike : (v v' : View) → Alike v v' → (query : List ℕ) (beam : ℕ) → search_pool v query beam ≡ search_pool v' query beam
unfolding search_pool
search_pool_alike v v' a query beam =
    by_alike v v' a (λ u. search_pool v query beam ≡ search_pool u query beam)
    (λ vector entry same one. go vector entry same one (v.live v.entry) (v.live entry) refl refl)
  where
    walk : View → ℕ → List Candidate
    walk u start = graph_search v.sizes.capacity start beam (query_distance u.space query) (live_neighbors v)

    go : (vector : ℕ → List ℕ) (entry : ℕ) → ((s : ℕ) → v.live s ≡ true → vector s ≡ v.space.vector s) → ((s : ℕ) → v.live s ≡ true → entry ≡ v.entry)
        → (b b' : Bool) → v.live v.entry ≡ b → v.live entry ≡ b' → cond b (walk v v.entry) [] ≡ cond b' (walk (with_vectors v vector entry) entry) []
    go vector entry same one false false e e' = refl
    go vector entry same one false true e e' = absurd (true≢false (sym e' ∙ ap v.live (one entry e') ∙ e))
    go vector entry same one true false e e' = absurd (true≢false (sym e ∙ sym (ap v.live (one v.entry e)) ∙ e'))
    go vector entry same one true true e e' =
        graph_search_equal (λ s. v.live s ≡ true) _ _ (same_query v vector entry same query) (live_neighbors v) (λ s. filter_test v.live (v.refs s))
        v.sizes.capacity v.entry beam e
        ∙ ap (walk (with_vectors v vector entry)) (sym (one v.entry e))
