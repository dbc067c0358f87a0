-- The walk, `graph_search` and `search_pool`: document 01, "Candidates and the walk"; `graph_search` of lib.rs in the Rust. Assumes nothing.
use Rattle.std.specs.Prelude.{ℕ, zero, suc, max, Bool, ◌&&◌, cond, List, [], ◌∷◌, length, get_or, set, replicate, eqb, ltb, leb}
use Rattle.lists.specs.Lists.{foldl, insert_by, last, init}
use Rattle.candidates.specs.Candidates.{Candidate, before}
use Rattle.slots.specs.View.{View, live_neighbors}
use Rattle.vectors.specs.Space.{query_distance}

-- the list, in the order of candidates, and a mark for each slot: 0 not met, 1 met, 2 expanded
pub record State : Type 0 where
  pub list : List Candidate
  pub marks : List ℕ

-- the list from its least unexpanded candidate on
unfoldable pub unexpanded : List ℕ → List Candidate → List Candidate
unexpanded marks [] = []
unexpanded marks (c ∷ cs) = let rest = unexpanded marks cs in cond (eqb (get_or marks c.id 0) 2) rest (c ∷ cs)

-- the distance of the list's worst, which is its last
abbrev pub worst : List Candidate → ℕ
worst list = (last (record { dist = 0; id = 0 }) list).dist

-- a candidate enters where there is room, or where it is nearer than the worst, which leaves
unfoldable pub enter : ℕ → List Candidate → Candidate → List Candidate
enter beam list c = cond (ltb (length list) beam) (insert_by before c list) (cond (ltb c.dist (worst list)) (insert_by before c (init list)) list)

-- whether the walk ends before c is expanded: the list is full, and c is not nearer than the worst
unfoldable pub ends : ℕ → List Candidate → Candidate → Bool
ends beam list c = leb beam (length list) && leb (worst list) c.dist

module _ (beam : ℕ) (dist : ℕ → ℕ) (neighbors : ℕ → List ℕ) where
  -- a neighbour is met: once
  unfoldable pub meet : State → ℕ → State
  meet st s =
      cond (eqb (get_or st.marks s 0) 0) (record { list = enter beam st.list (record { dist = dist s; id = s }); marks = set st.marks s 1 }) st

  unfoldable pub expand : State → Candidate → State
  expand st c = foldl meet (record { list = st.list; marks = set st.marks c.id 2 }) (neighbors c.id)

  -- one turn, given the list from its least unexpanded candidate on; once the walk has ended nothing changes
  unfoldable pub turn : State → List Candidate → State
  turn st [] = st
  turn st (c ∷ cs) = cond (ends beam st.list c) st (expand st c)

  unfoldable pub turns : ℕ → State → State
  turns zero st = st
  turns (suc n) st = turns n (turn st (unexpanded st.marks st.list))

-- `graph_search`. A turn expands a slot that was not expanded, so that capacity many are enough (`turns_enough`).
unfoldable pub graph_search : ℕ → ℕ → ℕ → (ℕ → ℕ) → (ℕ → List ℕ) → List Candidate
graph_search capacity start beam dist neighbors =
    (turns (max 1 beam) dist neighbors capacity
    (record { list = record { dist = dist start; id = start } ∷ []; marks = set (replicate capacity 0) start 1 })).list

-- `search_pool`
unfoldable pub search_pool : View → List ℕ → ℕ → List Candidate
search_pool v query beam =
    cond (v.live v.entry) (graph_search v.sizes.capacity v.entry beam (query_distance v.space query) (live_neighbors v)) []
