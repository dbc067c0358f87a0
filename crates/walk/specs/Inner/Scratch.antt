-- The walk in lent words: what its functions ask of the words, and what they leave in them. The regions are those of `slots` (Scratch): the list, and
-- the marks, of which a word has 16. Assumes nothing.
use Rattle.std.specs.Prelude.{ℕ, ◌+◌, ◌-◌, ◌*◌, ◌/◌, ◌%◌, ◌^◌, max, ◌≤◌, ◌<◌, Bool, true, false, not, ◌&&◌, Option, Some, None, List, [], ◌∷◌, map, ◌≡◌, length, take, get_or, set, replicate, eqb, ltb}
use Rattle.lists.specs.Lists.{All, Ordered, Pairwise, filter, elem, foldl, range}
use Rattle.vectors.specs.Space.{query_distance, space}
use Rattle.candidates.specs.Candidates.{Candidate, before, scored}
use Rattle.candidates.specs.Inner.Words.{pair, cand, cands, Small, Outside}
use Rattle.slots.specs.Store.{Arrays, Store, is_valid, refs_of, store_view}
use Rattle.slots.specs.Inner.Rows.{ref_at, live_from}
use Rattle.walk.specs.Walk.{State, enter, ends, graph_search, search_pool}
use Rattle.slots.specs.Scratch.{list_words, marks_at, work_at}
use Rattle.walk.specs.Walk as Walk

-- ---- what the walk sees of the lent slices: the `live_neighbors` of a view (`walk_view`)
unfoldable pub near_of : Arrays → ℕ → List ℕ
near_of a s = filter (is_valid a.marks) (refs_of a s)

-- with the slots of a list left out
unfoldable pub near_but : List ℕ → Arrays → ℕ → List ℕ
near_but ids a s = filter (λ t. not (elem t ids)) (near_of a s)

-- ---- the words
-- two bits of a word: those at place 0 are the lowest; and the word with v there
unfoldable pub field : ℕ → ℕ → ℕ
field place word = word / 2 ^ (2 * place) % 4

unfoldable pub put_field : ℕ → ℕ → ℕ → ℕ
put_field place v word = word - field place word * 2 ^ (2 * place) + v * 2 ^ (2 * place)

-- the word that has the mark of slot s, and the mark
abbrev pub mark_word : ℕ → ℕ
mark_word s = marks_at + s / 16

abbrev pub mark : List ℕ → ℕ → ℕ
mark w s = field (s % 16) (get_or w (mark_word s) 0)

-- the words with the mark v for slot s
abbrev pub put_mark : List ℕ → ℕ → ℕ → List ℕ
put_mark w s v = set w (mark_word s) (put_field (s % 16) v (get_or w (mark_word s) 0))

-- whether slot s is inside and not met
abbrev pub unmet : ℕ → List ℕ → ℕ → Bool
unmet capacity w s = ltb s capacity && eqb (mark w s) 0

-- the marks of all slots
abbrev pub marks_of : ℕ → List ℕ → List ℕ
marks_of capacity w = map (λ s. mark w s) (range 0 capacity)

-- the state of the walk that the words hold: n candidates, and the marks
abbrev pub state_of : ℕ → List ℕ → ℕ → State
state_of capacity w n = record { list = cands w 0 n; marks = marks_of capacity w }

-- slots marked as met
abbrev pub mark_all : List ℕ → List ℕ → List ℕ
mark_all marks ids = foldl (λ m s. set m s 1) marks ids

-- the state when the slots xs have entered too, each at its distance
abbrev pub with_fresh : Arrays → List ℕ → ℕ → List ℕ → ℕ → List ℕ → State
with_fresh a query beam w n xs =
    record { list = foldl (enter beam) (cands w 0 n) (scored (query_distance (space a.measure a.dim a.vectors) query) xs); marks = marks_of (length a.marks) w }

-- what the definition makes of the state in the words: slots are met, the candidate at place i is expanded, and all turns are taken
abbrev pub meets : Arrays → List ℕ → ℕ → State → List ℕ → State
meets a query beam st ts = foldl (Walk.meet beam (query_distance (space a.measure a.dim a.vectors) query) (near_of a)) st ts

abbrev pub expands : Arrays → List ℕ → ℕ → List ℕ → ℕ → ℕ → State
expands a query beam w n i = Walk.expand beam (query_distance (space a.measure a.dim a.vectors) query) (near_of a) (state_of (length a.marks) w n) (cand w (2 * i))

abbrev pub takes_turns : Arrays → List ℕ → ℕ → List ℕ → ℕ → State
takes_turns a query beam w n = Walk.turns beam (query_distance (space a.measure a.dim a.vectors) query) (near_of a) (length a.marks) (state_of (length a.marks) w n)

-- the first state: the start is in the list, and it and the slots to be left out are met
abbrev pub first_state : ℕ → List ℕ → ℕ → ℕ → State
first_state capacity ids d start = record { list = pair d start ∷ []; marks = set (mark_all (replicate capacity 0) ids) start 1 }

-- n candidates in order, which one can enter: a fact of the lent words and of n, both of which change at each turn
pub record Listed (beam : ℕ) (w : List ℕ) (n : ℕ) : Type 0 where
  pub long : list_words ≤ length w
  pub some : 1 ≤ beam
  pub most : beam ≤ 1024
  pub few : n ≤ beam
  pub order : Ordered before (cands w 0 n)
  pub small : Small (cands w 0 n)

-- words with which the walk can go on: each candidate's slot is inside and met, and those of the first `next` are expanded
pub record Walkable (capacity beam : ℕ) (w : List ℕ) (n next : ℕ) : Type 0 where
  pub room : work_at capacity ≤ length w
  pub listed : Listed beam w n
  pub inside : All (λ c. c.id < capacity) (cands w 0 n)
  pub met : All (λ c. mark w c.id ≡ 0 → ⊥) (cands w 0 n)
  pub passed : next ≤ n
  pub done : All (λ c. mark w c.id ≡ 2) (cands w 0 next)

-- n candidates with marks, of which the first `next` are expanded
pub record Scannable (w : List ℕ) (n next : ℕ) : Type 0 where
  pub long : list_words ≤ length w
  pub most : n ≤ 1024
  pub inside : All (λ c. mark_word c.id < length w) (cands w 0 n)
  pub passed : next ≤ n
  pub done : All (λ c. mark w c.id ≡ 2) (cands w 0 next)

-- fresh slots xs: inside and met, in the list of n is none of them, and each is there once
pub record Fresh (capacity : ℕ) (w : List ℕ) (n : ℕ) (xs : List ℕ) : Type 0 where
  pub inside : All (λ s. s < capacity) xs
  pub met : All (λ s. mark w s ≡ 0 → ⊥) xs
  pub apart : All (λ s. All (λ c. c.id ≡ s → ⊥) (cands w 0 n)) xs
  pub once : Pairwise (λ s t. s ≡ t → ⊥) xs

-- ---- what the functions leave
-- the reference at a place of slot s's row, where it is live and leads to a slot that is not met
pub record UnmetAt (a : Arrays) (s place : ℕ) (w : List ℕ) (r : Option ℕ) : Type 0 where
  pub found : (t : ℕ) → r ≡ Some t → (Some t ≡ ref_at a s place) × (mark w t ≡ 0)
  pub none : r ≡ None → (t : ℕ) → Some t ≡ ref_at a s place → mark w t ≡ 0 → ⊥

-- slot id is met, and stands behind n slots of f
pub record Added (id n : ℕ) (w f w' f' : List ℕ) : Type 0 where
  pub marks : w' ≡ put_mark w id 1
  pub list : f' ≡ set f n id

-- of the slots ts those that were not met are the slots xs, and are met; the slots us are still to be met
pub record Gathered (a : Arrays) (query : List ℕ) (beam : ℕ) (w : List ℕ) (n next : ℕ) (ts us w' xs : List ℕ) : Type 0 where
  pub holds : meets a query beam (with_fresh a query beam w' n xs) us ≡ meets a query beam (state_of (length a.marks) w n) ts
  pub goes : Walkable (length a.marks) beam w' n next
  pub fresh : Fresh (length a.marks) w' n xs
  pub same : Outside 0 (work_at (length a.marks)) w w'

-- so it is with the live targets of slot s's row, whatever the query and the list: k of them are in f
pub record Gathers (a : Arrays) (s from to : ℕ) (w w' f : List ℕ) (k : ℕ) : Type 0 where
  pub few : from + k ≤ to
  pub size : length w' ≡ length w
  pub each : (query : List ℕ) (beam n next : ℕ) → Walkable (length a.marks) beam w n next
      → Gathered a query beam w n next (live_from a s from) (live_from a s to) w' (take k f)

-- x enters the n candidates of w: n' are there then; those of the first `next` that are still the first are the first next'
pub record Entered (beam : ℕ) (w : List ℕ) (n next : ℕ) (x : Candidate) (w' : List ℕ) (n' next' : ℕ) : Type 0 where
  pub list : cands w' 0 n' ≡ enter beam (cands w 0 n) x
  pub passed : next' ≤ next
  pub within : next' ≤ n'
  pub front : cands w' 0 next' ≡ cands w 0 next'
  pub size : length w' ≡ length w
  pub same : Outside 0 list_words w w'

-- the first of n candidates whose slot is not expanded is at r; where all are, r is n
pub record Unexpanded (w : List ℕ) (n r : ℕ) : Type 0 where
  pub within : r ≤ n
  pub done : All (λ c. mark w c.id ≡ 2) (cands w 0 r)
  pub stops : r < n → mark w (cand w (2 * r)).id ≡ 2 → ⊥

-- of n candidates the one at r is expanded next; where the walk ends, r is n
pub record Next (beam : ℕ) (w : List ℕ) (n r : ℕ) : Type 0 where
  pub first : ℕ
  pub found : Unexpanded w n first
  pub goes : (r ≡ n → ⊥) → (first ≡ r) × (ends beam (cands w 0 n) (cand w (2 * r)) ≡ false)
  pub over : r ≡ n → (first < n) → ends beam (cands w 0 n) (cand w (2 * first)) ≡ true

-- no slot is met
pub record Cleared (capacity : ℕ) (w w' : List ℕ) : Type 0 where
  pub marks : marks_of capacity w' ≡ replicate capacity 0
  pub size : length w' ≡ length w
  pub same : Outside marks_at capacity w w'

-- some slots are met, too
pub record LeftOut (capacity : ℕ) (ids w w' : List ℕ) : Type 0 where
  pub marks : marks_of capacity w' ≡ mark_all (marks_of capacity w) ids
  pub size : length w' ≡ length w
  pub same : Outside marks_at capacity w w'

-- the walk begins
pub record Begun (capacity : ℕ) (ids : List ℕ) (d start : ℕ) (w w' : List ℕ) : Type 0 where
  pub holds : state_of capacity w' 1 ≡ first_state capacity ids d start
  pub goes : (beam : ℕ) → 1 ≤ beam → beam ≤ 1024 → Walkable capacity beam w' 1 0
  pub size : length w' ≡ length w
  pub same : Outside 0 (work_at capacity) w w'

-- the words w have come to w', which hold the state `to`
pub record Stepped (capacity beam : ℕ) (w : List ℕ) (to : State) (w' : List ℕ) (n next : ℕ) : Type 0 where
  pub holds : state_of capacity w' n ≡ to
  pub goes : Walkable capacity beam w' n next
  pub size : length w' ≡ length w
  pub same : Outside 0 (work_at capacity) w w'

-- ---- the calls
-- what a walk over a graph asks: a fact of the graph, the query and the lent words of one call
pub record Ready (a : Arrays) (query : List ℕ) (start beam : ℕ) (w : List ℕ) : Type 0 where
  pub query_long : length query ≡ a.dim
  pub start_inside : start < length a.marks
  pub beam_most : beam ≤ 1024
  pub room : work_at (length a.marks) ≤ length w

-- what a walk leaves: r candidates, those of `graph_search`; `near` is `near_of`, or `near_but` some slots
pub record Found (a : Arrays) (query : List ℕ) (near : Arrays → ℕ → List ℕ) (start beam : ℕ) (w w' : List ℕ) (r : ℕ) : Type 0 where
  pub list : cands w' 0 r ≡ graph_search (length a.marks) start beam (query_distance (space a.measure a.dim a.vectors) query) (near a)
  pub few : r ≤ max 1 beam
  pub small : Small (cands w' 0 r)
  pub size : length w' ≡ length w
  pub same : Outside 0 (work_at (length a.marks)) w w'

-- `search_pool`
pub record Pool (a : Arrays) (query : List ℕ) (entry beam : ℕ) (w w' : List ℕ) (r : ℕ) : Type 0 where
  pub list : (b : Store) → b.arrays ≡ a → b.capacity ≡ length a.marks → b.entry ≡ entry → cands w' 0 r ≡ search_pool (store_view b) query beam
  pub few : r ≤ max 1 beam
  pub small : Small (cands w' 0 r)
  pub size : length w' ≡ length w
  pub same : Outside 0 (work_at (length a.marks)) w w'
