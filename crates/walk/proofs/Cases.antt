-- Small walks, computed. Assumes nothing.
use Prim.Native.Nat.{ℕ, ◌+◌, ◌-◌, ◌*◌}
use mathlib.Core.Path.{◌≡◌, refl}
use mathlib.Core.List.{List, [], ◌∷◌}
use lib.ListN.{length, get_or}
use Rattle.candidates.specs.Candidates.{Candidate}
use Rattle.walk.specs.Walk.{unexpanded, enter, ends, meet, expand, turn, turns, graph_search}
use Rattle.walk.specs.GreedySearch.{Rules, join, visit, unvisited, greedy_search, paper, too_far, amended}
use Rattle.walk.specs.GreedySearch as GreedySearch

-- a candidate: its distance and its slot
abbrev at : ℕ → ℕ → Candidate
at d s = record { dist = d; id = s }

-- the walk over slots with these distances and these rows
abbrev over : List ℕ → List (List ℕ) → ℕ → ℕ → List Candidate
over ds rows start beam = graph_search (length ds) start beam (λ s. get_or ds s 0) (λ s. get_or rows s [])

abbrev greedy_over : Rules → List ℕ → List (List ℕ) → ℕ → ℕ → List Candidate
greedy_over R ds rows start beam = (greedy_search R (length ds) start beam beam (λ s. get_or ds s 0) (λ s. get_or rows s [])).0

-- the walk from 3 over the values 0, 3 and 10, each a neighbour of the next
abbrev shelf : ℕ → ℕ → List Candidate
shelf query beam =
    graph_search 4 1 beam (λ s. let v = get_or (0 ∷ 3 ∷ 10 ∷ []) s 0 in ((query - v) + (v - query)) * ((query - v) + (v - query)))
    (λ s. get_or ((1 ∷ []) ∷ (0 ∷ 2 ∷ []) ∷ (1 ∷ []) ∷ []) s [])

two_nearest : shelf 2 2 ≡ at 1 1 ∷ at 4 0 ∷ []
unfolding graph_search turns turn expand meet enter ends unexpanded
two_nearest = refl

-- a list of one is full: the start is not expanded
start_alone : shelf 0 1 ≡ at 9 1 ∷ []
unfolding graph_search turns turn expand meet enter ends unexpanded
start_alone = refl

-- beam 0 acts as 1
beam_zero : shelf 0 0 ≡ at 9 1 ∷ []
unfolding graph_search turns turn expand meet enter ends unexpanded
beam_zero = refl

-- the list is full, and slot 1 is as far as the worst: neither 1 nor 2 is expanded, and 3, which is nearest, is not found
not_expanded : over (1 ∷ 4 ∷ 4 ∷ 0 ∷ []) ((1 ∷ 2 ∷ []) ∷ (3 ∷ []) ∷ []) 0 3 ≡ at 1 0 ∷ at 4 1 ∷ at 4 2 ∷ []
unfolding graph_search turns turn expand meet enter ends unexpanded
not_expanded = refl

-- so it is with our amendments, and with the paper's rules it is found
not_visited : greedy_over amended (1 ∷ 4 ∷ 4 ∷ 0 ∷ []) ((1 ∷ 2 ∷ []) ∷ (3 ∷ []) ∷ []) 0 3 ≡ at 1 0 ∷ at 4 1 ∷ at 4 2 ∷ []
unfolding greedy_search GreedySearch.turns GreedySearch.turn unvisited visit join amended too_far
not_visited = refl

visited_in_paper : greedy_over paper (1 ∷ 4 ∷ 4 ∷ 0 ∷ []) ((1 ∷ 2 ∷ []) ∷ (3 ∷ []) ∷ []) 0 3 ≡ at 0 3 ∷ at 1 0 ∷ at 4 1 ∷ []
unfolding greedy_search GreedySearch.turns GreedySearch.turn unvisited visit join paper
visited_in_paper = refl

-- a full list: slot 0, as far as the worst, which is slot 1, does not enter
not_entered : over (5 ∷ 5 ∷ 1 ∷ []) ([] ∷ [] ∷ (1 ∷ 0 ∷ []) ∷ []) 2 2 ≡ at 1 2 ∷ at 5 1 ∷ []
unfolding graph_search turns turn expand meet enter ends unexpanded
not_entered = refl

not_joined : greedy_over amended (5 ∷ 5 ∷ 1 ∷ []) ([] ∷ [] ∷ (1 ∷ 0 ∷ []) ∷ []) 2 2 ≡ at 1 2 ∷ at 5 1 ∷ []
unfolding greedy_search GreedySearch.turns GreedySearch.turn unvisited visit join amended too_far
not_joined = refl

-- where there is room it does; of equal distances the lower slot comes first, whichever was met first
lower_last : over (5 ∷ 5 ∷ 1 ∷ []) ([] ∷ [] ∷ (1 ∷ 0 ∷ []) ∷ []) 2 3 ≡ at 1 2 ∷ at 5 0 ∷ at 5 1 ∷ []
unfolding graph_search turns turn expand meet enter ends unexpanded
lower_last = refl

lower_first : over (5 ∷ 5 ∷ 1 ∷ []) ([] ∷ [] ∷ (0 ∷ 1 ∷ []) ∷ []) 2 3 ≡ at 1 2 ∷ at 5 0 ∷ at 5 1 ∷ []
unfolding graph_search turns turn expand meet enter ends unexpanded
lower_first = refl

-- slot 1 is met twice
met_twice : over (1 ∷ 2 ∷ []) ((1 ∷ 1 ∷ []) ∷ []) 0 3 ≡ at 1 0 ∷ at 2 1 ∷ []
unfolding graph_search turns turn expand meet enter ends unexpanded
met_twice = refl

considered_twice : greedy_over amended (1 ∷ 2 ∷ []) ((1 ∷ 1 ∷ []) ∷ []) 0 3 ≡ at 1 0 ∷ at 2 1 ∷ []
unfolding greedy_search GreedySearch.turns GreedySearch.turn unvisited visit join amended too_far
considered_twice = refl

-- a full list: slot 2 enters, and slot 1 leaves
leaves : over (3 ∷ 5 ∷ 4 ∷ []) ((1 ∷ 2 ∷ []) ∷ []) 0 2 ≡ at 3 0 ∷ at 4 2 ∷ []
unfolding graph_search turns turn expand meet enter ends unexpanded
leaves = refl

-- the list has room: once the start is expanded, slot 1 is, though it is farther
expanded_once : over (1 ∷ 4 ∷ 2 ∷ []) ((1 ∷ []) ∷ (2 ∷ []) ∷ []) 0 3 ≡ at 1 0 ∷ at 2 2 ∷ at 4 1 ∷ []
unfolding graph_search turns turn expand meet enter ends unexpanded
expanded_once = refl
