-- GreedySearch, Algorithm 1 of the DiskANN paper (NeurIPS 2019), in the paper's terms; each place where the walk departs from it is a field of
-- `Rules`, with a line of its own in docs/DIFFERENCES.md. Assumes nothing.
use Rattle.std.specs.Prelude.{ℕ, zero, suc, max, Bool, false, not, ◌&&◌, cond, List, [], ◌∷◌, ◌++◌, length, take, ltb, leb}
use Rattle.lists.specs.Lists.{filter, elem, foldl, sort_by}
use Rattle.candidates.specs.Candidates.{Candidate, before, nearer, ids}

pub record Rules : Type 0 where
  -- the size of the list, by the L that is asked for
  pub size : ℕ → ℕ
  -- which of two nodes comes before the other
  pub closer : Candidate → Candidate → Bool
  -- whether the search ends before p* is visited: by L, the list and p*
  pub ends : ℕ → List Candidate → Candidate → Bool
  -- whether a neighbour of p* is considered: by the list, all that were considered so far, and the neighbour
  pub considers : List Candidate → List ℕ → ℕ → Bool
  -- the list with a neighbour that joins it: by L
  pub joins : ℕ → List Candidate → Candidate → List Candidate
  -- what stays of the list when all neighbours of p* have joined: by L
  pub stays : ℕ → List Candidate → List Candidate

-- the search list 𝓛, the visited 𝓥, and all nodes that were considered
pub record Search : Type 0 where
  pub list : List Candidate
  pub visited : List ℕ
  pub considered : List ℕ

-- the first of a and a list that no other comes before
abbrev pub nearest : (Candidate → Candidate → Bool) → Candidate → List Candidate → Candidate
nearest closer a [] = a
nearest closer a (c ∷ cs) = nearest closer (cond (closer c a) c a) cs

module _ (R : Rules) (L : ℕ) (d : ℕ → ℕ) (N : ℕ → List ℕ) where
  -- a neighbour joins 𝓛
  unfoldable pub join : Search → ℕ → Search
  join s n =
      cond (R.considers s.list s.considered n)
      (record { list = R.joins L s.list (record { dist = d n; id = n }); visited = s.visited; considered = n ∷ s.considered }) s

  -- N(p*) joins 𝓛 and p* joins 𝓥; then 𝓛 is cut
  unfoldable pub visit : Search → Candidate → Search
  visit s p =
      let s₁ = foldl join (record { list = s.list; visited = p.id ∷ s.visited; considered = s.considered }) (N p.id) in
      record { list = R.stays L s₁.list; visited = s₁.visited; considered = s₁.considered }

  -- one turn, given 𝓛 without 𝓥: p* is its nearest
  unfoldable pub turn : Search → List Candidate → Search
  turn s [] = s
  turn s (c ∷ cs) = let p = nearest R.closer c cs in cond (R.ends L s.list p) s (visit s p)

  unfoldable pub unvisited : Search → List Candidate
  unvisited s = filter (λ c. not (elem c.id s.visited)) s.list

  -- while 𝓛 has a node that is not in 𝓥
  unfoldable pub turns : ℕ → Search → Search
  turns zero s = s
  turns (suc n) s = turns n (turn s (unvisited s))

-- GreedySearch(s, q, k, L): the k nearest of 𝓛, and 𝓥. `n` is the number of nodes, and so enough turns (`greedy_enough`).
unfoldable pub greedy_search : Rules → ℕ → ℕ → ℕ → ℕ → (ℕ → ℕ) → (ℕ → List ℕ) → List Candidate × List ℕ
greedy_search R n s k L d N =
    let end = turns R (R.size L) d N n (record { list = record { dist = d s; id = s } ∷ []; visited = []; considered = s ∷ [] }) in
    (take k (sort_by R.closer end.list), end.visited)

-- the paper's rules: the neighbours that are not in 𝓛 join it, and then its L nearest stay
unfoldable pub paper : Rules
paper = record {
  size = λ L. L;
  closer = nearer;
  ends = λ L list p. false;
  considers = λ list considered n. not (elem n (ids list));
  joins = λ L list c. list ++ (c ∷ []);
  stays = λ L list. cond (ltb L (length list)) (take L (sort_by nearer list)) list;
}

-- the greatest distance in a list; 0 of an empty one
abbrev pub greatest : List Candidate → ℕ
greatest [] = 0
greatest (c ∷ cs) = max c.dist (greatest cs)

-- whether a list has L nodes and c is no nearer than the farthest of them
unfoldable pub too_far : ℕ → List Candidate → Candidate → Bool
too_far L list c = leb L (length list) && leb (greatest list) c.dist

-- ours: DIFFERENCES, P-1 to P-5. A neighbour joins unless it is too far, and then the L nearest stay.
unfoldable pub amended : Rules
amended = record {
  size = max 1;
  closer = before;
  ends = too_far;
  considers = λ list considered n. not (elem n considered);
  joins = λ L list c. cond (too_far L list c) list (take L (sort_by before (list ++ (c ∷ []))));
  stays = λ L list. list;
}
