-- Links applied to the stored rows, one source after the other: what the functions ask, and what they leave. Assumes nothing.
use Rattle.std.specs.Prelude.{ℕ, ◌+◌, ◌*◌, ◌≤◌, ◌<◌, cond, List, [], ◌∷◌, ◌++◌, ◌≡◌, Float, eqb, length}
use Rattle.lists.specs.Lists.{All, elem, filter, foldl, concat_map}
use Rattle.vectors.specs.declared.Space as lent
use Rattle.vectors.specs.Lent.{measure_of}
use Rattle.vectors.specs.Space.{Measure, slot_distance, space}
use Rattle.candidates.specs.Candidates.{ids}
use Rattle.candidates.specs.Inner.Words.{pair, cands, Outside}
use Rattle.slots.specs.View.{live_neighbors}
use Rattle.slots.specs.Store.{Arrays, Store, store_view, store_ops}
use Rattle.slots.specs.Lent.{rows_mut_of}
use Rattle.slots.specs.declared.graph.RowsMut.{RowsMut}
use Rattle.row.specs.Row.{index_of}
use Rattle.row.specs.Lent.{held, SamePruner}
use Rattle.row.specs.declared.pruner.Pruner.{Pruner}
use Rattle.repair.specs.Repair.{Link, insert_and_prune}
use Rattle.repair.proofs.Sources.{both_ways}
use Rattle.links.specs.declared.span.Pair.{Pair}

-- rows that are written, beside vectors and marks, as lists
abbrev pub arrays_of : lent.Space → RowsMut → List ℕ → Arrays
arrays_of p r marks = rows_mut_of (measure_of p.weights) p.dim p.vectors.now r marks

-- the distance of two slots of lent bytes
abbrev pub between : Measure → ℕ → List ℕ → ℕ → ℕ → ℕ
between measure dim vectors = slot_distance (space measure dim vectors)

-- the row of a link's source takes the target, as the index stands, and is written at once
unfoldable pub apply_link : Store → Link → Store
apply_link b l =
    let v = store_view b in
    store_ops.write b l.source (insert_and_prune v l.source (live_neighbors v l.source) l.target)

abbrev pub link : ℕ → ℕ → Link
link s t = record { source = s; target = t }

-- x and each of the n candidates at `to`
abbrev pub links_at : ℕ → List ℕ → ℕ → ℕ → List Link
links_at x w to n = concat_map (both_ways x) (ids (cands w to n))

-- the links of pairs
abbrev pub pairs_of : List Pair → List Link
pairs_of ps = concat_map (λ p. both_ways p.slot p.parent) ps

-- those whose source is s
abbrev pub from : ℕ → List Link → List Link
from s ls = filter (λ l. eqb l.source s) ls

-- those of each source of ss in turn
abbrev pub from_each : List Link → List ℕ → List Link
from_each ls ss = concat_map (λ s. from s ls) ss

-- they are applied
abbrev pub by_source : List Link → Store → ℕ → Store
by_source ls b s = foldl apply_link b (from s ls)

-- ---- what is asked
-- how many words a link needs: the candidates of a row, one more, and a selection
abbrev pub link_words : ℕ → ℕ
link_words degree = 4 * degree + 2

-- pairs of slots inside
abbrev pub Pairs : ℕ → List Pair → Type 0
Pairs slots ps = All (λ p. (p.slot < slots) × (p.parent < slots)) ps

-- ---- what is left
-- the first n candidates of w with the target t, at its distance to s, where none of them has it
pub record Joined (measure : Measure) (dim : ℕ) (vectors : List ℕ) (s t : ℕ) (w : List ℕ) (n r : ℕ) (w' : List ℕ) : Type 0 where
  pub list : cands w' 0 r ≡ cond (elem t (ids (cands w 0 n))) (cands w 0 n) (cands w 0 n ++ (pair (between measure dim vectors s t) t ∷ []))
  pub few : r ≤ n + 1
  pub near : between measure dim vectors s t ≤ 16777216

-- links are applied by a pruner
pub record Linked {n : ℕ} (p : Pruner n) (ls : List Link) (p' : Pruner n) : Type 0 where
  pub does : (entry : ℕ) → index_of p.alpha entry (held p') ≡ foldl apply_link (index_of p.alpha entry (held p)) ls
  pub same : SamePruner p p'

-- links are applied to the arrays a, which have come to a'; of the words only k from `at` on may change
pub record Applied (alpha : Float) (a : Arrays) (ls : List Link) (a' : Arrays) (w : List ℕ) (at k : ℕ) (w' : List ℕ) : Type 0 where
  pub does : (entry : ℕ) → index_of alpha entry a' ≡ foldl apply_link (index_of alpha entry a) ls
  pub size : length w' ≡ length w
  pub same : Outside at k w w'

-- links are applied by a pruner; the words that may change are so many as the degree of its rows asks
pub record Made {n : ℕ} (p : Pruner n) (ls : List Link) (w : List ℕ) (at : ℕ) (words : ℕ → ℕ) (p' : Pruner n) (w' : List ℕ) : Type 0 where
  pub applied : Applied p.alpha (held p) ls (held p') w at (words p.rows.now.degree) w'
  pub same : SamePruner p p'
