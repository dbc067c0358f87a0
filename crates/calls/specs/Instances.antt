-- Demand 2 where the library uses it: on a stored index that passes rows 1, 2, 3 and 16 and whose vectors are bytes, every walk is GreedySearch and every
-- selection RobustPrune, with our amendments (DIFFERENCES, part P). Assumes nothing.
use Rattle.std.specs.Prelude.{ℕ, max, ◌<◌, true, not, cond, List, [], ◌∷◌, ◌++◌, map, ◌≡◌, length, take, eqb}
use Rattle.std.proofs.Math.Option.{none}
use Rattle.lists.specs.Lists.{All, filter, elem, foldl}
use Rattle.vectors.specs.Distance.{distance}
use Rattle.vectors.specs.Space.{slot_distance, query_distance}
use Rattle.candidates.specs.Candidates.{Candidate, scored, ids}
use Rattle.slots.specs.Sizes.{Lengths, limits, sizes_ok, alpha_ok, weights_ok, lengths_of, lengths_ok}
use Rattle.slots.specs.View.{View, live_neighbors}
use Rattle.slots.specs.Ops.{Row, write_rows}
use Rattle.slots.specs.Store.{Store, store_ops}
use Rattle.walk.specs.Walk.{search_pool}
use Rattle.walk.specs.GreedySearch.{greedy_search}
use Rattle.walk.specs.GreedySearch as GreedySearch
use Rattle.prune.specs.RobustPrune.{robust_prune}
use Rattle.prune.specs.RobustPrune as RobustPrune
use Rattle.insert.specs.Insert.{Filling, plan, incoming, target_row}
use Rattle.repair.specs.Repair.{Link, repaired_row}
use Rattle.guard.specs.Guard.{stays, virtual_search_pool}
use Rattle.calls.specs.Calls.{Making}
use Rattle.calls.specs.Refusals.{first_of, making_tests}
use Rattle.calls.specs.State.{State, view_of, made, with_graph, stored}
use Rattle.calls.specs.Runs.{slices_of}

abbrev pub AllBytes : List ℕ → Type 0
AllBytes xs = All (λ x. x < 256) xs

-- a stored index that passes rows 1, 2, 3 and 16 of the table, with the distance that its weights make, and whose vectors are bytes; no more is asked below
pub record Passes (w : State Store) : Type 0 where
  pub sizes : sizes_ok limits (view_of stored w).sizes ≡ true
  pub alpha : alpha_ok (view_of stored w).sizes.alpha ≡ true
  pub lengths : lengths_ok limits (view_of stored w).sizes (lengths_of (slices_of w)) ≡ true
  pub weights : weights_ok limits w.weights ≡ true
  pub measure : w.graph.arrays.measure ≡ distance w.weights
  pub bytes : AllBytes w.graph.arrays.vectors

-- an accepted making of bytes makes such an index
abbrev pub Made : Type 0
Made = (lent : Lengths) (m : Making) → first_of (making_tests limits lent m) ≡ none → AllBytes m.bytes → Passes (made stored m)

-- each step of insert and of delete leads from such an index to such an index: so those between, on which they make their plans, are such
pub record Kept (w : State Store) : Type 0 where
  pub filled : (chunk : List Filling) → All (λ f. (length f.vector ≡ w.graph.arrays.dim) × AllBytes f.vector) chunk
      → Passes (with_graph stored w (foldl (λ b f. store_ops.fill b f.slot f.vector) w.graph chunk) w.numbers)
  pub written : (rows : List Row) → Passes (with_graph stored w (write_rows store_ops w.graph rows) w.numbers)
  pub emptied : (slots : List ℕ) → Passes (with_graph stored w (foldl store_ops.kill w.graph slots) w.numbers)
  pub entered : (entry : ℕ) → Passes (with_graph stored w (store_ops.enter w.graph entry) w.numbers)
  pub finished : (slots : List ℕ) → Passes (with_graph stored w (foldl store_ops.finish w.graph slots) w.numbers)

module _ (v : View) where
  -- GreedySearch(start, query, k, L) over the neighbours N, and RobustPrune(p, C, alpha, degree), with our amendments, on what the view shows
  abbrev pub greedy : (ℕ → List ℕ) → ℕ → List ℕ → ℕ → ℕ → List Candidate
  greedy N start query k L = (greedy_search GreedySearch.amended v.sizes.capacity start k L (query_distance v.space query) N).0

  abbrev pub robust : ℕ → List Candidate → List Candidate
  robust p C = robust_prune (RobustPrune.amended v.live v.sizes.alpha) v.sizes.degree (slot_distance v.space) p C

  -- what a search for k with the list size L gives: from the entry, over the live references; nothing where the entry is dead
  abbrev pub nearest : List ℕ → ℕ → ℕ → List Candidate
  nearest query k L = cond (v.live v.entry) (greedy (live_neighbors v) v.entry query k L) []

  -- `search_pool`, of which a search answers the first k
  abbrev pub Searched : Type 0
  Searched = (query : List ℕ) (k beam : ℕ) → take k (search_pool v query beam) ≡ nearest query k beam

  -- the guard's trial walk, the whole list: from the residual entry, over the live references that are not to be deleted
  abbrev pub Tried : Type 0
  Tried =
      (deleted query : List ℕ) (beam entry : ℕ)
      → virtual_search_pool v deleted query beam entry
      ≡ cond (stays v deleted entry) (greedy (λ s. filter (λ t. not (elem t deleted)) (live_neighbors v s)) entry query (max 1 beam) beam) []

  -- insert's plan: the whole list of a search is pruned
  abbrev pub Planned : Type 0
  Planned =
      (beam : ℕ) (f : Filling) → AllBytes f.vector
      → let L = max beam v.sizes.degree in (plan v beam f).outgoing ≡ robust f.slot (nearest f.vector L L)

  -- insert's row of a target: its live references and those that come in are pruned
  abbrev pub TargetRow : Type 0
  TargetRow =
      (beam : ℕ) (chunk : List Filling) → All (λ f. AllBytes f.vector) chunk → (t : ℕ)
      → let plans = map (plan v beam) chunk in
      (target_row v plans t).targets ≡ ids (robust t (scored (slot_distance v.space t) (live_neighbors v t) ++ incoming plans t))

  -- delete's repaired row: it takes the links' targets one by one, where it has them not, and is pruned each time
  abbrev pub RepairedRow : Type 0
  RepairedRow =
      (ls : List Link) (source : ℕ)
      → (repaired_row v ls source).targets
      ≡ foldl (λ row t. ids (robust source (scored (slot_distance v.space source) (cond (elem t row) row (row ++ (t ∷ []))))))
      (live_neighbors v source) (map (λ l. l.target) (filter (λ l. eqb l.source source) ls))

-- ---- the claim

pub record Demand2 : Type 0 where
  pub makes : Made
  pub keeps : (w : State Store) → Passes w → Kept w
  pub searches : (w : State Store) → Passes w → Searched (view_of stored w)
  pub tries : (w : State Store) → Passes w → Tried (view_of stored w)
  pub plans : (w : State Store) → Passes w → Planned (view_of stored w)
  pub target_rows : (w : State Store) → Passes w → TargetRow (view_of stored w)
  pub repaired_rows : (w : State Store) → Passes w → RepairedRow (view_of stored w)
