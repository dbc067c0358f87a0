-- Demand 2 where the library uses it: the proof of `Demand2`. Assumes nothing.
use Prim.Native.Nat.{ℕ, zero, suc, ◌+◌, ◌-◌, ◌*◌, max, ◌≤◌, ◌<◌}
use mathlib.Core.Bool.{Bool, true, false, not, ◌&&◌, cond}
use mathlib.Core.Path.{◌≡◌, refl, sym, ap, ◌∙◌}
use mathlib.Core.List.{List, [], ◌∷◌, ◌++◌, map}
use native.Mathlib.Omega.{arith}
use borrow.Author.Tests.{leb-true, ltb-true, eq-eqb}
use lib.ListN.{length, take, drop, replicate, length-take}
use lib.Seq.{take_all, take-nil}
use lib.Dec.{eqb, ltb, leb}
use Rattle.std.proofs.lemmas.Bool.{and_parts}
use Rattle.lists.specs.Lists.{All, filter, elem, foldl, sum}
use Rattle.lists.proofs.All.{by_cases, all_of, all_map, all_append, all_take, all_drop, all_filter, filter_test, foldl_keeps}
use Rattle.vectors.specs.Distance.{distance}
use Rattle.vectors.specs.Weights.{Weighing}
use Rattle.vectors.specs.Space.{slot_distance, query_distance}
use Rattle.vectors.proofs.Distances.{weighted_self, weighted_sym, weighted_small}
use Rattle.candidates.specs.Candidates.{Candidate, scored, ids}
use Rattle.slots.specs.Sizes.{Sizes, exact, limits, within, sizes_ok, alpha_ok, weights_ok, lengths_of, lengths_ok}
use Rattle.slots.specs.View.{View, live_neighbors}
use Rattle.slots.specs.Store.{Arrays, Shaped, Store, vector_of, store_view, write_neighbors, write_vector, set_mark, next_version, with_arrays, at_slot, store_ops, new_arrays}
use Rattle.slots.proofs.Changes.{shaped_marked, shaped_stepped, shaped_vector}
use Rattle.slots.proofs.Places.{live_inside}
use Rattle.slots.proofs.Weights.{weights_weigh}
use Rattle.slots.proofs.Written.{shaped_written}
use Rattle.walk.specs.Walk.{graph_search, search_pool}
use Rattle.walk.proofs.Ordered.{graph_search_inside, search_pool_found}
use Rattle.walk.proofs.Greedy.{graph_search_greedy, search_pool_greedy}
use Rattle.prune.specs.Prune.{prune}
use Rattle.prune.proofs.Thresholds.{Accepted, accepted}
use Rattle.prune.proofs.Robust.{prune_scored_robust}
use Rattle.prune.proofs.Chosen.{chosen}
use Rattle.insert.specs.Insert.{Filling, plan, incoming, target_row}
use Rattle.repair.specs.Repair.{insert_and_prune, repaired_row}
use Rattle.guard.specs.Guard.{virtual_search_pool}
use Rattle.calls.specs.State.{State, view_of, made, with_graph, stored}
use Rattle.calls.specs.Runs.{slices_of}
use Rattle.numbers.proofs.Kept.{summary_long}
use Rattle.calls.specs.Instances.{AllBytes, Passes, Made, Kept, greedy, robust, nearest, Searched, Tried, Planned, TargetRow, RepairedRow, Demand2}
use Rattle.calls.proofs.Tests.{passed_lengths, weights_given}
use Rattle.calls.proofs.History.{made_both}

-- ---- what the algorithms ask of a view

pub record Fit (v : View) : Type 0 where
  inside : (s : ℕ) → v.live s ≡ true → s < v.sizes.capacity
  degree : 1 ≤ v.sizes.degree
  alpha : Accepted v.sizes.alpha
  own : (s : ℕ) → slot_distance v.space s s ≡ 0
  small : (s t : ℕ) → slot_distance v.space s t < 16777216
  query_small : (query : List ℕ) → AllBytes query → (s : ℕ) → query_distance v.space query s < 16777216

abbrev Small : List Candidate → Type 0
Small cs = All (λ c. c.dist < 16777216) cs

-- the same distances under another slot
renamed_small : (id : ℕ) (cs : List Candidate) → Small cs → Small (map (λ c. record { dist = c.dist; id = id }) cs)
renamed_small id [] h = tt
renamed_small id (c ∷ cs) h = (h.0, renamed_small id cs h.1)

scored_small : (d : ℕ → ℕ) → ((t : ℕ) → d t < 16777216) → (ts : List ℕ) → Small (scored d ts)
scored_small d h [] = tt
scored_small d h (t ∷ ts) = (h t, scored_small d h ts)

module _ (v : View) (fit : Fit v) where
  -- the whole list of a walk
  whole : (start beam k : ℕ) (query : List ℕ) (N : ℕ → List ℕ) → start < v.sizes.capacity → ((s : ℕ) → All (λ t. t < v.sizes.capacity) (N s)) → max 1 beam ≤ k
      → graph_search v.sizes.capacity start beam (query_distance v.space query) N ≡ greedy v N start query k beam
  whole start beam k query N h near l =
      let d = query_distance v.space query in
      let found = graph_search_inside v.sizes.capacity start beam d N h (λ s i. near s) in
      sym (take_all k _ (omega (arith, found.short))) ∙ graph_search_greedy v.sizes.capacity start k beam d N h (λ s i. near s)

  neighbors_inside : (s : ℕ) → All (λ t. t < v.sizes.capacity) (live_neighbors v s)
  neighbors_inside s = all_map _ _ fit.inside (live_neighbors v s) (filter_test v.live (v.refs s))

  pub searched : Searched v
  unfolding search_pool
  searched query k beam = go (v.live v.entry) refl
    where
      go : (b : Bool) → v.live v.entry ≡ b → take k (search_pool v query beam) ≡ cond b (greedy v (live_neighbors v) v.entry query k beam) []
      go true e = search_pool_greedy v fit.inside query k beam e
      go false e = rw e (take-nil k)

  -- the whole pool
  pool_whole : (query : List ℕ) (beam k : ℕ) → max 1 beam ≤ k → search_pool v query beam ≡ nearest v query k beam
  pool_whole query beam k l =
      let found = search_pool_found v query beam fit.inside in
      sym (take_all k _ (omega (arith, found.short))) ∙ searched query k beam

  pool_small : (query : List ℕ) (beam : ℕ) → AllBytes query → Small (search_pool v query beam)
  pool_small query beam h =
      let found = search_pool_found v query beam fit.inside in
      all_map _ _ (λ c e. rw e (fit.query_small query h c.id)) (search_pool v query beam) found.dists

  pub tried : Tried v
  unfolding virtual_search_pool
  tried deleted query beam entry = go (v.live entry) (elem entry deleted) refl
    where
      N : ℕ → List ℕ
      N s = filter (λ t. not (elem t deleted)) (live_neighbors v s)

      go : (b c : Bool) → v.live entry ≡ b → cond (b && not c) (graph_search v.sizes.capacity entry beam (query_distance v.space query) N) []
          ≡ cond (b && not c) (greedy v N entry query (max 1 beam) beam) []
      go true true e = refl
      go true false e =
          whole entry beam (max 1 beam) query N (fit.inside entry e) (λ s. all_filter _ (λ t. not (elem t deleted)) (live_neighbors v s) (neighbors_inside s)) (omega arith)
      go false c e = refl

  -- ---- selections

  pruned : (source : ℕ) (cs : List Candidate) → Small cs → prune v source cs ≡ robust v source cs
  pruned source cs h =
      prune_scored_robust v.sizes.degree v.sizes.alpha v.live (slot_distance v.space) source cs fit.alpha fit.own fit.small h

  neighbors_small : (s : ℕ) (ts : List ℕ) → Small (scored (slot_distance v.space s) ts)
  neighbors_small s ts = scored_small (slot_distance v.space s) (fit.small s) ts

  pub planned : Planned v
  unfolding plan
  planned beam f h =
      let L = max beam v.sizes.degree in
      pruned f.slot (search_pool v f.vector L) (pool_small f.vector L h)
      ∙ ap (robust v f.slot) (pool_whole f.vector L L (omega (arith, fit.degree)))

  outgoing_small : (beam : ℕ) (f : Filling) → AllBytes f.vector → Small (plan v beam f).outgoing
  unfolding plan
  outgoing_small beam f h =
      let L = max beam v.sizes.degree in
      chosen v.sizes.degree v.sizes.alpha v.live (slot_distance v.space) f.slot (search_pool v f.vector L) _ (pool_small f.vector L h)

  incoming_small : (beam : ℕ) (chunk : List Filling) → All (λ f. AllBytes f.vector) chunk → (t : ℕ) → Small (incoming (map (plan v beam) chunk) t)
  unfolding incoming
  incoming_small beam [] h t = tt
  incoming_small beam (f ∷ fs) h t =
      let here = filter (λ c. eqb c.id t) (plan v beam f).outgoing in
      all_append (λ c. c.dist < 16777216) (map (λ c. record { dist = c.dist; id = (plan v beam f).id }) here) (incoming (map (plan v beam) fs) t)
      (renamed_small (plan v beam f).id here (all_filter _ (λ c. eqb c.id t) (plan v beam f).outgoing (outgoing_small beam f h.0))) (incoming_small beam fs h.1 t)

  pub target_pruned : TargetRow v
  unfolding target_row
  target_pruned beam chunk h t =
      ap ids (pruned t _ (all_append _ (scored (slot_distance v.space t) (live_neighbors v t)) (incoming (map (plan v beam) chunk) t) (neighbors_small t (live_neighbors v t)) (incoming_small beam chunk h t)))

  -- a row takes a target and is pruned
  takes : ℕ → List ℕ → ℕ → List ℕ
  takes source row t = ids (robust v source (scored (slot_distance v.space source) (cond (elem t row) row (row ++ (t ∷ [])))))

  taken : (source : ℕ) (row : List ℕ) (t : ℕ) → insert_and_prune v source row t ≡ takes source row t
  unfolding insert_and_prune takes
  taken source row t = ap ids (pruned source _ (neighbors_small source (cond (elem t row) row (row ++ (t ∷ [])))))

  all_taken : (source : ℕ) (ts row : List ℕ) → foldl (insert_and_prune v source) row ts ≡ foldl (takes source) row ts
  all_taken source [] row = refl
  all_taken source (t ∷ ts) row = ap (λ (r : List ℕ). foldl (insert_and_prune v source) r ts) (taken source row t) ∙ all_taken source ts (takes source row t)

  pub repaired : RepairedRow v
  unfolding repaired_row takes
  repaired ls source = all_taken source (map (λ l. l.target) (filter (λ l. eqb l.source source) ls)) (live_neighbors v source)

-- ---- a stored index that passes

degree_within : (z : Sizes) → sizes_ok limits z ≡ true → 1 ≤ z.degree
unfolding sizes_ok
degree_within z e =
    let a = and_parts (within 1 limits.dim z.dim && within 1 limits.capacity z.capacity) (within 1 limits.degree z.degree) e in
    leb-true 1 z.degree (and_parts (leb 1 z.degree) (leb z.degree limits.degree) a.1).0

-- two vectors of bytes of which one is no longer than the weights
below : (ws a b : List ℕ) → sum ws ≤ 256 → AllBytes a → AllBytes b → length a ≤ length ws → distance ws a b < 16777216
below ws a b s h k l = omega (arith, weighted_small ws a b l h k)

-- what `Passes` says of the graph
record Good (ws : List ℕ) (n : ℕ) (b : Store) : Type 0 where
  capacity : b.capacity ≡ n
  weighing : Weighing ws
  weights_long : length ws ≡ b.arrays.dim
  measure : b.arrays.measure ≡ distance ws
  sizes_right : sizes_ok limits (store_view b).sizes ≡ true
  alpha_right : alpha_ok b.alpha ≡ true
  shaped : Shaped b.capacity b.arrays
  bytes : AllBytes b.arrays.vectors

module _ (w : State Store) where
  lengths_pass : Passes w → lengths_of (slices_of w) ≡ exact limits (view_of stored w).sizes
  lengths_pass p = passed_lengths (view_of stored w).sizes (lengths_of (slices_of w)) p.lengths

  pool_long : Passes w → length w.pool ≡ limits.pool
  unfolding slices_of
  pool_long p = ap (λ n. n.pool) (lengths_pass p)

  passes_good : Passes w → Good w.weights w.graph.capacity w.graph
  unfolding stored store_ops store_view slices_of
  passes_good p =
      let e = lengths_pass p in
      record {
        capacity = refl;
        weighing = weights_weigh w.weights p.weights;
        weights_long = ap (λ n. n.weights) e;
        measure = p.measure;
        sizes_right = p.sizes;
        alpha_right = p.alpha;
        shaped = record {
          vectors_long = ap (λ n. n.vectors) e;
          targets_long = ap (λ n. n.targets) e;
          edges_long = ap (λ n. n.edges) e;
          versions_long = ap (λ n. n.versions) e;
          marks_long = ap (λ n. n.marks) e;
        };
        bytes = p.bytes;
      }

  good_passes : length w.pool ≡ limits.pool → (n : ℕ) → length w.numbers ≡ n → length w.summary ≡ w.graph.capacity → weights_ok limits w.weights ≡ true → Good w.weights n w.graph → Passes w
  unfolding stored store_ops store_view slices_of lengths_ok
  good_passes l n k y q g =
      let f = g.shaped in
      record {
        sizes = g.sizes_right;
        alpha = g.alpha_right;
        lengths = rw (eq-eqb _ _ f.vectors_long, eq-eqb _ _ f.targets_long, eq-eqb _ _ f.edges_long, eq-eqb _ _ f.versions_long, eq-eqb _ _ f.marks_long, eq-eqb _ _ l, eq-eqb _ _ (k ∙ sym g.capacity), eq-eqb _ _ y, eq-eqb _ _ g.weights_long);
        weights = q;
        measure = g.measure;
        bytes = g.bytes;
      }

module _ (ws : List ℕ) (n : ℕ) (b : Store) (g : Good ws n b) where
  abbrev arrays : Arrays
  arrays = b.arrays

  degree_one : 1 ≤ arrays.degree
  unfolding store_view
  degree_one = degree_within (store_view b).sizes g.sizes_right

  vector_bytes : (s : ℕ) → AllBytes (vector_of arrays s)
  unfolding vector_of
  vector_bytes s = all_take _ arrays.dim (drop (s * arrays.dim) arrays.vectors) (all_drop _ (s * arrays.dim) arrays.vectors g.bytes)

  vector_short : (s : ℕ) → length (vector_of arrays s) ≤ length ws
  unfolding vector_of
  vector_short s = rw length-take (omega (arith, g.weights_long))

  good_fit : Fit (store_view b)
  unfolding store_view slot_distance query_distance vector_of
  good_fit =
      record {
        inside = λ s e. omega (arith, live_inside arrays.marks s e, g.shaped.marks_long);
        degree = degree_one;
        alpha = accepted b.alpha (rw g.alpha_right tt);
        own = λ s. rw g.measure (weighted_self ws (vector_of arrays s));
        small = λ s t. rw g.measure (below ws (vector_of arrays s) (vector_of arrays t) g.weighing.few (vector_bytes s) (vector_bytes t) (vector_short s));
        query_small = λ query h s. rw (g.measure, weighted_sym ws query (vector_of arrays s)) (below ws (vector_of arrays s) query g.weighing.few (vector_bytes s) h (vector_short s));
      }

  -- other arrays
  changed : (a : Arrays) → a.measure ≡ arrays.measure → a.dim ≡ arrays.dim → a.degree ≡ arrays.degree → Shaped b.capacity a → AllBytes a.vectors → Good ws n (with_arrays b a)
  unfolding store_view
  changed a m d e f h =
      record {
        capacity = g.capacity;
        weighing = g.weighing;
        weights_long = g.weights_long ∙ sym d;
        measure = m ∙ g.measure;
        sizes_right = ap (sizes_ok limits) (λ i. record { dim = d i; capacity = b.capacity; degree = e i; alpha = b.alpha }) ∙ g.sizes_right;
        alpha_right = g.alpha_right;
        shaped = f;
        bytes = h;
      }

  -- at a slot inside; at one outside nothing changes
  at_good : (s : ℕ) (a : Arrays) → (s < b.capacity → Good ws n (with_arrays b a)) → Good ws n (at_slot b s a)
  at_good s a f = by_cases (Good ws n) (ltb s b.capacity) (λ e. f (ltb-true s b.capacity e)) (λ e. g)

  good_fill : (s : ℕ) (vector : List ℕ) → length vector ≡ arrays.dim → AllBytes vector → Good ws n (store_ops.fill b s vector)
  unfolding store_ops write_vector write_neighbors set_mark
  good_fill s vector l k = at_good s _ (λ h. changed _ refl refl refl
      (shaped_marked _ _ (shaped_written _ _ (shaped_vector _ _ g.shaped s h vector l) s h []) s 1)
      (all_append _ (take (s * arrays.dim) arrays.vectors) (vector ++ drop (s * arrays.dim + arrays.dim) arrays.vectors) (all_take _ (s * arrays.dim) arrays.vectors g.bytes)
      (all_append _ vector (drop (s * arrays.dim + arrays.dim) arrays.vectors) k (all_drop _ (s * arrays.dim + arrays.dim) arrays.vectors g.bytes))))

  good_write : (s : ℕ) (ids : List ℕ) → Good ws n (store_ops.write b s ids)
  unfolding store_ops write_neighbors
  good_write s ids = at_good s _ (λ h. changed _ refl refl refl (shaped_written _ _ g.shaped s h ids) g.bytes)

  good_kill : (s : ℕ) → Good ws n (store_ops.kill b s)
  unfolding store_ops set_mark
  good_kill s = at_good s _ (λ h. changed _ refl refl refl (shaped_marked _ _ g.shaped s 0) g.bytes)

  good_enter : (e : ℕ) → Good ws n (store_ops.enter b e)
  unfolding store_ops store_view
  good_enter e = record {
    capacity = g.capacity;
    weighing = g.weighing;
    weights_long = g.weights_long;
    measure = g.measure;
    sizes_right = g.sizes_right;
    alpha_right = g.alpha_right;
    shaped = g.shaped;
    bytes = g.bytes;
  }

  good_finish : (s : ℕ) → Good ws n (store_ops.finish b s)
  unfolding store_ops next_version write_neighbors
  good_finish s = at_good s _ (λ h. changed _ refl refl refl (shaped_written _ _ (shaped_stepped _ _ g.shaped s) s h []) g.bytes)

fill_dim : (b : Store) (s : ℕ) (vector : List ℕ) → (store_ops.fill b s vector).arrays.dim ≡ b.arrays.dim
unfolding store_ops write_vector write_neighbors set_mark
fill_dim b s vector = by_cases (λ (x : Store). x.arrays.dim ≡ b.arrays.dim) (ltb s b.capacity) (λ e. refl) (λ e. refl)

pub passes_kept : (w : State Store) → Passes w → Kept w
unfolding with_graph stored store_ops store_view slices_of
passes_kept w p =
    let b = w.graph in
    let g = passes_good w p in
    let n = b.capacity in
    let ws = w.weights in
    let back : (x : Store) → Good ws n x → Passes (with_graph stored w x w.numbers) =
    λ x. good_passes (with_graph stored w x w.numbers) (pool_long w p) n (ap (λ l. l.numbers) (lengths_pass w p)) (summary_long _ _ _) p.weights in
    record {
      filled = λ chunk h. back _
          (foldl_keeps (λ f. (length f.vector ≡ b.arrays.dim) × AllBytes f.vector) (λ x. Good ws n x × (x.arrays.dim ≡ b.arrays.dim)) (λ x f. store_ops.fill x f.slot f.vector)
          (λ x f k i. (good_fill ws n x i.0 f.slot f.vector (k.0 ∙ sym i.1) k.1, fill_dim x f.slot f.vector ∙ i.1)) chunk h b (g, refl)).0;
      written = λ rows. back _ (every (λ x row. store_ops.write x row.source row.targets) (λ x i row. good_write ws n x i row.source row.targets) rows b g);
      emptied = λ slots. back _ (every store_ops.kill (good_kill ws n) slots b g);
      entered = λ entry. back _ (good_enter ws n b g entry);
      finished = λ slots. back _ (every store_ops.finish (good_finish ws n) slots b g);
    }
  where
    every : {A : Type 0} {ws : List ℕ} {n : ℕ} (f : Store → A → Store) → ((x : Store) → Good ws n x → (a : A) → Good ws n (f x a)) → (xs : List A) (b : Store) → Good ws n b → Good ws n (foldl f b xs)
    every {A} {ws} {n} f k xs b g = foldl_keeps (λ (a : A). Unit {0}) (Good ws n) f (λ x a u i. k x i a) xs (all_of (λ (a : A). Unit {0}) (λ a. tt) xs) b g

pub made_passes : Made
unfolding made stored new_arrays
made_passes lent m e h =
    let same = (made_both lent m e).same in
    let sound = same.agree.sound in
    good_passes (made stored m) same.pool_long m.sizes.capacity same.numbers_long same.summary_long (weights_given lent m e).1
    (record {
      capacity = refl;
      weighing = weights_weigh m.weights (weights_given lent m e).1;
      weights_long = (weights_given lent m e).0;
      measure = refl;
      sizes_right = sound.sizes_right;
      alpha_right = sound.alpha_right;
      shaped = sound.shaped;
      bytes = all_append _ m.bytes (replicate ((m.sizes.capacity - m.count) * m.sizes.dim) 0) h (zeros ((m.sizes.capacity - m.count) * m.sizes.dim));
    })
  where
    zeros : (n : ℕ) → AllBytes (replicate n 0)
    zeros zero = tt
    zeros (suc n) = (omega arith, zeros n)

pub passes_fit : (w : State Store) → Passes w → Fit (view_of stored w)
unfolding stored store_ops
passes_fit w p = good_fit _ _ w.graph (passes_good w p)

-- ---- demand 2

-- `search_pool` is GreedySearch
pub search_pool_is_greedy : (w : State Store) → Passes w → Searched (view_of stored w)
search_pool_is_greedy w p = searched (view_of stored w) (passes_fit w p)

-- and so is the guard's trial walk
pub trial_walk_is_greedy : (w : State Store) → Passes w → Tried (view_of stored w)
trial_walk_is_greedy w p = tried (view_of stored w) (passes_fit w p)

-- insert's plan is RobustPrune of what GreedySearch finds
pub plan_is_robust : (w : State Store) → Passes w → Planned (view_of stored w)
plan_is_robust w p = planned (view_of stored w) (passes_fit w p)

-- and so is the row of a target, of its references and those that come in
pub target_row_is_robust : (w : State Store) → Passes w → TargetRow (view_of stored w)
target_row_is_robust w p = target_pruned (view_of stored w) (passes_fit w p)

-- and a repaired row, of itself and a link's target, link by link
pub repaired_row_is_robust : (w : State Store) → Passes w → RepairedRow (view_of stored w)
repaired_row_is_robust w p = repaired (view_of stored w) (passes_fit w p)

pub demand_2 : Demand2
demand_2 = record {
  makes = made_passes;
  keeps = passes_kept;
  searches = search_pool_is_greedy;
  tries = trial_walk_is_greedy;
  plans = plan_is_robust;
  target_rows = target_row_is_robust;
  repaired_rows = repaired_row_is_robust;
}
