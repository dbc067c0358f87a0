-- The vectors of dead slots matter to no call: the proof of `DeadBytes`. Assumes nothing.
use Prim.Native.Nat.{ℕ, ◌<◌}
use mathlib.Core.Bool.{Bool, true, false, cond, true≢false}
use mathlib.Core.Option.{Option, none, some}
use mathlib.Core.Path.{◌≡◌, refl, sym, ap, ap₂, ◌∙◌, subst}
use mathlib.Core.List.{List, [], ◌∷◌, ◌++◌, map}
use native.Mathlib.Omega.{arith}
use borrow.Author.Tests.{eqb-true}
use lib.Dec.{eqb, ltb}
use lib.ListN.{length, take, get_or}
use Rattle.lists.specs.Lists.{part, put_part}
use Rattle.lists.proofs.Parts.{length_put, part_put}
use Rattle.slots.specs.Sizes.{Lengths, limits}
use Rattle.slots.specs.View.{View, Alike, with_vectors, live_neighbors, live_slots, free_slots}
use Rattle.slots.specs.Store.{Shaped, Store, blank, is_valid, vector_of, refs_of, store_view, store_ops}
use Rattle.slots.proofs.Live.{some_live, Marking, EntryLaws, MarksFit, store_marking, store_entry_laws}
use Rattle.slots.proofs.New.{agree_new}
use Rattle.slots.proofs.Changes.{vector_fits}
use Rattle.slots.proofs.Alike.{Twins, store_with, StoreTwin, store_twins}
use Rattle.candidates.specs.Candidates.{ids}
use Rattle.vectors.specs.Distance.{distance}
use Rattle.numbers.specs.Numbers.{number_of, write_numbers, live_numbers, summary_of}
use Rattle.walk.proofs.Alike.{search_pool_alike}
use Rattle.insert.specs.Insert.{insert_entering}
use Rattle.insert.proofs.Twins.{twin_insert, inserted_entry}
use Rattle.repair.specs.Delete.{delete_batch}
use Rattle.repair.proofs.Twins.{twin_delete, twin_stats, deleted_entry}
use Rattle.guard.specs.Guard.{Config, Guard, off, on, Report, normalized, pool_of, guard_status, residual_entry, landmark_pool}
use Rattle.guard.proofs.Enabling.{enters}
use Rattle.guard.proofs.Alike.{residual_alike, landmark_pool_alike, assess_alike}
use Rattle.calls.specs.Calls.{Making, Reading, read_dim, read_capacity, read_degree, read_alpha, read_entry, read_live, read_mark, read_version, read_number, read_target, Insert, Delete, Operation, create, read, read_vector, search, insert, delete, enable, status, assess, guarded_delete, Lent, Call, Answer, number, alpha, version, vector, found, inserted, deleted, standing, assessed, applied}
use Rattle.calls.specs.Table.{dead_entry}
use Rattle.calls.specs.Refusals.{Test, first_of, making_tests, new_pool, or_zero, index_tests, tests, config_over, scratch_short}
use Rattle.calls.specs.State.{State, Kind, stored, view_of, shown, made, with_graph, with_guard}
use Rattle.calls.specs.Step.{vectors_of, report_by, report_of, named, reading, deletion, guarded, perform, refusal, settle, step}
use Rattle.calls.specs.Entered.{after}
use Rattle.calls.specs.DeadBytes.{answers, on_graph, with_bytes, Altered, SameResults, DeadBytes}
use Rattle.calls.proofs.Tests.{accepted}
use Rattle.calls.proofs.History.{whole_vectors}
use Rattle.calls.proofs.Entered.{Right, right_after_step, right_after, stored_right}

-- two indexes with graphs that are alike, and equal in all else
pub record Beside {B : Type 0} (Twin : B → B → Type 0) (w w' : State B) : Type 0 where
  pub twin : Twin w.graph w'.graph
  pub rest : w' ≡ on_graph w w'.graph

module _ {B : Type 0} (K : Kind B) (Fit : B → Type 0) (k : Marking K.ops Fit) (n : EntryLaws K.ops) (Twin : B → B → Type 0) (t : Twins K.ops Twin)
    (versions : (b b' : B) → Twin b b' → (s : ℕ) → K.version_of b' s ≡ K.version_of b s) where
  module _ (w : State B) (b' : B) (h : Right K Fit w.graph) (twin : Twin w.graph b') where
    abbrev other : State B
    other = on_graph w b'

    abbrev v : View
    v = view_of K w

    abbrev v' : View
    v' = view_of K other

    alike : Alike v v'
    alike = t.shows w.graph b' twin

    same : Beside Twin w other
    same = record { twin = twin; rest = refl }

    -- ---- what a call finds

    pool_same : (c : Config) → new_pool v' c ≡ new_pool v c
    unfolding new_pool
    pool_same c =
        sym (landmark_pool_alike v v' alike (normalized c) (or_zero (residual_entry v [])) first_live
        ∙ ap (λ r. landmark_pool v' (normalized c) (or_zero r)) (residual_alike v v' alike []))
      where
        first_live : (s : ℕ) → v.live s ≡ true → v.live (or_zero (residual_entry v [])) ≡ true
        first_live s l =
            let inside = k.inside w.graph h.fits in
            let e = enters v (inside v.entry (h.entered s l)) (some_live v s l (inside s l)) in
            rw e.is e.live

    report_same : (slots : List ℕ) → report_of (shown K other) slots ≡ report_of (shown K w) slots
    unfolding shown report_by
    report_same slots = go w.guard
      where
        go : (g : Guard) → report_by g v' (pool_of g w.pool) slots ≡ report_by g v (pool_of g w.pool) slots
        go off = refl
        go (on c m) = sym (assess_alike v v' alike c (pool_of (on c m) w.pool) slots)

    status_same : (g : Guard) (pool : List ℕ) → guard_status v' g pool ≡ guard_status v g pool
    unfolding guard_status
    status_same off pool = refl
    status_same (on c m) pool = ap (λ u. guard_status u (on c m) pool) alike.others

    -- ---- what a call leaves

    graphs : (c c' : B) → Twin c c' → (ns ns' : List ℕ) → ns' ≡ ns → Beside Twin (with_graph K w c ns) (with_graph K other c' ns')
    unfolding with_graph
    graphs c c' u ns ns' q = record {
      twin = u;
      rest = let e = (t.shows c c' u).others in λ i. record {
        graph = c';
        live = length (live_slots (e i));
        guard = w.guard;
        pool = w.pool;
        numbers = q i;
        summary = summary_of (e i).live (e i).sizes.capacity (q i);
        weights = w.weights;
      };
    }

    deletes : (a : Delete) → Beside Twin (deletion K w a).0 (deletion K other a).0
    unfolding deletion
    deletes a =
        let d = (delete_batch K.ops a.repair_beam a.repair_degree w.graph (named w a)).0 in
        let d' = (delete_batch K.ops a.repair_beam a.repair_degree b' (named w a)).0 in
        let u = twin_delete K.ops Twin t Fit k n w.graph b' twin h.fits h.entered a.repair_beam a.repair_degree (named w a) in
        graphs d d' u _ _ (ap (λ x. live_numbers x.live x.sizes.capacity w.numbers) (t.shows d d' u).others)

    stats_same : (a : Delete) → (deletion K other a).1 ≡ (deletion K w a).1
    unfolding deletion
    stats_same a = sym (twin_stats K.ops Twin t Fit k n w.graph b' twin h.fits h.entered a.repair_beam a.repair_degree (named w a))

    guards : (a : Delete) (r : Report) (q : Bool) → Beside Twin (guarded K w a r q).0 (guarded K other a r q).0
    unfolding guarded
    guards a r true = deletes a
    guards a r false = same

    abbrev batch : View → Insert → List (List ℕ)
    batch u a = vectors_of u.sizes.dim a.bytes

    inserts : (a : Insert) → Beside Twin (perform K w (insert a)).0 (perform K other (insert a)).0
    unfolding perform
    inserts a =
        subst (λ u. Beside Twin (perform K w (insert a)).0
        (with_graph K other (insert_entering K.ops a.beam b' (batch u a)) (write_numbers (take (length (batch u a)) (free_slots u)) a.numbers w.numbers)))
        (sym alike.others)
        (graphs (insert_entering K.ops a.beam w.graph (batch v a)) (insert_entering K.ops a.beam b' (batch v a))
        (twin_insert K.ops Fit k n Twin t a.beam w.graph b' twin h.fits (batch v a) (whole_vectors v.sizes.dim a.bytes)) _ _ refl)

    enables : (c : Config) → Beside Twin (perform K w (enable c)).0 (perform K other (enable c)).0
    unfolding perform with_guard
    enables c = record {
      twin = twin;
      rest = let p = pool_same c in λ i. record {
        graph = b';
        live = w.live;
        guard = on (normalized c) (length (p i));
        pool = K.put_pool w.pool (p i);
        numbers = w.numbers;
        summary = w.summary;
        weights = w.weights;
      };
    }

    module _ (new : (lent : Lent) (m : Making) → first_of (making_tests limits lent.slices m) ≡ none → Twin (K.new m) (K.new m)) where
      pub performs : (lent : Lent) (o : Operation) → first_of (tests limits lent (shown K w) o) ≡ none → Beside Twin (perform K w o).0 (perform K other o).0
      performs lent (create m) r = unfold tests perform made in record { twin = new lent m r; rest = refl }
      performs lent (read q) r = unfold perform in same
      performs lent (read_vector s) r = unfold perform in same
      performs lent (search a) r = unfold perform in same
      performs lent (insert a) r = inserts a
      performs lent (delete a) r = unfold perform in deletes a
      performs lent (enable c) r = enables c
      performs lent status r = unfold perform in same
      performs lent (assess a) r = unfold perform in same
      performs lent (guarded_delete a) r =
          unfold perform in
          let q = report_of (shown K w) (named w a) in
          subst (λ q'. Beside Twin (guarded K w a q q.admitted).0 (guarded K other a q' q'.admitted).0) (sym (report_same (named w a))) (guards a q q.admitted)

    -- ---- what is refused: the entries need only be both inside, or both outside

    abbrev shows : View → State View
    shows u = record { graph = u; live = w.live; guard = w.guard; pool = pool_of w.guard w.pool; numbers = w.numbers; summary = w.summary; weights = w.weights }

    module _ (inside : ltb v'.entry v.sizes.capacity ≡ ltb v.entry v.sizes.capacity) where
      abbrev seen : View
      seen = with_vectors v v'.space.vector v'.entry

      index_same : (slices : Lengths) (wrong : Bool) (rest : List Test)
          → first_of (index_tests limits slices (shows seen) wrong rest) ≡ first_of (index_tests limits slices (shows v) wrong rest)
      unfolding index_tests
      index_same slices wrong rest = rw inside refl

      pub tests_same : (lent : Lent) (o : Operation) → first_of (tests limits lent (shown K other) o) ≡ first_of (tests limits lent (shown K w) o)
      unfolding tests shown
      tests_same lent (create m) = refl
      tests_same lent (read q) = ap (λ u. first_of (tests limits lent (shows u) (read q))) alike.others ∙ index_same lent.slices _ _
      tests_same lent (read_vector s) = ap (λ u. first_of (tests limits lent (shows u) (read_vector s))) alike.others ∙ index_same lent.slices _ _
      tests_same lent (search a) = ap (λ u. first_of (tests limits lent (shows u) (search a))) alike.others ∙ index_same lent.slices _ _
      tests_same lent (insert a) = ap (λ u. first_of (tests limits lent (shows u) (insert a))) alike.others ∙ index_same lent.slices _ _
      tests_same lent (delete a) = ap (λ u. first_of (tests limits lent (shows u) (delete a))) alike.others ∙ index_same lent.slices _ _
      tests_same lent (enable c) =
          ap₂ (λ (u : View) (pool : List ℕ). first_of (index_tests limits lent.slices (shows u) false (own u pool))) alike.others (pool_same c)
          ∙ index_same lent.slices false (own v (new_pool v c))
        where
          own : View → List ℕ → List Test
          own u pool = (7, config_over limits c) ∷ (8, scratch_short limits lent (shows u)) ∷ (12, eqb (length (live_slots u)) 0) ∷ (13, eqb (length pool) 0) ∷ []
      tests_same lent status = ap (λ u. first_of (tests limits lent (shows u) status)) alike.others ∙ index_same lent.slices _ _
      tests_same lent (assess a) = ap (λ u. first_of (tests limits lent (shows u) (assess a))) alike.others ∙ index_same lent.slices _ _
      tests_same lent (guarded_delete a) = ap (λ u. first_of (tests limits lent (shows u) (guarded_delete a))) alike.others ∙ index_same lent.slices _ _

    -- ---- what is answered: only who reads the entry can tell entries apart

    readings : (r : Reading) → (r ≡ read_entry → v'.entry ≡ v.entry) → reading K other r ≡ reading K w r
    unfolding reading
    readings read_dim e = ap (λ u. number u.sizes.dim) alike.others
    readings read_capacity e = ap (λ u. number u.sizes.capacity) alike.others
    readings read_degree e = ap (λ u. number u.sizes.degree) alike.others
    readings read_alpha e = ap (λ u. alpha u.sizes.alpha) alike.others
    readings read_entry e = ap number (e refl)
    readings read_live e = refl
    readings (read_mark s) e = ap (λ u. number (cond (u.live s) 1 0)) alike.others
    readings (read_version s) e = ap version (versions w.graph b' twin s)
    readings (read_number s) e = refl
    readings (read_target s place) e = ap (λ u. number (get_or (live_neighbors u s) place blank)) alike.others

    vector_same : (s : ℕ) → cond (v'.live s) (v'.space.vector s) [] ≡ cond (v.live s) (v.space.vector s) []
    vector_same s = ap (λ u. cond (u.live s) (v'.space.vector s) []) alike.others ∙ go (v.live s) refl
      where
        go : (q : Bool) → v.live s ≡ q → cond q (v'.space.vector s) [] ≡ cond q (v.space.vector s) []
        go true e = alike.vectors s e
        go false e = refl

    enabled_same : (c : Config)
        → standing (guard_status v' (on (normalized c) (length (new_pool v' c))) (new_pool v' c)) ≡ standing (guard_status v (on (normalized c) (length (new_pool v c))) (new_pool v c))
    enabled_same c =
        ap (λ (pool : List ℕ). standing (guard_status v' (on (normalized c) (length pool)) pool)) (pool_same c)
        ∙ ap standing (status_same (on (normalized c) (length (new_pool v c))) (new_pool v c))

    guarded_answer : (a : Delete) (r : Report) (q : Bool) → (guarded K other a r q).1 ≡ (guarded K w a r q).1
    unfolding guarded
    guarded_answer a r true = ap (λ d. applied d r) (stats_same a)
    guarded_answer a r false = refl

    pub answers_same : (o : Operation) → (o ≡ read read_entry → v'.entry ≡ v.entry) → (perform K other o).1 ≡ (perform K w o).1
    unfolding perform shown
    answers_same (create m) e = refl
    answers_same (read q) e = readings q (λ p. e (ap read p))
    answers_same (read_vector s) e = ap vector (vector_same s)
    answers_same (search a) e =
        ap (λ pool. let cs = take a.k pool in found cs (map (number_of w.numbers) (ids cs))) (sym (search_pool_alike v v' alike a.query a.beam))
    answers_same (insert a) e = ap (λ u. inserted (take (length (batch u a)) (free_slots u))) alike.others
    answers_same (delete a) e = ap deleted (stats_same a)
    answers_same (enable c) e = enabled_same c
    answers_same status e = ap standing (status_same w.guard (pool_of w.guard w.pool))
    answers_same (assess a) e = ap assessed (report_same a.ids)
    answers_same (guarded_delete a) e =
        let q = report_of (shown K w) (named w a) in
        ap (λ r. (guarded K other a r r.admitted).1) (report_same (named w a)) ∙ guarded_answer a q q.admitted

    -- ---- equal entries stay equal

    module _ (entries : v'.entry ≡ v.entry) where
      guarded_entry : (a : Delete) (r : Report) (q : Bool) → (view_of K (guarded K other a r q).0).entry ≡ (view_of K (guarded K w a r q).0).entry
      unfolding guarded deletion with_graph
      guarded_entry a r true = deleted_entry K.ops Twin t Fit k n w.graph b' twin h.fits h.entered a.repair_beam a.repair_degree (named w a) entries
      guarded_entry a r false = entries

      entry_same : (o : Operation) → (view_of K (perform K other o).0).entry ≡ (view_of K (perform K w o).0).entry
      unfolding perform deletion with_graph with_guard
      entry_same (create m) = refl
      entry_same (read q) = entries
      entry_same (read_vector s) = entries
      entry_same (search a) = entries
      entry_same (insert a) =
          ap (λ u. (K.ops.view (insert_entering K.ops a.beam b' (batch u a))).entry) alike.others
          ∙ inserted_entry K.ops Fit k n Twin t a.beam w.graph b' twin h.fits (batch v a) (whole_vectors v.sizes.dim a.bytes) entries
      entry_same (delete a) = deleted_entry K.ops Twin t Fit k n w.graph b' twin h.fits h.entered a.repair_beam a.repair_degree (named w a) entries
      entry_same (enable c) = entries
      entry_same status = entries
      entry_same (assess a) = entries
      entry_same (guarded_delete a) =
          let q = report_of (shown K w) (named w a) in
          ap (λ r. (view_of K (guarded K other a r r.admitted).0).entry) (report_same (named w a)) ∙ guarded_entry a q q.admitted

  -- ---- lists of calls

  -- the same answer, and two indexes that are alike again, with equal entries
  record Stepped (r r' : State B × Answer) : Type 0 where
    beside : Beside Twin r.0 r'.0
    entries : (view_of K r'.0).entry ≡ (view_of K r.0).entry
    answer : r'.1 ≡ r.1

  record Followed (w w' : State B) (cs : List Call) : Type 0 where
    beside : Beside Twin (after K w cs) (after K w' cs)
    entries : (view_of K (after K w' cs)).entry ≡ (view_of K (after K w cs)).entry
    replies : answers K w' cs ≡ answers K w cs

  module _ (right : (lent : Lent) (m : Making) → first_of (making_tests limits lent.slices m) ≡ none → Right K Fit (K.new m))
      (new : (lent : Lent) (m : Making) → first_of (making_tests limits lent.slices m) ≡ none → Twin (K.new m) (K.new m)) where
    steps : (w : State B) (b' : B) → Right K Fit w.graph → Twin w.graph b' → (view_of K (on_graph w b')).entry ≡ (view_of K w).entry
        → (c : Call) → Stepped (step K w c) (step K (on_graph w b') c)
    unfolding step settle refusal
    steps w b' h twin e c =
        subst (λ q. Stepped (settle K w c (refusal K w c)) (settle K (on_graph w b') c q)) (sym (tests_same w b' h twin (ap (λ x. ltb x (view_of K w).sizes.capacity) e) c.lent c.operation)) (go (refusal K w c) refl)
      where
        go : (q : Option ℕ) → refusal K w c ≡ q → Stepped (settle K w c q) (settle K (on_graph w b') c q)
        go (some m) r = record { beside = record { twin = twin; rest = refl }; entries = e; answer = refl }
        go none r = record {
          beside = performs w b' h twin new c.lent c.operation r;
          entries = entry_same w b' h twin e c.operation;
          answer = answers_same w b' h twin c.operation (λ q. e);
        }

    -- of any index that is alike
    stepped : (w w' : State B) → Right K Fit w.graph → Beside Twin w w' → (view_of K w').entry ≡ (view_of K w).entry → (c : Call) → Stepped (step K w c) (step K w' c)
    stepped w w' h s e c = subst (λ x. Stepped (step K w c) (step K x c)) (sym s.rest) (steps w w'.graph h s.twin e c)

    followed : (w w' : State B) → Right K Fit w.graph → Beside Twin w w' → (view_of K w').entry ≡ (view_of K w).entry → (cs : List Call) → Followed w w' cs
    followed w w' h s e [] = record { beside = s; entries = e; replies = refl }
    followed w w' h s e (c ∷ cs) =
        let r = stepped w w' h s e c in
        let f = followed (step K w c).0 (step K w' c).0 (right_after_step K Fit k n right w h c) r.beside r.entries cs in
        record { beside = f.beside; entries = f.entries; replies = ap₂ (λ x l. x ∷ l) r.answer f.replies }

-- ---- the stored index

twin_self : (b : Store) → Shaped b.capacity b.arrays → StoreTwin b b
twin_self b s = record { shaped = s; others = refl; long = refl; vectors = λ s l. refl; entry = λ s l. refl }

new_twin : (lent : Lent) (m : Making) → first_of (making_tests limits lent.slices m) ≡ none → StoreTwin (stored.new m) (stored.new m)
unfolding stored
new_twin lent m acc = twin_self (stored.new m) (agree_new m.sizes (distance m.weights) m.count m.bytes m.rows m.entry (accepted lent.slices m acc)).sound.shaped

stored_versions : (b b' : Store) → StoreTwin b b' → (s : ℕ) → stored.version_of b' s ≡ stored.version_of b s
unfolding stored
stored_versions b b' t s = ap (λ x. get_or x.arrays.versions s 0) t.others

module _ (w w' : State Store) where
  to_twin : Shaped w.graph.capacity w.graph.arrays → Altered w w' → StoreTwin w.graph w'.graph
  unfolding stored store_ops store_view vector_of
  to_twin s a = record {
    shaped = s;
    others = ap (λ x. record { arrays = x.graph.arrays; capacity = x.graph.capacity; alpha = x.graph.alpha; entry = w'.graph.entry }) a.others;
    long = a.long;
    vectors = λ t l. ap (λ x. part x.graph.arrays.dim t w'.graph.arrays.vectors) (sym a.others) ∙ a.alike.vectors t l;
    entry = a.alike.entry;
  }

  to_beside : Shaped w.graph.capacity w.graph.arrays → Altered w w' → Beside StoreTwin w w'
  to_beside s a = record { twin = to_twin s a; rest = let e = a.others in λ i. on_graph (e i) w'.graph }

  to_altered : Beside StoreTwin w w' → w'.graph.entry ≡ w.graph.entry → Altered w w'
  unfolding stored store_ops
  to_altered b e = record {
    others = b.rest ∙ ap (on_graph w) (b.twin.others ∙ ap (store_with w.graph w'.graph.arrays.vectors) e);
    long = b.twin.long;
    alike = store_twins.shows w.graph w'.graph b.twin;
  }

-- an index that calls have reached has slices for its slots
module _ (lent : Lent) (m : Making) (acc : first_of (making_tests limits lent.slices m) ≡ none) (cs : List Call) where
  abbrev reached : State Store
  reached = after stored (made stored m) cs

  reached_right : Right stored MarksFit reached.graph
  unfolding stored store_ops made
  reached_right = right_after stored MarksFit store_marking store_entry_laws stored_right (made stored m) (stored_right lent m acc) cs

  pub reached_shaped : Shaped reached.graph.capacity reached.graph.arrays
  unfolding stored store_ops made
  reached_shaped =
      (followed stored MarksFit store_marking store_entry_laws StoreTwin store_twins stored_versions stored_right new_twin (made stored m) (made stored m) (stored_right lent m acc)
      (record { twin = new_twin lent m acc; rest = refl }) refl cs).beside.twin.shaped

  same_results : (w' : State Store) → Altered reached w' → (later : List Call) → SameResults reached w' later
  unfolding stored store_ops store_view
  same_results w' a later =
      let f = followed stored MarksFit store_marking store_entry_laws StoreTwin store_twins stored_versions stored_right new_twin reached w' reached_right
      (to_beside reached w' reached_shaped a) (ap (λ x. x.graph.entry) a.others) later in
      record { same_answers = f.replies; left = to_altered (after stored reached later) (after stored w' later) f.beside f.entries }

pub dead_bytes : DeadBytes
dead_bytes lent m cs acc = same_results lent m acc cs

-- ---- what is altered only there

-- other bytes in the vector of a dead slot
module _ (w : State Store) (s : Shaped w.graph.capacity w.graph.arrays) (t : ℕ) (h : t < w.graph.capacity) (dead : (view_of stored w).live t ≡ false)
    (bytes : List ℕ) (l : length bytes ≡ w.graph.arrays.dim) where
  abbrev pub overwritten : State Store
  overwritten = let a = w.graph.arrays in on_graph w (with_bytes w.graph (put_part a.dim t bytes a.vectors))

  pub overwritten_altered : Altered w overwritten
  unfolding stored store_ops store_view vector_of refs_of
  overwritten_altered =
      let a = w.graph.arrays in
      record {
        others = refl;
        long = length_put a.dim t bytes a.vectors l (vector_fits w.graph.capacity a s t h);
        alike = record { others = refl; vectors = λ u live. part_put a.dim t bytes a.vectors l (vector_fits w.graph.capacity a s t h) u ∙ go u (eqb u t) refl live; entry = λ u live. refl };
      }
    where
      go : (u : ℕ) (q : Bool) → eqb u t ≡ q → is_valid w.graph.arrays.marks u ≡ true
          → cond q bytes (part w.graph.arrays.dim u w.graph.arrays.vectors) ≡ part w.graph.arrays.dim u w.graph.arrays.vectors
      go u true e live = absurd (true≢false (sym live ∙ ap (is_valid w.graph.arrays.marks) (eqb-true u t e) ∙ dead))
      go u false e live = refl

alike_then : (v v' v'' : View) → Alike v v' → Alike v' v'' → Alike v v''
alike_then v v' v'' a b =
    let still : (s : ℕ) → v.live s ≡ true → v'.live s ≡ true = λ s l. ap (λ u. u.live s) a.others ∙ l in
    record {
      others = b.others ∙ ap (λ u. with_vectors u v''.space.vector v''.entry) a.others;
      vectors = λ s l. b.vectors s (still s l) ∙ a.vectors s l;
      entry = λ s l. b.entry s (still s l) ∙ a.entry s l;
    }

-- and once more, whenever: what later calls leave is reached too
pub altered_again : (w w' w'' : State Store) → Altered w w' → Altered w' w'' → Altered w w''
altered_again w w' w'' a b = record {
  others = b.others ∙ ap (λ x. on_graph x (with_bytes x.graph w''.graph.arrays.vectors)) a.others;
  long = b.long ∙ a.long;
  alike = alike_then (view_of stored w) (view_of stored w') (view_of stored w'') a.alike b.alike;
}

pub after_more : (w : State Store) (cs later : List Call) → after stored w (cs ++ later) ≡ after stored (after stored w cs) later
after_more w [] later = refl
after_more w (c ∷ cs) later = after_more (step stored w c).0 cs later

-- ---- an index made by hand: there the byte of a dead slot shows (`table`)

pub by_hand : Altered (dead_entry 0) (dead_entry 2)
unfolding stored store_ops store_view is_valid
by_hand = overwritten_altered (dead_entry 0) (record { vectors_long = refl; targets_long = refl; edges_long = refl; versions_long = refl; marks_long = refl }) 4 (omega arith) refl (2 ∷ []) refl
