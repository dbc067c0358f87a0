-- Deletes of two views that differ only in the vectors of dead slots (`Alike`): what is taken of a live slot, the plans and the repaired rows are equal, since
-- links and rows are made of distances of live slots only. Assumes nothing.
use Prim.Native.Nat.{ℕ, zero, suc}
use mathlib.Core.Bool.{true, not, cond}
use mathlib.Core.Path.{◌≡◌, refl, sym, ap, ap₂, ◌∙◌}
use mathlib.Core.List.{List, [], ◌∷◌, ◌++◌, map}
use lib.Dec.{eqb, ltb}
use lib.ListN.{length, take}
use Rattle.lists.specs.Lists.{All, filter, elem, foldl, concat_map, sort_by, sorted_set, least_from, least_of}
use Rattle.lists.proofs.All.{by_cases, all_append, all_filter, all_sort, filter_test}
use Rattle.lists.proofs.Equal.{map_equal, least_from_equal, least_of_equal, least_has}
use Rattle.lists.proofs.Unique.{all_distinct}
use Rattle.candidates.specs.Candidates.{Candidate, nearer, scored, ids}
use Rattle.candidates.proofs.Scored.{scored_equal}
use Rattle.vectors.specs.Space.{slot_distance}
use Rattle.slots.specs.View.{View, live_neighbors, Alike, EntryLive, with_vectors}
use Rattle.slots.proofs.Alike.{by_alike, same_distance}
use Rattle.walk.specs.Walk.{search_pool}
use Rattle.walk.proofs.Alike.{search_pool_alike}
use Rattle.prune.specs.Prune.{prune}
use Rattle.prune.proofs.Alike.{prune_alike}
use Rattle.repair.specs.Repair.{Link, swap_remove, links, span, repair_links, insert_and_prune, repaired_row, repaired_rows}
use Rattle.repair.specs.Delete.{Snapshot, Plan, snapshot, plan}
use Rattle.repair.proofs.Reached.{row_live}
use Rattle.repair.proofs.Sources.{both_ways, Ends, all_swap, repair_ends}

-- ---- two distances that are equal of slots with P, as all candidates are, give the same links

module _ (P : ℕ → Type 0) (d d' : ℕ → ℕ → ℕ) (same : (x y : ℕ) → P x → P y → d x y ≡ d' x y) where
  module _ (degree : ℕ) where
    links_equal : (con : List ℕ) (x : ℕ) → All P con → P x → links d degree con x ≡ links d' degree con x
    unfolding links
    links_equal con x a p =
        ap (λ (cs : List Candidate). concat_map (both_ways x) (ids (take degree (sort_by nearer cs))))
        (scored_equal P (d x) (d' x) (λ y q. same x y p q) con a)

    span_equal : (n : ℕ) (con rem : List ℕ) → All P con → All P rem → span d degree n con rem ≡ span d' degree n con rem
    unfolding span
    span_equal zero con rem a b = refl
    span_equal (suc n) con [] a b = refl
    span_equal (suc n) con (r ∷ rs) a b =
        let x = least_from (λ y. least_of (d y) con) r rs in
        let p : P x = least_has P (λ y. least_of (d y) con) r rs b.0 b.1 in
        let e : x ≡ least_from (λ y. least_of (d' y) con) r rs =
        least_from_equal P (λ y. least_of (d y) con) _ (λ y q. least_of_equal P (d y) (d' y) (λ z k. same y z q k) con a) r b.0 rs b.1 in
        ap₂ (λ (ls ms : List Link). ls ++ ms) (links_equal con x a p)
        (span_equal n (con ++ (x ∷ [])) (swap_remove x (r ∷ rs)) (all_append P con (x ∷ []) a (p, tt)) (all_swap P x r rs b.0 b.1))
        ∙ ap (λ (y : ℕ). links d' degree con y ++ span d' degree n (con ++ (y ∷ [])) (swap_remove y (r ∷ rs))) e

    repair_equal : (entry : ℕ) → P entry → (cs : List ℕ) → All P cs → repair_links d degree entry cs ≡ repair_links d' degree entry cs
    unfolding repair_links
    repair_equal entry p [] a = refl
    repair_equal entry p (c ∷ cs) a =
        let s = least_from (λ x. d x entry) c cs in
        let e : s ≡ least_from (λ x. d' x entry) c cs = least_from_equal P (λ x. d x entry) (λ x. d' x entry) (λ x q. same x entry q p) c a.0 cs a.1 in
        span_equal (length cs) (s ∷ []) (filter (λ x. not (eqb x s)) (c ∷ cs)) (least_has P (λ x. d x entry) c cs a.0 a.1, tt)
        (all_filter P (λ x. not (eqb x s)) (c ∷ cs) a)
        ∙ ap (λ (y : ℕ). span d' degree (length cs) (y ∷ []) (filter (λ x. not (eqb x y)) (c ∷ cs))) e

-- ---- snapshots and plans

pub snapshot_alike : (v v' : View) → Alike v v' → (id : ℕ) → v.live id ≡ true → snapshot v id ≡ snapshot v' id
unfolding snapshot
snapshot_alike v v' a id h =
    by_alike v v' a (λ u. snapshot v id ≡ snapshot u id)
    (λ vector entry same one. ap (λ (x : List ℕ). record { id = id; outgoing = live_neighbors v id; vector = x }) (sym (same id h)))

-- the links of candidates, as a plan of an index has them
abbrev linked : ℕ → View → List ℕ → List Link
linked degree v cs = repair_links (slot_distance v.space) degree v.entry cs

-- with equal pools and equal links of live candidates, plans are equal
module _ (v : View) (beam degree : ℕ) (s : Snapshot) where
  abbrev recovered : List Candidate → List ℕ
  recovered pool = filter (λ source. elem s.id (v.refs source)) (ids pool)

  abbrev candidates : List Candidate → List ℕ
  candidates pool = filter v.live (sorted_set (s.outgoing ++ recovered pool))

  abbrev planned : List Candidate → List Link → Plan
  planned pool ls = record {
    links = ls;
    stats = record {
      outgoing_seeds = length s.outgoing;
      recovered_in_neighbors = length (recovered pool);
      repair_candidates = length (candidates pool);
      repair_edges_attempted = length ls;
    };
  }

  plan_equal : (vector : ℕ → List ℕ) (entry : ℕ) → let u = with_vectors v vector entry in search_pool v s.vector beam ≡ search_pool u s.vector beam
      → ((cs : List ℕ) → All (λ t. v.live t ≡ true) cs → linked degree v cs ≡ linked degree u cs) → plan v beam degree s ≡ plan u beam degree s
  unfolding plan
  plan_equal vector entry pools same =
      let pool = search_pool (with_vectors v vector entry) s.vector beam in
      ap (λ (p : List Candidate). planned p (linked degree v (candidates p))) pools
      ∙ ap (planned pool) (same (candidates pool) (filter_test v.live (sorted_set (s.outgoing ++ recovered pool))))

-- both ends of each link of a plan are live
plan_links_live : (v : View) (beam degree : ℕ) (s : Snapshot) → All (Ends (λ t. v.live t ≡ true)) (plan v beam degree s).links
unfolding plan
plan_links_live v beam degree s =
    let recovered = filter (λ source. elem s.id (v.refs source)) (ids (search_pool v s.vector beam)) in
    let all = sorted_set (s.outgoing ++ recovered) in
    repair_ends (λ t. v.live t ≡ true) (slot_distance v.space) degree v.entry (filter v.live all) (filter_test v.live all)

-- so of several plans together
pub plans_links_live : (v : View) (beam degree : ℕ) (ss : List Snapshot)
    → All (Ends (λ t. v.live t ≡ true)) (concat_map (λ (p : Plan). p.links) (map (plan v beam degree) ss))
plans_links_live v beam degree [] = tt
plans_links_live v beam degree (s ∷ ss) =
    all_append (Ends (λ t. v.live t ≡ true)) (plan v beam degree s).links (concat_map (λ (p : Plan). p.links) (map (plan v beam degree) ss))
    (plan_links_live v beam degree s) (plans_links_live v beam degree ss)

-- ---- with equal selections, repaired rows are equal

targets_live : (v : View) (ls : List Link) → All (Ends (λ t. v.live t ≡ true)) ls → All (λ t. v.live t ≡ true) (map (λ l. l.target) ls)
targets_live v [] h = tt
targets_live v (l ∷ ls) h = (h.0.1, targets_live v ls h.1)

sources_live : (v : View) (ls : List Link) → All (Ends (λ t. v.live t ≡ true)) ls → All (λ t. v.live t ≡ true) (map (λ l. l.source) ls)
sources_live v [] h = tt
sources_live v (l ∷ ls) h = (h.0.0, sources_live v ls h.1)

module _ (v : View) (vector : ℕ → List ℕ) (entry : ℕ) (same : (s : ℕ) → v.live s ≡ true → vector s ≡ v.space.vector s)
    (prunes : (source : ℕ) (cs : List Candidate) → prune v source cs ≡ prune (with_vectors v vector entry) source cs) where
  abbrev other : View
  other = with_vectors v vector entry

  abbrev Live : ℕ → Type 0
  Live t = v.live t ≡ true

  insert_equal : (source : ℕ) → Live source → (row : List ℕ) → All Live row → (t : ℕ) → Live t
      → insert_and_prune v source row t ≡ insert_and_prune other source row t
  unfolding insert_and_prune
  insert_equal source p row a t q =
      let d = slot_distance v.space in
      let d' = slot_distance other.space in
      let more = cond (elem t row) row (row ++ (t ∷ [])) in
      let live : All Live more = by_cases (All Live) (elem t row) (λ e. a) (λ e. all_append Live row (t ∷ []) a (q, tt)) in
      ap ids
      (ap (prune v source) (scored_equal Live (d source) (d' source) (λ u r. same_distance v vector entry same source u p r) more live)
      ∙ prunes source (scored (d' source) more))

  inserts_equal : (source : ℕ) → Live source → (ts row : List ℕ) → All Live ts → All Live row
      → foldl (insert_and_prune v source) row ts ≡ foldl (insert_and_prune other source) row ts
  inserts_equal source p [] row b a = refl
  inserts_equal source p (t ∷ ts) row b a =
      inserts_equal source p ts (insert_and_prune v source row t) b.1 (row_live v source (t ∷ []) row a)
      ∙ ap (λ (r : List ℕ). foldl (insert_and_prune other source) r ts) (insert_equal source p row a t b.0)

  row_equal : (ls : List Link) → All (Ends Live) ls → (source : ℕ) → Live source → repaired_row v ls source ≡ repaired_row other ls source
  unfolding repaired_row
  row_equal ls h source p =
      let mine = filter (λ l. eqb l.source source) ls in
      ap (λ (ts : List ℕ). record { source = source; targets = ts })
      (inserts_equal source p (map (λ l. l.target) mine) (live_neighbors v source)
      (targets_live v mine (all_filter (Ends Live) (λ l. eqb l.source source) ls h)) (filter_test v.live (v.refs source)))

  rows_equal : (ls : List Link) → All (Ends Live) ls → repaired_rows v ls ≡ repaired_rows other ls
  unfolding repaired_rows
  rows_equal ls h =
      let sources = map (λ l. l.source) ls in
      map_equal Live (repaired_row v ls) (repaired_row other ls) (row_equal ls h) (sorted_set sources)
      (all_distinct (λ x. x) Live (sort_by ltb sources) (all_sort Live ltb sources (sources_live v ls h)))

-- ---- of alike views

-- where there is a candidate, a slot is live, so the entry is, and is one
links_alike : (v v' : View) → Alike v v' → EntryLive v → (degree : ℕ) (cs : List ℕ) → All (λ s. v.live s ≡ true) cs → linked degree v cs ≡ linked degree v' cs
unfolding repair_links
links_alike v v' a en degree [] live = refl
links_alike v v' a en degree (c ∷ cs) live =
    by_alike v v' a (λ u. linked degree v (c ∷ cs) ≡ linked degree u (c ∷ cs))
    (λ vector entry same one.
    let d' = slot_distance (with_vectors v vector entry).space in
    repair_equal (λ s. v.live s ≡ true) (slot_distance v.space) d' (same_distance v vector entry same) degree v.entry (en c live.0) (c ∷ cs) live
    ∙ ap (λ (e : ℕ). repair_links d' degree e (c ∷ cs)) (sym (one c live.0)))

pub plan_alike : (v v' : View) → Alike v v' → EntryLive v → (beam degree : ℕ) (s : Snapshot) → plan v beam degree s ≡ plan v' beam degree s
plan_alike v v' a en beam degree s =
    (by_alike v v' a
    (λ u. search_pool v s.vector beam ≡ search_pool u s.vector beam
    → ((cs : List ℕ) → All (λ t. v.live t ≡ true) cs → linked degree v cs ≡ linked degree u cs) → plan v beam degree s ≡ plan u beam degree s)
    (λ vector entry same one. plan_equal v beam degree s vector entry))
    (search_pool_alike v v' a s.vector beam) (links_alike v v' a en degree)

pub repaired_rows_alike : (v v' : View) → Alike v v' → (ls : List Link) → All (Ends (λ t. v.live t ≡ true)) ls → repaired_rows v ls ≡ repaired_rows v' ls
repaired_rows_alike v v' a ls h =
    (by_alike v v' a (λ u. ((source : ℕ) (cs : List Candidate) → prune v source cs ≡ prune u source cs) → repaired_rows v ls ≡ repaired_rows u ls)
    (λ vector entry same one prunes. rows_equal v vector entry same prunes ls h))
    (prune_alike v v' a)
