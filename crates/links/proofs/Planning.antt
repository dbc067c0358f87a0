-- The links of a whole plan, and of one plan after the other. Assumes nothing.
use Prim.Native.Nat.{ℕ, zero, suc, ◌+◌, ◌-◌, ◌*◌, ◌/◌, ◌≤◌, ◌<◌}
use mathlib.Core.Bool.{Bool, true, false, cond, not, and-true, or-true}
use mathlib.Core.Path.{◌≡◌, refl, ap, ap₂, sym, ◌∙◌, subst}
use mathlib.Core.List.{List, [], ◌∷◌, ◌++◌, map-id}
use native.Mathlib.Nat.{zero-add}
use native.Mathlib.Numerals.{add-one}
use native.Mathlib.Omega.{arith}
use borrow.Author.Tests.{eq-eqb}
use lib.Dec.{eqb}
use lib.ListN.{length, take, drop, get_or}
use Rattle.lists.proofs.Ranges.{range_snoc}
use Rattle.lists.specs.Lists.{All, elem, filter, foldl, concat_map, range, least_from, least_of}
use Rattle.lists.proofs.All.{all_map, all_filter}
use Rattle.lists.proofs.Filtered.{filter_among}
use Rattle.lists.proofs.Parts.{fits_in}
use Rattle.lists.proofs.Unique.{Unique, unique_filter}
use Rattle.vectors.specs.Lent.{measure_of}
use Rattle.candidates.specs.Candidates.{Candidate, scored, ids}
use Rattle.candidates.specs.Inner.Words.{pair, cand, cands, cands_of, put, kept, Remain}
use Rattle.candidates.proofs.Parts.{part_length, whole_part, cands_front, written_length, outside_written}
use Rattle.std.proofs.lemmas.List.{get_or-take, length-take-le}
use Rattle.candidates.proofs.Words.{cands_length, cands_agree, put_cand, front_at, front_each}
use Rattle.candidates.proofs.Scored.{ids_scored, ids_length, all_scored, all_ids}
use Rattle.slots.specs.Store.{Arrays, Store, is_valid}
use Rattle.slots.proofs.Writes.{Whole}
use Rattle.slots.proofs.Places.{live_inside}
use Rattle.row.specs.Row.{Together}
use Rattle.repair.specs.Repair.{Link, span, repair_links}
use Rattle.repair.proofs.Sources.{repair_sources}
use Rattle.repair.proofs.Span.{span_enough, others_fewer, repair_enough}
use Rattle.links.specs.declared.span.Pair.{Pair}
use Rattle.row.specs.declared.pruner.Pruner.{Pruner}
use Rattle.links.specs.Inner.Linking.{between, apply_link, pairs_of, from_each, Pairs, Linked, Made}
use Rattle.links.specs.Inner.Planning.{Stored, Nearest, plan_words, Planned, span_at, Spanned, Plan, count_at, Plans, plan_at, plans_at}
use Rattle.links.proofs.Linking.{linked_none, linked_then, linked_made, by_each, concat_snoc}
use Rattle.links.proofs.Swapping.{unique_apart}
use Rattle.links.proofs.Spanning.{least_ids}
use Rattle.links.proofs.Order.{sources_in_turn}

-- ---- the start
scored_dists : (f : ℕ → ℕ) (l : List ℕ) → All (λ c. c.dist ≡ f c.id) (scored f l)
scored_dists f [] = tt
scored_dists f (x ∷ l) = (refl, scored_dists f l)

scored_least : (d : ℕ → ℕ → ℕ) (s : ℕ) (l : List ℕ) → All (λ c. c.dist ≡ least_of (d c.id) (s ∷ [])) (scored (λ x. d x s) l)
scored_least d s [] = tt
scored_least d s (x ∷ l) = (refl, scored_least d s l)

-- the definition's start
plan_first : (d : ℕ → ℕ → ℕ) (repair_degree entry : ℕ) (l : List Candidate) (i m : ℕ) → All (λ c. c.dist ≡ d c.id entry) l → Nearest l i
    → let x = (get_or l i (pair 0 0)).id in
    length (filter (λ y. not (eqb y x)) (ids l)) ≤ m
    → span d repair_degree m (x ∷ []) (filter (λ y. not (eqb y x)) (ids l)) ≡ repair_links d repair_degree entry (ids l)
plan_first d repair_degree entry [] i m h s l = absurd (omega (arith, s.within))
plan_first d repair_degree entry (a ∷ rest) i m h s l =
    let c : ℕ = a.id in
    let cs : List ℕ = ids rest in
    let x : ℕ = (get_or (a ∷ rest) i (pair 0 0)).id in
    let y : x ≡ least_from (λ v. d v entry) c cs = ap (λ (v : Candidate). v.id) s.least ∙ least_ids (λ v. d v entry) a rest h.0 h.1 in
    sym (span_enough d repair_degree (length cs + m) m (x ∷ []) (filter (λ v. not (eqb v x)) (c ∷ cs)) l (omega arith))
    ∙ subst (λ (u : ℕ). span d repair_degree (length cs + m) (u ∷ []) (filter (λ v. not (eqb v u)) (c ∷ cs)) ≡ repair_links d repair_degree entry (c ∷ cs)) (sym y)
    (repair_enough d repair_degree entry c cs (length cs + m) (omega arith))

-- the start does not remain
plan_fewer : (f : ℕ → ℕ) (l : List Candidate) (i : ℕ) → All (λ c. c.dist ≡ f c.id) l → Nearest l i
    → length (filter (λ y. not (eqb y (get_or l i (pair 0 0)).id)) (ids l)) < length l
plan_fewer f [] i h s = absurd (omega (arith, s.within))
plan_fewer f (a ∷ rest) i h s =
    let c : ℕ = a.id in
    let cs : List ℕ = ids rest in
    let y : (get_or (a ∷ rest) i (pair 0 0)).id ≡ least_from f c cs = ap (λ (v : Candidate). v.id) s.least ∙ least_ids f a rest h.0 h.1 in
    let l : length cs ≡ length rest = ids_length rest in
    subst (λ (u : ℕ). length (filter (λ v. not (eqb v u)) (c ∷ cs)) < suc (length rest)) (sym y) (omega (arith, others_fewer f c cs))

-- of live slots `keep_valid` drops the source alone
kept_other : (marks : List ℕ) (s x : ℕ) → is_valid marks x ≡ true → kept marks s x ≡ not (eqb x s)
unfolding kept
kept_other marks s x h = rw h (and-true (not (eqb x s)))

pub filter_scored : (p : ℕ → Bool) (d : ℕ → ℕ) (xs : List ℕ) → filter (λ c. p c.id) (scored d xs) ≡ scored d (filter p xs)
filter_scored p d [] = refl
filter_scored p d (x ∷ xs) = go (p x) (filter_scored p d xs)
  where
    go : (b : Bool) → filter (λ c. p c.id) (scored d xs) ≡ scored d (filter p xs)
        → cond b (pair (d x) x ∷ filter (λ c. p c.id) (scored d xs)) (filter (λ c. p c.id) (scored d xs)) ≡ scored d (cond b (x ∷ filter p xs) (filter p xs))
    go true r = ap (λ (l : List Candidate). pair (d x) x ∷ l) r
    go false r = r

unique_others : (p : ℕ → Bool) (l : List ℕ) → Unique l → Unique (filter p l)
unique_others p l u = rw (map-id (filter p l)) at (unique_filter (λ x. x) p l (rw (map-id l) u))

-- ---- a plan
pub plan_none : {table : ℕ} (l : Pruner table) (d : ℕ → ℕ → ℕ) (repair_degree entry : ℕ) (w : List ℕ) → length w < 2 → Linked l (repair_links d repair_degree entry (ids (cands_of w))) l
unfolding repair_links cands
plan_none l d repair_degree entry w h = let e : length w / 2 ≡ 0 = omega arith in rw e (linked_none l)

stored_in : {a : Arrays} → Together a → {cs : List Candidate} → All (λ c. c.id < length a.marks) cs → {y : ℕ} → y < length a.marks → Stored a.dim a.vectors y cs
stored_in {a} o {cs} h {y} k =
    record {
      short = o.bytes.small;
      own = fits_in a.dim (length a.marks) y (length a.vectors) k o.bytes.long;
      stored = all_map (λ c. c.id < length a.marks) (λ c. c.id * a.dim + a.dim ≤ length a.vectors)
          (λ c i. fits_in a.dim (length a.marks) c.id (length a.vectors) i o.bytes.long) cs h;
    }

-- both slots of a pair are sources
pairs_sources : (P : ℕ → Type 0) (l : List Pair) → All (λ e. P e.source) (pairs_of l) → All (λ q. P q.slot × P q.parent) l
pairs_sources P [] h = tt
pairs_sources P (q ∷ l) h = ((h.0, h.1.0), pairs_sources P l h.1.1)

each_in : (l : List ℕ) → All (λ x. elem x l ≡ true) l
each_in [] = tt
each_in (x ∷ l) = (rw (eq-eqb x x refl), all_map (λ y. elem y l ≡ true) (λ y. elem y (x ∷ l) ≡ true) (λ y e. rw e (or-true (eqb y x))) l (each_in l))

-- a plan is asked for, of the list w
pub record Asked (a : Arrays) (w : List ℕ) (entry : ℕ) : Type 0 where
  pub together : Together a
  pub entry_in : entry < length a.marks
  pub plan : Plan a.marks w 0 (length w / 2)
  pub some : 2 ≤ length w

-- its start is the nearest to the entry of the list x
pub record Begun (a : Arrays) (w : List ℕ) (entry : ℕ) (x : List ℕ) (i start : ℕ) : Type 0 where
  pub asked : Asked a w entry
  pub long : length x ≡ length w
  pub distances : cands_of x ≡ scored (λ s. between a.measure a.dim a.vectors s entry) (ids (cands_of w))
  pub nearest : Nearest (cands_of x) i
  pub read : start ≡ (cand x (2 * i)).id

-- it is the first of the words c₂; the others remain, m in the words y₂
pub record Parted (a : Arrays) (w : List ℕ) (start : ℕ) (c c₂ y : List ℕ) (m : ℕ) (y₂ : List ℕ) : Type 0 where
  pub room : 2 ≤ length c
  pub placed : c₂ ≡ put c 0 0 start
  pub distances : cands_of y ≡ scored (λ s. between a.measure a.dim a.vectors s start) (ids (cands_of w))
  pub remain : Remain y (filter (λ s. kept a.marks start s.id) (cands_of y)) m y₂
  pub within : 2 * m ≤ length y₂

module _ {a : Arrays} {w : List ℕ} {entry : ℕ} (p : Asked a w entry) where
  inside : All (λ c. c.id < length a.marks) (cands_of w)
  inside = all_map (λ c. is_valid a.marks c.id ≡ true) (λ c. c.id < length a.marks) (λ c. live_inside a.marks c.id) (cands_of w) p.plan.live

  pub plan_ready : Stored a.dim a.vectors entry (cands_of w)
  plan_ready = stored_in p.together inside p.entry_in

pub start_within : (x : List ℕ) {i : ℕ} → Nearest (cands_of x) i → i < length x / 2
start_within x s = omega (arith, s.within, cands_length x 0 (length x / 2))

module _ {a : Arrays} {w : List ℕ} {entry : ℕ} {x : List ℕ} {i start : ℕ} (b : Begun a w entry x i start) where
  start_is : start ≡ (get_or (cands_of x) i (pair 0 0)).id
  start_is = b.read ∙ ap (λ (c : Candidate). c.id) (sym (front_at x (length x / 2) i (start_within x b.nearest)))

  start_inside : start < length a.marks
  start_inside =
      let h : All (λ c. c.id < length a.marks) (cands_of x) =
      rw b.distances (all_scored (λ c. c.id < length a.marks) _ (ids (cands_of w)) (all_ids (λ x. x < length a.marks) (cands_of w) (inside b.asked))) in
      rw b.read (front_each (λ c. c.id < length a.marks) x (length x / 2) h i (start_within x b.nearest))

  pub plan_remain : Stored a.dim a.vectors start (cands_of w)
  plan_remain = stored_in b.asked.together (inside b.asked) start_inside

  module _ {c c₂ y : List ℕ} {m : ℕ} {y₂ : List ℕ} (k : Parted a w start c c₂ y m y₂) where
    abbrev others : List ℕ
    others = filter (λ x. not (eqb x start)) (ids (cands_of w))

    remaining : cands_of (take (2 * m) y₂) ≡ cands y₂ 0 m
    remaining = cands_front y₂ m k.within

    rest : cands y₂ 0 m ≡ scored (λ x. between a.measure a.dim a.vectors x start) others
    rest =
        k.remain.list
        ∙ ap (filter (λ c. kept a.marks start c.id)) k.distances
        ∙ filter_scored (kept a.marks start) (λ x. between a.measure a.dim a.vectors x start) (ids (cands_of w))
        ∙ ap (scored (λ x. between a.measure a.dim a.vectors x start)) (filter_among (kept a.marks start) (λ x. not (eqb x start)) (ids (cands_of w))
        (all_map (λ x. is_valid a.marks x ≡ true) (λ x. kept a.marks start x ≡ not (eqb x start)) (kept_other a.marks start) (ids (cands_of w)) (all_ids (λ x. is_valid a.marks x ≡ true) (cands_of w) b.asked.plan.live)))

    rest_ids : ids (cands y₂ 0 m) ≡ others
    rest_ids = ap ids rest ∙ ids_scored _ others

    rest_long : length others ≡ m
    rest_long = ap length (sym rest_ids) ∙ ids_length (cands y₂ 0 m) ∙ cands_length y₂ 0 m

    first : cands c₂ 0 1 ≡ pair 0 start ∷ []
    unfolding cands
    first = rw k.placed (ap (λ (c : Candidate). c ∷ []) (put_cand c 0 0 start (omega (arith, k.room))))

    same₁ : ids (cands_of x) ≡ ids (cands_of w)
    same₁ = ap ids b.distances ∙ ids_scored _ (ids (cands_of w))

    dists : All (λ c. c.dist ≡ between a.measure a.dim a.vectors c.id entry) (cands_of x)
    dists = rw b.distances (scored_dists (λ x. between a.measure a.dim a.vectors x entry) (ids (cands_of w)))

    rest_fewer : m < length w / 2
    rest_fewer =
        let h : length (filter (λ y. not (eqb y (get_or (cands_of x) i (pair 0 0)).id)) (ids (cands_of x))) < length (cands_of x) = plan_fewer (λ x. between a.measure a.dim a.vectors x entry) (cands_of x) i dists b.nearest in
        let q : length others < length (cands_of x) = rw (same₁, ← start_is) at h in
        omega (arith, q, rest_long, cands_length x 0 (length x / 2), b.long)

    pub plan_planned : Planned a.measure a.dim a.vectors (cands c₂ 0 1) (cands_of (take (2 * m) y₂))
    plan_planned =
        let fits : (x : ℕ) → x < length a.marks → x * a.dim + a.dim ≤ length a.vectors = λ x i. fits_in a.dim (length a.marks) x (length a.vectors) i b.asked.together.bytes.long in
        let others_in : All (λ x. x * a.dim + a.dim ≤ length a.vectors) others =
        all_map (λ x. x < length a.marks) (λ x. x * a.dim + a.dim ≤ length a.vectors) fits others (all_filter (λ x. x < length a.marks) (λ x. not (eqb x start)) (ids (cands_of w)) (all_ids (λ x. x < length a.marks) (cands_of w) (inside b.asked))) in
        record {
          short = b.asked.together.bytes.small;
          some = omega (arith, cands_length c₂ 0 1);
          few = rw remaining (omega (arith, b.asked.plan.few, rest_fewer, cands_length c₂ 0 1, cands_length y₂ 0 m));
          connected_in = rw first (fits start start_inside, tt);
          remaining_in = rw (remaining, rest) (all_scored (λ c. c.id * a.dim + a.dim ≤ length a.vectors) _ others others_in);
          least = rw (remaining, rest, first) (scored_least (between a.measure a.dim a.vectors) start others);
          distinct = rw (remaining, rest_ids) (unique_apart others (unique_others (λ x. not (eqb x start)) (ids (cands_of w)) b.asked.plan.once));
        }

    module _ {repair_degree : ℕ} {pairs : List Pair} {r : ℕ} (t : Spanned a.measure a.dim a.vectors repair_degree (cands c₂ 0 1) (cands_of (take (2 * m) y₂)) pairs r) where
      abbrev ss : List ℕ
      ss = ids (cands_of w)

      plan_list : pairs_of (take r pairs) ≡ repair_links (between a.measure a.dim a.vectors) repair_degree entry ss
      plan_list =
          let q = plan_first (between a.measure a.dim a.vectors) repair_degree entry (cands_of x) i m dists b.nearest in
          let few : length (filter (λ y. not (eqb y (get_or (cands_of x) i (pair 0 0)).id)) (ids (cands_of x))) ≤ m = rw (same₁, ← start_is) (omega (arith, rest_long)) in
          let g : span (between a.measure a.dim a.vectors) repair_degree m (start ∷ []) others ≡ repair_links (between a.measure a.dim a.vectors) repair_degree entry ss = rw (same₁, ← start_is) at (q few) in
          let n : length (cands_of (take (2 * m) y₂)) ≡ m = rw remaining (cands_length y₂ 0 m) in
          t.paired
          ∙ ap (λ (j : ℕ). span_at a.measure a.dim a.vectors repair_degree (cands c₂ 0 1) (cands_of (take (2 * m) y₂)) j) n
          ∙ ap₂ (λ (u v : List ℕ). span (between a.measure a.dim a.vectors) repair_degree m u v) (ap ids first) (ap ids remaining ∙ rest_ids) ∙ g

      plan_sources : (P : ℕ → Type 0) → All P ss → All (λ l. P l.source) (pairs_of (take r pairs))
      plan_sources P h = rw plan_list (repair_sources P (between a.measure a.dim a.vectors) repair_degree entry ss h)

      pub plan_pairs : Pairs (length a.marks) (take r pairs)
      plan_pairs = pairs_sources (λ x. x < length a.marks) (take r pairs) (plan_sources (λ x. x < length a.marks) (all_ids (λ x. x < length a.marks) (cands_of w) (inside b.asked)))

      pub plan_done : (s : Store) → s.arrays ≡ a → Whole s → s.capacity ≤ 65536 → {b' : Store} → b' ≡ foldl apply_link s (from_each (pairs_of (take r pairs)) ss)
          → b' ≡ foldl apply_link s (repair_links (between a.measure a.dim a.vectors) repair_degree entry ss)
      plan_done s _ z few v =
          v
          ∙ by_each s (pairs_of (take r pairs)) ss
          ∙ sources_in_turn s (pairs_of (take r pairs)) ss z few b.asked.plan.once (plan_sources (λ x. elem x ss ≡ true) (each_in ss))
          ∙ ap (foldl apply_link s) plan_list

-- ---- plan after plan
-- the plans below base, in words of their own
module _ {marks w : List ℕ} {stats plans count base : ℕ} (b : Plans marks w stats plans count base) (l : base ≤ length w) where
  front_word : (j : ℕ) → j < base → get_or (take base w) j 0 ≡ get_or w j 0
  front_word j h = get_or-take base w j 0 h

  number : (j : ℕ) → j < count → count_at (take base w) stats j ≡ count_at w stats j
  number j h = front_word (stats + 4 * j + 2) (omega (arith, b.counted))

  front_given : (j : ℕ) → j < count → cands (take base w) (plans + 640 * j) (count_at (take base w) stats j) ≡ cands w (plans + 640 * j) (count_at w stats j)
  front_given j h =
      ap (cands (take base w) (plans + 640 * j)) (number j h)
      ∙ cands_agree w (take base w) (plans + 640 * j) (count_at w stats j) (λ i _ k. front_word i (omega (arith, b.placed, (b.each j h).few)))

  pub plans_front : Plans marks (take base w) stats plans count (length (take base w))
  plans_front =
      let e : length (take base w) ≡ base = length-take-le base w l in
      record {
        counted = omega (arith, b.counted);
        placed = omega (arith, b.placed);
        each = λ j h. record { few = rw (number j h) (b.each j h).few; live = rw (front_given j h) (b.each j h).live; once = rw (front_given j h) (b.each j h).once };
      }

  pub plans_at_front : (d : ℕ → ℕ → ℕ) (repair_degree entry : ℕ) → plans_at d repair_degree entry (take base w) stats plans count ≡ plans_at d repair_degree entry w stats plans count
  plans_at_front d repair_degree entry = each 0 count (omega arith)
    where
      each : (from n : ℕ) → from + n ≤ count → concat_map (plan_at d repair_degree entry (take base w) stats plans) (range from n) ≡ concat_map (plan_at d repair_degree entry w stats plans) (range from n)
      each from zero h = refl
      each from (suc n) h =
          ap₂ (λ (u v : List Link). u ++ v) (ap (λ (cs : List Candidate). repair_links d repair_degree entry (ids cs)) (front_given from (omega arith))) (each (suc from) n (omega arith))

module _ {table : ℕ} {l l₁ : Pruner table} {w : List ℕ} (repair_degree entry : ℕ) {stats plans count j : ℕ}
    (f : Linked l (plans_at (between (measure_of l.kept.now.space.weights) l.kept.now.space.dim l.kept.now.space.vectors.now) repair_degree entry w stats plans j) l₁) (b : Plans l.marks.now w stats plans count (length w)) (h : j < count) where
  abbrev at : ℕ
  at = plans + 640 * j

  abbrev list : List ℕ
  list = take (at + 2 * count_at w stats j - at) (drop at w)

  bounds : at + 2 * count_at w stats j ≤ length w
  bounds = omega (arith, b.placed, (b.each j h).few)

  list_long : length list ≡ 2 * count_at w stats j
  list_long = part_length w at (at + 2 * count_at w stats j - at) (omega (arith, bounds)) ∙ omega arith

  list_is : cands_of list ≡ cands w at (count_at w stats j)
  list_is = whole_part w at (at + 2 * count_at w stats j - at) (count_at w stats j) (omega (arith, bounds)) (omega arith)

  pub plans_next : Plan l₁.marks.now (take (plans + 640 * j + 2 * count_at w stats j - (plans + 640 * j)) (drop (plans + 640 * j) w)) 0
      (length (take (plans + 640 * j + 2 * count_at w stats j - (plans + 640 * j)) (drop (plans + 640 * j) w)) / 2) × (length (take (plans + 640 * j + 2 * count_at w stats j - (plans + 640 * j)) (drop (plans + 640 * j) w)) ≤ 640)
  plans_next = (
    record { few = omega (arith, list_long, (b.each j h).few); live = rw (f.same.marks, list_is) (b.each j h).live; once = rw list_is (b.each j h).once },
    omega (arith, list_long, (b.each j h).few),
  )

  pub plans_more : {l₂ : Pruner table}
      → Linked l₁ (repair_links (between (measure_of l₁.kept.now.space.weights) l₁.kept.now.space.dim l₁.kept.now.space.vectors.now) repair_degree entry (ids (cands_of (take (plans + 640 * j + 2 * count_at w stats j - (plans + 640 * j)) (drop (plans + 640 * j) w))))) l₂
      → Linked l (plans_at (between (measure_of l.kept.now.space.weights) l.kept.now.space.dim l.kept.now.space.vectors.now) repair_degree entry w stats plans (j + 1)) l₂
  plans_more g =
      let d = between (measure_of l.kept.now.space.weights) l.kept.now.space.dim l.kept.now.space.vectors.now in
      let s : repair_links (between (measure_of l₁.kept.now.space.weights) l₁.kept.now.space.dim l₁.kept.now.space.vectors.now) repair_degree entry (ids (cands_of list)) ≡ plan_at d repair_degree entry w stats plans j =
      rw (f.same.space, list_is) in
      let k : plans_at d repair_degree entry w stats plans (j + 1) ≡ plans_at d repair_degree entry w stats plans j ++ plan_at d repair_degree entry w stats plans j =
      ap (concat_map (plan_at d repair_degree entry w stats plans)) (rw (add-one j) (sym (rw (zero-add j) at (range_snoc 0 j)))) ∙ concat_snoc (plan_at d repair_degree entry w stats plans) (range 0 j) j in
      rw k (linked_then f (rw s at g))

-- beside all words
pub plans_made : {table : ℕ} {l l₁ : Pruner table} {ls : List Link} (w : List ℕ) (base n : ℕ) (u : List ℕ) → base ≤ length w → base + n ≤ length w → n ≡ plan_words l.rows.now.degree
    → length u ≡ length (take n (drop base w)) → Linked l ls l₁ → Made l ls w base plan_words l₁ (take base w ++ (u ++ drop n (drop base w)))
plans_made {l = l} w base n u h k e m f =
    let long : length u ≡ n = m ∙ part_length w base n k in
    linked_made f (written_length w u base n k long) (λ j o. outside_written w u base n k long j (λ q. omega (arith, o q)))
