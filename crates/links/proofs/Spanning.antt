-- The candidates of a plan are connected one after the other: the nearest remaining one is linked with its nearest connected ones, and the last takes its
-- place, until none remains. Assumes nothing.
use Prim.Native.Nat.{ℕ, zero, suc, ◌+◌, ◌-◌, ◌*◌, ◌/◌, ◌≤◌, ◌<◌, min}
use mathlib.Core.Bool.{Bool, true, false, cond, true≢false}
use mathlib.Core.Path.{◌≡◌, refl, ap, sym, ◌∙◌, fun_ext, subst}
use mathlib.Core.List.{List, [], ◌∷◌, ◌++◌, map, map-append, append_assoc, append-nil}
use native.Mathlib.Omega.{arith}
use lib.Dec.{ltb}
use lib.ListN.{length, get_or, set, take, drop}
use borrow.Rule.Slice.PartMut.{put_mid}
use lib.Seq.{take-append_seam, take-append-add}
use Rattle.std.proofs.Common.{rules}
use Rattle.std.proofs.lemmas.Grind.{common_steps}
use Rattle.std.proofs.lemmas.List.{places, take-map, map-set, get_or-map, take_min, take_more_set, take-append-le, length-take-le}
use Rattle.lists.specs.Lists.{All, concat_map, least_from, least_of, sort_by}
use Rattle.lists.proofs.All.{all_append, all_take}
use Rattle.lists.proofs.Least.{least_cons, least_snoc}
use Rattle.vectors.specs.Space.{Measure, slot_distance, space}
use Rattle.vectors.specs.Distance.{distance}
use Rattle.vectors.proofs.Distances.{weighted_sym}
use Rattle.candidates.specs.Candidates.{Candidate, nearer, scored, ids}
use Rattle.candidates.specs.Inner.Words.{pair, cand, cands, cands_of, put}
use Rattle.candidates.proofs.Parts.{cands_front, cands_written, written_length}
use Rattle.candidates.proofs.Words.{cands_length, cands_take, cands_put, put_cand, put_length, put_outside, front_at, front_each, front_push, front_snoc}
use Rattle.candidates.proofs.Scored.{ids_length}
use Rattle.repair.specs.Repair.{Link, swap_remove, links, span}
use Rattle.repair.proofs.Sources.{both_ways}
use Rattle.links.specs.declared.span.Pair.{Pair}
use Rattle.links.specs.Inner.Linking.{between, links_at, pairs_of}
use Rattle.links.specs.Inner.Planning.{Stored, Nearest, lower_to, Distinct, PairedNearest, Planned, span_at, Connected, Spanned}
use Rattle.links.proofs.Linking.{concat_snoc, concat_append}
use Rattle.links.proofs.Swapping.{swap_is, distinct_swap}

-- ---- lists
all_set : {A : Type 0} (P : A → Type 0) (l : List A) (i : ℕ) (y : A) → P y → All P l → All P (set l i y)
all_set P [] i y k h = tt
all_set P (x ∷ l) zero y k h = (k, h.1)
all_set P (x ∷ l) (suc i) y k h = (h.0, all_set P l i y k h.1)

-- the nearest candidate is the slot with the least measure
pub least_ids : (g : ℕ → ℕ) (c : Candidate) (cs : List Candidate) → c.dist ≡ g c.id → All (λ a. a.dist ≡ g a.id) cs → (least_from (λ a. a.dist) c cs).id ≡ least_from g c.id (ids cs)
least_ids g c [] e h = refl
least_ids g c (a ∷ cs) e h =
    let t : ltb a.dist c.dist ≡ ltb (g a.id) (g c.id) = rw (h.0, e) in
    go (ltb a.dist c.dist) (ltb (g a.id) (g c.id)) t (least_ids g a cs h.0 h.1) (least_ids g c cs e h.1)
  where
    go : (b t : Bool) → b ≡ t → (least_from (λ a. a.dist) a cs).id ≡ least_from g a.id (ids cs) → (least_from (λ a. a.dist) c cs).id ≡ least_from g c.id (ids cs)
        → (least_from (λ a. a.dist) (cond b a c) cs).id ≡ least_from g (cond t a.id c.id) (ids cs)
    go true true z x y = x
    go true false z x y = absurd (true≢false z)
    go false true z x y = absurd (true≢false (sym z))
    go false false z x y = y

-- a candidate is overwritten
cands_set : (w : List ℕ) (a n i d s : ℕ) → i < n → a + 2 * n ≤ length w → cands (put w (a + 2 * i) d s) a n ≡ set (cands w a n) i (pair d s)
unfolding cands
cands_set w a zero i d s h l = absurd (omega arith)
cands_set w a (suc n) zero d s h l =
    let e : a + 2 * 0 ≡ a = omega arith in
    subst (λ (p : ℕ). cands (put w p d s) a (suc n) ≡ set (cands w a (suc n)) 0 (pair d s)) (sym e)
    (rw (put_cand w a d s (omega arith), cands_put w a d s (a + 2) n (λ q. omega arith)))
cands_set w a (suc n) (suc i) d s h l =
    let e : a + 2 * suc i ≡ a + 2 + 2 * i = omega arith in
    let p : get_or (put w (a + 2 + 2 * i) d s) a 0 ≡ get_or w a 0 = put_outside w (a + 2 + 2 * i) d s a (λ q. omega arith) in
    let q : get_or (put w (a + 2 + 2 * i) d s) (a + 1) 0 ≡ get_or w (a + 1) 0 = put_outside w (a + 2 + 2 * i) d s (a + 1) (λ q. omega arith) in
    let r : cands (put w (a + 2 + 2 * i) d s) (a + 2) n ≡ set (cands w (a + 2) n) i (pair d s) = cands_set w (a + 2) n i d s (omega arith) (omega arith) in
    subst (λ (z : ℕ). cands (put w z d s) a (suc n) ≡ set (cands w a (suc n)) (suc i) (pair d s)) (sym e) (rw (p, q, r))

front_set : (w : List ℕ) (n i d s : ℕ) → i < n → 2 * n ≤ length w → cands (put w (2 * i) d s) 0 n ≡ set (cands w 0 n) i (pair d s)
front_set w n i d s h l = let z : 0 + 2 * i ≡ 2 * i = omega arith in rw z at (cands_set w 0 n i d s h (omega arith))

-- ---- the links of one
between_sym : (ws : List ℕ) (dim : ℕ) (vectors : List ℕ) (x y : ℕ) → between (distance ws) dim vectors x y ≡ between (distance ws) dim vectors y x
unfolding slot_distance space
between_sym ws dim vectors x y = weighted_sym ws _ _

module _ (ws : List ℕ) (dim : ℕ) (vectors : List ℕ) (x repair_degree : ℕ) (con v u : List ℕ) (f : cands_of v ≡ scored (λ c. between (distance ws) dim vectors c x) (ids (cands_of con)))
    (h : cands_of u ≡ sort_by nearer (cands_of v)) (l : length u ≡ length con) {n : ℕ} (e : n ≡ min repair_degree (length con / 2)) where
  abbrev by_distance : List Candidate
  by_distance = sort_by nearer (scored (between (distance ws) dim vectors x) (ids (cands_of con)))

  near_list : cands u 0 n ≡ take repair_degree by_distance
  near_list =
      let s : (λ c. between (distance ws) dim vectors c x) ≡ between (distance ws) dim vectors x = fun_ext (λ c. between_sym ws dim vectors c x) in
      let k : n ≡ min repair_degree (length (cands_of u)) = rw (cands_length u 0 (length u / 2), l) e in
      sym (cands_take u 0 (length u / 2) n (omega arith))
      ∙ ap (λ (j : ℕ). take j (cands_of u)) k
      ∙ take_min repair_degree (cands_of u)
      ∙ ap (take repair_degree) (h ∙ ap (sort_by nearer) (f ∙ ap (λ (m : ℕ → ℕ). scored m (ids (cands_of con))) s))

  pub near_paired : repair_degree ≤ 16 → (part ps : List Pair) → length part ≡ n → pairs_of part ≡ links_at x u 0 (length part)
      → PairedNearest (links (between (distance ws) dim vectors) repair_degree (ids (cands_of con)) x) (part ++ ps) n
  unfolding links
  near_paired d part ps s g =
      record {
        added = ap pairs_of (rw (← s) (take-append_seam part ps))
            ∙ (rw s at g)
            ∙ ap (λ (cs : List Candidate). concat_map (both_ways x) (ids cs)) near_list;
        more = omega arith;
      }

-- the pairs of x so far
pub pairing_none : (x : ℕ) (w : List ℕ) → [] ≡ links_at x w 0 0
unfolding cands
pairing_none x w = refl

pub pairing_more : (x : ℕ) (w : List ℕ) (pairs : List Pair) {i : ℕ} → pairs_of (take i pairs) ≡ links_at x w 0 i → i < length pairs → {p : ℕ} → p ≡ (cand w (2 * i)).id
    → pairs_of (take (i + 1) (set pairs i (record { slot = x; parent = p }))) ≡ links_at x w 0 (i + 1)
pairing_more x w pairs {i} f h {p} e =
    ap pairs_of (take_more_set pairs i (record { slot = x; parent = p }) h)
    ∙ concat_snoc (λ q. both_ways q.slot q.parent) (take i pairs) (record { slot = x; parent = p })
    ∙ ap (λ (l : List Link). l ++ both_ways x p) f
    ∙ rw e (sym (
    ap (λ (l : List Candidate). concat_map (both_ways x) (ids l)) (front_snoc w i)
    ∙ ap (concat_map (both_ways x)) (map-append (λ c. c.id) (cands w 0 i) (cand w (2 * i) ∷ []))
    ∙ concat_snoc (both_ways x) (ids (cands w 0 i)) (cand w (2 * i)).id
    ))

-- ---- one more is connected
least_more : (m : ℕ → ℕ) (cs : List ℕ) (y : ℕ) → 0 < length cs → least_of m (cs ++ (y ∷ [])) ≡ min (least_of m cs) (m y)
least_more m [] y h = absurd (omega arith)
least_more m (c ∷ cs) y h = least_cons m c (cs ++ (y ∷ [])) ∙ least_snoc m (m c) cs y ∙ ap (λ (k : ℕ). min k (m y)) (sym (least_cons m c cs))

ids_lowered : (f : ℕ → ℕ) (l : List Candidate) → ids (map (lower_to f) l) ≡ ids l
ids_lowered f [] = refl
ids_lowered f (c ∷ l) = ap (λ (m : List ℕ). c.id ∷ m) (ids_lowered f l)

all_lowered : (P : ℕ → Type 0) (f : ℕ → ℕ) (l : List Candidate) → All (λ c. P c.id) l → All (λ c. P c.id) (map (lower_to f) l)
all_lowered P f [] h = tt
all_lowered P f (c ∷ l) h = (h.0, all_lowered P f l h.1)

least_lowered : (d : ℕ → ℕ → ℕ) (con : List ℕ) (y : ℕ) → 0 < length con → (l : List Candidate) → All (λ c. c.dist ≡ least_of (d c.id) con) l
    → All (λ c. c.dist ≡ least_of (d c.id) (con ++ (y ∷ []))) (map (lower_to (λ x. d x y)) l)
least_lowered d con y s [] h = tt
least_lowered d con y s (c ∷ l) h = (rw h.0 (sym (least_more (d c.id) con y s)), least_lowered d con y s l h.1)

-- the definition's next turn
span_first : (d : ℕ → ℕ → ℕ) (repair_degree : ℕ) (con : List ℕ) (cs : List Candidate) (i : ℕ) → All (λ c. c.dist ≡ least_of (d c.id) con) cs → Nearest cs i → (f : ℕ)
    → let x = (get_or cs i (pair 0 0)).id in
    span d repair_degree (suc f) con (ids cs) ≡ links d repair_degree con x ++ span d repair_degree f (con ++ (x ∷ [])) (swap_remove x (ids cs))
unfolding span
span_first d repair_degree con [] i h n f = absurd (omega (arith, n.within))
span_first d repair_degree con (c ∷ cs) i h n f =
    let y : (get_or (c ∷ cs) i (pair 0 0)).id ≡ least_from (λ x. least_of (d x) con) c.id (ids cs) =
    ap (λ (c : Candidate). c.id) n.least ∙ least_ids (λ x. least_of (d x) con) c cs h.0 h.1 in
    ap (λ (x : ℕ). links d repair_degree con x ++ span d repair_degree f (con ++ (x ∷ [])) (swap_remove x (c.id ∷ ids cs))) (sym y)

-- the first k of the words c are connected, and those of the words w remain
-- and the next is the nearest of these
pub record Next (measure : Measure) (dim : ℕ) (vectors c w : List ℕ) (k i next : ℕ) : Type 0 where
  pub planned : Planned measure dim vectors (cands c 0 k) (cands_of w)
  pub some : 2 ≤ length w
  pub long : length c ≡ 640
  pub nearest : Nearest (cands_of w) i
  pub read : next ≡ (cand w (2 * i)).id

module _ {measure : Measure} {dim : ℕ} {vectors c w : List ℕ} {k i next : ℕ} (f : Next measure dim vectors c w k i next) where
  few : k + length w / 2 ≤ 320
  few = omega (arith, f.planned.few, cands_length c 0 k, cands_length w 0 (length w / 2))

  within : i < length w / 2
  within = omega (arith, f.nearest.within, cands_length w 0 (length w / 2))

  pub connect_within : (2 * i + 1 < length w) × (2 * k + 1 < length c)
  connect_within = (omega (arith, within), omega (arith, few, f.long))

  next_inside : next * dim + dim ≤ length vectors
  next_inside = rw f.read (front_each (λ c. c.id * dim + dim ≤ length vectors) w (length w / 2) f.planned.remaining_in i within)

  pub connect_near : Stored dim vectors next (cands_of (take (2 * k) c)) × (length (take (2 * k) c) ≤ 640)
  connect_near = (
    record { short = f.planned.short; own = next_inside; stored = rw (cands_front c k (omega (arith, few, f.long))) f.planned.connected_in },
    omega (arith, few, length-take-le (2 * k) c (omega (arith, few, f.long))),
  )

  abbrev con : List ℕ
  con = ids (cands c 0 k)

  abbrev xs : List ℕ
  xs = ids (cands_of w)

  abbrev last : ℕ
  last = length w / 2 - 1

  abbrev end : Candidate
  end = cand w (2 * (length w / 2 - 1))

  -- those that remain, once the last has taken the place of the next
  abbrev left : List Candidate
  left = take last (set (cands_of w) i end)

  xs_long : length xs ≡ suc last
  xs_long = ids_length (cands_of w) ∙ cands_length w 0 (length w / 2) ∙ omega arith

  xs_at : (j : ℕ) → j < length w / 2 → get_or xs j 0 ≡ (cand w (2 * j)).id
  xs_at j h = get_or-map (λ c. c.id) (cands_of w) j (pair 0 0) 0 (omega (arith, cands_length w 0 (length w / 2))) ∙ ap (λ (c : Candidate). c.id) (front_at w (length w / 2) j h)

  left_ids : ids left ≡ take last (set xs i (get_or xs last 0))
  left_ids =
      sym (take-map (λ c. c.id) last (set (cands_of w) i end))
      ∙ ap (take last) (map-set (λ c. c.id) (cands_of w) i end ∙ ap (λ (x : ℕ). set xs i x) (sym (xs_at last (omega arith))))

  left_swap : swap_remove (cand w (2 * i)).id xs ≡ ids left
  left_swap =
      ap (λ (x : ℕ). swap_remove x xs) (sym (xs_at i within))
      ∙ swap_is xs last i xs_long (omega (arith, within)) f.planned.distinct
      ∙ sym left_ids

  left_distinct : Distinct (ids left)
  left_distinct = rw left_ids (distinct_swap xs last i xs_long (omega (arith, within)) f.planned.distinct)

  left_all : (P : Candidate → Type 0) → All P (cands_of w) → All P left
  left_all P h = all_take P last _ (all_set P (cands_of w) i end (front_each P w (length w / 2) h last (omega arith)) h)

  con₂ : cands (put c (2 * k) 0 next) 0 (k + 1) ≡ cands c 0 k ++ (pair 0 next ∷ [])
  con₂ = front_push c 0 next k (omega (arith, few, f.long))

  module _ (repair_degree : ℕ) {pairs' : List Pair} {r : ℕ} (s : PairedNearest (links (between measure dim vectors) repair_degree (ids (cands_of (take (2 * k) c))) next) pairs' r)
      {c₂ : List ℕ} (e₂ : c₂ ≡ put c (2 * k) 0 next) {d x : ℕ} (ed : d ≡ (cand w (2 * (length w / 2 - 1))).dist) (ex : x ≡ (cand w (2 * (length w / 2 - 1))).id)
      {w₂ : List ℕ} (e₃ : w₂ ≡ put w (2 * i) d x) where
    long₂ : length w₂ ≡ length w
    long₂ = rw e₃ (put_length w (2 * i) d x)

    rem₂ : cands_of (take (2 * (length w / 2 - 1)) w₂) ≡ left
    rem₂ =
        let a : cands w₂ 0 (length w / 2) ≡ set (cands_of w) i (pair d x) = rw e₃ (front_set w (length w / 2) i d x within (omega arith)) in
        cands_front w₂ last (omega (arith, long₂))
        ∙ sym (cands_take w₂ 0 (length w / 2) last (omega arith))
        ∙ ap (take last) (a ∙ rw (ed, ex))

    pub connect_stored : Stored dim vectors next (cands_of (take (2 * (length w / 2 - 1)) w₂))
    connect_stored = record { short = f.planned.short; own = next_inside; stored = rw rem₂ (left_all (λ c. c.id * dim + dim ≤ length vectors) f.planned.remaining_in) }

    module _ (v : List ℕ) (m : length v ≡ length (take (2 * (length w / 2 - 1)) w₂))
        (l : cands_of v ≡ map (lower_to (λ c. between measure dim vectors c next)) (cands_of (take (2 * (length w / 2 - 1)) w₂))) where
      abbrev w₃ : List ℕ
      w₃ = v ++ drop (2 * (length w / 2 - 1)) w₂

      v_long : length v ≡ 2 * last
      v_long = m ∙ length-take-le (2 * last) w₂ (omega (arith, long₂))

      rem₃ : cands w₃ 0 (length w / 2 - 1) ≡ map (lower_to (λ c. between measure dim vectors c next)) left
      rem₃ =
          let z : length v / 2 ≡ last = omega (arith, v_long) in
          cands_written w₂ v 0 (2 * last) (omega (arith, long₂)) v_long 0 last (omega arith)
          ∙ sym (ap (λ (j : ℕ). cands v 0 j) z) ∙ l ∙ ap (map (lower_to (λ c. between measure dim vectors c next))) rem₂

      con₃ : cands c₂ 0 (k + 1) ≡ cands c 0 k ++ (pair 0 next ∷ [])
      con₃ = rw e₂ con₂

      con_ids : ids (cands c₂ 0 (k + 1)) ≡ con ++ (next ∷ [])
      con_ids = ap ids con₃ ∙ map-append (λ c. c.id) (cands c 0 k) (pair 0 next ∷ [])

      rem_ids : ids (cands w₃ 0 (length w / 2 - 1)) ≡ ids left
      rem_ids = ap ids rem₃ ∙ ids_lowered (λ c. between measure dim vectors c next) left

      some_con : 0 < length con
      some_con = omega (arith, ids_length (cands c 0 k), f.planned.some)

      turn : (n : ℕ) → span (between measure dim vectors) repair_degree (suc n) con xs
          ≡ links (between measure dim vectors) repair_degree con next ++ span (between measure dim vectors) repair_degree n (ids (cands c₂ 0 (k + 1))) (ids (cands w₃ 0 (length w / 2 - 1)))
      turn n =
          (rw (front_at w (length w / 2) i within) at (span_first (between measure dim vectors) repair_degree con (cands_of w) i f.planned.least f.nearest n))
          ∙ rw (con_ids, rem_ids, ← left_swap, f.read)

      added : pairs_of (take r pairs') ≡ links (between measure dim vectors) repair_degree con next
      added = s.added ∙ ap (λ (cs : List Candidate). links (between measure dim vectors) repair_degree (ids cs) next) (cands_front c k (omega (arith, few, f.long)))

      pub connect_done : Connected measure dim vectors repair_degree (cands c 0 k) (cands_of w) (cands c₂ 0 (k + 1)) (cands w₃ 0 (length w / 2 - 1)) pairs' r
      connect_done =
          record {
            planned = record {
              short = f.planned.short;
              some = omega (arith, cands_length c₂ 0 (k + 1));
              few = omega (arith, few, cands_length c₂ 0 (k + 1), cands_length w₃ 0 (length w / 2 - 1));
              connected_in = rw con₃ (all_append (λ c. c.id * dim + dim ≤ length vectors) (cands c 0 k) (pair 0 next ∷ []) f.planned.connected_in (next_inside, tt));
              remaining_in = rw rem₃ (all_lowered (λ s. s * dim + dim ≤ length vectors) _ left (left_all (λ c. c.id * dim + dim ≤ length vectors) f.planned.remaining_in));
              least = rw (rem₃, con_ids) (least_lowered (between measure dim vectors) con next some_con left (left_all (λ c. c.dist ≡ least_of (between measure dim vectors c.id) con) f.planned.least));
              distinct = rw rem_ids left_distinct;
            };
            goes = λ n. turn n ∙ ap (λ (l : List Link). l ++ span_at measure dim vectors repair_degree (cands c₂ 0 (k + 1)) (cands w₃ 0 (length w / 2 - 1)) n) (sym added);
            more = s.more;
          }

-- the pairs from t on
part_length : (l : List Pair) (t k : ℕ) → t + k ≤ length l → length (take k (drop t l)) ≡ k
part_length l t k h = grind (arith, common_steps)

part_written : (l : List Pair) (t : ℕ) (v : List Pair) → t ≤ length l → length v ≡ length (take (length l - t) (drop t l)) → length (put_mid t (length l - t) l v) ≡ length l
part_written l t v h e =
    let long : length v ≡ length l - t = e ∙ part_length l t (length l - t) (omega arith) in
    size l t (length l - t) v (omega arith) long
  where
    size : (l : List Pair) (t k : ℕ) (v : List Pair) → t + k ≤ length l → length v ≡ k → length (put_mid t k l v) ≡ length l
    size l t k v h e = search (rules, places)

-- ---- until none remains: of the words c₀ and w₀ i are connected to the first, by t pairs
pub record Spanning (measure : Measure) (dim : ℕ) (vectors : List ℕ) (repair_degree : ℕ) (c₀ w₀ c w : List ℕ) (pairs : List Pair) (t i : ℕ) : Type 0 where
  pub planned : Planned measure dim vectors (cands c 0 (i + 1)) (cands w 0 (length w₀ / 2 - i))
  pub goes : pairs_of (take t pairs) ++ span_at measure dim vectors repair_degree (cands c 0 (i + 1)) (cands w 0 (length w₀ / 2 - i)) (length w₀ / 2 - i)
      ≡ span_at measure dim vectors repair_degree (cands c₀ 0 1) (cands_of w₀) (length w₀ / 2)
  pub few : t ≤ 16 * i
  pub bound : i ≤ length w₀ / 2
  pub most : length w₀ / 2 < 320
  pub pairs_long : length pairs ≡ 5120
  pub size : length w ≡ length w₀

pub spanning_none : (measure : Measure) (dim : ℕ) (vectors : List ℕ) (repair_degree : ℕ) (c w : List ℕ) (pairs : List Pair) → Planned measure dim vectors (cands c 0 1) (cands_of w) → length pairs ≡ 5120 → Spanning measure dim vectors repair_degree c w c w pairs 0 0
spanning_none measure dim vectors repair_degree c w pairs p l =
    let z : length w / 2 - 0 ≡ length w / 2 = omega arith in
    record { planned = rw z p; goes = rw z; few = omega arith; bound = omega arith; most = omega (arith, p.few, cands_length c 0 1, cands_length w 0 (length w / 2)); pairs_long = l; size = refl }

module _ {measure : Measure} {dim : ℕ} {vectors : List ℕ} {repair_degree : ℕ} {c₀ w₀ c w : List ℕ} {pairs : List Pair} {t i : ℕ} (f : Spanning measure dim vectors repair_degree c₀ w₀ c w pairs t i) where
  total : i + 1 + (length w₀ / 2 - i) ≤ 320
  total = omega (arith, f.planned.few, cands_length c 0 (i + 1), cands_length w 0 (length w₀ / 2 - i))

  room : i < length w₀ / 2 → t + 16 ≤ length pairs
  room h = omega (arith, f.few, f.pairs_long, f.most)

  part_is : cands_of (take (2 * (length w₀ / 2 - i)) w) ≡ cands w 0 (length w₀ / 2 - i)
  part_is = cands_front w (length w₀ / 2 - i) (omega (arith, f.size))

  pub spanning_asks : i < length w₀ / 2 → Planned measure dim vectors (cands c 0 (i + 1)) (cands_of (take (2 * (length w₀ / 2 - i)) w)) × (2 ≤ length (take (2 * (length w₀ / 2 - i)) w)) × (16 ≤ length (take (length pairs - t) (drop t pairs)))
  spanning_asks h = (rw part_is f.planned, omega (arith, length-take-le (2 * (length w₀ / 2 - i)) w (omega (arith, f.size))), omega (arith, room h, part_length pairs t (length pairs - t) (omega (arith, room h))))

  pub spanning_more : i < length w₀ / 2 → {c' : List ℕ} (v : List ℕ) {part : List Pair} {r : ℕ} → length v ≡ length (take (2 * (length w₀ / 2 - i)) w)
      → Connected measure dim vectors repair_degree (cands c 0 (i + 1)) (cands_of (take (2 * (length w₀ / 2 - i)) w)) (cands c' 0 (i + 1 + 1)) (cands v 0 (length (take (2 * (length w₀ / 2 - i)) w) / 2 - 1)) part r
      → length part ≡ length (take (length pairs - t) (drop t pairs))
      → Spanning measure dim vectors repair_degree c₀ w₀ c' (v ++ drop (2 * (length w₀ / 2 - i)) w) (put_mid t (length pairs - t) pairs part) (t + r) (i + 1)
  spanning_more h {c'} v {part} {r} m g o =
      let n = length w₀ / 2 in
      let lp : length part ≡ length pairs - t = o ∙ part_length pairs t (length pairs - t) (omega (arith, room h)) in
      let w' = v ++ drop (2 * (n - i)) w in
      let y : n - i ≡ suc (n - (i + 1)) = omega arith in
      let long : length (take (2 * (n - i)) w) ≡ 2 * (n - i) = length-take-le (2 * (n - i)) w (omega (arith, f.size)) in
      let z : length (take (2 * (n - i)) w) / 2 - 1 ≡ n - (i + 1) = omega arith in
      let same : cands w' 0 (n - (i + 1)) ≡ cands v 0 (n - (i + 1)) = cands_written w v 0 (2 * (n - i)) (omega (arith, f.size)) (m ∙ long) 0 (n - (i + 1)) (omega arith) in
      let next : Connected measure dim vectors repair_degree (cands c 0 (i + 1)) (cands w 0 (n - i)) (cands c' 0 (i + 1 + 1)) (cands w' 0 (n - (i + 1))) part r = rw same (rw (z, part_is) at g) in
      let tl : length (take t pairs) ≡ t = length-take-le t pairs (omega (arith, f.few, total, f.pairs_long)) in
      let rest = span_at measure dim vectors repair_degree (cands c' 0 (i + 1 + 1)) (cands w' 0 (n - (i + 1))) (n - (i + 1)) in
      let p : take (t + r) (put_mid t (length pairs - t) pairs part) ≡ take t pairs ++ take r part =
      (rw tl at (take-append-add (take t pairs) (part ++ drop (length pairs - t) (drop t pairs)) r))
      ∙ ap (λ (ps : List Pair). take t pairs ++ ps) (take-append-le r part (drop (length pairs - t) (drop t pairs)) (omega (arith, next.more, f.few, total, f.pairs_long, lp))) in
      record {
        planned = next.planned;
        goes =
            ap (λ (ps : List Pair). pairs_of ps ++ rest) p
            ∙ ap (λ (ls : List Link). ls ++ rest) (concat_append (λ q. both_ways q.slot q.parent) (take t pairs) (take r part))
            ∙ append_assoc (pairs_of (take t pairs)) (pairs_of (take r part)) rest
            ∙ ap (λ (ls : List Link). pairs_of (take t pairs) ++ ls) (sym (rw (← y) at (next.goes (n - (i + 1)))))
            ∙ f.goes;
        few = omega (arith, next.more, f.few);
        bound = omega arith;
        most = f.most;
        pairs_long = part_written pairs t part (omega (arith, room h)) o ∙ f.pairs_long;
        size = written_length w v 0 (2 * (n - i)) (omega (arith, f.size)) (m ∙ long) ∙ f.size;
      }

  pub spanning_done : length w₀ / 2 ≤ i → Spanned measure dim vectors repair_degree (cands c₀ 0 1) (cands_of w₀) pairs t
  unfolding span
  spanning_done h =
      let z : length w₀ / 2 - i ≡ 0 = omega arith in
      record {
        paired = sym (append-nil _)
            ∙ ap (λ (j : ℕ). pairs_of (take t pairs) ++ span (between measure dim vectors) repair_degree j (ids (cands c 0 (i + 1))) (ids (cands w 0 (length w₀ / 2 - i)))) (sym z)
            ∙ f.goes
            ∙ ap (λ (j : ℕ). span_at measure dim vectors repair_degree (cands c₀ 0 1) (cands_of w₀) j) (sym (cands_length w₀ 0 (length w₀ / 2)));
        few = omega (arith, f.few, f.bound, total);
      }
