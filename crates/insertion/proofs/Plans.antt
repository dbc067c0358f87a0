-- The plans of a chunk in the words: one plan, and one after the other. Assumes nothing.
use Prim.Native.Nat.{ℕ, zero, suc, ◌+◌, ◌-◌, ◌*◌, ◌/◌, max, ◌≤◌, ◌<◌}
use mathlib.Core.Path.{◌≡◌, refl, ap, sym, ◌∙◌, subst}
use mathlib.Core.Bool.{Bool, true}
use mathlib.Core.List.{List, ◌++◌}
use native.Mathlib.Decide.{dec_lt}
use native.Mathlib.Numerals.{add-one}
use native.Mathlib.Omega.{arith}
use lib.Ieee.{Float}
use lib.ListN.{length, take, drop, get_or, set, length-set}
use lib.Seq.{get_or-set_same, get_or-set_other}
use Rattle.lists.specs.Lists.{All, part}
use Rattle.lists.proofs.Parts.{before_next}
use Rattle.vectors.specs.Space.{slot_distance, space}
use Rattle.vectors.specs.Lent.{measure_of}
use Rattle.slots.specs.Store.{is_valid, store_view}
use Rattle.slots.specs.Lent.{graph_of}
use Rattle.candidates.specs.Inner.Words.{cands, cands_of, Small}
use Rattle.candidates.proofs.Words.{cands_agree}
use Rattle.walk.specs.Inner.Scratch.{Pool}
use Rattle.prune.specs.Prune.{prune_scored}
use Rattle.prune.specs.Inner.Selecting.{Ready, Pruned}
use Rattle.prune.proofs.Pruned.{pruned_view}
use Rattle.prune.proofs.Chosen.{chosen, chosen_live}
use Rattle.slots.proofs.Places.{live_inside}
use Rattle.lists.proofs.All.{all_map}
use Rattle.candidates.proofs.Parts.{part_length, cands_front, cands_written, written_length, outside_written, both_written}
use borrow.Rule.Slice.PartMut.{put_mid}
use Rattle.std.proofs.lemmas.List.{get_or-take, length-take-le}
use Rattle.row.specs.Row.{index_of}
use Rattle.insertion.specs.declared.layout.Layout.{Layout}
use Rattle.insert.specs.Insert.{Plan, plan}
use Rattle.insertion.specs.declared.planning.Planner.{Planner}
use Rattle.insertion.specs.Inner.Layout.{Spread, Enough}
use Rattle.insertion.specs.Inner.Chains.{Repeated}
use Rattle.insertion.specs.Inner.Plans.{Planned, start_of, Lies, Laid, AllPlanned}
use Rattle.insertion.specs.Inner.Planning.{plan_by}
use Rattle.insertion.proofs.Chaining.{Agrees}

-- ---- a selection: r candidates that a slot selects from the k at word 0 lie at `to`, whose words and room for the degree change
record Chose (degree : ℕ) (alpha : Float) (live : ℕ → Bool) (d : ℕ → ℕ → ℕ) (source : ℕ) (w : List ℕ) (k to r : ℕ) (w' : List ℕ) : Type 0 where
  pub list : cands w' to r ≡ prune_scored degree alpha live d source (cands w 0 k)
  pub count : r ≡ length (prune_scored degree alpha live d source (cands w 0 k))
  pub few : r ≤ degree
  pub size : length w' ≡ length w
  pub same : (j : ℕ) → 2 * k ≤ j → (to ≤ j → to + 2 * degree ≤ j) → get_or w' j 0 ≡ get_or w j 0

found_list : (w : List ℕ) (k to : ℕ) → 2 * k ≤ to → to ≤ length w → cands_of (take (2 * k) (take to w)) ≡ cands w 0 k
found_list w k to h l =
    let e : length (take to w) ≡ to = length-take-le to w l in
    cands_front (take to w) k (omega arith) ∙ cands_agree w (take to w) 0 k (λ j _ m. get_or-take to w j 0 (omega arith))

chose : {degree : ℕ} {alpha : Float} {live : ℕ → Bool} {d : ℕ → ℕ → ℕ} {source r : ℕ} (w : List ℕ) (k to : ℕ) (v u : List ℕ) → 2 * k ≤ to → to + 2 * degree ≤ length w
    → length v ≡ length (take (2 * k) (take to w)) → length u ≡ length (take (2 * degree) (drop to w))
    → Pruned (length (take (2 * degree) (drop to w)) / 2) alpha live d source (cands_of (take (2 * k) (take to w))) r u
    → Chose degree alpha live d source w k to r (v ++ drop (2 * k) (take to w) ++ (u ++ drop (2 * degree) (drop to w)))
chose {degree} {alpha} {live} {d} {source} {r} w k to v u h l m o f =
    let e : length v ≡ 2 * k = omega (arith, m, length-take-le to w (omega arith), length-take-le (2 * k) (take to w) (omega (arith, length-take-le to w (omega arith)))) in
    let q : length u ≡ 2 * degree = o ∙ part_length w to (2 * degree) l in
    let n : length (take (2 * degree) (drop to w)) / 2 ≡ degree = omega (arith, part_length w to (2 * degree) l) in
    let p : Pruned degree alpha live d source (cands w 0 k) r u = rw (n, found_list w k to h (omega arith)) at f in
    let x = put_mid 0 (2 * k) w v in
    let x_long : length x ≡ length w = written_length w v 0 (2 * k) (omega arith) e in
    let z : to + 0 ≡ to = omega arith in
    rw (both_written w to 0 (2 * k) (2 * degree) v u (omega arith) (omega arith) e) (record {
      list = (rw z at (cands_written x u to (2 * degree) (omega arith) q 0 r (omega (arith, p.few)))) ∙ p.list;
      count = p.count;
      few = p.few;
      size = written_length x u to (2 * degree) (omega arith) q ∙ x_long;
      same = λ j a b. outside_written x u to (2 * degree) (omega arith) q j b ∙ outside_written w v 0 (2 * k) (omega arith) e j (λ _. omega arith);
    })

-- ---- one plan, of the slot at i, behind n candidates of the plans before
module _ (p : Planner) {i n : ℕ} (w : List ℕ) (h : i < length p.slots.now) (few : n ≤ i * p.graph.rows.degree) (enough : Enough p.graph.rows.degree (length p.graph.rows.marks.now) w) where
  next_spread : Spread (n + p.graph.rows.degree) p.at
  next_spread =
      let r : i * p.graph.rows.degree + p.graph.rows.degree ≤ 256 * p.graph.rows.degree = before_next p.graph.rows.degree i 256 (omega (arith, p.fillable.few)) in
      let s = p.parts.spread in
      record {
        plans_in = omega (arith, r, few, s.plans_in);
        sources_in = omega (arith, r, few, s.sources_in);
        nexts_in = omega (arith, r, few, s.nexts_in);
        ends_in = s.ends_in;
      }

  room : p.at.list ≤ length w
  room = omega (arith, enough, p.parts.list_in, p.parts.chosen_in)

  below : p.at.list ≤ 8388608
  below = omega (arith, p.parts.list_in, p.parts.chosen_in, p.parts.below)

  pub next_places : (p.at.sources + n ≤ 8388608) × (p.at.plans + 2 * n ≤ 8388608) × (p.at.ends + i < length w) × (p.at.ends + i ≤ 8388608)
  next_places =
      let s = next_spread in (
        omega (arith, s.sources_in, s.nexts_in, s.ends_in, below),
        omega (arith, s.plans_in, s.sources_in, s.nexts_in, s.ends_in, below),
        omega (arith, p.fillable.few, s.ends_in, room),
        omega (arith, p.fillable.few, s.ends_in, below),
      )

  module _ {width : ℕ} (e : width ≡ max p.how.beam p.graph.rows.degree) {query : List ℕ} (q : query ≡ part p.graph.space.dim i p.bytes.now) {k : ℕ} {w₁ : List ℕ} (f : Pool (graph_of p.graph) query p.how.entry width w w₁ k) where
    found : k ≤ 1024
    found = omega (arith, f.few, e, p.beam_most, p.degree_most)

    to_in : (2 * k ≤ p.at.plans + 2 * n) × (p.at.plans + 2 * n + 2 * p.graph.rows.degree ≤ length w₁)
    to_in =
        let s = next_spread in
        (omega (arith, found, p.parts.heads_in), omega (arith, f.size, s.plans_in, s.sources_in, s.nexts_in, s.ends_in, room))

    pub plan_ready : Ready p.graph.space.dim p.graph.space.vectors.now p.graph.rows.marks.now (take (2 * k) (take (p.at.plans + 2 * n) w₁))
    plan_ready =
        record {
          bytes = p.graph.bytes.long;
          few = p.graph.shape.few;
          short = p.graph.bytes.small;
          small = rw (found_list w₁ k (p.at.plans + 2 * n) to_in.0 (omega (arith, to_in.1))) f.small;
        }

    module _ {id : ℕ} (d : id ≡ get_or p.slots.now i 0) {r : ℕ} (v u : List ℕ) (m : length v ≡ length (take (2 * k) (take (p.at.plans + 2 * n) w₁)))
        (o : length u ≡ length (take (2 * p.graph.rows.degree) (drop (p.at.plans + 2 * n) w₁)))
        (a : Pruned (length (take (2 * p.graph.rows.degree) (drop (p.at.plans + 2 * n) w₁)) / 2) p.how.alpha (is_valid p.graph.rows.marks.now) (slot_distance (space (measure_of p.graph.space.weights) p.graph.space.dim p.graph.space.vectors.now)) id (cands_of (take (2 * k) (take (p.at.plans + 2 * n) w₁))) r u) where
      abbrev w₂ : List ℕ
      w₂ = v ++ drop (2 * k) (take (p.at.plans + 2 * n) w₁) ++ (u ++ drop (2 * p.graph.rows.degree) (drop (p.at.plans + 2 * n) w₁))

      g : Chose p.graph.rows.degree p.how.alpha (is_valid p.graph.rows.marks.now) (slot_distance (space (measure_of p.graph.space.weights) p.graph.space.dim p.graph.space.vectors.now)) id w₁ k (p.at.plans + 2 * n) r w₂
      g = chose w₁ k (p.at.plans + 2 * n) v u to_in.0 to_in.1 m o a

      pub plan_fits : (p.at.sources + n + r ≤ length w₂) × (n + r ≤ 8388608)
      plan_fits =
          let s = next_spread in
          (omega (arith, g.few, g.size, f.size, s.sources_in, s.nexts_in, s.ends_in, room), omega (arith, g.few, s.sources_in, s.nexts_in, s.ends_in, below))

      selected : prune_scored p.graph.rows.degree p.how.alpha (is_valid p.graph.rows.marks.now) (slot_distance (space (measure_of p.graph.space.weights) p.graph.space.dim p.graph.space.vectors.now)) id (cands w₁ 0 k) ≡ (plan_by p i).outgoing
      unfolding plan store_view
      selected =
          ap (prune_scored p.graph.rows.degree p.how.alpha (is_valid p.graph.rows.marks.now) (slot_distance (space (measure_of p.graph.space.weights) p.graph.space.dim p.graph.space.vectors.now)) id) (f.list (index_of p.how.alpha p.how.entry (graph_of p.graph)) refl refl refl)
          ∙ pruned_view (index_of p.how.alpha p.how.entry (graph_of p.graph)) id _
          ∙ rw (← d, ← q, ← e)

      whole : cands w₂ (p.at.plans + 2 * n) r ≡ (plan_by p i).outgoing
      whole = g.list ∙ selected

      many : r ≡ length (plan_by p i).outgoing
      many = g.count ∙ ap length selected

      own : (plan_by p i).id ≡ id
      unfolding plan
      own = sym d

      module _ {w₃ : List ℕ} (c : Repeated w₂ (p.at.sources + n) r id w₃) where
        pub plan_end : p.at.ends + i < length w₃
        plan_end = omega (arith, c.size, g.size, f.size, next_places.2)

        before : (j : ℕ) → j < p.at.sources + n → get_or (set w₃ (p.at.ends + i) (n + r)) j 0 ≡ get_or w₂ j 0
        before j h =
            get_or-set_other w₃ (p.at.ends + i) j (n + r) 0 (λ (z : j ≡ p.at.ends + i). absurd (omega (arith, next_spread.sources_in, next_spread.nexts_in)))
            ∙ c.same j (λ (z : p.at.sources + n ≤ j). absurd (omega arith))

        pub planned : Planned p.graph.rows.degree (length p.graph.rows.marks.now) (plan_by p i) w p.at i n (n + r) (set w₃ (p.at.ends + i) (n + r))
        planned =
            let s = next_spread in
            let w' = set w₃ (p.at.ends + i) (n + r) in
            let new : cands w' (p.at.plans + 2 * n) r ≡ cands w₂ (p.at.plans + 2 * n) r = cands_agree w₂ w' (p.at.plans + 2 * n) r (λ j l m. before j (omega (arith, g.few, s.plans_in))) in
            record {
              count = ap (λ (x : ℕ). n + x) many;
              list = ap (cands w' (p.at.plans + 2 * n)) (sym many) ∙ new ∙ whole;
              few = omega (arith, g.few);
              small = subst Small selected (chosen _ _ _ _ _ (cands w₁ 0 k) (λ c. c.dist ≤ 16777216) f.small);
              inside = subst (All (λ c. c.id < length p.graph.rows.marks.now)) selected
                  (all_map (λ c. is_valid p.graph.rows.marks.now c.id ≡ true) (λ c. c.id < length p.graph.rows.marks.now) (λ c. live_inside p.graph.rows.marks.now c.id) _ (chosen_live _ _ _ _ _ (cands w₁ 0 k)));
              owned = λ j l m.
                  let y : p.at.sources + n + (j - n) ≡ p.at.sources + j = omega arith in
                  get_or-set_other w₃ (p.at.ends + i) (p.at.sources + j) (n + r) 0 (λ (z : p.at.sources + j ≡ p.at.ends + i). absurd (omega (arith, g.few, s.sources_in, s.nexts_in)))
                  ∙ (rw y at (c.all (j - n) (omega arith)))
                  ∙ sym own;
              ended = get_or-set_same w₃ (p.at.ends + i) (n + r) 0 plan_end;
              size = length-set w₃ (p.at.ends + i) (n + r) ∙ c.size ∙ g.size ∙ f.size;
              same = λ j x y u z.
                  get_or-set_other w₃ (p.at.ends + i) j (n + r) 0 z
                  ∙ c.same j (λ (t : p.at.sources + n ≤ j). omega (arith, g.few, u t))
                  ∙ g.same j (omega (arith, found)) (λ (t : p.at.plans + 2 * n ≤ j). omega (arith, y t))
                  ∙ f.same j (λ _. omega (arith, x));
            }

-- ---- a plan stays where its words do
pub start_agree : (w w' : List ℕ) (at : Layout) (k : ℕ) → ((j : ℕ) → j < k → get_or w' (at.ends + j) 0 ≡ get_or w (at.ends + j) 0) → start_of w' at k ≡ start_of w at k
start_agree w w' at zero h = refl
start_agree w w' at (suc k) h = h k (omega arith)

-- the words of the first m plans, n candidates in all, are the same
pub record AgreeUpTo (w w' : List ℕ) (at : Layout) (m n : ℕ) : Type 0 where
  pub words : Agrees w w' at n
  pub ends : (k : ℕ) → k < m → get_or w' (at.ends + k) 0 ≡ get_or w (at.ends + k) 0

module _ {capacity : ℕ} {plan : Plan} {at : Layout} {w w' : List ℕ} {m n : ℕ} (g : AgreeUpTo w w' at m n) where
  pub lies_agree : {k : ℕ} → k < m → Lies capacity plan at k w → get_or w (at.ends + k) 0 ≤ n → Lies capacity plan at k w'
  lies_agree {k} h f l =
      let s : start_of w' at k ≡ start_of w at k = start_agree w w' at k (λ j i. g.ends j (omega arith)) in
      let e : get_or w' (at.ends + k) 0 ≡ get_or w (at.ends + k) 0 = g.ends k h in
      let b : start_of w at k + length plan.outgoing ≤ n = omega (arith, f.count) in
      record {
        count = e ∙ f.count ∙ ap (λ (i : ℕ). i + length plan.outgoing) (sym s);
        list = ap (λ (i : ℕ). cands w' (at.plans + 2 * i) (length plan.outgoing)) s
            ∙ cands_agree w w' (at.plans + 2 * start_of w at k) (length plan.outgoing) (λ j x y. word j (omega arith) (omega arith))
            ∙ f.list;
        small = f.small;
        inside = f.inside;
        owned = λ j x y. g.words.sources j (omega arith) ∙ f.owned j (omega arith) (omega arith);
      }
    where
      word : (j : ℕ) → at.plans ≤ j → j < at.plans + 2 * n → get_or w' j 0 ≡ get_or w j 0
      word j x y = let e : at.plans + (j - at.plans) ≡ j = omega arith in rw e at (g.words.plans (j - at.plans) (omega arith))

pub laid_agree : {degree capacity : ℕ} {plans : ℕ → Plan} {at : Layout} {m n : ℕ} {w w' : List ℕ} → AgreeUpTo w w' at m n → Laid degree capacity plans at m n w → Laid degree capacity plans at m n w'
laid_agree {at = at} {m} {n} {w} {w'} g f =
    record {
      last = start_agree w w' at m g.ends ∙ f.last;
      few = f.few;
      each = λ k h. lies_agree g h (f.each k h) (f.within k h);
      within = λ k h. rw (g.ends k h) (f.within k h);
    }

-- ---- one plan after the other
module _ (p : Planner) {w₀ w : List ℕ} {i n : ℕ} (t : Enough p.graph.rows.degree (length p.graph.rows.marks.now) w₀)
    (f : AllPlanned p.graph.rows.degree (length p.graph.rows.marks.now) (plan_by p) w₀ p.at i n w) (h : i < length p.slots.now) where
  pub next_asks : (i < length p.slots.now) × (n ≤ i * p.graph.rows.degree) × Enough p.graph.rows.degree (length p.graph.rows.marks.now) w
  next_asks = (h, f.laid.few, rw f.size t)

  module _ {r : ℕ} {w' : List ℕ} (g : Planned p.graph.rows.degree (length p.graph.rows.marks.now) (plan_by p i) w p.at i n r w') where
    spread : Spread (n + p.graph.rows.degree) p.at
    spread = next_spread p w h f.laid.few next_asks.2

    old_agree : AgreeUpTo w w' p.at i n
    old_agree =
        let s = spread in
        let o = p.parts in
        let at = p.at in
        record {
          words = record {
            plans = λ j l.
                g.same (at.plans + j) (omega (arith, o.heads_in)) (λ (z : at.plans + 2 * n ≤ at.plans + j). absurd (omega arith))
                (λ (z : at.sources + n ≤ at.plans + j). absurd (omega (arith, s.plans_in)))
                (λ (z : at.plans + j ≡ at.ends + i). absurd (omega (arith, s.plans_in, s.sources_in, s.nexts_in)));
            sources = λ j l.
                g.same (at.sources + j) (omega (arith, o.heads_in, s.plans_in)) (λ _. omega (arith, s.plans_in)) (λ (z : at.sources + n ≤ at.sources + j). absurd (omega arith))
                (λ (z : at.sources + j ≡ at.ends + i). absurd (omega (arith, s.sources_in, s.nexts_in)));
          };
          ends = λ k l.
              g.same (at.ends + k) (omega (arith, o.heads_in, s.plans_in, s.sources_in, s.nexts_in)) (λ _. omega (arith, s.plans_in, s.sources_in, s.nexts_in)) (λ _. omega (arith, s.sources_in, s.nexts_in))
              (λ (z : at.ends + k ≡ at.ends + i). absurd (omega arith));
        }

    start_is : start_of w' p.at i ≡ n
    start_is = start_agree w w' p.at i old_agree.ends ∙ f.laid.last

    one : (k : ℕ) → k < i + 1 → Dec (k < i) → Lies (length p.graph.rows.marks.now) (plan_by p k) p.at k w'
    one k l (yes m) = lies_agree old_agree m (f.laid.each k m) (f.laid.within k m)
    one k l (no m) =
        let z : k ≡ i = omega arith in
        rw z (record {
          count = g.ended ∙ g.count ∙ ap (λ (c : ℕ). c + length (plan_by p i).outgoing) (sym start_is);
          list = rw start_is g.list;
          small = g.small;
          inside = g.inside;
          owned = λ j b c. g.owned j (omega (arith, start_is)) (omega (arith, g.ended));
        })

    end_within : (k : ℕ) → k < i + 1 → Dec (k < i) → get_or w' (p.at.ends + k) 0 ≤ r
    end_within k l (yes m) = rw (old_agree.ends k m) (omega (arith, f.laid.within k m, g.count))
    end_within k l (no m) = let z : k ≡ i = omega arith in rw z (omega (arith, g.ended))

    pub laid_more : AllPlanned p.graph.rows.degree (length p.graph.rows.marks.now) (plan_by p) w₀ p.at (i + 1) r w'
    laid_more =
        record {
          laid =
              record {
                last = rw (add-one i) g.ended;
                few = omega (arith, f.laid.few, g.few, before_next p.graph.rows.degree i (i + 1) (omega arith));
                each = λ k l. one k l (dec_lt k i);
                within = λ k l. end_within k l (dec_lt k i);
              };
          size = g.size ∙ f.size;
        }
