-- The rows of a chunk as the functions leave them, and as `chunk_rows` has them; the whole chunk. Assumes nothing.
use Prim.Native.Nat.{ℕ, zero, suc, ◌+◌, ◌-◌, ◌*◌, ◌≤◌, ◌<◌}
use mathlib.Core.Bool.{Bool, true, false, not, cond}
use mathlib.Core.Path.{◌≡◌, refl, ap, ap₂, sym, ◌∙◌}
use mathlib.Core.List.{List, ◌∷◌, ◌++◌, map, map-map}
use native.Mathlib.Nat.{mul-le-mul_right}
use native.Mathlib.Omega.{arith}
use lib.Dec.{ltb}
use lib.ListN.{length, get_or}
use lib.Ieee.{Float}
use Rattle.lists.specs.Lists.{filter, foldl, range, elem, sorted_set}
use Rattle.lists.proofs.Ranges.{foldl_same}
use Rattle.vectors.specs.Lent.{measure_of}
use Rattle.slots.specs.Store.{Arrays, Store, store_view, store_ops}
use Rattle.slots.specs.Lent.{rows_mut_of, SameSlices}
use Rattle.slots.specs.Ops.{Row, write_rows}
use Rattle.slots.proofs.Writes.{Whole}
use Rattle.candidates.specs.Candidates.{ids}
use Rattle.candidates.specs.Inner.Words.{cands}
use Rattle.prune.proofs.Chosen.{chosen_few}
use Rattle.row.specs.Row.{Together, index_of}
use Rattle.row.specs.Lent.{held}
use Rattle.row.specs.declared.pruner.Pruner.{Pruner}
use Rattle.row.proofs.Kept.{together_shaped, pruner_then}
use Rattle.insert.specs.Insert.{Plan, plan, outgoing_row, target_row, chunk_rows, fill_all, insert_chunk}
use Rattle.std.specs.Borrow.{Bor}
use Rattle.insertion.specs.declared.graph.Selection.{Selection}
use Rattle.insertion.specs.declared.inserter.Inserter.{Inserter}
use Rattle.insertion.specs.declared.layout.Layout.{Layout}
use Rattle.insertion.specs.Inner.Layout.{Spread, Parts, Enough}
use Rattle.insertion.specs.Inner.Chains.{head, Chainable, Chained}
use Rattle.insertion.specs.Inner.Filling.{filling_at, fillings_from, chunk_of, Fillable}
use Rattle.insertion.specs.Inner.Inserting.{index_in, Inserted}
use Rattle.insertion.specs.Inner.Plans.{start_of, plan_cands, plan_at, Laid, AllPlanned, Linked}
use Rattle.insertion.specs.Inner.Outgoing.{own_row, own_at, OutgoingRows}
use Rattle.insertion.specs.Inner.Targets.{renewed_at, Renewable}
use Rattle.insertion.specs.Inner.Writing.{index_by, Written, Below}
use Rattle.insertion.specs.Inner.Chunk.{rows_written, RowsWritten}
use Rattle.insertion.proofs.Chaining.{slots_agree}
use Rattle.insertion.proofs.Same.{inserter_marks, below_less}
use Rattle.insertion.proofs.Plans.{AgreeUpTo, laid_agree}
use Rattle.insertion.proofs.Targeting.{renewable_kept, sweep_kept}
use Rattle.insertion.proofs.Order.{named, free_row, write_row, renew, rows_at_once}
use Rattle.insertion.proofs.Read.{plans_inside, plans_small, all_incoming, head_named, named_inside}

-- ---- the layout
-- fewer candidates have room, too
pub spread_few : {n m : ℕ} {at : Layout} → n ≤ m → Spread m at → Spread n at
spread_few h s = record { plans_in = omega (arith, s.plans_in); sources_in = omega (arith, s.sources_in); nexts_in = omega (arith, s.nexts_in); ends_in = s.ends_in }

-- the candidates of a chunk's plans are few enough
laid_most : {degree capacity : ℕ} {plans : ℕ → Plan} {at : Layout} {m n : ℕ} {w : List ℕ} → Laid degree capacity plans at m n w → m ≤ 256 → n ≤ 256 * degree
laid_most {degree} f h = omega (arith, f.few, mul-le-mul_right degree h)

-- ---- the plans chained
module _ {degree capacity m : ℕ} {w : List ℕ} {at : Layout} (s : m ≤ 256) (t : Enough degree capacity w) (o : Parts capacity degree at)
    {plans : ℕ → Plan} {n : ℕ} {w₁ : List ℕ} (f : AllPlanned degree capacity plans w at m n w₁) where
  few : n ≤ 256 * degree
  few = laid_most f.laid s

  pub link_chainable : Chainable w₁ at n capacity
  link_chainable =
      record {
        heads_in = o.heads_in;
        spread = spread_few few o.spread;
        room = omega (arith, f.size, o.spread.ends_in, o.list_in, o.chosen_in, t);
        inside = plans_inside f.laid;
      }

  module _ {w₂ : List ℕ} (g : Chained w₁ at n capacity w₂) where
    chain_agrees : AgreeUpTo w₁ w₂ at m n
    chain_agrees =
        let p = spread_few few o.spread in
        record {
          words = record {
            plans = λ j h. g.same (at.plans + j) (λ _. omega (arith, o.heads_in)) (λ (z : at.nexts ≤ at.plans + j). absurd (omega (arith, p.plans_in, p.sources_in)));
            sources = λ j h. g.same (at.sources + j) (λ _. omega (arith, o.heads_in, p.plans_in)) (λ (z : at.nexts ≤ at.sources + j). absurd (omega (arith, p.sources_in)));
          };
          ends = λ k h. g.same (at.ends + k) (λ _. omega (arith, o.heads_in, p.plans_in, p.sources_in, p.nexts_in)) (λ _. omega (arith, p.nexts_in));
        }

    pub linked : Linked degree capacity plans w at m n w₂
    linked =
        record {
          laid = laid_agree chain_agrees f.laid;
          chains = λ t h. rw (slots_agree chain_agrees.words t) (g.chains t h);
          size = g.size ∙ f.size;
        }

-- ---- rows written after other rows
module _ (p : Pruner 0) (slots : List ℕ) {w : List ℕ} {at : Layout} {n : ℕ} (q : Renewable p.rows.now.degree (length p.marks.now) w at n) {p₁ : Pruner 0} {w₁ : List ℕ}
    (f : (entry : ℕ) → Written entry p (foldl (own_at w at n slots) (index_by entry p) (range 0 (length slots))) p₁) (l : Below at.chosen w w₁) where
  low : Below at.list w w₁
  low = below_less (omega (arith, q.list_in)) l

  pub named_renewable : Renewable p₁.rows.now.degree (length p₁.marks.now) w₁ at n
  named_renewable = let s = (f 0).same in rw (s.slices.degree, s.marks) (renewable_kept q w₁ low.same low.size)

  pub rows_both : {p₂ : Pruner 0} → ((entry : ℕ) → Written entry p₁ (foldl (renewed_at w₁ at n) (index_by entry p₁) (range 0 (length p₁.marks.now))) p₂)
      → (entry : ℕ) → Written entry p (rows_written w at n slots (index_by entry p)) p₂
  rows_both g entry =
      let b = index_by entry p₁ in
      record {
        index = (g entry).index
            ∙ ap (λ (m : Bor (List ℕ)). foldl (renewed_at w₁ at n) b (range 0 (length m.now))) (f 0).same.marks
            ∙ sweep_kept q w₁ low.same b
            ∙ ap (λ (b : Store). foldl (renewed_at w at n) b (range 0 (length p.marks.now))) (f entry).index;
        same = pruner_then (f 0).same (g 0).same;
      }

-- what is left beside what stays
pub rows_end : {how : Selection} {p p₂ : Pruner 0} {slots w : List ℕ} {at : Layout} {n : ℕ} → p.alpha ≡ how.alpha → ((entry : ℕ) → Written entry p (rows_written w at n slots (index_by entry p)) p₂)
    → RowsWritten how (held p) slots w at n (rows_mut_of (measure_of p.kept.now.space.weights) p.kept.now.space.dim p.kept.now.space.vectors.now p₂.rows.now p.marks.now) × SameSlices p.rows.now p₂.rows.now
rows_end {how} {p} {p₂} a g =
    let s = (g 0).same in
    let x = p₂.together in
    (record { index = rw (s.alpha, s.space, s.marks, a) at (g how.entry).index; together = rw (s.space, s.marks) at x }, s.slices)

-- ---- what the words say
module _ {degree capacity : ℕ} {plans : ℕ → Plan} {w₀ : List ℕ} {at : Layout} {m n : ℕ} {w : List ℕ} (f : Linked degree capacity plans w₀ at m n w) where
  abbrev all : List Plan
  all = map plans (range 0 m)

  is_named : (s : ℕ) → s < capacity → ltb (head w s) n ≡ elem s (named all)
  is_named s h = head_named f.laid (head w s) s (f.chains s h)

  renewed_is : (b : Store) (s : ℕ) → s < capacity → renewed_at w at n b s ≡ renew all b s
  unfolding renewed_at target_row
  renewed_is b s h = rw (is_named s h, all_incoming f.laid s)

  -- the outgoing rows
  module _ (slots : List ℕ) (own : (k : ℕ) → k < m → (plans k).id ≡ get_or slots k 0) (inside : (k : ℕ) → k < m → get_or slots k 0 < capacity) where
    own_is : (b : Store) (k : ℕ) → k < m → own_at w at n slots b k ≡ cond (free_row all (outgoing_row (plans k))) (write_row b (outgoing_row (plans k))) b
    unfolding own_at own_row outgoing_row
    own_is b k h = rw (own k h, is_named (get_or slots k 0) (inside k h), x) (go (elem (get_or slots k 0) (named all)))
      where
        z : get_or w (at.ends + k) 0 - start_of w at k ≡ length (plans k).outgoing
        z = omega (arith, (f.laid.each k h).count)

        x : plan_cands w at k ≡ (plans k).outgoing
        x = ap (cands w (at.plans + 2 * start_of w at k)) z ∙ (f.laid.each k h).list

        go : (c : Bool) → cond c b (store_ops.write b (get_or slots k 0) (ids (plans k).outgoing)) ≡ cond (not c) (store_ops.write b (get_or slots k 0) (ids (plans k).outgoing)) b
        go true = refl
        go false = refl

    own_all : (j k : ℕ) → k + j ≡ m → (b : Store) → foldl (own_at w at n slots) b (range k j) ≡ foldl write_row b (filter (free_row all) (map outgoing_row (map plans (range k j))))
    own_all zero k e b = refl
    own_all (suc j) k e b =
        own_all j (suc k) (omega arith) (own_at w at n slots b k)
        ∙ ap (λ (b : Store). foldl write_row b rest) (own_is b k (omega arith))
        ∙ go (free_row all (outgoing_row (plans k)))
      where
        rest : List Row
        rest = filter (free_row all) (map outgoing_row (map plans (range (suc k) j)))

        go : (c : Bool) → foldl write_row (cond c (write_row b (outgoing_row (plans k))) b) rest ≡ foldl write_row b (cond c (outgoing_row (plans k) ∷ rest) rest)
        go true = refl
        go false = refl

    pub rows_are : (b : Store) → b.capacity ≡ capacity → Whole b
        → foldl (renewed_at w at n) (foldl (own_at w at n slots) b (range 0 m)) (range 0 capacity)
        ≡ write_rows store_ops b (map outgoing_row all ++ map (target_row (store_view b) all) (sorted_set (named all)))
    rows_are b q k =
        foldl_same (renewed_at w at n) (renew all) capacity renewed_is capacity 0 (omega arith) _
        ∙ ap (λ (b : Store). foldl (renew all) b (range 0 capacity)) (own_all m 0 (omega arith) b)
        ∙ rows_at_once all b capacity k (named_inside f.laid)

-- ---- the rows of a chunk
pub linked_as : (alpha : Float) (entry beam : ℕ) (bytes slots : List ℕ) {b a : Arrays} {w : List ℕ} {at : Layout} {n : ℕ} {w' : List ℕ} → b ≡ a
    → Linked b.degree (length b.marks) (plan_at b alpha entry beam bytes slots) w at (length slots) n w' → Linked a.degree (length a.marks) (plan_at a alpha entry beam bytes slots) w at (length slots) n w'
linked_as alpha entry beam bytes slots e f = rw e at f

outgoing_few : (a : Arrays) (alpha : Float) (entry beam : ℕ) (bytes slots : List ℕ) (k : ℕ) → length (plan_at a alpha entry beam bytes slots k).outgoing ≤ a.degree
unfolding plan store_view
outgoing_few a alpha entry beam bytes slots k = chosen_few _ _ _ _ _ _

own_id : (a : Arrays) (alpha : Float) (entry beam : ℕ) (bytes slots : List ℕ) (k : ℕ) → (plan_at a alpha entry beam bytes slots k).id ≡ get_or slots k 0
unfolding plan
own_id a alpha entry beam bytes slots k = refl

module _ (a : Arrays) (alpha : Float) (entry beam : ℕ) {bytes slots w : List ℕ} {at : Layout} (s : Fillable a.dim (length a.marks) bytes slots)
    (t : Enough a.degree (length a.marks) w) (o : Parts (length a.marks) a.degree at) {n : ℕ} {w₁ : List ℕ}
    (f : Linked a.degree (length a.marks) (plan_at a alpha entry beam bytes slots) w at (length slots) n w₁) where
  plans_few : n ≤ 256 * a.degree
  plans_few = laid_most f.laid s.few

  pub rows_outgoing : OutgoingRows a.degree (length a.marks) slots w₁ at n
  rows_outgoing =
      record {
        few = s.few;
        inside = s.inside;
        heads_in = o.heads_in;
        rising = λ k h. omega (arith, (f.laid.each k h).count);
        each_few = λ k h. omega (arith, (f.laid.each k h).count, outgoing_few a alpha entry beam bytes slots k);
        within = f.laid.within;
        spread = spread_few plans_few o.spread;
        list_in = omega (arith, o.list_in);
        room = omega (arith, f.size, o.chosen_in, t);
        below = omega (arith, o.chosen_in, o.below);
      }

  pub rows_renewable : Renewable a.degree (length a.marks) w₁ at n
  rows_renewable =
      record {
        chains = f.chains;
        heads_in = o.heads_in;
        spread = spread_few plans_few o.spread;
        list_in = omega (arith, plans_few, o.list_in);
        room = omega (arith, f.size, o.chosen_in, t);
        below = omega (arith, o.chosen_in, o.below);
        small = plans_small f.laid;
      }

  pub rows_inserted : Together a → rows_written w₁ at n slots (index_of alpha entry a)
      ≡ write_rows store_ops (index_of alpha entry a) (chunk_rows (store_view (index_of alpha entry a)) beam (chunk_of a.dim bytes slots))
  unfolding chunk_rows fillings_from
  rows_inserted x =
      let b = index_of alpha entry a in
      let v = store_view b in
      let e : map (plan_at a alpha entry beam bytes slots) (range 0 (length slots)) ≡ map (plan v beam) (chunk_of a.dim bytes slots) =
      sym (map-map (plan v beam) (filling_at a.dim bytes slots) (range 0 (length slots))) in
      rows_are f slots (λ k h. own_id a alpha entry beam bytes slots k) s.inside b refl (together_shaped x)
      ∙ ap (λ (all : List Plan). write_rows store_ops b (map outgoing_row all ++ map (target_row v all) (sorted_set (named all)))) e

-- ---- the whole chunk, filled by i₁
module _ (bytes slots : List ℕ) {i i₁ : Inserter} (f : Inserted i (fill_all store_ops (index_in i) (chunk_of i.graph.now.dim bytes slots)) i₁) where
  pub fillable_now : Fillable i.graph.now.dim (length i.graph.now.marks.now) bytes slots → Fillable i₁.graph.now.dim (length i₁.graph.now.marks.now) bytes slots
  fillable_now s = rw (f.same.slices.dim, inserter_marks f.same) s

  pub enough_now : (w : List ℕ) → Enough i.graph.now.degree (length i.graph.now.marks.now) w → Enough i₁.graph.now.degree (length i₁.graph.now.marks.now) w
  enough_now w t = rw (f.same.slices.degree, inserter_marks f.same) t

  pub chunk_inserted : (b : Store) → b ≡ write_rows store_ops (index_in i₁) (chunk_rows (store_view (index_in i₁)) i₁.how.beam (chunk_of i₁.graph.now.dim bytes slots))
      → b ≡ insert_chunk store_ops i.how.beam (index_in i) (chunk_of i.graph.now.dim bytes slots)
  unfolding insert_chunk store_ops
  chunk_inserted _ e =
      let b = index_in i₁ in
      e
      ∙ ap₂ (λ (h : Selection) (dim : ℕ). write_rows store_ops b (chunk_rows (store_view b) h.beam (chunk_of dim bytes slots))) f.same.how f.same.slices.dim
      ∙ ap (λ (b : Store). write_rows store_ops b (chunk_rows (store_view b) i.how.beam (chunk_of i.graph.now.dim bytes slots))) f.index
