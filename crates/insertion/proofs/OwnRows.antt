-- The outgoing rows of a chunk, written one after the other. Assumes nothing.
use Prim.Native.Nat.{ℕ, suc, ◌+◌, ◌-◌, ◌*◌, ◌/◌, ◌≤◌, ◌<◌}
use mathlib.Core.Path.{◌≡◌, refl, ap, ◌∙◌}
use mathlib.Core.List.{List, ◌++◌}
use native.Mathlib.Numerals.{add-one}
use native.Mathlib.Omega.{arith}
use borrow.Author.Tests.{lt-ltb, le-ltb}
use Rattle.std.proofs.lemmas.List.{get_or-take, length-take-le}
use lib.ListN.{length, take, drop, get_or}
use Rattle.lists.specs.Lists.{foldl, range}
use Rattle.vectors.specs.Lent.{measure_of}
use Rattle.slots.specs.Scratch.{marks_at}
use Rattle.slots.specs.Store.{Store, store_ops, arrays}
use Rattle.candidates.specs.Candidates.{ids}
use Rattle.candidates.specs.Inner.Words.{cands, cands_of}
use Rattle.candidates.proofs.Parts.{part_length, whole_part}
use Rattle.candidates.proofs.Words.{cands_agree}
use Rattle.row.specs.Row.{Together, index_of}
use Rattle.slots.specs.Inner.Writing.{Wrote}
use Rattle.row.specs.Lent.{held, SamePruner}
use Rattle.row.specs.declared.pruner.Pruner.{Pruner}
use Rattle.row.proofs.Kept.{pruner_none, pruner_then}
use Rattle.insertion.specs.declared.layout.Layout.{Layout}
use Rattle.insertion.specs.Inner.Chains.{head}
use Rattle.insertion.specs.Inner.Plans.{start_of, plan_cands}
use Rattle.insertion.specs.Inner.Outgoing.{own_row, own_at, OwnRow, OutgoingRows}
use Rattle.insertion.specs.Inner.Writing.{index_by, Written, Below}
use Rattle.insertion.proofs.Same.{together_as, long_written, below_none, below_then, below_joined}

-- ---- one slot; z is s as an index
module _ (p : Pruner 0) (at : Layout) (n : ℕ) {s : ℕ} {w : List ℕ} (b e : ℕ) where
  pub unnamed_not : {z : ℕ} → z ≡ s → get_or w (marks_at + z) 0 < n
      → ((entry : ℕ) → Written entry p (own_row w n (cands w (at.plans + 2 * b) (e - b)) (index_by entry p) s) p) × Below at.chosen w w
  unfolding own_row
  unnamed_not q h = let k : head w s < n = rw q at h in (λ entry. record { index = rw (lt-ltb _ _ k); same = pruner_none p }, below_none at.chosen w)

  module _ (h : s < length p.marks.now) (o : OwnRow p.rows.now.degree s w at b e) where
    pub own_list : (length (take (at.plans + 2 * e - (at.plans + 2 * b)) (drop (at.plans + 2 * b) (take at.chosen w))) / 2 ≡ e - b)
        × (cands_of (take (at.plans + 2 * e - (at.plans + 2 * b)) (drop (at.plans + 2 * b) (take at.chosen w))) ≡ cands w (at.plans + 2 * b) (e - b))
    own_list =
        let k = at.plans + 2 * e - (at.plans + 2 * b) in
        let l : length (take at.chosen w) ≡ at.chosen = length-take-le at.chosen w (omega (arith, o.room)) in
        let m : at.plans + 2 * b + k ≤ length (take at.chosen w) = omega (arith, o.rising, o.plans_in) in (
          omega (arith, part_length (take at.chosen w) (at.plans + 2 * b) k m, o.rising),
          whole_part (take at.chosen w) (at.plans + 2 * b) k (e - b) m (omega (arith, o.rising))
              ∙ cands_agree w (take at.chosen w) (at.plans + 2 * b) (e - b) (λ j x y. get_or-take at.chosen w j 0 (omega (arith, o.rising, o.plans_in))),
        )

    module _ {targets edges : List ℕ}
        (f : Wrote p.rows.now.degree p.rows.now.targets.now p.rows.now.edges.now p.rows.now.versions.now s (ids (cands_of (take (at.plans + 2 * e - (at.plans + 2 * b)) (drop (at.plans + 2 * b) (take at.chosen w))))) targets edges) where
      written : (entry : ℕ) → index_of p.alpha entry (arrays (measure_of p.kept.now.space.weights) p.kept.now.space.dim p.rows.now.degree p.kept.now.space.vectors.now targets edges p.rows.now.versions.now p.marks.now)
          ≡ store_ops.write (index_by entry p) s (ids (cands w (at.plans + 2 * b) (e - b)))
      written entry = (f.does (measure_of p.kept.now.space.weights) p.kept.now.space.dim p.kept.now.space.vectors.now p.marks.now).does (index_by entry p) refl h ∙ ap (λ cs. store_ops.write (index_by entry p) s (ids cs)) own_list.1

      pub unnamed_together : Together (arrays (measure_of p.kept.now.space.weights) p.kept.now.space.dim p.rows.now.degree p.kept.now.space.vectors.now targets edges p.rows.now.versions.now p.marks.now)
      unnamed_together = together_as (long_written (held p) s _ p.together (written 0)) p.together

      pub unnamed_written : (u : List ℕ) {z : ℕ} → length u ≡ length (drop at.chosen w) → z ≡ s → n ≤ get_or w (marks_at + z) 0 → (entry : ℕ)
          → (index_of p.alpha entry (arrays (measure_of p.kept.now.space.weights) p.kept.now.space.dim p.rows.now.degree p.kept.now.space.vectors.now targets edges p.rows.now.versions.now p.marks.now)
          ≡ own_row w n (cands w (at.plans + 2 * b) (e - b)) (index_by entry p) s)
          × Below at.chosen w (take at.chosen w ++ u)
      unfolding own_row
      unnamed_written u t q k entry =
          let l : n ≤ head w s = rw q at k in
          (rw (le-ltb _ _ l) (written entry), below_joined w u at.chosen (omega (arith, o.room)) t)

-- ---- one slot after the other; b is where the candidates of the i-th plan begin
pub record OutgoingUpTo (slots w₀ : List ℕ) (at : Layout) (n : ℕ) (p₀ p : Pruner 0) (w : List ℕ) (b i : ℕ) : Type 0 where
  pub goes : (entry : ℕ) → foldl (own_at w₀ at n slots) (index_by entry p) (range i (length slots - i)) ≡ foldl (own_at w₀ at n slots) (index_by entry p₀) (range 0 (length slots))
  pub from : b ≡ start_of w₀ at i
  pub bound : i ≤ length slots
  pub same : SamePruner p₀ p
  pub words : Below at.chosen w₀ w

module _ {slots w₀ : List ℕ} {at : Layout} {n : ℕ} {p₀ : Pruner 0} (o : OutgoingRows p₀.rows.now.degree (length p₀.marks.now) slots w₀ at n) {p : Pruner 0} {w : List ℕ} {b i : ℕ}
    (f : OutgoingUpTo slots w₀ at n p₀ p w b i) (h : i < length slots) where
  module _ {e : ℕ} (q : e ≡ get_or w (at.ends + i) 0) where
    end_is : e ≡ get_or w₀ (at.ends + i) 0
    end_is = q ∙ f.words.same (at.ends + i) (omega (arith, o.few, o.spread.ends_in, o.list_in))

    after : (b ≤ e) × (e ≤ n) × (e ≤ b + p₀.rows.now.degree) × (at.plans + 2 * n ≤ at.chosen)
    after =
        let x = o.rising i h in
        let y = o.within i h in
        let z = o.each_few i h in
        let s = o.spread in
        (omega (arith, end_is, f.from), omega (arith, end_is), omega (arith, end_is, f.from), omega (arith, s.plans_in, s.sources_in, s.nexts_in, s.ends_in, o.list_in))

    list_is : cands w (at.plans + 2 * b) (e - b) ≡ plan_cands w₀ at i
    list_is =
        cands_agree w₀ w (at.plans + 2 * b) (e - b) (λ j x₁ y₁. f.words.same j (let l = after in omega (arith, l.0, l.1, l.3)))
        ∙ rw (f.from, end_is)

    module _ {p' : Pruner 0} {w' : List ℕ} (g : (entry : ℕ) → Written entry p (own_row w n (cands w (at.plans + 2 * b) (e - b)) (index_by entry p) (get_or slots i 0)) p') (k : Below at.chosen w w') where
      turn : (entry : ℕ) → index_by entry p' ≡ own_at w₀ at n slots (index_by entry p) i
      unfolding own_at own_row
      turn entry = (g entry).index ∙ rw (f.words.same (marks_at + get_or slots i 0) (omega (arith, o.inside i h, o.heads_in, after.3)), list_is)

      pub outgoing_more : OutgoingUpTo slots w₀ at n p₀ p' w' e (i + 1)
      outgoing_more =
          let z : length slots - i ≡ suc (length slots - (i + 1)) = omega arith in
          let y : i + 1 ≡ suc i = omega arith in
          record {
            goes = λ entry. let was = rw z at f.goes entry in
                ap (λ (b : Store). foldl (own_at w₀ at n slots) b (range (i + 1) (length slots - (i + 1)))) (turn entry) ∙ rw y (rw y at was);
            from = end_is ∙ rw (add-one i);
            bound = omega arith;
            same = pruner_then f.same (g 0).same;
            words = below_then f.words k;
          }
