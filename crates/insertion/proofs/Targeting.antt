-- The rows of the slots that the plans name, in one sweep. Assumes nothing.
use Prim.Native.Nat.{ℕ, zero, suc, ◌+◌, ◌-◌, ◌*◌, ◌≤◌, ◌<◌}
use mathlib.Core.Bool.{Bool, true, false, cond}
use mathlib.Core.Path.{◌≡◌, ap, ◌∙◌}
use mathlib.Core.List.{List, ◌∷◌, ◌++◌}
use native.Mathlib.Omega.{arith}
use borrow.Author.Tests.{lt-ltb, le-ltb}
use lib.Dec.{eqb}
use borrow.Rule.Slice.PartMut.{put_mid}
use Rattle.std.proofs.lemmas.List.{get_or_append_left, get_or-take, length-take-le, length-append, length-drop}
use lib.ListN.{length, take, drop, get_or}
use lib.Ieee.{Float}
use Rattle.lists.specs.Lists.{foldl, range}
use Rattle.lists.proofs.All.{all_append}
use Rattle.lists.proofs.Ranges.{foldl_same}
use Rattle.slots.specs.Scratch.{marks_at}
use Rattle.slots.specs.Store.{Arrays, Store, store_view, store_ops, arrays}
use Rattle.candidates.specs.Candidates.{Candidate, ids}
use Rattle.candidates.specs.Inner.Words.{cands, cands_of, Small}
use Rattle.candidates.proofs.Words.{cands_agree}
use Rattle.candidates.proofs.Parts.{part_length, whole_part, cands_written, written_length, outside_written}
use Rattle.prune.specs.Prune.{prune}
use Rattle.row.specs.Row.{index_of, live_scored, LiveScored, WrotePruned}
use Rattle.insertion.specs.declared.layout.Layout.{Layout}
use Rattle.insertion.specs.Inner.Chains.{head, at_slot, incoming_at, Takeable, Took}
use Rattle.insertion.specs.Inner.Targets.{renewed_at, Renewable}
use Rattle.row.specs.Lent.{SamePruner}
use Rattle.row.specs.declared.pruner.Pruner.{Pruner}
use Rattle.row.proofs.Kept.{pruner_then}
use Rattle.insertion.specs.Inner.Writing.{index_by, Written, Below}
use Rattle.insertion.proofs.Same.{below_then}
use Rattle.insertion.proofs.Chaining.{Agrees, incoming_agree, chain_agree}

-- ---- what comes in
small_incoming : (w : List ℕ) (at : Layout) (t n : ℕ) → ((j : ℕ) → j < n → get_or w (at.plans + 2 * j) 0 ≤ 16777216) → (i k : ℕ) → i + k ≤ n → Small (incoming_at w at (at_slot w at t i k))
unfolding at_slot
small_incoming w at t n h i zero l = tt
small_incoming w at t n h i (suc k) l = go (eqb (get_or w (at.plans + 2 * i + 1) 0) t) (small_incoming w at t n h (suc i) k (omega arith))
  where
    go : (c : Bool) → Small (incoming_at w at (at_slot w at t (suc i) k)) → Small (incoming_at w at (cond c (i ∷ at_slot w at t (suc i) k) (at_slot w at t (suc i) k)))
    go true r = (h i (omega arith), r)
    go false r = r

-- ---- the words below the list are the same
module _ {degree capacity : ℕ} {w : List ℕ} {at : Layout} {n : ℕ} (q : Renewable degree capacity w at n) (w₁ : List ℕ) (same : (j : ℕ) → j < at.list → get_or w₁ j 0 ≡ get_or w j 0) where
  below_agrees : Agrees w w₁ at n
  below_agrees =
      let s = q.spread in
      record {
        plans = λ j h. same (at.plans + j) (omega (arith, s.plans_in, s.sources_in, s.nexts_in, s.ends_in));
        sources = λ j h. same (at.sources + j) (omega (arith, s.sources_in, s.nexts_in, s.ends_in));
      }

  heads_agree : (t : ℕ) → t < capacity → head w₁ t ≡ head w t
  heads_agree t h = let s = q.spread in same (marks_at + t) (omega (arith, q.heads_in, s.plans_in, s.sources_in, s.nexts_in, s.ends_in))

  pub renewable_kept : length w₁ ≡ length w → Renewable degree capacity w₁ at n
  renewable_kept size =
      let s = q.spread in
      record {
        chains = λ t h. chain_agree below_agrees (λ j m. same (at.nexts + j) (omega (arith, s.nexts_in, s.ends_in))) t (heads_agree t h) (q.chains t h);
        heads_in = q.heads_in;
        spread = s;
        list_in = q.list_in;
        room = rw size q.room;
        below = q.below;
        small = λ j m. rw (below_agrees.plans (2 * j) (omega arith)) (q.small j m);
      }

  pub renewed_kept : (b : Store) (s : ℕ) → s < capacity → renewed_at w₁ at n b s ≡ renewed_at w at n b s
  unfolding renewed_at
  renewed_kept b s h = rw (heads_agree s h, incoming_agree below_agrees s)

  pub sweep_kept : (b : Store) → foldl (renewed_at w₁ at n) b (range 0 capacity) ≡ foldl (renewed_at w at n) b (range 0 capacity)
  sweep_kept b = foldl_same (renewed_at w₁ at n) (renewed_at w at n) capacity renewed_kept capacity 0 (omega arith) b

-- ---- one slot; z is s as an index
pub head_in : {degree capacity : ℕ} {w : List ℕ} {at : Layout} {n z s : ℕ} → Renewable degree capacity w at n → z ≡ s → s < capacity → marks_at + z < length w
head_in q e h = let p = q.spread in omega (arith, q.heads_in, p.plans_in, p.sources_in, p.nexts_in, p.ends_in, q.list_in, q.room)

pub renewed_not : (w : List ℕ) {n z s : ℕ} (at : Layout) (b : Store) → z ≡ s → n ≤ get_or w (marks_at + z) 0 → b ≡ renewed_at w at n b s
unfolding renewed_at
renewed_not w {n} {s = s} at b e h = let k : n ≤ head w s = rw e at h in rw (le-ltb _ _ k)

module _ {a : Arrays} {s : ℕ} {w : List ℕ} {at : Layout} {n : ℕ} {z : ℕ} (e : z ≡ s) where
  module _ (o : s < length a.marks) (q : Renewable a.degree (length a.marks) w at n) where
    -- the live row, v, is written to the words of the list
    module _ {k : ℕ} (v : List ℕ) (l : length v ≡ length (take (at.chosen - at.list) (drop at.list w))) (f : LiveScored a s k v) where
      abbrev w₁ : List ℕ
      w₁ = put_mid at.list (at.chosen - at.list) w v

      inside : at.list + (at.chosen - at.list) ≤ length w
      inside = omega (arith, q.list_in, q.room)

      long : length v ≡ at.chosen - at.list
      long = l ∙ part_length w at.list (at.chosen - at.list) inside

      size : length w₁ ≡ length w
      size = written_length w v at.list (at.chosen - at.list) inside long

      row : cands w₁ at.list k ≡ cands v 0 k
      row = let z : at.list + 0 ≡ at.list = omega arith in rw z at (cands_written w v at.list (at.chosen - at.list) inside long 0 k (omega (arith, f.few, q.list_in)))

      low : (j : ℕ) → j < at.list → get_or w₁ j 0 ≡ get_or w j 0
      low j h = outside_written w v at.list (at.chosen - at.list) inside long j (λ (y : at.list ≤ j). absurd (omega arith))

      pub row_takes : Takeable w₁ at n z k
      row_takes =
          rw e (record {
            chain = (renewable_kept q w₁ low size).chains s o;
            head_in = omega (arith, q.heads_in);
            spread = q.spread;
            room = omega (arith, size, f.few, q.list_in, q.room);
          })

      module _ {m : ℕ} {w₂ : List ℕ} (t : Took w₁ at n z k m w₂) where
        took : cands w₂ at.list m ≡ cands v 0 k ++ incoming_at w at (at_slot w at s 0 n)
        took = t.list ∙ rw e (rw row (ap (λ (l : List Candidate). cands v 0 k ++ l) (incoming_agree (below_agrees q w₁ low) s)))

        pub split_bounds : (at.chosen ≤ length w₂) × (at.list + 2 * m ≤ length (take at.chosen w₂))
        split_bounds = (omega (arith, t.size, size, q.room), omega (arith, t.few, f.few, q.list_in, length-take-le at.chosen w₂ (omega (arith, t.size, size, q.room))))

        listed : cands_of (take (at.list + 2 * m - at.list) (drop at.list (take at.chosen w₂))) ≡ cands w₂ at.list m
        listed =
            whole_part (take at.chosen w₂) at.list (at.list + 2 * m - at.list) m (omega (arith, split_bounds.1)) (omega arith)
            ∙ cands_agree w₂ (take at.chosen w₂) at.list m (λ j x y. get_or-take at.chosen w₂ j 0 (omega (arith, t.few, f.few, q.list_in)))

        pub row_prunable : Small (cands_of (take (at.list + 2 * m - at.list) (drop at.list (take at.chosen w₂)))) × (2 * a.degree ≤ length (drop at.chosen w₂))
        row_prunable = (
          rw (listed, took) (all_append (λ c. c.dist ≤ 16777216) (cands v 0 k) (incoming_at w at (at_slot w at s 0 n)) f.small (small_incoming w at s n q.small 0 n (omega arith))),
          omega (arith, t.size, size, q.room, length-drop at.chosen w₂),
        )

        module _ {alpha : Float} {targets edges : List ℕ}
            (g : WrotePruned alpha a s (cands_of (take (at.list + 2 * m - at.list) (drop at.list (take at.chosen w₂)))) (arrays a.measure a.dim a.degree a.vectors targets edges a.versions a.marks)) where
          pub renewed_new : get_or w (marks_at + z) 0 < n → (entry : ℕ)
              → index_of alpha entry (arrays a.measure a.dim a.degree a.vectors targets edges a.versions a.marks) ≡ renewed_at w at n (index_of alpha entry a) s
          unfolding renewed_at
          renewed_new h entry =
              let p : head w s < n = rw e at h in
              let v = store_view (index_of alpha entry a) in
              let y : cands_of (take (at.list + 2 * m - at.list) (drop at.list (take at.chosen w₂))) ≡ live_scored v s ++ incoming_at w at (at_slot w at s 0 n) = listed ∙ took ∙ rw (f.list alpha entry) in
              rw (lt-ltb _ _ p) (g.row entry ∙ ap (λ (l : List Candidate). store_ops.write (index_of alpha entry a) s (ids (prune v s l))) y)

        -- the list and what was chosen are written
        pub renewed_below : (x u : List ℕ) → length x ≡ length (take (at.list + 2 * m - at.list) (drop at.list (take at.chosen w₂))) → length u ≡ length (drop at.chosen w₂)
            → Below at.list w (put_mid at.list (at.list + 2 * m - at.list) (take at.chosen w₂) x ++ u)
        renewed_below x u i j =
            let b = split_bounds.1 in
            let c : length (take at.chosen w₂) ≡ at.chosen = length-take-le at.chosen w₂ split_bounds.0 in
            let x_long : length x ≡ at.list + 2 * m - at.list = i ∙ part_length (take at.chosen w₂) at.list (at.list + 2 * m - at.list) (omega arith) in
            let y = put_mid at.list (at.list + 2 * m - at.list) (take at.chosen w₂) x in
            let y_long : length y ≡ length (take at.chosen w₂) = written_length (take at.chosen w₂) x at.list (at.list + 2 * m - at.list) (omega arith) x_long in
            record {
              size = length-append y u ∙ omega (arith, y_long, c, j, length-drop at.chosen w₂, split_bounds.0, t.size, size);
              same = λ i l.
                  get_or_append_left y u 0 i (omega (arith, y_long, b))
                  ∙ outside_written (take at.chosen w₂) x at.list (at.list + 2 * m - at.list) (omega arith) x_long i (λ (y : at.list ≤ i). absurd (omega arith))
                  ∙ get_or-take at.chosen w₂ i 0 (omega (arith, q.list_in))
                  ∙ t.same i (λ (y : at.list + 2 * k ≤ i). absurd (omega arith))
                  ∙ low i l;
            }

-- ---- the sweep
pub record Sweeping (w₀ : List ℕ) (at : Layout) (n : ℕ) (p₀ p : Pruner 0) (w : List ℕ) (s : ℕ) : Type 0 where
  pub goes : (entry : ℕ) → foldl (renewed_at w₀ at n) (index_by entry p) (range s (length p₀.marks.now - s)) ≡ foldl (renewed_at w₀ at n) (index_by entry p₀) (range 0 (length p₀.marks.now))
  pub same : SamePruner p₀ p
  pub words : Below at.list w₀ w

module _ {w₀ : List ℕ} {at : Layout} {n : ℕ} {p₀ : Pruner 0} (q : Renewable p₀.rows.now.degree (length p₀.marks.now) w₀ at n) {p : Pruner 0} {w : List ℕ} {s : ℕ} (f : Sweeping w₀ at n p₀ p w s) where
  module _ (h : s < length p₀.marks.now) where
    pub sweep_asks : (s < length p.marks.now) × Renewable p.rows.now.degree (length p.marks.now) w at n
    sweep_asks = (rw f.same.marks h, rw (f.same.slices.degree, f.same.marks) (renewable_kept q w f.words.same f.words.size))

    pub sweeping_more : {p' : Pruner 0} {w' : List ℕ} → ((entry : ℕ) → Written entry p (renewed_at w at n (index_by entry p) s) p') → Below at.list w w' → Sweeping w₀ at n p₀ p' w' (s + 1)
    sweeping_more g k =
        let c = length p₀.marks.now in
        let z : c - s ≡ suc (c - (s + 1)) = omega arith in
        let u : s + 1 ≡ suc s = omega arith in
        record {
          goes = λ entry. let was = rw z at f.goes entry in
              ap (λ (b : Store). foldl (renewed_at w₀ at n) b (range (s + 1) (c - (s + 1)))) ((g entry).index ∙ renewed_kept q w f.words.same _ s h) ∙ rw u (rw u at was);
          same = pruner_then f.same (g 0).same;
          words = below_then f.words k;
        }
