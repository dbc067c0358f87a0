-- The rows of the deleted slots are taken, and their plans made, one after the other. Assumes nothing.
use Prim.Native.Nat.{ℕ, ◌+◌, ◌-◌, ◌*◌, ◌≤◌, ◌<◌}
use mathlib.Core.Bool.{false}
use mathlib.Core.Path.{◌≡◌, ap, ap₂, sym, ◌∙◌}
use mathlib.Core.List.{List, [], ◌++◌, append-nil}
use native.Mathlib.Omega.{arith}
use borrow.Author.Count.{below_more}
use lib.ListN.{length, take, drop, get_or, set, length-set, length-drop, drop_of_length-le}
use lib.Seq.{get_or-set_same, get_or-set_other}
use Rattle.std.proofs.lemmas.List.{take_all, take-append-drop, take-set-le, drop-set-add}
use Rattle.candidates.specs.Candidates.{Candidate, ids}
use Rattle.candidates.proofs.Parts.{part_length, cand_part, cands_written, written_length, outside_written}
use borrow.Rule.Slice.PartMut.{put_mid}
use lib.Ieee.{Float}
use Rattle.candidates.specs.Inner.Words.{cand, cands}
use Rattle.candidates.proofs.Words.{cands_agree, cands_each}
use Rattle.candidates.proofs.Scored.{ids_scored}
use Rattle.slots.specs.Scratch.{work_at}
use Rattle.slots.specs.View.{live_neighbors}
use Rattle.slots.specs.Store.{Arrays, is_valid, store_view}
use Rattle.row.specs.Row.{index_of, live_scored, LiveScored}
use Rattle.links.specs.Inner.Planning.{Attempted, count_at}
use Rattle.deletion.specs.declared.layout.Layout.{Layout}
use Rattle.deletion.specs.declared.plans.Repair.{Repair}
use Rattle.deletion.specs.Inner.Naming.{Inside}
use Rattle.deletion.specs.Inner.Plans.{Table, row_count, RowOf, RowsTaken, Collectable, Collects, counted, Makeable, PlanOf, PlansMade}

-- ---- the rows
pub record TakingRows (a : Arrays) (w₀ : List ℕ) (at : Layout) (w : List ℕ) (k : ℕ) : Type 0 where
  pub each : (j : ℕ) → j < k → RowOf a (cand w₀ (at.from + 2 * j)).id w at j
  pub size : length w ≡ length w₀
  pub same : (j : ℕ) → j < at.stats → get_or w j 0 ≡ get_or w₀ j 0

-- a row whose words and count stay
row_stays : {a : Arrays} {s : ℕ} {w w' : List ℕ} {at : Layout} {j : ℕ} → RowOf a s w at j → a.degree ≤ 64 → row_count w' at j ≡ row_count w at j
    → ((i : ℕ) → at.plans + 640 * j ≤ i → i < at.plans + 640 * j + 128 → get_or w' i 0 ≡ get_or w i 0) → RowOf a s w' at j
row_stays {w = w} {w' = w'} {at = at} {j = j} f l e h =
    record {
      list = λ alpha entry.
          ap ids (ap (cands w' (at.plans + 640 * j)) e ∙ cands_agree w w' (at.plans + 640 * j) (row_count w at j) (λ i x y. h i x (omega (arith, f.few))))
          ∙ f.list alpha entry;
      few = omega (arith, e, f.few);
    }

-- a row that was worked out in the words from p on, as it lies in all words
record RowAt (a : Arrays) (s : ℕ) (w : List ℕ) (p r : ℕ) (w' : List ℕ) : Type 0 where
  pub list : (alpha : Float) (entry : ℕ) → cands w' p r ≡ live_scored (store_view (index_of alpha entry a)) s
  pub few : r ≤ a.degree
  pub size : length w' ≡ length w
  pub same : (j : ℕ) → (p ≤ j → p + 640 ≤ j) → get_or w' j 0 ≡ get_or w j 0

row_at : {a : Arrays} {s r : ℕ} (w : List ℕ) (p n : ℕ) (v : List ℕ) → p + n ≤ length w → length v ≡ n → 2 * r ≤ n → n ≤ 640 → LiveScored a s r v → RowAt a s w p r (put_mid p n w v)
row_at {r = r} w p n v h e l m g =
    let z : p + 0 ≡ p = omega arith in
    record {
      list = λ alpha entry. (rw z at (cands_written w v p n h e 0 r (omega arith))) ∙ g.list alpha entry;
      few = g.few;
      size = written_length w v p n h e;
      same = λ j o. outside_written w v p n h e j (λ q. omega (arith, o q));
    }

-- a slot as it is read of the words from p on
slot_part : (w : List ℕ) (p k : ℕ) → p + 2 * k + 1 < length w → (cand (take (length w - p) (drop p w)) (2 * k)).id ≡ (cand w (p + 2 * k)).id
slot_part w p k h = ap (λ (c : Candidate). c.id) (cand_part w p (length w - p) k (omega arith))

module _ {a : Arrays} {w₀ : List ℕ} {at : Layout} {w : List ℕ} {k : ℕ} (f : TakingRows a w₀ at w k)
    (b : Inside (length a.marks) w₀ at.from at.count) (t : Table a.degree w₀ at) where
  module _ (h : k < at.count) {s : ℕ} (e : s ≡ (cand (take (length w - at.from) (drop at.from w)) (2 * k)).id) where
    taken_slot : s ≡ (cand w₀ (at.from + 2 * k)).id
    taken_slot = e ∙ slot_part w at.from k (omega (arith, f.size, t.first, t.second, t.third)) ∙ f.same (at.from + 2 * k + 1) (omega (arith, t.first))

    pub taking_asks : (s < length a.marks) × (2 * a.degree ≤ length (take (at.plans + 640 * k + 640 - (at.plans + 640 * k)) (drop (at.plans + 640 * k) w)))
    taking_asks =
        let r = cands_each (λ c. c.id < length a.marks) w₀ at.from at.count b.each k h in
        (omega (arith, r, taken_slot), omega (arith, part_length w (at.plans + 640 * k) (at.plans + 640 * k + 640 - (at.plans + 640 * k)) (omega (arith, f.size, t.third)), t.low))

    pub taking_more : {r : ℕ} (v : List ℕ) → length v ≡ length (take (at.plans + 640 * k + 640 - (at.plans + 640 * k)) (drop (at.plans + 640 * k) w)) → LiveScored a s r v
        → TakingRows a w₀ at (set (put_mid (at.plans + 640 * k) (at.plans + 640 * k + 640 - (at.plans + 640 * k)) w v) (at.stats + 4 * k) r) (k + 1)
    taking_more {r} v lv g' =
        let p = at.plans + 640 * k in
        let n = p + 640 - p in
        let w₁ = put_mid p n w v in
        let inside : p + n ≤ length w = omega (arith, f.size, t.third) in
        let g : RowAt a s w p r w₁ = row_at w p n v inside (lv ∙ part_length w p n inside) (omega (arith, g'.few, t.low)) (omega arith) g' in
        let w₂ = set w₁ (at.stats + 4 * k) r in
        let off : (j : ℕ) → (j ≡ at.stats + 4 * k → ⊥) → get_or (set w₁ (at.stats + 4 * k) r) j 0 ≡ get_or w₁ j 0 = λ j o. get_or-set_other w₁ (at.stats + 4 * k) j r 0 o in
        let on : get_or (set w₁ (at.stats + 4 * k) r) (at.stats + 4 * k) 0 ≡ r = get_or-set_same w₁ (at.stats + 4 * k) r 0 (omega (arith, g.size, f.size, t.second, t.third)) in
        record {
          each = below_more (λ (j : ℕ). RowOf a (cand w₀ (at.from + 2 * j)).id (set w₁ (at.stats + 4 * k) r) at j) k
              (λ j l. row_stays (f.each j l) t.low
              (off (at.stats + 4 * j) (λ z. omega arith) ∙ g.same (at.stats + 4 * j) (λ z. absurd (omega (arith, t.second))))
              (λ n y z. off n (λ o. absurd (omega (arith, t.second))) ∙ g.same n (λ o. absurd (omega arith))))
              (record {
                list = λ alpha entry.
                    ap ids (ap (cands w₂ (at.plans + 640 * k)) on
                    ∙ cands_agree w₁ w₂ (at.plans + 640 * k) r (λ n y z. off n (λ o. absurd (omega (arith, t.second))))
                    ∙ g.list alpha entry)
                    ∙ ids_scored _ (live_neighbors (store_view (index_of alpha entry a)) s)
                    ∙ ap (λ (z : ℕ). live_neighbors (store_view (index_of alpha entry a)) z) taken_slot;
                few = omega (arith, on, g.few);
              });
          size = length-set w₁ (at.stats + 4 * k) r ∙ g.size ∙ f.size;
          same = λ j l. off j (λ o. absurd (omega arith)) ∙ g.same j (λ o. absurd (omega (arith, t.second))) ∙ f.same j l;
        }

  pub taking_done : k ≡ at.count → RowsTaken a w₀ at w
  taking_done h = record { each = λ j l. f.each j (omega arith); size = f.size; same = f.same }

-- ---- three counts behind a word
abbrev counted_at : List ℕ → ℕ → ℕ → ℕ → ℕ → List ℕ
counted_at w at q m n = set (set (set w (at + 1) q) (at + 2) m) (at + 3) n

module _ (w : List ℕ) (at q m n : ℕ) where
  counted_long : length (counted_at w at q m n) ≡ length w
  counted_long = length-set (set (set w (at + 1) q) (at + 2) m) (at + 3) n ∙ length-set (set w (at + 1) q) (at + 2) m ∙ length-set w (at + 1) q

  counted_other : (j : ℕ) → (at < j → at + 4 ≤ j) → get_or (counted_at w at q m n) j 0 ≡ get_or w j 0
  counted_other j h =
      get_or-set_other (set (set w (at + 1) q) (at + 2) m) (at + 3) j n 0 (λ e. absurd (omega (arith, h (omega arith))))
      ∙ get_or-set_other (set w (at + 1) q) (at + 2) j m 0 (λ e. absurd (omega (arith, h (omega arith))))
      ∙ get_or-set_other w (at + 1) j q 0 (λ e. absurd (omega (arith, h (omega arith))))

  module _ (l : at + 3 < length w) where
    counted_first : get_or (counted_at w at q m n) (at + 1) 0 ≡ q
    counted_first =
        get_or-set_other (set (set w (at + 1) q) (at + 2) m) (at + 3) (at + 1) n 0 (λ e. absurd (omega arith))
        ∙ get_or-set_other (set w (at + 1) q) (at + 2) (at + 1) m 0 (λ e. absurd (omega arith))
        ∙ get_or-set_same w (at + 1) q 0 (omega arith)

    counted_second : get_or (counted_at w at q m n) (at + 2) 0 ≡ m
    counted_second =
        get_or-set_other (set (set w (at + 1) q) (at + 2) m) (at + 3) (at + 2) n 0 (λ e. absurd (omega arith))
        ∙ get_or-set_same (set w (at + 1) q) (at + 2) m 0 (omega (arith, length-set w (at + 1) q))

    counted_third : get_or (counted_at w at q m n) (at + 3) 0 ≡ n
    counted_third = get_or-set_same (set (set w (at + 1) q) (at + 2) m) (at + 3) n 0 (omega (arith, length-set (set w (at + 1) q) (at + 2) m, length-set w (at + 1) q))

-- the same of the words from a place on
counted_from : (w : List ℕ) (at q m n : ℕ) → take at w ++ counted (drop at w) q m n ≡ counted_at w at q m n
counted_from w at q m n =
    let a = set w (at + 1) q in
    let b = set a (at + 2) m in
    let front : take at (set b (at + 3) n) ≡ take at w = take-set-le at b (at + 3) n (omega arith) ∙ take-set-le at a (at + 2) m (omega arith) ∙ take-set-le at w (at + 1) q (omega arith) in
    let back : drop at (set b (at + 3) n) ≡ counted (drop at w) q m n =
    drop-set-add at b 3 n ∙ ap (λ (l : List ℕ). set l 3 n) (drop-set-add at a 2 m ∙ ap (λ (l : List ℕ). set l 2 m) (drop-set-add at w 1 q)) in
    ap₂ (λ (x y : List ℕ). x ++ y) (sym front) (sym back) ∙ take-append-drop at (set b (at + 3) n)

counted_whole : (w : List ℕ) (at q m n : ℕ) → at ≤ length w → put_mid at (length w - at) w (counted (take (length w - at) (drop at w)) q m n) ≡ counted_at w at q m n
counted_whole w at q m n h =
    let k = length w - at in
    let e : take k (drop at w) ≡ drop at w = take_all k (drop at w) (omega (arith, length-drop at w)) in
    let z : drop k (drop at w) ≡ [] = drop_of_length-le (drop at w) (omega (arith, length-drop at w)) in
    rw (e, z, append-nil) (counted_from w at q m n)

-- ---- the plans
pub record Making (a : Arrays) (how : Repair) (w₀ : List ℕ) (at : Layout) (w : List ℕ) (k : ℕ) : Type 0 where
  pub each : (j : ℕ) → j < k → PlanOf a (cand w₀ (at.from + 2 * j)).id how w₀ at j w
  pub size : length w ≡ length w₀
  -- what is neither the walk's nor of the first k plans
  pub same : (i : ℕ) → work_at (length a.marks) ≤ i → (at.stats ≤ i → at.stats + 4 * k ≤ i) → (at.plans ≤ i → at.plans + 640 * k ≤ i) → get_or w i 0 ≡ get_or w₀ i 0

-- a plan whose words stay
plan_stays : {a : Arrays} {s : ℕ} {how : Repair} {w₀ : List ℕ} {at : Layout} {j : ℕ} {w w' : List ℕ} → PlanOf a s how w₀ at j w
    → ((i : ℕ) → at.stats + 4 * j ≤ i → i < at.stats + 4 * j + 4 → get_or w' i 0 ≡ get_or w i 0) → ((i : ℕ) → at.plans + 640 * j ≤ i → i < at.plans + 640 * j + 640 → get_or w' i 0 ≡ get_or w i 0)
    → PlanOf a s how w₀ at j w'
plan_stays {at = at} {j = j} {w = w} {w' = w'} f x y =
    let e : count_at w' at.stats j ≡ count_at w at.stats j = x (at.stats + 4 * j + 2) (omega arith) (omega arith) in
    let z : cands w' (at.plans + 640 * j) (count_at w' at.stats j) ≡ cands w (at.plans + 640 * j) (count_at w at.stats j) =
    ap (cands w' (at.plans + 640 * j)) e ∙ cands_agree w w' (at.plans + 640 * j) (count_at w at.stats j) (λ i u v. y i u (omega (arith, f.plan.few))) in
    let g : get_or w' (at.stats + 4 * j + 3) 0 ≡ get_or w (at.stats + 4 * j + 3) 0 = x (at.stats + 4 * j + 3) (omega arith) (omega arith) in
    record {
      row = x (at.stats + 4 * j) (omega arith) (omega arith) ∙ f.row;
      recovered = λ alpha. x (at.stats + 4 * j + 1) (omega arith) (omega arith) ∙ f.recovered alpha;
      list = λ alpha. ap ids z ∙ f.list alpha;
      plan = record { few = omega (arith, e, f.plan.few); live = rw z f.plan.live; once = rw z f.plan.once };
      links = rw (e, g) f.links;
    }

module _ {a : Arrays} {how : Repair} {w₀ : List ℕ} {at : Layout} {w : List ℕ} {k : ℕ} (f : Making a how w₀ at w k)
    (b : Makeable a how w₀ at) (h : k < at.count) {s : ℕ} (e : s ≡ (cand (take (length w - at.from) (drop at.from w)) (2 * k)).id) where
  the_slot : s ≡ (cand w₀ (at.from + 2 * k)).id
  the_slot = e ∙ slot_part w at.from k (omega (arith, f.size, b.table.first, b.table.second, b.table.third)) ∙ f.same (at.from + 2 * k + 1) (omega (arith, b.behind)) (λ u. absurd (omega (arith, b.table.first))) (λ u. absurd (omega (arith, b.table.first, b.table.second)))

  the_row : row_count w at k ≡ row_count w₀ at k
  the_row = f.same (at.stats + 4 * k) (omega (arith, b.behind, b.table.first)) (λ u. omega arith) (λ u. absurd (omega (arith, b.table.second)))

  pub making_collects : Collectable a s how.entry how.beam w (at.plans + 640 * k) (row_count w at k)
  making_collects =
      let x = cands_each (λ c. c.id < length a.marks) w₀ at.from at.count b.inside.each k h in
      let y = cands_each (λ c. is_valid a.marks c.id ≡ false) w₀ at.from at.count b.dead k h in
      record {
        slot_in = rw the_slot x;
        dead = rw the_slot y;
        entry_in = b.entry_in;
        beam_most = b.beam_most;
        low = b.table.low;
        few = rw the_row (b.rows k h);
        behind = omega (arith, b.behind, b.table.first, b.table.second);
        inside = omega (arith, f.size, b.table.third);
      }

  module _ {q m : ℕ} {w₁ : List ℕ} (c : Collects a s how.entry how.beam w (at.plans + 640 * k) (row_count w at k) q m w₁) where
    pub making_room : at.stats + 4 * k + 3 < length w₁
    making_room = omega (arith, c.size, f.size, b.table.second, b.table.third)

    pub making_counted : {v : List ℕ} (n : ℕ) → v ≡ counted (take (length w₁ - (at.stats + 4 * k)) (drop (at.stats + 4 * k) w₁)) q m n
        → put_mid (at.stats + 4 * k) (length w₁ - (at.stats + 4 * k)) w₁ v ≡ counted_at w₁ (at.stats + 4 * k) q m n
    making_counted n g = rw g (counted_whole w₁ (at.stats + 4 * k) q m n (omega (arith, making_room)))

    module _ {n : ℕ} (v : Attempted how.degree m n) {w₂ : List ℕ} (z : w₂ ≡ counted_at w₁ (at.stats + 4 * k) q m n) where
      off : (j : ℕ) → (at.stats + 4 * k < j → at.stats + 4 * k + 4 ≤ j) → get_or w₂ j 0 ≡ get_or w₁ j 0
      off j o = rw z (counted_other w₁ (at.stats + 4 * k) q m n j o)

      low : (j : ℕ) → work_at (length a.marks) ≤ j → (at.plans + 640 * k ≤ j → at.plans + 640 * k + 640 ≤ j) → get_or w₁ j 0 ≡ get_or w j 0
      low = c.same

      second : count_at w₂ at.stats k ≡ m
      second = rw z (counted_second w₁ (at.stats + 4 * k) q m n making_room)

      third : get_or w₂ (at.stats + 4 * k + 3) 0 ≡ n
      third = rw z (counted_third w₁ (at.stats + 4 * k) q m n making_room)

      block : cands w₂ (at.plans + 640 * k) (count_at w₂ at.stats k) ≡ cands w₁ (at.plans + 640 * k) m
      block = ap (cands w₂ (at.plans + 640 * k)) second ∙ cands_agree w₁ w₂ (at.plans + 640 * k) m (λ j x y. off j (λ u. omega (arith, b.table.second)))

      before : cands w (at.plans + 640 * k) (row_count w at k) ≡ cands w₀ (at.plans + 640 * k) (row_count w₀ at k)
      before =
          ap (cands w (at.plans + 640 * k)) the_row
          ∙ cands_agree w₀ w (at.plans + 640 * k) (row_count w₀ at k)
          (λ j x y. f.same j (omega (arith, b.behind, b.table.first, b.table.second)) (λ u. omega (arith, b.table.second)) (λ u. omega arith))

      pub making_more : Making a how w₀ at w₂ (k + 1)
      making_more =
          record {
            each = below_more (λ (j : ℕ). PlanOf a (cand w₀ (at.from + 2 * j)).id how w₀ at j w₂) k
                (λ j l. plan_stays (f.each j l)
                (λ j' x y. off j' (λ u. absurd (omega arith)) ∙ low j' (omega (arith, b.behind, b.table.first)) (λ u. absurd (omega (arith, b.table.second))))
                (λ j' x y. off j' (λ u. omega (arith, b.table.second)) ∙ low j' (omega (arith, b.behind, b.table.first, b.table.second)) (λ u. absurd (omega arith))))
                (record {
                  row = off (at.stats + 4 * k) (λ u. absurd (omega arith)) ∙ low (at.stats + 4 * k) (omega (arith, b.behind, b.table.first)) (λ u. absurd (omega (arith, b.table.second))) ∙ the_row;
                  recovered = λ alpha. (rw z (counted_first w₁ (at.stats + 4 * k) q m n making_room)) ∙ c.counts alpha ∙ rw the_slot;
                  list = λ alpha. ap ids block ∙ c.list alpha ∙ rw (the_slot, before);
                  plan = record { few = omega (arith, second, c.plan.few); live = rw block c.plan.live; once = rw block c.plan.once };
                  links = rw (second, third) v;
                });
            size = rw z (counted_long w₁ (at.stats + 4 * k) q m n) ∙ c.size ∙ f.size;
            same = λ j x y t.
                off j (λ u. omega (arith, y (omega arith)))
                ∙ low j x (λ u. omega (arith, t (omega arith)))
                ∙ f.same j x (λ u. omega (arith, y u)) (λ u. omega (arith, t u));
          }

pub making_done : {a : Arrays} {how : Repair} {w₀ : List ℕ} {at : Layout} {w : List ℕ} {k : ℕ} → Making a how w₀ at w k
    → Makeable a how w₀ at → k ≡ at.count → PlansMade a how w₀ at w
making_done f b h =
    record {
      each = λ j l. f.each j (omega arith);
      size = f.size;
      same = λ i x y. f.same i x (λ u. absurd (omega arith)) (λ u. absurd (omega (arith, b.table.second)));
    }
