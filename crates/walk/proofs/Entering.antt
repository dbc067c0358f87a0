-- The list in the words: a candidate enters it, the first that is not expanded is looked for, and the walk's end is tested. Assumes nothing.
use Prim.Native.Nat.{ℕ, zero, suc, ◌+◌, ◌-◌, ◌*◌, min, ◌≤◌, ◌<◌}
use mathlib.Core.Bool.{true}
use mathlib.Core.Path.{◌≡◌, refl, ap, sym, ◌∙◌}
use mathlib.Core.List.{List, ◌++◌}
use native.Mathlib.Omega.{arith}
use borrow.Author.Tests.{lt-ltb, le-ltb, le-leb, lt-leb}
use lib.Dec.{leb}
use lib.ListN.{length, take, drop}
use Rattle.lists.specs.Lists.{All, Ordered}
use Rattle.lists.proofs.All.{all_append, all_init}
use Rattle.lists.proofs.Ordered.{pairwise_init}
use Rattle.candidates.specs.Candidates.{Candidate, before}
use Rattle.candidates.specs.Inner.Words.{pair, cand, cands, filled, Inserts, Inserted, Small}
use Rattle.candidates.proofs.Parts.{part_length, filled_part, part_inserted}
use Rattle.candidates.proofs.Words.{cands_length, cands_take, cands_init, front_last, front_snoc, outside_none, outside_wide}
use Rattle.walk.specs.Walk.{worst, enter, ends}
use Rattle.slots.specs.Scratch.{marks_at}
use Rattle.std.specs.Option.{MatchOption}
use Rattle.std.specs.Prelude.{Option, None, Some}
use Rattle.walk.specs.Inner.Scratch.{mark, Listed, Scannable, Entered, Unexpanded}

pub worst_at : (w : List ℕ) (n : ℕ) → 0 < n → worst (cands w 0 n) ≡ (cand w (2 * (n - 1))).dist
worst_at w n h = ap (λ (c : Candidate). c.dist) (front_last w n h (pair 0 0))

-- ---- a candidate enters: it is inserted into the front of the words, of which the last place is free
pub front_asks : (w : List ℕ) (n : ℕ) {d : ℕ} → 2 * (n + 1) ≤ length w → d ≤ 16777216 → Small (cands w 0 n) → Ordered before (cands w 0 n)
    → (2 ≤ length (take (2 * (n + 1)) w)) × (d ≤ 16777216) × Small (filled (take (2 * (n + 1)) w)) × Ordered before (filled (take (2 * (n + 1)) w))
front_asks w n h l s o =
    let f : filled (take (2 * (n + 1)) w) ≡ cands w 0 n = filled_part w 0 (2 * (n + 1)) n (omega arith) refl in
    let m : length (take (2 * (n + 1)) w) ≡ 2 * (n + 1) = part_length w 0 (2 * (n + 1)) (omega arith) in
    (omega arith, l, rw f s, rw f o)

pub front_inserted : (w v : List ℕ) (n : ℕ) {x : Candidate} {r : ℕ} → 2 * (n + 1) ≤ length w → length v ≡ length (take (2 * (n + 1)) w) → Inserts (take (2 * (n + 1)) w) x r v
    → Inserted w 0 n x r (v ++ drop (2 * (n + 1)) w)
front_inserted w v n h l f = part_inserted w 0 (2 * (n + 1)) n (omega arith) v l refl f

pub front_part : (w w' : List ℕ) (r k : ℕ) → k ≤ r → cands w' 0 r ≡ cands w 0 r → cands w' 0 k ≡ cands w 0 k
front_part w w' r k h e = sym (cands_take w' 0 r k h) ∙ ap (take k) e ∙ cands_take w 0 r k h

module _ {beam : ℕ} {w : List ℕ} {n next d t : ℕ} where
  pub entered_room : {r next' : ℕ} {w' : List ℕ} → n < beam → n < 1024 → next ≤ n → Inserted w 0 n (pair d t) r w' → next' ≡ min r next
      → Entered beam w n next (pair d t) w' (n + 1) next'
  unfolding enter
  entered_room {r} {next'} {w'} h k p f e =
      record {
        list = rw (cands_length w 0 n, lt-ltb n beam h) f.holds.list;
        passed = omega arith;
        within = omega arith;
        front = front_part w w' r next' (omega arith) f.front;
        size = f.holds.size;
        same = outside_wide 0 (2 * (n + 1)) 0 marks_at w w' f.holds.same (omega arith) (omega arith);
      }

  module _ (full : beam ≤ n) (some : 0 < n) {e : ℕ} (q : e ≡ (cand w (2 * (n - 1))).dist) where
    pub entered_full : {r next' : ℕ} {w' : List ℕ} → n ≤ 1024 → next ≤ n → d < e → Inserted w 0 (n - 1) (pair d t) r w' → next' ≡ min r next
        → Entered beam w n next (pair d t) w' n next'
    unfolding enter
    entered_full {r} {next'} {w'} k p h f g =
        let z : n - 1 + 1 ≡ n = omega arith in
        let same = rw z at f.holds.same in
        let nearer : d < worst (cands w 0 n) = rw (worst_at w n some, ← q) h in
        record {
          list = rw (cands_length w 0 n, le-ltb n beam full, lt-ltb d (worst (cands w 0 n)) nearer, cands_init w 0 n some) (rw z at f.holds.list);
          passed = omega arith;
          within = omega arith;
          front = front_part w w' r next' (omega arith) f.front;
          size = f.holds.size;
          same = outside_wide 0 (2 * n) 0 marks_at w w' same (omega arith) (omega arith);
        }

    pub entered_not : next ≤ n → e ≤ d → Entered beam w n next (pair d t) w n next
    unfolding enter
    entered_not p h =
        record {
          list = rw (cands_length w 0 n, le-ltb n beam full, le-ltb d (worst (cands w 0 n)) (rw (worst_at w n some, ← q) h));
          passed = omega arith;
          within = omega arith;
          front = refl;
          size = refl;
          same = outside_none 0 marks_at w;
        }

-- the list without its last
pub less_small : {beam : ℕ} {w : List ℕ} {n : ℕ} → 0 < n → Listed beam w n → Small (cands w 0 (n - 1))
less_small {w = w} {n} h f = rw (cands_init w 0 n h) at (all_init (λ c. c.dist ≤ 16777216) (cands w 0 n) f.small)

pub less_order : {beam : ℕ} {w : List ℕ} {n : ℕ} → 0 < n → Listed beam w n → Ordered before (cands w 0 (n - 1))
less_order {w = w} {n} h f = rw (cands_init w 0 n h) at (pairwise_init (λ a b. before a b ≡ true) (cands w 0 n) f.order)

-- ---- whether the walk ends
pub ends_room : {beam : ℕ} (w : List ℕ) {n : ℕ} (c : Candidate) → n < beam → leb beam n ≡ ends beam (cands w 0 n) c
unfolding ends
ends_room {beam} w {n} c h = rw (cands_length w 0 n, lt-leb beam n h)

pub ends_full : {beam : ℕ} (w : List ℕ) {n i a b : ℕ} → beam ≤ n → i < n → a ≡ (cand w (2 * (n - 1))).dist → b ≡ (cand w (2 * i)).dist
    → leb a b ≡ ends beam (cands w 0 n) (cand w (2 * i))
unfolding ends
ends_full {beam} w {n} {i} {a} {b} h k p q =
    let r : a ≡ worst (cands w 0 n) = p ∙ sym (worst_at w n (omega arith)) in
    rw (cands_length w 0 n, le-leb beam n h, r, q)

-- ---- the first that is not expanded
module _ {w : List ℕ} {n next : ℕ} (s : Scannable w n next) where
  scan_up : (j : ℕ) → ((k : ℕ) → next ≤ k → k < next + j → mark w (cand w (2 * k)).id ≡ 2) → All (λ c. mark w c.id ≡ 2) (cands w 0 (next + j))
  scan_up zero h = let e : next + 0 ≡ next = omega arith in rw e s.done
  scan_up (suc j) h =
      let e : next + suc j ≡ next + j + 1 = omega arith in
      rw (e, front_snoc w (next + j)) (all_append _ (cands w 0 (next + j)) _ (scan_up j (λ k a b. h k a (omega arith))) (h (next + j) (omega arith) (omega arith), tt))

  scan_to : (r : ℕ) → next ≤ r → ((k : ℕ) → next ≤ k → k < r → mark w (cand w (2 * k)).id ≡ 2) → All (λ c. mark w c.id ≡ 2) (cands w 0 r)
  scan_to r l h = let e : next + (r - next) ≡ r = omega arith in rw e at (scan_up (r - next) (λ k a b. h k a (omega arith)))

  pub scanned : (r : Option ℕ)
      → MatchOption r ((k : ℕ) → next ≤ k → k < n → mark w (cand w (2 * k)).id ≡ 2)
      (λ i. (next ≤ i) × (i < n) × (mark w (cand w (2 * i)).id ≡ 2 → ⊥) × ((k : ℕ) → next ≤ k → k < i → mark w (cand w (2 * k)).id ≡ 2))
      → (r ≡ None → Unexpanded w n n) × ((i : ℕ) → r ≡ Some i → Unexpanded w n i × (i < n))
  scanned None h = ((λ q. record { within = omega arith; done = scan_to n s.passed h; stops = λ l. absurd (omega arith) }), λ i q. cc)
  scanned (Some r) h =
      let u : Unexpanded w n r = record { within = omega (arith, h.1); done = scan_to r h.0 h.3; stops = λ l. h.2 } in
      ((λ q. cc), λ i q. let e : r ≡ i = cc in rw (← e) (u, h.1))
