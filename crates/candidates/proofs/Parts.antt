-- Part of some words as words of its own: what a list there holds, and what the whole holds once the part is written. Assumes nothing.
use Prim.Native.Nat.{ℕ, ◌+◌, ◌-◌, ◌*◌, ◌/◌, ◌≤◌, ◌<◌}
use mathlib.Core.Path.{◌≡◌, ap, sym, ◌∙◌}
use mathlib.Core.List.{List, ◌++◌, append_assoc}
use native.Mathlib.Omega.{arith}
use borrow.Rule.Slice.PartMut.{put_mid}
use lib.ListN.{length, take, drop, get_or, set}
use Rattle.std.proofs.lemmas.List.{places, get_or-take, get_or-drop, length-take-le, length-set, take-append-drop, set-append_left, set-append_right, take-append-le, drop-append-le, take_at, drop_at, length-drop}
use Rattle.std.proofs.Common.{rules}
use Rattle.std.proofs.lemmas.Grind.{common_steps}
use Rattle.lists.specs.Lists.{insert_by}
use Rattle.candidates.specs.Candidates.{Candidate, before}
use Rattle.candidates.specs.Inner.Words.{cand, cands, cands_of, filled, put, Outside, Inserts, Inserted}
use Rattle.candidates.specs.Inner.Runs.{rest}
use Rattle.candidates.proofs.Words.{outside_wide, cands_moved, cands_agree, cands_kept}

-- ---- the k words from word p on
part_at : (w : List ℕ) (p k j : ℕ) → j < k → get_or (take k (drop p w)) j 0 ≡ get_or w (p + j) 0
part_at w p k j h = get_or-take k (drop p w) j 0 h ∙ get_or-drop p w j 0

pub part_length : (w : List ℕ) (p k : ℕ) → p + k ≤ length w → length (take k (drop p w)) ≡ k
part_length w p k h = grind (arith, common_steps)

pub cands_part : (w : List ℕ) (p k b n : ℕ) → b + 2 * n ≤ k → cands (take k (drop p w)) b n ≡ cands w (p + b) n
cands_part w p k b n h =
    cands_moved w (take k (drop p w)) (p + b) b n (λ j l. let e : p + (b + j) ≡ p + b + j = omega arith in part_at w p k (b + j) (omega arith) ∙ ap (λ (i : ℕ). get_or w i 0) e)

-- ---- the first ones
pub cands_front : (w : List ℕ) (n : ℕ) → 2 * n ≤ length w → cands_of (take (2 * n) w) ≡ cands w 0 n
cands_front w n h =
    let e : length (take (2 * n) w) / 2 ≡ n = omega (arith, length-take-le (2 * n) w h) in
    ap (λ (i : ℕ). cands (take (2 * n) w) 0 i) e ∙ cands_agree w (take (2 * n) w) 0 n (λ j _ l. get_or-take (2 * n) w j 0 (omega arith))

-- ---- those behind the first c
pub cands_between : (w : List ℕ) (c n k : ℕ) → c ≤ n → 2 * n ≤ length w → k ≡ 2 * n - 2 * c → cands_of (take k (drop (2 * c) w)) ≡ cands w (2 * c) (n - c)
cands_between w c n k h l g =
    let e : length (take k (drop (2 * c) w)) / 2 ≡ n - c = omega (arith, part_length w (2 * c) k (omega arith)) in
    let z : 2 * c + 0 ≡ 2 * c = omega arith in
    ap (λ (i : ℕ). cands (take k (drop (2 * c) w)) 0 i) e ∙ (rw z at (cands_part w (2 * c) k 0 (n - c) (omega arith)))

module _ (w : List ℕ) (c : ℕ) (h : 2 * c ≤ length w) where
  abbrev back : List ℕ
  back = take (length w - 2 * c) (drop (2 * c) w)

  pub back_length : length (take (length w - 2 * c) (drop (2 * c) w)) ≡ length w - 2 * c
  back_length = part_length w (2 * c) (length w - 2 * c) (omega arith)

  pub cand_back : (i : ℕ) → 2 * (c + i) + 1 < length w → cand (take (length w - 2 * c) (drop (2 * c) w)) (2 * i) ≡ cand w (2 * (c + i))
  cand_back i l =
      let u : 2 * c + 2 * i ≡ 2 * (c + i) = omega arith in
      let v : 2 * c + (2 * i + 1) ≡ 2 * (c + i) + 1 = omega arith in
      rw (part_at w (2 * c) (length w - 2 * c) (2 * i) (omega arith), part_at w (2 * c) (length w - 2 * c) (2 * i + 1) (omega arith), u, v)

  pub front_back : (l : ℕ) → 2 * (c + l) ≤ length w → cands (take (length w - 2 * c) (drop (2 * c) w)) 0 l ≡ cands w (2 * c) l
  front_back l g = let z : 2 * c + 0 ≡ 2 * c = omega arith in rw z at (cands_part w (2 * c) (length w - 2 * c) 0 l (omega arith))

  pub rest_back : (l : ℕ) → 2 * (c + l) ≤ length w → rest (take (length w - 2 * c) (drop (2 * c) w)) l ≡ cands w (2 * (c + l)) (length w / 2 - (c + l))
  rest_back l g =
      let e : length (take (length w - 2 * c) (drop (2 * c) w)) / 2 - l ≡ length w / 2 - (c + l) = omega (arith, back_length) in
      let z : 2 * c + 2 * l ≡ 2 * (c + l) = omega arith in
      ap (λ (i : ℕ). cands (take (length w - 2 * c) (drop (2 * c) w)) (2 * l) i) e ∙ (rw z at (cands_part w (2 * c) (length w - 2 * c) (2 * l) (length w / 2 - (c + l)) (omega arith)))

-- ---- they are written
written_in : (w v : List ℕ) (p k j : ℕ) → p + k ≤ length w → length v ≡ k → j < k → get_or (put_mid p k w v) (p + j) 0 ≡ get_or v j 0
written_in w v p k j h e l = search (rules, places)

written_out : (w v : List ℕ) (p k j : ℕ) → p + k ≤ length w → length v ≡ k → (p ≤ j → p + k ≤ j) → get_or (put_mid p k w v) j 0 ≡ get_or w j 0
written_out w v p k j h e l = search (rules, places)

written_size : (w v : List ℕ) (p k : ℕ) → p + k ≤ length w → length v ≡ k → length (put_mid p k w v) ≡ length w
written_size w v p k h e = search (rules, places)

pub written_length : (w v : List ℕ) (p k : ℕ) → p + k ≤ length w → length v ≡ k → length (put_mid p k w v) ≡ length w
written_length w v p k h e = written_size w v p k h e

pub outside_written : (w v : List ℕ) (p k : ℕ) → p + k ≤ length w → length v ≡ k → Outside p k w (put_mid p k w v)
outside_written w v p k h e j o = written_out w v p k j h e o

pub cands_written : (w v : List ℕ) (p k : ℕ) → p + k ≤ length w → length v ≡ k → (b n : ℕ) → b + 2 * n ≤ k → cands (put_mid p k w v) (p + b) n ≡ cands v b n
cands_written w v p k h e b n l =
    cands_moved v (put_mid p k w v) b (p + b) n
    (λ j o. let g : p + b + j ≡ p + (b + j) = omega arith in ap (λ (i : ℕ). get_or (put_mid p k w v) i 0) g ∙ written_in w v p k (b + j) h e (omega arith))

-- the n candidates of the part are those written, and others are as before
pub written_here : (w v : List ℕ) (c k n : ℕ) → 2 * c + k ≤ length w → length v ≡ k → 2 * n ≤ k → cands (put_mid (2 * c) k w v) (2 * c) n ≡ cands v 0 n
written_here w v c k n h e l = let z : 2 * c + 0 ≡ 2 * c = omega arith in rw z at (cands_written w v (2 * c) k h e 0 n (omega arith))

pub written_elsewhere : (w v : List ℕ) (p k b n : ℕ) → p + k ≤ length w → length v ≡ k → (p < b + 2 * n → p + k ≤ b) → cands (put_mid p k w v) b n ≡ cands w b n
written_elsewhere w v p k b n h e l = cands_kept p k w (put_mid p k w v) (outside_written w v p k h e) b n l

-- ---- what a function left of a list that is part of the words: the k words from p on
module _ (w : List ℕ) (p k n : ℕ) (h : p + k ≤ length w) where
  pub filled_part : k ≡ 2 * (n + 1) → filled (take k (drop p w)) ≡ cands w p n
  filled_part e =
      let m : length (take k (drop p w)) / 2 - 1 ≡ n = omega (arith, part_length w p k h) in
      let z : p + 0 ≡ p = omega arith in
      ap (λ (i : ℕ). cands (take k (drop p w)) 0 i) m ∙ (rw z at (cands_part w p k 0 n (omega arith)))

  pub whole_part : k ≡ 2 * n → cands_of (take k (drop p w)) ≡ cands w p n
  whole_part e =
      let m : length (take k (drop p w)) / 2 ≡ n = omega (arith, part_length w p k h) in
      let z : p + 0 ≡ p = omega arith in
      ap (λ (i : ℕ). cands (take k (drop p w)) 0 i) m ∙ (rw z at (cands_part w p k 0 n (omega arith)))

  module _ (v : List ℕ) (l : length v ≡ length (take k (drop p w))) where
    long : length v ≡ k
    long = l ∙ part_length w p k h

    written : (m : ℕ) → 2 * m ≤ k → cands (put_mid p k w v) p m ≡ cands v 0 m
    written m o = let z : p + 0 ≡ p = omega arith in rw z at (cands_written w v p k h long 0 m (omega (arith, o)))

    outside : (m : ℕ) → k ≡ 2 * m → Outside p (2 * m) w (put_mid p k w v)
    outside m e = outside_wide p k p (2 * m) w (put_mid p k w v) (outside_written w v p k h long) (omega arith) (omega arith)

    pub part_inserted : k ≡ 2 * (n + 1) → {x : Candidate} {r : ℕ} → Inserts (take k (drop p w)) x r v → Inserted w p n x r (put_mid p k w v)
    part_inserted e {x} {r} g =
        let m : length v / 2 ≡ n + 1 = omega (arith, long) in
        let i : r ≤ n = omega (arith, g.within, part_length w p k h) in
        let z : p + 0 ≡ p = omega arith in
        record {
          within = i;
          front = written r (omega arith) ∙ g.front ∙ (rw z at (cands_part w p k 0 r (omega arith)));
          holds = record {
            list = written (n + 1) (omega arith) ∙ sym (ap (λ (i : ℕ). cands v 0 i) m) ∙ g.list ∙ ap (insert_by before x) (filled_part e);
            size = written_length w v p k h long;
            same = outside (n + 1) e;
          };
        }

-- ---- one candidate of a part
whole : (w : List ℕ) (p k : ℕ) → put_mid p k w (take k (drop p w)) ≡ w
whole w p k = ap (λ (l : List ℕ). take p w ++ l) (take-append-drop k (drop p w)) ∙ take-append-drop p w

set_part : (w : List ℕ) (p k : ℕ) (v : List ℕ) (j x : ℕ) → p ≤ length w → j < length v → put_mid p k w (set v j x) ≡ set (put_mid p k w v) (p + j) x
set_part w p k v j x h l =
    let e : p + j - p ≡ j = omega arith in
    sym (set-append_right (take p w) (v ++ drop k (drop p w)) p (p + j) x (length-take-le p w h) (omega arith) ∙ rw (e, set-append_left v (drop k (drop p w)) j x l))

pub put_part : (w : List ℕ) (p k i d s : ℕ) → p + k ≤ length w → 2 * i + 1 < k → put_mid p k w (put (take k (drop p w)) (2 * i) d s) ≡ put w (p + 2 * i) d s
put_part w p k i d s h l =
    let v = take k (drop p w) in
    let m = part_length w p k h in
    let z : p + (2 * i + 1) ≡ p + 2 * i + 1 = omega arith in
    set_part w p k (set v (2 * i) d) (2 * i + 1) s (omega arith) (omega (arith, m, length-set v (2 * i) d))
    ∙ rw (z, set_part w p k v (2 * i) d (omega arith) (omega (arith, m)), whole w p k)

pub cand_part : (w : List ℕ) (p k i : ℕ) → 2 * i + 1 < k → cand (take k (drop p w)) (2 * i) ≡ cand w (p + 2 * i)
cand_part w p k i h =
    let z : p + (2 * i + 1) ≡ p + 2 * i + 1 = omega arith in
    rw (part_at w p k (2 * i) (omega arith), part_at w p k (2 * i + 1) h, z)

-- ---- two parts of words that were split at word m: one of those before it, and the first behind it
front_of_both : (xs ys v : List ℕ) (p k : ℕ) → p + k ≤ length xs → put_mid p k xs v ++ ys ≡ put_mid p k (xs ++ ys) v
front_of_both xs ys v p k h =
    let e : k ≤ length (drop p xs) = omega (arith, length-drop p xs) in
    append_assoc (take p xs) (v ++ drop k (drop p xs)) ys
    ∙ ap (λ (l : List ℕ). take p xs ++ l) (append_assoc v (drop k (drop p xs)) ys)
    ∙ sym (rw (take-append-le p xs ys (omega arith), drop-append-le p xs ys (omega arith), drop-append-le k (drop p xs) ys e))

back_of_both : (xs ys v : List ℕ) (m k : ℕ) → length xs ≡ m → xs ++ (v ++ drop k ys) ≡ put_mid m k (xs ++ ys) v
back_of_both xs ys v m k e = sym (rw (take_at xs ys m e, drop_at xs ys m e))

pub both_written : (w : List ℕ) (m p k n : ℕ) (v u : List ℕ) → p + k ≤ m → m ≤ length w → length v ≡ k → put_mid p k (take m w) v ++ (u ++ drop n (drop m w)) ≡ put_mid m n (put_mid p k w v) u
both_written w m p k n v u h l e =
    let f : length (take m w) ≡ m = length-take-le m w l in
    back_of_both (put_mid p k (take m w) v) (drop m w) u m n (written_length (take m w) v p k (omega (arith, f)) e ∙ f)
    ∙ ap (λ (x : List ℕ). put_mid m n x u) (front_of_both (take m w) (drop m w) v p k (omega (arith, f)) ∙ ap (λ (x : List ℕ). put_mid p k x v) (take-append-drop m w))
