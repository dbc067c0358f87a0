-- Records written from the first place on. Assumes nothing.
use Prim.Native.Nat.{ℕ, ◌+◌, ◌≤◌, ◌<◌}
use mathlib.Core.Path.{◌≡◌, refl, ap, ◌∙◌, subst}
use mathlib.Core.List.{List, [], ◌∷◌, ◌++◌, map, append-nil}
use native.Mathlib.Numerals.{add-one}
use native.Mathlib.Omega.{arith}
use lib.ListN.{length, take, drop, set, length-append, length-take, length-drop, length-map, drop_of_length-le}
use Rattle.lists.specs.Lists.{range, put_front}
use Rattle.lists.proofs.Front.{front_map}
use Rattle.lists.proofs.Ranges.{range_snoc, length_range}
use Rattle.repair.specs.Delete.{Stats}
use Rattle.deletion.specs.declared.stats.DeleteStats.{DeleteStats}
use Rattle.deletion.specs.Batch.{stats_of, record_of, records_of, stats_in}

-- one more
pub records_more : (w : List ℕ) (at : ℕ) (ys : List DeleteStats) (i : ℕ) → i < length ys → set (put_front (records_of w at i) ys) i (record_of w at i) ≡ put_front (records_of w at (i + 1)) ys
records_more w at ys i h =
    let k : length (range 0 i) < length ys = rw (length_range 0 i) h in
    let z : 0 + i ≡ i = omega arith in
    let m : range 0 i ++ (i ∷ []) ≡ range 0 (i + 1) = rw (add-one i, ← (range_snoc 0 i), z) in
    subst (λ (j : ℕ). set (put_front (records_of w at i) ys) j (record_of w at i) ≡ put_front (map (record_of w at) (range 0 i ++ (i ∷ []))) ys) (length_range 0 i) (front_map (record_of w at) (range 0 i) i ys k)
    ∙ ap (λ (l : List ℕ). put_front (map (record_of w at) l) ys) m

pub records_length : (w : List ℕ) (at : ℕ) (ys : List DeleteStats) (i : ℕ) → i ≤ length ys → length (put_front (records_of w at i) ys) ≡ length ys
records_length w at ys i h =
    let e : length (records_of w at i) ≡ i = length-map (range 0 i) (record_of w at) ∙ length_range 0 i in
    length-append (records_of w at i) (drop (length (records_of w at i)) ys) ∙ omega (arith, e, length-drop (length (records_of w at i)) ys)

-- written to the first n places alone
pub records_front : (w : List ℕ) (at n : ℕ) (ys : List DeleteStats) → n ≤ length ys → put_front (records_of w at n) (take n ys) ++ drop n ys ≡ put_front (records_of w at n) ys
records_front w at n ys h =
    let e : length (records_of w at n) ≡ n = length-map (range 0 n) (record_of w at) ∙ length_range 0 n in
    let s : length (take n ys) ≤ n = omega (arith, length-take n ys) in
    rw (e, drop_of_length-le (take n ys) s, append-nil)

-- the records are the stats that the words hold
pub records_are : (w : List ℕ) (at n : ℕ) → map stats_in (records_of w at n) ≡ map (stats_of w at) (range 0 n)
records_are w at n = go (range 0 n)
  where
    go : (l : List ℕ) → map stats_in (map (record_of w at) l) ≡ map (stats_of w at) l
    go [] = refl
    go (i ∷ l) = ap (λ (r : List Stats). stats_of w at i ∷ r) (go l)
