-- A batch in chunks. Assumes nothing.
use Prim.Native.Nat.{ℕ, zero, suc, ◌+◌, ◌-◌, ◌*◌, ◌/◌, min, ◌≤◌, ◌<◌}
use mathlib.Core.Bool.{not}
use mathlib.Core.Path.{◌≡◌, refl, ap, ap₂, sym, ◌∙◌}
use mathlib.Core.List.{List, [], ◌∷◌, ◌++◌, map, append_assoc}
use native.Mathlib.Nat.{add-mul, mul-le-mul_right, div-mul-le_self}
use native.Mathlib.Omega.{arith}
use lib.ListN.{length, take, drop, get_or, length-map, length-drop, length-append, get_or-append}
use lib.Seq.{drop-cons, drop-drop, get_or-take, get_or-drop, length-take-le}
use Rattle.std.proofs.lemmas.List.{take_at, drop_at, take-append-drop, drop-append-le}
use lib.Ieee.{Float}
use Rattle.lists.specs.Lists.{All, filter, foldl, range, part, put_front, chunks, zip}
use Rattle.lists.proofs.All.{all_filter}
use Rattle.lists.proofs.Filter.{filter_length}
use Rattle.lists.proofs.Parts.{part_part}
use Rattle.lists.proofs.Places.{all_at}
use Rattle.lists.proofs.Chunks.{chunks_enough}
use Rattle.lists.proofs.Ranges.{length_range, range_below}
use Rattle.slots.specs.Scratch.{work_at, size_answer}
use Rattle.slots.specs.View.{free_slots}
use Rattle.slots.specs.Store.{Arrays, Store, is_valid, store_view, store_ops, with_arrays}
use Rattle.row.specs.Row.{index_of}
use Rattle.insert.specs.Insert.{Filling, fillings, insert_chunk, insert_batch}
use Rattle.insertion.specs.Batch.{insert_words, Insertable, BatchInserted}
use Rattle.insertion.specs.declared.graph.Selection.{Selection}
use Rattle.insertion.specs.declared.inserter.Inserter.{Inserter}
use Rattle.insertion.specs.Inner.Filling.{filling_at, fillings_from, chunk_of}
use Rattle.insertion.specs.Inner.Chunk.{Assigned}
use Rattle.insertion.specs.Inner.Inserting.{index_in, SameInserter, Inserted}
use Rattle.insertion.proofs.Same.{inserter_then}

-- insert's share of the size answer is enough
pub insert_enough : (capacity degree : ℕ) → degree ≤ 64 → work_at capacity + insert_words degree ≤ size_answer capacity
unfolding size_answer
insert_enough capacity degree h = omega arith

-- ---- a part of a list as a chunk
slot_part : (from k i : ℕ) (l : List ℕ) → i < k → get_or (take k (drop from l)) i 0 ≡ get_or l (from + i) 0
slot_part from k i l h = get_or-take k (drop from l) i 0 h ∙ get_or-drop from l i 0

shifted : (dim : ℕ) (bytes slots : List ℕ) (from k j i : ℕ) → i + j ≤ k
    → map (filling_at dim (take (k * dim) (drop (from * dim) bytes)) (take k (drop from slots))) (range i j) ≡ map (filling_at dim bytes slots) (range (from + i) j)
shifted dim bytes slots from k zero i h = refl
shifted dim bytes slots from k (suc j) i h =
    let e : from + suc i ≡ suc (from + i) = omega arith in
    ap₂ (λ (x : Filling) (l : List Filling). x ∷ l)
    (ap₂ (λ (s : ℕ) (v : List ℕ). record { slot = s; vector = v }) (slot_part from k i slots (omega arith)) (part_part dim from k i bytes (omega arith)))
    (shifted dim bytes slots from k j (suc i) (omega arith) ∙ ap (λ (x : ℕ). map (filling_at dim bytes slots) (range x j)) e)

module _ {dim capacity : ℕ} {bytes slots : List ℕ} (o : Assigned dim capacity bytes slots) (from k : ℕ) (r : from + k ≤ length slots) where
  abbrev bytes_part : List ℕ
  bytes_part = take (k * dim) (drop (from * dim) bytes)

  abbrev slots_part : List ℕ
  slots_part = take k (drop from slots)

  part_fits : k * dim ≤ length (drop (from * dim) bytes)
  part_fits = simp length-drop (omega (arith, o.bytes_in, mul-le-mul_right dim r, add-mul from k dim))

  long : length slots_part ≡ k
  long = length-take-le k (drop from slots) (simp length-drop (omega arith))

  chunk_is : chunk_of dim bytes_part slots_part ≡ fillings_from dim bytes slots from k
  unfolding fillings_from
  chunk_is =
      let z : from + 0 ≡ from = omega arith in
      ap (λ (y : ℕ). map (filling_at dim bytes_part slots_part) (range 0 y)) long
      ∙ shifted dim bytes slots from k k 0 (omega arith)
      ∙ ap (λ (x : ℕ). map (filling_at dim bytes slots) (range x k)) z

-- ---- chunks of a list
from_length : (dim : ℕ) (bytes slots : List ℕ) (from k : ℕ) → length (fillings_from dim bytes slots from k) ≡ k
unfolding fillings_from
from_length dim bytes slots from k = simp length-map (length_range from k)

from_take : (dim : ℕ) (bytes slots : List ℕ) (n from k : ℕ) → take n (fillings_from dim bytes slots from k) ≡ fillings_from dim bytes slots from (min n k)
unfolding fillings_from
from_take dim bytes slots zero from k = let e : min 0 k ≡ 0 = omega arith in rw e
from_take dim bytes slots (suc n) from zero = let e : min (suc n) 0 ≡ 0 = omega arith in rw e
from_take dim bytes slots (suc n) from (suc k) =
    let e : min (suc n) (suc k) ≡ suc (min n k) = omega arith in
    rw e (ap (λ (l : List Filling). filling_at dim bytes slots from ∷ l) (from_take dim bytes slots n (suc from) k))

from_drop : (dim : ℕ) (bytes slots : List ℕ) (n from k : ℕ) → drop n (fillings_from dim bytes slots from k) ≡ fillings_from dim bytes slots (from + min n k) (k - min n k)
unfolding fillings_from
from_drop dim bytes slots zero from k =
    let e : min 0 k ≡ 0 = omega arith in
    let z : from + 0 ≡ from = omega arith in
    let y : k - 0 ≡ k = omega arith in
    rw (e, z, y)
from_drop dim bytes slots (suc n) from zero =
    let e : 0 - min (suc n) 0 ≡ 0 = omega arith in
    rw e
from_drop dim bytes slots (suc n) from (suc k) =
    let e : from + min (suc n) (suc k) ≡ suc from + min n k = omega arith in
    let z : suc k - min (suc n) (suc k) ≡ k - min n k = omega arith in
    rw (e, z) (from_drop dim bytes slots n (suc from) k)

-- the chunks from a place on
abbrev rest_of : ℕ → List ℕ → List ℕ → ℕ → ℕ → List (List Filling)
rest_of dim bytes slots count from = chunks (count - from) 256 (fillings_from dim bytes slots from (count - from))

chunks_cons : (k : ℕ) (l : List Filling) → 0 < length l → chunks (suc k) 256 l ≡ take 256 l ∷ chunks k 256 (drop 256 l)
chunks_cons k [] h = absurd (omega arith)
chunks_cons k (x ∷ l) h = refl

next_chunk : (dim : ℕ) (bytes slots : List ℕ) (count from k : ℕ) → from < count → k ≡ min 256 (count - from)
    → rest_of dim bytes slots count from ≡ fillings_from dim bytes slots from k ∷ rest_of dim bytes slots count (from + k)
next_chunk dim bytes slots count from k h e =
    let j : ℕ = count - from - 1 in
    let z : count - from ≡ suc j = omega arith in
    let l = fillings_from dim bytes slots from (count - from) in
    let y : min 256 (count - from) ≡ k = sym e in
    let x : count - from - min 256 (count - from) ≡ count - (from + k) = omega arith in
    let v : from + min 256 (count - from) ≡ from + k = omega arith in
    let d : drop 256 l ≡ fillings_from dim bytes slots (from + k) (count - (from + k)) = from_drop dim bytes slots 256 from (count - from) ∙ ap₂ (fillings_from dim bytes slots) v x in
    ap (λ (n : ℕ). chunks n 256 l) z
    ∙ chunks_cons j l (rw (from_length dim bytes slots from (count - from)) (omega arith))
    ∙ ap₂ (λ (c : List Filling) (r : List (List Filling)). c ∷ r) (from_take dim bytes slots 256 from (count - from) ∙ ap (fillings_from dim bytes slots from) y)
    (ap (chunks j 256) d ∙ chunks_enough 256 (omega arith) j (count - (from + k)) (fillings_from dim bytes slots (from + k) (count - (from + k))) (rw (from_length dim bytes slots (from + k) (count - (from + k))) (omega arith)) (omega arith))

-- of what is left of a list the next part
pub record NextPart (left x later : List ℕ) : Type 0 where
  pub whole : left ≡ x ++ later
  pub long : length x ≡ min 256 (length left)
  pub some : 0 < length left

-- the bytes and the slots that are left
pub record Chunking (bytes slots : List ℕ) (i₀ i : Inserter) (rest left : List ℕ) : Type 0 where
  pub from : ℕ
  pub bound : from ≤ length slots
  pub rest_is : rest ≡ drop (from * i₀.graph.now.dim) bytes
  pub left_is : left ≡ drop from slots
  pub goes : foldl (insert_chunk store_ops i₀.how.beam) (index_in i) (rest_of i₀.graph.now.dim bytes slots (length slots) from)
      ≡ foldl (insert_chunk store_ops i₀.how.beam) (index_in i₀) (chunks (length slots) 256 (chunk_of i₀.graph.now.dim bytes slots))
  pub same : SameInserter i₀ i

module _ {i₀ : Inserter} {bytes slots : List ℕ} (o : Assigned i₀.graph.now.dim (length i₀.graph.now.marks.now) bytes slots) {i : Inserter} {rest left : List ℕ}
    (f : Chunking bytes slots i₀ i rest left) {x later : List ℕ} (n : NextPart left x later) where
  left_long : length left ≡ length slots - f.from
  left_long = rw f.left_is (simp length-drop)

  within : f.from + length x ≤ length slots
  within = omega (arith, n.long, left_long, f.bound)

  x_is : x ≡ take (length x) (drop f.from slots)
  x_is = sym (take_at x later (length x) refl) ∙ ap (take (length x)) (sym n.whole ∙ f.left_is)

  later_is : later ≡ drop (f.from + length x) slots
  later_is = sym (drop_at x later (length x) refl) ∙ ap (drop (length x)) (sym n.whole ∙ f.left_is) ∙ drop-drop (length x) f.from slots

  pub chunk_fits : length x * i.graph.now.dim ≤ length rest
  chunk_fits = rw (f.same.slices.dim, f.rest_is) (part_fits o f.from (length x) within)

  module _ {now after : List ℕ} (c : now ≡ take (length x * i.graph.now.dim) rest) (d : after ≡ drop (length x * i.graph.now.dim) rest) where
    now_is : now ≡ take (length x * i₀.graph.now.dim) (drop (f.from * i₀.graph.now.dim) bytes)
    now_is = c ∙ rw (f.same.slices.dim, f.rest_is)

    pub chunking_more : {i' : Inserter} → Inserted i (insert_chunk store_ops i.how.beam (index_in i) (chunk_of i.graph.now.dim now x)) i' → Chunking bytes slots i₀ i' after later
    chunking_more r =
        let z : f.from * i₀.graph.now.dim + length x * i₀.graph.now.dim ≡ (f.from + length x) * i₀.graph.now.dim = sym (add-mul f.from (length x) i₀.graph.now.dim) in
        let m : chunk_of i₀.graph.now.dim now x ≡ fillings_from i₀.graph.now.dim bytes slots f.from (length x) = ap₂ (chunk_of i₀.graph.now.dim) now_is x_is ∙ chunk_is o f.from (length x) within in
        let y : insert_chunk store_ops i.how.beam (index_in i) (chunk_of i.graph.now.dim now x) ≡ insert_chunk store_ops i₀.how.beam (index_in i) (chunk_of i₀.graph.now.dim now x) =
        ap₂ (λ (h : Selection) (d : ℕ). insert_chunk store_ops h.beam (index_in i) (chunk_of d now x)) f.same.how f.same.slices.dim in
        let e : after ≡ drop (length x * i₀.graph.now.dim) (drop (f.from * i₀.graph.now.dim) bytes) = d ∙ rw (f.same.slices.dim, f.rest_is) in
        record {
          from = f.from + length x;
          bound = within;
          rest_is = e ∙ drop-drop (length x * i₀.graph.now.dim) (f.from * i₀.graph.now.dim) bytes ∙ ap (λ (n : ℕ). drop n bytes) z;
          left_is = later_is;
          goes =
              ap (λ (b : Store). foldl (insert_chunk store_ops i₀.how.beam) b (rest_of i₀.graph.now.dim bytes slots (length slots) (f.from + length x))) (r.index ∙ y ∙ ap (insert_chunk store_ops i₀.how.beam (index_in i)) m)
              ∙ ap (foldl (insert_chunk store_ops i₀.how.beam) (index_in i)) (sym (next_chunk i₀.graph.now.dim bytes slots (length slots) f.from (length x) (omega (arith, left_long, n.some)) (omega (arith, n.long, left_long))))
              ∙ f.goes;
          same = inserter_then f.same r.same;
        }

-- ---- the slots of a batch
abbrev free_of : List ℕ → List ℕ
free_of marks = filter (λ s. not (is_valid marks s)) (range 0 (length marks))

free_below : (marks : List ℕ) → All (λ s. s < length marks) (free_of marks)
free_below marks = all_filter (λ s. s < length marks) (λ s. not (is_valid marks s)) (range 0 (length marks)) (range_below 0 (length marks) (length marks) (omega arith))

free_few : (marks : List ℕ) → length (free_of marks) ≤ length marks
free_few marks = omega (arith, filter_length (λ s. not (is_valid marks s)) (range 0 (length marks)), length_range 0 (length marks))

free_is : (alpha : Float) (entry : ℕ) (a : Arrays) → free_slots (store_view (index_of alpha entry a)) ≡ free_of a.marks
unfolding store_view
free_is alpha entry a = refl

-- the front of the list that is noted
front_at : (l slots : List ℕ) (count i : ℕ) → count ≤ length l → i < count → get_or (put_front (take count l) slots) i 0 ≡ get_or l i 0
front_at l slots count i k h =
    let c : length (take count l) ≡ count = length-take-le count l k in
    get_or-append (take count l) (drop (length (take count l)) slots) 0 i (rw c h) ∙ get_or-take count l i 0 h

module _ {a : Arrays} {alpha : Float} {entry beam : ℕ} {bytes slots scratch : List ℕ} (o : Insertable a alpha entry beam bytes slots scratch) {count : ℕ} (q : count ≡ length bytes / a.dim) where
  enough_free : count ≤ length (free_of a.marks)
  enough_free = rw (q, ← free_is alpha entry a) o.free_in

  -- what is written to the front alone is written to the list
  pub front_noted : {front : List ℕ} → front ≡ put_front (take (length (take count slots)) (free_of a.marks)) (take count slots) → front ++ drop count slots ≡ put_front (take count (free_of a.marks)) slots
  front_noted {front} g =
      let free = take count (free_of a.marks) in
      let room : count ≤ length slots = rw q o.room_in in
      let n : length (take count slots) ≡ count = length-take-le count slots room in
      let c : length free ≡ count = length-take-le count (free_of a.marks) enough_free in
      let e : front ≡ put_front free (take count slots) = rw n at g in
      ap (λ (l : List ℕ). l ++ drop count slots) e
      ∙ append_assoc free (drop (length free) (take count slots)) (drop count slots)
      ∙ ap (λ (l : List ℕ). free ++ l) (sym (drop-append-le (length free) (take count slots) (drop count slots) (omega (arith, n, c))) ∙ ap (drop (length free)) (take-append-drop count slots))

  module _ {slots₁ : List ℕ} (e : slots₁ ≡ put_front (take count (free_of a.marks)) slots) where
    -- the numbers of the slots that are filled
    abbrev filled : List ℕ
    filled = take count slots₁

    filled_long : length filled ≡ count
    filled_long =
        let c : length (take count (free_of a.marks)) ≡ count = length-take-le count (free_of a.marks) enough_free in
        length-take-le count slots₁ (rw e (simp length-append (omega (arith, c))))

    noted : (i : ℕ) → i < count → get_or filled i 0 ≡ get_or (free_of a.marks) i 0
    noted i h = get_or-take count slots₁ i 0 h ∙ rw e (front_at (free_of a.marks) slots count i enough_free h)

    pub batch_assigned : Assigned a.dim (length a.marks) bytes filled
    batch_assigned =
        record {
          bytes_in = rw (filled_long, q) (div-mul-le_self (length bytes) a.dim);
          below = omega (arith, filled_long, enough_free, free_few a.marks, o.together.rows.few);
          inside = λ i h. let l : i < count = rw filled_long at h in rw (noted i l) (all_at 0 (λ s. s < length a.marks) (free_of a.marks) (free_below a.marks) i (omega (arith, enough_free)));
        }

    abbrev vectors : ℕ → ℕ → List (List ℕ)
    vectors i j = map (λ i. part a.dim i bytes) (range i j)

    paired : (j i : ℕ) → i + j ≤ count
        → map (λ (p : ℕ × List ℕ). record { slot = p.0; vector = p.1 }) (zip (drop i (free_of a.marks)) (vectors i j)) ≡ map (filling_at a.dim bytes filled) (range i j)
    paired zero i h = none (drop i (free_of a.marks))
      where
        none : (xs : List ℕ) → map {B = Filling} (λ (p : ℕ × List ℕ). record { slot = p.0; vector = p.1 }) (zip xs []) ≡ []
        none [] = refl
        none (x ∷ xs) = refl
    paired (suc j) i h =
        rw (drop-cons (free_of a.marks) i 0 (omega (arith, enough_free)))
        (ap₂ (λ (f : Filling) (l : List Filling). f ∷ l) (ap (λ (s : ℕ). record { slot = s; vector = part a.dim i bytes }) (sym (noted i (omega arith)))) (paired j (suc i) (omega arith)))

    pub batch_inserted : {a' : Arrays} → index_of alpha entry a' ≡ foldl (insert_chunk store_ops beam) (index_of alpha entry a) (chunks (length filled) 256 (chunk_of a.dim bytes filled))
        → BatchInserted a alpha entry beam bytes slots a' slots₁ count
    unfolding insert_batch fillings fillings_from store_ops store_view
    batch_inserted f =
        let b = index_of alpha entry a in
        let n : length (vectors 0 count) ≡ count = simp length-map (length_range 0 count) in
        record {
          count = q;
          index =
              f
              ∙ ap (λ (m : ℕ). foldl (insert_chunk store_ops beam) b (chunks m 256 (map (filling_at a.dim bytes filled) (range 0 m)))) filled_long
              ∙ ap (λ (l : List Filling). foldl (insert_chunk store_ops beam) b (chunks count 256 l)) (sym (paired count 0 (omega arith)))
              ∙ ap (λ (m : ℕ). foldl (insert_chunk store_ops beam) b (chunks m 256 (fillings (store_view b) (vectors 0 count)))) (sym n)
              ∙ ap (λ (m : ℕ). insert_batch store_ops beam b (vectors 0 m)) q;
          numbers = e;
        }

-- the same of every index that has the slices, as many slots as marks
pub inserted_store : (b : Store) {beam : ℕ} {bytes slots : List ℕ} {a' : Arrays} {slots' : List ℕ} {r : ℕ} → b.capacity ≡ length b.arrays.marks → length a'.marks ≡ length b.arrays.marks
    → BatchInserted b.arrays b.alpha b.entry beam bytes slots a' slots' r
    → with_arrays b a' ≡ insert_batch store_ops beam b (map (λ i. part b.arrays.dim i bytes) (range 0 (length bytes / b.arrays.dim)))
inserted_store b {beam} {bytes} {a' = a'} e l f =
    ap (λ (n : ℕ). record { arrays = a'; capacity = n; alpha = b.alpha; entry = b.entry }) (e ∙ sym l)
    ∙ f.index
    ∙ ap (λ (n : ℕ). insert_batch store_ops beam (record { arrays = b.arrays; capacity = n; alpha = b.alpha; entry = b.entry }) (map (λ i. part b.arrays.dim i bytes) (range 0 (length bytes / b.arrays.dim)))) (sym e)
