-- The sample, slot by slot, and the whole of it. Assumes nothing.
use Prim.Native.Nat.{ℕ, ◌+◌, ◌-◌, ◌*◌, ◌≤◌, ◌<◌}
use mathlib.Core.Bool.{Bool, true, false, ◌&&◌, cond}
use mathlib.Core.Path.{◌≡◌, refl, ap, sym, ◌∙◌}
use mathlib.Core.List.{List, [], ◌++◌, append_assoc, append-nil}
use native.Mathlib.Omega.{arith}
use borrow.Author.Tests.{lt-ltb, le-ltb}
use lib.Dec.{ltb}
use lib.ListN.{length, take, drop}
use borrow.Rule.Slice.PartMut.{put_mid}
use Rattle.candidates.proofs.Parts.{part_length, written_length, written_here, written_elsewhere}
use Rattle.lists.specs.Lists.{All, filter, range}
use Rattle.lists.proofs.All.{by_cases, all_append}
use Rattle.lists.proofs.Ranges.{range_cons, range_none, filtered_below}
use Rattle.candidates.specs.Candidates.{scored}
use Rattle.candidates.specs.Inner.Words.{cands, put}
use Rattle.candidates.proofs.Words.{cands_none, cands_length, cands_append, front_push, put_length}
use Rattle.candidates.proofs.Scored.{scored_append, scored_length}
use Rattle.landmarks.specs.Inner.Samples.{far, sampled, sample_by, sample_words, Sampled, Taken}

-- ---- two tests of a slot
pub both_hold : {t r u v : Bool} → t ≡ r → t ≡ true → u ≡ v → u ≡ true → (r && v) ≡ true
both_hold e h g k = rw (← e, h, ← g, k)

pub first_fails : {t r : Bool} (v : Bool) → t ≡ r → t ≡ false → (r && v) ≡ false
first_fails v e h = rw (← e, h)

pub second_fails : {t r u v : Bool} → t ≡ r → t ≡ true → u ≡ v → u ≡ false → (r && v) ≡ false
second_fails e h g k = rw (← e, h, ← g, k)

-- ---- the slots before s are looked at, m candidates are there
pub record Sampling (p : ℕ → Bool) (capacity : ℕ) (w₀ w : List ℕ) (m s : ℕ) : Type 0 where
  pub within : m ≤ s
  pub goes : cands w 0 m ++ scored far (filter p (range s (capacity - s))) ≡ scored far (filter p (range 0 capacity))
  pub size : length w ≡ length w₀

pub sampling_none : (p : ℕ → Bool) (capacity : ℕ) (w : List ℕ) → Sampling p capacity w w 0 0
sampling_none p capacity w =
    let e : capacity - 0 ≡ capacity = omega arith in
    record { within = omega arith; goes = rw (cands_none w 0 0 refl, e); size = refl }

module _ {p : ℕ → Bool} {capacity : ℕ} {w₀ w : List ℕ} {m s : ℕ} (f : Sampling p capacity w₀ w m s) where
  pub sampling_take : 2 * capacity ≤ length w₀ → s < capacity → p s ≡ true → Sampling p capacity w₀ (put w (2 * m) 4294967295 s) (m + 1) (s + 1)
  sampling_take l h e =
      let k : 2 * m + 1 < length w = omega (arith, f.within, f.size) in
      record {
        within = omega (arith, f.within);
        goes = rw (front_push w 4294967295 s m k, append_assoc) (rw (range_cons capacity s h, e) at f.goes);
        size = put_length w (2 * m) 4294967295 s ∙ f.size;
      }

  pub sampling_skip : s < capacity → p s ≡ false → Sampling p capacity w₀ w m (s + 1)
  sampling_skip h e = record { within = omega (arith, f.within); goes = rw (range_cons capacity s h, e) at f.goes; size = f.size }

  pub sampling_done : s ≤ capacity → capacity ≤ s → Sampled p capacity w₀ w m
  sampling_done b h =
      record { list = rw (range_none capacity s h, append-nil) at f.goes; within = omega (arith, f.within); size = f.size }

-- ---- the slots of the stride, and the others
abbrev strided : ℕ → (ℕ → Bool) → ℕ → List ℕ
strided stride free capacity = filter (sampled stride false free) (range 0 capacity)

abbrev between : ℕ → (ℕ → Bool) → ℕ → List ℕ
between stride free capacity = filter (sampled stride true free) (range 0 capacity)

-- what holds of all slots inside with p holds of a sample of them
pub sample_all : (P : ℕ → Type 0) (free : ℕ → Bool) (capacity stride wanted : ℕ) → ((b : Bool) → All P (filter (sampled stride b free) (range 0 capacity)))
    → All P (sample_by free capacity stride wanted)
unfolding sample_by
sample_all P free capacity stride wanted h =
    all_append P (strided stride free capacity) (cond (ltb (length (strided stride free capacity)) wanted) (between stride free capacity) [])
    (h false) (by_cases (All P) (ltb (length (strided stride free capacity)) wanted) (λ e. h true) (λ e. tt))

pub sample_inside : (free : ℕ → Bool) (capacity stride wanted : ℕ) → All (λ s. s < capacity) (sample_by free capacity stride wanted)
sample_inside free capacity stride wanted = sample_all (λ s. s < capacity) free capacity stride wanted (λ b. filtered_below (sampled stride b free) capacity)

module _ (free : ℕ → Bool) {capacity : ℕ} {w w₁ : List ℕ} {n stride stride' : ℕ} (e : stride ≡ stride') (f : Sampled (sampled stride false free) capacity w w₁ n) where
  front : cands w₁ 0 n ≡ scored far (strided stride free capacity)
  front = f.list

  many : length (strided stride free capacity) ≡ n
  many = sym (sym (cands_length w₁ 0 n) ∙ ap length front ∙ scored_length far (strided stride free capacity))

  pub taken_few : {wanted : ℕ} → sample_words capacity ≤ length w → wanted ≤ n → Taken free capacity stride' wanted w w₁ n
  unfolding sample_by
  taken_few {wanted} room h =
      record {
        list = front ∙ rw (← e, le-ltb (length (strided stride free capacity)) wanted (rw many h), append-nil);
        room = omega (arith, f.within);
        size = f.size;
      }

  pub taken_more : {v : List ℕ} {wanted r : ℕ} → wanted ≤ 1024 → sample_words capacity ≤ length w → n < wanted
      → Sampled (sampled stride true free) capacity (take (length w₁ - 2 * n) (drop (2 * n) w₁)) v r → Taken free capacity stride' wanted w (put_mid (2 * n) (length w₁ - 2 * n) w₁ v) (n + r)
  unfolding sample_by
  taken_more {v} {wanted} {r} l room h g =
      let k = length w₁ - 2 * n in
      let w₂ = put_mid (2 * n) k w₁ v in
      let whole : 2 * n + k ≤ length w₁ = omega (arith, room, f.size, f.within) in
      let c : length v ≡ k = g.size ∙ part_length w₁ (2 * n) k whole in
      let first : cands w₂ 0 n ≡ cands w₁ 0 n = written_elsewhere w₁ v (2 * n) k 0 n whole c (λ u. absurd (omega arith)) in
      let second : cands w₂ (2 * n) r ≡ cands v 0 r = written_here w₁ v n k r whole c (omega (arith, room, f.size, f.within, g.within)) in
      record {
        list = (let z : 0 + 2 * n ≡ 2 * n = omega arith in rw z at (cands_append w₂ 0 n r)) ∙ rw (first, second, g.list, front, ← e, lt-ltb (length (strided stride free capacity)) wanted (rw many h)) (sym (scored_append far (strided stride free capacity) (between stride free capacity)));
        room = omega (arith, g.within);
        size = written_length w₁ v (2 * n) k whole c ∙ f.size;
      }
