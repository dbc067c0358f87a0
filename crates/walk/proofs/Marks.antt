-- The marks in the words: read one by one and all at once, cleared, and set where the walk begins. Assumes nothing.
use Prim.Native.Nat.{ℕ, zero, suc, ◌+◌, ◌*◌, ◌/◌, ◌%◌, ◌≤◌, ◌<◌}
use mathlib.Core.Bool.{Bool, true, false}
use mathlib.Core.Path.{◌≡◌, refl, ap, sym, ◌∙◌}
use mathlib.Core.List.{List, [], ◌∷◌, map}
use native.Mathlib.Numerals.{add-one}
use native.Mathlib.Omega.{arith}
use borrow.Author.Tests.{eqb-true, eqb-false}
use lib.Dec.{eqb}
use borrow.Rule.Slice.PartMut.{put_mid}
use Rattle.std.proofs.lemmas.List.{places}
use Rattle.std.proofs.Common.{rules}
use Rattle.std.proofs.lemmas.Grind.{common_steps}
use lib.ListN.{length, take, drop, get_or, set, replicate, length-set, length-map, length-replicate, get_or-replicate}
use lib.Seq.{get_or-set_same, get_or-set_other, set_out, drop-cons, ext_get_or}
use Rattle.lists.specs.Lists.{range}
use Rattle.lists.proofs.Ranges.{length_range}
use Rattle.candidates.specs.Candidates.{Candidate}
use Rattle.candidates.specs.Inner.Words.{pair, cands, put, Outside}
use Rattle.candidates.proofs.Words.{cands_none, cands_kept, put_cand, put_length, put_outside, outside_wide, outside_then, outside_set}
use Rattle.slots.specs.Scratch.{list_words, marks_at, work_at}
use Rattle.walk.specs.Inner.Scratch.{field, put_field, mark_word, mark, put_mark, marks_of, mark_all, Cleared, LeftOut, Begun}
use Rattle.walk.proofs.Fields.{field_zero, field_same, field_other}

-- a mark is written
module _ (w : List ℕ) (s v : ℕ) where
  pub put_mark_length : length (put_mark w s v) ≡ length w
  put_mark_length = length-set w (mark_word s) (put_field (s % 16) v (get_or w (mark_word s) 0))

  module _ (h : mark_word s < length w) (l : v < 4) where
    word : get_or (put_mark w s v) (mark_word s) 0 ≡ put_field (s % 16) v (get_or w (mark_word s) 0)
    word = get_or-set_same w (mark_word s) (put_field (s % 16) v (get_or w (mark_word s) 0)) 0 h

    pub mark_same : mark (put_mark w s v) s ≡ v
    mark_same = ap (field (s % 16)) word ∙ field_same (s % 16) v (get_or w (mark_word s) 0) l

    -- of another slot, in the same word or not
    pub mark_other : (t : ℕ) → (t ≡ s → ⊥) → mark (put_mark w s v) t ≡ mark w t
    mark_other t n = go (eqb (t / 16) (s / 16)) refl
      where
        go : (b : Bool) → eqb (t / 16) (s / 16) ≡ b → mark (put_mark w s v) t ≡ mark w t
        go true e =
            let q : mark_word t ≡ mark_word s = ap (λ (p : ℕ). marks_at + p) (eqb-true (t / 16) (s / 16) e) in
            ap (λ (p : ℕ). field (t % 16) (get_or (put_mark w s v) p 0)) q ∙ ap (field (t % 16)) word
            ∙ field_other (s % 16) (t % 16) v (get_or w (mark_word s) 0) l (λ z. n (omega (arith, eqb-true (t / 16) (s / 16) e)))
            ∙ ap (λ (p : ℕ). field (t % 16) (get_or w p 0)) (sym q)
        go false e =
            ap (field (t % 16))
            (get_or-set_other w (mark_word s) (mark_word t) (put_field (s % 16) v (get_or w (mark_word s) 0)) 0 (λ q. eqb-false (t / 16) (s / 16) e (omega arith)))

    pub mark_cases : (t : ℕ) (P : ℕ → Type 0) → (t ≡ s → P v) → ((t ≡ s → ⊥) → P (mark w t)) → P (mark (put_mark w s v) t)
    mark_cases t P f g = go (eqb t s) refl
      where
        go : (b : Bool) → eqb t s ≡ b → P (mark (put_mark w s v) t)
        go true e = let q = eqb-true t s e in rw (q, mark_same) (f q)
        go false e = let n = eqb-false t s e in rw (mark_other t n) (g n)

-- the marks of all slots
each_of : (f : ℕ → ℕ) (a n i : ℕ) → i < n → get_or (map f (range a n)) i 0 ≡ f (a + i)
each_of f a zero i h = absurd (omega arith)
each_of f a (suc n) zero h = let e : a ≡ a + 0 = omega arith in ap f e
each_of f a (suc n) (suc i) h = let e : suc a + i ≡ a + suc i = omega arith in each_of f (suc a) n i (omega arith) ∙ ap f e

module _ (capacity : ℕ) (w : List ℕ) where
  pub marks_length : length (marks_of capacity w) ≡ capacity
  marks_length = simp length-map (length_range 0 capacity)

  pub mark_at : (s : ℕ) → s < capacity → get_or (marks_of capacity w) s 0 ≡ mark w s
  mark_at s k = let e : 0 + s ≡ s = omega arith in each_of (λ s. mark w s) 0 capacity s k ∙ ap (λ (t : ℕ). mark w t) e

  -- equal marks, one by one
  marks_by : (ms : List ℕ) → length ms ≡ capacity → ((s : ℕ) → s < capacity → mark w s ≡ get_or ms s 0) → marks_of capacity w ≡ ms
  marks_by ms e f =
      ext_get_or 0 _ _ (marks_length ∙ sym e) (λ i k. let j : i < capacity = omega (arith, marks_length) in mark_at i j ∙ f i j)

module _ (capacity : ℕ) (w : List ℕ) (room : work_at capacity ≤ length w) (s v : ℕ) (h : s < capacity) (l : v < 4) where
  pub marks_set : marks_of capacity (put_mark w s v) ≡ set (marks_of capacity w) s v
  marks_set =
      let ms = marks_of capacity w in
      marks_by capacity (put_mark w s v) (set ms s v) (length-set ms s v ∙ marks_length capacity w)
      (λ t k. mark_cases w s v (omega arith) l t (λ x. x ≡ get_or (set ms s v) t 0)
      (λ q. rw q (sym (get_or-set_same ms s v 0 (omega (arith, marks_length capacity w)))))
      (λ n. sym (get_or-set_other ms s t v 0 n ∙ mark_at capacity w t k)))

-- where only the list changed, and where only marks did
pub mark_kept : (w w' : List ℕ) → Outside 0 list_words w w' → (s : ℕ) → mark w' s ≡ mark w s
mark_kept w w' f s = ap (field (s % 16)) (f (mark_word s) (λ q. omega arith))

pub marks_kept : (capacity : ℕ) (w w' : List ℕ) → Outside 0 list_words w w' → marks_of capacity w' ≡ marks_of capacity w
marks_kept capacity w w' f =
    marks_by capacity w' (marks_of capacity w) (marks_length capacity w) (λ s k. mark_kept w w' f s ∙ sym (mark_at capacity w s k))

pub list_kept : (capacity n : ℕ) (w w' : List ℕ) → n ≤ 1024 → Outside marks_at capacity w w' → cands w' 0 n ≡ cands w 0 n
list_kept capacity n w w' h f = cands_kept marks_at capacity w w' f 0 n (λ q. absurd (omega arith))

pub outside_mark : (capacity : ℕ) (w w' : List ℕ) (s v : ℕ) → s < capacity → Outside marks_at capacity w w' → Outside marks_at capacity w (put_mark w' s v)
outside_mark capacity w w' s v h f =
    outside_set marks_at capacity w w' (mark_word s) (put_field (s % 16) v (get_or w' (mark_word s) 0)) f (omega arith) (omega arith)

-- ---- clearing: n words from word `at` on are filled with 0
zero_in : (at n j : ℕ) (w : List ℕ) → at + n ≤ length w → j < n → get_or (put_mid at n w (replicate n 0)) (at + j) 0 ≡ 0
zero_in at n j w h k = search (rules, places)

zero_out : (at n j : ℕ) (w : List ℕ) → at + n ≤ length w → (at ≤ j → at + n ≤ j) → get_or (put_mid at n w (replicate n 0)) j 0 ≡ get_or w j 0
zero_out at n j w h k = search (rules, places)

zero_length : (at n : ℕ) (w : List ℕ) → at + n ≤ length w → length (put_mid at n w (replicate n 0)) ≡ length w
zero_length at n w h = search (rules, places)

taken_length : (at n : ℕ) (w : List ℕ) → at + n ≤ length w → length (take n (drop at w)) ≡ n
taken_length at n w h = grind (arith, common_steps)

pub cleared : {capacity n : ℕ} {w zs : List ℕ} → work_at capacity ≤ length w → capacity ≤ 16 * n → n ≤ capacity
    → zs ≡ replicate (length (take n (drop marks_at w))) 0 → Cleared capacity w (put_mid marks_at n w zs)
cleared {capacity} {n} {w} room h k e =
    let l : length (take n (drop marks_at w)) ≡ n = taken_length marks_at n w (omega arith) in
    rw (e, l) (record {
      marks = marks_by capacity (put_mid marks_at n w (replicate n 0)) (replicate capacity 0) (length-replicate capacity 0)
          (λ t b. ap (field (t % 16)) (zero_in marks_at n (t / 16) w (omega arith) (omega arith)) ∙ field_zero (t % 16) ∙ sym (get_or-replicate capacity t 0 0 b));
      size = zero_length marks_at n w (omega arith);
      same = λ j o. zero_out marks_at n j w (omega arith) (λ q. omega (arith, o q));
    })

-- ---- leaving out: the first i ids are marked
pub record Leaving (capacity : ℕ) (ids w₀ w : List ℕ) (i : ℕ) : Type 0 where
  pub goes : mark_all (marks_of capacity w) (drop i ids) ≡ mark_all (marks_of capacity w₀) ids
  pub size : length w ≡ length w₀
  pub same : Outside marks_at capacity w₀ w

module _ {capacity : ℕ} {ids w₀ w : List ℕ} {i : ℕ} (f : Leaving capacity ids w₀ w i) where
  module _ (h : i < length ids) {s : ℕ} (e : s ≡ get_or ids i 0) where
    rest : mark_all (set (marks_of capacity w) s 1) (drop (i + 1) ids) ≡ mark_all (marks_of capacity w₀) ids
    rest = rw (e, add-one i) (rw (drop-cons ids i 0 h) at f.goes)

    module _ (room : work_at capacity ≤ length w₀) where
      pub leaving_slot : s < capacity → Leaving capacity ids w₀ (put_mark w s 1) (i + 1)
      leaving_slot k =
          record {
            goes = rw (marks_set capacity w (omega (arith, f.size)) s 1 k (omega arith)) rest;
            size = put_mark_length w s 1 ∙ f.size;
            same = outside_mark capacity w₀ w s 1 k f.same;
          }

      pub leaving_other : capacity ≤ s → Leaving capacity ids w₀ w (i + 1)
      leaving_other k =
          let o : set (marks_of capacity w) s 1 ≡ marks_of capacity w = set_out (marks_of capacity w) s 1 (rw (marks_length capacity w) k) in
          record { goes = rw o at rest; size = f.size; same = f.same }

-- ---- the walk begins
module _ {capacity : ℕ} (d start : ℕ) {ids w v u : List ℕ} (room : work_at capacity ≤ length w) (h : start < capacity) (f : Cleared capacity w v) (g : LeftOut capacity ids v u) where
  long : length (put_mark u start 1) ≡ length w
  long = put_mark_length u start 1 ∙ g.size ∙ f.size

  first : cands (put (put_mark u start 1) 0 d start) 0 1 ≡ pair d start ∷ []
  unfolding cands
  first = ap (λ (c : Candidate). c ∷ []) (put_cand (put_mark u start 1) 0 d start (omega (arith, long)))

  listed : Outside 0 list_words (put_mark u start 1) (put (put_mark u start 1) 0 d start)
  listed =
      outside_wide 0 2 0 marks_at (put_mark u start 1) (put (put_mark u start 1) 0 d start) (put_outside (put_mark u start 1) 0 d start) (omega arith) (omega arith)

  all_marks : marks_of capacity (put (put_mark u start 1) 0 d start) ≡ set (mark_all (replicate capacity 0) ids) start 1
  all_marks =
      marks_kept capacity (put_mark u start 1) (put (put_mark u start 1) 0 d start)
      listed ∙ marks_set capacity u (omega (arith, g.size, f.size)) start 1 h (omega arith) ∙ rw (g.marks, f.marks)

  is_met : mark (put (put_mark u start 1) 0 d start) start ≡ 1
  is_met =
      mark_kept (put_mark u start 1) (put (put_mark u start 1) 0 d start) listed start ∙ mark_same u start 1 (omega (arith, g.size, f.size)) (omega arith)

  pub begun_first : d ≤ 16777216 → Begun capacity ids d start w (put (put_mark u start 1) 0 d start)
  begun_first small =
      let size : length (put (put_mark u start 1) 0 d start) ≡ length w = put_length (put_mark u start 1) 0 d start ∙ long in
      record {
        holds = rw (first, all_marks);
        goes = λ beam some most. record {
          room = omega arith;
          listed = record { long = omega arith; some = some; most = most; few = some; order = rw first (tt, tt); small = rw first (small, tt) };
          inside = rw first (h, tt);
          met = rw first ((λ z. omega (arith, is_met)), tt);
          passed = omega arith;
          done = rw (cands_none (put (put_mark u start 1) 0 d start) 0 0 refl) tt;
        };
        size = size;
        same = outside_then 0 (work_at capacity) w (put_mark u start 1) (put (put_mark u start 1) 0 d start)
            (outside_wide marks_at capacity 0 (work_at capacity) w (put_mark u start 1) (outside_mark capacity w u start 1 h (outside_then marks_at capacity w v u f.same g.same)) (omega arith) (omega arith))
            (outside_wide 0 2 0 (work_at capacity) (put_mark u start 1) (put (put_mark u start 1) 0 d start) (put_outside (put_mark u start 1) 0 d start) (omega arith) (omega arith));
      }

pub begun : {capacity d start : ℕ} {ids w v u u' w' : List ℕ} → work_at capacity ≤ length w → start < capacity → d ≤ 16777216
    → Cleared capacity w v → LeftOut capacity ids v u → u' ≡ put_mark u start 1 → w' ≡ put u' 0 d start → Begun capacity ids d start w w'
begun room h small f g m e = rw (e, m) (begun_first _ _ room h f g small)
