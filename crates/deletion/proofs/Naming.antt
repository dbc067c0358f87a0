-- The slots that a delete empties: gathered, made a rising list in which each stands once, and marked dead; the entry after it. Assumes nothing.
use Prim.Native.Nat.{ℕ, zero, suc, ◌+◌, ◌-◌, ◌*◌, ◌/◌, ◌≤◌, ◌<◌}
use mathlib.Core.Bool.{Bool, true, false, cond, not}
use mathlib.Core.Path.{◌≡◌, refl, ap, sym, ◌∙◌}
use mathlib.Core.List.{List, [], ◌∷◌, ◌++◌, map-append, append_assoc, append-nil}
use native.Mathlib.Numerals.{add-one}
use native.Mathlib.Omega.{arith}
use borrow.Author.Tests.{ne_eqb}
use lib.Dec.{eqb, ltb}
use lib.ListN.{length, get_or, set, take, drop, length-set, drop_of_length-le}
use lib.Seq.{drop-cons, take_all}
use Rattle.lists.specs.Lists.{All, filter, range, insert_by, sort_by, distinct_by, sorted_set}
use Rattle.lists.proofs.Filter.{filter_length}
use Rattle.candidates.specs.Candidates.{Candidate, nearer, scored, ids}
use Rattle.candidates.specs.Inner.Words.{pair, cand, cands, cands_of, put, Remain}
use Rattle.candidates.proofs.Parts.{part_length, cands_front, cands_written, written_length, outside_written}
use borrow.Rule.Slice.PartMut.{put_mid}
use Rattle.candidates.proofs.Words.{cands_length, cands_none, put_length, put_outside, front_cons, front_push, front_snoc, front_each}
use Rattle.candidates.proofs.Scored.{ids_scored, scored_append}
use Rattle.slots.specs.Store.{is_valid}
use Rattle.slots.specs.Inner.Writing.{Killed}
use Rattle.slots.proofs.Done.{killed_marks}
use Rattle.repair.specs.Delete.{first_or}
use Rattle.links.proofs.Planning.{filter_scored}
use Rattle.deletion.specs.Inner.Naming.{Gathered, Risen, Listed, Emptied, cleared, lowest_live}

pub ids_push : (w : List ℕ) (d s n : ℕ) → 2 * n + 1 < length w → ids (cands (put w (2 * n) d s) 0 (n + 1)) ≡ ids (cands w 0 n) ++ (s ∷ [])
ids_push w d s n h = ap ids (front_push w d s n h) ∙ map-append (λ c. c.id) (cands w 0 n) (pair d s ∷ [])

-- ---- the ids
pub record Gathering (marks named w₀ w : List ℕ) (n k : ℕ) : Type 0 where
  pub few : n ≤ k
  pub goes : ids (cands w 0 n) ++ filter (is_valid marks) (drop k named) ≡ filter (is_valid marks) named
  pub size : length w ≡ length w₀

pub gathering_none : (marks named w : List ℕ) → Gathering marks named w w 0 0
unfolding cands
gathering_none marks named w = record { few = omega arith; goes = refl; size = refl }

module _ {marks named w₀ w : List ℕ} {n k : ℕ} (g : Gathering marks named w₀ w n k) where
  module _ (h : k < length named) where
    pub gathering_more : is_valid marks (get_or named k 0) ≡ true → 2 * length named ≤ length w₀ → Gathering marks named w₀ (put w (2 * n) (get_or named k 0) (get_or named k 0)) (n + 1) (k + 1)
    gathering_more v l =
        let x : ℕ = get_or named k 0 in
        record {
          few = omega (arith, g.few);
          goes = rw (ids_push w (get_or named k 0) (get_or named k 0) n (omega (arith, g.size, g.few)), append_assoc, add-one k) (rw (drop-cons named k 0 h, v) at g.goes);
          size = put_length w (2 * n) x x ∙ g.size;
        }

    pub gathering_skip : is_valid marks (get_or named k 0) ≡ false → Gathering marks named w₀ w n (k + 1)
    gathering_skip v = record { few = omega (arith, g.few); goes = rw (add-one k) (rw (drop-cons named k 0 h, v) at g.goes); size = g.size }

  pub gathering_done : k ≡ length named → Gathered marks named n w
  gathering_done h = let e : length named ≤ k = omega arith in record { list = rw (drop_of_length-le named e, append-nil) at g.goes; few = omega (arith, g.few) }

-- ---- slots as distances
pub record Keying (w₀ w : List ℕ) (k : ℕ) : Type 0 where
  pub list : cands w 0 k ≡ scored (λ x. x) (ids (cands w₀ 0 k))
  pub size : length w ≡ length w₀
  pub same : (j : ℕ) → 2 * k ≤ j → get_or w j 0 ≡ get_or w₀ j 0

pub keying_none : (w : List ℕ) → Keying w w 0
unfolding cands
keying_none w = record { list = refl; size = refl; same = λ j h. refl }

module _ {w₀ w : List ℕ} {k : ℕ} (f : Keying w₀ w k) where
  pub keying_more : k < length w₀ / 2 → {x : ℕ} → x ≡ (cand w (2 * k)).id → Keying w₀ (put w (2 * k) x x) (k + 1)
  keying_more h {x} e =
      let i : x ≡ (cand w₀ (2 * k)).id = e ∙ f.same (2 * k + 1) (omega arith) in
      let z : ids (cands w₀ 0 (k + 1)) ≡ ids (cands w₀ 0 k) ++ (x ∷ []) = ap ids (front_snoc w₀ k) ∙ map-append (λ c. c.id) (cands w₀ 0 k) (cand w₀ (2 * k) ∷ []) ∙ rw i in
      record {
        list = front_push w x x k (omega (arith, f.size)) ∙ rw (f.list, z) (sym (scored_append (λ y. y) (ids (cands w₀ 0 k)) (x ∷ [])));
        size = put_length w (2 * k) x x ∙ f.size;
        same = λ j l. put_outside w (2 * k) x x j (λ _. omega arith) ∙ f.same j (omega arith);
      }

-- ---- a rising list in which each slot stands once
abbrev slots_as : List ℕ → List Candidate
slots_as xs = scored (λ x. x) xs

insert_slots : (x : ℕ) (l : List ℕ) → insert_by nearer (pair x x) (slots_as l) ≡ slots_as (insert_by ltb x l)
insert_slots x [] = refl
insert_slots x (y ∷ l) = go (ltb y x) (insert_slots x l)
  where
    go : (b : Bool) → insert_by nearer (pair x x) (slots_as l) ≡ slots_as (insert_by ltb x l)
        → cond b (pair y y ∷ insert_by nearer (pair x x) (slots_as l)) (pair x x ∷ pair y y ∷ slots_as l) ≡ slots_as (cond b (y ∷ insert_by ltb x l) (x ∷ y ∷ l))
    go true r = ap (λ (m : List Candidate). pair y y ∷ m) r
    go false r = refl

sort_slots : (l : List ℕ) → sort_by nearer (slots_as l) ≡ slots_as (sort_by ltb l)
sort_slots [] = refl
sort_slots (x ∷ l) = ap (insert_by nearer (pair x x)) (sort_slots l) ∙ insert_slots x (sort_by ltb l)

distinct_slots : (l : List ℕ) → distinct_by (λ c. c.id) (slots_as l) ≡ slots_as (distinct_by (λ x. x) l)
distinct_slots [] = refl
distinct_slots (x ∷ l) =
    ap (λ (m : List Candidate). pair x x ∷ m)
    (ap (filter (λ c. not (eqb x c.id))) (distinct_slots l) ∙ filter_scored (λ y. not (eqb x y)) (λ y. y) (distinct_by (λ y. y) l))

distinct_few : (k : List Candidate) → length (distinct_by (λ c. c.id) k) ≤ length k
distinct_few [] = omega arith
distinct_few (c ∷ k) = let t = distinct_few k in let u = filter_length (λ y. not (eqb c.id y.id)) (distinct_by (λ c. c.id) k) in omega arith

pub risen : (w w₁ w₂ : List ℕ) → length w₂ ≡ length w → cands_of w₁ ≡ scored (λ x. x) (ids (cands_of w)) → cands_of w₂ ≡ sort_by nearer (cands_of w₁) → {r : ℕ} {w₃ : List ℕ}
    → Remain w₂ (take (length w₂ / 2) (distinct_by (λ c. c.id) (cands_of w₂))) r w₃ → Risen w r w₃
risen w w₁ w₂ e f h l =
    let xs = ids (cands_of w) in
    let n = length w₂ / 2 in
    let k : length (distinct_by (λ c. c.id) (cands_of w₂)) ≤ n = omega (arith, distinct_few (cands_of w₂), cands_length w₂ 0 n) in
    let s : cands_of w₂ ≡ slots_as (sort_by ltb xs) = h ∙ ap (sort_by nearer) f ∙ sort_slots xs in
    record {
      list =
          ap ids (l.list ∙ take_all n (distinct_by (λ c. c.id) (cands_of w₂)) k ∙ ap (distinct_by (λ c. c.id)) s ∙ distinct_slots (sort_by ltb xs))
          ∙ ids_scored (λ x. x) (sorted_set xs);
      few = omega (arith, l.within, e);
    }

-- the list of those gathered is sorted
pub listed : {marks named w₁ : List ℕ} {n : ℕ} → 2 * n ≤ length w₁ → Gathered marks named n w₁ → {r : ℕ} (v : List ℕ) → length v ≡ length (take (2 * n) w₁) → Risen (take (2 * n) w₁) r v
    → Listed marks named r (v ++ drop (2 * n) w₁)
listed {w₁ = w₁} {n} h f {r} v e g =
    let long : length (take (2 * n) w₁) ≡ 2 * n = part_length w₁ 0 (2 * n) (omega arith) in
    let few : r ≤ n = omega (arith, g.few) in
    record {
      list = ap ids (cands_written w₁ v 0 (2 * n) (omega arith) (e ∙ long) 0 r (omega arith)) ∙ g.list ∙ ap sorted_set (ap ids (cands_front w₁ n h) ∙ f.list);
      few = omega (arith, f.few);
    }

-- beside all words
pub emptied_by : {marks named : List ℕ} (w : List ℕ) (at : ℕ) {r : ℕ} (v : List ℕ) → at + 2 * length named ≤ length w → length v ≡ length (take (at + 2 * length named - at) (drop at w))
    → Listed marks named r v → Emptied marks named w at r (put_mid at (at + 2 * length named - at) w v)
emptied_by {named = named} w at {r} v h e f =
    let k = at + 2 * length named - at in
    let long : length v ≡ k = e ∙ part_length w at k (omega arith) in
    let z : at + 0 ≡ at = omega arith in
    record {
      list = ap ids (rw z at (cands_written w v at k (omega arith) long 0 r (omega (arith, f.few)))) ∙ f.list;
      few = f.few;
      size = written_length w v at k (omega arith) long;
      same = λ j o. outside_written w v at k (omega arith) long j (λ q. omega (arith, o q));
    }

-- ---- marks are cleared
pub record Clearing (marks₀ w marks : List ℕ) (k : ℕ) : Type 0 where
  pub goes : cleared marks (ids (cands w (2 * k) (length w / 2 - k))) ≡ cleared marks₀ (ids (cands_of w))
  pub size : length marks ≡ length marks₀

module _ {marks₀ w marks : List ℕ} {k : ℕ} (f : Clearing marks₀ w marks k) where
  pub clearing_inside : All (λ c. c.id < length marks₀) (cands_of w) → k < length w / 2 → {u : ℕ} → u ≡ (cand w (2 * k)).id → u < length marks
  clearing_inside b h e = let r = front_each (λ c. c.id < length marks₀) w (length w / 2) b k h in omega (arith, r, f.size, e)

  pub clearing_more : k < length w / 2 → {u : ℕ} → u ≡ (cand w (2 * k)).id → {marks' : List ℕ} → Killed marks u marks' → Clearing marks₀ w marks' (k + 1)
  clearing_more h {u} t {marks'} d =
      let s : marks' ≡ set marks u 0 = killed_marks d in
      record { goes = rw (s, t) (rw (front_cons w (length w / 2) k h) at f.goes); size = rw s (length-set marks u 0) ∙ f.size }

  pub clearing_done : length w / 2 ≤ k → marks ≡ cleared marks₀ (ids (cands_of w))
  clearing_done h = let z : length w / 2 - k ≡ 0 = omega arith in rw (cands_none w (2 * k) (length w / 2 - k) z) at f.goes

-- ---- the lowest live slot
-- dead slots are passed over
lowest_past : (marks : List ℕ) (entry s : ℕ) → s ≤ length marks → ((k : ℕ) → k < s → get_or marks k 0 ≡ 0)
    → first_or entry (filter (is_valid marks) (range s (length marks - s))) ≡ lowest_live marks entry
unfolding is_valid
lowest_past marks entry zero h d = let z : length marks - 0 ≡ length marks = omega arith in rw z
lowest_past marks entry (suc s) h d =
    let z : length marks - s ≡ suc (length marks - suc s) = omega arith in
    let e : get_or marks s 0 ≡ 0 = d s (omega arith) in
    rw e at (rw z at (lowest_past marks entry s (omega arith) (λ k l. d k (omega arith))))

pub lowest_found : (marks : List ℕ) (entry s : ℕ) → s < length marks → (get_or marks s 0 ≡ 0 → ⊥) → ((k : ℕ) → k < s → get_or marks k 0 ≡ 0) → s ≡ lowest_live marks entry
unfolding is_valid
lowest_found marks entry s h n d =
    let z : length marks - s ≡ suc (length marks - suc s) = omega arith in
    rw (ne_eqb (get_or marks s 0) 0 n) at (rw z at (lowest_past marks entry s (omega arith) d))

pub lowest_none : (marks : List ℕ) (entry : ℕ) → ((k : ℕ) → k < length marks → get_or marks k 0 ≡ 0) → entry ≡ lowest_live marks entry
lowest_none marks entry d =
    let z : length marks - length marks ≡ 0 = omega arith in
    rw z at (lowest_past marks entry (length marks) (omega arith) d)
