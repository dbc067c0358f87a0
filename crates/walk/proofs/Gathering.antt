-- The neighbours of a slot are met in two passes: those that are live and not met are marked and gathered, and then they enter the list. Assumes nothing.
use Prim.Native.Nat.{ℕ, ◌+◌, ◌*◌, ◌/◌, ◌≤◌, ◌<◌}
use mathlib.Core.Bool.{Bool, true, false, ◌&&◌, true≢false}
use mathlib.Core.Path.{◌≡◌, refl, ap, sym, ◌∙◌}
use mathlib.Core.List.{List, [], ◌∷◌, ◌++◌}
use native.Mathlib.Omega.{arith}
use borrow.Author.Tests.{eq-eqb, ne_eqb, eqb-true, lt-ltb}
use lib.Dec.{eqb, ltb}
use lib.ListN.{length, take, get_or, set}
use lib.Seq.{take-suc-set}
use native.Mathlib.Numerals.{add-one}
use Rattle.std.proofs.lemmas.Option.{none-some}
use Rattle.lists.specs.Lists.{All, Pairwise}
use Rattle.lists.proofs.All.{all_map, all_both, all_append}
use Rattle.lists.proofs.Ranges.{foldl_append}
use Rattle.vectors.specs.Space.{query_distance, space, Measured}
use Rattle.candidates.specs.Candidates.{Candidate, scored}
use Rattle.candidates.specs.Inner.Words.{pair, cands, Outside}
use Rattle.candidates.proofs.Words.{outside_none, outside_wide, outside_then}
use Rattle.slots.specs.Scratch.{marks_at, work_at}
use Rattle.slots.specs.Store.{Arrays}
use Rattle.slots.specs.Inner.Rows.{RowShape, ref_at, live_from}
use Rattle.std.specs.Prelude.{Option, Some, None}
use Rattle.slots.proofs.Places.{live_from_at, live_from_dead, live_from_end, ref_inside}
use Rattle.walk.specs.Walk.{State, enter, meet}
use Rattle.walk.specs.Inner.Scratch.{near_of, mark_word, mark, put_mark, unmet, marks_of, state_of, with_fresh, meets, Walkable, Entered, Fresh, UnmetAt, Added, Gathered, Gathers, Stepped}
use Rattle.walk.proofs.Ordered.{all_enter}
use Rattle.walk.proofs.Marks.{put_mark_length, mark_same, mark_cases, mark_at, mark_kept, marks_set, marks_kept, outside_mark}
use Rattle.walk.proofs.Seen.{dist_small, near_from}
use Rattle.walk.proofs.Walking.{marked_list, marked_goes, entered_goes}

-- ---- what the tests of the code say
unmet_true : (capacity : ℕ) (w : List ℕ) (s : ℕ) → unmet capacity w s ≡ true → mark w s ≡ 0
unmet_true capacity w s = go (ltb s capacity)
  where
    go : (b : Bool) → (b && eqb (mark w s) 0) ≡ true → mark w s ≡ 0
    go true e = eqb-true _ _ e
    go false e = let z : ◌≡◌ {A = ℕ} 0 1 = cc in absurd (omega arith)

module _ (a : Arrays) (s place : ℕ) (w : List ℕ) {x : ℕ} (p : (t : ℕ) → Some t ≡ ref_at a s place → t ≡ x) where
  pub unmet_live : {r : Option ℕ} → true ≡ unmet (length a.marks) w x → r ≡ ref_at a s place → UnmetAt a s place w r
  unmet_live {r} y e =
      record {
        found = λ t q. (sym q ∙ e, rw (← (p t (sym q ∙ e))) at (unmet_true (length a.marks) w x (sym y)));
        none = λ q t k _. none-some t (sym q ∙ e ∙ sym k);
      }

  pub unmet_dead : false ≡ unmet (length a.marks) w x → UnmetAt a s place w None
  unmet_dead y =
      record {
        found = λ t q. absurd (none-some t q);
        none = λ _ t k m.
            let q : x ≡ t = sym (p t k) in
            true≢false (sym (rw (q, lt-ltb t (length a.marks) (ref_inside a s place k refl), m) at y));
      }

-- one more at the end
scored_push : (dist : ℕ → ℕ) (xs : List ℕ) (t : ℕ) → scored dist (xs ++ (t ∷ [])) ≡ scored dist xs ++ (pair (dist t) t ∷ [])
scored_push dist [] t = refl
scored_push dist (x ∷ xs) t = ap (λ (l : List Candidate). pair (dist x) x ∷ l) (scored_push dist xs t)

pairwise_push : (R : ℕ → ℕ → Type 0) (xs : List ℕ) (y : ℕ) → Pairwise R xs → All (λ x. R x y) xs → Pairwise R (xs ++ (y ∷ []))
pairwise_push R [] y h k = (tt, tt)
pairwise_push R (x ∷ xs) y h k = (all_append (R x) xs (y ∷ []) h.0 (k.0, tt), pairwise_push R xs y h.1 k.1)

-- ---- the first pass
module _ {a : Arrays} {query : List ℕ} {beam : ℕ} {w₀ : List ℕ} {n next : ℕ} {ts₀ ts w xs : List ℕ} (g : Gathered a query beam w₀ n next ts₀ ts w xs) where
  abbrev capacity : ℕ
  capacity = length a.marks

  abbrev dist : ℕ → ℕ
  dist = query_distance (space a.measure a.dim a.vectors) query

  abbrev st : State
  st = with_fresh a query beam w n xs

  -- a slot that is dead, or met already
  pub gathered_dead : {us : List ℕ} → ts ≡ us → Gathered a query beam w₀ n next ts₀ us w xs
  gathered_dead e = rw e at g

  module _ {t : ℕ} {us : List ℕ} (e : ts ≡ t ∷ us) (h : t < capacity) where
    meet_old : (mark w t ≡ 0 → ⊥) → meet beam dist (near_of a) st t ≡ st
    unfolding meet
    meet_old z = rw (ne_eqb _ 0 (λ y. z (sym (mark_at capacity w t h) ∙ y)))

    pub gathered_met : (mark w t ≡ 0 → ⊥) → Gathered a query beam w₀ n next ts₀ us w xs
    gathered_met z =
        record {
          holds = ap (λ (x : State). meets a query beam x us) (sym (meet_old z)) ∙ rw e at g.holds;
          goes = g.goes;
          fresh = g.fresh;
          same = g.same;
        }

    module _ (z : mark w t ≡ 0) where
      list : cands (put_mark w t 1) 0 n ≡ cands w 0 n
      list = marked_list g.goes t 1 h (omega arith) n (omega arith)

      meet_new : meet beam dist (near_of a) st t ≡ with_fresh a query beam (put_mark w t 1) n (xs ++ (t ∷ []))
      unfolding meet
      meet_new =
          let e : eqb (get_or (marks_of capacity w) t 0) 0 ≡ true = eq-eqb _ _ (mark_at capacity w t h ∙ z) in
          rw (e, list, marks_set capacity w g.goes.room t 1 h (omega arith), scored_push dist xs t, foldl_append (enter beam) (cands w 0 n) (scored dist xs) (pair (dist t) t ∷ []))

      pub gathered_new : {ys : List ℕ} → ys ≡ xs ++ (t ∷ []) → Gathered a query beam w₀ n next ts₀ us (put_mark w t 1) ys
      gathered_new q =
          let k : mark_word t < length w = omega (arith, g.goes.room) in
          let f = g.fresh in
          let still : (s : ℕ) → (mark w s ≡ 0 → ⊥) → mark (put_mark w t 1) s ≡ 0 → ⊥ =
          λ s m. mark_cases w t 1 k (omega arith) s (λ x. x ≡ 0 → ⊥) (λ _ y. omega arith) (λ _. m) in
          let own : mark (put_mark w t 1) t ≡ 0 → ⊥ = λ y. omega (arith, mark_same w t 1 k (omega arith)) in
          rw q (record {
            holds = ap (λ (x : State). meets a query beam x us) (sym meet_new) ∙ rw e at g.holds;
            goes = marked_goes g.goes t 1 h (omega arith) (omega arith) (λ y. absurd (omega arith));
            fresh = record {
              inside = all_append _ xs _ f.inside (h, tt);
              met = all_append _ xs _ (all_map _ _ (λ x m. still x m) xs f.met) (own, tt);
              apart = rw list (all_append _ xs _ f.apart (all_map _ _ (λ c m i. m (rw i z)) (cands w 0 n) g.goes.met, tt));
              once = pairwise_push _ xs _ f.once (all_map _ _ (λ x m i. m (rw i z)) xs f.met);
            };
            same = outside_then 0 (work_at capacity) w₀ w (put_mark w t 1) g.same
                (outside_wide marks_at capacity 0 (work_at capacity) w (put_mark w t 1) (outside_mark capacity w w t 1 h (outside_none marks_at capacity w)) (omega arith) (omega arith));
          })

-- ---- the same, place by place of a row
-- what is touched counts for nothing
pub touched_none : (n t : ℕ) → t ≤ 1020 * (n + 1) → n ≤ 64 → n + t / 1048576 ≡ n
touched_none n t h k = omega arith

module _ {a : Arrays} {s from place : ℕ} {w₀ w f : List ℕ} {k : ℕ} (shape : RowShape a.degree a.targets a.edges a.versions a.marks)
    (hs : s < length a.marks) (hp : place < a.degree) (g : Gathers a s from place w₀ w f k) {r : Option ℕ} (u : UnmetAt a s place w r) where
  pub gathers_new : {t : ℕ} {w' f' : List ℕ} → r ≡ Some t → k < length f → Added t k w f w' f' → Gathers a s from (place + 1) w₀ w' f' (k + 1)
  gathers_new {t} q l x =
      let found = u.found t q in
      let row = live_from_at a shape s place hs hp found.0 refl in
      let push : take (k + 1) (set f k t) ≡ take k f ++ (t ∷ []) = rw (add-one k) (take-suc-set f k t l) in
      rw (x.marks, x.list) (record {
        few = omega (arith, g.few);
        size = put_mark_length w t 1 ∙ g.size;
        each = λ query beam n next y. gathered_new (g.each query beam n next y) row (ref_inside a s place found.0 refl) found.1 push;
      })

  pub gathers_pass : r ≡ None → Gathers a s from (place + 1) w₀ w f k
  gathers_pass q = go (ref_at a s place) refl
    where
      more : ((query : List ℕ) (beam n next : ℕ) → Walkable (length a.marks) beam w₀ n next → Gathered a query beam w₀ n next (live_from a s from) (live_from a s (place + 1)) w (take k f))
          → Gathers a s from (place + 1) w₀ w f k
      more h = record { few = omega (arith, g.few); size = g.size; each = h }

      go : (x : Option ℕ) → x ≡ ref_at a s place → Gathers a s from (place + 1) w₀ w f k
      go (Some t) e = more (λ query beam n next y. gathered_met (g.each query beam n next y) (live_from_at a shape s place hs hp e refl) (ref_inside a s place e refl) (u.none q t e))
      go None e = more (λ query beam n next y. gathered_dead (g.each query beam n next y) (live_from_dead a shape s place hs hp e refl))

-- ---- the second pass: the slots xs are still to enter
pub record Entering (a : Arrays) (query : List ℕ) (beam : ℕ) (w₀ : List ℕ) (to : State) (w : List ℕ) (n next : ℕ) (xs : List ℕ) : Type 0 where
  pub holds : with_fresh a query beam w n xs ≡ to
  pub goes : Walkable (length a.marks) beam w n next
  pub fresh : Fresh (length a.marks) w n xs
  pub size : length w ≡ length w₀
  pub same : Outside 0 (work_at (length a.marks)) w₀ w

module _ {a : Arrays} {query : List ℕ} {beam : ℕ} where
  module _ {w₀ : List ℕ} {to : State} {w : List ℕ} {n next : ℕ} {xs : List ℕ} (g : Entering a query beam w₀ to w n next xs) where
    abbrev all : ℕ
    all = length a.marks

    entering_next : {x : ℕ} {ys : List ℕ} {d n' next' : ℕ} {w' : List ℕ} → xs ≡ x ∷ ys → d ≡ query_distance (space a.measure a.dim a.vectors) query x → d ≤ 16777216
        → Entered beam w n next (pair d x) w' n' next' → Entering a query beam w₀ to w' n' next' ys
    entering_next {x} {ys} {d} {n'} {next'} {w'} e q small y =
        let f : Fresh all w n (x ∷ ys) = rw e at g.fresh in
        let h : with_fresh a query beam w n (x ∷ ys) ≡ to = rw e at g.holds in
        let keeps = mark_kept w w' y.same in
        record {
          holds = rw (y.list, marks_kept all w w' y.same, q) h;
          goes = entered_goes g.goes f.inside.0 small f.met.0 f.apart.0 y;
          fresh = record {
            inside = f.inside.1;
            met = all_map _ _ (λ s m z. m (sym (keeps s) ∙ z)) ys f.met.1;
            apart = rw y.list (all_map _ _ (λ s m. all_enter (λ b. b.id ≡ s → ⊥) beam (cands w 0 n) (pair d x) m.0 m.1) ys (all_both _ _ ys f.apart.1 f.once.0));
            once = f.once.1;
          };
          size = y.size ∙ g.size;
          same = outside_then 0 (work_at all) w₀ w w' g.same (outside_wide 0 marks_at 0 (work_at all) w w' y.same (omega arith) (omega arith));
        }

    pub entering_more : {x : ℕ} {ys : List ℕ} {d n' next' : ℕ} {w' : List ℕ} → xs ≡ x ∷ ys → Measured (query_distance (space a.measure a.dim a.vectors) query x) d
        → Entered beam w n next (pair d x) w' n' next' → Entering a query beam w₀ to w' n' next' ys
    entering_more e m y = entering_next e m.equals (dist_small m) y

-- ---- both passes, part by part: the live targets of slot s's row from place `from` on are still to be met
pub record Meeting (a : Arrays) (query : List ℕ) (beam : ℕ) (w₀ : List ℕ) (to : State) (s from : ℕ) (w : List ℕ) (n next : ℕ) : Type 0 where
  pub holds : meets a query beam (state_of (length a.marks) w n) (live_from a s from) ≡ to
  pub goes : Walkable (length a.marks) beam w n next
  pub size : length w ≡ length w₀
  pub same : Outside 0 (work_at (length a.marks)) w₀ w

pub meeting_none : {a : Arrays} (query : List ℕ) {beam : ℕ} (s : ℕ) {w : List ℕ} {n next : ℕ} → Walkable (length a.marks) beam w n next
    → Meeting a query beam w (meets a query beam (state_of (length a.marks) w n) (near_of a s)) s 0 w n next
meeting_none {a} query {beam} s {w} {n} f =
    record { holds = ap (meets a query beam (state_of (length a.marks) w n)) (sym (near_from a s)); goes = f; size = refl; same = outside_none 0 (work_at (length a.marks)) w }

module _ {a : Arrays} {query : List ℕ} {beam : ℕ} {w₀ : List ℕ} {to : State} {s from : ℕ} {w : List ℕ} {n next : ℕ} (m : Meeting a query beam w₀ to s from w n next) where
  pub meeting_done : a.degree ≤ from → Stepped (length a.marks) beam w₀ to w n next
  meeting_done h = record { holds = rw (live_from_end a s from h) at m.holds; goes = m.goes; size = m.size; same = m.same }

  -- k slots are gathered, and enter
  module _ {end k : ℕ} {v f : List ℕ} (g : Gathers a s from end w v f k) where
    pub meeting_ready : Walkable (length a.marks) beam v n next × Fresh (length a.marks) v n (take k f)
    meeting_ready = let h = g.each query beam n next m.goes in (h.goes, h.fresh)

    pub meeting_part : {j n' next' : ℕ} {w' : List ℕ} → end ≡ j → Stepped (length a.marks) beam v (with_fresh a query beam v n (take k f)) w' n' next'
        → Meeting a query beam w₀ to s j w' n' next'
    meeting_part {w' = w'} e y =
        let h = g.each query beam n next m.goes in
        rw (← e) (record {
          holds = ap (λ (x : State). meets a query beam x (live_from a s end)) y.holds ∙ h.holds ∙ m.holds;
          goes = y.goes;
          size = y.size ∙ g.size ∙ m.size;
          same = outside_then 0 (work_at (length a.marks)) w₀ w w' m.same (outside_then 0 (work_at (length a.marks)) w v w' h.same y.same);
        })
