-- The walk in the words, step by step: a slot is met, a candidate is expanded, and turn follows turn. Assumes nothing.
use Prim.Native.Nat.{ℕ, zero, suc, ◌+◌, ◌-◌, ◌*◌, ◌≤◌, ◌<◌}
use mathlib.Core.Bool.{true, false}
use mathlib.Core.Path.{◌≡◌, refl, ap, sym, ◌∙◌}
use mathlib.Core.List.{List, [], ◌∷◌, ◌++◌}
use native.Mathlib.Decide.{dec_lt}
use native.Mathlib.Omega.{arith}
use borrow.Author.Tests.{eq-eqb, ne_eqb}
use lib.ListN.{length, get_or, set}
use Rattle.lists.specs.Lists.{All, foldl}
use Rattle.lists.proofs.All.{all_map, all_both, all_take}
use Rattle.candidates.specs.Candidates.{Candidate}
use Rattle.candidates.specs.Inner.Words.{pair, cand, cands, Outside}
use Rattle.candidates.proofs.Words.{cands_none, cands_length, cands_take, front_split, front_cons, front_each, outside_none, outside_wide, outside_then}
use Rattle.walk.specs.Walk.{State, unexpanded, enter, ends, meet, expand, turn, turns}
use Rattle.vectors.specs.Space.{query_distance, space}
use Rattle.slots.specs.Store.{Arrays}
use Rattle.walk.specs.Inner.Scratch.{near_of, mark_word, mark, put_mark, marks_of, state_of, expands, Walkable, Entered, Unexpanded, Next, Stepped}
use Rattle.walk.specs.declared.words.List as Lent
use Rattle.walk.specs.Inner.Searching.{SameWords}
use Rattle.walk.proofs.Ordered.{all_enter, enter_ordered, enter_short}
use Rattle.slots.specs.Scratch.{marks_at, work_at}
use Rattle.walk.proofs.Marks.{put_mark_length, mark_cases, mark_kept, mark_at, marks_set, list_kept, outside_mark}

-- what holds of the first n holds of the first k
pub all_front : (P : Candidate → Type 0) (w : List ℕ) (n k : ℕ) → k ≤ n → All P (cands w 0 n) → All P (cands w 0 k)
all_front P w n k h f = rw (cands_take w 0 n k h) at (all_take P k (cands w 0 n) f)

-- ---- a slot is marked
module _ {capacity beam : ℕ} {w : List ℕ} {n next : ℕ} (f : Walkable capacity beam w n next) (s v : ℕ) (h : s < capacity) (o : v < 4) where
  at_most : n ≤ 1024
  at_most = omega (arith, f.listed)

  pub marked_list : (k : ℕ) → k ≤ n → cands (put_mark w s v) 0 k ≡ cands w 0 k
  marked_list k l = list_kept capacity k w (put_mark w s v) (omega (arith, at_most)) (outside_mark capacity w w s v h (outside_none marks_at capacity w))

  pub marked_state : state_of capacity (put_mark w s v) n ≡ record { list = cands w 0 n; marks = set (marks_of capacity w) s v }
  marked_state = rw (marked_list n (omega arith), marks_set capacity w f.room s v h o)

  pub marked_goes : 1 ≤ v → (mark w s ≡ 2 → v ≡ 2) → Walkable capacity beam (put_mark w s v) n next
  marked_goes y z =
      let k : mark_word s < length w = omega (arith, f.room) in
      let e = marked_list n (omega arith) in
      record {
        room = rw (put_mark_length w s v) f.room;
        listed = record {
          long = rw (put_mark_length w s v) f.listed.long;
          some = f.listed.some;
          most = f.listed.most;
          few = f.listed.few;
          order = rw e f.listed.order;
          small = rw e f.listed.small;
        };
        inside = rw e f.inside;
        met = rw e (all_map _ _ (λ c m. mark_cases w s v k o c.id (λ x. x ≡ 0 → ⊥) (λ q e. omega arith) (λ _. m)) (cands w 0 n) f.met);
        passed = f.passed;
        done = rw (marked_list next f.passed) (all_map _ _ (λ c m. mark_cases w s v k o c.id (λ x. x ≡ 2) (λ q. z (rw q at m)) (λ _. m)) (cands w 0 next) f.done);
      }

-- ---- x enters: its slot is inside and met, and not in the list
pub entered_goes : {capacity beam : ℕ} {w : List ℕ} {n next d t : ℕ} {w' : List ℕ} {n' next' : ℕ} → Walkable capacity beam w n next → t < capacity
    → d ≤ 16777216 → (mark w t ≡ 0 → ⊥) → All (λ c. c.id ≡ t → ⊥) (cands w 0 n) → Entered beam w n next (pair d t) w' n' next' → Walkable capacity beam w' n' next'
entered_goes {capacity} {beam} {w} {n} {next} {d} {t} {w'} {n'} {next'} f h small m a g =
    let l = f.listed in
    let short : length (enter beam (cands w 0 n) (pair d t)) ≤ beam = enter_short beam (cands w 0 n) (pair d t) l.some (rw (cands_length w 0 n) l.few) in
    let long : length (enter beam (cands w 0 n) (pair d t)) ≡ n' = rw g.list at (cands_length w' 0 n') in
    let keeps : (s : ℕ) → mark w' s ≡ mark w s = mark_kept w w' g.same in
    record {
      room = omega (arith, f.room, g.size);
      listed = record {
        long = omega (arith, l.long, g.size);
        some = l.some;
        most = l.most;
        few = omega arith;
        order = rw g.list (enter_ordered beam (cands w 0 n) (pair d t) a l.order);
        small = rw g.list (all_enter _ beam (cands w 0 n) (pair d t) l.small small);
      };
      inside = rw g.list (all_enter _ beam (cands w 0 n) (pair d t) f.inside h);
      met = rw g.list (all_map (λ c. mark w c.id ≡ 0 → ⊥) (λ c. mark w' c.id ≡ 0 → ⊥) (λ c k z. k (sym (keeps c.id) ∙ z)) (enter beam (cands w 0 n) (pair d t)) (all_enter _ beam (cands w 0 n) (pair d t) f.met m));
      passed = g.within;
      done = rw g.front (all_map (λ c. mark w c.id ≡ 2) (λ c. mark w' c.id ≡ 2) (λ c k. keeps c.id ∙ k) (cands w 0 next') (all_front _ w next next' g.passed f.done));
    }

-- the slot of a candidate is inside
pub placed_inside : {capacity beam : ℕ} {w : List ℕ} {n next i s : ℕ} → Walkable capacity beam w n next → i < n → s ≡ (cand w (2 * i)).id → s < capacity
placed_inside {capacity} {w = w} {n} {i = i} f h p = rw p (front_each (λ c. c.id < capacity) w n f.inside i h)

-- a candidate is marked as expanded, and its neighbours are met
module _ {capacity beam : ℕ} {w : List ℕ} {n next s : ℕ} (f : Walkable capacity beam w n next) (h : next < n) (p : s ≡ (cand w (2 * next)).id) where
  pub expands_inside : s < capacity
  expands_inside = placed_inside f h p

  module _ {v : List ℕ} (m : v ≡ put_mark w s 2) where
    pub expands_goes : Walkable capacity beam v n next
    expands_goes = rw m (marked_goes f s 2 expands_inside (omega arith) (omega arith) (λ _. refl))

    pub expanded_by : (dist : ℕ → ℕ) (near : ℕ → List ℕ) {w' : List ℕ} {n' next' : ℕ} → Stepped capacity beam v (foldl (meet beam dist near) (state_of capacity v n) (near s)) w' n' next'
        → Stepped capacity beam w (expand beam dist near (state_of capacity w n) (cand w (2 * next))) w' n' next'
    unfolding expand
    expanded_by dist near {w'} g =
        record {
          holds = g.holds ∙ ap (λ (st : State). foldl (meet beam dist near) st (near s)) (rw m (marked_state f s 2 expands_inside (omega arith)))
              ∙ ap (λ (x : ℕ). foldl (meet beam dist near) (record { list = cands w 0 n; marks = set (marks_of capacity w) x 2 }) (near x)) p;
          goes = g.goes;
          size = g.size ∙ rw m (put_mark_length w s 2);
          same = outside_then 0 (work_at capacity) w v w'
              (rw m (outside_wide marks_at capacity 0 (work_at capacity) w (put_mark w s 2) (outside_mark capacity w w s 2 expands_inside (outside_none marks_at capacity w)) (omega arith) (omega arith)))
              g.same;
        }

-- ---- the first that is not expanded
unexpanded_skip : (marks : List ℕ) (xs ys : List Candidate) → All (λ c. get_or marks c.id 0 ≡ 2) xs → unexpanded marks (xs ++ ys) ≡ unexpanded marks ys
unfolding unexpanded
unexpanded_skip marks [] ys h = refl
unexpanded_skip marks (x ∷ xs) ys h = rw (eq-eqb _ _ h.0) (unexpanded_skip marks xs ys h.1)

unexpanded_here : (marks : List ℕ) (c : Candidate) (cs : List Candidate) → (get_or marks c.id 0 ≡ 2 → ⊥) → unexpanded marks (c ∷ cs) ≡ c ∷ cs
unfolding unexpanded
unexpanded_here marks c cs h = rw (ne_eqb _ _ h)

unexpanded_none : (marks : List ℕ) → unexpanded marks [] ≡ []
unfolding unexpanded
unexpanded_none marks = refl

module _ {capacity beam : ℕ} {w : List ℕ} {n next : ℕ} (f : Walkable capacity beam w n next) {r : ℕ} (x : Unexpanded w n r) where
  passes : unexpanded (marks_of capacity w) (cands w 0 n) ≡ unexpanded (marks_of capacity w) (cands w (2 * r) (n - r))
  passes =
      ap (unexpanded (marks_of capacity w)) (front_split w n r x.within)
      ∙ unexpanded_skip (marks_of capacity w) (cands w 0 r) (cands w (2 * r) (n - r))
      (all_map _ _ (λ c h. mark_at capacity w c.id h.0 ∙ h.1) (cands w 0 r)
      (all_both (λ c. c.id < capacity) (λ c. mark w c.id ≡ 2) (cands w 0 r) (all_front _ w n r x.within f.inside) x.done))

  next_all : r ≡ n → unexpanded (marks_of capacity w) (cands w 0 n) ≡ []
  next_all e = passes ∙ ap (unexpanded (marks_of capacity w)) (cands_none w (2 * r) (n - r) (omega arith)) ∙ unexpanded_none (marks_of capacity w)

  next_at : r < n → unexpanded (marks_of capacity w) (cands w 0 n) ≡ cand w (2 * r) ∷ cands w (2 * (r + 1)) (n - (r + 1))
  next_at h =
      let i : (cand w (2 * r)).id < capacity = front_each (λ c. c.id < capacity) w n f.inside r h in
      passes ∙ ap (unexpanded (marks_of capacity w)) (front_cons w n r h)
      ∙ unexpanded_here (marks_of capacity w) (cand w (2 * r)) _ (λ y. x.stops h (sym (mark_at capacity w _ i) ∙ y))

-- ---- turns: with `left` of them to come
module _ (beam : ℕ) (dist : ℕ → ℕ) (near : ℕ → List ℕ) where
  turns_none : (st : State) → turns beam dist near 0 st ≡ st
  unfolding turns
  turns_none st = refl

  turns_more : (k : ℕ) (st : State) → turns beam dist near (suc k) st ≡ turns beam dist near k (turn beam dist near st (unexpanded st.marks st.list))
  unfolding turns
  turns_more k st = refl

  turns_stay : (k : ℕ) (st : State) → turn beam dist near st (unexpanded st.marks st.list) ≡ st → turns beam dist near k st ≡ st
  turns_stay zero st e = turns_none st
  turns_stay (suc k) st e = turns_more k st ∙ ap (turns beam dist near k) e ∙ turns_stay k st e

  turn_none : (st : State) (us : List Candidate) → us ≡ [] → turn beam dist near st us ≡ st
  unfolding turn
  turn_none st us e = rw e

  turn_ends : (st : State) (us : List Candidate) (c : Candidate) (cs : List Candidate) → us ≡ c ∷ cs → ends beam st.list c ≡ true → turn beam dist near st us ≡ st
  unfolding turn
  turn_ends st us c cs e h = rw (e, h)

  turn_goes : (st : State) (us : List Candidate) (c : Candidate) (cs : List Candidate) → us ≡ c ∷ cs → ends beam st.list c ≡ false
      → turn beam dist near st us ≡ expand beam dist near st c
  unfolding turn
  turn_goes st us c cs e h = rw (e, h)

pub record Walking (a : Arrays) (query : List ℕ) (beam : ℕ) (w₀ : List ℕ) (to : State) (left : ℕ) (w : List ℕ) (n next : ℕ) : Type 0 where
  pub turns_left : turns beam (query_distance (space a.measure a.dim a.vectors) query) (near_of a) left (state_of (length a.marks) w n) ≡ to
  pub goes : Walkable (length a.marks) beam w n next
  pub size : length w ≡ length w₀
  pub same : Outside 0 (work_at (length a.marks)) w₀ w

module _ {a : Arrays} {query : List ℕ} {beam : ℕ} {w₀ : List ℕ} {to : State} {left : ℕ} {w : List ℕ} {n next : ℕ} (g : Walking a query beam w₀ to left w n next) where
  abbrev capacity : ℕ
  capacity = length a.marks

  abbrev dist : ℕ → ℕ
  dist = query_distance (space a.measure a.dim a.vectors) query

  abbrev near : ℕ → List ℕ
  near = near_of a

  stays : turns beam dist near left (state_of capacity w n) ≡ state_of capacity w n → Stepped capacity beam w₀ to w n next
  stays e = record { holds = sym e ∙ g.turns_left; goes = g.goes; size = g.size; same = g.same }

  pub walking_out : left ≡ 0 → Stepped capacity beam w₀ to w n next
  walking_out e = stays (rw e (turns_none beam dist near (state_of capacity w n)))

  -- nothing is left to expand, or the walk ends before the first that is not expanded
  walking_all : {i : ℕ} → Unexpanded w n i → i ≡ n → Stepped capacity beam w₀ to w n next
  walking_all x e = stays (turns_stay beam dist near left (state_of capacity w n) (turn_none beam dist near (state_of capacity w n) _ (next_all g.goes x e)))

  walking_ends : {i : ℕ} → Unexpanded w n i → i < n → ends beam (cands w 0 n) (cand w (2 * i)) ≡ true → Stepped capacity beam w₀ to w n next
  walking_ends x h e =
      stays (turns_stay beam dist near left (state_of capacity w n) (turn_ends beam dist near (state_of capacity w n) _ _ _ (next_at g.goes x h) e))

  module _ {r : ℕ} (x : Next beam w n r) where
    pub walking_over : r ≡ n → Stepped capacity beam w₀ to w n next
    walking_over e = go (dec_lt x.first n)
      where
        go : Dec (x.first < n) → Stepped capacity beam w₀ to w n next
        go (yes h) = walking_ends x.found h (x.over e h)
        go (no h) = walking_all x.found (omega (arith, x.found.within))

    module _ (k : r ≡ n → ⊥) where
      here : Unexpanded w n r
      here = rw (x.goes k).0 at x.found

      pub below : r < n
      below = omega (arith, here.within)

      -- the cursor at the one that is expanded next
      pub walking_goes : Walkable capacity beam w n r
      walking_goes = record { room = g.goes.room; listed = g.goes.listed; inside = g.goes.inside; met = g.goes.met; passed = here.within; done = here.done }

      pub walking_more : {more : ℕ} {w' : List ℕ} {n' next' : ℕ} → left ≡ suc more
          → Stepped capacity beam w (expands a query beam w n r) w' n' next'
          → Walking a query beam w₀ to more w' n' next'
      walking_more {more} {w'} s y =
          let st : State = state_of capacity w n in
          record {
            turns_left =
                ap (turns beam dist near more) (y.holds ∙ sym (turn_goes beam dist near st _ _ _ (next_at g.goes here below) (x.goes k).1))
                ∙ sym (turns_more beam dist near more st) ∙ ap (λ (m : ℕ). turns beam dist near m st) (sym s) ∙ g.turns_left;
            goes = y.goes;
            size = y.size ∙ g.size;
            same = outside_then 0 (work_at capacity) w₀ w w' g.same y.same;
          }

-- ---- a list whose words stay the same ones

pub same_words : {l₀ l₁ l₂ : Lent.List} → SameWords l₀ l₁ → SameWords l₁ l₂ → SameWords l₀ l₂
same_words a b = record { words = b.words ∙ a.words; beam = b.beam ∙ a.beam }
