-- A walk that leaves some slots out is the walk in which those are met from the start. Assumes nothing.
use Prim.Native.Nat.{ℕ, zero, suc, max, ◌<◌}
use mathlib.Core.Bool.{Bool, true, false, not, ◌||◌, cond, true≢false}
use mathlib.Core.Path.{◌≡◌, refl, ap, sym, ◌∙◌}
use mathlib.Core.List.{List, [], ◌∷◌}
use native.Mathlib.Omega.{arith}
use borrow.Author.Tests.{eqb-true, eqb-false, ne_eqb}
use lib.Dec.{eqb}
use lib.ListN.{length, get_or, set, replicate, length-set, length-replicate}
use lib.Seq.{get_or-set_same, get_or-set_other}
use Rattle.lists.specs.Lists.{All, filter, elem, foldl}
use Rattle.lists.proofs.All.{all_both}
use Rattle.candidates.specs.Candidates.{Candidate}
use Rattle.walk.specs.Walk.{State, unexpanded, enter, ends, meet, expand, turn, turns, graph_search}
use Rattle.walk.specs.Inner.Scratch.{mark_all, first_state}
use Rattle.walk.proofs.Ordered.{First, expanded, unexpanded_first, all_enter, mark_set}

-- ---- slots marked as met
all_length : (ms ids : List ℕ) → length (mark_all ms ids) ≡ length ms
all_length ms [] = refl
all_length ms (i ∷ ids) = all_length (set ms i 1) ids ∙ length-set ms i 1

-- a mark other than 0 stays so
all_keeps : (ms ids : List ℕ) (t : ℕ) → t < length ms → (get_or ms t 0 ≡ 0 → ⊥) → get_or (mark_all ms ids) t 0 ≡ 0 → ⊥
all_keeps ms [] t h z e = z e
all_keeps ms (i ∷ ids) t h z e = all_keeps (set ms i 1) ids t (rw (length-set ms i 1) h) (go (eqb t i) refl) e
  where
    go : (b : Bool) → eqb t i ≡ b → get_or (set ms i 1) t 0 ≡ 0 → ⊥
    go true q y = omega (arith, get_or-set_same ms t 1 0 h, rw (← eqb-true t i q) at y)
    go false q y = z (sym (get_or-set_other ms i t 1 0 (eqb-false t i q)) ∙ y)

all_met : (ms ids : List ℕ) (t : ℕ) → t < length ms → elem t ids ≡ true → get_or (mark_all ms ids) t 0 ≡ 0 → ⊥
all_met ms [] t h m e = true≢false (sym m)
all_met ms (i ∷ ids) t h m e = go (eqb t i) refl m (λ n. all_met (set ms i 1) ids t (rw (length-set ms i 1) h) n e)
  where
    go : (b : Bool) → eqb t i ≡ b → (b || elem t ids) ≡ true → (elem t ids ≡ true → ⊥) → ⊥
    go true q n r =
        all_keeps (set ms i 1) ids t (rw (length-set ms i 1) h) (λ y. omega (arith, get_or-set_same ms t 1 0 h, rw (← eqb-true t i q) at y)) e
    go false q n r = r n

all_other : (ms ids : List ℕ) (t : ℕ) → elem t ids ≡ false → get_or (mark_all ms ids) t 0 ≡ get_or ms t 0
all_other ms [] t m = refl
all_other ms (i ∷ ids) t m = go (eqb t i) refl m (all_other (set ms i 1) ids t)
  where
    go : (b : Bool) → eqb t i ≡ b → (b || elem t ids) ≡ false → (elem t ids ≡ false → get_or (mark_all (set ms i 1) ids) t 0 ≡ get_or (set ms i 1) t 0)
        → get_or (mark_all (set ms i 1) ids) t 0 ≡ get_or ms t 0
    go true q n r = absurd (true≢false n)
    go false q n r = r n ∙ get_or-set_other ms i t 1 0 (eqb-false t i q)

module _ (ids : List ℕ) (capacity : ℕ) where
  -- those of a list that are not left out
  abbrev but : List ℕ → List ℕ
  but ts = filter (λ t. not (elem t ids)) ts

  -- the list and the marks of the walk that leaves them out, and the marks of the other walk
  record Like (list : List Candidate) (ms ns : List ℕ) : Type 0 where
    left : length ms ≡ capacity
    right : length ns ≡ capacity
    gone : (t : ℕ) → t < capacity → elem t ids ≡ true → get_or ns t 0 ≡ 0 → ⊥
    here : (t : ℕ) → elem t ids ≡ false → get_or ns t 0 ≡ get_or ms t 0
    clear : All (λ c. elem c.id ids ≡ false) list
    below : All (λ c. c.id < capacity) list

  like_set : {l k : List Candidate} {ms ns : List ℕ} (s v : ℕ) → s < capacity → elem s ids ≡ false → All (λ c. elem c.id ids ≡ false) k
      → All (λ c. c.id < capacity) k → Like l ms ns → Like k (set ms s v) (set ns s v)
  like_set {ms = ms} {ns} s v h m c d f =
      record {
        left = length-set ms s v ∙ f.left;
        right = length-set ns s v ∙ f.right;
        gone = λ t i g e. f.gone t i g (sym (get_or-set_other ns s t v 0 (λ j. true≢false (sym g ∙ ap (λ x. elem x ids) j ∙ m))) ∙ e);
        here = λ t g. rw (mark_set ns s v t (omega (arith, f.right)), mark_set ms s v t (omega (arith, f.left)), f.here t g);
        clear = c;
        below = d;
      }

  -- a state of each walk
  record Alike (st st' : State) : Type 0 where
    list : st'.list ≡ st.list
    like : Like st.list st.marks st'.marks

  first_same : (l : List Candidate) (ms ns : List ℕ) → All (λ c. elem c.id ids ≡ false) l → ((t : ℕ) → elem t ids ≡ false → get_or ns t 0 ≡ get_or ms t 0)
      → unexpanded ns l ≡ unexpanded ms l
  unfolding unexpanded
  first_same [] ms ns c f = refl
  first_same (x ∷ l) ms ns c f = rw (f x.id c.0, first_same l ms ns c.1 f)

  module _ (beam : ℕ) (dist : ℕ → ℕ) (near : ℕ → List ℕ) where
    meet_alike : (st st' : State) (s : ℕ) → s < capacity → elem s ids ≡ false → Alike st st'
        → Alike (meet beam dist (λ s. but (near s)) st s) (meet beam dist near st' s)
    unfolding meet
    meet_alike st st' s h m a = rw (a.like.here s m) (go (eqb (get_or st.marks s 0) 0))
      where
        go : (b : Bool) → Alike (cond b (record { list = enter beam st.list (record { dist = dist s; id = s }); marks = set st.marks s 1 }) st)
            (cond b (record { list = enter beam st'.list (record { dist = dist s; id = s }); marks = set st'.marks s 1 }) st')
        go true =
            record {
              list = ap (λ (l : List Candidate). enter beam l (record { dist = dist s; id = s })) a.list;
              like = like_set s 1 h m (all_enter _ beam st.list _ a.like.clear m) (all_enter _ beam st.list _ a.like.below h) a.like;
            }
        go false = a

    meet_gone : (st : State) (s : ℕ) → (get_or st.marks s 0 ≡ 0 → ⊥) → meet beam dist near st s ≡ st
    unfolding meet
    meet_gone st s h = rw (ne_eqb _ _ h)

    meets_alike : (ts : List ℕ) (st st' : State) → All (λ t. t < capacity) ts → Alike st st'
        → Alike (foldl (meet beam dist (λ s. but (near s))) st (but ts)) (foldl (meet beam dist near) st' ts)
    meets_alike [] st st' b a = a
    meets_alike (s ∷ ts) st st' b a =
        go (elem s ids) refl (meets_alike ts st (meet beam dist near st' s) b.1)
        (λ m. meets_alike ts _ (meet beam dist near st' s) b.1 (meet_alike st st' s b.0 m a))
      where
        go : (c : Bool) → elem s ids ≡ c
            → (Alike st (meet beam dist near st' s) → Alike (foldl (meet beam dist (λ s. but (near s))) st (but ts)) (foldl (meet beam dist near) (meet beam dist near st' s) ts))
            → (elem s ids ≡ false
            → Alike (foldl (meet beam dist (λ s. but (near s))) (meet beam dist (λ s. but (near s)) st s) (but ts)) (foldl (meet beam dist near) (meet beam dist near st' s) ts))
            → Alike (foldl (meet beam dist (λ s. but (near s))) st (cond (not c) (s ∷ but ts) (but ts))) (foldl (meet beam dist near) (meet beam dist near st' s) ts)
        go true m i j = i (rw (meet_gone st' s (a.like.gone s b.0 m)) a)
        go false m i j = j m

    module _ (inside : (s : ℕ) → s < capacity → All (λ t. t < capacity) (near s)) where
      expand_alike : (st st' : State) (c : Candidate) → c.id < capacity → elem c.id ids ≡ false → Alike st st'
          → Alike (expand beam dist (λ s. but (near s)) st c) (expand beam dist near st' c)
      unfolding expand
      expand_alike st st' c h m a =
          meets_alike (near c.id) _ _ (inside c.id h)
          (record { list = a.list; like = like_set c.id 2 h m a.like.clear a.like.below a.like })

      turn_alike : (st st' : State) (us : List Candidate)
          → First (λ c. ((c.id < capacity) × (elem c.id ids ≡ false)) × (expanded st.marks c.id ≡ false)) us → Alike st st'
          → Alike (turn beam dist (λ s. but (near s)) st us) (turn beam dist near st' us)
      unfolding turn
      turn_alike st st' [] h a = a
      turn_alike st st' (c ∷ cs) h a =
          let e : ends beam st'.list c ≡ ends beam st.list c = ap (λ (l : List Candidate). ends beam l c) a.list in
          rw e (go (ends beam st.list c))
        where
          go : (b : Bool) → Alike (cond b st (expand beam dist (λ s. but (near s)) st c)) (cond b st' (expand beam dist near st' c))
          go true = a
          go false = expand_alike st st' c h.0.0 h.0.1 a

      turns_alike : (n : ℕ) (st st' : State) → Alike st st' → (turns beam dist near n st').list ≡ (turns beam dist (λ s. but (near s)) n st).list
      unfolding turns
      turns_alike zero st st' a = a.list
      turns_alike (suc n) st st' a =
          let l = a.like in
          let e : unexpanded st'.marks st'.list ≡ unexpanded st.marks st.list =
          ap (unexpanded st'.marks) a.list ∙ first_same st.list st.marks st'.marks l.clear l.here in
          ap (λ (us : List Candidate). (turns beam dist near n (turn beam dist near st' us)).list) e
          ∙ (turns_alike n _ _
          (turn_alike st st' _ (unexpanded_first _ st.marks st.list (all_both (λ c. c.id < capacity) (λ c. elem c.id ids ≡ false) st.list l.below l.clear)) a))

-- from a start that is not left out
pub graph_search_without : (ids : List ℕ) (capacity start beam : ℕ) (dist : ℕ → ℕ) (near : ℕ → List ℕ) → start < capacity → elem start ids ≡ false
    → ((s : ℕ) → s < capacity → All (λ t. t < capacity) (near s))
    → (turns (max 1 beam) dist near capacity (first_state capacity ids (dist start) start)).list
    ≡ graph_search capacity start beam dist (λ s. filter (λ t. not (elem t ids)) (near s))
unfolding graph_search
graph_search_without ids capacity start beam dist near h m inside =
    let zeros : List ℕ = replicate capacity 0 in
    let long : length zeros ≡ capacity = length-replicate capacity 0 in
    let none : Like ids capacity [] zeros (mark_all zeros ids) =
    record {
      left = long;
      right = all_length zeros ids ∙ long;
      gone = λ t i g. all_met zeros ids t (omega arith) g;
      here = λ t g. all_other zeros ids t g;
      clear = tt;
      below = tt;
    } in
    turns_alike ids capacity (max 1 beam) dist near inside capacity _ _ (record { list = refl; like = like_set ids capacity start 1 h m (m, tt) (h, tt) none })
