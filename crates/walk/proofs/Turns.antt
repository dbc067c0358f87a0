-- The walk ends within capacity many turns: more change nothing. Assumes nothing.
use Prim.Native.Nat.{ℕ, zero, suc, ◌+◌, max, ◌≤◌, ◌<◌}
use mathlib.Core.Bool.{Bool, true, false, cond}
use mathlib.Core.Path.{◌≡◌, refl, ap, sym, ◌∙◌}
use mathlib.Core.Logic.{◌⊎◌, inl, inr}
use mathlib.Core.List.{List, [], ◌∷◌}
use native.Mathlib.Omega.{arith}
use lib.ListN.{length, get_or, set, replicate}
use lib.Seq.{get_or-set_same}
use lib.Dec.{eqb}
use borrow.Author.Tests.{eqb-true, eqb-false, eq-eqb}
use Rattle.lists.proofs.All.{by_cases, foldl_keeps}
use Rattle.candidates.specs.Candidates.{Candidate}
use Rattle.walk.specs.Walk.{State, unexpanded, ends, meet, expand, turn, turns}
use Rattle.walk.proofs.Ordered.{First, Inside, expanded, mark_set, unexpanded_first, meet_sound, marked_sound, turn_sound, start_sound}
use Rattle.lists.specs.Lists.{All}

-- `run n` takes n steps. Where each step changes nothing or leaves less, more steps than there are left change nothing.
module _ {S : Type 0} (step : S → S) (run : ℕ → S → S) (none : (s : S) → run zero s ≡ s) (more : (n : ℕ) (s : S) → run (suc n) s ≡ run n (step s))
    (Good : S → Type 0) (left : S → ℕ) (keeps : (s : S) → Good s → Good (step s)) (falls : (s : S) → Good s → (step s ≡ s) ⊎ (left (step s) < left s)) where
  stays : (n : ℕ) (s : S) → step s ≡ s → run n s ≡ s
  stays zero s e = none s
  stays (suc n) s e = more n s ∙ ap (run n) e ∙ stays n s e

  pub enough : (m n : ℕ) (s : S) → Good s → left s ≤ m → m ≤ n → run n s ≡ run m s
  enough zero zero s g h k = refl
  enough (suc m) zero s g h k = absurd (omega arith)
  enough zero (suc n) s g h k = go (falls s g)
    where
      go : (step s ≡ s) ⊎ (left (step s) < left s) → run (suc n) s ≡ run zero s
      go (inl e) = stays (suc n) s e ∙ sym (none s)
      go (inr l) = absurd (omega arith)
  enough (suc m) (suc n) s g h k = go (falls s g) (λ l. enough m n (step s) (keeps s g) l (omega arith))
    where
      go : (step s ≡ s) ⊎ (left (step s) < left s) → (left (step s) ≤ m → run n (step s) ≡ run m (step s)) → run (suc n) s ≡ run (suc m) s
      go (inl e) rest = stays (suc n) s e ∙ sym (stays (suc m) s e)
      go (inr l) rest = more n s ∙ rest (omega arith) ∙ sym (more m s)

-- how many below n are not done
abbrev pub undone : (ℕ → Bool) → ℕ → ℕ
undone done zero = 0
undone done (suc n) = let rest = undone done n in cond (done n) rest (suc rest)

pub undone_most : (done : ℕ → Bool) (n : ℕ) → undone done n ≤ n
undone_most done zero = omega arith
undone_most done (suc n) = let rest = undone_most done n in go (done n) rest
  where
    go : (b : Bool) → undone done n ≤ n → cond b (undone done n) (suc (undone done n)) ≤ suc n
    go true h = omega arith
    go false h = omega arith

-- what was done is done: no more are not, and fewer where one more is done
module _ (done done' : ℕ → Bool) (still : (s : ℕ) → done s ≡ true → done' s ≡ true) where
  one_more : (k u v : ℕ) (b c : Bool) → (b ≡ true → c ≡ true) → k + u ≤ v → k + cond c u (suc u) ≤ cond b v (suc v)
  one_more k u v true true t h = h
  one_more k u v true false t h = let z : ◌≡◌ {A = ℕ} 0 1 = cc (t refl) in absurd (omega arith)
  one_more k u v false true t h = omega arith
  one_more k u v false false t h = omega arith

  undone_least : (n : ℕ) → undone done' n ≤ undone done n
  undone_least zero = omega arith
  undone_least (suc n) =
      let rest = undone_least n in omega (arith, one_more 0 (undone done' n) (undone done n) (done n) (done' n) (still n) (omega arith))

  pub undone_fewer : (x n : ℕ) → x < n → done x ≡ false → done' x ≡ true → undone done' n < undone done n
  undone_fewer x zero h e f = absurd (omega arith)
  undone_fewer x (suc n) h e f = go (eqb x n) refl (undone_fewer x n)
    where
      go : (b : Bool) → eqb x n ≡ b → (x < n → done x ≡ false → done' x ≡ true → undone done' n < undone done n) → undone done' (suc n) < undone done (suc n)
      go true q rest = let i = eqb-true x n q in rw (rw i at e, rw i at f) (omega (arith, undone_least n))
      go false q rest =
          let less = rest (omega (arith, eqb-false x n q)) e f in
          omega (arith, one_more 1 (undone done' n) (undone done n) (done n) (done' n) (still n) (omega arith))

module _ (capacity beam : ℕ) (dist : ℕ → ℕ) (neighbors : ℕ → List ℕ) (near : (s : ℕ) → s < capacity → All (λ t. t < capacity) (neighbors s)) (some : 1 ≤ beam) where
  -- what is expanded stays so
  meet_expanded : (st : State) (s t : ℕ) → s < length st.marks → expanded st.marks t ≡ true → expanded (meet beam dist neighbors st s).marks t ≡ true
  unfolding meet
  meet_expanded st s t h e =
      by_cases (λ (x : State). expanded x.marks t ≡ true) (eqb (get_or st.marks s 0) 0)
      (λ z. rw (mark_set st.marks s 1 t h) (by_cases (λ m. eqb m 2 ≡ true) (eqb t s)
      (λ i. absurd (omega (arith, eqb-true (get_or st.marks s 0) 0 z, eqb-true (get_or st.marks s 0) 2 (rw (eqb-true t s i) at e)))) (λ i. e))) (λ z. e)

  expand_expanded : (st : State) (c : Candidate) (t : ℕ) → c.id < capacity → Inside capacity beam dist st → expanded (set st.marks c.id 2) t ≡ true
      → expanded (expand beam dist neighbors st c).marks t ≡ true
  unfolding expand
  expand_expanded st c t h f e =
      (foldl_keeps (λ s. s < capacity) (λ x. Inside capacity beam dist x × (expanded x.marks t ≡ true)) (meet beam dist neighbors)
      (λ x s k i. (meet_sound capacity beam dist neighbors _ (λ s k. k) near some x s k i.0, meet_expanded x s t (omega (arith, i.0.size)) i.1))
      (neighbors c.id) (near c.id h) _ (marked_sound c.id h f, e)).1

  turn_falls : (st : State) (us : List Candidate) → First (λ c. (c.id < capacity) × (expanded st.marks c.id ≡ false)) us → Inside capacity beam dist st
      → (turn beam dist neighbors st us ≡ st) ⊎ (undone (expanded (turn beam dist neighbors st us).marks) capacity < undone (expanded st.marks) capacity)
  unfolding turn
  turn_falls st [] h f = inl refl
  turn_falls st (c ∷ cs) h f =
      let k : c.id < length st.marks = omega (arith, h.0, f.size) in
      by_cases (λ (x : State). (x ≡ st) ⊎ (undone (expanded x.marks) capacity < undone (expanded st.marks) capacity)) (ends beam st.list c) (λ e. inl refl)
      (λ e. inr (undone_fewer (expanded st.marks) (expanded (expand beam dist neighbors st c).marks)
      (λ t i. expand_expanded st c t h.0 f (rw (mark_set st.marks c.id 2 t k) (by_cases (λ m. eqb m 2 ≡ true) (eqb t c.id) (λ j. refl) (λ j. i))))
      c.id capacity h.0 h.1 (expand_expanded st c c.id h.0 f (eq-eqb _ _ (get_or-set_same st.marks c.id 2 0 k)))))

  pub turns_enough_from : (m n : ℕ) (st : State) → Inside capacity beam dist st → undone (expanded st.marks) capacity ≤ m → m ≤ n
      → turns beam dist neighbors n st ≡ turns beam dist neighbors m st
  unfolding turns
  turns_enough_from =
      enough (λ st. turn beam dist neighbors st (unexpanded st.marks st.list)) (turns beam dist neighbors) (λ st. refl) (λ n st. refl) (Inside capacity beam dist)
      (λ st. undone (expanded st.marks) capacity)
      (λ st f. turn_sound capacity beam dist neighbors _ (λ s k. k) near some st _ (unexpanded_first _ st.marks st.list f.found.holds) f)
      (λ st f. turn_falls st _ (unexpanded_first _ st.marks st.list f.found.holds) f)

pub turns_enough : (capacity start beam : ℕ) (dist : ℕ → ℕ) (neighbors : ℕ → List ℕ) → start < capacity
    → ((s : ℕ) → s < capacity → All (λ t. t < capacity) (neighbors s)) → (n : ℕ) → capacity ≤ n
    → turns (max 1 beam) dist neighbors n (record { list = record { dist = dist start; id = start } ∷ []; marks = set (replicate capacity 0) start 1 })
    ≡ turns (max 1 beam) dist neighbors capacity (record { list = record { dist = dist start; id = start } ∷ []; marks = set (replicate capacity 0) start 1 })
turns_enough capacity start beam dist neighbors h near n k =
    turns_enough_from capacity (max 1 beam) dist neighbors near (omega arith) capacity n _
    (start_sound capacity start (max 1 beam) dist (λ s. s < capacity) h h (omega arith)) (undone_most _ capacity) k
