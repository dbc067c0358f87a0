-- Demand 3 over runs of the code: the proof of `HistoryOfRuns`. Assumes nothing.
use Prim.Native.Nat.{ℕ}
use mathlib.Core.Bool.{Bool, true, false}
use mathlib.Core.Option.{Option, none, some}
use mathlib.Core.Path.{◌≡◌, refl, sym, ap, ap₂, ◌∙◌, subst}
use mathlib.Core.List.{List, [], ◌∷◌, map}
use native.Mathlib.Omega.{arith}
use Rattle.slots.specs.Sizes.{Lengths, exact, lengths_of, limits, sizes_ok, alpha_ok, lengths_ok}
use Rattle.slots.specs.View.{View}
use Rattle.slots.specs.Store.{Store, store_view, store_ops}
use Rattle.calls.specs.Calls.{Making, Operation, create, read, read_vector, search, insert, delete, enable, status, assess, guarded_delete, Lent, Call, Answer, created}
use Rattle.calls.specs.Refusals.{Test, first_of, making_tests, index_tests, tests}
use Rattle.calls.specs.State.{State, stored, plain, shown, made}
use Rattle.calls.specs.Step.{perform, refusal, settle, step}
use Rattle.calls.specs.History.{compared, Few, log_after, Within, trace}
use Rattle.calls.specs.Runs.{Run, slices_of, slices_lent, call_of, value_of, Lends, the_index, other_slices, a_new_one, run_refusal, Meets, after_run, next, Chain, observed, HistoryOfRuns}
use Rattle.calls.proofs.Tests.{passed_lengths}
use Rattle.calls.proofs.History.{Same, Both, same_refusal, step_both, same_compared, made_both, made_step}

-- ---- slices of other lengths are refused

-- a reached index has slices of exactly its lengths
own_lengths : (log : List ℕ) (w : State Store) (p : State View) → Same log w p → lengths_of (slices_of w) ≡ exact limits (store_view w.graph).sizes
unfolding slices_of store_view
own_lengths log w p e =
    let s = e.agree.sound.shaped in
    λ i. record {
      vectors = s.vectors_long i;
      targets = s.targets_long i;
      edges = s.edges_long i;
      versions = s.versions_long i;
      marks = s.marks_long i;
      pool = e.pool_long i;
      numbers = e.numbers_long i;
      summary = e.summary_long i;
      weights = e.weights_long i;
    }

-- slices that do not fit an index whose sizes are right
pub record Misfit (lent : Lengths) (u : State Store) : Type 0 where
  pub sized : sizes_ok limits (store_view u.graph).sizes ≡ true
  pub grown : alpha_ok (store_view u.graph).sizes.alpha ≡ true
  pub long : lengths_ok limits (store_view u.graph).sizes lent ≡ false

-- two states get the same of a call
pub record Alike (lent : Lent) (o : Operation) (u u' : State Store) : Type 0 where
  pub refusals : refusal stored u (record { lent = lent; operation = o }) ≡ refusal stored u' (record { lent = lent; operation = o })
  pub outcomes : refusal stored u (record { lent = lent; operation = o }) ≡ none → perform stored u o ≡ perform stored u' o

module _ (lent : Lent) where
  three : (u : State Store) → Misfit lent.slices u → (wrong : Bool) (rest : List Test) → first_of (index_tests limits lent.slices (shown stored u) wrong rest) ≡ some 3
  unfolding index_tests shown stored store_ops
  three u f wrong rest = rw (f.sized, f.grown, f.long)

  both_three : (o : Operation) (u u' : State Store) → refusal stored u (record { lent = lent; operation = o }) ≡ some 3
      → refusal stored u' (record { lent = lent; operation = o }) ≡ some 3 → Alike lent o u u'
  both_three o u u' a b = record { refusals = a ∙ sym b; outcomes = λ c. absurd (let z : ◌≡◌ {A = ℕ} 0 1 = cc in omega arith) }

  pub alike_create : (m : Making) (u u' : State Store) → Alike lent (create m) u u'
  unfolding refusal tests perform
  alike_create m u u' = record { refusals = refl; outcomes = λ e. refl }

  -- every call but making is refused with 3
  data TurnedBack (o : Operation) (u u' : State Store) : Type 0 where
    making : (m : Making) → o ≡ create m → TurnedBack o u u'
    with_three : refusal stored u (record { lent = lent; operation = o }) ≡ some 3 → refusal stored u' (record { lent = lent; operation = o }) ≡ some 3 → TurnedBack o u u'

  turned_back : (o : Operation) (u u' : State Store) → Misfit lent.slices u → Misfit lent.slices u' → TurnedBack o u u'
  unfolding refusal tests
  turned_back (create m) u u' f g = making m refl
  turned_back (read r) u u' f g = with_three (three u f _ _) (three u' g _ _)
  turned_back (read_vector s) u u' f g = with_three (three u f _ _) (three u' g _ _)
  turned_back (search a) u u' f g = with_three (three u f _ _) (three u' g _ _)
  turned_back (insert a) u u' f g = with_three (three u f _ _) (three u' g _ _)
  turned_back (delete a) u u' f g = with_three (three u f _ _) (three u' g _ _)
  turned_back (enable config) u u' f g = with_three (three u f _ _) (three u' g _ _)
  turned_back status u u' f g = with_three (three u f _ _) (three u' g _ _)
  turned_back (assess a) u u' f g = with_three (three u f _ _) (three u' g _ _)
  turned_back (guarded_delete a) u u' f g = with_three (three u f _ _) (three u' g _ _)

  alike_misfit : (o : Operation) (u u' : State Store) → TurnedBack o u u' → Alike lent o u u'
  alike_misfit o u u' (making m q) = subst (λ o. Alike lent o u u') (sym q) (alike_create m u u')
  alike_misfit o u u' (with_three a b) = both_three o u u' a b

-- ---- one run is one call on what the app had

module _ (log : List ℕ) (w : State Store) (p : State View) (e : Same log w p) (r : Run) where
  misfits : value_of r.before ≡ value_of w → (slices_lent r ≡ lengths_of (slices_of w) → ⊥) → Misfit (slices_lent r) r.before × Misfit (slices_lent r) w
  unfolding value_of
  misfits v n =
      let z = (store_view w.graph).sizes in
      let zs : (store_view r.before.graph).sizes ≡ z = ap (λ x. x.sizes) v in
      let s = e.agree.sound in
      let grown : alpha_ok z.alpha ≡ true = unfold store_view in s.alpha_right in
      let long : lengths_ok limits z (slices_lent r) ≡ false = go (lengths_ok limits z (slices_lent r)) refl in
      (record { sized = rw zs s.sizes_right; grown = rw zs grown; long = rw zs long }, record { sized = s.sizes_right; grown = grown; long = long })
    where
      go : (q : Bool) → lengths_ok limits (store_view w.graph).sizes (slices_lent r) ≡ q → q ≡ false
      go true t = absurd (n (passed_lengths (store_view w.graph).sizes (slices_lent r) t ∙ sym (own_lengths log w p e)))
      go false t = refl

  turned : value_of r.before ≡ value_of w → (slices_lent r ≡ lengths_of (slices_of w) → ⊥) → TurnedBack (call_of r).lent r.operation r.before w
  unfolding call_of
  turned v n = let f = misfits v n in turned_back (call_of r).lent r.operation r.before w f.0 f.1

  -- slices of other lengths are refused with 3, where the run is no making
  pub refused_slices : ((m : Making) → r.operation ≡ create m → ⊥) → value_of r.before ≡ value_of w → (slices_lent r ≡ lengths_of (slices_of w) → ⊥)
      → run_refusal r ≡ some 3
  unfolding run_refusal call_of
  refused_slices other v n = go (turned v n)
    where
      go : TurnedBack (call_of r).lent r.operation r.before w → run_refusal r ≡ some 3
      go (making m q) = absurd (other m q)
      go (with_three a b) = a

  alike : Lends w r → Alike (call_of r).lent r.operation r.before w
  unfolding call_of
  alike (the_index q) = record {
    refusals = ap (λ u. refusal stored u (call_of r)) q;
    outcomes = λ c. ap (λ u. perform stored u r.operation) q;
  }
  alike (other_slices v n) = alike_misfit (call_of r).lent r.operation r.before w (turned v n)
  alike (a_new_one m q) = subst (λ o. Alike (call_of r).lent o r.before w) (sym q) (alike_create (call_of r).lent m r.before w)

  -- the plain index turns its call back with the same number
  pub run_refused : Lends w r → refusal plain p (call_of r) ≡ run_refusal r
  unfolding run_refusal call_of
  run_refused l = sym ((alike l).refusals ∙ same_refusal log w p e (call_of r))

  -- the same number, or the same outcome
  pub run_step : Lends w r → Meets r → (next w r, r.answer) ≡ step stored w (call_of r)
  unfolding step next run_refusal call_of settle after_run
  run_step l f = go (run_refusal r) refl
    where
      same : (q : Option ℕ) → run_refusal r ≡ q → settle stored w (call_of r) q ≡ settle stored w (call_of r) (refusal stored w (call_of r))
      same q h = ap (settle stored w (call_of r)) (sym h ∙ (alike l).refusals)

      did : (q : Option ℕ) → run_refusal r ≡ q → (r.after, r.answer) ≡ settle stored r.before (call_of r) q
      did q h = f.does ∙ ap (settle stored r.before (call_of r)) h

      go : (q : Option ℕ) → run_refusal r ≡ q → (after_run w r q, r.answer) ≡ settle stored w (call_of r) (refusal stored w (call_of r))
      go (some n) h = ap (λ (x : State Store × Answer). (w, x.1)) (did (some n) h) ∙ same (some n) h
      go none h = did none h ∙ (alike l).outcomes h ∙ same none h

  -- so the two indexes agree after it, and the answers
  pub run_both : Lends w r → Meets r → Few (log_after log p (call_of r)) → Both (log_after log p (call_of r)) (next w r, r.answer) (step plain p (call_of r))
  run_both l f few =
      subst (λ (x : State Store × Answer). Both (log_after log p (call_of r)) x (step plain p (call_of r))) (sym (run_step l f)) (step_both log w p e (call_of r) few)

-- where a run is lent what the app has, the app has what it leaves, also where it is turned back
pub own_next : (r : Run) → Meets r → next r.before r ≡ r.after
unfolding next run_refusal after_run step settle
own_next r f = go (run_refusal r) refl
  where
    go : (q : Option ℕ) → run_refusal r ≡ q → after_run r.before r q ≡ r.after
    go (some n) h = sym (ap (λ (x : State Store × Answer). x.0) (f.does ∙ ap (settle stored r.before (call_of r)) h))
    go none h = refl

-- ---- every chain of runs

observed_trace : (log : List ℕ) (w : State Store) (p : State View) → Same log w p → (rs : List Run) → Chain w rs → Within log p (map call_of rs)
    → observed w rs ≡ trace plain p (map call_of rs)
observed_trace log w p e [] c h = refl
observed_trace log w p e (r ∷ rs) c h =
    let log' = log_after log p (call_of r) in
    let q = step plain p (call_of r) in
    let b = run_both log w p e r c.0 c.1 h.0 in
    ap₂ (λ x y. x ∷ y) (same_compared log' (next w r, r.answer) q b) (observed_trace log' (next w r) q.0 b.same rs c.2 h.1)

-- the making with which the runs begin
abbrev making_of : Run → Making → Call
making_of r m = record { lent = (call_of r).lent; operation = create m }

call_making : (m : Making) (r : Run) → r.operation ≡ create m → call_of r ≡ making_of r m
unfolding call_of
call_making m r q = λ i. record { lent = (call_of r).lent; operation = q i }

made_run : (w : State Store) (m : Making) (r : Run) → r.operation ≡ create m → first_of (making_tests limits (slices_lent r) m) ≡ none → Meets r
    → ◌≡◌ {A = State Store × Answer} (next w r, r.answer) (made stored m, created)
unfolding next run_refusal refusal tests after_run call_of
made_run w m r q acc f =
    let accepted : run_refusal r ≡ none = ap (refusal stored r.before) (call_making m r q) ∙ acc in
    ap (λ x. (after_run w r x, r.answer)) accepted
    ∙ f.does
    ∙ ap (step stored r.before) (call_making m r q)
    ∙ made_step stored r.before (call_of r).lent m acc

module _ (m : Making) (r : Run) (q : r.operation ≡ create m) (acc : first_of (making_tests limits (slices_lent r) m) ≡ none) where
  pub made_run_both : (w : State Store) → Meets r → Both [] (next w r, r.answer) (made plain m, created)
  made_run_both w f =
      subst (λ (x : State Store × Answer). Both [] x (made plain m, created)) (sym (made_run w m r q acc f)) (made_both (slices_lent r) m acc)

  pub made_accepted : (p : State View) → refusal plain p (call_of r) ≡ none
  unfolding refusal tests call_of
  made_accepted p = ap (refusal plain p) (call_making m r q) ∙ acc

  pub made_plain : (p : State View) → step plain p (call_of r) ≡ (made plain m, created)
  unfolding call_of
  made_plain p = ap (step plain p) (call_making m r q) ∙ made_step plain p (call_of r).lent m acc

pub history_of_runs : HistoryOfRuns
history_of_runs w p m r rs q acc c h =
    let b = made_run_both m r q acc w c.1 in
    ap₂ (λ x y. x ∷ y) (same_compared [] (next w r, r.answer) (made plain m, created) b)
    (observed_trace [] (next w r) (made plain m) b.same rs c.2 h)
    ∙ sym (ap (λ (x : State View × Answer). compared plain x ∷ trace plain x.0 (map call_of rs)) (made_plain m r q acc p))
