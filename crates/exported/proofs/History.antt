-- Demand 3 of the code: the proof of `ExportedHistory`. Assumes nothing.
use Prim.Native.Nat.{ℕ}
use mathlib.Core.Bool.{Bool, true, false, cond}
use mathlib.Core.List.{List, [], ◌∷◌, map}
use mathlib.Core.Option.{Option, none, some}
use mathlib.Core.Path.{◌≡◌, refl, sym, ap, ap₂, ◌∙◌, subst}
use native.Mathlib.Omega.{arith}
use mathlib.Core.Logic.{⊎_elim}
use borrow.Author.Tests.{eqb-true, eq-eqb, ne_eqb}
use lib.Dec.{eqb}
use Rattle.slots.specs.Sizes.{Slices, lengths_of, limits}
use Rattle.slots.specs.View.{View}
use Rattle.slots.specs.Store.{Store, store_view, store_ops}
use Rattle.slots.specs.Plain.{plain_ops}
use Rattle.calls.specs.Calls.{Making, create, read_vector, Answer, refused, created, number, alpha, version, vector, found, inserted, deleted, standing, assessed, applied, deferred}
use Rattle.calls.specs.Outputs.{written}
use Rattle.calls.specs.Refusals.{first_of, or_zero, making_tests}
use Rattle.calls.specs.State.{State, Value, state, stored, plain, shown, made}
use Rattle.calls.specs.Step.{perform, refusal, settle, step}
use Rattle.calls.specs.History.{hide, Few, log_after, Within}
use Rattle.calls.specs.Runs.{slices_of, value_of, call_of, run_refusal, Meets, after_run, next}
use Rattle.calls.specs.Runs as Runs
use Rattle.calls.proofs.History.{Same, Both, same_shown, same_seen}
use Rattle.calls.proofs.Refused.{refusal_not_zero}
use Rattle.calls.proofs.Runs.{refused_slices, run_refused, own_next, run_both, made_run_both, made_accepted, made_plain}
use Rattle.words.specs.IndexWords.{value_words}
use Rattle.exported.specs.Runs.{Memory, Places, ExportedRun}
use Rattle.exported.specs.Performs.{value_held, state_in, call_in, put, Rewrites, by_create, Untouched, Performs}
use Rattle.exported.specs.History.{ExportedLends, own, other_slices, any_memory, Event, ExportedChain, hide_version, in_hand, asked, words_in, plain_hand, plain_hands, RefusedUntouched, AsPlain, ExportedHistory}
use Rattle.exported.proofs.Performs.{as_run, exported_performs}
use Rattle.exported.proofs.Refused.{returns}

-- ---- the words

-- they are those that the index is written as
abbrev Right : Memory → Type 0
Right a = a.words ≡ value_words (value_held a.words)

-- those that an index is written as are those that its state shows
words_told : (v : Value) (s : Slices) → value_words v ≡ words_in (shown stored (state v s))
unfolding words_in shown stored store_ops store_view
words_told v s = refl

plain_told : (p : State View) → words_in (shown plain p) ≡ words_in p
unfolding words_in shown plain plain_ops
plain_told p = refl

-- ---- the answer

-- what is compared of it: not a version
abbrev looked_at : ℕ × Places → ℕ × Places
looked_at x = (x.0, hide_version x.1)

unseen : (a : Answer) (o : Places) → looked_at (put (hide a) o) ≡ looked_at (put a o)
unfolding put hide hide_version
unseen (refused n) o = refl
unseen created o = refl
unseen (number n) o = refl
unseen (alpha a) o = refl
unseen (version n) o = refl
unseen (vector l) o = refl
unseen (found cs ns) o = refl
unseen (inserted ss) o = refl
unseen (deleted ts) o = refl
unseen (standing s) o = refl
unseen (assessed r) o = refl
unseen (applied ts r) o = refl
unseen (deferred r) o = refl

-- ---- a run of an exported function is a run of its call

put_outputs : (a : Answer) (o : Places) → (put a o).1.outputs ≡ written a o.outputs
unfolding put written
put_outputs (refused n) o = refl
put_outputs created o = refl
put_outputs (number n) o = refl
put_outputs (alpha a) o = refl
put_outputs (version n) o = refl
put_outputs (vector l) o = refl
put_outputs (found cs ns) o = refl
put_outputs (inserted ss) o = refl
put_outputs (deleted ts) o = refl
put_outputs (standing s) o = refl
put_outputs (assessed r) o = refl
put_outputs (applied ts r) o = refl
put_outputs (deferred r) o = refl

abbrev stepped : ExportedRun → State Store × Answer
stepped r = step stored (state_in r.lent) (call_in r)

abbrev run : ExportedRun → Runs.Run
run r = as_run state_in r (stepped r).1

module _ {r : ExportedRun} (k : Performs r) where
  meets : Meets (run r)
  unfolding run_refusal call_of slices_of
  meets = record {
    does = λ i. (k.does.leaves i, (stepped r).1);
    writes = ap (λ (x : ℕ × Places). x.1.outputs) k.does.tells ∙ put_outputs (stepped r).1 r.before;
    keeps = λ n h. (k.refused n h).scratch;
  }

  -- a making returns 0 or the number of its refusal
  judges : (m : Making) → r.operation ≡ create m → run_refusal (run r) ≡ cond (eqb r.returned 0) none (some r.returned)
  unfolding run_refusal call_of slices_of
  judges m q =
      let h = returns k (λ s e. let f : create m ≡ read_vector s = sym q ∙ e in let z : ◌≡◌ {A = ℕ} 0 1 = cc in omega arith) in
      go (refusal stored (state_in r.lent) (call_in r)) refl h
    where
      go : (x : Option ℕ) → refusal stored (state_in r.lent) (call_in r) ≡ x → r.returned ≡ or_zero x → x ≡ cond (eqb r.returned 0) none (some r.returned)
      go none h t = sym (ap (λ b. cond b none (some r.returned)) (eq-eqb r.returned 0 t))
      go (some n) h t =
          let b = ne_eqb r.returned 0 (λ e. refusal_not_zero stored (state_in r.lent) (call_in r) n h (sym t ∙ e)) in
          sym (ap (λ b. cond b none (some r.returned)) b ∙ ap some t)

  anew : r.left.words ≡ value_words (value_of (stepped r).0) → Right r.left
  unfolding value_of store_view
  anew e = e ∙ ap (λ w. value_words (value_of w)) (sym k.does.leaves)

  right : Right r.lent → Right r.left
  right h = ⊎_elim (λ x. anew x.1) (λ x. subst (λ w. w ≡ value_words (value_held w)) (sym x.1) h) k.does.words

  -- a making that is carried out writes them
  made_answer : (m : Making) → r.operation ≡ create m → r.returned ≡ 0 → (stepped r).1 ≡ created
  unfolding step settle perform run_refusal call_of slices_of
  made_answer m q z =
      let h = judges m q ∙ ap (λ b. cond b none (some r.returned)) (eq-eqb r.returned 0 z) in
      ap (λ x. (settle stored (state_in r.lent) (call_in r) x).1) h ∙ ap (λ o. (perform stored (state_in r.lent) o).1) q

  made_right : (m : Making) → r.operation ≡ create m → r.returned ≡ 0 → Right r.left
  made_right m q z = ⊎_elim (λ x. anew x.1) (λ x. absurd (x.0 writes)) k.does.words
    where
      writes : Rewrites r.operation (stepped r).1
      writes = subst (λ o. Rewrites o (stepped r).1) (sym q) (subst (Rewrites (create m)) (sym (made_answer m q z)) by_create)

-- ---- where the app has its index

module _ (had : Memory) {r : ExportedRun} (k : Performs r) where
  lends : {has : Memory} → ExportedLends had r has → Runs.Lends (state_in had) (run r)
  unfolding value_of store_view slices_of
  lends (own q) = Runs.the_index (ap state_in q)
  lends (other_slices other q n) = Runs.other_slices (ap (λ w. value_of (state (value_held w) r.lent.slices)) q) n
  lends (any_memory m q) = Runs.a_new_one m q

  -- a making that is turned back leaves the app what it had
  next_made : run_refusal (run r) ≡ cond (eqb r.returned 0) none (some r.returned) → next (state_in had) (run r) ≡ state_in (cond (eqb r.returned 0) r.left had)
  unfolding next after_run
  next_made e = ap (after_run (state_in had) (run r)) e ∙ go (eqb r.returned 0)
    where
      go : (b : Bool) → after_run (state_in had) (run r) (cond b none (some r.returned)) ≡ state_in (cond b r.left had)
      go true = refl
      go false = refl

  next_own : r.lent ≡ had → next (state_in had) (run r) ≡ state_in r.left
  next_own q = ap (λ a. next (state_in a) (run r)) (sym q) ∙ own_next (run r) (meets k)

  right_made : Right had → (m : Making) → r.operation ≡ create m → (b : Bool) → eqb r.returned 0 ≡ b → Right (cond b r.left had)
  right_made h m q true e = made_right k m q (eqb-true r.returned 0 e)
  right_made h m q false e = h

  module _ (log : List ℕ) (p : State View) (e : Same log (state_in had) p) where
    other : ((m : Making) → r.operation ≡ create m → ⊥) → r.lent.words ≡ had.words → (lengths_of r.lent.slices ≡ lengths_of had.slices → ⊥)
        → (run_refusal (run r) ≡ some 3) × (had.words ≡ r.left.words)
    unfolding value_of store_view slices_of run_refusal call_of
    other o q n =
        let f = refused_slices log (state_in had) p e (run r) o (ap (λ w. value_of (state (value_held w) r.lent.slices)) q) n in
        (f, sym (ap (λ a. a.words) (k.refused 3 f).memory ∙ q))

    has_next : {has : Memory} → ExportedLends had r has → next (state_in had) (run r) ≡ state_in has
    unfolding next after_run
    has_next (own q) = next_own q
    has_next (other_slices o q n) =
        let f = other o q n in ap (after_run (state_in had) (run r)) f.0 ∙ ap (λ w. state (value_held w) had.slices) f.1
    has_next (any_memory m q) = next_made (judges k m q)

    has_right : {has : Memory} → ExportedLends had r has → Right had → Right has
    has_right (own q) h = right k (subst Right (sym q) h)
    has_right (other_slices o q n) h = subst (λ w. w ≡ value_words (value_held w)) (other o q n).1 h
    has_right (any_memory m q) h = right_made h m q (eqb r.returned 0) refl

-- ---- one run

-- the returned number and what stands where the answer is written, where the two indexes agree
told : {log : List ℕ} {w : State Store} {q : State View × Answer} (r : ExportedRun) (k : Performs r) → Both log (w, (stepped r).1) q → looked_at (r.returned, r.after) ≡ looked_at (put q.1 r.before)
told {q} r k b =
    ap looked_at k.does.tells ∙ sym (unseen (stepped r).1 r.before) ∙ ap (λ a. looked_at (put a r.before)) b.answer ∙ unseen q.1 r.before

module _ (e : Event) (k : Performs e.run) where
  -- so does what the caller has in hand
  hand : (log : List ℕ) (q : State View × Answer) → Right e.has → Both log (state_in e.has, (stepped e.run).1) q → in_hand e ≡ plain_hand (asked e) q
  unfolding in_hand plain_hand
  hand log q h b =
      let t = told e.run k b in
      let w = h ∙ words_told (value_held e.has.words) e.has.slices ∙ ap words_in (same_shown b.same) ∙ plain_told q.0 in
      let s = same_seen log (state_in e.has) q.0 b.same in
      λ i. record { returned = (t i).0; places = (t i).1; words = w i; seen = s i }

  both : (log : List ℕ) (had : Memory) (p : State View) → Same log (state_in had) p → ExportedLends had e.run e.has → Few (log_after log p (asked e).call)
      → Both (log_after log p (asked e).call) (state_in e.has, (stepped e.run).1) (step plain p (asked e).call)
  unfolding call_of slices_of
  both log had p s l few =
      subst (λ w. Both (log_after log p (asked e).call) (w, (stepped e.run).1) (step plain p (asked e).call)) (has_next had k log p s l)
      (run_both log (state_in had) p s (run e.run) (lends had k l) (meets k) few)

  -- a run whose call the plain index turns back
  turned_back : (log : List ℕ) (had : Memory) (p : State View) → Same log (state_in had) p → ExportedLends had e.run e.has → (n : ℕ)
      → refusal plain p (asked e).call ≡ some n → Untouched e.run
  unfolding run_refusal call_of slices_of
  turned_back log had p s l n h = k.refused n (sym (run_refused log (state_in had) p s (run e.run) (lends had k l)) ∙ h)

-- ---- every list of runs

as_plain : (log : List ℕ) (had : Memory) (p : State View) → Same log (state_in had) p → Right had → (es : List Event) → ExportedChain had es
    → Within log p (map (λ e. (asked e).call) es) → AsPlain p es
unfolding plain_hands
as_plain log had p s h [] c f = record { hands = refl; refused = tt }
as_plain log had p s h (e ∷ es) c f =
    let k = exported_performs e.run c.0 in
    let h' = has_right had k log p s c.1 h in
    let b = both e k log had p s c.1 f.0 in
    let q = step plain p (asked e).call in
    let rest = as_plain (log_after log p (asked e).call) e.has q.0 b.same h' es c.2 f.1 in
    record { hands = ap₂ (λ x y. x ∷ y) (hand e k _ q h' b) rest.hands; refused = (turned_back e k log had p s c.1, rest.refused) }

-- ---- the making with which they begin

module _ (had : Memory) (m : Making) (e : Event) (k : Performs e.run) (q : e.run.operation ≡ create m) (acc : first_of (making_tests limits (lengths_of e.run.lent.slices) m) ≡ none) where
  begun : Both [] (next (state_in had) (run e.run), (stepped e.run).1) (made plain m, created)
  unfolding slices_of
  begun = made_run_both m (run e.run) q acc (state_in had) (meets k)

  returns_0 : e.run.returned ≡ 0
  unfolding put
  returns_0 = ap (λ (x : ℕ × Places). x.0) (told e.run k begun)

  first_next : {has : Memory} → ExportedLends had e.run has → (next (state_in had) (run e.run) ≡ state_in has) × Right has
  first_next (own l) = (next_own had k l, made_right k m q returns_0)
  first_next (other_slices other l n) = absurd (other m q)
  first_next (any_memory m' l) = (
    next_made had k (judges k m q),
    subst (λ b. Right (cond b e.run.left had)) (sym (eq-eqb e.run.returned 0 returns_0)) (made_right k m q returns_0),
  )

pub exported_history : ExportedHistory
unfolding plain_hands call_of slices_of
exported_history had p m e es q acc c f =
    let k = exported_performs e.run c.0 in
    let n = first_next had m e k q acc c.1 in
    let b = subst (λ w. Both [] (w, (stepped e.run).1) (made plain m, created)) n.0 (begun had m e k q acc) in
    let first = made_plain m (run e.run) q acc p in
    let rest = as_plain [] e.has (made plain m) b.same n.1 es c.2 f in
    record {
      hands = ap₂ (λ x y. x ∷ y) (hand e k [] (made plain m, created) n.1 b) rest.hands
          ∙ sym (ap (λ (x : State View × Answer). plain_hand (asked e) x ∷ plain_hands x.0 (map asked es)) first);
      refused = (
        λ n h. absurd (let f : none ≡ some n = sym (made_accepted m (run e.run) q acc p) ∙ h in let z : ◌≡◌ {A = ℕ} 0 1 = cc in omega arith),
        subst (λ (x : State View × Answer). RefusedUntouched x.0 es) (sym first) rest.refused,
      );
    }
