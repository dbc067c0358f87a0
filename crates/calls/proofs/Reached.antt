-- What holds of every index that calls have reached: the proof of `AlwaysReached`. Each call keeps it on the plain index, and the stored one shows the same.
-- Assumes nothing.
use Prim.Native.Nat.{ℕ, zero, suc, ◌-◌, ◌*◌}
use mathlib.Core.Bool.{Bool, true, false, not, ◌&&◌, ◌||◌, true≢false}
use mathlib.Core.List.{List, [], ◌∷◌, ◌++◌}
use mathlib.Core.Option.{Option, none, some}
use mathlib.Core.Path.{◌≡◌, refl, sym, subst}
use native.Mathlib.Omega.{arith}
use borrow.Author.Tests.{eq-eqb, ltb-true}
use lib.ListN.{replicate, drop}
use lib.Dec.{eqb, ltb}
use Rattle.lists.specs.Lists.{filter, part, All}
use Rattle.lists.proofs.All.{all_map, all_both, all_append, all_take, all_drop, all_filter, filter_test}
use Rattle.slots.specs.Sizes.{limits}
use Rattle.slots.specs.View.{View, Reached}
use Rattle.slots.specs.Store.{Store, blank, store_ops}
use Rattle.slots.specs.Plain.{other_than, plain_ops, new_plain}
use Rattle.insert.proofs.Reached.{reached_insert}
use Rattle.repair.proofs.Reached.{reached_delete}
use Rattle.guard.specs.Guard.{Report}
use Rattle.calls.specs.Calls.{Making, Delete, Operation, create, read, read_vector, search, insert, delete, enable, status, assess, guarded_delete, Lent, Call}
use Rattle.calls.specs.Refusals.{first_of, making_tests, tests, names_given}
use Rattle.calls.specs.State.{State, stored, plain, shown, made, with_graph, with_guard}
use Rattle.calls.specs.Step.{vectors_of, report_of, named as named_by, deletion, guarded, perform, refusal, settle, step}
use Rattle.calls.specs.History.{log_after, Within}
use Rattle.calls.specs.Reached.{views, AlwaysReached}
use Rattle.calls.proofs.Tests.{accepted, given_named}
use Rattle.calls.proofs.History.{Same, step_both, made_both}

-- ---- making

named : (count : ℕ) (rows : List ℕ) → names_given count rows ≡ true → All (λ t. (eqb t blank || ltb t count) ≡ true) rows
named count [] e = tt
named count (t ∷ ts) e = go (eqb t blank || ltb t count) refl e (named count ts)
  where
    go : (b : Bool) → (eqb t blank || ltb t count) ≡ b → (b && names_given count ts) ≡ true
        → (names_given count ts ≡ true → All (λ u. (eqb u blank || ltb u count) ≡ true) ts) → All (λ u. (eqb u blank || ltb u count) ≡ true) (t ∷ ts)
    go true q h rest = (q, rest h)
    go false q h rest = absurd (true≢false (sym h))

blanks : (count n : ℕ) → All (λ t. (eqb t blank || ltb t count) ≡ true) (replicate n blank)
blanks count zero = tt
blanks count (suc n) = (rw (eq-eqb blank blank refl), blanks count n)

no_blank : (count : ℕ) (l : List ℕ) → All (λ t. (eqb t blank || ltb t count) ≡ true) l → All (λ t. ltb t count ≡ true) (filter (other_than blank) l)
no_blank count l h =
    all_map _ _ (λ t e. go (eqb t blank) (ltb t count) e.0 e.1) (filter (other_than blank) l)
    (all_both _ _ (filter (other_than blank) l) (all_filter _ (other_than blank) l h) (filter_test (other_than blank) l))
  where
    go : (a b : Bool) → (a || b) ≡ true → not a ≡ true → b ≡ true
    go true b e n = absurd (true≢false (sym n))
    go false b e n = e

module _ (lent : Lent) (m : Making) (acc : first_of (making_tests limits lent.slices m) ≡ none) where
  abbrev all_rows : List ℕ
  all_rows = m.rows ++ replicate ((m.sizes.capacity - m.count) * m.sizes.degree) blank

  row_given : (s : ℕ) → All (λ t. ltb t m.count ≡ true) (filter (other_than blank) (part m.sizes.degree s all_rows))
  row_given s =
      let d = m.sizes.degree in
      no_blank m.count (part d s all_rows)
      (all_take _ d (drop (s * d) all_rows) (all_drop _ (s * d) all_rows
      (all_append _ m.rows (replicate ((m.sizes.capacity - m.count) * d) blank) (named m.count m.rows (given_named lent.slices m acc).0) (blanks m.count ((m.sizes.capacity - m.count) * d)))))

  pub reached_made : Reached (made plain m).graph
  unfolding made plain new_plain
  reached_made = record {
    live_inside = λ s h. omega (arith, ltb-true s m.count h, (accepted lent.slices m acc).room);
    live_targets = row_given;
  }

-- ---- one call

guarded_reached : (p : State View) (a : Delete) (r : Report) (q : Bool) → Reached p.graph → Reached (guarded plain p a r q).0.graph
unfolding guarded deletion with_graph plain
guarded_reached p a r true h = reached_delete a.repair_beam a.repair_degree p.graph (named_by p a) h
guarded_reached p a r false h = h

perform_reached : (p : State View) (lent : Lent) (o : Operation) → refusal plain p (record { lent = lent; operation = o }) ≡ none → Reached p.graph
    → Reached (perform plain p o).0.graph
unfolding refusal tests perform deletion with_graph with_guard plain plain_ops
perform_reached p lent (create m) acc h = reached_made lent m acc
perform_reached p lent (read q) acc h = h
perform_reached p lent (read_vector s) acc h = h
perform_reached p lent (search a) acc h = h
perform_reached p lent (insert a) acc h = reached_insert a.beam p.graph (vectors_of p.graph.sizes.dim a.bytes) h
perform_reached p lent (delete a) acc h = reached_delete a.repair_beam a.repair_degree p.graph (named_by p a) h
perform_reached p lent (enable c) acc h = h
perform_reached p lent status acc h = h
perform_reached p lent (assess a) acc h = h
perform_reached p lent (guarded_delete a) acc h = let r = report_of (shown plain p) (named_by p a) in guarded_reached p a r r.admitted h

step_reached : (p : State View) (c : Call) → Reached p.graph → Reached (step plain p c).0.graph
unfolding step settle
step_reached p c h = go (refusal plain p c) refl
  where
    go : (q : Option ℕ) → refusal plain p c ≡ q → Reached (settle plain p c q).0.graph
    go (some n) e = h
    go none e = perform_reached p c.lent c.operation e h

-- ---- every history

along : (log : List ℕ) (w : State Store) (p : State View) → Same log w p → Reached p.graph → (cs : List Call) → Within log p cs → All Reached (views stored w cs)
unfolding stored store_ops
along log w p e r [] h = (subst Reached (sym e.agree.same) r, tt)
along log w p e r (c ∷ cs) h =
    let b = step_both log w p e c h.0 in
    (subst Reached (sym e.agree.same) r, along (log_after log p c) (step stored w c).0 (step plain p c).0 b.same (step_reached p c r) cs h.1)

pub always_reached : AlwaysReached
always_reached lent m cs acc h = along [] (made stored m) (made plain m) (made_both lent.slices m acc).same (reached_made lent m acc) cs h
