-- The table as a whole: the proof of `TableRows`. That each row turns some call back is read off the table of cases. Assumes nothing.
use Prim.Native.Nat.{ℕ}
use mathlib.Core.Bool.{Bool, true, false, ◌||◌, true≢false}
use mathlib.Core.List.{List, [], ◌∷◌, map}
use mathlib.Core.Path.{◌≡◌, refl, sym, ap, ◌∙◌, subst}
use borrow.Author.Tests.{eqb-true}
use lib.Dec.{eqb}
use lib.ListN.{get_or, drop}
use Rattle.lists.specs.Lists.{All, elem, filter}
use Rattle.lists.proofs.All.{all_map, filter_test}
use Rattle.slots.specs.Store.{Store}
use Rattle.calls.specs.Calls.{Operation, create, read, read_vector, search, insert, delete, enable, status, assess, guarded_delete, Call, Answer, refused, created, number, alpha, version, vector, found, inserted, deleted, standing, assessed, applied, deferred, refused_as}
use Rattle.calls.specs.State.{State, stored}
use Rattle.calls.specs.Step.{step}
use Rattle.calls.specs.Refused.{all_rows, rows, TurnedBack, TableRows}
use Rattle.calls.specs.Table.{Case, refusals, table, outcome_of}
use Rattle.calls.proofs.Table.{table_holds}

-- ---- each row turns some call back

abbrev refuses : ℕ → Answer → Bool
refuses n (refused m) = eqb n m
refuses n created = false
refuses n (number m) = false
refuses n (alpha a) = false
refuses n (version m) = false
refuses n (vector l) = false
refuses n (found cs ns) = false
refuses n (inserted ss) = false
refuses n (deleted ts) = false
refuses n (standing s) = false
refuses n (assessed r) = false
refuses n (applied ts r) = false
refuses n (deferred r) = false

is_refused : (n : ℕ) (a : Answer) → refuses n a ≡ true → a ≡ refused n
is_refused n (refused m) e = ap refused (sym (eqb-true n m e))
is_refused n created e = absurd (true≢false (sym e))
is_refused n (number m) e = absurd (true≢false (sym e))
is_refused n (alpha a) e = absurd (true≢false (sym e))
is_refused n (version m) e = absurd (true≢false (sym e))
is_refused n (vector l) e = absurd (true≢false (sym e))
is_refused n (found cs ns) e = absurd (true≢false (sym e))
is_refused n (inserted ss) e = absurd (true≢false (sym e))
is_refused n (deleted ts) e = absurd (true≢false (sym e))
is_refused n (standing s) e = absurd (true≢false (sym e))
is_refused n (assessed r) e = absurd (true≢false (sym e))
is_refused n (applied ts r) e = absurd (true≢false (sym e))
is_refused n (deferred r) e = absurd (true≢false (sym e))

abbrev first : List Answer → Answer
first [] = created
first (a ∷ rest) = a

-- a case whose first call is turned back with n
abbrev shows : ℕ → List Case → Bool
shows n [] = false
shows n (c ∷ cs) = refuses n (first c.outcome.answers) || shows n cs

module _ (n : ℕ) where
  in_case : (w : State Store) (cs : List Call) → refuses n (first (outcome_of w cs).answers) ≡ true → TurnedBack n
  in_case w [] h = absurd (true≢false (sym h))
  in_case w (c ∷ cs) h = (w, c, is_refused n (step stored w c).1 h)

  in_cases : (cs : List Case) → map (λ c. outcome_of c.start c.calls) cs ≡ map (λ c. c.outcome) cs → shows n cs ≡ true → TurnedBack n
  in_cases [] e h = absurd (true≢false (sym h))
  in_cases (c ∷ cs) e h = go (refuses n (first c.outcome.answers)) refl h (in_cases cs (ap (drop 1) e))
    where
      go : (b : Bool) → refuses n (first c.outcome.answers) ≡ b → (b || shows n cs) ≡ true → (shows n cs ≡ true → TurnedBack n) → TurnedBack n
      go true k x later = in_case c.start c.calls (ap (λ o. refuses n (first o.answers)) (ap (λ l. get_or l 0 c.outcome) e) ∙ k)
      go false k x later = later x

all_shown : filter (λ n. shows n table) all_rows ≡ all_rows
unfolding all_rows table refusals refused_as
all_shown = refl

-- ---- the rows of each call

rows_ordered : (o : Operation) → filter (λ n. elem n (rows o)) all_rows ≡ rows o
unfolding all_rows rows
rows_ordered (create m) = refl
rows_ordered (read r) = refl
rows_ordered (read_vector s) = refl
rows_ordered (search a) = refl
rows_ordered (insert a) = refl
rows_ordered (delete a) = refl
rows_ordered (enable config) = refl
rows_ordered status = refl
rows_ordered (assess a) = refl
rows_ordered (guarded_delete a) = refl

pub table_rows : TableRows
table_rows = record {
  ordered = rows_ordered;
  needed = all_map (λ n. shows n table ≡ true) TurnedBack (λ n h. in_cases n table table_holds h) all_rows
      (subst (All (λ n. shows n table ≡ true)) all_shown (filter_test (λ n. shows n table) all_rows));
}
