-- Demand 1 of the code: the proof of `ExportedDemand1`. Assumes nothing.
use Prim.Native.Nat.{ℕ}
use mathlib.Core.Bool.{Bool, true, false}
use mathlib.Core.Option.{Option, none, some}
use mathlib.Core.Path.{◌≡◌, refl, sym, ap, ◌∙◌, subst}
use Rattle.slots.specs.Store.{Store}
use Rattle.guard.specs.Guard.{Report}
use Rattle.calls.specs.Calls.{Reading, read_dim, read_capacity, read_degree, read_alpha, read_entry, read_live, read_mark, read_version, read_number, read_target, Delete, Operation, create, read, read_vector, search, insert, delete, enable, status, assess, guarded_delete, refused_as}
use Rattle.calls.specs.Refusals.{or_zero}
use Rattle.calls.specs.Refused.{First}
use Rattle.calls.specs.State.{State, stored, shown}
use Rattle.calls.specs.Step.{reading, guarded, report_of, named, perform, refusal, settle, step}
use Rattle.calls.proofs.Refused.{first_is, is_first, demand_1, first_listed, not_zero}
use Rattle.exported.specs.Runs.{Places, ExportedRun}
use Rattle.exported.specs.Performs.{state_in, call_in, put, Gives, Performs}
use Rattle.exported.specs.Refused.{tests_in, TurnsBack, ExportedDemand1}
use Rattle.exported.proofs.Performs.{exported_performs}

-- ---- what is returned, where no vector is read

abbrev Numbered : Operation → Type 0
Numbered o = (s : ℕ) → o ≡ read_vector s → ⊥

refused_returns : (n : ℕ) (o : Operation) (before : Places) → Numbered o → (put (refused_as n o) before).0 ≡ n
unfolding put refused_as
refused_returns n (create m) before h = refl
refused_returns n (read r) before h = refl
refused_returns n (read_vector s) before h = absurd (h s refl)
refused_returns n (search a) before h = refl
refused_returns n (insert a) before h = refl
refused_returns n (delete a) before h = refl
refused_returns n (enable config) before h = refl
refused_returns n status before h = refl
refused_returns n (assess a) before h = refl
refused_returns n (guarded_delete a) before h = refl

module _ (w : State Store) (before : Places) where
  reading_returns : (r : Reading) → (put (reading stored w r) before).0 ≡ 0
  unfolding put reading
  reading_returns read_dim = refl
  reading_returns read_capacity = refl
  reading_returns read_degree = refl
  reading_returns read_alpha = refl
  reading_returns read_entry = refl
  reading_returns read_live = refl
  reading_returns (read_mark s) = refl
  reading_returns (read_version s) = refl
  reading_returns (read_number s) = refl
  reading_returns (read_target s place) = refl

  guarded_returns : (a : Delete) (r : Report) (b : Bool) → (put (guarded stored w a r b).1 before).0 ≡ 0
  unfolding put guarded
  guarded_returns a r true = refl
  guarded_returns a r false = refl

  performed_returns : (o : Operation) → Numbered o → (put (perform stored w o).1 before).0 ≡ 0
  unfolding put perform
  performed_returns (create m) h = refl
  performed_returns (read r) h = reading_returns r
  performed_returns (read_vector s) h = absurd (h s refl)
  performed_returns (search a) h = refl
  performed_returns (insert a) h = refl
  performed_returns (delete a) h = refl
  performed_returns (enable config) h = refl
  performed_returns status h = refl
  performed_returns (assess a) h = refl
  performed_returns (guarded_delete a) h = guarded_returns a (report_of (shown stored w) (named w a)) _

module _ {r : ExportedRun} (k : Performs r) where
  abbrev w : State Store
  w = state_in r.lent

  told : (q : Option ℕ) → refusal stored w (call_in r) ≡ q → (r.returned, r.after) ≡ put (settle stored w (call_in r) q).1 r.before
  unfolding step
  told q h = k.does.tells ∙ ap (λ q. put (settle stored w (call_in r) q).1 r.before) h

  pub returns : Numbered r.operation → r.returned ≡ or_zero (refusal stored w (call_in r))
  unfolding settle
  returns h = go (refusal stored w (call_in r)) refl
    where
      go : (q : Option ℕ) → refusal stored w (call_in r) ≡ q → r.returned ≡ or_zero q
      go none e = ap (λ (x : ℕ × Places). x.0) (told none e) ∙ performed_returns w r.before r.operation h
      go (some n) e = ap (λ (x : ℕ × Places). x.0) (told (some n) e) ∙ refused_returns n r.operation r.before h

  turns_back : TurnsBack r
  unfolding refusal settle put refused_as
  turns_back = record {
    number = λ h n. (
      λ f. (returns h ∙ ap or_zero (first_is n (tests_in r) f), not_zero stored w (call_in r) n f),
      λ e. first n e.1 (refusal stored w (call_in r)) refl (sym e.0 ∙ returns h),
    );
    listed = λ h z. first_listed stored w (call_in r) r.returned (first r.returned z (refusal stored w (call_in r)) refl (returns h));
    empty = λ s q n f. ap (λ (x : ℕ × Places). x.0) (told (some n) (first_is n (tests_in r) f)) ∙ ap (λ o. (put (refused_as n o) r.before).0) q;
    kept = λ n f. k.refused n (first_is n (tests_in r) f);
    done = λ f. subst (Gives r) ((demand_1 stored w (call_in r)).done f) k.does;
  }
    where
      first : (n : ℕ) → (n ≡ 0 → ⊥) → (q : Option ℕ) → refusal stored w (call_in r) ≡ q → n ≡ or_zero q → First n (tests_in r)
      first n z none e h = absurd (z h)
      first n z (some m) e h = subst (λ n. First n (tests_in r)) (sym h) (is_first m (tests_in r) e)

pub exported_demand_1 : ExportedDemand1
exported_demand_1 r x = turns_back (exported_performs r x)
