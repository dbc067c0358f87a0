-- Assessing a delete: what the code decides and reports is what the definitions say. Assumes nothing.
use Prim.Native.Nat.{ℕ, min}
use mathlib.Core.Bool.{false}
use mathlib.Core.Path.{refl, sym, ◌∙◌}
use mathlib.Core.List.{List}
use borrow.Author.Tests.{ltb-false}
use lib.Dec.{ltb}
use lib.ListN.{length}
use Rattle.slots.specs.Sizes.{Slices, limits}
use Rattle.slots.specs.Store.{store_view, store_ops}
use Rattle.guard.specs.Guard.{no_landmarks}
use Rattle.index.specs.declared.Index.{Index}
use Rattle.calls.specs.Calls.{Assess, Call, assess, refused_as}
use Rattle.calls.specs.Outputs.{room_of, written}
use Rattle.calls.specs.Refusals.{tests}
use Rattle.calls.specs.State.{stored, shown}
use Rattle.calls.specs.Step.{refusal, perform, report_of}
use Rattle.calls.specs.Runs.{lent_of, slices_of, call_of, run_refusal}
use Rattle.index.specs.Index.{state_of}
use Rattle.index.proofs.Decide.{step_back, step_on}
use Rattle.admission.specs.declared.report.Report.{Report}
use Rattle.updating.proofs.Fills.{ok_is}
use Rattle.index.specs.declared.Refusal.{Refusal}
use Rattle.index.specs.Refusal.{number_of}
use Rattle.std.specs.Prelude.{Result, Ok, Err}
use Rattle.guarding.specs.Guarding.{report_outputs, assessed_as, Assesses}
use Rattle.guarding.proofs.Shared.{numbers_are}
use Rattle.guarding.proofs.Tested.{Testable, Tested, number_given, none_given}

module _ (index : Index) (s : Slices) (a : Assess) (checked lost scratch : List ℕ) where
  pub assess_testable : Testable (ltb (min (length checked) (length lost)) limits.landmarks) (ltb limits.ids (length a.ids)) a.ids checked lost
  unfolding limits
  assess_testable = record { long = λ e. ltb-false (min (length checked) (length lost)) 64 e; few = λ e. ltb-false 256 (length a.ids) e }

  abbrev call : Call
  call = record { lent = lent_of s (report_outputs checked lost) scratch; operation = assess a }

  -- by the tests as the definitions have them
  abbrev Answered : List ℕ → List ℕ → List ℕ → Result Report Refusal → Type 0
  Answered checked' lost' scratch' r =
      Tested index s (ltb (min (length checked) (length lost)) limits.landmarks) (ltb limits.ids (length a.ids)) a.ids checked lost scratch checked' lost' scratch' r

  pub assesses : {checked' lost' scratch' : List ℕ} (r : Result Report Refusal) → Answered checked' lost' scratch' r
      → Assesses index s a (report_outputs checked lost) scratch (report_outputs checked' lost') scratch' r
  unfolding tests refusal perform refused_as assessed_as written state_of stored store_ops store_view shown room_of call_of slices_of run_refusal
  assesses (Err x) t =
      let k = t.back x refl in
      record {
        report = no_landmarks false 0;
        numbers = λ m e. cc;
        meets = record {
          does = sym (step_back (state_of index s) call (number_of x) (number_given index s _ _ scratch t.decided refl));
          writes = λ i. report_outputs (k.0 i) (k.1 i);
          keeps = λ m e. k.2;
        };
      }
  assesses (Ok v) t =
      let g = t.on v refl in
      let through = none_given index s _ _ scratch t.decided refl in
      record {
        report = report_of (shown stored (state_of index s)) a.ids;
        numbers = λ m h. sym (ok_is h) ∙ numbers_are g;
        meets = record {
          does = sym (step_on (state_of index s) call through);
          writes = λ i. report_outputs (g.checked_list i) (g.lost_list i);
          keeps = λ m h. let e = sym through ∙ h in cc;
        };
      }
