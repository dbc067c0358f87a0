-- Runs of `create` meet the contract of every public function (`Meets`), whatever index the app had before. Assumes nothing.
use mathlib.Core.Path.{◌≡◌, refl, sym, ap, ◌∙◌}
use Rattle.slots.specs.Sizes.{Slices}
use Rattle.slots.specs.Store.{Store}
use Rattle.index.specs.declared.Index.{Index}
use Rattle.std.specs.Prelude.{Result, Ok, Err}
use Rattle.index.specs.declared.Refusal.{Refusal}
use Rattle.index.specs.Refusal.{number_of}
use Rattle.calls.specs.Calls.{Making, refused, created, refused_as}
use Rattle.calls.specs.Outputs.{written}
use Rattle.calls.specs.Refusals.{tests}
use Rattle.calls.specs.State.{State, state, stored}
use Rattle.calls.specs.Step.{perform, step}
use Rattle.calls.specs.Runs.{slices_of, value_of, call_of, Meets}
use Rattle.index.specs.Create.{TurnedBack, CarriedOut, Creates, created_as, left_by, create_run}
use Rattle.index.proofs.Decide.{step_back, step_on}

module _ {m : Making} {before after : Slices} (w : State Store) where
  back_does : (e : Refusal) → TurnedBack m before after (number_of e)
      → (state (value_of w) after, refused (number_of e)) ≡ step stored (state (value_of w) before) (call_of (create_run m w before after (Err e)))
  unfolding tests refused_as call_of slices_of
  back_does e b = ap (λ s. (state (value_of w) s, refused (number_of e))) b.kept ∙ sym (step_back (state (value_of w) before) _ (number_of e) b.number)

  done_does : (i : Index) → CarriedOut m before after i
      → (left_by (Ok i) w after, created) ≡ step stored (state (value_of w) before) (call_of (create_run m w before after (Ok i)))
  unfolding tests perform call_of slices_of left_by
  done_does i d = ap (λ s. (s, created)) d.new ∙ sym (step_on (state (value_of w) before) _ d.accepted)

  pub create_meets : (r : Result Index Refusal) → Creates m before after r → Meets (create_run m w before after r)
  unfolding left_by created_as written
  create_meets (Err e) c = record { does = back_does e (c.back e refl); writes = refl; keeps = λ k q. refl }
  create_meets (Ok i) c = record { does = done_does i (c.done i refl); writes = refl; keeps = λ k q. refl }
