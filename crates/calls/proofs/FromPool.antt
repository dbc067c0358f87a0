-- Pruning selects nothing outside its pool: the proof of `FromPool`. Assumes nothing.
use Prim.Native.Nat.{ℕ}
use mathlib.Core.List.{List}
use mathlib.Core.Path.{refl}
use Rattle.vectors.specs.Space.{slot_distance}
use Rattle.candidates.specs.Candidates.{Candidate}
use Rattle.slots.specs.View.{View}
use Rattle.prune.specs.Prune.{prune}
use Rattle.prune.proofs.Chosen.{chosen_given}
use Rattle.insert.specs.Insert.{plan, target_row}
use Rattle.repair.specs.Repair.{insert_and_prune}
use Rattle.calls.specs.FromPool.{From, FromPool}

module _ (v : View) where
  given : (source : ℕ) (pool : List Candidate) → From pool (prune v source pool)
  given = chosen_given v.sizes.degree v.sizes.alpha v.live (slot_distance v.space)

  pub from_pool : FromPool v
  unfolding plan target_row insert_and_prune
  from_pool = record {
    prune_from_pool = given;
    plan_from_pool = λ beam f. given f.slot _;
    target_row_from_pool = λ plans t. (prune v t _, refl, given t _);
    insert_and_prune_from_pool = λ source row t. (prune v source _, refl, given source _);
  }
