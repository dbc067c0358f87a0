-- What lines have of the guard's calls.
use denote.Ref.{Bor}
use Rattle.std.specs.Prelude.{List, [], ◌∷◌, Option, Result, ℕ, ◌≤◌, ◌≡◌, length, take}
use Rattle.std.specs.List.{FoldsTo}
use Rattle.admission.specs.declared.report.Report.{Report}
use Rattle.guarding.specs.declared.Enabled.{Enabled}
use Rattle.guarding.specs.declared.Guarded.{Guarded}
use Rattle.guarding.specs.declared.Guarded.TheVariants.{Applied, Deferred}
use Rattle.guarding.specs.declared.Status.{Status}
use Rattle.index.specs.declared.Index.{Index}
use Rattle.index.specs.declared.Refusal.{Refusal}
use Rattle.updating.specs.declared.names.Naming.{Naming}
use Rattle.text.specs.Inner.Text.{ReadsAll, Asks, Ended}
use Rattle.lines.specs.declared.words.Guarding.{Guarding}
use Rattle.lines.specs.Inner.Answers.{Answered, index_left}
use Rattle.changes.specs.Inner.Deletes.{Asked, Emptied}
use Rattle.guards.specs.Inner.Answers.{Reported, status_numbers}

-- the answer to `status` was read next of a line
abbrev pub StatusRead : Option (Bor (List ℕ)) → Option (Bor (List ℕ)) → Type 0
StatusRead old new = (answer : Result Status Refusal) × Answered (λ from to s. ReadsAll from to (status_numbers s)) old new answer

-- the answer to `assess` was read next of a line
abbrev pub Assessed : Option (Bor (List ℕ)) → Option (Bor (List ℕ)) → Type 0
Assessed old new = (checked : List ℕ) × (lost : List ℕ) × (answer : Result Report Refusal) × Answered (λ from to report. Reported from to report checked lost) old new answer

-- a status and as many landmarks as its pool has were read next of a line
pub record Pooled (old new : Option (Bor (List ℕ))) (status : Status) (pool : List ℕ) : Type 0 where
  pub counted : Option (Bor (List ℕ))
  pub numbers : ReadsAll old counted (status_numbers status)
  pub room : status.pool ≤ length pool
  pub landmarks : ReadsAll counted new (take status.pool pool)

-- four settings were read next of a line and an answer behind them, and the index is the one answered, or the former one
pub record Enables (old new : Option (Bor (List ℕ))) (before after : Index) : Type 0 where
  pub count : ℕ
  pub multiplier : ℕ
  pub sample : ℕ
  pub beam : ℕ
  pub left : Option (Bor (List ℕ))
  pub given : FoldsTo (λ from value to. Asks from to value) old (count ∷ multiplier ∷ sample ∷ beam ∷ []) left
  pub answer : Result Enabled Refusal
  pub pool : List ℕ
  pub read : Answered (λ from to enabled. Pooled from to enabled.status pool) left new answer
  pub index : after ≡ index_left (λ enabled. enabled.index) answer before

-- a report was read next of a line, and behind that of a delete that is not deferred the stats of the slots emptied
abbrev pub GuardedRead : List ℕ → List ℕ → List ℕ → Option (Bor (List ℕ)) → Option (Bor (List ℕ)) → Guarded → Type 0
GuardedRead checked lost scratch old new (Applied changed report) = (left : Option (Bor (List ℕ))) × Reported old left report checked lost × Emptied left new changed.count changed.index.capacity scratch
GuardedRead checked lost scratch old new (Deferred report) = Reported old new report checked lost

-- the index that a guarded delete leaves: the former one where it is deferred
abbrev pub index_guarded : Index → Guarded → Index
index_guarded before (Applied changed report) = changed.index
index_guarded before (Deferred report) = before

-- what a delete asks for was read next of a line and an answer behind it, and the index is the one answered, or the former one
pub record GuardedDeletes (old new : Option (Bor (List ℕ))) (before after : Index) : Type 0 where
  pub naming : Naming
  pub beam : ℕ
  pub degree : ℕ
  pub left : Option (Bor (List ℕ))
  pub given : Asked old left naming beam degree
  pub answer : Result Guarded Refusal
  pub checked : List ℕ
  pub lost : List ℕ
  pub scratch : List ℕ
  pub read : Answered (GuardedRead checked lost scratch) left new answer
  pub index : after ≡ index_left (index_guarded before) answer before

-- what a line was read to be, to its end, and the index that it leaves
abbrev pub Guards : Guarding → Option (Bor (List ℕ)) → Option (Bor (List ℕ)) → Index → Index → Type 0
Guards Guarding.Enable old new before after = Enables old new before after × Ended new
Guards Guarding.Status old new before after = StatusRead old new × (after ≡ before) × Ended new
Guards Guarding.Assess old new before after = Assessed old new × (after ≡ before) × Ended new
Guards Guarding.Guarded old new before after = GuardedDeletes old new before after × Ended new
