-- What lines leave that prepare a call.
use denote.Ref.{Bor}
use Rattle.lines.specs.declared.prepare.Arrays.{Arrays}
use Rattle.lines.specs.declared.prepare.State.{State}
use Rattle.lines.specs.declared.words.Preparing.{Preparing}
use Rattle.lines.specs.Inner.Given.{Given}
use Rattle.std.specs.Prelude.{◌+◌, ◌-◌, ◌%◌, slice_set, List, [], ◌∷◌, Option, None, option_map, ℕ, pos, cond, eqb, ◌≡◌, ◌≤◌, Float}
use Rattle.std.specs.Float.{binary32}
use Rattle.std.specs.Float.Ieee.{div, of_bits, of_int}
use Rattle.index.specs.declared.Guard.{Guard}
use Rattle.index.specs.declared.Index.{Index}
use Rattle.text.specs.Inner.Text.{Reads, ReadsAll, Asks, Ended}
use Rattle.lines.specs.declared.prepare.Lent.{Lent}

-- the lengths that a line `lend` has
abbrev pub lengths_of : Lent → List ℕ
lengths_of l = l.vectors ∷ l.targets ∷ l.edges ∷ l.versions ∷ l.marks ∷ l.pool ∷ l.numbers ∷ l.summary ∷ l.weights ∷ l.slots ∷ l.dists ∷ l.found ∷ l.words ∷ []

-- the lengths lent were read next of a line, which ends behind them; what is given stays
pub record Lends (old new : Option (Bor (List ℕ))) (before after : Lent) : Type 0 where
  pub reads : ReadsAll old new (lengths_of after)
  pub ended : Ended new
  pub given : (after.given ≡ before.given) × (after.rows ≡ before.rows) × (after.figures ≡ before.figures) × (after.given_weights ≡ before.given_weights)

-- alpha from its multiple of 2^24; the largest number is for none
abbrev pub alpha_of : ℕ → Float
alpha_of n = cond (eqb n 4294967295) (of_bits binary32 0x7fc0_0000) (div binary32 (of_int binary32 (pos n)) (of_bits binary32 0x4b80_0000))

-- a guard with one of its settings altered, or the length of its pool
abbrev pub altered : ℕ → ℕ → Guard → Guard
altered field value guard =
    cond (eqb field 7) (record guard { config = record guard.config { count = value } })
    (cond (eqb field 8) (record guard { config = record guard.config { multiplier = value } })
    (cond (eqb field 9) (record guard { config = record guard.config { sample = value } })
    (cond (eqb field 10) (record guard { config = record guard.config { beam = value } })
    (record guard { pool = value }))))

-- an index with one of its fields set
abbrev pub with_field : ℕ → ℕ → Index → Index
with_field field value index =
    cond (eqb field 0) (record index { dim = value })
    (cond (eqb field 1) (record index { capacity = value })
    (cond (eqb field 2) (record index { degree = value })
    (cond (eqb field 3) (record index { alpha = alpha_of value })
    (cond (eqb field 4) (record index { entry = value })
    (cond (eqb field 5) (record index { live = value })
    (cond (eqb field 6) (record index { guard = None })
    (record index { guard = option_map (altered field value) index.guard })))))))

-- the number of a field and its value were read next of a line, which ends behind them, and the index has that value there
pub record Sets (old new : Option (Bor (List ℕ))) (before after : Index) : Type 0 where
  pub field : ℕ
  pub value : ℕ
  pub named : Option (Bor (List ℕ))
  pub with_field_number : Asks old named field
  pub with_value : Asks named new value
  pub ended : Ended new
  pub known : field ≤ 11
  pub set : after ≡ with_field field value before

-- an array: with a value at a place, if it is the one that is stored to
abbrev pub stored : ℕ → ℕ → ℕ → ℕ → List ℕ → List ℕ
stored which array place value words = cond (eqb array which) (slice_set words place value) words

-- a value was stored to a place of the array of that number
pub record Stored (array place value : ℕ) (before after : Arrays) : Type 0 where
  pub known : array ≤ 7
  pub marks : after.marks.now ≡ stored 0 array place value before.marks.now
  pub versions : after.versions.now ≡ stored 1 array place value before.versions.now
  pub targets : after.targets.now ≡ stored 2 array place value before.targets.now
  pub edges : after.edges.now ≡ stored 3 array place value before.edges.now
  pub vectors : after.vectors.now ≡ stored 4 array place value before.vectors.now
  pub numbers : after.numbers.now ≡ stored 5 array place value before.numbers.now
  pub summary : after.summary.now ≡ stored 6 array place value before.summary.now
  pub weights : after.weights.now ≡ stored 7 array place value before.weights.now

-- the number of an array, a place and a value were read next of a line, which ends behind them, and the value is stored there
pub record Stores (old new : Option (Bor (List ℕ))) (before after : Arrays) : Type 0 where
  pub array : ℕ
  pub place : ℕ
  pub value : ℕ
  pub reads : ReadsAll old new (array ∷ place ∷ value ∷ [])
  pub ended : Ended new
  pub stores : Stored array place value before after

-- n was read next of a line, which ends behind n more numbers; each of these was `more` than a word at the start of an array
abbrev pub Gives : ℕ → Option (Bor (List ℕ)) → Option (Bor (List ℕ)) → ℕ → List ℕ → List ℕ → Type 0
Gives more old new n before after = (left : Option (Bor (List ℕ))) × Reads old left n × Given (λ number word. word ≡ (number + 4294967296 - more) % 4294967296) left new n before after × Ended new

-- what a line leaves of the index, what is lent and the arrays
abbrev pub Prepared : Preparing → Option (Bor (List ℕ)) → Option (Bor (List ℕ)) → State → State → Arrays → Arrays → Type 0
Prepared Preparing.Lend old new s s′ a a′ = Lends old new s.lent s′.lent × (s′.index ≡ s.index)
Prepared Preparing.Give old new s s′ a a′ = Gives 0 old new s′.lent.given a.given.now a′.given.now × (s′.index ≡ s.index)
Prepared Preparing.Rows old new s s′ a a′ = Gives 1 old new s′.lent.rows a.rows.now a′.rows.now × (s′.index ≡ s.index)
Prepared Preparing.Numbers old new s s′ a a′ = Gives 0 old new s′.lent.figures a.figures.now a′.figures.now × (s′.index ≡ s.index)
Prepared Preparing.Weights old new s s′ a a′ = Gives 0 old new s′.lent.given_weights a.given_weights.now a′.given_weights.now × (s′.index ≡ s.index)
Prepared Preparing.Set old new s s′ a a′ = Sets old new s.index s′.index × (s′.lent ≡ s.lent)
Prepared Preparing.Store old new s s′ a a′ = Stores old new a a′ × (s′ ≡ s)
