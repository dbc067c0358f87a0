-- An index in twelve words of 32 bits. Assumes nothing.
use Rattle.std.specs.Prelude.{ℕ, cond, List, [], ◌∷◌, eqb, get_or, Float, Option, Some, None}
use Rattle.std.specs.Float.{binary32}
use Rattle.std.specs.Float.Ieee.{of_bits, to_bits, nan_bits}
use Rattle.guard.specs.Guard.{off, on}
use Rattle.guard.specs.Guard as Guards
use Rattle.calls.specs.State.{Value}
use Rattle.index.specs.declared.Index.{Index}
use Rattle.index.specs.declared.Guard.{Guard}
use Rattle.index.specs.Index.{index_value}

-- word 3 is alpha's bits; a NaN's bits are read as 0.0, which row 2 turns back (`nan_bad`)
unfoldable pub alpha_of : ℕ → Float
alpha_of n = cond (nan_bits binary32 n) (of_bits binary32 0) (of_bits binary32 n)

-- words 6 to 11: whether the guard is on, its settings, and the length of its pool
unfoldable pub guard_of : List ℕ → Option Guard
guard_of w =
    cond (eqb (get_or w 6 0) 0) None (Some (record { config = record { count = get_or w 7 0; multiplier = get_or w 8 0; sample = get_or w 9 0; beam = get_or w 10 0 }; pool = get_or w 11 0 }))

-- the index that words hold
unfoldable pub index_of : List ℕ → Index
index_of w =
    record {
      dim = get_or w 0 0;
      capacity = get_or w 1 0;
      degree = get_or w 2 0;
      alpha = alpha_of (get_or w 3 0);
      entry = get_or w 4 0;
      live = get_or w 5 0;
      guard = guard_of w;
    }

-- the words that a guard is written as
unfoldable pub guard_words : Guards.Guard → List ℕ
guard_words off = 0 ∷ 0 ∷ 0 ∷ 0 ∷ 0 ∷ 0 ∷ []
guard_words (on c n) = 1 ∷ c.landmark_count ∷ c.multiplier ∷ c.sample_size ∷ c.beam ∷ n ∷ []

-- the words that an index is written as, in the order of include/finder.h (`words_hold`)
unfoldable pub value_words : Value → List ℕ
value_words v =
    let z = v.sizes in
    z.dim ∷ z.capacity ∷ z.degree ∷ to_bits binary32 z.alpha ∷ v.entry ∷ v.live ∷ guard_words v.guard

abbrev pub words_of : Index → List ℕ
words_of i = value_words (index_value i)
