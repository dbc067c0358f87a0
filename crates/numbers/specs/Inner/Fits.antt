-- Numbers beside marks. Assumes nothing.
use Rattle.std.specs.Prelude.{ℕ, Bool, true, not, ◌&&◌, cond, List, [], ◌∷◌, eqb}

-- a number is 0 exactly where the mark is
abbrev pub fits : ℕ → ℕ → Bool
fits mark number = cond (not (eqb mark 0)) (not (eqb number 0)) (eqb number 0)

-- each number fits the mark beside it
abbrev pub all_fit : List ℕ → List ℕ → Bool
all_fit [] ns = true
all_fit (m ∷ ms) [] = true
all_fit (m ∷ ms) (n ∷ ns) = fits m n && all_fit ms ns
