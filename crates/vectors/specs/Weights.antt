-- Weights as the code has them. Assumes nothing.
use Rattle.std.specs.Prelude.{ℕ, ◌<◌, ◌≤◌, List, ◌≡◌, length, get_or}
use Rattle.lists.specs.Lists.{sum}

-- within their limits (row 16), so that a distance of bytes is one that an f32 holds exactly
pub record Weighing (weights : List ℕ) : Type 0 where
  pub each : (i : ℕ) → i < length weights → get_or weights i 0 ≤ 4
  pub few : sum weights ≤ 256

abbrev pub Ones : List ℕ → Type 0
Ones weights = (i : ℕ) → i < length weights → get_or weights i 0 ≡ 1
