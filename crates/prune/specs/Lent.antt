-- What the passes of a selection leave of what they go over. Assumes nothing.
use Rattle.std.specs.Prelude.{ℕ, ◌≡◌, length}
use Rattle.prune.specs.declared.Selector.{Selector}

-- the slices stay where they are, and the vectors and numbers as they were
pub record SameSelector {n : ℕ} (p p' : Selector n) : Type 0 where
  pub alpha : p'.alpha ≡ p.alpha
  pub kept : p'.kept.ghost_name ≡ p.kept.ghost_name
  pub space : p'.kept.now.space ≡ p.kept.now.space
  pub factors : p'.factors.ghost_name ≡ p.factors.ghost_name
  pub count : length p'.factors.now ≡ length p.factors.now
  pub list : p'.list ≡ p.list
  pub out : p'.out.ghost_name ≡ p.out.ghost_name
  pub room : length p'.out.now ≡ length p.out.now
