use Rattle.std.proofs.Common.{ℕ, Bool, ◌≡◌, ◌<◌, ◌≤◌, ◌&&◌, length}
use Rattle.landmarks.specs.Inner.Samples.{free_of}
use Rattle.landmarks.proofs.Sampling.{Sampling}
use Rattle.landmarks.proofs.sample.sample_slots.Given as goal

abbrev pub invariant-loop-s : goal.invariant-loop-s
invariant-loop-s g l =
    (l.m ≤ l.s) × (length l.words ≡ length l.initial.words)
    × ((p : ℕ → Bool) → ((s : ℕ) (r : Bool) → s < 65536 → goal.F-post g l.takes s r → r ≡ p s)
    → Sampling (λ s. p s && free_of l.free s) (length l.free.marks.now) l.initial.words l.words l.m l.s)
