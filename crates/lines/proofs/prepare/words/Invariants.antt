-- The numbers so far are read into the array.
use Rattle.std.proofs.Common.{◌+◌, ◌-◌, ◌%◌, Ok}
use Rattle.lines.specs.Inner.Given.{Given}
use Rattle.lines.proofs.prepare.words.Given as goal

abbrev pub invariant-loop-i : goal.invariant-loop-i
invariant-loop-i g l = Given (λ number word. g.T.TryFrom.try_from_gives ((number + 4294967296 - l.more) % 4294967296) (Ok word)) l.fn.line.rest l.line.rest l.i l.fn.to l.to
