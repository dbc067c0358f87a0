-- The bytes before `byte-index` are digits, and `value` is what they write.
use Rattle.std.proofs.Common.{◌≡◌}
use Rattle.text.proofs.Digits.{Leads}
use Rattle.text.proofs.leading.Given as goal

abbrev pub invariant-loop-byte : goal.invariant-loop-byte
invariant-loop-byte l = (l.end ≡ l.byte-index) × Leads l.text l.byte-index l.value
