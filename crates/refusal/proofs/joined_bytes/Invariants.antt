use Rattle.std.proofs.Common.{◌≡◌, drop}
use Rattle.refusal.specs.Joined.{joined}
use Rattle.refusal.proofs.joined_bytes.Given as goal

abbrev pub invariant-loop-b : goal.invariant-loop-b
invariant-loop-b l = joined l.all (drop l.b-index l.bytes) ≡ joined 0 l.bytes
