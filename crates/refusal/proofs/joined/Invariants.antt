use Rattle.std.proofs.Common.{◌≡◌, drop}
use Rattle.refusal.specs.Joined.{joined}
use Rattle.refusal.proofs.joined.Given as goal

abbrev pub invariant-loop-n : goal.invariant-loop-n
invariant-loop-n l = joined l.all (drop l.n-index l.numbers) ≡ joined 0 l.numbers
