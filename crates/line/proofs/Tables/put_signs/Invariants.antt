use Prim.Native.Nat.{◌-◌}
use Rattle.line.specs.Joined.{joined}
use Rattle.line.proofs.Written.{Going}
use Rattle.line.proofs.Tables.put_signs.Given as goal

abbrev pub invariant-loop-forms : goal.invariant-loop-forms
invariant-loop-forms l = Going l.initial.line l.at (joined l.self.forms) l.from l.line l.to l.p

abbrev pub decreases-loop-forms : goal.decreases-loop-forms
decreases-loop-forms l = 1284 - l.p
