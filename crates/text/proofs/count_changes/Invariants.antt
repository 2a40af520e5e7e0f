use Rattle.std.proofs.Common.{◌≡◌, ◌+◌, ◌-◌, ◌≤◌}
use Rattle.text.specs.Report.{changes}
use Rattle.text.proofs.count_changes.Given as goal

abbrev pub invariant-loop-a : goal.invariant-loop-a
invariant-loop-a l = (l.count ≤ l.a) × (changes l.n 0 l.before l.after ≡ l.count + changes (l.n - l.a) l.a l.before l.after)
