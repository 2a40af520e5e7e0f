use Rattle.std.proofs.Common.{◌≡◌, ◌+◌, ◌-◌, ◌≤◌, get_or}
use Rattle.machine.specs.State.{fill}
use Rattle.access.specs.Executed.{cut_to}
use Rattle.access.proofs.words.sixteen.Given as goal

abbrev pub invariant-loop-n : goal.invariant-loop-n
invariant-loop-n l = (l.n ≤ 16) × (l.w ≡ fill 0 (λ i. cut_to l.narrow (get_or l.from (l.at + i) 0)) l.n l.initial.w)

abbrev pub decreases-loop-n : goal.decreases-loop-n
decreases-loop-n l = 16 - l.n
