use Rattle.std.proofs.Common.{◌≡◌, ◌+◌, ◌*◌, ◌≤◌, length, get_or}
use Rattle.machine.specs.State.{fill}
use Rattle.access.specs.Executed.{cut_to}
use Rattle.memory.proofs.operands.copy.Given as goal

abbrev pub invariant-loop-q : goal.invariant-loop-q
invariant-loop-q l =
    (l.q * 16 ≤ l.n) × (length l.to ≡ length l.initial.to)
    × (l.to ≡ fill l.first (λ i. cut_to l.narrow (get_or l.from (l.at + i) 0)) (l.q * 16) l.initial.to)
