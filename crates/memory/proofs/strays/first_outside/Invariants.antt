use Rattle.std.proofs.Common.{◌≡◌, ◌+◌, ◌-◌, ◌*◌, ◌%◌, ◌^◌, ◌≤◌}
use Rattle.machine.specs.Memory.{data_field, first_outside}
use Rattle.machine.specs.Layout.{frame_of}
use Rattle.memory.proofs.strays.first_outside.Given as goal

abbrev pub invariant-loop-element : goal.invariant-loop-element
invariant-loop-element l =
    (l.element ≤ l.n) × (l.at % 2 ^ 22 ≡ (l.from + l.element * l.by) % 2 ^ 22)
    × (l.stray ≡ first_outside (data_field (frame_of l.r)) (λ e. l.from + e * l.by) l.words l.element)

abbrev pub decreases-loop-element : goal.decreases-loop-element
decreases-loop-element l = l.n - l.element
