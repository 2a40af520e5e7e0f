use mathlib.Core.Path.{◌≡◌}
use Prim.Native.Nat.{◌+◌, ◌*◌, ◌-◌, ◌^◌, ◌≤◌, ◌<◌}
use lib.ListN.{length}
use Rattle.octal.specs.Numbers.{all_digits, number_from}
use Rattle.octal.specs.Lines.{bad_line}
use Rattle.octal.proofs.bad_line.Given as goal

abbrev pub invariant-loop-d : goal.invariant-loop-d
invariant-loop-d l =
    (l.d ≤ 6) × (l.p < 8 ^ l.d) × (all_digits 8 6 l.text l.at ≡ all_digits 8 (6 - l.d) l.text (l.at + l.d)) ×
    (number_from 8 6 l.text l.at 0 ≡ number_from 8 (6 - l.d) l.text (l.at + l.d) l.p)

abbrev pub invariant-lines : goal.invariant-lines
invariant-lines l = (l.at + 7 ≡ 7 * l.line) × (bad_line (length l.text) l.text 0 1 ≡ bad_line (length l.text + 1 - l.line) l.text l.at l.line)

abbrev pub decreases-lines : goal.decreases-lines
decreases-lines l = length l.text - l.at
