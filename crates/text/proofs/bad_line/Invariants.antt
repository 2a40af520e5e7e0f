use Rattle.std.proofs.Common.{◌≡◌, ◌+◌, ◌*◌, ◌-◌, ◌^◌, ◌≤◌, ◌<◌}
use Rattle.text.specs.Digits.{all_hex, hex_from}
use Rattle.text.specs.Sheet.{bad_line}
use Rattle.text.proofs.bad_line.Given as goal

abbrev pub invariant-loop-d : goal.invariant-loop-d
invariant-loop-d l =
    (l.address < 16 ^ l.d) × (all_hex 4 l.text l.at ≡ all_hex (4 - l.d) l.text (l.at + l.d))
    × (hex_from 4 l.text l.at 0 ≡ hex_from (4 - l.d) l.text (l.at + l.d) l.address)

abbrev pub invariant-loop-d-2 : goal.invariant-loop-d-2
invariant-loop-d-2 l = all_hex 16 l.text (l.at + 5) ≡ all_hex (21 - l.d) l.text (l.at + l.d)

abbrev pub invariant-lines : goal.invariant-lines
invariant-lines l =
    (l.left ≤ l.count) × (l.at + 22 * l.left ≡ l.start + 22 * l.count) × (l.line + l.left ≡ l.count + 3) ×
    (bad_line l.count l.text l.start 0 3 ≡ bad_line l.left l.text l.at l.low l.line)

abbrev pub decreases-lines : goal.decreases-lines
decreases-lines l = l.left
