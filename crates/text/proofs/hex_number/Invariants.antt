use Rattle.std.proofs.Common.{◌≡◌, ◌+◌, ◌-◌, ◌^◌, ◌<◌}
use Rattle.text.specs.Digits.{hex_from}
use Rattle.text.proofs.hex_number.Given as goal

abbrev pub invariant-loop-d : goal.invariant-loop-d
invariant-loop-d l = (l.v < 16 ^ l.d) × (hex_from l.n l.text l.at 0 ≡ hex_from (l.n - l.d) l.text (l.at + l.d) l.v)
