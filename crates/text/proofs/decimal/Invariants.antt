use Rattle.std.proofs.Common.{◌≡◌, ◌+◌, ◌-◌, ◌^◌, ◌<◌}
use Rattle.text.specs.Sheet.{decimal_from}
use Rattle.text.proofs.decimal.Given as goal

abbrev pub invariant-loop-d : goal.invariant-loop-d
invariant-loop-d l = (l.v < 10 ^ l.d) × (decimal_from 7 l.text l.at 0 ≡ decimal_from (7 - l.d) l.text (l.at + l.d) l.v)
