use mathlib.Core.Path.{◌≡◌}
use Prim.Native.Nat.{◌-◌, ◌^◌, ◌<◌}
use lib.ListN.{length}
use Rattle.octal.specs.Numbers.{all_digits, number_from}
use Rattle.octal.proofs.number.Given as goal

abbrev pub invariant-loop-b : goal.invariant-loop-b
invariant-loop-b l =
    (l.n < 17 ^ l.b-index)
    × (all_digits l.base (length l.digits) l.digits 0 ≡ all_digits l.base (length l.digits - l.b-index) l.digits l.b-index)
    × (number_from l.base (length l.digits) l.digits 0 0 ≡ number_from l.base (length l.digits - l.b-index) l.digits l.b-index l.n)
