use Rattle.std.specs.Prelude.{None}
use mathlib.Core.Path.{◌≡◌}
use Prim.Native.Nat.{◌+◌, ◌*◌, ◌-◌}
use lib.ListN.{length}
use lib.Seq.{sets}
use Rattle.octal.specs.Lines.{bad_line, parcels_from}
use Rattle.octal.proofs.store.Given as goal

abbrev pub invariant-loop-i : goal.invariant-loop-i
invariant-loop-i l =
    (length l.room ≡ length l.initial.room)
    × (bad_line (length l.text + 1 - (l.i + 1)) l.text (7 * l.i) (l.i + 1) ≡ None)
    × (sets l.initial.room 0 (parcels_from l.n l.text 0) ≡ sets l.room l.i (parcels_from (l.n - l.i) l.text (7 * l.i)))
