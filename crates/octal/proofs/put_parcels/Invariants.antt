use mathlib.Core.Path.{◌≡◌}
use mathlib.Core.List.{List}
use Prim.Native.Nat.{ℕ, ◌*◌}
use lib.ListN.{length, drop}
use Rattle.text.specs.Report.{Wrote}
use Rattle.octal.specs.Lines.{parcels_text}
use Rattle.octal.proofs.put_parcels.Given as goal

abbrev pub invariant-loop-p : goal.invariant-loop-p
invariant-loop-p l =
    (length l.out ≡ length l.initial.out)
    × (l.at ≡ 7 * l.p-index)
    × ((m : List ℕ) (q : ℕ) → Wrote l.out l.at (parcels_text (drop l.p-index l.parcels)) m q → Wrote l.initial.out 0 (parcels_text l.parcels) m q)
