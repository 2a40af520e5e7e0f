use mathlib.Core.Path.{◌≡◌}
use mathlib.Core.List.{List}
use Prim.Native.Nat.{ℕ, ◌+◌, ◌≤◌}
use lib.ListN.{length}
use Rattle.text.specs.Report.{Wrote}
use Rattle.spelling.specs.Listing.{list_of}
use Rattle.assembly.proofs.write.Given as goal

abbrev pub invariant-loop-rest : goal.invariant-loop-rest
invariant-loop-rest l =
    (length l.out ≡ length l.initial.out)
    × (l.to + length (list_of l.rest) ≤ length l.initial.out)
    × ((k : List ℕ) (q : ℕ) → Wrote l.out l.to (list_of l.rest) k q → Wrote l.initial.out 0 (list_of l.fn.parcels) k q)

abbrev pub decreases-loop-rest : goal.decreases-loop-rest
decreases-loop-rest l = length l.rest
