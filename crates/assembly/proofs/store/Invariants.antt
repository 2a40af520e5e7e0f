use mathlib.Core.Path.{◌≡◌}
use mathlib.Core.List.{List}
use Prim.Native.Nat.{ℕ}
use lib.ListN.{length}
use lib.Seq.{sets}
use Rattle.assembly.proofs.Laws.{Passed}
use Rattle.assembly.proofs.store.Given as goal

abbrev pub invariant-loop-rest : goal.invariant-loop-rest
invariant-loop-rest l =
    (k : ℕ) × (done : List ℕ) × Passed l.fn.text l.rest k done × (length done ≡ l.n) × (l.room ≡ sets l.initial.room 0 done)
    × (length l.room ≡ length l.initial.room)

abbrev pub decreases-loop-rest : goal.decreases-loop-rest
decreases-loop-rest l = length l.rest
