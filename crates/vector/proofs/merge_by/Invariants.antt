use Prim.Native.Nat.{◌*◌, ◌%◌, ◌^◌}
use mathlib.Core.Path.{◌≡◌}
use Rattle.machine.specs.Layout.{registers_of}
use Rattle.vector.proofs.Loops.{Doing}
use Rattle.vector.proofs.Arms.{merged_of}
use Rattle.vector.proofs.merge_by.Given as goal

abbrev pub invariant-loop-q : goal.invariant-loop-q
invariant-loop-q l =
    Doing l.x l.n (merged_of l.scalar l.fn.r l.x) l.fn.r l.r (l.q * 4) × (l.bits ≡ (registers_of l.fn.r).vm * 2 ^ (l.q * 4) % 2 ^ 64)

abbrev pub invariant-loop-e : goal.invariant-loop-e
invariant-loop-e l = Doing l.x l.n (merged_of l.scalar l.fn.r l.x) l.fn.r l.r l.e
