use mathlib.Core.Path.{◌≡◌}
use Prim.Native.Nat.{◌-◌, ◌^◌, ◌<◌}
use Rattle.spelling.specs.Candidate.{bytes_of, number_from, number_at}
use Rattle.guess.proofs.number.Given as goal

abbrev pub invariant-loop-p : goal.invariant-loop-p
invariant-loop-p l = record {
  small : l.value < 2 ^ 32;
  same : number_at (bytes_of l.line) l.start ≡ number_from (16 - l.p) (bytes_of l.line) l.p l.value;
}
