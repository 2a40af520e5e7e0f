use Rattle.std.specs.Prelude.{ℕ, Bool, ◌≡◌}
use Rattle.machine.specs.Act.{marks_of}
use Rattle.vector.specs.Element.{Tells}
use Rattle.vector.proofs.Loops.{vj}
use Rattle.vector.proofs.mark_where.Given as goal

abbrev pub invariant-loop-e : goal.invariant-loop-e
invariant-loop-e g l = (test : ℕ → Bool) → Tells (goal.F-post g l.meets) test → l.vm ≡ marks_of (λ q. test (vj l.r l.x q)) l.e
