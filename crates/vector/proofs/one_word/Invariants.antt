use Rattle.std.specs.Prelude.{ℕ}
use Rattle.machine.specs.Parcel.{k_of}
use Rattle.machine.specs.State.{ak}
use Rattle.machine.specs.Layout.{registers_of}
use Rattle.vector.specs.Element.{Gives}
use Rattle.vector.proofs.Loops.{vj, Doing}
use Rattle.vector.proofs.one_word.Given as goal

abbrev pub invariant-loop-e : goal.invariant-loop-e
invariant-loop-e g l =
    (word : ℕ → ℕ → ℕ) → Gives (goal.F-post g l.make) word
    → Doing l.x l.n (λ q. word (vj l.fn.r l.x q) (ak (registers_of l.fn.r) (k_of l.x))) l.fn.r l.r l.e
