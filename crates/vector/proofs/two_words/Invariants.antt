use Rattle.std.specs.Prelude.{ℕ}
use Rattle.vector.specs.Element.{Gives}
use Rattle.vector.proofs.Loops.{left, vk, Doing}
use Rattle.vector.proofs.two_words.Given as goal

abbrev pub invariant-loop-e : goal.invariant-loop-e
invariant-loop-e g l =
    (word : ℕ → ℕ → ℕ) → Gives (goal.F-post g l.make) word
    → Doing l.x l.n (λ q. word (left l.scalar l.fn.r l.x q) (vk l.fn.r l.x q)) l.fn.r l.r l.e
