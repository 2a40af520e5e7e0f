use mathlib.Core.Path.{sym, ◌∙◌}
use borrow.Author.Tests.{eqb-true, eqb-false}
use Rattle.octal.proofs.Digit.{no_digit, too_long, other_sign, too-high, spells}
use Rattle.octal.proofs.spelled.Goals as goal
use Rattle.octal.proofs.spelled.Goals.{then-is_empty-via-then-is_empty, then-is_empty-via-else-is_empty+then-most-s}

pub returns-then-is_empty : goal.returns-then-is_empty
returns-then-is_empty c =
    elim c.then-is_empty.branch [
      | then-is_empty-via-then-is_empty w ↦ sym (no_digit _ _ _ _ (eqb-true _ _ (sym c.is_empty.ensures ∙ w.if-is_empty.true)))
      | then-is_empty-via-else-is_empty+then-most-s w ↦ sym (too_long _ _ _ _ w.if-most-s.true)
    ]

pub returns-in_err-n : goal.returns-in_err-n
returns-in_err-n c =
    let some = eqb-false _ _ (sym c.is_empty.ensures ∙ c.if-is_empty.false) in
    c.from_residual.ensures ∙ sym (other_sign _ _ _ _ some c.if-most-s.false (sym c.number.ensures ∙ c.in_err-n.was))

pub returns-then-n-limit : goal.returns-then-n-limit
returns-then-n-limit c =
    let some = eqb-false _ _ (sym c.is_empty.ensures ∙ c.if-is_empty.false) in
    sym (spells _ _ _ _ some c.if-most-s.false _ (sym c.number.ensures ∙ c.in_ok-n.was) c.if-n-limit.true)

pub returns-else-n-limit : goal.returns-else-n-limit
returns-else-n-limit c =
    let some = eqb-false _ _ (sym c.is_empty.ensures ∙ c.if-is_empty.false) in
    sym (too-high _ _ _ _ some c.if-most-s.false _ (sym c.number.ensures ∙ c.in_ok-n.was) c.if-n-limit.false)
