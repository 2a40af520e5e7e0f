use Rattle.std.proofs.Common.{◌≡◌, not, is_some, unwrap_or, Some, None, true, false, sym, ap, ◌∙◌, arith, lit<}
use borrow.Author.Tests.{eq-eqb, ne_eqb}
use Rattle.text.specs.Digits.{hex_digit, is_hex}
use Rattle.text.specs.Sheet.{bad_line}
use Rattle.text.proofs.Reading.{hex-next, hex-done, all-next, all-not, all_done, digit-more}
use Rattle.text.proofs.Reading.{digits-most, no_address, no_value, all_digits, line-bad, line-good}
use Rattle.text.proofs.bad_line.Goals as goal

pub overflow_mul-address : goal.overflow_mul-address
overflow_mul-address c = omega (arith, digits-most 16 _ _ 4 (lit< tt) c.loop-d.invariant.0 (omega arith))

pub overflow_add-address : goal.overflow_add-address
overflow_add-address c = omega (arith, digits-most 16 _ _ 4 (lit< tt) c.loop-d.invariant.0 (omega arith), c.in-Some.ensures.upper_bound)

pub loop-d-preserved : goal.loop-d-preserved
loop-d-preserved c =
    let e : hex_digit c.byte_at.result ≡ Some c.in-Some.digit = sym c.hex_digit.ensures.value ∙ c.in-Some.is in (
      digit-more 16 _ _ _ c.loop-d.invariant.0 c.in-Some.ensures.upper_bound,
      c.loop-d.invariant.1 ∙ all-next _ _ 4 _ c.loop-d-test.true _ c.byte_at.ensures (ap is_some e),
      c.loop-d.invariant.2 ∙ hex-next _ _ 4 _ c.loop-d-test.true _ c.byte_at.ensures _ _ (sym (ap (λ o. unwrap_or o 0) e)),
    )

pub loop-d-2-preserved : goal.loop-d-2-preserved
loop-d-2-preserved c =
    let good : is_hex c.byte_at-in-loop-d-2.result ≡ true = ap is_some (sym c.hex_digit-in-loop-d-2.ensures.value) ∙ c.is_none.ensures ∙ ap not c.if-is_none.false in
    c.loop-d-2.invariant ∙ all-next _ _ 21 _ c.loop-d-2-test.true _ c.byte_at-in-loop-d-2.ensures good

pub lines-preserved : goal.lines-preserved
lines-preserved c =
    let spelled = c.loop-d.invariant.2 ∙ hex-done _ _ 4 _ c.loop-d-test.false _ in (
      omega arith,
      omega arith,
      omega arith,
      c.lines.invariant.3
          ∙ line-good _ _ _ _ _ _ (omega arith) spelled (all_digits _ _ _ (c.loop-d.invariant.1 ∙ all_done _ _ 4 _ c.loop-d-test.false) _
          spelled (c.loop-d-2.invariant ∙ all_done _ _ 21 _ c.loop-d-2-test.false)
          ∙ sym c.is_framed.ensures ∙ c.if-not-is_framed.false),
    )

pub returns-then-at-text : goal.returns-then-at-text
unfolding bad_line
returns-then-at-text c = sym (c.lines.invariant.3 ∙ simp (c.if-left-eq0.true, eq-eqb _ _ c.if-at-text.true))

pub returns-else-at-text : goal.returns-else-at-text
unfolding bad_line
returns-else-at-text c = sym (c.lines.invariant.3 ∙ simp (c.if-left-eq0.true, ne_eqb _ _ c.if-at-text.false))

pub returns-in_default : goal.returns-in_default
returns-in_default c =
    let e : hex_digit c.byte_at.result ≡ None = sym c.hex_digit.ensures.value ∙ c.in_default.is in
    sym (c.lines.invariant.3 ∙ line-bad _ _ _ _ _ (omega arith) (no_address _ _ _
    (c.loop-d.invariant.1 ∙ all-not _ _ 4 _ c.loop-d-test.true _ c.byte_at.ensures (ap is_some e))))

pub returns-then-is_none : goal.returns-then-is_none
returns-then-is_none c =
    let bad : is_hex c.byte_at-in-loop-d-2.result ≡ false = ap is_some (sym c.hex_digit-in-loop-d-2.ensures.value) ∙ c.is_none.ensures ∙ ap not c.if-is_none.true in
    sym (c.lines.invariant.3
    ∙ line-bad _ _ _ _ _ (omega arith) (no_value _ _ _ (c.loop-d.invariant.1 ∙ all_done _ _ 4 _ c.loop-d-test.false)
    (c.loop-d-2.invariant ∙ all-not _ _ 21 _ c.loop-d-2-test.true _ c.byte_at-in-loop-d-2.ensures bad)))

pub returns-then-not-is_framed : goal.returns-then-not-is_framed
returns-then-not-is_framed c =
    sym (c.lines.invariant.3
    ∙ line-bad _ _ _ _ _ (omega arith) (all_digits _ _ _ (c.loop-d.invariant.1 ∙ all_done _ _ 4 _ c.loop-d-test.false) _
    (c.loop-d.invariant.2 ∙ hex-done _ _ 4 _ c.loop-d-test.false _) (c.loop-d-2.invariant ∙ all_done _ _ 21 _ c.loop-d-2-test.false)
    ∙ sym c.is_framed.ensures ∙ c.if-not-is_framed.true))
