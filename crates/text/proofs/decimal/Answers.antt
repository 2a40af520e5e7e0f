use Rattle.std.proofs.Common.{◌≤◌, sym, ◌∙◌, arith, lit<}
use Rattle.text.proofs.Reading.{decimal-yes, decimal-no, decimal-next, decimal-stop, decimal-done, digit-more, digits-most, fits_more}
use Rattle.text.proofs.decimal.Goals as goal

pub returns-then-not-is_ascii_digit : goal.returns-then-not-is_ascii_digit
returns-then-not-is_ascii_digit c =
    let small : c.loop-d.v ≤ 10000000 = omega (arith, digits-most 10 _ _ 7 (lit< tt) c.loop-d.invariant.0 (omega arith)) in
    record {
      value = c.ends.ensures.value ∙ sym (c.loop-d.invariant.1 ∙ decimal-stop _ _ 7 _ c.loop-d-test.true _ c.byte_at-b.ensures _
          (decimal-no _ c.if-not-is_ascii_digit.ensures.cases));
      head_fits = fits_more _ _ _ _ c.ends.result c.ends.ensures.head_fits small (omega arith);
    }

pub loop-d-preserved : goal.loop-d-preserved
loop-d-preserved c =
    let digit = c.if-not-is_ascii_digit.ensures.cases in (
      digit-more 10 _ _ _ c.loop-d.invariant.0 (omega (arith, digit)),
      c.loop-d.invariant.1 ∙ decimal-next _ _ 7 _ c.loop-d-test.true _ c.byte_at-b.ensures _ _ (decimal-yes _ digit.0 digit.1) c.from.ensures,
    )

pub returns : goal.returns
returns c =
    let small : c.loop-d.v ≤ 10000000 = omega (arith, digits-most 10 _ _ 7 (lit< tt) c.loop-d.invariant.0 (omega arith)) in
    record {
      value = c.ends-2.ensures.value ∙ sym (c.loop-d.invariant.1 ∙ decimal-done _ _ 7 _ c.loop-d-test.false (omega arith) _);
      head_fits = fits_more _ _ _ _ c.ends-2.result c.ends-2.ensures.head_fits small (omega arith);
    }
