use Rattle.std.proofs.Common.{◌≡◌, sym, ◌∙◌, arith, lit<}
use Rattle.text.specs.Digits.{hex_of}
use Rattle.text.proofs.Reading.{hex-below, hex-next, hex-done, digit-more, digits-most}
use Rattle.text.proofs.hex_number.Goals as goal

pub overflow_mul-v : goal.overflow_mul-v
overflow_mul-v c = omega (arith, digits-most 16 _ _ 15 (lit< tt) c.loop-d.invariant.0 (omega arith))

pub overflow_add-v : goal.overflow_add-v
overflow_add-v c =
    let x : c.unwrap_or.result ≡ hex_of c.byte_at.result = cc in
    omega (arith, x, hex-below c.byte_at.result, digits-most 16 _ _ 15 (lit< tt) c.loop-d.invariant.0 (omega arith))

pub loop-d-preserved : goal.loop-d-preserved
loop-d-preserved c =
    let x : c.unwrap_or.result ≡ hex_of c.byte_at.result = cc in (
      digit-more 16 _ _ _ c.loop-d.invariant.0 (omega (arith, x, hex-below c.byte_at.result)),
      c.loop-d.invariant.1 ∙ hex-next _ _ _ _ c.loop-d-test.true _ c.byte_at.ensures _ _ x,
    )

pub returns : goal.returns
returns c = sym (c.loop-d.invariant.1 ∙ hex-done _ _ _ _ c.loop-d-test.false _)
