use mathlib.Core.Path.{refl, sym, ◌∙◌}
use native.Mathlib.Omega.{arith}
use lib.ListN.{get_or}
use lib.Dec.{lit<}
use Rattle.text.proofs.Reading.{digits-most}
use Rattle.octal.proofs.Digit.{digit-is, digit-none, all-next, all-not, all_done, number-next, number-done, times-base, digit-wide}
use Rattle.octal.proofs.number.Goals as goal

pub returns-in_err-d : goal.returns-in_err-d
returns-in_err-d c =
    let b = get_or c.args.digits.now c.loop-b.b-index 0 in
    let none = digit-none c.args.base b c.requires.1 c.in_err-d.ensures.value in
    let e = c.loop-b.invariant.1 ∙ all-not _ _ _ _ _ (omega arith) none in
    c.from_residual.ensures ∙ sym (rw e refl)

pub overflow_mul-n : goal.overflow_mul-n
overflow_mul-n c =
    omega (arith, times-base c.loop-b.n _ c.requires.1, digits-most 17 _ _ 8 (lit< tt) c.loop-b.invariant.0 (omega arith))

pub overflow_add-n : goal.overflow_add-n
overflow_add-n c =
    let b = get_or c.args.digits.now c.loop-b.b-index 0 in
    let v = digit-is c.args.base b c.requires.1 _ c.in_ok-d.ensures.value.0 c.in_ok-d.ensures.value.1 in
    let less = v.1 in
    omega (arith, less, times-base c.loop-b.n _ c.requires.1, digits-most 17 _ _ 8 (lit< tt) c.loop-b.invariant.0 (omega arith))

pub loop-b-preserved : goal.loop-b-preserved
loop-b-preserved c =
    let b = get_or c.args.digits.now c.loop-b.b-index 0 in
    let v = digit-is c.args.base b c.requires.1 _ c.in_ok-d.ensures.value.0 c.in_ok-d.ensures.value.1 in
    let less = v.1 in (
      digit-wide _ _ _ _ c.requires.1 (omega (arith, less)) c.loop-b.invariant.0,
      c.loop-b.invariant.1 ∙ all-next _ _ _ _ _ (omega arith) _ v.0 _ refl less,
      c.loop-b.invariant.2 ∙ number-next _ _ _ _ _ (omega arith) _ v.0 _ refl _,
    )

pub returns : goal.returns
returns c =
    let all = c.loop-b.invariant.1 ∙ all_done _ _ _ _ _ (omega arith) in
    let is = c.loop-b.invariant.2 ∙ number-done _ _ _ _ _ (omega arith) _ in
    rw (all, is) refl
