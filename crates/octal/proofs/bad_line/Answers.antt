use Prim.Native.Nat.{◌+◌}
use lib.ListN.{get_or}
use mathlib.Core.Path.{sym, ◌∙◌}
use native.Mathlib.Nat.{add_assoc}
use native.Mathlib.Omega.{arith}
use lib.Dec.{lit<}
use Rattle.text.proofs.Reading.{digit-more, digits-most}
use Rattle.octal.proofs.Digit.{digit-is, digit-none, number-next, number-done, all-next, all-not, all_done}
use Rattle.octal.proofs.Line.{no-digits, no_end, too_short, too_large, right, line-none, line-bad, line-good}
use Rattle.octal.proofs.bad_line.Goals as goal

pub overflow_mul-p : goal.overflow_mul-p
overflow_mul-p c =
    omega (arith, digits-most 8 _ _ 6 (lit< tt) c.loop-d.invariant.1 c.loop-d.invariant.0)

pub overflow_add-p : goal.overflow_add-p
overflow_add-p c =
    let b = get_or c.args.text.now (c.lines.at + c.loop-d.d) 0 in
    let v = digit-is 8 b (omega arith) _ c.in-Some.ensures.value.0 c.in-Some.ensures.value.1 in
    let less = v.1 in
    omega (arith, less, digits-most 8 _ _ 6 (lit< tt) c.loop-d.invariant.1 c.loop-d.invariant.0)

pub loop-d-preserved : goal.loop-d-preserved
loop-d-preserved c =
    let b = get_or c.args.text.now (c.lines.at + c.loop-d.d) 0 in
    let v = digit-is 8 b (omega arith) _ c.in-Some.ensures.value.0 c.in-Some.ensures.value.1 in (
      omega arith,
      digit-more 8 _ _ _ c.loop-d.invariant.1 v.1,
      c.loop-d.invariant.2
          ∙ all-next 8 _ 6 _ _ c.loop-d-test.true _ v.0 _ (add_assoc _ _ _) v.1,
      c.loop-d.invariant.3
          ∙ number-next 8 _ 6 _ _ c.loop-d-test.true _ v.0 _ (add_assoc _ _ _) _,
    )

pub lines-preserved : goal.lines-preserved
lines-preserved c = (
  omega arith,
  c.lines.invariant.1
      ∙ line-good _ _ _ _ c.if-text-at.false (omega arith) (right _ _
      (c.loop-d.invariant.2 ∙ all_done 8 _ 6 _ _ c.loop-d-test.false) c.if-text-at-ne10.false _
      (c.loop-d.invariant.3 ∙ number-done 8 _ 6 _ _ c.loop-d-test.false _) c.if-p-gt-LARGEST.false),
)

pub returns-then-text-at : goal.returns-then-text-at
returns-then-text-at c = sym (c.lines.invariant.1 ∙ line-none _ _ _ _ c.if-text-at.true)

pub returns-then-text-at-lt7 : goal.returns-then-text-at-lt7
returns-then-text-at-lt7 c = sym (c.lines.invariant.1 ∙ line-bad _ _ _ _ c.if-text-at.false (too_short _ _ (omega arith)))

pub returns-in_default : goal.returns-in_default
returns-in_default c =
    let b = get_or c.args.text.now (c.lines.at + c.loop-d.d) 0 in
    let none = digit-none 8 b (omega arith) c.in_default.ensures.value in
    sym (c.lines.invariant.1 ∙ line-bad _ _ _ _
    c.if-text-at.false (no-digits _ _ (c.loop-d.invariant.2
    ∙ all-not 8 _ 6 _ _ c.loop-d-test.true none)))

pub returns-then-text-at-ne10 : goal.returns-then-text-at-ne10
returns-then-text-at-ne10 c =
    sym (c.lines.invariant.1
    ∙ line-bad _ _ _ _ c.if-text-at.false (no_end _ _ c.if-text-at-ne10.true))

pub returns-then-p-gt-LARGEST : goal.returns-then-p-gt-LARGEST
returns-then-p-gt-LARGEST c =
    sym (c.lines.invariant.1 ∙ line-bad _ _ _ _
    c.if-text-at.false (too_large _ _ (c.loop-d.invariant.2
    ∙ all_done 8 _ 6 _ _ c.loop-d-test.false) c.if-text-at-ne10.false _ (c.loop-d.invariant.3
    ∙ number-done 8 _ 6 _ _ c.loop-d-test.false _) c.if-p-gt-LARGEST.true))
