use Rattle.std.proofs.Common.{◌≡◌, ◌+◌, ◌-◌, ◌∙◌, arith}
use Rattle.machine.specs.Word.{shift_left, shift_right, shift_left_pair}
use Rattle.word.proofs.Laws.{pair_lt, pair_left, pair-left-far}
use Rattle.word.proofs.left_pair.Goals as goal

pub overflow_add-result : goal.overflow_add-result
unfolding shift_right
overflow_add-result c =
    let e : 64 - c.args.n + c.args.n ≡ 64 = omega arith in
    record { fits = rw c.shifted_right.ensures (pair_lt _ _ _ e c.ranges.low.fits) }

pub returns-then-n-lt64 : goal.returns-then-n-lt64
unfolding shift_right shift_left_pair
returns-then-n-lt64 c =
    let e : 64 - c.args.n + c.args.n ≡ 64 = omega arith in
    rw c.shifted_right.ensures (pair_left _ _ _ e c.ranges.low.fits)

pub returns-else-n-lt64 : goal.returns-else-n-lt64
unfolding shift_left shift_left_pair
returns-else-n-lt64 c = c.shifted_left.ensures ∙ pair-left-far _ _ c.ranges.low.fits c.if-n-lt64.false
