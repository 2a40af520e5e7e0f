use Rattle.std.proofs.Common.{◌≡◌, ◌+◌, ◌-◌, ◌∙◌, add_comm, arith}
use Rattle.machine.specs.Word.{shift_left, shift_right, shift_right_pair}
use Rattle.word.proofs.Laws.{pair_lt, pair-right, pair-right-far}
use Rattle.word.proofs.right_pair.Goals as goal

-- the laws put the part of the high word first
pub overflow_add-result : goal.overflow_add-result
unfolding shift_left
overflow_add-result c =
    let e : c.args.n + (64 - c.args.n) ≡ 64 = omega arith in
    record { fits = rw (add_comm _ c.shifted_left.result, c.shifted_left.ensures) (pair_lt _ _ _ e c.ranges.low.fits) }

pub returns-then-n-lt64 : goal.returns-then-n-lt64
unfolding shift_left shift_right_pair
returns-then-n-lt64 c =
    let e : c.args.n + (64 - c.args.n) ≡ 64 = omega arith in
    add_comm _ _ ∙ rw c.shifted_left.ensures (pair-right _ _ _ e c.ranges.low.fits)

pub returns-else-n-lt64 : goal.returns-else-n-lt64
unfolding shift_right shift_right_pair
returns-else-n-lt64 c = c.shifted_right.ensures ∙ pair-right-far _ c.ranges.high.fits c.ranges.low.fits c.if-n-lt64.false
