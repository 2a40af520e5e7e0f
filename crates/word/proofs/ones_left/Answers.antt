use Rattle.std.proofs.Common.{◌-◌, ◌%◌, arith, pow_pos}
use Rattle.machine.specs.Word.{ones_left, ones_right}
use Rattle.word.proofs.ones_left.Goals as goal

pub returns : goal.returns
unfolding ones_left ones_right
returns c = rw c.ones_right.ensures (omega (arith, pow_pos (64 - c.args.n % 64)))
