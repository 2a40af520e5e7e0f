use Rattle.std.proofs.Common.{◌≡◌, ◌+◌, ◌-◌, ◌%◌, arith}
use Rattle.machine.specs.Word.{ones_right}
use Rattle.word.proofs.Laws.{ones_shr}
use Rattle.word.proofs.ones_right.Goals as goal

pub returns : goal.returns
unfolding ones_right
returns c =
    let e : 64 - c.args.n % 64 + c.args.n % 64 ≡ 64 = omega arith in
    ones_shr _ _ e
