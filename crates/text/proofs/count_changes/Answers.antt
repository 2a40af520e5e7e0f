use Rattle.std.proofs.Common.{get_or, arith}
use Rattle.text.proofs.Writing.{change-as, changes-next, changes-done}
use Rattle.text.proofs.count_changes.Goals as goal

pub loop-a-preserved : goal.loop-a-preserved
loop-a-preserved c =
    let next = changes-next c.args.before.now c.args.after.now c.args.n c.loop-a.a c.loop-a-test.true in
    let one = change-as (get_or c.args.before.now c.loop-a.a 0) (get_or c.args.after.now c.loop-a.a 0) in
    (omega (arith, one), omega (arith, next, one))

pub returns : goal.returns
returns c =
    let done = changes-done c.args.before.now c.args.after.now c.args.n c.loop-a.a c.loop-a-test.false in
    omega (arith, c.loop-a.invariant.1, done)
