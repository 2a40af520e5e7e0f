use Rattle.std.proofs.Common.{refl, arith}
use Rattle.refusal.proofs.Laws.{joins-on, joins-all}
use Rattle.refusal.proofs.joined.Goals as goal

pub loop-n-init : goal.loop-n-init
loop-n-init c = refl

pub loop-n-preserved : goal.loop-n-preserved
loop-n-preserved c = joins-on c.args.numbers.now _ _ c.loop-n.invariant (omega arith)

pub returns : goal.returns
returns c = joins-all c.args.numbers.now _ _ c.loop-n.invariant (omega arith)
