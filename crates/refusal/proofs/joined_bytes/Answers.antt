use Rattle.std.proofs.Common.{refl, arith}
use Rattle.refusal.proofs.Laws.{joins-on, joins-all}
use Rattle.refusal.proofs.joined_bytes.Goals as goal

pub loop-b-init : goal.loop-b-init
loop-b-init c = refl

pub loop-b-preserved : goal.loop-b-preserved
loop-b-preserved c = joins-on c.args.bytes.now _ _ c.loop-b.invariant (omega arith)

pub returns : goal.returns
returns c = joins-all c.args.bytes.now _ _ c.loop-b.invariant (omega arith)
