use Rattle.machine.specs.Layout.{registers_of}
use Rattle.std.proofs.Common.{rules}
use Rattle.access.proofs.vl.Goals as goal

pub returns : goal.returns
unfolding registers_of
returns c = search rules
