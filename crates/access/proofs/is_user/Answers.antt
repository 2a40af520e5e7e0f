use Rattle.machine.specs.Layout.{frame_of}
use Rattle.std.proofs.Common.{rules}
use Rattle.access.proofs.is_user.Goals as goal

pub returns : goal.returns
unfolding frame_of
returns c = search rules
