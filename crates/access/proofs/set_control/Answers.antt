use Rattle.std.proofs.Common.{arith, rules}
use Rattle.access.proofs.Places.{to-control, control-low}
use Rattle.access.proofs.set_control.Goals as goal

pub offset_bounds-r-place : goal.offset_bounds-r-place
offset_bounds-r-place c = omega (arith, control-low _ c.requires)

pub bounds-r-place : goal.bounds-r-place
bounds-r-place c = omega (arith, control-low _ c.requires)

pub returns : goal.returns
returns c = to-control _ _ _ (search rules) c.requires
