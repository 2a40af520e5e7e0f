use Rattle.std.proofs.Common.{ne_eqb}
use Rattle.machine.specs.Work.{no_parcel}
use Rattle.machine.specs.Layout.{frame_of}
use Rattle.access.proofs.no_parcel.Goals as goal

pub returns-then-r-eq0 : goal.returns-then-r-eq0
unfolding no_parcel frame_of
returns-then-r-eq0 c = rw c.if-r-eq0.true

pub returns-else-r-eq0 : goal.returns-else-r-eq0
unfolding no_parcel frame_of
returns-else-r-eq0 c = rw (ne_eqb _ _ c.if-r-eq0.false)
