use Rattle.std.proofs.Common.{refl, ne_eqb}
use Rattle.access.proofs.ended.Goals as goal

pub returns-then-parcels-eq1 : goal.returns-then-parcels-eq1
returns-then-parcels-eq1 c = rw (c.if-outside.true, c.if-parcels-eq1.true) (record { work = refl; words = refl })

pub returns-else-parcels-eq1 : goal.returns-else-parcels-eq1
returns-else-parcels-eq1 c = rw c.if-outside.true (record { work = rw (ne_eqb _ _ c.if-parcels-eq1.false); words = refl })

pub returns-then-parcels-eq1-2 : goal.returns-then-parcels-eq1-2
returns-then-parcels-eq1-2 c = rw (c.if-outside.false, c.if-parcels-eq1-2.true) (record { work = refl; words = refl })

pub returns-else-parcels-eq1-2 : goal.returns-else-parcels-eq1-2
returns-else-parcels-eq1-2 c = rw c.if-outside.false (record { work = rw (ne_eqb _ _ c.if-parcels-eq1-2.false); words = refl })
