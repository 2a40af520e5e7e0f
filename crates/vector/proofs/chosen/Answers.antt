use mathlib.Core.Path.{◌∙◌}
use mathlib.Core.Bool.{true, false}
use borrow.Author.Tests.{eq-eqb, ne_eqb}
use Rattle.vector.proofs.Merges.{merge-by}
use Rattle.vector.proofs.chosen.Goals as goal
use Rattle.vector.proofs.chosen.Goals.{then-vm-e-eq1, else-vm-e-eq1}

pub returns : goal.returns
returns c = elim c.if-vm-e-eq1.branch [
  | then-vm-e-eq1 w ↦ c.merged.ensures ∙ rw (w.mask-is, eq-eqb _ _ w.if-vm-e-eq1.true) (merge-by true _ _ c.ranges.x.fits c.ranges.y.fits)
  | else-vm-e-eq1 w ↦ c.merged.ensures ∙ rw (w.mask-is, ne_eqb _ _ w.if-vm-e-eq1.false) (merge-by false _ _ c.ranges.x.fits c.ranges.y.fits)
]
