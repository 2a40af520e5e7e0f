use mathlib.Core.Path.{refl}
use Rattle.machine.specs.Act.{left_s0, act}
use Rattle.machine.specs.Codes.{code_of}
use Rattle.access.proofs.Leaf.{puts}
use Rattle.scalar.proofs.shift.left_0.Goals as goal

pub returns : goal.returns
unfolding code_of act
returns c =
    λ p mem. puts left_s0 _ _ _ _ mem p _ (refl, c.set_s.ensures)
    (rw c.requires)
    (rw (c.shifted_left.ensures, c.s_i.ensures))
