use Rattle.machine.specs.Act.{ones_right_s, act}
use Rattle.machine.specs.Codes.{code_of}
use Rattle.access.proofs.Leaf.{puts}
use Rattle.scalar.proofs.ones_right.Goals as goal

pub returns : goal.returns
unfolding code_of act
returns c =
    λ p mem. puts ones_right_s _ _ _ _ mem p _ c.put_s.ensures
    (rw c.requires) (rw c.ones_right.ensures)
