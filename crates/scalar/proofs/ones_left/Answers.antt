use Rattle.machine.specs.Act.{ones_left_s, act}
use Rattle.machine.specs.Codes.{code_of}
use Rattle.access.proofs.Leaf.{puts}
use Rattle.scalar.proofs.ones_left.Goals as goal

pub returns : goal.returns
unfolding code_of act
returns c =
    λ p mem. puts ones_left_s _ _ _ _ mem p _ c.put_s.ensures
    (rw c.requires) (rw c.ones_left.ensures)
