use Rattle.machine.specs.Act.{left_s, act}
use Rattle.machine.specs.Codes.{code_of}
use Rattle.access.proofs.Leaf.{puts}
use Rattle.scalar.proofs.shift.left.Goals as goal

pub returns : goal.returns
unfolding code_of act
returns c =
    λ p mem. puts left_s _ _ _ _ mem p _ c.put_s.ensures
    (rw c.requires)
    (rw (c.shifted_left.ensures, c.s_i.ensures))
