use Rattle.machine.specs.Act.{and_not_s, act}
use Rattle.machine.specs.Codes.{code_of}
use Rattle.access.proofs.Leaf.{puts}
use Rattle.scalar.proofs.logic.and_not.Goals as goal

pub returns : goal.returns
unfolding code_of act
returns c =
    λ p mem. puts and_not_s _ _ _ _ mem p _ c.put_s.ensures
    (rw c.requires)
    (rw (c.s_j.ensures, c.s_k.ensures))
