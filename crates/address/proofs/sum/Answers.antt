use Rattle.machine.specs.Act.{sum_a, act}
use Rattle.machine.specs.Codes.{code_of}
use Rattle.access.proofs.Leaf.{puts}
use Rattle.address.proofs.sum.Goals as goal

pub returns : goal.returns
unfolding code_of act
returns c =
    λ p mem. puts sum_a _ _ _ _ mem p _ c.put_a.ensures
    (rw c.requires)
    (rw (
      c.sum_24.ensures,
      c.a_j.ensures,
      c.a_k.ensures,
    ))
