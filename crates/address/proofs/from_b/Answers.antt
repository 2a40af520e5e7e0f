use Rattle.machine.specs.Act.{a_from_b, act}
use Rattle.machine.specs.Codes.{code_of}
use Rattle.access.proofs.Leaf.{puts}
use Rattle.address.proofs.from_b.Goals as goal

pub returns : goal.returns
unfolding code_of act
returns c =
    λ p mem. puts a_from_b _ _ _ _ mem p _ c.put_a.ensures
    (rw c.requires) (rw c.b_jk.ensures)
