use Rattle.machine.specs.Act.{left_pair_s, act}
use Rattle.machine.specs.Codes.{code_of}
use Rattle.access.proofs.Leaf.{puts}
use Rattle.scalar.proofs.shift.left_pair.Goals as goal

pub returns : goal.returns
unfolding code_of act
returns c =
    λ p mem. puts left_pair_s _ _ _ _ mem p _ c.put_s.ensures
    (rw c.requires)
    (rw (
      c.left_pair-y.ensures,
      c.s_i.ensures,
      c.s_j.ensures,
      c.a_k.ensures,
    ))
