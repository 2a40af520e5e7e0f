use Rattle.machine.specs.Act.{merge_s, act}
use Rattle.machine.specs.Codes.{code_of}
use Rattle.access.proofs.Leaf.{puts}
use Rattle.scalar.proofs.logic.merge.Goals as goal

pub returns : goal.returns
unfolding code_of act
returns c =
    λ p mem. puts merge_s _ _ _ _ mem p _ c.put_s.ensures
    (rw c.requires)
    (rw (
      c.merged-y.ensures,
      c.s_j.ensures,
      c.s_i.ensures,
      c.s_k.ensures,
    ))
