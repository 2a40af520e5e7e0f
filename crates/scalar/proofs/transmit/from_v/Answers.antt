use Rattle.machine.specs.Act.{s_from_v, act}
use Rattle.machine.specs.Codes.{code_of}
use Rattle.access.proofs.Leaf.{puts}
use Rattle.scalar.proofs.transmit.from_v.Goals as goal

pub returns : goal.returns
unfolding code_of act
returns c =
    λ p mem. puts s_from_v _ _ _ _ mem p _ c.put_s.ensures
    (rw c.requires)
    (rw (
      c.element.ensures,
      c.j.ensures,
      c.a_k.ensures,
    ))
