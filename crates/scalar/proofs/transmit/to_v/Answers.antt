use mathlib.Core.Path.{refl}
use Rattle.machine.specs.Act.{v_from_s, act}
use Rattle.machine.specs.Codes.{code_of}
use Rattle.access.proofs.Leaf.{puts}
use Rattle.scalar.proofs.transmit.to_v.Goals as goal

pub returns : goal.returns
unfolding code_of act
returns c =
    λ p mem. puts v_from_s _ _ _ _ mem p _ (refl, c.set_element.ensures)
    (rw c.requires)
    (rw (
      c.i.ensures,
      c.a_k.ensures,
      c.s_j.ensures,
    ))
