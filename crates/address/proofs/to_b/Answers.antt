use mathlib.Core.Path.{refl}
use Rattle.machine.specs.Act.{b_from_a, act}
use Rattle.machine.specs.Codes.{code_of}
use Rattle.access.proofs.Leaf.{puts}
use Rattle.address.proofs.to_b.Goals as goal

pub returns : goal.returns
unfolding code_of act
returns c =
    λ p mem. puts b_from_a _ _ _ _ mem p _ (refl, c.set_b.ensures)
    (rw c.requires)
    (rw (c.jk.ensures, c.a_i.ensures))
