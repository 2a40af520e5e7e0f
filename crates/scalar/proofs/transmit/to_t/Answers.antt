use mathlib.Core.Path.{refl}
use Rattle.machine.specs.Act.{t_from_s, act}
use Rattle.machine.specs.Codes.{code_of}
use Rattle.access.proofs.Leaf.{puts}
use Rattle.scalar.proofs.transmit.to_t.Goals as goal

pub returns : goal.returns
unfolding code_of act
returns c =
    λ p mem. puts t_from_s _ _ _ _ mem p _ (refl, c.set_t.ensures)
    (rw c.requires)
    (rw (c.jk.ensures, c.s_i.ensures))
