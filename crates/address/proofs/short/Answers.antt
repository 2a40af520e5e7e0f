use mathlib.Core.Path.{refl}
use Rattle.machine.specs.Act.{short_a, act}
use Rattle.machine.specs.Codes.{code_of}
use Rattle.access.proofs.Leaf.{puts}
use Rattle.address.proofs.short.Goals as goal

pub returns : goal.returns
unfolding code_of act
returns c = λ p mem. puts short_a _ _ _ _ mem p _ c.put_a.ensures (rw c.requires) refl
