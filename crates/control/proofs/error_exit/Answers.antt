use mathlib.Core.Path.{refl}
use Rattle.machine.specs.Act.{error_exit, act}
use Rattle.machine.specs.Codes.{code_of}
use Rattle.machine.specs.Work.{perform}
use Rattle.access.proofs.Leaf.{one, not-held}
use Rattle.control.proofs.Laws.{nothing}
use Rattle.control.proofs.error_exit.Goals as goal

pub returns-then-x-eq0 : goal.returns-then-x-eq0
unfolding code_of act perform
returns-then-x-eq0 c = λ r p mem. one _ _ _ mem _ p _ error_exit (rw c.if-x-eq0.true) refl refl

pub returns-else-x-eq0 : goal.returns-else-x-eq0
returns-else-x-eq0 c = λ r p mem. not-held _ mem p _ (nothing _ _ c.requires.1 c.requires.0 c.if-x-eq0.false)
