use mathlib.Core.Path.{refl}
use Rattle.machine.specs.Act.{normal_exit, act}
use Rattle.machine.specs.Codes.{code_of}
use Rattle.machine.specs.Work.{perform}
use Rattle.access.proofs.Leaf.{one, not-held}
use Rattle.control.proofs.normal_exit.Goals as goal

pub returns-then-no_digits : goal.returns-then-no_digits
unfolding code_of act perform
returns-then-no_digits c = λ r p mem. one _ _ _ mem _ p _ normal_exit (rw (c.requires, ← c.no_digits.ensures, c.if-no_digits.true)) refl refl

pub returns-else-no_digits : goal.returns-else-no_digits
unfolding code_of
returns-else-no_digits c = λ r p mem. not-held _ mem p _ (rw (c.requires, ← c.no_digits.ensures, c.if-no_digits.false))
