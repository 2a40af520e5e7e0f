use mathlib.Core.Path.{refl, ◌∙◌}
use Rattle.machine.specs.Act.{pass, set_ior, clear_ior, clear_bdm, set_bdm, act}
use Rattle.access.proofs.Leaf.{puts, puts-nothing, not-held}
use Rattle.control.proofs.Laws.{mode, no_mode}
use borrow.Author.Rules.{rules}
use Rattle.control.proofs.set_mode.Goals as goal

pub returns-in-3 : goal.returns-in-3
unfolding act
returns-in-3 c =
    λ p mem. puts set_ior _ _ _ _ mem p _ c.put_control.ensures
    (mode _ _ _ _ c.requires c.i.ensures c.in-3.is) refl

pub returns-in-4 : goal.returns-in-4
unfolding act
returns-in-4 c =
    λ p mem. puts clear_ior _ _ _ _ mem p _ c.put_control-in-4.ensures
    (mode _ _ _ _ c.requires c.i.ensures c.in-4.is) refl

pub returns-in-5 : goal.returns-in-5
unfolding act
returns-in-5 c =
    λ p mem. puts clear_bdm _ _ _ _ mem p _ c.put_control-in-5.ensures
    (mode _ _ _ _ c.requires c.i.ensures c.in-5.is) refl

pub returns-in-6 : goal.returns-in-6
unfolding act
returns-in-6 c =
    λ p mem. puts set_bdm _ _ _ _ mem p _ c.put_control-in-6.ensures
    (mode _ _ _ _ c.requires c.i.ensures c.in-6.is) refl

pub returns-in-7 : goal.returns-in-7
unfolding act
returns-in-7 c =
    λ p mem. puts pass _ _ _ _ mem p _ (refl, puts-nothing _) (mode _ _ _ _ c.requires c.i.ensures c.in-7.is) refl

pub returns-in_default : goal.returns-in_default
returns-in_default c =
    λ p mem. not-held _ mem p _
    (mode _ _ _ _ c.requires c.i.ensures refl
    ∙ no_mode c.i.result (search rules) (search rules) (search rules) (search rules) (search rules))
