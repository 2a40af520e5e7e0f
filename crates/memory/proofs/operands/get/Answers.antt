use Rattle.std.proofs.Common.{refl, arith}
use Rattle.memory.proofs.Rows.{place-in, place_out}
use Rattle.memory.proofs.operands.get.Goals as goal

pub overflow_add-result : goal.overflow_add-result
overflow_add-result c =
    omega (arith, c.requires.inside _ c.if-w-window.true, c.well_formed)

pub offset_bounds-mem-window : goal.offset_bounds-mem-window
offset_bounds-mem-window c =
    omega (arith, c.requires.inside _ c.if-w-window.true, c.well_formed)

pub bounds-mem-window : goal.bounds-mem-window
bounds-mem-window c =
    c.requires.inside _ c.if-w-window.true

pub returns-then-w-window : goal.returns-then-w-window
returns-then-w-window c =
    rw (place-in _ _ _ _ c.word_at-w.ensures c.if-w-window.true) (refl, refl)

pub returns-else-w-window : goal.returns-else-w-window
returns-else-w-window c = rw (place_out _ _ _ _ c.word_at-w.ensures c.if-w-window.false) (refl, refl)
