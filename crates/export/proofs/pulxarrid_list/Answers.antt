use mathlib.Core.Path.{sym, ◌∙◌}
use Rattle.export.proofs.Cal.{list-leaves}
use Rattle.export.proofs.pulxarrid_list.Goals as goal

pub returns-in-Ok : goal.returns-in-Ok
returns-in-Ok c =
    list-leaves c.args.parcels.now c.args.text.now c.args.report.now _ _ (sym c.in-Ok.is
    ∙ c.list.ensures.value) c.list.ensures.room_after

pub returns-in-Err : goal.returns-in-Err
returns-in-Err c =
    list-leaves c.args.parcels.now c.args.text.now c.args.report.now _ _ (sym c.in-Err.is
    ∙ c.list.ensures.value) c.list.ensures.room_after
