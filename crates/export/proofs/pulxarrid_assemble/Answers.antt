use mathlib.Core.Path.{sym, ap, ◌∙◌}
use Rattle.spelling.specs.Assembling.{refusal_number}
use Rattle.export.proofs.Cal.{assemble-leaves, assemble-bad, assemble-full}
use Rattle.export.proofs.pulxarrid_assemble.Goals as goal
use Rattle.export.proofs.pulxarrid_assemble.Goals.{in-BadLine, in_default}

pub returns-in-Ok : goal.returns-in-Ok
returns-in-Ok c =
    assemble-leaves c.args.text.now c.args.parcels.now c.args.report.now _ _ c.in-Ok.ensures.value c.in-Ok.ensures.room_after

pub returns-after-e : goal.returns-after-e
returns-after-e c =
    elim c.match-e.branch [
      | in-BadLine w ↦ assemble-bad c.args.text.now c.args.parcels.now c.args.report.now _ _ _ _ c.in-Err.ensures.value c.in-Err.ensures.room_after
          (c.number.ensures ∙ ap refusal_number (w.e-is ∙ sym w.in-BadLine.is)) _ w.in-BadLine.is w.report-is
      | in_default w ↦ assemble-full c.args.text.now c.args.parcels.now c.args.report.now _ _ _ _ c.in-Err.ensures.value c.in-Err.ensures.room_after
          (c.number.ensures ∙ ap refusal_number w.e-is) w.in_default.is w.report-is
    ]
