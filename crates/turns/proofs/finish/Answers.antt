use mathlib.Core.Path.{◌∙◌}
use native.Mathlib.Omega.{arith}
use Rattle.machine.specs.Step.{finish}
use Rattle.machine.specs.Layout.{frame_of}
use Rattle.turns.proofs.Steps.{flag_small}
use Rattle.turns.proofs.finish.Goals as goal

pub leave-requires : goal.leave-requires
leave-requires c =
    record {
      fitting = c.requires.fitting;
      p_bound = (rw c.on-in-NormalExit.ensures (omega arith), rw c.in_user_mode.ensures (flag_small (frame_of c.args.r.now) 1 (omega arith)));
    }

pub leave-requires-in-ErrorExit : goal.leave-requires-in-ErrorExit
leave-requires-in-ErrorExit c =
    record {
      fitting = c.requires.fitting;
      p_bound = (rw c.on-in-ErrorExit.ensures (omega arith), rw c.in_user_mode-in-ErrorExit.ensures (flag_small (frame_of c.args.r.now) 2 (omega arith)));
    }

pub ranged-requires : goal.ranged-requires
ranged-requires c =
    record {
      fitting = c.requires.fitting;
      p_bound = rw c.on-in-StrayedOne.ensures (omega arith);
    }

pub ranged-requires-in-StrayedTwo : goal.ranged-requires-in-StrayedTwo
ranged-requires-in-StrayedTwo c =
    record {
      fitting = c.requires.fitting;
      p_bound = rw c.on-in-StrayedTwo.ensures (omega arith);
    }

pub returns-in-PastOne : goal.returns-in-PastOne
unfolding finish
returns-in-PastOne c =
    λ s. rw (c.in-PastOne.is, c.set_p.ensures, c.on.ensures)

pub returns-in-PastTwo : goal.returns-in-PastTwo
unfolding finish
returns-in-PastTwo c =
    λ s. rw (c.in-PastTwo.is, c.set_p-in-PastTwo.ensures, c.on-in-PastTwo.ensures)

pub returns-in-To : goal.returns-in-To
unfolding finish
returns-in-To c =
    λ s. rw (c.in-To.is, c.set_p-in-To.ensures)

pub returns-in-NormalExit : goal.returns-in-NormalExit
unfolding finish
returns-in-NormalExit c =
    λ s. rw c.in-NormalExit.is (c.leave.ensures s ∙ rw (c.on-in-NormalExit.ensures, c.in_user_mode.ensures))

pub returns-in-ErrorExit : goal.returns-in-ErrorExit
unfolding finish
returns-in-ErrorExit c =
    λ s. rw c.in-ErrorExit.is (c.leave-in-ErrorExit.ensures s ∙ rw (c.on-in-ErrorExit.ensures, c.in_user_mode-in-ErrorExit.ensures))

pub returns-in-StrayedOne : goal.returns-in-StrayedOne
unfolding finish
returns-in-StrayedOne c =
    λ s. rw c.in-StrayedOne.is (c.ranged.ensures s ∙ rw c.on-in-StrayedOne.ensures)

pub returns-in-StrayedTwo : goal.returns-in-StrayedTwo
unfolding finish
returns-in-StrayedTwo c =
    λ s. rw c.in-StrayedTwo.is (c.ranged-in-StrayedTwo.ensures s ∙ rw c.on-in-StrayedTwo.ensures)

pub returns-in-ProgramRange : goal.returns-in-ProgramRange
unfolding finish
returns-in-ProgramRange c =
    λ s. rw c.in-ProgramRange.is (c.leave-in-ProgramRange.ensures s)

pub returns-in-NotHeld : goal.returns-in-NotHeld
unfolding finish
returns-in-NotHeld c =
    λ s. rw (c.in-NotHeld.is, c.set_p-in-NotHeld.ensures)

pub returns-in-MonitorFetch : goal.returns-in-MonitorFetch
unfolding finish
returns-in-MonitorFetch c =
    λ s. rw (c.in-MonitorFetch.is, c.set_p-in-MonitorFetch.ensures)
