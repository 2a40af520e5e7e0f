use native.Mathlib.Omega.{arith}
use Rattle.text.specs.Report.{report_of}
use Rattle.text.proofs.Writing.{then}
use Rattle.text.proofs.report.Goals as goal

pub returns : goal.returns
unfolding report_of
returns c =
    record {
      wrote = then (then (then (then c.put_stop-second.ensures.0 c.put_outside-third.ensures.0) c.put_line-fourth.ensures.0) c.put_state-changed.ensures.0)
          c.put_changed.ensures.wrote;
      upper_bound = λ short. omega (arith, c.put_changed.ensures.upper_bound short);
    }
