use Rattle.text.specs.Report.{changed_lines}
use Rattle.text.proofs.Writing.{then}
use Rattle.text.proofs.Length.{words-most}
use native.Mathlib.Omega.{arith}
use Rattle.text.proofs.put_changed.Goals as goal

pub returns : goal.returns
unfolding changed_lines
returns c = record {
  wrote = rw (
    ← c.compared-n.ensures.0,
    ← c.count_changes-count.ensures,
  ) (then
      c.put_line-words.ensures.0 c.put_changes.ensures);
  upper_bound = λ short. omega (
    arith,
    words-most c.args.before.now c.args.after.now (λ i. (c.type_inv.after i).fits) c.compared-n.result 0 (omega arith),
  );
}
