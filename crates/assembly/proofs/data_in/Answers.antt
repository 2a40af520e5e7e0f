use mathlib.Core.Path.{sym, ◌∙◌}
use native.Mathlib.Omega.{arith}
use Rattle.spelling.proofs.Lines.{data-length}
use Rattle.assembly.proofs.Same.{found_it, found_none}
use Rattle.assembly.proofs.data_in.Goals as goal

pub returns-then-is_same : goal.returns-then-is_same
returns-then-is_same c =
    let n = data-length c.args.x in
    found_it c.args.text.now 16 c.copied-line.ensures c.put_data-len.ensures.0
    (omega arith) (omega (arith, n)) (sym c.is_same.ensures ∙ c.if-is_same.true)

pub returns-else-is_same : goal.returns-else-is_same
returns-else-is_same c =
    let n = data-length c.args.x in
    found_none c.args.text.now 16 c.copied-line.ensures c.put_data-len.ensures.0
    (omega arith) (omega (arith, n)) (sym c.is_same.ensures ∙ c.if-is_same.false)
