use mathlib.Core.Path.{sym, ap, ◌∙◌}
use native.Mathlib.Omega.{arith}
use lib.ListN.{length}
use lib.Seq.{length-take-le}
use Rattle.spelling.proofs.Lines.{line-most}
use Rattle.assembly.proofs.Same.{found_it, found_none}
use Rattle.assembly.proofs.line_in.Goals as goal

pub put_line-len-requires : goal.put_line-len-requires
put_line-len-requires c =
    let few = (line-most c.args.first.parcel c.args.m (omega arith) (omega arith)).1 in
    let n16 = ap length c.copied-line.ensures ∙ length-take-le 16 c.args.text.now (omega arith) in
    omega (arith, n16, few)

pub returns-then-is_same : goal.returns-then-is_same
returns-then-is_same c =
    let few = (line-most c.args.first.parcel c.args.m (omega arith) (omega arith)).1 in
    found_it c.args.text.now 16 c.copied-line.ensures c.put_line-len.ensures.0
    (omega arith) few (sym c.is_same.ensures ∙ c.if-is_same.true)

pub returns-else-is_same : goal.returns-else-is_same
returns-else-is_same c =
    let few = (line-most c.args.first.parcel c.args.m (omega arith) (omega arith)).1 in
    found_none c.args.text.now 16 c.copied-line.ensures c.put_line-len.ensures.0
    (omega arith) few (sym c.is_same.ensures ∙ c.if-is_same.false)
