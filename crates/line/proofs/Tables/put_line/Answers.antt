use mathlib.Core.Path.{sym, ◌∙◌, ap}
use native.Mathlib.Omega.{arith}
use lib.ListN.{length}
use borrow.Author.Tests.{eq-eqb}
use Rattle.text.proofs.Writing.{wrote_as}
use Rattle.spelling.specs.Rows.{instruction_by}
use Rattle.spelling.proofs.Table.{row_small}
use Rattle.spelling.proofs.Lines.{data-length, line-of-none, line-most}
use Rattle.line.proofs.Written.{line-spelled, line-ready}
use Rattle.line.proofs.Tables.put_line.Goals as goal

pub put_data-requires : goal.put_data-requires
put_data-requires c =
    let e = line-of-none c.args.first.parcel c.args.m (omega arith) (eq-eqb _ _ (sym c.args.first.is_row.0 ∙ c.if-first-eq0.true)) in
    let long = ap length e ∙ data-length c.args.first.parcel in
    omega (arith, long, c.requires)

pub returns-then-first-eq0 : goal.returns-then-first-eq0
returns-then-first-eq0 c =
    let e = line-of-none c.args.first.parcel c.args.m (omega arith) (eq-eqb _ _ (sym c.args.first.is_row.0 ∙ c.if-first-eq0.true)) in
    (wrote_as e c.put_data.ensures.0, omega (arith, c.put_data.ensures.1), omega (arith, c.put_data.ensures.1))

pub decode-ins-requires : goal.decode-ins-requires
decode-ins-requires c =
    let low = row_small c.args.first.parcel (omega arith) in
    omega (arith, low, c.args.first.is_row.0)

pub put_instruction-requires : goal.put_instruction-requires
put_instruction-requires c =
    let made = c.decode-ins.ensures ∙ ap (instruction_by c.args.first.row) c.fields-fs.ensures in
    line-ready c.args.first.parcel c.args.m c.args.first.row _ _ (omega arith) c.args.first.is_row.0 c.args.self.now.are_forms made
    c.if-first-eq0.false (omega arith) c.requires

pub returns : goal.returns
returns c =
    let made = c.decode-ins.ensures
    ∙ ap (instruction_by c.args.first.row) c.fields-fs.ensures in
    let e = line-spelled c.args.first.parcel c.args.m c.args.first.row _ _ (omega arith) c.args.first.is_row.0 c.args.self.now.are_forms made c.if-first-eq0.false in
    let w = wrote_as e c.put_instruction.ensures in
    let n = line-most c.args.first.parcel c.args.m (omega arith) (omega arith) in
    (w, omega (arith, w.place, n.0), omega (arith, w.place, n.1))
