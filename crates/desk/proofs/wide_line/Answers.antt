use mathlib.Core.Path.{sym, ◌∙◌}
use native.Mathlib.Omega.{arith}
use borrow.Author.Tests.{eqb-true, eqb-false}
use Rattle.text.proofs.Writing.{then, wrote_as, wrote_none}
use Rattle.desk.proofs.Columns.{copied, wide-some, wide-none}
use Rattle.desk.proofs.wide_line.Goals as goal

pub returns-then-is_empty : goal.returns-then-is_empty
returns-then-is_empty c =
    let e = eqb-true _ _ (sym c.is_empty.ensures ∙ c.if-is_empty.true) in
    let none = wide-none c.args.address c.args.parcels.now e in record {
      wrote = (wrote_as none.0 (wrote_none _ _), omega arith);
      taken = (none.1, omega arith, λ h. absurd (omega (arith, e, h)));
    }

pub returns-clause-wrote : goal.returns-clause-wrote
returns-clause-wrote c =
    let n = eqb-false _ _ (sym c.is_empty.ensures ∙ c.if-is_empty.false) in
    let most = c.put_first-next.ensures.upper_bound in
    let h = copied c.put_first-next.ensures.wrote (omega (arith, most)) c.put_text.ensures.0 in (
      wrote_as (wide-some c.args.address c.args.parcels.now (omega (arith, n)))
          (then (then (then c.put_column-column.ensures.0 c.put_blanks-first.ensures.0) c.put_taken-cal.ensures.0) h.0),
      omega (
        arith,
        c.put_column-column.ensures.1,
        c.put_blanks-first.ensures.1,
        c.put_taken-cal.ensures.1,
        h.1,
        most,
      ),
    )
