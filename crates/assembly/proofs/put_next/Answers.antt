use mathlib.Core.Path.{sym, ap, ◌∙◌}
use native.Mathlib.Omega.{arith}
use borrow.Author.Tests.{not-true, not-false}
use lib.ListN.{length}
use Rattle.text.proofs.Writing.{wrote_as}
use Rattle.spelling.proofs.Lines.{data-length}
use Rattle.assembly.proofs.Laws.{next_one, next_last, next-two}
use Rattle.assembly.proofs.put_next.Goals as goal

pub put_line-requires : goal.put_line-requires
put_line-requires c =
    let n = next_one c.new-first.result.parcel c.args.parcels.now c.requires.0 c.new-first.ensures
    (sym c.has_second.ensures ∙ not-true _ c.if-not-has_second.true-raw) in
    let e = ap length n.0 in omega (arith, e, c.requires.1)

pub returns-then-not-has_second : goal.returns-then-not-has_second
returns-then-not-has_second c =
    let n = next_one c.new-first.result.parcel c.args.parcels.now c.requires.0 c.new-first.ensures
    (sym c.has_second.ensures ∙ not-true _ c.if-not-has_second.true-raw) in
    record { wrote = wrote_as n.0 c.put_line.ensures.0; taken = (sym n.1, omega arith, omega arith) }

pub put_data-requires : goal.put_data-requires
put_data-requires c =
    let n = next_last c.new-first.result.parcel c.args.parcels.now c.requires.0 c.new-first.ensures
    (sym c.has_second.ensures ∙ not-false _ c.if-not-has_second.false-raw) c.if-parcels-lt2.true in
    let e = ap length n.0 ∙ data-length _ in omega (arith, e, c.requires.1)

pub returns-then-parcels-lt2 : goal.returns-then-parcels-lt2
returns-then-parcels-lt2 c =
    let n = next_last c.new-first.result.parcel c.args.parcels.now c.requires.0 c.new-first.ensures
    (sym c.has_second.ensures ∙ not-false _ c.if-not-has_second.false-raw) c.if-parcels-lt2.true in
    record { wrote = wrote_as n.0 c.put_data.ensures.0; taken = (sym n.1, omega arith, omega arith) }

pub put_line-requires-2 : goal.put_line-requires-2
put_line-requires-2 c =
    let n = next-two c.new-first.result.parcel c.args.parcels.now c.new-first.ensures
    (sym c.has_second.ensures ∙ not-false _ c.if-not-has_second.false-raw) c.if-parcels-lt2.false in
    let e = ap length n.0 in omega (arith, e, c.requires.1)

pub returns : goal.returns
returns c =
    let n = next-two c.new-first.result.parcel c.args.parcels.now c.new-first.ensures
    (sym c.has_second.ensures ∙ not-false _ c.if-not-has_second.false-raw) c.if-parcels-lt2.false in
    record { wrote = wrote_as n.0 c.put_line-2.ensures.0; taken = (sym n.1, omega arith, omega arith) }
