use native.Mathlib.Omega.{arith}
use Rattle.text.proofs.Writing.{wrote_as}
use Rattle.desk.proofs.Texts.{sheet-fits, sheet-full}
use Rattle.desk.proofs.put_sheet.Goals as goal

pub returns-then-saturating_add-gt4096 : goal.returns-then-saturating_add-gt4096
returns-then-saturating_add-gt4096 c =
    let end = c.saturating_add.ensures in (
      wrote_as (sheet-full c.args.address c.args.parcels.now (omega (arith, end, c.words_for-n.ensures)))
          c.put_refused.ensures.0,
      omega (arith, c.put_refused.ensures.1),
    )

pub returns : goal.returns
returns c =
    let end = c.saturating_add.ensures in (
      wrote_as (sheet-fits c.args.address c.args.parcels.now (omega (arith, end, c.words_for-n.ensures)))
          c.put_words.ensures.wrote,
      omega (arith, end, c.put_words.ensures.value, c.words_for-n.ensures),
    )
