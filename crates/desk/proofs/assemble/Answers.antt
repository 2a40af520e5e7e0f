use Rattle.std.specs.Prelude.{Result}
use mathlib.Core.Path.{sym, subst, ◌∙◌}
use Prim.Native.Nat.{ℕ}
use lib.ListN.{length}
use Rattle.spelling.specs.declared.ReadError.{ReadError}
use Rattle.desk.specs.Desk.{Stands, cal_given}
use Rattle.desk.proofs.Texts.{refused-room, cal-room, cal-long, cal-stands}
use Rattle.desk.proofs.assemble.Goals as goal

pub returns-then-text-gt-LONGEST : goal.returns-then-text-gt-LONGEST
returns-then-text-gt-LONGEST c =
    let long = cal-long _ _ c.if-text-gt-LONGEST.true in
    record { gives = long; parcels_after = refused-room _ _ _ long }

pub returns : goal.returns
returns c =
    let stands = cal-stands c.args.text.now c.args.parcels.now _ c.if-text-gt-LONGEST.false c.assemble.ensures.room_after in
    record {
      gives = subst (λ (r : Result ℕ ReadError). Stands (cal_given (length c.args.parcels.now) c.args.text.now) c.assemble.new.room r)
          (sym c.assemble.ensures.value) stands;
      parcels_after = c.assemble.ensures.room_after ∙ cal-room _ _ c.if-text-gt-LONGEST.false;
    }
