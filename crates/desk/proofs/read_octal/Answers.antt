use Rattle.std.specs.Prelude.{Result}
use mathlib.Core.Path.{sym, subst, ◌∙◌}
use Prim.Native.Nat.{ℕ}
use lib.ListN.{length}
use Rattle.spelling.specs.declared.ReadError.{ReadError}
use Rattle.desk.specs.Desk.{Stands, octal_given}
use Rattle.desk.proofs.Texts.{refused-room, octal-room, octal-long, octal-stands}
use Rattle.desk.proofs.read_octal.Goals as goal

pub returns-then-text-gt-LONGEST : goal.returns-then-text-gt-LONGEST
returns-then-text-gt-LONGEST c =
    let long = octal-long _ _ c.if-text-gt-LONGEST.true in
    record { gives = long; parcels_after = refused-room _ _ _ long }

pub returns : goal.returns
returns c =
    let stands = octal-stands c.args.text.now c.args.parcels.now _ c.if-text-gt-LONGEST.false c.read.ensures.room_after in
    record {
      gives = subst (λ (r : Result ℕ ReadError). Stands (octal_given (length c.args.parcels.now) c.args.text.now) c.read.new.room r)
          (sym c.read.ensures.value) stands;
      parcels_after = c.read.ensures.room_after ∙ octal-room _ _ c.if-text-gt-LONGEST.false;
    }
