use mathlib.Core.Path.{refl, sym, ◌∙◌}
use borrow.Author.Tests.{le-leb, lt-leb}
use Rattle.octal.specs.Lines.{octal_of}
use Rattle.octal.proofs.Line.{parcels-length}
use Rattle.octal.proofs.read.Goals as goal

pub returns-in-Some : goal.returns-in-Some
unfolding octal_of
returns-in-Some c = record {
  value = rw (← c.in-Some.ensures) refl;
  room_after = rw (← c.in-Some.ensures) refl;
}

pub returns-then-room-n : goal.returns-then-room-n
unfolding octal_of
returns-then-room-n c =
    let e = sym c.bad_line.ensures ∙ c.in_default.is in
    record {
      value = simp (e, parcels-length, lt-leb _ _ c.if-room-n.true);
      room_after = simp (e, parcels-length, lt-leb _ _ c.if-room-n.true);
    }

pub returns : goal.returns
unfolding octal_of
returns c =
    let e = sym c.bad_line.ensures ∙ c.in_default.is in
    record {
      value = simp (e, parcels-length, le-leb _ _ c.if-room-n.false);
      room_after = simp (e, parcels-length, le-leb _ _ c.if-room-n.false) c.store.ensures;
    }
