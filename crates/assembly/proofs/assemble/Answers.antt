use Rattle.std.specs.Prelude.{Err}
use Rattle.std.proofs.lemmas.Result.{err_from_is_err_and}
use mathlib.Core.Path.{sym, subst, ◌∙◌}
use Rattle.spelling.specs.declared.ReadError.{ReadError}
use Rattle.assembly.specs.Reads.{Checks}
use Rattle.spelling.specs.Assembling.{room_assembled}
use Rattle.assembly.proofs.Laws.{assembled-bad, assembled-full, assembled-fits, assembled-all}
use Rattle.assembly.proofs.assemble.Goals as goal

pub returns-in_err-n : goal.returns-in_err-n
returns-in_err-n c =
    let p = err_from_is_err_and c.from_residual.result c.from_residual.ensures.1 in
    let k = subst (λ (e : ReadError). Checks c.args.text.now (Err e)) (sym p.2) c.in_err-n.ensures in
    let r = assembled-bad c.args.text.now c.args.room.now p.0 k in
    record { value = p.1 ∙ r.0; room_after = r.1 }

pub returns-then-room-n : goal.returns-then-room-n
returns-then-room-n c =
    let r = assembled-full c.args.text.now c.args.room.now c.in_ok-n.n c.in_ok-n.ensures c.if-room-n.true in
    record { value = r.0; room_after = r.1 }

pub store-requires : goal.store-requires
store-requires c = assembled-fits c.args.text.now c.args.room.now c.in_ok-n.n c.in_ok-n.ensures c.if-room-n.false

pub returns : goal.returns
unfolding room_assembled
returns c = record {
  value = assembled-all c.args.text.now c.args.room.now c.in_ok-n.n c.in_ok-n.ensures c.if-room-n.false;
  room_after = c.store.ensures;
}
