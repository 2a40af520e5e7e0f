use Rattle.std.proofs.Common.{◌≡◌, ◌+◌, ◌*◌, ◌%◌, ◌^◌, length, get_or, arith, rules}
use Rattle.memory.specs.Moves.{row_in}
use Rattle.memory.proofs.Rows.{same_place, next_address, beyond-turn, stores-turn, straight-known, straight-inside, straight-stored}
use Rattle.memory.proofs.operands.store.Goals as goal

pub copy-requires : goal.copy-requires
copy-requires c =
    let k = straight-known _ _ _ _ _ _ c.requires.row.1 c.straight-whole.ensures in record {
      sixteens = k.sixteens;
      by_index = λ e l.
          (omega (arith, c.word_at-w.ensures, c.requires.held.inside (c.a_0-from.result % 2 ^ 22 + e) (k.inside e l)), omega (arith, k.registers));
    }

pub loop-e-init : goal.loop-e-init
loop-e-init c =
    let k = straight-known _ _ _ _ _ _ c.requires.row.1 c.straight-whole.ensures in (
      k.most,
      search rules,
      omega (arith, k.address c.straight-whole.result (omega arith), c.wrapping_add_u64-at.ensures.value),
      straight-inside c.args.window.first _ _ _ _ _ _ c.requires.held.short k,
      λ q h. h,
    )

pub place-requires : goal.place-requires
place-requires c =
    (c.requires.row.0, c.requires.row.1, omega (arith, c.loop-e-test.true, c.requires.row.2))

pub put-o-requires : goal.put-o-requires
put-o-requires c =
    let l : length c.loop-e.mem ≡ length c.args.mem.now = omega arith in rw l c.requires.held

pub loop-e-preserved : goal.loop-e-preserved
loop-e-preserved c =
    let row = row_in c.args.window.first c.args.window.words c.a_0-from.result c.args.row.by in
    let p = same_place c.args.window.first c.args.window.words c.loop-e.at (c.a_0-from.result + c.loop-e.e * c.args.row.by) c.loop-e.invariant.2 in (
      search rules,
      search rules,
      rw c.wrapping_add_u64-at-in-loop-e.ensures.value (next_address c.loop-e.at c.a_0-from.result c.loop-e.e c.args.row.by c.loop-e.invariant.2),
      beyond-turn row c.loop-e.e _ _ c.loop-e.invariant.3 (rw (c.put-o.ensures.1, p)),
      λ q h. stores-turn row (λ i. get_or c.args.r.now (c.args.row.file + (c.args.row.reg + i) % 64) 0) c.loop-e.e q c.loop-e.mem _ (c.loop-e.invariant.4 q h)
          (rw (c.put-o.ensures.0, p, c.place.ensures.0)),
    )

pub returns : goal.returns
returns c =
    let e : c.loop-e.e ≡ c.args.row.n = omega arith in
    let k = straight-known _ _ _ _ _ _ c.requires.row.1 c.straight-whole.ensures in
    let g = straight-stored c.args.window.first _ _ _ _ _ _ c.requires.held.short k c.args.row.file c.args.r.now c.args.mem.now _
    (rw c.word_at-w.ensures at c.copy.ensures) in
    rw (← c.a_0-from.ensures, ← e) record { became = c.loop-e.invariant.4 c.args.mem.now g; beyond = c.loop-e.invariant.3 }
