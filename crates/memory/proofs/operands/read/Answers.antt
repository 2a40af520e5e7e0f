use Rattle.std.proofs.Common.{◌≡◌, ◌+◌, ◌*◌, ◌%◌, ◌^◌, ◌∙◌, arith, rules}
use Rattle.access.specs.Window.{load_in}
use Rattle.access.specs.Executed.{cut_to}
use Rattle.access.proofs.Rings.{ring-turn}
use Rattle.memory.specs.Moves.{row_in}
use Rattle.memory.proofs.Rows.{is-none, same_place, next_address, beyond-turn, straight-known, straight-inside, straight-read}
use Rattle.memory.proofs.operands.read.Goals as goal

pub copy-requires : goal.copy-requires
copy-requires c =
    let k = straight-known _ _ _ _ _ _ c.requires.row.1 c.straight-whole.ensures in record {
      sixteens = k.sixteens;
      by_index = λ e l.
          (omega (arith, k.registers), omega (arith, c.word_at-w.ensures, c.requires.held.inside (c.a_0-from.result % 2 ^ 22 + e) (k.inside e l)));
    }

pub loop-e-init : goal.loop-e-init
loop-e-init c =
    let k = straight-known _ _ _ _ _ _ c.requires.row.1 c.straight-whole.ensures in (
      k.most,
      search rules,
      omega (arith, k.address c.straight-whole.result (omega arith), c.wrapping_add_u64-at.ensures.value),
      straight-inside c.args.window.first _ _ _ _ _ _ c.requires.held.short k,
      λ q h. h,
    )

pub place-requires : goal.place-requires
place-requires c =
    (c.requires.row.0, c.requires.row.1, omega (arith, c.loop-e-test.true, c.requires.row.2))

pub loop-e-preserved : goal.loop-e-preserved
loop-e-preserved c =
    let row = row_in c.args.window.first c.args.window.words c.a_0-from.result c.args.row.by in
    let p = same_place c.args.window.first c.args.window.words c.loop-e.at (c.a_0-from.result + c.loop-e.e * c.args.row.by) c.loop-e.invariant.2 in (
      search rules,
      search rules,
      rw c.wrapping_add_u64-at-in-loop-e.ensures.value (next_address c.loop-e.at c.a_0-from.result c.loop-e.e c.args.row.by c.loop-e.invariant.2),
      beyond-turn row c.loop-e.e _ _ c.loop-e.invariant.3 (is-none _ _ c.is_none-outside.ensures ∙ rw (c.get-word.ensures.1, p)),
      λ q h. ring-turn c.args.row.file c.args.row.reg (λ i. cut_to c.args.narrow (load_in c.args.mem.now (row i))) c.loop-e.e q
          c.loop-e.r _ c.cut.result (c.loop-e.invariant.4 q h)
          (rw c.place.ensures.0) (rw (c.cut.ensures, c.unwrap_or.ensures, c.get-word.ensures.0, p)),
    )

pub returns : goal.returns
returns c =
    let e : c.loop-e.e ≡ c.args.row.n = omega arith in
    let k = straight-known _ _ _ _ _ _ c.requires.row.1 c.straight-whole.ensures in
    let g = straight-read c.args.window.first _ _ _ _ _ _ c.requires.held.short k c.args.row.file c.args.narrow c.args.mem.now c.args.r.now _
    (rw c.word_at-w.ensures at c.copy.ensures) in
    rw (← c.a_0-from.ensures, ← e) record { became = c.loop-e.invariant.4 c.args.r.now g; beyond = c.loop-e.invariant.3 }
