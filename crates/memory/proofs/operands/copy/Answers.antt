use Rattle.std.proofs.Common.{◌≡◌, ℕ, ◌+◌, ◌*◌, ◌<◌, get_or, refl, ◌∙◌, arith, rules}
use Rattle.machine.specs.State.{fill}
use Rattle.access.specs.Executed.{cut_to}
use Rattle.memory.proofs.Rows.{fill_more}
use Rattle.memory.proofs.operands.copy.Goals as goal

pub loop-q-init : goal.loop-q-init
unfolding fill
loop-q-init c = (search rules, refl, refl)

pub overflow_add-first : goal.overflow_add-first
overflow_add-first c = omega (arith, c.requires.by_index (c.loop-q.q * 16) (omega arith), c.well_formed)

pub overflow_add-at : goal.overflow_add-at
overflow_add-at c = omega (arith, c.requires.by_index (c.loop-q.q * 16) (omega arith), c.well_formed)

pub sixteen-requires : goal.sixteen-requires
sixteen-requires c = omega (arith, (c.requires.by_index (c.loop-q.q * 16 + 15) (omega arith)).1)

pub put_sixteen-requires : goal.put_sixteen-requires
put_sixteen-requires c = omega (arith, (c.requires.by_index (c.loop-q.q * 16 + 15) (omega arith)).0)

pub loop-q-preserved : goal.loop-q-preserved
loop-q-preserved c =
    let e = c.loop-q.q * 16 in
    let f : ℕ → ℕ = λ i. cut_to c.args.narrow (get_or c.args.from.now (c.args.at + i) 0) in
    let g : (i : ℕ) → i < 16 → get_or c.sixteen.result i 0 ≡ f (e + i)
    = λ i t. let k : c.args.at + e + i ≡ c.args.at + (e + i) = omega arith in rw (← k) (c.sixteen.ensures i t) in
    let more : (c.loop-q.q + 1) * 16 ≡ e + 16 = omega arith in (
      omega arith,
      search rules,
      c.put_sixteen.ensures ∙ rw (c.loop-q.invariant.2, more) (fill_more c.args.first f _ e c.args.to.now 16 g),
    )

pub returns : goal.returns
returns c =
    let e : c.loop-q.q * 16 ≡ c.args.n = omega (arith, c.requires.sixteens) in rw (← e) c.loop-q.invariant.2
