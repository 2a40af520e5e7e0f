use Rattle.std.proofs.Common.{◌≡◌, ℕ, ◌+◌, ◌-◌, take, drop, ap, ◌∙◌, arith}
use Rattle.machine.specs.Layout.{part}
use Rattle.access.proofs.half.Goals as goal

pub returns : goal.returns
unfolding part
returns c =
    let n : c.args.at + 672 - c.args.at ≡ 672 = omega arith in
    (rw c.unwrap.ensures at c.as_array.ensures.cases).same ∙ ap (λ (k : ℕ). take k (drop c.args.at c.args.pair.now)) n
