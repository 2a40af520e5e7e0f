use Rattle.std.specs.Prelude.{Option}
use mathlib.Core.Path.{◌≡◌, refl, sym, ap, ◌∙◌, subst}
use mathlib.Core.List.{List, [], ◌++◌}
use Prim.Native.Nat.{ℕ, ◌+◌, ◌≤◌}
use native.Mathlib.Omega.{arith}
use lib.ListN.{length, length-append, length-drop}
use Rattle.spelling.specs.Assembling.{read_line}
use Rattle.assembly.specs.Reads.{ReadsAs}
use Rattle.assembly.specs.declared.Line.{Line}
use Rattle.assembly.proofs.Laws.{Passed, passed_none, passed-bad, passed-good, passed-all, rest-is}
use Rattle.assembly.proofs.check.Goals as goal

pub loop-rest-init : goal.loop-rest-init
loop-rest-init c = ([], passed_none _, refl, omega arith)

pub returns-in_default : goal.returns-in_default
returns-in_default c =
    let rest = c.loop-rest.rest.now in
    let bad = subst (λ (r : Option Line). ReadsAs rest (read_line rest) r) c.in_default.is c.read_line.ensures in
    let passed : Passed c.args.text.now rest c.loop-rest.lines c.loop-rest.invariant.0 = c.loop-rest.invariant.1 in
    let lines = passed.lines in (
      c.loop-rest.lines,
      passed-bad c.args.text.now rest c.loop-rest.lines c.loop-rest.invariant.0 passed (omega arith) bad,
      refl,
      omega (arith, lines),
    )

pub loop-rest-preserved : goal.loop-rest-preserved
loop-rest-preserved c =
    let rest = c.loop-rest.rest.now in
    let good = subst (λ (r : Option Line). ReadsAs rest (read_line rest) r) c.in-Some.is c.read_line.ensures in
    let ps = good.0.0 in
    let most = good.1 in
    let fits = good.3 in
    let n = length-append c.loop-rest.invariant.0 ps ∙ ap (λ (k : ℕ). k + length ps) c.loop-rest.invariant.2
    ∙ ap (λ (k : ℕ). c.loop-rest.parcels + k) good.0.2 in
    let left = length-drop c.in-Some.line.bytes rest in
    subst (λ (r : List ℕ). (done : List ℕ) × Passed c.args.text.now r (c.loop-rest.lines + 1) done × (length done ≡ c.loop-rest.parcels + c.in-Some.line.parcels)
    × (c.loop-rest.parcels + c.in-Some.line.parcels + length r ≤ length c.args.text.now))
    (sym (rest-is rest c.in-Some.line.bytes _ refl)) (
      c.loop-rest.invariant.0 ++ ps,
      passed-good c.args.text.now rest c.loop-rest.lines c.loop-rest.invariant.0 c.loop-rest.invariant.1 (omega arith) ps _ good.2 good.3 good.0.1,
      n,
      omega (arith, c.loop-rest.invariant.3, most, fits, left),
    )

pub returns : goal.returns
returns c = (
  c.loop-rest.invariant.0,
  passed-all c.args.text.now c.loop-rest.rest.now c.loop-rest.lines c.loop-rest.invariant.0 c.loop-rest.invariant.1 (omega arith),
  c.loop-rest.invariant.2,
)
