use Rattle.std.specs.Prelude.{None}
use Rattle.std.specs.Option.{IsSome}
use mathlib.Core.Path.{◌≡◌, refl, sym, ap, subst, ◌∙◌}
use Prim.Native.Nat.{ℕ, ◌+◌, ◌-◌, ◌*◌, ◌<◌}
use native.Mathlib.Omega.{arith}
use lib.ListN.{length, length-set, set}
use lib.Seq.{sets}
use Rattle.octal.specs.Lines.{parcel_at, bad_line, parcels_from}
use Rattle.octal.proofs.Line.{narrow, line-good, line-right, number-part, store-next, store-done}
use Rattle.octal.proofs.store.Goals as goal

pub unwrap-p-requires : goal.unwrap-p-requires
unwrap-p-requires c =
    let good = line-right c.args.text.now _ _ _ (omega arith) c.loop-i.invariant.1 in
    subst IsSome (sym (c.number.ensures ∙ number-part _ _ _ good (omega arith) (omega arith))) refl

pub overflow_cast-room : goal.overflow_cast-room
overflow_cast-room c =
    let good = line-right c.args.text.now _ _ _ (omega arith) c.loop-i.invariant.1 in
    let is = sym c.unwrap-p.ensures ∙ c.number.ensures ∙ number-part _ _ _ good (omega arith) (omega arith) in
    let p : c.unwrap-p.result ≡ parcel_at c.args.text.now (7 * c.loop-i.i) = cc in
    let most = narrow _ _ good in
    record { fits = omega (arith, p, most) }

pub loop-i-preserved : goal.loop-i-preserved
loop-i-preserved c =
    let text = c.args.text.now in
    let i = c.loop-i.i in
    let here : 7 * i < length text = omega arith in
    let good = line-right text _ _ _ here c.loop-i.invariant.1 in
    let is = sym c.unwrap-p.ensures ∙ c.number.ensures ∙ number-part _ _ _ good (omega arith) (omega arith) in
    let p : c.unwrap-p.result ≡ parcel_at text (7 * i) = cc in
    let on : 7 * i + 7 ≡ 7 * (i + 1) = omega arith in (
      length-set c.loop-i.room i c.unwrap-p.result ∙ c.loop-i.invariant.0,
      subst (λ (q : ℕ). bad_line (length text + 1 - (i + 1 + 1)) text q (i + 1 + 1) ≡ None) on
          (sym (line-good text (7 * i) (length text + 1) (i + 1) here (omega arith) good) ∙ c.loop-i.invariant.1),
      c.loop-i.invariant.2 ∙ store-next _ _ _ _ _ _ c.loop-i-test.true p
          ∙ ap (λ (q : ℕ). sets (set c.loop-i.room i c.unwrap-p.result) (i + 1) (parcels_from (c.args.n - (i + 1)) text q)) on,
    )

pub returns : goal.returns
returns c = sym (c.loop-i.invariant.2 ∙ store-done _ _ _ _ _ c.loop-i-test.false)
