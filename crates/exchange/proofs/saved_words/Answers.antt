use mathlib.Core.Path.{refl, sym, ap₂}
use mathlib.Core.List.{◌∷◌}
use native.Mathlib.Omega.{arith}
use Rattle.machine.specs.Layout.{registers_of, frame_of}
use Rattle.access.proofs.Places.{a_at, s-at}
use Rattle.exchange.proofs.saved_words.Goals as goal

pub returns : goal.returns
unfolding frame_of registers_of
returns c =
    ap₂ ◌∷◌ (omega (arith, a_at c.args.r.now 0 (omega arith)))
    (ap₂ ◌∷◌ (omega (arith, a_at c.args.r.now 1 (omega arith)))
    (ap₂ ◌∷◌ (omega (arith, a_at c.args.r.now 2 (omega arith)))
    (ap₂ ◌∷◌ (omega (arith, a_at c.args.r.now 3 (omega arith)))
    (ap₂ ◌∷◌ (omega (arith, a_at c.args.r.now 4 (omega arith)))
    (ap₂ ◌∷◌ (omega (arith, a_at c.args.r.now 5 (omega arith)))
    (ap₂ ◌∷◌ (omega (arith, a_at c.args.r.now 6 (omega arith)))
    (ap₂ ◌∷◌ (omega (arith, a_at c.args.r.now 7 (omega arith)))
    (ap₂ ◌∷◌ (sym (s-at c.args.r.now 0 (omega arith)))
    (ap₂ ◌∷◌ (sym (s-at c.args.r.now 1 (omega arith)))
    (ap₂ ◌∷◌ (sym (s-at c.args.r.now 2 (omega arith)))
    (ap₂ ◌∷◌ (sym (s-at c.args.r.now 3 (omega arith)))
    (ap₂ ◌∷◌ (sym (s-at c.args.r.now 4 (omega arith)))
    (ap₂ ◌∷◌ (sym (s-at c.args.r.now 5 (omega arith)))
    (ap₂ ◌∷◌ (sym (s-at c.args.r.now 6 (omega arith)))
    (ap₂ ◌∷◌ (sym (s-at c.args.r.now 7 (omega arith)))
    refl)))))))))))))))
