use mathlib.Core.Path.{◌≡◌, refl, ap, ◌∙◌}
use native.Mathlib.Omega.{arith}
use mathlib.Core.List.{List}
use Prim.Native.Nat.{ℕ}
use lib.ListN.{length, get_or, length-set}
use Rattle.spelling.specs.Rows.{form_table}
use Rattle.spelling.proofs.Forms.{forms-length}
use Rattle.line.specs.Joined.{joined}
use Rattle.line.proofs.Written.{ends-inside, going, operand-next, room_next, newline-next, sign-next}
use Rattle.line.proofs.Tables.put_signs.Goals as goal

read : {l m : List ℕ} → l ≡ m → (p : ℕ) → get_or l p 0 ≡ get_or m p 0
read e p = ap (λ (l : List ℕ). get_or l p 0) e

long : {l : List ℕ} → l ≡ form_table → length l ≡ 1284
long e = ap length e ∙ forms-length

pub loop-forms-init : goal.loop-forms-init
loop-forms-init c = going _ _ _ _ c.requires.0 c.requires.1

pub bounds-forms-p : goal.bounds-forms-p
bounds-forms-p c =
    let here = long (c.as_flattened-forms.ensures.value ∙ c.args.self.now.are_forms) in
    omega (arith, ends-inside (joined c.args.self.now.forms) c.loop-forms.p c.loop-forms.invariant.ends, here, long c.args.self.now.are_forms)

pub overflow_add-p : goal.overflow_add-p
overflow_add-p c = omega (arith, ends-inside (joined c.args.self.now.forms) c.loop-forms.p c.loop-forms.invariant.ends, long c.args.self.now.are_forms)

pub shape_of-line-then-b-eq0 : goal.shape_of-line-then-b-eq0
shape_of-line-then-b-eq0 c = c.loop-forms.invariant.same

pub returns-then-b-eq0 : goal.returns-then-b-eq0
returns-then-b-eq0 c =
    let s = operand-next c.loop-forms.invariant _ (read c.as_flattened-forms.ensures.value c.loop-forms.p) c.if-b-eq0.true in
    record { wrote = s.0; rest = s.1 }

pub bounds-line-to : goal.bounds-line-to
bounds-line-to c =
    omega (arith, room_next c.loop-forms.invariant _ (read c.as_flattened-forms.ensures.value c.loop-forms.p) c.if-b-eq0.false, c.loop-forms.invariant.same)

pub overflow_add-to : goal.overflow_add-to
overflow_add-to c = omega (arith, room_next c.loop-forms.invariant _ (read c.as_flattened-forms.ensures.value c.loop-forms.p) c.if-b-eq0.false, c)

pub shape_of-line-then-b-eq10 : goal.shape_of-line-then-b-eq10
shape_of-line-then-b-eq10 c = simp length-set c.loop-forms.invariant.same

pub returns-then-b-eq10 : goal.returns-then-b-eq10
returns-then-b-eq10 c =
    let s = newline-next c.loop-forms.invariant _ (read c.as_flattened-forms.ensures.value c.loop-forms.p) c.if-b-eq0.false refl c.if-b-eq10.true in
    record { wrote = s.0; rest = s.1 }

pub loop-forms-smaller : goal.loop-forms-smaller
loop-forms-smaller c =
    omega (arith, ends-inside (joined c.args.self.now.forms) c.loop-forms.p c.loop-forms.invariant.ends, long c.args.self.now.are_forms)

pub loop-forms-preserved : goal.loop-forms-preserved
loop-forms-preserved c = sign-next c.loop-forms.invariant _ (read c.as_flattened-forms.ensures.value c.loop-forms.p) c.if-b-eq0.false refl c.if-b-eq10.false
