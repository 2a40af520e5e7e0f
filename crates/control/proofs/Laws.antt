-- Parcels with no digits; codes that name no instruction; branches by their tests. Assumes nothing.
use Prim.Native.Nat.{ℕ, zero, suc, ◌/◌, ◌%◌, ◌^◌, ◌<◌}
use mathlib.Core.Path.{◌≡◌, refl, ◌∙◌}
use mathlib.Core.Bool.{Bool, true, false, ◌&&◌, not}
use mathlib.Core.List.{List, [], ◌∷◌}
use native.Mathlib.Omega.{arith}
use lib.Arith.{mod-mul}
use lib.ListN.{get_or}
use lib.Dec.{eqb, ltb}
use borrow.Author.Tests.{eqb-true, eqb-false, eq-eqb, ne_eqb}
use Rattle.machine.specs.Word.{pick}
use Rattle.machine.specs.Parcel.{i_of, j_of, k_of, ijkm_of}
use Rattle.machine.specs.State.{Registers}
use Rattle.machine.specs.Act.{Instr, pass, set_ior, clear_ior, clear_bdm, set_bdm, jump_az, jump_an, jump_ap}
use Rattle.machine.specs.Act.{jump_am, jump_sz, jump_sn, jump_sp, jump_sm, constant_ah, branch, act}
use Rattle.machine.specs.Codes.{Code, holds_none, holds_one, holds_two, nth, rows, branch_or, code_of, code002}
use Rattle.access.proofs.Finite.{every, every-at}
use Rattle.control.specs.declared.Test.{Test}
use Rattle.control.specs.declared.Test.TheVariants.{ZeroA, NonZeroA, PlusA, MinusA, ZeroS, NonZeroS, PlusS, MinusS}
use Rattle.control.specs.Control.{test_code, test_of, nothing_at}

-- the digits i, j and k are 0 where the nine bits are
pub no-digits : (x : ℕ) → eqb (x % 512) 0 ≡ (eqb (i_of x) 0 && eqb (j_of x) 0 && eqb (k_of x) 0)
no-digits x = go (eqb (i_of x) 0) (eqb (j_of x) 0) (eqb (k_of x) 0) refl refl refl
  where
    go : (s t u : Bool) → eqb (i_of x) 0 ≡ s → eqb (j_of x) 0 ≡ t → eqb (k_of x) 0 ≡ u → eqb (x % 512) 0 ≡ (s && t && u)
    go true true true d e f =
        let i : x / 64 % 8 ≡ 0 = eqb-true (i_of x) 0 d in
        let j : x / 8 % 8 ≡ 0 = eqb-true (j_of x) 0 e in
        let k : x % 8 ≡ 0 = eqb-true (k_of x) 0 f in
        let q : x % 64 ≡ 0 = omega arith in
        let z : x % 512 ≡ 0 = mod-mul x {m = 8} {c = 64} (omega arith) (omega arith) ∙ omega arith in
        eq-eqb (x % 512) 0 z
    go false t u d e f = ne_eqb (x % 512) 0 (λ z. eqb-false (i_of x) 0 d (omega arith))
    go true false u d e f = ne_eqb (x % 512) 0 (λ z. eqb-false (j_of x) 0 e (omega arith))
    go true true false d e f = ne_eqb (x % 512) 0 (λ z. eqb-false (k_of x) 0 f (omega arith))

-- 002i00 with i from 1 on: the mode that i names, or none
abbrev modes : List Code
modes = holds_none ∷ holds_none ∷ holds_none ∷ holds_one set_ior ∷ holds_one clear_ior ∷ holds_one clear_bdm ∷ holds_one set_bdm ∷ holds_one pass ∷ []

pub mode : (b : Bool) (x i k : ℕ) → (x / 512 ≡ 0o002) × (j_of x ≡ 0) × (k_of x ≡ 0) × (0 < i_of x) → i ≡ i_of x
    → i ≡ k → code_of b x ≡ nth modes k
unfolding code_of code002
mode b x i k h e m = rw (h.0, h.1, h.2, ne_eqb (i_of x) 0 (λ z. omega (arith, h.3)), ← e, m)

pub no_mode : (i : ℕ) → (i ≡ 3 → ⊥) → (i ≡ 4 → ⊥) → (i ≡ 5 → ⊥) → (i ≡ 6 → ⊥) → (i ≡ 7 → ⊥)
    → nth modes i ≡ holds_none
no_mode zero a b c d e = refl
no_mode (suc zero) a b c d e = refl
no_mode (suc (suc zero)) a b c d e = refl
no_mode (suc (suc (suc zero))) a b c d e = absurd (a refl)
no_mode (suc (suc (suc (suc zero)))) a b c d e = absurd (b refl)
no_mode (suc (suc (suc (suc (suc zero))))) a b c d e = absurd (c refl)
no_mode (suc (suc (suc (suc (suc (suc zero)))))) a b c d e = absurd (d refl)
no_mode (suc (suc (suc (suc (suc (suc (suc zero))))))) a b c d e = absurd (e refl)
no_mode (suc (suc (suc (suc (suc (suc (suc (suc i)))))))) a b c d e = refl

is_none : Code → Bool
is_none holds_none = true
is_none (holds_one n) = false
is_none (holds_two n) = false

none_is : (c : Code) → is_none c ≡ true → c ≡ holds_none
unfolding is_none
none_is holds_none e = refl
none_is (holds_one n) e = cc
none_is (holds_two n) e = cc

-- the code of three digits c, with the digits i, j, k
entry : Bool → ℕ → ℕ → ℕ → ℕ → Code
entry u i j k c = nth (get_or (rows u i j k) (c / 8) []) (c % 8)

-- whatever the digits, none is held of the codes that name no instruction
nothing-held : (u : Bool) (i j k : ℕ) → every (λ c. pick (nothing_at c && not (eqb c 0)) (is_none (entry u i j k c)) true) 128 ≡ true
unfolding every is_none entry
nothing-held u i j k = refl

chosen : (a b t : Bool) → a ≡ true → b ≡ false → pick (a && not b) t true ≡ true → t ≡ true
chosen a b t d e h = rw (d, e) at h

pub nothing : (u : Bool) (x : ℕ) → x < 2 ^ 16 → nothing_at (x / 512) ≡ true → (x ≡ 0 → ⊥) → code_of u x ≡ holds_none
unfolding code_of entry
nothing u x l n z = go (eqb (x / 512) 0) refl
  where
    go : (t : Bool) → eqb (x / 512) 0 ≡ t → entry u (i_of x) (j_of x) (k_of x) (x / 512) ≡ holds_none
    go true e =
        let c : x / 512 ≡ 0 = eqb-true (x / 512) 0 e in
        let d : eqb (x % 512) 0 ≡ false = ne_eqb (x % 512) 0 (λ y. z (omega arith)) in
        rw (c, ← no-digits x, d)
    go false e =
        let h = every-at (λ c. pick (nothing_at c && not (eqb c 0)) (is_none (entry u (i_of x) (j_of x) (k_of x) c)) true) 128
        (nothing-held u (i_of x) (j_of x) (k_of x)) (x / 512) (omega arith) in
        none_is (entry u (i_of x) (j_of x) (k_of x) (x / 512)) (chosen _ _ _ n e h)

-- the branch that makes a test
abbrev pub jump_of : Test → Instr
jump_of ZeroA = jump_az
jump_of NonZeroA = jump_an
jump_of PlusA = jump_ap
jump_of MinusA = jump_am
jump_of ZeroS = jump_sz
jump_of NonZeroS = jump_sn
jump_of PlusS = jump_sp
jump_of MinusS = jump_sm

pub test-code : (t : Test) (u : Bool) (x : ℕ) → x / 512 ≡ test_code t → code_of u x ≡ branch_or (i_of x) (jump_of t)
unfolding code_of
test-code ZeroA u x e = rw e
test-code NonZeroA u x e = rw e
test-code PlusA u x e = rw e
test-code MinusA u x e = rw e
test-code ZeroS u x e = rw e
test-code NonZeroS u x e = rw e
test-code PlusS u x e = rw e
test-code MinusS u x e = rw e

-- whether it is a branch or a constant, it has a second parcel
pub test-two : (t : Test) (u : Bool) (x : ℕ) → x / 512 ≡ test_code t → code_of u x ≡ holds_two (pick (ltb (i_of x) 4) (jump_of t) constant_ah)
test-two t u x e = test-code t u x e ∙ go (ltb (i_of x) 4)
  where
    go : (b : Bool) → pick b (holds_two (jump_of t)) (holds_two constant_ah) ≡ holds_two (pick b (jump_of t) constant_ah)
    go true = refl
    go false = refl

pub test-act : (t : Test) (r : Registers) (status x m past : ℕ) → act r status x m past (jump_of t) ≡ branch (test_of t r) (ijkm_of x m)
unfolding act
test-act ZeroA r status x m past = refl
test-act NonZeroA r status x m past = refl
test-act PlusA r status x m past = refl
test-act MinusA r status x m past = refl
test-act ZeroS r status x m past = refl
test-act NonZeroS r status x m past = refl
test-act PlusS r status x m past = refl
test-act MinusS r status x m past = refl
