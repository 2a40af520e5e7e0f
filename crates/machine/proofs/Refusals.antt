-- The numbers of refusals: none is 0, which is that of no refusal, and each is of one alone. So a result is known by what it tells. Assumes
-- nothing.
use Rattle.std.proofs.Common.{◌≡◌, refl, ℕ, zero, suc, true, false, eqb, Option, Some, None, Result, Ok, Err, ap, sym, ◌∙◌, ne_eqb}
use Rattle.std.specs.Prelude.{⊤}
use Rattle.machine.specs.declared.Refusal.{Refusal}
use Rattle.machine.specs.declared.Refusal.TheVariants.{MemorySize, PackageNumber, Budget, ProcessorNumber, ScheduleLength, ScheduleByte, RegisterWidth}
use Rattle.machine.specs.Call.{refusal_number, number_of, tells}

-- the refusal that a number tells
abbrev refusal_of : ℕ → Option Refusal
refusal_of (suc zero) = Some MemorySize
refusal_of (suc (suc zero)) = Some PackageNumber
refusal_of (suc (suc (suc zero))) = Some Budget
refusal_of (suc (suc (suc (suc zero)))) = Some ProcessorNumber
refusal_of (suc (suc (suc (suc (suc zero))))) = Some ScheduleLength
refusal_of (suc (suc (suc (suc (suc (suc zero)))))) = Some ScheduleByte
refusal_of (suc (suc (suc (suc (suc (suc (suc zero))))))) = Some RegisterWidth
refusal_of n = None

told-back : (why : Refusal) → refusal_of (refusal_number why) ≡ Some why
told-back MemorySize = refl
told-back PackageNumber = refl
told-back Budget = refl
told-back ProcessorNumber = refl
told-back ScheduleLength = refl
told-back ScheduleByte = refl
told-back RegisterWidth = refl

pub refusal-once : (a b : Refusal) → refusal_number a ≡ refusal_number b → a ≡ b
refusal-once a b e =
    let s : Some a ≡ Some b = sym (told-back a) ∙ ap refusal_of e ∙ told-back b in
    cc

pub some-number : (why : Refusal) → eqb (refusal_number why) 0 ≡ false
some-number why = ne_eqb (refusal_number why) 0 (λ z. let s : Some why ≡ None = sym (told-back why) ∙ ap refusal_of z in cc)

none-of : (why : Refusal) → 0 ≡ refusal_number why → ⊥
none-of why e =
    let t : eqb (refusal_number why) 0 ≡ true = ap (λ (n : ℕ). eqb n 0) (sym e) in
    let f : eqb (refusal_number why) 0 ≡ false = some-number why in
    cc

-- what a call answers that only may be refused is known by its number
pub number-once : (o o' : Result ⊤ Refusal) → number_of o ≡ number_of o' → o ≡ o'
number-once (Ok u) (Ok v) e = refl
number-once (Ok u) (Err why) e = absurd (none-of why e)
number-once (Err why) (Ok u) e = absurd (none-of why (sym e))
number-once (Err a) (Err b) e = ap (λ (why : Refusal). Err why) (refusal-once a b e)

-- and what any call answers by what is told of it: f where it was done, g where it was refused, both with what is kept beside the answer
module _ {A X K R : Type 0} (answer : R → Result X ℕ) (kept : R → K) (f : K → A → R) (g : K → ℕ → R) (said : A → X)
    (f-answers : (k : K) (a : A) → answer (f k a) ≡ Ok (said a)) (g-answers : (k : K) (n : ℕ) → answer (g k n) ≡ Err n)
    (f-keeps : (k : K) (a : A) → kept (f k a) ≡ k) (g-keeps : (k : K) (n : ℕ) → kept (g k n) ≡ k)
    (f-once : (k k' : K) (a b : A) → f k a ≡ f k' b → a ≡ b) where
  apart : (k k' : K) (a : A) (n : ℕ) → f k a ≡ g k' n → ⊥
  apart k k' a n e = let z : Ok (said a) ≡ Err n = sym (f-answers k a) ∙ ap answer e ∙ g-answers k' n in cc

  g-once : (k k' : K) (m n : ℕ) → g k m ≡ g k' n → m ≡ n
  g-once k k' m n e = let z : ◌≡◌ {A = Result X ℕ} (Err m) (Err n) = sym (g-answers k m) ∙ ap answer e ∙ g-answers k' n in cc

  pub tells-once : (k k' : K) (o o' : Result A Refusal) → tells o (f k) (g k) ≡ tells o' (f k') (g k') → (o ≡ o') × (k ≡ k')
  tells-once k k' (Ok a) (Ok b) e = (ap (λ (x : A). Ok x) (f-once k k' a b e), sym (f-keeps k a) ∙ ap kept e ∙ f-keeps k' b)
  tells-once k k' (Ok a) (Err w) e = absurd (apart k k' a (refusal_number w) e)
  tells-once k k' (Err w) (Ok b) e = absurd (apart k' k b (refusal_number w) (sym e))
  tells-once k k' (Err v) (Err w) e = (
    ap (λ (why : Refusal). Err why) (refusal-once v w (g-once k k' _ _ e)),
    sym (g-keeps k (refusal_number v)) ∙ ap kept e ∙ g-keeps k' (refusal_number w),
  )
