-- How many of the 65,536 first parcels are held, and how many of them have a second parcel; only 001 depends on the mode. Assumes nothing.
use Prim.Native.Nat.{ℕ, zero, suc, ◌+◌, ◌*◌, ◌/◌}
use mathlib.Core.Path.{◌≡◌, refl, sym, ◌∙◌, ap}
use mathlib.Core.Bool.{Bool, true, false, ◌&&◌}
use mathlib.Core.List.{[]}
use native.Mathlib.Nat.{add-zero, add-suc, add_assoc}
use native.Mathlib.Omega.{arith}
use lib.ListN.{get_or}
use lib.Dec.{eqb, ltb}
use Rattle.machine.specs.Parcel.{g_of, h_of, i_of, j_of, k_of}
use Rattle.machine.specs.Codes.{Code, holds_none, holds_one, holds_two, code_of, code001, code002, nth, only, rows}
use Rattle.machine.specs.Act.{pass, set_xa}
use Rattle.machine.specs.Word.{pick, bit}

-- held; held with a second parcel
abbrev pub held : Code → Bool
held holds_none = false
held (holds_one n) = true
held (holds_two n) = true

abbrev pub second : Code → Bool
second holds_none = false
second (holds_one n) = false
second (holds_two n) = true

-- how many of 0, 1, .., n - 1 are so
unfoldable pub how_many : (ℕ → Bool) → ℕ → ℕ
how_many f zero = 0
how_many f (suc n) = how_many f n + bit (f n)

how-many-same : {f g : ℕ → Bool} (n : ℕ) → ((x : ℕ) → f x ≡ g x) → how_many f n ≡ how_many g n
unfolding how_many
how-many-same zero e = refl
how-many-same (suc n) e = rw (how-many-same n e, e n)

how-many-append : (f : ℕ → Bool) (m n : ℕ) → how_many f (m + n) ≡ how_many f m + how_many (λ x. f (m + x)) n
unfolding how_many
how-many-append f m zero = rw (add-zero m, add-zero (how_many f m))
how-many-append f m (suc n) = rw (add-suc m n, how-many-append f m n) (add_assoc (how_many f m) (how_many (λ x. f (m + x)) n) (bit (f (m + n))))

-- the entry of the table for g and h, the other digits being those of x
abbrev entry : Bool → ℕ → ℕ → ℕ → Code
entry user x g h = nth (get_or (rows user (i_of x) (j_of x) (k_of x)) g []) h

-- the two modes differ in 001 only
pub modes-agree : (x : ℕ) → (x / 512 ≡ 1 → ⊥) → code_of true x ≡ code_of false x
unfolding code_of
modes-agree x ne = go (g_of x) (h_of x) (λ e. ne (omega arith))
  where
    go : (g h : ℕ) → (g * 8 + h ≡ 1 → ⊥) → entry true x g h ≡ entry false x g h
    go zero zero n = refl
    go zero (suc zero) n = absurd (n refl)
    go zero (suc (suc h)) n = refl
    go (suc g) h n = refl

-- which has no second parcel
no_second : (user : Bool) (i j k : ℕ) → second (code001 user i j k) ≡ false
unfolding code001
no_second user i j k = go user (eqb i 3) (eqb k 0) (pick user (ltb i 6) (eqb i 0 && eqb j 0 && eqb k 0))
  where
    go : (user a b c : Bool) → second (pick a (only b (pick user (holds_one pass) (holds_one set_xa))) (only c (holds_one pass))) ≡ false
    go user false b false = refl
    go user false b true = refl
    go user true false c = refl
    go true true true c = refl
    go false true true c = refl

pub seconds-agree : (x : ℕ) → second (code_of true x) ≡ second (code_of false x)
unfolding code_of
seconds-agree x = go (g_of x) (h_of x)
  where
    go : (g h : ℕ) → second (entry true x g h) ≡ second (entry false x g h)
    go zero zero = refl
    go zero (suc zero) = no_second true (i_of x) (j_of x) (k_of x) ∙ sym (no_second false (i_of x) (j_of x) (k_of x))
    go zero (suc (suc h)) = refl
    go (suc g) h = refl

-- in user mode 47,703 are held
pub held-user : how_many (λ x. held (code_of true x)) 65536 ≡ 47703
unfolding how_many code_of code001 code002
held-user = refl

-- in monitor mode 47,384: 319 fewer, all of them 001
low-user : how_many (λ x. held (code_of true x)) 1024 ≡ 329
unfolding how_many code_of code001 code002
low-user = refl

low-monitor : how_many (λ x. held (code_of false x)) 1024 ≡ 10
unfolding how_many code_of code001 code002
low-monitor = refl

pub held-monitor : how_many (λ x. held (code_of false x)) 65536 ≡ 47384
held-monitor =
    omega (
      arith,
      held-user,
      low-user,
      low-monitor,
      high,
      how-many-append (λ x. held (code_of true x)) 1024 64512,
      how-many-append (λ x. held (code_of false x)) 1024 64512,
    )
  where
    high : how_many (λ x. held (code_of true (1024 + x))) 64512 ≡ how_many (λ x. held (code_of false (1024 + x))) 64512
    high = how-many-same 64512 (λ x. ap held (modes-agree (1024 + x) (λ e. omega arith)))

-- in either mode 23,040 have a second parcel
second-user : how_many (λ x. second (code_of true x)) 65536 ≡ 23040
unfolding how_many code_of code001 code002
second-user = refl

pub with_second : (user : Bool) → how_many (λ x. second (code_of user x)) 65536 ≡ 23040
with_second true = second-user
with_second false = sym (how-many-same 65536 seconds-agree) ∙ second-user
