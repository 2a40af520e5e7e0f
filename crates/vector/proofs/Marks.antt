-- VM as the sum of its marks. Assumes nothing.
use Prim.Native.Nat.{ℕ, zero, suc, ◌+◌, ◌-◌, ◌/◌, ◌^◌, ◌<◌, ◌≤◌}
use mathlib.Core.Path.{◌≡◌, ◌∙◌, ap}
use mathlib.Core.Bool.{Bool, true, false}
use native.Mathlib.Omega.{arith}
use native.Mathlib.Numerals.{add-one}
use lib.Pow.{pow_pos, pow-add, shl-shr}
use Rattle.machine.specs.Word.{pick}
use Rattle.machine.specs.Act.{marks_of}

-- one element more
pub marks-turn : (f : ℕ → Bool) (n vm y : ℕ) → vm ≡ marks_of f n → y ≡ pick (f n) (2 ^ (63 - n)) 0 → vm + y ≡ marks_of f (n + 1)
unfolding marks_of
marks-turn f n vm y p q = rw add-one (rw (p, q))

-- marks of n elements leave the low 64 - n bits clear
marks-high : (f : ℕ → Bool) (n : ℕ) → n ≤ 64 → marks_of f n + 2 ^ (64 - n) ≤ 2 ^ 64
unfolding marks_of
marks-high f zero l = omega arith
marks-high f (suc n) l =
    let e : 64 - n ≡ suc (63 - n) = omega arith in
    let g : 64 - suc n ≡ 63 - n = omega arith in
    let h : marks_of f n + 2 ^ suc (63 - n) ≤ 2 ^ 64 = rw (← e) (marks-high f n (omega arith)) in
    rw g (go (f n) h)
  where
    go : (t : Bool) → marks_of f n + 2 ^ suc (63 - n) ≤ 2 ^ 64 → marks_of f n + pick t (2 ^ (63 - n)) 0 + 2 ^ (63 - n) ≤ 2 ^ 64
    go true h = omega arith
    go false h = omega arith

-- so that one more fits a word
pub marks-fit : (f : ℕ → Bool) (n vm y : ℕ) → n < 64 → vm ≡ marks_of f n → y ≡ pick (f n) (2 ^ (63 - n)) 0 → vm + y < 2 ^ 64
marks-fit f n vm y h p q = rw (marks-turn f n vm y p q) (omega (arith, marks-high f (n + 1) (omega arith), pow_pos (64 - (n + 1))))

-- the bit of element e
pub bit-of : (e : ℕ) → e < 64 → 2 ^ 63 / 2 ^ e ≡ 2 ^ (63 - e)
bit-of e h =
    let n : 63 ≡ 63 - e + e = omega arith in
    ap (λ (k : ℕ). 2 ^ k / 2 ^ e) n ∙ rw (pow-add 2 (63 - e) e) (shl-shr (2 ^ (63 - e)) e)
