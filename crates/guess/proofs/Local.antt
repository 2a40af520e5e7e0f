-- A guess looks at no more than the first 32 bytes. Assumes nothing.
use mathlib.Core.Path.{◌≡◌, refl}
use mathlib.Core.Bool.{Bool, true, false, ◌&&◌}
use mathlib.Core.List.{List}
use Prim.Native.Nat.{ℕ, zero, suc, ◌+◌, ◌-◌, ◌*◌, ◌%◌, ◌^◌, ◌≤◌, ◌<◌}
use native.Mathlib.Omega.{arith}
use lib.ListN.{get_or}
use lib.Dec.{ltb}
use borrow.Author.Tests.{ltb-true}
use Rattle.machine.specs.Word.{pick}
use Rattle.spelling.specs.Candidate.{Tree, row, ask, told, line_sign, Numeral, is_octal, number_from, number_at, digit_row, row_seen, digit_at, with_number, guess_with}

-- a tree asks for no place past them
inside : Tree → Bool
inside (row r) = true
inside (ask p k then else) = ltb p 32 && (inside then && inside else)

both-true : (s t : Bool) → s && t ≡ true → (s ≡ true) × (t ≡ true)
both-true true t h = (refl, h)
both-true false t h = cc

number-end : (b : ℕ → ℕ) (n p v : ℕ) → (number_from n b p v).end ≤ p + n
unfolding number_from
number-end b zero p v = omega arith
number-end b (suc n) p v = go (is_octal (b p)) (number-end b n (p + 1) next)
  where
    next : ℕ
    next = (v * 8 + b p % 8) % 2 ^ 32

    go : (t : Bool) → (number_from n b (p + 1) next).end ≤ p + 1 + n → (pick t (number_from n b (p + 1) next) (record { value = v; end = p })).end ≤ p + suc n
    go true more = omega (arith, more)
    go false more = omega arith

pub number_at-end : (b : ℕ → ℕ) (p : ℕ) → p ≤ 16 → (number_at b p).end ≤ 16
unfolding number_at
number_at-end b p h = let end = number-end b (16 - p) p 0 in omega (arith, end)

module _ (b c : ℕ → ℕ) (same : (p : ℕ) → p < 32 → b p ≡ c p) where
  told-same : (t : Tree) → inside t ≡ true → told t b ≡ told t c
  unfolding told inside
  told-same (row r) h = refl
  told-same (ask p k then else) h =
      let here = both-true (ltb p 32) (inside then && inside else) h in
      let there = both-true (inside then) (inside else) here.1 in
      rw (same p (ltb-true p 32 here.0), told-same then there.0, told-same else there.1)

  number_from-same : (n p v : ℕ) → p + n ≤ 32 → number_from n b p v ≡ number_from n c p v
  unfolding number_from
  number_from-same zero p v h = refl
  number_from-same (suc n) p v h = rw (same p (omega arith), number_from-same n (p + 1) ((v * 8 + c p % 8) % 2 ^ 32) (omega arith))

  number_at-same : (p : ℕ) → p ≤ 16 → number_at b p ≡ number_at c p
  unfolding number_at
  number_at-same p h = number_from-same (16 - p) p 0 (omega arith)

  digit_row-same : digit_row b ≡ digit_row c
  unfolding digit_row
  digit_row-same =
      let end = number_at-end c 0 (omega arith) in
      rw (
        same 3 (omega arith),
        same 1 (omega arith),
        same 2 (omega arith),
        number_at-same 0 (omega arith),
        same ((number_at c 0).end + 4) (omega (arith, end)),
      )

  pub row_seen-same : row_seen b ≡ row_seen c
  unfolding row_seen inside
  row_seen-same = rw (same 0 (omega arith), digit_row-same, told-same line_sign refl)

  digit_at-same : (p : ℕ) → p < 32 → digit_at b p ≡ digit_at c p
  digit_at-same p h = rw (same p h)

  with_number-same : (kind x : ℕ) (n : Numeral) → n.end ≤ 16 → with_number b kind x n ≡ with_number c kind x n
  unfolding with_number
  with_number-same kind x n h = rw (same (n.end + 2) (omega arith), same (n.end + 5) (omega arith))

  pub guess_with-same : (plan : List ℕ) → ((n : ℕ) → n < 7 → get_or plan (suc n) 0 < 16) → guess_with b plan ≡ guess_with c plan
  unfolding guess_with
  guess_with-same plan small =
      let at : ℕ → ℕ = λ n. get_or plan n 0 in
      let end = number_at-end c (at 5) (omega (arith, small 4 (omega arith))) in
      let x = at 0 + digit_at c (at 1) * 512 + digit_at c (at 2) * 64 + digit_at c (at 3) * 8 + digit_at c (at 4) in
      rw (
        digit_at-same (at 1) (omega (arith, small 0 (omega arith))),
        digit_at-same (at 2) (omega (arith, small 1 (omega arith))),
        digit_at-same (at 3) (omega (arith, small 2 (omega arith))),
        digit_at-same (at 4) (omega (arith, small 3 (omega arith))),
        number_at-same (at 5) (omega (arith, small 4 (omega arith))),
        with_number-same (at 6) x (number_at c (at 5)) end,
      )
