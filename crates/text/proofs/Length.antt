-- How long the lines of changed words are. Assumes nothing.
use mathlib.Core.Path.{◌≡◌, refl, subst}
use mathlib.Core.Bool.{Bool, true, false}
use mathlib.Core.List.{List, [], ◌∷◌, ◌++◌}
use Prim.Native.Nat.{ℕ, zero, suc, ◌+◌, ◌*◌, ◌/◌, ◌^◌, ◌≤◌, ◌<◌}
use native.Mathlib.Nat.{div-lt_iff_lt-mul, pow-zero, pow-suc}
use native.Mathlib.Omega.{arith}
use lib.ListN.{length, get_or, length-append}
use lib.Dec.{ltb, eqb}
use borrow.Author.Tests.{ltb-false}
use Rattle.machine.specs.Word.{pick}
use Rattle.text.specs.Names.{equals}
use Rattle.text.specs.Digits.{places_of, width_of, shown}
use Rattle.text.specs.Report.{line_of, change_text, changed_words}
use Rattle.text.proofs.Writing.{digits-length}

-- a number below b ^ (k + 1) has at most k + 1 digits
module _ (b : ℕ) (big : 1 < b) where
  places-most : (most n k : ℕ) → n < b ^ suc k → places_of most b n ≤ suc k
  unfolding places_of
  places-most zero n k h = omega arith
  places-most (suc most) n k h = go k h (λ j. places-most most (n / b) j) (ltb n b) refl
    where
      go : (k : ℕ) → n < b ^ suc k → ((j : ℕ) → n / b < b ^ suc j → places_of most b (n / b) ≤ suc j) → (t : Bool) → ltb n b ≡ t
          → pick t 1 (places_of most b (n / b) + 1) ≤ suc k
      go k h more true e = omega arith
      go zero h more false e = let l : n < 1 * b = rw (pow-suc b 0, pow-zero b) at h in absurd (omega (arith, ltb-false n b e))
      go (suc k) h more false e =
          let some : 0 < b = omega arith in
          omega (arith, more k ((div-lt_iff_lt-mul some).1 (subst (λ (m : ℕ). n < m) (pow-suc b (suc k)) h)))

  pub shown-most : (least n k : ℕ) → n < b ^ suc k → least ≤ suc k → length (shown b least n) ≤ suc k
  unfolding shown width_of
  shown-most least n k h l = rw (digits-length b (width_of b least n) n) (go (ltb (places_of n b n) least))
    where
      go : (t : Bool) → pick t least (places_of n b n) ≤ suc k
      go true = l
      go false = places-most n n k h

-- `AAAA=HHHHHHHHHHHHHHHH` and its newline are 22 bytes
change-most : (a old new : ℕ) → a < 65536 → new < 2 ^ 64 → length (change_text a old new) ≤ 22
unfolding change_text
change-most a old new h l = go (eqb old new)
  where
    go : (t : Bool) → length (pick t [] (shown 16 4 a ++ line_of (equals ∷ []) (shown 16 16 new))) ≤ 22
    go true = omega arith
    go false =
        let address : length (shown 16 4 a) ≤ 4 = shown-most 16 (omega arith) 4 a 3 h (omega arith) in
        let word : length (shown 16 16 new) ≤ 16 = shown-most 16 (omega arith) 16 new 15 l (omega arith) in
        simp length-append (omega arith)

pub words-most : (before after : List ℕ) → ((i : ℕ) → get_or after i 0 < 2 ^ 64) → (k a : ℕ) → a + k ≤ 65536 → length (changed_words k a before after) ≤ 22 * k
unfolding changed_words
words-most before after narrow zero a h = omega arith
words-most before after narrow (suc k) a h =
    let here = change-most a (get_or before a 0) (get_or after a 0) (omega arith) (narrow a) in
    let rest = words-most before after narrow k (a + 1) (omega arith) in
    rw (length-append (change_text a (get_or before a 0) (get_or after a 0)) (changed_words k (a + 1) before after)) (omega (arith, here, rest))
