-- A text compared with a line written over a copy of it. Assumes nothing.
use Rattle.std.specs.Prelude.{Some, None}
use Rattle.std.specs.List.{starts_with}
use Rattle.assembly.specs.Reads.{length_if}
use mathlib.Core.Path.{◌≡◌, refl, sym, ap, ◌∙◌}
use mathlib.Core.Bool.{Bool, true, false, ◌&&◌}
use mathlib.Core.List.{List, [], ◌∷◌, ◌++◌}
use Prim.Native.Nat.{ℕ, zero, suc, ◌≤◌}
use native.Mathlib.Nat.{zero-add, le_of_suc-le-suc}
use native.Mathlib.Omega.{arith}
use lib.ListN.{length, take, drop}
use lib.Seq.{sets, sets-eq, length-take-le}
use lib.Dec.{eqb}
use borrow.Author.Tests.{eq-eqb, ne_eqb, eqb-true, eqb-false}
use Rattle.text.specs.Report.{Wrote}
use Rattle.spelling.specs.Assembling.{begins}

-- the library's comparison
eqb-swap : (a b : ℕ) → eqb a b ≡ eqb b a
eqb-swap a b = go (eqb a b) refl
  where
    go : (t : Bool) → eqb a b ≡ t → t ≡ eqb b a
    go true e = sym (eq-eqb b a (sym (eqb-true a b e)))
    go false e = sym (ne_eqb b a (λ f. eqb-false a b e (sym f)))

pub starts-begins : (s line : List ℕ) → starts_with eqb s line ≡ begins s line
unfolding begins
starts-begins s [] = refl
starts-begins [] (b ∷ line) = refl
starts-begins (c ∷ s) (b ∷ line) = rw (eqb-swap b c) (ap (λ (t : Bool). eqb c b && t) (starts-begins s line))

-- a list written over the first n bytes of a text changes nothing exactly if the text begins with it
begins-own : (s : List ℕ) (n : ℕ) → begins s (take n s) ≡ true
unfolding begins
begins-own [] zero = refl
begins-own [] (suc n) = refl
begins-own (c ∷ s) zero = refl
begins-own (c ∷ s) (suc n) = rw (eq-eqb c c refl) (begins-own s n)

over-own : (s l : List ℕ) (n : ℕ) → length l ≤ n → begins s (l ++ drop (length l) (take n s)) ≡ begins s l
unfolding begins
over-own s [] n h = begins-own s n
over-own [] (b ∷ l) n h = refl
over-own (c ∷ s) (b ∷ l) zero h = absurd (omega arith)
over-own (c ∷ s) (b ∷ l) (suc n) h = ap (λ (t : Bool). eqb c b && t) (over-own s l n (le_of_suc-le-suc h))

pub sets-front : (d xs : List ℕ) → length xs ≤ length d → sets d 0 xs ≡ xs ++ drop (length xs) d
sets-front d xs h = sets-eq xs d 0 (omega arith) ∙ ap (λ (n : ℕ). xs ++ drop n d) (zero-add (length xs))

module _ (s : List ℕ) (n : ℕ) {d m xs : List ℕ} {r : ℕ} (copy : d ≡ take n s) (w : Wrote d 0 xs m r) (long : n ≤ length s) (few : length xs ≤ n) where
  over-copy : begins s m ≡ begins s xs
  over-copy =
      let all = length-take-le n s long in
      let place : length xs ≤ length (take n s) = omega (arith, all) in
      ap (begins s) (w.bytes ∙ ap (λ (l : List ℕ). sets l 0 xs) copy ∙ sets-front (take n s) xs place) ∙ over-own s xs n few

  pub found_it : begins s m ≡ true → Some r ≡ length_if s xs
  found_it e = rw (sym over-copy ∙ e) (ap Some (w.place ∙ zero-add (length xs)))

  pub found_none : begins s m ≡ false → None ≡ length_if s xs
  found_none e = rw (sym over-copy ∙ e)
