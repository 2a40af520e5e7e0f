-- Questions about a line of 32 bytes, answered. Assumes nothing.
use mathlib.Core.Path.{◌≡◌, refl}
use mathlib.Core.List.{List}
use Prim.Native.Nat.{ℕ, ◌<◌}
use native.Mathlib.Omega.{arith}
use lib.ListN.{length, get_or}
use borrow.Author.Tests.{eq-eqb, ne_eqb}
use Rattle.spelling.specs.Candidate.{Tree, row, ask, told, bytes_of}
use Rattle.guess.proofs.Laws.{default_free, octal, below-octal, above-octal}

-- past the end of a text are newlines, but here is none
pub seen : (s : List ℕ) (p : ℕ) → length s ≡ 32 → p < 32 → get_or s p 10 ≡ get_or s p 0
seen s p l h = default_free s p 10 0 (omega arith)

-- a place of the line asked for
module _ (s : List ℕ) (p k : ℕ) (then else : Tree) (l : length s ≡ 32) (h : p < 32) where
  pub told_here : get_or s p 0 ≡ k → told (ask p k then else) (bytes_of s) ≡ told then (bytes_of s)
  unfolding told
  told_here e = rw (default_free s p 10 0 (omega arith), eq-eqb _ _ e)

  pub told_there : (get_or s p 0 ≡ k → ⊥) → told (ask p k then else) (bytes_of s) ≡ told else (bytes_of s)
  unfolding told
  told_there n = rw (default_free s p 10 0 (omega arith), ne_eqb _ _ n)

pub told_row : (s : List ℕ) (r : ℕ) → told (row r) (bytes_of s) ≡ r
unfolding told
told_row s r = refl

pub ruleset told_rules = (told_here, told_there, told_row)

pub ruleset seen_rules = (seen, eq-eqb, ne_eqb, octal, below-octal, above-octal)
