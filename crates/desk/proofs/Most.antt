-- A text of CAL stands for at most as many parcels as it has bytes. Assumes nothing.
use mathlib.Core.Path.{◌≡◌, refl, ap, ◌∙◌, subst}
use mathlib.Core.Bool.{Bool, true, false}
use mathlib.Core.List.{List, [], ◌∷◌, ◌++◌}
use Prim.Native.Nat.{ℕ, zero, suc, ◌+◌, ◌-◌, ◌≤◌}
use native.Mathlib.Omega.{arith}
use lib.ListN.{length, drop, length-append, length-drop}
use lib.Dec.{eqb, ltb}
use borrow.Author.Tests.{ltb-false}
use Rattle.machine.specs.Word.{pick}
use Rattle.text.specs.Digits.{places_of, width_of, shown}
use Rattle.text.proofs.Writing.{digits-length}
use Rattle.spelling.specs.declared.Operand.{Operand}
use Rattle.spelling.specs.declared.Operand.TheVariants.{Register, Constant, Indexed}
use Rattle.spelling.specs.Words.{operand_of, operand_text, word_text, text_of}
use Rattle.spelling.specs.Spelling.{words_of, second}
use Rattle.spelling.specs.Listing.{data_line, line_with, line_of}
use Rattle.spelling.specs.Candidate.{Guess, guess_of}
use Rattle.spelling.proofs.Lines.{data-length}
use Rattle.spelling.proofs.Texts.{begins-with}
use Rattle.spelling.specs.Assembling.{begins, Line, line_good, line_bad, line_is, if_last, line_by, read_line, Reading, all_read}
use Rattle.spelling.specs.Assembling.{wrong, before, on_line, read_from, read_of}

-- a number, an operand and a word have a byte each, and so a line has two

number-some : (n : ℕ) → 1 ≤ length (shown 8 1 n)
unfolding shown width_of
number-some n = rw (digits-length 8 (width_of 8 1 n) n) (go (ltb (places_of n 8 n) 1) refl)
  where
    go : (t : Bool) → ltb (places_of n 8 n) 1 ≡ t → 1 ≤ pick t 1 (places_of n 8 n)
    go true e = omega arith
    go false e = ltb-false _ _ e

operand-some : (o : Operand) → 1 ≤ length (operand_text o)
unfolding operand_text
operand-some (Register letter number wide) = omega arith
operand-some (Constant n) = number-some n
operand-some (Indexed offset register) =
    rw (length-append (shown 8 1 offset) (44 ∷ 65 ∷ shown 8 1 register)) (omega arith)

word_some : (w x m : ℕ) → 1 ≤ length (word_text w x m)
word_some w x m = go (ltb w 128)
  where
    go : (t : Bool) → 1 ≤ length (pick t (w ∷ []) (operand_text (operand_of (w - 128) x m)))
    go true = omega arith
    go false = operand-some (operand_of (w - 128) x m)

line-some : (x m : ℕ) → 2 ≤ length (line_of x m)
unfolding line_of text_of
line-some x m = go (words_of x)
  where
    go : (ws : List ℕ) → 2 ≤ length (line_with ws x m)
    go [] = omega (arith, data-length x)
    go (w ∷ ws) =
        rw (length-append (word_text w x m ++ text_of ws x m) (10 ∷ []), length-append (word_text w x m) (text_of ws x m)) (omega (arith, word_some w x m))

-- what a line stands for and what follows it are no more than the text
abbrev Less : List ℕ → Line → Type 0
Less s (line_good ps rest) = length ps + length rest ≤ length s
Less s line_bad = Unit

begins-most : (s line : List ℕ) → begins s line ≡ true → length line ≤ length s
begins-most s line e = let f = ap length (begins-with s line e) ∙ length-append line (drop (length line) s) in omega arith

is-less : (s line ps : List ℕ) → length ps ≤ length line → Less s (line_is s line ps)
unfolding line_is
is-less s line ps h = go (begins s line) refl
  where
    go : (t : Bool) → begins s line ≡ t → Less s (pick t (line_good ps (drop (length line) s)) line_bad)
    go true e = rw (length-drop (length line) s) (omega (arith, begins-most s line e))
    go false e = tt

last_less : (s : List ℕ) (l : Line) → Less s l → Less s (if_last l)
last_less s (line_good ps []) h = h
last_less s (line_good ps (b ∷ rest)) h = tt
last_less s line_bad h = tt

line-less : (s : List ℕ) → Less s (read_line s)
unfolding read_line line_by
line-less s = go (guess_of s) (second (guess_of s).first) (guess_of s).two
  where
    go : (g : Guess) (second two : Bool)
        → Less s (pick second
        (pick two (line_is s (line_of g.first g.second) (g.first ∷ g.second ∷ [])) (if_last (line_is s (data_line g.first) (g.first ∷ []))))
        (line_is s (line_of g.first 0) (g.first ∷ [])))
    go g true true = is-less s (line_of g.first g.second) (g.first ∷ g.second ∷ []) (line-some g.first g.second)
    go g true false =
        last_less s (line_is s (data_line g.first) (g.first ∷ [])) (is-less s (data_line g.first) (g.first ∷ []) (omega (arith, data-length g.first)))
    go g false two = is-less s (line_of g.first 0) (g.first ∷ []) (omega (arith, line-some g.first 0))

-- and so with all lines
abbrev Most : List ℕ → Reading → Type 0
Most s (all_read ps) = length ps ≤ length s
Most s (wrong n) = Unit

before-most : (s ps rest : List ℕ) (r : Reading) → length ps + length rest ≤ length s → Most rest r → Most s (before ps r)
before-most s ps rest (all_read qs) h k = rw (length-append ps qs) (omega arith)
before-most s ps rest (wrong n) h k = tt

from-most : (most : ℕ) (s : List ℕ) → Most s (read_from most s)
unfolding read_from
from-most zero s = go (eqb (length s) 0)
  where
    go : (t : Bool) → Most s (pick t (all_read []) (wrong 0))
    go true = omega arith
    go false = tt
from-most (suc most) s = go (eqb (length s) 0) (λ rest. from-most most rest)
  where
    on : (l : Line) → Less s l → ((rest : List ℕ) → Most rest (read_from most rest)) → Most s (on_line l (λ rest. read_from most rest))
    on (line_good ps rest) h more = before-most s ps rest (read_from most rest) h (more rest)
    on line_bad h more = tt

    go : (t : Bool) → ((rest : List ℕ) → Most rest (read_from most rest)) → Most s (pick t (all_read []) (on_line (read_line s) (λ rest. read_from most rest)))
    go true more = omega arith
    go false more = on (read_line s) (line-less s) more

pub read-most : (s ps : List ℕ) → read_of s ≡ all_read ps → length ps ≤ length s
unfolding read_of
read-most s ps e = subst (Most s) e (from-most (length s) s)
