-- Whole listings and whole texts, one line after the other. Assumes nothing.
use Prim.Native.Nat.{ℕ, zero, suc, ◌+◌, ◌*◌, ◌-◌, ◌/◌, ◌%◌, ◌≤◌, ◌<◌}
use mathlib.Core.Path.{◌≡◌, refl, sym, ap}
use mathlib.Core.Bool.{Bool, true, false, ◌&&◌, not}
use mathlib.Core.List.{List, [], ◌∷◌, ◌++◌, append-nil, append_assoc}
use native.Mathlib.Nat.{zero-add}
use native.Mathlib.Omega.{arith}
use lib.ListN.{length, get_or, drop, length-append}
use lib.Dec.{eqb, ltb}
use borrow.Author.Tests.{eqb-true, eqb-false, ne_eqb, not-true}
use Rattle.machine.specs.Word.{pick}
use Rattle.machine.specs.Codes.{code_of, code001, code002}
use Rattle.text.specs.Digits.{digits, shown, width_of, glyph_of}
use Rattle.spelling.specs.Words.{signs, field_of, operand_of, operand_text, word_text, text_of}
use Rattle.spelling.specs.Spelling.{passing, spelling, words_of, second}
use Rattle.spelling.specs.Listing.{data_line, line_of, list_of, first_line, parcels_in}
use Rattle.spelling.specs.Rows.{row_words, row_of}
use Rattle.spelling.specs.Assembling.{begins, line_good, line_bad, line_length, Reading, all_read, wrong, before, read_line, read_from}
use Rattle.spelling.specs.declared.Operand.TheVariants.{Register, Constant, Indexed}
use Rattle.spelling.proofs.Entries.{both_hold, every, every-at}
use Rattle.spelling.proofs.Table.{row_small}
use Rattle.spelling.proofs.Lines.{data-length, line-most, line-of-none, line-of-some, spelled-row}

-- listings --

-- the first line, and then the listing of the other parcels
pub list-next : (ps : List ℕ) → 0 < length ps → list_of ps ≡ first_line ps ++ list_of (drop (parcels_in ps) ps)
unfolding list_of first_line parcels_in
list-next [] h = absurd (omega arith)
list-next (x ∷ []) h = sym (append-nil _)
list-next (x ∷ m ∷ ps) h = go (second x)
  where
    go : (b : Bool)
        → pick b (line_of x m ++ list_of ps) (line_of x 0 ++ list_of (m ∷ ps)) ≡ pick b (line_of x m) (line_of x 0) ++ list_of (drop (pick b 2 1) (x ∷ m ∷ ps))
    go true = refl
    go false = refl

-- a listing has at most 16 bytes for each parcel
abbrev pub Narrow : List ℕ → Type 0
Narrow ps = (i : ℕ) → get_or ps i 0 < 65536

pub list-most : (ps : List ℕ) → Narrow ps → length (list_of ps) ≤ 16 * length ps
unfolding list_of
list-most [] n = omega arith
list-most (x ∷ []) n = go (second x)
  where
    go : (b : Bool) → length (pick b (data_line x) (line_of x 0)) ≤ 16 * 1
    go true = omega (arith, data-length x)
    go false = (line-most x 0 (n 0) (omega arith)).1
list-most (x ∷ m ∷ ps) n = go (second x) (list-most ps (λ i. n (suc (suc i)))) (list-most (m ∷ ps) (λ i. n (suc i)))
  where
    go : (b : Bool) → length (list_of ps) ≤ 16 * length ps → length (list_of (m ∷ ps)) ≤ 16 * length (m ∷ ps)
        → length (pick b (line_of x m ++ list_of ps) (line_of x 0 ++ list_of (m ∷ ps))) ≤ 16 * length (x ∷ m ∷ ps)
    go true rest more = rw (length-append (line_of x m) (list_of ps)) (omega (arith, rest, (line-most x m (n 0) (n 1)).1))
    go false rest more = rw (length-append (line_of x 0) (list_of (m ∷ ps))) (omega (arith, more, (line-most x 0 (n 0) (omega arith)).1))

-- lines --

-- a text that begins with a line is that line and the rest
pub begins-with : (s line : List ℕ) → begins s line ≡ true → s ≡ line ++ drop (length line) s
unfolding begins
begins-with s [] e = refl
begins-with [] (b ∷ line) e = let z : ◌≡◌ {A = ℕ} 0 1 = cc in absurd (omega arith)
begins-with (c ∷ s) (b ∷ line) e =
    let t = both_hold (eqb c b) (begins s line) e in
    let here = eqb-true c b t.0 in
    let rest = begins-with s line t.1 in
    rw here (ap (λ (l : List ℕ). b ∷ l) rest)

pub begins-short : (s line : List ℕ) → length s < length line → begins s line ≡ false
unfolding begins
begins-short s [] h = absurd (omega arith)
begins-short [] (b ∷ line) h = refl
begins-short (c ∷ s) (b ∷ line) h = go (eqb c b) (begins-short s line (omega arith))
  where
    go : (t : Bool) → begins s line ≡ false → t && begins s line ≡ false
    go true e = e
    go false e = refl

-- a text read through --

-- what is left is read, where ps stand for n lines before it
abbrev pub ahead : List ℕ → ℕ → Reading → Reading
ahead ps n (all_read qs) = all_read (ps ++ qs)
ahead ps n (wrong k) = wrong (n + k)

pub ahead_none : (r : Reading) → ahead [] 0 r ≡ r
ahead_none (all_read qs) = refl
ahead_none (wrong k) = ap wrong (zero-add k)

pub ahead_more : (ps qs : List ℕ) (n : ℕ) (r : Reading) → ahead ps n (before qs r) ≡ ahead (ps ++ qs) (n + 1) r
ahead_more ps qs n (all_read rs) = ap all_read (sym (append_assoc ps qs rs))
ahead_more ps qs n (wrong k) = ap wrong (omega arith)

module _ (s : List ℕ) (most : ℕ) where
  pub read_none : length s ≡ 0 → read_from most s ≡ all_read []
  unfolding read_from
  read_none e = go most
    where
      go : (n : ℕ) → read_from n s ≡ all_read []
      go zero = rw e
      go (suc n) = rw e

  module _ (some : 0 < length s) (enough : length s ≤ most) where
    pub read-bad : read_line s ≡ line_bad → read_from most s ≡ wrong 0
    unfolding read_from
    read-bad e = go most enough
      where
        go : (n : ℕ) → length s ≤ n → read_from n s ≡ wrong 0
        go zero h = absurd (omega arith)
        go (suc n) h = let ne = ne_eqb (length s) 0 (λ z. omega (arith, z)) in rw (ne, e)

    pub read-good : (ps rest : List ℕ) → read_line s ≡ line_good ps rest → read_from most s ≡ before ps (read_from (most - 1) rest)
    unfolding read_from
    read-good ps rest e = go most enough
      where
        go : (n : ℕ) → length s ≤ n → read_from n s ≡ before ps (read_from (n - 1) rest)
        go zero h = absurd (omega arith)
        go (suc n) h =
            let ne = ne_eqb (length s) 0 (λ z. omega (arith, z)) in
            let one : suc n - 1 ≡ n = omega arith in
            rw (ne, e, one)

-- newlines --

-- no byte of a text is a newline
Quiet : List ℕ → Type 0
Quiet [] = Unit
Quiet (b ∷ s) = (b ≡ 10 → ⊥) × Quiet s

quiet-append : (s t : List ℕ) → Quiet s → Quiet t → Quiet (s ++ t)
unfolding Quiet
quiet-append [] t p q = q
quiet-append (b ∷ s) t p q = (p.0, quiet-append s t p.1 q)

quiet-digits : (k n : ℕ) → Quiet (digits 8 k n)
unfolding digits Quiet glyph_of
quiet-digits zero n = tt
quiet-digits (suc k) n = quiet-append (digits 8 k (n / 8)) _ (quiet-digits k (n / 8)) ((λ e. go (ltb (n % 8) 10) e), tt)
  where
    go : (b : Bool) → pick b (48 + n % 8) (55 + n % 8) ≡ 10 → ⊥
    go true e = omega arith
    go false e = omega arith

quiet-number : (n : ℕ) → Quiet (shown 8 1 n)
unfolding shown
quiet-number n = quiet-digits (width_of 8 1 n) n

-- no sign is one, and no register has it for its letter
quiet_word : ℕ → Bool
quiet_word w = pick (ltb w 128) (not (eqb w 10)) (not (eqb ((w - 128) / 8) 10))

quiet_words : List ℕ → Bool
quiet_words [] = true
quiet_words (w ∷ ws) = quiet_word w && quiet_words ws

all_quiet : every (λ r. quiet_words (row_words r)) 107 ≡ true
unfolding every quiet_words quiet_word row_words words_of code_of code001 code002 spelling passing
all_quiet = refl

quiet-operand : (c x m : ℕ) → eqb (c / 8) 10 ≡ false → Quiet (operand_text (operand_of c x m))
unfolding operand_text operand_of Quiet
quiet-operand c x m n = go (eqb (c / 8) 0) (eqb (c / 8) 1) (eqb (c / 8) 2)
  where
    go : (a b d : Bool)
        → Quiet (operand_text (pick a (Constant (field_of (c % 8) x m)) (pick b (Indexed (field_of (c % 8) x m) (x / 512 % 8)) (pick d (Constant
        (64 - field_of (c % 8) x m)) (Register (c / 8) (field_of (c % 8) x m) (eqb (c % 8) 5))))))
    go true b d = quiet-number (field_of (c % 8) x m)
    go false true d =
        quiet-append (shown 8 1 (field_of (c % 8) x m)) (44 ∷ 65 ∷ shown 8 1 (x / 512 % 8)) (quiet-number (field_of (c % 8) x m))
        ((λ e. omega arith), ((λ e. omega arith), quiet-number (x / 512 % 8)))
    go false false true = quiet-number (64 - field_of (c % 8) x m)
    go false false false = (eqb-false (c / 8) 10 n, quiet-digits (pick (eqb (c % 8) 5) 2 1) (field_of (c % 8) x m))

quiet-text : (ws : List ℕ) (x m : ℕ) → quiet_words ws ≡ true → Quiet (text_of ws x m)
unfolding text_of quiet_words quiet_word Quiet
quiet-text [] x m e = tt
quiet-text (w ∷ ws) x m e =
    let t = both_hold (quiet_word w) (quiet_words ws) e in
    quiet-append (word_text w x m) (text_of ws x m) (go (ltb w 128) t.0) (quiet-text ws x m t.1)
  where
    go : (b : Bool) → pick b (not (eqb w 10)) (not (eqb ((w - 128) / 8) 10)) ≡ true → Quiet (pick b (w ∷ []) (operand_text (operand_of (w - 128) x m)))
    go true e = (eqb-false w 10 (not-true (eqb w 10) e), tt)
    go false e = quiet-operand (w - 128) x m (not-true (eqb ((w - 128) / 8) 10) e)

-- a line's newline is its last byte
quiet-length : (s rest : List ℕ) → Quiet s → line_length (s ++ (10 ∷ rest)) ≡ length s
unfolding line_length Quiet
quiet-length [] rest q = refl
quiet-length (b ∷ s) rest q = rw (ne_eqb b 10 q.0) (ap suc (quiet-length s rest q.1))

ends-line : (s rest : List ℕ) → Quiet s → suc (line_length ((s ++ (10 ∷ [])) ++ rest)) ≡ length (s ++ (10 ∷ []))
ends-line s rest q =
    rw (append_assoc s (10 ∷ []) rest, quiet-length s rest q, length-append s (10 ∷ [])) (omega arith)

pub data-ends : (x : ℕ) (rest : List ℕ) → suc (line_length (data_line x ++ rest)) ≡ length (data_line x)
unfolding data_line Quiet
data-ends x rest =
    let quiet : Quiet (signs "data=") = ((λ e. omega arith), ((λ e. omega arith), ((λ e. omega arith), ((λ e. omega arith), ((λ e. omega arith), tt))))) in
    ends-line (signs "data=" ++ digits 8 6 x) rest (quiet-append (signs "data=") (digits 8 6 x) quiet (quiet-digits 6 x))

pub line-ends : (x m : ℕ) (rest : List ℕ) → x < 65536 → suc (line_length (line_of x m ++ rest)) ≡ length (line_of x m)
line-ends x m rest h = go (eqb (row_of x) 0) refl
  where
    go : (b : Bool) → eqb (row_of x) 0 ≡ b → suc (line_length (line_of x m ++ rest)) ≡ length (line_of x m)
    go true e = rw (line-of-none x m h e) (data-ends x rest)
    go false e =
        let r = row_of x in
        let low = row_small x h in
        rw (line-of-some x m h e, spelled-row r x m low)
        (ends-line (text_of (row_words r) x m) rest (quiet-text (row_words r) x m (every-at (λ r. quiet_words (row_words r)) 107 all_quiet r low)))
