-- Whole texts: read and listed, listed and read, and which line is the first bad one. Assumes nothing.
use Prim.Native.Nat.{ℕ, zero, suc, ◌+◌, ◌≤◌, ◌<◌}
use mathlib.Core.Path.{◌≡◌, refl, sym, ap, ◌∙◌, subst}
use mathlib.Core.Bool.{Bool, true, false}
use mathlib.Core.List.{List, [], ◌∷◌, ◌++◌, append-nil}
use native.Mathlib.Numerals.{add-one}
use native.Mathlib.Omega.{arith}
use lib.ListN.{length, length-append}
use lib.Dec.{eqb-suc-zero}
use Rattle.spelling.specs.Spelling.{second}
use Rattle.spelling.specs.Listing.{data_line, line_of, list_of}
use Rattle.spelling.specs.Assembling.{line_length, Line, line_good, line_bad, read_line, Reading, all_read, wrong, before, on_line, read_from}
use Rattle.spelling.proofs.Texts.{data-ends, line-ends}
use Rattle.readback.proofs.Stands.{Below, Stands, one, two, last, Lines, none, more, Broken}
use Rattle.readback.proofs.Good.{good-stands, stands_good, bad-stands}

-- a list's first line, and the list of the others
list-one : (x : ℕ) (ps : List ℕ) → second x ≡ false → list_of (x ∷ ps) ≡ line_of x 0 ++ list_of ps
unfolding list_of
list-one x [] e = rw e (sym (append-nil (line_of x 0)))
list-one x (m ∷ ps) e = rw e

list-two : (x m : ℕ) (ps : List ℕ) → second x ≡ true → list_of (x ∷ m ∷ ps) ≡ line_of x m ++ list_of ps
unfolding list_of
list-two x m ps e = rw e

list-last : (x : ℕ) → second x ≡ true → list_of (x ∷ []) ≡ data_line x
unfolding list_of
list-last x e = rw e

-- a line ends with its first newline
ends : (s line rest : List ℕ) → s ≡ line ++ rest → suc (line_length (line ++ rest)) ≡ length line → line_length s + 1 + length rest ≡ length s
ends s line rest e newline = rw (e, length-append line rest) (omega arith)

pub stands-ends : {s ps rest : List ℕ} → Stands s ps rest → line_length s + 1 + length rest ≡ length s
stands-ends {s} {ps} {rest} (one {x = x} below is e) = ends s (line_of x 0) rest e (line-ends x 0 rest below)
stands-ends {s} {ps} {rest} (two {x = x} {m = m} below m-below is e) = ends s (line_of x m) rest e (line-ends x m rest below)
stands-ends {s} (last {x = x} below is e) = ends s (data_line x) [] (e ∙ sym (append-nil (data_line x))) (data-ends x [])

stands-longer : {s ps rest : List ℕ} → Stands s ps rest → length rest < length s
stands-longer stands = let e = stands-ends stands in omega arith

-- one line read
read_none : (most : ℕ) → read_from most [] ≡ all_read []
unfolding read_from
read_none zero = refl
read_none (suc most) = refl

read_some : (most b : ℕ) (s : List ℕ) → read_from (suc most) (b ∷ s) ≡ on_line (read_line (b ∷ s)) (read_from most)
unfolding read_from
read_some most b s = rw (eqb-suc-zero (length s))

read-line : {s ps rest : List ℕ} (most : ℕ) → Stands s ps rest → read_from (suc most) s ≡ before ps (read_from most rest)
read-line {s} {ps} {rest} most stands = go s (stands-longer stands) (stands_good stands)
  where
    go : (s : List ℕ) → length rest < length s → read_line s ≡ line_good ps rest → read_from (suc most) s ≡ before ps (read_from most rest)
    go [] h e = absurd (omega arith)
    go (b ∷ s) h e = read_some most b s ∙ ap (λ (l : Line). on_line l (read_from most)) e

-- parcels read are listed as the text
abbrev Lists : List ℕ → List ℕ → Type 0
Lists ps s = (list_of ps ≡ s) × Below ps

stands-below : {s ps rest : List ℕ} → Stands s ps rest → (qs : List ℕ) → Below qs → Below (ps ++ qs)
stands-below (one below is e) qs others zero = below
stands-below (one below is e) qs others (suc i) = others i
stands-below (two below m-below is e) qs others zero = below
stands-below (two below m-below is e) qs others (suc zero) = m-below
stands-below (two below m-below is e) qs others (suc (suc i)) = others i
stands-below (last below is e) qs others zero = below
stands-below (last below is e) qs others (suc i) = others i

stands-lists : {s ps rest : List ℕ} → Stands s ps rest → (qs : List ℕ) → list_of qs ≡ rest → (rest ≡ [] → qs ≡ []) → list_of (ps ++ qs) ≡ s
stands-lists (one {x = x} below is e) qs same empty = list-one x qs is ∙ ap (λ (l : List ℕ). line_of x 0 ++ l) same ∙ sym e
stands-lists (two {x = x} {m = m} below m-below is e) qs same empty = list-two x m qs is ∙ ap (λ (l : List ℕ). line_of x m ++ l) same ∙ sym e
stands-lists (last {x = x} below is e) qs same empty = ap (λ (l : List ℕ). list_of (x ∷ l)) (empty refl) ∙ list-last x is ∙ sym e

none_read : (most : ℕ) (ps : List ℕ) → read_from most [] ≡ all_read ps → ps ≡ []
none_read most ps e = let n = read_none most in cc

none-lists : (most : ℕ) (ps : List ℕ) → read_from most [] ≡ all_read ps → Lists ps []
unfolding list_of
none-lists most ps e = rw (none_read most ps e) (refl, λ i. omega arith)

read_out : (b : ℕ) (s : List ℕ) → read_from zero (b ∷ s) ≡ wrong 0
unfolding read_from
read_out b s = rw (eqb-suc-zero (length s))

pub read-lists : (most : ℕ) (s ps : List ℕ) → read_from most s ≡ all_read ps → Lists ps s
read-lists zero [] ps e = none-lists zero ps e
read-lists (suc most) [] ps e = none-lists (suc most) ps e
read-lists zero (b ∷ s) ps e = let n = read_out b s in let z : ◌≡◌ {A = ℕ} 0 1 = cc in absurd (omega arith)
read-lists (suc most) (b ∷ s) ps e = go (read_line (b ∷ s)) refl (read-lists most) (sym (read_some most b s) ∙ e)
  where
    go : (l : Line) → read_line (b ∷ s) ≡ l → ((rest ts : List ℕ) → read_from most rest ≡ all_read ts → Lists ts rest)
        → on_line l (read_from most) ≡ all_read ps → Lists ps (b ∷ s)
    go line_bad is ih h = let z : ◌≡◌ {A = ℕ} 0 1 = cc in absurd (omega arith)
    go (line_good qs rest) is ih h = on (read_from most rest) refl h
      where
        on : (r : Reading) → read_from most rest ≡ r → before qs r ≡ all_read ps → Lists ps (b ∷ s)
        on (wrong n) e h = let z : ◌≡◌ {A = ℕ} 0 1 = cc in absurd (omega arith)
        on (all_read ts) e h =
            let stands = good-stands (b ∷ s) qs rest is in
            let others = ih rest ts e in
            let empty : rest ≡ [] → ts ≡ [] = λ nothing. none_read most ts (ap (read_from most) (sym nothing) ∙ e) in
            let same : qs ++ ts ≡ ps = cc in
            rw (← same) (stands-lists stands ts others.0 empty, stands-below stands ts others.1)

-- parcels listed are read back
read-stands : {s ps rest : List ℕ} (most : ℕ) → Stands s ps rest → length s ≤ most → (qs : List ℕ)
    → ((k : ℕ) → length rest ≤ k → read_from k rest ≡ all_read qs) → read_from most s ≡ all_read (ps ++ qs)
read-stands zero stands l qs after = let less = stands-longer stands in absurd (omega arith)
read-stands {s} {ps} {rest} (suc most) stands l qs after = let less = stands-longer stands in read-line most stands ∙ ap (before ps) (after most (omega arith))

pub list-reads : (ps : List ℕ) → Below ps → (most : ℕ) → length (list_of ps) ≤ most → read_from most (list_of ps) ≡ all_read ps
unfolding list_of
list-reads [] below most h = read_none most
list-reads (x ∷ []) below most h = go (second x) refl
  where
    go : (b : Bool) → second x ≡ b → read_from most (list_of (x ∷ [])) ≡ all_read (x ∷ [])
    go true is = read-stands most (last (below 0) is (list-last x is)) h [] (λ k l. read_none k)
    go false is = read-stands most (one (below 0) is (list-one x [] is)) h [] (λ k l. read_none k)
list-reads (x ∷ m ∷ ps) below most h = go (second x) refl (list-reads ps (λ i. below (suc (suc i)))) (list-reads (m ∷ ps) (λ i. below (suc i)))
  where
    go : (b : Bool) → second x ≡ b → ((k : ℕ) → length (list_of ps) ≤ k → read_from k (list_of ps) ≡ all_read ps)
        → ((k : ℕ) → length (list_of (m ∷ ps)) ≤ k → read_from k (list_of (m ∷ ps)) ≡ all_read (m ∷ ps)) → read_from most (list_of (x ∷ m ∷ ps)) ≡ all_read (x ∷ m ∷ ps)
    go true is after after_one = read-stands most (two (below 0) (below 1) is (list-two x m ps is)) h ps after
    go false is after after_one = read-stands most (one (below 0) is (list-one x (m ∷ ps) is)) h (m ∷ ps) after_one

-- the first bad line
pub wrong-broken : (most : ℕ) (s : List ℕ) (n : ℕ) → length s ≤ most → read_from most s ≡ wrong n → Broken n s
wrong-broken zero [] n l e = let nothing = read_none zero in let z : ◌≡◌ {A = ℕ} 0 1 = cc in absurd (omega arith)
wrong-broken (suc most) [] n l e = let nothing = read_none (suc most) in let z : ◌≡◌ {A = ℕ} 0 1 = cc in absurd (omega arith)
wrong-broken zero (b ∷ s) n l e = absurd (omega arith)
wrong-broken (suc most) (b ∷ s) n l e = go (read_line (b ∷ s)) refl (wrong-broken most) (sym (read_some most b s) ∙ e)
  where
    go : (l : Line) → read_line (b ∷ s) ≡ l → ((rest : List ℕ) (k : ℕ) → length rest ≤ most → read_from most rest ≡ wrong k → Broken k rest)
        → on_line l (read_from most) ≡ wrong n → Broken n (b ∷ s)
    go line_bad is ih h =
        let first : Broken 0 (b ∷ s) = record { rest = b ∷ s; lines = none; some = omega arith; bad = λ ps rest. bad-stands is } in
        let e : 0 ≡ n = cc in
        subst (λ (k : ℕ). Broken k (b ∷ s)) e first
    go (line_good qs rest) is ih h = on (read_from most rest) refl h
      where
        on : (r : Reading) → read_from most rest ≡ r → before qs r ≡ wrong n → Broken n (b ∷ s)
        on (all_read ts) e h = let z : ◌≡◌ {A = ℕ} 0 1 = cc in absurd (omega arith)
        on (wrong k) e h =
            let stands = good-stands (b ∷ s) qs rest is in
            let less = stands-longer stands in
            let after = ih rest k (omega arith) e in
            let one_more : k + 1 ≡ n = cc in
            let later : Broken (suc k) (b ∷ s) = record { rest = after.rest; lines = more stands after.lines; some = after.some; bad = after.bad } in
            subst (λ (k : ℕ). Broken k (b ∷ s)) (sym (add-one k) ∙ one_more) later

pub broken-wrong : {n : ℕ} {s rest : List ℕ} (most : ℕ) → Lines n s rest → 0 < length rest → read_line rest ≡ line_bad → length s ≤ most → read_from most s ≡ wrong n
broken-wrong {n} {s} {rest} most none some bad l = go most s some l bad
  where
    go : (most : ℕ) (s : List ℕ) → 0 < length s → length s ≤ most → read_line s ≡ line_bad → read_from most s ≡ wrong 0
    go most [] some l bad = absurd (omega arith)
    go zero (b ∷ s) some l bad = absurd (omega arith)
    go (suc most) (b ∷ s) some l bad = read_some most b s ∙ ap (λ (l : Line). on_line l (read_from most)) bad
broken-wrong zero (more stands lines) some bad l = let less = stands-longer stands in absurd (omega arith)
broken-wrong (suc most) (more {ps = ps} {n = k} stands lines) some bad l =
    let less = stands-longer stands in
    read-line most stands ∙ ap (before ps) (broken-wrong most lines some bad (omega arith)) ∙ ap wrong (add-one k)
