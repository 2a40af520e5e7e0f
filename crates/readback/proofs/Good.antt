-- A line is read exactly if it stands for parcels. Assumes nothing.
use Prim.Native.Nat.{ℕ, ◌≤◌, ◌<◌}
use mathlib.Core.Path.{◌≡◌, refl, sym, ap, ◌∙◌}
use mathlib.Core.Bool.{Bool, true, false}
use mathlib.Core.List.{List, [], ◌∷◌, ◌++◌, append-nil}
use native.Mathlib.Omega.{arith}
use lib.ListN.{length, drop, length-append}
use lib.Seq.{drop-append_seam}
use borrow.Author.Tests.{eq-eqb}
use Rattle.machine.specs.Word.{pick}
use Rattle.spelling.specs.Spelling.{second}
use Rattle.spelling.specs.Listing.{data_line, line_of}
use Rattle.spelling.specs.Candidate.{Guess, guess_of}
use Rattle.spelling.specs.Assembling.{begins, Line, line_good, line_bad, line_is, if_last, line_by, parcels_of, read_line}
use Rattle.spelling.proofs.Texts.{begins-with}
use Rattle.readback.proofs.Guessed.{first_below, second_below, line_first, line-two, line-one, data-guess}
use Rattle.readback.proofs.Stands.{Stands, one, two, last}

-- a text that is a line and what follows it begins with that line
begins-line : (line rest : List ℕ) → begins (line ++ rest) line ≡ true
unfolding begins
begins-line [] rest = refl
begins-line (b ∷ line) rest = rw (eq-eqb b b refl) (begins-line line rest)

line-is : (s line qs ps rest : List ℕ) → line_is s line qs ≡ line_good ps rest → (qs ≡ ps) × (s ≡ line ++ rest)
unfolding line_is
line-is s line qs ps rest h = go (begins s line) refl h
  where
    go : (t : Bool) → begins s line ≡ t → pick t (line_good qs (drop (length line) s)) line_bad ≡ line_good ps rest → (qs ≡ ps) × (s ≡ line ++ rest)
    go true e h =
        let split = begins-with s line e in
        let after : drop (length line) s ≡ rest = cc in
        (cc, split ∙ ap (λ (l : List ℕ). line ++ l) after)
    go false e h = let z : ◌≡◌ {A = ℕ} 0 1 = cc in absurd (omega arith)

is-line : (s line ps rest : List ℕ) → s ≡ line ++ rest → line_is s line ps ≡ line_good ps rest
unfolding line_is
is-line s line ps rest e = rw (e, begins-line line rest, drop-append_seam line rest)

if-last : (l : Line) (ps rest : List ℕ) → if_last l ≡ line_good ps rest → (l ≡ line_good ps []) × (rest ≡ [])
if-last (line_good qs []) ps rest e = (cc, cc)
if-last (line_good qs (b ∷ s)) ps rest e = let z : ◌≡◌ {A = ℕ} 0 1 = cc in absurd (omega arith)
if-last line_bad ps rest e = let z : ◌≡◌ {A = ℕ} 0 1 = cc in absurd (omega arith)

-- a line that is read stands for its parcels
pub good-stands : (s ps rest : List ℕ) → read_line s ≡ line_good ps rest → Stands s ps rest
unfolding read_line line_by
good-stands s ps rest h = go (second x) (guess_of s).two refl h
  where
    x : ℕ
    x = (guess_of s).first

    m : ℕ
    m = (guess_of s).second

    go : (sec both : Bool) → second x ≡ sec
        → pick sec (pick both (line_is s (line_of x m) (x ∷ m ∷ [])) (if_last (line_is s (data_line x) (x ∷ [])))) (line_is s (line_of x 0) (x ∷ [])) ≡ line_good ps rest
        → Stands s ps rest
    go true true e h =
        let is = line-is s (line_of x m) (x ∷ m ∷ []) ps rest h in
        let stands : Stands s (x ∷ m ∷ []) rest = two (first_below s) (second_below s) e is.1 in
        rw (← is.0) stands
    go true false e h =
        let end = if-last (line_is s (data_line x) (x ∷ [])) ps rest h in
        let is = line-is s (data_line x) (x ∷ []) ps [] end.0 in
        let stands : Stands s (x ∷ []) [] = last (first_below s) e (is.1 ∙ append-nil (data_line x)) in
        rw (← is.0, end.1) stands
    go false both e h =
        let is = line-is s (line_of x 0) (x ∷ []) ps rest h in
        let stands : Stands s (x ∷ []) rest = one (first_below s) e is.1 in
        rw (← is.0) stands

-- and what stands for parcels is read as them
module _ (s : List ℕ) (g : Guess) (x : ℕ) (first : g.first ≡ x) where
  by_one : second x ≡ false → line_by s g ≡ line_is s (line_of x 0) (x ∷ [])
  unfolding line_by
  by_one e = rw (first, e)

  by_two : (m : ℕ) → g.second ≡ m → g.two ≡ true → second x ≡ true → line_by s g ≡ line_is s (line_of x m) (x ∷ m ∷ [])
  unfolding line_by
  by_two m next is e = rw (first, next, is, e)

  by_last : g.two ≡ false → second x ≡ true → line_by s g ≡ if_last (line_is s (data_line x) (x ∷ []))
  unfolding line_by
  by_last is e = rw (first, is, e)

pub stands_good : {s ps rest : List ℕ} → Stands s ps rest → read_line s ≡ line_good ps rest
unfolding read_line
stands_good {s} {ps} {rest} (one {x = x} below no_second e) =
    let some : 0 < 65536 = omega arith in
    let first : (guess_of s).first ≡ x = ap (λ (l : List ℕ). (guess_of l).first) e ∙ line_first x 0 below some rest in
    by_one s (guess_of s) x first no_second ∙ is-line s (line_of x 0) (x ∷ []) rest e
stands_good {s} {ps} {rest} (two {x = x} {m = m} below m-below is e) =
    let g = ap guess_of e ∙ line-two x m below m-below rest is in
    by_two s (guess_of s) x (ap (λ (g : Guess). g.first) g) m (ap (λ (g : Guess). g.second) g) (ap (λ (g : Guess). g.two) g) is
    ∙ is-line s (line_of x m) (x ∷ m ∷ []) rest e
stands_good {s} (last {x = x} below is e) =
    let split : s ≡ data_line x ++ [] = e ∙ sym (append-nil (data_line x)) in
    let guess = data-guess x below [] in
    let first : (guess_of s).first ≡ x = ap (λ (l : List ℕ). (guess_of l).first) split ∙ guess.0 in
    let single : (guess_of s).two ≡ false = ap (λ (l : List ℕ). (guess_of l).two) split ∙ guess.1 in
    by_last s (guess_of s) x first single is ∙ ap if_last (is-line s (data_line x) (x ∷ []) [] split)

-- the data line of a first parcel that has a second is none but the last
pub data-early : (x : ℕ) → x < 65536 → second x ≡ true → (b : ℕ) (rest : List ℕ) → read_line (data_line x ++ (b ∷ rest)) ≡ line_bad
unfolding read_line
data-early x below is b rest =
    let s = data_line x ++ (b ∷ rest) in
    let guess = data-guess x below (b ∷ rest) in
    by_last s (guess_of s) x guess.0 guess.1 is ∙ ap if_last (is-line s (data_line x) (x ∷ []) (b ∷ rest) refl)

pub bad-stands : {s ps rest : List ℕ} → read_line s ≡ line_bad → Stands s ps rest → ⊥
bad-stands e stands = let good = stands_good stands in let z : ◌≡◌ {A = ℕ} 0 1 = cc in omega arith

pub none-bad : (s : List ℕ) → ((ps rest : List ℕ) → Stands s ps rest → ⊥) → read_line s ≡ line_bad
none-bad s never = go (read_line s) refl
  where
    go : (l : Line) → read_line s ≡ l → read_line s ≡ line_bad
    go (line_good ps rest) e = absurd (never ps rest (good-stands s ps rest e))
    go line_bad e = e

-- so the guess tells what is read, and where the line ends
module _ (line rest : List ℕ) where
  after_line : rest ≡ drop (length line) (line ++ rest)
  after_line = sym (drop-append_seam line rest)

  within_text : length line ≤ length (line ++ rest)
  within_text = rw (length-append line rest) (omega arith)

abbrev Tells : Guess → List ℕ → List ℕ → List ℕ → Type 0
Tells g s ps rest = (ps ≡ parcels_of g) × (rest ≡ drop g.length s) × (g.length ≤ length s)

tells-one : (g : Guess) (line rest : List ℕ) (x : ℕ) → (g.first ≡ x) × (g.two ≡ false) × (g.length ≡ length line) → Tells g (line ++ rest) (x ∷ []) rest
tells-one g line rest x is = rw (is.0, is.1, is.2) (refl, after_line line rest, within_text line rest)

stands-guess : {s ps rest : List ℕ} → Stands s ps rest → Tells (guess_of s) s ps rest
stands-guess {s} {ps} {rest} (one {x = x} below is e) =
    let some : 0 < 65536 = omega arith in
    rw e (tells-one (guess_of (line_of x 0 ++ rest)) (line_of x 0) rest x (line-one x 0 below some rest is))
stands-guess {s} {ps} {rest} (two {x = x} {m = m} below m-below is e) =
    rw (e, line-two x m below m-below rest is) (refl, after_line (line_of x m) rest, within_text (line_of x m) rest)
stands-guess {s} (last {x = x} below is e) =
    let split : s ≡ data_line x ++ [] = e ∙ sym (append-nil (data_line x)) in
    rw split (tells-one (guess_of (data_line x ++ [])) (data_line x) [] x (data-guess x below []))

pub guess-read : (s ps rest : List ℕ) → read_line s ≡ line_good ps rest → (ps ≡ parcels_of (guess_of s)) × (rest ≡ drop (guess_of s).length s)
    × ((guess_of s).length ≤ length s)
guess-read s ps rest h = stands-guess (good-stands s ps rest h)
