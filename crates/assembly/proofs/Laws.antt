-- Texts read and stored line by line, parcels listed, and what is answered. Assumes nothing.
use Rattle.std.specs.Prelude.{Ok, Err}
use mathlib.Core.Path.{◌≡◌, refl, sym, ap, ◌∙◌, subst}
use mathlib.Core.Bool.{Bool, true, false}
use mathlib.Core.List.{List, [], ◌∷◌, ◌++◌, append-nil}
use Prim.Native.Nat.{ℕ, ◌+◌, ◌-◌, ◌≤◌, ◌<◌}
use native.Mathlib.Nat.{zero-add, add-zero}
use native.Mathlib.Omega.{arith}
use lib.ListN.{length, get_or, take, drop, length-append, length-drop}
use lib.Seq.{sets, take_all, get_or-drop}
use lib.Dec.{leb}
use borrow.Author.Tests.{leb-true, leb-false, le-leb, lt-leb}
use Rattle.machine.specs.Word.{pick}
use Rattle.text.specs.Report.{Wrote}
use Rattle.text.proofs.Writing.{sets-append}
use Rattle.spelling.specs.Spelling.{second}
use Rattle.spelling.specs.Listing.{data_line, line_of, list_of, first_line, parcels_in, listed, room_listed}
use Rattle.spelling.specs.Candidate.{guess_of}
use Rattle.spelling.specs.Assembling.{Line, line_good, line_bad, Reading, all_read, wrong, before, read_line, read_from, read_of, room_after, assembled}
use Rattle.spelling.specs.Assembling.{room_assembled}
use Rattle.spelling.specs.declared.ReadError.{ReadError}
use Rattle.spelling.specs.declared.ReadError.TheVariants.{BadLine, Overfull}
use Rattle.spelling.proofs.Lines.{data-length, line-most}
use Rattle.spelling.proofs.Texts.{ahead, ahead_none, ahead_more, read_none, read-bad, read-good, list-next, Narrow}
use Rattle.readback.proofs.Good.{guess-read}
use Rattle.readback.proofs.Theorems.{line_read, line-newline}
use Rattle.guess.specs.declared.Guess.{Guess as Told}
use Rattle.guess.specs.Meant.{meant}
use Rattle.assembly.proofs.Guessing.{parcels_told}
use Rattle.assembly.specs.Reads.{Checks, Fits, parcels_meant}

-- what is left past n of a list, as a range gives it
pub rest-is : (s : List ℕ) (n k : ℕ) → k ≡ length s - n → take k (drop n s) ≡ drop n s
rest-is s n k e = take_all k (drop n s) (let l = length-drop n s in omega (arith, e, l))

-- a text in the middle of its reading: done are the parcels of the k lines before `rest`
pub record Passed (text rest : List ℕ) (k : ℕ) (done : List ℕ) : Type 0 where
  pub reads : read_of text ≡ ahead done k (read_from (length text - k) rest)
  pub lines : k + length rest ≤ length text

pub passed_none : (text : List ℕ) → Passed text text 0 []
unfolding read_of
passed_none text =
    let all : length text - 0 ≡ length text = omega arith in
    record { reads = rw all (sym (ahead_none (read_from (length text) text))); lines = omega arith }

module _ (text rest : List ℕ) (k : ℕ) (done : List ℕ) (p : Passed text rest k done) where
  pub passed-all : length rest ≡ 0 → read_of text ≡ all_read done
  passed-all none = p.reads ∙ ap (ahead done k) (read_none rest (length text - k) none) ∙ ap all_read (append-nil done)

  module _ (some : 0 < length rest) where
    enough : length rest ≤ length text - k
    enough = let l = p.lines in omega (arith, l)

    pub passed-bad : read_line rest ≡ line_bad → read_of text ≡ wrong k
    passed-bad e = p.reads ∙ ap (ahead done k) (read-bad rest (length text - k) some enough e) ∙ ap wrong (add-zero k)

    pub passed-good : (ps : List ℕ) (n : ℕ) → 0 < n → n ≤ length rest → read_line rest ≡ line_good ps (drop n rest)
        → Passed text (drop n rest) (k + 1) (done ++ ps)
    passed-good ps n l h e =
        let less : length text - k - 1 ≡ length text - (k + 1) = omega arith in
        record {
          reads = p.reads
              ∙ ap (ahead done k) (read-good rest (length text - k) some enough ps (drop n rest) e)
              ∙ ahead_more done ps k (read_from (length text - k - 1) (drop n rest))
              ∙ ap (λ (j : ℕ). ahead (done ++ ps) (k + 1) (read_from j (drop n rest))) less;
          lines = let b = p.lines in let m = length-drop n rest in omega (arith, b, m);
        }

    -- where all is good and fits, the next line is good and fits
    pub passed-fits : (n : ℕ) → Fits n (read_of text) → (ps : List ℕ) × (more : List ℕ) × (read_line rest ≡ line_good ps more)
        × (length done + length ps ≤ n)
    passed-fits n f = go (read_line rest) refl
      where
        go : (l : Line) → read_line rest ≡ l → (ps : List ℕ) × (more : List ℕ) × (read_line rest ≡ line_good ps more)
            × (length done + length ps ≤ n)
        go line_bad e = absurd (subst (Fits n) (passed-bad e) f)
        go (line_good ps more) e =
            let whole = p.reads ∙ ap (ahead done k) (read-good rest (length text - k) some enough ps more e) in
            (ps, more, e, within-room (read_from (length text - k - 1) more) (subst (Fits n) whole f))
          where
            within-room : (r : Reading) → Fits n (ahead done k (before ps r)) → length done + length ps ≤ n
            within-room (all_read qs) h = let e = length-append done (ps ++ qs) in let g = length-append ps qs in omega (arith, h, e, g)
            within-room (wrong j) h = absurd h

-- the room after all
pub stored-all : (text room done : List ℕ) → read_of text ≡ all_read done → Fits (length room) (read_of text) → sets room 0 done ≡ room_after room (read_of text)
stored-all text room done e f =
    let fits : length done ≤ length room = subst (Fits (length room)) e f in
    sym (ap (room_after room) e ∙ rw (le-leb (length done) (length room) fits))

-- the first line of the rest is stored: what is so after it
pub record Stored (text rest : List ℕ) (k n : ℕ) (done : List ℕ) (g : Told) : Type 0 where
  pub fits : length done + length (parcels_meant g) ≤ n
  pub some : 0 < g.length
  pub inside : g.length ≤ length rest
  pub next : Passed text (drop g.length rest) (k + 1) (done ++ parcels_meant g)

-- a line that is read is not empty
shorter : (s ps rest : List ℕ) → read_line s ≡ line_good ps rest → length rest < length s
shorter s ps rest e = let n = line-newline ((line_read s ps rest).0 e) in omega (arith, n)

pub store-next : (text rest : List ℕ) (k : ℕ) (done : List ℕ) (n : ℕ) (g : Told) → Passed text rest k done → 0 < length rest → Fits n (read_of text)
    → g ≡ meant (guess_of rest) → Stored text rest k n done g
store-next text rest k done n g p more f is =
    let found = passed-fits text rest k done p more n f in
    let read = guess-read rest found.0 found.1 found.2 in
    let size : g.length ≡ (guess_of rest).length = ap (λ (t : Told). t.length) is in
    let same : found.0 ≡ parcels_meant g = read.0 ∙ sym (parcels_told (guess_of rest)) ∙ ap parcels_meant (sym is) in
    let less = shorter rest found.0 found.1 found.2 in
    let dropped = ap length read.1 ∙ length-drop (guess_of rest).length rest in
    let after : found.1 ≡ drop g.length rest = read.1 ∙ ap (λ (j : ℕ). drop j rest) (sym size) in
    let good : read_line rest ≡ line_good (parcels_meant g) (drop g.length rest) = found.2 ∙ ap (λ (qs : List ℕ). line_good qs found.1) same
    ∙ ap (λ (l : List ℕ). line_good (parcels_meant g) l) after in
    let some : 0 < g.length = omega (arith, size, less, dropped) in
    let inside : g.length ≤ length rest = (let l = read.2 in omega (arith, size, l)) in
    record {
      fits = subst (λ (qs : List ℕ). length done + length qs ≤ n) same found.3;
      some = some;
      inside = inside;
      next = passed-good text rest k done p more (parcels_meant g) g.length some inside good;
    }

pub sets_more : (first room after done ps : List ℕ) (n : ℕ) → room ≡ sets first 0 done → length done ≡ n → after ≡ sets room n ps
    → after ≡ sets first 0 (done ++ ps)
sets_more first room after done ps n r l e =
    let place : n ≡ 0 + length done = omega (arith, l) in
    e ∙ ap (λ (m : List ℕ). sets m n ps) r ∙ ap (λ (i : ℕ). sets (sets first 0 done) i ps) place ∙ sym (sets-append first 0 done ps)

-- listings --

-- the first instruction of parcels, x being the first: of one parcel, or of two, or its second is missing
module _ (x : ℕ) where
  pub next_one : (ps : List ℕ) → 0 < length ps → x ≡ get_or ps 0 0 → second x ≡ false → (first_line ps ≡ line_of x 0) × (parcels_in ps ≡ 1)
  unfolding first_line parcels_in
  next_one [] h f e = absurd (omega arith)
  next_one (y ∷ []) h f e = (rw (← f, e) refl, refl)
  next_one (y ∷ m ∷ ps) h f e = rw (← f, e) (refl, refl)

  pub next_last : (ps : List ℕ) → 0 < length ps → x ≡ get_or ps 0 0 → second x ≡ true → length ps < 2
      → (first_line ps ≡ data_line x) × (parcels_in ps ≡ 1)
  unfolding first_line parcels_in
  next_last [] h f e few = absurd (omega arith)
  next_last (y ∷ []) h f e few = (rw (← f, e) refl, refl)
  next_last (y ∷ m ∷ ps) h f e few = absurd (omega arith)

  pub next-two : (ps : List ℕ) → x ≡ get_or ps 0 0 → second x ≡ true → 2 ≤ length ps
      → (first_line ps ≡ line_of x (get_or ps 1 0)) × (parcels_in ps ≡ 2)
  unfolding first_line parcels_in
  next-two [] f e two = absurd (omega arith)
  next-two (y ∷ []) f e two = absurd (omega arith)
  next-two (y ∷ m ∷ ps) f e two = rw (← f, e) (refl, refl)

-- the lines from here on
module _ (ps : List ℕ) (h : 0 < length ps) (n : ℕ) (taken : n ≡ parcels_in ps) where
  pub list-from : list_of ps ≡ first_line ps ++ list_of (drop n ps)
  list-from = list-next ps h ∙ ap (λ (j : ℕ). first_line ps ++ list_of (drop j ps)) (sym taken)

  pub lines_next : (bytes : ℕ) → bytes ≡ length (first_line ps) → length (list_of ps) ≡ bytes + length (list_of (drop n ps))
  lines_next bytes b =
      ap length list-from ∙ length-append (first_line ps) (list_of (drop n ps)) ∙ ap (λ (j : ℕ). j + length (list_of (drop n ps))) (sym b)

-- no line has more than 16 bytes
pub first-most : (ps : List ℕ) → Narrow ps → 0 < length ps → length (first_line ps) ≤ 16
unfolding first_line
first-most [] n h = absurd (omega arith)
first-most (x ∷ []) n h = go (second x)
  where
    go : (b : Bool) → length (pick b (data_line x) (line_of x 0)) ≤ 16
    go true = let k = data-length x in omega (arith, k)
    go false = (line-most x 0 (n 0) (omega arith)).1
first-most (x ∷ m ∷ ps) n h = go (second x)
  where
    go : (b : Bool) → length (pick b (line_of x m) (line_of x 0)) ≤ 16
    go true = (line-most x m (n 0) (n 1)).1
    go false = (line-most x 0 (n 0) (omega arith)).1

-- and none takes more than two parcels
pub parcels-few : (ps : List ℕ) → parcels_in ps ≤ 2
unfolding parcels_in
parcels-few [] = omega arith
parcels-few (x ∷ []) = omega arith
parcels-few (x ∷ m ∷ ps) = go (second x)
  where
    go : (b : Bool) → pick b 2 1 ≤ 2
    go true = omega arith
    go false = omega arith

pub narrow-rest : (ps : List ℕ) (n : ℕ) → Narrow ps → Narrow (drop n ps)
narrow-rest ps n h i = rw (get_or-drop n ps i 0) (h (n + i))

pub no_lines : (ps : List ℕ) → length ps ≡ 0 → list_of ps ≡ []
unfolding list_of
no_lines [] h = refl
no_lines (x ∷ ps) h = absurd (omega arith)

-- whether what is left fits
pub room_next : (a b left : ℕ) (all : ℕ) → all ≡ a + b → a ≤ left → leb all left ≡ leb b (left - a)
room_next a b left all e h = go (leb b (left - a)) refl
  where
    go : (t : Bool) → leb b (left - a) ≡ t → leb all left ≡ t
    go true f = let l = leb-true b (left - a) f in le-leb all left (omega (arith, e, l))
    go false f = let l = leb-false b (left - a) f in lt-leb all left (omega (arith, e, l))

pub room-short : (a b left all : ℕ) → all ≡ a + b → left < a → leb all left ≡ false
room-short a b left all e h = lt-leb all left (omega (arith, e))

-- the answers --

module _ (text room : List ℕ) where
  pub assembled-bad : (e : ReadError) → Checks text (Err e) → (Err e ≡ assembled text room) × (room ≡ room_assembled text room)
  unfolding assembled room_assembled
  assembled-bad (BadLine line) h = rw (h.1, h.2) (refl, refl)
  assembled-bad Overfull h = absurd h

  module _ (n : ℕ) (k : Checks text (Ok n)) where
    pub assembled-full : length room < n → (Err Overfull ≡ assembled text room) × (room ≡ room_assembled text room)
    unfolding assembled room_assembled
    assembled-full h = let full = lt-leb (length k.0) (length room) (omega (arith, k.2)) in rw (k.1, full) (refl, refl)

    pub assembled-fits : n ≤ length room → Fits (length room) (read_of text)
    assembled-fits h = rw k.1 (omega (arith, k.2))

    pub assembled-all : n ≤ length room → Ok n ≡ assembled text room
    unfolding assembled
    assembled-all h = let fits = le-leb (length k.0) (length room) (omega (arith, k.2)) in rw (k.1, fits, k.2)

module _ (ps room : List ℕ) where
  pub listed-not : leb (length (list_of ps)) (length room) ≡ false → (Err (record {}) ≡ listed ps room) × (room ≡ room_listed ps room)
  unfolding listed room_listed
  listed-not e = rw e (refl, refl)

  pub listed-all : (after : List ℕ) (n : ℕ) → leb (length (list_of ps)) (length room) ≡ true → Wrote room 0 (list_of ps) after n
      → (Ok n ≡ listed ps room) × (after ≡ room_listed ps room)
  unfolding listed room_listed
  listed-all after n e w = rw e (ap Ok (w.place ∙ zero-add (length (list_of ps))), w.bytes)
