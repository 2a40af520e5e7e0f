-- What a guess makes of the first line of a text. Assumes nothing.
use Rattle.std.specs.Prelude.{Option, Some, None, ◌||◌}
use mathlib.Core.Path.{◌≡◌, refl, sym, ap, ◌∙◌, subst}
use mathlib.Core.Bool.{Bool, true, false, not, ◌&&◌}
use mathlib.Core.List.{List, [], ◌∷◌, ◌++◌, append-nil}
use Prim.Native.Nat.{ℕ, zero, suc, ◌+◌, ◌-◌, ◌≤◌, ◌<◌}
use native.Mathlib.Nat.{le_of_suc-le-suc}
use native.Mathlib.Omega.{arith}
use lib.ListN.{length, get_or, take, drop, replicate, length-drop}
use lib.Seq.{get_or-drop}
use Rattle.std.proofs.lemmas.List.{take-append-drop}
use lib.Dec.{eqb, ltb, leb}
use borrow.Author.Tests.{ltb-true, ltb-false, leb-true, leb-false}
use Rattle.machine.specs.Word.{pick}
use Rattle.spelling.specs.Spelling.{second}
use Rattle.spelling.specs.Listing.{data_line, line_of}
use Rattle.spelling.specs.Candidate.{Guess, guess_by, guess_of}
use Rattle.spelling.specs.Assembling.{begins, line_good, line_bad, line_is, if_last, line_by, parcels_of, read_line}
use Rattle.spelling.proofs.Lines.{data-length, line-most}
use Rattle.spelling.proofs.Texts.{begins-short}
use Rattle.readback.proofs.Guessed.{first_below, second_below}
use Rattle.guess.specs.declared.Guess.{Guess as Told}
use Rattle.guess.specs.Meant.{meant}
use Rattle.assembly.specs.Reads.{line_for, parcels_for, ends_text, length_if, Hears, pads, read_as, ReadsAs, HeardRight, parcels_with, parcels_meant}
use Rattle.assembly.specs.declared.Heard.{Heard}

-- a guess goes by the bytes, and past the end of a text they are newlines, as if more of them followed
newlines-after : (s u : List ℕ) → ((i : ℕ) → get_or u i 10 ≡ 10) → (p : ℕ) → get_or (s ++ u) p 10 ≡ get_or s p 10
newlines-after [] u e p = e p
newlines-after (c ∷ s) u e zero = refl
newlines-after (c ∷ s) u e (suc p) = newlines-after s u e p

newlines : (n i : ℕ) → get_or {A = ℕ} (replicate n 10) i 10 ≡ 10
newlines zero i = refl
newlines (suc n) zero = refl
newlines (suc n) (suc i) = newlines n i

pub guess-padded : (s : List ℕ) → guess_of (s ++ pads s) ≡ guess_of s
unfolding guess_of
guess-padded s =
    let same = newlines-after s (pads s) (λ i. get_or-drop (length s) (replicate 32 10) i 10 ∙ newlines 32 (length s + i)) in
    λ i. guess_by (λ p. same p i)

-- a text that goes on
begins-more : (s t l : List ℕ) → length l ≤ length s → begins (s ++ t) l ≡ begins s l
unfolding begins
begins-more s t [] h = refl
begins-more [] t (b ∷ l) h = absurd (omega arith)
begins-more (c ∷ s) t (b ∷ l) h = ap (λ (e : Bool). eqb c b && e) (begins-more s t l (le_of_suc-le-suc h))

-- a line is what its guess is listed as
line-by : (s : List ℕ) (g : Guess) → line_by s g ≡ pick (ends_text g) (if_last (line_is s (line_for g) (parcels_for g))) (line_is s (line_for g) (parcels_for g))
unfolding line_by
line-by s g = go (second g.first) g.two
  where
    x : ℕ
    x = g.first

    m : ℕ
    m = g.second

    go : (a b : Bool) → pick a (pick b (line_is s (line_of x m) (x ∷ m ∷ [])) (if_last (line_is s (data_line x) (x ∷ [])))) (line_is s (line_of x 0) (x ∷ []))
        ≡ pick (pick a (not b) false) (if_last (line_is s (pick a (pick b (line_of x m) (data_line x)) (line_of x 0))
        (pick a (pick b (x ∷ m ∷ []) (x ∷ [])) (x ∷ []))))
        (line_is s (pick a (pick b (line_of x m) (data_line x)) (line_of x 0)) (pick a (pick b (x ∷ m ∷ []) (x ∷ [])) (x ∷ [])))
    go true true = refl
    go true false = refl
    go false b = refl

-- it has at least two bytes, and no more than two parcels
line-least : (g : Guess) → g.first < 65536 → g.second < 65536 → 2 ≤ length (line_for g)
line-least g h l = go (second g.first) g.two
  where
    go : (a b : Bool) → 2 ≤ length (pick a (pick b (line_of g.first g.second) (data_line g.first)) (line_of g.first 0))
    go true true = (line-most g.first g.second h l).0
    go true false = let n = data-length g.first in omega (arith, n)
    go false b = (line-most g.first 0 h (omega arith)).0

parcels-most : (g : Guess) → length (parcels_for g) ≤ 2
parcels-most g = go (second g.first) g.two
  where
    go : (a b : Bool) → length (pick a (pick b (g.first ∷ g.second ∷ []) (g.first ∷ [])) (g.first ∷ [])) ≤ 2
    go true true = omega arith
    go true false = omega arith
    go false b = omega arith

-- the parcels of a guess that is passed on
pub parcels_told : (g : Guess) → parcels_meant (meant g) ≡ parcels_of g
parcels_told g = go g.two
  where
    go : (b : Bool) → parcels_with g.first (pick b (Some g.second) None) ≡ pick b (g.first ∷ g.second ∷ []) (g.first ∷ [])
    go true = refl
    go false = refl

-- what is heard by the guess of a text that 32 bytes begin, x being its first parcel: of one parcel, of data, of two parcels
module _ (w rest : List ℕ) (wide : length w ≡ 32) (told : Told) (is : told ≡ meant (guess_of (w ++ rest))) (x : ℕ) (first : x ≡ told.first) where
  abbrev whole : List ℕ
  whole = w ++ rest

  abbrev guess : Guess
  guess = guess_of whole

  first-is : guess.first ≡ x
  first-is = sym (first ∙ ap (λ (t : Told). t.first) is)

  small : x < 65536
  small = let e = first-is in let h = first_below whole in omega (arith, e, h)

  same-line : (line : List ℕ) → length line ≤ 16 → length_if whole line ≡ length_if w line
  same-line line h = ap (λ (b : Bool). pick b (Some (length line)) None) (begins-more w rest line (omega (arith, wide)))

  hears-some : (n parcels : ℕ) (last : Bool) → length_if whole (line_for guess) ≡ Some n → parcels ≡ length (parcels_for guess) → last ≡ ends_text guess
      → Hears whole (Some (record { bytes = n; parcels = parcels; last = last }))
  hears-some n parcels last e p l = go (begins whole (line_for guess)) refl e
    where
      go : (b : Bool) → begins whole (line_for guess) ≡ b → pick b (Some (length (line_for guess))) None ≡ Some n
          → Hears whole (Some (record { bytes = n; parcels = parcels; last = last }))
      go true f g = (f, cc, p, l)
      go false f g = cc

  hears-not : length_if whole (line_for guess) ≡ None → Hears whole None
  hears-not e = go (begins whole (line_for guess)) refl e
    where
      go : (b : Bool) → begins whole (line_for guess) ≡ b → pick b (Some (length (line_for guess))) None ≡ None → begins whole (line_for guess) ≡ false
      go true f g = cc
      go false f g = f

  module _ (one : second x ≡ false) where
    one-line : length_if whole (line_for guess) ≡ length_if w (line_of x 0)
    one-line = rw (first-is, one) (same-line (line_of x 0) (line-most x 0 small (omega arith)).1)

    pub hears-one : (n : ℕ) → length_if w (line_of x 0) ≡ Some n → Hears whole (Some (record { bytes = n; parcels = 1; last = false }))
    hears-one n e = hears-some n 1 false (one-line ∙ e) (rw (first-is, one) refl) (rw (first-is, one) refl)

    pub hears-no-one : length_if w (line_of x 0) ≡ None → Hears whole None
    hears-no-one e = hears-not (one-line ∙ e)

  module _ (more : second x ≡ true) where
    module _ (none : told.second ≡ None) where
      single : guess.two ≡ false
      single = go guess.two (sym none ∙ ap (λ (t : Told). t.second) is)
        where
          go : (b : Bool) → None ≡ pick b (Some guess.second) None → b ≡ false
          go true e = cc
          go false e = refl

      data-line : length_if whole (line_for guess) ≡ length_if w (data_line x)
      data-line = rw (first-is, more, single) (same-line (data_line x) (let n = data-length x in omega (arith, n)))

      pub hears-data : (n : ℕ) → length_if w (data_line x) ≡ Some n → Hears whole (Some (record { bytes = n; parcels = 1; last = true }))
      hears-data n e = hears-some n 1 true (data-line ∙ e) (rw (first-is, more, single) refl) (rw (first-is, more, single) refl)

      pub hears-no-data : length_if w (data_line x) ≡ None → Hears whole None
      hears-no-data e = hears-not (data-line ∙ e)

    module _ (m : ℕ) (some : told.second ≡ Some m) where
      pair : (guess.two ≡ true) × (guess.second ≡ m)
      pair = go guess.two (sym some ∙ ap (λ (t : Told). t.second) is)
        where
          go : (b : Bool) → Some m ≡ pick b (Some guess.second) None → (b ≡ true) × (guess.second ≡ m)
          go true e = (refl, cc)
          go false e = cc

      two-line : length_if whole (line_for guess) ≡ length_if w (line_of x m)
      two-line =
          let low : m < 65536 = (let e = pair.1 in let h = second_below whole in omega (arith, e, h)) in
          rw (first-is, pair.1, more, pair.0) (same-line (line_of x m) (line-most x m small low).1)

      pub hears-two : (n : ℕ) → length_if w (line_of x m) ≡ Some n → Hears whole (Some (record { bytes = n; parcels = 2; last = false }))
      hears-two n e = hears-some n 2 false (two-line ∙ e) (rw (first-is, more, pair.0) refl) (rw (first-is, more, pair.0) refl)

      pub hears-no-two : length_if w (line_of x m) ≡ None → Hears whole None
      hears-no-two e = hears-not (two-line ∙ e)

-- the last line of a text
last_empty : (ps rest : List ℕ) → length rest ≡ 0 → if_last (line_good ps rest) ≡ line_good ps rest
last_empty ps [] e = refl
last_empty ps (b ∷ rest) e = absurd (omega arith)

last_more : (ps rest : List ℕ) → 0 < length rest → if_last (line_good ps rest) ≡ line_bad
last_more ps [] h = absurd (omega arith)
last_more ps (b ∷ rest) h = refl

-- what is heard of a text, whatever is put after it, is read right
module _ (s t : List ℕ) (same : guess_of (s ++ t) ≡ guess_of s) where
  abbrev g : Guess
  g = guess_of s

  abbrev line : List ℕ
  line = line_for g

  abbrev ps : List ℕ
  ps = parcels_for g

  least : 2 ≤ length line
  least = line-least g (first_below s) (second_below s)

  begun : length line ≤ length s → begins s line ≡ begins (s ++ t) line
  begun k = sym (begins-more s t line k)

  bad : begins s line ≡ false → read_line s ≡ line_bad
  unfolding read_line line_is
  bad e = line-by s g ∙ go (ends_text g)
    where
      go : (b : Bool) → pick b (if_last (line_is s line ps)) (line_is s line ps) ≡ line_bad
      go true = rw e
      go false = rw e

  -- another line
  not-begun : begins (s ++ t) line ≡ false → begins s line ≡ false
  not-begun f = go (leb (length line) (length s)) refl
    where
      go : (b : Bool) → leb (length line) (length s) ≡ b → begins s line ≡ false
      go true q = begun (leb-true (length line) (length s) q) ∙ f
      go false q = begins-short s line (leb-false (length line) (length s) q)

  not-heard : Hears (s ++ t) None → read_line s ≡ line_bad
  not-heard hears = bad (not-begun (sym (ap (λ (g : Guess). begins (s ++ t) (line_for g)) same) ∙ hears))

  module _ (h : Heard) (hears : Hears (s ++ t) (Some h)) where
    there : begins (s ++ t) line ≡ true
    there = sym (ap (λ (g : Guess). begins (s ++ t) (line_for g)) same) ∙ hears.0

    bytes : h.bytes ≡ length line
    bytes = hears.1 ∙ ap (λ (g : Guess). length (line_for g)) same

    parcels : length ps ≡ h.parcels
    parcels = sym (hears.2 ∙ ap (λ (g : Guess). length (parcels_for g)) same)

    last : h.last ≡ ends_text g
    last = hears.3 ∙ ap ends_text same

    -- more bytes than are left: it is not the line
    over-long : length s < h.bytes → begins s line ≡ false
    over-long l = let e = bytes in begins-short s line (omega arith)

    -- else it is
    module _ (enough : h.bytes ≤ length s) where
      it : begins s line ≡ true
      it = let e = bytes in begun (omega arith) ∙ there

      left_over : length (drop (length line) s) ≡ length s - h.bytes
      left_over = length-drop (length line) s ∙ ap (λ (n : ℕ). length s - n) (sym bytes)

      good : line_is s line ps ≡ line_good ps (drop (length line) s)
      unfolding line_is
      good = rw it

      read_plain : h.last ≡ false → read_line s ≡ line_good ps (drop (length line) s)
      unfolding read_line
      read_plain e = line-by s g ∙ rw (sym last ∙ e) good

      read-last : h.last ≡ true → read_line s ≡ if_last (line_good ps (drop (length line) s))
      unfolding read_line
      read-last e = line-by s g ∙ rw (sym last ∙ e) (ap if_last good)

      reads : read_line s ≡ line_good ps (drop (length line) s) → ReadsAs s (read_line s) (Some (record { parcels = h.parcels; bytes = h.bytes }))
      reads e =
          let two = parcels-most g in
          let long = least in
          let size = bytes in
          let count = parcels in (
            (ps, e ∙ ap (λ (n : ℕ). line_good ps (drop n s)) (sym bytes), parcels),
            omega (arith, two, long, size, count),
            omega (arith, long, size),
            enough,
          )

    heard : ReadsAs s (read_line s) (read_as (length s) h)
    heard = go (ltb (length s) h.bytes) h.last (ltb h.bytes (length s)) refl refl refl
      where
        go : (b c d : Bool) → ltb (length s) h.bytes ≡ b → h.last ≡ c → ltb h.bytes (length s) ≡ d
            → ReadsAs s (read_line s) (pick (b || c && d) None (Some (record { parcels = h.parcels; bytes = h.bytes })))
        go true c d f k l = bad (over-long (ltb-true (length s) h.bytes f))
        go false true true f k l =
            let enough = ltb-false (length s) h.bytes f in
            let less = ltb-true h.bytes (length s) l in
            let over = left_over enough in
            read-last enough k ∙ last_more ps (drop (length line) s) (omega (arith, less, over))
        go false true false f k l =
            let enough = ltb-false (length s) h.bytes f in
            let all = ltb-false h.bytes (length s) l in
            let over = left_over enough in
            reads enough (read-last enough k ∙ last_empty ps (drop (length line) s) (omega (arith, all, over)))
        go false false d f k l = let enough = ltb-false (length s) h.bytes f in reads enough (read_plain enough k)

  with-heard : (r : Option Heard) → Hears (s ++ t) r → HeardRight s r
  with-heard (Some h) hears = heard h hears
  with-heard None hears = not-heard hears

-- a text begins with its first 32 bytes
pub chunk-whole : (s w : List ℕ) → w ≡ take 32 s → w ++ drop 32 s ≡ s
chunk-whole s w e = ap (λ (l : List ℕ). l ++ drop 32 s) e ∙ take-append-drop 32 s

-- of a text itself, and of one with newlines after it
pub heard-here : (s : List ℕ) (r : Option Heard) → Hears s r → HeardRight s r
heard-here s r hears =
    let none : s ++ [] ≡ s = append-nil s in
    with-heard s [] (ap guess_of none) r (subst (λ (l : List ℕ). Hears l r) (sym none) hears)

pub heard-padded : (s : List ℕ) (r : Option Heard) → Hears (s ++ pads s) r → HeardRight s r
heard-padded s r hears = with-heard s (pads s) (guess-padded s) r hears
