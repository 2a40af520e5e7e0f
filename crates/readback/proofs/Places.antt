-- What stands from a place of a line on, and which byte is there, as far as its simple words tell. Assumes nothing.
use Prim.Native.Nat.{ℕ, zero, suc, ◌+◌, ◌-◌, ◌^◌, ◌≤◌, ◌<◌}
use mathlib.Core.Path.{◌≡◌, refl, sym, ap, ◌∙◌}
use mathlib.Core.Bool.{Bool, true, false, ◌||◌}
use mathlib.Core.List.{List, [], ◌∷◌, ◌++◌, append_assoc}
use native.Mathlib.Omega.{arith}
use lib.ListN.{length, get_or, length-append}
use lib.Seq.{get_or-append-add}
use lib.Dec.{eqb, ltb}
use borrow.Author.Tests.{eqb-true, ltb-true, ltb-false}
use Rattle.machine.specs.Word.{pick}
use Rattle.machine.specs.Parcel.{jk_of}
use Rattle.text.specs.Digits.{digits, shown}
use Rattle.text.proofs.Reading.{digits-most}
use Rattle.text.proofs.Writing.{digits-length}
use Rattle.spelling.specs.Words.{field_of, operand_of, operand_text, word_text, text_of}
use Rattle.spelling.specs.Candidate.{bytes_of, is_octal, number_at}
use Rattle.spelling.proofs.Lines.{field_most, field-most}
use Rattle.readback.proofs.Numbers.{digits-octal, number_read, Shown, shown-wide}
use Rattle.readback.proofs.Simple.{number-text, digit-text}

-- the words from a place on, if all before them are of one byte; else none
unfoldable pub from : List ℕ → ℕ → List ℕ
from ws zero = ws
from [] (suc p) = []
from (w ∷ ws) (suc p) = let later = from ws p in pick (ltb w 133) later []

-- the byte of a word of one
abbrev pub byte_of : ℕ → ℕ → ℕ
byte_of w x = pick (ltb w 128) w (48 + field_of (w - 128) x 0)

-- the word at a place, 255 if none is known
abbrev pub word_at : List ℕ → ℕ → ℕ
word_at ws p = get_or (from ws p) 0 255

-- constants that are fields, and 64 - jk
abbrev pub is_number : ℕ → Bool
is_number w = ltb w 136 || eqb w 149

-- how many digits one has at most
abbrev pub widest : ℕ → ℕ
widest w = pick (eqb w 149) 3 (field_most (w - 128))

-- a text is p bytes, and then the text s
pub record Past (t : List ℕ) (p : ℕ) (s : List ℕ) : Type 0 where
  pub before : List ℕ
  pub size : length before ≡ p
  pub whole : t ≡ before ++ s

-- a byte past them
byte_past : (t before s : List ℕ) (p q : ℕ) → t ≡ before ++ s → length before ≡ p → get_or t (p + q) 10 ≡ get_or s q 10
byte_past t before s p q e size = rw (e, ← size) (get_or-append-add before s q 10)

past-byte : {t s : List ℕ} {p : ℕ} → Past t p s → (rest : List ℕ) (q : ℕ) → get_or (t ++ rest) (p + q) 10 ≡ get_or (s ++ rest) q 10
past-byte {t} {s} {p} past rest q =
    byte_past (t ++ rest) past.before (s ++ rest) p q (ap (λ (l : List ℕ). l ++ rest) past.whole ∙ append_assoc past.before s rest) past.size

pub past-size : {t s : List ℕ} {p : ℕ} → Past t p s → length t ≡ p + length s
past-size {t} {s} {p} past = ap length past.whole ∙ length-append past.before s ∙ ap (λ (n : ℕ). n + length s) past.size

module _ (x m : ℕ) where
  byte-text : (w : ℕ) → ltb w 133 ≡ true → word_text w x m ≡ byte_of w x ∷ []
  byte-text w short = go (ltb w 128) refl
    where
      go : (b : Bool) → ltb w 128 ≡ b → word_text w x m ≡ pick b w (48 + field_of (w - 128) x 0) ∷ []
      go true e = rw e
      go false e =
          let past = ltb-false w 128 e in
          let less = ltb-true w 133 short in
          let same : 128 + (w - 128) ≡ w = omega arith in
          ap (λ (v : ℕ). word_text v x m) (sym same) ∙ digit-text x m (w - 128) (omega arith)

  pub from_place : (ws : List ℕ) (p v : ℕ) (vs : List ℕ) → from ws p ≡ v ∷ vs → Past (text_of ws x m) p (text_of (v ∷ vs) x m)
  unfolding from text_of
  from_place ws zero v vs e = record { before = []; size = refl; whole = ap (λ (l : List ℕ). text_of l x m) e }
  from_place [] (suc p) v vs e = let z : ◌≡◌ {A = ℕ} 0 1 = cc in absurd (omega arith)
  from_place (w ∷ ws) (suc p) v vs e = go (ltb w 133) refl e (from_place ws p v vs)
    where
      go : (b : Bool) → ltb w 133 ≡ b → pick b (from ws p) [] ≡ v ∷ vs
          → (from ws p ≡ v ∷ vs → Past (text_of ws x m) p (text_of (v ∷ vs) x m)) → Past (text_of (w ∷ ws) x m) (suc p) (text_of (v ∷ vs) x m)
      go true is e later =
          let t = later e in
          record { before = byte_of w x ∷ t.before; size = ap suc t.size; whole = rw (byte-text w is) (ap (λ (l : List ℕ). byte_of w x ∷ l) t.whole) }
      go false is e later = let z : ◌≡◌ {A = ℕ} 0 1 = cc in absurd (omega arith)

  -- the first byte there
  first-there : (ws rest : List ℕ) (p v : ℕ) (vs : List ℕ) → from ws p ≡ v ∷ vs
      → get_or (text_of ws x m ++ rest) p 10 ≡ get_or (word_text v x m ++ (text_of vs x m ++ rest)) 0 10
  unfolding text_of
  first-there ws rest p v vs e =
      let place : p + 0 ≡ p = omega arith in
      let here : get_or (text_of ws x m ++ rest) (p + 0) 10 ≡ get_or (text_of (v ∷ vs) x m ++ rest) 0 10 = past-byte (from_place ws p v vs e) rest 0 in
      ap (λ (q : ℕ). get_or (text_of ws x m ++ rest) q 10) (sym place) ∙ here
      ∙ ap (λ (l : List ℕ). get_or l 0 10) (append_assoc (word_text v x m) (text_of vs x m) rest)

  -- it is known of a word of one byte
  pub byte_at : (ws rest : List ℕ) (p : ℕ) → ltb (word_at ws p) 133 ≡ true → get_or (text_of ws x m ++ rest) p 10 ≡ byte_of (word_at ws p) x
  byte_at ws rest p short = go (from ws p) refl short
    where
      go : (l : List ℕ) → from ws p ≡ l → ltb (get_or l 0 255) 133 ≡ true → get_or (text_of ws x m ++ rest) p 10 ≡ byte_of (get_or l 0 255) x
      go [] e short = let z : ◌≡◌ {A = ℕ} 0 1 = cc in absurd (omega arith)
      go (v ∷ vs) e short = first-there ws rest p v vs e ∙ rw (byte-text v short)

  -- the value of a number, and its text
  abbrev pub value_of : ℕ → ℕ
  value_of w = pick (eqb w 149) (64 - jk_of x) (field_of (w - 128) x m)

  value-text : (w : ℕ) → ltb w 128 ≡ false → is_number w ≡ true → word_text w x m ≡ shown 8 1 (value_of w)
  unfolding operand_of operand_text
  value-text w high is = go (ltb w 136) (eqb w 149) refl refl is
    where
      go : (a b : Bool) → ltb w 136 ≡ a → eqb w 149 ≡ b → a || b ≡ true → word_text w x m ≡ shown 8 1 (pick b (64 - jk_of x) (field_of (w - 128) x m))
      go a true e f is = rw (eqb-true w 149 f)
      go true false e f is =
          let past = ltb-false w 128 high in
          let less = ltb-true w 136 e in
          let same : 128 + (w - 128) ≡ w = omega arith in
          ap (λ (v : ℕ). word_text v x m) (sym same) ∙ number-text x m (w - 128) (omega arith)
      go false false e f is = let z : ◌≡◌ {A = ℕ} 0 1 = cc in absurd (omega arith)

  -- its first byte is an octal digit
  pub octal-at : (ws rest : List ℕ) (p : ℕ) → ltb (word_at ws p) 128 ≡ false → is_number (word_at ws p) ≡ true → is_octal (get_or (text_of ws x m ++ rest) p 10) ≡ true
  octal-at ws rest p high is = go (from ws p) refl high is
    where
      go : (l : List ℕ) → from ws p ≡ l → ltb (get_or l 0 255) 128 ≡ false → is_number (get_or l 0 255) ≡ true → is_octal (get_or (text_of ws x m ++ rest) p 10) ≡ true
      go [] e high is = let z : ◌≡◌ {A = ℕ} 0 1 = cc in absurd (omega arith)
      go (v ∷ vs) e high is =
          let n = shown-wide (value_of v) in
          rw (first-there ws rest p v vs e, value-text v high is, n.text) (digits-octal n.width (value_of v) 0 (text_of vs x m ++ rest) n.some)

  -- and it has no more digits than its field needs
  value-below : m < 65536 → (w : ℕ) → (0 < widest w) × (widest w ≤ 8) × (value_of w < 8 ^ widest w)
  value-below h w = let most = field-most (w - 128) x m h in go (eqb w 149) (most.0, most.1, most.2)
    where
      go : (b : Bool) → (0 < field_most (w - 128)) × (field_most (w - 128) ≤ 8) × (field_of (w - 128) x m < 8 ^ field_most (w - 128))
          → (0 < pick b 3 (field_most (w - 128))) × (pick b 3 (field_most (w - 128)) ≤ 8)
          × (pick b (64 - jk_of x) (field_of (w - 128) x m) < 8 ^ pick b 3 (field_most (w - 128)))
      go true l = omega arith
      go false l = l

-- the number w stands from place p on, and the words vs after it: its value and its end are read, and the bytes past it are theirs
pub record Read (x m p w : ℕ) (ws vs rest : List ℕ) : Type 0 where
  pub width : ℕ
  pub some : 1 ≤ width
  pub number : number_at (bytes_of (text_of ws x m ++ rest)) p ≡ record { value = value_of x m w; end = p + width }
  pub inside : (q : ℕ) → q < width → is_octal (get_or (text_of ws x m ++ rest) (p + q) 10) ≡ true
  pub past : (q : ℕ) → get_or (text_of ws x m ++ rest) (p + width + q) 10 ≡ get_or (text_of vs x m ++ rest) q 10
  pub size : length (text_of ws x m) ≡ p + width + length (text_of vs x m)

module _ (x m : ℕ) (m-below : m < 65536) (p w : ℕ) (ws vs rest : List ℕ) where
  pub number-from : from ws p ≡ w ∷ vs → p + widest w ≤ 16 → ltb w 128 ≡ false → is_number w ≡ true → is_octal (get_or (text_of vs x m ++ rest) 0 10) ≡ false
      → Read x m p w ws vs rest
  unfolding text_of
  number-from e low high is other =
      record {
        width = k;
        some = n.some;
        number =
            ap (number_at (bytes_of s)) (sym front.size)
            ∙ number_read s front.before k v after split n.below less room other
            ∙ ap (λ (q : ℕ). record { value = v; end = q + k }) front.size;
        inside = λ q l. rw (place q) (digits-octal k v q after l);
        past = later;
        size = sum;
      }
    where
      s : List ℕ
      s = text_of ws x m ++ rest

      after : List ℕ
      after = text_of vs x m ++ rest

      v : ℕ
      v = value_of x m w

      n : Shown v
      n = shown-wide v

      k : ℕ
      k = n.width

      front : Past (text_of ws x m) p (text_of (w ∷ vs) x m)
      front = from_place x m ws p w vs e

      small : (0 < widest w) × (widest w ≤ 8) × (v < 8 ^ widest w)
      small = value-below x m m-below w

      less : v < 2 ^ 32
      less = let l = digits-most 8 v (widest w) 8 (omega arith) small.2 small.1 in omega (arith, l)

      room : length front.before + k ≤ 16
      room = let a = front.size in let b = n.most (widest w) small.0 small.2 in omega (arith, a, b)

      split : s ≡ front.before ++ (digits 8 k v ++ after)
      split =
          ap (λ (l : List ℕ). l ++ rest) front.whole
          ∙ append_assoc front.before (word_text w x m ++ text_of vs x m) rest
          ∙ ap (λ (l : List ℕ). front.before ++ l)
          (append_assoc (word_text w x m) (text_of vs x m) rest ∙ ap (λ (l : List ℕ). l ++ after) (value-text x m w high is ∙ n.text))

      place : (q : ℕ) → get_or s (p + q) 10 ≡ get_or (digits 8 k v ++ after) q 10
      place q = byte_past s front.before (digits 8 k v ++ after) p q split front.size

      later : (q : ℕ) → get_or s (p + k + q) 10 ≡ get_or after q 10
      later q =
          let sum : p + k + q ≡ p + (k + q) = omega arith in
          ap (λ (at : ℕ). get_or s at 10) sum ∙ place (k + q) ∙ byte_past (digits 8 k v ++ after) (digits 8 k v) after k q refl (digits-length 8 k v)

      sum : length (text_of ws x m) ≡ p + k + length (text_of vs x m)
      sum =
          let a = past-size front in
          let b = length-append (word_text w x m) (text_of vs x m) in
          let c = ap length (value-text x m w high is ∙ n.text) ∙ digits-length 8 k v in
          omega (arith, a, b, c)
