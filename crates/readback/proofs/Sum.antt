-- The guess by a row's plan, where the places of the plan are those of the line's simple words. Assumes nothing.
use Prim.Native.Nat.{ℕ, zero, suc, ◌+◌, ◌-◌, ◌*◌, ◌%◌, ◌≤◌, ◌<◌}
use mathlib.Core.Path.{◌≡◌, refl, sym, ap, ◌∙◌, subst}
use mathlib.Core.Bool.{Bool, true, false, ◌&&◌, ◌||◌}
use mathlib.Core.List.{List, [], ◌∷◌, ◌++◌}
use native.Mathlib.Omega.{arith}
use lib.ListN.{length, get_or}
use lib.Dec.{eqb, ltb, leb}
use borrow.Author.Tests.{eqb-true, ltb-true, leb-true, lt-ltb, le-ltb}
use Rattle.machine.specs.Word.{pick}
use Rattle.machine.specs.Parcel.{h_of, i_of, j_of, k_of}
use Rattle.spelling.specs.Words.{field_of, text_of}
use Rattle.spelling.specs.Candidate.{bytes_of, number_at, Guess, one, digit_at, with_number, guess_with}
use Rattle.spelling.proofs.Entries.{both_hold}
use Rattle.spelling.proofs.Table.{same, same-eq}
use Rattle.readback.proofs.Simple.{field-digit}
use Rattle.readback.proofs.Places.{from, word_at, widest, byte_at, from_place, past-size, number-from}
use Rattle.readback.proofs.Row.{stored}

-- the digit of the field f stands at place p, if that is not 0
abbrev stands_at : ℕ → ℕ → List ℕ → Bool
stands_at f p ws = eqb p 0 || eqb (word_at ws p) (128 + f)

abbrev given : ℕ → ℕ → ℕ
given p d = pick (eqb p 0) 0 d

module _ (x m : ℕ) (ws rest : List ℕ) where
  field_at : (f p : ℕ) → f < 5 → word_at ws p ≡ 128 + f → get_or (text_of ws x m ++ rest) p 10 % 8 ≡ field_of f x 0
  field_at f p small is =
      let short : ltb (word_at ws p) 133 ≡ true = lt-ltb (word_at ws p) 133 (omega (arith, is)) in
      let high : 128 ≤ 128 + f = omega arith in
      let code : 128 + f - 128 ≡ f = omega arith in
      let byte : get_or (text_of ws x m ++ rest) p 10 ≡ 48 + field_of f x 0 = byte_at x m ws rest p short ∙ rw (is, le-ltb (128 + f) 128 high, code) in
      let digit = (field-digit x m f small).1 in
      omega (arith, byte, digit)

  digit_at_lem : (f p : ℕ) → f < 5 → stands_at f p ws ≡ true → digit_at (bytes_of (text_of ws x m ++ rest)) p ≡ given p (field_of f x 0)
  digit_at_lem f p small e = go (eqb p 0) e
    where
      go : (b : Bool) → b || eqb (word_at ws p) (128 + f) ≡ true → pick b 0 (get_or (text_of ws x m ++ rest) p 10 % 8) ≡ pick b 0 (field_of f x 0)
      go true e = refl
      go false e = field_at f p small (eqb-true (word_at ws p) (128 + f) e)

-- how the words of a line end, from its number on, by the number's kind
abbrev loaded : List ℕ
loaded = 44 ∷ 65 ∷ 129 ∷ 10 ∷ []

data Ending : ℕ → List ℕ → Type 0 where
  no_number : Ending 0 (10 ∷ [])
  ends-jk : Ending 1 (133 ∷ 10 ∷ [])
  ends-jkm : Ending 2 (134 ∷ 10 ∷ [])
  ends-ijkm : Ending 2 (135 ∷ 10 ∷ [])
  ends-64-jk : Ending 3 (149 ∷ 10 ∷ [])
  ends-load : Ending 4 (134 ∷ loaded)
  ends-store : (a : ℕ) → ltb a 128 ≡ true → Ending 5 (134 ∷ stored a)

unfoldable pub ends_as : ℕ → List ℕ → Bool
ends_as zero l = same l (10 ∷ [])
ends_as (suc zero) l = same l (133 ∷ 10 ∷ [])
ends_as (suc (suc zero)) l = same l (134 ∷ 10 ∷ []) || same l (135 ∷ 10 ∷ [])
ends_as (suc (suc (suc zero))) l = same l (149 ∷ 10 ∷ [])
ends_as (suc (suc (suc (suc zero)))) l = same l (134 ∷ loaded)
ends_as (suc (suc (suc (suc (suc zero))))) l = same l (134 ∷ stored (get_or l 5 0)) && ltb (get_or l 5 0) 128
ends_as (suc (suc (suc (suc (suc (suc kind)))))) l = false

ending : (kind : ℕ) (l : List ℕ) → ends_as kind l ≡ true → Ending kind l
unfolding ends_as
ending zero l e = rw (same-eq l (10 ∷ []) e) no_number
ending (suc zero) l e = rw (same-eq l (133 ∷ 10 ∷ []) e) ends-jk
ending (suc (suc zero)) l e = go (same l (134 ∷ 10 ∷ [])) (same l (135 ∷ 10 ∷ [])) refl refl e
  where
    go : (a b : Bool) → same l (134 ∷ 10 ∷ []) ≡ a → same l (135 ∷ 10 ∷ []) ≡ b → a || b ≡ true → Ending 2 l
    go true b e f h = rw (same-eq l (134 ∷ 10 ∷ []) e) ends-jkm
    go false true e f h = rw (same-eq l (135 ∷ 10 ∷ []) f) ends-ijkm
    go false false e f h = let z : ◌≡◌ {A = ℕ} 0 1 = cc in absurd (omega arith)
ending (suc (suc (suc zero))) l e = rw (same-eq l (149 ∷ 10 ∷ []) e) ends-64-jk
ending (suc (suc (suc (suc zero)))) l e = rw (same-eq l (134 ∷ loaded) e) ends-load
ending (suc (suc (suc (suc (suc zero))))) l e =
    let t = both_hold (same l (134 ∷ stored (get_or l 5 0))) (ltb (get_or l 5 0) 128) e in
    subst (Ending 5) (sym (same-eq l (134 ∷ stored (get_or l 5 0)) t.0)) (ends-store (get_or l 5 0) t.1)
ending (suc (suc (suc (suc (suc (suc kind)))))) l e = let z : ◌≡◌ {A = ℕ} 0 1 = cc in absurd (omega arith)

-- whether such a line has two parcels, and what of the first parcel stands there, w being the first of those words
abbrev pub of_two : ℕ → Bool
of_two kind = eqb kind 2 || leb 4 kind

abbrev end_part : ℕ → ℕ → ℕ → ℕ
end_part kind w x = pick (eqb kind 0) 0 (pick (eqb w 135) (x % 256) (x % 64)) + pick (leb 4 kind) (h_of x * 512) 0 + pick (eqb kind 5) (i_of x * 64) 0

-- a guess is that of the parcels x and m, or of x alone, whose line has n bytes
pub record Right (g : Guess) (x m : ℕ) (sec : Bool) (n : ℕ) : Type 0 where
  pub first : g.first ≡ x
  pub second : sec ≡ true → g.second ≡ m
  pub two : g.two ≡ sec
  pub size : g.length ≡ n

-- the guess, y being the first parcel without what stands from place p on
module _ (x m : ℕ) (x_below : x < 65536) (m-below : m < 65536) (p y : ℕ) (ws rest : List ℕ) where
  abbrev bytes : ℕ → ℕ
  bytes = bytes_of (text_of ws x m ++ rest)

  abbrev guessed : ℕ → Guess
  guessed kind = pick (eqb kind 0) (one y (p + 1)) (with_number bytes kind y (number_at bytes p))

  with-end : (kind : ℕ) (l : List ℕ) → Ending kind l → from ws p ≡ l → p + widest (get_or l 0 255) ≤ 16 → y + end_part kind (get_or l 0 255) x ≡ x
      → Right (guessed kind) x m (of_two kind) (length (text_of ws x m))
  unfolding with_number text_of from
  with-end kind l no_number e low sum =
      let end = past-size (from_place x m ws p 10 [] e) in
      record { first = omega (arith, sum); second = λ is. cc; two = refl; size = sym end }
  with-end kind l ends-jk e low sum =
      let n = number-from x m m-below p 133 ws (10 ∷ []) rest e low refl refl refl in
      rw n.number (record { first = omega (arith, sum); second = λ is. cc; two = refl; size = sym n.size })
  with-end kind l ends-jkm e low sum =
      let n = number-from x m m-below p 134 ws (10 ∷ []) rest e low refl refl refl in
      rw n.number (record { first = omega (arith, sum); second = λ is. omega arith; two = refl; size = sym n.size })
  with-end kind l ends-ijkm e low sum =
      let n = number-from x m m-below p 135 ws (10 ∷ []) rest e low refl refl refl in
      rw n.number (record { first = omega (arith, sum); second = λ is. omega arith; two = refl; size = sym n.size })
  with-end kind l ends-64-jk e low sum =
      let n = number-from x m m-below p 149 ws (10 ∷ []) rest e low refl refl refl in
      rw n.number (record { first = omega (arith, sum); second = λ is. cc; two = refl; size = sym n.size })
  with-end kind l ends-load e low sum =
      let n = number-from x m m-below p 134 ws loaded rest e low refl refl refl in
      let is-h : bytes (p + n.width + 2) % 8 ≡ h_of x = ap (λ (b : ℕ). b % 8) (n.past 2) ∙ field_at x m loaded rest 1 2 (omega arith) refl in
      let end = past-size (from_place x m loaded 3 10 [] refl) in
      rw (n.number, is-h) (record { first = omega (arith, sum); second = λ is. omega arith; two = refl; size = sym (n.size ∙ rw end (omega arith)) })
  with-end kind l (ends-store a sign) e low sum =
      let small = ltb-true a 128 sign in
      let short : ltb a 133 ≡ true = lt-ltb a 133 (omega (arith, small)) in
      let n = number-from x m m-below p 134 ws (stored a) rest e low refl refl refl in
      let is-h : bytes (p + n.width + 2) % 8 ≡ h_of x = ap (λ (b : ℕ). b % 8) (n.past 2) ∙ field_at x m (stored a) rest 1 2 (omega arith) refl in
      let is-i : bytes (p + n.width + 5) % 8 ≡ i_of x = ap (λ (b : ℕ). b % 8) (n.past 5) ∙ field_at x m (stored a) rest 2 5 (omega arith) (rw short) in
      let end = past-size (from_place x m (stored a) 6 10 [] (rw short)) in
      rw (n.number, is-h, is-i) (record { first = omega (arith, sum); second = λ is. omega arith; two = refl; size = sym (n.size ∙ rw end (omega arith)) })

-- the first parcel by the numbers of a plan
abbrev pub sum_by : ℕ → ℕ → ℕ → ℕ → ℕ → ℕ → ℕ → ℕ → ℕ
sum_by base h i j k kind w x = base + given h (h_of x) * 512 + given i (i_of x) * 64 + given j (j_of x) * 8 + given k (k_of x) + end_part kind w x

-- each of them computed once, and the word at the number's place
abbrev pub planned : {A : Type 0} → List ℕ → List ℕ → (ℕ → ℕ → ℕ → ℕ → ℕ → ℕ → ℕ → A) → A
planned plan ws f =
    let base = get_or plan 0 0 in
    let h = get_or plan 1 0 in
    let i = get_or plan 2 0 in
    let j = get_or plan 3 0 in
    let k = get_or plan 4 0 in
    let kind = get_or plan 6 0 in
    let w = word_at ws (get_or plan 5 0) in
    f base h i j k kind w

-- the places of a plan are right
abbrev pub plan_right : List ℕ → List ℕ → Bool
plan_right plan ws =
    let p = get_or plan 5 0 in
    stands_at 1 (get_or plan 1 0) ws
    && (stands_at 2 (get_or plan 2 0) ws
    && (stands_at 3 (get_or plan 3 0) ws
    && (stands_at 4 (get_or plan 4 0) ws
    && (leb (p + widest (word_at ws p)) 16
    && ends_as (get_or plan 6 0) (from ws p)))))

module _ (x m : ℕ) (x_below : x < 65536) (m-below : m < 65536) (plan ws rest : List ℕ) where
  pub plan-guess : plan_right plan ws ≡ true → planned plan ws (λ base h i j k kind w. sum_by base h i j k kind w x) ≡ x
      → Right (guess_with (bytes_of (text_of ws x m ++ rest)) plan) x m (of_two (get_or plan 6 0)) (length (text_of ws x m))
  unfolding guess_with
  plan-guess right sum =
      let p = get_or plan 5 0 in
      let a = both_hold (stands_at 1 (get_or plan 1 0) ws) _ right in
      let b = both_hold (stands_at 2 (get_or plan 2 0) ws) _ a.1 in
      let c = both_hold (stands_at 3 (get_or plan 3 0) ws) _ b.1 in
      let d = both_hold (stands_at 4 (get_or plan 4 0) ws) _ c.1 in
      let e = both_hold (leb (p + widest (word_at ws p)) 16) (ends_as (get_or plan 6 0) (from ws p)) d.1 in
      let is-h = digit_at_lem x m ws rest 1 (get_or plan 1 0) (omega arith) a.0 in
      let is-i = digit_at_lem x m ws rest 2 (get_or plan 2 0) (omega arith) b.0 in
      let is-j = digit_at_lem x m ws rest 3 (get_or plan 3 0) (omega arith) c.0 in
      let is-k = digit_at_lem x m ws rest 4 (get_or plan 4 0) (omega arith) d.0 in
      rw (is-h, is-i, is-j, is-k)
      (with-end x m x_below m-below p _ ws rest (get_or plan 6 0) (from ws p) (ending (get_or plan 6 0) (from ws p) e.1) refl (leb-true _ 16 e.0) sum)
