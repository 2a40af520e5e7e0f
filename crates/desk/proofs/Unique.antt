-- Two results of the programs that assemble and list that the statements allow are equal: the bytes, how many, and the room. Assumes
-- nothing.
use Rattle.std.specs.Prelude.{Result, Ok, Err}
use Prim.Native.Nat.{ℕ}
use mathlib.Core.Path.{◌≡◌, sym, ap, ◌∙◌, subst}
use mathlib.Core.List.{List}
use native.Mathlib.Omega.{arith}
use lib.ListN.{length, take}
use lib.Seq.{length-take-le}
use Rattle.text.specs.Report.{Wrote}
use Rattle.text.proofs.Unique.{wrote-unique}
use Rattle.spelling.specs.Listing.{parcels_in}
use Rattle.desk.specs.declared.Refused.{Refused}
use Rattle.desk.specs.Desk.{Given, cal_given, octal_given, room_given, cal_of, cal_words_of, listing_of, wide_line, Gives}

module _ (room room' room'' out out' out'' : List ℕ) where
  -- an answer and the room after it: one law of the three programs
  abbrev Answers : List ℕ → Given → List ℕ → List ℕ → ℕ → Type 0
  Answers xs g after left n = Wrote out 0 xs left n × (after ≡ room_given g room)

  once : (xs : List ℕ) (g : Given) (n n' : ℕ) → Answers xs g room' out' n → Answers xs g room'' out'' n'
      → (out' ≡ out'') × (n ≡ n') × (room' ≡ room'')
  once xs g n n' h h' =
      let w = wrote-unique out 0 xs out' out'' n n' h.0 h'.0 in (w.0, w.1, h.1 ∙ sym h'.1)

  module _ (m a : ℕ) (text : List ℕ) (n n' : ℕ) where
    pub cal-unique : Answers (cal_of (length room) text) (cal_given (length room) text) room' out' n
        → Answers (cal_of (length room) text) (cal_given (length room) text) room'' out'' n' → (out' ≡ out'') × (n ≡ n') × (room' ≡ room'')
    cal-unique = once _ (cal_given (length room) text) n n'

    pub words-unique : Answers (cal_words_of (length room) a text) (cal_given (length room) text) room' out' n
        → Answers (cal_words_of (length room) a text) (cal_given (length room) text) room'' out'' n' → (out' ≡ out'') × (n ≡ n') × (room' ≡ room'')
    words-unique = once _ (cal_given (length room) text) n n'

    pub listing-unique : Answers (listing_of (length room) m text) (octal_given (length room) text) room' out' n
        → Answers (listing_of (length room) m text) (octal_given (length room) text) room'' out'' n' → (out' ≡ out'') × (n ≡ n') × (room' ≡ room'')
    listing-unique = once _ (octal_given (length room) text) n n'

  -- what a text gives
  given : (g : Given) (r r' : Result ℕ Refused) → Gives g room' out out' r → Gives g room'' out out'' r' → (r ≡ r') × (out' ≡ out'')
  given g (Ok n) (Ok m) h k =
      let same : take n room' ≡ take m room'' = let e = sym h.0 ∙ k.0 in cc in
      let count : n ≡ m = sym (length-take-le n room' h.1) ∙ ap length same ∙ length-take-le m room'' k.1 in
      (ap Ok count, h.3 ∙ sym k.3)
  given g (Ok n) (Err m) h k = let e = sym h.0 ∙ k.0.1 in let z : ◌≡◌ {A = ℕ} 0 1 = cc in absurd (omega arith)
  given g (Err n) (Ok m) h k = let e = sym k.0 ∙ h.0.1 in let z : ◌≡◌ {A = ℕ} 0 1 = cc in absurd (omega arith)
  given g (Err n) (Err m) h k =
      let a = h.0 in
      let b = k.0 in
      let same : b.0 ≡ a.0 = let e = sym a.1 ∙ b.1 in cc in
      let w = wrote-unique out 0 a.0 out' out'' n.bytes m.bytes a.2 (subst (λ (s : List ℕ). Wrote out 0 s out'' m.bytes) same b.2) in
      (ap (λ (j : ℕ). Err (record { bytes = j })) w.1, w.0)

  pub read-unique : (text : List ℕ) (r r' : Result ℕ Refused)
      → Gives (octal_given (length room) text) room' out out' r × (room' ≡ room_given (octal_given (length room) text) room)
      → Gives (octal_given (length room) text) room'' out out'' r' × (room'' ≡ room_given (octal_given (length room) text) room)
      → (r ≡ r') × (out' ≡ out'') × (room' ≡ room'')
  read-unique text r r' h k = let u = given _ r r' h.0 k.0 in (u.0, u.1, h.1 ∙ sym k.1)

-- a line of `listing -w`: its bytes, and how many parcels it takes
pub line-unique : (a : ℕ) (parcels out out' out'' : List ℕ) (n n' p p' : ℕ) → Wrote out 0 (wide_line a parcels) out' n × (p ≡ parcels_in parcels)
    → Wrote out 0 (wide_line a parcels) out'' n' × (p' ≡ parcels_in parcels) → (out' ≡ out'') × (n ≡ n') × (p ≡ p')
line-unique a parcels out out' out'' n n' p p' h k =
    let w = wrote-unique out 0 _ out' out'' n n' h.0 k.0 in (w.0, w.1, h.1 ∙ sym k.1)
