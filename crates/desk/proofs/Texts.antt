-- What a text gives, as the functions that read it answer; and the texts written of it. Assumes nothing.
use Rattle.std.specs.Prelude.{Option, Some, None, Result, Ok, Err}
use mathlib.Core.Path.{◌≡◌, refl, sym, ap, ◌∙◌, subst}
use mathlib.Core.Bool.{Bool, true, false}
use mathlib.Core.List.{List}
use Prim.Native.Nat.{ℕ, ◌+◌, ◌/◌, ◌≤◌, ◌<◌}
use native.Mathlib.Omega.{arith}
use lib.ListN.{length, take, drop}
use lib.Seq.{sets, sets-eq, take_at, length-sets}
use lib.Dec.{leb}
use borrow.Author.Tests.{le-leb, lt-leb, lt-ltb, le-ltb, leb-true}
use Rattle.machine.specs.Word.{pick}
use Rattle.text.specs.Report.{Wrote}
use Rattle.text.proofs.Writing.{wrote_as}
use Rattle.spelling.specs.Listing.{list_of, listed, room_listed}
use Rattle.spelling.specs.declared.TooLong.{TooLong}
use Rattle.spelling.specs.declared.ReadError.TheVariants.{Overfull}
use Rattle.spelling.specs.Assembling as cal
use Rattle.spelling.specs.Assembling.{read_of, assembled_to, room_after, assembled, room_assembled}
use Rattle.octal.specs.Lines as octal
use Rattle.octal.specs.Lines.{octal_by, octal_of, read_to, room_to, parcels_from, first_bad}
use Rattle.octal.specs.Words.{words_for, words_text}
use Rattle.octal.specs.Refusals.{refused_text, refused_line}
use Rattle.octal.proofs.Line.{parcels-length}
use Rattle.desk.specs.Desk.{Given, some, refusal, in_room, cal_read, cal_given, octal_read, octal_given, room_given, answered, sheet_words, listed_in}
use Rattle.desk.specs.Desk.{Stands}
use Rattle.desk.proofs.Most.{read-most}

-- what is stored from the start of a room on is found there
pub stored : (room ps : List ℕ) → length ps ≤ length room → take (length ps) (sets room 0 ps) ≡ ps
stored room ps h = rw (sets-eq ps room 0 (omega arith)) (take_at ps (drop (0 + length ps) room) (length ps) refl)

-- a line of octal is longer than its parcel
octal-most : (text ps : List ℕ) → octal_of text ≡ octal.all_read ps → length ps ≤ length text
unfolding octal_of
octal-most text ps e = go (first_bad text) e
  where
    go : (b : Option ℕ) → octal_by text b ≡ octal.all_read ps → length ps ≤ length text
    go None f =
        let same : parcels_from (length text / 7) text 0 ≡ ps = cc in
        let n = sym (ap length same) ∙ parcels-length text (length text / 7) 0 in
        omega (arith, n)
    go (Some line) f = let z : ◌≡◌ {A = ℕ} 0 1 = cc in absurd (omega arith)

-- what a text leaves in the room
pub refused-room : (room : List ℕ) (g : Given) (s : List ℕ) → g ≡ refusal s → room ≡ room_given g room
refused-room room g s e = sym (ap (λ (h : Given). room_given h room) e)

module _ (text room : List ℕ) where
  left_by : (ps s : List ℕ) (t : Bool) → pick t (sets room 0 ps) room ≡ room_given (pick t (some ps) (refusal s)) room
  left_by ps s true = refl
  left_by ps s false = refl

  pub cal-room : length text ≤ 1048576 → room_assembled text room ≡ room_given (cal_given (length room) text) room
  unfolding room_assembled cal_given
  cal-room short = simp (le-ltb 1048576 (length text) short) (go (read_of text))
    where
      go : (r : cal.Reading) → room_after room r ≡ room_given (cal_read (length room) r) room
      go (cal.all_read ps) = left_by ps (refused_text 18) (leb (length ps) (length room))
      go (cal.wrong k) = refl

  pub octal-room : length text ≤ 1048576 → room_to room (octal_of text) ≡ room_given (octal_given (length room) text) room
  unfolding octal_given
  octal-room short = simp (le-ltb 1048576 (length text) short) (go (octal_of text))
    where
      go : (r : octal.Octal) → room_to room r ≡ room_given (octal_read (length room) r) room
      go (octal.all_read ps) = left_by ps (refused_text 18) (leb (length ps) (length room))
      go (octal.wrong k) = refl

-- a text that is not too long: its parcels are in the room, where they fit
module _ (text room room' : List ℕ) (short : length text ≤ 1048576) where
  parcels-stand : (ps : List ℕ) → length ps ≤ length text → room' ≡ pick (leb (length ps) (length room)) (sets room 0 ps) room
      → Stands (in_room (length room) ps) room' (pick (leb (length ps) (length room)) (Ok (length ps)) (Err Overfull))
  parcels-stand ps few after = go (leb (length ps) (length room)) refl after
    where
      go : (t : Bool) → leb (length ps) (length room) ≡ t → room' ≡ pick t (sets room 0 ps) room
          → Stands (pick t (some ps) (refusal (refused_text 18))) room' (pick t (Ok (length ps)) (Err Overfull))
      go false h g = refl
      go true h g =
          let fits = leb-true _ _ h in
          (ap some (sym (ap (take (length ps)) g ∙ stored room ps fits)), omega (arith, fits, ap length g ∙ length-sets room 0 ps), omega arith)

  cal-short : cal_given (length room) text ≡ cal_read (length room) (read_of text)
  unfolding cal_given
  cal-short = simp (le-ltb 1048576 (length text) short)

  pub cal-stands : room' ≡ room_assembled text room → Stands (cal_given (length room) text) room' (assembled text room)
  unfolding assembled room_assembled
  cal-stands after = subst (λ (g : Given). Stands g room' (assembled_to room (read_of text))) (sym cal-short) (go (read_of text) refl after)
    where
      go : (r : cal.Reading) → read_of text ≡ r → room' ≡ room_after room r → Stands (cal_read (length room) r) room' (assembled_to room r)
      go (cal.all_read ps) e g = parcels-stand ps (read-most text ps e) g
      go (cal.wrong k) e g = refl

  octal-short : octal_given (length room) text ≡ octal_read (length room) (octal_of text)
  unfolding octal_given
  octal-short = simp (le-ltb 1048576 (length text) short)

  pub octal-stands : room' ≡ room_to room (octal_of text) → Stands (octal_given (length room) text) room' (read_to room (octal_of text))
  octal-stands after = subst (λ (g : Given). Stands g room' (read_to room (octal_of text))) (sym octal-short) (go (octal_of text) refl after)
    where
      go : (r : octal.Octal) → octal_of text ≡ r → room' ≡ room_to room r → Stands (octal_read (length room) r) room' (read_to room r)
      go (octal.all_read ps) e g = parcels-stand ps (octal-most text ps e) g
      go (octal.wrong k) e g = refl

-- one that is
module _ (n : ℕ) (text : List ℕ) (long : 1048576 < length text) where
  pub cal-long : cal_given n text ≡ refusal (refused_line 10 0)
  unfolding cal_given
  cal-long = simp (lt-ltb _ _ long)

  pub octal-long : octal_given n text ≡ refusal (refused_line 10 0)
  unfolding octal_given
  octal-long = simp (lt-ltb _ _ long)

-- what is answered, by what the text gives
pub answer-some : {g : Given} {ps out m : List ℕ} {r : ℕ} (f : List ℕ → List ℕ) → g ≡ some ps → Wrote out 0 (f ps) m r → Wrote out 0 (answered f g) m r
answer-some f e w = wrote_as (simp e) w

pub answer-refusal : {g : Given} {s out m : List ℕ} {r : ℕ} (f : List ℕ → List ℕ) → g ≡ refusal s → Wrote out 0 s m r → Wrote out 0 (answered f g) m r
answer-refusal f e w = wrote_as (simp e) w

-- words, where there is the room from the address on, and where not
module _ (a : ℕ) (ps : List ℕ) where
  pub sheet-fits : a + words_for (length ps) ≤ 4096 → sheet_words a ps ≡ words_text a ps
  unfolding sheet_words
  sheet-fits h = simp (le-leb _ _ h)

  pub sheet-full : 4096 < a + words_for (length ps) → sheet_words a ps ≡ refused_text 18
  unfolding sheet_words
  sheet-full h = simp (lt-leb _ _ h)

-- a listing, and one for which there is not the room
module _ (ps out out' : List ℕ) (after : out' ≡ room_listed ps out) where
  pub listed-fits : (n : ℕ) → Ok n ≡ listed ps out → Wrote out 0 (listed_in (length out) ps) out' n × (n ≤ length out)
  unfolding listed room_listed listed_in
  listed-fits n e = go (leb (length (list_of ps)) (length out)) refl e after
    where
      go : (t : Bool) → leb (length (list_of ps)) (length out) ≡ t → ◌≡◌ {A = Result ℕ TooLong} (Ok n) (pick t (Ok (length (list_of ps))) (Err (record {})))
          → out' ≡ pick t (sets out 0 (list_of ps)) out → Wrote out 0 (pick t (list_of ps) (refused_text 18)) out' n × (n ≤ length out)
      go true h e f =
          let same : length (list_of ps) ≡ n = cc in
          (record { bytes = f; place = omega arith }, omega (arith, leb-true (length (list_of ps)) (length out) h))
      go false h e f = let z : ◌≡◌ {A = ℕ} 0 1 = cc in absurd (omega arith)

  pub listed-full : (e : TooLong) → Err e ≡ listed ps out → (listed_in (length out) ps ≡ refused_text 18) × (out' ≡ out)
  unfolding listed room_listed listed_in
  listed-full r e = go (leb (length (list_of ps)) (length out)) e after
    where
      go : (t : Bool) → ◌≡◌ {A = Result ℕ TooLong} (Err r) (pick t (Ok (length (list_of ps))) (Err (record {}))) → out' ≡ pick t (sets out 0 (list_of ps)) out
          → (pick t (list_of ps) (refused_text 18) ≡ refused_text 18) × (out' ≡ out)
      go true e f = let z : ◌≡◌ {A = ℕ} 0 1 = cc in absurd (omega arith)
      go false e f = (refl, f)
