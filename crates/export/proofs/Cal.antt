-- What assembling and listing leave: refused, the room as it was found. Assumes nothing.
use Rattle.std.specs.Prelude.{Result, Ok, Err}
use Prim.Native.Nat.{ℕ}
use mathlib.Core.Path.{◌≡◌, refl, sym, ap, ◌∙◌}
use mathlib.Core.Bool.{Bool, true, false}
use mathlib.Core.List.{List, [], ◌∷◌}
use lib.ListN.{length}
use lib.Seq.{sets}
use lib.Dec.{eqb, leb}
use Rattle.machine.specs.Word.{pick}
use Rattle.spelling.specs.declared.ReadError.{ReadError}
use Rattle.spelling.specs.declared.ReadError.TheVariants.{BadLine, Overfull}
use Rattle.spelling.specs.declared.TooLong.{TooLong}
use Rattle.spelling.specs.Assembling.{Reading, all_read, wrong, read_of, assembled_to, room_after, assembled, room_assembled, refusal_number, assembled_numbers}
use Rattle.spelling.specs.Listing.{list_of, listed, room_listed, listed_numbers}
use Rattle.numbers.specs.Left.{left, refused}
use Rattle.export.specs.Cal.{reported, after_assemble, after_list}

-- what is made of the room where the number is 0, and else the room
abbrev kept : List ℕ → List ℕ → List ℕ → List ℕ
kept numbers made room = pick (eqb (refused numbers) 0) made room

assembled-kept : (text room : List ℕ) → kept (assembled_numbers (assembled text room)) (room_assembled text room) room ≡ room_assembled text room
unfolding assembled room_assembled
assembled-kept text room = read (read_of text)
  where
    fits : (ps : List ℕ) (t : Bool)
        → kept (assembled_numbers (pick t (Ok (length ps)) (Err Overfull))) (pick t (sets room 0 ps) room) room ≡ pick t (sets room 0 ps) room
    fits ps true = refl
    fits ps false = refl

    read : (r : Reading) → kept (assembled_numbers (assembled_to room r)) (room_after room r) room ≡ room_after room r
    read (all_read ps) = fits ps (leb (length ps) (length room))
    read (wrong n) = refl

pub assemble-leaves : (text room report made : List ℕ) (o : Result ℕ ReadError) → o ≡ assembled text room → made ≡ room_assembled text room
    → left (refused (assembled_numbers o)) [] (made ∷ reported report (assembled_numbers o) ∷ []) ≡ after_assemble text room report
assemble-leaves text room report made o e m = rw (e, m, assembled-kept text room) refl

-- refused, for a bad line or for want of room
module _ (text room report made after : List ℕ) (e : ReadError) (n : ℕ) (i : Err e ≡ assembled text room) (m : made ≡ room_assembled text room)
    (k : n ≡ refusal_number e) where
  pub assemble-bad : (line : ℕ) → e ≡ BadLine line → after ≡ line ∷ [] → left n [] (made ∷ after ∷ []) ≡ after_assemble text room report
  assemble-bad line f a = rw (k ∙ ap refusal_number f, a) (assemble-leaves text room report made (Err (BadLine line)) (ap Err (sym f) ∙ i) m)

  pub assemble-full : e ≡ Overfull → after ≡ report → left n [] (made ∷ after ∷ []) ≡ after_assemble text room report
  assemble-full f a = rw (k ∙ ap refusal_number f, a) (assemble-leaves text room report made (Err Overfull) (ap Err (sym f) ∙ i) m)

listed_kept : (parcels room : List ℕ) → kept (listed_numbers (listed parcels room)) (room_listed parcels room) room ≡ room_listed parcels room
unfolding listed room_listed
listed_kept parcels room = fits (list_of parcels) (leb (length (list_of parcels)) (length room))
  where
    fits : (bs : List ℕ) (t : Bool)
        → kept (listed_numbers (pick t (Ok (length bs)) (Err (record {})))) (pick t (sets room 0 bs) room) room ≡ pick t (sets room 0 bs) room
    fits bs true = refl
    fits bs false = refl

pub list-leaves : (parcels room report made : List ℕ) (o : Result ℕ TooLong) → o ≡ listed parcels room → made ≡ room_listed parcels room
    → left (refused (listed_numbers o)) [] (made ∷ reported report (listed_numbers o) ∷ []) ≡ after_list parcels room report
list-leaves parcels room report made o e m = rw (e, m, listed_kept parcels room) refl
