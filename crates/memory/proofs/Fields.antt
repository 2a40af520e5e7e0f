-- The data field as a window: what is read and stored by places is what the definitions read and store by addresses, and what they perform.
-- Assumes nothing.
use Rattle.std.proofs.Common.{◌≡◌, ℕ, zero, suc, ◌+◌, ◌-◌, ◌*◌, ◌%◌, ◌^◌, Bool, true, false, ◌||◌, eqb, leb, List, length, set, sym}
use Rattle.std.proofs.Common.{refl, ap, ◌∙◌, arith, length-set, leb-true}
use mathlib.Core.Path.{fun_ext}
use Rattle.std.specs.Prelude.{Option, Some, None, Result, Ok, Err}
use Rattle.machine.specs.declared.Cause.{Cause}
use Rattle.machine.specs.declared.Stray.{Stray}
use Rattle.machine.specs.declared.Reach.{Reach}
use Rattle.machine.specs.declared.Work.{Work}
use Rattle.machine.specs.declared.Work.TheVariants.{PastOne, PastTwo, StrayedOne, StrayedTwo}
use Rattle.machine.specs.Word.{pick}
use Rattle.machine.specs.State.{Frame, sharing, Put}
use Rattle.machine.specs.Memory.{Field, data_field, place_of, load_at, store_at, load, store, stores, or_else, stray_at, first_outside}
use Rattle.machine.specs.Act.{reads_words, writes_words}
use Rattle.machine.specs.Work.{done, past, outside, perform}
use Rattle.machine.specs.Layout.{registers_of, frame_of}
use Rattle.access.specs.Window.{Reaches, spot_of, is_beyond, load_in, store_in, place_in}
use Rattle.access.specs.Executed.{told, Puts, ended_by, noted}
use Rattle.access.proofs.Windows.{window}
use Rattle.access.proofs.Places.{p-puts}
use Rattle.memory.specs.Moves.{DataWindow, Held, row_in, any_beyond, stores_at}

-- what a processor reaches has such a window
pub reached : (fr : Frame) (f : Reach) (len : ℕ) → Reaches fr f len → DataWindow fr f.operands.first f.operands.words len
reached fr f len h = record { dba = h.dba; size = h.size; start = h.operands; count = h.words }

-- it lies in the memory, and its places are those of the field
module _ (fr : Frame) (first words len : ℕ) (h : DataWindow fr first words len) where
  pub held : Held first words len
  held = go (leb (fr.dla * 32) len) refl h.count
    where
      go : (t : Bool) → leb (fr.dla * 32) len ≡ t → words ≡ pick t (fr.dla * 32) len - fr.dba * 32 → Held first words len
      go true e c =
          let l = leb-true (fr.dla * 32) len e in
          record { inside = λ w k. omega (arith, h.start); low = omega (arith, h.dba, h.start); short = omega (arith, h.size) }
      go false e c =
          record { inside = λ w k. omega (arith, h.start); low = omega (arith, h.dba, h.start); short = omega (arith, h.size) }

  pub place-of : (n address : ℕ) → n % 2 ^ 22 ≡ address % 2 ^ 22 → place_in first words n ≡ spot_of (place_of (data_field fr) len address)
  unfolding place_in
  place-of n address e = rw e (window (data_field fr) len address h.dba h.size first words h.start h.count)

  pub row_of : (from by : ℕ) → ◌≡◌ {A = ℕ → Option ℕ} (row_in first words from by) (λ e. spot_of (place_of (data_field fr) len (from + e * by)))
  row_of from by = fun_ext (λ e. place-of (from + e * by) (from + e * by) refl)

-- only the low 22 bits of an address count
pub place-low : (d : Field) (len n address : ℕ) → n % 2 ^ 22 ≡ address % 2 ^ 22 → place_of d len n ≡ place_of d len address
unfolding place_of
place-low d len n address e = rw e

-- a word is read and stored alike by a place and by a spot
pub load-spot : (mem : List ℕ) (o : Result ℕ Cause) → load_in mem (spot_of o) ≡ load_at mem o
load-spot mem (Ok n) = refl
load-spot mem (Err cause) = refl

pub store-spot : (mem : List ℕ) (o : Result ℕ Cause) (x : ℕ) → store_in mem (spot_of o) x ≡ store_at mem o x
store-spot mem (Ok n) x = refl
store-spot mem (Err cause) x = refl

-- whether one lies outside
abbrev pub is_stray : Option Stray → Bool
is_stray None = false
is_stray (Some stray) = true

pub any-outside : (d : Field) (at : ℕ → ℕ) (len n : ℕ) → any_beyond (λ e. spot_of (place_of d len (at e))) n ≡ is_stray (first_outside d at len n)
unfolding any_beyond first_outside
any-outside d at len zero = refl
any-outside d at len (suc n) = rw (any-outside d at len n) (go (first_outside d at len n) (place_of d len (at n)))
  where
    here : (o : Result ℕ Cause) → is_beyond (spot_of o) ≡ is_stray (stray_at n o)
    here (Ok m) = refl
    here (Err cause) = refl

    go : (s : Option Stray) (o : Result ℕ Cause) → (is_stray s || is_beyond (spot_of o)) ≡ is_stray (or_else s (stray_at n o))
    go None o = here o
    go (Some stray) o = refl

-- a store leaves the length
stored-length : (p : Option ℕ) (mem : List ℕ) (x : ℕ) → length (store_in mem p x) ≡ length mem
stored-length (Some n) mem x = length-set mem n x
stored-length None mem x = refl

stores-length : (at : ℕ → Option ℕ) (val : ℕ → ℕ) (n : ℕ) (mem : List ℕ) → length (stores_at at val n mem) ≡ length mem
unfolding stores_at
stores-length at val zero mem = refl
stores-length at val (suc n) mem = stored-length (at n) (stores_at at val n mem) (val n) ∙ stores-length at val n mem

-- what is stored
pub all-stored : (d : Field) (at val : ℕ → ℕ) (n : ℕ) (mem : List ℕ) → stores_at (λ e. spot_of (place_of d (length mem) (at e))) val n mem ≡ stores d at val n mem
unfolding stores_at stores store
all-stored d at val zero mem = refl
all-stored d at val (suc n) mem =
    rw (← all-stored d at val n mem, stores-length (λ e. spot_of (place_of d (length mem) (at e))) val n mem)
    (store-spot _ (place_of d (length mem) (at n)) (val n))

-- an instruction of so many parcels ended with w as its stray s has it; from r' to r'' only P's place changed, and r'' tells s
pub record Tells (w : Work) (parcels : ℕ) (r' r'' : List ℕ) (len : ℕ) (s : Option Stray) : Type 0 where
  pub work : w ≡ past parcels s
  pub stray : told w r'' len ≡ s
  pub frame : frame_of r'' ≡ frame_of r'
  pub registers : registers_of r'' ≡ registers_of r'

-- where it strayed, P's place tells it
pub tells : (parcels : ℕ) (o : Bool) (n : ℕ) (r' : List ℕ) (len : ℕ) (s : Option Stray) → o ≡ is_stray s
    → told (pick (eqb parcels 1) StrayedOne StrayedTwo) (set r' 0 n) len ≡ s → Tells (ended_by parcels o) parcels r' (noted o n r') len s
tells parcels o n r' len s e t = rw e (go s t)
  where
    clean : (b : Bool) → told (pick b PastOne PastTwo) r' len ≡ None
    clean true = refl
    clean false = refl

    go : (s : Option Stray) → told (pick (eqb parcels 1) StrayedOne StrayedTwo) (set r' 0 n) len ≡ s
        → Tells (ended_by parcels (is_stray s)) parcels r' (noted (is_stray s) n r') len s
    go None t = record { work = refl; stray = clean (eqb parcels 1); frame = refl; registers = refl }
    go (Some stray) t = let k = p-puts r' n in record { work = refl; stray = t; frame = k.1; registers = k.0 }

-- memory was read, and a register written
pub reads : (w : Work) (r r' r'' mem : List ℕ) (parcels n : ℕ) (at : ℕ → ℕ) (put : (ℕ → ℕ) → Put)
    → Tells w parcels r' r'' (length mem) (outside (frame_of r) mem (reads_words n at put)) → Puts r r' (put (λ e. load (data_field (frame_of r)) mem (at e)))
    → done w (told w r'' (length mem)) (registers_of r'') (sharing mem) ≡ perform (frame_of r) (registers_of r) parcels (sharing mem) (reads_words n at put)
unfolding perform
reads w r r' r'' mem parcels n at put t h = rw (t.stray, t.work, t.registers, h.registers)

-- memory was stored to
pub writes : (w : Work) (r r'' mem mem' : List ℕ) (parcels n : ℕ) (at val : ℕ → ℕ)
    → Tells w parcels r r'' (length mem) (outside (frame_of r) mem (writes_words n at val)) → mem' ≡ stores (data_field (frame_of r)) at val n mem
    → done w (told w r'' (length mem')) (registers_of r'') (sharing mem') ≡ perform (frame_of r) (registers_of r) parcels (sharing mem) (writes_words n at val)
unfolding perform
writes w r r'' mem mem' parcels n at val t h =
    let l : length mem' ≡ length mem = ap length (h ∙ sym (all-stored (data_field (frame_of r)) at val n mem)) ∙ stores-length _ val n mem in
    rw (l, t.stray, t.work, t.registers, h)
