-- What the functions of the instructions promise of the words that they are lent. Assumes nothing.
use Rattle.std.specs.Prelude.{◌≡◌, ℕ, zero, suc, ◌+◌, ◌*◌, ◌/◌, ◌%◌, ◌^◌, ◌<◌, ◌≤◌, Bool, ◌⊎◌, List, length, ◌==◌, nat_lt, slice_index, slice_set, Option, None}
use Rattle.machine.specs.declared.Stray.{Stray}
use Rattle.machine.specs.declared.Work.{Work}
use Rattle.machine.specs.declared.Work.TheVariants.{PastOne, PastTwo, To, NormalExit, ErrorExit, StrayedOne, StrayedTwo, ProgramRange, NotHeld, MonitorFetch}
use Rattle.machine.specs.Word.{pick}
use Rattle.machine.specs.Parcel.{i_of, k_of}
use Rattle.machine.specs.State.{Frame, Registers, sharing, user, ai, ak, Put, to_xa, to_vl, to_vm, to_ior, to_bdm, apply}
use Rattle.machine.specs.Memory.{data_field, first_outside}
use Rattle.machine.specs.Codes.{code_of}
use Rattle.machine.specs.Work.{done, decoded, done_with}
use Rattle.machine.specs.Layout.{registers_of, frame_of}

-- a block move x, 034 to 037 or else 176 or 177: how many words, and how far apart
abbrev pub block_count : Registers → ℕ → ℕ
block_count r x = pick (nat_lt (x / 512) 64) (ai r (i_of x) % 128) r.vl

abbrev pub block_by : Registers → ℕ → ℕ
block_by r x = pick (nat_lt (x / 512) 64) 1 (ak r (k_of x))

-- the stray of work that ended so, told by a processor's words: P's place has the block move, or the address of a single word
abbrev pub told : Work → List ℕ → ℕ → Option Stray
told PastOne r len = None
told PastTwo r len = None
told (To p) r len = None
told NormalExit r len = None
told ErrorExit r len = None
told StrayedOne r len =
    first_outside (data_field (frame_of r)) (λ e. ai (registers_of r) 0 + e * block_by (registers_of r) (slice_index r 0)) len (block_count (registers_of r) (slice_index r 0))
told StrayedTwo r len = first_outside (data_field (frame_of r)) (λ e. slice_index r 0 + e * 0) len 1
told ProgramRange r len = None
told NotHeld r len = None
told MonitorFetch r len = None

-- from r to r' and from mem to mem' the instruction at p whose first parcel is x was executed, and w says how it ended
pub record Executes (w : Work) (r r' mem mem' : List ℕ) (p x : ℕ) : Type 0 where
  pub frame : frame_of r' ≡ frame_of r
  pub done : done w (told w r' (length mem')) (registers_of r') (sharing mem')
      ≡ done_with (frame_of r) (registers_of r) p (sharing mem) (decoded (frame_of r) mem p x (code_of (user (frame_of r)) x))

-- the same of an instruction of one parcel that asks nothing of memory, whatever memory and P are
abbrev pub Alone : Work → List ℕ → List ℕ → ℕ → Type 0
Alone w r r' x = (p : ℕ) (mem : List ℕ) → Executes w r r' mem mem p x

-- from r to r' a register was written, and nothing else
pub record Puts (r r' : List ℕ) (put : Put) : Type 0 where
  pub frame : frame_of r' ≡ frame_of r
  pub registers : registers_of r' ≡ apply put (registers_of r)

-- from r to r' an instruction of so many parcels ended with w: where an operand lay outside, P's place takes n
abbrev pub ended_by : ℕ → Bool → Work
ended_by parcels outside = pick outside (pick (parcels == 1) StrayedOne StrayedTwo) (pick (parcels == 1) PastOne PastTwo)

abbrev pub noted : Bool → ℕ → List ℕ → List ℕ
noted outside n r = pick outside (slice_set r 0 n) r

pub record Ends (w : Work) (r r' : List ℕ) (parcels : ℕ) (outside : Bool) (n : ℕ) : Type 0 where
  pub work : w ≡ ended_by parcels outside
  pub words : r' ≡ noted outside n r

-- a control register at its place
abbrev pub Control : ℕ → Type 0
Control n = ((n ≡ 1) ⊎ (n ≡ 2)) ⊎ ((n ≡ 3) ⊎ ((n ≡ 9) ⊎ (n ≡ 12)))

abbrev pub to_control : ℕ → ℕ → Put
to_control n y = pick (n == 1) (to_xa y) (pick (n == 2) (to_vl y) (pick (n == 3) (to_vm y) (pick (n == 9) (to_ior y) (to_bdm y))))

-- a word as a register takes it: 24 bits where it is narrow
abbrev pub cut_to : Bool → ℕ → ℕ
cut_to narrow x = pick narrow (x % 2 ^ 24) x

-- n registers of the file at a place, from `first` on, become f 0, f 1, .., returning to the first after 64
unfoldable pub ring_at : ℕ → ℕ → (ℕ → ℕ) → ℕ → List ℕ → List ℕ
ring_at at first f zero w = w
ring_at at first f (suc n) w = slice_set (ring_at at first f n w) (at + (first + n) % 64) (f n)

-- the widths of what only an exchange changes, but for the processor's number; and of XA, VL, IOR and BDM
pub record FrameOk (fr : Frame) : Type 0 where
  pub iba : fr.iba < 2 ^ 17
  pub ila : fr.ila < 2 ^ 17
  pub dba : fr.dba < 2 ^ 17
  pub dla : fr.dla < 2 ^ 17
  pub mm : fr.mm < 2
  pub ifp : fr.ifp < 2
  pub fps : fr.fps < 2
  pub ps : fr.ps < 2
  pub cln : fr.cln < 4

pub record ControlOk (r : Registers) : Type 0 where
  pub narrow : r.xa < 2 ^ 8
  pub least : 1 ≤ r.vl
  pub most : r.vl ≤ 64
  pub interrupt : r.ior < 2
  pub bidirectional : r.bdm < 2
