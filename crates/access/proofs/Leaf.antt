-- From what an instruction's function wrote to what the definitions say of its code. Assumes nothing.
use Rattle.std.specs.Prelude.{Some, None}
use Rattle.std.proofs.Common.{◌≡◌, ℕ, ◌/◌, ◌%◌, ◌^◌, Bool, true, false, List, length, refl}
use Rattle.machine.specs.declared.Work.{Work}
use Rattle.machine.specs.declared.Work.TheVariants.{PastOne, To, NotHeld}
use Rattle.machine.specs.Word.{pick}
use Rattle.machine.specs.Parcel.{onward}
use Rattle.machine.specs.State.{sharing, addr, user, Put, nothing, apply}
use Rattle.machine.specs.Memory.{fetch_of}
use Rattle.machine.specs.Act.{Instr, Act, does, goes, act}
use Rattle.machine.specs.Codes.{Code, holds_none, holds_one, holds_two, code_of}
use Rattle.machine.specs.Work.{past, no_parcel, done, decoded, status_of, perform, done_with}
use Rattle.machine.specs.Layout.{registers_of, frame_of}
use Rattle.access.specs.Executed.{told, Executes, Puts}

-- the act of an instruction at p, of so many parcels
abbrev pub act_at : List ℕ → ℕ → ℕ → ℕ → ℕ → Instr → Act
act_at r p x m parcels n = act (registers_of r) (status_of (frame_of r) (registers_of r)) x m (onward p parcels) n

module _ (w : Work) (r r' mem mem' : List ℕ) (p x : ℕ) where
  -- what was done with what stands there
  executes : (c : Code) → code_of (user (frame_of r)) x ≡ c → frame_of r' ≡ frame_of r
      → done w (told w r' (length mem')) (registers_of r') (sharing mem') ≡ done_with (frame_of r) (registers_of r) p (sharing mem) (decoded (frame_of r) mem p x c)
      → Executes w r r' mem mem' p x
  executes c e f d = record { frame = f; done = rw e d }

  -- one parcel, of which the act does all
  pub one : (n : Instr) → code_of (user (frame_of r)) x ≡ holds_one n → frame_of r' ≡ frame_of r
      → done w (told w r' (length mem')) (registers_of r') (sharing mem') ≡ perform (frame_of r) (registers_of r) 1 (sharing mem) (act_at r p x 0 1 n)
      → Executes w r r' mem mem' p x
  unfolding decoded done_with
  one n e f d = executes (holds_one n) e f d

  -- two parcels, of which the second was fetched
  pub two : (n : Instr) (m : ℕ) → code_of (user (frame_of r)) x ≡ holds_two n → fetch_of (frame_of r) mem (onward p 1) ≡ Some m → frame_of r' ≡ frame_of r
      → done w (told w r' (length mem')) (registers_of r') (sharing mem') ≡ perform (frame_of r) (registers_of r) 2 (sharing mem) (act_at r p x m 2 n)
      → Executes w r r' mem mem' p x
  unfolding decoded done_with
  two n m e g f d = executes (holds_two n) e f (rw g d)

-- a parcel that is not held
pub not-held : (r mem : List ℕ) (p x : ℕ) → code_of (user (frame_of r)) x ≡ holds_none → Executes NotHeld r r mem mem p x
unfolding decoded done_with
not-held r mem p x e = executes NotHeld r r mem mem p x holds_none e refl refl

-- a parcel that lies outside is no operand
pub no_stray : (u : Bool) (r : List ℕ) (len : ℕ) → told (no_parcel u) r len ≡ None
unfolding no_parcel
no_stray true r len = refl
no_stray false r len = refl

-- a second parcel that lies outside
pub lost : (w : Work) (r mem : List ℕ) (p x : ℕ) (n : Instr) → code_of (user (frame_of r)) x ≡ holds_two n → fetch_of (frame_of r) mem (onward p 1) ≡ None
    → w ≡ no_parcel (user (frame_of r)) → Executes w r r mem mem p x
unfolding decoded done_with
lost w r mem p x n e g h = executes w r r mem mem p x (holds_two n) e refl (rw (g, h, no_stray (user (frame_of r)) r (length mem)))

-- one parcel, and a register written
pub puts : (n : Instr) (u : Put) (w : Work) (r r' mem : List ℕ) (p x : ℕ) → (w ≡ PastOne) × Puts r r' u
    → code_of (user (frame_of r)) x ≡ holds_one n → act_at r p x 0 1 n ≡ does u
    → Executes w r r' mem mem p x
unfolding perform
puts n u w r r' mem p x h e a = one w r r' mem mem p x n e h.1.frame (rw (a, h.0, h.1.registers))

-- two parcels, and a register written
pub puts-two : (n : Instr) (u : Put) (w : Work) (r r' mem : List ℕ) (p x m : ℕ) → w ≡ past 2 None → Puts r r' u → code_of (user (frame_of r)) x ≡ holds_two n
    → fetch_of (frame_of r) mem (onward p 1) ≡ Some m → act_at r p x m 2 n ≡ does u → Executes w r r' mem mem p x
unfolding perform
puts-two n u w r r' mem p x m h k e g a = two w r r' mem mem p x n m e g k.frame (rw (a, h, k.registers))

-- two parcels, P going to q
pub goes-two : (n : Instr) (u : Put) (q : ℕ) (w : Work) (r r' mem : List ℕ) (p x m : ℕ) → w ≡ To (addr (q % 2 ^ 24)) → Puts r r' u
    → code_of (user (frame_of r)) x ≡ holds_two n
    → fetch_of (frame_of r) mem (onward p 1) ≡ Some m → act_at r p x m 2 n ≡ goes q u → Executes w r r' mem mem p x
unfolding perform
goes-two n u q w r r' mem p x m h k e g a = two w r r' mem mem p x n m e g k.frame (rw (a, h, k.registers))

-- nothing was written
pub puts-nothing : (r : List ℕ) → Puts r r nothing
unfolding apply
puts-nothing r = record { frame = refl; registers = refl }

-- two instructions of two parcels that one function does, by a bit: n' where it is set, with the code o'; else n, with o
module _ (b : Bool) (n n' : Instr) where
  pub either-code : (u : Bool) (x o o' : ℕ) → (x / 512 ≡ o → code_of u x ≡ holds_two n) → (x / 512 ≡ o' → code_of u x ≡ holds_two n') → x / 512 ≡ pick b o' o
      → code_of u x ≡ holds_two (pick b n' n)
  either-code u x o o' f f' e = go b e
    where
      go : (b : Bool) → x / 512 ≡ pick b o' o → code_of u x ≡ holds_two (pick b n' n)
      go true e = f' e
      go false e = f e

  pub either-act : (f : Instr → Act) (put : ℕ → Put) (y y' : ℕ) → f n ≡ does (put y) → f n' ≡ does (put y') → f (pick b n' n) ≡ does (put (pick b y' y))
  either-act f put y y' e e' = go b
    where
      go : (b : Bool) → f (pick b n' n) ≡ does (put (pick b y' y))
      go true = e'
      go false = e
