-- What every instruction may rely on, and the table of codes. Assumes nothing.
use Rattle.std.specs.Prelude.{ℕ, ◌*◌, ◌/◌, ◌<◌, ◌≡◌, Bool, false, ◌&&◌, ◌||◌, List, [], ◌∷◌, length, eqb, leb}
use Rattle.machine.specs.declared.Reach.{Reach}
use Rattle.machine.specs.declared.Work.{Work}
use Rattle.machine.specs.Word.{pick}
use Rattle.machine.specs.State.{sharing}
use Rattle.machine.specs.Work.{done, work_of}
use Rattle.machine.specs.Layout.{registers_of, frame_of}
use Rattle.access.specs.Window.{Reaches}
use Rattle.access.specs.Executed.{told, FrameOk, ControlOk}
use Rattle.control.specs.Control.{nothing_at}
use Rattle.vector.specs.Element.{plain, other}

-- r is a processor's words, their numbers fit, and f is what it reaches in a memory of len words
pub record Ready (r : List ℕ) (f : Reach) (len : ℕ) : Type 0 where
  pub long : length r ≡ 672
  pub reaches : Reaches (frame_of r) f len
  pub frame : FrameOk (frame_of r)
  pub control : ControlOk (registers_of r)
  pub processor : (frame_of r).processor < 2

-- from r to r' and from mem to mem' the work of a step at p was done, and w says how it ended
pub record Works (w : Work) (r r' mem mem' : List ℕ) (p : ℕ) : Type 0 where
  pub frame : frame_of r' ≡ frame_of r
  pub done : done w (told w r' (length mem')) (registers_of r') (sharing mem') ≡ work_of (frame_of r) (registers_of r) p (sharing mem)

-- from low to high
abbrev within : ℕ → ℕ → ℕ → Bool
within low high c = leb low c && leb c high

-- the arm of a code c, its first three digits, in the table: the code itself or the first of its group, 000 where it names no instruction
unfoldable pub arm_of : ℕ → ℕ
arm_of c =
    pick (nothing_at c) 0
    (pick (within 0o100 0o137 c) (c / 8 * 8)
    (pick (within 0o140 0o145 c) 0o140
    (pick (within 0o150 0o153 c) 0o150
    (pick (within 0o154 0o157 c) 0o154
    (pick (eqb c 0o175) 0o174 c)))))

-- what an arm n says of a code c that has it
abbrev pub says : ℕ → ℕ → Bool
says n c =
    pick (eqb n 0) (nothing_at c)
    (pick (within 0o100 0o137 n) (eqb (c / 8) (n / 8))
    (pick (eqb n 0o140 || eqb n 0o154) (plain c)
    (pick (eqb n 0o150 || eqb n 0o174) (other c) (eqb c n))))

-- n is one of a list
abbrev pub any_of : ℕ → List ℕ → Bool
any_of n [] = false
any_of n (k ∷ l) = any_of n l || eqb n k

-- the arms from 100 on, the last first
abbrev pub high_arms : List ℕ
high_arms = 0o177 ∷ 0o176 ∷ 0o174 ∷ 0o154 ∷ 0o150 ∷ 0o147 ∷ 0o146 ∷ 0o140 ∷ 0o130 ∷ 0o120 ∷ 0o110 ∷ 0o100 ∷ []

abbrev pub high_arm : ℕ → Bool
high_arm n = any_of n high_arms
