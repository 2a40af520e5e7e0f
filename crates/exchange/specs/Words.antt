-- A processor's words as packages give and take them. Assumes nothing.
use Rattle.std.specs.Prelude.{ℕ, ◌+◌, ◌%◌, ◌^◌, ◌<◌, ◌≤◌, List, ◌∷◌, ◌++◌, get_or}
use Rattle.machine.specs.Word.{bits, length_of}
use Rattle.machine.specs.State.{Registers, Frame, State, addr}
use Rattle.machine.specs.Exchange.{eight, loaded_registers, loaded_frame, loaded_p}

-- what a package of the words `w 0` to `w 15` loads
abbrev pub loaded_by : (ℕ → ℕ) → Registers → Frame → State
loaded_by w r fr = record { p = addr (loaded_p w); registers = loaded_registers w r; frame = loaded_frame w fr }

-- the first 32 words of a processor that it loads, by their places; VM and the processor's number are given
abbrev pub low_words : (ℕ → ℕ) → ℕ → ℕ → List ℕ
low_words w vm number =
    loaded_p w ∷ bits (w 3) 40 8 ∷ length_of (bits (w 3) 33 7) ∷ vm  -- P, XA, VL, VM
    ∷ bits (w 1) 29 17 ∷ bits (w 2) 29 17 ∷ bits (w 4) 29 17 ∷ bits (w 5) 29 17  -- IBA, ILA, DBA, DLA
    ∷ bits (w 2) 24 1 ∷ bits (w 2) 25 1 ∷ bits (w 2) 26 1 ∷ bits (w 2) 27 1 ∷ bits (w 2) 28 1  -- MM, IOR, IFP, FPS, BDM
    ∷ bits (w 4) 28 1 ∷ bits (w 4) 24 2 ∷ number  -- PS, CLN
    ∷ eight (λ n. w n % 2 ^ 24) ++ eight (λ n. w (8 + n))  -- A and S

-- the widths of the words that are saved beside A and S
pub record Narrow (w : List ℕ) : Type 0 where
  pub xa : get_or w 1 0 < 2 ^ 8
  pub vl : get_or w 2 0 ≤ 64
  pub iba : get_or w 4 0 < 2 ^ 17
  pub ila : get_or w 5 0 < 2 ^ 17
  pub dba : get_or w 6 0 < 2 ^ 17
  pub dla : get_or w 7 0 < 2 ^ 17
  pub mm : get_or w 8 0 < 2
  pub ior : get_or w 9 0 < 2
  pub ifp : get_or w 10 0 < 2
  pub fps : get_or w 11 0 < 2
  pub bdm : get_or w 12 0 < 2
  pub ps : get_or w 13 0 < 2
  pub cln : get_or w 14 0 < 4
