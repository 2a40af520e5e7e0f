-- A processor as the 672 words that a caller lends. Assumes nothing.
--   0 P, 1 XA, 2 VL, 3 VM, 4 IBA, 5 ILA, 6 DBA, 7 DLA, 8 MM, 9 IOR, 10 IFP, 11 FPS, 12 BDM, 13 PS, 14 CLN, 15 the processor's number;
--   from 16 A0 to A7, from 24 S0 to S7, from 32 B00 to B77, from 96 T00 to T77, from 160 V0 to V7, 64 elements each
use Rattle.std.specs.Prelude.{ℕ, List, get_or, take, drop}
use Rattle.machine.specs.State.{Registers, Frame, State, addr}

-- the n words from place `at` on
unfoldable pub part : ℕ → ℕ → List ℕ → List ℕ
part at n w = take n (drop at w)

unfoldable pub registers_of : List ℕ → Registers
registers_of w =
    record {
      a = part 16 8 w;
      s = part 24 8 w;
      b = part 32 64 w;
      t = part 96 64 w;
      v = part 160 512 w;
      xa = get_or w 1 0;
      vl = get_or w 2 0;
      vm = get_or w 3 0;
      ior = get_or w 9 0;
      bdm = get_or w 12 0;
    }

unfoldable pub frame_of : List ℕ → Frame
frame_of w =
    record {
      iba = get_or w 4 0;
      ila = get_or w 5 0;
      dba = get_or w 6 0;
      dla = get_or w 7 0;
      mm = get_or w 8 0;
      ifp = get_or w 10 0;
      fps = get_or w 11 0;
      ps = get_or w 13 0;
      cln = get_or w 14 0;
      processor = get_or w 15 0;
    }

abbrev pub state_of : List ℕ → State
state_of w = record { p = addr (get_or w 0 0); registers = registers_of w; frame = frame_of w }

-- two processors, one after the other in 1,344 words
abbrev pub first_of : List ℕ → State
first_of w = state_of (part 0 672 w)

abbrev pub second_of : List ℕ → State
second_of w = state_of (part 672 672 w)
