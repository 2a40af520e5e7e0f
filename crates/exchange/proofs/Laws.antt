-- What a package makes of a processor's words, and what is saved of them. Assumes nothing.
use Prim.Native.Nat.{ℕ, ◌+◌, ◌*◌, ◌<◌}
use mathlib.Core.Path.{◌≡◌, ◌∙◌}
use mathlib.Core.List.{List, ◌++◌}
use native.Mathlib.Omega.{arith}
use lib.ListN.{get_or, drop}
use lib.Seq.{drop-drop}
use Rattle.std.specs.Prelude.{Option}
use Rattle.machine.specs.declared.Stray.{Stray}
use Rattle.machine.specs.declared.Answer.TheVariants.{Exchanged}
use Rattle.machine.specs.Word.{bits}
use Rattle.machine.specs.State.{Registers, Frame, sharing, fill}
use Rattle.machine.specs.Exchange.{package_of, package_word, save, loaded}
use Rattle.machine.specs.Step.{out, exchange}
use Rattle.machine.specs.Layout.{part, registers_of, frame_of, state_of}
use Rattle.access.specs.Executed.{FrameOk, ControlOk}
use Rattle.exchange.specs.Words.{loaded_by, low_words, Narrow}

-- the first 32 words of a processor are all but B, T and V
pub low : (w : ℕ → ℕ) (r new front : List ℕ) → new ≡ low_words w (get_or r 3 0) (get_or r 15 0) → front ≡ new
    → state_of (front ++ drop 32 r) ≡ loaded_by w (registers_of r) (frame_of r)
unfolding registers_of frame_of part
low w r new front c e = rw (e, c, drop-drop 64 32 r, drop-drop 128 32 r)

-- only its sixteen words count of a package
loaded-same : (f g : ℕ → ℕ) (r : Registers) (fr : Frame) → ((n : ℕ) → n < 16 → f n ≡ g n) → loaded_by f r fr ≡ loaded_by g r fr
loaded-same f g r fr h =
    rw (
      h 0 (omega arith),
      h 1 (omega arith),
      h 2 (omega arith),
      h 3 (omega arith),
      h 4 (omega arith),
      h 5 (omega arith),
      h 6 (omega arith),
      h 7 (omega arith),
      h 8 (omega arith),
      h 9 (omega arith),
      h 10 (omega arith),
      h 11 (omega arith),
      h 12 (omega arith),
      h 13 (omega arith),
      h 14 (omega arith),
      h 15 (omega arith),
    )

-- the widths by their places
pub narrow : (w : List ℕ) → FrameOk (frame_of w) → ControlOk (registers_of w) → Narrow w
unfolding frame_of registers_of
narrow w f c =
    record {
      xa = c.narrow;
      vl = c.most;
      iba = f.iba;
      ila = f.ila;
      dba = f.dba;
      dla = f.dla;
      mm = f.mm;
      ior = c.interrupt;
      ifp = f.ifp;
      fps = f.fps;
      bdm = c.bidirectional;
      ps = f.ps;
      cln = f.cln;
    }

-- the XA of the words that a processor is saved as
saved-xa : (fr : Frame) (r : Registers) (p flags : ℕ) → ControlOk r → flags < 512 → bits (get_or (package_of fr r p flags) 3 0) 40 8 ≡ r.xa
saved-xa fr r p flags c h = omega arith

-- a load of package x, whose words are w
pub loads : (r r' w mem : List ℕ) (x : ℕ) → state_of r' ≡ loaded_by (λ n. get_or w n 0) (registers_of r) (frame_of r)
    → ((n : ℕ) → n < 16 → get_or w n 0 ≡ package_word mem x n) → state_of r' ≡ loaded mem x (registers_of r) (frame_of r)
unfolding loaded
loads r r' w mem x l h = l ∙ loaded-same (λ n. get_or w n 0) (package_word mem x) (registers_of r) (frame_of r) h

-- an exchange: the old words choose where the new ones are read, and where they are saved
module _ (r r' mem mem' old new : List ℕ) (from to p flags : ℕ) (ok : ControlOk (registers_of r)) (few : flags < 512) where
  pub swaps : old ≡ package_of (frame_of r) (registers_of r) p flags
      → from ≡ bits (get_or old 3 0) 40 8 * 16 → ((n : ℕ) → n < 16 → get_or new n 0 ≡ get_or mem (from + n) 0)
      → to ≡ bits (get_or old 3 0) 40 8 * 16 → mem' ≡ fill to (λ n. get_or old n 0) 16 mem
      → state_of r' ≡ loaded_by (λ n. get_or new n 0) (registers_of r) (frame_of r)
      → (s : Option Stray) → out (Exchanged flags) s (state_of r') (sharing mem') ≡ exchange (frame_of r) (registers_of r) p flags s (sharing mem)
  unfolding exchange save
  swaps o a h b m l s =
      let x : bits (get_or old 3 0) 40 8 ≡ (registers_of r).xa = rw o (saved-xa (frame_of r) (registers_of r) p flags ok few) in
      let k = loads r r' new mem (registers_of r).xa l (λ n l. h n l ∙ rw (a, x)) in
      rw (k, m, b, x, o)
