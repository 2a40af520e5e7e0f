-- The record that lent words mean leaves none of them out: it fixes every word. Assumes nothing.
use Prim.Native.Nat.{ℕ, zero, suc, ◌+◌, ◌≤◌}
use mathlib.Core.Path.{◌≡◌, refl, sym, ◌∙◌, ap}
use mathlib.Core.List.{List, [], ◌∷◌, ◌++◌}
use native.Mathlib.Omega.{arith}
use lib.ListN.{length, get_or, take, drop, take-append-drop, length-drop}
use lib.Seq.{drop-cons, take_all, length-take-le}
use Rattle.machine.specs.State.{State}
use Rattle.machine.specs.Layout.{part, registers_of, frame_of, state_of, first_of, second_of}

-- the n words from place `at` on, one by one
unfoldable read : ℕ → ℕ → List ℕ → List ℕ
read at zero w = []
read at (suc n) w = get_or w at 0 ∷ read (at + 1) n w

read-part : (at n : ℕ) (w : List ℕ) → at + n ≤ length w → read at n w ≡ part at n w
unfolding read part
read-part at zero w h = refl
read-part at (suc n) w h =
    let on : at + 1 ≡ suc at = omega arith in
    let rest : at + 1 + n ≤ length w = omega (arith, h) in
    ap (λ (r : List ℕ). get_or w at 0 ∷ r) (read-part (at + 1) n w rest ∙ ap (λ (k : ℕ). take n (drop k w)) on)
    ∙ ap (take (suc n)) (sym (drop-cons w at 0 (omega (arith, h))))

read-joined : (at n m : ℕ) (w : List ℕ) → read at n w ++ read (at + n) m w ≡ read at (n + m) w
unfolding read
read-joined at zero m w = let e : at + 0 ≡ at = omega arith in let z : 0 + m ≡ m = omega arith in rw (e, z) refl
read-joined at (suc n) m w =
    let e : at + suc n ≡ at + 1 + n = omega arith in
    let s : suc n + m ≡ suc (n + m) = omega arith in
    rw (e, s) (ap (λ (r : List ℕ). get_or w at 0 ∷ r) (read-joined (at + 1) n m w))

-- a processor's words, out of the record
abbrev control : State → List ℕ
control st =
    st.p.0 ∷ st.registers.xa ∷ st.registers.vl ∷ st.registers.vm
    ∷ st.frame.iba ∷ st.frame.ila ∷ st.frame.dba ∷ st.frame.dla
    ∷ st.frame.mm ∷ st.registers.ior ∷ st.frame.ifp ∷ st.frame.fps ∷ st.registers.bdm
    ∷ st.frame.ps ∷ st.frame.cln ∷ st.frame.processor ∷ []

abbrev words_of : State → List ℕ
words_of st = ((((control st ++ st.registers.a) ++ st.registers.s) ++ st.registers.b) ++ st.registers.t) ++ st.registers.v

control-read : (w : List ℕ) → control (state_of w) ≡ read 0 16 w
unfolding read registers_of frame_of
control-read w = refl

module _ (w : List ℕ) (long : length w ≡ 672) where
  joined : (n m : ℕ) (l : List ℕ) → n + m ≤ 672 → l ≡ read 0 n w → l ++ part n m w ≡ read 0 (n + m) w
  joined n m l h e =
      let z : n ≡ 0 + n = omega arith in
      rw (e, ← read-part n m w (omega (arith, long, h))) (ap (λ (k : ℕ). read 0 n w ++ read k m w) z ∙ read-joined 0 n m w)

  words-of : words_of (state_of w) ≡ w
  unfolding registers_of part
  words-of =
      joined 160 512 _ (omega arith)
      (joined 96 64 _ (omega arith)
      (joined 32 64 _ (omega arith) (joined 24 8 _ (omega arith) (joined 16 8 _ (omega arith) (control-read w)))))
      ∙ read-part 0 672 w (omega (arith, long))
      ∙ take_all 672 w (omega (arith, long))

pub words-fixed : (w w' : List ℕ) → length w ≡ 672 → length w' ≡ 672 → state_of w ≡ state_of w' → w ≡ w'
words-fixed w w' long long' e = sym (words-of w long) ∙ ap words_of e ∙ words-of w' long'

-- of a pair's words each half
half : (w : List ℕ) (at : ℕ) → length w ≡ 1344 → at ≤ 672 → length (part at 672 w) ≡ 672
unfolding part
half w at long h = length-take-le 672 (drop at w) (omega (arith, length-drop at w, long, h))

halves : (w : List ℕ) → length w ≡ 1344 → part 0 672 w ++ part 672 672 w ≡ w
unfolding part
halves w long = ap (λ (r : List ℕ). take 672 w ++ r) (take_all 672 (drop 672 w) (omega (arith, length-drop 672 w, long))) ∙ take-append-drop 672 w

pub pair-fixed : (w w' : List ℕ) → length w ≡ 1344 → length w' ≡ 1344 → first_of w ≡ first_of w' → second_of w ≡ second_of w' → w ≡ w'
pair-fixed w w' long long' e e' =
    let one = words-fixed (part 0 672 w) (part 0 672 w') (half w 0 long (omega arith)) (half w' 0 long' (omega arith)) e in
    let two = words-fixed (part 672 672 w) (part 672 672 w') (half w 672 long (omega arith)) (half w' 672 long' (omega arith)) e' in
    sym (halves w long) ∙ rw (one, two) (halves w' long')
