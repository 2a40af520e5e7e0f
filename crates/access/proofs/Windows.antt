-- The window of a field is the rule of the definitions; what is fetched through it. Assumes nothing.
use Rattle.std.proofs.Common.{◌≡◌, ℕ, zero, suc, ◌+◌, ◌-◌, ◌*◌, ◌/◌, ◌%◌, ◌^◌, ◌<◌, ◌≤◌, Bool, true, false, ltb, leb, List, length}
use Rattle.std.proofs.Common.{get_or, take, drop, sym, refl, ◌∙◌, arith, length-drop, length-take-le, get_or-drop, get_or-take}
use Rattle.std.proofs.Common.{ltb-false, ltb-true, le-ltb, leb-false, leb-true}
use borrow.Author.Tests.{lt-leb}
use Rattle.std.specs.Prelude.{Option, Some, None, Result, Ok, Err}
use Rattle.machine.specs.declared.Cause.{Cause}
use Rattle.machine.specs.declared.Reach.{Reach}
use Rattle.machine.specs.declared.ParcelAddr.{ParcelAddr}
use Rattle.machine.specs.declared.Cause.TheVariants.{BelowBase, OverLimit, BeyondMemory}
use Rattle.machine.specs.Word.{pick}
use Rattle.machine.specs.Parcel.{word_of, parcel_of, onward}
use Rattle.machine.specs.State.{Frame, addr}
use Rattle.machine.specs.Memory.{Field, code_field, place_of, parcel_at, fetch_of}
use Rattle.access.specs.Window.{extent, Reaches, Inside, spot_of, fetch_in, place_in}

-- the lesser of a limit and a length
least : (a b : ℕ) → (pick (leb a b) a b ≤ a) × (pick (leb a b) a b ≤ b) × ((c : ℕ) → c < a → c < b → c < pick (leb a b) a b)
least a b = go (leb a b) refl
  where
    go : (t : Bool) → leb a b ≡ t → (pick t a b ≤ a) × (pick t a b ≤ b) × ((c : ℕ) → c < a → c < b → c < pick t a b)
    go true e = (omega arith, omega (arith, leb-true a b e), λ c h l. h)
    go false e = (omega (arith, leb-false a b e), omega arith, λ c h l. l)

module _ (f : Field) (len w : ℕ) (narrow : f.base < 2 ^ 17) (short : len ≤ 2 ^ 22) where
  -- a word of the window is inside, that many places after the base
  window-in : w % 2 ^ 22 < extent f.base f.limit len → place_of f len w ≡ Ok (f.base * 32 + w % 2 ^ 22)
  unfolding place_of
  window-in h =
      let l = least (f.limit * 32) len in
      let e : (w % 2 ^ 22 + f.base * 32) % 2 ^ 22 ≡ f.base * 32 + w % 2 ^ 22 = omega (arith, l.1) in
      let b : ltb (f.base * 32 + w % 2 ^ 22) (f.base * 32) ≡ false = le-ltb (f.base * 32 + w % 2 ^ 22) (f.base * 32) (omega arith) in
      let m : leb (f.limit * 32) (f.base * 32 + w % 2 ^ 22) ≡ false = lt-leb (f.limit * 32) (f.base * 32 + w % 2 ^ 22) (omega (arith, l.0)) in
      let n : leb len (f.base * 32 + w % 2 ^ 22) ≡ false = lt-leb len (f.base * 32 + w % 2 ^ 22) (omega (arith, l.1)) in
      rw (e, b, m, n)

  -- and every other word is outside
  window-out : extent f.base f.limit len ≤ w % 2 ^ 22 → spot_of (place_of f len w) ≡ None
  unfolding place_of
  window-out h =
      go (ltb q (f.base * 32)) (leb (f.limit * 32) q) (leb len q) refl refl refl
    where
      q : ℕ
      q = (w % 2 ^ 22 + f.base * 32) % 2 ^ 22

      go : (s t u : Bool) → ltb q (f.base * 32) ≡ s → leb (f.limit * 32) q ≡ t → leb len q ≡ u → spot_of
          (pick s (Err BelowBase) (pick t (Err OverLimit) (pick u (Err BeyondMemory) (Ok q)))) ≡ None
      go true t u d e g = refl
      go false true u d e g = refl
      go false false true d e g = refl
      go false false false d e g =
          let l = least (f.limit * 32) len in
          let z : ⊥ = omega (
            arith,
            ltb-false q (f.base * 32) d,
            leb-false (f.limit * 32) q e,
            leb-false len q g,
            l.2 q
                (leb-false (f.limit * 32) q e) (leb-false len q g),
          ) in
          absurd z

  -- so the window is the field
  pub window : (first words : ℕ) → first ≡ f.base * 32 → words ≡ extent f.base f.limit len → place_in first words w ≡ spot_of (place_of f len w)
  unfolding place_in
  window first words e g = go (ltb (w % 2 ^ 22) words) refl
    where
      go : (t : Bool) → ltb (w % 2 ^ 22) words ≡ t → pick t (Some (first + w % 2 ^ 22)) None ≡ spot_of (place_of f len w)
      go true h = rw (e, window-in (omega (arith, ltb-true (w % 2 ^ 22) words h)))
      go false h = sym (window-out (omega (arith, ltb-false (w % 2 ^ 22) words h)))

-- what a frame reaches lies in the memory
module _ (fr : Frame) (f : Reach) (len : ℕ) (h : Reaches fr f len) where
  pub code_inside : Inside f.code.first f.code.words len
  code_inside w l = omega (arith, (least (fr.ila * 32) len).1, h.code, h.span)

-- a parcel is fetched as the definitions fetch it
pub fetched : (fr : Frame) (f : Reach) (mem : List ℕ) (p : ℕ) → Reaches fr f (length mem) → p < 2 ^ 24 → fetch_in f mem p ≡ fetch_of fr mem p
unfolding fetch_of fetch_in place_in
fetched fr f mem p h l =
    let low : word_of p % 2 ^ 22 ≡ word_of p = omega arith in
    let spot : place_in f.code.first f.code.words (word_of p) ≡ spot_of (place_of (code_field fr) (length mem) (word_of p))
    = window (code_field fr) (length mem) (word_of p) h.iba h.size f.code.first f.code.words h.code h.span in
    go (ltb (word_of p) f.code.words) (place_of (code_field fr) (length mem) (word_of p)) (rw low at spot)
  where
    go : (t : Bool) (o : Result ℕ Cause) → pick t (Some (f.code.first + word_of p)) None ≡ spot_of o
        → pick t (Some (parcel_of (get_or mem (f.code.first + word_of p) 0) p)) None ≡ parcel_at mem p o
    go true (Ok n) e = let z : f.code.first + word_of p ≡ n = cc in rw z
    go true (Err cause) e = cc
    go false (Ok n) e = cc
    go false (Err cause) e = refl

-- a parcel that is fetched has 16 bits
pub parcel-narrow : (f : Reach) (mem : List ℕ) (p m : ℕ) → fetch_in f mem p ≡ Some m → m < 2 ^ 16
unfolding fetch_in
parcel-narrow f mem p m e = go (ltb (word_of p) f.code.words) e
  where
    go : (t : Bool) → pick t (Some (parcel_of (get_or mem (f.code.first + word_of p) 0) p)) None ≡ Some m → m < 2 ^ 16
    go true e = let z : parcel_of (get_or mem (f.code.first + word_of p) 0) p ≡ m = cc in omega arith
    go false e = cc

-- a parcel of a word by two shifts
shifted : (word p : ℕ) → word * 2 ^ (16 * (p % 4)) % 2 ^ 64 / 2 ^ 48 ≡ parcel_of word p
shifted word p = let l : p % 4 < 4 = omega arith in go (p % 4) l
  where
    go : (k : ℕ) → k < 4 → word * 2 ^ (16 * k) % 2 ^ 64 / 2 ^ 48 ≡ word / 2 ^ (48 - 16 * k) % 2 ^ 16
    go zero l = omega arith
    go (suc zero) l = omega arith
    go (suc (suc zero)) l = omega arith
    go (suc (suc (suc zero))) l = omega arith
    go (suc (suc (suc (suc k)))) l = omega arith

-- the word at place w of the part from `first` on
module _ (mem : List ℕ) (first w : ℕ) (h : first + w < length mem) where
  pub word_in : w < length (take (length mem - first) (drop first mem))
  word_in = omega (arith, length-take-le (length mem - first) (drop first mem) (omega (arith, length-drop first mem)))

  pub parcel-in : (p : ℕ) → get_or (take (length mem - first) (drop first mem)) w 0 * 2 ^ (16 * (p % 4)) % 2 ^ 64 / 2 ^ 48 ≡ parcel_of (get_or mem (first + w) 0) p
  parcel-in p = rw (get_or-take (length mem - first) (drop first mem) w 0 (omega arith) ∙ get_or-drop first mem w 0) (shifted (get_or mem (first + w) 0) p)

-- the second parcel, by what a fetch at the next address gave
module _ (f : Reach) (mem : List ℕ) (p : ℕ) (q : ParcelAddr) (o : Option ℕ) (at : q ≡ addr (onward p 1)) (gave : o ≡ fetch_in f mem q.0) where
  pub second : (fr : Frame) (o' : Option ℕ) → Reaches fr f (length mem) → o ≡ o' → fetch_of fr mem (onward p 1) ≡ o'
  second fr o' h e =
      let g : o ≡ fetch_in f mem (onward p 1) = rw at at gave in
      sym (fetched fr f mem (onward p 1) h (omega arith)) ∙ sym g ∙ e

  pub second-narrow : (m : ℕ) → o ≡ Some m → m < 2 ^ 16
  second-narrow m e = parcel-narrow f mem q.0 m (sym gave ∙ e)
