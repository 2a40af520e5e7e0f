-- What the arm of a code says of the code: computed over the 128 codes. Assumes nothing.
use Prim.Native.Nat.{ℕ, zero, suc, ◌+◌, ◌/◌, ◌^◌, ◌<◌, ◌≤◌}
use mathlib.Core.Path.{◌≡◌, refl, sym, ◌∙◌}
use mathlib.Core.Bool.{Bool, true, false, ◌||◌, not}
use mathlib.Core.List.{List, [], ◌∷◌}
use native.Mathlib.Omega.{arith}
use lib.Dec.{eqb, leb}
use lib.ListN.{length}
use borrow.Author.Tests.{eqb-true, ne_eqb, le-leb}
use Rattle.std.specs.Prelude.{Some, None}
use Rattle.machine.specs.declared.Reach.{Reach}
use Rattle.machine.specs.declared.Work.{Work}
use Rattle.machine.specs.State.{user}
use Rattle.machine.specs.Memory.{fetch_of}
use Rattle.machine.specs.Work.{no_parcel, present_of, done_with, work_of}
use Rattle.machine.specs.Layout.{frame_of}
use Rattle.access.specs.Executed.{Executes, Ends}
use Rattle.vector.specs.Element.{Vector}
use Rattle.access.proofs.Finite.{every, every-at}
use Rattle.access.proofs.Leaf.{no_stray}
use Rattle.control.specs.Control.{nothing_at}
use Rattle.memory.specs.Moves.{Moved}
use Rattle.dispatch.specs.Table.{Ready, Works, arm_of, says, any_of, high_arms, high_arm}

-- a block move as it ended
pub moved_ends : (w : Work) (r r' r'' mem mem' : List ℕ) (o : Bool) (x : ℕ) → Moved o r r' mem mem' x → Ends w r' r'' 1 o x → (p : ℕ)
    → Executes w r r'' mem mem' p x
moved_ends w r r' r'' mem mem' o x m e p = rw (e.work, e.words) (m.executes p)

-- what the arm says of the code, of every code
says_all : every (λ c. says (arm_of c) c) 128 ≡ true
unfolding every arm_of
says_all = refl

module _ (x n k : ℕ) (l : x < 2 ^ 16) (e : n ≡ arm_of (x / 512)) (h : n ≡ k) where
  pub arm-says : says k (x / 512) ≡ true
  arm-says =
      let same : arm_of (x / 512) ≡ k = sym e ∙ h in
      rw same at (every-at (λ c. says (arm_of c) c) 128 says_all (x / 512) (omega arith))

  -- an arm of the code's own, and one of eight codes
  pub own : ((c : ℕ) → says k c ≡ eqb c k) → x / 512 ≡ k
  own s = eqb-true (x / 512) k (sym (s (x / 512)) ∙ arm-says)

  pub group : ((c : ℕ) → says k c ≡ eqb (c / 8) (k / 8)) → x / 512 / 8 ≡ k / 8
  group s = eqb-true (x / 512 / 8) (k / 8) (sym (s (x / 512)) ∙ arm-says)

-- what the function of a code with an arm of its own asks
pub alone : {x n k : ℕ} → x < 2 ^ 16 → n ≡ arm_of (x / 512) → n ≡ k → ((c : ℕ) → says k c ≡ eqb c k) → x / 512 ≡ k
alone {x} {n} {k} l e h s = own x n k l e h s

-- no code has an arm that names no instruction, but 000
gap-all : every (λ c. not (nothing_at (arm_of c)) || eqb (arm_of c) 0) 128 ≡ true
unfolding every arm_of
gap-all = refl

pub gap : (x n k : ℕ) → x < 2 ^ 16 → n ≡ arm_of (x / 512) → (not (nothing_at k) || eqb k 0) ≡ false → n ≡ k → ⊥
gap x n k l e g h =
    let same : arm_of (x / 512) ≡ k = sym e ∙ h in
    let t : (not (nothing_at k) || eqb k 0) ≡ true = rw same at (every-at (λ c. not (nothing_at (arm_of c)) || eqb (arm_of c) 0) 128 gap-all (x / 512) (omega arith)) in
    let z : ◌≡◌ {A = Bool} true false = sym t ∙ g in
    let y : ◌≡◌ {A = ℕ} 0 1 = cc in
    omega arith

-- an arm from 100 on is one of twelve
high-all : every (λ c. not (leb 0o100 (arm_of c)) || high_arm (arm_of c)) 128 ≡ true
unfolding every arm_of
high-all = refl

pub high : (x n : ℕ) → x < 2 ^ 16 → n ≡ arm_of (x / 512) → 0o100 ≤ n → high_arm n ≡ true
high x n l e h =
    let t = every-at (λ c. not (leb 0o100 (arm_of c)) || high_arm (arm_of c)) 128 high-all (x / 512) (omega arith) in
    let u : (not (leb 0o100 n) || high_arm n) ≡ true = rw (← e) at t in
    rw (le-leb 0o100 n h) at u

-- a match's last arm: the number is none of the k from lo on, and B of those before them
abbrev NoneIn : Type 0 → ℕ → ℕ → ℕ → Type 0
NoneIn B n lo zero = B
NoneIn B n lo (suc k) = NoneIn B n lo k × (n ≡ lo + k → ⊥)

pub none_in : (B : Type 0) (n lo k : ℕ) → NoneIn B n lo k → lo ≤ n → lo + k ≤ n
none_in B n lo zero r l = omega arith
none_in B n lo (suc k) r l =
    let b : lo + k ≤ n = none_in B n lo k r.0 l in
    let ne : n ≡ lo + k → ⊥ = r.1 in
    omega arith

pub none_before : (B : Type 0) (n lo k : ℕ) → NoneIn B n lo k → B
none_before B n lo zero r = r
none_before B n lo (suc k) r = none_before B n lo k r.0

-- what is left of the table after 020 to 037, where 033 is no arm, and after 060 to 077, where 062 to 070 and 072 are none
pub past-020 : (x n : ℕ) → x < 2 ^ 16 → n ≡ arm_of (x / 512) → 0o020 ≤ n → NoneIn (NoneIn (Unit {0}) n 0o020 11) n 0o034 4 → 0o040 ≤ n
past-020 x n l e h r =
    let a : 27 ≤ n = none_in (Unit {0}) n 0o020 11 (none_before (NoneIn (Unit {0}) n 0o020 11) n 0o034 4 r) h in
    let g : n ≡ 27 → ⊥ = gap x n 27 l e refl in
    none_in (NoneIn (Unit {0}) n 0o020 11) n 0o034 4 r (omega arith)

pub past-060 : (x n : ℕ) → x < 2 ^ 16 → n ≡ arm_of (x / 512) → 0o060 ≤ n
    → NoneIn (NoneIn (NoneIn (Unit {0}) n 0o060 2) n 0o071 1) n 0o073 5 → high_arm n ≡ true
past-060 x n l e h r =
    let b = none_before (NoneIn (NoneIn (Unit {0}) n 0o060 2) n 0o071 1) n 0o073 5 r in
    let c : 50 ≤ n = none_in (Unit {0}) n 0o060 2 (none_before (NoneIn (Unit {0}) n 0o060 2) n 0o071 1 b) h in
    let g : (k : ℕ) → (not (nothing_at k) || eqb k 0) ≡ false → n ≡ k → ⊥ = λ k q. gap x n k l e q in
    let d : 57 ≤ n = none_in (Unit {0}) n 50 7 (((((((tt, g 50 refl), g 51 refl), g 52 refl), g 53 refl), g 54 refl), g 55 refl), g 56 refl) c in
    let f : 58 ≤ n = none_in (NoneIn (Unit {0}) n 0o060 2) n 0o071 1 b d in
    let i : 59 ≤ n = none_in (Unit {0}) n 58 1 (tt, g 58 refl) f in
    high x n l e (none_in (NoneIn (NoneIn (Unit {0}) n 0o060 2) n 0o071 1) n 0o073 5 r i)

-- what the vector instructions ask
pub vector-of : (r : List ℕ) (f : Reach) (len : ℕ) → Ready r f len → Vector r
vector-of r f len h = record { long = h.long; least = h.control.least; most = h.control.most }

-- the last arm of the last match is none
abbrev NoneOf : ℕ → List ℕ → Type 0
NoneOf n [] = Unit {0}
NoneOf n (k ∷ l) = NoneOf n l × (n ≡ k → ⊥)

or_left : (a : Bool) → (a || false) ≡ true → a ≡ true
or_left true e = refl
or_left false e = e

none_of : (n : ℕ) (l : List ℕ) → NoneOf n l → any_of n l ≡ true → ⊥
none_of n [] h e = let z : ◌≡◌ {A = ℕ} 0 1 = cc in omega arith
none_of n (k ∷ l) h e = none_of n l h.0 (or_left (any_of n l) (rw (ne_eqb n k h.1) at e))

pub no_arm : (n : ℕ) → high_arm n ≡ true → NoneOf n high_arms → ⊥
no_arm n e h = none_of n high_arms h e

-- the work of a step: no parcel, or the instruction that was executed
pub works-lost : (w : Work) (r mem : List ℕ) (p : ℕ) → fetch_of (frame_of r) mem p ≡ None → w ≡ no_parcel (user (frame_of r)) → Works w r r mem mem p
unfolding work_of present_of done_with
works-lost w r mem p e h = record { frame = refl; done = rw (e, h, no_stray (user (frame_of r)) r (length mem)) }

pub works-done : (w : Work) (r r' mem mem' : List ℕ) (p x : ℕ) → fetch_of (frame_of r) mem p ≡ Some x → Executes w r r' mem mem' p x → Works w r r' mem mem' p
unfolding work_of present_of
works-done w r r' mem mem' p x e h = record { frame = h.frame; done = rw e h.done }
