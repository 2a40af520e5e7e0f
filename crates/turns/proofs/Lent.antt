-- The words of one processor lent from a pair: the list as it comes back, by the parts on either side and the part itself. Assumes nothing.
use Prim.Native.Nat.{ℕ, ◌+◌, ◌-◌, ◌≤◌}
use mathlib.Core.Path.{◌≡◌, sym, ◌∙◌, ap, subst, subst⁻¹}
use mathlib.Core.Logic.{⊎_elim}
use mathlib.Core.List.{List, ◌++◌}
use native.Mathlib.Omega.{arith}
use lib.ListN.{length, take, drop, length-drop, take-append-drop}
use lib.Seq.{length-take-le, take-append-le, drop-append-le, take_at, drop_at, drop-drop}
use Rattle.machine.specs.Layout.{part}
use Rattle.turns.specs.Pair.{Side}

-- a part that lies in the first of two lists
front : (o n : ℕ) (xs ys : List ℕ) → o + n ≤ length xs → part o n (xs ++ ys) ≡ part o n xs
unfolding part
front o n xs ys h =
    ap (take n) (drop-append-le o xs ys (omega arith)) ∙ take-append-le n (drop o xs) ys (omega (arith, length-drop o xs))

-- the part as a call finds it, whose end is reckoned from `at`
pub seen : (at : ℕ) (w : List ℕ) → take (at + 672 - at) (drop at w) ≡ part at 672 w
unfolding part
seen at w = let e : at + 672 - at ≡ 672 = omega arith in rw e

module _ (at : ℕ) (w r : List ℕ) (side : Side at) (whole : length w ≡ 1344) (long : length r ≡ 672) where
  -- the list after a call that leaves r there
  abbrev back : List ℕ
  back = take at w ++ (r ++ drop (at + 672 - at) (drop at w))

  rest : drop at back ≡ r ++ drop (at + 672 - at) (drop at w)
  rest = drop_at (take at w) (r ++ drop (at + 672 - at) (drop at w)) at (length-take-le at w (omega (arith, side.0)))

  lent : part at 672 back ≡ r
  unfolding part
  lent = ap (take 672) rest ∙ take_at r (drop (at + 672 - at) (drop at w)) 672 long

  -- what a call ensures of the part that it was lent holds of that part of the whole
  pub lifted : (P : List ℕ → List ℕ → Type 0) → P (take (at + 672 - at) (drop at w)) r → P (part at 672 w) (part at 672 back)
  lifted P h = subst⁻¹ (P (part at 672 w)) lent (subst (λ (l : List ℕ). P l r) (seen at w) h)

  -- and the other's words stay
  pub kept : part (672 - at) 672 back ≡ part (672 - at) 672 w
  unfolding part
  kept = ⊎_elim after before side.1
    where
      before : at ≡ 672 → part (672 - at) 672 back ≡ part (672 - at) 672 w
      before e =
          let g : 672 - at + 672 ≤ length (take at w) = omega (arith, length-take-le at w (omega arith)) in
          front (672 - at) 672 (take at w) (r ++ drop (at + 672 - at) (drop at w)) g ∙ sym (front (672 - at) 672 (take at w) (drop at w) g)
          ∙ ap (part (672 - at) 672) (take-append-drop at w)

      after : at ≡ 0 → part (672 - at) 672 back ≡ part (672 - at) 672 w
      after e =
          let k : at + 672 - at ≡ 672 = omega arith in
          let s : at + 672 ≡ 672 - at = omega arith in
          let d : (l : List ℕ) → drop (672 - at) l ≡ drop 672 (drop at l) = λ l. sym (drop-drop 672 at l ∙ ap (λ (q : ℕ). drop q l) s) in
          ap (take 672) (d back ∙ ap (drop 672) rest ∙ drop_at r (drop (at + 672 - at) (drop at w)) 672 long ∙ ap (λ (q : ℕ). drop q (drop at w)) k ∙ sym (d w))

-- each has 672 words
pub part-long : (at : ℕ) (w : List ℕ) → Side at → length w ≡ 1344 → length (part at 672 w) ≡ 672
unfolding part
part-long at w side whole = length-take-le 672 (drop at w) (omega (arith, length-drop at w, side.0))
