-- What a reader gives, put behind what a buffer held. Assumes nothing.
use Rattle.std.proofs.Common.{◌≡◌, ℕ, ◌+◌, ◌≤◌, List, ◌++◌, length, take, sym, ap, ◌∙◌, le_refl, drop_at, length-take-le}
use Rattle.std.proofs.lemmas.Slice.{take-put_mid_below}
use borrow.Rule.Slice.PartMut.{put_mid, post_of}
use lib.Seq.{take-add, take-append-le}

-- n of the bytes ys, written at a
pub filled : (a k n : ℕ) (xs ys : List ℕ) → a ≤ length xs → n ≤ length ys → take a xs ++ take n ys ≡ take (a + n) (put_mid a k xs ys)
filled a k n xs ys within fits =
    let behind = ap (take n) (drop_at (take a xs) (ys ++ post_of a k xs) a (length-take-le a xs within))
    ∙ take-append-le n ys (post_of a k xs) fits in
    ap (λ l. l ++ take n ys) (sym (take-put_mid_below a k xs ys a (le_refl _) within))
    ∙ ap (λ l. take a (put_mid a k xs ys) ++ l) (sym behind)
    ∙ sym (take-add a n (put_mid a k xs ys))
