use mathlib.Core.Path.{sym}
use native.Mathlib.Omega.{arith}
use Prim.Native.Nat.{ℕ}
use lib.ListN.{replicate}
use lib.Seq.{length-take-le}
use Rattle.text.proofs.Writing.{wrote_as}
use Rattle.desk.proofs.Columns.{blanks-are}
use Rattle.desk.proofs.put_blanks.Goals as goal

pub returns : goal.returns
returns c =
    let n = length-take-le c.args.n (replicate {A = ℕ} 16 32) c.requires.1 in
    let end = c.put_text.ensures.0.place in
    (wrote_as (sym (blanks-are 16 c.args.n c.requires.1)) c.put_text.ensures.0, omega (arith, n, end))
