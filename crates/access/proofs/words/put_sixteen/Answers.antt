use Rattle.std.proofs.Common.{◌≡◌, ◌+◌, ◌-◌, length, take, arith, rules}
use lib.Seq.{take-length}
use Rattle.access.proofs.Places.{filled-part}
use Rattle.access.proofs.words.put_sixteen.Goals as goal

pub returns : goal.returns
returns c =
    let k = filled-part c.args.first c.args.w c.args.to.now 16 (omega arith) (omega arith) in
    let n : c.args.first + 16 - c.args.first ≡ 16 = omega arith in
    let l : length c.args.w ≡ 16 = search rules in
    let whole : take 16 c.args.w ≡ c.args.w = let e : take (length c.args.w) c.args.w ≡ c.args.w = take-length c.args.w in rw l at e in
    rw (k, n, c.copy_from_slice.ensures.after, whole)
