use Rattle.std.proofs.Common.{◌≡◌, ◌+◌, ◌<◌, length, arith}
use Rattle.text.proofs.Writing.{then, wrote-byte, wrote_none, wrote_as, commas-first, rest_at, commas-next, commas-done}
use Rattle.text.proofs.put_list.Goals as goal

pub loop-n-preserved : goal.loop-n-preserved
loop-n-preserved c = (
  omega (arith, c.put_number-to-in-loop-n.ensures.1),
  λ m q w. c.loop-n.invariant.1 m q
      (wrote_as (commas-next c.args.ns.now c.args.least (c.loop-n.n-index + 1) (omega arith))
      (then (then (wrote-byte c.put_byte.ensures) (rw (rest_at c.args.ns.now c.loop-n.n-index) at c.put_number-to-in-loop-n.ensures.0)) w)),
)

pub returns : goal.returns
returns c =
    let some : 0 < length c.args.ns.now = omega arith in
    let all : c.loop-n.n-index + 1 ≡ length c.args.ns.now = omega arith in (
      wrote_as (commas-first _ _ some) (then c.put_number-to.ensures.0 (c.loop-n.invariant.1 _ _ (wrote_as (commas-done _ _ _ all) (wrote_none _ _)))),
      omega (arith, c.put_number-to.ensures.1, c.loop-n.invariant.0),
    )
