use Rattle.std.proofs.Common.{arith}
use Rattle.machine.specs.Layout.{state_of}
use Rattle.case.proofs.Laws.{start-ok, run-ok, package-run}
use Rattle.case.proofs.run_package.Goals as goal

pub unwrap-requires : goal.unwrap-requires
unwrap-requires c = start-ok _ c.requires.0 _ (omega arith) _ (state_of c.args.r.now) _ c.start.ensures

pub unwrap-requires-2 : goal.unwrap-requires-2
unwrap-requires-2 c =
    run-ok _ _ _ _ _ _ (package-run _ c.requires.0 _ (omega arith) _ (state_of c.args.r.now) _ _ _ c.start.ensures c.run.ensures.call c.requires.1)

pub returns : goal.returns
returns c =
    rw c.unwrap-2.ensures at
    (package-run _ c.requires.0 _ (omega arith) _ (state_of c.args.r.now) _ _ _ c.start.ensures c.run.ensures.call c.requires.1)
