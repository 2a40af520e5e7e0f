use native.Mathlib.Omega.{arith}
use Rattle.assembly.proofs.Laws.{first-most}
use Rattle.assembly.proofs.put_first.Goals as goal

pub put_next-requires : goal.put_next-requires
put_next-requires c =
    let few = first-most c.args.parcels.now (λ i. let b = c.type_inv.parcels i in omega (arith, b)) c.requires in
    (c.requires, omega (arith, few))

pub returns-clause-upper_bound : goal.returns-clause-upper_bound
returns-clause-upper_bound c =
    let few = first-most c.args.parcels.now (λ i. let b = c.type_inv.parcels i in omega (arith, b)) c.requires in
    let end = c.put_next.ensures.wrote.place in
    omega (arith, few, end)
