use Rattle.std.proofs.Common.{rules}
use Rattle.access.proofs.Windows.{code_inside, second, second-narrow}
use Rattle.access.proofs.Leaf.{lost}
use Rattle.memory.proofs.Fields.{reached, held}
use Rattle.memory.proofs.Single.{storing, store_code_lem, stored}
use Rattle.memory.proofs.store.Goals as goal

pub fetch-requires : goal.fetch-requires
fetch-requires c =
    code_inside _ _ _ c.requires.reaches

pub returns-in_default : goal.returns-in_default
returns-in_default c =
    lost _ _ _ _ _ (storing c.args.file) (store_code_lem c.args.file _ _ c.requires.coded)
    (second _ _ _ _ _ c.on.ensures c.fetch.ensures _ _ c.requires.reaches c.in_default.is) c.no_parcel.ensures

pub indexed-n-requires : goal.indexed-n-requires
indexed-n-requires c =
    second-narrow _ _ _ _ _ c.on.ensures c.fetch.ensures _ c.in-Some.is

pub put-outside-requires : goal.put-outside-requires
put-outside-requires c =
    held _ _ _ _ (reached _ _ _ c.requires.reaches)

pub returns : goal.returns
returns c =
    stored c.args.file _ _ _ _ _ _ _ _ _ c.requires.reaches (second _ _ _ _ _ c.on.ensures c.fetch.ensures _ _ c.requires.reaches c.in-Some.is)
    c.indexed-n.ensures c.put-outside.ensures.1 _ _ c.requires.coded (rw c.register-y.ensures at c.put-outside.ensures.0) (search rules) c.ended.ensures
