use Rattle.access.proofs.Windows.{code_inside, second, second-narrow}
use Rattle.access.proofs.Leaf.{lost}
use Rattle.memory.proofs.Fields.{reached, held}
use Rattle.memory.proofs.Rows.{is-none}
use Rattle.memory.proofs.Single.{loading, load_code_lem, loaded}
use Rattle.std.proofs.Common.{◌∙◌, rules}
use Rattle.memory.proofs.load.Goals as goal

pub fetch-requires : goal.fetch-requires
fetch-requires c =
    code_inside _ _ _ c.requires.reaches

pub returns-in_default : goal.returns-in_default
returns-in_default c =
    lost _ _ _ _ _ (loading c.args.file) (load_code_lem c.args.file _ _ c.requires.coded)
    (second _ _ _ _ _ c.on.ensures c.fetch.ensures _ _ c.requires.reaches c.in_default.is) c.no_parcel.ensures

pub indexed-n-requires : goal.indexed-n-requires
indexed-n-requires c =
    second-narrow _ _ _ _ _ c.on.ensures c.fetch.ensures _ c.in-Some.is

pub get-word-requires : goal.get-word-requires
get-word-requires c =
    held _ _ _ _ (reached _ _ _ c.requires.reaches)

pub returns : goal.returns
returns c =
    loaded c.args.file _ _ _ _ _ _ _ _ _ c.requires.reaches (second _ _ _ _ _ c.on.ensures c.fetch.ensures _ _ c.requires.reaches c.in-Some.is)
    c.indexed-n.ensures (is-none _ _ c.is_none.ensures ∙ c.get-word.ensures.1) _ _ _ c.requires.coded c.get-word.ensures.0
    (rw c.unwrap_or.ensures at c.set.ensures) (search rules) c.ended.ensures
