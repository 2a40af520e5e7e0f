use Rattle.std.proofs.Common.{◌+◌, ℕ, eqb, rules, tests, ◌∙◌, add-zero}
use Rattle.std.proofs.lemmas.Iterator.{YieldsList-from_slice}
use Rattle.std.proofs.lemmas.Iterator.Consumers.{YieldsList-from_enumerate}
use Rattle.std.proofs.lemmas.Iterator.Search.{all_from_yields_List}
use Rattle.text.specs.Digits.{byte_at}
use Rattle.text.proofs.Reading.{starts_all}
use Rattle.text.proofs.starts.Goals as goal

pub returns : goal.returns
returns c =
    all_from_yields_List (λ (p : ℕ × ℕ). eqb (byte_at c.args.text.now (c.args.at + p.0)) p.1) _ _ c.all.result c.all.ensures.ran
    (YieldsList-from_enumerate (YieldsList-from_slice c.args.name.now (search rules)) (search rules)) (λ x b q k. search (rules, tests))
    ∙ rw add-zero at (starts_all c.args.text.now c.args.name.now c.args.at 0)
