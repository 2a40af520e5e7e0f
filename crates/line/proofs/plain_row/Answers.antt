use Rattle.line.proofs.Laws.{no_plain}
use Rattle.line.proofs.plain_row.Goals as goal

pub returns-in_default : goal.returns-in_default
returns-in_default c = no_plain c.args.c c.requires.0 c.requires.1 c.in_default.in_default-own.rest
