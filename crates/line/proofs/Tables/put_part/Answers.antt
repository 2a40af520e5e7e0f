use Rattle.text.proofs.Writing.{then}
use Rattle.line.proofs.Tables.put_part.Goals as goal

pub returns-clause-wrote : goal.returns-clause-wrote
returns-clause-wrote c = then c.put_operand-end.ensures c.put_signs.ensures.wrote
