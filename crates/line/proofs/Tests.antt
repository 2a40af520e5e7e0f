-- What a test says, for the tactics. Assumes nothing.
use borrow.Author.Tests.{eq-eqb, ne_eqb, lt-ltb, le-ltb, le-leb, lt-leb}
use Rattle.line.proofs.Laws.{second-by}

pub ruleset tests = (eq-eqb, ne_eqb, lt-ltb, le-ltb, le-leb, lt-leb)

pub ruleset by_row = (eq-eqb, ne_eqb, lt-ltb, le-ltb, le-leb, lt-leb, second-by)
