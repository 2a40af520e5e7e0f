use Rattle.turns.proofs.in_user_mode.Goals as goal

pub returns-then-is_user : goal.returns-then-is_user
returns-then-is_user c = rw (← c.is_user.ensures, c.if-is_user.true)

pub returns-else-is_user : goal.returns-else-is_user
returns-else-is_user c = rw (← c.is_user.ensures, c.if-is_user.false)
