use Rattle.text.proofs.Writing.{wrote_as}
use Rattle.desk.proofs.Texts.{listed-fits, listed-full}
use Rattle.desk.proofs.put_listing.Goals as goal

pub returns-in-Ok : goal.returns-in-Ok
returns-in-Ok c =
    let h = listed-fits _ _ _ c.list.ensures.room_after _ c.in-Ok.ensures.value in
    record { wrote = h.0; upper_bound = λ l. h.1 }

pub returns-in-Err-clause-wrote : goal.returns-in-Err-clause-wrote
returns-in-Err-clause-wrote c =
    let h = listed-full _ _ _ c.list.ensures.room_after _ c.in-Err.ensures.value in
    wrote_as h.0 (rw (← h.1) c.put_refused.ensures.0)
