use Rattle.desk.specs.Desk.{listed_in, listing_of}
use Rattle.desk.proofs.Texts.{answer-some, answer-refusal}
use Rattle.desk.proofs.listing.Goals as goal

pub returns-in-Ok-clause-wrote : goal.returns-in-Ok-clause-wrote
unfolding listing_of
returns-in-Ok-clause-wrote c = (answer-some (listed_in _) c.in-Ok.ensures.gives.0 c.put_listing.ensures.wrote, c.in-Ok.ensures.parcels_after)

pub returns-in-Err-clause-wrote : goal.returns-in-Err-clause-wrote
unfolding listing_of
returns-in-Err-clause-wrote c = (answer-refusal (listed_in _) c.in-Err.ensures.gives c.put_error.ensures.0, c.in-Err.ensures.parcels_after)
