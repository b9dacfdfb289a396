use Rattle.mk_clients.proofs.laws.owned_numbers_stay.Goals as goal
use Rattle.mk_clients.proofs.OwnedCalls.{owned_numbers_stay}

pub returns : goal.returns
returns c = owned_numbers_stay
