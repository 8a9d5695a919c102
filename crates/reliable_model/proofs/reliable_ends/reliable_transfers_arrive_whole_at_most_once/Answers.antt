use Rattle.reliable_model.proofs.Laws.{reliable-whole, reliable-items, reliable-once}
use Rattle.reliable_model.proofs.reliable_ends.reliable_transfers_arrive_whole_at_most_once.Goals as goal

pub returns : goal.returns
returns c = record { whole = reliable-whole; items = reliable-items; once = reliable-once }
