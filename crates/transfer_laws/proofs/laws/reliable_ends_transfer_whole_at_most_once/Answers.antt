use Rattle.transfer_laws.proofs.Premises as laws
use Rattle.transfer_laws.proofs.laws.reliable_ends_transfer_whole_at_most_once.Goals as goal

pub returns : goal.returns
returns c = record { whole = laws.ends-whole; items = laws.ends-items; once = laws.ends-once }
