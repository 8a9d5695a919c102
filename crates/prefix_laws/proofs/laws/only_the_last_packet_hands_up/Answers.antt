use Rattle.prefix_laws.proofs.Cuts.{last-hands-up}
use Rattle.prefix_laws.proofs.laws.only_the_last_packet_hands_up.Goals as goal

pub returns : goal.returns
returns c = record { law = last-hands-up }
