-- Two ends with what they have in common, as their moments know them.
use Rattle.end_model.specs.end_rules.World.{Ends}
use Rattle.agreement.specs.Sets.Role.{Initiator, Responder}
use Rattle.end_model.specs.BothEnds.{Common, base_at}

abbrev pub ends_for : Common → Ends
ends_for common = record { a = base_at Initiator common; b = base_at Responder common }
