-- What is returned, as the program keeps it.
use Rattle.apdu_spelling.specs.Heads as heads
use Rattle.apdu_codec.specs.declared.pieces.Returning.{Returning}

abbrev pub outcome_of : Returning → heads.ReturnedOctets
outcome_of r = record { code = r.code; octets = r.octets }
