use Rattle.std.proofs.Common.{sym, subst}
use Rattle.std.specs.Option.{option_copied}
use Rattle.association_intake.specs.association_reading.Places.{places_of, spot_at}
use Rattle.association_words.specs.Seen.{seen_arrived}
use Rattle.association_meaning.specs.Grounds.{GivesAs}
use Rattle.association_meaning.proofs.Judged.{wrong_arrives, right_arrives}
use Rattle.association_meaning.proofs.transfers.arrived_by.Goals as goal

pub returns-in-Some : goal.returns-in-Some
returns-in-Some c =
    subst (GivesAs seen_arrived c.invalid_at.result) (wrong_arrives c.args.basis.now.tables.now (places_of (spot_at 0 c.args.octets.now)) c.args.pdv.now (option_copied c.args.pair) c.in-Some.field (sym (rw c.arcs.ensures.value at c.in-Some.ensures))) c.invalid_at.ensures

pub returns-in-None : goal.returns-in-None
returns-in-None c =
    subst (GivesAs seen_arrived c.arrived_under.result) (right_arrives c.args.basis.now.tables.now (places_of (spot_at 0 c.args.octets.now)) c.args.pdv.now (option_copied c.args.pair) (sym (rw c.arcs.ensures.value at c.in-None.ensures))) c.arrived_under.ensures
