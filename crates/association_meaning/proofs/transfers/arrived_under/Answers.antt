use Rattle.std.specs.Option.{option_copied}
use Rattle.osi_base.specs.PdvContent.{octets_of}
use Rattle.association_intake.specs.association_reading.declared.layer_of_values.LayerOfValues.TheVariants as carriage
use Rattle.association_intake.specs.association_reading.Places.{places_of, spot_at}
use Rattle.association_intake.specs.association_reading.Values.{content_under}
use Rattle.association_intake.specs.association_reading.Transfers.{arrived_under}
use Rattle.association_words.specs.Seen.{seen_arrived}
use Rattle.association_meaning.proofs.Fails.{halts, arrived_fails}
use Rattle.association_meaning.proofs.transfers.arrived_under.Goals as goal

pub returns-in_err-content : goal.returns-in_err-content
returns-in_err-content c =
    halts seen_arrived c.from_residual.result (arrived_under c.args.basis.now.tables.now (places_of (spot_at 0 c.args.octets.now)) c.args.pdv.now (option_copied c.args.pair)) c.in_err-content.field-0.0 c.from_residual.ensures.1
    (rw c.in-Some.is (arrived_fails c.in_err-content.field-0.0 (places_of (spot_at 0 c.args.octets.now)) c.args.pdv.now.id c.in-Some.pair.now (content_under c.args.basis.now.tables.now carriage.Module c.in-Some.pair.now (octets_of c.args.pdv.now.content)) (rw (c.as_slice-value.ensures, c.octets.ensures) at c.in_err-content.ensures)))
