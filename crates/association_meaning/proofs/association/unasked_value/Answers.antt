use Rattle.std.proofs.Common.{Some}
use Rattle.osi_base.specs.PdvContent.{octets_of}
use Rattle.acse.specs.Fields.{acse_at}
use Rattle.end_rules.specs.Writing.{acse_pair}
use Rattle.association_intake.specs.association_reading.Values.{acse_content}
use Rattle.association_intake.specs.association_reading.Association.{unasked_value}
use Rattle.association_words.specs.Seen.{seen_value}
use Rattle.association_meaning.proofs.Fails.{halts, content_fails}
use Rattle.association_meaning.proofs.association.unasked_value.Goals as goal

pub returns-in_err-content : goal.returns-in_err-content
returns-in_err-content c =
    halts seen_value c.from_residual-in_err-content.result (unasked_value c.args.pdv.now) c.in_err-content.field-0.0 c.from_residual-in_err-content.ensures.1 (content_fails c.in_err-content.field-0.0 c.args.pdv.now.id (Some acse_pair) (acse_content (acse_at (octets_of c.args.pdv.now.content))) (rw (c.as_slice.ensures, c.octets.ensures) at c.in_err-content.ensures))
