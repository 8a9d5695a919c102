use Rattle.std.specs.Option.{option_copied}
use Rattle.osi_base.specs.PdvContent.{octets_of}
use Rattle.association_intake.specs.association_reading.Values.{content_by, value_by}
use Rattle.association_words.specs.Seen.{seen_value}
use Rattle.association_meaning.proofs.Fails.{halts, content_fails}
use Rattle.association_meaning.proofs.values.value_by.Goals as goal

pub returns-in_err-content : goal.returns-in_err-content
returns-in_err-content c =
    halts seen_value c.from_residual-in_err-content.result (value_by c.args.basis.now.tables.now c.args.carried (option_copied c.args.pair) c.args.pdv.now) c.in_err-content.field-0.0 c.from_residual-in_err-content.ensures.1 (content_fails c.in_err-content.field-0.0 c.args.pdv.now.id (option_copied c.args.pair) (content_by c.args.basis.now.tables.now c.args.carried (option_copied c.args.pair) (octets_of c.args.pdv.now.content)) (rw (c.as_slice.ensures, c.octets.ensures) at c.in_err-content.ensures))
