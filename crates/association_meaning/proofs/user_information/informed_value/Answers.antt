use Rattle.std.proofs.Common.{sym, ◌∙◌}
use Rattle.association_intake.specs.association_reading.Values.{informed_value}
use Rattle.association_words.specs.Seen.{seen_value, seen_values}
use Rattle.association_meaning.specs.Informing.{kind_of}
use Rattle.association_meaning.proofs.FirstItems.{value_fails}
use Rattle.association_meaning.proofs.Fails.{halts}
use Rattle.association_meaning.proofs.user_information.informed_value.Goals as goal

pub returns-in_err-user-in-Association : goal.returns-in_err-user-in-Association
returns-in_err-user-in-Association c =
    halts seen_values c.from_residual.result (informed_value c.args.accepted.now (kind_of c.args.kind) (seen_value c.args.value) (seen_value c.args.value).content) c.in_err-user-in-Association.field-0.0 c.from_residual.ensures.1
    (value_fails c.args.accepted.now (kind_of c.args.kind) c.args.value c.in-Association.apdu c.in-Association.user c.in-Association.is (sym c.is_of.ensures ∙ c.if-is_of.true) c.in_err-user-in-Association.field-0.0 c.in_err-user-in-Association.ensures)
