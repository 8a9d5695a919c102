use Rattle.rtse_apdus.specs.Reading.{rtse_at}
use Rattle.end_rules.specs.Connecting.{is_on_rtse}
use Rattle.association_meaning.specs.Informing.{seen_item_read, transferring, other_read}
use Rattle.association_meaning.proofs.Fails.{halts, as_read_fails}
use Rattle.std.proofs.Common.{◌≡◌, true, rules}
use Rattle.association_meaning.proofs.user_information.other_read.Goals as goal

pub returns-in_err-item : goal.returns-in_err-item
returns-in_err-item c =
    let on : is_on_rtse c.args.accepted.now c.args.id ≡ true = search rules in
    halts seen_item_read c.from_residual.result (other_read (is_on_rtse c.args.accepted.now c.args.id) c.args.id (rtse_at c.args.octets.now)) c.in_err-item.field-0.0 c.from_residual.ensures.1 (rw on (as_read_fails c.in_err-item.field-0.0 (transferring c.args.id (rtse_at c.args.octets.now)) c.in_err-item.ensures))
