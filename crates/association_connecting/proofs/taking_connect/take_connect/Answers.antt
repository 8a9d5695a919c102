use Rattle.std.proofs.Common.{sym, ◌∙◌}
use Rattle.association_words.specs.Seen.{seen_values}
use Rattle.association_answers.specs.association_state.Seen.{base_in, seen}
use Rattle.association_connecting.proofs.Requests.{requested, has_control}
use Rattle.association_connecting.proofs.taking_connect.take_connect.Goals as goal

pub accept-requires-clause-request : goal.accept-requires-clause-request
accept-requires-clause-request c =
    requested (base_in c.args.basis.now) c.args.presentation.now (seen_values c.args.values.now) c.requires
    (has_control (base_in c.args.basis.now) (seen c.args.body.now) c.args.session.now c.args.presentation.now (seen_values c.args.values.now)
    (sym c.is_refused.ensures ∙ c.if-is_refused.false))
