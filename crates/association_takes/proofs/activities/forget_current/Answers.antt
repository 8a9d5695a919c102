use Rattle.std.proofs.Common.{Option, ap}
use Rattle.std.specs.Prelude.{option_map}
use Rattle.association_pieces.specs.declared.sending.Transfer.{Transfer}
use Rattle.association_pieces.specs.Sending.{seen_transfer}
use Rattle.association_hearing.specs.association_state.Seen.{seen}
use Rattle.association_takes.proofs.activities.forget_current.Goals as goal

pub returns : goal.returns
returns c =
    let old = seen c.args.body.now in
    ap (λ (t : Option Transfer). record old { sending = record old.sending { current = option_map seen_transfer t } }) c.take.ensures.after
