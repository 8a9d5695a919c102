-- What each end of reliable mode started, encoded and was handed up, read off the moments (X.228 7).
use Rattle.std.specs.Prelude.{List, [], ◌∷◌, if◌then◌else◌}
use Rattle.osi_base.specs.declared.layer_words.Side.{Side}
use Rattle.osi_base.specs.declared.layer_words.SetItem.{SetItem}
use Rattle.end_model.specs.end_rules.Base.{Base}
use Rattle.end_model.specs.end_rules.State.{Body}
use Rattle.end_model.specs.end_rules.ByItself.{SendsNow, EncodesOn}
use Rattle.end_model.specs.end_rules.History.{Step, sent, encoded, took}
use Rattle.end_model.specs.end_rules.World.{World, Ends, base_at, body_at, is_side, shared_at}
use Rattle.outcome_laws.specs.reliable_model.Ledgers.{TransferLog, no_transfer_log, longer_transfer_log, started_by, encoded_by, transfer_log_taken}

abbrev pub transfer_log_after : Base → Body → List SetItem → Step → TransferLog → TransferLog
transfer_log_after base body set (sent message) transfer_log = longer_transfer_log (started_by body (SendsNow message)) (encoded_by body set (SendsNow message)) transfer_log
transfer_log_after base body set (encoded context) transfer_log = longer_transfer_log (started_by body (EncodesOn context)) (encoded_by body set (EncodesOn context)) transfer_log
transfer_log_after base body set (took message) transfer_log = transfer_log_taken base body message transfer_log
transfer_log_after base body set _ transfer_log = transfer_log

abbrev pub transfer_log_at : Ends → Side → World → TransferLog
transfer_log_at ends side [] = no_transfer_log
transfer_log_at ends side (m ∷ w) =
    if is_side side m.side then transfer_log_after (base_at ends side) (body_at ends side w) (shared_at ends w).set m.step (transfer_log_at ends side w) else transfer_log_at ends side w
