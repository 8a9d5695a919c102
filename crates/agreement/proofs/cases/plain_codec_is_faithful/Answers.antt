use Rattle.agreement.proofs.CaseRuns.{faithful}
use Rattle.agreement.proofs.cases.plain_codec_is_faithful.Goals as goal

pub returns : goal.returns
returns c = record { law = faithful }
