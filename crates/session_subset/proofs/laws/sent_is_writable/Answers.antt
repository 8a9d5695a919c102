use Rattle.session_subset.proofs.WritableLaws.{sent_is_writable}
use Rattle.session_subset.proofs.laws.sent_is_writable.Goals as goal

pub returns : goal.returns
returns c = sent_is_writable
