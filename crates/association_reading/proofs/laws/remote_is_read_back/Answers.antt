use Rattle.association_reading.proofs.Meant.{remote_content}
use Rattle.association_reading.proofs.laws.remote_is_read_back.Goals as goal

pub returns : goal.returns
returns c = remote_content
