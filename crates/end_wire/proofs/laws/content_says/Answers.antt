use Rattle.end_wire.proofs.ContentLaws.{content_says}
use Rattle.end_wire.proofs.laws.content_says.Goals as goal

pub returns : goal.returns
returns c = content_says
