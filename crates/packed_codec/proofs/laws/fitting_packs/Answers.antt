use Rattle.packed_codec.proofs.RowLaws.{fitting_packs}
use Rattle.packed_codec.proofs.laws.fitting_packs.Goals as goal

pub returns : goal.returns
returns c = fitting_packs
