use Rattle.association_reading.proofs.Meant.{association_content, transfer_contents}
use Rattle.association_reading.proofs.laws.layers_are_read_back.Goals as goal

pub returns : goal.returns
returns c = record { association = association_content; transfers = transfer_contents }
