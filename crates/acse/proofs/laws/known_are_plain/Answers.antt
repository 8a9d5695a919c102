use Rattle.acse.proofs.KnownLaws as laws
use Rattle.acse.proofs.laws.known_are_plain.Goals as goal

pub returns : goal.returns
returns c = laws.known_are_plain
