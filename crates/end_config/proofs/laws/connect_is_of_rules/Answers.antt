use Rattle.end_config.proofs.Connects.{connect_is_of_rules}
use Rattle.end_config.proofs.laws.connect_is_of_rules.Goals as goal

pub returns : goal.returns
returns c = connect_is_of_rules
