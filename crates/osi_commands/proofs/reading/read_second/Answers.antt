use Rattle.osi_commands.proofs.reading.read_second.Goals as goal

pub returns-in-Some-clause-typed : goal.returns-in-Some-clause-typed
returns-in-Some-clause-typed g c = c.requires.typed
