use Rattle.ber_reading.proofs.whole_values.read_sequence.Goals as goal

pub returns-clause-gives : goal.returns-clause-gives
returns-clause-gives c = rw c.requires.is c.sequence.ensures.gives
