use Rattle.ber_spelling.proofs.strings.text.Goals as goal

pub returns-clause-gives : goal.returns-clause-gives
returns-clause-gives c = c.string.ensures.gives
