use Rattle.ber_spelling.proofs.strings.octet_string.Goals as goal

pub returns-clause-gives : goal.returns-clause-gives
returns-clause-gives c = c.string.ensures.gives
