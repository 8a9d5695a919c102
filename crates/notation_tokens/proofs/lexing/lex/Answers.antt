use Rattle.notation_tokens.proofs.Longest.{lex_tokens}
use Rattle.notation_tokens.proofs.Stopping.{lex_fault}
use Rattle.notation_tokens.proofs.lexing.lex.Goals as goal

pub returns-clause-tokens : goal.returns-clause-tokens
returns-clause-tokens c = lex_tokens c.args.text.now c.cut_whole.result c.cut_whole.ensures

pub returns-clause-first : goal.returns-clause-first
returns-clause-first c = lex_fault c.args.text.now c.cut_whole.result c.cut_whole.ensures
