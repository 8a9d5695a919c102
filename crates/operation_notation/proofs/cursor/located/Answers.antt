use Rattle.std.proofs.lemmas.Str.{IsUtf8-from_ascii}
use Rattle.notation_tokens.proofs.Names.{ok_at_text, word_low}
use Rattle.operation_notation.proofs.cursor.located.Goals as goal

pub unwrap-text-requires : goal.unwrap-text-requires
unwrap-text-requires c = ok_at_text _ _ _ c.from_utf8.result c.from_utf8.ensures.cases (IsUtf8-from_ascii c.args.text.now (word_low c.args.text.now c.requires))
