use Rattle.std.proofs.Common.{sym}
use Rattle.notation_tokens.proofs.Names.{upper_is_word, first_has_form}
use Rattle.operation_notation.proofs.cursor.Cursor.type_name.Goals as goal

pub located-requires : goal.located-requires
located-requires c = upper_is_word _ _ (sym c.if-is_upper_name.ensures) (first_has_form c.self.inside.source.now _ c.self.inside.tokens.now _ c.self.invariant c.in-len1-up.len_at_least)
