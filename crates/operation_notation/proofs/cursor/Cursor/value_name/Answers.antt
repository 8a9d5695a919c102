use Rattle.std.proofs.Common.{sym}
use Rattle.notation_tokens.proofs.Names.{lower_is_word, first_has_form}
use Rattle.operation_notation.proofs.cursor.Cursor.value_name.Goals as goal

pub located-requires : goal.located-requires
located-requires c = lower_is_word _ _ (sym c.if-is_lower_name.ensures) (first_has_form c.self.inside.source.now _ c.self.inside.tokens.now _ c.self.invariant c.in-len1-up.len_at_least)
