use Rattle.std.proofs.Common.{sym, ◌∙◌}
use Rattle.std.proofs.lemmas.Str.{IsUtf8-from_ascii}
use Rattle.std.proofs.lemmas.Bool.{and_parts}
use Rattle.notation_tokens.specs.Forms.{is_word}
use Rattle.notation_tokens.specs.Words.{is_type_name}
use Rattle.notation_tokens.specs.declared.token.TokenKind.TheVariants.{Word}
use Rattle.notation_tokens.proofs.Names.{ok_at_text, word_low}
use Rattle.table_file.proofs.loading.module_name.Goals as goal

pub unwrap-octets-requires : goal.unwrap-octets-requires
unwrap-octets-requires c =
    let text = c.in_ok-octets.octets.now in
    let word = (and_parts (is_word text) (is_type_name Word text) (sym c.is_name_of_type.ensures ∙ c.if-not-is_name_of_type.false)).0 in
    ok_at_text _ _ _ c.from_utf8.result c.from_utf8.ensures.cases (IsUtf8-from_ascii text (word_low text word))
