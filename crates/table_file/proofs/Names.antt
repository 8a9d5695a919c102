-- Names are texts of IA5 characters.
use Rattle.std.proofs.Common.{◌≡◌, ℕ, suc, ◌<◌, true, List, [], ◌∷◌, refl}
use Rattle.std.proofs.lemmas.Bool.{and_parts, lt-ltb}
use Rattle.std.specs.Str.{IsAscii}
use Rattle.asn1_types.specs.declared.row.TextKind.TheVariants.{Ia5}
use Rattle.asn1_types.specs.Fits.{is_text}
use Rattle.notation_tokens.specs.Forms.{is_word}
use Rattle.notation_tokens.specs.Words.{is_name_of_type, is_name_of_value, is_type_name, is_value_name}
use Rattle.notation_tokens.specs.declared.token.TokenKind.TheVariants.{Word}
use Rattle.notation_tokens.proofs.Names.{word_low}

low_is_text : (text : List ℕ) → IsAscii text → is_text Ia5 text ≡ true
low_is_text [] h = refl
low_is_text (c ∷ cs) h =
    let low : c < 128 = h 0 in
    rw (lt-ltb c 128 low) (low_is_text cs (λ i. h (suc i)))

word_is_text : (text : List ℕ) → is_word text ≡ true → is_text Ia5 text ≡ true
word_is_text text h = low_is_text text (word_low text h)

pub name_is_text : (text : List ℕ) → is_name_of_value text ≡ true → is_text Ia5 text ≡ true
name_is_text text h = word_is_text text (and_parts (is_word text) (is_value_name Word text) h).0

pub title_is_text : (text : List ℕ) → is_name_of_type text ≡ true → is_text Ia5 text ≡ true
title_is_text text h = word_is_text text (and_parts (is_word text) (is_type_name Word text) h).0
