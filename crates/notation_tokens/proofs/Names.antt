-- Words and names.
use Rattle.std.proofs.Common.{◌≡◌, ℕ, zero, suc, ◌<◌, ◌≤◌, Bool, true, false, List, [], ◌∷◌, length, Result, Ok, Err, refl, arith}
use Rattle.std.proofs.lemmas.Bool.{and_parts}
use Rattle.std.specs.Prelude.{IsTrue, IsOk, MatchResult, slice_range, slice_index_or, ◌==◌, ◌&&◌, if◌then◌else◌}
use Rattle.std.specs.List.{AllByRecursion}
use Rattle.std.specs.Char.{is_ascii_alphabetic, is_ascii_alphanumeric}
use Rattle.std.specs.Str.{IsAscii}
use Rattle.std.proofs.lemmas.Bool.Decides.{nat_tests}
use Rattle.notation_tokens.specs.declared.token.Token.{Token}
use Rattle.notation_tokens.specs.declared.token.TokenKind.{TokenKind}
use Rattle.notation_tokens.specs.declared.token.TokenKind.TheVariants.{Word, Number, Sign}
use Rattle.notation_tokens.specs.Forms.{is_word, goes_on_well, has_form}
use Rattle.notation_tokens.specs.Lexeme.{IsSpan}
use Rattle.notation_tokens.specs.Words.{is_value_name, is_type_name}

-- ---- words are ASCII

alphabetic_low : (c : ℕ) → is_ascii_alphabetic c ≡ true → c < 128
alphabetic_low c e = grind (arith, nat_tests)

alphanumeric_low : (c : ℕ) → is_ascii_alphanumeric c ≡ true → c < 128
alphanumeric_low c e = grind (arith, nat_tests)

low_cons : (c : ℕ) (cs : List ℕ) → c < 128 → IsAscii cs → IsAscii (c ∷ cs)
low_cons c cs lt h zero = lt
low_cons c cs lt h (suc i) = h i

hyphen_low : (c : ℕ) → (c == 45) ≡ true → c < 128
hyphen_low c e = grind (arith, nat_tests)

goes_on_low_step : (bare : Bool) (c : ℕ) (cs : List ℕ) → (goes_on_well false cs ≡ true → IsAscii cs) → (goes_on_well true cs ≡ true → IsAscii cs)
    → (b : Bool) → (c == 45) ≡ b → (if b then bare && goes_on_well false cs else is_ascii_alphanumeric c && goes_on_well true cs) ≡ true → IsAscii (c ∷ cs)
goes_on_low_step bare c cs f t true is h = low_cons c cs (hyphen_low c is) (f (and_parts bare (goes_on_well false cs) h).1)
goes_on_low_step bare c cs f t false is h =
    let p = and_parts (is_ascii_alphanumeric c) (goes_on_well true cs) h in
    low_cons c cs (alphanumeric_low c p.0) (t p.1)

goes_on_low : (bare : Bool) (text : List ℕ) → goes_on_well bare text ≡ true → IsAscii text
goes_on_low bare [] e = λ i. omega arith
goes_on_low bare (c ∷ cs) e = goes_on_low_step bare c cs (goes_on_low false cs) (goes_on_low true cs) (c == 45) refl e

pub word_low : (text : List ℕ) → is_word text ≡ true → IsAscii text
word_low [] e = absurd cc
word_low (c ∷ cs) e =
    let p = and_parts (is_ascii_alphabetic c) (goes_on_well true cs) e in
    low_cons c cs (alphabetic_low c p.0) (goes_on_low true cs p.1)

pub ok_at_text : {X Y : Type 0} (P : X → Type 0) (Q : Y → Type 0) (U : Type 0) (r : Result X Y) → MatchResult r P (λ e. (U → ⊥) × Q e) → U → IsOk r
ok_at_text P Q U (Ok x) h u = refl
ok_at_text P Q U (Err e) h u = absurd (h.0 u)

-- ---- what a name's token is

pub lower_is_word : (kind : TokenKind) (text : List ℕ) → is_value_name kind text ≡ true → IsTrue (has_form kind text) → IsTrue (is_word text)
unfolding is_value_name
lower_is_word Word text e h = h
lower_is_word Number text e h = absurd cc
lower_is_word Sign text e h = absurd cc

pub upper_is_word : (kind : TokenKind) (text : List ℕ) → is_type_name kind text ≡ true → IsTrue (has_form kind text) → IsTrue (is_word text)
unfolding is_type_name
upper_is_word Word text e h = h
upper_is_word Number text e h = absurd cc
upper_is_word Sign text e h = absurd cc

pub first_has_form : (source : List ℕ) (len : ℕ) (ts : List Token) (d : Token) → AllByRecursion (IsSpan source len) ts → 1 ≤ length ts → let t = slice_index_or ts 0 d in IsTrue (has_form t.kind (slice_range source t.from t.to))
first_has_form source len [] d h n = absurd (omega arith)
first_has_form source len (t ∷ ts) d h n = h.0.form
