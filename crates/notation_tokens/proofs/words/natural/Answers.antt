use Rattle.std.proofs.Common.{◌≡◌, ℕ, List, true, None, sym, subst, arith}
use Rattle.std.proofs.lemmas.Str.{IsUtf8-from_ascii}
use Rattle.notation_tokens.specs.Words.{number, is_decimal}
use Rattle.notation_tokens.proofs.Numbers.{not_number, decimal_ascii}
use Rattle.notation_tokens.proofs.words.natural.Goals as goal

pub returns-in-Err-parse-clause-value : goal.returns-in-Err-parse-clause-value
returns-in-Err-parse-clause-value c =
    let same_text : c.in-Ok.digits.now ≡ c.args.text.now = c.in-Ok.ensures.cases.0 in
    let decimal : is_decimal c.in-Ok.digits.now ≡ true = rw same_text (sym c.if-not-is_decimal_text.ensures) in
    sym (subst (λ (t : List ℕ). number c.args.most t ≡ None) same_text (not_number c.args.most c.in-Ok.digits.now c.parse.result c.in-Err-parse.field-0 decimal (omega (arith, c.ranges.most.fits)) c.parse.ensures.value.0 c.in-Err-parse.is))

pub returns-in-Err-clause-value : goal.returns-in-Err-clause-value
returns-in-Err-clause-value c = absurd (c.in-Err.ensures.cases.0 (IsUtf8-from_ascii c.args.text.now (decimal_ascii c.args.text.now (sym c.if-not-is_decimal_text.ensures))))
