use Rattle.std.proofs.Common.{◌≡◌, ◌<◌, ◌^◌, drop}
use Rattle.value_text.specs.Numbers.{below, digits_after}
use Rattle.value_text.proofs.decimal.decimal_natural.Given as goal

abbrev pub invariant-loop-digit : goal.invariant-loop-digit
invariant-loop-digit l = record {
  rest : below (2 ^ 64) (digits_after 0 l.text) ≡ below (2 ^ 64) (digits_after l.value (drop l.digit-index l.text));
  fits : l.value < 2 ^ 64;
}
