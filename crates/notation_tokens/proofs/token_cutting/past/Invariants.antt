use Rattle.std.proofs.Common.{◌≡◌, ◌≤◌, ◌+◌, drop}
use Rattle.notation_tokens.specs.Lexing.{behind_octets}
use Rattle.notation_tokens.proofs.token_cutting.past.Given as goal

abbrev pub invariant-loop-octet : goal.invariant-loop-octet
invariant-loop-octet l = record {
  value : behind_octets (record { line = l.line; column = l.column }) (drop l.octet-index l.octets) ≡ behind_octets l.fn.place l.fn.octets;
  line : l.line ≤ l.fn.place.line + l.octet-index;
  column : l.column ≤ l.fn.place.column + l.octet-index;
}
