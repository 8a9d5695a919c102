use Rattle.std.proofs.Common.{◌≡◌, ◌+◌, ◌≤◌, ◌^◌, drop}
use Rattle.ber_spelling.specs.Fields.{digits_at}
use Rattle.ber_spelling.proofs.fields.digits.Given as goal

abbrev pub invariant-loop-index : goal.invariant-loop-index
invariant-loop-index l = record {
  small : l.number ≤ 2 ^ 32;
  so_far : digits_at l.scope l.place l.number (l.place + 1 + l.index) (drop l.index l.digits) ≡ digits_at l.scope l.place 0 (l.place + 1) l.digits;
}
