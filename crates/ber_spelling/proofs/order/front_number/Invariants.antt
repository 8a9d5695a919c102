use Rattle.std.proofs.Common.{◌≡◌, ◌≤◌, ◌^◌, drop}
use Rattle.ber_spelling.proofs.order.front_number.Given as goal
use Rattle.asn1_types.specs.Tags.{front_number}

abbrev pub invariant-loop-digit : goal.invariant-loop-digit
invariant-loop-digit l = record {
  small : l.number ≤ 2 ^ 32;
  so_far : front_number l.number (drop l.digit-index l.digits) ≡ front_number 0 l.digits;
}
