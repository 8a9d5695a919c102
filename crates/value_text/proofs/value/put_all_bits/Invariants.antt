use Rattle.std.proofs.Common.{◌≡◌, ◌++◌, drop}
use Rattle.value_text.specs.Values.{bits_of}
use Rattle.value_text.proofs.value.put_all_bits.Given as goal

abbrev pub invariant-loop-index : goal.invariant-loop-index
invariant-loop-index l = l.fn.text ++ bits_of l.octets l.unused ≡ l.text ++ bits_of (drop l.index l.octets) l.unused
