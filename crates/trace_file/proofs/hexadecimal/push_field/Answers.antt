use Rattle.std.proofs.Common.{sym, ◌∙◌, ap}
use Rattle.trace_file.specs.Reading.{more_octets}
use Rattle.trace_file.proofs.Steps.{pair_on}
use Rattle.trace_file.proofs.hexadecimal.push_field.Goals as goal

pub loop-high-preserved : goal.loop-high-preserved
loop-high-preserved c =
    ap (λ octets. more_octets octets c.in-Some.more.now) c.in_ok-push.ensures.ok
    ∙ sym (ap (more_octets c.loop-high.octets) c.in-Some.ensures ∙ pair_on c.loop-high.octets c.in-Some.high c.in-Some.low c.in-Some.more.now c.in-Some-octet_of_digits.octet (sym c.in-Some-octet_of_digits.ensures)) ∙ c.loop-high.invariant
