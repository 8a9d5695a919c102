use Rattle.std.proofs.Common.{refl, length, sym, ◌∙◌}
use Rattle.std.proofs.lemmas.Bool.{ltb-true}
use Rattle.std.proofs.lemmas.Option.{slice_get_read}
use Rattle.stream_front.proofs.Seen.{value_done, value_all, octet_seen, octet_less}
use Rattle.stream_front.proofs.scanner.Scanner.front.Goals as goal

pub returns-then-is_done-clause-front : goal.returns-then-is_done-clause-front
returns-then-is_done-clause-front c =
    λ strict. c.first_value.ensures ∙ value_done c.loop-octet.self c.args.octets.now strict c.loop-octet.invariant (sym c.is_done.ensures ∙ c.if-is_done.true)

pub loop-octet-smaller : goal.loop-octet-smaller
loop-octet-smaller c =
    let within = ltb-true c.loop-octet.self.seen (length c.args.octets.now) (sym c.in-Some.ensures.lookup.0) in
    let there = slice_get_read c.args.octets.now (length c.args.octets.now) c.loop-octet.self.seen c.in-Some.octet.now refl within c.in-Some.ensures.lookup.1 in
    rw c.step.ensures (octet_less c.loop-octet.self c.args.octets.now c.in-Some.octet.now c.loop-octet.invariant (sym c.is_done.ensures ∙ c.if-is_done.false) there)

pub loop-octet-preserved : goal.loop-octet-preserved
loop-octet-preserved c =
    let within = ltb-true c.loop-octet.self.seen (length c.args.octets.now) (sym c.in-Some.ensures.lookup.0) in
    let there = slice_get_read c.args.octets.now (length c.args.octets.now) c.loop-octet.self.seen c.in-Some.octet.now refl within c.in-Some.ensures.lookup.1 in
    rw c.step.ensures (octet_seen c.loop-octet.self c.args.octets.now c.in-Some.octet.now c.loop-octet.invariant (sym c.is_done.ensures ∙ c.if-is_done.false) there)

pub returns-clause-front : goal.returns-clause-front
returns-clause-front c = λ strict. c.first_value-2.ensures ∙ value_all c.loop-octet.self c.args.octets.now strict c.loop-octet.invariant c.in_default.ensures.lookup.3
