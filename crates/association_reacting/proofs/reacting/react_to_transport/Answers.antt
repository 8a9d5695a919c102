use Rattle.std.proofs.Common.{Some, None, refl, sym, ap, ◌∙◌}
use Rattle.std.specs.Prelude.{option_map}
use Rattle.end_rules.specs.Reacting.{fails, react_to_transport}
use Rattle.end_rules.specs.TakesTransport.{after_transport, answers_to_transport, shown_of_transport}
use Rattle.association_words.specs.Seen.{seen_fault, seen_transport}
use Rattle.association_place.specs.association_state.Seen.{base_in, seen}
use Rattle.association_reacting.proofs.Reactions.{result_by, taken_so, transport_purged, transport_looked_at}
use Rattle.association_reacting.proofs.reacting.react_to_transport.Goals as goal

pub returns-then-is_transport_purged : goal.returns-then-is_transport_purged
returns-then-is_transport_purged c = record {
  is = transport_purged (base_in c.args.basis.now) (seen c.args.body.now) (seen_transport c.args.unit) (sym c.is_transport_purged.ensures ∙ c.if-is_transport_purged.true);
  body = refl;
}

pub returns-in-Some : goal.returns-in-Some
returns-in-Some c =
    let b = base_in c.args.basis.now in
    let old = seen c.args.body.now in
    result_by (react_to_transport b old (seen_transport c.args.unit)) (fails old old.link.accepted (seen_fault c.in-Some.fault)) old (seen c.fails_on_accepted.new.body) c.fails_on_accepted.result
    (transport_looked_at b old (seen_transport c.args.unit) (Some (seen_fault c.in-Some.fault)) (sym c.is_transport_purged.ensures ∙ c.if-is_transport_purged.false) (sym (ap (option_map seen_fault) c.in-Some.is) ∙ c.transport_fault.ensures))
    c.fails_on_accepted.ensures

pub returns-in_ok-taken-in-None : goal.returns-in_ok-taken-in-None
returns-in_ok-taken-in-None c =
    let b = base_in c.args.basis.now in
    let old = seen c.args.body.now in
    let unit = seen_transport c.args.unit in
    taken_so (react_to_transport b old unit) (seen c.take_transport.new.body) (after_transport b old unit) (answers_to_transport b old unit) (shown_of_transport unit) c.in_ok-taken-in-None.taken
    (transport_looked_at b old unit None (sym c.is_transport_purged.ensures ∙ c.if-is_transport_purged.false) (sym (ap (option_map seen_fault) c.in-None.is) ∙ c.transport_fault.ensures))
    c.in_ok-taken-in-None.ensures.body c.in_ok-taken-in-None.ensures.taken
