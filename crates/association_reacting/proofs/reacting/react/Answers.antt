use Rattle.std.proofs.Common.{refl, sym, ap, ◌∙◌}
use Rattle.end_rules.specs.Reacting.{react, react_to_word, react_to_transport}
use Rattle.association_words.specs.declared.words.Message.{Message}
use Rattle.association_words.specs.Seen.{seen_message, seen_word, seen_transport}
use Rattle.association_place.specs.association_state.Seen.{base_in, seen}
use Rattle.association_reacting.specs.ActivityEnds.{is_end_message}
use Rattle.association_reacting.proofs.Reactions.{result_by, passed_over, of_transport, of_word}
use Rattle.association_reacting.proofs.reacting.react.Goals as goal

pub returns-then-passes_over : goal.returns-then-passes_over
returns-then-passes_over c = record {
  is = passed_over (base_in c.args.basis.now) (seen c.args.body.now) (seen_message c.args.message) (sym c.passes_over.ensures ∙ c.if-passes_over.true);
  body = refl;
}

pub returns-in-Transport : goal.returns-in-Transport
returns-in-Transport c =
    let b = base_in c.args.basis.now in
    let old = seen c.args.body.now in
    result_by (react b old (seen_message c.args.message)) (react_to_transport b old (seen_transport c.in-Transport.unit)) old (seen c.react_to_transport.new.body) c.react_to_transport.result
    (ap (λ (m : Message). react b old (seen_message m)) c.in-Transport.is ∙ of_transport b old (seen_transport c.in-Transport.unit) (sym c.passes_over.ensures ∙ c.if-passes_over.false))
    c.react_to_transport.ensures

pub react_to_word-requires : goal.react_to_word-requires
react_to_word-requires c = sym (ap (λ (m : Message). is_end_message (seen_message m)) c.in-Session.is) ∙ c.requires.other

pub returns-in-Session : goal.returns-in-Session
returns-in-Session c =
    let b = base_in c.args.basis.now in
    let old = seen c.args.body.now in
    result_by (react b old (seen_message c.args.message)) (react_to_word b old (seen_word c.in-Session.word)) old (seen c.react_to_word.new.body) c.react_to_word.result
    (ap (λ (m : Message). react b old (seen_message m)) c.in-Session.is ∙ of_word b old (seen_word c.in-Session.word) c.requires.associated (sym c.passes_over.ensures ∙ c.if-passes_over.false))
    c.react_to_word.ensures
