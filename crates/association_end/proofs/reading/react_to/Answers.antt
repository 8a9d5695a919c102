use Rattle.std.proofs.Common.{sym, subst}
use Rattle.std.specs.Prelude.{IfOk}
use Rattle.std.proofs.lemmas.Result.{IfOk-weaker}
use Rattle.association_meaning.specs.association_intake.declared.front.Front.{Front}
use Rattle.association_meaning.specs.association_intake.Seen.{seen_front, IsPlaced}
use Rattle.association_words.specs.Seen.{seen_transport}
use Rattle.association_reacting.specs.association_state.Seen.{base_in, seen}
use Rattle.association_end.specs.OneMessage.{ReactsTo}
use Rattle.association_end.specs.Sound.{IsMessage}
use Rattle.association_end.proofs.Units.{transport_reacts, unit_reacts, fault_reacts}
use Rattle.association_end.proofs.reading.react_to.Goals as goal

pub returns-in-Short : goal.returns-in-Short
returns-in-Short c = absurd (subst (λ (f : Front). IsMessage (seen_front f)) c.in-Short.is c.requires.whole)

pub returns-in-OfTransport : goal.returns-in-OfTransport
returns-in-OfTransport c =
    let b = base_in c.args.basis.now in
    let old = seen c.args.body.now in
    let new = seen c.react.new.body in
    subst (λ (f : Front). IfOk c.react.result (ReactsTo b old new (seen_front f))) (sym c.in-OfTransport.is)
    (IfOk-weaker c.react.result _ _ (λ r h. transport_reacts b old new r (seen_transport c.in-OfTransport.unit) h) c.react.ensures)

pub react_to_unit-reaction-requires-clause-placed : goal.react_to_unit-reaction-requires-clause-placed
react_to_unit-reaction-requires-clause-placed c = subst (λ (f : Front). IsPlaced f) c.in-OfSession.is c.requires.placed

pub returns-in-OfSession : goal.returns-in-OfSession
returns-in-OfSession c =
    let b = base_in c.args.basis.now in
    let old = seen c.args.body.now in
    let new = seen c.react_to_unit-reaction.new.body in
    subst (λ (f : Front). IfOk c.react_to_unit-reaction.result (ReactsTo b old new (seen_front f))) (sym c.in-OfSession.is)
    (IfOk-weaker c.react_to_unit-reaction.result _ _ (λ r h. unit_reacts b old new c.requires.up r c.in-OfSession.unit c.in-OfSession.start h) c.react_to_unit-reaction.ensures)

pub returns-in-Faulty : goal.returns-in-Faulty
returns-in-Faulty c =
    let b = base_in c.args.basis.now in
    let old = seen c.args.body.now in
    let new = seen c.fails_on_accepted.new.body in
    subst (λ (f : Front). IfOk c.fails_on_accepted.result (ReactsTo b old new (seen_front f))) (sym c.in-Faulty.is)
    (IfOk-weaker c.fails_on_accepted.result _ _ (λ r h. fault_reacts b old new c.requires.up r c.in-Faulty.layer c.in-Faulty.place (c.grammar_fault-fault.result) c.grammar_fault-fault.ensures h) c.fails_on_accepted.ensures)
