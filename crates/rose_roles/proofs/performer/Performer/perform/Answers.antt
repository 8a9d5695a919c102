use Rattle.std.proofs.Common.{sym, ap, ◌∙◌}
use Rattle.dialogue.specs.declared.indication.Indication.TheVariants as indications
use Rattle.end_wire.specs.end_rules.Hearing as rules
use Rattle.rose_roles.specs.Calls.{calls_of}
use Rattle.rose_roles.specs.Hearing.{heard_with}
use Rattle.rose_roles.proofs.performer.Performer.perform.Goals as goal

pub returns-in-None-clause-performed : goal.returns-in-None-clause-performed
returns-in-None-clause-performed c = λ base own carried same arg.
    ap (heard_with (calls_of c.args.forest.now own c.args.self.now.kept)) c.invoke_rejected.ensures
    ∙ (λ k. rules.invoked base (calls_of c.args.forest.now own c.args.self.now.kept) c.args.self.now.context c.args.id.now c.args.linked (sym c.in-None.is k) carried)

pub returns-in_ok-admit-in-Some-clause-performed : goal.returns-in_ok-admit-in-Some-clause-performed
returns-in_ok-admit-in-Some-clause-performed c = λ base own carried same arg.
    let a = c.in_ok-admit-in-Some.ensures.admitted base own same in
    ap (heard_with (calls_of c.admit.new.forest own c.admit.new.self.kept)) c.invoked.ensures
    ∙ (λ k. rules.showing (a k) (indications.Invoked c.args.id.now c.in-Some.operation c.args.linked (arg k)))
    ∙ (λ k. rules.invoked base (calls_of c.args.forest.now own c.args.self.now.kept) c.args.self.now.context c.args.id.now c.args.linked (sym c.in-Some.is k) carried)
