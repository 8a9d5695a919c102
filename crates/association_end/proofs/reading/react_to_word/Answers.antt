use Rattle.std.proofs.Common.{sym, subst}
use Rattle.std.specs.Prelude.{IfOk}
use Rattle.end_rules.specs.Messages.{Word, Session}
use Rattle.end_rules.specs.Reacting.{react}
use Rattle.association_reacting.specs.association_state.Seen.{base_in, seen}
use Rattle.association_reacting.specs.SeenReaction.{ReactsAs}
use Rattle.association_end.proofs.reading.react_to_word.Goals as goal

pub returns-in_ok-arrived-in-Some : goal.returns-in_ok-arrived-in-Some
returns-in_ok-arrived-in-Some c =
    subst (λ (w : Word). IfOk c.react_to_end.result (ReactsAs (react (base_in c.args.basis.now) (seen c.args.body.now) (Session w)) (seen c.args.body.now) (seen c.react_to_end.new.body))) (sym c.in-Some.ensures) c.react_to_end.ensures
