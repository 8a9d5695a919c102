use Rattle.std.proofs.Common.{sym, ◌∙◌}
use Rattle.association_reacting.specs.association_state.Seen.{seen}
use Rattle.association_end.proofs.Units.{of_grammar, before_connection, other_layer}
use Rattle.association_end.proofs.reading.grammar_fault.Goals as goal

pub returns-then-has_connection : goal.returns-then-has_connection
returns-then-has_connection c =
    c.at.ensures ∙ sym (of_grammar (seen c.args.body.now) c.args.layer c.args.place c.in-Session.is (sym c.has_connection.ensures ∙ c.if-has_connection.true))

pub returns-else-has_connection : goal.returns-else-has_connection
returns-else-has_connection c =
    c.at-else-has_connection.ensures ∙ sym (before_connection (seen c.args.body.now) c.args.layer c.args.place c.in-Session.is (sym c.has_connection.ensures ∙ c.if-has_connection.false))

pub returns-in_default : goal.returns-in_default
returns-in_default c = c.at-in_default.ensures ∙ sym (other_layer (seen c.args.body.now) c.args.layer c.args.place c.in_default.not-Session)
