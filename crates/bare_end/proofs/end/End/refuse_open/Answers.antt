use Rattle.std.proofs.Common.{ℕ, List, false, ap, ◌∙◌}
use Rattle.end_rules.specs.State.{close}
use Rattle.bare_end.specs.View.{with_calls, with_waiting}
use Rattle.bare_end.proofs.Answered.{refuse_refused, refuse_sent}
use Rattle.bare_end.proofs.end.End.refuse_open.Goals as goal

pub returns-in-Refused : goal.returns-in-Refused
returns-in-Refused c = λ o found.
    refuse_refused c.args.self.now c.args.id.now c.args.place c.args.parameter.now c.args.error.now c.requires.there o found c.in_ok-checked.checked c.in-Refused.refusal c.in_ok-checked.ensures c.in-Refused.is

pub returns-in_ok-end_invocation-in-Sends : goal.returns-in_ok-end_invocation-in-Sends
returns-in_ok-end_invocation-in-Sends c = λ o found.
    refuse_sent c.args.self.now c.args.id.now c.args.place c.args.parameter.now c.args.error.now c.requires.there o found c.in_ok-checked.checked c.in-Sends.text c.end_invocation.new.self c.in_ok-checked.ensures c.in-Sends.is (c.in_ok-end_invocation-in-Sends.ensures.ok ∙ ap (λ (t : List ℕ). with_waiting t (with_calls (close false c.args.id.now c.args.self.now.calls) c.args.self.now)) c.as_slice.ensures)
