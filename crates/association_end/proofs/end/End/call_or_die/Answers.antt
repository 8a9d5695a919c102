use Rattle.std.proofs.Common.{refl, ap, sym, ◌∙◌}
use Rattle.end_rules.specs.Invoking.{is_memory}
use Rattle.association_end.specs.View.{EndView}
use Rattle.association_end.specs.Called.{BeganCall, DiedCalled}
use Rattle.association_end.proofs.Inside.{view_in}
use Rattle.association_end.proofs.Sounds.{sound_dead}
use Rattle.association_end.proofs.Calls.{died_called, dead_so, alive_so}
use Rattle.association_end.proofs.end.End.call_or_die.Goals as goal

pub invariant_of-self : goal.invariant_of-self
invariant_of-self c = sound_dead (view_in c.self.inside) c.self.invariant

pub returns-then-is_memory : goal.returns-then-is_memory
returns-then-is_memory c =
    dead_so (is_memory c.call_now-answer.result) (BeganCall c.args.self.now c.call_now-answer.new.self c.args.asked.now) _ _ _ (sym c.is_memory.ensures ∙ c.if-is_memory.true)
    (λ g. died_called c.args.self.now c.call_now-answer.new.self _ c.args.asked.now g (ap (λ (e : EndView). e.tables) c.self.view_is) (ap (λ (e : EndView). e.config) c.self.view_is) (ap (λ (e : EndView). e.end.line.waiting) c.self.view_is) refl)
    c.call_now-answer.ensures

pub returns : goal.returns
returns c =
    alive_so (is_memory c.call_now-answer.result) _ _ (DiedCalled c.args.self.now c.call_now-answer.new.self c.args.asked.now) (sym c.is_memory.ensures ∙ c.if-is_memory.false) c.call_now-answer.ensures
