use Rattle.std.proofs.Common.{refl, sym, subst, ◌∙◌}
use Rattle.dialogue.specs.declared.config.Phase.TheVariants.{Dead}
use Rattle.end_rules.specs.State.{Body}
use Rattle.association_reacting.specs.association_state.Seen.{seen}
use Rattle.association_end.specs.View.{EndView}
use Rattle.association_end.specs.Changed.{ChangedBy}
use Rattle.association_end.specs.OneMessage.{with_body}
use Rattle.association_end.proofs.Inside.{view_in}
use Rattle.association_end.proofs.Sounds.{sound_over}
use Rattle.association_end.proofs.ReactionSent.{kept_line}
use Rattle.association_end.proofs.Calls.{changed_so, changed_sound, changed_room, memory_changed}
use Rattle.association_end.proofs.end.End.change.Goals as goal

pub invariant_of-self : goal.invariant_of-self
invariant_of-self c =
    let body : Body = seen c.make_call-called.new.body in
    sound_over (view_in c.self.inside) (record body { link = record body.link { phase = Dead } }) c.self.invariant refl

pub returns-then-wants_memory-clause-is : goal.returns-then-wants_memory-clause-is
returns-then-wants_memory-clause-is c =
    memory_changed c.args.self.now _ c.args.asked.now c.make_call-called.result (sym c.wants_memory.ensures ∙ c.if-wants_memory.true) (kept_line (view_in c.self.inside) c.args.self.now _ c.self.view_is refl refl refl)

pub returns-then-wants_memory-clause-room : goal.returns-then-wants_memory-clause-room
returns-then-wants_memory-clause-room c =
    let e : EndView = view_in c.self.inside in
    changed_room e (with_body (seen c.make_call-called.new.body) e) c.args.asked.now c.make_call-called.result c.self.invariant.accepted (changed_so e (seen c.make_call-called.new.body) c.args.asked.now c.make_call-called.result c.make_call-called.ensures)

pub invariant_of-self-else-wants_memory : goal.invariant_of-self-else-wants_memory
invariant_of-self-else-wants_memory c =
    changed_sound (view_in c.self.inside) (seen c.make_call-called.new.body) c.args.asked.now c.make_call-called.result c.self.invariant (sym c.wants_memory.ensures ∙ c.if-wants_memory.false) c.make_call-called.ensures

pub returns-clause-is : goal.returns-clause-is
returns-clause-is c =
    let new : EndView = with_body (seen c.make_call-called.new.body) (view_in c.self.inside) in
    subst (λ (e : EndView). ChangedBy e new c.args.asked.now c.make_call-called.result) c.self.view_is
    (changed_so (view_in c.self.inside) (seen c.make_call-called.new.body) c.args.asked.now c.make_call-called.result c.make_call-called.ensures)

pub returns-clause-room : goal.returns-clause-room
returns-clause-room c =
    let e : EndView = view_in c.self.inside in
    changed_room e (with_body (seen c.make_call-called.new.body) e) c.args.asked.now c.make_call-called.result c.self.invariant.accepted (changed_so e (seen c.make_call-called.new.body) c.args.asked.now c.make_call-called.result c.make_call-called.ensures)
