-- A break of the connection.
use Rattle.std.proofs.Common.{◌≡◌, false, [], refl, ap, ◌∙◌}
use Rattle.dialogue.specs.declared.config.Mode.{Mode}
use Rattle.dialogue.specs.declared.config.Mode.TheVariants.{Bare, Direct, Reliable}
use Rattle.end_rules.specs.Base.{Base}
use Rattle.end_rules.specs.State.{Body, Unused, Suspended}
use Rattle.end_rules.specs.History.{after_broke, broken_phase}
use Rattle.agreement.specs.State as model
use Rattle.agreement.specs.State.Awaited.{NoAnswer as model_no_answer}
use Rattle.agreement.specs.State.Progress.{Suspended as model_suspended}
use Rattle.agreement.specs.Acts.{on_transfer as model_on}
use Rattle.agreement.specs.Takings.{broken, broken_phase as model_broken_phase}
use Rattle.end_model.specs.Seen.{Free, mode_seen, phase_seen, setup_seen, calls_seen, incoming_seen, outgoing_seen, seen}
use Rattle.end_model.specs.Rows.{at}
use Rattle.end_model.proofs.Transfers.{on-current}

pub broken-seen : (mode : Mode) (free : Free) (base : Base) (body : Body) → phase_seen Unused (broken_phase mode body.link.phase) ≡ model_broken_phase (mode_seen mode) (phase_seen body.link.stage body.link.phase) → seen (at mode base) (after_broke (at mode base) body) ≡ broken (setup_seen free mode base) (seen (at mode base) body)
broken-seen Bare free base body h =
    let put : model.Phase → model.Outgoing → model.State = λ p o. record (seen (at Bare base) body) { phase = p; gave = false; awaits = model_no_answer; outgoing = o; incoming = record (incoming_seen body.receiving) { active = false }; calls = record { own_open = []; peer_open = []; made = body.calls.made } } in
    ap (λ o. put (phase_seen Unused (broken_phase Bare body.link.phase)) o) (on-current (at Bare base) (λ t. record t { progress = Suspended }) (λ t. record t { progress = model_suspended }) (λ t. refl) body.sending.started body.sending.queue body.sending.current) ∙
    ap (λ p. put p (model_on (λ t. record t { progress = model_suspended }) (outgoing_seen (at Bare base) body.sending))) h
broken-seen Direct free base body h =
    let put : model.Phase → model.Outgoing → model.State = λ p o. record (seen (at Direct base) body) { phase = p; gave = false; awaits = model_no_answer; outgoing = o; incoming = record (incoming_seen body.receiving) { active = false }; calls = record { own_open = []; peer_open = []; made = body.calls.made } } in
    ap (λ o. put (phase_seen Unused (broken_phase Direct body.link.phase)) o) (on-current (at Direct base) (λ t. record t { progress = Suspended }) (λ t. record t { progress = model_suspended }) (λ t. refl) body.sending.started body.sending.queue body.sending.current) ∙
    ap (λ p. put p (model_on (λ t. record t { progress = model_suspended }) (outgoing_seen (at Direct base) body.sending))) h
broken-seen Reliable free base body h =
    let put : model.Phase → model.Outgoing → model.State = λ p o. record (seen (at Reliable base) body) { phase = p; gave = false; awaits = model_no_answer; outgoing = o; incoming = record (incoming_seen body.receiving) { active = false }; calls = calls_seen body.calls } in
    ap (λ o. put (phase_seen Unused (broken_phase Reliable body.link.phase)) o) (on-current (at Reliable base) (λ t. record t { progress = Suspended }) (λ t. record t { progress = model_suspended }) (λ t. refl) body.sending.started body.sending.queue body.sending.current) ∙
    ap (λ p. put p (model_on (λ t. record t { progress = model_suspended }) (outgoing_seen (at Reliable base) body.sending))) h
