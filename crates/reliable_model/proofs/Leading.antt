-- Who leads and has an item to encode holds the shared set.
use Rattle.std.proofs.Common.{◌≡◌, ◌∙◌, sym, true≢false, subst, subst₂, List}
use Rattle.std.specs.Prelude.{Option, Some, None}
use Rattle.agreement.specs.Sets.{Role, other}
use Rattle.agreement.specs.Messages.{ModelSetup, Message}
use Rattle.agreement.specs.State.{Transfer, State}
use Rattle.agreement.specs.State.Awaited.{NoAnswer}
use Rattle.agreement.specs.State.Progress.{Running, Ending}
use Rattle.agreement.specs.Acts.{Leads as IsLeading, IsUnencoded}
use Rattle.agreement.specs.Worlds.{World, Sending, Shared, state_of, shared_at, flight_to, IsRun}
use Rattle.agreement.proofs.Flow.{IsOpen}
use Rattle.agreement.proofs.Leads.{shared-held}
use Rattle.agreement.proofs.Runs.{at-role, reached}
use Rattle.agreement.proofs.Standing.{reliable, follower_of, FlowOf, Flowing, state_with}
use Rattle.agreement.proofs.Standing.Flowing.{Leads, Follows, Gives_away, Is_given}
use Rattle.agreement.proofs.StandingActs.{is-seen}
use Rattle.agreement.proofs.ReliableWorlds.{ReliableRelation, reliable-keeps}
use Rattle.agreement.proofs.Encoded.{up-stands}

leader-shared : (base : ModelSetup) (role : Role) (x y : State) (f g : List Sending) (shared : Shared) → ReliableRelation base role x y f g shared → IsLeading x → IsUnencoded x.outgoing.transfer → shared.set ≡ x.sets.held
leader-shared base role x y f g shared r leads due =
    let j = up-stands base role x y f g shared r leads.is_free.is_up in
    let i = is-seen role x f g j.me j.up leads.is_free.is_up j.sees_me in
    by_flow (j.peer) (j.down) (j.up) (subst (λ z. Flowing (reliable base) role z j.peer j.down j.up shared) i.same j.flow)
  where
    open-due : (t : Option Transfer) → IsUnencoded t → IsOpen NoAnswer t
    open-due None d = absurd d
    open-due (Some t) d = λ e. clash (sym d.0 ∙ e)
      where
        clash : Running ≡ Ending → ⊥
        clash e = cc

    by_flow : (y : State) (down up : List Message) → Flowing (reliable base) role x y down up shared → shared.set ≡ x.sets.held
    by_flow y down up (Leads o p n) =
        subst₂ (λ w q. FlowOf (reliable base) role (state_with x w q x.outgoing.transfer) y down up shared → shared.set ≡ x.sets.held) (sym leads.is_free.is_calm) (sym leads.is_settled)
        (shared-held (reliable base) role x.outgoing.transfer x.sets.held x.sets.inter x.outgoing.started x.incoming (follower_of y) y.outgoing.started y.outgoing.transfer down up shared.set shared.inter _ _ (open-due x.outgoing.transfer due)) n
    by_flow y down up (Follows o p n) = absurd (true≢false (sym leads.has_turn ∙ o.turn))
    by_flow y down up (Gives_away k) = absurd (true≢false (sym leads.has_turn ∙ k.giver.turn))
    by_flow y down up (Is_given k) = absurd (true≢false (sym leads.has_turn ∙ k.taker.turn))

pub leads-shared : (base : ModelSetup) (world : World) (role : Role) → IsRun (reliable base) world → IsLeading (state_of (reliable base) role world) → IsUnencoded (state_of (reliable base) role world).outgoing.transfer →
    (shared_at (reliable base) world).set ≡ (state_of (reliable base) role world).sets.held
leads-shared base world role run =
    leader-shared base role (state_of (reliable base) role world) (state_of (reliable base) (other role) world) (flight_to (reliable base) role world) (flight_to (reliable base) (other role) world) (shared_at (reliable base) world)
    (at-role (reliable base) (ReliableRelation base) (reliable-keeps base) role world (reached (reliable base) (ReliableRelation base) (reliable-keeps base) world run))
