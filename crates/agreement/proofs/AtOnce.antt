-- The laws of bare and of direct mode.
use Rattle.std.proofs.Common.{◌≡◌, ℕ, true, List, [], ◌∷◌, sym, ap, ◌∙◌, subst, true≢false}
use Rattle.agreement.specs.Sets.{Role, other, ContextSet, Saved}
use Rattle.agreement.specs.Sets.Role.{Initiator, Responder}
use Rattle.agreement.specs.Messages.{ModelSetup, Message, Choice}
use Rattle.agreement.specs.State.{State}
use Rattle.agreement.specs.State.Awaited.{NoAnswer}
use Rattle.agreement.specs.Takings.{MayTake}
use Rattle.agreement.specs.Worlds.{World, state_of, Shared, shared_at, Sending, flight_to, IsStep, IsRun}
use Rattle.agreement.specs.Worlds.Step.{Takes}
use Rattle.agreement.specs.Worlds.Moment.{By}
use Rattle.agreement.specs.Laws.{TakenAsSent, NoAbortOfItself, HoldsTurn, IsNotRestarting, OneHolder}
use Rattle.agreement.proofs.Carried.{WasSent, was-sent}
use Rattle.agreement.proofs.Flights.{Paced, paced-holder}
use Rattle.agreement.proofs.Normal.{Core, Normal}
use Rattle.agreement.proofs.Views.{direct, entries, core, Ask, View, Joined, free, swap_joined}
use Rattle.agreement.proofs.Views.View.{Plain, Asking, Answered, Joining, Leaving, Gone}
use Rattle.agreement.proofs.Runs.{at-role, reached}
use Rattle.agreement.proofs.DirectWorlds.{DirectRelation, Stage, direct-takes, direct-keeps}
use Rattle.agreement.proofs.DirectWorlds.Stage.{Fresh, Asked, Dropped, Refused, Lost, Dead, Deaf, Stands}
use Rattle.agreement.proofs.BareWorlds.{bare, BareRelation, bare-takes, bare-keeps}
use Rattle.agreement.proofs.Mail.{SamePair, taken-as_sent}

-- a taking in a world of direct mode
pub record Given (setup : ModelSetup) (role : Role) (x : State) (flight : List Sending) (m : Message) : Type 0 where
  pub may : MayTake setup role x m
  pub pair : SamePair x flight m

direct-given : (base : ModelSetup) (role : Role) (x y : State) (flight g : List Sending) (shared : Shared) (m : Message) (choice : Choice) → DirectRelation base role x y flight g shared → IsStep (direct base) role x flight (Takes m choice) → WasSent (direct base) m → Given (direct base) role x flight m
direct-given base role x y [] g shared m choice i h w = absurd h.comes
direct-given base role x y (s ∷ flight) g shared m choice i h w =
    let t = direct-takes base role x y s flight g shared m choice i h.comes h.is_alive h.is_kept h.is_choice in
    record { may = t.may w; pair = t.pair }

bare-given : (base : ModelSetup) (role : Role) (x y : State) (flight g : List Sending) (shared : Shared) (m : Message) (choice : Choice) → BareRelation base role x y flight g shared → IsStep (bare base) role x flight (Takes m choice) → Given (bare base) role x flight m
bare-given base role x y [] g shared m choice i h = absurd h.comes
bare-given base role x y (s ∷ flight) g shared m choice i h =
    let t = bare-takes base role x y s flight g shared m choice i h.comes h.is_alive in
    record { may = t.may; pair = t.pair }

pub direct-at : (base : ModelSetup) (world : World) (role : Role) (m : Message) (choice : Choice) → IsRun (direct base) (By role (Takes m choice) ∷ world) → Given (direct base) role (state_of (direct base) role world) (flight_to (direct base) role world) m
direct-at base world role m choice h =
    direct-given base role (state_of (direct base) role world) (state_of (direct base) (other role) world) (flight_to (direct base) role world) (flight_to (direct base) (other role) world) (shared_at (direct base) world) m choice
    (at-role (direct base) (DirectRelation base) (direct-keeps base) role world (reached (direct base) (DirectRelation base) (direct-keeps base) world h.1)) h.0 (was-sent (direct base) world role m h.1 h.0.comes)

pub bare-at : (base : ModelSetup) (world : World) (role : Role) (m : Message) (choice : Choice) → IsRun (bare base) (By role (Takes m choice) ∷ world) → Given (bare base) role (state_of (bare base) role world) (flight_to (bare base) role world) m
bare-at base world role m choice h =
    bare-given base role (state_of (bare base) role world) (state_of (bare base) (other role) world) (flight_to (bare base) role world) (flight_to (bare base) (other role) world) (shared_at (bare base) world) m choice
    (at-role (bare base) (BareRelation base) (bare-keeps base) role world (reached (bare base) (BareRelation base) (bare-keeps base) world h.1)) h.0

pub direct-no_abort : (base : ModelSetup) → NoAbortOfItself (direct base)
direct-no_abort base world role m choice h = (direct-at base world role m choice h).may

pub bare-no_abort : (base : ModelSetup) → NoAbortOfItself (bare base)
bare-no_abort base world role m choice h = (bare-at base world role m choice h).may

pub direct-as_sent : (base : ModelSetup) → TakenAsSent (direct base)
direct-as_sent base = taken-as_sent (direct base) (λ world role m choice h. (direct-at base world role m choice h).pair)

pub bare-as_sent : (base : ModelSetup) → TakenAsSent (bare base)
bare-as_sent base = taken-as_sent (bare base) (λ world role m choice h. (bare-at base world role m choice h).pair)

-- the holder in direct mode awaits no restart, so it is free
calm-holder : (most : ℕ) (role : Role) (x y : State) (f g : List Sending) (s : ContextSet) (v : List Saved) → Joined most role x y f g s v → HoldsTurn x → x.awaits ≡ NoAnswer
calm-holder most role x y f g s v j h = go j.view_me
  where
    go : View role x f g j.ask_me j.me j.to_me → x.awaits ≡ NoAnswer
    go (Plain p a k c w l) = a
    go (Asking m passed p a k c w l) = absurd (subst IsNotRestarting a h.2)
    go (Answered m before answer list p a k c w i r q l) = absurd (subst IsNotRestarting a h.2)
    go (Joining set answer r p a k c w i l) = a
    go (Leaving r p a l) = absurd (let e = h.1 in cc)
    go (Gone p) = absurd (let e = h.1 in cc)

both-hold : (most : ℕ) (x y : State) (f g : List Sending) (s : ContextSet) (v : List Saved) → Joined most Initiator x y f g s v → HoldsTurn x → HoldsTurn y → ⊥
both-hold most x y f g s v j h k =
    let one = free most Initiator x y f g s v j h.1 (calm-holder most Initiator x y f g s v j h) in
    go one.ask_peer one.peer one.before_me one.to_peer one.view_peer one.normal
  where
    calm : y.awaits ≡ NoAnswer
    calm = calm-holder most Responder y x g f s v (swap_joined most Initiator x y f g s v j) k

    at_plain : (peer : Core) (f0 g0 : List Sending) → peer ≡ core y → Normal most Initiator (core x) peer (entries f0) (entries g0) s v → ⊥
    at_plain peer f0 g0 e n =
        let turn : peer.turn ≡ true = ap (λ (c : Core). c.turn) e ∙ k.0 in
        let mine = paced-holder most x.saved (entries f0) (subst (λ t. Paced most t x.saved (entries f0)) h.0 n.paced_me) in
        let theirs = paced-holder most peer.saved (entries g0) (subst (λ t. Paced most t peer.saved (entries g0)) turn n.paced_peer) in
        n.one_turn (mine.turn x.turn ∙ h.0) (theirs.turn peer.turn ∙ turn)

    go : (a : Ask) (peer : Core) (f0 g0 : List Sending) → View Responder y g f a peer g0 → Normal most Initiator (core x) peer (entries f0) (entries g0) s v → ⊥
    go a peer f0 g0 (Plain p w q c e l) n = at_plain peer f0 g0 c n
    go a peer f0 g0 (Asking m passed p w q c e l) n = absurd (let z = calm in cc)
    go a peer f0 g0 (Answered m before answer list p w q c e i r z l) n = absurd (let u = calm in cc)
    go a peer f0 g0 (Joining set answer r p w q c e i l) n = absurd (let u = k.1 in cc)
    go a peer f0 g0 (Leaving r p w l) n = absurd (let u = k.1 in cc)
    go a peer f0 g0 (Gone p) n = absurd (let e = k.1 in cc)

direct-stage_holder : (base : ModelSetup) (a b : State) (f g : List Sending) (shared : Shared) → Stage base.most_marks a b f g shared → HoldsTurn a → HoldsTurn b → ⊥
direct-stage_holder base a b f g shared (Stands j) h k = both-hold base.most_marks a b f g shared.set shared.saved j h k
direct-stage_holder base a b f g shared (Fresh p q n d i w) h k = let e = h.1 in cc
direct-stage_holder base a b f g shared (Asked t p w q i n d u) h k = let e = h.1 in cc
direct-stage_holder base a b f g shared (Dropped t behind p q i n d u l) h k = let e = h.1 in cc
direct-stage_holder base a b f g shared (Refused t p w q n i) h k = let e = h.1 in cc
direct-stage_holder base a b f g shared (Lost p q n) h k = let e = h.1 in cc
direct-stage_holder base a b f g shared (Dead p q) h k = let e = h.1 in cc
direct-stage_holder base a b f g shared (Deaf p w q n) h k = let e = k.1 in cc

pub direct-holder : (base : ModelSetup) → OneHolder (direct base)
direct-holder base world h =
    direct-stage_holder base (state_of (direct base) Initiator world) (state_of (direct base) Responder world) (flight_to (direct base) Initiator world) (flight_to (direct base) Responder world) (shared_at (direct base) world)
    (reached (direct base) (DirectRelation base) (direct-keeps base) world h)

pub bare-holder : (base : ModelSetup) → OneHolder (bare base)
bare-holder base world h a b =
    let e = (reached (bare base) (BareRelation base) (bare-keeps base) world h).peer.turn in true≢false (sym b.0 ∙ e)
