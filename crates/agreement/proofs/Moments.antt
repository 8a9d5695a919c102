-- For the level of octets: what a step of an abstract role leaves at both ends and on the way.
use Rattle.std.proofs.Common.{◌≡◌, ℕ, List, [], ◌∷◌, ◌++◌, refl, ap, ◌∙◌}
use Rattle.agreement.specs.Sets.{Role, other}
use Rattle.agreement.specs.Sets.Role.{Initiator, Responder}
use Rattle.agreement.specs.Messages.{ModelSetup, Message}
use Rattle.agreement.specs.Messages.Act.{Starts, Encodes, Resumes}
use Rattle.agreement.specs.Acts.{confirmed_of}
use Rattle.agreement.specs.Worlds.{Step, World, Shared, state_of, after, sendings, shared_at, shared_resumed, shared_after, flight_to, taken_off, sent_in, sent_by_step}
use Rattle.agreement.specs.Worlds.Step.{Acts}
use Rattle.agreement.specs.Worlds.Moment.{By, Break}
use Rattle.agreement.proofs.Views.{nil-append}

-- the state of the end that made the step, and of the other
pub own-state : (setup : ModelSetup) (role : Role) (world : World) (step : Step) → state_of setup role (By role step ∷ world) ≡ after setup role (state_of setup role world) step
own-state setup Initiator world step = refl
own-state setup Responder world step = refl

pub others-state : (setup : ModelSetup) (role : Role) (world : World) (step : Step) → state_of setup (other role) (By role step ∷ world) ≡ state_of setup (other role) world
others-state setup Initiator world step = refl
others-state setup Responder world step = refl

-- what is on its way to it, and to the other
pub own-flight : (setup : ModelSetup) (role : Role) (world : World) (step : Step) → flight_to setup role (By role step ∷ world) ≡ taken_off step (flight_to setup role world)
own-flight setup Initiator world step = refl
own-flight setup Responder world step = refl

pub others-flight : (setup : ModelSetup) (role : Role) (world : World) (step : Step) → flight_to setup (other role) (By role step ∷ world) ≡ flight_to setup (other role) world ++ sent_by_step setup role world step
others-flight setup Initiator world step = refl
others-flight setup Responder world step = refl

-- a step that sends nothing leaves what is on its way to the other
pub nothing-sent : (setup : ModelSetup) (role : Role) (world : World) (step : Step) → sent_in setup (state_of setup role world) step ≡ [] → flight_to setup (other role) (By role step ∷ world) ≡ flight_to setup (other role) world
nothing-sent setup role world step e =
    others-flight setup role world step ∙ ap (λ (ms : List Message). flight_to setup (other role) world ++ sendings (shared_at setup world).set ms) e ∙ nil-append (flight_to setup (other role) world)

-- the shared set: after a step, and after a break
pub shared-step : (setup : ModelSetup) (role : Role) (world : World) (step : Step) → shared_at setup (By role step ∷ world) ≡ shared_after setup role (state_of setup role world) step (shared_at setup world)
shared-step setup role world step = refl

pub shared-break : (setup : ModelSetup) (world : World) → shared_at setup (Break ∷ world) ≡ shared_at setup world
shared-break setup world = refl

-- it stays from a start, or from a resumption from nothing, to the encoding
pub start-keeps : (setup : ModelSetup) (role : Role) (world : World) → (shared_at setup (By role (Acts Starts) ∷ world)).set ≡ (shared_at setup world).set
start-keeps setup Initiator world = refl
start-keeps setup Responder world = refl

pub resume-keeps : (setup : ModelSetup) (role : Role) (world : World) → confirmed_of (state_of setup role world).outgoing.transfer ≡ 0 → (shared_at setup (By role (Acts Resumes) ∷ world)).set ≡ (shared_at setup world).set
resume-keeps setup role world e = ap (λ n. (shared_resumed role n (shared_at setup world)).set) e ∙ from-nothing role (shared_at setup world)
  where
    from-nothing : (role : Role) (shared : Shared) → (shared_resumed role 0 shared).set ≡ shared.set
    from-nothing Initiator shared = refl
    from-nothing Responder shared = refl

pub encoding-keeps : (setup : ModelSetup) (role : Role) (world : World) (context : ℕ) → shared_at setup (By role (Acts (Encodes context)) ∷ world) ≡ shared_at setup world
encoding-keeps setup role world context = refl
