-- The induction over runs: what each step of each kind keeps holds of every world that is reached.
use Rattle.std.proofs.Common.{◌≡◌, true, false, List, [], ◌∷◌, ◌++◌, refl, sym, ap, subst, ◌⊎◌}
use Rattle.agreement.specs.Sets.{Role, other}
use Rattle.agreement.specs.Sets.Role.{Initiator, Responder}
use Rattle.agreement.specs.Messages.{ModelSetup, Message, Act, Choice}
use Rattle.agreement.specs.State.{State, new_end}
use Rattle.agreement.specs.State.Phase.{Over}
use Rattle.agreement.specs.Acts.{MayAct, acted, sent_by}
use Rattle.agreement.specs.Takings.{is_purged, IsChoice, answer_to, taken, broken}
use Rattle.agreement.specs.Worlds.{World, state_of, Shared, shared_at, shared_all, shared_answered, Sending, sendings, flight_to, without_first, IsStep, IsRun}
use Rattle.agreement.specs.Worlds.Step.{Acts, Takes, Passes}
use Rattle.agreement.specs.Worlds.Moment.{By, Break}

-- of two ends, one of this role and its peer, with what comes to each, and the shared set
abbrev pub Relation : Type 1
Relation = Role → State → State → List Sending → List Sending → Shared → Type 0

-- a relation that holds at first and that each kind of step keeps: an act, a taking, a passing over,
-- a break
pub record Keeps (setup : ModelSetup) (I : Relation) : Type 0 where
  pub starts : I Initiator (new_end setup Initiator) (new_end setup Responder) [] [] (shared_at setup [])
  pub swaps : (role : Role) (x y : State) (f g : List Sending) (shared : Shared) → I role x y f g shared → I (other role) y x g f shared
  pub acts : (role : Role) (x y : State) (f g : List Sending) (shared : Shared) (act : Act) → I role x y f g shared → MayAct setup role x act → I role (acted setup x act) y f (g ++ sendings shared.set (sent_by setup x act)) (shared_all setup.mode role (sent_by setup x act) shared)
  pub takes : (role : Role) (x y : State) (s : Sending) (f g : List Sending) (shared : Shared) (m : Message) (choice : Choice) → I role x y (s ∷ f) g shared → s.message ≡ m → (x.phase ≡ Over → ⊥) → is_purged role x.awaits m ≡ false → IsChoice setup x m choice → I role (taken setup role x m choice) y f (g ++ sendings shared.set (answer_to setup x m choice)) (shared_answered m choice shared)
  pub passes : (role : Role) (x y : State) (s : Sending) (f g : List Sending) (shared : Shared) (m : Message) → I role x y (s ∷ f) g shared → s.message ≡ m → (x.phase ≡ Over) ⊎ (is_purged role x.awaits m ≡ true) → I role x y f g shared
  pub breaks : (role : Role) (x y : State) (f g : List Sending) (shared : Shared) → I role x y f g shared → I role (broken setup x) (broken setup y) [] [] shared

nil-append_of : (f : List Sending) → f ++ [] ≡ f
nil-append_of [] = refl
nil-append_of (s ∷ f) = ap (λ xs. s ∷ xs) (nil-append_of f)

-- what a relation says of a world
abbrev pub At : ModelSetup → Relation → World → Type 0
At setup I world = I Initiator (state_of setup Initiator world) (state_of setup Responder world) (flight_to setup Initiator world) (flight_to setup Responder world) (shared_at setup world)

abbrev pub At_of : ModelSetup → Relation → Role → World → Type 0
At_of setup I role world = I role (state_of setup role world) (state_of setup (other role) world) (flight_to setup role world) (flight_to setup (other role) world) (shared_at setup world)

pub at-role : (setup : ModelSetup) (I : Relation) → Keeps setup I → (role : Role) (world : World) → At setup I world → At_of setup I role world
at-role setup I k Initiator world h = h
at-role setup I k Responder world h = k.swaps Initiator (state_of setup Initiator world) (state_of setup Responder world) (flight_to setup Initiator world) (flight_to setup Responder world) (shared_at setup world) h

takes_next : (setup : ModelSetup) (I : Relation) → Keeps setup I → (role : Role) (x y : State) (f g : List Sending) (shared : Shared) (m : Message) (choice : Choice) → I role x y f g shared → IsStep setup role x f (Takes m choice) → I role (taken setup role x m choice) y (without_first f) (g ++ sendings shared.set (answer_to setup x m choice)) (shared_answered m choice shared)
takes_next setup I k role x y [] g shared m choice i h = absurd h.comes
takes_next setup I k role x y (s ∷ f) g shared m choice i h = k.takes role x y s f g shared m choice i h.comes h.is_alive h.is_kept h.is_choice

passes_next : (setup : ModelSetup) (I : Relation) → Keeps setup I → (role : Role) (x y : State) (f g : List Sending) (shared : Shared) (m : Message) → I role x y f g shared → IsStep setup role x f (Passes m) → I role x y (without_first f) (g ++ []) shared
passes_next setup I k role x y [] g shared m i h = absurd h.comes
passes_next setup I k role x y (s ∷ f) g shared m i h = subst (λ xs. I role x y f xs shared) (sym (nil-append_of g)) (k.passes role x y s f g shared m i h.comes h.is_passed)

back-again : (setup : ModelSetup) (I : Relation) → Keeps setup I → (x y : State) (f g : List Sending) (shared : Shared) → I Responder y x g f shared → I Initiator x y f g shared
back-again setup I k x y f g shared i = k.swaps Responder y x g f shared i

pub reached : (setup : ModelSetup) (I : Relation) → Keeps setup I → (world : World) → IsRun setup world → At setup I world
reached setup I k [] h = k.starts
reached setup I k (Break ∷ world) h =
    k.breaks Initiator (state_of setup Initiator world) (state_of setup Responder world) (flight_to setup Initiator world) (flight_to setup Responder world) (shared_at setup world) (reached setup I k world h.1)
reached setup I k (By Initiator (Acts act) ∷ world) h =
    k.acts Initiator (state_of setup Initiator world) (state_of setup Responder world) (flight_to setup Initiator world) (flight_to setup Responder world) (shared_at setup world) act (reached setup I k world h.1) h.0
reached setup I k (By Initiator (Takes m choice) ∷ world) h =
    takes_next setup I k Initiator (state_of setup Initiator world) (state_of setup Responder world) (flight_to setup Initiator world) (flight_to setup Responder world) (shared_at setup world) m choice (reached setup I k world h.1) h.0
reached setup I k (By Initiator (Passes m) ∷ world) h =
    passes_next setup I k Initiator (state_of setup Initiator world) (state_of setup Responder world) (flight_to setup Initiator world) (flight_to setup Responder world) (shared_at setup world) m (reached setup I k world h.1) h.0
reached setup I k (By Responder (Acts act) ∷ world) h =
    back-again setup I k _ _ _ _ _
    (k.acts Responder (state_of setup Responder world) (state_of setup Initiator world) (flight_to setup Responder world) (flight_to setup Initiator world) (shared_at setup world) act (at-role setup I k Responder world (reached setup I k world h.1)) h.0)
reached setup I k (By Responder (Takes m choice) ∷ world) h =
    back-again setup I k _ _ _ _ _
    (takes_next setup I k Responder (state_of setup Responder world) (state_of setup Initiator world) (flight_to setup Responder world) (flight_to setup Initiator world) (shared_at setup world) m choice (at-role setup I k Responder world (reached setup I k world h.1)) h.0)
reached setup I k (By Responder (Passes m) ∷ world) h =
    back-again setup I k _ _ _ _ _
    (passes_next setup I k Responder (state_of setup Responder world) (state_of setup Initiator world) (flight_to setup Responder world) (flight_to setup Initiator world) (shared_at setup world) m (at-role setup I k Responder world (reached setup I k world h.1)) h.0)
