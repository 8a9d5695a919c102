-- From what each taking gives to what is taken of a connection.
use Rattle.std.proofs.Common.{◌≡◌, List, [], ◌∷◌, ◌++◌, refl, sym, ap, ◌∙◌, subst}
use Rattle.std.specs.Prelude.{Option, Some, None}
use Rattle.agreement.specs.Sets.{Role}
use Rattle.agreement.specs.Sets.Role.{Initiator, Responder}
use Rattle.agreement.specs.Messages.{Mode, ModelSetup, Message, Choice}
use Rattle.agreement.specs.Messages.Mode.{Bare, Direct, Reliable}
use Rattle.agreement.specs.State.{State}
use Rattle.agreement.specs.Worlds.{Step, World, state_of, Sending, flight_to, taken_off, sent_by_step, pair_under, IsStep, IsRun}
use Rattle.agreement.specs.Worlds.Step.{Acts, Takes, Passes}
use Rattle.agreement.specs.Worlds.Moment.{By, Break}
use Rattle.agreement.specs.Laws.{Mail, mails, mail_to, readings, read_in, AreAsSent, TakenAsSent}

-- the pair of what comes next, under the taker's set and under the shared set at its sending
abbrev pub SamePair : State → List Sending → Message → Type 0
SamePair state [] message = ⊥
SamePair state (s ∷ flight) message = pair_under state.sets.held message ≡ pair_under s.shared message

-- every taking in this setup is of the pair of the sending
abbrev pub TakesItsPair : ModelSetup → Type 0
TakesItsPair setup = (world : World) (role : Role) (message : Message) (choice : Choice) → IsRun setup (By role (Takes message choice) ∷ world) → SamePair (state_of setup role world) (flight_to setup role world) message

-- what was read, and what is still to come, is what was sent
Follows : List (Option Mail) → List Mail → List Mail → Type 0
Follows [] all flight = all ≡ flight
Follows (reading ∷ readings) [] flight = ⊥
Follows (None ∷ readings) (first ∷ all) flight = Follows readings all flight
Follows (Some reading ∷ readings) (first ∷ all) flight = (reading ≡ first) × Follows readings all flight

follows-sent : (rs : List (Option Mail)) (all flight new : List Mail) → Follows rs all flight → Follows rs (all ++ new) (flight ++ new)
unfolding Follows
follows-sent [] all flight new h = ap (λ xs. xs ++ new) h
follows-sent (r ∷ rs) [] flight new h = absurd h
follows-sent (None ∷ rs) (x ∷ all) flight new h = follows-sent rs all flight new h
follows-sent (Some r ∷ rs) (x ∷ all) flight new h = (h.0, follows-sent rs all flight new h.1)

follows-took : (rs : List (Option Mail)) (all flight : List Mail) (x y : Mail) → Follows rs all (x ∷ flight) → y ≡ x → Follows (rs ++ (Some y ∷ [])) all flight
unfolding Follows
follows-took [] [] flight x y h e = absurd (cc)
follows-took [] (z ∷ all) flight x y h e = let first : y ≡ z = cc in let rest : all ≡ flight = cc in (first, rest)
follows-took (r ∷ rs) [] flight x y h e = absurd h
follows-took (None ∷ rs) (z ∷ all) flight x y h e = follows-took rs all flight x y h e
follows-took (Some r ∷ rs) (z ∷ all) flight x y h e = (h.0, follows-took rs all flight x y h.1 e)

follows-passed : (rs : List (Option Mail)) (all flight : List Mail) (x : Mail) → Follows rs all (x ∷ flight) → Follows (rs ++ (None ∷ [])) all flight
unfolding Follows
follows-passed [] [] flight x h = absurd (cc)
follows-passed [] (z ∷ all) flight x h = let rest : all ≡ flight = cc in rest
follows-passed (r ∷ rs) [] flight x h = absurd h
follows-passed (None ∷ rs) (z ∷ all) flight x h = follows-passed rs all flight x h
follows-passed (Some r ∷ rs) (z ∷ all) flight x h = (h.0, follows-passed rs all flight x h.1)

mails-append : (f g : List Sending) → mails (f ++ g) ≡ mails f ++ mails g
mails-append [] g = refl
mails-append (s ∷ f) g = ap (λ (xs : List Mail). record { message = s.message; pair = pair_under s.shared s.message } ∷ xs) (mails-append f g)

as-sent : (rs : List (Option Mail)) (all flight : List Mail) → Follows rs all flight → AreAsSent rs all
unfolding Follows
as-sent [] all flight h = tt
as-sent (r ∷ rs) [] flight h = absurd h
as-sent (None ∷ rs) (x ∷ all) flight h = as-sent rs all flight h
as-sent (Some r ∷ rs) (x ∷ all) flight h = (h.0, as-sent rs all flight h.1)

nil-append_of : (xs : List (Option Mail)) → xs ++ [] ≡ xs
nil-append_of [] = refl
nil-append_of (x ∷ xs) = ap (λ ys. x ∷ ys) (nil-append_of xs)

Tracks : ModelSetup → Role → World → Type 0
Tracks setup role world = Follows (readings setup role world) (mail_to setup role world) (mails (flight_to setup role world))

-- a step of the end itself, and one of its peer
own-step : (setup : ModelSetup) (role : Role) (step : Step) (x : State) (rs : List (Option Mail)) (all : List Mail) (flight : List Sending) → IsStep setup role x flight step → (IsTaking : (m : Message) (c : Choice) → step ≡ Takes m c → SamePair x flight m) → Follows rs all (mails flight) → Follows (rs ++ read_in x step) all (mails (taken_off step flight))
unfolding Follows
own-step setup role (Acts act) x rs all flight h t f = subst (λ qs. Follows qs all (mails flight)) (sym (nil-append_of rs)) f
own-step setup role (Takes m c) x rs all [] h t f = absurd h.comes
own-step setup role (Takes m c) x rs all (s ∷ flight) h t f =
    follows-took rs all (mails flight) (record { message = s.message; pair = pair_under s.shared s.message }) (record { message = m; pair = pair_under x.sets.held m }) f
    (λ i. record { message = sym h.comes i; pair = (t m c refl ∙ ap (pair_under s.shared) (sym h.comes)) i })
own-step setup role (Passes m) x rs all [] h t f = absurd h.comes
own-step setup role (Passes m) x rs all (s ∷ flight) h t f =
    follows-passed rs all (mails flight) (record { message = s.message; pair = pair_under s.shared s.message }) f

peer-step : (rs : List (Option Mail)) (all : List Mail) (flight new : List Sending) → Follows rs all (mails flight) → Follows rs (all ++ mails new) (mails (flight ++ new))
peer-step rs all flight new f = subst (λ xs. Follows rs (all ++ mails new) xs) (sym (mails-append flight new)) (follows-sent rs all (mails flight) (mails new) f)

tracks : (setup : ModelSetup) → TakesItsPair setup → (world : World) → IsRun setup world → (role : Role) → Tracks setup role world
unfolding Tracks Follows
tracks setup t [] h role = refl
tracks setup t (Break ∷ world) h role = refl
tracks setup t (By Initiator step ∷ world) h Initiator =
    own-step setup Initiator step (state_of setup Initiator world) (readings setup Initiator world) (mail_to setup Initiator world) (flight_to setup Initiator world) h.0
    (λ m c e. t world Initiator m c (subst (λ s. IsRun setup (By Initiator s ∷ world)) e h)) (tracks setup t world h.1 Initiator)
tracks setup t (By Responder step ∷ world) h Responder =
    own-step setup Responder step (state_of setup Responder world) (readings setup Responder world) (mail_to setup Responder world) (flight_to setup Responder world) h.0
    (λ m c e. t world Responder m c (subst (λ s. IsRun setup (By Responder s ∷ world)) e h)) (tracks setup t world h.1 Responder)
tracks setup t (By Initiator step ∷ world) h Responder =
    peer-step (readings setup Responder world) (mail_to setup Responder world) (flight_to setup Responder world) (sent_by_step setup Initiator world step) (tracks setup t world h.1 Responder)
tracks setup t (By Responder step ∷ world) h Initiator =
    peer-step (readings setup Initiator world) (mail_to setup Initiator world) (flight_to setup Initiator world) (sent_by_step setup Responder world step) (tracks setup t world h.1 Initiator)

pub taken-as_sent : (setup : ModelSetup) → TakesItsPair setup → TakenAsSent setup
unfolding Tracks
taken-as_sent setup t world h role = as-sent (readings setup role world) (mail_to setup role world) (mails (flight_to setup role world)) (tracks setup t world h role)

-- what holds in each mode holds
pub by-mode : (P : ModelSetup → Type 0) → ((setup : ModelSetup) → P (record setup { mode = Bare })) → ((setup : ModelSetup) → P (record setup { mode = Direct })) → ((setup : ModelSetup) → P (record setup { mode = Reliable })) → (setup : ModelSetup) → P setup
by-mode P b d r setup = go setup.mode refl
  where
    go : (m : Mode) → setup.mode ≡ m → P setup
    go Bare e = subst P (λ i. record setup { mode = sym e i }) (b setup)
    go Direct e = subst P (λ i. record setup { mode = sym e i }) (d setup)
    go Reliable e = subst P (λ i. record setup { mode = sym e i }) (r setup)
