-- Two ends of bare mode and their model: each step of the ends is one, or two, of the model.
use Rattle.std.proofs.Common.{◌≡◌, refl, true, false, ◌∙◌, sym, ap, subst, List, [], ◌∷◌, ◌++◌, ◌⊎◌}
use Rattle.std.proofs.Common.{inl}
use Rattle.std.specs.Prelude.{ℤ, Bool, not, Option, Ok}
use Rattle.stub_tables.specs.declared.tables.Tables.{Tables}
use Rattle.stub_tables.specs.declared.apdu.Apdu.{Apdu}
use Rattle.dialogue.specs.declared.config.Config.{Config}
use Rattle.dialogue.specs.declared.config.Mode.TheVariants.{Bare}
use Rattle.dialogue.specs.declared.config.Phase.TheVariants.{Up, Over}
use Rattle.dialogue.specs.declared.call.Call.{Call}
use Rattle.dialogue.specs.declared.call.Call.TheVariants as the_calls
use Rattle.end_rules.specs.Base.{Base, Spellings}
use Rattle.end_rules.specs.Messages.{Message}
use Rattle.end_rules.specs.State.{Body}
use Rattle.end_rules.specs.Calling.{can_call, is_of_bare_mode, is_phase_for}
use Rattle.end_rules.specs.Requesting.{after_call, after_sent, due_of}
use Rattle.agreement.specs.Sets.{Role, ContextSet, other, is_initiator}
use Rattle.agreement.specs.Sets.Role.{Initiator, Responder}
use Rattle.agreement.specs.Messages as model
use Rattle.agreement.specs.Messages.Act.{SaysValue, Queues, Drops, Connects, Recovers, Alters, Marks}
use Rattle.agreement.specs.Messages.Act.{GivesTurn, Pleads, Restarts, Starts, Encodes, Sends, EndsActivity}
use Rattle.agreement.specs.Messages.Act.{Interrupts, Discards, Resumes, Releases, Aborts, Withdraws}
use Rattle.agreement.specs.Messages.Act.{TransportFails as model_fails}
use Rattle.agreement.specs.Laws.{handed_by}
use Rattle.agreement.specs.Messages.Apdu.{Invoke}
use Rattle.agreement.specs.State as states
use Rattle.agreement.specs.State.Phase.{Up as model_up}
use Rattle.agreement.specs.Acts.{MayAct, acted, sent_by}
use Rattle.agreement.specs.Worlds.{Sending, Step, World, IsRun, if_same, after, state_of, sent_in}
use Rattle.agreement.specs.Worlds.{sendings, shared_at, taken_off, flight_to}
use Rattle.agreement.specs.Worlds.Step.{Acts}
use Rattle.agreement.specs.Worlds.Moment.{By}
use Rattle.agreement.proofs.Interface.{acts}
use Rattle.end_model.specs.Seen.{Free, role_seen, phase_seen, apdu_seen, seen}
use Rattle.end_model.specs.Rows.{at}
use Rattle.end_model.specs.OpenInvocations.{IsProper}
use Rattle.end_model.specs.Words.{IsOurs, AreOurs}
use Rattle.end_model.specs.Acting.{HandsIn, IsSoundBody, ReadsBack}
use Rattle.end_model.specs.Requests.{sent_all, after_called}
use Rattle.end_model.specs.BothEnds.{Common, base_at, Two, body_at, coming_to, stepped, setup_of}
use Rattle.end_model.specs.BothEnds.{AreComing, SideOf, ModelOf, bare_common, WritesAll}
use Rattle.end_model.proofs.Facts.{is-up, up-there}
use Rattle.end_model.proofs.Ladder.{called}
use Rattle.end_model.proofs.HandingRows.{invoke-in}
use Rattle.end_model.proofs.OutcomeRows.{answer-in, refuse-in}

-- ---- roles

pub role-back : (role : Role) → role_seen (is_initiator role) ≡ role
role-back Initiator = refl
role-back Responder = refl

pub same-if : {A : Type 0} (role : Role) (x y : A) → if_same role role x y ≡ x
same-if Initiator x y = refl
same-if Responder x y = refl

other-if : {A : Type 0} (role : Role) (x y : A) → if_same (other role) role x y ≡ y
other-if Initiator x y = refl
other-if Responder x y = refl

-- ---- flights

ours-for : (tables : Tables) (spellings : Spellings) (a b : Config) (role : Role) (message : Message) (meant : model.Message) → IsOurs (base_at role (bare_common tables spellings a b)) message meant → IsOurs (base_at Initiator (bare_common tables spellings a b)) message meant
ours-for tables spellings a b Initiator message meant h = h
ours-for tables spellings a b Responder message meant h =
    record { item = h.item; is_data = h.is_data; is_its = h.is_its; is_proper = h.is_proper; is_read_back = h.is_read_back }

pub ours-coming : (tables : Tables) (spellings : Spellings) (a b : Config) (role : Role) (shared : ContextSet) (messages : List Message) (meant : List model.Message) → AreOurs (base_at role (bare_common tables spellings a b)) messages meant → AreComing (base_at Initiator (bare_common tables spellings a b)) messages (sendings shared meant)
ours-coming tables spellings a b role shared [] [] h = tt
ours-coming tables spellings a b role shared [] (m ∷ ms) h = absurd h
ours-coming tables spellings a b role shared (message ∷ messages) [] h = absurd h
ours-coming tables spellings a b role shared (message ∷ messages) (m ∷ ms) h = (ours-for tables spellings a b role message m h.0, ours-coming tables spellings a b role shared messages ms h.1)

pub coming-append : (base : Base) (xs ys : List Message) (ss ts : List Sending) → AreComing base xs ss → AreComing base ys ts → AreComing base (xs ++ ys) (ss ++ ts)
coming-append base [] ys [] ts h k = k
coming-append base [] ys (s ∷ ss) ts h k = absurd h
coming-append base (x ∷ xs) ys [] ts h k = absurd h
coming-append base (x ∷ xs) ys (s ∷ ss) ts h k = (h.0, coming-append base xs ys ss ts h.1 k)

pub record NextOf (base : Base) (message : Message) (left : List Message) (flight : List Sending) : Type 0 where
  pub first : Sending
  pub rest : List Sending
  pub is_it : flight ≡ first ∷ rest
  pub ours : IsOurs base message first.message
  pub later : AreComing base left rest

pub next-of : (base : Base) (message : Message) (left : List Message) (flight : List Sending) → AreComing base (message ∷ left) flight → NextOf base message left flight
next-of base message left [] h = absurd h
next-of base message left (s ∷ ss) h = record { first = s; rest = ss; is_it = refl; ours = h.0; later = h.1 }

-- ---- one moment of the model

pub state-own : (setup : model.ModelSetup) (world : World) (role : Role) (step : Step) → state_of setup role (By role step ∷ world) ≡ after setup role (state_of setup role world) step
state-own setup world role step = same-if role (after setup role (state_of setup role world) step) (state_of setup role world)

pub state-other : (setup : model.ModelSetup) (world : World) (role : Role) (step : Step) → state_of setup (other role) (By role step ∷ world) ≡ state_of setup (other role) world
state-other setup world role step = other-if role (after setup (other role) (state_of setup (other role) world) step) (state_of setup (other role) world)

pub flight-own : (setup : model.ModelSetup) (world : World) (role : Role) (step : Step) → flight_to setup role (By role step ∷ world) ≡ taken_off step (flight_to setup role world)
flight-own setup world role step = same-if role (taken_off step (flight_to setup role world)) (flight_to setup role world ++ sendings (shared_at setup world).set (sent_in setup (state_of setup role world) step))

pub flight-other : (setup : model.ModelSetup) (world : World) (role : Role) (step : Step) → flight_to setup (other role) (By role step ∷ world) ≡ flight_to setup (other role) world ++ sendings (shared_at setup world).set (sent_in setup (state_of setup role world) step)
flight-other setup world role step = other-if role (taken_off step (flight_to setup (other role) world)) (flight_to setup (other role) world ++ sendings (shared_at setup world).set (sent_in setup (state_of setup role world) step))

-- ---- both sides

pub record Sides (free : Free) (common : Common) (world : World) (role : Role) (body : Body) (coming : List Message) (peer : Body) (to_peer : List Message) : Type 0 where
  pub run : IsRun (setup_of free common) world
  pub own : SideOf free common world role body coming
  pub others : SideOf free common world (other role) peer to_peer

-- the sides of both ends, seen from a role, and put back
pub record AsSides (free : Free) (common : Common) (role : Role) (two : Two) : Type 0 where
  pub world : World
  pub sides : Sides free common world role (body_at role two) (coming_to role two) (body_at (other role) two) (coming_to (other role) two)

pub as-sides : (free : Free) (common : Common) (role : Role) (two : Two) → ModelOf free common two → AsSides free common role two
as-sides free common Initiator two m = record { world = m.world; sides = record { run = m.run; own = m.a; others = m.b } }
as-sides free common Responder two m = record { world = m.world; sides = record { run = m.run; own = m.b; others = m.a } }

pub from-sides : (free : Free) (common : Common) (role : Role) (two : Two) (world : World) (body : Body) (left sent : List Message) → Sides free common world role body left (body_at (other role) two) (coming_to (other role) two ++ sent) → ModelOf free common (stepped role body left sent two)
from-sides free common Initiator two world body left sent s = record { world = world; run = s.run; a = s.own; b = s.others }
from-sides free common Responder two world body left sent s = record { world = world; run = s.run; a = s.others; b = s.own }

-- ---- an act of one end

pub acting : (free : Free) (tables : Tables) (spellings : Spellings) (a b : Config) (world : World) (role : Role) (body later : Body) (coming : List Message) (peer : Body) (to_peer sent : List Message) (act : model.Act) → Sides free (bare_common tables spellings a b) world role body coming peer to_peer → MayAct (setup_of free (bare_common tables spellings a b)) role (seen (base_at role (bare_common tables spellings a b)) body) act → seen (base_at role (bare_common tables spellings a b)) later ≡ acted (setup_of free (bare_common tables spellings a b)) (seen (base_at role (bare_common tables spellings a b)) body) act → AreOurs (base_at role (bare_common tables spellings a b)) sent (sent_by (setup_of free (bare_common tables spellings a b)) (seen (base_at role (bare_common tables spellings a b)) body) act) → IsSoundBody Bare (base_at role (bare_common tables spellings a b)) later → (later.link.phase ≡ Up) ⊎ (later.link.phase ≡ Over) → Sides free (bare_common tables spellings a b) (By role (Acts act) ∷ world) role later coming peer (to_peer ++ sent)
acting free tables spellings a b world role body later coming peer to_peer sent act s may is ours sound phase =
    let common : Common = bare_common tables spellings a b in
    let setup : model.ModelSetup = setup_of free common in
    let base : Base = base_at role common in
    let now : state_of setup role world ≡ seen base body = s.own.state in
    let sent_now : AreOurs base sent (sent_by setup (state_of setup role world) act) = subst (λ x. AreOurs base sent (sent_by setup x act)) (sym now) ours in
    record {
      run = acts setup world role act s.run (subst (λ x. MayAct setup role x act) (sym now) may);
      own =
          record {
            state = state-own setup world role (Acts act) ∙ ap (λ x. acted setup x act) now ∙ sym is;
            sound = sound;
            phase = phase;
            flight = subst (AreComing (base_at Initiator common) coming) (sym (flight-own setup world role (Acts act))) s.own.flight;
          };
      others =
          record {
            state = state-other setup world role (Acts act) ∙ s.others.state;
            sound = s.others.sound;
            phase = s.others.phase;
            flight = subst (AreComing (base_at Initiator common) (to_peer ++ sent)) (sym (flight-other setup world role (Acts act)))
                (coming-append (base_at Initiator common) to_peer sent (flight_to setup (other role) world) (sendings (shared_at setup world).set (sent_by setup (state_of setup role world) act)) s.others.flight
                (ours-coming tables spellings a b role (shared_at setup world).set sent (sent_by setup (state_of setup role world) act) sent_now));
          };
    }

-- ---- an accepted call

no-call : (b : Bool) → not b ≡ false → b ≡ true
no-call true h = refl
no-call false h = cc

handed : (free : Free) (base : Base) (body : Body) (call : Call) (answer : Option ℤ) → WritesAll free → ReadsBack (at Bare base) → IsSoundBody Bare base body → is_of_bare_mode call ≡ true → can_call (at Bare base) body call ≡ Ok answer → HandsIn free Bare base [] body call answer
handed free base body (the_calls.Invoke context operation argument linked) answer writes back sound k h = invoke-in Bare context operation argument linked free base [] body answer writes back sound h
handed free base body (the_calls.Answer id result) answer writes back sound k h = answer-in Bare id result free base [] body answer writes back sound h
handed free base body (the_calls.Refuse id error parameter) answer writes back sound k h = refuse-in Bare id error parameter free base [] body answer writes back sound h
handed free base body the_calls.Open answer writes back sound k h = cc
handed free base body (the_calls.Alter add delete) answer writes back sound k h = cc
handed free base body the_calls.Mark answer writes back sound k h = cc
handed free base body the_calls.Give answer writes back sound k h = cc
handed free base body (the_calls.Please priority) answer writes back sound k h = cc
handed free base body (the_calls.Resync n) answer writes back sound k h = cc
handed free base body the_calls.Interrupt answer writes back sound k h = cc
handed free base body the_calls.Resume answer writes back sound k h = cc
handed free base body the_calls.Discard answer writes back sound k h = cc
handed free base body the_calls.Recover answer writes back sound k h = cc
handed free base body the_calls.Release answer writes back sound k h = cc
handed free base body the_calls.Abort answer writes back sound k h = cc

-- spellings read back at one end do so at the other
reads-at : (tables : Tables) (spellings : Spellings) (a b : Config) (role : Role) → ReadsBack (base_at Initiator (bare_common tables spellings a b)) → ReadsBack (base_at role (bare_common tables spellings a b))
reads-at tables spellings a b Initiator h = h
reads-at tables spellings a b Responder h = record { reads = λ apdu proper short. h.reads apdu (proper-for apdu proper) short }
  where
    proper-for : (apdu : Apdu) → IsProper (base_at Responder (bare_common tables spellings a b)) apdu → IsProper (base_at Initiator (bare_common tables spellings a b)) apdu
    proper-for apdu h = h

-- these calls are made by an end that is up
phase-of : (call : Call) (body : Body) → is_phase_for call body.link.phase ≡ true → is_of_bare_mode call ≡ true → body.link.phase ≡ Up
phase-of (the_calls.Invoke context operation argument linked) body h k = is-up body.link.phase h
phase-of (the_calls.Answer id result) body h k = is-up body.link.phase h
phase-of (the_calls.Refuse id error parameter) body h k = is-up body.link.phase h
phase-of the_calls.Open body h k = cc
phase-of (the_calls.Alter add delete) body h k = cc
phase-of the_calls.Mark body h k = cc
phase-of the_calls.Give body h k = cc
phase-of (the_calls.Please priority) body h k = cc
phase-of (the_calls.Resync n) body h k = cc
phase-of the_calls.Interrupt body h k = cc
phase-of the_calls.Resume body h k = cc
phase-of the_calls.Discard body h k = cc
phase-of the_calls.Recover body h k = cc
phase-of the_calls.Release body h k = cc
phase-of the_calls.Abort body h k = cc

-- what is handed in leaves the phase
same-phase : (setup : model.ModelSetup) (state : states.State) (act : model.Act) (apdu : model.Apdu) → handed_by (Acts act) ≡ apdu ∷ [] → (acted setup state act).phase ≡ state.phase
same-phase setup state (SaysValue value) apdu h = refl
same-phase setup state (Queues context item) apdu h = refl
same-phase setup state Connects apdu h = cc
same-phase setup state Recovers apdu h = cc
same-phase setup state Drops apdu h = refl
same-phase setup state (Alters items) apdu h = refl
same-phase setup state Marks apdu h = cc
same-phase setup state GivesTurn apdu h = cc
same-phase setup state (Pleads priority) apdu h = refl
same-phase setup state (Restarts number) apdu h = refl
same-phase setup state Starts apdu h = refl
same-phase setup state (Encodes context) apdu h = refl
same-phase setup state (Sends octets) apdu h = refl
same-phase setup state EndsActivity apdu h = refl
same-phase setup state Interrupts apdu h = refl
same-phase setup state Discards apdu h = refl
same-phase setup state Resumes apdu h = refl
same-phase setup state Releases apdu h = cc
same-phase setup state Aborts apdu h = cc
same-phase setup state Withdraws apdu h = cc
same-phase setup state model_fails apdu h = cc

-- data that are sent change no body
bare-sent : (base : Base) (sent : List Message) (meant : List model.Message) → AreOurs base sent meant → (body : Body) → sent_all Bare body sent ≡ body
bare-sent base [] [] h body = refl
bare-sent base [] (m ∷ ms) h body = absurd h
bare-sent base (message ∷ sent) [] h body = absurd h
bare-sent base (message ∷ sent) (m ∷ ms) h body = ap (λ x. sent_all Bare (after_sent Bare body x) sent) h.0.is_data ∙ bare-sent base sent ms h.1 body

pub called-so : (free : Free) (tables : Tables) (spellings : Spellings) (a b : Config) (role : Role) (two : Two) (call : Call) (answer : Option ℤ) → WritesAll free → ReadsBack (base_at Initiator (bare_common tables spellings a b)) → ModelOf free (bare_common tables spellings a b) two → can_call (base_at role (bare_common tables spellings a b)) (body_at role two) call ≡ Ok answer → ModelOf free (bare_common tables spellings a b) (stepped role (after_called Bare (base_at role (bare_common tables spellings a b)) (body_at role two) call answer) (coming_to role two) (due_of (base_at role (bare_common tables spellings a b)) (body_at role two) call (Ok answer)) two)
called-so free tables spellings a b role two call answer writes back m h =
    let common : Common = bare_common tables spellings a b in
    let base : Base = base_at role common in
    let body : Body = body_at role two in
    let s = as-sides free common role two m in
    let c = called base body call answer h in
    let x = handed free base body call answer writes (reads-at tables spellings a b role back) s.sides.own.sound (no-call (is_of_bare_mode call) c.in_mode) h in
    let up : body.link.phase ≡ Up = phase-of call body c.in_phase (no-call (is_of_bare_mode call) c.in_mode) in
    let later : Body = after_call base body call (Ok answer) in
    let due : List Message = due_of base body call (Ok answer) in
    let setup : model.ModelSetup = setup_of free common in
    let phase : (seen base later).phase ≡ model_up = ap (λ (x : states.State). x.phase) x.acts.acts.after ∙ same-phase setup (seen base body) x.act (apdu_seen base x.apdu) x.hands ∙ ap (phase_seen body.link.stage) up in
    subst (λ (y : Body). ModelOf free common (stepped role y (coming_to role two) due two)) (sym (bare-sent base due (sent_by setup (seen base body) x.act) x.acts.ours later))
    (from-sides free common role two (By role (Acts x.act) ∷ s.world) later (coming_to role two) due
    (acting free tables spellings a b s.world role body later (coming_to role two) (body_at (other role) two) (coming_to (other role) two) due x.act s.sides
    (subst (λ r. MayAct setup r (seen base body) x.act) (role-back role) x.acts.acts.may) x.acts.acts.after x.acts.ours x.acts.sound (inl (up-there later.link.stage later.link.phase phase))))
