-- Each step of two ends keeps a run of the model.
use Rattle.std.proofs.Common.{◌≡◌, refl, true, false, ◌∙◌, sym, ap, subst, List, [], ◌∷◌, ◌++◌, ◌⊎◌}
use Rattle.std.proofs.Common.{inl, inr}
use Rattle.osi_base.specs.declared.layer_words.Proposal.{Proposal}
use Rattle.dialogue.specs.declared.config.Mode.{Mode}
use Rattle.dialogue.specs.declared.config.Mode.TheVariants.{Bare, Direct, Reliable}
use Rattle.end_rules.specs.Base.{Base}
use Rattle.end_rules.specs.State.{Body}
use Rattle.end_rules.specs.Messages.{Message, Word, DataValue, AssociationWord, DataWord, Transport}
use Rattle.end_rules.specs.Messages.{Session, OfAssociation, OfData, OfMarks, OfActivities, Connect}
use Rattle.end_rules.specs.Messages.{Accept, Refuse, Finish, Disconnect, Abort, AbortAccept, Values}
use Rattle.end_rules.specs.Messages.{AlterContext, AlterContextAck}
use Rattle.end_rules.specs.Reacting.{answers_to_word}
use Rattle.end_rules.specs.History.{after_broke}
use Rattle.agreement.specs.Sets.{Role, ContextSet, other, is_initiator}
use Rattle.agreement.specs.Sets.Role.{Initiator, Responder}
use Rattle.agreement.specs.Messages as model
use Rattle.agreement.specs.State as states
use Rattle.agreement.specs.State.Phase.{Over}
use Rattle.agreement.specs.Acts.{MayAct, acted, sent_by}
use Rattle.agreement.specs.Takings.{MayTake, IsChoice, taken, answer_to, is_purged, broken}
use Rattle.agreement.specs.Worlds.{Sending, World, ComesNext, state_of, sendings, shared_at}
use Rattle.agreement.specs.Worlds.{without_first, flight_to}
use Rattle.agreement.specs.Worlds.Step.{Acts, Takes, Passes}
use Rattle.agreement.specs.Worlds.Moment.{Break}
use Rattle.agreement.proofs.Interface.{acts, takes, passes}
use Rattle.end_model.specs.Seen.{Free, role_seen, seen}
use Rattle.end_model.specs.Words.{IsData, ValuesMean, DataMeans, AssociationMeans, Means, AreMeant}
use Rattle.end_model.specs.BothEnds.{Common, base_at, setup_of}
use Rattle.end_model.specs.Steps.{AreOnWay, EndOf, ActsKept, TakesKept, PassesKept, BreaksSo}
use Rattle.end_model.specs.Steps.{BreaksKept, UnseenKept, UnitsKept}
use Rattle.end_model.proofs.Breaking.{broken-seen}
use Rattle.end_model.proofs.BareMachine.{role-back, state-own, state-other, flight-own}
use Rattle.end_model.proofs.BareMachine.{flight-other}

-- ---- what a word means at one end it means at the other

values-for : (mode : Mode) (a b : Base) (values : List DataValue) (message : model.Message) → (IsData a values message → IsData b values message) → ValuesMean mode a values message → ValuesMean mode b values message
values-for Bare a b values message f h = f h
values-for Direct a b values message f h = f h
values-for Reliable a b values message f h = h

data-for : (common : Common) (word : DataWord) (message : model.Message) → DataMeans (base_at Responder common) word message → DataMeans (base_at Initiator common) word message
data-for common (Values values) message h =
    values-for common.mode (base_at Responder common) (base_at Initiator common) values message (λ d. record { item = d.item; is_one = d.is_one; is_its = d.is_its }) h
data-for common (AlterContext add delete) message h = h
data-for common (AlterContextAck answers) message h = h

association-for : (common : Common) (proposed : List Proposal) (word : AssociationWord) (message : model.Message) → AssociationMeans proposed (base_at Responder common) word message → AssociationMeans proposed (base_at Initiator common) word message
association-for common proposed (Connect session presentation values) message h = h
association-for common proposed (Accept session presentation values) message h = h
association-for common proposed (Refuse transport reason presentation values) message h = h
association-for common proposed (Finish transport values) message h = h
association-for common proposed (Disconnect values) message h = h
association-for common proposed (Abort transport user) message h = h
association-for common proposed AbortAccept message h = h

means-for : (common : Common) (proposed : List Proposal) (role : Role) (word : Word) (message : model.Message) → Means proposed (base_at role common) word message → Means proposed (base_at Initiator common) word message
means-for common proposed Initiator word message h = h
means-for common proposed Responder (OfAssociation word) message h = association-for common proposed word message h
means-for common proposed Responder (OfData word) message h = data-for common word message h
means-for common proposed Responder (OfMarks word) message h = h
means-for common proposed Responder (OfActivities word) message h = h

-- ---- what is sent is on its way

pub on-way : (common : Common) (proposed : List Proposal) (role : Role) (shared : ContextSet) (messages : List Message) (meant : List model.Message) → AreMeant proposed (base_at role common) messages meant → AreOnWay proposed (base_at Initiator common) messages (sendings shared meant)
on-way common proposed role shared [] [] h = tt
on-way common proposed role shared [] (m ∷ ms) h = absurd h
on-way common proposed role shared (Transport unit ∷ messages) meant h = on-way common proposed role shared messages meant h
on-way common proposed role shared (Session word ∷ messages) [] h = absurd h
on-way common proposed role shared (Session word ∷ messages) (m ∷ ms) h = (means-for common proposed role word m h.0, on-way common proposed role shared messages ms h.1)

pub way-append : (proposed : List Proposal) (base : Base) (xs ys : List Message) (ss ts : List Sending) → AreOnWay proposed base xs ss → AreOnWay proposed base ys ts → AreOnWay proposed base (xs ++ ys) (ss ++ ts)
way-append proposed base (Transport unit ∷ xs) ys ss ts h k = way-append proposed base xs ys ss ts h k
way-append proposed base [] ys [] ts h k = k
way-append proposed base [] ys (s ∷ ss) ts h k = absurd h
way-append proposed base (Session word ∷ xs) ys [] ts h k = absurd h
way-append proposed base (Session word ∷ xs) ys (s ∷ ss) ts h k = (h.0, way-append proposed base xs ys ss ts h.1 k)

pub record NextWord (proposed : List Proposal) (base : Base) (word : Word) (left : List Message) (flight : List Sending) : Type 0 where
  pub first : Sending
  pub rest : List Sending
  pub is_it : flight ≡ first ∷ rest
  pub means : Means proposed base word first.message
  pub later : AreOnWay proposed base left rest

pub next-word : (proposed : List Proposal) (base : Base) (word : Word) (left : List Message) (flight : List Sending) → AreOnWay proposed base (Session word ∷ left) flight → NextWord proposed base word left flight
next-word proposed base word left [] h = absurd h
next-word proposed base word left (s ∷ ss) h = record { first = s; rest = ss; is_it = refl; means = h.0; later = h.1 }

pub append-nil : {X : Type 0} (xs : List X) → xs ++ [] ≡ xs
append-nil [] = refl
append-nil (x ∷ xs) = ap (λ ys. x ∷ ys) (append-nil xs)

-- ---- an act

pub acts-kept : ActsKept
acts-kept free common proposed world role body later coming peer to_peer sent act s a =
    let setup : model.ModelSetup = setup_of free common in
    let base : Base = base_at role common in
    let now : state_of setup role world ≡ seen base body = s.own.state in
    let sent_now : AreMeant proposed base sent (sent_by setup (state_of setup role world) act) = subst (λ x. AreMeant proposed base sent (sent_by setup x act)) (sym now) a.means in
    record {
      run = acts setup world role act s.run (subst (λ x. MayAct setup role x act) (sym now) (subst (λ r. MayAct setup r (seen base body) act) (role-back role) a.may));
      own =
          record {
            state = state-own setup world role (Acts act) ∙ ap (λ x. acted setup x act) now ∙ sym a.after;
            flight = subst (AreOnWay proposed (base_at Initiator common) coming) (sym (flight-own setup world role (Acts act))) s.own.flight;
          };
      others =
          record {
            state = state-other setup world role (Acts act) ∙ s.others.state;
            flight = subst (AreOnWay proposed (base_at Initiator common) (to_peer ++ sent)) (sym (flight-other setup world role (Acts act)))
                (way-append proposed (base_at Initiator common) to_peer sent (flight_to setup (other role) world) (sendings (shared_at setup world).set (sent_by setup (state_of setup role world) act)) s.others.flight
                (on-way common proposed role (shared_at setup world).set sent (sent_by setup (state_of setup role world) act) sent_now));
          };
    }

-- ---- a taking

pub takes-kept : TakesKept
takes-kept free common proposed world role body word left peer to_peer choice s alive kept chosen taking =
    let setup : model.ModelSetup = setup_of free common in
    let base : Base = base_at role common in
    let now : state_of setup role world ≡ seen base body = s.own.state in
    let n = next-word proposed (base_at Initiator common) word left (flight_to setup role world) s.own.flight in
    let message : model.Message = n.first.message in
    let next : ComesNext message (flight_to setup role world) = subst (ComesNext message) (sym n.is_it) refl in
    let alive_now : (state_of setup role world).phase ≡ Over → ⊥ = λ e. alive (sym (ap (λ (x : states.State). x.phase) now) ∙ e) in
    let kept_now : is_purged role (state_of setup role world).awaits message ≡ false = ap (λ (x : states.State). is_purged role x.awaits message) now ∙ kept message n.means in
    let chosen_now : IsChoice setup (state_of setup role world) message choice = subst (λ x. IsChoice setup x message choice) (sym now) (chosen message n.means) in
    let t = takes setup world role message choice s.run next alive_now kept_now chosen_now in
    let a = taking message n.means (subst (λ x. MayTake setup role x message) now t.may) in
    let answers : List Message = answers_to_word base body word in
    let answered : AreMeant proposed base answers (answer_to setup (state_of setup role world) message choice) = subst (λ x. AreMeant proposed base answers (answer_to setup x message choice)) (sym now) a.means in
    let after_it : taken setup (role_seen (is_initiator role)) (seen base body) message choice ≡ taken setup role (seen base body) message choice = ap (λ r. taken setup r (seen base body) message choice) (role-back role) in
    record {
      message = message;
      means = n.means;
      no_fault = a.no_fault;
      ends =
          record {
            run = t.run;
            own =
                record {
                  state = state-own setup world role (Takes message choice) ∙ ap (λ x. taken setup role x message choice) now ∙ sym after_it ∙ sym a.after;
                  flight = subst (AreOnWay proposed (base_at Initiator common) left) (sym (flight-own setup world role (Takes message choice) ∙ ap without_first n.is_it)) n.later;
                };
            others =
                record {
                  state = state-other setup world role (Takes message choice) ∙ s.others.state;
                  flight = subst (AreOnWay proposed (base_at Initiator common) (to_peer ++ answers)) (sym (flight-other setup world role (Takes message choice)))
                      (way-append proposed (base_at Initiator common) to_peer answers (flight_to setup (other role) world) (sendings (shared_at setup world).set (answer_to setup (state_of setup role world) message choice)) s.others.flight
                      (on-way common proposed role (shared_at setup world).set answers (answer_to setup (state_of setup role world) message choice) answered));
                };
          };
    }

-- ---- a passing over

passing-so : (role : Role) (x y : states.State) (message : model.Message) → x ≡ y → (y.phase ≡ Over) ⊎ (is_purged role y.awaits message ≡ true) → (x.phase ≡ Over) ⊎ (is_purged role x.awaits message ≡ true)
passing-so role x y message e (inl h) = inl (ap (λ (s : states.State). s.phase) e ∙ h)
passing-so role x y message e (inr h) = inr (ap (λ (s : states.State). is_purged role s.awaits message) e ∙ h)

pub passes-kept : PassesKept
passes-kept free common proposed world role body word left peer to_peer s passed =
    let setup : model.ModelSetup = setup_of free common in
    let base : Base = base_at role common in
    let now : state_of setup role world ≡ seen base body = s.own.state in
    let n = next-word proposed (base_at Initiator common) word left (flight_to setup role world) s.own.flight in
    let message : model.Message = n.first.message in
    let next : ComesNext message (flight_to setup role world) = subst (ComesNext message) (sym n.is_it) refl in
    record {
      message = message;
      ends =
          record {
            run = passes setup world role message s.run next (passing-so role (state_of setup role world) (seen base body) message now (passed message n.means));
            own =
                record {
                  state = state-own setup world role (Passes message) ∙ now;
                  flight = subst (AreOnWay proposed (base_at Initiator common) left) (sym (flight-own setup world role (Passes message) ∙ ap without_first n.is_it)) n.later;
                };
            others =
                record {
                  state = state-other setup world role (Passes message) ∙ s.others.state;
                  flight = subst (AreOnWay proposed (base_at Initiator common) to_peer) (sym (flight-other setup world role (Passes message) ∙ append-nil (flight_to setup (other role) world))) s.others.flight;
                };
          };
    }

-- ---- a break

broke-end : (free : Free) (common : Common) (proposed : List Proposal) (world : World) (role : Role) (body : Body) (coming : List Message) → EndOf free common proposed world role body coming → BreaksSo common body → EndOf free common proposed (Break ∷ world) role (after_broke (base_at role common) body) []
broke-end free common proposed world role body coming s h =
    record {
      state = ap (broken (setup_of free common)) s.state ∙ sym (broken-seen common.mode free (base_at role common) body h);
      flight = tt;
    }

pub breaks-kept : BreaksKept
breaks-kept free common proposed world role body coming peer to_peer s own others =
    record {
      run = (tt, s.run);
      own = broke-end free common proposed world role body coming s.own own;
      others = broke-end free common proposed world (other role) peer to_peer s.others others;
    }

-- ---- what the model doesn't see

units-alone : (common : Common) (proposed : List Proposal) (role : Role) (sent : List Message) → AreMeant proposed (base_at role common) sent [] → AreOnWay proposed (base_at Initiator common) sent []
units-alone common proposed role [] h = tt
units-alone common proposed role (Transport unit ∷ sent) h = units-alone common proposed role sent h
units-alone common proposed role (Session word ∷ sent) h = absurd h

pub unseen-kept : UnseenKept
unseen-kept free common proposed world role body later coming peer to_peer sent s same units =
    let setup : model.ModelSetup = setup_of free common in
    record {
      run = s.run;
      own = record { state = s.own.state ∙ sym same; flight = s.own.flight };
      others =
          record {
            state = s.others.state;
            flight = subst (AreOnWay proposed (base_at Initiator common) (to_peer ++ sent)) (append-nil (flight_to setup (other role) world))
                (way-append proposed (base_at Initiator common) to_peer sent (flight_to setup (other role) world) [] s.others.flight (units-alone common proposed role sent units));
          };
    }

pub units-kept : UnitsKept
units-kept free common proposed world role body unit left peer to_peer s =
    record { run = s.run; own = record { state = s.own.state; flight = s.own.flight }; others = s.others }
