-- Two ends of bare mode: what comes next is taken, or passed over by an end that is over; breaks.
use Rattle.std.proofs.Common.{◌≡◌, refl, true, false, ◌∙◌, sym, ap, subst, List, [], ◌∷◌, ◌++◌, ◌⊎◌}
use Rattle.std.proofs.Common.{inl, inr}
use Rattle.std.specs.Prelude.{not, Option, Some, None, if◌then◌else◌}
use Rattle.osi_base.specs.declared.session_word.SessionWord.TheVariants as units
use Rattle.stub_tables.specs.declared.tables.Tables.{Tables}
use Rattle.dialogue.specs.declared.config.Config.{Config}
use Rattle.dialogue.specs.declared.config.Mode.TheVariants.{Bare}
use Rattle.dialogue.specs.declared.config.Phase.TheVariants.{Up, Over}
use Rattle.dialogue.specs.declared.indication.Indication.{Indication}
use Rattle.end_rules.specs.Base.{Base, Spellings, Fault, Item}
use Rattle.end_rules.specs.Messages.{Message, Session, Word, unit_of}
use Rattle.end_rules.specs.State.{Body, Link, passes_over, NoAnswer, Unused, new_body}
use Rattle.end_rules.specs.Purging.{is_purged}
use Rattle.end_rules.specs.Faults.{or_fault, fault_if, session_fault}
use Rattle.end_rules.specs.InPlace.{is_in_place}
use Rattle.end_rules.specs.Reacting.{Passes, Takes, Fails, react, on_word, fault_above, word_fault}
use Rattle.end_rules.specs.Reacting.{after_word, answers_to_word, shown_of_word}
use Rattle.end_rules.specs.History.{after_broke, broken_phase}
use Rattle.agreement.specs.Sets.{Role, other}
use Rattle.agreement.specs.Sets.Role.{Initiator, Responder}
use Rattle.agreement.specs.Messages as model
use Rattle.agreement.specs.Messages.Mode.{Bare as model_bare}
use Rattle.agreement.specs.Messages.Apdu.{Invoke, Outcome, Reject}
use Rattle.agreement.specs.Messages.Message.{Data}
use Rattle.agreement.specs.Messages.Choice.{Nothing}
use Rattle.agreement.specs.State as states
use Rattle.agreement.specs.State.Phase.{Up as model_up, Over as model_over}
use Rattle.agreement.specs.Calls.{is_open, may_answer}
use Rattle.agreement.specs.Acts.{MayAct, acted, sent_by}
use Rattle.agreement.specs.Takings.{MayTake, taken, is_purged as model_purged, broken}
use Rattle.agreement.specs.Takings.{broken_phase as model_broken_phase}
use Rattle.agreement.specs.Worlds.{World, IsRun, ComesNext, state_of, sendings, shared_at}
use Rattle.agreement.specs.Worlds.{without_first, flight_to}
use Rattle.agreement.specs.Worlds.Step.{Acts, Takes as model_takes, Passes as model_passes}
use Rattle.agreement.specs.Worlds.Moment.{By, Break}
use Rattle.agreement.proofs.Interface.{acts, takes, passes, laws}
use Rattle.end_model.specs.Seen.{Free, phase_seen, awaited_seen, item_seen, seen}
use Rattle.end_model.specs.Words.{data_word, AreOurs}
use Rattle.end_model.specs.Acting.{IsSoundBody, ReadsBack}
use Rattle.end_model.specs.Heard.{IsExpected, MayThen, then_acted, sent_then}
use Rattle.end_model.specs.BothEnds.{Common, base_at, Two, body_at, coming_to, stepped, Reached}
use Rattle.end_model.specs.BothEnds.{begins, calls, takes as reached_takes, passes as reached_passes}
use Rattle.end_model.specs.BothEnds.{fails, breaks, setup_of, AreComing, SideOf, ModelOf, bare_common}
use Rattle.end_model.specs.BothEnds.{WritesAll, BareTakes}
use Rattle.end_model.proofs.Breaking.{broken-seen}
use Rattle.end_model.proofs.HandingRows.{same-sets}
use Rattle.end_model.proofs.HeardRows.{bare-heard}
use Rattle.end_model.proofs.BareMachine.{role-back, ours-coming, coming-append, next-of, state-own}
use Rattle.end_model.proofs.BareMachine.{state-other, flight-own, flight-other, Sides, as-sides}
use Rattle.end_model.proofs.BareMachine.{from-sides, called-so}

-- ---- what the model gives

-- an outcome of an open invocation is one that its operation has
pub expected : (setup : model.ModelSetup) (world : World) (role : Role) (value : model.Value) (state : states.State) → IsRun setup (By role (model_takes (Data value) Nothing) ∷ world) → state_of setup role world ≡ state → IsExpected setup state.calls value.apdu
expected setup world role value state run now = go value.apdu refl
  where
    go : (apdu : model.Apdu) → value.apdu ≡ apdu → IsExpected setup state.calls apdu
    go (Invoke number operation link argument) e = tt
    go (Reject number problem) e = tt
    go (Outcome number content) e = λ is_open_now.
        subst (λ (s : states.State). may_answer setup s.calls.own_open number content ≡ true) now
        ((laws setup).one_operation world role (Data value) Nothing value number content run refl e
        (ap (λ (s : states.State). is_open number s.calls.own_open) now ∙ is_open_now)).1

alive : (base : Base) (body : Body) (state : states.State) → state ≡ seen base body → body.link.phase ≡ Up → state.phase ≡ model_over → ⊥
alive base body state now up e =
    let k : model_up ≡ model_over = sym (ap (phase_seen body.link.stage) up) ∙ sym (ap (λ (s : states.State). s.phase) now) ∙ e in
    no k
  where
    no : model_up ≡ model_over → ⊥
    no k = cc

-- ---- the taking of what comes next, by an end that is up

no-fault : (x y : Option Fault) → or_fault x y ≡ None → y ≡ None
no-fault None y h = h
no-fault (Some fault) y h = cc

reacts : (tables : Tables) (spellings : Spellings) (a b : Config) (role : Role) (body : Body) (word : Word) → body.link.phase ≡ Up → word_fault (base_at role (bare_common tables spellings a b)) body word ≡ None → (let base = base_at role (bare_common tables spellings a b) in react base body (Session word) ≡ Takes (after_word base body word) (answers_to_word base body word) (shown_of_word base body word))
reacts tables spellings a b role body word up fine =
    let base : Base = base_at role (bare_common tables spellings a b) in
    let f : fault_above base body word ≡ None = no-fault (fault_if (not (is_in_place base body (unit_of word))) session_fault) (fault_above base body word) fine in
    ap (λ p. if passes_over p then Passes else on_word base body word (fault_above base body word)) up ∙ ap (on_word base body word) f

append-nil : {X : Type 0} (xs : List X) → xs ++ [] ≡ xs
append-nil [] = refl
append-nil (x ∷ xs) = ap (λ ys. x ∷ ys) (append-nil xs)

record Taken (free : Free) (common : Common) (role : Role) (two : Two) (message : Message) (left : List Message) : Type 0 where
  body : Body
  answers : List Message
  shown : List Indication
  reacts_so : react (base_at role common) (body_at role two) message ≡ Takes body answers shown
  modelled : ModelOf free common (stepped role body left answers two)

-- the model's taking, before the reject that it brings
record Half (free : Free) (common : Common) (world : World) (role : Role) (state : states.State) (coming : List Message) (peer : Body) (to_peer : List Message) : Type 0 where
  run : IsRun (setup_of free common) world
  now : state_of (setup_of free common) role world ≡ state
  flight : AreComing (base_at Initiator common) coming (flight_to (setup_of free common) role world)
  others : SideOf free common world (other role) peer to_peer

then-none : (free : Free) (tables : Tables) (spellings : Spellings) (a b : Config) (world : World) (role : Role) (state : states.State) (later : Body) (left : List Message) (peer : Body) (to_peer sent : List Message) (act : Option model.Act) → Half free (bare_common tables spellings a b) world role state left peer to_peer → MayThen (setup_of free (bare_common tables spellings a b)) role state act → seen (base_at role (bare_common tables spellings a b)) later ≡ then_acted (setup_of free (bare_common tables spellings a b)) state act → AreOurs (base_at role (bare_common tables spellings a b)) sent (sent_then (setup_of free (bare_common tables spellings a b)) state act) → IsSoundBody Bare (base_at role (bare_common tables spellings a b)) later → (later.link.phase ≡ Up) ⊎ (later.link.phase ≡ Over) → (world' : World) × Sides free (bare_common tables spellings a b) world' role later left peer (to_peer ++ sent)
then-none free tables spellings a b world role state later left peer to_peer [] None h may is ours sound phase = (
  world,
  record {
    run = h.run;
    own = record { state = h.now ∙ sym is; sound = sound; phase = phase; flight = h.flight };
    others = rw append-nil h.others;
  },
)
then-none free tables spellings a b world role state later left peer to_peer (m ∷ sent) None h may is ours sound phase = absurd ours
then-none free tables spellings a b world role state later left peer to_peer sent (Some act) h may is ours sound phase =
    let common : Common = bare_common tables spellings a b in
    let setup : model.ModelSetup = setup_of free common in
    let base : Base = base_at role common in
    let sent_now : AreOurs base sent (sent_by setup (state_of setup role world) act) = subst (λ x. AreOurs base sent (sent_by setup x act)) (sym h.now) ours in (
      By role (Acts act) ∷ world,
      record {
        run = acts setup world role act h.run (subst (λ x. MayAct setup role x act) (sym h.now) may);
        own =
            record {
              state = state-own setup world role (Acts act) ∙ ap (λ x. acted setup x act) h.now ∙ sym is;
              sound = sound;
              phase = phase;
              flight = subst (AreComing (base_at Initiator common) left) (sym (flight-own setup world role (Acts act))) h.flight;
            };
        others =
            record {
              state = state-other setup world role (Acts act) ∙ h.others.state;
              sound = h.others.sound;
              phase = h.others.phase;
              flight = subst (AreComing (base_at Initiator common) (to_peer ++ sent)) (sym (flight-other setup world role (Acts act)))
                  (coming-append (base_at Initiator common) to_peer sent (flight_to setup (other role) world) (sendings (shared_at setup world).set (sent_by setup (state_of setup role world) act)) h.others.flight
                  (ours-coming tables spellings a b role (shared_at setup world).set sent (sent_by setup (state_of setup role world) act) sent_now));
            };
      },
    )

taking-up : (free : Free) (tables : Tables) (spellings : Spellings) (a b : Config) (role : Role) (two : Two) (message : Message) (left : List Message) → WritesAll free → ModelOf free (bare_common tables spellings a b) two → coming_to role two ≡ message ∷ left → (body_at role two).link.phase ≡ Up → Taken free (bare_common tables spellings a b) role two message left
taking-up free tables spellings a b role two message left writes m comes up =
    let common : Common = bare_common tables spellings a b in
    let setup : model.ModelSetup = setup_of free common in
    let base : Base = base_at role common in
    let body : Body = body_at role two in
    let s = as-sides free common role two m in
    let world : World = s.world in
    let coming : AreComing (base_at Initiator common) (message ∷ left) (flight_to setup role world) = subst (λ ms. AreComing (base_at Initiator common) ms (flight_to setup role world)) comes s.sides.own.flight in
    let n = next-of (base_at Initiator common) message left (flight_to setup role world) coming in
    let item : Item = n.ours.item in
    let value : model.Value = item_seen base item in
    let now : state_of setup role world ≡ seen base body = s.sides.own.state in
    let next : ComesNext (Data value) (flight_to setup role world) = subst (ComesNext (Data value)) (sym n.is_it) n.ours.is_its in
    let calm : body.link.awaits ≡ NoAnswer = s.sides.own.sound.calm in
    let kept : model_purged role (state_of setup role world).awaits (Data value) ≡ false = ap (λ (x : states.State). model_purged role x.awaits (Data value)) now ∙ ap (λ w. model_purged role (awaited_seen w) (Data value)) calm in
    let t = takes setup world role (Data value) Nothing s.sides.run next (alive base body (state_of setup role world) now up) kept tt in
    let may : MayTake setup role (seen base body) (Data value) = subst (λ x. MayTake setup role x (Data value)) now t.may in
    let here : is_purged base.initiator body.link.awaits (units.Data []) ≡ false = ap (λ w. is_purged base.initiator w (units.Data [])) calm in
    let h = bare-heard free base body item writes s.sides.own.sound n.ours.is_proper n.ours.is_read_back (expected setup world role value (seen base body) t.run now) here may in
    let after_it : states.State = taken setup role (seen base body) (Data value) Nothing in
    let half : Half free common (By role (model_takes (Data value) Nothing) ∷ world) role after_it left (body_at (other role) two) (coming_to (other role) two) =
    record {
      run = t.run;
      now = state-own setup world role (model_takes (Data value) Nothing) ∙ ap (λ x. taken setup role x (Data value) Nothing) now;
      flight = subst (AreComing (base_at Initiator common) left) (sym (flight-own setup world role (model_takes (Data value) Nothing) ∙ ap without_first n.is_it)) n.later;
      others =
          record {
            state = state-other setup world role (model_takes (Data value) Nothing) ∙ s.sides.others.state;
            sound = s.sides.others.sound;
            phase = s.sides.others.phase;
            flight = subst (AreComing (base_at Initiator common) (coming_to (other role) two)) (sym (flight-other setup world role (model_takes (Data value) Nothing) ∙ append-nil (flight_to setup (other role) world))) s.sides.others.flight;
          };
    } in
    let later : Body = after_word base body (data_word item) in
    let phase : later.link.phase ≡ Up = ap (λ (l : Link). l.phase) h.link ∙ up in
    let end = then-none free tables spellings a b (By role (model_takes (Data value) Nothing) ∷ world) role after_it later left (body_at (other role) two) (coming_to (other role) two) (answers_to_word base body (data_word item)) h.then_act half (subst (λ r. MayThen setup r after_it h.then_act) (role-back role) h.may) h.after h.means h.sound (inl phase) in
    record {
      body = later;
      answers = answers_to_word base body (data_word item);
      shown = shown_of_word base body (data_word item);
      reacts_so = ap (react base body) n.ours.is_data ∙ reacts tables spellings a b role body (data_word item) up h.no_fault;
      modelled = from-sides free common role two end.0 later left (answers_to_word base body (data_word item)) end.1;
    }

-- ---- an end that is over passes over what comes

passing : (free : Free) (tables : Tables) (spellings : Spellings) (a b : Config) (role : Role) (two : Two) (message : Message) (left : List Message) → ModelOf free (bare_common tables spellings a b) two → coming_to role two ≡ message ∷ left → (body_at role two).link.phase ≡ Over → ModelOf free (bare_common tables spellings a b) (stepped role (body_at role two) left [] two)
passing free tables spellings a b role two message left m comes over =
    let common : Common = bare_common tables spellings a b in
    let setup : model.ModelSetup = setup_of free common in
    let base : Base = base_at role common in
    let body : Body = body_at role two in
    let s = as-sides free common role two m in
    let world : World = s.world in
    let coming : AreComing (base_at Initiator common) (message ∷ left) (flight_to setup role world) = subst (λ ms. AreComing (base_at Initiator common) ms (flight_to setup role world)) comes s.sides.own.flight in
    let n = next-of (base_at Initiator common) message left (flight_to setup role world) coming in
    let meant : model.Message = n.first.message in
    let next : ComesNext meant (flight_to setup role world) = subst (ComesNext meant) (sym n.is_it) refl in
    let now : state_of setup role world ≡ seen base body = s.sides.own.state in
    let is_over : (state_of setup role world).phase ≡ model_over = ap (λ (x : states.State). x.phase) now ∙ ap (phase_seen body.link.stage) over in
    let run = passes setup world role meant s.sides.run next (inl is_over) in
    from-sides free common role two (By role (model_passes meant) ∷ world) body left []
    (record {
      run = run;
      own =
          record {
            state = state-own setup world role (model_passes meant) ∙ now;
            sound = s.sides.own.sound;
            phase = inr over;
            flight = subst (AreComing (base_at Initiator common) left) (sym (flight-own setup world role (model_passes meant) ∙ ap without_first n.is_it)) n.later;
          };
      others =
          record {
            state = state-other setup world role (model_passes meant) ∙ s.sides.others.state;
            sound = s.sides.others.sound;
            phase = s.sides.others.phase;
            flight = subst (λ ms. AreComing (base_at Initiator common) ms (flight_to setup (other role) (By role (model_passes meant) ∷ world))) (sym (append-nil (coming_to (other role) two)))
                (subst (AreComing (base_at Initiator common) (coming_to (other role) two)) (sym (flight-other setup world role (model_passes meant) ∙ append-nil (flight_to setup (other role) world))) s.sides.others.flight);
          };
    })

-- ---- a break

broke-phase : (body : Body) → (body.link.phase ≡ Up) ⊎ (body.link.phase ≡ Over) → (phase_seen Unused (broken_phase Bare body.link.phase) ≡ model_broken_phase model_bare (phase_seen body.link.stage body.link.phase)) × (broken_phase Bare body.link.phase ≡ Over)
broke-phase body (inl e) =
    (subst (λ p. phase_seen Unused (broken_phase Bare p) ≡ model_broken_phase model_bare (phase_seen body.link.stage p)) (sym e) refl, ap (broken_phase Bare) e)
broke-phase body (inr e) =
    (subst (λ p. phase_seen Unused (broken_phase Bare p) ≡ model_broken_phase model_bare (phase_seen body.link.stage p)) (sym e) refl, ap (broken_phase Bare) e)

broke-side : (free : Free) (tables : Tables) (spellings : Spellings) (a b : Config) (role : Role) (world : World) (body : Body) (coming : List Message) → SideOf free (bare_common tables spellings a b) world role body coming → SideOf free (bare_common tables spellings a b) (Break ∷ world) role (after_broke (base_at role (bare_common tables spellings a b)) body) []
broke-side free tables spellings a b role world body coming s =
    let common : Common = bare_common tables spellings a b in
    let setup : model.ModelSetup = setup_of free common in
    let base : Base = base_at role common in
    let p = broke-phase body s.phase in
    record {
      state = ap (broken setup) s.state ∙ sym (broken-seen Bare free base body p.0);
      sound =
          record {
            numbered = tt;
            calm = refl;
            sets = same-sets Bare base body (after_broke base body) refl s.sound.sets;
            queues = s.sound.queues;
          };
      phase = inr p.1;
      flight = tt;
    }

-- ---- all that is reached

begun-side : (free : Free) (tables : Tables) (spellings : Spellings) (a b : Config) (role : Role) → SideOf free (bare_common tables spellings a b) [] role (new_body (base_at role (bare_common tables spellings a b))) []
begun-side free tables spellings a b role =
    record {
      state = refl;
      sound = record { numbered = tt; calm = refl; sets = record { held = refl; own = refl }; queues = refl };
      phase = inl refl;
      flight = tt;
    }

-- what comes to an end that is over is passed over
over-passes : (tables : Tables) (spellings : Spellings) (a b : Config) (role : Role) (body : Body) (message : Message) → body.link.phase ≡ Over → react (base_at role (bare_common tables spellings a b)) body message ≡ Passes
over-passes tables spellings a b role body message over = rw over refl

takes-no_pass : (body : Body) (answers : List Message) (shown : List Indication) → Takes body answers shown ≡ Passes → ⊥
takes-no_pass body answers shown e = cc

pass-no_take : (body : Body) (answers : List Message) (shown : List Indication) → Passes ≡ Takes body answers shown → ⊥
pass-no_take body answers shown e = cc

takes-no_fault : (body : Body) (answers : List Message) (shown : List Indication) (fault : Fault) (later : Body) (aborts : List Message) (told : List Indication) → Takes body answers shown ≡ Fails fault later aborts told → ⊥
takes-no_fault body answers shown fault later aborts told e = cc

passes-no_fault : (fault : Fault) (later : Body) (aborts : List Message) (told : List Indication) → Passes ≡ Fails fault later aborts told → ⊥
passes-no_fault fault later aborts told e = cc

phase-at : (free : Free) (common : Common) (role : Role) (two : Two) → ModelOf free common two → ((body_at role two).link.phase ≡ Up) ⊎ ((body_at role two).link.phase ≡ Over)
phase-at free common Initiator two m = m.a.phase
phase-at free common Responder two m = m.b.phase

took : (free : Free) (tables : Tables) (spellings : Spellings) (a b : Config) (role : Role) (two : Two) (message : Message) (left : List Message) (body : Body) (answers : List Message) (shown : List Indication) → WritesAll free → ModelOf free (bare_common tables spellings a b) two → coming_to role two ≡ message ∷ left → react (base_at role (bare_common tables spellings a b)) (body_at role two) message ≡ Takes body answers shown → ModelOf free (bare_common tables spellings a b) (stepped role body left answers two)
took free tables spellings a b role two message left body answers shown writes m comes h = go (phase-at free (bare_common tables spellings a b) role two m)
  where
    go : ((body_at role two).link.phase ≡ Up) ⊎ ((body_at role two).link.phase ≡ Over) → ModelOf free (bare_common tables spellings a b) (stepped role body left answers two)
    go (inl up) =
        let t = taking-up free tables spellings a b role two message left writes m comes up in
        let same : Takes t.body t.answers t.shown ≡ Takes body answers shown = sym t.reacts_so ∙ h in
        let bodies : t.body ≡ body = cc in
        let sendings_ : t.answers ≡ answers = cc in
        subst (λ x. ModelOf free (bare_common tables spellings a b) (stepped role x left answers two)) bodies
        (subst (λ xs. ModelOf free (bare_common tables spellings a b) (stepped role t.body left xs two)) sendings_ t.modelled)
    go (inr over) =
        absurd (pass-no_take body answers shown (sym (over-passes tables spellings a b role (body_at role two) message over) ∙ h))

passed : (free : Free) (tables : Tables) (spellings : Spellings) (a b : Config) (role : Role) (two : Two) (message : Message) (left : List Message) → WritesAll free → ModelOf free (bare_common tables spellings a b) two → coming_to role two ≡ message ∷ left → react (base_at role (bare_common tables spellings a b)) (body_at role two) message ≡ Passes → ModelOf free (bare_common tables spellings a b) (stepped role (body_at role two) left [] two)
passed free tables spellings a b role two message left writes m comes h = go (phase-at free (bare_common tables spellings a b) role two m)
  where
    go : ((body_at role two).link.phase ≡ Up) ⊎ ((body_at role two).link.phase ≡ Over) → ModelOf free (bare_common tables spellings a b) (stepped role (body_at role two) left [] two)
    go (inl up) =
        let t = taking-up free tables spellings a b role two message left writes m comes up in
        let no : Takes t.body t.answers t.shown ≡ Passes = sym t.reacts_so ∙ h in
        absurd (takes-no_pass t.body t.answers t.shown no)
    go (inr over) = passing free tables spellings a b role two message left m comes over

never-fails : (free : Free) (tables : Tables) (spellings : Spellings) (a b : Config) (role : Role) (two : Two) (message : Message) (left : List Message) (fault : Fault) (body : Body) (aborts : List Message) (shown : List Indication) → WritesAll free → ModelOf free (bare_common tables spellings a b) two → coming_to role two ≡ message ∷ left → react (base_at role (bare_common tables spellings a b)) (body_at role two) message ≡ Fails fault body aborts shown → ⊥
never-fails free tables spellings a b role two message left fault body aborts shown writes m comes h = go (phase-at free (bare_common tables spellings a b) role two m)
  where
    go : ((body_at role two).link.phase ≡ Up) ⊎ ((body_at role two).link.phase ≡ Over) → ⊥
    go (inl up) =
        let t = taking-up free tables spellings a b role two message left writes m comes up in
        takes-no_fault t.body t.answers t.shown fault body aborts shown (sym t.reacts_so ∙ h)
    go (inr over) = passes-no_fault fault body aborts shown (sym (over-passes tables spellings a b role (body_at role two) message over) ∙ h)

pub bare-modelled : (free : Free) (tables : Tables) (spellings : Spellings) (a b : Config) → WritesAll free → ReadsBack (base_at Initiator (bare_common tables spellings a b)) → (two : Two) → Reached (bare_common tables spellings a b) two → ModelOf free (bare_common tables spellings a b) two
bare-modelled free tables spellings a b writes back two begins =
    record { world = []; run = tt; a = begun-side free tables spellings a b Initiator; b = begun-side free tables spellings a b Responder }
bare-modelled free tables spellings a b writes back two (calls before role call answer reached h) =
    called-so free tables spellings a b role before call answer writes back (bare-modelled free tables spellings a b writes back before reached) h
bare-modelled free tables spellings a b writes back two (reached_takes before role message left body answers shown reached comes h) =
    took free tables spellings a b role before message left body answers shown writes (bare-modelled free tables spellings a b writes back before reached) comes h
bare-modelled free tables spellings a b writes back two (reached_passes before role message left reached comes h) =
    passed free tables spellings a b role before message left writes (bare-modelled free tables spellings a b writes back before reached) comes h
bare-modelled free tables spellings a b writes back two (fails before role message left fault body aborts shown reached comes h) =
    absurd (never-fails free tables spellings a b role before message left fault body aborts shown writes (bare-modelled free tables spellings a b writes back before reached) comes h)
bare-modelled free tables spellings a b writes back two (breaks before reached) =
    let m = bare-modelled free tables spellings a b writes back before reached in
    record {
      world = Break ∷ m.world;
      run = (tt, m.run);
      a = broke-side free tables spellings a b Initiator m.world before.a before.to_a m.a;
      b = broke-side free tables spellings a b Responder m.world before.b before.to_b m.b;
    }

pub bare-takes : BareTakes
bare-takes free tables spellings a b writes back two role message left fault body aborts shown reached comes h =
    never-fails free tables spellings a b role two message left fault body aborts shown writes (bare-modelled free tables spellings a b writes back two reached) comes h
