-- Two ends of bare mode reject nothing: what comes next to an end that is up is heard without a problem.
use Rattle.std.proofs.Common.{◌≡◌, refl, true, false, ◌∙◌, sym, ap, subst, ℕ, List, [], ◌∷◌, ◌++◌, if◌then◌else◌}
use Rattle.std.proofs.lemmas.List.{append-nil}
use Rattle.std.specs.Prelude.{ℤ, Option, Some, None}
use Rattle.osi_base.specs.declared.layer_words.Problem.{Problem}
use Rattle.osi_base.specs.declared.layer_words.ProblemKind.TheVariants as problems
use Rattle.asn1_types.specs.declared.value.Val.{Val}
use Rattle.stub_tables.specs.declared.tables.Tables.{Tables}
use Rattle.stub_tables.specs.declared.apdu.Apdu.{Apdu}
use Rattle.stub_tables.specs.declared.apdu.Apdu.TheVariants as apdus
use Rattle.stub_tables.specs.declared.apdu.Returned.{Returned}
use Rattle.stub_tables.specs.Lookup.{operation_at, operation_with, error_with}
use Rattle.dialogue.specs.declared.config.Config.{Config}
use Rattle.dialogue.specs.declared.config.Mode.TheVariants.{Bare}
use Rattle.dialogue.specs.declared.config.Phase.TheVariants.{Up}
use Rattle.dialogue.specs.declared.indication.Indication.{Indication}
use Rattle.dialogue.specs.declared.indication.Indication.TheVariants as indications
use Rattle.end_rules.specs.Base.{Base, Spellings, Item}
use Rattle.end_rules.specs.Messages.{Message, Session}
use Rattle.end_rules.specs.State.{Body, NoAnswer, Calls, OpenCall, passes_over, opened_with, close}
use Rattle.end_rules.specs.Hearing.{Heard, Rejecting, Taken, hear, head_of_apdu, on_heard, then_taken, value_in, carried_in, code_returned, value_returned, unless_problem, rejected, showing, invoked, invoke_problem, hear_result_of, result_problem, hear_error_of, error_problem, showing_error}
use Rattle.end_rules.specs.Reacting.{Reaction, Passes, Takes, react}
use Rattle.agreement.specs.Sets.{Role}
use Rattle.agreement.specs.Sets.Role.{Initiator, Responder}
use Rattle.agreement.specs.Messages as model
use Rattle.agreement.specs.Messages.Message.{Data}
use Rattle.agreement.specs.Messages.Choice.{Nothing}
use Rattle.agreement.specs.Messages.Apdu.{Invoke, Outcome, Reject}
use Rattle.agreement.specs.State as states
use Rattle.agreement.specs.State.Phase.{Up as model_up, Over as model_over}
use Rattle.agreement.specs.Calls.{is_open, may_answer, is_accepted, reject_of}
use Rattle.agreement.specs.Takings.{is_purged as model_purged}
use Rattle.agreement.specs.Worlds.{World, Sending, IsRun, ComesNext, state_of, flight_to}
use Rattle.agreement.specs.Worlds.Step.{Takes as model_takes}
use Rattle.agreement.specs.Worlds.Moment.{By}
use Rattle.agreement.proofs.Interface.{laws}
use Rattle.end_model.specs.Seen.{Free, phase_seen, awaited_seen, item_seen, apdu_seen, calls_seen, seen}
use Rattle.end_model.specs.Words.{data_word, IsOurs}
use Rattle.end_model.specs.Heard.{IsExpected}
use Rattle.end_model.specs.BothEnds.{Common, base_at, Two, body_at, coming_to, setup_of, AreComing, SideOf, ModelOf, bare_common}
use Rattle.end_model.proofs.Hears.{rejects_seen, hears}
use Rattle.bare_duo.specs.Shows.{value_of, shown_invoke, shown_error, shown_of}
use Rattle.bare_duo.proofs.BareLive.{accepts-all}

-- ---- what the model says of one side

pub record AtSide (free : Free) (common : Common) (role : Role) (body : Body) (coming : List Message) : Type 0 where
  pub world : World
  pub run : IsRun (setup_of free common) world
  pub side : SideOf free common world role body coming

pub at_side : (free : Free) (common : Common) (role : Role) (two : Two) → ModelOf free common two → AtSide free common role (body_at role two) (coming_to role two)
at_side free common Initiator two m = record { world = m.world; run = m.run; side = m.a }
at_side free common Responder two m = record { world = m.world; run = m.run; side = m.b }

record NextOf (base : Base) (message : Message) (left : List Message) (flight : List Sending) : Type 0 where
  first : Sending
  rest : List Sending
  is_it : flight ≡ first ∷ rest
  ours : IsOurs base message first.message

next_of : (base : Base) (message : Message) (left : List Message) (flight : List Sending) → AreComing base (message ∷ left) flight → NextOf base message left flight
next_of base message left [] h = absurd h
next_of base message left (s ∷ ss) h = record { first = s; rest = ss; is_it = refl; ours = h.0 }

-- an outcome of an open invocation is one that its operation has
expected : (setup : model.ModelSetup) (world : World) (role : Role) (value : model.Value) (state : states.State) → IsRun setup (By role (model_takes (Data value) Nothing) ∷ world) → state_of setup role world ≡ state → IsExpected setup state.calls value.apdu
expected setup world role value state run now = go value.apdu refl
  where
    go : (apdu : model.Apdu) → value.apdu ≡ apdu → IsExpected setup state.calls apdu
    go (Invoke number operation link argument) e = tt
    go (Reject number problem) e = tt
    go (Outcome number content) e = λ is_open_now.
        subst (λ (s : states.State). may_answer setup s.calls.own_open number content ≡ true) now
        ((laws setup).one_operation world role (Data value) Nothing value number content run refl e
        (ap (λ (s : states.State). is_open number s.calls.own_open) now ∙ is_open_now)).1

alive : (base : Base) (body : Body) (state : states.State) → state ≡ seen base body → body.link.phase ≡ Up → state.phase ≡ model_over → ⊥
alive base body state now up e =
    let k : model_up ≡ model_over = sym (ap (phase_seen body.link.stage) up) ∙ sym (ap (λ (s : states.State). s.phase) now) ∙ e in
    no k
  where
    no : model_up ≡ model_over → ⊥
    no k = cc

-- ---- no reject is due

none_due : (base : Base) (context : ℕ) (r : Option Rejecting) → rejects_seen base context r ≡ [] → r ≡ None
none_due base context None e = refl
none_due base context (Some r) e = cc

-- what is taken calmly: an APDU is heard, and nothing is answered
pub record Calmly (base : Base) (body : Body) (message : Message) : Type 0 where
  pub item : Item
  pub is_its : message ≡ Session (data_word item)
  pub quiet : (hear base body.calls item.id (head_of_apdu item.apdu)).reject ≡ None
  pub reacts : react base body message ≡ Takes (record body { calls = (hear base body.calls item.id (head_of_apdu item.apdu)).calls }) [] (hear base body.calls item.id (head_of_apdu item.apdu)).shown

module _ (free : Free) (tables : Tables) (spellings : Spellings) (a b : Config) where
  abbrev common : Common
  common = bare_common tables spellings a b

  reaction : (role : Role) (body : Body) (item : Item) (heard : Heard) → body.link.phase ≡ Up → hear (base_at role common) body.calls item.id (head_of_apdu item.apdu) ≡ heard → heard.reject ≡ None
      → react (base_at role common) body (Session (data_word item)) ≡ Takes (record body { calls = heard.calls }) [] heard.shown
  reaction role body item heard up is none =
      let base : Base = base_at role common in
      let from : Taken → Reaction = λ k. let all = then_taken k (record { body = k.body; answers = []; shown = [] }) in Takes all.body all.answers all.shown in
      ap (λ p. if passes_over p then Passes else from (on_heard base body item.id (hear base body.calls item.id (head_of_apdu item.apdu)))) up
      ∙ ap (λ (h : Heard). from (on_heard base body item.id h)) is
      ∙ ap (λ (r : Option Rejecting). from (on_heard base body item.id (record heard { reject = r }))) none
      ∙ ap (λ (xs : List Indication). Takes (record body { calls = heard.calls }) [] xs) (append-nil (heard.shown ++ []) ∙ append-nil heard.shown)

  pub calmly : (role : Role) (two : Two) (message : Message) (left : List Message) → ModelOf free common two → coming_to role two ≡ message ∷ left → (body_at role two).link.phase ≡ Up → Calmly (base_at role common) (body_at role two) message
  calmly role two message left m comes up =
      let setup : model.ModelSetup = setup_of free common in
      let base : Base = base_at role common in
      let body : Body = body_at role two in
      let s = at_side free common role two m in
      let world : World = s.world in
      let coming : AreComing (base_at Initiator common) (message ∷ left) (flight_to setup role world) = subst (λ (ms : List Message). AreComing (base_at Initiator common) ms (flight_to setup role world)) comes s.side.flight in
      let n = next_of (base_at Initiator common) message left (flight_to setup role world) coming in
      let item : Item = n.ours.item in
      let value : model.Value = item_seen base item in
      let now : state_of setup role world ≡ seen base body = s.side.state in
      let next : ComesNext (Data value) (flight_to setup role world) = subst (ComesNext (Data value)) (sym n.is_it) n.ours.is_its in
      let still : body.link.awaits ≡ NoAnswer = s.side.sound.calm in
      let kept : model_purged role (state_of setup role world).awaits (Data value) ≡ false = ap (λ (x : states.State). model_purged role x.awaits (Data value)) now ∙ ap (λ w. model_purged role (awaited_seen w) (Data value)) still in
      let run : IsRun setup (By role (model_takes (Data value) Nothing) ∷ world) = (record { comes = next; is_alive = alive base body (state_of setup role world) now up; is_kept = kept; is_choice = tt }, s.run) in
      let accepted : is_accepted setup (calls_seen body.calls) (apdu_seen base item.apdu) ≡ true = ap (λ (x : states.State). is_accepted setup x.calls (apdu_seen base item.apdu)) (sym now) ∙ accepts-all setup world role value Nothing run in
      let heard : Heard = hear base body.calls item.id (head_of_apdu item.apdu) in
      let h = hears free Bare base body.calls item.id item.apdu s.side.sound.numbered n.ours.is_proper n.ours.is_read_back (expected setup world role value (seen base body) run now) in
      let nothing : rejects_seen base item.id heard.reject ≡ [] = h.rejects_are ∙ ap (λ t. if t then [] else reject_of setup (calls_seen body.calls) item.id (apdu_seen base item.apdu)) accepted in
      let quiet : heard.reject ≡ None = none_due base item.id heard.reject nothing in
      record {
        item = item;
        is_its = n.ours.is_data;
        quiet = quiet;
        reacts = ap (react base body) n.ours.is_data ∙ reaction role body item heard up refl quiet;
      }

-- ---- what is shown of what is heard without a problem

value_back : (v : Option Val) → value_in (carried_in v) ≡ v
value_back None = refl
value_back (Some v) = refl

returned_back : (r : Option Returned) → value_in (value_returned r) ≡ value_of r
returned_back None = refl
returned_back (Some r) = refl

quiet_invoke : (base : Base) (calls : Calls) (context : ℕ) (id : ℤ) (linked : Option ℤ) (argument : Option Val) (p place : Option ℕ) → (unless_problem p (rejected calls (Some id) problems.Invoke) (invoked base calls context id linked place (carried_in argument))).reject ≡ None
    → (unless_problem p (rejected calls (Some id) problems.Invoke) (invoked base calls context id linked place (carried_in argument))).shown ≡ shown_invoke place id linked argument
quiet_invoke base calls context id linked argument (Some n) place h = absurd cc
quiet_invoke base calls context id linked argument None None h = absurd cc
quiet_invoke base calls context id linked argument None (Some place) h = ap (λ (v : Option Val). indications.Invoked id place linked v ∷ []) (value_back argument)

quiet_result : (calls : Calls) (id : ℤ) (returned : Option Returned) (p : Option ℕ) → (unless_problem p (rejected calls (Some id) problems.Result) (showing calls (indications.Result id (value_in (value_returned returned))))).reject ≡ None
    → (unless_problem p (rejected calls (Some id) problems.Result) (showing calls (indications.Result id (value_in (value_returned returned))))).shown ≡ indications.Result id (value_of returned) ∷ []
quiet_result calls id returned (Some n) h = absurd cc
quiet_result calls id returned None h = ap (λ (v : Option Val). indications.Result id v ∷ []) (returned_back returned)

quiet_error : (calls : Calls) (id : ℤ) (parameter : Option Val) (p place : Option ℕ) → (unless_problem p (rejected calls (Some id) problems.Error) (showing_error calls id place (carried_in parameter))).reject ≡ None
    → (unless_problem p (rejected calls (Some id) problems.Error) (showing_error calls id place (carried_in parameter))).shown ≡ shown_error place id parameter
quiet_error calls id parameter (Some n) place h = absurd cc
quiet_error calls id parameter None None h = absurd cc
quiet_error calls id parameter None (Some place) h = ap (λ (v : Option Val). indications.Error id place v ∷ []) (value_back parameter)

result_of_open : (base : Base) (calls : Calls) (id : ℤ) (o : Option OpenCall) (returned : Option Returned) → (hear_result_of base calls id o (code_returned returned) (value_returned returned)).reject ≡ None → (hear_result_of base calls id o (code_returned returned) (value_returned returned)).shown ≡ indications.Result id (value_of returned) ∷ []
result_of_open base calls id None returned h = absurd cc
result_of_open base calls id (Some o) returned h = quiet_result (close true id calls) id returned (result_problem base o.operation (operation_at base.tables o.operation) (code_returned returned) (value_returned returned)) h

error_of_open : (base : Base) (calls : Calls) (id : ℤ) (o : Option OpenCall) (place : Option ℕ) (parameter : Option Val) → (hear_error_of base calls id o place (carried_in parameter)).reject ≡ None → (hear_error_of base calls id o place (carried_in parameter)).shown ≡ shown_error place id parameter
error_of_open base calls id None place parameter h = absurd cc
error_of_open base calls id (Some o) place parameter h = quiet_error (close true id calls) id parameter (error_problem base (operation_at base.tables o.operation) place (carried_in parameter)) place h

pub quiet_shows : (base : Base) (calls : Calls) (context : ℕ) (apdu : Apdu) → ((id : Option ℤ) (problem : Problem) → apdu ≡ apdus.Reject id problem → ⊥) → (hear base calls context (head_of_apdu apdu)).reject ≡ None → (hear base calls context (head_of_apdu apdu)).shown ≡ shown_of base.tables apdu
quiet_shows base calls context (apdus.Invoke id linked code argument) n h = quiet_invoke base calls context id linked argument (invoke_problem base calls id linked (operation_with base.tables code) (carried_in argument)) (operation_with base.tables code) h
quiet_shows base calls context (apdus.Result id returned) n h = result_of_open base calls id (opened_with true id calls.opens) returned h
quiet_shows base calls context (apdus.Error id code parameter) n h = error_of_open base calls id (opened_with true id calls.opens) (error_with base.tables code) parameter h
quiet_shows base calls context (apdus.Reject id problem) n h = absurd (n id problem refl)
