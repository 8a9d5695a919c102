-- Two ends of direct mode beside the model, with the set that they share: each step of the model keeps it.
use Rattle.std.proofs.Common.{◌≡◌, refl, ◌∙◌, sym, ap, subst, ℕ, List, [], ◌∷◌, ◌++◌}
use Rattle.osi_base.specs.declared.layer_words.Proposal.{Proposal}
use Rattle.osi_base.specs.declared.layer_words.SetItem.{SetItem}
use Rattle.dialogue.specs.declared.config.Mode.TheVariants.{Direct}
use Rattle.stub_tables.specs.declared.tables.Tables.{Tables}
use Rattle.dialogue.specs.declared.config.Config.{Config}
use Rattle.end_rules.specs.Base.{Base, Spellings}
use Rattle.end_rules.specs.Messages.{Message, TransportUnit, Word, Transport, Session}
use Rattle.end_rules.specs.Messages.{OfAssociation, OfData, OfMarks, OfActivities, Connect, Accept}
use Rattle.end_rules.specs.Messages.{Refuse, Finish, Disconnect, Abort, AbortAccept, Values}
use Rattle.end_rules.specs.Messages.{AlterContext, AlterContextAck, Mark, MarkAck, Restart}
use Rattle.end_rules.specs.Messages.{RestartAck, Give, Please, GiveConfirm, GiveAck}
use Rattle.end_rules.specs.World.{Shared, shared_sent}
use Rattle.end_rules.specs.State.{Body}
use Rattle.end_rules.specs.Writing.{proposals}
use Rattle.end_rules.specs.Reacting.{after_word, answers_to_word}
use Rattle.end_rules.specs.History.{after_broke}
use Rattle.agreement.specs.Sets as model_sets
use Rattle.agreement.specs.Sets.{Role, ContextSet, other}
use Rattle.agreement.specs.Sets.Role.{Initiator}
use Rattle.agreement.specs.Messages as model
use Rattle.agreement.specs.Messages.Mode.{Direct as model_direct}
use Rattle.agreement.specs.Worlds as worlds
use Rattle.agreement.specs.Worlds.{Sending, World, Step, state_of, sent_in, sendings, shared_at}
use Rattle.agreement.specs.Worlds.{without_first, taken_off, flight_to}
use Rattle.agreement.specs.Worlds.Step.{Acts, Takes, Passes}
use Rattle.agreement.specs.Worlds.Moment.{By, Break}
use Rattle.agreement.specs.Acts.{sent_by}
use Rattle.end_model.specs.Seen.{Free, set_seen, saved_seen, seen}
use Rattle.end_model.specs.Rows.{at}
use Rattle.end_model.specs.Words.{Means, AreMeant}
use Rattle.end_model.specs.Acting.{ActsAs}
use Rattle.end_model.specs.Steps.{AreOnWay, EndOf, RunWithBoth, TookIt, PassedIt, BreaksSo}
use Rattle.end_model.specs.DirectEnds.{direct_common}
use Rattle.end_model.specs.BothEnds.{Common, base_at, setup_of}
use Rattle.end_model.specs.Sharing.{side_of, shared_all_sent, before}
use Rattle.end_model.proofs.BareMachine.{flight-own, flight-other}
use Rattle.end_model.proofs.Machine.{append-nil, acts-kept, breaks-kept, unseen-kept, units-kept}

-- ---- the shared set, as the model sees it

pub record Same (shared : Shared) (theirs : worlds.Shared) : Type 0 where
  pub set : set_seen shared.set ≡ theirs.set
  pub saved : saved_seen shared.saved ≡ theirs.saved

-- the sets of the messages on their way are those of the model; transport units have none there
abbrev pub SetsOnWay : List Message → List (List SetItem) → List Sending → Type 0
SetsOnWay (Transport unit ∷ messages) (f ∷ fs) flight = SetsOnWay messages fs flight
SetsOnWay (Transport unit ∷ messages) [] flight = ⊥
SetsOnWay [] [] [] = Unit {0}
SetsOnWay [] [] (s ∷ ss) = ⊥
SetsOnWay [] (f ∷ fs) flight = ⊥
SetsOnWay (Session word ∷ messages) [] flight = ⊥
SetsOnWay (Session word ∷ messages) (f ∷ fs) [] = ⊥
SetsOnWay (Session word ∷ messages) (f ∷ fs) (s ∷ ss) = (set_seen f ≡ s.shared) × SetsOnWay messages fs ss

-- ---- what is sent of itself

-- words of direct mode
abbrev pub IsDirect : Word → Type 0
IsDirect (OfActivities word) = ⊥
IsDirect word = Unit {0}

abbrev pub AreDirect : List Message → Type 0
AreDirect [] = Unit {0}
AreDirect (Transport unit ∷ messages) = AreDirect messages
AreDirect (Session word ∷ messages) = IsDirect word × AreDirect messages

abbrev marked : ℕ → ContextSet → List model_sets.Saved → List model_sets.Saved
marked number set marks = record { number = number; set = set } ∷ marks

marked-same : (number : ℕ) (shared : Shared) (theirs : worlds.Shared) → Same shared theirs → Same (record shared { saved = record { number = number; set = shared.set } ∷ shared.saved }) (record theirs { saved = record { number = number; set = theirs.set } ∷ theirs.saved })
marked-same number shared theirs s =
    record {
      set = s.set;
      saved = ap (λ set. marked number set (saved_seen shared.saved)) s.set ∙ ap (marked number theirs.set) s.saved;
    }

sent-same : (proposed : List Proposal) (base : Base) (role : Role) (word : Word) (message : model.Message) (shared : Shared) (theirs : worlds.Shared) → IsDirect word → Means proposed (at Direct base) word message → Same shared theirs → Same (shared_sent Direct (side_of role) (Session word) shared) (worlds.shared_sent model_direct role message theirs)
sent-same proposed base role word message shared theirs direct means s = go word direct means
  where
    to : (m : model.Message) (later : Shared) → message ≡ m → Same later (worlds.shared_sent model_direct role m theirs) → Same later (worlds.shared_sent model_direct role message theirs)
    to m later e h = subst (λ x. Same later (worlds.shared_sent model_direct role x theirs)) (sym e) h

    go : (word : Word) → IsDirect word → Means proposed (at Direct base) word message → Same (shared_sent Direct (side_of role) (Session word) shared) (worlds.shared_sent model_direct role message theirs)
    go (OfAssociation (Connect session presentation values)) d m = to _ shared m s
    go (OfAssociation (Accept session presentation values)) d m = to _ shared m s
    go (OfAssociation (Refuse transport reason presentation values)) d m = to _ shared m s
    go (OfAssociation (Finish transport values)) d m = to _ shared m s
    go (OfAssociation (Disconnect values)) d m = to _ shared m s
    go (OfAssociation (Abort transport user)) d m = to _ shared m s
    go (OfAssociation AbortAccept) d m = absurd m
    go (OfData (Values values)) d m = to _ shared m.is_its s
    go (OfData (AlterContext add delete)) d m = to _ shared m s
    go (OfData (AlterContextAck answers)) d m = to _ shared m.2 s
    go (OfMarks (Mark number)) d m = to _ (record shared { saved = record { number = number; set = shared.set } ∷ shared.saved }) m (marked-same number shared theirs s)
    go (OfMarks (MarkAck number)) d m = to _ shared m s
    go (OfMarks (Restart number list)) d m = to _ shared m s
    go (OfMarks (RestartAck number list)) d m = to _ shared m s
    go (OfMarks (Give tokens)) d m = to _ shared m s
    go (OfMarks (Please tokens values)) d m = to _ shared m s
    go (OfMarks GiveConfirm) d m = to _ shared m s
    go (OfMarks GiveAck) d m = to _ shared m s
    go (OfActivities word) d m = absurd d

pub all-same : (proposed : List Proposal) (base : Base) (role : Role) (sent : List Message) (meant : List model.Message) (shared : Shared) (theirs : worlds.Shared) → AreDirect sent → AreMeant proposed (at Direct base) sent meant → Same shared theirs → Same (shared_all_sent Direct (side_of role) sent shared) (worlds.shared_all model_direct role meant theirs)
all-same proposed base role [] [] shared theirs d m s = s
all-same proposed base role [] (x ∷ xs) shared theirs d m s = absurd m
all-same proposed base role (Transport unit ∷ sent) meant shared theirs d m s = all-same proposed base role sent meant shared theirs d m s
all-same proposed base role (Session word ∷ sent) [] shared theirs d m s = absurd m
all-same proposed base role (Session word ∷ sent) (x ∷ xs) shared theirs d m s =
    all-same proposed base role sent xs (shared_sent Direct (side_of role) (Session word) shared) (worlds.shared_sent model_direct role x theirs) d.1 m.1 (sent-same proposed base role word x shared theirs d.0 m.0 s)

-- ---- the sets of what is on its way

sets-new : (proposed : List Proposal) (base : Base) (shared : Shared) (theirs : ContextSet) (sent : List Message) (meant : List model.Message) → set_seen shared.set ≡ theirs → AreOnWay proposed base sent (sendings theirs meant) → SetsOnWay sent (before shared sent) (sendings theirs meant)
sets-new proposed base shared theirs [] [] e w = tt
sets-new proposed base shared theirs [] (x ∷ xs) e w = absurd w
sets-new proposed base shared theirs (Transport unit ∷ sent) meant e w = sets-new proposed base shared theirs sent meant e w
sets-new proposed base shared theirs (Session word ∷ sent) [] e w = absurd w
sets-new proposed base shared theirs (Session word ∷ sent) (x ∷ xs) e w = (e, sets-new proposed base shared theirs sent xs e w.1)

pub sets-append : (proposed : List Proposal) (base : Base) (shared : Shared) (theirs : ContextSet) (messages : List Message) (fs : List (List SetItem)) (flight : List Sending) (sent : List Message) (meant : List model.Message) → set_seen shared.set ≡ theirs → SetsOnWay messages fs flight → AreOnWay proposed base (messages ++ sent) (flight ++ sendings theirs meant) → SetsOnWay (messages ++ sent) (fs ++ before shared sent) (flight ++ sendings theirs meant)
sets-append proposed base shared theirs (Transport unit ∷ messages) (f ∷ fs) flight sent meant e s w = sets-append proposed base shared theirs messages fs flight sent meant e s w
sets-append proposed base shared theirs (Transport unit ∷ messages) [] flight sent meant e s w = absurd s
sets-append proposed base shared theirs [] [] [] sent meant e s w = sets-new proposed base shared theirs sent meant e w
sets-append proposed base shared theirs [] [] (x ∷ xs) sent meant e s w = absurd s
sets-append proposed base shared theirs [] (f ∷ fs) flight sent meant e s w = absurd s
sets-append proposed base shared theirs (Session word ∷ messages) [] flight sent meant e s w = absurd s
sets-append proposed base shared theirs (Session word ∷ messages) (f ∷ fs) [] sent meant e s w = absurd s
sets-append proposed base shared theirs (Session word ∷ messages) (f ∷ fs) (x ∷ xs) sent meant e s w =
    (s.0, sets-append proposed base shared theirs messages fs xs sent meant e s.1 w.1)

-- transport units that are sent
pub sets-units : (proposed : List Proposal) (base : Base) (shared : Shared) (messages : List Message) (fs : List (List SetItem)) (flight : List Sending) (sent : List Message) → AreMeant proposed base sent [] → SetsOnWay messages fs flight → SetsOnWay (messages ++ sent) (fs ++ before shared sent) flight
sets-units proposed base shared (Transport unit ∷ messages) (f ∷ fs) flight sent m s = sets-units proposed base shared messages fs flight sent m s
sets-units proposed base shared (Transport unit ∷ messages) [] flight sent m s = absurd s
sets-units proposed base shared [] [] [] [] m s = tt
sets-units proposed base shared [] [] [] (Transport unit ∷ sent) m s = sets-units proposed base shared [] [] [] sent m tt
sets-units proposed base shared [] [] [] (Session word ∷ sent) m s = absurd m
sets-units proposed base shared [] [] (x ∷ xs) sent m s = absurd s
sets-units proposed base shared [] (f ∷ fs) flight sent m s = absurd s
sets-units proposed base shared (Session word ∷ messages) [] flight sent m s = absurd s
sets-units proposed base shared (Session word ∷ messages) (f ∷ fs) [] sent m s = absurd s
sets-units proposed base shared (Session word ∷ messages) (f ∷ fs) (x ∷ xs) sent m s = (s.0, sets-units proposed base shared messages fs xs sent m s.1)

-- the first is taken off
pub sets-off : (word : Word) (left : List Message) (f : List SetItem) (rest : List (List SetItem)) (flight : List Sending) → SetsOnWay (Session word ∷ left) (f ∷ rest) flight → SetsOnWay left rest (without_first flight)
sets-off word left f rest [] s = absurd s
sets-off word left f rest (x ∷ xs) s = s.1

module _ (free : Free) (tables : Tables) (spellings : Spellings) (a b : Config) where
  abbrev pub common : Common
  common = direct_common tables spellings a b

  abbrev pub base : Role → Base
  base role = base_at role common

  abbrev pub proposed : List Proposal
  proposed = proposals (base Initiator)

  abbrev pub setup : model.ModelSetup
  setup = setup_of free common

  -- both ends beside the model, and what they share
  pub record Joint (world : World) (role : Role) (body : Body) (coming : List Message) (peer : Body) (to_peer : List Message) (fs gs : List (List SetItem)) (shared : Shared) : Type 0 where
    pub ends : RunWithBoth free common proposed world role body coming peer to_peer
    pub same : Same shared (shared_at setup world)
    pub own_sets : SetsOnWay coming fs (flight_to setup role world)
    pub peer_sets : SetsOnWay to_peer gs (flight_to setup (other role) world)

  -- what is sent joins what is on its way
  pub peer-more : (world : World) (role : Role) (step : Step) (to_peer sent : List Message) (gs : List (List SetItem)) (shared : Shared) (peer : Body) → set_seen shared.set ≡ (shared_at setup world).set → SetsOnWay to_peer gs (flight_to setup (other role) world) → EndOf free common proposed (By role step ∷ world) (other role) peer (to_peer ++ sent) → SetsOnWay (to_peer ++ sent) (gs ++ before shared sent) (flight_to setup (other role) (By role step ∷ world))
  peer-more world role step to_peer sent gs shared peer e s x =
      let f = flight-other setup world role step in
      subst (SetsOnWay (to_peer ++ sent) (gs ++ before shared sent)) (sym f)
      (sets-append proposed (base Initiator) shared (shared_at setup world).set to_peer gs (flight_to setup (other role) world) sent (sent_in setup (state_of setup role world) step) e s (subst (AreOnWay proposed (base Initiator) (to_peer ++ sent)) f x.flight))

  pub acts-joint : (world : World) (role : Role) (body later : Body) (coming : List Message) (peer : Body) (to_peer sent : List Message) (act : model.Act) (fs gs : List (List SetItem)) (shared : Shared) → Joint world role body coming peer to_peer fs gs shared → ActsAs free Direct (base role) proposed body later sent act → AreDirect sent → Joint (By role (Acts act) ∷ world) role later coming peer (to_peer ++ sent) fs (gs ++ before shared sent) (shared_all_sent Direct (side_of role) sent shared)
  acts-joint world role body later coming peer to_peer sent act fs gs shared j x direct =
      let ends = acts-kept free common proposed world role body later coming peer to_peer sent act j.ends x in
      let meant : AreMeant proposed (base role) sent (sent_by setup (state_of setup role world) act) = subst (λ y. AreMeant proposed (base role) sent (sent_by setup y act)) (sym j.ends.own.state) x.means in
      record {
        ends = ends;
        same = all-same proposed (base role) role sent (sent_by setup (state_of setup role world) act) shared (shared_at setup world) direct meant j.same;
        own_sets = subst (SetsOnWay coming fs) (sym (flight-own setup world role (Acts act))) j.own_sets;
        peer_sets = peer-more world role (Acts act) to_peer sent gs shared peer j.same.set j.peer_sets ends.others;
      }

  first-off : (world : World) (role : Role) (step : Step) (word : Word) (left : List Message) (f : List SetItem) (rest : List (List SetItem)) → taken_off step (flight_to setup role world) ≡ without_first (flight_to setup role world) → SetsOnWay (Session word ∷ left) (f ∷ rest) (flight_to setup role world) → SetsOnWay left rest (flight_to setup role (By role step ∷ world))
  first-off world role step word left f rest e s =
      subst (SetsOnWay left rest) (sym (flight-own setup world role step ∙ e)) (sets-off word left f rest (flight_to setup role world) s)

  pub takes-joint : (world : World) (role : Role) (body : Body) (word : Word) (left : List Message) (peer : Body) (to_peer : List Message) (choice : model.Choice) (f : List SetItem) (rest gs : List (List SetItem)) (shared later : Shared) → Joint world role body (Session word ∷ left) peer to_peer (f ∷ rest) gs shared → (t : TookIt free common proposed world role body word left peer to_peer choice) → Same later (worlds.shared_answered t.message choice (shared_at setup world)) → Joint (By role (Takes t.message choice) ∷ world) role (after_word (base role) body word) left peer (to_peer ++ answers_to_word (base role) body word) rest (gs ++ before shared (answers_to_word (base role) body word)) later
  takes-joint world role body word left peer to_peer choice f rest gs shared later j t same =
      record {
        ends = t.ends;
        same = same;
        own_sets = first-off world role (Takes t.message choice) word left f rest refl j.own_sets;
        peer_sets = peer-more world role (Takes t.message choice) to_peer (answers_to_word (base role) body word) gs shared peer j.same.set j.peer_sets t.ends.others;
      }

  pub passes-joint : (world : World) (role : Role) (body : Body) (word : Word) (left : List Message) (peer : Body) (to_peer : List Message) (f : List SetItem) (rest gs : List (List SetItem)) (shared : Shared) → Joint world role body (Session word ∷ left) peer to_peer (f ∷ rest) gs shared → (p : PassedIt free common proposed world role body left peer to_peer) → Joint (By role (Passes p.message) ∷ world) role body left peer to_peer rest gs shared
  passes-joint world role body word left peer to_peer f rest gs shared j p =
      record {
        ends = p.ends;
        same = j.same;
        own_sets = first-off world role (Passes p.message) word left f rest refl j.own_sets;
        peer_sets = subst (SetsOnWay to_peer gs) (sym (flight-other setup world role (Passes p.message) ∙ append-nil (flight_to setup (other role) world))) j.peer_sets;
      }

  pub units-joint : (world : World) (role : Role) (body : Body) (unit : TransportUnit) (left : List Message) (peer : Body) (to_peer : List Message) (f : List SetItem) (rest gs : List (List SetItem)) (shared : Shared) → Joint world role body (Transport unit ∷ left) peer to_peer (f ∷ rest) gs shared → Joint world role body left peer to_peer rest gs shared
  units-joint world role body unit left peer to_peer f rest gs shared j =
      record {
        ends = units-kept free common proposed world role body unit left peer to_peer j.ends;
        same = j.same;
        own_sets = j.own_sets;
        peer_sets = j.peer_sets;
      }

  pub unseen-joint : (world : World) (role : Role) (body later : Body) (coming : List Message) (peer : Body) (to_peer sent : List Message) (fs gs : List (List SetItem)) (shared : Shared) → Joint world role body coming peer to_peer fs gs shared → seen (base role) later ≡ seen (base role) body → AreMeant proposed (base role) sent [] → Joint world role later coming peer (to_peer ++ sent) fs (gs ++ before shared sent) shared
  unseen-joint world role body later coming peer to_peer sent fs gs shared j same units =
      record {
        ends = unseen-kept free common proposed world role body later coming peer to_peer sent j.ends same units;
        same = j.same;
        own_sets = j.own_sets;
        peer_sets = sets-units proposed (base role) shared to_peer gs (flight_to setup (other role) world) sent units j.peer_sets;
      }

  pub breaks-joint : (world : World) (role : Role) (body : Body) (coming : List Message) (peer : Body) (to_peer : List Message) (fs gs : List (List SetItem)) (shared : Shared) → Joint world role body coming peer to_peer fs gs shared → BreaksSo common body → BreaksSo common peer → Joint (Break ∷ world) role (after_broke (base role) body) [] (after_broke (base (other role)) peer) [] [] [] shared
  breaks-joint world role body coming peer to_peer fs gs shared j own others =
      record {
        ends = breaks-kept free common proposed world role body coming peer to_peer j.ends own others;
        same = j.same;
        own_sets = tt;
        peer_sets = tt;
      }
