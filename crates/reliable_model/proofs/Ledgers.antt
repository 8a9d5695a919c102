-- Two ends of reliable mode beside the model, with what they share and their ledger: each step of the model keeps it.
use Rattle.std.proofs.Common.{◌≡◌, refl, true, false, ◌∙◌, sym, ap, subst, ℕ, zero, suc, List, [], ◌∷◌, ◌++◌, map}
use Rattle.std.specs.Prelude.{Bool, if◌then◌else◌}
use Rattle.std.proofs.lemmas.List.{map-append}
use Rattle.osi_base.specs.declared.layer_words.Proposal.{Proposal}
use Rattle.osi_base.specs.declared.layer_words.SetItem.{SetItem}
use Rattle.end_model.specs.end_rules.Encodings.{Encoding}
use Rattle.end_model.specs.dialogue.declared.config.Mode.TheVariants.{Reliable}
use Rattle.end_model.specs.dialogue.declared.config.Config.{Config}
use Rattle.stub_tables.specs.declared.tables.Tables.{Tables}
use Rattle.end_model.specs.end_rules.Base.{Base, Spellings}
use Rattle.end_model.specs.end_rules.Sets.{Saved, below, newest}
use Rattle.end_model.specs.end_rules.Messages.{Message, TransportUnit, Word, Transport, Session, OfAssociation, OfData, OfMarks}
use Rattle.end_model.specs.end_rules.Messages.{OfActivities, Connect, Accept, Refuse, Finish, Disconnect, Abort, AbortAccept, Values}
use Rattle.end_model.specs.end_rules.Messages.{AlterContext, AlterContextAck, Mark, MarkAck, Restart, RestartAck, Give, Please}
use Rattle.end_model.specs.end_rules.Messages.{GiveConfirm, GiveAck, Start, Resume, End, EndAck, Interrupt, InterruptAck, Discard, DiscardAck}
use Rattle.end_model.specs.end_rules.Connecting.{is_refused, recovers_in}
use Rattle.end_model.specs.end_rules.World.{Shared, saved_of, saving, shared_sent}
use Rattle.end_model.specs.end_rules.State.{Body, Queued}
use Rattle.end_model.specs.end_rules.Writing.{proposals}
use Rattle.end_model.specs.end_rules.Reacting.{after_word, answers_to_word}
use Rattle.end_model.specs.end_rules.History.{after_broke}
use Rattle.agreement.specs.Sets as model_sets
use Rattle.agreement.specs.Sets.{Role, other}
use Rattle.agreement.specs.Sets.Role.{Initiator, Responder}
use Rattle.agreement.specs.Messages as model
use Rattle.agreement.specs.Messages.Mode.{Reliable as model_reliable}
use Rattle.agreement.specs.Messages.Message.{Connect as model_connect, Recover as model_recover}
use Rattle.agreement.specs.State as states
use Rattle.agreement.specs.Acts.{sent_by}
use Rattle.agreement.specs.Worlds as worlds
use Rattle.agreement.specs.Worlds.{World, Step, state_of, shared_at}
use Rattle.agreement.specs.Worlds.Step.{Acts, Takes, Passes}
use Rattle.agreement.specs.Worlds.Moment.{By, Break}
use Rattle.agreement.specs.Laws as laws
use Rattle.end_model.specs.Seen.{Free, set_seen, saved_seen, queued_seen, seen}
use Rattle.end_model.specs.Rows.{at}
use Rattle.end_model.specs.Words.{Means, AreMeant}
use Rattle.end_model.specs.Acting.{ActsAs}
use Rattle.end_model.specs.BothEnds.{Common, base_at, setup_of}
use Rattle.end_model.specs.Steps.{RunWithBoth, TookIt, PassedIt, BreaksSo}
use Rattle.end_model.specs.Sharing.{side_of, shared_all_sent}
use Rattle.end_model.proofs.BareMachine.{same-if}
use Rattle.end_model.proofs.Restarts.{below-seen, newest-seen}
use Rattle.end_model.proofs.Machine.{acts-kept, breaks-kept, unseen-kept, units-kept}
use Rattle.reliable_model.specs.Codecs.{IsTransferable}
use Rattle.reliable_model.specs.Transferring.{AreTransferable}
use Rattle.reliable_model.proofs.Transferring.{queue-append}
use Rattle.reliable_model.specs.Ledgers.{items_anew, TransferLog, TransferLogs, Ledger, transfer_log_of, on_transfer_log, longer_transfer_log, after_acting}
use Rattle.reliable_model.specs.Ledgers.{transfer_log_taken, items_by, arrived_by, after_sending, after_taking}
use Rattle.reliable_model.specs.OwnRows.{encoding_seen}
use Rattle.reliable_model.specs.ReliableEnds.{reliable_common}

-- ---- what is shared, as the model sees it

pub record Same (shared : Shared) (theirs : worlds.Shared) : Type 0 where
  pub set : set_seen shared.set ≡ theirs.set
  pub inter : set_seen shared.inter ≡ theirs.inter
  pub saved : saved_seen shared.saved ≡ theirs.saved
  pub of_a : saved_seen shared.of_a ≡ theirs.of_initiator
  pub of_b : saved_seen shared.of_b ≡ theirs.of_responder

saving-same : (role : Role) (marks : List Saved) (their_marks : List model_sets.Saved) (shared : Shared) (theirs : worlds.Shared) → saved_seen marks ≡ their_marks → Same shared theirs → Same (saving (side_of role) marks shared) (worlds.saving role their_marks theirs)
saving-same Initiator marks their_marks shared theirs e s = record { set = s.set; inter = s.inter; saved = s.saved; of_a = e; of_b = s.of_b }
saving-same Responder marks their_marks shared theirs e s = record { set = s.set; inter = s.inter; saved = s.saved; of_a = s.of_a; of_b = e }

saved-same : (role : Role) (shared : Shared) (theirs : worlds.Shared) → Same shared theirs → saved_seen (saved_of (side_of role) shared) ≡ worlds.saved_of role theirs
saved-same Initiator shared theirs s = s.of_a
saved-same Responder shared theirs s = s.of_b

one-saved : (number : ℕ) (set : List SetItem) (their_set : model_sets.ContextSet) (marks : List Saved) (their_marks : List model_sets.Saved) → set_seen set ≡ their_set → saved_seen marks ≡ their_marks → saved_seen (record { number = number; set = set } ∷ marks) ≡ record { number = number; set = their_set } ∷ their_marks
one-saved number set their_set marks their_marks e f =
    let put : model_sets.ContextSet → List model_sets.Saved → List model_sets.Saved = λ s ms. record { number = number; set = s } ∷ ms in
    ap (λ s. put s (saved_seen marks)) e ∙ ap (put their_set) f

kept-inter : (shared : Shared) (theirs : worlds.Shared) → Same shared theirs → Same (record shared { inter = shared.set }) (record theirs { inter = theirs.set })
kept-inter shared theirs s = record { set = s.set; inter = s.set; saved = s.saved; of_a = s.of_a; of_b = s.of_b }

resumed-same : (role : Role) (mark : ℕ) (shared : Shared) (theirs : worlds.Shared) → Same shared theirs → Same (shared_sent Reliable (side_of role) (Session (OfActivities (Resume 0 mark))) shared) (worlds.shared_resumed role mark theirs)
resumed-same role zero shared theirs s = saving-same role [] [] (record shared { inter = shared.set }) (record theirs { inter = theirs.set }) refl (kept-inter shared theirs s)
resumed-same role (suc n) shared theirs s =
    let marks : saved_seen (below (suc (suc n)) (saved_of (side_of role) shared)) ≡ model_sets.below (suc (suc n)) (worlds.saved_of role theirs) =
    below-seen (suc (suc n)) (saved_of (side_of role) shared) ∙ ap (model_sets.below (suc (suc n))) (saved-same role shared theirs s) in
    let set : set_seen (newest (below (suc (suc n)) (saved_of (side_of role) shared))) ≡ model_sets.newest (model_sets.below (suc (suc n)) (worlds.saved_of role theirs)) =
    newest-seen (below (suc (suc n)) (saved_of (side_of role) shared)) ∙ ap model_sets.newest marks in
    saving-same role (below (suc (suc n)) (saved_of (side_of role) shared)) (model_sets.below (suc (suc n)) (worlds.saved_of role theirs))
    (record shared { inter = shared.set; set = newest (below (suc (suc n)) (saved_of (side_of role) shared)) })
    (record theirs { inter = theirs.set; set = model_sets.newest (model_sets.below (suc (suc n)) (worlds.saved_of role theirs)) }) marks
    (record { set = set; inter = s.set; saved = s.saved; of_a = s.of_a; of_b = s.of_b })

sent-same : (proposed : List Proposal) (base : Base) (role : Role) (word : Word) (message : model.Message) (shared : Shared) (theirs : worlds.Shared) → Means proposed (at Reliable base) word message → Same shared theirs → Same (shared_sent Reliable (side_of role) (Session word) shared) (worlds.shared_sent model_reliable role message theirs)
sent-same proposed base role word message shared theirs means s = go word means
  where
    to : (m : model.Message) (later : Shared) → message ≡ m → Same later (worlds.shared_sent model_reliable role m theirs) → Same later (worlds.shared_sent model_reliable role message theirs)
    to m later e h = subst (λ x. Same later (worlds.shared_sent model_reliable role x theirs)) (sym e) h

    either : (b : Bool) → message ≡ (if b then model_recover else model_connect) → Same shared (worlds.shared_sent model_reliable role message theirs)
    either true m = to _ shared m s
    either false m = to _ shared m s

    go : (word : Word) → Means proposed (at Reliable base) word message → Same (shared_sent Reliable (side_of role) (Session word) shared) (worlds.shared_sent model_reliable role message theirs)
    go (OfAssociation (Connect session presentation values)) m = either (recovers_in (at Reliable base) values) m
    go (OfAssociation (Accept session presentation values)) m = to _ shared m s
    go (OfAssociation (Refuse transport reason presentation values)) m = to _ shared m s
    go (OfAssociation (Finish transport values)) m = to _ shared m s
    go (OfAssociation (Disconnect values)) m = to _ shared m s
    go (OfAssociation (Abort transport user)) m = to _ shared m s
    go (OfAssociation AbortAccept) m = absurd m
    go (OfData (Values values)) m = to _ shared m.is_its s
    go (OfData (AlterContext add delete)) m = to _ shared m s
    go (OfData (AlterContextAck answers)) m = to _ shared m.2 s
    go (OfMarks (Mark number)) m = to _ _ m (saving-same role _ _ shared theirs (one-saved number shared.set theirs.set (saved_of (side_of role) shared) (worlds.saved_of role theirs) s.set (saved-same role shared theirs s)) s)
    go (OfMarks (MarkAck number)) m = to _ shared m s
    go (OfMarks (Restart number list)) m = to _ shared m s
    go (OfMarks (RestartAck number list)) m = to _ shared m s
    go (OfMarks (Give tokens)) m = to _ shared m s
    go (OfMarks (Please tokens values)) m = to _ shared m s
    go (OfMarks GiveConfirm) m = to _ shared m s
    go (OfMarks GiveAck) m = to _ shared m s
    go (OfActivities (Start activity)) m = to _ _ m (saving-same role [] [] (record shared { inter = shared.set }) (record theirs { inter = theirs.set }) refl (kept-inter shared theirs s))
    go (OfActivities (Resume activity mark)) m = to _ _ m (resumed-same role mark shared theirs s)
    go (OfActivities (End number)) m = to _ shared m s
    go (OfActivities (EndAck number)) m = to _ shared m s
    go (OfActivities (Interrupt reason)) m = to _ shared m s
    go (OfActivities InterruptAck) m = to _ shared m s
    go (OfActivities (Discard reason)) m = to _ shared m s
    go (OfActivities DiscardAck) m = to _ shared m s

pub all-same : (proposed : List Proposal) (base : Base) (role : Role) (sent : List Message) (meant : List model.Message) (shared : Shared) (theirs : worlds.Shared) → AreMeant proposed (at Reliable base) sent meant → Same shared theirs → Same (shared_all_sent Reliable (side_of role) sent shared) (worlds.shared_all model_reliable role meant theirs)
all-same proposed base role [] [] shared theirs m s = s
all-same proposed base role [] (x ∷ xs) shared theirs m s = absurd m
all-same proposed base role (Transport unit ∷ sent) meant shared theirs m s = all-same proposed base role sent meant shared theirs m s
all-same proposed base role (Session word ∷ sent) [] shared theirs m s = absurd m
all-same proposed base role (Session word ∷ sent) (x ∷ xs) shared theirs m s =
    all-same proposed base role sent xs (shared_sent Reliable (side_of role) (Session word) shared) (worlds.shared_sent model_reliable role x theirs) m.1 (sent-same proposed base role word x shared theirs m.0 s)

-- ---- transfer logs, as the model sees them

-- ---- what is started and encoded is transferable

abbrev pub AreEncodable : Base → List Encoding → Type 0
AreEncodable base [] = Unit {0}
AreEncodable base (e ∷ es) = IsTransferable base e.apdu × AreEncodable base es

encodings-append : (base : Base) (xs ys : List Encoding) → AreEncodable base xs → AreEncodable base ys → AreEncodable base (xs ++ ys)
encodings-append base [] ys h k = k
encodings-append base (x ∷ xs) ys h k = (h.0, encodings-append base xs ys h.1 k)

anew-kept : (base : Base) (refused recovers : Bool) (items : List Queued) → AreTransferable base items → AreTransferable base (items_anew refused recovers items)
anew-kept base true recovers items h = h
anew-kept base false true items h = h
anew-kept base false false items h = tt

items-kept : (own base : Base) (body : Body) (message : Message) (items : List Queued) → AreTransferable own items → AreTransferable own (items_by base body message items)
items-kept own base body (Session (OfAssociation (Connect session presentation values))) items h = anew-kept own (is_refused base body session presentation values) (recovers_in base values) items h
items-kept own base body message items h = h

module _ (free : Free) (tables : Tables) (spellings : Spellings) (a b : Config) where
  abbrev pub common : Common
  common = reliable_common tables spellings a b

  abbrev pub base : Role → Base
  base role = base_at role common

  abbrev pub proposed : List Proposal
  proposed = proposals (base Initiator)

  abbrev pub setup : model.ModelSetup
  setup = setup_of free common

  pub record LogsAre (role : Role) (transfer_log : TransferLog) (world : World) : Type 0 where
    pub started : map (queued_seen (base Initiator)) transfer_log.started ≡ laws.items_started setup role world
    pub encoded : map (encoding_seen (base Initiator)) transfer_log.encoded ≡ laws.encodings setup role world
    pub arrived : transfer_log.arrived ≡ laws.arrived setup role world
    pub items : AreTransferable (base Initiator) transfer_log.started
    pub encodings : AreEncodable (base Initiator) transfer_log.encoded

  abbrev pub AllLogs : TransferLogs → World → Type 0
  AllLogs transfer_logs world = (r : Role) → LogsAre r (transfer_log_of r transfer_logs) world

  -- a step of one end leaves the transfer log of the other
  left-alone : (world : World) (role : Role) (step : Step) (transfer_logs : TransferLogs) (change : TransferLog → TransferLog) → AllLogs transfer_logs world → LogsAre role (change (transfer_log_of role transfer_logs)) (By role step ∷ world) → AllLogs (on_transfer_log role change transfer_logs) (By role step ∷ world)
  left-alone world Initiator step transfer_logs change h own Initiator = own
  left-alone world Initiator step transfer_logs change h own Responder = let k = h Responder in record { started = k.started; encoded = k.encoded; arrived = k.arrived; items = k.items; encodings = k.encodings }
  left-alone world Responder step transfer_logs change h own Responder = own
  left-alone world Responder step transfer_logs change h own Initiator = let k = h Initiator in record { started = k.started; encoded = k.encoded; arrived = k.arrived; items = k.items; encodings = k.encodings }

  -- both ends beside the model, and their ledger
  pub record Joint (world : World) (role : Role) (body : Body) (coming : List Message) (peer : Body) (to_peer : List Message) (ledger : Ledger) : Type 0 where
    pub ends : RunWithBoth free common proposed world role body coming peer to_peer
    pub same : Same ledger.shared (shared_at setup world)
    pub transfer_logs : AllLogs ledger.transfer_logs world

  -- ---- an act, with what it starts and encodes

  pub record ActLog (role : Role) (body : Body) (set : List SetItem) (act : model.Act) (items : List Queued) (encodings : List Encoding) : Type 0 where
    pub starts : (rest : List states.Handed) → map (queued_seen (base Initiator)) items ++ rest ≡ laws.started_after (seen (base role) body) (Acts act) rest
    pub encodes : map (encoding_seen (base Initiator)) encodings ≡ laws.encoded_by (seen (base role) body) (set_seen set) (Acts act)

  pub acts-joint : (world : World) (role : Role) (body later : Body) (coming : List Message) (peer : Body) (to_peer sent : List Message) (act : model.Act) (items : List Queued) (encodings : List Encoding) (ledger : Ledger) → Joint world role body coming peer to_peer ledger → ActsAs free Reliable (base role) proposed body later sent act → ActLog role body ledger.shared.set act items encodings → AreTransferable (base Initiator) items → AreEncodable (base Initiator) encodings → Joint (By role (Acts act) ∷ world) role later coming peer (to_peer ++ sent) (after_acting common role sent items encodings ledger)
  acts-joint world role body later coming peer to_peer sent act items encodings ledger j x d good coded =
      let meant : AreMeant proposed (base role) sent (sent_by setup (state_of setup role world) act) = subst (λ y. AreMeant proposed (base role) sent (sent_by setup y act)) (sym j.ends.own.state) x.means in
      let old = j.transfer_logs role in
      record {
        ends = acts-kept free common proposed world role body later coming peer to_peer sent act j.ends x;
        same = all-same proposed (base role) role sent (sent_by setup (state_of setup role world) act) ledger.shared (shared_at setup world) meant j.same;
        transfer_logs =
            left-alone world role (Acts act) ledger.transfer_logs (longer_transfer_log items encodings) j.transfer_logs
            (record {
              started =
                  map-append (queued_seen (base Initiator)) items (transfer_log_of role ledger.transfer_logs).started ∙
                  d.starts (map (queued_seen (base Initiator)) (transfer_log_of role ledger.transfer_logs).started) ∙
                  ap (λ xs. laws.started_after (seen (base role) body) (Acts act) xs) old.started ∙
                  ap (λ s. laws.started_after s (Acts act) (laws.items_started setup role world)) (sym j.ends.own.state) ∙
                  sym (same-if role (laws.started_after (state_of setup role world) (Acts act) (laws.items_started setup role world)) (laws.items_started setup role world));
              encoded =
                  map-append (encoding_seen (base Initiator)) encodings (transfer_log_of role ledger.transfer_logs).encoded ∙
                  ap (λ xs. xs ++ map (encoding_seen (base Initiator)) (transfer_log_of role ledger.transfer_logs).encoded) d.encodes ∙
                  ap (λ xs. laws.encoded_by (seen (base role) body) (set_seen ledger.shared.set) (Acts act) ++ xs) old.encoded ∙
                  ap (λ s. laws.encoded_by s (set_seen ledger.shared.set) (Acts act) ++ laws.encodings setup role world) (sym j.ends.own.state) ∙
                  ap (λ s. laws.encoded_by (state_of setup role world) s (Acts act) ++ laws.encodings setup role world) j.same.set ∙
                  sym (same-if role (laws.encoded_by (state_of setup role world) (shared_at setup world).set (Acts act) ++ laws.encodings setup role world) (laws.encodings setup role world));
              arrived = old.arrived ∙ sym (same-if role (laws.arrived_after setup (state_of setup role world) (Acts act) (laws.arrived setup role world)) (laws.arrived setup role world));
              items = queue-append (base Initiator) items (transfer_log_of role ledger.transfer_logs).started good old.items;
              encodings = encodings-append (base Initiator) encodings (transfer_log_of role ledger.transfer_logs).encoded coded old.encodings;
            });
      }

  -- an act that starts and encodes nothing
  no-more : (role : Role) (transfer_logs : TransferLogs) → on_transfer_log role (longer_transfer_log [] []) transfer_logs ≡ transfer_logs
  no-more Initiator transfer_logs = refl
  no-more Responder transfer_logs = refl

  pub quiet-joint : (world : World) (role : Role) (body later : Body) (coming : List Message) (peer : Body) (to_peer sent : List Message) (act : model.Act) (ledger : Ledger) → Joint world role body coming peer to_peer ledger → ActsAs free Reliable (base role) proposed body later sent act → ActLog role body ledger.shared.set act [] [] → Joint (By role (Acts act) ∷ world) role later coming peer (to_peer ++ sent) (after_sending common role sent ledger)
  quiet-joint world role body later coming peer to_peer sent act ledger j x d =
      subst (λ ds. Joint (By role (Acts act) ∷ world) role later coming peer (to_peer ++ sent) (record { shared = shared_all_sent Reliable (side_of role) sent ledger.shared; transfer_logs = ds })) (no-more role ledger.transfer_logs)
      (acts-joint world role body later coming peer to_peer sent act [] [] ledger j x d tt tt)

  -- ---- a taking

  pub record TakeLog (role : Role) (body : Body) (word : Word) (message : model.Message) (choice : model.Choice) : Type 0 where
    pub starts : (items : List Queued) (theirs : List states.Handed) → map (queued_seen (base Initiator)) items ≡ theirs → map (queued_seen (base Initiator)) (items_by (base role) body (Session word) items) ≡ laws.started_after (seen (base role) body) (Takes message choice) theirs
    pub arrives : (arrived : List ℕ) → arrived_by (base role) body (Session word) arrived ≡ laws.arrived_after setup (seen (base role) body) (Takes message choice) arrived

  pub takes-joint : (world : World) (role : Role) (body : Body) (word : Word) (left : List Message) (peer : Body) (to_peer : List Message) (choice : model.Choice) (ledger : Ledger) → Joint world role body (Session word ∷ left) peer to_peer ledger → (t : TookIt free common proposed world role body word left peer to_peer choice) → Same (after_taking common role body (Session word) (answers_to_word (base role) body word) ledger).shared (worlds.shared_answered t.message choice (shared_at setup world)) → TakeLog role body word t.message choice → Joint (By role (Takes t.message choice) ∷ world) role (after_word (base role) body word) left peer (to_peer ++ answers_to_word (base role) body word) (after_taking common role body (Session word) (answers_to_word (base role) body word) ledger)
  takes-joint world role body word left peer to_peer choice ledger j t same d =
      let old = j.transfer_logs role in
      let step : Step = Takes t.message choice in
      record {
        ends = t.ends;
        same = same;
        transfer_logs =
            left-alone world role step ledger.transfer_logs (transfer_log_taken (base role) body (Session word)) j.transfer_logs
            (record {
              started =
                  d.starts (transfer_log_of role ledger.transfer_logs).started (laws.items_started setup role world) old.started ∙
                  ap (λ s. laws.started_after s step (laws.items_started setup role world)) (sym j.ends.own.state) ∙
                  sym (same-if role (laws.started_after (state_of setup role world) step (laws.items_started setup role world)) (laws.items_started setup role world));
              encoded = old.encoded ∙ sym (same-if role (laws.encodings setup role world) (laws.encodings setup role world));
              arrived =
                  d.arrives (transfer_log_of role ledger.transfer_logs).arrived ∙
                  ap (λ xs. laws.arrived_after setup (seen (base role) body) step xs) old.arrived ∙
                  ap (λ s. laws.arrived_after setup s step (laws.arrived setup role world)) (sym j.ends.own.state) ∙
                  sym (same-if role (laws.arrived_after setup (state_of setup role world) step (laws.arrived setup role world)) (laws.arrived setup role world));
              items = items-kept (base Initiator) (base role) body (Session word) (transfer_log_of role ledger.transfer_logs).started old.items;
              encodings = old.encodings;
            });
      }

  -- ---- what leaves the ledger

  passed-log : (world : World) (role : Role) (message : model.Message) (transfer_logs : TransferLogs) → AllLogs transfer_logs world → AllLogs transfer_logs (By role (Passes message) ∷ world)
  passed-log world Initiator message transfer_logs h Initiator = let k = h Initiator in record { started = k.started; encoded = k.encoded; arrived = k.arrived; items = k.items; encodings = k.encodings }
  passed-log world Initiator message transfer_logs h Responder = let k = h Responder in record { started = k.started; encoded = k.encoded; arrived = k.arrived; items = k.items; encodings = k.encodings }
  passed-log world Responder message transfer_logs h Initiator = let k = h Initiator in record { started = k.started; encoded = k.encoded; arrived = k.arrived; items = k.items; encodings = k.encodings }
  passed-log world Responder message transfer_logs h Responder = let k = h Responder in record { started = k.started; encoded = k.encoded; arrived = k.arrived; items = k.items; encodings = k.encodings }

  pub passes-joint : (world : World) (role : Role) (body : Body) (word : Word) (left : List Message) (peer : Body) (to_peer : List Message) (ledger : Ledger) → Joint world role body (Session word ∷ left) peer to_peer ledger → (p : PassedIt free common proposed world role body left peer to_peer) → Joint (By role (Passes p.message) ∷ world) role body left peer to_peer ledger
  passes-joint world role body word left peer to_peer ledger j p =
      record { ends = p.ends; same = j.same; transfer_logs = passed-log world role p.message ledger.transfer_logs j.transfer_logs }

  pub units-joint : (world : World) (role : Role) (body : Body) (unit : TransportUnit) (left : List Message) (peer : Body) (to_peer : List Message) (ledger : Ledger) → Joint world role body (Transport unit ∷ left) peer to_peer ledger → Joint world role body left peer to_peer ledger
  units-joint world role body unit left peer to_peer ledger j =
      record { ends = units-kept free common proposed world role body unit left peer to_peer j.ends; same = j.same; transfer_logs = j.transfer_logs }

  pub unseen-joint : (world : World) (role : Role) (body later : Body) (coming : List Message) (peer : Body) (to_peer sent : List Message) (ledger : Ledger) → Joint world role body coming peer to_peer ledger → seen (base role) later ≡ seen (base role) body → AreMeant proposed (base role) sent [] → Joint world role later coming peer (to_peer ++ sent) ledger
  unseen-joint world role body later coming peer to_peer sent ledger j same units =
      record { ends = unseen-kept free common proposed world role body later coming peer to_peer sent j.ends same units; same = j.same; transfer_logs = j.transfer_logs }

  pub breaks-joint : (world : World) (role : Role) (body : Body) (coming : List Message) (peer : Body) (to_peer : List Message) (ledger : Ledger) → Joint world role body coming peer to_peer ledger → BreaksSo common body → BreaksSo common peer → Joint (Break ∷ world) role (after_broke (base role) body) [] (after_broke (base (other role)) peer) [] ledger
  breaks-joint world role body coming peer to_peer ledger j own others =
      record {
        ends = breaks-kept free common proposed world role body coming peer to_peer j.ends own others;
        same = j.same;
        transfer_logs = λ r. let k = j.transfer_logs r in record { started = k.started; encoded = k.encoded; arrived = k.arrived; items = k.items; encodings = k.encodings };
      }

  -- ---- both sides of it

  pub flip : {world : World} {x y : Body} {f g : List Message} {ledger : Ledger} → Joint world Initiator x f y g ledger → Joint world Responder y g x f ledger
  flip j = record { ends = record { run = j.ends.run; own = j.ends.others; others = j.ends.own }; same = j.same; transfer_logs = j.transfer_logs }

  pub flop : {world : World} {x y : Body} {f g : List Message} {ledger : Ledger} → Joint world Responder y g x f ledger → Joint world Initiator x f y g ledger
  flop j = record { ends = record { run = j.ends.run; own = j.ends.others; others = j.ends.own }; same = j.same; transfer_logs = j.transfer_logs }
