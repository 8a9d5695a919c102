-- Two ends of direct mode: how an end whose association stands takes what comes next.
use Rattle.std.proofs.Common.{◌≡◌, refl, true, false, ◌∙◌, sym, ap, subst, ℕ, List, [], ◌∷◌, ◌++◌}
use Rattle.std.proofs.Common.{map, ◌⊎◌, inl, inr}
use Rattle.std.specs.Prelude.{Bool, not, ◌||◌, Option, Some, None, if◌then◌else◌, length, nat_eq}
use Rattle.osi_base.specs.declared.layer_words.Proposal.{Proposal}
use Rattle.osi_base.specs.declared.layer_words.Answers.{Answers}
use Rattle.osi_base.specs.declared.layer_words.SetItem.{SetItem}
use Rattle.osi_base.specs.declared.layer_words.Side as sides
use Rattle.stub_tables.specs.declared.tables.Tables.{Tables}
use Rattle.dialogue.specs.declared.config.Config.{Config}
use Rattle.dialogue.specs.declared.config.Mode.TheVariants.{Direct}
use Rattle.dialogue.specs.declared.config.Phase.TheVariants.{Up, Releasing, Over}
use Rattle.dialogue.specs.declared.indication.Indication.{Indication}
use Rattle.end_rules.specs.Base.{Base, Spellings, Item}
use Rattle.end_rules.specs.Messages.{DataValue, Word, OfAssociation, OfData, OfMarks, OfActivities}
use Rattle.end_rules.specs.Messages.{Finish, Disconnect, Abort, Values, AlterContext}
use Rattle.end_rules.specs.Messages.{AlterContextAck, Mark, Restart, RestartAck, Give, Please}
use Rattle.end_rules.specs.Messages.{Message, Transport, Session, unit_of}
use Rattle.end_rules.specs.State.{Body, Link, passes_over, is_joined, is_carrying}
use Rattle.end_rules.specs.Sets.{Alteration, fit_proposals, below, newest}
use Rattle.end_rules.specs.World.{Shared, shared_sent, shared_answered}
use Rattle.end_rules.specs.Policy.{policy}
use Rattle.end_rules.specs.Faults.{transport_fault}
use Rattle.end_rules.specs.Purging.{is_purged}
use Rattle.end_rules.specs.Writing.{proposals}
use Rattle.end_rules.specs.TakesData.{alteration, settled}
use Rattle.end_rules.specs.Reacting.{Passes, Takes, react, react_to_word, fails, on_word}
use Rattle.end_rules.specs.Reacting.{word_fault, after_word, answers_to_word, shown_of_word}
use Rattle.agreement.specs.Sets.{Role, other, is_initiator, Item as ModelItem, Result, AnswersEach}
use Rattle.agreement.specs.Sets.{altered as model_altered, below as model_below}
use Rattle.agreement.specs.Sets.{newest as model_newest}
use Rattle.agreement.specs.Sets.Role.{Initiator, Responder}
use Rattle.agreement.specs.Messages as model
use Rattle.agreement.specs.Messages.Message.{Mark as model_mark, Restart as model_restart}
use Rattle.agreement.specs.Messages.Message.{RestartAnswer as model_restart_answer}
use Rattle.agreement.specs.Messages.Message.{Give as model_give, Please as model_please}
use Rattle.agreement.specs.Messages.Message.{Alter as model_alter}
use Rattle.agreement.specs.Messages.Message.{AlterAnswer as model_alter_answer, Data as model_data}
use Rattle.agreement.specs.Messages.Message.{Release as model_release}
use Rattle.agreement.specs.Messages.Message.{ReleaseAnswer as model_release_answer}
use Rattle.agreement.specs.Messages.Message.{UserAbort as model_abort}
use Rattle.agreement.specs.Messages.Mode.{Direct as model_direct}
use Rattle.agreement.specs.Messages.Choice.{Nothing, Results}
use Rattle.agreement.specs.State as states
use Rattle.agreement.specs.State.Phase.{Up as model_up, Releasing as model_releasing}
use Rattle.agreement.specs.State.Phase.{Over as model_over}
use Rattle.agreement.specs.Acts.{MayAct, acted, sent_by}
use Rattle.agreement.specs.Takings.{MayTake, IsChoice, OnFirst, taken, is_purged as model_purged}
use Rattle.agreement.specs.Worlds as worlds
use Rattle.agreement.specs.Worlds.{Sending, Step, World, IsRun, ComesNext, state_of, sendings}
use Rattle.agreement.specs.Worlds.{shared_at, without_first, flight_to}
use Rattle.agreement.specs.Worlds.Step.{Acts, Takes as model_takes, Passes as model_passes}
use Rattle.agreement.specs.Worlds.Moment.{By}
use Rattle.agreement.proofs.Interface.{acts, takes}
use Rattle.end_model.specs.Seen.{Free, role_seen, phase_seen, awaited_seen, item_seen, items_seen}
use Rattle.end_model.specs.Seen.{saved_seen, seen, setup_seen}
use Rattle.end_model.specs.Rows.{at}
use Rattle.end_model.specs.Meant.{list_meant}
use Rattle.end_model.specs.OpenInvocations.{IsProper, IsReadBack}
use Rattle.end_model.specs.Words.{Means, AreMeant, results_seen, data_word, AreOurs}
use Rattle.end_model.specs.Acting.{IsSoundBody, TakenAs}
use Rattle.end_model.specs.Heard.{MayThen, then_acted, sent_then}
use Rattle.end_model.specs.Takings.{IsJoined, TakenWhere, nothing}
use Rattle.end_model.specs.BothEnds.{Common, base_at, setup_of, WritesAll}
use Rattle.end_model.specs.Steps.{AreOnWay, EndOf}
use Rattle.end_model.specs.DirectEnds.{direct_common}
use Rattle.end_model.specs.Sharing.{side_of, shared_all_sent, shared_all_answered, before}
use Rattle.end_model.proofs.AnswersFit.{fits-too}
use Rattle.end_model.proofs.Fitting.{all-fit, policy-fits, and-left}
use Rattle.end_model.proofs.Altered.{altered-seen}
use Rattle.end_model.proofs.Restarts.{below-seen, newest-seen}
use Rattle.end_model.proofs.TakenRows.{mark-direct, give-direct, please-direct, restart-direct}
use Rattle.end_model.proofs.TakenRows.{restart_ack-direct, alter-direct, answers-taken}
use Rattle.end_model.proofs.TakenRows.{finish-direct, disconnect-direct, abort-direct}
use Rattle.end_model.proofs.HeardRows.{direct-heard}
use Rattle.end_model.proofs.BareMachine.{role-back, state-own, state-other, flight-own}
use Rattle.end_model.proofs.BareMachine.{flight-other}
use Rattle.end_model.proofs.BareTaking.{expected}
use Rattle.end_model.proofs.Machine.{next-word, append-nil, on-way, way-append, takes-kept}
use Rattle.end_model.proofs.Machine.{passes-kept}
use Rattle.end_model.proofs.Joint.{Same, SetsOnWay, AreDirect, all-same, sets-off, Joint, peer-more}
use Rattle.end_model.proofs.Joint.{takes-joint, passes-joint}
use Rattle.end_model.proofs.DirectWords.{OwnWord, OwnValues, AreOwn, ours-own, ours-meant, one-item}
use Rattle.end_model.proofs.DirectWords.{purged-as, Live}

-- ---- what an end does with a word

reacts-alive : (base : Base) (body : Body) (word : Word) → Live body → (if passes_over body.link.phase then Passes else react_to_word base body word) ≡ react_to_word base body word
reacts-alive base body word live = go live.phase
  where
    go : (body.link.phase ≡ Up) ⊎ (body.link.phase ≡ Releasing) → (if passes_over body.link.phase then Passes else react_to_word base body word) ≡ react_to_word base body word
    go (inl e) = ap (λ p. if passes_over p then Passes else react_to_word base body word) e
    go (inr e) = ap (λ p. if passes_over p then Passes else react_to_word base body word) e

reacts-carrying : (base : Base) (body : Body) (word : Word) → Live body → react_to_word base body word ≡ (if is_purged base.initiator body.link.awaits (unit_of word) then Passes else on_word base body word (word_fault base body word))
reacts-carrying base body word live =
    ap (λ s. if not (is_joined s || is_carrying s) then fails body body.link.accepted transport_fault else (if is_purged base.initiator body.link.awaits (unit_of word) then Passes else on_word base body word (word_fault base body word))) live.joined.stage

-- whether the word is passed over, and else what is wrong with it
pub reacts-so : (base : Base) (body : Body) (word : Word) → Live body → react (at Direct base) body (Session word) ≡ (if is_purged base.initiator body.link.awaits (unit_of word) then Passes else on_word (at Direct base) body word (word_fault (at Direct base) body word))
reacts-so base body word live = reacts-alive (at Direct base) body word live ∙ reacts-carrying (at Direct base) body word live

-- ---- the shared set

-- a restart brings back the set of the highest mark below
restarted-same : (number : ℕ) (shared : Shared) (theirs : worlds.Shared) → Same shared theirs → Same (record shared { set = newest (below number shared.saved); saved = below number shared.saved }) (record theirs { set = model_newest (model_below number theirs.saved); saved = model_below number theirs.saved })
restarted-same number shared theirs s =
    let marks : saved_seen (below number shared.saved) ≡ model_below number theirs.saved = below-seen number shared.saved ∙ ap (model_below number) s.saved in
    record { set = newest-seen (below number shared.saved) ∙ ap model_newest marks; saved = marks }

-- data don't change it
data-sent : (side : sides.Side) (base : Base) (sent : List Message) (meant : List model.Message) (shared : Shared) → AreOurs base sent meant → shared_all_sent Direct side sent shared ≡ shared
data-sent side base [] [] shared h = refl
data-sent side base [] (m ∷ ms) shared h = absurd h
data-sent side base (message ∷ sent) [] shared h = absurd h
data-sent side base (message ∷ sent) (m ∷ ms) shared h =
    ap (λ x. shared_all_sent Direct side sent (shared_sent Direct side x shared)) h.0.is_data ∙ data-sent side base sent ms shared h.1

data-answered : (base other_base : Base) (item : Item) (sent : List Message) (meant : List model.Message) (shared : Shared) → AreOurs other_base sent meant → shared_all_answered base (Session (data_word item)) sent shared ≡ shared
data-answered base other_base item [] [] shared h = refl
data-answered base other_base item [] (m ∷ ms) shared h = absurd h
data-answered base other_base item (message ∷ sent) [] shared h = absurd h
data-answered base other_base item (message ∷ sent) (m ∷ ms) shared h =
    ap (λ x. shared_all_answered base (Session (data_word item)) sent (shared_answered base (Session (data_word item)) x shared)) h.0.is_data ∙
    data-answered base other_base item sent ms shared h.1

pub data-direct : (base : Base) (sent : List Message) (meant : List model.Message) → AreOurs base sent meant → AreDirect sent
data-direct base [] [] h = tt
data-direct base [] (m ∷ ms) h = absurd h
data-direct base (message ∷ sent) [] h = absurd h
data-direct base (message ∷ sent) (m ∷ ms) h = subst (λ (x : Message). AreDirect (x ∷ sent)) (sym h.0.is_data) (tt, data-direct base sent ms h.1)

-- nothing more is sent
pub sets-none : (messages : List Message) (fs : List (List SetItem)) (flight : List Sending) → SetsOnWay messages fs flight → SetsOnWay (messages ++ []) (fs ++ []) flight
sets-none messages fs flight s =
    subst (λ xs. SetsOnWay xs (fs ++ []) flight) (sym (append-nil messages)) (subst (λ xs. SetsOnWay messages xs flight) (sym (append-nil fs)) s)

module _ (free : Free) (tables : Tables) (spellings : Spellings) (a b : Config) where
  abbrev pub common : Common
  common = direct_common tables spellings a b

  abbrev pub base : Role → Base
  base role = base_at role common

  abbrev pub proposed : List Proposal
  proposed = proposals (base Initiator)

  abbrev pub setup : model.ModelSetup
  setup = setup_of free common

  abbrev pub AreJoint : World → Role → Body → List Message → Body → List Message → List (List SetItem) → List (List SetItem) → Shared → Type 0
  AreJoint world role body coming peer to_peer fs gs shared = Joint free tables spellings a b world role body coming peer to_peer fs gs shared

  -- the shared set after the answers to a word
  abbrev pub shared_after : Role → Body → Word → Shared → Shared
  shared_after role body word shared = shared_all_answered (base role) (Session word) (answers_to_word (base role) body word) shared

  -- ---- takings other than of data, with what is chosen

  record OwnTaking (role : Role) (body : Body) (word : Word) : Type 0 where
    choice : model.Choice
    chosen : (message : model.Message) → Means proposed (base Initiator) word message → IsChoice setup (seen (base role) body) message choice
    taking : (message : model.Message) → Means proposed (base Initiator) word message → MayTake setup role (seen (base role) body) message → TakenAs free Direct (base role) proposed body word message choice
    shares : (shared : Shared) (theirs : worlds.Shared) (message : model.Message) → Means proposed (base Initiator) word message → Same shared theirs → Same (shared_after role body word shared) (worlds.shared_answered message choice theirs)

  by-role : (role : Role) (body : Body) (message : model.Message) → MayTake setup role (seen (base role) body) message → MayTake (setup_seen free Direct (base role)) (role_seen (is_initiator role)) (seen (base role) body) message
  by-role role body message may = subst (λ r. MayTake setup r (seen (base role) body) message) (sym (role-back role)) may

  plain : (role : Role) (body : Body) (word : Word) (m : model.Message) → ((message : model.Message) → Means proposed (base Initiator) word message → message ≡ m) → IsChoice setup (seen (base role) body) m Nothing → TakenWhere Direct word m nothing → ((shared : Shared) (theirs : worlds.Shared) → Same shared theirs → Same (shared_after role body word shared) (worlds.shared_answered m Nothing theirs)) → IsSoundBody Direct (base role) body → IsJoined Direct body → OwnTaking role body word
  plain role body word m is free_choice row shares sound joined =
      record {
        choice = Nothing;
        chosen = λ message means. subst (λ x. IsChoice setup (seen (base role) body) x Nothing) (sym (is message means)) free_choice;
        taking = λ message means may.
            subst (λ x. TakenAs free Direct (base role) proposed body word x Nothing) (sym (is message means))
            (row free (base role) proposed body sound joined (by-role role body m (subst (λ x. MayTake setup role (seen (base role) body) x) (is message means) may)));
        shares = λ shared theirs message means s. subst (λ x. Same (shared_after role body word shared) (worlds.shared_answered x Nothing theirs)) (sym (is message means)) (shares shared theirs s);
      }

  altering : (role : Role) (body : Body) (add : List Proposal) (delete : List ℕ) → IsSoundBody Direct (base role) body → IsJoined Direct body → OwnTaking role body (OfData (AlterContext add delete))
  altering role body add delete sound joined =
      let x : Alteration = alteration add delete in
      let results : List Result = results_seen x (policy (base role) body x) in
      let all = all-fit x (policy (base role) body x) (policy-fits (base role) body x) in
      record {
        choice = Results results;
        chosen = λ message means. subst (λ m. IsChoice setup (seen (base role) body) m (Results results)) (sym means) (record { fits = all.fits; is_known = all.known });
        taking = λ message means may.
            subst (λ m. TakenAs free Direct (base role) proposed body (OfData (AlterContext add delete)) m (Results results)) (sym means)
            (alter-direct add delete free (base role) proposed body sound joined (by-role role body (model_alter (items_seen x)) (subst (λ m. MayTake setup role (seen (base role) body) m) means may)));
        shares = λ shared theirs message means s.
            subst (λ m. Same (shared_after role body (OfData (AlterContext add delete)) shared) (worlds.shared_answered m (Results results) theirs)) (sym means)
            (record {
              set =
                  altered-seen x (policy (base role) body x) shared.set (and-left (fit_proposals x.add (policy (base role) body x).added) (nat_eq (length x.delete) (length (policy (base role) body x).deleted)) (policy-fits (base role) body x)) ∙
                  ap (model_altered (items_seen x) results) s.set;
              saved = s.saved;
            });
      }

  -- an answer answers the oldest own alteration, which it fits
  first-own : (P : List ModelItem → Type 0) (own : List Alteration) → OnFirst P (map items_seen own) → (x : Alteration) × (rest : List Alteration) × (own ≡ x ∷ rest) × P (items_seen x)
  first-own P [] h = absurd h
  first-own P (x ∷ rest) h = (x, rest, refl, h)

  settling : (role : Role) (body : Body) (answers : Answers) → IsJoined Direct body → OwnTaking role body (OfData (AlterContextAck answers))
  settling role body answers joined =
      record {
        choice = Nothing;
        chosen = λ message means. subst (λ m. IsChoice setup (seen (base role) body) m Nothing) (sym means.2) tt;
        taking = λ message means may.
            let asked : Alteration = means.0 in
            let there : MayTake setup role (seen (base role) body) (model_alter_answer (results_seen asked answers)) = subst (λ m. MayTake setup role (seen (base role) body) m) means.2 may in
            let o = first-own (λ items. AnswersEach items (results_seen asked answers)) body.sets.own there.fits in
            let f = fits-too o.0 asked answers means.1 o.3 in
            let its : MayTake setup role (seen (base role) body) (model_alter_answer (results_seen o.0 answers)) = subst (λ rs. MayTake setup role (seen (base role) body) (model_alter_answer rs)) (sym f.same) there in
            subst (λ m. TakenAs free Direct (base role) proposed body (OfData (AlterContextAck answers)) m Nothing) (ap model_alter_answer f.same ∙ sym means.2)
            (answers-taken.alter_ack Direct o.0 o.1 answers free (base role) proposed body joined o.2 f.fits (by-role role body (model_alter_answer (results_seen o.0 answers)) its));
        shares = λ shared theirs message means s. subst (λ m. Same shared (worlds.shared_answered m Nothing theirs)) (sym means.2) s;
      }

  -- ---- what is left after such a taking

  record AfterOwn (role : Role) (body : Body) (word : Word) : Type 0 where
    taken_so : OwnTaking role body word
    sound : IsSoundBody Direct (base role) (after_word (base role) body word)
    side : Live (after_word (base role) body word) ⊎ ((after_word (base role) body word).link.phase ≡ Over)
    own : AreOwn (base Initiator) (answers_to_word (base role) body word)

  abbrev IsNoData : Word → Type 0
  IsNoData (OfData (Values values)) = ⊥
  IsNoData word = Unit {0}

  settled-sound : (role : Role) (body : Body) (own : List Alteration) (answers : Answers) → IsSoundBody Direct (base role) body → IsSoundBody Direct (base role) (settled own answers body)
  settled-sound role body [] answers sound = sound
  settled-sound role body (x ∷ own) answers sound = record { numbered = sound.numbered; calm = tt; sets = tt; queues = sound.queues }

  settled-live : (body : Body) (own : List Alteration) (answers : Answers) → Live body → Live (settled own answers body)
  settled-live body [] answers live = live
  settled-live body (x ∷ own) answers live =
      record { joined = record { stage = live.joined.stage; selected = live.joined.selected; manages = live.joined.manages }; phase = live.phase }

  abbrev pub same_live : (body later : Body) → Live body → later.link.stage ≡ body.link.stage → later.link.selected ≡ body.link.selected → later.link.manages ≡ body.link.manages → later.link.phase ≡ body.link.phase → Live later
  same_live body later live s t m p =
      record {
        joined = record { stage = s ∙ live.joined.stage; selected = t ∙ live.joined.selected; manages = m ∙ live.joined.manages };
        phase = go live.phase;
      }
    where
      go : (body.link.phase ≡ Up) ⊎ (body.link.phase ≡ Releasing) → (later.link.phase ≡ Up) ⊎ (later.link.phase ≡ Releasing)
      go (inl e) = inl (p ∙ e)
      go (inr e) = inr (p ∙ e)

  after-own : (role : Role) (body : Body) (word : Word) → IsSoundBody Direct (base role) body → Live body → OwnWord (base Initiator) word → IsNoData word → AfterOwn role body word
  after-own role body (OfData (Values values)) sound live own nd = absurd nd
  after-own role body (OfData (AlterContext add delete)) sound live own nd =
      record {
        taken_so = altering role body add delete sound live.joined;
        sound = record { numbered = sound.numbered; calm = tt; sets = tt; queues = sound.queues };
        side = inl (same_live body (after_word (base role) body (OfData (AlterContext add delete))) live refl refl refl refl);
        own = (tt, tt);
      }
  after-own role body (OfData (AlterContextAck answers)) sound live own nd =
      record {
        taken_so = settling role body answers live.joined;
        sound = settled-sound role body body.sets.own answers sound;
        side = inl (settled-live body body.sets.own answers live);
        own = tt;
      }
  after-own role body (OfMarks (Mark number)) sound live own nd =
      record {
        taken_so = plain role body (OfMarks (Mark number)) (model_mark number) (λ message means. means) tt (mark-direct number) (λ shared theirs s. s) sound live.joined;
        sound = record { numbered = sound.numbered; calm = tt; sets = tt; queues = sound.queues };
        side = inl (same_live body (after_word (base role) body (OfMarks (Mark number))) live refl refl refl refl);
        own = tt;
      }
  after-own role body (OfMarks (Restart number list)) sound live own nd =
      record {
        taken_so = plain role body (OfMarks (Restart number list)) (model_restart number (list_meant list)) (λ message means. means) tt (restart-direct number list) (λ shared theirs s. restarted-same number shared theirs s) sound live.joined;
        sound = record { numbered = tt; calm = tt; sets = tt; queues = sound.queues };
        side = inl (same_live body (after_word (base role) body (OfMarks (Restart number list))) live refl refl refl refl);
        own = (tt, tt);
      }
  after-own role body (OfMarks (RestartAck number list)) sound live own nd =
      record {
        taken_so = plain role body (OfMarks (RestartAck number list)) (model_restart_answer number (list_meant list)) (λ message means. means) tt (restart_ack-direct number list) (λ shared theirs s. s) sound live.joined;
        sound = record { numbered = tt; calm = tt; sets = tt; queues = sound.queues };
        side = inl (same_live body (after_word (base role) body (OfMarks (RestartAck number list))) live refl refl refl refl);
        own = tt;
      }
  after-own role body (OfMarks (Give (Some tokens))) sound live own nd =
      record {
        taken_so = plain role body (OfMarks (Give (Some tokens))) model_give (λ message means. means) tt (give-direct tokens) (λ shared theirs s. s) sound live.joined;
        sound = record { numbered = sound.numbered; calm = tt; sets = tt; queues = sound.queues };
        side = inl (same_live body (after_word (base role) body (OfMarks (Give (Some tokens)))) live refl refl refl refl);
        own = tt;
      }
  after-own role body (OfMarks (Please (Some tokens) [])) sound live own nd =
      record {
        taken_so = plain role body (OfMarks (Please (Some tokens) [])) (model_please 0) (λ message means. means) tt (please-direct tokens) (λ shared theirs s. s) sound live.joined;
        sound = sound;
        side = inl live;
        own = tt;
      }
  after-own role body (OfAssociation (Finish transport values)) sound live own nd =
      record {
        taken_so = plain role body (OfAssociation (Finish transport values)) model_release (λ message means. means) tt (finish-direct transport values own) (λ shared theirs s. s) sound live.joined;
        sound = record { numbered = tt; calm = tt; sets = tt; queues = sound.queues };
        side = inr refl;
        own = (refl, tt);
      }
  after-own role body (OfAssociation (Disconnect values)) sound live own nd =
      record {
        taken_so = plain role body (OfAssociation (Disconnect values)) model_release_answer (λ message means. means) tt (disconnect-direct values own) (λ shared theirs s. s) sound live.joined;
        sound = record { numbered = tt; calm = tt; sets = tt; queues = sound.queues };
        side = inr refl;
        own = tt;
      }
  after-own role body (OfAssociation (Abort transport user)) sound live own nd =
      record {
        taken_so = plain role body (OfAssociation (Abort transport user)) model_abort (λ message means. means) tt (abort-direct transport user) (λ shared theirs s. s) sound live.joined;
        sound = record { numbered = tt; calm = tt; sets = tt; queues = sound.queues };
        side = inr refl;
        own = tt;
      }
  after-own role body word sound live own nd = absurd own

  -- ---- of data: the taking, and the reject that follows

  pub alive : (role : Role) (body : Body) → Live body → (seen (base role) body).phase ≡ model_over → ⊥
  alive role body live e = go live.phase
    where
      no_up : model_up ≡ model_over → ⊥
      no_up h = cc

      no_releasing : model_releasing ≡ model_over → ⊥
      no_releasing h = cc

      go : (body.link.phase ≡ Up) ⊎ (body.link.phase ≡ Releasing) → ⊥
      go (inl p) = no_up (sym (ap (phase_seen body.link.stage) p) ∙ e)
      go (inr p) = no_releasing (sym (ap (phase_seen body.link.stage) p) ∙ e)

  pub kept-as : (role : Role) (body : Body) (word : Word) (message : model.Message) → OwnWord (base Initiator) word → Means proposed (base Initiator) word message → is_purged (is_initiator role) body.link.awaits (unit_of word) ≡ model_purged role (seen (base role) body).awaits message
  kept-as role body word message own means =
      purged-as (base Initiator) proposed word message own means (is_initiator role) body.link.awaits ∙
      ap (λ r. model_purged r (awaited_seen body.link.awaits) message) (role-back role)

  -- the model's taking, before the reject that it brings
  record Half (world : World) (role : Role) (state : states.State) (left : List Message) (peer : Body) (to_peer : List Message) (rest gs : List (List SetItem)) (shared : Shared) : Type 0 where
    run : IsRun setup world
    now : state_of setup role world ≡ state
    flight : AreOnWay proposed (base Initiator) left (flight_to setup role world)
    others : EndOf free common proposed world (other role) peer to_peer
    same : Same shared (shared_at setup world)
    own_sets : SetsOnWay left rest (flight_to setup role world)
    peer_sets : SetsOnWay to_peer gs (flight_to setup (other role) world)

  then-acts : (world : World) (role : Role) (state : states.State) (later : Body) (left : List Message) (peer : Body) (to_peer sent : List Message) (act : Option model.Act) (rest gs : List (List SetItem)) (shared : Shared) → Half world role state left peer to_peer rest gs shared → MayThen setup role state act → seen (base role) later ≡ then_acted setup state act → AreOurs (base role) sent (sent_then setup state act) → (world' : World) × AreJoint world' role later left peer (to_peer ++ sent) rest (gs ++ before shared sent) shared
  then-acts world role state later left peer to_peer [] None rest gs shared h may is ours = (
    world,
    record {
      ends = record { run = h.run; own = record { state = h.now ∙ sym is; flight = h.flight }; others = rw append-nil h.others };
      same = h.same;
      own_sets = h.own_sets;
      peer_sets = sets-none to_peer gs (flight_to setup (other role) world) h.peer_sets;
    },
  )
  then-acts world role state later left peer to_peer (m ∷ sent) None rest gs shared h may is ours = absurd ours
  then-acts world role state later left peer to_peer sent (Some act) rest gs shared h may is ours =
      let meant : AreMeant proposed (base role) sent (sent_by setup (state_of setup role world) act) = subst (λ x. AreMeant proposed (base role) sent (sent_by setup x act)) (sym h.now) (ours-meant proposed (base role) sent (sent_by setup state act) ours) in
      let others : EndOf free common proposed (By role (Acts act) ∷ world) (other role) peer (to_peer ++ sent) = record {
        state = state-other setup world role (Acts act) ∙ h.others.state;
        flight = subst (AreOnWay proposed (base Initiator) (to_peer ++ sent)) (sym (flight-other setup world role (Acts act)))
            (way-append proposed (base Initiator) to_peer sent (flight_to setup (other role) world) (sendings (shared_at setup world).set (sent_by setup (state_of setup role world) act)) h.others.flight
            (on-way common proposed role (shared_at setup world).set sent (sent_by setup (state_of setup role world) act) meant));
      } in (
        By role (Acts act) ∷ world,
        record {
          ends = record {
            run = acts setup world role act h.run (subst (λ x. MayAct setup role x act) (sym h.now) may);
            own =
                record {
                  state = state-own setup world role (Acts act) ∙ ap (λ x. acted setup x act) h.now ∙ sym is;
                  flight = subst (AreOnWay proposed (base Initiator) left) (sym (flight-own setup world role (Acts act))) h.flight;
                };
            others = others;
          };
          same =
              subst (λ x. Same x (worlds.shared_all model_direct role (sent_by setup (state_of setup role world) act) (shared_at setup world))) (data-sent (side_of role) (base role) sent (sent_by setup state act) shared ours)
              (all-same proposed (base role) role sent (sent_by setup (state_of setup role world) act) shared (shared_at setup world) (data-direct (base role) sent (sent_by setup state act) ours) meant h.same);
          own_sets = subst (SetsOnWay left rest) (sym (flight-own setup world role (Acts act))) h.own_sets;
          peer_sets = peer-more free tables spellings a b world role (Acts act) to_peer sent gs shared peer h.same.set h.peer_sets others;
        },
      )

  pub own-for : (role : Role) (messages : List Message) → AreOwn (base role) messages → AreOwn (base Initiator) messages
  own-for Initiator messages h = h
  own-for Responder messages h = go messages h
    where
      word-for : (word : Word) → OwnWord (base Responder) word → OwnWord (base Initiator) word
      word-for (OfData (Values values)) h = record { item = h.item; is_one = h.is_one; is_proper = h.is_proper; is_read_back = h.is_read_back }
      word-for (OfData (AlterContext add delete)) h = h
      word-for (OfData (AlterContextAck answers)) h = h
      word-for (OfMarks word) h = h
      word-for (OfAssociation word) h = h
      word-for (OfActivities word) h = h

      go : (messages : List Message) → AreOwn (base Responder) messages → AreOwn (base Initiator) messages
      go [] h = tt
      go (Transport unit ∷ messages) h = h
      go (Session word ∷ messages) h = (word-for word h.0, go messages h.1)

  -- ---- the whole

  pub data Reacted (role : Role) (body : Body) (word : Word) (left : List Message) (peer : Body) (to_peer : List Message) (rest gs : List (List SetItem)) (shared : Shared) : Type 0 where
    Passed : (world : World) → react (base role) body (Session word) ≡ Passes → AreJoint world role body left peer to_peer rest gs shared → Reacted role body word left peer to_peer rest gs shared
    Took : (world : World) (later : Body) (answers : List Message) (shown : List Indication) → react (base role) body (Session word) ≡ Takes later answers shown
        → AreJoint world role later left peer (to_peer ++ answers) rest (gs ++ before shared answers) (shared_all_answered (base role) (Session word) answers shared)
        → IsSoundBody Direct (base role) later → Live later ⊎ (later.link.phase ≡ Over) → AreOwn (base Initiator) answers
        → Reacted role body word left peer to_peer rest gs shared

  heard-so : (world : World) (role : Role) (body : Body) (item : Item) (first : Sending) (others : List Sending) (left : List Message) (peer : Body) (to_peer : List Message) (rest gs : List (List SetItem)) (shared : Shared) → WritesAll free → IsRun setup world → state_of setup role world ≡ seen (base role) body → flight_to setup role world ≡ first ∷ others → first.message ≡ model_data (item_seen (base role) item) → AreOnWay proposed (base Initiator) left others → EndOf free common proposed world (other role) peer to_peer → Same shared (shared_at setup world) → SetsOnWay left rest (without_first (flight_to setup role world)) → SetsOnWay to_peer gs (flight_to setup (other role) world) → IsSoundBody Direct (base role) body → Live body → IsProper (base role) item.apdu → IsReadBack (base role) item.apdu → is_purged (is_initiator role) body.link.awaits (unit_of (data_word item)) ≡ false → model_purged role (seen (base role) body).awaits (model_data (item_seen (base role) item)) ≡ false → Reacted role body (data_word item) left peer to_peer rest gs shared
  heard-so world role body item first others left peer to_peer rest gs shared writes run now is_it meant later peers same own_sets peer_sets sound live proper back here kept =
      let value : model.Value = item_seen (base role) item in
      let step : Step = model_takes (model_data value) Nothing in
      let next : ComesNext (model_data value) (flight_to setup role world) = subst (ComesNext (model_data value)) (sym is_it) meant in
      let alive_now : (state_of setup role world).phase ≡ model_over → ⊥ = λ e. alive role body live (sym (ap (λ (x : states.State). x.phase) now) ∙ e) in
      let kept_now : model_purged role (state_of setup role world).awaits (model_data value) ≡ false = ap (λ (x : states.State). model_purged role x.awaits (model_data value)) now ∙ kept in
      let t = takes setup world role (model_data value) Nothing run next alive_now kept_now tt in
      let may : MayTake setup role (seen (base role) body) (model_data value) = subst (λ x. MayTake setup role x (model_data value)) now t.may in
      let h = direct-heard free (base role) body item writes sound proper back (expected setup world role value (seen (base role) body) t.run now) here (by-role role body (model_data value) may) in
      let after_it : states.State = taken setup role (seen (base role) body) (model_data value) Nothing in
      let still : flight_to setup (other role) (By role step ∷ world) ≡ flight_to setup (other role) world = flight-other setup world role step ∙ append-nil (flight_to setup (other role) world) in
      let half : Half (By role step ∷ world) role after_it left peer to_peer rest gs shared = record {
        run = t.run;
        now = state-own setup world role step ∙ ap (λ x. taken setup role x (model_data value) Nothing) now;
        flight = subst (AreOnWay proposed (base Initiator) left) (sym (flight-own setup world role step ∙ ap without_first is_it)) later;
        others = record { state = state-other setup world role step ∙ peers.state; flight = subst (AreOnWay proposed (base Initiator) to_peer) (sym still) peers.flight };
        same = same;
        own_sets = subst (SetsOnWay left rest) (sym (flight-own setup world role step)) own_sets;
        peer_sets = subst (SetsOnWay to_peer gs) (sym still) peer_sets;
      } in
      let word : Word = data_word item in
      let after : Body = after_word (base role) body word in
      let answers : List Message = answers_to_word (base role) body word in
      let end = then-acts (By role step ∷ world) role after_it after left peer to_peer answers h.then_act rest gs shared half (subst (λ r. MayThen setup r after_it h.then_act) (role-back role) h.may) h.after h.means in
      Took end.0 after answers (shown_of_word (base role) body word)
      (reacts-so (base role) body word live ∙
      ap (λ p. if p then Passes else on_word (base role) body word (word_fault (base role) body word)) here ∙
      ap (on_word (base role) body word) h.no_fault)
      (subst (λ x. AreJoint end.0 role after left peer (to_peer ++ answers) rest (gs ++ before shared answers) x) (sym (data-answered (base role) (base role) item answers (sent_then setup after_it h.then_act) shared h.means)) end.1)
      h.sound
      (inl (same_live body after live (ap (λ (l : Link). l.stage) h.link) (ap (λ (l : Link). l.selected) h.link) (ap (λ (l : Link). l.manages) h.link) (ap (λ (l : Link). l.phase) h.link)))
      (own-for role answers (ours-own (base role) answers (sent_then setup after_it h.then_act) h.means))

  plain-so : (world : World) (role : Role) (body : Body) (word : Word) (left : List Message) (peer : Body) (to_peer : List Message) (f : List SetItem) (rest gs : List (List SetItem)) (shared : Shared) → AreJoint world role body (Session word ∷ left) peer to_peer (f ∷ rest) gs shared → Live body → is_purged (is_initiator role) body.link.awaits (unit_of word) ≡ false → OwnWord (base Initiator) word → AfterOwn role body word → Reacted role body word left peer to_peer rest gs shared
  plain-so world role body word left peer to_peer f rest gs shared j live here own x =
      let t = takes-kept free common proposed world role body word left peer to_peer x.taken_so.choice j.ends (alive role body live) (λ message means. sym (kept-as role body word message own means) ∙ here) x.taken_so.chosen x.taken_so.taking in
      Took (By role (model_takes t.message x.taken_so.choice) ∷ world) (after_word (base role) body word) (answers_to_word (base role) body word) (shown_of_word (base role) body word)
      (reacts-so (base role) body word live ∙
      ap (λ p. if p then Passes else on_word (base role) body word (word_fault (base role) body word)) here ∙
      ap (on_word (base role) body word) t.no_fault)
      (takes-joint free tables spellings a b world role body word left peer to_peer x.taken_so.choice f rest gs shared (shared_after role body word shared) j t (x.taken_so.shares shared (shared_at setup world) t.message t.means j.same))
      x.sound x.side x.own

  values-so : (world : World) (role : Role) (body : Body) (values : List DataValue) (left : List Message) (peer : Body) (to_peer : List Message) (f : List SetItem) (rest gs : List (List SetItem)) (shared : Shared) → WritesAll free → AreJoint world role body (Session (OfData (Values values)) ∷ left) peer to_peer (f ∷ rest) gs shared → IsSoundBody Direct (base role) body → Live body → is_purged (is_initiator role) body.link.awaits (unit_of (OfData (Values values))) ≡ false → OwnValues (base Initiator) values → Reacted role body (OfData (Values values)) left peer to_peer rest gs shared
  values-so world role body values left peer to_peer f rest gs shared writes j sound live here own =
      let n = next-word proposed (base Initiator) (OfData (Values values)) left (flight_to setup role world) j.ends.own.flight in
      let item : Item = n.means.item in
      let same : own.item.apdu ≡ item.apdu = one-item own.item item (sym own.is_one ∙ n.means.is_one) in
      subst (λ vs. Reacted role body (OfData (Values vs)) left peer to_peer rest gs shared) (sym n.means.is_one)
      (heard-so world role body item n.first n.rest left peer to_peer rest gs shared writes j.ends.run j.ends.own.state n.is_it n.means.is_its n.later j.ends.others j.same
      (sets-off (OfData (Values values)) left f rest (flight_to setup role world) j.own_sets) j.peer_sets sound live
      (subst (IsProper (base role)) same own.is_proper) (subst (IsReadBack (base role)) same own.is_read_back) here
      (sym (kept-as role body (OfData (Values values)) (model_data (item_seen (base Initiator) item)) own (record { item = item; is_one = n.means.is_one; is_its = refl })) ∙ here))

  pub reacted : (world : World) (role : Role) (body : Body) (word : Word) (left : List Message) (peer : Body) (to_peer : List Message) (f : List SetItem) (rest gs : List (List SetItem)) (shared : Shared) → WritesAll free → AreJoint world role body (Session word ∷ left) peer to_peer (f ∷ rest) gs shared → IsSoundBody Direct (base role) body → Live body → OwnWord (base Initiator) word → Reacted role body word left peer to_peer rest gs shared
  reacted world role body word left peer to_peer f rest gs shared writes j sound live own = go (is_purged (is_initiator role) body.link.awaits (unit_of word)) refl
    where
      kind : (w : Word) → OwnWord (base Initiator) w → AreJoint world role body (Session w ∷ left) peer to_peer (f ∷ rest) gs shared → is_purged (is_initiator role) body.link.awaits (unit_of w) ≡ false → Reacted role body w left peer to_peer rest gs shared
      kind (OfData (Values values)) own j here = values-so world role body values left peer to_peer f rest gs shared writes j sound live here own
      kind w own j here = plain-so world role body w left peer to_peer f rest gs shared j live here own (after-own role body w sound live own tt)

      go : (p : Bool) → is_purged (is_initiator role) body.link.awaits (unit_of word) ≡ p → Reacted role body word left peer to_peer rest gs shared
      go true e =
          let x = passes-kept free common proposed world role body word left peer to_peer j.ends (λ message means. inr (sym (kept-as role body word message own means) ∙ e)) in
          Passed (By role (model_passes x.message) ∷ world)
          (reacts-so (base role) body word live ∙ ap (λ p. if p then Passes else on_word (base role) body word (word_fault (base role) body word)) e)
          (passes-joint free tables spellings a b world role body word left peer to_peer f rest gs shared j x)
      go false e = kind word own j e
