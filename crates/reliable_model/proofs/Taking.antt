-- Two ends of reliable mode: how an end whose association stands takes what comes next.
use Rattle.std.proofs.Common.{◌≡◌, refl, true, false, ◌∙◌, sym, ap, subst, ℕ, List, [], ◌∷◌, ◌++◌, map, ◌⊎◌, inl, inr}
use Rattle.std.specs.Prelude.{ℤ, Bool, not, ◌||◌, Option, Some, None, Ok, if◌then◌else◌, length, nat_eq, unwrap_or}
use Rattle.osi_base.specs.declared.syntax.Pair.{Pair}
use Rattle.osi_base.specs.declared.layer_words.Proposal.{Proposal}
use Rattle.osi_base.specs.declared.layer_words.Answers.{Answers}
use Rattle.osi_base.specs.declared.layer_words.SetItem.{SetItem}
use Rattle.stub_tables.specs.declared.tables.Tables.{Tables}
use Rattle.end_model.specs.dialogue.declared.config.Config.{Config}
use Rattle.end_model.specs.dialogue.declared.config.Mode.TheVariants.{Reliable}
use Rattle.end_model.specs.dialogue.declared.config.Phase.TheVariants.{Up, Releasing, Over}
use Rattle.end_model.specs.dialogue.declared.indication.Indication.{Indication}
use Rattle.end_model.specs.end_rules.Base.{Base, Spellings, Item, Whole}
use Rattle.end_model.specs.end_rules.Messages.{DataValue, Word, OfAssociation, OfData, OfMarks, OfActivities, Finish, Disconnect, Abort, value_of_item}
use Rattle.end_model.specs.end_rules.Messages.{Values, AlterContext, AlterContextAck, Part, Mark, MarkAck, Please, GiveConfirm, GiveAck}
use Rattle.end_model.specs.end_rules.Messages.{Start, Resume, End, EndAck, Interrupt, InterruptAck, Discard, DiscardAck}
use Rattle.end_model.specs.end_rules.Messages.{Message, Session, unit_of}
use Rattle.end_model.specs.end_rules.State.{Body, Link, Calls, Suspended, joined, between, passes_over}
use Rattle.end_model.specs.end_rules.State.{is_joined, is_carrying}
use Rattle.end_model.specs.end_rules.Sets.{Alteration, fit_proposals}
use Rattle.osi_base.specs.SetPlaces.{pair_of}
use Rattle.end_model.specs.end_rules.World.{Shared}
use Rattle.end_model.specs.end_rules.Policy.{policy}
use Rattle.end_model.specs.end_rules.Faults.{transport_fault}
use Rattle.end_model.specs.end_rules.Purging.{is_purged}
use Rattle.end_model.specs.end_rules.Hearing.{Heard, hear, head_of_apdu, take_values}
use Rattle.end_model.specs.end_rules.TakesData.{alteration, settled, part_in}
use Rattle.end_model.specs.end_rules.TakesActivities.{received, arrived_now, handed_up, values_arrived, invocation_in, cut_invocation}
use Rattle.end_model.specs.end_rules.Reacting.{Passes, Takes, react, react_to_word, fails, on_word}
use Rattle.end_model.specs.end_rules.Reacting.{word_fault, after_word, answers_to_word, shown_of_word}
use Rattle.agreement.specs.Sets.{Role, is_initiator, lookup, Item as ModelItem, Result, AnswersEach}
use Rattle.agreement.specs.Sets.{altered as model_altered}
use Rattle.agreement.specs.Sets.Role.{Initiator}
use Rattle.agreement.specs.Messages as model
use Rattle.agreement.specs.Messages.Apdu.{Invoke, Outcome, Reject}
use Rattle.agreement.specs.Messages.Message.{Mark as model_mark, MarkAnswer as model_mark_answer, Give as model_give}
use Rattle.agreement.specs.Messages.Message.{GiveAnswer as model_give_answer, Please as model_please, Alter as model_alter}
use Rattle.agreement.specs.Messages.Message.{AlterAnswer as model_alter_answer, Start as model_start, Resume as model_resume}
use Rattle.agreement.specs.Messages.Message.{Chunk as model_chunk, End as model_end, EndAnswer as model_end_answer}
use Rattle.agreement.specs.Messages.Message.{Interrupt as model_interrupt, InterruptAnswer as model_interrupt_answer}
use Rattle.agreement.specs.Messages.Message.{Discard as model_discard, DiscardAnswer as model_discard_answer}
use Rattle.agreement.specs.Messages.Message.{Release as model_release, ReleaseAnswer as model_release_answer}
use Rattle.agreement.specs.Messages.Message.{UserAbort as model_abort}
use Rattle.agreement.specs.Messages.Choice.{Nothing, Results}
use Rattle.agreement.specs.State as states
use Rattle.agreement.specs.State.Phase.{Up as model_up, Releasing as model_releasing, Over as model_over}
use Rattle.agreement.specs.Calls.{is_open, may_answer}
use Rattle.agreement.specs.Takings.{MayTake, IsChoice, IsReadUnder, OnFirst, value_read, handed_up as model_handed_up}
use Rattle.agreement.specs.Takings.{is_purged as model_purged}
use Rattle.agreement.specs.Worlds as worlds
use Rattle.agreement.specs.Worlds.{World, IsRun, ComesNext, state_of, flight_to, shared_at}
use Rattle.agreement.specs.Worlds.Step.{Takes as model_takes, Passes as model_passes}
use Rattle.agreement.specs.Worlds.Moment.{By}
use Rattle.agreement.specs.Laws.{arrived_of}
use Rattle.agreement.proofs.Interface.{takes, laws}
use Rattle.end_model.specs.Seen.{Free, role_seen, pair_seen, set_seen, phase_seen, awaited_seen, items_seen, item_seen}
use Rattle.end_model.specs.Seen.{apdu_seen, incoming_seen, calls_seen, seen, setup_seen}
use Rattle.end_model.specs.Rows.{at}
use Rattle.end_model.specs.OpenInvocations.{AreNumberedCalls}
use Rattle.end_model.specs.Words.{Means, results_seen}
use Rattle.end_model.specs.Acting.{IsSoundBody, TakenAs, ReadsBack}
use Rattle.end_model.specs.Heard.{IsExpected}
use Rattle.end_model.specs.Takings.{IsJoined, TakenWhere, nothing}
use Rattle.end_model.specs.BothEnds.{Common, base_at}
use Rattle.end_model.proofs.AnswersFit.{fits-too}
use Rattle.end_model.proofs.Fitting.{all-fit, policy-fits, and-left}
use Rattle.end_model.proofs.Altered.{altered-seen}
use Rattle.end_model.proofs.DirectLaws.{found-back}
use Rattle.end_model.proofs.Hears.{hears}
use Rattle.end_model.proofs.Numbered.{numbered-closed}
use Rattle.end_model.proofs.TakenRows.{mark-reliable, give-reliable, give_ack-reliable, please-reliable, alter-reliable}
use Rattle.end_model.proofs.TakenRows.{answers-taken, start-reliable, interrupt-reliable, interrupt_ack-reliable}
use Rattle.end_model.proofs.TakenRows.{discard-reliable, disconnect-reliable, abort-reliable}
use Rattle.end_model.proofs.TransferRows.{joined-seen, part-taken, mark_ack-taken, resume-taken, end_ack-taken, finish-taken}
use Rattle.end_model.proofs.TransferRows.{discard_ack-taken}
use Rattle.end_model.proofs.EndRows.{ends-taken}
use Rattle.end_model.proofs.BareMachine.{role-back}
use Rattle.end_model.proofs.Machine.{next-word, takes-kept, passes-kept}
use Rattle.reliable_model.specs.Codecs.{IsTransferable, IsPlaced, SpellsTransfers, Carries}
use Rattle.reliable_model.specs.Transferring.{IsSending}
use Rattle.reliable_model.specs.Ledgers.{Ledger, after_taking}
use Rattle.reliable_model.specs.ReliableEnds.{reliable_common}
use Rattle.reliable_model.proofs.Transferring.{kept-current, with-progress, with-confirmed}
use Rattle.reliable_model.proofs.Ledgers as ledgers
use Rattle.reliable_model.proofs.Ledgers.{Same}
use Rattle.reliable_model.proofs.Words.{OwnWord, AreOwn, purged-as, Live}
use Rattle.reliable_model.proofs.Rejects.{heard-small, heard-link, heard-calls, heard-sending, read-back, proper-current}

-- ---- what an end does with a word

reacts-alive : (base : Base) (body : Body) (word : Word) → Live body → (if passes_over body.link.phase then Passes else react_to_word base body word) ≡ react_to_word base body word
reacts-alive base body word live = go live.phase
  where
    go : (body.link.phase ≡ Up) ⊎ (body.link.phase ≡ Releasing) → (if passes_over body.link.phase then Passes else react_to_word base body word) ≡ react_to_word base body word
    go (inl e) = ap (λ p. if passes_over p then Passes else react_to_word base body word) e
    go (inr e) = ap (λ p. if passes_over p then Passes else react_to_word base body word) e

reacts-carrying : (base : Base) (body : Body) (word : Word) → Live body → react_to_word base body word ≡ (if is_purged base.initiator body.link.awaits (unit_of word) then Passes else on_word base body word (word_fault base body word))
reacts-carrying base body word live =
    ap (λ s. if not (is_joined s || is_carrying s) then fails body body.link.accepted transport_fault else (if is_purged base.initiator body.link.awaits (unit_of word) then Passes else on_word base body word (word_fault base body word))) live.joined.stage

-- whether the word is passed over, and else what is wrong with it
pub reacts-so : (base : Base) (body : Body) (word : Word) → Live body → react (at Reliable base) body (Session word) ≡ (if is_purged base.initiator body.link.awaits (unit_of word) then Passes else on_word (at Reliable base) body word (word_fault (at Reliable base) body word))
reacts-so base body word live = reacts-alive (at Reliable base) body word live ∙ reacts-carrying (at Reliable base) body word live

-- ---- sets

-- an activity ends with the inter-activity set
between-same : (shared : Shared) (theirs : worlds.Shared) → Same shared theirs → Same (record shared { set = shared.inter }) (record theirs { set = theirs.inter })
between-same shared theirs s = record { set = s.inter; inter = s.inter; saved = s.saved; of_a = s.of_a; of_b = s.of_b }

first-part : List DataValue → List ℕ
first-part [] = []
first-part (value ∷ values) = part_in value.content

abbrev part_value : ℕ → Option Pair → List ℕ → DataValue
part_value id pair octets = record { id = id; pair = pair; content = Part octets }

same-parts : (x y : ℕ) (p q : Option Pair) (octets others : List ℕ) → part_value x p octets ∷ [] ≡ part_value y q others ∷ [] → octets ≡ others
unfolding first-part
same-parts x y p q octets others e = ap first-part e

-- an end with the same connection stands as before
pub same-live : (body later : Body) → Live body → later.link.stage ≡ body.link.stage → later.link.selected ≡ body.link.selected → later.link.manages ≡ body.link.manages → later.link.phase ≡ body.link.phase → Live later
same-live body later live s t m p =
    record {
      joined = record { stage = s ∙ live.joined.stage; selected = t ∙ live.joined.selected; manages = m ∙ live.joined.manages };
      phase = go live.phase;
    }
  where
    go : (body.link.phase ≡ Up) ⊎ (body.link.phase ≡ Releasing) → (later.link.phase ≡ Up) ⊎ (later.link.phase ≡ Releasing)
    go (inl e) = inl (p ∙ e)
    go (inr e) = inr (p ∙ e)

cut-numbered : (x : Option ℤ) (calls : Calls) → AreNumberedCalls calls → AreNumberedCalls (cut_invocation x calls)
cut-numbered None calls h = h
cut-numbered (Some id) calls h = numbered-closed calls.made true id calls.opens h

-- an invocation that is taken at the end of a transfer is one that is expected
expected : (setup : model.ModelSetup) (world : World) (role : Role) (number : ℕ) (value : model.Value) (state : states.State) → IsRun setup (By role (model_takes (model_end number) Nothing) ∷ world) → state_of setup role world ≡ state → model_handed_up setup state.sets.held state.incoming ≡ Some value → IsExpected setup state.calls value.apdu
expected setup world role number value state run now up = go value.apdu refl
  where
    go : (apdu : model.Apdu) → value.apdu ≡ apdu → IsExpected setup state.calls apdu
    go (Invoke n operation link argument) e = tt
    go (Reject n problem) e = tt
    go (Outcome n content) e = λ is_open_now.
        subst (λ (s : states.State). may_answer setup s.calls.own_open n content ≡ true) now
        ((laws setup).one_operation world role (model_end number) Nothing value n content run (ap (λ (s : states.State). model_handed_up setup s.sets.held s.incoming) now ∙ up) e
        (ap (λ (s : states.State). is_open n s.calls.own_open) now ∙ is_open_now)).1

module _ (free : Free) (tables : Tables) (spellings : Spellings) (a b : Config) where
  abbrev pub common : Common
  common = reliable_common tables spellings a b

  abbrev pub base : Role → Base
  base role = base_at role common

  abbrev pub proposed : List Proposal
  proposed = ledgers.proposed free tables spellings a b

  abbrev pub setup : model.ModelSetup
  setup = ledgers.setup free tables spellings a b

  abbrev pub AreJoint : World → Role → Body → List Message → Body → List Message → Ledger → Type 0
  AreJoint = ledgers.Joint free tables spellings a b

  abbrev TakeLog : Role → Body → Word → model.Message → model.Choice → Type 0
  TakeLog = ledgers.TakeLog free tables spellings a b

  -- the shared set after the answers to a word
  abbrev SharesSo : Role → Body → Word → model.Message → model.Choice → Type 0
  SharesSo role body word message choice =
      (ledger : Ledger) (theirs : worlds.Shared) → Same ledger.shared theirs →
      Same (after_taking common role body (Session word) (answers_to_word (base role) body word) ledger).shared (worlds.shared_answered message choice theirs)

  -- ---- takings, with what is chosen

  record OwnTaking (role : Role) (body : Body) (word : Word) : Type 0 where
    choice : model.Choice
    chosen : (message : model.Message) → Means proposed (base Initiator) word message → IsChoice setup (seen (base role) body) message choice
    taking : (message : model.Message) → Means proposed (base Initiator) word message → MayTake setup role (seen (base role) body) message → TakenAs free Reliable (base role) proposed body word message choice
    shares : (message : model.Message) → Means proposed (base Initiator) word message → SharesSo role body word message choice
    transfer_log : (message : model.Message) → Means proposed (base Initiator) word message → TakeLog role body word message choice

  by-role : (role : Role) (body : Body) (message : model.Message) → MayTake setup role (seen (base role) body) message → MayTake (setup_seen free Reliable (base role)) (role_seen (is_initiator role)) (seen (base role) body) message
  by-role role body message may = subst (λ r. MayTake setup r (seen (base role) body) message) (sym (role-back role)) may

  abbrev IsMeant : Word → model.Message → Type 0
  IsMeant word m = (message : model.Message) → Means proposed (base Initiator) word message → message ≡ m

  plain-with : (role : Role) (body : Body) (word : Word) (m : model.Message) → IsMeant word m → IsChoice setup (seen (base role) body) m Nothing → (MayTake setup role (seen (base role) body) m → TakenAs free Reliable (base role) proposed body word m Nothing) → SharesSo role body word m Nothing → TakeLog role body word m Nothing → OwnTaking role body word
  plain-with role body word m is free_choice row shares transfer_log =
      record {
        choice = Nothing;
        chosen = λ message means. subst (λ x. IsChoice setup (seen (base role) body) x Nothing) (sym (is message means)) free_choice;
        taking = λ message means may.
            subst (λ x. TakenAs free Reliable (base role) proposed body word x Nothing) (sym (is message means)) (row (subst (λ x. MayTake setup role (seen (base role) body) x) (is message means) may));
        shares = λ message means. subst (λ x. SharesSo role body word x Nothing) (sym (is message means)) shares;
        transfer_log = λ message means. subst (λ x. TakeLog role body word x Nothing) (sym (is message means)) transfer_log;
      }

  plain : (role : Role) (body : Body) (word : Word) (m : model.Message) → IsMeant word m → IsChoice setup (seen (base role) body) m Nothing → TakenWhere Reliable word m nothing → SharesSo role body word m Nothing → TakeLog role body word m Nothing → IsSoundBody Reliable (base role) body → IsJoined Reliable body → OwnTaking role body word
  plain role body word m is free_choice row shares transfer_log sound joined =
      plain-with role body word m is free_choice (λ may. row free (base role) proposed body sound joined (by-role role body m may)) shares transfer_log

  altering : (role : Role) (body : Body) (add : List Proposal) (delete : List ℕ) → IsSoundBody Reliable (base role) body → IsJoined Reliable body → OwnTaking role body (OfData (AlterContext add delete))
  altering role body add delete sound joined =
      let x : Alteration = alteration add delete in
      let results : List Result = results_seen x (policy (base role) body x) in
      let all = all-fit x (policy (base role) body x) (policy-fits (base role) body x) in
      record {
        choice = Results results;
        chosen = λ message means. subst (λ m. IsChoice setup (seen (base role) body) m (Results results)) (sym means) (record { fits = all.fits; is_known = all.known });
        taking = λ message means may.
            subst (λ m. TakenAs free Reliable (base role) proposed body (OfData (AlterContext add delete)) m (Results results)) (sym means)
            (alter-reliable add delete free (base role) proposed body sound joined (by-role role body (model_alter (items_seen x)) (subst (λ m. MayTake setup role (seen (base role) body) m) means may)));
        shares = λ message means.
            subst (λ m. SharesSo role body (OfData (AlterContext add delete)) m (Results results)) (sym means)
            (λ ledger theirs s. record {
              set =
                  altered-seen x (policy (base role) body x) ledger.shared.set (and-left (fit_proposals x.add (policy (base role) body x).added) (nat_eq (length x.delete) (length (policy (base role) body x).deleted)) (policy-fits (base role) body x)) ∙
                  ap (model_altered (items_seen x) results) s.set;
              inter = s.inter;
              saved = s.saved;
              of_a = s.of_a;
              of_b = s.of_b;
            });
        transfer_log = λ message means.
            subst (λ m. TakeLog role body (OfData (AlterContext add delete)) m (Results results)) (sym means)
            (record { starts = λ items theirs e. e; arrives = λ arrived. refl });
      }

  -- an answer answers the oldest own alteration, which it fits
  first-own : (P : List ModelItem → Type 0) (own : List Alteration) → OnFirst P (map items_seen own) → (x : Alteration) × (rest : List Alteration) × (own ≡ x ∷ rest) × P (items_seen x)
  first-own P [] h = absurd h
  first-own P (x ∷ rest) h = (x, rest, refl, h)

  settling : (role : Role) (body : Body) (answers : Answers) → IsJoined Reliable body → OwnTaking role body (OfData (AlterContextAck answers))
  settling role body answers joined =
      record {
        choice = Nothing;
        chosen = λ message means. subst (λ m. IsChoice setup (seen (base role) body) m Nothing) (sym means.2) tt;
        taking = λ message means may.
            let asked : Alteration = means.0 in
            let there : MayTake setup role (seen (base role) body) (model_alter_answer (results_seen asked answers)) = subst (λ m. MayTake setup role (seen (base role) body) m) means.2 may in
            let o = first-own (λ items. AnswersEach items (results_seen asked answers)) body.sets.own there.fits in
            let f = fits-too o.0 asked answers means.1 o.3 in
            let its : MayTake setup role (seen (base role) body) (model_alter_answer (results_seen o.0 answers)) = subst (λ rs. MayTake setup role (seen (base role) body) (model_alter_answer rs)) (sym f.same) there in
            subst (λ m. TakenAs free Reliable (base role) proposed body (OfData (AlterContextAck answers)) m Nothing) (ap model_alter_answer f.same ∙ sym means.2)
            (answers-taken.alter_ack Reliable o.0 o.1 answers free (base role) proposed body joined o.2 f.fits (by-role role body (model_alter_answer (results_seen o.0 answers)) its));
        shares = λ message means. subst (λ m. SharesSo role body (OfData (AlterContextAck answers)) m Nothing) (sym means.2) (λ ledger theirs s. s);
        transfer_log = λ message means.
            subst (λ m. TakeLog role body (OfData (AlterContextAck answers)) m Nothing) (sym means.2)
            (record { starts = λ items theirs e. e; arrives = λ arrived. refl });
      }

  -- a part of a transfer
  parting : (role : Role) (body : Body) (id : ℕ) (pair : Option Pair) (octets : List ℕ) → IsSoundBody Reliable (base role) body → IsJoined Reliable body → OwnTaking role body (OfData (Values (part_value id pair octets ∷ [])))
  parting role body id pair octets sound stands =
      plain role body (OfData (Values (part_value id pair octets ∷ []))) (model_chunk octets)
      (λ message means. means.is_its ∙ ap model_chunk (sym (same-parts id means.id pair means.pair octets means.octets means.is_one))) tt (part-taken id pair octets) (λ ledger theirs s. s) (record { starts = λ items theirs e. e; arrives = λ arrived. refl }) sound stands

  -- ---- what is left after such a taking

  record AfterOwn (role : Role) (body : Body) (word : Word) : Type 0 where
    taken_so : OwnTaking role body word
    sound : IsSoundBody Reliable (base role) (after_word (base role) body word)
    sending : IsSending (base role) (after_word (base role) body word).sending
    side : Live (after_word (base role) body word) ⊎ ((after_word (base role) body word).link.phase ≡ Over)
    own : AreOwn (answers_to_word (base role) body word)

  abbrev IsUsual : Word → Type 0
  IsUsual (OfData (Values values)) = ⊥
  IsUsual (OfActivities (End number)) = ⊥
  IsUsual word = Unit {0}

  settled-sound : (role : Role) (body : Body) (own : List Alteration) (answers : Answers) → IsSoundBody Reliable (base role) body → IsSoundBody Reliable (base role) (settled own answers body)
  settled-sound role body [] answers sound = sound
  settled-sound role body (x ∷ own) answers sound = record { numbered = sound.numbered; calm = tt; sets = tt; queues = tt }

  settled-sending : (role : Role) (body : Body) (own : List Alteration) (answers : Answers) → IsSending (base role) body.sending → IsSending (base role) (settled own answers body).sending
  settled-sending role body [] answers h = h
  settled-sending role body (x ∷ own) answers h = h

  settled-live : (body : Body) (own : List Alteration) (answers : Answers) → Live body → Live (settled own answers body)
  settled-live body [] answers live = live
  settled-live body (x ∷ own) answers live = same-live body (settled (x ∷ own) answers body) live refl refl refl refl

  after-own : (role : Role) (body : Body) (word : Word) → IsSoundBody Reliable (base role) body → IsSending (base role) body.sending → Live body → OwnWord word → IsUsual word → AfterOwn role body word
  after-own role body (OfData (Values values)) sound h live own nd = absurd nd
  after-own role body (OfData (AlterContext add delete)) sound h live own nd =
      record {
        taken_so = altering role body add delete sound live.joined;
        sound = record { numbered = sound.numbered; calm = tt; sets = tt; queues = tt };
        sending = h;
        side = inl (same-live body (after_word (base role) body (OfData (AlterContext add delete))) live refl refl refl refl);
        own = (tt, tt);
      }
  after-own role body (OfData (AlterContextAck answers)) sound h live own nd =
      record {
        taken_so = settling role body answers live.joined;
        sound = settled-sound role body body.sets.own answers sound;
        sending = settled-sending role body body.sets.own answers h;
        side = inl (settled-live body body.sets.own answers live);
        own = tt;
      }
  after-own role body (OfMarks (Mark number)) sound h live own nd =
      record {
        taken_so = plain role body (OfMarks (Mark number)) (model_mark number) (λ message means. means) tt (mark-reliable number) (λ ledger theirs s. s) (record { starts = λ items theirs e. e; arrives = λ arrived. refl }) sound live.joined;
        sound = record { numbered = sound.numbered; calm = tt; sets = tt; queues = tt };
        sending = h;
        side = inl (same-live body (after_word (base role) body (OfMarks (Mark number))) live refl refl refl refl);
        own = (tt, tt);
      }
  after-own role body (OfMarks (MarkAck number)) sound h live own nd =
      record {
        taken_so = plain role body (OfMarks (MarkAck number)) (model_mark_answer number) (λ message means. means) tt (mark_ack-taken number) (λ ledger theirs s. s) (record { starts = λ items theirs e. e; arrives = λ arrived. refl }) sound live.joined;
        sound = record { numbered = sound.numbered; calm = tt; sets = tt; queues = tt };
        sending = kept-current (base role) (λ t. record t { confirmed = number }) body.sending (λ t k. with-confirmed (base role) number t k) h;
        side = inl (same-live body (after_word (base role) body (OfMarks (MarkAck number))) live refl refl refl refl);
        own = tt;
      }
  after-own role body (OfMarks (Please (Some tokens) values)) sound h live own nd =
      record {
        taken_so = plain role body (OfMarks (Please (Some tokens) values)) (model_please own.priority) (λ message means. means ∙ ap (λ p. model_please (unwrap_or p 0)) own.is_it) tt (please-reliable tokens own.priority values own.is_it) (λ ledger theirs s. s) (record { starts = λ items theirs e. e; arrives = λ arrived. refl }) sound live.joined;
        sound = sound;
        sending = h;
        side = inl live;
        own = tt;
      }
  after-own role body (OfMarks GiveConfirm) sound h live own nd =
      record {
        taken_so = plain role body (OfMarks GiveConfirm) model_give (λ message means. means) tt give-reliable (λ ledger theirs s. s) (record { starts = λ items theirs e. e; arrives = λ arrived. refl }) sound live.joined;
        sound = record { numbered = sound.numbered; calm = tt; sets = tt; queues = tt };
        sending = h;
        side = inl (same-live body (after_word (base role) body (OfMarks GiveConfirm)) live refl refl refl refl);
        own = (tt, tt);
      }
  after-own role body (OfMarks GiveAck) sound h live own nd =
      record {
        taken_so = plain role body (OfMarks GiveAck) model_give_answer (λ message means. means) tt give_ack-reliable (λ ledger theirs s. s) (record { starts = λ items theirs e. e; arrives = λ arrived. refl }) sound live.joined;
        sound = record { numbered = sound.numbered; calm = tt; sets = tt; queues = tt };
        sending = h;
        side = inl (same-live body (after_word (base role) body (OfMarks GiveAck)) live refl refl refl refl);
        own = tt;
      }
  after-own role body (OfAssociation (Finish transport values)) sound h live own nd =
      record {
        taken_so = plain role body (OfAssociation (Finish transport values)) model_release (λ message means. means) tt (finish-taken transport values own) (λ ledger theirs s. s) (record { starts = λ items theirs e. e; arrives = λ arrived. refl }) sound live.joined;
        sound = record { numbered = tt; calm = tt; sets = tt; queues = tt };
        sending = h;
        side = inr refl;
        own = (refl, tt);
      }
  after-own role body (OfAssociation (Disconnect values)) sound h live own nd =
      record {
        taken_so = plain role body (OfAssociation (Disconnect values)) model_release_answer (λ message means. means) tt (disconnect-reliable values own) (λ ledger theirs s. s) (record { starts = λ items theirs e. e; arrives = λ arrived. refl }) sound live.joined;
        sound = record { numbered = tt; calm = tt; sets = tt; queues = tt };
        sending = h;
        side = inr refl;
        own = tt;
      }
  after-own role body (OfAssociation (Abort transport user)) sound h live own nd =
      record {
        taken_so = plain role body (OfAssociation (Abort transport user)) model_abort (λ message means. means) tt (abort-reliable transport user) (λ ledger theirs s. s) (record { starts = λ items theirs e. e; arrives = λ arrived. refl }) sound live.joined;
        sound = record { numbered = tt; calm = tt; sets = tt; queues = tt };
        sending = h;
        side = inr refl;
        own = tt;
      }
  after-own role body (OfActivities (Start activity)) sound h live own nd =
      record {
        taken_so = plain role body (OfActivities (Start activity)) (model_start activity) (λ message means. means) tt (start-reliable activity) (λ ledger theirs s. s) (record { starts = λ items theirs e. e; arrives = λ arrived. refl }) sound live.joined;
        sound = record { numbered = sound.numbered; calm = tt; sets = tt; queues = tt };
        sending = h;
        side = inl (same-live body (after_word (base role) body (OfActivities (Start activity))) live refl refl refl refl);
        own = tt;
      }
  after-own role body (OfActivities (Resume activity mark)) sound h live own nd =
      record {
        taken_so = plain role body (OfActivities (Resume activity mark)) (model_resume activity mark) (λ message means. means) tt (resume-taken activity mark) (λ ledger theirs s. s) (record { starts = λ items theirs e. e; arrives = λ arrived. refl }) sound live.joined;
        sound = record { numbered = sound.numbered; calm = tt; sets = tt; queues = tt };
        sending = h;
        side = inl (same-live body (after_word (base role) body (OfActivities (Resume activity mark))) live refl refl refl refl);
        own = tt;
      }
  after-own role body (OfActivities (End number)) sound h live own nd = absurd nd
  after-own role body (OfActivities (EndAck number)) sound h live own nd =
      record {
        taken_so = plain role body (OfActivities (EndAck number)) (model_end_answer number) (λ message means. means) tt (end_ack-taken number) (λ ledger theirs s. s) (record { starts = λ items theirs e. e; arrives = λ arrived. refl }) sound live.joined;
        sound = record { numbered = sound.numbered; calm = tt; sets = tt; queues = tt };
        sending = record { queue = h.queue; current = tt };
        side = inl (same-live body (after_word (base role) body (OfActivities (EndAck number))) live refl refl refl refl);
        own = tt;
      }
  after-own role body (OfActivities (Interrupt reason)) sound h live own nd =
      record {
        taken_so = plain role body (OfActivities (Interrupt reason)) model_interrupt (λ message means. means) tt (interrupt-reliable reason) (λ ledger theirs s. between-same ledger.shared theirs s) (record { starts = λ items theirs e. e; arrives = λ arrived. refl }) sound live.joined;
        sound = record { numbered = sound.numbered; calm = tt; sets = tt; queues = tt };
        sending = h;
        side = inl (same-live body (after_word (base role) body (OfActivities (Interrupt reason))) live refl refl refl refl);
        own = (tt, tt);
      }
  after-own role body (OfActivities InterruptAck) sound h live own nd =
      record {
        taken_so = plain role body (OfActivities InterruptAck) model_interrupt_answer (λ message means. means) tt interrupt_ack-reliable (λ ledger theirs s. s) (record { starts = λ items theirs e. e; arrives = λ arrived. refl }) sound live.joined;
        sound = record { numbered = sound.numbered; calm = tt; sets = tt; queues = tt };
        sending = kept-current (base role) (λ t. record t { progress = Suspended }) body.sending (λ t k. with-progress (base role) Suspended t k) h;
        side = inl (same-live body (after_word (base role) body (OfActivities InterruptAck)) live refl refl refl refl);
        own = tt;
      }
  after-own role body (OfActivities (Discard reason)) sound h live own nd =
      record {
        taken_so = plain role body (OfActivities (Discard reason)) model_discard (λ message means. means) tt (discard-reliable reason) (λ ledger theirs s. between-same ledger.shared theirs s) (record { starts = λ items theirs e. e; arrives = λ arrived. refl }) sound live.joined;
        sound = record { numbered = sound.numbered; calm = tt; sets = tt; queues = tt };
        sending = h;
        side = inl (same-live body (after_word (base role) body (OfActivities (Discard reason))) live refl refl refl refl);
        own = (tt, tt);
      }
  after-own role body (OfActivities DiscardAck) sound h live own nd =
      record {
        taken_so =
            plain-with role body (OfActivities DiscardAck) model_discard_answer (λ message means. means) tt
            (λ may. discard_ack-taken free (base role) proposed body sound live.joined (proper-current (base role) body.sending.current h.current) (by-role role body model_discard_answer may))
            (λ ledger theirs s. s) (record { starts = λ items theirs e. e; arrives = λ arrived. refl });
        sound = record { numbered = cut-numbered (invocation_in body.sending.current) body.calls sound.numbered; calm = tt; sets = tt; queues = tt };
        sending = record { queue = h.queue; current = tt };
        side = inl (same-live body (after_word (base role) body (OfActivities DiscardAck)) live refl refl refl refl);
        own = tt;
      }
  after-own role body word sound h live own nd = absurd own

  -- ---- what is taken

  pub alive : (role : Role) (body : Body) → Live body → (seen (base role) body).phase ≡ model_over → ⊥
  alive role body live e = go live.phase
    where
      no_up : model_up ≡ model_over → ⊥
      no_up h = cc

      no_releasing : model_releasing ≡ model_over → ⊥
      no_releasing h = cc

      go : (body.link.phase ≡ Up) ⊎ (body.link.phase ≡ Releasing) → ⊥
      go (inl p) = no_up (sym (ap (phase_seen body.link.stage) p) ∙ e)
      go (inr p) = no_releasing (sym (ap (phase_seen body.link.stage) p) ∙ e)

  pub kept-as : (role : Role) (body : Body) (word : Word) (message : model.Message) → OwnWord word → Means proposed (base Initiator) word message → is_purged (is_initiator role) body.link.awaits (unit_of word) ≡ model_purged role (seen (base role) body).awaits message
  kept-as role body word message own means =
      purged-as (base Initiator) proposed word message own means (is_initiator role) body.link.awaits ∙
      ap (λ r. model_purged r (awaited_seen body.link.awaits) message) (role-back role)

  pub data Reacted (role : Role) (body : Body) (word : Word) (left : List Message) (peer : Body) (to_peer : List Message) (ledger : Ledger) : Type 0 where
    Passed : (world : World) → react (base role) body (Session word) ≡ Passes → AreJoint world role body left peer to_peer ledger → Reacted role body word left peer to_peer ledger
    Took : (world : World) (later : Body) (answers : List Message) (shown : List Indication) → react (base role) body (Session word) ≡ Takes later answers shown
        → AreJoint world role later left peer (to_peer ++ answers) (after_taking common role body (Session word) answers ledger)
        → IsSoundBody Reliable (base role) later → IsSending (base role) later.sending → Live later ⊎ (later.link.phase ≡ Over) → AreOwn answers
        → Reacted role body word left peer to_peer ledger

  plain-so : (world : World) (role : Role) (body : Body) (word : Word) (left : List Message) (peer : Body) (to_peer : List Message) (ledger : Ledger) → AreJoint world role body (Session word ∷ left) peer to_peer ledger → Live body → is_purged (is_initiator role) body.link.awaits (unit_of word) ≡ false → OwnWord word → AfterOwn role body word → Reacted role body word left peer to_peer ledger
  plain-so world role body word left peer to_peer ledger j live here own x =
      let t = takes-kept free common proposed world role body word left peer to_peer x.taken_so.choice j.ends (alive role body live) (λ message means. sym (kept-as role body word message own means) ∙ here) x.taken_so.chosen x.taken_so.taking in
      Took (By role (model_takes t.message x.taken_so.choice) ∷ world) (after_word (base role) body word) (answers_to_word (base role) body word) (shown_of_word (base role) body word)
      (reacts-so (base role) body word live ∙
      ap (λ p. if p then Passes else on_word (base role) body word (word_fault (base role) body word)) here ∙
      ap (on_word (base role) body word) t.no_fault)
      (ledgers.takes-joint free tables spellings a b world role body word left peer to_peer x.taken_so.choice ledger j t (x.taken_so.shares t.message t.means ledger (shared_at setup world) j.same) (x.taken_so.transfer_log t.message t.means))
      x.sound x.sending x.side x.own

  -- ---- the end of a transfer

  -- what the end may be taken for
  pub record AtEnd (world : World) (role : Role) (body : Body) (number : ℕ) : Type 0 where
    pub run : IsRun setup (By role (model_takes (model_end number) Nothing) ∷ world)
    pub may : MayTake setup role (seen (base role) body) (model_end number)

  pub at-end : (world : World) (role : Role) (body : Body) (number : ℕ) (left : List Message) (peer : Body) (to_peer : List Message) (ledger : Ledger) → AreJoint world role body (Session (OfActivities (End number)) ∷ left) peer to_peer ledger → Live body → is_purged (is_initiator role) body.link.awaits (unit_of (OfActivities (End number))) ≡ false → AtEnd world role body number
  at-end world role body number left peer to_peer ledger j live here =
      let n = next-word proposed (base Initiator) (OfActivities (End number)) left (flight_to setup role world) j.ends.own.flight in
      let now = j.ends.own.state in
      let next : ComesNext (model_end number) (flight_to setup role world) = subst (ComesNext (model_end number)) (sym n.is_it) n.means in
      let alive_now : (state_of setup role world).phase ≡ model_over → ⊥ = λ e. alive role body live (sym (ap (λ (x : states.State). x.phase) now) ∙ e) in
      let kept : model_purged role (seen (base role) body).awaits (model_end number) ≡ false = sym (kept-as role body (OfActivities (End number)) (model_end number) tt refl) ∙ here in
      let kept_now : model_purged role (state_of setup role world).awaits (model_end number) ≡ false = ap (λ (x : states.State). model_purged role x.awaits (model_end number)) now ∙ kept in
      let t = takes setup world role (model_end number) Nothing j.ends.run next alive_now kept_now tt in
      record { run = t.run; may = subst (λ x. MayTake setup role x (model_end number)) now t.may }

  -- what arrives then, where its number wasn't handed up
  pub record Arrives (role : Role) (body : Body) : Type 0 where
    pub item : Item
    pub transferable : IsTransferable (base role) item.apdu
    pub placed : IsPlaced (base role) item
    pub there : pair_of body.sets.held item.id ≡ Some item.pair
    pub arrived : arrived_now (base role) body ≡ Ok (Whole item)
    pub read : value_read setup (set_seen body.sets.held) (incoming_seen body.receiving) ≡ Some (item_seen (base role) item)

  some-read : (held : List SetItem) (x : Option model.Value) → IsReadUnder (set_seen held) x → (value : model.Value) × (x ≡ Some value) × (lookup (set_seen held) value.identifier ≡ Some value.pair)
  some-read held None h = absurd h
  some-read held (Some value) h = (value, refl, h)

  pub arrives : (role : Role) (body : Body) → SpellsTransfers (base role) → Carries free (base role) → IsReadUnder (set_seen body.sets.held) (value_read setup (set_seen body.sets.held) (incoming_seen body.receiving)) → Arrives role body
  arrives role body spells carries h =
      let s = some-read body.sets.held (value_read setup (set_seen body.sets.held) (incoming_seen body.receiving)) h in
      let read : free.codec.read (set_seen body.sets.held) (joined body.receiving.pieces) ≡ Some s.0 = ap (free.codec.read (set_seen body.sets.held)) (sym (joined-seen body.receiving.pieces)) ∙ s.1 in
      let x = carries.reads body.sets.held (joined body.receiving.pieces) s.0 read in
      let found : lookup (set_seen body.sets.held) x.item.id ≡ Some (pair_seen x.item.pair) = subst (λ (v : model.Value). lookup (set_seen body.sets.held) v.identifier ≡ Some v.pair) x.is_its s.2 in
      let pair : pair_of body.sets.held x.item.id ≡ Some x.item.pair = found-back body.sets.held x.item.id x.item.pair found in
      record {
        item = x.item;
        transferable = x.transferable;
        placed = x.placed;
        there = pair;
        arrived = ap (spellings.arrived body.sets.held) x.spelled ∙ spells.reads body.sets.held x.item x.transferable x.placed pair;
        read = s.1 ∙ ap Some x.is_its;
      }

  -- the record once the end has come
  abbrev ended : Body → Body
  ended body = received (λ r. record r { was_handed = true; active = false }) body

  abbrev end_word : ℕ → Word
  end_word number = OfActivities (End number)

  end-shares : (role : Role) (body : Body) (number : ℕ) → SharesSo role body (end_word number) (model_end number) Nothing
  end-shares role body number ledger theirs s = between-same ledger.shared theirs s

  -- handed up before
  again : (world : World) (role : Role) (body : Body) (number : ℕ) → AtEnd world role body number → IsSoundBody Reliable (base role) body → IsSending (base role) body.sending → Live body → body.receiving.was_handed ≡ true → AfterOwn role body (end_word number)
  again world role body number e sound h live was =
      let none : handed_up (base role) body ≡ [] = ap (λ w. if w then [] else values_arrived (arrived_now (base role) body)) was in
      let later : after_word (base role) body (end_word number) ≡ between (ended body) = ap (λ hs. between (take_values (base role) (ended body) hs).body) none in
      record {
        taken_so =
            plain-with role body (end_word number) (model_end number) (λ message means. means) tt
            (λ may. ends-taken.again number free (base role) proposed body was (by-role role body (model_end number) may))
            (end-shares role body number)
            (record {
              starts = λ items theirs e. e;
              arrives = λ arrived.
                  ap (λ w. (if w then [] else body.receiving.last ∷ []) ++ arrived) was ∙
                  sym (ap (λ w. arrived_of (if w then None else value_read setup (set_seen body.sets.held) (incoming_seen body.receiving)) body.receiving.last ++ arrived) was);
            });
        sound = subst (IsSoundBody Reliable (base role)) (sym later) (record { numbered = sound.numbered; calm = tt; sets = tt; queues = tt });
        sending = subst (λ (y : Body). IsSending (base role) y.sending) (sym later) h;
        side = inl (subst Live (sym later) (same-live body (between (ended body)) live refl refl refl refl));
        own = (tt, tt);
      }

  -- handed up now
  first : (world : World) (role : Role) (body : Body) (number : ℕ) → SpellsTransfers (base role) → Carries free (base role) → ReadsBack (base role) → AtEnd world role body number → state_of setup role world ≡ seen (base role) body → IsSoundBody Reliable (base role) body → IsSending (base role) body.sending → Live body → body.receiving.was_handed ≡ false → AfterOwn role body (end_word number)
  first world role body number spells carries back e now sound h live was =
      let r = arrives role body spells carries (e.may.is_read was) in
      let item : Item = r.item in
      let up : model_handed_up setup (set_seen body.sets.held) (incoming_seen body.receiving) ≡ Some (item_seen (base role) item) = ap (λ w. if w then None else value_read setup (set_seen body.sets.held) (incoming_seen body.receiving)) was ∙ r.read in
      let read : free.codec.read (set_seen body.sets.held) (joined body.receiving.pieces) ≡ Some (item_seen (base role) item) = ap (free.codec.read (set_seen body.sets.held)) (sym (joined-seen body.receiving.pieces)) ∙ r.read in
      let expects : IsExpected setup (calls_seen body.calls) (apdu_seen (base role) item.apdu) = expected setup world role number (item_seen (base role) item) (seen (base role) body) e.run now up in
      let one : handed_up (base role) body ≡ value_of_item item ∷ [] = ap (λ w. if w then [] else values_arrived (arrived_now (base role) body)) was ∙ ap values_arrived r.arrived in
      let heard : Heard = hear (base role) body.calls item.id (head_of_apdu item.apdu) in
      let hears_it = hears free Reliable (base role) body.calls item.id item.apdu sound.numbered r.transferable.proper (read-back (base role) item.apdu back r.transferable) expects in
      let after : Body = (take_values (base role) (ended body) (value_of_item item ∷ [])).body in
      let later : after_word (base role) body (end_word number) ≡ between after = ap (λ hs. between (take_values (base role) (ended body) hs).body) one in
      let link : after.link ≡ body.link = heard-link (base role) (ended body) item.id heard.calls heard.shown heard.reject in
      record {
        taken_so =
            plain-with role body (end_word number) (model_end number) (λ message means. means) tt
            (λ may. ends-taken.whole number item free (base role) proposed body sound was r.arrived read r.transferable.proper (read-back (base role) item.apdu back r.transferable) expects (by-role role body (model_end number) may))
            (end-shares role body number)
            (record {
              starts = λ items theirs e. e;
              arrives = λ arrived.
                  ap (λ w. (if w then [] else body.receiving.last ∷ []) ++ arrived) was ∙
                  sym (ap (λ v. arrived_of v body.receiving.last ++ arrived) up);
            });
        sound =
            subst (IsSoundBody Reliable (base role)) (sym later)
            (record { numbered = subst AreNumberedCalls (sym (heard-calls (base role) (ended body) item.id heard.calls heard.shown heard.reject)) hears_it.numbered; calm = tt; sets = tt; queues = tt });
        sending =
            subst (λ (y : Body). IsSending (base role) y.sending) (sym later)
            (heard-sending (base role) (ended body) item.id heard.calls heard.shown heard.reject hears_it.proper (heard-small free Reliable (base role) body.calls item.id item.apdu heard hears_it) h);
        side =
            inl (subst Live (sym later)
            (same-live body (between after) live (ap (λ (l : Link). l.stage) link) (ap (λ (l : Link). l.selected) link) (ap (λ (l : Link). l.manages) link) (ap (λ (l : Link). l.phase) link)));
        own = (tt, tt);
      }

  end-own : (world : World) (role : Role) (body : Body) (number : ℕ) → SpellsTransfers (base role) → Carries free (base role) → ReadsBack (base role) → AtEnd world role body number → state_of setup role world ≡ seen (base role) body → IsSoundBody Reliable (base role) body → IsSending (base role) body.sending → Live body → AfterOwn role body (end_word number)
  end-own world role body number spells carries back e now sound h live = go body.receiving.was_handed refl
    where
      go : (w : Bool) → body.receiving.was_handed ≡ w → AfterOwn role body (end_word number)
      go true was = again world role body number e sound h live was
      go false was = first world role body number spells carries back e now sound h live was

  -- ---- a part

  values-so : (world : World) (role : Role) (body : Body) (values : List DataValue) (left : List Message) (peer : Body) (to_peer : List Message) (ledger : Ledger) → AreJoint world role body (Session (OfData (Values values)) ∷ left) peer to_peer ledger → IsSoundBody Reliable (base role) body → IsSending (base role) body.sending → Live body → is_purged (is_initiator role) body.link.awaits (unit_of (OfData (Values values))) ≡ false → Reacted role body (OfData (Values values)) left peer to_peer ledger
  values-so world role body values left peer to_peer ledger j sound h live here =
      let n = next-word proposed (base Initiator) (OfData (Values values)) left (flight_to setup role world) j.ends.own.flight in
      let word : Word = OfData (Values (part_value n.means.id n.means.pair n.means.octets ∷ [])) in
      subst (λ vs. Reacted role body (OfData (Values vs)) left peer to_peer ledger) (sym n.means.is_one)
      (plain-so world role body word left peer to_peer ledger (subst (λ vs. AreJoint world role body (Session (OfData (Values vs)) ∷ left) peer to_peer ledger) n.means.is_one j) live here tt
      (record {
        taken_so = parting role body n.means.id n.means.pair n.means.octets sound live.joined;
        sound = record { numbered = sound.numbered; calm = tt; sets = tt; queues = tt };
        sending = h;
        side = inl (same-live body (after_word (base role) body word) live refl refl refl refl);
        own = tt;
      }))

  -- ---- the whole

  pub reacted : (world : World) (role : Role) (body : Body) (word : Word) (left : List Message) (peer : Body) (to_peer : List Message) (ledger : Ledger) → SpellsTransfers (base role) → Carries free (base role) → ReadsBack (base role) → AreJoint world role body (Session word ∷ left) peer to_peer ledger → IsSoundBody Reliable (base role) body → IsSending (base role) body.sending → Live body → OwnWord word → Reacted role body word left peer to_peer ledger
  reacted world role body word left peer to_peer ledger spells carries back j sound h live own = go (is_purged (is_initiator role) body.link.awaits (unit_of word)) refl
    where
      kind : (w : Word) → OwnWord w → AreJoint world role body (Session w ∷ left) peer to_peer ledger → is_purged (is_initiator role) body.link.awaits (unit_of w) ≡ false → Reacted role body w left peer to_peer ledger
      kind (OfData (Values values)) own j here = values-so world role body values left peer to_peer ledger j sound h live here
      kind (OfActivities (End number)) own j here =
          plain-so world role body (end_word number) left peer to_peer ledger j live here own
          (end-own world role body number spells carries back (at-end world role body number left peer to_peer ledger j live here) j.ends.own.state sound h live)
      kind w own j here = plain-so world role body w left peer to_peer ledger j live here own (after-own role body w sound h live own tt)

      go : (p : Bool) → is_purged (is_initiator role) body.link.awaits (unit_of word) ≡ p → Reacted role body word left peer to_peer ledger
      go true e =
          let x = passes-kept free common proposed world role body word left peer to_peer j.ends (λ message means. inr (sym (kept-as role body word message own means) ∙ e)) in
          Passed (By role (model_passes x.message) ∷ world)
          (reacts-so (base role) body word live ∙ ap (λ p. if p then Passes else on_word (base role) body word (word_fault (base role) body word)) e)
          (ledgers.passes-joint free tables spellings a b world role body word left peer to_peer ledger j x)
      go false e = kind word own j e
