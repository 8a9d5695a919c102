-- In direct mode each message that an end took is the one that was sent in its place, each of its values read under the pair that the
-- shared set gave its context at the sending.
use Rattle.std.proofs.Common.{◌≡◌, refl, true, false, ◌∙◌, sym, ap, subst, List, [], ◌∷◌, ◌++◌, map, append_assoc, ◌⊎◌, inl, inr, None, Ok, Err}
use Rattle.std.specs.Prelude.{Bool, not, ◌||◌, Option, Some, ℤ, if◌then◌else◌}
use Rattle.std.proofs.lemmas.List.{append-nil}
use Rattle.osi_base.specs.declared.syntax.Pair.{Pair}
use Rattle.osi_base.specs.declared.layer_words.Side.TheVariants.{A, B}
use Rattle.osi_base.specs.declared.layer_words.SetItem.{SetItem}
use Rattle.stub_tables.specs.declared.tables.Tables.{Tables}
use Rattle.dialogue.specs.declared.config.Config.{Config}
use Rattle.dialogue.specs.declared.config.Mode.TheVariants.{Direct}
use Rattle.dialogue.specs.declared.call.Call.{Call}
use Rattle.dialogue.specs.declared.event.Event.{Event}
use Rattle.dialogue.specs.declared.event.Entry.{Entry}
use Rattle.dialogue.specs.declared.indication.Indication.{Indication}
use Rattle.end_rules.specs.Base.{Base, Spellings, Fault}
use Rattle.osi_base.specs.SetPlaces.{pair_of}
use Rattle.end_rules.specs.Messages.{Message, Transport, Session, DataValue, Word, OfAssociation, OfData, OfMarks, OfActivities, Connect, Accept, Refuse, Finish, Disconnect, Abort, AbortAccept, Values, AlterContext, AlterContextAck, Mark, MarkAck, Restart, RestartAck, Give, Please, GiveConfirm, GiveAck, unit_of, value_of_item}
use Rattle.end_rules.specs.State.{Body, is_carrying, is_joined, passes_over}
use Rattle.end_rules.specs.Writing.{proposals}
use Rattle.end_rules.specs.Calling.{can_call}
use Rattle.end_rules.specs.Requesting.{due_of}
use Rattle.end_rules.specs.Faults.{transport_fault}
use Rattle.end_rules.specs.Purging.{is_purged}
use Rattle.end_rules.specs.TakesTransport.{after_transport}
use Rattle.end_rules.specs.Reacting.{Passes, Takes, react, fails as failing, on_word, word_fault, after_word, answers_to_word}
use Rattle.end_rules.specs.History.{Step, called, sent, fed, took, answered, passed, feed_end, gave, broke}
use Rattle.end_rules.specs.World.{World, Ends, Shared, shared_first, shared_at}
use Rattle.agreement.specs.Sets.{Role, other, is_initiator}
use Rattle.agreement.specs.Sets.Role.{Initiator, Responder}
use Rattle.end_model.specs.Seen.{Free}
use Rattle.end_model.specs.Acting.{ReadsBack}
use Rattle.end_model.specs.Requests.{after_called}
use Rattle.end_model.specs.BothEnds.{Common, base_at, Two, body_at, coming_to, stepped, two_new, both_broke, WritesAll}
use Rattle.end_model.specs.DirectEnds.{direct_common, ProposesRightly}
use Rattle.end_model.specs.Sharing.{side_of, shared_all_sent, shared_all_answered, SetsSent, sets_to, sets_stepped, before, none_sent, Shares}
use Rattle.end_model.specs.Sharing as sharing
use Rattle.end_model.proofs.DirectLaws.{direct-as_sent}
use Rattle.reliable_model.specs.Ledgers.{Ledger}
use Rattle.reliable_model.proofs.FirmSteps.{in-place, nothing-above}
use Rattle.reliable_model.proofs.OnWay.{took-unit}
use Rattle.reliable_model.proofs.Fixed.{AreIdentifiers, listed-identifiers}
use Rattle.said_words.specs.Calls.{Speaks}
use Rattle.said_words.specs.Words.{the_finish, the_disconnect, IsMessage, AreMessages}
use Rattle.said_words.specs.Laws.{ProposesContexts}
use Rattle.said_words.proofs.Sharing.{no-own}
use Rattle.said_words.proofs.Worlds.{direct-says}
use Rattle.association_worlds.specs.Laws.{IsMeant}
use Rattle.run_laws.specs.Passing.{sent_in, values_in, PairedMessage, at_sending, as_read, on_connection, sendings, read_in, readings, AreAsSent, TakenAsSent}
use Rattle.run_laws.specs.Laws.{AtEachMoment}
use Rattle.association_runs.specs.Worlds.{stepping, Runs}
use Rattle.association_runs.specs.Laws.{AreEvents}
use Rattle.association_runs.specs.Sides.{ends_for}
use Rattle.association_runs.proofs.Histories.{end_for, other-other}
use Rattle.association_runs.proofs.Moments.{IsOn, AreOn, sents-on, answers-on, all_read, own-readings, peer-readings, sents-read, answers-read}
use Rattle.association_runs.proofs.InPlace.{IsNoReading}
use Rattle.association_runs.proofs.Keeps.{IsQuiet, Keeps}
use Rattle.association_runs.proofs.Joint.{both, own-body, peer-body, own-coming, peer-coming}
use Rattle.association_runs.proofs.Carried.{from-start}
use Rattle.run_lemmas.proofs.Openings.{IsAcceptance, HasAcceptance, acceptance-in, acceptance-first, acceptance-later, Few, nobody, one}
use Rattle.codec_runs.proofs.DirectFirm.{HasAcse, IsFirm, OnRelease, AllReleased, Stands, Does, call-does, word-does, unit-does, broke-falls}

-- ---- messages on their way, each with the shared set just before its sending

-- a release and its answer were sent while that set had association control
abbrev ReleasedIn : List Message → List (List SetItem) → Type 0
ReleasedIn [] [] = Unit {0}
ReleasedIn [] (set ∷ sets) = ⊥
ReleasedIn (m ∷ ms) [] = ⊥
ReleasedIn (m ∷ ms) (set ∷ sets) = OnRelease m (HasAcse set) × ReleasedIn ms sets

released-append : (ms ns : List Message) (fs gs : List (List SetItem)) → ReleasedIn ms fs → ReleasedIn ns gs → ReleasedIn (ms ++ ns) (fs ++ gs)
released-append [] ns [] gs h k = k
released-append [] ns (f ∷ fs) gs h k = absurd h
released-append (m ∷ ms) ns [] gs h k = absurd h
released-append (m ∷ ms) ns (f ∷ fs) gs h k = (h.0, released-append ms ns fs gs h.1 k)

released-before : (shared : Shared) (ms : List Message) → AllReleased (HasAcse shared.set) ms → ReleasedIn ms (before shared ms)
released-before shared [] h = tt
released-before shared (m ∷ ms) h = (h.0, released-before shared ms h.1)

record NotEmpty (message : Message) (left : List Message) (fs : List (List SetItem)) : Type 0 where
  first : List SetItem
  rest : List (List SetItem)
  is_it : fs ≡ first ∷ rest
  release : OnRelease message (HasAcse first)
  released : ReleasedIn left rest

not-empty : (message : Message) (left : List Message) (fs : List (List SetItem)) → ReleasedIn (message ∷ left) fs → NotEmpty message left fs
not-empty message left [] h = absurd h
not-empty message left (f ∷ fs) h = record { first = f; rest = fs; is_it = refl; release = h.0; released = h.1 }

-- with the pairs that the set gave
abbrev under : Message → List SetItem → PairedMessage
under message set = record { message = message; pairs = map (λ (v : DataValue). pair_of set v.id) (values_in message) }

abbrev expected : List Message → List (List SetItem) → List PairedMessage
expected [] sets = []
expected (m ∷ ms) [] = []
expected (m ∷ ms) (set ∷ sets) = under m set ∷ expected ms sets

expected-append : (ms ns : List Message) (fs gs : List (List SetItem)) → ReleasedIn ms fs → expected (ms ++ ns) (fs ++ gs) ≡ expected ms fs ++ expected ns gs
expected-append [] ns [] gs h = refl
expected-append [] ns (f ∷ fs) gs h = absurd h
expected-append (m ∷ ms) ns [] gs h = absurd h
expected-append (m ∷ ms) ns (f ∷ fs) gs h = ap (λ (l : List PairedMessage). under m f ∷ l) (expected-append ms ns fs gs h.1)

-- ---- what an end read follows what the other sent, and the rest is on its way

abbrev Follows : List (Option PairedMessage) → List PairedMessage → List PairedMessage → Type 0
Follows [] all coming = all ≡ coming
Follows (reading ∷ more) [] coming = ⊥
Follows (None ∷ more) (p ∷ ps) coming = Follows more ps coming
Follows (Some reading ∷ more) (p ∷ ps) coming = (reading ≡ p) × Follows more ps coming

follows-sent : (rs : List (Option PairedMessage)) (all coming more : List PairedMessage) → Follows rs all coming → Follows rs (all ++ more) (coming ++ more)
follows-sent [] all coming more h = ap (λ (l : List PairedMessage). l ++ more) h
follows-sent (r ∷ rs) [] coming more h = absurd h
follows-sent (None ∷ rs) (p ∷ ps) coming more h = follows-sent rs ps coming more h
follows-sent (Some r ∷ rs) (p ∷ ps) coming more h = (h.0, follows-sent rs ps coming more h.1)

follows-none : (rs : List (Option PairedMessage)) (all coming left : List PairedMessage) (p : PairedMessage) → coming ≡ p ∷ left → Follows rs all coming → Follows (rs ++ None ∷ []) all left
follows-none [] all coming left p e h = subst (λ (l : List PairedMessage). Follows (None ∷ []) l left) (sym (h ∙ e)) refl
follows-none (r ∷ rs) [] coming left p e h = absurd h
follows-none (None ∷ rs) (x ∷ xs) coming left p e h = follows-none rs xs coming left p e h
follows-none (Some r ∷ rs) (x ∷ xs) coming left p e h = (h.0, follows-none rs xs coming left p e h.1)

follows-some : (rs : List (Option PairedMessage)) (all coming left : List PairedMessage) (p r : PairedMessage) → coming ≡ p ∷ left → r ≡ p → Follows rs all coming → Follows (rs ++ Some r ∷ []) all left
follows-some [] all coming left p r e k h = subst (λ (l : List PairedMessage). Follows (Some r ∷ []) l left) (sym (h ∙ e)) (k, refl)
follows-some (q ∷ rs) [] coming left p r e k h = absurd h
follows-some (None ∷ rs) (x ∷ xs) coming left p r e k h = follows-some rs xs coming left p r e k h
follows-some (Some q ∷ rs) (x ∷ xs) coming left p r e k h = (h.0, follows-some rs xs coming left p r e k h.1)

as-sent : (rs : List (Option PairedMessage)) (all coming : List PairedMessage) → Follows rs all coming → AreAsSent rs all
as-sent [] all coming h = tt
as-sent (r ∷ rs) [] coming h = absurd h
as-sent (None ∷ rs) (p ∷ ps) coming h = as-sent rs ps coming h
as-sent (Some r ∷ rs) (p ∷ ps) coming h = (h.0, as-sent rs ps coming h.1)

more-sent : (rs : List (Option PairedMessage)) (all more : List PairedMessage) → AreAsSent rs all → AreAsSent rs (all ++ more)
more-sent [] all more h = tt
more-sent (r ∷ rs) [] more h = absurd h
more-sent (None ∷ rs) (p ∷ ps) more h = more-sent rs ps more h
more-sent (Some r ∷ rs) (p ∷ ps) more h = (h.0, more-sent rs ps more h.1)

-- ---- what steps of one end add to what is sent

stays : {X : Type 0} (x : Step) (ys : List X) → IsOn x → on_connection x ys ≡ ys
stays broke ys h = absurd h
stays _ ys h = refl

abbrev all_passed : Ends → Role → World → List Step → List PairedMessage
all_passed ends role w [] = []
all_passed ends role w (x ∷ xs) = map (at_sending ends w) (sent_in x) ++ all_passed ends role (record { side = side_of role; step = x } ∷ w) xs

own-passed : (ends : Ends) (role : Role) (w : World) (xs : List Step) → AreOn xs → sendings ends (side_of role) (stepping (side_of role) w xs) ≡ sendings ends (side_of role) w ++ all_passed ends role w xs
own-passed ends role w [] h = sym (append-nil (sendings ends (side_of role) w))
own-passed ends Initiator w (x ∷ xs) h =
    own-passed ends Initiator (record { side = A; step = x } ∷ w) xs h.1
    ∙ ap (λ (l : List PairedMessage). l ++ all_passed ends Initiator (record { side = A; step = x } ∷ w) xs) (stays x (sendings ends A w ++ map (at_sending ends w) (sent_in x)) h.0)
    ∙ append_assoc (sendings ends A w) (map (at_sending ends w) (sent_in x)) (all_passed ends Initiator (record { side = A; step = x } ∷ w) xs)
own-passed ends Responder w (x ∷ xs) h =
    own-passed ends Responder (record { side = B; step = x } ∷ w) xs h.1
    ∙ ap (λ (l : List PairedMessage). l ++ all_passed ends Responder (record { side = B; step = x } ∷ w) xs) (stays x (sendings ends B w ++ map (at_sending ends w) (sent_in x)) h.0)
    ∙ append_assoc (sendings ends B w) (map (at_sending ends w) (sent_in x)) (all_passed ends Responder (record { side = B; step = x } ∷ w) xs)

peer-passed : (ends : Ends) (role : Role) (w : World) (xs : List Step) → AreOn xs → sendings ends (side_of (other role)) (stepping (side_of role) w xs) ≡ sendings ends (side_of (other role)) w
peer-passed ends role w [] h = refl
peer-passed ends Initiator w (x ∷ xs) h = peer-passed ends Initiator (record { side = A; step = x } ∷ w) xs h.1 ∙ stays x (sendings ends B w) h.0
peer-passed ends Responder w (x ∷ xs) h = peer-passed ends Responder (record { side = B; step = x } ∷ w) xs h.1 ∙ stays x (sendings ends A w) h.0

few-sents : (ends : Ends) (role : Role) (w : World) (shared : Shared) (ms : List Message) → Few ms → shared_at ends w ≡ shared → all_passed ends role w (map sent ms) ≡ expected ms (before shared ms)
few-sents ends role w shared [] nobody e = refl
few-sents ends role w shared (m ∷ []) (one _) e = ap (λ (s : Shared). under m s.set ∷ []) e
few-sents ends role w shared (m ∷ (n ∷ ms)) f e = elim f [ ]

few-answers : (ends : Ends) (role : Role) (w : World) (shared : Shared) (to : Message) (ms : List Message) → Few ms → shared_at ends w ≡ shared → all_passed ends role w (map (answered to) ms) ≡ expected ms (before shared ms)
few-answers ends role w shared to [] nobody e = refl
few-answers ends role w shared to (m ∷ []) (one _) e = ap (λ (s : Shared). under m s.set ∷ []) e
few-answers ends role w shared to (m ∷ (n ∷ ms)) f e = elim f [ ]

own-sets : (role : Role) (left more : List (List SetItem)) (sets : SetsSent) → sets_to role (sets_stepped role left more sets) ≡ left
own-sets Initiator left more sets = refl
own-sets Responder left more sets = refl

peer-sets : (role : Role) (left more : List (List SetItem)) (sets : SetsSent) → sets_to (other role) (sets_stepped role left more sets) ≡ sets_to (other role) sets ++ more
peer-sets Initiator left more sets = refl
peer-sets Responder left more sets = refl

module _ (free : Free) (tables : Tables) (spellings : Spellings) (a b : Config) where
  abbrev common : Common
  common = direct_common tables spellings a b

  abbrev base : Role → Base
  base role = base_at role common

  abbrev ends : Ends
  ends = ends_for common

  pub record Sent (w : World) (two : Two) (shared : Shared) : Type 0 where
    sets : SetsSent
    shares : Shares common two shared sets
    stands : (role : Role) → Stands (body_at role two) shared
    accepted : (role : Role) → HasAcceptance (coming_to role two) → IsFirm shared
    released : (role : Role) → ReleasedIn (coming_to role two) (sets_to role sets)
    follows : (role : Role) → Follows (readings (side_of role) w) (sendings ends (side_of (other role)) w) (expected (coming_to role two) (sets_to role sets))

  -- ---- a step of one end

  module _ (role : Role) (w v : World) (two : Two) (shared new : Shared) (later : Body) (left more : List Message) (rest : List (List SetItem)) (x : Sent w two shared)
      (shares : Shares common (stepped role later left more two) new (sets_stepped role rest (before shared more) x.sets)) (d : Does (body_at role two) later more shared new) (accepts : HasAcceptance left → HasAcceptance (coming_to role two)) (released : ReleasedIn left rest)
      (follows : Follows (readings (side_of role) v) (sendings ends (side_of (other role)) v) (expected left rest)) (unread : readings (side_of (other role)) v ≡ readings (side_of (other role)) w)
      (sends : sendings ends (side_of role) v ≡ sendings ends (side_of role) w ++ expected more (before shared more)) where
    abbrev after : Two
    after = stepped role later left more two

    abbrev sets_after : SetsSent
    sets_after = sets_stepped role rest (before shared more) x.sets

    all-released : AllReleased (HasAcse shared.set) more
    all-released = d.released (x.stands role)

    peer-released : ReleasedIn (coming_to (other role) two ++ more) (sets_to (other role) x.sets ++ before shared more)
    peer-released = released-append (coming_to (other role) two) more (sets_to (other role) x.sets) (before shared more) (x.released (other role)) (released-before shared more all-released)

    peer-follows : Follows (readings (side_of (other role)) v) (sendings ends (side_of (other (other role))) v) (expected (coming_to (other role) after) (sets_to (other role) sets_after))
    peer-follows =
        subst (λ (c : List Message). Follows (readings (side_of (other role)) v) (sendings ends (side_of (other (other role))) v) (expected c (sets_to (other role) sets_after))) (sym (peer-coming role later left more two))
        (subst (λ (fs : List (List SetItem)). Follows (readings (side_of (other role)) v) (sendings ends (side_of (other (other role))) v) (expected (coming_to (other role) two ++ more) fs)) (sym (peer-sets role rest (before shared more) x.sets))
        (subst (λ (r : Role). Follows (readings (side_of (other role)) v) (sendings ends (side_of r) v) (expected (coming_to (other role) two ++ more) (sets_to (other role) x.sets ++ before shared more))) (sym (other-other role))
        (subst (λ (rs : List (Option PairedMessage)). Follows rs (sendings ends (side_of role) v) (expected (coming_to (other role) two ++ more) (sets_to (other role) x.sets ++ before shared more))) (sym unread)
        (subst (λ (ps : List PairedMessage). Follows (readings (side_of (other role)) w) ps (expected (coming_to (other role) two ++ more) (sets_to (other role) x.sets ++ before shared more))) (sym sends)
        (subst (λ (ps : List PairedMessage). Follows (readings (side_of (other role)) w) (sendings ends (side_of role) w ++ expected more (before shared more)) ps)
        (sym (expected-append (coming_to (other role) two) more (sets_to (other role) x.sets) (before shared more) (x.released (other role))))
        (follows-sent (readings (side_of (other role)) w) (sendings ends (side_of role) w) (expected (coming_to (other role) two) (sets_to (other role) x.sets)) (expected more (before shared more))
        (subst (λ (r : Role). Follows (readings (side_of (other role)) w) (sendings ends (side_of r) w) (expected (coming_to (other role) two) (sets_to (other role) x.sets))) (other-other role) (x.follows (other role)))))))))

    peer-accepts : HasAcceptance (coming_to (other role) two ++ more) → IsFirm new
    peer-accepts h = go (acceptance-in (coming_to (other role) two) more h)
      where
        go : HasAcceptance (coming_to (other role) two) ⊎ HasAcceptance more → IsFirm new
        go (inl k) = d.firm (x.stands role) (x.accepted (other role) k)
        go (inr k) = d.accepts k

    made : Sent v after new
    made = record {
      sets = sets_after;
      shares = shares;
      stands =
          both role (λ (r : Role). Stands (body_at r after) new) (subst (λ (y : Body). Stands y new) (sym (own-body role later left more two)) (d.stands (x.stands role)))
          (subst (λ (y : Body). Stands y new) (sym (peer-body role later left more two)) (λ e. let s = x.stands (other role) e in (s.0, d.firm (x.stands role) s.1)));
      accepted =
          both role (λ (r : Role). HasAcceptance (coming_to r after) → IsFirm new) (λ h. d.firm (x.stands role) (x.accepted role (accepts (subst HasAcceptance (own-coming role later left more two) h))))
          (λ h. peer-accepts (subst HasAcceptance (peer-coming role later left more two) h));
      released =
          both role (λ (r : Role). ReleasedIn (coming_to r after) (sets_to r sets_after))
          (subst (λ (c : List Message). ReleasedIn c (sets_to role sets_after)) (sym (own-coming role later left more two)) (subst (ReleasedIn left) (sym (own-sets role rest (before shared more) x.sets)) released))
          (subst (λ (c : List Message). ReleasedIn c (sets_to (other role) sets_after)) (sym (peer-coming role later left more two)) (subst (ReleasedIn (coming_to (other role) two ++ more)) (sym (peer-sets role rest (before shared more) x.sets)) peer-released));
      follows =
          both role (λ (r : Role). Follows (readings (side_of r) v) (sendings ends (side_of (other r)) v) (expected (coming_to r after) (sets_to r sets_after)))
          (subst (λ (c : List Message). Follows (readings (side_of role) v) (sendings ends (side_of (other role)) v) (expected c (sets_to role sets_after))) (sym (own-coming role later left more two))
          (subst (λ (fs : List (List SetItem)). Follows (readings (side_of role) v) (sendings ends (side_of (other role)) v) (expected left fs)) (sym (own-sets role rest (before shared more) x.sets)) follows))
          peer-follows;
    }

  -- ---- a taking

  pub record Took (role : Role) (body : Body) (word : Word) (later : Body) (answers : List Message) : Type 0 where
    pub fine : word_fault (base role) body word ≡ None
    pub later_is : after_word (base role) body word ≡ later
    pub answers_are : answers_to_word (base role) body word ≡ answers

  pub took-word : (role : Role) (body : Body) (word : Word) (later : Body) (answers : List Message) (shown : List Indication) → react (base role) body (Session word) ≡ Takes later answers shown → Took role body word later answers
  took-word role body word later answers shown h =
      go (passes_over body.link.phase) (is_joined body.link.stage || is_carrying body.link.stage) (is_purged (is_initiator role) body.link.awaits (unit_of word)) (word_fault (base role) body word) refl h
    where
      go : (p q u : Bool) (f : Option Fault) → word_fault (base role) body word ≡ f → (if p then Passes else (if not q then failing body body.link.accepted transport_fault else (if u then Passes else on_word (base role) body word f))) ≡ Takes later answers shown → Took role body word later answers
      go true q u f g h = cc
      go false false u f g h = cc
      go false true true f g h = cc
      go false true false (Some fault) g h = cc
      go false true false None g h =
          let x : after_word (base role) body word ≡ later = cc in
          let y : answers_to_word (base role) body word ≡ answers = cc in
          record { fine = g; later_is = x; answers_are = y }

  module _ (writes : WritesAll free) (back : ReadsBack (base Initiator)) (right : ProposesRightly common) (contexts : ProposesContexts common) where
    ids : AreIdentifiers (proposals (base Initiator))
    ids = listed-identifiers (proposals (base Initiator)) contexts

    said : (two : Two) (ledger : Ledger) → Speaks common two ledger → (role : Role) → AreMessages (base Initiator) (base Responder) (coming_to role two)
    said two ledger s role = direct-says free tables spellings a b writes back right contexts two ledger s role

    pub first-said : (two : Two) (ledger : Ledger) → Speaks common two ledger → (role : Role) (message : Message) (left : List Message) → coming_to role two ≡ message ∷ left → IsMessage (base Initiator) (base Responder) message
    first-said two ledger s role message left e = (subst (AreMessages (base Initiator) (base Responder)) e (said two ledger s role)).0

    taken-does : (role : Role) (body : Body) (shared : Shared) (message : Message) (later : Body) (answers : List Message) (shown : List Indication) → IsMessage (base Initiator) (base Responder) message → (IsAcceptance message → IsFirm shared) → react (base role) body message ≡ Takes later answers shown → Does body later answers shared (shared_all_answered (base role) message answers shared)
    taken-does role body shared (Transport unit) later answers shown i f h =
        let t = took-unit (base role) body unit later answers shown h in
        subst (λ (z : Body). Does body z answers shared (shared_all_answered (base role) (Transport unit) answers shared)) (sym t.later_is)
        (subst (λ (ms : List Message). Does body (after_transport (base role) body unit) ms shared (shared_all_answered (base role) (Transport unit) ms shared)) (sym t.answers_are) (unit-does tables spellings a b right ids body shared role unit i))
    taken-does role body shared (Session word) later answers shown i f h =
        let t = took-word role body word later answers shown h in
        subst (λ (z : Body). Does body z answers shared (shared_all_answered (base role) (Session word) answers shared)) t.later_is
        (subst (λ (ms : List Message). Does body (after_word (base role) body word) ms shared (shared_all_answered (base role) (Session word) ms shared)) t.answers_are
        (word-does tables spellings a b right ids body shared role word i (in-place (base role) body word t.fine) (nothing-above (base role) body word t.fine) f))

    -- what is read is what was sent, with its pairs
    read-so : (two : Two) (shared : Shared) (sets : SetsSent) (role : Role) (message : Message) (left : List Message) (set : List SetItem) (rest : List (List SetItem)) (body : Body) (answers : List Message) (shown : List Indication) → Shares common two shared sets → IsMessage (base Initiator) (base Responder) message → coming_to role two ≡ message ∷ left → sets_to role sets ≡ set ∷ rest → OnRelease message (HasAcse set) → react (base role) (body_at role two) message ≡ Takes body answers shown → as_read message ≡ under message set
    read-so two shared sets role message left set rest body answers shown s i e f o h = go message i e o h
      where
        go : (m : Message) → IsMessage (base Initiator) (base Responder) m → coming_to role two ≡ m ∷ left → OnRelease m (HasAcse set) → react (base role) (body_at role two) m ≡ Takes body answers shown → as_read m ≡ under m set
        go (Transport unit) i e o h = refl
        go (Session (OfAssociation (Connect session presentation values))) i e o h = refl
        go (Session (OfAssociation (Accept session presentation values))) i e o h = refl
        go (Session (OfAssociation (Refuse transport reason presentation values))) i e o h = refl
        go (Session (OfAssociation (Finish transport values))) i e o h =
            subst (λ w. HasAcse set → as_read (Session (OfAssociation w)) ≡ under (Session (OfAssociation w)) set) (sym i) (λ k. ap (λ (p : Option Pair). record { message = Session (OfAssociation the_finish); pairs = p ∷ [] }) (sym k)) o
        go (Session (OfAssociation (Disconnect values))) i e o h =
            subst (λ w. HasAcse set → as_read (Session (OfAssociation w)) ≡ under (Session (OfAssociation w)) set) (sym i) (λ k. ap (λ (p : Option Pair). record { message = Session (OfAssociation the_disconnect); pairs = p ∷ [] }) (sym k)) o
        go (Session (OfAssociation (Abort transport user))) i e o h = refl
        go (Session (OfAssociation AbortAccept)) i e o h = refl
        go (Session (OfData (Values values))) i e o h =
            let e_one : coming_to role two ≡ Session (OfData (Values (value_of_item i.item ∷ []))) ∷ left = e ∙ ap (λ vs. Session (OfData (Values vs)) ∷ left) i.is_one in
            let h_one : react (base role) (body_at role two) (Session (OfData (Values (value_of_item i.item ∷ [])))) ≡ Takes body answers shown = subst (λ vs. react (base role) (body_at role two) (Session (OfData (Values vs))) ≡ Takes body answers shown) i.is_one h in
            let p = direct-as_sent free tables spellings a b writes back right two shared sets role (value_of_item i.item) left set rest body answers shown s e_one f h_one in
            subst (λ vs. as_read (Session (OfData (Values vs))) ≡ under (Session (OfData (Values vs))) set) (sym i.is_one)
            (ap (λ (p : Option Pair). record { message = Session (OfData (Values (value_of_item i.item ∷ []))); pairs = p ∷ [] }) (sym p.1))
        go (Session (OfData (AlterContext add delete))) i e o h = refl
        go (Session (OfData (AlterContextAck answers_))) i e o h = refl
        go (Session (OfMarks (Mark number))) i e o h = refl
        go (Session (OfMarks (MarkAck number))) i e o h = refl
        go (Session (OfMarks (Restart number list))) i e o h = refl
        go (Session (OfMarks (RestartAck number list))) i e o h = refl
        go (Session (OfMarks (Give tokens))) i e o h = refl
        go (Session (OfMarks (Please tokens values))) i e o h = subst (λ vs. as_read (Session (OfMarks (Please tokens vs))) ≡ under (Session (OfMarks (Please tokens vs))) set) (sym i.1) refl
        go (Session (OfMarks GiveConfirm)) i e o h = refl
        go (Session (OfMarks GiveAck)) i e o h = refl
        go (Session (OfActivities word)) i e o h = refl

    -- ---- all steps

    called-shared : (role : Role) (w : World) (call : Call) (answer : Option ℤ) → shared_at ends (record { side = side_of role; step = called call (Ok answer) } ∷ w) ≡ shared_at ends w
    called-shared Initiator w call answer = refl
    called-shared Responder w call answer = refl

    called-so : (role : Role) (w : World) (two : Two) (shared : Shared) (call : Call) (answer : Option ℤ) (y : Body) → y ≡ body_at role two → can_call (base role) y call ≡ Ok answer → shared_at ends w ≡ shared → Sent w two shared
        → Sent (stepping (side_of role) w (called call (Ok answer) ∷ map sent (due_of (base role) y call (Ok answer)))) (stepped role (after_called Direct (base role) y call answer) (coming_to role two) (due_of (base role) y call (Ok answer)) two) (shared_all_sent Direct (side_of role) (due_of (base role) y call (Ok answer)) shared)
    called-so role w two shared call answer y e c s x =
        subst (λ (z : Body). can_call (base role) z call ≡ Ok answer → Sent (stepping (side_of role) w (called call (Ok answer) ∷ map sent (due_of (base role) z call (Ok answer)))) (stepped role (after_called Direct (base role) z call answer) (coming_to role two) (due_of (base role) z call (Ok answer)) two) (shared_all_sent Direct (side_of role) (due_of (base role) z call (Ok answer)) shared))
        (sym e) here c
      where
        here : can_call (base role) (body_at role two) call ≡ Ok answer → Sent (stepping (side_of role) w (called call (Ok answer) ∷ map sent (due_of (base role) (body_at role two) call (Ok answer)))) (stepped role (after_called Direct (base role) (body_at role two) call answer) (coming_to role two) (due_of (base role) (body_at role two) call (Ok answer)) two) (shared_all_sent Direct (side_of role) (due_of (base role) (body_at role two) call (Ok answer)) shared)
        here c =
            let due : List Message = due_of (base role) (body_at role two) call (Ok answer) in
            let xs : List Step = called call (Ok answer) ∷ map sent due in
            let on : AreOn xs = (tt, sents-on due) in
            let d = call-does (base role) (side_of role) (body_at role two) shared call answer c in
            made role w (stepping (side_of role) w xs) two shared (shared_all_sent Direct (side_of role) due shared) (after_called Direct (base role) (body_at role two) call answer) (coming_to role two) due (sets_to role x.sets) x
            (sharing.calls two shared x.sets role call answer x.shares c) d (λ h. h) (x.released role)
            (subst (λ (rs : List (Option PairedMessage)). Follows rs (sendings ends (side_of (other role)) (stepping (side_of role) w xs)) (expected (coming_to role two) (sets_to role x.sets)))
            (sym (own-readings role w xs on ∙ ap (λ (l : List (Option PairedMessage)). readings (side_of role) w ++ l) (sents-read due) ∙ append-nil (readings (side_of role) w)))
            (subst (λ (ps : List PairedMessage). Follows (readings (side_of role) w) ps (expected (coming_to role two) (sets_to role x.sets))) (sym (peer-passed ends role w xs on)) (x.follows role)))
            (peer-readings role w xs on)
            (own-passed ends role w xs on ∙ ap (λ (l : List PairedMessage). sendings ends (side_of role) w ++ l) (few-sents ends role (record { side = side_of role; step = called call (Ok answer) } ∷ w) shared due d.few (called-shared role w call answer ∙ s)))

    took-shared : (role : Role) (w : World) (message : Message) → shared_at ends (record { side = side_of role; step = took message } ∷ w) ≡ shared_at ends w
    took-shared Initiator w message = refl
    took-shared Responder w message = refl

    taken-so : (role : Role) (w : World) (two : Two) (ledger : Ledger) (message : Message) (left : List Message) (body : Body) (answers : List Message) (shown : List Indication) → Speaks common two ledger → shared_at ends w ≡ ledger.shared → coming_to role two ≡ message ∷ left → react (base role) (body_at role two) message ≡ Takes body answers shown → Sent w two ledger.shared
        → Sent (stepping (side_of role) w (took message ∷ map (answered message) answers)) (stepped role body left answers two) (shared_all_answered (base role) message answers ledger.shared)
    taken-so role w two ledger message left body answers shown speaks s e r x =
        let n = not-empty message left (sets_to role x.sets) (subst (λ (c : List Message). ReleasedIn c (sets_to role x.sets)) e (x.released role)) in
        let i = first-said two ledger speaks role message left e in
        let xs : List Step = took message ∷ map (answered message) answers in
        let on : AreOn xs = (tt, answers-on message answers) in
        let d = taken-does role (body_at role two) ledger.shared message body answers shown i (λ h. x.accepted role (acceptance-first message (coming_to role two) left e h)) r in
        let same : expected (coming_to role two) (sets_to role x.sets) ≡ under message n.first ∷ expected left n.rest = (λ k. expected (e k) (n.is_it k)) in
        let read : as_read message ≡ under message n.first = read-so two ledger.shared x.sets role message left n.first n.rest body answers shown x.shares i e n.is_it n.release r in
        made role w (stepping (side_of role) w xs) two ledger.shared (shared_all_answered (base role) message answers ledger.shared) body left answers n.rest x
        (sharing.takes two ledger.shared x.sets role message left n.first n.rest body answers shown x.shares e n.is_it r) d (acceptance-later message (coming_to role two) left e) n.released
        (subst (λ (rs : List (Option PairedMessage)). Follows rs (sendings ends (side_of (other role)) (stepping (side_of role) w xs)) (expected left n.rest))
        (sym (own-readings role w xs on ∙ ap (λ (l : List (Option PairedMessage)). readings (side_of role) w ++ (Some (as_read message) ∷ l)) (answers-read message answers)))
        (subst (λ (ps : List PairedMessage). Follows (readings (side_of role) w ++ Some (as_read message) ∷ []) ps (expected left n.rest)) (sym (peer-passed ends role w xs on))
        (follows-some (readings (side_of role) w) (sendings ends (side_of (other role)) w) (expected (coming_to role two) (sets_to role x.sets)) (expected left n.rest) (under message n.first) (as_read message) same read (x.follows role))))
        (peer-readings role w xs on)
        (own-passed ends role w xs on ∙ ap (λ (l : List PairedMessage). sendings ends (side_of role) w ++ l) (few-answers ends role (record { side = side_of role; step = took message } ∷ w) ledger.shared message answers d.few (took-shared role w message ∙ s)))

    passed-so : (role : Role) (w : World) (two : Two) (shared : Shared) (message : Message) (left : List Message) → coming_to role two ≡ message ∷ left → react (base role) (body_at role two) message ≡ Passes → Sent w two shared
        → Sent (stepping (side_of role) w (passed ∷ [])) (stepped role (body_at role two) left [] two) shared
    passed-so role w two shared message left e r x =
        let n = not-empty message left (sets_to role x.sets) (subst (λ (c : List Message). ReleasedIn c (sets_to role x.sets)) e (x.released role)) in
        let xs : List Step = passed ∷ [] in
        let on : AreOn xs = (tt, tt) in
        let same : expected (coming_to role two) (sets_to role x.sets) ≡ under message n.first ∷ expected left n.rest = (λ k. expected (e k) (n.is_it k)) in
        made role w (stepping (side_of role) w xs) two shared shared (body_at role two) left [] n.rest x
        (sharing.passes two shared x.sets role message left n.first n.rest x.shares e n.is_it r)
        (record { stands = λ h. h; firm = λ h f. f; accepts = λ h. absurd h; released = λ h. tt; few = nobody }) (acceptance-later message (coming_to role two) left e) n.released
        (subst (λ (rs : List (Option PairedMessage)). Follows rs (sendings ends (side_of (other role)) (stepping (side_of role) w xs)) (expected left n.rest)) (sym (own-readings role w xs on))
        (subst (λ (ps : List PairedMessage). Follows (readings (side_of role) w ++ None ∷ []) ps (expected left n.rest)) (sym (peer-passed ends role w xs on))
        (follows-none (readings (side_of role) w) (sendings ends (side_of (other role)) w) (expected (coming_to role two) (sets_to role x.sets)) (expected left n.rest) (under message n.first) same (x.follows role))))
        (peer-readings role w xs on)
        (own-passed ends role w xs on)

    -- a step that neither sends nor takes
    quiet-on : (x : Step) → IsQuiet x → AreOn (x ∷ [])
    quiet-on (called call (Err refusal)) q = (tt, tt)
    quiet-on (fed octets) q = (tt, tt)
    quiet-on feed_end q = (tt, tt)
    quiet-on (gave n) q = (tt, tt)
    quiet-on _ q = absurd q

    quiet-reads : (x : Step) → IsQuiet x → all_read (x ∷ []) ≡ []
    quiet-reads (called call (Err refusal)) q = refl
    quiet-reads (fed octets) q = refl
    quiet-reads feed_end q = refl
    quiet-reads (gave n) q = refl
    quiet-reads _ q = absurd q

    quiet-sends : (role : Role) (w : World) (x : Step) → IsQuiet x → all_passed ends role w (x ∷ []) ≡ []
    quiet-sends role w (called call (Err refusal)) q = refl
    quiet-sends role w (fed octets) q = refl
    quiet-sends role w feed_end q = refl
    quiet-sends role w (gave n) q = refl
    quiet-sends role w _ q = absurd q

    quiet-so : (role : Role) (w : World) (two : Two) (shared : Shared) (x : Step) → IsQuiet x → Sent w two shared → Sent (record { side = side_of role; step = x } ∷ w) two shared
    quiet-so role w two shared x q s =
        let xs : List Step = x ∷ [] in
        let on = quiet-on x q in
        let v = stepping (side_of role) w xs in
        let own_read : readings (side_of role) v ≡ readings (side_of role) w = own-readings role w xs on ∙ ap (λ (l : List (Option PairedMessage)). readings (side_of role) w ++ l) (quiet-reads x q) ∙ append-nil (readings (side_of role) w) in
        let own_sent : sendings ends (side_of role) v ≡ sendings ends (side_of role) w = own-passed ends role w xs on ∙ ap (λ (l : List PairedMessage). sendings ends (side_of role) w ++ l) (quiet-sends role w x q) ∙ append-nil (sendings ends (side_of role) w) in
        record {
          sets = s.sets;
          shares = s.shares;
          stands = s.stands;
          accepted = s.accepted;
          released = s.released;
          follows =
              both role (λ (r : Role). Follows (readings (side_of r) v) (sendings ends (side_of (other r)) v) (expected (coming_to r two) (sets_to r s.sets)))
              (subst (λ (rs : List (Option PairedMessage)). Follows rs (sendings ends (side_of (other role)) v) (expected (coming_to role two) (sets_to role s.sets))) (sym own_read)
              (subst (λ (ps : List PairedMessage). Follows (readings (side_of role) w) ps (expected (coming_to role two) (sets_to role s.sets))) (sym (peer-passed ends role w xs on)) (s.follows role)))
              (subst (λ (r : Role). Follows (readings (side_of (other role)) v) (sendings ends (side_of r) v) (expected (coming_to (other role) two) (sets_to (other role) s.sets))) (sym (other-other role))
              (subst (λ (rs : List (Option PairedMessage)). Follows rs (sendings ends (side_of role) v) (expected (coming_to (other role) two) (sets_to (other role) s.sets))) (sym (peer-readings role w xs on))
              (subst (λ (ps : List PairedMessage). Follows (readings (side_of (other role)) w) ps (expected (coming_to (other role) two) (sets_to (other role) s.sets))) (sym own_sent)
              (subst (λ (r : Role). Follows (readings (side_of (other role)) w) (sendings ends (side_of r) w) (expected (coming_to (other role) two) (sets_to (other role) s.sets))) (other-other role) (s.follows (other role))))));
        }

    broke-so : (w : World) (two : Two) (shared : Shared) → Sent w two shared → Sent (record { side = B; step = broke } ∷ record { side = A; step = broke } ∷ w) (both_broke common two) shared
    broke-so w two shared x =
        record { sets = none_sent; shares = sharing.breaks two shared x.sets x.shares; stands = stands-so; accepted = accepted-so; released = released-so; follows = follows-so }
      where
        stands-so : (r : Role) → Stands (body_at r (both_broke common two)) shared
        stands-so Initiator = broke-falls tables spellings a b Initiator two.a shared
        stands-so Responder = broke-falls tables spellings a b Responder two.b shared

        accepted-so : (r : Role) → HasAcceptance (coming_to r (both_broke common two)) → IsFirm shared
        accepted-so Initiator h = absurd h
        accepted-so Responder h = absurd h

        released-so : (r : Role) → ReleasedIn (coming_to r (both_broke common two)) (sets_to r none_sent)
        released-so Initiator = tt
        released-so Responder = tt

        follows-so : (r : Role) → Follows (readings (side_of r) (record { side = B; step = broke } ∷ record { side = A; step = broke } ∷ w)) (sendings ends (side_of (other r)) (record { side = B; step = broke } ∷ record { side = A; step = broke } ∷ w)) (expected (coming_to r (both_broke common two)) (sets_to r none_sent))
        follows-so Initiator = refl
        follows-so Responder = refl

    -- ---- at each moment

    abbrev Ever : World → Type 0
    Ever w = AtEachMoment (TakenAsSent ends) w

    now : (w : World) → Ever w → TakenAsSent ends w
    now [] h = h
    now (m ∷ w) h = h.0

    -- from what each end read
    of-both : (w : World) → AreAsSent (readings B w) (sendings ends A w) → AreAsSent (readings A w) (sendings ends B w) → TakenAsSent ends w
    of-both w h k A = h
    of-both w h k B = k

    -- it adds nothing to what its end read, and may add to what it sent; or it ends the connection
    one-more : (x : Step) (w : World) (mine theirs : List (Option PairedMessage)) (own peer : List PairedMessage) → IsNoReading x → AreAsSent theirs own → AreAsSent mine peer
        → AreAsSent (on_connection x theirs) (on_connection x (own ++ map (at_sending ends w) (sent_in x))) × AreAsSent (on_connection x (mine ++ read_in x)) (on_connection x peer)
    one-more (took message) w mine theirs own peer n h k = absurd n
    one-more passed w mine theirs own peer n h k = absurd n
    one-more broke w mine theirs own peer n h k = (tt, tt)
    one-more x w mine theirs own peer n h k = (more-sent theirs own (map (at_sending ends w) (sent_in x)) h, subst (λ (l : List (Option PairedMessage)). AreAsSent l peer) (sym (append-nil mine)) k)

    stepped-on : (role : Role) (w : World) (x : Step) → IsNoReading x → Ever w → Ever (record { side = side_of role; step = x } ∷ w)
    stepped-on Initiator w x n h =
        let o = one-more x w (readings A w) (readings B w) (sendings ends A w) (sendings ends B w) n (now w h A) (now w h B) in
        (of-both (record { side = A; step = x } ∷ w) o.0 o.1, h)
    stepped-on Responder w x n h =
        let o = one-more x w (readings B w) (readings A w) (sendings ends B w) (sendings ends A w) n (now w h B) (now w h A) in
        (of-both (record { side = B; step = x } ∷ w) o.1 o.0, h)

    abbrev AreNoReadings : List Step → Type 0
    AreNoReadings [] = Unit {0}
    AreNoReadings (x ∷ xs) = IsNoReading x × AreNoReadings xs

    all-on : (role : Role) (w : World) (xs : List Step) → AreNoReadings xs → Ever w → Ever (stepping (side_of role) w xs)
    all-on role w [] n h = h
    all-on role w (x ∷ xs) n h = all-on role (record { side = side_of role; step = x } ∷ w) xs n.1 (stepped-on role w x n.0 h)

    sents-none : (ms : List Message) → AreNoReadings (map sent ms)
    sents-none [] = tt
    sents-none (m ∷ ms) = (tt, sents-none ms)

    answers-none : (to : Message) (ms : List Message) → AreNoReadings (map (answered to) ms)
    answers-none to [] = tt
    answers-none to (m ∷ ms) = (tt, answers-none to ms)

    quiet-none : (x : Step) → IsQuiet x → IsNoReading x
    quiet-none (called call (Err refusal)) q = tt
    quiet-none (fed octets) q = tt
    quiet-none feed_end q = tt
    quiet-none (gave n) q = tt
    quiet-none _ q = absurd q

    read-on : (role : Role) (w : World) (x : Step) → IsOn x → sent_in x ≡ [] → AreAsSent (readings (side_of role) w ++ read_in x) (sendings ends (side_of (other role)) w) → Ever w → Ever (record { side = side_of role; step = x } ∷ w)
    read-on Initiator w x on none f h =
        let o = stays x (readings A w ++ read_in x) on in
        let p = stays x (sendings ends B w) on in
        let q = stays x (readings B w) on in
        let s = stays x (sendings ends A w ++ map (at_sending ends w) (sent_in x)) on in (
          of-both (record { side = A; step = x } ∷ w) (subst (λ (rs : List (Option PairedMessage)). AreAsSent rs (on_connection x (sendings ends A w ++ map (at_sending ends w) (sent_in x)))) (sym q) (subst (AreAsSent (readings B w)) (sym s) (more-sent (readings B w) (sendings ends A w) (map (at_sending ends w) (sent_in x)) (now w h A))))
              (subst (λ (rs : List (Option PairedMessage)). AreAsSent rs (on_connection x (sendings ends B w))) (sym o) (subst (AreAsSent (readings A w ++ read_in x)) (sym p) f)),
          h,
        )
    read-on Responder w x on none f h =
        let o = stays x (readings B w ++ read_in x) on in
        let p = stays x (sendings ends A w) on in
        let q = stays x (readings A w) on in
        let s = stays x (sendings ends B w ++ map (at_sending ends w) (sent_in x)) on in (
          of-both (record { side = B; step = x } ∷ w) (subst (λ (rs : List (Option PairedMessage)). AreAsSent rs (on_connection x (sendings ends A w))) (sym o) (subst (AreAsSent (readings B w ++ read_in x)) (sym p) f))
              (subst (λ (rs : List (Option PairedMessage)). AreAsSent rs (on_connection x (sendings ends B w ++ map (at_sending ends w) (sent_in x)))) (sym q) (subst (AreAsSent (readings A w)) (sym s) (more-sent (readings A w) (sendings ends B w) (map (at_sending ends w) (sent_in x)) (now w h B)))),
          h,
        )

    took-on : (role : Role) (w : World) (two : Two) (ledger : Ledger) (message : Message) (left : List Message) (body : Body) (answers : List Message) (shown : List Indication) → Speaks common two ledger → coming_to role two ≡ message ∷ left → react (base role) (body_at role two) message ≡ Takes body answers shown → Sent w two ledger.shared → Ever w → Ever (record { side = side_of role; step = took message } ∷ w)
    took-on role w two ledger message left body answers shown speaks e r x h =
        let n = not-empty message left (sets_to role x.sets) (subst (λ (c : List Message). ReleasedIn c (sets_to role x.sets)) e (x.released role)) in
        let i = first-said two ledger speaks role message left e in
        let same : expected (coming_to role two) (sets_to role x.sets) ≡ under message n.first ∷ expected left n.rest = (λ k. expected (e k) (n.is_it k)) in
        let read : as_read message ≡ under message n.first = read-so two ledger.shared x.sets role message left n.first n.rest body answers shown x.shares i e n.is_it n.release r in
        read-on role w (took message) tt refl
        (as-sent (readings (side_of role) w ++ Some (as_read message) ∷ []) (sendings ends (side_of (other role)) w) (expected left n.rest)
        (follows-some (readings (side_of role) w) (sendings ends (side_of (other role)) w) (expected (coming_to role two) (sets_to role x.sets)) (expected left n.rest) (under message n.first) (as_read message) same read (x.follows role))) h

    passed-on : (role : Role) (w : World) (two : Two) (shared : Shared) (message : Message) (left : List Message) → coming_to role two ≡ message ∷ left → Sent w two shared → Ever w → Ever (record { side = side_of role; step = passed } ∷ w)
    passed-on role w two shared message left e x h =
        let n = not-empty message left (sets_to role x.sets) (subst (λ (c : List Message). ReleasedIn c (sets_to role x.sets)) e (x.released role)) in
        let same : expected (coming_to role two) (sets_to role x.sets) ≡ under message n.first ∷ expected left n.rest = (λ k. expected (e k) (n.is_it k)) in
        read-on role w passed tt refl
        (as-sent (readings (side_of role) w ++ None ∷ []) (sendings ends (side_of (other role)) w) (expected left n.rest)
        (follows-none (readings (side_of role) w) (sendings ends (side_of (other role)) w) (expected (coming_to role two) (sets_to role x.sets)) (expected left n.rest) (under message n.first) same (x.follows role))) h

    begun : Sent [] (two_new common) (shared_first (base Initiator))
    begun = record { sets = none_sent; shares = sharing.begins; stands = stands-so; accepted = accepted-so; released = released-so; follows = follows-so }
      where
        stands-so : (r : Role) → Stands (body_at r (two_new common)) (shared_first (base Initiator))
        stands-so Initiator = λ e. absurd cc
        stands-so Responder = λ e. absurd cc

        accepted-so : (r : Role) → HasAcceptance (coming_to r (two_new common)) → IsFirm (shared_first (base Initiator))
        accepted-so Initiator h = absurd h
        accepted-so Responder h = absurd h

        released-so : (r : Role) → ReleasedIn (coming_to r (two_new common)) (sets_to r none_sent)
        released-so Initiator = tt
        released-so Responder = tt

        follows-so : (r : Role) → Follows (readings (side_of r) []) (sendings ends (side_of (other r)) []) (expected (coming_to r (two_new common)) (sets_to r none_sent))
        follows-so Initiator = refl
        follows-so Responder = refl

    at-first : TakenAsSent ends []
    at-first A = tt
    at-first B = tt

    pub sent-keeps : Keeps common (λ w two ledger exchanges. Sent w two ledger.shared × Ever w)
    sent-keeps = record {
      begins = (begun, at-first);
      calls = λ role w two ledger exchanges call answer j c h. (
        called-so role w two ledger.shared call answer (end_for common role w).body (j.bodies role) c j.shared h.0,
        all-on role w (called call (Ok answer) ∷ map sent (due_of (base role) (end_for common role w).body call (Ok answer))) (tt, sents-none (due_of (base role) (end_for common role w).body call (Ok answer))) h.1,
      );
      acts = λ role w two ledger exchanges own j c h. let none : None ≡ Some own = sym (no-own free tables spellings a b role (end_for common role w).body) ∙ c in absurd cc;
      takes = λ role w two ledger exchanges message left body answers shown j e r h. (
        taken-so role w two ledger message left body answers shown j.speaks j.shared e r h.0,
        all-on role (record { side = side_of role; step = took message } ∷ w) (map (answered message) answers) (answers-none message answers) (took-on role w two ledger message left body answers shown j.speaks e r h.0 h.1),
      );
      passes = λ role w two ledger exchanges message left j e r h. (passed-so role w two ledger.shared message left e r h.0, passed-on role w two ledger.shared message left e h.0 h.1);
      quiet = λ role w two ledger exchanges x q h. (quiet-so role w two ledger.shared x q h.0, stepped-on role w x (quiet-none x q) h.1);
      breaks = λ w two ledger exchanges j h. (broke-so w two ledger.shared h.0, stepped-on Responder (record { side = A; step = broke } ∷ w) broke tt (stepped-on Initiator w broke tt h.1));
    }

    pub taken-as-sent : IsMeant common → (w : World) (all : List Event) (told : List Entry) → AreEvents all → Runs ends [] all told w → Ever w
    taken-as-sent m w all told typed r = (from-start common m (λ w two ledger exchanges. Sent w two ledger.shared × Ever w) sent-keeps w all told typed r).extra.1
