-- Words of an association that stands, as an end of this product sends them in direct mode; what is passed over of them.
use Rattle.std.proofs.Common.{◌≡◌, refl, true, ◌∙◌, sym, ap, subst, List, [], ◌∷◌, ◌++◌, ◌⊎◌}
use Rattle.std.specs.Prelude.{Bool, Some}
use Rattle.osi_base.specs.declared.layer_words.Proposal.{Proposal}
use Rattle.dialogue.specs.declared.config.Mode.TheVariants.{Direct}
use Rattle.dialogue.specs.declared.config.Phase.TheVariants.{Up, Releasing, Over}
use Rattle.end_rules.specs.Base.{Base, Item}
use Rattle.end_rules.specs.Messages.{Remote, DataValue, Word, AssociationWord, DataWord, MarkWord, value_of_item}
use Rattle.end_rules.specs.Messages.{OfAssociation, OfData, OfMarks, OfActivities, Finish}
use Rattle.end_rules.specs.Messages.{Disconnect, Abort, Values, AlterContext, AlterContextAck, Mark}
use Rattle.end_rules.specs.Messages.{Restart, RestartAck, Give, Please, Message, Transport, Session}
use Rattle.end_rules.specs.Messages.{unit_of}
use Rattle.end_rules.specs.State.{Body, Awaited}
use Rattle.end_rules.specs.Connecting.{the_one}
use Rattle.end_rules.specs.Purging.{is_purged}
use Rattle.end_rules.specs.Requesting.{after_sent}
use Rattle.end_rules.specs.TakesAssociation.{is_release_request, is_release_response}
use Rattle.end_rules.specs.TakesData.{alteration}
use Rattle.agreement.specs.Messages.{Message as ModelMessage}
use Rattle.agreement.specs.Takings.{is_purged as model_purged}
use Rattle.end_model.specs.Seen.{role_seen, awaited_seen, item_seen, items_seen}
use Rattle.end_model.specs.Rows.{at}
use Rattle.end_model.specs.Meant.{list_meant}
use Rattle.end_model.specs.OpenInvocations.{IsProper, IsReadBack}
use Rattle.end_model.specs.Words.{Means, AreMeant, results_seen, AreOurs}
use Rattle.end_model.specs.Requests.{sent_all}
use Rattle.end_model.specs.Takings.{IsJoined}
use Rattle.end_model.proofs.PurgedWords as words

-- ---- words

pub record OwnValues (base : Base) (values : List DataValue) : Type 0 where
  pub item : Item
  pub is_one : values ≡ value_of_item item ∷ []
  pub is_proper : IsProper base item.apdu
  pub is_read_back : IsReadBack base item.apdu

abbrev pub OwnData : Base → DataWord → Type 0
OwnData base (Values values) = OwnValues base values
OwnData base (AlterContext add delete) = Unit {0}
OwnData base (AlterContextAck answers) = Unit {0}

abbrev pub OwnMark : MarkWord → Type 0
OwnMark (Mark number) = Unit {0}
OwnMark (Restart number list) = Unit {0}
OwnMark (RestartAck number list) = Unit {0}
OwnMark (Give (Some tokens)) = Unit {0}
OwnMark (Please (Some tokens) []) = Unit {0}
OwnMark word = ⊥

abbrev pub OwnAssociation : AssociationWord → Type 0
OwnAssociation (Finish transport values) = is_release_request (the_one values) ≡ true
OwnAssociation (Disconnect values) = is_release_response (the_one values) ≡ true
OwnAssociation (Abort transport user) = Unit {0}
OwnAssociation word = ⊥

abbrev pub OwnWord : Base → Word → Type 0
OwnWord base (OfAssociation word) = OwnAssociation word
OwnWord base (OfData word) = OwnData base word
OwnWord base (OfMarks word) = OwnMark word
OwnWord base (OfActivities word) = ⊥

abbrev pub AreOwn : Base → List Message → Type 0
AreOwn base [] = Unit {0}
AreOwn base (Transport unit ∷ messages) = ⊥
AreOwn base (Session word ∷ messages) = OwnWord base word × AreOwn base messages

pub own-append : (base : Base) (xs ys : List Message) → AreOwn base xs → AreOwn base ys → AreOwn base (xs ++ ys)
own-append base [] ys h k = k
own-append base (Transport unit ∷ xs) ys h k = absurd h
own-append base (Session word ∷ xs) ys h k = (h.0, own-append base xs ys h.1 k)

-- ---- data of this product

pub ours-own : (base : Base) (sent : List Message) (meant : List ModelMessage) → AreOurs base sent meant → AreOwn base sent
ours-own base [] [] h = tt
ours-own base [] (m ∷ ms) h = absurd h
ours-own base (message ∷ sent) [] h = absurd h
ours-own base (message ∷ sent) (m ∷ ms) h =
    subst (λ (x : Message). AreOwn base (x ∷ sent)) (sym h.0.is_data)
    (record { item = h.0.item; is_one = refl; is_proper = h.0.is_proper; is_read_back = h.0.is_read_back }, ours-own base sent ms h.1)

pub ours-meant : (proposed : List Proposal) (base : Base) (sent : List Message) (meant : List ModelMessage) → AreOurs (at Direct base) sent meant → AreMeant proposed (at Direct base) sent meant
ours-meant proposed base [] [] h = tt
ours-meant proposed base [] (m ∷ ms) h = absurd h
ours-meant proposed base (message ∷ sent) [] h = absurd h
ours-meant proposed base (message ∷ sent) (m ∷ ms) h =
    subst (λ (x : Message). AreMeant proposed (at Direct base) (x ∷ sent) (m ∷ ms)) (sym h.0.is_data)
    (record { item = h.0.item; is_one = refl; is_its = h.0.is_its }, ours-meant proposed base sent ms h.1)

-- data that are sent change no body
pub direct-sent : (base : Base) (sent : List Message) (meant : List ModelMessage) → AreOurs base sent meant → (body : Body) → sent_all Direct body sent ≡ body
direct-sent base [] [] h body = refl
direct-sent base [] (m ∷ ms) h body = absurd h
direct-sent base (message ∷ sent) [] h body = absurd h
direct-sent base (message ∷ sent) (m ∷ ms) h body =
    ap (λ x. sent_all Direct (after_sent Direct body x) sent) h.0.is_data ∙ direct-sent base sent ms h.1 body

-- values are of one item at most
first-of : DataValue → List DataValue → DataValue
first-of default [] = default
first-of default (value ∷ values) = value

pub one-item : (x y : Item) → value_of_item x ∷ [] ≡ value_of_item y ∷ [] → x.apdu ≡ y.apdu
unfolding first-of
one-item x y e =
    let one : value_of_item x ≡ value_of_item y = ap (first-of (value_of_item x)) e in
    let same : Remote x.apdu ≡ Remote y.apdu = ap (λ (v : DataValue). v.content) one in
    cc

-- ---- what is passed over is what the model passes over

pub purged-as : (base : Base) (proposed : List Proposal) (word : Word) (message : ModelMessage) → OwnWord base word → Means proposed (at Direct base) word message → (initiator : Bool) (awaited : Awaited) → is_purged initiator awaited (unit_of word) ≡ model_purged (role_seen initiator) (awaited_seen awaited) message
purged-as base proposed word message own means initiator awaited = go word own means
  where
    to : (m : ModelMessage) (b : Bool) → message ≡ m → b ≡ model_purged (role_seen initiator) (awaited_seen awaited) m → b ≡ model_purged (role_seen initiator) (awaited_seen awaited) message
    to m b e row = row ∙ ap (model_purged (role_seen initiator) (awaited_seen awaited)) (sym e)

    go : (word : Word) → OwnWord base word → Means proposed (at Direct base) word message → is_purged initiator awaited (unit_of word) ≡ model_purged (role_seen initiator) (awaited_seen awaited) message
    go (OfData (Values values)) own means = to _ _ means.is_its (words.values (item_seen (at Direct base) means.item) initiator awaited)
    go (OfData (AlterContext add delete)) own means = to _ _ means (words.alter (items_seen (alteration add delete)) initiator awaited)
    go (OfData (AlterContextAck answers)) own means = to _ _ means.2 (words.alter_ack (results_seen means.0 answers) initiator awaited)
    go (OfMarks (Mark number)) own means = to _ _ means (words.mark number initiator awaited)
    go (OfMarks (Restart number list)) own means = to _ _ means (words.restart number (list_meant list) initiator awaited)
    go (OfMarks (RestartAck number list)) own means = to _ _ means (words.restart_ack number (list_meant list) initiator awaited)
    go (OfMarks (Give (Some tokens))) own means = to _ _ means (words.give (Some tokens) initiator awaited)
    go (OfMarks (Please (Some tokens) [])) own means = to _ _ means (words.please (Some tokens) 0 initiator awaited)
    go (OfAssociation (Finish transport values)) own means = to _ _ means (words.finish transport initiator awaited)
    go (OfAssociation (Disconnect values)) own means = to _ _ means (words.disconnect initiator awaited)
    go (OfAssociation (Abort transport user)) own means = to _ _ means (words.abort transport initiator awaited)
    go word own means = absurd own

-- ---- an end whose association stands

pub record Live (body : Body) : Type 0 where
  pub joined : IsJoined Direct body
  pub phase : (body.link.phase ≡ Up) ⊎ (body.link.phase ≡ Releasing)

-- and what comes to it; one that is over passes over all
pub data Side (base : Base) (body : Body) (coming : List Message) : Type 0 where
  Stands : Live body → AreOwn base coming → Side base body coming
  IsOver : body.link.phase ≡ Over → Side base body coming
