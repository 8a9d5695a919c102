-- What an end takes stands on the contexts of its set.
use Rattle.std.specs.Prelude.{◌≡◌, ◌≤◌, List, [], ◌∷◌, Some}
use Rattle.dialogue.specs.declared.config.Config.{Config}
use Rattle.dialogue.specs.declared.indication.Indication.{Indication}
use Rattle.stub_tables.specs.declared.tables.Tables.{Tables}
use Rattle.end_rules.specs.Base.{Base, Spellings, Item}
use Rattle.end_rules.specs.Messages.{Message, Word, OfAssociation, OfData, OfMarks, Finish, Disconnect, Values, Please, Session, value_of_item}
use Rattle.osi_base.specs.SetPlaces.{pair_of}
use Rattle.end_rules.specs.State.{Body}
use Rattle.end_rules.specs.Reacting.{Takes, react}
use Rattle.end_rules.specs.Writing.{acse_pair}
use Rattle.agreement.specs.Sets.{Role}
use Rattle.agreement.specs.Sets.Role.{Initiator}
use Rattle.end_model.specs.Seen.{Free}
use Rattle.end_model.specs.Acting.{ReadsBack}
use Rattle.end_model.specs.BothEnds.{Two, base_at, body_at, coming_to, WritesAll}
use Rattle.end_model.specs.DirectEnds.{direct_common, ProposesRightly}
use Rattle.reliable_model.specs.Codecs.{Carries}
use Rattle.reliable_model.specs.Ledgers.{Ledger}
use Rattle.reliable_model.specs.ReliableEnds.{reliable_common, IsFit}
use Rattle.said_words.specs.Calls.{Speaks}
use Rattle.said_words.specs.Words.{rtse_pair}
use Rattle.said_words.specs.Laws.{ProposesContexts}

-- the APDU is on a context of the module, as the set has it
pub record IsOnIts (base : Base) (body : Body) (item : Item) : Type 0 where
  pub there : pair_of body.sets.held item.id ≡ Some item.pair
  pub named : item.pair.abstract_name ≡ base.tables.name_oid

abbrev pub IsTaken : Base → Body → Word → Type 0
IsTaken base body (OfData (Values values)) = (item : Item) → values ≡ value_of_item item ∷ [] → IsOnIts base body item
IsTaken base body (OfAssociation (Finish transport values)) = pair_of body.sets.held 1 ≡ Some acse_pair
IsTaken base body (OfAssociation (Disconnect values)) = pair_of body.sets.held 1 ≡ Some acse_pair
IsTaken base body word = Unit {0}

abbrev pub DirectTakesRightly : Type 0
DirectTakesRightly =
    (free : Free) (tables : Tables) (spellings : Spellings) (a b : Config) → WritesAll free →
    ReadsBack (base_at Initiator (direct_common tables spellings a b)) → ProposesRightly (direct_common tables spellings a b) →
    ProposesContexts (direct_common tables spellings a b) →
    (two : Two) (ledger : Ledger) → Speaks (direct_common tables spellings a b) two ledger →
    (role : Role) (word : Word) (left : List Message) (body : Body) (answers : List Message) (shown : List Indication) →
    coming_to role two ≡ Session word ∷ left → react (base_at role (direct_common tables spellings a b)) (body_at role two) (Session word) ≡ Takes body answers shown →
    IsTaken (base_at role (direct_common tables spellings a b)) (body_at role two) word

-- ---- in reliable mode association control and reliable transfer stay where they were opened

abbrev pub IsTakenInTransfer : Body → Word → Type 0
IsTakenInTransfer body (OfData (Values values)) = pair_of body.sets.held 3 ≡ Some rtse_pair
IsTakenInTransfer body (OfMarks (Please tokens values)) = pair_of body.sets.held 3 ≡ Some rtse_pair
IsTakenInTransfer body (OfAssociation (Finish transport values)) = pair_of body.sets.held 1 ≡ Some acse_pair
IsTakenInTransfer body (OfAssociation (Disconnect values)) = pair_of body.sets.held 1 ≡ Some acse_pair
IsTakenInTransfer body word = Unit {0}

abbrev pub ReliableTakesRightly : Type 0
ReliableTakesRightly =
    (free : Free) (tables : Tables) (spellings : Spellings) (a b : Config) → Carries free (base_at Initiator (reliable_common tables spellings a b)) →
    IsFit (reliable_common tables spellings a b) → 1 ≤ a.window →
    (two : Two) (ledger : Ledger) → Speaks (reliable_common tables spellings a b) two ledger →
    (role : Role) (word : Word) (left : List Message) (body : Body) (answers : List Message) (shown : List Indication) →
    coming_to role two ≡ Session word ∷ left → react (base_at role (reliable_common tables spellings a b)) (body_at role two) (Session word) ≡ Takes body answers shown →
    IsTakenInTransfer (body_at role two) word
