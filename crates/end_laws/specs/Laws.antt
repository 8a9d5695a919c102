-- The laws of two ends where APDUs are spelled by the codecs: of the tables it is asked that they are readable, as those of
-- a module are, and of the initiator's configuration that no end refuses it.
use Rattle.std.specs.Prelude.{◌≡◌, List, [], ◌∷◌, true}
use Rattle.osi_base.specs.declared.layer_words.SetItem.{SetItem}
use Rattle.dialogue.specs.declared.config.Config.{Config}
use Rattle.dialogue.specs.declared.indication.Indication.{Indication}
use Rattle.stub_tables.specs.declared.tables.Tables.{Tables}
use Rattle.stub_tables.specs.Readable.{IsReadable}
use Rattle.end_rules.specs.Base.{Fault}
use Rattle.end_rules.specs.Messages.{Message, Session, OfData, Values, DataValue}
use Rattle.end_rules.specs.State.{Body, holds_turn}
use Rattle.osi_base.specs.SetPlaces.{pair_of}
use Rattle.end_rules.specs.Reacting.{Takes, Fails, react}
use Rattle.end_rules.specs.World.{Shared}
use Rattle.agreement.specs.Sets.{Role}
use Rattle.end_model.specs.Seen.{Free}
use Rattle.end_model.specs.BothEnds.{base_at, Two, body_at, coming_to, Reached, ModelOf, WritesAll}
use Rattle.end_model.specs.DirectEnds.{RunOf}
use Rattle.end_model.specs.Sharing.{SetsSent, sets_to, Shares}
use Rattle.end_laws.specs.Codecs.{Transfers, bare_ends, direct_ends, IsDirect}

-- ---- bare mode

-- Whatever two ends reach, there is a run of the model of it.
abbrev pub BareEndsAreModelled : Type 0
BareEndsAreModelled =
    (free : Free) (tables : Tables) (transfers : Transfers) (a b : Config) → WritesAll free → IsReadable tables →
    (two : Two) → Reached (bare_ends tables transfers a b) two → ModelOf free (bare_ends tables transfers a b) two

-- Neither aborts of itself: whatever comes next to an end is taken or passed over.
abbrev pub BareEndsTake : Type 0
BareEndsTake =
    (free : Free) (tables : Tables) (transfers : Transfers) (a b : Config) → WritesAll free → IsReadable tables →
    (two : Two) (role : Role) (message : Message) (left : List Message) (fault : Fault) (body : Body) (aborts : List Message) (shown : List Indication) →
    Reached (bare_ends tables transfers a b) two → coming_to role two ≡ message ∷ left →
    react (base_at role (bare_ends tables transfers a b)) (body_at role two) message ≡ Fails fault body aborts shown → ⊥

-- ---- direct mode

abbrev pub DirectEndsAreModelled : Type 0
DirectEndsAreModelled =
    (free : Free) (tables : Tables) (transfers : Transfers) (a b : Config) → WritesAll free → IsReadable tables → IsDirect a →
    (two : Two) → Reached (direct_ends tables transfers a b) two → RunOf free (direct_ends tables transfers a b) two

abbrev pub DirectEndsTake : Type 0
DirectEndsTake =
    (free : Free) (tables : Tables) (transfers : Transfers) (a b : Config) → WritesAll free → IsReadable tables → IsDirect a →
    (two : Two) (role : Role) (message : Message) (left : List Message) (fault : Fault) (body : Body) (aborts : List Message) (shown : List Indication) →
    Reached (direct_ends tables transfers a b) two → coming_to role two ≡ message ∷ left →
    react (base_at role (direct_ends tables transfers a b)) (body_at role two) message ≡ Fails fault body aborts shown → ⊥

-- Taken as sent: the value of a message of data that an end takes has the pair that its own set gives the identifier, which is the
-- pair that the shared set gave it when the value was sent.
abbrev pub DirectValuesAreAsSent : Type 0
DirectValuesAreAsSent =
    (free : Free) (tables : Tables) (transfers : Transfers) (a b : Config) → WritesAll free → IsReadable tables → IsDirect a →
    (two : Two) (shared : Shared) (sets : SetsSent) (role : Role) (value : DataValue) (left : List Message)
    (set : List SetItem) (sets_left : List (List SetItem)) (body : Body) (answers : List Message) (shown : List Indication) →
    Shares (direct_ends tables transfers a b) two shared sets →
    coming_to role two ≡ Session (OfData (Values (value ∷ []))) ∷ left → sets_to role sets ≡ set ∷ sets_left →
    react (base_at role (direct_ends tables transfers a b)) (body_at role two) (Session (OfData (Values (value ∷ [])))) ≡ Takes body answers shown →
    (pair_of (body_at role two).sets.held value.id ≡ value.pair) × (pair_of set value.id ≡ value.pair)

-- One holder: at no moment do both ends hold the turn.
abbrev pub DirectTurnHasOneHolder : Type 0
DirectTurnHasOneHolder =
    (free : Free) (tables : Tables) (transfers : Transfers) (a b : Config) → WritesAll free → IsReadable tables → IsDirect a →
    (two : Two) → Reached (direct_ends tables transfers a b) two → holds_turn two.a ≡ true → holds_turn two.b ≡ true → ⊥
