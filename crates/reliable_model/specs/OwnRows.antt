-- All that an end of reliable mode does by itself, as acts of the model.
use Rattle.std.specs.Prelude.{◌≡◌, List, ◌++◌, map, option_map, Some}
use Rattle.osi_base.specs.declared.syntax.Pair.{Pair}
use Rattle.osi_base.specs.declared.layer_words.SetItem.{SetItem}
use Rattle.osi_base.specs.declared.layer_words.Proposal.{Proposal}
use Rattle.end_model.specs.dialogue.declared.config.Mode.TheVariants.{Reliable}
use Rattle.end_model.specs.end_rules.Base.{Base}
use Rattle.end_model.specs.end_rules.State.{Body}
use Rattle.osi_base.specs.SetPlaces.{pair_of}
use Rattle.end_model.specs.end_rules.Encodings.{Encoding}
use Rattle.end_model.specs.end_rules.ByItself.{OwnAct, SendsNow, EncodesOn, next_own}
use Rattle.end_model.specs.end_rules.History.{after_step, step_of}
use Rattle.agreement.specs.Messages.{Act}
use Rattle.agreement.specs.State.{Handed}
use Rattle.agreement.specs.Worlds.Step.{Acts}
use Rattle.agreement.specs.Laws.{Encoding as ModelEncoding, started_after, encoded_by as model_encoded_by}
use Rattle.end_model.specs.Seen.{Free, pair_seen, set_seen, apdu_seen, queued_seen, seen}
use Rattle.end_model.specs.Rows.{at}
use Rattle.end_model.specs.Acting.{ActsAs}
use Rattle.reliable_model.specs.Codecs.{IsContextOf, SpellsTransfers, Carries}
use Rattle.reliable_model.specs.Transferring.{IsSending}
use Rattle.reliable_model.specs.Ledgers.{own_messages, started_by, encoded_by}

-- an encoding, as the model sees it
abbrev pub encoding_seen : Base → Encoding → ModelEncoding
encoding_seen base e = record { activity = e.activity; apdu = apdu_seen base e.apdu; identifier = e.id; pair = option_map pair_seen e.pair }

-- It is an act, which starts and encodes what the end does, where these sets are shared; and the transfers of the end stay sound.
pub record OwnActsAs (free : Free) (base : Base) (proposed : List Proposal) (body : Body) (own : OwnAct) : Type 0 where
  pub act : Act
  pub acts : ActsAs free Reliable base proposed body (after_step (at Reliable base) body (step_of own)) (own_messages own) act
  pub starts : (items : List Handed) → map (queued_seen (at Reliable base)) (started_by body own) ++ items ≡ started_after (seen (at Reliable base) body) (Acts act) items
  pub encodes : (set : List SetItem) → map (encoding_seen (at Reliable base)) (encoded_by body set own) ≡ model_encoded_by (seen (at Reliable base) body) (set_seen set) (Acts act)
  pub sending : IsSending (at Reliable base) (after_step (at Reliable base) body (step_of own)).sending

-- what is encoded is encoded on a context of the module
abbrev pub EncodesInPlace : Base → Body → OwnAct → Type 0
EncodesInPlace base body (EncodesOn context) =
    (pair : Pair) → pair_of body.sets.held context ≡ Some pair → IsContextOf base.tables.name_oid context pair
EncodesInPlace base body (SendsNow message) = Unit {0}

pub record OwnMessagesAct : Type 0 where
  pub acts : (free : Free) (base : Base) (proposed : List Proposal) (body : Body) (own : OwnAct) →
      SpellsTransfers (at Reliable base) → Carries free (at Reliable base) → IsSending (at Reliable base) body.sending →
      next_own (at Reliable base) body ≡ Some own → EncodesInPlace base body own → OwnActsAs free base proposed body own
