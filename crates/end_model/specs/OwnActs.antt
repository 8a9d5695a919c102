-- What an end of reliable mode does by itself, as acts of the model: it starts the next item, and encodes it.
use Rattle.std.specs.Prelude.{◌≡◌, ℕ, List, [], ◌∷◌, true, Some}
use Rattle.osi_base.specs.declared.layer_words.Proposal.{Proposal}
use Rattle.dialogue.specs.declared.config.Mode.TheVariants.{Reliable}
use Rattle.end_rules.specs.Base.{Base, Item}
use Rattle.osi_base.specs.SetPlaces.{pair_of}
use Rattle.end_rules.specs.State.{Body, Transfer}
use Rattle.end_rules.specs.Messages.{Session, OfActivities, Start}
use Rattle.end_rules.specs.Requesting.{after_sent}
use Rattle.end_rules.specs.ByItself.{SendsNow, EncodesOn, next_own, encoding}
use Rattle.agreement.specs.Messages.Act.{Starts, Encodes}
use Rattle.end_model.specs.Seen.{Free, item_seen}
use Rattle.end_model.specs.Rows.{at}
use Rattle.end_model.specs.Acting.{ActsAs}

-- the codec may write the item of the current transfer on this context, under the pair that the end's set gives it
abbrev pub MayBeWritten : Free → Base → Body → ℕ → Type 0
MayBeWritten free base body context =
    (transfer : Transfer) (item : Item) → body.sending.current ≡ Some transfer → item.apdu ≡ transfer.item.apdu →
    item.id ≡ context → pair_of body.sets.held context ≡ Some item.pair → free.codec.may_write (item_seen (at Reliable base) item) ≡ true

pub record ByItselfActs : Type 0 where
  pub starts : (activity : ℕ) (free : Free) (base : Base) (proposed : List Proposal) (body : Body) →
      next_own (at Reliable base) body ≡ Some (SendsNow (Session (OfActivities (Start activity)))) →
      ActsAs free Reliable base proposed body (after_sent Reliable body (Session (OfActivities (Start activity)))) (Session (OfActivities (Start activity)) ∷ []) Starts
  pub encodes : (context : ℕ) (free : Free) (base : Base) (proposed : List Proposal) (body : Body) → MayBeWritten free base body context →
      next_own (at Reliable base) body ≡ Some (EncodesOn context) →
      ActsAs free Reliable base proposed body (encoding (at Reliable base) context body) [] (Encodes context)
