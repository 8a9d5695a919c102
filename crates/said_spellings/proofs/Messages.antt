-- Whatever two ends say may be written, in direct mode and in reliable mode.
use Rattle.std.proofs.Common.{◌≡◌, refl, true}
use Rattle.stub_tables.specs.declared.tables.Tables.{Tables}
use Rattle.dialogue.specs.declared.config.Config.{Config}
use Rattle.dialogue.specs.declared.config.Mode.{Mode}
use Rattle.dialogue.specs.declared.config.Mode.TheVariants.{Bare, Direct, Reliable}
use Rattle.apdu_spelling.specs.Writing.{written_apdu}
use Rattle.end_rules.specs.Base.{Spellings}
use Rattle.end_rules.specs.Messages.{Transport, Session, Word, OfAssociation, OfData, OfMarks, OfActivities}
use Rattle.end_rules.specs.Writing.{proposals}
use Rattle.association_worlds.specs.association_reading.Laws.{IsSendable}
use Rattle.agreement.specs.Sets.Role.{Initiator, Responder}
use Rattle.end_model.specs.BothEnds.{base_at}
use Rattle.end_model.specs.DirectEnds.{ProposesRightly}
use Rattle.reliable_model.proofs.Fixed.{listed-identifiers}
use Rattle.transfer_spelling.specs.Laws.{IsModule}
use Rattle.said_words.specs.Laws.{ProposesContexts}
use Rattle.said_words.specs.Words.{IsWord, IsReliableWord, IsWordIn}
use Rattle.said_spellings.specs.Laws.{IsEndIn, pair_in, SpellsTransfersIn, SaidAreCarried}
use Rattle.said_spellings.proofs.Carried.{marks-sent, data-sent}
use Rattle.said_spellings.proofs.Association.{association-sent, units-sent}
use Rattle.said_spellings.proofs.TransferWords.{parts-sent, turn-sent, activity-sent}
use Rattle.said_spellings.proofs.TransferAssociation as transfers

module _ (tables : Tables) (spellings : Spellings) (a b : Config) (m : IsModule tables) (its : spellings.apdu ≡ written_apdu tables) (i : a.initiator ≡ true) where
  in-direct : IsEndIn Direct a → IsEndIn Direct b → ProposesRightly (pair_in Direct tables spellings a b) → ProposesContexts (pair_in Direct tables spellings a b) → (word : Word) →
      IsWord (base_at Initiator (pair_in Direct tables spellings a b)) (base_at Responder (pair_in Direct tables spellings a b)) word → IsSendable tables word
  in-direct ea eb right contexts (OfAssociation word) said =
      association-sent tables spellings a b right (listed-identifiers (proposals (base_at Initiator (pair_in Direct tables spellings a b))) contexts) word ea i eb said
  in-direct ea eb right contexts (OfData word) said = data-sent tables (base_at Initiator (pair_in Direct tables spellings a b)) word refl its m said
  in-direct ea eb right contexts (OfMarks word) said = marks-sent tables word said
  in-direct ea eb right contexts (OfActivities word) said = absurd said

  in-reliable : SpellsTransfersIn Reliable tables spellings → IsEndIn Reliable a → IsEndIn Reliable b → ProposesRightly (pair_in Reliable tables spellings a b) → ProposesContexts (pair_in Reliable tables spellings a b) → (word : Word) →
      IsReliableWord (base_at Initiator (pair_in Reliable tables spellings a b)) (base_at Responder (pair_in Reliable tables spellings a b)) word → IsSendable tables word
  in-reliable spelled ea eb right contexts (OfAssociation word) said =
      transfers.association-sent tables spellings a b right (listed-identifiers (proposals (base_at Initiator (pair_in Reliable tables spellings a b))) contexts) word ea i eb said
  in-reliable spelled ea eb right contexts (OfData word) said = parts-sent tables (base_at Initiator (pair_in Reliable tables spellings a b)) word refl its spelled m said
  in-reliable spelled ea eb right contexts (OfMarks word) said = turn-sent tables word said
  in-reliable spelled ea eb right contexts (OfActivities word) said = activity-sent tables word said

  word-sent : (mode : Mode) → SpellsTransfersIn mode tables spellings → IsEndIn mode a → IsEndIn mode b → ProposesRightly (pair_in mode tables spellings a b) → ProposesContexts (pair_in mode tables spellings a b) → (word : Word) →
      IsWordIn mode (base_at Initiator (pair_in mode tables spellings a b)) (base_at Responder (pair_in mode tables spellings a b)) word → IsSendable tables word
  word-sent Direct spelled ea eb right contexts word said = in-direct ea eb right contexts word said
  word-sent Reliable spelled ea eb right contexts word said = in-reliable spelled ea eb right contexts word said
  word-sent Bare spelled ea eb right contexts word said = absurd said

pub said-carried : SaidAreCarried
said-carried mode tables spellings a b (Transport unit) m its spelled ea i eb right contexts said = units-sent mode a (base_at Initiator (pair_in mode tables spellings a b)) unit refl ea said
said-carried mode tables spellings a b (Session word) m its spelled ea i eb right contexts said = word-sent tables spellings a b m its i mode spelled ea eb right contexts word said
