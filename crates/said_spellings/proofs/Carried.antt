-- Words of data and of marks, as two ends of direct mode say them, may be written.
use Rattle.std.proofs.Common.{◌≡◌, refl, sym, subst, arith, ℕ, ◌+◌, ◌≤◌, List, [], ◌∷◌, length}
use Rattle.std.specs.Prelude.{Option, Some, None}
use Rattle.osi_base.specs.declared.layer_words.Proposal.{Proposal}
use Rattle.osi_base.specs.declared.layer_words.Answers.{Answers}
use Rattle.osi_base.specs.declared.layer_words.RestoredItem.{RestoredItem}
use Rattle.osi_base.specs.declared.presentation_word.PresentationWord.{PresentationWord}
use Rattle.osi_base.specs.declared.presentation_word.PresentationWord.TheVariants as ppdus
use Rattle.osi_base.specs.declared.session_word.SessionWord.TheVariants as units
use Rattle.osi_base.specs.Octets.{AreOctets}
use Rattle.osi_base.proofs.OctetLaws.{no_octets}
use Rattle.asn1_types.proofs.OctetTests.{octets_by_test}
use Rattle.end_config.specs.presentation_pdus.declared.place.PpduPlace.TheVariants as place
use Rattle.end_config.specs.presentation_pdus.Words.{written_ppdu}
use Rattle.stub_tables.specs.declared.tables.Tables.{Tables}
use Rattle.apdu_spelling.specs.Writing.{written_apdu, IsWritable}
use Rattle.end_rules.specs.Base.{Base, Item}
use Rattle.end_rules.specs.Messages.{DataValue, Word, OfData, OfMarks, DataWord, MarkWord, Values, AlterContext, AlterContextAck, Mark, MarkAck, Restart, RestartAck, Give, Please, GiveConfirm, GiveAck, value_of_item}
use Rattle.association_worlds.specs.association_wire.Values.{in_form}
use Rattle.association_worlds.specs.association_wire.Written.{session_units, tsdu_of}
use Rattle.association_worlds.specs.association_reading.Laws.{IsSendable}
use Rattle.reliable_model.specs.Codecs.{IsTransferable}
use Rattle.transfer_spelling.specs.Laws.{IsModule}
use Rattle.transfer_spelling.proofs.Writable.{transferables-writable}
use Rattle.said_words.specs.Fields.{IsContext, IsAlteration, AreAnswers}
use Rattle.said_words.specs.Words.{IsRestart, IsOfData, IsOfMarks}
use Rattle.said_spellings.proofs.Session.{numeral-are, Sayable, Written, alone, behind}
use Rattle.said_spellings.proofs.Contents.{content-is, content-few}
use Rattle.said_spellings.proofs.Ppdus.{content_length}
use Rattle.said_spellings.proofs.Places.{InPlace, alter-in, ack-in, restart-in, restart_ack-in, data-in}

-- ---- words

pub sendable : (tables : Tables) (word : Word) → Written (session_units tables word) → IsSendable tables word
sendable tables word w = let few : length (tsdu_of tables word) ≤ 600000 = w.few in record { units = w.writable; octets = w.octets; within = omega arith }

-- user data behind a unit of the session
typed : (os : List ℕ) → AreOctets os → length os ≤ 400000 → Sayable (units.TypedData os)
typed os o few = record { fields = tt; few = omega arith; code = omega arith; parameters = tt; information = o; within = few }

pub plain : (os : List ℕ) → AreOctets os → length os ≤ 400000 → Sayable (units.Data os)
plain os o few = record { fields = tt; few = omega arith; code = omega arith; parameters = tt; information = o; within = few }

resynchronizing : (n : ℕ) (os : List ℕ) → 1 ≤ n → n ≤ 65537 → AreOctets os → length os ≤ 60000 → Sayable (units.Resynchronize n (Some os))
resynchronizing n os low high o few =
    record {
      fields = (omega arith, omega arith);
      few = few;
      code = omega arith;
      parameters = ((omega arith, octets_by_test _ refl), ((omega arith, numeral-are n), ((omega arith, o), tt)));
      information = no_octets;
      within = omega arith;
    }

answering : (n : ℕ) (os : List ℕ) → 1 ≤ n → n ≤ 65537 → AreOctets os → length os ≤ 60000 → Sayable (units.ResynchronizeAck n (Some os))
answering n os low high o few =
    record {
      fields = (omega arith, omega arith);
      few = few;
      code = omega arith;
      parameters = ((omega arith, numeral-are n), ((omega arith, o), tt));
      information = no_octets;
      within = omega arith;
    }

marking : (n : ℕ) → 1 ≤ n → n ≤ 65536 → Sayable (units.Mark n)
marking n low high =
    record { fields = (omega arith, omega arith); few = omega arith; code = omega arith; parameters = ((omega arith, numeral-are n), tt); information = no_octets; within = omega arith }

giving : Sayable (units.GiveTokens (Some 4))
giving = record { fields = tt; few = omega arith; code = omega arith; parameters = ((omega arith, octets_by_test _ refl), tt); information = no_octets; within = omega arith }

pleading : Sayable (units.PleaseTokens (Some 4) None)
pleading = record { fields = tt; few = omega arith; code = omega arith; parameters = ((omega arith, octets_by_test _ refl), tt); information = no_octets; within = omega arith }

module _ (tables : Tables) where
  pub alter-sent : (add : List Proposal) (delete : List ℕ) → IsAlteration add delete → IsSendable tables (OfData (AlterContext add delete))
  alter-sent add delete i =
      let p = alter-in add delete i in
      let few : length (written_ppdu (ppdus.Alter add delete)) ≤ 131600 = p.few in
      sendable tables (OfData (AlterContext add delete)) (alone (units.TypedData (written_ppdu (ppdus.Alter add delete))) refl (typed (written_ppdu (ppdus.Alter add delete)) p.octets (omega arith)))

  pub ack-sent : (answers : Answers) → AreAnswers answers → IsSendable tables (OfData (AlterContextAck answers))
  ack-sent answers i =
      let p = ack-in answers i in
      let few : length (written_ppdu (ppdus.AlterAck answers)) ≤ 131600 = p.few in
      sendable tables (OfData (AlterContextAck answers)) (alone (units.TypedData (written_ppdu (ppdus.AlterAck answers))) refl (typed (written_ppdu (ppdus.AlterAck answers)) p.octets (omega arith)))

  restart-sent : (number : ℕ) (list : Option (List RestoredItem)) → IsRestart number list → IsSendable tables (OfMarks (Restart number list))
  restart-sent number list i =
      let unit = ppdus.Resynchronize (Some i.items) in
      let p = restart-in i.items i.are i.count in
      let few : length (written_ppdu unit) ≤ 16500 = p.few in
      subst (λ (l : Option (List RestoredItem)). IsSendable tables (OfMarks (Restart number l))) (sym i.is_list)
      (sendable tables (OfMarks (Restart number (Some i.items))) (behind (units.Resynchronize number (Some (written_ppdu unit))) refl (resynchronizing number (written_ppdu unit) i.low i.high p.octets (omega arith))))

  restart_ack-sent : (number : ℕ) (list : Option (List RestoredItem)) → IsRestart number list → IsSendable tables (OfMarks (RestartAck number list))
  restart_ack-sent number list i =
      let unit = ppdus.ResynchronizeAck (Some i.items) in
      let p = restart_ack-in i.items i.are i.count in
      let few : length (written_ppdu unit) ≤ 16500 = p.few in
      subst (λ (l : Option (List RestoredItem)). IsSendable tables (OfMarks (RestartAck number l))) (sym i.is_list)
      (sendable tables (OfMarks (RestartAck number (Some i.items))) (behind (units.ResynchronizeAck number (Some (written_ppdu unit))) refl (answering number (written_ppdu unit) i.low i.high p.octets (omega arith))))

  -- an APDU on a context
  abbrev item_unit : Item → PresentationWord
  item_unit item = ppdus.Data (record { transfer = None; id = item.id; content = in_form item.pair.transfer (written_apdu tables item.pair.transfer item.apdu) } ∷ [])

  pub item-in : (item : Item) → IsModule tables → IsWritable tables item.pair.transfer item.apdu → IsContext item.id → InPlace place.Dt (item_unit item) 262166
  item-in item m w i =
      let content = in_form item.pair.transfer (written_apdu tables item.pair.transfer item.apdu) in
      let few : content_length content ≤ 262144 = content-few tables m item.pair.transfer item.apdu w in
      let p = data-in place.Dt item.id content refl i (content-is tables m item.id item.pair.transfer item.apdu i w) (omega arith) in
      let most : length (written_ppdu (item_unit item)) ≤ 22 + content_length content = p.few in
      record { writable = p.writable; octets = p.octets; few = omega arith }

  item-sent : (base : Base) (item : Item) → base.tables ≡ tables → base.spellings.apdu ≡ written_apdu base.tables → IsModule base.tables → IsTransferable base item.apdu → IsContext item.id → IsSendable tables (OfData (Values (value_of_item item ∷ [])))
  item-sent base item same its m t i =
      let w = subst (λ (ts : Tables). IsWritable ts item.pair.transfer item.apdu) same (transferables-writable base item.pair.transfer item.apdu its m t) in
      let p = item-in item (subst IsModule same m) w i in
      let most : length (written_ppdu (item_unit item)) ≤ 262166 = p.few in
      sendable tables (OfData (Values (value_of_item item ∷ []))) (behind (units.Data (written_ppdu (item_unit item))) refl (plain (written_ppdu (item_unit item)) p.octets (omega arith)))

  pub mark-sent : (number : ℕ) → 1 ≤ number → number ≤ 65536 → IsSendable tables (OfMarks (Mark number))
  mark-sent number low high = sendable tables (OfMarks (Mark number)) (behind (units.Mark number) refl (marking number low high))

  -- ---- words of marks and of data

  pub marks-sent : (word : MarkWord) → IsOfMarks word → IsSendable tables (OfMarks word)
  marks-sent (Mark number) i = mark-sent number i.0 i.1
  marks-sent (MarkAck number) i = absurd i
  marks-sent (Restart number list) i = restart-sent number list i
  marks-sent (RestartAck number list) i = restart_ack-sent number list i
  marks-sent (Give tokens) i = subst (λ (t : Option ℕ). IsSendable tables (OfMarks (Give t))) (sym i) (sendable tables (OfMarks (Give (Some 4))) (alone (units.GiveTokens (Some 4)) refl giving))
  marks-sent (Please tokens values) i =
      subst (λ (t : Option ℕ). IsSendable tables (OfMarks (Please t values))) (sym i.0)
      (subst (λ (vs : List DataValue). IsSendable tables (OfMarks (Please (Some 4) vs))) (sym i.1) (sendable tables (OfMarks (Please (Some 4) [])) (alone (units.PleaseTokens (Some 4) None) refl pleading)))
  marks-sent GiveConfirm i = absurd i
  marks-sent GiveAck i = absurd i

  pub data-sent : (base : Base) (word : DataWord) → base.tables ≡ tables → base.spellings.apdu ≡ written_apdu base.tables → IsModule base.tables → IsOfData base word → IsSendable tables (OfData word)
  data-sent base (Values values) same its m i = subst (λ (vs : List DataValue). IsSendable tables (OfData (Values vs))) (sym i.is_one) (item-sent base i.item same its m i.transferable i.context)
  data-sent base (AlterContext add delete) same its m i = alter-sent add delete i
  data-sent base (AlterContextAck answers) same its m i = ack-sent answers i
