-- What two ends of reliable mode say of a transfer and of the turn may be written.
use Rattle.std.proofs.Common.{◌≡◌, refl, true, false, ◌∙◌, sym, ap, subst, arith, ℕ, ◌+◌, ◌^◌, ◌≤◌, ◌<◌, List, [], ◌∷◌, take, drop, length}
use Rattle.std.specs.Prelude.{Bool, ◌==◌, Option, Some, None, if◌then◌else◌}
use Rattle.std.proofs.lemmas.List.{length-append, take-append-drop}
use Rattle.osi_base.specs.declared.syntax.Syntax.{Syntax}
use Rattle.osi_base.specs.declared.syntax.Syntax.TheVariants.{Ber, Der, Packed}
use Rattle.osi_base.specs.declared.presentation_word.PdvContent.TheVariants as forms
use Rattle.osi_base.specs.declared.presentation_word.PresentationWord.{PresentationWord}
use Rattle.osi_base.specs.declared.presentation_word.PresentationWord.TheVariants as ppdus
use Rattle.osi_base.specs.declared.rtse_word.Rtse.TheVariants as rtse
use Rattle.osi_base.specs.declared.session_word.SessionWord.TheVariants as units
use Rattle.osi_base.specs.Octets.{AreOctets}
use Rattle.osi_base.proofs.OctetLaws.{no_octets, octets_left, octets_right}
use Rattle.asn1_types.proofs.OctetTests.{octets_by_test}
use Rattle.end_config.specs.presentation_pdus.declared.place.PpduPlace.TheVariants as place
use Rattle.end_config.specs.presentation_pdus.Words.{written_ppdu}
use Rattle.fixed_tables.specs.Pdvs.{pdv_value}
use Rattle.rtse_apdus.specs.Transfer.{written_transfer, IsTransfer}
use Rattle.rtse_apdus.specs.TransferRows.{transfer_row, transfer_rows}
use Rattle.rtse_apdus.specs.Written.{written_rtse}
use Rattle.spdu_codec.specs.Written.{mark_numeral, numeral}
use Rattle.stub_tables.specs.declared.tables.Tables.{Tables}
use Rattle.stub_tables.specs.declared.apdu.Apdu.{Apdu}
use Rattle.apdu_spelling.specs.Writing.{written_apdu, IsWritable}
use Rattle.end_rules.specs.Base.{Base, Item}
use Rattle.end_rules.specs.Messages.{DataValue, Plea, Part, OfData, OfMarks, OfActivities, DataWord, Values, AlterContext, AlterContextAck, MarkWord, Mark, MarkAck, Restart, RestartAck, Give, Please, GiveConfirm, GiveAck, ActivityWord, Start, Resume, End, EndAck, Interrupt, InterruptAck, Discard, DiscardAck}
use Rattle.association_worlds.specs.association_wire.Values.{in_form}
use Rattle.association_worlds.specs.association_reading.Laws.{IsSendable}
use Rattle.association_worlds.specs.association_reading.Transfers.{transferred}
use Rattle.transfer_spelling.specs.Laws.{IsModule}
use Rattle.transfer_spelling.proofs.Transfers.{values-transfers}
use Rattle.transfer_spelling.proofs.Writable.{transferables-writable}
use Rattle.der_octets.proofs.Octets.{der-octets}
use Rattle.said_words.specs.Fields.{IsContext}
use Rattle.said_words.specs.Words.{transfer_value, IsPart, IsPartOrAlteration, IsOfTurn, IsOfActivity}
use Rattle.said_spellings.proofs.Ppdus.{IsContent}
use Rattle.said_spellings.proofs.Session.{numeral-are, spelled-are, Sayable, alone, behind}
use Rattle.said_spellings.proofs.Places.{InPlace, data-in}
use Rattle.said_spellings.proofs.Contents.{content-is}
use Rattle.said_spellings.proofs.Carried.{sendable, plain, alter-sent, ack-sent, mark-sent}
use Rattle.said_spellings.proofs.Transfers.{part-spelled, plea-spelled}

-- ---- the octets of a transfer, and parts of them

part-are : (size from : ℕ) (os : List ℕ) → AreOctets os → AreOctets (take size (drop from os))
part-are size from os h =
    let d : AreOctets (drop from os) = octets_right (take from os) (drop from os) (subst AreOctets (sym (take-append-drop from os)) h) in
    octets_left (take size (drop from os)) (drop size (drop from os)) (subst AreOctets (sym (take-append-drop size (drop from os))) d)

part-few : (size from : ℕ) (os : List ℕ) → length (take size (drop from os)) ≤ length os
part-few size from os =
    let a : length (take from os) + length (drop from os) ≡ length os = sym (length-append (take from os) (drop from os)) ∙ ap length (take-append-drop from os) in
    let b : length (take size (drop from os)) + length (drop size (drop from os)) ≡ length (drop from os) = sym (length-append (take size (drop from os)) (drop size (drop from os))) ∙ ap length (take-append-drop size (drop from os)) in
    omega arith

-- of a value on a context
record Transferred (os : List ℕ) : Type 0 where
  are : AreOctets os
  few : length os ≤ 262400

whole-transferred : (id : ℕ) (os : List ℕ) → IsTransfer (record { transfer = None; id = id; content = forms.SingleAsn1Type os }) → IsContent (forms.SingleAsn1Type os) → Transferred (written_transfer (record { transfer = None; id = id; content = forms.SingleAsn1Type os }))
whole-transferred id os t c =
    let few : length (written_transfer (record { transfer = None; id = id; content = forms.SingleAsn1Type os })) ≤ 262400 = t.within in
    record { are = der-octets transfer_rows transfer_row (pdv_value (record { transfer = None; id = id; content = forms.SingleAsn1Type os })) (tt, ((λ n. c.1), tt)) (omega arith); few = few }

octets-transferred : (id : ℕ) (os : List ℕ) → IsTransfer (record { transfer = None; id = id; content = forms.OctetAligned os }) → IsContent (forms.OctetAligned os) → Transferred (written_transfer (record { transfer = None; id = id; content = forms.OctetAligned os }))
octets-transferred id os t c =
    let few : length (written_transfer (record { transfer = None; id = id; content = forms.OctetAligned os })) ≤ 262400 = t.within in
    record { are = der-octets transfer_rows transfer_row (pdv_value (record { transfer = None; id = id; content = forms.OctetAligned os })) (tt, (c, tt)) (omega arith); few = few }

module _ (tables : Tables) (m : IsModule tables) where
  written-so : (id : ℕ) (syntax : Syntax) (apdu : Apdu) → IsContext id → IsWritable tables syntax apdu → Transferred (written_transfer (record { transfer = None; id = id; content = in_form syntax (written_apdu tables syntax apdu) }))
  written-so id Ber apdu i w = whole-transferred id (written_apdu tables Ber apdu) (values-transfers tables id Ber apdu m i.0 i.1 w) (content-is tables m id Ber apdu i w)
  written-so id Der apdu i w = whole-transferred id (written_apdu tables Der apdu) (values-transfers tables id Der apdu m i.0 i.1 w) (content-is tables m id Der apdu i w)
  written-so id Packed apdu i w = octets-transferred id (written_apdu tables Packed apdu) (values-transfers tables id Packed apdu m i.0 i.1 w) (content-is tables m id Packed apdu i w)

  transfer-so : (item : Item) → IsContext item.id → IsWritable tables item.pair.transfer item.apdu → Transferred (transferred tables item)
  transfer-so item i w = written-so item.id item.pair.transfer item.apdu i w

-- ---- parts and pleas

three : IsContext 3
three = (omega arith, omega arith)

abbrev pub part_unit : List ℕ → PresentationWord
part_unit os = ppdus.Data (record { transfer = None; id = 3; content = forms.SingleAsn1Type (written_rtse (rtse.Transfer os)) } ∷ [])

abbrev pub plea_unit : ℕ → PresentationWord
plea_unit priority = ppdus.Data (record { transfer = None; id = 3; content = forms.SingleAsn1Type (written_rtse (rtse.TurnPlease priority)) } ∷ [])

pub part-in : (os : List ℕ) → AreOctets os → length os ≤ 262400 → InPlace place.Dt (part_unit os) 262427
part-in os h few =
    let x = (part-spelled os h few).spelled in
    let n : length (written_rtse (rtse.Transfer os)) ≤ 262405 = x.few in
    let p = data-in place.Dt 3 (forms.SingleAsn1Type (written_rtse (rtse.Transfer os))) refl three (x.is_whole_one, x.octets_are) (omega arith) in
    let most : length (written_ppdu (part_unit os)) ≤ 22 + length (written_rtse (rtse.Transfer os)) = p.few in
    record { writable = p.writable; octets = p.octets; few = omega arith }

pub plea-in : (priority : ℕ) → priority < 2 ^ 32 → InPlace place.Pt (plea_unit priority) 32
plea-in priority h =
    let x = (plea-spelled priority h).spelled in
    let n : length (written_rtse (rtse.TurnPlease priority)) ≤ 10 = x.few in
    let p = data-in place.Pt 3 (forms.SingleAsn1Type (written_rtse (rtse.TurnPlease priority))) refl three (x.is_whole_one, x.octets_are) (omega arith) in
    let most : length (written_ppdu (plea_unit priority)) ≤ 22 + length (written_rtse (rtse.TurnPlease priority)) = p.few in
    record { writable = p.writable; octets = p.octets; few = omega arith }

-- the octets that a part has
pub record PartOctets (values : List DataValue) : Type 0 where
  pub octets : List ℕ
  pub is_one : values ≡ transfer_value (Part octets) ∷ []
  pub are : AreOctets octets
  pub few : length octets ≤ 262400

pub part-octets : (base : Base) (values : List DataValue) → base.spellings.apdu ≡ written_apdu base.tables → base.spellings.transfer ≡ transferred base.tables → IsModule base.tables → IsPart base values → PartOctets values
part-octets base values its spelled m p =
    let i : IsContext p.item.id = (p.placed.low, p.placed.high) in
    let t = transfer-so base.tables m p.item i (transferables-writable base p.item.pair.transfer p.item.apdu its m p.transferable) in
    let few : length (transferred base.tables p.item) ≤ 262400 = t.few in
    let n = part-few p.size p.from (transferred base.tables p.item) in
    record {
      octets = take p.size (drop p.from (transferred base.tables p.item));
      is_one = p.is_one ∙ ap (λ (f : Item → List ℕ). transfer_value (Part (take p.size (drop p.from (f p.item)))) ∷ []) spelled;
      are = part-are p.size p.from (transferred base.tables p.item) t.are;
      few = omega arith;
    }

-- ---- units of the session

pleading-all : (os : List ℕ) → AreOctets os → length os ≤ 60000 → Sayable (units.PleaseTokens (Some 21) (Some os))
pleading-all os o few = record { fields = tt; few = few; code = omega arith; parameters = ((omega arith, octets_by_test _ refl), ((omega arith, o), tt)); information = no_octets; within = omega arith }

confirming : (n : ℕ) → 1 ≤ n → n ≤ 65536 → Sayable (units.MarkAck n)
confirming n low high = record { fields = (omega arith, omega arith); few = omega arith; code = omega arith; parameters = ((omega arith, numeral-are n), tt); information = no_octets; within = omega arith }

starting : (n : ℕ) → 1 ≤ n → n ≤ 999999 → Sayable (units.ActivityStart n)
starting n low high = record { fields = (omega arith, omega arith); few = omega arith; code = omega arith; parameters = ((omega arith, numeral-are n), tt); information = no_octets; within = omega arith }

mark_numeral-are : (n : ℕ) → AreOctets (mark_numeral n)
mark_numeral-are n = go (n == 0)
  where
    go : (p : Bool) → AreOctets (if p then 48 ∷ [] else numeral n)
    go true = octets_by_test (48 ∷ []) refl
    go false = numeral-are n

resuming : (n mark : ℕ) → 1 ≤ n → n ≤ 999999 → mark ≤ 65536 → Sayable (units.ActivityResume n mark)
resuming n mark low high few =
    record {
      fields = ((omega arith, omega arith), omega arith);
      few = omega arith;
      code = omega arith;
      parameters = (
        (omega arith, spelled-are ((41, numeral n) ∷ (42, mark_numeral mark) ∷ []) ((omega arith, numeral-are n), ((omega arith, mark_numeral-are mark), tt))),
        ((omega arith, numeral-are n), tt),
      );
      information = no_octets;
      within = omega arith;
    }

ending : (n : ℕ) → 1 ≤ n → n ≤ 65536 → Sayable (units.ActivityEnd n)
ending n low high = record { fields = (omega arith, omega arith); few = omega arith; code = omega arith; parameters = ((omega arith, numeral-are n), tt); information = no_octets; within = omega arith }

ended : (n : ℕ) → 1 ≤ n → n ≤ 65536 → Sayable (units.ActivityEndAck n)
ended n low high = record { fields = (omega arith, omega arith); few = omega arith; code = omega arith; parameters = ((omega arith, numeral-are n), tt); information = no_octets; within = omega arith }

interrupting : Sayable (units.ActivityInterrupt (Some 0))
interrupting = record { fields = tt; few = omega arith; code = omega arith; parameters = ((omega arith, octets_by_test _ refl), tt); information = no_octets; within = omega arith }

interrupted : Sayable units.ActivityInterruptAck
interrupted = record { fields = tt; few = omega arith; code = omega arith; parameters = tt; information = no_octets; within = omega arith }

discarding : Sayable (units.ActivityDiscard (Some 0))
discarding = record { fields = tt; few = omega arith; code = omega arith; parameters = ((omega arith, octets_by_test _ refl), tt); information = no_octets; within = omega arith }

discarded : Sayable units.ActivityDiscardAck
discarded = record { fields = tt; few = omega arith; code = omega arith; parameters = tt; information = no_octets; within = omega arith }

giving-all : Sayable units.GiveTokensConfirm
giving-all = record { fields = tt; few = omega arith; code = omega arith; parameters = tt; information = no_octets; within = omega arith }

given : Sayable units.GiveTokensAck
given = record { fields = tt; few = omega arith; code = omega arith; parameters = tt; information = no_octets; within = omega arith }

-- ---- the words

module _ (tables : Tables) where
  part-sent : (os : List ℕ) → AreOctets os → length os ≤ 262400 → IsSendable tables (OfData (Values (transfer_value (Part os) ∷ [])))
  part-sent os h few =
      let p = part-in os h few in
      let most : length (written_ppdu (part_unit os)) ≤ 262427 = p.few in
      sendable tables (OfData (Values (transfer_value (Part os) ∷ []))) (behind (units.Data (written_ppdu (part_unit os))) refl (plain (written_ppdu (part_unit os)) p.octets (omega arith)))

  plea-sent : (priority : ℕ) → priority < 2 ^ 32 → IsSendable tables (OfMarks (Please (Some 21) (transfer_value (Plea priority) ∷ [])))
  plea-sent priority h =
      let p = plea-in priority h in
      let most : length (written_ppdu (plea_unit priority)) ≤ 32 = p.few in
      sendable tables (OfMarks (Please (Some 21) (transfer_value (Plea priority) ∷ []))) (alone (units.PleaseTokens (Some 21) (Some (written_ppdu (plea_unit priority)))) refl (pleading-all (written_ppdu (plea_unit priority)) p.octets (omega arith)))

  pub parts-sent : (base : Base) (word : DataWord) → base.tables ≡ tables → base.spellings.apdu ≡ written_apdu base.tables → base.spellings.transfer ≡ transferred base.tables → IsModule base.tables → IsPartOrAlteration base word → IsSendable tables (OfData word)
  parts-sent base (Values values) same its spelled m i =
      let o = part-octets base values its spelled m i in
      subst (λ (vs : List DataValue). IsSendable tables (OfData (Values vs))) (sym o.is_one) (part-sent o.octets o.are o.few)
  parts-sent base (AlterContext add delete) same its spelled m i = alter-sent tables add delete i
  parts-sent base (AlterContextAck answers) same its spelled m i = ack-sent tables answers i

  pub turn-sent : (word : MarkWord) → IsOfTurn word → IsSendable tables (OfMarks word)
  turn-sent (Mark number) i = mark-sent tables number i.0 i.1
  turn-sent (MarkAck number) i = sendable tables (OfMarks (MarkAck number)) (behind (units.MarkAck number) refl (confirming number i.0 i.1))
  turn-sent (Restart number list) i = absurd i
  turn-sent (RestartAck number list) i = absurd i
  turn-sent (Give tokens) i = absurd i
  turn-sent (Please tokens values) i =
      subst (λ (t : Option ℕ). IsSendable tables (OfMarks (Please t values))) (sym i.0)
      (subst (λ (vs : List DataValue). IsSendable tables (OfMarks (Please (Some 21) vs))) (sym i.1.is_one) (plea-sent i.1.priority i.1.few))
  turn-sent GiveConfirm i = sendable tables (OfMarks GiveConfirm) (alone units.GiveTokensConfirm refl giving-all)
  turn-sent GiveAck i = sendable tables (OfMarks GiveAck) (alone units.GiveTokensAck refl given)

  pub activity-sent : (word : ActivityWord) → IsOfActivity word → IsSendable tables (OfActivities word)
  activity-sent (Start activity) i = sendable tables (OfActivities (Start activity)) (behind (units.ActivityStart activity) refl (starting activity i.0 i.1))
  activity-sent (Resume activity mark) i = sendable tables (OfActivities (Resume activity mark)) (behind (units.ActivityResume activity mark) refl (resuming activity mark i.0.0 i.0.1 i.1))
  activity-sent (End number) i = sendable tables (OfActivities (End number)) (behind (units.ActivityEnd number) refl (ending number i.0 i.1))
  activity-sent (EndAck number) i = sendable tables (OfActivities (EndAck number)) (behind (units.ActivityEndAck number) refl (ended number i.0 i.1))
  activity-sent (Interrupt reason) i = subst (λ (r : Option ℕ). IsSendable tables (OfActivities (Interrupt r))) (sym i) (sendable tables (OfActivities (Interrupt (Some 0))) (behind (units.ActivityInterrupt (Some 0)) refl interrupting))
  activity-sent InterruptAck i = sendable tables (OfActivities InterruptAck) (behind units.ActivityInterruptAck refl interrupted)
  activity-sent (Discard reason) i = subst (λ (r : Option ℕ). IsSendable tables (OfActivities (Discard r))) (sym i) (sendable tables (OfActivities (Discard (Some 0))) (behind (units.ActivityDiscard (Some 0)) refl discarding))
  activity-sent DiscardAck i = sendable tables (OfActivities DiscardAck) (behind units.ActivityDiscardAck refl discarded)
