-- Transfers are read back as they are written by the codecs, on each context of the module; so are APDUs.
use Rattle.std.proofs.Common.{◌≡◌, refl, true, false, ◌∙◌, sym, ap, subst, ℕ, List, [], ◌∷◌}
use Rattle.std.specs.Prelude.{Bool, not, ◌||◌, Option, Some, None, Result, Ok}
use Rattle.osi_base.specs.PdvContent.{octets_of}
use Rattle.osi_base.specs.declared.syntax.Pair.{Pair}
use Rattle.osi_base.specs.declared.syntax.Syntax.{Syntax}
use Rattle.osi_base.specs.declared.syntax.Syntax.TheVariants.{Ber, Der, Packed}
use Rattle.osi_base.specs.declared.layer_words.SetItem.{SetItem}
use Rattle.osi_base.specs.declared.presentation_word.Pdv.{Pdv}
use Rattle.osi_base.specs.declared.presentation_word.PdvContent.{PdvContent}
use Rattle.fixed_tables.specs.declared.pdu.PduFault.{PduFault}
use Rattle.rtse_apdus.specs.Transfer.{IsTransfer}
use Rattle.rtse_apdus.proofs.TransferLaws.{written_transfer_is_read}
use Rattle.stub_tables.specs.declared.tables.Tables.{Tables}
use Rattle.stub_tables.specs.declared.apdu.Apdu.{Apdu}
use Rattle.stub_tables.specs.declared.apdu.Apdu.TheVariants as apdus
use Rattle.apdu_spelling.specs.Writing.{written_apdu, IsWritable}
use Rattle.apdu_spelling.proofs.Written.{written_spelled}
use Rattle.dialogue.specs.declared.config.Config.{Config}
use Rattle.dialogue.specs.declared.config.Mode.{Mode}
use Rattle.end_rules.specs.Base.{Base, HeardHead, Item, Fault, Whole}
use Rattle.end_rules.specs.Sets.{same_name}
use Rattle.osi_base.specs.SetPlaces.{pair_of}
use Rattle.osi_base.specs.Syntax.{acse_name}
use Rattle.end_rules.specs.Faults.{fault_if, or_fault}
use Rattle.end_rules.specs.Messages.{ValueContent, Remote}
use Rattle.end_rules.specs.Hearing.{head_of_apdu}
use Rattle.end_rules.specs.Invoking.{is_too_long}
use Rattle.end_wire.specs.Heads.{head_at, apdu_of}
use Rattle.end_wire.specs.Values.{content_of}
use Rattle.end_wire.proofs.ContentLaws.{content_says, said_is, spelled_said}
use Rattle.end_model.specs.OpenInvocations.{IsProper}
use Rattle.end_model.specs.Acting.{ReadsBack, IsSaidBack}
use Rattle.end_model.proofs.Fitting.{same-itself}
use Rattle.association_reading.specs.association_wire.Values.{in_form}
use Rattle.association_reading.specs.declared.layer_of_values.LayerOfValues.TheVariants as carriage
use Rattle.association_reading.specs.Places.{PdvPlaces, places_of, spot_at}
use Rattle.association_reading.specs.Contexts.{is_form, is_carried, pdv_fault, invalid_at}
use Rattle.association_reading.specs.Values.{content_under}
use Rattle.association_reading.specs.Transfers.{arrived_as, arrived_under, unless_wrong, arrived_in, arrived_at, transferred}
use Rattle.reliable_model.specs.Codecs.{IsTransferable, IsPlaced, SpellsTransfers}
use Rattle.transfer_spelling.specs.Laws.{IsModule, form_of}
use Rattle.transfer_spelling.proofs.Writable.{transferables-writable}
use Rattle.transfer_spelling.proofs.Transfers.{values-transfers}
use Rattle.transfer_codec.specs.Laws.{base_with}

form-is : (syntax : Syntax) (octets : List ℕ) → is_form syntax (in_form syntax octets) ≡ true
form-is Ber octets = refl
form-is Der octets = refl
form-is Packed octets = refl

octets-are : (syntax : Syntax) (octets : List ℕ) → octets_of (in_form syntax octets) ≡ octets
octets-are Ber octets = refl
octets-are Der octets = refl
octets-are Packed octets = refl

same-form : (syntax : Syntax) (octets : List ℕ) → form_of syntax octets ≡ in_form syntax octets
same-form Ber octets = refl
same-form Der octets = refl
same-form Packed octets = refl

module _ (tables : Tables) (config : Config) (initiator : Bool) (mode : Mode) (module_s : IsModule tables) where
  abbrev base : Base
  base = base_with tables config initiator mode (transferred tables) (arrived_at tables)

  abbrev text : Item → List ℕ
  text item = written_apdu tables item.pair.transfer item.apdu

  abbrev pdv : Item → Pdv
  pdv item = record { transfer = None; id = item.id; content = in_form item.pair.transfer (text item) }

  writable-so : (item : Item) → IsTransferable base item.apdu → IsWritable tables item.pair.transfer item.apdu
  writable-so item t = transferables-writable base item.pair.transfer item.apdu refl module_s t

  is-transfer : (item : Item) → IsTransferable base item.apdu → IsPlaced base item → IsTransfer (pdv item)
  is-transfer item t p =
      subst (λ (c : PdvContent). IsTransfer (record { transfer = None; id = item.id; content = c })) (same-form item.pair.transfer (text item))
      (values-transfers tables item.id item.pair.transfer item.apdu module_s p.low p.high (writable-so item t))

  of-module : (item : Item) → IsPlaced base item → same_name item.pair.abstract_name tables.name_oid ≡ true
  of-module item p = subst (λ n. same_name n tables.name_oid ≡ true) (sym p.named) (same-itself tables.name_oid)

  carried-so : (item : Item) → IsPlaced base item → is_carried tables.name_oid item.pair.abstract_name ≡ true
  carried-so item p = ap (λ c. c || same_name item.pair.abstract_name acse_name) (of-module item p)

  no-fault : (item : Item) (at : PdvPlaces) → IsPlaced base item → pdv_fault tables.name_oid at (pdv item) (Some item.pair) ≡ None
  no-fault item at p =
      ap (λ c. or_fault (fault_if (not c) (invalid_at at.identifier)) (fault_if (not (is_form item.pair.transfer (in_form item.pair.transfer (text item)))) (invalid_at at.form))) (carried-so item p) ∙
      ap (λ c. fault_if (not c) (invalid_at at.form)) (form-is item.pair.transfer (text item))

  -- the octets of an APDU are that APDU
  remote-content : (item : Item) → IsTransferable base item.apdu → IsPlaced base item → content_under tables carriage.Module item.pair (text item) ≡ Ok (Remote item.apdu)
  remote-content item t p =
      let s = written_spelled tables module_s.readable item.pair.transfer item.apdu (writable-so item t) in
      let found = ap (λ (h : HeardHead). content_of (text item) (apdu_of tables h)) (spelled_said tables item.pair.transfer module_s.readable item.apdu (text item) s) ∙ ap (content_of (text item)) (said_is tables item.pair.transfer module_s.readable item.apdu s.head s.says) in
      rw (of-module item p) (ap (λ (c : ValueContent). let x : Result ValueContent Fault = Ok c in x) found)

  arrives-under : (item : Item) (at : PdvPlaces) → IsTransferable base item.apdu → IsPlaced base item → arrived_under tables at (pdv item) (Some item.pair) ≡ Ok (Whole item)
  arrives-under item at t p =
      ap (λ (os : List ℕ). arrived_as at item.id item.pair (content_under tables carriage.Module item.pair os)) (octets-are item.pair.transfer (text item)) ∙
      ap (λ (r : Result ValueContent Fault). arrived_as at item.id item.pair r) (remote-content item t p)

  reads-so : (set : List SetItem) (item : Item) → IsTransferable base item.apdu → IsPlaced base item → pair_of set item.id ≡ Some item.pair → arrived_at tables set (transferred tables item) ≡ Ok (Whole item)
  reads-so set item t p there =
      let at : PdvPlaces = places_of (spot_at 0 (transferred tables item)) in
      ap (λ (r : Result Pdv PduFault). arrived_in tables set at r) (written_transfer_is_read (pdv item) (is-transfer item t p)).1 ∙
      ap (λ (o : Option Pair). unless_wrong (pdv_fault tables.name_oid at (pdv item) o) (arrived_under tables at (pdv item) o)) there ∙
      ap (λ (f : Option Fault). unless_wrong f (arrived_under tables at (pdv item) (Some item.pair))) (no-fault item at p) ∙
      arrives-under item at t p

  pub spells-so : SpellsTransfers base
  spells-so = record { within = λ item t p. (is-transfer item t p).within; reads = reads-so }

  -- ---- APDUs

  heard-back : (apdu : Apdu) → IsTransferable base apdu → head_at tables Der (written_apdu tables Der apdu) ≡ head_of_apdu apdu
  heard-back apdu t =
      let held : List SetItem = record { id = 0; pair = record { abstract_name = []; transfer = Der } } ∷ [] in
      sym (content_says tables config held (written_apdu tables Der apdu) (Remote apdu) module_s.readable (written_spelled tables module_s.readable Der apdu (transferables-writable base Der apdu refl module_s t)))

  pub back-so : ReadsBack base
  back-so = record { reads = go }
    where
      go : (apdu : Apdu) → IsProper base apdu → is_too_long base apdu ≡ false → IsSaidBack base apdu
      go (apdus.Invoke id linked code argument) proper short = heard-back (apdus.Invoke id linked code argument) (record { proper = proper; short = short })
      go (apdus.Result id returned) proper short = heard-back (apdus.Result id returned) (record { proper = proper; short = short })
      go (apdus.Error id code parameter) proper short = heard-back (apdus.Error id code parameter) (record { proper = proper; short = short })
      go (apdus.Reject id problem) proper short = tt
