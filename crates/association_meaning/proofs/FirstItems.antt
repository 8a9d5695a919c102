-- User information of which the first item is read.
use Rattle.std.proofs.Common.{◌≡◌, ℕ, List, [], ◌∷◌, Bool, true, false, Option, Some, None, Result, Ok, Err, refl, sym, subst}
use Rattle.std.specs.Prelude.{slice_get, if◌then◌else◌}
use Rattle.osi_base.specs.declared.layer_words.SetItem.{SetItem}
use Rattle.osi_base.specs.declared.acse_word.Acse.{Acse}
use Rattle.osi_base.specs.declared.rtse_word.Rtse.{Rtse}
use Rattle.fixed_tables.specs.declared.pdu.PduFault.{PduFault}
use Rattle.rtse_apdus.specs.Reading.{rtse_at}
use Rattle.end_rules.specs.Base.{Fault}
use Rattle.end_rules.specs.Messages as meant
use Rattle.end_rules.specs.Connecting.{is_on_rtse}
use Rattle.association_intake.specs.association_reading.Values as reading
use Rattle.association_words.specs.declared.values.Information.{Information}
use Rattle.association_words.specs.declared.values.Information.TheVariants.{Transferring, Other}
use Rattle.association_words.specs.declared.values.ValueContent.{ValueContent}
use Rattle.association_words.specs.declared.values.ValueContent.TheVariants.{Association}
use Rattle.association_words.specs.declared.values.Value.{Value}
use Rattle.association_words.specs.Seen.{seen_information, seen_content, seen_value, seen_fault}
use Rattle.association_meaning.specs.declared.basis.Halt.{Halt}
use Rattle.association_meaning.specs.declared.basis.Halt.TheVariants.{Faulty, NoMemory}
use Rattle.association_meaning.specs.Grounds.{FailsAs}
use Rattle.association_meaning.specs.Informing.{seen_items, seen_item_read, other_read, item_read, with_first}
use Rattle.association_meaning.proofs.Fails.{user_fails}

-- ---- the first item

other_is : (on : Bool) (id : ℕ) (octets : List ℕ) (items : List Information) (r : Result Rtse PduFault) (read : Option Information) → other_read on id r ≡ Ok (seen_item_read read)
    → (if on then reading.informed id (seen_items items) r else Ok (meant.Other id octets ∷ seen_items items)) ≡ Ok (seen_items (with_first (Other id octets ∷ items) read))
other_is false id octets items r None e = refl
other_is false id octets items r (Some x) e = absurd cc
other_is true id octets items (Ok apdu) None e = absurd cc
other_is true id octets items (Ok apdu) (Some x) e = cc
other_is true id octets items (Err f) read e = absurd cc

first_is : (accepted : List SetItem) (item : Information) (items : List Information) (read : Option Information) → item_read accepted (seen_information item) ≡ Ok (seen_item_read read)
    → reading.first_informed accepted (seen_items (item ∷ items)) ≡ Ok (seen_items (with_first (item ∷ items) read))
first_is accepted (Transferring id apdu) items None e = refl
first_is accepted (Transferring id apdu) items (Some x) e = absurd cc
first_is accepted (Other id octets) items read e = other_is (is_on_rtse accepted id) id octets items (rtse_at octets) read e

pub first_read : (accepted : List SetItem) (items : List Information) (item : Information) (read : Option Information) → slice_get items 0 ≡ Some item → item_read accepted (seen_information item) ≡ Ok (seen_item_read read)
    → reading.first_informed accepted (seen_items items) ≡ Ok (seen_items (with_first items read))
first_read accepted [] item read h e = absurd cc
first_read accepted (x ∷ items) item read h e =
    let same : item ≡ x = cc in
    first_is accepted x items read (subst (λ (i : Information). item_read accepted (seen_information i) ≡ Ok (seen_item_read read)) same e)

pub first_none : (accepted : List SetItem) (items : List Information) → slice_get items 0 ≡ None → reading.first_informed accepted (seen_items items) ≡ Ok (seen_items items)
first_none accepted [] h = refl
first_none accepted (x ∷ items) h = absurd cc

-- ---- a fault of it

other_fails : (on : Bool) (id : ℕ) (octets : List ℕ) (items : List meant.Information) (r : Result Rtse PduFault) (f : Fault) → other_read on id r ≡ Err f
    → (if on then reading.informed id items r else Ok (meant.Other id octets ∷ items)) ≡ Err f
other_fails false id octets items r f e = absurd cc
other_fails true id octets items (Ok apdu) f e = absurd cc
other_fails true id octets items (Err g) f e = cc

at_first : (accepted : List SetItem) (item : Information) (items : List Information) (f : Fault) → item_read accepted (seen_information item) ≡ Err f
    → reading.first_informed accepted (seen_items (item ∷ items)) ≡ Err f
at_first accepted (Transferring id apdu) items f e = absurd cc
at_first accepted (Other id octets) items f e = other_fails (is_on_rtse accepted id) id octets (seen_items items) (rtse_at octets) f e

pub first_fails : (e : Halt) (accepted : List SetItem) (items : List Information) (item : Information) → slice_get items 0 ≡ Some item → FailsAs e (item_read accepted (seen_information item))
    → FailsAs e (reading.first_informed accepted (seen_items items))
first_fails NoMemory accepted items item h f = tt
first_fails (Faulty x) accepted [] item h f = absurd cc
first_fails (Faulty x) accepted (i ∷ items) item h f =
    let same : item ≡ i = cc in
    at_first accepted i items (seen_fault x) (subst (λ (j : Information). item_read accepted (seen_information j) ≡ Err (seen_fault x)) same f)

-- ---- a value whose user information is read

module _ (accepted : List SetItem) (is_kind : Acse → Bool) (value : Value) (apdu : Acse) (user : List Information)
    (is : value.content ≡ Association apdu user) (kind : is_kind apdu ≡ true) where
  pub value_fails : (e : Halt) → FailsAs e (reading.first_informed accepted (seen_items user)) → FailsAs e (reading.informed_value accepted is_kind (seen_value value) (seen_value value).content)
  value_fails e h =
      subst (λ (c : ValueContent). FailsAs e (reading.informed_value accepted is_kind (seen_value value) (seen_content c))) (sym is)
      (rw kind (user_fails e (seen_value value) apdu (reading.first_informed accepted (seen_items user)) h))
