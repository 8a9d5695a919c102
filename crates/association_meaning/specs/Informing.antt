-- User information step by step, as the code reads it. No public clause cites this module.
use Rattle.std.specs.Prelude.{ℕ, List, map, slice_set, Bool, true, false, Option, Some, None, option_map, Result, Ok, Err}
use Rattle.osi_base.specs.declared.layer_words.SetItem.{SetItem}
use Rattle.osi_base.specs.declared.acse_word.Acse.{Acse}
use Rattle.osi_base.specs.declared.rtse_word.Rtse.{Rtse}
use Rattle.fixed_tables.specs.declared.pdu.PduFault.{PduFault}
use Rattle.rtse_apdus.specs.Reading.{rtse_at}
use Rattle.end_rules.specs.Base.{Fault}
use Rattle.end_rules.specs.Messages as meant
use Rattle.end_rules.specs.Connecting.{is_on_rtse}
use Rattle.association_intake.specs.association_reading.Values.{unreadable_rtse}
use Rattle.association_intake.specs.association_reading.Association.{is_aarq, is_acceptance, is_response, is_abort}
use Rattle.association_words.specs.declared.values.Information.{Information}
use Rattle.association_words.specs.Seen.{seen_information}
use Rattle.association_meaning.specs.declared.user_information.AcseKind.{AcseKind}
use Rattle.association_meaning.specs.declared.user_information.AcseKind.TheVariants.{Request, Acceptance, Response, Abort}

abbrev pub kind_of : AcseKind → Acse → Bool
kind_of Request = is_aarq
kind_of Acceptance = is_acceptance
kind_of Response = is_response
kind_of Abort = is_abort

abbrev pub seen_items : List Information → List meant.Information
seen_items items = map seen_information items

abbrev pub seen_item_read : Option Information → Option meant.Information
seen_item_read item = option_map seen_information item

abbrev pub transferring : ℕ → Result Rtse PduFault → Result meant.Information Fault
transferring id (Ok apdu) = Ok (meant.Transferring id apdu)
transferring id (Err fault) = Err (unreadable_rtse fault)

abbrev pub as_read : Result meant.Information Fault → Result (Option meant.Information) Fault
as_read (Ok item) = Ok (Some item)
as_read (Err fault) = Err fault

-- what stands in the place of an item, where it is read: its context is an accepted one of reliable transfer
abbrev pub other_read : Bool → ℕ → Result Rtse PduFault → Result (Option meant.Information) Fault
other_read false id read = Ok None
other_read true id read = as_read (transferring id read)

abbrev pub item_read : List SetItem → meant.Information → Result (Option meant.Information) Fault
item_read accepted (meant.Transferring id apdu) = Ok None
item_read accepted (meant.Other id octets) = other_read (is_on_rtse accepted id) id (rtse_at octets)

-- items of which the first is this one, where there is one
abbrev pub with_first : List Information → Option Information → List Information
with_first items None = items
with_first items (Some read) = slice_set items 0 read
