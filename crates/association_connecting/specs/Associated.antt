-- The one value of association control, and the first of its user information.
use Rattle.std.specs.Prelude.{List, [], ◌∷◌, Bool, not, Option, Some, None}
use Rattle.osi_base.specs.declared.layer_words.SetItem.{SetItem}
use Rattle.end_rules.specs.Base as base
use Rattle.end_rules.specs.Messages as meant
use Rattle.end_rules.specs.Faults.{invalid_ppdu, rtse_fault, fault_if, or_fault}
use Rattle.end_rules.specs.Connecting.{Associated, associated_in, is_on_rtse}
use Rattle.association_words.specs.declared.values.Value.{Value}
use Rattle.association_words.specs.Seen.{seen_content}

abbrev pub only_one : List Value → Option Value
only_one [] = None
only_one (value ∷ []) = Some value
only_one (value ∷ more ∷ values) = None

abbrev pub associated_one : Option Value → Option Associated
associated_one None = None
associated_one (Some value) = associated_in (seen_content value.content)

-- what may not stand first in user information, where its APDU is meant or not
abbrev pub first_fault : List SetItem → meant.Information → Bool → Option base.Fault
first_fault accepted (meant.Transferring id apdu) is_meant =
    or_fault (fault_if (not (is_on_rtse accepted id)) invalid_ppdu) (fault_if (not is_meant) rtse_fault)
first_fault accepted (meant.Other id octets) is_meant = Some invalid_ppdu
