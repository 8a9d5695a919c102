-- What may not stand in an AC, step by step.
use Rattle.std.specs.Prelude.{List, Option, None, not, ◌&&◌, ◌||◌, if◌then◌else◌}
use Rattle.osi_base.specs.declared.layer_words.SetItem.{SetItem}
use Rattle.end_rules.specs.Base.{Base, Fault, is_reliable}
use Rattle.end_rules.specs.Messages.{DataValue}
use Rattle.end_rules.specs.Faults.{invalid_ppdu, acse_fault, rtse_fault, fault_if, or_fault}
use Rattle.end_rules.specs.Connecting.{the_one, user_of, rtse_in, information_fault, is_accepting, is_open_accept, lacks_accept, has_acse, has_rtse}

abbrev pub values_fault : Base → List SetItem → List DataValue → Option Fault
values_fault base accepted values =
    or_fault (fault_if (not (is_accepting (the_one values))) acse_fault)
    (if is_reliable base.mode
    then or_fault (information_fault is_open_accept accepted (user_of (the_one values))) (fault_if (lacks_accept (rtse_in (user_of (the_one values)))) rtse_fault)
    else None)

abbrev pub accepted_fault : Base → List SetItem → List DataValue → Option Fault
accepted_fault base accepted values =
    or_fault (fault_if (not (has_acse accepted) || is_reliable base.mode && not (has_rtse accepted)) invalid_ppdu) (values_fault base accepted values)
