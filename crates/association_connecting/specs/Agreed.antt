-- What is agreed for transfers.
use Rattle.std.specs.Prelude.{Bool, true, false, Option, Some}
use Rattle.osi_base.specs.declared.rtse_word.Rtse.{Rtse}
use Rattle.osi_base.specs.declared.rtse_word.Rtse.TheVariants as rtse
use Rattle.osi_base.specs.declared.rtse_word.ConnectionData.{ConnectionData}
use Rattle.osi_base.specs.declared.rtse_word.ConnectionData.TheVariants as data_of
use Rattle.end_rules.specs.Connecting as rules
use Rattle.association_connecting.specs.declared.agreeing.Agreed.{Agreed}

abbrev pub seen_agreed : Agreed → rules.Agreed
seen_agreed a = record { checkpoint = a.checkpoint; window = a.window }

abbrev pub is_recovery : ConnectionData → Bool
is_recovery (data_of.Open value) = false
is_recovery (data_of.Recover reference common) = true

-- it is a request for transfers that names an association to be recovered
abbrev pub names_recovery : Option Rtse → Bool
names_recovery (Some (rtse.OpenRequest checkpoint window mode connection)) = is_recovery connection
names_recovery _ = false
