-- Which configurations an end refuses, and why: the first row that holds decides.
use Rattle.std.specs.Prelude.{◌≡◌, ℕ, List, [], length, Bool, ◌||◌, not, nat_lt, nat_eq, Option, Some, None, Result, Ok, Err, if◌then◌else◌}
use Rattle.osi_base.specs.Limits.{most_checkpoint, most_window, most_selector, most_reference, common_octets}
use Rattle.dialogue.specs.declared.config.Config.{Config}
use Rattle.dialogue.specs.declared.config.Mode.TheVariants.{Bare}
use Rattle.dialogue.specs.declared.config.ConfigRefusal.{ConfigRefusal}
use Rattle.dialogue.specs.declared.config.ConfigRefusal.TheVariants as refusals

-- a selector has at least one octet (X.225 8.3.1)
abbrev pub is_bad_selector : List ℕ → Bool
is_bad_selector octets = nat_eq (length octets) 0 || nat_lt most_selector (length octets)

-- a reference has at least one octet
abbrev pub is_bad_reference : List ℕ → List ℕ → Bool
is_bad_reference reference common = nat_eq (length reference) 0 || nat_lt most_reference (length reference) || not (nat_eq (length common) common_octets)

abbrev pub is_bad_window : ℕ → ℕ → Bool
is_bad_window checkpoint window = nat_lt most_checkpoint checkpoint || nat_eq window 0 || nat_lt most_window window

-- the refusal of a configuration of bare mode, which has no contexts
abbrev pub bare_config_refusal : Config → Option ConfigRefusal
bare_config_refusal config =
    if is_bad_selector config.calling || is_bad_selector config.called then Some refusals.BadSelector
    else (if is_bad_reference config.reference config.common then Some refusals.BadReference
    else (if is_bad_window config.checkpoint config.window then Some refusals.BadWindow
    else None))

-- the answer of a check
abbrev pub refused_if : Option ConfigRefusal → Result (Unit {0}) ConfigRefusal
refused_if None = Ok tt
refused_if (Some refusal) = Err refusal

-- a configuration of bare mode, for an initiator or a responder, that no end refuses
pub record IsBare (initiator : Bool) (config : Config) : Type 0 where
  pub side : config.initiator ≡ initiator
  pub mode : config.mode ≡ Bare
  pub contexts : config.contexts ≡ []
  pub accepted : bare_config_refusal config ≡ None
