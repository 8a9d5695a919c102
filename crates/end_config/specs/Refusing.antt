-- Which configurations an end refuses in any mode, and why: the first row that holds decides.
use Rattle.std.specs.Prelude.{ℕ, ◌%◌, List, [], ◌∷◌, ◌++◌, length, Bool, true, false, not, ◌&&◌, ◌||◌, nat_eq, nat_lt, Option, Some, None, if◌then◌else◌}
use Rattle.std.specs.List.{list_any}
use Rattle.osi_base.specs.declared.layer_words.Proposal.{Proposal}
use Rattle.osi_base.specs.Limits.{highest_context, most_connect_data, most_proposed}
use Rattle.dialogue.specs.declared.config.Config.{Config}
use Rattle.dialogue.specs.declared.config.Mode.{Mode}
use Rattle.dialogue.specs.declared.config.ConfigRefusal.{ConfigRefusal}
use Rattle.dialogue.specs.declared.config.ConfigRefusal.TheVariants as refusals
use Rattle.dialogue.specs.Config as values
use Rattle.association_ground.specs.end_rules.Base.{is_bare, is_reliable}
use Rattle.association_ground.specs.end_rules.State.{is_empty}
use Rattle.end_config.specs.Connecting.{connect_octets}

-- ---- contexts

-- one of these has the identifier
abbrev pub is_taken : ℕ → List Proposal → Bool
is_taken id before = list_any (λ (p : Proposal). nat_eq p.id id) before

-- An initiator's identifiers are odd; 1 is that of association control, 3 that of reliable transfer; each comes once
-- (X.226 8.2; the highest is this project's own).
abbrev pub is_bad_context : Mode → List Proposal → Proposal → Bool
is_bad_context mode before p =
    nat_eq (p.id % 2) 0 || nat_eq p.id 1 || (is_reliable mode && nat_eq p.id 3) || nat_lt highest_context p.id || is_taken p.id before || is_empty p.transfers

-- the first context that is bad, behind these
abbrev pub bad_context : Mode → List Proposal → List Proposal → Option ℕ
bad_context mode before [] = None
bad_context mode before (p ∷ ps) = if is_bad_context mode before p then Some p.id else bad_context mode (before ++ p ∷ []) ps

-- ---- the octets of CP: a CONNECT carries 10,240 octets of user data (X.225 8.3.1.20)

abbrev pub is_too_long : Config → Bool
is_too_long config = nat_lt most_connect_data (length (connect_octets config false)) || nat_lt most_connect_data (length (connect_octets config true))

-- ---- the rows

abbrev pub or_refusal : Option ConfigRefusal → Option ConfigRefusal → Option ConfigRefusal
or_refusal None later = later
or_refusal (Some refusal) later = Some refusal

abbrev pub context_refusal : Option ℕ → ℕ → Option ConfigRefusal
context_refusal (Some id) count = Some (refusals.BadContext id)
context_refusal None count = if nat_lt most_proposed count then Some refusals.TooManyContexts else None

-- what is refused without a look at CP: contexts, selectors, references, checkpoint and window
abbrev pub early_refusal : Config → Option ConfigRefusal
early_refusal config =
    or_refusal (context_refusal (bad_context config.mode [] config.contexts) (length config.contexts)) (values.bare_config_refusal config)

-- an initiator opens by a CP, but not in bare mode
abbrev pub has_connect : Config → Bool
has_connect config = config.initiator && not (is_bare config.mode)

abbrev pub late_refusal : Config → Option ConfigRefusal
late_refusal config = if has_connect config && is_too_long config then Some refusals.TooLong else None

abbrev pub config_refusal : Config → Option ConfigRefusal
config_refusal config = or_refusal (early_refusal config) (late_refusal config)
