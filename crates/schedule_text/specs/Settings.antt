-- What the lines of the setup say, as the configurations of two ends.
use Rattle.std.specs.Prelude.{ℕ, Bool, true, false, not, ◌||◌, if◌then◌else◌, List, [], ◌∷◌, Option, None, Some, Ok, Err, codes}
use Rattle.osi_base.specs.declared.layer_words.Side.{Side}
use Rattle.osi_base.specs.declared.layer_words.Side.TheVariants.{A, B}
use Rattle.osi_base.specs.declared.layer_words.Proposal.{Proposal}
use Rattle.osi_base.specs.declared.syntax.Syntax.TheVariants.{Ber, Der, Packed}
use Rattle.osi_base.specs.Syntax.{name_of}
use Rattle.stub_tables.specs.declared.tables.Tables.{Tables}
use Rattle.dialogue.specs.declared.config.Config.{Config}
use Rattle.dialogue.specs.declared.config.ConfigRefusal.{ConfigRefusal}
use Rattle.dialogue.specs.declared.config.ConfigRefusal.TheVariants as refusals
use Rattle.dialogue.specs.declared.config.Mode.{Mode}
use Rattle.dialogue.specs.declared.config.Mode.TheVariants.{Bare, Direct, Reliable}
use Rattle.end_rules.specs.Base.{is_bare}
use Rattle.end_config.specs.Refusing.{config_refusal}
use Rattle.script_lines.specs.declared.fault.ScriptKind.TheVariants.{BadSetup}
use Rattle.script_lines.specs.declared.line_fault.ScriptLineFault.{ScriptLineFault}
use Rattle.script_lines.specs.declared.line_fault.ScriptLineFault.TheVariants as faults
use Rattle.script_lines.specs.Reading.{Reading, ◌>>=◌}
use Rattle.schedule_text.specs.declared.setting.Modes.{Modes}
use Rattle.schedule_text.specs.declared.setting.Setting.{Setting}

-- before any line
abbrev pub start : Setting
start = record { mode = None; checkpoint = 0; window = 1; contexts = []; accepted_by_a = None; accepted_by_b = None }

-- the ends run this mode
abbrev pub runs : Modes → Mode → Bool
runs modes Bare = true
runs modes Direct = modes.direct
runs modes Reliable = modes.reliable

abbrev pub mode_or_direct : Option Mode → Mode
mode_or_direct None = Direct
mode_or_direct (Some mode) = mode

abbrev pub mode_of : Setting → Mode
mode_of s = mode_or_direct s.mode

abbrev pub default_context : Tables → Proposal
default_context tables = record { id = 5; abstract_name = tables.name_oid; transfers = name_of Ber ∷ [] }

abbrev pub or_default : Tables → List Proposal → List Proposal
or_default tables [] = default_context tables ∷ []
or_default tables (p ∷ ps) = p ∷ ps

-- the contexts that an end proposes: none as a responder or in bare mode
abbrev pub contexts_of : Tables → Bool → Setting → List Proposal
contexts_of tables initiator s = if not initiator || is_bare (mode_of s) then [] else or_default tables s.contexts

abbrev pub all_syntaxes : List (List ℕ)
all_syntaxes = name_of Ber ∷ name_of Der ∷ name_of Packed ∷ []

abbrev pub accepted_of : Option (List (List ℕ)) → List (List ℕ)
accepted_of None = all_syntaxes
accepted_of (Some names) = names

-- the syntaxes that an end accepts
abbrev pub accepts_of : Bool → Setting → List (List ℕ)
accepts_of initiator s =
    if is_bare (mode_of s) then [] else if initiator then accepted_of s.accepted_by_a else accepted_of s.accepted_by_b

abbrev pub names_for : Setting → Side → Option (List (List ℕ))
names_for s A = s.accepted_by_a
names_for s B = s.accepted_by_b

unfoldable pub config_of : Tables → Bool → Setting → Config
config_of tables initiator s = record {
  initiator = initiator;
  mode = mode_of s;
  contexts = contexts_of tables initiator s;
  accepts = accepts_of initiator s;
  calling = 0 ∷ 1 ∷ [];
  called = 0 ∷ 1 ∷ [];
  reference = codes "ref1";
  common = codes "260101000000Z";
  checkpoint = s.checkpoint;
  window = s.window;
}

-- want of memory is no refusal
abbrev pub fault_of : ConfigRefusal → ScriptLineFault
fault_of refusals.NoMemory = faults.NoMemory
fault_of refusal = faults.Kind BadSetup

abbrev pub unless_refused : Option ConfigRefusal → Reading (Unit {0})
unless_refused None = Ok tt
unless_refused (Some refusal) = Err BadSetup

-- no end refuses the configuration
unfoldable pub accepted : Config → Reading (Unit {0})
accepted config = unless_refused (config_refusal config)

-- the configuration of an end, where none refuses it
abbrev pub accepted_config : Tables → Bool → Setting → Reading Config
accepted_config tables initiator s = accepted (config_of tables initiator s) >>= λ _. Ok (config_of tables initiator s)

-- both configurations, where the ends run the mode and refuse neither
unfoldable pub settled : Modes → Tables → Setting → Reading (Config × Config)
settled modes tables s =
    if runs modes (mode_of s)
    then (accepted_config tables true s >>= λ a. accepted_config tables false s >>= λ b. Ok (a, b))
    else Err BadSetup
