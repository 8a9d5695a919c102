-- Lines of the setup: mode bare|direct, mode reliable CHECKPOINT WINDOW, context ID SYNTAX.., accepts A|B SYNTAX..
use Rattle.std.specs.Prelude.{ℕ, nat_eq, Bool, true, false, ◌||◌, ◌&&◌, is_some, if◌then◌else◌, List, [], ◌∷◌, ◌++◌, Some, Ok, Err, codes, bytes_eq}
use Rattle.std.specs.List.{list_any}
use Rattle.osi_base.specs.declared.layer_words.Side.{Side}
use Rattle.osi_base.specs.declared.layer_words.Side.TheVariants.{A, B}
use Rattle.osi_base.specs.declared.layer_words.Proposal.{Proposal}
use Rattle.stub_tables.specs.declared.tables.Tables.{Tables}
use Rattle.dialogue.specs.declared.config.Mode.TheVariants.{Bare, Direct, Reliable}
use Rattle.end_rules.specs.Base.{is_bare}
use Rattle.script_lines.specs.declared.fault.ScriptKind.TheVariants.{UnknownWord, BadSetup}
use Rattle.script_lines.specs.declared.syntax.EndsBefore.TheVariants.{Nothing}
use Rattle.script_lines.specs.Reading.{Reading, ◌>>=◌, or_kind}
use Rattle.script_lines.specs.Fields.{field_at, number_at, if_over}
use Rattle.script_lines.specs.Syntaxes.{syntaxes_at}
use Rattle.schedule_text.specs.declared.setup_line.ModeLine.{ModeLine}
use Rattle.schedule_text.specs.declared.setting.Modes.{Modes}
use Rattle.schedule_text.specs.declared.setting.Setting.{Setting}
use Rattle.schedule_text.specs.Settings.{mode_of, names_for, settled}
use Rattle.schedule_text.specs.Events.{side_of}

-- where the ends run it and refuse neither configuration
abbrev pub kept_settled : Modes → Tables → Setting → Reading Setting
kept_settled modes tables s = settled modes tables s >>= λ _. Ok s

-- ---- mode

abbrev pub reliable_at : List ℕ → Reading ModeLine
reliable_at text = do
  checkpoint ← number_at text
  window ← number_at checkpoint.1
  if_over (record { mode = Reliable; checkpoint = checkpoint.0; window = window.0 }) window.1

abbrev pub mode_named : List ℕ → List ℕ → Reading ModeLine
mode_named word rest =
    if bytes_eq word (codes "bare") then if_over (record { mode = Bare; checkpoint = 0; window = 1 }) rest
    else if bytes_eq word (codes "direct") then if_over (record { mode = Direct; checkpoint = 0; window = 1 }) rest
    else if bytes_eq word (codes "reliable") then reliable_at rest
    else Err UnknownWord

abbrev pub mode_at : List ℕ → Reading ModeLine
mode_at text = field_at text >>= λ word. mode_named word.0 word.1

abbrev pub is_filled : List Proposal → Bool
is_filled [] = false
is_filled (p ∷ ps) = true

-- a line named contexts or accepted syntaxes
abbrev pub has_lines : Setting → Bool
has_lines s = is_filled s.contexts || is_some s.accepted_by_a || is_some s.accepted_by_b

-- bare mode has neither
abbrev pub with_mode : Modes → Tables → Setting → ModeLine → Reading Setting
with_mode modes tables s line =
    if is_bare line.mode && has_lines s then Err BadSetup
    else kept_settled modes tables (record s { mode = Some line.mode; checkpoint = line.checkpoint; window = line.window })

-- one line names the mode
abbrev pub mode_line : Modes → Tables → Setting → List ℕ → Reading Setting
mode_line modes tables s text = if is_some s.mode then Err BadSetup else (mode_at text >>= λ line. with_mode modes tables s line)

-- ---- context

abbrev pub is_named : ℕ → List Proposal → Bool
is_named id ps = list_any (λ (p : Proposal). nat_eq p.id id) ps

abbrev pub with_context : Tables → Setting → ℕ → List (List ℕ) → Setting
with_context tables s id transfers = record s { contexts = s.contexts ++ record { id = id; abstract_name = tables.name_oid; transfers = transfers } ∷ [] }

abbrev pub new_context : Modes → Tables → Setting → ℕ → List ℕ → Reading Setting
new_context modes tables s id rest =
    if is_named id s.contexts then Err BadSetup
    else (syntaxes_at Nothing rest >>= λ transfers. kept_settled modes tables (with_context tables s id transfers.0))

-- one line names a context, and none in bare mode
abbrev pub context_line : Modes → Tables → Setting → List ℕ → Reading Setting
context_line modes tables s text =
    if is_bare (mode_of s) then Err BadSetup else (number_at text >>= λ id. new_context modes tables s id.0 id.1)

-- ---- accepts

abbrev pub with_accepted : Setting → Side → List (List ℕ) → Setting
with_accepted s A names = record s { accepted_by_a = Some names }
with_accepted s B names = record s { accepted_by_b = Some names }

abbrev pub new_accepted : Modes → Tables → Setting → Side → List ℕ → Reading Setting
new_accepted modes tables s side rest =
    if is_some (names_for s side) then Err BadSetup
    else (syntaxes_at Nothing rest >>= λ names. kept_settled modes tables (with_accepted s side names.0))

abbrev pub accepts_fields : Modes → Tables → Setting → List ℕ → Reading Setting
accepts_fields modes tables s text = do
  letter ← field_at text
  side ← or_kind UnknownWord (side_of letter.0)
  new_accepted modes tables s side letter.1

-- one line names what an end accepts, and none in bare mode
abbrev pub accepts_line : Modes → Tables → Setting → List ℕ → Reading Setting
accepts_line modes tables s text = if is_bare (mode_of s) then Err BadSetup else accepts_fields modes tables s text

-- ---- all lines of the setup

abbrev pub is_setup_word : List ℕ → Bool
is_setup_word word = bytes_eq word (codes "mode") || bytes_eq word (codes "context") || bytes_eq word (codes "accepts")

-- of which the first word and what follows it are given
abbrev pub setup_line : Modes → Tables → Setting → List ℕ → List ℕ → Reading Setting
setup_line modes tables s word rest =
    if bytes_eq word (codes "mode") then mode_line modes tables s rest
    else if bytes_eq word (codes "context") then context_line modes tables s rest
    else if bytes_eq word (codes "accepts") then accepts_line modes tables s rest
    else Err UnknownWord
