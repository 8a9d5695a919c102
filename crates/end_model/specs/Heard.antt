-- Data that is taken: an APDU is heard as the model hears it, and the reject that it brings is said or dropped at once.
use Rattle.std.specs.Prelude.{◌≡◌, List, [], true, false, Option, Some, None}
use Rattle.dialogue.specs.declared.config.Mode.{Mode}
use Rattle.dialogue.specs.declared.config.Mode.TheVariants.{Bare, Direct}
use Rattle.end_rules.specs.Base.{Base, Item}
use Rattle.end_rules.specs.State.{Body}
use Rattle.end_rules.specs.Messages.{unit_of}
use Rattle.end_rules.specs.Purging.{is_purged}
use Rattle.end_rules.specs.Reacting.{word_fault, after_word, answers_to_word}
use Rattle.agreement.specs.Sets.{Role}
use Rattle.agreement.specs.Messages.{Act, ModelSetup, Calls as ModelCalls, Apdu as ModelApdu}
use Rattle.agreement.specs.Messages.{Value as ModelValue, Message as ModelMessage}
use Rattle.agreement.specs.Messages.Apdu.{Invoke, Outcome, Reject}
use Rattle.agreement.specs.Messages.Message.{Data}
use Rattle.agreement.specs.Messages.Choice.{Nothing}
use Rattle.agreement.specs.State.{State}
use Rattle.agreement.specs.Calls.{is_open, may_answer}
use Rattle.agreement.specs.Acts.{MayAct, acted, sent_by}
use Rattle.agreement.specs.Takings.{MayTake, taken}
use Rattle.end_model.specs.Seen.{Free, role_seen, item_seen, apdu_seen, calls_seen, seen}
use Rattle.end_model.specs.Seen.{setup_seen}
use Rattle.end_model.specs.Rows.{at}
use Rattle.end_model.specs.OpenInvocations.{IsProper, IsReadBack}
use Rattle.end_model.specs.Words.{data_word, AreOurs}
use Rattle.end_model.specs.Acting.{IsSoundBody}

-- at most one act follows
abbrev pub MayThen : ModelSetup → Role → State → Option Act → Type 0
MayThen setup role state None = Unit {0}
MayThen setup role state (Some act) = MayAct setup role state act

abbrev pub then_acted : ModelSetup → State → Option Act → State
then_acted setup state None = state
then_acted setup state (Some act) = acted setup state act

abbrev pub sent_then : ModelSetup → State → Option Act → List ModelMessage
sent_then setup state None = []
sent_then setup state (Some act) = sent_by setup state act

-- an outcome of an invocation that is open here is one that its operation has
abbrev pub IsExpected : ModelSetup → ModelCalls → ModelApdu → Type 0
IsExpected setup calls (Invoke number operation link argument) = Unit {0}
IsExpected setup calls (Outcome number content) = is_open number calls.own_open ≡ true → may_answer setup calls.own_open number content ≡ true
IsExpected setup calls (Reject number problem) = Unit {0}

pub record HeardAs (free : Free) (mode : Mode) (base : Base) (body : Body) (item : Item) : Type 0 where
  pub no_fault : word_fault (at mode base) body (data_word item) ≡ None
  pub then_act : Option Act
  pub may : MayThen (setup_seen free mode base) (role_seen base.initiator)
      (taken (setup_seen free mode base) (role_seen base.initiator) (seen (at mode base) body) (Data (item_seen (at mode base) item)) Nothing) then_act
  pub sound : IsSoundBody mode base (after_word (at mode base) body (data_word item))
  pub link : (after_word (at mode base) body (data_word item)).link ≡ body.link
  pub after : seen (at mode base) (after_word (at mode base) body (data_word item)) ≡
      then_acted (setup_seen free mode base)
      (taken (setup_seen free mode base) (role_seen base.initiator) (seen (at mode base) body) (Data (item_seen (at mode base) item)) Nothing) then_act
  pub means : AreOurs (at mode base) (answers_to_word (at mode base) body (data_word item))
      (sent_then (setup_seen free mode base)
      (taken (setup_seen free mode base) (role_seen base.initiator) (seen (at mode base) body) (Data (item_seen (at mode base) item)) Nothing) then_act)

-- Data that the model may take, and that isn't purged, is heard so in bare and in direct mode.
abbrev pub HearsIn : Mode → Type 0
HearsIn mode =
    (free : Free) (base : Base) (body : Body) (item : Item) →
    ((value : ModelValue) → free.codec.may_write value ≡ true) → IsSoundBody mode base body →
    IsProper (at mode base) item.apdu → IsReadBack (at mode base) item.apdu →
    IsExpected (setup_seen free mode base) (calls_seen body.calls) (apdu_seen (at mode base) item.apdu) →
    is_purged base.initiator body.link.awaits (unit_of (data_word item)) ≡ false →
    MayTake (setup_seen free mode base) (role_seen base.initiator) (seen (at mode base) body) (Data (item_seen (at mode base) item)) →
    HeardAs free mode base body item

pub record DataHeard : Type 0 where
  pub bare : HearsIn Bare
  pub direct : HearsIn Direct
