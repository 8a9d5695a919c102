-- What is on its way between two ends of direct mode, and between two ends of reliable mode.
use Rattle.std.specs.Prelude.{◌≡◌, ◌≤◌, false}
use Rattle.std.specs.List.{list_any}
use Rattle.dialogue.specs.declared.config.Config.{Config}
use Rattle.stub_tables.specs.declared.tables.Tables.{Tables}
use Rattle.end_model.specs.end_rules.Base.{Spellings}
use Rattle.end_model.specs.end_rules.Sets.{proposed_ids}
use Rattle.end_model.specs.end_rules.Altering.{is_no_context}
use Rattle.end_model.specs.end_rules.Writing.{proposals}
use Rattle.agreement.specs.Sets.{Role}
use Rattle.agreement.specs.Sets.Role.{Initiator, Responder}
use Rattle.end_model.specs.Seen.{Free}
use Rattle.end_model.specs.Acting.{ReadsBack}
use Rattle.end_model.specs.BothEnds.{Common, Two, base_at, coming_to, WritesAll}
use Rattle.end_model.specs.DirectEnds.{direct_common, ProposesRightly}
use Rattle.reliable_model.specs.Codecs.{Carries}
use Rattle.reliable_model.specs.Ledgers.{Ledger}
use Rattle.reliable_model.specs.ReliableEnds.{reliable_common, IsFit}
use Rattle.said_words.specs.Calls.{Speaks}
use Rattle.said_words.specs.Words.{AreMessages}

-- the initiator proposes identifiers of contexts, as a configuration that isn't refused has them
abbrev pub ProposesContexts : Common → Type 0
ProposesContexts common = list_any is_no_context (proposed_ids (proposals (base_at Initiator common))) ≡ false

abbrev pub DirectSaysWords : Type 0
DirectSaysWords =
    (free : Free) (tables : Tables) (spellings : Spellings) (a b : Config) → WritesAll free →
    ReadsBack (base_at Initiator (direct_common tables spellings a b)) → ProposesRightly (direct_common tables spellings a b) →
    ProposesContexts (direct_common tables spellings a b) →
    (two : Two) (ledger : Ledger) → Speaks (direct_common tables spellings a b) two ledger → (role : Role) →
    AreMessages (base_at Initiator (direct_common tables spellings a b)) (base_at Responder (direct_common tables spellings a b)) (coming_to role two)

-- Neither window is 0, as configurations that aren't refused have it.
abbrev pub ReliableSaysWords : Type 0
ReliableSaysWords =
    (free : Free) (tables : Tables) (spellings : Spellings) (a b : Config) → Carries free (base_at Initiator (reliable_common tables spellings a b)) →
    IsFit (reliable_common tables spellings a b) → 1 ≤ a.window →
    (two : Two) (ledger : Ledger) → Speaks (reliable_common tables spellings a b) two ledger → (role : Role) →
    AreMessages (base_at Initiator (reliable_common tables spellings a b)) (base_at Responder (reliable_common tables spellings a b)) (coming_to role two)
