-- In reliable mode too an outcome that an end is told is one that the other end wrote.
use Rattle.dialogue.specs.declared.config.Config.{Config}
use Rattle.stub_tables.specs.declared.tables.Tables.{Tables}
use Rattle.end_model.specs.end_rules.Base.{Spellings}
use Rattle.agreement.specs.Sets.{Role, other}
use Rattle.agreement.specs.Sets.Role.{Initiator}
use Rattle.end_model.specs.Seen.{Free}
use Rattle.end_model.specs.BothEnds.{base_at, Two}
use Rattle.reliable_model.specs.Codecs.{Carries}
use Rattle.reliable_model.specs.Ledgers.{Ledger}
use Rattle.reliable_model.specs.ReliableEnds.{reliable_common, IsFit}
use Rattle.outcome_laws.specs.Exchanges.{Exchanges, exchange_of, ReachedWithExchanges}
use Rattle.outcome_laws.specs.Outcomes.{AreAnswers}

-- Each outcome that an end of reliable mode is told is an APDU that the other end wrote, where transfers are read back as
-- `reliable_model` presumes it.
abbrev pub TransferredAnswers : Type 0
TransferredAnswers =
    (free : Free) (tables : Tables) (spellings : Spellings) (a b : Config) → Carries free (base_at Initiator (reliable_common tables spellings a b)) →
    IsFit (reliable_common tables spellings a b) → (two : Two) (ledger : Ledger) (exchanges : Exchanges) → ReachedWithExchanges (reliable_common tables spellings a b) two ledger exchanges →
    (role : Role) → AreAnswers tables (exchange_of (other role) exchanges).wrote (exchange_of role exchanges).shown
