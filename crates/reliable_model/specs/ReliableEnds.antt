-- Two ends of reliable mode, and a run of the model that goes with them: from the first transport connection on, through the
-- opening, transfers, interrupts, discards, resumptions, the turn, alterations, the release and aborts, with breaks at any moment
-- and recoveries.
use Rattle.std.specs.Prelude.{◌≡◌, ◌≤◌, List, ◌∷◌, true, false}
use Rattle.std.specs.List.{list_any}
use Rattle.end_model.specs.dialogue.declared.config.Config.{Config}
use Rattle.end_model.specs.dialogue.declared.config.Mode.TheVariants.{Reliable}
use Rattle.end_model.specs.dialogue.declared.indication.Indication.{Indication}
use Rattle.stub_tables.specs.declared.tables.Tables.{Tables}
use Rattle.end_model.specs.end_rules.Base.{Spellings, Fault}
use Rattle.end_model.specs.end_rules.Sets.{proposed_ids}
use Rattle.end_model.specs.end_rules.Altering.{is_no_context}
use Rattle.end_model.specs.end_rules.Writing.{proposals}
use Rattle.end_model.specs.end_rules.Messages.{Message}
use Rattle.end_model.specs.end_rules.State.{Body, holds_turn}
use Rattle.end_model.specs.end_rules.Reacting.{Fails, react}
use Rattle.agreement.specs.Sets.{Role}
use Rattle.agreement.specs.Sets.Role.{Initiator}
use Rattle.end_model.specs.Seen.{Free}
use Rattle.end_model.specs.Acting.{ReadsBack}
use Rattle.end_model.specs.BothEnds.{Common, base_at, Two, body_at, coming_to}
use Rattle.end_model.specs.DirectEnds.{ProposesRightly, RunOf}
use Rattle.reliable_model.specs.Codecs.{SpellsTransfers, Carries}
use Rattle.reliable_model.specs.Ledgers.{Ledger, ReachedWithLedger}

abbrev pub reliable_common : Tables → Spellings → Config → Config → Common
reliable_common tables spellings a b = record { tables = tables; spellings = spellings; mode = Reliable; of_initiator = a; of_responder = b }

-- What is presumed of them: APDUs and transfers are read back as they were written; the contexts that the initiator proposes
-- come once each, have its parity and identifiers of contexts, and the window of the responder isn't 0, as configurations that
-- aren't refused have it.
pub record IsFit (common : Common) : Type 0 where
  pub reads : ReadsBack (base_at Initiator common)
  pub spells : SpellsTransfers (base_at Initiator common)
  pub proposes : ProposesRightly common
  pub identifiers : list_any is_no_context (proposed_ids (proposals (base_at Initiator common))) ≡ false
  pub window : 1 ≤ common.of_responder.window

-- Whatever two ends of reliable mode reach, there is a run of the model with their states and with what is on its way.
abbrev pub ReliableModelled : Type 0
ReliableModelled =
    (free : Free) (tables : Tables) (spellings : Spellings) (a b : Config) → Carries free (base_at Initiator (reliable_common tables spellings a b)) →
    IsFit (reliable_common tables spellings a b) → (two : Two) (ledger : Ledger) → ReachedWithLedger (reliable_common tables spellings a b) two ledger →
    RunOf free (reliable_common tables spellings a b) two

-- Whatever comes next to an end of them is taken or passed over: neither aborts of itself.
abbrev pub ReliableTakes : Type 0
ReliableTakes =
    (free : Free) (tables : Tables) (spellings : Spellings) (a b : Config) → Carries free (base_at Initiator (reliable_common tables spellings a b)) →
    IsFit (reliable_common tables spellings a b) →
    (two : Two) (ledger : Ledger) (role : Role) (message : Message) (left : List Message) (fault : Fault) (body : Body) (aborts : List Message) (shown : List Indication) →
    ReachedWithLedger (reliable_common tables spellings a b) two ledger → coming_to role two ≡ message ∷ left →
    react (base_at role (reliable_common tables spellings a b)) (body_at role two) message ≡ Fails fault body aborts shown → ⊥

-- At no moment do both of them hold the turn.
abbrev pub ReliableOneHolder : Type 0
ReliableOneHolder =
    (free : Free) (tables : Tables) (spellings : Spellings) (a b : Config) → Carries free (base_at Initiator (reliable_common tables spellings a b)) →
    IsFit (reliable_common tables spellings a b) → (two : Two) (ledger : Ledger) → ReachedWithLedger (reliable_common tables spellings a b) two ledger →
    holds_turn two.a ≡ true → holds_turn two.b ≡ true → ⊥
