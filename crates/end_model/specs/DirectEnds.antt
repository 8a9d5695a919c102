-- Two ends of direct mode, and a run of the model that goes with them: from the transport connection through the opening,
-- alterations, marks, restarts, the release and aborts, with breaks at any moment.
use Rattle.std.specs.Prelude.{◌≡◌, List, [], ◌∷◌, true, false}
use Rattle.dialogue.specs.declared.config.Config.{Config}
use Rattle.dialogue.specs.declared.config.Mode.TheVariants.{Direct}
use Rattle.dialogue.specs.declared.indication.Indication.{Indication}
use Rattle.stub_tables.specs.declared.tables.Tables.{Tables}
use Rattle.end_rules.specs.Base.{Spellings, Fault}
use Rattle.end_rules.specs.Messages.{Message}
use Rattle.end_rules.specs.State.{Body, holds_turn}
use Rattle.end_rules.specs.Policy.{is_faulty_proposal}
use Rattle.end_rules.specs.Writing.{proposals}
use Rattle.end_rules.specs.Reacting.{Fails, react}
use Rattle.agreement.specs.Sets.{Role}
use Rattle.agreement.specs.Sets.Role.{Initiator, Responder}
use Rattle.agreement.specs.Worlds.{World, IsRun}
use Rattle.end_model.specs.Seen.{Free}
use Rattle.end_model.specs.Acting.{ReadsBack}
use Rattle.end_model.specs.BothEnds.{Common, base_at, Two, body_at, coming_to, Reached, setup_of, WritesAll}
use Rattle.end_model.specs.Steps.{EndOf}

abbrev pub direct_common : Tables → Spellings → Config → Config → Common
direct_common tables spellings a b = record { tables = tables; spellings = spellings; mode = Direct; of_initiator = a; of_responder = b }

-- the contexts that the initiator proposes come once each and have its parity, as a configuration that isn't refused has them
abbrev pub ProposesRightly : Common → Type 0
ProposesRightly common = is_faulty_proposal true [] (proposals (base_at Initiator common)) ≡ false

-- a run of the model with what it sees of both bodies, and with the messages on their way
pub record RunOf (free : Free) (common : Common) (two : Two) : Type 0 where
  pub world : World
  pub run : IsRun (setup_of free common) world
  pub a : EndOf free common (proposals (base_at Initiator common)) world Initiator two.a two.to_a
  pub b : EndOf free common (proposals (base_at Initiator common)) world Responder two.b two.to_b

-- Whatever two ends of direct mode reach, there is such a run.
abbrev pub DirectModelled : Type 0
DirectModelled =
    (free : Free) (tables : Tables) (spellings : Spellings) (a b : Config) → WritesAll free →
    ReadsBack (base_at Initiator (direct_common tables spellings a b)) → ProposesRightly (direct_common tables spellings a b) →
    (two : Two) → Reached (direct_common tables spellings a b) two → RunOf free (direct_common tables spellings a b) two

-- Whatever comes next to an end of them is taken or passed over: neither aborts of itself.
abbrev pub DirectTakes : Type 0
DirectTakes =
    (free : Free) (tables : Tables) (spellings : Spellings) (a b : Config) → WritesAll free →
    ReadsBack (base_at Initiator (direct_common tables spellings a b)) → ProposesRightly (direct_common tables spellings a b) →
    (two : Two) (role : Role) (message : Message) (left : List Message) (fault : Fault) (body : Body) (aborts : List Message) (shown : List Indication) →
    Reached (direct_common tables spellings a b) two → coming_to role two ≡ message ∷ left →
    react (base_at role (direct_common tables spellings a b)) (body_at role two) message ≡ Fails fault body aborts shown → ⊥

-- At no moment do both of them hold the turn.
abbrev pub DirectOneHolder : Type 0
DirectOneHolder =
    (free : Free) (tables : Tables) (spellings : Spellings) (a b : Config) → WritesAll free →
    ReadsBack (base_at Initiator (direct_common tables spellings a b)) → ProposesRightly (direct_common tables spellings a b) →
    (two : Two) → Reached (direct_common tables spellings a b) two → holds_turn two.a ≡ true → holds_turn two.b ≡ true → ⊥
