-- The premises of the laws of two ends of reliable mode hold of the codecs and of configurations that aren't refused.
use Rattle.std.proofs.Common.{◌≡◌, true, false, subst, [], ◌++◌}
use Rattle.dialogue.specs.declared.config.Config.{Config}
use Rattle.dialogue.specs.declared.config.Mode.{Mode}
use Rattle.dialogue.specs.declared.config.Mode.TheVariants.{Reliable}
use Rattle.stub_tables.specs.declared.tables.Tables.{Tables}
use Rattle.end_rules.specs.Policy.{is_faulty_proposal}
use Rattle.end_rules.specs.Writing.{own_proposals}
use Rattle.end_config.proofs.Proposes.{proposes-rightly}
use Rattle.agreement.specs.Sets.Role.{Initiator}
use Rattle.end_model.specs.Seen.{Free}
use Rattle.end_model.specs.BothEnds.{base_at}
use Rattle.association_reading.specs.Transfers.{arrived_at, transferred}
use Rattle.reliable_model.specs.Codecs.{Carries}
use Rattle.reliable_model.specs.ReliableEnds.{IsFit}
use Rattle.reliable_model.proofs.Laws.{reliable-modelled, reliable-takes, reliable-one_holder, reliable-whole, reliable-items, reliable-once, reliable-as_sent}
use Rattle.outcome_laws.proofs.Transferred.{transferred-answers}
use Rattle.transfer_spelling.specs.Laws.{IsModule}
use Rattle.transfer_codec.proofs.Codec.{has-codec}
use Rattle.transfer_laws.specs.Laws.{reliable_ends, IsReliable, ReliableEndsAreModelled, ReliableEndsTake, ReliableEndsHaveOneHolder, ReliableEndsArriveWhole, ReliableEndsKeepItems, ReliableEndsArriveOnce, ReliableEndsTakeAsSent, ReliableEndsTellAnswers}
use Rattle.transfer_laws.proofs.Configs.{identifiers-right, has-window}
use Rattle.transfer_laws.proofs.Spelled.{spells-so, back-so}

module _ (tables : Tables) (a b : Config) (module_s : IsModule tables) (right_a : IsReliable a) (right_b : IsReliable b) where
  pub has-free : (free : Free) × Carries free (base_at Initiator (reliable_ends tables a b))
  has-free = has-codec tables a true Reliable (transferred tables) (arrived_at tables) module_s (spells-so tables a true Reliable module_s)

  pub fit : IsFit (reliable_ends tables a b)
  fit =
      record {
        reads = back-so tables a true Reliable module_s;
        spells = spells-so tables a true Reliable module_s;
        proposes = subst (λ (m : Mode). is_faulty_proposal true [] (own_proposals m ++ a.contexts) ≡ false) right_a.mode (proposes-rightly a right_a.accepted);
        identifiers = identifiers-right a right_a.accepted;
        window = has-window b right_b.accepted;
      }

pub ends-modelled : ReliableEndsAreModelled
ends-modelled tables a b m x y =
    let f = has-free tables a b m x y in
    (f.0, f.1, λ two ledger reached. reliable-modelled f.0 tables _ a b f.1 (fit tables a b m x y) two ledger reached)

pub ends-take : ReliableEndsTake
ends-take tables a b m x y two ledger reached role message left fault body aborts shown comes h =
    let f = has-free tables a b m x y in
    reliable-takes f.0 tables _ a b f.1 (fit tables a b m x y) two ledger role message left fault body aborts shown reached comes h

pub ends-one_holder : ReliableEndsHaveOneHolder
ends-one_holder tables a b m x y two ledger reached h k =
    let f = has-free tables a b m x y in reliable-one_holder f.0 tables _ a b f.1 (fit tables a b m x y) two ledger reached h k

pub ends-whole : ReliableEndsArriveWhole
ends-whole tables a b m x y two ledger reached role e =
    let f = has-free tables a b m x y in reliable-whole f.0 tables _ a b f.1 (fit tables a b m x y) two ledger reached role e

pub ends-items : ReliableEndsKeepItems
ends-items tables a b m x y two ledger reached role encoding h =
    let f = has-free tables a b m x y in reliable-items f.0 tables _ a b f.1 (fit tables a b m x y) two ledger reached role encoding h

pub ends-once : ReliableEndsArriveOnce
ends-once tables a b m x y two ledger reached role =
    let f = has-free tables a b m x y in reliable-once f.0 tables _ a b f.1 (fit tables a b m x y) two ledger reached role

pub ends-as_sent : ReliableEndsTakeAsSent
ends-as_sent tables a b m x y two ledger reached role item e arrived =
    let f = has-free tables a b m x y in reliable-as_sent f.0 tables _ a b f.1 (fit tables a b m x y) two ledger reached role item e arrived

pub ends-answers : ReliableEndsTellAnswers
ends-answers tables a b m x y two ledger exchanges reached_exchanges role =
    let f = has-free tables a b m x y in transferred-answers f.0 tables _ a b f.1 (fit tables a b m x y) two ledger exchanges reached_exchanges role
