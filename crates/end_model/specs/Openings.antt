-- Openings and recoveries, as they are taken: by the responder a CN, which it accepts or refuses, by the initiator an AC.
use Rattle.std.specs.Prelude.{◌≡◌, List, true, false}
use Rattle.osi_base.specs.declared.layer_words.Proposal.{Proposal}
use Rattle.osi_base.specs.declared.session_word.SessionConnect.{SessionConnect}
use Rattle.osi_base.specs.declared.presentation_word.PresentationConnect.{PresentationConnect}
use Rattle.osi_base.specs.declared.presentation_word.PresentationAccept.{PresentationAccept}
use Rattle.dialogue.specs.declared.config.Mode.{Mode}
use Rattle.dialogue.specs.declared.config.Phase.TheVariants.{Opening, Broken}
use Rattle.end_rules.specs.Base.{Base}
use Rattle.end_rules.specs.State.{Body}
use Rattle.end_rules.specs.Connecting.{set_for, set_accepted, is_refused, recovers_in}
use Rattle.end_rules.specs.Messages.{Accepting, DataValue, Word, OfAssociation, Connect, Accept}
use Rattle.end_rules.specs.Reacting.{after_word, answers_to_word}
use Rattle.agreement.specs.Messages.{Choice, Message as ModelMessage}
use Rattle.agreement.specs.Messages.Choice.{Nothing, Accepting as accepting, Refusing}
use Rattle.agreement.specs.Messages.Message.{Connect as model_connect, Recover as model_recover}
use Rattle.agreement.specs.Messages.Message.{Accept as model_accept}
use Rattle.agreement.specs.Takings.{taken, answer_to}
use Rattle.end_model.specs.Seen.{Free, role_seen, set_seen, seen, setup_seen}
use Rattle.end_model.specs.Rows.{at}
use Rattle.end_model.specs.Words.{AreMeant}

-- The taking of the word is that of the message with this choice, and what is answered is meant, where the CN proposed
-- these contexts.
pub record OpensAs (free : Free) (mode : Mode) (base : Base) (proposed : List Proposal) (body : Body) (word : Word) (message : ModelMessage) (choice : Choice) : Type 0 where
  pub after : seen (at mode base) (after_word (at mode base) body word) ≡ taken (setup_seen free mode base) (role_seen base.initiator) (seen (at mode base) body) message choice
  pub means : AreMeant proposed (at mode base) (answers_to_word (at mode base) body word) (answer_to (setup_seen free mode base) (seen (at mode base) body) message choice)

pub record OpeningsTaken : Type 0 where
  pub accept : (mode : Mode) (session : Accepting) (presentation : PresentationAccept) (values : List DataValue) (free : Free) (base : Base) (proposed : List Proposal) (body : Body) →
      OpensAs free mode base proposed body (OfAssociation (Accept session presentation values)) (model_accept (set_seen (set_accepted (at mode base) presentation))) Nothing
  pub opened : (mode : Mode) (session : SessionConnect) (presentation : PresentationConnect) (values : List DataValue) (free : Free) (base : Base) (body : Body) →
      is_refused (at mode base) body session presentation values ≡ false → recovers_in (at mode base) values ≡ false →
      OpensAs free mode base presentation.definitions body (OfAssociation (Connect session presentation values)) model_connect (accepting (set_seen (set_for (at mode base) presentation)))
  pub recovered : (mode : Mode) (session : SessionConnect) (presentation : PresentationConnect) (values : List DataValue) (free : Free) (base : Base) (body : Body) →
      is_refused (at mode base) body session presentation values ≡ false → recovers_in (at mode base) values ≡ true →
      OpensAs free mode base presentation.definitions body (OfAssociation (Connect session presentation values)) model_recover (accepting (set_seen (set_for (at mode base) presentation)))
  -- who is broken stays so, who is opening is over
  pub refused_opening : (mode : Mode) (session : SessionConnect) (presentation : PresentationConnect) (values : List DataValue) (free : Free) (base : Base) (proposed : List Proposal) (body : Body) →
      is_refused (at mode base) body session presentation values ≡ true → body.link.phase ≡ Opening →
      OpensAs free mode base proposed body (OfAssociation (Connect session presentation values)) model_connect Refusing
  pub refused_broken : (mode : Mode) (session : SessionConnect) (presentation : PresentationConnect) (values : List DataValue) (free : Free) (base : Base) (proposed : List Proposal) (body : Body) →
      is_refused (at mode base) body session presentation values ≡ true → body.link.phase ≡ Broken →
      OpensAs free mode base proposed body (OfAssociation (Connect session presentation values)) model_connect Refusing
  pub refused_recovery : (mode : Mode) (session : SessionConnect) (presentation : PresentationConnect) (values : List DataValue) (free : Free) (base : Base) (proposed : List Proposal) (body : Body) →
      is_refused (at mode base) body session presentation values ≡ true → body.link.phase ≡ Broken →
      OpensAs free mode base proposed body (OfAssociation (Connect session presentation values)) model_recover Refusing
