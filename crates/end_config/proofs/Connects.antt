-- The CP of a configuration is the one that the rules send.
use Rattle.std.proofs.Common.{◌≡◌, pos, [], ◌∷◌, ◌++◌, map, Bool, true, false, Some, None, refl, ap, ◌∙◌}
use Rattle.osi_base.specs.declared.presentation_word.PresentationConnect.{PresentationConnect}
use Rattle.osi_base.specs.declared.acse_word.Acse.TheVariants as acse
use Rattle.osi_base.specs.declared.rtse_word.Rtse.TheVariants as rtse
use Rattle.osi_base.specs.declared.presentation_word.PdvContent.TheVariants.{SingleAsn1Type}
use Rattle.acse.specs.Written.{written_acse}
use Rattle.dialogue.specs.declared.config.Mode.{Mode}
use Rattle.dialogue.specs.declared.config.Mode.TheVariants.{Bare, Direct, Reliable}
use Rattle.association_ground.specs.end_rules.Base.{Base, application_context}
use Rattle.association_ground.specs.end_rules.Writing.{acse_value, information, own_proposals, requirement_bits, connection_data}
use Rattle.end_config.specs.Connecting.{pdv_of, externals, ConnectIsOfRules}

module _ (base : Base) (recovers : Bool) where
  -- as the rules have it, in a mode
  abbrev by_rules : Mode → PresentationConnect
  by_rules mode = record {
    version = None;
    calling = Some base.config.calling;
    called = Some base.config.called;
    definitions = own_proposals mode ++ base.config.contexts;
    default_context = None;
    requirements = Some (requirement_bits true);
    session_requirements = None;
    user = map pdv_of (acse_value [] (acse.AssociateRequest None (application_context mode) [])
        (information mode [] (rtse.OpenRequest base.config.checkpoint base.config.window (pos 1) (connection_data base recovers))) ∷ []);
  }

  -- as the configuration has it
  abbrev by_config : Mode → PresentationConnect
  by_config mode = record {
    version = None;
    calling = Some base.config.calling;
    called = Some base.config.called;
    definitions = own_proposals mode ++ base.config.contexts;
    default_context = None;
    requirements = Some (requirement_bits true);
    session_requirements = None;
    user = record { transfer = None; id = 1; content = SingleAsn1Type (written_acse (acse.AssociateRequest None (application_context mode) (externals base.config mode recovers))) } ∷ [];
  }

same_in : (base : Base) (recovers : Bool) (mode : Mode) → by_rules base recovers mode ≡ by_config base recovers mode
same_in base recovers Bare = refl
same_in base recovers Direct = refl
same_in base true Reliable = refl
same_in base false Reliable = refl

pub connect_is_of_rules : ConnectIsOfRules
connect_is_of_rules base recovers e = ap (by_rules base recovers) e ∙ same_in base recovers base.config.mode
