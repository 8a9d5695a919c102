-- What an initiator proposes whose configuration isn't refused.
use Rattle.std.specs.Prelude.{◌≡◌, [], ◌++◌, true, false, None}
use Rattle.dialogue.specs.declared.config.Config.{Config}
use Rattle.association_ground.specs.end_rules.Policy.{is_faulty_proposal}
use Rattle.association_ground.specs.end_rules.Writing.{own_proposals}
use Rattle.end_config.specs.Refusing.{config_refusal}

-- Its own contexts and those of the configuration come once each and have an initiator's parity (X.226 8.2).
abbrev pub InitiatorsProposeRightly : Type 0
InitiatorsProposeRightly =
    (config : Config) → config_refusal config ≡ None → is_faulty_proposal true [] (own_proposals config.mode ++ config.contexts) ≡ false
