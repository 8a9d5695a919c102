-- Configurations of two ends that meet.
use Rattle.std.specs.Prelude.{◌≡◌, [], true, false, None}
use Rattle.dialogue.specs.declared.config.Config.{Config}
use Rattle.dialogue.specs.declared.config.Mode.TheVariants.{Bare}
use Rattle.end_config.specs.Refusing.{config_refusal}

-- a is an initiator's and b a responder's, of one mode, and no end refuses them; in bare mode there are no contexts
pub record Meet (a b : Config) : Type 0 where
  pub initiator : a.initiator ≡ true
  pub responder : b.initiator ≡ false
  pub mode : b.mode ≡ a.mode
  pub proposes_none : b.contexts ≡ []
  pub bare : a.mode ≡ Bare → a.contexts ≡ []
  pub initiator_accepted : config_refusal a ≡ None
  pub responder_accepted : config_refusal b ≡ None
