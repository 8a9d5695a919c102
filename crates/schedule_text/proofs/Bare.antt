-- Configurations that meet in bare mode.
use Rattle.std.proofs.Common.{◌≡◌, true, false, Option, None, Some, refl, ◌∙◌}
use Rattle.dialogue.specs.declared.config.Config.{Config}
use Rattle.dialogue.specs.declared.config.ConfigRefusal.{ConfigRefusal}
use Rattle.dialogue.specs.declared.config.Mode.TheVariants.{Bare}
use Rattle.dialogue.specs.Config as values
use Rattle.dialogue.specs.Config.{IsBare}
use Rattle.end_config.specs.Refusing.{or_refusal, late_refusal, config_refusal}
use Rattle.schedule_text.specs.Meeting.{Meet}

first_none : (a b : Option ConfigRefusal) → or_refusal a b ≡ None → a ≡ None
first_none None b e = refl
first_none (Some r) b e = e

second_none : (a b : Option ConfigRefusal) → or_refusal a b ≡ None → b ≡ None
second_none None b e = e
second_none (Some r) b e = absurd (let no : ⊥ = cc in no)

-- of its values no row holds
pub fine_values : (c : Config) → config_refusal c ≡ None → values.bare_config_refusal c ≡ None
fine_values c e = second_none _ (values.bare_config_refusal c) (first_none _ (late_refusal c) e)

pub bare_common : (a b : Config) → Meet a b → a.mode ≡ Bare → IsBare true a × IsBare false b
bare_common a b m e = (
  record { side = m.initiator; mode = e; contexts = m.bare e; accepted = fine_values a m.initiator_accepted },
  record { side = m.responder; mode = m.mode ∙ e; contexts = m.proposes_none; accepted = fine_values b m.responder_accepted },
)
