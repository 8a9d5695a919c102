-- What holds of every end. No public clause cites this module.
use Rattle.std.specs.Prelude.{◌≡◌, List, [], ◌∷◌, Bool, true, false, Option, Some, None, IsSome}
use Rattle.osi_base.specs.Limits.{IsUnitSize}
use Rattle.end_rules.specs.Base.{is_bare}
use Rattle.end_rules.specs.State.{passes_over}
use Rattle.end_config.specs.Refusing.{config_refusal}
use Rattle.association_line.specs.association_reading.Front.{Front, Short, OfTransport, OfSession, Faulty, Intake}
use Rattle.association_end.specs.View.{EndView}

abbrev pub IsMessage : Front → Type 0
IsMessage Short = ⊥
IsMessage (OfTransport unit) = Unit {0}
IsMessage (OfSession unit start) = Unit {0}
IsMessage (Faulty layer place) = Unit {0}

abbrev pub AreMessages : List Front → Type 0
AreMessages [] = Unit {0}
AreMessages (front ∷ fronts) = IsMessage front × AreMessages fronts

abbrev pub HasMessages : Option Intake → Type 0
HasMessages None = Unit {0}
HasMessages (Some intake) = AreMessages intake.fronts

-- an end that isn't over looks at what comes
abbrev pub Listens : Bool → Option Intake → Type 0
Listens true came = Unit {0}
Listens false came = IsSome came

pub record IsSoundEnd (e : EndView) : Type 0 where
  pub associated : is_bare e.config.mode ≡ false
  pub accepted : config_refusal e.config ≡ None
  pub sized : IsUnitSize e.end.line.size
  pub messages : HasMessages e.end.line.came
  pub listens : Listens (passes_over e.end.body.link.phase) e.end.line.came
