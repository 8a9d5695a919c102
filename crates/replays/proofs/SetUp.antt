-- What a schedule sets up, mode by mode.
use Rattle.std.proofs.Common.{◌≡◌, ◌⊎◌, false, sym, ap, subst, inl, inr}
use Rattle.stub_tables.specs.declared.tables.Tables.{Tables}
use Rattle.dialogue.specs.declared.config.Mode.{Mode}
use Rattle.dialogue.specs.declared.config.Mode.TheVariants.{Bare, Direct, Reliable}
use Rattle.dialogue.specs.declared.event.Transcript.{Transcript}
use Rattle.end_rules.specs.Base.{is_bare}
use Rattle.schedule_text.specs.Schedules.{Said}
use Rattle.replays.specs.Runs.{RanBare, RanAssociated, RanIn, RanSchedule}

-- a mode that is one of these two isn't bare mode
pub not_bare : (m : Mode) → (m ≡ Direct) ⊎ (m ≡ Reliable) → is_bare m ≡ false
not_bare m (inl is) = ap is_bare is
not_bare m (inr is) = ap is_bare is

-- in bare mode
pub ran_bare : (tables : Tables) (s : Said) (t : Transcript) → s.a.mode ≡ Bare → RanBare tables s t → RanSchedule tables s t
ran_bare tables s t is ran = subst (λ (m : Mode). RanIn m tables s t) (sym is) ran

-- in direct and in reliable mode
ran_in : (m : Mode) (tables : Tables) (s : Said) (t : Transcript) → is_bare m ≡ false → RanAssociated tables s t → RanIn m tables s t
ran_in Bare tables s t is ran = cc
ran_in Direct tables s t is ran = ran
ran_in Reliable tables s t is ran = ran

pub ran_associated : (tables : Tables) (s : Said) (t : Transcript) → is_bare s.a.mode ≡ false → RanAssociated tables s t → RanSchedule tables s t
ran_associated tables s t is ran = ran_in s.a.mode tables s t is ran
