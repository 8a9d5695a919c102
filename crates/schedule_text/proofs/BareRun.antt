-- Where bare mode alone is run.
use Rattle.std.proofs.Common.{◌≡◌, ℕ, true, false, List, Ok, refl}
use Rattle.stub_tables.specs.declared.tables.Tables.{Tables}
use Rattle.dialogue.specs.declared.config.Mode.{Mode}
use Rattle.dialogue.specs.declared.config.Mode.TheVariants.{Bare, Direct, Reliable}
use Rattle.dialogue.specs.Config.{IsBare}
use Rattle.schedule_text.specs.declared.setting.Modes.{Modes}
use Rattle.schedule_text.specs.Settings.{runs}
use Rattle.schedule_text.specs.Schedules.{Said, schedule_of}
use Rattle.schedule_text.proofs.Bare.{bare_common}
use Rattle.schedule_text.proofs.Run.{is_run}

only_bare : (modes : Modes) (mode : Mode) → modes.direct ≡ false → modes.reliable ≡ false → runs modes mode ≡ true → mode ≡ Bare
only_bare modes Bare d r e = refl
only_bare modes Direct d r e = absurd (let no : ⊥ = cc in no)
only_bare modes Reliable d r e = absurd (let no : ⊥ = cc in no)

pub are_bare : (modes : Modes) (tables : Tables) (text : List ℕ) (s : Said) → modes.direct ≡ false → modes.reliable ≡ false → schedule_of modes tables text ≡ Ok s → IsBare true s.a × IsBare false s.b
are_bare modes tables text s d r e =
    let run = is_run modes tables text s e in
    bare_common s.a s.b run.meet (only_bare modes s.a.mode d r run.runs)
