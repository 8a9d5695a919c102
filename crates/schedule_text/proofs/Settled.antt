-- Configurations that no end refuses.
use Rattle.std.proofs.Common.{◌≡◌, ◌≢◌, Bool, true, false, [], Option, None, Some, Result, Ok, Err, refl, sym, ap, ◌∙◌, subst, if◌then◌else◌}
use Rattle.stub_tables.specs.declared.tables.Tables.{Tables}
use Rattle.dialogue.specs.Config.{refused_if}
use Rattle.dialogue.specs.declared.config.Config.{Config}
use Rattle.dialogue.specs.declared.config.ConfigRefusal.{ConfigRefusal}
use Rattle.dialogue.specs.declared.config.ConfigRefusal.TheVariants as refusals
use Rattle.dialogue.specs.declared.config.Mode.TheVariants.{Bare}
use Rattle.end_config.specs.Refusing.{config_refusal}
use Rattle.script_lines.specs.declared.fault.ScriptKind.TheVariants.{BadSetup}
use Rattle.script_lines.specs.Reading.{Reading, ◌>>=◌, FailsWith}
use Rattle.schedule_text.specs.declared.setting.Modes.{Modes}
use Rattle.schedule_text.specs.declared.setting.Setting.{Setting}
use Rattle.schedule_text.specs.Meeting.{Meet}
use Rattle.schedule_text.specs.Settings.{runs, mode_of, contexts_of, config_of, fault_of, unless_refused, accepted, settled}

is_refused : (x : ConfigRefusal) (o : Option ConfigRefusal) → Err x ≡ refused_if o → unless_refused o ≡ Err BadSetup
is_refused x None e = absurd (let no : ⊥ = cc in no)
is_refused x (Some r) e = refl

-- what is told of a configuration that was refused
told_so : (x : ConfigRefusal) (o : Option ConfigRefusal) (told : Result (Unit {0}) ConfigRefusal) → told ≡ Err x → (told ≢ Err refusals.NoMemory → told ≡ refused_if o) → FailsWith (fault_of x) (unless_refused o)
told_so refusals.NoMemory o told e h = tt
told_so (refusals.BadContext id) o told e h = is_refused (refusals.BadContext id) o (sym e ∙ h (λ f. let same = sym e ∙ f in let no : ⊥ = cc in no))
told_so refusals.TooManyContexts o told e h = is_refused refusals.TooManyContexts o (sym e ∙ h (λ f. let same = sym e ∙ f in let no : ⊥ = cc in no))
told_so refusals.BadSelector o told e h = is_refused refusals.BadSelector o (sym e ∙ h (λ f. let same = sym e ∙ f in let no : ⊥ = cc in no))
told_so refusals.BadReference o told e h = is_refused refusals.BadReference o (sym e ∙ h (λ f. let same = sym e ∙ f in let no : ⊥ = cc in no))
told_so refusals.BadWindow o told e h = is_refused refusals.BadWindow o (sym e ∙ h (λ f. let same = sym e ∙ f in let no : ⊥ = cc in no))
told_so refusals.TooLong o told e h = is_refused refusals.TooLong o (sym e ∙ h (λ f. let same = sym e ∙ f in let no : ⊥ = cc in no))

pub told_of : (x : ConfigRefusal) (c : Config) (told : Result (Unit {0}) ConfigRefusal) → told ≡ Err x → (told ≢ Err refusals.NoMemory → told ≡ refused_if (config_refusal c)) → FailsWith (fault_of x) (accepted c)
unfolding accepted
told_of x c told e h = told_so x (config_refusal c) told e h

fine : (o : Option ConfigRefusal) → Ok tt ≡ refused_if o → unless_refused o ≡ Ok tt
fine None e = refl
fine (Some r) e = absurd (let no : ⊥ = cc in no)

pub accepted_so : (c : Config) (told : Result (Unit {0}) ConfigRefusal) → told ≡ Ok tt → (told ≢ Err refusals.NoMemory → told ≡ refused_if (config_refusal c)) → accepted c ≡ Ok tt
unfolding accepted
accepted_so c told e h = fine (config_refusal c) (sym e ∙ h (λ f. let same = sym e ∙ f in let no : ⊥ = cc in no))

-- ---- what is settled meets

abbrev first_of_pair : Config → Reading (Config × Config) → Config
first_of_pair d (Ok x) = x.0
first_of_pair d (Err kind) = d

abbrev second_of_pair : Config → Reading (Config × Config) → Config
second_of_pair d (Ok x) = x.1
second_of_pair d (Err kind) = d

by_parts : (t : Bool) (o p : Option ConfigRefusal) (a b x y : Config)
    → (let both : Reading (Config × Config) = if t then ((unless_refused o >>= λ _. Ok a) >>= λ v. (unless_refused p >>= λ _. Ok b) >>= λ w. let pair : Config × Config = (v, w) in Ok pair) else Err BadSetup in both ≡ Ok (x, y))
    → (o ≡ None) × (p ≡ None) × (a ≡ x) × (b ≡ y) × (t ≡ true)
by_parts false o p a b x y e = absurd (let no : ⊥ = cc in no)
by_parts true (Some r) p a b x y e = absurd (let no : ⊥ = cc in no)
by_parts true None (Some r) a b x y e = absurd (let no : ⊥ = cc in no)
by_parts true None None a b x y e = (refl, refl, ap (first_of_pair a) e, ap (second_of_pair b) e, refl)

no_contexts : (tables : Tables) (s : Setting) → mode_of s ≡ Bare → contexts_of tables true s ≡ []
no_contexts tables s e = rw e refl

meet_of : (tables : Tables) (s : Setting) → config_refusal (config_of tables true s) ≡ None → config_refusal (config_of tables false s) ≡ None → Meet (config_of tables true s) (config_of tables false s)
unfolding config_of
meet_of tables s e f = record {
  initiator = refl;
  responder = refl;
  mode = refl;
  proposes_none = refl;
  bare = no_contexts tables s;
  initiator_accepted = e;
  responder_accepted = f;
}

pub settled_meet : (modes : Modes) (tables : Tables) (s : Setting) (x y : Config) → settled modes tables s ≡ Ok (x, y) → Meet x y
unfolding settled accepted
settled_meet modes tables s x y e =
    let a = config_of tables true s in
    let b = config_of tables false s in
    let p = by_parts (runs modes (mode_of s)) (config_refusal a) (config_refusal b) a b x y e in
    subst (λ (c : Config). Meet c y) p.2 (subst (λ (c : Config). Meet a c) p.3 (meet_of tables s p.0 p.1))

own_mode : (tables : Tables) (s : Setting) → (config_of tables true s).mode ≡ mode_of s
unfolding config_of
own_mode tables s = refl

-- the ends run what is settled
pub settled_runs : (modes : Modes) (tables : Tables) (s : Setting) (x y : Config) → settled modes tables s ≡ Ok (x, y) → runs modes x.mode ≡ true
unfolding settled accepted
settled_runs modes tables s x y e =
    let a = config_of tables true s in
    let b = config_of tables false s in
    let p = by_parts (runs modes (mode_of s)) (config_refusal a) (config_refusal b) a b x y e in
    let same : x.mode ≡ mode_of s = ap (λ (c : Config). c.mode) (sym p.2) ∙ own_mode tables s in
    ap (runs modes) same ∙ p.4
