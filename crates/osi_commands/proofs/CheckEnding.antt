-- How the top call ends with words that are a check.
use Rattle.std.proofs.Common.{ℕ, ◌≡◌, ◌⊎◌, List, Option, None, Some, IfSome, true, refl, sym, ap, subst, inl, inr, ◌∙◌}
use Rattle.osi_base.specs.Outside.{IsCalm, FileMap, grown}
use Rattle.osi_base.specs.declared.layer_words.Status.{Status}
use Rattle.osi_base.specs.declared.layer_words.Status.TheVariants.{Done, Usage, ReadFault, ModuleRefused, ScriptRefused}
use Rattle.stub_tables.specs.declared.tables.Tables.{Tables}
use Rattle.module_reading.specs.declared.fault.ModuleKind.{ModuleKind}
use Rattle.module_reading.specs.declared.fault.ModuleFault.TheVariants as faults
use Rattle.module_reading.specs.Modules.{HasTables, IsRefused}
use Rattle.module_check.specs.Command.{Check}
use Rattle.module_check.specs.Checking.{IsChecked}
use Rattle.module_check.specs.declared.checking.Checked.{Checked}
use Rattle.module_check.specs.declared.checking.Checked.TheVariants.{Shown, Refused}
use Rattle.osi_commands.specs.declared.answers.Answer.{Answer}
use Rattle.osi_commands.specs.Answers.{Closes}
use Rattle.osi_commands.specs.Reading.{WasRead}
use Rattle.osi_commands.specs.Causes.{IsUnread, IsRefusedModule, HasNoTables, HasNoRefusal}
use Rattle.osi_commands.specs.Checking.{checked_answer, Checks, unread, read, IsShownDone, IsCheckDue, CheckEnds}
use Rattle.osi_commands.proofs.Endings.{is_answers, whole_of, unless_of, unless_one_of}
use Rattle.module_reading.proofs.TablesOrFault.{tables_or_fault}
use Rattle.osi_commands.proofs.Calm.{same_read, never_lacks, never_read}

-- ---- the statuses of answers

own_written : (written : Checked) → is_answers (checked_answer written).status ≡ true
own_written (Shown text) = refl
own_written (Refused text) = refl

status_as : (answer : Answer) (written : Checked) → answer ≡ checked_answer written → answer.status ≡ (checked_answer written).status
status_as answer written e = ap (λ (a : Answer). a.status) e

pub own_check : (told : Option FileMap) (old new : ℕ) (check : Check) (answer : Answer) → Checks told old new check answer → is_answers answer.status ≡ true
own_check told old new check _ (unread w) = refl
own_check told old new check answer (read octets _ w is) = ap is_answers (status_as answer is.written is.answer_is) ∙ own_written is.written

-- ---- what each status says

module _ (told : Option FileMap) (old new : ℕ) (check : Check) (before after : Option (List ℕ)) where
  shown_by : (octets : List ℕ) → WasRead told old new check.«module» (Some octets) → (written : Checked) → IsChecked check.table octets written
      → (checked_answer written).status ≡ Done → after ≡ grown before (checked_answer written).text → IsShownDone told old new check before after
  shown_by octets w (Shown text) is h put =
      record { octets = octets; module_read = w; tables = is.tables; has = is.has; written = put ∙ ap (λ (t : List ℕ). grown before t) is.is }
  shown_by octets w (Refused text) is h put = cc

  refused_by : (octets : List ℕ) → WasRead told old new check.«module» (Some octets) → (written : Checked) → IsChecked check.table octets written
      → (checked_answer written).status ≡ ModuleRefused → after ≡ grown before (checked_answer written).text → IsRefusedModule told old new check.«module» before after
  refused_by octets w (Shown text) is h put = cc
  refused_by octets w (Refused text) is h put = record {
    text = octets;
    module_read = w;
    line = is.line;
    column = is.column;
    kind = is.kind;
    fault = is.refused;
    written = put ∙ ap (λ (t : List ℕ). grown before t) is.is;
  }

  never_by : (written : Checked) → ((checked_answer written).status ≡ ReadFault → ⊥) × ((checked_answer written).status ≡ Usage → ⊥) × ((checked_answer written).status ≡ ScriptRefused → ⊥)
  never_by (Shown text) = ((λ h. cc), (λ h. cc), (λ h. cc))
  never_by (Refused text) = ((λ h. cc), (λ h. cc), (λ h. cc))

  same_text : (answer : Answer) (written : Checked) → answer ≡ checked_answer written → after ≡ grown before answer.text → after ≡ grown before (checked_answer written).text
  same_text answer written e put = put ∙ ap (λ (a : Answer). grown before a.text) e

  done_case : (answer : Answer) → Checks told old new check answer → answer.status ≡ Done → after ≡ grown before answer.text → IsShownDone told old new check before after
  done_case _ (unread w) h put = cc
  done_case answer (read octets _ w is) h put =
      shown_by octets w is.written is.is (sym (status_as answer is.written is.answer_is) ∙ h) (same_text answer is.written is.answer_is put)

  module_case : (answer : Answer) → Checks told old new check answer → answer.status ≡ ModuleRefused → after ≡ grown before answer.text → IsRefusedModule told old new check.«module» before after
  module_case _ (unread w) h put = cc
  module_case answer (read octets _ w is) h put =
      refused_by octets w is.written is.is (sym (status_as answer is.written is.answer_is) ∙ h) (same_text answer is.written is.answer_is put)

  unread_case : (answer : Answer) → Checks told old new check answer → answer.status ≡ ReadFault → after ≡ grown before answer.text → IsUnread told old new check.«module» before after
  unread_case _ (unread w) h put = record { cause = w; written = put }
  unread_case answer (read octets _ w is) h put = absurd ((never_by is.written).0 (sym (status_as answer is.written is.answer_is) ∙ h))

  no_usage : (answer : Answer) → Checks told old new check answer → answer.status ≡ Usage → ⊥
  no_usage _ (unread w) h = cc
  no_usage answer (read octets _ w is) h = (never_by is.written).1 (sym (status_as answer is.written is.answer_is) ∙ h)

  no_script : (answer : Answer) → Checks told old new check answer → answer.status ≡ ScriptRefused → ⊥
  no_script _ (unread w) h = cc
  no_script answer (read octets _ w is) h = (never_by is.written).2 (sym (status_as answer is.written is.answer_is) ∙ h)

pub never_usage_check : (told : Option FileMap) (old new : ℕ) (check : Check) (answer : Answer) → Checks told old new check answer → answer.status ≡ Usage → ⊥
never_usage_check told old new check answer is h = no_usage told old new check None None answer is h

-- ---- over a told map whose files didn't fail

module _ (map : FileMap) (old new : ℕ) (check : Check) (calm : IsCalm old new) where
  no_module_due : map check.«module» ≡ None → (answer : Answer) → Checks (Some map) old new check answer → answer.status ≡ ReadFault
  no_module_due h _ (unread w) = refl
  no_module_due h answer (read octets _ w is) = never_read map old new check.«module» octets w h

  refused_if_none : (octets : List ℕ) → HasNoTables octets → (written : Checked) → IsChecked check.table octets written → (checked_answer written).status ≡ ModuleRefused
  refused_if_none octets none (Shown text) is = absurd (none is.tables is.has)
  refused_if_none octets none (Refused text) is = refl

  no_tables_due : (given : List ℕ) → map check.«module» ≡ Some given → HasNoTables given → (answer : Answer) → Checks (Some map) old new check answer → answer.status ≡ ModuleRefused
  no_tables_due given h none _ (unread w) = never_lacks map old new check.«module» given calm w h
  no_tables_due given h none answer (read octets _ w is) =
      let P : List ℕ → Type 0 = λ o. HasNoTables o in
      status_as answer is.written is.answer_is ∙ refused_if_none octets (subst P (sym (same_read map old new check.«module» octets given w h)) none) is.written is.is

  refused_if_faulty : (octets : List ℕ) (line column : ℕ) (kind : ModuleKind) → IsRefused octets (faults.At line column kind) → (written : Checked) → IsChecked check.table octets written → (checked_answer written).status ≡ ModuleRefused
  refused_if_faulty octets line column kind faulty (Shown text) is = absurd (tables_or_fault octets is.tables line column kind is.has faulty)
  refused_if_faulty octets line column kind faulty (Refused text) is = refl

  fault_due : (given : List ℕ) (line column : ℕ) (kind : ModuleKind) → map check.«module» ≡ Some given → IsRefused given (faults.At line column kind) → (answer : Answer) → Checks (Some map) old new check answer → answer.status ≡ ModuleRefused
  fault_due given line column kind h faulty _ (unread w) = never_lacks map old new check.«module» given calm w h
  fault_due given line column kind h faulty answer (read octets _ w is) =
      let R : List ℕ → Type 0 = λ o. IsRefused o (faults.At line column kind) in
      status_as answer is.written is.answer_is ∙ refused_if_faulty octets line column kind (subst R (sym (same_read map old new check.«module» octets given w h)) faulty) is.written is.is

  shown_if_none : (octets : List ℕ) → HasNoRefusal octets → (written : Checked) → IsChecked check.table octets written → (checked_answer written).status ≡ Done
  shown_if_none octets none (Shown text) is = refl
  shown_if_none octets none (Refused text) is = absurd (none is.line is.column is.kind is.refused)

  no_fault_due : (given : List ℕ) → map check.«module» ≡ Some given → HasNoRefusal given → (answer : Answer) → Checks (Some map) old new check answer → answer.status ≡ Done
  no_fault_due given h none _ (unread w) = never_lacks map old new check.«module» given calm w h
  no_fault_due given h none answer (read octets _ w is) =
      let P : List ℕ → Type 0 = λ o. HasNoRefusal o in
      status_as answer is.written is.answer_is ∙ shown_if_none octets (subst P (sym (same_read map old new check.«module» octets given w h)) none) is.written is.is

  tables_due : (given : List ℕ) (tables : Tables) → map check.«module» ≡ Some given → HasTables given tables → (answer : Answer) → Checks (Some map) old new check answer → answer.status ≡ Done
  tables_due given tables h has = no_fault_due given h (λ line column kind faulty. tables_or_fault given tables line column kind has faulty)

  one_written : (written : Checked) → ((checked_answer written).status ≡ Done) ⊎ ((checked_answer written).status ≡ ModuleRefused)
  one_written (Shown text) = inl refl
  one_written (Refused text) = inr refl

  one_answered : (answer : Answer) (written : Checked) → answer ≡ checked_answer written → ((checked_answer written).status ≡ Done) ⊎ ((checked_answer written).status ≡ ModuleRefused)
      → (answer.status ≡ Done) ⊎ (answer.status ≡ ModuleRefused)
  one_answered answer written e (inl h) = inl (status_as answer written e ∙ h)
  one_answered answer written e (inr h) = inr (status_as answer written e ∙ h)

  there_due : (given : List ℕ) → map check.«module» ≡ Some given → (answer : Answer) → Checks (Some map) old new check answer → (answer.status ≡ Done) ⊎ (answer.status ≡ ModuleRefused)
  there_due given h _ (unread w) = never_lacks map old new check.«module» given calm w h
  there_due given h answer (read octets _ w is) = one_answered answer is.written is.answer_is (one_written is.written)

  pub map_due : (before after : Option (List ℕ)) (sink_old sink_new : ℕ) (status : Status) → Closes (Checks (Some map) old new check) old new sink_old sink_new before after status
      → IsCheckDue map check sink_old sink_new status
  map_due before after sink_old sink_new status closes = record {
    no_module = λ h. unless_of (Checks (Some map) old new check) old new sink_old sink_new before after status ReadFault closes (no_module_due h);
    tables = λ given tables h has. unless_of (Checks (Some map) old new check) old new sink_old sink_new before after status Done closes (tables_due given tables h has);
    fault = λ given line column kind h faulty. unless_of (Checks (Some map) old new check) old new sink_old sink_new before after status ModuleRefused closes (fault_due given line column kind h faulty);
    no_tables = λ given h none. unless_of (Checks (Some map) old new check) old new sink_old sink_new before after status ModuleRefused closes (no_tables_due given h none);
    no_fault = λ given h none. unless_of (Checks (Some map) old new check) old new sink_old sink_new before after status Done closes (no_fault_due given h none);
    there = λ given h. unless_one_of (Checks (Some map) old new check) old new sink_old sink_new before after status Done ModuleRefused closes (there_due given h);
  }

due_of : (told : Option FileMap) (old new : ℕ) (check : Check) (before after : Option (List ℕ)) (sink_old sink_new : ℕ) (status : Status)
    → Closes (Checks told old new check) old new sink_old sink_new before after status → IfSome told (λ map. IsCalm old new → IsCheckDue map check sink_old sink_new status)
due_of None old new check before after sink_old sink_new status closes = tt
due_of (Some map) old new check before after sink_old sink_new status closes = λ calm. map_due map old new check calm before after sink_old sink_new status closes

-- ---- all of it

module _ (told : Option FileMap) (old new : ℕ) (check : Check) (before after : Option (List ℕ)) (sink_old sink_new : ℕ) (status : Status)
    (closes : Closes (Checks told old new check) old new sink_old sink_new before after status) where
  done_of : status ≡ Done → IsShownDone told old new check before after
  done_of h =
      let a = whole_of (Checks told old new check) old new sink_old sink_new before after status Done closes h refl in
      done_case told old new check before after a.answer a.is a.status_is a.written

  unread_of : status ≡ ReadFault → IsUnread told old new check.«module» before after
  unread_of h =
      let a = whole_of (Checks told old new check) old new sink_old sink_new before after status ReadFault closes h refl in
      unread_case told old new check before after a.answer a.is a.status_is a.written

  module_of : status ≡ ModuleRefused → IsRefusedModule told old new check.«module» before after
  module_of h =
      let a = whole_of (Checks told old new check) old new sink_old sink_new before after status ModuleRefused closes h refl in
      module_case told old new check before after a.answer a.is a.status_is a.written

  no_usage_of : status ≡ Usage → ⊥
  no_usage_of h =
      let a = whole_of (Checks told old new check) old new sink_old sink_new before after status Usage closes h refl in
      no_usage told old new check before after a.answer a.is a.status_is

  no_script_of : status ≡ ScriptRefused → ⊥
  no_script_of h =
      let a = whole_of (Checks told old new check) old new sink_old sink_new before after status ScriptRefused closes h refl in
      no_script told old new check before after a.answer a.is a.status_is

  pub check_ends : CheckEnds told old new check sink_old sink_new before after status
  check_ends = record {
    done = done_of;
    read_fault = unread_of;
    module_refused = module_of;
    no_other = (no_usage_of, no_script_of);
    due = due_of told old new check before after sink_old sink_new status closes;
  }
