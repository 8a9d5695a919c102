-- Words have one answer over told files that don't fail.
use Rattle.std.proofs.Common.{ℕ, ◌≡◌, Bool, List, [], Option, None, Some, Result, Ok, Err, refl, sym, ap, subst, ◌∙◌}
use Rattle.osi_base.specs.Outside.{IsCalm, FileMap}
use Rattle.stub_tables.specs.declared.tables.Tables.{Tables}
use Rattle.replays.specs.Runs.{OneTranscript}
use Rattle.module_reading.specs.declared.fault.ModuleKind.{ModuleKind}
use Rattle.module_reading.specs.declared.fault.ModuleFault.{ModuleFault}
use Rattle.module_reading.specs.declared.fault.ModuleFault.TheVariants as faults
use Rattle.module_reading.specs.Modules.{HasTables, IsRefused}
use Rattle.module_check.specs.Command.{Check}
use Rattle.module_check.specs.Checking.{shown, refused_text, IsChecked}
use Rattle.module_check.specs.declared.checking.Checked.{Checked}
use Rattle.module_check.specs.declared.checking.Checked.TheVariants.{Shown, Refused}
use Rattle.script_lines.specs.declared.fault.ScriptFault.{ScriptFault}
use Rattle.script_lines.specs.declared.fault.ScriptFault.TheVariants.{At, NoMemory}
use Rattle.replays.specs.schedule_text.Schedules.{Said, schedule_of}
use Rattle.trace_file.specs.declared.fault.RecordingFault.{RecordingFault}
use Rattle.trace_file.specs.declared.fault.RecordingFault.TheVariants as recording_faults
use Rattle.trace_file.specs.declared.reading.Recorded.{Recorded}
use Rattle.trace_file.specs.Reading.{recording_of}
use Rattle.trace_text.specs.Laws.{OneTrace}
use Rattle.osi_commands.specs.declared.answers.Answer.{Answer}
use Rattle.osi_commands.specs.declared.commands.Work.{Work}
use Rattle.osi_commands.specs.declared.commands.Work.TheVariants.{Replay, Trace}
use Rattle.osi_commands.specs.Commands.{TwoFiles, Command, checks, two_files}
use Rattle.osi_commands.specs.Answers.{usage_answer, module_answer, done_answer}
use Rattle.osi_commands.specs.Reading.{WasRead}
use Rattle.osi_commands.specs.Replaying.{every_mode, written_of, Replayed, RepliedBy}
use Rattle.osi_commands.specs.Tracing.{ToldBy}
use Rattle.osi_commands.specs.Checking.{checked_answer, ChecksOctets, Checks, unread, read}
use Rattle.osi_commands.specs.ModuleAndFile.{SecondBy}
use Rattle.osi_commands.specs.TopCall.{IsAnswer}
use Rattle.osi_commands.specs.Laws.{OneAnswer}
use Rattle.osi_commands.proofs.Calm.{has_read, same_read, never_lacks}
use Rattle.module_reading.proofs.OneTables.{one_tables}
use Rattle.module_reading.proofs.TablesOrFault.{tables_or_fault}
use Rattle.module_reading.proofs.Faultless.{one_fault}
use Rattle.osi_commands.proofs.TwoFilesCases.{TwoFilesCase, module_unread, module_faulty, second_unread, second_read, two_files_case}

-- ---- what is replayed

one_text : OneTranscript → (brief : Bool) (tables : Tables) (schedule : Said) (x y : List ℕ) → Replayed brief tables schedule x → Replayed brief tables schedule y → x ≡ y
one_text one brief tables schedule x y p q = p.text_is ∙ ap (written_of brief tables) (one tables schedule p.transcript q.transcript p.ran q.ran) ∙ sym q.text_is

-- ---- faults

abbrev answer_to : ModuleFault → Answer
answer_to (faults.At line column kind) = module_answer line column kind
answer_to faults.NoMemory = usage_answer

abbrev text_to : ModuleFault → List ℕ
text_to (faults.At line column kind) = refused_text line column kind
text_to faults.NoMemory = []

abbrev refused_answer : List ℕ → Answer
refused_answer text = checked_answer (Refused text)

-- ---- the second file

one_reply : OneTranscript → (brief : Bool) (tables : Tables) (r : Result Said ScriptFault) (first other : Answer) → RepliedBy brief tables r first → RepliedBy brief tables r other → first ≡ other
one_reply one brief tables (Ok schedule) first other x y = x.2 ∙ ap done_answer (one_text one brief tables schedule x.0 y.0 x.1 y.1) ∙ sym y.2
one_reply one brief tables (Err (At number kind)) first other x y = x ∙ sym y
one_reply one brief tables (Err NoMemory) first other x y = absurd x

one_telling : OneTrace → (tables : Tables) (r : Result (List Recorded) RecordingFault) (first other : Answer) → ToldBy tables r first → ToldBy tables r other → first ≡ other
one_telling one tables (Ok told) first other x y = x.2 ∙ ap done_answer (one tables told x.0 y.0 x.1 y.1) ∙ sym y.2
one_telling one tables (Err (recording_faults.At number kind)) first other x y = x ∙ sym y
one_telling one tables (Err recording_faults.NoMemory) first other x y = absurd x

module _ (runs : OneTranscript) (traces : OneTrace) where
  one_second : (work : Work) (tables : Tables) (octets : List ℕ) (first other : Answer) → SecondBy work tables octets first → SecondBy work tables octets other → first ≡ other
  one_second (Replay brief) tables octets first other x y = one_reply runs brief tables (schedule_of every_mode tables octets) first other x y
  one_second Trace tables octets first other x y = one_telling traces tables (recording_of octets) first other x y

  module _ (map : FileMap) (old new : ℕ) (calm : IsCalm old new) where
    -- octets that were read twice are the same
    same_twice : (name text again : List ℕ) → WasRead (Some map) old new name (Some text) → WasRead (Some map) old new name (Some again) → again ≡ text
    same_twice name text again w v = same_read map old new name again text v (has_read map old new name text w)

    tables_twice : (text again : List ℕ) (t u : Tables) → again ≡ text → HasTables text t → HasTables again u → u ≡ t
    tables_twice text again t u e h k = let H : List ℕ → Type 0 = λ o. HasTables o u in one_tables text u t (subst H e k) h

    -- a module is refused for one fault
    faults_twice : (text again : List ℕ) (line column l c : ℕ) (kind k : ModuleKind) → again ≡ text → IsRefused text (faults.At line column kind) → IsRefused again (faults.At l c k) → module_answer line column kind ≡ module_answer l c k
    faults_twice text again line column l c kind k e r s =
        let R : List ℕ → Type 0 = λ o. IsRefused o (faults.At l c k) in ap answer_to (one_fault text line column l c kind k r (subst R e s))

    never_both : {P : Type 0} (text again : List ℕ) (tables : Tables) (line column : ℕ) (kind : ModuleKind) → again ≡ text → HasTables text tables → IsRefused again (faults.At line column kind) → P
    never_both text again tables line column kind e h r =
        let R : List ℕ → Type 0 = λ o. IsRefused o (faults.At line column kind) in absurd (tables_or_fault text tables line column kind h (subst R e r))

    module _ (named : TwoFiles) where
      one_command_of_two_files : (first other : Answer) → TwoFilesCase (Some map) old new named first → TwoFilesCase (Some map) old new named other → first ≡ other
      one_command_of_two_files _ _ (module_unread w) (module_unread v) = refl
      one_command_of_two_files _ _ (module_unread w) (module_faulty text line column kind v r) = never_lacks map old new named.«module» text calm w (has_read map old new named.«module» text v)
      one_command_of_two_files _ _ (module_unread w) (second_unread text tables v h s) = never_lacks map old new named.«module» text calm w (has_read map old new named.«module» text v)
      one_command_of_two_files _ other (module_unread w) (second_read text tables octets _ v h s by) =
          never_lacks map old new named.«module» text calm w (has_read map old new named.«module» text v)
      one_command_of_two_files _ _ (module_faulty text line column kind w r) (module_unread v) = never_lacks map old new named.«module» text calm v (has_read map old new named.«module» text w)
      one_command_of_two_files _ _ (module_faulty text line column kind w r) (module_faulty again l d k v s) = faults_twice text again line column l d kind k (same_twice named.«module» text again w v) r s
      one_command_of_two_files _ _ (module_faulty text line column kind w r) (second_unread again tables v h s) = never_both again text tables line column kind (same_twice named.«module» again text v w) h r
      one_command_of_two_files _ other (module_faulty text line column kind w r) (second_read again tables octets _ v h s by) = never_both again text tables line column kind (same_twice named.«module» again text v w) h r
      one_command_of_two_files _ _ (second_unread text tables w h s) (module_unread v) = never_lacks map old new named.«module» text calm v (has_read map old new named.«module» text w)
      one_command_of_two_files _ _ (second_unread text tables w h s) (module_faulty again line column kind v r) = never_both text again tables line column kind (same_twice named.«module» text again w v) h r
      one_command_of_two_files _ _ (second_unread text tables w h s) (second_unread again found v k t) = refl
      one_command_of_two_files _ other (second_unread text tables w h s) (second_read again found octets _ v k t by) =
          never_lacks map old new named.second octets calm s (has_read map old new named.second octets t)
      one_command_of_two_files first _ (second_read text tables octets _ w h s by) (module_unread v) =
          never_lacks map old new named.«module» text calm v (has_read map old new named.«module» text w)
      one_command_of_two_files first _ (second_read text tables octets _ w h s by) (module_faulty again line column kind v r) = never_both text again tables line column kind (same_twice named.«module» text again w v) h r
      one_command_of_two_files first _ (second_read text tables octets _ w h s by) (second_unread again found v k t) =
          never_lacks map old new named.second octets calm t (has_read map old new named.second octets s)
      one_command_of_two_files first other (second_read text tables octets _ w h s by) (second_read again found given _ v k t bye) =
          let T : found ≡ tables = tables_twice text again tables found (same_twice named.«module» text again w v) h k in
          let O : given ≡ octets = same_twice named.second octets given s t in
          let P : Tables → Type 0 = λ x. SecondBy named.work x given other in
          let Q : List ℕ → Type 0 = λ o. SecondBy named.work tables o other in
          one_second named.work tables octets first other by (subst Q O (subst P T bye))

    module _ (check : Check) where
      one_written : (octets : List ℕ) (x y : Checked) → IsChecked check.table octets x → IsChecked check.table octets y → checked_answer x ≡ checked_answer y
      one_written octets (Shown x) (Shown y) h k =
          ap done_answer (h.is ∙ ap (λ (t : Tables). shown check.table t) (one_tables octets h.tables k.tables h.has k.has) ∙ sym k.is)
      one_written octets (Shown x) (Refused y) h k = absurd (tables_or_fault octets h.tables k.line k.column k.kind h.has k.refused)
      one_written octets (Refused x) (Shown y) h k = absurd (tables_or_fault octets k.tables h.line h.column h.kind k.has h.refused)
      one_written octets (Refused x) (Refused y) h k =
          let texts : refused_text h.line h.column h.kind ≡ refused_text k.line k.column k.kind = ap text_to (one_fault octets h.line h.column k.line k.column h.kind k.kind h.refused k.refused) in
          ap refused_answer (h.is ∙ texts ∙ sym k.is)

      one_read : (octets again : List ℕ) (first other : Answer) → again ≡ octets → ChecksOctets check.table octets first → ChecksOctets check.table again other → first ≡ other
      one_read octets again first other e x y =
          let P : List ℕ → Type 0 = λ o. IsChecked check.table o y.written in
          x.answer_is ∙ one_written octets x.written y.written x.is (subst P e y.is) ∙ sym y.answer_is

      one_check : (first other : Answer) → Checks (Some map) old new check first → Checks (Some map) old new check other → first ≡ other
      one_check _ _ (unread w) (unread v) = refl
      one_check _ other (unread w) (read octets _ v is) = never_lacks map old new check.«module» octets calm w (has_read map old new check.«module» octets v)
      one_check first _ (read octets _ w is) (unread v) = never_lacks map old new check.«module» octets calm v (has_read map old new check.«module» octets w)
      one_check first other (read octets _ w is) (read again _ v was) = one_read octets again first other (same_twice check.«module» octets again w v) is was

    one_of : (command : Option Command) (first other : Answer) → IsAnswer (Some map) old new command first → IsAnswer (Some map) old new command other → first ≡ other
    one_of None first other x y = x ∙ sym y
    one_of (Some (checks check)) first other x y = one_check check first other x y
    one_of (Some (two_files named)) first other x y = one_command_of_two_files named first other (two_files_case (Some map) old new named first x) (two_files_case (Some map) old new named other y)

pub one_answer : OneTranscript → OneTrace → OneAnswer
one_answer runs traces map old new command first other calm x y = one_of runs traces map old new calm command first other x y
