-- How the top call ends with words that are a replay or a trace.
use Rattle.std.proofs.Common.{ℕ, ◌≡◌, ◌⊎◌, List, Option, None, Some, IfSome, Bool, true, refl, ap, subst, inl, inr, ◌∙◌}
use Rattle.osi_base.specs.Outside.{IsCalm, FileMap, grown}
use Rattle.osi_base.specs.declared.layer_words.Status.{Status}
use Rattle.osi_base.specs.declared.layer_words.Status.TheVariants.{Done, Usage, ReadFault, WriteFault, LineFault, ModuleRefused, ScriptRefused, Ended, Spent, NoMemory}
use Rattle.osi_commands.specs.declared.answers.Answer.{Answer}
use Rattle.osi_commands.specs.declared.commands.Work.{Work}
use Rattle.osi_commands.specs.declared.commands.Work.TheVariants.{Replay}
use Rattle.osi_commands.specs.Commands.{TwoFiles}
use Rattle.osi_commands.specs.Answers.{EndedWith, whole, failed, no_memory, Closes, answered, no_room, IsUnless}
use Rattle.osi_commands.specs.Reading.{AskedOneOrBoth, AsksTwoFiles, TwoFilesAsked, TwoFilesAskedAtEnd}
use Rattle.osi_commands.specs.Causes.{IsRefusedModule}
use Rattle.osi_commands.specs.ModuleAndFile.{AnswersTwoFiles, IsReplayed, IsWorked, IsWorkDone, IsReplayDone, IsWorkRefused, IsWorkUnread, due_by_second, IsBySecond, IsWorkDue, WorkEnds}
use Rattle.osi_commands.proofs.Endings.{is_answers, whole_of, unless_of}
use Rattle.osi_commands.proofs.TwoFilesCases.{two_files_case, own_status, never_usage, done_case, script_case, unread_case, module_case, no_module_due, no_tables_due, second_due, fault_due, there_due}

-- the status of an answer is one of those
pub own_two_files : (told : Option FileMap) (old new : ℕ) (named : TwoFiles) (answer : Answer) → AnswersTwoFiles told old new named answer → is_answers answer.status ≡ true
own_two_files told old new named answer is = own_status told old new named answer (two_files_case told old new named answer is)

-- a replay that is done
pub replay_done : (told : Option FileMap) (old new : ℕ) (named : TwoFiles) (brief : Bool) (before after : Option (List ℕ)) → named.work ≡ Replay brief
    → IsWorkDone told old new named before after → IsReplayDone told old new named brief before after
replay_done told old new named brief before after is done =
    let W : Work → Type 0 = λ w. IsWorked w done.tables done.octets done.text in
    let r : IsReplayed brief done.tables done.octets done.text = subst W is done.worked in
    record {
      «module» = done.«module»;
      module_read = done.module_read;
      tables = done.tables;
      has = done.has;
      octets = done.octets;
      second_read = done.second_read;
      schedule = r.schedule;
      reads = r.reads;
      transcript = r.replayed.transcript;
      ran = r.replayed.ran;
      only = r.replayed.only;
      written = done.written ∙ ap (λ (text : List ℕ). grown before text) r.replayed.text_is;
    }

module _ (told : Option FileMap) (old new : ℕ) (named : TwoFiles) (before after : Option (List ℕ)) (sink_old sink_new : ℕ) (status : Status)
    (closes : Closes (AnswersTwoFiles told old new named) old new sink_old sink_new before after status) where
  done_of : status ≡ Done → IsWorkDone told old new named before after
  done_of h =
      let a = whole_of (AnswersTwoFiles told old new named) old new sink_old sink_new before after status Done closes h refl in
      done_case told old new named before after a.answer (two_files_case told old new named a.answer a.is) a.status_is a.written

  unread_of : status ≡ ReadFault → IsWorkUnread told old new named before after
  unread_of h =
      let a = whole_of (AnswersTwoFiles told old new named) old new sink_old sink_new before after status ReadFault closes h refl in
      unread_case told old new named before after a.answer (two_files_case told old new named a.answer a.is) a.status_is a.written

  module_of : status ≡ ModuleRefused → IsRefusedModule told old new named.«module» before after
  module_of h =
      let a = whole_of (AnswersTwoFiles told old new named) old new sink_old sink_new before after status ModuleRefused closes h refl in
      module_case told old new named before after a.answer (two_files_case told old new named a.answer a.is) a.status_is a.written

  script_of : status ≡ ScriptRefused → IsWorkRefused told old new named before after
  script_of h =
      let a = whole_of (AnswersTwoFiles told old new named) old new sink_old sink_new before after status ScriptRefused closes h refl in
      script_case told old new named before after a.answer (two_files_case told old new named a.answer a.is) a.status_is a.written

  no_usage_of : status ≡ Usage → ⊥
  no_usage_of h =
      let a = whole_of (AnswersTwoFiles told old new named) old new sink_old sink_new before after status Usage closes h refl in
      never_usage told old new named a.answer (two_files_case told old new named a.answer a.is) a.status_is

there_of : (map : FileMap) (old new : ℕ) (named : TwoFiles) (before after : Option (List ℕ)) (sink_old sink_new : ℕ) (status : Status) → IsCalm old new → (text : List ℕ)
    → map named.«module» ≡ Some text → Closes (AnswersTwoFiles (Some map) old new named) old new sink_old sink_new before after status
    → IsUnless sink_old sink_new ModuleRefused status ⊎ IsBySecond map named sink_old sink_new status text
there_of map old new named before after sink_old sink_new status calm text h (answered answer _ is counts ends) =
    there_due map old new named calm text h before after sink_old sink_new status answer (two_files_case (Some map) old new named answer is) ends
there_of map old new named before after sink_old sink_new _ calm text h (no_room kept same_count same) = inl (inr (inr refl))

module _ (map : FileMap) (old new : ℕ) (named : TwoFiles) (before after : Option (List ℕ)) (sink_old sink_new : ℕ) (status : Status)
    (closes : Closes (AnswersTwoFiles (Some map) old new named) old new sink_old sink_new before after status) (calm : IsCalm old new) where
  map_due : IsWorkDue map named sink_old sink_new status
  map_due = record {
    no_module = λ h.
        unless_of (AnswersTwoFiles (Some map) old new named) old new sink_old sink_new before after status ReadFault closes
        (λ answer is. no_module_due map old new named calm h answer (two_files_case (Some map) old new named answer is));
    no_tables = λ text h none.
        unless_of (AnswersTwoFiles (Some map) old new named) old new sink_old sink_new before after status ModuleRefused closes
        (λ answer is. no_tables_due map old new named calm text h none answer (two_files_case (Some map) old new named answer is));
    by_second = λ text tables h has.
        unless_of (AnswersTwoFiles (Some map) old new named) old new sink_old sink_new before after status (due_by_second named.work tables (map named.second)) closes
        (λ answer is. second_due map old new named calm text tables h has answer (two_files_case (Some map) old new named answer is));
    fault = λ text line column kind h faulty.
        unless_of (AnswersTwoFiles (Some map) old new named) old new sink_old sink_new before after status ModuleRefused closes
        (λ answer is. fault_due map old new named calm text line column kind h faulty answer (two_files_case (Some map) old new named answer is));
    there = λ text h. there_of map old new named before after sink_old sink_new status calm text h closes;
  }

due_of : (told : Option FileMap) (old new : ℕ) (named : TwoFiles) (before after : Option (List ℕ)) (sink_old sink_new : ℕ) (status : Status)
    → Closes (AnswersTwoFiles told old new named) old new sink_old sink_new before after status → IfSome told (λ map. IsCalm old new → IsWorkDue map named sink_old sink_new status)
due_of None old new named before after sink_old sink_new status closes = tt
due_of (Some map) old new named before after sink_old sink_new status closes = λ calm. map_due map old new named before after sink_old sink_new status closes calm

pub work_ends : (told : Option FileMap) (old new : ℕ) (named : TwoFiles) (before after : Option (List ℕ)) (sink_old sink_new : ℕ) (status : Status)
    → Closes (AnswersTwoFiles told old new named) old new sink_old sink_new before after status → WorkEnds told old new named sink_old sink_new before after status
work_ends told old new named before after sink_old sink_new status closes = record {
  done = done_of told old new named before after sink_old sink_new status closes;
  read_fault = unread_of told old new named before after sink_old sink_new status closes;
  module_refused = module_of told old new named before after sink_old sink_new status closes;
  script_refused = script_of told old new named before after sink_old sink_new status closes;
  no_usage = no_usage_of told old new named before after sink_old sink_new status closes;
  due = due_of told old new named before after sink_old sink_new status closes;
}

-- ---- which files were asked for

module _ (named : TwoFiles) (first last : Option (List (List ℕ))) where
  -- what the status of an answer says stands at the end too
  kept : (answer : Status) → TwoFilesAsked named first last answer → TwoFilesAskedAtEnd named first last answer
  kept Done asked = asked
  kept ReadFault asked = asked
  kept ModuleRefused asked = asked
  kept ScriptRefused asked = asked
  kept Usage asked = absurd asked
  kept WriteFault asked = absurd asked
  kept LineFault asked = absurd asked
  kept Ended asked = absurd asked
  kept Spent asked = absurd asked
  kept NoMemory asked = absurd asked

  -- where there is an answer, one file was asked for or both
  one_or_both : (answer : Status) → TwoFilesAsked named first last answer → AskedOneOrBoth named first last
  one_or_both Done asked = inr asked
  one_or_both ReadFault asked = asked
  one_or_both ModuleRefused asked = inl asked
  one_or_both ScriptRefused asked = inr asked
  one_or_both Usage asked = absurd asked
  one_or_both WriteFault asked = absurd asked
  one_or_both LineFault asked = absurd asked
  one_or_both Ended asked = absurd asked
  one_or_both Spent asked = absurd asked
  one_or_both NoMemory asked = absurd asked

  pub two_files_answered : (old new : ℕ) (before after : Option (List ℕ)) (answer : Answer) (status : Status) → EndedWith old new before after answer status
      → TwoFilesAsked named first last answer.status → TwoFilesAskedAtEnd named first last status
  two_files_answered old new before after answer _ (whole same written) asked = kept answer.status asked
  two_files_answered old new before after answer _ (failed rose part) asked = one_or_both answer.status asked
  two_files_answered old new before after answer _ (no_memory same part) asked = inr (one_or_both answer.status asked)

  -- where memory was refused before there was an answer
  pub none_answered : (told : Option FileMap) (old new : ℕ) → AsksTwoFiles told old new named first last → TwoFilesAskedAtEnd named first last NoMemory
  none_answered told old new (inl (inl none)) = inl none
  none_answered told old new (inl (inr one)) = inr (inl one)
  none_answered told old new (inr both) = inr (inr both.1)
