-- How the top call ends, by what the words are.
use Rattle.std.proofs.Common.{ℕ, ◌≡◌, List, Option, None, Some, Result, Ok, Err, IfOk, MatchResult, Bool, true, refl, sym, ap, subst, inr, ◌∙◌}
use Rattle.osi_base.specs.Outside.{FileMap, logged, grown}
use Rattle.osi_base.specs.declared.layer_words.Status.{Status}
use Rattle.osi_base.specs.declared.layer_words.Status.TheVariants.{Done, Usage, ReadFault, WriteFault, LineFault, ModuleRefused, ScriptRefused, Ended, Spent, NoMemory}
use Rattle.module_check.specs.Command.{Check}
use Rattle.osi_commands.specs.declared.answers.Answer.{Answer}
use Rattle.osi_commands.specs.declared.commands.Work.TheVariants.{Replay}
use Rattle.osi_commands.specs.Commands.{TwoFiles, Command, checks, two_files}
use Rattle.osi_commands.specs.Answers.{usage_answer, EndedWith, Closes, IsUnless}
use Rattle.osi_commands.specs.Reading.{CheckAskedAtEnd}
use Rattle.osi_commands.specs.Checking.{Checks, CheckEnds}
use Rattle.osi_commands.specs.ModuleAndFile.{AnswersTwoFiles, IsReplayDone, WorkEnds}
use Rattle.osi_commands.specs.TopCall.{IsAnswer, IsUsage, Asks, AskedBy, AskedAtEnd}
use Rattle.osi_commands.proofs.Endings.{is_answers, whole_of, unless_of, closes_as}
use Rattle.osi_commands.proofs.CheckEnding.{own_check, check_ends, never_usage_check}
use Rattle.osi_commands.proofs.TwoFilesCases.{two_files_case, never_usage}
use Rattle.osi_commands.proofs.WorkEnding.{own_two_files, replay_done, work_ends, two_files_answered, none_answered}

-- ---- the answer to words, once it is known what they are

module _ {E : Type 0} (told : Option FileMap) (old new : ℕ) (r : Result Answer E) where
  pub answers_none : (command : Option Command) → command ≡ None → IfOk r (λ answer. answer ≡ usage_answer) → IfOk r (λ answer. IsAnswer told old new command answer)
  answers_none command e h = let P : Option Command → Type 0 = λ k. IfOk r (λ answer. IsAnswer told old new k answer) in subst P (sym e) h

  pub answers_some : (command : Option Command) (which : Command) → command ≡ Some which → IfOk r (λ answer. IsAnswer told old new (Some which) answer)
      → IfOk r (λ answer. IsAnswer told old new command answer)
  answers_some command which e h = let P : Option Command → Type 0 = λ k. IfOk r (λ answer. IsAnswer told old new k answer) in subst P (sym e) h

module _ (told : Option FileMap) (old new : ℕ) (before after : Option (List (List ℕ))) where
  pub asks_none : (command : Option Command) → command ≡ None → after ≡ before → Asks told old new command before after
  asks_none command e h = let P : Option Command → Type 0 = λ k. Asks told old new k before after in subst P (sym e) h

  pub asks_some : (command : Option Command) (which : Command) → command ≡ Some which → Asks told old new (Some which) before after → Asks told old new command before after
  asks_some command which e h = let P : Option Command → Type 0 = λ k. Asks told old new k before after in subst P (sym e) h

module _ {E : Type 0} (before after : Option (List (List ℕ))) (r : Result Answer E) where
  pub asked_none : (command : Option Command) → command ≡ None → after ≡ before → IfOk r (λ answer. AskedBy command before after answer.status)
  asked_none command e h = let P : Option Command → Type 0 = λ k. IfOk r (λ answer. AskedBy k before after answer.status) in subst P (sym e) (by_result r)
    where
      by_result : (s : Result Answer E) → IfOk s (λ answer. AskedBy None before after answer.status)
      by_result (Ok answer) = h
      by_result (Err fault) = tt

  pub asked_some : (command : Option Command) (which : Command) → command ≡ Some which → IfOk r (λ answer. AskedBy (Some which) before after answer.status)
      → IfOk r (λ answer. AskedBy command before after answer.status)
  asked_some command which e h = let P : Option Command → Type 0 = λ k. IfOk r (λ answer. AskedBy k before after answer.status) in subst P (sym e) h

-- ---- which files were asked for at the end

check_asked : (name : List ℕ) (first last : Option (List (List ℕ))) (status : Status) → last ≡ logged name first → CheckAskedAtEnd name first last status
check_asked name first last NoMemory asked = inr asked
check_asked name first last Done asked = asked
check_asked name first last Usage asked = asked
check_asked name first last ReadFault asked = asked
check_asked name first last WriteFault asked = asked
check_asked name first last LineFault asked = asked
check_asked name first last ModuleRefused asked = asked
check_asked name first last ScriptRefused asked = asked
check_asked name first last Ended asked = asked
check_asked name first last Spent asked = asked

module _ (first last : Option (List (List ℕ))) (sink_old sink_new : ℕ) (before after : Option (List ℕ)) where
  answered_end : (command : Option Command) (answer : Answer) (status : Status) → EndedWith sink_old sink_new before after answer status → AskedBy command first last answer.status
      → AskedAtEnd command first last status
  answered_end None answer status ends asked = asked
  answered_end (Some (checks check)) answer status ends asked = check_asked check.«module» first last status asked
  answered_end (Some (two_files named)) answer status ends asked = two_files_answered named first last sink_old sink_new before after answer status ends asked

  -- where memory was refused before there was an answer
  none_end : (command : Option Command) (told : Option FileMap) (old new : ℕ) → Asks told old new command first last → AskedAtEnd command first last NoMemory
  none_end None told old new asks = asks
  none_end (Some (checks check)) told old new asks = asks
  none_end (Some (two_files named)) told old new asks = none_answered named first last told old new asks

  pub asked_at_end : {E : Type 0} (command : Option Command) (told : Option FileMap) (old new : ℕ) (status : Status) (r : Result Answer E)
      → Asks told old new command first last → IfOk r (λ answer. AskedBy command first last answer.status)
      → MatchResult r (λ made. EndedWith sink_old sink_new before after made status) (λ _. (status ≡ NoMemory) × (sink_new ≡ sink_old) × (after ≡ before))
      → AskedAtEnd command first last status
  asked_at_end command told old new status (Ok answer) asks asked ends = answered_end command answer status ends asked
  asked_at_end command told old new status (Err fault) asks asked ends =
      let P : Status → Type 0 = λ s. AskedAtEnd command first last s in subst P (sym ends.0) (none_end command told old new asks)

-- ---- the end of the top call

-- the status of an answer is one of those
pub own : (told : Option FileMap) (old new : ℕ) (command : Option Command) (answer : Answer) → IsAnswer told old new command answer → is_answers answer.status ≡ true
own told old new None answer is = ap (λ (a : Answer). is_answers a.status) is
own told old new (Some (checks check)) answer is = own_check told old new check answer is
own told old new (Some (two_files named)) answer is = own_two_files told old new named answer is

-- only words that are no command are answered how the program is used
usage_alone : (told : Option FileMap) (old new : ℕ) (command : Option Command) (answer : Answer) → IsAnswer told old new command answer → answer.status ≡ Usage
    → (command ≡ None) × (answer ≡ usage_answer)
usage_alone told old new None answer is h = (refl, is)
usage_alone told old new (Some (checks check)) answer is h = absurd (never_usage_check told old new check answer is h)
usage_alone told old new (Some (two_files named)) answer is h = absurd (never_usage told old new named answer (two_files_case told old new named answer is) h)

module _ (told : Option FileMap) (old new : ℕ) (command : Option Command) (before after : Option (List ℕ)) (sink_old sink_new : ℕ) (status : Status)
    (closes : Closes (IsAnswer told old new command) old new sink_old sink_new before after status) where
  pub usage_of : status ≡ Usage → IsUsage command before after
  usage_of h =
      let a = whole_of (IsAnswer told old new command) old new sink_old sink_new before after status Usage closes h refl in
      let u = usage_alone told old new command a.answer a.is a.status_is in
      record { no_command = u.0; written = a.written ∙ ap (λ (x : Answer). grown before x.text) u.1 }

  usage_due : command ≡ None → (answer : Answer) → IsAnswer told old new command answer → answer.status ≡ Usage
  usage_due e answer is =
      let P : Option Command → Type 0 = λ k. IsAnswer told old new k answer in
      let u : answer ≡ usage_answer = subst P e is in ap (λ (a : Answer). a.status) u

  pub no_command_of : command ≡ None → IsUnless sink_old sink_new Usage status
  no_command_of e = unless_of (IsAnswer told old new command) old new sink_old sink_new before after status Usage closes (usage_due e)

  as_check : (check : Check) → command ≡ Some (checks check) → (answer : Answer) → IsAnswer told old new command answer → Checks told old new check answer
  as_check check e answer is = let P : Option Command → Type 0 = λ k. IsAnswer told old new k answer in subst P e is

  pub check_ends_so : (check : Check) → command ≡ Some (checks check) → CheckEnds told old new check sink_old sink_new before after status
  check_ends_so check e =
      check_ends told old new check before after sink_old sink_new status
      (closes_as (IsAnswer told old new command) old new sink_old sink_new before after (Checks told old new check) status (as_check check e) closes)

  as_two_files : (named : TwoFiles) → command ≡ Some (two_files named) → (answer : Answer) → IsAnswer told old new command answer → AnswersTwoFiles told old new named answer
  as_two_files named e answer is = let P : Option Command → Type 0 = λ k. IsAnswer told old new k answer in subst P e is

  pub work_ends_so : (named : TwoFiles) → command ≡ Some (two_files named) → WorkEnds told old new named sink_old sink_new before after status
  work_ends_so named e =
      work_ends told old new named before after sink_old sink_new status
      (closes_as (IsAnswer told old new command) old new sink_old sink_new before after (AnswersTwoFiles told old new named) status (as_two_files named e) closes)

  pub replay_done_so : (named : TwoFiles) (brief : Bool) → command ≡ Some (two_files named) → named.work ≡ Replay brief → status ≡ Done
      → IsReplayDone told old new named brief before after
  replay_done_so named brief e is h = replay_done told old new named brief before after is ((work_ends_so named e).done h)
