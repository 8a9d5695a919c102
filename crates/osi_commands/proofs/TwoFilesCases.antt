-- Why a replay or a trace is answered so: what words and files make, case by case.
use Rattle.std.proofs.Common.{ℕ, ◌≡◌, ◌⊎◌, List, Option, None, Some, Bool, true, false, refl, sym, ap, subst, inl, inr, ◌∙◌}
use Rattle.osi_base.specs.Outside.{IsCalm, FileMap, grown}
use Rattle.osi_base.specs.declared.layer_words.Status.{Status}
use Rattle.osi_base.specs.declared.layer_words.Status.TheVariants.{Done, Usage, ReadFault, ModuleRefused, ScriptRefused}
use Rattle.stub_tables.specs.declared.tables.Tables.{Tables}
use Rattle.module_reading.specs.declared.fault.ModuleKind.{ModuleKind}
use Rattle.module_reading.specs.declared.fault.ModuleFault.TheVariants as faults
use Rattle.module_reading.specs.Modules.{HasTables, IsRefused}
use Rattle.osi_commands.specs.declared.answers.Answer.{Answer}
use Rattle.osi_commands.specs.declared.reading.TwoFilesRead.{TwoFilesRead}
use Rattle.osi_commands.specs.declared.reading.TwoFilesRead.TheVariants.{Answered, Whole}
use Rattle.osi_commands.specs.Commands.{TwoFiles}
use Rattle.osi_commands.specs.Answers.{unread_answer, module_answer, script_answer, EndedWith, IsUnless}
use Rattle.osi_commands.specs.Reading.{WasRead, ReadsSecond, no_second, second, ReadsTwoFiles, no_module, refused, has_tables, TwoFilesAsked, TwoFilesAskedFor}
use Rattle.osi_commands.specs.Causes.{IsRefusedModule, HasNoTables}
use Rattle.osi_commands.specs.ModuleAndFile.{SecondBy, AnswersTwoFiles, refuses, works, IsWorkDone, IsWorkRefused, IsWorkUnread, due_by_octets, due_by_second, IsBySecond}
use Rattle.osi_commands.proofs.Endings.{is_answers, unless}
use Rattle.osi_commands.proofs.Calm.{has_read, lacks_it, same_read, never_lacks, never_read}
use Rattle.module_reading.proofs.OneTables.{one_tables}
use Rattle.module_reading.proofs.TablesOrFault.{tables_or_fault}
use Rattle.osi_commands.proofs.Second.{SecondCase, worked, bad, case_of, due_second, asked_both}

module _ (told : Option FileMap) (old new : ℕ) (named : TwoFiles) where
  -- each way in which it is answered
  pub data TwoFilesCase : Answer → Type 0 where
    module_unread : WasRead told old new named.«module» None → TwoFilesCase (unread_answer named.«module»)
    module_faulty : (text : List ℕ) (line column : ℕ) (kind : ModuleKind) → WasRead told old new named.«module» (Some text)
        → IsRefused text (faults.At line column kind) → TwoFilesCase (module_answer line column kind)
    second_unread : (text : List ℕ) (tables : Tables) → WasRead told old new named.«module» (Some text) → HasTables text tables
        → WasRead told old new named.second None → TwoFilesCase (unread_answer named.second)
    second_read : (text : List ℕ) (tables : Tables) (octets : List ℕ) (answer : Answer) → WasRead told old new named.«module» (Some text) → HasTables text tables
        → WasRead told old new named.second (Some octets) → SecondBy named.work tables octets answer → TwoFilesCase answer

  along : (made answer : Answer) → made ≡ answer → TwoFilesCase made → TwoFilesCase answer
  along made answer e c = let P : Answer → Type 0 = λ a. TwoFilesCase a in subst P e c

  by_second : (text : List ℕ) (tables : Tables) (read : TwoFilesRead) (answer : Answer) → WasRead told old new named.«module» (Some text) → HasTables text tables
      → ReadsSecond tables told old new named.second read → read ≡ Answered answer → TwoFilesCase answer
  by_second text tables _ answer w h (no_second v) e =
      let same : unread_answer named.second ≡ answer = cc in along (unread_answer named.second) answer same (second_unread text tables w h v)
  by_second text tables _ answer w h (second octets v) e = cc

  by_read : (read : TwoFilesRead) (answer : Answer) → ReadsTwoFiles told old new named read → read ≡ Answered answer → TwoFilesCase answer
  by_read _ answer (no_module w) e =
      let same : unread_answer named.«module» ≡ answer = cc in along (unread_answer named.«module») answer same (module_unread w)
  by_read _ answer (refused text line column kind w r) e =
      let same : module_answer line column kind ≡ answer = cc in along (module_answer line column kind) answer same (module_faulty text line column kind w r)
  by_read _ answer (has_tables text tables read w h t) e = by_second text tables read answer w h t e

  -- the module and the second file, where both were read
  record BothRead (tables : Tables) (octets : List ℕ) : Type 0 where
    text : List ℕ
    module_read : WasRead told old new named.«module» (Some text)
    has : HasTables text tables
    read : WasRead told old new named.second (Some octets)

  second_whole : (text : List ℕ) (t tables : Tables) (read : TwoFilesRead) (octets : List ℕ) → WasRead told old new named.«module» (Some text) → HasTables text t
      → ReadsSecond t told old new named.second read → read ≡ Whole tables octets → BothRead tables octets
  second_whole text t tables _ octets w h (no_second v) e = cc
  second_whole text t tables _ octets w h (second given v) e =
      let T : t ≡ tables = cc in
      let O : given ≡ octets = cc in
      let P : Tables → Type 0 = λ x. HasTables text x in
      let Q : List ℕ → Type 0 = λ x. WasRead told old new named.second (Some x) in record { text = text; module_read = w; has = subst P T h; read = subst Q O v }

  read_whole : (read : TwoFilesRead) (tables : Tables) (octets : List ℕ) → ReadsTwoFiles told old new named read → read ≡ Whole tables octets → BothRead tables octets
  read_whole _ tables octets (no_module w) e = cc
  read_whole _ tables octets (refused text line column kind w r) e = cc
  read_whole _ tables octets (has_tables text t read w h s) e = second_whole text t tables read octets w h s e

  pub two_files_case : (answer : Answer) → AnswersTwoFiles told old new named answer → TwoFilesCase answer
  two_files_case _ (refuses answer read) = by_read (Answered answer) answer read refl
  two_files_case _ (works tables octets answer read by) =
      let both = read_whole (Whole tables octets) tables octets read refl in
      second_read both.text tables octets answer both.module_read both.has both.read by

  -- ---- from the steps of the code

  pub two_files_refused : (read : TwoFilesRead) (answer : Answer) → read ≡ Answered answer → ReadsTwoFiles told old new named read → AnswersTwoFiles told old new named answer
  two_files_refused read answer e r = let P : TwoFilesRead → Type 0 = λ x. ReadsTwoFiles told old new named x in refuses answer (subst P e r)

  pub two_files_worked : (read : TwoFilesRead) (tables : Tables) (octets given : List ℕ) (answer : Answer) → read ≡ Whole tables octets → ReadsTwoFiles told old new named read → given ≡ octets
      → SecondBy named.work tables given answer → AnswersTwoFiles told old new named answer
  two_files_worked read tables octets given answer e r g by =
      let P : TwoFilesRead → Type 0 = λ x. ReadsTwoFiles told old new named x in
      let Q : List ℕ → Type 0 = λ o. SecondBy named.work tables o answer in works tables octets answer (subst P e r) (subst Q g by)

  -- ---- the statuses of answers

  second_status : (tables : Tables) (octets : List ℕ) (answer : Answer) → SecondCase named.work tables octets answer → is_answers answer.status ≡ true
  second_status tables octets _ (worked text is) = refl
  second_status tables octets _ (bad number kind is) = refl

  pub own_status : (answer : Answer) → TwoFilesCase answer → is_answers answer.status ≡ true
  own_status _ (module_unread w) = refl
  own_status _ (module_faulty text line column kind w r) = refl
  own_status _ (second_unread text tables w h v) = refl
  own_status answer (second_read text tables octets _ w h v by) = second_status tables octets answer (case_of named.work tables octets answer by)

  -- a second file is never answered by one of these
  abbrev is_seconds : Status → Bool
  is_seconds Done = true
  is_seconds ScriptRefused = true
  is_seconds _ = false

  second_alone : (tables : Tables) (octets : List ℕ) (answer : Answer) → SecondCase named.work tables octets answer → is_seconds answer.status ≡ true
  second_alone tables octets _ (worked text is) = refl
  second_alone tables octets _ (bad number kind is) = refl

  never : {P : Type 0} (tables : Tables) (octets : List ℕ) (answer : Answer) → SecondBy named.work tables octets answer → (wanted : Status) → is_seconds wanted ≡ false
      → answer.status ≡ wanted → P
  never tables octets answer by wanted other h =
      let e : true ≡ false = sym (second_alone tables octets answer (case_of named.work tables octets answer by)) ∙ ap is_seconds h ∙ other in absurd cc

  pub never_usage : (answer : Answer) → TwoFilesCase answer → answer.status ≡ Usage → ⊥
  never_usage _ (module_unread w) h = cc
  never_usage _ (module_faulty text line column kind w r) h = cc
  never_usage _ (second_unread text tables w h v) e = cc
  never_usage answer (second_read text tables octets _ w h v by) e = never tables octets answer by Usage refl e

  -- ---- what each status says

  module _ (before after : Option (List ℕ)) where
    second_done : (text : List ℕ) (tables : Tables) (octets : List ℕ) (answer : Answer) → WasRead told old new named.«module» (Some text) → HasTables text tables
        → WasRead told old new named.second (Some octets) → SecondCase named.work tables octets answer → answer.status ≡ Done → after ≡ grown before answer.text
        → IsWorkDone told old new named before after
    second_done text tables octets _ w h v (worked out is) e put = record {
      «module» = text;
      module_read = w;
      tables = tables;
      has = h;
      octets = octets;
      second_read = v;
      text = out;
      worked = is;
      written = put;
    }
    second_done text tables octets _ w h v (bad number kind is) e put = cc

    pub done_case : (answer : Answer) → TwoFilesCase answer → answer.status ≡ Done → after ≡ grown before answer.text → IsWorkDone told old new named before after
    done_case _ (module_unread w) e put = cc
    done_case _ (module_faulty text line column kind w r) e put = cc
    done_case _ (second_unread text tables w h v) e put = cc
    done_case answer (second_read text tables octets _ w h v by) e put =
        second_done text tables octets answer w h v (case_of named.work tables octets answer by) e put

    second_refused : (text : List ℕ) (tables : Tables) (octets : List ℕ) (answer : Answer) → WasRead told old new named.«module» (Some text) → HasTables text tables
        → WasRead told old new named.second (Some octets) → SecondCase named.work tables octets answer → answer.status ≡ ScriptRefused → after ≡ grown before answer.text
        → IsWorkRefused told old new named before after
    second_refused text tables octets _ w h v (worked out is) e put = cc
    second_refused text tables octets _ w h v (bad number kind is) e put = record {
      «module» = text;
      module_read = w;
      tables = tables;
      has = h;
      octets = octets;
      second_read = v;
      text = (script_answer number kind).text;
      bad = is;
      written = put;
    }

    pub script_case : (answer : Answer) → TwoFilesCase answer → answer.status ≡ ScriptRefused → after ≡ grown before answer.text → IsWorkRefused told old new named before after
    script_case _ (module_unread w) e put = cc
    script_case _ (module_faulty text line column kind w r) e put = cc
    script_case _ (second_unread text tables w h v) e put = cc
    script_case answer (second_read text tables octets _ w h v by) e put =
        second_refused text tables octets answer w h v (case_of named.work tables octets answer by) e put

    pub unread_case : (answer : Answer) → TwoFilesCase answer → answer.status ≡ ReadFault → after ≡ grown before answer.text → IsWorkUnread told old new named before after
    unread_case _ (module_unread w) e put = inl (record { cause = w; written = put })
    unread_case _ (module_faulty text line column kind w r) e put = cc
    unread_case _ (second_unread text tables w h v) e put = inr ((text, w, (tables, h)), record { cause = v; written = put })
    unread_case answer (second_read text tables octets _ w h v by) e put = never tables octets answer by ReadFault refl e

    pub module_case : (answer : Answer) → TwoFilesCase answer → answer.status ≡ ModuleRefused → after ≡ grown before answer.text → IsRefusedModule told old new named.«module» before after
    module_case _ (module_unread w) e put = cc
    module_case _ (module_faulty text line column kind w r) e put = record {
      text = text;
      module_read = w;
      line = line;
      column = column;
      kind = kind;
      fault = r;
      written = put;
    }
    module_case _ (second_unread text tables w h v) e put = cc
    module_case answer (second_read text tables octets _ w h v by) e put = never tables octets answer by ModuleRefused refl e

-- ---- over a told map whose files didn't fail

module _ (map : FileMap) (old new : ℕ) (named : TwoFiles) (calm : IsCalm old new) where
  pub no_module_due : map named.«module» ≡ None → (answer : Answer) → TwoFilesCase (Some map) old new named answer → answer.status ≡ ReadFault
  no_module_due e _ (module_unread w) = refl
  no_module_due e _ (module_faulty text line column kind w r) = never_read map old new named.«module» text w e
  no_module_due e _ (second_unread text tables w h v) = refl
  no_module_due e answer (second_read text tables octets _ w h v by) = never_read map old new named.«module» text w e

  none_of : {P : Type 0} (given text : List ℕ) (tables : Tables) → HasNoTables given → WasRead (Some map) old new named.«module» (Some text) → map named.«module» ≡ Some given
      → HasTables text tables → P
  none_of given text tables none w e h =
      let H : List ℕ → Type 0 = λ o. HasTables o tables in absurd (none tables (subst H (same_read map old new named.«module» text given w e) h))

  pub no_tables_due : (given : List ℕ) → map named.«module» ≡ Some given → HasNoTables given → (answer : Answer) → TwoFilesCase (Some map) old new named answer → answer.status ≡ ModuleRefused
  no_tables_due given e none _ (module_unread w) = never_lacks map old new named.«module» given calm w e
  no_tables_due given e none _ (module_faulty text line column kind w r) = refl
  no_tables_due given e none _ (second_unread text tables w h v) = none_of given text tables none w e h
  no_tables_due given e none answer (second_read text tables octets _ w h v by) = none_of given text tables none w e h

  -- the tables of the module that is there
  same_tables : (given text : List ℕ) (tables found : Tables) → map named.«module» ≡ Some given → HasTables given tables → WasRead (Some map) old new named.«module» (Some text)
      → HasTables text found → found ≡ tables
  same_tables given text tables found e g w h =
      let H : List ℕ → Type 0 = λ o. HasTables o found in one_tables given found tables (subst H (same_read map old new named.«module» text given w e) h) g

  unread_due : (tables : Tables) → WasRead (Some map) old new named.second None → ReadFault ≡ due_by_second named.work tables (map named.second)
  unread_due tables v = sym (ap (λ (x : Option (List ℕ)). due_by_second named.work tables x) (lacks_it map old new named.second calm v))

  read_due : (tables found : Tables) (octets : List ℕ) (answer : Answer) → found ≡ tables → WasRead (Some map) old new named.second (Some octets) → SecondBy named.work found octets answer
      → answer.status ≡ due_by_second named.work tables (map named.second)
  read_due tables found octets answer same v by =
      due_second named.work found octets answer by ∙ ap (λ (t : Tables). due_by_octets named.work t octets) same
      ∙ sym (ap (λ (x : Option (List ℕ)). due_by_second named.work tables x) (has_read map old new named.second octets v))

  -- a module that has tables isn't refused
  no_refusal : {P : Type 0} (given text : List ℕ) (tables : Tables) (line column : ℕ) (kind : ModuleKind) → HasTables given tables → WasRead (Some map) old new named.«module» (Some text)
      → map named.«module» ≡ Some given → IsRefused text (faults.At line column kind) → P
  no_refusal given text tables line column kind has w e r =
      let R : List ℕ → Type 0 = λ o. IsRefused o (faults.At line column kind) in
      absurd (tables_or_fault given tables line column kind has (subst R (same_read map old new named.«module» text given w e) r))

  pub second_due : (given : List ℕ) (tables : Tables) → map named.«module» ≡ Some given → HasTables given tables → (answer : Answer) → TwoFilesCase (Some map) old new named answer
      → answer.status ≡ due_by_second named.work tables (map named.second)
  second_due given tables e g _ (module_unread w) = never_lacks map old new named.«module» given calm w e
  second_due given tables e g _ (module_faulty text line column kind w r) = no_refusal given text tables line column kind g w e r
  second_due given tables e g _ (second_unread text found w h v) = unread_due tables v
  second_due given tables e g answer (second_read text found octets _ w h v by) = read_due tables found octets answer (same_tables given text tables found e g w h) v by

  -- one that has a fault has no tables
  no_tables_with : {P : Type 0} (given text : List ℕ) (tables : Tables) (line column : ℕ) (kind : ModuleKind) → IsRefused given (faults.At line column kind) → WasRead (Some map) old new named.«module» (Some text)
      → map named.«module» ≡ Some given → HasTables text tables → P
  no_tables_with given text tables line column kind faulty w e h =
      let H : List ℕ → Type 0 = λ o. HasTables o tables in
      absurd (tables_or_fault given tables line column kind (subst H (same_read map old new named.«module» text given w e) h) faulty)

  pub fault_due : (given : List ℕ) (line column : ℕ) (kind : ModuleKind) → map named.«module» ≡ Some given → IsRefused given (faults.At line column kind) → (answer : Answer) → TwoFilesCase (Some map) old new named answer
      → answer.status ≡ ModuleRefused
  fault_due given line column kind e faulty _ (module_unread w) = never_lacks map old new named.«module» given calm w e
  fault_due given line column kind e faulty _ (module_faulty text l d k w r) = refl
  fault_due given line column kind e faulty _ (second_unread text tables w h v) = no_tables_with given text tables line column kind faulty w e h
  fault_due given line column kind e faulty answer (second_read text tables octets _ w h v by) = no_tables_with given text tables line column kind faulty w e h

  -- any module that is there is refused, or has tables
  pub there_due : (given : List ℕ) → map named.«module» ≡ Some given → (before after : Option (List ℕ)) (sink_old sink_new : ℕ) (status : Status) (answer : Answer)
      → TwoFilesCase (Some map) old new named answer → EndedWith sink_old sink_new before after answer status
      → IsUnless sink_old sink_new ModuleRefused status ⊎ IsBySecond map named sink_old sink_new status given
  there_due given e before after sink_old sink_new status _ (module_unread w) ends = never_lacks map old new named.«module» given calm w e
  there_due given e before after sink_old sink_new status _ (module_faulty text line column kind w r) ends =
      inl (unless sink_old sink_new before after (module_answer line column kind) status ends ModuleRefused refl)
  there_due given e before after sink_old sink_new status _ (second_unread text tables w h v) ends =
      let H : List ℕ → Type 0 = λ o. HasTables o tables in
      inr (record {
        tables = tables;
        has = subst H (same_read map old new named.«module» text given w e) h;
        by = unless sink_old sink_new before after (unread_answer named.second) status ends (due_by_second named.work tables (map named.second)) (unread_due tables v);
      })
  there_due given e before after sink_old sink_new status answer (second_read text tables octets _ w h v by) ends =
      let H : List ℕ → Type 0 = λ o. HasTables o tables in
      inr (record {
        tables = tables;
        has = subst H (same_read map old new named.«module» text given w e) h;
        by = unless sink_old sink_new before after answer status ends (due_by_second named.work tables (map named.second)) (read_due tables tables octets answer refl v by);
      })

-- ---- which files were asked for

-- both, where the second file was read and is answered
pub two_files_asked : (named : TwoFiles) (read : TwoFilesRead) (tables : Tables) (octets given : List ℕ) (before after : Option (List (List ℕ))) (answer : Answer) → read ≡ Whole tables octets
    → TwoFilesAskedFor named before after read → SecondBy named.work tables given answer → TwoFilesAsked named before after answer.status
two_files_asked named read tables octets given before after answer e asked by =
    let P : TwoFilesRead → Type 0 = λ x. TwoFilesAskedFor named before after x in
    asked_both named tables given before after answer (case_of named.work tables given answer by) (subst P e asked)
