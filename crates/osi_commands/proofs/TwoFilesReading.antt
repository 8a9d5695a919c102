-- What comes of reading a module and a second file, from what its steps say.
use Rattle.std.proofs.Common.{ℕ, ◌≡◌, List, Option, None, Some, sym, ap, subst, inl, inr, ◌∙◌}
use Rattle.osi_base.specs.Outside.{FileMap, logged}
use Rattle.stub_tables.specs.declared.tables.Tables.{Tables}
use Rattle.packed_codec.specs.Laws.{HasNoAny}
use Rattle.module_reading.specs.declared.fault.ModuleKind.{ModuleKind}
use Rattle.module_reading.specs.declared.fault.ModuleFault.TheVariants as faults
use Rattle.module_reading.specs.Modules.{HasTables, IsRefused}
use Rattle.osi_commands.specs.declared.answers.Answer.{Answer}
use Rattle.osi_commands.specs.declared.reading.TwoFilesRead.{TwoFilesRead}
use Rattle.osi_commands.specs.declared.reading.TwoFilesRead.TheVariants.{Answered, Whole}
use Rattle.osi_commands.specs.Commands.{TwoFiles}
use Rattle.osi_commands.specs.Answers.{unread_answer, module_answer}
use Rattle.osi_commands.specs.Reading.{WasRead, KeepsCountAt, MayAsk, ReadsSecond, no_second, second, ReadsTwoFiles, no_module, refused, has_tables, IsTyped, AsksTwoFiles, TwoFilesAskedFor}

-- ---- the second file

pub second_none : (tables : Tables) (told : Option FileMap) (old new : ℕ) (name : List ℕ) (answer : Answer) → WasRead told old new name None → answer ≡ unread_answer name
    → ReadsSecond tables told old new name (Answered answer)
second_none tables told old new name answer w a =
    let P : Answer → Type 0 = λ x. ReadsSecond tables told old new name (Answered x) in subst P (sym a) (no_second w)

pub second_some : (tables : Tables) (told : Option FileMap) (old new : ℕ) (name octets : List ℕ) → WasRead told old new name (Some octets)
    → ReadsSecond tables told old new name (Whole tables octets)
second_some tables told old new name octets w = second octets w

-- ---- the module

pub module_none : (told : Option FileMap) (old new : ℕ) (named : TwoFiles) (answer : Answer) → WasRead told old new named.«module» None → answer ≡ unread_answer named.«module»
    → ReadsTwoFiles told old new named (Answered answer)
module_none told old new named answer w a = let P : Answer → Type 0 = λ x. ReadsTwoFiles told old new named (Answered x) in subst P (sym a) (no_module w)

pub module_refused : (told : Option FileMap) (old new : ℕ) (named : TwoFiles) (found : Option (List ℕ)) (text given : List ℕ) (line column : ℕ) (kind : ModuleKind) (answer : Answer)
    → WasRead told old new named.«module» found → found ≡ Some text → given ≡ text → IsRefused given (faults.At line column kind) → answer ≡ module_answer line column kind
    → ReadsTwoFiles told old new named (Answered answer)
module_refused told old new named found text given line column kind answer w s e r a =
    let W : Option (List ℕ) → Type 0 = λ x. WasRead told old new named.«module» x in
    let P : Answer → Type 0 = λ x. ReadsTwoFiles told old new named (Answered x) in
    let Q : List ℕ → Type 0 = λ o. IsRefused o (faults.At line column kind) in subst P (sym a) (refused text line column kind (subst W s w) (subst Q e r))

-- the second file was read where the first one had left the files as they were
pub module_found : (told later : Option FileMap) (old mid new : ℕ) (named : TwoFiles) (found : Option (List ℕ)) (text given : List ℕ) (tables : Tables) (read : TwoFilesRead)
    → WasRead told old mid named.«module» found → found ≡ Some text → KeepsCountAt old mid found → later ≡ told → given ≡ text → HasTables given tables
    → ReadsSecond tables later mid new named.second read → ReadsTwoFiles told old new named read
module_found told later old mid new named found text given tables read w s k e g h t =
    let P : Option (List ℕ) → Type 0 = λ x. WasRead told old mid named.«module» x in
    let K : Option (List ℕ) → Type 0 = λ x. KeepsCountAt old mid x in
    let calm : mid ≡ old = subst K s k in
    let W : ℕ → Type 0 = λ n. WasRead told old n named.«module» (Some text) in
    let H : List ℕ → Type 0 = λ o. HasTables o tables in
    let M : Option FileMap → Type 0 = λ m. ReadsSecond tables m mid new named.second read in
    let N : ℕ → Type 0 = λ n. ReadsSecond tables told n new named.second read in
    has_tables text tables read (subst P s w) (subst H g h) (subst N calm (subst M e t))

-- ---- which files are asked for

-- the second file may be asked for behind a module that has tables
pub asks_second : (told : Option FileMap) (old mid new : ℕ) (named : TwoFiles) (found : Option (List ℕ)) (text given : List ℕ) (tables : Tables) (before middle after : Option (List (List ℕ)))
    → WasRead told old mid named.«module» found → found ≡ Some text → given ≡ text → HasTables given tables → middle ≡ logged named.«module» before
    → MayAsk named.second middle after → AsksTwoFiles told old new named before after
asks_second told old mid new named found text given tables before middle after w s e h first (inl same) = inl (inr (same ∙ first))
asks_second told old mid new named found text given tables before middle after w s e h first (inr more) =
    let P : Option (List ℕ) → Type 0 = λ x. WasRead told old mid named.«module» x in
    let R : List ℕ → Type 0 = λ o. HasTables o tables in
    inr ((text, subst P s w, (tables, subst R e h)), more ∙ ap (λ (m : Option (List (List ℕ))). logged named.second m) first)

-- both files were asked for
both_asked : (named : TwoFiles) (tables : Tables) (told : Option FileMap) (old new : ℕ) (read : TwoFilesRead) (before after : Option (List (List ℕ)))
    → ReadsSecond tables told old new named.second read → after ≡ logged named.second (logged named.«module» before) → TwoFilesAskedFor named before after read
both_asked named tables told old new _ before after (no_second w) both = inr both
both_asked named tables told old new _ before after (second octets w) both = both

pub second_asked : (named : TwoFiles) (tables : Tables) (told : Option FileMap) (old new : ℕ) (read : TwoFilesRead) (before middle after : Option (List (List ℕ)))
    → ReadsSecond tables told old new named.second read → middle ≡ logged named.«module» before → after ≡ logged named.second middle → TwoFilesAskedFor named before after read
second_asked named tables told old new read before middle after t first last =
    both_asked named tables told old new read before after t (last ∙ ap (λ (m : Option (List (List ℕ))). logged named.second m) first)

-- ---- the types of a module

-- what was read whole has no type that is any type
pub typed_whole : (read : TwoFilesRead) (tables : Tables) (octets : List ℕ) → read ≡ Whole tables octets → IsTyped read → HasNoAny tables.types
typed_whole read tables octets is typed = subst (λ (r : TwoFilesRead). IsTyped r) is typed
