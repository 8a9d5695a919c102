-- The names of session units (X.225 8.3), units of the presentation protocol (X.226 8) and faults in a trace.
use Rattle.std.specs.Prelude.{ℕ, List, [], ◌++◌, codes, decimal}
use Rattle.osi_base.specs.declared.layer_words.Kind.{Kind}
use Rattle.osi_base.specs.Printed.{kind_word}
use Rattle.osi_base.specs.declared.layer_words.Side.{Side}
use Rattle.osi_base.specs.declared.layer_words.Side.TheVariants.{A, B}
use Rattle.osi_base.specs.declared.session_word.SessionWord.{SessionWord}
use Rattle.osi_base.specs.declared.session_word.SessionWord.TheVariants as words
use Rattle.osi_base.specs.declared.presentation_word.PresentationWord as units
use Rattle.osi_base.specs.declared.presentation_word.PresentationWord.TheVariants as unit

-- the direction of what an end sent
abbrev pub direction_word : Side → List ℕ
direction_word A = codes "A>B"
direction_word B = codes "B>A"

-- a field that breaks the grammar of its layer, at this place
abbrev pub fault_text : List ℕ → ℕ → Kind → List ℕ
fault_text layer place kind = codes "fault " ++ layer ++ codes " " ++ decimal place ++ codes " " ++ kind_word kind

abbrev pub spdu_name : SessionWord → List ℕ
spdu_name (words.Connect c) = codes "CN"
spdu_name (words.Accept options version initial requirements user) = codes "AC"
spdu_name (words.Refuse transport reason user) = codes "RF"
spdu_name (words.Finish transport user) = codes "FN"
spdu_name (words.Disconnect user) = codes "DN"
spdu_name (words.Abort transport user) = codes "AB"
spdu_name words.AbortAccept = codes "AA"
spdu_name (words.GiveTokens tokens) = codes "GT"
spdu_name (words.PleaseTokens tokens user) = codes "PT"
spdu_name words.GiveTokensConfirm = codes "GTC"
spdu_name words.GiveTokensAck = codes "GTA"
spdu_name (words.TypedData user) = codes "TD"
spdu_name (words.Data user) = codes "DT"
spdu_name (words.Mark number) = codes "MIP"
spdu_name (words.MarkAck number) = codes "MIA"
spdu_name (words.Resynchronize number user) = codes "RS"
spdu_name (words.ResynchronizeAck number user) = codes "RA"
spdu_name (words.ActivityStart activity) = codes "AS"
spdu_name (words.ActivityResume activity mark) = codes "AR"
spdu_name (words.ActivityInterrupt reason) = codes "AI"
spdu_name words.ActivityInterruptAck = codes "AIA"
spdu_name (words.ActivityDiscard reason) = codes "AD"
spdu_name words.ActivityDiscardAck = codes "ADA"
spdu_name (words.ActivityEnd number) = codes "AE"
spdu_name (words.ActivityEndAck number) = codes "AEA"

-- behind a space; plain user data have no name
abbrev pub ppdu_name : units.PresentationWord → List ℕ
ppdu_name (unit.Connect c) = codes " CP"
ppdu_name (unit.Accept a) = codes " CPA"
ppdu_name (unit.Reject r) = codes " CPR"
ppdu_name (unit.Alter add delete) = codes " AC"
ppdu_name (unit.AlterAck answers) = codes " ACA"
ppdu_name (unit.Resynchronize restored) = codes " RS"
ppdu_name (unit.ResynchronizeAck restored) = codes " RSA"
ppdu_name (unit.UserAbort contexts user) = codes " ARU"
ppdu_name (unit.ProviderAbort reason event) = codes " ARP"
ppdu_name (unit.Data user) = []
