-- What a check is answered, from what its steps say.
use Rattle.std.proofs.Common.{ℕ, ◌≡◌, Bool, List, Option, None, Some, sym, subst}
use Rattle.osi_base.specs.Outside.{FileMap}
use Rattle.module_check.specs.Command.{Check}
use Rattle.module_check.specs.Checking.{IsChecked}
use Rattle.module_check.specs.declared.checking.Checked.{Checked}
use Rattle.osi_commands.specs.declared.answers.Answer.{Answer}
use Rattle.osi_commands.specs.Answers.{unread_answer}
use Rattle.osi_commands.specs.Reading.{WasRead}
use Rattle.osi_commands.specs.Checking.{checked_answer, ChecksOctets, Checks, unread, read}

pub checks_octets : (table : Bool) (octets : List ℕ) (written : Checked) (answer : Answer) → IsChecked table octets written → answer ≡ checked_answer written
    → ChecksOctets table octets answer
checks_octets table octets written answer is a = record { written = written; is = is; answer_is = a }

pub checks_unread : (told : Option FileMap) (old new : ℕ) (check : Check) (answer : Answer) → WasRead told old new check.«module» None → answer ≡ unread_answer check.«module»
    → Checks told old new check answer
checks_unread told old new check answer w a = let P : Answer → Type 0 = λ x. Checks told old new check x in subst P (sym a) (unread w)

pub checks_read : (told : Option FileMap) (old new : ℕ) (check : Check) (found : Option (List ℕ)) (octets given : List ℕ) (answer : Answer) → WasRead told old new check.«module» found
    → found ≡ Some octets → given ≡ octets → ChecksOctets check.table given answer → Checks told old new check answer
checks_read told old new check found octets given answer w s e h =
    let W : Option (List ℕ) → Type 0 = λ x. WasRead told old new check.«module» x in
    let P : List ℕ → Type 0 = λ o. ChecksOctets check.table o answer in read octets answer (subst W s w) (subst P e h)
