-- The end of a process.
use Rattle.std.proofs.Common.{ℕ, ◌≡◌, List, Option, None, Some, refl, subst, inl}
use Rattle.osi_base.specs.Outside.{FileMap}
use Rattle.osi_base.specs.declared.layer_words.Status.{Status}
use Rattle.osi_base.specs.declared.layer_words.Status.TheVariants.{NoMemory}
use Rattle.osi_commands.specs.Answers.{Closes, no_room}
use Rattle.osi_commands.specs.Commands.{Command, checks, two_files, command_of}
use Rattle.osi_commands.specs.TopCall.{IsAnswer, AskedAtEnd}
use Rattle.osi_commands.specs.Process.{Exits}
use Rattle.osi_commands.specs.Statuses.{exit_code}

-- no file was asked for, and memory was refused
none_asked : (command : Option Command) (names : Option (List (List ℕ))) → AskedAtEnd command names names NoMemory
none_asked None names = refl
none_asked (Some (checks check)) names = inl refl
none_asked (Some (two_files named)) names = inl refl

-- the top call ran with the words that were given
pub exits_read : (told : Option FileMap) (old new : ℕ) (words given : List (List ℕ)) (first last : Option (List (List ℕ))) (sink_old sink_new : ℕ) (before after : Option (List ℕ)) (status : Status) (code : ℕ)
    → words ≡ given → Closes (IsAnswer told old new (command_of words)) old new sink_old sink_new before after status → AskedAtEnd (command_of words) first last status → code ≡ exit_code status
    → Exits told old new given first last sink_old sink_new before after code
exits_read told old new words given first last sink_old sink_new before after status code same closes asked is =
    let C : List (List ℕ) → Type 0 = λ w. Closes (IsAnswer told old new (command_of w)) old new sink_old sink_new before after status in
    let A : List (List ℕ) → Type 0 = λ w. AskedAtEnd (command_of w) first last status in
    record { status = status; closes = subst C same closes; asked = subst A same asked; code_is = is }

-- memory was refused for the words
pub exits_unread : (told : Option FileMap) (old : ℕ) (given : List (List ℕ)) (names : Option (List (List ℕ))) (sink_old : ℕ) (before : Option (List ℕ)) (code : ℕ)
    → code ≡ exit_code NoMemory → Exits told old old given names names sink_old sink_old before before code
exits_unread told old given names sink_old before code is =
    record { status = NoMemory; closes = no_room refl refl refl; asked = none_asked (command_of given) names; code_is = is }
