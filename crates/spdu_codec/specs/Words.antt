-- The word of a unit, from its parameters (X.225 8.3).
use Rattle.std.specs.Prelude.{ℕ, Bool, true, false, List, Option, Some, None, is_some, if◌then◌else◌}
use Rattle.osi_base.specs.declared.session_word.SessionWord.{SessionWord}
use Rattle.osi_base.specs.declared.session_word.SessionWord.TheVariants as words
use Rattle.spdu_codec.specs.declared.kind.SpduKind.{SpduKind}
use Rattle.spdu_codec.specs.declared.kind.SpduKind.TheVariants as kinds
use Rattle.spdu_codec.specs.declared.parameters.Parameters.{Parameters}

-- a parameter that must stand
abbrev pub needed : {X : Type 0} → Option X → (X → Option SessionWord) → Option SessionWord
needed None f = None
needed (Some x) f = f x

abbrev pub connect_word : Parameters → List ℕ → SessionWord
connect_word p user = words.Connect (record {
  calling_reference = p.calling_reference;
  common_reference = p.common_reference;
  options = p.options;
  version = p.version;
  initial = p.initial;
  token_setting = p.token_setting;
  requirements = p.requirements;
  calling = p.calling;
  called = p.called;
  user = user;
})

-- units of a connection's beginning and end
abbrev pub connection_word : SpduKind → Parameters → Option SessionWord
connection_word kinds.Connect p = needed p.user (λ user. Some (connect_word p user))
connection_word kinds.Accept p = needed p.user (λ user. Some (words.Accept p.options p.version p.initial p.requirements user))
connection_word kinds.Refuse p = Some (words.Refuse p.transport p.reason p.user)
connection_word kinds.Finish p = needed p.user (λ user. Some (words.Finish p.transport user))
connection_word kinds.Disconnect p = needed p.user (λ user. Some (words.Disconnect user))
connection_word kinds.Abort p = Some (words.Abort p.transport p.user)
connection_word kinds.AbortAccept p = Some words.AbortAccept
connection_word _ p = None

-- units of tokens, of which GT and PT have a token item where they stand alone
abbrev pub token_word : SpduKind → Bool → Parameters → Option SessionWord
token_word kinds.GiveTokens true p = needed p.tokens (λ tokens. Some (words.GiveTokens (Some tokens)))
token_word kinds.GiveTokens false p = Some (words.GiveTokens p.tokens)
token_word kinds.PleaseTokens true p = needed p.tokens (λ tokens. Some (words.PleaseTokens (Some tokens) p.user))
token_word kinds.PleaseTokens false p = Some (words.PleaseTokens p.tokens p.user)
token_word kinds.GiveTokensConfirm alone p = Some words.GiveTokensConfirm
token_word kinds.GiveTokensAck alone p = Some words.GiveTokensAck
token_word _ alone p = None

-- units of marks and restarts
abbrev pub mark_word : SpduKind → Parameters → Option SessionWord
mark_word kinds.Mark p = needed p.number (λ number. Some (words.Mark number))
mark_word kinds.MarkAck p = needed p.number (λ number. Some (words.MarkAck number))
mark_word kinds.Resynchronize p = if p.resync then needed p.number (λ number. Some (words.Resynchronize number p.user)) else None
mark_word kinds.ResynchronizeAck p = needed p.number (λ number. Some (words.ResynchronizeAck number p.user))
mark_word kinds.ActivityEnd p = needed p.number (λ number. Some (words.ActivityEnd number))
mark_word kinds.ActivityEndAck p = needed p.number (λ number. Some (words.ActivityEndAck number))
mark_word _ p = None

-- units of activities
abbrev pub activity_word : SpduKind → Parameters → Option SessionWord
activity_word kinds.ActivityStart p = needed p.activity (λ activity. Some (words.ActivityStart activity))
activity_word kinds.ActivityResume p =
    needed p.activity (λ activity. needed p.old_mark (λ mark. if is_some p.old_activity then Some (words.ActivityResume activity mark) else None))
activity_word kinds.ActivityInterrupt p = Some (words.ActivityInterrupt p.reason)
activity_word kinds.ActivityInterruptAck p = Some words.ActivityInterruptAck
activity_word kinds.ActivityDiscard p = Some (words.ActivityDiscard p.reason)
activity_word kinds.ActivityDiscardAck p = Some words.ActivityDiscardAck
activity_word _ p = None

-- The word, where all parameters that must stand are there. Behind DT and TD user information follows.
abbrev pub word_of : SpduKind → Bool → Parameters → List ℕ → Option SessionWord
word_of kinds.TypedData alone p behind = Some (words.TypedData behind)
word_of kinds.Data alone p behind = Some (words.Data behind)
word_of kinds.GiveTokens alone p behind = token_word kinds.GiveTokens alone p
word_of kinds.PleaseTokens alone p behind = token_word kinds.PleaseTokens alone p
word_of kinds.GiveTokensConfirm alone p behind = token_word kinds.GiveTokensConfirm alone p
word_of kinds.GiveTokensAck alone p behind = token_word kinds.GiveTokensAck alone p
word_of kinds.Connect alone p behind = connection_word kinds.Connect p
word_of kinds.Accept alone p behind = connection_word kinds.Accept p
word_of kinds.Refuse alone p behind = connection_word kinds.Refuse p
word_of kinds.Finish alone p behind = connection_word kinds.Finish p
word_of kinds.Disconnect alone p behind = connection_word kinds.Disconnect p
word_of kinds.Abort alone p behind = connection_word kinds.Abort p
word_of kinds.AbortAccept alone p behind = connection_word kinds.AbortAccept p
word_of kinds.Mark alone p behind = mark_word kinds.Mark p
word_of kinds.MarkAck alone p behind = mark_word kinds.MarkAck p
word_of kinds.Resynchronize alone p behind = mark_word kinds.Resynchronize p
word_of kinds.ResynchronizeAck alone p behind = mark_word kinds.ResynchronizeAck p
word_of kinds.ActivityEnd alone p behind = mark_word kinds.ActivityEnd p
word_of kinds.ActivityEndAck alone p behind = mark_word kinds.ActivityEndAck p
word_of kinds.ActivityStart alone p behind = activity_word kinds.ActivityStart p
word_of kinds.ActivityResume alone p behind = activity_word kinds.ActivityResume p
word_of kinds.ActivityInterrupt alone p behind = activity_word kinds.ActivityInterrupt p
word_of kinds.ActivityInterruptAck alone p behind = activity_word kinds.ActivityInterruptAck p
word_of kinds.ActivityDiscard alone p behind = activity_word kinds.ActivityDiscard p
word_of kinds.ActivityDiscardAck alone p behind = activity_word kinds.ActivityDiscardAck p

-- all octets behind the unit are its user information
abbrev pub has_information : SpduKind → Bool
has_information kinds.TypedData = true
has_information kinds.Data = true
has_information _ = false

-- another unit may follow this one
abbrev pub leads : SpduKind → Bool
leads kinds.GiveTokens = true
leads kinds.PleaseTokens = true
leads _ = false
