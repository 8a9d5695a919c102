-- What is sent may be written.
use Rattle.std.proofs.Common.{Bool, true, false, if◌then◌else◌, [], ◌∷◌, Some, None, refl, lit<}
use Rattle.std.proofs.lemmas.Bool.{and_parts}
use Rattle.osi_base.specs.declared.session_word.SessionWord.{SessionWord}
use Rattle.osi_base.specs.declared.session_word.SessionWord.TheVariants.{Connect, Accept, Refuse, Finish, Disconnect, Abort, AbortAccept, GiveTokens, PleaseTokens, GiveTokensConfirm, GiveTokensAck, TypedData, Data, Mark, MarkAck, Resynchronize, ResynchronizeAck, ActivityStart, ActivityResume, ActivityInterrupt, ActivityInterruptAck, ActivityDiscard, ActivityDiscardAck, ActivityEnd, ActivityEndAck}
use Rattle.spdu_codec.specs.Written.{Fits}
use Rattle.session_subset.specs.Laws.{IsNoneOrWritable, SentIsWritable}

empty-give-fits : Fits (GiveTokens None)
empty-give-fits = record { fields = tt; size = lit< tt }

abort-writable : (met : Bool) (word : SessionWord) → IsNoneOrWritable (word ∷ []) → IsNoneOrWritable (if met then word ∷ [] else [])
abort-writable true word w = w
abort-writable false word w = tt

pub sent_is_writable : SentIsWritable
sent_is_writable role state (Connect connect) fits may = (refl, fits)
sent_is_writable role state (Accept options version initial requirements user) fits may = (refl, fits)
sent_is_writable role state (Refuse transport reason user) fits may = (refl, fits)
sent_is_writable role state (Finish transport user) fits may = (refl, fits)
sent_is_writable role state (Disconnect user) fits may = (refl, fits)
sent_is_writable role state (Abort transport user) fits may = abort-writable state.met (Abort transport user) (refl, fits)
sent_is_writable role state AbortAccept fits may = (refl, fits)
sent_is_writable role state (GiveTokens None) fits may = ((and_parts _ _ may).1, fits)
sent_is_writable role state (GiveTokens (Some tokens)) fits may = (refl, fits)
sent_is_writable role state (PleaseTokens None user) fits may = ((and_parts _ _ may).1, fits)
sent_is_writable role state (PleaseTokens (Some tokens) user) fits may = (refl, fits)
sent_is_writable role state GiveTokensConfirm fits may = (refl, fits)
sent_is_writable role state GiveTokensAck fits may = (refl, fits)
sent_is_writable role state (TypedData user) fits may = (refl, fits)
sent_is_writable role state (Data user) fits may = (refl, empty-give-fits, refl, fits)
sent_is_writable role state (Mark number) fits may = (refl, empty-give-fits, refl, fits)
sent_is_writable role state (MarkAck number) fits may = (refl, empty-give-fits, refl, fits)
sent_is_writable role state (Resynchronize number user) fits may = (refl, empty-give-fits, refl, fits)
sent_is_writable role state (ResynchronizeAck number user) fits may = (refl, empty-give-fits, refl, fits)
sent_is_writable role state (ActivityStart activity) fits may = (refl, empty-give-fits, refl, fits)
sent_is_writable role state (ActivityResume activity mark) fits may = (refl, empty-give-fits, refl, fits)
sent_is_writable role state (ActivityInterrupt reason) fits may = (refl, empty-give-fits, refl, fits)
sent_is_writable role state ActivityInterruptAck fits may = (refl, empty-give-fits, refl, fits)
sent_is_writable role state (ActivityDiscard reason) fits may = (refl, empty-give-fits, refl, fits)
sent_is_writable role state ActivityDiscardAck fits may = (refl, empty-give-fits, refl, fits)
sent_is_writable role state (ActivityEnd number) fits may = (refl, empty-give-fits, refl, fits)
sent_is_writable role state (ActivityEndAck number) fits may = (refl, empty-give-fits, refl, fits)
