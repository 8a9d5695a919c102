-- Messages that are sent wait behind what waited.
use Rattle.std.proofs.Common.{◌≡◌, ℕ, List, [], ◌∷◌, ◌++◌, map, sym, ap, ◌∙◌, append_assoc}
use Rattle.std.proofs.lemmas.List.{append-nil}
use Rattle.end_rules.specs.Base.{Base}
use Rattle.end_rules.specs.Messages.{Message, Transport, Session, TransportUnit, ConnectionRequest, ConnectionConfirm, DisconnectRequest, TransportError}
use Rattle.end_rules.specs.History.{sent, answered, aborted}
use Rattle.association_writing.specs.association_wire.Written.{written}
use Rattle.association_writing.specs.Room.{MayStand}
use Rattle.association_line.specs.Line.{End, Line, after, after_all, writes}
use Rattle.association_line.specs.Reactions.{IsAnswer, AreAnswers}
use Rattle.association_end.specs.View.{EndView}
use Rattle.association_end.specs.OneMessage.{all_written, AllMayStand, with_line, sending}

-- what waits with these messages behind it
abbrev pub waiting_with : Base → List Message → Line → Line
waiting_with b messages line = record line { waiting = line.waiting ++ all_written b.tables line.size messages }

one_more : (b : Base) (x : Message) (xs : List Message) (line : Line) → waiting_with b xs (writes b x line) ≡ waiting_with b (x ∷ xs) line
one_more b x xs line = ap (λ (w : List ℕ). record line { waiting = w }) (append_assoc line.waiting (written b.tables line.size x) (all_written b.tables line.size xs))

no_more : (b : Base) (line : Line) → waiting_with b [] line ≡ line
no_more b line = ap (λ (w : List ℕ). record line { waiting = w }) (append-nil line.waiting)

-- answers and aborts change the line alone
pub answered_all : (b : Base) (e : End) (m : Message) (xs : List Message) → after_all b e (map (answered m) xs) ≡ record e { line = waiting_with b xs e.line }
answered_all b e m [] = ap (λ (l : Line). record e { line = l }) (sym (no_more b e.line))
answered_all b e m (x ∷ xs) = answered_all b (after b e (answered m x)) m xs ∙ ap (λ (l : Line). record e { line = l }) (one_more b x xs e.line)

pub aborted_all : (b : Base) (e : End) (xs : List Message) → after_all b e (map aborted xs) ≡ record e { line = waiting_with b xs e.line }
aborted_all b e [] = ap (λ (l : Line). record e { line = l }) (sym (no_more b e.line))
aborted_all b e (x ∷ xs) = aborted_all b (after b e (aborted x)) xs ∙ ap (λ (l : Line). record e { line = l }) (one_more b x xs e.line)

pub sent_line : (b : Base) (e : End) (xs : List Message) → (after_all b e (map sent xs)).line ≡ waiting_with b xs e.line
sent_line b e [] = sym (no_more b e.line)
sent_line b e (x ∷ xs) = sent_line b (after b e (sent x)) xs ∙ one_more b x xs e.line

-- ---- what may be written

answer_stands : (unit : TransportUnit) → IsAnswer (Transport unit) → MayStand (Transport unit)
answer_stands (ConnectionRequest source size calling called) a = absurd a
answer_stands (ConnectionConfirm destination size) a = tt
answer_stands (DisconnectRequest destination) a = tt
answer_stands TransportError a = tt

pub answers_stand : (messages : List Message) → AreAnswers messages → AllMayStand messages
answers_stand [] a = tt
answers_stand (Transport unit ∷ messages) a = (answer_stands unit a.0, answers_stand messages a.1)
answers_stand (Session word ∷ messages) a = (tt, answers_stand messages a.1)

-- ---- as the code comes by them

module _ (e : EndView) where
  abbrev with_waiting : List ℕ → EndView
  with_waiting waiting = with_line (record e.end.line { waiting = waiting }) e

  pub sent_all : (messages : List Message) (waiting text octets : List ℕ) → waiting ≡ e.end.line.waiting ++ text → text ≡ octets → octets ≡ all_written e.tables e.end.line.size messages → with_waiting waiting ≡ sending messages e
  sent_all messages waiting text octets w t o = ap with_waiting (w ∙ ap (λ (x : List ℕ). e.end.line.waiting ++ x) (t ∙ o))

  pub sent_one : (message : Message) (waiting text octets : List ℕ) → waiting ≡ e.end.line.waiting ++ text → text ≡ octets → octets ≡ written e.tables e.end.line.size message → with_waiting waiting ≡ sending (message ∷ []) e
  sent_one message waiting text octets w t o = sent_all (message ∷ []) waiting text octets w t (o ∙ sym (append-nil (written e.tables e.end.line.size message)))

  pub sent_none : (waiting : List ℕ) → waiting ≡ e.end.line.waiting → with_waiting waiting ≡ e
  sent_none waiting w = ap with_waiting w

-- nothing was sent
pub sent_nothing : (e : EndView) → e ≡ sending [] e
sent_nothing e = ap (λ (w : List ℕ). with_line (record e.end.line { waiting = w }) e) (sym (append-nil e.end.line.waiting))
