-- What steps of one end add to what is sent, taken and shown.
use Rattle.std.proofs.Common.{◌≡◌, refl, ◌∙◌, sym, ap, subst, List, [], ◌∷◌, ◌++◌, map, append_assoc, None}
use Rattle.std.specs.Prelude.{Option, Some}
use Rattle.std.proofs.lemmas.List.{append-nil}
use Rattle.osi_base.specs.declared.layer_words.Side.TheVariants.{A, B}
use Rattle.end_model.specs.end_rules.Messages.{Message}
use Rattle.end_model.specs.end_rules.History.{Step, sent, answered, broke}
use Rattle.end_model.specs.end_rules.World.{World, Ends}
use Rattle.agreement.specs.Sets.{Role, other}
use Rattle.agreement.specs.Sets.Role.{Initiator, Responder}
use Rattle.end_model.specs.Sharing.{side_of}
use Rattle.run_laws.specs.Passing.{sent_in, PairedMessage, at_sending, on_connection, sendings, read_in, readings}
use Rattle.association_runs.specs.Worlds.{stepping}

-- ---- steps that are no break

abbrev pub IsOn : Step → Type 0
IsOn broke = ⊥
IsOn _ = Unit {0}

abbrev pub AreOn : List Step → Type 0
AreOn [] = Unit {0}
AreOn (x ∷ xs) = IsOn x × AreOn xs

pub on-append : (xs ys : List Step) → AreOn xs → AreOn ys → AreOn (xs ++ ys)
on-append [] ys h k = k
on-append (x ∷ xs) ys h k = (h.0, on-append xs ys h.1 k)

pub sents-on : (ms : List Message) → AreOn (map sent ms)
sents-on [] = tt
sents-on (m ∷ ms) = (tt, sents-on ms)

pub answers-on : (to : Message) (ms : List Message) → AreOn (map (answered to) ms)
answers-on to [] = tt
answers-on to (m ∷ ms) = (tt, answers-on to ms)

stays : {X : Type 0} (x : Step) (ys : List X) → IsOn x → on_connection x ys ≡ ys
stays broke ys h = absurd h
stays _ ys h = refl

-- ---- readings

abbrev pub all_read : List Step → List (Option PairedMessage)
all_read [] = []
all_read (x ∷ xs) = read_in x ++ all_read xs

pub own-readings : (role : Role) (w : World) (xs : List Step) → AreOn xs → readings (side_of role) (stepping (side_of role) w xs) ≡ readings (side_of role) w ++ all_read xs
own-readings role w [] h = sym (append-nil (readings (side_of role) w))
own-readings Initiator w (x ∷ xs) h =
    own-readings Initiator (record { side = A; step = x } ∷ w) xs h.1
    ∙ ap (λ (l : List (Option PairedMessage)). l ++ all_read xs) (stays x (readings A w ++ read_in x) h.0)
    ∙ append_assoc (readings A w) (read_in x) (all_read xs)
own-readings Responder w (x ∷ xs) h =
    own-readings Responder (record { side = B; step = x } ∷ w) xs h.1
    ∙ ap (λ (l : List (Option PairedMessage)). l ++ all_read xs) (stays x (readings B w ++ read_in x) h.0)
    ∙ append_assoc (readings B w) (read_in x) (all_read xs)

pub peer-readings : (role : Role) (w : World) (xs : List Step) → AreOn xs → readings (side_of (other role)) (stepping (side_of role) w xs) ≡ readings (side_of (other role)) w
peer-readings role w [] h = refl
peer-readings Initiator w (x ∷ xs) h = peer-readings Initiator (record { side = A; step = x } ∷ w) xs h.1 ∙ stays x (readings B w) h.0
peer-readings Responder w (x ∷ xs) h = peer-readings Responder (record { side = B; step = x } ∷ w) xs h.1 ∙ stays x (readings A w) h.0

-- ---- messages that are sent

abbrev pub all_sent_in : List Step → List Message
all_sent_in [] = []
all_sent_in (x ∷ xs) = sent_in x ++ all_sent_in xs

abbrev pub messages_in : List PairedMessage → List Message
messages_in passed = map (λ (p : PairedMessage). p.message) passed

messages-append : (xs ys : List PairedMessage) → messages_in (xs ++ ys) ≡ messages_in xs ++ messages_in ys
messages-append [] ys = refl
messages-append (x ∷ xs) ys = ap (λ (l : List Message). x.message ∷ l) (messages-append xs ys)

messages-at : (ends : Ends) (w : World) (ms : List Message) → messages_in (map (at_sending ends w) ms) ≡ ms
messages-at ends w [] = refl
messages-at ends w (m ∷ ms) = ap (λ (l : List Message). m ∷ l) (messages-at ends w ms)

one-sending : (ends : Ends) (w : World) (x : Step) (all : List PairedMessage) → IsOn x → messages_in (on_connection x (all ++ map (at_sending ends w) (sent_in x))) ≡ messages_in all ++ sent_in x
one-sending ends w x all h =
    ap messages_in (stays x (all ++ map (at_sending ends w) (sent_in x)) h) ∙ messages-append all (map (at_sending ends w) (sent_in x))
    ∙ ap (λ (l : List Message). messages_in all ++ l) (messages-at ends w (sent_in x))

pub own-sendings : (ends : Ends) (role : Role) (w : World) (xs : List Step) → AreOn xs → messages_in (sendings ends (side_of role) (stepping (side_of role) w xs)) ≡ messages_in (sendings ends (side_of role) w) ++ all_sent_in xs
own-sendings ends role w [] h = sym (append-nil (messages_in (sendings ends (side_of role) w)))
own-sendings ends Initiator w (x ∷ xs) h =
    own-sendings ends Initiator (record { side = A; step = x } ∷ w) xs h.1
    ∙ ap (λ (l : List Message). l ++ all_sent_in xs) (one-sending ends w x (sendings ends A w) h.0)
    ∙ append_assoc (messages_in (sendings ends A w)) (sent_in x) (all_sent_in xs)
own-sendings ends Responder w (x ∷ xs) h =
    own-sendings ends Responder (record { side = B; step = x } ∷ w) xs h.1
    ∙ ap (λ (l : List Message). l ++ all_sent_in xs) (one-sending ends w x (sendings ends B w) h.0)
    ∙ append_assoc (messages_in (sendings ends B w)) (sent_in x) (all_sent_in xs)

pub peer-sendings : (ends : Ends) (role : Role) (w : World) (xs : List Step) → AreOn xs → messages_in (sendings ends (side_of (other role)) (stepping (side_of role) w xs)) ≡ messages_in (sendings ends (side_of (other role)) w)
peer-sendings ends role w [] h = refl
peer-sendings ends Initiator w (x ∷ xs) h = peer-sendings ends Initiator (record { side = A; step = x } ∷ w) xs h.1 ∙ ap messages_in (stays x (sendings ends B w) h.0)
peer-sendings ends Responder w (x ∷ xs) h = peer-sendings ends Responder (record { side = B; step = x } ∷ w) xs h.1 ∙ ap messages_in (stays x (sendings ends A w) h.0)

pub sents-sent : (ms : List Message) → all_sent_in (map sent ms) ≡ ms
sents-sent [] = refl
sents-sent (m ∷ ms) = ap (λ (l : List Message). m ∷ l) (sents-sent ms)

pub answers-sent : (to : Message) (ms : List Message) → all_sent_in (map (answered to) ms) ≡ ms
answers-sent to [] = refl
answers-sent to (m ∷ ms) = ap (λ (l : List Message). m ∷ l) (answers-sent to ms)

pub sents-read : (ms : List Message) → all_read (map sent ms) ≡ []
sents-read [] = refl
sents-read (m ∷ ms) = sents-read ms

pub answers-read : (to : Message) (ms : List Message) → all_read (map (answered to) ms) ≡ []
answers-read to [] = refl
answers-read to (m ∷ ms) = answers-read to ms

-- ---- what an end read follows what the other sent, and the rest is on its way

abbrev pub Follows : List (Option PairedMessage) → List Message → List Message → Type 0
Follows [] all coming = all ≡ coming
Follows (reading ∷ more) [] coming = ⊥
Follows (None ∷ more) (m ∷ ms) coming = Follows more ms coming
Follows (Some reading ∷ more) (m ∷ ms) coming = (reading.message ≡ m) × Follows more ms coming

pub follows-sent : (rs : List (Option PairedMessage)) (all coming more : List Message) → Follows rs all coming → Follows rs (all ++ more) (coming ++ more)
follows-sent [] all coming more h = ap (λ (l : List Message). l ++ more) h
follows-sent (r ∷ rs) [] coming more h = absurd h
follows-sent (None ∷ rs) (m ∷ ms) coming more h = follows-sent rs ms coming more h
follows-sent (Some r ∷ rs) (m ∷ ms) coming more h = (h.0, follows-sent rs ms coming more h.1)

pub follows-none : (rs : List (Option PairedMessage)) (all coming left : List Message) (m : Message) → coming ≡ m ∷ left → Follows rs all coming → Follows (rs ++ None ∷ []) all left
follows-none [] all coming left m e h = subst (λ (l : List Message). Follows (None ∷ []) l left) (sym (h ∙ e)) refl
follows-none (r ∷ rs) [] coming left m e h = absurd h
follows-none (None ∷ rs) (x ∷ xs) coming left m e h = follows-none rs xs coming left m e h
follows-none (Some r ∷ rs) (x ∷ xs) coming left m e h = (h.0, follows-none rs xs coming left m e h.1)

pub follows-some : (rs : List (Option PairedMessage)) (all coming left : List Message) (m : Message) (p : PairedMessage) → coming ≡ m ∷ left → p.message ≡ m → Follows rs all coming → Follows (rs ++ Some p ∷ []) all left
follows-some [] all coming left m p e k h = subst (λ (l : List Message). Follows (Some p ∷ []) l left) (sym (h ∙ e)) (k, refl)
follows-some (r ∷ rs) [] coming left m p e k h = absurd h
follows-some (None ∷ rs) (x ∷ xs) coming left m p e k h = follows-some rs xs coming left m p e k h
follows-some (Some r ∷ rs) (x ∷ xs) coming left m p e k h = (h.0, follows-some rs xs coming left m p e k h.1)
