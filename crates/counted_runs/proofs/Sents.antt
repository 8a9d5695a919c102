-- The messages that an end sent on this connection, each with the size of its packets.
use Rattle.std.proofs.Common.{◌≡◌, refl, sym, ap, ◌∙◌, ℕ, true, false, List, [], ◌∷◌, ◌++◌, map}
use Rattle.std.specs.Prelude.{Bool, if◌then◌else◌}
use Rattle.osi_base.specs.declared.layer_words.Side.{Side}
use Rattle.stub_tables.specs.declared.tables.Tables.{Tables}
use Rattle.end_rules.specs.Base.{Base}
use Rattle.end_rules.specs.Messages.{Message}
use Rattle.end_rules.specs.History.{Step, History, took, broke}
use Rattle.end_rules.specs.World.{World, Ends, base_at, history_of, is_side}
use Rattle.association_worlds.specs.association_wire.Written.{written}
use Rattle.osi_base.specs.Limits.{IsUnitSize}
use Rattle.association_worlds.specs.InTransit.{AreCarried, SentMessage, text_of, messages_of, AreWritten}
use Rattle.association_worlds.proofs.Kept.{map-append}
use Rattle.run_laws.specs.Passing.{PairedMessage, sent_in, at_sending, on_connection, sendings}
use Rattle.association_runs.specs.association_line.Line.{End, after, end_of}
use Rattle.association_runs.specs.Worlds.{end_at}
use Rattle.association_runs.specs.Octets as octets
use Rattle.association_runs.proofs.Lines.{first-fits, size-fits}
use Rattle.association_runs.proofs.Moments.{messages_in}
use Rattle.counted_runs.proofs.Counts.{texts_of}

abbrev pub sized : ℕ → List Message → List SentMessage
sized size ms = map (λ (m : Message). record { message = m; size = size }) ms

abbrev pub sents_at : Ends → Side → World → List SentMessage
sents_at ends side [] = []
sents_at ends side (m ∷ w) =
    on_connection m.step
    (if is_side side m.side
    then sents_at ends side w ++ sized (end_at ends side w).line.size (sent_in m.step)
    else sents_at ends side w)

-- ---- two lists side by side

together : {X Y : Type 0} (R : List X → List Y → Type 0) (x : Step) (xs : List X) (ys : List Y) → R [] [] → R xs ys → R (on_connection x xs) (on_connection x ys)
together R broke xs ys n h = n
together R _ xs ys n h = h

chosen : {X Y : Type 0} (R : List X → List Y → Type 0) (b : Bool) (us vs : List X) (ys zs : List Y) → R us ys → R vs zs → R (if b then us else vs) (if b then ys else zs)
chosen R true us vs ys zs h k = h
chosen R false us vs ys zs h k = k

-- ---- their texts

sized-texts : (tables : Tables) (size : ℕ) (ms : List Message) → map (written tables size) ms ≡ texts_of tables (sized size ms)
sized-texts tables size [] = refl
sized-texts tables size (m ∷ ms) = ap (λ (l : List (List ℕ)). written tables size m ∷ l) (sized-texts tables size ms)

pub texts-are : (ends : Ends) (side : Side) (w : World) → octets.texts ends side w ≡ texts_of (base_at ends side).tables (sents_at ends side w)
texts-are ends side [] = refl
texts-are ends side (m ∷ w) =
    let tables : Tables = (base_at ends side).tables in
    let size : ℕ = (end_at ends side w).line.size in
    let more : octets.texts ends side w ++ map (written tables size) (sent_in m.step) ≡ texts_of tables (sents_at ends side w ++ sized size (sent_in m.step)) =
    (λ i. texts-are ends side w i ++ sized-texts tables size (sent_in m.step) i) ∙ sym (map-append (text_of tables) (sents_at ends side w) (sized size (sent_in m.step))) in
    together (λ (ts : List (List ℕ)) (ss : List SentMessage). ts ≡ texts_of tables ss) m.step _ _ refl
    (chosen (λ (ts : List (List ℕ)) (ss : List SentMessage). ts ≡ texts_of tables ss) (is_side side m.side) _ _ _ _ more (texts-are ends side w))

-- ---- their messages

sized-messages : (ends : Ends) (w : World) (size : ℕ) (ms : List Message) → messages_of (sized size ms) ≡ messages_in (map (at_sending ends w) ms)
sized-messages ends w size [] = refl
sized-messages ends w size (m ∷ ms) = ap (λ (l : List Message). m ∷ l) (sized-messages ends w size ms)

pub messages-are : (ends : Ends) (side : Side) (w : World) → messages_of (sents_at ends side w) ≡ messages_in (sendings ends side w)
messages-are ends side [] = refl
messages-are ends side (m ∷ w) =
    let size : ℕ = (end_at ends side w).line.size in
    let more : messages_of (sents_at ends side w ++ sized size (sent_in m.step)) ≡ messages_in (sendings ends side w ++ map (at_sending ends w) (sent_in m.step)) =
    map-append (λ (s : SentMessage). s.message) (sents_at ends side w) (sized size (sent_in m.step))
    ∙ (λ i. messages-are ends side w i ++ sized-messages ends w size (sent_in m.step) i)
    ∙ sym (map-append (λ (p : PairedMessage). p.message) (sendings ends side w) (map (at_sending ends w) (sent_in m.step))) in
    together (λ (ss : List SentMessage) (ps : List PairedMessage). messages_of ss ≡ messages_in ps) m.step _ _ refl
    (chosen (λ (ss : List SentMessage) (ps : List PairedMessage). messages_of ss ≡ messages_in ps) (is_side side m.side) _ _ _ _ more (messages-are ends side w))

-- ---- their sizes

abbrev pub AreSized : List SentMessage → Type 0
AreSized [] = Unit {0}
AreSized (s ∷ sents) = IsUnitSize s.size × AreSized sents

sized-append : (xs ys : List SentMessage) → AreSized xs → AreSized ys → AreSized (xs ++ ys)
sized-append [] ys h k = k
sized-append (x ∷ xs) ys h k = (h.0, sized-append xs ys h.1 k)

sized-all : (size : ℕ) (ms : List Message) → IsUnitSize size → AreSized (sized size ms)
sized-all size [] z = tt
sized-all size (m ∷ ms) z = (z, sized-all size ms z)

step-size : (base : Base) (e : End) (x : Step) → IsUnitSize e.line.size → IsUnitSize (after base e x).line.size
step-size base e (took message) h = size-fits base e.line.size message h
step-size base e broke h = first-fits base.initiator
step-size base e _ h = h

pub size-always : (base : Base) (h : History) → IsUnitSize (end_of base h).line.size
size-always base [] = first-fits base.initiator
size-always base (x ∷ h) = step-size base (end_of base h) x (size-always base h)

pub sizes-are : (ends : Ends) (side : Side) (w : World) → AreSized (sents_at ends side w)
sizes-are ends side [] = tt
sizes-are ends side (m ∷ w) =
    let size : ℕ = (end_at ends side w).line.size in
    let more : AreSized (sents_at ends side w ++ sized size (sent_in m.step)) =
    sized-append (sents_at ends side w) (sized size (sent_in m.step)) (sizes-are ends side w) (sized-all size (sent_in m.step) (size-always (base_at ends side) (history_of side w))) in
    together (λ (ss ts : List SentMessage). AreSized ss) m.step _ (sents_at ends side w) tt
    (chosen (λ (ss ts : List SentMessage). AreSized ss) (is_side side m.side) _ _ (sents_at ends side w) (sents_at ends side w) more (sizes-are ends side w))

pub written-so : (tables : Tables) (sents : List SentMessage) → AreSized sents → AreCarried tables (messages_of sents) → AreWritten tables sents
written-so tables [] z h = tt
written-so tables (s ∷ sents) z h = (h.0, z.0, written-so tables sents z.1 h.1)
