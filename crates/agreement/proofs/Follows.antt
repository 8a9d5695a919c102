-- Reliable mode: what the end that follows takes.
use Rattle.std.proofs.Common.{◌≡◌, ℕ, suc, ◌≤◌, true, false, List, [], ◌∷◌, ◌++◌, refl, sym, ap, ◌∙◌, arith, true≢false, subst, inl, inr, ◌⊎◌, append_assoc}
use Rattle.std.specs.Prelude.{Option, Some, None}
use Rattle.agreement.specs.Sets.{Role, ContextSet, Item, Result, altered}
use Rattle.agreement.specs.Messages.{ModelSetup, Message}
use Rattle.agreement.specs.Messages.Message.{Alter, AlterAnswer, Mark, MarkAnswer, Start, Resume, Chunk, End, EndAnswer, Interrupt, InterruptAnswer, Discard, DiscardAnswer, GiveAnswer, Please, Release, UserAbort}
use Rattle.agreement.specs.State.{Awaited, Piece, Progress, Transfer, Incoming, Sets, highest}
use Rattle.agreement.specs.State.Awaited.{NoAnswer, RestartOf, InterruptOf, DiscardOf, ReleaseOf}
use Rattle.agreement.specs.State.Piece.{Octets, Marked}
use Rattle.agreement.specs.State.Progress.{Running, Ending, Suspended}
use Rattle.agreement.specs.Takings.{altered_first, later}
use Rattle.agreement.proofs.Flights.{rejections, rejections-fit}
use Rattle.agreement.proofs.Pieces.{Agrees, up_to-octets, up_to-mark}
use Rattle.agreement.proofs.Down.{Follower, IsQuiet, AllQuiet, Down, down-quiet}
use Rattle.agreement.proofs.Flow.{Leader, PairedIn, Rest, RestBy, RestIn, Acks, pieces_of_transfer, Waits, has_final, unanswered_in, held_after, SharedBy, ups-no_final, unanswered-append}
use Rattle.agreement.proofs.Flow.Doing.{Resting}

pub final-more : (up more : List Message) → has_final (up ++ more) ≡ true → (has_final up ≡ true) ⊎ (has_final more ≡ true)
final-more [] more h = inr h
final-more (EndAnswer n ∷ up) more h = inl refl
final-more (InterruptAnswer ∷ up) more h = inl refl
final-more (DiscardAnswer ∷ up) more h = inl refl
final-more (m ∷ up) more h = final-more up more h

-- an answer that isn't final joins what comes up: what follows a final answer on its way down is quiet
pub after-more : (up : List Message) (a m : Message) (down : List Message) → has_final (a ∷ []) ≡ false → (IsQuiet m → ⊥) → (has_final up ≡ true → AllQuiet (m ∷ down)) → has_final (up ++ (a ∷ [])) ≡ true → AllQuiet down
after-more up a m down f n h e = go (final-more up (a ∷ []) e)
  where
    go : (has_final up ≡ true) ⊎ (has_final (a ∷ []) ≡ true) → AllQuiet down
    go (inl k) = (h k).1
    go (inr k) = absurd (true≢false (sym k ∙ f))

pub shared-more : (w : Awaited) (sets : Sets) (up : List Message) (set new : ContextSet) (a m : Message) (down : List Message) → has_final (a ∷ []) ≡ false → (IsQuiet m → ⊥) → (has_final up ≡ true → AllQuiet (m ∷ down)) → (w ≡ NoAnswer → set ≡ held_after sets.own sets.held sets.inter up → new ≡ held_after sets.own sets.held sets.inter (up ++ (a ∷ []))) → SharedBy w sets up set → SharedBy w sets (up ++ (a ∷ [])) new
shared-more NoAnswer sets up set new a m down f n h g s = g refl s
shared-more (RestartOf k) sets up set new a m down f n h g s = λ e. absurd (last (final-more up (a ∷ []) e))
  where
    last : (has_final up ≡ true) ⊎ (has_final (a ∷ []) ≡ true) → ⊥
    last (inl k) = n (h k).0
    last (inr k) = true≢false (sym k ∙ f)
shared-more InterruptOf sets up set new a m down f n h g s = λ e. absurd (last (final-more up (a ∷ []) e))
  where
    last : (has_final up ≡ true) ⊎ (has_final (a ∷ []) ≡ true) → ⊥
    last (inl k) = n (h k).0
    last (inr k) = true≢false (sym k ∙ f)
shared-more DiscardOf sets up set new a m down f n h g s = λ e. absurd (last (final-more up (a ∷ []) e))
  where
    last : (has_final up ≡ true) ⊎ (has_final (a ∷ []) ≡ true) → ⊥
    last (inl k) = n (h k).0
    last (inr k) = true≢false (sym k ∙ f)
shared-more ReleaseOf sets up set new a m down f n h g s = λ e. absurd (last (final-more up (a ∷ []) e))
  where
    last : (has_final up ≡ true) ⊎ (has_final (a ∷ []) ≡ true) → ⊥
    last (inl k) = n (h k).0
    last (inr k) = true≢false (sym k ∙ f)

pub after-answer : (own : List (List Item)) (held inter : ContextSet) (up : List Message) (results : List Result) → held_after own held inter (up ++ (AlterAnswer results ∷ [])) ≡ altered_first (unanswered_in up own) results (held_after own held inter up)
after-answer own held inter [] results = refl
after-answer own held inter (AlterAnswer r ∷ up) results = after-answer (later own) (altered_first own r held) inter up results
after-answer own held inter (EndAnswer m ∷ up) results = after-answer own inter inter up results
after-answer own held inter (m ∷ up) results = after-answer own held inter up results

pub after-mark : (own : List (List Item)) (held inter : ContextSet) (up : List Message) (n : ℕ) → held_after own held inter (up ++ (MarkAnswer n ∷ [])) ≡ held_after own held inter up
after-mark own held inter [] n = refl
after-mark own held inter (AlterAnswer r ∷ up) n = after-mark (later own) (altered_first own r held) inter up n
after-mark own held inter (EndAnswer m ∷ up) n = after-mark own inter inter up n
after-mark own held inter (m ∷ up) n = after-mark own held inter up n

pub after-end : (own : List (List Item)) (held inter : ContextSet) (up : List Message) (n : ℕ) → held_after own held inter (up ++ (EndAnswer n ∷ [])) ≡ inter
after-end own held inter [] n = refl
after-end own held inter (AlterAnswer r ∷ up) n = after-end (later own) (altered_first own r held) inter up n
after-end own held inter (EndAnswer m ∷ up) n = after-end own inter inter up n
after-end own held inter (m ∷ up) n = after-end own held inter up n

pub unanswered-mark : (up : List Message) (n : ℕ) (own : List (List Item)) → unanswered_in (up ++ (MarkAnswer n ∷ [])) own ≡ unanswered_in up own
unanswered-mark up n own = unanswered-append up (MarkAnswer n ∷ []) own

pub unanswered-end : (up : List Message) (n : ℕ) (own : List (List Item)) → unanswered_in (up ++ (EndAnswer n ∷ [])) own ≡ unanswered_in up own
unanswered-end up n own = unanswered-append up (EndAnswer n ∷ []) own

-- the activity runs at the follower: what it has is the older part of what was sent
pub record IsPart (l : Leader) (y : Follower) : Type 0 where
  pub last : y.incoming.last ≡ l.started
  pub rest : List Piece
  pub same : pieces_of_transfer l.transfer ≡ rest ++ y.incoming.pieces

rest-part : (l : Leader) (up : List Message) (y : Follower) → l.awaits ≡ NoAnswer → y.incoming.active ≡ true → RestBy l.awaits l.transfer l up y → IsPart l y
rest-part l up y e a r = by_await l.awaits e l.transfer refl r
  where
    by_progress : (t : Transfer) → l.transfer ≡ Some t → (p : Progress) → RestIn p t l up y → IsPart l y
    by_progress t q Suspended h = absurd (true≢false (sym a ∙ h.1))
    by_progress t q Running h = record { last = h.2; rest = []; same = ap pieces_of_transfer q ∙ sym h.3 }
    by_progress t q Ending h = absurd (true≢false (sym a ∙ h.1))

    by_await : (w : Awaited) → w ≡ NoAnswer → (t : Option Transfer) → l.transfer ≡ t → RestBy w t l up y → IsPart l y
    by_await NoAnswer e None q h = absurd (true≢false (sym a ∙ h.1))
    by_await NoAnswer e (Some t) q h = by_progress t q t.progress h
    by_await InterruptOf e t q h = absurd (cc)
    by_await DiscardOf e t q h = absurd (cc)
    by_await (RestartOf n) e t q h = absurd (cc)
    by_await ReleaseOf e t q h = absurd (cc)

-- behind the end, with its answer on the way
end-part : (l : Leader) (up : List Message) (n : ℕ) (y : Follower) → l.awaits ≡ NoAnswer → y.incoming.active ≡ false → RestBy l.awaits l.transfer l (up ++ (EndAnswer n ∷ [])) y → (y.incoming.last ≡ l.started) × (pieces_of_transfer l.transfer ≡ y.incoming.pieces)
end-part l up n y e a r = by_await l.awaits e l.transfer refl r
  where
    final : has_final (up ++ (EndAnswer n ∷ [])) ≡ true
    final = go up
      where
        go : (xs : List Message) → has_final (xs ++ (EndAnswer n ∷ [])) ≡ true
        go [] = refl
        go (EndAnswer k ∷ xs) = refl
        go (InterruptAnswer ∷ xs) = refl
        go (DiscardAnswer ∷ xs) = refl
        go (m ∷ xs) = go xs

    by_progress : (t : Transfer) → l.transfer ≡ Some t → (p : Progress) → RestIn p t l (up ++ (EndAnswer n ∷ [])) y → (y.incoming.last ≡ l.started) × (pieces_of_transfer l.transfer ≡ y.incoming.pieces)
    by_progress t q Suspended h = absurd (true≢false (sym final ∙ ups-no_final 0 0 l.sets.own l.sets.held l.sets.inter (up ++ (EndAnswer n ∷ [])) y.held Resting (λ x. x) h.0))
    by_progress t q Running h = absurd (true≢false (sym h.1 ∙ a))
    by_progress t q Ending h = (h.2, ap pieces_of_transfer q ∙ sym h.3)

    by_await : (w : Awaited) → w ≡ NoAnswer → (t : Option Transfer) → l.transfer ≡ t → RestBy w t l (up ++ (EndAnswer n ∷ [])) y → (y.incoming.last ≡ l.started) × (pieces_of_transfer l.transfer ≡ y.incoming.pieces)
    by_await NoAnswer e None q h = absurd (true≢false (sym final ∙ ups-no_final 0 0 l.sets.own l.sets.held l.sets.inter (up ++ (EndAnswer n ∷ [])) y.held Resting (λ x. x) h.0))
    by_await NoAnswer e (Some t) q h = by_progress t q t.progress h
    by_await InterruptOf e t q h = absurd (cc)
    by_await DiscardOf e t q h = absurd (cc)
    by_await (RestartOf k) e t q h = absurd (cc)
    by_await ReleaseOf e t q h = absurd (cc)

part-before : (l : Leader) (y : Follower) (p : Piece) (q : List Piece) → y.incoming.pieces ≡ p ∷ q → IsPart l y → (r : List Piece) × (pieces_of_transfer l.transfer ≡ r ++ q)
part-before l y p q e i = (i.rest ++ (p ∷ []), i.same ∙ ap (λ x. i.rest ++ x) e ∙ sym (append_assoc i.rest (p ∷ []) q))

pub active-part : (setup : ModelSetup) (from : Role) (l : Leader) (k : ℕ) (down : List Message) (y : Follower) (up : List Message) → l.awaits ≡ NoAnswer → Waits l.awaits k down → y.incoming.active ≡ true → Down setup from (Rest l) down y up → IsPart l y
active-part setup from l k [] y up e w a h = rest-part l up y e a h.0
active-part setup from l k (Alter items ∷ d) y up e w a h =
    let i = active-part setup from l k d (record y { held = altered items (rejections items) y.held }) (up ++ (AlterAnswer (rejections items) ∷ [])) e w a (h.2 (rejections items) (rejections-fit items)) in
    record { last = i.last; rest = i.rest; same = i.same }
active-part setup from l k (Mark n ∷ d) y up e w a h =
    let z : Follower = record y { incoming = record y.incoming { pieces = Marked n y.held ∷ y.incoming.pieces } } in
    let i = active-part setup from l k d z (up ++ (MarkAnswer n ∷ [])) e w a h.2 in
    let b = part-before l z (Marked n y.held) y.incoming.pieces refl i in
    record { last = i.last; rest = b.0; same = b.1 }
active-part setup from l k (Start j ∷ d) y up e w a h = absurd (true≢false (sym a ∙ h.0))
active-part setup from l k (Resume j n ∷ d) y up e w a h = absurd (true≢false (sym a ∙ h.0))
active-part setup from l k (Chunk o ∷ d) y up e w a h =
    let z : Follower = record y { incoming = record y.incoming { pieces = Octets o ∷ y.incoming.pieces } } in
    let i = active-part setup from l k d z up e w a h.1 in
    let b = part-before l z (Octets o) y.incoming.pieces refl i in
    record { last = i.last; rest = b.0; same = b.1 }
active-part setup from l k (End n ∷ d) y up e w a h =
    let z : Follower = record y { incoming = record y.incoming { was_handed = true; active = false }; held = y.inter } in
    let r = end-part l up n z e refl (down-quiet setup from (Rest l) d z (up ++ (EndAnswer n ∷ [])) h.2 h.4).0 in
    record { last = r.0; rest = []; same = r.1 }
active-part setup from l k (Interrupt ∷ d) y up e w a h = absurd (let q = w.0 in cc)
active-part setup from l k (Discard ∷ d) y up e w a h = absurd (let q = w.0 in cc)
active-part setup from l k (GiveAnswer ∷ d) y up e w a h =
    let i = active-part setup from l k d (record y { gave = false }) up e w a h.1 in
    record { last = i.last; rest = i.rest; same = i.same }
active-part setup from l k (Release ∷ d) y up e w a h = active-part setup from l k d y up e w a h.2
active-part setup from l k (Please p ∷ d) y up e w a h = active-part setup from l k d y up e w a h
active-part setup from l k (UserAbort ∷ d) y up e w a h = active-part setup from l k d y up e w a h
active-part setup from l k (m ∷ d) y up e w a h = absurd h

-- more of the transfer comes: what was had stays
pub more-octets : (n : ℕ) (p q : List Piece) (o : List ℕ) → Agrees n p q → Agrees n p (Octets o ∷ q)
more-octets n p q o a = record { in_first = a.in_first; in_second = a.in_second; same = a.same ∙ sym (up_to-octets n o q) }

pub more-mark : (n m : ℕ) (s : ContextSet) (p q : List Piece) → m ≡ suc (highest q) → Agrees n p q → Agrees n p (Marked m s ∷ q)
more-mark n m s p q e a =
    record { in_first = a.in_first; in_second = more; same = a.same ∙ sym (up_to-mark n m s q e a.in_second) }
  where
    more : n ≤ m
    more = let h = a.in_second in omega arith

pub acks-more_octets : (c : ℕ) (p : List Piece) (o : List ℕ) (incoming : Incoming) (up : List Message) → Acks c p incoming up → Acks c p (record incoming { pieces = Octets o ∷ incoming.pieces }) up
acks-more_octets c p o i [] a = tt
acks-more_octets c p o i (MarkAnswer n ∷ up) a = (a.0, more-octets n p i.pieces o a.1, acks-more_octets c p o i up a.2)
acks-more_octets c p o i (m ∷ up) a = acks-more_octets c p o i up a

pub acks-more_mark : (c m : ℕ) (s : ContextSet) (p : List Piece) (incoming : Incoming) (up : List Message) → m ≡ suc (highest incoming.pieces) → Acks c p incoming up → Acks c p (record incoming { pieces = Marked m s ∷ incoming.pieces }) up
acks-more_mark c m s p i [] e a = tt
acks-more_mark c m s p i (MarkAnswer n ∷ up) e a = (a.0, more-mark n m s p i.pieces e a.1, acks-more_mark c m s p i up e a.2)
acks-more_mark c m s p i (x ∷ up) e a = acks-more_mark c m s p i up e a

pub acks-flags : (c : ℕ) (p : List Piece) (i j : Incoming) (up : List Message) → i.last ≡ j.last → i.pieces ≡ j.pieces → Acks c p i up → Acks c p j up
acks-flags c p i j [] e f a = tt
acks-flags c p i j (MarkAnswer n ∷ up) e f a = (sym e ∙ a.0, subst (λ x. Agrees n p x) f a.1, acks-flags c p i j up e f a.2)
acks-flags c p i j (m ∷ up) e f a = acks-flags c p i j up e f a

pub paired-map : (t : Option Transfer) (c : ℕ) (i j : Incoming) → i.last ≡ j.last → ((n : ℕ) (p : List Piece) → Agrees n p i.pieces → Agrees n p j.pieces) → PairedIn t c i → PairedIn t c j
paired-map None c i j e f h = sym e ∙ h
paired-map (Some t) c i j e f (inl h) = inl (sym e ∙ h.0, f t.confirmed t.pieces h.1)
paired-map (Some t) c i j e f (inr h) = inr (ap suc (sym e) ∙ h.0, h.1)
