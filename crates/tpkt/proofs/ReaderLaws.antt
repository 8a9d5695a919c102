-- What octets make of a reader: cut anywhere, in bulk, and sound throughout.
use Rattle.std.proofs.Common.{◌≡◌, ℕ, zero, suc, ◌+◌, ◌-◌, ◌<◌, ◌≤◌, Bool, true, false, List, [], ◌∷◌, ◌++◌, length, get_or, take, drop, Option, Some, None, Result, Ok, Err, refl, sym, ap, subst, ◌∙◌, append_assoc, arith}
use Rattle.std.specs.Option.{is_some}
use Rattle.std.proofs.lemmas.List.{take-append-drop, length-append, length-take}
use Rattle.osi_base.specs.Limits.{tsdu_limit}
use Rattle.tpkt.specs.declared.packet.Packet.{Packet}
use Rattle.tpkt.specs.declared.packet.TFault.{TFault}
use Rattle.tpkt.specs.declared.reader_state.Coming.{Coming}
use Rattle.tpkt.specs.declared.reader_state.ReaderState.{ReaderState}
use Rattle.tpkt.specs.declared.header.Header.{Header}
use Rattle.tpkt.specs.declared.header.Header.TheVariants.{Control, Data}
use Rattle.tpkt.specs.declared.header_stops.Stop.{Stop}
use Rattle.tpkt.specs.declared.header_stops.Stop.TheVariants.{Short, At}
use Rattle.tpkt.specs.Header.{header_at}
use Rattle.tpkt.proofs.HeaderLaws.{data_within}
use Rattle.tpkt.proofs.ShortLaws.{header_short}
use Rattle.tpkt.specs.Reader.{ReaderProgress, between, on, opened, judged, taken, after, IsSoundReader, IsKept, IsIdle, left_of}

-- octets that come in two pieces
pub after-append : (f : ReaderProgress) (xs ys : List ℕ) → after f (xs ++ ys) ≡ after (after f xs) ys
unfolding after
after-append f [] ys = refl
after-append f (x ∷ xs) ys = after-append (taken f.held.fault f.held.coming f x) xs ys

taken_fault : (o : Option TFault) (coming : Option Coming) (f : ReaderProgress) (fault : TFault) (x : ℕ) → o ≡ Some fault → taken o coming f x ≡ f
taken_fault (Some g) coming f fault x e = refl
taken_fault None coming f fault x e = absurd cc

some_of : (o : Option TFault) → is_some o ≡ true → (fault : TFault) × (o ≡ Some fault)
some_of (Some fault) e = (fault, refl)
some_of None e = absurd cc

-- after a fault nothing changes
pub after_fault : (f : ReaderProgress) (fault : TFault) (xs : List ℕ) → f.held.fault ≡ Some fault → after f xs ≡ f
unfolding after
after_fault f fault [] e = refl
after_fault f fault (x ∷ xs) e = ap (λ g. after g xs) (taken_fault f.held.fault f.held.coming f fault x e) ∙ after_fault f fault xs e

pub after_some_fault : (f : ReaderProgress) (xs : List ℕ) → is_some f.held.fault ≡ true → after f xs ≡ f
after_some_fault f xs e =
    let p = some_of f.held.fault e in
    after_fault f p.0 xs p.1

pub after_nothing : (f : ReaderProgress) (xs : List ℕ) → length xs ≡ 0 → after f xs ≡ f
unfolding after
after_nothing f [] e = refl
after_nothing f (x ∷ xs) e = absurd (omega arith)

-- a DT whose data are coming
abbrev pub in_data : List Packet → List ℕ → ℕ → Bool → ℕ → ReaderProgress
in_data packets tsdu left last place = record { packets = packets; held = record { unread = []; tsdu = tsdu; coming = Some (record { left = left; last = last }); place = place; fault = None } }

pub still_open : (left : ℕ) (last : Bool) (packets : List Packet) (tsdu : List ℕ) (place : ℕ) → 0 < left → opened left last packets tsdu place ≡ in_data packets tsdu left last place
still_open zero last packets tsdu place lt = absurd (omega arith)
still_open (suc left) last packets tsdu place lt = grind arith

-- data that are taken at once
pub in_bulk : (packets : List Packet) (tsdu : List ℕ) (left : ℕ) (last : Bool) (place : ℕ) (xs : List ℕ) → 0 < length xs → length xs ≤ left
    → after (in_data packets tsdu left last place) xs ≡ opened (left - length xs) last packets (tsdu ++ xs) (on place (length xs))
unfolding after
in_bulk packets tsdu left last place [] some within = absurd (omega arith)
in_bulk packets tsdu left last place (x ∷ []) some within = refl
in_bulk packets tsdu left last place (x ∷ y ∷ ys) some within =
    let open_yet = still_open (left - 1) last packets (tsdu ++ x ∷ []) (on place 1) (omega arith) in
    let rest = in_bulk packets (tsdu ++ x ∷ []) (left - 1) last (on place 1) (y ∷ ys) (omega arith) (omega arith) in
    let less : left - 1 - length (y ∷ ys) ≡ left - length (x ∷ y ∷ ys) = omega arith in
    let further : on (on place 1) (length (y ∷ ys)) ≡ on place (length (x ∷ y ∷ ys)) = omega arith in
    let joined : (tsdu ++ x ∷ []) ++ y ∷ ys ≡ tsdu ++ x ∷ y ∷ ys = append_assoc tsdu (x ∷ []) (y ∷ ys) in
    ap (λ f. after f (y ∷ ys)) open_yet ∙ rest ∙ ap (λ n. opened n last packets ((tsdu ++ x ∷ []) ++ y ∷ ys) (on (on place 1) (length (y ∷ ys)))) less
    ∙ ap (λ t. opened (left - length (x ∷ y ∷ ys)) last packets t (on (on place 1) (length (y ∷ ys)))) joined
    ∙ ap (λ n. opened (left - length (x ∷ y ∷ ys)) last packets (tsdu ++ x ∷ y ∷ ys) n) further

-- ---- each reader is sound

pub short_empty : (begun : ℕ) → header_at begun [] ≡ Err Short
unfolding header_at
short_empty begun = refl

opened_sound : (left : ℕ) (last : Bool) (packets : List Packet) (tsdu : List ℕ) (place : ℕ) → length tsdu + left ≤ tsdu_limit → IsSoundReader (opened left last packets tsdu place).held
opened_sound zero true packets tsdu place within = record { short = short_empty 0; within = omega arith; idle = tt }
opened_sound zero false packets tsdu place within = record { short = short_empty (length tsdu); within = omega arith; idle = tt }
opened_sound (suc left) last packets tsdu place within = rw (still_open (suc left) last packets tsdu place (omega arith)) (record { short = short_empty (length tsdu); within = within; idle = (refl, omega arith) })

judged_sound : (read : Result Header Stop) (packets : List Packet) (tsdu : List ℕ) (place : ℕ) (unread : List ℕ) → header_at (length tsdu) unread ≡ read → length tsdu ≤ tsdu_limit → IsSoundReader (judged read packets tsdu place unread).held
judged_sound (Err Short) packets tsdu place unread e within = record { short = e; within = omega arith; idle = tt }
judged_sound (Err (At o k)) packets tsdu place unread e within = record { short = short_empty 0; within = omega arith; idle = tt }
judged_sound (Ok (Control p)) packets tsdu place unread e within = record { short = short_empty (length tsdu); within = omega arith; idle = tt }
judged_sound (Ok (Data left last)) packets tsdu place unread e within = opened_sound left last packets tsdu (on place (length unread)) (data_within (length tsdu) unread left last e)

taken_sound : (o : Option TFault) (coming : Option Coming) (f : ReaderProgress) (x : ℕ) → o ≡ f.held.fault → coming ≡ f.held.coming → IsSoundReader f.held → IsSoundReader (taken o coming f x).held
taken_sound (Some g) coming f x e d s = s
taken_sound None (Some coming) f x e d s = opened_sound (coming.left - 1) coming.last f.packets (f.held.tsdu ++ x ∷ []) (on f.held.place 1) (
    let w = subst (λ (o : Option Coming). length f.held.tsdu + left_of o ≤ tsdu_limit) (sym d) s.within in
    let i = subst (λ (o : Option Coming). IsIdle o f.held.unread) (sym d) s.idle in
    omega (arith, w, i.1, length-append f.held.tsdu (x ∷ [])))
taken_sound None None f x e d s = judged_sound (header_at (length f.held.tsdu) (f.held.unread ++ x ∷ [])) f.packets f.held.tsdu f.held.place (f.held.unread ++ x ∷ []) refl (omega (arith, s.within))

pub after_sound : (f : ReaderProgress) (xs : List ℕ) → IsSoundReader f.held → IsSoundReader (after f xs).held
unfolding after
after_sound f [] s = s
after_sound f (x ∷ xs) s = after_sound (taken f.held.fault f.held.coming f x) xs (taken_sound f.held.fault f.held.coming f x refl refl s)

-- what is read up to a place, and then from there
pub goes_on : (f g total : ReaderProgress) (xs : List ℕ) (n : ℕ) → after f (take n xs) ≡ g → after f xs ≡ total → after g (drop n xs) ≡ total
goes_on f g total xs n e so_far = sym (ap (λ h. after h (drop n xs)) e) ∙ sym (after-append f (take n xs) (drop n xs)) ∙ ap (after f) (take-append-drop n xs) ∙ so_far

-- one octet of a header
pub one_taken : (packets : List Packet) (held : ReaderState) (xs : List ℕ) (total : ReaderProgress) → held.coming ≡ None → held.fault ≡ None → 0 < length xs
    → taken None None (record { packets = packets; held = held }) (get_or xs 0 0) ≡ total → after (record { packets = packets; held = held }) (take 1 xs) ≡ total
unfolding after
one_taken packets held [] total d e some h = absurd (omega arith)
one_taken packets held (x ∷ xs) total d e some h =
    let f : ReaderProgress = record { packets = packets; held = held } in
    ap (λ o. taken o held.coming f x) e ∙ ap (λ o. taken None o f x) d ∙ h

abbrev holding : List ℕ → List ℕ → Option Coming → ℕ → Option TFault → ReaderState
holding unread tsdu coming place fault = record { unread = unread; tsdu = tsdu; coming = coming; place = place; fault = fault }

-- octets of data
pub data_taken : (packets : List Packet) (held : ReaderState) (coming : Coming) (xs : List ℕ) (n : ℕ) (total : ReaderProgress) → held.coming ≡ Some coming → held.fault ≡ None → held.unread ≡ []
    → 0 < n → n ≤ coming.left → n ≤ length xs → opened (coming.left - n) coming.last packets (held.tsdu ++ take n xs) (on held.place n) ≡ total
    → after (record { packets = packets; held = held }) (take n xs) ≡ total
data_taken packets held coming xs n total d e i some within there h =
    let same : held ≡ (in_data packets held.tsdu coming.left coming.last held.place).held =
    ap (λ u. holding u held.tsdu held.coming held.place held.fault) i ∙ ap (λ o. holding [] held.tsdu o held.place held.fault) d ∙ ap (λ o. holding [] held.tsdu (Some coming) held.place o) e in
    let len : length (take n xs) ≡ n = omega (arith, length-take n xs) in
    ap (λ g. after (record { packets = packets; held = g }) (take n xs)) same
    ∙ in_bulk packets held.tsdu coming.left coming.last held.place (take n xs) (omega arith) (omega arith)
    ∙ ap (λ k. opened (coming.left - k) coming.last packets (held.tsdu ++ take n xs) (on held.place k)) len ∙ h

-- what is held is at most a packet and a TSDU
pub kept : (held : ReaderState) → IsSoundReader held → IsKept held
kept held s = record { packet = header_short (length held.tsdu) held.unread s.short; tsdu = omega (arith, s.within) }

pub new_sound : (tsdu : List ℕ) (place : ℕ) → tsdu ≡ [] → IsSoundReader (between tsdu place)
new_sound tsdu place e = record { short = short_empty (length tsdu); within = (let n : length tsdu ≡ 0 = ap length e in omega arith); idle = tt }
