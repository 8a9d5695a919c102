-- What holds of every end goes on holding.
use Rattle.std.proofs.Common.{◌≡◌, ℕ, Bool, true, false, List, [], ◌∷◌, ◌++◌, Option, Some, None, is_some, refl, sym, ap, subst, ◌∙◌}
use Rattle.std.specs.Prelude.{option_map, IsSome}
use Rattle.tpkt.specs.declared.packet.Packet.{Packet}
use Rattle.tpkt.specs.declared.packet.Packet.TheVariants as packets
use Rattle.tpkt.specs.Reader.{reading}
use Rattle.spdu_codec.specs.declared.places.UserPlaces.{UserPlaces}
use Rattle.spdu_codec.specs.Reading.{UnitFault, units_at}
use Rattle.spdu_codec.specs.Places.{user_places}
use Rattle.osi_base.specs.declared.session_word.SessionWord.{SessionWord}
use Rattle.osi_base.specs.declared.session_word.SessionWord.TheVariants as units
use Rattle.std.specs.Prelude.{Result, Ok, Err}
use Rattle.association_line.specs.association_reading.Front.{Front, OfSession, Intake, leading, start_of, fronts_of_units, fronts_of, all_fronts, with_octets, without_first, behind_first}
use Rattle.osi_base.specs.Limits.{IsUnitSize}
use Rattle.association_end.specs.View.{EndView}
use Rattle.association_end.specs.Sound.{AreMessages, HasMessages, Listens, IsSoundEnd}
use Rattle.dialogue.specs.declared.config.Phase.{Phase}
use Rattle.dialogue.specs.declared.config.Phase.TheVariants.{Dead}
use Rattle.end_rules.specs.State.{Body, passes_over}
use Rattle.association_line.specs.Line.{Line}
use Rattle.association_meaning.specs.association_intake.declared.front.Front as fronts
use Rattle.association_meaning.specs.association_intake.Seen.{TakesFirst}
use Rattle.association_end.specs.OneMessage.{with_body, with_line, with_came, TookFirst}

-- ---- messages

both : (xs ys : List Front) → AreMessages xs → AreMessages ys → AreMessages (xs ++ ys)
both [] ys p q = q
both (x ∷ xs) ys p q = (p.0, both xs ys p.1 q)

leading_one : (unit : SessionWord) (start : ℕ) → AreMessages (leading unit start)
leading_one (units.GiveTokens None) start = tt
leading_one unit start = (tt, tt)

of_units : (at : UserPlaces) (r : Result (List SessionWord) UnitFault) → AreMessages (fronts_of_units at r)
of_units at (Ok []) = tt
of_units at (Ok (unit ∷ [])) = (tt, tt)
of_units at (Ok (first ∷ second ∷ more)) = both (leading first (start_of at.first)) (OfSession second (start_of at.second) ∷ []) (leading_one first (start_of at.first)) (tt, tt)
of_units at (Err fault) = (tt, tt)

of_packet : (packet : Packet) → AreMessages (fronts_of packet)
of_packet (packets.Connect ends) = (tt, tt)
of_packet (packets.Confirm ends) = (tt, tt)
of_packet packets.Disconnect = (tt, tt)
of_packet packets.Problem = (tt, tt)
of_packet (packets.Tsdu octets) = of_units (user_places octets) (units_at octets)

of_packets : (all : List Packet) → AreMessages (all_fronts all)
of_packets [] = tt
of_packets (packet ∷ more) = both (fronts_of packet) (all_fronts more) (of_packet packet) (of_packets more)

pub messages_more : (octets : List ℕ) (came : Option Intake) → HasMessages came → HasMessages (option_map (with_octets octets) came)
messages_more octets None m = tt
messages_more octets (Some intake) m = both intake.fronts (all_fronts (reading intake.held octets).packets) m (of_packets (reading intake.held octets).packets)

behind : (fronts : List Front) → AreMessages fronts → AreMessages (without_first fronts)
behind [] m = tt
behind (x ∷ xs) m = m.1

pub messages_behind : (intake : Intake) → HasMessages (Some intake) → HasMessages (Some (behind_first intake))
messages_behind intake m = behind intake.fronts m

-- ---- an end that looks at what comes

pub listens_some : (k : Bool) (came : Option Intake) → IsSome came → Listens k came
listens_some true came s = tt
listens_some false came s = s

pub is_listening : (k : Bool) (came : Option Intake) → k ≡ false → Listens k came → IsSome came
is_listening k came e l = subst (λ (j : Bool). Listens j came) e l

pub listens_over : (k : Bool) (came : Option Intake) → k ≡ true → Listens k came
listens_over k came e = subst (λ (j : Bool). Listens j came) (sym e) tt

-- ---- what holds of an end, with one of its parts changed

pub up_some : (e : EndView) → IsSoundEnd e → passes_over e.end.body.link.phase ≡ false → IsSome e.end.line.came
up_some e s up = is_listening (passes_over e.end.body.link.phase) e.end.line.came up s.listens

sound_in : (e : EndView) (body : Body) → IsSoundEnd e → Listens (passes_over body.link.phase) e.end.line.came → IsSoundEnd (with_body body e)
sound_in e body s l = record {
  associated = s.associated;
  accepted = s.accepted;
  sized = s.sized;
  messages = s.messages;
  listens = l;
}

pub sound_body : (e : EndView) (body : Body) → IsSoundEnd e → IsSome e.end.line.came → IsSoundEnd (with_body body e)
sound_body e body s some = sound_in e body s (listens_some (passes_over body.link.phase) e.end.line.came some)

pub sound_over : (e : EndView) (body : Body) → IsSoundEnd e → passes_over body.link.phase ≡ true → IsSoundEnd (with_body body e)
sound_over e body s over = sound_in e body s (listens_over (passes_over body.link.phase) e.end.line.came over)

-- in the same phase
pub sound_same : (e : EndView) (body : Body) → IsSoundEnd e → body.link.phase ≡ e.end.body.link.phase → IsSoundEnd (with_body body e)
sound_same e body s same = sound_in e body s (subst (λ (p : Phase). Listens (passes_over p) e.end.line.came) (sym same) s.listens)

-- a dead end
pub sound_dead : (e : EndView) → IsSoundEnd e → IsSoundEnd (with_body (record e.end.body { link = record e.end.body.link { phase = Dead } }) e)
sound_dead e s = sound_over e (record e.end.body { link = record e.end.body.link { phase = Dead } }) s refl

-- with other octets that wait
pub sound_waiting : (e : EndView) (waiting : List ℕ) → IsSoundEnd e → IsSoundEnd (with_line (record e.end.line { waiting = waiting }) e)
sound_waiting e waiting s = record {
  associated = s.associated;
  accepted = s.accepted;
  sized = s.sized;
  messages = s.messages;
  listens = s.listens;
}

pub sound_size : (e : EndView) (size : ℕ) → IsSoundEnd e → IsUnitSize size → IsSoundEnd (with_line (record e.end.line { size = size }) e)
sound_size e size s sized = record {
  associated = s.associated;
  accepted = s.accepted;
  sized = sized;
  messages = s.messages;
  listens = s.listens;
}

-- with another line, which looks at what comes
pub sound_line : (e : EndView) (body : Body) (line : Line) → IsSoundEnd e → IsUnitSize line.size → HasMessages line.came → IsSome line.came → IsSoundEnd (with_line line (with_body body e))
sound_line e body line s sized messages some = record {
  associated = s.associated;
  accepted = s.accepted;
  sized = sized;
  messages = messages;
  listens = listens_some (passes_over body.link.phase) line.came some;
}

pub sound_came : (e : EndView) (came : Option Intake) → IsSoundEnd e → HasMessages came → IsSome came → IsSoundEnd (with_came came e)
sound_came e came s messages some = sound_line e e.end.body (record e.end.line { came = came }) s s.sized messages some

-- an end that is over looks at nothing
pub sound_deaf : (e : EndView) → IsSoundEnd e → passes_over e.end.body.link.phase ≡ true → IsSoundEnd (with_came None e)
sound_deaf e s over = record {
  associated = s.associated;
  accepted = s.accepted;
  sized = s.sized;
  messages = tt;
  listens = listens_over (passes_over e.end.body.link.phase) None over;
}

-- ---- what stands first is taken off

module _ (e : EndView) (front : fronts.Front) (new : Option Intake) where
  taken_off : (came : Option Intake) → e.end.line.came ≡ came → IsSome came → TakesFirst came front new → TookFirst e (with_came new e) front
  taken_off None same some t = absurd cc
  taken_off (Some intake) same some t = record { intake = intake; came = same; first = t.0; new_is = ap (λ (c : Option Intake). with_came c e) t.1 }

  pub took_first : IsSome e.end.line.came → TakesFirst e.end.line.came front new → TookFirst e (with_came new e) front
  took_first some t = taken_off e.end.line.came refl some t

left_sound : (old : Option Intake) (front : fronts.Front) (new : Option Intake) → HasMessages old → IsSome old → TakesFirst old front new → HasMessages new × IsSome new
left_sound None front new m some t = absurd cc
left_sound (Some intake) front new m some t = (subst HasMessages (sym t.1) (messages_behind intake m), ap is_some t.1)

pub sound_took : (e : EndView) (front : fronts.Front) (new : Option Intake) → IsSoundEnd e → passes_over e.end.body.link.phase ≡ false → TakesFirst e.end.line.came front new → IsSoundEnd (with_came new e)
sound_took e front new s up t =
    let left = left_sound e.end.line.came front new s.messages (up_some e s up) t in
    sound_came e new s left.0 left.1

-- ---- octets are put behind what came

fed_some : (octets : List ℕ) (came : Option Intake) → IsSome came → IsSome (option_map (with_octets octets) came)
fed_some octets None some = some
fed_some octets (Some intake) some = refl

-- what came is lost where the end is dead
pub sound_lost : (e : EndView) (came : Option Intake) → IsSoundEnd e → HasMessages came → IsSoundEnd (with_came came (with_body (record e.end.body { link = record e.end.body.link { phase = Dead } }) e))
sound_lost e came s messages = record {
  associated = s.associated;
  accepted = s.accepted;
  sized = s.sized;
  messages = messages;
  listens = tt;
}

pub sound_fed : (e : EndView) (octets : List ℕ) (new : Option Intake) → IsSoundEnd e → passes_over e.end.body.link.phase ≡ false → new ≡ option_map (with_octets octets) e.end.line.came → IsSoundEnd (with_came new e)
sound_fed e octets new s up n =
    sound_came e new s (subst HasMessages (sym n) (messages_more octets e.end.line.came s.messages)) (ap is_some n ∙ fed_some octets e.end.line.came (up_some e s up))
