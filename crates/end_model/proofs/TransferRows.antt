-- The takings of the words of a transfer, in reliable mode.
use Rattle.std.proofs.Common.{◌≡◌, refl, true, false, ◌∙◌, sym, ap, subst, arith, ℕ, suc, ◌≤◌, List}
use Rattle.std.proofs.Common.{[], ◌∷◌, ◌++◌, inl, inr, map, length}
use Rattle.std.specs.Prelude.{pos, negsuc, Bool, ◌&&◌, ◌||◌, Option, Some, None, nat_eq, nat_le}
use Rattle.std.specs.Prelude.{nat_lt}
use Rattle.std.proofs.lemmas.Bool.Decides.{nat_tests}
use Rattle.osi_base.specs.declared.syntax.Pair.{Pair}
use Rattle.osi_base.specs.declared.layer_words.Proposal.{Proposal}
use Rattle.osi_base.specs.Limits.{most_transferred}
use Rattle.stub_tables.specs.declared.apdu.Apdu.{Apdu}
use Rattle.stub_tables.specs.declared.apdu.Apdu.TheVariants as apdus
use Rattle.dialogue.specs.declared.config.Mode.TheVariants.{Reliable}
use Rattle.end_rules.specs.Base.{Base}
use Rattle.end_rules.specs.State.{Body, Calls, Piece, Octets, Marked, Transfer, Receiving, Progress}
use Rattle.end_rules.specs.State.{Running, Ending, Suspended, Awaited, NoAnswer, RestartOf}
use Rattle.end_rules.specs.State.{InterruptOf, DiscardOf, ReleaseOf, highest, joined, pieces_of}
use Rattle.end_rules.specs.State.{is_up, is_current, is_ending, is_suspended}
use Rattle.end_rules.specs.InPlace.{is_next_confirmed, may_resume_at, awaits_discard}
use Rattle.end_rules.specs.Connecting.{the_one}
use Rattle.end_rules.specs.TakesAssociation.{is_release_request}
use Rattle.end_rules.specs.TakesActivities.{invocation_in, cut_invocation}
use Rattle.end_rules.specs.Messages.{DataValue, OfAssociation, OfData, OfMarks, OfActivities, Finish}
use Rattle.end_rules.specs.Messages.{Values, Part, MarkAck, Resume, EndAck, DiscardAck}
use Rattle.agreement.specs.Messages as model
use Rattle.agreement.specs.Messages.Choice.{Nothing}
use Rattle.agreement.specs.Messages.Message.{MarkAnswer as model_mark_answer}
use Rattle.agreement.specs.Messages.Message.{Resume as model_resume, EndAnswer as model_end_answer}
use Rattle.agreement.specs.Messages.Message.{DiscardAnswer as model_discard_answer}
use Rattle.agreement.specs.Messages.Message.{Chunk as model_chunk, Release as model_release}
use Rattle.agreement.specs.State as states
use Rattle.agreement.specs.State.Progress.{Suspended as model_suspended, Ending as model_ending}
use Rattle.agreement.specs.State.Awaited.{DiscardOf as model_discard_of}
use Rattle.agreement.specs.State.Awaited.{NoAnswer as model_no_answer}
use Rattle.agreement.specs.Takings.{MayTake, IsNextConfirmed, IsEndOf, MayResumeAt, cut_item}
use Rattle.end_model.specs.Seen.{Free, role_seen, set_seen, piece_seen, progress_seen, awaited_seen}
use Rattle.end_model.specs.Seen.{transfer_seen, incoming_seen, calls_seen, seen, setup_seen}
use Rattle.end_model.specs.Rows.{at}
use Rattle.end_model.specs.OpenInvocations.{IsProper, AreNumbered}
use Rattle.end_model.specs.Acting.{IsSoundBody, TakenAs}
use Rattle.end_model.specs.Takings.{IsJoined, TakenWhere, nothing, IsProperCurrent}
use Rattle.end_model.proofs.Transfers.{highest-seen, mark-confirmed}
use Rattle.end_model.proofs.Resuming.{resumption-taken}
use Rattle.end_model.proofs.Handing.{own-closed}
use Rattle.end_model.proofs.Takes.{eq-true, le-true, up-now, is-responder, fine}

-- ---- parts

pub joined-seen : (pieces : List Piece) → states.joined (map piece_seen pieces) ≡ joined pieces
joined-seen [] = refl
joined-seen (Octets octets ∷ pieces) = ap (λ (xs : List ℕ). xs ++ octets) (joined-seen pieces)
joined-seen (Marked number set ∷ pieces) = joined-seen pieces

append-nil : (xs : List ℕ) → xs ++ [] ≡ xs
append-nil [] = refl
append-nil (x ∷ xs) = ap (λ (ys : List ℕ). x ∷ ys) (append-nil xs)

not-over : (n : ℕ) → n ≤ most_transferred → nat_lt most_transferred n ≡ false
not-over n h = grind (arith, nat_tests)

pub part-taken : (id : ℕ) (pair : Option Pair) (octets : List ℕ) → TakenWhere Reliable (OfData (Values (record { id = id; pair = pair; content = Part octets } ∷ []))) (model_chunk octets) nothing
part-taken id pair octets free base proposed body sound joined_ may =
    let up : is_up body.link.phase ≡ true = up-now (at Reliable base) body may.is_up in
    let short : length (joined body.receiving.pieces ++ octets) ≤ most_transferred = subst (λ (xs : List ℕ). length (xs ++ octets) ≤ most_transferred) (joined-seen body.receiving.pieces) may.is_within in
    let within : nat_lt most_transferred (length (joined body.receiving.pieces ++ (octets ++ []))) ≡ false = ap (λ (xs : List ℕ). nat_lt most_transferred (length (joined body.receiving.pieces ++ xs))) (append-nil octets) ∙ not-over (length (joined body.receiving.pieces ++ octets)) short in
    record {
      no_fault = fine (at Reliable base) body (OfData (Values (record { id = id; pair = pair; content = Part octets } ∷ []))) (rw (up, may.lacks_turn, may.is_active) refl) (rw within refl);
      chosen = tt;
      after = refl;
      means = tt;
    }

-- ---- confirmations

next-confirmed : (base : Base) (t : Option Transfer) (number : ℕ) → IsNextConfirmed (transfer_seen base t) number → is_next_confirmed t number ≡ true
next-confirmed base None number h = absurd h
next-confirmed base (Some t) number h =
    let lowest : nat_eq number (suc t.confirmed) ≡ true = eq-true number (suc t.confirmed) h.is_lowest in
    let sent : nat_le number (highest t.pieces) ≡ true = le-true number (highest t.pieces) (subst (λ n. number ≤ n) (sym (highest-seen t.pieces)) h.was_sent) in
    rw (runs t.progress h.is_in_progress, lowest, sent) refl
  where
    runs : (p : Progress) → ((progress_seen p ≡ model_suspended) → ⊥) → is_suspended p ≡ false
    runs Running h = refl
    runs Ending h = refl
    runs Suspended h = absurd (h refl)

pub mark_ack-taken : (number : ℕ) → TakenWhere Reliable (OfMarks (MarkAck number)) (model_mark_answer number) nothing
mark_ack-taken number free base proposed body sound joined_ may =
    let up : is_up body.link.phase ≡ true = up-now (at Reliable base) body may.is_up in
    let next : is_next_confirmed body.sending.current number ≡ true = next-confirmed (at Reliable base) body.sending.current number may.is_next in
    record {
      no_fault = fine (at Reliable base) body (OfMarks (MarkAck number)) (rw (up, joined_.selected, next) refl) refl;
      chosen = tt;
      after = mark-confirmed number free base body;
      means = tt;
    }

ends-there : (base : Base) (t : Option Transfer) (number : ℕ) → IsEndOf (transfer_seen base t) number → (is_current is_ending t && nat_eq number (suc (highest (pieces_of t)))) ≡ true
ends-there base None number h = absurd h
ends-there base (Some t) number h =
    let its : nat_eq number (suc (highest t.pieces)) ≡ true = eq-true number (suc (highest t.pieces)) (h.is_its ∙ sym (ap suc (highest-seen t.pieces))) in
    rw (ending t.progress h.ends, its) refl
  where
    ending : (p : Progress) → progress_seen p ≡ model_ending → is_ending p ≡ true
    ending Running h = cc
    ending Ending h = refl
    ending Suspended h = cc

and-three : (a b c : Bool) → a ≡ true → (b && c) ≡ true → ((a && b) && c) ≡ true
and-three true b c h k = k
and-three false b c h k = cc

pub end_ack-taken : (number : ℕ) → TakenWhere Reliable (OfActivities (EndAck number)) (model_end_answer number) nothing
end_ack-taken number free base proposed body sound joined_ may =
    let up : is_up body.link.phase ≡ true = up-now (at Reliable base) body may.is_up in
    record {
      no_fault = fine (at Reliable base) body (OfActivities (EndAck number)) (and-three (is_up body.link.phase) (is_current is_ending body.sending.current) (nat_eq number (suc (highest (pieces_of body.sending.current)))) up (ends-there (at Reliable base) body.sending.current number may.is_its)) refl;
      chosen = tt;
      after = refl;
      means = tt;
    }

-- ---- resumptions

or-true : (b : Bool) → (b || true) ≡ true
or-true true = refl
or-true false = refl

resumes-at : (r : Receiving) (activity mark : ℕ) → MayResumeAt (incoming_seen r) activity mark → may_resume_at r activity mark ≡ true
resumes-at r activity mark (inl h) =
    rw (eq-true activity r.last h.0, le-true mark (highest r.pieces) (subst (λ n. mark ≤ n) (sym (highest-seen r.pieces)) h.1)) refl
resumes-at r activity mark (inr h) =
    rw (eq-true activity (suc r.last) h.0, eq-true mark 0 h.1) (or-true (nat_eq activity r.last && nat_le mark (highest r.pieces)))

pub resume-taken : (activity mark : ℕ) → TakenWhere Reliable (OfActivities (Resume activity mark)) (model_resume activity mark) nothing
resume-taken activity mark free base proposed body sound joined_ may =
    let up : is_up body.link.phase ≡ true = up-now (at Reliable base) body may.is_up in
    let mark_there : may_resume_at body.receiving activity mark ≡ true = resumes-at body.receiving activity mark may.at_mark in
    record {
      no_fault = fine (at Reliable base) body (OfActivities (Resume activity mark)) (rw (up, may.lacks_turn, joined_.selected, may.rests, mark_there) refl) refl;
      chosen = tt;
      after = resumption-taken activity mark free base body;
      means = tt;
    }

-- ---- release

pub finish-taken : (transport : Option ℕ) (values : List DataValue) → is_release_request (the_one values) ≡ true → TakenWhere Reliable (OfAssociation (Finish transport values)) model_release nothing
finish-taken transport values request free base proposed body sound joined_ may =
    let up : is_up body.link.phase ≡ true = up-now (at Reliable base) body may.is_up in
    let rests = may.rests refl in
    record {
      no_fault = fine (at Reliable base) body (OfAssociation (Finish transport values)) (rw (is-responder base.initiator may.responds, up, rests.0, rests.1) refl) (rw request refl);
      chosen = tt;
      after = refl;
      means = (refl, tt);
    }

-- ---- discards

awaits-discard : (awaited : Awaited) → awaited_seen awaited ≡ model_discard_of → awaits_discard awaited ≡ true
awaits-discard NoAnswer h = cc
awaits-discard (RestartOf own) h = cc
awaits-discard InterruptOf h = cc
awaits-discard DiscardOf h = refl
awaits-discard ReleaseOf h = cc

-- the invocation of the discarded transfer is cut
cut-apdu : (base : Base) (apdu : Apdu) (t : Transfer) (calls : Calls) → t.item.apdu ≡ apdu → IsProper base apdu → AreNumbered calls.made calls.opens → calls_seen (cut_invocation (invocation_in (Some t)) calls) ≡ cut_item (transfer_seen base (Some t)) (calls_seen calls)
cut-apdu base (apdus.Invoke (pos n) linked code argument) t calls e proper numbered = rw e (own-closed n calls numbered)
cut-apdu base (apdus.Invoke (negsuc n) linked code argument) t calls e proper numbered = absurd proper.0
cut-apdu base (apdus.Result id returned) t calls e proper numbered = rw e refl
cut-apdu base (apdus.Error id code parameter) t calls e proper numbered = rw e refl
cut-apdu base (apdus.Reject id problem) t calls e proper numbered = rw e refl

cut-seen : (base : Base) (t : Option Transfer) (calls : Calls) → IsProperCurrent base t → AreNumbered calls.made calls.opens → calls_seen (cut_invocation (invocation_in t) calls) ≡ cut_item (transfer_seen base t) (calls_seen calls)
cut-seen base None calls proper numbered = refl
cut-seen base (Some t) calls proper numbered = cut-apdu base t.item.apdu t calls refl proper numbered

pub discard_ack-taken : (free : Free) (base : Base) (proposed : List Proposal) (body : Body) → IsSoundBody Reliable base body → IsJoined Reliable body → IsProperCurrent (at Reliable base) body.sending.current → MayTake (setup_seen free Reliable base) (role_seen base.initiator) (seen (at Reliable base) body) model_discard_answer → TakenAs free Reliable base proposed body (OfActivities DiscardAck) model_discard_answer Nothing
discard_ack-taken free base proposed body sound joined_ proper may =
    let put : model.Calls → states.State = λ calls. record (seen (at Reliable base) body) { awaits = model_no_answer; sets = record { held = set_seen body.sets.inter; inter = set_seen body.sets.inter; own = [] }; calls = calls; outgoing = record (seen (at Reliable base) body).outgoing { transfer = None } } in
    record {
      no_fault = fine (at Reliable base) body (OfActivities DiscardAck) (awaits-discard body.link.awaits may.asked) refl;
      chosen = tt;
      after = ap put (cut-seen (at Reliable base) body.sending.current body.calls proper sound.numbered);
      means = tt;
    }
