-- The reactions of the code are those of the rules, step by step.
use Rattle.std.proofs.Common.{◌≡◌, List, Bool, true, false, not, if◌then◌else◌, Option, Some, None, refl, sym, ap, subst, ◌∙◌}
use Rattle.std.specs.Prelude.{Result, Ok, Err, IfOk, OnOk}
use Rattle.osi_base.specs.declared.fault.NoMemory.{NoMemory}
use Rattle.osi_base.specs.declared.layer_words.SetItem.{SetItem}
use Rattle.dialogue.specs.declared.indication.Indication.{Indication}
use Rattle.end_rules.specs.Base as base
use Rattle.end_rules.specs.Base.{Base, is_bare}
use Rattle.end_rules.specs.Messages as meant
use Rattle.end_rules.specs.Messages.{Word, ActivityWord, Start, Resume, End, EndAck, Interrupt, InterruptAck, Discard, DiscardAck, Transport, Session, unit_of}
use Rattle.end_rules.specs.State.{Body, passes_over}
use Rattle.end_rules.specs.Purging.{is_purged, is_transport_purged}
use Rattle.end_rules.specs.InPlace.{is_in_place}
use Rattle.end_rules.specs.Faults.{or_fault, fault_if, over, session_fault, transport_fault}
use Rattle.end_rules.specs.TakesTransport.{transport_unit_fault}
use Rattle.end_rules.specs.TakesActivities.{activity_fault}
use Rattle.end_rules.specs.Reacting as rules
use Rattle.end_rules.specs.Reacting.{fault_above, word_fault, fails, on_word, react_to_word, on_transport, react_to_transport, react_to_session, react_alive, react}
use Rattle.association_place.specs.association_reading.Reacting.{has_connection}
use Rattle.association_connecting.specs.association_answers.declared.brought.Brought.{Brought}
use Rattle.association_connecting.specs.association_answers.declared.brought.Reaction.{Reaction}
use Rattle.association_connecting.specs.association_answers.declared.brought.Reaction.TheVariants as reaction
use Rattle.association_connecting.specs.association_answers.BroughtAs.{TakenAs, FailsAs}
use Rattle.association_takes.specs.ActivityWords.{is_end}
use Rattle.association_reacting.specs.SeenReaction.{TakesSo, ReactsAs}

-- ---- small things

pub nothing_later : (b : Bool) (fault : base.Fault) (later : Option base.Fault) → or_fault (fault_if b fault) later ≡ None → later ≡ None
nothing_later true fault later e = cc
nothing_later false fault later e = e

-- nothing is wrong in a unit of an activity but its end
pub no_fault : (b : Base) (body : Body) (word : ActivityWord) → is_end word ≡ false → activity_fault b body word ≡ None
no_fault b body (Start activity) e = refl
no_fault b body (Resume activity mark) e = refl
no_fault b body (End number) e = cc
no_fault b body (EndAck number) e = refl
no_fault b body (Interrupt reason) e = refl
no_fault b body InterruptAck e = refl
no_fault b body (Discard reason) e = refl
no_fault b body DiscardAck e = refl

-- ---- reactions

pub failed_so : (old new : Body) (accepted : List SetItem) (fault : base.Fault) (r : Reaction) → new ≡ over old → FailsAs old accepted fault r → ReactsAs (fails old accepted fault) old new r
failed_so old new accepted fault reaction.Passes e p = absurd p
failed_so old new accepted fault (reaction.Takes taken) e p = absurd p
failed_so old new accepted fault (reaction.Fails came aborts shown) e p = record {
  fault = fault;
  layer = p.layer;
  place = p.place;
  reason = p.reason;
  is = λ i. rules.Fails fault (sym e i) (sym p.aborts_are i) (sym p.shown_is i);
}

pub taken_so : (rule : rules.Reaction) (new after : Body) (answers : List meant.Message) (shown : List Indication) (taken : Brought)
    → rule ≡ rules.Takes after answers shown → new ≡ after → TakenAs answers shown taken → TakesSo rule new taken
taken_so rule new after answers shown taken e b t = record { is = e ∙ (λ i. rules.Takes (sym b i) (sym t.answers_are i) (sym t.shown_is i)) }

-- by another rule that is the same
pub reacts_by : (rule same : rules.Reaction) (old new : Body) (r : Reaction) → rule ≡ same → ReactsAs same old new r → ReactsAs rule old new r
reacts_by rule same old new r e p = subst (λ (x : rules.Reaction). ReactsAs x old new r) (sym e) p

-- as the code comes by them
pub result_by : (rule same : rules.Reaction) (old new : Body) (r : Result Reaction NoMemory) → rule ≡ same → IfOk r (ReactsAs same old new) → IfOk r (ReactsAs rule old new)
result_by rule same old new r e p = subst (λ (x : rules.Reaction). IfOk r (ReactsAs x old new)) (sym e) p

pub result_failed : (old new : Body) (accepted set : List SetItem) (fault : base.Fault) (r : Result Reaction NoMemory) → set ≡ accepted → OnOk r (new ≡ over old) → IfOk r (FailsAs old set fault) → IfOk r (ReactsAs (fails old accepted fault) old new)
result_failed old new accepted set fault (Ok r) e b p = failed_so old new accepted fault r b (subst (λ (s : List SetItem). FailsAs old s fault r) e p)
result_failed old new accepted set fault (Err x) e b p = tt

-- ---- the rules, path by path

module _ (b : Base) (body : Body) (word : Word) where
  abbrev on_right : rules.Reaction
  on_right = if is_purged b.initiator body.link.awaits (unit_of word) then rules.Passes else on_word b body word (word_fault b body word)

  pub unconnected : has_connection body ≡ false → react_to_word b body word ≡ fails body body.link.accepted transport_fault
  unconnected e = ap (λ (c : Bool). if not c then fails body body.link.accepted transport_fault else on_right) e

  pub purged : has_connection body ≡ true → is_purged b.initiator body.link.awaits (unit_of word) ≡ true → react_to_word b body word ≡ rules.Passes
  purged e p =
      ap (λ (c : Bool). if not c then fails body body.link.accepted transport_fault else on_right) e
      ∙ ap (λ (c : Bool). if c then rules.Passes else on_word b body word (word_fault b body word)) p

  pub looked_at : has_connection body ≡ true → is_purged b.initiator body.link.awaits (unit_of word) ≡ false → react_to_word b body word ≡ on_word b body word (word_fault b body word)
  looked_at e p =
      ap (λ (c : Bool). if not c then fails body body.link.accepted transport_fault else on_right) e
      ∙ ap (λ (c : Bool). if c then rules.Passes else on_word b body word (word_fault b body word)) p

  pub misplaced : is_in_place b body (unit_of word) ≡ false → word_fault b body word ≡ Some session_fault
  misplaced e = ap (λ (c : Bool). or_fault (fault_if (not c) session_fault) (fault_above b body word)) e

  pub in_place : is_in_place b body (unit_of word) ≡ true → word_fault b body word ≡ fault_above b body word
  in_place e = ap (λ (c : Bool). or_fault (fault_if (not c) session_fault) (fault_above b body word)) e

module _ (b : Base) (body : Body) where
  pub transport_purged : (unit : meant.TransportUnit) → is_transport_purged body.link.awaits ≡ true → react_to_transport b body unit ≡ rules.Passes
  transport_purged unit e = ap (λ (c : Bool). if c then rules.Passes else on_transport b body unit (transport_unit_fault b body unit)) e

  pub transport_looked_at : (unit : meant.TransportUnit) (fault : Option base.Fault) → is_transport_purged body.link.awaits ≡ false → fault ≡ transport_unit_fault b body unit → react_to_transport b body unit ≡ on_transport b body unit fault
  transport_looked_at unit fault e f =
      ap (λ (c : Bool). if c then rules.Passes else on_transport b body unit (transport_unit_fault b body unit)) e ∙ ap (on_transport b body unit) (sym f)

  pub passed_over : (message : meant.Message) → passes_over body.link.phase ≡ true → react b body message ≡ rules.Passes
  passed_over message e = ap (λ (c : Bool). if c then rules.Passes else react_alive b body message) e

  pub of_transport : (unit : meant.TransportUnit) → passes_over body.link.phase ≡ false → react b body (Transport unit) ≡ react_to_transport b body unit
  of_transport unit e = ap (λ (c : Bool). if c then rules.Passes else react_to_transport b body unit) e

  pub of_word : (word : Word) → is_bare b.mode ≡ false → passes_over body.link.phase ≡ false → react b body (Session word) ≡ react_to_word b body word
  of_word word m e = ap (λ (c : Bool). if c then rules.Passes else react_to_session (is_bare b.mode) b body word) e ∙ ap (λ (c : Bool). react_to_session c b body word) m
