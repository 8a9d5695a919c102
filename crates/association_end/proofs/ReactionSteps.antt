-- The reaction to what stood first: it is made of steps of reading.
use Rattle.std.proofs.Common.{◌≡◌, ℕ, ◌<◌, Bool, true, false, if◌then◌else◌, List, [], ◌∷◌, ◌++◌, length, Option, Some, None, refl, sym, ap, subst, ◌∙◌, arith}
use Rattle.std.proofs.lemmas.List.{append-nil}
use Rattle.std.specs.Prelude.{option_map, Result, Ok, Err}
use Rattle.tpkt.specs.declared.packet.TFault.{TFault}
use Rattle.tpkt.specs.declared.reader_state.ReaderState.{ReaderState}
use Rattle.dialogue.specs.declared.indication.Indication.{Indication}
use Rattle.end_rules.specs.Base.{Base, Fault}
use Rattle.end_rules.specs.Messages.{Message, Transport, Session, Word}
use Rattle.end_rules.specs.State.{Body, passes_over}
use Rattle.end_rules.specs.Reacting.{Reaction, Passes, Takes, Fails, fails as rule_fails}
use Rattle.end_rules.specs.History.{took, passed, fault}
use Rattle.association_line.specs.association_reading.Front.{Front, Short, OfTransport, OfSession, Faulty, Intake, first_front, front_held, first_in, without_first, behind_first}
use Rattle.association_line.specs.association_reading.Meaning.{meaning}
use Rattle.association_line.specs.association_reading.Reacting.{react_to, grammar_fault}
use Rattle.association_line.specs.Line.{Line, after, after_all, takes_first, first_size, size_after}
use Rattle.association_line.specs.Feeding.{word_in, message_in, taking, failing, Reads, is_over, waits, passes, takes, fails, one_passed, one_taken, one_failed}
use Rattle.association_line.specs.Reactions.{ReactionsAreSteps, IsTaken, IsFailed}
use Rattle.association_end.specs.View.{EndView, base}
use Rattle.association_end.specs.Progress.{ReadOne, ReadAll, ReadOneOrAll, count_in, messages_left}
use Rattle.association_end.specs.OneMessage as reacted
use Rattle.association_end.specs.OneMessage.{ReactionDone, with_body, with_line, with_came, sending, size_of_front}
use Rattle.association_end.specs.Sound.{IsMessage, AreMessages, HasMessages}
use Rattle.association_end.proofs.Sent.{waiting_with, answered_all, aborted_all}

-- ---- which fronts are passed over and taken

abbrev IsUnit : Front → Type 0
IsUnit Short = ⊥
IsUnit (OfTransport unit) = Unit {0}
IsUnit (OfSession unit start) = Unit {0}
IsUnit (Faulty layer place) = ⊥

-- a reaction that isn't a fault
abbrev IsCalm : Option Reaction → Type 0
IsCalm None = ⊥
IsCalm (Some Passes) = Unit {0}
IsCalm (Some (Takes body answers shown)) = Unit {0}
IsCalm (Some (Fails f body aborts shown)) = ⊥

calm_unit : (b : Base) (body : Body) (front : Front) → passes_over body.link.phase ≡ false → IsCalm (react_to b body front) → IsUnit front
calm_unit b body Short up calm = calm
calm_unit b body (OfTransport unit) up calm = tt
calm_unit b body (OfSession unit start) up calm = tt
calm_unit b body (Faulty layer at) up calm =
    subst (λ (over_ : Bool). IsCalm (Some (if over_ then Passes else rule_fails body body.link.accepted (grammar_fault body layer at)))) up calm

-- what is told of the octets that are held alone is no unit
held_unit : (f : Option TFault) → IsUnit (front_held f) → ⊥
held_unit None u = u
held_unit (Some f) u = u

one_fewer : (held : ReaderState) (fronts : List Front) → IsUnit (first_front held fronts) → length (without_first fronts) < length fronts
one_fewer held [] u = absurd (held_unit held.fault u)
one_fewer held (front ∷ more) u = omega arith

fewer_behind : (intake : Intake) → IsUnit (first_in intake) → length (behind_first intake).fronts < length intake.fronts
fewer_behind intake u = one_fewer intake.held intake.fronts u

-- ---- less than a message is left where it is

short_list : (held : ReaderState) (fronts : List Front) → AreMessages fronts → first_front held fronts ≡ Short → without_first fronts ≡ fronts
short_list held [] m e = refl
short_list held (front ∷ more) m e = absurd (subst IsMessage e m.0)

short_stays : (intake : Intake) → AreMessages intake.fronts → first_in intake ≡ Short → behind_first intake ≡ intake
short_stays intake m e = ap (λ (fs : List Front). record intake { fronts = fs }) (short_list intake.held intake.fronts m e)

-- ---- the size that a message names

size_session : (b : Base) (before : ℕ) (r : Result Word Fault) (m : Message) → word_in r ≡ Some m → size_after b before m ≡ before
size_session b before (Ok word) (Transport unit) e = cc
size_session b before (Ok word) (Session w) e = refl
size_session b before (Err f) m e = cc

size_is : (b : Base) (body : Body) (before : ℕ) (front : Front) (m : Message) → message_in b body front ≡ Some m → size_of_front (first_size b.initiator) before front ≡ size_after b before m
size_is b body before Short m e = cc
size_is b body before (OfTransport unit) m e = ap (size_after b before) (same m e)
  where
    same : (n : Message) → Some (Transport unit) ≡ Some n → Transport unit ≡ n
    same n p = cc
size_is b body before (OfSession unit start) m e = sym (size_session b before (meaning b body unit start) m e)
size_is b body before (Faulty layer place) m e = cc

-- ---- steps

module _ (old : EndView) (intake : Intake) (came : old.end.line.came ≡ Some intake) (up : passes_over old.end.body.link.phase ≡ false) where
  abbrev first : Front
  first = first_in intake

  abbrev mid : EndView
  mid = with_came (Some (behind_first intake)) old

  abbrev b : Base
  b = base old

  left_in : count_in old.end.line.came ≡ length intake.fronts
  left_in = ap count_in came

  fewer : IsUnit first → (new : EndView) → new.end.line.came ≡ Some (behind_first intake) → messages_left new < messages_left old
  fewer u new e =
      let h : length (behind_first intake).fronts < length intake.fronts = fewer_behind intake u in
      subst (λ (n : ℕ). n < count_in old.end.line.came) (sym (ap count_in e)) (subst (λ (n : ℕ). length (behind_first intake).fronts < n) (sym left_in) h)

  -- the first is off
  off : record old.end.line { came = Some (behind_first intake) } ≡ takes_first old.end.line
  off = ap (λ (c : Option Intake). record old.end.line { came = option_map behind_first c }) (sym came)

  pub passed_over : (new : EndView) (before after : List Indication) → react_to b old.end.body first ≡ Some Passes → new ≡ mid → after ≡ before → ReadOne old new before after
  passed_over new before later is n s = record {
    on = record {
      steps = passed ∷ [];
      told = [];
      made = record {
        tables = ap (λ (e : EndView). e.tables) n;
        config = ap (λ (e : EndView). e.config) n;
        end = ap (λ (e : EndView). e.end) n ∙ ap (λ (l : Line). record old.end { line = l }) off;
      };
      shown_is = s ∙ sym (append-nil before);
      goes_on = λ more told r. passes intake up came is r;
      begins_on = λ more r. one_passed intake up came is r;
    };
    fewer = fewer (calm_unit b old.end.body first up (subst IsCalm (sym is) tt)) new (ap (λ (e : EndView). e.end.line.came) n);
  }

  module _ (law : ReactionsAreSteps) where
    module _ (left : Body) (answers : List Message) (told : List Indication) (is : react_to b old.end.body first ≡ Some (Takes left answers told)) where
      abbrev taken : IsTaken b old.end.body first left answers
      taken = law.takings b old.end.body first left answers told is

      abbrev size : ℕ
      size = size_of_front (first_size old.config.initiator) old.end.line.size first

      abbrev taken_end : EndView
      taken_end = sending answers (with_line (record mid.end.line { size = size }) (with_body left mid))

      taken_line : record old.end.line { came = Some (behind_first intake); size = size } ≡ record (takes_first old.end.line) { size = size_after b old.end.line.size taken.message }
      taken_line = λ i. record (off i) { size = size_is b old.end.body old.end.line.size first taken.message taken.is i }

      taken_so : taken_end.end ≡ after_all b old.end (taking taken.message answers)
      taken_so =
          (λ i. record { body = taken.body_is i; line = waiting_with b answers (taken_line i) })
          ∙ sym (answered_all b (after b old.end (took taken.message)) taken.message answers)

      pub was_taken : (new : EndView) (before after : List Indication) → new ≡ taken_end → after ≡ before ++ told → ReadOne old new before after
      was_taken new before later n s = record {
        on = record {
          steps = taking taken.message answers;
          told = told;
          made = record {
            tables = ap (λ (e : EndView). e.tables) n;
            config = ap (λ (e : EndView). e.config) n;
            end = ap (λ (e : EndView). e.end) n ∙ taken_so;
          };
          shown_is = s;
          goes_on = λ more later_told r. takes intake taken.message left answers told up came taken.is is r;
          begins_on = λ more r. one_taken intake taken.message left answers told up came taken.is is r;
        };
        fewer = fewer (calm_unit b old.end.body first up (subst IsCalm (sym is) tt)) new (ap (λ (e : EndView). e.end.line.came) n);
      }

    module _ (f : Fault) (left : Body) (aborts : List Message) (told : List Indication) (is : react_to b old.end.body first ≡ Some (Fails f left aborts told)) where
      abbrev failed : IsFailed old.end.body left aborts
      failed = law.faults b old.end.body first f left aborts told is

      abbrev failed_end : EndView
      failed_end = with_came None (sending aborts (with_body left mid))

      failed_so : failed_end.end ≡ after_all b old.end (failing f aborts)
      failed_so =
          (λ i. record { body = failed.body_is i; line = waiting_with b aborts (record old.end.line { came = None }) })
          ∙ sym (aborted_all b (after b old.end (fault f.layer f.place f.reason)) aborts)

      ends_over : (new : EndView) → new ≡ failed_end → passes_over new.end.body.link.phase ≡ true
      ends_over new n = ap (λ (e : EndView). passes_over e.end.body.link.phase) n ∙ ap (λ (x : Body). passes_over x.link.phase) failed.body_is

      pub has_failed : (new : EndView) (before after : List Indication) → new ≡ failed_end → after ≡ before ++ told → ReadAll old new before after
      has_failed new before later n s = record {
        steps = failing f aborts;
        told = told;
        made = record {
          tables = ap (λ (e : EndView). e.tables) n;
          config = ap (λ (e : EndView). e.config) n;
          end = ap (λ (e : EndView). e.end) n ∙ failed_so;
        };
        shown_is = s;
        reads = fails intake f left aborts told up came is;
        rests = is_over (ends_over new n);
        begins_on = λ more r. one_failed intake f left aborts told up came is r;
      }

  -- less than a message stands first
  pub waited : (new : EndView) (before : List Indication) → HasMessages old.end.line.came → first ≡ Short → new ≡ mid → ReadAll old new before before
  waited new before m short n =
      let here : HasMessages (Some intake) = subst HasMessages came m in
      let same : mid ≡ old = ap (λ (c : Option Intake). with_came c old) (ap Some (short_stays intake here short) ∙ sym came) in
      let is : new ≡ old = n ∙ same in
      let rest : Reads (base old) old.end [] [] = waits intake up came short in
      record {
        steps = [];
        told = [];
        made = record {
          tables = ap (λ (e : EndView). e.tables) is;
          config = ap (λ (e : EndView). e.config) is;
          end = ap (λ (e : EndView). e.end) is;
        };
        shown_is = sym (append-nil before);
        reads = rest;
        rests = subst (λ (e : EndView). Reads (base e) e.end [] []) (sym is) rest;
        begins_on = λ more r. r;
      }

-- as the code comes by it
pub reaction_read : (law : ReactionsAreSteps) (old mid new : EndView) (intake : Intake) (front : Front) (before after : List Indication) (more : Bool) → old.end.line.came ≡ Some intake → passes_over old.end.body.link.phase ≡ false
    → front ≡ first_in intake → mid ≡ with_came (Some (behind_first intake)) old → ReactionDone mid new front before after more → ReadOneOrAll more old new before after
reaction_read law old mid new intake front before later more came up first is d =
    let there : ReactionDone (with_came (Some (behind_first intake)) old) new (first_in intake) before later more
    = subst (λ (m : EndView). ReactionDone m new (first_in intake) before later more) is (subst (λ (f : Front). ReactionDone mid new f before later more) first d) in
    go more there
  where
    go : (k : Bool) → ReactionDone (with_came (Some (behind_first intake)) old) new (first_in intake) before later k → ReadOneOrAll k old new before later
    go true (reacted.passes e n s) = passed_over old intake came up new before later e n s
    go true (reacted.takes left answers told e n s) = was_taken old intake came up law left answers told e new before later n s
    go false (reacted.fails f left aborts told e n s) = has_failed old intake came up law f left aborts told e new before later n s
