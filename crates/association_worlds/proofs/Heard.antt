-- A word that means itself is heard as itself: what its unit says is asked of the unit and of the word alike, whatever the user
-- data are.
use Rattle.std.proofs.Common.{◌≡◌, refl, sym, ap, subst, ◌∙◌, ℕ, List, ◌∷◌, true, false, None, Ok}
use Rattle.std.specs.Prelude.{Bool, not, ◌||◌, Option, Some, Result, if◌then◌else◌}
use Rattle.osi_base.specs.declared.session_word.SessionWord.{SessionWord}
use Rattle.osi_base.specs.declared.session_word.SessionWord.TheVariants as units
use Rattle.association_reading.specs.end_rules.Base.{Base, Fault, is_bare}
use Rattle.association_reading.specs.end_rules.Messages.{Message, Word, Session, Transport, unit_of}
use Rattle.association_reading.specs.end_rules.State.{Body, Awaited, NoAnswer, RestartOf, InterruptOf, DiscardOf, ReleaseOf, passes_over, is_joined, is_carrying}
use Rattle.association_reading.specs.end_rules.Faults.{fault_if, or_fault, session_fault, transport_fault}
use Rattle.association_reading.specs.end_rules.Purging.{is_purged}
use Rattle.association_reading.specs.end_rules.InPlace.{is_in_place}
use Rattle.association_reading.specs.end_rules.Reacting.{Reaction, Passes, Takes, Fails, fails, fault_above, word_fault, on_word, react_to_word, react_to_session, react}
use Rattle.association_reading.specs.association_wire.Units.{user_octets}
use Rattle.stub_tables.specs.declared.tables.Tables.{Tables}
use Rattle.spdu_codec.specs.Places.{user_places}
use Rattle.spdu_codec.specs.Written.{stands_alone}
use Rattle.agreement.specs.Sets.{Role}
use Rattle.agreement.specs.Sets.Role.{Initiator, Responder}
use Rattle.said_words.specs.end_model.BothEnds.{base_at, Two, body_at, coming_to}
use Rattle.said_words.specs.reliable_model.Ledgers.{Ledger}
use Rattle.association_reading.specs.association_wire.Written.{with_user, tsdu_of}
use Rattle.association_reading.specs.Front.{OfSession}
use Rattle.association_reading.specs.Meaning.{meaning}
use Rattle.association_reading.specs.Reacting.{on_meaning, react_to_unit, react_to}
use Rattle.said_words.specs.Calls.{Speaks}
use Rattle.association_worlds.specs.InTransit.{start_in, front_of}
use Rattle.association_worlds.specs.Laws.{MeantIsHeard}

purged-same : (initiator : Bool) (user : Option (List ℕ)) (unit : SessionWord) (awaited : Awaited) → is_purged initiator awaited (with_user user unit) ≡ is_purged initiator awaited unit
purged-same initiator user (units.Connect c) NoAnswer = refl
purged-same initiator user (units.Connect c) (RestartOf own) = refl
purged-same initiator user (units.Connect c) InterruptOf = refl
purged-same initiator user (units.Connect c) DiscardOf = refl
purged-same initiator user (units.Connect c) ReleaseOf = refl
purged-same initiator user (units.Accept o v i r u) NoAnswer = refl
purged-same initiator user (units.Accept o v i r u) (RestartOf own) = refl
purged-same initiator user (units.Accept o v i r u) InterruptOf = refl
purged-same initiator user (units.Accept o v i r u) DiscardOf = refl
purged-same initiator user (units.Accept o v i r u) ReleaseOf = refl
purged-same initiator user (units.Refuse t r u) NoAnswer = refl
purged-same initiator user (units.Refuse t r u) (RestartOf own) = refl
purged-same initiator user (units.Refuse t r u) InterruptOf = refl
purged-same initiator user (units.Refuse t r u) DiscardOf = refl
purged-same initiator user (units.Refuse t r u) ReleaseOf = refl
purged-same initiator user (units.Finish t u) NoAnswer = refl
purged-same initiator user (units.Finish t u) (RestartOf own) = refl
purged-same initiator user (units.Finish t u) InterruptOf = refl
purged-same initiator user (units.Finish t u) DiscardOf = refl
purged-same initiator user (units.Finish t u) ReleaseOf = refl
purged-same initiator user (units.Disconnect u) NoAnswer = refl
purged-same initiator user (units.Disconnect u) (RestartOf own) = refl
purged-same initiator user (units.Disconnect u) InterruptOf = refl
purged-same initiator user (units.Disconnect u) DiscardOf = refl
purged-same initiator user (units.Disconnect u) ReleaseOf = refl
purged-same initiator user (units.Abort t u) NoAnswer = refl
purged-same initiator user (units.Abort t u) (RestartOf own) = refl
purged-same initiator user (units.Abort t u) InterruptOf = refl
purged-same initiator user (units.Abort t u) DiscardOf = refl
purged-same initiator user (units.Abort t u) ReleaseOf = refl
purged-same initiator user units.AbortAccept NoAnswer = refl
purged-same initiator user units.AbortAccept (RestartOf own) = refl
purged-same initiator user units.AbortAccept InterruptOf = refl
purged-same initiator user units.AbortAccept DiscardOf = refl
purged-same initiator user units.AbortAccept ReleaseOf = refl
purged-same initiator user (units.GiveTokens t) NoAnswer = refl
purged-same initiator user (units.GiveTokens t) (RestartOf own) = refl
purged-same initiator user (units.GiveTokens t) InterruptOf = refl
purged-same initiator user (units.GiveTokens t) DiscardOf = refl
purged-same initiator user (units.GiveTokens t) ReleaseOf = refl
purged-same initiator user (units.PleaseTokens t u) NoAnswer = refl
purged-same initiator user (units.PleaseTokens t u) (RestartOf own) = refl
purged-same initiator user (units.PleaseTokens t u) InterruptOf = refl
purged-same initiator user (units.PleaseTokens t u) DiscardOf = refl
purged-same initiator user (units.PleaseTokens t u) ReleaseOf = refl
purged-same initiator user units.GiveTokensConfirm NoAnswer = refl
purged-same initiator user units.GiveTokensConfirm (RestartOf own) = refl
purged-same initiator user units.GiveTokensConfirm InterruptOf = refl
purged-same initiator user units.GiveTokensConfirm DiscardOf = refl
purged-same initiator user units.GiveTokensConfirm ReleaseOf = refl
purged-same initiator user units.GiveTokensAck NoAnswer = refl
purged-same initiator user units.GiveTokensAck (RestartOf own) = refl
purged-same initiator user units.GiveTokensAck InterruptOf = refl
purged-same initiator user units.GiveTokensAck DiscardOf = refl
purged-same initiator user units.GiveTokensAck ReleaseOf = refl
purged-same initiator user (units.TypedData u) NoAnswer = refl
purged-same initiator user (units.TypedData u) (RestartOf own) = refl
purged-same initiator user (units.TypedData u) InterruptOf = refl
purged-same initiator user (units.TypedData u) DiscardOf = refl
purged-same initiator user (units.TypedData u) ReleaseOf = refl
purged-same initiator user (units.Data u) NoAnswer = refl
purged-same initiator user (units.Data u) (RestartOf own) = refl
purged-same initiator user (units.Data u) InterruptOf = refl
purged-same initiator user (units.Data u) DiscardOf = refl
purged-same initiator user (units.Data u) ReleaseOf = refl
purged-same initiator user (units.Mark n) NoAnswer = refl
purged-same initiator user (units.Mark n) (RestartOf own) = refl
purged-same initiator user (units.Mark n) InterruptOf = refl
purged-same initiator user (units.Mark n) DiscardOf = refl
purged-same initiator user (units.Mark n) ReleaseOf = refl
purged-same initiator user (units.MarkAck n) NoAnswer = refl
purged-same initiator user (units.MarkAck n) (RestartOf own) = refl
purged-same initiator user (units.MarkAck n) InterruptOf = refl
purged-same initiator user (units.MarkAck n) DiscardOf = refl
purged-same initiator user (units.MarkAck n) ReleaseOf = refl
purged-same initiator user (units.Resynchronize n u) NoAnswer = refl
purged-same initiator user (units.Resynchronize n u) (RestartOf own) = refl
purged-same initiator user (units.Resynchronize n u) InterruptOf = refl
purged-same initiator user (units.Resynchronize n u) DiscardOf = refl
purged-same initiator user (units.Resynchronize n u) ReleaseOf = refl
purged-same initiator user (units.ResynchronizeAck n u) NoAnswer = refl
purged-same initiator user (units.ResynchronizeAck n u) (RestartOf own) = refl
purged-same initiator user (units.ResynchronizeAck n u) InterruptOf = refl
purged-same initiator user (units.ResynchronizeAck n u) DiscardOf = refl
purged-same initiator user (units.ResynchronizeAck n u) ReleaseOf = refl
purged-same initiator user (units.ActivityStart a) NoAnswer = refl
purged-same initiator user (units.ActivityStart a) (RestartOf own) = refl
purged-same initiator user (units.ActivityStart a) InterruptOf = refl
purged-same initiator user (units.ActivityStart a) DiscardOf = refl
purged-same initiator user (units.ActivityStart a) ReleaseOf = refl
purged-same initiator user (units.ActivityResume a m) NoAnswer = refl
purged-same initiator user (units.ActivityResume a m) (RestartOf own) = refl
purged-same initiator user (units.ActivityResume a m) InterruptOf = refl
purged-same initiator user (units.ActivityResume a m) DiscardOf = refl
purged-same initiator user (units.ActivityResume a m) ReleaseOf = refl
purged-same initiator user (units.ActivityInterrupt r) NoAnswer = refl
purged-same initiator user (units.ActivityInterrupt r) (RestartOf own) = refl
purged-same initiator user (units.ActivityInterrupt r) InterruptOf = refl
purged-same initiator user (units.ActivityInterrupt r) DiscardOf = refl
purged-same initiator user (units.ActivityInterrupt r) ReleaseOf = refl
purged-same initiator user units.ActivityInterruptAck NoAnswer = refl
purged-same initiator user units.ActivityInterruptAck (RestartOf own) = refl
purged-same initiator user units.ActivityInterruptAck InterruptOf = refl
purged-same initiator user units.ActivityInterruptAck DiscardOf = refl
purged-same initiator user units.ActivityInterruptAck ReleaseOf = refl
purged-same initiator user (units.ActivityDiscard r) NoAnswer = refl
purged-same initiator user (units.ActivityDiscard r) (RestartOf own) = refl
purged-same initiator user (units.ActivityDiscard r) InterruptOf = refl
purged-same initiator user (units.ActivityDiscard r) DiscardOf = refl
purged-same initiator user (units.ActivityDiscard r) ReleaseOf = refl
purged-same initiator user units.ActivityDiscardAck NoAnswer = refl
purged-same initiator user units.ActivityDiscardAck (RestartOf own) = refl
purged-same initiator user units.ActivityDiscardAck InterruptOf = refl
purged-same initiator user units.ActivityDiscardAck DiscardOf = refl
purged-same initiator user units.ActivityDiscardAck ReleaseOf = refl
purged-same initiator user (units.ActivityEnd n) NoAnswer = refl
purged-same initiator user (units.ActivityEnd n) (RestartOf own) = refl
purged-same initiator user (units.ActivityEnd n) InterruptOf = refl
purged-same initiator user (units.ActivityEnd n) DiscardOf = refl
purged-same initiator user (units.ActivityEnd n) ReleaseOf = refl
purged-same initiator user (units.ActivityEndAck n) NoAnswer = refl
purged-same initiator user (units.ActivityEndAck n) (RestartOf own) = refl
purged-same initiator user (units.ActivityEndAck n) InterruptOf = refl
purged-same initiator user (units.ActivityEndAck n) DiscardOf = refl
purged-same initiator user (units.ActivityEndAck n) ReleaseOf = refl

place-same : (base : Base) (body : Body) (user : Option (List ℕ)) (unit : SessionWord) → is_in_place base body (with_user user unit) ≡ is_in_place base body unit
place-same base body user (units.Connect c) = refl
place-same base body user (units.Accept o v i r u) = refl
place-same base body user (units.Refuse t r u) = refl
place-same base body user (units.Finish t u) = refl
place-same base body user (units.Disconnect u) = refl
place-same base body user (units.Abort t u) = refl
place-same base body user units.AbortAccept = refl
place-same base body user (units.GiveTokens t) = refl
place-same base body user (units.PleaseTokens t u) = refl
place-same base body user units.GiveTokensConfirm = refl
place-same base body user units.GiveTokensAck = refl
place-same base body user (units.TypedData u) = refl
place-same base body user (units.Data u) = refl
place-same base body user (units.Mark n) = refl
place-same base body user (units.MarkAck n) = refl
place-same base body user (units.Resynchronize n u) = refl
place-same base body user (units.ResynchronizeAck n u) = refl
place-same base body user (units.ActivityStart a) = refl
place-same base body user (units.ActivityResume a m) = refl
place-same base body user (units.ActivityInterrupt r) = refl
place-same base body user units.ActivityInterruptAck = refl
place-same base body user (units.ActivityDiscard r) = refl
place-same base body user units.ActivityDiscardAck = refl
place-same base body user (units.ActivityEnd n) = refl
place-same base body user (units.ActivityEndAck n) = refl

-- ---- the unit, and the word

abbrev NeverFails : Reaction → Type 0
NeverFails (Fails fault body aborts shown) = ⊥
NeverFails (Takes body answers shown) = Unit {0}
NeverFails Passes = Unit {0}

abbrev IsTaken : Reaction → Type 0
IsTaken (Takes body answers shown) = Unit {0}
IsTaken (Fails fault body aborts shown) = ⊥
IsTaken Passes = ⊥

module _ (base : Base) (body : Body) (word : Word) (start : ℕ) where
  abbrev unit : SessionWord
  unit = with_user (user_octets base.tables word) (unit_of word)

  abbrev read : Result Word Fault
  read = meaning base body unit start

  -- what is asked one after the other, of the unit with these answers and of the word
  abbrev asked-unit : Bool → Bool → Bool → Result Word Fault → Reaction
  asked-unit connected purged placed meant =
      if not connected then fails body body.link.accepted transport_fault
      else (if purged then Passes else (if not placed then fails body body.link.accepted session_fault else on_meaning base body unit meant))

  abbrev asked-word : Bool → Bool → Option Fault → Reaction
  asked-word connected purged fault = if not connected then fails body body.link.accepted transport_fault else (if purged then Passes else on_word base body word fault)

  same : (connected purged placed : Bool) (above : Option Fault) (meant : Result Word Fault) → react base body (Session word) ≡ asked-word connected purged (or_fault (fault_if (not placed) session_fault) above)
      → NeverFails (asked-word connected purged (or_fault (fault_if (not placed) session_fault) above))
      → (IsTaken (asked-word connected purged (or_fault (fault_if (not placed) session_fault) above)) → meant ≡ Ok word)
      → asked-unit connected purged placed meant ≡ asked-word connected purged (or_fault (fault_if (not placed) session_fault) above)
  same false purged placed above meant e n m = refl
  same true true placed above meant e n m = refl
  same true false false above meant e n m = absurd n
  same true false true (Some fault) meant e n m = absurd n
  same true false true None meant e n m = ap (on_meaning base body unit) (m tt) ∙ e

  -- of an end that isn't over
  alive : passes_over body.link.phase ≡ false → is_bare base.mode ≡ false → react base body (Session word) ≡ react_to_word base body word
  alive up associated = (λ i. if up i then Passes else react_to_session (is_bare base.mode) base body word) ∙ ap (λ (b : Bool). react_to_session b base body word) associated

  -- one that is over passes over both
  over-so : passes_over body.link.phase ≡ true → react_to base body (OfSession unit start) ≡ Some (react base body (Session word))
  over-so up = (λ i. Some (if up i then Passes else react_to_unit base body unit start)) ∙ sym (λ i. Some (if up i then Passes else react_to_session (is_bare base.mode) base body word))

  abbrev connected : Bool
  connected = is_joined body.link.stage || is_carrying body.link.stage

  abbrev purged : Bool
  purged = is_purged base.initiator body.link.awaits (unit_of word)

  abbrev placed : Bool
  placed = is_in_place base body (unit_of word)

  to-unit : react_to_unit base body unit start ≡ asked-unit connected purged placed read
  to-unit =
      (λ i. asked-unit connected (purged-same base.initiator (user_octets base.tables word) (unit_of word) body.link.awaits i) (is_in_place base body unit) read)
      ∙ (λ i. asked-unit connected purged (place-same base body (user_octets base.tables word) (unit_of word) i) read)

  up-so : passes_over body.link.phase ≡ false → is_bare base.mode ≡ false → NeverFails (react base body (Session word)) → (IsTaken (react base body (Session word)) → read ≡ Ok word)
      → react_to base body (OfSession unit start) ≡ Some (react base body (Session word))
  up-so up associated n m =
      let e : react base body (Session word) ≡ asked-word connected purged (word_fault base body word) = alive up associated in
      (λ i. Some (if up i then Passes else react_to_unit base body unit start))
      ∙ ap (λ (r : Reaction). Some r) (to-unit ∙ same connected purged placed (fault_above base body word) read e (subst NeverFails e n) (λ t. m (subst IsTaken (sym e) t)) ∙ sym e)

pub meant-heard : MeantIsHeard
meant-heard common h = record { carried = h.carried; heard = λ two ledger g role message left e. go two ledger g role left message e }
  where
    associated-at : (role : Role) → is_bare (base_at role common).mode ≡ false
    associated-at Initiator = h.associated
    associated-at Responder = h.associated

    tables-at : (role : Role) → (base_at role common).tables ≡ common.tables
    tables-at Initiator = refl
    tables-at Responder = refl

    never : (two : Two) (ledger : Ledger) → Speaks common two ledger → (role : Role) (message : Message) (left : List Message) → coming_to role two ≡ message ∷ left → (r : Reaction) → react (base_at role common) (body_at role two) message ≡ r → NeverFails r
    never two ledger g role message left e (Fails fault body aborts shown) k = h.faultless two ledger g.goes role message left fault body aborts shown e k
    never two ledger g role message left e (Takes body answers shown) k = tt
    never two ledger g role message left e Passes k = tt

    taken : (two : Two) (ledger : Ledger) → Speaks common two ledger → (role : Role) (word : Word) (left : List Message) → coming_to role two ≡ Session word ∷ left → (start : ℕ) → (r : Reaction) → react (base_at role common) (body_at role two) (Session word) ≡ r → IsTaken r
        → meaning (base_at role common) (body_at role two) (with_user (user_octets (base_at role common).tables word) (unit_of word)) start ≡ Ok word
    taken two ledger g role word left e start (Takes body answers shown) k t = h.meant two ledger g role word left body answers shown start e k
    taken two ledger g role word left e start (Fails fault body aborts shown) k t = absurd t
    taken two ledger g role word left e start Passes k t = absurd t

    of-word : (two : Two) (ledger : Ledger) → Speaks common two ledger → (role : Role) (left : List Message) (word : Word) (start : ℕ) → coming_to role two ≡ Session word ∷ left → (p : Bool) → passes_over (body_at role two).link.phase ≡ p
        → react_to (base_at role common) (body_at role two) (OfSession (with_user (user_octets (base_at role common).tables word) (unit_of word)) start) ≡ Some (react (base_at role common) (body_at role two) (Session word))
    of-word two ledger g role left word start e true up = over-so (base_at role common) (body_at role two) word start up
    of-word two ledger g role left word start e false up =
        up-so (base_at role common) (body_at role two) word start up (associated-at role) (never two ledger g role (Session word) left e _ refl) (taken two ledger g role word left e start _ refl)

    go : (two : Two) (ledger : Ledger) → Speaks common two ledger → (role : Role) (left : List Message) (message : Message) → coming_to role two ≡ message ∷ left
        → react_to (base_at role common) (body_at role two) (front_of common.tables message) ≡ Some (react (base_at role common) (body_at role two) message)
    go two ledger g role left (Transport _) e = refl
    go two ledger g role left (Session word) e =
        subst (λ (t : Tables). react_to (base_at role common) (body_at role two) (OfSession (with_user (user_octets t word) (unit_of word)) (start_in (stands_alone (with_user (user_octets common.tables word) (unit_of word))) (user_places (tsdu_of common.tables word)))) ≡ Some (react (base_at role common) (body_at role two) (Session word))) (tables-at role)
        (of-word two ledger g role left word _ e (passes_over (body_at role two).link.phase) refl)
