-- In reliable mode the notes among what an end was shown in a whole run are those since its association stood: before, it was told
-- of no invocation.
use Rattle.std.proofs.Common.{◌≡◌, refl, true, false, ◌∙◌, sym, ap, subst, List, [], ◌∷◌, ◌++◌, map, inl, inr, Ok}
use Rattle.std.specs.Prelude.{Bool, ◌||◌, if◌then◌else◌}
use Rattle.osi_base.specs.declared.layer_words.Side.TheVariants.{A, B}
use Rattle.stub_tables.specs.declared.tables.Tables.{Tables}
use Rattle.dialogue.specs.declared.config.Config.{Config}
use Rattle.dialogue.specs.declared.config.Mode.TheVariants.{Reliable}
use Rattle.dialogue.specs.declared.indication.Indication.{Indication}
use Rattle.end_rules.specs.Base.{Base, Spellings}
use Rattle.end_rules.specs.Messages.{Message, Transport, Session, OfAssociation, OfData, OfMarks, OfActivities, Values, AlterContext, AlterContextAck, Connect, End}
use Rattle.end_rules.specs.State.{Body}
use Rattle.end_rules.specs.Connecting.{is_refused, recovers_in}
use Rattle.end_rules.specs.Requesting.{due_of}
use Rattle.end_rules.specs.ByItself.{OwnAct, SendsNow, EncodesOn}
use Rattle.end_rules.specs.Reacting.{Takes, react}
use Rattle.end_rules.specs.History.{Step, called, sent, took, answered, passed, broke, step_of}
use Rattle.end_rules.specs.World as sides
use Rattle.end_rules.specs.World.{World, Ends}
use Rattle.agreement.specs.Sets.{Role}
use Rattle.agreement.specs.Sets.Role.{Initiator, Responder}
use Rattle.end_model.specs.Seen.{Free}
use Rattle.end_model.specs.BothEnds as both_ends
use Rattle.end_model.specs.BothEnds.{Common, base_at, Two, coming_to}
use Rattle.end_model.specs.Sharing.{side_of}
use Rattle.end_model.specs.Acting.{apdus_of}
use Rattle.reliable_model.specs.Ledgers.{Ledger, ReachedWithLedger, own_messages}
use Rattle.reliable_model.specs.ReliableEnds.{reliable_common}
use Rattle.reliable_model.proofs.Machine as machine
use Rattle.outcome_laws.specs.Exchanges.{Exchanges, EndExchange, ReachedWithExchanges, exchange_of, on_exchange, asked_by, calls_so, gets, stays, meets, loses, takes_so, still_after}
use Rattle.outcome_laws.specs.Exchanges as reached_exchanges
use Rattle.outcome_laws.proofs.Once.{keeps, still-keeps}
use Rattle.outcome_laws.proofs.Places.{exchanges-reached}
use Rattle.outcome_laws.proofs.Transferred.{shown_of, shows-so}
use Rattle.said_words.proofs.TransferEnds.{is_early}
use Rattle.run_laws.specs.Showing.{shown_in}
use Rattle.association_runs.specs.Worlds.{stepping}
use Rattle.association_runs.specs.Sides.{ends_for}
use Rattle.association_runs.proofs.Histories.{end_for, body-for}
use Rattle.association_runs.proofs.Keeps.{IsQuiet, Keeps}
use Rattle.association_runs.proofs.Joint.{Joint}
use Rattle.association_runs.proofs.Transcribed.{seen_at, TakesNone, TakeNone, sents-none, answers-none, own-same, peer-same}
use Rattle.association_runs.proofs.Noted.{ArePlain, association-plain, settled-plain, marks-plain, transport-plain, activity-plain}
use Rattle.association_runs.proofs.Telling.{notes_of, notes-append, plain-notes}
use Rattle.run_lemmas.proofs.Phases.{broken-early}
use Rattle.codec_runs.proofs.ReliableEarly as early

act-none : (own : OwnAct) → TakeNone (step_of own ∷ [])
act-none (SendsNow message) = (tt, tt)
act-none (EncodesOn context) = (tt, tt)

quiet-none : (x : Step) → IsQuiet x → TakesNone x
quiet-none (took message) q = absurd q
quiet-none _ q = tt

on-shown : (role : Role) (f g : EndExchange → EndExchange) → ((x : EndExchange) → (f x).shown ≡ x.shown) → ((x : EndExchange) → (g x).shown ≡ x.shown) → (d : Exchanges) (r : Role) → (exchange_of r (on_exchange role f g d)).shown ≡ (exchange_of r d).shown
on-shown Initiator f g s t d Initiator = s d.a
on-shown Initiator f g s t d Responder = t d.b
on-shown Responder f g s t d Initiator = t d.a
on-shown Responder f g s t d Responder = s d.b

module _ (ends : Ends) where
  seen-none : (role : Role) (w : World) (xs : List Step) → TakeNone xs → (r : Role) → seen_at ends (side_of r) (stepping (side_of role) w xs) ≡ seen_at ends (side_of r) w
  seen-none Initiator w xs n Initiator = own-same ends A w xs n
  seen-none Initiator w xs n Responder = peer-same ends A w xs
  seen-none Responder w xs n Initiator = peer-same ends B w xs
  seen-none Responder w xs n Responder = own-same ends B w xs n

  abbrev pub Same : World → Exchanges → Type 0
  Same w d = (r : Role) → notes_of (seen_at ends (side_of r) w) ≡ notes_of (exchange_of r d).shown

  unchanged : (w v : World) (d e : Exchanges) → ((r : Role) → seen_at ends (side_of r) v ≡ seen_at ends (side_of r) w) → ((r : Role) → (exchange_of r e).shown ≡ (exchange_of r d).shown) → Same w d → Same v e
  unchanged w v d e s t h r = ap notes_of (s r) ∙ h r ∙ ap notes_of (sym (t r))

module _ (free : Free) (tables : Tables) (spellings : Spellings) (a b : Config) where
  abbrev common : Common
  common = reliable_common tables spellings a b

  abbrev ends : Ends
  ends = ends_for common

  abbrev base : Base
  base = base_at Responder common

  -- what is shown to an end before its association stands is no note
  now-plain : (body : Body) (message : Message) (later : Body) (answers : List Message) (shown : List Indication) → react base body message ≡ Takes later answers shown → is_early body.link.phase ≡ true → ArePlain shown
  now-plain body message later answers shown r h = subst ArePlain (sym (shows-so base body message later answers shown r)) (go message r)
    where
      go : (message : Message) → react base body message ≡ Takes later answers shown → ArePlain (shown_of base body message)
      go (Transport unit) r = transport-plain unit
      go (Session (OfAssociation word)) r = association-plain base body word
      go (Session (OfData (Values values))) r = tt
      go (Session (OfData (AlterContext add delete))) r = (tt, tt)
      go (Session (OfData (AlterContextAck answers))) r = settled-plain body.sets.own answers
      go (Session (OfMarks word)) r = marks-plain base body word
      go (Session (OfActivities (End number))) r = absurd (early.no-end free tables spellings a b body number later answers shown r h)
      go (Session (OfActivities word)) r = activity-plain base body word tt

  untold : early.NeverFails free tables spellings a b → (two : Two) (ledger : Ledger) (exchanges : Exchanges) → ReachedWithExchanges common two ledger exchanges → is_early two.b.link.phase ≡ true → notes_of exchanges.b.shown ≡ []
  untold f two ledger exchanges reached_exchanges.begins h = refl
  untold f two ledger exchanges (reached_exchanges.calls x l d Initiator call answer g c) h = untold f x l d g h
  untold f two ledger exchanges (reached_exchanges.calls x l d Responder call answer g c) h = untold f x l d g (early.call-before free tables spellings a b x.b call answer c h)
  untold f two ledger exchanges (reached_exchanges.acts x l d Initiator own g c) h = untold f x l d g h
  untold f two ledger exchanges (reached_exchanges.acts x l d Responder own g c) h = untold f x l d g (early.own-before free tables spellings a b x.b own h)
  untold f two ledger exchanges (reached_exchanges.takes x l d Initiator message left body answers shown g e r) h = untold f x l d g h
  untold f two ledger exchanges (reached_exchanges.takes x l d Responder message left body answers shown g e r) h =
      let soon : is_early x.b.link.phase ≡ true = early.took-before free tables spellings a b x.b message body answers shown r h in
      notes-append (still_after base x.b message d.b.shown) shown
      ∙ (λ i. (ap notes_of (still-keeps base x.b message d.b.shown) ∙ kept (keeps base x.b message) (untold f x l d g soon)) i ++ plain-notes shown (now-plain x.b message body answers shown r soon) i)
    where
      kept : (k : Bool) → notes_of d.b.shown ≡ [] → notes_of (if k then d.b.shown else []) ≡ []
      kept true e = e
      kept false e = refl
  untold f two ledger exchanges (reached_exchanges.passes x l d Initiator message left g e r) h = untold f x l d g h
  untold f two ledger exchanges (reached_exchanges.passes x l d Responder message left g e r) h = untold f x l d g h
  untold f two ledger exchanges (reached_exchanges.fails x l d role message left fault body aborts shown g e r) h = absurd (f x l (exchanges-reached common x l d g) role message left fault body aborts shown e r)
  untold f two ledger exchanges (reached_exchanges.breaks x l d g) h = untold f x l d g (broken-early Reliable x.b.link.phase h)

  module _ (never : early.NeverFails free tables spellings a b) (model : (two : Two) (ledger : Ledger) → ReachedWithLedger common two ledger → machine.Kept free tables spellings a b two ledger) where
    -- what is kept of what was shown, where a message is taken
    still-same : (role : Role) (w : World) (two : Two) (ledger : Ledger) (exchanges : Exchanges) (left : List Message) (body : Body) (answers : List Message) (shown : List Indication) → Joint common w two ledger exchanges → Same ends w exchanges
        → (message : Message) → coming_to role two ≡ message ∷ left → react (base_at role common) (both_ends.body_at role two) message ≡ Takes body answers shown
        → notes_of (seen_at ends (side_of role) w) ≡ notes_of (still_after (base_at role common) (both_ends.body_at role two) message (exchange_of role exchanges).shown)
    still-same Initiator w two ledger exchanges left body answers shown j h (Session (OfAssociation (Connect session presentation values))) e r =
        absurd (early.no-opening free tables spellings a b two session presentation values body answers shown r)
    still-same Responder w two ledger exchanges left body answers shown j h (Session (OfAssociation (Connect session presentation values))) e r =
        go (is_refused base two.b session presentation values || recovers_in base values) refl (early.opening-keeps free tables spellings a b two session presentation values left body answers shown (model two ledger j.speaks.goes) e r)
        ∙ ap notes_of (sym (still-keeps base two.b (Session (OfAssociation (Connect session presentation values))) exchanges.b.shown))
      where
        go : (k : Bool) → (is_refused base two.b session presentation values || recovers_in base values) ≡ k → early.Opens free tables spellings a b two session presentation values → notes_of (seen_at ends B w) ≡ notes_of (if k then exchanges.b.shown else [])
        go true e o = h Responder
        go false e (inl k) = absurd cc
        go false e (inr soon) = h Responder ∙ untold never two ledger exchanges j.reached_exchanges soon
    still-same role w two ledger exchanges left body answers shown j h message e r = h role

    shown-so : (role : Role) (w : World) (two : Two) (ledger : Ledger) (exchanges : Exchanges) (message : Message) (body : Body) (answers : List Message) (shown : List Indication) → Joint common w two ledger exchanges → react (base_at role common) (both_ends.body_at role two) message ≡ Takes body answers shown → shown_in (react (base_at role common) (sides.body_at ends (side_of role) w) message) ≡ shown
    shown-so role w two ledger exchanges message body answers shown j r =
        ap (λ (y : Body). shown_in (react (base_at role common) y message)) (body-for common role w ∙ j.bodies role) ∙ ap shown_in r

    took-seen : (role : Role) (w : World) (message : Message) (answers : List Message) → seen_at ends (side_of role) (stepping (side_of role) w (took message ∷ map (answered message) answers)) ≡ seen_at ends (side_of role) w ++ shown_in (react (base_at role common) (sides.body_at ends (side_of role) w) message)
    took-seen Initiator w message answers = own-same ends A (record { side = A; step = took message } ∷ w) (map (answered message) answers) (answers-none message answers)
    took-seen Responder w message answers = own-same ends B (record { side = B; step = took message } ∷ w) (map (answered message) answers) (answers-none message answers)

    taken-same : (role : Role) (w : World) (two : Two) (ledger : Ledger) (exchanges : Exchanges) (message : Message) (left : List Message) (body : Body) (answers : List Message) (shown : List Indication) → Joint common w two ledger exchanges → coming_to role two ≡ message ∷ left → react (base_at role common) (both_ends.body_at role two) message ≡ Takes body answers shown → Same ends w exchanges
        → notes_of (seen_at ends (side_of role) (stepping (side_of role) w (took message ∷ map (answered message) answers))) ≡ notes_of (still_after (base_at role common) (both_ends.body_at role two) message (exchange_of role exchanges).shown ++ shown)
    taken-same role w two ledger exchanges message left body answers shown j e r h =
        ap notes_of (took-seen role w message answers ∙ ap (λ (l : List Indication). seen_at ends (side_of role) w ++ l) (shown-so role w two ledger exchanges message body answers shown j r))
        ∙ notes-append (seen_at ends (side_of role) w) shown
        ∙ ap (λ (l : List Indication). l ++ notes_of shown) (still-same role w two ledger exchanges left body answers shown j h message e r)
        ∙ sym (notes-append (still_after (base_at role common) (both_ends.body_at role two) message (exchange_of role exchanges).shown) shown)

    all-same : (role : Role) (w : World) (two : Two) (ledger : Ledger) (exchanges : Exchanges) (message : Message) (left : List Message) (body : Body) (answers : List Message) (shown : List Indication) → Joint common w two ledger exchanges → coming_to role two ≡ message ∷ left → react (base_at role common) (both_ends.body_at role two) message ≡ Takes body answers shown → Same ends w exchanges
        → Same ends (stepping (side_of role) w (took message ∷ map (answered message) answers)) (on_exchange role (takes_so (base_at role common) (both_ends.body_at role two) message shown) (gets answers) exchanges)
    all-same Initiator w two ledger exchanges message left body answers shown j e r h Initiator = taken-same Initiator w two ledger exchanges message left body answers shown j e r h
    all-same Initiator w two ledger exchanges message left body answers shown j e r h Responder = ap notes_of (peer-same ends A w (took message ∷ map (answered message) answers)) ∙ h Responder
    all-same Responder w two ledger exchanges message left body answers shown j e r h Initiator = ap notes_of (peer-same ends B w (took message ∷ map (answered message) answers)) ∙ h Initiator
    all-same Responder w two ledger exchanges message left body answers shown j e r h Responder = taken-same Responder w two ledger exchanges message left body answers shown j e r h

    begins-same : Same ends [] (record { a = reached_exchanges.nothing_exchanged; b = reached_exchanges.nothing_exchanged })
    begins-same Initiator = refl
    begins-same Responder = refl

    broke-same : (w : World) (exchanges : Exchanges) → Same ends w exchanges → Same ends (record { side = B; step = broke } ∷ record { side = A; step = broke } ∷ w) (on_exchange Initiator loses loses exchanges)
    broke-same w exchanges h =
        unchanged ends w (record { side = B; step = broke } ∷ record { side = A; step = broke } ∷ w) exchanges (on_exchange Initiator loses loses exchanges)
        (λ r. seen-none ends Responder (record { side = A; step = broke } ∷ w) (broke ∷ []) (tt, tt) r ∙ seen-none ends Initiator w (broke ∷ []) (tt, tt) r)
        (on-shown Initiator loses loses (λ x. refl) (λ x. refl) exchanges) h

    pub same-keeps : Keeps common (λ w two ledger exchanges. Same ends w exchanges)
    same-keeps = record {
      begins = begins-same;
      calls = λ role w two ledger exchanges call answer j c h.
          let body : Body = (end_for common role w).body in
          let due : List Message = due_of (base_at role common) body call (Ok answer) in
          unchanged ends w (stepping (side_of role) w (called call (Ok answer) ∷ map sent due)) exchanges (on_exchange role (calls_so (apdus_of (base_at role common) body call answer) (asked_by call answer)) (gets due) exchanges)
          (seen-none ends role w (called call (Ok answer) ∷ map sent due) (tt, sents-none due))
          (on-shown role (calls_so (apdus_of (base_at role common) body call answer) (asked_by call answer)) (gets due) (λ x. refl) (λ x. refl) exchanges) h;
      acts = λ role w two ledger exchanges own j c h.
          unchanged ends w (stepping (side_of role) w (step_of own ∷ [])) exchanges (on_exchange role stays (gets (own_messages own)) exchanges) (seen-none ends role w (step_of own ∷ []) (act-none own))
          (on-shown role stays (gets (own_messages own)) (λ x. refl) (λ x. refl) exchanges) h;
      takes = λ role w two ledger exchanges message left body answers shown j e r h. all-same role w two ledger exchanges message left body answers shown j e r h;
      passes = λ role w two ledger exchanges message left j e r h.
          unchanged ends w (stepping (side_of role) w (passed ∷ [])) exchanges (on_exchange role (meets message) stays exchanges) (seen-none ends role w (passed ∷ []) (tt, tt)) (on-shown role (meets message) stays (λ x. refl) (λ x. refl) exchanges) h;
      quiet = λ role w two ledger exchanges x q h. unchanged ends w (stepping (side_of role) w (x ∷ [])) exchanges exchanges (seen-none ends role w (x ∷ []) (quiet-none x q, tt)) (λ r. refl) h;
      breaks = λ w two ledger exchanges j h. broke-same w exchanges h;
    }
