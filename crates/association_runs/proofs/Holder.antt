-- At each moment of a run at most one end holds the turn.
use Rattle.std.proofs.Common.{◌≡◌, ◌∙◌, sym, ap, subst, List, [], ◌∷◌, map, Ok}
use Rattle.std.specs.Prelude.{Option, Some, ℤ}
use Rattle.osi_base.specs.declared.layer_words.Side.TheVariants.{A, B}
use Rattle.dialogue.specs.declared.call.Call.{Call}
use Rattle.dialogue.specs.declared.indication.Indication.{Indication}
use Rattle.end_model.specs.end_rules.Messages.{Message}
use Rattle.end_model.specs.end_rules.State.{Body, holds_turn}
use Rattle.end_model.specs.end_rules.Calling.{can_call}
use Rattle.end_model.specs.end_rules.Requesting.{due_of}
use Rattle.end_model.specs.end_rules.ByItself.{OwnAct, next_own}
use Rattle.end_model.specs.end_rules.Reacting.{Takes, react}
use Rattle.end_model.specs.end_rules.History.{Step, called, sent, encoded, fed, took, answered, passed, fault, aborted, feed_end, gave, broke, after_step, step_of, after_taken}
use Rattle.end_model.specs.end_rules.World.{World, body_at}
use Rattle.agreement.specs.Sets.{Role}
use Rattle.agreement.specs.Sets.Role.{Initiator, Responder}
use Rattle.end_model.specs.Requests.{after_called}
use Rattle.end_model.specs.Sharing.{side_of}
use Rattle.end_model.specs.BothEnds as both_ends
use Rattle.end_model.specs.BothEnds.{Common, Two, coming_to, stepped}
use Rattle.outcome_laws.specs.reliable_model.Ledgers.{Ledger, first_ledger, after_sending, after_own, after_taking, own_messages, ReachedWithLedger}
use Rattle.outcome_laws.specs.reliable_model.Ledgers as ledgers
use Rattle.outcome_laws.specs.Exchanges.{Exchanges}
use Rattle.run_laws.specs.Laws.{AtEachMoment, OneHolder}
use Rattle.association_line.specs.Line.{End, after, after_all}
use Rattle.association_runs.specs.Worlds.{stepping}
use Rattle.association_runs.specs.Laws.{AreOneHolder}
use Rattle.association_runs.specs.Sides.{ends_for}
use Rattle.association_runs.proofs.Histories.{end_for, own-end, peer-end, body-for}
use Rattle.association_runs.proofs.Reactions.{taken-leaves}
use Rattle.association_runs.proofs.Lines.{all-sent}
use Rattle.association_runs.proofs.Keeps.{IsQuiet, Keeps}
use Rattle.association_runs.proofs.Joint.{Joint}
use Rattle.association_runs.proofs.Holding.{IsCalm, gains-not, AreFew, due-few}

module _ (common : Common) (one : AreOneHolder common) where
  abbrev Ever : World → Type 0
  Ever w = AtEachMoment (OneHolder (ends_for common)) w

  pub now : (w : World) → Ever w → OneHolder (ends_for common) w
  now [] h = h
  now (m ∷ w) h = h.0

  -- ---- steps that bring the turn to nobody

  stepped-on : (role : Role) (w : World) (x : Step) → IsCalm x → Ever w → Ever (record { side = side_of role; step = x } ∷ w)
  stepped-on Initiator w x n h = ((λ a b. now w h (gains-not (both_ends.base_at Initiator common) (body_at (ends_for common) A w) x n a) b), h)
  stepped-on Responder w x n h = ((λ a b. now w h a (gains-not (both_ends.base_at Responder common) (body_at (ends_for common) B w) x n b)), h)

  answers-on : (role : Role) (w : World) (to : Message) (ms : List Message) → Ever w → Ever (stepping (side_of role) w (map (answered to) ms))
  answers-on role w to [] h = h
  answers-on role w to (m ∷ ms) h = answers-on role (record { side = side_of role; step = answered to m } ∷ w) to ms (stepped-on role w (answered to m) tt h)

  quiet-calm : (x : Step) → IsQuiet x → IsCalm x
  quiet-calm (called call reply) q = tt
  quiet-calm (fed octets) q = tt
  quiet-calm feed_end q = tt
  quiet-calm (gave n) q = tt
  quiet-calm (sent message) q = absurd q
  quiet-calm (encoded context) q = absurd q
  quiet-calm (took message) q = absurd q
  quiet-calm (answered to answer) q = absurd q
  quiet-calm passed q = absurd q
  quiet-calm (fault layer place reason) q = absurd q
  quiet-calm (aborted message) q = absurd q
  quiet-calm broke q = absurd q

  -- ---- steps that lead to what two ends reach

  of-bodies : (w : World) (two : Two) (ledger : Ledger) → ReachedWithLedger common two ledger → body_at (ends_for common) A w ≡ two.a → body_at (ends_for common) B w ≡ two.b → OneHolder (ends_for common) w
  of-bodies w two ledger g a b = λ x y. one two ledger g (ap holds_turn (sym a) ∙ x) (ap holds_turn (sym b) ∙ y)

  reached-at : (role : Role) (w : World) (xs : List Step) (two : Two) (ledger : Ledger) (exchanges : Exchanges) (body : Body) (left more : List Message) (later : Ledger) → Joint common w two ledger exchanges
      → ReachedWithLedger common (stepped role body left more two) later → (after_all (both_ends.base_at role common) (end_for common role w) xs).body ≡ body → OneHolder (ends_for common) (stepping (side_of role) w xs)
  reached-at Initiator w xs two ledger exchanges body left more later j g e =
      of-bodies (stepping A w xs) (stepped Initiator body left more two) later g
      (body-for common Initiator (stepping A w xs) ∙ ap (λ (x : End). x.body) (own-end common Initiator w xs) ∙ e)
      (body-for common Responder (stepping A w xs) ∙ ap (λ (x : End). x.body) (peer-end common Initiator w xs) ∙ j.bodies Responder)
  reached-at Responder w xs two ledger exchanges body left more later j g e =
      of-bodies (stepping B w xs) (stepped Responder body left more two) later g
      (body-for common Initiator (stepping B w xs) ∙ ap (λ (x : End). x.body) (peer-end common Responder w xs) ∙ j.bodies Initiator)
      (body-for common Responder (stepping B w xs) ∙ ap (λ (x : End). x.body) (own-end common Responder w xs) ∙ e)

  -- one message or none
  sents-on : (role : Role) (w : World) (ms : List Message) → AreFew ms → OneHolder (ends_for common) (stepping (side_of role) w (map sent ms)) → Ever w → Ever (stepping (side_of role) w (map sent ms))
  sents-on role w [] f o h = h
  sents-on role w (m ∷ []) f o h = (o, h)
  sents-on role w (m ∷ n ∷ ms) f o h = absurd f

  call-goes : (role : Role) (two : Two) (ledger : Ledger) (call : Call) (answer : Option ℤ) (b : Body) → b ≡ both_ends.body_at role two → ReachedWithLedger common two ledger → can_call (both_ends.base_at role common) b call ≡ Ok answer
      → ReachedWithLedger common (stepped role (after_called common.mode (both_ends.base_at role common) b call answer) (coming_to role two) (due_of (both_ends.base_at role common) b call (Ok answer)) two) (after_sending common role (due_of (both_ends.base_at role common) b call (Ok answer)) ledger)
  call-goes role two ledger call answer b e g c =
      subst (λ (b : Body). can_call (both_ends.base_at role common) b call ≡ Ok answer → ReachedWithLedger common (stepped role (after_called common.mode (both_ends.base_at role common) b call answer) (coming_to role two) (due_of (both_ends.base_at role common) b call (Ok answer)) two) (after_sending common role (due_of (both_ends.base_at role common) b call (Ok answer)) ledger)) (sym e)
      (λ c. ledgers.calls two ledger role call answer g c) c

  called-on : (role : Role) (w : World) (two : Two) (ledger : Ledger) (exchanges : Exchanges) (call : Call) (answer : Option ℤ) → Joint common w two ledger exchanges
      → can_call (both_ends.base_at role common) (end_for common role w).body call ≡ Ok answer → Ever w
      → Ever (stepping (side_of role) w (called call (Ok answer) ∷ map sent (due_of (both_ends.base_at role common) (end_for common role w).body call (Ok answer))))
  called-on role w two ledger exchanges call answer j c h =
      let base = both_ends.base_at role common in
      let e = end_for common role w in
      let due : List Message = due_of base e.body call (Ok answer) in
      let g = call-goes role two ledger call answer e.body (j.bodies role) j.speaks.goes c in
      let o = reached-at role w (called call (Ok answer) ∷ map sent due) two ledger exchanges (after_called common.mode base e.body call answer) (coming_to role two) due (after_sending common role due ledger) j g
      (ap (λ (x : End). x.body) (all-sent base (after base e (called call (Ok answer))) due)) in
      sents-on role (record { side = side_of role; step = called call (Ok answer) } ∷ w) due (due-few base e.body call answer) o (stepped-on role w (called call (Ok answer)) tt h)

  acted-on : (role : Role) (w : World) (two : Two) (ledger : Ledger) (exchanges : Exchanges) (own : OwnAct) → Joint common w two ledger exchanges
      → next_own (both_ends.base_at role common) (end_for common role w).body ≡ Some own → Ever w → Ever (stepping (side_of role) w (step_of own ∷ []))
  acted-on role w two ledger exchanges own j c h =
      let g = ledgers.acts two ledger role own j.speaks.goes (ap (next_own (both_ends.base_at role common)) (sym (j.bodies role)) ∙ c) in (
        reached-at role w (step_of own ∷ []) two ledger exchanges (after_step (both_ends.base_at role common) (both_ends.body_at role two) (step_of own)) (coming_to role two) (own_messages own) (after_own common role (both_ends.body_at role two) own ledger) j g
            (ap (λ (b : Body). after_step (both_ends.base_at role common) b (step_of own)) (j.bodies role)),
        h,
      )

  took-on : (role : Role) (w : World) (two : Two) (ledger : Ledger) (exchanges : Exchanges) (message : Message) (left : List Message) (body : Body) (answers : List Message) (shown : List Indication) → Joint common w two ledger exchanges
      → coming_to role two ≡ message ∷ left → react (both_ends.base_at role common) (both_ends.body_at role two) message ≡ Takes body answers shown → Ever w → Ever (record { side = side_of role; step = took message } ∷ w)
  took-on role w two ledger exchanges message left body answers shown j e r h =
      let g = ledgers.takes two ledger role message left body answers shown j.speaks.goes e r in (
        reached-at role w (took message ∷ []) two ledger exchanges body left answers (after_taking common role (both_ends.body_at role two) message answers ledger) j g
            (ap (λ (b : Body). after_taken (both_ends.base_at role common) b message) (j.bodies role) ∙ sym (taken-leaves (both_ends.base_at role common) (both_ends.body_at role two) message body answers shown r)),
        h,
      )

  at-first : OneHolder (ends_for common) []
  at-first a b = one (both_ends.two_new common) (first_ledger common) ledgers.begins a b

  pub holder-keeps : Keeps common (λ w two ledger exchanges. Ever w)
  holder-keeps = record {
    begins = at-first;
    calls = λ role w two ledger exchanges call answer j c h. called-on role w two ledger exchanges call answer j c h;
    acts = λ role w two ledger exchanges own j c h. acted-on role w two ledger exchanges own j c h;
    takes = λ role w two ledger exchanges message left body answers shown j e r h.
        answers-on role (record { side = side_of role; step = took message } ∷ w) message answers
        (took-on role w two ledger exchanges message left body answers shown j e r h);
    passes = λ role w two ledger exchanges message left j e r h. stepped-on role w passed tt h;
    quiet = λ role w two ledger exchanges x q h. stepped-on role w x (quiet-calm x q) h;
    breaks = λ w two ledger exchanges j h. stepped-on Responder (record { side = A; step = broke } ∷ w) broke tt (stepped-on Initiator w broke tt h);
  }
