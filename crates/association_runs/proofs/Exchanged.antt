-- The exchanges of the messages are those of the moments.
use Rattle.std.proofs.Common.{◌≡◌, refl, ◌∙◌, sym, ap, List, [], ◌∷◌, map, Ok}
use Rattle.std.specs.Prelude.{Option, ℤ}
use Rattle.osi_base.specs.declared.layer_words.Side.TheVariants.{A, B}
use Rattle.dialogue.specs.declared.call.Call.{Call}
use Rattle.end_model.specs.end_rules.Messages.{Message}
use Rattle.end_model.specs.end_rules.State.{Body}
use Rattle.end_model.specs.end_rules.Requesting.{due_of}
use Rattle.end_model.specs.end_rules.ByItself.{OwnAct, SendsNow, EncodesOn}
use Rattle.end_model.specs.end_rules.Reacting.{Reaction, react}
use Rattle.end_model.specs.end_rules.History.{Step, called, sent, took, answered, passed, broke, step_of}
use Rattle.end_model.specs.end_rules.World.{World, Ends, body_at}
use Rattle.agreement.specs.Sets.{Role, other}
use Rattle.agreement.specs.Sets.Role.{Initiator, Responder}
use Rattle.end_model.specs.Sharing.{side_of}
use Rattle.end_model.specs.BothEnds as both_ends
use Rattle.end_model.specs.BothEnds.{Common, Two}
use Rattle.end_model.specs.Acting.{apdus_of}
use Rattle.outcome_laws.specs.reliable_model.Ledgers.{Ledger}
use Rattle.outcome_laws.specs.Exchanges.{Exchanges, EndExchange, exchange_of, on_exchange, calls_so, asked_by, gets, stays, takes_so, meets, loses}
use Rattle.run_laws.specs.Showing.{shown_in}
use Rattle.association_runs.specs.Worlds.{stepping}
use Rattle.association_runs.specs.Laws.{of_exchange}
use Rattle.association_runs.specs.OwnExchanges.{own_taking, own_calling, own_at}
use Rattle.association_runs.specs.Sides.{ends_for}
use Rattle.association_runs.proofs.Histories.{end_for, body-for}
use Rattle.association_runs.proofs.Keeps.{IsQuiet, Keeps}
use Rattle.association_runs.proofs.Joint.{both}

own-side : (role : Role) (f g : EndExchange → EndExchange) (d : Exchanges) → exchange_of role (on_exchange role f g d) ≡ f (exchange_of role d)
own-side Initiator f g d = refl
own-side Responder f g d = refl

peer-side : (role : Role) (f g : EndExchange → EndExchange) (d : Exchanges) → exchange_of (other role) (on_exchange role f g d) ≡ g (exchange_of (other role) d)
peer-side Initiator f g d = refl
peer-side Responder f g d = refl

-- steps that exchange nothing
abbrev IsIdle : Step → Type 0
IsIdle (called call (Ok answer)) = ⊥
IsIdle (took message) = ⊥
IsIdle _ = Unit {0}

abbrev AreIdle : List Step → Type 0
AreIdle [] = Unit {0}
AreIdle (x ∷ xs) = IsIdle x × AreIdle xs

sents-idle : (ms : List Message) → AreIdle (map sent ms)
sents-idle [] = tt
sents-idle (m ∷ ms) = (tt, sents-idle ms)

answers-idle : (to : Message) (ms : List Message) → AreIdle (map (answered to) ms)
answers-idle to [] = tt
answers-idle to (m ∷ ms) = (tt, answers-idle to ms)

own-idle : (own : OwnAct) → AreIdle (step_of own ∷ [])
own-idle (SendsNow message) = (tt, tt)
own-idle (EncodesOn context) = (tt, tt)

quiet-idle : (x : Step) → IsQuiet x → IsIdle x
quiet-idle (called call (Ok answer)) q = absurd q
quiet-idle (took message) q = absurd q
quiet-idle _ q = tt

module _ (common : Common) where
  abbrev ends : Ends
  ends = ends_for common

  one-idle : (role : Role) (w : World) (x : Step) → IsIdle x → own_at ends (side_of role) (record { side = side_of role; step = x } ∷ w) ≡ own_at ends (side_of role) w
  one-idle role w (called call (Ok answer)) n = absurd n
  one-idle role w (took message) n = absurd n
  one-idle Initiator w _ n = refl
  one-idle Responder w _ n = refl

  all-idle : (role : Role) (w : World) (xs : List Step) → AreIdle xs → own_at ends (side_of role) (stepping (side_of role) w xs) ≡ own_at ends (side_of role) w
  all-idle role w [] n = refl
  all-idle role w (x ∷ xs) n = all-idle role (record { side = side_of role; step = x } ∷ w) xs n.1 ∙ one-idle role w x n.0

  peer-same : (role : Role) (w : World) (xs : List Step) → own_at ends (side_of (other role)) (stepping (side_of role) w xs) ≡ own_at ends (side_of (other role)) w
  peer-same role w [] = refl
  peer-same Initiator w (x ∷ xs) = peer-same Initiator (record { side = A; step = x } ∷ w) xs
  peer-same Responder w (x ∷ xs) = peer-same Responder (record { side = B; step = x } ∷ w) xs

  call-own : (role : Role) (w : World) (call : Call) (answer : Option ℤ) → own_at ends (side_of role) (record { side = side_of role; step = called call (Ok answer) } ∷ w) ≡ own_calling (both_ends.base_at role common) (body_at ends (side_of role) w) call answer (own_at ends (side_of role) w)
  call-own Initiator w call answer = refl
  call-own Responder w call answer = refl

  take-own : (role : Role) (w : World) (message : Message) → own_at ends (side_of role) (record { side = side_of role; step = took message } ∷ w) ≡ own_taking (both_ends.base_at role common) (body_at ends (side_of role) w) message (shown_in (react (both_ends.base_at role common) (body_at ends (side_of role) w) message)) (own_at ends (side_of role) w)
  take-own Initiator w message = refl
  take-own Responder w message = refl

  abbrev pub AreExchanged : World → Two → Ledger → Exchanges → Type 0
  AreExchanged w two ledger exchanges = (role : Role) → own_at ends (side_of role) w ≡ of_exchange (exchange_of role exchanges)

  -- the own side changed, and the other not
  changed : (role : Role) (w v : World) (before after : Exchanges) (f g : EndExchange → EndExchange) → on_exchange role f g before ≡ after → own_at ends (side_of role) v ≡ of_exchange (f (exchange_of role before)) → own_at ends (side_of (other role)) v ≡ own_at ends (side_of (other role)) w
      → ((d : EndExchange) → of_exchange (g d) ≡ of_exchange d) → ((r : Role) → own_at ends (side_of r) w ≡ of_exchange (exchange_of r before)) → (r : Role) → own_at ends (side_of r) v ≡ of_exchange (exchange_of r after)
  changed role w v before after f g e own peer same h =
      both role (λ (r : Role). own_at ends (side_of r) v ≡ of_exchange (exchange_of r after))
      (own ∙ ap of_exchange (sym (own-side role f g before)) ∙ ap (λ (d : Exchanges). of_exchange (exchange_of role d)) e)
      (peer ∙ h (other role) ∙ sym (same (exchange_of (other role) before)) ∙ ap of_exchange (sym (peer-side role f g before)) ∙ ap (λ (d : Exchanges). of_exchange (exchange_of (other role) d)) e)

  quiet-so : (role : Role) (w : World) (two : Two) (ledger : Ledger) (exchanges : Exchanges) (x : Step) → IsQuiet x → AreExchanged w two ledger exchanges → AreExchanged (record { side = side_of role; step = x } ∷ w) two ledger exchanges
  quiet-so role w two ledger exchanges x q h =
      both role (λ (r : Role). own_at ends (side_of r) (record { side = side_of role; step = x } ∷ w) ≡ of_exchange (exchange_of r exchanges)) (one-idle role w x (quiet-idle x q) ∙ h role) (peer-same role w (x ∷ []) ∙ h (other role))

  broke-so : (w : World) (two : Two) (ledger : Ledger) (exchanges : Exchanges) → AreExchanged w two ledger exchanges → (r : Role) → own_at ends (side_of r) (record { side = B; step = broke } ∷ record { side = A; step = broke } ∷ w) ≡ of_exchange (exchange_of r (on_exchange Initiator loses loses exchanges))
  broke-so w two ledger exchanges h Initiator = h Initiator
  broke-so w two ledger exchanges h Responder = h Responder

  first-so : (r : Role) → own_at ends (side_of r) [] ≡ of_exchange (exchange_of r (record { a = record { wrote = []; asked = []; shown = []; mail = []; met = [] }; b = record { wrote = []; asked = []; shown = []; mail = []; met = [] } }))
  first-so Initiator = refl
  first-so Responder = refl

  pub exchange-keeps : Keeps common AreExchanged
  exchange-keeps = record {
    begins = first-so;
    calls = λ role w two ledger exchanges call answer j c h.
        let b : Body = (end_for common role w).body in
        let due : List Message = due_of (both_ends.base_at role common) b call (Ok answer) in
        changed role w (stepping (side_of role) w (called call (Ok answer) ∷ map sent due)) exchanges _ (calls_so (apdus_of (both_ends.base_at role common) b call answer) (asked_by call answer)) (gets due) refl
        (all-idle role (record { side = side_of role; step = called call (Ok answer) } ∷ w) (map sent due) (sents-idle due) ∙ call-own role w call answer
        ∙ (λ i. own_calling (both_ends.base_at role common) (body-for common role w i) call answer (h role i)))
        (peer-same role w (called call (Ok answer) ∷ map sent due)) (λ d. refl) h;
    acts = λ role w two ledger exchanges own j c h.
        changed role w (stepping (side_of role) w (step_of own ∷ [])) exchanges _ stays (gets _) refl (all-idle role w (step_of own ∷ []) (own-idle own) ∙ h role) (peer-same role w (step_of own ∷ [])) (λ d. refl) h;
    takes = λ role w two ledger exchanges message left body answers shown j e r h.
        changed role w (stepping (side_of role) w (took message ∷ map (answered message) answers)) exchanges _ (takes_so (both_ends.base_at role common) (both_ends.body_at role two) message shown) (gets answers) refl
        (all-idle role (record { side = side_of role; step = took message } ∷ w) (map (answered message) answers) (answers-idle message answers) ∙ take-own role w message
        ∙ (λ i. own_taking (both_ends.base_at role common) ((body-for common role w ∙ j.bodies role) i) message (shown_in (react (both_ends.base_at role common) ((body-for common role w ∙ j.bodies role) i) message)) (h role i))
        ∙ ap (λ (x : Reaction). own_taking (both_ends.base_at role common) (both_ends.body_at role two) message (shown_in x) (of_exchange (exchange_of role exchanges))) r)
        (peer-same role w (took message ∷ map (answered message) answers)) (λ d. refl) h;
    passes = λ role w two ledger exchanges message left j e r h.
        changed role w (stepping (side_of role) w (passed ∷ [])) exchanges _ (meets message) stays refl (one-idle role w passed tt ∙ h role) (peer-same role w (passed ∷ [])) (λ d. refl) h;
    quiet = λ role w two ledger exchanges x q h. quiet-so role w two ledger exchanges x q h;
    breaks = λ w two ledger exchanges j h. broke-so w two ledger exchanges h;
  }
