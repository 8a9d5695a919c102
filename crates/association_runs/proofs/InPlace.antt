-- At each moment of a run each message that was taken is the one that was sent in its place of the connection.
use Rattle.std.proofs.Common.{◌≡◌, refl, sym, subst, List, [], ◌∷◌, ◌++◌, map, None, Ok}
use Rattle.std.specs.Prelude.{Option, Some}
use Rattle.std.proofs.lemmas.List.{append-nil}
use Rattle.osi_base.specs.declared.layer_words.Side.TheVariants.{A, B}
use Rattle.end_model.specs.end_rules.Messages.{Message}
use Rattle.end_model.specs.end_rules.Requesting.{due_of}
use Rattle.end_model.specs.end_rules.ByItself.{OwnAct, SendsNow, EncodesOn}
use Rattle.end_model.specs.end_rules.History.{Step, called, sent, took, answered, passed, broke, step_of}
use Rattle.end_model.specs.end_rules.World.{World, Ends}
use Rattle.agreement.specs.Sets.{Role}
use Rattle.agreement.specs.Sets.Role.{Initiator, Responder}
use Rattle.end_model.specs.Sharing.{side_of}
use Rattle.end_model.specs.BothEnds as both_ends
use Rattle.end_model.specs.BothEnds.{Common, Two, coming_to}
use Rattle.outcome_laws.specs.reliable_model.Ledgers.{Ledger}
use Rattle.outcome_laws.specs.Exchanges.{Exchanges}
use Rattle.run_laws.specs.Passing.{sent_in, PairedMessage, as_read, at_sending, on_connection, sendings, read_in, readings, AreInPlace, TakenInPlace}
use Rattle.run_laws.specs.Laws.{AtEachMoment}
use Rattle.association_runs.specs.Worlds.{stepping}
use Rattle.association_runs.specs.Sides.{ends_for}
use Rattle.association_runs.proofs.Histories.{end_for}
use Rattle.association_runs.proofs.Moments.{messages_in, Follows, follows-none, follows-some}
use Rattle.association_runs.proofs.Keeps.{IsQuiet, Keeps}
use Rattle.association_runs.proofs.Joint.{Joint}

-- ---- lists

pub follows-in-place : (rs : List (Option PairedMessage)) (all : List PairedMessage) (coming : List Message) → Follows rs (messages_in all) coming → AreInPlace rs all
follows-in-place [] all coming h = tt
follows-in-place (r ∷ rs) [] coming h = absurd h
follows-in-place (None ∷ rs) (p ∷ ps) coming h = follows-in-place rs ps coming h
follows-in-place (Some r ∷ rs) (p ∷ ps) coming h = (h.0, follows-in-place rs ps coming h.1)

more-sent : (rs : List (Option PairedMessage)) (all more : List PairedMessage) → AreInPlace rs all → AreInPlace rs (all ++ more)
more-sent [] all more h = tt
more-sent (r ∷ rs) [] more h = absurd h
more-sent (None ∷ rs) (p ∷ ps) more h = more-sent rs ps more h
more-sent (Some r ∷ rs) (p ∷ ps) more h = (h.0, more-sent rs ps more h.1)

-- ---- one moment

-- a step that neither takes nor passes over
abbrev pub IsNoReading : Step → Type 0
IsNoReading (took message) = ⊥
IsNoReading passed = ⊥
IsNoReading _ = Unit {0}

-- it adds nothing to what its end read, and may add to what it sent; or it ends the connection
one-more : (x : Step) (ends : Ends) (w : World) (mine theirs : List (Option PairedMessage)) (own peer : List PairedMessage) → IsNoReading x → AreInPlace theirs own → AreInPlace mine peer
    → AreInPlace (on_connection x theirs) (on_connection x (own ++ map (at_sending ends w) (sent_in x))) × AreInPlace (on_connection x (mine ++ read_in x)) (on_connection x peer)
one-more (took message) ends w mine theirs own peer n h k = absurd n
one-more passed ends w mine theirs own peer n h k = absurd n
one-more broke ends w mine theirs own peer n h k = (tt, tt)
one-more x ends w mine theirs own peer n h k = (more-sent theirs own (map (at_sending ends w) (sent_in x)) h, subst (λ (l : List _). AreInPlace l peer) (sym (append-nil mine)) k)

module _ (common : Common) where
  abbrev ends : Ends
  ends = ends_for common

  abbrev Ever : World → Type 0
  Ever w = AtEachMoment (TakenInPlace ends) w

  now : (w : World) → Ever w → TakenInPlace ends w
  now [] h = h
  now (m ∷ w) h = h.0

  -- from what each end read
  of-both : (w : World) → AreInPlace (readings B w) (sendings ends A w) → AreInPlace (readings A w) (sendings ends B w) → TakenInPlace ends w
  of-both w h k A = h
  of-both w h k B = k

  stepped-on : (role : Role) (w : World) (x : Step) → IsNoReading x → Ever w → Ever (record { side = side_of role; step = x } ∷ w)
  stepped-on Initiator w x n h =
      let o = one-more x ends w (readings A w) (readings B w) (sendings ends A w) (sendings ends B w) n (now w h A) (now w h B) in
      (of-both (record { side = A; step = x } ∷ w) o.0 o.1, h)
  stepped-on Responder w x n h =
      let o = one-more x ends w (readings B w) (readings A w) (sendings ends B w) (sendings ends A w) n (now w h B) (now w h A) in
      (of-both (record { side = B; step = x } ∷ w) o.1 o.0, h)

  abbrev AreNoReadings : List Step → Type 0
  AreNoReadings [] = Unit {0}
  AreNoReadings (x ∷ xs) = IsNoReading x × AreNoReadings xs

  all-on : (role : Role) (w : World) (xs : List Step) → AreNoReadings xs → Ever w → Ever (stepping (side_of role) w xs)
  all-on role w [] n h = h
  all-on role w (x ∷ xs) n h = all-on role (record { side = side_of role; step = x } ∷ w) xs n.1 (stepped-on role w x n.0 h)

  sents-none : (ms : List Message) → AreNoReadings (map sent ms)
  sents-none [] = tt
  sents-none (m ∷ ms) = (tt, sents-none ms)

  answers-none : (to : Message) (ms : List Message) → AreNoReadings (map (answered to) ms)
  answers-none to [] = tt
  answers-none to (m ∷ ms) = (tt, answers-none to ms)

  own-none : (own : OwnAct) → AreNoReadings (step_of own ∷ [])
  own-none (SendsNow message) = (tt, tt)
  own-none (EncodesOn context) = (tt, tt)

  quiet-none : (x : Step) → IsQuiet x → IsNoReading x
  quiet-none (took message) q = absurd q
  quiet-none passed q = absurd q
  quiet-none _ q = tt

  took-on : (role : Role) (w : World) (two : Two) (ledger : Ledger) (exchanges : Exchanges) (message : Message) (left : List Message) → Joint common w two ledger exchanges → coming_to role two ≡ message ∷ left → Ever w → Ever (record { side = side_of role; step = took message } ∷ w)
  took-on Initiator w two ledger exchanges message left j e h =
      let f = follows-some (readings A w) (messages_in (sendings ends B w)) two.to_a left message (as_read message) e refl (j.follows Initiator) in
      (of-both (record { side = A; step = took message } ∷ w) (more-sent (readings B w) (sendings ends A w) [] (now w h A)) (follows-in-place (readings A w ++ Some (as_read message) ∷ []) (sendings ends B w) left f), h)
  took-on Responder w two ledger exchanges message left j e h =
      let f = follows-some (readings B w) (messages_in (sendings ends A w)) two.to_b left message (as_read message) e refl (j.follows Responder) in
      (of-both (record { side = B; step = took message } ∷ w) (follows-in-place (readings B w ++ Some (as_read message) ∷ []) (sendings ends A w) left f) (more-sent (readings A w) (sendings ends B w) [] (now w h B)), h)

  passed-on : (role : Role) (w : World) (two : Two) (ledger : Ledger) (exchanges : Exchanges) (message : Message) (left : List Message) → Joint common w two ledger exchanges → coming_to role two ≡ message ∷ left → Ever w → Ever (record { side = side_of role; step = passed } ∷ w)
  passed-on Initiator w two ledger exchanges message left j e h =
      let f = follows-none (readings A w) (messages_in (sendings ends B w)) two.to_a left message e (j.follows Initiator) in
      (of-both (record { side = A; step = passed } ∷ w) (more-sent (readings B w) (sendings ends A w) [] (now w h A)) (follows-in-place (readings A w ++ None ∷ []) (sendings ends B w) left f), h)
  passed-on Responder w two ledger exchanges message left j e h =
      let f = follows-none (readings B w) (messages_in (sendings ends A w)) two.to_b left message e (j.follows Responder) in
      (of-both (record { side = B; step = passed } ∷ w) (follows-in-place (readings B w ++ None ∷ []) (sendings ends A w) left f) (more-sent (readings A w) (sendings ends B w) [] (now w h B)), h)

  at-first : TakenInPlace ends []
  at-first A = tt
  at-first B = tt

  pub place-keeps : Keeps common (λ w two ledger exchanges. Ever w)
  place-keeps = record {
    begins = at-first;
    calls = λ role w two ledger exchanges call answer j c h. all-on role w (called call (Ok answer) ∷ map sent (due_of (both_ends.base_at role common) (end_for common role w).body call (Ok answer))) (tt, sents-none (due_of (both_ends.base_at role common) (end_for common role w).body call (Ok answer))) h;
    acts = λ role w two ledger exchanges own j c h. all-on role w (step_of own ∷ []) (own-none own) h;
    takes = λ role w two ledger exchanges message left body answers shown j e r h.
        all-on role (record { side = side_of role; step = took message } ∷ w) (map (answered message) answers) (answers-none message answers) (took-on role w two ledger exchanges message left j e h);
    passes = λ role w two ledger exchanges message left j e r h. passed-on role w two ledger exchanges message left j e h;
    quiet = λ role w two ledger exchanges x q h. stepped-on role w x (quiet-none x q) h;
    breaks = λ w two ledger exchanges j h. stepped-on Responder (record { side = A; step = broke } ∷ w) broke tt (stepped-on Initiator w broke tt h);
  }
