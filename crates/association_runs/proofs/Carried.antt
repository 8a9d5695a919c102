-- Carries and breaks, and with them whole runs.
use Rattle.std.proofs.Common.{◌≡◌, refl, ◌∙◌, sym, ap, subst, ℕ, List, [], ◌∷◌, ◌++◌, length, take, drop, true, false, None}
use Rattle.std.specs.Prelude.{Option, Some, Bool, option_map, if◌then◌else◌}
use Rattle.std.proofs.lemmas.List.{append-nil}
use Rattle.osi_base.specs.declared.layer_words.Side.TheVariants.{A, B}
use Rattle.dialogue.specs.declared.event.Event.{Event}
use Rattle.dialogue.specs.declared.event.Entry.{Entry}
use Rattle.dialogue.specs.declared.indication.Indication.{Indication}
use Rattle.end_model.specs.end_rules.Messages.{Message}
use Rattle.end_model.specs.end_rules.State.{passes_over}
use Rattle.end_model.specs.end_rules.History.{Step, fed, feed_end, gave, broke, after_broke, ByItself}
use Rattle.end_model.specs.end_rules.World.{World}
use Rattle.agreement.specs.Sets.{Role}
use Rattle.agreement.specs.Sets.Role.{Initiator, Responder}
use Rattle.end_model.specs.Sharing.{side_of}
use Rattle.end_model.specs.BothEnds.{Common, base_at, Two, body_at, coming_to, both_broke}
use Rattle.outcome_laws.specs.reliable_model.Ledgers.{Ledger}
use Rattle.outcome_laws.specs.reliable_model.Ledgers as ledgers
use Rattle.outcome_laws.specs.Exchanges.{Exchanges, on_exchange, loses}
use Rattle.outcome_laws.specs.Exchanges as exchanges_
use Rattle.association_line.specs.association_reading.Front.{Intake, with_octets}
use Rattle.association_worlds.specs.Lines.{more_came}
use Rattle.osi_base.specs.Limits.{IsUnitSize}
use Rattle.dialogue.specs.Carries.{first_octets}
use Rattle.association_worlds.specs.InTransit.{Way}
use Rattle.association_worlds.specs.Laws.{IsMeant}
use Rattle.association_worlds.proofs.Kept.{way-moved}
use Rattle.run_laws.specs.Passing.{PairedMessage, sendings, readings}
use Rattle.association_line.specs.Line.{End, after, after_all}
use Rattle.association_line.specs.Feeding.{Reads}
use Rattle.association_runs.specs.Worlds.{stepping, Runs}
use Rattle.association_runs.specs.Worlds as runs
use Rattle.association_runs.specs.Laws.{AreEvents}
use Rattle.association_runs.specs.Sides.{ends_for}
use Rattle.association_runs.proofs.Histories.{end_for, own-end, stepping-append}
use Rattle.association_runs.proofs.Lines.{first-fits}
use Rattle.association_runs.proofs.Moments.{messages_in, Follows}
use Rattle.association_runs.proofs.Keeps.{Keeps}
use Rattle.association_runs.proofs.Joint.{WayTo, FollowsAt, Joint}
use Rattle.association_runs.proofs.Joined.{Joined, begun, new-way, front-is, ended, all-own, all-called}
use Rattle.association_runs.proofs.Taken.{all-reads}

-- ---- a carry

came-same : (octets : List ℕ) (came : Option Intake) → more_came octets came ≡ option_map (with_octets octets) came
came-same octets None = refl
came-same octets (Some intake) = refl

plain : (rs : List (Option PairedMessage)) (all : List PairedMessage) (coming : List Message) → Follows rs (messages_in all) coming → Follows (rs ++ []) (messages_in (all ++ [])) coming
plain rs all coming h =
    subst (λ (l : List _). Follows l (messages_in (all ++ [])) coming) (sym (append-nil rs))
    (subst (λ (l : List _). Follows rs (messages_in l) coming) (sym (append-nil all)) h)

module _ (common : Common) (Extra : World → Two → Ledger → Exchanges → Type 0) (k : Keeps common Extra) where
  fed-way : (came : Option Intake) (waiting octets : List ℕ) (n : ℕ) (coming : List Message) (over : Bool) → octets ≡ take n waiting → Way common.tables came waiting coming
      → Way common.tables (if over then None else option_map (with_octets octets) came) (drop n waiting) coming
  fed-way came waiting octets n coming true e w = tt
  fed-way came waiting octets n coming false e w =
      subst (λ (o : Option Intake). Way common.tables o (drop n waiting) coming) (ap (λ (l : List ℕ). more_came l came) (sym e) ∙ came-same octets came)
      (way-moved common.tables came waiting coming n w)

  pub carried-a : (w : World) (n : ℕ) (octets : List ℕ) → octets ≡ take n (end_for common Initiator w).line.waiting → Joined common Extra w → Joined common Extra (record { side = B; step = fed octets } ∷ record { side = A; step = gave n } ∷ w)
  carried-a w n octets e s =
      let j = s.joint in
      record {
        two = s.two;
        ledger = s.ledger;
        exchanges = s.exchanges;
        joint = record { reached_exchanges = j.reached_exchanges; speaks = j.speaks; bodies = bodies-so j; sizes = sizes-so j; ways = ways-so j; shared = j.shared; follows = follows-so j };
        extra = k.quiet Responder (record { side = A; step = gave n } ∷ w) s.two s.ledger s.exchanges (fed octets) tt (k.quiet Initiator w s.two s.ledger s.exchanges (gave n) tt s.extra);
      }
    where
      bodies-so : Joint common w s.two s.ledger s.exchanges → (r : Role) → (end_for common r (record { side = B; step = fed octets } ∷ record { side = A; step = gave n } ∷ w)).body ≡ body_at r s.two
      bodies-so j Initiator = j.bodies Initiator
      bodies-so j Responder = j.bodies Responder

      sizes-so : Joint common w s.two s.ledger s.exchanges → (r : Role) → IsUnitSize (end_for common r (record { side = B; step = fed octets } ∷ record { side = A; step = gave n } ∷ w)).line.size
      sizes-so j Initiator = j.sizes Initiator
      sizes-so j Responder = j.sizes Responder

      ways-so : Joint common w s.two s.ledger s.exchanges → (r : Role) → WayTo common (record { side = B; step = fed octets } ∷ record { side = A; step = gave n } ∷ w) r (coming_to r s.two)
      ways-so j Initiator = j.ways Initiator
      ways-so j Responder =
          fed-way (end_for common Responder w).line.came (end_for common Initiator w).line.waiting octets n (coming_to Responder s.two) (passes_over (end_for common Responder w).body.link.phase) e (j.ways Responder)

      follows-so : Joint common w s.two s.ledger s.exchanges → (r : Role) → FollowsAt common (record { side = B; step = fed octets } ∷ record { side = A; step = gave n } ∷ w) r (coming_to r s.two)
      follows-so j Initiator = plain (readings A w) (sendings (ends_for common) B w) (coming_to Initiator s.two) (j.follows Initiator)
      follows-so j Responder = plain (readings B w) (sendings (ends_for common) A w) (coming_to Responder s.two) (j.follows Responder)

  pub carried-b : (w : World) (n : ℕ) (octets : List ℕ) → octets ≡ take n (end_for common Responder w).line.waiting → Joined common Extra w → Joined common Extra (record { side = A; step = fed octets } ∷ record { side = B; step = gave n } ∷ w)
  carried-b w n octets e s =
      let j = s.joint in
      record {
        two = s.two;
        ledger = s.ledger;
        exchanges = s.exchanges;
        joint = record { reached_exchanges = j.reached_exchanges; speaks = j.speaks; bodies = bodies-so j; sizes = sizes-so j; ways = ways-so j; shared = j.shared; follows = follows-so j };
        extra = k.quiet Initiator (record { side = B; step = gave n } ∷ w) s.two s.ledger s.exchanges (fed octets) tt (k.quiet Responder w s.two s.ledger s.exchanges (gave n) tt s.extra);
      }
    where
      bodies-so : Joint common w s.two s.ledger s.exchanges → (r : Role) → (end_for common r (record { side = A; step = fed octets } ∷ record { side = B; step = gave n } ∷ w)).body ≡ body_at r s.two
      bodies-so j Initiator = j.bodies Initiator
      bodies-so j Responder = j.bodies Responder

      sizes-so : Joint common w s.two s.ledger s.exchanges → (r : Role) → IsUnitSize (end_for common r (record { side = A; step = fed octets } ∷ record { side = B; step = gave n } ∷ w)).line.size
      sizes-so j Initiator = j.sizes Initiator
      sizes-so j Responder = j.sizes Responder

      ways-so : Joint common w s.two s.ledger s.exchanges → (r : Role) → WayTo common (record { side = A; step = fed octets } ∷ record { side = B; step = gave n } ∷ w) r (coming_to r s.two)
      ways-so j Initiator =
          fed-way (end_for common Initiator w).line.came (end_for common Responder w).line.waiting octets n (coming_to Initiator s.two) (passes_over (end_for common Initiator w).body.link.phase) e (j.ways Initiator)
      ways-so j Responder = j.ways Responder

      follows-so : Joint common w s.two s.ledger s.exchanges → (r : Role) → FollowsAt common (record { side = A; step = fed octets } ∷ record { side = B; step = gave n } ∷ w) r (coming_to r s.two)
      follows-so j Initiator = plain (readings A w) (sendings (ends_for common) B w) (coming_to Initiator s.two) (j.follows Initiator)
      follows-so j Responder = plain (readings B w) (sendings (ends_for common) A w) (coming_to Responder s.two) (j.follows Responder)

  -- ---- a break

  pub broken : (w : World) → Joined common Extra w → Joined common Extra (record { side = B; step = broke } ∷ record { side = A; step = broke } ∷ w)
  broken w s =
      let j = s.joint in
      record {
        two = both_broke common s.two;
        ledger = s.ledger;
        exchanges = on_exchange Initiator loses loses s.exchanges;
        joint =
            record {
              reached_exchanges = exchanges_.breaks s.two s.ledger s.exchanges j.reached_exchanges;
              speaks = record { goes = ledgers.breaks s.two s.ledger j.speaks.goes; calls = j.speaks.calls };
              bodies = bodies-so j;
              sizes = sizes-so;
              ways = ways-so;
              shared = j.shared;
              follows = follows-so;
            };
        extra = k.breaks w s.two s.ledger s.exchanges j s.extra;
      }
    where
      bodies-so : Joint common w s.two s.ledger s.exchanges → (r : Role) → (end_for common r (record { side = B; step = broke } ∷ record { side = A; step = broke } ∷ w)).body ≡ body_at r (both_broke common s.two)
      bodies-so j Initiator = ap (after_broke (base_at Initiator common)) (j.bodies Initiator)
      bodies-so j Responder = ap (after_broke (base_at Responder common)) (j.bodies Responder)

      sizes-so : (r : Role) → IsUnitSize (end_for common r (record { side = B; step = broke } ∷ record { side = A; step = broke } ∷ w)).line.size
      sizes-so Initiator = first-fits true
      sizes-so Responder = first-fits false

      ways-so : (r : Role) → WayTo common (record { side = B; step = broke } ∷ record { side = A; step = broke } ∷ w) r (coming_to r (both_broke common s.two))
      ways-so Initiator = new-way common
      ways-so Responder = new-way common

      follows-so : (r : Role) → FollowsAt common (record { side = B; step = broke } ∷ record { side = A; step = broke } ∷ w) r (coming_to r (both_broke common s.two))
      follows-so Initiator = refl
      follows-so Responder = refl

-- ---- feeds and whole runs

module _ (common : Common) (m : IsMeant common) (Extra : World → Two → Ledger → Exchanges → Type 0) (k : Keeps common Extra) where
  pub fed-so : (role : Role) (w : World) (e : End) (reading own : List Step) (shown : List Indication) → e ≡ end_for common role w → Reads (base_at role common) e reading shown
      → ByItself (base_at role common) (after_all (base_at role common) e reading).body own → Joined common Extra w → Joined common Extra (stepping (side_of role) w (reading ++ feed_end ∷ own))
  fed-so role w e reading own shown is r o s =
      let u = stepping (side_of role) w reading in
      let there : after_all (base_at role common) e reading ≡ end_for common role u = ap (λ (x : End). after_all (base_at role common) x reading) is ∙ sym (own-end common role w reading) in
      let after_end = ended common m Extra k role u (all-reads common m Extra k role w e reading shown is r s) in
      let body : (after_all (base_at role common) e reading).body ≡ (end_for common role (stepping (side_of role) u (feed_end ∷ []))).body =
      ap (λ (x : End). x.body) (there ∙ sym (own-end common role u (feed_end ∷ []))) in
      subst (Joined common Extra) (sym (stepping-append (side_of role) w reading (feed_end ∷ own)))
      (all-own common m Extra k role (stepping (side_of role) u (feed_end ∷ [])) (after_all (base_at role common) e reading).body own body o after_end)

  pub all-runs : (w v : World) (all : List Event) (told : List Entry) → AreEvents all → Runs (ends_for common) w all told v → Joined common Extra w → Joined common Extra v
  all-runs w v all told typed runs.rests s = s
  all-runs w v all told typed (runs.calls {more = more} {told = later} A call steps makes next) s =
      all-runs (stepping A w steps) v more later typed.1 next (all-called common m Extra k Initiator w call steps typed.0 makes s)
  all-runs w v all told typed (runs.calls {more = more} {told = later} B call steps makes next) s =
      all-runs (stepping B w steps) v more later typed.1 next (all-called common m Extra k Responder w call steps typed.0 makes s)
  all-runs w v all told typed (runs.carries {more = more} {told = later} A most steps shown fd next) s =
      let octets = first_octets most (end_for common Initiator w).line.waiting in
      let u = carried-a common Extra k w (length octets) octets (front-is most (end_for common Initiator w).line.waiting) s in
      let f = fed-so Responder (record { side = B; step = fed octets } ∷ record { side = A; step = gave (length octets) } ∷ w) (after (base_at Responder common) (end_for common Responder w) (fed octets)) fd.reading fd.own shown refl fd.reads fd.by_itself u in
      all-runs (stepping B (record { side = A; step = gave (length octets) } ∷ w) steps) v more later typed.1 next
      (subst (λ (l : List Step). Joined common Extra (stepping B (record { side = A; step = gave (length octets) } ∷ w) l)) (sym fd.all) f)
  all-runs w v all told typed (runs.carries {more = more} {told = later} B most steps shown fd next) s =
      let octets = first_octets most (end_for common Responder w).line.waiting in
      let u = carried-b common Extra k w (length octets) octets (front-is most (end_for common Responder w).line.waiting) s in
      let f = fed-so Initiator (record { side = A; step = fed octets } ∷ record { side = B; step = gave (length octets) } ∷ w) (after (base_at Initiator common) (end_for common Initiator w) (fed octets)) fd.reading fd.own shown refl fd.reads fd.by_itself u in
      all-runs (stepping A (record { side = B; step = gave (length octets) } ∷ w) steps) v more later typed.1 next
      (subst (λ (l : List Step). Joined common Extra (stepping A (record { side = B; step = gave (length octets) } ∷ w) l)) (sym fd.all) f)
  all-runs w v all told typed (runs.breaks {more = more} {told = later} next) s =
      all-runs (stepping B (stepping A w (broke ∷ [])) (broke ∷ [])) v more later typed.1 next (broken common Extra k w s)

  pub from-start : (v : World) (all : List Event) (told : List Entry) → AreEvents all → Runs (ends_for common) [] all told v → Joined common Extra v
  from-start v all told typed r = all-runs [] v all told typed r (begun common m Extra k)
