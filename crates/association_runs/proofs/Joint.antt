-- What is kept between the moments of two ends whose lines are octets and what two ends with messages reach: each step of an end
-- with its octets is a step of the messages that these octets are.
use Rattle.std.proofs.Common.{◌≡◌, refl, ◌∙◌, sym, ap, subst, ℕ, List, ◌++◌}
use Rattle.end_model.specs.end_rules.Messages.{Message}
use Rattle.end_model.specs.end_rules.State.{Body}
use Rattle.end_model.specs.end_rules.History.{Step}
use Rattle.end_model.specs.end_rules.World.{World, shared_at}
use Rattle.agreement.specs.Sets.{Role, other}
use Rattle.agreement.specs.Sets.Role.{Initiator, Responder}
use Rattle.end_model.specs.Sharing.{side_of}
use Rattle.end_model.specs.BothEnds.{Common, base_at, Two, body_at, coming_to, stepped}
use Rattle.outcome_laws.specs.reliable_model.Ledgers.{Ledger}
use Rattle.outcome_laws.specs.Exchanges.{Exchanges, ReachedWithExchanges}
use Rattle.association_worlds.specs.said_words.Calls.{Speaks}
use Rattle.association_worlds.specs.Lines.{written_all}
use Rattle.osi_base.specs.Limits.{IsUnitSize}
use Rattle.association_worlds.specs.InTransit.{AreCarried, Way}
use Rattle.association_worlds.specs.Laws.{IsHeard}
use Rattle.association_worlds.proofs.Kept.{way-sent}
use Rattle.run_laws.specs.Passing.{sendings, readings}
use Rattle.association_line.specs.Line.{Line, End, after_all}
use Rattle.association_runs.specs.Worlds.{stepping}
use Rattle.association_runs.specs.Sides.{ends_for}
use Rattle.association_runs.proofs.Histories.{end_for, own-end, peer-end, other-other, shared_on, shared-stepping}
use Rattle.association_runs.proofs.Lines.{writing}
use Rattle.association_runs.proofs.Moments.{AreOn, all_read, all_sent_in, messages_in, own-readings, peer-readings, own-sendings, peer-sendings, Follows, follows-sent}

-- ---- both ends

pub both : (role : Role) (X : Role → Type 0) → X role → X (other role) → (r : Role) → X r
both Initiator X x y Initiator = x
both Initiator X x y Responder = y
both Responder X x y Initiator = y
both Responder X x y Responder = x

pub own-body : (role : Role) (b : Body) (left more : List Message) (two : Two) → body_at role (stepped role b left more two) ≡ b
own-body Initiator b left more two = refl
own-body Responder b left more two = refl

pub peer-body : (role : Role) (b : Body) (left more : List Message) (two : Two) → body_at (other role) (stepped role b left more two) ≡ body_at (other role) two
peer-body Initiator b left more two = refl
peer-body Responder b left more two = refl

pub own-coming : (role : Role) (b : Body) (left more : List Message) (two : Two) → coming_to role (stepped role b left more two) ≡ left
own-coming Initiator b left more two = refl
own-coming Responder b left more two = refl

pub peer-coming : (role : Role) (b : Body) (left more : List Message) (two : Two) → coming_to (other role) (stepped role b left more two) ≡ coming_to (other role) two ++ more
peer-coming Initiator b left more two = refl
peer-coming Responder b left more two = refl

-- ---- what is kept

abbrev pub WayTo : Common → World → Role → List Message → Type 0
WayTo common w role coming = Way common.tables (end_for common role w).line.came (end_for common (other role) w).line.waiting coming

abbrev pub FollowsAt : Common → World → Role → List Message → Type 0
FollowsAt common w role coming = Follows (readings (side_of role) w) (messages_in (sendings (ends_for common) (side_of (other role)) w)) coming

pub record Joint (common : Common) (w : World) (two : Two) (ledger : Ledger) (exchanges : Exchanges) : Type 0 where
  pub reached_exchanges : ReachedWithExchanges common two ledger exchanges
  pub speaks : Speaks common two ledger
  pub bodies : (role : Role) → (end_for common role w).body ≡ body_at role two
  pub sizes : (role : Role) → IsUnitSize (end_for common role w).line.size
  pub ways : (role : Role) → WayTo common w role (coming_to role two)
  pub shared : shared_at (ends_for common) w ≡ ledger.shared
  pub follows : (role : Role) → FollowsAt common w role (coming_to role two)

module _ (common : Common) (m : IsHeard common) where
  -- what an end did: its body and line now, what is left of what came to it, and what it sent
  pub record Did (role : Role) (w : World) (xs : List Step) (two : Two) (ledger : Ledger) (exchanges : Exchanges) (body : Body) (line : Line) (left more : List Message) : Type 0 where
    pub on : AreOn xs
    pub sends : all_sent_in xs ≡ more
    pub end : after_all (base_at role common) (end_for common role w) xs ≡ record { body = body; line = writing (base_at role common) more line }
    pub waits : line.waiting ≡ (end_for common role w).line.waiting
    pub size : IsUnitSize line.size
    pub way : Way common.tables line.came (end_for common (other role) w).line.waiting left
    pub follows : Follows (readings (side_of role) w ++ all_read xs) (messages_in (sendings (ends_for common) (side_of (other role)) w)) left
    pub shared : shared_on (base_at role common) (side_of role) (shared_at (ends_for common) w) xs ≡ ledger.shared
    pub reached_exchanges : ReachedWithExchanges common two ledger exchanges
    pub speaks : Speaks common two ledger

  module _ (role : Role) (w : World) (xs : List Step) (two : Two) (ledger before : Ledger) (exchanges earlier : Exchanges) (body : Body) (line : Line) (left more : List Message)
      (j : Joint common w two before earlier) (d : Did role w xs (stepped role body left more two) ledger exchanges body line left more) where
    abbrev later : World
    later = stepping (side_of role) w xs

    abbrev two_later : Two
    two_later = stepped role body left more two

    own-is : end_for common role later ≡ record { body = body; line = writing (base_at role common) more line }
    own-is = own-end common role w xs ∙ d.end

    peer-is : end_for common (other role) later ≡ end_for common (other role) w
    peer-is = peer-end common role w xs

    bodies-so : (r : Role) → (end_for common r later).body ≡ body_at r two_later
    bodies-so =
        both role (λ (r : Role). (end_for common r later).body ≡ body_at r two_later)
        (ap (λ (e : End). e.body) own-is ∙ sym (own-body role body left more two))
        (ap (λ (e : End). e.body) peer-is ∙ j.bodies (other role) ∙ sym (peer-body role body left more two))

    sizes-so : (r : Role) → IsUnitSize (end_for common r later).line.size
    sizes-so =
        both role (λ (r : Role). IsUnitSize (end_for common r later).line.size)
        (subst (λ (e : End). IsUnitSize e.line.size) (sym own-is) d.size)
        (subst (λ (e : End). IsUnitSize e.line.size) (sym peer-is) (j.sizes (other role)))

    own-way : WayTo common later role (coming_to role two_later)
    own-way =
        subst (λ (c : List Message). WayTo common later role c) (sym (own-coming role body left more two))
        (subst (λ (e : End). Way common.tables e.line.came (end_for common (other role) later).line.waiting left) (sym own-is)
        (subst (λ (e : End). Way common.tables line.came e.line.waiting left) (sym peer-is) d.way))

    -- the peer's way gains what was sent
    gained : Way common.tables (end_for common (other role) w).line.came (line.waiting ++ written_all common.tables line.size more) (coming_to (other role) two ++ more)
    gained =
        way-sent common.tables (end_for common (other role) w).line.came line.waiting (coming_to (other role) two) more line.size d.size
        (subst (AreCarried common.tables) (peer-coming role body left more two) (m.carried two_later ledger d.speaks (other role)))
        (subst (λ (os : List ℕ). Way common.tables (end_for common (other role) w).line.came os (coming_to (other role) two)) (sym d.waits)
        (subst (λ (r : Role). Way common.tables (end_for common (other role) w).line.came (end_for common r w).line.waiting (coming_to (other role) two)) (other-other role) (j.ways (other role))))

    peer-way : WayTo common later (other role) (coming_to (other role) two_later)
    peer-way =
        subst (λ (c : List Message). WayTo common later (other role) c) (sym (peer-coming role body left more two))
        (subst (λ (r : Role). Way common.tables (end_for common (other role) later).line.came (end_for common r later).line.waiting (coming_to (other role) two ++ more)) (sym (other-other role))
        (subst (λ (e : End). Way common.tables e.line.came (end_for common role later).line.waiting (coming_to (other role) two ++ more)) (sym peer-is)
        (subst (λ (e : End). Way common.tables (end_for common (other role) w).line.came e.line.waiting (coming_to (other role) two ++ more)) (sym own-is) gained)))

    own-follows : FollowsAt common later role (coming_to role two_later)
    own-follows =
        subst (λ (c : List Message). FollowsAt common later role c) (sym (own-coming role body left more two))
        (subst (λ (rs : List _). Follows rs (messages_in (sendings (ends_for common) (side_of (other role)) later)) left) (sym (own-readings role w xs d.on))
        (subst (λ (ms : List Message). Follows (readings (side_of role) w ++ all_read xs) ms left) (sym (peer-sendings (ends_for common) role w xs d.on)) d.follows))

    peer-follows : FollowsAt common later (other role) (coming_to (other role) two_later)
    peer-follows =
        subst (λ (c : List Message). FollowsAt common later (other role) c) (sym (peer-coming role body left more two))
        (subst (λ (r : Role). Follows (readings (side_of (other role)) later) (messages_in (sendings (ends_for common) (side_of r) later)) (coming_to (other role) two ++ more)) (sym (other-other role))
        (subst (λ (rs : List _). Follows rs (messages_in (sendings (ends_for common) (side_of role) later)) (coming_to (other role) two ++ more)) (sym (peer-readings role w xs d.on))
        (subst (λ (ms : List Message). Follows (readings (side_of (other role)) w) ms (coming_to (other role) two ++ more))
        (sym (own-sendings (ends_for common) role w xs d.on ∙ ap (λ (l : List Message). messages_in (sendings (ends_for common) (side_of role) w) ++ l) d.sends))
        (follows-sent (readings (side_of (other role)) w) (messages_in (sendings (ends_for common) (side_of role) w)) (coming_to (other role) two) more
        (subst (λ (r : Role). Follows (readings (side_of (other role)) w) (messages_in (sendings (ends_for common) (side_of r) w)) (coming_to (other role) two)) (other-other role) (j.follows (other role)))))))

    pub moved : Joint common later two_later ledger exchanges
    moved = record {
      reached_exchanges = d.reached_exchanges;
      speaks = d.speaks;
      bodies = bodies-so;
      sizes = sizes-so;
      ways = both role (λ (r : Role). WayTo common later r (coming_to r two_later)) own-way peer-way;
      shared = shared-stepping common role w xs ∙ d.shared;
      follows = both role (λ (r : Role). FollowsAt common later r (coming_to r two_later)) own-follows peer-follows;
    }
