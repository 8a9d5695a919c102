-- Reliable mode on a connection: what is taken may be taken, and what a taking keeps.
use Rattle.std.proofs.Common.{◌≡◌, ℕ, false, List, [], ◌∷◌, ◌++◌, refl, sym, ◌∙◌, true≢false, subst, subst₂, inl, inr, ◌⊎◌}
use Rattle.std.specs.Prelude.{Option, Some, None}
use Rattle.agreement.specs.Sets.{Role, other, ContextSet, Item}
use Rattle.agreement.specs.Messages.{ModelSetup, Message, Choice}
use Rattle.agreement.specs.Messages.Message.{AlterAnswer, MarkAnswer, EndAnswer, InterruptAnswer, DiscardAnswer, Please, Release, UserAbort}
use Rattle.agreement.specs.State.{Awaited, Progress, Transfer, State}
use Rattle.agreement.specs.State.Awaited.{NoAnswer, RestartOf, InterruptOf, DiscardOf, ReleaseOf}
use Rattle.agreement.specs.State.Progress.{Running, Ending, Suspended}
use Rattle.agreement.specs.Takings.{is_purged, MayTake, answer_to, taken}
use Rattle.agreement.specs.Worlds.{Shared, shared_answered, saved_of}
use Rattle.agreement.proofs.Carried.{WasSent}
use Rattle.agreement.proofs.Down.{Follower, at-rest}
use Rattle.agreement.proofs.Flow.{Leader, Doing, Ups, Rest, RestBy, RestIn, Flow}
use Rattle.agreement.proofs.LeadTakes.{takes_answer, takes_mark, takes_end, takes_interrupt_answer, takes_discard_answer, takes_please}
use Rattle.agreement.proofs.Standing.{reliable, follower_of, LeadOk, FollowOk, FlowOf, Flowing, nil-messages}
use Rattle.agreement.proofs.Standing.Flowing.{Leads}

-- what a taking gives, of the flow
pub record FlowTakes (base : ModelSetup) (role : Role) (x y : State) (down up : List Message) (shared : Shared) (m : Message) (choice : Choice) : Type 0 where
  pub may : WasSent (reliable base) m → MayTake (reliable base) role x m
  pub next : Flowing (reliable base) role (taken (reliable base) role x m choice) y (down ++ answer_to (reliable base) x m choice) up (shared_answered m choice shared)

-- what may come up to a leader that awaits nothing
abbrev pub IsUpward : Message → Type 0
IsUpward (AlterAnswer results) = Unit {0}
IsUpward (MarkAnswer n) = Unit {0}
IsUpward (EndAnswer n) = Unit {0}
IsUpward (Please p) = Unit {0}
IsUpward UserAbort = Unit {0}
IsUpward message = ⊥

ups-upward : (stage : Doing) (k h : ℕ) (own : List (List Item)) (held inter : ContextSet) (m : Message) (us : List Message) (there : ContextSet) → Ups stage k h own held inter (m ∷ us) there → IsUpward m
ups-upward stage k h own held inter (AlterAnswer r) us there u = tt
ups-upward stage k h own held inter (MarkAnswer n) us there u = tt
ups-upward stage k h own held inter (EndAnswer n) us there u = tt
ups-upward stage k h own held inter (Please p) us there u = tt
ups-upward stage k h own held inter UserAbort us there u = tt
ups-upward stage k h own held inter m us there u = absurd u

rest-upward : (t : Option Transfer) (l : Leader) (m : Message) (us : List Message) (z : Follower) → RestBy NoAnswer t l (m ∷ us) z → IsUpward m
rest-upward None l m us z r = ups-upward _ _ _ l.sets.own l.sets.held l.sets.inter m us z.held r.0
rest-upward (Some t) l m us z r = go t.progress r
  where
    go : (p : Progress) → RestIn p t l (m ∷ us) z → IsUpward m
    go Suspended h = ups-upward _ _ _ l.sets.own l.sets.held l.sets.inter m us z.held h.0
    go Running h = ups-upward _ _ _ l.sets.own l.sets.held l.sets.inter m us z.held h.0
    go Ending h = ups-upward _ _ _ l.sets.own l.sets.held l.sets.inter m us z.held h.0

-- a leader that awaits nothing takes what comes up
leader-calm : (base : ModelSetup) (role : Role) (x y : State) (down up : List Message) (shared : Shared) (m : Message) (choice : Choice) → LeadOk x → FollowOk y → x.awaits ≡ NoAnswer → (m ≡ UserAbort → ⊥) → Flow (reliable base) role (record { awaits = NoAnswer; sets = x.sets; started = x.outgoing.started; transfer = x.outgoing.transfer }) x.incoming (follower_of y) y.outgoing.started y.outgoing.transfer down (m ∷ up) shared.set shared.inter (saved_of role shared) (saved_of (other role) shared) → FlowTakes base role x y down up shared m choice
leader-calm base role x y down up shared m choice o p calm a n = by_message m a n
  where
    back : (z : State) → z.awaits ≡ x.awaits → LeadOk z → Flow (reliable base) role (record { awaits = NoAnswer; sets = z.sets; started = z.outgoing.started; transfer = z.outgoing.transfer }) z.incoming (follower_of y) y.outgoing.started y.outgoing.transfer down up shared.set shared.inter (saved_of role shared) (saved_of (other role) shared) → Flowing (reliable base) role z y (down ++ []) up shared
    back z e o n =
        Leads o p (subst (λ d. FlowOf (reliable base) role z y d up shared) (sym (nil-messages down))
        (subst (λ w. Flow (reliable base) role (record { awaits = w; sets = z.sets; started = z.outgoing.started; transfer = z.outgoing.transfer }) z.incoming (follower_of y) y.outgoing.started y.outgoing.transfer down up shared.set shared.inter (saved_of role shared) (saved_of (other role) shared)) (sym (e ∙ calm)) n))

    upward : (m : Message) → Flow (reliable base) role (record { awaits = NoAnswer; sets = x.sets; started = x.outgoing.started; transfer = x.outgoing.transfer }) x.incoming (follower_of y) y.outgoing.started y.outgoing.transfer down (m ∷ up) shared.set shared.inter (saved_of role shared) (saved_of (other role) shared) → IsUpward m
    upward m n =
        let a = at-rest (reliable base) role (Rest (record { awaits = NoAnswer; sets = x.sets; started = x.outgoing.started; transfer = x.outgoing.transfer })) down (follower_of y) (m ∷ up) n.runs in
        rest-upward x.outgoing.transfer (record { awaits = NoAnswer; sets = x.sets; started = x.outgoing.started; transfer = x.outgoing.transfer }) m (up ++ a.more) a.last a.rests.0

    with_transfer : State → Option Transfer → State
    with_transfer x t = record x { outgoing = record x.outgoing { transfer = t } }

    by_mark : (number : ℕ) (t : Option Transfer) → Flow (reliable base) role (record { awaits = NoAnswer; sets = x.sets; started = x.outgoing.started; transfer = t }) x.incoming (follower_of y) y.outgoing.started y.outgoing.transfer down (MarkAnswer number ∷ up) shared.set shared.inter (saved_of role shared) (saved_of (other role) shared) → FlowTakes base role (with_transfer x t) y down up shared (MarkAnswer number) choice
    by_mark number None n =
        absurd (at-rest (reliable base) role (Rest (record { awaits = NoAnswer; sets = x.sets; started = x.outgoing.started; transfer = None })) down (follower_of y) (MarkAnswer number ∷ up) n.runs).rests.0.0.0
    by_mark number (Some t) n =
        let r = takes_mark (reliable base) role x.sets x.outgoing.started t number x.incoming (follower_of y) y.outgoing.started y.outgoing.transfer down up shared.set shared.inter (saved_of role shared) (saved_of (other role) shared) n in
        record {
          may = λ w. record { by_transfers = refl; is_up = o.up; is_next = record { is_in_progress = r.0.goes_on; is_lowest = r.0.lowest; was_sent = r.0.sent } };
          next = back (taken (reliable base) role (with_transfer x (Some t)) (MarkAnswer number) choice) refl (record { up = o.up; turn = o.turn; gave = o.gave }) r.1;
        }

    by_end : (number : ℕ) (t : Option Transfer) → Flow (reliable base) role (record { awaits = NoAnswer; sets = x.sets; started = x.outgoing.started; transfer = t }) x.incoming (follower_of y) y.outgoing.started y.outgoing.transfer down (EndAnswer number ∷ up) shared.set shared.inter (saved_of role shared) (saved_of (other role) shared) → FlowTakes base role (with_transfer x t) y down up shared (EndAnswer number) choice
    by_end number None n =
        absurd (at-rest (reliable base) role (Rest (record { awaits = NoAnswer; sets = x.sets; started = x.outgoing.started; transfer = None })) down (follower_of y) (EndAnswer number ∷ up) n.runs).rests.0.0.0
    by_end number (Some t) n =
        let r = takes_end (reliable base) role x.sets x.outgoing.started t number x.incoming (follower_of y) y.outgoing.started y.outgoing.transfer down up shared.set shared.inter (saved_of role shared) (saved_of (other role) shared) n in
        record {
          may = λ w. record { by_transfers = refl; is_up = o.up; is_its = record { ends = r.0.0; is_its = r.0.1 } };
          next = back (taken (reliable base) role (with_transfer x (Some t)) (EndAnswer number) choice) refl (record { up = o.up; turn = o.turn; gave = o.gave }) r.1;
        }

    by_message : (m : Message) → (m ≡ UserAbort → ⊥) → Flow (reliable base) role (record { awaits = NoAnswer; sets = x.sets; started = x.outgoing.started; transfer = x.outgoing.transfer }) x.incoming (follower_of y) y.outgoing.started y.outgoing.transfer down (m ∷ up) shared.set shared.inter (saved_of role shared) (saved_of (other role) shared) → FlowTakes base role x y down up shared m choice
    by_message (AlterAnswer results) a n =
        let r = takes_answer (reliable base) role x.sets x.outgoing.started x.outgoing.transfer results x.incoming (follower_of y) y.outgoing.started y.outgoing.transfer down up shared.set shared.inter (saved_of role shared) (saved_of (other role) shared) n in
        record {
          may = λ w. record { is_up = o.up; fits = r.0; is_known = w };
          next = back (taken (reliable base) role x (AlterAnswer results) choice) refl (record { up = o.up; turn = o.turn; gave = o.gave }) r.1;
        }
    by_message (MarkAnswer number) a n = by_mark number x.outgoing.transfer n
    by_message (EndAnswer number) a n = by_end number x.outgoing.transfer n
    by_message (Please priority) a n =
        record {
          may = λ w. record { is_up = o.up; in_mode = tt };
          next = back x refl o (takes_please (reliable base) role (record { awaits = NoAnswer; sets = x.sets; started = x.outgoing.started; transfer = x.outgoing.transfer }) priority x.incoming (follower_of y) y.outgoing.started y.outgoing.transfer down up shared.set shared.inter (saved_of role shared) (saved_of (other role) shared) n);
        }
    by_message UserAbort a n = absurd (a refl)
    by_message m a n = absurd (upward m n)

purges-some : (base : ModelSetup) (role : Role) (w : Awaited) (x y : State) (t : Option Transfer) (down up : List Message) (shared : Shared) → (w ≡ InterruptOf) ⊎ (w ≡ DiscardOf) → Flow (reliable base) role (record { awaits = w; sets = x.sets; started = x.outgoing.started; transfer = t }) x.incoming (follower_of y) y.outgoing.started y.outgoing.transfer down up shared.set shared.inter (saved_of role shared) (saved_of (other role) shared) → t ≡ None → ⊥
purges-some base role w x y t down up shared (inl e) n q =
    let f = subst₂ (λ v s. Flow (reliable base) role (record { awaits = v; sets = x.sets; started = x.outgoing.started; transfer = s }) x.incoming (follower_of y) y.outgoing.started y.outgoing.transfer down up shared.set shared.inter (saved_of role shared) (saved_of (other role) shared)) e q n in
    (at-rest (reliable base) role (Rest (record { awaits = InterruptOf; sets = x.sets; started = x.outgoing.started; transfer = None })) down (follower_of y) up f.runs).rests.0
purges-some base role w x y t down up shared (inr e) n q =
    let f = subst₂ (λ v s. Flow (reliable base) role (record { awaits = v; sets = x.sets; started = x.outgoing.started; transfer = s }) x.incoming (follower_of y) y.outgoing.started y.outgoing.transfer down up shared.set shared.inter (saved_of role shared) (saved_of (other role) shared)) e q n in
    (at-rest (reliable base) role (Rest (record { awaits = DiscardOf; sets = x.sets; started = x.outgoing.started; transfer = None })) down (follower_of y) up f.runs).rests.0

-- a leader takes what it doesn't pass over
pub leader-takes : (base : ModelSetup) (role : Role) (x y : State) (down up : List Message) (shared : Shared) (m : Message) (choice : Choice) → LeadOk x → FollowOk y → is_purged role x.awaits m ≡ false → (m ≡ UserAbort → ⊥) → FlowOf (reliable base) role x y down (m ∷ up) shared → FlowTakes base role x y down up shared m choice
leader-takes base role x y down up shared m choice o p kept a n = by_await x.awaits refl n
  where
    FlowAt : Awaited → Option Transfer → Message → Type 0
    FlowAt w t m = Flow (reliable base) role (record { awaits = w; sets = x.sets; started = x.outgoing.started; transfer = t }) x.incoming (follower_of y) y.outgoing.started y.outgoing.transfer down (m ∷ up) shared.set shared.inter (saved_of role shared) (saved_of (other role) shared)

    with_transfer : Awaited → Option Transfer → State
    with_transfer w t = record x { awaits = w; outgoing = record x.outgoing { transfer = t } }

    to_calm : (z : State) → z.awaits ≡ NoAnswer → LeadOk z → Flow (reliable base) role (record { awaits = NoAnswer; sets = z.sets; started = z.outgoing.started; transfer = z.outgoing.transfer }) z.incoming (follower_of y) y.outgoing.started y.outgoing.transfer down up shared.set shared.inter (saved_of role shared) (saved_of (other role) shared) → Flowing (reliable base) role z y (down ++ []) up shared
    to_calm z e o n =
        Leads o p (subst (λ d. FlowOf (reliable base) role z y d up shared) (sym (nil-messages down))
        (subst (λ w. Flow (reliable base) role (record { awaits = w; sets = z.sets; started = z.outgoing.started; transfer = z.outgoing.transfer }) z.incoming (follower_of y) y.outgoing.started y.outgoing.transfer down up shared.set shared.inter (saved_of role shared) (saved_of (other role) shared)) (sym e) n))

    interrupted : (t : Option Transfer) → FlowAt InterruptOf t InterruptAnswer → FlowTakes base role (with_transfer InterruptOf t) y down up shared InterruptAnswer choice
    interrupted None n = absurd (purges-some base role InterruptOf x y None down (InterruptAnswer ∷ up) shared (inl refl) n refl)
    interrupted (Some t) n =
        record {
          may = λ w. record { by_transfers = refl; is_up = o.up; asked = refl };
          next =
              to_calm (taken (reliable base) role (with_transfer InterruptOf (Some t)) InterruptAnswer choice) refl (record { up = o.up; turn = o.turn; gave = o.gave })
              (takes_interrupt_answer (reliable base) role x.sets x.outgoing.started t x.incoming (follower_of y) y.outgoing.started y.outgoing.transfer down up shared.set shared.inter (saved_of role shared) (saved_of (other role) shared) n);
        }

    discarded : (t : Option Transfer) → FlowAt DiscardOf t DiscardAnswer → FlowTakes base role (with_transfer DiscardOf t) y down up shared DiscardAnswer choice
    discarded None n = absurd (purges-some base role DiscardOf x y None down (DiscardAnswer ∷ up) shared (inr refl) n refl)
    discarded (Some t) n =
        record {
          may = λ w. record { by_transfers = refl; is_up = o.up; asked = refl };
          next =
              to_calm (taken (reliable base) role (with_transfer DiscardOf (Some t)) DiscardAnswer choice) refl (record { up = o.up; turn = o.turn; gave = o.gave })
              (takes_discard_answer (reliable base) role x.sets x.outgoing.started t x.incoming (follower_of y) y.outgoing.started y.outgoing.transfer down up shared.set shared.inter (saved_of role shared) (saved_of (other role) shared) n);
        }

    no-release : (w : Awaited) (t : Option Transfer) → (w ≡ InterruptOf) ⊎ (w ≡ DiscardOf) → FlowAt w t Release → ⊥
    no-release w None e n = purges-some base role w x y None down (Release ∷ up) shared e n refl
    no-release w (Some t) (inl e) n =
        (at-rest (reliable base) role (Rest (record { awaits = InterruptOf; sets = x.sets; started = x.outgoing.started; transfer = Some t })) down (follower_of y) (Release ∷ up) (subst (λ v. FlowAt v (Some t) Release) e n).runs).rests.0.0
    no-release w (Some t) (inr e) n =
        (at-rest (reliable base) role (Rest (record { awaits = DiscardOf; sets = x.sets; started = x.outgoing.started; transfer = Some t })) down (follower_of y) (Release ∷ up) (subst (λ v. FlowAt v (Some t) Release) e n).runs).rests.0.0

    interrupting : (m : Message) → (m ≡ UserAbort → ⊥) → is_purged role InterruptOf m ≡ false → FlowAt InterruptOf x.outgoing.transfer m → FlowTakes base role (with_transfer InterruptOf x.outgoing.transfer) y down up shared m choice
    interrupting InterruptAnswer a k n = interrupted x.outgoing.transfer n
    interrupting UserAbort a k n = absurd (a refl)
    interrupting Release a k n = absurd (no-release InterruptOf x.outgoing.transfer (inl refl) n)
    interrupting m a k n = absurd (true≢false k)

    discarding : (m : Message) → (m ≡ UserAbort → ⊥) → is_purged role DiscardOf m ≡ false → FlowAt DiscardOf x.outgoing.transfer m → FlowTakes base role (with_transfer DiscardOf x.outgoing.transfer) y down up shared m choice
    discarding DiscardAnswer a k n = discarded x.outgoing.transfer n
    discarding UserAbort a k n = absurd (a refl)
    discarding Release a k n = absurd (no-release DiscardOf x.outgoing.transfer (inr refl) n)
    discarding m a k n = absurd (true≢false k)

    bad : (w : Awaited) → ((t : Option Transfer) (l : Leader) (us : List Message) (z : Follower) → RestBy w t l us z → ⊥) → FlowAt w x.outgoing.transfer m → ⊥
    bad w f n =
        let a = at-rest (reliable base) role (Rest (record { awaits = w; sets = x.sets; started = x.outgoing.started; transfer = x.outgoing.transfer })) down (follower_of y) (m ∷ up) n.runs in
        f x.outgoing.transfer (record { awaits = w; sets = x.sets; started = x.outgoing.started; transfer = x.outgoing.transfer }) (m ∷ up ++ a.more) a.last a.rests.0

    at_state : (w : Awaited) → x.awaits ≡ w → FlowTakes base role (with_transfer w x.outgoing.transfer) y down up shared m choice → FlowTakes base role x y down up shared m choice
    at_state w e h = subst (λ v. FlowTakes base role (with_transfer v x.outgoing.transfer) y down up shared m choice) (sym e) h

    by_await : (w : Awaited) → x.awaits ≡ w → FlowAt w x.outgoing.transfer m → FlowTakes base role x y down up shared m choice
    by_await NoAnswer e n = leader-calm base role x y down up shared m choice o p e a n
    by_await InterruptOf e n = at_state InterruptOf e (interrupting m a (subst (λ w. is_purged role w m ≡ false) e kept) n)
    by_await DiscardOf e n = at_state DiscardOf e (discarding m a (subst (λ w. is_purged role w m ≡ false) e kept) n)
    by_await (RestartOf k) e n = absurd (bad (RestartOf k) (λ t l us z r. r) n)
    by_await ReleaseOf e n = absurd (bad ReleaseOf (λ t l us z r. r) n)
