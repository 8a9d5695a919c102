-- Reliable mode on a connection: the end that follows, the turn, and each taking and passing over.
use Rattle.std.proofs.Common.{◌≡◌, ℕ, true, false, List, [], ◌∷◌, ◌++◌, refl, sym, ap, ◌∙◌, true≢false, subst, subst₂, inl, inr, ◌⊎◌}
use Rattle.std.specs.Prelude.{Option, Some, None}
use Rattle.agreement.specs.Sets.{Role, other, ContextSet, altered}
use Rattle.agreement.specs.Sets.Role.{Initiator, Responder}
use Rattle.agreement.specs.Messages.{Value, Mode, ModelSetup, Message, Choice}
use Rattle.agreement.specs.Messages.Mode.{Bare, Direct, Reliable}
use Rattle.agreement.specs.Messages.Choice.{Nothing, Accepting, Refusing, Results}
use Rattle.agreement.specs.Messages.Message.{Connect, Recover, Accept, Data, Alter, AlterAnswer, Mark, Restart, Start, Resume, Chunk, End, EndAnswer, Interrupt, InterruptAnswer, Discard, DiscardAnswer, Give, GiveAnswer, Please, Release, ReleaseAnswer, UserAbort}
use Rattle.agreement.specs.State.{Outgoing, Awaited, Progress, Transfer, Incoming, State, Sets}
use Rattle.agreement.specs.State.Phase.{Up, Over}
use Rattle.agreement.specs.State.Awaited.{NoAnswer, RestartOf, InterruptOf, DiscardOf, ReleaseOf}
use Rattle.agreement.specs.State.Progress.{Running, Ending, Suspended}
use Rattle.agreement.specs.Acts.{RestsOrNone}
use Rattle.agreement.specs.Takings.{is_purged, MayTake, IsChoice, IsBack, answer_to, taken, hears, handed_up, between, mark_answer, give_answer, value_read, IsReadUnder}
use Rattle.agreement.specs.Worlds.{Sending, Shared, sendings, shared_answered, saved_of, pair_under}
use Rattle.agreement.proofs.Carried.{WasSent}
use Rattle.agreement.proofs.Views.{IsLive, IsNoRelease, AllAre, all-append, nil-append}
use Rattle.agreement.proofs.Taking.{may-be_asked, distinct-additions, no-other}
use Rattle.agreement.proofs.Down.{Follower, Goal, AllQuiet, Down, AtRest, at-rest}
use Rattle.agreement.proofs.Flow.{Leader, PairedIn, Rest, SpellsIn, value_in, RestBy, RestIn, Flow, SavedIn, RunsValue, ValueIn, alters_in, unanswered-none, has_final, quiet-acks, quiet-flat, flat-begins, flat-waits, flat-append, after-part}
use Rattle.agreement.proofs.Flow.Doing.{Resting}
use Rattle.agreement.proofs.Leads.{quiet-ups}
use Rattle.agreement.proofs.LeadTakes.{passes_interrupting, passes_discarding}
use Rattle.agreement.proofs.FollowTakes.{follows_alter, follows_mark, follows_start, follows_resume, follows_chunk, follows_end, follows_interrupt, follows_discard, follows_give_answer, follows_please}
use Rattle.agreement.proofs.Standing.{reliable, leader_of, follower_of, messages, LeadOk, FollowOk, FlowOf, Calm, Giving, Flowing, Sees, Standing, nil-messages}
use Rattle.agreement.proofs.Standing.Flowing.{Leads, Follows, Gives_away, Is_given}
use Rattle.agreement.proofs.Standing.Sees.{Same, Joins, Leaves, Gone}
use Rattle.agreement.proofs.StandingActs.{more, fewer, up-me, seen-outgoing}
use Rattle.agreement.proofs.StandingTakes.{FlowTakes, leader-takes}

-- the flow that y leads and x follows
abbrev Behind : ModelSetup → Role → State → State → List Message → List Message → Shared → Type 0
Behind base role x y down up shared =
    Flow (reliable base) (other role) (leader_of y) y.incoming (follower_of x) x.outgoing.started x.outgoing.transfer up down shared.set shared.inter (saved_of (other role) shared) (saved_of role shared)

-- an answer that changes the shared set
with-set : (base : ModelSetup) (role : Role) (x y : State) (down up : List Message) (set : ContextSet) (shared : Shared) → Flow (reliable base) (other role) (leader_of y) y.incoming (follower_of x) x.outgoing.started x.outgoing.transfer up down set shared.inter (saved_of (other role) shared) (saved_of role shared) → Behind base role x y down up (record shared { set = set })
with-set base Initiator x y down up set shared n = n
with-set base Responder x y down up set shared n = n

keeps-nil : (base : ModelSetup) (role : Role) (x y : State) (down up : List Message) (shared : Shared) → FollowOk x → LeadOk y → Behind base role x y down up shared → Flowing (reliable base) role x y (down ++ []) up shared
keeps-nil base role x y down up shared o p n =
    Follows o p (subst (λ d. Behind base role x y d up shared) (sym (nil-messages down)) n)

-- what is heard at the end of a transfer changes only the open invocations and the queue
ended-flow : (base : ModelSetup) (role : Role) (x y : State) (v : Option Value) (down up : List Message) (shared : Shared) → FollowOk x → LeadOk y → Behind base role (between x) y down up shared → Flowing (reliable base) role (between (hears (reliable base) v x)) y down up shared
ended-flow base role x y None down up shared o p n = Follows (record { up = o.up; turn = o.turn; calm = o.calm; own = o.own; rests = o.rests }) p n
ended-flow base role x y (Some v) down up shared o p n = Follows (record { up = o.up; turn = o.turn; calm = o.calm; own = o.own; rests = o.rests }) p n

follow-again : (x z : State) → z.phase ≡ x.phase → z.turn ≡ x.turn → z.awaits ≡ x.awaits → z.sets.own ≡ x.sets.own → z.outgoing.transfer ≡ x.outgoing.transfer → FollowOk x → FollowOk z
follow-again x z a b c d e o = record { up = a ∙ o.up; turn = b ∙ o.turn; calm = c ∙ o.calm; own = d ∙ o.own; rests = subst RestsOrNone (sym e) o.rests }

-- what spells a value is read as it
pub spells-value : (base : ModelSetup) (value : Value) (held : ContextSet) (incoming : Incoming) → SpellsIn (Some value) (reliable base) held incoming → value_read (reliable base) held incoming ≡ Some value
spells-value base value held incoming h = ap (base.codec.read held) h.1 ∙ base.codec.faithful held value h.2 h.0

spells-read : (base : ModelSetup) (value : Option Value) (held : ContextSet) (incoming : Incoming) → SpellsIn value (reliable base) held incoming → IsReadUnder held (value_read (reliable base) held incoming)
spells-read base None held incoming h = absurd h
spells-read base (Some value) held incoming h = subst (IsReadUnder held) (sym (spells-value base value held incoming h)) h.0

-- the end that follows takes what comes, but what ends it
follower-takes : (base : ModelSetup) (role : Role) (x y : State) (down up : List Message) (shared : Shared) (m : Message) (choice : Choice) → FollowOk x → LeadOk y → IsChoice (reliable base) x m choice → (m ≡ UserAbort → ⊥) → (m ≡ Release → ⊥) → Behind base role x y down (m ∷ up) shared → FlowTakes base role x y down up shared m choice
follower-takes base role x y down up shared (Alter items) (Results results) o p c a r n =
    record {
      may = λ w. record { is_up = o.up; in_mode = o.turn; once = distinct-additions items n.runs.1; may_be_asked = may-be_asked (other role) x.sets.held items n.runs.0 };
      next =
          Follows (follow-again x (taken (reliable base) role x (Alter items) (Results results)) refl refl refl refl refl o) p
          (with-set base role (taken (reliable base) role x (Alter items) (Results results)) y (down ++ (AlterAnswer results ∷ [])) up (altered items results shared.set) shared
          (follows_alter (reliable base) (other role) (leader_of y) y.incoming (follower_of x) x.outgoing.started x.outgoing.transfer items results up down shared.set shared.inter (saved_of (other role) shared) (saved_of role shared) c.fits n));
    }
follower-takes base role x y down up shared (Mark number) choice o p c a r n =
    record {
      may = λ w. record { is_up = o.up; in_mode = record { lacks_turn = o.turn; is_active = n.runs.0; is_next = n.runs.1.0; is_within = n.runs.1.1 } };
      next =
          Follows (follow-again x (taken (reliable base) role x (Mark number) choice) refl refl refl refl refl o) p
          (follows_mark (reliable base) (other role) (leader_of y) y.incoming (follower_of x) x.outgoing.started x.outgoing.transfer number up down shared.set shared.inter (saved_of (other role) shared) (saved_of role shared) n);
    }
follower-takes base role x y down up shared (Start k) choice o p c a r n =
    record {
      may = λ w. record { by_transfers = refl; is_up = o.up; lacks_turn = o.turn; rests = n.runs.0; is_next = n.runs.1 };
      next =
          keeps-nil base role (taken (reliable base) role x (Start k) choice) y down up shared (follow-again x (taken (reliable base) role x (Start k) choice) refl refl refl refl refl o) p
          (follows_start (reliable base) (other role) (leader_of y) y.incoming (follower_of x) x.outgoing.started x.outgoing.transfer k up down shared.set shared.inter (saved_of (other role) shared) (saved_of role shared) n);
    }
follower-takes base role x y down up shared (Resume k j) choice o p c a r n =
    record {
      may = λ w. record { by_transfers = refl; is_up = o.up; lacks_turn = o.turn; rests = n.runs.0; at_mark = n.runs.1 };
      next =
          keeps-nil base role (taken (reliable base) role x (Resume k j) choice) y down up shared (follow-again x (taken (reliable base) role x (Resume k j) choice) refl refl refl refl refl o) p
          (follows_resume (reliable base) (other role) (leader_of y) y.incoming (follower_of x) x.outgoing.started x.outgoing.transfer k j up down shared.set shared.inter (saved_of (other role) shared) (saved_of role shared) n);
    }
follower-takes base role x y down up shared (Chunk octets) choice o p c a r n =
    record {
      may = λ w. record { by_transfers = refl; is_up = o.up; lacks_turn = o.turn; is_active = n.runs.0.0; is_within = n.runs.0.1 };
      next =
          keeps-nil base role (taken (reliable base) role x (Chunk octets) choice) y down up shared (follow-again x (taken (reliable base) role x (Chunk octets) choice) refl refl refl refl refl o) p
          (follows_chunk (reliable base) (other role) (leader_of y) y.incoming (follower_of x) x.outgoing.started x.outgoing.transfer octets up down shared.set shared.inter (saved_of (other role) shared) (saved_of role shared) n);
    }
follower-takes base role x y down up shared (End number) choice o p c a r n =
    record {
      may = λ w. record { by_transfers = refl; is_up = o.up; lacks_turn = o.turn; is_active = n.runs.0; is_next = n.runs.1; is_read = λ e. spells-read base (value_in y.outgoing.transfer) x.sets.held x.incoming n.runs.3 };
      next =
          ended-flow base role (record x { incoming = record x.incoming { was_handed = true; active = false } }) y (handed_up (reliable base) x.sets.held x.incoming) (down ++ (EndAnswer number ∷ [])) up (record shared { set = shared.inter })
          (follow-again x (record x { incoming = record x.incoming { was_handed = true; active = false } }) refl refl refl refl refl o) p
          (with-set base role (between (record x { incoming = record x.incoming { was_handed = true; active = false } })) y (down ++ (EndAnswer number ∷ [])) up shared.inter shared
          (follows_end (reliable base) (other role) (leader_of y) y.incoming (follower_of x) x.outgoing.started x.outgoing.transfer number up down shared.set shared.inter (saved_of (other role) shared) (saved_of role shared) n));
    }
follower-takes base role x y down up shared Interrupt choice o p c a r n =
    record {
      may = λ w. record { by_transfers = refl; is_up = o.up; is_active = n.runs.0 };
      next =
          Follows (follow-again x (taken (reliable base) role x Interrupt choice) refl refl refl refl refl o) p
          (with-set base role (taken (reliable base) role x Interrupt choice) y (down ++ (InterruptAnswer ∷ [])) up shared.inter shared
          (follows_interrupt (reliable base) (other role) (leader_of y) y.incoming (follower_of x) x.outgoing.started x.outgoing.transfer up down shared.set shared.inter (saved_of (other role) shared) (saved_of role shared) n));
    }
follower-takes base role x y down up shared Discard choice o p c a r n =
    record {
      may = λ w. record { by_transfers = refl; is_up = o.up; is_active = n.runs.0 };
      next =
          Follows (follow-again x (taken (reliable base) role x Discard choice) refl refl refl refl refl o) p
          (with-set base role (taken (reliable base) role x Discard choice) y (down ++ (DiscardAnswer ∷ [])) up shared.inter shared
          (follows_discard (reliable base) (other role) (leader_of y) y.incoming (follower_of x) x.outgoing.started x.outgoing.transfer up down shared.set shared.inter (saved_of (other role) shared) (saved_of role shared) n));
    }
follower-takes base role x y down up shared GiveAnswer choice o p c a r n =
    record {
      may = λ w. record { by_transfers = refl; is_up = o.up; asked = n.runs.0 };
      next =
          keeps-nil base role (taken (reliable base) role x GiveAnswer choice) y down up shared (follow-again x (taken (reliable base) role x GiveAnswer choice) refl refl refl refl refl o) p
          (follows_give_answer (reliable base) (other role) (leader_of y) y.incoming (follower_of x) x.outgoing.started x.outgoing.transfer up down shared.set shared.inter (saved_of (other role) shared) (saved_of role shared) n);
    }
follower-takes base role x y down up shared (Please priority) choice o p c a r n =
    record {
      may = λ w. record { is_up = o.up; in_mode = tt };
      next =
          keeps-nil base role x y down up shared o p
          (follows_please (reliable base) (other role) (leader_of y) y.incoming (follower_of x) x.outgoing.started x.outgoing.transfer priority up down shared.set shared.inter (saved_of (other role) shared) (saved_of role shared) n);
    }
follower-takes base role x y down up shared Release choice o p c a r n = absurd (r refl)
follower-takes base role x y down up shared UserAbort choice o p c a r n = absurd (a refl)
follower-takes base role x y down up shared (Alter items) choice o p c a r n = absurd c
follower-takes base role x y down up shared m choice o p c a r n = absurd n.runs

-- who gave the turn takes what is on its way to it
giver-takes : (base : ModelSetup) (role : Role) (x y : State) (down up : List Message) (shared : Shared) (m : Message) (choice : Choice) → (m ≡ UserAbort → ⊥) → Giving (reliable base) role x y down (m ∷ up) shared → FlowTakes base role x y down up shared m choice
giver-takes base role x y down up shared m choice a k = by_message m a k
  where
    by_message : (m : Message) → (m ≡ UserAbort → ⊥) → Giving (reliable base) role x y down (m ∷ up) shared → FlowTakes base role x y down up shared m choice
    by_message (Please priority) a k =
        record {
          may = λ w. record { is_up = k.giver.up; in_mode = tt };
          next =
              Gives_away (record {
                before = k.before;
                behind = k.behind;
                shape = nil-messages down ∙ k.shape;
                calm = k.calm;
                quiet_behind = k.quiet_behind;
                quiet_up = k.quiet_up.1;
                giver = k.giver;
                taker = k.taker;
                gave = k.gave;
                inactive_giver = k.inactive_giver;
                inactive_taker = k.inactive_taker;
                held = k.held;
                inter = k.inter;
                set = k.set;
                shared_inter = k.shared_inter;
                pairs = k.pairs;
                others = k.others;
                saved = k.saved;
                theirs = k.theirs;
              });
        }
    by_message UserAbort a k = absurd (a refl)
    by_message m a k = absurd k.quiet_up.0

-- the turn is taken: the taker leads
none-altered : (xs : List Message) → AllQuiet xs → alters_in (xs ++ (GiveAnswer ∷ [])) ≡ []
none-altered [] q = refl
none-altered (Alter items ∷ xs) q = absurd q.0
none-altered (m ∷ xs) q = none-altered xs q.1

quiet-then : (setup : ModelSetup) (from : Role) (R : Goal) (xs ys : List Message) (y : Follower) (up : List Message) → AllQuiet xs → Down setup from R ys y up → Down setup from R (xs ++ ys) y up
quiet-then setup from R [] ys y up q h = h
quiet-then setup from R (Please p ∷ xs) ys y up q h = quiet-then setup from R xs ys y up q.1 h
quiet-then setup from R (UserAbort ∷ xs) ys y up q h = quiet-then setup from R xs ys y up q.1 h
quiet-then setup from R (m ∷ xs) ys y up q h = absurd q.0

quiet-none : (xs : List Message) → AllQuiet xs → has_final xs ≡ false
quiet-none [] q = refl
quiet-none (EndAnswer k ∷ xs) q = absurd q.0
quiet-none (InterruptAnswer ∷ xs) q = absurd q.0
quiet-none (DiscardAnswer ∷ xs) q = absurd q.0
quiet-none (m ∷ xs) q = quiet-none xs q.1

pub at-rest_now : (t : Option Transfer) (c : ℕ) (held inter : ContextSet) (up : List Message) (z : Follower) → RestsOrNone t → AllQuiet up → held ≡ z.held → z.incoming.active ≡ false → PairedIn t c z.incoming → RestBy NoAnswer t (record { awaits = NoAnswer; sets = record { held = held; inter = inter; own = [] }; started = c; transfer = t }) up z
at-rest_now None c held inter up z r q e a p = (quiet-ups Resting 0 0 held inter up z.held q e tt, a, p)
at-rest_now (Some t) c held inter up z r q e a p =
    subst (λ s. RestIn s t (record { awaits = NoAnswer; sets = record { held = held; inter = inter; own = [] }; started = c; transfer = Some t }) up z) (sym r) (quiet-ups Resting 0 0 held inter up z.held q e tt, a, p)

pub rests-value : (t : Option Transfer) (sets : Sets) → RestsOrNone t → RunsValue NoAnswer t sets
rests-value None sets r = tt
rests-value (Some t) sets r = subst (λ s. ValueIn s t.value sets) (sym r) tt

-- x takes the turn from y; what x sent is quiet, and so is what comes behind the giving
turns : (base : ModelSetup) (role : Role) (x y : State) (down behind : List Message) (shared : Shared) → FollowOk x → FollowOk y → x.incoming.active ≡ false → y.incoming.active ≡ false → y.gave ≡ true → y.sets.held ≡ x.sets.held → y.sets.inter ≡ x.sets.inter → shared.set ≡ y.sets.held → shared.inter ≡ y.sets.inter → PairedIn y.outgoing.transfer y.outgoing.started x.incoming → PairedIn x.outgoing.transfer x.outgoing.started y.incoming → SavedIn (reliable base) x.outgoing.transfer (saved_of role shared) → SavedIn (reliable base) y.outgoing.transfer (saved_of (other role) shared) → AllQuiet down → AllQuiet behind → Flow (reliable base) role (record { awaits = NoAnswer; sets = record { held = x.sets.held; inter = x.sets.inter; own = [] }; started = x.outgoing.started; transfer = x.outgoing.transfer }) x.incoming (follower_of y) y.outgoing.started y.outgoing.transfer (down ++ (GiveAnswer ∷ [])) behind shared.set shared.inter (saved_of role shared) (saved_of (other role) shared)
turns base role x y down behind shared o p ax ay gave held inter set mid pairs others saved theirs qd qb =
    let flat = flat-append down (GiveAnswer ∷ []) (quiet-flat down qd) (tt, tt) in
    record {
      runs =
          quiet-then (reliable base) role (Rest l) down (GiveAnswer ∷ []) (follower_of y) behind qd
          (gave, (at-rest_now x.outgoing.transfer x.outgoing.started x.sets.held x.sets.inter behind (record (follower_of y) { gave = false }) o.rests qb (sym held) ay others, inter, refl));
      asks = λ e. none-altered down qd ∙ sym (unanswered-none behind);
      begins = flat-begins x.outgoing.started _ (down ++ (GiveAnswer ∷ [])) flat;
      waits = flat-waits NoAnswer _ (down ++ (GiveAnswer ∷ [])) flat;
      after = λ e. absurd (true≢false (sym e ∙ quiet-none behind qb));
      idle = λ e. flat;
      pairs = others;
      acks = λ e. quiet-acks x.outgoing.started _ y.incoming behind qb;
      others = pairs;
      rests = ax;
      saved = saved;
      theirs_saved = theirs;
      value = rests-value x.outgoing.transfer (record { held = x.sets.held; inter = x.sets.inter; own = [] }) o.rests;
      inters = mid ∙ inter;
      sets = set ∙ held ∙ sym (after-part x.sets.held x.sets.inter behind [] (quiet-none behind qb) (unanswered-none behind));
    }
  where
    l : Leader
    l = record { awaits = NoAnswer; sets = record { held = x.sets.held; inter = x.sets.inter; own = [] }; started = x.outgoing.started; transfer = x.outgoing.transfer }

to-own : (base : ModelSetup) (role : Role) (x y : State) (down up : List Message) (shared : Shared) → x.awaits ≡ NoAnswer → x.sets.own ≡ [] → Flow (reliable base) role (record { awaits = NoAnswer; sets = record { held = x.sets.held; inter = x.sets.inter; own = [] }; started = x.outgoing.started; transfer = x.outgoing.transfer }) x.incoming (follower_of y) y.outgoing.started y.outgoing.transfer down up shared.set shared.inter (saved_of role shared) (saved_of (other role) shared) → FlowOf (reliable base) role x y down up shared
to-own base role x y down up shared e f n =
    subst₂ (λ w q. Flow (reliable base) role (record { awaits = w; sets = record { held = x.sets.held; inter = x.sets.inter; own = q }; started = x.outgoing.started; transfer = x.outgoing.transfer }) x.incoming (follower_of y) y.outgoing.started y.outgoing.transfer down up shared.set shared.inter (saved_of role shared) (saved_of (other role) shared)) (sym e) (sym f) n

-- who is given the turn takes what is on its way to it
taker-takes : (base : ModelSetup) (role : Role) (x y : State) (down up : List Message) (shared : Shared) (m : Message) (choice : Choice) → (m ≡ UserAbort → ⊥) → (m ≡ Release → ⊥) → (k : Giving (reliable base) (other role) y x (m ∷ up) down shared) → other (other role) ≡ role → FlowTakes base role x y down up shared m choice
taker-takes base role x y down up shared m choice a r k same = by_before k.before k.shape k.calm
  where
    again : (z : State) (before : List Message) → up ≡ before ++ (Give ∷ k.behind) → Calm (other role) z.gave before → FollowOk z → z.incoming ≡ x.incoming → z.sets ≡ x.sets → z.outgoing ≡ x.outgoing → Flowing (reliable base) role z y (down ++ []) up shared
    again z before e c o i s t =
        Is_given (record {
          before = before;
          behind = k.behind;
          shape = e;
          calm = c;
          quiet_behind = k.quiet_behind;
          quiet_up = subst AllQuiet (sym (nil-messages down)) k.quiet_up;
          giver = k.giver;
          taker = o;
          gave = k.gave;
          inactive_giver = k.inactive_giver;
          inactive_taker = ap (λ (q : Incoming). q.active) i ∙ k.inactive_taker;
          held = k.held ∙ ap (λ (q : Sets). q.held) (sym s);
          inter = k.inter ∙ ap (λ (q : Sets). q.inter) (sym s);
          set = k.set;
          shared_inter = k.shared_inter;
          pairs = subst (λ q. PairedIn y.outgoing.transfer y.outgoing.started q) (sym i) k.pairs;
          others = subst (λ q. PairedIn q.transfer q.started y.incoming) (sym t) k.others;
          saved = k.saved;
          theirs = subst (λ (q : Outgoing). SavedIn (reliable base) q.transfer (saved_of (other (other role)) shared)) (sym t) k.theirs;
        })

    takes_turn : m ∷ up ≡ Give ∷ k.behind → x.gave ≡ false → FlowTakes base role x y down up shared Give choice
    takes_turn e g =
        let rest : up ≡ k.behind = cc in
        record {
          may = λ w. record { is_up = k.taker.up; in_mode = record { lacks_turn = k.taker.turn; rests = k.inactive_taker } };
          next =
              Leads (record { up = k.taker.up; turn = refl; gave = refl }) k.giver
              (to-own base role (record x { turn = true }) y (down ++ (GiveAnswer ∷ [])) up shared k.taker.calm k.taker.own
              (turns base role x y down up shared k.taker k.giver k.inactive_taker k.inactive_giver k.gave k.held k.inter k.set k.shared_inter k.pairs k.others
              (subst (λ q. SavedIn (reliable base) x.outgoing.transfer (saved_of q shared)) same k.theirs) k.saved k.quiet_up (subst AllQuiet (sym rest) k.quiet_behind)));
        }

    by_first : (b : Message) (before : List Message) → m ≡ b → up ≡ before ++ (Give ∷ k.behind) → Calm (other role) x.gave (b ∷ before) → FlowTakes base role x y down up shared m choice
    by_first GiveAnswer before e f c =
        subst (λ q. FlowTakes base role x y down up shared q choice) (sym e)
        (record {
          may = λ w. record { by_transfers = refl; is_up = k.taker.up; asked = c.0 };
          next = again (record x { gave = false }) before f c.1 (follow-again x (record x { gave = false }) refl refl refl refl refl k.taker) refl refl refl;
        })
    by_first (Please priority) before e f c =
        subst (λ q. FlowTakes base role x y down up shared q choice) (sym e)
        (record { may = λ w. record { is_up = k.taker.up; in_mode = tt }; next = again x before f c k.taker refl refl refl })
    by_first Release before e f c = absurd (r e)
    by_first UserAbort before e f c = absurd (a e)
    by_first b before e f c = absurd c

    by_before : (before : List Message) → m ∷ up ≡ before ++ (Give ∷ k.behind) → Calm (other role) x.gave before → FlowTakes base role x y down up shared m choice
    by_before [] e c =
        let first : m ≡ Give = cc in
        subst (λ q. FlowTakes base role x y down up shared q choice) (sym first) (takes_turn e c)
    by_before (b ∷ before) e c =
        let first : m ≡ b = cc in
        let rest : up ≡ before ++ (Give ∷ k.behind) = cc in
        by_first b before first rest c

twice : (role : Role) → other (other role) ≡ role
twice Initiator = refl
twice Responder = refl

flow-takes : (base : ModelSetup) (role : Role) (x y : State) (down up : List Message) (shared : Shared) (m : Message) (choice : Choice) → is_purged role x.awaits m ≡ false → IsChoice (reliable base) x m choice → (m ≡ UserAbort → ⊥) → (m ≡ Release → ⊥) → Flowing (reliable base) role x y down (m ∷ up) shared → FlowTakes base role x y down up shared m choice
flow-takes base role x y down up shared m choice kept c a r (Leads o p n) = leader-takes base role x y down up shared m choice o p kept a n
flow-takes base role x y down up shared m choice kept c a r (Follows o p n) = follower-takes base role x y down up shared m choice o p c a r n
flow-takes base role x y down up shared m choice kept c a r (Gives_away k) = giver-takes base role x y down up shared m choice a k
flow-takes base role x y down up shared m choice kept c a r (Is_given k) = taker-takes base role x y down up shared m choice a r k (twice role)

-- a release on its way to an end: its sender is the initiator, and no activity is in progress
release-comes : (setup : ModelSetup) (role : Role) (x y : State) (down up : List Message) (shared : Shared) → Flowing setup role x y down (Release ∷ up) shared → (other role ≡ Initiator) × (x.turn ≡ false) × (x.incoming.active ≡ false)
release-comes setup role x y down up shared (Leads o p n) = absurd (no-release (leader_of x) (at-rest setup role (Rest (leader_of x)) down (follower_of y) (Release ∷ up) n.runs))
  where
    by_progress : (p : Progress) (t : Transfer) (l : Leader) (us : List Message) (z : Follower) → RestIn p t l (Release ∷ us) z → ⊥
    by_progress Suspended t l us z h = h.0
    by_progress Running t l us z h = h.0
    by_progress Ending t l us z h = h.0

    by_await : (w : Awaited) (t : Option Transfer) (l : Leader) (us : List Message) (z : Follower) → RestBy w t l (Release ∷ us) z → ⊥
    by_await NoAnswer None l us z h = h.0
    by_await NoAnswer (Some t) l us z h = by_progress t.progress t l us z h
    by_await InterruptOf (Some t) l us z h = h.0
    by_await DiscardOf (Some t) l us z h = h.0
    by_await InterruptOf None l us z h = h
    by_await DiscardOf None l us z h = h
    by_await (RestartOf n) t l us z h = h
    by_await ReleaseOf t l us z h = h

    no-release : (l : Leader) → AtRest (Rest l) (Release ∷ up) → ⊥
    no-release l a = by_await l.awaits l.transfer l (up ++ a.more) a.last a.rests.0
release-comes setup role x y down up shared (Follows o p n) = (n.runs.0, o.turn, n.runs.1)
release-comes setup role x y down up shared (Gives_away k) = absurd k.quiet_up.0
release-comes setup role x y down up shared (Is_given k) = by_before k.before k.shape k.calm
  where
    by_before : (before : List Message) → Release ∷ up ≡ before ++ (Give ∷ k.behind) → Calm (other role) x.gave before → (other role ≡ Initiator) × (x.turn ≡ false) × (x.incoming.active ≡ false)
    by_before [] e c = absurd (cc)
    by_before (Release ∷ before) e c = (c.0, k.taker.turn, k.inactive_taker)
    by_before (b ∷ before) e c = absurd (cc)

-- what a taking gives
pub record Takes (base : ModelSetup) (role : Role) (x y : State) (f g : List Sending) (shared : Shared) (s : Sending) (m : Message) (choice : Choice) : Type 0 where
  pub may : WasSent (reliable base) m → MayTake (reliable base) role x m
  pub pair : pair_under x.sets.held m ≡ pair_under s.shared m
  pub next : Standing (reliable base) role (taken (reliable base) role x m choice) y f (g ++ sendings shared.set (answer_to (reliable base) x m choice)) (shared_answered m choice shared)

-- no data comes in reliable mode
no-pair : (base : ModelSetup) (role : Role) (x : State) (m : Message) (at : ContextSet) → (WasSent (reliable base) m → MayTake (reliable base) role x m) → pair_under x.sets.held m ≡ pair_under at m
no-pair base role x (Data value) at h = absurd ((h tt).at_once refl)
no-pair base role x m at h = refl

-- answers are live
answer-live : (setup : ModelSetup) (x : State) (m : Message) (choice : Choice) (s : ContextSet) → (m ≡ Release → ⊥) → AllAre IsLive (sendings s (answer_to setup x m choice))
answer-live setup x Connect (Accepting set) s n = (tt, tt)
answer-live setup x Connect Refusing s n = (tt, tt)
answer-live setup x Connect Nothing s n = tt
answer-live setup x Connect (Results results) s n = tt
answer-live setup x Recover (Accepting set) s n = (tt, tt)
answer-live setup x Recover Refusing s n = (tt, tt)
answer-live setup x Recover Nothing s n = tt
answer-live setup x Recover (Results results) s n = tt
answer-live setup x (Alter items) (Results results) s n = (tt, tt)
answer-live setup x (Alter items) (Accepting set) s n = tt
answer-live setup x (Alter items) Refusing s n = tt
answer-live setup x (Alter items) Nothing s n = tt
answer-live setup x (Mark number) choice s n = go setup.mode
  where
    go : (m : Mode) → AllAre IsLive (sendings s (mark_answer m number))
    go Bare = tt
    go Direct = tt
    go Reliable = (tt, tt)
answer-live setup x (Restart number list) choice s n = (tt, tt)
answer-live setup x (End number) choice s n = (tt, tt)
answer-live setup x Interrupt choice s n = (tt, tt)
answer-live setup x Discard choice s n = (tt, tt)
answer-live setup x Give choice s n = go setup.mode
  where
    go : (m : Mode) → AllAre IsLive (sendings s (give_answer m))
    go Bare = tt
    go Direct = tt
    go Reliable = (tt, tt)
answer-live setup x Release choice s n = absurd (n refl)
answer-live setup x m choice s n = tt

live-no_release : (flight : List Sending) → AllAre IsLive flight → AllAre IsNoRelease flight
live-no_release [] h = tt
live-no_release (s ∷ flight) h = (go s.message h.0, live-no_release flight h.1)
  where
    go : (m : Message) → IsLive m → IsNoRelease m
    go Release k = k
    go m k = tt

-- an abort ends the taker
takes-abort : (base : ModelSetup) (role : Role) (x y : State) (s : Sending) (f g : List Sending) (shared : Shared) (choice : Choice) → Standing (reliable base) role x y (s ∷ f) g shared → Takes base role x y f g shared s UserAbort choice
takes-abort base role x y s f g shared choice j =
    record {
      may = λ w. tt;
      pair = refl;
      next =
          record {
            me = j.me;
            peer = j.peer;
            down = j.down;
            up = j.up;
            sees_me = Gone refl (seen-outgoing role x (s ∷ f) g j.me j.up j.sees_me);
            sees_peer = subst (λ xs. Sees (other role) y xs f j.peer j.down) (sym (nil-append g)) (fewer (other role) y g s f j.peer j.down j.sees_peer);
            flow = j.flow;
          };
    }

left : (role : Role) (y : State) (g : List Sending) (s : Sending) (f : List Sending) (seen : State) (coming : List Message) (new : List Sending) → Sees role y g (s ∷ f) seen coming → (IsLive s.message → ⊥) → AllAre IsNoRelease new → Sees role y (g ++ new) f seen coming
left role y g s f seen coming new (Same e c l) n q = absurd (n l.0)
left role y g s f seen coming new (Joins set answer rest r p a e i m c l) n q = absurd (n l.0)
left role y g s f seen coming new (Leaves r p a l o z) n q = Leaves r p a (all-append IsNoRelease g new l q) o z
left role y g s f seen coming new (Gone p o) n q = Gone p o

takes-release : (base : ModelSetup) (role : Role) (x y : State) (s : Sending) (f g : List Sending) (shared : Shared) (choice : Choice) → s.message ≡ Release → x.phase ≡ Up → (other role ≡ Initiator) × (x.turn ≡ false) × (x.incoming.active ≡ false) → Standing (reliable base) role x y (s ∷ f) g shared → Takes base role x y f g shared s Release choice
takes-release base role x y s f g shared choice e up r j =
    record {
      may = λ w. record { responds = no-other role r.0; is_up = up; rests = λ q. (r.1, r.2) };
      pair = refl;
      next =
          record {
            me = j.me;
            peer = j.peer;
            down = j.down;
            up = j.up;
            sees_me = Gone refl (seen-outgoing role x (s ∷ f) g j.me j.up j.sees_me);
            sees_peer = left (other role) y g s f j.peer j.down (record { message = ReleaseAnswer; shared = shared.set } ∷ []) j.sees_peer (subst (λ m. IsLive m → ⊥) (sym e) (λ b. b)) (tt, tt);
            flow = j.flow;
          };
    }

data Kind (m : Message) : Type 0 where
  IsAnAbort : m ≡ UserAbort → Kind m
  IsARelease : m ≡ Release → Kind m
  IsAnother : (m ≡ UserAbort → ⊥) → (m ≡ Release → ⊥) → Kind m

kind : (m : Message) → Kind m
kind UserAbort = IsAnAbort refl
kind Release = IsARelease refl
kind m = IsAnother (λ e. cc) (λ e. cc)

-- an end that is as it is seen takes what comes
takes-same : (base : ModelSetup) (role : Role) (x y : State) (s : Sending) (f g : List Sending) (shared : Shared) (m : Message) (choice : Choice) (j : Standing (reliable base) role x y (s ∷ f) g shared) → s.message ≡ m → is_purged role x.awaits m ≡ false → IsChoice (reliable base) x m choice → j.me ≡ x → j.up ≡ messages (s ∷ f) → AllAre IsLive g → Takes base role x y f g shared s m choice
takes-same base role x y s f g shared m choice j e kept c same comes live = by_kind (kind m)
  where
    flow : Flowing (reliable base) role x j.peer j.down (m ∷ messages f) shared
    flow = subst₂ (λ z us. Flowing (reliable base) role z j.peer j.down us shared) same (comes ∙ ap (λ q. q ∷ messages f) e) j.flow

    by_kind : Kind m → Takes base role x y f g shared s m choice
    by_kind (IsAnAbort i) = subst (λ q. Takes base role x y f g shared s q choice) (sym i) (takes-abort base role x y s f g shared choice j)
    by_kind (IsARelease i) =
        subst (λ q. Takes base role x y f g shared s q choice) (sym i)
        (takes-release base role x y s f g shared choice (e ∙ i) (up-me (reliable base) role x j.peer j.down (m ∷ messages f) shared flow).0
        (release-comes (reliable base) role x j.peer j.down (messages f) shared (subst (λ q. Flowing (reliable base) role x j.peer j.down (q ∷ messages f) shared) i flow)) j)
    by_kind (IsAnother a r) =
        let t = flow-takes base role x j.peer j.down (messages f) shared m choice kept c a r flow in
        let answers = answer-live (reliable base) x m choice shared.set r in
        record {
          may = t.may;
          pair = no-pair base role x m s.shared t.may;
          next =
              record {
                me = taken (reliable base) role x m choice;
                peer = j.peer;
                down = j.down ++ answer_to (reliable base) x m choice;
                up = messages f;
                sees_me = Same refl refl (all-append IsLive g (sendings shared.set (answer_to (reliable base) x m choice)) live answers);
                sees_peer = more (other role) y g f j.peer j.down shared.set (answer_to (reliable base) x m choice) (λ q. live-no_release (sendings shared.set (answer_to (reliable base) x m choice)) answers) (fewer (other role) y g s f j.peer j.down j.sees_peer);
                flow = t.next;
              };
        }

-- whatever comes next and isn't passed over
pub stands-takes : (base : ModelSetup) (role : Role) (x y : State) (s : Sending) (f g : List Sending) (shared : Shared) (m : Message) (choice : Choice) → s.message ≡ m → (x.phase ≡ Over → ⊥) → is_purged role x.awaits m ≡ false → IsChoice (reliable base) x m choice → Standing (reliable base) role x y (s ∷ f) g shared → Takes base role x y f g shared s m choice
stands-takes base role x y s f g shared m choice e alive kept c j = by_view j.sees_me
  where
    by_view : Sees role x (s ∷ f) g j.me j.up → Takes base role x y f g shared s m choice
    by_view (Same same comes live) = takes-same base role x y s f g shared m choice j e kept c same comes live
    by_view (Joins set answer rest r p a seen i n comes live) =
        let first : s ≡ answer = cc in
        let others : f ≡ rest = cc in
        let is : m ≡ Accept set = sym e ∙ ap (λ (u : Sending). u.message) first ∙ n in
        subst (λ q. Takes base role x y f g shared s q choice) (sym is)
        (record {
          may = λ w. record { initiates = r; asked = p; is_set = w.0; is_known = w.1 };
          pair = refl;
          next =
              record {
                me = j.me;
                peer = j.peer;
                down = j.down;
                up = j.up;
                sees_me = Same seen (comes ∙ ap messages (sym others)) (subst (AllAre IsLive) (sym (nil-append g)) live);
                sees_peer = subst (λ xs. Sees (other role) y xs f j.peer j.down) (sym (nil-append g)) (fewer (other role) y g s f j.peer j.down j.sees_peer);
                flow = j.flow;
              };
        })
    by_view (Leaves r p a l o q) = by_message m e (subst (λ w. is_purged role w m ≡ false) a kept)
      where
        by_message : (q : Message) → s.message ≡ q → is_purged role ReleaseOf q ≡ false → Takes base role x y f g shared s q choice
        by_message ReleaseAnswer i k =
            record {
              may = λ w. record { is_releasing = p; asked = a };
              pair = refl;
              next =
                  record {
                    me = j.me;
                    peer = j.peer;
                    down = j.down;
                    up = j.up;
                    sees_me = Gone refl (seen-outgoing role x (s ∷ f) g j.me j.up j.sees_me);
                    sees_peer = subst (λ xs. Sees (other role) y xs f j.peer j.down) (sym (nil-append g)) (fewer (other role) y g s f j.peer j.down j.sees_peer);
                    flow = j.flow;
                  };
            }
        by_message UserAbort i k = takes-abort base role x y s f g shared choice j
        by_message Release i k = absurd (subst IsNoRelease i l.0)
        by_message q i k = absurd (true≢false k)
    by_view (Gone p o) = absurd (alive p)

-- what is passed over
flow-passes : (base : ModelSetup) (role : Role) (x y : State) (down up : List Message) (shared : Shared) (m : Message) → is_purged role x.awaits m ≡ true → Flowing (reliable base) role x y down (m ∷ up) shared → Flowing (reliable base) role x y down up shared
flow-passes base role x y down up shared m k (Leads o p n) = Leads o p (by_await x.awaits k n)
  where
    FlowAt : Awaited → List Message → Type 0
    FlowAt w us = Flow (reliable base) role (record { awaits = w; sets = x.sets; started = x.outgoing.started; transfer = x.outgoing.transfer }) x.incoming (follower_of y) y.outgoing.started y.outgoing.transfer down us shared.set shared.inter (saved_of role shared) (saved_of (other role) shared)

    by_await : (w : Awaited) → is_purged role w m ≡ true → FlowAt w (m ∷ up) → FlowAt w up
    by_await NoAnswer k n = absurd (true≢false (sym k))
    by_await InterruptOf k n = passes_interrupting (reliable base) role x.sets x.outgoing.started x.outgoing.transfer m x.incoming (follower_of y) y.outgoing.started y.outgoing.transfer down up shared.set shared.inter (saved_of role shared) (saved_of (other role) shared) k n
    by_await DiscardOf k n = passes_discarding (reliable base) role x.sets x.outgoing.started x.outgoing.transfer m x.incoming (follower_of y) y.outgoing.started y.outgoing.transfer down up shared.set shared.inter (saved_of role shared) (saved_of (other role) shared) k n
    by_await (RestartOf j) k n = absurd (at-rest (reliable base) role (Rest (record { awaits = RestartOf j; sets = x.sets; started = x.outgoing.started; transfer = x.outgoing.transfer })) down (follower_of y) (m ∷ up) n.runs).rests.0
    by_await ReleaseOf k n = absurd (at-rest (reliable base) role (Rest (record { awaits = ReleaseOf; sets = x.sets; started = x.outgoing.started; transfer = x.outgoing.transfer })) down (follower_of y) (m ∷ up) n.runs).rests.0
flow-passes base role x y down up shared m k (Follows o p n) = absurd (true≢false (sym (subst (λ w. is_purged role w m ≡ true) o.calm k)))
flow-passes base role x y down up shared m k (Gives_away q) = absurd (true≢false (sym (subst (λ w. is_purged role w m ≡ true) q.giver.calm k)))
flow-passes base role x y down up shared m k (Is_given q) = absurd (true≢false (sym (subst (λ w. is_purged role w m ≡ true) q.taker.calm k)))

pub stands-passes : (base : ModelSetup) (role : Role) (x y : State) (s : Sending) (f g : List Sending) (shared : Shared) (m : Message) → s.message ≡ m → (x.phase ≡ Over) ⊎ (is_purged role x.awaits m ≡ true) → Standing (reliable base) role x y (s ∷ f) g shared → Standing (reliable base) role x y f g shared
stands-passes base role x y s f g shared m e h j = by_view j.sees_me h
  where
    peer : Sees (other role) y g f j.peer j.down
    peer = fewer (other role) y g s f j.peer j.down j.sees_peer

    by_view : Sees role x (s ∷ f) g j.me j.up → (x.phase ≡ Over) ⊎ (is_purged role x.awaits m ≡ true) → Standing (reliable base) role x y f g shared
    by_view (Same same comes live) (inl o) =
        let u : x.phase ≡ Up = ap (λ (z : State). z.phase) (sym same) ∙ (up-me (reliable base) role j.me j.peer j.down j.up shared j.flow).0 in absurd (cc)
    by_view (Same same comes live) (inr k) =
        record {
          me = x;
          peer = j.peer;
          down = j.down;
          up = messages f;
          sees_me = Same refl refl live;
          sees_peer = peer;
          flow = flow-passes base role x j.peer j.down (messages f) shared m k (subst₂ (λ z us. Flowing (reliable base) role z j.peer j.down us shared) same (comes ∙ ap (λ q. q ∷ messages f) e) j.flow);
        }
    by_view (Joins set answer rest r p a seen i n comes live) (inl o) = absurd (subst IsBack o p)
    by_view (Joins set answer rest r p a seen i n comes live) (inr k) = absurd (true≢false (sym (subst (λ w. is_purged role w m ≡ true) a k)))
    by_view (Leaves r p a l o q) k = record { me = j.me; peer = j.peer; down = j.down; up = j.up; sees_me = Leaves r p a l.1 o q; sees_peer = peer; flow = j.flow }
    by_view (Gone p o) k = record { me = j.me; peer = j.peer; down = j.down; up = j.up; sees_me = Gone p o; sees_peer = peer; flow = j.flow }

-- seen from the other end
pub stands-swap : (setup : ModelSetup) (role : Role) (x y : State) (f g : List Sending) (shared : Shared) → Standing setup role x y f g shared → Standing setup (other role) y x g f shared
stands-swap setup Initiator x y f g shared j = record { me = j.peer; peer = j.me; down = j.up; up = j.down; sees_me = j.sees_peer; sees_peer = j.sees_me; flow = flip j.flow }
  where
    flip : {a b : State} {d u : List Message} → Flowing setup Initiator a b d u shared → Flowing setup Responder b a u d shared
    flip (Leads o p n) = Follows p o n
    flip (Follows o p n) = Leads p o n
    flip (Gives_away k) = Is_given k
    flip (Is_given k) = Gives_away k
stands-swap setup Responder x y f g shared j = record { me = j.peer; peer = j.me; down = j.up; up = j.down; sees_me = j.sees_peer; sees_peer = j.sees_me; flow = flip j.flow }
  where
    flip : {a b : State} {d u : List Message} → Flowing setup Responder a b d u shared → Flowing setup Initiator b a u d shared
    flip (Leads o p n) = Follows p o n
    flip (Follows o p n) = Leads p o n
    flip (Gives_away k) = Is_given k
    flip (Is_given k) = Gives_away k
