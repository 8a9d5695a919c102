-- Reliable mode: what the end that leads takes and passes over.
use Rattle.std.proofs.Common.{◌≡◌, ℕ, suc, ◌≤◌, Bool, true, false, List, [], ◌∷◌, ◌++◌, refl, sym, ap, ◌∙◌, true≢false, subst, inl, inr, ◌⊎◌}
use Rattle.std.specs.Prelude.{Option, Some, None}
use Rattle.agreement.specs.Sets.{Role, ContextSet, Item, Result, AnswersEach, altered, lookup, Saved}
use Rattle.agreement.specs.Messages.{Value, ModelSetup, Message}
use Rattle.agreement.specs.Messages.Message.{Alter, AlterAnswer, Mark, MarkAnswer, Start, Resume, Chunk, End, EndAnswer, Interrupt, InterruptAnswer, Discard, DiscardAnswer, GiveAnswer, Please, Release, UserAbort}
use Rattle.agreement.specs.State.{Awaited, Progress, Transfer, Incoming, Sets, up_to, highest}
use Rattle.agreement.specs.State.Awaited.{NoAnswer, RestartOf, InterruptOf, DiscardOf, ReleaseOf}
use Rattle.agreement.specs.State.Piece.{Octets, Marked}
use Rattle.agreement.specs.State.Progress.{Running, Ending, Suspended}
use Rattle.agreement.specs.Takings.{OnFirst, altered_first, later, is_purged}
use Rattle.agreement.proofs.Flights.{rejections, rejections-fit}
use Rattle.agreement.proofs.Names.{AllUntouched, later-untouched, lookup-altered}
use Rattle.agreement.proofs.Down.{Follower, Goal, AllQuiet, Down, at-rest, down-taken, down-quiet, quiet-down}
use Rattle.agreement.proofs.Flow.{Leader, Ups, Purges, PairedIn, Rest, RestOf, RestBy, RestIn, Begins, has_final, alters_in, SharedBy, ValueIn, RunsValue, Flow, ups-quiet, after-part, unanswered-none, quiet-acks, flat-begins, flat-waits, quiet-flat, calm-waits}
use Rattle.agreement.proofs.Flow.Doing.{Resting, Going, Closing}
use Rattle.agreement.proofs.Leads.{quiet-part}

lookup-first : (k : ℕ) (own : List (List Item)) (results : List Result) (held : ContextSet) → AllUntouched k own → lookup (altered_first own results held) k ≡ lookup held k
lookup-first k [] results held u = refl
lookup-first k (x ∷ own) results held u = lookup-altered x results k held u.0

-- the leader that awaits nothing
abbrev pub calm : Sets → ℕ → Option Transfer → Leader
calm sets c t = record { awaits = NoAnswer; sets = sets; started = c; transfer = t }

abbrev pub answered : Sets → List Result → Sets
answered sets results = record sets { held = altered_first sets.own results sets.held; own = later sets.own }

-- its alteration's answer
answer-rest : (sets : Sets) (c : ℕ) (t : Option Transfer) (results : List Result) (us : List Message) (z : Follower) → RestOf (calm sets c t) (AlterAnswer results ∷ us) z → OnFirst (λ items. AnswersEach items results) sets.own × RestOf (calm (answered sets results) c t) us z
answer-rest sets c None results us z r = (r.0.0.0, ((r.0.0.1, r.0.1, r.0.2), r.1, r.2))
answer-rest sets c (Some t) results us z r = go t.progress r.0
  where
    go : (p : Progress) → RestIn p t (calm sets c (Some t)) (AlterAnswer results ∷ us) z → OnFirst (λ items. AnswersEach items results) sets.own × (RestIn p t (calm (answered sets results) c (Some t)) us z × (z.inter ≡ sets.inter) × (z.gave ≡ false))
    go Suspended h = (h.0.0, ((h.0.1, h.1, h.2), r.1, r.2))
    go Running h = (h.0.0, ((h.0.1, h.1, h.2, h.3), r.1, r.2))
    go Ending h = (h.0.0, ((h.0.1, h.1, h.2, h.3), r.1, r.2))

value-answered : (t : Option Transfer) (sets : Sets) (results : List Result) → RunsValue NoAnswer t sets → RunsValue NoAnswer t (answered sets results)
value-answered None sets results v = tt
value-answered (Some t) sets results v = go t.progress t.value v
  where
    go : (p : Progress) (value : Option Value) → ValueIn p value sets → ValueIn p value (answered sets results)
    go Running None v = tt
    go Running (Some w) v = (lookup-first w.identifier sets.own results sets.held v.1 ∙ v.0, later-untouched w.identifier sets.own v.1)
    go Ending value v = tt
    go Suspended value v = tt

pub takes_answer : (setup : ModelSetup) (from : Role) (sets : Sets) (c : ℕ) (t : Option Transfer) (results : List Result) (lin : Incoming) (y : Follower) (yc : ℕ) (yt : Option Transfer) (down up : List Message) (set mid : ContextSet) (mine theirs : List Saved) → Flow setup from (calm sets c t) lin y yc yt down (AlterAnswer results ∷ up) set mid mine theirs → OnFirst (λ items. AnswersEach items results) sets.own × Flow setup from (calm (answered sets results) c t) lin y yc yt down up set mid mine theirs
takes_answer setup from sets c t results lin y yc yt down up set mid mine theirs n =
    let a = at-rest setup from (Rest (calm sets c t)) down y (AlterAnswer results ∷ up) n.runs in (
      (answer-rest sets c t results (up ++ a.more) a.last a.rests).0,
      record {
        runs = down-taken setup from (Rest (calm sets c t)) (Rest (calm (answered sets results) c t)) (AlterAnswer results) down y up (λ held i q. q) (λ us z r. (answer-rest sets c t results us z r).1) n.runs;
        asks = n.asks;
        begins = n.begins;
        waits = n.waits;
        after = n.after;
        idle = n.idle;
        pairs = n.pairs;
        acks = n.acks;
        others = n.others;
        rests = n.rests;
        saved = n.saved;
        theirs_saved = n.theirs_saved;
        value = value-answered t sets results n.value;
        inters = n.inters;
        sets = n.sets;
      },
    )

-- while something is on its way up, no activity begins on its way down
no-begins : (setup : ModelSetup) (from : Role) (R : Goal) (c k : ℕ) (down : List Message) (y : Follower) (up : List Message) → (AllQuiet up → ⊥) → Down setup from R down y up → Begins c k down
no-begins setup from R c k [] y up q h = tt
no-begins setup from R c k (Alter items ∷ d) y up q h = no-begins setup from R c k d (record y { held = altered items (rejections items) y.held }) (up ++ (AlterAnswer (rejections items) ∷ [])) (λ p. q (quiet-part up (AlterAnswer (rejections items) ∷ []) p)) (h.2 (rejections items) (rejections-fit items))
no-begins setup from R c k (Mark n ∷ d) y up q h = no-begins setup from R c k d (record y { incoming = record y.incoming { pieces = Marked n y.held ∷ y.incoming.pieces } }) (up ++ (MarkAnswer n ∷ [])) (λ p. q (quiet-part up (MarkAnswer n ∷ []) p)) h.2
no-begins setup from R c k (Start j ∷ d) y up q h = absurd (q h.2)
no-begins setup from R c k (Resume j n ∷ d) y up q h = absurd (q h.2)
no-begins setup from R c k (Chunk o ∷ d) y up q h = no-begins setup from R c k d (record y { incoming = record y.incoming { pieces = Octets o ∷ y.incoming.pieces } }) up q h.1
no-begins setup from R c k (End n ∷ d) y up q h = no-begins setup from R c k d (record y { incoming = record y.incoming { was_handed = true; active = false }; held = y.inter }) (up ++ (EndAnswer n ∷ [])) (λ p. q (quiet-part up (EndAnswer n ∷ []) p)) h.4
no-begins setup from R c k (Interrupt ∷ d) y up q h = no-begins setup from R c k d (record y { incoming = record y.incoming { active = false }; held = y.inter }) (up ++ (InterruptAnswer ∷ [])) (λ p. q (quiet-part up (InterruptAnswer ∷ []) p)) h.2
no-begins setup from R c k (Discard ∷ d) y up q h = no-begins setup from R c k d (record y { incoming = record y.incoming { pieces = []; active = false }; held = y.inter }) (up ++ (DiscardAnswer ∷ [])) (λ p. q (quiet-part up (DiscardAnswer ∷ []) p)) h.2
no-begins setup from R c k (GiveAnswer ∷ d) y up q h = no-begins setup from R c k d (record y { gave = false }) up q h.1
no-begins setup from R c k (Release ∷ d) y up q h = no-begins setup from R c k d y up q h.2
no-begins setup from R c k (Please p ∷ d) y up q h = no-begins setup from R c k d y up q h
no-begins setup from R c k (UserAbort ∷ d) y up q h = no-begins setup from R c k d y up q h
no-begins setup from R c k (m ∷ d) y up q h = absurd h

-- a mark is confirmed
pub record Confirms (t : Transfer) (n : ℕ) : Type 0 where
  pub goes_on : t.progress ≡ Suspended → ⊥
  pub lowest : n ≡ suc t.confirmed
  pub sent : n ≤ highest t.pieces

mark-rest : (sets : Sets) (c : ℕ) (t : Transfer) (n : ℕ) (us : List Message) (z : Follower) → RestOf (calm sets c (Some t)) (MarkAnswer n ∷ us) z → Confirms t n × RestOf (calm sets c (Some (record t { confirmed = n }))) us z
mark-rest sets c t n us z r = go t.progress refl r.0
  where
    go : (p : Progress) → t.progress ≡ p → RestIn p t (calm sets c (Some t)) (MarkAnswer n ∷ us) z → Confirms t n × (RestIn p (record t { confirmed = n }) (calm sets c (Some (record t { confirmed = n }))) us z × (z.inter ≡ sets.inter) × (z.gave ≡ false))
    go Suspended e h = absurd h.0.0
    go Running e h = (
      record { goes_on = λ x. cc; lowest = h.0.1; sent = subst (λ i. i ≤ highest t.pieces) (sym h.0.1) h.0.2 },
      ((subst (λ i. Ups Going i (highest t.pieces) sets.own sets.held sets.inter us z.held) (sym h.0.1) h.0.3, h.1, h.2, h.3), r.1, r.2),
    )
    go Ending e h = (
      record { goes_on = λ x. cc; lowest = h.0.1; sent = subst (λ i. i ≤ highest t.pieces) (sym h.0.1) h.0.2 },
      ((subst (λ i. Ups Closing i (highest t.pieces) sets.own sets.held sets.inter us z.held) (sym h.0.1) h.0.3, h.1, h.2, h.3), r.1, r.2),
    )

mark-rest_by : (sets : Sets) (c : ℕ) (t : Option Transfer) (n : ℕ) (us : List Message) (z : Follower) → RestOf (calm sets c t) (MarkAnswer n ∷ us) z → t ≡ None → ⊥
mark-rest_by sets c None n us z r e = r.0.0.0
mark-rest_by sets c (Some t) n us z r e = cc

pub takes_mark : (setup : ModelSetup) (from : Role) (sets : Sets) (c : ℕ) (t : Transfer) (n : ℕ) (lin : Incoming) (y : Follower) (yc : ℕ) (yt : Option Transfer) (down up : List Message) (set mid : ContextSet) (mine theirs : List Saved) → Flow setup from (calm sets c (Some t)) lin y yc yt down (MarkAnswer n ∷ up) set mid mine theirs → Confirms t n × Flow setup from (calm sets c (Some (record t { confirmed = n }))) lin y yc yt down up set mid mine theirs
takes_mark setup from sets c t m lin y yc yt down up set mid mine theirs n =
    let a = at-rest setup from (Rest (calm sets c (Some t))) down y (MarkAnswer m ∷ up) n.runs in
    let ack = n.acks refl in (
      (mark-rest sets c t m (up ++ a.more) a.last a.rests).0,
      record {
        runs = down-taken setup from (Rest (calm sets c (Some t))) (Rest (calm sets c (Some (record t { confirmed = m })))) (MarkAnswer m) down y up (λ held i q. q) (λ us z r. (mark-rest sets c t m us z r).1) n.runs;
        asks = n.asks;
        begins = no-begins setup from (Rest (calm sets c (Some t))) c m down y (MarkAnswer m ∷ up) (λ q. q.0) n.runs;
        waits = calm-waits NoAnswer t.confirmed m down n.waits;
        after = n.after;
        idle = n.idle;
        pairs = inl (ack.0, ack.1);
        acks = λ e. ack.2;
        others = n.others;
        rests = n.rests;
        saved = (n.saved.0, n.saved.1, ack.1.in_first, n.saved.3);
        theirs_saved = n.theirs_saved;
        value = n.value;
        inters = n.inters;
        sets = n.sets;
      },
    )

-- the end is confirmed
end-rest : (sets : Sets) (c : ℕ) (t : Transfer) (n : ℕ) (us : List Message) (z : Follower) → RestOf (calm sets c (Some t)) (EndAnswer n ∷ us) z → (t.progress ≡ Ending) × (n ≡ suc (highest t.pieces)) × (sets.own ≡ []) × Ups Resting 0 0 [] sets.inter sets.inter us z.held × (z.incoming.active ≡ false) × (z.incoming.last ≡ c) × (z.inter ≡ sets.inter) × (z.gave ≡ false)
end-rest sets c t n us z r = go t.progress refl r.0
  where
    go : (p : Progress) → t.progress ≡ p → RestIn p t (calm sets c (Some t)) (EndAnswer n ∷ us) z → (t.progress ≡ Ending) × (n ≡ suc (highest t.pieces)) × (sets.own ≡ []) × Ups Resting 0 0 [] sets.inter sets.inter us z.held × (z.incoming.active ≡ false) × (z.incoming.last ≡ c) × (z.inter ≡ sets.inter) × (z.gave ≡ false)
    go Suspended e h = absurd h.0.0
    go Running e h = absurd h.0.0
    go Ending e h = (e, h.0.1, h.0.2, h.0.3, h.1, h.2, r.1, r.2)

pub takes_end : (setup : ModelSetup) (from : Role) (sets : Sets) (c : ℕ) (t : Transfer) (n : ℕ) (lin : Incoming) (y : Follower) (yc : ℕ) (yt : Option Transfer) (down up : List Message) (set mid : ContextSet) (mine theirs : List Saved) → Flow setup from (calm sets c (Some t)) lin y yc yt down (EndAnswer n ∷ up) set mid mine theirs → ((t.progress ≡ Ending) × (n ≡ suc (highest t.pieces))) × Flow setup from (calm (record sets { held = sets.inter }) c None) lin y yc yt down up set mid mine theirs
takes_end setup from sets c t m lin y yc yt down up set mid mine theirs n =
    let l : Leader = calm sets c (Some t) in
    let quiet = n.after refl in
    let now = end-rest sets c t m up y (down-quiet setup from (Rest l) down y (EndAnswer m ∷ up) quiet n.runs) in
    let q = (ups-quiet sets.inter sets.inter up y.held now.3).0 in (
      (now.0, now.1),
      record {
        runs =
            quiet-down setup from (Rest (calm (record sets { held = sets.inter }) c None)) down y up quiet
            ((subst (λ own. Ups Resting 0 0 own sets.inter sets.inter up y.held) (sym now.2) now.3, now.4, now.5), now.6, now.7);
        asks = n.asks;
        begins = flat-begins c 0 down (quiet-flat down quiet);
        waits = flat-waits NoAnswer 0 down (quiet-flat down quiet);
        after = λ e. quiet;
        idle = λ e. quiet-flat down quiet;
        pairs = now.5;
        acks = λ e. quiet-acks c [] y.incoming up q;
        others = n.others;
        rests = n.rests;
        saved = tt;
        theirs_saved = n.theirs_saved;
        value = tt;
        inters = n.inters;
        sets = n.sets;
      },
    )

-- an interrupt is answered
pub takes_interrupt_answer : (setup : ModelSetup) (from : Role) (sets : Sets) (c : ℕ) (t : Transfer) (lin : Incoming) (y : Follower) (yc : ℕ) (yt : Option Transfer) (down up : List Message) (set mid : ContextSet) (mine theirs : List Saved) → Flow setup from (record { awaits = InterruptOf; sets = sets; started = c; transfer = Some t }) lin y yc yt down (InterruptAnswer ∷ up) set mid mine theirs → Flow setup from (calm (record { held = sets.inter; inter = sets.inter; own = [] }) c (Some (record t { progress = Suspended }))) lin y yc yt down up set mid mine theirs
takes_interrupt_answer setup from sets c t lin y yc yt down up set mid mine theirs n =
    let l : Leader = record { awaits = InterruptOf; sets = sets; started = c; transfer = Some t } in
    let quiet = n.after refl in
    let now = down-quiet setup from (Rest l) down y (InterruptAnswer ∷ up) quiet n.runs in
    let q = (ups-quiet sets.inter sets.inter up y.held now.0.0.1).0 in
    record {
      runs =
          down-taken setup from (Rest l) (Rest (calm (record { held = sets.inter; inter = sets.inter; own = [] }) c (Some (record t { progress = Suspended })))) InterruptAnswer down y up (λ held i q. q)
          (λ us z r. ((r.0.0.1, r.0.1, inl (r.0.2, record { in_first = n.saved.2; in_second = subst (λ p. t.confirmed ≤ highest p) (sym r.0.3) n.saved.2; same = ap (up_to t.confirmed) (sym r.0.3) })), r.1, r.2)) n.runs;
      asks = λ e. none down quiet ∙ sym (unanswered-none up);
      begins = flat-begins c t.confirmed down (quiet-flat down quiet);
      waits = flat-waits NoAnswer t.confirmed down (quiet-flat down quiet);
      after = λ e. quiet;
      idle = λ e. quiet-flat down quiet;
      pairs = pair n.pairs;
      acks = λ e. quiet-acks c t.pieces y.incoming up q;
      others = n.others;
      rests = n.rests;
      saved = n.saved;
      theirs_saved = n.theirs_saved;
      value = tt;
      inters = n.inters;
      sets = n.sets refl ∙ sym (after-part sets.inter sets.inter up [] (quiet-none up q) (unanswered-none up));
    }
  where
    pair : PairedIn (Some t) c y.incoming → PairedIn (Some (record t { progress = Suspended })) c y.incoming
    pair (inl h) = inl (h.0, h.1)
    pair (inr h) = inr h

    none : (xs : List Message) → AllQuiet xs → alters_in xs ≡ []
    none [] q = refl
    none (Alter items ∷ xs) q = absurd q.0
    none (m ∷ xs) q = none xs q.1

    quiet-none : (xs : List Message) → AllQuiet xs → has_final xs ≡ false
    quiet-none [] q = refl
    quiet-none (EndAnswer k ∷ xs) q = absurd q.0
    quiet-none (InterruptAnswer ∷ xs) q = absurd q.0
    quiet-none (DiscardAnswer ∷ xs) q = absurd q.0
    quiet-none (m ∷ xs) q = quiet-none xs q.1

-- a discard is answered
pub takes_discard_answer : (setup : ModelSetup) (from : Role) (sets : Sets) (c : ℕ) (t : Transfer) (lin : Incoming) (y : Follower) (yc : ℕ) (yt : Option Transfer) (down up : List Message) (set mid : ContextSet) (mine theirs : List Saved) → Flow setup from (record { awaits = DiscardOf; sets = sets; started = c; transfer = Some t }) lin y yc yt down (DiscardAnswer ∷ up) set mid mine theirs → Flow setup from (calm (record { held = sets.inter; inter = sets.inter; own = [] }) c None) lin y yc yt down up set mid mine theirs
takes_discard_answer setup from sets c t lin y yc yt down up set mid mine theirs n =
    let l : Leader = record { awaits = DiscardOf; sets = sets; started = c; transfer = Some t } in
    let quiet = n.after refl in
    let now = down-quiet setup from (Rest l) down y (DiscardAnswer ∷ up) quiet n.runs in
    let q = (ups-quiet sets.inter sets.inter up y.held now.0.0.1).0 in
    record {
      runs =
          quiet-down setup from (Rest (calm (record { held = sets.inter; inter = sets.inter; own = [] }) c None)) down y up quiet
          ((now.0.0.1, now.0.1, now.0.2), now.1, now.2);
      asks = λ e. none down quiet ∙ sym (unanswered-none up);
      begins = flat-begins c 0 down (quiet-flat down quiet);
      waits = flat-waits NoAnswer 0 down (quiet-flat down quiet);
      after = λ e. quiet;
      idle = λ e. quiet-flat down quiet;
      pairs = now.0.2;
      acks = λ e. quiet-acks c [] y.incoming up q;
      others = n.others;
      rests = n.rests;
      saved = tt;
      theirs_saved = n.theirs_saved;
      value = tt;
      inters = n.inters;
      sets = n.sets refl ∙ sym (after-part sets.inter sets.inter up [] (quiet-none up q) (unanswered-none up));
    }
  where
    none : (xs : List Message) → AllQuiet xs → alters_in xs ≡ []
    none [] q = refl
    none (Alter items ∷ xs) q = absurd q.0
    none (m ∷ xs) q = none xs q.1

    quiet-none : (xs : List Message) → AllQuiet xs → has_final xs ≡ false
    quiet-none [] q = refl
    quiet-none (EndAnswer k ∷ xs) q = absurd q.0
    quiet-none (InterruptAnswer ∷ xs) q = absurd q.0
    quiet-none (DiscardAnswer ∷ xs) q = absurd q.0
    quiet-none (m ∷ xs) q = quiet-none xs q.1

-- a plea is taken, or passed over
please-rest : (l : Leader) (p : ℕ) (us : List Message) (z : Follower) → RestOf l (Please p ∷ us) z → RestOf l us z
please-rest l p us z r = (by_await l.awaits l.transfer r.0, r.1, r.2)
  where
    by_progress : (q : Progress) (t : Transfer) → RestIn q t l (Please p ∷ us) z → RestIn q t l us z
    by_progress Suspended t h = h
    by_progress Running t h = h
    by_progress Ending t h = h

    by_await : (w : Awaited) (t : Option Transfer) → RestBy w t l (Please p ∷ us) z → RestBy w t l us z
    by_await NoAnswer None h = h
    by_await NoAnswer (Some t) h = by_progress t.progress t h
    by_await InterruptOf (Some t) h = h
    by_await DiscardOf (Some t) h = h
    by_await InterruptOf None h = h
    by_await DiscardOf None h = h
    by_await (RestartOf n) t h = h
    by_await ReleaseOf t h = h

shared-please : (w : Awaited) (sets : Sets) (p : ℕ) (up : List Message) (set : ContextSet) → SharedBy w sets (Please p ∷ up) set → SharedBy w sets up set
shared-please NoAnswer sets p up set h = h
shared-please (RestartOf n) sets p up set h = h
shared-please InterruptOf sets p up set h = h
shared-please DiscardOf sets p up set h = h
shared-please ReleaseOf sets p up set h = h

pub takes_please : (setup : ModelSetup) (from : Role) (l : Leader) (p : ℕ) (lin : Incoming) (y : Follower) (yc : ℕ) (yt : Option Transfer) (down up : List Message) (set mid : ContextSet) (mine theirs : List Saved) → Flow setup from l lin y yc yt down (Please p ∷ up) set mid mine theirs → Flow setup from l lin y yc yt down up set mid mine theirs
takes_please setup from l p lin y yc yt down up set mid mine theirs n =
    record {
      runs = down-taken setup from (Rest l) (Rest l) (Please p) down y up (λ held i q. q) (please-rest l p) n.runs;
      asks = n.asks;
      begins = n.begins;
      waits = n.waits;
      after = n.after;
      idle = n.idle;
      pairs = n.pairs;
      acks = n.acks;
      others = n.others;
      rests = n.rests;
      saved = n.saved;
      theirs_saved = n.theirs_saved;
      value = n.value;
      inters = n.inters;
      sets = shared-please l.awaits l.sets p up set n.sets;
    }

-- what is passed over while an interrupt or a discard is unanswered
abbrev pub IsPassable : Message → Type 0
IsPassable (AlterAnswer results) = Unit {0}
IsPassable (MarkAnswer n) = Unit {0}
IsPassable (Please p) = Unit {0}
IsPassable message = ⊥

purges-passed : (d : Bool) (inter : ContextSet) (u : Message) (us : List Message) (there : ContextSet) → IsPassable u → Purges d inter (u ∷ us) there → Purges d inter us there
purges-passed d inter (AlterAnswer r) us there i h = h
purges-passed d inter (MarkAnswer n) us there i h = h
purges-passed d inter (Please p) us there i h = h
purges-passed d inter u us there i h = absurd i

final-passed : (u : Message) (us : List Message) → IsPassable u → has_final (u ∷ us) ≡ has_final us
final-passed (AlterAnswer r) us i = refl
final-passed (MarkAnswer n) us i = refl
final-passed (Please p) us i = refl
final-passed u us i = absurd i

passable : (role : Role) (w : Awaited) (d : Bool) (inter : ContextSet) (u : Message) (us : List Message) (there : ContextSet) → (w ≡ InterruptOf) × (d ≡ false) ⊎ (w ≡ DiscardOf) × (d ≡ true) → is_purged role w u ≡ true → Purges d inter (u ∷ us) there → IsPassable u
passable role w d inter (AlterAnswer r) us there e k h = tt
passable role w d inter (MarkAnswer n) us there e k h = tt
passable role w d inter (Please p) us there e k h = tt
passable role w d inter InterruptAnswer us there (inl e) k h = absurd (true≢false (sym (subst (λ x. is_purged role x InterruptAnswer ≡ true) e.0 k)))
passable role w d inter InterruptAnswer us there (inr e) k h = absurd (true≢false (sym e.1 ∙ h.0))
passable role w d inter DiscardAnswer us there (inl e) k h = absurd (true≢false (sym h.0 ∙ e.1))
passable role w d inter DiscardAnswer us there (inr e) k h = absurd (true≢false (sym (subst (λ x. is_purged role x DiscardAnswer ≡ true) e.0 k)))
passable role w d inter UserAbort us there (inl e) k h = absurd (true≢false (sym (subst (λ x. is_purged role x UserAbort ≡ true) e.0 k)))
passable role w d inter UserAbort us there (inr e) k h = absurd (true≢false (sym (subst (λ x. is_purged role x UserAbort ≡ true) e.0 k)))
passable role w d inter u us there e k h = absurd h

pub passes_interrupting : (setup : ModelSetup) (from : Role) (sets : Sets) (c : ℕ) (t : Option Transfer) (u : Message) (lin : Incoming) (y : Follower) (yc : ℕ) (yt : Option Transfer) (down up : List Message) (set mid : ContextSet) (mine theirs : List Saved) → is_purged from InterruptOf u ≡ true → Flow setup from (record { awaits = InterruptOf; sets = sets; started = c; transfer = t }) lin y yc yt down (u ∷ up) set mid mine theirs → Flow setup from (record { awaits = InterruptOf; sets = sets; started = c; transfer = t }) lin y yc yt down up set mid mine theirs
passes_interrupting setup from sets c None u lin y yc yt down up set mid mine theirs k n =
    absurd (at-rest setup from (Rest (record { awaits = InterruptOf; sets = sets; started = c; transfer = None })) down y (u ∷ up) n.runs).rests.0
passes_interrupting setup from sets c (Some t) u lin y yc yt down up set mid mine theirs k n =
    let l : Leader = record { awaits = InterruptOf; sets = sets; started = c; transfer = Some t } in
    let a = at-rest setup from (Rest l) down y (u ∷ up) n.runs in
    let i = passable from InterruptOf false sets.inter u (up ++ a.more) a.last.held (inl (refl, refl)) k a.rests.0.0 in
    let f = final-passed u up i in
    record {
      runs = down-taken setup from (Rest l) (Rest l) u down y up (λ held i q. q) (λ us z r. ((purges-passed false sets.inter u us z.held i r.0.0, r.0.1, r.0.2, r.0.3), r.1, r.2)) n.runs;
      asks = λ e. absurd (cc);
      begins = n.begins;
      waits = n.waits;
      after = λ e. n.after (f ∙ e);
      idle = n.idle;
      pairs = n.pairs;
      acks = λ e. absurd (cc);
      others = n.others;
      rests = n.rests;
      saved = n.saved;
      theirs_saved = n.theirs_saved;
      value = n.value;
      inters = n.inters;
      sets = λ e. n.sets (f ∙ e);
    }

pub passes_discarding : (setup : ModelSetup) (from : Role) (sets : Sets) (c : ℕ) (t : Option Transfer) (u : Message) (lin : Incoming) (y : Follower) (yc : ℕ) (yt : Option Transfer) (down up : List Message) (set mid : ContextSet) (mine theirs : List Saved) → is_purged from DiscardOf u ≡ true → Flow setup from (record { awaits = DiscardOf; sets = sets; started = c; transfer = t }) lin y yc yt down (u ∷ up) set mid mine theirs → Flow setup from (record { awaits = DiscardOf; sets = sets; started = c; transfer = t }) lin y yc yt down up set mid mine theirs
passes_discarding setup from sets c None u lin y yc yt down up set mid mine theirs k n =
    absurd (at-rest setup from (Rest (record { awaits = DiscardOf; sets = sets; started = c; transfer = None })) down y (u ∷ up) n.runs).rests.0
passes_discarding setup from sets c (Some t) u lin y yc yt down up set mid mine theirs k n =
    let l : Leader = record { awaits = DiscardOf; sets = sets; started = c; transfer = Some t } in
    let a = at-rest setup from (Rest l) down y (u ∷ up) n.runs in
    let i = passable from DiscardOf true sets.inter u (up ++ a.more) a.last.held (inr (refl, refl)) k a.rests.0.0 in
    let f = final-passed u up i in
    record {
      runs = down-taken setup from (Rest l) (Rest l) u down y up (λ held i q. q) (λ us z r. ((purges-passed true sets.inter u us z.held i r.0.0, r.0.1, r.0.2), r.1, r.2)) n.runs;
      asks = λ e. absurd (cc);
      begins = n.begins;
      waits = n.waits;
      after = λ e. n.after (f ∙ e);
      idle = n.idle;
      pairs = n.pairs;
      acks = λ e. absurd (cc);
      others = n.others;
      rests = n.rests;
      saved = n.saved;
      theirs_saved = n.theirs_saved;
      value = n.value;
      inters = n.inters;
      sets = λ e. n.sets (f ∙ e);
    }
