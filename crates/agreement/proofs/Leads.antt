-- Reliable mode: what the acts of the end that leads keep.
use Rattle.std.proofs.Common.{◌≡◌, ℕ, zero, suc, ◌≤◌, length, Bool, true, false, List, [], ◌∷◌, ◌++◌, refl, sym, ap, ◌∙◌, arith, true≢false, subst, inl, inr, ap₂}
use Rattle.std.specs.Prelude.{Option, Some, None}
use Rattle.std.proofs.lemmas.Bool.Decides.{nat_tests}
use Rattle.agreement.specs.Sets.{Role, ContextSet, Item, Result, AnswersEach, altered, AreDistinct, identifier_of, identifiers, named, lookup, Saved}
use Rattle.agreement.specs.Sets.Role.{Initiator}
use Rattle.agreement.specs.Messages.{Value, ModelSetup, Message}
use Rattle.agreement.specs.Messages.Message.{Alter, AlterAnswer, Mark, MarkAnswer, Start, Resume, Chunk, End, EndAnswer, Interrupt, InterruptAnswer, Discard, DiscardAnswer, Please, Release, UserAbort}
use Rattle.agreement.specs.State.{Piece, Progress, Handed, Transfer, Incoming, Sets, up_to, highest, joined, newest_set}
use Rattle.agreement.specs.State.Awaited.{NoAnswer, InterruptOf, DiscardOf}
use Rattle.agreement.specs.State.Piece.{Octets, Marked}
use Rattle.agreement.specs.State.Progress.{Running, Ending, Suspended}
use Rattle.agreement.specs.Acts.{confirmed_of, resumed_value, resumed_set}
use Rattle.agreement.specs.Takings.{altered_first, later, resumed_in}
use Rattle.agreement.proofs.Flights.{AreSound, AreSame, sound-same}
use Rattle.agreement.proofs.Names.{AllUntouched, AreUntouched, lookup-altered, once-distinct, once-untouched}
use Rattle.agreement.proofs.Pieces.{Agrees, Carries, saved_in, up_to-octets, up_to-mark, up_to-idem, highest-up_to, numbered-up_to, carries-up_to, carries-newest, agrees-zero}
use Rattle.agreement.proofs.Down.{Follower, AllQuiet, Down, AllFlat, at-rest, push-quiet, push-flat, push-in, down-in, quiet-append}
use Rattle.agreement.proofs.Flow.{Leader, Doing, Ups, Purges, PairedIn, Rest, RestOf, SpellsIn, RestBy, RestIn, Acks, Begins, has_final, RestsNow, alters_in, unanswered_in, held_after, CarriesIn, ValueHeld, RunsValue, Flow, IsOpen, IsClosing, IsReady, open-no_final, ups-quiet, ups-held, after-part, unanswered-none, alters-append, begins-append, waits-append, quiet-acks, flat-begins, flat-waits, flat-append, calm-waits}
use Rattle.agreement.proofs.Flow.Doing.{Resting, Going, Closing}

-- a leader whose transfer runs
abbrev pub going : Sets → ℕ → Transfer → Leader
going sets c t = record { awaits = NoAnswer; sets = sets; started = c; transfer = Some (record t { progress = Running }) }

abbrev pub resting : Sets → ℕ → Leader
resting sets c = record { awaits = NoAnswer; sets = sets; started = c; transfer = None }

abbrev pub suspended : Sets → ℕ → Transfer → Leader
suspended sets c t = record { awaits = NoAnswer; sets = sets; started = c; transfer = Some (record t { progress = Suspended }) }

nil-lists : (xs : List (List Item)) → xs ++ [] ≡ xs
nil-lists [] = refl
nil-lists (x ∷ xs) = ap (λ ys. x ∷ ys) (nil-lists xs)

-- a message that alters nothing leaves what is asked
asks-more : (down : List Message) (m : Message) (x : List (List Item)) → alters_in (m ∷ []) ≡ [] → alters_in down ≡ x → alters_in (down ++ (m ∷ [])) ≡ x
asks-more down m x e h = alters-append down (m ∷ []) ∙ ap (λ ys. alters_in down ++ ys) e ∙ nil-lists (alters_in down) ∙ h

-- what comes up to a leader with no own alteration
pub quiet-ups : (stage : Doing) (k h : ℕ) (held inter : ContextSet) (up : List Message) (there : ContextSet) → AllQuiet up → held ≡ there → IsReady stage k h → Ups stage k h [] held inter up there
quiet-ups stage k h held inter [] there q e r = (refl, e, r)
quiet-ups stage k h held inter (Please p ∷ up) there q e r = quiet-ups stage k h held inter up there q.1 e r
quiet-ups stage k h held inter (UserAbort ∷ up) there q e r = quiet-ups stage k h held inter up there q.1 e r
quiet-ups stage k h held inter (m ∷ up) there q e r = absurd q.0

ups-mark : (k h : ℕ) (held inter : ContextSet) (up : List Message) (there : ContextSet) → Ups Going k h [] held inter up there → Ups Going k (suc h) [] held inter (up ++ (MarkAnswer (suc h) ∷ [])) there
ups-mark k h held inter [] there u = (tt, ap suc (sym u.2), lower, (refl, u.1, ap suc u.2))
  where
    lower : suc k ≤ suc h
    lower = let e = u.2 in omega arith
ups-mark k h held inter (Please p ∷ up) there u = ups-mark k h held inter up there u
ups-mark k h held inter (UserAbort ∷ up) there u = ups-mark k h held inter up there u
ups-mark k h held inter (AlterAnswer r ∷ up) there u = absurd u.0
ups-mark k h held inter (MarkAnswer m ∷ up) there u = (tt, u.1, lower, ups-mark (suc k) h held inter up there u.3)
  where
    lower : suc k ≤ suc h
    lower = let e = u.2 in omega arith
ups-mark k h held inter (EndAnswer m ∷ up) there u = absurd u.0
ups-mark k h held inter (m ∷ up) there u = absurd u

ups-end : (k h : ℕ) (held inter : ContextSet) (up : List Message) (there x : ContextSet) → Ups Going k h [] held inter up there → inter ≡ x → Ups Closing k h [] held inter (up ++ (EndAnswer (suc h) ∷ [])) x
ups-end k h held inter [] there x u e = (tt, refl, refl, (refl, e, tt))
ups-end k h held inter (Please p ∷ up) there x u e = ups-end k h held inter up there x u e
ups-end k h held inter (UserAbort ∷ up) there x u e = ups-end k h held inter up there x u e
ups-end k h held inter (AlterAnswer r ∷ up) there x u e = absurd u.0
ups-end k h held inter (MarkAnswer m ∷ up) there x u e = (tt, u.1, u.2, ups-end (suc k) h held inter up there x u.3 e)
ups-end k h held inter (EndAnswer m ∷ up) there x u e = absurd u.0
ups-end k h held inter (m ∷ up) there x u e = absurd u

ups-alter : (stage : Doing) (k h : ℕ) (own : List (List Item)) (held inter : ContextSet) (up : List Message) (there : ContextSet) (items : List Item) (results : List Result) → (IsClosing stage → ⊥) → AnswersEach items results → Ups stage k h own held inter up there → Ups stage k h (own ++ (items ∷ [])) held inter (up ++ (AlterAnswer results ∷ [])) (altered items results there)
ups-alter stage k h own held inter [] there items results n f u =
    subst (λ (o : List (List Item)). Ups stage k h (o ++ (items ∷ [])) held inter (AlterAnswer results ∷ []) (altered items results there)) (sym u.0) (f, (refl, ap (altered items results) u.1, u.2))
ups-alter stage k h own held inter (Please p ∷ up) there items results n f u = ups-alter stage k h own held inter up there items results n f u
ups-alter stage k h own held inter (UserAbort ∷ up) there items results n f u = ups-alter stage k h own held inter up there items results n f u
ups-alter stage k h [] held inter (AlterAnswer r ∷ up) there items results n f u = absurd u.0
ups-alter stage k h (o ∷ own) held inter (AlterAnswer r ∷ up) there items results n f u = (u.0, ups-alter stage k h own (altered o r held) inter up there items results n f u.1)
ups-alter stage k h own held inter (MarkAnswer m ∷ up) there items results n f u = (u.0, u.1, u.2, ups-alter stage (suc k) h own held inter up there items results n f u.3)
ups-alter stage k h own held inter (EndAnswer m ∷ up) there items results n f u = absurd (n u.0)
ups-alter stage k h own held inter (m ∷ up) there items results n f u = absurd u

-- what no own alteration names is at the follower as at the leader
ups-same : (stage : Doing) (k h : ℕ) (own : List (List Item)) (held inter : ContextSet) (up : List Message) (there : ContextSet) (i : ℕ) → (IsClosing stage → ⊥) → AllUntouched i own → Ups stage k h own held inter up there → lookup held i ≡ lookup there i
ups-same stage k h own held inter [] there i n t u = ap (λ s. lookup s i) u.1
ups-same stage k h own held inter (Please p ∷ up) there i n t u = ups-same stage k h own held inter up there i n t u
ups-same stage k h own held inter (UserAbort ∷ up) there i n t u = ups-same stage k h own held inter up there i n t u
ups-same stage k h [] held inter (AlterAnswer r ∷ up) there i n t u = absurd u.0
ups-same stage k h (o ∷ own) held inter (AlterAnswer r ∷ up) there i n t u = sym (lookup-altered o r i held t.0) ∙ ups-same stage k h own (altered o r held) inter up there i n t.1 u.1
ups-same stage k h own held inter (MarkAnswer m ∷ up) there i n t u = ups-same stage (suc k) h own held inter up there i n t u.3
ups-same stage k h own held inter (EndAnswer m ∷ up) there i n t u = absurd (n u.0)
ups-same stage k h own held inter (m ∷ up) there i n t u = absurd u

ups-interrupt : (k h : ℕ) (own : List (List Item)) (held inter : ContextSet) (up : List Message) (there x : ContextSet) → Ups Going k h own held inter up there → inter ≡ x → Purges false inter (up ++ (InterruptAnswer ∷ [])) x
ups-interrupt k h own held inter [] there x u e = (refl, (refl, e, tt))
ups-interrupt k h own held inter (Please p ∷ up) there x u e = ups-interrupt k h own held inter up there x u e
ups-interrupt k h own held inter (UserAbort ∷ up) there x u e = ups-interrupt k h own held inter up there x u e
ups-interrupt k h own held inter (AlterAnswer r ∷ up) there x u e = ups-interrupt k h (later own) (altered_first own r held) inter up there x u.1 e
ups-interrupt k h own held inter (MarkAnswer m ∷ up) there x u e = ups-interrupt (suc k) h own held inter up there x u.3 e
ups-interrupt k h own held inter (EndAnswer m ∷ up) there x u e = absurd u.0
ups-interrupt k h own held inter (m ∷ up) there x u e = absurd u

ups-discard : (k h : ℕ) (own : List (List Item)) (held inter : ContextSet) (up : List Message) (there x : ContextSet) → Ups Going k h own held inter up there → inter ≡ x → Purges true inter (up ++ (DiscardAnswer ∷ [])) x
ups-discard k h own held inter [] there x u e = (refl, (refl, e, tt))
ups-discard k h own held inter (Please p ∷ up) there x u e = ups-discard k h own held inter up there x u e
ups-discard k h own held inter (UserAbort ∷ up) there x u e = ups-discard k h own held inter up there x u e
ups-discard k h own held inter (AlterAnswer r ∷ up) there x u e = ups-discard k h (later own) (altered_first own r held) inter up there x u.1 e
ups-discard k h own held inter (MarkAnswer m ∷ up) there x u e = ups-discard (suc k) h own held inter up there x u.3 e
ups-discard k h own held inter (EndAnswer m ∷ up) there x u e = absurd u.0
ups-discard k h own held inter (m ∷ up) there x u e = absurd u

-- of a part of what comes up
pub quiet-part : (up more : List Message) → AllQuiet (up ++ more) → AllQuiet up
quiet-part [] more q = tt
quiet-part (m ∷ up) more q = (q.0, quiet-part up more q.1)

-- one more own alteration isn't answered there
more_part : (stage : Doing) (k h : ℕ) (own : List (List Item)) (held inter : ContextSet) (up more : List Message) (there : ContextSet) (items : List Item) → (IsClosing stage → ⊥) → Ups stage k h own held inter (up ++ more) there → (unanswered_in up (own ++ (items ∷ [])) ≡ unanswered_in up own ++ (items ∷ [])) × (held_after (own ++ (items ∷ [])) held inter up ≡ held_after own held inter up)
more_part stage k h own held inter [] more there items n u = (refl, refl)
more_part stage k h own held inter (Please p ∷ up) more there items n u = more_part stage k h own held inter up more there items n u
more_part stage k h own held inter (UserAbort ∷ up) more there items n u = more_part stage k h own held inter up more there items n u
more_part stage k h [] held inter (AlterAnswer r ∷ up) more there items n u = absurd u.0
more_part stage k h (o ∷ own) held inter (AlterAnswer r ∷ up) more there items n u = more_part stage k h own (altered o r held) inter up more there items n u.1
more_part stage k h own held inter (MarkAnswer m ∷ up) more there items n u = more_part stage (suc k) h own held inter up more there items n u.3
more_part stage k h own held inter (EndAnswer m ∷ up) more there items n u = absurd (n u.0)
more_part stage k h own held inter (m ∷ up) more there items n u = absurd u

acks-octets : (c : ℕ) (p : List Piece) (o : List ℕ) (incoming : Incoming) (up : List Message) → Acks c p incoming up → Acks c (Octets o ∷ p) incoming up
acks-octets c p o i [] a = tt
acks-octets c p o i (MarkAnswer n ∷ up) a =
    (a.0, record { in_first = a.1.in_first; in_second = a.1.in_second; same = up_to-octets n o p ∙ a.1.same }, acks-octets c p o i up a.2)
acks-octets c p o i (m ∷ up) a = acks-octets c p o i up a

agrees-mark : (n m : ℕ) (s : ContextSet) (p q : List Piece) → m ≡ suc (highest p) → Agrees n p q → Agrees n (Marked m s ∷ p) q
agrees-mark n m s p q e a =
    record { in_first = more; in_second = a.in_second; same = up_to-mark n m s p e a.in_first ∙ a.same }
  where
    more : n ≤ m
    more = let h = a.in_first in omega arith

acks-mark : (c m : ℕ) (s : ContextSet) (p : List Piece) (incoming : Incoming) (up : List Message) → m ≡ suc (highest p) → Acks c p incoming up → Acks c (Marked m s ∷ p) incoming up
acks-mark c m s p i [] e a = tt
acks-mark c m s p i (MarkAnswer n ∷ up) e a = (a.0, agrees-mark n m s p i.pieces e a.1, acks-mark c m s p i up e a.2)
acks-mark c m s p i (x ∷ up) e a = acks-mark c m s p i up e a

Parts : Type 1
Parts = ModelSetup → Role → Leader → Incoming → Follower → ℕ → Option Transfer → List Message → List Message → ContextSet → ContextSet → List Saved → List Saved → Type 0

-- the leader holds the shared set where it has no own alteration and runs or rests
pub shared-held : (setup : ModelSetup) (from : Role) (w : Option Transfer) (held inter : ContextSet) (c : ℕ) (lin : Incoming) (y : Follower) (yc : ℕ) (yt : Option Transfer) (down up : List Message) (set mid : ContextSet) (mine theirs : List Saved) → IsOpen NoAnswer w → Flow setup from (record { awaits = NoAnswer; sets = record { held = held; inter = inter; own = [] }; started = c; transfer = w }) lin y yc yt down up set mid mine theirs → set ≡ held
shared-held setup from w held inter c lin y yc yt down up set mid mine theirs o n =
    n.sets ∙ after-part held inter up [] (open-no_final setup from (record { awaits = NoAnswer; sets = record { held = held; inter = inter; own = [] }; started = c; transfer = w }) down y up o n.runs) (unanswered-none up)

not-ending : Running ≡ Ending → ⊥
not-ending e = cc

none-final : (b : Bool) (A : Type 0) → b ≡ false → b ≡ true → A
none-final b A f t = absurd (true≢false (sym t ∙ f))

-- a part of the transfer is sent
pub sends_chunk : (setup : ModelSetup) (from : Role) (sets : Sets) (c : ℕ) (t : Transfer) (v : Value) (o : List ℕ) (lin : Incoming) (y : Follower) (yc : ℕ) (yt : Option Transfer) (down up : List Message) (set mid : ContextSet) (mine theirs : List Saved) → length (joined t.pieces ++ o) ≤ setup.most_transferred → Flow setup from (going sets c (record t { value = Some v })) lin y yc yt down up set mid mine theirs → Flow setup from (going sets c (record t { value = Some v; pieces = Octets o ∷ t.pieces })) lin y yc yt (down ++ (Chunk o ∷ [])) up set mid mine theirs
sends_chunk setup from sets c t v o lin y yc yt down up set mid mine theirs within n =
    record {
      runs =
          push-in setup from (Rest (going sets c (record t { value = Some v }))) (Rest (going sets c (record t { value = Some v; pieces = Octets o ∷ t.pieces }))) (Chunk o) down y up
          (λ us z r. r.0.1) (λ us z r. ((r.0.1, subst (λ (p : List Piece). length (joined p ++ o) ≤ setup.most_transferred) (sym r.0.3) within), ((r.0.0, r.0.1, r.0.2, ap (λ (p : List Piece). Octets o ∷ p) r.0.3), r.1, r.2))) n.runs;
      asks = λ e. asks-more down (Chunk o) (unanswered_in up sets.own) refl (n.asks e);
      begins = begins-append c t.confirmed down (Chunk o ∷ []) n.begins tt;
      waits = waits-append NoAnswer t.confirmed down (Chunk o ∷ []) n.waits tt;
      after = none-final (has_final up) _ (open-no_final setup from (going sets c (record t { value = Some v })) down y up not-ending n.runs);
      idle = λ e. absurd (cc);
      pairs = pair n.pairs;
      acks = λ e. acks-octets c t.pieces o y.incoming up (n.acks e);
      others = n.others;
      rests = n.rests;
      saved = n.saved;
      theirs_saved = n.theirs_saved;
      value = n.value;
      inters = n.inters;
      sets = n.sets;
    }
  where
    pair : PairedIn (Some (record t { value = Some v; progress = Running })) c y.incoming → PairedIn (Some (record t { value = Some v; pieces = Octets o ∷ t.pieces; progress = Running })) c y.incoming
    pair (inl h) = inl (h.0, record { in_first = h.1.in_first; in_second = h.1.in_second; same = up_to-octets t.confirmed o t.pieces ∙ h.1.same })
    pair (inr h) = inr h

-- a mark is sent
pub sends_mark : (setup : ModelSetup) (from : Role) (held inter : ContextSet) (c : ℕ) (t : Transfer) (v : Value) (lin : Incoming) (y : Follower) (yc : ℕ) (yt : Option Transfer) (down up : List Message) (set mid : ContextSet) (mine theirs : List Saved) → suc (highest t.pieces) ≤ setup.most_marks → Flow setup from (going (record { held = held; inter = inter; own = [] }) c (record t { value = Some v })) lin y yc yt down up set mid mine theirs → Flow setup from (going (record { held = held; inter = inter; own = [] }) c (record t { value = Some v; pieces = Marked (suc (highest t.pieces)) held ∷ t.pieces })) lin y yc yt (down ++ (Mark (suc (highest t.pieces)) ∷ [])) up set mid (record { number = suc (highest t.pieces); set = set } ∷ mine) theirs
sends_mark setup from held inter c t v lin y yc yt down up set mid mine theirs within n =
    record {
      runs =
          push-in setup from (Rest l) (Rest k) (Mark m) down y up (λ us z r. r.0.1)
          (λ us z r.
          let same = ups-held Going t.confirmed (highest t.pieces) held inter us z.held (λ x. x) r.0.0 in (
            r.0.1,
            (ap (λ p. suc (highest p)) (sym r.0.3), within),
            ((ups-mark t.confirmed (highest t.pieces) held inter us z.held r.0.0, r.0.1, r.0.2, ap₂ (λ (x : ContextSet) (p : List Piece). Marked m x ∷ p) (sym same) r.0.3), r.1, r.2),
          )) n.runs;
      asks = λ e. asks-more down (Mark m) (unanswered_in up []) refl (n.asks e);
      begins = begins-append c t.confirmed down (Mark m ∷ []) n.begins tt;
      waits = waits-append NoAnswer t.confirmed down (Mark m ∷ []) n.waits tt;
      after = none-final (has_final up) _ (open-no_final setup from l down y up not-ending n.runs);
      idle = λ e. absurd (cc);
      pairs = pair n.pairs;
      acks = λ e. acks-mark c m held t.pieces y.incoming up refl (n.acks e);
      others = n.others;
      rests = n.rests;
      saved = (
        (refl, n.saved.0),
        ap₂ (λ (x : ContextSet) (ms : List Saved). record { number = m; set = x } ∷ ms) (shared-held setup from (Some (record t { value = Some v; progress = Running })) held inter c lin y yc yt down up set mid mine theirs not-ending n) n.saved.1,
        lower n.saved.2,
        (n.saved.3.0, (n.value.0, n.saved.3.1)),
      );
      theirs_saved = n.theirs_saved;
      value = n.value;
      inters = n.inters;
      sets = n.sets;
    }
  where
    m : ℕ
    m = suc (highest t.pieces)

    l : Leader
    l = going (record { held = held; inter = inter; own = [] }) c (record t { value = Some v })

    k : Leader
    k = going (record { held = held; inter = inter; own = [] }) c (record t { value = Some v; pieces = Marked (suc (highest t.pieces)) held ∷ t.pieces })

    lower : t.confirmed ≤ highest t.pieces → t.confirmed ≤ suc (highest t.pieces)
    lower h = omega arith

    pair : PairedIn (Some (record t { value = Some v; progress = Running })) c y.incoming → PairedIn (Some (record t { value = Some v; pieces = Marked (suc (highest t.pieces)) held ∷ t.pieces; progress = Running })) c y.incoming
    pair (inl h) = inl (h.0, agrees-mark t.confirmed (suc (highest t.pieces)) held t.pieces y.incoming.pieces refl h.1)
    pair (inr h) = inr h

-- the next item becomes the current transfer
pub starts : (setup : ModelSetup) (from : Role) (held inter : ContextSet) (c : ℕ) (item : Handed) (lin : Incoming) (y : Follower) (yc : ℕ) (yt : Option Transfer) (down up : List Message) (set mid : ContextSet) (mine theirs : List Saved) → Flow setup from (resting (record { held = held; inter = inter; own = [] }) c) lin y yc yt down up set mid mine theirs → Flow setup from (going (record { held = held; inter = held; own = [] }) (suc c) (record { item = item; value = None; pieces = []; confirmed = 0; progress = Running })) lin y yc yt (down ++ (Start (suc c) ∷ [])) up set set [] theirs
starts setup from held inter c item lin y yc yt down up set mid mine theirs n =
    let l : Leader = resting (record { held = held; inter = inter; own = [] }) c in
    let k : Leader = going (record { held = held; inter = held; own = [] }) (suc c) (record { item = item; value = None; pieces = []; confirmed = 0; progress = Running }) in
    let flat = n.idle tt in
    let a = at-rest setup from (Rest l) down y up n.runs in
    let quiet = quiet-part up a.more (ups-quiet held inter (up ++ a.more) a.last.held a.rests.0.0).0 in
    let same = shared-held setup from None held inter c lin y yc yt down up set mid mine theirs tt n in
    record {
      runs =
          push-flat setup from (Rest l) (Rest k) (Start (suc c)) down y up flat
          (λ us z r.
          let q = ups-quiet held inter us z.held r.0.0 in
          (r.0.1, ap suc (sym r.0.2), q.0, ((quiet-ups Going 0 0 held held us z.held q.0 q.1 refl, refl, refl, refl), sym q.1, r.2))) n.runs;
      asks = λ e. asks-more down (Start (suc c)) (unanswered_in up []) refl (n.asks e);
      begins = begins-append (suc c) 0 down (Start (suc c) ∷ []) (flat-begins (suc c) 0 down flat) (refl, tt);
      waits = waits-append NoAnswer 0 down (Start (suc c) ∷ []) (flat-waits NoAnswer 0 down flat) tt;
      after = none-final (has_final up) _ (open-no_final setup from l down y up tt n.runs);
      idle = λ e. absurd (cc);
      pairs = inr (ap suc n.pairs, refl);
      acks = λ e. quiet-acks (suc c) [] y.incoming up quiet;
      others = n.others;
      rests = n.rests;
      saved = (tt, refl, zero-least, refl);
      theirs_saved = n.theirs_saved;
      value = tt;
      inters = same;
      sets = same ∙ sym (after-part held held up [] (open-no_final setup from l down y up tt n.runs) (unanswered-none up));
    }
  where
    zero-least : 0 ≤ 0
    zero-least = omega arith

-- the item is encoded
pub encodes : (setup : ModelSetup) (from : Role) (held inter : ContextSet) (c : ℕ) (t : Transfer) (v : Value) (lin : Incoming) (y : Follower) (yc : ℕ) (yt : Option Transfer) (down up : List Message) (set mid : ContextSet) (mine theirs : List Saved) → lookup held v.identifier ≡ Some v.pair → setup.codec.may_write v ≡ true → Flow setup from (going (record { held = held; inter = inter; own = [] }) c (record t { value = None })) lin y yc yt down up set mid mine theirs → Flow setup from (going (record { held = held; inter = inter; own = [] }) c (record t { value = Some v })) lin y yc yt down up set mid mine theirs
encodes setup from held inter c t v lin y yc yt down up set mid mine theirs h w n =
    record {
      runs =
          down-in setup from (Rest (going (record { held = held; inter = inter; own = [] }) c (record t { value = None }))) (Rest (going (record { held = held; inter = inter; own = [] }) c (record t { value = Some v }))) down y up
          (λ us z r. r.0.1) (λ us z r. r) n.runs;
      asks = n.asks;
      begins = n.begins;
      waits = n.waits;
      after = n.after;
      idle = n.idle;
      pairs = pair n.pairs;
      acks = n.acks;
      others = n.others;
      rests = n.rests;
      saved = (n.saved.0, n.saved.1, n.saved.2, (w, subst (Carries v) (sym n.saved.3) tt));
      theirs_saved = n.theirs_saved;
      value = (h, tt);
      inters = n.inters;
      sets = n.sets;
    }
  where
    pair : PairedIn (Some (record t { value = None; progress = Running })) c y.incoming → PairedIn (Some (record t { value = Some v; progress = Running })) c y.incoming
    pair (inl h) = inl (h.0, h.1)
    pair (inr h) = inr h

-- the whole transfer is sent
pub sends_end : (setup : ModelSetup) (from : Role) (held inter : ContextSet) (c : ℕ) (t : Transfer) (v : Value) (lin : Incoming) (y : Follower) (yc : ℕ) (yt : Option Transfer) (down up : List Message) (set mid : ContextSet) (mine theirs : List Saved) → joined t.pieces ≡ setup.codec.written v → Flow setup from (going (record { held = held; inter = inter; own = [] }) c (record t { value = Some v })) lin y yc yt down up set mid mine theirs → Flow setup from (record { awaits = NoAnswer; sets = record { held = held; inter = inter; own = [] }; started = c; transfer = Some (record t { value = Some v; progress = Ending }) }) lin y yc yt (down ++ (End (suc (highest t.pieces)) ∷ [])) up set mid mine theirs
sends_end setup from held inter c t v lin y yc yt down up set mid mine theirs whole n =
    record {
      runs =
          push-in setup from (Rest l) (Rest k) (End (suc (highest t.pieces))) down y up (λ us z r. r.0.1)
          (λ us z r.
          let same = ups-held Going t.confirmed (highest t.pieces) held inter us z.held (λ x. x) r.0.0 in (
            r.0.1,
            ap (λ p. suc (highest p)) (sym r.0.3),
            tt,
            reads z.held z.incoming same r.0.3,
            ((ups-end t.confirmed (highest t.pieces) held inter us z.held z.inter r.0.0 (sym r.1), refl, r.0.2, r.0.3), r.1, r.2),
          )) n.runs;
      asks = λ e. asks-more down (End (suc (highest t.pieces))) (unanswered_in up []) refl (n.asks e);
      begins = begins-append c t.confirmed down (End (suc (highest t.pieces)) ∷ []) n.begins tt;
      waits = waits-append NoAnswer t.confirmed down (End (suc (highest t.pieces)) ∷ []) n.waits tt;
      after = none-final (has_final up) _ (open-no_final setup from l down y up not-ending n.runs);
      idle = λ e. absurd (cc);
      pairs = pair n.pairs;
      acks = n.acks;
      others = n.others;
      rests = n.rests;
      saved = n.saved;
      theirs_saved = n.theirs_saved;
      value = tt;
      inters = n.inters;
      sets = n.sets;
    }
  where
    l : Leader
    l = going (record { held = held; inter = inter; own = [] }) c (record t { value = Some v })

    k : Leader
    k = record { awaits = NoAnswer; sets = record { held = held; inter = inter; own = [] }; started = c; transfer = Some (record t { value = Some v; progress = Ending }) }

    pair : PairedIn (Some (record t { value = Some v; progress = Running })) c y.incoming → PairedIn (Some (record t { value = Some v; progress = Ending })) c y.incoming
    pair (inl h) = inl (h.0, h.1)
    pair (inr h) = inr h

    reads : (there : ContextSet) (incoming : Incoming) → held ≡ there → incoming.pieces ≡ t.pieces → SpellsIn (Some v) setup there incoming
    reads there incoming same p = (subst (λ s. lookup s v.identifier ≡ Some v.pair) same n.value.0, ap joined p ∙ whole, n.saved.3.0)

-- an interrupt, a discard
pub sends_interrupt : (setup : ModelSetup) (from : Role) (sets : Sets) (c : ℕ) (t : Transfer) (lin : Incoming) (y : Follower) (yc : ℕ) (yt : Option Transfer) (down up : List Message) (set mid : ContextSet) (mine theirs : List Saved) → Flow setup from (going sets c t) lin y yc yt down up set mid mine theirs → Flow setup from (record { awaits = InterruptOf; sets = sets; started = c; transfer = Some (record t { progress = Running }) }) lin y yc yt (down ++ (Interrupt ∷ [])) up set mid mine theirs
sends_interrupt setup from sets c t lin y yc yt down up set mid mine theirs n =
    let none = open-no_final setup from (going sets c t) down y up not-ending n.runs in
    record {
      runs =
          push-in setup from (Rest (going sets c t)) (Rest (record { awaits = InterruptOf; sets = sets; started = c; transfer = Some (record t { progress = Running }) })) Interrupt down y up (λ us z r. r.0.1)
          (λ us z r. (r.0.1, tt, ((ups-interrupt t.confirmed (highest t.pieces) sets.own sets.held sets.inter us z.held z.inter r.0.0 (sym r.1), refl, r.0.2, r.0.3), r.1, r.2))) n.runs;
      asks = λ e. absurd (cc);
      begins = begins-append c t.confirmed down (Interrupt ∷ []) n.begins tt;
      waits = waits-append InterruptOf t.confirmed down (Interrupt ∷ []) (calm-waits InterruptOf t.confirmed t.confirmed down n.waits) (refl, tt);
      after = none-final (has_final up) _ none;
      idle = λ e. absurd e;
      pairs = n.pairs;
      acks = λ e. absurd (cc);
      others = n.others;
      rests = n.rests;
      saved = n.saved;
      theirs_saved = n.theirs_saved;
      value = tt;
      inters = n.inters;
      sets = none-final (has_final up) _ none;
    }

begins-zero : (c k : ℕ) (down : List Message) → Begins c k down → Begins c 0 down
begins-zero c k [] b = tt
begins-zero c k (Start j ∷ down) b = (b.0, begins-zero c k down b.1)
begins-zero c k (Resume j n ∷ down) b = (b.0, inr refl, begins-zero c k down b.2)
begins-zero c k (m ∷ down) b = begins-zero c k down b

pub sends_discard : (setup : ModelSetup) (from : Role) (sets : Sets) (c : ℕ) (t : Transfer) (lin : Incoming) (y : Follower) (yc : ℕ) (yt : Option Transfer) (down up : List Message) (set mid : ContextSet) (mine theirs : List Saved) → Flow setup from (going sets c t) lin y yc yt down up set mid mine theirs → Flow setup from (record { awaits = DiscardOf; sets = sets; started = c; transfer = Some (record t { confirmed = 0; progress = Running }) }) lin y yc yt (down ++ (Discard ∷ [])) up set mid mine theirs
sends_discard setup from sets c t lin y yc yt down up set mid mine theirs n =
    let none = open-no_final setup from (going sets c t) down y up not-ending n.runs in
    record {
      runs =
          push-in setup from (Rest (going sets c t)) (Rest (record { awaits = DiscardOf; sets = sets; started = c; transfer = Some (record t { confirmed = 0; progress = Running }) })) Discard down y up (λ us z r. r.0.1)
          (λ us z r. (r.0.1, tt, ((ups-discard t.confirmed (highest t.pieces) sets.own sets.held sets.inter us z.held z.inter r.0.0 (sym r.1), refl, r.0.2), r.1, r.2))) n.runs;
      asks = λ e. absurd (cc);
      begins = begins-append c 0 down (Discard ∷ []) (begins-zero c t.confirmed down n.begins) tt;
      waits = waits-append DiscardOf 0 down (Discard ∷ []) (calm-waits DiscardOf t.confirmed 0 down n.waits) (refl, refl, tt);
      after = none-final (has_final up) _ none;
      idle = λ e. absurd e;
      pairs = pair n.pairs;
      acks = λ e. absurd (cc);
      others = n.others;
      rests = n.rests;
      saved = (n.saved.0, n.saved.1, zero-least, n.saved.3);
      theirs_saved = n.theirs_saved;
      value = tt;
      inters = n.inters;
      sets = none-final (has_final up) _ none;
    }
  where
    zero-least : 0 ≤ highest t.pieces
    zero-least = omega arith

    pair : PairedIn (Some (record t { progress = Running })) c y.incoming → PairedIn (Some (record t { confirmed = 0; progress = Running })) c y.incoming
    pair (inl h) = inl (h.0, agrees-zero t.pieces y.incoming.pieces)
    pair (inr h) = inr (h.0, refl)

-- what the follower makes of a resumption
pub resumed-same : (c n : ℕ) (incoming : Incoming) → incoming.last ≡ c → resumed_in c n incoming ≡ record incoming { pieces = up_to n incoming.pieces; active = true }
resumed-same c n incoming e = grind (arith, nat_tests)

pub resumed-next : (c : ℕ) (incoming : Incoming) → suc incoming.last ≡ c → resumed_in c 0 incoming ≡ record { last = c; pieces = []; was_handed = false; active = true }
resumed-next c incoming e = grind (arith, nat_tests)

-- a suspended transfer is resumed from its confirmed mark
pub resumes : (setup : ModelSetup) (from : Role) (held inter : ContextSet) (c : ℕ) (t : Transfer) (lin : Incoming) (y : Follower) (yc : ℕ) (yt : Option Transfer) (down up : List Message) (set mid : ContextSet) (mine theirs : List Saved) → (n : ℕ) → t.confirmed ≡ n → (moved : ContextSet) → moved ≡ resumed_set n t.pieces set → (kept : List Saved) → kept ≡ saved_in (up_to n t.pieces) → Flow setup from (suspended (record { held = held; inter = inter; own = [] }) c t) lin y yc yt down up set mid mine theirs → Flow setup from (going (record { held = resumed_set n t.pieces held; inter = held; own = [] }) c (record t { value = resumed_value n t.value; pieces = up_to n t.pieces })) lin y yc yt (down ++ (Resume c n ∷ [])) up moved set kept theirs
resumes setup from held inter c t lin y yc yt down up set mid mine theirs j e moved em kept ek n =
    let flat = n.idle refl in
    let a = at-rest setup from (Rest l) down y up n.runs in
    let quiet = quiet-part up a.more (ups-quiet held inter (up ++ a.more) a.last.held a.rests.0.0).0 in
    let same = shared-held setup from (Some (record t { progress = Suspended })) held inter c lin y yc yt down up set mid mine theirs (λ x. cc) n in
    let none = open-no_final setup from l down y up (λ x. cc) n.runs in
    record {
      runs = push-flat setup from (Rest l) (Rest k) (Resume c j) down y up flat (λ us z r. enters us z r r.0.2) n.runs;
      asks = λ e. asks-more down (Resume c j) (unanswered_in up []) refl (n.asks e);
      begins = begins-append c t.confirmed down (Resume c j ∷ []) (flat-begins c t.confirmed down flat) (refl, inl (sym e), tt);
      waits = waits-append NoAnswer t.confirmed down (Resume c j ∷ []) (flat-waits NoAnswer t.confirmed down flat) tt;
      after = none-final (has_final up) _ none;
      idle = λ e. absurd (cc);
      pairs = pair n.pairs;
      acks = λ e. quiet-acks c (up_to j t.pieces) y.incoming up quiet;
      others = n.others;
      rests = n.rests;
      saved = (numbered-up_to j t.pieces n.saved.0, ek, enough, carry j t.value n.saved.3);
      theirs_saved = n.theirs_saved;
      value = held-value j t.value low n.saved.3;
      inters = same;
      sets = em ∙ ap (resumed_set j t.pieces) same ∙ sym (after-part (resumed_set j t.pieces held) held up [] none (unanswered-none up));
    }
  where
    l : Leader
    l = suspended (record { held = held; inter = inter; own = [] }) c t

    k : Leader
    k = going (record { held = resumed_set j t.pieces held; inter = held; own = [] }) c (record t { value = resumed_value j t.value; pieces = up_to j t.pieces })

    low : j ≤ highest t.pieces
    low = subst (λ i. i ≤ highest t.pieces) e n.saved.2

    top : highest (up_to j t.pieces) ≡ j
    top = highest-up_to j t.pieces n.saved.0 low

    enough : t.confirmed ≤ highest (up_to j t.pieces)
    enough = subst (λ i. t.confirmed ≤ i) (sym top) (subst (λ i. i ≤ j) (sym e) (self j))
      where
        self : (i : ℕ) → i ≤ i
        self i = omega arith

    agrees : (q : List Piece) → Agrees t.confirmed t.pieces q → Agrees t.confirmed (up_to j t.pieces) q
    agrees q a =
        record {
          in_first = enough;
          in_second = a.in_second;
          same = ap (λ i. up_to i (up_to j t.pieces)) e ∙ up_to-idem j t.pieces ∙ ap (λ i. up_to i t.pieces) (sym e) ∙ a.same;
        }

    pair : PairedIn (Some (record t { progress = Suspended })) c y.incoming → PairedIn (Some (record t { value = resumed_value j t.value; pieces = up_to j t.pieces; progress = Running })) c y.incoming
    pair (inl h) = inl (h.0, agrees y.incoming.pieces h.1)
    pair (inr h) = inr h

    carry : (i : ℕ) (value : Option Value) → CarriesIn setup value t.pieces → CarriesIn setup (resumed_value i value) (up_to i t.pieces)
    carry zero value h = refl
    carry (suc i) None h = ap (up_to (suc i)) h
    carry (suc i) (Some v) h = (h.0, carries-up_to v (suc i) t.pieces h.1)

    held-value : (i : ℕ) (value : Option Value) → i ≤ highest t.pieces → CarriesIn setup value t.pieces → ValueHeld (resumed_value i value) (record { held = resumed_set i t.pieces held; inter = held; own = [] })
    held-value zero value b h = tt
    held-value (suc i) None b h = tt
    held-value (suc i) (Some v) b h = (carries-newest v (up_to (suc i) t.pieces) (carries-up_to v (suc i) t.pieces h.1) (some i (highest-up_to (suc i) t.pieces n.saved.0 b)), tt)
      where
        some : (i : ℕ) → highest (up_to (suc i) t.pieces) ≡ suc i → 1 ≤ highest (up_to (suc i) t.pieces)
        some i e = omega arith

    sets-same : (i : ℕ) (q : List Piece) (there : ContextSet) → up_to i t.pieces ≡ up_to i q → held ≡ there → resumed_set i t.pieces held ≡ resumed_set i q there
    sets-same zero q there a b = b
    sets-same (suc i) q there a b = ap newest_set a

    enters : (us : List Message) (z : Follower) → RestOf l us z → PairedIn (Some (record t { progress = Suspended })) c z.incoming → Down setup from (Rest k) (Resume c j ∷ []) z us
    enters us z r (inl h) =
        let q = ups-quiet held inter us z.held r.0.0 in
        let agree : up_to j t.pieces ≡ up_to j z.incoming.pieces = ap (λ i. up_to i t.pieces) (sym e) ∙ h.1.same ∙ ap (λ i. up_to i z.incoming.pieces) e in
        let in_second : j ≤ highest z.incoming.pieces = subst (λ i. i ≤ highest z.incoming.pieces) e h.1.in_second in
        let is = resumed-same c j z.incoming h.0 in (
          r.0.1,
          inl (sym h.0, in_second),
          q.0,
          (
            subst (λ (i : Incoming). RestIn Running (record t { value = resumed_value j t.value; pieces = up_to j t.pieces; progress = Running }) k us (record z { incoming = i; inter = z.held; held = resumed_set j z.incoming.pieces z.held })) (sym is)
                (quiet-ups Going t.confirmed (highest (up_to j t.pieces)) (resumed_set j t.pieces held) held us (resumed_set j z.incoming.pieces z.held) q.0 (sets-same j z.incoming.pieces z.held agree q.1) (e ∙ sym top), refl, h.0, sym agree),
            sym q.1,
            r.2,
          ),
        )
    enters us z r (inr h) =
        let q = ups-quiet held inter us z.held r.0.0 in
        let none : j ≡ 0 = sym e ∙ h.1 in
        let is : resumed_in c j z.incoming ≡ record { last = c; pieces = []; was_handed = false; active = true } = ap (λ i. resumed_in c i z.incoming) none ∙ resumed-next c z.incoming h.0 in (
          r.0.1,
          inr (sym h.0, none),
          q.0,
          (
            subst (λ (i : Incoming). RestIn Running (record t { value = resumed_value j t.value; pieces = up_to j t.pieces; progress = Running }) k us (record z { incoming = i; inter = z.held; held = resumed_set j z.incoming.pieces z.held })) (sym is) (
              quiet-ups Going t.confirmed (highest (up_to j t.pieces)) (resumed_set j t.pieces held) held us (resumed_set j z.incoming.pieces z.held) q.0
                  (subst (λ i. resumed_set i t.pieces held ≡ resumed_set i z.incoming.pieces z.held) (sym none) q.1) (e ∙ sym top),
              refl,
              refl,
              sym (ap (λ i. up_to i t.pieces) none),
            ),
            sym q.1,
            r.2,
          ),
        )

-- an alteration is asked for, between activities or in one
open-rest : (t : Option Transfer) (l : Leader) (us : List Message) (z : Follower) (items : List Item) → IsOpen NoAnswer t → RestBy NoAnswer t l us z → AreUntouched items l.sets.own → AreSame l.sets.held z.held items
open-rest t l us z items o r u = go t o r
  where
    all : (stage : Doing) (k h : ℕ) → (IsClosing stage → ⊥) → Ups stage k h l.sets.own l.sets.held l.sets.inter us z.held → (is : List Item) → AreUntouched is l.sets.own → AreSame l.sets.held z.held is
    all stage k h n w [] u = tt
    all stage k h n w (i ∷ is) u = (ups-same stage k h l.sets.own l.sets.held l.sets.inter us z.held (identifier_of i) n u.0 w, all stage k h n w is u.1)

    go : (t : Option Transfer) → IsOpen NoAnswer t → RestBy NoAnswer t l us z → AreSame l.sets.held z.held items
    go None o r = all Resting 0 0 (λ x. x) r.0 items u
    go (Some t) o r = by_progress t.progress o r
      where
        by_progress : (p : Progress) → (p ≡ Ending → ⊥) → RestIn p t l us z → AreSame l.sets.held z.held items
        by_progress Suspended o r = all Resting 0 0 (λ x. x) r.0 items u
        by_progress Running o r = all Going t.confirmed (highest t.pieces) (λ x. x) r.0 items u
        by_progress Ending o r = absurd (o refl)

-- the leader once it asked
abbrev pub asking : Option Transfer → ℕ → ContextSet → ContextSet → List (List Item) → Leader
asking t c held inter own = record { awaits = NoAnswer; sets = record { held = held; inter = inter; own = own }; started = c; transfer = t }

alters-rest : (t : Option Transfer) (c : ℕ) (held inter : ContextSet) (own : List (List Item)) (items : List Item) (results : List Result) (us : List Message) (z : Follower) → IsOpen NoAnswer t → AnswersEach items results → RestOf (asking t c held inter own) us z → RestOf (asking t c held inter (own ++ (items ∷ []))) (us ++ (AlterAnswer results ∷ [])) (record z { held = altered items results z.held })
alters-rest None c held inter own items results us z o f r =
    ((ups-alter Resting 0 0 own held inter us z.held items results (λ x. x) f r.0.0, r.0.1, r.0.2), r.1, r.2)
alters-rest (Some t) c held inter own items results us z o f r = go t.progress o r.0
  where
    go : (p : Progress) → (p ≡ Ending → ⊥) → RestIn p t (asking (Some t) c held inter own) us z → RestIn p t (asking (Some t) c held inter (own ++ (items ∷ []))) (us ++ (AlterAnswer results ∷ [])) (record z { held = altered items results z.held }) × (z.inter ≡ inter) × (z.gave ≡ false)
    go Suspended o h = ((ups-alter Resting 0 0 own held inter us z.held items results (λ x. x) f h.0, h.1, h.2), r.1, r.2)
    go Running o h = ((ups-alter Going t.confirmed (highest t.pieces) own held inter us z.held items results (λ x. x) f h.0, h.1, h.2, h.3), r.1, r.2)
    go Ending o h = absurd (o refl)

alters-part : (t : Option Transfer) (c : ℕ) (held inter : ContextSet) (own : List (List Item)) (items : List Item) (up more : List Message) (z : Follower) → IsOpen NoAnswer t → RestOf (asking t c held inter own) (up ++ more) z → (unanswered_in up (own ++ (items ∷ [])) ≡ unanswered_in up own ++ (items ∷ [])) × (held_after (own ++ (items ∷ [])) held inter up ≡ held_after own held inter up)
alters-part None c held inter own items up more z o r = more_part Resting 0 0 own held inter up more z.held items (λ x. x) r.0.0
alters-part (Some t) c held inter own items up more z o r = go t.progress o r.0
  where
    go : (p : Progress) → (p ≡ Ending → ⊥) → RestIn p t (asking (Some t) c held inter own) (up ++ more) z → (unanswered_in up (own ++ (items ∷ [])) ≡ unanswered_in up own ++ (items ∷ [])) × (held_after (own ++ (items ∷ [])) held inter up ≡ held_after own held inter up)
    go Suspended o h = more_part Resting 0 0 own held inter up more z.held items (λ x. x) h.0
    go Running o h = more_part Going t.confirmed (highest t.pieces) own held inter up more z.held items (λ x. x) h.0
    go Ending o h = absurd (o refl)

alters-push : (setup : ModelSetup) (from : Role) (t : Option Transfer) (c : ℕ) (held inter : ContextSet) (own : List (List Item)) (items : List Item) (down : List Message) (y : Follower) (up : List Message) → IsOpen NoAnswer t → AreUntouched items own → AreSound from held items → AreDistinct (identifiers items) → (RestsNow NoAnswer t → AllFlat down) → Down setup from (Rest (asking t c held inter own)) down y up → Down setup from (Rest (asking t c held inter (own ++ (items ∷ [])))) (down ++ (Alter items ∷ [])) y up
alters-push setup from t c held inter own items down y up o u s d flat h = go t o flat h
  where
    enters : (t : Option Transfer) → IsOpen NoAnswer t → (us : List Message) (z : Follower) → RestOf (asking t c held inter own) us z → Down setup from (Rest (asking t c held inter (own ++ (items ∷ [])))) (Alter items ∷ []) z us
    enters t o us z r = (
      sound-same from held z.held items s (open-rest t (asking t c held inter own) us z items o r.0 u),
      d,
      λ results f. alters-rest t c held inter own items results us z o f r,
    )

    go : (t : Option Transfer) → IsOpen NoAnswer t → (RestsNow NoAnswer t → AllFlat down) → Down setup from (Rest (asking t c held inter own)) down y up → Down setup from (Rest (asking t c held inter (own ++ (items ∷ [])))) (down ++ (Alter items ∷ [])) y up
    go None o flat h = push-flat setup from (Rest (asking None c held inter own)) (Rest (asking None c held inter (own ++ (items ∷ [])))) (Alter items) down y up (flat tt) (enters None o) h
    go (Some t) o flat h = by_progress t.progress o flat h
      where
        by_progress : (p : Progress) → (p ≡ Ending → ⊥) → (p ≡ Suspended → AllFlat down) → Down setup from (Rest (asking (Some (record t { progress = p })) c held inter own)) down y up → Down setup from (Rest (asking (Some (record t { progress = p })) c held inter (own ++ (items ∷ [])))) (down ++ (Alter items ∷ [])) y up
        by_progress Suspended o flat h = push-flat setup from (Rest (asking (Some (record t { progress = Suspended })) c held inter own)) (Rest (asking (Some (record t { progress = Suspended })) c held inter (own ++ (items ∷ [])))) (Alter items) down y up (flat refl) (enters (Some (record t { progress = Suspended })) (λ x. cc)) h
        by_progress Running o flat h = push-in setup from (Rest (asking (Some (record t { progress = Running })) c held inter own)) (Rest (asking (Some (record t { progress = Running })) c held inter (own ++ (items ∷ [])))) (Alter items) down y up (λ us z r. r.0.1) (enters (Some (record t { progress = Running })) (λ x. cc)) h
        by_progress Ending o flat h = absurd (o refl)

pub alters : (setup : ModelSetup) (from : Role) (held inter : ContextSet) (own : List (List Item)) (c : ℕ) (t : Option Transfer) (items : List Item) (lin : Incoming) (y : Follower) (yc : ℕ) (yt : Option Transfer) (down up : List Message) (set mid : ContextSet) (mine theirs : List Saved) → IsOpen NoAnswer t → AreSound from held items → AreDistinct (named (own ++ (items ∷ []))) → RunsValue NoAnswer t (record { held = held; inter = inter; own = own ++ (items ∷ []) }) → Flow setup from (asking t c held inter own) lin y yc yt down up set mid mine theirs → Flow setup from (asking t c held inter (own ++ (items ∷ []))) lin y yc yt (down ++ (Alter items ∷ [])) up set mid mine theirs
alters setup from held inter own c t items lin y yc yt down up set mid mine theirs o s once v n =
    let none = open-no_final setup from (asking t c held inter own) down y up o n.runs in
    let a = at-rest setup from (Rest (asking t c held inter own)) down y up n.runs in
    let part = alters-part t c held inter own items up a.more a.last o a.rests in
    record {
      runs = alters-push setup from t c held inter own items down y up o (once-untouched own items once) s (once-distinct own items once) n.idle n.runs;
      asks = λ e. alters-append down (Alter items ∷ []) ∙ ap (λ xs. xs ++ (items ∷ [])) (n.asks refl) ∙ sym part.0;
      begins = begins-append c (confirmed_of t) down (Alter items ∷ []) n.begins tt;
      waits = waits-append NoAnswer (confirmed_of t) down (Alter items ∷ []) n.waits tt;
      after = none-final (has_final up) _ none;
      idle = λ e. flat-append down (Alter items ∷ []) (n.idle e) (tt, tt);
      pairs = n.pairs;
      acks = n.acks;
      others = n.others;
      rests = n.rests;
      saved = n.saved;
      theirs_saved = n.theirs_saved;
      value = v;
      inters = n.inters;
      sets = n.sets ∙ sym part.1;
    }

-- an abort of the leader, or its release
pub sends_abort : (setup : ModelSetup) (from : Role) (l : Leader) (lin : Incoming) (y : Follower) (yc : ℕ) (yt : Option Transfer) (down up : List Message) (set mid : ContextSet) (mine theirs : List Saved) → Flow setup from l lin y yc yt down up set mid mine theirs → Flow setup from l lin y yc yt (down ++ (UserAbort ∷ [])) up set mid mine theirs
sends_abort setup from l lin y yc yt down up set mid mine theirs n =
    record {
      runs = push-quiet setup from (Rest l) UserAbort down y up tt n.runs;
      asks = λ e. asks-more down UserAbort (unanswered_in up l.sets.own) refl (n.asks e);
      begins = begins-append l.started (confirmed_of l.transfer) down (UserAbort ∷ []) n.begins tt;
      waits = waits-append l.awaits (confirmed_of l.transfer) down (UserAbort ∷ []) n.waits tt;
      after = λ e. quiet-append down (UserAbort ∷ []) (n.after e) (tt, tt);
      idle = λ e. flat-append down (UserAbort ∷ []) (n.idle e) (tt, tt);
      pairs = n.pairs;
      acks = n.acks;
      others = n.others;
      rests = n.rests;
      saved = n.saved;
      theirs_saved = n.theirs_saved;
      value = n.value;
      inters = n.inters;
      sets = n.sets;
    }

pub sends_release : (setup : ModelSetup) (from : Role) (held inter : ContextSet) (c : ℕ) (lin : Incoming) (y : Follower) (yc : ℕ) (yt : Option Transfer) (down up : List Message) (set mid : ContextSet) (mine theirs : List Saved) → from ≡ Initiator → Flow setup from (asking None c held inter []) lin y yc yt down up set mid mine theirs → Flow setup from (asking None c held inter []) lin y yc yt (down ++ (Release ∷ [])) up set mid mine theirs
sends_release setup from held inter c lin y yc yt down up set mid mine theirs i n =
    record {
      runs = push-flat setup from (Rest (asking None c held inter [])) (Rest (asking None c held inter [])) Release down y up (n.idle tt) (λ us z r. (i, r.0.1, r)) n.runs;
      asks = λ e. asks-more down Release (unanswered_in up []) refl (n.asks e);
      begins = begins-append c 0 down (Release ∷ []) n.begins tt;
      waits = waits-append NoAnswer 0 down (Release ∷ []) n.waits tt;
      after = none-final (has_final up) _ (open-no_final setup from (asking None c held inter []) down y up tt n.runs);
      idle = λ e. flat-append down (Release ∷ []) (n.idle e) (tt, tt);
      pairs = n.pairs;
      acks = n.acks;
      others = n.others;
      rests = n.rests;
      saved = n.saved;
      theirs_saved = n.theirs_saved;
      value = n.value;
      inters = n.inters;
      sets = n.sets;
    }
