-- Reliable mode: each message that the end that follows takes, and what it sends of itself.
use Rattle.std.proofs.Common.{◌≡◌, ℕ, suc, ◌≤◌, Bool, true, false, List, [], ◌∷◌, ◌++◌, refl, sym, ap, ◌∙◌, arith, true≢false, subst, inl, inr, ◌⊎◌}
use Rattle.std.specs.Prelude.{Option, Some, None}
use Rattle.agreement.specs.Sets.{Role, ContextSet, Item, Result, AnswersEach, altered, Saved}
use Rattle.agreement.specs.Messages.{ModelSetup, Message}
use Rattle.agreement.specs.Messages.Message.{Alter, AlterAnswer, Mark, MarkAnswer, Start, Resume, Chunk, End, EndAnswer, Interrupt, InterruptAnswer, Discard, DiscardAnswer, GiveAnswer, Please, UserAbort}
use Rattle.agreement.specs.State.{Awaited, Progress, Transfer, Incoming, Sets, up_to, highest}
use Rattle.agreement.specs.State.Awaited.{NoAnswer, RestartOf, InterruptOf, DiscardOf, ReleaseOf}
use Rattle.agreement.specs.State.Piece.{Octets, Marked}
use Rattle.agreement.specs.State.Progress.{Running, Ending, Suspended}
use Rattle.agreement.specs.Acts.{confirmed_of, resumed_set}
use Rattle.agreement.specs.Takings.{altered_first, later, resumed_in, MayResumeAt}
use Rattle.agreement.proofs.Pieces.{Agrees, Numbered, agrees-zero, agrees-part, up_to-idem, highest-up_to}
use Rattle.agreement.proofs.Down.{Follower, IsQuiet, Down, down-up}
use Rattle.agreement.proofs.Flow.{Leader, Doing, Ups, Purges, PairedIn, Rest, RestOf, RestBy, RestIn, Acks, pieces_of_transfer, has_final, unanswered_in, held_after, SharedBy, SavedIn, Flow, unanswered-append, acks-append, quiet-acks}
use Rattle.agreement.proofs.Flow.Doing.{Resting, Going, Closing}
use Rattle.agreement.proofs.Leads.{resumed-same, resumed-next}
use Rattle.agreement.proofs.Follows.{final-more, after-more, shared-more, after-answer, after-mark, after-end, unanswered-mark, unanswered-end, IsPart, active-part, more-octets, more-mark, acks-more_octets, acks-more_mark, acks-flags, paired-map}

numbered-of : (setup : ModelSetup) (t : Option Transfer) (marks : List Saved) → SavedIn setup t marks → Numbered (pieces_of_transfer t)
numbered-of setup None marks s = tt
numbered-of setup (Some t) marks s = s.0

-- an alteration
pub follows_alter : (setup : ModelSetup) (from : Role) (l : Leader) (lin : Incoming) (y : Follower) (yc : ℕ) (yt : Option Transfer) (items : List Item) (results : List Result) (down up : List Message) (set mid : ContextSet) (mine theirs : List Saved) → AnswersEach items results → Flow setup from l lin y yc yt (Alter items ∷ down) up set mid mine theirs → Flow setup from l lin (record y { held = altered items results y.held }) yc yt down (up ++ (AlterAnswer results ∷ [])) (altered items results set) mid mine theirs
follows_alter setup from l lin y yc yt items results down up set mid mine theirs f n =
    record {
      runs = n.runs.2 results f;
      asks = λ e. ap later (n.asks e) ∙ sym (unanswered-append up (AlterAnswer results ∷ []) l.sets.own);
      begins = n.begins;
      waits = n.waits;
      after = after-more up (AlterAnswer results) (Alter items) down refl (λ x. x) n.after;
      idle = λ e. (n.idle e).1;
      pairs = n.pairs;
      acks = λ e. acks-append l.started (pieces_of_transfer l.transfer) y.incoming up (AlterAnswer results ∷ []) (n.acks e) tt;
      others = n.others;
      rests = n.rests;
      saved = n.saved;
      theirs_saved = n.theirs_saved;
      value = n.value;
      inters = n.inters;
      sets =
          shared-more l.awaits l.sets up set (altered items results set) (AlterAnswer results) (Alter items) down refl (λ x. x) n.after
          (λ e s. ap (altered items results) s ∙ ap (λ own. altered_first own results (held_after l.sets.own l.sets.held l.sets.inter up)) (n.asks e) ∙ sym (after-answer l.sets.own l.sets.held l.sets.inter up results))
          n.sets;
    }

-- a mark
pub follows_mark : (setup : ModelSetup) (from : Role) (l : Leader) (lin : Incoming) (y : Follower) (yc : ℕ) (yt : Option Transfer) (number : ℕ) (down up : List Message) (set mid : ContextSet) (mine theirs : List Saved) → Flow setup from l lin y yc yt (Mark number ∷ down) up set mid mine theirs → Flow setup from l lin (record y { incoming = record y.incoming { pieces = Marked number y.held ∷ y.incoming.pieces } }) yc yt down (up ++ (MarkAnswer number ∷ [])) set mid mine theirs
follows_mark setup from l lin y yc yt number down up set mid mine theirs n =
    let z : Follower = record y { incoming = record y.incoming { pieces = Marked number y.held ∷ y.incoming.pieces } } in
    record {
      runs = n.runs.2;
      asks = λ e. n.asks e ∙ sym (unanswered-mark up number l.sets.own);
      begins = n.begins;
      waits = n.waits;
      after = after-more up (MarkAnswer number) (Mark number) down refl (λ x. x) n.after;
      idle = λ e. absurd (n.idle e).0;
      pairs = paired-map l.transfer l.started y.incoming z.incoming refl (λ k p a. more-mark k number y.held p y.incoming.pieces n.runs.1.0 a) n.pairs;
      acks =
          λ e. acks-append l.started (pieces_of_transfer l.transfer) z.incoming up (MarkAnswer number ∷ [])
          (acks-more_mark l.started number y.held (pieces_of_transfer l.transfer) y.incoming up n.runs.1.0 (n.acks e))
          (new z (active-part setup from l (confirmed_of l.transfer) down z (up ++ (MarkAnswer number ∷ [])) e n.waits n.runs.0 n.runs.2) self);
      others = n.others;
      rests = n.rests;
      saved = n.saved;
      theirs_saved = n.theirs_saved;
      value = n.value;
      inters = n.inters;
      sets =
          shared-more l.awaits l.sets up set set (MarkAnswer number) (Mark number) down refl (λ x. x) n.after
          (λ e s. s ∙ sym (after-mark l.sets.own l.sets.held l.sets.inter up number)) n.sets;
    }
  where
    self : number ≤ number
    self = omega arith

    new : (z : Follower) → IsPart l z → number ≤ highest z.incoming.pieces → Acks l.started (pieces_of_transfer l.transfer) z.incoming (MarkAnswer number ∷ [])
    new z i b = (i.last, agrees-part number i.rest z.incoming.pieces (pieces_of_transfer l.transfer) i.same (numbered-of setup l.transfer mine n.saved) b, tt)

-- the start of an activity
pub follows_start : (setup : ModelSetup) (from : Role) (l : Leader) (lin : Incoming) (y : Follower) (yc : ℕ) (yt : Option Transfer) (k : ℕ) (down up : List Message) (set mid : ContextSet) (mine theirs : List Saved) → Flow setup from l lin y yc yt (Start k ∷ down) up set mid mine theirs → Flow setup from l lin (record y { incoming = record { last = k; pieces = []; was_handed = false; active = true }; inter = y.held }) yc yt down up set mid mine theirs
follows_start setup from l lin y yc yt k down up set mid mine theirs n =
    record {
      runs = n.runs.3;
      asks = n.asks;
      begins = n.begins.1;
      waits = n.waits;
      after = λ e. absurd (n.after e).0;
      idle = λ e. absurd (n.idle e).0;
      pairs = pair l.transfer n.pairs;
      acks = λ e. quiet-acks l.started (pieces_of_transfer l.transfer) (record { last = k; pieces = []; was_handed = false; active = true }) up n.runs.2;
      others = n.others;
      rests = n.rests;
      saved = n.saved;
      theirs_saved = n.theirs_saved;
      value = n.value;
      inters = n.inters;
      sets = n.sets;
    }
  where
    clash : (a c j : ℕ) → a ≡ c → j ≡ suc a → j ≡ c → ⊥
    clash a c j e f g = omega arith

    pair : (t : Option Transfer) → PairedIn t l.started y.incoming → PairedIn t l.started (record { last = k; pieces = []; was_handed = false; active = true })
    pair None h = absurd (clash y.incoming.last l.started k h n.runs.1 n.begins.0)
    pair (Some t) (inl h) = absurd (clash y.incoming.last l.started k h.0 n.runs.1 n.begins.0)
    pair (Some t) (inr h) = inl (n.begins.0, subst (λ i. Agrees i t.pieces []) (sym h.1) (agrees-zero t.pieces []))

-- its resumption
pub follows_resume : (setup : ModelSetup) (from : Role) (l : Leader) (lin : Incoming) (y : Follower) (yc : ℕ) (yt : Option Transfer) (k j : ℕ) (down up : List Message) (set mid : ContextSet) (mine theirs : List Saved) → Flow setup from l lin y yc yt (Resume k j ∷ down) up set mid mine theirs → Flow setup from l lin (record y { incoming = resumed_in k j y.incoming; inter = y.held; held = resumed_set j y.incoming.pieces y.held }) yc yt down up set mid mine theirs
follows_resume setup from l lin y yc yt k j down up set mid mine theirs n =
    record {
      runs = n.runs.3;
      asks = n.asks;
      begins = n.begins.2;
      waits = n.waits;
      after = λ e. absurd (n.after e).0;
      idle = λ e. absurd (n.idle e).0;
      pairs = pair l.transfer n.saved n.begins.1 n.pairs n.runs.1;
      acks = λ e. quiet-acks l.started (pieces_of_transfer l.transfer) (resumed_in k j y.incoming) up n.runs.2;
      others = n.others;
      rests = n.rests;
      saved = n.saved;
      theirs_saved = n.theirs_saved;
      value = n.value;
      inters = n.inters;
      sets = n.sets;
    }
  where
    c : ℕ
    c = l.started

    i : Incoming
    i = y.incoming

    clash : (a b d : ℕ) → a ≡ b → d ≡ suc a → d ≡ b → ⊥
    clash a b d e f g = omega arith

    clash' : (a b d : ℕ) → suc a ≡ b → d ≡ a → d ≡ b → ⊥
    clash' a b d e f g = omega arith

    is-same : i.last ≡ c → resumed_in k j i ≡ record i { pieces = up_to j i.pieces; active = true }
    is-same e = ap (λ x. resumed_in x j i) n.begins.0 ∙ resumed-same c j i e

    agrees : (t : Transfer) → Numbered t.pieces → (j ≡ t.confirmed) ⊎ (t.confirmed ≡ 0) → Agrees t.confirmed t.pieces i.pieces → Agrees t.confirmed t.pieces (up_to j i.pieces)
    agrees t d (inr z) a = subst (λ x. Agrees x t.pieces (up_to j i.pieces)) (sym z) (agrees-zero t.pieces (up_to j i.pieces))
    agrees t d (inl e) a =
        let cut : up_to t.confirmed t.pieces ≡ up_to j i.pieces = a.same ∙ ap (λ x. up_to x i.pieces) (sym e) in
        let top : highest (up_to j i.pieces) ≡ t.confirmed = ap highest (sym cut) ∙ highest-up_to t.confirmed t.pieces d a.in_first in
        record {
          in_first = a.in_first;
          in_second = subst (λ x. t.confirmed ≤ x) (sym top) (self t.confirmed);
          same = sym (up_to-idem t.confirmed t.pieces) ∙ ap (up_to t.confirmed) cut;
        }
      where
        self : (x : ℕ) → x ≤ x
        self x = omega arith

    pair : (t : Option Transfer) → SavedIn setup t mine → (j ≡ confirmed_of t) ⊎ (confirmed_of t ≡ 0) → PairedIn t c i → MayResumeAt i k j → PairedIn t c (resumed_in k j i)
    pair None s b h m = subst (λ (x : Incoming). x.last ≡ c) (sym (is-same h)) h
    pair (Some t) s b (inl h) m = subst (λ x. PairedIn (Some t) c x) (sym (is-same h.0)) (inl (h.0, agrees t s.0 b h.1))
    pair (Some t) s b (inr h) (inl m) = absurd (clash' i.last c k h.0 m.0 n.begins.0)
    pair (Some t) s b (inr h) (inr m) =
        let is : resumed_in k j i ≡ record { last = c; pieces = []; was_handed = false; active = true } = ap (λ x. resumed_in x j i) n.begins.0 ∙ ap (λ x. resumed_in c x i) m.1 ∙ resumed-next c i h.0 in
        subst (λ x. PairedIn (Some t) c x) (sym is) (inl (refl, subst (λ x. Agrees x t.pieces []) (sym h.1) (agrees-zero t.pieces [])))

-- a part of it
pub follows_chunk : (setup : ModelSetup) (from : Role) (l : Leader) (lin : Incoming) (y : Follower) (yc : ℕ) (yt : Option Transfer) (o : List ℕ) (down up : List Message) (set mid : ContextSet) (mine theirs : List Saved) → Flow setup from l lin y yc yt (Chunk o ∷ down) up set mid mine theirs → Flow setup from l lin (record y { incoming = record y.incoming { pieces = Octets o ∷ y.incoming.pieces } }) yc yt down up set mid mine theirs
follows_chunk setup from l lin y yc yt o down up set mid mine theirs n =
    record {
      runs = n.runs.1;
      asks = n.asks;
      begins = n.begins;
      waits = n.waits;
      after = λ e. absurd (n.after e).0;
      idle = λ e. absurd (n.idle e).0;
      pairs = paired-map l.transfer l.started y.incoming (record y.incoming { pieces = Octets o ∷ y.incoming.pieces }) refl (λ k p a. more-octets k p y.incoming.pieces o a) n.pairs;
      acks = λ e. acks-more_octets l.started (pieces_of_transfer l.transfer) o y.incoming up (n.acks e);
      others = n.others;
      rests = n.rests;
      saved = n.saved;
      theirs_saved = n.theirs_saved;
      value = n.value;
      inters = n.inters;
      sets = n.sets;
    }

-- its end
final-shared : (w : Awaited) (sets : Sets) (up : List Message) (number : ℕ) (mid : ContextSet) → mid ≡ sets.inter → SharedBy w sets (up ++ (EndAnswer number ∷ [])) mid
final-shared NoAnswer sets up number mid e = e ∙ sym (after-end sets.own sets.held sets.inter up number)
final-shared (RestartOf k) sets up number mid e = λ f. e
final-shared InterruptOf sets up number mid e = λ f. e
final-shared DiscardOf sets up number mid e = λ f. e
final-shared ReleaseOf sets up number mid e = λ f. e

pub follows_end : (setup : ModelSetup) (from : Role) (l : Leader) (lin : Incoming) (y : Follower) (yc : ℕ) (yt : Option Transfer) (number : ℕ) (down up : List Message) (set mid : ContextSet) (mine theirs : List Saved) → Flow setup from l lin y yc yt (End number ∷ down) up set mid mine theirs → Flow setup from l lin (record y { incoming = record y.incoming { was_handed = true; active = false }; held = y.inter }) yc yt down (up ++ (EndAnswer number ∷ [])) mid mid mine theirs
follows_end setup from l lin y yc yt number down up set mid mine theirs n =
    let z : Incoming = record y.incoming { was_handed = true; active = false } in
    record {
      runs = n.runs.4;
      asks = λ e. n.asks e ∙ sym (unanswered-end up number l.sets.own);
      begins = n.begins;
      waits = n.waits;
      after = λ e. n.runs.2;
      idle = λ e. absurd (n.idle e).0;
      pairs = paired-map l.transfer l.started y.incoming z refl (λ k p a. a) n.pairs;
      acks = λ e. acks-append l.started (pieces_of_transfer l.transfer) z up (EndAnswer number ∷ []) (acks-flags l.started (pieces_of_transfer l.transfer) y.incoming z up refl refl (n.acks e)) tt;
      others = n.others;
      rests = n.rests;
      saved = n.saved;
      theirs_saved = n.theirs_saved;
      value = n.value;
      inters = n.inters;
      sets = final-shared l.awaits l.sets up number mid n.inters;
    }

-- an interrupt, a discard
pub follows_interrupt : (setup : ModelSetup) (from : Role) (l : Leader) (lin : Incoming) (y : Follower) (yc : ℕ) (yt : Option Transfer) (down up : List Message) (set mid : ContextSet) (mine theirs : List Saved) → Flow setup from l lin y yc yt (Interrupt ∷ down) up set mid mine theirs → Flow setup from l lin (record y { incoming = record y.incoming { active = false }; held = y.inter }) yc yt down (up ++ (InterruptAnswer ∷ [])) mid mid mine theirs
follows_interrupt setup from l lin y yc yt down up set mid mine theirs n =
    record {
      runs = n.runs.2;
      asks = λ e. absurd (let w = n.waits.0 in cc);
      begins = n.begins;
      waits = n.waits.1;
      after = λ e. n.runs.1;
      idle = λ e. absurd (n.idle e).0;
      pairs = paired-map l.transfer l.started y.incoming (record y.incoming { active = false }) refl (λ k p a. a) n.pairs;
      acks = λ e. absurd (let w = n.waits.0 in cc);
      others = n.others;
      rests = n.rests;
      saved = n.saved;
      theirs_saved = n.theirs_saved;
      value = n.value;
      inters = n.inters;
      sets = subst (λ w. SharedBy w l.sets (up ++ (InterruptAnswer ∷ [])) mid) (sym n.waits.0) (λ e. n.inters);
    }

pub follows_discard : (setup : ModelSetup) (from : Role) (l : Leader) (lin : Incoming) (y : Follower) (yc : ℕ) (yt : Option Transfer) (down up : List Message) (set mid : ContextSet) (mine theirs : List Saved) → Flow setup from l lin y yc yt (Discard ∷ down) up set mid mine theirs → Flow setup from l lin (record y { incoming = record y.incoming { pieces = []; active = false }; held = y.inter }) yc yt down (up ++ (DiscardAnswer ∷ [])) mid mid mine theirs
follows_discard setup from l lin y yc yt down up set mid mine theirs n =
    record {
      runs = n.runs.2;
      asks = λ e. absurd (let w = n.waits.0 in cc);
      begins = n.begins;
      waits = n.waits.2;
      after = λ e. n.runs.1;
      idle = λ e. absurd (n.idle e).0;
      pairs = pair l.transfer n.waits.1 n.pairs;
      acks = λ e. absurd (let w = n.waits.0 in cc);
      others = n.others;
      rests = n.rests;
      saved = n.saved;
      theirs_saved = n.theirs_saved;
      value = n.value;
      inters = n.inters;
      sets = subst (λ w. SharedBy w l.sets (up ++ (DiscardAnswer ∷ [])) mid) (sym n.waits.0) (λ e. n.inters);
    }
  where
    pair : (t : Option Transfer) → confirmed_of t ≡ 0 → PairedIn t l.started y.incoming → PairedIn t l.started (record y.incoming { pieces = []; active = false })
    pair None e h = h
    pair (Some t) e (inl h) = inl (h.0, subst (λ x. Agrees x t.pieces []) (sym e) (agrees-zero t.pieces []))
    pair (Some t) e (inr h) = inr h

-- a confirmed giving, a plea
pub follows_give_answer : (setup : ModelSetup) (from : Role) (l : Leader) (lin : Incoming) (y : Follower) (yc : ℕ) (yt : Option Transfer) (down up : List Message) (set mid : ContextSet) (mine theirs : List Saved) → Flow setup from l lin y yc yt (GiveAnswer ∷ down) up set mid mine theirs → Flow setup from l lin (record y { gave = false }) yc yt down up set mid mine theirs
follows_give_answer setup from l lin y yc yt down up set mid mine theirs n =
    record {
      runs = n.runs.1;
      asks = n.asks;
      begins = n.begins;
      waits = n.waits;
      after = λ e. absurd (n.after e).0;
      idle = λ e. (n.idle e).1;
      pairs = n.pairs;
      acks = n.acks;
      others = n.others;
      rests = n.rests;
      saved = n.saved;
      theirs_saved = n.theirs_saved;
      value = n.value;
      inters = n.inters;
      sets = n.sets;
    }

pub follows_please : (setup : ModelSetup) (from : Role) (l : Leader) (lin : Incoming) (y : Follower) (yc : ℕ) (yt : Option Transfer) (p : ℕ) (down up : List Message) (set mid : ContextSet) (mine theirs : List Saved) → Flow setup from l lin y yc yt (Please p ∷ down) up set mid mine theirs → Flow setup from l lin y yc yt down up set mid mine theirs
follows_please setup from l lin y yc yt p down up set mid mine theirs n =
    record {
      runs = n.runs;
      asks = n.asks;
      begins = n.begins;
      waits = n.waits;
      after = λ e. (n.after e).1;
      idle = λ e. (n.idle e).1;
      pairs = n.pairs;
      acks = n.acks;
      others = n.others;
      rests = n.rests;
      saved = n.saved;
      theirs_saved = n.theirs_saved;
      value = n.value;
      inters = n.inters;
      sets = n.sets;
    }

-- the follower pleads or aborts of itself
ups-insert : (stage : Doing) (k h : ℕ) (own : List (List Item)) (held inter : ContextSet) (u : Message) (us vs : List Message) (there : ContextSet) → IsQuiet u → Ups stage k h own held inter (us ++ vs) there → Ups stage k h own held inter (us ++ (u ∷ vs)) there
ups-insert stage k h own held inter (Please p) [] vs there q r = r
ups-insert stage k h own held inter UserAbort [] vs there q r = r
ups-insert stage k h own held inter u [] vs there q r = absurd q
ups-insert stage k h own held inter u (Please p ∷ us) vs there q r = ups-insert stage k h own held inter u us vs there q r
ups-insert stage k h own held inter u (UserAbort ∷ us) vs there q r = ups-insert stage k h own held inter u us vs there q r
ups-insert stage k h own held inter u (AlterAnswer rs ∷ us) vs there q r = (r.0, ups-insert stage k h (later own) (altered_first own rs held) inter u us vs there q r.1)
ups-insert stage k h own held inter u (MarkAnswer m ∷ us) vs there q r = (r.0, r.1, r.2, ups-insert stage (suc k) h own held inter u us vs there q r.3)
ups-insert stage k h own held inter u (EndAnswer m ∷ us) vs there q r = (r.0, r.1, r.2, ups-insert Resting 0 0 [] inter inter u us vs there q r.3)
ups-insert stage k h own held inter u (m ∷ us) vs there q r = absurd r

purges-insert : (d : Bool) (inter : ContextSet) (u : Message) (us vs : List Message) (there : ContextSet) → IsQuiet u → Purges d inter (us ++ vs) there → Purges d inter (us ++ (u ∷ vs)) there
purges-insert d inter (Please p) [] vs there q r = r
purges-insert d inter UserAbort [] vs there q r = r
purges-insert d inter u [] vs there q r = absurd q
purges-insert d inter u (InterruptAnswer ∷ us) vs there q r = (r.0, ups-insert Resting 0 0 [] inter inter u us vs there q r.1)
purges-insert d inter u (DiscardAnswer ∷ us) vs there q r = (r.0, ups-insert Resting 0 0 [] inter inter u us vs there q r.1)
purges-insert d inter u (AlterAnswer rs ∷ us) vs there q r = purges-insert d inter u us vs there q r
purges-insert d inter u (MarkAnswer m ∷ us) vs there q r = purges-insert d inter u us vs there q r
purges-insert d inter u (Please p ∷ us) vs there q r = purges-insert d inter u us vs there q r
purges-insert d inter u (UserAbort ∷ us) vs there q r = purges-insert d inter u us vs there q r
purges-insert d inter u (m ∷ us) vs there q r = absurd r

rest-insert : (l : Leader) (u : Message) (us vs : List Message) (z : Follower) → IsQuiet u → RestOf l (us ++ vs) z → RestOf l (us ++ (u ∷ vs)) z
rest-insert l u us vs z q r = (by_await l.awaits l.transfer r.0, r.1, r.2)
  where
    by_progress : (p : Progress) (t : Transfer) → RestIn p t l (us ++ vs) z → RestIn p t l (us ++ (u ∷ vs)) z
    by_progress Suspended t h = (ups-insert Resting 0 0 l.sets.own l.sets.held l.sets.inter u us vs z.held q h.0, h.1, h.2)
    by_progress Running t h = (ups-insert Going t.confirmed (highest t.pieces) l.sets.own l.sets.held l.sets.inter u us vs z.held q h.0, h.1, h.2, h.3)
    by_progress Ending t h = (ups-insert Closing t.confirmed (highest t.pieces) l.sets.own l.sets.held l.sets.inter u us vs z.held q h.0, h.1, h.2, h.3)

    by_await : (w : Awaited) (t : Option Transfer) → RestBy w t l (us ++ vs) z → RestBy w t l (us ++ (u ∷ vs)) z
    by_await NoAnswer None h = (ups-insert Resting 0 0 l.sets.own l.sets.held l.sets.inter u us vs z.held q h.0, h.1, h.2)
    by_await NoAnswer (Some t) h = by_progress t.progress t h
    by_await InterruptOf (Some t) h = (purges-insert false l.sets.inter u us vs z.held q h.0, h.1, h.2, h.3)
    by_await DiscardOf (Some t) h = (purges-insert true l.sets.inter u us vs z.held q h.0, h.1, h.2)
    by_await InterruptOf None h = absurd h
    by_await DiscardOf None h = absurd h
    by_await (RestartOf n) t h = absurd h
    by_await ReleaseOf t h = absurd h

quiet-final : (u : Message) → IsQuiet u → has_final (u ∷ []) ≡ false
quiet-final (Please p) q = refl
quiet-final UserAbort q = refl
quiet-final u q = absurd q

quiet-unanswered : (u : Message) (own : List (List Item)) → IsQuiet u → unanswered_in (u ∷ []) own ≡ own
quiet-unanswered (Please p) own q = refl
quiet-unanswered UserAbort own q = refl
quiet-unanswered u own q = absurd q

held-quiet : (u : Message) (own : List (List Item)) (held inter : ContextSet) (up : List Message) → IsQuiet u → held_after own held inter (up ++ (u ∷ [])) ≡ held_after own held inter up
held-quiet (Please p) own held inter [] q = refl
held-quiet UserAbort own held inter [] q = refl
held-quiet u own held inter [] q = absurd q
held-quiet u own held inter (AlterAnswer r ∷ up) q = held-quiet u (later own) (altered_first own r held) inter up q
held-quiet u own held inter (EndAnswer m ∷ up) q = held-quiet u own inter inter up q
held-quiet u own held inter (m ∷ up) q = held-quiet u own held inter up q

shared-quiet : (w : Awaited) (sets : Sets) (u : Message) (up : List Message) (set : ContextSet) → IsQuiet u → SharedBy w sets up set → SharedBy w sets (up ++ (u ∷ [])) set
shared-quiet NoAnswer sets u up set q s = s ∙ sym (held-quiet u sets.own sets.held sets.inter up q)
shared-quiet (RestartOf n) sets u up set q s = λ e. s (was (final-more up (u ∷ []) e))
  where
    was : (has_final up ≡ true) ⊎ (has_final (u ∷ []) ≡ true) → has_final up ≡ true
    was (inl k) = k
    was (inr k) = absurd (true≢false (sym k ∙ quiet-final u q))
shared-quiet InterruptOf sets u up set q s = λ e. s (was (final-more up (u ∷ []) e))
  where
    was : (has_final up ≡ true) ⊎ (has_final (u ∷ []) ≡ true) → has_final up ≡ true
    was (inl k) = k
    was (inr k) = absurd (true≢false (sym k ∙ quiet-final u q))
shared-quiet DiscardOf sets u up set q s = λ e. s (was (final-more up (u ∷ []) e))
  where
    was : (has_final up ≡ true) ⊎ (has_final (u ∷ []) ≡ true) → has_final up ≡ true
    was (inl k) = k
    was (inr k) = absurd (true≢false (sym k ∙ quiet-final u q))
shared-quiet ReleaseOf sets u up set q s = λ e. s (was (final-more up (u ∷ []) e))
  where
    was : (has_final up ≡ true) ⊎ (has_final (u ∷ []) ≡ true) → has_final up ≡ true
    was (inl k) = k
    was (inr k) = absurd (true≢false (sym k ∙ quiet-final u q))

pub follower_sends : (setup : ModelSetup) (from : Role) (l : Leader) (lin : Incoming) (y : Follower) (yc : ℕ) (yt : Option Transfer) (u : Message) (down up : List Message) (set mid : ContextSet) (mine theirs : List Saved) → IsQuiet u → Flow setup from l lin y yc yt down up set mid mine theirs → Flow setup from l lin y yc yt down (up ++ (u ∷ [])) set mid mine theirs
follower_sends setup from l lin y yc yt u down up set mid mine theirs q n =
    record {
      runs = down-up setup from (Rest l) u down y up [] q (λ us vs z r. rest-insert l u us vs z q r) (subst (λ us. Down setup from (Rest l) down y us) (sym (nil up)) n.runs);
      asks = λ e. n.asks e ∙ sym (unanswered-append up (u ∷ []) l.sets.own ∙ quiet-unanswered u (unanswered_in up l.sets.own) q);
      begins = n.begins;
      waits = n.waits;
      after = λ e. n.after (was (final-more up (u ∷ []) e));
      idle = n.idle;
      pairs = n.pairs;
      acks = λ e. acks-append l.started (pieces_of_transfer l.transfer) y.incoming up (u ∷ []) (n.acks e) (quiet-acks l.started (pieces_of_transfer l.transfer) y.incoming (u ∷ []) (q, tt));
      others = n.others;
      rests = n.rests;
      saved = n.saved;
      theirs_saved = n.theirs_saved;
      value = n.value;
      inters = n.inters;
      sets = shared-quiet l.awaits l.sets u up set q n.sets;
    }
  where
    nil : (xs : List Message) → xs ++ [] ≡ xs
    nil [] = refl
    nil (x ∷ xs) = ap (λ ys. x ∷ ys) (nil xs)

    was : (has_final up ≡ true) ⊎ (has_final (u ∷ []) ≡ true) → has_final up ≡ true
    was (inl k) = k
    was (inr k) = absurd (true≢false (sym k ∙ quiet-final u q))
