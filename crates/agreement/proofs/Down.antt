-- Reliable mode: what goes down from the end that leads, as the other end takes it, until all is at rest.
use Rattle.std.proofs.Common.{◌≡◌, suc, ◌≤◌, length, Bool, true, false, List, [], ◌∷◌, ◌++◌, refl, sym, ap, true≢false, subst, append_assoc}
use Rattle.agreement.specs.Sets.{Role, ContextSet, Result, AnswersEach, altered, AreDistinct, identifiers}
use Rattle.agreement.specs.Sets.Role.{Initiator}
use Rattle.agreement.specs.Messages.{ModelSetup, Message}
use Rattle.agreement.specs.Messages.Message.{Alter, AlterAnswer, Mark, MarkAnswer, Start, Resume, Chunk, End, EndAnswer, Interrupt, InterruptAnswer, Discard, DiscardAnswer, GiveAnswer, Please, Release, UserAbort}
use Rattle.agreement.specs.State.{Incoming, highest, joined}
use Rattle.agreement.specs.State.Piece.{Octets, Marked}
use Rattle.agreement.specs.Acts.{resumed_set}
use Rattle.agreement.specs.Takings.{resumed_in, MayResumeAt}
use Rattle.agreement.proofs.Flights.{AreSound, rejections, rejections-fit}

-- the end that follows
pub record Follower : Type 0 where
  pub held : ContextSet
  pub inter : ContextSet
  pub incoming : Incoming
  pub gave : Bool

-- what is aimed at: how the octets of a transfer that ends are to be spelled, and what holds at rest
pub record Goal : Type 1 where
  pub spells : ModelSetup → ContextSet → Incoming → Type 0
  pub rests : List Message → Follower → Type 0

-- messages that ask nothing and answer nothing
abbrev pub IsQuiet : Message → Type 0
IsQuiet (Please priority) = Unit {0}
IsQuiet UserAbort = Unit {0}
IsQuiet message = ⊥

abbrev pub AllQuiet : List Message → Type 0
AllQuiet [] = Unit {0}
AllQuiet (message ∷ messages) = IsQuiet message × AllQuiet messages

-- Whatever the follower decides: it may take each message, and when all is taken, R holds of what
-- then goes up and of the follower.
abbrev pub Down : ModelSetup → Role → Goal → List Message → Follower → List Message → Type 0
Down setup from R [] y up = R.rests up y
Down setup from R (Alter items ∷ down) y up =
    AreSound from y.held items × AreDistinct (identifiers items) ×
    ((results : List Result) → AnswersEach items results → Down setup from R down (record y { held = altered items results y.held }) (up ++ (AlterAnswer results ∷ [])))
Down setup from R (Mark n ∷ down) y up =
    (y.incoming.active ≡ true) × ((n ≡ suc (highest y.incoming.pieces)) × (n ≤ setup.most_marks)) ×
    Down setup from R down (record y { incoming = record y.incoming { pieces = Marked n y.held ∷ y.incoming.pieces } }) (up ++ (MarkAnswer n ∷ []))
Down setup from R (Start k ∷ down) y up =
    (y.incoming.active ≡ false) × (k ≡ suc y.incoming.last) × AllQuiet up ×
    Down setup from R down (record y { incoming = record { last = k; pieces = []; was_handed = false; active = true }; inter = y.held }) up
Down setup from R (Resume k n ∷ down) y up =
    (y.incoming.active ≡ false) × MayResumeAt y.incoming k n × AllQuiet up ×
    Down setup from R down (record y { incoming = resumed_in k n y.incoming; inter = y.held; held = resumed_set n y.incoming.pieces y.held }) up
Down setup from R (Chunk o ∷ down) y up =
    ((y.incoming.active ≡ true) × (length (joined y.incoming.pieces ++ o) ≤ setup.most_transferred)) ×
    Down setup from R down (record y { incoming = record y.incoming { pieces = Octets o ∷ y.incoming.pieces } }) up
Down setup from R (End n ∷ down) y up =
    (y.incoming.active ≡ true) × (n ≡ suc (highest y.incoming.pieces)) × AllQuiet down ×
    R.spells setup y.held y.incoming ×
    Down setup from R down (record y { incoming = record y.incoming { was_handed = true; active = false }; held = y.inter }) (up ++ (EndAnswer n ∷ []))
Down setup from R (Interrupt ∷ down) y up =
    (y.incoming.active ≡ true) × AllQuiet down ×
    Down setup from R down (record y { incoming = record y.incoming { active = false }; held = y.inter }) (up ++ (InterruptAnswer ∷ []))
Down setup from R (Discard ∷ down) y up =
    (y.incoming.active ≡ true) × AllQuiet down ×
    Down setup from R down (record y { incoming = record y.incoming { pieces = []; active = false }; held = y.inter }) (up ++ (DiscardAnswer ∷ []))
Down setup from R (GiveAnswer ∷ down) y up = (y.gave ≡ true) × Down setup from R down (record y { gave = false }) up
Down setup from R (Release ∷ down) y up = (from ≡ Initiator) × (y.incoming.active ≡ false) × Down setup from R down y up
Down setup from R (Please priority ∷ down) y up = Down setup from R down y up
Down setup from R (UserAbort ∷ down) y up = Down setup from R down y up
Down setup from R (message ∷ down) y up = ⊥

-- what stands between activities
abbrev pub IsFlat : Message → Type 0
IsFlat (Alter items) = Unit {0}
IsFlat GiveAnswer = Unit {0}
IsFlat Release = Unit {0}
IsFlat (Please priority) = Unit {0}
IsFlat UserAbort = Unit {0}
IsFlat message = ⊥

abbrev pub AllFlat : List Message → Type 0
AllFlat [] = Unit {0}
AllFlat (message ∷ messages) = IsFlat message × AllFlat messages

-- the leader took the first of what came up
pub down-taken : (setup : ModelSetup) (from : Role) (R Q : Goal) (u : Message) (down : List Message) (y : Follower) (up : List Message) → ((held : ContextSet) (i : Incoming) → R.spells setup held i → Q.spells setup held i) → ((us : List Message) (z : Follower) → R.rests (u ∷ us) z → Q.rests us z) → Down setup from R down y (u ∷ up) → Down setup from Q down y up
down-taken setup from R Q u [] y up g f h = f up y h
down-taken setup from R Q u (Alter items ∷ d) y up g f h = (h.0, h.1, λ results fits. down-taken setup from R Q u d (record y { held = altered items results y.held }) (up ++ (AlterAnswer results ∷ [])) g f (h.2 results fits))
down-taken setup from R Q u (Mark n ∷ d) y up g f h = (h.0, h.1, down-taken setup from R Q u d (record y { incoming = record y.incoming { pieces = Marked n y.held ∷ y.incoming.pieces } }) (up ++ (MarkAnswer n ∷ [])) g f h.2)
down-taken setup from R Q u (Start k ∷ d) y up g f h = (h.0, h.1, h.2.1, down-taken setup from R Q u d (record y { incoming = record { last = k; pieces = []; was_handed = false; active = true }; inter = y.held }) up g f h.3)
down-taken setup from R Q u (Resume k n ∷ d) y up g f h = (h.0, h.1, h.2.1, down-taken setup from R Q u d (record y { incoming = resumed_in k n y.incoming; inter = y.held; held = resumed_set n y.incoming.pieces y.held }) up g f h.3)
down-taken setup from R Q u (Chunk o ∷ d) y up g f h = (h.0, down-taken setup from R Q u d (record y { incoming = record y.incoming { pieces = Octets o ∷ y.incoming.pieces } }) up g f h.1)
down-taken setup from R Q u (End n ∷ d) y up g f h = (h.0, h.1, h.2, g y.held y.incoming h.3, down-taken setup from R Q u d (record y { incoming = record y.incoming { was_handed = true; active = false }; held = y.inter }) (up ++ (EndAnswer n ∷ [])) g f h.4)
down-taken setup from R Q u (Interrupt ∷ d) y up g f h = (h.0, h.1, down-taken setup from R Q u d (record y { incoming = record y.incoming { active = false }; held = y.inter }) (up ++ (InterruptAnswer ∷ [])) g f h.2)
down-taken setup from R Q u (Discard ∷ d) y up g f h = (h.0, h.1, down-taken setup from R Q u d (record y { incoming = record y.incoming { pieces = []; active = false }; held = y.inter }) (up ++ (DiscardAnswer ∷ [])) g f h.2)
down-taken setup from R Q u (GiveAnswer ∷ d) y up g f h = (h.0, down-taken setup from R Q u d (record y { gave = false }) up g f h.1)
down-taken setup from R Q u (Release ∷ d) y up g f h = (h.0, h.1, down-taken setup from R Q u d y up g f h.2)
down-taken setup from R Q u (Please p ∷ d) y up g f h = down-taken setup from R Q u d y up g f h
down-taken setup from R Q u (UserAbort ∷ d) y up g f h = down-taken setup from R Q u d y up g f h
down-taken setup from R Q u (m ∷ d) y up g f h = absurd h

-- the follower sends a plea or an abort of itself
pub down-up : (setup : ModelSetup) (from : Role) (R : Goal) (u : Message) (down : List Message) (y : Follower) (up rest : List Message) → IsQuiet u → ((us vs : List Message) (z : Follower) → R.rests (us ++ vs) z → R.rests (us ++ (u ∷ vs)) z) → Down setup from R down y (up ++ rest) → Down setup from R down y (up ++ (u ∷ rest))
down-up setup from R u [] y up rest q f h = f up rest y h
down-up setup from R u (Alter items ∷ d) y up rest q f h = (
  h.0,
  h.1,
  λ results fits.
      subst (λ us. Down setup from R d (record y { held = altered items results y.held }) us) (sym (append_assoc up (u ∷ rest) (AlterAnswer results ∷ [])))
      (down-up setup from R u d (record y { held = altered items results y.held }) up (rest ++ (AlterAnswer results ∷ [])) q f
      (subst (λ us. Down setup from R d (record y { held = altered items results y.held }) us) (append_assoc up rest (AlterAnswer results ∷ [])) (h.2 results fits))),
)
down-up setup from R u (Mark n ∷ d) y up rest q f h = (
  h.0,
  h.1,
  subst (λ us. Down setup from R d (record y { incoming = record y.incoming { pieces = Marked n y.held ∷ y.incoming.pieces } }) us) (sym (append_assoc up (u ∷ rest) (MarkAnswer n ∷ [])))
      (down-up setup from R u d (record y { incoming = record y.incoming { pieces = Marked n y.held ∷ y.incoming.pieces } }) up (rest ++ (MarkAnswer n ∷ [])) q f
      (subst (λ us. Down setup from R d (record y { incoming = record y.incoming { pieces = Marked n y.held ∷ y.incoming.pieces } }) us) (append_assoc up rest (MarkAnswer n ∷ [])) h.2)),
)
down-up setup from R u (Start k ∷ d) y up rest q f h = (h.0, h.1, quiet-in up rest u q h.2, down-up setup from R u d (record y { incoming = record { last = k; pieces = []; was_handed = false; active = true }; inter = y.held }) up rest q f h.3)
  where
    quiet-in : (us vs : List Message) (m : Message) → IsQuiet m → AllQuiet (us ++ vs) → AllQuiet (us ++ (m ∷ vs))
    quiet-in [] vs m q a = (q, a)
    quiet-in (x ∷ us) vs m q a = (a.0, quiet-in us vs m q a.1)
down-up setup from R u (Resume k n ∷ d) y up rest q f h = (h.0, h.1, quiet-in up rest u q h.2, down-up setup from R u d (record y { incoming = resumed_in k n y.incoming; inter = y.held; held = resumed_set n y.incoming.pieces y.held }) up rest q f h.3)
  where
    quiet-in : (us vs : List Message) (m : Message) → IsQuiet m → AllQuiet (us ++ vs) → AllQuiet (us ++ (m ∷ vs))
    quiet-in [] vs m q a = (q, a)
    quiet-in (x ∷ us) vs m q a = (a.0, quiet-in us vs m q a.1)
down-up setup from R u (Chunk o ∷ d) y up rest q f h = (h.0, down-up setup from R u d (record y { incoming = record y.incoming { pieces = Octets o ∷ y.incoming.pieces } }) up rest q f h.1)
down-up setup from R u (End n ∷ d) y up rest q f h = (
  h.0,
  h.1,
  h.2,
  h.3,
  subst (λ us. Down setup from R d (record y { incoming = record y.incoming { was_handed = true; active = false }; held = y.inter }) us) (sym (append_assoc up (u ∷ rest) (EndAnswer n ∷ [])))
      (down-up setup from R u d (record y { incoming = record y.incoming { was_handed = true; active = false }; held = y.inter }) up (rest ++ (EndAnswer n ∷ [])) q f
      (subst (λ us. Down setup from R d (record y { incoming = record y.incoming { was_handed = true; active = false }; held = y.inter }) us) (append_assoc up rest (EndAnswer n ∷ [])) h.4)),
)
down-up setup from R u (Interrupt ∷ d) y up rest q f h = (
  h.0,
  h.1,
  subst (λ us. Down setup from R d (record y { incoming = record y.incoming { active = false }; held = y.inter }) us) (sym (append_assoc up (u ∷ rest) (InterruptAnswer ∷ [])))
      (down-up setup from R u d (record y { incoming = record y.incoming { active = false }; held = y.inter }) up (rest ++ (InterruptAnswer ∷ [])) q f
      (subst (λ us. Down setup from R d (record y { incoming = record y.incoming { active = false }; held = y.inter }) us) (append_assoc up rest (InterruptAnswer ∷ [])) h.2)),
)
down-up setup from R u (Discard ∷ d) y up rest q f h = (
  h.0,
  h.1,
  subst (λ us. Down setup from R d (record y { incoming = record y.incoming { pieces = []; active = false }; held = y.inter }) us) (sym (append_assoc up (u ∷ rest) (DiscardAnswer ∷ [])))
      (down-up setup from R u d (record y { incoming = record y.incoming { pieces = []; active = false }; held = y.inter }) up (rest ++ (DiscardAnswer ∷ [])) q f
      (subst (λ us. Down setup from R d (record y { incoming = record y.incoming { pieces = []; active = false }; held = y.inter }) us) (append_assoc up rest (DiscardAnswer ∷ [])) h.2)),
)
down-up setup from R u (GiveAnswer ∷ d) y up rest q f h = (h.0, down-up setup from R u d (record y { gave = false }) up rest q f h.1)
down-up setup from R u (Release ∷ d) y up rest q f h = (h.0, h.1, down-up setup from R u d y up rest q f h.2)
down-up setup from R u (Please p ∷ d) y up rest q f h = down-up setup from R u d y up rest q f h
down-up setup from R u (UserAbort ∷ d) y up rest q f h = down-up setup from R u d y up rest q f h
down-up setup from R u (m ∷ d) y up rest q f h = absurd h

-- behind what ends an activity all is quiet, and the follower is at rest
pub down-quiet : (setup : ModelSetup) (from : Role) (R : Goal) (down : List Message) (y : Follower) (up : List Message) → AllQuiet down → Down setup from R down y up → R.rests up y
down-quiet setup from R [] y up q h = h
down-quiet setup from R (Please p ∷ d) y up q h = down-quiet setup from R d y up q.1 h
down-quiet setup from R (UserAbort ∷ d) y up q h = down-quiet setup from R d y up q.1 h
down-quiet setup from R (m ∷ d) y up q h = absurd q.0

pub quiet-down : (setup : ModelSetup) (from : Role) (R : Goal) (down : List Message) (y : Follower) (up : List Message) → AllQuiet down → R.rests up y → Down setup from R down y up
quiet-down setup from R [] y up q h = h
quiet-down setup from R (Please p ∷ d) y up q h = quiet-down setup from R d y up q.1 h
quiet-down setup from R (UserAbort ∷ d) y up q h = quiet-down setup from R d y up q.1 h
quiet-down setup from R (m ∷ d) y up q h = absurd q.0

pub quiet-append : (xs ys : List Message) → AllQuiet xs → AllQuiet ys → AllQuiet (xs ++ ys)
quiet-append [] ys a b = b
quiet-append (x ∷ xs) ys a b = (a.0, quiet-append xs ys a.1 b)

-- a quiet message joins what goes down
pub push-quiet : (setup : ModelSetup) (from : Role) (R : Goal) (m : Message) (down : List Message) (y : Follower) (up : List Message) → IsQuiet m → Down setup from R down y up → Down setup from R (down ++ (m ∷ [])) y up
push-quiet setup from R m [] y up q h = quiet-down setup from R (m ∷ []) y up (q, tt) h
push-quiet setup from R m (Alter items ∷ d) y up q h = (h.0, h.1, λ results fits. push-quiet setup from R m d (record y { held = altered items results y.held }) (up ++ (AlterAnswer results ∷ [])) q (h.2 results fits))
push-quiet setup from R m (Mark n ∷ d) y up q h = (h.0, h.1, push-quiet setup from R m d (record y { incoming = record y.incoming { pieces = Marked n y.held ∷ y.incoming.pieces } }) (up ++ (MarkAnswer n ∷ [])) q h.2)
push-quiet setup from R m (Start k ∷ d) y up q h = (h.0, h.1, h.2, push-quiet setup from R m d (record y { incoming = record { last = k; pieces = []; was_handed = false; active = true }; inter = y.held }) up q h.3)
push-quiet setup from R m (Resume k n ∷ d) y up q h = (h.0, h.1, h.2, push-quiet setup from R m d (record y { incoming = resumed_in k n y.incoming; inter = y.held; held = resumed_set n y.incoming.pieces y.held }) up q h.3)
push-quiet setup from R m (Chunk o ∷ d) y up q h = (h.0, push-quiet setup from R m d (record y { incoming = record y.incoming { pieces = Octets o ∷ y.incoming.pieces } }) up q h.1)
push-quiet setup from R m (End n ∷ d) y up q h = (h.0, h.1, quiet-append d (m ∷ []) h.2 (q, tt), h.3, push-quiet setup from R m d (record y { incoming = record y.incoming { was_handed = true; active = false }; held = y.inter }) (up ++ (EndAnswer n ∷ [])) q h.4)
push-quiet setup from R m (Interrupt ∷ d) y up q h = (h.0, quiet-append d (m ∷ []) h.1 (q, tt), push-quiet setup from R m d (record y { incoming = record y.incoming { active = false }; held = y.inter }) (up ++ (InterruptAnswer ∷ [])) q h.2)
push-quiet setup from R m (Discard ∷ d) y up q h = (h.0, quiet-append d (m ∷ []) h.1 (q, tt), push-quiet setup from R m d (record y { incoming = record y.incoming { pieces = []; active = false }; held = y.inter }) (up ++ (DiscardAnswer ∷ [])) q h.2)
push-quiet setup from R m (GiveAnswer ∷ d) y up q h = (h.0, push-quiet setup from R m d (record y { gave = false }) up q h.1)
push-quiet setup from R m (Release ∷ d) y up q h = (h.0, h.1, push-quiet setup from R m d y up q h.2)
push-quiet setup from R m (Please p ∷ d) y up q h = push-quiet setup from R m d y up q h
push-quiet setup from R m (UserAbort ∷ d) y up q h = push-quiet setup from R m d y up q h
push-quiet setup from R m (x ∷ d) y up q h = absurd h

-- between activities any message joins what goes down
pub push-flat : (setup : ModelSetup) (from : Role) (R Q : Goal) (m : Message) (down : List Message) (y : Follower) (up : List Message) → AllFlat down → ((us : List Message) (z : Follower) → R.rests us z → Down setup from Q (m ∷ []) z us) → Down setup from R down y up → Down setup from Q (down ++ (m ∷ [])) y up
push-flat setup from R Q m [] y up a f h = f up y h
push-flat setup from R Q m (Alter items ∷ d) y up a f h = (h.0, h.1, λ results fits. push-flat setup from R Q m d (record y { held = altered items results y.held }) (up ++ (AlterAnswer results ∷ [])) a.1 f (h.2 results fits))
push-flat setup from R Q m (GiveAnswer ∷ d) y up a f h = (h.0, push-flat setup from R Q m d (record y { gave = false }) up a.1 f h.1)
push-flat setup from R Q m (Release ∷ d) y up a f h = (h.0, h.1, push-flat setup from R Q m d y up a.1 f h.2)
push-flat setup from R Q m (Please p ∷ d) y up a f h = push-flat setup from R Q m d y up a.1 f h
push-flat setup from R Q m (UserAbort ∷ d) y up a f h = push-flat setup from R Q m d y up a.1 f h
push-flat setup from R Q m (x ∷ d) y up a f h = absurd a.0

-- while the activity runs any message joins what goes down
pub push-in : (setup : ModelSetup) (from : Role) (R Q : Goal) (m : Message) (down : List Message) (y : Follower) (up : List Message) → ((us : List Message) (z : Follower) → R.rests us z → z.incoming.active ≡ true) → ((us : List Message) (z : Follower) → R.rests us z → Down setup from Q (m ∷ []) z us) → Down setup from R down y up → Down setup from Q (down ++ (m ∷ [])) y up
push-in setup from R Q m [] y up g f h = f up y h
push-in setup from R Q m (Alter items ∷ d) y up g f h = (h.0, h.1, λ results fits. push-in setup from R Q m d (record y { held = altered items results y.held }) (up ++ (AlterAnswer results ∷ [])) g f (h.2 results fits))
push-in setup from R Q m (Mark n ∷ d) y up g f h = (h.0, h.1, push-in setup from R Q m d (record y { incoming = record y.incoming { pieces = Marked n y.held ∷ y.incoming.pieces } }) (up ++ (MarkAnswer n ∷ [])) g f h.2)
push-in setup from R Q m (Start k ∷ d) y up g f h = (h.0, h.1, h.2, push-in setup from R Q m d (record y { incoming = record { last = k; pieces = []; was_handed = false; active = true }; inter = y.held }) up g f h.3)
push-in setup from R Q m (Resume k n ∷ d) y up g f h = (h.0, h.1, h.2, push-in setup from R Q m d (record y { incoming = resumed_in k n y.incoming; inter = y.held; held = resumed_set n y.incoming.pieces y.held }) up g f h.3)
push-in setup from R Q m (Chunk o ∷ d) y up g f h = (h.0, push-in setup from R Q m d (record y { incoming = record y.incoming { pieces = Octets o ∷ y.incoming.pieces } }) up g f h.1)
push-in setup from R Q m (End n ∷ d) y up g f h = absurd (true≢false (sym (g _ _ (down-quiet setup from R d (record y { incoming = record y.incoming { was_handed = true; active = false }; held = y.inter }) (up ++ (EndAnswer n ∷ [])) h.2 h.4))))
push-in setup from R Q m (Interrupt ∷ d) y up g f h = absurd (true≢false (sym (g _ _ (down-quiet setup from R d (record y { incoming = record y.incoming { active = false }; held = y.inter }) (up ++ (InterruptAnswer ∷ [])) h.1 h.2))))
push-in setup from R Q m (Discard ∷ d) y up g f h = absurd (true≢false (sym (g _ _ (down-quiet setup from R d (record y { incoming = record y.incoming { pieces = []; active = false }; held = y.inter }) (up ++ (DiscardAnswer ∷ [])) h.1 h.2))))
push-in setup from R Q m (GiveAnswer ∷ d) y up g f h = (h.0, push-in setup from R Q m d (record y { gave = false }) up g f h.1)
push-in setup from R Q m (Release ∷ d) y up g f h = (h.0, h.1, push-in setup from R Q m d y up g f h.2)
push-in setup from R Q m (Please p ∷ d) y up g f h = push-in setup from R Q m d y up g f h
push-in setup from R Q m (UserAbort ∷ d) y up g f h = push-in setup from R Q m d y up g f h
push-in setup from R Q m (x ∷ d) y up g f h = absurd h

-- while the activity runs another goal may be aimed at
pub down-in : (setup : ModelSetup) (from : Role) (R Q : Goal) (down : List Message) (y : Follower) (up : List Message) → ((us : List Message) (z : Follower) → R.rests us z → z.incoming.active ≡ true) → ((us : List Message) (z : Follower) → R.rests us z → Q.rests us z) → Down setup from R down y up → Down setup from Q down y up
down-in setup from R Q [] y up g f h = f up y h
down-in setup from R Q (Alter items ∷ d) y up g f h = (h.0, h.1, λ results fits. down-in setup from R Q d (record y { held = altered items results y.held }) (up ++ (AlterAnswer results ∷ [])) g f (h.2 results fits))
down-in setup from R Q (Mark n ∷ d) y up g f h = (h.0, h.1, down-in setup from R Q d (record y { incoming = record y.incoming { pieces = Marked n y.held ∷ y.incoming.pieces } }) (up ++ (MarkAnswer n ∷ [])) g f h.2)
down-in setup from R Q (Start k ∷ d) y up g f h = (h.0, h.1, h.2, down-in setup from R Q d (record y { incoming = record { last = k; pieces = []; was_handed = false; active = true }; inter = y.held }) up g f h.3)
down-in setup from R Q (Resume k n ∷ d) y up g f h = (h.0, h.1, h.2, down-in setup from R Q d (record y { incoming = resumed_in k n y.incoming; inter = y.held; held = resumed_set n y.incoming.pieces y.held }) up g f h.3)
down-in setup from R Q (Chunk o ∷ d) y up g f h = (h.0, down-in setup from R Q d (record y { incoming = record y.incoming { pieces = Octets o ∷ y.incoming.pieces } }) up g f h.1)
down-in setup from R Q (End n ∷ d) y up g f h = absurd (true≢false (sym (g _ _ (down-quiet setup from R d (record y { incoming = record y.incoming { was_handed = true; active = false }; held = y.inter }) (up ++ (EndAnswer n ∷ [])) h.2 h.4))))
down-in setup from R Q (Interrupt ∷ d) y up g f h = absurd (true≢false (sym (g _ _ (down-quiet setup from R d (record y { incoming = record y.incoming { active = false }; held = y.inter }) (up ++ (InterruptAnswer ∷ [])) h.1 h.2))))
down-in setup from R Q (Discard ∷ d) y up g f h = absurd (true≢false (sym (g _ _ (down-quiet setup from R d (record y { incoming = record y.incoming { pieces = []; active = false }; held = y.inter }) (up ++ (DiscardAnswer ∷ [])) h.1 h.2))))
down-in setup from R Q (GiveAnswer ∷ d) y up g f h = (h.0, down-in setup from R Q d (record y { gave = false }) up g f h.1)
down-in setup from R Q (Release ∷ d) y up g f h = (h.0, h.1, down-in setup from R Q d y up g f h.2)
down-in setup from R Q (Please p ∷ d) y up g f h = down-in setup from R Q d y up g f h
down-in setup from R Q (UserAbort ∷ d) y up g f h = down-in setup from R Q d y up g f h
down-in setup from R Q (x ∷ d) y up g f h = absurd h

-- one way to the rest
pub record AtRest (R : Goal) (up : List Message) : Type 0 where
  pub more : List Message
  pub last : Follower
  pub rests : R.rests (up ++ more) last

further : (R : Goal) (up new : List Message) → AtRest R (up ++ new) → AtRest R up
further R up new a = record { more = new ++ a.more; last = a.last; rests = subst (λ us. R.rests us a.last) (append_assoc up new a.more) a.rests }

nil-append_of : (xs : List Message) → xs ++ [] ≡ xs
nil-append_of [] = refl
nil-append_of (x ∷ xs) = ap (λ ys. x ∷ ys) (nil-append_of xs)

pub at-rest : (setup : ModelSetup) (from : Role) (R : Goal) (down : List Message) (y : Follower) (up : List Message) → Down setup from R down y up → AtRest R up
at-rest setup from R [] y up h = record { more = []; last = y; rests = subst (λ us. R.rests us y) (sym (nil-append_of up)) h }
at-rest setup from R (Alter items ∷ d) y up h = further R up (AlterAnswer (rejections items) ∷ []) (at-rest setup from R d (record y { held = altered items (rejections items) y.held }) (up ++ (AlterAnswer (rejections items) ∷ [])) (h.2 (rejections items) (rejections-fit items)))
at-rest setup from R (Mark n ∷ d) y up h = further R up (MarkAnswer n ∷ []) (at-rest setup from R d (record y { incoming = record y.incoming { pieces = Marked n y.held ∷ y.incoming.pieces } }) (up ++ (MarkAnswer n ∷ [])) h.2)
at-rest setup from R (Start k ∷ d) y up h = at-rest setup from R d (record y { incoming = record { last = k; pieces = []; was_handed = false; active = true }; inter = y.held }) up h.3
at-rest setup from R (Resume k n ∷ d) y up h = at-rest setup from R d (record y { incoming = resumed_in k n y.incoming; inter = y.held; held = resumed_set n y.incoming.pieces y.held }) up h.3
at-rest setup from R (Chunk o ∷ d) y up h = at-rest setup from R d (record y { incoming = record y.incoming { pieces = Octets o ∷ y.incoming.pieces } }) up h.1
at-rest setup from R (End n ∷ d) y up h = further R up (EndAnswer n ∷ []) (at-rest setup from R d (record y { incoming = record y.incoming { was_handed = true; active = false }; held = y.inter }) (up ++ (EndAnswer n ∷ [])) h.4)
at-rest setup from R (Interrupt ∷ d) y up h = further R up (InterruptAnswer ∷ []) (at-rest setup from R d (record y { incoming = record y.incoming { active = false }; held = y.inter }) (up ++ (InterruptAnswer ∷ [])) h.2)
at-rest setup from R (Discard ∷ d) y up h = further R up (DiscardAnswer ∷ []) (at-rest setup from R d (record y { incoming = record y.incoming { pieces = []; active = false }; held = y.inter }) (up ++ (DiscardAnswer ∷ [])) h.2)
at-rest setup from R (GiveAnswer ∷ d) y up h = at-rest setup from R d (record y { gave = false }) up h.1
at-rest setup from R (Release ∷ d) y up h = at-rest setup from R d y up h.2
at-rest setup from R (Please p ∷ d) y up h = at-rest setup from R d y up h
at-rest setup from R (UserAbort ∷ d) y up h = at-rest setup from R d y up h
at-rest setup from R (m ∷ d) y up h = absurd h
