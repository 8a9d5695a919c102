-- What a transcript tells of calls and of what was shown is what the moments have of it.
use Rattle.std.proofs.Common.{◌≡◌, refl, ◌∙◌, sym, ap, subst, true, false, ℕ, List, [], ◌∷◌, ◌++◌, map, length, append_assoc, Ok, Err}
use Rattle.std.specs.Prelude.{Bool, if◌then◌else◌}
use Rattle.std.proofs.lemmas.List.{append-nil}
use Rattle.osi_base.specs.declared.layer_words.Side.{Side}
use Rattle.osi_base.specs.declared.layer_words.Side.TheVariants.{A, B}
use Rattle.dialogue.specs.Sides.{other}
use Rattle.dialogue.specs.Carries.{first_octets}
use Rattle.dialogue.specs.declared.call.Call.{Call}
use Rattle.dialogue.specs.declared.event.Event.{Event}
use Rattle.dialogue.specs.declared.event.Entry.{Entry}
use Rattle.dialogue.specs.declared.event.Entry.TheVariants as entries
use Rattle.dialogue.specs.declared.indication.Indication.{Indication}
use Rattle.end_model.specs.end_rules.Base.{Base}
use Rattle.end_model.specs.end_rules.Messages.{Message}
use Rattle.end_model.specs.end_rules.State.{Body}
use Rattle.end_model.specs.end_rules.Invoking.{Reply}
use Rattle.end_model.specs.end_rules.Calling.{can_call}
use Rattle.end_model.specs.end_rules.Requesting.{due_of}
use Rattle.end_model.specs.end_rules.ByItself.{OwnAct, SendsNow, EncodesOn}
use Rattle.end_model.specs.end_rules.History.{Step, called, sent, fed, took, answered, passed, aborted, feed_end, gave, broke, step_of, ByItself, rests, goes, call_steps}
use Rattle.end_model.specs.end_rules.World.{World, Ends, base_at, body_at, is_side}
use Rattle.run_laws.specs.Showing.{shown_at, behind_newest, showing_on, showings, shown_to, carries_to, EachCarryShows, indications_in, indications_at}
use Rattle.run_laws.specs.Outcomes.{called_at, all_called}
use Rattle.association_line.specs.Line.{End, after, after_all}
use Rattle.association_line.specs.Feeding.{taking, Reads, is_over, waits, passes, takes, fails, Feeds, OwnAfter, Makes}
use Rattle.association_runs.specs.Worlds.{end_at, stepping, Runs}
use Rattle.association_runs.specs.Worlds as runs

-- ---- calls

abbrev pub calls_in : {X : Type 0} → (Call → Reply → List X) → Step → List X
calls_in tells (called call reply) = tells call reply
calls_in tells _ = []

-- of one end, the oldest first
abbrev pub calls_at : {X : Type 0} → (Call → Reply → List X) → Side → World → List X
calls_at tells side [] = []
calls_at tells side (m ∷ w) = if is_side side m.side then calls_at tells side w ++ calls_in tells m.step else calls_at tells side w

abbrev pub all_calls : {X : Type 0} → (Call → Reply → List X) → List Step → List X
all_calls tells [] = []
all_calls tells (x ∷ xs) = calls_in tells x ++ all_calls tells xs

module _ {X : Type 0} (tells : Call → Reply → List X) where
  pub own-calls : (side : Side) (w : World) (xs : List Step) → calls_at tells side (stepping side w xs) ≡ calls_at tells side w ++ all_calls tells xs
  own-calls side w [] = sym (append-nil (calls_at tells side w))
  own-calls A w (x ∷ xs) = own-calls A (record { side = A; step = x } ∷ w) xs ∙ append_assoc (calls_at tells A w) (calls_in tells x) (all_calls tells xs)
  own-calls B w (x ∷ xs) = own-calls B (record { side = B; step = x } ∷ w) xs ∙ append_assoc (calls_at tells B w) (calls_in tells x) (all_calls tells xs)

  pub peer-calls : (side : Side) (w : World) (xs : List Step) → calls_at tells (other side) (stepping side w xs) ≡ calls_at tells (other side) w
  peer-calls side w [] = refl
  peer-calls A w (x ∷ xs) = peer-calls A (record { side = A; step = x } ∷ w) xs
  peer-calls B w (x ∷ xs) = peer-calls B (record { side = B; step = x } ∷ w) xs

  calls-append : (xs ys : List Step) → all_calls tells (xs ++ ys) ≡ all_calls tells xs ++ all_calls tells ys
  calls-append [] ys = refl
  calls-append (x ∷ xs) ys = ap (λ (l : List X). calls_in tells x ++ l) (calls-append xs ys) ∙ sym (append_assoc (calls_in tells x) (all_calls tells xs) (all_calls tells ys))

  pub sents-call : (ms : List Message) → all_calls tells (map sent ms) ≡ []
  sents-call [] = refl
  sents-call (m ∷ ms) = sents-call ms

  pub answers-call : (to : Message) (ms : List Message) → all_calls tells (map (answered to) ms) ≡ []
  answers-call to [] = refl
  answers-call to (m ∷ ms) = answers-call to ms

  aborts-call : (ms : List Message) → all_calls tells (map aborted ms) ≡ []
  aborts-call [] = refl
  aborts-call (m ∷ ms) = aborts-call ms

  act-call : (own : OwnAct) (xs : List Step) → all_calls tells (step_of own ∷ xs) ≡ all_calls tells xs
  act-call (SendsNow message) xs = refl
  act-call (EncodesOn context) xs = refl

  own-call : (base : Base) (body : Body) (own : List Step) → ByItself base body own → all_calls tells own ≡ []
  own-call base body own (rests e) = refl
  own-call base body own (goes {steps = more} act e next) = act-call act more ∙ own-call base _ more next

  reads-call : (base : Base) (e : End) (steps : List Step) (shown : List Indication) → Reads base e steps shown → all_calls tells steps ≡ []
  reads-call base e steps shown (is_over u) = refl
  reads-call base e steps shown (waits intake u c short) = refl
  reads-call base e steps shown (passes {steps = more} {shown = later} intake u c t next) = reads-call base (after base e passed) more later next
  reads-call base e steps shown (takes {steps = more} {shown = later} intake message body answers told u c i t next) =
      calls-append (taking message answers) more ∙ ap (λ (l : List X). l ++ all_calls tells more) (answers-call message answers) ∙ reads-call base (after_all base e (taking message answers)) more later next
  reads-call base e steps shown (fails intake f body aborts told u c t) = aborts-call aborts

  feeds-call : (base : Base) (e : End) (octets : List ℕ) (steps : List Step) (shown : List Indication) → Feeds base e octets steps shown → all_calls tells steps ≡ []
  feeds-call base e octets steps shown f =
      ap (all_calls tells) f.all ∙ calls-append f.reading (feed_end ∷ f.own)
      ∙ (λ i. reads-call base (after base e (fed octets)) f.reading shown f.reads i ++ own-call base _ f.own f.by_itself i)

  makes-call : (base : Base) (e : End) (call : Call) (steps : List Step) → Makes base e call steps → all_calls tells steps ≡ tells call (can_call base e.body call)
  makes-call base e call steps x =
      ap (all_calls tells) x.all ∙ calls-append (call_steps base e.body call) x.own
      ∙ (λ i. (tells call (can_call base e.body call) ++ sents-call (due_of base e.body call (can_call base e.body call)) i) ++ go (can_call base e.body call) x.by_itself i)
      ∙ append-nil (tells call (can_call base e.body call) ++ []) ∙ append-nil (tells call (can_call base e.body call))
    where
      go : (r : Reply) → OwnAfter base r (after_all base e (call_steps base e.body call)).body x.own → all_calls tells x.own ≡ []
      go (Ok answer) o = own-call base _ x.own o
      go (Err refusal) o = ap (all_calls tells) o

  abbrev Tells : Side → World → World → List Entry → Type 0
  Tells side w v told = calls_at tells side v ≡ calls_at tells side w ++ all_called tells side told

  -- one entry tells this of an end
  one-entry : (side : Side) (w x v : World) (entry : Entry) (told : List Entry) (now : List X) → called_at tells side entry ≡ now → calls_at tells side x ≡ calls_at tells side w ++ now → Tells side x v told → Tells side w v (entry ∷ told)
  one-entry side w x v entry told now e h t =
      t ∙ ap (λ (l : List X). l ++ all_called tells side told) (h ∙ ap (λ (l : List X). calls_at tells side w ++ l) (sym e))
      ∙ append_assoc (calls_at tells side w) (called_at tells side entry) (all_called tells side told)

  module _ (ends : Ends) where
    pub runs-call : (side : Side) (w v : World) (all : List Event) (told : List Entry) → Runs ends w all told v → Tells side w v told
    runs-call side w v all told runs.rests = sym (append-nil (calls_at tells side w))
    runs-call A w v all told (runs.calls {more = more} {told = later} A call steps makes next) =
        one-entry A w (stepping A w steps) v (entries.Call A call (can_call (base_at ends A) (end_at ends A w).body call)) later (tells call (can_call (base_at ends A) (end_at ends A w).body call)) refl
        (own-calls A w steps ∙ ap (λ (l : List X). calls_at tells A w ++ l) (makes-call (base_at ends A) (end_at ends A w) call steps makes)) (runs-call A (stepping A w steps) v more later next)
    runs-call B w v all told (runs.calls {more = more} {told = later} B call steps makes next) =
        one-entry B w (stepping B w steps) v (entries.Call B call (can_call (base_at ends B) (end_at ends B w).body call)) later (tells call (can_call (base_at ends B) (end_at ends B w).body call)) refl
        (own-calls B w steps ∙ ap (λ (l : List X). calls_at tells B w ++ l) (makes-call (base_at ends B) (end_at ends B w) call steps makes)) (runs-call B (stepping B w steps) v more later next)
    runs-call A w v all told (runs.calls {more = more} {told = later} B call steps makes next) =
        one-entry A w (stepping B w steps) v (entries.Call B call (can_call (base_at ends B) (end_at ends B w).body call)) later [] refl (peer-calls B w steps ∙ sym (append-nil (calls_at tells A w))) (runs-call A (stepping B w steps) v more later next)
    runs-call B w v all told (runs.calls {more = more} {told = later} A call steps makes next) =
        one-entry B w (stepping A w steps) v (entries.Call A call (can_call (base_at ends A) (end_at ends A w).body call)) later [] refl (peer-calls A w steps ∙ sym (append-nil (calls_at tells B w))) (runs-call B (stepping A w steps) v more later next)
    runs-call A w v all told (runs.carries {more = more} {told = later} A most steps shown fd next) =
        let u : World = record { side = A; step = gave (length (first_octets most (end_at ends A w).line.waiting)) } ∷ w in
        one-entry A w (stepping B u steps) v (entries.Carry A most (record { octets = first_octets most (end_at ends A w).line.waiting; shown = shown })) later [] refl (peer-calls B u steps) (runs-call A (stepping B u steps) v more later next)
    runs-call B w v all told (runs.carries {more = more} {told = later} B most steps shown fd next) =
        let u : World = record { side = B; step = gave (length (first_octets most (end_at ends B w).line.waiting)) } ∷ w in
        one-entry B w (stepping A u steps) v (entries.Carry B most (record { octets = first_octets most (end_at ends B w).line.waiting; shown = shown })) later [] refl (peer-calls A u steps) (runs-call B (stepping A u steps) v more later next)
    runs-call B w v all told (runs.carries {more = more} {told = later} A most steps shown fd next) =
        let u : World = record { side = A; step = gave (length (first_octets most (end_at ends A w).line.waiting)) } ∷ w in
        one-entry B w (stepping B u steps) v (entries.Carry A most (record { octets = first_octets most (end_at ends A w).line.waiting; shown = shown })) later [] refl
        (own-calls B u steps ∙ ap (λ (l : List X). calls_at tells B w ++ l) (feeds-call (base_at ends B) (end_at ends B w) (first_octets most (end_at ends A w).line.waiting) steps shown fd)) (runs-call B (stepping B u steps) v more later next)
    runs-call A w v all told (runs.carries {more = more} {told = later} B most steps shown fd next) =
        let u : World = record { side = B; step = gave (length (first_octets most (end_at ends B w).line.waiting)) } ∷ w in
        one-entry A w (stepping A u steps) v (entries.Carry B most (record { octets = first_octets most (end_at ends B w).line.waiting; shown = shown })) later [] refl
        (own-calls A u steps ∙ ap (λ (l : List X). calls_at tells A w ++ l) (feeds-call (base_at ends A) (end_at ends A w) (first_octets most (end_at ends B w).line.waiting) steps shown fd)) (runs-call A (stepping A u steps) v more later next)
    runs-call A w v all told (runs.breaks {more = more} {told = later} next) =
        one-entry A w (record { side = B; step = broke } ∷ record { side = A; step = broke } ∷ w) v entries.Break later [] refl refl (runs-call A (record { side = B; step = broke } ∷ record { side = A; step = broke } ∷ w) v more later next)
    runs-call B w v all told (runs.breaks {more = more} {told = later} next) =
        one-entry B w (record { side = B; step = broke } ∷ record { side = A; step = broke } ∷ w) v entries.Break later [] refl refl (runs-call B (record { side = B; step = broke } ∷ record { side = A; step = broke } ∷ w) v more later next)

    -- what a transcript tells of calls
    pub calls-told : (side : Side) (w : World) (all : List Event) (told : List Entry) → Runs ends [] all told w → calls_at tells side w ≡ all_called tells side told
    calls-told side w all told r = runs-call side [] w all told r

-- ---- what was shown to one end, the oldest first

abbrev pub seen_at : Ends → Side → World → List Indication
seen_at ends side [] = []
seen_at ends side (m ∷ w) = if is_side side m.side then seen_at ends side w ++ shown_at (base_at ends side) (body_at ends side w) m.step else seen_at ends side w

-- all of what was shown at each time that octets came
abbrev joined : List (List Indication) → List Indication
joined [] = []
joined (newest ∷ older) = joined older ++ newest

joined-append : (xs ys : List (List Indication)) → joined (xs ++ ys) ≡ joined ys ++ joined xs
joined-append [] ys = sym (append-nil (joined ys))
joined-append (x ∷ xs) ys = ap (λ (l : List Indication). l ++ x) (joined-append xs ys) ∙ append_assoc (joined ys) (joined xs) x

joined-shown : (side : Side) (entry : Entry) → joined (shown_to side entry) ≡ indications_in side entry
joined-shown side (entries.Call from call answer) = refl
joined-shown side entries.Break = refl
joined-shown side (entries.Carry from most carried) = go (is_side side (other from))
  where
    go : (b : Bool) → joined (if b then carried.shown ∷ [] else []) ≡ (if b then carried.shown else [])
    go true = refl
    go false = refl

joined-carries : (side : Side) (told : List Entry) → joined (carries_to side told) ≡ indications_at side told
joined-carries side [] = refl
joined-carries side (e ∷ es) = joined-append (carries_to side es) (shown_to side e) ∙ (λ i. joined-shown side e i ++ joined-carries side es i)

-- the showings of an end are what it was shown, and octets came before it was shown anything
abbrev HasSome : List (List Indication) → Type 0
HasSome [] = ⊥
HasSome (newest ∷ older) = Unit {0}

-- a step that takes nothing
abbrev pub TakesNone : Step → Type 0
TakesNone (took message) = ⊥
TakesNone _ = Unit {0}

abbrev pub TakeNone : List Step → Type 0
TakeNone [] = Unit {0}
TakeNone (x ∷ xs) = TakesNone x × TakeNone xs

none-append : (xs ys : List Step) → TakeNone xs → TakeNone ys → TakeNone (xs ++ ys)
none-append [] ys h k = k
none-append (x ∷ xs) ys h k = (h.0, none-append xs ys h.1 k)

pub sents-none : (ms : List Message) → TakeNone (map sent ms)
sents-none [] = tt
sents-none (m ∷ ms) = (tt, sents-none ms)

pub answers-none : (to : Message) (ms : List Message) → TakeNone (map (answered to) ms)
answers-none to [] = tt
answers-none to (m ∷ ms) = (tt, answers-none to ms)

act-none : (own : OwnAct) → TakesNone (step_of own)
act-none (SendsNow message) = tt
act-none (EncodesOn context) = tt

own-none : (base : Base) (body : Body) (own : List Step) → ByItself base body own → TakeNone own
own-none base body own (rests e) = tt
own-none base body own (goes {steps = more} act e next) = (act-none act, own-none base _ more next)

makes-none : (base : Base) (e : End) (call : Call) (steps : List Step) → Makes base e call steps → TakeNone steps
makes-none base e call steps x = subst TakeNone (sym x.all) (none-append (call_steps base e.body call) x.own (tt, sents-none (due_of base e.body call (can_call base e.body call))) (go (can_call base e.body call) x.by_itself))
  where
    go : (r : Reply) → OwnAfter base r (after_all base e (call_steps base e.body call)).body x.own → TakeNone x.own
    go (Ok answer) o = own-none base _ x.own o
    go (Err refusal) o = subst TakeNone (sym o) tt

none-shown : (base : Base) (body : Body) (x : Step) → TakesNone x → shown_at base body x ≡ []
none-shown base body (took message) n = absurd n
none-shown base body _ n = refl

behind-joined : (shown : List Indication) (feeds : List (List Indication)) → HasSome feeds → joined (behind_newest shown feeds) ≡ joined feeds ++ shown
behind-joined shown [] h = absurd h
behind-joined shown (newest ∷ older) h = sym (append_assoc (joined older) newest shown)

behind-some : (shown : List Indication) (feeds : List (List Indication)) → HasSome feeds → HasSome (behind_newest shown feeds)
behind-some shown [] h = absurd h
behind-some shown (newest ∷ older) h = tt

on-some : (base : Base) (body : Body) (x : Step) (feeds : List (List Indication)) → HasSome feeds → HasSome (showing_on base body x feeds) × (joined (showing_on base body x feeds) ≡ joined feeds ++ shown_at base body x)
on-some base body (fed octets) feeds h = (tt, refl)
on-some base body x feeds h = (behind-some (shown_at base body x) feeds h, behind-joined (shown_at base body x) feeds h)

behind-nothing : (feeds : List (List Indication)) → joined (behind_newest [] feeds) ≡ joined feeds
behind-nothing [] = refl
behind-nothing (newest ∷ older) = ap (λ (l : List Indication). joined older ++ l) (append-nil newest)

on-none : (base : Base) (body : Body) (x : Step) (feeds : List (List Indication)) → TakesNone x → joined (showing_on base body x feeds) ≡ joined feeds ++ shown_at base body x
on-none base body (took message) feeds n = absurd n
on-none base body (fed octets) feeds n = refl
on-none base body _ feeds n = behind-nothing feeds ∙ sym (append-nil (joined feeds))

module _ (ends : Ends) where
  step-same : (side : Side) (w : World) (x : Step) → TakesNone x → seen_at ends side (record { side = side; step = x } ∷ w) ≡ seen_at ends side w
  step-same A w x n = ap (λ (l : List Indication). seen_at ends A w ++ l) (none-shown (base_at ends A) (body_at ends A w) x n) ∙ append-nil (seen_at ends A w)
  step-same B w x n = ap (λ (l : List Indication). seen_at ends B w ++ l) (none-shown (base_at ends B) (body_at ends B w) x n) ∙ append-nil (seen_at ends B w)

  -- steps that take nothing show nothing
  pub own-same : (side : Side) (w : World) (xs : List Step) → TakeNone xs → seen_at ends side (stepping side w xs) ≡ seen_at ends side w
  own-same side w [] n = refl
  own-same side w (x ∷ xs) n = own-same side (record { side = side; step = x } ∷ w) xs n.1 ∙ step-same side w x n.0

  pub peer-same : (side : Side) (w : World) (xs : List Step) → seen_at ends (other side) (stepping side w xs) ≡ seen_at ends (other side) w
  peer-same side w [] = refl
  peer-same A w (x ∷ xs) = peer-same A (record { side = A; step = x } ∷ w) xs
  peer-same B w (x ∷ xs) = peer-same B (record { side = B; step = x } ∷ w) xs

  abbrev IsSeen : Side → World → Type 0
  IsSeen side w = joined (showings ends side w) ≡ seen_at ends side w

  one-none : (side : Side) (w : World) (x : Step) → TakesNone x → IsSeen side w → IsSeen side (record { side = side; step = x } ∷ w)
  one-none A w x n h = on-none (base_at ends A) (body_at ends A w) x (showings ends A w) n ∙ ap (λ (l : List Indication). l ++ shown_at (base_at ends A) (body_at ends A w) x) h
  one-none B w x n h = on-none (base_at ends B) (body_at ends B w) x (showings ends B w) n ∙ ap (λ (l : List Indication). l ++ shown_at (base_at ends B) (body_at ends B w) x) h

  all-none : (side : Side) (w : World) (xs : List Step) → TakeNone xs → IsSeen side w → IsSeen side (stepping side w xs)
  all-none side w [] n h = h
  all-none side w (x ∷ xs) n h = all-none side (record { side = side; step = x } ∷ w) xs n.1 (one-none side w x n.0 h)

  one-some : (side : Side) (w : World) (x : Step) → HasSome (showings ends side w) → IsSeen side w → HasSome (showings ends side (record { side = side; step = x } ∷ w)) × IsSeen side (record { side = side; step = x } ∷ w)
  one-some A w x s h = let o = on-some (base_at ends A) (body_at ends A w) x (showings ends A w) s in (o.0, o.1 ∙ ap (λ (l : List Indication). l ++ shown_at (base_at ends A) (body_at ends A w) x) h)
  one-some B w x s h = let o = on-some (base_at ends B) (body_at ends B w) x (showings ends B w) s in (o.0, o.1 ∙ ap (λ (l : List Indication). l ++ shown_at (base_at ends B) (body_at ends B w) x) h)

  all-some : (side : Side) (w : World) (xs : List Step) → HasSome (showings ends side w) → IsSeen side w → IsSeen side (stepping side w xs)
  all-some side w [] s h = h
  all-some side w (x ∷ xs) s h = let o = one-some side w x s h in all-some side (record { side = side; step = x } ∷ w) xs o.0 o.1

  fed-some : (side : Side) (w : World) (octets : List ℕ) → HasSome (showings ends side (record { side = side; step = fed octets } ∷ w))
  fed-some A w octets = tt
  fed-some B w octets = tt

  feeds-seen : (base : Base) (e : End) (side : Side) (w : World) (octets : List ℕ) (steps : List Step) (shown : List Indication) → Feeds base e octets steps shown → IsSeen side w → IsSeen side (stepping side w steps)
  feeds-seen base e side w octets steps shown f h =
      subst (λ (xs : List Step). IsSeen side (stepping side w xs)) (sym f.all)
      (all-some side (record { side = side; step = fed octets } ∷ w) (f.reading ++ feed_end ∷ f.own) (fed-some side w octets) (one-none side w (fed octets) tt h))

  peer-seen : (side : Side) (w : World) (xs : List Step) → IsSeen (other side) w → IsSeen (other side) (stepping side w xs)
  peer-seen side w [] h = h
  peer-seen A w (x ∷ xs) h = peer-seen A (record { side = A; step = x } ∷ w) xs h
  peer-seen B w (x ∷ xs) h = peer-seen B (record { side = B; step = x } ∷ w) xs h

  abbrev BothSeen : World → Type 0
  BothSeen w = IsSeen A w × IsSeen B w

  runs-seen : (w v : World) (all : List Event) (told : List Entry) → Runs ends w all told v → BothSeen w → BothSeen v
  runs-seen w v all told runs.rests h = h
  runs-seen w v all told (runs.calls {more = more} {told = later} A call steps makes next) h =
      runs-seen (stepping A w steps) v more later next (all-none A w steps (makes-none (base_at ends A) (end_at ends A w) call steps makes) h.0, peer-seen A w steps h.1)
  runs-seen w v all told (runs.calls {more = more} {told = later} B call steps makes next) h =
      runs-seen (stepping B w steps) v more later next (peer-seen B w steps h.0, all-none B w steps (makes-none (base_at ends B) (end_at ends B w) call steps makes) h.1)
  runs-seen w v all told (runs.carries {more = more} {told = later} A most steps shown fd next) h =
      let octets = first_octets most (end_at ends A w).line.waiting in
      let u : World = record { side = A; step = gave (length octets) } ∷ w in
      runs-seen (stepping B u steps) v more later next (peer-seen B u steps (one-none A w (gave (length octets)) tt h.0), feeds-seen (base_at ends B) (end_at ends B w) B u octets steps shown fd h.1)
  runs-seen w v all told (runs.carries {more = more} {told = later} B most steps shown fd next) h =
      let octets = first_octets most (end_at ends B w).line.waiting in
      let u : World = record { side = B; step = gave (length octets) } ∷ w in
      runs-seen (stepping A u steps) v more later next (feeds-seen (base_at ends A) (end_at ends A w) A u octets steps shown fd h.0, peer-seen A u steps (one-none B w (gave (length octets)) tt h.1))
  runs-seen w v all told (runs.breaks {more = more} {told = later} next) h =
      runs-seen (record { side = B; step = broke } ∷ record { side = A; step = broke } ∷ w) v more later next (one-none A w broke tt h.0, one-none B (record { side = A; step = broke } ∷ w) broke tt h.1)

  -- what a transcript tells of what was shown
  pub seen-told : (w : World) (all : List Event) (told : List Entry) → Runs ends [] all told w → EachCarryShows ends told w → (side : Side) → indications_at side told ≡ seen_at ends side w
  seen-told w all told r shows A = sym (joined-carries A told) ∙ ap joined (shows A) ∙ (runs-seen [] w all told r (refl, refl)).0
  seen-told w all told r shows B = sym (joined-carries B told) ∙ ap joined (shows B) ∙ (runs-seen [] w all told r (refl, refl)).1
