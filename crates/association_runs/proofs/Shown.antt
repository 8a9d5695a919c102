-- Each carry shows what the messages show that are taken in it.
use Rattle.std.proofs.Common.{◌≡◌, refl, ◌∙◌, sym, ap, subst, List, [], ◌∷◌, ◌++◌, map, length, append_assoc, Ok, Err}
use Rattle.std.specs.Prelude.{Some}
use Rattle.std.proofs.lemmas.List.{append-nil}
use Rattle.osi_base.specs.declared.layer_words.Side.{Side}
use Rattle.osi_base.specs.declared.layer_words.Side.TheVariants.{A, B}
use Rattle.dialogue.specs.Carries.{first_octets}
use Rattle.dialogue.specs.declared.event.Event.{Event}
use Rattle.dialogue.specs.declared.event.Entry.{Entry}
use Rattle.dialogue.specs.declared.event.Entry.TheVariants as entries
use Rattle.dialogue.specs.declared.call.Call.{Call}
use Rattle.dialogue.specs.declared.indication.Indication.{Indication}
use Rattle.end_model.specs.end_rules.Base.{Base}
use Rattle.end_model.specs.end_rules.Messages.{Message}
use Rattle.end_model.specs.end_rules.State.{Body}
use Rattle.end_model.specs.end_rules.Invoking.{Reply}
use Rattle.end_model.specs.end_rules.Calling.{can_call}
use Rattle.end_model.specs.end_rules.Requesting.{due_of}
use Rattle.end_model.specs.end_rules.ByItself.{OwnAct, SendsNow, EncodesOn}
use Rattle.end_model.specs.end_rules.Reacting.{Takes, react}
use Rattle.end_model.specs.end_rules.History.{Step, sent, fed, took, answered, passed, feed_end, gave, broke, step_of, ByItself, rests, goes, call_steps}
use Rattle.end_model.specs.end_rules.World.{World, Ends, body_at}
use Rattle.agreement.specs.Sets.{Role, other}
use Rattle.agreement.specs.Sets.Role.{Initiator, Responder}
use Rattle.end_model.specs.Sharing.{side_of}
use Rattle.end_model.specs.BothEnds.{Common, Two, base_at}
use Rattle.outcome_laws.specs.reliable_model.Ledgers.{Ledger}
use Rattle.outcome_laws.specs.Exchanges.{Exchanges}
use Rattle.association_line.specs.association_reading.Front.{Intake, first_in}
use Rattle.association_line.specs.association_reading.Reacting.{react_to}
use Rattle.association_worlds.specs.Laws.{IsMeant}
use Rattle.run_laws.specs.Showing.{shown_in, behind_newest, showing_on, showings, shown_to, carries_to, EachCarryShows}
use Rattle.association_line.specs.Line.{End, after, after_all}
use Rattle.association_line.specs.Feeding.{message_in, taking, Reads, is_over, waits, passes, takes, fails, OwnAfter, Makes}
use Rattle.association_runs.specs.Worlds.{stepping, Runs}
use Rattle.association_runs.specs.Worlds as runs
use Rattle.association_runs.specs.Sides.{ends_for}
use Rattle.association_runs.specs.Laws.{AreEvents}
use Rattle.association_runs.proofs.Histories.{end_for, own-end, stepping-append, body-for}
use Rattle.association_runs.proofs.Keeps.{Keeps}
use Rattle.association_runs.proofs.Joined.{Joined, front-is, begun, all-called}
use Rattle.association_runs.proofs.Taken.{took-so, passed-so, next, reaction, meant-message, same-message, never-fails}
use Rattle.association_runs.proofs.Carried.{carried-a, carried-b, broken, fed-so}

-- nothing else is kept
abbrev Nothing : World → Two → Ledger → Exchanges → Type 0
Nothing w two ledger exchanges = Unit {0}

nothing-keeps : (common : Common) → Keeps common Nothing
nothing-keeps common = record {
  begins = tt;
  calls = λ role w two ledger exchanges call answer j c h. tt;
  acts = λ role w two ledger exchanges own j c h. tt;
  takes = λ role w two ledger exchanges message left body answers shown j e r h. tt;
  passes = λ role w two ledger exchanges message left j e r h. tt;
  quiet = λ role w two ledger exchanges x q h. tt;
  breaks = λ w two ledger exchanges j h. tt;
}

behind-nothing : (feeds : List (List Indication)) → behind_newest [] feeds ≡ feeds
behind-nothing [] = refl
behind-nothing (newest ∷ older) = ap (λ (l : List Indication). l ∷ older) (append-nil newest)

behind-both : (first second : List Indication) (feeds : List (List Indication)) → behind_newest second (behind_newest first feeds) ≡ behind_newest (first ++ second) feeds
behind-both first second [] = refl
behind-both first second (newest ∷ older) = ap (λ (l : List Indication). l ∷ older) (append_assoc newest first second)

-- steps that show nothing and bring no octets
abbrev IsMute : Step → Type 0
IsMute (fed octets) = ⊥
IsMute (took message) = ⊥
IsMute _ = Unit {0}

abbrev AreMute : List Step → Type 0
AreMute [] = Unit {0}
AreMute (x ∷ xs) = IsMute x × AreMute xs

sents-mute : (ms : List Message) → AreMute (map sent ms)
sents-mute [] = tt
sents-mute (m ∷ ms) = (tt, sents-mute ms)

answers-mute : (to : Message) (ms : List Message) → AreMute (map (answered to) ms)
answers-mute to [] = tt
answers-mute to (m ∷ ms) = (tt, answers-mute to ms)

act-mute : (own : OwnAct) → IsMute (step_of own)
act-mute (SendsNow message) = tt
act-mute (EncodesOn context) = tt

own-mute : (base : Base) (body : Body) (own : List Step) → ByItself base body own → AreMute own
own-mute base body own (rests e) = tt
own-mute base body own (goes {steps = more} act e next) = (act-mute act, own-mute base _ more next)

mute-append : (xs ys : List Step) → AreMute xs → AreMute ys → AreMute (xs ++ ys)
mute-append [] ys h k = k
mute-append (x ∷ xs) ys h k = (h.0, mute-append xs ys h.1 k)

module _ (common : Common) where
  abbrev ends : Ends
  ends = ends_for common

  mute-on : (base : Base) (body : Body) (x : Step) (feeds : List (List Indication)) → IsMute x → showing_on base body x feeds ≡ feeds
  mute-on base body (fed octets) feeds n = absurd n
  mute-on base body (took message) feeds n = absurd n
  mute-on base body _ feeds n = behind-nothing feeds

  one-showing : (role : Role) (w : World) (x : Step) → showings ends (side_of role) (record { side = side_of role; step = x } ∷ w) ≡ showing_on (base_at role common) (body_at ends (side_of role) w) x (showings ends (side_of role) w)
  one-showing Initiator w x = refl
  one-showing Responder w x = refl

  all-mute : (role : Role) (w : World) (xs : List Step) → AreMute xs → showings ends (side_of role) (stepping (side_of role) w xs) ≡ showings ends (side_of role) w
  all-mute role w [] n = refl
  all-mute role w (x ∷ xs) n =
      all-mute role (record { side = side_of role; step = x } ∷ w) xs n.1 ∙ one-showing role w x ∙ mute-on (base_at role common) (body_at ends (side_of role) w) x (showings ends (side_of role) w) n.0

  peer-same : (role : Role) (w : World) (xs : List Step) → showings ends (side_of (other role)) (stepping (side_of role) w xs) ≡ showings ends (side_of (other role)) w
  peer-same role w [] = refl
  peer-same Initiator w (x ∷ xs) = peer-same Initiator (record { side = A; step = x } ∷ w) xs
  peer-same Responder w (x ∷ xs) = peer-same Responder (record { side = B; step = x } ∷ w) xs

  call-mute : (role : Role) (w : World) (call : Call) (steps : List Step) → Makes (base_at role common) (end_for common role w) call steps → AreMute steps
  call-mute role w call steps x =
      subst AreMute (sym x.all)
      (mute-append (call_steps (base_at role common) (end_for common role w).body call) x.own
      (tt, sents-mute (due_of (base_at role common) (end_for common role w).body call (can_call (base_at role common) (end_for common role w).body call)))
      (go (can_call (base_at role common) (end_for common role w).body call) x.by_itself))
    where
      go : (r : Reply) → OwnAfter (base_at role common) r (after_all (base_at role common) (end_for common role w) (call_steps (base_at role common) (end_for common role w).body call)).body x.own → AreMute x.own
      go (Ok answer) o = own-mute (base_at role common) _ x.own o
      go (Err refusal) o = subst AreMute (sym o) tt

module _ (common : Common) (m : IsMeant common) where
  abbrev ends_of_all : Ends
  ends_of_all = ends_for common

  abbrev Stands : World → Type 0
  Stands w = Joined common Nothing w

  -- what the message shows is what is told
  told-so : (role : Role) (w : World) (intake : Intake) (message : Message) (body : Body) (answers : List Message) (told : List Indication) (s : Stands w) → (end_for common role w).line.came ≡ Some intake
      → message_in (base_at role common) (end_for common role w).body (first_in intake) ≡ Some message → react_to (base_at role common) (end_for common role w).body (first_in intake) ≡ Some (Takes body answers told)
      → shown_in (react (base_at role common) (body_at ends_of_all (side_of role) w) message) ≡ told
  told-so role w intake message body answers told s c i t =
      let j = s.joint in
      let f = next common m Nothing (nothing-keeps common) role w s intake (Takes body answers told) c t in
      let r = reaction common m Nothing (nothing-keeps common) role w s intake (Takes body answers told) f t in
      let same : message ≡ f.message =
      same-message common m Nothing (nothing-keeps common) message f.message
      (sym i ∙ (λ n. message_in (base_at role common) (j.bodies role n) (f.front n)) ∙ meant-message common m Nothing (nothing-keeps common) role s.two s.ledger f.message f.left body answers told j.speaks f.is r) in
      (λ n. shown_in (react (base_at role common) ((body-for common role w ∙ j.bodies role) n) (same n))) ∙ ap shown_in r

  reads-shown : (role : Role) (w : World) (e : End) (steps : List Step) (shown : List Indication) → e ≡ end_for common role w → Reads (base_at role common) e steps shown → Stands w
      → showings ends_of_all (side_of role) (stepping (side_of role) w steps) ≡ behind_newest shown (showings ends_of_all (side_of role) w)
  reads-shown role w e steps shown is (is_over o) s = sym (behind-nothing (showings ends_of_all (side_of role) w))
  reads-shown role w e steps shown is (waits intake u c short) s = sym (behind-nothing (showings ends_of_all (side_of role) w))
  reads-shown role w e steps shown is (passes {steps = more} {shown = later} intake u c t next_reads) s =
      let came : (end_for common role w).line.came ≡ Some intake = ap (λ (x : End). x.line.came) (sym is) ∙ c in
      let r = passed-so common m Nothing (nothing-keeps common) role w intake came (ap (λ (x : End). react_to (base_at role common) x.body (first_in intake)) (sym is) ∙ t) s in
      reads-shown role (stepping (side_of role) w (passed ∷ [])) (after (base_at role common) e passed) more later (ap (λ (x : End). after (base_at role common) x passed) is ∙ sym (own-end common role w (passed ∷ []))) next_reads r
      ∙ ap (behind_newest later) (all-mute common role w (passed ∷ []) (tt, tt))
  reads-shown role w e steps shown is (takes {steps = more} {shown = later} intake message body answers told u c i t next_reads) s =
      let came : (end_for common role w).line.came ≡ Some intake = ap (λ (x : End). x.line.came) (sym is) ∙ c in
      let means = ap (λ (x : End). message_in (base_at role common) x.body (first_in intake)) (sym is) ∙ i in
      let reacts = ap (λ (x : End). react_to (base_at role common) x.body (first_in intake)) (sym is) ∙ t in
      let r = took-so common m Nothing (nothing-keeps common) role w intake message body answers told came means reacts s in
      let there : after_all (base_at role common) e (taking message answers) ≡ end_for common role (stepping (side_of role) w (taking message answers)) =
      ap (λ (x : End). after_all (base_at role common) x (taking message answers)) is ∙ sym (own-end common role w (taking message answers)) in
      let feeds : List (List Indication) = showings ends_of_all (side_of role) w in
      let taken : showings ends_of_all (side_of role) (stepping (side_of role) w (taking message answers)) ≡ behind_newest told feeds =
      all-mute common role (record { side = side_of role; step = took message } ∷ w) (map (answered message) answers) (answers-mute message answers) ∙ one-showing common role w (took message)
      ∙ ap (λ (l : List Indication). behind_newest l feeds) (told-so role w intake message body answers told s came means reacts) in
      ap (showings ends_of_all (side_of role)) (stepping-append (side_of role) w (taking message answers) more)
      ∙ reads-shown role (stepping (side_of role) w (taking message answers)) (after_all (base_at role common) e (taking message answers)) more later there next_reads r
      ∙ ap (behind_newest later) taken ∙ behind-both told later feeds
  reads-shown role w e steps shown is (fails intake fault body aborts told u c t) s =
      absurd (never-fails common m Nothing (nothing-keeps common) role w intake fault body aborts told (ap (λ (x : End). x.line.came) (sym is) ∙ c) (ap (λ (x : End). react_to (base_at role common) x.body (first_in intake)) (sym is) ∙ t) s)

  fed-shown : (role : Role) (w : World) (e : End) (reading own : List Step) (shown : List Indication) → e ≡ end_for common role w → Reads (base_at role common) e reading shown → ByItself (base_at role common) (after_all (base_at role common) e reading).body own → Stands w
      → showings ends_of_all (side_of role) (stepping (side_of role) w (reading ++ feed_end ∷ own)) ≡ behind_newest shown (showings ends_of_all (side_of role) w)
  fed-shown role w e reading own shown is r o s =
      ap (showings ends_of_all (side_of role)) (stepping-append (side_of role) w reading (feed_end ∷ own))
      ∙ all-mute common role (stepping (side_of role) w reading) (feed_end ∷ own) (tt, own-mute (base_at role common) _ own o)
      ∙ reads-shown role w e reading shown is r s

  abbrev Told : World → World → List Entry → Type 0
  Told w v told = (side : Side) → showings ends_of_all side v ≡ carries_to side told ++ showings ends_of_all side w

  -- an entry shows this at one end
  one-told : (side : Side) (w x v : World) (entry : Entry) (told : List Entry) (now : List (List Indication)) → shown_to side entry ≡ now → showings ends_of_all side x ≡ now ++ showings ends_of_all side w
      → showings ends_of_all side v ≡ carries_to side told ++ showings ends_of_all side x → showings ends_of_all side v ≡ carries_to side (entry ∷ told) ++ showings ends_of_all side w
  one-told side w x v entry told now e h t =
      t ∙ ap (λ (l : List (List Indication)). carries_to side told ++ l) (h ∙ ap (λ (l : List (List Indication)). l ++ showings ends_of_all side w) (sym e))
      ∙ sym (append_assoc (carries_to side told) (shown_to side entry) (showings ends_of_all side w))

  both-told : (w x v : World) (entry : Entry) (told : List Entry) (at_a at_b : List (List Indication)) → shown_to A entry ≡ at_a → shown_to B entry ≡ at_b → showings ends_of_all A x ≡ at_a ++ showings ends_of_all A w → showings ends_of_all B x ≡ at_b ++ showings ends_of_all B w → Told x v told → Told w v (entry ∷ told)
  both-told w x v entry told at_a at_b e f h k t A = one-told A w x v entry told at_a e h (t A)
  both-told w x v entry told at_a at_b e f h k t B = one-told B w x v entry told at_b f k (t B)

  runs-shown : (w v : World) (all : List Event) (told : List Entry) → AreEvents all → Runs ends_of_all w all told v → Stands w → Told w v told
  runs-shown w v all told typed runs.rests s = λ side. refl
  runs-shown w v all told typed (runs.calls {more = more} {told = later} A call steps makes next_run) s =
      let x = stepping A w steps in
      both-told w x v (entries.Call A call (can_call (base_at Initiator common) (end_for common Initiator w).body call)) later [] [] refl refl (all-mute common Initiator w steps (call-mute common Initiator w call steps makes)) (peer-same common Initiator w steps)
      (runs-shown x v more later typed.1 next_run (all-called common m Nothing (nothing-keeps common) Initiator w call steps typed.0 makes s))
  runs-shown w v all told typed (runs.calls {more = more} {told = later} B call steps makes next_run) s =
      let x = stepping B w steps in
      both-told w x v (entries.Call B call (can_call (base_at Responder common) (end_for common Responder w).body call)) later [] [] refl refl (peer-same common Responder w steps) (all-mute common Responder w steps (call-mute common Responder w call steps makes))
      (runs-shown x v more later typed.1 next_run (all-called common m Nothing (nothing-keeps common) Responder w call steps typed.0 makes s))
  runs-shown w v all told typed (runs.carries {more = more} {told = later} A most steps shown fd next_run) s =
      let octets = first_octets most (end_for common Initiator w).line.waiting in
      let u : World = record { side = A; step = gave (length octets) } ∷ w in
      let z : World = record { side = B; step = fed octets } ∷ u in
      let y = carried-a common Nothing (nothing-keeps common) w (length octets) octets (front-is most (end_for common Initiator w).line.waiting) s in
      let e = after (base_at Responder common) (end_for common Responder w) (fed octets) in
      let f = fed-so common m Nothing (nothing-keeps common) Responder z e fd.reading fd.own shown refl fd.reads fd.by_itself y in
      let x = stepping B u steps in
      both-told w x v (entries.Carry A most (record { octets = octets; shown = shown })) later [] (shown ∷ []) refl refl
      (peer-same common Responder u steps ∙ all-mute common Initiator w (gave (length octets) ∷ []) (tt, tt))
      (ap (λ (l : List Step). showings ends_of_all B (stepping B u l)) fd.all ∙ fed-shown Responder z e fd.reading fd.own shown refl fd.reads fd.by_itself y)
      (runs-shown x v more later typed.1 next_run (subst (λ (l : List Step). Stands (stepping B u l)) (sym fd.all) f))
  runs-shown w v all told typed (runs.carries {more = more} {told = later} B most steps shown fd next_run) s =
      let octets = first_octets most (end_for common Responder w).line.waiting in
      let u : World = record { side = B; step = gave (length octets) } ∷ w in
      let z : World = record { side = A; step = fed octets } ∷ u in
      let y = carried-b common Nothing (nothing-keeps common) w (length octets) octets (front-is most (end_for common Responder w).line.waiting) s in
      let e = after (base_at Initiator common) (end_for common Initiator w) (fed octets) in
      let f = fed-so common m Nothing (nothing-keeps common) Initiator z e fd.reading fd.own shown refl fd.reads fd.by_itself y in
      let x = stepping A u steps in
      both-told w x v (entries.Carry B most (record { octets = octets; shown = shown })) later (shown ∷ []) [] refl refl
      (ap (λ (l : List Step). showings ends_of_all A (stepping A u l)) fd.all ∙ fed-shown Initiator z e fd.reading fd.own shown refl fd.reads fd.by_itself y)
      (peer-same common Initiator u steps ∙ all-mute common Responder w (gave (length octets) ∷ []) (tt, tt))
      (runs-shown x v more later typed.1 next_run (subst (λ (l : List Step). Stands (stepping A u l)) (sym fd.all) f))
  runs-shown w v all told typed (runs.breaks {more = more} {told = later} next_run) s =
      let x : World = record { side = B; step = broke } ∷ record { side = A; step = broke } ∷ w in
      both-told w x v entries.Break later [] [] refl refl (behind-nothing (showings ends_of_all A w)) (behind-nothing (showings ends_of_all B w))
      (runs-shown x v more later typed.1 next_run (broken common Nothing (nothing-keeps common) w s))

  pub each-carry-shows : (v : World) (all : List Event) (told : List Entry) → AreEvents all → Runs ends_of_all [] all told v → EachCarryShows ends_of_all told v
  each-carry-shows v all told typed r side =
      sym (runs-shown [] v all told typed r (begun common m Nothing (nothing-keeps common)) side ∙ append-nil (carries_to side told))
