-- Two ends of reliable mode, from the first transport connection to the end of the association, with breaks and recoveries, and
-- the run that goes with them.
use Rattle.std.proofs.Common.{◌≡◌, refl, true, false, ◌∙◌, sym, ap, subst, List, [], ◌∷◌, ◌++◌, ◌⊎◌, inl, inr}
use Rattle.std.specs.Prelude.{ℤ, Option, Some, Ok, if◌then◌else◌}
use Rattle.osi_base.specs.declared.layer_words.Proposal.{Proposal}
use Rattle.stub_tables.specs.declared.tables.Tables.{Tables}
use Rattle.end_model.specs.dialogue.declared.config.Config.{Config}
use Rattle.end_model.specs.dialogue.declared.config.Mode.TheVariants.{Reliable}
use Rattle.end_model.specs.dialogue.declared.config.Phase.{Phase}
use Rattle.end_model.specs.dialogue.declared.config.Phase.TheVariants.{Idle, Opening, Up, Broken, Over}
use Rattle.end_model.specs.dialogue.declared.call.Call.{Call}
use Rattle.end_model.specs.dialogue.declared.call.Call.TheVariants as the_calls
use Rattle.end_model.specs.dialogue.declared.indication.Indication.{Indication}
use Rattle.end_model.specs.end_rules.Base.{Base, Spellings, Fault}
use Rattle.end_model.specs.end_rules.Messages.{Message, Transport, Session, Word, OfAssociation, Abort}
use Rattle.end_model.specs.end_rules.State.{Body, Stage, Unused, Asked, Joined, Carrying, Transfer, Suspended, NoAnswer, is_carrying}
use Rattle.end_model.specs.end_rules.State.{passes_over, on_transfer, in_phase}
use Rattle.end_model.specs.end_rules.Writing.{user_abort}
use Rattle.end_model.specs.end_rules.Faults.{over}
use Rattle.end_model.specs.end_rules.Calling.{can_call, is_phase_for}
use Rattle.end_model.specs.end_rules.Requesting.{due_of}
use Rattle.end_model.specs.end_rules.ByItself.{OwnAct, next_own}
use Rattle.end_model.specs.end_rules.Reacting.{Passes, Takes, Fails, react, react_alive}
use Rattle.end_model.specs.end_rules.History.{after_broke, after_step, broken_phase, step_of}
use Rattle.agreement.specs.Sets.{Role, is_initiator}
use Rattle.agreement.specs.Sets.Role.{Initiator, Responder}
use Rattle.agreement.specs.Messages as model
use Rattle.agreement.specs.Messages.Act.{Withdraws, TransportFails as model_fails}
use Rattle.agreement.specs.State.Phase.{Over as model_over}
use Rattle.agreement.specs.Acts.{MayWithdrawIn}
use Rattle.agreement.specs.Worlds.{World}
use Rattle.agreement.specs.Worlds.Step.{Acts, Passes as model_passes}
use Rattle.agreement.specs.Worlds.Moment.{By, Break}
use Rattle.end_model.specs.Seen.{Free, role_seen, phase_seen, seen}
use Rattle.end_model.specs.Acting.{ActsAs}
use Rattle.end_model.specs.Requests.{sent_all, after_called}
use Rattle.end_model.specs.BothEnds.{Common, Two, two_new, body_at, coming_to, stepped, both_broke}
use Rattle.end_model.specs.Steps.{BreaksSo}
use Rattle.end_model.proofs.Ladder.{called}
use Rattle.end_model.proofs.Requests.{opens-unseen, recovers-unseen}
use Rattle.end_model.proofs.Connecting.{withdraw-phase}
use Rattle.end_model.proofs.Machine.{append-nil, passes-kept}
use Rattle.end_model.proofs.DirectOpening.{At}
use Rattle.reliable_model.specs.Codecs.{Carries}
use Rattle.reliable_model.specs.Ledgers.{Ledger, first_ledger, transfer_log_of, own_messages, after_sending, after_own, after_taking}
use Rattle.reliable_model.specs.OwnRows.{EncodesInPlace}
use Rattle.reliable_model.specs.ReliableEnds.{reliable_common, IsFit}
use Rattle.reliable_model.proofs.Transferring.{kept-current, with-progress}
use Rattle.reliable_model.proofs.Ledgers as ledgers
use Rattle.reliable_model.proofs.Words.{AreOwn, own-append, Live, Side, Stands, IsOver}
use Rattle.reliable_model.proofs.Taking as taking
use Rattle.reliable_model.proofs.Taking.{Passed, Took}
use Rattle.reliable_model.proofs.Calling as calling
use Rattle.reliable_model.proofs.Opening as opening
use Rattle.reliable_model.proofs.Opening.{Way, First, Again, rests, asks, joins, Accepts, Refuses}
use Rattle.reliable_model.proofs.Phases as phases
use Rattle.reliable_model.proofs.Phases.{only-open, only-recover, only-abort, over-calls, aborted-over, OnlyAborts, aborts-own, own-up, AsModel, BeforeCn}
use Rattle.reliable_model.proofs.Phases.{EndsOver, EndsBroken, rests-still, asked-outcome, carrying-outcome, joined-outcome, refused-outcome, over-outcome}
use Rattle.reliable_model.proofs.Phases.{side-outcome, rests-breaks, over-breaks}

module _ (free : Free) (tables : Tables) (spellings : Spellings) (a b : Config) where
  abbrev pub common : Common
  common = reliable_common tables spellings a b

  abbrev pub base : Role → Base
  base = taking.base free tables spellings a b

  abbrev proposed : List Proposal
  proposed = taking.proposed free tables spellings a b

  abbrev setup : model.ModelSetup
  setup = taking.setup free tables spellings a b

  abbrev pub AreJoint : World → Role → Body → List Message → Body → List Message → Ledger → Type 0
  AreJoint = taking.AreJoint free tables spellings a b

  abbrev pub Good : Role → Body → Type 0
  Good = opening.Good free tables spellings a b

  abbrev pub cr : Message
  cr = opening.cr free tables spellings a b

  abbrev pub cn : Way → Message
  cn = opening.cn free tables spellings a b

  abbrev pub confirm : Message
  confirm = Transport (opening.confirm free tables spellings a b)

  -- what an initiator leaves to do, whose responder is over
  pub data Deafened (way : Way) (x : Body) (f : List Message) : Type 0 where
    DeafRest : At (rests way) Unused x → f ≡ [] → Deafened way x f
    DeafAsked : At (asks way) Asked x → (f ≡ []) ⊎ (f ≡ confirm ∷ []) → Deafened way x f
    DeafCarrying : At (asks way) Carrying x → f ≡ [] → Deafened way x f

  -- what a responder waits for, whose initiator is over
  pub data Left (y : Body) (g : List Message) : Type 0 where
    LeftIdle : (way : Way) → At (rests way) Unused y → (g ≡ []) ⊎ (g ≡ cr ∷ []) → Left y g
    LeftJoined : (way : Way) → At (joins way) Joined y → (g ≡ []) ⊎ ((rest : List Message) × (g ≡ cn way ∷ rest) × OnlyAborts rest) → Left y g
    LeftBroken : At Broken Carrying y → OnlyAborts g → Left y g

  -- the initiator x, the responder y, what comes to x, what comes to y
  pub data Opened (x y : Body) (f g : List Message) : Type 0 where
    Resting : (way : Way) → At (rests way) Unused x → At (rests way) Unused y → f ≡ [] → g ≡ [] → Opened x y f g
    Calling : (way : Way) → At (asks way) Asked x → At (rests way) Unused y → f ≡ [] → g ≡ cr ∷ [] → Opened x y f g
    Confirming : (way : Way) → At (asks way) Asked x → At (joins way) Joined y → f ≡ confirm ∷ [] → g ≡ [] → Opened x y f g
    Connecting : (way : Way) → At (asks way) Carrying x → At (joins way) Joined y → f ≡ [] → g ≡ cn way ∷ [] → Opened x y f g
    Accepting : (way : Way) → At (asks way) Carrying x → (word : Word) → opening.IsAccept free tables spellings a b word → (rest : List Message) → f ≡ Session word ∷ rest → AreOwn rest → Side y g → Opened x y f g
    Refusing : (way : Way) → At (asks way) Carrying x → (y.link.phase ≡ Over) ⊎ (At Broken Carrying y × (g ≡ [])) → (word : Word) → opening.IsRefusal free tables spellings a b word → f ≡ Session word ∷ [] → Opened x y f g
    Deaf : (way : Way) → y.link.phase ≡ Over → Deafened way x f → Opened x y f g
    Gone : x.link.phase ≡ Over → Left y g → Opened x y f g
    Standing : Side x f → Side y g → Opened x y f g

  -- what two ends have reached: a run of the model, and how far the association is
  pub record Kept (two : Two) (ledger : Ledger) : Type 0 where
    pub world : World
    pub joint : AreJoint world Initiator two.a two.to_a two.b two.to_b ledger
    pub good_a : Good Initiator two.a
    pub good_b : Good Responder two.b
    pub opened : Opened two.a two.b two.to_a two.to_b

  -- what is presumed
  pub record Presumed : Type 0 where
    pub fit : IsFit common
    pub carries : Carries free (base Initiator)

  flip : {world : World} {x y : Body} {f g : List Message} {ledger : Ledger} → AreJoint world Initiator x f y g ledger → AreJoint world Responder y g x f ledger
  flip j = ledgers.flip free tables spellings a b j

  -- of the end of a role, with what is left, what it sent, and the ledger then
  keep-a : (two : Two) (world : World) (later : Body) (left sent : List Message) (new : Ledger) → AreJoint world Initiator later left two.b (two.to_b ++ sent) new → Good Initiator later → Good Responder two.b → Opened later two.b left (two.to_b ++ sent) → Kept (stepped Initiator later left sent two) new
  keep-a two world later left sent new joint good_a good_b opened = record { world = world; joint = joint; good_a = good_a; good_b = good_b; opened = opened }

  keep-b : (two : Two) (world : World) (later : Body) (left sent : List Message) (new : Ledger) → AreJoint world Responder later left two.a (two.to_a ++ sent) new → Good Responder later → Good Initiator two.a → Opened two.a later (two.to_a ++ sent) left → Kept (stepped Responder later left sent two) new
  keep-b two world later left sent new joint good_b good_a opened = record { world = world; joint = ledgers.flop free tables spellings a b joint; good_a = good_a; good_b = good_b; opened = opened }

  pub coming-a : (two : Two) (ledger : Ledger) (k : Kept two ledger) (ms : List Message) → two.to_a ≡ ms → AreJoint k.world Initiator two.a ms two.b two.to_b ledger
  coming-a two ledger k ms e = subst (λ f. AreJoint k.world Initiator two.a f two.b two.to_b ledger) e k.joint

  pub coming-b : (two : Two) (ledger : Ledger) (k : Kept two ledger) (ms : List Message) → two.to_b ≡ ms → AreJoint k.world Responder two.b ms two.a two.to_a ledger
  coming-b two ledger k ms e = subst (λ g. AreJoint k.world Responder two.b g two.a two.to_a ledger) e (flip k.joint)

  -- more on its way to an end
  side-more : (body : Body) (coming sent : List Message) → AreOwn sent → Side body coming → Side body (coming ++ sent)
  side-more body coming sent own (Stands live o) = Stands live (own-append coming sent o own)
  side-more body coming sent own (IsOver e) = IsOver e

  side-of : (body : Body) (coming : List Message) → AreOwn coming → Live body ⊎ (body.link.phase ≡ Over) → Side body coming
  side-of body coming own (inl live) = Stands live own
  side-of body coming own (inr e) = IsOver e

  side-none : (body : Body) (coming : List Message) → Side body coming → Side body (coming ++ [])
  side-none body coming s = subst (Side body) (sym (append-nil coming)) s

  left-none : (y : Body) (g : List Message) → Left y g → Left y (g ++ [])
  left-none y g l = subst (Left y) (sym (append-nil g)) l

  -- nothing is sent
  sends-none : {world : World} {role : Role} {body peer : Body} {coming : List Message} {ledger : Ledger} (to_peer : List Message) → AreJoint world role body coming peer to_peer ledger → AreJoint world role body coming peer (to_peer ++ []) ledger
  sends-none {world} {role} {body} {peer} {coming} {ledger} to_peer j = subst (λ g. AreJoint world role body coming peer g ledger) (sym (append-nil to_peer)) j

  -- ---- what becomes of the message that comes next

  pub data Handles (two : Two) (ledger : Ledger) (role : Role) (message : Message) (left : List Message) : Type 0 where
    Passing : react (base role) (body_at role two) message ≡ Passes → Kept (stepped role (body_at role two) left [] two) ledger → Handles two ledger role message left
    Taking : (later : Body) (answers : List Message) (shown : List Indication) → react (base role) (body_at role two) message ≡ Takes later answers shown
        → Kept (stepped role later left answers two) (after_taking common role (body_at role two) message answers ledger) → Handles two ledger role message left

  abbrev HandlesNext : Two → Ledger → Role → List Message → Type 0
  HandlesNext two ledger role [] = Unit {0}
  HandlesNext two ledger role (message ∷ left) = Handles two ledger role message left

  pub over-passes : (role : Role) (body : Body) (message : Message) → body.link.phase ≡ Over → react (base role) body message ≡ Passes
  over-passes role body message e = ap (λ p. if passes_over p then Passes else react_alive (base role) body message) e

  seen-over : (role : Role) (body : Body) → body.link.phase ≡ Over → (seen (base role) body).phase ≡ model_over
  seen-over role body e = ap (phase_seen body.link.stage) e

  pass : (world : World) (role : Role) (body : Body) (message : Message) (left : List Message) (peer : Body) (to_peer : List Message) (ledger : Ledger) → AreJoint world role body (message ∷ left) peer to_peer ledger → body.link.phase ≡ Over → (world' : World) × AreJoint world' role body left peer (to_peer ++ []) ledger
  pass world role body (Transport unit) left peer to_peer ledger j e =
      (world, sends-none to_peer (ledgers.units-joint free tables spellings a b world role body unit left peer to_peer ledger j))
  pass world role body (Session word) left peer to_peer ledger j e =
      let p = passes-kept free common proposed world role body word left peer to_peer j.ends (λ message means. inl (seen-over role body e)) in
      (By role (model_passes p.message) ∷ world, sends-none to_peer (ledgers.passes-joint free tables spellings a b world role body word left peer to_peer ledger j p))

  passed-a : (two : Two) (ledger : Ledger) (k : Kept two ledger) → two.a.link.phase ≡ Over → ((left : List Message) → Opened two.a two.b left (two.to_b ++ [])) → (ms : List Message) → two.to_a ≡ ms → HandlesNext two ledger Initiator ms
  passed-a two ledger k over opened [] e = tt
  passed-a two ledger k over opened (message ∷ left) e =
      let p = pass k.world Initiator two.a message left two.b two.to_b ledger (coming-a two ledger k (message ∷ left) e) over in
      Passing (over-passes Initiator two.a message over) (keep-a two p.0 two.a left [] ledger p.1 k.good_a k.good_b (opened left))

  passed-b : (two : Two) (ledger : Ledger) (k : Kept two ledger) → two.b.link.phase ≡ Over → ((left : List Message) → Opened two.a two.b (two.to_a ++ []) left) → (ms : List Message) → two.to_b ≡ ms → HandlesNext two ledger Responder ms
  passed-b two ledger k over opened [] e = tt
  passed-b two ledger k over opened (message ∷ left) e =
      let p = pass k.world Responder two.b message left two.a two.to_a ledger (coming-b two ledger k (message ∷ left) e) over in
      Passing (over-passes Responder two.b message over) (keep-b two p.0 two.b left [] ledger p.1 k.good_b k.good_a (opened left))

  -- of an end whose association stands
  live-a : (two : Two) (ledger : Ledger) (k : Kept two ledger) → Presumed → Live two.a → ((later : Body) (left answers : List Message) → Side later left → AreOwn answers → Opened later two.b left (two.to_b ++ answers)) → (ms : List Message) → two.to_a ≡ ms → AreOwn ms → HandlesNext two ledger Initiator ms
  live-a two ledger k p live opened [] e own = tt
  live-a two ledger k p live opened (Transport unit ∷ left) e own = absurd own
  live-a two ledger k p live opened (Session word ∷ left) e own =
      go (taking.reacted free tables spellings a b k.world Initiator two.a word left two.b two.to_b ledger p.fit.spells p.carries p.fit.reads (coming-a two ledger k (Session word ∷ left) e) k.good_a.sound k.good_a.sending live own.0)
    where
      go : taking.Reacted free tables spellings a b Initiator two.a word left two.b two.to_b ledger → Handles two ledger Initiator (Session word) left
      go (Passed world reacts j) =
          Passing reacts (keep-a two world two.a left [] ledger (sends-none two.to_b j) k.good_a k.good_b (opened two.a left [] (Stands live own.1) tt))
      go (Took world later answers shown reacts j sound sending side ours) =
          Taking later answers shown reacts (keep-a two world later left answers (after_taking common Initiator two.a (Session word) answers ledger) j (record { sound = sound; sending = sending }) k.good_b (opened later left answers (side-of later left own.1 side) ours))

  live-b : (two : Two) (ledger : Ledger) (k : Kept two ledger) → Presumed → Live two.b → ((later : Body) (left answers : List Message) → Side later left → AreOwn answers → Opened two.a later (two.to_a ++ answers) left) → (ms : List Message) → two.to_b ≡ ms → AreOwn ms → HandlesNext two ledger Responder ms
  live-b two ledger k p live opened [] e own = tt
  live-b two ledger k p live opened (Transport unit ∷ left) e own = absurd own
  live-b two ledger k p live opened (Session word ∷ left) e own =
      go (taking.reacted free tables spellings a b k.world Responder two.b word left two.a two.to_a ledger (calling.spells-at free tables spellings a b Responder p.fit.spells) (calling.carries-at free tables spellings a b Responder p.carries) (calling.reads-at free tables spellings a b Responder p.fit.reads) (coming-b two ledger k (Session word ∷ left) e) k.good_b.sound k.good_b.sending live own.0)
    where
      go : taking.Reacted free tables spellings a b Responder two.b word left two.a two.to_a ledger → Handles two ledger Responder (Session word) left
      go (Passed world reacts j) =
          Passing reacts (keep-b two world two.b left [] ledger (sends-none two.to_a j) k.good_b k.good_a (opened two.b left [] (Stands live own.1) tt))
      go (Took world later answers shown reacts j sound sending side ours) =
          Taking later answers shown reacts (keep-b two world later left answers (after_taking common Responder two.b (Session word) answers ledger) j (record { sound = sound; sending = sending }) k.good_a (opened later left answers (side-of later left own.1 side) ours))

  -- the message comes, and nothing else
  one-a : (two : Two) (ledger : Ledger) (message : Message) (left : List Message) → two.to_a ≡ message ∷ left → Handles two ledger Initiator message left → HandlesNext two ledger Initiator two.to_a
  one-a two ledger message left e h = subst (HandlesNext two ledger Initiator) (sym e) h

  one-b : (two : Two) (ledger : Ledger) (message : Message) (left : List Message) → two.to_b ≡ message ∷ left → Handles two ledger Responder message left → HandlesNext two ledger Responder two.to_b
  one-b two ledger message left e h = subst (HandlesNext two ledger Responder) (sym e) h

  nothing-a : (two : Two) (ledger : Ledger) → two.to_a ≡ [] → HandlesNext two ledger Initiator two.to_a
  nothing-a two ledger e = subst (HandlesNext two ledger Initiator) (sym e) tt

  nothing-b : (two : Two) (ledger : Ledger) → two.to_b ≡ [] → HandlesNext two ledger Responder two.to_b
  nothing-b two ledger e = subst (HandlesNext two ledger Responder) (sym e) tt

  -- of what is answered by nothing
  answered-a : (P : Body → Type 0) (two : Two) (ledger : Ledger) (k : Kept two ledger) (word : Word) (left : List Message) → opening.Answered free tables spellings a b P two.a Initiator word left two.b two.to_b ledger → ((later : Body) → P later → Opened later two.b left (two.to_b ++ [])) → Handles two ledger Initiator (Session word) left
  answered-a P two ledger k word left t opened =
      Taking t.later [] t.shown t.reacts (keep-a two t.world' t.later left [] (after_taking common Initiator two.a (Session word) [] ledger) t.ends t.good k.good_b (opened t.later t.side))

  answered-b : (P : Body → Type 0) (two : Two) (ledger : Ledger) (k : Kept two ledger) (word : Word) (left : List Message) → opening.Answered free tables spellings a b P two.b Responder word left two.a two.to_a ledger → ((later : Body) → P later → Opened two.a later (two.to_a ++ []) left) → Handles two ledger Responder (Session word) left
  answered-b P two ledger k word left t opened =
      Taking t.later [] t.shown t.reacts (keep-b two t.world' t.later left [] (after_taking common Responder two.b (Session word) [] ledger) t.ends t.good k.good_a (opened t.later t.side))

  handles-a : (two : Two) (ledger : Ledger) → Presumed → Kept two ledger → HandlesNext two ledger Initiator two.to_a
  handles-a two ledger p k = go k.opened
    where
      confirmed-so : (way : Way) → At (asks way) Asked two.a → two.to_a ≡ confirm ∷ [] → ((later : Body) → At (asks way) Carrying later → Opened later two.b [] (two.to_b ++ cn way ∷ [])) → HandlesNext two ledger Initiator two.to_a
      confirmed-so way at e opened =
          let x = opening.confirmed free tables spellings a b way k.world two.a [] two.b two.to_b ledger (coming-a two ledger k (confirm ∷ []) e) k.good_a at in
          one-a two ledger confirm [] e (Taking x.later (cn way ∷ []) [] x.reacts (keep-a two x.world' x.later [] (cn way ∷ []) ledger x.ends x.good k.good_b (opened x.later x.at)))

      deaf : (way : Way) → two.b.link.phase ≡ Over → Deafened way two.a two.to_a → HandlesNext two ledger Initiator two.to_a
      deaf way q (DeafRest at e) = nothing-a two ledger e
      deaf way q (DeafAsked at (inl e)) = nothing-a two ledger e
      deaf way q (DeafAsked at (inr e)) = confirmed-so way at e (λ later at. Deaf way q (DeafCarrying at refl))
      deaf way q (DeafCarrying at e) = nothing-a two ledger e

      refusing : (later : Body) → later.link.phase ≡ Over → (two.b.link.phase ≡ Over) ⊎ (At Broken Carrying two.b × (two.to_b ≡ [])) → Opened later two.b [] (two.to_b ++ [])
      refusing later e (inl q) = Standing (IsOver e) (IsOver q)
      refusing later e (inr q) = Gone e (LeftBroken q.0 (subst (λ g. OnlyAborts (g ++ [])) (sym q.1) tt))

      go : Opened two.a two.b two.to_a two.to_b → HandlesNext two ledger Initiator two.to_a
      go (Resting way x y e f) = nothing-a two ledger e
      go (Calling way x y e f) = nothing-a two ledger e
      go (Connecting way x y e f) = nothing-a two ledger e
      go (Confirming way x y e f) = confirmed-so way x e (λ later at. Connecting way at y refl (ap (λ g. g ++ cn way ∷ []) f))
      go (Accepting way x word accept more e own s) =
          one-a two ledger (Session word) more e
          (answered-a (opening.StandsOrOver free tables spellings a b) two ledger k word more (opening.accepted free tables spellings a b way k.world two.a word more two.b two.to_b ledger (coming-a two ledger k (Session word ∷ more) e) k.good_a x accept)
          (λ later side. Standing (side-of later more own side) (side-none two.b two.to_b s)))
      go (Refusing way x y word refusal e) =
          one-a two ledger (Session word) [] e
          (answered-a (opening.IsGone free tables spellings a b) two ledger k word [] (opening.refused-by free tables spellings a b way k.world two.a word [] two.b two.to_b ledger (coming-a two ledger k (Session word ∷ []) e) k.good_a x refusal)
          (λ later side. refusing later side y))
      go (Deaf way q d) = deaf way q d
      go (Gone q l) = passed-a two ledger k q (λ left. Gone q (left-none two.b two.to_b l)) two.to_a refl
      go (Standing (Stands live own) s) =
          live-a two ledger k p live (λ later left answers side ours. Standing side (side-more two.b two.to_b answers ours s)) two.to_a refl own
      go (Standing (IsOver q) s) = passed-a two ledger k q (λ left. Standing (IsOver q) (side-none two.b two.to_b s)) two.to_a refl

  handles-b : (two : Two) (ledger : Ledger) → Presumed → Kept two ledger → HandlesNext two ledger Responder two.to_b
  handles-b two ledger p k = go k.opened
    where
      sent-a : {word : Word} {more : List Message} → two.to_a ≡ Session word ∷ more → (sent : List Message) → two.to_a ++ sent ≡ Session word ∷ more ++ sent
      sent-a e sent = ap (λ f. f ++ sent) e

      asked-so : (way : Way) → At (rests way) Unused two.b → two.to_b ≡ cr ∷ [] → ((later : Body) → At (joins way) Joined later → Opened two.a later (two.to_a ++ confirm ∷ []) []) → HandlesNext two ledger Responder two.to_b
      asked-so way at e opened =
          let x = opening.asked free tables spellings a b way k.world two.b [] two.a two.to_a ledger (coming-b two ledger k (cr ∷ []) e) k.good_b at in
          one-b two ledger cr [] e (Taking x.later (confirm ∷ []) [] x.reacts (keep-b two k.world x.later [] (confirm ∷ []) ledger x.ends x.good k.good_a (opened x.later x.at)))

      connected-so : (way : Way) → At (joins way) Joined two.b → (more : List Message) → two.to_b ≡ cn way ∷ more → ((later : Body) (answer : Word) → Live later → opening.IsAccept free tables spellings a b answer → Opened two.a later (two.to_a ++ Session answer ∷ []) more) → ((later : Body) (answer : Word) → opening.Declined free tables spellings a b way later → opening.IsRefusal free tables spellings a b answer → Opened two.a later (two.to_a ++ Session answer ∷ []) more) → HandlesNext two ledger Responder two.to_b
      connected-so way at more e accepts refuses =
          one-b two ledger (cn way) more e (next (opening.connected free tables spellings a b way k.world two.b more two.a two.to_a ledger p.fit (coming-b two ledger k (cn way ∷ more) e) k.good_b at))
        where
          next : opening.Connected free tables spellings a b way two.b more two.a two.to_a ledger → Handles two ledger Responder (cn way) more
          next (Accepts world later answer shown reacts j good live x) =
              Taking later (Session answer ∷ []) shown reacts (keep-b two world later more (Session answer ∷ []) (after_taking common Responder two.b (cn way) (Session answer ∷ []) ledger) j good k.good_a (accepts later answer live x))
          next (Refuses world later answer shown reacts j good gone x) =
              Taking later (Session answer ∷ []) shown reacts (keep-b two world later more (Session answer ∷ []) (after_taking common Responder two.b (cn way) (Session answer ∷ []) ledger) j good k.good_a (refuses later answer gone x))

      refused-so : (way : Way) (later : Body) → opening.Declined free tables spellings a b way later → (later.link.phase ≡ Over) ⊎ (At Broken Carrying later × (◌≡◌ {A = List Message} [] []))
      refused-so First later d = inl d
      refused-so Again later d = inr (d, refl)

      declined-so : (way : Way) (later : Body) (rest : List Message) → two.a.link.phase ≡ Over → opening.Declined free tables spellings a b way later → OnlyAborts rest → {f : List Message} → Opened two.a later f rest
      declined-so First later rest q d h = Standing (IsOver q) (IsOver d)
      declined-so Again later rest q d h = Gone q (LeftBroken d h)

      broken : two.a.link.phase ≡ Over → At Broken Carrying two.b → (ms : List Message) → two.to_b ≡ ms → OnlyAborts ms → HandlesNext two ledger Responder ms
      broken q at [] e h = tt
      broken q at (Session (OfAssociation (Abort transport user)) ∷ more) e h =
          answered-b (opening.IsGone free tables spellings a b) two ledger k (OfAssociation (Abort transport user)) more (opening.aborted-by free tables spellings a b k.world two.b transport user more two.a two.to_a ledger (coming-b two ledger k (Session (OfAssociation (Abort transport user)) ∷ more) e) k.good_b at)
          (λ later e. Standing (IsOver q) (IsOver e))
      broken q at messages e h = absurd h

      gone : two.a.link.phase ≡ Over → Left two.b two.to_b → HandlesNext two ledger Responder two.to_b
      gone q (LeftIdle way at (inl f)) = nothing-b two ledger f
      gone q (LeftIdle way at (inr f)) = asked-so way at f (λ later at. Gone q (LeftJoined way at (inl refl)))
      gone q (LeftJoined way at (inl f)) = nothing-b two ledger f
      gone q (LeftJoined way at (inr w)) =
          connected-so way at w.0 w.1 (λ later answer live x. Standing (IsOver q) (Stands live (aborts-own w.0 w.2))) (λ later answer d x. declined-so way later w.0 q d w.2)
      gone q (LeftBroken at h) = broken q at two.to_b refl h

      refusing-b : (way : Way) → At (asks way) Carrying two.a → (two.b.link.phase ≡ Over) ⊎ (At Broken Carrying two.b × (two.to_b ≡ [])) → (word : Word) → opening.IsRefusal free tables spellings a b word → two.to_a ≡ Session word ∷ [] → HandlesNext two ledger Responder two.to_b
      refusing-b way x (inl q) word refusal e = passed-b two ledger k q (λ left. Refusing way x (inl q) word refusal (sent-a e [])) two.to_b refl
      refusing-b way x (inr q) word refusal e = nothing-b two ledger q.1

      still : (way : Way) → Deafened way two.a two.to_a → Deafened way two.a (two.to_a ++ [])
      still way d = subst (Deafened way two.a) (sym (append-nil two.to_a)) d

      go : Opened two.a two.b two.to_a two.to_b → HandlesNext two ledger Responder two.to_b
      go (Resting way x y e f) = nothing-b two ledger f
      go (Confirming way x y e f) = nothing-b two ledger f
      go (Calling way x y e f) = asked-so way y f (λ later at. Confirming way x at (ap (λ ms. ms ++ confirm ∷ []) e) refl)
      go (Connecting way x y e f) =
          connected-so way y [] f (λ later answer live accept. Accepting way x answer accept [] (ap (λ ms. ms ++ Session answer ∷ []) e) tt (Stands live tt))
          (λ later answer d refusal. Refusing way x (refused-so way later d) answer refusal (ap (λ ms. ms ++ Session answer ∷ []) e))
      go (Accepting way x word accept more e own (Stands live o)) =
          live-b two ledger k p live (λ later left answers side ours. Accepting way x word accept (more ++ answers) (sent-a e answers) (own-append more answers own ours) side) two.to_b refl o
      go (Accepting way x word accept more e own (IsOver q)) =
          passed-b two ledger k q (λ left. Accepting way x word accept (more ++ []) (sent-a e []) (own-append more [] own tt) (IsOver q)) two.to_b refl
      go (Refusing way x y word refusal e) = refusing-b way x y word refusal e
      go (Deaf way q d) = passed-b two ledger k q (λ left. Deaf way q (still way d)) two.to_b refl
      go (Gone q l) = gone q l
      go (Standing s (Stands live own)) =
          live-b two ledger k p live (λ later left answers side ours. Standing (side-more two.a two.to_a answers ours s) side) two.to_b refl own
      go (Standing s (IsOver q)) = passed-b two ledger k q (λ left. Standing (side-none two.a two.to_a s) (IsOver q)) two.to_b refl

  -- ---- accepted calls

  abbrev CalledA : Two → Ledger → Call → Option ℤ → Type 0
  CalledA two ledger call answer =
      Kept (stepped Initiator (after_called Reliable (base Initiator) two.a call answer) two.to_a (due_of (base Initiator) two.a call (Ok answer)) two) (after_sending common Initiator (due_of (base Initiator) two.a call (Ok answer)) ledger)

  abbrev CalledB : Two → Ledger → Call → Option ℤ → Type 0
  CalledB two ledger call answer =
      Kept (stepped Responder (after_called Reliable (base Responder) two.b call answer) two.to_b (due_of (base Responder) two.b call (Ok answer)) two) (after_sending common Responder (due_of (base Responder) two.b call (Ok answer)) ledger)

  -- of an end that is up or releasing
  stood-a : (two : Two) (ledger : Ledger) (k : Kept two ledger) (call : Call) (answer : Option ℤ) → Presumed → Live two.a → AreOwn two.to_a → ((sent : List Message) → AreOwn sent → Side two.b (two.to_b ++ sent)) → can_call (base Initiator) two.a call ≡ Ok answer → CalledA two ledger call answer
  stood-a two ledger k call answer p live own s h =
      let c = calling.called-so free tables spellings a b k.world Initiator two.a call answer two.to_a two.b two.to_b ledger p.fit.reads k.joint k.good_a.sound k.good_a.sending live h in
      keep-a two c.world (after_called Reliable (base Initiator) two.a call answer) two.to_a (due_of (base Initiator) two.a call (Ok answer)) (after_sending common Initiator (due_of (base Initiator) two.a call (Ok answer)) ledger) c.ends (record { sound = c.sound; sending = c.sending }) k.good_b
      (Standing (side-of _ two.to_a own c.side) (s _ c.own))

  stood-b : (two : Two) (ledger : Ledger) (k : Kept two ledger) (call : Call) (answer : Option ℤ) → Presumed → Live two.b → AreOwn two.to_b → ((later : Body) (sent : List Message) → Side later two.to_b → AreOwn sent → Opened two.a later (two.to_a ++ sent) two.to_b) → can_call (base Responder) two.b call ≡ Ok answer → CalledB two ledger call answer
  stood-b two ledger k call answer p live own opened h =
      let c = calling.called-so free tables spellings a b k.world Responder two.b call answer two.to_b two.a two.to_a ledger p.fit.reads (flip k.joint) k.good_b.sound k.good_b.sending live h in
      keep-b two c.world (after_called Reliable (base Responder) two.b call answer) two.to_b (due_of (base Responder) two.b call (Ok answer)) (after_sending common Responder (due_of (base Responder) two.b call (Ok answer)) ledger) c.ends (record { sound = c.sound; sending = c.sending }) k.good_a
      (opened _ _ (side-of _ two.to_b own c.side) c.own)

  -- an abort, with an AB or before a CN
  record Ended (role : Role) (later : Body) (sent coming : List Message) (peer : Body) (to_peer : List Message) (ledger : Ledger) : Type 0 where
    world : World
    joint : AreJoint world role later coming peer (to_peer ++ sent) (after_sending common role sent ledger)
    good : Good role later
    is_over : later.link.phase ≡ Over
    only : OnlyAborts sent

  -- before a CN the initiator withdraws, or the responder of an opening
  abbrev MayWithdraw : Role → Body → Type 0
  MayWithdraw role body = MayWithdrawIn (role_seen (is_initiator role)) (phase_seen body.link.stage body.link.phase)

  withdraw-act : (role : Role) (body : Body) → MayWithdraw role body → ActsAs free Reliable (base role) proposed body (over body) [] Withdraws
  withdraw-act role body may = record { may = record { in_phase = may; in_mode = tt }; after = refl; means = tt }

  withdraws-so : (world : World) (role : Role) (body : Body) (coming : List Message) (peer : Body) (to_peer : List Message) (ledger : Ledger) → AreJoint world role body coming peer to_peer ledger → MayWithdraw role body → AreJoint (By role (Acts Withdraws) ∷ world) role (over body) coming peer (to_peer ++ []) ledger
  withdraws-so world role body coming peer to_peer ledger j may =
      ledgers.quiet-joint free tables spellings a b world role body (over body) coming peer to_peer [] Withdraws ledger j (withdraw-act role body may) (record { starts = λ rest. refl; encodes = refl })

  asks-withdraw : (way : Way) (stage : Stage) → is_carrying stage ≡ false → MayWithdrawIn Initiator (phase_seen stage (asks way))
  asks-withdraw First stage h = withdraw-phase Initiator stage h
  asks-withdraw Again Unused h = refl
  asks-withdraw Again Asked h = refl
  asks-withdraw Again Joined h = refl
  asks-withdraw Again Carrying h = cc

  no-due : (role : Role) (body : Body) (answer : Option ℤ) → is_carrying body.link.stage ≡ false → due_of (base role) body the_calls.Abort (Ok answer) ≡ []
  no-due role body answer stage = ap (λ c. if c then user_abort body.link.accepted 0 [] ∷ [] else []) stage

  over-good : (role : Role) (body : Body) → Good role body → Good role (over body)
  over-good role body good = record { sound = record { numbered = tt; calm = tt; sets = tt; queues = tt }; sending = good.sending }

  withdrawing : (world : World) (role : Role) (body : Body) (answer : Option ℤ) (coming : List Message) (peer : Body) (to_peer : List Message) (ledger : Ledger) → AreJoint world role body coming peer to_peer ledger → Good role body → is_carrying body.link.stage ≡ false → MayWithdraw role body → Ended role (after_called Reliable (base role) body the_calls.Abort answer) (due_of (base role) body the_calls.Abort (Ok answer)) coming peer to_peer ledger
  withdrawing world role body answer coming peer to_peer ledger j good stage may =
      subst (λ ms. Ended role (sent_all Reliable (over body) ms) ms coming peer to_peer ledger) (sym (no-due role body answer stage))
      (record {
        world = By role (Acts Withdraws) ∷ world;
        joint = withdraws-so world role body coming peer to_peer ledger j may;
        good = over-good role body good;
        is_over = refl;
        only = tt;
      })

  sending-abort : (world : World) (role : Role) (body : Body) (answer : Option ℤ) (coming : List Message) (peer : Body) (to_peer : List Message) (ledger : Ledger) → AreJoint world role body coming peer to_peer ledger → Good role body → body.link.stage ≡ Carrying → can_call (base role) body the_calls.Abort ≡ Ok answer → Ended role (after_called Reliable (base role) body the_calls.Abort answer) (due_of (base role) body the_calls.Abort (Ok answer)) coming peer to_peer ledger
  sending-abort world role body answer coming peer to_peer ledger j good stage h =
      let c = calling.aborting free tables spellings a b world role body answer coming peer to_peer ledger j good.sending stage h in
      let due : due_of (base role) body the_calls.Abort (Ok answer) ≡ user_abort body.link.accepted 0 [] ∷ [] = ap (λ s. if is_carrying s then user_abort body.link.accepted 0 [] ∷ [] else []) stage in
      record { world = c.world; joint = c.ends; good = record { sound = c.sound; sending = c.sending }; is_over = aborted-over body (is_carrying body.link.stage); only = subst OnlyAborts (sym due) tt }

  ended-a : (two : Two) (ledger : Ledger) (k : Kept two ledger) (answer : Option ℤ) → Ended Initiator (after_called Reliable (base Initiator) two.a the_calls.Abort answer) (due_of (base Initiator) two.a the_calls.Abort (Ok answer)) two.to_a two.b two.to_b ledger → ((later : Body) → later.link.phase ≡ Over → OnlyAborts (due_of (base Initiator) two.a the_calls.Abort (Ok answer)) → Opened later two.b two.to_a (two.to_b ++ due_of (base Initiator) two.a the_calls.Abort (Ok answer))) → CalledA two ledger the_calls.Abort answer
  ended-a two ledger k answer e opened =
      keep-a two e.world (after_called Reliable (base Initiator) two.a the_calls.Abort answer) two.to_a (due_of (base Initiator) two.a the_calls.Abort (Ok answer)) (after_sending common Initiator (due_of (base Initiator) two.a the_calls.Abort (Ok answer)) ledger) e.joint e.good k.good_b (opened _ e.is_over e.only)

  ended-b : (two : Two) (ledger : Ledger) (k : Kept two ledger) (answer : Option ℤ) → Ended Responder (after_called Reliable (base Responder) two.b the_calls.Abort answer) (due_of (base Responder) two.b the_calls.Abort (Ok answer)) two.to_b two.a two.to_a ledger → ((later : Body) → later.link.phase ≡ Over → Opened two.a later (two.to_a ++ due_of (base Responder) two.b the_calls.Abort (Ok answer)) two.to_b) → CalledB two ledger the_calls.Abort answer
  ended-b two ledger k answer e opened =
      keep-b two e.world (after_called Reliable (base Responder) two.b the_calls.Abort answer) two.to_b (due_of (base Responder) two.b the_calls.Abort (Ok answer)) (after_sending common Responder (due_of (base Responder) two.b the_calls.Abort (Ok answer)) ledger) e.joint e.good k.good_a (opened _ e.is_over)

  -- which call it is, by the phase
  in-phase : (role : Role) (body : Body) (call : Call) (answer : Option ℤ) (phase : Phase) → body.link.phase ≡ phase → can_call (base role) body call ≡ Ok answer → is_phase_for call phase ≡ true
  in-phase role body call answer phase e h = ap (is_phase_for call) (sym e) ∙ (called (base role) body call answer h).in_phase

  -- an opening, or a recovery
  begins-a : (way : Way) (two : Two) (ledger : Ledger) (k : Kept two ledger) (call : Call) (answer : Option ℤ) → At (rests way) Unused two.a → can_call (base Initiator) two.a call ≡ Ok answer → ((later : Body) → At (asks way) Asked later → Opened later two.b two.to_a (two.to_b ++ cr ∷ [])) → CalledA two ledger call answer
  begins-a First two ledger k call answer at h opened =
      let o = only-open call (in-phase Initiator two.a call answer Idle at.phase_is h) in
      let later : Body = after_called Reliable (base Initiator) two.a the_calls.Open answer in
      let u = opens-unseen Reliable (base Initiator) proposed two.a answer (subst (λ c. can_call (base Initiator) two.a c ≡ Ok answer) o h) in
      subst (λ c. CalledA two ledger c answer) (sym o)
      (keep-a two k.world later two.to_a (cr ∷ []) ledger (ledgers.unseen-joint free tables spellings a b k.world Initiator two.a later two.to_a two.b two.to_b (cr ∷ []) ledger k.joint u.0 u.1)
      (opening.good-same free tables spellings a b Initiator two.a later refl refl k.good_a) k.good_b (opened later (record { phase_is = refl; stage_is = refl; calm = at.calm })))
  begins-a Again two ledger k call answer at h opened =
      let o = only-recover call (in-phase Initiator two.a call answer Broken at.phase_is h) in
      let later : Body = after_called Reliable (base Initiator) two.a the_calls.Recover answer in
      let u = recovers-unseen Reliable (base Initiator) proposed two.a answer (subst (λ c. can_call (base Initiator) two.a c ≡ Ok answer) o h) in
      subst (λ c. CalledA two ledger c answer) (sym o)
      (keep-a two k.world later two.to_a (cr ∷ []) ledger (ledgers.unseen-joint free tables spellings a b k.world Initiator two.a later two.to_a two.b two.to_b (cr ∷ []) ledger k.joint u.0 u.1)
      (opening.good-same free tables spellings a b Initiator two.a later refl refl k.good_a) k.good_b (opened later (record { phase_is = refl; stage_is = refl; calm = at.calm })))

  calls-a : (two : Two) (ledger : Ledger) (call : Call) (answer : Option ℤ) → Presumed → Kept two ledger → can_call (base Initiator) two.a call ≡ Ok answer → CalledA two ledger call answer
  calls-a two ledger call answer p k h = go k.opened
    where
      aborts : (way : Way) → At (asks way) Carrying two.a → ((later : Body) → later.link.phase ≡ Over → (due : List Message) → OnlyAborts due → Opened later two.b two.to_a (two.to_b ++ due)) → CalledA two ledger call answer
      aborts way at opened =
          let e = only-abort way call (in-phase Initiator two.a call answer (asks way) at.phase_is h) in
          subst (λ c. CalledA two ledger c answer) (sym e)
          (ended-a two ledger k answer (sending-abort k.world Initiator two.a answer two.to_a two.b two.to_b ledger k.joint k.good_a at.stage_is (subst (λ c. can_call (base Initiator) two.a c ≡ Ok answer) e h)) (λ later gone only. opened later gone _ only))

      withdraws : (way : Way) → At (asks way) Asked two.a → ((later : Body) → later.link.phase ≡ Over → Opened later two.b two.to_a (two.to_b ++ [])) → CalledA two ledger call answer
      withdraws way at opened =
          let e = only-abort way call (in-phase Initiator two.a call answer (asks way) at.phase_is h) in
          let stage : is_carrying two.a.link.stage ≡ false = ap is_carrying at.stage_is in
          let may : MayWithdraw Initiator two.a = subst (λ ph. MayWithdrawIn Initiator (phase_seen two.a.link.stage ph)) (sym at.phase_is) (asks-withdraw way two.a.link.stage stage) in
          subst (λ c. CalledA two ledger c answer) (sym e)
          (ended-a two ledger k answer (withdrawing k.world Initiator two.a answer two.to_a two.b two.to_b ledger k.joint k.good_a stage may)
          (λ later gone only. subst (λ due. Opened later two.b two.to_a (two.to_b ++ due)) (sym (no-due Initiator two.a answer stage)) (opened later gone)))

      deaf : (way : Way) → two.b.link.phase ≡ Over → Deafened way two.a two.to_a → CalledA two ledger call answer
      deaf way q (DeafRest at e) = begins-a way two ledger k call answer at h (λ later at. Deaf way q (DeafAsked at (inl e)))
      deaf way q (DeafAsked at e) = withdraws way at (λ later gone. Standing (IsOver gone) (IsOver q))
      deaf way q (DeafCarrying at e) = aborts way at (λ later gone due only. Standing (IsOver gone) (IsOver q))

      refusing : (later : Body) → later.link.phase ≡ Over → (due : List Message) → OnlyAborts due → (two.b.link.phase ≡ Over) ⊎ (At Broken Carrying two.b × (two.to_b ≡ [])) → Opened later two.b two.to_a (two.to_b ++ due)
      refusing later gone due only (inl q) = Standing (IsOver gone) (IsOver q)
      refusing later gone due only (inr q) = Gone gone (LeftBroken q.0 (subst (λ g. OnlyAborts (g ++ due)) (sym q.1) only))

      go : Opened two.a two.b two.to_a two.to_b → CalledA two ledger call answer
      go (Resting way x y e f) = begins-a way two ledger k call answer x h (λ later at. Calling way at y e (ap (λ g. g ++ cr ∷ []) f))
      go (Calling way x y e f) = withdraws way x (λ later gone. Gone gone (LeftIdle way y (inr (ap (λ g. g ++ []) f))))
      go (Confirming way x y e f) = withdraws way x (λ later gone. Gone gone (LeftJoined way y (inl (ap (λ g. g ++ []) f))))
      go (Connecting way x y e f) = aborts way x (λ later gone due only. Gone gone (LeftJoined way y (inr (due, ap (λ g. g ++ due) f, only))))
      go (Accepting way x word accept rest e own s) = aborts way x (λ later gone due only. Standing (IsOver gone) (side-more two.b two.to_b due (aborts-own due only) s))
      go (Refusing way x y word refusal e) = aborts way x (λ later gone due only. refusing later gone due only y)
      go (Deaf way q d) = deaf way q d
      go (Gone q l) = absurd (over-calls (base Initiator) two.a call answer q h)
      go (Standing (Stands live own) s) = stood-a two ledger k call answer p live own (λ sent ours. side-more two.b two.to_b sent ours s) h
      go (Standing (IsOver q) s) = absurd (over-calls (base Initiator) two.a call answer q h)

  -- only an initiator opens and recovers
  no-begin : (way : Way) (body : Body) (stage : Stage) (call : Call) (answer : Option ℤ) → At (rests way) stage body → can_call (base Responder) body call ≡ Ok answer → ⊥
  no-begin First body stage call answer at h =
      let o = only-open call (in-phase Responder body call answer Idle at.phase_is h) in
      let c = (called (base Responder) body the_calls.Open answer (subst (λ c. can_call (base Responder) body c ≡ Ok answer) o h)).initiates in
      cc
  no-begin Again body stage call answer at h =
      let o = only-recover call (in-phase Responder body call answer Broken at.phase_is h) in
      let c = (called (base Responder) body the_calls.Recover answer (subst (λ c. can_call (base Responder) body c ≡ Ok answer) o h)).initiates in
      cc

  calls-b : (two : Two) (ledger : Ledger) (call : Call) (answer : Option ℤ) → Presumed → Kept two ledger → can_call (base Responder) two.b call ≡ Ok answer → CalledB two ledger call answer
  calls-b two ledger call answer p k h = go k.opened
    where
      -- a responder that waits for the CN of an opening may abort
      withdraws : (way : Way) → At (joins way) Joined two.b → ((later : Body) → later.link.phase ≡ Over → Opened two.a later (two.to_a ++ []) two.to_b) → CalledB two ledger call answer
      withdraws First at opened =
          let e = only-abort First call (in-phase Responder two.b call answer Opening at.phase_is h) in
          let stage : is_carrying two.b.link.stage ≡ false = ap is_carrying at.stage_is in
          let may : MayWithdraw Responder two.b = subst (λ ph. MayWithdrawIn Responder (phase_seen two.b.link.stage ph)) (sym at.phase_is) (withdraw-phase Responder two.b.link.stage stage) in
          subst (λ c. CalledB two ledger c answer) (sym e)
          (ended-b two ledger k answer (withdrawing k.world Responder two.b answer two.to_b two.a two.to_a ledger (flip k.joint) k.good_b stage may)
          (λ later gone. subst (λ due. Opened two.a later (two.to_a ++ due) two.to_b) (sym (no-due Responder two.b answer stage)) (opened later gone)))
      withdraws Again at opened = absurd (no-begin Again two.b Joined call answer at h)

      left : two.a.link.phase ≡ Over → Left two.b two.to_b → CalledB two ledger call answer
      left q (LeftIdle way at f) = absurd (no-begin way two.b Unused call answer at h)
      left q (LeftJoined way at f) = withdraws way at (λ later gone. Standing (IsOver q) (IsOver gone))
      left q (LeftBroken at f) = absurd (no-begin Again two.b Carrying call answer at h)

      refusing : (two.b.link.phase ≡ Over) ⊎ (At Broken Carrying two.b × (two.to_b ≡ [])) → CalledB two ledger call answer
      refusing (inl q) = absurd (over-calls (base Responder) two.b call answer q h)
      refusing (inr q) = absurd (no-begin Again two.b Carrying call answer q.0 h)

      go : Opened two.a two.b two.to_a two.to_b → CalledB two ledger call answer
      go (Resting way x y e f) = absurd (no-begin way two.b Unused call answer y h)
      go (Calling way x y e f) = absurd (no-begin way two.b Unused call answer y h)
      go (Confirming way x y e f) = withdraws way y (λ later gone. Deaf way gone (DeafAsked x (inr (ap (λ ms. ms ++ []) e))))
      go (Connecting way x y e f) = withdraws way y (λ later gone. Deaf way gone (DeafCarrying x (ap (λ ms. ms ++ []) e)))
      go (Accepting way x word accept more e own (Stands live o)) =
          stood-b two ledger k call answer p live o (λ later sent side ours. Accepting way x word accept (more ++ sent) (ap (λ f. f ++ sent) e) (own-append more sent own ours) side) h
      go (Accepting way x word accept more e own (IsOver q)) = absurd (over-calls (base Responder) two.b call answer q h)
      go (Refusing way x y word refusal e) = refusing y
      go (Deaf way q d) = absurd (over-calls (base Responder) two.b call answer q h)
      go (Gone q l) = left q l
      go (Standing s (Stands live own)) = stood-b two ledger k call answer p live own (λ later sent side ours. Standing (side-more two.a two.to_a sent ours s) side) h
      go (Standing s (IsOver q)) = absurd (over-calls (base Responder) two.b call answer q h)

  -- ---- what an end does by itself

  abbrev OwnA : Two → Ledger → OwnAct → Type 0
  OwnA two ledger own = Kept (stepped Initiator (after_step (base Initiator) two.a (step_of own)) two.to_a (own_messages own) two) (after_own common Initiator two.a own ledger)

  abbrev OwnB : Two → Ledger → OwnAct → Type 0
  OwnB two ledger own = Kept (stepped Responder (after_step (base Responder) two.b (step_of own)) two.to_b (own_messages own) two) (after_own common Responder two.b own ledger)

  -- an end that isn't up does nothing
  idle-own : (way : Way) → rests way ≡ Up → ⊥
  idle-own First e = cc
  idle-own Again e = cc

  asking-own : (way : Way) → asks way ≡ Up → ⊥
  asking-own First e = cc
  asking-own Again e = cc

  joining-own : (way : Way) → joins way ≡ Up → ⊥
  joining-own First e = cc
  joining-own Again e = cc

  broken-own : Broken ≡ Up → ⊥
  broken-own e = cc

  over-own : Over ≡ Up → ⊥
  over-own e = cc

  acts-a : (two : Two) (ledger : Ledger) (own : OwnAct) → Presumed → Kept two ledger → next_own (base Initiator) two.a ≡ Some own → EncodesInPlace (base Initiator) two.a own → OwnA two ledger own
  acts-a two ledger own p k h placed = go k.opened
    where
      not-at : (phase : Phase) (stage : Stage) → At phase stage two.a → (phase ≡ Up → ⊥) → ⊥
      not-at phase stage at idle = idle (sym at.phase_is ∙ own-up (base Initiator) two.a own h)

      deaf : (way : Way) → Deafened way two.a two.to_a → ⊥
      deaf way (DeafRest at e) = not-at (rests way) Unused at (idle-own way)
      deaf way (DeafAsked at e) = not-at (asks way) Asked at (asking-own way)
      deaf way (DeafCarrying at e) = not-at (asks way) Carrying at (asking-own way)

      go : Opened two.a two.b two.to_a two.to_b → OwnA two ledger own
      go (Resting way x y e f) = absurd (not-at (rests way) Unused x (idle-own way))
      go (Calling way x y e f) = absurd (not-at (asks way) Asked x (asking-own way))
      go (Confirming way x y e f) = absurd (not-at (asks way) Asked x (asking-own way))
      go (Connecting way x y e f) = absurd (not-at (asks way) Carrying x (asking-own way))
      go (Accepting way x word accept more e o s) = absurd (not-at (asks way) Carrying x (asking-own way))
      go (Refusing way x y word refusal e) = absurd (not-at (asks way) Carrying x (asking-own way))
      go (Deaf way q d) = absurd (deaf way d)
      go (Gone q l) = absurd (over-own (sym q ∙ own-up (base Initiator) two.a own h))
      go (Standing (Stands live o) s) =
          let c = calling.own-so free tables spellings a b k.world Initiator two.a own two.to_a two.b two.to_b ledger p.fit.spells p.carries k.joint k.good_a.sound k.good_a.sending live h placed in
          keep-a two c.world (after_step (base Initiator) two.a (step_of own)) two.to_a (own_messages own) (after_own common Initiator two.a own ledger) c.ends (record { sound = c.sound; sending = c.sending }) k.good_b
          (Standing (Stands c.live o) (side-more two.b two.to_b (own_messages own) c.words s))
      go (Standing (IsOver q) s) = absurd (over-own (sym q ∙ own-up (base Initiator) two.a own h))

  acts-b : (two : Two) (ledger : Ledger) (own : OwnAct) → Presumed → Kept two ledger → next_own (base Responder) two.b ≡ Some own → EncodesInPlace (base Responder) two.b own → OwnB two ledger own
  acts-b two ledger own p k h placed = go k.opened
    where
      not-at : (phase : Phase) (stage : Stage) → At phase stage two.b → (phase ≡ Up → ⊥) → ⊥
      not-at phase stage at idle = idle (sym at.phase_is ∙ own-up (base Responder) two.b own h)

      gone : two.b.link.phase ≡ Over → ⊥
      gone q = over-own (sym q ∙ own-up (base Responder) two.b own h)

      left : Left two.b two.to_b → ⊥
      left (LeftIdle way at f) = not-at (rests way) Unused at (idle-own way)
      left (LeftJoined way at f) = not-at (joins way) Joined at (joining-own way)
      left (LeftBroken at f) = not-at Broken Carrying at broken-own

      refusing : (two.b.link.phase ≡ Over) ⊎ (At Broken Carrying two.b × (two.to_b ≡ [])) → ⊥
      refusing (inl q) = gone q
      refusing (inr q) = not-at Broken Carrying q.0 broken-own

      stood : Live two.b → AreOwn two.to_b → ((later : Body) → Live later → AreOwn (own_messages own) → Opened two.a later (two.to_a ++ own_messages own) two.to_b) → OwnB two ledger own
      stood live o opened =
          let c = calling.own-so free tables spellings a b k.world Responder two.b own two.to_b two.a two.to_a ledger p.fit.spells p.carries (flip k.joint) k.good_b.sound k.good_b.sending live h placed in
          keep-b two c.world (after_step (base Responder) two.b (step_of own)) two.to_b (own_messages own) (after_own common Responder two.b own ledger) c.ends (record { sound = c.sound; sending = c.sending }) k.good_a
          (opened _ c.live c.words)

      go : Opened two.a two.b two.to_a two.to_b → OwnB two ledger own
      go (Resting way x y e f) = absurd (not-at (rests way) Unused y (idle-own way))
      go (Calling way x y e f) = absurd (not-at (rests way) Unused y (idle-own way))
      go (Confirming way x y e f) = absurd (not-at (joins way) Joined y (joining-own way))
      go (Connecting way x y e f) = absurd (not-at (joins way) Joined y (joining-own way))
      go (Accepting way x word accept more e mine (Stands live o)) =
          stood live o (λ later live words. Accepting way x word accept (more ++ own_messages own) (ap (λ f. f ++ own_messages own) e) (own-append more (own_messages own) mine words) (Stands live o))
      go (Accepting way x word accept more e mine (IsOver q)) = absurd (gone q)
      go (Refusing way x y word refusal e) = absurd (refusing y)
      go (Deaf way q d) = absurd (gone q)
      go (Gone q l) = absurd (left l)
      go (Standing s (Stands live o)) = stood live o (λ later live words. Standing (side-more two.a two.to_a (own_messages own) words s) (Stands live o))
      go (Standing s (IsOver q)) = absurd (gone q)

  -- ---- breaks: an opening that breaks before its CN fails in the model

  abbrev Breakable : Body → Type 0
  Breakable = phases.Breakable tables spellings a b

  abbrev Outcome : Body → Type 0
  Outcome = phases.Outcome tables spellings a b

  record Settled (role : Role) (body : Body) (coming : List Message) (peer : Body) (to_peer : List Message) (ledger : Ledger) : Type 0 where
    world : World
    later : Body
    joint : AreJoint world role later coming peer to_peer ledger
    breaks_so : BreaksSo common later
    same : after_broke (base role) later ≡ after_broke (base role) body

  -- an end that failed breaks as one that is opening
  broken-over : (role : Role) (body : Body) → body.link.phase ≡ Opening → after_broke (base role) (in_phase Over body) ≡ after_broke (base role) body
  broken-over role body e =
      let put : Phase → Body = λ p.
      record (on_transfer (λ (t : Transfer). record t { progress = Suspended }) body) {
        link = record body.link { phase = p; stage = Unused; gave = false; awaits = NoAnswer };
        receiving = record body.receiving { active = false };
      } in
      ap put (sym (ap (broken_phase Reliable) e))

  settle : (world : World) (role : Role) (body : Body) (coming : List Message) (peer : Body) (to_peer : List Message) (ledger : Ledger) → AreJoint world role body coming peer to_peer ledger → Breakable body → Settled role body coming peer to_peer ledger
  settle world role body coming peer to_peer ledger j (AsModel h) = record { world = world; later = body; joint = j; breaks_so = h; same = refl }
  settle world role body coming peer to_peer ledger j (BeforeCn phase stage) =
      let may : MayWithdraw role body = subst (λ p. MayWithdrawIn (role_seen (is_initiator role)) (phase_seen body.link.stage p)) (sym phase) (withdraw-phase (role_seen (is_initiator role)) body.link.stage stage) in
      let act : ActsAs free Reliable (base role) proposed body (in_phase Over body) [] model_fails = record { may = record { in_phase = may; in_mode = tt }; after = refl; means = tt } in
      record {
        world = By role (Acts model_fails) ∷ world;
        later = in_phase Over body;
        joint =
            subst (λ g. AreJoint (By role (Acts model_fails) ∷ world) role (in_phase Over body) coming peer g ledger) (append-nil to_peer)
            (ledgers.quiet-joint free tables spellings a b world role body (in_phase Over body) coming peer to_peer [] model_fails ledger j act (record { starts = λ rest. refl; encodes = refl }));
        breaks_so = over-breaks tables spellings a b (in_phase Over body) refl;
        same = broken-over role body phase;
      }

  still-rests : (way : Way) (role : Role) (body : Body) → At (rests way) Unused body → At (rests way) Unused (after_broke (base role) body)
  still-rests way role body at = record { phase_is = ap (broken_phase Reliable) at.phase_is ∙ rests-still way; stage_is = refl; calm = refl }

  is-broken : (role : Role) (body : Body) → broken_phase Reliable body.link.phase ≡ Broken → At Broken Unused (after_broke (base role) body)
  is-broken role body e = record { phase_is = e; stage_is = refl; calm = refl }

  broke-good : (role : Role) (body : Body) → Good role body → Good role (after_broke (base role) body)
  broke-good role body good =
      record {
        sound = record { numbered = good.sound.numbered; calm = tt; sets = tt; queues = tt };
        sending = kept-current (base role) (λ t. record t { progress = Suspended }) body.sending (λ t h. with-progress (base role) Suspended t h) good.sending;
      }

  broke : (two : Two) (ledger : Ledger) → Kept two ledger → Breakable two.a → Breakable two.b → Opened (after_broke (base Initiator) two.a) (after_broke (base Responder) two.b) [] [] → Kept (both_broke common two) ledger
  broke two ledger k x y opened =
      let s = settle k.world Initiator two.a two.to_a two.b two.to_b ledger k.joint x in
      let t = settle s.world Responder two.b two.to_b s.later two.to_a ledger (flip s.joint) y in
      let e = ledgers.breaks-joint free tables spellings a b t.world Initiator s.later two.to_a t.later two.to_b ledger (ledgers.flop free tables spellings a b t.joint) s.breaks_so t.breaks_so in
      record {
        world = Break ∷ t.world;
        joint = subst (λ v. AreJoint (Break ∷ t.world) Initiator v [] (after_broke (base Responder) two.b) [] ledger) s.same (subst (λ v. AreJoint (Break ∷ t.world) Initiator (after_broke (base Initiator) s.later) [] v [] ledger) t.same e);
        good_a = broke-good Initiator two.a k.good_a;
        good_b = broke-good Responder two.b k.good_b;
        opened = opened;
      }

  both-broken : (two : Two) (ledger : Ledger) → Kept two ledger → Outcome two.a → Outcome two.b → Kept (both_broke common two) ledger
  both-broken two ledger k (EndsOver x e) (EndsOver y f) = broke two ledger k x y (Standing (IsOver e) (IsOver f))
  both-broken two ledger k (EndsOver x e) (EndsBroken y f) = broke two ledger k x y (Gone e (LeftIdle Again (is-broken Responder two.b f) (inl refl)))
  both-broken two ledger k (EndsBroken x e) (EndsOver y f) = broke two ledger k x y (Deaf Again f (DeafRest (is-broken Initiator two.a e) refl))
  both-broken two ledger k (EndsBroken x e) (EndsBroken y f) = broke two ledger k x y (Resting Again (is-broken Initiator two.a e) (is-broken Responder two.b f) refl refl)

  pub breaks-all : (two : Two) (ledger : Ledger) → Kept two ledger → Kept (both_broke common two) ledger
  breaks-all two ledger k = go k.opened
    where
      calling-so : (way : Way) → At (asks way) Asked two.a → At (rests way) Unused two.b → Kept (both_broke common two) ledger
      calling-so First x y = broke two ledger k (BeforeCn x.phase_is (ap is_carrying x.stage_is)) (AsModel (rests-breaks tables spellings a b First two.b y)) (Gone (ap (broken_phase Reliable) x.phase_is) (LeftIdle First (still-rests First Responder two.b y) (inl refl)))
      calling-so Again x y = both-broken two ledger k (asked-outcome tables spellings a b Again two.a x) (EndsBroken (AsModel (rests-breaks tables spellings a b Again two.b y)) (ap (broken_phase Reliable) y.phase_is))

      deaf : (way : Way) → two.b.link.phase ≡ Over → Deafened way two.a two.to_a → Kept (both_broke common two) ledger
      deaf way q (DeafRest at e) = broke two ledger k (AsModel (rests-breaks tables spellings a b way two.a at)) (AsModel (over-breaks tables spellings a b two.b q)) (Deaf way (ap (broken_phase Reliable) q) (DeafRest (still-rests way Initiator two.a at) refl))
      deaf way q (DeafAsked at e) = both-broken two ledger k (asked-outcome tables spellings a b way two.a at) (over-outcome tables spellings a b two.b q)
      deaf way q (DeafCarrying at e) = both-broken two ledger k (carrying-outcome tables spellings a b way two.a at) (over-outcome tables spellings a b two.b q)

      left : two.a.link.phase ≡ Over → Left two.b two.to_b → Kept (both_broke common two) ledger
      left q (LeftIdle way at f) = broke two ledger k (AsModel (over-breaks tables spellings a b two.a q)) (AsModel (rests-breaks tables spellings a b way two.b at)) (Gone (ap (broken_phase Reliable) q) (LeftIdle way (still-rests way Responder two.b at) (inl refl)))
      left q (LeftJoined way at f) = both-broken two ledger k (over-outcome tables spellings a b two.a q) (joined-outcome tables spellings a b way two.b at)
      left q (LeftBroken at f) = both-broken two ledger k (over-outcome tables spellings a b two.a q) (refused-outcome tables spellings a b two.b at)

      refusing : (two.b.link.phase ≡ Over) ⊎ (At Broken Carrying two.b × (two.to_b ≡ [])) → Outcome two.b
      refusing (inl q) = over-outcome tables spellings a b two.b q
      refusing (inr q) = refused-outcome tables spellings a b two.b q.0

      go : Opened two.a two.b two.to_a two.to_b → Kept (both_broke common two) ledger
      go (Resting way x y e f) = broke two ledger k (AsModel (rests-breaks tables spellings a b way two.a x)) (AsModel (rests-breaks tables spellings a b way two.b y)) (Resting way (still-rests way Initiator two.a x) (still-rests way Responder two.b y) refl refl)
      go (Calling way x y e f) = calling-so way x y
      go (Confirming way x y e f) = both-broken two ledger k (asked-outcome tables spellings a b way two.a x) (joined-outcome tables spellings a b way two.b y)
      go (Connecting way x y e f) = both-broken two ledger k (carrying-outcome tables spellings a b way two.a x) (joined-outcome tables spellings a b way two.b y)
      go (Accepting way x word accept more e own s) = both-broken two ledger k (carrying-outcome tables spellings a b way two.a x) (side-outcome tables spellings a b two.b two.to_b s)
      go (Refusing way x y word refusal e) = both-broken two ledger k (carrying-outcome tables spellings a b way two.a x) (refusing y)
      go (Deaf way q d) = deaf way q d
      go (Gone q l) = left q l
      go (Standing s t) = both-broken two ledger k (side-outcome tables spellings a b two.a two.to_a s) (side-outcome tables spellings a b two.b two.to_b t)

  -- ---- all that is reached

  pub new-kept : Kept (two_new common) (first_ledger common)
  new-kept =
      record {
        world = [];
        joint =
            record {
              ends = record { run = tt; own = record { state = refl; flight = tt }; others = record { state = refl; flight = tt } };
              same = record { set = refl; inter = refl; saved = refl; of_a = refl; of_b = refl };
              transfer_logs = first-log;
            };
        good_a = record { sound = record { numbered = tt; calm = tt; sets = tt; queues = tt }; sending = record { queue = tt; current = tt } };
        good_b = record { sound = record { numbered = tt; calm = tt; sets = tt; queues = tt }; sending = record { queue = tt; current = tt } };
        opened = Resting First (record { phase_is = refl; stage_is = refl; calm = refl }) (record { phase_is = refl; stage_is = refl; calm = refl }) refl refl;
      }
    where
      first-log : (r : Role) → ledgers.LogsAre free tables spellings a b r (transfer_log_of r (first_ledger common).transfer_logs) []
      first-log Initiator = record { started = refl; encoded = refl; arrived = refl; items = tt; encodings = tt }
      first-log Responder = record { started = refl; encoded = refl; arrived = refl; items = tt; encodings = tt }

  pub called-kept : (two : Two) (ledger : Ledger) (role : Role) (call : Call) (answer : Option ℤ) → Presumed → Kept two ledger → can_call (base role) (body_at role two) call ≡ Ok answer → Kept (stepped role (after_called Reliable (base role) (body_at role two) call answer) (coming_to role two) (due_of (base role) (body_at role two) call (Ok answer)) two) (after_sending common role (due_of (base role) (body_at role two) call (Ok answer)) ledger)
  called-kept two ledger Initiator call answer p k h = calls-a two ledger call answer p k h
  called-kept two ledger Responder call answer p k h = calls-b two ledger call answer p k h

  pub own-kept : (two : Two) (ledger : Ledger) (role : Role) (own : OwnAct) → Presumed → Kept two ledger → next_own (base role) (body_at role two) ≡ Some own → EncodesInPlace (base role) (body_at role two) own → Kept (stepped role (after_step (base role) (body_at role two) (step_of own)) (coming_to role two) (own_messages own) two) (after_own common role (body_at role two) own ledger)
  own-kept two ledger Initiator own p k h placed = acts-a two ledger own p k h placed
  own-kept two ledger Responder own p k h placed = acts-b two ledger own p k h placed

  pub handles : (two : Two) (ledger : Ledger) (role : Role) (message : Message) (left : List Message) → Presumed → Kept two ledger → coming_to role two ≡ message ∷ left → Handles two ledger role message left
  handles two ledger Initiator message left p k e = subst (HandlesNext two ledger Initiator) e (handles-a two ledger p k)
  handles two ledger Responder message left p k e = subst (HandlesNext two ledger Responder) e (handles-b two ledger p k)

  pub took-kept : (two : Two) (ledger : Ledger) (role : Role) (message : Message) (left : List Message) (body : Body) (answers : List Message) (shown : List Indication) → Handles two ledger role message left → react (base role) (body_at role two) message ≡ Takes body answers shown → Kept (stepped role body left answers two) (after_taking common role (body_at role two) message answers ledger)
  took-kept two ledger role message left body answers shown (Passing e k) h = let no_take : Passes ≡ Takes body answers shown = sym e ∙ h in cc
  took-kept two ledger role message left body answers shown (Taking later due told e k) h =
      let same : Takes later due told ≡ Takes body answers shown = sym e ∙ h in
      let bodies : later ≡ body = cc in
      let dues : due ≡ answers = cc in
      subst (λ x. Kept (stepped role x left answers two) (after_taking common role (body_at role two) message answers ledger)) bodies
      (subst (λ xs. Kept (stepped role later left xs two) (after_taking common role (body_at role two) message xs ledger)) dues k)

  pub passed-kept : (two : Two) (ledger : Ledger) (role : Role) (message : Message) (left : List Message) → Handles two ledger role message left → react (base role) (body_at role two) message ≡ Passes → Kept (stepped role (body_at role two) left [] two) ledger
  passed-kept two ledger role message left (Passing e k) h = k
  passed-kept two ledger role message left (Taking later due told e k) h = let no_pass : Takes later due told ≡ Passes = sym e ∙ h in cc

  pub never-fails : (two : Two) (ledger : Ledger) (role : Role) (message : Message) (left : List Message) (fault : Fault) (body : Body) (aborts : List Message) (shown : List Indication) → Handles two ledger role message left → react (base role) (body_at role two) message ≡ Fails fault body aborts shown → ⊥
  never-fails two ledger role message left fault body aborts shown (Passing e k) h = let no_fault : Passes ≡ Fails fault body aborts shown = sym e ∙ h in cc
  never-fails two ledger role message left fault body aborts shown (Taking later due told e k) h = let no_fault : Takes later due told ≡ Fails fault body aborts shown = sym e ∙ h in cc
