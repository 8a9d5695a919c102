-- Two ends of direct mode, from the transport connection to the end of the association, with the run that goes with them.
use Rattle.std.proofs.Common.{◌≡◌, refl, true, false, ◌∙◌, sym, ap, subst, List, [], ◌∷◌, ◌++◌, ◌⊎◌}
use Rattle.std.proofs.Common.{inl, inr}
use Rattle.std.specs.Prelude.{ℤ, Bool, Option, Some, Ok, if◌then◌else◌}
use Rattle.osi_base.specs.declared.layer_words.Proposal.{Proposal}
use Rattle.osi_base.specs.declared.layer_words.SetItem.{SetItem}
use Rattle.stub_tables.specs.declared.tables.Tables.{Tables}
use Rattle.dialogue.specs.declared.config.Config.{Config}
use Rattle.dialogue.specs.declared.config.Mode.TheVariants.{Direct}
use Rattle.dialogue.specs.declared.config.Phase.{Phase}
use Rattle.dialogue.specs.declared.config.Phase.TheVariants.{Idle, Opening, Up, Releasing, Over}
use Rattle.dialogue.specs.declared.call.Call.{Call}
use Rattle.dialogue.specs.declared.call.Call.TheVariants as the_calls
use Rattle.dialogue.specs.declared.indication.Indication.{Indication}
use Rattle.end_rules.specs.Base.{Base, Spellings, Fault}
use Rattle.end_rules.specs.Messages.{ConnectionConfirm, Message, Transport, Session, Word}
use Rattle.end_rules.specs.State.{Body, Stage, Unused, Asked, Joined, Carrying, Transfer, Suspended}
use Rattle.end_rules.specs.State.{is_carrying, passes_over, on_transfer, NoAnswer, cut_all}
use Rattle.end_rules.specs.Writing.{user_abort}
use Rattle.end_rules.specs.Faults.{over}
use Rattle.end_rules.specs.Calling.{can_call, is_phase_for}
use Rattle.end_rules.specs.Requesting.{due_of}
use Rattle.end_rules.specs.Reacting.{Passes, Takes, Fails, react, react_alive}
use Rattle.end_rules.specs.History.{after_broke, broken_phase}
use Rattle.end_rules.specs.World.{Shared, shared_first}
use Rattle.agreement.specs.Sets.{Role, is_initiator}
use Rattle.agreement.specs.Sets.Role.{Initiator, Responder}
use Rattle.agreement.specs.Messages as model
use Rattle.agreement.specs.Messages.Act.{Withdraws}
use Rattle.agreement.specs.Messages.Mode.{Direct as model_direct}
use Rattle.agreement.specs.State.Phase.{Over as model_over}
use Rattle.agreement.specs.Acts.{MayWithdrawIn}
use Rattle.agreement.specs.Takings.{broken_phase as model_broken_phase}
use Rattle.agreement.specs.Worlds.{World}
use Rattle.agreement.specs.Worlds.Step.{Acts, Passes as model_passes}
use Rattle.agreement.specs.Worlds.Moment.{By, Break}
use Rattle.end_model.specs.Seen.{Free, role_seen, phase_seen, seen}
use Rattle.end_model.specs.Acting.{ActsAs, IsSoundBody, ReadsBack}
use Rattle.end_model.specs.Requests.{sent_all, after_called}
use Rattle.end_model.specs.BothEnds.{Common, Two, two_new, body_at, coming_to, stepped, both_broke}
use Rattle.end_model.specs.BothEnds.{WritesAll}
use Rattle.end_model.specs.Steps.{BreaksSo}
use Rattle.end_model.specs.DirectEnds.{direct_common, ProposesRightly}
use Rattle.end_model.specs.Sharing.{side_of, shared_all_sent, shared_all_answered, SetsSent}
use Rattle.end_model.specs.Sharing.{sets_to, sets_stepped, before, none_sent, Shares, begins, calls}
use Rattle.end_model.specs.Sharing.{takes, passes, fails, breaks}
use Rattle.end_model.proofs.Ladder.{called}
use Rattle.end_model.proofs.Requests.{opens-unseen}
use Rattle.end_model.proofs.Connecting.{connections-act, withdraw-phase}
use Rattle.end_model.proofs.Machine.{append-nil, passes-kept}
use Rattle.end_model.proofs.Joint.{AreDirect, acts-joint, passes-joint, units-joint, unseen-joint}
use Rattle.end_model.proofs.Joint.{breaks-joint}
use Rattle.end_model.proofs.DirectWords.{AreOwn, own-append, Live, Side, Stands, IsOver}
use Rattle.end_model.proofs.DirectTaking as taking
use Rattle.end_model.proofs.DirectTaking.{Passed, Took}
use Rattle.end_model.proofs.DirectCalling as calling
use Rattle.end_model.proofs.DirectOpening as opening
use Rattle.end_model.proofs.DirectOpening.{At, Accepts, Refuses}

-- ---- which calls a phase allows

only-open : (call : Call) → is_phase_for call Idle ≡ true → call ≡ the_calls.Open
only-open the_calls.Open h = refl
only-open (the_calls.Invoke context operation argument linked) h = cc
only-open (the_calls.Answer id result) h = cc
only-open (the_calls.Refuse id error parameter) h = cc
only-open (the_calls.Alter add delete) h = cc
only-open the_calls.Mark h = cc
only-open the_calls.Give h = cc
only-open (the_calls.Please priority) h = cc
only-open (the_calls.Resync n) h = cc
only-open the_calls.Interrupt h = cc
only-open the_calls.Resume h = cc
only-open the_calls.Discard h = cc
only-open the_calls.Recover h = cc
only-open the_calls.Release h = cc
only-open the_calls.Abort h = cc

only-abort : (call : Call) → is_phase_for call Opening ≡ true → call ≡ the_calls.Abort
only-abort the_calls.Open h = cc
only-abort (the_calls.Invoke context operation argument linked) h = cc
only-abort (the_calls.Answer id result) h = cc
only-abort (the_calls.Refuse id error parameter) h = cc
only-abort (the_calls.Alter add delete) h = cc
only-abort the_calls.Mark h = cc
only-abort the_calls.Give h = cc
only-abort (the_calls.Please priority) h = cc
only-abort (the_calls.Resync n) h = cc
only-abort the_calls.Interrupt h = cc
only-abort the_calls.Resume h = cc
only-abort the_calls.Discard h = cc
only-abort the_calls.Recover h = cc
only-abort the_calls.Release h = cc
only-abort the_calls.Abort h = refl

none-over : (call : Call) → is_phase_for call Over ≡ true → ⊥
none-over the_calls.Open h = cc
none-over (the_calls.Invoke context operation argument linked) h = cc
none-over (the_calls.Answer id result) h = cc
none-over (the_calls.Refuse id error parameter) h = cc
none-over (the_calls.Alter add delete) h = cc
none-over the_calls.Mark h = cc
none-over the_calls.Give h = cc
none-over (the_calls.Please priority) h = cc
none-over (the_calls.Resync n) h = cc
none-over the_calls.Interrupt h = cc
none-over the_calls.Resume h = cc
none-over the_calls.Discard h = cc
none-over the_calls.Recover h = cc
none-over the_calls.Release h = cc
none-over the_calls.Abort h = cc

over-calls : (base : Base) (body : Body) (call : Call) (answer : Option ℤ) → body.link.phase ≡ Over → can_call base body call ≡ Ok answer → ⊥
over-calls base body call answer e h = none-over call (ap (is_phase_for call) (sym e) ∙ (called base body call answer h).in_phase)

-- an abort leaves an end over
aborted-over : (body : Body) (sends : Bool) → (sent_all Direct (over body) (if sends then user_abort body.link.accepted 0 [] ∷ [] else [])).link.phase ≡ Over
aborted-over body true = refl
aborted-over body false = refl

module _ (free : Free) (tables : Tables) (spellings : Spellings) (a b : Config) where
  abbrev pub common : Common
  common = direct_common tables spellings a b

  abbrev pub base : Role → Base
  base = taking.base free tables spellings a b

  abbrev proposed : List Proposal
  proposed = taking.proposed free tables spellings a b

  abbrev setup : model.ModelSetup
  setup = taking.setup free tables spellings a b

  abbrev pub AreJoint : World → Role → Body → List Message → Body → List Message → List (List SetItem) → List (List SetItem) → Shared → Type 0
  AreJoint = taking.AreJoint free tables spellings a b

  abbrev pub cr : Message
  cr = opening.cr free tables spellings a b

  abbrev pub cn : Message
  cn = opening.cn free tables spellings a b

  abbrev pub confirm : Message
  confirm = Transport (ConnectionConfirm 1 (Some 10))

  abbrev pub AreOurs : List Message → Type 0
  AreOurs messages = AreOwn (base Initiator) messages

  abbrev pub SideOf : Body → List Message → Type 0
  SideOf body coming = Side (base Initiator) body coming

  -- what a responder waits for, whose initiator is over
  abbrev pub Left : Body → List Message → Type 0
  Left y g =
      (At Idle Unused y × ((g ≡ []) ⊎ (g ≡ cr ∷ []))) ⊎
      (At Opening Joined y × ((g ≡ []) ⊎ ((rest : List Message) × (g ≡ cn ∷ rest) × AreOurs rest)))

  -- the initiator x, the responder y, what comes to x, what comes to y
  pub data Opened (x y : Body) (f g : List Message) : Type 0 where
    Fresh : At Idle Unused x → At Idle Unused y → f ≡ [] → g ≡ [] → Opened x y f g
    Calling : At Opening Asked x → At Idle Unused y → f ≡ [] → g ≡ cr ∷ [] → Opened x y f g
    Confirming : At Opening Asked x → At Opening Joined y → f ≡ confirm ∷ [] → g ≡ [] → Opened x y f g
    Connecting : At Opening Carrying x → At Opening Joined y → f ≡ [] → g ≡ cn ∷ [] → Opened x y f g
    Accepting : At Opening Carrying x → (word : Word) → opening.IsAccept free tables spellings a b word → (rest : List Message) → f ≡ Session word ∷ rest → AreOurs rest → SideOf y g → Opened x y f g
    Refusing : At Opening Carrying x → y.link.phase ≡ Over → (word : Word) → opening.IsRefusal free tables spellings a b word → f ≡ Session word ∷ [] → Opened x y f g
    Deaf : y.link.phase ≡ Over → (At Opening Asked x × (f ≡ confirm ∷ [])) ⊎ (At Opening Carrying x × (f ≡ [])) → Opened x y f g
    Gone : x.link.phase ≡ Over → Left y g → Opened x y f g
    Standing : SideOf x f → SideOf y g → Opened x y f g

  -- what two ends have reached, with what they share: a run of the model, and how far the association is
  pub record Kept (two : Two) (shared : Shared) (sets : SetsSent) : Type 0 where
    pub world : World
    pub joint : AreJoint world Initiator two.a two.to_a two.b two.to_b sets.to_a sets.to_b shared
    pub sound_a : IsSoundBody Direct (base Initiator) two.a
    pub sound_b : IsSoundBody Direct (base Responder) two.b
    pub opened : Opened two.a two.b two.to_a two.to_b

  flip : {world : World} {x y : Body} {f g : List Message} {fs gs : List (List SetItem)} {shared : Shared} → AreJoint world Initiator x f y g fs gs shared → AreJoint world Responder y g x f gs fs shared
  flip j =
      record { ends = record { run = j.ends.run; own = j.ends.others; others = j.ends.own }; same = j.same; own_sets = j.peer_sets; peer_sets = j.own_sets }

  flop : {world : World} {x y : Body} {f g : List Message} {fs gs : List (List SetItem)} {shared : Shared} → AreJoint world Responder y g x f gs fs shared → AreJoint world Initiator x f y g fs gs shared
  flop j =
      record { ends = record { run = j.ends.run; own = j.ends.others; others = j.ends.own }; same = j.same; own_sets = j.peer_sets; peer_sets = j.own_sets }

  -- of the end of a role, with what is left, what it sent, and the shared set then
  keep-a : (two : Two) (shared : Shared) (sets : SetsSent) (world : World) (later : Body) (left sent : List Message) (rest : List (List SetItem)) (new : Shared) → AreJoint world Initiator later left two.b (two.to_b ++ sent) rest (sets.to_b ++ before shared sent) new → IsSoundBody Direct (base Initiator) later → IsSoundBody Direct (base Responder) two.b → Opened later two.b left (two.to_b ++ sent) → Kept (stepped Initiator later left sent two) new (sets_stepped Initiator rest (before shared sent) sets)
  keep-a two shared sets world later left sent rest new joint sound_a sound_b opened = record { world = world; joint = joint; sound_a = sound_a; sound_b = sound_b; opened = opened }

  keep-b : (two : Two) (shared : Shared) (sets : SetsSent) (world : World) (later : Body) (left sent : List Message) (rest : List (List SetItem)) (new : Shared) → AreJoint world Responder later left two.a (two.to_a ++ sent) rest (sets.to_a ++ before shared sent) new → IsSoundBody Direct (base Responder) later → IsSoundBody Direct (base Initiator) two.a → Opened two.a later (two.to_a ++ sent) left → Kept (stepped Responder later left sent two) new (sets_stepped Responder rest (before shared sent) sets)
  keep-b two shared sets world later left sent rest new joint sound_b sound_a opened = record { world = world; joint = flop joint; sound_a = sound_a; sound_b = sound_b; opened = opened }

  pub coming-a : (two : Two) (shared : Shared) (sets : SetsSent) (k : Kept two shared sets) (ms : List Message) (fs : List (List SetItem)) → two.to_a ≡ ms → sets.to_a ≡ fs → AreJoint k.world Initiator two.a ms two.b two.to_b fs sets.to_b shared
  coming-a two shared sets k ms fs e d =
      subst (λ xs. AreJoint k.world Initiator two.a ms two.b two.to_b xs sets.to_b shared) d (subst (λ f. AreJoint k.world Initiator two.a f two.b two.to_b sets.to_a sets.to_b shared) e k.joint)

  pub coming-b : (two : Two) (shared : Shared) (sets : SetsSent) (k : Kept two shared sets) (ms : List Message) (fs : List (List SetItem)) → two.to_b ≡ ms → sets.to_b ≡ fs → AreJoint k.world Responder two.b ms two.a two.to_a fs sets.to_a shared
  coming-b two shared sets k ms fs e d =
      subst (λ xs. AreJoint k.world Responder two.b ms two.a two.to_a xs sets.to_a shared) d (subst (λ g. AreJoint k.world Responder two.b g two.a two.to_a sets.to_b sets.to_a shared) e (flip k.joint))

  -- more on its way to an end
  side-more : (body : Body) (coming sent : List Message) → AreOurs sent → SideOf body coming → SideOf body (coming ++ sent)
  side-more body coming sent own (Stands live o) = Stands live (own-append (base Initiator) coming sent o own)
  side-more body coming sent own (IsOver e) = IsOver e

  side-of : (body : Body) (coming : List Message) → AreOurs coming → Live body ⊎ (body.link.phase ≡ Over) → SideOf body coming
  side-of body coming own (inl live) = Stands live own
  side-of body coming own (inr e) = IsOver e

  side-none : (body : Body) (coming : List Message) → SideOf body coming → SideOf body (coming ++ [])
  side-none body coming s = subst (SideOf body) (sym (append-nil coming)) s

  -- nothing is sent
  sends-none : {world : World} {role : Role} {body peer : Body} {coming : List Message} {rest : List (List SetItem)} {shared : Shared} (to_peer : List Message) (gs : List (List SetItem)) → AreJoint world role body coming peer to_peer rest gs shared → AreJoint world role body coming peer (to_peer ++ []) rest (gs ++ []) shared
  sends-none {world} {role} {body} {peer} {coming} {rest} {shared} to_peer gs j =
      subst (λ g. AreJoint world role body coming peer g rest (gs ++ []) shared) (sym (append-nil to_peer)) (subst (λ xs. AreJoint world role body coming peer to_peer rest xs shared) (sym (append-nil gs)) j)

  -- ---- what becomes of the message that comes next

  pub data Handles (two : Two) (shared : Shared) (sets : SetsSent) (role : Role) (message : Message) (left : List Message) (rest : List (List SetItem)) : Type 0 where
    Passing : react (base role) (body_at role two) message ≡ Passes → Kept (stepped role (body_at role two) left [] two) shared (sets_stepped role rest [] sets) → Handles two shared sets role message left rest
    Taking : (later : Body) (answers : List Message) (shown : List Indication) → react (base role) (body_at role two) message ≡ Takes later answers shown
        → Kept (stepped role later left answers two) (shared_all_answered (base role) message answers shared) (sets_stepped role rest (before shared answers) sets) → Handles two shared sets role message left rest

  abbrev HandlesNext : Two → Shared → SetsSent → Role → List Message → List (List SetItem) → Type 0
  HandlesNext two shared sets role [] fs = Unit {0}
  HandlesNext two shared sets role (message ∷ left) [] = Unit {0}
  HandlesNext two shared sets role (message ∷ left) (f ∷ rest) = Handles two shared sets role message left rest

  pub over-passes : (role : Role) (body : Body) (message : Message) → body.link.phase ≡ Over → react (base role) body message ≡ Passes
  over-passes role body message e = ap (λ p. if passes_over p then Passes else react_alive (base role) body message) e

  seen-over : (role : Role) (body : Body) → body.link.phase ≡ Over → (seen (base role) body).phase ≡ model_over
  seen-over role body e = ap (phase_seen body.link.stage) e

  pass : (world : World) (role : Role) (body : Body) (message : Message) (left : List Message) (peer : Body) (to_peer : List Message) (f : List SetItem) (rest gs : List (List SetItem)) (shared : Shared) → AreJoint world role body (message ∷ left) peer to_peer (f ∷ rest) gs shared → body.link.phase ≡ Over → (world' : World) × AreJoint world' role body left peer (to_peer ++ []) rest (gs ++ []) shared
  pass world role body (Transport unit) left peer to_peer f rest gs shared j e =
      (world, sends-none to_peer gs (units-joint free tables spellings a b world role body unit left peer to_peer f rest gs shared j))
  pass world role body (Session word) left peer to_peer f rest gs shared j e =
      let p = passes-kept free common proposed world role body word left peer to_peer j.ends (λ message means. inl (seen-over role body e)) in
      (By role (model_passes p.message) ∷ world, sends-none to_peer gs (passes-joint free tables spellings a b world role body word left peer to_peer f rest gs shared j p))

  passed-a : (two : Two) (shared : Shared) (sets : SetsSent) (k : Kept two shared sets) → two.a.link.phase ≡ Over → ((left : List Message) → Opened two.a two.b left (two.to_b ++ [])) → (ms : List Message) (fs : List (List SetItem)) → two.to_a ≡ ms → sets.to_a ≡ fs → HandlesNext two shared sets Initiator ms fs
  passed-a two shared sets k over opened [] fs e d = tt
  passed-a two shared sets k over opened (message ∷ left) [] e d = tt
  passed-a two shared sets k over opened (message ∷ left) (f ∷ rest) e d =
      let p = pass k.world Initiator two.a message left two.b two.to_b f rest sets.to_b shared (coming-a two shared sets k (message ∷ left) (f ∷ rest) e d) over in
      Passing (over-passes Initiator two.a message over) (keep-a two shared sets p.0 two.a left [] rest shared p.1 k.sound_a k.sound_b (opened left))

  passed-b : (two : Two) (shared : Shared) (sets : SetsSent) (k : Kept two shared sets) → two.b.link.phase ≡ Over → ((left : List Message) → Opened two.a two.b (two.to_a ++ []) left) → (ms : List Message) (fs : List (List SetItem)) → two.to_b ≡ ms → sets.to_b ≡ fs → HandlesNext two shared sets Responder ms fs
  passed-b two shared sets k over opened [] fs e d = tt
  passed-b two shared sets k over opened (message ∷ left) [] e d = tt
  passed-b two shared sets k over opened (message ∷ left) (f ∷ rest) e d =
      let p = pass k.world Responder two.b message left two.a two.to_a f rest sets.to_a shared (coming-b two shared sets k (message ∷ left) (f ∷ rest) e d) over in
      Passing (over-passes Responder two.b message over) (keep-b two shared sets p.0 two.b left [] rest shared p.1 k.sound_b k.sound_a (opened left))

  -- of an end whose association stands
  live-a : (two : Two) (shared : Shared) (sets : SetsSent) (k : Kept two shared sets) → WritesAll free → Live two.a → ((later : Body) (left answers : List Message) → SideOf later left → AreOurs answers → Opened later two.b left (two.to_b ++ answers)) → (ms : List Message) (fs : List (List SetItem)) → two.to_a ≡ ms → sets.to_a ≡ fs → AreOurs ms → HandlesNext two shared sets Initiator ms fs
  live-a two shared sets k writes live opened [] fs e d own = tt
  live-a two shared sets k writes live opened (Transport unit ∷ left) fs e d own = absurd own
  live-a two shared sets k writes live opened (Session word ∷ left) [] e d own = tt
  live-a two shared sets k writes live opened (Session word ∷ left) (f ∷ rest) e d own =
      go (taking.reacted free tables spellings a b k.world Initiator two.a word left two.b two.to_b f rest sets.to_b shared writes (coming-a two shared sets k (Session word ∷ left) (f ∷ rest) e d) k.sound_a live own.0)
    where
      go : taking.Reacted free tables spellings a b Initiator two.a word left two.b two.to_b rest sets.to_b shared → Handles two shared sets Initiator (Session word) left rest
      go (Passed world reacts j) =
          Passing reacts (keep-a two shared sets world two.a left [] rest shared (sends-none two.to_b sets.to_b j) k.sound_a k.sound_b (opened two.a left [] (Stands live own.1) tt))
      go (Took world later answers shown reacts j sound side ours) =
          Taking later answers shown reacts (keep-a two shared sets world later left answers rest (shared_all_answered (base Initiator) (Session word) answers shared) j sound k.sound_b (opened later left answers (side-of later left own.1 side) ours))

  live-b : (two : Two) (shared : Shared) (sets : SetsSent) (k : Kept two shared sets) → WritesAll free → Live two.b → ((later : Body) (left answers : List Message) → SideOf later left → AreOurs answers → Opened two.a later (two.to_a ++ answers) left) → (ms : List Message) (fs : List (List SetItem)) → two.to_b ≡ ms → sets.to_b ≡ fs → AreOurs ms → HandlesNext two shared sets Responder ms fs
  live-b two shared sets k writes live opened [] fs e d own = tt
  live-b two shared sets k writes live opened (Transport unit ∷ left) fs e d own = absurd own
  live-b two shared sets k writes live opened (Session word ∷ left) [] e d own = tt
  live-b two shared sets k writes live opened (Session word ∷ left) (f ∷ rest) e d own =
      go (taking.reacted free tables spellings a b k.world Responder two.b word left two.a two.to_a f rest sets.to_a shared writes (coming-b two shared sets k (Session word ∷ left) (f ∷ rest) e d) k.sound_b live own.0)
    where
      go : taking.Reacted free tables spellings a b Responder two.b word left two.a two.to_a rest sets.to_a shared → Handles two shared sets Responder (Session word) left rest
      go (Passed world reacts j) =
          Passing reacts (keep-b two shared sets world two.b left [] rest shared (sends-none two.to_a sets.to_a j) k.sound_b k.sound_a (opened two.b left [] (Stands live own.1) tt))
      go (Took world later answers shown reacts j sound side ours) =
          Taking later answers shown reacts (keep-b two shared sets world later left answers rest (shared_all_answered (base Responder) (Session word) answers shared) j sound k.sound_a (opened later left answers (side-of later left own.1 side) ours))

  left-none : (y : Body) (g : List Message) → Left y g → Left y (g ++ [])
  left-none y g l = subst (Left y) (sym (append-nil g)) l

  -- the message comes, and nothing else
  one-a : (two : Two) (shared : Shared) (sets : SetsSent) (message : Message) (left : List Message) → two.to_a ≡ message ∷ left → ((f : List SetItem) (rest : List (List SetItem)) → sets.to_a ≡ f ∷ rest → Handles two shared sets Initiator message left rest) → HandlesNext two shared sets Initiator two.to_a sets.to_a
  one-a two shared sets message left e h = subst (λ ms. HandlesNext two shared sets Initiator ms sets.to_a) (sym e) (go sets.to_a refl)
    where
      go : (fs : List (List SetItem)) → sets.to_a ≡ fs → HandlesNext two shared sets Initiator (message ∷ left) fs
      go [] d = tt
      go (f ∷ rest) d = h f rest d

  one-b : (two : Two) (shared : Shared) (sets : SetsSent) (message : Message) (left : List Message) → two.to_b ≡ message ∷ left → ((f : List SetItem) (rest : List (List SetItem)) → sets.to_b ≡ f ∷ rest → Handles two shared sets Responder message left rest) → HandlesNext two shared sets Responder two.to_b sets.to_b
  one-b two shared sets message left e h = subst (λ ms. HandlesNext two shared sets Responder ms sets.to_b) (sym e) (go sets.to_b refl)
    where
      go : (fs : List (List SetItem)) → sets.to_b ≡ fs → HandlesNext two shared sets Responder (message ∷ left) fs
      go [] d = tt
      go (f ∷ rest) d = h f rest d

  nothing-a : (two : Two) (shared : Shared) (sets : SetsSent) → two.to_a ≡ [] → HandlesNext two shared sets Initiator two.to_a sets.to_a
  nothing-a two shared sets e = subst (λ ms. HandlesNext two shared sets Initiator ms sets.to_a) (sym e) tt

  nothing-b : (two : Two) (shared : Shared) (sets : SetsSent) → two.to_b ≡ [] → HandlesNext two shared sets Responder two.to_b sets.to_b
  nothing-b two shared sets e = subst (λ ms. HandlesNext two shared sets Responder ms sets.to_b) (sym e) tt

  handles-a : (two : Two) (shared : Shared) (sets : SetsSent) → WritesAll free → Kept two shared sets → HandlesNext two shared sets Initiator two.to_a sets.to_a
  handles-a two shared sets writes k = go k.opened
    where
      confirmed-so : At Opening Asked two.a → two.to_a ≡ confirm ∷ [] → ((later : Body) → At Opening Carrying later → Opened later two.b [] (two.to_b ++ cn ∷ [])) → HandlesNext two shared sets Initiator two.to_a sets.to_a
      confirmed-so p e opened =
          one-a two shared sets confirm [] e
          (λ f rest d.
          let x = opening.confirmed free tables spellings a b k.world two.a [] two.b two.to_b f rest sets.to_b shared (coming-a two shared sets k (confirm ∷ []) (f ∷ rest) e d) k.sound_a p in
          Taking x.later (cn ∷ []) [] x.reacts (keep-a two shared sets _ x.later [] (cn ∷ []) rest shared x.ends x.sound k.sound_b (opened x.later x.at)))

      go : Opened two.a two.b two.to_a two.to_b → HandlesNext two shared sets Initiator two.to_a sets.to_a
      go (Fresh p q e f) = nothing-a two shared sets e
      go (Calling p q e f) = nothing-a two shared sets e
      go (Connecting p q e f) = nothing-a two shared sets e
      go (Confirming p q e f) = confirmed-so p e (λ later at. Connecting at q refl (ap (λ g. g ++ cn ∷ []) f))
      go (Accepting p word x more e own s) =
          one-a two shared sets (Session word) more e
          (λ f rest d.
          let t = opening.accepted free tables spellings a b k.world two.a word more two.b two.to_b f rest sets.to_b shared (coming-a two shared sets k (Session word ∷ more) (f ∷ rest) e d) k.sound_a p x in
          Taking t.later [] t.shown t.reacts (keep-a two shared sets t.world' t.later more [] rest shared t.ends t.sound k.sound_b (Standing (side-of t.later more own t.side) (side-none two.b two.to_b s))))
      go (Refusing p q word x e) =
          one-a two shared sets (Session word) [] e
          (λ f rest d.
          let t = opening.refused-by free tables spellings a b k.world two.a word [] two.b two.to_b f rest sets.to_b shared (coming-a two shared sets k (Session word ∷ []) (f ∷ rest) e d) k.sound_a p x in
          Taking t.later [] t.shown t.reacts (keep-a two shared sets t.world' t.later [] [] rest shared t.ends t.sound k.sound_b (Standing (side-of t.later [] tt t.side) (IsOver q))))
      go (Deaf q (inl h)) = confirmed-so h.0 h.1 (λ later at. Deaf q (inr (at, refl)))
      go (Deaf q (inr h)) = nothing-a two shared sets h.1
      go (Gone p l) = passed-a two shared sets k p (λ left. Gone p (left-none two.b two.to_b l)) two.to_a sets.to_a refl refl
      go (Standing (Stands live own) s) =
          live-a two shared sets k writes live (λ later left answers side ours. Standing side (side-more two.b two.to_b answers ours s)) two.to_a sets.to_a refl refl own
      go (Standing (IsOver p) s) = passed-a two shared sets k p (λ left. Standing (IsOver p) (side-none two.b two.to_b s)) two.to_a sets.to_a refl refl

  handles-b : (two : Two) (shared : Shared) (sets : SetsSent) → WritesAll free → ProposesRightly common → Kept two shared sets → HandlesNext two shared sets Responder two.to_b sets.to_b
  handles-b two shared sets writes right k = go k.opened
    where
      sent-a : {word : Word} {more : List Message} → two.to_a ≡ Session word ∷ more → (sent : List Message) → two.to_a ++ sent ≡ Session word ∷ more ++ sent
      sent-a e sent = ap (λ f. f ++ sent) e

      asked-so : At Idle Unused two.b → two.to_b ≡ cr ∷ [] → ((later : Body) → At Opening Joined later → Opened two.a later (two.to_a ++ confirm ∷ []) []) → HandlesNext two shared sets Responder two.to_b sets.to_b
      asked-so q e opened =
          one-b two shared sets cr [] e
          (λ f rest d.
          let x = opening.asked free tables spellings a b k.world two.b [] two.a two.to_a f rest sets.to_a shared (coming-b two shared sets k (cr ∷ []) (f ∷ rest) e d) k.sound_b q in
          Taking x.later (confirm ∷ []) [] x.reacts (keep-b two shared sets k.world x.later [] (confirm ∷ []) rest shared x.ends x.sound k.sound_a (opened x.later x.at)))

      connected-so : At Opening Joined two.b → (more : List Message) → two.to_b ≡ cn ∷ more → ((later : Body) (answer : Word) → Live later → opening.IsAccept free tables spellings a b answer → Opened two.a later (two.to_a ++ Session answer ∷ []) more) → ((later : Body) (answer : Word) → later.link.phase ≡ Over → opening.IsRefusal free tables spellings a b answer → Opened two.a later (two.to_a ++ Session answer ∷ []) more) → HandlesNext two shared sets Responder two.to_b sets.to_b
      connected-so q more e accepts refuses =
          one-b two shared sets cn more e
          (λ f rest d. next rest (opening.connected free tables spellings a b k.world two.b more two.a two.to_a f rest sets.to_a shared right (coming-b two shared sets k (cn ∷ more) (f ∷ rest) e d) k.sound_b q))
        where
          next : (rest : List (List SetItem)) → opening.Connected free tables spellings a b two.b more two.a two.to_a rest sets.to_a shared → Handles two shared sets Responder cn more rest
          next rest (Accepts world later answer shown reacts j sound live x) =
              Taking later (Session answer ∷ []) shown reacts (keep-b two shared sets world later more (Session answer ∷ []) rest (shared_all_answered (base Responder) cn (Session answer ∷ []) shared) j sound k.sound_a (accepts later answer live x))
          next rest (Refuses world later answer shown reacts j sound gone x) =
              Taking later (Session answer ∷ []) shown reacts (keep-b two shared sets world later more (Session answer ∷ []) rest (shared_all_answered (base Responder) cn (Session answer ∷ []) shared) j sound k.sound_a (refuses later answer gone x))

      go : Opened two.a two.b two.to_a two.to_b → HandlesNext two shared sets Responder two.to_b sets.to_b
      go (Fresh p q e f) = nothing-b two shared sets f
      go (Confirming p q e f) = nothing-b two shared sets f
      go (Calling p q e f) = asked-so q f (λ later at. Confirming p at (ap (λ ms. ms ++ confirm ∷ []) e) refl)
      go (Connecting p q e f) =
          connected-so q [] f (λ later answer live x. Accepting p answer x [] (ap (λ ms. ms ++ Session answer ∷ []) e) tt (Stands live tt))
          (λ later answer gone x. Refusing p gone answer x (ap (λ ms. ms ++ Session answer ∷ []) e))
      go (Accepting p word x more e own (Stands live o)) =
          live-b two shared sets k writes live (λ later left answers side ours. Accepting p word x (more ++ answers) (sent-a e answers) (own-append (base Initiator) more answers own ours) side) two.to_b sets.to_b refl refl o
      go (Accepting p word x more e own (IsOver q)) =
          passed-b two shared sets k q (λ left. Accepting p word x (more ++ []) (sent-a e []) (own-append (base Initiator) more [] own tt) (IsOver q)) two.to_b sets.to_b refl refl
      go (Refusing p q word x e) = passed-b two shared sets k q (λ left. Refusing p q word x (sent-a e [])) two.to_b sets.to_b refl refl
      go (Deaf q (inl h)) = passed-b two shared sets k q (λ left. Deaf q (inl (h.0, ap (λ f. f ++ []) h.1))) two.to_b sets.to_b refl refl
      go (Deaf q (inr h)) = passed-b two shared sets k q (λ left. Deaf q (inr (h.0, ap (λ f. f ++ []) h.1))) two.to_b sets.to_b refl refl
      go (Gone p (inl h)) = idle h.1
        where
          idle : (two.to_b ≡ []) ⊎ (two.to_b ≡ cr ∷ []) → HandlesNext two shared sets Responder two.to_b sets.to_b
          idle (inl f) = nothing-b two shared sets f
          idle (inr f) = asked-so h.0 f (λ later at. Gone p (inr (at, inl refl)))
      go (Gone p (inr h)) = waiting h.1
        where
          waiting : (two.to_b ≡ []) ⊎ ((more : List Message) × (two.to_b ≡ cn ∷ more) × AreOurs more) → HandlesNext two shared sets Responder two.to_b sets.to_b
          waiting (inl f) = nothing-b two shared sets f
          waiting (inr w) = connected-so h.0 w.0 w.1 (λ later answer live x. Standing (IsOver p) (Stands live w.2)) (λ later answer gone x. Standing (IsOver p) (IsOver gone))
      go (Standing s (Stands live own)) =
          live-b two shared sets k writes live (λ later left answers side ours. Standing (side-more two.a two.to_a answers ours s) side) two.to_b sets.to_b refl refl own
      go (Standing s (IsOver q)) = passed-b two shared sets k q (λ left. Standing (side-none two.a two.to_a s) (IsOver q)) two.to_b sets.to_b refl refl

  -- ---- accepted calls

  -- what a call that sends this leads to
  abbrev CalledA : Two → Shared → SetsSent → Call → Option ℤ → Type 0
  CalledA two shared sets call answer =
      Kept (stepped Initiator (after_called Direct (base Initiator) two.a call answer) two.to_a (due_of (base Initiator) two.a call (Ok answer)) two)
      (shared_all_sent Direct (side_of Initiator) (due_of (base Initiator) two.a call (Ok answer)) shared)
      (sets_stepped Initiator sets.to_a (before shared (due_of (base Initiator) two.a call (Ok answer))) sets)

  abbrev CalledB : Two → Shared → SetsSent → Call → Option ℤ → Type 0
  CalledB two shared sets call answer =
      Kept (stepped Responder (after_called Direct (base Responder) two.b call answer) two.to_b (due_of (base Responder) two.b call (Ok answer)) two)
      (shared_all_sent Direct (side_of Responder) (due_of (base Responder) two.b call (Ok answer)) shared)
      (sets_stepped Responder sets.to_b (before shared (due_of (base Responder) two.b call (Ok answer))) sets)

  -- of an end that is up or releasing
  stood-a : (two : Two) (shared : Shared) (sets : SetsSent) (k : Kept two shared sets) (call : Call) (answer : Option ℤ) → WritesAll free → ReadsBack (base Initiator) → Live two.a → AreOurs two.to_a → ((sent : List Message) → AreOurs sent → SideOf two.b (two.to_b ++ sent)) → can_call (base Initiator) two.a call ≡ Ok answer → CalledA two shared sets call answer
  stood-a two shared sets k call answer writes back live own s h =
      let c = calling.called-so free tables spellings a b k.world Initiator two.a call answer two.to_a two.b two.to_b sets.to_a sets.to_b shared writes back k.joint k.sound_a live h in
      keep-a two shared sets c.world (after_called Direct (base Initiator) two.a call answer) two.to_a (due_of (base Initiator) two.a call (Ok answer)) sets.to_a (shared_all_sent Direct (side_of Initiator) (due_of (base Initiator) two.a call (Ok answer)) shared) c.ends c.sound k.sound_b
      (Standing (side-of _ two.to_a own c.side) (s _ c.own))

  stood-b : (two : Two) (shared : Shared) (sets : SetsSent) (k : Kept two shared sets) (call : Call) (answer : Option ℤ) → WritesAll free → ReadsBack (base Initiator) → Live two.b → AreOurs two.to_b → ((later : Body) (sent : List Message) → SideOf later two.to_b → AreOurs sent → Opened two.a later (two.to_a ++ sent) two.to_b) → can_call (base Responder) two.b call ≡ Ok answer → CalledB two shared sets call answer
  stood-b two shared sets k call answer writes back live own opened h =
      let c = calling.called-so free tables spellings a b k.world Responder two.b call answer two.to_b two.a two.to_a sets.to_b sets.to_a shared writes back (flip k.joint) k.sound_b live h in
      keep-b two shared sets c.world (after_called Direct (base Responder) two.b call answer) two.to_b (due_of (base Responder) two.b call (Ok answer)) sets.to_b (shared_all_sent Direct (side_of Responder) (due_of (base Responder) two.b call (Ok answer)) shared) c.ends c.sound k.sound_a
      (opened _ _ (side-of _ two.to_b own c.side) c.own)

  -- an abort, with an AB or before a CN
  record Ended (role : Role) (later : Body) (sent coming : List Message) (peer : Body) (to_peer : List Message) (fs gs : List (List SetItem)) (shared : Shared) : Type 0 where
    world : World
    joint : AreJoint world role later coming peer (to_peer ++ sent) fs (gs ++ before shared sent) (shared_all_sent Direct (side_of role) sent shared)
    sound : IsSoundBody Direct (base role) later
    is_over : later.link.phase ≡ Over
    own : AreOurs sent

  withdrawing : (world : World) (role : Role) (body : Body) (answer : Option ℤ) (coming : List Message) (peer : Body) (to_peer : List Message) (fs gs : List (List SetItem)) (shared : Shared) → AreJoint world role body coming peer to_peer fs gs shared → IsSoundBody Direct (base role) body → is_carrying body.link.stage ≡ false → body.link.phase ≡ Opening → can_call (base role) body the_calls.Abort ≡ Ok answer → Ended role (after_called Direct (base role) body the_calls.Abort answer) (due_of (base role) body the_calls.Abort (Ok answer)) coming peer to_peer fs gs shared
  withdrawing world role body answer coming peer to_peer fs gs shared j sound stage phase h =
      let none : due_of (base role) body the_calls.Abort (Ok answer) ≡ [] = ap (λ c. if c then user_abort body.link.accepted 0 [] ∷ [] else []) stage in
      let later : after_called Direct (base role) body the_calls.Abort answer ≡ over body = ap (sent_all Direct (over body)) none in
      record {
        world = By role (Acts Withdraws) ∷ world;
        joint = acts-joint free tables spellings a b world role body (after_called Direct (base role) body the_calls.Abort answer) coming peer to_peer (due_of (base role) body the_calls.Abort (Ok answer)) Withdraws fs gs shared j (connections-act.withdraws Direct free (base role) proposed body answer tt stage phase h) (subst AreDirect (sym none) tt);
        sound = subst (IsSoundBody Direct (base role)) (sym later) (record { numbered = tt; calm = tt; sets = tt; queues = sound.queues });
        is_over = ap (λ (y : Body). y.link.phase) later;
        own = subst AreOurs (sym none) tt;
      }

  no-due : (role : Role) (body : Body) (answer : Option ℤ) → is_carrying body.link.stage ≡ false → due_of (base role) body the_calls.Abort (Ok answer) ≡ []
  no-due role body answer stage = ap (λ c. if c then user_abort body.link.accepted 0 [] ∷ [] else []) stage

  sending-abort : (world : World) (role : Role) (body : Body) (answer : Option ℤ) (coming : List Message) (peer : Body) (to_peer : List Message) (fs gs : List (List SetItem)) (shared : Shared) → AreJoint world role body coming peer to_peer fs gs shared → IsSoundBody Direct (base role) body → body.link.stage ≡ Carrying → can_call (base role) body the_calls.Abort ≡ Ok answer → Ended role (after_called Direct (base role) body the_calls.Abort answer) (due_of (base role) body the_calls.Abort (Ok answer)) coming peer to_peer fs gs shared
  sending-abort world role body answer coming peer to_peer fs gs shared j sound stage h =
      let c = calling.aborting free tables spellings a b world role body answer coming peer to_peer fs gs shared j sound stage h in
      record { world = c.world; joint = c.ends; sound = c.sound; is_over = aborted-over body (is_carrying body.link.stage); own = c.own }

  ended-a : (two : Two) (shared : Shared) (sets : SetsSent) (k : Kept two shared sets) (answer : Option ℤ) → Ended Initiator (after_called Direct (base Initiator) two.a the_calls.Abort answer) (due_of (base Initiator) two.a the_calls.Abort (Ok answer)) two.to_a two.b two.to_b sets.to_a sets.to_b shared → ((later : Body) → later.link.phase ≡ Over → AreOurs (due_of (base Initiator) two.a the_calls.Abort (Ok answer)) → Opened later two.b two.to_a (two.to_b ++ due_of (base Initiator) two.a the_calls.Abort (Ok answer))) → CalledA two shared sets the_calls.Abort answer
  ended-a two shared sets k answer e opened =
      keep-a two shared sets e.world (after_called Direct (base Initiator) two.a the_calls.Abort answer) two.to_a (due_of (base Initiator) two.a the_calls.Abort (Ok answer)) sets.to_a (shared_all_sent Direct (side_of Initiator) (due_of (base Initiator) two.a the_calls.Abort (Ok answer)) shared) e.joint e.sound k.sound_b (opened _ e.is_over e.own)

  ended-b : (two : Two) (shared : Shared) (sets : SetsSent) (k : Kept two shared sets) (answer : Option ℤ) → Ended Responder (after_called Direct (base Responder) two.b the_calls.Abort answer) (due_of (base Responder) two.b the_calls.Abort (Ok answer)) two.to_b two.a two.to_a sets.to_b sets.to_a shared → ((later : Body) → later.link.phase ≡ Over → Opened two.a later (two.to_a ++ due_of (base Responder) two.b the_calls.Abort (Ok answer)) two.to_b) → CalledB two shared sets the_calls.Abort answer
  ended-b two shared sets k answer e opened =
      keep-b two shared sets e.world (after_called Direct (base Responder) two.b the_calls.Abort answer) two.to_b (due_of (base Responder) two.b the_calls.Abort (Ok answer)) sets.to_b (shared_all_sent Direct (side_of Responder) (due_of (base Responder) two.b the_calls.Abort (Ok answer)) shared) e.joint e.sound k.sound_a (opened _ e.is_over)

  -- which call it is, by the phase
  in-phase : (role : Role) (body : Body) (call : Call) (answer : Option ℤ) (phase : Phase) → body.link.phase ≡ phase → can_call (base role) body call ≡ Ok answer → is_phase_for call phase ≡ true
  in-phase role body call answer phase e h = ap (is_phase_for call) (sym e) ∙ (called (base role) body call answer h).in_phase

  opens-a : (two : Two) (shared : Shared) (sets : SetsSent) (k : Kept two shared sets) (answer : Option ℤ) → At Idle Unused two.a → At Idle Unused two.b → two.to_a ≡ [] → two.to_b ≡ [] → can_call (base Initiator) two.a the_calls.Open ≡ Ok answer → CalledA two shared sets the_calls.Open answer
  opens-a two shared sets k answer p q e f h =
      let later : Body = after_called Direct (base Initiator) two.a the_calls.Open answer in
      let u = opens-unseen Direct (base Initiator) proposed two.a answer h in
      keep-a two shared sets k.world later two.to_a (cr ∷ []) sets.to_a shared
      (unseen-joint free tables spellings a b k.world Initiator two.a later two.to_a two.b two.to_b (cr ∷ []) sets.to_a sets.to_b shared k.joint u.0 u.1)
      (record { numbered = k.sound_a.numbered; calm = tt; sets = tt; queues = k.sound_a.queues }) k.sound_b
      (Calling (record { phase_is = refl; stage_is = refl; calm = p.calm }) q e (ap (λ g. g ++ cr ∷ []) f))

  calls-a : (two : Two) (shared : Shared) (sets : SetsSent) (call : Call) (answer : Option ℤ) → WritesAll free → ReadsBack (base Initiator) → Kept two shared sets → can_call (base Initiator) two.a call ≡ Ok answer → CalledA two shared sets call answer
  calls-a two shared sets call answer writes back k h = go k.opened
    where
      aborts : At Opening Carrying two.a → ((later : Body) → later.link.phase ≡ Over → (due : List Message) → AreOurs due → Opened later two.b two.to_a (two.to_b ++ due)) → CalledA two shared sets call answer
      aborts p opened =
          let e = only-abort call (in-phase Initiator two.a call answer Opening p.phase_is h) in
          subst (λ c. CalledA two shared sets c answer) (sym e)
          (ended-a two shared sets k answer (sending-abort k.world Initiator two.a answer two.to_a two.b two.to_b sets.to_a sets.to_b shared k.joint k.sound_a p.stage_is (subst (λ c. can_call (base Initiator) two.a c ≡ Ok answer) e h)) (λ later gone own. opened later gone _ own))

      withdraws : At Opening Asked two.a → ((later : Body) → later.link.phase ≡ Over → Opened later two.b two.to_a (two.to_b ++ [])) → CalledA two shared sets call answer
      withdraws p opened =
          let e = only-abort call (in-phase Initiator two.a call answer Opening p.phase_is h) in
          let stage : is_carrying two.a.link.stage ≡ false = ap is_carrying p.stage_is in
          subst (λ c. CalledA two shared sets c answer) (sym e)
          (ended-a two shared sets k answer (withdrawing k.world Initiator two.a answer two.to_a two.b two.to_b sets.to_a sets.to_b shared k.joint k.sound_a stage p.phase_is (subst (λ c. can_call (base Initiator) two.a c ≡ Ok answer) e h))
          (λ later gone own. subst (λ due. Opened later two.b two.to_a (two.to_b ++ due)) (sym (no-due Initiator two.a answer stage)) (opened later gone)))

      go : Opened two.a two.b two.to_a two.to_b → CalledA two shared sets call answer
      go (Fresh p q e f) =
          let o = only-open call (in-phase Initiator two.a call answer Idle p.phase_is h) in
          subst (λ c. CalledA two shared sets c answer) (sym o) (opens-a two shared sets k answer p q e f (subst (λ c. can_call (base Initiator) two.a c ≡ Ok answer) o h))
      go (Calling p q e f) = withdraws p (λ later gone. Gone gone (inl (q, inr (ap (λ g. g ++ []) f))))
      go (Confirming p q e f) = withdraws p (λ later gone. Gone gone (inr (q, inl (ap (λ g. g ++ []) f))))
      go (Connecting p q e f) = aborts p (λ later gone due own. Gone gone (inr (q, inr (due, ap (λ g. g ++ due) f, own))))
      go (Accepting p word x rest e own s) = aborts p (λ later gone due ours. Standing (IsOver gone) (side-more two.b two.to_b due ours s))
      go (Refusing p q word x e) = aborts p (λ later gone due ours. Standing (IsOver gone) (IsOver q))
      go (Deaf q (inl x)) = withdraws x.0 (λ later gone. Standing (IsOver gone) (IsOver q))
      go (Deaf q (inr x)) = aborts x.0 (λ later gone due ours. Standing (IsOver gone) (IsOver q))
      go (Gone p l) = absurd (over-calls (base Initiator) two.a call answer p h)
      go (Standing (Stands live own) s) = stood-a two shared sets k call answer writes back live own (λ sent ours. side-more two.b two.to_b sent ours s) h
      go (Standing (IsOver p) s) = absurd (over-calls (base Initiator) two.a call answer p h)

  calls-b : (two : Two) (shared : Shared) (sets : SetsSent) (call : Call) (answer : Option ℤ) → WritesAll free → ReadsBack (base Initiator) → Kept two shared sets → can_call (base Responder) two.b call ≡ Ok answer → CalledB two shared sets call answer
  calls-b two shared sets call answer writes back k h = go k.opened
    where
      -- only an initiator opens
      no_open : At Idle Unused two.b → ⊥
      no_open q =
          let o = only-open call (in-phase Responder two.b call answer Idle q.phase_is h) in
          let c = (called (base Responder) two.b the_calls.Open answer (subst (λ c. can_call (base Responder) two.b c ≡ Ok answer) o h)).initiates in
          cc

      withdraws : At Opening Joined two.b → ((later : Body) → later.link.phase ≡ Over → Opened two.a later (two.to_a ++ []) two.to_b) → CalledB two shared sets call answer
      withdraws q opened =
          let e = only-abort call (in-phase Responder two.b call answer Opening q.phase_is h) in
          let stage : is_carrying two.b.link.stage ≡ false = ap is_carrying q.stage_is in
          subst (λ c. CalledB two shared sets c answer) (sym e)
          (ended-b two shared sets k answer (withdrawing k.world Responder two.b answer two.to_b two.a two.to_a sets.to_b sets.to_a shared (flip k.joint) k.sound_b stage q.phase_is (subst (λ c. can_call (base Responder) two.b c ≡ Ok answer) e h))
          (λ later gone. subst (λ due. Opened two.a later (two.to_a ++ due) two.to_b) (sym (no-due Responder two.b answer stage)) (opened later gone)))

      go : Opened two.a two.b two.to_a two.to_b → CalledB two shared sets call answer
      go (Fresh p q e f) = absurd (no_open q)
      go (Calling p q e f) = absurd (no_open q)
      go (Confirming p q e f) = withdraws q (λ later gone. Deaf gone (inl (p, ap (λ ms. ms ++ []) e)))
      go (Connecting p q e f) = withdraws q (λ later gone. Deaf gone (inr (p, ap (λ ms. ms ++ []) e)))
      go (Accepting p word x more e own (Stands live o)) =
          stood-b two shared sets k call answer writes back live o (λ later sent side ours. Accepting p word x (more ++ sent) (ap (λ f. f ++ sent) e) (own-append (base Initiator) more sent own ours) side) h
      go (Accepting p word x more e own (IsOver q)) = absurd (over-calls (base Responder) two.b call answer q h)
      go (Refusing p q word x e) = absurd (over-calls (base Responder) two.b call answer q h)
      go (Deaf q x) = absurd (over-calls (base Responder) two.b call answer q h)
      go (Gone p (inl x)) = absurd (no_open x.0)
      go (Gone p (inr x)) = withdraws x.0 (λ later gone. Standing (IsOver p) (IsOver gone))
      go (Standing s (Stands live own)) = stood-b two shared sets k call answer writes back live own (λ later sent side ours. Standing (side-more two.a two.to_a sent ours s) side) h
      go (Standing s (IsOver q)) = absurd (over-calls (base Responder) two.b call answer q h)

  -- ---- breaks: an opening that breaks before its CN is withdrawn in the model

  record Settled (role : Role) (body : Body) (coming : List Message) (peer : Body) (to_peer : List Message) (fs gs : List (List SetItem)) (shared : Shared) : Type 0 where
    world : World
    later : Body
    joint : AreJoint world role later coming peer to_peer fs gs shared
    breaks_so : BreaksSo common later
    same : after_broke (base role) later ≡ after_broke (base role) body

  data Breakable (body : Body) : Type 0 where
    AsModel : BreaksSo common body → Breakable body
    BeforeCn : body.link.phase ≡ Opening → is_carrying body.link.stage ≡ false → Breakable body

  over-breaks : (body : Body) → body.link.phase ≡ Over → BreaksSo common body
  over-breaks body e = subst (λ p. phase_seen Unused (broken_phase Direct p) ≡ model_broken_phase model_direct (phase_seen body.link.stage p)) (sym e) refl

  broken-over : (role : Role) (body : Body) → body.link.phase ≡ Opening → after_broke (base role) (over body) ≡ after_broke (base role) body
  broken-over role body e =
      let put : Phase → Body = λ p.
      cut_all (record (on_transfer (λ (t : Transfer). record t { progress = Suspended }) body) {
        link = record body.link { phase = p; stage = Unused; gave = false; awaits = NoAnswer };
        receiving = record body.receiving { active = false };
      }) in
      ap put (sym (ap (broken_phase Direct) e))

  settle : (world : World) (role : Role) (body : Body) (coming : List Message) (peer : Body) (to_peer : List Message) (fs gs : List (List SetItem)) (shared : Shared) → AreJoint world role body coming peer to_peer fs gs shared → Breakable body → Settled role body coming peer to_peer fs gs shared
  settle world role body coming peer to_peer fs gs shared j (AsModel h) = record { world = world; later = body; joint = j; breaks_so = h; same = refl }
  settle world role body coming peer to_peer fs gs shared j (BeforeCn phase stage) =
      let act : ActsAs free Direct (base role) proposed body (over body) [] Withdraws =
      record {
        may = record { in_phase = subst (λ p. MayWithdrawIn (role_seen (is_initiator role)) (phase_seen body.link.stage p)) (sym phase) (withdraw-phase (role_seen (is_initiator role)) body.link.stage stage); in_mode = tt };
        after = refl;
        means = tt;
      } in
      record {
        world = By role (Acts Withdraws) ∷ world;
        later = over body;
        joint =
            subst (λ g. AreJoint (By role (Acts Withdraws) ∷ world) role (over body) coming peer g fs gs shared) (append-nil to_peer)
            (subst (λ xs. AreJoint (By role (Acts Withdraws) ∷ world) role (over body) coming peer (to_peer ++ []) fs xs shared) (append-nil gs)
            (acts-joint free tables spellings a b world role body (over body) coming peer to_peer [] Withdraws fs gs shared j act tt));
        breaks_so = over-breaks (over body) refl;
        same = broken-over role body phase;
      }

  at-breaks : (phase : Phase) (stage : Stage) (body : Body) → phase_seen Unused (broken_phase Direct phase) ≡ model_broken_phase model_direct (phase_seen stage phase) → At phase stage body → BreaksSo common body
  at-breaks phase stage body h at =
      subst (λ p. phase_seen Unused (broken_phase Direct p) ≡ model_broken_phase model_direct (phase_seen body.link.stage p)) (sym at.phase_is)
      (subst (λ s. phase_seen Unused (broken_phase Direct phase) ≡ model_broken_phase model_direct (phase_seen s phase)) (sym at.stage_is) h)

  side-breaks : (body : Body) (coming : List Message) → SideOf body coming → (BreaksSo common body) × (broken_phase Direct body.link.phase ≡ Over)
  side-breaks body coming (IsOver e) = (over-breaks body e, ap (broken_phase Direct) e)
  side-breaks body coming (Stands live own) = go live.phase
    where
      go : (body.link.phase ≡ Up) ⊎ (body.link.phase ≡ Releasing) → (BreaksSo common body) × (broken_phase Direct body.link.phase ≡ Over)
      go (inl e) = (subst (λ p. phase_seen Unused (broken_phase Direct p) ≡ model_broken_phase model_direct (phase_seen body.link.stage p)) (sym e) refl, ap (broken_phase Direct) e)
      go (inr e) = (subst (λ p. phase_seen Unused (broken_phase Direct p) ≡ model_broken_phase model_direct (phase_seen body.link.stage p)) (sym e) refl, ap (broken_phase Direct) e)

  broke : (two : Two) (shared : Shared) (sets : SetsSent) → Kept two shared sets → Breakable two.a → Breakable two.b → Opened (after_broke (base Initiator) two.a) (after_broke (base Responder) two.b) [] [] → Kept (both_broke common two) shared none_sent
  broke two shared sets k x y opened =
      let s = settle k.world Initiator two.a two.to_a two.b two.to_b sets.to_a sets.to_b shared k.joint x in
      let t = settle s.world Responder two.b two.to_b s.later two.to_a sets.to_b sets.to_a shared (flip s.joint) y in
      let e = breaks-joint free tables spellings a b t.world Initiator s.later two.to_a t.later two.to_b sets.to_a sets.to_b shared (flop t.joint) s.breaks_so t.breaks_so in
      record {
        world = Break ∷ t.world;
        joint = subst (λ v. AreJoint (Break ∷ t.world) Initiator v [] (after_broke (base Responder) two.b) [] [] [] shared) s.same (subst (λ v. AreJoint (Break ∷ t.world) Initiator (after_broke (base Initiator) s.later) [] v [] [] [] shared) t.same e);
        sound_a = record { numbered = tt; calm = tt; sets = tt; queues = k.sound_a.queues };
        sound_b = record { numbered = tt; calm = tt; sets = tt; queues = k.sound_b.queues };
        opened = opened;
      }

  breaks-all : (two : Two) (shared : Shared) (sets : SetsSent) → Kept two shared sets → Kept (both_broke common two) shared none_sent
  breaks-all two shared sets k = go k.opened
    where
      idle : (role : Role) (body : Body) → At Idle Unused body → At Idle Unused (after_broke (base role) body)
      idle role body p = record { phase_is = ap (broken_phase Direct) p.phase_is; stage_is = refl; calm = refl }

      early : (stage : Stage) (body : Body) → is_carrying stage ≡ false → At Opening stage body → Breakable body
      early stage body c p = BeforeCn p.phase_is (ap is_carrying p.stage_is ∙ c)

      both : {f g : List Message} → broken_phase Direct two.a.link.phase ≡ Over → broken_phase Direct two.b.link.phase ≡ Over → Opened (after_broke (base Initiator) two.a) (after_broke (base Responder) two.b) f g
      both p q = Standing (IsOver p) (IsOver q)

      now : Breakable two.a → Breakable two.b → Opened (after_broke (base Initiator) two.a) (after_broke (base Responder) two.b) [] [] → Kept (both_broke common two) shared none_sent
      now x y opened = broke two shared sets k x y opened

      go : Opened two.a two.b two.to_a two.to_b → Kept (both_broke common two) shared none_sent
      go (Fresh p q e f) = now (AsModel (at-breaks Idle Unused two.a refl p)) (AsModel (at-breaks Idle Unused two.b refl q)) (Fresh (idle Initiator two.a p) (idle Responder two.b q) refl refl)
      go (Calling p q e f) = now (early Asked two.a refl p) (AsModel (at-breaks Idle Unused two.b refl q)) (Gone (ap (broken_phase Direct) p.phase_is) (inl (idle Responder two.b q, inl refl)))
      go (Confirming p q e f) = now (early Asked two.a refl p) (early Joined two.b refl q) (both (ap (broken_phase Direct) p.phase_is) (ap (broken_phase Direct) q.phase_is))
      go (Connecting p q e f) = now (AsModel (at-breaks Opening Carrying two.a refl p)) (early Joined two.b refl q) (both (ap (broken_phase Direct) p.phase_is) (ap (broken_phase Direct) q.phase_is))
      go (Accepting p word x more e own s) =
          let t = side-breaks two.b two.to_b s in
          now (AsModel (at-breaks Opening Carrying two.a refl p)) (AsModel t.0) (both (ap (broken_phase Direct) p.phase_is) t.1)
      go (Refusing p q word x e) = now (AsModel (at-breaks Opening Carrying two.a refl p)) (AsModel (over-breaks two.b q)) (both (ap (broken_phase Direct) p.phase_is) (ap (broken_phase Direct) q))
      go (Deaf q (inl x)) = now (early Asked two.a refl x.0) (AsModel (over-breaks two.b q)) (both (ap (broken_phase Direct) x.0.phase_is) (ap (broken_phase Direct) q))
      go (Deaf q (inr x)) = now (AsModel (at-breaks Opening Carrying two.a refl x.0)) (AsModel (over-breaks two.b q)) (both (ap (broken_phase Direct) x.0.phase_is) (ap (broken_phase Direct) q))
      go (Gone p (inl x)) = now (AsModel (over-breaks two.a p)) (AsModel (at-breaks Idle Unused two.b refl x.0)) (Gone (ap (broken_phase Direct) p) (inl (idle Responder two.b x.0, inl refl)))
      go (Gone p (inr x)) = now (AsModel (over-breaks two.a p)) (early Joined two.b refl x.0) (both (ap (broken_phase Direct) p) (ap (broken_phase Direct) x.0.phase_is))
      go (Standing s t) =
          let x = side-breaks two.a two.to_a s in
          let y = side-breaks two.b two.to_b t in
          now (AsModel x.0) (AsModel y.0) (both x.1 y.1)

  -- ---- all that is reached

  new-kept : Kept (two_new common) (shared_first (base Initiator)) none_sent
  new-kept =
      record {
        world = [];
        joint = record { ends = record { run = tt; own = record { state = refl; flight = tt }; others = record { state = refl; flight = tt } }; same = record { set = refl; saved = refl }; own_sets = tt; peer_sets = tt };
        sound_a = record { numbered = tt; calm = tt; sets = tt; queues = refl };
        sound_b = record { numbered = tt; calm = tt; sets = tt; queues = refl };
        opened = Fresh (record { phase_is = refl; stage_is = refl; calm = refl }) (record { phase_is = refl; stage_is = refl; calm = refl }) refl refl;
      }

  called-kept : (two : Two) (shared : Shared) (sets : SetsSent) (role : Role) (call : Call) (answer : Option ℤ) → WritesAll free → ReadsBack (base Initiator) → Kept two shared sets → can_call (base role) (body_at role two) call ≡ Ok answer → Kept (stepped role (after_called Direct (base role) (body_at role two) call answer) (coming_to role two) (due_of (base role) (body_at role two) call (Ok answer)) two) (shared_all_sent Direct (side_of role) (due_of (base role) (body_at role two) call (Ok answer)) shared) (sets_stepped role (sets_to role sets) (before shared (due_of (base role) (body_at role two) call (Ok answer))) sets)
  called-kept two shared sets Initiator call answer writes back k h = calls-a two shared sets call answer writes back k h
  called-kept two shared sets Responder call answer writes back k h = calls-b two shared sets call answer writes back k h

  pub handles : (two : Two) (shared : Shared) (sets : SetsSent) (role : Role) (message : Message) (left : List Message) (f : List SetItem) (rest : List (List SetItem)) → WritesAll free → ProposesRightly common → Kept two shared sets → coming_to role two ≡ message ∷ left → sets_to role sets ≡ f ∷ rest → Handles two shared sets role message left rest
  handles two shared sets Initiator message left f rest writes right k e d =
      subst (λ fs. HandlesNext two shared sets Initiator (message ∷ left) fs) d (subst (λ ms. HandlesNext two shared sets Initiator ms sets.to_a) e (handles-a two shared sets writes k))
  handles two shared sets Responder message left f rest writes right k e d =
      subst (λ fs. HandlesNext two shared sets Responder (message ∷ left) fs) d (subst (λ ms. HandlesNext two shared sets Responder ms sets.to_b) e (handles-b two shared sets writes right k))

  took-kept : (two : Two) (shared : Shared) (sets : SetsSent) (role : Role) (message : Message) (left : List Message) (rest : List (List SetItem)) (body : Body) (answers : List Message) (shown : List Indication) → Handles two shared sets role message left rest → react (base role) (body_at role two) message ≡ Takes body answers shown → Kept (stepped role body left answers two) (shared_all_answered (base role) message answers shared) (sets_stepped role rest (before shared answers) sets)
  took-kept two shared sets role message left rest body answers shown (Passing e k) h = let no_take : Passes ≡ Takes body answers shown = sym e ∙ h in cc
  took-kept two shared sets role message left rest body answers shown (Taking later due told e k) h =
      let same : Takes later due told ≡ Takes body answers shown = sym e ∙ h in
      let bodies : later ≡ body = cc in
      let dues : due ≡ answers = cc in
      subst (λ x. Kept (stepped role x left answers two) (shared_all_answered (base role) message answers shared) (sets_stepped role rest (before shared answers) sets)) bodies
      (subst (λ xs. Kept (stepped role later left xs two) (shared_all_answered (base role) message xs shared) (sets_stepped role rest (before shared xs) sets)) dues k)

  passed-kept : (two : Two) (shared : Shared) (sets : SetsSent) (role : Role) (message : Message) (left : List Message) (rest : List (List SetItem)) → Handles two shared sets role message left rest → react (base role) (body_at role two) message ≡ Passes → Kept (stepped role (body_at role two) left [] two) shared (sets_stepped role rest [] sets)
  passed-kept two shared sets role message left rest (Passing e k) h = k
  passed-kept two shared sets role message left rest (Taking later due told e k) h = let no_pass : Takes later due told ≡ Passes = sym e ∙ h in cc

  pub never-fails : (two : Two) (shared : Shared) (sets : SetsSent) (role : Role) (message : Message) (left : List Message) (rest : List (List SetItem)) (fault : Fault) (body : Body) (aborts : List Message) (shown : List Indication) → Handles two shared sets role message left rest → react (base role) (body_at role two) message ≡ Fails fault body aborts shown → ⊥
  never-fails two shared sets role message left rest fault body aborts shown (Passing e k) h = let no_fault : Passes ≡ Fails fault body aborts shown = sym e ∙ h in cc
  never-fails two shared sets role message left rest fault body aborts shown (Taking later due told e k) h = let no_fault : Takes later due told ≡ Fails fault body aborts shown = sym e ∙ h in cc

  pub all-kept : WritesAll free → ReadsBack (base Initiator) → ProposesRightly common → (two : Two) (shared : Shared) (sets : SetsSent) → Shares common two shared sets → Kept two shared sets
  all-kept writes back right two shared sets begins = new-kept
  all-kept writes back right two shared sets (calls x s fs role call answer reached h) = called-kept x s fs role call answer writes back (all-kept writes back right x s fs reached) h
  all-kept writes back right two shared sets (takes x s fs role message left f rest body answers shown reached comes d h) =
      took-kept x s fs role message left rest body answers shown (handles x s fs role message left f rest writes right (all-kept writes back right x s fs reached) comes d) h
  all-kept writes back right two shared sets (passes x s fs role message left f rest reached comes d h) =
      passed-kept x s fs role message left rest (handles x s fs role message left f rest writes right (all-kept writes back right x s fs reached) comes d) h
  all-kept writes back right two shared sets (fails x s fs role message left f rest fault body aborts shown reached comes d h) =
      absurd (never-fails x s fs role message left rest fault body aborts shown (handles x s fs role message left f rest writes right (all-kept writes back right x s fs reached) comes d) h)
  all-kept writes back right two shared sets (breaks x s fs reached) = breaks-all x s fs (all-kept writes back right x s fs reached)
