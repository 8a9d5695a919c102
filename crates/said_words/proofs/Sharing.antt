-- Two ends of direct mode with what they share: no end acts by itself, and none ever fails.
use Rattle.std.proofs.Common.{◌≡◌, refl, ◌∙◌, sym, subst, List, [], ◌∷◌}
use Rattle.std.specs.Prelude.{Some, None}
use Rattle.osi_base.specs.declared.layer_words.SetItem.{SetItem}
use Rattle.stub_tables.specs.declared.tables.Tables.{Tables}
use Rattle.dialogue.specs.declared.config.Config.{Config}
use Rattle.end_model.specs.end_rules.Base.{Base, Spellings}
use Rattle.end_model.specs.end_rules.Messages.{Message, Transport, Session}
use Rattle.end_model.specs.end_rules.State.{Body}
use Rattle.end_model.specs.end_rules.ByItself.{next_own}
use Rattle.end_model.specs.end_rules.World.{Shared}
use Rattle.agreement.specs.Sets.{Role}
use Rattle.agreement.specs.Sets.Role.{Initiator, Responder}
use Rattle.agreement.specs.Messages as model
use Rattle.agreement.specs.Worlds.{Sending, flight_to}
use Rattle.end_model.specs.Seen.{Free}
use Rattle.end_model.specs.Acting.{ReadsBack}
use Rattle.end_model.specs.BothEnds.{Common, base_at, Two, body_at, coming_to, WritesAll, setup_of}
use Rattle.end_model.specs.DirectEnds.{direct_common, ProposesRightly}
use Rattle.end_model.specs.Sharing.{SetsSent, sets_to, none_sent, Shares}
use Rattle.end_model.specs.Sharing as sharing
use Rattle.end_model.proofs.Joint.{SetsOnWay}
use Rattle.end_model.proofs.DirectMachine as machine
use Rattle.reliable_model.specs.Ledgers.{Ledger, ReachedWithLedger, begins, calls, acts, takes, passes, fails, breaks}

pub record NotEmpty (fs : List (List SetItem)) : Type 0 where
  pub first : List SetItem
  pub rest : List (List SetItem)
  pub is_it : fs ≡ first ∷ rest

not-empty : (message : Message) (left : List Message) (fs : List (List SetItem)) (flight : List Sending) → SetsOnWay (message ∷ left) fs flight → NotEmpty fs
not-empty (Transport unit) left [] flight s = absurd s
not-empty (Transport unit) left (f ∷ rest) flight s = record { first = f; rest = rest; is_it = refl }
not-empty (Session word) left [] flight s = absurd s
not-empty (Session word) left (f ∷ rest) flight s = record { first = f; rest = rest; is_it = refl }

module _ (free : Free) (tables : Tables) (spellings : Spellings) (a b : Config) where
  abbrev common : Common
  common = direct_common tables spellings a b

  abbrev base : Role → Base
  base role = base_at role common

  abbrev setup : model.ModelSetup
  setup = setup_of free common

  abbrev Kept : Two → Shared → SetsSent → Type 0
  Kept = machine.Kept free tables spellings a b

  pub no-own : (role : Role) (body : Body) → next_own (base role) body ≡ None
  no-own Initiator body = refl
  no-own Responder body = refl

  pub record SharedIn (two : Two) (ledger : Ledger) : Type 0 where
    pub sets : SetsSent
    pub shares : Shares common two ledger.shared sets

  pub sets-there : (two : Two) (shared : Shared) (sets : SetsSent) (role : Role) (message : Message) (left : List Message) → Kept two shared sets → coming_to role two ≡ message ∷ left → NotEmpty (sets_to role sets)
  sets-there two shared sets Initiator message left k e =
      not-empty message left sets.to_a (flight_to setup Initiator k.world) (subst (λ ms. SetsOnWay ms sets.to_a (flight_to setup Initiator k.world)) e k.joint.own_sets)
  sets-there two shared sets Responder message left k e =
      not-empty message left sets.to_b (flight_to setup Responder k.world) (subst (λ ms. SetsOnWay ms sets.to_b (flight_to setup Responder k.world)) e k.joint.peer_sets)

  module _ (writes : WritesAll free) (back : ReadsBack (base Initiator)) (right : ProposesRightly common) where
    abbrev kept : (two : Two) (shared : Shared) (sets : SetsSent) → Shares common two shared sets → Kept two shared sets
    kept = machine.all-kept free tables spellings a b writes back right

    pub shared-in : (two : Two) (ledger : Ledger) → ReachedWithLedger common two ledger → SharedIn two ledger
    shared-in two ledger begins = record { sets = none_sent; shares = sharing.begins }
    shared-in two ledger (calls x l role call answer g c) = let s = shared-in x l g in record { sets = _; shares = sharing.calls x l.shared s.sets role call answer s.shares c }
    shared-in two ledger (acts x l role own g c) = let none : None ≡ Some own = sym (no-own role (body_at role x)) ∙ c in absurd cc
    shared-in two ledger (takes x l role message left body answers shown g e r) =
        let s = shared-in x l g in
        let n = sets-there x l.shared s.sets role message left (kept x l.shared s.sets s.shares) e in
        record { sets = _; shares = sharing.takes x l.shared s.sets role message left n.first n.rest body answers shown s.shares e n.is_it r }
    shared-in two ledger (passes x l role message left g e r) =
        let s = shared-in x l g in
        let n = sets-there x l.shared s.sets role message left (kept x l.shared s.sets s.shares) e in
        record { sets = _; shares = sharing.passes x l.shared s.sets role message left n.first n.rest s.shares e n.is_it r }
    shared-in two ledger (fails x l role message left fault body aborts shown g e r) =
        let s = shared-in x l g in
        let n = sets-there x l.shared s.sets role message left (kept x l.shared s.sets s.shares) e in
        record { sets = _; shares = sharing.fails x l.shared s.sets role message left n.first n.rest fault body aborts shown s.shares e n.is_it r }
    shared-in two ledger (breaks x l g) = let s = shared-in x l g in record { sets = none_sent; shares = sharing.breaks x l.shared s.sets s.shares }

    pub kept-in : (two : Two) (ledger : Ledger) (g : ReachedWithLedger common two ledger) → Kept two ledger.shared (shared-in two ledger g).sets
    kept-in two ledger g = let s = shared-in two ledger g in kept two ledger.shared s.sets s.shares
