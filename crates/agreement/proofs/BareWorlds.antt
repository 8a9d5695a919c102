-- Worlds of bare mode: values on the one context.
use Rattle.std.proofs.Common.{◌≡◌, List, [], ◌∷◌, ◌++◌, refl, sym, ap, ◌∙◌, subst, inl, inr, ◌⊎◌}
use Rattle.std.specs.Prelude.{Some}
use Rattle.agreement.specs.Sets.{Role, other, is_initiator, Context, lookup}
use Rattle.agreement.specs.Sets.Role.{Initiator, Responder}
use Rattle.agreement.specs.Messages.{Value, ModelSetup, Message, Act, Choice}
use Rattle.agreement.specs.Messages.Mode.{Bare}
use Rattle.agreement.specs.Messages.Act.{Connects, Recovers, SaysValue, Queues, Drops, Alters, Marks, GivesTurn, Pleads, Restarts, Starts, Encodes, Sends, EndsActivity, Interrupts, Discards, Resumes, Releases, Aborts, Withdraws, TransportFails}
use Rattle.agreement.specs.Messages.Message.{Data}
use Rattle.agreement.specs.State.{State}
use Rattle.agreement.specs.State.Phase.{Idle, Up, Broken, Over}
use Rattle.agreement.specs.State.Awaited.{NoAnswer}
use Rattle.agreement.specs.Acts.{MayAct, acted, sent_by}
use Rattle.agreement.specs.Takings.{MayTake, answer_to, taken, broken, broken_phase}
use Rattle.agreement.specs.Worlds.{Sending, Shared, sendings, shared_all, shared_answered, pair_under}
use Rattle.agreement.proofs.Runs.{Keeps, Relation}

abbrev pub bare : ModelSetup → ModelSetup
bare base = record base { mode = Bare }

pub record IsBareEnd (c : Context) (role : Role) (x : State) : Type 0 where
  pub held : x.sets.held ≡ c ∷ []
  pub calm : x.awaits ≡ NoAnswer
  pub phase : (x.phase ≡ Up) ⊎ (x.phase ≡ Over)
  pub turn : x.turn ≡ is_initiator role

pub record IsBareSending (c : Context) (s : Sending) : Type 0 where
  pub value : Value
  pub is : s.message ≡ Data value
  pub there : lookup (c ∷ []) value.identifier ≡ Some value.pair
  pub shared : s.shared ≡ c ∷ []

abbrev pub AllBare : Context → List Sending → Type 0
AllBare c [] = Unit {0}
AllBare c (s ∷ flight) = IsBareSending c s × AllBare c flight

all-bare_append : (c : Context) (f : List Sending) (s : Sending) → AllBare c f → IsBareSending c s → AllBare c (f ++ (s ∷ []))
all-bare_append c [] s h k = (k, tt)
all-bare_append c (t ∷ f) s h k = (h.0, all-bare_append c f s h.1 k)

all-bare_none : (c : Context) (f : List Sending) → AllBare c f → AllBare c (f ++ [])
all-bare_none c [] h = tt
all-bare_none c (t ∷ f) h = (h.0, all-bare_none c f h.1)

pub record Plainly (c : Context) (role : Role) (x y : State) (f g : List Sending) (shared : Shared) : Type 0 where
  pub me : IsBareEnd c role x
  pub peer : IsBareEnd c (other role) y
  pub to_me : AllBare c f
  pub to_peer : AllBare c g
  pub set : shared.set ≡ c ∷ []

abbrev pub BareRelation : ModelSetup → Relation
BareRelation base role x y f g shared = Plainly base.bare_context role x y f g shared

abbrev After : (base : ModelSetup) (role : Role) (x y : State) (f g : List Sending) (shared : Shared) (act : Act) → Type 0
After base role x y f g shared act = Plainly base.bare_context role (acted (bare base) x act) y f (g ++ sendings shared.set (sent_by (bare base) x act)) (shared_all Bare role (sent_by (bare base) x act) shared)

not_idle : (c : Context) (role : Role) (x : State) → IsBareEnd c role x → x.phase ≡ Idle → ⊥
not_idle c role x h e = go h.phase
  where
    go : (x.phase ≡ Up) ⊎ (x.phase ≡ Over) → ⊥
    go (inl p) = cc
    go (inr p) = cc

not_broken : (c : Context) (role : Role) (x : State) → IsBareEnd c role x → x.phase ≡ Broken → ⊥
not_broken c role x h e = go h.phase
  where
    go : (x.phase ≡ Up) ⊎ (x.phase ≡ Over) → ⊥
    go (inl p) = cc
    go (inr p) = cc

bare-acts : (base : ModelSetup) (role : Role) (x y : State) (f g : List Sending) (shared : Shared) (act : Act) → Plainly base.bare_context role x y f g shared → MayAct (bare base) role x act → After base role x y f g shared act
bare-acts base role x y f g shared Connects n h = absurd (not_idle base.bare_context role x n.me h.is_idle)
bare-acts base role x y f g shared Recovers n h = absurd (not_broken base.bare_context role x n.me h.is_broken)
bare-acts base role x y f g shared (SaysValue value) n h =
    record {
      me = record { held = n.me.held; calm = n.me.calm; phase = n.me.phase; turn = n.me.turn };
      peer = n.peer;
      to_me = n.to_me;
      to_peer =
          all-bare_append base.bare_context g (record { message = Data value; shared = shared.set }) n.to_peer
          (record { value = value; is = refl; there = subst (λ s. lookup s value.identifier ≡ Some value.pair) n.me.held h.is_there; shared = n.set });
      set = n.set;
    }
bare-acts base role x y f g shared (Queues context apdu) n h = absurd (let e = h.by_transfers in cc)
bare-acts base role x y f g shared Drops n h =
    record { me = record { held = n.me.held; calm = n.me.calm; phase = n.me.phase; turn = n.me.turn }; peer = n.peer; to_me = n.to_me; to_peer = all-bare_none base.bare_context g n.to_peer; set = n.set }
bare-acts base role x y f g shared (Alters items) n h = absurd h.in_mode
bare-acts base role x y f g shared Marks n h = absurd h.in_mode
bare-acts base role x y f g shared GivesTurn n h = absurd h.in_mode
bare-acts base role x y f g shared (Pleads priority) n h = absurd h.in_mode
bare-acts base role x y f g shared (Restarts number) n h = absurd (let e = h.is_direct in cc)
bare-acts base role x y f g shared Starts n h = absurd (let e = h.by_transfers in cc)
bare-acts base role x y f g shared (Encodes context) n h = absurd (let e = h.by_transfers in cc)
bare-acts base role x y f g shared (Sends octets) n h = absurd (let e = h.by_transfers in cc)
bare-acts base role x y f g shared EndsActivity n h = absurd (let e = h.by_transfers in cc)
bare-acts base role x y f g shared Interrupts n h = absurd (let e = h.by_transfers in cc)
bare-acts base role x y f g shared Discards n h = absurd (let e = h.by_transfers in cc)
bare-acts base role x y f g shared Resumes n h = absurd (let e = h.by_transfers in cc)
bare-acts base role x y f g shared Releases n h = absurd h.in_mode
bare-acts base role x y f g shared Aborts n h = absurd h.in_mode
bare-acts base role x y f g shared Withdraws n h = absurd h.in_mode
bare-acts base role x y f g shared TransportFails n h = absurd h.in_mode

pub record TookBare (base : ModelSetup) (role : Role) (x y : State) (f g : List Sending) (shared : Shared) (s : Sending) (m : Message) (choice : Choice) : Type 0 where
  pub may : MayTake (bare base) role x m
  pub pair : pair_under x.sets.held m ≡ pair_under s.shared m
  pub next : Plainly base.bare_context role (taken (bare base) role x m choice) y f (g ++ sendings shared.set (answer_to (bare base) x m choice)) (shared_answered m choice shared)

pub bare-takes : (base : ModelSetup) (role : Role) (x y : State) (s : Sending) (f g : List Sending) (shared : Shared) (m : Message) (choice : Choice) → Plainly base.bare_context role x y (s ∷ f) g shared → s.message ≡ m → (x.phase ≡ Over → ⊥) → TookBare base role x y f g shared s m choice
bare-takes base role x y s f g shared m choice n e alive =
    let first = n.to_me.0 in
    subst (λ t. TookBare base role x y f g shared s t choice) (sym first.is ∙ e)
    (record {
      may =
          record {
            at_once = λ q. absurd (cc);
            is_up = up n.me.phase;
            is_read = subst (λ s. lookup s first.value.identifier ≡ Some first.value.pair) (sym n.me.held) first.there;
          };
      pair = ap (λ s. lookup s first.value.identifier) (n.me.held ∙ sym first.shared);
      next =
          record {
            me = record { held = n.me.held; calm = n.me.calm; phase = n.me.phase; turn = n.me.turn };
            peer = n.peer;
            to_me = n.to_me.1;
            to_peer = all-bare_none base.bare_context g n.to_peer;
            set = n.set;
          };
    })
  where
    up : (x.phase ≡ Up) ⊎ (x.phase ≡ Over) → x.phase ≡ Up
    up (inl p) = p
    up (inr p) = absurd (alive p)

broken-end : (base : ModelSetup) (role : Role) (x : State) → IsBareEnd base.bare_context role x → IsBareEnd base.bare_context role (broken (bare base) x)
broken-end base role x h = record { held = h.held; calm = refl; phase = inr (go h.phase); turn = h.turn }
  where
    go : (x.phase ≡ Up) ⊎ (x.phase ≡ Over) → broken_phase Bare x.phase ≡ Over
    go (inl p) = ap (broken_phase Bare) p
    go (inr p) = ap (broken_phase Bare) p

swaps-bare : (base : ModelSetup) (role : Role) (x y : State) (f g : List Sending) (shared : Shared) → BareRelation base role x y f g shared → BareRelation base (other role) y x g f shared
swaps-bare base Initiator x y f g shared n = record { me = n.peer; peer = n.me; to_me = n.to_peer; to_peer = n.to_me; set = n.set }
swaps-bare base Responder x y f g shared n = record { me = n.peer; peer = n.me; to_me = n.to_peer; to_peer = n.to_me; set = n.set }

pub bare-keeps : (base : ModelSetup) → Keeps (bare base) (BareRelation base)
bare-keeps base =
    record {
      starts = record { me = record { held = refl; calm = refl; phase = inl refl; turn = refl }; peer = record { held = refl; calm = refl; phase = inl refl; turn = refl }; to_me = tt; to_peer = tt; set = refl };
      swaps = swaps-bare base;
      acts = bare-acts base;
      takes = λ role x y s f g shared m choice n e alive kept c. (bare-takes base role x y s f g shared m choice n e alive).next;
      passes = λ role x y s f g shared m n e h. record { me = n.me; peer = n.peer; to_me = n.to_me.1; to_peer = n.to_peer; set = n.set };
      breaks = λ role x y f g shared n. record { me = broken-end base role x n.me; peer = broken-end base (other role) y n.peer; to_me = tt; to_peer = tt; set = n.set };
    }
