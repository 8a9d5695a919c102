-- The state of one end in pieces, each the matter of one layer.
use Rattle.std.specs.Prelude.{ℕ, zero, suc, ℤ, List, [], ◌∷◌, ◌++◌, Bool, true, false, not, ◌&&◌, nat_eq, if◌then◌else◌, map, filter, find, Option, Some, None}
use Rattle.std.specs.Ordering.{int_eq}
use Rattle.osi_base.specs.declared.syntax.Syntax.TheVariants.{Ber}
use Rattle.osi_base.specs.declared.layer_words.SetItem.{SetItem}
use Rattle.stub_tables.specs.declared.tables.Tables.{Tables}
use Rattle.stub_tables.specs.declared.apdu.Apdu.{Apdu}
use Rattle.dialogue.specs.declared.config.Mode.{Mode}
use Rattle.dialogue.specs.declared.config.Mode.TheVariants.{Bare, Direct, Reliable}
use Rattle.dialogue.specs.declared.config.Phase.{Phase}
use Rattle.dialogue.specs.declared.config.Phase.TheVariants.{Idle, Up, Broken, Over, Dead}
use Rattle.end_rules.specs.Base.{Base, Item}
use Rattle.end_rules.specs.Sets.{Alteration, Saved}

-- ---- the association and its connection

-- how far the transport connection is (X.224 6.5): nothing went over it; CR was sent or taken; CC was; CN was
pub data Stage : Type 0 where
  Unused : Stage
  Asked : Stage
  Joined : Stage
  Carrying : Stage

-- the own request that isn't answered yet and stops all else
pub data Awaited : Type 0 where
  NoAnswer : Awaited
  RestartOf : (number : ℕ) → Awaited
  InterruptOf : Awaited
  DiscardOf : Awaited
  ReleaseOf : Awaited

pub record Link : Type 0 where
  pub phase : Phase
  pub stage : Stage
  -- session requirements that both ends have (X.225 8.3.1): the functional units selected
  pub selected : ℕ
  -- context management and restoration are selected (X.226 6.3)
  pub manages : Bool
  -- the minor token in direct mode, all tokens in reliable mode
  pub turn : Bool
  -- a giving of all tokens isn't confirmed
  pub gave : Bool
  pub awaits : Awaited
  -- the contexts that were accepted on this connection
  pub accepted : List SetItem
  -- the references of the CN that opened the association
  pub reference : Option (List ℕ)
  pub common : Option (List ℕ)
  -- agreed for transfers (X.228 8.1)
  pub checkpoint : ℕ
  pub window : ℕ

-- ---- sets

-- the held set, the inter-activity set, and the own alterations that aren't answered, oldest first
pub record Sets : Type 0 where
  pub held : List SetItem
  pub inter : List SetItem
  pub own : List Alteration

-- ---- invocations

-- an open invocation: whose it is, its identifier, operation and context, and the open invocation of the
-- other end to which it is linked (X.880 8)
pub record OpenCall : Type 0 where
  pub own : Bool
  pub id : ℤ
  pub operation : ℕ
  pub context : ℕ
  pub parent : Option ℤ

-- the open invocations of both ends in order of opening, and how many this end made
pub record Calls : Type 0 where
  pub opens : List OpenCall
  pub made : ℕ

-- ---- transfers

-- an APDU that waits for its transfer, with the context that was asked for
pub record Queued : Type 0 where
  pub context : ℕ
  pub apdu : Apdu

-- a transfer is made of octets and marks, each mark with its set; lists have the newest first
pub data Piece : Type 0 where
  Octets : (octets : List ℕ) → Piece
  Marked : (number : ℕ) → (set : List SetItem) → Piece

pub data Progress : Type 0 where
  Running : Progress
  Ending : Progress
  Suspended : Progress

-- an item as it was last encoded, with the checkpoint and the window of its encoding
pub record Encoded : Type 0 where
  pub item : Item
  pub octets : List ℕ
  pub checkpoint : ℕ
  pub window : ℕ

-- the current transfer: its item, its encoding, the pieces sent, the highest confirmed mark
pub record Transfer : Type 0 where
  pub item : Queued
  pub encoded : Option Encoded
  pub pieces : List Piece
  pub confirmed : ℕ
  pub progress : Progress

-- what an end sends: the number of its last started activity, the current transfer, the queue
pub record Sending : Type 0 where
  pub started : ℕ
  pub current : Option Transfer
  pub queue : List Queued

-- what an end receives: the record of the peer's last activity
pub record Receiving : Type 0 where
  pub last : ℕ
  pub pieces : List Piece
  pub was_handed : Bool
  pub active : Bool

-- ---- the whole

pub record Body : Type 0 where
  pub link : Link
  pub sets : Sets
  -- direct mode: what the marks saved, newest first
  pub saved : List Saved
  pub calls : Calls
  pub sending : Sending
  pub receiving : Receiving

-- ---- a new end

-- the one context of bare mode: identifier 0, the module's abstract syntax, the basic encoding rules
abbrev pub bare_set : Tables → List SetItem
bare_set tables = record { id = 0; pair = record { abstract_name = tables.name_oid; transfer = Ber } } ∷ []

abbrev pub first_phase : Mode → Phase
first_phase Bare = Up
first_phase Direct = Idle
first_phase Reliable = Idle

abbrev pub first_set : Tables → Mode → List SetItem
first_set tables Bare = bare_set tables
first_set tables Direct = []
first_set tables Reliable = []

abbrev pub new_link : Base → Link
new_link base =
    record {
      phase = first_phase base.mode;
      stage = Unused;
      selected = 0;
      manages = false;
      turn = base.initiator;
      gave = false;
      awaits = NoAnswer;
      accepted = [];
      reference = None;
      common = None;
      checkpoint = 0;
      window = 1;
    }

abbrev pub new_body : Base → Body
new_body base =
    record {
      link = new_link base;
      sets = record { held = first_set base.tables base.mode; inter = []; own = [] };
      saved = [];
      calls = record { opens = []; made = 0 };
      sending = record { started = 0; current = None; queue = [] };
      receiving = record { last = 0; pieces = []; was_handed = false; active = false };
    }

-- ---- changes of one piece

abbrev pub on_link : (Link → Link) → Body → Body
on_link change body = record body { link = change body.link }

abbrev pub on_sets : (Sets → Sets) → Body → Body
on_sets change body = record body { sets = change body.sets }

abbrev pub in_phase : Phase → Body → Body
in_phase phase body = record body { link = record body.link { phase = phase } }

abbrev pub awaiting : Awaited → Body → Body
awaiting awaited body = record body { link = record body.link { awaits = awaited } }

abbrev pub on_current : (Transfer → Transfer) → Sending → Sending
on_current change sending = record sending { current = on_some sending.current }
  where
    on_some : Option Transfer → Option Transfer
    on_some None = None
    on_some (Some transfer) = Some (change transfer)

abbrev pub on_transfer : (Transfer → Transfer) → Body → Body
on_transfer change body = record body { sending = on_current change body.sending }

abbrev pub cut_all : Body → Body
cut_all body = record body { calls = record body.calls { opens = [] } }

-- ---- phases

abbrev pub is_up : Phase → Bool
is_up Up = true
is_up _ = false

abbrev pub is_broken : Phase → Bool
is_broken Broken = true
is_broken _ = false

-- What comes is passed over.
abbrev pub passes_over : Phase → Bool
passes_over Over = true
passes_over Dead = true
passes_over _ = false

abbrev pub is_free : Awaited → Bool
is_free NoAnswer = true
is_free _ = false

abbrev pub is_unused : Stage → Bool
is_unused Unused = true
is_unused _ = false

abbrev pub is_asked : Stage → Bool
is_asked Asked = true
is_asked _ = false

abbrev pub is_joined : Stage → Bool
is_joined Joined = true
is_joined _ = false

abbrev pub is_carrying : Stage → Bool
is_carrying Carrying = true
is_carrying _ = false

abbrev pub is_none : {X : Type 0} → Option X → Bool
is_none None = true
is_none (Some x) = false

abbrev pub is_empty : {X : Type 0} → List X → Bool
is_empty [] = true
is_empty (x ∷ xs) = false

-- ---- open invocations

-- the invocation is of this end (own), or of its peer
abbrev pub is_whose : Bool → OpenCall → Bool
is_whose own o = if own then o.own else not o.own

abbrev pub is_key : Bool → ℤ → OpenCall → Bool
is_key own id o = is_whose own o && int_eq o.id id

abbrev pub opened_with : Bool → ℤ → List OpenCall → Option OpenCall
opened_with own id os = find (is_key own id) os

-- the open invocations of this end (own), or of its peer
abbrev pub opens_of : Bool → List OpenCall → List OpenCall
opens_of own os = filter (is_whose own) os

-- without one of them, whose children are roots then: a child is of the other end
abbrev pub orphaned : Bool → ℤ → OpenCall → OpenCall
orphaned own id o = if is_child o.parent && not (is_whose own o) then record o { parent = None } else o
  where
    is_child : Option ℤ → Bool
    is_child None = false
    is_child (Some parent) = int_eq parent id

abbrev pub closed : Bool → ℤ → List OpenCall → List OpenCall
closed own id os = map (orphaned own id) (filter (λ o. not (is_key own id o)) os)

abbrev pub close : Bool → ℤ → Calls → Calls
close own id calls = record calls { opens = closed own id calls.opens }

-- In post order children stand before their parents, and roots and siblings in order of opening: the newest
-- invocation stands right before its parent, or last where it has none.
abbrev pub is_parent_of : OpenCall → OpenCall → Bool
is_parent_of child o = is_its child.parent
  where
    is_its : Option ℤ → Bool
    is_its None = false
    is_its (Some parent) = is_key (not child.own) parent o

abbrev pub before_parent : OpenCall → List OpenCall → List OpenCall
before_parent child [] = child ∷ []
before_parent child (o ∷ os) = if is_parent_of child o then child ∷ o ∷ os else o ∷ before_parent child os

abbrev pub post_order_on : List OpenCall → List OpenCall → List OpenCall
post_order_on ordered [] = ordered
post_order_on ordered (o ∷ os) = post_order_on (before_parent o ordered) os

abbrev pub post_order : List OpenCall → List OpenCall
post_order os = post_order_on [] os

-- ---- pieces of a transfer

-- the pieces from the newest mark of this number on, back to the first
abbrev pub from_mark : ℕ → List Piece → List Piece
from_mark n [] = []
from_mark n (Octets octets ∷ pieces) = from_mark n pieces
from_mark n (Marked m set ∷ pieces) = if nat_eq m n then Marked m set ∷ pieces else from_mark n pieces

-- the pieces up to a mark: none for 0
abbrev pub up_to : ℕ → List Piece → List Piece
up_to zero pieces = []
up_to (suc n) pieces = from_mark (suc n) pieces

-- the set of the newest mark, and its number, 0 where there is none
abbrev pub newest_set : List Piece → List SetItem
newest_set [] = []
newest_set (Octets octets ∷ pieces) = newest_set pieces
newest_set (Marked m set ∷ pieces) = set

abbrev pub highest : List Piece → ℕ
highest [] = 0
highest (Octets octets ∷ pieces) = highest pieces
highest (Marked m set ∷ pieces) = m

-- the octets from the first to the newest
abbrev pub joined : List Piece → List ℕ
joined [] = []
joined (Octets octets ∷ pieces) = joined pieces ++ octets
joined (Marked m set ∷ pieces) = joined pieces

abbrev pub pieces_of : Option Transfer → List Piece
pieces_of None = []
pieces_of (Some transfer) = transfer.pieces

abbrev pub confirmed_of : Option Transfer → ℕ
confirmed_of None = 0
confirmed_of (Some transfer) = transfer.confirmed

abbrev pub is_running : Progress → Bool
is_running Running = true
is_running _ = false

abbrev pub is_ending : Progress → Bool
is_ending Ending = true
is_ending _ = false

abbrev pub is_suspended : Progress → Bool
is_suspended Suspended = true
is_suspended _ = false

-- the current transfer is there, and this holds of its progress
abbrev pub is_current : (Progress → Bool) → Option Transfer → Bool
is_current test None = false
is_current test (Some transfer) = test transfer.progress

-- At an AS or AR both ends keep the present set as the inter-activity set; an AR from a mark brings back the
-- set of that mark (this project's own rule).
abbrev pub resumed_set : ℕ → List Piece → List SetItem → List SetItem
resumed_set zero pieces held = held
resumed_set (suc n) pieces held = newest_set (up_to (suc n) pieces)

-- an activity ends at both ends with the inter-activity set (this project's own rule)
abbrev pub between : Body → Body
between body = record body { sets = record body.sets { held = body.sets.inter } }

-- the turn, as one holds it: up, and not waiting for an own restart
abbrev pub is_restarting : Awaited → Bool
is_restarting (RestartOf number) = true
is_restarting _ = false

abbrev pub holds_turn : Body → Bool
holds_turn body = body.link.turn && is_up body.link.phase && not (is_restarting body.link.awaits)
