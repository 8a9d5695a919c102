-- What one end does is an act, or a taking, of the model.
use Rattle.std.specs.Prelude.{◌≡◌, ℕ, ℤ, List, [], ◌∷◌, ◌++◌, true, false, Option, Some, None, Ok}
use Rattle.osi_base.specs.declared.syntax.Syntax.TheVariants.{Der}
use Rattle.osi_base.specs.declared.layer_words.Proposal.{Proposal}
use Rattle.stub_tables.specs.declared.apdu.Apdu.{Apdu}
use Rattle.stub_tables.specs.declared.apdu.Apdu.TheVariants as apdus
use Rattle.stub_tables.specs.declared.operation.Operation.{Operation}
use Rattle.stub_tables.specs.Lookup.{operation_at, error_at}
use Rattle.asn1_types.specs.declared.value.Val.{Val}
use Rattle.dialogue.specs.declared.call.Call.{Call}
use Rattle.dialogue.specs.declared.call.Call.TheVariants as the_calls
use Rattle.dialogue.specs.declared.config.Mode.{Mode}
use Rattle.dialogue.specs.declared.config.Mode.TheVariants.{Bare, Direct, Reliable}
use Rattle.end_rules.specs.Base.{Base}
use Rattle.end_rules.specs.State.{Body, Sending, Queued, Awaited, NoAnswer, bare_set}
use Rattle.end_rules.specs.Messages.{Message, Word}
use Rattle.end_rules.specs.Invoking.{is_too_long, invoke_apdu}
use Rattle.end_rules.specs.Calling.{can_call}
use Rattle.end_rules.specs.Requesting.{after_call, due_of, result_in, error_for}
use Rattle.end_rules.specs.Hearing.{head_of_apdu}
use Rattle.end_rules.specs.Reacting.{word_fault, after_word, answers_to_word}
use Rattle.agreement.specs.Messages.{Act, Choice, Value, Message as ModelMessage}
use Rattle.agreement.specs.Acts.{MayAct, acted, sent_by}
use Rattle.agreement.specs.Takings.{IsChoice, taken, answer_to}
use Rattle.agreement.specs.Worlds.Step.{Acts}
use Rattle.agreement.specs.Laws.{handed_by}
use Rattle.end_model.specs.Seen.{Free, role_seen, apdu_seen, seen, setup_seen}
use Rattle.end_model.specs.Rows.{at}
use Rattle.end_model.specs.OpenInvocations.{AreNumberedCalls, IsProper}
use Rattle.end_model.specs.Words.{AreMeant, AreOurs}

-- What the end does is the act: it may be done, what it leaves is the model's state, and what is sent is meant.
pub record ActsAs (free : Free) (mode : Mode) (base : Base) (proposed : List Proposal) (body later : Body) (sent : List Message) (act : Act) : Type 0 where
  pub may : MayAct (setup_seen free mode base) (role_seen base.initiator) (seen (at mode base) body) act
  pub after : seen (at mode base) later ≡ acted (setup_seen free mode base) (seen (at mode base) body) act
  pub means : AreMeant proposed (at mode base) sent (sent_by (setup_seen free mode base) (seen (at mode base) body) act)

-- The word may be taken, and its taking is the taking of the message with this choice.
pub record TakenAs (free : Free) (mode : Mode) (base : Base) (proposed : List Proposal) (body : Body) (word : Word) (message : ModelMessage) (choice : Choice) : Type 0 where
  pub no_fault : word_fault (at mode base) body word ≡ None
  pub chosen : IsChoice (setup_seen free mode base) (seen (at mode base) body) message choice
  pub after : seen (at mode base) (after_word (at mode base) body word) ≡ taken (setup_seen free mode base) (role_seen base.initiator) (seen (at mode base) body) message choice
  pub means : AreMeant proposed (at mode base) (answers_to_word (at mode base) body word) (answer_to (setup_seen free mode base) (seen (at mode base) body) message choice)

-- ---- what holds of every body of an end

-- only in reliable mode something is queued
abbrev pub QueuesIn : Mode → List Queued → Type 0
QueuesIn Bare queue = queue ≡ []
QueuesIn Direct queue = queue ≡ []
QueuesIn Reliable queue = Unit {0}

-- in bare mode no own request is ever unanswered
abbrev pub CalmIn : Mode → Awaited → Type 0
CalmIn Bare awaited = awaited ≡ NoAnswer
CalmIn Direct awaited = Unit {0}
CalmIn Reliable awaited = Unit {0}

-- and its one context stays
pub record HasBareSet (base : Base) (body : Body) : Type 0 where
  pub held : body.sets.held ≡ bare_set base.tables
  pub own : body.sets.own ≡ []

abbrev pub SetsIn : Mode → Base → Body → Type 0
SetsIn Bare base body = HasBareSet base body
SetsIn Direct base body = Unit {0}
SetsIn Reliable base body = Unit {0}

pub record IsSoundBody (mode : Mode) (base : Base) (body : Body) : Type 0 where
  pub numbered : AreNumberedCalls body.calls
  pub calm : CalmIn mode body.link.awaits
  pub sets : SetsIn mode base body
  pub queues : QueuesIn mode body.sending.queue

-- ---- what holds of spellings

-- what is written in DER of an invocation, a result or an error is read back as what it says; the number of a reject has no
-- bound here, so nothing is asked of rejects
abbrev pub IsSaidBack : Base → Apdu → Type 0
IsSaidBack base (apdus.Invoke id linked code argument) =
    base.spellings.head Der (base.spellings.apdu Der (apdus.Invoke id linked code argument)) ≡ head_of_apdu (apdus.Invoke id linked code argument)
IsSaidBack base (apdus.Result id returned) =
    base.spellings.head Der (base.spellings.apdu Der (apdus.Result id returned)) ≡ head_of_apdu (apdus.Result id returned)
IsSaidBack base (apdus.Error id code parameter) =
    base.spellings.head Der (base.spellings.apdu Der (apdus.Error id code parameter)) ≡ head_of_apdu (apdus.Error id code parameter)
IsSaidBack base (apdus.Reject id problem) = Unit {0}

-- so it is of each such APDU that isn't too long
pub record ReadsBack (base : Base) : Type 0 where
  pub reads : (apdu : Apdu) → IsProper base apdu → is_too_long base apdu ≡ false → IsSaidBack base apdu

-- ---- invocations and outcomes

-- out of reliable mode a value is written as it is said, and the codec may write every one
abbrev pub WritesIn : Mode → Free → Type 0
WritesIn Bare free = (value : Value) → free.codec.may_write value ≡ true
WritesIn Direct free = (value : Value) → free.codec.may_write value ≡ true
WritesIn Reliable free = Unit {0}

abbrev pub as_list : Option Apdu → List Apdu
as_list None = []
as_list (Some apdu) = apdu ∷ []

abbrev pub invoked_as : ℤ → Option ℤ → Option Val → Option Operation → List Apdu
invoked_as id linked argument None = []
invoked_as id linked argument (Some operation) = invoke_apdu operation id linked argument ∷ []

-- the APDU that an accepted call hands in
abbrev pub apdus_of : Base → Body → Call → Option ℤ → List Apdu
apdus_of base body (the_calls.Invoke context operation argument linked) (Some id) = invoked_as id linked argument (operation_at base.tables operation)
apdus_of base body (the_calls.Answer id result) answer = as_list (result_in base body id result)
apdus_of base body (the_calls.Refuse id error parameter) answer = as_list (error_for id parameter (error_at base.tables error))
apdus_of base body _ answer = []

-- in reliable mode it joins the queue
abbrev pub handing : Mode → ℕ → Apdu → Sending → Sending
handing Bare context apdu sending = sending
handing Direct context apdu sending = sending
handing Reliable context apdu sending = record sending { queue = sending.queue ++ record { context = context; apdu = apdu } ∷ [] }

-- What is handed in is an act; what goes at once is data of this product; the end stays sound.
pub record HandsActs (free : Free) (mode : Mode) (base : Base) (proposed : List Proposal) (body later : Body) (sent : List Message) (act : Act) : Type 0 where
  pub acts : ActsAs free mode base proposed body later sent act
  pub ours : AreOurs (at mode base) sent (sent_by (setup_seen free mode base) (seen (at mode base) body) act)
  pub sound : IsSoundBody mode base later

-- An accepted call hands this APDU in: out of reliable mode it goes at once, in reliable mode it is queued.
pub record HandsIn (free : Free) (mode : Mode) (base : Base) (proposed : List Proposal) (body : Body) (call : Call) (answer : Option ℤ) : Type 0 where
  pub apdu : Apdu
  pub of_call : apdus_of (at mode base) body call answer ≡ apdu ∷ []
  pub context : ℕ
  pub sending : (after_call (at mode base) body call (Ok answer)).sending ≡ handing mode context apdu body.sending
  pub is_proper : IsProper (at mode base) apdu
  pub is_short : is_too_long (at mode base) apdu ≡ false
  pub act : Act
  pub hands : handed_by (Acts act) ≡ apdu_seen (at mode base) apdu ∷ []
  pub acts : HandsActs free mode base proposed body (after_call (at mode base) body call (Ok answer)) (due_of (at mode base) body call (Ok answer)) act

-- An accepted call of this kind does so at every sound end.
abbrev pub HandingIn : Mode → Call → Type 0
HandingIn mode call =
    (free : Free) (base : Base) (proposed : List Proposal) (body : Body) (answer : Option ℤ) →
    WritesIn mode free → ReadsBack (at mode base) → IsSoundBody mode base body →
    can_call (at mode base) body call ≡ Ok answer → HandsIn free mode base proposed body call answer

pub record HandedIn : Type 0 where
  pub invoke : (mode : Mode) (context operation : ℕ) (argument : Option Val) (linked : Option ℤ) → HandingIn mode (the_calls.Invoke context operation argument linked)
  pub answer : (mode : Mode) (id : ℤ) (result : Option Val) → HandingIn mode (the_calls.Answer id result)
  pub refuse : (mode : Mode) (id : ℤ) (error : ℕ) (parameter : Option Val) → HandingIn mode (the_calls.Refuse id error parameter)
