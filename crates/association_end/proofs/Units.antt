-- What an end does with what stands first, path by path.
use Rattle.std.proofs.Common.{◌≡◌, ℕ, Bool, true, false, not, if◌then◌else◌, Option, Some, None, refl, ap, subst, ◌∙◌}
use Rattle.std.specs.Prelude.{MatchOption, Result, Ok, Err}
use Rattle.osi_base.specs.declared.layer_words.Layer.{Layer}
use Rattle.osi_base.specs.declared.layer_words.Layer.TheVariants as layers
use Rattle.osi_base.specs.declared.session_word.SessionConnect.{SessionConnect}
use Rattle.osi_base.specs.declared.session_word.SessionWord.{SessionWord}
use Rattle.osi_base.specs.declared.session_word.SessionWord.TheVariants as units
use Rattle.osi_base.specs.declared.presentation_word.PresentationConnect.{PresentationConnect}
use Rattle.osi_base.specs.declared.presentation_word.PresentationWord.{PresentationWord}
use Rattle.osi_base.specs.declared.presentation_word.PresentationWord.TheVariants as ppdus
use Rattle.osi_base.specs.declared.layer_words.Kind.{Kind}
use Rattle.presentation_pdus.specs.declared.place.PpduFault.{PpduFault}
use Rattle.presentation_pdus.specs.declared.place.PpduFault.TheVariants as ppdu_faults
use Rattle.presentation_pdus.specs.Units.{FailsPpdu}
use Rattle.end_rules.specs.Base.{Base, Fault}
use Rattle.end_rules.specs.Messages.{Word, OfActivities, ActivityWord, End, Transport, Session, TransportUnit}
use Rattle.end_rules.specs.State.{Body, passes_over}
use Rattle.end_rules.specs.Purging.{is_purged}
use Rattle.end_rules.specs.InPlace.{is_in_place}
use Rattle.end_rules.specs.Faults.{fault_at, transport_fault, session_fault}
use Rattle.end_rules.specs.Reacting as rules
use Rattle.end_rules.specs.Reacting.{Reaction, react, fails}
use Rattle.association_line.specs.association_reading.Front.{OfTransport, OfSession, Faulty}
use Rattle.association_line.specs.association_reading.Meaning.{meaning}
use Rattle.association_line.specs.association_reading.Reacting.{contexts_read, contexts_of_unit, on_meaning, has_connection, react_to_unit, grammar_fault}
use Rattle.association_words.specs.declared.faults.Fault as words
use Rattle.association_words.specs.Seen.{seen_fault}
use Rattle.association_meaning.specs.declared.basis.Halt.{Halt}
use Rattle.association_meaning.specs.declared.basis.Halt.TheVariants as halts
use Rattle.association_meaning.specs.Grounds.{FailsAs}
use Rattle.association_reacting.specs.association_answers.declared.brought.Reaction as reactions
use Rattle.association_reacting.specs.association_takes.ActivityWords.{is_end}
use Rattle.association_reacting.specs.ActivityEnds.{is_end_word}
use Rattle.association_reacting.specs.SeenReaction.{ReactsAs}
use Rattle.association_end.specs.OneMessage.{ReactsTo}

module _ (b : Base) (body : Body) (unit : SessionWord) (start : ℕ) where
  abbrev in_its_place : Reaction
  in_its_place = if not (is_in_place b body unit) then fails body body.link.accepted session_fault else on_meaning b body unit (meaning b body unit start)

  abbrev connected : Reaction
  connected = if is_purged b.initiator body.link.awaits unit then rules.Passes else in_its_place

  pub unconnected : has_connection body ≡ false → react_to_unit b body unit start ≡ fails body body.link.accepted transport_fault
  unconnected e = ap (λ (c : Bool). if not c then fails body body.link.accepted transport_fault else connected) e

  pub purged : has_connection body ≡ true → is_purged b.initiator body.link.awaits unit ≡ true → react_to_unit b body unit start ≡ rules.Passes
  purged e p =
      ap (λ (c : Bool). if not c then fails body body.link.accepted transport_fault else connected) e
      ∙ ap (λ (c : Bool). if c then rules.Passes else in_its_place) p

  pub misplaced : has_connection body ≡ true → is_purged b.initiator body.link.awaits unit ≡ false → is_in_place b body unit ≡ false → react_to_unit b body unit start ≡ fails body body.link.accepted session_fault
  misplaced e p q =
      ap (λ (c : Bool). if not c then fails body body.link.accepted transport_fault else connected) e
      ∙ ap (λ (c : Bool). if c then rules.Passes else in_its_place) p
      ∙ ap (λ (c : Bool). if not c then fails body body.link.accepted session_fault else on_meaning b body unit (meaning b body unit start)) q

  pub meant_so : has_connection body ≡ true → is_purged b.initiator body.link.awaits unit ≡ false → is_in_place b body unit ≡ true → react_to_unit b body unit start ≡ on_meaning b body unit (meaning b body unit start)
  meant_so e p q =
      ap (λ (c : Bool). if not c then fails body body.link.accepted transport_fault else connected) e
      ∙ ap (λ (c : Bool). if c then rules.Passes else in_its_place) p
      ∙ ap (λ (c : Bool). if not c then fails body body.link.accepted session_fault else on_meaning b body unit (meaning b body unit start)) q

  pub read_so : (word : Word) → meaning b body unit start ≡ Ok word → on_meaning b body unit (meaning b body unit start) ≡ react b body (Session word)
  read_so word e = ap (on_meaning b body unit) e

  pub unread_so : (fault : Fault) → meaning b body unit start ≡ Err fault → on_meaning b body unit (meaning b body unit start) ≡ fails body (contexts_of_unit b body unit) fault
  unread_so fault e = ap (on_meaning b body unit) e

module _ (b : Base) (old new : Body) (up : passes_over old.link.phase ≡ false) (r : reactions.Reaction) where
  pub unit_reacts : (unit : SessionWord) (start : ℕ) → ReactsAs (react_to_unit b old unit start) old new r → ReactsTo b old new (OfSession unit start) r
  unit_reacts unit start p = (
    react_to_unit b old unit start,
    ap (λ (c : Bool). Some (if c then rules.Passes else react_to_unit b old unit start)) up,
    p,
  )

  pub fault_reacts : (layer : Layer) (at : ℕ) (fault : words.Fault) → seen_fault fault ≡ grammar_fault old layer at → ReactsAs (fails old old.link.accepted (seen_fault fault)) old new r → ReactsTo b old new (Faulty layer at) r
  fault_reacts layer at fault f p = (
    fails old old.link.accepted (grammar_fault old layer at),
    ap (λ (c : Bool). Some (if c then rules.Passes else fails old old.link.accepted (grammar_fault old layer at))) up,
    subst (λ (x : Fault). ReactsAs (fails old old.link.accepted x) old new r) f p,
  )

pub transport_reacts : (b : Base) (old new : Body) (r : reactions.Reaction) (unit : TransportUnit) → ReactsAs (react b old (Transport unit)) old new r → ReactsTo b old new (OfTransport unit) r
transport_reacts b old new r unit p = (react b old (Transport unit), refl, p)

-- ---- the contexts of a unit that can't be read

pub not_proposed : (b : Base) (body : Body) (word : PresentationWord) → ((p : PresentationConnect) → word ≡ ppdus.Connect p → ⊥) → contexts_read b body (Ok word) ≡ body.link.accepted
not_proposed b body (ppdus.Connect p) h = absurd (h p refl)
not_proposed b body word h = refl

pub not_connecting : (b : Base) (body : Body) (unit : SessionWord) → ((s : SessionConnect) → unit ≡ units.Connect s → ⊥) → contexts_of_unit b body unit ≡ body.link.accepted
not_connecting b body (units.Connect s) h = absurd (h s refl)
not_connecting b body unit h = refl

pub unread_proposal : (b : Base) (body : Body) (fault : PpduFault) (place : ℕ) (kind : Kind) (reason : ℕ) (read : Result PresentationWord PpduFault) → fault ≡ ppdu_faults.At place kind reason → FailsPpdu fault read → contexts_read b body read ≡ body.link.accepted
unread_proposal b body fault place kind reason read e f =
    let is : read ≡ Err (ppdu_faults.At place kind reason) = subst (λ (x : PpduFault). FailsPpdu x read) e f in
    ap (contexts_read b body) is

-- ---- faults

pub halted_so : (halt : Halt) (fault : words.Fault) (read : Result Word Fault) → halt ≡ halts.Faulty fault → FailsAs halt read → read ≡ Err (seen_fault fault)
halted_so halt fault read e f = subst (λ (h : Halt). FailsAs h read) e f

pub of_grammar : (body : Body) (layer : Layer) (at : ℕ) → layer ≡ layers.Session → has_connection body ≡ true → grammar_fault body layer at ≡ fault_at layers.Session at 0
of_grammar body layer at s c = ap (λ (l : Layer). grammar_fault body l at) s ∙ ap (λ (k : Bool). if k then fault_at layers.Session at 0 else transport_fault) c

pub before_connection : (body : Body) (layer : Layer) (at : ℕ) → layer ≡ layers.Session → has_connection body ≡ false → grammar_fault body layer at ≡ transport_fault
before_connection body layer at s c = ap (λ (l : Layer). grammar_fault body l at) s ∙ ap (λ (k : Bool). if k then fault_at layers.Session at 0 else transport_fault) c

pub other_layer : (body : Body) (layer : Layer) (at : ℕ) → (layer ≡ layers.Session → ⊥) → grammar_fault body layer at ≡ fault_at layer at 0
other_layer body layers.Session at h = absurd (h refl)
other_layer body layer at h = refl

-- ---- the end of an activity

pub ending_so : (word : ActivityWord) (number : Option ℕ) → MatchOption number (is_end word ≡ false) (λ n. word ≡ End n) → MatchOption number (is_end_word (OfActivities word) ≡ false) (λ n. OfActivities word ≡ OfActivities (End n))
ending_so word None h = h
ending_so word (Some n) h = ap (λ (a : ActivityWord). OfActivities a) h
