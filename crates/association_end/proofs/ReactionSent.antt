-- What is answered and sent for a message is what the rules answer and send.
use Rattle.std.proofs.Common.{◌≡◌, ℕ, Bool, false, List, [], ◌++◌, Some, None, refl, sym, ap, subst, ◌∙◌}
use Rattle.std.proofs.lemmas.List.{append-nil}
use Rattle.std.specs.Prelude.{Result, Ok, Err, IfOk, OnErr, MatchResult}
use Rattle.osi_base.specs.declared.fault.NoMemory.{NoMemory}
use Rattle.dialogue.specs.declared.indication.Indication.{Indication}
use Rattle.end_rules.specs.Messages as meant
use Rattle.end_rules.specs.State.{Body, passes_over}
use Rattle.association_line.specs.association_reading.Front.{Front}
use Rattle.association_line.specs.Line.{first_size}
use Rattle.association_line.specs.Reactions.{ReactionsAreSteps}
use Rattle.association_reacting.specs.association_answers.declared.brought.Reaction.{Reaction}
use Rattle.association_reacting.specs.association_answers.declared.brought.Reaction.TheVariants.{Passes, Takes, Fails}
use Rattle.association_reacting.specs.association_answers.BroughtAs.{seen_messages}
use Rattle.association_reacting.specs.SeenReaction.{ReactsAs}
use Rattle.association_end.specs.View.{EndView, base}
use Rattle.association_end.specs.OneMessage as reacted
use Rattle.association_end.specs.OneMessage.{AllMayStand, with_body, with_line, with_came, sending, size_of_front, ReactsTo, ReactedTo, sent_for, IsOverFor, Settles, SettlesFor, ReactionDone, TookFirst}
use Rattle.association_words.specs.declared.words.Message.{Message}
use Rattle.association_meaning.specs.association_intake.declared.front.Front as fronts
use Rattle.association_meaning.specs.association_intake.Seen.{seen_front}
use Rattle.association_end.specs.Progress.{Keeps, ReadOneOrAll}
use Rattle.association_end.proofs.Sent.{answers_stand}
use Rattle.association_end.proofs.ReactionSteps.{reaction_read}

pub reacted_so : (old new : EndView) (body : Body) (front : Front) (r : Result Reaction NoMemory) → new ≡ with_body body old → IfOk r (ReactsTo (base old) old.end.body body front) → IfOk r (ReactedTo old new front)
reacted_so old new body front (Ok x) n p =
    let there : new.end.body ≡ body = ap (λ (e : EndView). e.end.body) n in
    record {
      rule = p.0;
      is = p.1;
      reacts = subst (λ (left : Body). ReactsAs p.0 old.end.body left x) (sym there) p.2;
      new_is = n ∙ ap (λ (left : Body). with_body left old) (sym there);
    }
reacted_so old new body front (Err e) n p = tt

-- ---- what is sent may be written

module _ (law : ReactionsAreSteps) (old new : EndView) (front : Front) where
  pub sent_stands : (r : Reaction) → ReactedTo old new front r → AllMayStand (sent_for r)
  sent_stands Passes h = tt
  sent_stands (Takes taken) h =
      answers_stand (seen_messages taken.answers) (law.takings (base old) old.end.body front new.end.body (seen_messages taken.answers) taken.shown (h.is ∙ ap Some h.reacts.is)).answers_are
  sent_stands (Fails came aborts shown) h =
      answers_stand (seen_messages aborts) (law.faults (base old) old.end.body front h.reacts.fault new.end.body (seen_messages aborts) shown (h.is ∙ ap Some h.reacts.is)).aborts_are

  pub over_for : (r : Reaction) → ReactedTo old new front r → IsOverFor r new
  over_for Passes h = tt
  over_for (Takes taken) h = tt
  over_for (Fails came aborts shown) h =
      ap (λ (body : Body). passes_over body.link.phase) (law.faults (base old) old.end.body front h.reacts.fault new.end.body (seen_messages aborts) shown (h.is ∙ ap Some h.reacts.is)).body_is

-- ---- what was taken off was reacted to

module _ (old mid new : EndView) (front : Front) (before later : List Indication) (size : ℕ) (size_is : size ≡ size_of_front (first_size old.config.initiator) old.end.line.size front) where
  pub reaction_done : (r : Reaction) (more : Bool) → ReactedTo old mid front r → SettlesFor r size mid new before later more → ReactionDone old new front before later more
  reaction_done Passes more h s =
      let mid_is : mid ≡ old = h.new_is ∙ ap (λ (body : Body). with_body body old) h.reacts.body in
      subst (ReactionDone old new front before later) (sym s.0)
      (reacted.passes (h.is ∙ ap Some h.reacts.is) (s.1.new_is ∙ mid_is) (s.1.shown_is ∙ append-nil before))
  reaction_done (Takes taken) more h s =
      let answers : List meant.Message = seen_messages taken.answers in
      subst (ReactionDone old new front before later) (sym s.0)
      (reacted.takes mid.end.body answers taken.shown (h.is ∙ ap Some h.reacts.is)
      (s.1.new_is
      ∙ ap (λ (m : EndView). sending answers (with_line (record m.end.line { size = size }) m)) h.new_is
      ∙ ap (λ (n : ℕ). sending answers (with_line (record old.end.line { size = n }) (with_body mid.end.body old))) size_is)
      s.1.shown_is)
  reaction_done (Fails came aborts shown) more h s =
      let sent : List meant.Message = seen_messages aborts in
      subst (ReactionDone old new front before later) (sym s.0)
      (reacted.fails h.reacts.fault mid.end.body sent shown (h.is ∙ ap Some h.reacts.is)
      (s.1.new_is ∙ ap (λ (m : EndView). with_came None (sending sent m)) h.new_is)
      s.1.shown_is)

-- ---- as the code comes by them

pub on_err : {A : Type 0} (r : Result A NoMemory) (P : Type 0) → P → OnErr r P
on_err (Ok x) P p = tt
on_err (Err e) P p = p

pub kept_same : (old new : EndView) → new ≡ old → Keeps old new
kept_same old new e = record { tables = ap (λ (x : EndView). x.tables) e; config = ap (λ (x : EndView). x.config) e; waiting = ap (λ (x : EndView). x.end.line.waiting) e }

pub kept_line : (e old new : EndView) → e ≡ old → new.tables ≡ e.tables → new.config ≡ e.config → new.end.line.waiting ≡ e.end.line.waiting → Keeps old new
kept_line e old new v t c w = record {
  tables = t ∙ ap (λ (x : EndView). x.tables) v;
  config = c ∙ ap (λ (x : EndView). x.config) v;
  waiting = w ∙ ap (λ (x : EndView). x.end.line.waiting) v;
}

-- with another body, or once something that came was taken off
pub kept_body : (old mid new : EndView) (body : Body) → mid ≡ with_body body old → Keeps mid new → Keeps old new
kept_body old mid new body m k = record {
  tables = k.tables ∙ ap (λ (x : EndView). x.tables) m;
  config = k.config ∙ ap (λ (x : EndView). x.config) m;
  waiting = k.waiting ∙ ap (λ (x : EndView). x.end.line.waiting) m;
}

pub kept_took : (old mid new : EndView) (front : fronts.Front) → TookFirst old mid front → Keeps mid new → Keeps old new
kept_took old mid new front t k = record {
  tables = k.tables ∙ ap (λ (x : EndView). x.tables) t.new_is;
  config = k.config ∙ ap (λ (x : EndView). x.config) t.new_is;
  waiting = k.waiting ∙ ap (λ (x : EndView). x.end.line.waiting) t.new_is;
}

pub reaction_result : (old mid new : EndView) (front : Front) (before later : List Indication) (size : ℕ) → size ≡ size_of_front (first_size old.config.initiator) old.end.line.size front
    → (reaction : Reaction) → ReactedTo old mid front reaction → (r : Result Bool NoMemory)
    → MatchResult r (λ more. SettlesFor reaction size mid new before later more) (λ _. Keeps mid new) → MatchResult r (ReactionDone old new front before later) (λ _. Keeps old new)
reaction_result old mid new front before later size e reaction h (Ok more) s = reaction_done old mid new front before later size e reaction more h s
reaction_result old mid new front before later size e reaction h (Err x) k = kept_body old mid new mid.end.body h.new_is k

pub up_behind : (old mid : EndView) (front : fronts.Front) → TookFirst old mid front → passes_over old.end.body.link.phase ≡ false → passes_over mid.end.body.link.phase ≡ false
up_behind old mid front t up = ap (λ (x : EndView). passes_over x.end.body.link.phase) t.new_is ∙ up

pub next_read : (law : ReactionsAreSteps) (old mid new : EndView) (front : fronts.Front) (before later : List Indication) → TookFirst old mid front → passes_over old.end.body.link.phase ≡ false → (r : Result Bool NoMemory)
    → MatchResult r (ReactionDone mid new (seen_front front) before later) (λ _. Keeps mid new) → MatchResult r (λ more. ReadOneOrAll more old new before later) (λ _. Keeps old new)
next_read law old mid new front before later t up (Ok more) d = reaction_read law old mid new t.intake (seen_front front) before later more t.came up t.first t.new_is d
next_read law old mid new front before later t up (Err x) k = kept_took old mid new front t k

-- ---- what is sent and shown

pub settled_nothing : (e : EndView) (before : List Indication) → Settles e e e before before []
settled_nothing e before = record { new_is = refl; shown_is = sym (append-nil before) }

-- answers, in the size that the message names
abbrev sized : ℕ → EndView → EndView
sized size e = with_line (record e.end.line { size = size }) e

pub settled_so : (e old new : EndView) (answers slice : List Message) (size : ℕ) (before later told : List Indication) → e ≡ old → slice ≡ answers → later ≡ before ++ told
    → new ≡ sending (seen_messages slice) (sized size e) → Settles old new (sending (seen_messages answers) (sized size old)) before later told
settled_so e old new answers slice size before later told v s h n = record {
  new_is = n ∙ (λ i. sending (seen_messages (s i)) (sized size (v i)));
  shown_is = h;
}

pub kept_sized : (e old new : EndView) (size : ℕ) → e ≡ old → new ≡ sized size e → Keeps old new
kept_sized e old new size v n = record {
  tables = ap (λ (x : EndView). x.tables) n ∙ ap (λ (x : EndView). x.tables) v;
  config = ap (λ (x : EndView). x.config) n ∙ ap (λ (x : EndView). x.config) v;
  waiting = ap (λ (x : EndView). x.end.line.waiting) n ∙ ap (λ (x : EndView). x.end.line.waiting) v;
}

pub aborted_so : (e old mid : EndView) (aborts slice : List Message) (before later told : List Indication) → e ≡ mid → mid ≡ sending (seen_messages slice) old → slice ≡ aborts → later ≡ before ++ told
    → Settles old (with_came None e) (with_came None (sending (seen_messages aborts) old)) before later told
aborted_so e old mid aborts slice before later told v m s h = record {
  new_is = ap (with_came None) (v ∙ m ∙ ap (λ (ms : List Message). sending (seen_messages ms) old) s);
  shown_is = h;
}

-- a message couldn't be put behind what waits
pub kept_sent : (e old new : EndView) (body : Body) → e ≡ old → new ≡ with_body body e → Keeps old new
kept_sent e old new body v n =
    kept_line e old new v (ap (λ (x : EndView). x.tables) n) (ap (λ (x : EndView). x.config) n) (ap (λ (x : EndView). x.end.line.waiting) n)
