-- What an end does by itself, one thing after the other.
use Rattle.std.proofs.Common.{◌≡◌, ℕ, suc, ◌<◌, nat_lt, take, length, Bool, true, false, not, ◌&&◌, if◌then◌else◌, List, [], ◌∷◌, ◌++◌, Option, Some, None, is_some, refl, sym, ap, subst, ◌∙◌, append_assoc}
use Rattle.std.proofs.lemmas.List.{append-nil}
use Rattle.dialogue.specs.declared.config.Phase.{Phase}
use Rattle.dialogue.specs.declared.config.Phase.TheVariants.{Over, Dead}
use Rattle.osi_base.specs.Limits.{last_serial}
use Rattle.end_rules.specs.Base.{Base, is_reliable}
use Rattle.end_rules.specs.Messages.{Message, Session, OfMarks, OfActivities, Mark, Start, End}
use Rattle.end_rules.specs.State.{Body, Transfer, Encoded, Queued, Link, on_current, is_up, is_free, is_running, is_empty, highest, passes_over}
use Rattle.end_rules.specs.Writing.{part_message}
use Rattle.end_rules.specs.Invoking.{carrier_in}
use Rattle.end_rules.specs.ByItself.{OwnAct, SendsNow, EncodesOn, next_own, next_in, next_start, next_of, next_of_encoded, encodes_on, leads, part_size, ends_in_octets, is_window_full, left_of, item_on, encoded_as, encoding}
use Rattle.osi_base.specs.SetPlaces.{pair_of}
use Rattle.end_rules.specs.Base.{Item}
use Rattle.end_rules.specs.History.{Step, step_of, sent, encoded, ByItself, rests, goes}
use Rattle.end_rules.specs.Requesting.{after_sent}
use Rattle.association_writing.specs.association_wire.Written.{written}
use Rattle.association_writing.specs.Room.{MayStand}
use Rattle.association_line.specs.Line as line
use Rattle.association_line.specs.Line.{after, after_all}
use Rattle.association_line.specs.Feeding.{BeginsByItself, nothing_done, one_done}
use Rattle.association_line.specs.OwnActs.{left_to_do, OwnActsLessen}
use Rattle.association_end.specs.View.{EndView, base, Stepped}
use Rattle.association_end.specs.Progress.{Keeps, DidOne, RestsAt, DidOwn, BeganOwn}
use Rattle.association_end.specs.OneMessage.{with_body, sending}
use Rattle.association_end.proofs.Histories.{same_base, stepped_on, after_all-append}

-- ---- what it sends by itself may be written

abbrev pub ActStands : Option OwnAct → Type 0
ActStands None = Unit {0}
ActStands (Some (SendsNow message)) = MayStand message
ActStands (Some (EncodesOn context)) = Unit {0}

either : (k : Bool) (x y : Option OwnAct) → ActStands x → ActStands y → ActStands (if k then x else y)
either true x y p q = p
either false x y p q = q

encodes_stand : (context : Option ℕ) → ActStands (encodes_on context)
encodes_stand None = tt
encodes_stand (Some context) = tt

-- a mark, nothing, the end or a part
of_four : (p q r : Bool) (mark ending part : Message) → MayStand mark → MayStand ending → MayStand part
    → ActStands (if p then Some (SendsNow mark) else (if q then None else (if r then Some (SendsNow ending) else Some (SendsNow part))))
of_four true q r mark ending part a b c = a
of_four false true r mark ending part a b c = tt
of_four false false true mark ending part a b c = b
of_four false false false mark ending part a b c = c

encoded_stand : (body : Body) (t : Transfer) (e : Encoded) (left : List ℕ) → ActStands (next_of body t e left)
encoded_stand body t e left =
    of_four (ends_in_octets t.pieces && not (is_empty left)) (is_window_full t e) (is_empty left)
    (Session (OfMarks (Mark (suc (highest t.pieces))))) (Session (OfActivities (End (suc (highest t.pieces)))))
    (part_message body (take (part_size e.checkpoint (length left)) left)) tt tt tt

transfer_stand : (b : Base) (body : Body) (t : Transfer) (e : Option Encoded) → ActStands (next_of_encoded b body t e)
transfer_stand b body t None = encodes_stand (carrier_in b body t.item.context)
transfer_stand b body t (Some e) = encoded_stand body t e (left_of t e)

start_stand : (b : Base) (body : Body) (queue : List Queued) → ActStands (next_start b body queue)
start_stand b body [] = tt
start_stand b body (item ∷ items) =
    either (is_some (carrier_in b body item.context) && nat_lt body.sending.started last_serial) (Some (SendsNow (Session (OfActivities (Start (suc body.sending.started)))))) None tt tt

in_stand : (b : Base) (body : Body) (current : Option Transfer) → ActStands (next_in b body current)
in_stand b body None = start_stand b body body.sending.queue
in_stand b body (Some t) = either (is_running t.progress) (next_of_encoded b body t t.encoded) None (transfer_stand b body t t.encoded) tt

pub acts_stand : (b : Base) (body : Body) → ActStands (next_own b body)
acts_stand b body = either (leads b body) (next_in b body body.sending.current) None (in_stand b body body.sending.current) tt

pub sends_stand : (b : Base) (body : Body) (message : Message) → Some (SendsNow message) ≡ next_own b body → MayStand message
sends_stand b body message e = subst ActStands (sym e) (acts_stand b body)

-- ---- one after the other

pub record OwnOn (old now : EndView) : Type 0 where
  pub own : List Step
  pub made : Stepped old now own
  pub goes_on : (more : List Step) → ByItself (base old) (after_all (base old) old.end own).body more → ByItself (base old) old.end.body (own ++ more)
  pub begins_on : (more : List Step) → BeginsByItself (base old) (after_all (base old) old.end own).body more → BeginsByItself (base old) old.end.body (own ++ more)

pub own_on_start : (e : EndView) → OwnOn e e
own_on_start e = record {
  own = [];
  made = record { tables = refl; config = refl; end = refl };
  goes_on = λ more r. r;
  begins_on = λ more r. r;
}

module _ (old now : EndView) (h : OwnOn old now) where
  -- what is so of the end that it came to
  led_back : (P : Base → Body → Type 0) → P (base now) now.end.body → P (base old) (after_all (base old) old.end h.own).body
  led_back P p = subst (λ (e : line.End). P (base old) e.body) h.made.end (subst (λ (b : Base). P b now.end.body) (same_base old now h.own h.made) p)

  abbrev behind : OwnAct → line.End
  behind act = after_all (base old) old.end (h.own ++ step_of act ∷ [])

  -- the end behind one more
  behind_is : (act : OwnAct) → behind act ≡ after (base old) (after_all (base old) old.end h.own) (step_of act)
  behind_is act = after_all-append (base old) old.end h.own (step_of act ∷ [])

  is_next : (act : OwnAct) → next_own (base now) now.end.body ≡ Some act → next_own (base old) (after_all (base old) old.end h.own).body ≡ Some act
  is_next act e = led_back (λ (b : Base) (body : Body). next_own b body ≡ Some act) e

  pub own_on_more : (next : EndView) → DidOne now next → OwnOn old next
  own_on_more next d = record {
    own = h.own ++ step_of d.act ∷ [];
    made = stepped_on old now next h.own (step_of d.act ∷ []) h.made d.made;
    goes_on = λ more r.
        subst (ByItself (base old) old.end.body) (sym (append_assoc h.own (step_of d.act ∷ []) more))
        (h.goes_on (step_of d.act ∷ more) (goes d.act (is_next d.act d.is) (subst (λ (e : line.End). ByItself (base old) e.body more) (behind_is d.act) r)));
    begins_on = λ more r.
        subst (BeginsByItself (base old) old.end.body) (sym (append_assoc h.own (step_of d.act ∷ []) more))
        (h.begins_on (step_of d.act ∷ more) (one_done d.act (is_next d.act d.is) (subst (λ (e : line.End). BeginsByItself (base old) e.body more) (behind_is d.act) r)));
  }

  pub own_on_end : (next : EndView) → RestsAt now next → DidOwn old next
  own_on_end next d = subst (DidOwn old) (sym d.same) (record {
    own = h.own;
    by_itself = subst (ByItself (base old) old.end.body) (append-nil h.own) (h.goes_on [] (rests (led_back (λ (b : Base) (body : Body). next_own b body ≡ None) d.none)));
    made = h.made;
  })

  pub own_on_kept : (next : EndView) → Keeps now next → BeganOwn old next
  own_on_kept next k = record {
    tables = k.tables ∙ h.made.tables;
    config = k.config ∙ h.made.config;
    own = h.own;
    begins = subst (BeginsByItself (base old) old.end.body) (append-nil h.own) (h.begins_on [] nothing_done);
    due = k.waiting ∙ ap (λ (e : line.End). e.line.waiting) h.made.end;
  }

abbrev pub to_do : EndView → ℕ
to_do e = left_to_do (base e) e.end.body

-- less is left
pub less_left : (law : OwnActsLessen) (now next : EndView) → DidOne now next → to_do next < to_do now
less_left law now next d =
    let less = law (base now) now.end.body d.act d.is in
    subst (λ (b : Base). left_to_do b next.end.body < to_do now) (sym (same_base now next (step_of d.act ∷ []) d.made))
    (subst (λ (e : line.End). left_to_do (base now) e.body < to_do now) (sym d.made.end) less)

-- ---- an encoding

pub encoded_by : (b : Base) (body other : Body) (item : Option Item) → body.link ≡ other.link → encoded_as b body item ≡ encoded_as b other item
encoded_by b body other None e = refl
encoded_by b body other (Some item) e = ap (λ (l : Link). Some (record { item = item; octets = b.spellings.transfer item; checkpoint = l.checkpoint; window = l.window })) e

-- ---- an end that does something by itself isn't over

some_if : (k : Bool) (x : Option OwnAct) (act : OwnAct) → (if k then x else None) ≡ Some act → k ≡ true
some_if true x act e = refl
some_if false x act e = cc

leads_up : (m : Bool) (phase : Phase) (turn free calm : Bool) → (m && is_up phase && turn && free && calm) ≡ true → passes_over phase ≡ false
leads_up true Over turn free calm e = cc
leads_up false Over turn free calm e = cc
leads_up true Dead turn free calm e = cc
leads_up false Dead turn free calm e = cc
leads_up m phase turn free calm e = refl

pub own_up : (b : Base) (body : Body) (act : OwnAct) → next_own b body ≡ Some act → passes_over body.link.phase ≡ false
own_up b body act e =
    leads_up (is_reliable b.mode) body.link.phase body.link.turn (is_free body.link.awaits) (is_empty body.sets.own)
    (some_if (leads b body) (next_in b body body.sending.current) act e)

-- ---- one thing, as the code comes by it

pub encoded_so : (e : EndView) (context : ℕ) (body : Body) → body ≡ encoding (base e) context e.end.body → Stepped e (with_body body e) (encoded context ∷ [])
encoded_so e context body h = record { tables = refl; config = refl; end = ap (λ (x : Body). record e.end { body = x }) h }

pub sent_so : (e new : EndView) (message : Message) (body : Body) → body ≡ after_sent e.config.mode e.end.body message → new ≡ sending (message ∷ []) (with_body body e) → Stepped e new (sent message ∷ [])
sent_so e new message body h n = record {
  tables = ap (λ (x : EndView). x.tables) n;
  config = ap (λ (x : EndView). x.config) n;
  end = ap (λ (x : EndView). x.end) n
      ∙ (λ i. record {
        body = h i;
        line = record e.end.line { waiting = e.end.line.waiting ++ append-nil (written e.tables e.end.line.size message) i };
      });
}

-- the item of the current transfer
module _ (b : Base) (context : ℕ) (body : Body) where
  abbrev encodes : Transfer → Transfer
  encodes t = record t { encoded = encoded_as b body (item_on context t.item (pair_of body.sets.held context)) }

  -- a body with this transfer, of which the item is encoded
  goes_so : (c : Option Transfer) → body.sending.current ≡ c → record body { sending = on_current encodes (record body.sending { current = c }) } ≡ encoding b context body
  goes_so c n = ap (λ (x : Option Transfer). record body { sending = on_current encodes (record body.sending { current = x }) }) (sym n)

  pub encoding_none : body.sending.current ≡ None → body ≡ encoding b context body
  encoding_none n = ap (λ (x : Option Transfer). record body { sending = record body.sending { current = x } }) n ∙ goes_so None n

  pub encoding_some : (t new : Transfer) → body.sending.current ≡ Some t → new ≡ encodes t → record body { sending = record body.sending { current = Some new } } ≡ encoding b context body
  encoding_some t new n h = ap (λ (x : Transfer). record body { sending = record body.sending { current = Some x } }) h ∙ goes_so (Some t) n
