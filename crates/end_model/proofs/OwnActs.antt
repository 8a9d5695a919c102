-- What an end of reliable mode does by itself.
use Rattle.std.proofs.Common.{◌≡◌, refl, true, false, ◌∙◌, sym, ap, subst, ℕ, suc, List, [], ◌∷◌}
use Rattle.std.proofs.Common.{map, take, length}
use Rattle.std.specs.Prelude.{Bool, not, ◌&&◌, Option, Some, None, is_some, option_map}
use Rattle.std.specs.Prelude.{if◌then◌else◌, nat_lt}
use Rattle.osi_base.specs.declared.syntax.Pair.{Pair}
use Rattle.osi_base.specs.declared.layer_words.Proposal.{Proposal}
use Rattle.osi_base.specs.Limits.{last_serial}
use Rattle.dialogue.specs.declared.config.Mode.TheVariants.{Reliable}
use Rattle.end_rules.specs.Base.{Base}
use Rattle.osi_base.specs.SetPlaces.{pair_of}
use Rattle.end_rules.specs.State.{Body, Transfer, Encoded, Queued, Progress, Running, Ending}
use Rattle.end_rules.specs.State.{Suspended, is_up, is_free, is_empty, is_running, highest}
use Rattle.end_rules.specs.Messages.{Session, OfMarks, OfActivities, Mark, Start, End}
use Rattle.end_rules.specs.Writing.{part_message}
use Rattle.end_rules.specs.Invoking.{carrier_in}
use Rattle.end_rules.specs.Requesting.{after_sent}
use Rattle.end_rules.specs.ByItself.{OwnAct, SendsNow, EncodesOn, leads, part_size, ends_in_octets}
use Rattle.end_rules.specs.ByItself.{is_window_full, next_of, left_of, encodes_on, next_of_encoded}
use Rattle.end_rules.specs.ByItself.{next_start, next_in, next_own, item_on, encoded_as, encoding}
use Rattle.agreement.specs.Sets.{lookup}
use Rattle.agreement.specs.Messages as model
use Rattle.agreement.specs.Messages.Act.{Starts, Encodes}
use Rattle.agreement.specs.Messages.Message.{Start as model_start}
use Rattle.agreement.specs.State as states
use Rattle.agreement.specs.State.Progress.{Running as model_running}
use Rattle.agreement.specs.Acts.{Leads, IsUnencoded, IsWritable, MayEncode, value_on}
use Rattle.end_model.specs.Seen.{Free, pair_seen, set_seen, progress_seen, queued_seen}
use Rattle.end_model.specs.Seen.{encoded_seen, current_seen, transfer_seen, seen}
use Rattle.end_model.specs.Rows.{at}
use Rattle.end_model.specs.Acting.{ActsAs}
use Rattle.end_model.specs.OwnActs.{MayBeWritten, ByItselfActs}
use Rattle.end_model.proofs.Held.{lookup-seen}
use Rattle.end_model.proofs.Handing.{carrier-sends}
use Rattle.end_model.proofs.Requests.{leads-there}
use Rattle.end_model.proofs.Transfers.{on-current, start-sent}

-- ---- it leads

and-left : (a b : Bool) → (a && b) ≡ true → a ≡ true
and-left true b h = refl
and-left false b h = cc

and-right : (a b : Bool) → (a && b) ≡ true → b ≡ true
and-right true b h = h
and-right false b h = cc

pub record Leading (base : Base) (body : Body) (act : OwnAct) : Type 0 where
  pub leads_so : Leads (seen (at Reliable base) body)
  pub next : next_in (at Reliable base) body body.sending.current ≡ Some act

pub leading : (base : Base) (body : Body) (act : OwnAct) → next_own (at Reliable base) body ≡ Some act → Leading base body act
leading base body act h = go (leads (at Reliable base) body) refl h
  where
    go : (b : Bool) → leads (at Reliable base) body ≡ b → (if b then next_in (at Reliable base) body body.sending.current else None) ≡ Some act → Leading base body act
    go false e h = cc
    go true e h =
        let a : (((is_up body.link.phase && body.link.turn) && is_free body.link.awaits) && is_empty body.sets.own) ≡ true = e in
        let b = and-left ((is_up body.link.phase && body.link.turn) && is_free body.link.awaits) (is_empty body.sets.own) a in
        let c = and-left (is_up body.link.phase && body.link.turn) (is_free body.link.awaits) b in
        record {
          leads_so =
              leads-there (at Reliable base) body (and-left (is_up body.link.phase) body.link.turn c) (and-right (is_up body.link.phase && body.link.turn) (is_free body.link.awaits) b)
              (and-right (is_up body.link.phase) body.link.turn c) (and-right ((is_up body.link.phase && body.link.turn) && is_free body.link.awaits) (is_empty body.sets.own) a);
          next = h;
        }

-- ---- which act it is

-- next of an encoding is never an encoding, nor a start
abbrev IsOther : OwnAct → Type 0
IsOther (EncodesOn context) = ⊥
IsOther (SendsNow (Session (OfActivities (Start activity)))) = ⊥
IsOther (SendsNow message) = Unit {0}

abbrev AllOther : Option OwnAct → Type 0
AllOther None = Unit {0}
AllOther (Some act) = IsOther act

next-other : (body : Body) (t : Transfer) (e : Encoded) (left : List ℕ) → AllOther (next_of body t e left)
next-other body t e left = go (ends_in_octets t.pieces && not (is_empty left)) (is_window_full t e) (is_empty left)
  where
    go : (a b c : Bool) → AllOther (if a then Some (SendsNow (Session (OfMarks (Mark (suc (highest t.pieces)))))) else (if b then None else (if c then Some (SendsNow (Session (OfActivities (End (suc (highest t.pieces)))))) else Some (SendsNow (part_message body (take (part_size e.checkpoint (length left)) left))))))
    go true b c = tt
    go false true c = tt
    go false false true = tt
    go false false false = tt

-- the transfer is to be encoded on the carrier of its item's context
pub record Encoding (base : Base) (body : Body) (context : ℕ) : Type 0 where
  pub transfer : Transfer
  pub is_it : body.sending.current ≡ Some transfer
  pub runs : is_running transfer.progress ≡ true
  pub is_due : transfer.encoded ≡ None
  pub carrier : carrier_in (at Reliable base) body transfer.item.context ≡ Some context

no-start : (context started : ℕ) (b : Bool) → (if b then Some (SendsNow (Session (OfActivities (Start (suc started))))) else None) ≡ Some (EncodesOn context) → ⊥
no-start context started true h = cc
no-start context started false h = cc

none-started : (base : Base) (body : Body) (context : ℕ) (queue : List Queued) → next_start (at Reliable base) body queue ≡ Some (EncodesOn context) → ⊥
none-started base body context [] h = cc
none-started base body context (item ∷ items) h = no-start context body.sending.started (is_some (carrier_in (at Reliable base) body item.context) && nat_lt body.sending.started last_serial) h

pub on-carrier : (context : ℕ) (c : Option ℕ) → encodes_on c ≡ Some (EncodesOn context) → c ≡ Some context
on-carrier context None h = cc
on-carrier context (Some k) h = let s : k ≡ context = cc in ap (λ (j : ℕ). Some j) s

pub encoding-so : (base : Base) (body : Body) (context : ℕ) (current : Option Transfer) → body.sending.current ≡ current → next_in (at Reliable base) body current ≡ Some (EncodesOn context) → Encoding base body context
encoding-so base body context None e h = absurd (none-started base body context body.sending.queue h)
encoding-so base body context (Some t) e h = go (is_running t.progress) refl t.encoded refl h
  where
    go : (b : Bool) → is_running t.progress ≡ b → (x : Option Encoded) → t.encoded ≡ x → (if b then next_of_encoded (at Reliable base) body t x else None) ≡ Some (EncodesOn context) → Encoding base body context
    go false r x d h = cc
    go true r None d h = record { transfer = t; is_it = e; runs = r; is_due = d; carrier = on-carrier context (carrier_in (at Reliable base) body t.item.context) h }
    go true r (Some x) d h = absurd (subst AllOther h (next-other body t x (left_of t x)))

pub running-seen : (p : Progress) → is_running p ≡ true → progress_seen p ≡ model_running
running-seen Running h = refl
running-seen Ending h = cc
running-seen Suspended h = cc

-- ---- encodings

-- the value of an encoding
value-seen : (base : Base) (body : Body) (context : ℕ) (item : Queued) (p : Option Pair) → encoded_seen base (encoded_as base body (item_on context item p)) ≡ value_on context (queued_seen base item) (option_map pair_seen p)
value-seen base body context item None = refl
value-seen base body context item (Some pair) = refl

encodes-act : (context : ℕ) (free : Free) (base : Base) (proposed : List Proposal) (body : Body) → MayBeWritten free base body context → next_own (at Reliable base) body ≡ Some (EncodesOn context) → ActsAs free Reliable base proposed body (encoding (at Reliable base) context body) [] (Encodes context)
encodes-act context free base proposed body writes h =
    let l = leading base body (EncodesOn context) h in
    let x = encoding-so base body context body.sending.current refl l.next in
    let m = carrier-sends base.tables.name_oid body.sets.held body.sets.own x.transfer.item.context context x.carrier in
    let held : lookup (set_seen body.sets.held) context ≡ Some (pair_seen m.pair) = lookup-seen body.sets.held context ∙ ap (option_map pair_seen) m.there in
    let current : (seen (at Reliable base) body).outgoing.transfer ≡ Some (current_seen (at Reliable base) x.transfer) = ap (transfer_seen (at Reliable base)) x.is_it in
    let put : states.Outgoing → states.State = λ o. record (seen (at Reliable base) body) { outgoing = o } in
    record {
      may =
          record {
            by_transfers = refl;
            leads = l.leads_so;
            is_due = subst IsUnencoded (sym current) (running-seen x.transfer.progress x.runs, ap (encoded_seen (at Reliable base)) x.is_due);
            is_writable = subst (MayEncode free.codec context (set_seen body.sets.held)) (sym current) (subst (λ p. IsWritable free.codec (value_on context (queued_seen (at Reliable base) x.transfer.item) p)) (sym held) (writes x.transfer (record { id = context; pair = m.pair; apdu = x.transfer.item.apdu }) x.is_it refl refl m.there));
          };
      after =
          ap put
          (on-current (at Reliable base) (λ t. record t { encoded = encoded_as (at Reliable base) body (item_on context t.item (pair_of body.sets.held context)) })
          (λ t. record t { value = value_on context t.item (lookup (set_seen body.sets.held) context) })
          (λ t. let fill : Option model.Value → states.Transfer = λ v. record (current_seen (at Reliable base) t) { value = v } in
          ap fill (value-seen (at Reliable base) body context t.item (pair_of body.sets.held context) ∙ ap (value_on context (queued_seen (at Reliable base) t.item)) (sym (lookup-seen body.sets.held context))))
          body.sending.started body.sending.queue body.sending.current);
      means = tt;
    }

-- ---- the start of the next item

record Starting (base : Base) (body : Body) (activity : ℕ) : Type 0 where
  none : body.sending.current ≡ None
  some : (body.sending.queue ≡ []) → ⊥
  next : activity ≡ suc body.sending.started

start-next : (activity started : ℕ) (b : Bool) → (if b then Some (SendsNow (Session (OfActivities (Start (suc started))))) else None) ≡ Some (SendsNow (Session (OfActivities (Start activity)))) → activity ≡ suc started
start-next activity started true h = cc
start-next activity started false h = cc

not-nil : (item : Queued) (items : List Queued) → item ∷ items ≡ [] → ⊥
not-nil item items e = cc

no-carrier : (activity : ℕ) (c : Option ℕ) → encodes_on c ≡ Some (SendsNow (Session (OfActivities (Start activity)))) → ⊥
no-carrier activity None h = cc
no-carrier activity (Some k) h = cc

starting : (base : Base) (body : Body) (activity : ℕ) (current : Option Transfer) (queue : List Queued) → body.sending.current ≡ current → body.sending.queue ≡ queue → next_in (at Reliable base) body current ≡ Some (SendsNow (Session (OfActivities (Start activity)))) → Starting base body activity
starting base body activity None [] e q h =
    let k : next_start (at Reliable base) body [] ≡ Some (SendsNow (Session (OfActivities (Start activity)))) = ap (next_start (at Reliable base) body) (sym q) ∙ h in
    absurd (no-next k)
  where
    no-next : None ≡ Some (SendsNow (Session (OfActivities (Start activity)))) → ⊥
    no-next k = cc
starting base body activity None (item ∷ items) e q h =
    let k : next_start (at Reliable base) body (item ∷ items) ≡ Some (SendsNow (Session (OfActivities (Start activity)))) = ap (next_start (at Reliable base) body) (sym q) ∙ h in
    record {
      none = e;
      some = λ n. not-nil item items (sym q ∙ n);
      next = start-next activity body.sending.started (is_some (carrier_in (at Reliable base) body item.context) && nat_lt body.sending.started last_serial) k;
    }
starting base body activity (Some t) queue e q h = go (is_running t.progress) t.encoded h
  where
    go : (b : Bool) (x : Option Encoded) → (if b then next_of_encoded (at Reliable base) body t x else None) ≡ Some (SendsNow (Session (OfActivities (Start activity)))) → Starting base body activity
    go false x h = cc
    go true None h = absurd (no-carrier activity (carrier_in (at Reliable base) body t.item.context) h)
    go true (Some x) h = absurd (subst AllOther h (next-other body t x (left_of t x)))

starts-act : (activity : ℕ) (free : Free) (base : Base) (proposed : List Proposal) (body : Body) → next_own (at Reliable base) body ≡ Some (SendsNow (Session (OfActivities (Start activity)))) → ActsAs free Reliable base proposed body (after_sent Reliable body (Session (OfActivities (Start activity)))) (Session (OfActivities (Start activity)) ∷ []) Starts
starts-act activity free base proposed body h =
    let l = leading base body (SendsNow (Session (OfActivities (Start activity)))) h in
    let s = starting base body activity body.sending.current body.sending.queue refl refl l.next in
    record {
      may =
          record {
            by_transfers = refl;
            leads = l.leads_so;
            is_first = ap (transfer_seen (at Reliable base)) s.none;
            has_item = λ e. s.some (none-mapped body.sending.queue e);
          };
      after = start-sent free base body;
      means = (ap model_start (sym s.next), tt);
    }
  where
    none-mapped : (queue : List Queued) → map (queued_seen (at Reliable base)) queue ≡ [] → queue ≡ []
    none-mapped [] e = refl
    none-mapped (item ∷ items) e = cc

pub own-acts : ByItselfActs
own-acts = record { starts = starts-act; encodes = encodes-act }
