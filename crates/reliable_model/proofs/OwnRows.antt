-- What an end of reliable mode does by itself is an act of the model.
use Rattle.std.proofs.Common.{◌≡◌, refl, true, false, ◌∙◌, sym, ap, subst, arith, ℕ, suc, ◌+◌, ◌*◌, ◌≤◌, List, [], ◌∷◌}
use Rattle.std.proofs.Common.{◌++◌, map, length, take, drop}
use Rattle.std.specs.Prelude.{Bool, not, ◌&&◌, Option, Some, None, is_some, nat_lt, if◌then◌else◌}
use Rattle.std.proofs.Math.Seq.{drop-append_seam}
use Rattle.std.proofs.lemmas.List.{append-nil, append_assoc, length-append, take-append-drop}
use Rattle.osi_base.specs.declared.layer_words.SetItem.{SetItem}
use Rattle.osi_base.specs.declared.layer_words.Proposal.{Proposal}
use Rattle.osi_base.specs.Limits.{most_marks, most_transferred, last_serial}
use Rattle.end_model.specs.dialogue.declared.config.Mode.TheVariants.{Reliable}
use Rattle.end_model.specs.end_rules.Base.{Base}
use Rattle.osi_base.specs.SetPlaces.{pair_of}
use Rattle.end_model.specs.end_rules.Encodings.{next_queued, encoding_of}
use Rattle.end_model.specs.end_rules.State.{Body, Octets, Marked, Progress, Running, Ending, Suspended, Encoded, Transfer}
use Rattle.end_model.specs.end_rules.State.{Queued, joined, highest, pieces_of, on_current, is_empty, is_running}
use Rattle.end_model.specs.end_rules.Messages.{Session, OfMarks, OfActivities, Part, Mark, Start, End}
use Rattle.end_model.specs.end_rules.Invoking.{carrier_in}
use Rattle.end_model.specs.end_rules.Writing.{part_message, rtse_value}
use Rattle.end_model.specs.end_rules.Requesting.{after_sent}
use Rattle.end_model.specs.end_rules.History.{after_step, step_of}
use Rattle.end_model.specs.end_rules.ByItself.{OwnAct, SendsNow, EncodesOn, part_size, ends_in_octets, is_window_full, next_of}
use Rattle.end_model.specs.end_rules.ByItself.{left_of, encodes_on, next_of_encoded, next_start, next_in, item_on, encoded_as, next_own}
use Rattle.agreement.specs.Sets as model_sets
use Rattle.agreement.specs.Messages.Act.{Marks, EndsActivity, Sends, Starts, Encodes}
use Rattle.agreement.specs.Messages.Message.{Mark as model_mark, End as model_end}
use Rattle.agreement.specs.State as states
use Rattle.agreement.specs.Laws.{Encoding as ModelEncoding, next_queued as model_first, encoding_of as model_encoding}
use Rattle.agreement.specs.Acts.{Leads, OnEncoded as ModelEncoded, OnRunning, acted, pieces_of as model_pieces}
use Rattle.end_model.specs.Seen.{Free, set_seen, apdu_seen, queued_seen, item_seen, piece_seen, progress_seen, encoded_seen, transfer_seen, seen, setup_seen}
use Rattle.end_model.specs.Rows.{at}
use Rattle.end_model.proofs.Held.{lookup-seen}
use Rattle.end_model.proofs.OwnActs.{Leading, leading, own-acts}
use Rattle.end_model.proofs.Transfers.{highest-seen, part-sent, end-sent, mark-in-activity}
use Rattle.end_model.proofs.TransferRows.{joined-seen}
use Rattle.reliable_model.specs.Codecs.{IsContextOf, IsTransferable, SpellsTransfers, Carries}
use Rattle.reliable_model.specs.Transferring.{IsBeginning, OnEncoded, IsCurrent, IsSending}
use Rattle.reliable_model.specs.Ledgers.{own_messages}
use Rattle.reliable_model.specs.OwnRows.{encoding_seen, OwnActsAs, EncodesInPlace, OwnMessagesAct}
use Rattle.reliable_model.proofs.Words.{AreOwn}
use Rattle.reliable_model.proofs.Transferring.{changed, current-is, with-progress, begun-kept, encoded-so, not-empty}
use Rattle.reliable_model.proofs.Transferring.{part-full, mark-room, within}

-- ---- which act it is

pub record Sends_ (body : Body) (t : Transfer) (e : Encoded) : Type 0 where
  pub is_it : body.sending.current ≡ Some t
  pub runs : t.progress ≡ Running
  pub encoded : t.encoded ≡ Some e

pub data Kind (body : Body) (own : OwnAct) : Type 0 where
  StartsNext : (item : Queued) (items : List Queued) → body.sending.current ≡ None → body.sending.queue ≡ item ∷ items → own ≡ SendsNow (Session (OfActivities (Start (suc body.sending.started)))) → Kind body own
  EncodesIt : (t : Transfer) (context : ℕ) → body.sending.current ≡ Some t → t.encoded ≡ None → own ≡ EncodesOn context → Kind body own
  MarksIt : (t : Transfer) (e : Encoded) → Sends_ body t e → ends_in_octets t.pieces ≡ true → is_empty (left_of t e) ≡ false → own ≡ SendsNow (Session (OfMarks (Mark (suc (highest t.pieces))))) → Kind body own
  EndsIt : (t : Transfer) (e : Encoded) → Sends_ body t e → is_empty (left_of t e) ≡ true → own ≡ SendsNow (Session (OfActivities (End (suc (highest t.pieces))))) → Kind body own
  GivesPart : (t : Transfer) (e : Encoded) → Sends_ body t e → is_empty (left_of t e) ≡ false → own ≡ SendsNow (part_message body (take (part_size e.checkpoint (length (left_of t e))) (left_of t e))) → Kind body own

some-own : (x y : OwnAct) → Some x ≡ Some y → y ≡ x
some-own x y h = cc

on-encoded : (body : Body) (own : OwnAct) (t : Transfer) (e : Encoded) → Sends_ body t e → next_of body t e (left_of t e) ≡ Some own → Kind body own
on-encoded body own t e s h = go (ends_in_octets t.pieces) refl (is_empty (left_of t e)) refl (is_window_full t e) h
  where
    go : (a : Bool) → ends_in_octets t.pieces ≡ a → (c : Bool) → is_empty (left_of t e) ≡ c → (w : Bool) → (if a && not c then Some (SendsNow (Session (OfMarks (Mark (suc (highest t.pieces)))))) else (if w then None else (if c then Some (SendsNow (Session (OfActivities (End (suc (highest t.pieces)))))) else Some (SendsNow (part_message body (take (part_size e.checkpoint (length (left_of t e))) (left_of t e))))))) ≡ Some own → Kind body own
    go true p false q w h = MarksIt t e s p q (some-own _ own h)
    go true p true q true h = cc
    go true p true q false h = EndsIt t e s q (some-own _ own h)
    go false p c q true h = cc
    go false p true q false h = EndsIt t e s q (some-own _ own h)
    go false p false q false h = GivesPart t e s q (some-own _ own h)

on-unencoded : (body : Body) (own : OwnAct) (t : Transfer) (c : Option ℕ) → body.sending.current ≡ Some t → t.encoded ≡ None → encodes_on c ≡ Some own → Kind body own
on-unencoded body own t None e d h = cc
on-unencoded body own t (Some context) e d h = EncodesIt t context e d (some-own _ own h)

on-transfer : (base : Base) (body : Body) (own : OwnAct) (t : Transfer) → body.sending.current ≡ Some t → next_in (at Reliable base) body (Some t) ≡ Some own → Kind body own
on-transfer base body own t e h = go t.progress refl t.encoded refl h
  where
    go : (p : Progress) → t.progress ≡ p → (x : Option Encoded) → t.encoded ≡ x → (if is_running p then next_of_encoded (at Reliable base) body t x else None) ≡ Some own → Kind body own
    go Running r None d h = on-unencoded body own t (carrier_in (at Reliable base) body t.item.context) e d h
    go Running r (Some x) d h = on-encoded body own t x (record { is_it = e; runs = r; encoded = d }) h
    go Ending r x d h = cc
    go Suspended r x d h = cc

on-queue : (base : Base) (body : Body) (own : OwnAct) (queue : List Queued) → body.sending.current ≡ None → body.sending.queue ≡ queue → next_start (at Reliable base) body queue ≡ Some own → Kind body own
on-queue base body own [] e q h = cc
on-queue base body own (item ∷ items) e q h = go (is_some (carrier_in (at Reliable base) body item.context) && nat_lt body.sending.started last_serial) h
  where
    go : (b : Bool) → (if b then Some (SendsNow (Session (OfActivities (Start (suc body.sending.started))))) else None) ≡ Some own → Kind body own
    go true h = StartsNext item items e q (some-own _ own h)
    go false h = cc

pub kind : (base : Base) (body : Body) (own : OwnAct) (current : Option Transfer) → body.sending.current ≡ current → next_in (at Reliable base) body current ≡ Some own → Kind body own
kind base body own None e h = on-queue base body own body.sending.queue e refl h
kind base body own (Some t) e h = on-transfer base body own t e h

one-transfer : (s t : Transfer) → Some s ≡ Some t → s ≡ t
one-transfer s t h = cc

-- ---- a transfer that is encoded

record Begun (base : Base) (t : Transfer) (e : Encoded) : Type 0 where
  current : IsCurrent base t
  beginning : IsBeginning base t.item.apdu t.pieces e
  left_is : left_of t e ≡ beginning.left
  transferable : IsTransferable base e.item.apdu

begun-of : (base : Base) (body : Body) (t : Transfer) (e : Encoded) → IsSending base body.sending → Sends_ body t e → Begun base t e
begun-of base body t e h s =
    let c : IsCurrent base t = current-is base body.sending t h s.is_it in
    let b : IsBeginning base t.item.apdu t.pieces e = subst (OnEncoded base t.item.apdu t.pieces) s.encoded c.encoded in
    record {
      current = c;
      beginning = b;
      left_is = ap (drop (length (joined t.pieces))) (sym b.begins) ∙ drop-append_seam (joined t.pieces) b.left;
      transferable = subst (IsTransferable base) (sym b.same) c.item;
    }

-- the model's transfer is running, and of its octets this holds
running : (P : List ℕ → List ℕ → Type 0) (free : Free) (base : Base) (body : Body) (t : Transfer) (e : Encoded) → Carries free (at Reliable base) → Sends_ body t e → Begun (at Reliable base) t e → P (joined t.pieces) e.octets → OnRunning P free.codec (transfer_seen (at Reliable base) body.sending.current)
running P free base body t e carries s g h =
    let b = g.beginning in
    let written : free.codec.written (item_seen (at Reliable base) e.item) ≡ e.octets = carries.written e.item g.transferable b.placed ∙ sym b.octets in
    subst (λ c. OnRunning P free.codec (transfer_seen (at Reliable base) c)) (sym s.is_it) (
      ap progress_seen s.runs,
      subst (λ x. ModelEncoded P free.codec (map piece_seen t.pieces) (encoded_seen (at Reliable base) x)) (sym s.encoded)
          (subst (λ xs. P xs (free.codec.written (item_seen (at Reliable base) e.item))) (sym (joined-seen t.pieces)) (subst (P (joined t.pieces)) (sym written) h)),
    )

-- the current transfer after a change
changed-at : (base : Base) (body : Body) (t : Transfer) (change : Transfer → Transfer) → IsSending base body.sending → body.sending.current ≡ Some t → IsCurrent base (change t) → IsSending base (on_current change body.sending)
changed-at base body t change h e c =
    changed base change body.sending.started body.sending.queue body.sending.current h.queue (λ u d. subst (λ v. IsCurrent base (change v)) (one-transfer t u (sym e ∙ d)) c)

-- ---- a mark

marks-so : (free : Free) (base : Base) (proposed : List Proposal) (body : Body) (t : Transfer) (e : Encoded) → SpellsTransfers (at Reliable base) → Carries free (at Reliable base) → IsSending (at Reliable base) body.sending → Leads (seen (at Reliable base) body) → Sends_ body t e → ends_in_octets t.pieces ≡ true → is_empty (left_of t e) ≡ false → OwnActsAs free base proposed body (SendsNow (Session (OfMarks (Mark (suc (highest t.pieces))))))
marks-so free base proposed body t e spells carries h leads s ends more =
    let g = begun-of (at Reliable base) body t e h s in
    let b = g.beginning in
    let c = g.current in
    let some : 1 ≤ length b.left = subst (λ (xs : List ℕ). 1 ≤ length xs) g.left_is (not-empty (left_of t e) more) in
    let all : length (joined t.pieces) + length b.left ≡ length e.octets = sym (length-append (joined t.pieces) b.left) ∙ ap length b.begins in
    let room : suc (highest t.pieces) * 1024 ≤ length (joined t.pieces) = mark-room t.pieces b.left (length e.octets) b.full ends all some in
    let limit : length e.octets ≤ most_transferred = within (at Reliable base) t.item.apdu t.pieces e spells c.item b in
    let few : suc (highest t.pieces) ≤ most_marks = omega arith in
    record {
      act = Marks;
      acts =
          record {
            may =
                record {
                  leads = leads;
                  in_mode = (
                    running (λ sent all. Unit {0}) free base body t e carries s g tt,
                    subst (λ x. suc (states.highest (model_pieces (transfer_seen (at Reliable base) x))) ≤ most_marks) (sym s.is_it) (subst (λ n. suc n ≤ most_marks) (highest-seen t.pieces) few),
                  );
                };
            after = ap (λ x. seen (at Reliable base) (after_sent Reliable body (Session (OfMarks (Mark (suc (highest (pieces_of x)))))))) (sym s.is_it) ∙ mark-in-activity free base body;
            means = (ap (λ x. model_mark (suc (states.highest (model_pieces (transfer_seen (at Reliable base) x))))) s.is_it ∙ ap (λ n. model_mark (suc n)) (sym (highest-seen t.pieces)), tt);
          };
      starts = λ items. refl;
      encodes = λ set. refl;
      sending =
          changed-at (at Reliable base) body t (λ u. record u { pieces = Marked (suc (highest t.pieces)) body.sets.held ∷ u.pieces }) h s.is_it
          (record {
            item = c.item;
            encoded = subst (OnEncoded (at Reliable base) t.item.apdu (Marked (suc (highest t.pieces)) body.sets.held ∷ t.pieces)) (sym s.encoded)
                (record { same = b.same; placed = b.placed; octets = b.octets; left = b.left; begins = b.begins; full = tt });
            spaced = (room, c.spaced);
          });
    }

-- ---- the end

none-left : (xs : List ℕ) → is_empty xs ≡ true → xs ≡ []
none-left [] h = refl
none-left (x ∷ xs) h = cc

ends-so : (free : Free) (base : Base) (proposed : List Proposal) (body : Body) (t : Transfer) (e : Encoded) → Carries free (at Reliable base) → IsSending (at Reliable base) body.sending → Leads (seen (at Reliable base) body) → Sends_ body t e → is_empty (left_of t e) ≡ true → OwnActsAs free base proposed body (SendsNow (Session (OfActivities (End (suc (highest t.pieces))))))
ends-so free base proposed body t e carries h leads s none =
    let g = begun-of (at Reliable base) body t e h s in
    let b = g.beginning in
    let whole : joined t.pieces ≡ e.octets = sym (append-nil (joined t.pieces)) ∙ ap (λ xs. joined t.pieces ++ xs) (sym (sym g.left_is ∙ none-left (left_of t e) none)) ∙ b.begins in
    record {
      act = EndsActivity;
      acts =
          record {
            may = record { by_transfers = refl; leads = leads; is_whole = running (λ sent all. sent ≡ all) free base body t e carries s g whole };
            after = ap (λ x. seen (at Reliable base) (after_sent Reliable body (Session (OfActivities (End (suc (highest (pieces_of x)))))))) (sym s.is_it) ∙ end-sent free base body;
            means = (ap (λ x. model_end (suc (states.highest (model_pieces (transfer_seen (at Reliable base) x))))) s.is_it ∙ ap (λ n. model_end (suc n)) (sym (highest-seen t.pieces)), tt);
          };
      starts = λ items. refl;
      encodes = λ set. refl;
      sending = changed-at (at Reliable base) body t (λ u. record u { progress = Ending }) h s.is_it (with-progress (at Reliable base) Ending t g.current);
    }

-- ---- a part

parts-so : (free : Free) (base : Base) (proposed : List Proposal) (body : Body) (t : Transfer) (e : Encoded) → SpellsTransfers (at Reliable base) → Carries free (at Reliable base) → IsSending (at Reliable base) body.sending → Leads (seen (at Reliable base) body) → Sends_ body t e → OwnActsAs free base proposed body (SendsNow (part_message body (take (part_size e.checkpoint (length (left_of t e))) (left_of t e))))
parts-so free base proposed body t e spells carries h leads s =
    let g = begun-of (at Reliable base) body t e h s in
    let b = g.beginning in
    let c = g.current in
    let left : List ℕ = left_of t e in
    let size : ℕ = part_size e.checkpoint (length left) in
    let part : List ℕ = take size left in
    let begins : joined t.pieces ++ left ≡ e.octets = ap (λ xs. joined t.pieces ++ xs) g.left_is ∙ b.begins in
    let goes : (joined t.pieces ++ part) ++ drop size left ≡ e.octets = append_assoc (joined t.pieces) part (drop size left) ∙ ap (λ xs. joined t.pieces ++ xs) (take-append-drop size left) ∙ begins in
    let limit : length e.octets ≤ most_transferred = within (at Reliable base) t.item.apdu t.pieces e spells c.item b in
    let length_goes : length (joined t.pieces ++ part) + length (drop size left) ≡ length e.octets = sym (length-append (joined t.pieces ++ part) (drop size left)) ∙ ap length goes in
    let short : length (joined t.pieces ++ part) ≤ most_transferred = omega arith in
    record {
      act = Sends part;
      acts =
          record {
            may =
                record {
                  by_transfers = refl;
                  leads = leads;
                  is_next = running (λ sent all. (rest : List ℕ) × ((sent ++ part) ++ rest ≡ all)) free base body t e carries s g (drop size left, goes);
                  is_within = subst (λ x. length (states.joined (model_pieces (transfer_seen (at Reliable base) x)) ++ part) ≤ most_transferred) (sym s.is_it)
                      (subst (λ (xs : List ℕ). length (xs ++ part) ≤ most_transferred) (sym (joined-seen t.pieces)) short);
                };
            after = part-sent (rtse_value body (Part part) ∷ []) free base body ∙ ap (λ (xs : List ℕ). acted (setup_seen free Reliable base) (seen (at Reliable base) body) (Sends xs)) (append-nil part);
            means = (record { id = (rtse_value body (Part part)).id; pair = (rtse_value body (Part part)).pair; octets = part; is_one = refl; is_its = refl }, tt);
          };
      starts = λ items. refl;
      encodes = λ set. refl;
      sending =
          changed-at (at Reliable base) body t (λ u. record u { pieces = Octets (part ++ []) ∷ u.pieces }) h s.is_it
          (subst (λ (xs : List ℕ). IsCurrent (at Reliable base) (record t { pieces = Octets xs ∷ t.pieces })) (sym (append-nil part))
          (record {
            item = c.item;
            encoded = subst (OnEncoded (at Reliable base) t.item.apdu (Octets part ∷ t.pieces)) (sym s.encoded)
                (record { same = b.same; placed = b.placed; octets = b.octets; left = drop size left; begins = goes; full = part-full e.checkpoint t.pieces left e.octets c.spaced begins });
            spaced = c.spaced;
          }));
    }

-- ---- a start, and an encoding

first-seen : (base : Base) (queue : List Queued) (items : List states.Handed) → map (queued_seen base) (next_queued queue) ++ items ≡ model_first (map (queued_seen base) queue) ++ items
first-seen base [] items = refl
first-seen base (item ∷ queue) items = refl

encoding-so : (base : Base) (current : Option Transfer) (started : ℕ) (set : List SetItem) (context : ℕ) → map (encoding_seen base) (encoding_of started context (pair_of set context) current) ≡ model_encoding (transfer_seen base current) started (set_seen set) context
encoding-so base None started set context = refl
encoding-so base (Some t) started set context =
    let put : Option model_sets.Pair → List ModelEncoding = λ p. record { activity = started; apdu = apdu_seen base t.item.apdu; identifier = context; pair = p } ∷ [] in
    ap put (sym (lookup-seen set context))

starts-so : (free : Free) (base : Base) (proposed : List Proposal) (body : Body) → IsSending (at Reliable base) body.sending → next_own (at Reliable base) body ≡ Some (SendsNow (Session (OfActivities (Start (suc body.sending.started))))) → OwnActsAs free base proposed body (SendsNow (Session (OfActivities (Start (suc body.sending.started)))))
starts-so free base proposed body h next =
    record {
      act = Starts;
      acts = own-acts.starts (suc body.sending.started) free base proposed body next;
      starts = λ items. first-seen (at Reliable base) body.sending.queue items;
      encodes = λ set. refl;
      sending = begun-kept (at Reliable base) body.sending.started body.sending.current body.sending.queue h.queue;
    }

encodes-so : (free : Free) (base : Base) (proposed : List Proposal) (body : Body) (t : Transfer) (context : ℕ) → Carries free (at Reliable base) → IsSending (at Reliable base) body.sending → body.sending.current ≡ Some t → t.encoded ≡ None → next_own (at Reliable base) body ≡ Some (EncodesOn context) → EncodesInPlace base body (EncodesOn context) → OwnActsAs free base proposed body (EncodesOn context)
encodes-so free base proposed body t context carries h is_it none next placed =
    let c : IsCurrent (at Reliable base) t = current-is (at Reliable base) body.sending t h is_it in
    let nil : t.pieces ≡ [] = subst (OnEncoded (at Reliable base) t.item.apdu t.pieces) none c.encoded in
    record {
      act = Encodes context;
      acts =
          own-acts.encodes context free base proposed body
          (λ u item e same id there. carries.writes item (subst (IsTransferable (at Reliable base)) (sym same) (current-is (at Reliable base) body.sending u h e).item)
          (subst (λ k. IsContextOf base.tables.name_oid k item.pair) (sym id) (placed item.pair there))) next;
      starts = λ items. refl;
      encodes = λ set. encoding-so (at Reliable base) body.sending.current body.sending.started set context;
      sending =
          changed-at (at Reliable base) body t (λ u. record u { encoded = encoded_as (at Reliable base) body (item_on context u.item (pair_of body.sets.held context)) }) h is_it
          (record {
            item = c.item;
            encoded = subst (λ ps. OnEncoded (at Reliable base) t.item.apdu ps (encoded_as (at Reliable base) body (item_on context t.item (pair_of body.sets.held context)))) (sym nil)
                (encoded-so (at Reliable base) body t.item.apdu context t.item (pair_of body.sets.held context) refl placed);
            spaced = c.spaced;
          });
    }

-- ---- all of them

own-act : (free : Free) (base : Base) (proposed : List Proposal) (body : Body) (own : OwnAct) → SpellsTransfers (at Reliable base) → Carries free (at Reliable base) → IsSending (at Reliable base) body.sending → next_own (at Reliable base) body ≡ Some own → EncodesInPlace base body own → OwnActsAs free base proposed body own
own-act free base proposed body own spells carries h next placed = go (kind base body own body.sending.current refl l.next)
  where
    l : Leading base body own
    l = leading base body own next

    go : Kind body own → OwnActsAs free base proposed body own
    go (StartsNext item items e q is) = subst (OwnActsAs free base proposed body) (sym is) (starts-so free base proposed body h (next ∙ ap Some is))
    go (EncodesIt t context e d is) = subst (OwnActsAs free base proposed body) (sym is) (encodes-so free base proposed body t context carries h e d (next ∙ ap Some is) (subst (EncodesInPlace base body) is placed))
    go (MarksIt t e s ends more is) = subst (OwnActsAs free base proposed body) (sym is) (marks-so free base proposed body t e spells carries h l.leads_so s ends more)
    go (EndsIt t e s none is) = subst (OwnActsAs free base proposed body) (sym is) (ends-so free base proposed body t e carries h l.leads_so s none)
    go (GivesPart t e s more is) = subst (OwnActsAs free base proposed body) (sym is) (parts-so free base proposed body t e spells carries h l.leads_so s)

pub own-rows : OwnMessagesAct
own-rows = record { acts = own-act }

-- ---- what it leaves alone

pub record Leaves (base : Base) (body : Body) (own : OwnAct) : Type 0 where
  pub link : (after_step (at Reliable base) body (step_of own)).link ≡ body.link
  pub calls : (after_step (at Reliable base) body (step_of own)).calls ≡ body.calls
  pub words : AreOwn (own_messages own)

pub leaves : (base : Base) (body : Body) (own : OwnAct) → next_own (at Reliable base) body ≡ Some own → Leaves base body own
leaves base body own next = go (kind base body own body.sending.current refl l.next)
  where
    l : Leading base body own
    l = leading base body own next

    go : Kind body own → Leaves base body own
    go (StartsNext item items e q is) = subst (Leaves base body) (sym is) (record { link = refl; calls = refl; words = (tt, tt) })
    go (EncodesIt t context e d is) = subst (Leaves base body) (sym is) (record { link = refl; calls = refl; words = tt })
    go (MarksIt t e s ends more is) = subst (Leaves base body) (sym is) (record { link = refl; calls = refl; words = (tt, tt) })
    go (EndsIt t e s none is) = subst (Leaves base body) (sym is) (record { link = refl; calls = refl; words = (tt, tt) })
    go (GivesPart t e s more is) = subst (Leaves base body) (sym is) (record { link = refl; calls = refl; words = (tt, tt) })
