-- What an end does by itself comes to an end: each thing that it does leaves less to be done.
use Rattle.std.proofs.Common.{◌≡◌, ℕ, zero, suc, ◌+◌, ◌*◌, ◌<◌, ◌≤◌, nat_eq, nat_lt, Bool, true, false, not, ◌&&◌, List, [], ◌∷◌, ◌++◌, length, take, drop, Option, Some, None, is_some, ◌⊎◌, inl, inr, refl, sym, ap, subst, arith, if◌then◌else◌, length-append, length-drop}
use Rattle.std.proofs.lemmas.List.{append-nil, length-take}
use Rattle.std.proofs.lemmas.Bool.Decides.{nat_tests}
use Rattle.osi_base.specs.declared.syntax.Pair.{Pair}
use Rattle.osi_base.specs.declared.layer_words.SetItem.{SetItem}
use Rattle.osi_base.specs.Limits.{last_serial}
use Rattle.dialogue.specs.declared.config.Mode.{Mode}
use Rattle.dialogue.specs.declared.config.Mode.TheVariants.{Bare, Direct, Reliable}
use Rattle.association_reading.specs.end_rules.Base.{Base, is_reliable}
use Rattle.association_reading.specs.end_rules.Sets.{Alteration, Saved, same_name, is_deleted_in, may_send, lowest_with, carrier}
use Rattle.osi_base.specs.SetPlaces.{pair_of}
use Rattle.association_reading.specs.end_rules.Messages.{Message, Session, OfMarks, OfActivities, Mark, Start, End}
use Rattle.association_reading.specs.end_rules.State.{Body, Link, Sets, Calls, Receiving, Transfer, Encoded, Queued, Piece, Progress, Running, Ending, Suspended, is_empty, joined, highest}
use Rattle.association_reading.specs.end_rules.Invoking.{carrier_in}
use Rattle.association_reading.specs.end_rules.Requesting.{after_sent}
use Rattle.association_reading.specs.end_rules.ByItself.{OwnAct, SendsNow, EncodesOn, leads, part_size, ends_in_octets, next_of, left_of, encodes_on, next_start, next_in, next_own, item_on, encoded_as, encoding}
use Rattle.association_reading.specs.end_rules.Writing.{part_message}
use Rattle.association_reading.specs.end_rules.History.{Step, after_step, step_of, ByItself, rests, goes}
use Rattle.association_line.specs.OwnActs.{encoded_length, length_on, length_ahead, one_if, left_in, left_to_do}

-- ---- small things

guarded : {X : Type 0} (b : Bool) (x : Option X) (y : X) → (if b then x else None) ≡ Some y → x ≡ Some y
guarded true x y h = h
guarded false x y h = cc

guard : {X : Type 0} (b : Bool) (x : Option X) (y : X) → (if b then x else None) ≡ Some y → b ≡ true
guard true x y h = refl
guard false x y h = cc

some_is : {X : Type 0} (x y : X) → Some x ≡ Some y → x ≡ y
some_is x y h = cc

left_true : (a b : Bool) → (a && b) ≡ true → a ≡ true
left_true true b h = refl
left_true false b h = h

-- an end that leads is of reliable mode
reliable : (base : Base) (body : Body) → leads base body ≡ true → base.mode ≡ Reliable
reliable base body h = mode_is base.mode (left_true _ _ (left_true _ _ (left_true _ _ (left_true _ _ h))))
  where
    mode_is : (m : Mode) → is_reliable m ≡ true → m ≡ Reliable
    mode_is Reliable e = refl
    mode_is Direct e = cc
    mode_is Bare e = cc

-- ---- a carrier is in the set

has_pair : (items : List SetItem) (item : SetItem) (k : ℕ) → is_some (pair_of items k) ≡ true → is_some (pair_of (item ∷ items) k) ≡ true
has_pair items item k h = go (nat_eq item.id k)
  where
    go : (b : Bool) → is_some (if b then Some item.pair else pair_of items k) ≡ true
    go true = refl
    go false = h

own_pair : (items : List SetItem) (item : SetItem) → is_some (pair_of (item ∷ items) item.id) ≡ true
own_pair items item = ap (λ (b : Bool). is_some (if b then Some item.pair else pair_of items item.id)) same
  where
    same : nat_eq item.id item.id ≡ true
    same = grind (arith, nat_tests)

lowest_in : (name : List ℕ) (own : List Alteration) (items : List SetItem) (k : ℕ) → lowest_with name own items ≡ Some k → is_some (pair_of items k) ≡ true
lowest_in name own [] k h = cc
lowest_in name own (item ∷ items) k h = go (λ e. lowest_in name own items k e) (same_name item.pair.abstract_name name && not (is_deleted_in own item.id)) h
  where
    go : (lowest_with name own items ≡ Some k → is_some (pair_of items k) ≡ true) → (b : Bool) → (if b then Some item.id else lowest_with name own items) ≡ Some k → is_some (pair_of (item ∷ items) k) ≡ true
    go below true e = subst (λ (n : ℕ). is_some (pair_of (item ∷ items) n) ≡ true) (some_is item.id k e) (own_pair items item)
    go below false e = has_pair items item k (below e)

carried : (name : List ℕ) (held : List SetItem) (own : List Alteration) (k c : ℕ) → carrier name held own k ≡ Some c → is_some (pair_of held c) ≡ true
carried name held own k c h = go (may_send held own k) refl h
  where
    go : (b : Bool) → may_send held own k ≡ b → (if b then Some k else lowest_with name own held) ≡ Some c → is_some (pair_of held c) ≡ true
    go true m e = subst (λ (n : ℕ). is_some (pair_of held n) ≡ true) (some_is k c e) (left_true _ _ m)
    go false m e = lowest_in name own held c e

-- ---- each thing leaves less

-- a body in its parts
abbrev of_parts : Link → Sets → List Saved → Calls → Receiving → ℕ → Option Transfer → List Queued → Body
of_parts link sets saved calls receiving started current queue =
    record { link = link; sets = sets; saved = saved; calls = calls; sending = record { started = started; current = current; queue = queue }; receiving = receiving }

abbrev Less : Base → Body → OwnAct → Type 0
Less base body act = left_to_do base (after_step base body (step_of act)) < left_to_do base body

-- the start of the next item
started_less : (a b : ℕ) → a ≡ b → 2 * a + 3 < 2 * b + 4
started_less a b e = omega arith

starts : (base : Base) (link : Link) (sets : Sets) (saved : List Saved) (calls : Calls) (receiving : Receiving) (started : ℕ) (queue : List Queued) (act : OwnAct)
    → next_start base (of_parts link sets saved calls receiving started None queue) queue ≡ Some act → Less base (of_parts link sets saved calls receiving started None queue) act
starts base link sets saved calls receiving started [] act h = cc
starts base link sets saved calls receiving started (item ∷ items) act h =
    let body : Body = of_parts link sets saved calls receiving started None (item ∷ items) in
    subst (Less base body)
    (some_is _ act (guarded (is_some (carrier_in base body item.context) && nat_lt started last_serial) (Some (SendsNow (Session (OfActivities (Start (suc started)))))) act h))
    (started_less (length_ahead base (after_step base body (step_of (SendsNow (Session (OfActivities (Start (suc started))))))) item) (length_ahead base body item) refl)

-- an encoding
some_encoded : (octets : List ℕ) (n e : ℕ) → e ≤ 1 → 2 * length (drop n octets) + e + 1 < 2 * length octets + 3
some_encoded octets n e h = omega (arith, length-drop n octets)

at_most_one : (b : Bool) → one_if b ≤ 1
at_most_one true = omega arith
at_most_one false = omega arith

encoded_less : (base : Base) (body : Body) (t : Transfer) (context : ℕ) (pair : Option Pair) → is_some pair ≡ true
    → left_in base (encoding base context body) (record t { encoded = encoded_as base body (item_on context t.item pair) }) (encoded_as base body (item_on context t.item pair))
    < 2 * encoded_length (encoded_as base body (item_on context t.item pair)) + 3
encoded_less base body t context None h = cc
encoded_less base body t context (Some pair) h = some_encoded _ (length (joined t.pieces)) (one_if (ends_in_octets t.pieces)) (at_most_one (ends_in_octets t.pieces))

-- a part
part_less : (octets done part : List ℕ) → 1 ≤ length part → length part ≤ length (drop (length done) octets)
    → 2 * length (drop (length (done ++ (part ++ []))) octets) + 1 + 1 < 2 * length (drop (length done) octets) + 0 + 1
part_less octets done part some within =
    rw (append-nil part) (omega (arith, length-drop (length (done ++ part)) octets, length-drop (length done) octets, length-append done part))

some_size : (c x : ℕ) → 1 ≤ part_size c (suc x)
some_size zero x = omega arith
some_size (suc c) x = omega arith

part_some : (c : ℕ) (left : List ℕ) → 1 ≤ length left → 1 ≤ length (take (part_size c (length left)) left)
part_some zero left h = omega (arith, length-take (length left) left)
part_some (suc c) left h = omega (arith, length-take (suc c * 1024) left)

-- the current transfer in its parts
abbrev running : Queued → Option Encoded → List Piece → ℕ → Transfer
running item encoded pieces confirmed = record { item = item; encoded = encoded; pieces = pieces; confirmed = confirmed; progress = Running }

length_is : (base : Base) (body : Body) (item : Queued) (c : ℕ) → carrier_in base body item.context ≡ Some c
    → length_ahead base body item ≡ encoded_length (encoded_as base body (item_on c item (pair_of body.sets.held c)))
length_is base body item c e = ap (length_on base body item) e

encodes : (base : Base) (link : Link) (sets : Sets) (saved : List Saved) (calls : Calls) (receiving : Receiving) (started : ℕ) (queue : List Queued) (item : Queued) (pieces : List Piece) (confirmed : ℕ) (act : OwnAct)
    → encodes_on (carrier_in base (of_parts link sets saved calls receiving started (Some (running item None pieces confirmed)) queue) item.context) ≡ Some act
    → Less base (of_parts link sets saved calls receiving started (Some (running item None pieces confirmed)) queue) act
encodes base link sets saved calls receiving started queue item pieces confirmed act h = go (carrier_in base body item.context) refl h
  where
    body : Body
    body = of_parts link sets saved calls receiving started (Some (running item None pieces confirmed)) queue

    go : (c : Option ℕ) → carrier_in base body item.context ≡ c → encodes_on c ≡ Some act → Less base body act
    go None e g = cc
    go (Some context) e g =
        subst (Less base body) (some_is (EncodesOn context) act g)
        (subst (λ (n : ℕ). left_to_do base (encoding base context body) < 2 * n + 3) (sym (length_is base body item context e))
        (encoded_less base body (running item None pieces confirmed) context (pair_of sets.held context) (carried base.tables.name_oid sets.held sets.own item.context context e)))

-- what an encoded transfer gives next
abbrev given_next : Bool → List ℕ → Bool → (mark end part : OwnAct) → Option OwnAct
given_next ends left full mark end part =
    if ends && not (is_empty left) then Some mark else (if full then None else (if is_empty left then Some end else Some part))

abbrev Choice : Bool → List ℕ → (mark end part : OwnAct) → OwnAct → Type 0
Choice ends left mark end part act =
    ((act ≡ mark) × (ends ≡ true)) ⊎ ((act ≡ end) ⊎ ((act ≡ part) × (ends ≡ false) × (1 ≤ length left)))

chosen : (ends : Bool) (left : List ℕ) (full : Bool) (mark end part act : OwnAct) → given_next ends left full mark end part ≡ Some act → Choice ends left mark end part act
chosen true (x ∷ xs) full mark end part act h = inl (sym (some_is mark act h), refl)
chosen true [] true mark end part act h = cc
chosen true [] false mark end part act h = inr (inl (sym (some_is end act h)))
chosen false left true mark end part act h = cc
chosen false [] false mark end part act h = inr (inl (sym (some_is end act h)))
chosen false (x ∷ xs) false mark end part act h = inr (inr (sym (some_is part act h), refl, omega arith))

marked_less : (x : ℕ) (b : Bool) → b ≡ true → 2 * x + 0 + 1 < 2 * x + one_if b + 1
marked_less x true e = omega arith
marked_less x false e = cc

ended_less : (x : ℕ) (b : Bool) → 0 < 2 * x + one_if b + 1
ended_less x true = omega arith
ended_less x false = omega arith

unended : (x y : ℕ) (b : Bool) → b ≡ false → y < 2 * x + 0 + 1 → y < 2 * x + one_if b + 1
unended x y true e h = cc
unended x y false e h = h

gives : (base : Base) (link : Link) (sets : Sets) (saved : List Saved) (calls : Calls) (receiving : Receiving) (started : ℕ) (queue : List Queued) (item : Queued) (e : Encoded) (pieces : List Piece) (confirmed : ℕ) (act : OwnAct)
    → base.mode ≡ Reliable
    → next_of (of_parts link sets saved calls receiving started (Some (running item (Some e) pieces confirmed)) queue) (running item (Some e) pieces confirmed) e (left_of (running item (Some e) pieces confirmed) e) ≡ Some act
    → Less base (of_parts link sets saved calls receiving started (Some (running item (Some e) pieces confirmed)) queue) act
gives base link sets saved calls receiving started queue item e pieces confirmed act mode h = go (chosen _ left _ mark end part act h)
  where
    body : Body
    body = of_parts link sets saved calls receiving started (Some (running item (Some e) pieces confirmed)) queue

    left : List ℕ
    left = left_of (running item (Some e) pieces confirmed) e

    message : List ℕ → Message
    message octets = part_message body octets

    mark : OwnAct
    mark = SendsNow (Session (OfMarks (Mark (suc (highest pieces)))))

    end : OwnAct
    end = SendsNow (Session (OfActivities (End (suc (highest pieces)))))

    part : OwnAct
    part = SendsNow (message (take (part_size e.checkpoint (length left)) left))

    marks : ends_in_octets pieces ≡ true → Less base body mark
    marks ends =
        subst (λ (m : Mode). left_to_do base (after_sent m body (Session (OfMarks (Mark (suc (highest pieces)))))) < left_to_do base body) (sym mode)
        (marked_less (length left) (ends_in_octets pieces) ends)

    parts : ends_in_octets pieces ≡ false → 1 ≤ length left → Less base body part
    parts ends some =
        subst (λ (m : Mode). left_to_do base (after_sent m body (message (take (part_size e.checkpoint (length left)) left))) < left_to_do base body) (sym mode)
        (unended (length left) _ (ends_in_octets pieces) ends
        (part_less e.octets (joined pieces) (take (part_size e.checkpoint (length left)) left) (part_some e.checkpoint left some)
        (omega (arith, length-take (part_size e.checkpoint (length left)) left))))

    go : Choice (ends_in_octets pieces) left mark end part act → Less base body act
    go (inl m) = subst (Less base body) (sym m.0) (marks m.1)
    go (inr (inl d)) = subst (Less base body) (sym d) (ended_less (length left) (ends_in_octets pieces))
    go (inr (inr p)) = subst (Less base body) (sym p.0) (parts p.1 p.2)

transfers : (base : Base) (link : Link) (sets : Sets) (saved : List Saved) (calls : Calls) (receiving : Receiving) (started : ℕ) (queue : List Queued) (item : Queued) (encoded : Option Encoded) (pieces : List Piece) (confirmed : ℕ) (progress : Progress) (act : OwnAct)
    → base.mode ≡ Reliable
    → next_in base (of_parts link sets saved calls receiving started (Some (record { item = item; encoded = encoded; pieces = pieces; confirmed = confirmed; progress = progress })) queue) (Some (record { item = item; encoded = encoded; pieces = pieces; confirmed = confirmed; progress = progress })) ≡ Some act
    → Less base (of_parts link sets saved calls receiving started (Some (record { item = item; encoded = encoded; pieces = pieces; confirmed = confirmed; progress = progress })) queue) act
transfers base link sets saved calls receiving started queue item None pieces confirmed Running act mode h = encodes base link sets saved calls receiving started queue item pieces confirmed act h
transfers base link sets saved calls receiving started queue item (Some e) pieces confirmed Running act mode h = gives base link sets saved calls receiving started queue item e pieces confirmed act mode h
transfers base link sets saved calls receiving started queue item encoded pieces confirmed Ending act mode h = cc
transfers base link sets saved calls receiving started queue item encoded pieces confirmed Suspended act mode h = cc

anything : (base : Base) (body : Body) (current : Option Transfer) (act : OwnAct) → base.mode ≡ Reliable
    → next_in base (of_parts body.link body.sets body.saved body.calls body.receiving body.sending.started current body.sending.queue) current ≡ Some act
    → Less base (of_parts body.link body.sets body.saved body.calls body.receiving body.sending.started current body.sending.queue) act
anything base body None act mode h = starts base body.link body.sets body.saved body.calls body.receiving body.sending.started body.sending.queue act h
anything base body (Some t) act mode h =
    transfers base body.link body.sets body.saved body.calls body.receiving body.sending.started body.sending.queue t.item t.encoded t.pieces t.confirmed t.progress act mode h

-- the next thing that an end does by itself leaves less to be done
pub less_to_do : (base : Base) (body : Body) (act : OwnAct) → next_own base body ≡ Some act → left_to_do base (after_step base body (step_of act)) < left_to_do base body
less_to_do base body act h =
    anything base body body.sending.current act (reliable base body (guard (leads base body) (next_in base body body.sending.current) act h))
    (guarded (leads base body) (next_in base body body.sending.current) act h)

ends_within : (n : ℕ) (base : Base) (body : Body) → left_to_do base body < n → (steps : List Step) × ByItself base body steps
ends_within zero base body l = absurd (omega arith)
ends_within (suc n) base body l = go (λ next h. ends_within n base next h) (next_own base body) refl
  where
    go : ((next : Body) → left_to_do base next < n → (steps : List Step) × ByItself base next steps) → (next : Option OwnAct) → next_own base body ≡ next → (steps : List Step) × ByItself base body steps
    go below None e = ([], rests e)
    go below (Some act) e =
        let less : left_to_do base (after_step base body (step_of act)) < left_to_do base body = less_to_do base body act e in
        let more = below (after_step base body (step_of act)) (omega arith) in
        (step_of act ∷ more.0, goes act e more.1)

pub own_acts_end : (base : Base) (body : Body) → (steps : List Step) × ByItself base body steps
own_acts_end base body = ends_within (suc (left_to_do base body)) base body (omega arith)
