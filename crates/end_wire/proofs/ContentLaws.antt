-- What octets are as content is what they say.
use Rattle.std.proofs.Common.{◌≡◌, ℕ, ℤ, ◌<◌, ◌^◌, Bool, true, false, if◌then◌else◌, List, Option, Some, None, refl, sym, ap, subst, ◌∙◌, arith, option_map}
use Rattle.osi_base.specs.declared.syntax.Syntax.{Syntax}
use Rattle.osi_base.specs.declared.syntax.Syntax.TheVariants.{Ber, Der, Packed}
use Rattle.osi_base.specs.declared.layer_words.SetItem.{SetItem}
use Rattle.asn1_types.specs.declared.value.Val.{Val}
use Rattle.osi_base.specs.Octets.{AreOctets}
use Rattle.stub_tables.specs.declared.tables.Tables.{Tables}
use Rattle.stub_tables.specs.declared.operation.Use.{Use}
use Rattle.stub_tables.specs.declared.operation.Code.{Code}
use Rattle.stub_tables.specs.declared.apdu.Apdu.{Apdu}
use Rattle.stub_tables.specs.declared.apdu.Apdu.TheVariants as apdus
use Rattle.stub_tables.specs.declared.apdu.Returned.{Returned}
use Rattle.stub_tables.specs.Uses.{may_lack}
use Rattle.stub_tables.specs.Readable.{IsReadable}
use Rattle.stub_tables.specs.Apdus.{argument_of, result_of, parameter_of, operation_coded, error_coded}
use Rattle.apdu_spelling.specs.Heads as heads
use Rattle.apdu_spelling.specs.Spellings.{CarriedAs, ReturnedAs, Says, Spells, SpellsHead, room_behind}
use Rattle.apdu_spelling.proofs.OneHead.{one_apdu}
use Rattle.dialogue.specs.declared.config.Config.{Config}
use Rattle.end_rules.specs.Base.{Carried, Absent, Spelled, Unspelled, InvokeHead, ResultHead, ErrorHead}
use Rattle.osi_base.specs.SetPlaces.{pair_of}
use Rattle.end_rules.specs.Messages.{ValueContent, Remote, Unread, Association, Plea, Part}
use Rattle.end_rules.specs.Hearing.{carried_in, head_of_apdu, head_of, syntax_of}
use Rattle.end_wire.specs.Heads.{carried_at, heard_result, heard_head, heard_or_refused, head_at, value_or_lack, apdu_of}
use Rattle.end_wire.specs.Values.{IsContent, content_of, content_at}
use Rattle.end_wire.specs.Bare.{bare_base, bare_value}
use Rattle.end_wire.proofs.HeadLaws.{head_read}
use Rattle.end_wire.proofs.ValueLaws.{all_octets, carried_is, carried_read, carried_spelled}

abbrev no_value : Option Val
no_value = None

some_is : {X : Type 0} (a b : X) → Some a ≡ Some b → a ≡ b
some_is a b e = cc

room_small : (syntax : Syntax) (h : heads.Head) → room_behind syntax h < 2 ^ 32
room_small Ber h = omega arith
room_small Der h = omega arith
room_small Packed h = omega arith

-- the octets that a head carries are octets
abbrev pub CarriesOctets : heads.Head → Type 0
CarriesOctets (heads.invoke id linked code octets) = all_octets octets
CarriesOctets (heads.result id None) = Unit {0}
CarriesOctets (heads.result id (Some o)) = AreOctets o.octets
CarriesOctets (heads.error id code octets) = all_octets octets
CarriesOctets (heads.reject id problem) = Unit {0}

-- a value or its lack, mapped to an APDU
pub record IsMapped (make : Option Val → Apdu) (o : Option (Option Val)) (a : Apdu) : Type 0 where
  pub value : Option Val
  pub is : o ≡ Some value
  pub made : make value ≡ a

mapped : (make : Option Val → Apdu) (o : Option (Option Val)) (a : Apdu) → option_map make o ≡ Some a → IsMapped make o a
mapped make None a e = absurd cc
mapped make (Some v) a e = record { value = v; is = refl; made = some_is (make v) a e }

spelled_value : (used : Option Use) (w : Val) → value_or_lack used (Spelled w) ≡ Some (Some w)
spelled_value None w = refl
spelled_value (Some u) w = refl

module _ (tables : Tables) (syntax : Syntax) where
  -- ---- an APDU that a head says is found

  module _ (readable : IsReadable tables) where
    with_code : (id : ℤ) (code : Code) (r : Returned) (c : Carried) → code ≡ r.code → c ≡ Spelled r.value → apdu_of tables (ResultHead id (Some code) c) ≡ Some (apdus.Result id (Some r))
    with_code id code r c e f =
        ap (λ (x : Carried). apdu_of tables (ResultHead id (Some code) x)) f
        ∙ ap (λ (k : Code). Some (apdus.Result id (Some (record { code = k; value = r.value })))) e

    of_result : (id : ℤ) (returned : Option Returned) (outcome : Option heads.ReturnedOctets) → ReturnedAs tables syntax (room_behind syntax (heads.result id outcome)) returned outcome
        → apdu_of tables (heard_head tables syntax (heads.result id outcome)) ≡ Some (apdus.Result id returned)
    of_result id None None p = refl
    of_result id None (Some o) p = absurd p
    of_result id (Some r) None p = absurd p
    of_result id (Some r) (Some o) p =
        let limit : ℕ = room_behind syntax (heads.result id (Some o)) in
        let uses : Code → Option Use = λ (k : Code). option_map result_of (operation_coded tables k) in
        let c : carried_at syntax tables.types limit (uses r.code) (Some o.octets) ≡ Spelled r.value
        = carried_is syntax tables.types readable.types limit (room_small syntax (heads.result id (Some o))) (uses r.code) r.value o.octets p.1 in
        with_code id o.code r (carried_at syntax tables.types limit (uses o.code) (Some o.octets)) p.0
        (ap (λ (k : Code). carried_at syntax tables.types limit (uses k) (Some o.octets)) p.0 ∙ c)

    of_invoke : (id : ℤ) (linked : Option ℤ) (code : Code) (argument : Option Val) (octets : Option (List ℕ))
        → CarriedAs syntax tables.types (room_behind syntax (heads.invoke id linked code octets)) (option_map argument_of (operation_coded tables code)) argument octets
        → apdu_of tables (heard_head tables syntax (heads.invoke id linked code octets)) ≡ Some (apdus.Invoke id linked code argument)
    of_invoke id linked code argument octets p =
        ap (option_map (λ (v : Option Val). apdus.Invoke id linked code v))
        (carried_read syntax tables.types readable.types (room_behind syntax (heads.invoke id linked code octets)) (room_small syntax (heads.invoke id linked code octets)) (option_map argument_of (operation_coded tables code)) argument octets p)

    of_error : (id : ℤ) (code : Code) (parameter : Option Val) (octets : Option (List ℕ))
        → CarriedAs syntax tables.types (room_behind syntax (heads.error id code octets)) (option_map parameter_of (error_coded tables code)) parameter octets
        → apdu_of tables (heard_head tables syntax (heads.error id code octets)) ≡ Some (apdus.Error id code parameter)
    of_error id code parameter octets p =
        ap (option_map (λ (v : Option Val). apdus.Error id code v))
        (carried_read syntax tables.types readable.types (room_behind syntax (heads.error id code octets)) (room_small syntax (heads.error id code octets)) (option_map parameter_of (error_coded tables code)) parameter octets p)

    pub said_is : (a : Apdu) (h : heads.Head) → Says tables syntax a h → apdu_of tables (heard_head tables syntax h) ≡ Some a
    said_is (apdus.Invoke id linked code argument) h p =
        ap (λ (x : heads.Head). apdu_of tables (heard_head tables syntax x)) p.head_is
        ∙ of_invoke id linked code argument p.octets (subst (λ (x : heads.Head). CarriedAs syntax tables.types (room_behind syntax x) (option_map argument_of (operation_coded tables code)) argument p.octets) p.head_is p.typed)
    said_is (apdus.Result id returned) h p =
        ap (λ (x : heads.Head). apdu_of tables (heard_head tables syntax x)) p.head_is
        ∙ of_result id returned p.outcome (subst (λ (x : heads.Head). ReturnedAs tables syntax (room_behind syntax x) returned p.outcome) p.head_is p.typed)
    said_is (apdus.Error id code parameter) h p =
        ap (λ (x : heads.Head). apdu_of tables (heard_head tables syntax x)) p.head_is
        ∙ of_error id code parameter p.octets (subst (λ (x : heads.Head). CarriedAs syntax tables.types (room_behind syntax x) (option_map parameter_of (error_coded tables code)) parameter p.octets) p.head_is p.typed)
    said_is (apdus.Reject id problem) h p = ap (λ (x : heads.Head). apdu_of tables (heard_head tables syntax x)) p

    -- what octets spell is found in them
    pub spelled_said : (a : Apdu) (octets : List ℕ) (s : Spells tables syntax a octets) → head_at tables syntax octets ≡ heard_head tables syntax s.head
    unfolding head_at
    spelled_said a octets s = ap (heard_or_refused tables syntax octets) (head_read syntax octets s.head s.is_head)

  -- ---- an APDU that is found is said

  of_returned : (id : ℤ) (o : heads.ReturnedOctets) (a : Apdu) → AreOctets o.octets → (c : Carried) → heard_result tables syntax (heads.result id (Some o)) (Some o) ≡ c
      → apdu_of tables (ResultHead id (Some o.code) c) ≡ Some a → Says tables syntax a (heads.result id (Some o))
  of_returned id o a are Absent f e = absurd cc
  of_returned id o a are Unspelled f e = absurd cc
  of_returned id o a are (Spelled w) f e =
      let used : Option Use = option_map result_of (operation_coded tables o.code) in
      let p = carried_spelled syntax tables.types (room_behind syntax (heads.result id (Some o))) used (Some w) (Some o.octets) are (ap (value_or_lack used) f ∙ spelled_value used w) in
      subst (λ (x : Apdu). Says tables syntax x (heads.result id (Some o))) (some_is (apdus.Result id (Some (record { code = o.code; value = w }))) a e)
      (record { outcome = Some o; head_is = refl; typed = (refl, p) })

  pub says_of : (a : Apdu) (h : heads.Head) → CarriesOctets h → apdu_of tables (heard_head tables syntax h) ≡ Some a → Says tables syntax a h
  says_of a (heads.invoke id linked code octets) are e =
      let used : Option Use = option_map argument_of (operation_coded tables code) in
      let limit : ℕ = room_behind syntax (heads.invoke id linked code octets) in
      let m = mapped (λ (v : Option Val). apdus.Invoke id linked code v) (value_or_lack used (carried_at syntax tables.types limit used octets)) a e in
      subst (λ (x : Apdu). Says tables syntax x (heads.invoke id linked code octets)) m.made
      (record { octets = octets; head_is = refl; typed = carried_spelled syntax tables.types limit used m.value octets are m.is })
  says_of a (heads.result id None) are e =
      subst (λ (x : Apdu). Says tables syntax x (heads.result id None)) (some_is (apdus.Result id None) a e) (record { outcome = None; head_is = refl; typed = tt })
  says_of a (heads.result id (Some o)) are e = of_returned id o a are (heard_result tables syntax (heads.result id (Some o)) (Some o)) refl e
  says_of a (heads.error id code octets) are e =
      let used : Option Use = option_map parameter_of (error_coded tables code) in
      let limit : ℕ = room_behind syntax (heads.error id code octets) in
      let m = mapped (λ (v : Option Val). apdus.Error id code v) (value_or_lack used (carried_at syntax tables.types limit used octets)) a e in
      subst (λ (x : Apdu). Says tables syntax x (heads.error id code octets)) m.made
      (record { octets = octets; head_is = refl; typed = carried_spelled syntax tables.types limit used m.value octets are m.is })
  says_of a (heads.reject id problem) are e = subst (λ (x : Apdu). Says tables syntax x (heads.reject id problem)) (some_is (apdus.Reject id problem) a e) refl

  -- ---- it says what was read

  lacking : (b : Bool) (v : Option Val) → (if b then Some no_value else None) ≡ Some v → carried_in v ≡ Absent
  lacking true v e = ap carried_in (sym (some_is None v e))
  lacking false v e = absurd cc

  carried_back : (used : Option Use) (c : Carried) (v : Option Val) → value_or_lack used c ≡ Some v → carried_in v ≡ c
  carried_back None Absent v e = absurd cc
  carried_back (Some u) Absent v e = lacking (may_lack u.inner u.optional) v e
  carried_back None (Spelled w) v e = ap carried_in (sym (some_is (Some w) v e))
  carried_back (Some u) (Spelled w) v e = ap carried_in (sym (some_is (Some w) v e))
  carried_back None Unspelled v e = absurd cc
  carried_back (Some u) Unspelled v e = absurd cc

  result_back : (id : ℤ) (code : Code) (a : Apdu) (c : Carried) → apdu_of tables (ResultHead id (Some code) c) ≡ Some a → head_of_apdu a ≡ ResultHead id (Some code) c
  result_back id code a Absent e = absurd cc
  result_back id code a Unspelled e = absurd cc
  result_back id code a (Spelled w) e = ap head_of_apdu (sym (some_is (apdus.Result id (Some (record { code = code; value = w }))) a e))

  pub head_back : (a : Apdu) (h : heads.Head) → apdu_of tables (heard_head tables syntax h) ≡ Some a → head_of_apdu a ≡ heard_head tables syntax h
  head_back a (heads.invoke id linked code octets) e =
      let used : Option Use = option_map argument_of (operation_coded tables code) in
      let c : Carried = carried_at syntax tables.types (room_behind syntax (heads.invoke id linked code octets)) used octets in
      let m = mapped (λ (v : Option Val). apdus.Invoke id linked code v) (value_or_lack used c) a e in
      ap head_of_apdu (sym m.made) ∙ ap (λ (x : Carried). InvokeHead id linked code x) (carried_back used c m.value m.is)
  head_back a (heads.result id None) e = ap head_of_apdu (sym (some_is (apdus.Result id None) a e))
  head_back a (heads.result id (Some o)) e = result_back id o.code a (heard_result tables syntax (heads.result id (Some o)) (Some o)) e
  head_back a (heads.error id code octets) e =
      let used : Option Use = option_map parameter_of (error_coded tables code) in
      let c : Carried = carried_at syntax tables.types (room_behind syntax (heads.error id code octets)) used octets in
      let m = mapped (λ (v : Option Val). apdus.Error id code v) (value_or_lack used c) a e in
      ap head_of_apdu (sym m.made) ∙ ap (λ (x : Carried). ErrorHead id code x) (carried_back used c m.value m.is)
  head_back a (heads.reject id problem) e = ap head_of_apdu (sym (some_is (apdus.Reject id problem) a e))

-- ---- contents

module _ (tables : Tables) (readable : IsReadable tables) (syntax : Syntax) (octets : List ℕ) where
  remote_says : (a : Apdu) → Spells tables syntax a octets → head_of_apdu a ≡ head_at tables syntax octets
  remote_says a s =
      head_back tables syntax a s.head (said_is tables syntax readable a s.head s.says) ∙ sym (spelled_said tables syntax readable a octets s)

  pub content_found : (h : heads.Head) → SpellsHead syntax h octets → CarriesOctets h → IsContent tables syntax octets (content_at tables syntax octets)
  unfolding head_at
  content_found h p are = by (apdu_of tables (heard_head tables syntax h)) refl
    where
      at_head : head_at tables syntax octets ≡ heard_head tables syntax h
      at_head = ap (heard_or_refused tables syntax octets) (head_read syntax octets h p)

      at_content : (o : Option Apdu) → apdu_of tables (heard_head tables syntax h) ≡ o → content_of octets o ≡ content_at tables syntax octets
      at_content o e = ap (content_of octets) (sym e ∙ ap (apdu_of tables) (sym at_head))

      none : apdu_of tables (heard_head tables syntax h) ≡ None → (a : Apdu) → Spells tables syntax a octets → ⊥
      none e a s =
          let there : apdu_of tables (heard_head tables syntax s.head) ≡ Some a = said_is tables syntax readable a s.head s.says in
          let same : heard_head tables syntax h ≡ heard_head tables syntax s.head = sym at_head ∙ spelled_said tables syntax readable a octets s in
          let no : apdu_of tables (heard_head tables syntax h) ≡ Some a = ap (apdu_of tables) same ∙ there in cc

      by : (o : Option Apdu) → apdu_of tables (heard_head tables syntax h) ≡ o → IsContent tables syntax octets (content_at tables syntax octets)
      by None e = subst (IsContent tables syntax octets) (at_content None e) (refl, none e)
      by (Some a) e =
          subst (IsContent tables syntax octets) (at_content (Some a) e) (record { head = h; is_head = p; says = says_of tables syntax a h are e })

  -- octets that spell no head spell no APDU
  pub content_kept : ((h : heads.Head) → SpellsHead syntax h octets → ⊥) → IsContent tables syntax octets (Unread octets)
  content_kept none = (refl, λ a s. none s.head s.is_head)

-- what a content says is what its octets say
pub content_says : (tables : Tables) (config : Config) (held : List SetItem) (octets : List ℕ) (c : ValueContent) → IsReadable tables → IsContent tables (syntax_of (pair_of held 0)) octets c
    → head_of (bare_base tables config) (bare_value held c) ≡ head_at tables (syntax_of (pair_of held 0)) octets
content_says tables config held octets (Remote a) readable p = remote_says tables readable (syntax_of (pair_of held 0)) octets a p
content_says tables config held octets (Unread kept) readable p = ap (head_at tables (syntax_of (pair_of held 0))) p.0
content_says tables config held octets (Association apdu user) readable p = absurd p
content_says tables config held octets (Plea priority) readable p = absurd p
content_says tables config held octets (Part part) readable p = absurd p

-- octets are one content at most
module _ (tables : Tables) (syntax : Syntax) (octets : List ℕ) (readable : IsReadable tables) where
  pub one_content : (a b : ValueContent) → IsContent tables syntax octets a → IsContent tables syntax octets b → a ≡ b
  one_content (Remote a) (Remote b) p q = ap Remote (one_apdu syntax tables readable.types a b octets p q)
  one_content (Remote a) (Unread kept) p q = absurd (q.1 a p)
  one_content (Unread kept) (Remote b) p q = absurd (p.1 b q)
  one_content (Unread kept) (Unread other) p q = ap Unread (p.0 ∙ sym q.0)
  one_content (Association apdu user) b p q = absurd p
  one_content (Plea priority) b p q = absurd p
  one_content (Part part) b p q = absurd p
  one_content a (Association apdu user) p q = absurd q
  one_content a (Plea priority) p q = absurd q
  one_content a (Part part) p q = absurd q
