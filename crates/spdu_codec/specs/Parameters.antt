-- The parameters of a unit, put in one after the other, each at most once (X.225 8.3).
use Rattle.std.specs.Prelude.{ℕ, ◌==◌, Bool, true, false, not, List, [], ◌∷◌, length, Option, Some, None, is_none, nat_le, if◌then◌else◌}
use Rattle.osi_base.specs.Limits.{most_connect_data, most_short_data}
use Rattle.spdu_codec.specs.declared.parameters.Slot.{Slot}
use Rattle.spdu_codec.specs.declared.parameters.Slot.TheVariants.{Identifier, ConnectItem, AcceptItem, Linking, CallingReference, CommonReference, Options, Version, Initial, TokenSetting, Requirements, CallingSelector, CalledSelector, ConnectData, ExtendedData, UserData, Transport, RefuseReason, ActivityReason, Tokens, ResyncType, Number, Activity, OldActivity, OldMark}
use Rattle.spdu_codec.specs.declared.parameters.Parameters.{Parameters}
use Rattle.spdu_codec.specs.Values.{octet_of, pair_of, number_of, mark_of}

-- no parameters
abbrev pub none_yet : Parameters
none_yet = record {
  identifier = false;
  connect_item = false;
  linking = false;
  calling_reference = None;
  common_reference = None;
  options = None;
  version = None;
  initial = None;
  token_setting = None;
  requirements = None;
  calling = None;
  called = None;
  user = None;
  transport = None;
  reason = None;
  tokens = None;
  resync = false;
  number = None;
  activity = None;
  old_activity = None;
  old_mark = None;
}

-- The parameter didn't stand before. User data in either of its parameters stands once.
abbrev pub is_free : Slot → Parameters → Bool
is_free Identifier p = not p.identifier
is_free ConnectItem p = not p.connect_item
is_free AcceptItem p = not p.connect_item
is_free Linking p = not p.linking
is_free CallingReference p = is_none p.calling_reference
is_free CommonReference p = is_none p.common_reference
is_free Options p = is_none p.options
is_free Version p = is_none p.version
is_free Initial p = is_none p.initial
is_free TokenSetting p = is_none p.token_setting
is_free Requirements p = is_none p.requirements
is_free CallingSelector p = is_none p.calling
is_free CalledSelector p = is_none p.called
is_free ConnectData p = is_none p.user
is_free ExtendedData p = is_none p.user
is_free UserData p = is_none p.user
is_free Transport p = is_none p.transport
is_free RefuseReason p = is_none p.reason
is_free ActivityReason p = is_none p.reason
is_free Tokens p = is_none p.tokens
is_free ResyncType p = not p.resync
is_free Number p = is_none p.number
is_free Activity p = is_none p.activity
is_free OldActivity p = is_none p.old_activity
is_free OldMark p = is_none p.old_mark

-- what is made of a value, where there is one
abbrev pub with_value : {X : Type 0} → Option X → (X → Option Parameters) → Option Parameters
with_value None f = None
with_value (Some x) f = f x

-- two activity numbers are one, as far as both are there
abbrev pub agrees : Option ℕ → ℕ → Bool
agrees None n = true
agrees (Some m) n = m == n

-- what a reason for refusing says beside its code: user data, where the code is 2 and there are any
abbrev pub refusal : ℕ → List ℕ → Option (List ℕ)
refusal code [] = None
refusal code (x ∷ xs) = if code == 2 then Some (x ∷ xs) else None

-- parameters of one octet
abbrev pub put_octet : Slot → ℕ → Parameters → Option Parameters
put_octet Options x p = Some (record p { options = Some x })
put_octet Version x p = Some (record p { version = Some x })
put_octet TokenSetting x p = Some (record p { token_setting = Some x })
put_octet Transport x p = Some (record p { transport = Some x })
put_octet ActivityReason x p = Some (record p { reason = Some x })
put_octet Tokens x p = Some (record p { tokens = Some x })
put_octet ResyncType x p = if x == 0 then Some (record p { resync = true }) else None
put_octet _ x p = None

-- parameters of any octets
abbrev pub put_octets : Slot → List ℕ → Parameters → Option Parameters
put_octets CallingReference v p = Some (record p { calling_reference = Some v })
put_octets CommonReference v p = Some (record p { common_reference = Some v })
put_octets CallingSelector v p = Some (record p { calling = Some v })
put_octets CalledSelector v p = Some (record p { called = Some v })
put_octets ConnectData v p = if nat_le (length v) most_short_data then Some (record p { user = Some v }) else None
put_octets ExtendedData v p = if nat_le (length v) most_connect_data then Some (record p { user = Some v }) else None
put_octets UserData v p = Some (record p { user = Some v })
put_octets _ v p = None

-- parameters of a number in digits
abbrev pub put_number : Slot → ℕ → Parameters → Option Parameters
put_number Initial n p = Some (record p { initial = Some n })
put_number Number n p = Some (record p { number = Some n })
put_number Activity n p = if agrees p.old_activity n then Some (record p { activity = Some n }) else None
put_number OldActivity n p = if agrees p.activity n then Some (record p { old_activity = Some n }) else None
put_number _ n p = None

abbrev pub put_reason : List ℕ → Parameters → Option Parameters
put_reason [] p = None
put_reason (code ∷ rest) p = Some (record p { reason = Some code; user = refusal code rest })

-- A parameter with its value, beside those before; a group stands there whatever is in it. None: the value breaks the parameter's rule.
abbrev pub put : Slot → List ℕ → Parameters → Option Parameters
put Identifier v p = Some (record p { identifier = true })
put ConnectItem v p = Some (record p { connect_item = true })
put AcceptItem v p = Some (record p { connect_item = true })
put Linking v p = Some (record p { linking = true })
put Requirements v p = with_value (pair_of v) (λ n. Some (record p { requirements = Some n }))
put OldMark v p = with_value (mark_of v) (λ n. Some (record p { old_mark = Some n }))
put RefuseReason v p = put_reason v p
put Initial v p = with_value (number_of v) (λ n. put_number Initial n p)
put Number v p = with_value (number_of v) (λ n. put_number Number n p)
put Activity v p = with_value (number_of v) (λ n. put_number Activity n p)
put OldActivity v p = with_value (number_of v) (λ n. put_number OldActivity n p)
put Options v p = with_value (octet_of v) (λ x. put_octet Options x p)
put Version v p = with_value (octet_of v) (λ x. put_octet Version x p)
put TokenSetting v p = with_value (octet_of v) (λ x. put_octet TokenSetting x p)
put Transport v p = with_value (octet_of v) (λ x. put_octet Transport x p)
put ActivityReason v p = with_value (octet_of v) (λ x. put_octet ActivityReason x p)
put Tokens v p = with_value (octet_of v) (λ x. put_octet Tokens x p)
put ResyncType v p = with_value (octet_of v) (λ x. put_octet ResyncType x p)
put CallingReference v p = put_octets CallingReference v p
put CommonReference v p = put_octets CommonReference v p
put CallingSelector v p = put_octets CallingSelector v p
put CalledSelector v p = put_octets CalledSelector v p
put ConnectData v p = put_octets ConnectData v p
put ExtendedData v p = put_octets ExtendedData v p
put UserData v p = put_octets UserData v p
