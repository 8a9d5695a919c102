-- The one spelling of what is written.
use Rattle.std.specs.Prelude.{◌≡◌, ℕ, ◌+◌, ◌/◌, ◌%◌, ◌<◌, ◌≤◌, ◌==◌, Bool, true, false, List, [], ◌∷◌, ◌++◌, length, map, Option, Some, None, IfSome, nat_lt, nat_le, if◌then◌else◌}
use Rattle.std.specs.Option.{option_map}
use Rattle.std.specs.List.{flat_map}
use Rattle.std.specs.Int.Digits.{digits_of}
use Rattle.osi_base.specs.declared.session_word.SessionConnect.{SessionConnect}
use Rattle.osi_base.specs.declared.session_word.SessionWord.{SessionWord}
use Rattle.osi_base.specs.declared.session_word.SessionWord.TheVariants.{Connect, Accept, Refuse, Finish, Disconnect, Abort, AbortAccept, GiveTokens, PleaseTokens, GiveTokensConfirm, GiveTokensAck, TypedData, Data, Mark, MarkAck, Resynchronize, ResynchronizeAck, ActivityStart, ActivityResume, ActivityInterrupt, ActivityInterruptAck, ActivityDiscard, ActivityDiscardAck, ActivityEnd, ActivityEndAck}
use Rattle.osi_base.specs.Limits.{last_serial, most_connect_data, most_short_data, past_two_octets}

-- a length below 65,536, in one octet where it can be
abbrev pub written_length : ℕ → List ℕ
written_length n = if nat_lt n 255 then n ∷ [] else 255 ∷ n / 256 % 256 ∷ n % 256 ∷ []

-- a code, a length, and so many octets
abbrev pub coded : ℕ → List ℕ → List ℕ
coded code value = code ∷ written_length (length value) ++ value

-- a parameter as it is written
abbrev pub coded_parameter : ℕ × List ℕ → List ℕ
coded_parameter p = coded p.0 p.1

abbrev pub spelled : List (ℕ × List ℕ) → List ℕ
spelled ps = flat_map coded_parameter ps

-- a parameter that may lack
abbrev pub optional : ℕ → Option (List ℕ) → List (ℕ × List ℕ)
optional code None = []
optional code (Some value) = (code, value) ∷ []

-- a group, which is left out where nothing is in it
abbrev pub group : ℕ → List (ℕ × List ℕ) → List (ℕ × List ℕ)
group code [] = []
group code (x ∷ xs) = (code, spelled (x ∷ xs)) ∷ []

-- the same, from the octets of what is in it
abbrev pub group_of : ℕ → List ℕ → List ℕ
group_of code [] = []
group_of code (x ∷ xs) = coded code (x ∷ xs)

abbrev pub octet : ℕ → List ℕ
octet x = x ∷ []

abbrev pub pair : ℕ → List ℕ
pair n = n / 256 ∷ n % 256 ∷ []

-- the decimal digits of a number from 1 on, without a leading zero
abbrev pub numeral : ℕ → List ℕ
numeral n = map (λ d. d + 48) (digits_of 10 n)

-- the same, and a single zero for 0
abbrev pub mark_numeral : ℕ → List ℕ
mark_numeral n = if n == 0 then 48 ∷ [] else numeral n

-- user data of CN: in the extended parameter where they have more than 512 octets
abbrev pub connect_data : List ℕ → List (ℕ × List ℕ)
connect_data user = if nat_le (length user) most_short_data then (193, user) ∷ [] else (194, user) ∷ []

abbrev pub identifier_items : SessionConnect → List (ℕ × List ℕ)
identifier_items c = optional 10 c.calling_reference ++ optional 11 c.common_reference

abbrev pub connect_items : SessionConnect → List (ℕ × List ℕ)
connect_items c = optional 19 (option_map octet c.options) ++ optional 22 (option_map octet c.version) ++ optional 23 (option_map numeral c.initial) ++ optional 26 (option_map octet c.token_setting)

abbrev pub accept_items : Option ℕ → Option ℕ → Option ℕ → List (ℕ × List ℕ)
accept_items options version initial = optional 19 (option_map octet options) ++ optional 22 (option_map octet version) ++ optional 23 (option_map numeral initial)

-- a reason for refusing, with user data behind its code
abbrev pub reason_value : Option (List ℕ) → ℕ → List ℕ
reason_value None code = code ∷ []
reason_value (Some user) code = code ∷ user

-- The parameters of a unit, in the order in which they are written: of a connection's beginning and end and of tokens,
-- or of marks, restarts and activities. The other units have none.
abbrev pub connection_parameters : SessionWord → List (ℕ × List ℕ)
connection_parameters (Connect c) =
    group 1 (identifier_items c) ++ group 5 (connect_items c) ++ optional 20 (option_map pair c.requirements)
    ++ optional 51 c.calling ++ optional 52 c.called ++ connect_data c.user
connection_parameters (Accept options version initial requirements user) = group 5 (accept_items options version initial) ++ optional 20 (option_map pair requirements) ++ (193, user) ∷ []
connection_parameters (Refuse transport reason user) = optional 17 (option_map octet transport) ++ optional 50 (option_map (reason_value user) reason)
connection_parameters (Finish transport user) = optional 17 (option_map octet transport) ++ (193, user) ∷ []
connection_parameters (Disconnect user) = (193, user) ∷ []
connection_parameters (Abort transport user) = optional 17 (option_map octet transport) ++ optional 193 user
connection_parameters (GiveTokens tokens) = optional 16 (option_map octet tokens)
connection_parameters (PleaseTokens tokens user) = optional 16 (option_map octet tokens) ++ optional 193 user
connection_parameters _ = []

abbrev pub transfer_parameters : SessionWord → List (ℕ × List ℕ)
transfer_parameters (Mark number) = (42, numeral number) ∷ []
transfer_parameters (MarkAck number) = (42, numeral number) ∷ []
transfer_parameters (Resynchronize number user) = (27, 0 ∷ []) ∷ (42, numeral number) ∷ optional 193 user
transfer_parameters (ResynchronizeAck number user) = (42, numeral number) ∷ optional 193 user
transfer_parameters (ActivityStart activity) = (41, numeral activity) ∷ []
transfer_parameters (ActivityResume activity mark) = (33, spelled ((41, numeral activity) ∷ (42, mark_numeral mark) ∷ [])) ∷ (41, numeral activity) ∷ []
transfer_parameters (ActivityInterrupt reason) = optional 50 (option_map octet reason)
transfer_parameters (ActivityDiscard reason) = optional 50 (option_map octet reason)
transfer_parameters (ActivityEnd number) = (42, numeral number) ∷ []
transfer_parameters (ActivityEndAck number) = (42, numeral number) ∷ []
transfer_parameters _ = []

abbrev pub parameters_written : SessionWord → List (ℕ × List ℕ)
parameters_written word = connection_parameters word ++ transfer_parameters word

-- the code of a unit
abbrev pub code_written : SessionWord → ℕ
code_written (Connect c) = 13
code_written (Accept options version initial requirements user) = 14
code_written (Refuse transport reason user) = 12
code_written (Finish transport user) = 9
code_written (Disconnect user) = 10
code_written (Abort transport user) = 25
code_written AbortAccept = 26
code_written (GiveTokens tokens) = 1
code_written (PleaseTokens tokens user) = 2
code_written GiveTokensConfirm = 21
code_written GiveTokensAck = 22
code_written (TypedData user) = 33
code_written (Data user) = 1
code_written (Mark number) = 49
code_written (MarkAck number) = 50
code_written (Resynchronize number user) = 53
code_written (ResynchronizeAck number user) = 34
code_written (ActivityStart activity) = 45
code_written (ActivityResume activity mark) = 29
code_written (ActivityInterrupt reason) = 25
code_written ActivityInterruptAck = 26
code_written (ActivityDiscard reason) = 57
code_written ActivityDiscardAck = 58
code_written (ActivityEnd number) = 41
code_written (ActivityEndAck number) = 42

-- the user information behind a unit
abbrev pub information_written : SessionWord → List ℕ
information_written (TypedData user) = user
information_written (Data user) = user
information_written _ = []

abbrev pub unit_written : SessionWord → List ℕ
unit_written word = coded (code_written word) (spelled (parameters_written word)) ++ information_written word

abbrev pub units_written : List SessionWord → List ℕ
units_written words = flat_map unit_written words

-- ---- what may be written

-- a serial number of a mark, or an activity's number
abbrev pub IsNumber : ℕ → Type 0
IsNumber n = (0 < n) × (n ≤ last_serial)

-- user data of a refusal stand behind the code 2, and there are some
abbrev pub IsRefusal : Option ℕ → Option (List ℕ) → Type 0
IsRefusal reason None = Unit {0}
IsRefusal None (Some user) = ⊥
IsRefusal (Some code) (Some user) = (code ≡ 2) × (0 < length user)

-- each field is one that is read
abbrev pub AreFields : SessionWord → Type 0
AreFields (Connect c) = IfSome c.initial IsNumber × (length c.user ≤ most_connect_data)
AreFields (Accept options version initial requirements user) = IfSome initial IsNumber
AreFields (Refuse transport reason user) = IsRefusal reason user
AreFields (Mark number) = IsNumber number
AreFields (MarkAck number) = IsNumber number
AreFields (Resynchronize number user) = IsNumber number
AreFields (ResynchronizeAck number user) = IsNumber number
AreFields (ActivityStart activity) = IsNumber activity
AreFields (ActivityResume activity mark) = IsNumber activity × (mark ≤ last_serial)
AreFields (ActivityEnd number) = IsNumber number
AreFields (ActivityEndAck number) = IsNumber number
AreFields _ = Unit {0}

-- a length can tell the octets of the parameters
pub record Fits (word : SessionWord) : Type 0 where
  pub fields : AreFields word
  pub size : length (spelled (parameters_written word)) < past_two_octets

abbrev pub is_some_octet : Option ℕ → Bool
is_some_octet None = false
is_some_octet (Some x) = true

-- it may stand alone
abbrev pub stands_alone : SessionWord → Bool
stands_alone (Connect c) = true
stands_alone (Accept options version initial requirements user) = true
stands_alone (Refuse transport reason user) = true
stands_alone (Finish transport user) = true
stands_alone (Disconnect user) = true
stands_alone (Abort transport user) = true
stands_alone AbortAccept = true
stands_alone (GiveTokens tokens) = is_some_octet tokens
stands_alone (PleaseTokens tokens user) = is_some_octet tokens
stands_alone GiveTokensConfirm = true
stands_alone GiveTokensAck = true
stands_alone (TypedData user) = true
stands_alone _ = false

-- it may stand in front of another
abbrev pub stands_first : SessionWord → Bool
stands_first (GiveTokens tokens) = true
stands_first (PleaseTokens tokens user) = true
stands_first _ = false

-- it may stand behind another
abbrev pub stands_second : SessionWord → Bool
stands_second (TypedData user) = true
stands_second (Data user) = true
stands_second (Mark number) = true
stands_second (MarkAck number) = true
stands_second (Resynchronize number user) = true
stands_second (ResynchronizeAck number user) = true
stands_second (ActivityStart activity) = true
stands_second (ActivityResume activity mark) = true
stands_second (ActivityInterrupt reason) = true
stands_second ActivityInterruptAck = true
stands_second (ActivityDiscard reason) = true
stands_second ActivityDiscardAck = true
stands_second (ActivityEnd number) = true
stands_second (ActivityEndAck number) = true
stands_second _ = false

-- units that may be written as one TSDU
abbrev pub AreWritable : List SessionWord → Type 0
AreWritable [] = ⊥
AreWritable (word ∷ []) = (stands_alone word ≡ true) × Fits word
AreWritable (first ∷ second ∷ []) = (stands_first first ≡ true) × Fits first × (stands_second second ≡ true) × Fits second
AreWritable (first ∷ second ∷ third ∷ words) = ⊥

-- how many octets stand in the parameters of a unit that any octets may fill
abbrev pub length_of : Option (List ℕ) → ℕ
length_of None = 0
length_of (Some v) = length v

abbrev pub octets_in : SessionWord → ℕ
octets_in (Connect c) = length_of c.calling_reference + length_of c.common_reference + length_of c.calling + length_of c.called + length c.user
octets_in (Accept options version initial requirements user) = length user
octets_in (Refuse transport reason user) = length_of user
octets_in (Finish transport user) = length user
octets_in (Disconnect user) = length user
octets_in (Abort transport user) = length_of user
octets_in (PleaseTokens tokens user) = length_of user
octets_in (Resynchronize number user) = length_of user
octets_in (ResynchronizeAck number user) = length_of user
octets_in _ = 0
