-- How long the parameters of a unit are at most.
use Rattle.std.proofs.Common.{◌≡◌, ℕ, ◌+◌, ◌/◌, ◌%◌, ◌≤◌, ◌==◌, Bool, true, false, cond, List, [], ◌∷◌, ◌++◌, length, Option, Some, None, refl, ap, subst, ◌∙◌, arith}
use Rattle.std.specs.Prelude.{IfSome, nat_le, nat_lt}
use Rattle.std.specs.Option.{option_map}
use Rattle.std.specs.Int.Digits.{digits_of}
use Rattle.std.proofs.lemmas.List.{length-append, length-map}
use Rattle.std.proofs.lemmas.Int.Digits.{length-digits_of-le}
use Rattle.osi_base.specs.declared.session_word.SessionConnect.{SessionConnect}
use Rattle.osi_base.specs.declared.session_word.SessionWord.{SessionWord}
use Rattle.osi_base.specs.declared.session_word.SessionWord.TheVariants as words
use Rattle.osi_base.specs.Limits.{last_serial}
use Rattle.spdu_codec.specs.Written.{written_length, coded, spelled, optional, group, octet, pair, numeral, mark_numeral, connect_data, identifier_items, connect_items, accept_items, reason_value, connection_parameters, transfer_parameters, parameters_written, IsNumber, AreFields, length_of, octets_in}
use Rattle.spdu_codec.proofs.SpellingLaws.{spelled-append}

-- a length takes three octets at most
length_short : (n : ℕ) → length (written_length n) ≤ 3
length_short n = go (nat_lt n 255)
  where
    go : (b : Bool) → length (cond b (n ∷ []) (255 ∷ n / 256 % 256 ∷ n % 256 ∷ [])) ≤ 3
    go true = omega arith
    go false = omega arith

pub one_size : (code : ℕ) (v : List ℕ) → length (spelled ((code, v) ∷ [])) ≤ 4 + length v
one_size code v = omega (arith, length_short (length v), length-append (coded code v) [], length-append (code ∷ written_length (length v)) v)

pub octets_size : (code : ℕ) (o : Option (List ℕ)) → length (spelled (optional code o)) ≤ 4 + length_of o
octets_size code None = omega arith
octets_size code (Some v) = one_size code v

-- a parameter that may lack, with at most m octets
value_size : {X : Type 0} (enc : X → List ℕ) (m code : ℕ) (o : Option X) → ((x : X) → o ≡ Some x → length (enc x) ≤ m) → length (spelled (optional code (option_map enc o))) ≤ 4 + m
value_size enc m code None h = omega arith
value_size enc m code (Some x) h = omega (arith, one_size code (enc x), h x refl)

octet_size : (code : ℕ) (o : Option ℕ) → length (spelled (optional code (option_map octet o))) ≤ 5
octet_size code o = value_size octet 1 code o (λ x _. omega arith)

pair_size : (code : ℕ) (o : Option ℕ) → length (spelled (optional code (option_map pair o))) ≤ 6
pair_size code o = value_size pair 2 code o (λ x _. omega arith)

numeral_size : (n : ℕ) → n ≤ last_serial → length (numeral n) ≤ 6
numeral_size n le = omega (arith, length-digits_of-le 10 6 n (omega arith) (omega arith), length-map (digits_of 10 n) (λ d. d + 48))

mark_size : (n : ℕ) → n ≤ last_serial → length (mark_numeral n) ≤ 6
mark_size n le = go (n == 0)
  where
    go : (b : Bool) → length (cond b (48 ∷ []) (numeral n)) ≤ 6
    go true = omega arith
    go false = numeral_size n le

initial_size : (o : Option ℕ) → IfSome o IsNumber → length (spelled (optional 23 (option_map numeral o))) ≤ 10
initial_size o h = value_size numeral 6 23 o (λ x e. numeral_size x (let w : IfSome (Some x) IsNumber = subst (λ (n : Option ℕ). IfSome n IsNumber) e h in w.1))

-- a group takes four octets more than what is in it
group_size : (code : ℕ) (items : List (ℕ × List ℕ)) → length (spelled (group code items)) ≤ 4 + length (spelled items)
group_size code [] = omega arith
group_size code (x ∷ xs) = one_size code (spelled (x ∷ xs))

data_size : (v : List ℕ) → length (spelled (connect_data v)) ≤ 4 + length v
data_size v = go (nat_le (length v) 512)
  where
    go : (b : Bool) → length (spelled (cond b ((193, v) ∷ []) ((194, v) ∷ []))) ≤ 4 + length v
    go true = one_size 193 v
    go false = one_size 194 v

two : (a b : List (ℕ × List ℕ)) → length (spelled (a ++ b)) ≡ length (spelled a) + length (spelled b)
two a b = ap length (spelled-append a b) ∙ length-append (spelled a) (spelled b)

-- ---- each word

connect_size : (c : SessionConnect) → IfSome c.initial IsNumber → length (spelled (connection_parameters (words.Connect c))) ≤ 80 + octets_in (words.Connect c)
connect_size c h =
    let g1 = group 1 (identifier_items c) in
    let g5 = group 5 (connect_items c) in
    let r = optional 20 (option_map pair c.requirements) in
    let x = optional 51 c.calling in
    let y = optional 52 c.called in
    let u = connect_data c.user in
    let o = optional 19 (option_map octet c.options) in
    let v = optional 22 (option_map octet c.version) in
    let i = optional 23 (option_map numeral c.initial) in
    let t = optional 26 (option_map octet c.token_setting) in
    let items : length (spelled (connect_items c)) ≤ 25 = omega (arith, two (o ++ v ++ i) t, two (o ++ v) i, two o v, octet_size 19 c.options, octet_size 22 c.version, initial_size c.initial h, octet_size 26 c.token_setting) in
    let names = two (optional 10 c.calling_reference) (optional 11 c.common_reference) in
    let first : length (spelled g1) ≤ 12 + length_of c.calling_reference + length_of c.common_reference =
    omega (arith, group_size 1 (identifier_items c), names, octets_size 10 c.calling_reference, octets_size 11 c.common_reference) in
    let second : length (spelled g5) ≤ 29 = omega (arith, group_size 5 (connect_items c), items) in
    omega (arith, two (g1 ++ g5 ++ r ++ x ++ y) u, two (g1 ++ g5 ++ r ++ x) y, two (g1 ++ g5 ++ r) x, two (g1 ++ g5) r, two g1 g5, first, second, pair_size 20 c.requirements, octets_size 51 c.calling, octets_size 52 c.called, data_size c.user)

accept_size : (options version initial requirements : Option ℕ) (user : List ℕ) → IfSome initial IsNumber
    → length (spelled (connection_parameters (words.Accept options version initial requirements user))) ≤ 80 + length user
accept_size options version initial requirements user h =
    let g5 = group 5 (accept_items options version initial) in
    let r = optional 20 (option_map pair requirements) in
    let u : List (ℕ × List ℕ) = (193, user) ∷ [] in
    let o = optional 19 (option_map octet options) in
    let v = optional 22 (option_map octet version) in
    let i = optional 23 (option_map numeral initial) in
    let items : length (spelled (accept_items options version initial)) ≤ 20 = omega (arith, two (o ++ v) i, two o v, octet_size 19 options, octet_size 22 version, initial_size initial h) in
    let second : length (spelled g5) ≤ 24 = omega (arith, group_size 5 (accept_items options version initial), items) in
    omega (arith, two (g5 ++ r) u, two g5 r, second, pair_size 20 requirements, one_size 193 user)

reason_size : (reason : Option ℕ) (user : Option (List ℕ)) → length (spelled (optional 50 (option_map (reason_value user) reason))) ≤ 5 + length_of user
reason_size reason None = omega (arith, value_size (reason_value None) 1 50 reason (λ x _. omega arith))
reason_size reason (Some user) = omega (arith, value_size (reason_value (Some user)) (1 + length user) 50 reason (λ x _. omega arith))

one_number : (code n : ℕ) → IsNumber n → length (spelled ((code, numeral n) ∷ [])) ≤ 10
one_number code n h = omega (arith, one_size code (numeral n), numeral_size n h.1)

resume_size : (activity mark : ℕ) → IsNumber activity → mark ≤ last_serial → length (spelled (transfer_parameters (words.ActivityResume activity mark))) ≤ 80
resume_size activity mark h le =
    let a : List (ℕ × List ℕ) = (41, numeral activity) ∷ [] in
    let m : List (ℕ × List ℕ) = (42, mark_numeral mark) ∷ [] in
    let items = two a m in
    omega (arith, two ((33, spelled (a ++ m)) ∷ []) a, one_size 33 (spelled (a ++ m)), items, one_number 41 activity h, one_size 42 (mark_numeral mark), mark_size mark le)

nothing_more : (ps : List (ℕ × List ℕ)) (n : ℕ) → length (spelled ps) ≤ n → length (spelled (ps ++ [])) ≤ n
nothing_more ps n le = omega (arith, two ps [], le)

pub word_size : (w : SessionWord) → AreFields w → length (spelled (parameters_written w)) ≤ 80 + octets_in w
word_size (words.Connect c) h = nothing_more (connection_parameters (words.Connect c)) (80 + octets_in (words.Connect c)) (connect_size c h.0)
word_size (words.Accept options version initial requirements user) h =
    nothing_more (connection_parameters (words.Accept options version initial requirements user)) (80 + length user) (accept_size options version initial requirements user h)
word_size (words.Refuse transport reason user) h =
    let a = optional 17 (option_map octet transport) in
    let b = optional 50 (option_map (reason_value user) reason) in
    nothing_more (a ++ b) (80 + length_of user) (omega (arith, two a b, octet_size 17 transport, reason_size reason user))
word_size (words.Finish transport user) h =
    let a = optional 17 (option_map octet transport) in
    let b : List (ℕ × List ℕ) = (193, user) ∷ [] in
    nothing_more (a ++ b) (80 + length user) (omega (arith, two a b, octet_size 17 transport, one_size 193 user))
word_size (words.Disconnect user) h = omega (arith, one_size 193 user)
word_size (words.Abort transport user) h =
    let a = optional 17 (option_map octet transport) in
    let b = optional 193 user in
    nothing_more (a ++ b) (80 + length_of user) (omega (arith, two a b, octet_size 17 transport, octets_size 193 user))
word_size (words.GiveTokens tokens) h = nothing_more (optional 16 (option_map octet tokens)) 80 (omega (arith, octet_size 16 tokens))
word_size (words.PleaseTokens tokens user) h =
    let a = optional 16 (option_map octet tokens) in
    let b = optional 193 user in
    nothing_more (a ++ b) (80 + length_of user) (omega (arith, two a b, octet_size 16 tokens, octets_size 193 user))
word_size (words.Mark n) h = omega (arith, one_number 42 n h)
word_size (words.MarkAck n) h = omega (arith, one_number 42 n h)
word_size (words.Resynchronize n user) h =
    let z : List (ℕ × List ℕ) = (27, 0 ∷ []) ∷ [] in
    let a : List (ℕ × List ℕ) = (42, numeral n) ∷ [] in
    let b = optional 193 user in
    omega (arith, two z (a ++ b), two a b, one_size 27 (0 ∷ []), one_number 42 n h, octets_size 193 user)
word_size (words.ResynchronizeAck n user) h =
    let a : List (ℕ × List ℕ) = (42, numeral n) ∷ [] in
    let b = optional 193 user in
    omega (arith, two a b, one_number 42 n h, octets_size 193 user)
word_size (words.ActivityStart n) h = omega (arith, one_number 41 n h)
word_size (words.ActivityResume activity mark) h = omega (arith, resume_size activity mark h.0 h.1)
word_size (words.ActivityInterrupt reason) h = omega (arith, octet_size 50 reason)
word_size (words.ActivityDiscard reason) h = omega (arith, octet_size 50 reason)
word_size (words.ActivityEnd n) h = omega (arith, one_number 42 n h)
word_size (words.ActivityEndAck n) h = omega (arith, one_number 42 n h)
word_size _ h = omega arith
