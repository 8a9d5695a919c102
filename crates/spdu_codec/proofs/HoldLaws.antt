-- At the places of user data stand the user data of the words that are read.
use Rattle.std.proofs.Common.{◌≡◌, ℕ, zero, suc, ◌+◌, ◌-◌, ◌==◌, Bool, true, false, cond, List, [], ◌∷◌, ◌++◌, length, take, drop, Option, Some, None, Result, Ok, Err, refl, sym, ap, subst, ◌∙◌, append_assoc, inl, inr, arith}
use Rattle.std.specs.Prelude.{◌⊎◌, is_some}
use Rattle.std.proofs.lemmas.List.{length-append, append-nil, take_at, drop_at}
use Rattle.osi_base.specs.declared.session_word.SessionWord.{SessionWord}
use Rattle.osi_base.specs.declared.session_word.SessionWord.TheVariants as words
use Rattle.spdu_codec.specs.declared.kind.SpduKind.{SpduKind}
use Rattle.spdu_codec.specs.declared.kind.SpduKind.TheVariants as kinds
use Rattle.spdu_codec.specs.declared.parameters.Slot.{Slot}
use Rattle.spdu_codec.specs.declared.parameters.Slot.TheVariants.{Identifier, ConnectItem, AcceptItem, Linking, CallingReference, CommonReference, Options, Version, Initial, TokenSetting, Requirements, CallingSelector, CalledSelector, ConnectData, ExtendedData, UserData, Transport, RefuseReason, ActivityReason, Tokens, ResyncType, Number, Activity, OldActivity, OldMark}
use Rattle.spdu_codec.specs.declared.parameters.Parameters.{Parameters}
use Rattle.spdu_codec.specs.declared.places.UserPlaces.{UserPlaces}
use Rattle.spdu_codec.specs.Tables.{row_of, first_units, second_units, parameters_of}
use Rattle.spdu_codec.specs.Values.{octet_of, number_of, pair_of, mark_of}
use Rattle.spdu_codec.specs.Parameters.{none_yet, put, with_value, refusal}
use Rattle.spdu_codec.specs.Words.{has_information, word_of, needed, leads}
use Rattle.spdu_codec.specs.Reading.{UnitFault, front, value_at}
use Rattle.spdu_codec.specs.Wire.{AreParameters, AllPut, ItemPut, IsInside, GroupPut, ParameterPut, IsUnit, IsLast, AreUnits}
use Rattle.spdu_codec.specs.Places.{place, behind_code, placed, on_value, user_among, user_of, StandsAt, HoldUser, head, user_in, user_places}
use Rattle.spdu_codec.proofs.PlaceLoop.{among, goes_on}
use Rattle.spdu_codec.proofs.PlaceLaws.{places_of_one, places_of_two}
use Rattle.spdu_codec.proofs.WireLaws.{value_again}

abbrev some : Parameters → Option Parameters
some p = Some p

abbrev octets : List ℕ → Option (List ℕ)
octets xs = Some xs

abbrev none : Option (List ℕ)
none = None

abbrev nowhere : Option ℕ
nowhere = None

-- ---- what a parameter makes of the user data

abbrev after_code : List ℕ → Option (List ℕ)
after_code [] = None
after_code (code ∷ rest) = refusal code rest

abbrev user_after : Option Slot → List ℕ → Option (List ℕ) → Option (List ℕ)
user_after (Some ConnectData) v u = Some v
user_after (Some ExtendedData) v u = Some v
user_after (Some UserData) v u = Some v
user_after (Some RefuseReason) v u = after_code v
user_after _ v u = u

some_user : (a q : Parameters) → some a ≡ some q → q.user ≡ a.user
some_user a q e = cc

cond_user : (b : Bool) (a q : Parameters) → cond b (some a) None ≡ some q → q.user ≡ a.user
cond_user true a q e = some_user a q e
cond_user false a q e = absurd cc

kept : (o : Option ℕ) (f : ℕ → Option Parameters) (q : Parameters) (u : Option (List ℕ)) → ((x : ℕ) → f x ≡ Some q → q.user ≡ u) → with_value o f ≡ Some q → q.user ≡ u
kept None f q u h e = absurd cc
kept (Some x) f q u h e = h x e

reason_user : (v : List ℕ) (p q : Parameters) → put RefuseReason v p ≡ Some q → q.user ≡ after_code v
reason_user [] p q e = absurd cc
reason_user (code ∷ rest) p q e = some_user _ q e

item_user : (slot : Option Slot) (v : List ℕ) (p q : Parameters) → ItemPut slot v p q → q.user ≡ user_after slot v p.user
item_user None v p q e = ap (λ (r : Parameters). r.user) (sym e)
item_user (Some Identifier) v p q e = some_user _ q e
item_user (Some ConnectItem) v p q e = some_user _ q e
item_user (Some AcceptItem) v p q e = some_user _ q e
item_user (Some Linking) v p q e = some_user _ q e
item_user (Some Requirements) v p q e = kept (pair_of v) _ q p.user (λ x h. some_user _ q h) e
item_user (Some OldMark) v p q e = kept (mark_of v) _ q p.user (λ x h. some_user _ q h) e
item_user (Some RefuseReason) v p q e = reason_user v p q e
item_user (Some Initial) v p q e = kept (number_of v) _ q p.user (λ x h. some_user _ q h) e
item_user (Some Number) v p q e = kept (number_of v) _ q p.user (λ x h. some_user _ q h) e
item_user (Some Activity) v p q e = kept (number_of v) _ q p.user (λ x h. cond_user _ _ q h) e
item_user (Some OldActivity) v p q e = kept (number_of v) _ q p.user (λ x h. cond_user _ _ q h) e
item_user (Some Options) v p q e = kept (octet_of v) _ q p.user (λ x h. some_user _ q h) e
item_user (Some Version) v p q e = kept (octet_of v) _ q p.user (λ x h. some_user _ q h) e
item_user (Some TokenSetting) v p q e = kept (octet_of v) _ q p.user (λ x h. some_user _ q h) e
item_user (Some Transport) v p q e = kept (octet_of v) _ q p.user (λ x h. some_user _ q h) e
item_user (Some ActivityReason) v p q e = kept (octet_of v) _ q p.user (λ x h. some_user _ q h) e
item_user (Some Tokens) v p q e = kept (octet_of v) _ q p.user (λ x h. some_user _ q h) e
item_user (Some ResyncType) v p q e = kept (octet_of v) _ q p.user (λ x h. cond_user _ _ q h) e
item_user (Some CallingReference) v p q e = some_user _ q e
item_user (Some CommonReference) v p q e = some_user _ q e
item_user (Some CallingSelector) v p q e = some_user _ q e
item_user (Some CalledSelector) v p q e = some_user _ q e
item_user (Some ConnectData) v p q e = cond_user _ _ q e
item_user (Some ExtendedData) v p q e = cond_user _ _ q e
item_user (Some UserData) v p q e = some_user _ q e

-- a parameter that leaves user data alone
abbrev Quiet : Option Slot → Type 0
Quiet slot = ((v : List ℕ) (u : Option (List ℕ)) → user_after slot v u ≡ u) × ((v : List ℕ) (start : ℕ) (before : Option ℕ) → placed slot v start before ≡ before)

quiet_cond : (b : Bool) (x y : Option Slot) → Quiet x → Quiet y → Quiet (cond b x y)
quiet_cond true x y h k = h
quiet_cond false x y h k = k

nothing : Quiet None
nothing = (λ v u. refl, λ v start before. refl)

all_user : (table : List (ℕ × Slot)) → ((code : ℕ) → Quiet (row_of code table)) → (items : List (ℕ × List ℕ)) (p q : Parameters) → AllPut ItemPut table items p q → q.user ≡ p.user
all_user table quiet [] p q e = ap (λ (r : Parameters). r.user) (sym e)
all_user table quiet (x ∷ items) p q e =
    all_user table quiet items e.1.0 q e.1.2 ∙ item_user (row_of x.0 table) x.1 p e.1.0 e.1.1 ∙ (quiet x.0).0 x.1 p.user

inside_user : (table : List (ℕ × Slot)) → ((code : ℕ) → Quiet (row_of code table)) → (v : List ℕ) (p q : Parameters) → IsInside (Some table) v p q → q.user ≡ p.user
inside_user table quiet v p q e = all_user table quiet e.0 p q e.2

activity_quiet : Quiet (Some Activity)
activity_quiet = (λ v u. refl, λ v start before. refl)

activityreason_quiet : Quiet (Some ActivityReason)
activityreason_quiet = (λ v u. refl, λ v start before. refl)

callingreference_quiet : Quiet (Some CallingReference)
callingreference_quiet = (λ v u. refl, λ v start before. refl)

commonreference_quiet : Quiet (Some CommonReference)
commonreference_quiet = (λ v u. refl, λ v start before. refl)

initial_quiet : Quiet (Some Initial)
initial_quiet = (λ v u. refl, λ v start before. refl)

number_quiet : Quiet (Some Number)
number_quiet = (λ v u. refl, λ v start before. refl)

oldactivity_quiet : Quiet (Some OldActivity)
oldactivity_quiet = (λ v u. refl, λ v start before. refl)

oldmark_quiet : Quiet (Some OldMark)
oldmark_quiet = (λ v u. refl, λ v start before. refl)

options_quiet : Quiet (Some Options)
options_quiet = (λ v u. refl, λ v start before. refl)

tokensetting_quiet : Quiet (Some TokenSetting)
tokensetting_quiet = (λ v u. refl, λ v start before. refl)

tokens_quiet : Quiet (Some Tokens)
tokens_quiet = (λ v u. refl, λ v start before. refl)

transport_quiet : Quiet (Some Transport)
transport_quiet = (λ v u. refl, λ v start before. refl)

version_quiet : Quiet (Some Version)
version_quiet = (λ v u. refl, λ v start before. refl)

group_user : (slot : Option Slot) (v : List ℕ) (p q : Parameters) → GroupPut slot v p q → q.user ≡ p.user
group_user None v p q e = ap (λ (r : Parameters). r.user) (sym e)
group_user (Some Identifier) v p q e =
    inside_user ((10, CallingReference) ∷ (11, CommonReference) ∷ [])
    (λ code. quiet_cond (10 == code) (Some CallingReference) (cond (11 == code) (Some CommonReference) None) callingreference_quiet (quiet_cond (11 == code) (Some CommonReference) None commonreference_quiet nothing)) v p q e
group_user (Some ConnectItem) v p q e =
    inside_user ((19, Options) ∷ (22, Version) ∷ (23, Initial) ∷ (26, TokenSetting) ∷ [])
    (λ code. quiet_cond (19 == code) (Some Options) (cond (22 == code) (Some Version) (cond (23 == code) (Some Initial) (cond (26 == code) (Some TokenSetting) None))) options_quiet (quiet_cond (22 == code) (Some Version) (cond (23 == code) (Some Initial) (cond (26 == code) (Some TokenSetting) None)) version_quiet (quiet_cond (23 == code) (Some Initial) (cond (26 == code) (Some TokenSetting) None) initial_quiet (quiet_cond (26 == code) (Some TokenSetting) None tokensetting_quiet nothing)))) v p q e
group_user (Some AcceptItem) v p q e =
    inside_user ((19, Options) ∷ (22, Version) ∷ (23, Initial) ∷ [])
    (λ code. quiet_cond (19 == code) (Some Options) (cond (22 == code) (Some Version) (cond (23 == code) (Some Initial) None)) options_quiet (quiet_cond (22 == code) (Some Version) (cond (23 == code) (Some Initial) None) version_quiet (quiet_cond (23 == code) (Some Initial) None initial_quiet nothing))) v p q e
group_user (Some Linking) v p q e =
    inside_user ((41, OldActivity) ∷ (42, OldMark) ∷ [])
    (λ code. quiet_cond (41 == code) (Some OldActivity) (cond (42 == code) (Some OldMark) None) oldactivity_quiet (quiet_cond (42 == code) (Some OldMark) None oldmark_quiet nothing)) v p q e
group_user (Some _) v p q e = ap (λ (r : Parameters). r.user) (sym e)

parameter_user : (slot : Option Slot) (v : List ℕ) (p q : Parameters) → ParameterPut slot v p q → q.user ≡ user_after slot v p.user
parameter_user slot v p q e = group_user slot v e.0 q e.2 ∙ item_user slot v p e.0 e.1

-- ---- where it stands

value_stands : (whole a v tail : List ℕ) (start : ℕ) → whole ≡ a ++ (v ++ tail) → start ≡ length a → StandsAt (Some v) whole (Some start)
value_stands whole a v tail start e s =
    let size = ap length e in
    let behind : drop start whole ≡ v ++ tail = ap (drop start) e ∙ drop_at a (v ++ tail) start (sym s) in
    (omega (arith, size, s, length-append a (v ++ tail), length-append v tail), ap (take (length v)) behind ∙ take_at v tail (length v) refl)

reason_cond : (b : Bool) (whole user : List ℕ) (start : ℕ) → StandsAt (Some user) whole (Some (start + 1))
    → StandsAt (cond b (octets user) None) whole (elim (cond b (octets user) None) [ None ↦ nowhere | Some u ↦ place (start + 1) ])
reason_cond true whole user start h = h
reason_cond false whole user start h = tt

reason_stands : (whole a v tail : List ℕ) (start : ℕ) → whole ≡ a ++ (v ++ tail) → start ≡ length a → StandsAt (after_code v) whole (behind_code v start)
reason_stands whole a [] tail start e s = tt
reason_stands whole a (code ∷ []) tail start e s = tt
reason_stands whole a (code ∷ x ∷ xs) tail start e s =
    reason_cond (code == 2) whole (x ∷ xs) start
    (value_stands whole (a ++ (code ∷ [])) (x ∷ xs) tail (start + 1) (e ∙ sym (append_assoc a (code ∷ []) ((x ∷ xs) ++ tail))) (let n = length-append a (code ∷ []) in omega arith))

stands_after : (slot : Option Slot) (whole a v tail : List ℕ) (start : ℕ) (u : Option (List ℕ)) (before : Option ℕ) → whole ≡ a ++ (v ++ tail) → start ≡ length a → StandsAt u whole before
    → StandsAt (user_after slot v u) whole (placed slot v start before)
stands_after None whole a v tail start u before e s h = h
stands_after (Some ConnectData) whole a v tail start u before e s h = value_stands whole a v tail start e s
stands_after (Some ExtendedData) whole a v tail start u before e s h = value_stands whole a v tail start e s
stands_after (Some UserData) whole a v tail start u before e s h = value_stands whole a v tail start e s
stands_after (Some RefuseReason) whole a v tail start u before e s h = reason_stands whole a v tail start e s
stands_after (Some _) whole a v tail start u before e s h = h

among_holds : (table : List (ℕ × Slot)) (ps : List (ℕ × List ℕ)) (p q : Parameters) (whole pre xs post : List ℕ) (end : ℕ) (before : Option ℕ)
    → AllPut ParameterPut table ps p q → AreParameters ps xs → whole ≡ pre ++ (xs ++ post) → end ≡ length pre + length xs → StandsAt p.user whole before
    → StandsAt q.user whole (among table end before xs)
unfolding user_among
among_holds table [] p q whole pre xs post end before puts a e n h =
    let same = ap (λ (l : List ℕ). among table end before l) (sym a) in
    subst (λ (o : Option ℕ). StandsAt q.user whole o) same (subst (λ (r : Parameters). StandsAt r.user whole before) puts h)
among_holds table (x ∷ ps) p q whole pre xs post end before puts a e n h =
    let len = a.2.0 in
    let rest = a.1 in
    let front_of = x.0 ∷ len in
    let parts : xs ≡ front_of ++ (x.1 ++ rest) = a.4 ∙ ap (λ (l : List ℕ). l ++ rest) a.2.2 ∙ ap (λ (l : List ℕ). x.0 ∷ l) (append_assoc len x.1 rest) in
    let size = ap length parts in
    let start = end - length rest - length x.1 in
    let here : start ≡ length (pre ++ front_of) = omega (arith, size, n, length-append pre front_of, length-append len (x.1 ++ rest), length-append x.1 rest) in
    let same : among table end before xs ≡ among table end (placed (row_of x.0 table) x.1 start before) rest =
    ap (λ (l : List ℕ). among table end before l) parts ∙ goes_on table end before x.0 (len ++ (x.1 ++ rest)) (x.1, rest) (value_again end len x.1 rest a.2.1) in
    let all : whole ≡ (pre ++ front_of) ++ (x.1 ++ (rest ++ post)) =
    e ∙ ap (λ (l : List ℕ). pre ++ (l ++ post)) parts ∙ ap (λ (l : List ℕ). pre ++ l) (append_assoc front_of (x.1 ++ rest) post ∙ ap (λ (l : List ℕ). front_of ++ l) (append_assoc x.1 rest post))
    ∙ sym (append_assoc pre front_of (x.1 ++ (rest ++ post))) in
    let next : StandsAt puts.1.0.user whole (placed (row_of x.0 table) x.1 start before) =
    subst (λ (u : Option (List ℕ)). StandsAt u whole (placed (row_of x.0 table) x.1 start before)) (sym (parameter_user (row_of x.0 table) x.1 p puts.1.0 puts.1.1))
    (stands_after (row_of x.0 table) whole (pre ++ front_of) x.1 (rest ++ post) start p.user before all here h) in
    let again : whole ≡ ((pre ++ front_of) ++ x.1) ++ (rest ++ post) = all ∙ sym (append_assoc (pre ++ front_of) x.1 (rest ++ post)) in
    let there : end ≡ length ((pre ++ front_of) ++ x.1) + length rest =
    omega (arith, size, n, length-append (pre ++ front_of) x.1, length-append pre front_of, length-append len (x.1 ++ rest), length-append x.1 rest) in
    subst (λ (o : Option ℕ). StandsAt q.user whole o) (sym same)
    (among_holds table ps puts.1.0 q whole ((pre ++ front_of) ++ x.1) rest post end (placed (row_of x.0 table) x.1 start before) puts.1.2 a.3 again there next)

-- ---- the user data of a word

abbrev is_word : SessionWord → Option SessionWord
is_word w = Some w

some_word : (a w : SessionWord) → is_word a ≡ Some w → user_of w ≡ user_of a
some_word a w e = (let h : a ≡ w = cc in ap user_of (sym h))

needed_some : {X : Type 0} (o : Option X) (f : X → Option SessionWord) (w : SessionWord) (u : Option (List ℕ)) → ((x : X) → o ≡ Some x → f x ≡ Some w → user_of w ≡ u) → needed o f ≡ Some w → user_of w ≡ u
needed_some None f w u h e = absurd cc
needed_some (Some x) f w u h e = h x refl e

cond_word : (b : Bool) (o : Option SessionWord) (w : SessionWord) → cond b o None ≡ Some w → o ≡ Some w
cond_word true o w e = e
cond_word false o w e = absurd cc

abbrev QuietUnit : SpduKind → Type 0
QuietUnit kind = (code : ℕ) → Quiet (row_of code (parameters_of kind))

linking_quiet : Quiet (Some Linking)
linking_quiet = (λ v u. refl, λ v start before. refl)

one_quiet : (n : ℕ) (slot : Slot) → Quiet (Some slot) → (code : ℕ) → Quiet (row_of code ((n, slot) ∷ []))
one_quiet n slot h code = quiet_cond (n == code) (Some slot) None h nothing

two_quiet : (n m : ℕ) (slot other : Slot) → Quiet (Some slot) → Quiet (Some other) → (code : ℕ) → Quiet (row_of code ((n, slot) ∷ (m, other) ∷ []))
two_quiet n m slot other h k code = quiet_cond (n == code) (Some slot) (cond (m == code) (Some other) None) h (quiet_cond (m == code) (Some other) None k nothing)

abbrev UserOf : SpduKind → Parameters → SessionWord → Type 0
UserOf kind p w = (user_of w ≡ p.user) ⊎ ((user_of w ≡ None) × QuietUnit kind)

word_user : (kind : SpduKind) (alone : Bool) (p : Parameters) (behind : List ℕ) (w : SessionWord) → has_information kind ≡ false → word_of kind alone p behind ≡ Some w → UserOf kind p w
word_user kinds.TypedData alone p behind w h e = absurd cc
word_user kinds.Data alone p behind w h e = absurd cc
word_user kinds.Connect alone p behind w h e = inl (needed_some p.user _ w p.user (λ x o f. some_word _ w f ∙ sym o) e)
word_user kinds.Accept alone p behind w h e = inl (needed_some p.user _ w p.user (λ x o f. some_word _ w f ∙ sym o) e)
word_user kinds.Finish alone p behind w h e = inl (needed_some p.user _ w p.user (λ x o f. some_word _ w f ∙ sym o) e)
word_user kinds.Disconnect alone p behind w h e = inl (needed_some p.user _ w p.user (λ x o f. some_word _ w f ∙ sym o) e)
word_user kinds.Refuse alone p behind w h e = inl (some_word _ w e)
word_user kinds.Abort alone p behind w h e = inl (some_word _ w e)
word_user kinds.AbortAccept alone p behind w h e = inr (some_word _ w e, λ code. nothing)
word_user kinds.GiveTokens true p behind w h e = inr (needed_some p.tokens _ w none (λ x o f. some_word _ w f) e, one_quiet 16 Tokens tokens_quiet)
word_user kinds.GiveTokens false p behind w h e = inr (some_word _ w e, one_quiet 16 Tokens tokens_quiet)
word_user kinds.PleaseTokens true p behind w h e = inl (needed_some p.tokens _ w p.user (λ x o f. some_word _ w f) e)
word_user kinds.PleaseTokens false p behind w h e = inl (some_word _ w e)
word_user kinds.GiveTokensConfirm alone p behind w h e = inr (some_word _ w e, λ code. nothing)
word_user kinds.GiveTokensAck alone p behind w h e = inr (some_word _ w e, λ code. nothing)
word_user kinds.Mark alone p behind w h e = inr (needed_some p.number _ w none (λ x o f. some_word _ w f) e, one_quiet 42 Number number_quiet)
word_user kinds.MarkAck alone p behind w h e = inr (needed_some p.number _ w none (λ x o f. some_word _ w f) e, one_quiet 42 Number number_quiet)
word_user kinds.Resynchronize alone p behind w h e = inl (needed_some p.number _ w p.user (λ x o f. some_word _ w f) (cond_word p.resync _ w e))
word_user kinds.ResynchronizeAck alone p behind w h e = inl (needed_some p.number _ w p.user (λ x o f. some_word _ w f) e)
word_user kinds.ActivityStart alone p behind w h e = inr (needed_some p.activity _ w none (λ x o f. some_word _ w f) e, one_quiet 41 Activity activity_quiet)
word_user kinds.ActivityResume alone p behind w h e =
    inr (needed_some p.activity _ w none (λ x o f. needed_some p.old_mark _ w none (λ y n g. some_word _ w (cond_word (is_some p.old_activity) _ w g)) f) e, two_quiet 33 41 Linking Activity linking_quiet activity_quiet)
word_user kinds.ActivityInterrupt alone p behind w h e = inr (some_word _ w e, one_quiet 50 ActivityReason activityreason_quiet)
word_user kinds.ActivityInterruptAck alone p behind w h e = inr (some_word _ w e, λ code. nothing)
word_user kinds.ActivityDiscard alone p behind w h e = inr (some_word _ w e, one_quiet 50 ActivityReason activityreason_quiet)
word_user kinds.ActivityDiscardAck alone p behind w h e = inr (some_word _ w e, λ code. nothing)
word_user kinds.ActivityEnd alone p behind w h e = inr (needed_some p.number _ w none (λ x o f. some_word _ w f) e, one_quiet 42 Number number_quiet)
word_user kinds.ActivityEndAck alone p behind w h e = inr (needed_some p.number _ w none (λ x o f. some_word _ w f) e, one_quiet 42 Number number_quiet)

information_user : (kind : SpduKind) (alone : Bool) (p : Parameters) (behind : List ℕ) (w : SessionWord) → has_information kind ≡ true → word_of kind alone p behind ≡ Some w → user_of w ≡ Some behind
information_user kinds.TypedData alone p behind w h e = some_word _ w e
information_user kinds.Data alone p behind w h e = some_word _ w e
information_user _ alone p behind w h e = absurd cc

-- ---- units

quiet_value : (at : Option ℕ) (r : Result (List ℕ × List ℕ) UnitFault) (f : List ℕ × List ℕ → Option ℕ) → ((v : List ℕ × List ℕ) → f v ≡ at) → on_value at r f ≡ at
quiet_value at (Err e) f h = refl
quiet_value at (Ok v) f h = h v

among_quiet : (table : List (ℕ × Slot)) → ((code : ℕ) → Quiet (row_of code table)) → (fuel end : ℕ) (at : Option ℕ) (xs : List ℕ) → user_among table fuel end at xs ≡ at
unfolding user_among
among_quiet table quiet fuel end at [] = refl
among_quiet table quiet zero end at (x ∷ xs) = refl
among_quiet table quiet (suc fuel) end at (x ∷ xs) =
    quiet_value at (value_at end xs) _ (λ v. ap (λ (o : Option ℕ). user_among table fuel end o v.1) ((quiet x).1 v.0 (front end v.1 - length v.0) at) ∙ among_quiet table quiet fuel end at v.1)

in_holds : (table : List (ℕ × SpduKind)) (kind : SpduKind) (q : Parameters) (whole pre unit behind : List ℕ) → (u : IsUnit table kind q unit) → whole ≡ pre ++ (unit ++ behind)
    → StandsAt q.user whole (user_in (length whole) (head kind u.value behind))
in_holds table kind q whole pre unit behind u e =
    let first = u.code ∷ u.coded.0 in
    let parts : whole ≡ (pre ++ first) ++ (u.value ++ behind) =
    e ∙ ap (λ (l : List ℕ). pre ++ (l ++ behind)) u.coded.2 ∙ ap (λ (l : List ℕ). pre ++ l) (append_assoc first u.value behind) ∙ sym (append_assoc pre first (u.value ++ behind)) in
    let size = ap length parts in
    among_holds (parameters_of kind) u.parameters none_yet q whole (pre ++ first) u.value behind (front (length whole) behind) None u.puts u.spelled parts
    (omega (arith, size, length-append (pre ++ first) (u.value ++ behind), length-append u.value behind)) tt

choose : (kind : SpduKind) (p : Parameters) (w : SessionWord) (whole : List ℕ) (end : ℕ) (value behind : List ℕ) → UserOf kind p w → StandsAt p.user whole (user_in end (head kind value behind)) → StandsAt (user_of w) whole (user_in end (head kind value behind))
choose kind p w whole end value behind (inl e) h = subst (λ (u : Option (List ℕ)). StandsAt u whole (user_in end (head kind value behind))) (sym e) h
choose kind p w whole end value behind (inr e) h =
    let gone : user_in end (head kind value behind) ≡ nowhere = among_quiet (parameters_of kind) e.1 (length value) (front end behind) None value in
    subst (λ (o : Option ℕ). StandsAt (user_of w) whole o) (sym gone) (subst (λ (u : Option (List ℕ)). StandsAt u whole nowhere) (sym e.0) tt)

last_by : (b : Bool) (table : List (ℕ × SpduKind)) (w : SessionWord) (whole pre xs : List ℕ) → (l : IsLast table w xs) → has_information l.kind ≡ b → whole ≡ pre ++ xs
    → StandsAt (user_of w) whole (cond b (place (front (length whole) l.behind)) (user_in (length whole) (head l.kind l.is.value l.behind)))
last_by true table w whole pre xs l b e =
    let parts : whole ≡ (pre ++ l.unit) ++ (l.behind ++ []) = e ∙ ap (λ (t : List ℕ). pre ++ t) l.parts ∙ sym (append_assoc pre l.unit l.behind) ∙ ap (λ (t : List ℕ). (pre ++ l.unit) ++ t) (sym (append-nil l.behind)) in
    let size = ap length parts in
    subst (λ (u : Option (List ℕ)). StandsAt u whole (place (front (length whole) l.behind))) (sym (information_user l.kind true l.found l.behind w b l.means))
    (value_stands whole (pre ++ l.unit) l.behind [] (front (length whole) l.behind) parts (omega (arith, size, length-append (pre ++ l.unit) (l.behind ++ []), length-append l.behind ([]))))
last_by false table w whole pre xs l b e =
    let parts : whole ≡ pre ++ (l.unit ++ l.behind) = e ∙ ap (λ (t : List ℕ). pre ++ t) l.parts in
    choose l.kind l.found w whole (length whole) l.is.value l.behind (word_user l.kind true l.found l.behind w b l.means) (in_holds table l.kind l.found whole pre l.unit l.behind l.is parts)

lead_quiet : (kind : SpduKind) → leads kind ≡ true → has_information kind ≡ false
lead_quiet kinds.GiveTokens e = refl
lead_quiet kinds.PleaseTokens e = refl
lead_quiet _ e = absurd cc

pub all_hold : (xs : List ℕ) (ws : List SessionWord) → AreUnits ws xs → HoldUser ws xs (user_places xs)
all_hold xs [] a = absurd a
all_hold xs (w ∷ []) l =
    subst (λ (p : UserPlaces). HoldUser (w ∷ []) xs p) (sym (places_of_one xs w l)) (last_by (has_information l.kind) first_units w xs [] xs l refl refl, refl)
all_hold xs (w ∷ v ∷ []) a =
    subst (λ (p : UserPlaces). HoldUser (w ∷ v ∷ []) xs p) (sym (places_of_two xs a.0 a.1 w v a.2 a.3 a.4)) (
      choose a.2.kind a.2.found w xs (length xs) a.2.is.value a.1 (word_user a.2.kind false a.2.found [] w (lead_quiet a.2.kind a.2.leading) a.2.means) (in_holds first_units a.2.kind a.2.found xs [] a.0 a.1 a.2.is a.4),
      last_by (has_information a.3.kind) second_units v xs a.0 a.1 a.3 refl a.4,
    )
all_hold xs (w ∷ v ∷ u ∷ ws) a = absurd a
