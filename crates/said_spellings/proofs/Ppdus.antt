-- Units of the presentation protocol as two ends say them: each has the form of its row, and has so many octets at most.
use Rattle.std.proofs.Common.{◌≡◌, refl, true, false, sym, subst, arith, ℕ, suc, ◌+◌, ◌^◌, ◌≤◌, ◌<◌, pos, List, [], ◌∷◌, ◌++◌, map, length}
use Rattle.std.specs.Prelude.{Bool, not, ◌&&◌, Option, Some, None, option_map, int_lt, nat_le, codes}
use Rattle.std.specs.List.{list_all, flat_map}
use Rattle.std.proofs.lemmas.Bool.{le-leb, lt-ltb}
use Rattle.std.proofs.lemmas.Int.{ints}
use Rattle.std.proofs.lemmas.List.{length-append}
use Rattle.osi_base.specs.Syntax.{name_of}
use Rattle.osi_base.specs.declared.syntax.Syntax.{Syntax}
use Rattle.osi_base.specs.declared.syntax.Syntax.TheVariants.{Ber, Der, Packed}
use Rattle.osi_base.specs.declared.bit_string.BitString as strings
use Rattle.osi_base.specs.declared.layer_words.Proposal.{Proposal}
use Rattle.osi_base.specs.declared.layer_words.AddAnswer.{AddAnswer}
use Rattle.osi_base.specs.declared.layer_words.RestoredItem.{RestoredItem}
use Rattle.osi_base.specs.declared.presentation_word.PdvContent.{PdvContent}
use Rattle.osi_base.specs.declared.presentation_word.PdvContent.TheVariants as forms
use Rattle.osi_base.specs.Octets.{AreOctets}
use Rattle.asn1_types.specs.declared.row.Class.TheVariants.{Universal, Application, Context}
use Rattle.asn1_types.specs.declared.row.Tag as tags
use Rattle.asn1_types.specs.Rows.{along}
use Rattle.asn1_types.specs.Fits.{is_number, is_octet, object_id_fits, integer_fits, octets_fit, bits_fit, values_fit, form_by, nothing_fits, has_form}
use Rattle.asn1_types.specs.Value.{Value, integer, octets, bits, object_id, parts, MaybeValues, no_parts, absent, present}
use Rattle.asn1_types.specs.ValueView.{parts_of, values_of}
use Rattle.asn1_types.specs.Whole.{is_whole}
use Rattle.asn1_types.specs.Writing.{Writer, integer_octets, definite, subidentifiers, base_128, set_parts, values_contents, nothing_written, write_by, writes, written}
use Rattle.asn1_types.specs.FixedRows.{part}
use Rattle.asn1_types.proofs.OctetTests.{octets_pass}
use Rattle.end_config.specs.presentation_pdus.Rows.{ppdu_rows, connect_row, accept_row, alter_row, alter_ack_row, restart_row, data_row}
use Rattle.fixed_tables.specs.Pdvs.{pdv_value}
use Rattle.fixed_tables.specs.Values.{bits_value}
use Rattle.end_config.specs.presentation_pdus.Items.{number_value, list_value, some_list, definition_value, answer_value, restored_value}
use Rattle.end_config.specs.presentation_pdus.Words.{normal_mode, with_mode}
use Rattle.said_words.specs.Calls.{IsName, AreNames, AreNamed}
use Rattle.der_octets.specs.Laws.{LeavesAre, LeavesInParts, LeavesInValues}
use Rattle.transfer_spelling.proofs.Lengths.{integer-length, definite-length}
use Rattle.said_words.specs.Fields.{IsContext, AreContexts, AreFew, IsSyntaxName, IsSyntaxOrNone, IsReason, AreResults, AreVerdicts, AreRestored, IsResult}
use Rattle.said_spellings.proofs.Sizes.{times, times-up, Each, list-few, name-few, set-few}

-- what has the form of a row, and what is written of it, so many rows down the table
abbrev Fit : ℕ → ℕ → Value → Bool
Fit k = along nothing_fits (form_by (written ppdu_rows)) ppdu_rows k

abbrev Out : ℕ → ℕ → Writer
Out k = along nothing_written write_by ppdu_rows k

both : (a b : Bool) → a ≡ true → b ≡ true → (a && b) ≡ true
both true b e f = f
both false b e f = cc

fit-all : {X : Type 0} (f : Value → Bool) (g : X → Value) (P : X → Type 0) → ((x : X) → P x → f (g x) ≡ true) → (xs : List X) → Each P xs → values_fit f (values_of (map g xs)) ≡ true
fit-all f g P each [] h = refl
fit-all f g P each (x ∷ xs) h = both (f (g x)) (values_fit f (values_of (map g xs))) (each x h.0) (fit-all f g P each xs h.1)

any-all : {X : Type 0} (g : X → Value) (P : X → Type 0) → ((x : X) → P x → LeavesAre (g x)) → (xs : List X) → Each P xs → LeavesInValues (values_of (map g xs))
any-all g P each [] h = tt
any-all g P each (x ∷ xs) h = (each x h.0, any-all g P each xs h.1)

-- ---- numbers

between : (low high n : ℕ) → low ≤ n → n ≤ high → high < 2 ^ 63 → integer_fits (pos low) (pos high) (integer (pos n)) ≡ true
between low high n l h few =
    both (is_number (pos n) && not (int_lt (pos n) (pos low))) (not (int_lt (pos high) (pos n)))
    (both (is_number (pos n)) (not (int_lt (pos n) (pos low))) (lt-ltb n 9223372036854775808 (omega arith)) (above n low l)) (below n high h)
  where
    above : (n low : ℕ) → low ≤ n → not (int_lt (pos n) (pos low)) ≡ true
    above n low h = grind (arith, ints)

    below : (n high : ℕ) → n ≤ high → not (int_lt (pos high) (pos n)) ≡ true
    below n high h = grind (arith, ints)

id-fits : (k n : ℕ) → IsContext n → Fit (suc k) 0 (number_value n) ≡ true
id-fits k n h = between 1 32767 n h.0 h.1 (omega arith)

number-few : (tag : tags.Tag) (n : ℕ) → tag.number < 31 → n ≤ 32767 → length (definite false tag (integer_octets (pos n))) ≤ 7
number-few tag n low h =
    let a : length (integer_octets (pos n)) ≤ 2 = integer-length 1 n (omega arith) in
    let b = definite-length false tag (integer_octets (pos n)) low (omega arith) in
    omega arith

-- ---- definitions

pub record Named (p : Proposal) : Type 0 where
  pub id : IsContext p.id
  pub name : IsName p.abstract_name
  pub transfers : AreNames p.transfers

pub record Defined (p : Proposal) : Type 0 where
  pub named : Named p
  pub few : length p.transfers ≤ 8

pub defined : (ps : List Proposal) → AreNamed ps → AreFew ps → Each Defined ps
defined [] n f = tt
defined (p ∷ ps) n f = (record { named = record { id = f.0; name = n.0; transfers = n.1 }; few = f.1 }, defined ps n.2 f.2)

each-named : (ps : List Proposal) → Each Defined ps → Each Named ps
each-named [] h = tt
each-named (p ∷ ps) h = (h.0.named, each-named ps h.1)

each-name : (names : List (List ℕ)) → AreNames names → Each IsName names
each-name [] h = tt
each-name (name ∷ names) h = (h.0, each-name names h.1)

names-fit : (k : ℕ) (names : List (List ℕ)) → AreNames names → Fit (suc (suc k)) 17 (list_value object_id names) ≡ true
names-fit k names h = fit-all (Fit (suc k) 1) object_id IsName (λ x e. e) names (each-name names h)

names-few : (k : ℕ) (names : List (List ℕ)) → AreNames names → length names ≤ 8 → length (Out (suc (suc k)) 17 None (list_value object_id names)) ≤ 1605
names-few k names h few =
    let a = list-few (Out (suc k) 1) object_id IsName 200 (λ x e. name-few (record { class = Universal; number = 6 }) x (omega arith) e) names (each-name names h) in
    let b = times-up 200 (length names) 8 few in
    let c : times 200 8 ≡ 1600 = refl in
    let d = definite-length true (record { class = Universal; number = 16 }) (values_contents (Out (suc k) 1) (values_of (map object_id names))) (omega arith) (omega arith) in
    omega arith

definition-fits : (k : ℕ) (p : Proposal) → Named p → Fit (suc (suc (suc k))) 18 (definition_value p) ≡ true
definition-fits k p h =
    both (Fit (suc (suc k)) 0 (number_value p.id)) _ (id-fits (suc k) p.id h.id)
    (both (object_id_fits (object_id p.abstract_name)) _ h.name (both (Fit (suc (suc k)) 17 (list_value object_id p.transfers)) true (names-fit k p.transfers h.transfers) refl))

definition-few : (k : ℕ) (p : Proposal) → Defined p → length (Out (suc (suc (suc k))) 18 None (definition_value p)) ≤ 2048
definition-few k p h =
    let x : List ℕ = definite false (record { class = Universal; number = 2 }) (integer_octets (pos p.id)) in
    let y : List ℕ = definite false (record { class = Universal; number = 6 }) (flat_map base_128 (subidentifiers p.abstract_name)) in
    let z : List ℕ = Out (suc (suc k)) 17 None (list_value object_id p.transfers) in
    let id : IsContext p.id = h.named.id in
    let a : length x ≤ 7 = number-few (record { class = Universal; number = 2 }) p.id (omega arith) id.1 in
    let b : length y ≤ 200 = name-few (record { class = Universal; number = 6 }) p.abstract_name (omega arith) h.named.name in
    let c : length z ≤ 1605 = names-few k p.transfers h.named.transfers h.few in
    let d = length-append z [] in
    let e = length-append y (z ++ []) in
    let f = length-append x (y ++ (z ++ [])) in
    let g = definite-length true (record { class = Universal; number = 16 }) (x ++ (y ++ (z ++ []))) (omega arith) (omega arith) in
    omega arith

any-names : (names : List (List ℕ)) → AreNames names → LeavesInValues (values_of (map object_id names))
any-names names h = any-all object_id IsName (λ x e. tt) names (each-name names h)

definition-any : (p : Proposal) → Named p → LeavesAre (definition_value p)
definition-any p h = (tt, (tt, (any-names p.transfers h.transfers, tt)))

definitions-fit : (k : ℕ) (ps : List Proposal) → Each Named ps → Fit (suc (suc (suc (suc k)))) 19 (list_value definition_value ps) ≡ true
definitions-fit k ps h = fit-all (Fit (suc (suc (suc k))) 18) definition_value Named (definition-fits k) ps h

-- as a field with a tag of its own
definitions-few : (k : ℕ) (tag : tags.Tag) (ps : List Proposal) → tag.number < 31 → Each Defined ps → length ps ≤ 64 → length (Out (suc (suc (suc (suc k)))) 19 (Some tag) (list_value definition_value ps)) ≤ 131077
definitions-few k tag ps low h few =
    let a = list-few (Out (suc (suc (suc k))) 18) definition_value Defined 2048 (definition-few k) ps h in
    let b = times-up 2048 (length ps) 64 few in
    let c : times 2048 64 ≡ 131072 = refl in
    let d = definite-length true tag (values_contents (Out (suc (suc (suc k))) 18) (values_of (map definition_value ps))) low (omega arith) in
    omega arith

definitions-any : (ps : List Proposal) → Each Named ps → LeavesAre (list_value definition_value ps)
definitions-any ps h = any-all definition_value Named definition-any ps h

-- ---- what is known of a unit

pub record Stands (row : ℕ) (v : Value) (most : ℕ) : Type 0 where
  pub fitting : has_form ppdu_rows row v ≡ true
  pub few : length (written ppdu_rows row v) ≤ most
  pub leaves : LeavesAre v

abbrev context : ℕ → tags.Tag
context n = record { class = Context; number = n }

-- ---- AC

each-context : (ks : List ℕ) → AreContexts ks → Each IsContext ks
each-context [] h = tt
each-context (k ∷ ks) h = (h.0, each-context ks h.1)

deletions-fit : (k : ℕ) (ks : List ℕ) → AreContexts ks → Fit (suc (suc k)) 27 (list_value number_value ks) ≡ true
deletions-fit k ks h = fit-all (Fit (suc k) 0) number_value IsContext (id-fits k) ks (each-context ks h)

deletions-few : (k : ℕ) (tag : tags.Tag) (ks : List ℕ) → tag.number < 31 → AreContexts ks → length ks ≤ 64 → length (Out (suc (suc k)) 27 (Some tag) (list_value number_value ks)) ≤ 453
deletions-few k tag ks low h few =
    let a = list-few (Out (suc k) 0) number_value IsContext 7 (λ x e. number-few (record { class = Universal; number = 2 }) x (omega arith) e.1) ks (each-context ks h) in
    let b = times-up 7 (length ks) 64 few in
    let c : times 7 64 ≡ 448 = refl in
    let d = definite-length true tag (values_contents (Out (suc k) 0) (values_of (map number_value ks))) low (omega arith) in
    omega arith

any-numbers : (ks : List ℕ) → LeavesInValues (values_of (map number_value ks))
any-numbers [] = tt
any-numbers (k ∷ ks) = (tt, any-numbers ks)

two-parts : (x y : List ℕ) (m n : ℕ) → length x ≤ m → length y ≤ n → length (x ++ (y ++ [])) ≤ m + n
two-parts x y m n a b = let c = length-append y [] in let d = length-append x (y ++ []) in omega arith

one-part : (x : List ℕ) (m : ℕ) → length x ≤ m → length (x ++ []) ≤ m
one-part x m a = let c = length-append x [] in omega arith

around : (tag : tags.Tag) (c : List ℕ) (m : ℕ) → tag.number < 31 → m < 2 ^ 24 → length c ≤ m → length (definite true tag c) ≤ 5 + m
around tag c m low few h = let d = definite-length true tag c low (omega arith) in omega arith

module _ (k : ℕ) where
  alter-fits : (add : List Proposal) (delete : List ℕ) → Each Named add → AreContexts delete → Fit (suc (suc (suc (suc (suc (suc (suc k))))))) alter_row (parts (parts_of (some_list definition_value add ∷ some_list number_value delete ∷ []))) ≡ true
  alter-fits [] [] a d = refl
  alter-fits [] (j ∷ js) a d = both (Fit (suc (suc (suc (suc k)))) 27 (list_value number_value (j ∷ js))) true (deletions-fit (suc (suc k)) (j ∷ js) d) refl
  alter-fits (p ∷ ps) [] a d = both (Fit (suc (suc (suc (suc k)))) 19 (list_value definition_value (p ∷ ps))) true (definitions-fit k (p ∷ ps) a) refl
  alter-fits (p ∷ ps) (j ∷ js) a d =
      both (Fit (suc (suc (suc (suc k)))) 19 (list_value definition_value (p ∷ ps))) _ (definitions-fit k (p ∷ ps) a)
      (both (Fit (suc (suc (suc (suc k)))) 27 (list_value number_value (j ∷ js))) true (deletions-fit (suc (suc k)) (j ∷ js) d) refl)

  alter-few : (add : List Proposal) (delete : List ℕ) → Each Defined add → AreContexts delete → length add ≤ 64 → length delete ≤ 64
      → length (Out (suc (suc (suc (suc (suc (suc (suc k))))))) alter_row None (parts (parts_of (some_list definition_value add ∷ some_list number_value delete ∷ [])))) ≤ 131600
  alter-few [] [] a d m n = let x = around (context 0) [] 0 (omega arith) (omega arith) (omega arith) in omega arith
  alter-few [] (j ∷ js) a d m n =
      let x = deletions-few (suc (suc k)) (context 1) (j ∷ js) (omega arith) d n in
      let y = around (context 0) ((Out (suc (suc (suc (suc k)))) 27 (Some (context 1)) (list_value number_value (j ∷ js))) ++ []) 453 (omega arith) (omega arith) (one-part (Out (suc (suc (suc (suc k)))) 27 (Some (context 1)) (list_value number_value (j ∷ js))) 453 x) in
      omega arith
  alter-few (p ∷ ps) [] a d m n =
      let x = definitions-few k (context 0) (p ∷ ps) (omega arith) a m in
      let y = around (context 0) ((Out (suc (suc (suc (suc k)))) 19 (Some (context 0)) (list_value definition_value (p ∷ ps))) ++ []) 131077 (omega arith) (omega arith) (one-part (Out (suc (suc (suc (suc k)))) 19 (Some (context 0)) (list_value definition_value (p ∷ ps))) 131077 x) in
      omega arith
  alter-few (p ∷ ps) (j ∷ js) a d m n =
      let x = definitions-few k (context 0) (p ∷ ps) (omega arith) a m in
      let y = deletions-few (suc (suc k)) (context 1) (j ∷ js) (omega arith) d n in
      let z = two-parts (Out (suc (suc (suc (suc k)))) 19 (Some (context 0)) (list_value definition_value (p ∷ ps))) (Out (suc (suc (suc (suc k)))) 27 (Some (context 1)) (list_value number_value (j ∷ js))) 131077 453 x y in
      let w = around (context 0) (Out (suc (suc (suc (suc k)))) 19 (Some (context 0)) (list_value definition_value (p ∷ ps)) ++ (Out (suc (suc (suc (suc k)))) 27 (Some (context 1)) (list_value number_value (j ∷ js)) ++ [])) 131530 (omega arith) (omega arith) z in
      omega arith

alter-any : (add : List Proposal) (delete : List ℕ) → Each Named add → LeavesAre (parts (parts_of (some_list definition_value add ∷ some_list number_value delete ∷ [])))
alter-any [] [] a = tt
alter-any [] (j ∷ js) a = (any-numbers (j ∷ js), tt)
alter-any (p ∷ ps) [] a = (definitions-any (p ∷ ps) a, tt)
alter-any (p ∷ ps) (j ∷ js) a = (definitions-any (p ∷ ps) a, (any-numbers (j ∷ js), tt))

pub alter-stands : (add : List Proposal) (delete : List ℕ) → Each Defined add → AreContexts delete → length add ≤ 64 → length delete ≤ 64
    → Stands alter_row (parts (parts_of (some_list definition_value add ∷ some_list number_value delete ∷ []))) 131600
unfolding has_form written writes
alter-stands add delete a d m n = record { fitting = alter-fits 57 add delete (each-named add a) d; few = alter-few 57 add delete a d m n; leaves = alter-any add delete (each-named add a) }

-- ---- ACA

pub answering : (answers : List AddAnswer) → AreResults answers → Each IsResult answers
answering [] h = tt
answering (a ∷ answers) h = (h.0, answering answers h.1)

pub syntax-name : (syntax : Syntax) → IsName (name_of syntax)
syntax-name Ber = refl
syntax-name Der = refl
syntax-name Packed = refl

pub named-syntax : (name : List ℕ) → IsSyntaxName name → IsName name
named-syntax name h = subst IsName (sym h.1) (syntax-name h.0)

module _ (k : ℕ) where
  answer-fits : (result : ℕ) (transfer : Option (List ℕ)) (reason : Option ℕ) → result ≤ 2 → IsSyntaxOrNone transfer → IsReason reason
      → Fit (suc (suc (suc k))) 23 (parts (parts_of (Some (number_value result) ∷ option_map object_id transfer ∷ option_map number_value reason ∷ []))) ≡ true
  answer-fits result None None r t w = both (integer_fits (pos 0) (pos 2) (number_value result)) true (between 0 2 result (omega arith) r (omega arith)) refl
  answer-fits result None (Some reason) r t w =
      both (integer_fits (pos 0) (pos 2) (number_value result)) _ (between 0 2 result (omega arith) r (omega arith))
      (both (integer_fits (pos 0) (pos 3) (number_value reason)) true (between 0 3 reason (omega arith) w (omega arith)) refl)
  answer-fits result (Some name) None r t w =
      both (integer_fits (pos 0) (pos 2) (number_value result)) _ (between 0 2 result (omega arith) r (omega arith))
      (both (object_id_fits (object_id name)) true (named-syntax name t) refl)
  answer-fits result (Some name) (Some reason) r t w =
      both (integer_fits (pos 0) (pos 2) (number_value result)) _ (between 0 2 result (omega arith) r (omega arith))
      (both (object_id_fits (object_id name)) _ (named-syntax name t) (both (integer_fits (pos 0) (pos 3) (number_value reason)) true (between 0 3 reason (omega arith) w (omega arith)) refl))

  answer-few : (result : ℕ) (transfer : Option (List ℕ)) (reason : Option ℕ) → result ≤ 2 → IsSyntaxOrNone transfer → IsReason reason
      → length (Out (suc (suc (suc k))) 23 None (parts (parts_of (Some (number_value result) ∷ option_map object_id transfer ∷ option_map number_value reason ∷ [])))) ≤ 256
  answer-few result None None r t w =
      let x : List ℕ = definite false (context 0) (integer_octets (pos result)) in
      let a : length x ≤ 7 = number-few (context 0) result (omega arith) (omega arith) in
      let b = around (record { class = Universal; number = 16 }) (x ++ []) 7 (omega arith) (omega arith) (one-part x 7 a) in
      omega arith
  answer-few result None (Some reason) r t w =
      let x : List ℕ = definite false (context 0) (integer_octets (pos result)) in
      let z : List ℕ = definite false (context 2) (integer_octets (pos reason)) in
      let few : reason ≤ 3 = w in
      let a : length x ≤ 7 = number-few (context 0) result (omega arith) (omega arith) in
      let c : length z ≤ 7 = number-few (context 2) reason (omega arith) (omega arith) in
      let b = around (record { class = Universal; number = 16 }) (x ++ (z ++ [])) 14 (omega arith) (omega arith) (two-parts x z 7 7 a c) in
      omega arith
  answer-few result (Some name) None r t w =
      let x : List ℕ = definite false (context 0) (integer_octets (pos result)) in
      let y : List ℕ = definite false (context 1) (flat_map base_128 (subidentifiers name)) in
      let a : length x ≤ 7 = number-few (context 0) result (omega arith) (omega arith) in
      let c : length y ≤ 200 = name-few (context 1) name (omega arith) (named-syntax name t) in
      let b = around (record { class = Universal; number = 16 }) (x ++ (y ++ [])) 207 (omega arith) (omega arith) (two-parts x y 7 200 a c) in
      omega arith
  answer-few result (Some name) (Some reason) r t w =
      let x : List ℕ = definite false (context 0) (integer_octets (pos result)) in
      let y : List ℕ = definite false (context 1) (flat_map base_128 (subidentifiers name)) in
      let z : List ℕ = definite false (context 2) (integer_octets (pos reason)) in
      let few : reason ≤ 3 = w in
      let a : length x ≤ 7 = number-few (context 0) result (omega arith) (omega arith) in
      let c : length y ≤ 200 = name-few (context 1) name (omega arith) (named-syntax name t) in
      let d : length z ≤ 7 = number-few (context 2) reason (omega arith) (omega arith) in
      let e = two-parts y z 200 7 c d in
      let f = length-append x (y ++ (z ++ [])) in
      let b = around (record { class = Universal; number = 16 }) (x ++ (y ++ (z ++ []))) 214 (omega arith) (omega arith) (omega arith) in
      omega arith

answer-any : (result : ℕ) (transfer : Option (List ℕ)) (reason : Option ℕ) → LeavesAre (parts (parts_of (Some (number_value result) ∷ option_map object_id transfer ∷ option_map number_value reason ∷ [])))
answer-any result None None = (tt, tt)
answer-any result None (Some reason) = (tt, (tt, tt))
answer-any result (Some name) None = (tt, (tt, tt))
answer-any result (Some name) (Some reason) = (tt, (tt, (tt, tt)))

results-fit : (k : ℕ) (xs : List AddAnswer) → Each IsResult xs → Fit (suc (suc (suc (suc k)))) 24 (list_value answer_value xs) ≡ true
results-fit k xs h = fit-all (Fit (suc (suc (suc k))) 23) answer_value IsResult (λ a e. answer-fits k a.result a.transfer a.reason e.result e.transfer e.reason) xs h

results-few : (k : ℕ) (tag : tags.Tag) (xs : List AddAnswer) → tag.number < 31 → Each IsResult xs → length xs ≤ 64 → length (Out (suc (suc (suc (suc k)))) 24 (Some tag) (list_value answer_value xs)) ≤ 16389
results-few k tag xs low h few =
    let a = list-few (Out (suc (suc (suc k))) 23) answer_value IsResult 256 (λ a e. answer-few k a.result a.transfer a.reason e.result e.transfer e.reason) xs h in
    let b = times-up 256 (length xs) 64 few in
    let c : times 256 64 ≡ 16384 = refl in
    let d = definite-length true tag (values_contents (Out (suc (suc (suc k))) 23) (values_of (map answer_value xs))) low (omega arith) in
    omega arith

results-any : (xs : List AddAnswer) → Each IsResult xs → LeavesInValues (values_of (map answer_value xs))
results-any xs h = any-all answer_value IsResult (λ a e. answer-any a.result a.transfer a.reason) xs h

abbrev Verdict : ℕ → Type 0
Verdict n = n ≤ 1

each-verdict : (xs : List ℕ) → AreVerdicts xs → Each Verdict xs
each-verdict [] h = tt
each-verdict (x ∷ xs) h = (h.0, each-verdict xs h.1)

verdicts-fit : (k : ℕ) (xs : List ℕ) → AreVerdicts xs → Fit (suc (suc k)) 28 (list_value number_value xs) ≡ true
verdicts-fit k xs h = fit-all (Fit (suc k) 8) number_value Verdict (λ n e. between 0 1 n (omega arith) e (omega arith)) xs (each-verdict xs h)

verdicts-few : (k : ℕ) (tag : tags.Tag) (xs : List ℕ) → tag.number < 31 → AreVerdicts xs → length xs ≤ 64 → length (Out (suc (suc k)) 28 (Some tag) (list_value number_value xs)) ≤ 453
verdicts-few k tag xs low h few =
    let a = list-few (Out (suc k) 8) number_value Verdict 7 (λ x e. number-few (record { class = Universal; number = 2 }) x (omega arith) (omega (arith, e))) xs (each-verdict xs h) in
    let b = times-up 7 (length xs) 64 few in
    let c : times 7 64 ≡ 448 = refl in
    let d = definite-length true tag (values_contents (Out (suc k) 8) (values_of (map number_value xs))) low (omega arith) in
    omega arith

module _ (k : ℕ) where
  ack-fits : (added : List AddAnswer) (deleted : List ℕ) → Each IsResult added → AreVerdicts deleted → Fit (suc (suc (suc (suc (suc (suc (suc k))))))) alter_ack_row (parts (parts_of (some_list answer_value added ∷ some_list number_value deleted ∷ []))) ≡ true
  ack-fits [] [] a d = refl
  ack-fits [] (j ∷ js) a d = both (Fit (suc (suc (suc (suc k)))) 28 (list_value number_value (j ∷ js))) true (verdicts-fit (suc (suc k)) (j ∷ js) d) refl
  ack-fits (p ∷ ps) [] a d = both (Fit (suc (suc (suc (suc k)))) 24 (list_value answer_value (p ∷ ps))) true (results-fit k (p ∷ ps) a) refl
  ack-fits (p ∷ ps) (j ∷ js) a d =
      both (Fit (suc (suc (suc (suc k)))) 24 (list_value answer_value (p ∷ ps))) _ (results-fit k (p ∷ ps) a)
      (both (Fit (suc (suc (suc (suc k)))) 28 (list_value number_value (j ∷ js))) true (verdicts-fit (suc (suc k)) (j ∷ js) d) refl)

  ack-few : (added : List AddAnswer) (deleted : List ℕ) → Each IsResult added → AreVerdicts deleted → length added ≤ 64 → length deleted ≤ 64
      → length (Out (suc (suc (suc (suc (suc (suc (suc k))))))) alter_ack_row None (parts (parts_of (some_list answer_value added ∷ some_list number_value deleted ∷ [])))) ≤ 131600
  ack-few [] [] a d m n = let x = around (context 1) [] 0 (omega arith) (omega arith) (omega arith) in omega arith
  ack-few [] (j ∷ js) a d m n =
      let x = verdicts-few (suc (suc k)) (context 1) (j ∷ js) (omega arith) d n in
      let y = around (context 1) ((Out (suc (suc (suc (suc k)))) 28 (Some (context 1)) (list_value number_value (j ∷ js))) ++ []) 453 (omega arith) (omega arith) (one-part (Out (suc (suc (suc (suc k)))) 28 (Some (context 1)) (list_value number_value (j ∷ js))) 453 x) in
      omega arith
  ack-few (p ∷ ps) [] a d m n =
      let x = results-few k (context 0) (p ∷ ps) (omega arith) a m in
      let y = around (context 1) ((Out (suc (suc (suc (suc k)))) 24 (Some (context 0)) (list_value answer_value (p ∷ ps))) ++ []) 16389 (omega arith) (omega arith) (one-part (Out (suc (suc (suc (suc k)))) 24 (Some (context 0)) (list_value answer_value (p ∷ ps))) 16389 x) in
      omega arith
  ack-few (p ∷ ps) (j ∷ js) a d m n =
      let x = results-few k (context 0) (p ∷ ps) (omega arith) a m in
      let y = verdicts-few (suc (suc k)) (context 1) (j ∷ js) (omega arith) d n in
      let z = two-parts (Out (suc (suc (suc (suc k)))) 24 (Some (context 0)) (list_value answer_value (p ∷ ps))) (Out (suc (suc (suc (suc k)))) 28 (Some (context 1)) (list_value number_value (j ∷ js))) 16389 453 x y in
      let w = around (context 1) (Out (suc (suc (suc (suc k)))) 24 (Some (context 0)) (list_value answer_value (p ∷ ps)) ++ (Out (suc (suc (suc (suc k)))) 28 (Some (context 1)) (list_value number_value (j ∷ js)) ++ [])) 16842 (omega arith) (omega arith) z in
      omega arith

ack-any : (added : List AddAnswer) (deleted : List ℕ) → Each IsResult added → LeavesAre (parts (parts_of (some_list answer_value added ∷ some_list number_value deleted ∷ [])))
ack-any [] [] a = tt
ack-any [] (j ∷ js) a = (any-numbers (j ∷ js), tt)
ack-any (p ∷ ps) [] a = (results-any (p ∷ ps) a, tt)
ack-any (p ∷ ps) (j ∷ js) a = (results-any (p ∷ ps) a, (any-numbers (j ∷ js), tt))

pub ack-stands : (added : List AddAnswer) (deleted : List ℕ) → Each IsResult added → AreVerdicts deleted → length added ≤ 64 → length deleted ≤ 64
    → Stands alter_ack_row (parts (parts_of (some_list answer_value added ∷ some_list number_value deleted ∷ []))) 131600
unfolding has_form written writes
ack-stands added deleted a d m n = record { fitting = ack-fits 57 added deleted a d; few = ack-few 57 added deleted a d m n; leaves = ack-any added deleted a }

-- ---- RS and RSA

pub record Restoring (r : RestoredItem) : Type 0 where
  pub id : IsContext r.id
  pub transfer : IsSyntaxName r.transfer

pub restoring : (items : List RestoredItem) → AreRestored items → Each Restoring items
restoring [] h = tt
restoring (r ∷ items) h = (record { id = h.0; transfer = h.1 }, restoring items h.2)

restored-fits : (k : ℕ) (r : RestoredItem) → Restoring r → Fit (suc (suc k)) 25 (restored_value r) ≡ true
restored-fits k r h = both (Fit (suc k) 0 (number_value r.id)) _ (id-fits k r.id h.id) (both (object_id_fits (object_id r.transfer)) true (named-syntax r.transfer h.transfer) refl)

restored-few : (k : ℕ) (r : RestoredItem) → Restoring r → length (Out (suc (suc k)) 25 None (restored_value r)) ≤ 256
restored-few k r h =
    let x : List ℕ = definite false (record { class = Universal; number = 2 }) (integer_octets (pos r.id)) in
    let y : List ℕ = definite false (record { class = Universal; number = 6 }) (flat_map base_128 (subidentifiers r.transfer)) in
    let id : IsContext r.id = h.id in
    let a : length x ≤ 7 = number-few (record { class = Universal; number = 2 }) r.id (omega arith) id.1 in
    let b : length y ≤ 200 = name-few (record { class = Universal; number = 6 }) r.transfer (omega arith) (named-syntax r.transfer h.transfer) in
    let c = around (record { class = Universal; number = 16 }) (x ++ (y ++ [])) 207 (omega arith) (omega arith) (two-parts x y 7 200 a b) in
    omega arith

pub restart-stands : (items : List RestoredItem) → Each Restoring items → length items ≤ 64 → Stands restart_row (parts (parts_of (Some (list_value restored_value items) ∷ []))) 16500
unfolding has_form written writes
restart-stands items h few =
    record {
      fitting = both (Fit 62 26 (list_value restored_value items)) true (fit-all (Fit 61 25) restored_value Restoring (restored-fits 59) items h) refl;
      few =
          let a = list-few (Out 61 25) restored_value Restoring 256 (restored-few 59) items h in
          let b = times-up 256 (length items) 64 few in
          let c : times 256 64 ≡ 16384 = refl in
          let d = around (context 0) (values_contents (Out 61 25) (values_of (map restored_value items))) 16384 (omega arith) (omega arith) (omega arith) in
          let e = around (record { class = Universal; number = 16 }) ((definite true (context 0) (values_contents (Out 61 25) (values_of (map restored_value items)))) ++ []) 16389 (omega arith) (omega arith) (one-part (definite true (context 0) (values_contents (Out 61 25) (values_of (map restored_value items)))) 16389 d) in
          omega arith;
      leaves = (any-all restored_value Restoring (λ r e. (tt, (tt, tt))) items h, tt);
    }

-- ---- user data of one value

-- a value of a whole in the basic encoding, or octets in the packed syntax
abbrev pub IsContent : PdvContent → Type 0
IsContent (forms.SingleAsn1Type os) = (is_whole os ≡ true) × AreOctets os
IsContent (forms.OctetAligned os) = AreOctets os
IsContent (forms.Arbitrary string) = ⊥

abbrev pub content_length : PdvContent → ℕ
content_length (forms.SingleAsn1Type os) = length os
content_length (forms.OctetAligned os) = length os
content_length (forms.Arbitrary string) = 0

module _ (k : ℕ) where
  pdv-fits : (id : ℕ) (content : PdvContent) → IsContext id → IsContent content → content_length content ≤ 300000 → Fit (suc (suc (suc (suc (suc k))))) 14 (pdv_value (record { transfer = None; id = id; content = content })) ≡ true
  pdv-fits id (forms.SingleAsn1Type os) i c few = both (Fit (suc (suc (suc (suc k)))) 0 (number_value id)) _ (id-fits (suc (suc (suc k))) id i) (both (is_whole os) true c.0 refl)
  pdv-fits id (forms.OctetAligned os) i c few =
      both (Fit (suc (suc (suc (suc k)))) 0 (number_value id)) _ (id-fits (suc (suc (suc k))) id i)
      (both (list_all is_octet os && nat_le (length os) 4294967295) true (both (list_all is_octet os) (nat_le (length os) 4294967295) (octets_pass os c) (le-leb (length os) 4294967295 (omega arith))) refl)
  pdv-fits id (forms.Arbitrary string) i c few = absurd c

  pdv-around : (x y : List ℕ) (m : ℕ) → m ≤ 300000 → length x ≤ 7 → length y ≤ 5 + m → length (definite true (record { class = Universal; number = 16 }) (x ++ (y ++ []))) ≤ 17 + m
  pdv-around x y m few a b = let c = around (record { class = Universal; number = 16 }) (x ++ (y ++ [])) (12 + m) (omega arith) (omega arith) (let d = two-parts x y 7 (5 + m) a b in omega arith) in omega arith

  pdv-few : (id : ℕ) (content : PdvContent) → IsContext id → IsContent content → content_length content ≤ 300000
      → length (Out (suc (suc (suc (suc (suc k))))) 14 None (pdv_value (record { transfer = None; id = id; content = content }))) ≤ 17 + content_length content
  pdv-few id (forms.SingleAsn1Type os) i c few =
      let y = around (context 0) os (length os) (omega arith) (omega arith) (omega arith) in
      pdv-around (definite false (record { class = Universal; number = 2 }) (integer_octets (pos id))) (definite true (context 0) os) (length os) few (number-few (record { class = Universal; number = 2 }) id (omega arith) i.1) y
  pdv-few id (forms.OctetAligned os) i c few =
      let y = definite-length false (context 1) os (omega arith) (omega arith) in
      pdv-around (definite false (record { class = Universal; number = 2 }) (integer_octets (pos id))) (definite false (context 1) os) (length os) few (number-few (record { class = Universal; number = 2 }) id (omega arith) i.1) y
  pdv-few id (forms.Arbitrary string) i c few = absurd c

  pdv-any : (id : ℕ) (content : PdvContent) → IsContent content → LeavesAre (pdv_value (record { transfer = None; id = id; content = content }))
  pdv-any id (forms.SingleAsn1Type os) c = (tt, ((λ few. c.1), tt))
  pdv-any id (forms.OctetAligned os) c = (tt, (c, tt))
  pdv-any id (forms.Arbitrary string) c = absurd c

  user-fits : (id : ℕ) (content : PdvContent) → IsContext id → IsContent content → content_length content ≤ 300000
      → Fit (suc (suc (suc (suc (suc (suc (suc k))))))) data_row (list_value pdv_value (record { transfer = None; id = id; content = content } ∷ [])) ≡ true
  user-fits id content i c few = both (Fit (suc (suc (suc (suc (suc k))))) 14 (pdv_value (record { transfer = None; id = id; content = content }))) true (pdv-fits id content i c few) refl

  user-few : (id : ℕ) (content : PdvContent) → IsContext id → IsContent content → content_length content ≤ 300000
      → length (Out (suc (suc (suc (suc (suc (suc (suc k))))))) data_row None (list_value pdv_value (record { transfer = None; id = id; content = content } ∷ []))) ≤ 22 + content_length content
  user-few id content i c few =
      let p : List ℕ = Out (suc (suc (suc (suc (suc k))))) 14 None (pdv_value (record { transfer = None; id = id; content = content })) in
      let a : length p ≤ 17 + content_length content = pdv-few id content i c few in
      let b = around (record { class = Application; number = 1 }) (p ++ []) (17 + content_length content) (omega arith) (omega arith) (one-part p (17 + content_length content) a) in
      omega arith

pub data-stands : (id : ℕ) (content : PdvContent) → IsContext id → IsContent content → content_length content ≤ 300000
    → Stands data_row (list_value pdv_value (record { transfer = None; id = id; content = content } ∷ [])) (22 + content_length content)
unfolding has_form written writes
data-stands id content i c few = record { fitting = user-fits 57 id content i c few; few = user-few 57 id content i c few; leaves = (pdv-any 57 id content c, tt) }

-- ---- CPA and CP, each with one value

octets-fit_so : (os : List ℕ) → AreOctets os → length os ≤ 16 → octets_fit 4294967295 (octets os) ≡ true
octets-fit_so os h few = both (list_all is_octet os) (nat_le (length os) 4294967295) (octets_pass os h) (le-leb (length os) 4294967295 (omega arith))

abbrev pub IsShortString : strings.BitString → Type 0
IsShortString string = (bits_fit (bits string.octets string.unused) ≡ true) × (length string.octets ≤ 1) × (string.unused < 256) × AreOctets string.octets

more-parts : (x y : List ℕ) (m n : ℕ) → length x ≤ m → length y ≤ n → length (x ++ y) ≤ m + n
more-parts x y m n a b = let c = length-append x y in omega arith

module _ (k : ℕ) (called : List ℕ) (string : strings.BitString) (id : ℕ) (content : PdvContent) (octs : AreOctets called) (short : length called ≤ 16) (str : IsShortString string) (i : IsContext id) (c : IsContent content) (few : content_length content ≤ 30000) where
  user : Value
  user = list_value pdv_value (record { transfer = None; id = id; content = content } ∷ [])

  abbrev J : ℕ
  J = suc (suc (suc (suc (suc (suc (suc k))))))

  user-fit : Fit J 16 (list_value pdv_value (record { transfer = None; id = id; content = content } ∷ [])) ≡ true
  user-fit = user-fits k id content i c (omega arith)

  -- what stands behind the results or the definitions
  abbrev behind : MaybeValues
  behind = present (bits_value string) (absent (present (list_value pdv_value (record { transfer = None; id = id; content = content } ∷ [])) no_parts))

  behind-octets : List ℕ
  behind-octets = Out J 39 None (bits_value string) ++ (Out J 16 None (list_value pdv_value (record { transfer = None; id = id; content = content } ∷ [])) ++ [])

  behind-few : length (Out J 39 None (bits_value string) ++ (Out J 16 None (list_value pdv_value (record { transfer = None; id = id; content = content } ∷ [])) ++ [])) ≤ 29 + content_length content
  behind-few =
      let a = definite-length false (context 8) (string.unused ∷ string.octets) (omega arith) (omega (arith, str.1)) in
      let b = user-few k id content i c (omega arith) in
      let r = two-parts (Out J 39 None (bits_value string)) (Out J 16 None (list_value pdv_value (record { transfer = None; id = id; content = content } ∷ []))) 7 (22 + content_length content) (omega (arith, a, str.1)) b in
      omega (arith, r)

  behind-any : LeavesInParts behind
  behind-any = ((str.2, str.3), ((pdv-any k id content c, tt), tt))

  accept-fields_fit : (results : List AddAnswer) → Each IsResult results
      → Fit (suc (suc J)) 46 (parts (parts_of (None ∷ Some (octets called) ∷ some_list answer_value results ∷ Some (bits_value string) ∷ None ∷ Some (list_value pdv_value (record { transfer = None; id = id; content = content } ∷ [])) ∷ []))) ≡ true
  accept-fields_fit [] h = both (octets_fit 4294967295 (octets called)) _ (octets-fit_so called octs short) (both (bits_fit (bits_value string)) _ str.0 (both (Fit J 16 (list_value pdv_value (record { transfer = None; id = id; content = content } ∷ []))) true user-fit refl))
  accept-fields_fit (x ∷ xs) h =
      both (octets_fit 4294967295 (octets called)) _ (octets-fit_so called octs short)
      (both (Fit J 37 (list_value answer_value (x ∷ xs))) _ (results-fit (suc (suc k)) (x ∷ xs) h)
      (both (bits_fit (bits_value string)) _ str.0 (both (Fit J 16 (list_value pdv_value (record { transfer = None; id = id; content = content } ∷ []))) true user-fit refl)))

  accept-fields_few : (results : List AddAnswer) → Each IsResult results → length results ≤ 64
      → length (Out (suc (suc J)) 46 None (parts (parts_of (None ∷ Some (octets called) ∷ some_list answer_value results ∷ Some (bits_value string) ∷ None ∷ Some (list_value pdv_value (record { transfer = None; id = id; content = content } ∷ [])) ∷ [])))) ≤ 16450 + content_length content
  accept-fields_few [] h n =
      let o : List ℕ = definite false (context 3) called in
      let a : length o ≤ 21 = let d = definite-length false (context 3) called (omega arith) (omega arith) in omega arith in
      let b = more-parts o (Out J 39 None (bits_value string) ++ (Out J 16 None (list_value pdv_value (record { transfer = None; id = id; content = content } ∷ [])) ++ [])) 21 (29 + content_length content) a behind-few in
      let e = around (context 2) (o ++ (Out J 39 None (bits_value string) ++ (Out J 16 None (list_value pdv_value (record { transfer = None; id = id; content = content } ∷ [])) ++ []))) (50 + content_length content) (omega arith) (omega arith) (omega (arith, b)) in
      omega (arith, e)
  accept-fields_few (x ∷ xs) h n =
      let o : List ℕ = definite false (context 3) called in
      let r : List ℕ = Out (suc (suc (suc (suc (suc (suc k)))))) 24 (Some (context 5)) (list_value answer_value (x ∷ xs)) in
      let a : length o ≤ 21 = let d = definite-length false (context 3) called (omega arith) (omega arith) in omega arith in
      let f : length r ≤ 16389 = results-few (suc (suc k)) (context 5) (x ∷ xs) (omega arith) h n in
      let g = more-parts r (Out J 39 None (bits_value string) ++ (Out J 16 None (list_value pdv_value (record { transfer = None; id = id; content = content } ∷ [])) ++ [])) 16389 (29 + content_length content) f behind-few in
      let b = more-parts o (r ++ (Out J 39 None (bits_value string) ++ (Out J 16 None (list_value pdv_value (record { transfer = None; id = id; content = content } ∷ [])) ++ []))) 21 (16418 + content_length content) a (omega (arith, g)) in
      let e = around (context 2) (o ++ (r ++ (Out J 39 None (bits_value string) ++ (Out J 16 None (list_value pdv_value (record { transfer = None; id = id; content = content } ∷ [])) ++ [])))) (16439 + content_length content) (omega arith) (omega arith) (omega (arith, b)) in
      omega (arith, e)

  accept-any : (results : List AddAnswer) → Each IsResult results
      → LeavesAre (with_mode (parts (parts_of (None ∷ Some (octets called) ∷ some_list answer_value results ∷ Some (bits_value string) ∷ None ∷ Some (list_value pdv_value (record { transfer = None; id = id; content = content } ∷ [])) ∷ []))))
  accept-any [] h = ((tt, tt), ((octs, behind-any), tt))
  accept-any (x ∷ xs) h = ((tt, tt), ((octs, (results-any (x ∷ xs) h, behind-any)), tt))

  mode-few : length (Out (suc (suc J)) 31 None normal_mode) ≤ 12
  mode-few =
      let a : length (definite false (context 0) (integer_octets (pos 1))) ≤ 7 = number-few (context 0) 1 (omega arith) (omega arith) in
      let m : List ℕ = set_parts (Out J) (part (codes "mode") 29 false ∷ []) (present (integer (pos 1)) no_parts) in
      let b : length m ≤ length (definite false (context 0) (integer_octets (pos 1)) ++ []) = set-few (Out J) (part (codes "mode") 29 false ∷ []) (present (integer (pos 1)) no_parts) in
      let c = one-part (definite false (context 0) (integer_octets (pos 1))) 7 a in
      around (context 0) m 7 (omega arith) (omega arith) (omega (arith, b, c))

  definitions-fields_fit : (calling : List ℕ) → AreOctets calling → length calling ≤ 16 → (p : Proposal) (ps : List Proposal) → Each Named (p ∷ ps)
      → Fit (suc (suc J)) 43 (parts (parts_of (None ∷ Some (octets calling) ∷ Some (octets called) ∷ some_list definition_value (p ∷ ps) ∷ Some (bits_value string) ∷ None ∷ Some (list_value pdv_value (record { transfer = None; id = id; content = content } ∷ [])) ∷ []))) ≡ true
  definitions-fields_fit calling co cs p ps h =
      both (octets_fit 4294967295 (octets calling)) _ (octets-fit_so calling co cs)
      (both (octets_fit 4294967295 (octets called)) _ (octets-fit_so called octs short)
      (both (Fit J 36 (list_value definition_value (p ∷ ps))) _ (definitions-fit (suc (suc k)) (p ∷ ps) h)
      (both (bits_fit (bits_value string)) _ str.0 (both (Fit J 16 (list_value pdv_value (record { transfer = None; id = id; content = content } ∷ []))) true user-fit refl))))

  -- CP with three contexts at most
  connect-fields_few : (calling : List ℕ) → length calling ≤ 16 → (p : Proposal) (ps : List Proposal) → Each Defined (p ∷ ps) → length (p ∷ ps) ≤ 3
      → length (Out (suc (suc J)) 43 None (parts (parts_of (None ∷ Some (octets calling) ∷ Some (octets called) ∷ some_list definition_value (p ∷ ps) ∷ Some (bits_value string) ∷ None ∷ Some (list_value pdv_value (record { transfer = None; id = id; content = content } ∷ [])) ∷ [])))) ≤ 6250 + content_length content
  connect-fields_few calling cs p ps h n =
      let q : List ℕ = definite false (context 1) calling in
      let o : List ℕ = definite false (context 2) called in
      let r : List ℕ = Out (suc (suc (suc (suc (suc (suc k)))))) 19 (Some (context 4)) (list_value definition_value (p ∷ ps)) in
      let x : length q ≤ 21 = let d = definite-length false (context 1) calling (omega arith) (omega arith) in omega arith in
      let a : length o ≤ 21 = let d = definite-length false (context 2) called (omega arith) (omega arith) in omega arith in
      let l = list-few (Out (suc (suc (suc (suc (suc k))))) 18) definition_value Defined 2048 (definition-few (suc (suc k))) (p ∷ ps) h in
      let u = times-up 2048 (length (p ∷ ps)) 3 n in
      let t : times 2048 3 ≡ 6144 = refl in
      let f : length r ≤ 6149 = let d = definite-length true (context 4) (values_contents (Out (suc (suc (suc (suc (suc k))))) 18) (values_of (map definition_value (p ∷ ps)))) (omega arith) (omega arith) in omega arith in
      let g = more-parts r (Out J 39 None (bits_value string) ++ (Out J 16 None (list_value pdv_value (record { transfer = None; id = id; content = content } ∷ [])) ++ [])) 6149 (29 + content_length content) f behind-few in
      let b = more-parts o (r ++ (Out J 39 None (bits_value string) ++ (Out J 16 None (list_value pdv_value (record { transfer = None; id = id; content = content } ∷ [])) ++ []))) 21 (6178 + content_length content) a (omega (arith, g)) in
      let m = more-parts q (o ++ (r ++ (Out J 39 None (bits_value string) ++ (Out J 16 None (list_value pdv_value (record { transfer = None; id = id; content = content } ∷ [])) ++ [])))) 21 (6199 + content_length content) x (omega (arith, b)) in
      let e = around (context 2) (q ++ (o ++ (r ++ (Out J 39 None (bits_value string) ++ (Out J 16 None (list_value pdv_value (record { transfer = None; id = id; content = content } ∷ [])) ++ []))))) (6220 + content_length content) (omega arith) (omega arith) (omega (arith, m)) in
      omega (arith, e)

  connect-any : (calling : List ℕ) → AreOctets calling → (p : Proposal) (ps : List Proposal) → Each Named (p ∷ ps)
      → LeavesAre (with_mode (parts (parts_of (None ∷ Some (octets calling) ∷ Some (octets called) ∷ some_list definition_value (p ∷ ps) ∷ Some (bits_value string) ∷ None ∷ Some (list_value pdv_value (record { transfer = None; id = id; content = content } ∷ [])) ∷ []))))
  connect-any calling co p ps h = ((tt, tt), ((co, (octs, (definitions-any (p ∷ ps) h, behind-any))), tt))

pub accept-stands : (called : List ℕ) (results : List AddAnswer) (string : strings.BitString) (id : ℕ) (content : PdvContent) → AreOctets called → length called ≤ 16 → Each IsResult results → length results ≤ 64
    → IsShortString string → IsContext id → IsContent content → content_length content ≤ 30000
    → Stands accept_row (with_mode (parts (parts_of (None ∷ Some (octets called) ∷ some_list answer_value results ∷ Some (bits_value string) ∷ None ∷ Some (list_value pdv_value (record { transfer = None; id = id; content = content } ∷ [])) ∷ [])))) 50000
unfolding has_form written writes
accept-stands called results string id content octs short h n str i c few =
    let fields : Value = parts (parts_of (None ∷ Some (octets called) ∷ some_list answer_value results ∷ Some (bits_value string) ∷ None ∷ Some (list_value pdv_value (record { transfer = None; id = id; content = content } ∷ [])) ∷ [])) in
    record {
      fitting = both (Fit 63 31 normal_mode) _ refl (both (Fit 63 46 fields) true (accept-fields_fit 54 called string id content octs short str i c few results h) refl);
      few =
          let x : List ℕ = Out 63 31 None normal_mode in
          let y : List ℕ = Out 63 46 None fields in
          let a : length x ≤ 12 = mode-few 54 called string id content octs short str i c few in
          let b : length y ≤ 16450 + content_length content = accept-fields_few 54 called string id content octs short str i c few results h n in
          let m : List ℕ = set_parts (Out 63) (part (codes "mode") 31 false ∷ part (codes "fields") 46 false ∷ []) (present normal_mode (present fields no_parts)) in
          let d : length m ≤ length (x ++ (y ++ [])) = set-few (Out 63) (part (codes "mode") 31 false ∷ part (codes "fields") 46 false ∷ []) (present normal_mode (present fields no_parts)) in
          let e = two-parts x y 12 (16450 + content_length content) a b in
          let f = around (record { class = Universal; number = 17 }) m (16462 + content_length content) (omega arith) (omega arith) (omega (arith, d, e)) in
          omega (arith, f);
      leaves = accept-any 54 called string id content octs short str i c few results h;
    }

-- of CP the length is that of a configuration
pub record Fitting (row : ℕ) (v : Value) : Type 0 where
  pub fitting : has_form ppdu_rows row v ≡ true
  pub leaves : LeavesAre v

pub connect-fitting : (calling called : List ℕ) (p : Proposal) (ps : List Proposal) (string : strings.BitString) (id : ℕ) (content : PdvContent) → AreOctets calling → length calling ≤ 16 → AreOctets called → length called ≤ 16
    → Each Named (p ∷ ps) → IsShortString string → IsContext id → IsContent content → content_length content ≤ 30000
    → Fitting connect_row (with_mode (parts (parts_of (None ∷ Some (octets calling) ∷ Some (octets called) ∷ some_list definition_value (p ∷ ps) ∷ Some (bits_value string) ∷ None ∷ Some (list_value pdv_value (record { transfer = None; id = id; content = content } ∷ [])) ∷ []))))
unfolding has_form
connect-fitting calling called p ps string id content co cs octs short h str i c few =
    let fields : Value = parts (parts_of (None ∷ Some (octets calling) ∷ Some (octets called) ∷ some_list definition_value (p ∷ ps) ∷ Some (bits_value string) ∷ None ∷ Some (list_value pdv_value (record { transfer = None; id = id; content = content } ∷ [])) ∷ [])) in
    record {
      fitting = both (Fit 63 31 normal_mode) _ refl (both (Fit 63 43 fields) true (definitions-fields_fit 54 called string id content octs short str i c few calling co cs p ps h) refl);
      leaves = connect-any 54 called string id content octs short str i c few calling co p ps h;
    }

pub connect-few : (calling called : List ℕ) (p : Proposal) (ps : List Proposal) (string : strings.BitString) (id : ℕ) (content : PdvContent) → length calling ≤ 16 → AreOctets called → length called ≤ 16
    → Each Defined (p ∷ ps) → length (p ∷ ps) ≤ 3 → IsShortString string → IsContext id → IsContent content → content_length content ≤ 30000
    → length (written ppdu_rows connect_row (with_mode (parts (parts_of (None ∷ Some (octets calling) ∷ Some (octets called) ∷ some_list definition_value (p ∷ ps) ∷ Some (bits_value string) ∷ None ∷ Some (list_value pdv_value (record { transfer = None; id = id; content = content } ∷ [])) ∷ []))))) ≤ 6350 + content_length content
unfolding written writes
connect-few calling called p ps string id content cs octs short h n str i c few =
    let fields : Value = parts (parts_of (None ∷ Some (octets calling) ∷ Some (octets called) ∷ some_list definition_value (p ∷ ps) ∷ Some (bits_value string) ∷ None ∷ Some (list_value pdv_value (record { transfer = None; id = id; content = content } ∷ [])) ∷ [])) in
    let x : List ℕ = Out 63 31 None normal_mode in
    let y : List ℕ = Out 63 43 None fields in
    let a : length x ≤ 12 = mode-few 54 called string id content octs short str i c few in
    let b : length y ≤ 6250 + content_length content = connect-fields_few 54 called string id content octs short str i c few calling cs p ps h n in
    let m : List ℕ = set_parts (Out 63) (part (codes "mode") 31 false ∷ part (codes "fields") 43 false ∷ []) (present normal_mode (present fields no_parts)) in
    let d : length m ≤ length (x ++ (y ++ [])) = set-few (Out 63) (part (codes "mode") 31 false ∷ part (codes "fields") 43 false ∷ []) (present normal_mode (present fields no_parts)) in
    let e = two-parts x y 12 (6250 + content_length content) a b in
    let f = around (record { class = Universal; number = 17 }) m (6262 + content_length content) (omega arith) (omega arith) (omega (arith, d, e)) in
    omega (arith, f)
