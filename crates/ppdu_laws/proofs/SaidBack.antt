-- What units that were written are read as says them.
use Rattle.std.proofs.Common.{◌≡◌, ℕ, zero, suc, Bool, true, ◌&&◌, List, [], ◌∷◌, Option, Some, None, refl, sym, ap, ◌∙◌}
use Rattle.std.specs.Prelude.{ℤ, pos, map, slice_get, option_map, is_none}
use Rattle.std.specs.List.{list_all}
use Rattle.std.proofs.lemmas.Bool.{and_parts}
use Rattle.osi_base.specs.declared.bit_string.BitString as strings
use Rattle.osi_base.specs.declared.layer_words.Proposal as proposals
use Rattle.osi_base.specs.declared.layer_words.AddAnswer as answers
use Rattle.osi_base.specs.declared.layer_words.RestoredItem as restored
use Rattle.osi_base.specs.declared.presentation_word.Pdv as pdvs
use Rattle.osi_base.specs.declared.presentation_word.PdvContent as contents
use Rattle.osi_base.specs.declared.presentation_word.PdvContent.TheVariants as content
use Rattle.osi_base.specs.declared.presentation_word.PresentationConnect as connects
use Rattle.osi_base.specs.declared.presentation_word.PresentationAccept as accepts
use Rattle.osi_base.specs.declared.presentation_word.PresentationReject as rejects
use Rattle.osi_base.specs.declared.presentation_word.PresentationWord as units
use Rattle.osi_base.specs.declared.presentation_word.PresentationWord.TheVariants as unit
use Rattle.asn1_types.specs.Value.{Value, integer, octets, object_id, parts}
use Rattle.asn1_types.specs.ValueView.{parts_of, values_of}
use Rattle.asn1_types.specs.Fits.{has_32_bits}
use Rattle.fixed_tables.specs.Values.{nth_part, natural_in, small_or, octet_of, maybe_octets, maybe_arcs, maybe_bits, values_list, items_in, bits_value}
use Rattle.fixed_tables.specs.Pdvs.{content_value, content_in, pdv_value, pdv_in}
use Rattle.presentation_pdus.specs.Items.{number_value, number_in, octet_in, name_in, list_value, some_list, definition_value, definition_in, answer_value, answer_in, restored_value, restored_in}
use Rattle.presentation_pdus.specs.Words.{integer_in, contexts_in, unit_in, connect_in, accept_in, reject_in}
use Rattle.ppdu_laws.specs.Written.{is_small, all_of, definition_sized, answer_sized, restored_sized, pdv_sized, is_written_whole}
use Rattle.ppdu_laws.proofs.BackValues.{connect_read, accept_read, reject_read, read_value}

-- ---- numbers

short_is : (n : ℕ) → has_32_bits n ≡ true → natural_in (pos n) ≡ n
short_is n h = rw h refl

small_is : (n : ℕ) → is_small n ≡ true → octet_of (pos n) ≡ n
small_is n h = rw h refl

-- ---- a part of a list of them

abbrev joined : Option (Option Value) → Option Value
joined None = None
joined (Some o) = o

nth_of : (os : List (Option Value)) (n : ℕ) → nth_part (parts_of os) n ≡ joined (slice_get os n)
nth_of [] n = refl
nth_of (None ∷ os) zero = refl
nth_of (None ∷ os) (suc n) = nth_of os n
nth_of (Some v ∷ os) zero = refl
nth_of (Some v ∷ os) (suc n) = nth_of os n

bits_back : (o : Option strings.BitString) → maybe_bits (option_map bits_value o) ≡ o
bits_back None = refl
bits_back (Some string) = refl

octets_back : (o : Option (List ℕ)) → maybe_octets (option_map octets o) ≡ o
octets_back None = refl
octets_back (Some os) = refl

arcs_back : (o : Option (List ℕ)) → maybe_arcs (option_map object_id o) ≡ o
arcs_back None = refl
arcs_back (Some arcs) = refl

integer_back : (o : Option ℤ) → option_map integer_in (option_map integer o) ≡ o
integer_back None = refl
integer_back (Some z) = refl

small_back : (o : Option ℕ) → all_of is_small o ≡ true → option_map octet_in (option_map number_value o) ≡ o
small_back None h = refl
small_back (Some n) h = ap (λ (x : ℕ). Some x) (small_is n h)

-- ---- lists

map_back : {X : Type 0} (f : X → Value) (g : Value → X) (sized : X → Bool) → ((x : X) → sized x ≡ true → g (f x) ≡ x) → (xs : List X) → list_all sized xs ≡ true → map g (values_list (values_of (map f xs))) ≡ xs
map_back f g sized h [] s = refl
map_back {X} f g sized h (x ∷ xs) s =
    let p = and_parts (sized x) (list_all sized xs) s in
    ap (λ (y : X). y ∷ map g (values_list (values_of (map f xs)))) (h x p.0) ∙ ap (λ (y : List X). x ∷ y) (map_back f g sized h xs p.1)

some_back : {X : Type 0} (f : X → Value) (g : Value → X) (sized : X → Bool) → ((x : X) → sized x ≡ true → g (f x) ≡ x) → (xs : List X) → list_all sized xs ≡ true → map g (items_in (some_list f xs)) ≡ xs
some_back f g sized h [] s = refl
some_back f g sized h (x ∷ xs) s = map_back f g sized h (x ∷ xs) s

abbrev always : {X : Type 0} → X → Bool
always x = true

all_always : {X : Type 0} (xs : List X) → list_all always xs ≡ true
all_always [] = refl
all_always (x ∷ xs) = all_always xs

names_back : (xs : List (List ℕ)) → map name_in (values_list (values_of (map object_id xs))) ≡ xs
names_back xs = map_back object_id name_in always (λ x h. refl) xs (all_always xs)

-- ---- items

definition_back : (p : proposals.Proposal) → definition_sized p ≡ true → definition_in (definition_value p) ≡ p
definition_back p h =
    ap (λ (n : ℕ). let x : proposals.Proposal = record { id = n; abstract_name = p.abstract_name; transfers = map name_in (values_list (values_of (map object_id p.transfers))) } in x) (short_is p.id h)
    ∙ ap (λ (ns : List (List ℕ)). let x : proposals.Proposal = record { id = p.id; abstract_name = p.abstract_name; transfers = ns } in x) (names_back p.transfers)

abbrev answer : ℕ → Option (List ℕ) → Option ℕ → answers.AddAnswer
answer r t w = record { result = r; transfer = t; reason = w }

answer_back : (a : answers.AddAnswer) → answer_sized a ≡ true → answer_in (answer_value a) ≡ a
answer_back a h =
    let p = and_parts (is_small a.result) (all_of is_small a.reason) h in
    let os : List (Option Value) = Some (number_value a.result) ∷ option_map object_id a.transfer ∷ option_map number_value a.reason ∷ [] in
    ap (λ (n : ℕ). answer n (maybe_arcs (nth_part (parts_of os) 1)) (option_map octet_in (nth_part (parts_of os) 2))) (small_is a.result p.0)
    ∙ ap (λ (t : Option (List ℕ)). answer a.result t (option_map octet_in (nth_part (parts_of os) 2))) (ap maybe_arcs (nth_of os 1) ∙ arcs_back a.transfer)
    ∙ ap (λ (w : Option ℕ). answer a.result a.transfer w) (ap (option_map octet_in) (nth_of os 2) ∙ small_back a.reason p.1)

restored_back : (r : restored.RestoredItem) → restored_sized r ≡ true → restored_in (restored_value r) ≡ r
restored_back r h = ap (λ (n : ℕ). let x : restored.RestoredItem = record { id = n; transfer = r.transfer } in x) (short_is r.id h)

content_back : (c : contents.PdvContent) → content_in (Some (content_value c)) ≡ c
content_back (content.SingleAsn1Type os) = refl
content_back (content.OctetAligned os) = refl
content_back (content.Arbitrary string) = refl

abbrev pdv : Option (List ℕ) → ℕ → contents.PdvContent → pdvs.Pdv
pdv t n c = record { transfer = t; id = n; content = c }

pdv_back : (p : pdvs.Pdv) → pdv_sized p ≡ true → pdv_in (pdv_value p) ≡ p
pdv_back p h =
    let os : List (Option Value) = option_map object_id p.transfer ∷ Some (number_value p.id) ∷ Some (content_value p.content) ∷ [] in
    by_name (nth_part (parts_of os) 0) (nth_part (parts_of os) 1) (nth_part (parts_of os) 2) (nth_of os 0) (nth_of os 1) (nth_of os 2)
  where
    by_name : (x y z : Option Value) → x ≡ option_map object_id p.transfer → y ≡ Some (number_value p.id) → z ≡ Some (content_value p.content) → pdv (maybe_arcs x) (small_or (pos 0) y) (content_in z) ≡ p
    by_name x y z a b c =
        ap (λ (t : Option Value). pdv (maybe_arcs t) (small_or (pos 0) y) (content_in z)) a
        ∙ ap (λ (t : Option Value). pdv (maybe_arcs (option_map object_id p.transfer)) (small_or (pos 0) t) (content_in z)) b
        ∙ ap (λ (t : Option Value). pdv (maybe_arcs (option_map object_id p.transfer)) (natural_in (pos p.id)) (content_in t)) c
        ∙ ap (λ (t : Option (List ℕ)). pdv t (natural_in (pos p.id)) (content_in (Some (content_value p.content)))) (arcs_back p.transfer)
        ∙ ap (λ (n : ℕ). pdv p.transfer n (content_in (Some (content_value p.content)))) (short_is p.id h)
        ∙ ap (λ (t : contents.PdvContent). pdv p.transfer p.id t) (content_back p.content)

-- ---- lists of items

definitions_back : (ps : List proposals.Proposal) → list_all definition_sized ps ≡ true → map definition_in (items_in (some_list definition_value ps)) ≡ ps
definitions_back ps s = some_back definition_value definition_in definition_sized definition_back ps s

answers_back : (xs : List answers.AddAnswer) → list_all answer_sized xs ≡ true → map answer_in (items_in (some_list answer_value xs)) ≡ xs
answers_back xs s = some_back answer_value answer_in answer_sized answer_back xs s

users_back : (xs : List pdvs.Pdv) → list_all pdv_sized xs ≡ true → map pdv_in (items_in (some_list pdv_value xs)) ≡ xs
users_back xs s = some_back pdv_value pdv_in pdv_sized pdv_back xs s

ids_back : (xs : List ℕ) → list_all has_32_bits xs ≡ true → map number_in (items_in (some_list number_value xs)) ≡ xs
ids_back xs s = some_back number_value number_in has_32_bits short_is xs s

deletions_back : (xs : List ℕ) → list_all is_small xs ≡ true → map octet_in (items_in (some_list number_value xs)) ≡ xs
deletions_back xs s = some_back number_value octet_in is_small small_is xs s

contexts_back : (o : Option (List restored.RestoredItem)) → all_of (list_all restored_sized) o ≡ true → option_map contexts_in (option_map (list_value restored_value) o) ≡ o
contexts_back None s = refl
contexts_back (Some xs) s = ap (λ (x : List restored.RestoredItem). Some x) (map_back restored_value restored_in restored_sized restored_back xs s)

-- ---- units

abbrev connect : Option strings.BitString → Option (List ℕ) → Option (List ℕ) → List proposals.Proposal → Option (List ℕ) → Option strings.BitString → Option strings.BitString → List pdvs.Pdv → connects.PresentationConnect
connect a b c d e f g h = record { version = a; calling = b; called = c; definitions = d; default_context = e; requirements = f; session_requirements = g; user = h }

abbrev accept : Option strings.BitString → Option (List ℕ) → List answers.AddAnswer → Option strings.BitString → Option strings.BitString → List pdvs.Pdv → accepts.PresentationAccept
accept a b c d e f = record { version = a; responding = b; results = c; requirements = d; session_requirements = e; user = f }

abbrev reject : Option strings.BitString → Option (List ℕ) → List answers.AddAnswer → Option ℕ → Option ℤ → List pdvs.Pdv → rejects.PresentationReject
reject a b c d e f = record { version = a; responding = b; results = c; default_result = d; reason = e; user = f }

none_is : {X : Type 0} (o : Option X) → is_none o ≡ true → o ≡ None
none_is None h = refl
none_is (Some x) h = absurd cc

connect_back : (c : connects.PresentationConnect) → is_written_whole (unit.Connect c) ≡ true → connect_in (Some (parts (parts_of (connect_read c)))) ≡ c
connect_back c w =
    let p = and_parts (list_all definition_sized c.definitions && is_none c.default_context) (list_all pdv_sized c.user) w in
    let q = and_parts (list_all definition_sized c.definitions) (is_none c.default_context) p.0 in
    let os : List (Option Value) = connect_read c in
    λ i. connect ((ap maybe_bits (nth_of os 0) ∙ bits_back c.version) i) ((ap maybe_octets (nth_of os 1) ∙ octets_back c.calling) i) ((ap maybe_octets (nth_of os 2) ∙ octets_back c.called) i)
    ((ap (λ (v : Option Value). map definition_in (items_in v)) (nth_of os 3) ∙ definitions_back c.definitions q.0) i) ((ap maybe_octets (nth_of os 4) ∙ sym (none_is c.default_context q.1)) i) ((ap maybe_bits (nth_of os 5) ∙ bits_back c.requirements) i)
    ((ap maybe_bits (nth_of os 6) ∙ bits_back c.session_requirements) i) ((ap (λ (v : Option Value). map pdv_in (items_in v)) (nth_of os 7) ∙ users_back c.user p.1) i)

accept_back : (a : accepts.PresentationAccept) → is_written_whole (unit.Accept a) ≡ true → accept_in (Some (parts (parts_of (accept_read a)))) ≡ a
accept_back a w =
    let p = and_parts (list_all answer_sized a.results) (list_all pdv_sized a.user) w in
    let os : List (Option Value) = accept_read a in
    λ i. accept ((ap maybe_bits (nth_of os 0) ∙ bits_back a.version) i) ((ap maybe_octets (nth_of os 1) ∙ octets_back a.responding) i) ((ap (λ (v : Option Value). map answer_in (items_in v)) (nth_of os 2) ∙ answers_back a.results p.0) i)
    ((ap maybe_bits (nth_of os 3) ∙ bits_back a.requirements) i) ((ap maybe_bits (nth_of os 4) ∙ bits_back a.session_requirements) i) ((ap (λ (v : Option Value). map pdv_in (items_in v)) (nth_of os 5) ∙ users_back a.user p.1) i)

reject_back : (r : rejects.PresentationReject) → is_written_whole (unit.Reject r) ≡ true → reject_in (Some (parts (parts_of (reject_read r)))) ≡ r
reject_back r w =
    let p = and_parts (list_all answer_sized r.results && all_of is_small r.default_result) (list_all pdv_sized r.user) w in
    let q = and_parts (list_all answer_sized r.results) (all_of is_small r.default_result) p.0 in
    let os : List (Option Value) = reject_read r in
    λ i. reject ((ap maybe_bits (nth_of os 0) ∙ bits_back r.version) i) ((ap maybe_octets (nth_of os 1) ∙ octets_back r.responding) i) ((ap (λ (v : Option Value). map answer_in (items_in v)) (nth_of os 2) ∙ answers_back r.results q.0) i)
    ((ap (option_map octet_in) (nth_of os 3) ∙ small_back r.default_result q.1) i) ((ap (option_map integer_in) (nth_of os 4) ∙ integer_back r.reason) i) ((ap (λ (v : Option Value). map pdv_in (items_in v)) (nth_of os 5) ∙ users_back r.user p.1) i)

pub said_back : (word : units.PresentationWord) → is_written_whole word ≡ true → unit_in (read_value word) ≡ word
said_back (unit.Connect c) w = ap (λ (x : connects.PresentationConnect). unit.Connect x) (connect_back c w)
said_back (unit.Accept a) w = ap (λ (x : accepts.PresentationAccept). unit.Accept x) (accept_back a w)
said_back (unit.Reject r) w = ap (λ (x : rejects.PresentationReject). unit.Reject x) (reject_back r w)
said_back (unit.Alter add delete) w =
    let p = and_parts (list_all definition_sized add) (list_all has_32_bits delete) w in
    let os : List (Option Value) = some_list definition_value add ∷ some_list number_value delete ∷ None ∷ [] in
    λ i. unit.Alter ((ap (λ (v : Option Value). map definition_in (items_in v)) (nth_of os 0) ∙ definitions_back add p.0) i) ((ap (λ (v : Option Value). map number_in (items_in v)) (nth_of os 1) ∙ ids_back delete p.1) i)
said_back (unit.AlterAck answers) w =
    let p = and_parts (list_all answer_sized answers.added) (list_all is_small answers.deleted) w in
    let os : List (Option Value) = some_list answer_value answers.added ∷ some_list number_value answers.deleted ∷ None ∷ [] in
    λ i. unit.AlterAck (record { added = (ap (λ (v : Option Value). map answer_in (items_in v)) (nth_of os 0) ∙ answers_back answers.added p.0) i; deleted = (ap (λ (v : Option Value). map octet_in (items_in v)) (nth_of os 1) ∙ deletions_back answers.deleted p.1) i })
said_back (unit.Resynchronize items) w =
    let os : List (Option Value) = option_map (list_value restored_value) items ∷ None ∷ [] in
    ap (λ (x : Option (List restored.RestoredItem)). unit.Resynchronize x) (ap (option_map contexts_in) (nth_of os 0) ∙ contexts_back items w)
said_back (unit.ResynchronizeAck items) w =
    let os : List (Option Value) = option_map (list_value restored_value) items ∷ None ∷ [] in
    ap (λ (x : Option (List restored.RestoredItem)). unit.ResynchronizeAck x) (ap (option_map contexts_in) (nth_of os 0) ∙ contexts_back items w)
said_back (unit.UserAbort contexts user) w =
    let p = and_parts (all_of (list_all restored_sized) contexts) (list_all pdv_sized user) w in
    let os : List (Option Value) = option_map (list_value restored_value) contexts ∷ some_list pdv_value user ∷ [] in
    λ i. unit.UserAbort ((ap (option_map contexts_in) (nth_of os 0) ∙ contexts_back contexts p.0) i) ((ap (λ (v : Option Value). map pdv_in (items_in v)) (nth_of os 1) ∙ users_back user p.1) i)
said_back (unit.ProviderAbort reason event) w =
    let os : List (Option Value) = option_map integer reason ∷ option_map integer event ∷ [] in
    λ i. unit.ProviderAbort ((ap (option_map integer_in) (nth_of os 0) ∙ integer_back reason) i) ((ap (option_map integer_in) (nth_of os 1) ∙ integer_back event) i)
said_back (unit.Data []) w = absurd cc
said_back (unit.Data (p ∷ user)) w = ap (λ (x : List pdvs.Pdv). unit.Data x) (map_back pdv_value pdv_in pdv_sized pdv_back (p ∷ user) w)
