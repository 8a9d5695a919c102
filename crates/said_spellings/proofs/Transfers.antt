-- APDUs of reliable transfer, alone and as what association control carries for its user: whole values, octets, and not too many.
use Rattle.std.proofs.Common.{◌≡◌, refl, true, false, sym, subst, arith, ℕ, ◌+◌, ◌^◌, ◌≤◌, ◌<◌, pos, List, [], ◌∷◌, ◌++◌, length}
use Rattle.std.specs.Prelude.{Bool, ◌&&◌, ◌||◌, ◌==◌, None, codes, nat_lt, nat_le, slice_index, if◌then◌else◌}
use Rattle.std.specs.List.{list_all, flat_map}
use Rattle.std.proofs.lemmas.Bool.{le-leb, lt-ltb}
use Rattle.std.proofs.lemmas.List.{length-append}
use Rattle.osi_base.specs.declared.acse_word.External.{External}
use Rattle.osi_base.specs.declared.acse_word.Acse.{Acse}
use Rattle.osi_base.specs.declared.acse_word.Acse.TheVariants as acse
use Rattle.osi_base.specs.declared.acse_word.Diagnostic.TheVariants.{User}
use Rattle.osi_base.specs.declared.rtse_word.ConnectionData.{ConnectionData}
use Rattle.osi_base.specs.declared.rtse_word.ConnectionData.TheVariants as data_of
use Rattle.osi_base.specs.declared.rtse_word.Rtse.{Rtse}
use Rattle.osi_base.specs.declared.rtse_word.Rtse.TheVariants as rtse
use Rattle.osi_base.specs.Octets.{AreOctets}
use Rattle.asn1_types.specs.declared.row.Class.TheVariants.{Universal, Application, Context}
use Rattle.asn1_types.specs.declared.row.Part.{Part}
use Rattle.asn1_types.specs.declared.row.Tag as tags
use Rattle.asn1_types.specs.Rows.{along}
use Rattle.asn1_types.specs.Fits.{is_octet}
use Rattle.asn1_types.specs.Value.{integer, object_id, list, MaybeValues, no_parts, present}
use Rattle.asn1_types.specs.ValueView.{values_of}
use Rattle.asn1_types.specs.Whole.{is_whole}
use Rattle.asn1_types.specs.Whole as whole
use Rattle.asn1_types.specs.Writing.{Writer, base_128, subidentifiers, integer_octets, definite, set_parts, nothing_written, write_by, writes, written}
use Rattle.asn1_types.specs.FixedRows.{part}
use Rattle.asn1_types.proofs.OctetTests.{octets_by_test, octets_pass}
use Rattle.ber_spelling.proofs.WholeSpelled.{written_whole}
use Rattle.acse.specs.Rows.{acse_row, acse_rows}
use Rattle.acse.specs.Words.{external_value}
use Rattle.acse.specs.Words as acse_words
use Rattle.acse.specs.Written.{written_acse}
use Rattle.acse.specs.Written as acse_written
use Rattle.acse.proofs.Added.{acse_sound}
use Rattle.acse.proofs.AcseLaws as acse_laws
use Rattle.rtse_apdus.specs.Reading.{limit_of}
use Rattle.rtse_apdus.specs.Rows.{rtse_row, rtse_rows}
use Rattle.rtse_apdus.specs.Words.{data_value, value_of}
use Rattle.rtse_apdus.specs.Written.{are_octets, can_carry, can_write, written_rtse, IsWritable}
use Rattle.rtse_apdus.proofs.Added.{rtse_sound}
use Rattle.rtse_apdus.proofs.RtseLaws.{writable_fits}
use Rattle.der_octets.specs.Laws.{LeavesAre, LeavesInValues}
use Rattle.der_octets.proofs.Octets.{der-octets}
use Rattle.transfer_spelling.proofs.Lengths.{integer-length, definite-length}
use Rattle.said_words.specs.Fields.{IsContext}
use Rattle.said_spellings.proofs.Sizes.{name-few, set-few}

both : (p q : Bool) → p ≡ true → q ≡ true → (p && q) ≡ true
both true q e f = f
both false q e f = cc

-- octets that are one whole value, so many at most
pub record Spelled (os : List ℕ) (most : ℕ) : Type 0 where
  pub is_whole_one : is_whole os ≡ true
  pub octets_are : AreOctets os
  pub few : length os ≤ most

-- ---- sizes

abbrev Rtse_ : ℕ → ℕ → Writer
Rtse_ k = along nothing_written write_by rtse_rows k

abbrev Acse_ : ℕ → ℕ → Writer
Acse_ k = along nothing_written write_by acse_rows k

abbrev context : ℕ → tags.Tag
context n = record { class = Context; number = n }

abbrev universal : ℕ → tags.Tag
universal n = record { class = Universal; number = n }

field-few : (constructed : Bool) (tag : tags.Tag) (c : List ℕ) (m : ℕ) → tag.number < 31 → m < 2 ^ 24 → length c ≤ m → length (definite constructed tag c) ≤ 5 + m
field-few constructed tag c m low small few = let d = definite-length constructed tag c low (omega arith) in omega arith

more-few : (x y : List ℕ) (m n : ℕ) → length x ≤ m → length y ≤ n → length (x ++ y) ≤ m + n
more-few x y m n a b = let c = length-append x y in omega arith

last-few : (x : List ℕ) (m : ℕ) → length x ≤ m → length (x ++ []) ≤ m
last-few x m a = let c = length-append x [] in omega arith

small-few : (tag : tags.Tag) (n : ℕ) → tag.number < 31 → n ≤ 32767 → length (definite false tag (integer_octets (pos n))) ≤ 7
small-few tag n low h = let a : length (integer_octets (pos n)) ≤ 2 = integer-length 1 n (omega arith) in field-few false tag (integer_octets (pos n)) 2 low (omega arith) a

-- ---- connection data of an opening: NULL for its user, or the references of an association

abbrev pub IsReference : ℕ → List ℕ → Type 0
IsReference most os = AreOctets os × (length os ≤ most)

abbrev pub IsConnection : ConnectionData → Type 0
IsConnection (data_of.Open os) = os ≡ 5 ∷ 0 ∷ []
IsConnection (data_of.Recover reference common) = IsReference 64 reference × IsReference 13 common

reference-few : (reference common : List ℕ) → length reference ≤ 64 → length common ≤ 13 → length (definite true (context 1) (definite false (universal 4) reference ++ (definite false (universal 23) common ++ []))) ≤ 92
reference-few reference common r c =
    let x : List ℕ = definite false (universal 4) reference in
    let y : List ℕ = definite false (universal 23) common in
    let a : length x ≤ 69 = field-few false (universal 4) reference 64 (omega arith) (omega arith) r in
    let b : length y ≤ 18 = field-few false (universal 23) common 13 (omega arith) (omega arith) c in
    let d : length (x ++ (y ++ [])) ≤ 87 = more-few x (y ++ []) 69 18 a (last-few y 18 b) in
    field-few true (context 1) (x ++ (y ++ [])) 87 (omega arith) (omega arith) d

data-few : (d : ConnectionData) → IsConnection d → length (Rtse_ 20 9 None (data_value d)) ≤ 92
data-few (data_of.Open os) h =
    let n : length os ≤ 2 = subst (λ (xs : List ℕ). length xs ≤ 2) (sym h) (omega arith) in
    let a : length (definite true (context 0) os) ≤ 7 = field-few true (context 0) os 2 (omega arith) (omega arith) n in
    omega (arith, a)
data-few (data_of.Recover reference common) h = reference-few reference common h.0.1 h.1.1

data-leaves : (d : ConnectionData) → IsConnection d → LeavesAre (data_value d)
data-leaves (data_of.Open os) h = λ few. subst AreOctets (sym h) (octets_by_test (5 ∷ 0 ∷ []) refl)
data-leaves (data_of.Recover reference common) h = (h.0.0, (h.1.0, tt))

octets-so : (os : List ℕ) → AreOctets os → length os ≤ 300000 → are_octets os ≡ true
octets-so os h few = both (list_all is_octet os) (nat_le (length os) 4294967295) (octets_pass os h) (le-leb (length os) 4294967295 (omega arith))

null-whole : is_whole (5 ∷ 0 ∷ []) ≡ true
unfolding is_whole whole.behind_whole
null-whole = refl

data-carried : (d : ConnectionData) → IsConnection d → can_carry d ≡ true
data-carried (data_of.Open os) h = subst (λ (xs : List ℕ). is_whole xs ≡ true) (sym h) null-whole
data-carried (data_of.Recover reference common) h =
    both (are_octets reference) (are_octets common) (octets-so reference h.0.0 (omega (arith, h.0.1))) (octets-so common h.1.0 (omega (arith, h.1.1)))

-- ---- APDUs of reliable transfer

low-limit : (xs : List ℕ) → 262144 ≤ limit_of xs
low-limit xs = go (slice_index xs 0 == 4 || slice_index xs 0 == 36)
  where
    go : (p : Bool) → 262144 ≤ (if p then 1048576 else 262144)
    go true = omega arith
    go false = omega arith

pub record SpelledRtse (apdu : Rtse) (most : ℕ) : Type 0 where
  pub spelled : Spelled (written_rtse apdu) most
  pub writable : IsWritable apdu

made : (apdu : Rtse) (most : ℕ) → most ≤ 300000 → most ≤ limit_of (written_rtse apdu) → can_write apdu ≡ true → LeavesAre (value_of apdu) → length (written_rtse apdu) ≤ most → SpelledRtse apdu most
made apdu most small limit can leaves few =
    record {
      spelled =
          record {
            is_whole_one = written_whole rtse_rows rtse_sound rtse_row (value_of apdu) (writable_fits apdu can) (omega arith);
            octets_are = der-octets rtse_rows rtse_row (value_of apdu) leaves (omega arith);
            few = few;
          };
      writable = record { can = can; within = omega (arith, few, limit) };
    }

size-so : (n : ℕ) → n ≤ 255 → nat_lt n 256 ≡ true
size-so n h = lt-ltb n 256 (omega arith)

module _ (checkpoint window : ℕ) (d : ConnectionData) (c : checkpoint ≤ 255) (w : window ≤ 255) (h : IsConnection d) where
  request-few : length (written_rtse (rtse.OpenRequest checkpoint window (pos 1) d)) ≤ 140
  unfolding written writes
  request-few =
      let ps : List Part = part (codes "checkpoint") 12 true ∷ part (codes "window") 13 true ∷ part (codes "mode") 14 true ∷ part (codes "data") 10 false ∷ [] in
      let vs : MaybeValues = present (integer (pos checkpoint)) (present (integer (pos window)) (present (integer (pos 1)) (present (data_value d) no_parts))) in
      let x : List ℕ = definite false (context 0) (integer_octets (pos checkpoint)) in
      let y : List ℕ = definite false (context 1) (integer_octets (pos window)) in
      let z : List ℕ = definite false (context 2) (integer_octets (pos 1)) in
      let u : List ℕ = definite true (context 3) (Rtse_ 20 9 None (data_value d)) in
      let i : length x ≤ 7 = small-few (context 0) checkpoint (omega arith) (omega arith) in
      let j : length y ≤ 7 = small-few (context 1) window (omega arith) (omega arith) in
      let k : length z ≤ 7 = small-few (context 2) 1 (omega arith) (omega arith) in
      let l : length u ≤ 97 = field-few true (context 3) (Rtse_ 20 9 None (data_value d)) 92 (omega arith) (omega arith) (data-few d h) in
      let all : length (x ++ (y ++ (z ++ (u ++ [])))) ≤ 118 = more-few x (y ++ (z ++ (u ++ []))) 7 111 i (more-few y (z ++ (u ++ [])) 7 104 j (more-few z (u ++ []) 7 97 k (last-few u 97 l))) in
      let m : List ℕ = set_parts (Rtse_ 21) (part (codes "checkpoint") 12 true ∷ part (codes "window") 13 true ∷ part (codes "mode") 14 true ∷ part (codes "data") 10 false ∷ []) vs in
      let n : length m ≤ length (x ++ (y ++ (z ++ (u ++ [])))) = set-few (Rtse_ 21) ps vs in
      let f = field-few true (context 16) m 118 (omega arith) (omega arith) (omega (arith, all, n)) in
      omega (arith, f)

  accept-few : length (written_rtse (rtse.OpenAccept checkpoint window d)) ≤ 140
  unfolding written writes
  accept-few =
      let ps : List Part = part (codes "checkpoint") 12 true ∷ part (codes "window") 13 true ∷ part (codes "data") 11 false ∷ [] in
      let vs : MaybeValues = present (integer (pos checkpoint)) (present (integer (pos window)) (present (data_value d) no_parts)) in
      let x : List ℕ = definite false (context 0) (integer_octets (pos checkpoint)) in
      let y : List ℕ = definite false (context 1) (integer_octets (pos window)) in
      let u : List ℕ = definite true (context 2) (Rtse_ 20 9 None (data_value d)) in
      let i : length x ≤ 7 = small-few (context 0) checkpoint (omega arith) (omega arith) in
      let j : length y ≤ 7 = small-few (context 1) window (omega arith) (omega arith) in
      let l : length u ≤ 97 = field-few true (context 2) (Rtse_ 20 9 None (data_value d)) 92 (omega arith) (omega arith) (data-few d h) in
      let all : length (x ++ (y ++ (u ++ []))) ≤ 111 = more-few x (y ++ (u ++ [])) 7 104 i (more-few y (u ++ []) 7 97 j (last-few u 97 l)) in
      let m : List ℕ = set_parts (Rtse_ 21) (part (codes "checkpoint") 12 true ∷ part (codes "window") 13 true ∷ part (codes "data") 11 false ∷ []) vs in
      let n : length m ≤ length (x ++ (y ++ (u ++ []))) = set-few (Rtse_ 21) ps vs in
      let f = field-few true (context 17) m 111 (omega arith) (omega arith) (omega (arith, all, n)) in
      omega (arith, f)

  pub request-spelled : SpelledRtse (rtse.OpenRequest checkpoint window (pos 1) d) 140
  request-spelled =
      made (rtse.OpenRequest checkpoint window (pos 1) d) 140 (omega arith) (let l = low-limit (written_rtse (rtse.OpenRequest checkpoint window (pos 1) d)) in omega (arith, l))
      (both (nat_lt checkpoint 256 && nat_lt window 256 && true) (can_carry d) (both (nat_lt checkpoint 256 && nat_lt window 256) true (both (nat_lt checkpoint 256) (nat_lt window 256) (size-so checkpoint c) (size-so window w)) refl) (data-carried d h))
      (tt, (tt, (tt, (data-leaves d h, tt)))) request-few

  pub accept-spelled : SpelledRtse (rtse.OpenAccept checkpoint window d) 140
  accept-spelled =
      made (rtse.OpenAccept checkpoint window d) 140 (omega arith) (let l = low-limit (written_rtse (rtse.OpenAccept checkpoint window d)) in omega (arith, l))
      (both (nat_lt checkpoint 256 && nat_lt window 256) (can_carry d) (both (nat_lt checkpoint 256) (nat_lt window 256) (size-so checkpoint c) (size-so window w)) (data-carried d h))
      (tt, (tt, (data-leaves d h, tt))) accept-few

-- a part of a transfer, which may fill a transport unit
part-few : (os : List ℕ) → length os ≤ 262400 → length (written_rtse (rtse.Transfer os)) ≤ 262405
unfolding written writes
part-few os few = field-few false (universal 4) os 262400 (omega arith) (omega arith) few

part-limit : (os : List ℕ) → 262405 ≤ limit_of (written_rtse (rtse.Transfer os))
unfolding written writes
part-limit os = omega arith

pub part-spelled : (os : List ℕ) → AreOctets os → length os ≤ 262400 → SpelledRtse (rtse.Transfer os) 262405
part-spelled os h few = made (rtse.Transfer os) 262405 (omega arith) (part-limit os) (octets-so os h (omega arith)) h (part-few os few)

-- a plea for the turn
plea-few : (priority : ℕ) → priority < 2 ^ 32 → length (written_rtse (rtse.TurnPlease priority)) ≤ 10
unfolding written writes
plea-few priority h =
    let a : length (integer_octets (pos priority)) ≤ 5 = integer-length 4 priority (omega arith) in
    field-few false (universal 2) (integer_octets (pos priority)) 5 (omega arith) (omega arith) a

pub plea-spelled : (priority : ℕ) → priority < 2 ^ 32 → SpelledRtse (rtse.TurnPlease priority) 10
plea-spelled priority h =
    made (rtse.TurnPlease priority) 10 (omega arith) (let l = low-limit (written_rtse (rtse.TurnPlease priority)) in omega (arith, l)) (le-leb priority 4294967295 (omega arith)) tt (plea-few priority h)

-- ---- association control with an APDU of reliable transfer for its user

-- the application context of reliable mode
abbrev pub reliable_context : List ℕ
reliable_context = 2 ∷ 999 ∷ 5 ∷ 4 ∷ []

abbrev pub carrying : ℕ → List ℕ → External
carrying id os = record { id = id; value = os }

context-few : length (Acse_ 28 13 None (object_id reliable_context)) ≤ 205
context-few =
    let a = name-few (universal 6) reliable_context (omega arith) refl in
    field-few true (context 1) (definite false (universal 6) (flat_map base_128 (subidentifiers reliable_context))) 200 (omega arith) (omega arith) a

pub record SpelledAcse (apdu : Acse) (most : ℕ) : Type 0 where
  pub spelled : Spelled (written_acse apdu) most
  pub writable : acse_written.IsWritable apdu

associated : (apdu : Acse) (most : ℕ) → most ≤ 262144 → acse_written.can_write apdu ≡ true → LeavesAre (acse_words.value_of apdu) → length (written_acse apdu) ≤ most → SpelledAcse apdu most
associated apdu most small can leaves few =
    record {
      spelled =
          record {
            is_whole_one = written_whole acse_rows acse_sound acse_row (acse_words.value_of apdu) (acse_laws.writable_fits apdu can) (omega arith);
            octets_are = der-octets acse_rows acse_row (acse_words.value_of apdu) leaves (omega arith);
            few = few;
          };
      writable = record { can = can; within = omega arith };
    }

module _ (id : ℕ) (os : List ℕ) (i : IsContext id) (s : Spelled os 150) where
  user-few : length (Acse_ 28 11 None (list (values_of (external_value (carrying id os) ∷ [])))) ≤ 172
  user-few =
      let high : id ≤ 32767 = i.1 in
      let few : length os ≤ 150 = s.few in
      let x : List ℕ = definite false (universal 2) (integer_octets (pos id)) in
      let y : List ℕ = definite true (context 0) os in
      let a : length x ≤ 7 = small-few (universal 2) id (omega arith) high in
      let b : length y ≤ 155 = field-few true (context 0) os 150 (omega arith) (omega arith) few in
      let c : length (x ++ (y ++ [])) ≤ 162 = more-few x (y ++ []) 7 155 a (last-few y 155 b) in
      let e : List ℕ = definite true (universal 8) (x ++ (y ++ [])) in
      let d : length e ≤ 167 = field-few true (universal 8) (x ++ (y ++ [])) 162 (omega arith) (omega arith) c in
      field-few true (context 30) (e ++ []) 167 (omega arith) (omega arith) (last-few e 167 d)

  user-leaves : LeavesInValues (values_of (external_value (carrying id os) ∷ []))
  user-leaves = ((tt, ((λ few. s.octets_are), tt)), tt)

  user-carried : acse_written.can_carry (carrying id os) ≡ true
  user-carried =
      let low : 1 ≤ id = i.0 in
      let high : id ≤ 32767 = i.1 in
      both (acse_written.is_id id) (is_whole os) (both (nat_lt 0 id) (nat_le id 32767) (lt-ltb 0 id (omega arith)) (le-leb id 32767 high)) s.is_whole_one

  -- AARQ
  asking-few : length (written_acse (acse.AssociateRequest None reliable_context (carrying id os ∷ []))) ≤ 400
  unfolding written writes
  asking-few =
      let x : List ℕ = Acse_ 28 13 None (object_id reliable_context) in
      let y : List ℕ = Acse_ 28 11 None (list (values_of (external_value (carrying id os) ∷ []))) in
      let all : length (x ++ (y ++ [])) ≤ 377 = more-few x (y ++ []) 205 172 context-few (last-few y 172 user-few) in
      let f = field-few true (record { class = Application; number = 0 }) (x ++ (y ++ [])) 377 (omega arith) (omega arith) all in
      omega (arith, f)

  pub asking-spelled : SpelledAcse (acse.AssociateRequest None reliable_context (carrying id os ∷ [])) 400
  asking-spelled =
      associated (acse.AssociateRequest None reliable_context (carrying id os ∷ [])) 400 (omega arith) (both (acse_written.can_carry (carrying id os)) true user-carried refl) (tt, (user-leaves, tt)) asking-few

  -- AARE
  accepting-few : length (written_acse (acse.AssociateResponse reliable_context 0 (User (pos 0)) (carrying id os ∷ []))) ≤ 420
  unfolding written writes
  accepting-few =
      let x : List ℕ = Acse_ 28 13 None (object_id reliable_context) in
      let u : List ℕ = definite true (context 2) (definite false (universal 2) (integer_octets (pos 0))) in
      let v : List ℕ = definite true (context 3) (definite true (context 1) (definite false (universal 2) (integer_octets (pos 0)))) in
      let y : List ℕ = Acse_ 28 11 None (list (values_of (external_value (carrying id os) ∷ []))) in
      let n : length (definite false (universal 2) (integer_octets (pos 0))) ≤ 7 = small-few (universal 2) 0 (omega arith) (omega arith) in
      let i : length u ≤ 12 = field-few true (context 2) (definite false (universal 2) (integer_octets (pos 0))) 7 (omega arith) (omega arith) n in
      let j : length (definite true (context 1) (definite false (universal 2) (integer_octets (pos 0)))) ≤ 12 = field-few true (context 1) (definite false (universal 2) (integer_octets (pos 0))) 7 (omega arith) (omega arith) n in
      let k : length v ≤ 17 = field-few true (context 3) (definite true (context 1) (definite false (universal 2) (integer_octets (pos 0)))) 12 (omega arith) (omega arith) j in
      let all : length (x ++ (u ++ (v ++ (y ++ [])))) ≤ 406 = more-few x (u ++ (v ++ (y ++ []))) 205 201 context-few (more-few u (v ++ (y ++ [])) 12 189 i (more-few v (y ++ []) 17 172 k (last-few y 172 user-few))) in
      let f = field-few true (record { class = Application; number = 1 }) (x ++ (u ++ (v ++ (y ++ [])))) 406 (omega arith) (omega arith) all in
      omega (arith, f)

  pub accepting-spelled : SpelledAcse (acse.AssociateResponse reliable_context 0 (User (pos 0)) (carrying id os ∷ [])) 420
  accepting-spelled =
      associated (acse.AssociateResponse reliable_context 0 (User (pos 0)) (carrying id os ∷ [])) 420 (omega arith) (both (acse_written.can_carry (carrying id os)) true user-carried refl) (tt, (tt, (tt, (user-leaves, tt)))) accepting-few
