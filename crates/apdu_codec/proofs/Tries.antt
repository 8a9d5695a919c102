-- What a reading of the codecs says of heads.
use Rattle.std.proofs.Common.{◌≡◌, ℕ, ◌≤◌, ◌-◌, Bool, true, false, List, [], ◌++◌, length, take, drop, Option, Some, None, Result, Ok, Err, refl, sym, ap, subst, ◌∙◌, arith, option_map}
use Rattle.std.proofs.lemmas.List.{append-nil, take-append-drop, length-take-le}
use Rattle.std.proofs.Math.Seq.{take-length, drop-append_seam}
use Rattle.osi_base.specs.declared.syntax.Syntax.TheVariants as syntax
use Rattle.asn1_types.specs.declared.row.TypeRow.{TypeRow}
use Rattle.asn1_types.specs.Value.{Value}
use Rattle.ber_spelling.specs.declared.fault.ReadFault as bers
use Rattle.ber_spelling.specs.declared.fault.ReadFault.TheVariants as ber_faults
use Rattle.ber_spelling.specs.Reading.{FailsWith}
use Rattle.ber_spelling.specs.Rules.{read_at}
use Rattle.ber_spelling.specs.Spelling as ber
use Rattle.ber_spelling.proofs.WholeValues.{spelled_is_read}
use Rattle.packed_codec.specs.declared.fault.PackedFault as packeds
use Rattle.packed_codec.specs.declared.fault.PackedFault.TheVariants as packed_faults
use Rattle.packed_codec.specs.Reading as packed_reading
use Rattle.packed_codec.specs.Rules as packed_rules
use Rattle.packed_codec.specs.Laws.{Packed}
use Rattle.packed_codec.specs.Writing.{packed}
use Rattle.packed_codec.proofs.WholeValues as packeds_read
use Rattle.apdu_spelling.specs.declared.head.ApduHead.{ApduHead}
use Rattle.apdu_spelling.specs.Heads.{Head, invoke, result, error, reject, fields_of, carried}
use Rattle.apdu_spelling.specs.Rows.{head_rows, apdu_row, packed_apdu_row}
use Rattle.apdu_spelling.specs.Values.{ber_value, packed_value}
use Rattle.apdu_spelling.specs.Spellings.{PacksHead, fields_in}
use Rattle.apdu_spelling.proofs.HeadsSound.{heads_sound}
use Rattle.apdu_codec.specs.Pieces.{ber_head, packed_head}
use Rattle.apdu_codec.specs.Refusals.{number_of_ber, number_of_packed, ber_told, packed_told}
use Rattle.apdu_codec.specs.HeadsRead.{HasFields, HasNone}
use Rattle.apdu_codec.proofs.Forth.{ber_forth, packed_forth}
use Rattle.apdu_codec.proofs.Back.{ber_back, packed_back}

some_fields : (f : ApduHead) (o : Option Head) → Some f ≡ option_map fields_of o → (h : Head) × (o ≡ Some h) × (f ≡ fields_of h)
some_fields f None e = absurd cc
some_fields f (Some h) e = let x : f ≡ fields_of h = cc in (h, refl, x)

no_fields : (o : Option Head) → None ≡ option_map fields_of o → o ≡ None
no_fields None e = refl
no_fields (Some h) e = absurd cc

in_ber : (h : Head) → fields_of h ≡ fields_in syntax.Ber h
in_ber (invoke id linked code argument) = refl
in_ber (result id None) = refl
in_ber (result id (Some outcome)) = refl
in_ber (error id code parameter) = refl
in_ber (reject id problem) = refl

in_der : (h : Head) → fields_of h ≡ fields_in syntax.Der h
in_der (invoke id linked code argument) = refl
in_der (result id None) = refl
in_der (result id (Some outcome)) = refl
in_der (error id code parameter) = refl
in_der (reject id problem) = refl

in_packed : (f : ApduHead) (h : Head) (used : ℕ) → f ≡ fields_of h → used ≡ length (packed head_rows packed_apdu_row (packed_value h)) → record f { room = 262144 - used } ≡ fields_in syntax.Packed h
in_packed f h used e n = λ i. record (e i) { room = 262144 - n i }

abbrev done : Value × ℕ → Result (Value × ℕ) bers.ReadFault
done x = Ok x

abbrev failed : bers.ReadFault → Result (Value × ℕ) bers.ReadFault
failed f = Err f

of_done : (x y : Value × ℕ) → done x ≡ done y → x ≡ y
of_done x y e = cc

-- ---- BER and DER

module _ (strict : Bool) (text : List ℕ) where
  abbrev SpellsBer : Head → Type 0
  SpellsBer h = ber.Spells head_rows apdu_row strict 262144 (ber_value h) text

  read_whole : (h : Head) → SpellsBer h → read_at head_rows apdu_row strict 262144 text ≡ done (ber_value h, length text)
  read_whole h p =
      ap (read_at head_rows apdu_row strict 262144) (sym (append-nil text)) ∙ spelled_is_read head_rows apdu_row strict 262144 (ber_value h) text [] heads_sound p

  pub ber_found : (v : Value) (f : ApduHead) (used : ℕ) → Some f ≡ option_map fields_of (ber_head v) → used ≡ length text → ber.Spells head_rows apdu_row strict 262144 v (take used text)
      → (h : Head) × SpellsBer h × (f ≡ fields_of h)
  ber_found v f used e n p =
      let s = some_fields f (ber_head v) e in
      let h : Head = s.0 in
      let whole : take used text ≡ text = ap (λ (k : ℕ). take k text) n ∙ take-length text in
      (h, subst (λ (w : Value). ber.Spells head_rows apdu_row strict 262144 w text) (ber_back v h s.1) (subst (λ (t : List ℕ). ber.Spells head_rows apdu_row strict 262144 v t) whole p), s.2)

  pub ber_other : (v : Value) (used : ℕ) → read_at head_rows apdu_row strict 262144 text ≡ done (v, used) → None ≡ option_map fields_of (ber_head v) → (h : Head) → SpellsBer h → ⊥
  ber_other v used e n h p =
      let same = of_done (v, used) (ber_value h, length text) (sym e ∙ read_whole h p) in
      let x : v ≡ ber_value h = ap (λ (z : Value × ℕ). z.0) same in
      let y : ber_head v ≡ Some h = ap ber_head x ∙ ber_forth h in
      let z : ber_head v ≡ None = no_fields (ber_head v) n in cc

  pub ber_longer : (v : Value) (used : ℕ) → read_at head_rows apdu_row strict 262144 text ≡ done (v, used) → (used ≡ length text → ⊥) → (h : Head) → SpellsBer h → ⊥
  ber_longer v used e n h p =
      let same = of_done (v, used) (ber_value h, length text) (sym e ∙ read_whole h p) in n (ap (λ (z : Value × ℕ). z.1) same)

  pub ber_faulty : (f : bers.ReadFault) → read_at head_rows apdu_row strict 262144 text ≡ failed f → (h : Head) → SpellsBer h → ⊥
  ber_faulty f e h p = let same : failed f ≡ done (ber_value h, length text) = sym e ∙ read_whole h p in cc

-- ---- the packed syntax

abbrev packed_done : Value × ℕ → Result (Value × ℕ) packeds.PackedFault
packed_done x = Ok x

abbrev packed_failed : packeds.PackedFault → Result (Value × ℕ) packeds.PackedFault
packed_failed f = Err f

of_packed : (x y : Value × ℕ) → packed_done x ≡ packed_done y → x ≡ y
of_packed x y e = cc

module _ (text : List ℕ) where
  front_read : (h : Head) (p : PacksHead h text) → packed_rules.read_at head_rows packed_apdu_row 262144 text ≡ packed_done (packed_value h, length p.front)
  front_read h p =
      ap (packed_rules.read_at head_rows packed_apdu_row 262144) p.are ∙ packeds_read.spelled_is_read head_rows packed_apdu_row 262144 (packed_value h) p.front (carried h) (omega arith) p.packs

  pub packed_found : (v : Value) (f : ApduHead) (used : ℕ) → Some f ≡ option_map fields_of (packed_head v (drop used text)) → used ≤ length text → Packed head_rows packed_apdu_row 262144 v (take used text)
      → (h : Head) × PacksHead h text × (record f { room = 262144 - used } ≡ fields_in syntax.Packed h)
  packed_found v f used e le p =
      let s = some_fields f (packed_head v (drop used text)) e in
      let h : Head = s.0 in
      let b = packed_back v (drop used text) h s.1 in
      let n : used ≡ length (packed head_rows packed_apdu_row (packed_value h)) =
      sym (length-take-le used text le) ∙ ap length p.are ∙ ap (λ (w : Value). length (packed head_rows packed_apdu_row w)) b.0 in (
        h,
        record {
          front = take used text;
          packs = subst (λ (w : Value). Packed head_rows packed_apdu_row 262144 w (take used text)) b.0 p;
          are = sym (take-append-drop used text) ∙ ap (λ (x : List ℕ). take used text ++ x) b.1;
        },
        in_packed f h used s.2 n,
      )

  pub packed_other : (v : Value) (used : ℕ) → packed_rules.read_at head_rows packed_apdu_row 262144 text ≡ packed_done (v, used) → None ≡ option_map fields_of (packed_head v (drop used text)) → (h : Head) → PacksHead h text → ⊥
  packed_other v used e n h p =
      let same = of_packed (v, used) (packed_value h, length p.front) (sym e ∙ front_read h p) in
      let x : v ≡ packed_value h = ap (λ (z : Value × ℕ). z.0) same in
      let y : used ≡ length p.front = ap (λ (z : Value × ℕ). z.1) same in
      let r : drop used text ≡ carried h = ap (λ (k : ℕ). drop k text) y ∙ ap (drop (length p.front)) p.are ∙ drop-append_seam p.front (carried h) in
      let z : packed_head v (drop used text) ≡ Some h = (λ i. packed_head (x i) (r i)) ∙ packed_forth h in
      let w : packed_head v (drop used text) ≡ None = no_fields (packed_head v (drop used text)) n in cc

  pub packed_faulty : (f : packeds.PackedFault) → packed_rules.read_at head_rows packed_apdu_row 262144 text ≡ packed_failed f → (h : Head) → PacksHead h text → ⊥
  packed_faulty f e h p = let same : packed_failed f ≡ packed_done (packed_value h, length p.front) = sym e ∙ front_read h p in cc

-- ---- as the readers of the program say it, over a table that is the fixed one

module _ (rows : List TypeRow) (same : rows ≡ head_rows) (text : List ℕ) where
  module _ (strict : Bool) where
    abbrev fixed : Result (Value × ℕ) bers.ReadFault
    fixed = read_at head_rows apdu_row strict 262144 text

    on_fixed : (r : Result (Value × ℕ) bers.ReadFault) → read_at rows apdu_row strict 262144 text ≡ r → fixed ≡ r
    on_fixed r e = ap (λ (x : List TypeRow). read_at x apdu_row strict 262144 text) (sym same) ∙ e

    pub longer : (v : Value) (used : ℕ) → read_at rows apdu_row strict 262144 text ≡ done (v, used) → (used ≡ length text → ⊥) → ((h : Head) → SpellsBer strict text h → ⊥) × (1 ≡ number_of_ber fixed)
    longer v used e n = let f = on_fixed (done (v, used)) e in (ber_longer strict text v used f n, ap number_of_ber (sym f))

    pub other : (v : Value) (used : ℕ) → read_at rows apdu_row strict 262144 text ≡ done (v, used) → None ≡ option_map fields_of (ber_head v) → ((h : Head) → SpellsBer strict text h → ⊥) × (1 ≡ number_of_ber fixed)
    other v used e n = let f = on_fixed (done (v, used)) e in (ber_other strict text v used f n, ap number_of_ber (sym f))

    faulty : (fault : bers.ReadFault) → read_at rows apdu_row strict 262144 text ≡ failed fault → (n : ℕ) → n ≡ number_of_ber (failed fault) → ((h : Head) → SpellsBer strict text h → ⊥) × (n ≡ number_of_ber fixed)
    faulty fault e n is = let f = on_fixed (failed fault) e in (ber_faulty strict text fault f, is ∙ ap number_of_ber (sym f))

    pub told : (fault : bers.ReadFault) → FailsWith fault (read_at rows apdu_row strict 262144 text) → (n : ℕ) → Some n ≡ ber_told fault → ((h : Head) → SpellsBer strict text h → ⊥) × (n ≡ number_of_ber fixed)
    told (ber_faults.NotSpelled place kind) e n is = faulty (ber_faults.NotSpelled place kind) e n cc
    told ber_faults.Short e n is = faulty ber_faults.Short e n cc
    told (ber_faults.TooDeep place) e n is = faulty (ber_faults.TooDeep place) e n cc
    told (ber_faults.TooLong place) e n is = faulty (ber_faults.TooLong place) e n cc
    told ber_faults.NoMemory e n is = absurd cc

    found : (v : Value) (f : ApduHead) (used : ℕ) → Some f ≡ option_map fields_of (ber_head v) → used ≡ length text → (used ≤ length text) × ber.Spells rows apdu_row strict 262144 v (take used text)
        → (h : Head) × SpellsBer strict text h × (f ≡ fields_of h)
    found v f used e n p = ber_found strict text v f used e n (subst (λ (x : List TypeRow). ber.Spells x apdu_row strict 262144 v (take used text)) same p.1)

  pub found_ber : (v : Value) (f : ApduHead) (used : ℕ) → Some f ≡ option_map fields_of (ber_head v) → used ≡ length text → (used ≤ length text) × ber.Spells rows apdu_row false 262144 v (take used text) → HasFields syntax.Ber text f
  found_ber v f used e n p = let x = found false v f used e n p in record { head = x.0; spells = x.1; are = x.2 ∙ in_ber x.0 }

  pub found_der : (v : Value) (f : ApduHead) (used : ℕ) → Some f ≡ option_map fields_of (ber_head v) → used ≡ length text → (used ≤ length text) × ber.Spells rows apdu_row true 262144 v (take used text) → HasFields syntax.Der text f
  found_der v f used e n p = let x = found true v f used e n p in record { head = x.0; spells = x.1; are = x.2 ∙ in_der x.0 }

  abbrev packed_fixed : Result (Value × ℕ) packeds.PackedFault
  packed_fixed = packed_rules.read_at head_rows packed_apdu_row 262144 text

  on_packed : (r : Result (Value × ℕ) packeds.PackedFault) → packed_rules.read_at rows packed_apdu_row 262144 text ≡ r → packed_fixed ≡ r
  on_packed r e = ap (λ (x : List TypeRow). packed_rules.read_at x packed_apdu_row 262144 text) (sym same) ∙ e

  pub other_packed : (v : Value) (used : ℕ) (rest : List ℕ) → rest ≡ drop used text → packed_rules.read_at rows packed_apdu_row 262144 text ≡ packed_done (v, used) → None ≡ option_map fields_of (packed_head v rest) → HasNone syntax.Packed text × (1 ≡ number_of_packed packed_fixed)
  other_packed v used rest is e n = let f = on_packed (packed_done (v, used)) e in (packed_other text v used f (subst (λ (r : List ℕ). None ≡ option_map fields_of (packed_head v r)) is n), ap number_of_packed (sym f))

  faulty_packed : (fault : packeds.PackedFault) → packed_rules.read_at rows packed_apdu_row 262144 text ≡ packed_failed fault → (n : ℕ) → n ≡ number_of_packed (packed_failed fault) → HasNone syntax.Packed text × (n ≡ number_of_packed packed_fixed)
  faulty_packed fault e n is = let f = on_packed (packed_failed fault) e in (packed_faulty text fault f, is ∙ ap number_of_packed (sym f))

  pub told_packed : (fault : packeds.PackedFault) → packed_reading.FailsWith fault (packed_rules.read_at rows packed_apdu_row 262144 text) → (n : ℕ) → Some n ≡ packed_told fault → HasNone syntax.Packed text × (n ≡ number_of_packed packed_fixed)
  told_packed (packed_faults.NotSpelled place kind) e n is = faulty_packed (packed_faults.NotSpelled place kind) e n cc
  told_packed packed_faults.Short e n is = faulty_packed packed_faults.Short e n cc
  told_packed (packed_faults.TooLong place) e n is = faulty_packed (packed_faults.TooLong place) e n cc
  told_packed packed_faults.NoMemory e n is = absurd cc

  pub found_packed : (v : Value) (f : ApduHead) (used : ℕ) (rest : List ℕ) → rest ≡ drop used text → Some f ≡ option_map fields_of (packed_head v rest) → (used ≤ length text) × Packed rows packed_apdu_row 262144 v (take used text) → HasFields syntax.Packed text (record f { room = 262144 - used })
  found_packed v f used rest is e p =
      let x = packed_found text v f used (subst (λ (r : List ℕ). Some f ≡ option_map fields_of (packed_head v r)) is e) p.0 (subst (λ (y : List TypeRow). Packed y packed_apdu_row 262144 v (take used text)) same p.1) in
      record { head = x.0; spells = x.1; are = x.2 }
