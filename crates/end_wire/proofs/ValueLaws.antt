-- What a head says with its value is what octets spell.
use Rattle.std.proofs.Common.{◌≡◌, ℕ, ◌<◌, ◌^◌, Bool, true, false, nat_eq, if◌then◌else◌, List, [], length, take, Option, Some, None, Result, Ok, Err, refl, sym, ap, subst, ◌∙◌}
use Rattle.std.proofs.lemmas.List.{append-nil}
use Rattle.std.proofs.lemmas.Bool.{eqb-true}
use Rattle.std.proofs.Math.Seq.{take-length}
use Rattle.osi_base.specs.declared.syntax.Syntax.{Syntax}
use Rattle.osi_base.specs.declared.syntax.Syntax.TheVariants.{Ber, Der, Packed}
use Rattle.asn1_types.specs.Value.{Value}
use Rattle.asn1_types.specs.Table.{AreSoundRows}
use Rattle.asn1_types.specs.declared.value.Val.{Val}
use Rattle.asn1_types.specs.declared.row.TypeId.{TypeId}
use Rattle.asn1_types.specs.declared.table.TypeTable.{TypeTable}
use Rattle.ber_spelling.specs.declared.fault.ReadFault.{ReadFault}
use Rattle.osi_base.specs.Octets.{AreOctets}
use Rattle.ber_spelling.specs.Rules as ber
use Rattle.ber_spelling.specs.Spelling as spelling
use Rattle.ber_spelling.proofs.WholeValues as ber_laws
use Rattle.ber_spelling.proofs.Steady.{eqb_itself as same_number}
use Rattle.packed_codec.specs.declared.fault.PackedFault.{PackedFault}
use Rattle.packed_codec.specs.Rules as packed
use Rattle.packed_codec.specs.Laws as packings
use Rattle.packed_codec.proofs.WholeValues as packed_laws
use Rattle.stub_tables.specs.declared.operation.Use.{Use}
use Rattle.stub_tables.specs.declared.apdu.Apdu.TheVariants as apdus
use Rattle.stub_tables.specs.Uses.{may_lack}
use Rattle.apdu_spelling.specs.Heads as heads
use Rattle.apdu_spelling.specs.Spellings.{SpelledAs, TypedAs, CarriedAs, Spells}
use Rattle.end_rules.specs.Base.{Carried, Absent, Spelled, Unspelled}
use Rattle.end_wire.specs.Heads.{whole_value, packed_value, value_at, typed_at, carried_at, value_or_lack}

abbrev no_value : Option Val
no_value = None

some_is : {X : Type 0} (a b : X) → Some a ≡ Some b → a ≡ b
some_is a b e = cc

spelled_is : (v w : Val) → Spelled v ≡ Spelled w → v ≡ w
spelled_is v w e = cc

-- ---- values

module _ (types : TypeTable) (sound : AreSoundRows types) (limit of : ℕ) (v : Val) (octets : List ℕ) where
  abbrev ber_done : Value × ℕ → Result (Value × ℕ) ReadFault
  ber_done x = Ok x

  abbrev packed_done : Value × ℕ → Result (Value × ℕ) PackedFault
  packed_done x = Ok x

  in_ber : (strict : Bool) → spelling.Spells types of strict limit v octets → whole_value (length octets) (ber.read_at types of strict limit octets) ≡ Spelled v
  in_ber strict p =
      let e : ber.read_at types of strict limit octets ≡ ber_done (v, length octets)
      = ap (ber.read_at types of strict limit) (sym (append-nil octets)) ∙ ber_laws.spelled_is_read types of strict limit v octets [] sound p in
      ap (whole_value (length octets)) e ∙ ap (λ (b : Bool). if b then Spelled v else Unspelled) (same_number (length octets))

  in_packed : limit < 2 ^ 32 → packings.Packed types of limit v octets → packed_value (length octets) (packed.read_at types of limit octets) ≡ Spelled v
  in_packed le p =
      let e : packed.read_at types of limit octets ≡ packed_done (v, length octets)
      = ap (packed.read_at types of limit) (sym (append-nil octets)) ∙ packed_laws.spelled_is_read types of limit v octets [] le p in
      ap (packed_value (length octets)) e ∙ ap (λ (b : Bool). if b then Spelled v else Unspelled) (same_number (length octets))

  pub value_read : (syntax : Syntax) → limit < 2 ^ 32 → SpelledAs syntax types limit of v octets → value_at syntax types limit of octets ≡ Spelled v
  unfolding value_at
  value_read Ber le p = in_ber false p
  value_read Der le p = in_ber true p
  value_read Packed le p = in_packed le p

module _ (types : TypeTable) (limit of : ℕ) (v : Val) (octets : List ℕ) (are : AreOctets octets) where
  tested : (w : Val) (b : Bool) → (if b then Spelled w else Unspelled) ≡ Spelled v → (b ≡ true) × (w ≡ v)
  tested w true e = (refl, spelled_is w v e)
  tested w false e = absurd cc

  of_ber : (strict : Bool) (r : Result (Value × ℕ) ReadFault) → ber.read_at types of strict limit octets ≡ r → whole_value (length octets) r ≡ Spelled v → spelling.Spells types of strict limit v octets
  of_ber strict (Ok x) e found =
      let t = tested x.0 (nat_eq x.1 (length octets)) found in
      let used : x.1 ≡ length octets = eqb-true x.1 (length octets) t.0 in
      let whole : take x.1 octets ≡ octets = ap (λ (k : ℕ). take k octets) used ∙ take-length octets in
      subst (λ (w : Value). spelling.Spells types of strict limit w octets) t.1
      (subst (λ (t : List ℕ). spelling.Spells types of strict limit x.0 t) whole (ber_laws.read_is_spelled types of strict limit octets x.0 x.1 are e).1)
  of_ber strict (Err f) e found = absurd cc

  of_packed : (r : Result (Value × ℕ) PackedFault) → packed.read_at types of limit octets ≡ r → packed_value (length octets) r ≡ Spelled v → packings.Packed types of limit v octets
  of_packed (Ok x) e found =
      let t = tested x.0 (nat_eq x.1 (length octets)) found in
      let used : x.1 ≡ length octets = eqb-true x.1 (length octets) t.0 in
      let whole : take x.1 octets ≡ octets = ap (λ (k : ℕ). take k octets) used ∙ take-length octets in
      subst (λ (w : Value). packings.Packed types of limit w octets) t.1
      (subst (λ (t : List ℕ). packings.Packed types of limit x.0 t) whole (packed_laws.read_is_spelled types of limit octets x.0 x.1 are e).1)
  of_packed (Err f) e found = absurd cc

  pub value_spelled : (syntax : Syntax) → value_at syntax types limit of octets ≡ Spelled v → SpelledAs syntax types limit of v octets
  unfolding value_at
  value_spelled Ber e = of_ber false (ber.read_at types of false limit octets) refl e
  value_spelled Der e = of_ber true (ber.read_at types of true limit octets) refl e
  value_spelled Packed e = of_packed (packed.read_at types of limit octets) refl e

-- ---- what is carried

abbrev pub all_octets : Option (List ℕ) → Type 0
all_octets None = Unit {0}
all_octets (Some os) = AreOctets os

module _ (syntax : Syntax) (types : TypeTable) (sound : AreSoundRows types) (limit : ℕ) (le : limit < 2 ^ 32) where
  typed_read : (of : Option TypeId) (v : Val) (os : List ℕ) → TypedAs syntax types limit of v os → typed_at syntax types limit of os ≡ Spelled v
  typed_read None v os p = absurd p
  typed_read (Some of) v os p = value_read types sound limit of.0 v os syntax le p

  lacks : (b : Bool) → b ≡ true → (if b then Some no_value else None) ≡ Some None
  lacks true e = refl
  lacks false e = absurd cc

  pub carried_read : (used : Option Use) (v : Option Val) (os : Option (List ℕ)) → CarriedAs syntax types limit used v os → value_or_lack used (carried_at syntax types limit used os) ≡ Some v
  carried_read None v os p = absurd p
  carried_read (Some u) None None p = lacks (may_lack u.inner u.optional) p
  carried_read (Some u) (Some v) (Some os) p = ap (value_or_lack (Some u)) (typed_read u.inner v os p)
  carried_read (Some u) None (Some os) p = absurd p
  carried_read (Some u) (Some v) None p = absurd p

  pub carried_is : (used : Option Use) (v : Val) (os : List ℕ) → CarriedAs syntax types limit used (Some v) (Some os) → carried_at syntax types limit used (Some os) ≡ Spelled v
  carried_is None v os p = absurd p
  carried_is (Some u) v os p = typed_read u.inner v os p

-- a reading of octets is none of their lack
module _ (types : TypeTable) (limit : ℕ) where
  by_test : (w : Val) (b : Bool) → (if b then Spelled w else Unspelled) ≡ Absent → ⊥
  by_test w true e = cc
  by_test w false e = cc

  of_whole : (end : ℕ) (r : Result (Value × ℕ) ReadFault) → whole_value end r ≡ Absent → ⊥
  of_whole end (Ok x) e = by_test x.0 (nat_eq x.1 end) e
  of_whole end (Err f) e = cc

  of_packs : (end : ℕ) (r : Result (Value × ℕ) PackedFault) → packed_value end r ≡ Absent → ⊥
  of_packs end (Ok x) e = by_test x.0 (nat_eq x.1 end) e
  of_packs end (Err f) e = cc

  never_absent : (s : Syntax) (n : ℕ) (os : List ℕ) → value_at s types limit n os ≡ Absent → ⊥
  unfolding value_at
  never_absent Ber n os e = of_whole (length os) (ber.read_at types n false limit os) e
  never_absent Der n os e = of_whole (length os) (ber.read_at types n true limit os) e
  never_absent Packed n os e = of_packs (length os) (packed.read_at types n limit os) e

module _ (syntax : Syntax) (types : TypeTable) (limit : ℕ) where
  lack_is : (b : Bool) (v : Option Val) → (if b then Some no_value else None) ≡ Some v → (b ≡ true) × (None ≡ v)
  lack_is true v e = (refl, some_is None v e)
  lack_is false v e = absurd cc

  with_value : (used : Option Use) (v : Option Val) (w : Val) → value_or_lack used (Spelled w) ≡ Some v → Some w ≡ v
  with_value None v w e = some_is (Some w) v e
  with_value (Some u) v w e = some_is (Some w) v e

  without_value : (used : Option Use) (v : Option Val) → value_or_lack used Unspelled ≡ Some v → ⊥
  without_value None v e = cc
  without_value (Some u) v e = cc

  typed_spelled : (u : Use) (v : Option Val) (os : List ℕ) → AreOctets os → (of : Option TypeId) (c : Carried) → typed_at syntax types limit of os ≡ c → value_or_lack (Some u) c ≡ Some v → (w : Val) × (v ≡ Some w) × TypedAs syntax types limit of w os
  typed_spelled u v os are None c e p = absurd (without_value (Some u) v (ap (value_or_lack (Some u)) e ∙ p))
  typed_spelled u v os are (Some of) (Spelled w) e p = (w, sym (with_value (Some u) v w p), value_spelled types limit of.0 w os are syntax e)
  typed_spelled u v os are (Some of) Unspelled e p = absurd (without_value (Some u) v p)
  typed_spelled u v os are (Some of) Absent e p = absurd (never_absent types limit syntax of.0 os e)

  pub carried_spelled : (used : Option Use) (v : Option Val) (os : Option (List ℕ)) → all_octets os → value_or_lack used (carried_at syntax types limit used os) ≡ Some v → CarriedAs syntax types limit used v os
  carried_spelled None v None are p = absurd cc
  carried_spelled None v (Some os) are p = absurd (without_value None v p)
  carried_spelled (Some u) v None are p =
      let l = lack_is (may_lack u.inner u.optional) v p in subst (λ (x : Option Val). CarriedAs syntax types limit (Some u) x None) l.1 l.0
  carried_spelled (Some u) v (Some os) are p =
      let t = typed_spelled u v os are u.inner (typed_at syntax types limit u.inner os) refl p in
      subst (λ (x : Option Val). CarriedAs syntax types limit (Some u) x (Some os)) (sym t.1) t.2
