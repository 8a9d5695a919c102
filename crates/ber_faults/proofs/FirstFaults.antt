-- The laws of first faults.
use Rattle.std.proofs.Common.{◌≡◌, ℕ, Bool, List, length, Err, sym, subst, ◌∙◌, inl, inr}
use Rattle.asn1_types.specs.declared.row.TypeRow.{TypeRow}
use Rattle.asn1_types.specs.Value.{Value}
use Rattle.ber_spelling.specs.declared.fault.ReadFault.{ReadFault}
use Rattle.ber_spelling.specs.declared.fault.ReadFault.TheVariants.{NotSpelled, Short, TooDeep, TooLong, NoMemory}
use Rattle.osi_base.specs.Octets.{AreOctets}
use Rattle.osi_base.proofs.OctetLaws.{octets_right}
use Rattle.ber_spelling.specs.Reading.{Spot, Opened, Reading, ◌>>=◌}
use Rattle.ber_spelling.specs.Fields.{identifier_at}
use Rattle.ber_spelling.specs.Rules.{plain, outermost, reads, value_at, read_at}
use Rattle.ber_spelling.specs.Laws.{IsAt}
use Rattle.ber_spelling.proofs.Identifiers.{done}
use Rattle.ber_spelling.proofs.FirstFaults.{fault_is_first}
use Rattle.ber_spelling.proofs.WholeValues.{one_of_three}
use Rattle.ber_faults.specs.Fields.{Opens}
use Rattle.ber_faults.specs.FirstFault.{HasPlace, ValueFault}
use Rattle.ber_faults.specs.Laws.{GivenIsFirst, FirstIsGiven, OneFirst, ThreeCases, ShortExactly, TooDeepIsFull}
use Rattle.ber_faults.proofs.Steps.{bind_err, bind_fails, bind_goes, failed, err_is, not_err, in_within}
use Rattle.ber_faults.proofs.Identifiers.{identifier_err, identifier_fails, opens_found, opens_read}
use Rattle.ber_faults.proofs.Depths.{first_deep}
use Rattle.ber_faults.proofs.Rows.{row_fault_found, row_fault_told}

abbrev with_length : Value × Spot → Reading (Value × ℕ)
with_length x = done {A = Value × ℕ} (x.0, x.1.place)

abbrev behind : List TypeRow → ℕ → Bool → ℕ → Opened × Spot → Reading (Value × Spot)
behind rows n strict limit x = reads rows n plain (outermost limit strict) x.0 x.1

octets_behind : (rows : List TypeRow) (strict : Bool) (limit : ℕ) (bytes : List ℕ) (o : Opened) (s : Spot) → Opens (outermost limit strict) 0 bytes o s → AreOctets bytes → AreOctets s.rest
octets_behind rows strict limit bytes o s h are = octets_right h.head s.rest (subst AreOctets h.parts are)

has_place : (f : ReadFault) (place : ℕ) → IsAt f place → HasPlace f
has_place (NotSpelled at kind) place h = tt
has_place (TooDeep at) place h = tt
has_place (TooLong at) place h = tt
has_place Short place h = absurd h
has_place NoMemory place h = absurd h

value_fault : (rows : List TypeRow) (n : ℕ) (strict : Bool) (limit : ℕ) (bytes : List ℕ) (f : ReadFault) → AreOctets bytes
    → (f ≡ Short → ⊥) → read_at rows n strict limit bytes ≡ Err f → ValueFault rows n strict limit bytes f
unfolding read_at value_at reads
value_fault rows n strict limit bytes f are ne e =
    elim (bind_err (identifier_at (outermost limit strict) 0 bytes >>= behind rows n strict limit) with_length f e) [
      | inl t ↦ elim (bind_err (identifier_at (outermost limit strict) 0 bytes) (behind rows n strict limit) f t) [
        | inl u ↦ inl (identifier_err (outermost limit strict) 0 bytes f ne are u)
        | inr u ↦
            let h = opens_found (outermost limit strict) 0 bytes u.0.0 u.0.1 are u.1 in
            inr (u.0.0, u.0.1, h, (row_fault_found rows (length rows) n plain).finds (outermost limit strict) u.0.0 u.0.1 f ne (octets_behind rows strict limit bytes u.0.0 u.0.1 h are) (in_within (outermost limit strict) u.0.1.place h.within) u.2)
      ]
      | inr t ↦ absurd (not_err {A = Value × ℕ} (t.0.0, t.0.1.place) f t.2)
    ]

pub given_is_first : GivenIsFirst
given_is_first rows n strict limit bytes f are ne e =
    let p = fault_is_first rows n strict limit bytes f ne e in
    (has_place f p.0 p.1, value_fault rows n strict limit bytes f are ne e)

pub first_is_given : FirstIsGiven
unfolding read_at value_at reads
first_is_given rows n strict limit bytes f sound are h =
    bind_fails (identifier_at (outermost limit strict) 0 bytes >>= behind rows n strict limit) with_length f (elim h.1 [
      | inl t ↦ bind_fails (identifier_at (outermost limit strict) 0 bytes) (behind rows n strict limit) f (identifier_fails (outermost limit strict) 0 bytes f t)
      | inr t ↦
          bind_goes (identifier_at (outermost limit strict) 0 bytes) (behind rows n strict limit) (t.0, t.1) (failed f) (opens_read (outermost limit strict) 0 bytes t.0 t.1 t.2)
          (let x = t.2 in (row_fault_told rows sound (length rows) n plain).tells (outermost limit strict) t.0 t.1 f (octets_behind rows strict limit bytes t.0 t.1 t.2 are) (in_within (outermost limit strict) t.1.place x.within) t.3)
    ])

pub one_first : OneFirst
one_first rows n strict limit bytes f g sound are x y =
    err_is {A = Value × ℕ} f g (sym (first_is_given rows n strict limit bytes f sound are x) ∙ first_is_given rows n strict limit bytes g sound are y)

no_short : (f : ReadFault) → f ≡ Short → HasPlace f → ⊥
no_short f e h = subst HasPlace e h

pub three_cases : ThreeCases
three_cases rows n strict limit bytes sound are =
    elim (one_of_three rows n strict limit bytes sound are) [
      | inl t ↦ inl (t.0, λ h. t.1 h.0 (first_is_given rows n strict limit bytes h.0 sound are h.1))
      | inr t ↦ elim t [
        | inl u ↦ inr (inl (u.0, (u.1, given_is_first rows n strict limit bytes u.1 are u.2 u.3)))
        | inr u ↦ inr (inr ((u.0, λ h. no_short h.0 (err_is {A = Value × ℕ} h.0 Short (sym (first_is_given rows n strict limit bytes h.0 sound are h.1) ∙ u.1)) h.1.0), u.1))
      ]
    ]

pub short_exactly : ShortExactly
short_exactly rows n strict limit bytes sound are = (
  λ e. elim (one_of_three rows n strict limit bytes sound are) [
    | inl t ↦ absurd (t.1 Short e)
    | inr t ↦ elim t [
      | inl u ↦ absurd (let same : failed {A = Value × ℕ} u.1 ≡ failed Short = sym u.3 ∙ e in u.2 (err_is {A = Value × ℕ} u.1 Short same))
      | inr u ↦ (u.0, λ h. no_short h.0 (err_is {A = Value × ℕ} h.0 Short (sym (first_is_given rows n strict limit bytes h.0 sound are h.1) ∙ e)) h.1.0)
    ]
  ],
  λ s. elim (three_cases rows n strict limit bytes sound are) [
    | inl t ↦ absurd (s.0 t.0)
    | inr t ↦ elim t [ inl u ↦ absurd (s.1 u.1) | inr u ↦ u.1 ]
  ],
)

pub too_deep_is_full : TooDeepIsFull
too_deep_is_full rows n strict limit bytes place sound h = first_deep rows sound n strict limit bytes place h
