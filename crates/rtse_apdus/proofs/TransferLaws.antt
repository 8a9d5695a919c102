-- The octets of a transfer and their one value stand for each other.
use Rattle.std.proofs.Common.{◌≡◌, ℕ, ◌^◌, ◌≤◌, ◌<◌, true, false, [], List, Option, Some, None, Result, Ok, Err, refl, ap, ◌∙◌, arith}
use Rattle.std.specs.Prelude.{pos}
use Rattle.std.proofs.lemmas.Bool.{lt-ltb}
use Rattle.osi_base.specs.declared.presentation_word.Pdv as pdvs
use Rattle.osi_base.specs.declared.presentation_word.PdvContent as contents
use Rattle.osi_base.specs.declared.presentation_word.PdvContent.TheVariants as content
use Rattle.osi_base.specs.Limits.{most_transferred}
use Rattle.asn1_types.specs.Table.{refusal, AreSoundRows}
use Rattle.asn1_types.specs.Rows.{nesting, openings}
use Rattle.asn1_types.specs.Value.{Value}
use Rattle.ber_spelling.proofs.Wholes.{whole_is}
use Rattle.ber_spelling.proofs.Written.{written_spelled}
use Rattle.fixed_tables.specs.declared.pdu.PduFault as units
use Rattle.fixed_tables.specs.Rows.{all_added}
use Rattle.fixed_tables.specs.Values.{natural_in}
use Rattle.fixed_tables.specs.Whole.{whole_at}
use Rattle.fixed_tables.proofs.Sound.{sound_of}
use Rattle.fixed_tables.proofs.WholeLaws.{whole_is_spelled, spelled_is_whole}
use Rattle.rtse_apdus.specs.TransferRows.{transfer_row, transfer_rows}
use Rattle.fixed_tables.specs.Pdvs.{content_in, content_value, pdv_in, pdv_value}
use Rattle.rtse_apdus.specs.Transfer.{of_pdv, written_transfer, SpellsTransfer, TransferIsSpelled, SpelledTransferIsRead, WrittenTransferIsRead}

pub transfer_rows_added : all_added [] transfer_rows ≡ true
unfolding refusal nesting openings
transfer_rows_added = refl

transfer_sound : AreSoundRows transfer_rows
transfer_sound = sound_of transfer_rows transfer_rows_added refl

pub transfer_is_spelled : TransferIsSpelled
transfer_is_spelled pdv text are e = by_read (whole_at transfer_rows transfer_row most_transferred text) refl e
  where
    by_read : (r : Result Value units.PduFault) → whole_at transfer_rows transfer_row most_transferred text ≡ r → of_pdv r ≡ Ok pdv → SpellsTransfer pdv text
    by_read (Ok v) h e = record {
      value = v;
      spelled = whole_is_spelled transfer_rows transfer_row most_transferred text v are h;
      says = cc;
    }
    by_read (Err f) h e = absurd cc

pub spelled_transfer_is_read : SpelledTransferIsRead
spelled_transfer_is_read pdv text p =
    ap of_pdv (spelled_is_whole transfer_rows transfer_row most_transferred text p.value transfer_sound p.spelled) ∙ ap (λ (x : pdvs.Pdv). Ok x) p.says

natural_is : (n : ℕ) → n ≤ 32767 → natural_in (pos n) ≡ n
natural_is n le = (let lt : n < 2 ^ 32 = omega arith in rw (lt-ltb n (2 ^ 32) lt) refl)

content_says : (c : contents.PdvContent) → content_in (Some (content_value c)) ≡ c
content_says (content.SingleAsn1Type os) = refl
content_says (content.OctetAligned os) = refl
content_says (content.Arbitrary string) = refl

abbrev pdv : Option (List ℕ) → ℕ → contents.PdvContent → pdvs.Pdv
pdv transfer id content = record { transfer = transfer; id = id; content = content }

says : (transfer : Option (List ℕ)) (id : ℕ) (c : contents.PdvContent) → id ≤ 32767 → pdv_in (pdv_value (pdv transfer id c)) ≡ pdv transfer id c
says None id c le = ap (λ n. pdv None n (content_in (Some (content_value c)))) (natural_is id le) ∙ ap (pdv None id) (content_says c)
says (Some name) id c le = ap (λ n. pdv (Some name) n (content_in (Some (content_value c)))) (natural_is id le) ∙ ap (pdv (Some name) id) (content_says c)

pub written_transfer_is_read : WrittenTransferIsRead
written_transfer_is_read p w =
    let text : List ℕ = written_transfer p in
    let spells : SpellsTransfer p text = record {
      value = pdv_value p;
      spelled = written_spelled whole_is transfer_rows transfer_sound transfer_row (pdv_value p) w.fitting false most_transferred (omega arith) w.within;
      says = says p.transfer p.id p.content w.identifier;
    } in
    (spells, spelled_transfer_is_read p text spells)
