-- Which units may be written, and that they are read back.
use Rattle.std.specs.Prelude.{◌≡◌, ℕ, ◌≤◌, Bool, true, false, ◌&&◌, [], ◌∷◌, length, Option, Some, None, nat_lt, is_none}
use Rattle.std.specs.List.{list_all}
use Rattle.osi_base.specs.declared.layer_words.Proposal as proposals
use Rattle.osi_base.specs.declared.layer_words.AddAnswer as answers
use Rattle.osi_base.specs.declared.layer_words.RestoredItem as restored
use Rattle.osi_base.specs.declared.presentation_word.Pdv as pdvs
use Rattle.osi_base.specs.declared.presentation_word.PresentationWord as units
use Rattle.osi_base.specs.declared.presentation_word.PresentationWord.TheVariants as unit
use Rattle.osi_base.specs.Limits.{most_spelled}
use Rattle.asn1_types.specs.Fits.{has_form, has_32_bits}
use Rattle.presentation_pdus.specs.declared.place.PpduPlace.{PpduPlace}
use Rattle.presentation_pdus.specs.declared.place.PpduPlace.TheVariants as place
use Rattle.presentation_pdus.specs.Rows.{ppdu_rows}
use Rattle.presentation_pdus.specs.Words.{row_of, value_of, written_ppdu}

-- the kind of session unit carries units of this kind
abbrev pub carries : PpduPlace → units.PresentationWord → Bool
carries place.Cn (unit.Connect c) = true
carries place.Ac (unit.Accept a) = true
carries place.Rf (unit.Reject r) = true
carries place.Fn (unit.Data user) = true
carries place.Dn (unit.Data user) = true
carries place.Ab (unit.UserAbort contexts user) = true
carries place.Ab (unit.ProviderAbort reason event) = true
carries place.Pt (unit.Data user) = true
carries place.Td (unit.Alter add delete) = true
carries place.Td (unit.AlterAck answers) = true
carries place.Dt (unit.Data user) = true
carries place.Rs (unit.Resynchronize restored) = true
carries place.Ra (unit.ResynchronizeAck restored) = true
carries carrier word = false

abbrev pub is_small : ℕ → Bool
is_small n = nat_lt n 256

abbrev pub all_of : {A : Type 0} → (A → Bool) → Option A → Bool
all_of f None = true
all_of f (Some x) = f x

abbrev pub definition_sized : proposals.Proposal → Bool
definition_sized p = has_32_bits p.id

abbrev pub answer_sized : answers.AddAnswer → Bool
answer_sized a = is_small a.result && all_of is_small a.reason

abbrev pub restored_sized : restored.RestoredItem → Bool
restored_sized r = has_32_bits r.id

abbrev pub pdv_sized : pdvs.Pdv → Bool
pdv_sized p = has_32_bits p.id

-- numbers have the sizes of their types, and a default context, which isn't written, lacks; data has a value
abbrev pub is_written_whole : units.PresentationWord → Bool
is_written_whole (unit.Connect c) = list_all definition_sized c.definitions && is_none c.default_context && list_all pdv_sized c.user
is_written_whole (unit.Accept a) = list_all answer_sized a.results && list_all pdv_sized a.user
is_written_whole (unit.Reject r) = list_all answer_sized r.results && all_of is_small r.default_result && list_all pdv_sized r.user
is_written_whole (unit.Alter add delete) = list_all definition_sized add && list_all has_32_bits delete
is_written_whole (unit.AlterAck answers) = list_all answer_sized answers.added && list_all is_small answers.deleted
is_written_whole (unit.Resynchronize restored) = all_of (list_all restored_sized) restored
is_written_whole (unit.ResynchronizeAck restored) = all_of (list_all restored_sized) restored
is_written_whole (unit.UserAbort contexts user) = all_of (list_all restored_sized) contexts && list_all pdv_sized user
is_written_whole (unit.ProviderAbort reason event) = true
is_written_whole (unit.Data []) = false
is_written_whole (unit.Data (p ∷ user)) = list_all pdv_sized (p ∷ user)

-- a unit that may be written: its value has the form of its row
pub record IsWritable (carrier : PpduPlace) (word : units.PresentationWord) : Type 0 where
  pub carried : carries carrier word ≡ true
  pub whole : is_written_whole word ≡ true
  pub fitting : has_form ppdu_rows (row_of word) (value_of word) ≡ true
  pub within : length (written_ppdu word) ≤ most_spelled
