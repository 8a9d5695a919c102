-- Units of the presentation protocol as two ends say them may be written where they are carried.
use Rattle.std.proofs.Common.{◌≡◌, refl, true, false, arith, ℕ, ◌+◌, ◌≤◌, List, [], ◌∷◌, length}
use Rattle.std.specs.Prelude.{Bool, ◌&&◌, Option, Some, None}
use Rattle.std.specs.List.{list_all}
use Rattle.std.proofs.lemmas.Bool.Decides.{nat_tests}
use Rattle.osi_base.specs.declared.layer_words.Proposal.{Proposal}
use Rattle.osi_base.specs.declared.layer_words.AddAnswer.{AddAnswer}
use Rattle.osi_base.specs.declared.layer_words.Answers.{Answers}
use Rattle.osi_base.specs.declared.layer_words.RestoredItem.{RestoredItem}
use Rattle.osi_base.specs.declared.presentation_word.PdvContent.{PdvContent}
use Rattle.osi_base.specs.declared.presentation_word.PresentationWord.{PresentationWord}
use Rattle.osi_base.specs.declared.presentation_word.PresentationWord.TheVariants as unit
use Rattle.osi_base.specs.Octets.{AreOctets}
use Rattle.asn1_types.specs.Fits.{has_32_bits}
use Rattle.end_config.specs.presentation_pdus.declared.place.PpduPlace.{PpduPlace}
use Rattle.end_config.specs.presentation_pdus.declared.place.PpduPlace.TheVariants as place
use Rattle.end_config.specs.presentation_pdus.Rows.{ppdu_rows}
use Rattle.end_config.specs.presentation_pdus.Words.{row_of, value_of, written_ppdu}
use Rattle.association_worlds.specs.ppdu_laws.Written.{carries, is_written_whole, is_small, all_of, definition_sized, answer_sized, restored_sized, IsWritable}
use Rattle.der_octets.proofs.Octets.{der-octets}
use Rattle.said_words.specs.Fields.{IsContext, AreContexts, AreFew, IsReason, IsResult, AreResults, AreVerdicts, AreRestored, IsAlteration, AreAnswers}
use Rattle.said_spellings.proofs.Ppdus.{Stands, defined, answering, restoring, alter-stands, ack-stands, restart-stands, data-stands, IsContent, content_length}

both : (a b : Bool) → a ≡ true → b ≡ true → (a && b) ≡ true
both true b e f = f
both false b e f = cc

-- ---- numbers have the sizes of their types

short-so : (k : ℕ) → k ≤ 32767 → has_32_bits k ≡ true
short-so k h = grind (arith, nat_tests)

small-so : (k : ℕ) → k ≤ 3 → is_small k ≡ true
small-so k h = grind (arith, nat_tests)

pub definitions-whole : (add : List Proposal) → AreFew add → list_all definition_sized add ≡ true
definitions-whole [] h = refl
definitions-whole (p ∷ ps) h = both (definition_sized p) (list_all definition_sized ps) (short-so p.id h.0.1) (definitions-whole ps h.2)

deletions-whole : (ks : List ℕ) → AreContexts ks → list_all has_32_bits ks ≡ true
deletions-whole [] h = refl
deletions-whole (k ∷ ks) h = both (has_32_bits k) (list_all has_32_bits ks) (short-so k h.0.1) (deletions-whole ks h.1)

reason-whole : (r : Option ℕ) → IsReason r → all_of is_small r ≡ true
reason-whole None h = refl
reason-whole (Some r) h = small-so r h

result-whole : (a : AddAnswer) → IsResult a → answer_sized a ≡ true
result-whole a h = let r : a.result ≤ 2 = h.result in both (is_small a.result) (all_of is_small a.reason) (small-so a.result (omega arith)) (reason-whole a.reason h.reason)

pub results-whole : (xs : List AddAnswer) → AreResults xs → list_all answer_sized xs ≡ true
results-whole [] h = refl
results-whole (x ∷ xs) h = both (answer_sized x) (list_all answer_sized xs) (result-whole x h.0) (results-whole xs h.1)

verdicts-whole : (xs : List ℕ) → AreVerdicts xs → list_all is_small xs ≡ true
verdicts-whole [] h = refl
verdicts-whole (x ∷ xs) h = let s : x ≤ 1 = h.0 in both (is_small x) (list_all is_small xs) (small-so x (omega arith)) (verdicts-whole xs h.1)

restored-whole : (xs : List RestoredItem) → AreRestored xs → list_all restored_sized xs ≡ true
restored-whole [] h = refl
restored-whole (x ∷ xs) h = both (restored_sized x) (list_all restored_sized xs) (short-so x.id h.0.1) (restored-whole xs h.2)

pub pdv-whole : (id : ℕ) (content : PdvContent) → IsContext id → (has_32_bits id && true) ≡ true
pdv-whole id content h = both (has_32_bits id) true (short-so id h.1) refl

-- ---- a unit in its place

pub record InPlace (carrier : PpduPlace) (word : PresentationWord) (most : ℕ) : Type 0 where
  pub writable : IsWritable carrier word
  pub octets : AreOctets (written_ppdu word)
  pub few : length (written_ppdu word) ≤ most

pub stands-in : (carrier : PpduPlace) (word : PresentationWord) (most : ℕ) → most ≤ 400000 → carries carrier word ≡ true → is_written_whole word ≡ true → Stands (row_of word) (value_of word) most → InPlace carrier word most
stands-in carrier word most m c w s =
    let few : length (written_ppdu word) ≤ most = s.few in
    record {
      writable = record { carried = c; whole = w; fitting = s.fitting; within = omega arith };
      octets = der-octets ppdu_rows (row_of word) (value_of word) s.leaves (omega arith);
      few = few;
    }

pub alter-in : (add : List Proposal) (delete : List ℕ) → IsAlteration add delete → InPlace place.Td (unit.Alter add delete) 131600
alter-in add delete i =
    stands-in place.Td (unit.Alter add delete) 131600 (omega arith) refl (both (list_all definition_sized add) (list_all has_32_bits delete) (definitions-whole add i.added) (deletions-whole delete i.deleted))
    (alter-stands add delete (defined add i.named i.added) i.deleted i.count i.deletions)

pub ack-in : (answers : Answers) → AreAnswers answers → InPlace place.Td (unit.AlterAck answers) 131600
ack-in answers i =
    stands-in place.Td (unit.AlterAck answers) 131600 (omega arith) refl (both (list_all answer_sized answers.added) (list_all is_small answers.deleted) (results-whole answers.added i.added) (verdicts-whole answers.deleted i.deleted))
    (ack-stands answers.added answers.deleted (answering answers.added i.added) i.deleted i.count i.deletions)

pub restart-in : (items : List RestoredItem) → AreRestored items → length items ≤ 64 → InPlace place.Rs (unit.Resynchronize (Some items)) 16500
restart-in items i few =
    stands-in place.Rs (unit.Resynchronize (Some items)) 16500 (omega arith) refl (restored-whole items i) (restart-stands items (restoring items i) few)

pub restart_ack-in : (items : List RestoredItem) → AreRestored items → length items ≤ 64 → InPlace place.Ra (unit.ResynchronizeAck (Some items)) 16500
restart_ack-in items i few =
    stands-in place.Ra (unit.ResynchronizeAck (Some items)) 16500 (omega arith) refl (restored-whole items i) (restart-stands items (restoring items i) few)

-- user data of one value
pub data-in : (carrier : PpduPlace) (id : ℕ) (content : PdvContent) → carries carrier (unit.Data (record { transfer = None; id = id; content = content } ∷ [])) ≡ true → IsContext id → IsContent content → content_length content ≤ 300000 →
    InPlace carrier (unit.Data (record { transfer = None; id = id; content = content } ∷ [])) (22 + content_length content)
data-in carrier id content c i is few =
    stands-in carrier (unit.Data (record { transfer = None; id = id; content = content } ∷ [])) (22 + content_length content) (omega arith) c (pdv-whole id content i) (data-stands id content i is few)
