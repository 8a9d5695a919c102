-- How words of both modes are read back.
use Rattle.std.proofs.Common.{◌≡◌, refl, sym, subst, arith, ℕ, pos, List, [], ◌∷◌}
use Rattle.std.specs.Prelude.{Option, Some, None}
use Rattle.osi_base.specs.declared.layer_words.Answers.{Answers}
use Rattle.osi_base.specs.declared.layer_words.Proposal.{Proposal}
use Rattle.osi_base.specs.declared.layer_words.RestoredItem.{RestoredItem}
use Rattle.osi_base.specs.declared.acse_word.Acse.TheVariants as acse
use Rattle.osi_base.specs.declared.acse_word.Diagnostic.TheVariants.{User}
use Rattle.said_spellings.specs.acse.Written as acse_written
use Rattle.end_rules.specs.Base.{Base}
use Rattle.osi_base.specs.SetPlaces.{pair_of}
use Rattle.end_rules.specs.State.{Body}
use Rattle.end_rules.specs.Messages.{OfAssociation, OfData, OfMarks, AlterContext, AlterContextAck, Restart, RestartAck}
use Rattle.end_rules.specs.Writing.{acse_pair}
use Rattle.transfer_laws.specs.association_reading.Laws.{AlterationsAreReadBack, DataAreReadBack, RemoteIsReadBack, AssociationIsReadBack, TransferWordsAreReadBack}
use Rattle.transfer_laws.specs.association_reading.Associating.{IsMeantAs, AssociationsAreReadBack}
use Rattle.said_words.specs.Fields.{IsAlteration, AreAnswers}
use Rattle.said_words.specs.Words.{IsRestart, the_finish, the_disconnect, the_abort}
use Rattle.said_spellings.proofs.Places.{alter-in, ack-in, restart-in, restart_ack-in}
use Rattle.said_spellings.proofs.Association.{release-few, released-few, aborting-few, asking-few, accepting-few, finish-in, disconnect-in, abort-in}

-- ---- APDUs of association control as they are written

release-writable : acse_written.IsWritable (acse.ReleaseRequest (pos 0))
release-writable = let f = release-few in record { can = refl; within = omega arith }

released-writable : acse_written.IsWritable (acse.ReleaseResponse (pos 0))
released-writable = let f = released-few in record { can = refl; within = omega arith }

aborting-writable : acse_written.IsWritable (acse.Abort 0 [])
aborting-writable = let f = aborting-few in record { can = refl; within = omega arith }

pub asking-writable : acse_written.IsWritable (acse.AssociateRequest None (2 ∷ 999 ∷ 5 ∷ 3 ∷ []) [])
asking-writable = let f = asking-few in record { can = refl; within = omega arith }

pub accepting-writable : acse_written.IsWritable (acse.AssociateResponse (2 ∷ 999 ∷ 5 ∷ 3 ∷ []) 0 (User (pos 0)) [])
accepting-writable = let f = accepting-few in record { can = refl; within = omega arith }

-- how words are read back
pub record Readings : Type 0 where
  pub alterations : AlterationsAreReadBack
  pub data_words : DataAreReadBack
  pub remote : RemoteIsReadBack
  pub association : AssociationIsReadBack
  pub associations : AssociationsAreReadBack
  pub transfers : TransferWordsAreReadBack

module _ (reads : Readings) (base : Base) (body : Body) (start : ℕ) where
  -- alterations and restarts
  pub alter-meant : (add : List Proposal) (delete : List ℕ) → IsAlteration add delete → IsMeantAs base body start (OfData (AlterContext add delete))
  alter-meant add delete i = reads.alterations.alter add delete (alter-in add delete i).writable base body start

  pub ack-meant : (answers : Answers) → AreAnswers answers → IsMeantAs base body start (OfData (AlterContextAck answers))
  ack-meant answers i = reads.alterations.alter_ack answers (ack-in answers i).writable base body start

  pub restart-meant : (number : ℕ) (list : Option (List RestoredItem)) → IsRestart number list → IsMeantAs base body start (OfMarks (Restart number list))
  restart-meant number list i =
      subst (λ (l : Option (List RestoredItem)). IsMeantAs base body start (OfMarks (Restart number l))) (sym i.is_list)
      (reads.alterations.restart number (Some i.items) (restart-in i.items i.are i.count).writable base body start)

  pub restart_ack-meant : (number : ℕ) (list : Option (List RestoredItem)) → IsRestart number list → IsMeantAs base body start (OfMarks (RestartAck number list))
  restart_ack-meant number list i =
      subst (λ (l : Option (List RestoredItem)). IsMeantAs base body start (OfMarks (RestartAck number l))) (sym i.is_list)
      (reads.alterations.restart_ack number (Some i.items) (restart_ack-in i.items i.are i.count).writable base body start)

  -- the release and an abort
  pub finish-meant : pair_of body.sets.held 1 ≡ Some acse_pair → IsMeantAs base body start (OfAssociation the_finish)
  finish-meant there =
      reads.data_words.finish base body start (Some 1) _ [] finish-in.writable
      (record { pair = acse_pair; has_pair = refl; in_set = there; carries = refl; content = reads.association base.tables acse_pair (acse.ReleaseRequest (pos 0)) release-writable }, tt)

  pub disconnect-meant : pair_of body.sets.held 1 ≡ Some acse_pair → IsMeantAs base body start (OfAssociation the_disconnect)
  disconnect-meant there =
      reads.data_words.disconnect base body start _ [] disconnect-in.writable
      (record { pair = acse_pair; has_pair = refl; in_set = there; carries = refl; content = reads.association base.tables acse_pair (acse.ReleaseResponse (pos 0)) released-writable }, tt)

  pub abort-meant : IsMeantAs base body start (OfAssociation the_abort)
  abort-meant =
      reads.associations.abort base body start (Some 3) _
      (record { id = 1; apdu = acse.Abort 0 []; user = []; is_one = refl; alone = refl; of_kind = refl; writable = aborting-writable; informed = tt }) abort-in.writable
