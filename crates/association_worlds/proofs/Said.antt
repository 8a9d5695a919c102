-- A word of the session alone means itself.
use Rattle.std.proofs.Common.{[], ◌∷◌, inl, inr, None}
use Rattle.std.specs.Prelude.{◌⊎◌, Some}
use Rattle.association_reading.specs.end_rules.Messages.{Word, OfAssociation, OfData, OfMarks, OfActivities, Connect, Accept, Refuse, Finish, Disconnect, Abort, AbortAccept, NoData, ProviderReason, UserValues, Mark, MarkAck, Restart, RestartAck, Give, Please, GiveConfirm, GiveAck}
use Rattle.said_words.specs.end_model.BothEnds.{base_at, body_at}
use Rattle.association_reading.specs.Laws.{IsOfSession, SessionWordsAreReadBack}
use Rattle.association_worlds.specs.Laws.{SaidIsMeant}

decide : (word : Word) → IsOfSession word ⊎ (IsOfSession word → ⊥)
decide (OfAssociation (Connect session presentation values)) = inr (λ x. x)
decide (OfAssociation (Accept session presentation values)) = inr (λ x. x)
decide (OfAssociation (Refuse transport reason (Some p) values)) = inr (λ x. x)
decide (OfAssociation (Refuse transport reason None [])) = inl tt
decide (OfAssociation (Refuse transport reason None (v ∷ values))) = inr (λ x. x)
decide (OfAssociation (Finish transport values)) = inr (λ x. x)
decide (OfAssociation (Disconnect values)) = inr (λ x. x)
decide (OfAssociation (Abort transport NoData)) = inl tt
decide (OfAssociation (Abort transport (ProviderReason reason))) = inr (λ x. x)
decide (OfAssociation (Abort transport (UserValues values))) = inr (λ x. x)
decide (OfAssociation AbortAccept) = inl tt
decide (OfData word) = inr (λ x. x)
decide (OfMarks (Mark number)) = inl tt
decide (OfMarks (MarkAck number)) = inl tt
decide (OfMarks (Restart number list)) = inr (λ x. x)
decide (OfMarks (RestartAck number list)) = inr (λ x. x)
decide (OfMarks (Give tokens)) = inl tt
decide (OfMarks (Please tokens [])) = inl tt
decide (OfMarks (Please tokens (v ∷ values))) = inr (λ x. x)
decide (OfMarks GiveConfirm) = inl tt
decide (OfMarks GiveAck) = inl tt
decide (OfActivities word) = inl tt

pub said-meant : SessionWordsAreReadBack → SaidIsMeant
said-meant session_words common associated never said =
    record {
      associated = associated;
      carried = said.carried;
      faultless = never;
      meant = λ two ledger g role word left body answers shown start e r.
          elim (decide word) [
            | inl s ↦ session_words word s (base_at role common) (body_at role two) start
            | inr n ↦ said.meant two ledger g role word left body answers shown start n e r
          ];
    }
