use Rattle.std.proofs.Common.{◌≡◌, refl, ℕ}
use Rattle.std.specs.Prelude.{[], Some, slice_get}
use Rattle.transfer_laws.proofs.laws.premises_are_met.Goals as goal

no-row : {X : Type 0} (n : ℕ) (x : X) → slice_get {X = X} [] n ≡ Some x → ⊥
no-row n x h = cc

pub returns : goal.returns
returns c =
    record {
      law = (
        record {
          readable = record { types = record { each = λ n row h. absurd (no-row n row h); short = λ n row h. absurd (no-row n row h) }; operations = refl; errors = refl };
          typed = record { each = λ n h. no-row n _ h };
        },
        record { mode = refl; accepted = refl },
        refl,
      );
    }
