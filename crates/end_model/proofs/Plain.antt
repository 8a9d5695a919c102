-- A codec that may write every value: the context, then the parts of the APDU.
use Rattle.std.proofs.Common.{◌≡◌, refl, true, ap, ◌∙◌, ◌∷◌}
use Rattle.std.specs.Prelude.{Some, None}
use Rattle.agreement.specs.Messages.{Apdu}
use Rattle.agreement.specs.Messages.Problem.{General, OfInvocation, OfResult, OfError}
use Rattle.agreement.specs.Messages.Apdu.{Invoke, Outcome, Reject}
use Rattle.agreement.specs.Cases.{written_plainly, read_plainly, value_of_parts, apdu_of}
use Rattle.end_model.specs.Seen.{Free}
use Rattle.end_model.specs.BothEnds.{HasCodec}

apdu-read : (a : Apdu) → apdu_of (written_plainly a) ≡ Some a
apdu-read (Invoke number operation None argument) = refl
apdu-read (Invoke number operation (Some link) argument) = refl
apdu-read (Outcome number content) = refl
apdu-read (Reject number (General code)) = refl
apdu-read (Reject number (OfInvocation code)) = refl
apdu-read (Reject number (OfResult code)) = refl
apdu-read (Reject number (OfError code)) = refl

plain : Free
plain =
    record {
      codec = record {
        written = λ value. value.identifier ∷ written_plainly value.apdu;
        read = read_plainly;
        may_write = λ value. true;
        faithful = λ set value w e.
            ap (λ p. value_of_parts value.identifier p (apdu_of (written_plainly value.apdu))) e ∙ ap (value_of_parts value.identifier (Some value.pair)) (apdu-read value.apdu);
      };
    }

pub has-codec : HasCodec
unfolding plain
has-codec = (plain, λ value. refl)
