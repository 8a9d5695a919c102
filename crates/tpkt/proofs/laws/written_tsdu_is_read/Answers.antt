use Rattle.std.proofs.Common.{[], ◌++◌, refl, subst, ◌∙◌, List, ℕ}
use Rattle.std.proofs.lemmas.List.{append-nil}
use Rattle.tpkt.specs.Wire.{Splits, begun_by}
use Rattle.tpkt.specs.Written.{written_tsdu}
use Rattle.tpkt.proofs.UnitLaws.{short_yet}
use Rattle.tpkt.proofs.ReaderLaws.{short_empty}
use Rattle.tpkt.proofs.StreamLaws.{split_read}
use Rattle.tpkt.proofs.WrittenLaws.{tsdu_split, written_octets}
use Rattle.tpkt.proofs.laws.written_tsdu_is_read.Goals as goal

pub returns : goal.returns
returns c = λ size tsdu least most within fits.
    let s = tsdu_split size tsdu [] [] [] least most within refl in
    let whole : Splits [] (written_tsdu size tsdu) (s.0 ++ []) [] = subst (λ (t : List ℕ). Splits [] t (s.0 ++ []) []) (append-nil (written_tsdu size tsdu)) s.1 in
    let r = split_read (written_tsdu size tsdu) (s.0 ++ []) [] (written_octets size tsdu least most fits) whole (short_yet (begun_by [] (s.0 ++ [])) [] (short_empty _)) in
    (r.0 ∙ s.2, r.1)
