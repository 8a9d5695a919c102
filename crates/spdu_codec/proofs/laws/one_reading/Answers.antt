use Rattle.std.proofs.Common.{sym, ◌∙◌}
use Rattle.spdu_codec.proofs.WireLaws.{all_found, all_again, words_are}
use Rattle.spdu_codec.proofs.laws.one_reading.Goals as goal

pub returns : goal.returns
returns c = record {
  found = λ octets words fits e. all_found octets words fits e;
  only = all_again;
  one = λ octets words others a b. words_are words others (sym (all_again octets words a) ∙ all_again octets others b);
}
