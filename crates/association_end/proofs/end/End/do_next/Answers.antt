use Rattle.std.proofs.Common.{refl, sym, ap, ◌∙◌}
use Rattle.std.specs.Prelude.{option_map}
use Rattle.std.proofs.lemmas.Result.{err_from_is_err_and}
use Rattle.association_requests.specs.OwnActs.{seen_act}
use Rattle.association_end.proofs.ReactionSent.{kept_same}
use Rattle.association_end.proofs.end.End.do_next.Goals as goal

pub returns-in-None : goal.returns-in-None
returns-in-None c = record {
  none = sym c.in_ok-next.ensures ∙ ap (option_map seen_act) c.in-None.is;
  same = refl;
}

pub perform-requires : goal.perform-requires
perform-requires c = sym (ap (option_map seen_act) c.in-Some.is) ∙ c.in_ok-next.ensures

pub returns-in_ok-perform-in-Some : goal.returns-in_ok-perform-in-Some
returns-in_ok-perform-in-Some c = record {
  act = seen_act c.in-Some.act;
  is = sym c.in_ok-next.ensures ∙ ap (option_map seen_act) c.in-Some.is;
  made = c.in_ok-perform-in-Some.ensures.ok;
}

pub returns-in_err-next : goal.returns-in_err-next
returns-in_err-next c =
    let p = err_from_is_err_and c.from_residual.result c.from_residual.ensures.1 in
    rw p.1 (kept_same c.args.self.now c.args.self.now refl)

pub returns-in_err-perform-in-Some : goal.returns-in_err-perform-in-Some
returns-in_err-perform-in-Some c =
    let p = err_from_is_err_and c.from_residual-in_err-perform-in-Some.result c.from_residual-in_err-perform-in-Some.ensures.1 in
    rw p.1 c.in_err-perform-in-Some.ensures.err
