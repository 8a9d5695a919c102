use Rattle.std.proofs.Common.{codes, List, ◌∷◌, [], ◌++◌, sym, ◌∙◌, refl, arith}
use Rattle.std.proofs.lemmas.Result.{err_from_is_err_and}
use Rattle.operation_notation.specs.GrammarTypes.{narrow}
use Rattle.operation_notation.specs.ReadingModules.{listed_imports_at, imported_at}
use Rattle.notation_tokens.specs.Lexeme.{Lexeme, begins}
use Rattle.operation_notation.specs.Reading.{◌>>=◌, Read, give, all_at, behind}
use Rattle.notation_tokens.specs.declared.token.Place.{Place}
use Rattle.operation_notation.proofs.Loops.{stops, fails, goes, fails_behind, fails_before}
use Rattle.operation_notation.proofs.cursor.Cursor.listed_imports.Goals as goal

pub loop-self-preserved : goal.loop-self-preserved
loop-self-preserved c = record {
  seen = c.loop-self.invariant.seen ++ c.in_ok-next_imported.field-0 ∷ [];
  going = goes _ _ c.loop-self.invariant.seen c.loop-self.self _ _ _ c.loop-self.invariant.going (sym c.is.ensures ∙ c.loop-self-test.true) c.in_ok-next_imported.ensures.gives c.in_ok-next_imported.ensures.takes.on_ok;
  shorter = omega (arith, c.in_ok-next_imported.ensures.takes.on_ok);
}

pub returns-in_err-next_imported-clause-gives : goal.returns-in_err-next_imported-clause-gives
unfolding listed_imports_at
returns-in_err-next_imported-clause-gives c =
    let p = err_from_is_err_and c.from_residual-in_err-next_imported.result c.from_residual-in_err-next_imported.ensures.1 in
    let more : List Lexeme → Read (List Place) = all_at (begins (codes ",")) (behind (codes ",") (imported_at narrow)) in
    let end : Place → List Place → List Lexeme → Read Place = λ first _. give first in
    let inner = fails _ _ c.loop-self.invariant.seen c.loop-self.self _ _ _ c.loop-self.invariant.going refl (sym c.is.ensures ∙ c.loop-self-test.true) c.in_err-next_imported.ensures.gives in
    rw (p.1, p.2) (fails_behind (imported_at narrow) (λ first. more >>= end first) c.args.self.now c.in_ok-first.first c.imported.new.self _ _ c.in_ok-first.ensures.gives (fails_before more (end c.in_ok-first.first) c.imported.new.self _ _ inner))

pub returns-clause-gives : goal.returns-clause-gives
unfolding listed_imports_at
returns-clause-gives c = rw (c.in_ok-first.ensures.gives, stops _ _ c.loop-self.invariant.seen c.loop-self.self _ c.loop-self.invariant.going (sym c.is.ensures ∙ c.loop-self-test.false)) refl
