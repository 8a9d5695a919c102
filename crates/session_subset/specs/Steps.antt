-- The steps of one machine on one association, the newest first.
use Rattle.std.specs.Prelude.{List}
use Rattle.osi_base.specs.declared.session_word.SessionWord.{SessionWord}

pub data Step : Type 0 where
  -- a word was requested, and is sent
  requested : SessionWord → Step
  -- a word was taken
  took : SessionWord → Step
  -- a word was passed over
  passed : SessionWord → Step
  -- a transport connection was asked for: by this end, or by the peer (X.225 6.1)
  transport_asked : Step
  -- it was refused
  transport_refused : Step
  -- the connection broke
  broke : Step

abbrev pub History : Type 0
History = List Step
