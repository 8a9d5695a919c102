use Rattle.bare_end.proofs.Fed.{read_short, whole_first, read_faulty}
use Rattle.bare_end.proofs.end.End.read.Goals as goal

pub returns-in-Short : goal.returns-in-Short
returns-in-Short c = read_short c.args.self.now c.args.shown.now c.args.front c.requires.up c.requires.first c.in-Short.is

pub take-requires-clause-first : goal.take-requires-clause-first
take-requires-clause-first c = (whole_first c.args.self.now.rest c.args.front c.in-Whole.used c.requires.first c.in-Whole.is).first

pub take-requires-clause-some : goal.take-requires-clause-some
take-requires-clause-some c = (whole_first c.args.self.now.rest c.args.front c.in-Whole.used c.requires.first c.in-Whole.is).some

pub take-requires-clause-within : goal.take-requires-clause-within
take-requires-clause-within c = (whole_first c.args.self.now.rest c.args.front c.in-Whole.used c.requires.first c.in-Whole.is).within

pub returns-in_ok-abort-in-Faulty : goal.returns-in_ok-abort-in-Faulty
returns-in_ok-abort-in-Faulty c =
    read_faulty c.args.self.now c.abort.new.self c.args.shown.now c.abort.new.shown c.args.front c.in-Faulty.place c.requires.up c.requires.first c.in-Faulty.is c.in_ok-abort-in-Faulty.ensures.ok c.in_ok-abort-in-Faulty.ensures.shown
