use Rattle.stream_front.proofs.Seen.{new_seen}
use Rattle.stream_front.proofs.scanner.Scanner.new.Goals as goal

pub returns : goal.returns
returns c = new_seen
