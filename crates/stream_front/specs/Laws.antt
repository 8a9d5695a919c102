-- The law of octets that are joined by more.
use Rattle.std.specs.Prelude.{ℕ, List, ◌++◌}
use Rattle.stream_front.specs.declared.scanner.Scanner.{Scanner}
use Rattle.stream_front.specs.Resuming.{HasSeen}

-- What a scanner has seen of octets it has seen where more follow.
abbrev pub SeenStaysSeen : Type 0
SeenStaysSeen = (s : Scanner) (octets more : List ℕ) → HasSeen s octets → HasSeen s (octets ++ more)
