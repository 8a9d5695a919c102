use Rattle.std.proofs.Common.{◌≡◌, ◌++◌, take}
use Rattle.std.specs.List.{flat_map}
use Rattle.transcript_text.specs.Texts.{indication_line}
use Rattle.transcript_text.proofs.transcript.put_indication_lines.Given as goal

abbrev pub invariant-loop-indication : goal.invariant-loop-indication
invariant-loop-indication l =
    l.text ≡ l.initial.text ++ flat_map (indication_line l.tables l.own l.side) (take l.indication-index l.indications)
