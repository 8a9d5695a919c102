use Rattle.std.proofs.Common.{sym, subst, ◌∙◌, rules}
use Rattle.tpkt.specs.Reader.{IsSoundReader, ReaderProgress}
use Rattle.tpkt.proofs.ReaderLaws.{goes_on, after_sound, after_some_fault, after_nothing}
use Rattle.tpkt.proofs.reader_state.all_taken.Goals as goal

pub loop-rest-preserved : goal.loop-rest-preserved
loop-rest-preserved c =
    let f : ReaderProgress = record { packets = c.loop-rest.packets; held = c.loop-rest.held } in
    let g : ReaderProgress = record { packets = c.some_taken.new.packets; held = c.in_ok-next.next } in
    record {
      reads = rw c.split_at.ensures.back (goes_on f g _ c.loop-rest.rest.now c.in_ok-next.count c.in_ok-next.ensures.read c.loop-rest.invariant.reads);
      sound = subst (λ (h : ReaderProgress). IsSoundReader h.held) c.in_ok-next.ensures.read (after_sound f _ c.loop-rest.invariant.sound);
    }

pub returns-then-is_some-clause-read : goal.returns-then-is_some-clause-read
returns-then-is_some-clause-read c = sym c.loop-rest.invariant.reads ∙ after_some_fault _ c.loop-rest.rest.now (sym c.is_some.ensures ∙ c.if-is_some.true)

pub returns-clause-read : goal.returns-clause-read
returns-clause-read c = sym c.loop-rest.invariant.reads ∙ after_nothing _ c.loop-rest.rest.now (search rules)
