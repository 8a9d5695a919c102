-- What the code hears in octets is what they say.
use Rattle.std.proofs.Common.{◌≡◌, ℕ, List, Result, Ok, Err, refl, sym, ap, ◌∙◌}
use Rattle.osi_base.specs.declared.syntax.Syntax.TheVariants.{Ber}
use Rattle.osi_base.specs.declared.fault.NoMemory.{NoMemory}
use Rattle.osi_base.specs.Octets.{AreOctets}
use Rattle.stub_tables.specs.Readable.{IsReadable}
use Rattle.apdu_spelling.specs.declared.head.ApduHead.{ApduHead}
use Rattle.end_wire.specs.apdu_codec.declared.fault.HeadFault.{HeadFault}
use Rattle.end_wire.specs.apdu_codec.declared.fault.HeadFault.TheVariants as fault
use Rattle.end_wire.specs.apdu_codec.HeadsRead.{HasFields, HasNone, IsRefused}
use Rattle.rose_roles.specs.declared.apdu_taken.RoseTaken as roses
use Rattle.rose_roles.specs.Hearing.{heard_with, refused_as}
use Rattle.end_rules.specs.State.{Calls}
use Rattle.end_rules.specs.Hearing.{hear}
use Rattle.end_wire.specs.Heads.{head_at, refused}
use Rattle.end_wire.specs.Values.{IsContent, content_at}
use Rattle.bare_end.specs.declared.hearing.Taken as takens
use Rattle.bare_end.specs.Told.{heard_as, HoldsOctets, Heard, HeardIn}
use Rattle.bare_end.specs.View.{EndView, base}
use Rattle.bare_end.proofs.Messages.{fields_say, refused_read, refused_mean}

-- ---- a head

pub heard_so : (old new : EndView) (fields : ApduHead) (text : List ℕ) (t : takens.Taken) → IsReadable old.tables → HasFields Ber text fields → HoldsOctets fields.rest → HeardIn old new fields t
    → Heard old new (head_at old.tables Ber text) t
heard_so old new fields text t readable p os h =
    let s = fields_say old.tables readable text fields p os in
    record { heard_is = h.heard_is s.carried s.carries ∙ ap (hear (base old) old.calls 0) s.says; end_is = h.end_is }

-- ---- octets that are no head

abbrev Rose : Type 0
Rose = Result roses.RoseTaken NoMemory

abbrev taken_in : roses.RoseTaken → Rose → roses.RoseTaken
taken_in r (Ok x) = x
taken_in r (Err m) = r

module _ (old : EndView) (t : takens.Taken) (r : roses.RoseTaken) (told_so : (calls : Calls) → heard_as calls t ≡ heard_with calls r) where
  hears_refused : (f : HeadFault) → refused_as f ≡ Ok r → heard_as old.calls t ≡ hear (base old) old.calls 0 (refused f)
  hears_refused (fault.General number) e = told_so old.calls ∙ ap (λ (y : Rose). heard_with old.calls (taken_in r y)) (sym e)
  hears_refused fault.BadReject e = told_so old.calls ∙ ap (λ (y : Rose). heard_with old.calls (taken_in r y)) (sym e)
  hears_refused fault.NoMemory e = absurd cc

  none_in : (text : List ℕ) (f : HeadFault) → IsRefused Ber text f → refused_as f ≡ Ok r → HasNone Ber text
  none_in text (fault.General number) p e = p.0
  none_in text fault.BadReject p e = p.0
  none_in text fault.NoMemory p e = absurd cc

  at_text : (text : List ℕ) (f : HeadFault) → IsReadable old.tables → AreOctets text → IsRefused Ber text f → refused_as f ≡ Ok r → refused f ≡ head_at old.tables Ber text
  at_text text (fault.General number) readable are p e = refused_read old.tables readable text are p.0 (fault.General number) p.1
  at_text text fault.BadReject readable are p e = refused_read old.tables readable text are p.0 fault.BadReject p.1
  at_text text fault.NoMemory readable are p e = absurd cc

  pub refused_heard : (text : List ℕ) (f : HeadFault) → IsReadable old.tables → AreOctets text → IsRefused Ber text f → refused_as f ≡ Ok r → Heard old old (head_at old.tables Ber text) t
  refused_heard text f readable are p e =
      record { heard_is = hears_refused f e ∙ ap (hear (base old) old.calls 0) (at_text text f readable are p e); end_is = refl }

  pub refused_means : (text : List ℕ) (f : HeadFault) → IsReadable old.tables → AreOctets text → IsRefused Ber text f → refused_as f ≡ Ok r → IsContent old.tables Ber text (content_at old.tables Ber text)
  refused_means text f readable are p e = refused_mean old.tables readable text are (none_in text f p e)
