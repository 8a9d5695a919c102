-- Message after message is read, and the octets of a feed.
use Rattle.std.proofs.Common.{◌≡◌, ℕ, Bool, true, false, if◌then◌else◌, List, [], ◌∷◌, ◌++◌, None, refl, sym, ap, subst, ◌∙◌, append_assoc}
use Rattle.std.proofs.lemmas.List.{append-nil}
use Rattle.std.specs.Prelude.{option_map}
use Rattle.dialogue.specs.declared.config.Phase.TheVariants.{Dead}
use Rattle.dialogue.specs.declared.indication.Indication.{Indication}
use Rattle.end_rules.specs.Base.{Base}
use Rattle.end_rules.specs.State.{passes_over}
use Rattle.end_rules.specs.History.{Step, fed, feed_end, ByItself}
use Rattle.association_line.specs.association_reading.Front.{with_octets}
use Rattle.association_line.specs.Line.{End, after, after_all}
use Rattle.association_line.specs.Feeding.{Reads, is_over, Begins, nothing_read, all_read, BeginsByItself}
use Rattle.association_end.specs.View.{EndView, base, Stepped}
use Rattle.association_end.specs.Fed.{Fed, BeganFeed, DiedFed}
use Rattle.association_end.specs.Progress.{Keeps, ReadsOn, ReadOne, ReadAll, BeganReading, DidOwn, BeganOwn}
use Rattle.association_end.specs.OneMessage.{with_came}
use Rattle.association_end.proofs.Histories.{same_base, stands_on, stepped_on, after_all-append}

pub reads_on_start : (e : EndView) (before : List Indication) → ReadsOn e e before before
reads_on_start e before = record {
  steps = [];
  told = [];
  made = record { tables = refl; config = refl; end = refl };
  shown_is = sym (append-nil before);
  goes_on = λ more later r. r;
  begins_on = λ more r. r;
}

-- what is so of the next end is so of the one before with its steps
moved_back : (now next : EndView) (steps : List Step) → Stepped now next steps → (P : Base → End → Type 0) → P (base next) next.end → P (base now) (after_all (base now) now.end steps)
moved_back now next steps s P p = subst (P (base now)) s.end (subst (λ (b : Base). P b next.end) (same_base now next steps s) p)

-- the same the other way round
moved_on : (now next : EndView) (steps : List Step) → Stepped now next steps → (P : Base → End → Type 0) → P (base now) (after_all (base now) now.end steps) → P (base next) next.end
moved_on now next steps s P p = subst (λ (b : Base). P b next.end) (sym (same_base now next steps s)) (subst (P (base now)) (sym s.end) p)

-- what is so of steps in two pieces is so of all
joined : (P : List Step → List Indication → Type 0) (xs ys zs : List Step) (ts us vs : List Indication) → P (xs ++ (ys ++ zs)) (ts ++ (us ++ vs)) → P ((xs ++ ys) ++ zs) ((ts ++ us) ++ vs)
joined P xs ys zs ts us vs p =
    subst (λ (l : List Step). P l ((ts ++ us) ++ vs)) (sym (append_assoc xs ys zs)) (subst (P (xs ++ (ys ++ zs))) (sym (append_assoc ts us vs)) p)

joined_steps : (P : List Step → Type 0) (xs ys zs : List Step) → P (xs ++ (ys ++ zs)) → P ((xs ++ ys) ++ zs)
joined_steps P xs ys zs p = subst P (sym (append_assoc xs ys zs)) p

-- the end of steps in two pieces
end_split : (old now : EndView) (xs ys : List Step) → Stepped old now xs → after_all (base now) now.end ys ≡ after_all (base old) old.end (xs ++ ys)
end_split old now xs ys s =
    ap (λ (b : Base). after_all b now.end ys) (same_base old now xs s)
    ∙ ap (λ (e : End). after_all (base old) e ys) s.end ∙ sym (after_all-append (base old) old.end xs ys)

-- what is so behind both pieces is so behind the second
split : (old now : EndView) (xs ys : List Step) → Stepped old now xs → (P : Base → End → Type 0) → P (base old) (after_all (base old) old.end (xs ++ ys)) → P (base now) (after_all (base now) now.end ys)
split old now xs ys s P p =
    subst (P (base now)) (sym (end_split old now xs ys s)) (subst (λ (b : Base). P b (after_all (base old) old.end (xs ++ ys))) (sym (same_base old now xs s)) p)

shown_on : (before told later shown after : List Indication) → shown ≡ before ++ told → after ≡ shown ++ later → after ≡ before ++ (told ++ later)
shown_on before told later shown after h k = k ∙ ap (λ (s : List Indication). s ++ later) h ∙ append_assoc before told later

-- ---- message after message

module _ (old now next : EndView) (before shown after : List Indication) (h : ReadsOn old now before shown) where
  -- what is so of an end of the second piece, led back to the first end
  back_reads : (steps more : List Step) (told later : List Indication) → Reads (base now) now.end (steps ++ more) (told ++ later) → Reads (base old) old.end ((h.steps ++ steps) ++ more) ((h.told ++ told) ++ later)
  back_reads steps more told later r =
      joined (λ (xs : List Step) (ts : List Indication). Reads (base old) old.end xs ts) h.steps steps more h.told told later
      (h.goes_on (steps ++ more) (told ++ later) (moved_back old now h.steps h.made (λ (b : Base) (e : End). Reads b e (steps ++ more) (told ++ later)) r))

  back_begins : (steps more : List Step) → Begins (base now) now.end (steps ++ more) → Begins (base old) old.end ((h.steps ++ steps) ++ more)
  back_begins steps more r =
      joined_steps (Begins (base old) old.end) h.steps steps more
      (h.begins_on (steps ++ more) (moved_back old now h.steps h.made (λ (b : Base) (e : End). Begins b e (steps ++ more)) r))

  pub reads_on_more : ReadOne now next shown after → ReadsOn old next before after
  reads_on_more d =
      let one : ReadsOn now next shown after = d.on in
      record {
        steps = h.steps ++ one.steps;
        told = h.told ++ one.told;
        made = stepped_on old now next h.steps one.steps h.made one.made;
        shown_is = shown_on before h.told one.told shown after h.shown_is one.shown_is;
        goes_on = λ more later r.
            back_reads d.on.steps more d.on.told later
            (d.on.goes_on more later (split old now h.steps d.on.steps h.made (λ (b : Base) (e : End). Reads b e more later) r));
        begins_on = λ more r.
            back_begins d.on.steps more
            (d.on.begins_on more (split old now h.steps d.on.steps h.made (λ (b : Base) (e : End). Begins b e more) r));
      }

  pub reads_on_end : ReadAll now next shown after → ReadAll old next before after
  reads_on_end last = record {
    steps = h.steps ++ last.steps;
    told = h.told ++ last.told;
    made = stepped_on old now next h.steps last.steps h.made last.made;
    shown_is = shown_on before h.told last.told shown after h.shown_is last.shown_is;
    reads = h.goes_on last.steps last.told (moved_back old now h.steps h.made (λ (b : Base) (e : End). Reads b e last.steps last.told) last.reads);
    rests = last.rests;
    begins_on = λ more r.
        back_begins last.steps more
        (last.begins_on more (split old now h.steps last.steps h.made (λ (b : Base) (e : End). Begins b e more) r));
  }

-- an end that is over has read all
over_read : (e : EndView) (before : List Indication) → passes_over e.end.body.link.phase ≡ true → ReadAll e e before before
over_read e before over = record {
  steps = [];
  told = [];
  made = record { tables = refl; config = refl; end = refl };
  shown_is = sym (append-nil before);
  reads = is_over over;
  rests = is_over over;
  begins_on = λ more r. r;
}

pub reads_on_over : (old now : EndView) (before shown : List Indication) → ReadsOn old now before shown → passes_over now.end.body.link.phase ≡ true → ReadAll old now before shown
reads_on_over old now before shown h over = reads_on_end old now now before shown shown h (over_read now shown over)

pub reads_on_kept : (old now next : EndView) (before shown : List Indication) → ReadsOn old now before shown → Keeps now next → BeganReading old next
reads_on_kept old now next before shown h k = record {
  tables = k.tables ∙ h.made.tables;
  config = k.config ∙ h.made.config;
  steps = h.steps;
  begins = subst (Begins (base old) old.end) (append-nil h.steps) (h.begins_on [] nothing_read);
  due = k.waiting ∙ ap (λ (e : End). e.line.waiting) h.made.end;
}

-- ---- a feed

pub kept_over : (old new : EndView) (octets : List ℕ) → passes_over old.end.body.link.phase ≡ true → new ≡ with_came None old → Stepped old new (fed octets ∷ [])
kept_over old new octets over n = record {
  tables = ap (λ (e : EndView). e.tables) n;
  config = ap (λ (e : EndView). e.config) n;
  end = ap (λ (e : EndView). e.end) n ∙ ap (λ (k : Bool). record old.end { line = record old.end.line { came = if k then None else option_map (with_octets octets) old.end.line.came } }) (sym over);
}

pub kept_up : (old new : EndView) (octets : List ℕ) → passes_over old.end.body.link.phase ≡ false → new ≡ with_came (option_map (with_octets octets) old.end.line.came) old → Stepped old new (fed octets ∷ [])
kept_up old new octets up n = record {
  tables = ap (λ (e : EndView). e.tables) n;
  config = ap (λ (e : EndView). e.config) n;
  end = ap (λ (e : EndView). e.end) n ∙ ap (λ (k : Bool). record old.end { line = record old.end.line { came = if k then None else option_map (with_octets octets) old.end.line.came } }) (sym up);
}

module _ (old m1 : EndView) (octets : List ℕ) (s : Stepped old m1 (fed octets ∷ [])) where
  abbrev from : End
  from = after (base old) old.end (fed octets)

  abbrev all_steps : List Step → List Step → List Step
  all_steps reading own = fed octets ∷ (reading ++ feed_end ∷ own)

  module _ (m2 : EndView) (shown : List Indication) (r : ReadAll m1 m2 [] shown) where
    read_made : Stepped old m2 (fed octets ∷ r.steps)
    read_made = stepped_on old m1 m2 (fed octets ∷ []) r.steps s r.made

    abbrev stood : End
    stood = after_all (base old) from r.steps

    pub fed_all : (new : EndView) → DidOwn m2 new → Fed old new octets shown
    fed_all new d =
        let made : Stepped old new (all_steps r.steps d.own) = all_made new d in
        record {
          steps = all_steps r.steps d.own;
          feeds = record {
            reading = r.steps;
            own = d.own;
            all = refl;
            reads = subst (Reads (base old) from r.steps) (sym r.shown_is) (moved_back old m1 (fed octets ∷ []) s (λ (b : Base) (e : End). Reads b e r.steps r.told) r.reads);
            by_itself = moved_back old m2 (fed octets ∷ r.steps) read_made (λ (b : Base) (e : End). ByItself b e.body d.own) d.by_itself;
          };
          made = made;
          stands = stands_on old new (all_steps r.steps d.own) made;
        }
      where
        -- the end of a feed changes nothing
        behind_end : (own : List Step) → after_all (base old) old.end (all_steps r.steps own) ≡ after_all (base old) old.end ((fed octets ∷ r.steps) ++ own)
        behind_end own = after_all-append (base old) from r.steps (feed_end ∷ own) ∙ sym (after_all-append (base old) from r.steps own)

        all_made : (new : EndView) (d : DidOwn m2 new) → Stepped old new (all_steps r.steps d.own)
        all_made new d = record {
          tables = d.made.tables ∙ read_made.tables;
          config = d.made.config ∙ read_made.config;
          end = d.made.end ∙ end_split old m2 (fed octets ∷ r.steps) d.own read_made ∙ sym (behind_end d.own);
        }

    pub began_own : (new : EndView) → BeganOwn m2 new → BeganFeed old new octets
    began_own new d = record {
      tables = d.tables ∙ read_made.tables;
      config = d.config ∙ read_made.config;
      steps = r.steps ++ feed_end ∷ d.own;
      begins = moved_back old m1 (fed octets ∷ []) s (λ (b : Base) (e : End). Begins b e (r.steps ++ feed_end ∷ d.own)) (r.begins_on (feed_end ∷ d.own) last);
      due = d.due ∙ ap (λ (e : End). e.line.waiting) (end_split old m2 (fed octets ∷ r.steps) d.own read_made ∙ after_all-append (base old) from r.steps d.own ∙ sym (after_all-append (base old) from r.steps (feed_end ∷ d.own)));
    }
      where
        last : Begins (base m1) (after_all (base m1) m1.end r.steps) (feed_end ∷ d.own)
        last = all_read (moved_back m1 m2 r.steps r.made (λ (b : Base) (e : End). Reads b e [] []) r.rests)
            (moved_back m1 m2 r.steps r.made (λ (b : Base) (e : End). BeginsByItself b e.body d.own) d.begins)

  pub began_reading : (new : EndView) → BeganReading m1 new → BeganFeed old new octets
  began_reading new g = record {
    tables = g.tables ∙ s.tables;
    config = g.config ∙ s.config;
    steps = g.steps;
    begins = moved_back old m1 (fed octets ∷ []) s (λ (b : Base) (e : End). Begins b e g.steps) g.begins;
    due = g.due ∙ ap (λ (e : End). e.line.waiting) (end_split old m1 (fed octets ∷ []) g.steps s);
  }

-- nothing was kept
pub began_nothing : (old new : EndView) (octets : List ℕ) → Keeps old new → BeganFeed old new octets
began_nothing old new octets k = record { tables = k.tables; config = k.config; steps = []; begins = nothing_read; due = k.waiting }

-- and then the end is dead
pub died_fed : (old now new : EndView) (octets : List ℕ) → BeganFeed old now octets → new.tables ≡ now.tables → new.config ≡ now.config → new.end.line.waiting ≡ now.end.line.waiting → new.end.body.link.phase ≡ Dead → DiedFed old new octets
died_fed old now new octets g t c w p = record {
  began = record {
    tables = t ∙ g.tables;
    config = c ∙ g.config;
    steps = g.steps;
    begins = g.begins;
    due = w ∙ g.due;
  };
  phase = p;
}
