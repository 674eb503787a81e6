use Rattle.std.proofs.Common.{sym, ◌∙◌}
use Rattle.std.proofs.lemmas.Bool.{false≢true}
use Rattle.playlist.proofs.Parting.{after_letter, no_letter, one_letter}
use Rattle.playlist.proofs.reading.kind_of.Goals as goal

pub returns-then-not-stops : goal.returns-then-not-stops
returns-then-not-stops c =
    record {
      kind = sym (no_letter c.args.text.now c.if-not-stops.ensures);
      after = λ is. absurd (false≢true is);
    }

pub returns : goal.returns
returns c =
    record {
      kind = c.kind_by.ensures ∙ sym (one_letter c.args.text.now c.requires c.if-not-stops.ensures);
      after = λ _. after_letter c.args.text.now c.if-not-stops.ensures;
    }
