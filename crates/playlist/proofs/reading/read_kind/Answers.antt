use Rattle.std.proofs.Common.{◌≡◌, drop, sym, ap, ◌∙◌}
use Rattle.playlist.specs.Meanings.{meant}
use Rattle.playlist.specs.Scans.{after_line, fields_after, leading_line}
use Rattle.playlist.specs.Texts.{fields}
use Rattle.playlist.proofs.Counting.{entry_read, reference_small}
use Rattle.playlist.proofs.Judging.{line_end, number_fields}
use Rattle.playlist.proofs.reading.read_kind.Goals as goal

pub line_of-requires : goal.line_of-requires
line_of-requires c =
    reference_small c.args.kind (fields_after (leading_line c.rest.result.now)) c.in_ok-numbers.numbers.value c.in_ok-numbers.ensures.0

pub returns : goal.returns
returns c =
    let text = c.args.text.now in
    let kind = c.args.kind in
    let parts : drop 1 (fields (leading_line text)) ≡ fields_after (leading_line c.rest.result.now) =
    number_fields text kind c.requires.0 ∙ ap (λ xs. fields_after (leading_line xs)) (sym c.rest.ensures) in (
      entry_read kind (fields_after (leading_line c.rest.result.now)) (drop 1 (fields (leading_line text))) c.in_ok-numbers.numbers.value (meant c.line_of.result) parts c.in_ok-numbers.ensures.0 c.line_of.ensures,
      c.rest-2.ensures ∙ ap (drop 1) (c.in_ok-numbers.ensures.1 ∙ ap after_line c.rest.ensures ∙ line_end text kind c.requires.0),
    )
