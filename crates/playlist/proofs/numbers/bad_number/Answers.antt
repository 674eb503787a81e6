use Rattle.std.proofs.Common.{◌≡◌, eqb, length, sym, ◌∙◌}
use Rattle.std.proofs.lemmas.Bool.{cond-true, cond-false, eq-eqb, ne_eqb}
use Rattle.playlist.specs.Forms.{number_count}
use Rattle.playlist.specs.Scans.{fields_after, leading_line}
use Rattle.playlist.proofs.Judging.{count_fields}
use Rattle.playlist.proofs.numbers.bad_number.Goals as goal

pub returns-then-tabs-from : goal.returns-then-tabs-from
returns-then-tabs-from c =
    let n = length (fields_after (leading_line c.args.line.now)) in
    let count : n ≡ number_count c.args.kind =
    count_fields c.args.line.now c.requires ∙ sym c.tabs.ensures ∙ c.if-tabs-from.true ∙ c.from.ensures ∙ c.number_count.ensures in
    sym (cond-true (eqb n (number_count c.args.kind)) c.args.field 0 (eq-eqb n (number_count c.args.kind) count))

pub returns-else-tabs-from : goal.returns-else-tabs-from
returns-else-tabs-from c =
    let n = length (fields_after (leading_line c.args.line.now)) in
    sym (cond-false (eqb n (number_count c.args.kind)) c.args.field 0 (ne_eqb n (number_count c.args.kind) (λ e. c.if-tabs-from.false (c.tabs.ensures ∙ sym (count_fields c.args.line.now c.requires) ∙ e ∙ sym (c.from.ensures ∙ c.number_count.ensures)))))
