use Rattle.std.proofs.Common.{◌≡◌, ◌+◌, length, take}
use Rattle.playlist.specs.Entries.{numbers}
use Rattle.playlist.specs.Scans.{after_line, fields_after, leading_line}
use Rattle.playlist.proofs.Counting.{also}
use Rattle.playlist.proofs.numbers.read_numbers.Given as goal

abbrev pub invariant-loop-i : goal.invariant-loop-i
invariant-loop-i l =
    record {
      so_far : numbers l.kind 2 (fields_after (leading_line l.line)) ≡ also (take l.i l.values) (numbers l.kind (l.i + 2) (fields_after (leading_line l.left)));
      counted : length (fields_after (leading_line l.line)) ≡ l.i + length (fields_after (leading_line l.left));
      room : length l.values ≡ 5;
      same_end : after_line l.left ≡ after_line l.line;
    }
