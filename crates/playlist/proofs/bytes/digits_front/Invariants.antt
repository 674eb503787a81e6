use Rattle.std.proofs.Common.{◌≡◌, ◌+◌, ◌^◌, ◌<◌, length, drop}
use Rattle.playlist.specs.Scans.{digits_front}
use Rattle.playlist.specs.Texts.{value_after}
use Rattle.playlist.proofs.bytes.digits_front.Given as goal

abbrev pub invariant-loop-i : goal.invariant-loop-i
invariant-loop-i l =
    record {
      len : l.i + length (digits_front (drop l.i l.front)) ≡ length (digits_front l.front);
      value : value_after l.value (digits_front (drop l.i l.front)) ≡ value_after 0 (digits_front l.front);
      small : l.value < 10 ^ l.i;
    }
