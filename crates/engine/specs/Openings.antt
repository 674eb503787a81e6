-- What an opening is given with lent tables, and what it leaves.
-- Assumes nothing.
use Rattle.std.specs.Prelude.{◌≡◌, ℕ, ◌<◌, ◌≤◌, Bool, List, length, Some, slice_index_or}
use Rattle.call.specs.Openings.{Given, SettingsAre, refusal_at_opening}
use Rattle.call.specs.Records.{frame_of}
use Rattle.call.specs.declared.answer.Refusal.{Refusal}
use Rattle.call.specs.declared.opening.SettingNumbers.{SettingNumbers}
use Rattle.call.specs.declared.opening.Subscriber.{Subscriber}
use Rattle.call.specs.declared.«record».GroupCall.{GroupCall}
use Rattle.dispatch.specs.Lent.{Untouched}
use Rattle.dispatch.specs.declared.tables.LentTables.{LentTables}

abbrev pub given_of : SettingNumbers → List Subscriber → LentTables → Given
given_of numbers subscribers t =
    record {
      numbers = numbers;
      subscribers = subscribers;
      rows = length t.mobiles.now;
      stations = length t.stations.now;
      book = t.book.now;
    }

-- the opening is refused, and nothing changes
abbrev pub OpeningRefused : Given → (quiet : Bool) → LentTables → Refusal → LentTables → Type 0
OpeningRefused given quiet t refusal t' = (refusal_at_opening given quiet ≡ Some refusal) × Untouched t t'

-- an identity and a station that a mobile's row can hold
abbrev pub Writable : Subscriber → Type 0
Writable s = (s.identity ≤ 4294967295) × (s.station ≤ 255)

abbrev pub AllWritable : List Subscriber → Type 0
AllWritable subscribers = (k : ℕ) (d : Subscriber) → k < length subscribers → Writable (slice_index_or subscribers k d)

-- the record at first: no grant, time 0
pub record FirstRecord (numbers : SettingNumbers) (mobiles stations places : ℕ) (c : GroupCall) : Type 0 where
  pub settings : SettingsAre c.settings numbers
  pub frame : frame_of c ≡ record { settings = c.settings; mobile_count = mobiles; station_count = stations; places = places }
  pub last : c.last ≡ 0
  pub time : c.time.ms ≡ 0
