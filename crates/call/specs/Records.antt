-- What the record of a group call says of it.
-- Assumes nothing.
use Rattle.std.specs.Prelude.{List}
use Rattle.mobile.specs.declared.row.Mobile.{Mobile}
use Rattle.station.specs.declared.row.Station.{Station}
use Rattle.anchor.specs.declared.entry.Entry.{Entry}
use Rattle.call.specs.World.{Frame, Tables}
use Rattle.call.specs.declared.«record».GroupCall.{GroupCall}

-- what never changes
abbrev pub frame_of : GroupCall → Frame
frame_of c =
    record {
      settings = c.settings;
      mobile_count = c.mobiles;
      station_count = c.stations.count;
      places = c.places;
    }

-- the tables, with the last number and the time that the record has
abbrev pub tables_of : GroupCall → List Mobile → List Station → List Entry → Tables
tables_of c mobiles stations book =
    record { last = c.last; time = c.time.ms; mobiles = mobiles; stations = stations; book = book }
