-- What holds of a call that no check refuses.
-- Assumes nothing.
use Rattle.std.specs.Prelude.{◌≡◌, ℕ, ◌≤◌, true, length}
use Rattle.call.specs.Records.{frame_of}
use Rattle.call.specs.World.{tables_good, time_good, rank_good, state_good}
use Rattle.call.specs.declared.calls.Call.{Call}
use Rattle.call.specs.declared.calls.Call.TheVariants.{Ask, Finish, MobileHears, MobileTimer, StationHearsAir, StationHearsWire, StationTimer, RadioLoss, AnchorHears, Release}
use Rattle.call.specs.declared.«record».GroupCall.{GroupCall}
use Rattle.dispatch.specs.Lent.{lent}
use Rattle.dispatch.specs.declared.tables.LentTables.{LentTables}

-- a number from 1 to the count of the rows, which is no more than the most
pub record Numbered (number count most : ℕ) : Type 0 where
  pub least : 1 ≤ number
  pub within : number ≤ count
  pub few : count ≤ most

-- the mobile or station of a call has a row
abbrev pub PartyIn : LentTables → Call → Type 0
PartyIn t (Ask time mobile reference rank) = Numbered mobile (length t.mobiles.now) 200
PartyIn t (Finish time mobile) = Numbered mobile (length t.mobiles.now) 200
PartyIn t (MobileHears time mobile) = Numbered mobile (length t.mobiles.now) 200
PartyIn t (MobileTimer time mobile) = Numbered mobile (length t.mobiles.now) 200
PartyIn t (StationHearsAir time station) = Numbered station (length t.stations.now) 8
PartyIn t (StationHearsWire time station) = Numbered station (length t.stations.now) 8
PartyIn t (StationTimer time station) = Numbered station (length t.stations.now) 8
PartyIn t (RadioLoss time station) = Numbered station (length t.stations.now) 8
PartyIn t (AnchorHears time) = Unit {0}
PartyIn t (Release time) = Unit {0}

pub record Admitted (c : GroupCall) (ranks : ℕ) (t : LentTables) (call : Call) : Type 0 where
  pub tables : tables_good (frame_of c) (lent c t) ≡ true
  pub party : PartyIn t call
  pub time : time_good (lent c t) call ≡ true
  pub rank : rank_good ranks (lent c t) call ≡ true
  pub state : state_good (lent c t) call ≡ true
