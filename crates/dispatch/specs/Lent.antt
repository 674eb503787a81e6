-- The tables that their owner lends for a call.
-- Assumes nothing.
use Rattle.std.specs.Prelude.{◌≡◌}
use Rattle.call.specs.Records.{tables_of}
use Rattle.call.specs.World.{Tables}
use Rattle.call.specs.declared.«record».GroupCall.{GroupCall}
use Rattle.dispatch.specs.declared.tables.LentTables.{LentTables}

-- the tables, with the last number and the time that the record has
abbrev pub lent : GroupCall → LentTables → Tables
lent c t = tables_of c t.mobiles.now t.stations.now t.book.now

-- the tables that were lent are those that come back
pub record SameTables (t t' : LentTables) : Type 0 where
  pub mobiles : t'.mobiles.ghost_name ≡ t.mobiles.ghost_name
  pub stations : t'.stations.ghost_name ≡ t.stations.ghost_name
  pub book : t'.book.ghost_name ≡ t.book.ghost_name

-- and their rows are as they were
pub record Untouched (t t' : LentTables) : Type 0 where
  pub mobiles : t'.mobiles.now ≡ t.mobiles.now
  pub stations : t'.stations.now ≡ t.stations.now
  pub book : t'.book.now ≡ t.book.now
