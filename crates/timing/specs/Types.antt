-- The types of times, periods and timers, as the aliases of the code.
-- Assumes nothing.
use Rattle.timing.specs.declared.millis.Millis.{Millis}

abbrev pub Time : Type 0
Time = Millis 0 1099511627776

abbrev pub Period : Type 0
Period = Millis 20 400

abbrev pub Timer : Type 0
Timer = Millis 100 60000
