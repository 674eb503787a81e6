-- The numbers of attempts and rejections, and what is read from a mobile's row.
-- Assumes nothing.
use Rattle.std.specs.Prelude.{ℕ, ◌-◌, ◌/◌, ◌%◌, ◌^◌, Bool, false, ◌&&◌, ◌==◌, nat_lt}
use Rattle.mobile.specs.declared.row.Attempt.{Attempt}
use Rattle.mobile.specs.declared.row.Attempt.TheVariants.{First, Second, Third}
use Rattle.mobile.specs.declared.row.Mobile.{Mobile}
use Rattle.mobile.specs.declared.row.Rejection.{Rejection}
use Rattle.mobile.specs.declared.row.Rejection.TheVariants.{WaitExpired, UplinkBusy, NoAnswer, GrantedToOther, LinkFailed}
use Rattle.mobile.specs.declared.row.Uplink.{Uplink}
use Rattle.mobile.specs.declared.row.Uplink.TheVariants.{Unknown, Free, Busy}

abbrev pub attempt_number : Attempt → ℕ
attempt_number First = 1
attempt_number Second = 2
attempt_number Third = 3

abbrev pub rejection_cause : Rejection → ℕ
rejection_cause WaitExpired = 1
rejection_cause UplinkBusy = 2
rejection_cause NoAnswer = 3
rejection_cause GrantedToOther = 4
rejection_cause LinkFailed = 5

-- a rank's bit is set in the sum of the allowed ranks
abbrev pub may_ask : (rank : ℕ) → Mobile → Bool
may_ask rank row = nat_lt rank 64 && row.allowed / 2 ^ rank % 2 == 1

-- an uplink is open for less than 480 ms after FREE, and to a rank above the talker's
abbrev pub open_to : (above : ℕ → ℕ → Bool) (rank time : ℕ) → Uplink → Bool
open_to above rank time Unknown = false
open_to above rank time (Free since) = nat_lt (time - since) 480
open_to above rank time (Busy talker) = above rank talker
