-- The letters of a playlist, the numbers that each asks for, and what a line stands for.
-- Assumes nothing.
use Rattle.std.specs.Prelude.{◌≡◌, ℕ, ◌≤◌, cond, List, [], ◌∷◌, Some, None, Option, ◌==◌, slice_index}
use Rattle.call.specs.declared.calls.Call.{Call}
use Rattle.call.specs.declared.calls.Call.TheVariants as calls
use Rattle.call.specs.declared.opening.SettingNumbers.{SettingNumbers}
use Rattle.call.specs.declared.opening.Subscriber.{Subscriber}
use Rattle.schemes.specs.declared.role.Role.{Role}
use Rattle.playlist.specs.declared.kind.CallKind.{CallKind}
use Rattle.playlist.specs.declared.kind.CallKind.TheVariants as asks
use Rattle.playlist.specs.declared.kind.Kind.{Kind}
use Rattle.playlist.specs.declared.kind.Kind.TheVariants as kinds

-- the letters, by their codes: S, K, M, and of calls A, F, H, T, U, W, N, L, X, R
abbrev pub call_letter : ℕ → Option CallKind
call_letter b =
    cond (b == 65) (Some asks.Ask)
    (cond (b == 70) (Some asks.Finish)
    (cond (b == 72) (Some asks.MobileHears)
    (cond (b == 84) (Some asks.MobileTimer)
    (cond (b == 85) (Some asks.StationHearsAir)
    (cond (b == 87) (Some asks.StationHearsWire)
    (cond (b == 78) (Some asks.StationTimer)
    (cond (b == 76) (Some asks.RadioLoss)
    (cond (b == 88) (Some asks.AnchorHears)
    (cond (b == 82) (Some asks.Release) None)))))))))

abbrev pub some_call : Option CallKind → Option Kind
some_call (Some k) = Some (kinds.Call k)
some_call None = None

abbrev pub letter : ℕ → Option Kind
letter b =
    cond (b == 83) (Some kinds.Settings)
    (cond (b == 75) (Some kinds.Role)
    (cond (b == 77) (Some kinds.Mobile) (some_call (call_letter b))))

-- the kind of a line by its first field, which is one letter and no more
abbrev pub kind_named : (field : List ℕ) → Option Kind
kind_named [] = None
kind_named (b ∷ []) = letter b
kind_named (b ∷ c ∷ bs) = None

-- how many numbers follow the letter
abbrev pub call_numbers : CallKind → ℕ
call_numbers asks.Ask = 4
call_numbers asks.Finish = 2
call_numbers asks.MobileHears = 2
call_numbers asks.MobileTimer = 2
call_numbers asks.StationHearsAir = 2
call_numbers asks.StationHearsWire = 2
call_numbers asks.StationTimer = 2
call_numbers asks.RadioLoss = 2
call_numbers asks.AnchorHears = 1
call_numbers asks.Release = 1

abbrev pub number_count : Kind → ℕ
number_count kinds.Settings = 5
number_count kinds.Role = 2
number_count kinds.Mobile = 3
number_count (kinds.Call k) = call_numbers k

-- what thirteen digits can write
abbrev pub largest : ℕ
largest = 9999999999999

-- a reference, field 4 of an ask, is at most 65,535
abbrev pub ask_limit : CallKind → ℕ
ask_limit asks.Ask = 65535
ask_limit asks.Finish = largest
ask_limit asks.MobileHears = largest
ask_limit asks.MobileTimer = largest
ask_limit asks.StationHearsAir = largest
ask_limit asks.StationHearsWire = largest
ask_limit asks.StationTimer = largest
ask_limit asks.RadioLoss = largest
ask_limit asks.AnchorHears = largest
ask_limit asks.Release = largest

abbrev pub limit : Kind → (field : ℕ) → ℕ
limit kinds.Settings field = largest
limit kinds.Role field = largest
limit kinds.Mobile field = largest
limit (kinds.Call k) field = cond (field == 4) (ask_limit k) largest

-- what a line stands for
pub data Entry : Type 0 where
  settings : (stations : ℕ) → SettingNumbers → Entry
  role : Role → Entry
  mobile : Subscriber → Entry
  call : Call → Entry
  note : List ℕ → Entry

-- a call by the numbers after its letter
abbrev pub call_of : CallKind → List ℕ → Call
call_of asks.Ask ns = calls.Ask (slice_index ns 0) (slice_index ns 1) (slice_index ns 2) (slice_index ns 3)
call_of asks.Finish ns = calls.Finish (slice_index ns 0) (slice_index ns 1)
call_of asks.MobileHears ns = calls.MobileHears (slice_index ns 0) (slice_index ns 1)
call_of asks.MobileTimer ns = calls.MobileTimer (slice_index ns 0) (slice_index ns 1)
call_of asks.StationHearsAir ns = calls.StationHearsAir (slice_index ns 0) (slice_index ns 1)
call_of asks.StationHearsWire ns = calls.StationHearsWire (slice_index ns 0) (slice_index ns 1)
call_of asks.StationTimer ns = calls.StationTimer (slice_index ns 0) (slice_index ns 1)
call_of asks.RadioLoss ns = calls.RadioLoss (slice_index ns 0) (slice_index ns 1)
call_of asks.AnchorHears ns = calls.AnchorHears (slice_index ns 0)
call_of asks.Release ns = calls.Release (slice_index ns 0)

-- a line of a kind by the numbers after its letter
abbrev pub entry_of : Kind → List ℕ → Entry
entry_of kinds.Settings ns =
    settings (slice_index ns 0)
    (record { period = slice_index ns 1; t3128 = slice_index ns 2; t3130 = slice_index ns 3; link = slice_index ns 4 })
entry_of kinds.Role ns = role (record { level = slice_index ns 0; district = slice_index ns 1 })
entry_of kinds.Mobile ns =
    mobile (record { identity = slice_index ns 0; station = slice_index ns 1; allowed = slice_index ns 2 })
entry_of (kinds.Call k) ns = call (call_of k ns)

-- the reference of an ask is in its limit
abbrev pub InLimits : Kind → List ℕ → Type 0
InLimits kind ns = kind ≡ kinds.Call asks.Ask → slice_index ns 2 ≤ 65535
