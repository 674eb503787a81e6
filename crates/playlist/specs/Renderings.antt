-- Entries written as a text: a line for each, ended by byte 10.
-- Assumes nothing.
use Rattle.std.specs.Prelude.{ℕ, List, [], ◌∷◌, ◌++◌, decimal}
use Rattle.call.specs.declared.calls.Call.{Call}
use Rattle.call.specs.declared.calls.Call.TheVariants as calls
use Rattle.playlist.specs.Forms.{Entry}
use Rattle.playlist.specs.Forms.Entry.{settings, role, mobile, call, note}
use Rattle.playlist.specs.declared.kind.CallKind.{CallKind}
use Rattle.playlist.specs.declared.kind.CallKind.TheVariants as asks
use Rattle.playlist.specs.declared.kind.Kind.{Kind}
use Rattle.playlist.specs.declared.kind.Kind.TheVariants as kinds

-- the letters A, F, H, T, U, W, N, L, X, R
abbrev pub call_code : CallKind → ℕ
call_code asks.Ask = 65
call_code asks.Finish = 70
call_code asks.MobileHears = 72
call_code asks.MobileTimer = 84
call_code asks.StationHearsAir = 85
call_code asks.StationHearsWire = 87
call_code asks.StationTimer = 78
call_code asks.RadioLoss = 76
call_code asks.AnchorHears = 88
call_code asks.Release = 82

-- S, K, M, or that of a call
abbrev pub code : Kind → ℕ
code kinds.Settings = 83
code kinds.Role = 75
code kinds.Mobile = 77
code (kinds.Call k) = call_code k

-- an entry as a kind with its numbers, or as a note
pub data Written : Type 0 where
  lettered : Kind → List ℕ → Written
  noted : List ℕ → Written

abbrev pub call_written : Call → Written
call_written (calls.Ask t m r k) = lettered (kinds.Call asks.Ask) (t ∷ m ∷ r ∷ k ∷ [])
call_written (calls.Finish t m) = lettered (kinds.Call asks.Finish) (t ∷ m ∷ [])
call_written (calls.MobileHears t m) = lettered (kinds.Call asks.MobileHears) (t ∷ m ∷ [])
call_written (calls.MobileTimer t m) = lettered (kinds.Call asks.MobileTimer) (t ∷ m ∷ [])
call_written (calls.StationHearsAir t s) = lettered (kinds.Call asks.StationHearsAir) (t ∷ s ∷ [])
call_written (calls.StationHearsWire t s) = lettered (kinds.Call asks.StationHearsWire) (t ∷ s ∷ [])
call_written (calls.StationTimer t s) = lettered (kinds.Call asks.StationTimer) (t ∷ s ∷ [])
call_written (calls.RadioLoss t s) = lettered (kinds.Call asks.RadioLoss) (t ∷ s ∷ [])
call_written (calls.AnchorHears t) = lettered (kinds.Call asks.AnchorHears) (t ∷ [])
call_written (calls.Release t) = lettered (kinds.Call asks.Release) (t ∷ [])

abbrev pub written : Entry → Written
written (settings n s) = lettered kinds.Settings (n ∷ s.period ∷ s.t3128 ∷ s.t3130 ∷ s.link ∷ [])
written (role r) = lettered kinds.Role (r.level ∷ r.district ∷ [])
written (mobile m) = lettered kinds.Mobile (m.identity ∷ m.station ∷ m.allowed ∷ [])
written (call c) = call_written c
written (note bytes) = noted bytes

-- each number in decimal after a tab
abbrev pub tabbed : List ℕ → List ℕ
tabbed [] = []
tabbed (n ∷ ns) = 9 ∷ (decimal n ++ tabbed ns)

abbrev pub line_of : Written → List ℕ
line_of (lettered kind ns) = code kind ∷ tabbed ns
line_of (noted bytes) = 35 ∷ bytes

abbrev pub rendered : List Entry → List ℕ
rendered [] = []
rendered (e ∷ es) = line_of (written e) ++ 10 ∷ rendered es
