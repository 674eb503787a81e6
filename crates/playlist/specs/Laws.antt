-- What holds of every text and of every list of entries.
-- Assumes nothing.
use Rattle.std.specs.Prelude.{◌≡◌, ℕ, zero, suc, ◌+◌, ◌-◌, ◌≤◌, true, false, List, [], ◌∷◌, length, Some, Ok, Err, Option, ◌≢◌}
use Rattle.std.specs.List.{AllByRecursion}
use Rattle.playlist.specs.Entries.{Good, fault_of, judged, reading}
use Rattle.playlist.specs.Forms.{Entry, limit}
use Rattle.playlist.specs.Orders.{follows, may_end}
use Rattle.playlist.specs.Renderings.{Written, rendered, written}
use Rattle.playlist.specs.Renderings.Written.{lettered, noted}
use Rattle.playlist.specs.Texts.{lines}
use Rattle.playlist.specs.declared.fault.Fault.{Fault}
use Rattle.playlist.specs.declared.kind.Kind.{Kind}
use Rattle.playlist.specs.declared.place.Place.{Place}
use Rattle.playlist.specs.declared.place.Place.TheVariants.{Start}

-- each number within its limit, from the given field on
abbrev pub Within : Kind → (field : ℕ) → List ℕ → Type 0
Within kind field [] = Unit {0}
Within kind field (n ∷ ns) = (n ≤ limit kind field) × Within kind (field + 1) ns

-- numbers within their limits, and no byte 10 in a note
abbrev pub Writable : Written → Type 0
Writable (lettered kind ns) = Within kind 2 ns
Writable (noted bytes) = AllByRecursion (λ b. b ≢ 10) bytes

-- the place after an entry, where it may stand; a note may stand anywhere
abbrev pub place_after : Place → Written → Option Place
place_after place (lettered kind ns) = follows place kind
place_after place (noted bytes) = Some place

-- entries in order, each of which can be written, with nothing missing at the end
abbrev pub WellFormed : Place → List Entry → Type 0
WellFormed place [] = may_end place ≡ true
WellFormed place (e ∷ es) =
    Writable (written e) × ((next : Place) × (place_after place (written e) ≡ Some next) × WellFormed next es)

-- a rendering reads as what was rendered
abbrev pub ReadsBack : Type 0
ReadsBack = (entries : List Entry) → WellFormed Start entries → length (rendered entries) ≤ 60000 → reading (rendered entries) ≡ Ok entries

-- so many lines are good where they stand, and after them the next is bad at the field, or one is missing
abbrev pub FaultsAfter : (good : ℕ) → Place → List (List ℕ) → (field : ℕ) → Type 0
FaultsAfter zero place [] field = (may_end place ≡ false) × (field ≡ 0)
FaultsAfter zero place (l ∷ ls) field = judged place l ≡ Err field
FaultsAfter (suc k) place [] field = ⊥
FaultsAfter (suc k) place (l ∷ ls) field = (g : Good) × (judged place l ≡ Ok g) × FaultsAfter k g.place ls field

-- in a faulted text of at most 60,000 bytes every line before the faulted one is good
abbrev pub FirstFault : Type 0
FirstFault =
    (text : List ℕ) (fault : Fault) → length text ≤ 60000 → fault_of text ≡ Some fault → (1 ≤ fault.line) × FaultsAfter (fault.line - 1) Start (lines text) fault.field
