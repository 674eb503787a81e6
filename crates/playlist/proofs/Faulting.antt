-- The first fault of a text.
-- Assumes nothing.
use Rattle.std.proofs.Common.{◌≡◌, ℕ, suc, ◌+◌, ◌-◌, Bool, true, false, cond, leb, List, [], ◌∷◌, length, Some, Ok, Err, Result, sym, refl, ap, ◌∙◌, subst, arith}
use Rattle.std.proofs.lemmas.Bool.{cond-true, le-leb}
use Rattle.playlist.specs.Entries.{Good, continued, fault_in, judged, put_first, reading, reading_from}
use Rattle.playlist.specs.Forms.{Entry}
use Rattle.playlist.specs.Laws.{FaultsAfter, FirstFault}
use Rattle.playlist.specs.Orders.{may_end}
use Rattle.playlist.specs.Texts.{lines}
use Rattle.playlist.specs.declared.fault.Fault.{Fault}
use Rattle.playlist.specs.declared.place.Place.{Place}
use Rattle.playlist.specs.declared.place.Place.TheVariants.{Start}

abbrev Read : Type 0
Read = Result (List Entry) Fault

-- some lines are good before the faulted one
abbrev Found : (line : ℕ) → Place → List (List ℕ) → Fault → Type 0
Found n place ls fault = (k : ℕ) × (fault.line ≡ n + k) × FaultsAfter k place ls fault.field

rest_faults : (e : Entry) (r : Read) (fault : Fault) → put_first e r ≡ Err fault → r ≡ Err fault
rest_faults e (Ok entries) fault is = absurd (let z : ◌≡◌ {A = ℕ} 0 1 = cc in omega arith)
rest_faults e (Err other) fault is = is

abbrev ended : ℕ → Bool → Read
ended n may = cond may (Ok []) (Err (record { line = n; field = 0 }))

missing : (n : ℕ) (place : Place) (fault : Fault) (may : Bool) → may_end place ≡ may → ended n may ≡ Err fault → Found n place [] fault
missing n place fault true e is = absurd (let z : ◌≡◌ {A = ℕ} 0 1 = cc in omega arith)
missing n place fault false e is =
    let here : fault.line ≡ n = cc in
    let nothing : fault.field ≡ 0 = cc in
    (0, omega arith, (e, nothing))

found : (ls : List (List ℕ)) (n : ℕ) (place : Place) (fault : Fault) → reading_from n place ls ≡ Err fault → Found n place ls fault
found [] n place fault is = missing n place fault (may_end place) refl is
found (l ∷ ls) n place fault is = by (judged place l) refl is (λ (p : Place) (e : reading_from (n + 1) p ls ≡ Err fault). found ls (n + 1) p fault e)
  where
    by : (j : Result Good ℕ) → judged place l ≡ j → continued n (λ (p : Place). reading_from (n + 1) p ls) j ≡ Err fault → ((p : Place) → reading_from (n + 1) p ls ≡ Err fault → Found (n + 1) p ls fault) → Found n place (l ∷ ls) fault
    by (Err field) e bad on =
        let here : fault.line ≡ n = cc in
        let same : field ≡ fault.field = cc in
        (0, omega arith, e ∙ cc)
    by (Ok g) e bad on =
        let later = on g.place (rest_faults g.entry (reading_from (n + 1) g.place ls) fault bad) in
        (suc later.0, omega (arith, later.1), (g, e, later.2))

fault_is : (r : Read) (fault : Fault) → fault_in r ≡ Some fault → r ≡ Err fault
fault_is (Ok entries) fault is = absurd (let z : ◌≡◌ {A = ℕ} 0 1 = cc in omega arith)
fault_is (Err other) fault is = cc

pub fault_is_first : FirstFault
fault_is_first text fault short is =
    let whole : reading text ≡ reading_from 1 Start (lines text) =
    cond-true (leb (length text) 60000) (reading_from 1 Start (lines text)) (Err (record { line = 0; field = 0 })) (le-leb (length text) 60000 short) in
    let f = found (lines text) 1 Start fault (fault_is (reading_from 1 Start (lines text)) fault (sym (ap fault_in whole) ∙ is)) in
    let one : f.0 ≡ fault.line - 1 = omega (arith, f.1) in
    (omega (arith, f.1), subst (λ (k : ℕ). FaultsAfter k Start (lines text) fault.field) one f.2)
