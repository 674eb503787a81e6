-- A reader, line by line, and what is left to read.
-- Assumes nothing.
use Rattle.std.proofs.Common.{◌≡◌, ℕ, ◌+◌, ◌<◌, Bool, true, false, cond, leb, List, [], ◌∷◌, length, Some, None, Ok, Err, Option, Result, sym, refl, ap, ◌∙◌, arith}
use Rattle.playlist.specs.Collections.{Records, after, collected_in}
use Rattle.playlist.specs.Entries.{Good, continued, fault_in, judged, put_first, reading, reading_from}
use Rattle.playlist.specs.Forms.{Entry}
use Rattle.playlist.specs.Meanings.{meant}
use Rattle.playlist.specs.Orders.{may_end}
use Rattle.playlist.specs.Stands.{Stand, first_stand, given, gives, moves, next_entry, next_stand, passed, reading_on, told}
use Rattle.playlist.specs.Texts.{lines}
use Rattle.playlist.specs.declared.fault.Fault.{Fault}
use Rattle.playlist.specs.declared.line.Line.{Line}
use Rattle.playlist.specs.declared.place.Place.{Place}
use Rattle.playlist.specs.declared.place.Place.TheVariants.{Start}

abbrev ends : ℕ → Bool → Result (Option Entry) Fault
ends n may = cond may (Ok None) (Err (record { line = n; field = 0 }))

abbrev fault_at : ℕ → Result (List Entry) Fault
fault_at n = Err (record { line = n; field = 0 })

abbrev stand : ℕ → Place → List (List ℕ) → Stand
stand n place ls = record { line = n; place = place; left = ls }

abbrev Judged : Type 0
Judged = Result Good ℕ

-- after a line, what is left is one line less
module _ (n : ℕ) (place : Place) (e : Entry) where
  good_first : (l : List ℕ) (ls : List (List ℕ)) (j : Judged) → given n j ≡ Ok (Some e) → continued n (λ (p : Place). reading_from (n + 1) p ls) j ≡ put_first e (reading_on (passed n place l ls j))
  good_first l ls (Ok g) is =
      let same : g.entry ≡ e = cc in
      ap (λ (x : Entry). put_first x (reading_from (n + 1) g.place ls)) same
  good_first l ls (Err field) is = absurd (let z : ◌≡◌ {A = ℕ} 0 1 = cc in omega arith)

  good_shorter : (l : List ℕ) (ls : List (List ℕ)) (j : Judged) → given n j ≡ Ok (Some e) → length (passed n place l ls j).left < length (l ∷ ls)
  good_shorter l ls (Ok g) is = omega arith
  good_shorter l ls (Err field) is = absurd (let z : ◌≡◌ {A = ℕ} 0 1 = cc in omega arith)

  no_more : (may : Bool) → ends n may ≡ Ok (Some e) → ⊥
  no_more true is = let z : ◌≡◌ {A = ℕ} 0 1 = cc in omega arith
  no_more false is = let z : ◌≡◌ {A = ℕ} 0 1 = cc in omega arith

  good_next : (ls : List (List ℕ)) → gives n place ls ≡ Ok (Some e) → reading_from n place ls ≡ put_first e (reading_on (moves n place ls))
  good_next [] is = absurd (no_more (may_end place) is)
  good_next (l ∷ ls) is = good_first l ls (judged place l) is

  shorter_next : (ls : List (List ℕ)) → gives n place ls ≡ Ok (Some e) → length (moves n place ls).left < length ls
  shorter_next [] is = absurd (no_more (may_end place) is)
  shorter_next (l ∷ ls) is = good_shorter l ls (judged place l) is

pub same_fault : (e : Entry) (r : Result (List Entry) Fault) → fault_in (put_first e r) ≡ fault_in r
same_fault e (Ok entries) = refl
same_fault e (Err fault) = refl

same_records : (r : Records) (e : Entry) (x : Result (List Entry) Fault) → collected_in (after r e) x ≡ collected_in r (put_first e x)
same_records r e (Ok entries) = refl
same_records r e (Err fault) = refl

module _ (s s' : Stand) (e : Entry) (is : Ok (Some e) ≡ next_entry s) (on : s' ≡ next_stand s) where
  pub read_one : reading_on s ≡ put_first e (reading_on s')
  read_one =
      good_next s.line s.place e s.left (sym is) ∙ ap (λ (x : Stand). put_first e (reading_on x)) (sym on)

  pub one_less : length s'.left < length s.left
  one_less = omega (arith, ap (λ (x : Stand). length x.left) on, shorter_next s.line s.place e s.left (sym is))

  pub fault_goes_on : fault_in (reading_on s') ≡ fault_in (reading_on s)
  fault_goes_on = sym (ap fault_in read_one ∙ same_fault e (reading_on s'))

  pub records_go_on : (r r' : Records) → r' ≡ after r e → collected_in r' (reading_on s') ≡ collected_in r (reading_on s)
  records_go_on r r' put =
      ap (λ (x : Records). collected_in x (reading_on s')) put ∙ same_records r e (reading_on s') ∙ sym (ap (collected_in r) read_one)

-- the end, and a fault
module _ (n : ℕ) (place : Place) where
  end_may : (may : Bool) → ends n may ≡ Ok None → cond may (Ok []) (fault_at n) ≡ Ok []
  end_may true is = refl
  end_may false is = absurd (let z : ◌≡◌ {A = ℕ} 0 1 = cc in omega arith)

  not_end : (j : Judged) → given n j ≡ Ok None → ⊥
  not_end (Ok g) is = let z : ◌≡◌ {A = ℕ} 0 1 = cc in omega arith
  not_end (Err field) is = let z : ◌≡◌ {A = ℕ} 0 1 = cc in omega arith

  end_next : (ls : List (List ℕ)) → gives n place ls ≡ Ok None → reading_from n place ls ≡ Ok []
  end_next [] is = end_may (may_end place) is
  end_next (l ∷ ls) is = absurd (not_end (judged place l) is)

  short_may : (fault : Fault) (may : Bool) → ends n may ≡ Err fault → cond may (Ok []) (fault_at n) ≡ Err fault
  short_may fault true is = absurd (let z : ◌≡◌ {A = ℕ} 0 1 = cc in omega arith)
  short_may fault false is = cc

  bad_line : (fault : Fault) (others : Place → Result (List Entry) Fault) (j : Judged) → given n j ≡ Err fault → continued n others j ≡ Err fault
  bad_line fault others (Ok g) is = absurd (let z : ◌≡◌ {A = ℕ} 0 1 = cc in omega arith)
  bad_line fault others (Err field) is = cc

  fault_next : (fault : Fault) (ls : List (List ℕ)) → gives n place ls ≡ Err fault → reading_from n place ls ≡ Err fault
  fault_next fault [] is = short_may fault (may_end place) is
  fault_next fault (l ∷ ls) is = bad_line fault (λ (p : Place). reading_from (n + 1) p ls) (judged place l) is

pub read_end : (s : Stand) → Ok None ≡ next_entry s → reading_on s ≡ Ok []
read_end s is = end_next s.line s.place s.left (sym is)

pub read_fault : (s : Stand) (fault : Fault) → Err fault ≡ next_entry s → reading_on s ≡ Err fault
read_fault s fault is = fault_next s.line s.place fault s.left (sym is)

-- what the code gave at a stand
module _ (r : Result (Option Line) Fault) (s : Stand) (gave : told r ≡ next_entry s) where
  pub gave_end : r ≡ Ok None → reading_on s ≡ Ok []
  gave_end is = read_end s (sym (ap told is) ∙ gave)

  pub gave_fault : (fault : Fault) → r ≡ Err fault → reading_on s ≡ Err fault
  gave_fault fault is = read_fault s fault (sym (ap told is) ∙ gave)

  -- a line, and the stand after it
  module _ (s' : Stand) (on : s' ≡ next_stand s) (line : Line) (is : r ≡ Ok (Some line)) where
    this_line : Ok (Some (meant line)) ≡ next_entry s
    this_line = sym (ap told is) ∙ gave

    pub line_read : reading_on s ≡ put_first (meant line) (reading_on s')
    line_read = read_one s s' (meant line) this_line on

    pub line_less : length s'.left < length s.left
    line_less = one_less s s' (meant line) this_line on

    pub line_fault_goes_on : fault_in (reading_on s') ≡ fault_in (reading_on s)
    line_fault_goes_on = fault_goes_on s s' (meant line) this_line on

    pub line_records_go_on : (q q' : Records) → q' ≡ after q (meant line) → collected_in q' (reading_on s') ≡ collected_in q (reading_on s)
    line_records_go_on = records_go_on s s' (meant line) this_line on

-- the whole text is what a new reader has left
pub reading_first : (text : List ℕ) → reading_on (first_stand text) ≡ reading text
reading_first text =
    elim (leb (length text) 60000) as (λ (t : Bool). reading_on (cond t (stand 1 Start (lines text)) (stand 0 Start [])) ≡ cond t (reading_from 1 Start (lines text)) (fault_at 0)) [
      | true ↦ refl
      | false ↦ refl
    ]
