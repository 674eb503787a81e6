-- A rendering reads as what was rendered.
-- Assumes nothing.
use Rattle.std.proofs.Common.{◌≡◌, ℕ, ◌+◌, ◌^◌, ◌<◌, ◌≤◌, Bool, true, false, cond, not, ◌&&◌, ◌||◌, eqb, leb, List, [], ◌∷◌, ◌++◌, map, length, get_or, drop, Some, None, Ok, Err, decimal, Option, Result, sym, refl, ap, ◌∙◌, ⊎_elim, arith, rules}
use Rattle.std.specs.List.{AllByRecursion}
use Rattle.std.proofs.lemmas.Fmt.{decimal_digit, decimal_nonempty, digits_decimal, first_decimal, length-decimal-le, digits_value-decimal}
use Rattle.std.proofs.ByRecursion.{All-append}
use Rattle.std.proofs.lemmas.List.{length-map}
use Rattle.std.proofs.lemmas.Str.Parse.{IsNumeralModel, numerals_by_fold}
use Rattle.std.proofs.lemmas.Bool.{and_from, and_parts, cases_eq, cond-true, cond-false, eq-eqb, le-leb, ne_eqb, not_from_false, or_left, or_right}
use Rattle.call.specs.declared.calls.Call.{Call}
use Rattle.call.specs.declared.calls.Call.TheVariants as calls
use Rattle.playlist.specs.Entries.{Good, and_then, continued, entry_by, entry_in, judged, number_in, numbers, put_first, reading_from, within}
use Rattle.playlist.specs.Forms.{Entry, ask_limit, entry_of, kind_named, letter, limit, number_count}
use Rattle.playlist.specs.Forms.Entry.{settings, role, mobile, call, note}
use Rattle.playlist.specs.Laws.{ReadsBack, WellFormed, Within, Writable, place_after}
use Rattle.playlist.specs.Orders.{follows}
use Rattle.playlist.specs.Renderings.{Written, call_written, code, line_of, rendered, tabbed, written}
use Rattle.playlist.specs.Renderings.Written.{lettered, noted}
use Rattle.playlist.specs.Scans.{fields_after}
use Rattle.playlist.specs.Texts.{all_digits, fields, has_shape, is_digit, lines, number, onto_first, value_after}
use Rattle.playlist.specs.declared.fault.Fault.{Fault}
use Rattle.playlist.specs.declared.kind.CallKind.{CallKind}
use Rattle.playlist.specs.declared.kind.CallKind.TheVariants as asks
use Rattle.playlist.specs.declared.kind.Kind.{Kind}
use Rattle.playlist.specs.declared.kind.Kind.TheVariants as kinds
use Rattle.playlist.specs.declared.place.Place.{Place}
use Rattle.playlist.specs.declared.place.Place.TheVariants.{Start}
use Rattle.playlist.proofs.Judging.{fields_past, good_letter}
use Rattle.playlist.proofs.Parting.{digit_bounds}

abbrev good_entry : Entry → Result Entry ℕ
good_entry e = Ok e

abbrev stood : Entry → Place → Result Good ℕ
stood e place = Ok (record { entry = e; place = place })

abbrev ended : ℕ → Bool → Result (List Entry) Fault
ended n may = cond may (Ok []) (Err (record { line = n; field = 0 }))

abbrev some_number : ℕ → Option ℕ
some_number n = Some n

own : IsNumeralModel (λ ds. all_digits ds ≡ true) (value_after 0)
own = numerals_by_fold _ (search rules) value_after (search rules)

-- a number in decimal is good
module _ (n : ℕ) (small : n ≤ 9999999999999) where
  fits : n < 2 ^ 64
  fits = omega arith

  digits_so : all_digits (decimal n) ≡ true
  digits_so = digits_decimal own n fits

  some_so : leb 1 (length (decimal n)) ≡ true
  some_so = le-leb 1 (length (decimal n)) (decimal_nonempty n fits)

  few_so : leb (length (decimal n)) 13 ≡ true
  few_so = le-leb (length (decimal n)) 13 (length-decimal-le 13 n (omega arith) (omega arith) fits)

  lead_so : (eqb (length (decimal n)) 1 || not (eqb (get_or (decimal n) 0 0) 48)) ≡ true
  lead_so =
      ⊎_elim
      (λ (e : n ≡ 0).
      let one : decimal n ≡ (48 + n) ∷ [] = decimal_digit n (omega arith) in
      or_left (eqb (length (decimal n)) 1) (not (eqb (get_or (decimal n) 0 0) 48)) (ap (λ (ds : List ℕ). eqb (length ds) 1) one))
      (λ (e : n ≡ 0 → ⊥).
      or_right (eqb (length (decimal n)) 1) (not (eqb (get_or (decimal n) 0 0) 48)) (not_from_false (eqb (get_or (decimal n) 0 0) 48) (ne_eqb (get_or (decimal n) 0 0) 48 (λ (z : get_or (decimal n) 0 0 ≡ 48). omega (arith, first_decimal n (omega arith) fits)))))
      (cases_eq n 0)

  shape_so : has_shape (decimal n) ≡ true
  shape_so =
      and_from (leb 1 (length (decimal n)) && leb (length (decimal n)) 13) (eqb (length (decimal n)) 1 || not (eqb (get_or (decimal n) 0 0) 48))
      (and_from (leb 1 (length (decimal n))) (leb (length (decimal n)) 13) some_so few_so)
      lead_so

  number_back : number (decimal n) ≡ Some n
  number_back =
      cond-true (has_shape (decimal n) && all_digits (decimal n)) (Some (value_after 0 (decimal n))) None (and_from (has_shape (decimal n)) (all_digits (decimal n)) shape_so digits_so)
      ∙ ap some_number (digits_value-decimal own n fits)

-- no byte is the mark
abbrev Free : ℕ → List ℕ → Type 0
Free mark bs = AllByRecursion (λ b. b ≡ mark → ⊥) bs

digits_free : (mark : ℕ) → mark < 48 → (bs : List ℕ) → all_digits bs ≡ true → Free mark bs
digits_free mark low [] is = tt
digits_free mark low (b ∷ bs) is =
    let p = and_parts (is_digit b) (all_digits bs) is in
    (λ (e : b ≡ mark). omega (arith, (digit_bounds b (sym p.0)).0), digits_free mark low bs p.1)

-- a field before those after it
fields_front : (f ns : List ℕ) → Free 9 f → fields (f ++ tabbed ns) ≡ f ∷ fields_after (tabbed ns)
fields_front [] [] h = refl
fields_front [] (n ∷ ns) h = refl
fields_front (b ∷ bs) ns h =
    cond-false (eqb b 9) ([] ∷ fields (bs ++ tabbed ns)) (onto_first b (fields (bs ++ tabbed ns))) (ne_eqb b 9 h.0)
    ∙ ap (onto_first b) (fields_front bs ns h.1)

-- a line before those after it
lines_front : (l rest : List ℕ) → Free 10 l → lines (l ++ 10 ∷ rest) ≡ l ∷ lines rest
lines_front [] rest h = refl
lines_front (b ∷ bs) rest h =
    cond-false (eqb b 10) ([] ∷ lines (bs ++ 10 ∷ rest)) (onto_first b (lines (bs ++ 10 ∷ rest))) (ne_eqb b 10 h.0)
    ∙ ap (onto_first b) (lines_front bs rest h.1)

ask_small : (k : CallKind) → ask_limit k ≤ 9999999999999
ask_small asks.Ask = omega arith
ask_small asks.Finish = omega arith
ask_small asks.MobileHears = omega arith
ask_small asks.MobileTimer = omega arith
ask_small asks.StationHearsAir = omega arith
ask_small asks.StationHearsWire = omega arith
ask_small asks.StationTimer = omega arith
ask_small asks.RadioLoss = omega arith
ask_small asks.AnchorHears = omega arith
ask_small asks.Release = omega arith

limit_small : (kind : Kind) (field : ℕ) → limit kind field ≤ 9999999999999
limit_small kinds.Settings field = omega arith
limit_small kinds.Role field = omega arith
limit_small kinds.Mobile field = omega arith
limit_small (kinds.Call k) field =
    elim (eqb field 4) as (λ (t : Bool). cond t (ask_limit k) 9999999999999 ≤ 9999999999999) [ true ↦ ask_small k | false ↦ omega arith ]

module _ (kind : Kind) where
  -- the fields are the numbers in decimal
  fields_tabbed : (field : ℕ) (ns : List ℕ) → Within kind field ns → fields_after (tabbed ns) ≡ map decimal ns
  fields_tabbed field [] h = refl
  fields_tabbed field (n ∷ ns) h =
      let small : n ≤ 9999999999999 = omega (arith, h.0, limit_small kind field) in
      fields_front (decimal n) ns (digits_free 9 (omega arith) (decimal n) (digits_so n small))
      ∙ ap (λ (fs : List (List ℕ)). decimal n ∷ fs) (fields_tabbed (field + 1) ns h.1)

  numbers_back : (field : ℕ) (ns : List ℕ) → Within kind field ns → numbers kind field (map decimal ns) ≡ Ok ns
  numbers_back field [] h = refl
  numbers_back field (n ∷ ns) h =
      let small : n ≤ 9999999999999 = omega (arith, h.0, limit_small kind field) in
      let one : number_in kind field (decimal n) ≡ Some n =
      ap (within (limit kind field)) (number_back n small) ∙ cond-true (leb n (limit kind field)) (Some n) None (le-leb n (limit kind field) h.0) in
      ap (λ (o : Option ℕ). and_then o field (numbers kind (field + 1) (map decimal ns))) one
      ∙ ap (and_then (Some n) field) (numbers_back (field + 1) ns h.1)

  tabbed_free : (field : ℕ) (ns : List ℕ) → Within kind field ns → Free 10 (tabbed ns)
  tabbed_free field [] h = tt
  tabbed_free field (n ∷ ns) h =
      let small : n ≤ 9999999999999 = omega (arith, h.0, limit_small kind field) in
      (λ (e : 9 ≡ 10). omega arith, All-append (λ b. b ≡ 10 → ⊥) (decimal n) (tabbed ns) (digits_free 10 (omega arith) (decimal n) (digits_so n small)) (tabbed_free (field + 1) ns h.1))

record Coded (kind : Kind) : Type 0 where
  plain : false ≡ eqb (code kind) 35
  read : letter (code kind) ≡ Some kind
  no_tab : code kind ≡ 9 → ⊥
  no_end : code kind ≡ 10 → ⊥

call_coded : (k : CallKind) → Coded (kinds.Call k)
call_coded asks.Ask = record { plain = refl; read = refl; no_tab = λ e. omega arith; no_end = λ e. omega arith }
call_coded asks.Finish = record { plain = refl; read = refl; no_tab = λ e. omega arith; no_end = λ e. omega arith }
call_coded asks.MobileHears = record { plain = refl; read = refl; no_tab = λ e. omega arith; no_end = λ e. omega arith }
call_coded asks.MobileTimer = record { plain = refl; read = refl; no_tab = λ e. omega arith; no_end = λ e. omega arith }
call_coded asks.StationHearsAir = record { plain = refl; read = refl; no_tab = λ e. omega arith; no_end = λ e. omega arith }
call_coded asks.StationHearsWire = record { plain = refl; read = refl; no_tab = λ e. omega arith; no_end = λ e. omega arith }
call_coded asks.StationTimer = record { plain = refl; read = refl; no_tab = λ e. omega arith; no_end = λ e. omega arith }
call_coded asks.RadioLoss = record { plain = refl; read = refl; no_tab = λ e. omega arith; no_end = λ e. omega arith }
call_coded asks.AnchorHears = record { plain = refl; read = refl; no_tab = λ e. omega arith; no_end = λ e. omega arith }
call_coded asks.Release = record { plain = refl; read = refl; no_tab = λ e. omega arith; no_end = λ e. omega arith }

coded : (kind : Kind) → Coded kind
coded kinds.Settings = record { plain = refl; read = refl; no_tab = λ e. omega arith; no_end = λ e. omega arith }
coded kinds.Role = record { plain = refl; read = refl; no_tab = λ e. omega arith; no_end = λ e. omega arith }
coded kinds.Mobile = record { plain = refl; read = refl; no_tab = λ e. omega arith; no_end = λ e. omega arith }
coded (kinds.Call k) = call_coded k

abbrev Stood : Place → List ℕ → Entry → Place → Type 0
Stood place line e next = judged place line ≡ Ok (record { entry = e; place = next })

-- a line of a kind
module _ (place next : Place) (kind : Kind) (ns : List ℕ) (e : Entry) (stands : follows place kind ≡ Some next) (small : Within kind 2 ns) (count : length ns ≡ number_count kind) (means : entry_of kind ns ≡ e) where
  abbrev line : List ℕ
  line = code kind ∷ tabbed ns

  first : fields line ≡ (code kind ∷ []) ∷ fields_after (tabbed ns)
  first = fields_front (code kind ∷ []) ns ((coded kind).no_tab, tt)

  is_kind : Some kind ≡ kind_named (get_or (fields line) 0 [])
  is_kind = sym (ap (λ (fs : List (List ℕ)). kind_named (get_or fs 0 [])) first ∙ (coded kind).read)

  fields_so : drop 1 (fields line) ≡ map decimal ns
  fields_so = fields_past line kind is_kind ∙ fields_tabbed kind 2 ns small

  count_so : length (drop 1 (fields line)) ≡ number_count kind
  count_so = ap (λ (fs : List (List ℕ)). length fs) fields_so ∙ length-map ns decimal ∙ count

  entry_back : entry_in kind (drop 1 (fields line)) ≡ Ok e
  entry_back =
      ap (entry_by kind) (cond-true (eqb (length (drop 1 (fields line))) (number_count kind)) (numbers kind 2 (drop 1 (fields line))) (Err 0) (eq-eqb (length (drop 1 (fields line))) (number_count kind) count_so) ∙ ap (numbers kind 2) fields_so ∙ numbers_back kind 2 ns small)
      ∙ ap good_entry means

  lettered_line : Stood place line e next
  lettered_line = good_letter place next line kind e (coded kind).plain is_kind (sym stands) entry_back

call_line : (place next : Place) (c : Call) → place_after place (call_written c) ≡ Some next → Writable (call_written c) → Stood place (line_of (call_written c)) (call c) next
call_line place next (calls.Ask t m r k) p w =
    lettered_line place next (kinds.Call asks.Ask) (t ∷ m ∷ r ∷ k ∷ []) (call (calls.Ask t m r k)) p w refl refl
call_line place next (calls.Finish t m) p w =
    lettered_line place next (kinds.Call asks.Finish) (t ∷ m ∷ []) (call (calls.Finish t m)) p w refl refl
call_line place next (calls.MobileHears t m) p w =
    lettered_line place next (kinds.Call asks.MobileHears) (t ∷ m ∷ []) (call (calls.MobileHears t m)) p w refl refl
call_line place next (calls.MobileTimer t m) p w =
    lettered_line place next (kinds.Call asks.MobileTimer) (t ∷ m ∷ []) (call (calls.MobileTimer t m)) p w refl refl
call_line place next (calls.StationHearsAir t s) p w =
    lettered_line place next (kinds.Call asks.StationHearsAir) (t ∷ s ∷ []) (call (calls.StationHearsAir t s)) p w refl refl
call_line place next (calls.StationHearsWire t s) p w =
    lettered_line place next (kinds.Call asks.StationHearsWire) (t ∷ s ∷ []) (call (calls.StationHearsWire t s)) p w refl refl
call_line place next (calls.StationTimer t s) p w =
    lettered_line place next (kinds.Call asks.StationTimer) (t ∷ s ∷ []) (call (calls.StationTimer t s)) p w refl refl
call_line place next (calls.RadioLoss t s) p w =
    lettered_line place next (kinds.Call asks.RadioLoss) (t ∷ s ∷ []) (call (calls.RadioLoss t s)) p w refl refl
call_line place next (calls.AnchorHears t) p w =
    lettered_line place next (kinds.Call asks.AnchorHears) (t ∷ []) (call (calls.AnchorHears t)) p w refl refl
call_line place next (calls.Release t) p w =
    lettered_line place next (kinds.Call asks.Release) (t ∷ []) (call (calls.Release t)) p w refl refl

entry_line : (place next : Place) (e : Entry) → place_after place (written e) ≡ Some next → Writable (written e) → Stood place (line_of (written e)) e next
entry_line place next (settings n s) p w =
    lettered_line place next kinds.Settings (n ∷ s.period ∷ s.t3128 ∷ s.t3130 ∷ s.link ∷ []) (settings n s) p w refl refl
entry_line place next (role r) p w =
    lettered_line place next kinds.Role (r.level ∷ r.district ∷ []) (role r) p w refl refl
entry_line place next (mobile m) p w =
    lettered_line place next kinds.Mobile (m.identity ∷ m.station ∷ m.allowed ∷ []) (mobile m) p w refl refl
entry_line place next (call c) p w = call_line place next c p w
entry_line place next (note bytes) p w =
    let same : place ≡ next = cc in
    ap (λ (x : Place). stood (note bytes) x) same

line_free : (w : Written) → Writable w → Free 10 (line_of w)
line_free (lettered kind ns) h = ((coded kind).no_end, tabbed_free kind 2 ns h)
line_free (noted bytes) h = (λ (e : 35 ≡ 10). omega arith, h)

reading_back : (es : List Entry) (n : ℕ) (place : Place) → WellFormed place es → reading_from n place (lines (rendered es)) ≡ Ok es
reading_back [] n place may = ap (ended n) may
reading_back (e ∷ es) n place (w, (next, p, form)) =
    ap (reading_from n place) (lines_front (line_of (written e)) (rendered es) (line_free (written e) w))
    ∙ ap (continued n (λ (x : Place). reading_from (n + 1) x (lines (rendered es)))) (entry_line place next e p w)
    ∙ ap (put_first e) (reading_back es (n + 1) next form)

pub reads_back : ReadsBack
reads_back es form short =
    cond-true (leb (length (rendered es)) 60000) (reading_from 1 Start (lines (rendered es))) (Err (record { line = 0; field = 0 })) (le-leb (length (rendered es)) 60000 short)
    ∙ reading_back es 1 Start form
