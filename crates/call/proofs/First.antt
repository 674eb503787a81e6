-- After an opening that is answered 28 every line holds.
-- Assumes nothing.
use Rattle.std.proofs.Common.{◌≡◌, ℕ, zero, suc, ◌-◌, ◌<◌, Bool, true, false, not, ◌&&◌, eqb, List, [], ◌∷◌, length, get_or, Some, None, Option, sym, refl, ap, ◌∙◌, subst, arith, lit≤, MatchOption}
use Rattle.std.proofs.lemmas.List.{get_or-map, get_or-replicate, length-map, length-replicate}
use Rattle.std.proofs.lemmas.Bool.{and_parts, both_ways, eq-eqb, true≢false}
use Rattle.messages.specs.declared.message.Message.{Message}
use Rattle.mobile.specs.declared.row.Mobile.{Mobile}
use Rattle.station.specs.declared.row.Station.{Station}
use Rattle.anchor.proofs.Laws.{sound_at_first}
use Rattle.carriers.specs.Meaning.{On, empty}
use Rattle.call.specs.Effects.{refused}
use Rattle.call.specs.Histories.{blank}
use Rattle.call.specs.Numbers.{told, refusal_number}
use Rattle.call.specs.Openings.{Given, Opened, Opening, entered_row, first_frame, first_tables, identity_in_limits, opened, refusal_at_opening, good_subscribers, unused}
use Rattle.call.specs.World.{Frame, Tables, World, is_there, mobile_at, no_mobile, no_station, station_number}
use Rattle.call.specs.declared.answer.Answer.{Answer}
use Rattle.call.specs.declared.answer.Refusal.{Refusal}
use Rattle.call.specs.declared.answer.Refusal.TheVariants.{Table, Identity, Setting, NotQuiet, NoParty, Time, Rank, State, FewPlaces, Form}
use Rattle.call.specs.declared.opening.Subscriber.{Subscriber}
use Rattle.call.specs.declared.settings.Settings.{Settings}
use Rattle.call.proofs.Checks.{check_passed, in_range}
use Rattle.call.proofs.Lines.{IsMobile, IsStation, MobileLine, PhaseLine, Sound}

abbrev no_subscriber : Subscriber
no_subscriber = record { identity = 0; station = 0; allowed = 0 }

-- an identity that no other has
unused_at : (identity : ℕ) (others : List Subscriber) → unused identity others ≡ true → (j : ℕ) → j < length others → identity ≡ (get_or others j no_subscriber).identity → ⊥
unused_at identity [] free j l same = absurd (let z = l in omega arith)
unused_at identity (x ∷ others) free zero l same =
    let parts = and_parts (not (eqb identity x.identity)) (unused identity others) free in
    let clash : not (eqb identity x.identity) ≡ false = ap not (eq-eqb identity x.identity same) in
    both_ways (not (eqb identity x.identity)) clash parts.0
unused_at identity (x ∷ others) free (suc j) l same =
    unused_at identity others (and_parts (not (eqb identity x.identity)) (unused identity others) free).1 j (omega arith) same

module _ (stations : ℕ) where
  good_parts : (x : Subscriber) (others : List Subscriber) → good_subscribers stations (x ∷ others) ≡ true → ((is_there x.station stations ≡ true) × (unused x.identity others ≡ true)) × (good_subscribers stations others ≡ true)
  good_parts x others good =
      let two = and_parts (identity_in_limits x.identity && is_there x.station stations) (unused x.identity others && good_subscribers stations others) good in
      let rest = and_parts (unused x.identity others) (good_subscribers stations others) two.1 in
      (((and_parts (identity_in_limits x.identity) (is_there x.station stations) two.0).1, rest.0), rest.1)

  housed_at : (xs : List Subscriber) → good_subscribers stations xs ≡ true → (i : ℕ) → i < length xs → is_there (get_or xs i no_subscriber).station stations ≡ true
  housed_at [] good i l = absurd (let z = l in omega arith)
  housed_at (x ∷ xs) good zero l = (good_parts x xs good).0.0
  housed_at (x ∷ xs) good (suc i) l = housed_at xs (good_parts x xs good).1 i (omega arith)

  different_at : (xs : List Subscriber) → good_subscribers stations xs ≡ true → (i j : ℕ) → i < length xs → j < length xs → (get_or xs i no_subscriber).identity ≡ (get_or xs j no_subscriber).identity → i ≡ j
  different_at [] good i j l k same = absurd (let z = l in omega arith)
  different_at (x ∷ xs) good zero zero l k same = refl
  different_at (x ∷ xs) good zero (suc j) l k same = absurd (unused_at x.identity xs (good_parts x xs good).0.1 j (omega arith) same)
  different_at (x ∷ xs) good (suc i) zero l k same = absurd (unused_at x.identity xs (good_parts x xs good).0.1 i (omega arith) (sym same))
  different_at (x ∷ xs) good (suc i) (suc j) l k same = ap suc (different_at xs (good_parts x xs good).1 i j (omega arith) (omega arith) same)

module _ (given : Given) (settings : Settings) (above : ℕ → ℕ → Bool) (good : good_subscribers given.stations given.subscribers ≡ true) where
  abbrev f : Frame
  f = first_frame given settings

  abbrev t : Tables
  t = first_tables given

  row_is : (m : ℕ) → IsMobile f m → mobile_at t m ≡ entered_row (get_or given.subscribers (m - 1) no_subscriber)
  row_is m is = let l = is.0 in let k = is.1 in get_or-map entered_row given.subscribers (m - 1) no_subscriber no_mobile (omega arith)

  station_is : (b : ℕ) → IsStation f b → station_number t b ≡ no_station
  station_is b is = let l = is.0 in let k = is.1 in get_or-replicate given.stations (b - 1) no_station no_station (omega arith)

  leading_line : (b : Station) (c : ℕ) (x : Subscriber) → MobileLine t.book t.last b (λ (g : ℕ). 0) c (entered_row x).identity (entered_row x).state blank
  leading_line b c x = record { stated = (refl, refl); ordered = record { balance = refl; tries = 0; few = lit≤ tt; numbered = refl }; talked = tt }

  pub first_sound : Sound f above (λ (g : ℕ). 0) (λ (n : ℕ). blank) t
  first_sound =
      record {
        book = sound_at_first above given.book;
        mobile_rows = length-map given.subscribers entered_row;
        station_rows = length-replicate given.stations no_station;
        different = λ m n one two same. let a = one.0 in let b = one.1 in let c = two.0 in let d = two.1 in
            let e = different_at given.stations given.subscribers good (m - 1) (n - 1) (omega arith) (omega arith) (sym (ap (λ (r : Mobile). r.identity) (row_is m one)) ∙ same ∙ ap (λ (r : Mobile). r.identity) (row_is n two)) in
            omega arith;
        housed = λ m is. let a = is.0 in let b = is.1 in
            subst (λ (r : Mobile). IsStation f r.station) (sym (row_is m is)) (in_range _ given.stations (housed_at given.stations given.subscribers good (m - 1) (omega arith)));
        phases = λ b is. subst (λ (r : Station). PhaseLine t.book t.last (λ (g : ℕ). 0) b r.phase r.top) (sym (station_is b is)) tt;
        mobiles = λ m is. subst (λ (r : Mobile). MobileLine t.book t.last (station_number t r.station) (λ (g : ℕ). 0) r.station r.identity r.state blank) (sym (row_is m is)) (leading_line _ _ (get_or given.subscribers (m - 1) no_subscriber));
      }

-- no refusal has the number 28
not_28 : (r : Refusal) → refusal_number r ≡ 28 → ⊥
not_28 Table e = omega arith
not_28 Identity e = omega arith
not_28 Setting e = omega arith
not_28 NotQuiet e = omega arith
not_28 NoParty e = omega arith
not_28 Time e = omega arith
not_28 Rank e = omega arith
not_28 State e = omega arith
not_28 FewPlaces e = omega arith
not_28 Form e = omega arith

nothing_on : (list : List Message) → empty list ≡ true → (m : Message) → On m list → ⊥
nothing_on [] e m h = h
nothing_on (x ∷ list) e m h = true≢false (sym e)

-- what an opening answered 28 has shown
pub record OpenedWell {A W : Type 0} (air_list : A → List Message) (wire_list : W → List Message) (given : Given) (f : Frame) (first : World A W) : Type 0 where
  pub subscribers : good_subscribers given.stations given.subscribers ≡ true
  pub frame : f ≡ first_frame given f.settings
  pub tables : first.tables ≡ first_tables given
  pub no_air : (m : Message) → On m (air_list first.air) → ⊥
  pub no_wire : (m : Message) → On m (wire_list first.wire) → ⊥

pub opened_well : {A W : Type 0} (air_list : A → List Message) (wire_list : W → List Message) (given : Given) (air : A) (wire : W) (answer : Answer) (f : Frame) (first : World A W) → Opening air_list wire_list given air wire answer f first → (told answer.outcome).number ≡ 28 → OpenedWell air_list wire_list given f first
opened_well air_list wire_list given air wire answer f first h yes28 =
    at (refusal_at_opening given (empty (air_list air) && empty (wire_list wire))) refl h
  where
    at : (o : Option Refusal) → refusal_at_opening given (empty (air_list air) && empty (wire_list wire)) ≡ o → MatchOption o ((answer ≡ opened) × Opened given air wire f first) (λ refusal. answer ≡ refused refusal) → OpenedWell air_list wire_list given f first
    at (Some r) is e = absurd (not_28 r (sym (ap (λ (x : Answer). (told x.outcome).number) e) ∙ yes28))
    at None is (e, o) =
        let one = check_passed _ _ _ is in
        let two = check_passed _ _ _ one.1 in
        let three = check_passed _ _ _ two.1 in
        let four = check_passed _ _ _ three.1 in
        let quiet = and_parts (empty (air_list air)) (empty (wire_list wire)) four.0 in
        record {
          subscribers = two.0;
          frame = o.frame;
          tables = o.tables;
          no_air = λ m h. nothing_on (air_list air) quiet.0 m (subst (λ x. On m (air_list x)) o.air_kept h);
          no_wire = λ m h. nothing_on (wire_list wire) quiet.1 m (subst (λ x. On m (wire_list x)) o.wire_kept h);
        }
