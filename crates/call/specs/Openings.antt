-- The opening of a group call: its checks, and the tables after it.
-- Assumes nothing.
use Rattle.std.specs.Prelude.{◌≡◌, ℕ, Bool, true, cond, not, ◌&&◌, List, [], ◌∷◌, map, length, replicate, Some, None, Option, MatchOption, ◌==◌, nat_le}
use Rattle.messages.specs.declared.message.Message.{Message}
use Rattle.mobile.specs.declared.row.Mobile.{Mobile}
use Rattle.mobile.specs.declared.row.State.TheVariants.{Listens}
use Rattle.mobile.specs.declared.row.Uplink.TheVariants.{Unknown}
use Rattle.anchor.specs.declared.entry.Entry.{Entry}
use Rattle.carriers.specs.Meaning.{empty}
use Rattle.call.specs.Effects.{refused}
use Rattle.timing.specs.Limits.{within}
use Rattle.call.specs.Settings.{settings_in_limits}
use Rattle.call.specs.World.{Frame, Tables, World, is_there, no_station}
use Rattle.call.specs.declared.answer.Answer.{Answer}
use Rattle.call.specs.declared.answer.Outcome.TheVariants.{Acted}
use Rattle.call.specs.declared.answer.Refusal.{Refusal}
use Rattle.call.specs.declared.answer.Refusal.TheVariants as refusals
use Rattle.call.specs.declared.opening.SettingNumbers.{SettingNumbers}
use Rattle.call.specs.declared.opening.Subscriber.{Subscriber}
use Rattle.call.specs.declared.settings.Settings.{Settings}

-- 1 to 8 stations, 1 to 200 mobiles with a row for each, a book of 1 to 4,096 places
abbrev pub sizes_good : (subscribers rows stations places : ℕ) → Bool
sizes_good subscribers rows stations places =
    within 1 200 subscribers && (rows == subscribers && (within 1 8 stations && within 1 4096 places))

abbrev pub identity_in_limits : ℕ → Bool
identity_in_limits identity = within 1 4294967295 identity

-- no other mobile has the identity
abbrev pub unused : ℕ → List Subscriber → Bool
unused identity [] = true
unused identity (s ∷ others) = not (identity == s.identity) && unused identity others

-- every identity in its limits and different from the others, every mobile in the cell of a station of the call
abbrev pub good_subscribers : (stations : ℕ) → List Subscriber → Bool
good_subscribers stations [] = true
good_subscribers stations (s ∷ others) =
    (identity_in_limits s.identity && is_there s.station stations)
    && (unused s.identity others && good_subscribers stations others)

abbrev pub numbers_good : SettingNumbers → Bool
numbers_good n = settings_in_limits n.period n.t3128 n.t3130 n.link

-- the first check that fails
abbrev pub opening_check : SettingNumbers → List Subscriber → (rows stations places : ℕ) → (quiet : Bool) → Option Refusal
opening_check numbers subscribers rows stations places quiet =
    cond (sizes_good (length subscribers) rows stations places) (cond (good_subscribers stations subscribers) (cond (numbers_good numbers) (cond quiet None (Some refusals.NotQuiet)) (Some refusals.Setting)) (Some refusals.Identity)) (Some refusals.Table)

-- what the opening is given: numbers, mobiles, the lengths of the lent tables, and the book as it is found
pub record Given : Type 0 where
  pub numbers : SettingNumbers
  pub subscribers : List Subscriber
  pub rows : ℕ
  pub stations : ℕ
  pub book : List Entry

abbrev pub refusal_at_opening : Given → (quiet : Bool) → Option Refusal
refusal_at_opening g quiet = opening_check g.numbers g.subscribers g.rows g.stations (length g.book) quiet

-- a mobile at first: it listens, and knows nothing of the uplink
abbrev pub entered_row : Subscriber → Mobile
entered_row s = record { identity = s.identity; station = s.station; allowed = s.allowed; state = Listens; uplink = Unknown }

-- no grant, time 0, every station Shut, the book as it was found
abbrev pub first_tables : Given → Tables
first_tables g =
    record {
      last = 0;
      time = 0;
      mobiles = map entered_row g.subscribers;
      stations = replicate g.stations no_station;
      book = g.book;
    }

abbrev pub first_frame : Given → Settings → Frame
first_frame g settings =
    record {
      settings = settings;
      mobile_count = length g.subscribers;
      station_count = g.stations;
      places = length g.book;
    }

abbrev pub SettingsAre : Settings → SettingNumbers → Type 0
SettingsAre s n =
    (s.period.ms ≡ n.period) × (s.t3128.ms ≡ n.t3128) × (s.t3130.ms ≡ n.t3130) × (s.link.ms ≡ n.link)

abbrev pub opened : Answer
opened = record { outcome = Acted 0; kept = 0; lost = 0 }

-- an opening on an air and a wire: the answer, and if it is no refusal, what every later call begins with
pub record Opened {A W : Type 0} (given : Given) (air : A) (wire : W) (f : Frame) (first : World A W) : Type 0 where
  pub settings : SettingsAre f.settings given.numbers
  pub frame : f ≡ first_frame given f.settings
  pub tables : first.tables ≡ first_tables given
  pub air_kept : first.air ≡ air
  pub wire_kept : first.wire ≡ wire

abbrev pub Opening : {A W : Type 0} → (air_list : A → List Message) (wire_list : W → List Message) → Given → A → W → Answer → Frame → World A W → Type 0
Opening air_list wire_list given air wire answer f first =
    MatchOption (refusal_at_opening given (empty (air_list air) && empty (wire_list wire))) ((answer ≡ opened) × Opened given air wire f first) (λ refusal. answer ≡ refused refusal)
