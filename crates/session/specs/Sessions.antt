-- A session on tables of its own: its rank scheme, its refusal and its answers, from what the caller brings.
-- Assumes nothing.
use Rattle.std.specs.Prelude.{ℕ, Bool, true, cond, ◌&&◌, ◌||◌, List, length, replicate, Some, None, Option, ◌==◌}
use Rattle.schemes.specs.Priorities.{greater}
use Rattle.schemes.specs.Roles.{every_in_limits, outranks}
use Rattle.schemes.specs.declared.role.Role.{Role}
use Rattle.mobile.specs.declared.row.Mobile.{Mobile}
use Rattle.anchor.specs.Anchors.{no_entry}
use Rattle.anchor.specs.declared.entry.Entry.{Entry}
use Rattle.call.specs.Guarantees.{Guarantee}
use Rattle.call.specs.Openings.{Given, opening_check}
use Rattle.call.specs.declared.answer.Answer.{Answer}
use Rattle.call.specs.declared.answer.Refusal.{Refusal}
use Rattle.call.specs.declared.answer.Refusal.TheVariants.{Setting}
use Rattle.call.specs.declared.calls.Call.{Call}
use Rattle.call.specs.declared.opening.SettingNumbers.{SettingNumbers}
use Rattle.call.specs.declared.opening.Subscriber.{Subscriber}
use Rattle.engine.specs.Lists.{exchanges}
use Rattle.session.specs.Models.{all_answers}
use Rattle.session.specs.Settings.{first_model, frame_for}

-- the largest book, with no grant in it
abbrev pub fresh_book : List Entry
fresh_book = replicate 4096 no_entry

-- a row for each mobile, and the fresh book
abbrev pub given_for : SettingNumbers → List Subscriber → (stations : ℕ) → Given
given_for numbers subscribers stations =
    record {
      numbers = numbers;
      subscribers = subscribers;
      rows = length subscribers;
      stations = stations;
      book = fresh_book;
    }

-- the caller brings none
abbrev pub no_roles : List Role → Bool
no_roles roles = length roles == 0

-- with no roles the talker priorities, else the role book
abbrev pub above_for : List Role → ℕ → ℕ → Bool
above_for roles = cond (no_roles roles) greater (outranks roles)

-- three priorities, or sixteen roles
abbrev pub ranks_for : List Role → ℕ
ranks_for roles = cond (no_roles roles) 3 16

-- none, or sixteen in their limits
abbrev pub roles_good : List Role → Bool
roles_good roles = no_roles roles || (length roles == 16 && every_in_limits roles)

-- an earlier refusal stands before that of the roles
abbrev pub then_roles : Option Refusal → (good : Bool) → Option Refusal
then_roles (Some refusal) good = Some refusal
then_roles None good = cond good None (Some Setting)

-- the opening's first failed check, and after those the roles
abbrev pub session_refusal : SettingNumbers → List Subscriber → List Role → (stations : ℕ) → Option Refusal
session_refusal numbers subscribers roles stations =
    then_roles (opening_check numbers subscribers (length subscribers) stations 4096 true) (roles_good roles)

-- what the calls answer, where nothing is refused
abbrev pub session_answers : SettingNumbers → List Subscriber → List Role → (stations : ℕ) → List Call → List Answer
session_answers numbers subscribers roles stations calls =
    all_answers (above_for roles) (ranks_for roles) (frame_for (given_for numbers subscribers stations)) calls (first_model (given_for numbers subscribers stations))

-- the guarantee of the calls with their answers, for the book and the mobiles that the session left
pub record Kept (above : ℕ → ℕ → Bool) (ranks : ℕ) (calls : List Call) (answers : List Answer) : Type 0 where
  pub book : List Entry
  pub last : ℕ
  pub mobiles : List Mobile
  pub guarantee : Guarantee above ranks (exchanges calls answers) book last mobiles
