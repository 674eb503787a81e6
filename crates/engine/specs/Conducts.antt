-- What the call that opens and plays a list promises.
-- Assumes nothing.
use Rattle.std.specs.Prelude.{◌≡◌, ℕ, ◌≤◌, Bool, cond, List, length, drop, Some, None, Option, nat_le}
use Rattle.messages.specs.declared.message.Message.{Message}
use Rattle.call.specs.Guarantees.{Guarantee}
use Rattle.call.specs.Notices.{NoDrift}
use Rattle.call.specs.Openings.{Given, Opening, opened}
use Rattle.call.specs.Records.{frame_of}
use Rattle.call.specs.Runs.{Moment, Run, history}
use Rattle.call.specs.World.{World}
use Rattle.call.specs.declared.answer.Answer.{Answer}
use Rattle.call.specs.declared.answer.Refusal.{Refusal}
use Rattle.call.specs.declared.answer.Refusal.TheVariants.{FewPlaces}
use Rattle.call.specs.declared.calls.Call.{Call}
use Rattle.call.specs.declared.«record».GroupCall.{GroupCall}
use Rattle.dispatch.specs.Lent.{lent}
use Rattle.dispatch.specs.Worlds.{world}
use Rattle.engine.specs.Lists.{exchanges}
use Rattle.dispatch.specs.declared.tables.LentTables.{LentTables}

-- the opening's refusal, and after it that of too few answer places
abbrev pub conduct_refusal : Option Refusal → (calls places : ℕ) → Option Refusal
conduct_refusal (Some refusal) calls places = Some refusal
conduct_refusal None calls places = cond (nat_le calls places) None (Some FewPlaces)

-- the guarantee of the calls with their answers, the book and the mobiles
abbrev pub Guaranteed : (above : ℕ → ℕ → Bool) (ranks : ℕ) → List Call → List Answer → GroupCall → LentTables → Type 0
Guaranteed above ranks calls answers c t = Guarantee above ranks (exchanges calls answers) t.book.now c.last t.mobiles.now

module _
    {A W : Type 0}
    (air_list : A → List Message)
    (wire_list : W → List Message)
    (air_says : A → Message → Bool → A → Type 0)
    (wire_says : W → Message → Bool → W → Type 0)
    (air_hears : A → ℕ → ℕ → Option Message → A → Type 0)
    (wire_hears : W → ℕ → ℕ → Option Message → W → Type 0)
    (above : ℕ → ℕ → Bool)
    (ranks : ℕ) where
  -- an opening, and a run of the list's calls after it with the answers in their places
  pub record Conducted (given : Given) (air : A) (wire : W) (calls : List Call) (before after : List Answer) (c : GroupCall) (t : LentTables) (air' : A) (wire' : W) : Type 0 where
    pub first : World A W
    pub opening : Opening air_list wire_list given air wire opened (frame_of c) first
    pub trace : List Moment
    pub run : Run air_says wire_says air_hears wire_hears above ranks (frame_of c) first trace (world c t air' wire')
    pub answered : history trace ≡ exchanges calls after
    pub enough : length calls ≤ length before
    pub places : length after ≡ length before
    pub past : drop (length calls) after ≡ drop (length calls) before
    pub no_drift : NoDrift (frame_of c) trace (lent c t)
