-- A session on fresh tables: its answers and its guarantee, and that it is not refused.
-- Assumes nothing.
use Rattle.std.proofs.Common.{◌≡◌, ℕ, ◌≤◌, Bool, true, cond, List, length, take, replicate, Some, None, vec_items, vec_len, Option, Vec, sym, ap, ◌∙◌, subst, arith}
use lib.ListN.{length-replicate}
use Rattle.std.specs.Vec.{with_items}
use Rattle.std.specs.declared.alloc.Global.{Global}
use Rattle.std.proofs.lemmas.List.{with_items_is, take_all}
use Rattle.std.proofs.lemmas.Bool.{le-leb}
use Rattle.anchor.specs.Anchors.{no_entry}
use Rattle.anchor.specs.declared.entry.End.TheVariants.{Stands}
use Rattle.anchor.specs.declared.entry.Entry.{Entry}
use Rattle.anchor.specs.declared.entry.Mark.TheVariants.{Preempts}
use Rattle.call.specs.Openings.{Given, opening_check, refusal_at_opening}
use Rattle.call.specs.declared.answer.Answer.{Answer}
use Rattle.call.specs.declared.answer.Refusal.{Refusal}
use Rattle.call.specs.declared.answer.Refusal.TheVariants.{FewPlaces}
use Rattle.call.specs.declared.calls.Call.{Call}
use Rattle.call.specs.declared.opening.SettingNumbers.{SettingNumbers}
use Rattle.call.specs.declared.opening.Subscriber.{Subscriber}
use Rattle.call.specs.declared.«record».GroupCall.{GroupCall}
use Rattle.dispatch.specs.Lent.{Untouched}
use Rattle.dispatch.specs.declared.tables.LentTables.{LentTables}
use Rattle.engine.specs.Conducts.{Guaranteed, conduct_refusal}
use Rattle.engine.specs.Openings.{given_of}
use Rattle.session.specs.Errors.{IfRefused}
use Rattle.session.specs.Models.{all_answers}
use Rattle.session.specs.Sessions.{Kept, fresh_book, given_for}
use Rattle.session.specs.Settings.{first_model, frame_for}
use Rattle.session.specs.declared.error.SessionError.{SessionError}
use Rattle.session.specs.declared.error.SessionError.TheVariants.{Refused, Memory}

-- as many rows as were asked for
pub rows_made : {X : Type 0} (rows items : List X) (n : ℕ) (row : X) → rows ≡ items → items ≡ replicate n row → length rows ≡ n
rows_made rows items n row e made = ap length (e ∙ made) ∙ length-replicate n row

-- a place with the defaults holds no grant
pub blank_entry : (e : Entry) → (e.station ≡ 0) × ((e.reference ≡ 0) × ((e.rank ≡ 0) × ((e.mark ≡ Preempts) × ((e.identity ≡ 0) × (e.end ≡ Stands))))) → e ≡ no_entry
blank_entry e is i =
    record {
      station = is.0 i;
      reference = is.1.0 i;
      rank = is.1.1.0 i;
      mark = is.1.1.1.0 i;
      identity = is.1.1.1.1.0 i;
      end = is.1.1.1.1.1 i;
    }

places : length fresh_book ≡ 4096
places = length-replicate 4096 no_entry

-- fresh tables as they are lent
pub record FreshLent (subscribers : List Subscriber) (stations : ℕ) (t : LentTables) : Type 0 where
  pub rows : length t.mobiles.now ≡ length subscribers
  pub cells : length t.stations.now ≡ stations
  pub blank : t.book.now ≡ fresh_book

module _ (numbers : SettingNumbers) (subscribers : List Subscriber) (stations : ℕ) (t t' : LentTables) (fresh : FreshLent subscribers stations t) where
  given_same : given_of numbers subscribers t ≡ given_for numbers subscribers stations
  given_same =
      ap (λ (n : ℕ). record { numbers = numbers; subscribers = subscribers; rows = n; stations = length t.stations.now; book = t.book.now }) fresh.rows
      ∙ ap (λ (n : ℕ). record { numbers = numbers; subscribers = subscribers; rows = length subscribers; stations = n; book = t.book.now }) fresh.cells
      ∙ ap (λ (b : List Entry). record { numbers = numbers; subscribers = subscribers; rows = length subscribers; stations = stations; book = b }) fresh.blank

  -- the checks passed, and there is a place for each answer
  accepted : (calls before : ℕ) → calls ≡ before → opening_check numbers subscribers (length subscribers) stations 4096 true ≡ None → conduct_refusal (refusal_at_opening (given_of numbers subscribers t) true) calls before ≡ None
  accepted calls before same passed =
      let check : refusal_at_opening (given_of numbers subscribers t) true ≡ None =
      ap (λ (g : Given). refusal_at_opening g true) given_same
      ∙ ap (λ (n : ℕ). opening_check numbers subscribers (length subscribers) stations n true) places
      ∙ passed in
      let enough : calls ≤ before = omega arith in
      ap (λ (o : Option Refusal). conduct_refusal o calls before) check
      ∙ ap (λ (b : Bool). cond b None (Some FewPlaces)) (le-leb calls before enough)

  module _ (above : ℕ → ℕ → Bool) (ranks : ℕ) (calls : List Call) (v : Vec Answer Global) (before after : List Answer) where
    -- no check refuses, so what is wanting is memory
    pub only_memory : length before ≡ length calls → opening_check numbers subscribers (length subscribers) stations 4096 true ≡ None → (error : SessionError) → IfRefused error (λ refusal. (conduct_refusal (refusal_at_opening (given_of numbers subscribers t) true) (length calls) (length before) ≡ Some refusal) × Untouched t t' × (after ≡ before)) → IfRefused error (λ _. ⊥)
    only_memory same passed (Refused refusal) said =
        let none : None ≡ Some refusal = sym (accepted (length calls) (length before) (sym same) passed) ∙ said.0 in
        let z : ◌≡◌ {A = ℕ} 0 1 = cc in
        omega arith
    only_memory same passed (Memory failed) said = tt

    pub answers_so : length after ≡ vec_len v → vec_len v ≡ length calls → take (length calls) after ≡ all_answers above ranks (frame_for (given_of numbers subscribers t)) calls (first_model (given_of numbers subscribers t)) → vec_items (with_items v after) ≡ all_answers above ranks (frame_for (given_for numbers subscribers stations)) calls (first_model (given_for numbers subscribers stations))
    answers_so fill many said =
        let whole : length after ≤ length calls = omega arith in
        with_items_is v after fill
        ∙ sym (take_all (length calls) after whole)
        ∙ said
        ∙ ap (λ (g : Given). all_answers above ranks (frame_for g) calls (first_model g)) given_same

    pub kept_so : length after ≡ vec_len v → (group : GroupCall) → Guaranteed above ranks calls after group t' → Kept above ranks calls (vec_items (with_items v after))
    kept_so fill group guaranteed =
        subst (λ (xs : List Answer). Kept above ranks calls xs) (sym (with_items_is v after fill))
        (record { book = t'.book.now; last = group.last; mobiles = t'.mobiles.now; guarantee = guaranteed })
