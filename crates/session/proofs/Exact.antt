-- A session on new carriers: its settings are those of the numbers, and its answers those of the model.
-- Assumes nothing.
use Rattle.std.proofs.Common.{◌≡◌, ℕ, ◌≤◌, Bool, true, false, cond, ◌&&◌, List, [], ◌∷◌, map, length, take, Some, None, Option, sym, refl, ap, ◌∙◌, subst, arith, MatchOption}
use native.Mathlib.Bridge.{le_prop}
use Rattle.std.proofs.lemmas.Bool.{and_parts, both_ways}
use Rattle.messages.specs.declared.message.Message.{Message}
use Rattle.timing.specs.Limits.{period_in_limits, timer_in_limits}
use Rattle.timing.specs.Types.{Period, Timer}
use Rattle.carriers.specs.Meaning.{empty}
use Rattle.carriers.specs.contracts.queue.lane.QueueCarrier.TheImpl as by_queue
use Rattle.carriers.specs.declared.queue.Queue.{Queue}
use Rattle.ether.specs.Ethers.{slots_of}
use Rattle.ether.specs.contracts.ether.listeners.EtherCarrier.TheImpl as by_ether
use Rattle.ether.specs.declared.ether.Ether.{Ether}
use Rattle.ether.specs.declared.slot.Slot.{Slot}
use Rattle.call.specs.Effects.{refused}
use Rattle.call.specs.Histories.{Exchange}
use Rattle.call.specs.Openings.{Given, Opened, Opening, SettingsAre, first_frame, first_tables, numbers_good, opened, refusal_at_opening, sizes_good, good_subscribers}
use Rattle.call.specs.Records.{frame_of}
use Rattle.call.specs.Runs.{Moment, history}
use Rattle.call.specs.World.{Frame, Tables, World}
use Rattle.call.specs.declared.answer.Answer.{Answer}
use Rattle.call.specs.declared.answer.Refusal.{Refusal}
use Rattle.call.specs.declared.answer.Refusal.TheVariants.{Identity, NotQuiet, Setting, Table}
use Rattle.call.specs.declared.calls.Call.{Call}
use Rattle.call.specs.declared.opening.SettingNumbers.{SettingNumbers}
use Rattle.call.specs.declared.settings.Settings.{Settings}
use Rattle.call.specs.declared.«record».GroupCall.{GroupCall}
use Rattle.call.proofs.Laws.{check_passed}
use Rattle.dispatch.specs.declared.tables.LentTables.{LentTables}
use Rattle.engine.specs.Conducts.{Conducted}
use Rattle.engine.specs.Lists.{exchanges}
use Rattle.session.specs.Models.{all_answers}
use Rattle.session.specs.Settings.{first_model, frame_for, period_for, period_of, settings_for, timer_for, timer_of}
use Rattle.session.proofs.Determined.{answer_in, call_in, model_of, run_so, waiting_in}

-- two timers of one number are the same
timer_same : (a b : Timer) → a.ms ≡ b.ms → a ≡ b
timer_same a b e =
    subst (λ (n : ℕ). (least : 100 ≤ n) (most : n ≤ 60000) → ◌≡◌ {A = Timer} a (record { ms = n; least = least; most = most })) e
    (λ least most. ap (λ (l : 100 ≤ a.ms). record { ms = a.ms; least = l; most = a.most }) (le_prop a.least least) ∙ ap (λ (m : a.ms ≤ 60000). record { ms = a.ms; least = least; most = m }) (le_prop a.most most)) b.least b.most

period_same : (a b : Period) → a.ms ≡ b.ms → a ≡ b
period_same a b e =
    subst (λ (n : ℕ). (least : 20 ≤ n) (most : n ≤ 400) → ◌≡◌ {A = Period} a (record { ms = n; least = least; most = most })) e
    (λ least most. ap (λ (l : 20 ≤ a.ms). record { ms = a.ms; least = l; most = a.most }) (le_prop a.least least) ∙ ap (λ (m : a.ms ≤ 400). record { ms = a.ms; least = least; most = m }) (le_prop a.most most)) b.least b.most

-- within its limits a number's timer has that number
timer_ms : (n : ℕ) (good : Bool) (is : timer_in_limits n ≡ good) → good ≡ true → (timer_of n good is).ms ≡ n
timer_ms n true is yes' = refl
timer_ms n false is yes' = absurd (both_ways false refl yes')

period_ms : (n : ℕ) (good : Bool) (is : period_in_limits n ≡ good) → good ≡ true → (period_of n good is).ms ≡ n
period_ms n true is yes' = refl
period_ms n false is yes' = absurd (both_ways false refl yes')

settings_same : (s : Settings) (n : SettingNumbers) → SettingsAre s n → numbers_good n ≡ true → s ≡ settings_for n
settings_same s n are good =
    let one = and_parts (period_in_limits n.period) _ good in
    let two = and_parts (timer_in_limits n.t3128) _ one.1 in
    let three = and_parts (timer_in_limits n.t3130) _ two.1 in
    let p : s.period ≡ period_for n.period = period_same _ _ (are.0 ∙ sym (period_ms n.period _ refl one.0)) in
    let a : s.t3128 ≡ timer_for n.t3128 = timer_same _ _ (are.1 ∙ sym (timer_ms n.t3128 _ refl two.0)) in
    let b : s.t3130 ≡ timer_for n.t3130 = timer_same _ _ (are.2 ∙ sym (timer_ms n.t3130 _ refl three.0)) in
    let c : s.link ≡ timer_for n.link = timer_same _ _ (are.3 ∙ sym (timer_ms n.link _ refl three.1)) in
    ap (λ (x : Period). record { period = x; t3128 = s.t3128; t3130 = s.t3130; link = s.link }) p
    ∙ ap (λ (x : Timer). record { period = period_for n.period; t3128 = x; t3130 = s.t3130; link = s.link }) a
    ∙ ap (λ (x : Timer). record { period = period_for n.period; t3128 = timer_for n.t3128; t3130 = x; link = s.link }) b
    ∙ ap (λ (x : Timer). record { period = period_for n.period; t3128 = timer_for n.t3128; t3130 = timer_for n.t3130; link = x }) c

-- the calls and the answers of a run that filled its places
calls_told : (trace : List Moment) (calls : List Call) (places : List Answer) → length calls ≤ length places → history trace ≡ exchanges calls places → map call_in trace ≡ calls
calls_told trace calls places enough told = calls_of trace ∙ ap (map call_of) told ∙ calls_back calls places enough
  where
    call_of : Exchange → Call
    call_of x = x.call

    calls_of : (xs : List Moment) → map call_in xs ≡ map call_of (history xs)
    calls_of [] = refl
    calls_of (x ∷ xs) = ap (λ (cs : List Call). call_in x ∷ cs) (calls_of xs)

    calls_back : (cs : List Call) (ps : List Answer) → length cs ≤ length ps → map call_of (exchanges cs ps) ≡ cs
    calls_back [] ps l = refl
    calls_back (c ∷ cs) [] l = absurd (let z = l in omega arith)
    calls_back (c ∷ cs) (p ∷ ps) l = ap (λ (xs : List Call). c ∷ xs) (calls_back cs ps (omega arith))

answers_told : (trace : List Moment) (calls : List Call) (places : List Answer) → length calls ≤ length places → history trace ≡ exchanges calls places → map answer_in trace ≡ take (length calls) places
answers_told trace calls places enough told = answers_of trace ∙ ap (map answer_of) told ∙ answers_back calls places enough
  where
    answer_of : Exchange → Answer
    answer_of x = x.answer

    answers_of : (xs : List Moment) → map answer_in xs ≡ map answer_of (history xs)
    answers_of [] = refl
    answers_of (x ∷ xs) = ap (λ (cs : List Answer). answer_in x ∷ cs) (answers_of xs)

    answers_back : (cs : List Call) (ps : List Answer) → length cs ≤ length ps → map answer_of (exchanges cs ps) ≡ take (length cs) ps
    answers_back [] ps l = refl
    answers_back (c ∷ cs) [] l = absurd (let z = l in omega arith)
    answers_back (c ∷ cs) (p ∷ ps) l = ap (λ (xs : List Answer). p ∷ xs) (answers_back cs ps (omega arith))

-- an opening answered 28 has good numbers, and sets up the tables
record Opens (given : Given) (air : Ether) (wire : Queue) (f : Frame) (first : World Ether Queue) : Type 0 where
  good : numbers_good given.numbers ≡ true
  well : Opened given air wire f first

opens : (given : Given) (air : Ether) (wire : Queue) (f : Frame) (first : World Ether Queue) → Opening (by_ether.ghosts).pending (by_queue.ghosts).pending given air wire opened f first → Opens given air wire f first
opens given air wire f first opening =
    at (refusal_at_opening given (empty ((by_ether.ghosts).pending air) && empty ((by_queue.ghosts).pending wire))) refl opening
  where
    at : (o : Option Refusal) → refusal_at_opening given (empty ((by_ether.ghosts).pending air) && empty ((by_queue.ghosts).pending wire)) ≡ o → MatchOption o ((opened ≡ opened) × Opened given air wire f first) (λ refusal. opened ≡ refused refusal) → Opens given air wire f first
    at (Some r) is e = let told = ap (λ (x : Answer). x.outcome) e in let z : ◌≡◌ {A = ℕ} 0 1 = cc in absurd (omega arith)
    at None is (e, o) =
        let last = cond (empty ((by_ether.ghosts).pending air) && empty ((by_queue.ghosts).pending wire)) None (Some NotQuiet) in
        let settings = cond (numbers_good given.numbers) last (Some Setting) in
        let one = check_passed (sizes_good (length given.subscribers) given.rows given.stations (length given.book)) (cond (good_subscribers given.stations given.subscribers) settings (Some Identity)) Table is in
        let two = check_passed (good_subscribers given.stations given.subscribers) settings Identity one.1 in
        let three = check_passed (numbers_good given.numbers) last Setting two.1 in
        record { good = three.0; well = o }

module _ (above : ℕ → ℕ → Bool) (ranks : ℕ) (given : Given) (air : Ether) (wire : Queue) (calls : List Call) (before after : List Answer) (c : GroupCall) (t : LentTables) (air' : Ether) (wire' : Queue) where
  pub exact : slots_of air ≡ [] → waiting_in wire ≡ [] → Conducted (by_ether.ghosts).pending (by_queue.ghosts).pending (by_ether.ghosts).says (by_queue.ghosts).says (by_ether.ghosts).hears (by_queue.ghosts).hears above ranks given air wire calls before after c t air' wire' → take (length calls) after ≡ all_answers above ranks (frame_for given) calls (first_model given)
  exact no_slots none_waits d =
      let o = opens given air wire (frame_of c) d.first d.opening in
      let w = o.well in
      let enough : length calls ≤ length after = let e = d.enough in let p = d.places in omega arith in
      let same : (frame_of c).settings ≡ settings_for given.numbers = settings_same _ _ w.settings o.good in
      let frame : frame_of c ≡ frame_for given = w.frame ∙ ap (first_frame given) same in
      let model : model_of d.first ≡ first_model given =
      ap (λ (u : Tables). record { tables = u; slots = slots_of d.first.air; waiting = waiting_in d.first.wire }) w.tables
      ∙ ap (λ (a : Ether). record { tables = first_tables given; slots = slots_of a; waiting = waiting_in d.first.wire }) w.air_kept
      ∙ ap (λ (s : List Slot). record { tables = first_tables given; slots = s; waiting = waiting_in d.first.wire }) no_slots
      ∙ ap (λ (q : Queue). record { tables = first_tables given; slots = []; waiting = waiting_in q }) w.wire_kept
      ∙ ap (λ (q : List Message). record { tables = first_tables given; slots = []; waiting = q }) none_waits in
      let r = run_so above ranks (frame_of c) d.run in
      sym (answers_told d.trace calls after enough d.answered)
      ∙ r.answers
      ∙ ap (λ (cs : List Call). all_answers above ranks (frame_of c) cs (model_of d.first)) (calls_told d.trace calls after enough d.answered)
      ∙ ap (λ (f : Frame). all_answers above ranks f calls (model_of d.first)) frame
      ∙ ap (all_answers above ranks (frame_for given) calls) model
