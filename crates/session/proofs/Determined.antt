-- Over an Ether and a Queue a run answers what the model does.
-- Assumes nothing.
use Rattle.std.proofs.Common.{◌≡◌, ℕ, Bool, true, false, cond, List, [], ◌∷◌, ◌++◌, map, Some, None, vec_items, Option, sym, refl, ap, ◌∙◌, arith, MatchOption}
use Rattle.std.proofs.lemmas.List.{map_push}
use Rattle.messages.specs.declared.message.Message.{Message}
use Rattle.messages.specs.declared.outbox.Post.{Post}
use Rattle.carriers.specs.Queues.{has_room}
use Rattle.carriers.specs.contracts.queue.lane.QueueCarrier.TheImpl as by_queue
use Rattle.carriers.specs.declared.queue.Queue.{Queue}
use Rattle.ether.specs.Ethers.{slots_of}
use Rattle.ether.specs.contracts.ether.listeners.EtherCarrier.TheImpl as by_ether
use Rattle.ether.specs.declared.ether.Ether.{Ether}
use Rattle.ether.specs.declared.slot.Slot.{Slot}
use Rattle.call.specs.Effects.{Accepted, Did, Hearing, Listening, Sent, effect, refused}
use Rattle.call.specs.Effects.Hearing.{silent, by_air, by_wire}
use Rattle.call.specs.Effects.Sent.{done, air_kept, air_lost, wire_kept, wire_lost}
use Rattle.call.specs.Histories.{Exchange}
use Rattle.call.specs.Runs.{Moment, Run}
use Rattle.call.specs.Runs.Run.{begun, called}
use Rattle.call.specs.World.{Frame, Tables, World, refusal_of}
use Rattle.call.specs.declared.answer.Answer.{Answer}
use Rattle.call.specs.declared.answer.Outcome.{Outcome}
use Rattle.call.specs.declared.answer.Refusal.{Refusal}
use Rattle.call.specs.declared.calls.Call.{Call}
use Rattle.session.specs.Models.{Answered, HeardSo, Model, SaidSo, after_heard, after_said, all_answers, answered, heard_so, model_after, one_kept, one_lost, said_so, unless_refused}

abbrev pub waiting_in : Queue → List Message
waiting_in q = vec_items q.waiting

-- what the carriers hold, as the model has it
abbrev pub model_of : World Ether Queue → Model
model_of w = record { tables = w.tables; slots = slots_of w.air; waiting = waiting_in w.wire }

abbrev pub call_in : Moment → Call
call_in x = x.exchange.call

abbrev pub answer_in : Moment → Answer
answer_in x = x.exchange.answer

abbrev Says : List Post → Ether → Queue → (kept lost : ℕ) → Ether → Queue → Type 0
Says = Sent (by_ether.ghosts).says (by_queue.ghosts).says (by_ether.ghosts).hears (by_queue.ghosts).hears

abbrev said_is : (kept lost : ℕ) → Ether → Queue → SaidSo
said_is kept lost air wire = record { kept = kept; lost = lost; slots = slots_of air; waiting = waiting_in wire }

-- a post that was kept or lost, before the rest
room_is : (b : Bool) (rest : SaidSo) → b ≡ true → cond b (one_kept rest) (one_lost rest) ≡ one_kept rest
room_is b rest e = ap (λ (x : Bool). cond x (one_kept rest) (one_lost rest)) e

no_room_is : (b : Bool) (rest : SaidSo) → b ≡ false → cond b (one_kept rest) (one_lost rest) ≡ one_lost rest
no_room_is b rest e = ap (λ (x : Bool). cond x (one_kept rest) (one_lost rest)) e

sent_so : {posts : List Post} {air air' : Ether} {wire wire' : Queue} {kept lost : ℕ} → Says posts air wire kept lost air' wire' → said_so posts (slots_of air) (waiting_in wire) ≡ said_is kept lost air' wire'
sent_so done = refl
sent_so (air_kept {m = m} {posts = posts} {a = a} {a₁ = b} {w = w} said more) =
    ap (λ (s : List Slot). one_kept (said_so posts s (waiting_in w))) (sym said.1) ∙ ap one_kept (sent_so more)
sent_so (air_lost said more) = let no = said.0 in let z : ◌≡◌ {A = ℕ} 0 1 = cc in absurd (omega arith)
sent_so (wire_kept {m = m} {posts = posts} {a = a} {w = w} {w₁ = v} said more) =
    room_is (has_room (waiting_in w)) _ (sym said.0) ∙ ap (λ (q : List Message). one_kept (said_so posts (slots_of a) q)) (sym said.1) ∙ ap one_kept (sent_so more)
sent_so (wire_lost {m = m} {posts = posts} {a = a} {w = w} {w₁ = v} said more) =
    no_room_is (has_room (waiting_in w)) _ (sym said.0) ∙ ap (λ (q : List Message). one_lost (said_so posts (slots_of a) q)) (sym said.1) ∙ ap one_lost (sent_so more)

abbrev Hears : Listening → Ether → Queue → Option Message → Ether → Queue → Type 0
Hears = Hearing (by_ether.ghosts).says (by_queue.ghosts).says (by_ether.ghosts).hears (by_queue.ghosts).hears

abbrev heard_is : Option Message → Ether → Queue → HeardSo
heard_is o air wire = record { message = o; slots = slots_of air; waiting = waiting_in wire }

hears_so : {l : Listening} {air air' : Ether} {wire wire' : Queue} {o : Option Message} → Hears l air wire o air' wire' → heard_so l (slots_of air) (waiting_in wire) ≡ heard_is o air' wire'
hears_so silent = refl
hears_so (by_air heard) = let one = heard.0 in let two = heard.1 in cc
hears_so (by_wire heard) = let one = heard.0 in let two = heard.1 in cc

module _ (above : ℕ → ℕ → Bool) (ranks : ℕ) (f : Frame) where
  abbrev Does : World Ether Queue → Call → Answer → World Ether Queue → Type 0
  Does = Did (by_ether.ghosts).says (by_queue.ghosts).says (by_ether.ghosts).hears (by_queue.ghosts).hears above ranks f

  abbrev answered_is : Answer → World Ether Queue → Answered
  answered_is answer w = record { answer = answer; model = model_of w }

  abbrev so : Answer → Tables → World Ether Queue → Answered
  so answer t w = record { answer = answer; model = record { tables = t; slots = slots_of w.air; waiting = waiting_in w.wire } }

  accepted_so : (before : World Ether Queue) (call : Call) (answer : Answer) (after : World Ether Queue) → Accepted (by_ether.ghosts).says (by_queue.ghosts).says (by_ether.ghosts).hears (by_queue.ghosts).hears above f before call answer after → unless_refused above ranks f None call (model_of before) ≡ answered_is answer after
  accepted_so before call answer after x =
      let t = before.tables in
      let e = effect above f call t x.heard in
      let heard = ap (after_heard above ranks f call t) (hears_so x.hearing) in
      let said = ap (after_said above ranks f e) (sent_so x.sent) in
      heard
      ∙ said
      ∙ ap (λ (o : Outcome). so (record { outcome = o; kept = answer.kept; lost = answer.lost }) e.tables after) (sym x.outcome)
      ∙ ap (λ (u : Tables). so answer u after) (sym x.tables)

  did_so : (before : World Ether Queue) (call : Call) (answer : Answer) (after : World Ether Queue) → Does before call answer after → answered above ranks f call (model_of before) ≡ answered_is answer after
  did_so before call answer after did = at (refusal_of f ranks before.tables call) did
    where
      at : (o : Option Refusal) → MatchOption o (Accepted (by_ether.ghosts).says (by_queue.ghosts).says (by_ether.ghosts).hears (by_queue.ghosts).hears above f before call answer after) (λ refusal. (answer ≡ refused refusal) × (after ≡ before)) → unless_refused above ranks f o call (model_of before) ≡ answered_is answer after
      at None x = accepted_so before call answer after x
      at (Some r) (is, same) = ap (λ (a : Answer). answered_is a before) (sym is) ∙ ap (λ (w : World Ether Queue). answered_is answer w) (sym same)

  -- one call more
  answers_more : (calls : List Call) (call : Call) (m : Model) → all_answers above ranks f (calls ++ call ∷ []) m ≡ all_answers above ranks f calls m ++ (answered above ranks f call (model_after above ranks f calls m)).answer ∷ []
  answers_more [] call m = refl
  answers_more (c ∷ calls) call m = ap (λ (xs : List Answer). (answered above ranks f c m).answer ∷ xs) (answers_more calls call (answered above ranks f c m).model)

  model_more : (calls : List Call) (call : Call) (m : Model) → model_after above ranks f (calls ++ call ∷ []) m ≡ (answered above ranks f call (model_after above ranks f calls m)).model
  model_more [] call m = refl
  model_more (c ∷ calls) call m = model_more calls call (answered above ranks f c m).model

  -- along a run
  pub record RunSo (first : World Ether Queue) (trace : List Moment) (w : World Ether Queue) : Type 0 where
    pub model : model_after above ranks f (map call_in trace) (model_of first) ≡ model_of w
    pub answers : map answer_in trace ≡ all_answers above ranks f (map call_in trace) (model_of first)

  one_call : (first before after : World Ether Queue) (trace : List Moment) (x : Exchange) → RunSo first trace before → Does before x.call x.answer after → RunSo first (trace ++ record { exchange = x; before = before.tables; after = after.tables } ∷ []) after
  one_call first before after trace x r did =
      let moment : Moment = record { exchange = x; before = before.tables; after = after.tables } in
      let calls : map call_in (trace ++ moment ∷ []) ≡ map call_in trace ++ x.call ∷ [] = map_push call_in trace moment in
      let step : answered above ranks f x.call (model_after above ranks f (map call_in trace) (model_of first)) ≡ answered_is x.answer after = ap (answered above ranks f x.call) r.model ∙ did_so before x.call x.answer after did in
      record {
        model = ap (λ (cs : List Call). model_after above ranks f cs (model_of first)) calls ∙ model_more (map call_in trace) x.call (model_of first) ∙ ap (λ (a : Answered). a.model) step;
        answers = map_push answer_in trace moment
            ∙ ap (λ (xs : List Answer). xs ++ x.answer ∷ []) r.answers
            ∙ ap (λ (a : Answered). all_answers above ranks f (map call_in trace) (model_of first) ++ a.answer ∷ []) (sym step)
            ∙ sym (answers_more (map call_in trace) x.call (model_of first))
            ∙ ap (λ (cs : List Call). all_answers above ranks f cs (model_of first)) (sym calls);
      }

  pub run_so : {first w : World Ether Queue} {trace : List Moment} → Run (by_ether.ghosts).says (by_queue.ghosts).says (by_ether.ghosts).hears (by_queue.ghosts).hears above ranks f first trace w → RunSo first trace w
  run_so begun = record { model = refl; answers = refl }
  run_so {first} (called {trace} {before} {after} x run did) = one_call first before after trace x (run_so run) did
