-- The last part of the run: mobile 1 says who it is, and talks.
-- Assumes nothing.
use Rattle.std.proofs.Common.{◌≡◌, Some, sym, refl, ap, ◌∙◌}
use Rattle.messages.specs.Messages.{BUSY, GRANT, UA, TALKER_INDICATION}
use Rattle.carriers.specs.Queues.{has_room}
use Rattle.carriers.specs.declared.queue.Queue.{Queue}
use Rattle.ether.specs.Ethers.{slots_of, with_newest, next_heard, after_hearing}
use Rattle.ether.specs.declared.ether.Ether.{Ether}
use Rattle.call.specs.Effects.Hearing.{by_air}
use Rattle.call.specs.Effects.Sent.{done, air_kept, wire_kept}
use Rattle.call.specs.Runs.Run.{called}
use Rattle.talk.specs.Steps.{Steps, linking}
use Rattle.talk.specs.Steps.Steps.{no_more, air_said, wire_said, air_heard}
use Rattle.talk.proofs.Granted.{Granted, granted_slots}
use Rattle.talk.proofs.Values.{RunTo, mobile_talks, linked_trace, grant_heard, talker_heard, busy_heard, ua_heard}

pub linked : {first : Ether} {first_wire : Queue} {air air' : Ether} {wire wire' : Queue} → Granted first first_wire air wire → Steps linking air wire air' wire' → RunTo first first_wire linked_trace mobile_talks air' wire'
linked {wire = wire} before (air_heard _ air₁ heard₁ (air_said _ air₂ said₁ (air_heard _ air₃ heard₂ (air_said _ air₄ said₂ (wire_said _ wire₁ said₃ (air_heard _ air₅ heard₃ (air_heard _ air₆ heard₄ no_more))))))) =
    let slots₁ : slots_of air₁ ≡ after_hearing 209 9 granted_slots = heard₁.1 ∙ ap (after_hearing 209 9) before.slots in
    let slots₂ = said₁.1 ∙ ap (with_newest (TALKER_INDICATION 1 1 7001)) slots₁ in
    let slots₃ = heard₂.1 ∙ ap (after_hearing 1 1) slots₂ in
    let slots₄ = said₂.1 ∙ ap (with_newest (UA 1 1 7001)) slots₃ in
    let slots₅ = heard₃.1 ∙ ap (after_hearing 209 9) slots₄ in
    called ua_heard
    (called busy_heard
    (called talker_heard
    (called grant_heard before.run
    (record {
      heard = Some (GRANT 1 33 0 1);
      air_then = air₁;
      wire_then = wire;
      hearing = by_air (sym (ap (next_heard 209 9) before.slots), heard₁.1);
      sent = air_kept {a₁ = air₂} (refl, said₁.1) done;
      tables = refl;
      outcome = refl;
    }))
    (record {
      heard = Some (TALKER_INDICATION 1 1 7001);
      air_then = air₃;
      wire_then = wire;
      hearing = by_air (sym (ap (next_heard 1 1) slots₂), heard₂.1);
      sent = air_kept {a₁ = air₄} (refl, said₂.1) (wire_kept {w₁ = wire₁} (sym (ap has_room before.waiting), said₃.1) done);
      tables = refl;
      outcome = refl;
    }))
    (record {
      heard = Some (BUSY 1 0);
      air_then = air₅;
      wire_then = wire₁;
      hearing = by_air (sym (ap (next_heard 209 9) slots₄), heard₃.1);
      sent = done;
      tables = refl;
      outcome = refl;
    }))
    (record {
      heard = Some (UA 1 1 7001);
      air_then = air₆;
      wire_then = wire₁;
      hearing = by_air (sym (ap (next_heard 209 9) slots₅), heard₄.1);
      sent = done;
      tables = refl;
      outcome = refl;
    })
