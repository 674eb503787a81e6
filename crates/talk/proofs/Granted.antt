-- The second part of the run: mobile 1 asks, and station 1 says that it has grant 1.
-- Assumes nothing.
use Rattle.std.proofs.Common.{◌≡◌, List, [], ◌∷◌, Some, None, vec_items, sym, refl, ap, ◌∙◌}
use Rattle.messages.specs.Messages.{BUSY, GRANT, ACCESS, REQUEST, ACKNOWLEDGE}
use Rattle.anchor.specs.Anchors.{standing}
use Rattle.carriers.specs.Queues.{has_room, enqueued, oldest, without_oldest}
use Rattle.carriers.specs.declared.queue.Queue.{Queue}
use Rattle.ether.specs.Ethers.{slots_of, with_newest, next_heard, after_hearing}
use Rattle.ether.specs.declared.ether.Ether.{Ether}
use Rattle.ether.specs.declared.slot.Slot.{Slot}
use Rattle.call.specs.Effects.Hearing.{silent, by_air, by_wire}
use Rattle.call.specs.Effects.Sent.{done, air_kept, wire_kept}
use Rattle.call.specs.Runs.Run.{called}
use Rattle.talk.specs.Steps.{Steps, granting}
use Rattle.talk.specs.Steps.Steps.{no_more, air_said, wire_said, air_heard, wire_heard}
use Rattle.talk.proofs.Freed.{Freed, freed_slots}
use Rattle.talk.proofs.Values.{RunTo, station_granted, granted_trace, ask, access_heard, request_heard, grant_told}

-- what the air keeps then
abbrev pub granted_slots : List Slot
granted_slots = with_newest (BUSY 1 0) (with_newest (GRANT 1 33 0 1) (after_hearing 1 1 (with_newest (ACCESS 1 33 0) freed_slots)))

pub record Granted (air : Ether) (wire : Queue) (air_now : Ether) (wire_now : Queue) : Type 0 where
  pub run : RunTo air wire granted_trace station_granted air_now wire_now
  pub slots : slots_of air_now ≡ granted_slots
  pub waiting : vec_items wire_now.waiting ≡ []

pub granted : {first : Ether} {first_wire : Queue} {air air' : Ether} {wire wire' : Queue} → Freed first first_wire air wire → Steps granting air wire air' wire' → Granted first first_wire air' wire'
unfolding standing
granted {air = air} {wire = wire} before (air_said _ air₁ said₁ (air_heard _ air₂ heard₁ (wire_said _ wire₁ said₂ (wire_heard _ wire₂ heard₂ (wire_said _ wire₃ said₃ (wire_heard _ wire₄ heard₃ (air_said _ air₃ said₄ (air_said _ air₄ said₅ no_more)))))))) =
    let slots₁ : slots_of air₁ ≡ with_newest (ACCESS 1 33 0) freed_slots = said₁.1 ∙ ap (with_newest (ACCESS 1 33 0)) before.slots in
    let slots₂ = heard₁.1 ∙ ap (after_hearing 1 1) slots₁ in
    let waiting₁ : vec_items wire₁.waiting ≡ REQUEST 1 33 0 ∷ [] = said₂.1 ∙ ap (enqueued (REQUEST 1 33 0)) before.waiting in
    let waiting₂ : vec_items wire₂.waiting ≡ [] = heard₂.1 ∙ ap (without_oldest 0) waiting₁ in
    let waiting₃ : vec_items wire₃.waiting ≡ ACKNOWLEDGE 1 33 0 1 ∷ [] = said₃.1 ∙ ap (enqueued (ACKNOWLEDGE 1 33 0 1)) waiting₂ in
    record {
      run =
          called grant_told
          (called request_heard
          (called access_heard
          (called ask before.run
          (record {
            heard = None;
            air_then = air;
            wire_then = wire;
            hearing = silent;
            sent = air_kept {a₁ = air₁} (refl, said₁.1) done;
            tables = refl;
            outcome = refl;
          }))
          (record {
            heard = Some (ACCESS 1 33 0);
            air_then = air₂;
            wire_then = wire;
            hearing = by_air (sym (ap (next_heard 1 1) slots₁), heard₁.1);
            sent = wire_kept {w₁ = wire₁} (sym (ap has_room before.waiting), said₂.1) done;
            tables = refl;
            outcome = refl;
          }))
          (record {
            heard = Some (REQUEST 1 33 0);
            air_then = air₂;
            wire_then = wire₂;
            hearing = by_wire (sym (ap (oldest 0) waiting₁), heard₂.1);
            sent = wire_kept {w₁ = wire₃} (sym (ap has_room waiting₂), said₃.1) done;
            tables = refl;
            outcome = refl;
          }))
          (record {
            heard = Some (ACKNOWLEDGE 1 33 0 1);
            air_then = air₂;
            wire_then = wire₄;
            hearing = by_wire (sym (ap (oldest 1) waiting₃), heard₃.1);
            sent = air_kept {a₁ = air₃} (refl, said₄.1) (air_kept {a₁ = air₄} (refl, said₅.1) done);
            tables = refl;
            outcome = refl;
          });
      slots = said₅.1 ∙ ap (with_newest (BUSY 1 0)) (said₄.1 ∙ ap (with_newest (GRANT 1 33 0 1)) slots₂);
      waiting = heard₃.1 ∙ ap (without_oldest 1) waiting₃;
    }
