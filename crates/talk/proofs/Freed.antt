-- The first part of the run: the floor is free, and mobile 1 knows it.
-- Assumes nothing.
use Rattle.std.proofs.Common.{◌≡◌, List, [], ◌∷◌, Some, None, vec_items, sym, refl, ap, ◌∙◌}
use Rattle.messages.specs.Messages.{FREE, RELEASE_COMMAND}
use Rattle.anchor.specs.Anchors.{standing}
use Rattle.carriers.specs.Queues.{has_room, enqueued, oldest, without_oldest}
use Rattle.carriers.specs.declared.queue.Queue.{Queue}
use Rattle.ether.specs.Ethers.{slots_of, with_newest, next_heard, after_hearing}
use Rattle.ether.specs.declared.ether.Ether.{Ether}
use Rattle.ether.specs.declared.slot.Slot.{Slot}
use Rattle.call.specs.Effects.Hearing.{silent, by_air, by_wire}
use Rattle.call.specs.Effects.Sent.{done, air_kept, wire_kept}
use Rattle.call.specs.Runs.Run.{begun, called}
use Rattle.talk.specs.Steps.{Steps, freeing}
use Rattle.talk.specs.Steps.Steps.{no_more, air_said, wire_said, air_heard, wire_heard}
use Rattle.talk.proofs.Values.{RunTo, free_known, freed_trace, release, station_told, mobile_told}

-- what the air keeps then
abbrev pub freed_slots : List Slot
freed_slots = after_hearing 209 9 (with_newest (FREE 1) [])

pub record Freed (air : Ether) (wire : Queue) (air_now : Ether) (wire_now : Queue) : Type 0 where
  pub run : RunTo air wire freed_trace free_known air_now wire_now
  pub slots : slots_of air_now ≡ freed_slots
  pub waiting : vec_items wire_now.waiting ≡ []

pub freed : {air' : Ether} {wire' : Queue} (air : Ether) (wire : Queue) → slots_of air ≡ [] → vec_items wire.waiting ≡ [] → Steps freeing air wire air' wire' → Freed air wire air' wire'
unfolding standing
freed air wire slots waiting (wire_said _ wire₁ said₁ (wire_heard _ wire₂ heard₁ (air_said _ air₁ said₂ (air_heard _ air₂ heard₂ no_more)))) =
    let waiting₁ : vec_items wire₁.waiting ≡ RELEASE_COMMAND 1 0 ∷ [] = said₁.1 ∙ ap (enqueued (RELEASE_COMMAND 1 0)) waiting in
    let slots₁ : slots_of air₁ ≡ with_newest (FREE 1) [] = said₂.1 ∙ ap (with_newest (FREE 1)) slots in
    record {
      run =
          called mobile_told
          (called station_told
          (called release begun
          (record {
            heard = None;
            air_then = air;
            wire_then = wire;
            hearing = silent;
            sent = wire_kept {w₁ = wire₁} (sym (ap has_room waiting), said₁.1) done;
            tables = refl;
            outcome = refl;
          }))
          (record {
            heard = Some (RELEASE_COMMAND 1 0);
            air_then = air;
            wire_then = wire₂;
            hearing = by_wire (sym (ap (oldest 1) waiting₁), heard₁.1);
            sent = air_kept {a₁ = air₁} (refl, said₂.1) done;
            tables = refl;
            outcome = refl;
          }))
          (record {
            heard = Some (FREE 1);
            air_then = air₂;
            wire_then = wire₂;
            hearing = by_air (sym (ap (next_heard 209 9) slots₁), heard₂.1);
            sent = done;
            tables = refl;
            outcome = refl;
          });
      slots = heard₂.1 ∙ ap (after_hearing 209 9) slots₁;
      waiting = heard₁.1 ∙ ap (without_oldest 1) waiting₁;
    }
