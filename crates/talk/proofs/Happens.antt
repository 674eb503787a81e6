-- The opening on quiet carriers is answered 28, and the three parts of the run follow it.
-- Assumes nothing.
use Rattle.std.proofs.Common.{◌≡◌, true, List, [], ◌∷◌, map, vec_items, sym, refl, subst, MatchOption}
use Rattle.std.proofs.lemmas.Bool.{and_parts, false≢true}
use Rattle.messages.specs.declared.message.Message.{Message}
use Rattle.carriers.specs.Meaning.{empty}
use Rattle.carriers.specs.declared.queue.Queue.{Queue}
use Rattle.ether.specs.Ethers.{slots_of, message_in}
use Rattle.ether.specs.declared.ether.Ether.{Ether}
use Rattle.ether.specs.declared.slot.Slot.{Slot}
use Rattle.call.specs.Effects.{refused}
use Rattle.call.specs.Openings.{Opened, refusal_at_opening, opened}
use Rattle.talk.specs.Steps.{Steps, both_quiet, freeing, granting, linking}
use Rattle.talk.specs.Talks.{TalkHappens}
use Rattle.talk.proofs.Freed.{freed}
use Rattle.talk.proofs.Granted.{granted}
use Rattle.talk.proofs.Linked.{linked}
use Rattle.talk.proofs.Values.{given, frame, world, at_first, mobile_talks, linked_trace}

none_waits : (waiting : List Message) → empty waiting ≡ true → waiting ≡ []
none_waits [] h = refl
none_waits (m ∷ waiting) h = absurd (false≢true h)

none_kept : (slots : List Slot) → empty (map message_in slots) ≡ true → slots ≡ []
none_kept [] h = refl
none_kept (slot ∷ slots) h = absurd (false≢true h)

pub happens : {air₁ air₂ air₃ : Ether} {wire₁ wire₂ wire₃ : Queue} (air : Ether) (wire : Queue) → both_quiet air wire ≡ true → Steps freeing air wire air₁ wire₁ → Steps granting air₁ wire₁ air₂ wire₂ → Steps linking air₂ wire₂ air₃ wire₃ → TalkHappens air wire air₃ wire₃
happens {air₃ = air₃} {wire₃ = wire₃} air wire quiet one two three =
    let parts = and_parts (empty (map message_in (slots_of air))) (empty (vec_items wire.waiting)) quiet in
    record {
      given = given;
      answer = opened;
      frame = frame;
      first = world at_first air wire;
      trace = linked_trace;
      end = world mobile_talks air₃ wire₃;
      opening =
          subst (λ b. MatchOption (refusal_at_opening given b) ((opened ≡ opened) × Opened given air wire frame (world at_first air wire)) (λ refusal. opened ≡ refused refusal)) (sym quiet) (
            refl,
            record {
              settings = (refl, refl, refl, refl);
              frame = refl;
              tables = refl;
              air_kept = refl;
              wire_kept = refl;
            },
          );
      opened = refl;
      air_first = refl;
      wire_first = refl;
      run = linked (granted (freed air wire (none_kept (slots_of air) parts.0) (none_waits (vec_items wire.waiting) parts.1) one) two) three;
      talking = refl;
      air_end = refl;
      wire_end = refl;
    }
