use Rattle.std.proofs.Common.{◌≡◌, ℕ, Bool, true, false, cond, ◌&&◌, ◌||◌, eqb, List, length, Some, None, Ok, Err, vec_items, Option, Result, Vec, MatchResult, sym, ap, ◌∙◌, rules}
use Rattle.std.specs.declared.alloc.Global.{Global}
use Rattle.schemes.specs.Priorities.{greater}
use Rattle.schemes.specs.Roles.{every_in_limits, outranks}
use Rattle.schemes.specs.declared.role.Role.{Role}
use Rattle.call.specs.Openings.{Given, opening_check}
use Rattle.call.specs.declared.answer.Answer.{Answer}
use Rattle.call.specs.declared.answer.Refusal.{Refusal}
use Rattle.call.specs.declared.answer.Refusal.TheVariants.{Setting}
use Rattle.call.specs.declared.calls.Call.{Call}
use Rattle.call.specs.declared.opening.SettingNumbers.{SettingNumbers}
use Rattle.call.specs.declared.opening.Subscriber.{Subscriber}
use Rattle.session.specs.Errors.{IfRefused}
use Rattle.session.specs.Models.{all_answers}
use Rattle.session.specs.Sessions.{above_for, given_for, no_roles, ranks_for, roles_good, session_answers, session_refusal, then_roles}
use Rattle.session.specs.Settings.{first_model, frame_for}
use Rattle.session.specs.declared.error.SessionError.{SessionError}
use Rattle.session.specs.declared.error.SessionError.TheVariants.{Refused, Memory}
use Rattle.session.proofs.sessions.play_ranked.Goals as goal

-- with the scheme of the roles, and good roles, what is played is the session
session_so : (numbers : SettingNumbers) (subscribers : List Subscriber) (roles : List Role) (stations : ℕ) (calls : List Call) (above : ℕ → ℕ → Bool) (ranks : ℕ) → above ≡ above_for roles → ranks ≡ ranks_for roles → roles_good roles ≡ true → opening_check numbers subscribers (length subscribers) stations 4096 true ≡ None → (played : Result (Vec Answer Global) SessionError) → MatchResult played (λ answers. vec_items answers ≡ all_answers above ranks (frame_for (given_for numbers subscribers stations)) calls (first_model (given_for numbers subscribers stations))) (λ error. IfRefused error (λ _. ⊥)) → MatchResult played (λ answers. (session_refusal numbers subscribers roles stations ≡ None) × (vec_items answers ≡ session_answers numbers subscribers roles stations calls)) (λ error. IfRefused error (λ refusal. session_refusal numbers subscribers roles stations ≡ Some refusal))
session_so numbers subscribers roles stations calls above ranks scheme count good passed (Ok answers) is =
    let g : Given = given_for numbers subscribers stations in (
      ap (λ (o : Option Refusal). then_roles o (roles_good roles)) passed ∙ ap (λ (b : Bool). cond b None (Some Setting)) good,
      is
          ∙ ap (λ (a : ℕ → ℕ → Bool). all_answers a ranks (frame_for g) calls (first_model g)) scheme
          ∙ ap (λ (n : ℕ). all_answers (above_for roles) n (frame_for g) calls (first_model g)) count,
    )
session_so numbers subscribers roles stations calls above ranks scheme count good passed (Err (Refused refusal)) never = absurd never
session_so numbers subscribers roles stations calls above ranks scheme count good passed (Err (Memory failed)) never = tt

pub returns-then-is_empty-clause-exact : goal.returns-then-is_empty-clause-exact
returns-then-is_empty-clause-exact c =
    let roles : List Role = c.args.plan.now.roles.now in
    let none : no_roles roles ≡ true = sym c.is_empty.ensures ∙ c.if-is_empty.true in
    let scheme : greater ≡ above_for roles = sym (ap (λ (b : Bool). cond b greater (outranks roles)) none) in
    let count : 3 ≡ ranks_for roles = sym (ap (λ (b : Bool). cond {A = ℕ} b 3 16) none) in
    let good : roles_good roles ≡ true = ap (λ (b : Bool). b || (eqb (length roles) 16 && every_in_limits roles)) none in
    session_so c.args.plan.now.setup.settings c.args.plan.now.setup.subscribers.now roles c.args.plan.now.stations c.args.plan.now.calls.now greater 3 scheme count good c.requires c.play.result c.play.ensures.exact

pub returns-clause-exact : goal.returns-clause-exact
returns-clause-exact c =
    let roles : List Role = c.args.plan.now.roles.now in
    let held : List Role = c.in_ok-book.book.roles in
    let some : no_roles roles ≡ false = sym c.is_empty.ensures ∙ c.if-is_empty.false in
    let made : (roles_good roles ≡ true) × (held ≡ roles) = search rules in
    let scheme : outranks held ≡ above_for roles = ap outranks made.1 ∙ sym (ap (λ (b : Bool). cond b greater (outranks roles)) some) in
    let count : 16 ≡ ranks_for roles = sym (ap (λ (b : Bool). cond {A = ℕ} b 3 16) some) in
    session_so c.args.plan.now.setup.settings c.args.plan.now.setup.subscribers.now roles c.args.plan.now.stations c.args.plan.now.calls.now (outranks held) 16 scheme count made.0 c.requires c.play-2.result c.play-2.ensures.exact
