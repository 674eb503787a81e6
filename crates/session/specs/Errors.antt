-- What is said of why a session gives no answers.
-- Assumes nothing.
use Rattle.call.specs.declared.answer.Refusal.{Refusal}
use Rattle.session.specs.declared.error.SessionError.{SessionError}
use Rattle.session.specs.declared.error.SessionError.TheVariants.{Refused, Memory}

-- P of the refusal; want of memory says nothing
abbrev pub IfRefused : SessionError → (Refusal → Type 0) → Type 0
IfRefused (Refused refusal) P = P refusal
IfRefused (Memory failed) P = Unit {0}
