-- The Fade's steps keep a carrier's meaning, whatever the carrier under it.
-- Assumes nothing.
use Rattle.std.specs.Prelude.{◌≡◌, ℕ, Bool, true, false, ◌||◌, List, MatchBool, ◌==◌}
use Rattle.std.proofs.Common.{inl, ⊎_elim, sym, ap, subst, ◌∙◌}
use Rattle.std.proofs.lemmas.Bool.{true≢false, false≢true}
use Rattle.messages.specs.declared.message.Message.{Message}
use Rattle.carriers.specs.Fades.{Twice, ByMark}
use Rattle.carriers.specs.Meaning.{Joined}

module _
    {C : Type 0}
    (pending : C → List Message)
    (says : C → Message → Bool → C → Type 0)
    (kept : (c : C) (m : Message) (d : C) → says c m true d → Joined m (pending c) (pending d))
    (lost : (c : C) (m : Message) (d : C) → says c m false d → pending d ≡ pending c) where
  joined_again : (m : Message) (c e d : List Message) → Joined m c e → Joined m e d → Joined m c d
  joined_again m c e d one two =
      record { on = two.on; only = λ x h. ⊎_elim inl (one.only x) (two.only x h) }

  both_said : (c e d : C) (m : Message) (one two : Bool) → says c m one e → says e m two d → true ≡ (one || two) → Joined m (pending c) (pending d)
  both_said c e d m true true s t is = joined_again m (pending c) (pending e) (pending d) (kept c m e s) (kept e m d t)
  both_said c e d m true false s t is = subst (Joined m (pending c)) (sym (lost e m d t)) (kept c m e s)
  both_said c e d m false true s t is = subst (λ l. Joined m l (pending d)) (lost c m e s) (kept e m d t)
  both_said c e d m false false s t is = absurd (true≢false is)

  neither_said : (c e d : C) (m : Message) (one two : Bool) → says c m one e → says e m two d → false ≡ (one || two) → pending d ≡ pending c
  neither_said c e d m true two s t is = absurd (false≢true is)
  neither_said c e d m false true s t is = absurd (false≢true is)
  neither_said c e d m false false s t is = lost e m d t ∙ lost c m e s

  pub mark_kept : (mark : ℕ) (c : C) (m : Message) (d : C) → ByMark says mark c m true d → Joined m (pending c) (pending d)
  mark_kept mark c m d = at (mark == 1) (mark == 2)
    where
      at : (one two : Bool) → MatchBool one ((true ≡ false) × (d ≡ c)) (MatchBool two (Twice says c m true d) (says c m true d)) → Joined m (pending c) (pending d)
      at true two h = absurd (true≢false h.0)
      at false true h = both_said c h.between d m h.first_kept h.second_kept h.first h.second h.either
      at false false h = kept c m d h

  pub mark_lost : (mark : ℕ) (c : C) (m : Message) (d : C) → ByMark says mark c m false d → pending d ≡ pending c
  mark_lost mark c m d = at (mark == 1) (mark == 2)
    where
      at : (one two : Bool) → MatchBool one ((false ≡ false) × (d ≡ c)) (MatchBool two (Twice says c m false d) (says c m false d)) → pending d ≡ pending c
      at true two h = ap pending h.1
      at false true h = neither_said c h.between d m h.first_kept h.second_kept h.first h.second h.either
      at false false h = lost c m d h
