-- When a grant stands, and which.
-- Assumes nothing.
use Rattle.std.proofs.Common.{◌≡◌, ℕ, ◌+◌, ◌-◌, ◌<◌, ◌≤◌, Bool, true, false, cond, ◌&&◌, ltb, leb, ◌⊎◌, List, length, get_or, Some, None, sym, refl, ap, ◌∙◌, inl, inr, arith}
use Rattle.std.proofs.lemmas.Bool.{cases_lt, cond-true, cond-false, and_from, and_left, and_right, lt-ltb, le-ltb, le-leb, lt-leb}
use Rattle.std.proofs.lemmas.List.{get_or_default}
use Rattle.anchor.specs.declared.entry.End.{End}
use Rattle.anchor.specs.declared.entry.End.TheVariants.{Stands, Ended, Preempted}
use Rattle.anchor.specs.declared.entry.Entry.{Entry}
use Rattle.anchor.specs.Anchors.{no_entry, stands, if_stands, standing}
use Rattle.anchor.specs.Laws.{place}

pub standing_within : (book : List Entry) (last : ℕ) → 1 ≤ last → last ≤ length book → standing book last ≡ if_stands (get_or book (last - 1) no_entry)
unfolding standing
standing_within book last least most =
    cond-true (ltb 0 last && leb last (length book)) _ _ (and_from (ltb 0 last) (leb last (length book)) (lt-ltb 0 last (omega arith)) (le-leb last (length book) most))

pub standing_outside : (book : List Entry) (last : ℕ) → (last < 1) ⊎ (length book < last) → standing book last ≡ None
unfolding standing
standing_outside book last (inl none) =
    cond-false (ltb 0 last && leb last (length book)) _ _ (and_left (ltb 0 last) (leb last (length book)) (le-ltb 0 last (omega arith)))
standing_outside book last (inr past) =
    cond-false (ltb 0 last && leb last (length book)) _ _ (and_right (ltb 0 last) (leb last (length book)) (lt-leb last (length book) past))

-- the entry at the last grant's place decides
pub standing_at : (book : List Entry) (last place : ℕ) (e d : Entry) → place + 1 ≡ last → place < length book → e ≡ get_or book place d → standing book last ≡ if_stands e
standing_at book last place e d at inside is =
    standing_within book last (omega arith) (omega arith)
    ∙ ap if_stands (sym (is ∙ get_or_default book place d no_entry inside ∙ ap (λ i. get_or book i no_entry) (omega arith)))

-- the entry of a grant that stands
pub record Held (book : List Entry) (last : ℕ) (e : Entry) : Type 0 where
  pub some : 1 ≤ last
  pub within : last ≤ length book
  pub entry_is : (k : ℕ) → k + 1 ≡ last → place book k ≡ e
  pub stands_is : e.end ≡ Stands

module _ (book : List Entry) (last : ℕ) where
  reads : (x e : Entry) → if_stands x ≡ Some e → (x ≡ e) × (x.end ≡ Stands)
  reads x e h = at x.end refl h
    where
      at : (v : End) → x.end ≡ v → cond (stands v) (Some x) None ≡ Some e → (x ≡ e) × (x.end ≡ Stands)
      at Stands is some = (cc, is)
      at (Ended cause) is some = let no : ◌≡◌ {A = ℕ} 0 1 = cc in absurd (omega arith)
      at Preempted is some = let no : ◌≡◌ {A = ℕ} 0 1 = cc in absurd (omega arith)

  unread : (x : Entry) → if_stands x ≡ None → stands x.end ≡ false
  unread x h = at (stands x.end) h
    where
      at : (b : Bool) → cond b (Some x) None ≡ None → b ≡ false
      at true some = let no : ◌≡◌ {A = ℕ} 0 1 = cc in absurd (omega arith)
      at false none = refl

  inside : (e : Entry) → standing book last ≡ Some e → (1 ≤ last) × (last ≤ length book)
  inside e is = at (cases_lt last 1) (cases_lt (length book) last)
    where
      outside : (last < 1) ⊎ (length book < last) → ⊥
      outside past =
          let none = standing_outside book last past in
          let no : ◌≡◌ {A = ℕ} 0 1 = cc in
          omega arith

      at : (last < 1) ⊎ (1 ≤ last) → (length book < last) ⊎ (last ≤ length book) → (1 ≤ last) × (last ≤ length book)
      at (inl none) far = absurd (outside (inl none))
      at (inr some) (inl past) = absurd (outside (inr past))
      at (inr some) (inr within) = (some, within)

  pub held : (e : Entry) → standing book last ≡ Some e → Held book last e
  held e is =
      let bounds = inside e is in
      let read = reads (get_or book (last - 1) no_entry) e (sym (standing_within book last bounds.0 bounds.1) ∙ is) in
      record {
        some = bounds.0;
        within = bounds.1;
        entry_is = λ k at. let here : k ≡ last - 1 = omega arith in ap (place book) here ∙ read.0;
        stands_is = ap (λ x. x.end) (sym read.0) ∙ read.1;
      }

  -- where no grant stands, the last has ended
  pub none_stands : standing book last ≡ None → last ≤ length book → (k : ℕ) → k + 1 ≡ last → stands (place book k).end ≡ false
  none_stands is within k at =
      let here : k ≡ last - 1 = omega arith in
      let ended = unread (get_or book (last - 1) no_entry) (sym (standing_within book last (omega arith) within) ∙ is) in
      ap (λ j. stands (place book j).end) here ∙ ended
