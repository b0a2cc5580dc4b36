-- What was told of the first of some entries, and what is told of all then.
use Rattle.std.proofs.Common.{◌≡◌, ◌∙◌, sym, ap, subst, refl, ℕ, zero, suc, ◌<◌, ◌≤◌, ◌+◌, ◌-◌, Bool, true, false, List, [], ◌∷◌, ◌++◌, drop, drop-cons, add-one, get_or, length, Some, None, Result, Ok, Err, append_assoc, append-nil, arith}
use Rattle.std.specs.Prelude.{OnOk}
use Rattle.states_core.specs.States.{Values}
use Rattle.names_terms.specs.declared.spec.Spec.{Spec}
use Rattle.logs_updates.specs.declared.line.Line.{Line}
use Rattle.run_texts.specs.Answers.{Named}
use Rattle.steps_why_branches.specs.declared.why.Why.{Why}
use Rattle.steps_why_not.specs.Whys.{AreWhys}
use Rattle.run_why.specs.Lines.{entry_text, why_more, whys_text}
use Rattle.run_why.specs.Tells.{Tells, entry_lines, is_cut, is_whole, no_entry_left, no_room_left}
use Rattle.run_why.specs.Telling.{IsTold, SoFar, TellsBehind}

-- an entry of some, and those behind it
pub entry_first : (ss : List Values) (i : ℕ) (s : Values) → i < length ss → s ≡ get_or ss i s → drop i ss ≡ s ∷ drop (i + 1) ss
entry_first ss i s below is =
    let front : drop i ss ≡ get_or ss i s ∷ drop (i + 1) ss = rw add-one (drop-cons ss i s below) in
    front ∙ ap (λ (t : Values). t ∷ drop (i + 1) ss) (sym is)

none_behind : (ss : List Values) (i : ℕ) → length ss ≤ i → drop i ss ≡ []
none_behind [] zero e = refl
none_behind [] (suc i) e = refl
none_behind (s ∷ ss) zero e = absurd (omega arith)
none_behind (s ∷ ss) (suc i) e = none_behind ss i (omega arith)

-- the lines of an entry stand behind a text
lines_behind : (l : Named) (line : Line) (s : Values) (ws items : List Why) (t0 t1 t2 : List ℕ) → ws ≡ items → t1 ≡ t0 ++ entry_text l s → t2 ≡ t1 ++ whys_text l line.at ws
    → t2 ≡ t0 ++ entry_lines l line s items
lines_behind l line s ws items t0 t1 t2 same first others =
    others ∙ ap (λ (xs : List Why). t1 ++ whys_text l line.at xs) same ∙ ap (λ (t : List ℕ). t ++ whys_text l line.at items) first
    ∙ append_assoc t0 (entry_text l s) (whys_text l line.at items)

module _ (g : Spec) (line : Line) (l : Named) (most : ℕ) (s : Values) (ws items : List Why) (more : Bool) (t0 t1 t2 : List ℕ) (are : AreWhys g line s most items more) (same : ws ≡ items)
    (first : t1 ≡ t0 ++ entry_text l s) (others : t2 ≡ t1 ++ whys_text l line.at ws) where
  -- an entry that has more branches
  pub told_cut : (t3 : List ℕ) → more ≡ true → t3 ≡ t2 ++ why_more → IsTold g line l most s None t0 t3
  told_cut t3 is last = (
    items,
    subst (AreWhys g line s most items) is are,
    last ∙ ap (λ (t : List ℕ). t ++ why_more) (lines_behind l line s ws items t0 t1 t2 same first others) ∙ append_assoc t0 (entry_lines l line s items) why_more,
  )

  -- an entry that has no more
  pub told_whole : (count : ℕ) → more ≡ false → count ≡ length items → length items ≤ most → IsTold g line l most s (Some (most - count)) t0 t2
  told_whole count is long few = (items, subst (AreWhys g line s most items) is are, omega arith, lines_behind l line s ws items t0 t1 t2 same first others)

module _ (g : Spec) (line : Line) (l : Named) (most : ℕ) (all : List Values) (old : List ℕ) where
  pub begun : SoFar g line l most all most all old old
  begun = record { told = []; stands = sym (append-nil old); goes_on = λ rest h. h }

  -- what is told behind what stands there
  behind : (now new told piece : List ℕ) → now ≡ old ++ told → new ≡ now ++ piece → new ≡ old ++ (told ++ piece)
  behind now new told piece stands is = is ∙ ap (λ (t : List ℕ). t ++ piece) stands ∙ append_assoc old told piece

  ended_with : (left : ℕ) (ss : List Values) (now new piece : List ℕ) → SoFar g line l most all left ss old now → new ≡ now ++ piece → Tells g line l left ss piece
      → TellsBehind g line l most all old new
  ended_with left ss now new piece so is tells = (so.told ++ piece, so.goes_on piece tells, behind now new so.told piece so.stands is)

  -- no entry is left
  pub ended_all : (left i : ℕ) (now : List ℕ) → length all ≤ i → SoFar g line l most all left (drop i all) old now → TellsBehind g line l most all old now
  ended_all left i now none so =
      ended_with left (drop i all) now now [] so (sym (append-nil now))
      (subst (λ (ss : List Values). Tells g line l left ss []) (sym (none_behind all i none)) (no_entry_left left))

  -- no more may be told of, and an entry is left
  ended_full : (left : ℕ) (s : Values) (ss behind_all : List Values) (now new : List ℕ) → behind_all ≡ s ∷ ss → left ≡ 0 → SoFar g line l most all left behind_all old now
      → new ≡ now ++ why_more → TellsBehind g line l most all old new
  ended_full left s ss behind_all now new is none so more =
      ended_with left behind_all now new why_more so more
      (subst (λ (ss : List Values). Tells g line l left ss why_more) (sym is) (subst (λ (k : ℕ). Tells g line l k (s ∷ ss) why_more) (sym none) (no_room_left s ss)))

  cut_tells : (left : ℕ) (s : Values) (ss : List Values) (now new : List ℕ) → 1 ≤ left → (told : IsTold g line l left s None now new)
      → Tells g line l left (s ∷ ss) (entry_lines l line s told.0 ++ why_more)
  cut_tells zero s ss now new some told = absurd (omega arith)
  cut_tells (suc k) s ss now new some told = is_cut k s ss told.0 told.1

  -- an entry has more branches than may be told of
  pub ended_cut : (left : ℕ) (s : Values) (ss behind_all : List Values) (now new : List ℕ) → behind_all ≡ s ∷ ss → 1 ≤ left → SoFar g line l most all left behind_all old now
      → IsTold g line l left s None now new → TellsBehind g line l most all old new
  ended_cut left s ss behind_all now new is some so told =
      let piece = entry_lines l line s told.0 ++ why_more in
      ended_with left behind_all now new piece so told.2 (subst (λ (ss : List Values). Tells g line l left ss piece) (sym is) (cut_tells left s ss now new some told))

  whole_tells : (left after : ℕ) (s : Values) (ss : List Values) (now new rest : List ℕ) → 1 ≤ left → (told : IsTold g line l left s (Some after) now new)
      → Tells g line l after ss rest → Tells g line l left (s ∷ ss) (entry_lines l line s told.0 ++ rest)
  whole_tells zero after s ss now new rest some told tells = absurd (omega arith)
  whole_tells (suc k) after s ss now new rest some told tells = is_whole k after s ss told.0 rest told.1 told.2 tells

  -- an entry more is told of, with all its branches
  pub gone_on : (left after : ℕ) (s : Values) (ss behind_all : List Values) (now new : List ℕ) → behind_all ≡ s ∷ ss → 1 ≤ left
      → SoFar g line l most all left behind_all old now → IsTold g line l left s (Some after) now new → SoFar g line l most all after ss old new
  gone_on left after s ss behind_all now new is some so told =
      let piece = entry_lines l line s told.0 in
      record {
        told = so.told ++ piece;
        stands = behind now new so.told piece so.stands told.3;
        goes_on = λ rest tells. subst (Tells g line l most all) (sym (append_assoc so.told piece rest))
            (so.goes_on (piece ++ rest) (subst (λ (ss : List Values). Tells g line l left ss (piece ++ rest)) (sym is) (whole_tells left after s ss now new rest some told tells)));
      }

  -- the same of a call that may find no memory
  pub ended_full_on : {E : Type 0} (r : Result (Unit {0}) E) (left : ℕ) (s : Values) (ss behind_all : List Values) (now new : List ℕ) → behind_all ≡ s ∷ ss → left ≡ 0
      → SoFar g line l most all left behind_all old now → OnOk r (new ≡ now ++ why_more) → OnOk r (TellsBehind g line l most all old new)
  ended_full_on (Ok u) left s ss behind_all now new is none so more = ended_full left s ss behind_all now new is none so more
  ended_full_on (Err e) left s ss behind_all now new is none so more = tt
