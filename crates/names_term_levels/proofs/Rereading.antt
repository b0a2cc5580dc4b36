-- A body that is read again.
use Rattle.std.proofs.Common.{◌≡◌, ◌∙◌, List, inl, inr, subst, arith, refl, sym, ap, length, set, get_or, ◌<◌, ◌≤◌}
use Rattle.std.specs.Prelude.{◌⊎◌, ◌||◌, ℕ, true, false, IsTrue, MatchOption, Option, Some, None, slice_get}
use Rattle.std.proofs.lemmas.List.{get_or-set_same, get_or-set_other, length-set}
use Rattle.std.proofs.lemmas.Option.{slice_get-get_or, get_or_from_slice_get}
use Rattle.names_terms.specs.declared.operator.Operator.{Operator}
use Rattle.names_term_parts.specs.declared.fault.LevelFault.{LevelFault}
use Rattle.names_term_parts.specs.FaultOrder.{is_before}
use Rattle.names_term_parts.specs.Marks.{Absorbs, has}
use Rattle.names_term_parts.specs.Parts.{part}
use Rattle.names_term_parts.proofs.Lists.{item_within}
use Rattle.names_term_parts.proofs.Marks.{has_within, or_cases}
use Rattle.names_term_levels.specs.declared.note.Note.{Note}
use Rattle.names_term_levels.specs.Arguments.{earlier_of}
use Rattle.names_term_levels.specs.Faults.{IsFirst}
use Rattle.names_term_levels.specs.Findings.{Covers, Finding, Finds, Reaches, Says, Standing, Under, Wrong}
use Rattle.names_term_levels.specs.Told.{IsFairBy, IsFaultBy, IsNoted}
use Rattle.names_term_levels.specs.Telling.{AreClosed, AreSound, bound_all, faults_all, GoesBefore, Has, IsClosed, IsClosedAt, IsSound, IsToldBy, is_fair, goes_before, Learns, left_of, left_to_tell, more_occur, more_primed, TellsMore}
use Rattle.names_term_levels.proofs.Adds.{earlier_of_keeps, earlier_of_tells, earlier_of_sound}
use Rattle.names_term_levels.proofs.Bounds.{body_faults, body_slots, primed_occurs}
use Rattle.names_term_levels.proofs.Closing.{fair_true, fault_true, occurs_true, primed_true}
use Rattle.names_term_levels.proofs.Lessening.{by_test, left_falls, sum_set}
use Rattle.names_term_levels.proofs.Order.{not_before_itself, not_before_on}

-- one item has a number
pub one_item : {A : Type 0} {a b : A} → Some a ≡ Some b → a ≡ b
one_item e = cc

-- what another note tells is added
pub learnt : (old told new : Note) → Absorbs (length told.occurs) old.occurs told.occurs new.occurs → Absorbs (length told.primed) old.primed told.primed new.primed → new.fault ≡ earlier_of old.fault told.fault → new.fair ≡ (old.fair || told.fair) → Learns old told new
learnt old told new occurs primed fault fair = record {
  adds = record { kept = kept_one; told = told_one; sound = sound_one };
  fair = fair;
}
  where
    kept_one : (x : Finding) → Covers old x → Covers new x
    kept_one (Standing i) h = occurs.kept i h
    kept_one (Under i) h = primed.kept i h
    kept_one (Wrong f) h = subst (λ (r : Option LevelFault). Reaches r f) (sym fault) (earlier_of_keeps old.fault told.fault f h)

    told_one : (x : Finding) → Says told x → Covers new x
    told_one (Standing i) h = occurs.added i (has_within told.occurs i h) h
    told_one (Under i) h = primed.added i (has_within told.primed i h) h
    told_one (Wrong f) h = subst (λ (r : Option LevelFault). Reaches r f) (sym fault) (earlier_of_tells old.fault told.fault f (f, h, not_before_itself f))

    sound_one : (x : Finding) → Says new x → Says old x ⊎ Says told x
    sound_one (Standing i) h = elim (occurs.sound i h) [ inl u ↦ inl u | inr u ↦ inr u.1 ]
    sound_one (Under i) h = elim (primed.sound i h) [ inl u ↦ inl u | inr u ↦ inr u.1 ]
    sound_one (Wrong f) h = earlier_of_sound old.fault told.fault f (sym fault ∙ h)

module _ (ops : List Operator) (ns : List Note) (all : length ns ≡ length ops) (sound : AreSound ops ns) (k : ℕ) (o : Operator) (n told : Note) (here : IsNoted ops ns k o n) (tells : IsToldBy ops ns o.body told) where
  within : length ns ≤ length ops
  within = omega (arith, all)

  by_found : (r : Option LevelFault) (f : LevelFault) → MatchOption r ((g : LevelFault) → ¬ IsFaultBy ops ns o.body g) (IsFirst (IsFaultBy ops ns o.body)) → r ≡ Some f → IsFaultBy ops ns o.body f
  by_found None f h q = absurd (cc)
  by_found (Some g) f h q = let same : g ≡ f = cc in subst (IsFaultBy ops ns o.body) same h.is_such

  by_first : (r : Option LevelFault) (f : LevelFault) → MatchOption r ((g : LevelFault) → ¬ IsFaultBy ops ns o.body g) (IsFirst (IsFaultBy ops ns o.body)) → IsFaultBy ops ns o.body f → Reaches r f
  by_first None f h w = absurd (h f w)
  by_first (Some g) f h w = (g, refl, h.none_before f w)

  -- what is told is true
  told_true : (x : Finding) → Says told x → Has ops o.body x
  told_true (Standing i) h = occurs_true ops ns within sound o.body i ((tells.told.occurs i).0 h)
  told_true (Under i) h = primed_true ops ns within sound o.body i ((tells.told.primed i).0 h)
  told_true (Wrong f) h = fault_true ops ns within sound o.body f (by_found told.fault f tells.told.fault h)

  -- where nothing more is told, the note tells all
  goes_on : (r t : Option LevelFault) (f : LevelFault) → (GoesBefore r t → ⊥) → Reaches t f → Reaches r f
  goes_on r None f never h = absurd (let q : None ≡ Some h.0 = h.1 in cc)
  goes_on None (Some g) f never h = absurd (never tt)
  goes_on (Some e) (Some g) f never h =
      let same : g ≡ h.0 = cc (h.1) in
      let first : is_before f g ≡ false = ap (λ y. is_before f y) same ∙ h.2 in
      let later : is_before g e ≡ false = elim (by_test (is_before g e)) [ inl held ↦ absurd (never held) | inr lost ↦ lost ] in
      (e, refl, not_before_on f g e first later)

  pub nothing_more : (TellsMore n told → ⊥) → IsClosed ops ns o.body n
  nothing_more never = record { covers = covers_one; fair = fair_one }
    where
      covers_one : (x : Finding) → Finds ops ns (part false o.body) x → Covers n x
      covers_one (Standing i) w = elim (by_test (has n.occurs i)) [ inl held ↦ held | inr lost ↦ absurd (never (more_occur (i, (tells.told.occurs i).1 w, lost))) ]
      covers_one (Under i) (inl w) = elim (by_test (has n.primed i)) [ inl held ↦ held | inr lost ↦ absurd (never (more_primed (i, (tells.told.primed i).1 w, lost))) ]
      covers_one (Under i) (inr w) = absurd (let q : false ≡ true = w.0 in cc)
      covers_one (Wrong f) w = goes_on n.fault told.fault f (λ g. never (goes_before g)) (by_first told.fault f tells.told.fault w)

      fair_one : IsFairBy ns o.body → IsTrue n.fair
      fair_one w = elim (by_test n.fair) [ inl held ↦ held | inr lost ↦ absurd (never (is_fair (tells.fair.1 w) lost)) ]

  pub nothing_more_at : (TellsMore n told → ⊥) → IsClosedAt ops ns k
  nothing_more_at never p m there =
      let same : o ≡ p = one_item (sym here.is ∙ there.is) in
      let same_note : n ≡ m = one_item (sym here.told ∙ there.told) in
      subst (λ (q : Operator). IsClosed ops ns q.body m) same (subst (λ (y : Note). IsClosed ops ns o.body y) same_note (nothing_more never))

  -- where more is told, the note learns it
  module _ (new : Note) (learns : Learns n told new) where
    new_true : IsSound ops o.body new
    new_true = record {
      says = λ x h. elim (learns.adds.sound x h) [ inl u ↦ (sound k o n here).says x u | inr u ↦ told_true x u ];
      fair = λ h. elim (or_cases n.fair told.fair (sym learns.fair ∙ h)) [ inl u ↦ (sound k o n here).fair u | inr u ↦ fair_true ops ns within sound o.body (tells.fair.0 u) ];
    }

    stands : k < length ns
    stands = item_within ns k n here.told

    pub more_sound : AreSound ops (set ns k new)
    more_sound j p m there = elim (cases j) [ inl e ↦ same e | inr e ↦ other e ]
      where
        cases : (j : ℕ) → (j ≡ k) ⊎ (j ≡ k → ⊥)
        cases j = grind arith

        some_same : {a b : Operator} → Some a ≡ Some b → a ≡ b
        some_same e = cc

        lt : j < length ns
        lt = let l : j < length (set ns k new) = item_within (set ns k new) j m there.told in omega (arith, l, length-set ns k new)

        item : get_or (set ns k new) j new ≡ m
        item = get_or_from_slice_get (set ns k new) j m new there.told

        same : j ≡ k → IsSound ops p.body m
        same e =
            let here_too : p ≡ o = some_same (sym there.is ∙ ap (slice_get ops) e ∙ here.is) in
            let note_is : new ≡ m = sym (get_or-set_same ns k new new stands) ∙ ap (λ i. get_or (set ns k new) i new) (sym e) ∙ item in
            subst (λ (y : Note). IsSound ops p.body y) note_is (subst (λ (q : Operator). IsSound ops q.body new) (sym here_too) new_true)

        other : (j ≡ k → ⊥) → IsSound ops p.body m
        other e =
            let old_item : get_or ns j new ≡ m = sym (get_or-set_other ns k j new new e) ∙ item in
            sound j p m (record { is = there.is; told = slice_get-get_or ns j new lt ∙ ap Some old_item })

    pub more_less : TellsMore n told → left_to_tell ops (set ns k new) < left_to_tell ops ns
    more_less more =
        sum_set (left_of (bound_all ops) (faults_all ops)) ns k n new here.told
        (left_falls (bound_all ops) (faults_all ops) n told new learns more
        (λ i h. body_slots ops k o i here.is (told_true (Standing i) h))
        (λ i h. body_slots ops k o i here.is (primed_occurs ops o.body i (told_true (Under i) h)))
        (λ f h. body_faults ops k o f here.is (new_true.says (Wrong f) h)))

-- behind the last definition there is none
pub closed_all : (ops : List Operator) (ns : List Note) (end : ℕ) → length ops ≤ end → ((k : ℕ) → k < end → IsClosedAt ops ns k) → AreClosed ops ns
closed_all ops ns end le h k o n here = let lt : k < length ops = item_within ops k o here.is in h k (omega (arith, lt, le)) o n here
