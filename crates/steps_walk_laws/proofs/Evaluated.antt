-- A term in order can be evaluated where each variable that it reads has a value: row by row.
use Rattle.std.proofs.Common.{◌≡◌, ◌∙◌, sym, refl, subst, arith, List, [], ◌∷◌, ◌++◌}
use Rattle.std.specs.Prelude.{◌≢◌, ◌||◌, ◌<◌, ◌≤◌, ◌+◌, ℕ, zero, suc, min, Bool, true, false, length, map, take, Contains, AllPairs, Option, Some, None, slice_get, slice_index_or}
use Rattle.std.proofs.lemmas.List.{length-append, length-map, length-take-le}
use Rattle.std.proofs.Math.Nat.{min-eq_left}
use Rattle.std.proofs.lemmas.Bool.{eq-eqb}
use Rattle.base_core.specs.declared.place.Place.{Place}
use Rattle.values_core.specs.Data.{Val}
use Rattle.values_core.specs.SetOperations.{AreDifferent}
use Rattle.reading_trees.specs.Precedence.{chains}
use Rattle.reading_trees.specs.declared.operators.PrefixOperator.{PrefixOperator}
use Rattle.reading_trees.specs.declared.operators.PrefixOperator.TheVariants as prefix
use Rattle.reading_trees.specs.declared.operators.InfixOperator.{InfixOperator}
use Rattle.reading_trees.specs.declared.operators.InfixOperator.TheVariants as infix_operator
use Rattle.names_terms.specs.declared.level.Level.{Level}
use Rattle.names_terms.specs.declared.level.Level.TheVariants as levels
use Rattle.names_terms.specs.declared.operator.Operator.{Operator}
use Rattle.names_terms.specs.declared.operator.Own.{Own}
use Rattle.names_terms.specs.declared.operator.Own.TheVariants as owns
use Rattle.names_terms.specs.declared.standard.StandardOperator.{StandardOperator}
use Rattle.names_terms.specs.declared.standard.StandardOperator.TheVariants as standard
use Rattle.names_terms.specs.Levels.{joined, of_operands, of_prefix, of_infix}
use Rattle.names_terms.specs.Lists.{terms_list, steps_list, bounds_list, fields_list, changes_list, arms_list}
use Rattle.names_terms.specs.Terms as term
use Rattle.names_terms.specs.Terms.{Term, Placed, Meaning, Terms, Operands, Step, Steps, Bounds, Fields, Changes, Arms, count, level_of, width}
use Rattle.names_term_parts.specs.Limits.{is_above, limits}
use Rattle.names_term_parts.specs.Parts.{part, parts_of, listed, operand_list, set_list, value_list, arm_list, is_prime, has_prime, primes, steps_parts, change_parts}
use Rattle.eval_meanings.specs.Answers.{arity}
use Rattle.eval_meanings.specs.Contexts.{Context, Places, Table, bind, enter, primed, within}
use Rattle.eval_meanings.specs.Recursion.{applied_by, marked_so, recursion_at, recursion_of}
use Rattle.eval_meanings.specs.Sets.{first_operand, other_operands}
use Rattle.eval_meanings.specs.Unchanged.{behind, changed_of, prime_of, unchanged_of}
use Rattle.eval_meanings.specs.Reads.{Reading, Reads, ReadsEach, ReadsUnder, Knows, UseReads, RecursionReads, StepsRead, PathReads, ChangesRead, ArmsRead, BoundsRead, SameReads, MeansUnchangedReads, UnchangedReads, PrefixReads, InfixReads, MeaningReads, has_value, is_chained}
use Rattle.actions_meanings.specs.declared.which.Which.TheVariants as which
use Rattle.actions_meanings.specs.Reads.{parts_in, body_of, reads}
use Rattle.names_meanings.specs.Means.{is_junction}
use Rattle.names_specification_laws.specs.Everywhere.{InTerms, InOperands, InSteps, InBounds, InFields, InChanges, InArms}
use Rattle.names_specification_laws.specs.IsSpec.{IsUse, AreOperands, AreKeys, ArePaths, AreFields, needed_by}
use Rattle.steps_walk_laws.specs.Stable.{Reaches, TermsCanBeEvaluated}
use Rattle.steps_walk_laws.proofs.PartLists.{OfPart, PartsAre, parts_both, parts_weaker, left, right, before, last, or_none}
use Rattle.steps_walk_laws.proofs.Rows.{AreKept, Row, Rows, Bodies, orderly_rows, orderly_bodies}
use Rattle.steps_walk_laws.proofs.LevelsOfParts.{Low, low_parts}
use Rattle.steps_walk_laws.proofs.Made.{state_action, prime_rows, unchanged_rows, changed_rows, prime_only, unchanged_only, changed_only}
use Rattle.steps_walk_laws.proofs.ReadOfParts.{ReadsOnly, parts_read, reads_anyway}

-- lists

pub length_terms : (ts : Terms) → length (terms_list ts) ≡ count ts
length_terms term.NoTerms = refl
length_terms (term.MoreTerms ts e) =
    let p : length (terms_list ts ++ e ∷ []) ≡ length (terms_list ts) + 1 = length-append (terms_list ts) (e ∷ []) in
    let q : length (terms_list ts) ≡ count ts = length_terms ts in
    omega arith

slot_value : (vs : List Val) (i : ℕ) → i < length vs → (v : Val) × (slice_get vs i ≡ Some v)
slot_value [] i h = absurd (omega arith)
slot_value (v ∷ vs) zero h = (v, refl)
slot_value (v ∷ vs) (suc i) h = slot_value vs i (omega arith)

needed_is : (o : StandardOperator) → needed_by o ≡ arity o
needed_is standard.Append = refl
needed_is standard.SubSeq = refl
needed_is o = refl

name_at : (fs : List (List ℕ × Term)) (k : ℕ) (f : List ℕ × Term) → slice_index_or (map (λ f. f.0) fs) k f.0 ≡ (slice_index_or fs k f).0
name_at [] k f = refl
name_at (x ∷ fs) zero f = refl
name_at (x ∷ fs) (suc k) f = name_at fs k f

names_differ : (fs : List (List ℕ × Term)) → AllPairs (λ f g. f.0 ≢ g.0) fs → AreDifferent (map (λ f. f.0) fs)
names_differ [] h = tt
names_differ (f ∷ fs) h = (once, names_differ fs (λ i j d l w. h (suc i) (suc j) d (omega arith) (omega arith)))
  where
    once : Contains (map (λ f. f.0) fs) f.0 → ⊥
    once (k, l, e) =
        let w : length (map (λ f. f.0) fs) ≡ length fs = length-map fs (λ f. f.0) in
        h zero (suc k) f (omega arith) (omega arith) (sym e ∙ name_at fs k f)

-- operators

has_value_is : (o : InfixOperator) (l : Level) → is_junction o ≡ false → is_above (of_infix o l) levels.Action ≡ false → has_value o ≡ true
has_value_is infix_operator.LeadsTo l j h = absurd (cc)
has_value_is infix_operator.And l j h = absurd (cc)
has_value_is infix_operator.Or l j h = absurd (cc)
has_value_is o l j h = refl

is_chained_is : (o : InfixOperator) → has_value o ≡ true → chains o ≡ true → is_chained o ≡ true
is_chained_is infix_operator.LeadsTo h k = h
is_chained_is infix_operator.And h k = h
is_chained_is infix_operator.Or h k = h
is_chained_is infix_operator.Implies h k = k
is_chained_is infix_operator.Equivalent h k = k
is_chained_is infix_operator.Member h k = k
is_chained_is infix_operator.NotMember h k = k
is_chained_is infix_operator.SubsetOrEqual h k = k
is_chained_is infix_operator.Interval h k = k
is_chained_is o h k = refl

swapped : (b h p : Bool) → (b || (h || p)) ≡ ((b || p) || h)
swapped true h p = refl
swapped false true true = refl
swapped false true false = refl
swapped false false true = refl
swapped false false false = refl

or_true : (b : Bool) → (b || true) ≡ true
or_true true = refl
or_true false = refl

same_some : (o u : Operator) → Some o ≡ Some u → o ≡ u
same_some o u e = cc

-- what is written of the parts, in their lists

module _ (reading : Reading) where
  read_pushed : (c : Context) (es : List Term) (e : Term) → ReadsEach reading c es → reading c e → ReadsEach reading c (es ++ e ∷ [])
  read_pushed c [] e h k = (k, tt)
  read_pushed c (x ∷ es) e h k = (h.0, read_pushed c es e h.1 k)

  read_mapped : {A : Type 0} (c : Context) (f : A → Term) (xs : List A) (y : A) → ReadsEach reading c (map f xs) → reading c (f y) → ReadsEach reading c (map f (xs ++ y ∷ []))
  read_mapped c f [] y h k = (k, tt)
  read_mapped c f (x ∷ xs) y h k = (h.0, read_mapped c f xs y h.1 k)

  arms_pushed : (c : Context) (xs : List (Term × Term)) (y : Term × Term) → ArmsRead reading c xs → reading c y.0 → reading c y.1 → ArmsRead reading c (xs ++ y ∷ [])
  arms_pushed c [] y h k w = (k, w, tt)
  arms_pushed c (x ∷ xs) y h k w = (h.0, h.1, arms_pushed c xs y h.2 k w)

  abbrev OwnChange : Context → Steps × Term → Type 0
  OwnChange c change = PathReads reading c (map (λ s. s.1) (steps_list change.0)) × ReadsUnder reading c 1 change.1

  changes_pushed : (c : Context) (xs : List (Steps × Term)) (y : Steps × Term) → ChangesRead reading c xs → OwnChange c y → ChangesRead reading c (xs ++ y ∷ [])
  changes_pushed c [] y h k = (k.0, k.1, tt)
  changes_pushed c (x ∷ xs) y h k = (h.0, h.1, changes_pushed c xs y h.2 k)

  abbrev KeyReads : Context → Step → Type 0
  KeyReads c term.Prime = ⊥
  KeyReads c (term.Index ts) = ReadsEach reading c (terms_list ts)
  KeyReads c (term.Field f) = Unit {0}

  path_pushed : (c : Context) (xs : List (Place × Step)) (at : Place) (s : Step) → PathReads reading c (map (λ s. s.1) xs) → KeyReads c s → PathReads reading c (map (λ s. s.1) (xs ++ (at, s) ∷ []))
  path_pushed c [] at term.Prime h k = absurd (k)
  path_pushed c [] at (term.Index ts) h k = (k, tt)
  path_pushed c [] at (term.Field f) h k = tt
  path_pushed c ((p, term.Prime) ∷ xs) at s h k = absurd (h)
  path_pushed c ((p, term.Index ts) ∷ xs) at s h k = (h.0, path_pushed c xs at s h.1 k)
  path_pushed c ((p, term.Field f) ∷ xs) at s h k = path_pushed c xs at s h k

module _ (variables : ℕ) (ops : Table) (Q : ℕ → Type 0) (bodies : Bodies variables ops Q) (next : Places) where
  -- contexts: so many slots, the next state, and the state that is read, which under a prime and in Init is the next one

  abbrev IsNow : Bool → Places → Type 0
  IsNow true p = p ≡ next
  IsNow false p = (x : ℕ) → x < variables → Knows p x

  abbrev At : Bool → ℕ → Context → Type 0
  At b n c = (length c.slots ≡ n) × (c.next ≡ next) × IsNow b c.now

  bind_at : (b : Bool) (n k : ℕ) (c : Context) (vs : List Val) → At b n c → length vs ≡ k → At b (n + k) (bind c vs)
  bind_at b n k c vs h q =
      let p : length (c.slots ++ vs) ≡ length c.slots + length vs = length-append c.slots vs in
      let s : length c.slots ≡ n = h.0 in
      ((omega arith), h.1, h.2)

  bind_one_at : (b : Bool) (n : ℕ) (c : Context) (vs : List Val) → At b n c → length vs ≡ 1 → At b (suc n) (bind c vs)
  bind_one_at b n c vs h q =
      let p : length (c.slots ++ vs) ≡ length c.slots + length vs = length-append c.slots vs in
      let s : length c.slots ≡ n = h.0 in
      ((omega arith), h.1, h.2)

  primed_at : (b : Bool) (n : ℕ) (c : Context) → At b n c → At (b || true) n (primed c)
  primed_at true n c h = (h.0, h.1, h.1)
  primed_at false n c h = (h.0, h.1, h.1)

  within_at : (b : Bool) (n m : ℕ) (c : Context) → At b n c → m ≤ n → At b m (within m c)
  within_at b n m c h q =
      let s : length c.slots ≡ n = h.0 in
      (length-take-le m c.slots (omega arith), h.1, h.2)

  enter_at : (b : Bool) (n : ℕ) (c : Context) (o : Operator) (vs : List Val) → At b n c → o.outer ≤ n → length vs ≡ o.params → At b (o.outer + o.params) (enter o vs c)
  enter_at b n c o vs h q w =
      let s : length c.slots ≡ n = h.0 in
      let t : length (take o.outer c.slots) ≡ o.outer = length-take-le o.outer c.slots (omega arith) in
      let p : length (take o.outer c.slots ++ vs) ≡ length (take o.outer c.slots) + length vs = length-append (take o.outer c.slots) vs in
      ((omega arith), h.1, h.2)

  at_same : (b : Bool) (n : ℕ) (c : Context) → At b n c → At (b || false) n c
  at_same b n c h = subst (λ (p : Bool). At p n c) (or_none b) h

  -- terms

  abbrev Only : OfPart
  Only = ReadsOnly variables ops Q bodies (Knows next)

  abbrev Fit : OfPart
  Fit p e = (is_above (level_of e) levels.Action ≡ false) × Only p e

  abbrev Here : ℕ → Term → Type 0
  Here n e = Rows variables ops Q n e

  abbrev Good : ℕ → Place → Level → Meaning → Type 0
  Good = Row variables ops Q

  fit_parts : (b : Bool) (n : ℕ) (at : Place) (l : Level) (m : Meaning) → Good n at l m → Fit b (Placed at l m) → PartsAre Fit (parts_in ops b m)
  fit_parts b n at l m row f =
      parts_weaker (λ p e. Low levels.Action b p e × Only p e) Fit (λ p e w. (w.0.0, w.1)) (parts_in ops b m)
      (parts_both (Low levels.Action b) Only (parts_in ops b m) (low_parts levels.Action b variables ops Q bodies n at l m row f.0) (parts_read variables ops Q bodies (Knows next) b n at l m row f.1))

  module _ (reading : Reading) (ih : (b : Bool) (n : ℕ) (c : Context) (e : Term) → At b n c → Here n e → Fit b e → reading c e) where
    terms_read : (b : Bool) (n : ℕ) (c : Context) → At b n c → (ts : Terms) → InTerms Good n ts → PartsAre Fit (parts_of b (listed ts)) → ReadsEach reading c (terms_list ts)
    terms_read b n c a term.NoTerms h f = tt
    terms_read b n c a (term.MoreTerms ts e) h f =
        read_pushed reading c (terms_list ts) e (terms_read b n c a ts h.0 (before Fit b (listed ts) e f)) (ih b n c e a h.1 (last Fit b (listed ts) e f))

    bounds_read : (b : Bool) (n : ℕ) (c : Context) → At b n c → (bs : Bounds) → InBounds Good n bs → PartsAre Fit (parts_of b (set_list bs)) → BoundsRead reading c bs
    bounds_read b n c a term.NoBounds h f = tt
    bounds_read b n c a (term.MoreBounds bs k e) h f =
        read_mapped reading c (λ b. b.1) (bounds_list bs) (k, e) (bounds_read b n c a bs h.0 (before Fit b (set_list bs) e f)) (ih b n c e a h.1 (last Fit b (set_list bs) e f))

    fields_read : (b : Bool) (n : ℕ) (c : Context) → At b n c → (fs : Fields) → InFields Good n fs → PartsAre Fit (parts_of b (value_list fs)) → ReadsEach reading c (map (λ f. f.1) (fields_list fs))
    fields_read b n c a term.NoFields h f = tt
    fields_read b n c a (term.MoreFields fs k e) h f =
        read_mapped reading c (λ f. f.1) (fields_list fs) (k, e) (fields_read b n c a fs h.0 (before Fit b (value_list fs) e f)) (ih b n c e a h.1 (last Fit b (value_list fs) e f))

    two_before : (b : Bool) (es : List Term) (x y : Term) → PartsAre Fit (parts_of b (es ++ x ∷ y ∷ [])) → PartsAre Fit (parts_of b es) × Fit b x × Fit b y
    two_before b [] x y h = (tt, h.0, h.1.0)
    two_before b (e ∷ es) x y h = let r : PartsAre Fit (parts_of b es) × Fit b x × Fit b y = two_before b es x y h.1 in ((h.0, r.0), r.1, r.2)

    arms_read : (b : Bool) (n : ℕ) (c : Context) → At b n c → (arms : Arms) → InArms Good n arms → PartsAre Fit (parts_of b (arm_list arms)) → ArmsRead reading c (arms_list arms)
    arms_read b n c a term.NoArms h f = tt
    arms_read b n c a (term.MoreArms arms p e) h f =
        let r : PartsAre Fit (parts_of b (arm_list arms)) × Fit b p × Fit b e = two_before b (arm_list arms) p e f in
        arms_pushed reading c (arms_list arms) (p, e) (arms_read b n c a arms h.0 r.0) (ih b n c p a h.1 r.1) (ih b n c e a h.2 r.2)

    first_read : (b : Bool) (n : ℕ) (c : Context) → At b n c → (os : Operands) → InOperands Good n os → PartsAre Fit (parts_of b (operand_list os)) → reading c (first_operand os)
    first_read b n c a (term.First e) h f = ih b n c e a h f.0
    first_read b n c a (term.Next os at e) h f = first_read b n c a os h.0 (before Fit b (operand_list os) e f)

    others_read : (b : Bool) (n : ℕ) (c : Context) → At b n c → (os : Operands) → InOperands Good n os → PartsAre Fit (parts_of b (operand_list os)) → ReadsEach reading c (map (λ e. e.1) (other_operands os))
    others_read b n c a (term.First e) h f = tt
    others_read b n c a (term.Next os at e) h f =
        read_mapped reading c (λ e. e.1) (other_operands os) (at, e) (others_read b n c a os h.0 (before Fit b (operand_list os) e f)) (ih b n c e a h.1 (last Fit b (operand_list os) e f))

    infix_read : (b : Bool) (n : ℕ) (c : Context) → At b n c → (o : InfixOperator) (os : Operands) (at : Place) (e : Term) → AreOperands o os → has_value o ≡ true → InOperands Good n os → Here n e
        → PartsAre Fit (parts_of b (operand_list os)) → Fit b e → InfixReads reading c o os at e
    infix_read b n c a o (term.First s) at e p v h k f g = (v, ih b n c s a h f.0, ih b n c e a k g)
    infix_read b n c a o (term.Next os q s) at e p v h k f g = (
      is_chained_is o v p.1,
      first_read b n c a os h.0 (before Fit b (operand_list os) s f),
      read_mapped reading c (λ e. e.1) (other_operands (term.Next os q s)) (at, e) (others_read b n c a (term.Next os q s) h f) (ih b n c e a k g),
    )

    bound_read : (b : Bool) (n : ℕ) (c : Context) → At b n c → (k : ℕ) (e : Term) → Here (n + k) e → Fit b e → ReadsUnder reading c k e
    bound_read b n c a k e h f vs q = ih b (n + k) (bind c vs) e (bind_at b n k c vs a q) h f

    over_read : (b : Bool) (n : ℕ) (c : Context) → At b n c → (bs : Bounds) (e : Term) → InBounds Good n bs → Here (n + width bs) e → PartsAre Fit (parts_of b (set_list bs) ++ part b e ∷ []) → BoundsRead reading c bs × ReadsUnder reading c (width bs) e
    over_read b n c a bs e h k f =
        let own : PartsAre Fit (part b e ∷ []) = right Fit (parts_of b (set_list bs)) (part b e ∷ []) f in
        (bounds_read b n c a bs h (left Fit (parts_of b (set_list bs)) (part b e ∷ []) f), bound_read b n c a (width bs) e k own.0)

    -- a function that uses itself

    marked_read : (b : Bool) (n : ℕ) (c : Context) → At b n c → (own : Own) (m : ℕ) (body : Term) → m ≤ n → Here m body → Fit b body → RecursionReads reading c (marked_so own m body)
    marked_read b n c a owns.Function m (Placed at l (term.Function bs e)) le h f =
        let s : length c.slots ≡ n = a.0 in
        let r : BoundsRead reading (within m c) bs × ReadsUnder reading (within m c) (width bs) e = over_read b m (within m c) (within_at b n m c a le) bs e h.1.0 h.1.1 (fit_parts b m at l (term.Function bs e) h.0 f) in
        ((omega arith), r.0, r.1)
    marked_read b n c a own m (Placed at l p) le h f = tt

    named_read : (b : Bool) (n : ℕ) (c : Context) → At b n c → (e : Term) → Here n e → Fit b e → RecursionReads reading c (recursion_of ops e)
    named_read b n c a (Placed at l (term.Use k term.NoTerms)) h f = by_row (slice_get ops k) row
      where
        row : (o : Operator) → slice_get ops k ≡ Some o → RecursionReads reading c (recursion_at (Some o))
        row o q =
            let u : IsUse ops n k term.NoTerms = h.0.0.0 in
            let s : o ≡ u.operator = same_some o u.operator (sym q ∙ u.is) in
            let around : o.outer ≤ n = subst (λ (x : Operator). x.outer ≤ n) (sym s) u.around in
            let alone : 0 ≡ o.params = subst (λ (x : Operator). 0 ≡ x.params) (sym s) u.arguments in
            let i : o.outer + o.params ≡ o.outer = omega arith in
            let own : PartsAre Fit (part b o.body ∷ []) = subst (λ (r : Option Operator). PartsAre Fit (map (part b) (body_of r))) q (fit_parts b n at l (term.Use k term.NoTerms) h.0 f) in
            marked_read b n c a o.own o.outer o.body around (subst (λ (x : ℕ). Here x o.body) i (bodies k o h.0.1.1 q).0) own.0

        by_row : (found : Option Operator) → ((o : Operator) → found ≡ Some o → RecursionReads reading c (recursion_at (Some o))) → RecursionReads reading c (recursion_at found)
        by_row None g = tt
        by_row (Some o) g = g o refl
    named_read b n c a (Placed at l m) h f = tt

    applied_read : (b : Bool) (n : ℕ) (c : Context) → At b n c → (e : Term) → Here n e → (ss : Steps) (ts : Terms) → Fit (b || has_prime ss) e → RecursionReads reading c (applied_by ops e ss (term.Index ts))
    applied_read b n c a e r term.NoSteps ts g = named_read b n c a e r (subst (λ (p : Bool). Fit p e) (sym (or_none b)) g)
    applied_read b n c a e r (term.MoreSteps ss at s) ts g = tt

    -- steps

    steps_read : (b : Bool) (n : ℕ) (c : Context) → At b n c → (e : Term) → Here n e → (ss : Steps) → InSteps Good n ss → PartsAre Fit (steps_parts b ss) → Fit (b || has_prime ss) e → StepsRead ops reading c e ss
    steps_read b n c a e r term.NoSteps h f g = ih b n c e a r (subst (λ (p : Bool). Fit p e) (sym (or_none b)) g)
    steps_read b n c a e r (term.MoreSteps ss at term.Prime) h f g =
        steps_read (b || true) n (primed c) (primed_at b n c a) e r ss h.0 f (subst (λ (p : Bool). Fit p e) (swapped b (has_prime ss) true) g)
    steps_read b n c a e r (term.MoreSteps ss at (term.Index ts)) h f g =
        let fit : Fit ((b || false) || has_prime ss) e = subst (λ (p : Bool). Fit p e) (swapped b (has_prime ss) false) g in (
          steps_read (b || false) n c (at_same b n c a) e r ss h.0 (right Fit (parts_of b (listed ts)) (steps_parts (b || false) ss) f) fit,
          terms_read b n c a ts h.1 (left Fit (parts_of b (listed ts)) (steps_parts (b || false) ss) f),
          applied_read (b || false) n c (at_same b n c a) e r ss ts fit,
        )
    steps_read b n c a e r (term.MoreSteps ss at (term.Field k)) h f g =
        steps_read (b || false) n c (at_same b n c a) e r ss h.0 f (subst (λ (p : Bool). Fit p e) (swapped b (has_prime ss) false) g)

    path_read : (b : Bool) (n : ℕ) (c : Context) → At b n c → (ss : Steps) → InSteps Good n ss → AreKeys ss → PartsAre Fit (steps_parts b ss) → PathReads reading c (map (λ s. s.1) (steps_list ss))
    path_read b n c a term.NoSteps h k f = tt
    path_read b n c a (term.MoreSteps ss at term.Prime) h k f = absurd (k.1)
    path_read b n c a (term.MoreSteps ss at (term.Index ts)) h k f =
        path_pushed reading c (steps_list ss) at (term.Index ts) (path_read (b || false) n c (at_same b n c a) ss h.0 k.0 (right Fit (parts_of b (listed ts)) (steps_parts (b || false) ss) f))
        (terms_read b n c a ts h.1 (left Fit (parts_of b (listed ts)) (steps_parts (b || false) ss) f))
    path_read b n c a (term.MoreSteps ss at (term.Field x)) h k f =
        path_pushed reading c (steps_list ss) at (term.Field x) (path_read (b || false) n c (at_same b n c a) ss h.0 k.0 f) tt

    changes_read : (b : Bool) (n : ℕ) (c : Context) → At b n c → (cs : Changes) → InChanges Good n cs → ArePaths cs → PartsAre Fit (change_parts b cs) → ChangesRead reading c (changes_list cs)
    changes_read b n c a term.NoChanges h k f = tt
    changes_read b n c a (term.MoreChanges cs path e) h k f =
        let first : PartsAre Fit (change_parts b cs ++ steps_parts b path) = left Fit (change_parts b cs ++ steps_parts b path) (part b e ∷ []) f in
        let own : PartsAre Fit (part b e ∷ []) = right Fit (change_parts b cs ++ steps_parts b path) (part b e ∷ []) f in
        changes_pushed reading c (changes_list cs) (path, e) (changes_read b n c a cs h.0 k.0 (left Fit (change_parts b cs) (steps_parts b path) first))
        (path_read b n c a path h.1 k.3 (right Fit (change_parts b cs) (steps_parts b path) first), λ vs q. ih b (suc n) (bind c vs) e (bind_one_at b n c vs a q) h.2 own.0)

    -- a definition on arguments

    use_read : (b : Bool) (n : ℕ) (c : Context) → At b n c → (k : ℕ) (ts : Terms) → IsUse ops n k ts → Q k → InTerms Good n ts → PartsAre Fit (parts_of b (listed ts)) → PartsAre Fit (map (part b) (body_of (slice_get ops k))) → UseReads ops reading c k (terms_list ts)
    use_read b n c a k ts u q h f g =
        let s : length c.slots ≡ n = a.0 in
        let own : PartsAre Fit (part b u.operator.body ∷ []) = subst (λ (r : Option Operator). PartsAre Fit (map (part b) (body_of r))) u.is g in
        let w : u.operator.outer ≤ n = u.around in (
          u.operator,
          u.is,
          (omega arith),
          terms_read b n c a ts h f,
          λ vs l. ih b (u.operator.outer + u.operator.params) (enter u.operator vs c) u.operator.body (enter_at b n c u.operator vs a u.around (l ∙ length_terms ts ∙ u.arguments)) (bodies k u.operator q u.is).0 own.0,
        )

    -- a term of a state, each variable of which has a next value
    abbrev Calm : ℕ → Term → Type 0
    Calm n e = Here n e × (is_above (level_of e) levels.State ≡ false) × Only true e

    itself_only : (b : Bool) (n : ℕ) (e : Term) → Calm n e → Only b e
    itself_only b n e h = reads_anyway variables ops Q bodies (Knows next) b n e h.0 h.1 h.2

    same_read : (b : Bool) (n : ℕ) (c : Context) → At b n c → (at : Place) (e : Term) → Calm n e → SameReads reading c at e
    same_read b n c a at e h =
        (ih b n c (prime_of at e) a (prime_rows variables ops Q n at e h.0 h.1) (refl, prime_only ops (Knows next) b at e h.2), ih b n c e a h.0 (state_action (level_of e) h.1, itself_only b n e h))

    unchanged_part : (b : Bool) (n : ℕ) (c : Context) → At b n c → (at : Place) (e : Term) → Calm n e → reading c (unchanged_of at e)
    unchanged_part b n c a at e h = ih b n c (unchanged_of at e) a (unchanged_rows variables ops Q n at e h.0 h.1) (refl, unchanged_only ops (Knows next) b at e h.2)

    changed_part : (b : Bool) (n : ℕ) (c : Context) → At b n c → (at : Place) (e : Term) → Calm n e → reading c (changed_of at e)
    changed_part b n c a at e h =
        ih b n c (changed_of at e) a (changed_rows variables ops Q n at e h.0 h.1) (refl, changed_only ops (Knows next) b at e (prime_only ops (Knows next) b at e h.2) (itself_only b n e h))

    -- UNCHANGED

    abbrev CalmPart : OfPart
    CalmPart p e = (is_above (level_of e) levels.State ≡ false) × Only true e

    calm_parts : (n : ℕ) (at : Place) (l : Level) (m : Meaning) → Calm n (Placed at l m) → PartsAre CalmPart (parts_in ops true m)
    calm_parts n at l m h =
        parts_weaker (λ p e. Low levels.State true p e × Only p e) CalmPart (λ p e w. (w.0.0, subst (λ (q : Bool). Only q e) (w.0.1 refl) w.1)) (parts_in ops true m)
        (parts_both (Low levels.State true) Only (parts_in ops true m) (low_parts levels.State true variables ops Q bodies n at l m h.0.0 h.1) (parts_read variables ops Q bodies (Knows next) true n at l m h.0.0 h.2))

    -- what stands behind a name
    abbrev Behind : ℕ → ℕ × Term → Type 0
    Behind n found = (found.0 ≤ n) × Calm found.0 found.1

    behind_calm : (k n m : ℕ) (e : Term) → Behind n (m, e) → Behind n (behind ops k m e)
    behind_calm zero n m e h = h
    behind_calm (suc k) n m (Placed at levels.State (term.Use j term.NoTerms)) h = by_use (slice_get ops j) (λ o q. behind_calm k n (min o.outer m) o.body (body o q))
      where
        body : (o : Operator) → slice_get ops j ≡ Some o → Behind n (min o.outer m, o.body)
        body o q =
            let u : IsUse ops m j term.NoTerms = h.1.0.0.0.0 in
            let s : o ≡ u.operator = same_some o u.operator (sym q ∙ u.is) in
            let w : o.outer ≤ m = subst (λ (x : Operator). x.outer ≤ m) (sym s) u.around in
            let z : 0 ≡ o.params = subst (λ (x : Operator). 0 ≡ x.params) (sym s) u.arguments in
            let t : min o.outer m ≡ o.outer = min-eq_left w in
            let i : o.outer + o.params ≡ min o.outer m = omega arith in
            let v : m ≤ n = h.0 in
            let p : PartsAre CalmPart (part true o.body ∷ []) =
            subst (λ (r : Option Operator). PartsAre CalmPart (map (part true) (body_of r))) q (calm_parts m at levels.State (term.Use j term.NoTerms) h.1) in
            ((omega arith), (subst (λ (x : ℕ). Here x o.body) i (bodies j o h.1.0.0.1.1 q).0, p.0.0, p.0.1))

        by_use : (found : Option Operator) → ((o : Operator) → found ≡ Some o → Behind n (behind ops k (min o.outer m) o.body))
            → Behind n (elim found as (λ x. ℕ × Term) [ None ↦ (m, Placed at levels.State (term.Use j term.NoTerms)) | Some o ↦ behind ops k (min o.outer m) o.body ])
        by_use None f = h
        by_use (Some o) f = f o refl
    behind_calm (suc k) n m e h = h

    items_read : (b : Bool) (n : ℕ) (c : Context) → At b n c → (at : Place) (ts : Terms) → InTerms Good n ts → PartsAre CalmPart (parts_of true (listed ts)) → ReadsEach reading c (map (unchanged_of at) (terms_list ts))
    items_read b n c a at term.NoTerms h f = tt
    items_read b n c a at (term.MoreTerms ts e) h f =
        let own : CalmPart true e = last CalmPart true (listed ts) e f in
        read_mapped reading c (unchanged_of at) (terms_list ts) e (items_read b n c a at ts h.0 (before CalmPart true (listed ts) e f)) (unchanged_part b n c a at e (h.1, own.0, own.1))

    variable_calm : (n x : ℕ) (at p : Place) (l : Level) → Calm n (Placed p l (term.Variable x)) → Calm n (Placed at levels.State (term.Variable x))
    variable_calm n x at p l h = ((((h.0.0.0.0, tt, refl), h.0.0.1), tt), refl, only)
      where
        only : Only true (Placed at levels.State (term.Variable x))
        only zero y r = absurd (cc)
        only (suc k) y r = h.2 (suc k) y (subst (λ (i : Level). reads ops (suc k) true (Placed p i (term.Variable x)) y ≡ true) (sym h.0.0.0.2) r)

    means_read : (b : Bool) (n m : ℕ) (c : Context) → At b n c → m ≤ n → (at : Place) (e f : Term) → Calm n e → Calm m f → MeansUnchangedReads reading c at e (within m c) f
    means_read b n m c a q at e (Placed p l (term.Variable x)) h k = same_read b n c a at (Placed at levels.State (term.Variable x)) (variable_calm n x at p l ((((k.0.0.0.0, tt, k.0.0.0.2), k.0.0.1), tt), k.1, k.2))
    means_read b n m c a q at e (Placed p l (term.Tuple ts)) h k = items_read b m (within m c) (within_at b n m c a q) at ts k.0.1 (calm_parts m p l (term.Tuple ts) k)
    means_read b n m c a q at e f h k = same_read b n c a at e h

    unchanged_read : (b : Bool) (n : ℕ) (c : Context) → At b n c → (at : Place) (e : Term) → Calm n e → UnchangedReads ops reading c at e
    unchanged_read b n c a at e h =
        let found : Behind n (behind ops (length ops) n e) = behind_calm (length ops) n n e ((omega arith), h) in
        let r : MeansUnchangedReads reading c at e (within (behind ops (length ops) n e).0 c) (behind ops (length ops) n e).1 =
        means_read b n (behind ops (length ops) n e).0 c a found.0 at e (behind ops (length ops) n e).1 h found.1 in
        subst (λ (i : ℕ). MeansUnchangedReads reading c at e (within (behind ops (length ops) i e).0 c) (behind ops (length ops) i e).1) (sym a.0) r

    -- a calm part of a term that stands under a prime there: it may have the level of a state at most
    calm_of : (n : ℕ) (e : Term) → Here n e → is_above (level_of e) levels.State ≡ false → Fit true e → Calm n e
    calm_of n e h l f = (h, l, f.1)

    prefix_read : (b : Bool) (n : ℕ) (c : Context) → At b n c → (o : PrefixOperator) (at : Place) (e : Term) → AreKept (limits at (term.Prefix o e)) → is_above (of_prefix o (level_of e)) levels.Action ≡ false → Here n e → Fit (b || primes o) e → PrefixReads ops reading c o at e
    prefix_read b n c a prefix.Unchanged at e k l h f = unchanged_read b n c a at e (calm_of n e h k.0 (subst (λ (p : Bool). Fit p e) (or_true b) f))
    prefix_read b n c a prefix.Enabled at e k l h f = absurd (cc)
    prefix_read b n c a prefix.Always at e k l h f = absurd (cc)
    prefix_read b n c a prefix.Eventually at e k l h f = absurd (cc)
    prefix_read b n c a o at e k l h f = ih b n c e a h (subst (λ (p : Bool). Fit p e) (sym (or_none b)) f)

    bound_one_read : (b : Bool) (n : ℕ) (c : Context) → At b n c → (e : Term) → Here (suc n) e → Fit b e → ReadsUnder reading c 1 e
    bound_one_read b n c a e h f vs q = ih b (suc n) (bind c vs) e (bind_one_at b n c vs a q) h f

    fields_differ : (fs : Fields) → AreFields fs → AreDifferent (map (λ f. f.0) (fields_list fs))
    fields_differ fs h = names_differ (fields_list fs) h.1

    row_read : (b : Bool) (n : ℕ) (c : Context) → At b n c → (at : Place) (l : Level) (m : Meaning) → Here n (Placed at l m) → is_above l levels.Action ≡ false → Only b (Placed at l m) → PartsAre Fit (parts_in ops b m) → MeaningReads ops reading c at m
    row_read b n c a at l (term.Known v) h w r f = tt
    row_read b n c a at l (term.Named s) h w r f = tt
    row_read true n c a at l (term.Variable x) h w r f =
        subst (λ (p : Places). Knows p x) (sym a.2) (r 1 x (subst (λ (i : Level). reads ops 1 true (Placed at i (term.Variable x)) x ≡ true) (sym h.0.0.2) (eq-eqb x x refl)))
    row_read false n c a at l (term.Variable x) h w r f = a.2 x h.0.0.0
    row_read b n c a at l (term.Slot i) h w r f =
        let s : length c.slots ≡ n = a.0 in
        let q : i < n = h.0.0.0 in
        slot_value c.slots i (omega arith)
    row_read b n c a at l (term.Use k ts) h w r f =
        use_read b n c a k ts h.0.0.0 h.0.1.1 h.1 (left Fit (parts_of b (listed ts)) (map (part b) (body_of (slice_get ops k))) f) (right Fit (parts_of b (listed ts)) (map (part b) (body_of (slice_get ops k))) f)
    row_read b n c a at l (term.Standard o ts) h w r f = (length_terms ts ∙ h.0.0.0 ∙ needed_is o, terms_read b n c a ts h.1 f)
    row_read b n c a at l (term.Parenthesized e) h w r f = ih b n c e a h.1 f.0
    row_read b n c a at l (term.Scoped ks e) h w r f = ih b n c e a h.1 f.0
    row_read b n c a at l (term.All ts) h w r f = terms_read b n c a ts h.1 f
    row_read b n c a at l (term.Any ts) h w r f = terms_read b n c a ts h.1 f
    row_read b n c a at l (term.Prefix o e) h w r f = prefix_read b n c a o at e h.0.1.0 (subst (λ (i : Level). is_above i levels.Action ≡ false) h.0.0.2 w) h.1 f.0
    row_read b n c a at l (term.Infix o os e) h w r f =
        let own : PartsAre Fit (part b e ∷ []) = right Fit (parts_of b (operand_list os)) (part b e ∷ []) f in
        infix_read b n c a o os at e h.0.0.1.1 (has_value_is o (joined (of_operands os) (level_of e)) h.0.0.1.0 (subst (λ (i : Level). is_above i levels.Action ≡ false) h.0.0.2 w))
        h.1.0 h.1.1 (left Fit (parts_of b (operand_list os)) (part b e ∷ []) f) own.0
    row_read b n c a at l (term.Postfix e ss s) h w r f =
        steps_read b n c a e h.1.0 (term.MoreSteps ss at s) (h.1.1, h.1.2) f.1 (subst (λ (p : Bool). Fit p e) (sym (swapped b (has_prime ss) (is_prime s))) f.0)
    row_read b n c a at l (term.SetOf ts) h w r f = terms_read b n c a ts h.1 f
    row_read b n c a at l (term.Filter s e) h w r f = (ih b n c s a h.1.0 f.0, bound_one_read b n c a e h.1.1 f.1.0)
    row_read b n c a at l (term.Map e bs) h w r f = (bounds_read b n c a bs h.1.1 f.1, bound_read b n c a (width bs) e h.1.0 f.0)
    row_read b n c a at l (term.Tuple ts) h w r f = terms_read b n c a ts h.1 f
    row_read b n c a at l (term.Function bs e) h w r f = over_read b n c a bs e h.1.0 h.1.1 f
    row_read b n c a at l (term.FunctionSet s e) h w r f = (ih b n c s a h.1.0 f.0, ih b n c e a h.1.1 f.1.0)
    row_read b n c a at l (term.Record fs) h w r f = (fields_differ fs h.0.0.1, fields_read b n c a fs h.1 f)
    row_read b n c a at l (term.RecordSet fs) h w r f = (fields_differ fs h.0.0.1, fields_read b n c a fs h.1 f)
    row_read b n c a at l (term.Except e cs) h w r f = (ih b n c e a h.1.0 f.0, changes_read b n c a cs h.1.1 h.0.0.1.1 f.1)
    row_read b n c a at l (term.Quantified q bs e) h w r f = over_read b n c a bs e h.1.0 h.1.1 f
    row_read b n c a at l (term.Choose s e) h w r f = (ih b n c s a h.1.0 f.0, bound_one_read b n c a e h.1.1 f.1.0)
    row_read b n c a at l (term.If p e g) h w r f = (ih b n c p a h.1.0 f.0, ih b n c e a h.1.1 f.1.0, ih b n c g a h.1.2 f.1.1.0)
    row_read b n c a at l (term.Case arms) h w r f = arms_read b n c a arms h.1 f
    row_read b n c a at l (term.CaseOther arms e) h w r f =
        let own : PartsAre Fit (part b e ∷ []) = right Fit (parts_of b (arm_list arms)) (part b e ∷ []) f in
        (arms_read b n c a arms h.1.0 (left Fit (parts_of b (arm_list arms)) (part b e ∷ []) f), ih b n c e a h.1.1 own.0)
    row_read b n c a at l (term.BoxAction e v) h w r f = (ih b n c e a h.1.0 f.0, unchanged_part b n c a at v (calm_of n v h.1.1 h.0.1.0.1.0 f.1.0))
    row_read b n c a at l (term.AngleAction e v) h w r f = (ih b n c e a h.1.0 f.0, changed_part b n c a at v (calm_of n v h.1.1 h.0.1.0.1.0 f.1.0))
    row_read b n c a at l (term.Fairness v e) h w r f = temporal l (subst (λ (i : Level). is_above i levels.Action ≡ false) h.0.0.2 w)
      where
        temporal : (l : Level) → is_above levels.Temporal levels.Action ≡ false → ⊥
        temporal l q = absurd (cc)

  pub term_reads : (d : ℕ) (b : Bool) (n : ℕ) (c : Context) (e : Term) → At b n c → Here n e → Fit b e → Reads ops d c e
  term_reads zero b n c e a h f = tt
  term_reads (suc d) b n c (Placed at l m) a h f = row_read (Reads ops d) (term_reads d) b n c a at l m h f.0 f.1 (fit_parts b n at l m h.0 f)

pub terms_can_be_evaluated : TermsCanBeEvaluated
terms_can_be_evaluated which.Init variables ops d n c e o q k =
    term_reads variables ops (Reaches ops e) (orderly_bodies variables ops n e o) c.next d true n c e (q, refl, k.0) (orderly_rows variables ops n e o) (o.level, k.1)
terms_can_be_evaluated which.Action variables ops d n c e o q k =
    term_reads variables ops (Reaches ops e) (orderly_bodies variables ops n e o) c.next d false n c e (q, refl, k.0) (orderly_rows variables ops n e o) (o.level, k.1)
