-- The terms of the form of a term in order are in order, with as many slots as are in scope there, and no higher than the term.
use Rattle.std.proofs.Common.{◌≡◌, ◌∙◌, sym, refl, subst, inl, inr, arith, List, [], ◌∷◌, ◌++◌}
use Rattle.std.specs.Prelude.{◌⊎◌, ◌<◌, ◌≤◌, ◌+◌, ℕ, zero, suc, min, Bool, true, false, map, Option, Some, None, if◌then◌else◌, length, slice_get}
use Rattle.std.specs.List.{AllByRecursion}
use Rattle.std.proofs.Math.Nat.{min-eq_left}
use Rattle.std.proofs.lemmas.List.Elements.{All-cons, All-nil}
use Rattle.base_core.specs.declared.place.Place.{Place}
use Rattle.reading_trees.specs.declared.operators.PrefixOperator.TheVariants as prefix
use Rattle.reading_trees.specs.declared.operators.InfixOperator.{InfixOperator}
use Rattle.reading_trees.specs.declared.operators.InfixOperator.TheVariants as infix_operator
use Rattle.reading_trees.specs.declared.operators.Quantifier.TheVariants as quantifier
use Rattle.names_terms.specs.declared.level.Level.{Level}
use Rattle.names_terms.specs.declared.level.Level.TheVariants as levels
use Rattle.names_terms.specs.declared.operator.Operator.{Operator}
use Rattle.names_terms.specs.Levels.{level_for}
use Rattle.names_terms.specs.Lists.{terms_list, arms_list}
use Rattle.names_terms.specs.Terms as term
use Rattle.names_terms.specs.Terms.{Term, Placed, Meaning, Terms, Operands, Bounds, Arms, count, level_of, place_of, width}
use Rattle.names_term_parts.specs.Limits.{is_above}
use Rattle.names_term_parts.specs.Parts.{part, parts_of, listed, set_list, arm_list}
use Rattle.eval_meanings.specs.Unchanged.{behind, unchanged_of}
use Rattle.actions_meanings.specs.declared.which.Which.{Which}
use Rattle.actions_meanings.specs.declared.which.Which.TheVariants as which
use Rattle.actions_meanings.specs.Forms.{Setting, Form, form, infix_form, is_taken, meaning_form, target, unchanged_form, test, assign, choose, both, either, narrowed, some, branch, arms, inside, call, changing}
use Rattle.actions_meanings.specs.Reads.{Ends, body_of, parts_in, terms_in}
use Rattle.names_specification_laws.specs.Everywhere.{InTerms, InBounds, InArms}
use Rattle.names_specification_laws.specs.IsSpec.{IsUse}
use Rattle.steps_walk_laws.proofs.Evaluated.{length_terms}
use Rattle.steps_walk_laws.proofs.Ending.{ends_changed, ends_more, ends_terms}
use Rattle.steps_walk_laws.proofs.LevelsOfParts.{Low, low_parts, row_low}
use Rattle.steps_walk_laws.proofs.Made.{unchanged_rows}
use Rattle.steps_walk_laws.proofs.PartLists.{PartsAre, before, last, left, right}
use Rattle.steps_walk_laws.proofs.Rows.{Row, Rows, Bodies}
use Rattle.steps_walk_laws.proofs.Stable.{constant_untaken}
use Rattle.steps_walk_laws.proofs.TermsOfParts.{Each, each_both, each_left, each_right}

all_pushed : {A : Type 0} (P : A → Type 0) (xs : List A) (y : A) → AllByRecursion P xs → P y → AllByRecursion P (xs ++ y ∷ [])
all_pushed P [] y h k = (k, tt)
all_pushed P (x ∷ xs) y h k = (h.0, all_pushed P xs y h.1 k)

two_parts : (S : Bool → Term → Type 0) (b : Bool) (es : List Term) (x y : Term) → PartsAre S (parts_of b (es ++ x ∷ y ∷ [])) → PartsAre S (parts_of b es) × S b x × S b y
two_parts S b [] x y h = (tt, h.0, h.1.0)
two_parts S b (e ∷ es) x y h = let r : PartsAre S (parts_of b es) × S b x × S b y = two_parts S b es x y h.1 in ((h.0, r.0), r.1, r.2)

pub state_low : (l : Level) → is_above levels.Action l ≡ false → is_above levels.State l ≡ false
state_low levels.Constant h = h
state_low levels.State h = refl
state_low levels.Action h = refl
state_low levels.Temporal h = refl

same_number : (y x : ℕ) → Some y ≡ Some x → y ≡ x
same_number y x e = cc

same_some : (o u : Operator) → Some o ≡ Some u → o ≡ u
same_some o u e = cc

module _ (g : Setting) (Q : ℕ → Type 0) (bodies : Bodies g.variables g.table Q) (L : Level) where
  abbrev Here : ℕ → Term → Type 0
  Here n e = Rows g.variables g.table Q n e

  abbrev Good : ℕ → Place → Level → Meaning → Type 0
  Good = Row g.variables g.table Q

  -- in order with so many slots, of the level at most, and at most k levels high
  abbrev pub Fact : ℕ → ℕ → Term → Type 0
  Fact k n e = Here n e × (is_above (level_of e) L ≡ false) × Ends g.table k e

  -- UNCHANGED of a constant
  abbrev pub IsMadeStill : ℕ → Term → Type 0
  IsMadeStill n e = (at : Place) × (v : Term) × (e ≡ unchanged_of at v) × Here n v × (is_above (level_of v) levels.Constant ≡ false) × (is_above levels.Action L ≡ false)

  abbrev pub OtherIs : ℕ → ℕ → Option Term → Type 0
  OtherIs k n None = Unit {0}
  OtherIs k n (Some e) = Fact k n e

  abbrev pub FormTerms : ℕ → ℕ → Form → Type 0
  FormTerms k n test = Unit {0}
  FormTerms k n (assign x e) = (x < g.variables) × Fact k n e
  FormTerms k n (choose x e) = (x < g.variables) × Fact k n e
  FormTerms k n (both es) = Each (Fact k n) es
  FormTerms k n (either es) = Each (Fact k n) es
  FormTerms k n (narrowed m es) = (m ≤ n) × Each (λ e. Fact k m e ⊎ IsMadeStill m e) es
  FormTerms k n (some bs e) = InBounds Good n bs × Each (Fact k n) (set_list bs) × Fact k (n + width bs) e
  FormTerms k n (branch p e f) = Fact k n p × Fact k n e × Fact k n f
  FormTerms k n (arms cs other) = AllByRecursion (λ c. Fact k n c.0 × Fact k n c.1) cs × OtherIs k n other
  FormTerms k n (inside e) = Fact k n e
  FormTerms k n (call j es) =
      (o : Operator) × (slice_get g.table j ≡ Some o) × (o.outer ≤ n) × (length es ≡ o.params) × Each (Fact k n) es × Fact k (o.outer + o.params) o.body
  FormTerms k n (changing e v) = Fact k n e × Here n v × (is_above (level_of v) levels.State ≡ false) × Ends g.table k v × (is_above levels.Action L ≡ false)

  abbrev LowPart : Bool → Term → Type 0
  LowPart = Low L false

  terms_facts : (k n : ℕ) (ts : Terms) → InTerms Good n ts → PartsAre LowPart (parts_of false (listed ts)) → Each (Ends g.table k) (terms_list ts) → Each (Fact k n) (terms_list ts)
  terms_facts k n term.NoTerms h f w = tt
  terms_facts k n (term.MoreTerms ts e) h f w =
      let own : Each (Ends g.table k) (e ∷ []) = each_right (Ends g.table k) (terms_list ts) (e ∷ []) w in
      each_both (Fact k n) (terms_list ts) (e ∷ []) (terms_facts k n ts h.0 (before LowPart false (listed ts) e f) (each_left (Ends g.table k) (terms_list ts) (e ∷ []) w))
      ((h.1, (last LowPart false (listed ts) e f).0, own.0), tt)

  sets_facts : (k n : ℕ) (bs : Bounds) → InBounds Good n bs → PartsAre LowPart (parts_of false (set_list bs)) → Each (Ends g.table k) (set_list bs) → Each (Fact k n) (set_list bs)
  sets_facts k n term.NoBounds h f w = tt
  sets_facts k n (term.MoreBounds bs i e) h f w =
      let own : Each (Ends g.table k) (e ∷ []) = each_right (Ends g.table k) (set_list bs) (e ∷ []) w in
      each_both (Fact k n) (set_list bs) (e ∷ []) (sets_facts k n bs h.0 (before LowPart false (set_list bs) e f) (each_left (Ends g.table k) (set_list bs) (e ∷ []) w))
      ((h.1, (last LowPart false (set_list bs) e f).0, own.0), tt)

  arms_facts : (k n : ℕ) (cs : Arms) → InArms Good n cs → PartsAre LowPart (parts_of false (arm_list cs)) → Each (Ends g.table k) (arm_list cs) → AllByRecursion (λ c. Fact k n c.0 × Fact k n c.1) (arms_list cs)
  arms_facts k n term.NoArms h f w = tt
  arms_facts k n (term.MoreArms cs p e) h f w =
      let own : Each (Ends g.table k) (p ∷ e ∷ []) = each_right (Ends g.table k) (arm_list cs) (p ∷ e ∷ []) w in
      let r : PartsAre LowPart (parts_of false (arm_list cs)) × LowPart false p × LowPart false e = two_parts LowPart false (arm_list cs) p e f in
      all_pushed (λ c. Fact k n c.0 × Fact k n c.1) (arms_list cs) (p, e) (arms_facts k n cs h.0 r.0 (each_left (Ends g.table k) (arm_list cs) (p ∷ e ∷ []) w))
      ((h.1, r.1.0, own.0), (h.2, r.2.0, own.1.0))

  -- UNCHANGED

  abbrev Behind : ℕ → ℕ → ℕ × Term → Type 0
  Behind k n found = (found.0 ≤ n) × Here found.0 found.1 × (is_above (level_of found.1) levels.State ≡ false) × Ends g.table k found.1

  body_ends : (k j : ℕ) (at : Place) → Ends g.table k (Placed at levels.State (term.Use j term.NoTerms)) → (o : Operator) → slice_get g.table j ≡ Some o → Ends g.table k o.body
  body_ends zero j at h o q = absurd (h)
  body_ends (suc k) j at h o q =
      let w : Each (Ends g.table k) (o.body ∷ []) = subst (λ (r : Option Operator). Each (Ends g.table k) (body_of r)) q (ends_terms g.table k at levels.State (term.Use j term.NoTerms) refl h) in
      ends_more g.table k o.body w.0

  behind_fits : (k i n m : ℕ) (e : Term) → Behind k n (m, e) → Behind k n (behind g.table i m e)
  behind_fits k zero n m e h = h
  behind_fits k (suc i) n m (Placed at levels.State (term.Use j term.NoTerms)) h = by_use (slice_get g.table j) (λ o q. behind_fits k i n (min o.outer m) o.body (body o q))
    where
      body : (o : Operator) → slice_get g.table j ≡ Some o → Behind k n (min o.outer m, o.body)
      body o q =
          let u : IsUse g.table m j term.NoTerms = h.1.0.0.0 in
          let s : o ≡ u.operator = same_some o u.operator (sym q ∙ u.is) in
          let w : o.outer ≤ m = subst (λ (x : Operator). x.outer ≤ m) (sym s) u.around in
          let z : 0 ≡ o.params = subst (λ (x : Operator). 0 ≡ x.params) (sym s) u.arguments in
          let t : min o.outer m ≡ o.outer = min-eq_left w in
          let i : o.outer + o.params ≡ min o.outer m = omega arith in
          let v : m ≤ n = h.0 in
          let p : PartsAre (Low levels.State false) (part false o.body ∷ []) =
          subst (λ (r : Option Operator). PartsAre (Low levels.State false) (map (part false) (body_of r))) q (low_parts levels.State false g.variables g.table Q bodies m at levels.State (term.Use j term.NoTerms) h.1.0 refl) in
          ((omega arith), subst (λ (x : ℕ). Here x o.body) i (bodies j o h.1.0.1.1 q).0, p.0.0, body_ends k j at h.3 o q)

      by_use : (found : Option Operator) → ((o : Operator) → found ≡ Some o → Behind k n (behind g.table i (min o.outer m) o.body))
          → Behind k n (elim found as (λ x. ℕ × Term) [ None ↦ (m, Placed at levels.State (term.Use j term.NoTerms)) | Some o ↦ behind g.table i (min o.outer m) o.body ])
      by_use None f = h
      by_use (Some o) f = f o refl
  behind_fits k (suc i) n m e h = h

  leaf_ends : (k x : ℕ) (at : Place) (e : Term) → Ends g.table k e → Ends g.table k (Placed at levels.State (term.Variable x))
  leaf_ends zero x at e h = absurd (h)
  leaf_ends (suc k) x at e h = All-nil (Ends g.table k)

  state_items : (k m : ℕ) (at : Place) (ts : Terms) → InTerms Good m ts → PartsAre (Low levels.State false) (parts_of false (listed ts)) → Each (Ends g.table k) (terms_list ts) → is_above levels.Action L ≡ false
      → Each (λ e. Fact (suc k) m e ⊎ IsMadeStill m e) (map (unchanged_of at) (terms_list ts))
  state_items k m at ts h f w a = made (terms_list ts) (calm ts h f) w
    where
      calm : (ts : Terms) → InTerms Good m ts → PartsAre (Low levels.State false) (parts_of false (listed ts)) → Each (λ e. Here m e × (is_above (level_of e) levels.State ≡ false)) (terms_list ts)
      calm term.NoTerms h f = tt
      calm (term.MoreTerms ts e) h f =
          each_both (λ e. Here m e × (is_above (level_of e) levels.State ≡ false)) (terms_list ts) (e ∷ []) (calm ts h.0 (before (Low levels.State false) false (listed ts) e f)) ((h.1, (last (Low levels.State false) false (listed ts) e f).0), tt)

      made : (es : List Term) → Each (λ e. Here m e × (is_above (level_of e) levels.State ≡ false)) es → Each (Ends g.table k) es → Each (λ e. Fact (suc k) m e ⊎ IsMadeStill m e) (map (unchanged_of at) es)
      made [] c w = tt
      made (e ∷ es) c w = (inl (unchanged_rows g.variables g.table Q m at e c.0.0 c.0.1, a, All-cons (Ends g.table k) e [] w.0 (All-nil (Ends g.table k))), made es c.1 w.1)

  still_parts : (m : ℕ) (at : Place) (ts : Terms) → InTerms Good m ts → PartsAre (Low levels.Constant false) (parts_of false (listed ts)) → is_above levels.Action L ≡ false → (k : ℕ) → Each (λ e. Fact k m e ⊎ IsMadeStill m e) (map (unchanged_of at) (terms_list ts))
  still_parts m at ts h f a k = made (terms_list ts) (still ts h f)
    where
      still : (ts : Terms) → InTerms Good m ts → PartsAre (Low levels.Constant false) (parts_of false (listed ts)) → Each (λ e. Here m e × (is_above (level_of e) levels.Constant ≡ false)) (terms_list ts)
      still term.NoTerms h f = tt
      still (term.MoreTerms ts e) h f =
          each_both (λ e. Here m e × (is_above (level_of e) levels.Constant ≡ false)) (terms_list ts) (e ∷ []) (still ts h.0 (before (Low levels.Constant false) false (listed ts) e f)) ((h.1, (last (Low levels.Constant false) false (listed ts) e f).0), tt)

      made : (es : List Term) → Each (λ e. Here m e × (is_above (level_of e) levels.Constant ≡ false)) es → Each (λ e. Fact k m e ⊎ IsMadeStill m e) (map (unchanged_of at) es)
      made [] c = tt
      made (e ∷ es) c = (inr (at, e, refl, c.0.0, c.0.1, a), made es c.1)

  tuple_terms : (k n m : ℕ) (at p : Place) (l : Level) (ts : Terms) → Behind k n (m, Placed p l (term.Tuple ts)) → is_above levels.Action L ≡ false → FormTerms k n (narrowed m (map (unchanged_of at) (terms_list ts)))
  tuple_terms zero n m at p l ts h a = absurd (h.3)
  tuple_terms (suc k) n m at p levels.Constant ts h a =
      (h.0, still_parts m at ts h.1.1 (row_low levels.Constant false g.table p (term.Tuple ts) tt h.1.0.1.0 (subst (λ (x : Level). is_above x levels.Constant ≡ false) h.1.0.0.2 refl)) a (suc k))
  tuple_terms (suc k) n m at p levels.State ts h a =
      (h.0, state_items k m at ts h.1.1 (row_low levels.State false g.table p (term.Tuple ts) tt h.1.0.1.0 (subst (λ (x : Level). is_above x levels.State ≡ false) h.1.0.0.2 refl)) (ends_terms g.table k p levels.State (term.Tuple ts) refl h.3) a)
  tuple_terms (suc k) n m at p levels.Action ts h a = let w : true ≡ false = h.2 in absurd (cc)
  tuple_terms (suc k) n m at p levels.Temporal ts h a = let w : true ≡ false = h.2 in absurd (cc)

  unchanged_terms : (k n m : ℕ) (at : Place) (f : Term) → Behind k n (m, f) → is_above levels.Action L ≡ false → FormTerms k n (unchanged_form at (m, f))
  unchanged_terms k n m at (Placed p l (term.Variable x)) h a =
      (h.1.0.0.0, ((((h.1.0.0.0, tt, refl), h.1.0.1), tt), state_low L a, leaf_ends k x at (Placed p l (term.Variable x)) h.3))
  unchanged_terms k n m at (Placed p l (term.Tuple ts)) h a = tuple_terms k n m at p l ts h a
  unchanged_terms k n m at f h a = tt

  -- x = e and x \in S

  target_range : (w : Which) (e : Term) (n : ℕ) → Here n e → (x : ℕ) → target w e ≡ Some x → x < g.variables
  target_range which.Init (Placed at l (term.Variable y)) n h x q = let s : y ≡ x = same_number y x q in subst (λ (z : ℕ). z < g.variables) s h.0.0.0
  target_range which.Action (Placed at l (term.Postfix (Placed p i (term.Variable y)) term.NoSteps term.Prime)) n h x q = let s : y ≡ x = same_number y x q in subst (λ (z : ℕ). z < g.variables) s h.1.0.0.0.0
  target_range w e n h x q = absurd (cc)

  infix_terms : (k n : ℕ) (o : InfixOperator) (t : Option ℕ) (e : Term) → ((x : ℕ) → t ≡ Some x → x < g.variables) → Fact k n e → FormTerms k n (infix_form o t e)
  infix_terms k n infix_operator.Equal (Some x) e r f = (r x refl, f)
  infix_terms k n infix_operator.Member (Some x) e r f = (r x refl, f)
  infix_terms k n o t e r f = tt

  -- rows

  meaning_terms : (k n : ℕ) (at : Place) (l : Level) (m : Meaning) → Here n (Placed at l m) → is_above (level_for g.table m) L ≡ false → PartsAre LowPart (parts_in g.table false m) → Each (Ends g.table k) (terms_in g.table at m)
      → FormTerms k n (meaning_form g n at m)
  meaning_terms k n at l (term.All ts) h a f w = terms_facts k n ts h.1 f w
  meaning_terms k n at l (term.Any ts) h a f w = terms_facts k n ts h.1 f w
  meaning_terms k n at l (term.Quantified quantifier.Exists bs e) h a f w =
      let own : PartsAre LowPart (part false e ∷ []) = right LowPart (parts_of false (set_list bs)) (part false e ∷ []) f in
      let end : Each (Ends g.table k) (e ∷ []) = each_right (Ends g.table k) (set_list bs) (e ∷ []) w in
      (h.1.0, sets_facts k n bs h.1.0 (left LowPart (parts_of false (set_list bs)) (part false e ∷ []) f) (each_left (Ends g.table k) (set_list bs) (e ∷ []) w), (h.1.1, own.0.0, end.0))
  meaning_terms k n at l (term.If p e r) h a f w = ((h.1.0, f.0.0, w.0), (h.1.1, f.1.0.0, w.1.0), (h.1.2, f.1.1.0.0, w.1.1.0))
  meaning_terms k n at l (term.Case cs) h a f w = (arms_facts k n cs h.1 f w, tt)
  meaning_terms k n at l (term.CaseOther cs e) h a f w =
      let own : PartsAre LowPart (part false e ∷ []) = right LowPart (parts_of false (arm_list cs)) (part false e ∷ []) f in
      let end : Each (Ends g.table k) (e ∷ []) = each_right (Ends g.table k) (arm_list cs) (e ∷ []) w in
      (arms_facts k n cs h.1.0 (left LowPart (parts_of false (arm_list cs)) (part false e ∷ []) f) (each_left (Ends g.table k) (arm_list cs) (e ∷ []) w), (h.1.1, own.0.0, end.0))
  meaning_terms k n at l (term.Scoped ks e) h a f w = (h.1, f.0.0, w.0)
  meaning_terms k n at l (term.Parenthesized e) h a f w = (h.1, f.0.0, w.0)
  meaning_terms k n at l (term.Use j ts) h a f w =
      let u : IsUse g.table n j ts = h.0.0.0 in
      let own : PartsAre LowPart (part false u.operator.body ∷ []) =
      subst (λ (r : Option Operator). PartsAre LowPart (map (part false) (body_of r))) u.is (right LowPart (parts_of false (listed ts)) (map (part false) (body_of (slice_get g.table j))) f) in
      let end : Each (Ends g.table k) (u.operator.body ∷ []) = subst (λ (r : Option Operator). Each (Ends g.table k) (body_of r)) u.is (each_right (Ends g.table k) (terms_list ts) (body_of (slice_get g.table j)) w) in (
        u.operator,
        u.is,
        u.around,
        length_terms ts ∙ u.arguments,
        terms_facts k n ts h.1 (left LowPart (parts_of false (listed ts)) (map (part false) (body_of (slice_get g.table j))) f) (each_left (Ends g.table k) (terms_list ts) (body_of (slice_get g.table j)) w),
        ((bodies j u.operator h.0.1.1 u.is).0, own.0.0, end.0),
      )
  meaning_terms k n at l (term.BoxAction e v) h a f w =
      ((h.1.0, f.0.0, w.0), ((unchanged_rows g.variables g.table Q n at v h.1.1 h.0.1.0.1.0, a, w.1.0), tt))
  meaning_terms k n at l (term.AngleAction e v) h a f w = ((h.1.0, f.0.0, w.0), h.1.1, h.0.1.0.1.0, ends_changed g.table k at v w.1.0, a)
  meaning_terms k n at l (term.Prefix prefix.Unchanged e) h a f w =
      let b : Behind k n (behind g.table (length g.table) n e) = behind_fits k (length g.table) n n e ((omega arith), h.1, h.0.1.0.0, w.0) in
      unchanged_terms k n (behind g.table (length g.table) n e).0 at (behind g.table (length g.table) n e).1 b a
  meaning_terms k n at l (term.Infix o (term.First e) x) h a f w = infix_terms k n o (target g.which e) x (target_range g.which e n h.1.0) (h.1.1, f.1.0.0, w.1.0)
  meaning_terms k n at l m h a f w = tt

  by_taken : (k n : ℕ) (t : Bool) (f : Form) → FormTerms k n f → FormTerms k n (if t then f else test)
  by_taken k n true f h = h
  by_taken k n false f h = tt

  untaken : (k n : ℕ) (t : Bool) (f : Form) → t ≡ false → FormTerms k n (if t then f else test)
  untaken k n true f h = absurd (cc)
  untaken k n false f h = tt

  row_terms : (k n : ℕ) (at : Place) (l : Level) (m : Meaning) → Fact (suc k) n (Placed at l m) → is_above l levels.Constant ≡ true → FormTerms k n (form g n (Placed at l m))
  row_terms k n at l m f c =
      by_taken k n (is_taken g.which l) (meaning_form g n at m)
      (meaning_terms k n at l m f.0 (subst (λ (x : Level). is_above x L ≡ false) f.0.0.0.2 f.1) (low_parts L false g.variables g.table Q bodies n at l m f.0.0 f.1) (ends_terms g.table k at l m c f.2))

  pub form_terms : (k n : ℕ) (a : Term) → Fact (suc k) n a → FormTerms k n (form g n a)
  form_terms k n (Placed at levels.Constant m) f = untaken k n (is_taken g.which levels.Constant) (meaning_form g n at m) (constant_untaken g.which)
  form_terms k n (Placed at levels.State m) f = row_terms k n at levels.State m f refl
  form_terms k n (Placed at levels.Action m) f = row_terms k n at levels.Action m f refl
  form_terms k n (Placed at levels.Temporal m) f = row_terms k n at levels.Temporal m f refl
