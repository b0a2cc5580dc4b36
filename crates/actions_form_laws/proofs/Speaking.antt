-- The form of a term says values of no variables but those of which the term speaks.
use Rattle.std.proofs.Common.{◌≡◌, ◌⊎◌, inl, inr, sym, refl, subst, [], ◌∷◌, length}
use Rattle.std.specs.Prelude.{ℕ, zero, suc, min, Bool, true, false, Option, Some, None, Contains, if◌then◌else◌, option_to_list, slice_get}
use Rattle.std.specs.List.{AllByRecursion as Each}
use Rattle.base_core.specs.declared.place.Place.{Place}
use Rattle.reading_trees.specs.declared.operators.PrefixOperator.TheVariants as prefix
use Rattle.reading_trees.specs.declared.operators.InfixOperator.{InfixOperator}
use Rattle.reading_trees.specs.declared.operators.InfixOperator.TheVariants as infix_operator
use Rattle.reading_trees.specs.declared.operators.Quantifier.TheVariants as quantifier
use Rattle.names_terms.specs.declared.level.Level.{Level}
use Rattle.names_terms.specs.declared.level.Level.TheVariants as levels
use Rattle.names_terms.specs.declared.operator.Operator.{Operator}
use Rattle.names_terms.specs.Lists.{terms_list}
use Rattle.names_terms.specs.Terms as term
use Rattle.names_terms.specs.Terms.{Term, Placed, Meaning}
use Rattle.names_term_parts.specs.Parts.{set_list, arm_list}
use Rattle.names_term_parts.proofs.Contained.{contains_cons, contains_nothing}
use Rattle.eval_meanings.specs.Contexts.{Table}
use Rattle.eval_meanings.specs.Unchanged.{behind, unchanged_of}
use Rattle.actions_meanings.specs.declared.which.Which.{Which}
use Rattle.actions_meanings.specs.declared.which.Which.TheVariants as which
use Rattle.actions_meanings.specs.Forms.{Setting, Form, form, is_taken, target, infix_form, unchanged_form, meaning_form, test, assign, choose, both, either, narrowed, some, branch, arms, inside, call, changing}
use Rattle.actions_meanings.specs.Reads.{body_of, terms_in}
use Rattle.actions_form_laws.specs.Spoken.{Speaks, spoken, spoken_within}
use Rattle.actions_form_laws.proofs.Each.{case-each, each-from, each-left, each-map, each-right}

-- the term is the variable, or a term of which it is made speaks of it
abbrev SpokenBy : Table → Term → ℕ → Type 0
SpokenBy ops (Placed at l m) x = (m ≡ term.Variable x) ⊎ ((e : Term) × Contains (terms_in ops at m) e × Speaks ops e x)

spoken-by : (ops : Table) (e : Term) (x : ℕ) → Speaks ops e x → SpokenBy ops e x
spoken-by ops _ _ (spoken at l x) = inl refl
spoken-by ops _ _ (spoken_within at l m e x c s) = inr (e, c, s)

abbrev chosen : Option Operator → ℕ × Term → (Operator → ℕ × Term) → ℕ × Term
chosen r e follow = elim r [ None ↦ e | Some o ↦ follow o ]

found-holds : (P : Term → Type 0) (e : Term) (m : ℕ) (follow : Operator → ℕ × Term) (r : Option Operator) → P e → ((o : Operator) → r ≡ Some o → P (follow o).1) → P (chosen r (m, e) follow).1
found-holds P e m follow None h k = h
found-holds P e m follow (Some o) h k = k o refl

module _ (ops : Table) (T : ℕ → Type 0) where
  -- it speaks of such variables alone
  abbrev pub SpeaksOnly : Term → Type 0
  SpeaksOnly e = (x : ℕ) → Speaks ops e x → T x

  terms-speak : (at : Place) (l : Level) (m : Meaning) → SpeaksOnly (Placed at l m) → Each SpeaksOnly (terms_in ops at m)
  terms-speak at l m h = each-from SpeaksOnly (terms_in ops at m) (λ e c x s. h x (spoken_within at l m e x c s))

  unchanged-speaks : (at : Place) (e : Term) → SpeaksOnly e → SpeaksOnly (unchanged_of at e)
  unchanged-speaks at e h x s = elim (spoken-by ops (unchanged_of at e) x s) [
    | inl q ↦ absurd (cc)
    | inr f ↦ elim (contains_cons e [] f.0 f.1) [
      | inl q ↦ h x (subst (λ (z : Term). Speaks ops z x) (sym q) f.2)
      | inr k ↦ absurd (contains_nothing f.0 k)
    ]
  ]

  body-speaks : (at : Place) (k : ℕ) (o : Operator) → slice_get ops k ≡ Some o → SpeaksOnly (Placed at levels.State (term.Use k term.NoTerms)) → SpeaksOnly o.body
  body-speaks at k o q h =
      let each : Each SpeaksOnly (body_of (slice_get ops k)) = terms-speak at levels.State (term.Use k term.NoTerms) h in
      (subst (λ (r : Option Operator). Each SpeaksOnly (body_of r)) q each).0

  behind-speaks : (n m : ℕ) (e : Term) → SpeaksOnly e → SpeaksOnly (behind ops n m e).1
  behind-speaks zero m e h = h
  behind-speaks (suc n) m (Placed at levels.State (term.Use k term.NoTerms)) h =
      found-holds SpeaksOnly (Placed at levels.State (term.Use k term.NoTerms)) m (λ o. behind ops n (min o.outer m) o.body) (slice_get ops k) h (λ o q. behind-speaks n (min o.outer m) o.body (body-speaks at k o q h))
  behind-speaks (suc n) m e h = h

  abbrev MaySay : Option ℕ → Type 0
  MaySay None = Unit {0}
  MaySay (Some x) = T x

  target-speaks : (w : Which) (e : Term) → SpeaksOnly e → MaySay (target w e)
  target-speaks which.Init (Placed at l (term.Variable x)) h = h x (spoken at l x)
  target-speaks which.Action (Placed at l (term.Postfix (Placed q k (term.Variable x)) term.NoSteps term.Prime)) h =
      (terms-speak at l (term.Postfix (Placed q k (term.Variable x)) term.NoSteps term.Prime) h).0 x (spoken q k x)
  target-speaks w e h = tt

  -- it says values of such variables alone
  abbrev pub FormSpeaks : Form → Type 0
  FormSpeaks test = Unit {0}
  FormSpeaks (assign x e) = T x
  FormSpeaks (choose x e) = T x
  FormSpeaks (both es) = Each SpeaksOnly es
  FormSpeaks (narrowed m es) = Each SpeaksOnly es
  FormSpeaks (either es) = Each SpeaksOnly es
  FormSpeaks (some bs e) = SpeaksOnly e
  FormSpeaks (branch p e f) = SpeaksOnly e × SpeaksOnly f
  FormSpeaks (arms cs other) = Each (λ (c : Term × Term). SpeaksOnly c.1) cs × Each SpeaksOnly (option_to_list other)
  FormSpeaks (inside e) = SpeaksOnly e
  FormSpeaks (call j es) = Each SpeaksOnly (body_of (slice_get ops j))
  FormSpeaks (changing e u) = SpeaksOnly e

  infix-speaks : (o : InfixOperator) (r : Option ℕ) (e : Term) → MaySay r → FormSpeaks (infix_form o r e)
  infix-speaks infix_operator.Equal (Some x) e h = h
  infix-speaks infix_operator.Member (Some x) e h = h
  infix-speaks o r e h = tt

  unchanged-form-speaks : (at : Place) (found : ℕ × Term) → SpeaksOnly found.1 → FormSpeaks (unchanged_form at found)
  unchanged-form-speaks at (m, Placed p l (term.Variable x)) h = h x (spoken p l x)
  unchanged-form-speaks at (m, Placed p l (term.Tuple ts)) h = each-map SpeaksOnly SpeaksOnly (unchanged_of at) (unchanged-speaks at) (terms_list ts) (terms-speak p l (term.Tuple ts) h)
  unchanged-form-speaks at (m, f) h = tt

-- the form of a term speaks of no other variables
module _ (g : Setting) (T : ℕ → Type 0) where
  abbrev Low : Term → Type 0
  Low e = SpeaksOnly g.table T e

  meaning-speaks : (at : Place) (m : Meaning) → Each Low (terms_in g.table at m) → FormSpeaks g.table T (meaning_form g zero at m)
  meaning-speaks at (term.All ts) h = h
  meaning-speaks at (term.Any ts) h = h
  meaning-speaks at (term.Quantified quantifier.Exists bs e) h = (each-right Low (set_list bs) (e ∷ []) h).0
  meaning-speaks at (term.If p e f) h = (h.1.0, h.1.1.0)
  meaning-speaks at (term.Case cs) h = (case-each Low cs h, tt)
  meaning-speaks at (term.CaseOther cs e) h = (case-each Low cs (each-left Low (arm_list cs) (e ∷ []) h), each-right Low (arm_list cs) (e ∷ []) h)
  meaning-speaks at (term.Scoped ks e) h = h.0
  meaning-speaks at (term.Parenthesized e) h = h.0
  meaning-speaks at (term.Use k ts) h = each-right Low (terms_list ts) (body_of (slice_get g.table k)) h
  meaning-speaks at (term.BoxAction e u) h = h
  meaning-speaks at (term.AngleAction e u) h = h.0
  meaning-speaks at (term.Prefix prefix.Unchanged e) h = unchanged-form-speaks g.table T at (behind g.table (length g.table) zero e) (behind-speaks g.table T (length g.table) zero e h.0)
  meaning-speaks at (term.Infix o (term.First e) f) h = infix-speaks g.table T o (target g.which e) f (target-speaks g.table T g.which e h.0)
  meaning-speaks at m h = tt

  if-speaks : (b : Bool) (f : Form) → FormSpeaks g.table T f → FormSpeaks g.table T (if b then f else test)
  if-speaks true f h = h
  if-speaks false f h = tt

  pub form-speaks : (a : Term) → Low a → FormSpeaks g.table T (form g zero a)
  form-speaks (Placed at l m) h = if-speaks (is_taken g.which l) (meaning_form g zero at m) (meaning-speaks at m (terms-speak g.table T at l m h))
