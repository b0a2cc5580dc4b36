-- Facts of which the names keep that they hold, and no proof.
use Rattle.std.proofs.Common.{◌≡◌, ◌≢◌, ◌≤◌, ℕ, List, [], length, true, Some, sym, subst, refl, arith}
use Rattle.std.specs.Prelude.{AllPairs, All, slice_get}
use Rattle.std.specs.Coded.{Π_prop, ×_prop, Unit-prop, le_prop, Coded-set}
use Rattle.std.proofs.Props.{props}
use Rattle.std.proofs.lemmas.Option.{slice_get_within}
use mathlib.Core.Logic.{∥∥₁_elim, ∥∥₁_map}
use Rattle.names_terms.specs.declared.level.Level.{Level}
use Rattle.names_terms.specs.declared.level.Level.TheVariants as levels
use Rattle.names_terms.specs.declared.operator.Operator.{Operator}
use Rattle.names_terms.specs.declared.spec.Spec.{Spec}
use Rattle.names_terms.specs.PartCodes.{level_code}
use Rattle.names_terms.specs.Terms as term
use Rattle.names_terms.specs.Terms.{Term, Placed, Meaning, level_of}
use Rattle.names_terms.specs.declared.operator.Own.{Own}
use Rattle.names_terms.specs.declared.operator.Own.TheVariants as owns
use Rattle.names_term_parts.specs.Slots.{IsInOrder, MentionsBelow, UsesSmaller}
use Rattle.names_term_parts.proofs.Ordering.{body_within}
use Rattle.actions_early_reads.specs.Levels.{StaysBelow}
use Rattle.actions_early_reads.proofs.Within.{body-stays}
use Rattle.names_specification_laws.specs.IsSpec.{IsSpec}
use Rattle.actions_meanings.specs.declared.which.Which.{Which}
use Rattle.actions_meanings.specs.declared.which.Which.TheVariants as which
use Rattle.actions_early_reads.specs.declared.reading.Reads.{Reads}
use Rattle.actions_early_reads.specs.declared.walking.Walk.{Walk}
use Rattle.actions_early_reads.specs.Keeping.{AreKept}
use Rattle.actions_early_reads.specs.Orderly.{HasLevel, HasNumber, IsSound, IsSoundThroughout}
use Rattle.actions_early_reads.specs.Ready.{IsReady, setting_of, table_of}
use Rattle.steps_lines_defs.specs.Says.{setting}
use Rattle.actions_form_laws.specs.Sound.{OperatorsAreSound}
use Rattle.steps_names.specs.Walks.{IsBodyInOrder, IsNamedBody, NamesDiffer, is_action}

differ-prop : (ops : List Operator) → IsProp (NamesDiffer ops)
differ-prop ops = hlevel props

pub names_differ : (s : Spec) → ∥ IsSpec s ∥₁ → NamesDiffer s.operators
names_differ s t = ∥∥₁_elim t (differ-prop s.operators) (λ is. is.operators_differ)

pairs-prop : (names : List (List ℕ)) → IsProp (AllPairs (λ a b. a ≢ b) names)
pairs-prop names = hlevel props

pub variables_differ : (s : Spec) → ∥ IsSpec s ∥₁ → AllPairs (λ a b. a ≢ b) s.variables
variables_differ s t = ∥∥₁_elim t (pairs-prop s.variables) (λ is. is.variables_differ)

pub few_variables : (s : Spec) → ∥ IsSpec s ∥₁ → length s.variables ≤ 64
few_variables s t = ∥∥₁_elim t le_prop (λ is. is.few)

in-order-prop : (count k : ℕ) (own : Own) (e : Term) → IsProp (IsInOrder count k own e)
in-order-prop count k owns.Apart e = hlevel props
in-order-prop count k owns.Itself e = ×_prop (Coded-set level_code _ _) (hlevel props)
in-order-prop count k owns.Function e = ×_prop (Coded-set level_code _ _) (hlevel props)

smaller-prop : (ops : List Operator) → IsProp (UsesSmaller ops)
smaller-prop ops = Π_prop (λ k. Π_prop (λ o. Π_prop (λ q. in-order-prop (length ops) k o.own o.body)))

pub uses_smaller : (s : Spec) → ∥ IsSpec s ∥₁ → UsesSmaller s.operators
uses_smaller s t = ∥∥₁_elim t (smaller-prop s.operators) (λ is. is.smaller)

-- levels

constants-prop : (es : List Term) → IsProp (All (λ e. level_of e ≡ levels.Constant) es)
constants-prop es = Π_prop (λ k. Π_prop (λ d. Π_prop (λ l. Coded-set level_code _ _)))

level-prop : (l : Level) (m : Meaning) → IsProp (HasLevel l m)
level-prop levels.Constant (term.Variable x) = λ a b. absurd a
level-prop levels.Constant (term.Tuple ts) = constants-prop _
level-prop l m = Unit-prop

number-prop : (v : ℕ) (m : Meaning) → IsProp (HasNumber v m)
number-prop v (term.Variable x) = hlevel props
number-prop v m = Unit-prop

sound-prop : (v : ℕ) (e : Term) → IsProp (IsSound v e)
sound-prop v (Placed at l m) = ×_prop (level-prop l m) (number-prop v m)

throughout-prop : (ops : List Operator) (v : ℕ) (e : Term) → IsProp (IsSoundThroughout ops v e)
throughout-prop ops v e = Π_prop (λ f. Π_prop (λ i. sound-prop v f))

pub body_sound : (s : Spec) → ∥ IsSpec s ∥₁ → OperatorsAreSound → (k : ℕ) (o : Operator) → slice_get s.operators k ≡ Some o → o.name ≢ [] → IsSoundThroughout s.operators (length s.variables) o.body
body_sound s t law k o q named = ∥∥₁_elim t (throughout-prop s.operators (length s.variables) o.body) (λ is. law s is k o q named)

-- what definitions read

kept-within : (ops : List Operator) (v : ℕ) (kept : List Reads) → ∥ AreKept ops v kept ∥₁ → AreKept ops v kept
kept-within ops v kept t = record {
  within = ∥∥₁_elim t le_prop (λ h. h.within);
  plain = ∥∥₁_elim t (hlevel props) (λ h. h.plain);
  primed = ∥∥₁_elim t (hlevel props) (λ h. h.primed);
}

pub is_ready : (w : Walk) → ∥ IsReady w ∥₁ → IsReady w
is_ready w t = record {
  few = ∥∥₁_elim t le_prop (λ h. h.few);
  smaller = ∥∥₁_elim t (smaller-prop (table_of w)) (λ h. h.smaller);
  whole = ∥∥₁_elim t (hlevel props) (λ h. h.whole);
  kept = kept-within (table_of w) w.variables w.reads.items (∥∥₁_map t (λ h. h.kept));
}

-- the walk is of the specification

pub is_of_actions : (w : Which) → is_action w ≡ true → w ≡ which.Action
is_of_actions which.Init h = absurd (cc)
is_of_actions which.Action h = refl

pub same_setting : (s : Spec) (w : Walk) → is_action w.which ≡ true → w.variables ≡ length s.variables → w.operators.now ≡ s.operators → setting_of w ≡ setting which.Action s
same_setting s w a v o = λ i. record { which = is_of_actions w.which a i; variables = v i; table = o i }

pub in_order : (s : Spec) (w : Walk) (k : ℕ) (body : Term) → ∥ IsSpec s ∥₁ → OperatorsAreSound → w.variables ≡ length s.variables → w.operators.now ≡ s.operators → ∥ IsReady w ∥₁ → IsNamedBody s.operators k body → IsBodyInOrder w k body
in_order s w k body t law v o r n = record {
  ready = is_ready w r;
  within = subst (λ (ops : List Operator). k ≤ length ops) (sym o) (let less = slice_get_within s.operators k n.operator n.is in omega (arith, less));
  uses = subst (λ e. MentionsBelow (length (table_of w)) e) n.same (subst (λ (ops : List Operator). MentionsBelow (length ops) n.operator.body) (sym o) (body_within s.operators k n.operator (uses_smaller s t) n.is));
  below = subst (λ e. StaysBelow k e) n.same (body-stays s.operators k n.operator (uses_smaller s t) n.is);
  sound = subst (λ e. IsSoundThroughout (table_of w) w.variables e) n.same (subst (λ (ops : List Operator). IsSoundThroughout ops w.variables n.operator.body) (sym o) (subst (λ (x : ℕ). IsSoundThroughout s.operators x n.operator.body) (sym v) (body_sound s t law k n.operator n.is n.named)));
}
