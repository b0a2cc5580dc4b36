-- What stands in Init, in Next or in the body of a definition with a name, directly or through calls, is a row in order.
use Rattle.std.proofs.Common.{◌≡◌, refl, sym, List, [], ◌∷◌, length}
use Rattle.std.specs.Prelude.{◌≢◌, ◌+◌, ℕ, Some, slice_get}
use Rattle.std.specs.List.{AllByRecursion as Each}
use Rattle.std.proofs.lemmas.List.Elements.{All-from_recursion}
use Rattle.names_terms.specs.declared.level.Level.{Level}
use Rattle.names_terms.specs.declared.level.Level.TheVariants as levels
use Rattle.names_terms.specs.declared.operator.Operator.{Operator}
use Rattle.names_terms.specs.declared.spec.Spec.{Spec}
use Rattle.names_terms.specs.Levels.{joined, level_for, of_terms}
use Rattle.names_terms.specs.Lists.{terms_list}
use Rattle.names_terms.specs.Terms as term
use Rattle.names_terms.specs.Terms.{Term, Placed, Meaning, Terms, level_of}
use Rattle.names_term_parts.specs.Slots.{Mentions, used, mentioned_in_part}
use Rattle.actions_early_reads.specs.Orderly.{HasLevel, HasNumber, IsSoundThroughout, IsSound, StandsIn, itself, stands_in_body, stands_in_part}
use Rattle.actions_early_reads.proofs.Each.{each-append}
use Rattle.names_specification_laws.specs.Everywhere.{Everywhere}
use Rattle.names_specification_laws.specs.IsSpec.{IsInRange, IsReached, IsRow, IsSpec, IsTerm, has_name, in_body, in_init, in_next, needed}
use Rattle.names_specification_laws.proofs.Somewhere.{parts_hold}
use Rattle.actions_form_laws.specs.Sound.{OperatorsAreSound, SpecsAreSound}

-- LEVELS

both_constant : (a b : Level) → joined a b ≡ levels.Constant → (a ≡ levels.Constant) × (b ≡ levels.Constant)
both_constant levels.Constant b q = (refl, q)
both_constant levels.State levels.Constant q = absurd (cc)
both_constant levels.State levels.State q = absurd (cc)
both_constant levels.State levels.Action q = absurd (cc)
both_constant levels.State levels.Temporal q = absurd (cc)
both_constant levels.Action levels.Constant q = absurd (cc)
both_constant levels.Action levels.State q = absurd (cc)
both_constant levels.Action levels.Action q = absurd (cc)
both_constant levels.Action levels.Temporal q = absurd (cc)
both_constant levels.Temporal b q = absurd (cc)

abbrev IsConstant : Term → Type 0
IsConstant e = level_of e ≡ levels.Constant

constants : (ts : Terms) → of_terms ts ≡ levels.Constant → Each IsConstant (terms_list ts)
constants term.NoTerms q = tt
constants (term.MoreTerms ts e) q =
    let both : (of_terms ts ≡ levels.Constant) × IsConstant e = both_constant (of_terms ts) (level_of e) q in
    each-append IsConstant (terms_list ts) (e ∷ []) (constants ts both.0) (both.1, tt)

own_level : (ops : List Operator) (l : Level) (m : Meaning) → l ≡ level_for ops m → HasLevel l m
own_level ops levels.Constant (term.Variable x) q = absurd (cc)
own_level ops levels.Constant (term.Tuple ts) q = All-from_recursion IsConstant (terms_list ts) (constants ts (sym q))
own_level ops l m q = tt

own_number : (v : ℕ) (ops : List Operator) (n : ℕ) (m : Meaning) → IsInRange v ops n m → HasNumber v m
own_number v ops n (term.Variable x) h = h
own_number v ops n m h = tt

-- TERMS

module _ (s : Spec) (is : IsSpec s) where
  abbrev Rows : Term → Type 0
  Rows e = (i : ℕ) × Everywhere (IsRow (length s.variables) s.operators) i e

  abbrev AreReached : Term → Type 0
  AreReached e = (k : ℕ) → Mentions e k → IsReached s k

  own-sound : (e : Term) → Rows e → IsSound (length s.variables) e
  own-sound (Placed at l m) rows = (own_level s.operators l m rows.1.0.2, own_number (length s.variables) s.operators rows.0 m rows.1.0.0)

  stands-sound : (e f : Term) → StandsIn s.operators e f → Rows e → AreReached e → IsSound (length s.variables) f
  stands-sound _ _ (itself e) rows reached = own-sound e rows
  stands-sound _ _ (stands_in_part at l m p f c i) rows reached = stands-sound p.term f i (parts_hold (IsRow (length s.variables) s.operators) rows.0 m rows.1.1 p c) (λ k u. reached k (mentioned_in_part at l m p k c u))
  stands-sound _ _ (stands_in_body at l k ts o f q i) rows reached =
      let here : IsReached s k = reached k (used at l k ts) in
      let body : IsTerm (length s.variables) s.operators (o.outer + o.params) o.body = (is.bodies k o here q).0 in
      stands-sound o.body f i (o.outer + o.params, body.rows) (λ j u. in_body k o j here q u)

  pub specs-orderly : IsSoundThroughout s.operators (length s.variables) s.init × IsSoundThroughout s.operators (length s.variables) s.next
  specs-orderly = (
    (λ f i. stands-sound s.init f i (0, is.init.0.rows) (λ k u. needed k (in_init k u))),
    (λ f i. stands-sound s.next f i (0, is.next.0.rows) (λ k u. needed k (in_next k u))),
  )

  pub operators-orderly : (k : ℕ) (o : Operator) → slice_get s.operators k ≡ Some o → o.name ≢ [] → IsSoundThroughout s.operators (length s.variables) o.body
  operators-orderly k o q named =
      let here : IsReached s k = needed k (has_name k o q named) in
      let body : IsTerm (length s.variables) s.operators (o.outer + o.params) o.body = (is.bodies k o here q).0 in
      λ f i. stands-sound o.body f i (o.outer + o.params, body.rows) (λ j u. in_body k o j here q u)

pub all-orderly : SpecsAreSound
all-orderly s is = specs-orderly s is

pub all-operators : OperatorsAreSound
all-operators s is k o q named = operators-orderly s is k o q named
