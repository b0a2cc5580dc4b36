-- What is written in the parts of a term where values alone are written in the term.
use Rattle.std.proofs.Common.{◌≡◌, refl, ℕ, zero, suc, min, List, [], ◌∷◌, map}
use Rattle.std.specs.Prelude.{Option, Some, None, replicate, slice_get}
use Rattle.std.specs.List.{AllByRecursion}
use Rattle.base_core.specs.declared.place.Place.{Place}
use Rattle.values_core.specs.IsValue.{IsValue}
use Rattle.names_terms.specs.declared.level.Level.TheVariants as levels
use Rattle.names_terms.specs.declared.operator.Operator.{Operator}
use Rattle.names_terms.specs.declared.operator.Own.{Own}
use Rattle.names_terms.specs.declared.operator.Own.TheVariants as owns
use Rattle.names_terms.specs.Lists.{terms_list, steps_list, bounds_list, fields_list, changes_list, arms_list}
use Rattle.names_terms.specs.Terms as term
use Rattle.names_terms.specs.Terms.{Term, Meaning, Terms, Operands, Step, Steps, Bounds, Fields, Changes, Arms, Placed}
use Rattle.eval_meanings.specs.Contexts.{Table}
use Rattle.eval_meanings.specs.Everywhere.{Everywhere, InTerms, InOperands, InStep, InSteps, InBounds, InFields, InChanges, InArms}
use Rattle.eval_meanings.specs.Laws.{KnowsValue, KnowsValues}
use Rattle.eval_meanings.specs.Recursion.{Recursion, marked_so, recursion_at, recursion_of, sets_of_names}
use Rattle.eval_meanings.specs.Sets.{first_operand, other_operands}
use Rattle.eval_meanings.specs.Unchanged.{behind, changed_of, prime_of, unchanged_of}
use Rattle.eval_laws.proofs.FineContexts.{all_append, all_map}
use Rattle.eval_some_outcome_laws.specs.OfValues.{AreTexts, NamesByTexts}
use Rattle.eval_some_outcome_laws.proofs.Joining.{joined}

-- what is written as a known value is a value, and so is the name of each field of a record
abbrev pub WritesValues : Meaning → Type 0
WritesValues (term.Known v) = IsValue v
WritesValues (term.Record fs) = AreTexts fs
WritesValues m = Unit {0}

abbrev pub IsWritten : Term → Type 0
IsWritten e = Everywhere WritesValues e

pub written_terms : (ts : Terms) → InTerms WritesValues ts → AllByRecursion IsWritten (terms_list ts)
written_terms term.NoTerms k = tt
written_terms (term.MoreTerms ts e) k = all_append IsWritten (terms_list ts) (e ∷ []) (written_terms ts k.0) (k.1, tt)

pub written_bounds : (bs : Bounds) → InBounds WritesValues bs → AllByRecursion (λ b. IsWritten b.1) (bounds_list bs)
written_bounds term.NoBounds k = tt
written_bounds (term.MoreBounds bs n e) k = all_append (λ b. IsWritten b.1) (bounds_list bs) ((n, e) ∷ []) (written_bounds bs k.0) (k.1, tt)

pub written_fields : (fs : Fields) → InFields WritesValues fs → AllByRecursion (λ f. IsWritten f.1) (fields_list fs)
written_fields term.NoFields k = tt
written_fields (term.MoreFields fs n e) k = all_append (λ f. IsWritten f.1) (fields_list fs) ((n, e) ∷ []) (written_fields fs k.0) (k.1, tt)

abbrev pub IsChangeWritten : Steps × Term → Type 0
IsChangeWritten change = InSteps WritesValues change.0 × IsWritten change.1

pub written_changes : (cs : Changes) → InChanges WritesValues cs → AllByRecursion IsChangeWritten (changes_list cs)
written_changes term.NoChanges k = tt
written_changes (term.MoreChanges cs path e) k = all_append IsChangeWritten (changes_list cs) ((path, e) ∷ []) (written_changes cs k.0) ((k.1, k.2), tt)

abbrev pub IsArmWritten : Term × Term → Type 0
IsArmWritten arm = IsWritten arm.0 × IsWritten arm.1

pub written_arms : (arms : Arms) → InArms WritesValues arms → AllByRecursion IsArmWritten (arms_list arms)
written_arms term.NoArms k = tt
written_arms (term.MoreArms arms p e) k = all_append IsArmWritten (arms_list arms) ((p, e) ∷ []) (written_arms arms k.0) ((k.1, k.2), tt)

written_steps : (ss : Steps) → InSteps WritesValues ss → AllByRecursion (λ s. InStep WritesValues s.1) (steps_list ss)
written_steps term.NoSteps k = tt
written_steps (term.MoreSteps ss at s) k = all_append (λ s. InStep WritesValues s.1) (steps_list ss) ((at, s) ∷ []) (written_steps ss k.0) (k.1, tt)

pub written_path : (ss : Steps) → InSteps WritesValues ss → AllByRecursion (InStep WritesValues) (map (λ s. s.1) (steps_list ss))
written_path ss k = all_map (InStep WritesValues) (λ s. s.1) (steps_list ss) (written_steps ss k)

pub written_first : (os : Operands) → InOperands WritesValues os → IsWritten (first_operand os)
written_first (term.First e) k = k
written_first (term.Next os p e) k = written_first os k.0

pub written_others : (os : Operands) → InOperands WritesValues os → AllByRecursion (λ e. IsWritten e.1) (other_operands os)
written_others (term.First e) k = tt
written_others (term.Next os p e) k = all_append (λ e. IsWritten e.1) (other_operands os) ((p, e) ∷ []) (written_others os k.0) (k.1, tt)

pub written_mapped : (es : List (Place × Term)) → AllByRecursion (λ e. IsWritten e.1) es → AllByRecursion IsWritten (map (λ e. e.1) es)
written_mapped es k = all_map IsWritten (λ e. e.1) es k

-- what stands behind a name
abbrev pub AreBodiesWritten : Table → Type 0
AreBodiesWritten ops = (k : ℕ) (o : Operator) → slice_get ops k ≡ Some o → IsWritten o.body

pub written_behind : (ops : Table) → AreBodiesWritten ops → (n m : ℕ) (e : Term) → IsWritten e → IsWritten (behind ops n m e).1
written_behind ops b zero m e k = k
written_behind ops b (suc n) m (Placed at levels.State (term.Use i term.NoTerms)) k = by_use (slice_get ops i) (λ o e. written_behind ops b n (min o.outer m) o.body (b i o e))
  where
    by_use : (found : Option Operator) → ((o : Operator) → found ≡ Some o → IsWritten (behind ops n (min o.outer m) o.body).1)
        → IsWritten (elim found as (λ x. ℕ × Term) [ None ↦ (m, Placed at levels.State (term.Use i term.NoTerms)) | Some o ↦ behind ops n (min o.outer m) o.body ]).1
    by_use None f = k
    by_use (Some o) f = f o refl
written_behind ops b (suc n) m e k = k

-- the terms that no text spells

pub written_prime : (at : Place) (e : Term) → IsWritten e → IsWritten (prime_of at e)
written_prime at e k = (tt, (k, tt, tt))

pub written_unchanged : (at : Place) (e : Term) → IsWritten e → IsWritten (unchanged_of at e)
written_unchanged at e k = (tt, k)

pub written_changed : (at : Place) (e : Term) → IsWritten e → IsWritten (changed_of at e)
written_changed at e k = (tt, (written_prime at e k, k))

-- functions that use themselves

written_times : (n : ℕ) (e : Term) → IsWritten e → AllByRecursion IsWritten (replicate n e)
written_times zero e k = tt
written_times (suc n) e k = (k, written_times n e k)

pub written_sets : (bs : List (ℕ × Term)) → AllByRecursion (λ b. IsWritten b.1) bs → AllByRecursion IsWritten (sets_of_names bs)
written_sets [] k = tt
written_sets (b ∷ bs) k = all_append IsWritten (replicate b.0 b.1) (sets_of_names bs) (written_times b.0 b.1 k.0) (written_sets bs k.1)

abbrev pub IsRecursionWritten : Option Recursion → Type 0
IsRecursionWritten None = Unit {0}
IsRecursionWritten (Some g) = InBounds WritesValues g.bounds × IsWritten g.value

written_marked : (own : Own) (n : ℕ) (body : Term) → IsWritten body → IsRecursionWritten (marked_so own n body)
written_marked owns.Function n (Placed at l (term.Function bs e)) k = k.1
written_marked own n (Placed at l m) k = tt

pub written_named : (ops : Table) → AreBodiesWritten ops → (e : Term) → IsRecursionWritten (recursion_of ops e)
written_named ops bodies (Placed at l (term.Use n term.NoTerms)) = by_row (slice_get ops n) (bodies n)
  where
    by_row : (found : Option Operator) → ((o : Operator) → found ≡ Some o → IsWritten o.body) → IsRecursionWritten (recursion_at found)
    by_row None f = tt
    by_row (Some o) f = written_marked o.own o.outer o.body (f o refl)
written_named ops bodies (Placed at l m) = tt

-- what is written in a term, by what it knows and by how it names
written_by : (m : Meaning) → KnowsValue m → NamesByTexts m → WritesValues m
written_by (term.Known v) p q = p
written_by (term.Record fs) p q = q
written_by m p q = tt

pub is_written : (e : Term) → KnowsValues e → Everywhere NamesByTexts e → IsWritten e
is_written e p q = joined KnowsValue NamesByTexts WritesValues written_by e p q
