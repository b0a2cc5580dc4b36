-- UNCHANGED of names: the definition behind a name, and what is known of tuples that names stand for.
use Rattle.std.proofs.Common.{◌≡◌, inl, inr, subst, sym, arith}
use Rattle.std.specs.Prelude.{◌⊎◌, ◌<◌, ℕ, Some, None, Result, Ok, Err, MatchResult, OnOk, slice_get}
use Rattle.base_core.specs.declared.place.Place.{Place}
use Rattle.names_terms.specs.declared.level.Level.{Level}
use Rattle.names_terms.specs.declared.operator.Operator.{Operator}
use Rattle.names_terms.specs.Lists.{terms_list}
use Rattle.names_terms.specs.Terms as term
use Rattle.names_terms.specs.Terms.{Term, Placed, Meaning, Terms}
use Rattle.eval_meanings.specs.Contexts.{Table}
use Rattle.actions_meanings.specs.declared.fault.FormFault.{FormFault}
use Rattle.actions_meanings.specs.declared.fault.FormFault.TheVariants.{NoMemory}
use Rattle.actions_meanings.specs.Reads.{VariableSet}
use Rattle.actions_early_reads.specs.declared.walking.Walk.{Walk}
use Rattle.actions_early_reads.specs.Follow.{IsBehind, IsName}
use Rattle.actions_early_reads.specs.Ready.{table_of}
use Rattle.actions_early_reads.specs.Sets.{shown}
use Rattle.actions_early_reads.proofs.Following.{behind-next, name-below}
use Rattle.actions_forms.specs.declared.endings.Ending.{Ending}
use Rattle.actions_forms.specs.declared.endings.Endings.{Endings}
use Rattle.actions_forms.specs.Endings.{Has, RemembersKept}
use Rattle.actions_forms.specs.Naming.{IsNamed}
use Rattle.actions_forms.specs.Says.{SaysItems, SaysStays}
use Rattle.actions_forms.proofs.Kept.{kept-tuple}

-- THE LAST OF THE NAMES

pub named-further : (ops : Table) (bound n last : ℕ) (e : Term) (o : Operator) → IsName bound e n → slice_get ops n ≡ Some o → IsNamed ops n o.body last → IsNamed ops bound e last
named-further ops bound n last e o name is inner = record {
  within = omega (arith, inner.within, name-below bound n e name);
  there = inner.there;
  body = λ p q. behind-next ops bound n e o last p.body name is (inner.body p q);
}

pub named-here : (ops : Table) (bound n : ℕ) (e : Term) (o : Operator) → IsName bound e n → slice_get ops n ≡ Some o → IsBehind ops n o.body n o.body → IsNamed ops bound e n
named-here ops bound n e o name is alone = record {
  within = name-below bound n e name;
  there = λ none. absurd (cc);
  body = λ p q. (let same : o ≡ p = cc in subst (λ (x : Operator). IsBehind ops bound e n x.body) same (behind-next ops bound n e o n o.body name is alone));
}

-- WHAT IS KNOWN

pub kept-nothing : (w : Walk) (at : Place) (known : Endings) → ((e : Ending) → ¬ Has known e) → RemembersKept w at known
kept-nothing w at known none = record { each = λ e h. absurd (none e h) }

pub stays-noted : (w : Walk) (bound : ℕ) (B : VariableSet) (at : Place) (f : Term) (after : ℕ) (r : Result ℕ FormFault) → SaysStays w bound B at f (Ok after) → MatchResult r (λ set. set ≡ after) (λ s. s ≡ NoMemory) → SaysStays w bound B at f r
stays-noted w bound B at f after (Ok set) says given = subst (λ (s : ℕ). SaysStays w bound B at f (Ok s)) (sym given) says
stays-noted w bound B at f after (Err s) says given = subst (λ (z : FormFault). SaysStays w bound B at f (Err z)) (sym given) (λ k walked. tt)

pub named-tuple : (w : Walk) (B : VariableSet) (at : Place) (n : ℕ) (o : Operator) (p : Place) (l : Level) (m : Meaning) (ts : Terms) (r : Result ℕ FormFault) → slice_get (table_of w) n ≡ Some o → Placed p l m ≡ o.body → m ≡ term.Tuple ts → SaysItems w n B at ts (terms_list ts) r → (bound : ℕ) (f : Term) → IsNamed (table_of w) bound f n → SaysStays w bound B at f r
named-tuple w B at n o p l m ts r is seen q says bound f named = kept-tuple w bound B at f o.body n p l m seen (named.body o is) ts r q says

kept-one : (w : Walk) (at : Place) (i before after : ℕ) (old new : Endings) → RemembersKept w at old → ((bound : ℕ) (f : Term) → IsNamed (table_of w) bound f i → SaysStays w bound (shown before) at f (Ok after)) → ((e : Ending) → Has new e → (e ≡ record { number = i; before = before; after = after }) ⊎ Has old e) → RemembersKept w at new
kept-one w at i before after old new known one noted = record {
  each = λ e h. elim (noted e h) [
    | inl s ↦ subst (λ (x : Ending). (bound : ℕ) (f : Term) → IsNamed (table_of w) bound f x.number → SaysStays w bound (shown x.before) at f (Ok x.after)) (sym s) one
    | inr k ↦ known.each e k
  ];
}

pub noted-kept : (w : Walk) (at : Place) (i before after : ℕ) (old new : Endings) (r : Result ℕ FormFault) → OnOk r ((e : Ending) → Has new e → (e ≡ record { number = i; before = before; after = after }) ⊎ Has old e) → RemembersKept w at old → ((bound : ℕ) (f : Term) → IsNamed (table_of w) bound f i → SaysStays w bound (shown before) at f (Ok after)) → OnOk r (RemembersKept w at new)
noted-kept w at i before after old new (Ok set) noted known one = kept-one w at i before after old new known one noted
noted-kept w at i before after old new (Err f) noted known one = tt
