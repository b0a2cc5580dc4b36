-- What is said of a whole specification.
use Rattle.std.proofs.Common.{◌≡◌, ◌∙◌, ap, inr, sym, refl, subst, length, arith}
use Rattle.std.specs.Prelude.{◌≤◌, ℕ, not, Option, Some, None, Result, Ok, Err}
use Rattle.names_terms.specs.Terms.{Term, place_of}
use Rattle.names_term_parts.specs.Slots.{MentionsBelow, UsesSmaller}
use Rattle.actions_meanings.specs.declared.fault.FormFault.{FormFault}
use Rattle.actions_meanings.specs.declared.fault.FormFault.TheVariants.{PrimeTooEarly, NotFixed, NoMemory}
use Rattle.actions_meanings.specs.Forms.{Setting}
use Rattle.actions_meanings.specs.Reads.{VariableSet, Ends}
use Rattle.actions_meanings.specs.Outcomes.{least, not_fixed, outcome_within, unless}
use Rattle.actions_early_reads.specs.declared.walking.Walk.{Walk}
use Rattle.actions_early_reads.specs.Orderly.{IsSoundThroughout}
use Rattle.actions_early_reads.specs.Keeping.{AreKept}
use Rattle.actions_early_reads.specs.Ready.{table_of, setting_of}
use Rattle.actions_early_reads.specs.Sets.{shown}
use Rattle.actions_early_reads.proofs.Heights.{height, some-height}
use Rattle.actions_forms.specs.Says.{FormSays, Says, SaysFixed, WholeSays}

as_outcome : (g : Setting) (e : Term) (B : VariableSet) (k : ℕ) (r : Result ℕ FormFault) → Ends g.table k e → Says r (outcome_within g k e B) → FormSays g e B r
as_outcome g e B k (Ok c) ends h = (k, ends, h)
as_outcome g e B k (Err (PrimeTooEarly x p)) ends h = (k, ends, h)
as_outcome g e B k (Err (NotFixed x p)) ends h = (k, ends, h)
as_outcome g e B k (Err NoMemory) ends h = tt

said_at : (w : Walk) (n k : ℕ) (e : Term) (B : VariableSet) (r : Result ℕ FormFault) → Ends (table_of w) k e → w.variables ≤ 64 → UsesSmaller (table_of w) → MentionsBelow (length (table_of w)) e → IsSoundThroughout (table_of w) w.variables e → length w.reads.items ≡ length (table_of w) → AreKept (table_of w) w.variables w.reads.items → n ≡ length (table_of w) → SaysFixed w n B e r → FormSays (setting_of w) e B r
said_at w n k e B r ends few smaller below orderly whole kept q says =
    as_outcome (setting_of w) e B k r ends (says k record {
      ready = record { few = few; smaller = smaller; whole = whole; kept = kept };
      within = omega arith;
      fits = record { below = inr (subst (λ (i : ℕ). MentionsBelow i e) (sym q) below); orderly = orderly; ends = ends };
    })

pub form-says : (w : Walk) (n : ℕ) (e : Term) (B : VariableSet) (r : Result ℕ FormFault) → w.variables ≤ 64 → UsesSmaller (table_of w) → MentionsBelow (length (table_of w)) e → IsSoundThroughout (table_of w) w.variables e → length w.reads.items ≡ length (table_of w) → AreKept (table_of w) w.variables w.reads.items → n ≡ length (table_of w) → SaysFixed w n B e r → FormSays (setting_of w) e B r
form-says w n e B r few smaller below orderly whole kept q says =
    said_at w n (height (table_of w) (length (table_of w)) e) e B r (some-height (table_of w) smaller (length (table_of w)) e below) few smaller below orderly whole kept q says

module _ (g : Setting) (e : Term) (B : VariableSet) where
  pub whole-stop : (f : FormFault) → FormSays g e B (Err f) → WholeSays g e B (Err f)
  whole-stop (PrimeTooEarly x p) h = (Err (PrimeTooEarly x p), h, refl)
  whole-stop (NotFixed x p) h = (Err (NotFixed x p), h, refl)
  whole-stop NoMemory h = tt

  pub whole-fixed : (c : ℕ) (o : Option ℕ) (f : Option FormFault) → o ≡ least g.variables (λ x. not (shown c x)) → f ≡ not_fixed (place_of e) o → f ≡ None → FormSays g e B (Ok c) → WholeSays g e B (Ok c)
  whole-fixed c o f least_is fault none h = (Ok (shown c), h, ap (λ (z : Option FormFault). unless z (Ok (shown c))) (sym (sym none ∙ fault ∙ ap (not_fixed (place_of e)) least_is)))

  pub whole-lacks : (c : ℕ) (o : Option ℕ) (f : Option FormFault) (s : FormFault) → o ≡ least g.variables (λ x. not (shown c x)) → f ≡ not_fixed (place_of e) o → f ≡ Some s → FormSays g e B (Ok c) → WholeSays g e B (Err s)
  whole-lacks c o f s least_is fault some h = of_fault s (sym (sym some ∙ fault ∙ ap (not_fixed (place_of e)) least_is))
    where
      of_fault : (s : FormFault) → not_fixed (place_of e) (least g.variables (λ x. not (shown c x))) ≡ Some s → WholeSays g e B (Err s)
      of_fault (PrimeTooEarly x p) q = (Ok (shown c), h, ap (λ (z : Option FormFault). unless z (Ok (shown c))) q)
      of_fault (NotFixed x p) q = (Ok (shown c), h, ap (λ (z : Option FormFault). unless z (Ok (shown c))) q)
      of_fault NoMemory q = tt
