-- What is known of the bodies of definitions.
use Rattle.std.proofs.Common.{◌≡◌, ◌∙◌, ap, refl, subst, sym}
use Rattle.std.specs.Prelude.{ℕ, Bool, true, false, Option, Some, None, Result, Ok, Err, IfOk, OnOk, if◌then◌else◌, nat_eq, slice_get}
use Rattle.std.specs.HashMap.{Updates, get}
use Rattle.std.proofs.lemmas.Bool.{eqb-true}
use Rattle.names_terms.specs.declared.operator.Operator.{Operator}
use Rattle.actions_meanings.specs.declared.fault.FormFault.{FormFault}
use Rattle.actions_meanings.specs.Reads.{VariableSet}
use Rattle.actions_early_reads.specs.declared.bodies.Bodies.{Bodies}
use Rattle.actions_early_reads.specs.declared.walking.Walk.{Walk}
use Rattle.actions_early_reads.specs.Known.{AreKnown}
use Rattle.actions_early_reads.specs.Opened.{TellsBody}
use Rattle.actions_early_reads.specs.Ready.{table_of, TellsEarly}
use Rattle.actions_early_reads.proofs.Way.{body-some}

pub body-anywhere : (w : Walk) (B : VariableSet) (i : ℕ) (o : Operator) (r : Option FormFault) → slice_get (table_of w) i ≡ Some o → TellsEarly w i B o.body r → (bound : ℕ) → TellsBody w bound B i r
body-anywhere w B i o r q tells bound at ts k row = body-some w bound B i o r (row.below i ts refl) q tells at ts k row

pub body-noted : {E : Type 0} (w : Walk) (bound : ℕ) (B : VariableSet) (i : ℕ) (found : Option FormFault) (r : Result (Option FormFault) E) → TellsBody w bound B i found → IfOk r (λ o. o ≡ found) → IfOk r (λ o. TellsBody w bound B i o)
body-noted w bound B i found (Ok o) tells given = subst (λ (x : Option FormFault). TellsBody w bound B i x) (sym given) tells
body-noted w bound B i found (Err e) tells given = tt

pub none-known : (w : Walk) (B : VariableSet) (known : Bodies) → ((i : ℕ) → get nat_eq known.found i ≡ None) → AreKnown w B known
none-known w B known none = record { each = λ i o q. absurd (no_some (sym (none i) ∙ q)) }
  where
    no_some : {o : Option FormFault} → None ≡ Some o → ⊥
    no_some q = absurd (cc)

one-more : (w : Walk) (B : VariableSet) (i : ℕ) (found : Option FormFault) (old new : Bodies) → AreKnown w B old → ((bound : ℕ) → TellsBody w bound B i found) → Updates nat_eq old.found new.found i (Some found) → AreKnown w B new
one-more w B i found old new known one updates = record { each = λ j o q bound. at j o bound (nat_eq i j) refl q }
  where
    some_same : {a b : Option FormFault} → Some a ≡ Some b → a ≡ b
    some_same e = cc

    at : (j : ℕ) (o : Option FormFault) (bound : ℕ) (b : Bool) → nat_eq i j ≡ b → get nat_eq new.found j ≡ Some o → TellsBody w bound B j o
    at j o bound true s q =
        let same : found ≡ o = some_same (sym (updates.0 j ∙ ap (λ (c : Bool). if c then Some found else get nat_eq old.found j) s) ∙ q) in
        subst (λ (x : Option FormFault). TellsBody w bound B j x) same (subst (λ (n : ℕ). TellsBody w bound B n found) (eqb-true i j s) (one bound))
    at j o bound false s q = known.each j o (sym (updates.0 j ∙ ap (λ (c : Bool). if c then Some found else get nat_eq old.found j) s) ∙ q) bound

pub noted-known : {E : Type 0} (w : Walk) (B : VariableSet) (i : ℕ) (found : Option FormFault) (old new : Bodies) (r : Result (Option FormFault) E) → OnOk r (Updates nat_eq old.found new.found i (Some found)) → AreKnown w B old → ((bound : ℕ) → TellsBody w bound B i found) → OnOk r (AreKnown w B new)
noted-known w B i found old new (Ok o) updates known one = one-more w B i found old new known one updates
noted-known w B i found old new (Err e) updates known one = tt
