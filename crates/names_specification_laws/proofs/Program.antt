-- The definitions of a program, and its trees alone, have meanings.
use Rattle.std.proofs.Common.{◌≡◌, ◌∙◌, sym, ap, subst, List, [], length, arith}
use Rattle.std.specs.Prelude.{◌+◌, ℕ, Option, None, option_map}
use Rattle.names_term_parts.proofs.Contained.{contains_nothing}
use Rattle.names_terms.specs.declared.operator.Operator.{Operator}
use Rattle.names_scopes.specs.declared.scope.Local.TheVariants.{Defined}
use Rattle.names_scopes.specs.declared.meant.Named.{Named}
use Rattle.names_scopes.specs.declared.meant.Entry.{Entry}
use Rattle.names_scopes.specs.Scopes.{among, bind, slots}
use Rattle.names_meanings.specs.Complaints.{Takes, with_names, complaint}
use Rattle.names_meanings.specs.Outcomes.{taken_by, takes_in}
use Rattle.names_meanings.proofs.Takes.{takes_bind}
use Rattle.names_specification_laws.specs.Meanings.{NameMeanings, HasMeaning, meaning}
use Rattle.names_specification_laws.specs.Laws.{TreesHaveTerms, DefinitionsHaveMeaning}
use Rattle.names_specification_laws.proofs.Mentioned.{locals_bind}
use Rattle.names_specification_laws.proofs.Ordered.{fit_bind}
use Rattle.names_specification_laws.proofs.Walk.{slots_bind}

alone : (known : NameMeanings) (ops : List Operator) (names : List Entry) (takes : Takes) → ((n : List ℕ) → among names n ≡ known n) → ((n : List ℕ) → option_map (taken_by ops) (known n) ≡ takes n) → takes_in ops names [] ≡ takes
alone known ops names takes are same = λ i n. (ap (λ (o : Option Named). option_map (taken_by ops) o) (are n) ∙ same n) i

pub trees_have_terms : TreesHaveTerms
trees_have_terms known ops names takes ps t e are same formed fine means =
    let r : takes_in ops names (bind [] ps) ≡ with_names takes ps = takes_bind ops names [] ps ∙ ap (λ (g : Takes). with_names g ps) (alone known ops names takes are same) in
    record { names = names; are = are; formed = formed; fine = subst (λ (g : Takes). complaint g t ≡ None) (sym r) fine; means = means }

pub definitions_have_meaning : DefinitionsHaveMeaning
definitions_have_meaning known ops k o ps t is outer params level h =
    let r : slots (bind [] ps) ≡ slots [] + length ps = slots_bind [] ps in
    meaning k o (bind [] ps) t is level (omega (arith, r, outer, params)) (fit_bind ops [] ps tt) (λ n d p c ne. locals_bind (HasMeaning known ops) [] ps (λ m e q b. absurd (contains_nothing (Defined m e q) b)) n d p c) h
