-- Names that mean something go on to mean it while definitions get numbers.
use Rattle.std.proofs.Common.{◌≡◌, ◌≢◌, ◌∙◌, sym, ap, refl, subst, List, ◌⊎◌, inl, inr, arith}
use Rattle.std.specs.Prelude.{ℕ, ◌==◌, Bool, true, false, if◌then◌else◌, Option, Some, None, option_map}
use Rattle.std.proofs.lemmas.Bool.Decides.{nat_tests}
use Rattle.values_core.specs.Data.{Val}
use Rattle.reading_trees.specs.declared.config.Config.{Config}
use Rattle.reading_trees.specs.declared.module.Program.{Program}
use Rattle.names_scopes.specs.declared.meant.Entry.{Entry}
use Rattle.names_scopes.specs.declared.meant.Meant.{Meant}
use Rattle.names_scopes.specs.declared.meant.Meant.TheVariants as meant
use Rattle.names_scopes.specs.declared.meant.Named.{Named}
use Rattle.names_scopes.specs.Scopes.{named}
use Rattle.names_program.specs.Names.{AreNames, Numbers, declared_meaning, definition_meant, numbered, numbered_meant, with_number}
use Rattle.names_meaning_laws.specs.Laws.{HasMore}

number_keeps : (old : Numbers) (i k needed j : ℕ) (w : Named) → old i ≡ None → (b : Bool) → (i == j) ≡ b → option_map (named needed) (option_map definition_meant (old j)) ≡ Some w → option_map (named needed) (option_map definition_meant (if b then Some k else old j)) ≡ Some w
number_keeps old i k needed j w none true same e =
    let at : i ≡ j = grind (arith, nat_tests) in
    let bad = subst (λ (o : Option ℕ). option_map (named needed) (option_map definition_meant o) ≡ Some w) (ap old (sym at) ∙ none) e in
    absurd (cc)
number_keeps old i k needed j w none false other e = e

meant_keeps : (old : Numbers) (i k needed : ℕ) (w : Named) → old i ≡ None → (m : Meant) → option_map (named needed) (numbered_meant old m) ≡ Some w → option_map (named needed) (numbered_meant (with_number old i k) m) ≡ Some w
meant_keeps old i k needed w none (meant.Definition j) e = number_keeps old i k needed j.0 w none (i == j.0) refl e
meant_keeps old i k needed w none (meant.Slot s) e = e
meant_keeps old i k needed w none (meant.Variable x) e = e
meant_keeps old i k needed w none (meant.Known v) e = e
meant_keeps old i k needed w none (meant.Set s) e = e
meant_keeps old i k needed w none (meant.Standard o) e = e

numbered_keeps : (old : Numbers) (i k : ℕ) (w : Named) → old i ≡ None → (o : Option Named) → numbered old o ≡ Some w → numbered (with_number old i k) o ≡ Some w
numbered_keeps old i k w none None e = absurd (cc)
numbered_keeps old i k w none (Some v) e = meant_keeps old i k v.needed w none v.meant e

pub has_more : (p : Program) (c : Config) (values : List Val) (before after : List Entry) (number : Numbers) (i k : ℕ) → number i ≡ None → AreNames p c values number before → AreNames p c values (with_number number i k) after → HasMore before after
has_more p c values before after number i k none a b n w e = b n ∙ numbered_keeps number i k w none (declared_meaning p c values n) (sym (a n) ∙ e)

pub with_cases : (number : Numbers) (i k j : ℕ) → ((i ≡ j) × (with_number number i k j ≡ Some k)) ⊎ ((i ≢ j) × (with_number number i k j ≡ number j))
with_cases number i k j = one (i == j) refl
  where
    one : (b : Bool) → (i == j) ≡ b → ((i ≡ j) × ((if b then Some k else number j) ≡ Some k)) ⊎ ((i ≢ j) × ((if b then Some k else number j) ≡ number j))
    one true e = inl (grind (arith, nat_tests), refl)
    one false e = inr (grind (arith, nat_tests), refl)
