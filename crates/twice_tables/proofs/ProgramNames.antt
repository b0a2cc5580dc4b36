-- What a name of a program means under two numberings of its definitions, and with two lists of values of its constants.
use Rattle.std.proofs.Common.{◌≡◌, ◌∙◌, refl, subst, ℕ, List, length, ◌<◌, inl, inr, arith}
use Rattle.std.specs.Prelude.{Option, Some, None, option_map, slice_get}
use Rattle.std.proofs.lemmas.Option.{slice_get_cases}
use Rattle.values_core.specs.Data.{Val}
use Rattle.reading_trees.specs.declared.config.Config.{Config}
use Rattle.reading_trees.specs.declared.expr.Definition.{Definition}
use Rattle.reading_trees.specs.declared.module.Program.{Program}
use Rattle.names_scopes.specs.declared.meant.Meant.{Meant}
use Rattle.names_scopes.specs.declared.meant.Meant.TheVariants as meant
use Rattle.names_scopes.specs.declared.meant.Named.{Named}
use Rattle.names_scopes.specs.Scopes.{among, named}
use Rattle.names_scopes.specs.Standing.{IsIn}
use Rattle.names_program.specs.InUnits.{definitions_in}
use Rattle.names_program.specs.Names.{Numbers, first_of, variable_means, variable_named, constant_means, constant_index, definition_means, definition_index, standard_means, declared_meaning, definition_meant as meant_definition, replacement, meant_or, value_at, numbered, numbered_meant, program_meaning}
use Rattle.names_program.specs.Standard.{brought}
use Rattle.names_program.proofs.NameLemmas.{by_index_is}
use Rattle.names_uses.proofs.Meanings.{meant_within}
use Rattle.twice_tables.specs.Places.{AlikeMeant, slot_meant, variable_meant, known_meant, set_meant, standard_meant, definition_meant, ValuesAre}

-- a definition that stands at an index of the program
pub there : (ds : List Definition) (i : ℕ) → i < length ds → (d : Definition) × (slice_get ds i ≡ Some d)
there ds i lt = elim (slice_get_cases ds i).1 [
  | inl w ↦ (w.0, w.2)
  | inr w ↦ absurd (omega (arith, lt, w.0))
]

module _ (Same : Val → Val → Type 0) where
  -- a name means the same, or a constant that has two values
  data BothDeclared : Option Named → Option Named → Type 0 where
    same_declared : (o : Option Named) → BothDeclared o o
    known_declared : (needed : ℕ) (v w : Val) → Same v w → BothDeclared (Some (named needed (meant.Known v))) (Some (named needed (meant.Known w)))

  behind : (a b c : Option Named) → BothDeclared b c → BothDeclared (first_of a b) (first_of a c)
  behind None b c h = h
  behind (Some w) b c h = same_declared (Some w)

  before : (a b c : Option Named) → BothDeclared a b → BothDeclared (first_of a c) (first_of b c)
  before _ _ c (same_declared o) = same_declared (first_of o c)
  before _ _ c (known_declared needed v w h) = known_declared needed v w h

  module _ (p : Program) (c : Config) (values others : List Val) (are : ValuesAre Same p c values others) where
    constant_both : (n : List ℕ) (o : Option ℕ) → constant_index p n ≡ o → BothDeclared (constant_means p c values n o) (constant_means p c others n o)
    constant_both n None e = same_declared None
    constant_both n (Some i) e = one (replacement p c n 0) refl
      where
        one : (r : Option ℕ) → replacement p c n 0 ≡ r → BothDeclared (Some (named 0 (meant_or (meant.Known (value_at values i)) r))) (Some (named 0 (meant_or (meant.Known (value_at others i)) r)))
        one None q = known_declared 0 (value_at values i) (value_at others i) (are n i e q)
        one (Some j) q = same_declared (Some (named 0 (meant_definition j)))

    both_declared : (n : List ℕ) → BothDeclared (declared_meaning p c values n) (declared_meaning p c others n)
    both_declared n =
        let x : Option Named = first_of (definition_means p c n (definition_index p n)) (standard_means p c n (among (brought p.standard) n)) in
        behind (variable_means (variable_named p n)) (first_of (constant_means p c values n (constant_index p n)) x) (first_of (constant_means p c others n (constant_index p n)) x)
        (before (constant_means p c values n (constant_index p n)) (constant_means p c others n (constant_index p n)) x (constant_both n (constant_index p n) refl))

    within : (n : List ℕ) (w : Named) → declared_meaning p c values n ≡ Some w → IsIn (length (definitions_in p.units)) w.meant
    within n w e = meant_within p c values n w (by_index_is (declared_meaning p c values n) ∙ e)

    module _ (itself : (v : Val) → Same v v) (Row : ℕ → ℕ → Type 0) (number renumber : Numbers) (rows : (i : ℕ) (d : Definition) (k j : ℕ) → slice_get (definitions_in p.units) i ≡ Some d → number i ≡ Some k → renumber i ≡ Some j → Row k j) where
      two_named : (needed : ℕ) (m q : Meant) (v w : Named) → AlikeMeant Same Row m q → Some (named needed m) ≡ Some v → Some (named needed q) ≡ Some w → AlikeMeant Same Row v.meant w.meant
      two_named needed m q v w h e f =
          let s : named needed m ≡ v = cc in
          let t : named needed q ≡ w = cc in
          subst (λ (z : Named). AlikeMeant Same Row v.meant z.meant) t (subst (λ (z : Named). AlikeMeant Same Row z.meant q) s h)

      two_numbers : (needed : ℕ) (i : ℕ) (d : Definition) (a b : Option ℕ) (v w : Named) → slice_get (definitions_in p.units) i ≡ Some d → number i ≡ a → renumber i ≡ b → option_map (named needed) (option_map meant_definition a) ≡ Some v → option_map (named needed) (option_map meant_definition b) ≡ Some w → AlikeMeant Same Row v.meant w.meant
      two_numbers needed i d None b v w at p q e f = absurd (cc)
      two_numbers needed i d (Some k) None v w at p q e f = absurd (cc)
      two_numbers needed i d (Some k) (Some j) v w at p q e f =
          two_named needed (meant_definition k) (meant_definition j) v w (definition_meant (record { 0 = k }) (record { 0 = j }) (rows i d k j at p q)) e f

      same_alike : (needed : ℕ) (m : Meant) (v w : Named) → IsIn (length (definitions_in p.units)) m → option_map (named needed) (numbered_meant number m) ≡ Some v → option_map (named needed) (numbered_meant renumber m) ≡ Some w → AlikeMeant Same Row v.meant w.meant
      same_alike needed (meant.Definition i) v w lt e f =
          let d : (d : Definition) × (slice_get (definitions_in p.units) i.0 ≡ Some d) = there (definitions_in p.units) i.0 lt in
          two_numbers needed i.0 d.0 (number i.0) (renumber i.0) v w d.1 refl refl e f
      same_alike needed (meant.Slot i) v w lt e f = two_named needed (meant.Slot i) (meant.Slot i) v w (slot_meant i) e f
      same_alike needed (meant.Variable x) v w lt e f = two_named needed (meant.Variable x) (meant.Variable x) v w (variable_meant x) e f
      same_alike needed (meant.Known x) v w lt e f = two_named needed (meant.Known x) (meant.Known x) v w (known_meant x x (itself x)) e f
      same_alike needed (meant.Set s) v w lt e f = two_named needed (meant.Set s) (meant.Set s) v w (set_meant s) e f
      same_alike needed (meant.Standard o) v w lt e f = two_named needed (meant.Standard o) (meant.Standard o) v w (standard_meant o) e f

      numbered_alike : (a b : Option Named) (v w : Named) → BothDeclared a b → ((y : Named) → a ≡ Some y → IsIn (length (definitions_in p.units)) y.meant) → numbered number a ≡ Some v → numbered renumber b ≡ Some w → AlikeMeant Same Row v.meant w.meant
      numbered_alike _ _ v w (same_declared o) inside e f = one o inside e f
        where
          one : (o : Option Named) → ((y : Named) → o ≡ Some y → IsIn (length (definitions_in p.units)) y.meant) → numbered number o ≡ Some v → numbered renumber o ≡ Some w → AlikeMeant Same Row v.meant w.meant
          one None inside e f = absurd (cc)
          one (Some y) inside e f = same_alike y.needed y.meant v w (inside y refl) e f
      numbered_alike _ _ v w (known_declared needed x y h) inside e f = two_named needed (meant.Known x) (meant.Known y) v w (known_meant x y h) e f

      pub program_alike : (n : List ℕ) (v w : Named) → program_meaning p c values number n ≡ Some v → program_meaning p c others renumber n ≡ Some w → AlikeMeant Same Row v.meant w.meant
      program_alike n v w e f = numbered_alike (declared_meaning p c values n) (declared_meaning p c others n) v w (both_declared n) (within n) e f
