-- Settings that differ by the numbers of definitions alone.
use Rattle.std.specs.Prelude.{◌≡◌}
use Rattle.names_term_parts.specs.Slots.{UsesSmaller}
use Rattle.names_terms.specs.Terms.{Term}
use Rattle.actions_meanings.specs.Forms.{Setting}
use Rattle.twice_terms.specs.Alike.{Alike}
use Rattle.twice_terms.specs.Laws.{AreOne}

pub record AreAlikeSettings (g h : Setting) : Type 0 where
  pub which : g.which ≡ h.which
  pub variables : g.variables ≡ h.variables
  -- each definition uses those of smaller numbers alone
  pub smaller : UsesSmaller g.table
  pub smaller_other : UsesSmaller h.table

-- terms that differ by the numbers of definitions alone, each over the table of its setting
abbrev pub AreAlikeIn : Setting → Setting → Term → Term → Type 0
AreAlikeIn g h a b = Alike AreOne g.table h.table a b
