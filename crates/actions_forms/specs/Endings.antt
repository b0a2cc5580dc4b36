-- What is known of the bodies of definitions that were walked.
use Rattle.std.specs.Prelude.{ℕ, Ok, Contains}
use Rattle.std.specs.Map.{values_of}
use Rattle.base_core.specs.declared.place.Place.{Place}
use Rattle.names_terms.specs.Terms.{Term}
use Rattle.actions_early_reads.specs.declared.walking.Walk.{Walk}
use Rattle.actions_early_reads.specs.Ready.{table_of}
use Rattle.actions_early_reads.specs.Sets.{shown}
use Rattle.actions_forms.specs.declared.endings.Ending.{Ending}
use Rattle.actions_forms.specs.declared.endings.Endings.{Endings}
use Rattle.actions_forms.specs.Naming.{IsNamed}
use Rattle.actions_forms.specs.Says.{SaysBody, SaysStays}

-- it is one of those that are noted
abbrev pub Has : Endings → Ending → Type 0
Has known e = Contains (values_of known.rows.entries) e

-- the body leaves that set fixed, wherever the definition is used
abbrev pub IsKnown : Walk → Ending → Type 0
IsKnown w e = (bound : ℕ) → SaysBody w bound (shown e.before) e.number (Ok e.after)

pub record Remembers (w : Walk) (known : Endings) : Type 0 where
  pub each : (e : Ending) → Has known e → IsKnown w e

-- UNCHANGED at that place leaves that set fixed, of each name that stands for the body
abbrev pub IsKept : Walk → Place → Ending → Type 0
IsKept w at e = (bound : ℕ) (f : Term) → IsNamed (table_of w) bound f e.number → SaysStays w bound (shown e.before) at f (Ok e.after)

pub record RemembersKept (w : Walk) (at : Place) (known : Endings) : Type 0 where
  pub each : (e : Ending) → Has known e → IsKept w at e
