-- What an action says where the parts at one place are taken to hold.
use Rattle.std.specs.Prelude.{◌≡◌, ◌⊎◌, ℕ, zero, suc, Bool, true, false, length, map, Some}
use Rattle.states_core.specs.States.{Values}
use Rattle.names_terms.specs.Terms.{Term}
use Rattle.eval_meanings.specs.Contexts.{Context}
use Rattle.actions_meanings.specs.Forms.{Form, Setting, assign, choose, form, test}
use Rattle.actions_meanings.specs.Holds.{FormHolds, Holds, Relation}
use Rattle.actions_meanings.specs.Filled.{at_next}
use Rattle.steps_why_branches.specs.declared.sparing.Passing.{Passing}
use Rattle.steps_why_branches.specs.declared.sparing.Passing.TheVariants as passing
use Rattle.steps_why_branches.specs.PassedOver.{may_spare}

-- a test, or what says the value of a variable
abbrev pub is_single : Form → Bool
is_single test = true
is_single (assign n e) = true
is_single (choose n e) = true
is_single f = false

-- The action holds of the two states where each single part that may be passed over is taken to hold.
abbrev pub HoldsBut : Setting → Passing → ℕ → Relation
HoldsBut g at zero c a = ⊥
HoldsBut g at (suc d) c a = ((is_single (form g (length c.slots) a) ≡ true) × (may_spare at a ≡ true)) ⊎ FormHolds g d (HoldsBut g at d) c a (form g (length c.slots) a)

abbrev pub HoldsButOf : Setting → Passing → ℕ → Context → Term → Values → Type 0
HoldsButOf g at d c a t = HoldsBut g at d (at_next g.which c (map Some t)) a

-- Where nothing may be passed over, that is that it holds.
abbrev pub ButNothing : Type 0
ButNothing = (g : Setting) (d : ℕ) (c : Context) (a : Term) → HoldsBut g passing.Nothing d c a → Holds g d c a
