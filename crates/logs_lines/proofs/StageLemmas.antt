-- How a stage of reading a line goes on with the next, or ends with its refusal.
use Rattle.std.proofs.Common.{◌≡◌, ◌≤◌, ◌<◌, arith, ℕ, List, length, map, Bool, true, false, Option, Some, None, inl, inr, Result, Ok, Err, IfOk, refl, ap, sym, ◌∙◌, subst, true≢false}
use Rattle.std.specs.Prelude.{is_some, not}
use Rattle.std.specs.List.{list_all}
use Rattle.std.specs.declared.alloc.AllocError.{AllocError}
use Rattle.values_core.specs.Data.{Val}
use Rattle.logs_shapes.specs.Shapes.{LineShape}
use Rattle.logs_shapes.specs.declared.key.Key.TheVariants as key
use Rattle.logs_updates.specs.declared.clock.Clock.{Clock}
use Rattle.logs_updates.specs.declared.line.Event.{Event}
use Rattle.logs_updates.specs.declared.update.See.{See}
use Rattle.logs_updates.specs.declared.update.Update.{Update}
use Rattle.logs_lines.specs.Clocks.{IsMissing, IsNoLower, IsOtherForm, clock_or, form_after}
use Rattle.logs_lines.specs.declared.clocks.ClockForm.{ClockForm}
use Rattle.logs_lines.specs.Setting.{Setting}
use Rattle.logs_lines.specs.Values.{EachOf, SeeReads, UpdateReads}
use Rattle.logs_lines.specs.Lines.{ClocksSay, FormSays, HasNoForm, HasUnknown, InitSays, IsBlank, LineSays, NamesSay, OnBack, OnValue, SeesSay, TestsSay, TextSays, Unless, UpdatesSay, event_with, params_of}
use Rattle.logs_lines.specs.declared.position.Position.{Position}
use Rattle.logs_lines.specs.declared.step.Parts.{Parts}
use Rattle.logs_lines.specs.declared.kind.LogKind.{LogKind}
use Rattle.logs_lines.specs.declared.kind.LogKind.TheVariants as kind
use Rattle.logs_lines.specs.declared.kind.Outcome.{Outcome}
use Rattle.logs_lines.specs.declared.kind.Outcome.TheVariants.{Init, Refused, Step}

pub value_found : {A : Type 0} (P : A → Type 0) (why : LogKind) (Q : A → Outcome → Type 0) (a : A) (r : Result Outcome AllocError) → P a → IfOk r (Q a) → IfOk r (OnValue P why Q)
value_found P why Q a (Ok o) p q = inl (a, p, q)
value_found P why Q a (Err e) p q = q

pub no_value : {A : Type 0} (P : A → Type 0) (why : LogKind) (Q : A → Outcome → Type 0) → ((a : A) → ¬ P a) → OnValue P why Q (Refused why)
no_value P why Q n = inr (n, refl)

pub goes_on : (Bad : Type 0) (why : LogKind) (Q : Outcome → Type 0) (r : Result Outcome AllocError) → ¬ Bad → IfOk r Q → IfOk r (Unless Bad why Q)
goes_on Bad why Q (Ok o) n q = inr (n, q)
goes_on Bad why Q (Err e) n q = q

pub stops : (Bad : Type 0) (why : LogKind) (Q : Outcome → Type 0) → Bad → Unless Bad why Q (Refused why)
stops Bad why Q b = inl (b, refl)

-- the updates are values, and the stage of what is seen says the rest
pub updates_read : (g : Setting) (at : Position) (s : LineShape) (event : Option (ℕ × ℕ)) (args : List Val) (us : List Update) (r : Result Outcome AllocError)
    → EachOf (UpdateReads g) s.updates us → IfOk r (SeesSay g at s event args us) → IfOk r (UpdatesSay g at s event args)
updates_read g at s event args us r p q = value_found (EachOf (UpdateReads g) s.updates) (kind.BadValue key.Update) (SeesSay g at s event args) us r p q

pub updates_unread : (g : Setting) (at : Position) (s : LineShape) (event : Option (ℕ × ℕ)) (args : List Val)
    → ((us : List Update) → ¬ EachOf (UpdateReads g) s.updates us) → UpdatesSay g at s event args (Refused (kind.BadValue key.Update))
updates_unread g at s event args n = no_value (EachOf (UpdateReads g) s.updates) (kind.BadValue key.Update) (SeesSay g at s event args) n

pub sees_read : (g : Setting) (at : Position) (s : LineShape) (event : Option (ℕ × ℕ)) (args : List Val) (us : List Update) (sees : List See) (r : Result Outcome AllocError)
    → EachOf (SeeReads g) s.sees sees → IfOk r (TestsSay g at s (record { event = event; args = args; updates = us; sees = sees })) → IfOk r (SeesSay g at s event args us)
sees_read g at s event args us sees r p q =
    value_found (EachOf (SeeReads g) s.sees) (kind.BadValue key.See) (λ vs. TestsSay g at s (record { event = event; args = args; updates = us; sees = vs })) sees r p q

pub sees_unread : (g : Setting) (at : Position) (s : LineShape) (event : Option (ℕ × ℕ)) (args : List Val) (us : List Update)
    → ((sees : List See) → ¬ EachOf (SeeReads g) s.sees sees) → SeesSay g at s event args us (Refused (kind.BadValue key.See))
sees_unread g at s event args us n =
    no_value (EachOf (SeeReads g) s.sees) (kind.BadValue key.See) (λ vs. TestsSay g at s (record { event = event; args = args; updates = us; sees = vs })) n

pub args_counted : (g : Setting) (at : Position) (s : LineShape) (p : Parts) (r : Result Outcome AllocError)
    → length p.args ≡ params_of p.event → IfOk r (ClocksSay g at s p) → IfOk r (TestsSay g at s p)
args_counted g at s p r e q = goes_on (length p.args ≡ params_of p.event → ⊥) (kind.WrongArgs (length p.args) (params_of p.event)) (ClocksSay g at s p) r (λ n. n e) q

-- a clock is there that is wanted, and of no other form
pub clock_read : (g : Setting) (at : Position) (s : LineShape) (p : Parts) (clock : Clock) (r : Result Outcome AllocError)
    → ¬ IsMissing at.many s.clock → ¬ IsOtherForm at.form s.clock → clock ≡ clock_or at.clock s.clock → IfOk r (OnBack at.clock clock (NamesSay g at s p)) → IfOk r (ClocksSay g at s p)
clock_read g at s p clock r m n e q =
    goes_on (IsMissing at.many s.clock) kind.NoClock (Unless (IsOtherForm at.form s.clock) kind.ClockKind (OnBack at.clock (clock_or at.clock s.clock) (NamesSay g at s p))) r m
    (goes_on (IsOtherForm at.form s.clock) kind.ClockKind (OnBack at.clock (clock_or at.clock s.clock) (NamesSay g at s p)) r n
    (subst (λ (c : Clock). IfOk r (OnBack at.clock c (NamesSay g at s p))) e q))

pub clock_other : (g : Setting) (at : Position) (s : LineShape) (p : Parts) → ¬ IsMissing at.many s.clock → IsOtherForm at.form s.clock → ClocksSay g at s p (Refused kind.ClockKind)
clock_other g at s p m other = inr (m, inl (other, refl))

pub not_back : (before clock : Clock) (Q : Outcome → Type 0) (r : Result Outcome AllocError) → IsNoLower before clock → IfOk r Q → IfOk r (OnBack before clock Q)
not_back before clock Q (Ok o) n q = inr (n, q)
not_back before clock Q (Err e) n q = q

pub names_known : (g : Setting) (at : Position) (s : LineShape) (p : Parts) (r : Result Outcome AllocError)
    → list_all (λ name. is_some (g.variable name)) (map (λ u. u.path.name) s.updates) ≡ true → list_all (λ name. is_some (g.variable name)) (map (λ v. v.path.name) s.sees) ≡ true
    → IfOk r (FormSays g at s p) → IfOk r (NamesSay g at s p)
names_known g at s p r us vs q =
    goes_on (HasUnknown g (map (λ u. u.path.name) s.updates)) kind.UnknownVariable (Unless (HasUnknown g (map (λ v. v.path.name) s.sees)) kind.UnknownVariable (FormSays g at s p)) r (λ n. true≢false (sym us ∙ n))
    (goes_on (HasUnknown g (map (λ v. v.path.name) s.sees)) kind.UnknownVariable (FormSays g at s p) r (λ n. true≢false (sym vs ∙ n)) q)

pub update_unknown : (g : Setting) (at : Position) (s : LineShape) (p : Parts)
    → list_all (λ name. is_some (g.variable name)) (map (λ u. u.path.name) s.updates) ≡ false → NamesSay g at s p (Refused kind.UnknownVariable)
update_unknown g at s p n = inl (n, refl)

pub see_unknown : (g : Setting) (at : Position) (s : LineShape) (p : Parts)
    → list_all (λ name. is_some (g.variable name)) (map (λ u. u.path.name) s.updates) ≡ true → list_all (λ name. is_some (g.variable name)) (map (λ v. v.path.name) s.sees) ≡ false
    → NamesSay g at s p (Refused kind.UnknownVariable)
see_unknown g at s p us n = inr (λ f. true≢false (sym us ∙ f), inl (n, refl))

-- a line that has a form tells of its step
pub form_had : (g : Setting) (at : Position) (s : LineShape) (p : Parts) (clock : Clock) (form : ClockForm) (event : Option Event)
    → ¬ HasNoForm g p.event p.updates → clock ≡ clock_or at.clock s.clock → form ≡ form_after at.form s.clock → event ≡ event_with p.event p.args
    → FormSays g at s p (Step (record { at = record { file = at.file; line = at.line }; clock = clock; event = event; updates = p.updates; sees = p.sees }) form)
form_had g at s p clock form event n c f e =
    inr (n, λ i. Step (record { at = record { file = at.file; line = at.line }; clock = c i; event = e i; updates = p.updates; sees = p.sees }) (f i))

pub is_first : (b : Bool) → b ≡ true → ¬ (b ≡ false)
is_first b h n = true≢false (sym h ∙ n)

-- an init line
pub init_unread : (g : Setting) (at : Position) (s : LineShape) → ¬ (at.first ≡ false) → ((sees : List See) → ¬ EachOf (SeeReads g) s.sees sees) → InitSays g at s (Refused (kind.BadValue key.See))
init_unread g at s n none = inr (n, inr (none, refl))

pub init_unknown : (g : Setting) (at : Position) (s : LineShape) (sees : List See) → ¬ (at.first ≡ false) → EachOf (SeeReads g) s.sees sees
    → list_all (λ name. is_some (g.variable name)) (map (λ v. v.path.name) s.sees) ≡ false → InitSays g at s (Refused kind.UnknownVariable)
init_unknown g at s sees n h u = inr (n, inl (sees, h, inl (u, refl)))

pub init_read : (g : Setting) (at : Position) (s : LineShape) (sees : List See) → ¬ (at.first ≡ false) → EachOf (SeeReads g) s.sees sees
    → list_all (λ name. is_some (g.variable name)) (map (λ v. v.path.name) s.sees) ≡ true → InitSays g at s (Init sees)
init_read g at s sees n h k = inr (n, inl (sees, h, inr (λ f. true≢false (sym k ∙ f), refl)))

-- a line that is neither too long nor blank says what its text says
pub line_read : (g : Setting) (at : Position) (line : List ℕ) (r : Result Outcome AllocError) → length line ≤ 1048576 → ¬ IsBlank line → IfOk r (TextSays g at line) → IfOk r (LineSays g at line)
line_read g at line (Ok o) short n q = inr (λ long. omega (arith, short, long), inr (n, q))
line_read g at line (Err e) short n q = q
