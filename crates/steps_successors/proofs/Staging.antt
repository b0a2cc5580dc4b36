-- What the walker answers of a stage, in the words of the specification.
use Rattle.std.proofs.Common.{◌≡◌, sym, subst, ℕ, List, map}
use Rattle.std.specs.Prelude.{Some, Result}
use Rattle.values_core.specs.Data.{Val}
use Rattle.states_core.specs.States.{Values}
use Rattle.names_terms.specs.Terms.{Term}
use Rattle.names_terms.specs.declared.spec.Spec.{Spec}
use Rattle.eval_meanings.specs.declared.fault.EvalFault.{EvalFault}
use Rattle.eval_meanings.specs.Contexts.{Context, Places}
use Rattle.actions_meanings.specs.declared.which.Which.{Which}
use Rattle.actions_meanings.specs.Forms.{Setting}
use Rattle.logs_updates.specs.declared.update.See.{See}
use Rattle.steps_lines_defs.specs.Says.{setting}
use Rattle.actions_rows.specs.Rows.{before, setting as stage_setting}
use Rattle.actions_rows.specs.declared.stage.Stage.{Stage}
use Rattle.steps_walk.specs.Walking.{Grounded, IsWalked}
use Rattle.steps_successors.specs.Taken.{AllGrounded, AllWalked, standing}

module _ (G : Setting) (d : ℕ) (sees : List See) (c : Context) (P : Setting → List See → Context → Type 0) where
  same_stage : (F : Setting) (us : List See) (b : Context) → F ≡ G → us ≡ sees → b ≡ c → P F us b → P G sees c
  same_stage F us b e h k x =
      subst (λ (X : Setting). P X sees c) e (subst (λ (Y : List See). P F Y c) h (subst (λ (Z : Context). P F us Z) k x))

  pub of_stage : (F : Setting) (us : List See) (b : Context) → F ≡ G → us ≡ sees → b ≡ c → P F us b → P G sees c
  of_stage = same_stage

  pub to_stage : (F : Setting) (us : List See) (b : Context) → F ≡ G → us ≡ sees → b ≡ c → P G sees c → P F us b
  to_stage F us b e h k x =
      subst (λ (X : Setting). P X us b) (sym e) (subst (λ (Y : List See). P G Y b) (sym h) (subst (λ (Z : Context). P G sees Z) (sym k) x))

module _ (t : Stage) (g : Spec) (w : Which) (s : Values) (sees : List See) (e : stage_setting t ≡ setting w g) (k : t.state.now ≡ map Some s) (h : t.sees.now ≡ sees) (us vs : List Val) (m : us ≡ vs) (d : ℕ) (a : Term) where
  same_context : before t us ≡ standing vs s
  same_context i = record { slots = m i; now = k i; next = k i }

  pub stage_grounded : (p : Places) → Grounded (setting w g) d sees p (standing vs s) a → Grounded (stage_setting t) d t.sees.now p (before t us) a
  stage_grounded p x = to_stage (setting w g) d sees (standing vs s) (λ G ss c. Grounded G d ss p c a) (stage_setting t) t.sees.now (before t us) e h same_context x

  pub stage_walked : (p : Places) (r : Result (List Places) EvalFault) → IsWalked (stage_setting t) d t.sees.now p (before t us) a r → IsWalked (setting w g) d sees p (standing vs s) a r
  stage_walked p r x = of_stage (setting w g) d sees (standing vs s) (λ G ss c. IsWalked G d ss p c a r) (stage_setting t) t.sees.now (before t us) e h same_context x

  pub stage_all_grounded : (ps : List Places) → AllGrounded (setting w g) d sees ps (standing vs s) a → AllGrounded (stage_setting t) d t.sees.now ps (before t us) a
  stage_all_grounded ps x = to_stage (setting w g) d sees (standing vs s) (λ G ss c. AllGrounded G d ss ps c a) (stage_setting t) t.sees.now (before t us) e h same_context x

  pub stage_all_walked : (ps : List Places) (r : Result (List Places) EvalFault) → AllWalked (stage_setting t) d t.sees.now ps (before t us) a r → AllWalked (setting w g) d sees ps (standing vs s) a r
  stage_all_walked ps r x = of_stage (setting w g) d sees (standing vs s) (λ G ss c. AllWalked G d ss ps c a r) (stage_setting t) t.sees.now (before t us) e h same_context x
