-- What is listed of a test behind each of several branches.
use Rattle.std.proofs.Common.{◌≡◌, sym, ◌∙◌, subst, arith, ℕ, ◌<◌, ◌≤◌, ◌-◌, List, [], ◌∷◌, ◌++◌, length, inl}
use Rattle.std.specs.Prelude.{Bool, true, false, Contains, Result, Ok, Err}
use Rattle.states_core.specs.States.{Values}
use Rattle.states_core.specs.declared.fault.Fault.{Fault}
use Rattle.names_terms.specs.Terms.{Term}
use Rattle.eval_meanings.specs.Contexts.{Context, Places}
use Rattle.eval_meanings.specs.Evaluates.{Evaluates}
use Rattle.eval_meanings.specs.Laws.{ReadsValues}
use Rattle.eval_meanings.specs.Unchanged.{TruthOf}
use Rattle.actions_meanings.specs.Forms.{Setting, form, test}
use Rattle.actions_meanings.specs.Reads.{in_none}
use Rattle.actions_meanings.specs.Filled.{Completes, at_next}
use Rattle.steps_found_states.specs.Walks.{HoldsOf}
use Rattle.steps_found_states.proofs.Placed.{truth_fine}
use Rattle.steps_found_states.proofs.Simple.{finds_false}
use Rattle.values_core.specs.Ascending.{head_in, none_in}
use Rattle.steps_why_branches.specs.Traces.{Earlier, End, Stood, Trace, added, ended, passed}
use Rattle.steps_why_branches.specs.Branches.{Altered, Alters, Goes, Tests, stood}
use Rattle.steps_why_branches.specs.Firsts.{Covers, Firsts}
use Rattle.steps_why_branches.specs.Founds.{AfterTest, TestsFound}
use Rattle.steps_why_branches.specs.Told.{KnowsAll}
use Rattle.steps_why_branches.specs.declared.why.Why.{Why}
use Rattle.steps_why_branches.proofs.EachSays.{no_see}
use Rattle.steps_why_branches.proofs.FirstBranches.{firsts_one}
use Rattle.steps_why_branches.proofs.Turns.{cover_full, cover_more, cover_none, covers_still, each_full, each_more, each_none, goes_no_more, goes_on}

module _ (g : Setting) (d k : ℕ) (e : Context × Term) where
  pub tests_none : TestsFound g d k e [] []
  tests_none = record { each = each_none (Tests g d) d k e; covers = cover_none k (HoldsOf g d e.0 e.1) }

  pub tests_more : (ps : List Trace) (y : Trace) (ys zs : List Trace) → ((x : Trace) → Contains ps x → Earlier x y) → length ys < k → TestsFound g d k e ps ys → AfterTest g d (k - length ys) e y zs
      → TestsFound g d k e (ps ++ y ∷ []) (ys ++ zs)
  tests_more ps y ys zs h s w b = record {
    each = each_more (Tests g d) d k e ps y ys zs h s w.each b.firsts b.some;
    covers = cover_more k (HoldsOf g d e.0 e.1) ps y ys zs w.covers b.covers;
  }

  pub tests_full : (ps : List Trace) (y : Trace) (ys : List Trace) → ((x : Trace) → Contains ps x → Earlier x y) → k ≤ length ys → TestsFound g d k e ps ys → TestsFound g d k e (ps ++ y ∷ []) ys
  tests_full ps y ys h s w = record {
    each = each_full (Tests g d) d k e ps y ys h s w.each;
    covers = cover_full k (HoldsOf g d e.0 e.1) (ps ++ y ∷ []) ys s;
  }

  pub after_ended_test : (y : Trace) (q : Places) (s : Stood) (w : Why) → 1 ≤ k → y.end ≡ ended q s w → AfterTest g d k e y (y ∷ [])
  after_ended_test y q s w l j = record {
    firsts = subst (λ (n : End). Firsts k (Goes (Tests g d) d e y n) (y ∷ [])) (sym j) (goes_no_more (Tests g d) d k e y q s w l);
    some = omega arith;
    covers = λ t c h. covers_still k y t c;
  }

  -- a branch that was gone through, by what the test says there
  module _ (i : (n : ℕ) → form g n e.1 ≡ test) (q : Places) (known : KnowsAll g q e.0 e.1) (now : ReadsValues g.table (at_next g.which e.0 q) e.1) where
    one_altered : (r : Result Bool Fault) (z : Trace) → Altered q (stood d e) r z → (x : Trace) → Altered q (stood d e) r x → x ≡ z
    one_altered (Ok true) z m x n = n ∙ sym m
    one_altered (Ok false) z m x n = n ∙ sym m
    one_altered (Err f) z m x n = n ∙ sym m

    altered_covers : (r : Result Bool Fault) → TruthOf (Evaluates g.table d) (at_next g.which e.0 q) e.1 r → (z : Trace) → Altered q (stood d e) r z → (t : Values) → Completes q t → HoldsOf g d e.0 e.1 t → Covers z.end t
    altered_covers (Ok true) h z m t k b = subst (λ (x : Trace). Covers x.end t) (sym m) k
    altered_covers (Ok false) h z m t k b = let r = (finds_false g e.0 e.1 (i (length e.0.slots)) d [] in_none q known (λ C. ⊥) h).full t k (no_see t) b in absurd (none_in r.0 r.1)
    altered_covers (Err f) h z m t k b = subst (λ (x : Trace). Covers x.end t) (sym m) (tt, k)

    one_test : 1 ≤ k → (r : Result Bool Fault) → TruthOf (Evaluates g.table d) (at_next g.which e.0 q) e.1 r → (z : Trace) → Altered q (stood d e) r z → Firsts k (Alters g d e.0 e.1 q) (z ∷ [])
    one_test l r h z m = firsts_one k (Alters g d e.0 e.1 q) z l (r, h, m)
        (λ x n. one_altered r z m x (subst (λ (s : Result Bool Fault). Altered q (stood d e) s x) ((truth_fine g.table d (at_next g.which e.0 q) e.1 now).one n.0 r n.1 h) n.2))

    pub after_passed_test : 1 ≤ k → (y : Trace) → y.end ≡ passed q → (r : Result Bool Fault) → TruthOf (Evaluates g.table d) (at_next g.which e.0 q) e.1 r → (z : Trace) → Altered q (stood d e) r z
        → AfterTest g d k e y (added (stood d e) y z ∷ [])
    after_passed_test l y j r h z m = record {
      firsts = subst (λ (n : End). Firsts k (Goes (Tests g d) d e y n) (added (stood d e) y z ∷ [])) (sym j) (goes_on (Tests g d) d k e y q (z ∷ []) (one_test l r h z m));
      some = omega arith;
      covers = λ t c b. inl (added (stood d e) y z, head_in (added (stood d e) y z) [], altered_covers r h z m t (subst (λ (n : End). Covers n t) j c) b);
    }
