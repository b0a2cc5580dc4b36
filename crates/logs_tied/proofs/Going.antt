-- A log is named line by line, as the code does.
use Rattle.std.proofs.Common.{◌≡◌, ℕ, zero, suc, ◌+◌, ◌<◌, ◌≤◌, ◌^◌, List, [], ◌∷◌, ◌++◌, length, length-append, Option, Some, None, ap, sym, ◌∙◌, subst, refl, arith}
use Rattle.std.specs.List.{AllZip, slice_get}
use Rattle.base_core.specs.declared.place.LineAt.{LineAt}
use Rattle.states_core.specs.declared.state.Shown.{Shown}
use Rattle.base_clock_order.specs.declared.order.LineRef.{LineRef}
use Rattle.logs_updates.specs.declared.line.Line.{Line}
use Rattle.logs_updates.specs.declared.line.Log.{Log}
use Rattle.logs_updates.specs.declared.update.See.{See}
use Rattle.base_cuts.specs.Cuts.{Cut, after, next, total, with_one}
use Rattle.base_cuts.specs.Orders.{IsCut, IsReadyAt, sizes, start}
use Rattle.base_cuts.proofs.Ends.{beginning_long}
use Rattle.base_cuts.proofs.Growing.{after_more}
use Rattle.base_cuts.proofs.Ready.{some_allowed}
use Rattle.logs_tied.specs.Lines.{AreTied, StandsIn}
use Rattle.logs_tied.specs.Named.{IsChosen, IsNamed, IsNamedLog, names}
use Rattle.logs_tied.specs.Naming.{IsNaming}
use Rattle.logs_tied.specs.declared.logs.Logs.{Logs}
use Rattle.logs_tied.proofs.Naming.{naming_ends, naming_goes_on}

zip_more : {A B : Type 0} (R : A → B → Type 0) (xs : List A) (ys : List B) (x : A) (y : B) → AllZip R xs ys → R x y → AllZip R (xs ++ x ∷ []) (ys ++ y ∷ [])
zip_more R [] [] x y h r = (r, tt)
zip_more R [] (b ∷ ys) x y h r = absurd h
zip_more R (a ∷ xs) [] x y h r = absurd h
zip_more R (a ∷ xs) (b ∷ ys) x y h r = (h.0, zip_more R xs ys x y h.1 r)

module _ (logs : Logs) (tied : AreTied logs) (w : List Shown) where
  pub none_named : (c : Cut) (lines : List Line) → c ≡ start logs.order → lines ≡ [] → IsNaming logs w c lines 0
  none_named c lines e none = record {
    taken = [];
    so_far = record { begins = some_allowed logs.order tied.made; keeps = λ n l h. cc };
    cut = e;
    long = refl;
    stand = subst (λ (ls : List Line). AllZip (StandsIn logs.files.items) [] ls) (sym none) tt;
  }

  module _ (c : Cut) (lines : List Line) (n : ℕ) (g : IsNaming logs w c lines n) where
    pub naming_cut : IsCut logs.order c
    naming_cut = (g.taken, sym g.cut, g.so_far.begins)

    pub naming_left : n < total (sizes logs.order) → total c < total (sizes logs.order)
    naming_left less =
        let long : total c ≡ n = ap total g.cut ∙ beginning_long logs.order tied.made g.taken g.so_far.begins.0 g.so_far.begins.1 ∙ g.long in
        omega (arith, long, less)

    pub one_named : (place : Option LineAt) (f : ℕ) → place ≡ slice_get (names w) n → IsChosen logs.files.items logs.order c place (next c f) → (line : Line) → StandsIn logs.files.items (next c f) line
        → (more : Cut) (now : List Line) → more ≡ with_one c f → now ≡ lines ++ line ∷ [] → IsNaming logs w more now (n + 1)
    one_named place f at chosen line stands more now further longer =
        let here : IsChosen logs.files.items logs.order (after (start logs.order) g.taken) (slice_get (names w) (length g.taken)) (next c f) =
        subst (λ (d : Cut). IsChosen logs.files.items logs.order d (slice_get (names w) (length g.taken)) (next c f)) g.cut
        (subst (λ (i : ℕ). IsChosen logs.files.items logs.order c (slice_get (names w) i) (next c f)) (sym g.long)
        (subst (λ (p : Option LineAt). IsChosen logs.files.items logs.order c p (next c f)) at chosen)) in
        let long = g.long in
        record {
          taken = g.taken ++ next c f ∷ [];
          so_far = naming_goes_on logs.files.items logs.order tied.made w g.taken (next c f) g.so_far here;
          cut = further ∙ ap (λ (d : Cut). with_one d f) g.cut ∙ sym (after_more (start logs.order) g.taken (next c f ∷ []));
          long = let l = length-append g.taken (next c f ∷ []) in omega (arith, l, long);
          stand = subst (λ (ls : List Line). AllZip (StandsIn logs.files.items) (g.taken ++ next c f ∷ []) ls) (sym longer)
              (zip_more (StandsIn logs.files.items) g.taken lines (next c f) line g.stand stands);
        }

    pub all_named : n ≡ total (sizes logs.order) → (init : List See) → init ≡ logs.init → IsNamedLog logs w (record { init = init; lines = lines })
    all_named e init same =
        let ends = naming_ends logs.files.items logs.order tied.made w g.taken g.so_far (g.long ∙ e) in
        record { init = same; order = g.taken; lined = record { allowed = ends.0; stand = g.stand }; keeps = ends.1 }
