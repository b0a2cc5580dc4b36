-- From what private calls answer to what `resolve_read` does.
use Rattle.std.proofs.Common.{◌≡◌, ◌∙◌, ◌↔◌, ◌⊎◌, inl, inr, ℕ, suc, ◌<◌, ◌≤◌, List, [], ◌∷◌, length, ap, refl, sym, subst, arith}
use Rattle.std.specs.Prelude.{Bool, true, false, ◌==◌, IfErr, IfOk, Option, Result, Ok, Err}
use Rattle.std.proofs.lemmas.Bool.{cases_order}
use Rattle.std.proofs.lemmas.Bool.Decides.{Decides-eqb}
use Rattle.reading_trees.specs.declared.config.Config.{Config}
use Rattle.reading_trees.specs.declared.module.Declared.{Declared}
use Rattle.reading_trees.specs.declared.module.Program.{Program}
use Rattle.reading_trees.specs.declared.module.Unit.{Unit as ModuleUnit}
use Rattle.names_terms.specs.declared.spec.Spec.{Spec}
use Rattle.names_resolving.specs.declared.fault.ResolveFault.{ResolveFault}
use Rattle.reading_modules.specs.declared.notes.Noted.{Noted}
use Rattle.names_specification.specs.Resolving.{ResolvedWide}
use Rattle.names_program.specs.InUnits.{variables_in}
use Rattle.reading_wide_configuration.specs.Wide.{also_told}
use Rattle.reading_wide_modules.specs.declared.unread.Unread.{Unread}
use Rattle.names_tlc_calls.specs.Programs.{spelled_out}
use Rattle.names_pruning.specs.declared.program.PrunedProgram.{PrunedProgram}
use Rattle.names_pruning.specs.Needed.{needed_names}
use Rattle.names_pruning.specs.Pruning.{Alone, NeedsBad, NoneIsAsked, Pruned}
use Rattle.run_wide.specs.declared.needing.Asked.{Asked}
use Rattle.run_wide.specs.declared.resolution.Resolution.{Resolution}
use Rattle.run_wide.specs.declared.resolution.ResolutionFault.{ResolutionFault}
use Rattle.run_wide.specs.declared.resolution.ResolutionFault.TheVariants.{Names, Piece, NoMemory}
use Rattle.run_wide.specs.Answers.{IsResolution, IsResolutionFault, NeedsPiece}
use Rattle.run_wide.specs.Lines.{passed_lines}
use Rattle.run_wide.specs.Needing.{names_unread}
use Rattle.run_wide.specs.Parts.{IsAloneOf, IsAsItStands, IsFirstAsking, IsFirstUnread, IsGoodPart, IsRefusedSo, LeavesBy, RefusesLeft, ResolvesLeft, good, is_refused, needed, resolves}
use Rattle.run_wide.proofs.AskingLemmas.{true_or_false}
use Rattle.run_wide.specs.Passing.{IsNotWhole, Leaves, Passes, goes_on, is_whole, needed_alone, needed_alone_of_it, spelled, telling, without_bad, without_word}

abbrev Answer : Type 0
Answer = Result Resolution ResolutionFault

-- ---- what is resolved as it stands

module _ (wide : Bool) (p q : Program) (c d : Config) (silent : Option (List ℕ)) (unread : List (Noted Unread)) (passes : Passes p c silent unread wide q d) where
  moved : (x : Program) (y : Config) → x ≡ q → y ≡ d → Passes p c silent unread wide x y
  moved x y e f = subst (λ (u : Program). Passes p c silent unread wide u y) (sym e) (subst (λ (v : Config). Passes p c silent unread wide q v) (sym f) passes)

  pub accepted_by : (r : Answer) → IfOk r (IsAsItStands wide q d silent) → IfOk r (IsResolution wide p c silent unread)
  accepted_by (Ok r) h = record { passes = moved r.program r.config h.same_program h.same_config; resolved = h.resolved }
  accepted_by (Err f) h = tt

  pub refused_by : (r : Answer) → IfErr r (IsRefusedSo wide q d silent) → IfErr r (IsResolutionFault wide p c silent unread)
  refused_by (Ok r) h = tt
  refused_by (Err (Names x y fault)) h = (moved x y h.0 h.1, h.2)
  refused_by (Err (Piece index root)) h = absurd h
  refused_by (Err NoMemory) h = tt

-- without the word
module _ (p : Program) (c : Config) (silent : Option (List ℕ)) (unread : List (Noted Unread)) (wide : Bool) (strict : wide ≡ false) (r : Answer) where
  pub strictly_accepted : IfOk r (IsAsItStands false p c silent) → IfOk r (IsResolution wide p c silent unread)
  strictly_accepted h =
      subst (λ (w : Bool). IfOk r (IsResolution w p c silent unread)) (sym strict) (accepted_by false p p c c silent unread without_word r h)

  pub strictly_refused : IfErr r (IsRefusedSo false p c silent) → IfErr r (IsResolutionFault wide p c silent unread)
  strictly_refused h =
      subst (λ (w : Bool). IfErr r (IsResolutionFault w p c silent unread)) (sym strict) (refused_by false p p c c silent unread without_word r h)

-- ---- what is left

module _ (L M : Program → List ModuleUnit → Type 0) (fits : (q : Program) (over : List ModuleUnit) → L q over → M q over) (files others : List (List ℕ)) (same : files ≡ others)
    (c : Config) (silent : Option (List ℕ)) (unread : List (Noted Unread)) where
  told_of : (over : List ModuleUnit) → also_told (passed_lines files unread over) c ≡ also_told (passed_lines others unread over) c
  told_of over = ap (λ (fs : List (List ℕ)). also_told (passed_lines fs unread over) c) same

  pub as_left : (r : Answer) → IfOk r (ResolvesLeft L files c silent unread) → IfOk r (ResolvesLeft M others c silent unread)
  as_left (Ok r) h = record { over = h.over; left = fits r.program h.over h.left; told = h.told ∙ told_of h.over; resolved = h.resolved }
  as_left (Err f) h = tt

  pub as_refused : (r : Answer) → IfErr r (RefusesLeft L files c silent unread) → IfErr r (RefusesLeft M others c silent unread)
  as_refused (Ok r) h = tt
  as_refused (Err (Names q d fault)) h = record { over = h.over; left = fits q h.over h.left; told = h.told ∙ told_of h.over; refused = h.refused }
  as_refused (Err (Piece index root)) h = absurd h
  as_refused (Err NoMemory) h = tt

module _ (L : Program → List ModuleUnit → Type 0) (files : List (List ℕ)) (c : Config) (silent : Option (List ℕ)) (unread : List (Noted Unread)) (q : Program) (over : List ModuleUnit)
    (left : L q over) (same : q.files ≡ files) where
  told_so : also_told (passed_lines q.files unread over) c ≡ also_told (passed_lines files unread over) c
  told_so = ap (λ (fs : List (List ℕ)). also_told (passed_lines fs unread over) c) same

  pub left_resolved : (r : Answer) → IfOk r (IsAsItStands true q (also_told (passed_lines q.files unread over) c) silent) → IfOk r (ResolvesLeft L files c silent unread)
  left_resolved (Ok r) h = record {
    over = over;
    left = subst (λ (u : Program). L u over) (sym h.same_program) left;
    told = h.same_config ∙ told_so;
    resolved = h.resolved;
  }
  left_resolved (Err f) h = tt

  pub left_refused : (r : Answer) → IfErr r (IsRefusedSo true q (also_told (passed_lines q.files unread over) c) silent) → IfErr r (RefusesLeft L files c silent unread)
  left_refused (Ok r) h = tt
  left_refused (Err (Names x d fault)) h = record {
    over = over;
    left = subst (λ (u : Program). L u over) (sym h.0) left;
    told = h.1 ∙ told_so;
    refused = h.2;
  }
  left_refused (Err (Piece index root)) h = absurd h
  left_refused (Err NoMemory) h = tt

-- ---- what is left without what is bad

-- a configuration that has its lines again
pub restored : (c d e x : Config) (lines old : List (List ℕ)) → d ≡ also_told lines c → old ≡ c.unchecked → e ≡ d → x ≡ record e { unchecked = old } → x ≡ c
restored c d e x lines old told same is back =
    back ∙ ap (λ (k : Config). record k { unchecked = old }) (is ∙ told) ∙ ap (λ (ls : List (List ℕ)). record c { unchecked = ls }) same

module _ (l : PrunedProgram) (c : Config) (asked : Asked) (silent : Option (List ℕ)) (unread : List (Noted Unread)) where
  abbrev told_config : Config
  told_config = also_told (passed_lines l.program.files unread l.passed_over) c

  as_given : (q : Program) (d : Config) (r : Result Spec ResolveFault) → q ≡ l.program → d ≡ told_config → ResolvedWide q d silent r → ResolvedWide l.program told_config silent r
  as_given q d r e f h = subst (λ (x : Program). ResolvedWide x told_config silent r) e (subst (λ (k : Config). ResolvedWide q k silent r) f h)

  pub good_resolved : (d : Config) → d ≡ told_config → (r : Resolution) → IsAsItStands true l.program d silent r
      → ResolvesLeft (IsGoodPart l c asked silent unread) l.program.files c silent unread r
  good_resolved d told r h = record {
    over = l.passed_over;
    left = subst (λ (q : Program). IsGoodPart l c asked silent unread q l.passed_over) (sym h.same_program)
        (resolves r.spec (as_given r.program r.config (Ok r.spec) h.same_program (h.same_config ∙ told) h.resolved));
    told = h.same_config ∙ told;
    resolved = h.resolved;
  }

  module _ (d : Config) (told : d ≡ told_config) (q : Program) (e : Config) (refusal : ResolveFault) (is : IsRefusedSo true l.program d silent (Names q e refusal)) where
    refused_as : (y : Program) (over : List ModuleUnit) → IsAloneOf l.program l.passed_over c asked y over → IsGoodPart l c asked silent unread y over
    refused_as y over alone = is_refused y over refusal (as_given q e (Err refusal) is.0 (is.1 ∙ told) is.2) alone

    module _ (x : Config) (same : x ≡ c) (r : Answer) where
      pub good_needed : IfOk r (ResolvesLeft (IsAloneOf q l.passed_over x asked) q.files x silent unread)
          → IfOk r (ResolvesLeft (IsGoodPart l c asked silent unread) l.program.files c silent unread)
      good_needed h =
          let again = subst (λ (k : Config). IfOk r (ResolvesLeft (IsAloneOf q l.passed_over k asked) q.files k silent unread)) same h in
          as_left (IsAloneOf l.program l.passed_over c asked) (IsGoodPart l c asked silent unread) refused_as l.program.files l.program.files refl c silent unread r
          (subst (λ (y : Program). IfOk r (ResolvesLeft (IsAloneOf y l.passed_over c asked) y.files c silent unread)) is.0 again)

      pub good_refused : IfErr r (RefusesLeft (IsAloneOf q l.passed_over x asked) q.files x silent unread)
          → IfErr r (RefusesLeft (IsGoodPart l c asked silent unread) l.program.files c silent unread)
      good_refused h =
          let again = subst (λ (k : Config). IfErr r (RefusesLeft (IsAloneOf q l.passed_over k asked) q.files k silent unread)) same h in
          as_refused (IsAloneOf l.program l.passed_over c asked) (IsGoodPart l c asked silent unread) refused_as l.program.files l.program.files refl c silent unread r
          (subst (λ (y : Program). IfErr r (RefusesLeft (IsAloneOf y l.passed_over c asked) y.files c silent unread)) is.0 again)

-- ---- what is left in the one way or the other

module _ (p : Program) (c : Config) (asked : Asked) (silent : Option (List ℕ)) (unread : List (Noted Unread)) (r : Answer) where
  module _ (q : Program) (gone : List ModuleUnit) (same : q ≡ p) (nothing : gone ≡ []) (bad : NeedsBad p c asked.unread asked.roots) where
    pub needed_accepted : IfOk r (ResolvesLeft (IsAloneOf q gone c asked) q.files c silent unread) → IfOk r (ResolvesLeft (LeavesBy p c asked silent unread) p.files c silent unread)
    needed_accepted h =
        as_left (IsAloneOf p [] c asked) (LeavesBy p c asked silent unread) (λ y over alone. needed y over bad alone) p.files p.files refl c silent unread r
        (subst (λ (us : List ModuleUnit). IfOk r (ResolvesLeft (IsAloneOf p us c asked) p.files c silent unread)) nothing
        (subst (λ (y : Program). IfOk r (ResolvesLeft (IsAloneOf y gone c asked) y.files c silent unread)) same h))

    pub needed_refused : IfErr r (RefusesLeft (IsAloneOf q gone c asked) q.files c silent unread) → IfErr r (RefusesLeft (LeavesBy p c asked silent unread) p.files c silent unread)
    needed_refused h =
        as_refused (IsAloneOf p [] c asked) (LeavesBy p c asked silent unread) (λ y over alone. needed y over bad alone) p.files p.files refl c silent unread r
        (subst (λ (us : List ModuleUnit). IfErr r (RefusesLeft (IsAloneOf p us c asked) p.files c silent unread)) nothing
        (subst (λ (y : Program). IfErr r (RefusesLeft (IsAloneOf y gone c asked) y.files c silent unread)) same h))

  module _ (l : PrunedProgram) (pruned : Pruned p c asked.unread asked.roots l.program l.passed_over) where
    pub pruned_accepted : IfOk r (ResolvesLeft (IsGoodPart l c asked silent unread) l.program.files c silent unread)
        → IfOk r (ResolvesLeft (LeavesBy p c asked silent unread) p.files c silent unread)
    pruned_accepted = as_left (IsGoodPart l c asked silent unread) (LeavesBy p c asked silent unread) (λ q over h. good l q over pruned h) l.program.files p.files
        pruned.without.files c silent unread r

    pub pruned_refused : IfErr r (RefusesLeft (IsGoodPart l c asked silent unread) l.program.files c silent unread)
        → IfErr r (RefusesLeft (LeavesBy p c asked silent unread) p.files c silent unread)
    pruned_refused = as_refused (IsGoodPart l c asked silent unread) (LeavesBy p c asked silent unread) (λ q over h. good l q over pruned h) l.program.files p.files
        pruned.without.files c silent unread r

-- ---- and all of it

module _ (p : Program) (c : Config) (asked : Asked) (silent : Option (List ℕ)) (unread : List (Noted Unread)) (roots : asked.roots ≡ needed_names c silent)
    (names : asked.unread ≡ names_unread unread) where
  as_asked : (P : List (List ℕ) → List (List ℕ) → Type 0) → P asked.unread asked.roots → P (names_unread unread) (needed_names c silent)
  as_asked P h = subst (λ (ns : List (List ℕ)). P ns (needed_names c silent)) names (subst (λ (ns : List (List ℕ)). P asked.unread ns) roots h)

  told_again : (l : PrunedProgram) → l.program.files ≡ p.files → (r : Result Spec ResolveFault) → ResolvedWide l.program (also_told (passed_lines l.program.files unread l.passed_over) c) silent r
      → ResolvedWide l.program (telling p unread l.passed_over c) silent r
  told_again l same r h = subst (λ (fs : List (List ℕ)). ResolvedWide l.program (also_told (passed_lines fs unread l.passed_over) c) silent r) same h

  leaves_good : (l : PrunedProgram) (q : Program) (over : List ModuleUnit) → Pruned p c asked.unread asked.roots l.program l.passed_over → IsGoodPart l c asked silent unread q over
      → Leaves p c silent unread q over
  leaves_good l _ _ pruned (resolves s h) =
      without_bad l.program l.passed_over s (as_asked (λ u r. Pruned p c u r l.program l.passed_over) pruned) (told_again l pruned.without.files (Ok s) h)
  leaves_good l _ _ pruned (is_refused q over fault h alone) =
      subst (λ (o : List ModuleUnit). Leaves p c silent unread q o) (sym alone.all)
      (needed_alone_of_it l.program q l.passed_over alone.rest fault (as_asked (λ u r. Pruned p c u r l.program l.passed_over) pruned)
      (told_again l pruned.without.files (Err fault) h) (as_asked (λ u r. Alone l.program c u r q alone.rest) alone.alone))

  leaves : (q : Program) (over : List ModuleUnit) → LeavesBy p c asked silent unread q over → Leaves p c silent unread q over
  leaves _ _ (good l q over pruned h) = leaves_good l q over pruned h
  leaves _ _ (needed q over bad alone) =
      subst (λ (o : List ModuleUnit). Leaves p c silent unread q o) (sym alone.all)
      (needed_alone q alone.rest (as_asked (λ u r. NeedsBad p c u r) bad) (as_asked (λ u r. Alone p c u r q alone.rest) alone.alone))

  -- where this is another program with calls spelled out
  module _ (o : Program) (is_spelled : p ≡ spelled o c unread) (not_whole : IsNotWhole o c silent unread) (none : NoneIsAsked p c (names_unread unread) asked.roots) where
    none_needed : NoneIsAsked (spelled o c unread) c (names_unread unread) (needed_names c silent)
    none_needed =
        subst (λ (x : Program). NoneIsAsked x c (names_unread unread) (needed_names c silent)) is_spelled
        (subst (λ (ns : List (List ℕ)). NoneIsAsked p c (names_unread unread) ns) roots none)

    passed : (q : Program) (d : Config) (over : List ModuleUnit) → LeavesBy p c asked silent unread q over → d ≡ also_told (passed_lines p.files unread over) c
        → Passes o c silent unread true q d
    passed q d over h told =
        let same_files : p.files ≡ o.files = ap (λ (x : Program). x.files) is_spelled in
        let is : d ≡ telling o unread over c = told ∙ ap (λ (fs : List (List ℕ)). also_told (passed_lines fs unread over) c) same_files in
        subst (λ (x : Config). Passes o c silent unread true q x) (sym is)
        (goes_on q over not_whole none_needed (subst (λ (x : Program). Leaves x c silent unread q over) is_spelled (leaves q over h)))

    pub accepted_left : (r : Answer) → IfOk r (ResolvesLeft (LeavesBy p c asked silent unread) p.files c silent unread) → IfOk r (IsResolution true o c silent unread)
    accepted_left (Ok r) h = record { passes = passed r.program r.config h.over h.left h.told; resolved = h.resolved }
    accepted_left (Err f) h = tt

    pub refused_left : (r : Answer) → IfErr r (RefusesLeft (LeavesBy p c asked silent unread) p.files c silent unread) → IfErr r (IsResolutionFault true o c silent unread)
    refused_left (Ok r) h = tt
    refused_left (Err (Names q d fault)) h = (passed q d h.over h.left h.told, h.refused)
    refused_left (Err (Piece index root)) h = absurd h
    refused_left (Err NoMemory) h = tt

-- by the names in hand
pub is_spelled_by : (p : Program) (c : Config) (q : Program) (asked : Asked) (unread : List (Noted Unread)) → q ≡ spelled_out p c asked.unread → asked.unread ≡ names_unread unread
    → q ≡ spelled p c unread
is_spelled_by p c q asked unread is names = is ∙ ap (λ (ns : List (List ℕ)). spelled_out p c ns) names

pub few_spelled : (p q : Program) → variables_in q.units ≡ variables_in p.units → length (variables_in p.units) ≤ 64 → length (variables_in q.units) ≤ 64
few_spelled p q same few = subst (λ (ds : List Declared). length ds ≤ 64) (sym same) few

-- ---- programs with many variables, and what is whole

no_fewer : (few : Bool) (n : ℕ) → ((few ≡ true) ↔ (n ≤ 64)) → few ≡ false → (64 ≡ n) ⊎ ((64 < n) ⊎ (n < 64)) → 64 < n
no_fewer few n told none (inl e) = let le : n ≤ 64 = omega (arith, e) in absurd (true_or_false few (told.1 le) none)
no_fewer few n told none (inr (inl more)) = more
no_fewer few n told none (inr (inr less)) = let le : n ≤ 64 = omega (arith, less) in absurd (true_or_false few (told.1 le) none)

pub many : (few : Bool) (n : ℕ) → ((few ≡ true) ↔ (n ≤ 64)) → few ≡ false → 64 < n
many few n told none = no_fewer few n told none (cases_order 64 n)

pub is_nothing : {A : Type 0} (xs : List A) → (length xs == 0) ≡ true → xs ≡ []
is_nothing [] e = refl
is_nothing (x ∷ xs) e = let none : suc (length xs) ≡ 0 = (Decides-eqb (length (x ∷ xs)) 0).0 e in absurd (omega (arith, none))

module _ (p : Program) (c : Config) (silent : Option (List ℕ)) (unread : List (Noted Unread)) where
  pub whole_accepted : unread ≡ [] → (r : Resolution) → IsAsItStands true p c silent r → IsResolution true p c silent unread r
  whole_accepted none r h =
      let resolved = subst (λ (d : Config). ResolvedWide p d silent (Ok r.spec)) h.same_config (subst (λ (q : Program). ResolvedWide q r.config silent (Ok r.spec)) h.same_program h.resolved) in
      record { passes = moved true p p c c silent unread (is_whole r.spec none resolved) r.program r.config h.same_program h.same_config; resolved = h.resolved }

  -- ---- a piece that is needed

  pub piece_needed : (q : Program) → q ≡ spelled p c unread → (roots : List (List ℕ)) → roots ≡ needed_names c silent → IsNotWhole p c silent unread → (index : ℕ) (name root : List ℕ)
      → IsFirstUnread q c roots unread index name → IsFirstAsking q c roots name root → NeedsPiece p c silent unread index root
  piece_needed q is_spelled roots same not_whole index name root h k =
      let first = subst (λ (x : Program). IsFirstUnread x c (needed_names c silent) unread index name) is_spelled (subst (λ (ns : List (List ℕ)). IsFirstUnread q c ns unread index name) same h) in
      let asking = subst (λ (x : Program). IsFirstAsking x c (needed_names c silent) name root) is_spelled (subst (λ (ns : List (List ℕ)). IsFirstAsking q c ns name root) same k) in
      record {
        not_whole = not_whole;
        piece = first.piece;
        name = name;
        needed = record {
          earlier = first.earlier;
          later = first.later;
          among = first.among;
          before = first.before;
          behind = first.behind;
          declares = first.declares;
          asked = first.is_asked;
          first = first.first;
        };
        stands = first.stands;
        needed_by = record { index = asking.index; stands = asking.stands; asks = asking.asks; first = asking.first };
      }
