-- The ends of edges, one after another.
use Rattle.std.proofs.Common.{◌≡◌, ◌≤◌, ◌<◌, ◌+◌, ℕ, List, [], ◌∷◌, ◌++◌, length, arith, refl, sym, subst, ap, ◌∙◌, ◌⊎◌, inl, inr, take, Bool, true, false, get_or}
use Rattle.std.specs.List.{Contains}
use Rattle.std.proofs.lemmas.Grind.{common_steps}
use Rattle.std.proofs.lemmas.List.Elements.{Contains-push}
use Rattle.states_core.specs.Sets.{IsList, HasMoreThan}
use Rattle.states_layers.specs.Found.{Found, members_of}
use Rattle.states_layers.proofs.Members.{in_nil, in_left, in_append, in_one, in_map, map_in}
use Rattle.states_layers.proofs.FoundLemmas.{adds_kept, adds_in, adds_distinct, adds_new}
use Rattle.states_core.specs.declared.state.Mark.{Mark}
use Rattle.states_tests.specs.Table.{Spot, Edge, Leads, IsEdge, Takes, Listed, IsRefused}
use Rattle.std.specs.Prelude.{Ok, Err, Result}
use Rattle.states_core.specs.declared.fault.Fault.{Fault}
use Rattle.std.proofs.lemmas.List.{length-map}
use Rattle.states_layers.specs.Gives.{Gives}
use Rattle.std.specs.Prelude.{Vec}
use Rattle.std.specs.declared.alloc.Global.{Global}
use Rattle.states_layers.specs.declared.steps.StepFault.{StepFault}
use Rattle.states_layers.specs.declared.steps.StepFault.TheVariants.{Eval, TooMany, NoMemory}

leads_more : (es : List Edge) (e : Edge) (n : Mark) (s t : Spot) (b : Bool) → Leads es n s b t → Leads (es ++ e ∷ []) n s b t
leads_more es e n s t b l = record { edge = l.edge; there = in_left es (e ∷ []) l.edge l.there; is = l.is; to = l.to; fault = l.fault }

leads_cases : (es : List Edge) (e : Edge) (n : Mark) (s t : Spot) (b : Bool) → Leads (es ++ e ∷ []) n s b t
    → Leads es n s b t ⊎ (IsEdge e n s × (e.to ≡ t) × (e.faults ≡ b))
leads_cases es e n s t b l = elim (in_append es (e ∷ []) l.edge l.there) [
  | inl h ↦ inl (record { edge = l.edge; there = h; is = l.is; to = l.to; fault = l.fault })
  | inr h ↦ (let same = in_one e l.edge h in inr (
    (ap (λ (x : Edge). x.mark) same ∙ l.is.0, ap (λ (x : Edge). x.from) same ∙ l.is.1),
    ap (λ (x : Edge). x.to) same ∙ l.to,
    ap (λ (x : Edge). x.faults) same ∙ l.fault,
  ))
]

pub listed_nil : (n : Mark) (s : Spot) → Listed [] n s []
listed_nil n s = record {
  list = record { are = record { distinct = λ i j x lt under. absurd (omega arith); members = λ x h. absurd (in_nil x h) }; all = λ x l. absurd (in_nil l.edge l.there) };
  clear = λ t l. in_nil l.edge l.there;
}

true_false : (b : Bool) → b ≡ true → b ≡ false → ⊥
true_false b p q = cc

pub listed_step : (es : List Edge) (e : Edge) (n : Mark) (s : Spot) (old now : List (Found Spot)) → Listed es n s old → Takes e n s old now → Listed (es ++ e ∷ []) n s now
listed_step es e n s old now l k = elim k [
  | inl p ↦ record {
    list = record {
      are = record {
        distinct = adds_distinct old now e.to 0 p.2 l.list.are.distinct;
        members = λ t h. let r = map_in (λ (f : Found Spot). f.0) now t h in elim (adds_new old now e.to 0 p.2 r.0 r.1) [
          | inl a ↦ leads_more es e n s t false (l.list.are.members t (subst (λ (x : Spot). Contains (members_of old) x) r.2 (in_map (λ (f : Found Spot). f.0) old r.0 a)))
          | inr a ↦ record { edge = e; there = Contains-push es e; is = p.0; to = ap (λ (f : Found Spot). f.0) a ∙ r.2; fault = p.1 }
        ];
      };
      all = λ t h. elim (leads_cases es e n s t false h) [
        | inl a ↦ adds_kept old now e.to 0 p.2 t (l.list.all t a)
        | inr a ↦ subst (λ (x : Spot). Contains (members_of now) x) a.1 (adds_in old now e.to 0 p.2)
      ];
    };
    clear = λ t h. elim (leads_cases es e n s t true h) [ inl a ↦ l.clear t a | inr a ↦ true_false e.faults a.2 p.1 ];
  }
  | inr p ↦ subst (λ (xs : List (Found Spot)). Listed (es ++ e ∷ []) n s xs) (sym p.1) (record {
    list = record {
      are = record { distinct = l.list.are.distinct; members = λ t h. leads_more es e n s t false (l.list.are.members t h) };
      all = λ t h. elim (leads_cases es e n s t false h) [ inl a ↦ l.list.all t a | inr a ↦ absurd (p.0 a.0) ];
    };
    clear = λ t h. elim (leads_cases es e n s t true h) [ inl a ↦ l.clear t a | inr a ↦ p.0 a.0 ];
  })
]

pub listed_at : (es : List Edge) (i : ℕ) (n : Mark) (e : Edge) (s : Spot) (old now : List (Found Spot)) → i < length es → e ≡ get_or es i e
    → Listed (take i es) n s old → Takes e n s old now → Listed (take (i + 1) es) n s now
listed_at es i n e s old now lt at l k =
    let f : take (i + 1) es ≡ take i es ++ e ∷ [] = grind (arith, common_steps) in
    subst (λ (xs : List Edge). Listed xs n s now) (sym f) (listed_step (take i es) e n s old now l k)

pub listed_all : (es : List Edge) (i : ℕ) (n : Mark) (s : Spot) (found : List (Found Spot)) → length es ≤ i → Listed (take i es) n s found → Listed es n s found
listed_all es i n s found le l = let e : take i es ≡ es = grind (arith, common_steps) in subst (λ (xs : List Edge). Listed xs n s found) e l

pub refused : (es : List Edge) (i : ℕ) (n : Mark) (bound : ℕ) (e : Edge) (s : Spot) (fault : StepFault) → i < length es → e ≡ get_or es i e → IsRefused e n s fault
    → Gives (Leads es n s false) (λ t f. Leads es n s true t) (λ t. Unit {0}) bound (Err fault)
refused es i n bound e s (Eval f) lt at r = (e.to, record { edge = e; there = (i, lt, sym at); is = r.0; to = refl; fault = r.1 })
refused es i n bound e s TooMany lt at r = absurd r
refused es i n bound e s NoMemory lt at r = tt

pub whole : (es : List Edge) (n : Mark) (bound : ℕ) (s : Spot) (found : List (Found Spot)) (list : Vec Spot Global) → Listed es n s found → list.items ≡ members_of found
    → Gives (Leads es n s false) (λ t f. Leads es n s true t) (λ t. Unit {0}) bound (Ok list)
whole es n bound s found list l e = (subst (λ (xs : List Spot). IsList (Leads es n s false) xs) (sym e) l.list, λ t f bad seen. l.clear t bad)

pub over : (es : List Edge) (n : Mark) (bound : ℕ) (s : Spot) (found : List (Found Spot)) → Listed es n s found → bound < length found → HasMoreThan (Leads es n s false) bound
over es n bound s found l lt = (members_of found, l.list.are, (let e : length (members_of found) ≡ length found = simp length-map in omega arith))

-- the same states under an equal condition
pub gives_same : (P Q : Spot → Type 0) (Bad : Spot → Fault → Type 0) (Seen : Spot → Type 0) (bound : ℕ) (r : Result (Vec Spot Global) StepFault)
    → ((s : Spot) → P s → Q s) → ((s : Spot) → Q s → P s) → Gives P Bad Seen bound r → Gives Q Bad Seen bound r
gives_same P Q Bad Seen bound (Ok states) f g h =
    (record { are = record { distinct = h.0.are.distinct; members = λ s i. f s (h.0.are.members s i) }; all = λ s q. h.0.all s (g s q) }, h.1)
gives_same P Q Bad Seen bound (Err (Eval x)) f g h = h
gives_same P Q Bad Seen bound (Err TooMany) f g h = (h.0, record { distinct = h.1.distinct; members = λ s i. f s (h.1.members s i) }, h.2)
gives_same P Q Bad Seen bound (Err NoMemory) f g h = h
