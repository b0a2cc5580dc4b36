-- What is told of orders by clock is what clocks allow, and a merged order is a sequence.
use Rattle.std.proofs.Common.{◌≡◌, ℕ, suc, ◌≤◌, ℤ, List, [], ◌∷◌, length, ap, sym, ◌∙◌, subst, refl, arith}
use Rattle.base_clock_order.specs.Orders.{HasClock}
use Rattle.base_clock_order.specs.declared.order.LineRef.{LineRef}
use Rattle.base_cuts.specs.Cuts.{Cut, IsLineOf, after, nothing, taken}
use Rattle.base_cuts.specs.Orders.{IsOrderUnder, in_sequence, none_of, sizes, sizes_of}
use Rattle.base_cuts.specs.Laws.{AllowedByClock, MergedIsMade}
use Rattle.base_cuts.proofs.Growing.{after_long, nothing_long}
use Rattle.base_cuts.proofs.Rules.{clock_line, clock_of}
use Rattle.base_cuts.proofs.Takes.{nothing_within, order_rest, orders_taken, taken_within}
use Rattle.base_cuts.proofs.Lengths.{end_all, none_rule}

both : (m n : ℕ) → m ≤ n → n ≤ m → m ≡ n
both m n h k = omega (arith, h, k)

same_cut : (c d : Cut) → length c ≡ length d → ((f : ℕ) → taken c f ≤ taken d f) → ((f : ℕ) → taken d f ≤ taken c f) → c ≡ d
same_cut [] [] l h k = refl
same_cut [] (n ∷ ns) l h k = absurd (omega (arith, l))
same_cut (m ∷ ms) [] l h k = absurd (omega (arith, l))
same_cut (m ∷ ms) (n ∷ ns) l h k =
    let first : m ≡ n = both m n (h 0) (k 0) in
    let rest : ms ≡ ns = same_cut ms ns (omega (arith, l)) (λ f. h (suc f)) (λ f. k (suc f)) in
    λ i. first i ∷ rest i

-- an order comes to the cut of all lines
pub order_end : (all : Cut) (xs : List LineRef) → IsOrderUnder all (λ a b. ⊥) xs → after (nothing all) xs ≡ all
order_end all xs o =
    let rule = none_rule all in
    let r = order_rest all (λ a b. ⊥) rule xs o in
    same_cut (after (nothing all) xs) all (after_long (nothing all) xs ∙ nothing_long all)
    (taken_within all (λ a b. ⊥) rule (nothing all) xs (nothing_long all) (nothing_within all (λ a b. ⊥) rule) (orders_taken all (λ a b. ⊥) rule (nothing all) xs (nothing_long all) r))
    (end_all all (λ a b. ⊥) rule (nothing all) xs (nothing_long all) r)

pub none_nothing : {K : Type 0} (clocks : List (List K)) → none_of (length clocks) ≡ nothing (sizes_of clocks)
none_nothing [] = refl
none_nothing (x ∷ xs) = ap (λ (c : Cut). 0 ∷ c) (none_nothing xs)

-- each line that has a clock is one of the logs
clocked : (clocks : List (List ℤ)) (l : LineRef) (c : ℤ) → HasClock clocks l c → IsLineOf (sizes_of clocks) l
clocked clocks l c h = clock_line clocks l.file l.index h.0 c h.1 h.2

pub allowed_by_clock : AllowedByClock
allowed_by_clock clocks xs = (
  λ o. record {
    lines = record {
      lines = λ l h. clock_of clocks l (o.lines.lines l h);
      all = λ l h. o.lines.all l (clocked clocks l h.0 h.1);
      once = o.lines.once;
    };
    in_log = o.in_log;
    rule = o.rule;
  },
  λ o. record {
    lines = record {
      lines = λ l h. let c = o.lines.lines l h in clocked clocks l c.0 c.1;
      all = λ l h. o.lines.all l (clock_of clocks l h);
      once = o.lines.once;
    };
    in_log = o.in_log;
    rule = o.rule;
  },
)

pub merged_is_made : MergedIsMade
merged_is_made clocks order merged =
    let all_sizes = sizes_of clocks in
    let o : IsOrderUnder all_sizes (λ a b. ⊥) order = record {
      lines = record {
        lines = λ l h. let c = merged.lines.lines l h in clocked clocks l c.0 c.1;
        all = λ l h. merged.lines.all l (clock_of clocks l h);
        once = merged.lines.once;
      };
      in_log = merged.in_log;
      rule = λ i j d h l k. k;
    } in
    let same : sizes (in_sequence (length clocks) order) ≡ all_sizes = ap (λ (c : Cut). after c order) (none_nothing clocks) ∙ order_end all_sizes order o in
    (subst (λ (s : Cut). IsOrderUnder s (λ a b. ⊥) order) (sym same) o, same)
