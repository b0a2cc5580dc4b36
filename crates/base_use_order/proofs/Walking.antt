-- Each task keeps what stands in the walk.
use Rattle.std.proofs.Common.{◌≡◌, ◌≢◌, ◌⊎◌, inl, inr, ℕ, suc, ◌+◌, ◌-◌, ◌<◌, ◌≤◌, List, [], ◌∷◌, ◌++◌, length, map, reverse, replicate, get_or, length-append, set, ap, sym, ◌∙◌, subst, refl, arith, get_or-set_same, get_or-set_other}
use Rattle.std.specs.List.{Contains, range_with_len}
use Rattle.std.proofs.lemmas.List.{length-set, length-map, length-replicate, get_or-replicate, get_or_past, reverse-append}
use Rattle.std.proofs.lemmas.List.Elements.{Contains-append_left, Contains-append_right, Contains-append_cases, Contains-push, Contains-push_cases, Contains-get_or}
use Rattle.std.proofs.lemmas.List.Quantifiers.{all_pairs_push}
use Rattle.base_use_order.specs.declared.walk.Mark.{Mark}
use Rattle.base_use_order.specs.declared.walk.Mark.TheVariants.{New, Open, Done}
use Rattle.base_use_order.specs.declared.walk.Task.{Task}
use Rattle.base_use_order.specs.declared.walk.Task.TheVariants.{Enter, Leave}
use Rattle.base_use_order.specs.Uses.{Table, Uses, used_by, Leads, IsWithin, IsOrder, SomeUsesItself}
use Rattle.base_use_order.specs.Uses.Leads.{direct}
use Rattle.base_use_order.specs.Walks.{number_of, open_in, Tells, AreOnce, Closed, Waits, Led, Stands, is_new, left_to_take}
use Rattle.base_use_order.proofs.Lists.{same_or_not, within_or_past, cons_cases, head_in, tail_in, none_in, nil_of, below_in, in_below, reverse-push, reverse-map, reversed_in, in_reversed}
use Rattle.base_use_order.proofs.OrderLaws.{leads_on}
use Rattle.base_use_order.proofs.Weighing.{weight_falls, weight_never_rises}

either : {P Q R : Type 0} → (P → Q) → P ⊎ R → Q ⊎ R
either f (inl p) = inl (f p)
either f (inr r) = inr r

module _ (uses : Table) where
  waits_more : (tasks : List Task) (P Q : ℕ → Type 0) → ((b : ℕ) → P b → Q b) → Waits uses P tasks → Waits uses Q tasks
  waits_more [] P Q f w = tt
  waits_more (Enter a ∷ tasks) P Q f w = waits_more tasks (λ b. P b ⊎ (a ≡ b)) (λ b. Q b ⊎ (a ≡ b)) (λ b. either (f b)) w
  waits_more (Leave a ∷ tasks) P Q f w = (λ b u. f b (w.0 b u), waits_more tasks (λ b. P b ⊎ (a ≡ b)) (λ b. Q b ⊎ (a ≡ b)) (λ b. either (f b)) w.1)

  -- the tasks to enter some come before the others
  waits_entering : (xs : List ℕ) (P : ℕ → Type 0) (tasks : List Task) → Waits uses (λ b. P b ⊎ Contains xs b) tasks → Waits uses P (map Enter xs ++ tasks)
  waits_entering [] P tasks w = waits_more tasks (λ b. P b ⊎ Contains [] b) P (λ b h. elim h [ inl p ↦ p | inr n ↦ absurd (none_in b n) ]) w
  waits_entering (x ∷ xs) P tasks w = waits_entering xs (λ b. P b ⊎ (x ≡ b)) tasks (waits_more tasks (λ b. P b ⊎ Contains (x ∷ xs) b) (λ b. (P b ⊎ (x ≡ b)) ⊎ Contains xs b) (λ b h. elim h [
    | inl p ↦ inl (inl p)
    | inr n ↦ elim (cons_cases x xs b n) [ inl e ↦ inl (inr e) | inr g ↦ inr g ]
  ]) w)

  closed_push : (order : List ℕ) (P : ℕ → Type 0) (a : ℕ) → Closed uses P order → ((b : ℕ) → Uses uses a b → P b ⊎ Contains order b) → Closed uses P (order ++ a ∷ [])
  closed_push [] P a c f = (λ b u. elim (f b u) [ inl p ↦ p | inr h ↦ absurd (none_in b h) ], tt)
  closed_push (x ∷ xs) P a c f = (
    c.0,
    closed_push xs (λ b. P b ⊎ (x ≡ b)) a c.1 (λ b u. elim (f b u) [
      | inl p ↦ inl (inl p)
      | inr h ↦ elim (cons_cases x xs b h) [ inl e ↦ inl (inr e) | inr g ↦ inr g ]
    ]),
  )

  closed_cut : (order before after : List ℕ) (P : ℕ → Type 0) (a b : ℕ) → Closed uses P order → order ≡ before ++ a ∷ after → Uses uses a b → P b ⊎ Contains before b
  closed_cut [] [] after P a b c e u = cc
  closed_cut [] (x ∷ before) after P a b c e u = cc
  closed_cut (y ∷ ys) [] after P a b c e u = let same : a ≡ y = cc in inl (c.0 b (subst (λ (w : ℕ). Uses uses w b) same u))
  closed_cut (y ∷ ys) (x ∷ before) after P a b c e u =
      let same : x ≡ y = cc in
      let tails : ys ≡ before ++ a ∷ after = cc in
      elim (closed_cut ys before after (λ b. P b ⊎ (y ≡ b)) a b c.1 tails u) [
        | inl p ↦ elim p [ inl q ↦ inl q | inr f ↦ inr (subst (λ (w : ℕ). Contains (x ∷ before) w) (same ∙ f) (head_in x before)) ]
        | inr h ↦ inr (tail_in x before b h)
      ]

  open_entering : (xs : List ℕ) (tasks : List Task) → open_in (map Enter xs ++ tasks) ≡ open_in tasks
  open_entering [] tasks = refl
  open_entering (x ∷ xs) tasks = open_entering xs tasks

  numbers_entering : (xs : List ℕ) (tasks : List Task) → map number_of (map Enter xs ++ tasks) ≡ xs ++ map number_of tasks
  numbers_entering [] tasks = refl
  numbers_entering (x ∷ xs) tasks = ap (λ (w : List ℕ). x ∷ w) (numbers_entering xs tasks)

  led_entering : (xs : List ℕ) (a : ℕ) (tasks : List Task) → ((b : ℕ) → Contains xs b → Uses uses a b) → Led uses (Leave a ∷ tasks) → Led uses (map Enter xs ++ Leave a ∷ tasks)
  led_entering [] a tasks f l = l
  led_entering (x ∷ xs) a tasks f l = (
    λ c h. elim (cons_cases a (open_in tasks) c (subst (λ (w : List ℕ). Contains w c) (open_entering xs (Leave a ∷ tasks)) h)) [
      | inl e ↦ subst (λ (w : ℕ). Leads uses w x) e (direct a x (f x (head_in x xs)))
      | inr g ↦ leads_on uses c a (l.0 c g) x (f x (head_in x xs))
    ],
    led_entering xs a tasks (λ b h. f b (tail_in x xs b h)) l,
  )

-- another definition's mark tells the same when a is opened
tells_opened : (order path : List ℕ) (a x : ℕ) → x ≢ a → (m : Mark) → Tells order path x m → Tells order (a ∷ path) x m
tells_opened order path a x ne New t = (t.0, λ h. elim (cons_cases a path x h) [ inl e ↦ ne (sym e) | inr g ↦ t.1 g ])
tells_opened order path a x ne Open t = (t.0, tail_in a path x t.1)
tells_opened order path a x ne Done t = (t.0, λ h. elim (cons_cases a path x h) [ inl e ↦ ne (sym e) | inr g ↦ t.1 g ])

-- and when a is put into the order
tells_left : (order path : List ℕ) (a x : ℕ) → x ≢ a → (m : Mark) → Tells order (a ∷ path) x m → Tells (order ++ a ∷ []) path x m
tells_left order path a x ne New t = (λ h. elim (Contains-push_cases order a x h) [ inl g ↦ t.0 g | inr e ↦ ne (sym e) ], λ h. t.1 (tail_in a path x h))
tells_left order path a x ne Open t = (λ h. elim (Contains-push_cases order a x h) [ inl g ↦ t.0 g | inr e ↦ ne (sym e) ], elim (cons_cases a path x t.1) [ inl e ↦ absurd (ne (sym e)) | inr g ↦ g ])
tells_left order path a x ne Done t = (Contains-append_left order (a ∷ []) x t.0, λ h. t.1 (tail_in a path x h))

open_not_ordered : (order path : List ℕ) (a : ℕ) (m : Mark) → Tells order path a m → Contains path a → ¬ Contains order a
open_not_ordered order path a New t h = absurd (t.1 h)
open_not_ordered order path a Open t h = t.0
open_not_ordered order path a Done t h = absurd (t.1 h)

module _ (uses : Table) (marks : List Mark) (order : List ℕ) (tasks : List Task) (a : ℕ) where
  -- a task to enter what is in order is done
  pub passes_by : Stands uses marks order (Enter a ∷ tasks) → get_or marks a New ≡ Done → Stands uses marks order tasks
  passes_by s e =
      let told : Tells order (open_in tasks) a Done = subst (λ (m : Mark). Tells order (open_in tasks) a m) e (s.told a) in
      let here : (x : ℕ) → a ≡ x → Contains order x = λ (x : ℕ) (q : a ≡ x). subst (λ (w : ℕ). Contains order w) q told.0 in
      record {
        sizes = s.sizes;
        told = s.told;
        path = s.path;
        once = s.once;
        closed = s.closed;
        waits = waits_more uses tasks (λ x. Contains order x ⊎ (a ≡ x)) (λ x. Contains order x) (λ x h. elim h [ inl p ↦ p | inr q ↦ here x q ]) s.waits;
        led = s.led.1;
        tasks_within = λ x h. s.tasks_within x (tail_in a (map number_of tasks) x h);
        order_within = s.order_within;
        all = λ x l. elim (s.all x l) [
          | inl h ↦ inl h
          | inr h ↦ elim (cons_cases a (map number_of tasks) x h) [ inl q ↦ inl (here x q) | inr g ↦ inr g ]
        ];
      }

  -- one that is open uses itself
  pub comes_back : Stands uses marks order (Enter a ∷ tasks) → get_or marks a New ≡ Open → SomeUsesItself uses
  comes_back s e =
      let told : Tells order (open_in tasks) a Open = subst (λ (m : Mark). Tells order (open_in tasks) a m) e (s.told a) in
      (a, s.led.0 a told.1)

  pub leaves : Stands uses marks order (Leave a ∷ tasks) → Stands uses (set marks a Done) (order ++ a ∷ []) tasks
  leaves s =
      let path = open_in tasks in
      let small : a < length uses = s.tasks_within a (head_in a (map number_of tasks)) in
      let marked : a < length marks = omega (arith, small, s.sizes) in
      let fresh : ¬ Contains order a = open_not_ordered order (a ∷ path) a (get_or marks a New) (s.told a) (head_in a path) in
      let here : (x : ℕ) → a ≡ x → Contains (order ++ a ∷ []) x = λ (x : ℕ) (q : a ≡ x). subst (λ (w : ℕ). Contains (order ++ a ∷ []) w) q (Contains-push order a) in
      record {
        sizes = length-set marks a Done ∙ s.sizes;
        told = λ x. elim (same_or_not a x) [
          | inl q ↦ subst (λ (w : ℕ). Tells (order ++ a ∷ []) path w (get_or (set marks a Done) w New)) q
              (subst (λ (m : Mark). Tells (order ++ a ∷ []) path a m) (sym (get_or-set_same marks a Done New marked)) (Contains-push order a, s.path.0))
          | inr q ↦ let ne : x ≢ a = λ (r : x ≡ a). q (sym r) in
              subst (λ (m : Mark). Tells (order ++ a ∷ []) path x m) (sym (get_or-set_other marks a x Done New ne)) (tells_left order path a x ne (get_or marks x New) (s.told x))
        ];
        path = s.path.1;
        once = all_pairs_push (λ x y. x ≢ y) order a s.once (λ k d l e. fresh (subst (λ (w : ℕ). Contains order w) e (Contains-get_or order k d l)));
        closed = closed_push uses order (λ _. ⊥) a s.closed (λ b u. inr (s.waits.0 b u));
        waits = waits_more uses tasks (λ x. Contains order x ⊎ (a ≡ x)) (λ x. Contains (order ++ a ∷ []) x)
            (λ x h. elim h [ inl p ↦ Contains-append_left order (a ∷ []) x p | inr q ↦ here x q ]) s.waits.1;
        led = s.led.1;
        tasks_within = λ x h. s.tasks_within x (tail_in a (map number_of tasks) x h);
        order_within = λ x h. elim (Contains-push_cases order a x h) [ inl g ↦ s.order_within x g | inr q ↦ subst (λ (w : ℕ). w < length uses) q small ];
        all = λ x l. elim (s.all x l) [
          | inl h ↦ inl (Contains-append_left order (a ∷ []) x h)
          | inr h ↦ elim (cons_cases a (map number_of tasks) x h) [ inl q ↦ inl (here x q) | inr g ↦ inr g ]
        ];
      }

  pub enters : Stands uses marks order (Enter a ∷ tasks) → get_or marks a New ≡ New → IsWithin uses → (xs : List ℕ) → ((b : ℕ) → Contains xs b → Uses uses a b) → ((b : ℕ) → Uses uses a b → Contains xs b)
      → Stands uses (set marks a Open) order (map Enter xs ++ Leave a ∷ tasks)
  enters s e inside xs used listed =
      let path = open_in tasks in
      let later = map number_of tasks in
      let opened = open_entering uses xs (Leave a ∷ tasks) in
      let numbers = numbers_entering uses xs (Leave a ∷ tasks) in
      let small : a < length uses = s.tasks_within a (head_in a later) in
      let marked : a < length marks = omega (arith, small, s.sizes) in
      let told : Tells order path a New = subst (λ (m : Mark). Tells order path a m) e (s.told a) in
      let tells : (x : ℕ) → Tells order (a ∷ path) x (get_or (set marks a Open) x New) = λ (x : ℕ). elim (same_or_not a x) [
        | inl q ↦ subst (λ (w : ℕ). Tells order (a ∷ path) w (get_or (set marks a Open) w New)) q
            (subst (λ (m : Mark). Tells order (a ∷ path) a m) (sym (get_or-set_same marks a Open New marked)) (told.0, head_in a path))
        | inr q ↦ let ne : x ≢ a = λ (r : x ≡ a). q (sym r) in
            subst (λ (m : Mark). Tells order (a ∷ path) x m) (sym (get_or-set_other marks a x Open New ne)) (tells_opened order path a x ne (get_or marks x New) (s.told x))
      ] in
      record {
        sizes = length-set marks a Open ∙ s.sizes;
        told = subst (λ (w : List ℕ). (x : ℕ) → Tells order w x (get_or (set marks a Open) x New)) (sym opened) tells;
        path = subst AreOnce (sym opened) (told.1, s.path);
        once = s.once;
        closed = s.closed;
        waits = waits_entering uses xs (λ b. Contains order b) (Leave a ∷ tasks)
            (λ b u. inr (listed b u), waits_more uses tasks (λ x. Contains order x ⊎ (a ≡ x)) (λ x. (Contains order x ⊎ Contains xs x) ⊎ (a ≡ x)) (λ x. either inl) s.waits);
        led = led_entering uses xs a tasks used s.led;
        tasks_within = λ x h. elim (Contains-append_cases xs (a ∷ later) x (subst (λ (w : List ℕ). Contains w x) numbers h)) [
          | inl g ↦ inside a x (used x g)
          | inr g ↦ s.tasks_within x g
        ];
        order_within = s.order_within;
        all = λ x l. elim (s.all x l) [
          | inl h ↦ inl h
          | inr h ↦ inr (subst (λ (w : List ℕ). Contains w x) (sym numbers) (Contains-append_right xs (a ∷ later) x h))
        ];
      }

-- with no task left, the order is whole
pub whole : (uses : Table) (marks : List Mark) (order : List ℕ) → Stands uses marks order [] → IsOrder uses order
whole uses marks order s = record {
  all = λ a. (λ l. elim (s.all a l) [ inl h ↦ h | inr h ↦ absurd (none_in a h) ], s.order_within a);
  once = s.once;
  used_before = λ a b before after e u. elim (closed_cut uses order before after (λ _. ⊥) a b s.closed e u) [ inl h ↦ absurd h | inr h ↦ h ];
}

-- with no task left, the order is whole
pub ended : (uses : Table) (marks : List Mark) (order : List ℕ) (tasks : List Task) → length tasks ≡ 0 → Stands uses marks order (reverse tasks) → IsOrder uses order
ended uses marks order tasks none s = whole uses marks order (subst (λ (w : List Task). Stands uses marks order (reverse w)) (nil_of tasks none) s)

pub task_within : (uses : Table) (marks : List Mark) (order : List ℕ) (task : Task) (tasks : List Task) → Stands uses marks order (task ∷ tasks) → number_of task < length marks
task_within uses marks order task tasks s =
    let small : number_of task < length uses = s.tasks_within (number_of task) (head_in (number_of task) (map number_of tasks)) in
    omega (arith, small, s.sizes)

module _ (uses : Table) (marks : List Mark) (order : List ℕ) (old : List Task) (a : ℕ) (used : List ℕ) (is : used ≡ used_by uses a) (tasks : List Task) (come : tasks ≡ (old ++ Leave a ∷ []) ++ map Enter used) where
  -- the next one first
  pub turned : reverse tasks ≡ map Enter (reverse used) ++ Leave a ∷ reverse old
  turned = ap reverse come ∙ reverse-append (old ++ Leave a ∷ []) (map Enter used) ∙ ap (λ (w : List Task). w ++ reverse (old ++ Leave a ∷ [])) (reverse-map Enter used)
      ∙ ap (λ (w : List Task). map Enter (reverse used) ++ w) (reverse-push old (Leave a))

  pub entered : Stands uses marks order (Enter a ∷ reverse old) → get_or marks a New ≡ New → IsWithin uses → (opened : List Mark) (kept : List ℕ) → opened ≡ set marks a Open → kept ≡ order
      → Stands uses opened kept (reverse tasks)
  entered s e inside opened kept f g =
      let used_in : (b : ℕ) → Contains (reverse used) b → Uses uses a b = λ (b : ℕ) (h : Contains (reverse used) b). subst (λ (w : List ℕ). Contains w b) is (reversed_in used b h) in
      let in_used : (b : ℕ) → Uses uses a b → Contains (reverse used) b = λ (b : ℕ) (h : Uses uses a b). in_reversed used b (subst (λ (w : List ℕ). Contains w b) (sym is) h) in
      let there = enters uses marks order (reverse old) a s e inside (reverse used) used_in in_used in
      subst (λ (w : List Mark). Stands uses w kept (reverse tasks)) (sym f)
      (subst (λ (w : List ℕ). Stands uses (set marks a Open) w (reverse tasks)) (sym g)
      (subst (λ (w : List Task). Stands uses (set marks a Open) order w) (sym turned) there))

  pub enter_falls : length marks ≡ length uses → a < length marks → get_or marks a New ≡ New → (opened : List Mark) → opened ≡ set marks a Open → left_to_take uses opened tasks ≤ left_to_take uses marks old
  enter_falls sizes small e opened f =
      let falls = weight_falls is_new marks uses a Open New (ap is_new e) refl small sizes in
      let here : left_to_take uses (set marks a Open) tasks ≤ left_to_take uses marks old =
      omega (arith, falls, ap length come, ap length is, length-append (old ++ Leave a ∷ []) (map Enter used), length-append old (Leave a ∷ []), length-map used Enter) in
      subst (λ (w : List Mark). left_to_take uses w tasks ≤ left_to_take uses marks old) (sym f) here

module _ (uses : Table) (marks : List Mark) (order : List ℕ) (old : List Task) (a : ℕ) (left : List Mark) (longer : List ℕ) (tasks : List Task)
    (f : left ≡ set marks a Done) (g : longer ≡ order ++ a ∷ []) (h : tasks ≡ old) where
  pub was_left : Stands uses marks order (Leave a ∷ reverse old) → Stands uses left longer (reverse tasks)
  was_left s =
      subst (λ (w : List Mark). Stands uses w longer (reverse tasks)) (sym f)
      (subst (λ (w : List ℕ). Stands uses (set marks a Done) w (reverse tasks)) (sym g)
      (subst (λ (w : List Task). Stands uses (set marks a Done) (order ++ a ∷ []) (reverse w)) (sym h) (leaves uses marks order (reverse old) a s)))

  pub leave_falls : left_to_take uses left tasks ≤ left_to_take uses marks old
  leave_falls =
      let same : left_to_take uses left tasks ≡ left_to_take uses (set marks a Done) old = ap (λ (w : List Mark). left_to_take uses w tasks) f ∙ ap (λ (w : List Task). left_to_take uses (set marks a Done) w) h in
      omega (arith, same, weight_never_rises is_new marks uses a Done refl)

-- the tasks at first
numbers_of_first : (xs : List ℕ) → map number_of (map Enter xs) ≡ xs
numbers_of_first [] = refl
numbers_of_first (x ∷ xs) = ap (λ (w : List ℕ). x ∷ w) (numbers_of_first xs)

none_open : (xs : List ℕ) → open_in (map Enter xs) ≡ []
none_open [] = refl
none_open (x ∷ xs) = none_open xs

first_waits : (uses : Table) (P : ℕ → Type 0) (xs : List ℕ) → Waits uses P (map Enter xs)
first_waits uses P [] = tt
first_waits uses P (x ∷ xs) = first_waits uses (λ b. P b ⊎ (x ≡ b)) xs

first_led : (uses : Table) (xs : List ℕ) → Led uses (map Enter xs)
first_led uses [] = tt
first_led uses (x ∷ xs) = (λ a h. absurd (none_in a (subst (λ (w : List ℕ). Contains w a) (none_open xs) h)), first_led uses xs)

all_new : (n a : ℕ) → get_or (replicate n New) a New ≡ New
all_new n a = elim (within_or_past a n) [
  | inl l ↦ get_or-replicate n a New New l
  | inr p ↦ get_or_past (replicate n New) a New (omega (arith, p, length-replicate n New))
]

at_first : (uses : Table) (n : ℕ) → n ≡ length uses → Stands uses (replicate n New) [] (map Enter (range_with_len 0 n))
at_first uses n e =
    let xs = range_with_len 0 n in
    record {
      sizes = length-replicate n New ∙ e;
      told = λ a. subst (λ (m : Mark). Tells [] (open_in (map Enter xs)) a m) (sym (all_new n a)) (none_in a, λ h. none_in a (subst (λ (w : List ℕ). Contains w a) (none_open xs) h));
      path = subst AreOnce (sym (none_open xs)) tt;
      once = λ i j d l m. absurd (omega (arith, m));
      closed = tt;
      waits = first_waits uses (λ b. Contains [] b) xs;
      led = first_led uses xs;
      tasks_within = λ a h. let l : a < n = in_below n a (subst (λ (w : List ℕ). Contains w a) (numbers_of_first xs) h) in omega (arith, l, e);
      order_within = λ a h. absurd (none_in a h);
      all = λ a l. inr (subst (λ (w : List ℕ). Contains w a) (sym (numbers_of_first xs)) (below_in n a (omega (arith, l, e))));
    }

pub begun : (uses : Table) (n d : ℕ) (marks : List Mark) (order : List ℕ) (tasks : List Task) → n ≡ length uses → d ≤ 0 → marks ≡ replicate n New → order ≡ []
    → reverse tasks ≡ map Enter (range_with_len d (n - d)) → Stands uses marks order (reverse tasks)
begun uses n d marks order tasks e z f g h =
    let first : d ≡ 0 = omega (arith, z) in
    let whole_range : n - d ≡ n = omega (arith, z) in
    subst (λ (w : List Mark). Stands uses w order (reverse tasks)) (sym f)
    (subst (λ (w : List ℕ). Stands uses (replicate n New) w (reverse tasks)) (sym g)
    (subst (λ (w : List Task). Stands uses (replicate n New) [] w) (sym (h ∙ ap (λ w. map Enter (range_with_len w (n - d))) first ∙ ap (λ w. map Enter (range_with_len 0 w)) whole_range)) (at_first uses n e)))

-- one definition more is to be entered, before the others
pub one_before : (d n : ℕ) → 0 < d → d ≤ n → (old new : List Task) → reverse old ≡ map Enter (range_with_len d (n - d)) → new ≡ old ++ Enter (d - 1) ∷ []
    → reverse new ≡ map Enter (range_with_len (d - 1) (n - (d - 1)))
one_before d n p q old new e f =
    let more : n - (d - 1) ≡ suc (n - d) = omega (arith, p, q) in
    let next : (d - 1) + 1 ≡ d = omega (arith, p) in
    let longer : range_with_len (d - 1) (n - (d - 1)) ≡ (d - 1) ∷ range_with_len d (n - d) =
    ap (λ (w : ℕ). range_with_len (d - 1) w) more ∙ ap (λ (w : ℕ). (d - 1) ∷ range_with_len w (n - d)) next in
    ap reverse f ∙ reverse-push old (Enter (d - 1)) ∙ ap (λ (w : List Task). Enter (d - 1) ∷ w) e ∙ sym (ap (map Enter) longer)
