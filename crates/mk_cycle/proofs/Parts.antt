-- Tracing in parts: nothing, one part after another, and one step.
use Rattle.std.proofs.{Common.count_by, lemmas.List.{append_cancel_left, Sums.sum_by-append}}
use Rattle.mk_words.proofs.Below.Laws.Vocabulary.{Bool, Config, Event, List, Moment, Seat, Step, World, ℕ, and_from}
use Rattle.mk_words.proofs.Below.Laws.Vocabulary.{and_parts, ap, append-nil, append_assoc, arith, cond, false, found}
use Rattle.mk_words.proofs.Below.Laws.Vocabulary.{if◌then◌else◌, left_in_parts, refl, subst, sym, true, true≢false}
use Rattle.mk_words.proofs.Below.Laws.Vocabulary.{world_behind, [], ◌++◌, ◌+◌, ◌∙◌, ◌∷◌, ◌≡◌}
use Rattle.mk_words.proofs.Doing.{does_nothing, does_step, does_then, done_in_parts, none_own}
use Rattle.mk_cycle.specs.Tracing.{Counted, OwnStepsKeep, Traces, untouched_of}
use Rattle.mk_words.specs.Steps.{Does, are_of, count_done, done_in}
use Rattle.mk_core.specs.{History.{AreOfOthers, Finding, is_same_seat, own_from}, Frames.CountsAreLeft}
use Rattle.mk_core.specs.History.{left_from}
use Rattle.mk_words.proofs.{Made.own_before, Seats.{not_both, same_seat, same_self}}
use Rattle.mk_words.specs.{States.{PassState, event_of, world_of, Has}, Steps.Makes, TurnSteps.world_at}

-- the rule, over a list in two parts
pub keep_in_parts : (rule : Config → Moment → Step → Type 0) (c : Config) (s : Seat) (w : World) (xs ys : List Event)
    → OwnStepsKeep rule c s w xs → OwnStepsKeep rule c s (left_from c w xs) ys → OwnStepsKeep rule c s w (xs ++ ys)
unfolding OwnStepsKeep left_from
keep_in_parts rule c s w [] ys one two = two
keep_in_parts rule c s w (e ∷ es) ys one two = (one.0, keep_in_parts rule c s (world_behind c w e) es ys one.1 two)

-- events of others keep to it, since none is the seat's own
pub others_keep : (rule : Config → Moment → Step → Type 0) (c : Config) (s : Seat) (seats : List Seat) (w : World)
    (xs : List Event) → Has seats s → AreOfOthers seats xs → OwnStepsKeep rule c s w xs
unfolding OwnStepsKeep AreOfOthers
others_keep rule c s seats w [] has others = tt
others_keep rule c s seats w (e ∷ es) has others = (
  λ same. absurd (not_both seats e.seat others.0 (subst (λ (x : Seat). Has seats x) (same_seat s e.seat same) has)),
  others_keep rule c s seats (world_behind c w e) es has others.1,
)

pub one_keeps : (rule : Config → Moment → Step → Type 0) (c : Config) (s : Seat) (w : World) (e : Event)
    → rule c w.now e.step → OwnStepsKeep rule c s w (e ∷ [])
unfolding OwnStepsKeep
one_keeps rule c s w e is = (λ same. is, tt)

-- an own step, as it is counted

pub one_own : (c : Config) (s : Seat) (w : World) (e : Event) → is_same_seat s e.seat ≡ true
    → own_from c s w (e ∷ []) ≡ record { event = e; found = found c w.now e } ∷ []
unfolding own_from
one_own c s w e same = ap (λ (b : Bool). if b then record { event = e; found = found c w.now e } ∷ [] else []) same

-- What is done from one pass to another is one list of events, whichever kinds are allowed.
pub more_is : {kinds : Step → Bool} {p q : PassState} (d : Does kinds p q) (es : List Event)
    → q ≡ record p { seen = p.seen ++ es } → d.more ≡ es
more_is {p} d es is = append_cancel_left p.seen d.more es (ap (λ (x : PassState). x.seen) (sym d.is ∙ is))

pub more_of_nothing : {kinds : Step → Bool} {p : PassState} (d : Does kinds p p) → d.more ≡ []
more_of_nothing {p} d = more_is d [] (sym (ap (λ (es : List Event). record p { seen = es }) (append-nil p.seen)))

pub more_in_parts : {kinds more both : Step → Bool} {p q r : PassState} (d : Does kinds p q) (e : Does more q r)
    (f : Does both p r) → f.more ≡ d.more ++ e.more
more_in_parts {p} d e f = more_is f (d.more ++ e.more) (cc (e.is, d.is, append_assoc p.seen d.more e.more))

pub more_of_step : {kinds : Step → Bool} {p q : PassState} {s : Step} (m : Makes p s q) (d : Does kinds p q)
    → d.more ≡ m.others ++ event_of p s ∷ []
more_of_step {p} {s} m d =
    more_is d (m.others ++ event_of p s ∷ []) (m.is
    ∙ ap (λ (es : List Event). record p { seen = es }) (append_assoc p.seen m.others (event_of p s ∷ [])))

-- Nothing is traced.

nothing_keeps : (rule : Config → Moment → Step → Type 0) (c : Config) (s : Seat) (w : World)
    → OwnStepsKeep rule c s w []
unfolding OwnStepsKeep
nothing_keeps rule c s w = tt

pub traces_nothing : (kinds : Step → Bool) (rule : Config → Moment → Step → Type 0) (p : PassState)
    → Traces kinds rule p p
traces_nothing kinds rule p =
    let d = does_nothing kinds p in
    record {
      does = d;
      keeps = rw (more_of_nothing d) (nothing_keeps rule p.table.config p.seat (world_of p));
      untouched = refl;
      counts = record { ends = refl; fulls = refl };
    }

-- One part is traced after another, and what is done of a kind adds up.

counts_then : {c : Config} {es fs gs : List Event} → CountsAreLeft c es fs → CountsAreLeft c fs gs
    → CountsAreLeft c es gs
counts_then one two = record { ends = two.ends ∙ one.ends; fulls = two.fulls ∙ one.fulls }

count_in_parts : (test : Finding → Bool) (xs ys : List Finding)
    → count_by test (xs ++ ys) ≡ count_by test xs + count_by test ys
count_in_parts test xs ys = sum_by-append (λ (x : Finding). cond (test x) 1 0) xs ys

pub counted_then : (kinds : Step → Bool) (rule : Config → Moment → Step → Type 0) (kind : Step → Bool)
    (p q r : PassState) (n m : ℕ) → Counted kinds rule kind p q n → Counted kinds rule kind q r m
    → Counted kinds rule kind p r (n + m)
counted_then kinds rule kind p q r n m one two =
    let t = one.traces in
    let d = t.does in
    let next = subst (λ (x : PassState). Counted kinds rule kind x r m) d.is two in
    let e = next.traces.does in
    let f = does_then kinds p q r d two.traces.does in
    let is : f.more ≡ d.more ++ e.more = more_is f (d.more ++ e.more) (e.is
    ∙ ap (λ (es : List Event). record p { seen = es }) (append_assoc p.seen d.more e.more)) in
    let test : Finding → Bool = λ (x : Finding). kind x.event.step in
    record {
      traces = record {
        does = f;
        keeps =
            rw is (keep_in_parts rule _ _ _ d.more e.more t.keeps (subst (λ (w : World). OwnStepsKeep rule
            p.table.config p.seat w e.more) (left_in_parts _ _ d.more) next.traces.keeps));
        untouched = two.traces.untouched ∙ t.untouched;
        counts = counts_then (subst (λ (x : PassState). CountsAreLeft p.table.config p.seen x.seen) d.is t.counts)
            next.traces.counts;
      };
      count =
          ap (λ (es : List Event). count_by test (done_in p es)) is
          ∙ ap (λ (zs : List Finding). count_by test zs) (done_in_parts p d.more e.more)
          ∙ count_in_parts test (done_in p d.more) (done_in (record p { seen = p.seen ++ d.more }) e.more)
          ∙ ap (λ k. k + count_by test (done_in (record p { seen = p.seen ++ d.more }) e.more)) one.count
          ∙ ap (λ k. n + k) next.count;
    }

pub traces_then : (kinds : Step → Bool) (rule : Config → Moment → Step → Type 0) (p q r : PassState)
    → Traces kinds rule p q → Traces kinds rule q r → Traces kinds rule p r
traces_then kinds rule p q r t u =
    (counted_then kinds rule kinds p q r (count_done kinds t.does) (count_done kinds u.does)
    (record { traces = t; count = refl }) (record { traces = u; count = refl })).traces

-- More kinds may be allowed.

wider_kinds : (kinds more : Step → Bool) (xs : List Finding) → ((s : Step) → kinds s ≡ true → more s ≡ true)
    → are_of kinds xs ≡ true → are_of more xs ≡ true
wider_kinds kinds more [] wider h = refl
wider_kinds kinds more (x ∷ xs) wider h =
    let parts = and_parts (kinds x.event.step) (are_of kinds xs) h in
    and_from (more x.event.step) (are_of more xs) (wider x.event.step parts.0) (wider_kinds kinds more xs wider parts.1)

none_counted : (kinds kind : Step → Bool) (xs : List Finding) → ((s : Step) → kinds s ≡ true → kind s ≡ false)
    → are_of kinds xs ≡ true → count_by (λ (x : Finding). kind x.event.step) xs ≡ 0
none_counted kinds kind [] none h = refl
none_counted kinds kind (x ∷ xs) none h =
    let parts = and_parts (kinds x.event.step) (are_of kinds xs) h in
    (grind (arith, count_in_parts)) ∙ none_counted kinds kind xs none parts.1

abbrev wider_traces : (kinds more : Step → Bool) (rule : Config → Moment → Step → Type 0) (p q : PassState)
    → ((s : Step) → kinds s ≡ true → more s ≡ true) → Traces kinds rule p q → Traces more rule p q
wider_traces kinds more rule p q wider t =
    let d = t.does in
    record {
      does = record {
        more = d.more;
        is = d.is;
        own_or_others = d.own_or_others;
        of_kinds = wider_kinds kinds more (done_in p d.more) wider d.of_kinds;
      };
      keeps = t.keeps;
      untouched = t.untouched;
      counts = t.counts;
    }

pub traces_wider : {kinds : Step → Bool} (more kind : Step → Bool) {rule : Config → Moment → Step → Type 0}
    {p q : PassState}
    → ((s : Step) → kinds s ≡ true → more s ≡ true) → ((s : Step) → kinds s ≡ true → kind s ≡ false)
    → Traces kinds rule p q → Counted more rule kind p q 0
traces_wider {kinds} more kind {rule = rule} {p = p} {q = q} wider none t = record {
  traces = wider_traces kinds more rule p q wider t;
  count = none_counted kinds kind (done_in p t.does.more) none t.does.of_kinds;
}

pub counted_wider : (kinds more : Step → Bool) (rule : Config → Moment → Step → Type 0) (kind : Step → Bool)
    (p q : PassState) (n : ℕ) → ((s : Step) → kinds s ≡ true → more s ≡ true)
    → Counted kinds rule kind p q n → Counted more rule kind p q n
counted_wider kinds more rule kind p q n wider one =
    record { traces = wider_traces kinds more rule p q wider one.traces; count = one.count }

-- Another rule may be kept to: one that follows from the first, or that all steps of the allowed kinds keep to.

pub keep_alike : (rule other : Config → Moment → Step → Type 0) (c : Config) (s : Seat) (w : World) (es : List Event)
    → ((m : Moment) (x : Step) → rule c m x → other c m x) → OwnStepsKeep rule c s w es → OwnStepsKeep other c s w es
unfolding OwnStepsKeep
keep_alike rule other c s w [] follows keeps = tt
keep_alike rule other c s w (e ∷ es) follows keeps = (
  λ same. follows w.now e.step (keeps.0 same),
  keep_alike rule other c s (world_behind c w e) es follows keeps.1,
)

pub kinds_keep : (kinds : Step → Bool) (rule : Config → Moment → Step → Type 0) (c : Config) (s : Seat) (w : World)
    (es : List Event) → ((m : Moment) (x : Step) → kinds x ≡ true → rule c m x)
    → are_of kinds (own_from c s w es) ≡ true → OwnStepsKeep rule c s w es
unfolding OwnStepsKeep own_from
kinds_keep kinds rule c s w [] follows of_kinds = tt
kinds_keep kinds rule c s w (e ∷ es) follows of_kinds =
    let next : World = world_behind c w e in
    let first : Finding = record { event = e; found = found c w.now e } in (
      here (is_same_seat s e.seat) refl of_kinds,
      kinds_keep kinds rule c s next es follows (behind (is_same_seat s e.seat) of_kinds),
    )
  where
    here : (b : Bool) → is_same_seat s e.seat ≡ b
        → are_of kinds (if b then record { event = e; found = found c w.now e } ∷ own_from c s (world_behind c w e) es
        else own_from c s (world_behind c w e) es) ≡ true → is_same_seat s e.seat ≡ true → rule c w.now e.step
    here true is h same = grind (arith, and_parts)
    here false is h same = absurd (true≢false (sym same ∙ is))

    behind : (b : Bool) → are_of kinds (if b then record { event = e; found = found c w.now e } ∷ own_from c s
        (world_behind c w e) es else own_from c s (world_behind c w e) es) ≡ true
        → are_of kinds (own_from c s (world_behind c w e) es) ≡ true
    behind true h = (and_parts (kinds e.step) (are_of kinds (own_from c s (world_behind c w e) es)) h).1
    behind false h = h

pub traces_alike : (kinds : Step → Bool) (rule other : Config → Moment → Step → Type 0) (p q : PassState)
    → ((m : Moment) (x : Step) → rule p.table.config m x → other p.table.config m x)
    → Traces kinds rule p q → Traces kinds other p q
traces_alike kinds rule other p q follows t = record {
  does = t.does;
  keeps = keep_alike rule other p.table.config p.seat (world_of p) t.does.more follows t.keeps;
  untouched = t.untouched;
  counts = t.counts;
}

pub counted_by_kinds : (kinds : Step → Bool) (rule other : Config → Moment → Step → Type 0) (kind : Step → Bool)
    (p q : PassState) (n : ℕ) → ((m : Moment) (x : Step) → kinds x ≡ true → other p.table.config m x)
    → Counted kinds rule kind p q n → Counted kinds other kind p q n
counted_by_kinds kinds rule other kind p q n follows one =
    let d = one.traces.does in
    record {
      traces = record {
        does = d;
        keeps = kinds_keep kinds other p.table.config p.seat (world_of p) d.more follows d.of_kinds;
        untouched = one.traces.untouched;
        counts = one.traces.counts;
      };
      count = one.count;
    }

-- One step is made.
module _ {p q : PassState} {s : Step} (m : Makes p s q) where
  pub done_by_one : done_in p (m.others ++ event_of p s ∷ [])
      ≡ record { event = event_of p s; found = found p.table.config (world_at m).now (event_of p s) } ∷ []
  done_by_one = grind (arith, done_in_parts, none_own, one_own, same_self, own_before m)

  pub traces_step : (kinds : Step → Bool) (rule : Config → Moment → Step → Type 0) (kind : Step → Bool) (n : ℕ)
      → kinds s ≡ true → rule p.table.config (world_at m).now s
      → untouched_of (world_of q) ≡ untouched_of (world_of p) → CountsAreLeft p.table.config p.seen q.seen
      → 0 + cond (kind s) 1 0 ≡ n → Counted kinds rule kind p q n
  traces_step kinds rule kind n allowed ruled untouched counts number =
      let e : Event = event_of p s in
      let has = own_before m in
      let d = does_step kinds p q s m allowed in
      let is = more_of_step m d in
      record {
        traces = record {
          does = d;
          keeps =
              rw is (keep_in_parts rule p.table.config p.seat (world_of p) m.others (e ∷ [])
              (others_keep rule p.table.config p.seat p.seats (world_of p) m.others has m.of_others)
              (one_keeps rule p.table.config p.seat (left_from p.table.config (world_of p) m.others) e (subst
              (λ (w : World). rule p.table.config w.now s) (left_in_parts p.table.config p.seen m.others) ruled)));
          untouched = untouched;
          counts = counts;
        };
        count = ap (λ (es : List Event). count_by (λ (x : Finding). kind x.event.step) (done_in p es)) is
            ∙ ap (λ (zs : List Finding). count_by (λ (x : Finding). kind x.event.step) zs) done_by_one ∙ number;
      }
