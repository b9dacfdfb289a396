-- The host looks at the tally of held words: it reports what is held, and nothing is granted or let go meanwhile.
use Rattle.mk_trace.proofs.Vocabulary.{AreOfOthers, Config, Event, Has, HasAll, IsHistory, Op, PassState, Step, Word}
use Rattle.mk_trace.proofs.Vocabulary.{event_of, has_step, lacks_append, lacks_one, left, seen_made}
use Rattle.mk_trace.proofs.OwnPieces.{AreMine, are_mine, mine_parts, none_of_others, others_lack, waiting_lacks}
use Rattle.mk_heap.proofs.Below.Laws.Vocabulary.{Bool, List, None, Option, ℕ, ap, arith, earlier_part_is_history}
use Rattle.mk_heap.proofs.Below.Laws.Vocabulary.{enabled_in_parts}
use Rattle.mk_heap.proofs.Below.Laws.Vocabulary.{false, refl, subst, sym, [], ◌++◌, ◌∙◌, ◌∷◌, ◌≡◌}
use Rattle.mk_heap.proofs.Below.Laws.{Tallies.{exact_more, tallies_tell}, TallySteps.others_count_nothing}
use Rattle.mk_core.specs.Counts.{TalliesAreExact}
use Rattle.mk_heap.proofs.{Below.Objects.Parts.seen_then, MovedHosts.{MovesOn, moves_more, turn_moves}}
use Rattle.mk_heap.proofs.Below.Words.{Made.made, Seats.others_nobody}
use Rattle.mk_heap.specs.{Ending.TellsWord, Below.Words.TurnSteps.TakesTurn}

-- Where the turn is taken, the tallies are what they count.
exact_taken : {p q : PassState} (t : TakesTurn p None q) → Has t.waited.seats t.waited.seat
    → IsHistory q.table.config q.seen → TalliesAreExact q.table.config q.seen
exact_taken {q} t own history =
    let w : PassState = t.waited in
    let c : Config = w.table.config in
    let m = t.takes.makes in
    let x = made w (Step.Take None) q m in
    let es : List Event = w.seen ++ m.others in
    let free : (left c es).now.words.turn ≡ 0 = sym t.takes.finds in
    let told = tallies_tell c es x.history free in
    subst (λ (r : PassState). TalliesAreExact r.table.config r.seen) (sym m.is) (exact_more c es _ (others_count_nothing
    c _ _ x.known x.meets free) told.0)

-- a kind that isn't what the host does
pub record IsApart (kind : Step → Bool) : Type 0 where
  pub take : (o : Option Op) → kind (Step.Take o) ≡ false
  pub look : (x : Word) → kind (Step.Look x) ≡ false
  pub give : kind Step.Give ≡ false

-- A pass of the same seats goes on.
same_pass : (p w r : PassState) (l : List Event) → w ≡ record p { seen = w.seen } → r ≡ record w { seen = l }
    → r ≡ record p { seen = r.seen }
same_pass p w r l same is =
    is ∙ ap (λ (x : PassState). record x { seen = l }) same
    ∙ ap (λ (k : List Event). record p { seen = k }) (sym (ap (λ (x : PassState). x.seen) is))

-- Between calls the host looked at the word x, and found n.
pub record Looked (p : PassState) (x : Word) (n : ℕ) (q : PassState) : Type 0 where
  pub tells : TellsWord p x n q
  pub own : Has p.seats p.seat
  pub all : HasAll p.table.config p.seats
  pub history : IsHistory p.table.config q.seen

module _ {p q : PassState} {x : Word} {n : ℕ} (l : Looked p x n q) where
  abbrev c : Config
  c = p.table.config

  abbrev h : TellsWord p x n q
  h = l.tells

  abbrev waited : PassState
  waited = h.takes.waited

  abbrev pub taken : PassState
  taken = h.taken

  waited_same : waited ≡ record p { seen = waited.seen }
  waited_same = same_pass p p waited (p.seen ++ h.takes.waits.more) refl h.takes.waits.is

  pub taken_same : taken ≡ record p { seen = taken.seen }
  taken_same = same_pass p waited taken _ waited_same h.takes.takes.makes.is

  pub looked_same : h.looked ≡ record p { seen = h.looked.seen }
  looked_same = same_pass p taken h.looked _ taken_same h.looks.makes.is

  abbrev taking : List Event
  taking = h.takes.takes.makes.others ++ event_of waited (Step.Take None) ∷ []

  abbrev pub looking : List Event
  looking = h.looks.makes.others ++ event_of taken (Step.Look x) ∷ []

  abbrev pub giving : List Event
  giving = h.gives.others ++ event_of h.looked Step.Give ∷ []

  abbrev pub first : List Event
  first = h.takes.waits.more ++ taking

  abbrev pub behind : List Event
  behind = looking ++ giving

  pub taken_seen : taken.seen ≡ p.seen ++ first
  taken_seen =
      seen_then p.seen waited.seen taken.seen h.takes.waits.more taking
      (ap (λ (r : PassState). r.seen) h.takes.waits.is) (seen_made waited taken (Step.Take None) h.takes.takes.makes)

  behind_seen : q.seen ≡ taken.seen ++ behind
  behind_seen =
      seen_then taken.seen h.looked.seen q.seen looking giving (seen_made taken h.looked (Step.Look x) h.looks.makes)
      (seen_made h.looked q Step.Give h.gives)

  pub seen_is : q.seen ≡ p.seen ++ (first ++ behind)
  seen_is = seen_then p.seen taken.seen q.seen first behind taken_seen behind_seen

  pub mine : AreMine c [] first × AreMine c [] behind
  mine =
      mine_parts c [] first behind (are_mine c (left c p.seen) [] (first ++ behind) ((enabled_in_parts c p.seen
      (first ++ behind)).0 (subst (IsHistory c) seen_is l.history).enabled).1 (others_nobody (first ++ behind)))

  pub of_pass : (r : PassState) (es : List Event) → r ≡ record p { seen = r.seen } → AreOfOthers r.seats es
      → AreOfOthers p.seats es
  of_pass r es same others = subst (λ (y : PassState). AreOfOthers y.seats es) same others

  others_none : (es : List Event) (e : Event) (kind : Step → Bool) → AreMine c [] (es ++ e ∷ [])
      → AreOfOthers p.seats es → kind e.step ≡ false → has_step kind (es ++ e ∷ []) ≡ false
  others_none es e kind whole others none =
      lacks_append kind es (e ∷ [])
      (others_lack kind c [] p.seats es l.all (mine_parts c [] es (e ∷ []) whole).0 others) (lacks_one kind e none)

  ruleset behind_lacks_facts = (mine_parts, mine, lacks_append, others_none, of_pass, taken_same, looked_same)

  pub behind_lacks : {kind : Step → Bool} → IsApart kind → has_step kind behind ≡ false
  behind_lacks apart = grind (arith, behind_lacks_facts, looking, giving, taken)

  pub first_lacks : (kind : Step → Bool) → IsApart kind → has_step kind first ≡ false
  first_lacks kind apart =
      let parts = mine_parts c [] h.takes.waits.more taking mine.0 in
      lacks_append kind h.takes.waits.more taking (waiting_lacks kind c [] p h.takes.waits.more apart.take l.all parts.0
      h.takes.waits.only) (others_none h.takes.takes.makes.others (event_of waited (Step.Take None)) kind parts.1
      (of_pass waited h.takes.takes.makes.others waited_same h.takes.takes.makes.of_others) (apart.take None))

  pub all_lack : (kind : Step → Bool) → IsApart kind → has_step kind (first ++ behind) ≡ false
  all_lack kind apart = lacks_append kind first behind (first_lacks kind apart) (behind_lacks apart)

  pub exact : TalliesAreExact c taken.seen
  exact =
      subst (λ (r : PassState). TalliesAreExact r.table.config taken.seen) taken_same
      (exact_taken h.takes (subst (λ (r : PassState). Has r.seats r.seat) (sym waited_same) l.own)
      (subst (λ (r : PassState). IsHistory r.table.config taken.seen) (sym taken_same)
      (earlier_part_is_history c taken.seen behind (subst (IsHistory c) behind_seen l.history))))

  pub looks_alone : h.looks.makes.others ≡ []
  looks_alone =
      none_of_others c [] p.seats h.looks.makes.others l.all (mine_parts c [] h.looks.makes.others
      (event_of taken (Step.Look x) ∷ []) (mine_parts c [] looking giving mine.1).0).0
      (of_pass taken h.looks.makes.others taken_same h.looks.makes.of_others)

  -- what the pass moves on by
  pub moves : MovesOn p q
  moves =
      let looked = moves_more p taken h.looked (Step.Look x) (turn_moves p taken h.takes) h.looks.makes in
      moves_more p h.looked q Step.Give looked h.gives
