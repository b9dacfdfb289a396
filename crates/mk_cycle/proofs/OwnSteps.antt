-- What a step of the turn's holder keeps, of whatever kind.
use Rattle.std.proofs.lemmas.List.Sums.{sum_by-append}
use Rattle.mk_words.proofs.Below.Laws.Vocabulary.{Caller, Config, Event, Holding, Holds, Host, IsHistory, List, Marker}
use Rattle.mk_words.proofs.Below.Laws.Vocabulary.{Moment, None, Option, Progress, Protocol, RunPages, Seat, Some}
use Rattle.mk_words.proofs.Below.Laws.Vocabulary.{Steady, Step, World, ℕ, answer_decided, ap, append-nil, arith}
use Rattle.mk_words.proofs.Below.Laws.Vocabulary.{at_rest, calls, false, flight_of, get_or-set_same, is_end}
use Rattle.mk_words.proofs.Below.Laws.Vocabulary.{is_heap_store, is_run_gone, left, length, progress, refl, still}
use Rattle.mk_words.proofs.Below.Laws.Vocabulary.{subst, sym, true, true≢false, world_behind, [], ◌++◌, ◌<◌, ◌∙◌, ◌∷◌}
use Rattle.mk_words.proofs.{Below.Laws.Vocabulary.◌≡◌, Below.Laws.RunWords.gone_behind}
use Rattle.mk_cycle.proofs.Vocabulary.{Acts, CountsAreLeft, Has, IsGone, KeepsCall, PassState, call_of, event_of}
use Rattle.mk_cycle.proofs.Vocabulary.{holder_finds, holding_behind, made, now_of, stands, steady_of, world_at}
use Rattle.mk_cycle.proofs.Vocabulary.{world_of}
use Rattle.mk_core.{proofs.Histories.calls_more, specs.Effects.moment_behind}
use Rattle.mk_words.proofs.Made.{Made}

-- what a holding shows of what was done
abbrev pub done_in : Holding → Holding
done_in h = record h { hand = None }

-- A step that goes on with the call as it was.
pub flight_behind : (c : Config) (m : Moment) (seat : Seat) (s : Step) → Protocol c m → Holds c m seat
    → ((n : ℕ) → progress c m (flight_of m seat) n s ≡ still (flight_of m seat))
    → flight_of (moment_behind c m (record { seat = seat; step = s })) seat ≡ flight_of m seat
flight_behind c m (Caller k) s p h st =
    let lt : k < length m.seats.flights = subst (λ (i : ℕ). k < i) (sym p.callers) h.0 in
    get_or-set_same m.seats.flights k _ at_rest lt ∙ ap (λ (x : Progress). x.flight) (st _)
flight_behind c m (Marker k) s p h st = refl
flight_behind c m Host s p h st = refl

-- It decides no call.
pub undecided : (c : Config) (m : Moment) (seat : Seat) (s : Step)
    → ((n : ℕ) → progress c m (flight_of m seat) n s ≡ still (flight_of m seat))
    → answer_decided c m (record { seat = seat; step = s }) ≡ None
undecided c m x2 s st = grind arith

pub no_more_calls : (c : Config) (es : List Event) (e : Event) → answer_decided c (left c es).now e ≡ None
    → calls c (es ++ e ∷ []) ≡ calls c es
no_more_calls c es e none = grind (arith, calls_more, append-nil)

module _ (p : PassState) (s : Step) (q : PassState) (a : Acts p s q) (own : Has p.seats p.seat)
    (holds : Holds p.table.config (now_of p) p.seat) (history : IsHistory q.table.config q.seen) where
  abbrev pub c : Config
  c = p.table.config

  abbrev pub m : Moment
  m = (world_at a.makes).now

  pub d : Made p s q a.makes
  d = made p s q a.makes

  pub same_pass : q ≡ record p { seen = q.seen }
  same_pass = a.makes.is ∙ ap (λ (r : PassState). record p { seen = r.seen }) (sym a.makes.is)

  pub same_call : ((n : ℕ) → progress c m (flight_of m p.seat) n s ≡ still (flight_of m p.seat)) → call_of q ≡ call_of p
  same_call st = grind (arith, flight_behind)

  pub still_gone : ((n : ℕ) → (holding_behind c m p.seat (flight_of m p.seat) n s m.seats.holding).freed
      ≡ m.seats.holding.freed) → is_heap_store s ≡ false → IsGone p → IsGone q
  still_gone k none gone =
      let at = holder_finds c p.seat p.seen a.makes.others d.history d.others holds in
      let here : is_run_gone m.words m.seats.holding.freed ≡ true = grind arith in
      ap (λ (w : World). is_run_gone w.now.words w.now.seats.holding.freed) a.world ∙ ap (λ (x : Option RunPages).
      is_run_gone (moment_behind c m (event_of p s)).words x) (k _) ∙ (gone_on m.seats.holding.freed refl here)
    where
      gone_on : (freed : Option RunPages) → m.seats.holding.freed ≡ freed → is_run_gone m.words m.seats.holding.freed
          ≡ true → is_run_gone (moment_behind c m (event_of p s)).words freed ≡ true
      gone_on None is g = refl
      gone_on (Some r) is g =
          let known = stands c (p.seen ++ a.makes.others) d.history in
          gone_behind c (world_at a.makes) known.known known.all.order.laid r is g p.seat s d.meets
          (λ st. absurd (true≢false (sym st ∙ none)))

  pub keeps_call : ((n : ℕ) → progress c m (flight_of m p.seat) n s ≡ still (flight_of m p.seat))
      → ((n : ℕ) → done_in (holding_behind c m p.seat (flight_of m p.seat) n s m.seats.holding)
      ≡ done_in m.seats.holding) → is_heap_store s ≡ false → KeepsCall p q
  keeps_call st k none = grind (arith, same_pass, same_call, still_gone, done_in)

  seen_is : q.seen ≡ (p.seen ++ a.makes.others) ++ event_of p s ∷ []
  seen_is = ap (λ (r : PassState). r.seen) a.makes.is

  pub keeps_counts : ((n : ℕ) → progress c m (flight_of m p.seat) n s ≡ still (flight_of m p.seat)) → is_end s ≡ false
      → CountsAreLeft c p.seen q.seen
  keeps_counts st none = grind (arith, seen_is, no_more_calls, undecided, sum_by-append)

  pub steady_behind : (view : Steady → Steady)
      → ((w : World) → view (steady_of (world_behind c w (event_of p s))) ≡ view (steady_of w))
      → view (steady_of (world_of q)) ≡ view (steady_of (world_of p))
  steady_behind view same = grind arith
