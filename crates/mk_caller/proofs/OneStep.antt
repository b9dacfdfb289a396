-- One step of a call: what it adds to the list, to the calls and to the heap that never reuses storage.
use Rattle.mk_words.proofs.Below.Laws.Vocabulary.{Answer, AreOfOthers, Caller, Config, Decided, Event, Flight}
use Rattle.mk_words.proofs.Below.Laws.Vocabulary.{IsHistory, KeepsRegisters, List, NeverState, None, Op, Option}
use Rattle.mk_words.proofs.Below.Laws.Vocabulary.{Progress, Seat, Some, Stage, Step, ℕ, after_calls, answered}
use Rattle.mk_words.proofs.Below.Laws.Vocabulary.{answers_of, ap, append-nil, append_assoc, arith, asked, bases_of}
use Rattle.mk_words.proofs.Below.Laws.Vocabulary.{call_decided, caller_number, calls, entry_of, false, first_world}
use Rattle.mk_words.proofs.Below.Laws.Vocabulary.{flagged, is_under_turn, left, never_behind, refl, replies_of, subst}
use Rattle.mk_words.proofs.Below.Laws.Vocabulary.{sym, true, world_behind, [], ◌++◌, ◌<◌, ◌∙◌, ◌∷◌, ◌≡◌}
use Rattle.mk_words.proofs.Below.Laws.LastEvents.{comes_last, stands}
use Rattle.mk_words.proofs.Below.Laws.OtherCalls.{never_continues, registers_are_left}
use Rattle.mk_words.proofs.Below.Laws.{FramesLongerLists.call_on, ImagesHistories.one_event}
use Rattle.mk_words.proofs.Below.Laws.InvariantHistories.{told_to_images}
use Rattle.mk_core.{proofs.Histories.{calls_more}, specs.Conditions.{is_word_met}}
use Rattle.mk_caller.proofs.OwnSteps.{by_append, calls_by, others_add_none, own_entry, own_step}
use Rattle.mk_caller.specs.{Moves.{IsDecidedAs, IsUnderway, MakesSteps, is_past_decision}, Called.own_calls}
use Rattle.mk_caller.specs.States.{Admits, caller_of_pass, never_of}
use Rattle.mk_words.{proofs.Made.{Made, made, pass_before}, specs.{States.{PassState, call_of, event_of}, Steps.Goes}}

-- An operation that isn't a New has no flag.
pub flagged_same : (o : Op) (a : Answer) → is_under_turn o ≡ false → flagged o a ≡ o
flagged_same (Op.New d ty full) a h = cc
flagged_same _ a h = refl

pub keeps_both : (k : ℕ) (n m l : NeverState) → KeepsRegisters k n m → KeepsRegisters k m l → KeepsRegisters k n l
keeps_both k n m l f g r lt = g r lt ∙ f r lt

-- What is admitted for an operation is admitted, whatever it is answered.
pub own_seat : (p : PassState) (k : ℕ) → p.seat ≡ Caller k → p.seat ≡ Caller (caller_of_pass p)
own_seat p k is = is ∙ ap (λ j. Caller j) (sym (ap (λ (s : Seat). caller_number s) is))

module _ (p : PassState) (o : Op) (s : Step) (x : Progress) (q : PassState) (k : ℕ) (seat : p.seat ≡ Caller k)
    (g : Goes p s x q) (entered : is_under_turn o ≡ false)
    (same_op : entry_of (caller_of_pass p) (call_of p).op x.answer ≡ entry_of (caller_of_pass p) o x.answer) where
  abbrev c : Config
  c = p.table.config

  abbrev others : List Event
  others = g.makes.others

  abbrev e : Event
  e = event_of p s

  abbrev es : List Event
  es = p.seen ++ others

  d : Made p s q g.makes
  d = made p s q g.makes

  of_others : AreOfOthers (Caller (caller_of_pass p) ∷ []) others
  of_others = subst (λ (t : Seat). AreOfOthers (t ∷ []) others) (own_seat p k seat) d.others

  decides : call_decided c (left c es).now e ≡ entry_of (caller_of_pass p) o x.answer
  decides = cc (d.frame.own.flight, g.answer, same_op)

  joint : p.seen ++ (others ++ e ∷ []) ≡ es ++ e ∷ []
  joint = sym (append_assoc p.seen others (e ∷ []))

  never : never_behind c (p.seen ++ (others ++ e ∷ [])) ≡ after_calls (never_behind c es)
      (asked (entry_of (caller_of_pass p) o x.answer))
  never = cc (joint, (comes_last c es e d.whole).never, decides)

  before : KeepsRegisters (caller_of_pass p) (never_of p) (never_behind c es)
  before = registers_are_left c p.seen others (caller_of_pass p) d.history of_others

  right : answered (entry_of (caller_of_pass p) o x.answer) ≡ answers_of (bases_of (left c (es ++ e ∷ [])).allocations)
      (replies_of (never_behind c es) (asked (entry_of (caller_of_pass p) o x.answer)))
  right =
      let last = comes_last c es e d.whole in
      let st = stands c es d.history in
      let f = one_event c (left c es) (never_behind c es) e st.known
      (told_to_images c (left c es) (never_behind c es) st.known st.all) st.all.mirrors last.on last.admitted in
      cc (decides, f.right [], append-nil (bases_of (world_behind c (left c es) e).allocations), last.leaves)

  decided_as : (a : Option Answer) → x.answer ≡ a → IsDecidedAs p o a (others ++ e ∷ [])
  decided_as x0 is = grind (arith, never, es, before, flagged_same, right, others, decides)

  is_more : q ≡ record p { seen = p.seen ++ (others ++ e ∷ []) }
  is_more = g.makes.is ∙ ap (λ (l : List Event). record p { seen = l }) (sym joint)

  pub one_step : MakesSteps p o (s ∷ []) x.answer q
  one_step = record {
    more = others ++ e ∷ [];
    is = is_more;
    steps = own_step c p.seat (left c p.seen) others s d.others;
    entry =
        ap (λ (l : List Event). own_calls p l) joint
        ∙ ap (λ (l : List Decided). calls_by (caller_of_pass p) l) (calls_more c (first_world c) es e)
        ∙ by_append (caller_of_pass p) (calls c es) (call_decided c (left c es).now e)
        ∙ ap (λ (l : List Decided). l ++ calls_by (caller_of_pass p) (call_decided c (left c es).now e))
        (others_add_none c (caller_of_pass p) p.seen others of_others)
        ∙ ap (λ (l : List Decided). own_calls p p.seen ++ calls_by (caller_of_pass p) l) decides
        ∙ ap (λ (l : List Decided). own_calls p p.seen ++ l) (own_entry (caller_of_pass p) o x.answer);
    decided = decided_as x.answer refl;
  }

  -- and that the call may go on
  pub goes_underway : k < p.table.config.callers → is_under_turn x.flight.op ≡ false
      → (is_past_decision x.flight.stage ≡ false → (x.answer ≡ None) × Admits p x.flight.op)
      → (x.flight.stage ≡ Stage.Dirty → is_word_met p.table.config x.flight ≡ true) → IsUnderway q
  goes_underway exists goes_on next page =
      let whole : IsHistory c (p.seen ++ (others ++ e ∷ [])) = rw joint d.whole in
      let at_last : (h : (x.answer ≡ None) × Admits p x.flight.op)
      → Admits (record p { seen = p.seen ++ (others ++ e ∷ []) }) x.flight.op = λ h.
      let st = stands c p.seen (pass_before g.makes).history in
      let flag = flagged_same x.flight.op Answer.Done goes_on in
      rw flag at (call_on c.globals (never_of p) (never_behind c (p.seen ++ (others ++ e ∷ []))) (caller_of_pass p)
      (never_continues c p.seen (others ++ e ∷ [])) (decided_as None h.0)
      st.all.mirrors.typed x.flight.op (Some Answer.Done) (subst (λ (y : Op). Admits p y) (sym flag) h.1, tt)).0 in
      record {
        pass = g.makes.pass;
        caller = k;
        seat = rw is_more seat;
        exists = rw is_more exists;
        entered = ap (λ (f : Flight). is_under_turn f.op) g.call ∙ goes_on;
        admits = λ undecided. rw (g.call, is_more)
            (at_last (next (ap (λ (f : Flight). is_past_decision f.stage) (sym g.call) ∙ undecided)));
        page = λ dirty. rw (g.call, is_more) (page (ap (λ (f : Flight). f.stage) (sym g.call) ∙ dirty));
      }
