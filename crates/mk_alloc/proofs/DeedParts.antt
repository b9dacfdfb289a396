-- Where in a history a deed of it was done.
use Rattle.mk_core.{specs.{History.left_from, Cycles.{is_begin, is_give}}, proofs.Histories.{left_append}}
use Rattle.mk_alloc.proofs.QuarantineVocabulary.{Bool, Caller, Config, Event, Flight, Host, List, Marker, None, Option}
use Rattle.mk_alloc.proofs.QuarantineVocabulary.{Seat, Some, Step, World, ap, append_assoc, false, flight_of, inl, inr}
use Rattle.mk_alloc.proofs.QuarantineVocabulary.{list_any, list_any-append, or_from, refl, sym, true, world_behind, []}
use Rattle.mk_alloc.proofs.QuarantineVocabulary.{⊎_elim, ◌++◌, ◌||◌, ◌∙◌, ◌∷◌, Cell, cell_freed, has_step, ◌≡◌, ◌⊎◌}
use Rattle.mk_alloc.proofs.Vocabulary.{asked, call_decided, map, or_left}
use Rattle.std.proofs.lemmas.Bool.{or_right}
use Rattle.mk_never.specs.NeverHeap.{Call}
use Rattle.mk_alloc.specs.Deeds.{Deed, begins_cycle, ends_turn, deeds_by, deeds_from, done_by, frees_at}

-- A deed of a list in two parts is one of the first, or of the second.

record InFirst (xs ys before : List Deed) (d : Deed) (behind : List Deed) : Type 0 where
  pub rest : List Deed
  pub is : xs ≡ before ++ d ∷ rest

record InSecond (xs ys before : List Deed) (d : Deed) (behind : List Deed) : Type 0 where
  pub rest : List Deed
  pub first : before ≡ xs ++ rest
  pub is : ys ≡ rest ++ d ∷ behind

in_parts : (xs ys before : List Deed) (d : Deed) (behind : List Deed) → xs ++ ys ≡ before ++ d ∷ behind
    → InFirst xs ys before d behind ⊎ InSecond xs ys before d behind
in_parts [] ys before d behind h = inr (record { rest = before; first = refl; is = h })
in_parts (x ∷ xs) ys [] d behind h =
    let head : x ≡ d = cc in
    inl (record { rest = xs; is = ap (λ (y : Deed). y ∷ xs) head })
in_parts (x ∷ xs) ys (b ∷ bs) d behind h =
    let head : x ≡ b = cc in
    let tail : xs ++ ys ≡ bs ++ d ∷ behind = cc in
    ⊎_elim (λ (t : InFirst xs ys bs d behind). inl (record {
      rest = t.rest;
      is = ap (λ (y : Deed). y ∷ xs) head ∙ ap (λ (l : List Deed). b ∷ l) t.is;
    })) (λ (t : InSecond xs ys bs d behind). inr (record {
      rest = t.rest;
      first = ap (λ (y : Deed). y ∷ bs) (sym head) ∙ ap (λ (l : List Deed). x ∷ l) t.first;
      is = t.is;
    })) (in_parts xs ys bs d behind tail)

-- It was done by an event.
pub record DoneAt (c : Config) (w : World) (es : List Event) (front : List Deed) (d : Deed) : Type 0 where
  pub before : List Event
  pub event : Event
  pub behind : List Event
  pub is : es ≡ before ++ event ∷ behind
  pub first : List Deed
  pub rest : List Deed
  pub by : deeds_by c (left_from c w before) event ≡ first ++ d ∷ rest
  pub front_is : front ≡ deeds_from c w before ++ first

pub done_at : (c : Config) (w : World) (es : List Event) (front : List Deed) (d : Deed) (more : List Deed)
    → deeds_from c w es ≡ front ++ d ∷ more → DoneAt c w es front d
unfolding deeds_from left_from
done_at c w [] [] d more h = cc
done_at c w [] (x ∷ front) d more h = cc
done_at c w (e ∷ es) front d more h =
    ⊎_elim (λ (t : InFirst (deeds_by c w e) (deeds_from c (world_behind c w e) es) front d more). record {
      before = [];
      event = e;
      behind = es;
      is = refl;
      first = front;
      rest = t.rest;
      by = t.is;
      front_is = refl;
    }) (λ (t : InSecond (deeds_by c w e) (deeds_from c (world_behind c w e) es) front d more).
    let r = done_at c (world_behind c w e) es t.rest d more t.is in record {
      before = e ∷ r.before;
      event = r.event;
      behind = r.behind;
      is = ap (λ (l : List Event). e ∷ l) r.is;
      first = r.first;
      rest = r.rest;
      by = r.by;
      front_is = t.first ∙ ap (λ (l : List Deed). deeds_by c w e ++ l) r.front_is
          ∙ sym (append_assoc (deeds_by c w e) (deeds_from c (world_behind c w e) r.before) r.first);
    }) (in_parts (deeds_by c w e) (deeds_from c (world_behind c w e) es) front d more h)

-- the deeds of two lists of events
pub deeds_append : (c : Config) (w : World) (xs ys : List Event)
    → deeds_from c w (xs ++ ys) ≡ deeds_from c w xs ++ deeds_from c (left_from c w xs) ys
unfolding deeds_from left_from
deeds_append c w [] ys = refl
deeds_append c w (e ∷ xs) ys =
    ap (λ (l : List Deed). deeds_by c w e ++ l) (deeds_append c (world_behind c w e) xs ys)
    ∙ sym (append_assoc (deeds_by c w e) (deeds_from c (world_behind c w e) xs)
    (deeds_from c (left_from c (world_behind c w e) xs) ys))

-- Kinds of deeds

-- no call is of a kind that no Asked is of
none_asked : (test : Deed → Bool) → ((x : Call) → test (Deed.Asked x) ≡ false) → (calls : List Call)
    → list_any test (map Deed.Asked calls) ≡ false
none_asked test none [] = refl
none_asked test none (x ∷ calls) = or_from _ _ (none x) (none_asked test none calls)

-- so an event has deeds of the kind by its step
by_step : (test : Deed → Bool) → ((x : Call) → test (Deed.Asked x) ≡ false) → (c : Config) (w : World) (e : Event)
    → list_any test (deeds_by c w e) ≡ list_any test (done_by c w (flight_of w.now e.seat) e.step)
by_step test none c w e =
    list_any-append test (map Deed.Asked (asked (call_decided c w.now e))) _
    ∙ ap (λ (b : Bool). b || list_any test (done_by c w (flight_of w.now e.seat) e.step))
    (none_asked test none (asked (call_decided c w.now e)))

-- A test of deeds is one of steps.
abbrev pub IsOfStep : (Deed → Bool) → (Step → Bool) → Type 0
IsOfStep test kind = (c : Config) (w : World) (e : Event) → list_any test (deeds_by c w e) ≡ kind e.step

ends_by : (c : Config) (w : World) (f : Flight) (x : Step) → list_any ends_turn (done_by c w f x) ≡ is_give x
ends_by c w f (Step.Quar p v) = frees (cell_freed c.pages w.now.words f p v)
  where
    frees : (cell : Option Cell) → list_any ends_turn (frees_at w.now.words cell) ≡ false
    frees None = refl
    frees (Some cell) = refl
ends_by c w f _ = refl

pub ends_at_gives : IsOfStep ends_turn is_give
ends_at_gives c w e = by_step ends_turn (λ x. refl) c w e ∙ ends_by c w (flight_of w.now e.seat) e.step

begins_by : (c : Config) (w : World) (f : Flight) (x : Step) → list_any begins_cycle (done_by c w f x) ≡ is_begin x
begins_by c w f (Step.Quar p v) = frees (cell_freed c.pages w.now.words f p v)
  where
    frees : (cell : Option Cell) → list_any begins_cycle (frees_at w.now.words cell) ≡ false
    frees None = refl
    frees (Some cell) = refl
begins_by c w f _ = refl

pub begins_at_begins : IsOfStep begins_cycle is_begin
begins_at_begins c w e = by_step begins_cycle (λ x. refl) c w e ∙ begins_by c w (flight_of w.now e.seat) e.step

pub of_steps : (test : Deed → Bool) (kind : Step → Bool) → IsOfStep test kind → (c : Config) (w : World)
    (es : List Event) → list_any test (deeds_from c w es) ≡ has_step kind es
unfolding deeds_from
of_steps test kind of c w [] = refl
of_steps test kind of c w (e ∷ es) =
    list_any-append test (deeds_by c w e) (deeds_from c (world_behind c w e) es)
    ∙ ap (λ (b : Bool). b || list_any test (deeds_from c (world_behind c w e) es)) (of c w e)
    ∙ ap (λ (b : Bool). kind e.step || b) (of_steps test kind of c (world_behind c w e) es)

-- a deed that stands in a list is one of its kind
pub stands_in : (test : Deed → Bool) (front : List Deed) (d : Deed) (more : List Deed) → test d ≡ true
    → list_any test (front ++ d ∷ more) ≡ true
stands_in test front d more is =
    list_any-append test front (d ∷ more) ∙ or_right _ _ (or_left (test d) (list_any test more) is)

-- The deed of an event that does one.
pub deeds_at : (c : Config) (w : World) (es before : List Event) (e : Event) (behind : List Event) (d : Deed)
    → es ≡ before ++ e ∷ behind → deeds_by c (left_from c w before) e ≡ d ∷ []
    → deeds_from c w es ≡ deeds_from c w before ++ d ∷ deeds_from c (left_from c w (before ++ e ∷ [])) behind
unfolding deeds_from left_from
deeds_at c w es before e behind d is by =
    ap (λ (l : List Event). deeds_from c w l) is ∙ deeds_append c w before (e ∷ behind)
    ∙ ap (λ (l : List Deed). deeds_from c w before ++ (l ++ deeds_from c (world_behind c (left_from c w before) e)
    behind)) by
    ∙ ap (λ (v : World). deeds_from c w before ++ d ∷ deeds_from c v behind) (sym (left_append c w before (e ∷ [])))

-- the kinds of step that decide no call, and do one deed

abbrev pub does_one : Step → Bool
does_one Step.Begin = true
does_one Step.Release = true
does_one Step.End = true
does_one Step.Give = true
does_one _ = false

pub done_alone : (c : Config) (w : World) (seat : Seat) (x : Step) → does_one x ≡ true
    → deeds_by c w (record { seat = seat; step = x })
    ≡ done_by c w (flight_of w.now seat) x
done_alone c w (Caller k) Step.Begin one = refl
done_alone c w (Marker k) Step.Begin one = refl
done_alone c w Host Step.Begin one = refl
done_alone c w (Caller k) Step.Release one = refl
done_alone c w (Marker k) Step.Release one = refl
done_alone c w Host Step.Release one = refl
done_alone c w (Caller k) Step.End one = refl
done_alone c w (Marker k) Step.End one = refl
done_alone c w Host Step.End one = refl
done_alone c w (Caller k) Step.Give one = refl
done_alone c w (Marker k) Step.Give one = refl
done_alone c w Host Step.Give one = refl
done_alone c w seat _ one = cc
