-- What a caller's call needs at each of its steps.
use Rattle.mk_heap.proofs.Below.Laws.Vocabulary.{Answer, Caller, Config, Event, Flight, Group, IsAdmitted, IsHistory}
use Rattle.mk_heap.proofs.Below.Laws.Vocabulary.{List, None}
use Rattle.mk_heap.proofs.Below.Laws.Vocabulary.{Op, Progress, Step, ℕ, ap, append-nil, append_assoc, at_rest, begun}
use Rattle.mk_heap.proofs.Below.Laws.Vocabulary.{caller_number, comes_next, flagged, group_of, is_in_range}
use Rattle.mk_heap.proofs.Below.Laws.Vocabulary.{never_behind, refl}
use Rattle.mk_heap.proofs.Below.Laws.Vocabulary.{subst, sym, true, [], ◌++◌, ◌<◌, ◌∙◌, ◌∷◌, ◌≡◌}
use Rattle.mk_heap.specs.Below.Words.Steps.{Goes, IsAdmittedTo, IsEnabledTo, Makes}
use Rattle.mk_heap.specs.Below.Words.States.{PassState, WordsState, call_of, event_of}
use Rattle.mk_clients.proofs.{Admitting.op_step, Enabling.call_step}
use Rattle.mk_clients.specs.Clients.{IsCallers, StaysAdmitted}

-- A caller is in a call of the operation, which is here, and stays admitted.
pub record IsMidCall (p : PassState) (o : Op) (f : Flight) : Type 0 where
  pub number : ℕ
  pub seat : p.seat ≡ Caller number
  pub within : number < p.table.config.callers
  pub call : call_of p ≡ f
  pub admitted : StaysAdmitted p o

behind : (p : PassState) (others : List Event) (e : Event) (o : Op) → StaysAdmitted p o
    → StaysAdmitted (record p { seen = p.seen ++ others ++ e ∷ [] }) o
behind p others e o stays more h =
    let c : Config = p.table.config in
    let mid : List Event = others ++ e ∷ [] in
    let same : (p.seen ++ others ++ e ∷ []) ++ more ≡ p.seen ++ (mid ++ more) =
    ap (λ (es : List Event). es ++ more) (append_assoc p.seen others (e ∷ [])) ∙ append_assoc p.seen mid more in
    subst (λ (es : List Event). IsAdmitted c.globals (never_behind c es) (caller_number p.seat) o) (sym same)
    (stays (mid ++ more) (subst (λ (es : List Event). IsHistory c es) same h))

pub stays_on : {p q : PassState} {s : Step} (o : Op) → Makes p s q → StaysAdmitted p o → StaysAdmitted q o
stays_on {p} {s} o m stays =
    subst (λ (x : PassState). StaysAdmitted x o) (sym m.is) (behind p m.others (event_of p s) o stays)

pub admitted_now : (p : PassState) (o : Op) (f : Flight) (s : Step) → IsMidCall p o f → f.op ≡ o
    → IsHistory p.table.config p.seen → ((a : Answer) → flagged o a ≡ o) → IsAdmittedTo p s
admitted_now p o f s i op_is h plain =
    let c : Config = p.table.config in
    let same : p.seen ++ [] ≡ p.seen = append-nil p.seen in
    let here = subst (λ (es : List Event). IsAdmitted c.globals (never_behind c es) (caller_number p.seat) o) same
    (i.admitted [] (subst (λ (es : List Event). IsHistory c es) (sym same) h)) in
    op_step p s h (λ a. subst (λ (x : Op). IsAdmitted c.globals (never_behind c p.seen) (caller_number p.seat) x)
    (sym (ap (λ (y : Op). flagged y a) (ap (λ (y : Flight). y.op) i.call ∙ op_is) ∙ plain a)) here)

pub next_may : (p : PassState) (o : Op) (f : Flight) (s : Step) → IsMidCall p o f → group_of s ≡ Group.Callers
    → comes_next f.stage f.op s ≡ true → ((k : ℕ) → is_in_range p.table.config (Caller k) f s ≡ true) → IsEnabledTo p s
next_may p o f s i kind next range = call_step p s i.number f i.seat i.within i.call kind next (range i.number)

pub goes_on : (p q : PassState) (s : Step) (x : Progress) (o : Op) (f g : Flight) → IsMidCall p o f → Goes p s x q
    → x.flight ≡ g → IsMidCall q o g
goes_on p q s x o f g i goes is = record {
  number = i.number;
  seat = ap (λ (r : PassState). r.seat) goes.makes.is ∙ i.seat;
  within = subst (λ (t : WordsState). i.number < t.config.callers)
      (sym (ap (λ (r : PassState). r.table) goes.makes.is)) i.within;
  call = goes.call ∙ is;
  admitted = stays_on o goes.makes i.admitted;
}

pub enters : {p : PassState} (q : PassState) (o : Op) → IsCallers p → StaysAdmitted p o
    → Goes p (Step.Enter o) (record { flight = begun o; answer = None }) q → IsMidCall q o (begun o)
enters {p} q o i stays goes =
    goes_on p q (Step.Enter o) _ o at_rest (begun o)
    (record { number = i.number; seat = i.seat; within = i.within; call = i.rests; admitted = stays }) goes refl

pub ends : {p : PassState} (q : PassState) {o : Op} {f : Flight} → IsMidCall p o f
    → Goes p Step.Leave (record { flight = at_rest; answer = None }) q → IsCallers q
ends {p} q {o = o} {f = f} i goes =
    let at = goes_on p q Step.Leave _ o f at_rest i goes refl in
    record { number = at.number; seat = at.seat; within = at.within; rests = at.call }
