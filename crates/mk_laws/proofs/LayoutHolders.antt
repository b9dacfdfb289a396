-- Who serves: the holder of the turn, its object, and how far it is.
use Rattle.mk_laws.proofs.Vocabulary.{Caller, Config, IsSized, IsWithinLimits, Moment, None, Object, RunPages, Seat}
use Rattle.mk_laws.proofs.Vocabulary.{Some, Stage, Step, arith, flight_of, has_operands, has_place, header_made}
use Rattle.mk_laws.proofs.Vocabulary.{is_undecided_free, is_undecided_new, ltb-true, made_shows, object_made}
use Rattle.mk_laws.proofs.Vocabulary.{object_now, pages_some, part_not_free, refl, seat_exists, sym, true, ◌-◌, ◌∙◌}
use Rattle.mk_laws.proofs.Vocabulary.{◌≡◌, ◌≢◌}
use Rattle.mk_core.proofs.GrantedAllocations.{new_sized}
use Rattle.mk_laws.proofs.{Actors.Actor, Actors.Meets, Actors.is_holders, Known.Known, Orderly.holders_flight}
use Rattle.mk_laws.proofs.{OrderlyLists.actor_of, Stages.new_stands, Views.HoldsTurn, Views.flight_is, Views.view_of}

pub new_has_turn : (c : Config) (m : Moment) (seat : Seat) → seat_exists c seat ≡ true
    → is_undecided_new (flight_of m seat) ≡ true → HoldsTurn c (view_of m) seat
new_has_turn c m (Caller k) there u = (ltb-true k c.callers there, new_stands _ _ u)
new_has_turn c m _ there u = cc

pub free_has_turn : (c : Config) (m : Moment) (seat : Seat) → seat_exists c seat ≡ true
    → is_undecided_free (flight_of m seat) ≡ true → HoldsTurn c (view_of m) seat
free_has_turn c m (Caller k) there u = grind (arith, ltb-true)
free_has_turn c m _ there u = cc

-- So does a seat whose step is of a holder's kind.

pub acts_as_holder : (c : Config) (m : Moment) (seat : Seat) (x : Step) → Actor c m seat x → is_holders x ≡ true
    → HoldsTurn c (view_of m) seat
acts_as_holder c m seat x x4 is = grind arith

pub giver_has_turn : (c : Config) (m : Moment) (seat : Seat) → Known c m → Meets c m seat Step.Give
    → HoldsTurn c (view_of m) seat
giver_has_turn c m seat known h = acts_as_holder c m seat Step.Give (actor_of c m seat Step.Give known.orderly h) refl

-- The call that the turn word names is the seat's.
pub holding_flight : {c : Config} {m : Moment} (seat : Seat) → Known c m → HoldsTurn c (view_of m) seat
    → flight_of m (Caller (m.words.turn - 1)) ≡ flight_of m seat
holding_flight {c} {m} seat known t = holders_flight seat known.orderly t ∙ sym (flight_is m seat)

pub holding_object : (c : Config) (m : Moment) (seat : Seat) → Known c m → HoldsTurn c (view_of m) seat
    → object_now c m ≡ object_made c (flight_of m seat).op
holding_object c m seat known t = rw (holding_flight seat known t)

pub no_run : (c : Config) (m : Moment) (seat : Seat) → Known c m → HoldsTurn c (view_of m) seat
    → (flight_of m seat).stage ≡ Stage.Turn → (run : RunPages) → m.seats.holding.freed ≡ Some run → ⊥
no_run c m seat known t at run is = grind (arith, holding_flight)

pub none_on_its_way : (c : Config) (m : Moment) (seat : Seat) → Known c m → HoldsTurn c (view_of m) seat
    → (flight_of m seat).stage ≡ Stage.Turn → m.seats.holding.freed ≡ None
none_on_its_way c m seat known t at = grind (arith, no_run)

pub placed_undecided : (c : Config) (m : Moment) (seat : Seat) → Known c m → HoldsTurn c (view_of m) seat
    → has_place m.seats.holding.placing ≡ true → is_undecided_new (flight_of m seat) ≡ true
placed_undecided c m seat known t has = rw (← (holding_flight seat known t)) (known.orderly.served.placed has)

-- The operands of a seat's call are in range, so a New makes an object of 1 to 4,096 words.
pub seat_operands : (c : Config) (m : Moment) (seat : Seat) → Known c m → has_operands c (flight_of m seat).op ≡ true
seat_operands c m (Caller k) known = known.operands k
seat_operands c m _ known = refl

pub made_sized : (c : Config) (m : Moment) (seat : Seat) → IsWithinLimits c → Known c m
    → is_undecided_new (flight_of m seat) ≡ true → IsSized (object_made c (flight_of m seat).op)
made_sized c m seat limits known u = new_sized c (flight_of m seat) limits u (seat_operands c m seat known)

pub first_header : (o : Object) → IsSized o → header_made o 0 ≢ 0
first_header o sized = part_not_free o 0 _ (made_shows o 0 sized (let some = pages_some o sized in omega arith))
