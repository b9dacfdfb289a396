-- What an access to a register or to a tally leaves as it is.
use Rattle.std.proofs.Common.{rules}
use Rattle.mk_core.proofs.Vocabulary.{Access, Config, Flight, Load, Named, Store, Tally, Word, Words, ℕ, and_parts}
use Rattle.mk_core.proofs.Vocabulary.{arith, ltb-true, nat_lt, refl, true, ◌<◌, ◌≡◌}
use Rattle.mk_core.specs.Calls.{d_of, g_of, has_operands, has_type, p_of, q_of, r_of}
use Rattle.mk_core.specs.{Accesses.register_met, Accesses.tally_word, Words.accessed, declared.seats.Stage.Stage}

-- all that the words have but the registers and the tallies
pub record LeavesTable (w v : Words) : Type 0 where
  pub phase : v.phase ≡ w.phase
  pub turn : v.turn ≡ w.turn
  pub gates : v.gates ≡ w.gates
  pub globals : v.globals ≡ w.globals
  pub pages : v.pages ≡ w.pages
  pub freed : v.freed ≡ w.freed
  pub snapshot : v.snapshot ≡ w.snapshot
  pub marks : v.marks ≡ w.marks
  pub blacks : v.blacks ≡ w.blacks
  pub dirty : v.dirty ≡ w.dirty
  pub heap : v.heap ≡ w.heap

-- the tallies
pub record LeavesTallies (w v : Words) : Type 0 where
  pub held : v.held ≡ w.held
  pub fresh : v.fresh ≡ w.fresh
  pub cycles : v.cycles ≡ w.cycles
  pub released : v.released ≡ w.released
  pub full : v.full ≡ w.full

-- An access to a register leaves all but the registers,
pub register_leaves : (w : Words) (k r : ℕ) (a : Access) → LeavesTable w (accessed w (Named (Word.Reg k r)) a)
register_leaves w k r Load = search rules
register_leaves w k r _ = search rules

pub register_leaves_tallies : (w : Words) (k r : ℕ) (a : Access) → LeavesTallies w (accessed w (Named (Word.Reg k r)) a)
register_leaves_tallies w k r Load = record { held = refl; fresh = refl; cycles = refl; released = refl; full = refl }
register_leaves_tallies w k r _ = record { held = refl; fresh = refl; cycles = refl; released = refl; full = refl }

-- and one to a tally only the tallies.
pub tally_leaves : (w : Words) (n : Tally) (v : ℕ) → LeavesTable w (accessed w (Named (tally_word n)) (Store v))
tally_leaves w Tally.Held v = search rules
tally_leaves w _ v = search rules

pub tally_leaves_registers : (w : Words) (n : Tally) (v : ℕ)
    → (accessed w (Named (tally_word n)) (Store v)).registers ≡ w.registers
tally_leaves_registers w Tally.Held v = refl
tally_leaves_registers w _ v = refl

-- The register that a `reg` step meets is one of the eight.
pub register_is_small : (c : Config) (f : Flight) (s : Stage) → has_operands c f.op ≡ true → register_met f s < 8
register_is_small c f s h = by f s (
    let d = and_parts _ _ (and_parts _ (nat_lt (g_of f.op) 64) (and_parts _ (has_type c f.op) h).0).0 in
    let r = and_parts _ (nat_lt (r_of f.op) 8) d.0 in
    let p = and_parts (nat_lt (q_of f.op) 8) _ r.0 in
    (ltb-true _ 8 p.0, ltb-true _ 8 p.1, ltb-true _ 8 r.1, ltb-true _ 8 d.1))
  where
    by : (f : Flight) (s : Stage) → (q_of f.op < 8) × (p_of f.op < 8) × (r_of f.op < 8) × (d_of f.op < 8)
        → register_met f s < 8
    by f x1 h = grind arith
