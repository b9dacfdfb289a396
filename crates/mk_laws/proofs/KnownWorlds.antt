-- All that is known of a world after an enabled list, of whatever calls.
use Rattle.mk_laws.proofs.Vocabulary.{AreEnabled, AreOfPages, Config, Event, IsWithinLimits, List, World}
use Rattle.mk_laws.proofs.{Vocabulary.{histories_keep_lengths, left}, Known.{Known, known_left}}

pub record KnownWorld (c : Config) (w : World) : Type 0 where
  pub limits : IsWithinLimits c
  pub now : Known c w.now
  pub lengths : AreOfPages c.pages w.now.words

pub known_world : (c : Config) (es : List Event) → IsWithinLimits c → AreEnabled c es → KnownWorld c (left c es)
known_world c es limits on =
    record { limits = limits; now = known_left c es limits on; lengths = histories_keep_lengths c es }
