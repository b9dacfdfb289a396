-- What the law of engines asks on entry, and what a stop keeps of it.
use Rattle.mk_sweep.proofs.Vocabulary.{PassState, Untouched, Words, now_of, untouched_of, world_of}
use Rattle.mk_cycle.proofs.Below.Laws.Vocabulary.{Bool, ap, true, ◌∙◌, ◌≡◌}
use Rattle.mk_cycle.specs.Below.Laws.Theorems.{is_freed_unmapped}
pub use Rattle.mk_cycle.proofs.TracedMarks.{ready_of}

unmapped_as : Words → Untouched → Bool
unmapped_as w x = is_freed_unmapped (record w { pages = x.steady.pages }) x.done.freed

pub unmapped_kept : (p q : PassState) → untouched_of (world_of q) ≡ untouched_of (world_of p)
    → is_freed_unmapped (now_of p).words (now_of p).seats.holding.freed ≡ true
    → is_freed_unmapped (now_of q).words (now_of q).seats.holding.freed ≡ true
unfolding unmapped_as
unmapped_kept p q same unmapped = ap (unmapped_as (now_of q).words) same ∙ unmapped
