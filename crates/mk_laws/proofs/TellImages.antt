-- What the zero words tell the images, and the images them.
use Rattle.mk_laws.proofs.Vocabulary.{AreAdmitted, Caller, Config, ImagesSay, IsEnabled, IsWordOfMapped, MayHold}
use Rattle.mk_laws.proofs.Vocabulary.{MayHoldWords, NeverState, OfFreedRun, OfMapped, OfReleased, Seat, Step, World, ℕ}
use Rattle.mk_laws.proofs.Vocabulary.{asked, call_decided, enabled_meets, false≢true, flight_of, inl, inr}
use Rattle.mk_laws.proofs.Vocabulary.{is_heap_store, refl, true, word_met, zero_scene_of, ◌≡◌}
use Rattle.mk_laws.proofs.ZerosTell.{ImagesTellTheZeros, ZerosTellTheImages}
use Rattle.mk_laws.proofs.ImagePremises as images
use Rattle.mk_laws.proofs.ImagesSay as said

pub zeros_tell_the_images : ZerosTellTheImages
zeros_tell_the_images c w z n some = by (z n some)
  where
    by : MayHold c (zero_scene_of w) n → MayHoldWords c w n
    by (OfMapped m) = images.OfMapped m.number m.mapped m.word
    by (OfReleased r) = images.OfReleased r.cell r.pointed r.released
    by (OfFreedRun f) = images.OfFreedRun f.run f.there f.word

mapped_word : {c : Config} {w : World} {n : ℕ} → said.IsMappedWord c w n → IsWordOfMapped c w.allocations n
mapped_word m = record { number = m.number; mapped = m.mapped; word = m.word }

-- Only callers store to the heap.
stored_by : {c : Config} {w : World} {n : NeverState} (seat : Seat) (x : Step) → ImagesSay c w n
    → IsEnabled c w.now (record { seat = seat; step = x })
    → AreAdmitted c.globals n (asked (call_decided c w.now (record { seat = seat; step = x }))) → is_heap_store x ≡ true
    → IsWordOfMapped c w.allocations (word_met (flight_of w.now seat))
stored_by {c} {w} (Caller k) Step.Write say on ad s =
    mapped_word (say.stored k Step.Write (record { step = inl refl; enabled = on; admitted = ad }))
stored_by {c} {w} (Caller k) Step.Cas say on ad s =
    mapped_word (say.stored k Step.Cas (record { step = inr refl; enabled = on; admitted = ad }))
stored_by {c} {w} seat Step.Write say on ad s =
    absurd (false≢true (enabled_meets c w.now (record { seat = seat; step = Step.Write }) on).kind)
stored_by {c} {w} seat Step.Cas say on ad s =
    absurd (false≢true (enabled_meets c w.now (record { seat = seat; step = Step.Cas }) on).kind)
stored_by _ _ say on ad s = absurd (false≢true s)

pub images_tell_the_zeros : ImagesTellTheZeros
images_tell_the_zeros c w n e laid say on ad = record {
  laid_out = laid;
  target = λ cell at. let x = say.target e.seat cell at in record {
    number = x.number;
    unreleased = x.unreleased;
    is = x.cell;
  };
  stored = λ s. stored_by e.seat e.step say on ad s;
}
