use Rattle.mk_words.proofs.Below.Laws.Vocabulary.{None, ◌+◌, ◌≡◌}
use Rattle.mk_marker.specs.Steps.{IsOf, IsScanning, SameScan, ScansOn, words_left}
use Rattle.mk_words.specs.Steps.{marker_in}
use Rattle.mk_marker.proofs.scans.scan_words.Given as goal

abbrev pub invariant-words : goal.invariant-words
invariant-words l = record {
  marker : IsOf l.words l.pass;
  scanning : IsScanning (marker_in l.pass) None;
  cell : SameScan (marker_in l.initial.pass) (marker_in l.pass);
  left : words_left (marker_in l.pass) + l._loaded ≡ l.count;
  goes : ScansOn l.initial.pass l._loaded l.pass;
}
