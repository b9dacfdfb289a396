use Rattle.mk_books.proofs.runs.move_word.Goals as goal

pub returns : goal.returns
returns c = record {
  first = c.put_bits.new.sets;
  second = c.put_bits-2.new.sets;
  into_free = c.put_bits.ensures;
  out_of_use = c.put_bits-2.ensures;
  into_uncleaned = c.put_bits-3.ensures;
}
