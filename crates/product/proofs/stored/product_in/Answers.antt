-- The phase is read of the two words' parts of the store, then the word is laid. Assumes nothing.
use Rattle.store.specs.Part.{part_cut}
use Rattle.product.proofs.stored.product_in.Goals as goal

pub returns : goal.returns
returns c = record {
  store = c.product_word_in.ensures;
  phased = rw (part_cut, part_cut) at c.product_phase-e.ensures;
}
