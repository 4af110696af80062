-- The two cases: it is put behind the list, or goes. Assumes nothing.
use Rattle.item_lists.specs.Keep.{kept_goes, kept_stays}
use Rattle.item_lists.proofs.keep_item.Goals as goal

pub returns-then-stays : goal.returns-then-stays
returns-then-stays c = kept_stays c.stays.ensures c.if-stays.true c.put_item.ensures

pub returns : goal.returns
returns c = kept_goes c.stays.ensures c.if-stays.false
