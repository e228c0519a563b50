-- `deliver` meets its contract.
use Rattle.alternative_listings.proofs.WritingCases.{lines_short, lines_done}
use Rattle.alternative_listings.proofs.deliver.Goals as goal

pub returns-then-out-size : goal.returns-then-out-size
returns-then-out-size c = lines_short c.measure-size.ensures c.if-out-size.true c.refuse.ensures

pub returns : goal.returns
returns c =
    lines_done c.measure-size.ensures c.if-out-size.false c.put_all.ensures c.count_untold-untold.ensures
