-- `is_untold` meets its contract.
use Rattle.alternative_texts.proofs.Counting.{told_few}
use Rattle.alternative_texts.proofs.showing.is_untold.Goals as goal

pub returns : goal.returns
returns c = told_few c.show_test-shown.ensures
