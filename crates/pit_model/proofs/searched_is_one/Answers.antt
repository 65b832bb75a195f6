use Rattle.pit_model.proofs.OneEnd.{searched_is_one}
use Rattle.pit_model.proofs.searched_is_one.Goals as goal

pub returns : goal.returns
returns c = searched_is_one
