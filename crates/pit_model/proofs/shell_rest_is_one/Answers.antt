use Rattle.pit_model.proofs.OneEnd.{shell_rest_is_one}
use Rattle.pit_model.proofs.shell_rest_is_one.Goals as goal

pub returns : goal.returns
returns c = shell_rest_is_one
