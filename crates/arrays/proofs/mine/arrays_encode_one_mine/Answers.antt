-- Each place lies in one row.
use Rattle.arrays.proofs.OneMine.{arrays_encode_one_mine}
use Rattle.arrays.proofs.mine.arrays_encode_one_mine.Goals as goal

pub returns : goal.returns
returns c = arrays_encode_one_mine
