-- The file is what was read.
use Rattle.full_run.proofs.FullRun.of_input.Goals as goal

pub returns : goal.returns
returns g c = (_, c.read_up_to-count.ensures.bytes, c.of.ensures.measured, c.of.ensures.ran)
