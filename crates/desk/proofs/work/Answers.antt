-- `work` meets its contract: its arrays have room. Assumes nothing.
use Rattle.std.proofs.Common.{arith}
use Rattle.desk.specs.ServedLaws.{served-work, served-answered}
use Rattle.desk.proofs.work.Goals as goal

pub returns : goal.returns
returns g c =
    let served = c.serve.ensures in
    record {
      worked = served-work served.served (record { for_table = omega arith; for_steps = omega arith; for_answers = omega arith; for_out = omega arith }) (omega arith);
      answered =
          served-answered served.served (record { for_table = omega arith; for_steps = omega arith; for_answers = omega arith; for_out = omega arith })
          c.serve.result.ended c.serve.result.written _ _ _ (omega arith) served.input served.output;
    }
